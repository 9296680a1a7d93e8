-- Calls on one book, the orders that remain of them, and what it is that a book holds exactly these (demand 3). Assumes nothing: these are
-- definitions.
use Rattle.std.specs.Prelude.{ℕ, suc, ◌+◌, ◌-◌, ◌≡◌, List, [], ◌∷◌, ◌++◌, eqb, length, replicate}
use Rattle.words.specs.Base.{when◌then◌else◌, same_words, ◌∈◌}
use Rattle.figures.specs.Numbers.{done}
use Rattle.figures.specs.Answers.{answered}
use Rattle.section.specs.Entries.{Entry, count_of}
use Rattle.order.specs.Trees.{Tree, words}
use Rattle.order.specs.Reading.{by_found, tree_of}
use Rattle.order.specs.Fits.{IsOrder}
use Rattle.order.specs.Paper.{IsR, IsL, IsP}
use Rattle.book.specs.Book.{Book, live}
use Rattle.book.specs.Decoding.{book_in}
use Rattle.book.specs.Sound.{IsBook}
use Rattle.book.specs.Taught.{taught, book_of}
use Rattle.book.specs.Opening.{Outcome}
use Rattle.book_teaching.specs.Calls.{teach_of, withdraw_of}
use Rattle.book_joining.specs.Joining.{join_of}

-- ---- calls

-- A call on the book, with any words as its order, or, in joining, as the other book.
pub data Call : Type 0 where
  teach : List ℕ → Call
  withdraw : List ℕ → Call
  join : List ℕ → Call

-- What it answers, and the words then.
abbrev pub outcome_of : Call → List ℕ → Outcome
outcome_of (teach os) ws = teach_of ws os
outcome_of (withdraw os) ws = withdraw_of ws os
outcome_of (join vs) ws = join_of ws vs

-- The words after calls, one after the other, by what answers them.
unfoldable pub after_by : (Call → List ℕ → Outcome) → List Call → List ℕ → List ℕ
after_by answers [] ws = ws
after_by answers (c ∷ cs) ws = after_by answers cs (answers c ws).words

-- The words after calls that are answered as here.
abbrev pub after : List Call → List ℕ → List ℕ
after = after_by outcome_of

-- ---- the orders that remain

-- The orders that a section T counts, each as often as it counts.
unfoldable pub orders_in : List Entry → List (List ℕ)
orders_in [] = []
orders_in (e ∷ es) = replicate e.count e.key ++ orders_in es

-- The orders with one such less.
unfoldable pub without : List ℕ → List (List ℕ) → List (List ℕ)
without os [] = []
without os (p ∷ ps) = when same_words p os then ps else p ∷ without os ps

-- The orders that remain after a call, by the number that it answers: a teaching that is done is one order more, a withdrawal that is done
-- one such less, and a joining that is done the orders of the other book more: "demand 3 counts the joined orders as taught". A refused call changes
-- nothing.
abbrev pub remain_by : Call → ℕ → List (List ℕ) → List (List ℕ)
remain_by (teach os) n orders = when eqb n done then os ∷ orders else orders
remain_by (withdraw os) n orders = when eqb n done then without os orders else orders
remain_by (join vs) n orders = when eqb n done then orders_in (book_in vs).T ++ orders else orders

-- The orders that remain after calls, each as often as it remains, by what answers them.
unfoldable pub remaining_by : (Call → List ℕ → Outcome) → List Call → List ℕ → List (List ℕ) → List (List ℕ)
remaining_by answers [] ws orders = orders
remaining_by answers (c ∷ cs) ws orders = remaining_by answers cs (answers c ws).words (remain_by c (answers c ws).answer.number orders)

-- The orders that remain after calls that are answered as here.
abbrev pub remaining : List Call → List ℕ → List (List ℕ) → List (List ℕ)
remaining = remaining_by outcome_of

-- ---- teaching just these

-- How often an order stands among orders.
unfoldable pub times_of : List ℕ → List (List ℕ) → ℕ
times_of os [] = 0
times_of os (p ∷ ps) = (when same_words p os then 1 else 0) + times_of os ps

-- The same orders, "each as often as it remains, in whichever order".
abbrev pub SameOrders : List (List ℕ) → List (List ℕ) → Type 0
SameOrders ps qs = (os : List ℕ) → times_of os ps ≡ times_of os qs

-- The words once orders are taught, one after the other.
unfoldable pub taught_all : List (List ℕ) → List ℕ → List ℕ
taught_all [] ws = ws
taught_all (os ∷ rest) ws = taught_all rest (teach_of ws os).words

-- "none of those teachings is refused"
unfoldable pub NoneRefused : List (List ℕ) → List ℕ → Type 0
NoneRefused [] ws = Unit {0}
NoneRefused (os ∷ rest) ws = ((teach_of ws os).answer ≡ answered done) × NoneRefused rest (teach_of ws os).words

-- The book of these orders, one teaching for each as often as it stands there; words of no tree count nothing.
unfoldable pub booked : ℕ → List (List ℕ) → Book
booked k [] = book_of k []
booked k (os ∷ rest) = by_found (tree_of os) (booked k rest) (λ t. taught 1 t (booked k rest))

-- ---- parts and counts

-- So many members of a list have a property.
pub data HowMany {A : Type 0} (Q : A → Type 0) : List A → ℕ → Type 0 where
  none_left : HowMany Q [] 0
  one_more : {a : A} {l : List A} {n : ℕ} → Q a → HowMany Q l n → HowMany Q (a ∷ l) (suc n)
  not_this : {a : A} {l : List A} {n : ℕ} → (Q a → ⊥) → HowMany Q l n → HowMany Q (a ∷ l) n

-- The words are an order within limits that has the part u: its r, one of its l, or one of its p, by document 000.
pub record HasPart (Part : Tree → Tree → Type 0) (u : Tree) (os : List ℕ) : Type 0 where
  pub tree : Tree
  pub is_order : IsOrder os tree
  pub part : Part tree u

-- "Its parts and counts are exactly those of the orders that remain": the words are a book in form of that k, with as many live teachings as
-- there are orders; T counts each order as often as it stands among them; and R, L and P count each tree by how many of them have it as their
-- top, as a low part and as a middle part, "once per teaching however often it occurs in it".
pub record ExactlyThese (k : ℕ) (orders : List (List ℕ)) (ws : List ℕ) : Type 0 where
  pub book : Book
  pub is_book : IsBook ws book
  pub depth : book.k ≡ k
  pub lives : live book ≡ length orders
  pub taught : (u : Tree) → HowMany (λ os. os ≡ words u) orders (count_of (words u) book.T)
  pub tops : (u : Tree) → HowMany (HasPart (IsR (k - 1)) u) orders (count_of (words u) book.R)
  pub lows : (u : Tree) → HowMany (HasPart (IsL (k - 1)) u) orders (count_of (words u) book.L)
  pub middles : (u : Tree) → HowMany (HasPart (IsP k) u) orders (count_of (words u) book.P)

-- ---- an order by the orders that remain

-- One of the orders has the part.
pub record SomeHas (Part : Tree → Tree → Type 0) (u : Tree) (orders : List (List ℕ)) : Type 0 where
  pub one : List ℕ
  pub among : one ∈ orders
  pub has : HasPart Part u one

-- "A new order made only of parts the book has seen": its top is the top of one of the orders, each of its low parts a low part of one, and each
-- of its middle parts a middle part of one.
pub record MadeOf (k : ℕ) (orders : List (List ℕ)) (t : Tree) : Type 0 where
  pub top : (u : Tree) → IsR (k - 1) t u → SomeHas (IsR (k - 1)) u orders
  pub lows : (u : Tree) → IsL (k - 1) t u → SomeHas (IsL (k - 1)) u orders
  pub middles : (u : Tree) → IsP k t u → SomeHas (IsP k) u orders
