-- That what demand 3 is said with is no less than its words: the same orders in whichever order, as often as each remains, none refused, and
-- the orders that remain after any sequence by what its last call does, and a file's orders by what its T counts. Assumes nothing.
use Prim.Native.Nat.{ℕ, zero, suc, ◌+◌, ◌≤◌}
use mathlib.Core.Path.{◌≡◌, refl, sym, ◌∙◌}
use mathlib.Core.Bool.{Bool, true, false}
use mathlib.Core.List.{List, [], ◌∷◌, ◌++◌}
use native.Mathlib.Omega.{arith}
use lib.ListN.{replicate}
use Rattle.words.specs.Base.{when◌then◌else◌, same_words}
use Rattle.words.proofs.Tests.{same-words, words_same}
use Rattle.figures.specs.Numbers.{done}
use Rattle.figures.specs.Answers.{answered}
use Rattle.section.specs.Entries.{Entry, counts_for, count_of}
use Rattle.book.specs.Opening.{Outcome}
use Rattle.book_teaching.specs.Calls.{teach_of}
use Rattle.promises.specs.Remaining.{Call, outcome_of, after_by, after, orders_in, without, remain_by, remaining_by, remaining, times_of, SameOrders, taught_all, NoneRefused}
use Rattle.promises.proofs.Laws.Orders.{times-without}

-- ---- "in whichever order"

-- An order stands among two lists as often as in both.
times-both : (os : List ℕ) (ps qs : List (List ℕ)) → times_of os (ps ++ qs) ≡ times_of os ps + times_of os qs
unfolding times_of
times-both os [] qs = omega arith
times-both os (p ∷ ps) qs = omega (arith, times-both os ps qs)

-- Orders are the same orders whichever of two neighbours comes first.
pub neighbours_exchanged : (ps qs : List (List ℕ)) (a b : List ℕ) → SameOrders (ps ++ (a ∷ b ∷ qs)) (ps ++ (b ∷ a ∷ qs))
unfolding times_of
neighbours_exchanged ps qs a b os = omega (arith, times-both os ps (a ∷ b ∷ qs), times-both os ps (b ∷ a ∷ qs))

-- Orders are the same as themselves.
pub same-orders : (ps : List (List ℕ)) → SameOrders ps ps
same-orders ps os = refl

-- Orders that are the same as others are so by way of a third list.
pub exchanged_again : (ps qs rs : List (List ℕ)) → SameOrders ps qs → SameOrders qs rs → SameOrders ps rs
exchanged_again ps qs rs e f os = e os ∙ f os

-- Orders rearranged: as they are, two neighbours exchanged anywhere, or one rearrangement and then another.
pub data Rearranged : List (List ℕ) → List (List ℕ) → Type 0 where
  as_they_are : (ps : List (List ℕ)) → Rearranged ps ps
  exchanged : (ps qs : List (List ℕ)) (a b : List ℕ) → Rearranged (ps ++ (a ∷ b ∷ qs)) (ps ++ (b ∷ a ∷ qs))
  and_then : {ps qs rs : List (List ℕ)} → Rearranged ps qs → Rearranged qs rs → Rearranged ps rs

-- However they are rearranged, they are the same orders.
pub rearranged_same : {ps qs : List (List ℕ)} → Rearranged ps qs → SameOrders ps qs
rearranged_same (as_they_are ps) = same-orders ps
rearranged_same (exchanged ps qs a b) = neighbours_exchanged ps qs a b
rearranged_same (and_then {ps} {qs} {rs} r s) = exchanged_again ps qs rs (rearranged_same r) (rearranged_same s)

-- Orders behind the same first one are rearranged as they are without it.
behind-first : (p : List ℕ) {ps qs : List (List ℕ)} → Rearranged ps qs → Rearranged (p ∷ ps) (p ∷ qs)
behind-first p (as_they_are ps) = as_they_are (p ∷ ps)
behind-first p (exchanged ps qs a b) = exchanged (p ∷ ps) qs a b
behind-first p (and_then r s) = and_then (behind-first p r) (behind-first p s)

-- An order that stands among orders can be brought to their front.
from_front : (os : List ℕ) (orders : List (List ℕ)) → 1 ≤ times_of os orders → Rearranged (os ∷ without os orders) orders
unfolding without times_of when◌then◌else◌
from_front os [] h = absurd (omega arith)
from_front os (q ∷ qs) h = go (same_words q os) refl (from_front os qs)
  where
    -- By whether the first is such an order.
    go : (b : Bool) → same_words q os ≡ b → (1 ≤ times_of os qs → Rearranged (os ∷ without os qs) qs) → Rearranged (os ∷ (when b then qs else q ∷ without os qs)) (q ∷ qs)
    go true e next = rw (words_same q os e) (as_they_are (os ∷ qs))
    go false e next =
        let i : 1 ≤ 0 + times_of os qs = rw e at h in
        and_then (exchanged [] (without os qs) os q) (behind-first q (next (omega arith)))

-- The same orders are some rearrangement of one another: "in whichever order" is neither more nor less than that.
pub same-rearranged : (ps qs : List (List ℕ)) → SameOrders ps qs → Rearranged ps qs
unfolding times_of when◌then◌else◌
same-rearranged [] [] e = as_they_are []
same-rearranged [] (q ∷ qs) e =
    let one : times_of q (q ∷ qs) ≡ 1 + times_of q qs = rw (same-words q) refl in
    let none : times_of q (q ∷ qs) ≡ 0 = sym (e q) in
    absurd (omega (arith, one, none))
same-rearranged (p ∷ ps) qs e =
    let one : times_of p (p ∷ ps) ≡ 1 + times_of p ps = rw (same-words p) refl in
    let all : times_of p (p ∷ ps) ≡ times_of p qs = e p in
    let stands : 1 ≤ times_of p qs = omega (arith, one, all) in
    and_then (behind-first p (same-rearranged ps (without p qs) (λ os. omega (arith, e os, times-without p os qs stands)))) (from_front p qs stands)

-- ---- "each as often as it remains"

-- Orders with one more are not the same orders.
pub not_once_more : (os : List ℕ) (ps : List (List ℕ)) → SameOrders (os ∷ ps) ps → ⊥
unfolding times_of when◌then◌else◌
not_once_more os ps e =
    let one : times_of os (os ∷ ps) ≡ 1 + times_of os ps = rw (same-words os) refl in
    omega (arith, one, e os)

-- Orders with one such less have it once less,
pub one_less : (os : List ℕ) (orders : List (List ℕ)) → 1 ≤ times_of os orders → times_of os (without os orders) + 1 ≡ times_of os orders
unfolding when◌then◌else◌
one_less os orders h =
    let less : 1 + times_of os (without os orders) ≡ times_of os orders = rw (same-words os) at (times-without os os orders h) in
    omega (arith, less)

-- and any other as often as before.
pub others_stay : (os ps : List ℕ) (orders : List (List ℕ)) → (os ≡ ps → ⊥) → times_of ps (without os orders) ≡ times_of ps orders
unfolding without times_of when◌then◌else◌
others_stay os ps [] other = refl
others_stay os ps (q ∷ qs) other = go (same_words q os) refl (same_words q ps) refl (others_stay os ps qs other)
  where
    -- By whether the first is such an order, and whether it is the other.
    go : (b : Bool) → same_words q os ≡ b → (c : Bool) → same_words q ps ≡ c → times_of ps (without os qs) ≡ times_of ps qs
        → times_of ps (when b then qs else q ∷ without os qs) ≡ (when same_words q ps then 1 else 0) + times_of ps qs
    go true e true f next = absurd (other (sym (words_same q os e) ∙ words_same q ps f))
    go true e false f next = rw f (omega arith)
    go false e c f next = omega (arith, next)

-- ---- "in any sequence"

module _ (answers : Call → List ℕ → Outcome) (c : Call) where
  -- The words after one call more are those that it leaves of the words before it, whatever answers the calls.
  pub after_last : (cs : List Call) (ws : List ℕ) → after_by answers (cs ++ (c ∷ [])) ws ≡ (answers c (after_by answers cs ws)).words
  unfolding after_by
  after_last [] ws = refl
  after_last (d ∷ cs) ws = after_last cs (answers d ws).words

  -- The orders that then remain are those that remained before it, changed by its own answer.
  pub remaining-last : (cs : List Call) (ws : List ℕ) (orders : List (List ℕ))
      → remaining_by answers (cs ++ (c ∷ [])) ws orders ≡ remain_by c (answers c (after_by answers cs ws)).answer.number (remaining_by answers cs ws orders)
  unfolding after_by remaining_by
  remaining-last [] ws orders = refl
  remaining-last (d ∷ cs) ws orders = remaining-last cs (answers d ws).words (remain_by d (answers d ws).answer.number orders)

-- The words after one call more are those that it leaves of the words before it.
pub after-one_more : (cs : List Call) (c : Call) (ws : List ℕ) → after (cs ++ (c ∷ [])) ws ≡ (outcome_of c (after cs ws)).words
after-one_more cs c ws = after_last outcome_of c cs ws

-- The orders that remain after one call more are those that remained before it, changed by its own answer.
pub remaining-one_more : (cs : List Call) (c : Call) (ws : List ℕ) (orders : List (List ℕ))
    → remaining (cs ++ (c ∷ [])) ws orders ≡ remain_by c (outcome_of c (after cs ws)).answer.number (remaining cs ws orders)
remaining-one_more cs c ws orders = remaining-last outcome_of c cs ws orders

-- ---- "none of those teachings is refused"

-- Each teaching of them answers 0 with line 0, on the book that those before it left.
pub each-done : (ps rest : List (List ℕ)) (os ws : List ℕ) → NoneRefused (ps ++ (os ∷ rest)) ws → (teach_of (taught_all ps ws) os).answer ≡ answered done
unfolding NoneRefused taught_all
each-done [] rest os ws n = n.0
each-done (p ∷ ps) rest os ws n = each-done ps rest os (teach_of ws p).words n.1

-- ---- "counts that file's orders as taught first"

-- An order so many times and others: it stands among them so many times more,
own_more : (os : List ℕ) (n : ℕ) (rest : List (List ℕ)) → times_of os (replicate n os ++ rest) ≡ n + times_of os rest
unfolding times_of when◌then◌else◌
own_more os zero rest = omega arith
own_more os (suc n) rest = rw (same-words os) (omega (arith, own_more os n rest))

-- and another as often as without it.
others_more : (ps os : List ℕ) (n : ℕ) (rest : List (List ℕ)) → same_words ps os ≡ false → times_of os (replicate n ps ++ rest) ≡ times_of os rest
unfolding times_of when◌then◌else◌
others_more ps os zero rest x = refl
others_more ps os (suc n) rest x = rw x (omega (arith, others_more ps os n rest x))

-- Among the orders that a T counts each stands as often as T counts it: a file's orders are those of its T, neither more nor fewer.
pub first-as_counted : (os : List ℕ) (es : List Entry) → times_of os (orders_in es) ≡ count_of os es
unfolding orders_in times_of count_of counts_for when◌then◌else◌
first-as_counted os [] = refl
first-as_counted os (e ∷ es) = go (same_words e.key os) refl (first-as_counted os es)
  where
    -- By whether the first entry is the order's.
    go : (b : Bool) → same_words e.key os ≡ b → times_of os (orders_in es) ≡ count_of os es → times_of os (replicate e.count e.key ++ orders_in es) ≡ (when b then e.count else 0) + count_of os es
    go true x next = rw (words_same e.key os x) (omega (arith, own_more os e.count (orders_in es), next))
    go false x next = omega (arith, others_more e.key os e.count (orders_in es) x, next)
