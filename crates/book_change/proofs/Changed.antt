-- A book changed by another, section by section: what each section is then, that it stays in form, what it takes and counts, and when such a
-- change can be made. Assumes nothing.
use Prim.Native.Nat.{ℕ, ◌+◌, ◌≤◌}
use mathlib.Core.Path.{◌≡◌, refl, sym, ap, ◌∙◌}
use mathlib.Core.Bool.{true}
use mathlib.Core.List.Memᴰ.{head as here}
use mathlib.Core.List.Memᴰ.{tail as there}
use mathlib.Core.List.{List, [], ◌∷◌}
use native.Mathlib.Omega.{arith}
use lib.Dec.{leb}
use borrow.Author.Tests.{leb-true}
use Rattle.words.specs.Base.{◌∈◌}
use Rattle.words.proofs.Tests.{and_left, and_right}
use Rattle.figures.specs.Limits.{greatest_count}
use Rattle.order.specs.Fits.{Fits}
use Rattle.section.specs.Entries.{Entry, Sorted}
use Rattle.section.proofs.Sorting.{add-keys, sorted-some, lower-keys}
use Rattle.section_change.specs.Editing.{add_all, lower_all, fitting}
use Rattle.section_change.proofs.Adding.{sorted-add_all, total-add_all, size-add_all, fitting-entry}
use Rattle.section_change.proofs.Lowering.{sorted-lower_all, size-lower_all}
use Rattle.section_change.proofs.Weighing.{lacking_size}
use Rattle.book.specs.Book.{Book, section_of, shallowest, deepest, used, live, in_form, with_section}
use Rattle.book.specs.Sound.{SoundSection}
use Rattle.book.specs.declared.Section.{Section}
use Rattle.book.specs.declared.Section.TheVariants.{Taught, Tops, Lows, Middles}
use Rattle.book.proofs.Meaning.{used_is}
use Rattle.book.proofs.Sound.{sorted-next, sound-section, form-sound}
use Rattle.book.proofs.Sections.{each-section, form-keys, sections_form, form-sorted}
use Rattle.book.proofs.Around.{used-with, used-split, with-k, with-sections}
use Rattle.book_change.specs.Counts.{within_counts}
use Rattle.book_change.specs.Changing.{changed, changed_in, changed_book, lives_then, LivesReady, ReadyAll, lacking_parts, lacking_all}
use Rattle.book_change.specs.declared.Change.{Change}
use Rattle.book_change.specs.declared.Change.TheVariants.{Teach, Withdraw}

-- ---- the sections and the words used

-- A section of a book changed by another book.
pub changed-section : (c : Change) (other b : Book) (s : Section) → section_of s (changed_book c other b) ≡ changed c (section_of s other) (section_of s b)
unfolding section_of changed_book changed_in with_section
changed-section c other b = each-section _ refl refl refl refl

-- A book to which another is added uses the words that were lacking more.
pub used-changed : (other b : Book) → ((s : Section) → Sorted (section_of s other)) → ((s : Section) → Sorted (section_of s b))
    → used (changed_book Teach other b) ≡ used b + lacking_all other b
unfolding changed_book changed_in with_section section_of lacking_all lacking_parts
used-changed other b p s =
    omega (arith, used_is b, used_is (changed_book Teach other b), lacking_size other.T b.T (p Taught) (s Taught), lacking_size other.R b.R (p Tops) (s Tops), lacking_size other.L b.L (p Lows) (s Lows), lacking_size other.P b.P (p Middles) (s Middles))

-- ---- entries of a changed section

module _ (Q : List ℕ → Type 0) where
  -- A sum keeps what holds of the keys of both.
  add-all_keys : (os es : List Entry) → ((e : Entry) → e ∈ os → Q e.key) → ((e : Entry) → e ∈ es → Q e.key) → (e : Entry) → e ∈ add_all os es → Q e.key
  unfolding add_all
  add-all_keys [] es p h = h
  add-all_keys (o ∷ os) es p h = add-keys Q o.count o.key (add_all os es) (p o (here refl)) (add-all_keys os es (λ e m. p e (there m)) h)

  -- So does lowering each key of another section.
  pub lower-all_keys : (os es : List Entry) → ((e : Entry) → e ∈ es → Q e.key) → (e : Entry) → e ∈ lower_all os es → Q e.key
  unfolding lower_all
  lower-all_keys [] es h = h
  lower-all_keys (o ∷ os) es h = lower-keys Q o.key (lower_all os es) (lower-all_keys os es h)

  -- A change keeps what holds of the keys of both sections.
  changed-keys : (c : Change) (os es : List Entry) → ((e : Entry) → e ∈ os → Q e.key) → ((e : Entry) → e ∈ es → Q e.key) → (e : Entry) → e ∈ changed c os es → Q e.key
  changed-keys Teach os es p h = add-all_keys os es p h
  changed-keys Withdraw os es p h = lower-all_keys os es h

-- A change keeps a section sorted.
sorted-changed : (c : Change) (os es : List Entry) → Sorted os → Sorted es → Sorted (changed c os es)
sorted-changed Teach os es p s = sorted-add_all os es p s
sorted-changed Withdraw os es p s = sorted-lower_all os es s

-- ---- books in form

-- Sorted entries whose counts and keys fit are a sound section.
pub sorted-sound : (least greatest : ℕ) (es : List Entry) → Sorted es → fitting es ≡ true → ((e : Entry) → e ∈ es → Fits least greatest e.key) → SoundSection least greatest es
sorted-sound least greatest es s f k = record {
  entry = λ e m. record { some = sorted-some es s e m; few = fitting-entry es f e m; tree = k e m };
  ascends = λ xs ys e g q. sorted-next xs ys e g (rw q at s);
}

-- One section of a book in form changed by that of another of the same k, the book is in form if the counts and the live teachings fit.
changed-form : (c : Change) (s : Section) (other b : Book) → in_form other ≡ true → in_form b ≡ true → other.k ≡ b.k
    → fitting (changed c (section_of s other) (section_of s b)) ≡ true → live (changed_in c s other b) ≤ greatest_count → in_form (changed_in c s other b) ≡ true
unfolding changed_in
changed-form c s other b o f same fits few =
    let sound = form-sound b f in
    let es : List Entry = changed c (section_of s other) (section_of s b) in
    let keys : (e : Entry) → e ∈ es → Fits (shallowest s b.k) (deepest s b.k) e.key
    = changed-keys (Fits (shallowest s b.k) (deepest s b.k)) c _ _ (λ e m. rw same at (form-keys other o s e m)) (form-keys b f s) in
    let new : SoundSection (shallowest s b.k) (deepest s b.k) es = sorted-sound _ _ es (sorted-changed c _ _ (form-sorted other o s) (form-sorted b f s)) fits keys in
    sections_form b.k (with_section s es b) (with-k s es b) sound.least sound.greatest few
    (with-sections s es b (λ u l. SoundSection (shallowest u b.k) (deepest u b.k) l) new (sound-section b sound))

-- ---- changes that can be made

module _ (s : Section) (other b : Book) where
  -- A book to which a section of another is added uses no fewer words.
  used_grows : used b ≤ used (changed_in Teach s other b)
  unfolding changed_in
  used_grows = omega (arith, used-with s (add_all (section_of s other) (section_of s b)) b, used-split s b, size-add_all (section_of s other) (section_of s b))

  -- A book from which a section of another is taken uses no more words.
  pub used-shrinks : used (changed_in Withdraw s other b) ≤ used b
  unfolding changed_in
  used-shrinks = omega (arith, used-with s (lower_all (section_of s other) (section_of s b)) b, used-split s b, size-lower_all (section_of s other) (section_of s b))

-- A book to which another is added has the live teachings of both.
live-added : (other b : Book) → live (changed_in Teach Taught other b) ≡ live b + live other
unfolding live changed_in with_section section_of
live-added other b = total-add_all other.T b.T

-- A change of all four sections can be made if the counts fit then, the live teachings can be changed so, and each book on the way has room.
pub ready_all : (n : ℕ) (c : Change) (other b : Book) → in_form other ≡ true → in_form b ≡ true → other.k ≡ b.k
    → ((s : Section) → fitting (changed c (section_of s other) (section_of s b)) ≡ true)
    → live (changed_in c Taught other b) ≤ greatest_count → live (changed_in c Taught other b) ≡ lives_then c Taught (live b) (live other) → LivesReady c Taught (live b) (live other)
    → used (changed_in c Middles other b) ≤ n → used (changed_in c Lows other (changed_in c Middles other b)) ≤ n
    → used (changed_in c Tops other (changed_in c Lows other (changed_in c Middles other b))) ≤ n → used (changed_book c other b) ≤ n → ReadyAll n c other b
unfolding section_of changed_book changed_in with_section live
ready_all n c other b o f same fits few lives counts p l r t =
    let most : live b ≤ greatest_count = (form-sound b f).few in
    let b1 : Book = changed_in c Middles other b in
    let b2 : Book = changed_in c Lows other b1 in
    let b3 : Book = changed_in c Tops other b2 in
    let f1 : in_form b1 ≡ true = changed-form c Middles other b o f same (fits Middles) most in
    let f2 : in_form b2 ≡ true = changed-form c Lows other b1 o f1 same (fits Lows) most in
    let f3 : in_form b3 ≡ true = changed-form c Tops other b2 o f2 same (fits Tops) most in
    record {
      middles = record { form = f1; room = p; lives = refl; counts = tt };
      lows = record { form = f2; room = l; lives = refl; counts = tt };
      tops = record { form = f3; room = r; lives = refl; counts = tt };
      taught = record { form = changed-form c Taught other b3 o f3 same (fits Taught) few; room = t; lives = lives; counts = counts };
    }

-- The live teachings and every count of a book within counts fit.
pub within-fits : (b : Book) → within_counts b ≡ true → (live b ≤ greatest_count) × ((s : Section) → fitting (section_of s b) ≡ true)
unfolding within_counts section_of
within-fits b w =
    let f = and_right (leb (live b) greatest_count) _ w in
    let g = and_right (fitting b.T) _ f in
    let h = and_right (fitting b.R) _ g in
    (leb-true _ _ (and_left _ _ w), each-section _ (and_left _ _ f) (and_left _ _ g) (and_left _ _ h) (and_right _ _ h))

-- The live teachings of both are those of a book to which all four sections of another are added.
pub live-changed : (other b : Book) → live (changed_book Teach other b) ≡ live b + live other
unfolding live changed_book changed_in with_section section_of
live-changed other b = total-add_all other.T b.T

-- Another book of the same k can be added to a book, if the counts stay within 65,535 and there is room.
pub ready_add : (n : ℕ) (other b : Book) → in_form other ≡ true → in_form b ≡ true → other.k ≡ b.k → within_counts (changed_book Teach other b) ≡ true
    → used (changed_book Teach other b) ≤ n → ReadyAll n Teach other b
unfolding changed_book
ready_add n other b o f same within room =
    let b1 : Book = changed_in Teach Middles other b in
    let b2 : Book = changed_in Teach Lows other b1 in
    let b3 : Book = changed_in Teach Tops other b2 in
    let fits = within-fits (changed_book Teach other b) within in
    let t4 : used (changed_book Teach other b) ≤ n = room in
    let t3 : used b3 ≤ n = omega (arith, used_grows Taught other b3) in
    let t2 : used b2 ≤ n = omega (arith, used_grows Tops other b2) in
    let t1 : used b1 ≤ n = omega (arith, used_grows Lows other b1) in
    let lives : live (changed_in Teach Taught other b) ≡ live b + live other = live-added other b in
    let few : live b + live other ≤ greatest_count = omega (arith, fits.0, live-changed other b) in
    ready_all n Teach other b o f same (λ s. sym (ap fitting (changed-section Teach other b s)) ∙ fits.1 s) (omega (arith, lives)) lives few t1 t2 t3 t4
