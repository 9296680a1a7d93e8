-- Books stay in form while an order's own book is added to them or taken from them, section by section, and such a change can be made.
-- Assumes nothing.
use Prim.Native.Nat.{ℕ, ◌+◌, ◌≤◌}
use mathlib.Core.Path.{◌≡◌, refl, ap, ◌∙◌}
use mathlib.Core.Bool.{true}
use mathlib.Core.List.Memᴰ
use mathlib.Core.List.Memᴰ.{head as here}
use mathlib.Core.List.Memᴰ.{tail as there}
use mathlib.Core.List.{[], ◌∷◌}
use native.Mathlib.Omega.{arith}
use Rattle.words.specs.Base.{◌∈◌}
use Rattle.figures.specs.Limits.{greatest_depth, least_k, greatest_k}
use Rattle.order.specs.Trees.{Tree, words}
use Rattle.order.specs.Fits.{Fits}
use Rattle.section.specs.Entries.{has, add}
use Rattle.section.proofs.Counts.{total-lowers}
use Rattle.section_change.specs.Editing.{lower_all}
use Rattle.section_change.proofs.Lowering.{sorted-lower_all, fitting-lower_all}
use Rattle.book.specs.Book.{Book, section_of, used, live, in_form, with_section}
use Rattle.book.specs.Taught.{Teaching, taught, book_of}
use Rattle.book.specs.declared.Section.TheVariants.{Taught, Tops, Lows, Middles}
use Rattle.book.proofs.Sound.{form-sound}
use Rattle.book.proofs.Sections.{form-keys, sections_form, form-sorted}
use Rattle.book.proofs.Taught.{taught-k, taught-formed}
use Rattle.book_teaching.specs.Calls.{withdrawn}
use Rattle.book_listing.specs.Own.{own_book}
use Rattle.book_listing.proofs.Owning.{own_live}
use Rattle.book_change.specs.Counts.{within_counts}
use Rattle.book_change.specs.Changing.{changed_in, changed_book, ReadyAll}
use Rattle.book_change.specs.declared.Change.TheVariants.{Teach, Withdraw}
use Rattle.book_change.proofs.Sections.{form-fitting}
use Rattle.book_change.proofs.Changed.{changed-section, sorted-sound, lower-all_keys, used-shrinks, ready_all, ready_add}
use Rattle.book_teaching.proofs.Adds.{taught-changed, withdrawn-changed, live-withdrawn}

-- ---- the order's own book

module _ (k : ℕ) (t : Tree) where
  -- It is in form.
  own_form : least_k ≤ k → k ≤ greatest_k → Fits 0 greatest_depth (words t) → in_form (own_book k 1 t) ≡ true
  own_form l g fits = taught-formed k (record { order = t; times = 1 } ∷ []) times limits (omega (arith, own_live k 1 t)) l g
    where
      times : (o : Teaching) → o ∈ (record { order = t; times = 1 } ∷ []) → 1 ≤ o.times
      times o (here q) = rw q (omega arith)
      times o (there m) = absurd (Memᴰ.not-nil m)

      limits : (o : Teaching) → o ∈ (record { order = t; times = 1 } ∷ []) → Fits 0 greatest_depth (words o.order)
      limits o (here q) = rw q fits
      limits o (there m) = absurd (Memᴰ.not-nil m)

-- At the k of a book in form it is in form.
pub beside_form : (t : Tree) (b : Book) → in_form b ≡ true → Fits 0 greatest_depth (words t) → in_form (own_book b.k 1 t) ≡ true
beside_form t b form limits = let sound = form-sound b form in own_form b.k t sound.least sound.greatest limits

-- ---- changes that can be made

-- A book from which an order's own book is taken has the live teachings of the one from which the order is withdrawn.
live-taken : (t : Tree) (b : Book) → live (changed_in Withdraw Taught (own_book b.k 1 t) b) ≡ live (withdrawn t b)
unfolding live changed_in with_section section_of book_of taught add lower_all withdrawn
live-taken t b = refl

module _ (n : ℕ) (t : Tree) (b : Book) (form : in_form b ≡ true) (limits : Fits 0 greatest_depth (words t)) where
  -- The order's own book can be added to a book, if the counts stay within 65,535 and there is room.
  pub ready_teach : within_counts (taught 1 t b) ≡ true → used (taught 1 t b) ≤ n → ReadyAll n Teach (own_book b.k 1 t) b
  ready_teach within room =
      let is : taught 1 t b ≡ changed_book Teach (own_book b.k 1 t) b = taught-changed t b (form-sorted b form) 1 (omega arith) in
      ready_add n (own_book b.k 1 t) b (beside_form t b form limits) form (taught-k b.k _) (rw is at within) (rw is at room)

  -- It can be taken from a book that has an entry of the order.
  pub ready_withdraw : has (words t) b.T ≡ true → used b ≤ n → ReadyAll n Withdraw (own_book b.k 1 t) b
  unfolding changed_book section_of
  ready_withdraw entry room =
      let own : Book = own_book b.k 1 t in
      let b1 : Book = changed_in Withdraw Middles own b in
      let b2 : Book = changed_in Withdraw Lows own b1 in
      let b3 : Book = changed_in Withdraw Tops own b2 in
      let t1 : used b1 ≤ n = omega (arith, used-shrinks Middles own b) in
      let t2 : used b2 ≤ n = omega (arith, used-shrinks Lows own b1) in
      let t3 : used b3 ≤ n = omega (arith, used-shrinks Tops own b2) in
      let t4 : used (changed_book Withdraw own b) ≤ n = omega (arith, used-shrinks Taught own b3) in
      let lives : live (changed_in Withdraw Taught own b) + 1 ≡ live b = rw (live-taken t b) (live-withdrawn t b (form-sorted b form Taught) entry) in
      let one : live own ≡ 1 = own_live b.k 1 t in
      ready_all n Withdraw own b (beside_form t b form limits) form (taught-k b.k _) (λ s. fitting-lower_all (section_of s own) (section_of s b) (form-fitting b form s))
      (omega (arith, (form-sound b form).few)) (omega arith) (omega arith) t1 t2 t3 t4

-- ---- the books at the end

-- A book in form is in form once an order within limits is taught, if the counts stay within 65,535.
pub taught-keeps_form : (t : Tree) (b : Book) → in_form b ≡ true → Fits 0 greatest_depth (words t) → within_counts (taught 1 t b) ≡ true → in_form (taught 1 t b) ≡ true
unfolding changed_book
taught-keeps_form t b form limits within =
    ap in_form (taught-changed t b (form-sorted b form) 1 (omega arith)) ∙ (ready_teach (used (taught 1 t b)) t b form limits within (omega arith)).taught.form

-- A book in form is in form once an order is withdrawn.
pub withdrawn-keeps_form : (t : Tree) (b : Book) → in_form b ≡ true → in_form (withdrawn t b) ≡ true
unfolding withdrawn live
withdrawn-keeps_form t b form =
    let sound = form-sound b form in
    sections_form b.k (withdrawn t b) refl sound.least sound.greatest (omega (arith, sound.few, total-lowers (words t) b.T)) (λ s.
    rw (ap (section_of s) (withdrawn-changed t b (form-sorted b form)) ∙ changed-section Withdraw (own_book b.k 1 t) b s)
    (sorted-sound _ _ _ (sorted-lower_all _ _ (form-sorted b form s)) (fitting-lower_all _ _ (form-fitting b form s)) (lower-all_keys _ _ _ (form-keys b form s))))
