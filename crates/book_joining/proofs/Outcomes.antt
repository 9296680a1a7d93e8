-- What joining answers, and the words then, by the tests that the code makes in turn. Assumes nothing.
use Prim.Native.Nat.{ℕ, ◌+◌, ◌-◌, ◌≤◌, ◌<◌}
use mathlib.Core.Path.{◌≡◌, refl, sym, ap, ap₂, ◌∙◌}
use mathlib.Core.Bool.{Bool, true, false, not}
use mathlib.Core.List.{List}
use native.Mathlib.Omega.{arith}
use lib.Dec.{leb}
use lib.ListN.{length, get_or}
use borrow.Author.Tests.{leb-true, not-true, not-false}
use Rattle.words.specs.Base.{◌and◌, when◌then◌else◌}
use Rattle.words.proofs.Tests.{no_test, and_left, and_right}
use Rattle.figures.specs.Limits.{greatest_count}
use Rattle.figures.specs.Numbers.{done, no_room, too_many, not_agreeing, other_k}
use Rattle.figures.specs.Answers.{answered}
use Rattle.book.specs.Book.{Book, used, live, lay}
use Rattle.book.specs.Decoding.{book_in, book_form_of, Refused}
use Rattle.book.specs.Holding.{Holds}
use Rattle.book.specs.Taught.{agreeing}
use Rattle.book.specs.Opening.{outcome, leave}
use Rattle.book.specs.declared.Places.{Places}
use Rattle.book.proofs.Sound.{form-sound, held_book}
use Rattle.book.proofs.Around.{live_laid}
use Rattle.book_change.specs.Counts.{within_counts}
use Rattle.book_change.specs.Changing.{changed_book}
use Rattle.book_change.specs.declared.Change.TheVariants.{Teach}
use Rattle.book_joining.specs.Joining.{joined, join_of}
use Rattle.book_joining.proofs.Joined.{grown, joined-adds, joined-within}
use Rattle.book_joining.proofs.Joins.{Both, second-unjoined, k-unjoined, first-unagreed, second-unagreed, join-passes, join-crowded, join-does}

-- A second slice that is no book in form is answered by 4 or 5, where the first is one.
pub second-unheld : (ws vs : List ℕ) (p : Places) → Holds ws p → (n : ℕ) → book_form_of vs ≡ Refused n → leave ws n ≡ join_of ws vs
second-unheld ws vs p h n e = sym (second-unjoined ws vs (book_in ws) (held_book ws p h) n e)

-- ---- two books in form

module _ (ws vs : List ℕ) (p q : Places) (h : Holds ws p) (g : Holds vs q) where
  -- The second's live teachings are at most 65,535.
  pub second-few : get_or vs 2 0 ≤ greatest_count
  second-few = omega (arith, live_laid vs (book_in vs) g.laid, (form-sound (book_in vs) g.form).few)

  -- Where the words for k differ, joining answers 15.
  pub k_differs : (get_or ws 0 0 ≡ get_or vs 0 0 → ⊥) → leave ws other_k ≡ join_of ws vs
  unfolding book_in
  k_differs x = sym (k-unjoined ws vs (book_in ws) (book_in vs) (held_book ws p h) (held_book vs q g) x)

  module _ (same : get_or ws 0 0 ≡ get_or vs 0 0) where
    -- The books have one k.
    k-is : (book_in ws).k ≡ (book_in vs).k
    unfolding book_in
    k-is = same

    -- Where one of them does not agree with itself, joining answers 9.
    pub one-disagrees : (r : Bool) → r ≡ (agreeing (book_in ws) and agreeing (book_in vs)) → not r ≡ true → leave ws not_agreeing ≡ join_of ws vs
    one-disagrees r told e = sym (go (agreeing (book_in ws)) refl (agreeing (book_in vs)) refl)
      where
        -- The two tests do not both pass.
        not_both : (x y : Bool) → agreeing (book_in ws) ≡ x → agreeing (book_in vs) ≡ y → (x and y) ≡ false
        not_both x y a d = ap₂ ◌and◌ (sym a) (sym d) ∙ sym told ∙ not-true r e

        -- By the first that fails.
        go : (x : Bool) → agreeing (book_in ws) ≡ x → (y : Bool) → agreeing (book_in vs) ≡ y → join_of ws vs ≡ leave ws not_agreeing
        go false a y d = first-unagreed ws vs (book_in ws) (book_in vs) (held_book ws p h) (held_book vs q g) k-is a
        go true a false d = second-unagreed ws vs (book_in ws) (book_in vs) (held_book ws p h) (held_book vs q g) k-is a d
        go true a true d = no_test (sym (unfold ◌and◌ in not_both true true a d))

    -- Where both do, it is known of both.
    pub both_agree : (r : Bool) → r ≡ (agreeing (book_in ws) and agreeing (book_in vs)) → not r ≡ false → Both ws vs (book_in ws) (book_in vs)
    both_agree r told e =
        let a : (agreeing (book_in ws) and agreeing (book_in vs)) ≡ true = sym told ∙ not-false r e in
        record {
          is_first = held_book ws p h;
          is_second = held_book vs q g;
          same = k-is;
          grown_first = grown (book_in ws) h.form (and_left _ _ a);
          grown_second = grown (book_in vs) g.form (and_right _ _ a);
        }

-- ---- two books of one k that agree with themselves

module _ (ws vs : List ℕ) (both : Both ws vs (book_in ws) (book_in vs)) where
  -- The words for the live teachings are those of both.
  lives : get_or ws 2 0 + get_or vs 2 0 ≡ live (book_in ws) + live (book_in vs)
  lives = ap₂ ◌+◌ (live_laid ws (book_in ws) both.is_first.laid) (live_laid vs (book_in vs) both.is_second.laid)

  -- Where more than 65,535 teachings would be live, joining answers 7.
  pub too_many-live : greatest_count - get_or vs 2 0 < get_or ws 2 0 → leave ws too_many ≡ join_of ws vs
  too_many-live x = sym (join-passes ws vs (book_in ws) (book_in vs) both (omega (arith, lives)))

  module _ (few : get_or ws 2 0 ≤ greatest_count - get_or vs 2 0) where
    -- The live teachings of both are within 65,535.
    few-live : live (book_in ws) + live (book_in vs) ≤ greatest_count
    few-live = omega (arith, lives, live_laid vs (book_in vs) both.is_second.laid, both.is_second.sound.few)

    -- The joined book is the second added to the first.
    sum : joined (book_in ws) (book_in vs) ≡ changed_book Teach (book_in vs) (book_in ws)
    sum = joined-adds (book_in ws) (book_in vs) both.grown_first both.grown_second both.same

    -- The second may be added, if there is room.
    pub may_add : ((book_in vs).k ≡ (book_in ws).k) × (within_counts (changed_book Teach (book_in vs) (book_in ws)) ≡ true)
    may_add = (sym both.same, ap within_counts (sym sum) ∙ joined-within (book_in ws) (book_in vs) both.grown_first both.grown_second both.same few-live)

    module _ (last : List ℕ) (r : Bool) (came : r ≡ leb (used (changed_book Teach (book_in vs) (book_in ws))) (length ws))
        (wrote : last ≡ (when r then lay (length ws) (changed_book Teach (book_in vs) (book_in ws)) else ws)) where
      -- Whether there was room for the joined book.
      room-told : leb (used (joined (book_in ws) (book_in vs))) (length ws) ≡ r
      room-told = ap (λ (b : Book). leb (used b) (length ws)) sum ∙ sym came

      -- Where there was none, joining answers 6.
      pub join-no_room : not r ≡ true → outcome (answered no_room) last ≡ join_of ws vs
      unfolding when◌then◌else◌
      join-no_room e =
          let z = not-true r e in
          ap (outcome (answered no_room)) (rw z at wrote) ∙ sym (join-crowded ws vs (book_in ws) (book_in vs) both few-live (room-told ∙ z))

      -- Where there was, joining answers 0.
      pub join-done : not r ≡ false → outcome (answered done) last ≡ join_of ws vs
      unfolding when◌then◌else◌
      join-done e =
          let z = not-false r e in
          ap (outcome (answered done)) ((rw z at wrote) ∙ ap (lay (length ws)) (sym sum))
          ∙ sym (join-does ws vs (book_in ws) (book_in vs) both few-live (leb-true (used (joined (book_in ws) (book_in vs))) (length ws) (room-told ∙ z)))
