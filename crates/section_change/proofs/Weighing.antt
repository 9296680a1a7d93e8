-- What a section's entries would do to another section: the turns of one pass over both, and what the words that are lacking and a count
-- that would pass 65,535 say of the section that an addition would give. Assumes nothing.
use Rattle.std.specs.declared.cmp.Ordering.{Ordering}
use Rattle.std.specs.declared.cmp.Ordering.TheVariants.{Less, Equal, Greater}
use Prim.Native.Nat.{ℕ, ◌+◌, ◌≤◌}
use mathlib.Core.Path.{◌≡◌, refl, sym, ap₂, ◌∙◌}
use mathlib.Core.Bool.{Bool, true, false, not}
use mathlib.Core.List.Memᴰ.{head as here}
use mathlib.Core.List.Memᴰ.{tail as there}
use mathlib.Core.List.{List, [], ◌∷◌}
use native.Mathlib.Nat.{zero-add, add-zero}
use native.Mathlib.Omega.{arith}
use lib.Dec.{leb}
use lib.ListN.{length}
use borrow.Author.Tests.{leb-true, le-leb}
use Rattle.words.specs.Base.{◌and◌, when◌then◌else◌, ◌∈◌}
use Rattle.words.specs.Compare.{compare_of, ◌≺◌}
use Rattle.words.proofs.Ordered.{compare_flip, compare_self, compare_equal}
use Rattle.words.proofs.Tests.{and_right, by_test}
use Rattle.figures.specs.Limits.{greatest_count}
use Rattle.section.specs.Entries.{Entry, section_words, has, count_of, Below, Sorted, add}
use Rattle.section_change.specs.Editing.{add_all, fitting, lacking_words, overfull}
use Rattle.section_change.specs.declared.Weighed.{Weighed}
use Rattle.section.proofs.Counts.{lower-differs, below-trans, below-lacks, below-absent, counts-other, has-count, entry-count}
use Rattle.section.proofs.Searches.{has-lower, has_equal}
use Rattle.section.proofs.Sizes.{size-add}
use Rattle.section_change.proofs.Adding.{count-add_all, sorted-add_all, fitting-entry}

-- Past a lower entry the others count.
count-lower_first : (e : Entry) (es : List Entry) (key : List ℕ) → e.key ≺ key → count_of key (e ∷ es) ≡ count_of key es
unfolding count_of
count-lower_first e es key h = omega (arith, counts-other e.key key e.count (lower-differs e.key key h))

-- ---- the turns of one pass

-- An entry below all of the other's makes none of them less lacking.
pub lacking_past : (os : List Entry) (e : Entry) (es : List Entry) → Below e.key os → Sorted os → lacking_words os (e ∷ es) ≡ lacking_words os es
unfolding lacking_words Below Sorted
lacking_past [] e es h s = refl
lacking_past (o ∷ os) e es h s = rw (has-lower e es o.key h, lacking_past os e es (below-trans e.key o.key os h s.1) s.2)

-- An entry below all of the other's makes none of their counts pass.
overfull-past : (os : List Entry) (e : Entry) (es : List Entry) → Below e.key os → Sorted os → overfull os (e ∷ es) ≡ overfull os es
unfolding overfull Below Sorted
overfull-past [] e es h s = refl
overfull-past (o ∷ os) e es h s = rw (count-lower_first e es o.key h, overfull-past os e es (below-trans e.key o.key os h s.1) s.2)

module _ (o : Entry) (os : List Entry) (e : Entry) (es : List Entry) (same : e.key ≡ o.key) (s : Sorted (o ∷ os)) where
  -- An entry of the same key makes the other's first not lacking.
  pub lacking_same : lacking_words (o ∷ os) (e ∷ es) ≡ lacking_words os es
  unfolding lacking_words Sorted when◌then◌else◌
  lacking_same =
      rw (has_equal e es o.key (rw same (compare_self o.key)), lacking_past os e es (rw same s.1) s.2, zero-add)

  -- An entry of the same key passes if the two counts do, and otherwise the others decide.
  overfull-same : Sorted (e ∷ es) → overfull (o ∷ os) (e ∷ es) ≡ (when leb (e.count + o.count) greatest_count then overfull os es else true)
  unfolding overfull Sorted
  overfull-same t = rw (entry-count o.key t (here refl) same, overfull-past os e es (rw same s.1) s.2)

module _ (o : Entry) (os es : List Entry) (h : Below o.key es) (s : Sorted es) where
  -- The other's first entry is lacking where it stands below all.
  pub lacking_new : lacking_words (o ∷ os) es ≡ 2 + length o.key + lacking_words os es
  unfolding lacking_words when◌then◌else◌
  lacking_new = rw (below-lacks o.key es h s)

  -- An entry that is entered does not pass, if its own count does not.
  overfull-new : o.count ≤ greatest_count → overfull (o ∷ os) es ≡ overfull os es
  unfolding overfull when◌then◌else◌
  overfull-new fits = rw (below-absent o.key es h s, zero-add, le-leb o.count greatest_count fits)

-- ---- the words that are lacking

-- A key below all of the other's has an entry once these are added just if it had one.
has-add_all : (z : List ℕ) (os es : List Entry) → Below z os → Sorted os → Sorted es → has z (add_all os es) ≡ has z es
has-add_all z os es h p s =
    has-count z (add_all os es) (sorted-add_all os es p s) ∙ rw (count-add_all z os es, below-absent z os h p, zero-add) (sym (has-count z es s))

-- What an addition would give takes the words that were lacking more.
pub lacking_size : (os es : List Entry) → Sorted os → Sorted es → length (section_words (add_all os es)) ≡ lacking_words os es + length (section_words es)
unfolding add_all lacking_words Sorted
lacking_size [] es p s = omega arith
lacking_size (o ∷ os) es p s =
    let sized = rw (has-add_all o.key os es p.1 p.2 s) at (size-add o.count o.key (add_all os es) (sorted-add_all os es p.2 s)) in
    omega (arith, sized, lacking_size os es p.2 s)

-- Where no words are lacking each of the other's entries has its key in the section.
pub lacking_none : (os es : List Entry) → lacking_words os es ≡ 0 → (o : Entry) → o ∈ os → has o.key es ≡ true
unfolding lacking_words when◌then◌else◌
lacking_none [] es h i x'' = elim x'' [ ]
lacking_none (o ∷ os) es h i (here q) = by_test (has o.key es) (λ t. rw q t) (λ t. absurd (omega (arith, rw t at h)))
lacking_none (o ∷ os) es h i (there m) = lacking_none os es (omega (arith, h)) i m

-- Where each of the other's entries has its key in the section no words are lacking.
pub none-lacking : (os es : List Entry) → ((o : Entry) → o ∈ os → has o.key es ≡ true) → lacking_words os es ≡ 0
unfolding lacking_words when◌then◌else◌
none-lacking [] es h = refl
none-lacking (o ∷ os) es h = rw (h o (here refl), none-lacking os es (λ i m. h i (there m)))

-- ---- counts that fit

-- n more of a key fit if the key's count then does and the entries did.
pub fitting-add : (n : ℕ) (x : List ℕ) (es : List Entry) → Sorted es → fitting (add n x es) ≡ (leb (count_of x es + n) greatest_count and fitting es)
unfolding fitting add Sorted Below
fitting-add n x [] s = unfold count_of in rw zero-add
fitting-add n x (e ∷ es) s = go (compare_of e.key x) refl (fitting-add n x es s.2)
  where
    swap : (a b c : Bool) → (a and (b and c)) ≡ (b and (a and c))
    swap true true c = unfold ◌and◌ in refl
    swap true false c = unfold ◌and◌ in refl
    swap false true c = unfold ◌and◌ in refl
    swap false false c = unfold ◌and◌ in refl

    more : (b : Bool) → leb (e.count + n) greatest_count ≡ b → (b and fitting es) ≡ (b and (leb e.count greatest_count and fitting es))
    more true t = unfold ◌and◌ in rw (le-leb e.count greatest_count (omega (arith, leb-true (e.count + n) greatest_count t)))
    more false t = unfold ◌and◌ in refl

    go : (o : Ordering) → compare_of e.key x ≡ o → fitting (add n x es) ≡ (leb (count_of x es + n) greatest_count and fitting es)
        → fitting (add n x (e ∷ es)) ≡ (leb (count_of x (e ∷ es) + n) greatest_count and fitting (e ∷ es))
    go Less c ih = rw (c, count-lower_first e es x c, ih) (swap (leb e.count greatest_count) (leb (count_of x es + n) greatest_count) (fitting es))
    go Equal c ih = rw (c, entry-count x {es = e ∷ es} s (here refl) (compare_equal e.key x c)) (more (leb (e.count + n) greatest_count) refl)
    go Greater c ih = rw (c, below-absent x (e ∷ es) (compare_flip e.key x ∙ rw c) s, zero-add)

-- What an addition would give fits just if no count would pass.
pub overfull-fitting : (os es : List Entry) → Sorted os → Sorted es → fitting es ≡ true → fitting (add_all os es) ≡ not (overfull os es)
unfolding add_all overfull Sorted
overfull-fitting [] es p s f = f
overfull-fitting (o ∷ os) es p s f =
    let counts : count_of o.key (add_all os es) ≡ count_of o.key es = omega (arith, count-add_all o.key os es, below-absent o.key os p.1 p.2) in
    fitting-add o.count o.key (add_all os es) (sorted-add_all os es p.2 s)
    ∙ rw (counts, overfull-fitting os es p.2 s f) (both (leb (count_of o.key es + o.count) greatest_count))
  where
    both : (b : Bool) → (b and not (overfull os es)) ≡ not (when b then overfull os es else true)
    both true = unfold ◌and◌ when◌then◌else◌ in refl
    both false = unfold ◌and◌ when◌then◌else◌ in refl

-- ---- one pass over both

-- What was weighed so far and what the entries left would do come to the words lacking in all, and to whether a count would pass.
pub record Weighs (words : ℕ) (passes : Bool) (os es : List Entry) (lacking : ℕ) (full : Bool) : Type 0 where
  pub theirs : Sorted os
  pub mine : Sorted es
  pub fits : fitting os ≡ true
  pub lacks : words ≡ lacking + lacking_words os es
  pub passed : passes ≡ (when full then true else overfull os es)

-- Before the first turn nothing is weighed.
pub weighs_none : (os es : List Entry) → Sorted os → Sorted es → fitting os ≡ true → Weighs (lacking_words os es) (overfull os es) os es 0 false
weighs_none os es p s f = record { theirs = p; mine = s; fits = f; lacks = sym (zero-add (lacking_words os es)); passed = unfold when◌then◌else◌ in refl }

module _ {words : ℕ} {passes : Bool} {os : List Entry} {e : Entry} {es : List Entry} {lacking : ℕ} {full : Bool} where
  -- A turn past an entry that is below all of the other's weighs nothing.
  pub weighs_past : Weighs words passes os (e ∷ es) lacking full → Below e.key os → Weighs words passes os es lacking full
  unfolding Sorted
  weighs_past w h = record {
    theirs = w.theirs;
    mine = w.mine.2;
    fits = w.fits;
    lacks = rw (lacking_past os e es h w.theirs) at w.lacks;
    passed = rw (overfull-past os e es h w.theirs) at w.passed;
  }

  -- A turn past two entries of the same key weighs whether their counts pass together.
  pub weighs_same : {o : Entry} → Weighs words passes (o ∷ os) (e ∷ es) lacking full → e.key ≡ o.key
      → Weighs words passes os es lacking (when leb (e.count + o.count) greatest_count then full else true)
  unfolding Sorted fitting
  weighs_same {o} w k = record {
    theirs = w.theirs.2;
    mine = w.mine.2;
    fits = and_right (leb o.count greatest_count) (fitting os) w.fits;
    lacks = rw (lacking_same o os e es k w.theirs) at w.lacks;
    passed = w.passed ∙ rw (overfull-same o os e es k w.theirs w.mine) (either full (leb (e.count + o.count) greatest_count));
  }
    where
      either : (a b : Bool) → (when a then true else (when b then overfull os es else true)) ≡ (when (when b then a else true) then true else overfull os es)
      either true true = unfold when◌then◌else◌ in refl
      either true false = unfold when◌then◌else◌ in refl
      either false true = unfold when◌then◌else◌ in refl
      either false false = unfold when◌then◌else◌ in refl

module _ {words : ℕ} {passes : Bool} {o : Entry} {os es : List Entry} {lacking : ℕ} {full : Bool} where
  -- A turn past an entry of the other's that is lacking weighs its words.
  pub weighs_new : Weighs words passes (o ∷ os) es lacking full → Below o.key es → Weighs words passes os es (lacking + (2 + length o.key)) full
  unfolding Sorted fitting
  weighs_new w h = record {
    theirs = w.theirs.2;
    mine = w.mine;
    fits = and_right (leb o.count greatest_count) (fitting os) w.fits;
    lacks = omega (arith, lacking_new o os es h w.mine, w.lacks);
    passed = rw (overfull-new o os es h w.mine (fitting-entry (o ∷ os) w.fits o (here refl))) at w.passed;
  }

-- After the last turn all is weighed.
pub weighs_all : {words : ℕ} {passes : Bool} {es : List Entry} {lacking : ℕ} {full : Bool} → Weighs words passes [] es lacking full
    → ◌≡◌ {A = Weighed} (record { lacking = lacking; overfull = full }) (record { lacking = words; overfull = passes })
unfolding lacking_words overfull
weighs_all {lacking = lacking} {full = full} w = ap₂ (λ (n : ℕ) (b : Bool). record { lacking = n; overfull = b }) (sym (w.lacks ∙ add-zero lacking)) (sym (w.passed ∙ same full))
  where
    same : (b : Bool) → (when b then true else false) ≡ b
    same true = unfold when◌then◌else◌ in refl
    same false = unfold when◌then◌else◌ in refl
