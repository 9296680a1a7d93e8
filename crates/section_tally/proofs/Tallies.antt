-- Which entry a search by halving finds, and the turns of tallying counts and of comparing them. Assumes nothing.
use Rattle.std.specs.Prelude.{None, Option, Some}
use Rattle.std.specs.declared.cmp.Ordering.TheVariants.{Equal, Greater}
use Prim.Native.Nat.{ℕ, zero, suc, ◌+◌, ◌≤◌, ◌<◌}
use mathlib.Core.Path.{◌≡◌, refl, sym, ap, ◌∙◌}
use mathlib.Core.Bool.{Bool, true, false}
use mathlib.Core.List.Memᴰ
use mathlib.Core.List.Memᴰ.{head as here}
use mathlib.Core.List.Memᴰ.{tail as there}
use mathlib.Core.List.{List, [], ◌∷◌}
use native.Mathlib.Nat.{not-suc-le-zero}
use native.Mathlib.Decide.{dec_lt}
use native.Mathlib.Omega.{arith}
use lib.Dec.{eqb}
use lib.ListN.{length, get_or, set}
use lib.Seq.{get_or-drop}
use borrow.Author.Tests.{eq-eqb, ne_eqb}
use Rattle.words.specs.Base.{◌and◌, when◌then◌else◌, same_words, ◌∈◌}
use Rattle.words.specs.Compare.{compare_of, ◌≺◌}
use Rattle.words.proofs.Ordered.{≺-trans, compare_equal, compare_flip}
use Rattle.words.proofs.Tests.{no_test, and_left, and_right, and_both, same-words, words_same, fails_left, by_test, never}
use Rattle.section.specs.Entries.{Entry, counted, has, Below, Sorted}
use Rattle.section.proofs.Counts.{lower-differs, below-trans, has-entry, entry_has}
use Rattle.section_tally.specs.Tallying.{listed, sought_in, has_all, on_each, tallied, marked, Unmarked, on_one, same_counts}

-- ---- equal counts

-- The entry listed first, and what was tallied for it.
module _ (at c : ℕ) (starts ws cs : List ℕ) where
  -- Its count is compared with the one tallied, and then those of the others.
  same_step : same_counts (listed (at ∷ starts) ws) (c ∷ cs) ≡ (eqb (get_or ws (at + 1) 0) c and same_counts (listed starts ws) cs)
  unfolding same_counts listed
  same_step = rw get_or-drop

  -- Where the two are equal the others decide.
  pub same-goes_on : get_or ws (at + 1) 0 ≡ c → same_counts (listed (at ∷ starts) ws) (c ∷ cs) ≡ same_counts (listed starts ws) cs
  unfolding ◌and◌
  same-goes_on e = rw (same_step, eq-eqb (get_or ws (at + 1) 0) c e)

  -- Where the two differ not all are equal.
  pub same_ends : (get_or ws (at + 1) 0 ≡ c → ⊥) → same_counts (listed (at ∷ starts) ws) (c ∷ cs) ≡ false
  same_ends e = same_step ∙ fails_left _ _ (ne_eqb (get_or ws (at + 1) 0) c e)

-- With no place left all were equal.
pub same-done : (starts ws cs : List ℕ) → starts ≡ [] → same_counts (listed starts ws) cs ≡ true
unfolding same_counts listed
same-done starts ws cs h = rw h

-- ---- a search by halving

-- Keys told different are so the other way round.
different : (x y : List ℕ) → same_words x y ≡ false → same_words y x ≡ false
different x y h = by_test (same_words y x) (λ t. no_test (cc (words_same y x t, same-words x))) (λ t. t)

-- The key of the i-th entry.
abbrev pub key_at : List Entry → ℕ → List ℕ
key_at es i = (get_or es i (counted [] 0)).key

-- What stands below the first of sorted entries stands below all.
below_all : (x : List ℕ) (es : List Entry) → Below x es → Sorted es → (i : ℕ) → i < length es → x ≺ key_at es i
unfolding Below Sorted
below_all x [] b s i h = absurd (not-suc-le-zero h)
below_all x (e ∷ es) b s zero h = b
below_all x (e ∷ es) b s (suc i) h = below_all x es (below-trans x e.key es b s.1) s.2 i (omega arith)

-- Of sorted entries an earlier one has the lower key.
ascending : (es : List Entry) → Sorted es → (i j : ℕ) → i < j → j < length es → key_at es i ≺ key_at es j
unfolding Sorted
ascending [] s i j l h = absurd (not-suc-le-zero h)
ascending (e ∷ es) s i zero l h = absurd (not-suc-le-zero l)
ascending (e ∷ es) s zero (suc j) l h = below_all e.key es s.1 s.2 j (omega arith)
ascending (e ∷ es) s (suc i) (suc j) l h = ascending es s.2 i j (omega arith) (omega arith)

-- Where no entry has the key it is missing.
sought_missing : (key : List ℕ) (es : List Entry) → ((i : ℕ) → i < length es → same_words (key_at es i) key ≡ false) → sought_in key es ≡ None
unfolding sought_in when◌then◌else◌
sought_missing key [] h = refl
sought_missing key (e ∷ es) h =
    let first : same_words e.key key ≡ false = h 0 (omega arith) in
    rw (first, sought_missing key es (λ i l. h (suc i) (omega arith)))

-- Where the i-th entry has the key and none before it does, that is the one.
sought_number : (key : List ℕ) (es : List Entry) (i : ℕ) → i < length es → key_at es i ≡ key → ((j : ℕ) → j < i → same_words (key_at es j) key ≡ false)
    → sought_in key es ≡ Some i
unfolding sought_in when◌then◌else◌
sought_number key [] i h is others = absurd (not-suc-le-zero h)
sought_number key (e ∷ es) zero h is others = let first : same_words e.key key ≡ true = rw is (same-words key) in rw first
sought_number key (e ∷ es) (suc i) h is others =
    let first : same_words e.key key ≡ false = others 0 (omega arith) in
    rw (first, sought_number key es i (omega arith) is (λ j l. others (suc j) (omega arith)))

-- The key can only stand between two numbers: the entries before `low` have lower keys, and those from `high` on higher ones.
pub record Between (key : List ℕ) (es : List Entry) (low high : ℕ) : Type 0 where
  pub ordered : low ≤ high
  pub within : high ≤ length es
  pub lower : (i : ℕ) → i < low → key_at es i ≺ key
  pub higher : (i : ℕ) → high ≤ i → i < length es → key ≺ key_at es i

-- A key among sorted entries.
module _ (key : List ℕ) (es : List Entry) where
  -- At first it can stand anywhere.
  pub between_all : Between key es 0 (length es)
  between_all = record { ordered = omega arith; within = omega arith; lower = λ i l. absurd (not-suc-le-zero l); higher = λ i l m. absurd (omega arith) }

  -- Where no entry is left between the two it is missing.
  pub between_none : (low high : ℕ) → Between key es low high → high ≤ low → sought_in key es ≡ None
  between_none low high b done = sought_missing key es other
    where
      other : (i : ℕ) → i < length es → same_words (key_at es i) key ≡ false
      other i h =
          elim (dec_lt i low) [
            | yes l ↦ lower-differs (key_at es i) key (b.lower i l)
            | no l ↦ different key (key_at es i) (lower-differs key (key_at es i) (b.higher i (omega arith) h))
          ]

  module _ (sorted : Sorted es) (low high mid : ℕ) (b : Between key es low high) (from : low ≤ mid) (to : mid < high) where
    -- Past a lower entry it stands behind it.
    pub between_lower : key_at es mid ≺ key → Between key es (mid + 1) high
    between_lower c = record { ordered = omega arith; within = b.within; lower = below; higher = b.higher }
      where
        below : (i : ℕ) → i < mid + 1 → key_at es i ≺ key
        below i h =
            elim (dec_lt i mid) [
              | yes l ↦ ≺-trans (key_at es i) (key_at es mid) key (ascending es sorted i mid l (omega (arith, b.within))) c
              | no l ↦ let z : i ≡ mid = omega arith in rw z c
            ]

    -- Before a higher entry it stands before it.
    pub between_higher : compare_of (key_at es mid) key ≡ Greater → Between key es low mid
    between_higher c = record { ordered = from; within = omega (arith, b.within); lower = b.lower; higher = above }
      where
        above : (i : ℕ) → mid ≤ i → i < length es → key ≺ key_at es i
        above i h m =
            let first : key ≺ key_at es mid = compare_flip (key_at es mid) key ∙ rw c in
            elim (dec_lt mid i) [
              | yes l ↦ ≺-trans key (key_at es mid) (key_at es i) first (ascending es sorted mid i l m)
              | no l ↦ let z : i ≡ mid = omega arith in rw z first
            ]

    -- An equal entry is the one.
    pub between_found : compare_of (key_at es mid) key ≡ Equal → sought_in key es ≡ Some mid
    between_found c =
        let is : key_at es mid ≡ key = compare_equal (key_at es mid) key c in
        sought_number key es mid (omega (arith, b.within)) is
        (λ j l. lower-differs (key_at es j) key (rw is at (ascending es sorted j mid l (omega (arith, b.within)))))

-- ---- what a search says

-- A key that is missing has no entry.
pub sought_lacks : (key : List ℕ) (es : List Entry) → sought_in key es ≡ None → has key es ≡ false
unfolding sought_in has when◌then◌else◌
sought_lacks key [] h = refl
sought_lacks key (e ∷ es) h = go (same_words e.key key) refl (sought_in key es) refl (sought_lacks key es)
  where
    go : (b : Bool) → same_words e.key key ≡ b → (r : Option ℕ) → sought_in key es ≡ r → (sought_in key es ≡ None → has key es ≡ false) → has key (e ∷ es) ≡ false
    go true t r q later = let z : Some 0 ≡ None = rw t at h in never cc
    go false t None q later = rw t (later q)
    go false t (Some i) q later = let z : Some (suc i) ≡ None = rw (t, q) at h in never cc

-- A key that is found has an entry, and the number is that of one.
pub sought_has : (key : List ℕ) (es : List Entry) (i : ℕ) → sought_in key es ≡ Some i → (i < length es) × (has key es ≡ true)
unfolding sought_in has when◌then◌else◌
sought_has key [] i h = never cc
sought_has key (e ∷ es) i h = go (same_words e.key key) refl (sought_in key es) refl (sought_has key es)
  where
    go : (b : Bool) → same_words e.key key ≡ b → (r : Option ℕ) → sought_in key es ≡ r → ((j : ℕ) → sought_in key es ≡ Some j → (j < length es) × (has key es ≡ true))
        → (i < length (e ∷ es)) × (has key (e ∷ es) ≡ true)
    go true t r q later = let z : Some 0 ≡ Some i = rw t at h in let n : 0 ≡ i = cc in (omega arith, rw t)
    go false t None q later = let z : None ≡ Some i = rw (t, q) at h in never cc
    go false t (Some j) q later =
        let z : Some (suc j) ≡ Some i = rw (t, q) at h in
        let n : suc j ≡ i = cc in
        let l = later j q in
        (omega arith, rw t l.1)

-- ---- numbers for the entries

-- There are as many as before.
pub length-each : (f : ℕ → ℕ) (os es : List Entry) (cs : List ℕ) → length (on_each f os es cs) ≡ length cs
unfolding on_each
length-each f os [] cs = refl
length-each f os (e ∷ es) [] = refl
length-each f os (e ∷ es) (c ∷ cs) = ap suc (length-each f os es cs)

-- With no key none is changed.
pub each_none : (f : ℕ → ℕ) (es : List Entry) (cs : List ℕ) → on_each f [] es cs ≡ cs
unfolding on_each has when◌then◌else◌
each_none f [] cs = refl
each_none f (e ∷ es) [] = refl
each_none f (e ∷ es) (c ∷ cs) = rw (each_none f es cs)

-- No count becomes less.
pub tallied-least : (n : ℕ) (os es : List Entry) (cs : List ℕ) (i : ℕ) → get_or cs i 0 ≤ get_or (tallied n os es cs) i 0
unfolding on_each when◌then◌else◌
tallied-least n os [] cs i = omega arith
tallied-least n os (e ∷ es) [] i = omega arith
tallied-least n os (e ∷ es) (c ∷ cs) zero = go (has e.key os)
  where
    go : (b : Bool) → c ≤ (when b then c + n else c)
    go true = omega arith
    go false = omega arith
tallied-least n os (e ∷ es) (c ∷ cs) (suc i) = tallied-least n os es cs i

-- By more keys no count becomes less.
pub tallied-more : (n : ℕ) (os fs es : List Entry) (cs : List ℕ) → ((z : List ℕ) → has z os ≡ true → has z fs ≡ true) → (i : ℕ)
    → get_or (tallied n os es cs) i 0 ≤ get_or (tallied n fs es cs) i 0
unfolding on_each when◌then◌else◌
tallied-more n os fs [] cs h i = omega arith
tallied-more n os fs (e ∷ es) [] h i = omega arith
tallied-more n os fs (e ∷ es) (c ∷ cs) h zero = go (has e.key os) refl (has e.key fs) refl
  where
    go : (a : Bool) → has e.key os ≡ a → (b : Bool) → has e.key fs ≡ b → (when a then c + n else c) ≤ (when b then c + n else c)
    go true p true q = omega arith
    go true p false q = no_test (sym q ∙ h e.key p)
    go false p true q = omega arith
    go false p false q = omega arith
tallied-more n os fs (e ∷ es) (c ∷ cs) h (suc i) = tallied-more n os fs es cs h i

-- Of another turn no mark comes.
pub marked_other : (j turn : ℕ) (os es : List Entry) (ms : List ℕ) → (turn ≡ j → ⊥) → Unmarked j ms → Unmarked j (marked turn os es ms)
unfolding on_each when◌then◌else◌
marked_other j turn os [] ms other u i = u i
marked_other j turn os (e ∷ es) [] other u i = u i
marked_other j turn os (e ∷ es) (m ∷ ms) other u zero = go (has e.key os)
  where
    go : (b : Bool) → (when b then turn else m) ≡ j → ⊥
    go true = other
    go false = u zero
marked_other j turn os (e ∷ es) (m ∷ ms) other u (suc i) = marked_other j turn os es ms other (λ l. u (suc l)) i

-- ---- one key more

-- The second list has one key more than the first, or the same.
module _ (key : List ℕ) (os fs : List Entry) (more : (z : List ℕ) → has z fs ≡ (when same_words key z then true else has z os)) where
  -- It has that key.
  more_own : has key fs ≡ true
  unfolding when◌then◌else◌
  more_own = more key ∙ rw (same-words key)

  -- Another key it has if the first does.
  more_other : (z : List ℕ) → same_words key z ≡ false → has z fs ≡ has z os
  unfolding when◌then◌else◌
  more_other z t = more z ∙ rw t

  module _ (f : ℕ → ℕ) where
    -- For entries above it both lists change the same.
    each-above : (es : List Entry) (cs : List ℕ) → Below key es → Sorted es → on_each f fs es cs ≡ on_each f os es cs
    unfolding on_each Below Sorted
    each-above [] cs b s = refl
    each-above (e ∷ es) [] b s = refl
    each-above (e ∷ es) (c ∷ cs) b s =
        rw (more_other e.key (lower-differs key e.key b), each-above es cs (below-trans key e.key es b s.1) s.2)

    -- What was changed for the first list, and then for the entry of that key, once a turn, is changed for the second.
    pub once_more : (turn : ℕ) (es : List Entry) (ms cs : List ℕ) → Sorted es → length ms ≡ length es → length cs ≡ length es → Unmarked turn ms
        → on_one f turn (sought_in key es) (marked turn os es ms) (on_each f os es cs) ≡ on_each f fs es cs
    unfolding on_one on_each Sorted sought_in when◌then◌else◌
    once_more turn [] ms cs s lm lc u = refl
    once_more turn (e ∷ es) [] cs s lm lc u = absurd (omega arith)
    once_more turn (e ∷ es) (m ∷ ms) [] s lm lc u = absurd (omega arith)
    once_more turn (e ∷ es) (m ∷ ms) (c ∷ cs) s lm lc u =
        go (same_words e.key key) refl (sought_in key es) refl (once_more turn es ms cs s.2 (omega arith) (omega arith) (λ i. u (suc i)))
      where
        own : e.key ≡ key → (b : Bool) → has e.key os ≡ b
            → on_one f turn (Some 0) (marked turn os (e ∷ es) (m ∷ ms)) (on_each f os (e ∷ es) (c ∷ cs)) ≡ on_each f fs (e ∷ es) (c ∷ cs)
        own k true h =
            let first : has e.key fs ≡ true = rw k more_own in
            rw (h, eq-eqb turn turn refl, first, each-above es cs (rw (← k) s.1) s.2)
        own k false h =
            let first : has e.key fs ≡ true = rw k more_own in
            rw (h, ne_eqb m turn (u 0), first, each-above es cs (rw (← k) s.1) s.2)

        go : (b : Bool) → same_words e.key key ≡ b → (r : Option ℕ) → sought_in key es ≡ r
            → on_one f turn (sought_in key es) (marked turn os es ms) (on_each f os es cs) ≡ on_each f fs es cs
            → on_one f turn (sought_in key (e ∷ es)) (marked turn os (e ∷ es) (m ∷ ms)) (on_each f os (e ∷ es) (c ∷ cs)) ≡ on_each f fs (e ∷ es) (c ∷ cs)
        go true t r q later = rw t (own (words_same e.key key t) (has e.key os) refl)
        go false t None q later = rw (t, q, more_other e.key (different e.key key t)) (ap (λ (l : List ℕ). (when has e.key os then f c else c) ∷ l) (rw q at later))
        go false t (Some j) q later = rw (t, q, more_other e.key (different e.key key t)) (tail (eqb (get_or (marked turn os es ms) j 0) turn) refl (rw q at later))
          where
            tail : (b : Bool) → eqb (get_or (marked turn os es ms) j 0) turn ≡ b
                → (when eqb (get_or (marked turn os es ms) j 0) turn then on_each f os es cs else set (on_each f os es cs) j (f (get_or (on_each f os es cs) j 0))) ≡ on_each f fs es cs
                → (when eqb (get_or (marked turn os es ms) j 0) turn then ((when has e.key os then f c else c) ∷ on_each f os es cs)
                else ((when has e.key os then f c else c) ∷ set (on_each f os es cs) j (f (get_or (on_each f os es cs) j 0)))) ≡ ((when has e.key os then f c else c) ∷ on_each f fs es cs)
            tail true p ih = rw p (ap (λ (l : List ℕ). (when has e.key os then f c else c) ∷ l) (rw p at ih))
            tail false p ih = rw p (ap (λ (l : List ℕ). (when has e.key os then f c else c) ∷ l) (rw p at ih))

-- ---- all keys

-- The test for keys passes where each key of the first list has an entry among the second.
pub each-known : (os es : List Entry) → ((o : Entry) → o ∈ os → has o.key es ≡ true) → has_all os es ≡ true
unfolding has_all
each-known [] es h = refl
each-known (o ∷ os) es h = and_both (h o (here refl)) (each-known os es (λ i m. h i (there m)))

-- It passes only where each has one.
pub known-each : (os es : List Entry) → has_all os es ≡ true → (o : Entry) → o ∈ os → has o.key es ≡ true
unfolding has_all
known-each [] es h i m = absurd (Memᴰ.not-nil m)
known-each (o ∷ os) es h i (here q) = rw q (and_left _ _ h)
known-each (o ∷ os) es h i (there m) = known-each os es (and_right _ _ h) i m

-- It passes where the second list has each key that the first has.
pub all_known_lem : (os es : List Entry) → ((z : List ℕ) → has z os ≡ true → has z es ≡ true) → has_all os es ≡ true
all_known_lem os es h = each-known os es (λ o m. h o.key (entry_has o.key m refl))

-- It fails where the first list has a key that the second lacks.
pub one-unknown : (z : List ℕ) (os es : List Entry) → has z os ≡ true → has z es ≡ false → has_all os es ≡ false
one-unknown z os es known lacks =
    by_test (has_all os es)
    (λ h. let o = has-entry z os known in no_test (sym lacks ∙ ap (λ (y : List ℕ). has y es) (sym o.2) ∙ known-each os es h o.0 o.1))
    (λ h. h)
