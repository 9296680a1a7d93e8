-- The pass over a rule list: what stands at a word of it, and that the rules left and what is named so far decide what is chosen. Assumes nothing.
use Rattle.std.specs.Prelude.{None, Option, Some}
use Prim.Native.Nat.{ℕ, suc, ◌+◌, ◌*◌, ◌-◌, ◌/◌, ◌≤◌, ◌<◌}
use mathlib.Core.Path.{◌≡◌, refl, ap, ap₂, sym, subst, ◌∙◌}
use mathlib.Core.Bool.{Bool, true, false, not}
use mathlib.Core.List.{List, [], ◌∷◌}
use native.Mathlib.Omega.{arith}
use borrow.Author.Tests.{leb-true, leb-false, le-leb, lt-leb}
use lib.Dec.{leb, eqb}
use lib.ListN.{length, get_or, take, drop, length-drop, drop_of_length-le}
use lib.Seq.{drop-drop, length-take-le}
use Rattle.words.specs.Base.{◌and◌, when◌then◌else◌, keep}
use Rattle.words.proofs.Tests.{by_test, either, no_test, and_right}
use Rattle.figures.specs.Limits.{most_rules, least_image, greatest_image, least_k}
use Rattle.figures.specs.Numbers.{done, no_rules}
use Rattle.order.specs.Trees.{Tree}
use Rattle.order.specs.Reading.{by_order, order_of, cause_of}
use Rattle.order.specs.Fits.{fits_of}
use Rattle.order.proofs.Causes.{has-tree}
use Rattle.order.proofs.Writing.{two}
use Rattle.book_choosing.specs.Rules.{ImageRule, sound_rule, rule_before, rules_from, rules_of, by_rules}
use Rattle.book_choosing.specs.Choosing.{rule_fits, images_for, unchosen, all_are, one_image, chosen_by}
use Rattle.book_choosing.specs.Walking.{rule_past, rule_within, rule_at_of, cut_from, also_of, would_change, also_all, told_of, chosen_for, chosen_from}
use Rattle.book_choosing.specs.declared.Chosen.{Chosen}
use Rattle.book_choosing.specs.declared.Named.{Named}
use Rattle.book_choosing.specs.declared.Named.TheVariants.{Nothing, One, Two}
use Rattle.book_choosing.proofs.Fitting.{cuts_fit}

-- ---- what stands at a word

-- A rule of the list stands at a word and ends before another; what is read from there on is this rule and what is read behind it.
pub record OneThere (k : ℕ) (rs : List ℕ) (at end : ℕ) : Type 0 where
  pub some-nodes : at + 2 < end
  pub lies : end ≤ length rs
  read : (n : ℕ) → rules_from k (suc n) (drop at rs) ≡ rule_before true (rule_within rs at end) (rules_from k n (drop end rs))

-- What each case of what stands there says.
abbrev pub AtRule : ℕ → List ℕ → ℕ → Option ℕ → Type 0
AtRule k rs at None = (n : ℕ) → rules_from k (suc n) (drop at rs) ≡ None
AtRule k rs at (Some end) = OneThere k rs at end

-- A sound rule's tree has words.
sound-some : (k image : ℕ) (ws : List ℕ) → sound_rule k (record { image = image; tree = ws }) ≡ true → 0 < length ws
unfolding sound_rule fits_of order_of by_order when◌then◌else◌
sound-some k image [] e = no_test (and_right _ _ e)
sound-some k image (w ∷ ws) e = omega arith

module _ (k : ℕ) (rs : List ℕ) (at : ℕ) where
  -- Where two words are not there nothing is read.
  rules-short : (n : ℕ) → length rs < at + 2 → rules_from k (suc n) (drop at rs) ≡ None
  unfolding rules_from
  rules-short n h = go (drop at rs) (omega (arith, length-drop at rs))
    where
      go : (ws : List ℕ) → length ws < 2 → rules_from k (suc n) ws ≡ None
      go [] l = refl
      go (w ∷ []) l = refl
      go (w ∷ v ∷ ws) l = absurd (omega arith)

  -- Where they are, what is read there is put before what is read behind it, if it lies within the list and is sound.
  rules-next : (n : ℕ) → at + 2 ≤ length rs
      → rules_from k (suc n) (drop at rs)
      ≡ rule_before (leb (rule_past rs at) (length rs) and sound_rule k (rule_within rs at (rule_past rs at))) (rule_within rs at (rule_past rs at)) (rules_from k n (drop (rule_past rs at) rs))
  unfolding rules_from
  rules-next n h =
      let m : ℕ = 2 * get_or rs (at + 1) 0 in
      let w : List ℕ = drop (at + 2) rs in
      let width : m ≡ rule_past rs at - (at + 2) = omega arith in
      let lies : leb m (length w) ≡ leb (rule_past rs at) (length rs) =
      either _ _
      (λ e. le-leb (rule_past rs at) (length rs) (omega (arith, leb-true m (length w) e, length-drop (at + 2) rs)))
      (λ e. le-leb m (length w) (omega (arith, leb-true (rule_past rs at) (length rs) e, length-drop (at + 2) rs))) in
      let rule : record { image = get_or rs at 0; tree = take m w } ≡ rule_within rs at (rule_past rs at) =
      ap (λ (j : ℕ). record { image = get_or rs at 0; tree = take j w }) width in
      ap (rules_from k (suc n)) (two rs at h)
      ∙ ap₂ (λ (b : Bool) (ws : List ℕ). rule_before (b and sound_rule k (record { image = get_or rs at 0; tree = take m w })) (record { image = get_or rs at 0; tree = take m w }) (rules_from k n ws)) lies (drop-drop m (at + 2) rs)
      ∙ ap (λ (r : ImageRule). rule_before (leb (rule_past rs at) (length rs) and sound_rule k r) r (rules_from k n (drop (rule_past rs at) rs))) rule

  -- What is told of a word is so.
  rule-there : AtRule k rs at (rule_at_of k rs at)
  unfolding rule_at_of when◌then◌else◌ ◌and◌ rule_before
  rule-there = go (leb (at + 2) (length rs)) refl (leb (rule_past rs at) (length rs)) refl (sound_rule k (rule_within rs at (rule_past rs at))) refl
    where
      go : (a : Bool) → leb (at + 2) (length rs) ≡ a → (b : Bool) → leb (rule_past rs at) (length rs) ≡ b → (c : Bool) → sound_rule k (rule_within rs at (rule_past rs at)) ≡ c
          → AtRule k rs at (when not a then None else (when not b then None else (when not c then None else Some (rule_past rs at))))
      go false e b f c g = λ n. rules-short n (leb-false (at + 2) (length rs) e)
      go true e false f c g = λ n. rules-next n (leb-true (at + 2) (length rs) e) ∙ rw f
      go true e true f false g = λ n. rules-next n (leb-true (at + 2) (length rs) e) ∙ rw (f, g)
      go true e true f true g =
          let tree : length (take (rule_past rs at - (at + 2)) (drop (at + 2) rs)) ≡ rule_past rs at - (at + 2) =
          length-take-le (rule_past rs at - (at + 2)) (drop (at + 2) rs) (omega (arith, leb-true (rule_past rs at) (length rs) f, length-drop (at + 2) rs)) in
          record {
            some-nodes = omega (arith, sound-some k _ _ g, tree);
            lies = leb-true (rule_past rs at) (length rs) f;
            read = λ n. rules-next n (leb-true (at + 2) (length rs) e) ∙ rw (f, g);
          }

  -- So it is of what is found there.
  pub rule_found : (w v : Option ℕ) → w ≡ rule_at_of k rs at → w ≡ v → AtRule k rs at v
  rule_found w v e f = subst (AtRule k rs at) (sym e ∙ f) rule-there

-- ---- what the tests of a word tell

module _ (k : ℕ) (rs : List ℕ) (at : ℕ) where
  -- Two words are not there.
  pub told-short : length rs - at < 2 → None ≡ rule_at_of k rs at
  unfolding rule_at_of when◌then◌else◌
  told-short h = rw (lt-leb (at + 2) (length rs) (omega arith)) refl

  module _ (two-there : at + 2 ≤ length rs) where
    -- The tree does not end within the list.
    pub told-cut_off : (length rs - (at + 2)) / 2 < get_or rs (at + 1) 0 → None ≡ rule_at_of k rs at
    unfolding rule_at_of when◌then◌else◌
    told-cut_off h = rw (le-leb (at + 2) (length rs) two-there, lt-leb (rule_past rs at) (length rs) (omega arith)) refl

    module _ (lies : rule_past rs at ≤ length rs) where
      -- The image or the tree is at fault.
      pub told-fault : sound_rule k (rule_within rs at (rule_past rs at)) ≡ false → None ≡ rule_at_of k rs at
      unfolding rule_at_of when◌then◌else◌
      told-fault e = rw (le-leb (at + 2) (length rs) two-there, le-leb (rule_past rs at) (length rs) lies, e) refl

      -- Neither is.
      pub told-rule : sound_rule k (rule_within rs at (rule_past rs at)) ≡ true → Some (rule_past rs at) ≡ rule_at_of k rs at
      unfolding rule_at_of when◌then◌else◌
      told-rule e = rw (le-leb (at + 2) (length rs) two-there, le-leb (rule_past rs at) (length rs) lies, e) refl

-- A rule whose image is 0 is at fault,
pub image-fault : (k : ℕ) (r : ImageRule) → r.image < least_image → sound_rule k r ≡ false
unfolding sound_rule ◌and◌
image-fault k r h = rw (lt-leb least_image r.image h)

-- and any other word is an image: the tree decides.
pub image-sound : (k : ℕ) (r : ImageRule) → least_image ≤ r.image → r.image ≤ greatest_image → sound_rule k r ≡ fits_of 0 (k - 1) r.tree
unfolding sound_rule ◌and◌
image-sound k r l g = rw (le-leb least_image r.image l, le-leb r.image greatest_image g)

-- ---- what is named

-- A rule that would not change what is named leaves it.
pub named_stays : (named : Named) (i : ℕ) → would_change named i ≡ false → also_of named i ≡ named
unfolding would_change also_of when◌then◌else◌
named_stays Nothing i e = no_test (sym e)
named_stays (One j) i e = by_test (eqb i j) (λ h. rw h) (λ h. no_test (sym (rw h at e)))
named_stays Two i e = refl

-- Whether such a rule fits does not matter.
pub fits-or_not : (b : Bool) (named : Named) (i : ℕ) → also_of named i ≡ named → named ≡ (when b then also_of named i else named)
unfolding when◌then◌else◌
fits-or_not true named i e = sym e
fits-or_not false named i e = refl

-- Once two differ nothing changes that.
two_stay : (is : List ℕ) → also_all Two is ≡ Two
unfolding also_all also_of
two_stay [] = refl
two_stay (i ∷ is) = two_stay is

-- What is named behind one image.
named_behind : (i : ℕ) (is : List ℕ) → told_of (also_all (One i) is) ≡ told_of (when not (all_are i is) then Two else One i)
unfolding also_all also_of all_are when◌then◌else◌ ◌and◌
named_behind i [] = refl
named_behind i (j ∷ js) =
    by_test (eqb j i)
    (λ e. rw e (named_behind i js))
    (λ e. rw (e, two_stay js) refl)

-- What is named in the end is what all the images come to.
named_all : (is : List ℕ) → told_of (also_all Nothing is) ≡ one_image is
unfolding also_all also_of one_image told_of when◌then◌else◌
named_all [] = refl
named_all (i ∷ is) = named_behind i is ∙ by_test (all_are i is) (λ e. rw e) (λ e. rw e)

-- ---- what is chosen

-- A rule put before others is looked at before them.
rule-first : (x : Option (List ImageRule)) (r : ImageRule) (a : Chosen) (f : List ImageRule → Chosen) → by_rules (rule_before true r x) a f ≡ by_rules x a (λ l. f (r ∷ l))
unfolding by_rules rule_before
rule-first None r a f = refl
rule-first (Some l) r a f = refl

-- The images of the rules that fit begin with that of a first one that fits,
images_fit : (k : ℕ) (t : Tree) (r : ImageRule) (l : List ImageRule) → rule_fits k t r ≡ true → images_for k t (r ∷ l) ≡ r.image ∷ images_for k t l
unfolding images_for keep when◌then◌else◌
images_fit k t r l e = rw e

-- and one that does not fit has none among them.
images_past : (k : ℕ) (t : Tree) (r : ImageRule) (l : List ImageRule) → rule_fits k t r ≡ false → images_for k t (r ∷ l) ≡ images_for k t l
unfolding images_for keep when◌then◌else◌
images_past k t r l e = rw e

module _ (k : ℕ) (os rs : List ℕ) (sound : cause_of os ≡ done) where
  -- The order's tree.
  abbrev t : Tree
  t = (has-tree os sound).tree

  -- What is chosen, by the tree.
  for_tree : chosen_for k os rs ≡ chosen_by k t rs
  unfolding chosen_for by_order
  for_tree = rw (has-tree os sound).passes.is

  -- What is chosen by the rules left, by the tree.
  from_tree : (named : Named) (left at : ℕ)
      → chosen_from k os rs named left at ≡ by_rules (rules_from k left (drop at rs)) (unchosen no_rules) (λ l. told_of (also_all named (images_for k t l)))
  unfolding chosen_from by_order
  from_tree named left at = rw (has-tree os sound).passes.is

  -- No words are no list.
  pub no_words : length rs ≡ 0 → chosen_for k os rs ≡ unchosen no_rules
  unfolding chosen_by by_rules rules_of
  no_words e = for_tree ∙ go rs e
    where
      go : (ws : List ℕ) → length ws ≡ 0 → chosen_by k t ws ≡ unchosen no_rules
      go [] f = refl
      go (w ∷ ws) f = absurd (omega arith)

  -- Nor are over 64 rules.
  pub too_many-rules : most_rules < get_or rs 0 0 → chosen_for k os rs ≡ unchosen no_rules
  unfolding chosen_by by_rules rules_of when◌then◌else◌
  too_many-rules h = for_tree ∙ go rs h
    where
      go : (ws : List ℕ) → most_rules < get_or ws 0 0 → chosen_by k t ws ≡ unchosen no_rules
      go [] l = refl
      go (n ∷ ws) l = rw (lt-leb n most_rules l)

  -- Otherwise the rules from word 1 on decide.
  pub all_left : 0 < length rs → get_or rs 0 0 ≤ most_rules → chosen_for k os rs ≡ chosen_from k os rs Nothing (get_or rs 0 0) 1
  unfolding chosen_by rules_of when◌then◌else◌ by_rules
  all_left any few = for_tree ∙ go rs any few ∙ sym (from_tree Nothing (get_or rs 0 0) 1)
    where
      -- By what is read of the rules.
      by : (x : Option (List ImageRule)) → by_rules x (unchosen no_rules) (λ l. one_image (images_for k t l)) ≡ by_rules x (unchosen no_rules) (λ l. told_of (also_all Nothing (images_for k t l)))
      by None = refl
      by (Some l) = sym (named_all (images_for k t l))

      go : (ws : List ℕ) → 0 < length ws → get_or ws 0 0 ≤ most_rules
          → chosen_by k t ws ≡ by_rules (rules_from k (get_or ws 0 0) (drop 1 ws)) (unchosen no_rules) (λ l. told_of (also_all Nothing (images_for k t l)))
      go [] l m = absurd (omega arith)
      go (n ∷ ws) l m = rw (le-leb n most_rules m) (by (rules_from k n ws))

  -- Past the last rule nothing may follow,
  pub words-behind : (named : Named) (at : ℕ) → at < length rs → chosen_from k os rs named 0 at ≡ unchosen no_rules
  unfolding rules_from by_rules
  words-behind named at h = from_tree named 0 at ∙ go (drop at rs) (omega (arith, length-drop at rs))
    where
      go : (ws : List ℕ) → 0 < length ws → by_rules (rules_from k 0 ws) (unchosen no_rules) (λ l. told_of (also_all named (images_for k t l))) ≡ unchosen no_rules
      go [] l = absurd (omega arith)
      go (w ∷ ws) l = refl

  -- and what was named is chosen.
  pub all-looked-at : (named : Named) → chosen_from k os rs named 0 (length rs) ≡ told_of named
  unfolding rules_from by_rules images_for keep also_all
  all-looked-at named = from_tree named 0 (length rs) ∙ rw (drop_of_length-le rs {i = length rs} (omega arith)) refl

  module _ (named : Named) (left at : ℕ) (more : 0 < left) where
    -- One rule is left, and others behind it.
    one_more : left ≡ suc (left - 1)
    one_more = omega arith

    -- Where none stands there is no list.
    pub no_rule : AtRule k rs at None → chosen_from k os rs named left at ≡ unchosen no_rules
    unfolding by_rules
    no_rule x =
        from_tree named left at
        ∙ ap (λ (y : Option (List ImageRule)). by_rules y (unchosen no_rules) (λ l. told_of (also_all named (images_for k t l)))) (ap (λ (n : ℕ). rules_from k n (drop at rs)) one_more ∙ x (left - 1))

    module _ (end : ℕ) (two-k : least_k ≤ k) (x : OneThere k rs at end) where
      -- The rule that stands there.
      abbrev rule : ImageRule
      rule = rule_within rs at end

      -- It fits just if its tree is among the cuts of the order's lines.
      fits-by_cut : rule_fits k t rule ≡ cut_from os (k - 1) rule.tree 0
      unfolding rule_fits cut_from by_order
      fits-by_cut = sym (cuts_fit k t rule.tree two-k) ∙ sym (rw (has-tree os sound).passes.is refl)

      -- What is chosen, by that rule and those behind it.
      turned : chosen_from k os rs named left at ≡ by_rules (rules_from k (left - 1) (drop end rs)) (unchosen no_rules) (λ l. told_of (also_all named (images_for k t (rule ∷ l))))
      turned =
          from_tree named left at
          ∙ ap (λ (y : Option (List ImageRule)). by_rules y (unchosen no_rules) (λ l. told_of (also_all named (images_for k t l)))) (ap (λ (n : ℕ). rules_from k n (drop at rs)) one_more ∙ x.read (left - 1))
          ∙ rule-first (rules_from k (left - 1) (drop end rs)) rule (unchosen no_rules) (λ l. told_of (also_all named (images_for k t l)))

      -- By what each list of rules behind it gives.
      behind : (now : Named) → ((l : List ImageRule) → also_all named (images_for k t (rule ∷ l)) ≡ also_all now (images_for k t l))
          → chosen_from k os rs named left at ≡ chosen_from k os rs now (left - 1) end
      unfolding by_rules
      behind now f = turned ∙ go (rules_from k (left - 1) (drop end rs)) ∙ sym (from_tree now (left - 1) end)
        where
          go : (y : Option (List ImageRule)) → by_rules y (unchosen no_rules) (λ l. told_of (also_all named (images_for k t (rule ∷ l)))) ≡ by_rules y (unchosen no_rules) (λ l. told_of (also_all now (images_for k t l)))
          go None = refl
          go (Some l) = ap told_of (f l)

      -- It is named too if it fits.
      looked_at : chosen_from k os rs named left at
          ≡ chosen_from k os rs (when cut_from os (k - 1) rule.tree 0 then also_of named (get_or rs at 0) else named) (left - 1) end
      unfolding also_all when◌then◌else◌
      looked_at =
          by_test (cut_from os (k - 1) rule.tree 0)
          (λ e. rw e (behind (also_of named (get_or rs at 0)) (λ l. ap (also_all named) (images_fit k t rule l (fits-by_cut ∙ e)))))
          (λ e. rw e (behind named (λ l. ap (also_all named) (images_past k t rule l (fits-by_cut ∙ e)))))

      -- So what is named then, by the cuts at k-1, and the rules behind it decide.
      pub rule-looked_at : (d : ℕ) (now : Named) → d ≡ k - 1 → now ≡ (when cut_from os d rule.tree 0 then also_of named (get_or rs at 0) else named)
          → chosen_from k os rs named left at ≡ chosen_from k os rs now (left - 1) end
      rule-looked_at d now e f = rw (f, e) looked_at
