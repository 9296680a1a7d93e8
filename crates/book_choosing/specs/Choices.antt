-- The rows of 02, "Choose the firmware image": why an image is chosen or refused, by document 000's l and p and by the words of a list of rules,
-- apart from the tests of `choose_of`. That choosing answers exactly by these rows is shown in proofs/Choices.antt. Assumes nothing: these are
-- definitions.
use Rattle.std.specs.Prelude.{ℕ, ◌/◌, ◌-◌, ◌≤◌, ◌≡◌, List, [], ◌∷◌, ◌++◌, length}
use Rattle.words.specs.Base.{◌∈◌}
use Rattle.figures.specs.Limits.{most_rules, least_image, greatest_image}
use Rattle.figures.specs.Numbers.{done, no_image, two_images, no_rules}
use Rattle.figures.specs.declared.Answer.{Answer}
use Rattle.order.specs.Trees.{Tree, words}
use Rattle.order.specs.Fits.{Fits}
use Rattle.order.specs.Paper.{IsL, IsP}
use Rattle.book_judging.specs.Verdicts.{Judged, PassesBy}
use Rattle.book_choosing.specs.Rules.{ImageRule}
use Rattle.book_choosing.specs.Choosing.{chosen, refused_by, unchosen}
use Rattle.book_choosing.specs.declared.Chosen.{Chosen}

-- "an image number", "a number of nodes and that many nodes": a node has two words.
abbrev pub rule_words : ImageRule → List ℕ
rule_words r = r.image ∷ (length r.tree / 2) ∷ r.tree

-- The words of rules, one behind the other.
unfoldable pub rules_words : List ImageRule → List ℕ
rules_words [] = []
rules_words (r ∷ rs) = rule_words r ++ rules_words rs

-- "an image number 1 to 65,535", and "one tree by 01's rules for orders", not "deeper than k-1".
pub record IsRule (k : ℕ) (r : ImageRule) : Type 0 where
  pub least : least_image ≤ r.image
  pub greatest : r.image ≤ greatest_image
  pub tree : Fits 0 (k - 1) r.tree

-- The words are a list of these rules: "the number of rules, 0 to 64, then for each" its words, "with nothing after the last".
pub record IsRules (k : ℕ) (rs : List ℕ) (rules : List ImageRule) : Type 0 where
  pub few : length rules ≤ most_rules
  pub each : (r : ImageRule) → r ∈ rules → IsRule k r
  pub spelt : rs ≡ length rules ∷ rules_words rules

-- "A rule fits an order if its tree is one of that order's low or middle parts at the book's k": by document 000, l of index k-1 and p of index k.
pub data FitsBy (k : ℕ) (t : Tree) (r : ImageRule) : Type 0 where
  as_low : (u : Tree) → r.tree ≡ words u → IsL (k - 1) t u → FitsBy k t r
  as_middle : (u : Tree) → r.tree ≡ words u → IsP k t u → FitsBy k t r

-- Why c is chosen for an order that passes.
pub data Choice (k : ℕ) (t : Tree) (rs : List ℕ) (c : Chosen) : Type 0 where
  -- 32: "a rule list not so laid out or a rule tree deeper than k-1": the words of no list of rules
  no_list : c ≡ unchosen no_rules → ((rules : List ImageRule) → IsRules k rs rules → ⊥) → Choice k t rs c
  -- 30: "no rule fits"
  none_fits : (rules : List ImageRule) → c ≡ unchosen no_image → IsRules k rs rules → ((r : ImageRule) → r ∈ rules → FitsBy k t r → ⊥)
      → Choice k t rs c
  -- 31: "two that fit differ"
  two_differ : (rules : List ImageRule) (r s : ImageRule) → c ≡ unchosen two_images → IsRules k rs rules → r ∈ rules → s ∈ rules
      → FitsBy k t r → FitsBy k t s → (r.image ≡ s.image → ⊥) → Choice k t rs c
  -- 0: "the image when at least one rule fits and all that fit name the same one"
  all_name : (rules : List ImageRule) (r : ImageRule) → c ≡ chosen r.image → IsRules k rs rules → r ∈ rules → FitsBy k t r
      → ((s : ImageRule) → s ∈ rules → FitsBy k t s → s.image ≡ r.image) → Choice k t rs c

-- Why choosing answers c: "judge's own checks and verdict first", and then by the rules.
pub data WhyChosen (ws os rs : List ℕ) (c : Chosen) : Type 0 where
  -- 4, 5, 1, 2, 20, 21, 22, with judge's line: "A refusal gives image 0."
  by_judging : (a : Answer) → c ≡ refused_by a → Judged ws os a → (a.number ≡ done → ⊥) → WhyChosen ws os rs c
  -- 32, 30, 31, or 0 with the image
  by-rules : (p : PassesBy ws os) → Choice p.lent.book.k p.lent.tree rs c → WhyChosen ws os rs c
