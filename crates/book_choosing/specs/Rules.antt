-- Rule lists and their words (02, "Choose the firmware image"). Assumes nothing: these are definitions.
use Rattle.std.specs.Prelude.{ℕ, zero, suc, ◌*◌, ◌-◌, Bool, true, false, not, List, [], ◌∷◌, leb, length, take, drop, Option, None, Some}
use Rattle.words.specs.Base.{◌and◌, when◌then◌else◌, within}
use Rattle.figures.specs.Limits.{most_rules, least_image, greatest_image}
use Rattle.order.specs.Fits.{fits_of}

-- A rule: orders with this part are built with this image. The part is a tree's words.
pub record ImageRule : Type 0 where
  pub image : ℕ
  pub tree : List ℕ

-- "an image number 1 to 65,535", and "one tree by 01's rules for orders" that is not "deeper than k-1"
unfoldable pub sound_rule : ℕ → ImageRule → Bool
sound_rule k r = within least_image greatest_image r.image and fits_of 0 (k - 1) r.tree

-- A rule, sound or not, put before others, which may be missing.
unfoldable pub rule_before : Bool → ImageRule → Option (List ImageRule) → Option (List ImageRule)
rule_before false r l = None
rule_before true r None = None
rule_before true r (Some l) = Some (r ∷ l)

-- The n rules that words are: "for each an image number", "a number of nodes and that many nodes", of two words each, "with nothing after the last".
-- None where they are not so laid out.
unfoldable pub rules_from : ℕ → ℕ → List ℕ → Option (List ImageRule)
rules_from k zero [] = Some []
rules_from k zero (w ∷ ws) = None
rules_from k (suc n) [] = None
rules_from k (suc n) (image ∷ []) = None
rules_from k (suc n) (image ∷ nodes ∷ ws) =
    let r : ImageRule = record { image = image; tree = take (2 * nodes) ws } in
    rule_before (leb (2 * nodes) (length ws) and sound_rule k r) r (rules_from k n (drop (2 * nodes) ws))

-- The rules of a list: "the number of rules, 0 to 64, then" the rules.
unfoldable pub rules_of : ℕ → List ℕ → Option (List ImageRule)
rules_of k [] = None
rules_of k (n ∷ ws) = when not (leb n most_rules) then None else rules_from k n ws

-- What follows the rules of a list, and what stands where there is no list.
unfoldable pub by_rules {ℓ} : {A : Type ℓ} → Option (List ImageRule) → A → (List ImageRule → A) → A
by_rules None a f = a
by_rules (Some l) a f = f l
