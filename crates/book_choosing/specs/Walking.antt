-- Inner: no promise rests on these definitions.
-- What the functions of `book_rules` and `book_choose` find at each rule and at each line. Assumes nothing: these are definitions.
use Rattle.std.specs.Prelude.{ℕ, ◌+◌, ◌*◌, ◌-◌, Bool, true, false, not, List, [], ◌∷◌, map, leb, eqb, length, get_or, take, drop, None, Option, Some, Result, Ok, Err}
use Rattle.words.specs.Base.{when◌then◌else◌}
use Rattle.figures.specs.Numbers.{no_image, two_images, no_rules}
use Rattle.figures.specs.Refusals.{refusal_number}
use Rattle.figures.specs.declared.refusals.Refusal.{Refusal}
use Rattle.order.specs.Trees.{cut, subtrees}
use Rattle.order.specs.Reading.{by_order, order_of}
use Rattle.book_choosing.specs.Rules.{ImageRule, sound_rule, rules_from, by_rules}
use Rattle.book_choosing.specs.Choosing.{is_one_of, images_for, chosen, unchosen, chosen_by}
use Rattle.book_choosing.specs.declared.Chosen.{Chosen}
use Rattle.book_choosing.specs.declared.Named.{Named}
use Rattle.book_choosing.specs.declared.Named.TheVariants.{Nothing, One, Two}

-- The word past the rule at a word, by its number of nodes.
abbrev pub rule_past : List ℕ → ℕ → ℕ
rule_past rs at = at + 2 + 2 * get_or rs (at + 1) 0

-- The rule at a word that ends before another.
abbrev pub rule_within : List ℕ → ℕ → ℕ → ImageRule
rule_within rs at end = record { image = get_or rs at 0; tree = take (end - (at + 2)) (drop (at + 2) rs) }

-- What stands at a word of a rule list.
unfoldable pub rule_at_of : ℕ → List ℕ → ℕ → Option ℕ
rule_at_of k rs at =
    when not (leb (at + 2) (length rs)) then None else
    when not (leb (rule_past rs at) (length rs)) then None else
    when not (sound_rule k (rule_within rs at (rule_past rs at))) then None else
    Some (rule_past rs at)

-- Whether the cut at d of one of the order's subtrees has the words of a tree, from a line on, the lines counted from 0.
unfoldable pub cut_from : List ℕ → ℕ → List ℕ → ℕ → Bool
cut_from os d tree line = by_order (order_of os) (λ n. false) (λ t. is_one_of tree (map (λ s. cut s d) (drop line (subtrees t))))

-- What is named once one more rule fits.
unfoldable pub also_of : Named → ℕ → Named
also_of Nothing i = One i
also_of (One j) i = when eqb i j then One j else Two
also_of Two i = Two

-- Whether one more rule with this image changes what is named.
unfoldable pub would_change : Named → ℕ → Bool
would_change Nothing i = true
would_change (One j) i = not (eqb i j)
would_change Two i = false

-- What is answered for an image, and for a refusal.
abbrev pub chosen_told : Result ℕ Refusal → Chosen
chosen_told (Ok i) = chosen i
chosen_told (Err r) = unchosen (refusal_number r)

-- What is chosen by what is named.
unfoldable pub told_of : Named → Chosen
told_of Nothing = unchosen no_image
told_of (One i) = chosen i
told_of Two = unchosen two_images

-- What is named once these rules fit too.
unfoldable pub also_all : Named → List ℕ → Named
also_all n [] = n
also_all n (i ∷ is) = also_all (also_of n i) is

-- What is chosen for an order by a rule list.
unfoldable pub chosen_for : ℕ → List ℕ → List ℕ → Chosen
chosen_for k os rs = by_order (order_of os) unchosen (λ t. chosen_by k t rs)

-- The same where some rules have been looked at: these name an image or not, and so many are left from a word of the list on.
unfoldable pub chosen_from : ℕ → List ℕ → List ℕ → Named → ℕ → ℕ → Chosen
chosen_from k os rs named left at =
    by_order (order_of os) unchosen (λ t.
    by_rules (rules_from k left (drop at rs)) (unchosen no_rules) (λ rules. told_of (also_all named (images_for k t rules))))
