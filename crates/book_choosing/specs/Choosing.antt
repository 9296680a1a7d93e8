-- What `choose` answers, for all inputs (02, "Choose the firmware image"). Assumes nothing: these are definitions.
use Rattle.std.specs.Prelude.{ℕ, Bool, true, false, not, List, [], ◌∷◌, ◌++◌, map, eqb}
use Rattle.words.specs.Base.{◌and◌, when◌then◌else◌, same_words, keep}
use Rattle.figures.specs.Numbers.{done, no_image, two_images, no_rules}
use Rattle.figures.specs.declared.Answer.{Answer}
use Rattle.order.specs.Trees.{Tree, words}
use Rattle.order.specs.Reading.{by_order, order_of}
use Rattle.order.specs.Parts.{low_parts, middle_parts}
use Rattle.book.specs.Decoding.{on_book}
use Rattle.book_judging.specs.Judging.{verdict}
use Rattle.book_choosing.specs.Rules.{ImageRule, rules_of, by_rules}
use Rattle.book_choosing.specs.declared.Chosen.{Chosen}

-- The words are those of one of the trees.
unfoldable pub is_one_of : List ℕ → List Tree → Bool
is_one_of ws [] = false
is_one_of ws (t ∷ ts) = when same_words (words t) ws then true else is_one_of ws ts

-- "A rule fits an order if its tree is one of that order's low or middle parts at the book's k."
unfoldable pub rule_fits : ℕ → Tree → ImageRule → Bool
rule_fits k t r = is_one_of r.tree (low_parts k t ++ middle_parts k t)

-- The images of the rules that fit, in the list's order.
unfoldable pub images_for : ℕ → Tree → List ImageRule → List ℕ
images_for k t rules = map (λ r. r.image) (keep (rule_fits k t) rules)

-- The image to build, with number 0 and line 0.
abbrev pub chosen : ℕ → Chosen
chosen i = record { number = done; line = 0; image = i }

-- "A refusal gives image 0", and its line is judge's.
abbrev pub refused_by : Answer → Chosen
refused_by a = record { number = a.number; line = a.line; image = 0 }

-- A refusal by a number, with line 0.
abbrev pub unchosen : ℕ → Chosen
unchosen n = record { number = n; line = 0; image = 0 }

-- Each of the images is this one.
unfoldable pub all_are : ℕ → List ℕ → Bool
all_are i [] = true
all_are i (j ∷ js) = eqb j i and all_are i js

-- "The answer is the image when at least one rule fits and all that fit name the same one": by the images of the rules that fit.
unfoldable pub one_image : List ℕ → Chosen
one_image [] = unchosen no_image
one_image (i ∷ is) = when not (all_are i is) then unchosen two_images else chosen i

-- "then 32 for a rule list not so laid out or a rule tree deeper than k-1, then 30 exactly if no rule fits, 31 exactly if two that fit differ"
unfoldable pub chosen_by : ℕ → Tree → List ℕ → Chosen
chosen_by k t rs = by_rules (rules_of k rs) (unchosen no_rules) (λ rules. one_image (images_for k t rules))

-- The verdict before what follows it.
unfoldable pub after_verdict : Answer → Chosen → Chosen
after_verdict a c = when not (eqb a.number done) then refused_by a else c

-- "judge's own checks and verdict first", and then the rules
unfoldable pub choose_of : List ℕ → List ℕ → List ℕ → Chosen
choose_of ws os rs = on_book unchosen ws (λ b. by_order (order_of os) unchosen (λ t. after_verdict (verdict b t) (chosen_by b.k t rs)))
