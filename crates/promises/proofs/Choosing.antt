-- 02, "Choose the firmware image": what the builder gets for an order, a book and a rule list. Demands 2 and 3 are untouched: choosing asks judge, and
-- nothing here speaks of teaching. Assumes nothing.
use Prim.Native.Nat.{ℕ, ◌≤◌, ◌<◌}
use mathlib.Core.Path.{◌≡◌, sym, ◌∙◌}
use mathlib.Core.List.{List}
use Rattle.words.specs.Base.{◌∈◌, ◌exactly_when◌}
use Rattle.figures.specs.Limits.{least_image, greatest_image}
use Rattle.figures.specs.Numbers.{done, top_unknown, low_unknown, middle_unknown, no_image, two_images, no_rules}
use Rattle.book.specs.Decoding.{book_in}
use Rattle.book_judging.specs.Judging.{judge_of}
use Rattle.book_choosing.specs.Rules.{ImageRule}
use Rattle.book_choosing.specs.Choosing.{chosen, refused_by, choose_of}
use Rattle.book_choosing.specs.Choices.{IsRules, WhyChosen}
use Rattle.book_choosing.specs.declared.Chosen.{Chosen}
use Rattle.book_choosing.proofs.Choices.{why-is, why-only, ImageOr0, no_such, such, image-or_0, choice_image}
use Rattle.book_choosing.proofs.Choices.{choose_judges as judged-first, choose_line as line_is, whichever_order as in-any-order}
use Rattle.promises.specs.Choosing.{NoRuleList, NoRuleFits, TwoFitAndDiffer, AllNameImage}
use Rattle.promises.proofs.Demand1.{Exactly}
use Rattle.promises.proofs.Laws.Choosing.{judged-exactly, line_0, rule-list_exactly, none-fits_exactly, two_differ-exactly, all-name_exactly}

module _ (ws os rs : List ℕ) where
  -- ---- all of it

  -- "judge's own checks and verdict first, then 32 for a rule list not so laid out or a rule tree deeper than k-1, then 30 exactly if no rule fits, 31 exactly
  -- if two that fit differ": every answer, with its line and its image, has its row, and a row has no other answer.
  pub choose_rows : Exactly (WhyChosen ws os rs) (choose_of ws os rs)
  choose_rows = (why-is ws os rs, why-only ws os rs)

  -- "Two outcomes allowed by one promise are shown equal": `book_choose::choose`, with number, line and image.
  pub one_choice : {r s : Chosen} → r ≡ choose_of ws os rs → s ≡ choose_of ws os rs → r ≡ s
  one_choice e f = e ∙ sym f

  -- ---- number by number

  -- "judge's own checks and verdict first": what judging refuses is refused by its number with its line, whatever the rules are,
  pub choose_judges : ((judge_of ws os).number ≡ done → ⊥) → choose_of ws os rs ≡ refused_by (judge_of ws os)
  choose_judges = judged-first ws os rs

  -- and a number below 30 but 0 is given exactly if judging gives it.
  pub judge_exactly : (n : ℕ) → (n ≡ done → ⊥) → n < no_image → ((choose_of ws os rs).number ≡ n) exactly_when ((judge_of ws os).number ≡ n)
  judge_exactly = judged-exactly ws os rs

  -- "then 32 for a rule list not so laid out or a rule tree deeper than k-1"
  pub no_rules-exactly : ((choose_of ws os rs).number ≡ no_rules) exactly_when NoRuleList ws os rs
  no_rules-exactly = rule-list_exactly ws os rs

  -- "then 30 exactly if no rule fits"
  pub no_image-exactly : ((choose_of ws os rs).number ≡ no_image) exactly_when NoRuleFits ws os rs
  no_image-exactly = none-fits_exactly ws os rs

  -- "31 exactly if two that fit differ"
  pub two_images_exactly : ((choose_of ws os rs).number ≡ two_images) exactly_when TwoFitAndDiffer ws os rs
  two_images_exactly = two_differ-exactly ws os rs

  -- "The answer is the image when at least one rule fits and all that fit name the same one": with number 0 and line 0, and exactly then.
  pub image-exactly : (image : ℕ) → (choose_of ws os rs ≡ chosen image) exactly_when AllNameImage ws os rs image
  image-exactly = all-name_exactly ws os rs

  -- ---- the image

  -- "A refusal gives image 0", and nothing else does.
  pub image-0_exactly : ((choose_of ws os rs).image ≡ 0) exactly_when ((choose_of ws os rs).number ≡ done → ⊥)
  image-0_exactly = choice_image ws os rs

  -- "an image number 1 to 65,535": with number 0 the image is one.
  pub image-within : (choose_of ws os rs).number ≡ done → (least_image ≤ (choose_of ws os rs).image) × ((choose_of ws os rs).image ≤ greatest_image)
  image-within e = go (image-or_0 ws os rs)
    where
      -- By whether there is an image.
      go : ImageOr0 (choose_of ws os rs) → (least_image ≤ (choose_of ws os rs).image) × ((choose_of ws os rs).image ≤ greatest_image)
      go (no_such i n) = absurd (n e)
      go (such l g n) = (l, g)

  -- ---- the line

  -- The line is judge's,
  pub choose_line : (choose_of ws os rs).line ≡ (judge_of ws os).line
  choose_line = line_is ws os rs

  -- which is 0 unless the number is 20, 21 or 22.
  pub choose_no_line : ((choose_of ws os rs).number ≡ top_unknown → ⊥) → ((choose_of ws os rs).number ≡ low_unknown → ⊥) → ((choose_of ws os rs).number ≡ middle_unknown → ⊥)
      → (choose_of ws os rs).line ≡ 0
  choose_no_line = line_0 ws os rs

-- ---- the rules in another order

-- The rules in another order, or one twice, give the same answer: which rules there are decides.
pub whichever_order : (ws os rs qs : List ℕ) (l m : List ImageRule) → IsRules (book_in ws).k rs l → IsRules (book_in ws).k qs m
    → ((r : ImageRule) → (r ∈ l) exactly_when (r ∈ m)) → choose_of ws os rs ≡ choose_of ws os qs
whichever_order = in-any-order
