-- `book_rules::has_cut`: at each line the lines left decide. Assumes nothing.
use Rattle.std.proofs.Common.{ℕ, zero, suc, ◌≡◌, ◌+◌, ◌*◌, ◌/◌, ◌<◌, Bool, true, false, ◌&&◌, ◌||◌, nat_eq, List, length, get_or, refl, ap, sym, ◌∙◌, arith, rules, tests}
use Rattle.std.specs.List.{list_any, range_with_len}
use Rattle.std.proofs.lemmas.Bool.{eqb-false}
use Rattle.std.proofs.lemmas.Iterator.{YieldsList-from_range}
use Rattle.std.proofs.lemmas.Iterator.Search.{any_from_yields_List}
use Rattle.words.specs.Base.{same_words}
use Rattle.figures.specs.Numbers.{done}
use Rattle.order.specs.Reading.{cause_of}
use Rattle.order.specs.Standing.{cut_of}
use Rattle.book_choosing.specs.Walking.{cut_from}
use Rattle.book_choosing.proofs.Cuts.{cut-none, cut-here, cut-past, code-past}
use Rattle.book_rules.proofs.has_cut.Goals as goal

-- Whether the cut at a line has the words of a tree, by the code first.
abbrev has : List ℕ → ℕ → List ℕ → ℕ → Bool
has os d tree line = nat_eq (get_or os (line * 2) 0) (get_or tree 0 0) && same_words (cut_of os (line * 2) d) tree

module _ (os : List ℕ) (d : ℕ) (tree : List ℕ) (sound : cause_of os ≡ done) where
  -- What one line decides.
  one : (line : ℕ) → line < length os / 2 → (b : Bool) → nat_eq (get_or os (line * 2) 0) (get_or tree 0 0) ≡ b → (e : Bool) → same_words (cut_of os (line * 2) d) tree ≡ e
      → b && e || cut_from os d tree (line + 1) ≡ cut_from os d tree line
  one line h true f true g = sym (cut-here os d tree line sound h g)
  one line h true f false g = sym (cut-past os d tree line sound h g)
  one line h false f e g = sym (code-past os d tree line sound h (eqb-false _ _ f))

  -- Some line of those left has the cut just if one is found from the first of them on.
  any-from : (n line : ℕ) → line + n ≡ length os / 2 → list_any (has os d tree) (range_with_len line n) ≡ cut_from os d tree line
  any-from zero line e = sym (cut-none os d tree line sound (omega arith))
  any-from (suc n) line e =
      ap (λ (b : Bool). has os d tree line || b) (any-from n (line + 1) (omega arith)) ∙ one line (omega arith) _ refl _ refl

pub returns : goal.returns
returns c =
    let a = c.args in
    let os = a.lines.now.order.words.now in
    let n = length os / 2 in
    let by_call : c.any.result ≡ list_any (has os a.d a.tree.now) (range_with_len 0 n) =
    any_from_yields_List (has os a.d a.tree.now) _ _ c.any.result c.any.ensures.ran (YieldsList-from_range 0 n n refl (omega arith)) (λ x b q k. search (rules, tests)) in
    by_call ∙ any-from os a.d a.tree.now a.lines.now.order.gone_over.sound n 0 (omega arith)
