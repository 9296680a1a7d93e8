-- `book_form::zeros_from`: the greatest of words is zero if all are. Assumes nothing.
use Rattle.std.proofs.Common.{ℕ, zero, suc, ◌≡◌, List, [], ◌∷◌, eqb, max, fold, refl, sym, ap, ◌∙◌, arith, rules, ne_eqb}
use Rattle.std.proofs.lemmas.List.{take_rest}
use Rattle.std.proofs.lemmas.Iterator.{YieldsList-from_slice}
use Rattle.std.proofs.lemmas.Iterator.Consumers.{fold_from_yields_List}
use Rattle.words.specs.Base.{◌and◌}
use Rattle.book.specs.Passes.{zeros}
use Rattle.book.proofs.Runs.{zeros-end}
use Rattle.book_form.proofs.zeros_from.Goals as goal

-- The greatest of a number and words is zero if the number is and the words are.
greatest : (a : ℕ) (xs : List ℕ) → eqb (fold max a xs) 0 ≡ (eqb a 0 and zeros xs)
unfolding zeros ◌and◌
greatest zero [] = refl
greatest (suc a) [] = rw (ne_eqb (suc a) 0 (λ e. omega arith)) refl
greatest zero (x ∷ xs) = let e : max 0 x ≡ x = omega arith in rw e (greatest x xs)
greatest (suc a) (x ∷ xs) =
    let n = ne_eqb (suc a) 0 (λ e. omega arith) in
    let m = ne_eqb (max (suc a) x) 0 (λ e. omega arith) in
    greatest (max (suc a) x) xs ∙ rw (n, m) refl

pub returns-in_default : goal.returns-in_default
returns-in_default c = let l = c.in_default.ensures.lookup in sym (zeros-end c.args.book.now c.args.at (omega arith))

pub returns : goal.returns
unfolding ◌and◌
returns c =
    let e : c.fold.result ≡ fold max 0 c.in-Some.rest.now = fold_from_yields_List _ max 0 c.fold.result c.fold.ensures.ran (YieldsList-from_slice c.in-Some.rest.now (cc)) (λ a x b q k. search rules) in
    let b = c.in-Some.ensures.lookup.0.2 ∙ take_rest c.args.book.now c.args.at in
    ap (λ (n : ℕ). eqb n 0) e ∙ greatest 0 c.in-Some.rest.now ∙ ap zeros b
