-- Of few enough words the depth decides, if they are a tree.
use Rattle.std.proofs.Common.{rules, tests, ◌≡◌, refl, sym, ◌∙◌, ℕ, Option, Some, None}
use Rattle.std.proofs.lemmas.Option.{MatchOption-at_some, MatchOption-at_none}
use Rattle.words.specs.Base.{within, ◌and◌}
use Rattle.order.specs.Fits.{fits_of}
use Rattle.order.proofs.Fitting.{fits-long, fits-broken, fits-deep}
use Rattle.order_fit.proofs.fits.Goals as goal
use borrow.Author.Tests.{lt-leb}

pub returns-then-order-le-MOST_WORDS-clause-came :
    goal.returns-then-order-le-MOST_WORDS-clause-came
unfolding ◌and◌
returns-then-order-le-MOST_WORDS-clause-came c = go c.deep.result refl
  where
    go : (o : Option ℕ) → c.deep.result ≡ o → c.is_some_and.result ≡ fits_of c.args.least c.args.greatest c.args.order.now
    go None e = MatchOption-at_none _ _ e c.is_some_and.ensures ∙ sym (fits-broken _ _ _ (sym c.deep.ensures.came ∙ e))
    go (Some d) e =
        let k = MatchOption-at_some _ _ d e c.is_some_and.ensures in
        let w : c.is_some_and.result ≡ within c.args.least c.args.greatest d = search (rules, tests) in
        w ∙ sym (fits-deep _ _ _ d c.if-order-le-MOST_WORDS.true c.requires.1 (sym c.deep.ensures.came ∙ e))

pub returns-else-order-le-MOST_WORDS-clause-came :
    goal.returns-else-order-le-MOST_WORDS-clause-came
returns-else-order-le-MOST_WORDS-clause-came c = lt-leb _ _ c.if-order-le-MOST_WORDS.false ∙ sym (fits-long _ _ _ c.if-order-le-MOST_WORDS.false)
