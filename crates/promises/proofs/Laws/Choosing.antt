-- Why choosing an image answers by a number: the numbers below 30 are judge's, and 30, 31, 32 and 0 those of an order that passes, by the rules. Assumes
-- nothing.
use Prim.Native.Nat.{ℕ, ◌≤◌, ◌<◌}
use mathlib.Core.Path.{◌≡◌, refl, ap, sym, ◌∙◌}
use mathlib.Core.List.{List}
use native.Mathlib.Decide.{dec_lt}
use native.Mathlib.Omega.{arith}
use Rattle.words.specs.Base.{◌exactly_when◌}
use Rattle.figures.specs.Numbers.{done, top_unknown, low_unknown, middle_unknown, no_image, two_images, no_rules}
use Rattle.figures.specs.declared.Answer.{Answer}
use Rattle.order.specs.Trees.{Tree}
use Rattle.order.proofs.Causes.{cause_small}
use Rattle.book.proofs.Sound.{refused-4_5}
use Rattle.book_judging.specs.Judging.{judge_of}
use Rattle.book_judging.specs.Verdicts.{PassesBy, Judged, no_book, no_order, judged, passing, no_top, no_low, no_middle}
use Rattle.book_judging.proofs.Answers.{judged-is, judged-only}
use Rattle.book_choosing.specs.Choosing.{chosen, choose_of}
use Rattle.book_choosing.specs.Choices.{Choice, no_list, none_fits, two_differ, all_name, WhyChosen, by_judging, by-rules}
use Rattle.book_choosing.specs.declared.Chosen.{Chosen}
use Rattle.book_choosing.proofs.Choices.{why-is, why-only, choose_judges, choose_line, told}
use Rattle.promises.specs.Choosing.{NoRuleList, NoRuleFits, TwoFitAndDiffer, AllNameImage}
use Rattle.promises.proofs.Laws.LineNumbers.{judge_line}

-- Judging answers by 22 at most.
judged-most : (ws os : List ℕ) (a : Answer) → Judged ws os a → a.number ≤ middle_unknown
judged-most ws os a (no_book n e w) = omega (arith, ap (λ (x : Answer). x.number) e, (refused-4_5 ws n w).1)
judged-most ws os a (no_order b n e i c x) = omega (arith, ap (λ (x : Answer). x.number) e, cause_small os n c)
judged-most ws os a (judged b t i o (passing e p)) = omega (arith, ap (λ (x : Answer). x.number) e)
judged-most ws os a (judged b t i o (no_top e g n)) = omega (arith, ap (λ (x : Answer). x.number) e)
judged-most ws os a (judged b t i o (no_low l s e r d n)) = omega (arith, ap (λ (x : Answer). x.number) e)
judged-most ws os a (judged b t i o (no_middle l s e r d n)) = omega (arith, ap (λ (x : Answer). x.number) e)

module _ (ws os rs : List ℕ) where
  -- The rules give a choice for an order that passes.
  abbrev Ruled : PassesBy ws os → Chosen → Type 0
  Ruled p c = Choice p.lent.book.k p.lent.tree rs c

  -- What is answered by 0, or by 30 or more, is chosen by the rules,
  by_the_rules : {A : Type 0} (n : ℕ) → (n ≤ middle_unknown → n ≡ done) → ((p : PassesBy ws os) → Ruled p (choose_of ws os rs) → A) → (choose_of ws os rs).number ≡ n → A
  by_the_rules {A} n few follows q = go (why-is ws os rs)
    where
      -- By why it is answered.
      go : WhyChosen ws os rs (choose_of ws os rs) → A
      go (by_judging a e j m) = absurd (m (sym (told e) ∙ q ∙ few (omega (arith, told e, q, judged-most ws os a j))))
      go (by-rules p h) = follows p h

  -- and what the rules give is answered.
  by_row : {c : Chosen} (p : PassesBy ws os) → Ruled p c → choose_of ws os rs ≡ c
  by_row {c} p h = why-only ws os rs c (by-rules p h)

  -- 32 exactly if the words are no rule list.
  pub rule-list_exactly : ((choose_of ws os rs).number ≡ no_rules) exactly_when NoRuleList ws os rs
  rule-list_exactly = (λ q. by_the_rules no_rules (λ h. absurd (omega arith)) (from q) q, to)
    where
      -- From the row,
      from : (choose_of ws os rs).number ≡ no_rules → (p : PassesBy ws os) → Ruled p (choose_of ws os rs) → NoRuleList ws os rs
      from q p (no_list e n) = record { passes = p; none = n }
      from q p (none_fits l e i f) = absurd (omega (arith, q, told e))
      from q p (two_differ l r s e i m n a b d) = absurd (omega (arith, q, told e))
      from q p (all_name l r e i m a f) = absurd (omega (arith, q, told e))

      -- and to it.
      to : NoRuleList ws os rs → (choose_of ws os rs).number ≡ no_rules
      to x = told (by_row x.passes (no_list refl x.none))

  -- 30 exactly if they are one, and no rule fits.
  pub none-fits_exactly : ((choose_of ws os rs).number ≡ no_image) exactly_when NoRuleFits ws os rs
  none-fits_exactly = (λ q. by_the_rules no_image (λ h. absurd (omega arith)) (from q) q, to)
    where
      -- From the row,
      from : (choose_of ws os rs).number ≡ no_image → (p : PassesBy ws os) → Ruled p (choose_of ws os rs) → NoRuleFits ws os rs
      from q p (no_list e n) = absurd (omega (arith, q, told e))
      from q p (none_fits l e i f) = record { rules = l; with = record { passes = p; are = i }; none = λ r x. f r x.there x.fits }
      from q p (two_differ l r s e i m n a b d) = absurd (omega (arith, q, told e))
      from q p (all_name l r e i m a f) = absurd (omega (arith, q, told e))

      -- and to it.
      to : NoRuleFits ws os rs → (choose_of ws os rs).number ≡ no_image
      to x = told (by_row x.with.passes (none_fits x.rules refl x.with.are (λ r m b. x.none r (record { there = m; fits = b }))))

  -- 31 exactly if they are one, and two that fit differ.
  pub two_differ-exactly : ((choose_of ws os rs).number ≡ two_images) exactly_when TwoFitAndDiffer ws os rs
  two_differ-exactly = (λ q. by_the_rules two_images (λ h. absurd (omega arith)) (from q) q, to)
    where
      -- From the row,
      from : (choose_of ws os rs).number ≡ two_images → (p : PassesBy ws os) → Ruled p (choose_of ws os rs) → TwoFitAndDiffer ws os rs
      from q p (no_list e n) = absurd (omega (arith, q, told e))
      from q p (none_fits l e i f) = absurd (omega (arith, q, told e))
      from q p (two_differ l r s e i m n a b d) =
          record {
            rules = l;
            with = record { passes = p; are = i };
            first = r;
            second = s;
            first_fits = record { there = m; fits = a };
            second_fits = record { there = n; fits = b };
            differ = d;
          }
      from q p (all_name l r e i m a f) = absurd (omega (arith, q, told e))

      -- and to it.
      to : TwoFitAndDiffer ws os rs → (choose_of ws os rs).number ≡ two_images
      to x =
          let a = x.first_fits in
          let b = x.second_fits in
          told (by_row x.with.passes (two_differ x.rules x.first x.second refl x.with.are a.there b.there a.fits b.fits x.differ))

  -- 0 with an image exactly if one fits and all that fit name it.
  pub all-name_exactly : (image : ℕ) → (choose_of ws os rs ≡ chosen image) exactly_when AllNameImage ws os rs image
  all-name_exactly image = (λ q. by_the_rules done (λ h. refl) (from q) (told q), to)
    where
      -- From the row,
      from : choose_of ws os rs ≡ chosen image → (p : PassesBy ws os) → Ruled p (choose_of ws os rs) → AllNameImage ws os rs image
      from q p (no_list e n) = absurd (omega (arith, told q, told e))
      from q p (none_fits l e i f) = absurd (omega (arith, told q, told e))
      from q p (two_differ l r s e i m n a b d) = absurd (omega (arith, told q, told e))
      from q p (all_name l r e i m a f) =
          let same : r.image ≡ image = ap (λ (c : Chosen). c.image) (sym e ∙ q) in
          record {
            rules = l;
            with = record { passes = p; are = i };
            rule = r;
            fits = record { there = m; fits = a };
            all = λ s x. f s x.there x.fits ∙ same;
          }

      -- and to it.
      to : AllNameImage ws os rs image → choose_of ws os rs ≡ chosen image
      to x =
          let same : x.rule.image ≡ image = x.all x.rule x.fits in
          by_row x.with.passes
          (all_name x.rules x.rule (ap chosen (sym same)) x.with.are x.fits.there x.fits.fits (λ s m b. x.all s (record { there = m; fits = b }) ∙ sym same))

  -- A number below 30 that is not 0 is answered exactly if judging answers by it.
  pub judged-exactly : (n : ℕ) → (n ≡ done → ⊥) → n < no_image → ((choose_of ws os rs).number ≡ n) exactly_when ((judge_of ws os).number ≡ n)
  judged-exactly n some low = (λ q. from q (why-is ws os rs), λ q. told (choose_judges ws os rs (λ z. some (sym q ∙ z))) ∙ q)
    where
      -- By the row of the rules.
      ruled : {k : ℕ} {t : Tree} {c : Chosen} → Choice k t rs c → c.number ≡ n → (judge_of ws os).number ≡ n
      ruled (no_list e m) q = absurd (omega (arith, q, told e))
      ruled (none_fits l e i f) q = absurd (omega (arith, q, told e))
      ruled (two_differ l r s e i m o a b d) q = absurd (omega (arith, q, told e))
      ruled (all_name l r e i m a f) q = absurd (some (sym q ∙ told e))

      -- By why it is answered.
      from : (choose_of ws os rs).number ≡ n → WhyChosen ws os rs (choose_of ws os rs) → (judge_of ws os).number ≡ n
      from q (by_judging a e j m) = ap (λ (x : Answer). x.number) (judged-only ws os a j) ∙ sym (told e) ∙ q
      from q (by-rules p h) = ruled h q

  -- Only 20, 21 and 22 have a line.
  pub line_0 : ((choose_of ws os rs).number ≡ top_unknown → ⊥) → ((choose_of ws os rs).number ≡ low_unknown → ⊥) → ((choose_of ws os rs).number ≡ middle_unknown → ⊥)
      → (choose_of ws os rs).line ≡ 0
  line_0 x y z =
      elim (dec_lt (judge_of ws os).number top_unknown) [
        | yes h ↦ choose_line ws os rs ∙ judge_line ws os h
        | no h ↦
            let e : (choose_of ws os rs).number ≡ (judge_of ws os).number = told (choose_judges ws os rs (λ d. omega arith)) in
            absurd (omega (arith, e, x, y, z, judged-most ws os (judge_of ws os) (judged-is ws os)))
      ]
