-- Choosing answers exactly by the rows of 02, "Choose the firmware image": "judge's own checks and verdict first", and then by the rules. Assumes
-- nothing.
use Rattle.std.specs.Prelude.{Option, None, Some}
use Prim.Native.Nat.{ℕ, ◌^◌, ◌≤◌, ◌<◌}
use mathlib.Core.Path.{◌≡◌, refl, ap, sym, subst, ◌∙◌}
use mathlib.Core.List.Memᴰ
use mathlib.Core.List.{List}
use native.Mathlib.Omega.{arith}
use borrow.Author.Tests.{eqb-true, eqb-false, eq-eqb, ne_eqb}
use lib.Dec.{eqb}
use lib.ListN.{length, get_or}
use Rattle.words.specs.Base.{when◌then◌else◌, ◌∈◌, ◌exactly_when◌}
use Rattle.words.proofs.Tests.{by_test}
use Rattle.figures.specs.Limits.{head_words, k_word, least_k, greatest_k, least_image, greatest_image}
use Rattle.figures.specs.Numbers.{done, no_rules}
use Rattle.figures.specs.declared.Answer.{Answer}
use Rattle.order.specs.Trees.{Tree}
use Rattle.order.specs.Reading.{order, by_order, order_of, cause_of}
use Rattle.order.specs.Causes.{Cause}
use Rattle.order.proofs.Fitting.{order-read}
use Rattle.order.proofs.Causes.{cause_refuses}
use Rattle.book.specs.Book.{Book}
use Rattle.book.specs.Decoding.{book_in, book_form_of, Refused}
use Rattle.book.specs.Sound.{IsBook}
use Rattle.book.proofs.Holding.{refused-book}
use Rattle.book.proofs.Sound.{why-only as form-only, on-any, head_says}
use Rattle.book_judging.specs.Judging.{verdict, judge_of}
use Rattle.book_judging.specs.Verdicts.{PassesBy, Judged, no_book, no_order, judged}
use Rattle.book_judging.proofs.Judgements.{by_verdict}
use Rattle.book_judging.proofs.Answers.{numbered, judged-is, judged-only, answered-passes, passes-answered}
use Rattle.book_judging.proofs.Figures.{judge_line-most}
use Rattle.book_choosing.specs.Rules.{ImageRule, rules_of, by_rules}
use Rattle.book_choosing.specs.Choosing.{images_for, chosen, refused_by, unchosen, one_image, chosen_by, after_verdict, choose_of}
use Rattle.book_choosing.specs.Choices.{IsRules, Choice, no_list, none_fits, two_differ, all_name, WhyChosen, by_judging, by-rules}
use Rattle.book_choosing.specs.declared.Chosen.{Chosen}
use Rattle.book_choosing.proofs.Lists.{rules-is, rules-only, no_rules-is}
use Rattle.book_choosing.proofs.Fitting.{fits-is, is-fits}
use Rattle.book_choosing.proofs.Images.{image-named, named_image, ByImages, none_named, two_named, one-named, images_is, images_only, images_same}

-- ---- the verdict first

-- A verdict that refuses is handed on,
verdict-stays : (a : Answer) (c : Chosen) → (a.number ≡ done → ⊥) → after_verdict a c ≡ refused_by a
unfolding after_verdict when◌then◌else◌
verdict-stays a c n = rw (ne_eqb a.number done n)

-- and one that passes gives way to what follows it.
verdict-passes : (a : Answer) (c : Chosen) → a.number ≡ done → after_verdict a c ≡ c
unfolding after_verdict when◌then◌else◌
verdict-passes a c e = rw (eq-eqb a.number done e)

-- A slice that is no book in form is refused by 4 or 5.
choose_unheld : (ws os rs : List ℕ) (n : ℕ) → book_form_of ws ≡ Refused n → choose_of ws os rs ≡ unchosen n
unfolding choose_of
choose_unheld ws os rs n e = refused-book ws n e unchosen (λ b. by_order (order_of os) unchosen (λ t. after_verdict (verdict b t) (chosen_by b.k t rs)))

module _ (ws os rs : List ℕ) (b : Book) (i : IsBook ws b) where
  -- What is chosen by a book.
  by_book_lem : choose_of ws os rs ≡ by_order (order_of os) unchosen (λ t. after_verdict (verdict b t) (chosen_by b.k t rs))
  unfolding choose_of
  by_book_lem = on-any ws b i unchosen (λ c. by_order (order_of os) unchosen (λ t. after_verdict (verdict c t) (chosen_by c.k t rs)))

  -- An order with a cause of 1 or 2 is refused by it.
  choose_cause : (n : ℕ) → Cause os n → (n ≡ done → ⊥) → choose_of ws os rs ≡ unchosen n
  choose_cause n c x = by_book_lem ∙ cause_refuses os n c x unchosen (λ t. after_verdict (verdict b t) (chosen_by b.k t rs))

  -- Of any other the verdict comes before the rules,
  choose_verdict : (t : Tree) → order_of os ≡ order t → choose_of ws os rs ≡ after_verdict (verdict b t) (chosen_by b.k t rs)
  unfolding by_order
  choose_verdict t e = by_book_lem ∙ rw e

  -- and the rules choose where it passes.
  choose_passes : (t : Tree) → order_of os ≡ order t → (verdict b t).number ≡ done → choose_of ws os rs ≡ chosen_by b.k t rs
  choose_passes t e v = choose_verdict t e ∙ verdict-passes (verdict b t) (chosen_by b.k t rs) v

-- Whatever judging refuses choosing refuses, by the same number with the same line.
pub choose_judges : (ws os rs : List ℕ) → ((judge_of ws os).number ≡ done → ⊥) → choose_of ws os rs ≡ refused_by (judge_of ws os)
choose_judges ws os rs n = go (judged-is ws os)
  where
    -- By what judging answers.
    go : Judged ws os (judge_of ws os) → choose_of ws os rs ≡ refused_by (judge_of ws os)
    go (no_book m e w) = choose_unheld ws os rs m (form-only ws (Refused m) w) ∙ ap refused_by (sym e)
    go (no_order b m e i c x) = choose_cause ws os rs b i m c x ∙ ap refused_by (sym e)
    go (judged b t i o v) =
        let q : order_of os ≡ order t = order-read os t o in
        let j : judge_of ws os ≡ verdict b t = by_verdict ws os b i t q in
        choose_verdict ws os rs b i t q ∙ verdict-stays (verdict b t) _ (λ z. n (numbered j ∙ z)) ∙ ap refused_by (sym j)

-- ---- what the verdict's passing says

-- Choosing has gone past judge's checks and verdict: the book's k is word 0, and what is chosen goes by the order and the rules alone.
pub record Passed (ws os rs : List ℕ) : Type 0 where
  pub is : choose_of ws os rs ≡ by_order (order_of os) unchosen (λ t. chosen_by (get_or ws k_word 0) t rs)
  pub sound : cause_of os ≡ done
  pub least : least_k ≤ get_or ws k_word 0
  pub greatest : get_or ws k_word 0 ≤ greatest_k
  pub long : head_words ≤ length ws

-- What judging passes.
pub passed : (ws os rs : List ℕ) → (judge_of ws os).number ≡ done → Passed ws os rs
unfolding by_order cause_of
passed ws os rs e =
    let l = (answered-passes ws os e).lent in
    let o : order_of os ≡ order l.tree = order-read os l.tree l.is_order in
    let k : get_or ws k_word 0 ≡ l.book.k = (head_says ws l.book l.is_book).0 in
    record {
      is = rw (o, k) (choose_passes ws os rs l.book l.is_book l.tree o (sym (numbered (by_verdict ws os l.book l.is_book l.tree o)) ∙ e));
      sound = rw o;
      least = omega (arith, k, l.is_book.sound.least);
      greatest = omega (arith, k, l.is_book.sound.greatest);
      long = l.is_book.long;
    }

-- ---- the rules

module _ (k : ℕ) (t : Tree) (rs : List ℕ) where
  -- Words that are no rule list are refused by 32.
  chosen_none : rules_of k rs ≡ None → chosen_by k t rs ≡ unchosen no_rules
  unfolding chosen_by by_rules
  chosen_none e = rw e

  -- The rules of a list choose by the images of those that fit.
  chosen-some : (l : List ImageRule) → rules_of k rs ≡ Some l → chosen_by k t rs ≡ one_image (images_for k t l)
  unfolding chosen_by by_rules
  chosen-some l e = rw e

  module _ (two : 2 ≤ k) where
    -- A list's rules choose what its images have a reason for.
    by_rules-of : (c : Chosen) (l : List ImageRule) → IsRules k rs l → ByImages (images_for k t l) c → chosen_by k t rs ≡ c
    by_rules-of c l i why = chosen-some l (rules-only k rs l i) ∙ images_only (images_for k t l) c why

    -- What is chosen for an order that passes is chosen by a row,
    choice_is : Choice k t rs (chosen_by k t rs)
    choice_is = by_list (rules_of k rs) refl
      where
        -- By the images of the rules that fit.
        by_images : (l : List ImageRule) → rules_of k rs ≡ Some l → ByImages (images_for k t l) (one_image (images_for k t l)) → Choice k t rs (chosen_by k t rs)
        by_images l e (none_named q f) =
            none_fits l (chosen-some l e ∙ q) (rules-is k rs l e) (λ r m b. f r.image (named_image k t m (is-fits k t r two b)))
        by_images l e (two_named i j q m n d) =
            let a = image-named k t l m in
            let b = image-named k t l n in
            two_differ l a.rule b.rule (chosen-some l e ∙ q) (rules-is k rs l e) a.there b.there
            (fits-is k t a.rule two a.fits) (fits-is k t b.rule two b.fits) (λ z. d (a.image ∙ z ∙ sym b.image))
        by_images l e (one-named i q m f) =
            let a = image-named k t l m in
            all_name l a.rule (chosen-some l e ∙ q ∙ ap chosen a.image) (rules-is k rs l e) a.there (fits-is k t a.rule two a.fits)
            (λ s n b. f s.image (named_image k t n (is-fits k t s two b)) ∙ a.image)

        -- By whether the words are a list.
        by_list : (o : Option (List ImageRule)) → rules_of k rs ≡ o → Choice k t rs (chosen_by k t rs)
        by_list None e = no_list (chosen_none e) (no_rules-is k rs e)
        by_list (Some l) e = by_images l e (images_is (images_for k t l))

    -- and by no other.
    choice_only : (c : Chosen) → Choice k t rs c → chosen_by k t rs ≡ c
    choice_only c (no_list e n) = by_list (rules_of k rs) refl
      where
        -- By whether the words are a list.
        by_list : (o : Option (List ImageRule)) → rules_of k rs ≡ o → chosen_by k t rs ≡ c
        by_list None q = chosen_none q ∙ sym e
        by_list (Some l) q = absurd (n l (rules-is k rs l q))
    choice_only c (none_fits l e i f) =
        by_rules-of c l i (none_named e (λ j m. let a = image-named k t l m in f a.rule a.there (fits-is k t a.rule two a.fits)))
    choice_only c (two_differ l r s e i m n a b d) =
        by_rules-of c l i (two_named r.image s.image e (named_image k t m (is-fits k t r two a)) (named_image k t n (is-fits k t s two b)) d)
    choice_only c (all_name l r e i m a f) =
        by_rules-of c l i (one-named r.image e (named_image k t m (is-fits k t r two a))
        (λ j n. let b = image-named k t l n in b.image ∙ f b.rule b.there (fits-is k t b.rule two b.fits)))

-- ---- all of it

module _ (ws os rs : List ℕ) where
  -- For an order that passes the rules choose.
  choose_lent : (p : PassesBy ws os) → choose_of ws os rs ≡ chosen_by p.lent.book.k p.lent.tree rs
  choose_lent p =
      let l = p.lent in
      let o : order_of os ≡ order l.tree = order-read os l.tree l.is_order in
      let v : (verdict l.book l.tree).number ≡ done = numbered (sym (by_verdict ws os l.book l.is_book l.tree o) ∙ passes-answered ws os p) in
      choose_passes ws os rs l.book l.is_book l.tree o v

  -- Choosing answers by a row,
  pub why-is : WhyChosen ws os rs (choose_of ws os rs)
  why-is =
      by_test (eqb (judge_of ws os).number done)
      (λ h.
      let p = answered-passes ws os (eqb-true _ _ h) in
      by-rules p (subst (Choice p.lent.book.k p.lent.tree rs) (sym (choose_lent p)) (choice_is p.lent.book.k p.lent.tree rs p.lent.is_book.sound.least)))
      (λ h. let n = eqb-false _ _ h in by_judging (judge_of ws os) (choose_judges ws os rs n) (judged-is ws os) n)

  -- and by no other.
  pub why-only : (c : Chosen) → WhyChosen ws os rs c → choose_of ws os rs ≡ c
  why-only c (by_judging a e j n) =
      let q : judge_of ws os ≡ a = judged-only ws os a j in
      choose_judges ws os rs (λ z. n (sym (numbered q) ∙ z)) ∙ ap refused_by q ∙ sym e
  why-only c (by-rules p h) = choose_lent p ∙ choice_only p.lent.book.k p.lent.tree rs p.lent.is_book.sound.least c h

-- ---- image and line

-- The number that a choice has.
pub told : {c d : Chosen} → c ≡ d → c.number ≡ d.number
told e = ap (λ (x : Chosen). x.number) e

-- The image that it has.
shown : {c d : Chosen} → c ≡ d → c.image ≡ d.image
shown e = ap (λ (x : Chosen). x.image) e

-- The line that it has.
lined : {c d : Chosen} → c ≡ d → c.line ≡ d.line
lined e = ap (λ (x : Chosen). x.line) e

-- What is answered has no image, or number 0 with an image of 1 to 65,535.
pub data ImageOr0 (c : Chosen) : Type 0 where
  no_such : c.image ≡ 0 → (c.number ≡ done → ⊥) → ImageOr0 c
  such : least_image ≤ c.image → c.image ≤ greatest_image → c.number ≡ done → ImageOr0 c

-- So it is whatever the rules choose.
choice_image-or_0 : (k : ℕ) (t : Tree) (rs : List ℕ) (c : Chosen) → Choice k t rs c → ImageOr0 c
choice_image-or_0 k t rs c (no_list e n) = no_such (shown e) (λ z. omega (arith, told e))
choice_image-or_0 k t rs c (none_fits l e i f) = no_such (shown e) (λ z. omega (arith, told e))
choice_image-or_0 k t rs c (two_differ l r s e i m n a b d) = no_such (shown e) (λ z. omega (arith, told e))
choice_image-or_0 k t rs c (all_name l r e i m a f) =
    let q = i.each r m in
    such (omega (arith, shown e, q.least)) (omega (arith, shown e, q.greatest)) (told e)

-- The rules give line 0.
choice_line : (k : ℕ) (t : Tree) (rs : List ℕ) (c : Chosen) → Choice k t rs c → c.line ≡ 0
choice_line k t rs c (no_list e n) = lined e
choice_line k t rs c (none_fits l e i f) = lined e
choice_line k t rs c (two_differ l r s e i m n a b d) = lined e
choice_line k t rs c (all_name l r e i m a f) = lined e

module _ (ws os rs : List ℕ) where
  -- And so it is whatever choosing answers.
  pub image-or_0 : ImageOr0 (choose_of ws os rs)
  image-or_0 = go (why-is ws os rs)
    where
      -- By why it is answered.
      go : WhyChosen ws os rs (choose_of ws os rs) → ImageOr0 (choose_of ws os rs)
      go (by_judging a e j n) = no_such (shown e) (λ z. n (sym (told e) ∙ z))
      go (by-rules p h) = choice_image-or_0 _ _ rs _ h

  -- "A refusal gives image 0", and nothing else does.
  pub choice_image : ((choose_of ws os rs).image ≡ 0) exactly_when ((choose_of ws os rs).number ≡ done → ⊥)
  choice_image = go image-or_0
    where
      -- By whether there is an image.
      go : ImageOr0 (choose_of ws os rs) → ((choose_of ws os rs).image ≡ 0) exactly_when ((choose_of ws os rs).number ≡ done → ⊥)
      go (no_such e n) = (λ z. n, λ z. e)
      go (such l g e) = (λ z. absurd (omega arith), λ z. absurd (z e))

  -- The line is judge's, which is 0 where the order passes.
  pub choose_line : (choose_of ws os rs).line ≡ (judge_of ws os).line
  choose_line = go (why-is ws os rs)
    where
      -- By why it is answered.
      go : WhyChosen ws os rs (choose_of ws os rs) → (choose_of ws os rs).line ≡ (judge_of ws os).line
      go (by_judging a e j n) = lined e ∙ ap (λ (x : Answer). x.line) (sym (judged-only ws os a j))
      go (by-rules p h) = choice_line _ _ rs _ h ∙ ap (λ (x : Answer). x.line) (sym (passes-answered ws os p))

  -- It has 16 bits.
  pub choose_line-most : (choose_of ws os rs).line < 2 ^ 16
  choose_line-most = omega (arith, choose_line, judge_line-most ws os)

-- ---- whichever order

-- The images of rules are those of any list with the same rules.
same-images : (k : ℕ) (t : Tree) (l m : List ImageRule) → ((r : ImageRule) → r ∈ l → r ∈ m) → (i : ℕ) → i ∈ images_for k t l → i ∈ images_for k t m
same-images k t l m f i h = let a = image-named k t l h in Memᴰ.cast a.image (named_image k t (f a.rule a.there) a.fits)

-- Lists with the same rules choose the same.
same-rules : (k : ℕ) (t : Tree) (rs qs : List ℕ) (l m : List ImageRule) → IsRules k rs l → IsRules k qs m
    → ((r : ImageRule) → (r ∈ l) exactly_when (r ∈ m)) → chosen_by k t rs ≡ chosen_by k t qs
same-rules k t rs qs l m i j f =
    chosen-some k t rs l (rules-only k rs l i)
    ∙ images_same (images_for k t l) (images_for k t m) (λ x. (same-images k t l m (λ r. (f r).0) x, same-images k t m l (λ r. (f r).1) x))
    ∙ sym (chosen-some k t qs m (rules-only k qs m j))

-- The rules in another order, or one twice, give the same answer.
pub whichever_order : (ws os rs qs : List ℕ) (l m : List ImageRule) → IsRules (book_in ws).k rs l → IsRules (book_in ws).k qs m
    → ((r : ImageRule) → (r ∈ l) exactly_when (r ∈ m)) → choose_of ws os rs ≡ choose_of ws os qs
unfolding book_in
whichever_order ws os rs qs l m i j f =
    by_test (eqb (judge_of ws os).number done)
    (λ h.
    let p = answered-passes ws os (eqb-true _ _ h) in
    let k : get_or ws k_word 0 ≡ p.lent.book.k = (head_says ws p.lent.book p.lent.is_book).0 in
    choose_lent ws os rs p ∙ same-rules p.lent.book.k p.lent.tree rs qs l m (rw k at i) (rw k at j) f ∙ sym (choose_lent ws os qs p))
    (λ h. let n = eqb-false _ _ h in choose_judges ws os rs n ∙ sym (choose_judges ws os qs n))
