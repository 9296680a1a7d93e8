-- The images of the rules that fit, and what they choose: it goes by which images there are, and not by their order or how often one is named.
-- Assumes nothing.
use Prim.Native.Nat.{ℕ}
use mathlib.Core.Path.{◌≡◌, refl, ap, sym, ◌∙◌}
use mathlib.Core.Bool.{true, false}
use mathlib.Core.List.Memᴰ
use mathlib.Core.List.Memᴰ.{head as here}
use mathlib.Core.List.Memᴰ.{tail as there}
use mathlib.Core.List.{List, [], ◌∷◌}
use borrow.Author.Tests.{eqb-true, eqb-false, eq-eqb}
use lib.Dec.{eqb}
use Rattle.words.specs.Base.{when◌then◌else◌, ◌and◌, keep, ◌∈◌, ◌exactly_when◌}
use Rattle.words.proofs.Tests.{no_test, by_test, and_left, and_right, and_both}
use Rattle.figures.specs.Numbers.{no_image, two_images}
use Rattle.order.specs.Trees.{Tree}
use Rattle.order.proofs.Once.{kept_in, in_kept}
use Rattle.book_choosing.specs.Rules.{ImageRule}
use Rattle.book_choosing.specs.Choosing.{rule_fits, images_for, chosen, unchosen, all_are, one_image}
use Rattle.book_choosing.specs.declared.Chosen.{Chosen}

-- ---- which images there are

module _ (k : ℕ) (t : Tree) where
  -- A rule of the list that fits and names the image.
  pub record Names (l : List ImageRule) (i : ℕ) : Type 0 where
    pub rule : ImageRule
    pub there : rule ∈ l
    pub fits : rule_fits k t rule ≡ true
    pub image : i ≡ rule.image

  -- Each image is named by a rule that fits,
  pub image-named : (l : List ImageRule) {i : ℕ} → i ∈ images_for k t l → Names l i
  unfolding images_for
  image-named l m =
      let q = Memᴰ.of_map (λ (r : ImageRule). r.image) (keep (rule_fits k t) l) m in
      let kept = kept_in (rule_fits k t) l q.1 in
      record { rule = q.0; there = kept.0; fits = kept.1; image = sym q.2 }

  -- and what a rule that fits names is one of the images.
  pub named_image : {l : List ImageRule} {r : ImageRule} → r ∈ l → rule_fits k t r ≡ true → r.image ∈ images_for k t l
  unfolding images_for
  named_image m f = Memᴰ.map (λ (r : ImageRule). r.image) (in_kept (rule_fits k t) m f)

-- ---- all of them the same

-- Images that pass the test are all this one,
all_are_lem : (i : ℕ) (js : List ℕ) → all_are i js ≡ true → (j : ℕ) → j ∈ js → j ≡ i
unfolding all_are
all_are_lem i [] e j m = absurd (Memᴰ.not-nil m)
all_are_lem i (x ∷ js) e j (here q) = q ∙ eqb-true x i (and_left _ _ e)
all_are_lem i (x ∷ js) e j (there m) = all_are_lem i js (and_right _ _ e) j m

-- images that are all this one pass it,
are_all : (i : ℕ) (js : List ℕ) → ((j : ℕ) → j ∈ js → j ≡ i) → all_are i js ≡ true
unfolding all_are
are_all i [] f = refl
are_all i (x ∷ js) f = and_both (eq-eqb x i (f x (here refl))) (are_all i js (λ j m. f j (there m)))

-- and of those that do not pass one is another.
another : (i : ℕ) (js : List ℕ) → all_are i js ≡ false → (j : ℕ) × (j ∈ js) × (j ≡ i → ⊥)
unfolding all_are ◌and◌
another i [] e = no_test (sym e)
another i (x ∷ js) e =
    by_test (eqb x i)
    (λ h. let r = another i js (rw h at e) in (r.0, there r.1, r.2))
    (λ h. (x, here refl, eqb-false x i h))

-- ---- what they choose

-- Why images choose c: by which there are alone.
pub data ByImages (is : List ℕ) (c : Chosen) : Type 0 where
  -- There is none.
  none_named : c ≡ unchosen no_image → ((i : ℕ) → i ∈ is → ⊥) → ByImages is c
  -- Two differ.
  two_named : (i j : ℕ) → c ≡ unchosen two_images → i ∈ is → j ∈ is → (i ≡ j → ⊥) → ByImages is c
  -- There is one, and every other is the same.
  one-named : (i : ℕ) → c ≡ chosen i → i ∈ is → ((j : ℕ) → j ∈ is → j ≡ i) → ByImages is c

-- What is chosen has its reason,
pub images_is : (is : List ℕ) → ByImages is (one_image is)
unfolding one_image when◌then◌else◌
images_is [] = none_named refl (λ i m. Memᴰ.not-nil m)
images_is (x ∷ is) =
    by_test (all_are x is)
    (λ h. one-named x (rw h) (here refl) (each h))
    (λ h. let r = another x is h in two_named r.0 x (rw h) (there r.1) (here refl) r.2)
  where
    -- Each is the first.
    each : all_are x is ≡ true → (j : ℕ) → j ∈ x ∷ is → j ≡ x
    each h j (here q) = q
    each h j (there m) = all_are_lem x is h j m

-- and what has a reason is chosen.
pub images_only : (is : List ℕ) (c : Chosen) → ByImages is c → one_image is ≡ c
images_only is c why = go why (images_is is)
  where
    -- Two reasons are for one choice.
    go : ByImages is c → ByImages is (one_image is) → one_image is ≡ c
    go (none_named e f) (none_named q g) = q ∙ sym e
    go (none_named e f) (two_named i j q m n d) = absurd (f i m)
    go (none_named e f) (one-named i q m g) = absurd (f i m)
    go (two_named i j e m n d) (none_named q g) = absurd (g i m)
    go (two_named i j e m n d) (two_named x y q o p b) = q ∙ sym e
    go (two_named i j e m n d) (one-named x q o g) = absurd (d (g i m ∙ sym (g j n)))
    go (one-named i e m f) (none_named q g) = absurd (g i m)
    go (one-named i e m f) (two_named x y q o p b) = absurd (b (f x o ∙ sym (f y p)))
    go (one-named i e m f) (one-named x q o g) = q ∙ ap chosen (f x o) ∙ sym e

-- The same images in another order, or one more than once, choose the same.
pub images_same : (is js : List ℕ) → ((i : ℕ) → (i ∈ is) exactly_when (i ∈ js)) → one_image is ≡ one_image js
images_same is js f = images_only is (one_image js) (go (images_is js))
  where
    -- By why the second choose as they do.
    go : ByImages js (one_image js) → ByImages is (one_image js)
    go (none_named e g) = none_named e (λ i m. g i ((f i).0 m))
    go (two_named i j e m n d) = two_named i j e ((f i).1 m) ((f j).1 n) d
    go (one-named i e m g) = one-named i e ((f i).1 m) (λ j n. g j ((f j).0 n))
