-- Choosing an image, computed: the story of the two crystals, each number of 02 for it, rule lists that miss their form by one damage, which rules fit, and
-- what is looked for first. Assumes nothing.
use Prim.Native.Nat.{ℕ}
use mathlib.Core.Path.{◌≡◌, refl}
use mathlib.Core.List.{List, [], ◌∷◌, map}
use lib.ListN.{length, replicate, set}
use Rattle.order.specs.Trees.{Tree, node, bare, cons, words}
use Rattle.book.specs.Book.{lay}
use Rattle.book.specs.Taught.{book_of}
use Rattle.book_choosing.specs.Rules.{ImageRule}
use Rattle.book_choosing.specs.Choosing.{choose_of}
use Rattle.book_choosing.specs.Choices.{rules_words}
use Rattle.book_choosing.specs.declared.Chosen.{Chosen}
use Rattle.promises.specs.Heard.{A, B, C, slice}
use Rattle.promises.proofs.Tables.Computed.{choosing_computes}
use Rattle.promises.proofs.Tables.Rows.{times}

-- The book of A and B at k, in a slice of 130 words.
abbrev book_ab : ℕ → List ℕ
book_ab k = lay 130 (book_of k (times 1 A ∷ times 1 B ∷ []))

-- The rule: orders with this part are built with this image.
abbrev rule : ℕ → Tree → ImageRule
rule i t = record { image = i; tree = words t }

-- A leaf.
abbrev leaf : ℕ → Tree
leaf c = node c bare

-- The words of a rule list.
abbrev rule_list : List ImageRule → List ℕ
rule_list rules = length rules ∷ rules_words rules

-- What is told of a choice: number, line and image.
abbrev heard_of : Chosen → List ℕ
heard_of c = c.number ∷ c.line ∷ c.image ∷ []

-- The two crystals: 0010 means image 7, and 0016, which has an oven, image 8.
abbrev crystals : List ℕ
crystals = 2 ∷ 7 ∷ 1 ∷ 10 ∷ 0 ∷ 8 ∷ 1 ∷ 16 ∷ 0 ∷ []

-- By A and B at k = 3, A is built with 7 and B with 8, and C is refused by 22 with line 1; at k = 2 C passes, and is built with 7.
crystal_rows : (rule_list (rule 7 (leaf 10) ∷ rule 8 (leaf 16) ∷ []) ≡ crystals)
    × (heard_of (choose_of (book_ab 3) (words A) crystals) ≡ 0 ∷ 0 ∷ 7 ∷ [])
    × (heard_of (choose_of (book_ab 3) (words B) crystals) ≡ 0 ∷ 0 ∷ 8 ∷ [])
    × (heard_of (choose_of (book_ab 3) (words C) crystals) ≡ 22 ∷ 1 ∷ 0 ∷ [])
    × (heard_of (choose_of (book_ab 2) (words C) crystals) ≡ 0 ∷ 0 ∷ 7 ∷ [])
unfolding choosing_computes
crystal_rows = (refl, refl, refl, refl, refl)

-- What is chosen for A by A and B at k = 3, with these words as rules.
abbrev for_a : List ℕ → List ℕ
for_a rs = heard_of (choose_of (book_ab 3) (words A) rs)

-- 32, "a rule list not so laid out": no words; words behind a list of no rules; a number of rules alone; one rule too few, and one too many, by the number; an
-- image of 0, also of a rule that does not fit, and of 65,536; no nodes, too many of them, and 65,535; a code of 0, and a child that is missing; and 65 rules.
list_rows : (map for_a
    ([] ∷ (0 ∷ 5 ∷ []) ∷ (1 ∷ []) ∷ set crystals 0 1 ∷ set crystals 0 3 ∷ set crystals 1 0 ∷ set crystals 5 0 ∷ set crystals 1 65536
    ∷ set crystals 2 0 ∷ set crystals 2 2 ∷ set crystals 2 65535 ∷ set crystals 3 0 ∷ set crystals 4 1 ∷ rule_list (replicate 65 (rule 7 (leaf 10))) ∷ [])
    ≡ replicate 14 (32 ∷ 0 ∷ 0 ∷ []))
    × (for_a (rule_list (replicate 64 (rule 7 (leaf 10)))) ≡ 0 ∷ 0 ∷ 7 ∷ [])
    × (for_a (set crystals 1 65535) ≡ 0 ∷ 0 ∷ 65535 ∷ [])
unfolding choosing_computes
list_rows = (refl, refl, refl)

-- 1000(2000,3000), the top of A at k = 3.
abbrev top_a : Tree
top_a = node 1000 (cons (leaf 2000) (cons (leaf 3000) bare))

-- "A rule fits an order if its tree is one of that order's low or middle parts at the book's k": of A at k = 3 its leaf 3001, its branch 2000(0010), and A itself,
-- which is its middle part, fit; its top and a leaf 2000 do not, since in A they stand only as cuts, and 30 is answered. "or a rule tree deeper than k-1": A
-- below another node is 3 deep, and so 32.
fitting-rows : map (λ (t : Tree). for_a (rule_list (rule 7 t ∷ [])))
    (leaf 3001 ∷ node 2000 (cons (leaf 10) bare) ∷ A ∷ top_a ∷ leaf 2000 ∷ node 1000 (cons A bare) ∷ [])
    ≡ (0 ∷ 0 ∷ 7 ∷ []) ∷ (0 ∷ 0 ∷ 7 ∷ []) ∷ (0 ∷ 0 ∷ 7 ∷ []) ∷ (30 ∷ 0 ∷ 0 ∷ []) ∷ (30 ∷ 0 ∷ 0 ∷ []) ∷ (32 ∷ 0 ∷ 0 ∷ []) ∷ []
unfolding choosing_computes
fitting-rows = refl

-- At k = 2 its leaf and, as a middle part, what was its top fit; a branch 2000 that is cut to a leaf does not, and A itself is too deep for a rule.
fitting-rows_2 : map (λ (t : Tree). heard_of (choose_of (book_ab 2) (words A) (rule_list (rule 7 t ∷ []))))
    (leaf 3001 ∷ top_a ∷ leaf 2000 ∷ A ∷ [])
    ≡ (0 ∷ 0 ∷ 7 ∷ []) ∷ (0 ∷ 0 ∷ 7 ∷ []) ∷ (30 ∷ 0 ∷ 0 ∷ []) ∷ (32 ∷ 0 ∷ 0 ∷ []) ∷ []
unfolding choosing_computes
fitting-rows_2 = refl

-- A rule by a leaf.
abbrev by_leaf : ℕ → ℕ → ImageRule
by_leaf c i = rule i (leaf c)

-- "30 exactly if no rule fits, 31 exactly if two that fit differ": a list of no rules; two that differ, of which none fits, and of which one does; two that fit and
-- name one image; two that fit and differ, either way round, and with one between them; one rule twice; and one part with two images.
naming_rows : map (λ (rules : List ImageRule). for_a (rule_list rules))
    ([] ∷ (by_leaf 16 8 ∷ by_leaf 9 9 ∷ []) ∷ (by_leaf 16 8 ∷ by_leaf 10 7 ∷ []) ∷ (by_leaf 10 7 ∷ by_leaf 3001 7 ∷ [])
    ∷ (by_leaf 10 7 ∷ by_leaf 3001 8 ∷ []) ∷ (by_leaf 3001 8 ∷ by_leaf 10 7 ∷ []) ∷ (by_leaf 10 7 ∷ by_leaf 16 8 ∷ by_leaf 3001 8 ∷ [])
    ∷ (by_leaf 10 7 ∷ by_leaf 10 7 ∷ []) ∷ (by_leaf 10 7 ∷ by_leaf 10 8 ∷ []) ∷ [])
    ≡ (30 ∷ 0 ∷ 0 ∷ []) ∷ (30 ∷ 0 ∷ 0 ∷ []) ∷ (0 ∷ 0 ∷ 7 ∷ []) ∷ (0 ∷ 0 ∷ 7 ∷ [])
    ∷ (31 ∷ 0 ∷ 0 ∷ []) ∷ (31 ∷ 0 ∷ 0 ∷ []) ∷ (31 ∷ 0 ∷ 0 ∷ [])
    ∷ (0 ∷ 0 ∷ 7 ∷ []) ∷ (31 ∷ 0 ∷ 0 ∷ []) ∷ []
unfolding choosing_computes
naming_rows = refl

-- Two rules that fit A and differ, and a third with image 0.
abbrev differ-and_bad : List ℕ
differ-and_bad = rule_list (by_leaf 10 7 ∷ by_leaf 3001 8 ∷ by_leaf 9 0 ∷ [])

-- "judge's own checks and verdict first, then 32", "then 30", "31", each with rules that are no list: six words, with no order; words that are no book, with no
-- order; a book with no order, and with an order that is too long; A by a book of no orders; and then the rules: two that differ before a bad one.
pub choose_checks : map (λ (c : Chosen). c.number)
    (choose_of (slice 6) [] [] ∷ choose_of (slice 7) [] [] ∷ choose_of (lay 7 (book_of 2 [])) [] [] ∷ choose_of (lay 7 (book_of 2 [])) (replicate 130 1) []
    ∷ choose_of (lay 7 (book_of 2 [])) (words A) [] ∷ choose_of (book_ab 3) (words A) differ-and_bad ∷ [])
    ≡ 4 ∷ 5 ∷ 1 ∷ 2 ∷ 21 ∷ 32 ∷ []
unfolding choosing_computes
choose_checks = refl
