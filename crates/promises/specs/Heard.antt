-- The orders of 01's cases, calls on one slice, one after the other, and what is heard of each ("Forms on the desk"). Assumes nothing: these are
-- definitions.
use Rattle.std.specs.Prelude.{ℕ, suc, List, [], ◌∷◌, get_or, replicate}
use Rattle.figures.specs.Limits.{used_word}
use Rattle.order.specs.Trees.{Tree, node, Forest, bare, cons, words}
use Rattle.order.specs.Answers.{Writing}
use Rattle.book.specs.Opening.{Outcome, outcome, open_of}
use Rattle.book_judging.specs.Judging.{judge_of}
use Rattle.book_teaching.specs.Calls.{teach_of, withdraw_of}

-- ---- orders

-- A = 1000(2000(0010),3000(3001))
abbrev pub A : Tree
A = node 1000 (cons (node 2000 (cons (node 10 bare) bare)) (cons (node 3000 (cons (node 3001 bare) bare)) bare))

-- B = 1000(2000(0016),3000(3001,3002))
abbrev pub B : Tree
B = node 1000 (cons (node 2000 (cons (node 16 bare) bare)) (cons (node 3000 (cons (node 3001 bare) (cons (node 3002 bare) bare))) bare))

-- C = 1000(2000(0010),3000(3001,3002))
abbrev pub C : Tree
C = node 1000 (cons (node 2000 (cons (node 10 bare) bare)) (cons (node 3000 (cons (node 3001 bare) (cons (node 3002 bare) bare))) bare))

-- The single node 1000.
abbrev pub single : Tree
single = node 1000 bare

-- 1000(1000)
abbrev pub pair : Tree
pair = node 1000 (cons single bare)

-- 1000(1000(1000))
abbrev pub three : Tree
three = node 1000 (cons pair bare)

-- "its first leaf": the line of it, counted from 1. A node without children is its own; that of any other is the first leaf of its first child.
unfoldable mutual
  pub first_leaf : Tree → ℕ
  first_leaf (node c f) = suc (leaf_in f)

  -- How many lines below its node's the first leaf of a row of children stands; 0 where there are none.
  pub leaf_in : Forest → ℕ
  leaf_in bare = 0
  leaf_in (cons t f) = first_leaf t

-- ---- calls

-- Opening at k; teaching, withdrawing and judging an order.
pub data CaseCall : Type 0 where
  opens : ℕ → CaseCall
  teaches : Tree → CaseCall
  withdraws : Tree → CaseCall
  judges : Tree → CaseCall

-- What a call answers, and the words then. Judging leaves them as they came.
abbrev pub called : CaseCall → List ℕ → Outcome
called (opens k) ws = open_of ws k
called (teaches t) ws = teach_of ws (words t)
called (withdraws t) ws = withdraw_of ws (words t)
called (judges t) ws = outcome (judge_of ws (words t)) ws

-- A slice of so many words, none of them zero before it is opened.
abbrev pub slice : ℕ → List ℕ
slice n = replicate n 9

-- What follows words, once they are computed.
unfoldable pub computed : {A : Type 0} → List ℕ → (List ℕ → A) → A
computed [] f = f []
computed (w ∷ ws) f = computed ws (λ vs. f (w ∷ vs))

-- What is heard of each call, on the words that the one before it left: "answer, line, words used".
unfoldable pub heard : List CaseCall → List ℕ → List (List ℕ)
heard [] ws = []
heard (c ∷ cs) ws =
    let o : Outcome = called c ws in
    computed o.words (λ vs. (o.answer.number ∷ o.answer.line ∷ get_or vs used_word 0 ∷ []) ∷ heard cs vs)

-- What is heard of a text that is read: answer, line, words written, and the output then.
abbrev pub read_as : Writing → List ℕ
read_as w = w.answer.number ∷ w.answer.line ∷ w.answer.count ∷ w.out
