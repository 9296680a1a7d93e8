-- What being in form means: words are decoded to a book just where they are a book in form and are its words and then zeros. Assumes nothing.
use Rattle.std.specs.Prelude.{None, Some}
use Prim.Native.Nat.{ℕ, zero, suc, ◌+◌, ◌-◌, ◌≤◌, zero-le}
use mathlib.Core.Path.{◌≡◌, refl, sym, ap, ◌∙◌}
use mathlib.Core.Bool.{Bool, true, false}
use mathlib.Core.List.{List, [], ◌∷◌, ◌++◌, append_assoc}
use native.Mathlib.Omega.{arith}
use lib.Dec.{leb, eqb}
use borrow.Author.Tests.{le-leb, leb-true, eq-eqb, eqb-true}
use lib.ListN.{length, get_or, drop, replicate, length-append, length-drop, length-replicate}
use lib.Seq.{drop-drop, drop-append_seam}
use Rattle.words.specs.Base.{◌and◌, when◌then◌else◌, within, same_words}
use Rattle.words.proofs.Tests.{and_left, and_right, and_both, same-words, words_same, either, never}
use Rattle.figures.specs.Limits.{head_words, least_k, greatest_k, greatest_count}
use Rattle.order.proofs.Fitting.{fits-even}
use Rattle.section.specs.Entries.{Entry, first_entry, entries, width, span, section_words, total, Even}
use Rattle.section.proofs.Words.{length-entries, entries-words, entries-span, words-entries, words-span}
use Rattle.book.specs.Book.{Book, body, used, live, encode, lay, section_of, shallowest, deepest, entry_in_form, ascending_from, section_in_form, in_form}
use Rattle.book.specs.Decoding.{tops_at, lows_at, middles_at, end_at, book_in, formed, decode, places_of, start_of, slot_of}
use Rattle.book.specs.Passes.{run, zeros, head_of}
use Rattle.book.specs.declared.Section.{Section}
use Rattle.book.specs.declared.Section.TheVariants.{Taught, Tops, Lows, Middles}
use Rattle.book.specs.declared.Places.{Places}
use Rattle.book.proofs.Passing.{all, all-each, each_all, places_in, run_of, passes, section-in}

-- ---- zeros

-- Words that are all zero are so many zeros.
zeros-are : (xs : List ℕ) → zeros xs ≡ true → xs ≡ replicate (length xs) 0
unfolding zeros
zeros-are [] e = refl
zeros-are (x ∷ xs) e =
    let p : x ≡ 0 = eqb-true x 0 (and_left _ _ e) in
    let q : xs ≡ replicate (length xs) 0 = zeros-are xs (and_right _ _ e) in
    cc

-- So many zeros are all zero.
zeros_of : (n : ℕ) → zeros (replicate n 0) ≡ true
unfolding zeros
zeros_of zero = refl
zeros_of (suc n) = and_both refl (zeros_of n)

-- ---- runs

module _ (least greatest : ℕ) where
  -- A run is entries in form that ascend, all of whose words are there.
  run-entries : (last : List ℕ) (n : ℕ) (ws : List ℕ) → run least greatest last n ws ≡ true
      → (span n ws ≤ length ws) × (ascending_from last least greatest (entries n ws) ≡ true)
  unfolding run span entries ascending_from
  run-entries last zero ws e = (zero-le, refl)
  run-entries last (suc n) ws e =
      let a : width ws ≤ length ws = leb-true _ _ (and_left _ _ e) in
      let x = and_right (leb (width ws) (length ws)) _ e in
      let y = and_right (entry_in_form least greatest (first_entry ws)) _ x in
      let ih = run-entries (first_entry ws).key n (drop (width ws) ws) (and_right _ _ y) in
      (omega (arith, length-drop (width ws) ws), and_both (and_left _ _ x) (and_both (and_left _ _ y) ih.1))

  -- And back.
  entries-run : (last : List ℕ) (n : ℕ) (ws : List ℕ) → span n ws ≤ length ws → ascending_from last least greatest (entries n ws) ≡ true → run least greatest last n ws ≡ true
  unfolding run span entries ascending_from
  entries-run last zero ws h e = refl
  entries-run last (suc n) ws h e =
      let x = and_right (entry_in_form least greatest (first_entry ws)) _ e in
      and_both (le-leb (width ws) (length ws) (omega arith))
      (and_both (and_left _ _ e)
      (and_both (and_left _ _ x)
      (entries-run (first_entry ws).key n (drop (width ws) ws) (rw length-drop (omega arith)) (and_right _ _ x))))

  -- Entries in form have keys of two words a node.
  ascending_even : (last : List ℕ) (es : List Entry) → ascending_from last least greatest es ≡ true → Even es
  unfolding ascending_from Even entry_in_form
  ascending_even last [] e = tt
  ascending_even last (x ∷ es) e =
      let f = and_left (entry_in_form least greatest x) _ e in
      (fits-even least greatest x.key (and_right _ _ f), ascending_even x.key es (and_right _ _ (and_right (entry_in_form least greatest x) _ e)))

-- ---- a book in form, part by part

-- What a book in form has: a k, few enough live teachings, and four sections in form.
pub record Proper (b : Book) : Type 0 where
  pub depth : within least_k greatest_k b.k ≡ true
  pub few : live b ≤ greatest_count
  pub section : (s : Section) → section_in_form s b ≡ true

module _ (b : Book) where
  -- A book in form has all of it.
  pub form-proper : in_form b ≡ true → Proper b
  unfolding in_form
  form-proper e =
      let f = and_right (within least_k greatest_k b.k) _ e in
      record {
        depth = and_left _ _ e;
        few = leb-true _ _ (and_left _ _ f);
        section = all-each (λ s. section_in_form s b) (and_right (leb (live b) greatest_count) _ f);
      }

  -- A book that has all of it is in form.
  pub proper_form : Proper b → in_form b ≡ true
  unfolding in_form
  proper_form p = and_both p.depth (and_both (le-leb (live b) greatest_count p.few) (each_all (λ s. section_in_form s b) p.section))

-- The keys of a section in form have two words a node.
pub section-even : (s : Section) (b : Book) → section_in_form s b ≡ true → Even (section_of s b)
unfolding section_in_form
section-even s b e = ascending_even (shallowest s b.k) (deepest s b.k) [] (section_of s b) e

-- The words used are the head's and those of the sections.
pub used_is : (b : Book) → used b ≡ head_words + length (section_words b.T) + length (section_words b.R) + length (section_words b.L) + length (section_words b.P)
unfolding used body
used_is b = simp length-append (omega arith)

-- ---- words that pass are the words of their book

-- What words that pass have.
pub record PassedWords (ws : List ℕ) : Type 0 where
  pub long : head_words ≤ length ws
  pub depth : within least_k greatest_k (get_or ws 0 0) ≡ true
  pub few : get_or ws 2 0 ≤ greatest_count
  pub runs : (s : Section) → run_of ws s ≡ true
  pub is_live : total (book_in ws).T ≡ get_or ws 2 0
  pub is_used : end_at ws ≡ get_or ws 1 0
  pub clear : zeros (drop (end_at ws) ws) ≡ true

-- Words that pass have all of it.
passed : (ws : List ℕ) → passes ws ≡ true → PassedWords ws
unfolding passes head_of
passed ws e0 =
    let e1 = and_right (leb head_words (length ws)) _ e0 in
    let e2 = and_right (within least_k greatest_k (get_or ws 0 0)) _ e1 in
    let e3 = and_right (leb (get_or ws 2 0) greatest_count) _ e2 in
    let e4 = and_right (all (run_of ws)) _ e3 in
    let e5 = and_right (eqb (total (book_in ws).T) (get_or ws 2 0)) _ e4 in
    record {
      long = leb-true _ _ (and_left _ _ e0);
      depth = and_left _ _ e1;
      few = leb-true _ _ (and_left _ _ e2);
      runs = all-each (run_of ws) (and_left _ _ e3);
      is_live = eqb-true _ _ (and_left _ _ e4);
      is_used = eqb-true _ _ (and_left _ _ e5);
      clear = and_right _ _ e5;
    }

-- Seven words and what follows them.
seven : (ws : List ℕ) → head_words ≤ length ws → get_or ws 0 0 ∷ get_or ws 1 0 ∷ get_or ws 2 0 ∷ get_or ws 3 0 ∷ get_or ws 4 0 ∷ get_or ws 5 0 ∷ get_or ws 6 0 ∷ drop head_words ws ≡ ws
seven [] h = absurd (omega arith)
seven (a ∷ []) h = absurd (omega arith)
seven (a ∷ b ∷ []) h = absurd (omega arith)
seven (a ∷ b ∷ c ∷ []) h = absurd (omega arith)
seven (a ∷ b ∷ c ∷ d ∷ []) h = absurd (omega arith)
seven (a ∷ b ∷ c ∷ d ∷ e ∷ []) h = absurd (omega arith)
seven (a ∷ b ∷ c ∷ d ∷ e ∷ f ∷ []) h = absurd (omega arith)
seven (a ∷ b ∷ c ∷ d ∷ e ∷ f ∷ g ∷ r) h = refl

-- The words from a section on are its entries' words, and the words from the next on.
record At (ws : List ℕ) (from n : ℕ) (es : List Entry) : Type 0 where
  words : drop from ws ≡ section_words es ++ drop (from + span n (drop from ws)) ws
  long : length (section_words es) ≡ span n (drop from ws)

-- Whole entries stand so.
stands : (ws : List ℕ) (from n : ℕ) → span n (drop from ws) ≤ length (drop from ws) → At ws from n (entries n (drop from ws))
stands ws from n h =
    record {
      words = entries-words n (drop from ws) h ∙ ap (λ (l : List ℕ). section_words (entries n (drop from ws)) ++ l) (drop-drop _ from ws);
      long = entries-span n (drop from ws) h;
    }

module _ (ws : List ℕ) (p : PassedWords ws) where
  -- All the words of a section's entries are there.
  section-whole : (s : Section) → span (get_or ws (slot_of s) 0) (drop (start_of s (places_in ws)) ws) ≤ length (drop (start_of s (places_in ws)) ws)
  section-whole s = (run-entries _ _ _ _ _ (p.runs s)).0

  -- Each section stands where it starts.
  section-at : (s : Section) → At ws (start_of s (places_in ws)) (get_or ws (slot_of s) 0) (section_of s (book_in ws))
  section-at s = rw (section-in s ws) (stands ws _ _ (section-whole s))

  -- Behind the head stand the words of the sections and then the rest.
  is_body : drop head_words ws ≡ body (book_in ws) ++ drop (end_at ws) ws
  unfolding body section_of tops_at lows_at middles_at end_at
  is_body =
      let t = (section-at Taught).words in
      let r = (section-at Tops).words in
      let l = (section-at Lows).words in
      let m = (section-at Middles).words in
      t
      ∙ ap (λ (x : List ℕ). section_words (book_in ws).T ++ x) (r ∙ ap (λ (x : List ℕ). section_words (book_in ws).R ++ x) (l ∙ ap (λ (x : List ℕ). section_words (book_in ws).L ++ x) m))
      ∙ simp append_assoc

  -- The sections end where the words used do.
  pub is-used : used (book_in ws) ≡ end_at ws
  unfolding used body section_of tops_at lows_at middles_at end_at
  is-used =
      let t = (section-at Taught).long in
      let r = (section-at Tops).long in
      let l = (section-at Lows).long in
      let m = (section-at Middles).long in
      simp length-append (omega arith)

  -- The sections start where the words say.
  pub is-places : places_of (book_in ws) ≡ places_in ws
  unfolding places_of section_of tops_at lows_at middles_at book_in
  is-places =
      let t = (section-at Taught).long in
      let r = (section-at Tops).long in
      let l = (section-at Lows).long in
      same (omega arith) (omega arith) (omega arith) is-used
    where
      same : {k a a' b b' c c' d d' : ℕ} → a ≡ a' → b ≡ b' → c ≡ c' → d ≡ d'
          → ◌≡◌ {A = Places} (record { k = record { k = k }; tops = a; lows = b; middles = c; used = d }) (record { k = record { k = k }; tops = a'; lows = b'; middles = c'; used = d' })
      same e f g h = cc

  -- The rest are zeros.
  is-rest : drop (end_at ws) ws ≡ replicate (length ws - used (book_in ws)) 0
  is-rest = zeros-are (drop (end_at ws) ws) p.clear ∙ rw (length-drop, is-used)

  -- The words are those of the book, and then zeros.
  pub is-laid : lay (length ws) (book_in ws) ≡ ws
  unfolding lay encode live book_in
  is-laid =
      let a : used (book_in ws) ≡ get_or ws 1 0 = is-used ∙ p.is_used in
      let b : total (book_in ws).T ≡ get_or ws 2 0 = p.is_live in
      let c : length (book_in ws).T ≡ get_or ws 3 0 = length-entries _ _ in
      let d : length (book_in ws).R ≡ get_or ws 4 0 = length-entries _ _ in
      let e : length (book_in ws).L ≡ get_or ws 5 0 = length-entries _ _ in
      let f : length (book_in ws).P ≡ get_or ws 6 0 = length-entries _ _ in
      let g : body (book_in ws) ++ replicate (length ws - used (book_in ws)) 0 ≡ drop head_words ws = sym (is_body ∙ ap (λ (x : List ℕ). body (book_in ws) ++ x) is-rest) in
      same a b c d e f g ∙ seven ws p.long
    where
      same : {k a a' b b' c c' d d' e e' f f' : ℕ} {g g' : List ℕ} → a ≡ a' → b ≡ b' → c ≡ c' → d ≡ d' → e ≡ e' → f ≡ f' → g ≡ g'
          → k ∷ a ∷ b ∷ c ∷ d ∷ e ∷ f ∷ g ≡ k ∷ a' ∷ b' ∷ c' ∷ d' ∷ e' ∷ f' ∷ g'
      same p q r s t u v = cc

  -- Each section is in form.
  section-formed : (s : Section) → section_in_form s (book_in ws) ≡ true
  unfolding section_in_form book_in
  section-formed s =
      ap (ascending_from [] (shallowest s (get_or ws 0 0)) (deepest s (get_or ws 0 0))) (section-in s ws) ∙ (run-entries _ _ _ _ _ (p.runs s)).1

  -- The book is in form.
  pub is-formed : in_form (book_in ws) ≡ true
  unfolding live book_in
  is-formed = proper_form (book_in ws) (record { depth = p.depth; few = omega (arith, p.is_live, p.few); section = section-formed })

-- ---- a book in form is read back from its words

-- Entries are read where they stand, and what follows stands behind them.
record Read (x : List ℕ) (from n : ℕ) (es : List Entry) (r : List ℕ) : Type 0 where
  many : entries n (drop from x) ≡ es
  long : span n (drop from x) ≡ length (section_words es)
  next : drop (from + span n (drop from x)) x ≡ r
  room : span n (drop from x) ≤ length (drop from x)

-- Words that are those of entries and then others are read so.
read : (x : List ℕ) (from : ℕ) (es : List Entry) (r : List ℕ) → drop from x ≡ section_words es ++ r → Even es → Read x from (length es) es r
read x from es r e even =
    let s : span (length es) (drop from x) ≡ length (section_words es) = rw e (words-span es r even) in
    record {
      many = rw e (words-entries es r even);
      long = s;
      next = sym (drop-drop (span (length es) (drop from x)) from x) ∙ rw (s, e) (drop-append_seam (section_words es) r);
      room = rw (s, e) (simp length-append (omega arith));
    }

-- Entries in form that are read so are a run.
read-run : (least greatest : ℕ) (x : List ℕ) (from n : ℕ) (es : List Entry) (r : List ℕ) → Read x from n es r → ascending_from [] least greatest es ≡ true
    → run least greatest [] n (drop from x) ≡ true
read-run least greatest x from n es r m e = entries-run least greatest [] n (drop from x) m.room (ap (ascending_from [] least greatest) m.many ∙ e)

module _ (n : ℕ) (b : Book) (p : Proper b) where
  -- The zeros behind the book.
  rest : List ℕ
  rest = replicate (n - used b) 0

  -- The book in the slice.
  x : List ℕ
  x = b.k ∷ used b ∷ live b ∷ length b.T ∷ length b.R ∷ length b.L ∷ length b.P ∷ (body b ++ rest)

  -- It is the book laid in so many words.
  is_x : lay n b ≡ x
  unfolding lay encode x rest
  is_x = refl

  -- Section T is read behind the head.
  read_t : Read x head_words (length b.T) b.T (section_words b.R ++ (section_words b.L ++ (section_words b.P ++ rest)))
  unfolding x body section_of
  read_t = read x head_words b.T (section_words b.R ++ (section_words b.L ++ (section_words b.P ++ rest))) (simp append_assoc) (section-even Taught b (p.section Taught))

  -- Section R is read behind it.
  read_r : Read x (tops_at x) (length b.R) b.R (section_words b.L ++ (section_words b.P ++ rest))
  unfolding x tops_at section_of
  read_r = read x (tops_at x) b.R (section_words b.L ++ (section_words b.P ++ rest)) read_t.next (section-even Tops b (p.section Tops))

  -- Section L is read behind that.
  read_l : Read x (lows_at x) (length b.L) b.L (section_words b.P ++ rest)
  unfolding x lows_at section_of
  read_l = read x (lows_at x) b.L (section_words b.P ++ rest) read_r.next (section-even Lows b (p.section Lows))

  -- Section P is read last.
  read_p : Read x (middles_at x) (length b.P) b.P rest
  unfolding x middles_at section_of
  read_p = read x (middles_at x) b.P rest read_l.next (section-even Middles b (p.section Middles))

  -- Behind them stand the zeros.
  zeros-behind : drop (end_at x) x ≡ rest
  unfolding x end_at
  zeros-behind = read_p.next

  -- The sections end where the words used do.
  end-used : end_at x ≡ used b
  unfolding end_at middles_at lows_at tops_at x
  end-used =
      let t = read_t.long in
      let r = read_r.long in
      let l = read_l.long in
      let m = read_p.long in
      omega (arith, used_is b)

  -- The book is read.
  book-read : book_in x ≡ b
  unfolding book_in x
  book-read =
      let t = read_t.many in
      let r = read_r.many in
      let l = read_l.many in
      let m = read_p.many in
      rw (t, r, l, m)

  -- Each section is a run.
  read-runs : (s : Section) → run_of x s ≡ true
  unfolding x section_in_form section_of
  read-runs Taught = read-run _ _ x head_words _ b.T _ read_t (p.section Taught)
  read-runs Tops = read-run _ _ x (tops_at x) _ b.R _ read_r (p.section Tops)
  read-runs Lows = read-run _ _ x (lows_at x) _ b.L _ read_l (p.section Lows)
  read-runs Middles = read-run _ _ x (middles_at x) _ b.P _ read_p (p.section Middles)

  -- The words pass.
  x_passes : passes x ≡ true
  unfolding passes head_of x rest live
  x_passes =
      let t : total (book_in x).T ≡ live b = ap (λ (c : Book). total c.T) book-read in
      let w : zeros (drop (end_at x) x) ≡ true = ap zeros zeros-behind ∙ zeros_of (n - used b) in
      let h : head_words ≤ length x = omega arith in
      and_both (le-leb head_words (length x) h)
      (and_both p.depth
      (and_both (le-leb (live b) greatest_count p.few)
      (and_both (each_all (run_of x) read-runs) (and_both (eq-eqb _ _ t) (and_both (eq-eqb _ _ end-used) w)))))

-- A book in form, laid in words, passes.
laid-passes : (n : ℕ) (b : Book) → in_form b ≡ true → passes (lay n b) ≡ true
laid-passes n b f = let p = form-proper b f in ap passes (is_x n b p) ∙ x_passes n b p

-- It is the book that the words hold.
pub laid-read : (n : ℕ) (b : Book) → in_form b ≡ true → book_in (lay n b) ≡ b
laid-read n b f = let p = form-proper b f in ap book_in (is_x n b p) ∙ book-read n b p

-- ---- the tests of a pass are the definition

-- The tests of a pass decide whether the words are a book in form.
pub formed-passes : (ws : List ℕ) → formed ws ≡ passes ws
unfolding formed
formed-passes ws = either _ _ there back
  where
    there : (in_form (book_in ws) and same_words (lay (length ws) (book_in ws)) ws) ≡ true → passes ws ≡ true
    there e = let q : lay (length ws) (book_in ws) ≡ ws = words_same _ _ (and_right _ _ e) in ap passes (sym q) ∙ laid-passes (length ws) (book_in ws) (and_left _ _ e)

    back : passes ws ≡ true → (in_form (book_in ws) and same_words (lay (length ws) (book_in ws)) ws) ≡ true
    back e = let p = passed ws e in and_both (is-formed ws p) (ap (same_words (lay (length ws) (book_in ws))) (sym (is-laid ws p)) ∙ same-words _)

-- Words that are a book in form have what words that pass have.
pub formed-passed : (ws : List ℕ) → formed ws ≡ true → PassedWords ws
formed-passed ws e = passed ws (sym (formed-passes ws) ∙ e)

-- ---- what it means to decode

-- Words that are decoded to a book are its words and then zeros, and it is in form.
pub decoded : (ws : List ℕ) (b : Book) → decode ws ≡ Some b → (lay (length ws) b ≡ ws) × (in_form b ≡ true)
unfolding decode when◌then◌else◌
decoded ws b e = go (formed ws) refl e
  where
    go : (t : Bool) → formed ws ≡ t → (when t then Some (book_in ws) else None) ≡ Some b → (lay (length ws) b ≡ ws) × (in_form b ≡ true)
    go true f g = let q : book_in ws ≡ b = cc in let p = formed-passed ws f in rw (← q) (is-laid ws p, is-formed ws p)
    go false f g = never cc

-- A book in form is what its words are decoded to.
pub read_back : (n : ℕ) (b : Book) → in_form b ≡ true → decode (lay n b) ≡ Some b
unfolding decode when◌then◌else◌
read_back n b f = rw (formed-passes (lay n b) ∙ laid-passes n b f, laid-read n b f)

module _ (ws : List ℕ) where
  -- Words that are those of a book in form and then zeros are decoded to it.
  pub laid-decoded : (b : Book) → in_form b ≡ true → lay (length ws) b ≡ ws → decode ws ≡ Some b
  laid-decoded b f e = ap decode (sym e) ∙ read_back (length ws) b f

  -- Words are those of one book in form at most.
  pub one-book : (b c : Book) → in_form b ≡ true → in_form c ≡ true → lay (length ws) b ≡ ws → lay (length ws) c ≡ ws → b ≡ c
  one-book b c f g d e = cc (laid-decoded b f d, laid-decoded c g e)

  -- Words that are decoded to none are those of no book in form.
  pub no_book : decode ws ≡ None → (b : Book) → in_form b ≡ true → lay (length ws) b ≡ ws → ⊥
  no_book n b f e = never (cc (laid-decoded b f e))

-- ---- how long it is

-- A book in a slice takes the words used and the rest.
lay-length : (n : ℕ) (b : Book) → length (lay n b) ≡ used b + (n - used b)
unfolding lay encode used
lay-length n b = simp (length-append, length-replicate) (omega arith)

-- A book that has room in a slice fills it.
pub lay-long : (n : ℕ) (b : Book) → used b ≤ n → length (lay n b) ≡ n
lay-long n b h = omega (arith, lay-length n b)

-- A book that fills a slice has room in it.
pub used-fits : (ws : List ℕ) (b : Book) → lay (length ws) b ≡ ws → used b ≤ length ws
used-fits ws b e = omega (arith, lay-length (length ws) b, ap length e)
