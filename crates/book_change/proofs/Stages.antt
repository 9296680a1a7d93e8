-- A book that is changed section by section, the last first: what stands in the words at each stage. Assumes nothing.
use Prim.Native.Nat.{ℕ, ◌≤◌}
use mathlib.Core.Path.{◌≡◌, refl, sym, ap, ap₂, ◌∙◌}
use mathlib.Core.Bool.{true}
use mathlib.Core.List.{List}
use lib.ListN.{length}
use Rattle.figures.specs.Limits.{head_words, most_book_words}
use Rattle.book.specs.Book.{Book, section_of, used, lay, in_form, with_section}
use Rattle.book.specs.Decoding.{book_in, places_of, start_of}
use Rattle.book.specs.Holding.{Holds}
use Rattle.book.specs.declared.Section.{Section}
use Rattle.book.specs.declared.Section.TheVariants.{Taught, Tops, Lows, Middles}
use Rattle.book.specs.declared.Places.{Places}
use Rattle.book.proofs.Meaning.{laid-read, lay-long, used-fits}
use Rattle.book_change.specs.Changing.{changed_in, Lacks, lacking_each, LacksEach, SectionStands, Ready}
use Rattle.book_change.specs.declared.Change.{Change}
use Rattle.book_change.specs.declared.Change.TheVariants.{Teach, Withdraw}
use Rattle.book_change.specs.declared.Lacking.{Lacking}

-- A book in form stands in words that are a slice of n.
pub record Stage (n : ℕ) (b : Book) (ws : List ℕ) : Type 0 where
  pub long : head_words ≤ n
  pub short : n ≤ most_book_words
  pub form : in_form b ≡ true
  pub is : ws ≡ lay n b
  pub reads : book_in ws ≡ b
  pub words : length ws ≡ n

-- A book in form that has room stands in the words that it is laid in.
staged : (n : ℕ) (b : Book) (ws : List ℕ) → head_words ≤ n → n ≤ most_book_words → in_form b ≡ true → used b ≤ n → ws ≡ lay n b → Stage n b ws
staged n b ws long short form room is = record {
  long = long;
  short = short;
  form = form;
  is = is;
  reads = ap book_in is ∙ laid-read n b form;
  words = ap length is ∙ lay-long n b room;
}

module _ (ws : List ℕ) (p : Places) (h : Holds ws p) where
  -- The words of a book in form are the first stage.
  pub first-stage : Stage (length ws) (book_in ws) ws
  first-stage = staged (length ws) (book_in ws) ws h.long h.short h.form (used-fits ws (book_in ws) h.laid) (sym h.laid)

  -- Its sections start where the places say.
  pub starts : (s : Section) → start_of s p ≡ start_of s (places_of (book_in ws))
  starts s = ap (start_of s) h.places

  -- A section of it stands there.
  pub held_stands : (s : Section) → SectionStands ws s (start_of s p) (used (book_in ws))
  held_stands s = record { long = h.long; short = h.short; form = h.form; laid = h.laid; start = starts s; end = refl }

module _ (n : ℕ) (b : Book) (ws : List ℕ) (g : Stage n b ws) where
  -- A section of a stage stands in its words.
  pub stage_stands : (s : Section) (at ends : ℕ) → at ≡ start_of s (places_of b) → ends ≡ used b → SectionStands ws s at ends
  stage_stands s at ends e f =
      record {
        long = rw g.words g.long;
        short = rw g.words g.short;
        form = rw g.reads g.form;
        laid = ap₂ lay g.words g.reads ∙ sym g.is;
        start = e ∙ ap (λ (c : Book). start_of s (places_of c)) (sym g.reads);
        end = f ∙ ap used (sym g.reads);
      }

  module _ (c : Change) (s : Section) (other : Book) (r : Ready n c s other b) where
    -- What is ready for the book is ready for the words.
    pub stage_ready : Ready (length ws) c s other (book_in ws)
    stage_ready = rw (g.words, g.reads) r

    -- Once a section is changed the next stage stands in the words.
    pub next-stage : (last : List ℕ) → last ≡ lay (length ws) (changed_in c s other (book_in ws)) → Stage n (changed_in c s other b) last
    next-stage last e = staged n (changed_in c s other b) last g.long g.short r.form r.room (e ∙ rw (g.words, g.reads))

    -- The words used then.
    pub next-used : (u : ℕ) → u ≡ used (changed_in c s other (book_in ws)) → u ≡ used (changed_in c s other b)
    next-used u e = e ∙ rw g.reads

  -- What a section of the book lacks, the same section lacks in the words.
  pub stage_lacks : (c : Change) (s : Section) (other : Book) (l : ℕ) → Lacks c l (section_of s other) (section_of s b)
      → Lacks c l (section_of s other) (section_of s (book_in ws))
  stage_lacks c s other l h = rw g.reads h

-- ---- the sections before a changed one start where they did
module _ (c : Change) (other b : Book) where
  -- Section L does once P is changed.
  pub lows-start : start_of Lows (places_of (changed_in c Middles other b)) ≡ start_of Lows (places_of b)
  unfolding places_of changed_in with_section
  lows-start = refl

  -- Section R does once P or L is changed.
  pub tops_start : start_of Tops (places_of (changed_in c Lows other (changed_in c Middles other b))) ≡ start_of Tops (places_of b)
  unfolding places_of changed_in with_section
  tops_start = refl

-- ---- the sections before a changed one lack what they did

-- Section P lacks what the book lacks of it.
pub middles-lack : (c : Change) (l : Lacking) (other b : Book) → LacksEach c l other b → Lacks c l.middles (section_of Middles other) (section_of Middles b)
unfolding lacking_each section_of
middles-lack Teach l other b h = ap (λ (x : Lacking). x.middles) h
middles-lack Withdraw l other b h = h

-- Section L does once P is changed.
pub lows-lack : (c : Change) (l : Lacking) (other b : Book) → LacksEach c l other b
    → Lacks c l.lows (section_of Lows other) (section_of Lows (changed_in c Middles other b))
unfolding lacking_each section_of changed_in with_section
lows-lack Teach l other b h = ap (λ (x : Lacking). x.lows) h
lows-lack Withdraw l other b h = h

-- Section R does once L is changed too.
pub tops-lack : (c : Change) (l : Lacking) (other b : Book) → LacksEach c l other b
    → Lacks c l.tops (section_of Tops other) (section_of Tops (changed_in c Lows other (changed_in c Middles other b)))
unfolding lacking_each section_of changed_in with_section
tops-lack Teach l other b h = ap (λ (x : Lacking). x.tops) h
tops-lack Withdraw l other b h = h

-- Section T does once R is changed too.
pub taught-lacks : (c : Change) (l : Lacking) (other b : Book) → LacksEach c l other b
    → Lacks c l.taught (section_of Taught other) (section_of Taught (changed_in c Tops other (changed_in c Lows other (changed_in c Middles other b))))
unfolding lacking_each section_of changed_in with_section
taught-lacks Teach l other b h = ap (λ (x : Lacking). x.taught) h
taught-lacks Withdraw l other b h = h
