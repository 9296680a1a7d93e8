-- A book with other entries in one section, and its words: the head, what stands before that section and behind it, and what the head says.
-- Assumes nothing.
use Prim.Native.Nat.{ℕ, ◌+◌, ◌-◌, ◌^◌, ◌≤◌}
use mathlib.Core.Path.{◌≡◌, refl, sym, ap, ◌∙◌}
use mathlib.Core.List.{List, [], ◌∷◌, ◌++◌, append_assoc, append-nil}
use native.Mathlib.Omega.{arith}
use lib.ListN.{length, get_or, set, replicate, length-append}
use Rattle.figures.specs.Limits.{head_words, most_book_words}
use Rattle.section.specs.Entries.{Entry, section_words}
use Rattle.section.specs.Near.{near_of, Small}
use Rattle.section.proofs.Near.{near-small}
use Rattle.book.specs.Book.{Book, section_of, with_section, body, used, live, encode, lay}
use Rattle.book.specs.Decoding.{places_of, start_of, slot_of}
use Rattle.book.specs.declared.Section.{Section}
use Rattle.book.specs.declared.Section.TheVariants.{Taught, Tops, Lows, Middles}
use Rattle.book.proofs.Sections.{each-section}

-- ---- other entries in a section

-- The section that is given other entries has them.
pub section-with : (s : Section) (es : List Entry) (b : Book) → section_of s (with_section s es b) ≡ es
unfolding with_section section_of
section-with Taught es b = refl
section-with Tops es b = refl
section-with Lows es b = refl
section-with Middles es b = refl

module _ (s : Section) (es : List Entry) (b : Book) where
  -- Other entries in a section leave k as it is.
  pub with-k : (with_section s es b).k ≡ b.k
  unfolding with_section
  with-k = each-section (λ s. (with_section s es b).k ≡ b.k) refl refl refl refl s

  -- What holds of the book's sections and of the other entries holds of the sections with these in one.
  pub with-sections : (Q : Section → List Entry → Type 0) → Q s es → ((u : Section) → Q u (section_of u b)) → (u : Section) → Q u (section_of u (with_section s es b))
  unfolding section_of with_section
  with-sections Q = each-section (λ s. Q s es → ((u : Section) → Q u (section_of u b)) → (u : Section) → Q u (section_of u (with_section s es b)))
      (λ q h. each-section _ q (h Tops) (h Lows) (h Middles))
      (λ q h. each-section _ (h Taught) q (h Lows) (h Middles))
      (λ q h. each-section _ (h Taught) (h Tops) q (h Middles))
      (λ q h. each-section _ (h Taught) (h Tops) (h Lows) q)
      s

-- ---- its words

-- The words between the head and a section.
unfoldable pub before : Section → Book → List ℕ
before Taught b = []
before Tops b = section_words b.T
before Lows b = section_words b.T ++ section_words b.R
before Middles b = section_words b.T ++ (section_words b.R ++ section_words b.L)

-- The words of the sections behind a section.
unfoldable pub behind : Section → Book → List ℕ
behind Taught b = section_words b.R ++ (section_words b.L ++ section_words b.P)
behind Tops b = section_words b.L ++ section_words b.P
behind Lows b = section_words b.P
behind Middles b = []

-- A book's head, and words behind it.
abbrev pub headed : Book → List ℕ → List ℕ
headed b r = b.k ∷ used b ∷ live b ∷ length b.T ∷ length b.R ∷ length b.L ∷ length b.P ∷ r

-- With other entries in a section the words of the others are the same.
pub body-with : (s : Section) (es : List Entry) (b : Book) → body (with_section s es b) ≡ before s b ++ (section_words es ++ behind s b)
unfolding body with_section before behind
body-with Taught es b = refl
body-with Tops es b = refl
body-with Lows es b = rw append_assoc
body-with Middles es b = simp (append_assoc, append-nil)

-- With its own entries in a section a book is the same.
with-own : (s : Section) (b : Book) → with_section s (section_of s b) b ≡ b
unfolding with_section section_of
with-own Taught b = refl
with-own Tops b = refl
with-own Lows b = refl
with-own Middles b = refl

-- The words of the sections are those before a section, its own, and those behind it.
pub body-split : (s : Section) (b : Book) → body b ≡ before s b ++ (section_words (section_of s b) ++ behind s b)
body-split s b = ap body (sym (with-own s b)) ∙ body-with s (section_of s b) b

-- A section starts behind the head and the words before it.
pub start_is : (s : Section) (b : Book) → start_of s (places_of b) ≡ head_words + length (before s b)
unfolding places_of before
start_is Taught b = refl
start_is Tops b = refl
start_is Lows b = simp length-append (omega arith)
start_is Middles b = simp length-append (omega arith)

-- The words used with other entries in a section.
pub used-with : (s : Section) (es : List Entry) (b : Book) → used (with_section s es b) ≡ head_words + (length (before s b) + (length (section_words es) + length (behind s b)))
unfolding used
used-with s es b = rw (body-with s es b) (simp length-append (omega arith))

-- The words used, by a section.
pub used-split : (s : Section) (b : Book) → used b ≡ head_words + (length (before s b) + (length (section_words (section_of s b)) + length (behind s b)))
used-split s b = ap used (sym (with-own s b)) ∙ used-with s (section_of s b) b

-- A book in a slice is its head, its sections and zeros.
pub lay-headed : (n : ℕ) (b : Book) → lay n b ≡ headed b (body b ++ replicate (n - used b) 0)
unfolding lay encode
lay-headed n b = refl

-- The head's number of entries of a section.
pub slot_read : (s : Section) (n : ℕ) (b : Book) → get_or (lay n b) (slot_of s) 0 ≡ length (section_of s b)
unfolding section_of
slot_read Taught n b = rw (lay-headed n b)
slot_read Tops n b = rw (lay-headed n b)
slot_read Lows n b = rw (lay-headed n b)
slot_read Middles n b = rw (lay-headed n b)

-- The head's number of live teachings.
live-read : (n : ℕ) (b : Book) → get_or (lay n b) 2 0 ≡ live b
live-read n b = rw (lay-headed n b)

-- It is so of the words of any slice that the book fills.
pub live_laid : (ws : List ℕ) (b : Book) → lay (length ws) b ≡ ws → get_or ws 2 0 ≡ live b
live_laid ws b e = ap (λ (l : List ℕ). get_or l 2 0) (sym e) ∙ live-read (length ws) b

-- The head's words for what is used, what is live and a section's entries, once they are written.
pub set-head : (s : Section) (es : List Entry) (b : Book) (r : List ℕ) (u v n : ℕ) → u ≡ used (with_section s es b) → v ≡ live (with_section s es b) → n ≡ length es
    → set (set (set (headed b r) 1 u) 2 v) (slot_of s) n ≡ headed (with_section s es b) r
unfolding with_section
set-head Taught es b r u v n p q h = rw (p, q, h)
set-head Tops es b r u v n p q h = rw (p, q, h)
set-head Lows es b r u v n p q h = rw (p, q, h)
set-head Middles es b r u v n p q h = rw (p, q, h)

-- What a section of a book that fits says of a key has figures of 16 bits.
pub section-small : (s : Section) (b : Book) → used b ≤ most_book_words → (key : List ℕ) → Small (2 ^ 16) (near_of key (section_of s b))
section-small s b few key = near-small (2 ^ 16) key (section_of s b) (omega (arith, used-split s b))
