-- The book (01, "The book"): k and four sections, its words, and which books are in form. Assumes nothing: these are definitions.
use Rattle.std.specs.Prelude.{ℕ, ◌+◌, ◌-◌, Bool, true, List, [], ◌∷◌, ◌++◌, leb, length, replicate}
use Rattle.words.specs.Base.{◌and◌, within}
use Rattle.words.specs.Compare.{before}
use Rattle.figures.specs.Limits.{greatest_depth, least_k, greatest_k, head_words, least_count, greatest_count}
use Rattle.section.specs.Entries.{Entry, section_words, total}
use Rattle.order.specs.Fits.{fits_of}
use Rattle.book.specs.declared.Section.{Section}
use Rattle.book.specs.declared.Section.TheVariants.{Taught, Tops, Lows, Middles}

-- "Then sections T (taught orders), R, L, P": the orders taught, and their tops, low parts and middle parts.
pub record Book : Type 0 where
  pub k : ℕ
  pub T : List Entry
  pub R : List Entry
  pub L : List Entry
  pub P : List Entry

-- A section of the book.
unfoldable pub section_of : Section → Book → List Entry
section_of Taught b = b.T
section_of Tops b = b.R
section_of Lows b = b.L
section_of Middles b = b.P

-- The book with other entries in one section.
unfoldable pub with_section : Section → List Entry → Book → Book
with_section Taught es b = record { k = b.k; T = es; R = b.R; L = b.L; P = b.P }
with_section Tops es b = record { k = b.k; T = b.T; R = es; L = b.L; P = b.P }
with_section Lows es b = record { k = b.k; T = b.T; R = b.R; L = es; P = b.P }
with_section Middles es b = record { k = b.k; T = b.T; R = b.R; L = b.L; P = es }

-- ---- its words

-- The words of the four sections, one behind the other.
unfoldable pub body : Book → List ℕ
body b = section_words b.T ++ (section_words b.R ++ (section_words b.L ++ section_words b.P))

-- "words used"
unfoldable pub used : Book → ℕ
used b = head_words + length (body b)

-- "live teachings, at most 65,535, the sum of the counts in section T"
unfoldable pub live : Book → ℕ
live b = total b.T

-- "Word 0: k. Word 1: words used. Word 2: live teachings", "Words 3 to 6: numbers of entries in T, R, L, P. Then sections T", "R, L, P."
unfoldable pub encode : Book → List ℕ
encode b =
    b.k ∷ used b ∷ live b ∷ length b.T ∷ length b.R ∷ length b.L ∷ length b.P ∷ body b

-- The book in a slice of n words: "Words past those used are zero."
unfoldable pub lay : ℕ → Book → List ℕ
lay n b = encode b ++ replicate (n - used b) 0

-- ---- in form

-- The least depth of a section's trees: "P of depth exactly k-1".
abbrev pub shallowest : Section → ℕ → ℕ
shallowest Taught k = 0
shallowest Tops k = 0
shallowest Lows k = 0
shallowest Middles k = k - 1

-- The greatest depth of a section's trees: "within limits, R and L of depth at most k-2, P of depth exactly k-1".
abbrev pub deepest : Section → ℕ → ℕ
deepest Taught k = greatest_depth
deepest Tops k = k - 2
deepest Lows k = k - 2
deepest Middles k = k - 1

-- A count of 1 to 65,535, and a tree that is an order within limits, of a depth between the two.
unfoldable pub entry_in_form : ℕ → ℕ → Entry → Bool
entry_in_form least greatest e = within least_count greatest_count e.count and fits_of least greatest e.key

-- Entries in form whose trees "ascend strictly, compared word by word from the first", from the words `last` on.
unfoldable pub ascending_from : List ℕ → ℕ → ℕ → List Entry → Bool
ascending_from last least greatest [] = true
ascending_from last least greatest (e ∷ es) =
    entry_in_form least greatest e and before last e.key and ascending_from e.key least greatest es

-- A section in form. The empty words stand below every tree's.
unfoldable pub section_in_form : Section → Book → Bool
section_in_form s b = ascending_from [] (shallowest s b.k) (deepest s b.k) (section_of s b)

-- "In form": k is 2 to 6, live teachings are at most 65,535, and the four sections are in form.
unfoldable pub in_form : Book → Bool
in_form b =
    within least_k greatest_k b.k and leb (live b) greatest_count
    and section_in_form Taught b
    and section_in_form Tops b
    and section_in_form Lows b
    and section_in_form Middles b
