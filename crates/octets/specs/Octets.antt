-- Words as bytes, high byte first (01, "Stored book, version 1"). Assumes nothing: these are definitions.
use Rattle.std.specs.Prelude.{ℕ, ◌+◌, ◌*◌, ◌/◌, ◌%◌, List, [], ◌∷◌, get_or}

-- "all 16-bit values high byte first": the bytes of words.
unfoldable pub bytes_of : List ℕ → List ℕ
bytes_of [] = []
bytes_of (w ∷ ws) = w / 256 ∷ w % 256 ∷ bytes_of ws

-- The words that bytes are, high byte first; a last byte that has no second is no word.
unfoldable pub words_of : List ℕ → List ℕ
words_of [] = []
words_of (high ∷ []) = []
words_of (high ∷ low ∷ bytes) = (high * 256 + low) ∷ words_of bytes

-- The word whose high byte is byte `at`, from 0 on.
abbrev pub word_at_byte : List ℕ → ℕ → ℕ
word_at_byte bytes at = get_or bytes at 0 * 256 + get_or bytes (at + 1) 0
