-- The bytes of words, the words of bytes, and that each are the other's. Assumes nothing.
use Prim.Native.Nat.{ℕ, zero, suc, ◌+◌, ◌*◌, ◌-◌, ◌/◌, ◌%◌, ◌<◌, ◌≤◌}
use mathlib.Core.Path.{◌≡◌, refl, sym, ap, ap₂, ◌∙◌}
use mathlib.Core.List.{List, [], ◌∷◌, ◌++◌, append_assoc}
use native.Mathlib.Omega.{arith}
use lib.ListN.{length, get_or, set, take, length-set}
use lib.Seq.{take_all, take-suc, take-suc-set}
use Rattle.octets.specs.Octets.{bytes_of, words_of, word_at_byte}

-- ---- the bytes of words

-- Each word has two bytes.
pub bytes-long : (ws : List ℕ) → length (bytes_of ws) ≡ 2 * length ws
unfolding bytes_of
bytes-long [] = refl
bytes-long (w ∷ ws) = omega (arith, bytes-long ws)

-- The bytes of words and then others are their bytes and then the others' bytes.
pub bytes-append : (xs ys : List ℕ) → bytes_of (xs ++ ys) ≡ bytes_of xs ++ bytes_of ys
unfolding bytes_of
bytes-append [] ys = refl
bytes-append (x ∷ xs) ys = ap (λ (l : List ℕ). x / 256 ∷ x % 256 ∷ l) (bytes-append xs ys)

-- ---- bytes that are written word by word

-- Two stores behind the first n bytes put two bytes more behind them.
two_more : (l : List ℕ) (n a b : ℕ) → n + 1 < length l → take (n + 2) (set (set l n a) (n + 1) b) ≡ take n l ++ (a ∷ b ∷ [])
two_more l n a b h =
    let s : n + 2 ≡ suc (n + 1) = omega arith in
    let t : n + 1 ≡ suc n = omega arith in
    ap (λ (m : ℕ). take m (set (set l n a) (n + 1) b)) s
    ∙ take-suc-set (set l n a) (n + 1) b (simp length-set h)
    ∙ ap (λ (r : List ℕ). r ++ (b ∷ [])) (ap (λ (m : ℕ). take m (set l n a)) t ∙ take-suc-set l n a (omega arith))
    ∙ append_assoc (take n l) (a ∷ []) (b ∷ [])

-- A turn writes the bytes of one word more.
pub bytes-turn : (ws l last : List ℕ) (i : ℕ) → i < length ws → length l ≡ 2 * length ws → take (2 * i) l ≡ bytes_of (take i ws)
    → last ≡ set (set l (2 * i) (get_or ws i 0 / 256)) (2 * i + 1) (get_or ws i 0 % 256)
    → (length last ≡ 2 * length ws) × (take (2 * (i + 1)) last ≡ bytes_of (take (i + 1) ws))
unfolding bytes_of
bytes-turn ws l last i h e is o =
    let w : ℕ = get_or ws i 0 in
    let s : 2 * (i + 1) ≡ 2 * i + 2 = omega arith in
    let t : i + 1 ≡ suc i = omega arith in
    let n : length last ≡ length l = ap length o ∙ simp length-set in
    let more : take (2 * i + 2) last ≡ take (2 * i) l ++ (w / 256 ∷ w % 256 ∷ []) = ap (take (2 * i + 2)) o ∙ two_more l (2 * i) (w / 256) (w % 256) (omega arith) in
    (omega arith, ap (λ (m : ℕ). take m last) s ∙ more ∙ rw (is, t, take-suc ws i 0 h, bytes-append (take i ws) (w ∷ [])) refl)

-- After the last turn the bytes are those of all words.
pub bytes-done : (ws l : List ℕ) (i : ℕ) → length ws ≤ i → length l ≡ 2 * length ws → take (2 * i) l ≡ bytes_of (take i ws) → l ≡ bytes_of ws
bytes-done ws l i h e is = sym (take_all (2 * i) l (omega arith)) ∙ is ∙ ap bytes_of (take_all i ws h)

-- ---- the words of bytes

-- Bytes are words, half as many.
pub words_long : (bytes : List ℕ) (n : ℕ) → length bytes ≡ 2 * n → length (words_of bytes) ≡ n
unfolding words_of
words_long [] n e = omega arith
words_long (a ∷ []) n e = absurd (omega arith)
words_long (a ∷ b ∷ bytes) n e = omega (arith, words_long bytes (n - 1) (omega arith))

-- Word i of the words of bytes is the word at byte 2i.
pub word_is : (bytes : List ℕ) (i : ℕ) → 2 * i + 1 < length bytes → get_or (words_of bytes) i 0 ≡ word_at_byte bytes (2 * i)
unfolding words_of
word_is [] i h = absurd (omega arith)
word_is (a ∷ []) i h = absurd (omega arith)
word_is (a ∷ b ∷ bytes) zero h = refl
word_is (a ∷ b ∷ bytes) (suc i) h =
    let at : 2 * suc i ≡ suc (suc (2 * i)) = omega arith in
    let next : suc (suc (2 * i)) + 1 ≡ suc (suc (2 * i + 1)) = omega arith in
    word_is bytes i (omega arith) ∙ rw (at, next)

-- Bytes that are whole words are the bytes of their words.
pub bytes-of_words : (bytes : List ℕ) → ((i : ℕ) → get_or bytes i 0 < 256) → length bytes % 2 ≡ 0 → bytes_of (words_of bytes) ≡ bytes
unfolding bytes_of words_of
bytes-of_words [] small even = refl
bytes-of_words (a ∷ []) small even = absurd (omega arith)
bytes-of_words (a ∷ b ∷ bytes) small even =
    let low : b < 256 = small 1 in
    let first : (a * 256 + b) / 256 ≡ a = omega arith in
    let second : (a * 256 + b) % 256 ≡ b = omega arith in
    let rest : bytes_of (words_of bytes) ≡ bytes = bytes-of_words bytes (λ i. small (suc (suc i))) (omega arith) in
    cc

-- The words of the bytes of words are those words.
pub words-of_bytes : (ws : List ℕ) → words_of (bytes_of ws) ≡ ws
unfolding bytes_of words_of
words-of_bytes [] = refl
words-of_bytes (w ∷ ws) = ap₂ ◌∷◌ (let e : w / 256 * 256 + w % 256 ≡ w = omega arith in e) (words-of_bytes ws)

-- Bytes are those of one list of words at most.
pub bytes_one : (ws vs : List ℕ) → bytes_of ws ≡ bytes_of vs → ws ≡ vs
bytes_one ws vs e = sym (words-of_bytes ws) ∙ ap words_of e ∙ words-of_bytes vs
