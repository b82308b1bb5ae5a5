-- Sieves of tags: a bit for each tag, in one of so many words of 64 bits. Own.
use Rattle.std.specs.Prelude.{◌≡◌, ℕ, ◌-◌, ◌/◌, ◌%◌, ◌^◌, List, length, slice_get, slice_index, bit_and, Some}

-- the word in which the mark of a tag is, out of so many; where these are a power of two, each of them serves
abbrev pub word_in : ℕ → ℕ → ℕ
word_in count t = bit_and (t / 64) (count - 1)

-- the mark of a tag in its word: one bit
abbrev pub mark_of : ℕ → ℕ
mark_of t = 2 ^ (t % 64)

-- the mark of a tag is in its word
abbrev pub HasMark : List ℕ → ℕ → Type 0
HasMark words t = bit_and (slice_index words (word_in (length words) t)) (mark_of t) ≡ mark_of t

-- the mark of each tag is in its word
abbrev pub IsSieve : (ℕ → ℕ) → (ℕ → ℕ) → List ℕ → List ℕ → Type 0
IsSieve word mark ts words = (k t : ℕ) → slice_get ts k ≡ Some t
    → bit_and (slice_index words (word t)) (mark t) ≡ mark t
