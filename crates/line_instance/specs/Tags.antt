-- The tag of a set: a part of a hash of its words. Own; the hash is that of std's `FoldHasher`.
use Rattle.std.specs.Prelude.{ℕ, suc, ◌+◌, ◌*◌, ◌%◌, ◌^◌, Bool, ◌&&◌, ◌==◌, cond, List, [], ◌∷◌, slice_index, map, take}
use Rattle.std.specs.Prelude.{flat_map, fold}
use Rattle.std.specs.List.{range_with_len}
use Rattle.std.specs.Hash as fed
use Rattle.std.specs.Hash.FoldHasher as folding
use Rattle.line_instance.specs.Truths.{words_of}

-- the words at 2 k and 2 k + 1 as one number of 128 bits
abbrev pub pair_at : List ℕ → ℕ → ℕ
pair_at ws k = slice_index ws (2 * k + 1) * 2 ^ 64 + slice_index ws (2 * k)

-- the sixteen words of a set, two by two
unfoldable pub pairs_of : List Bool → List ℕ
pairs_of set = map (pair_at (words_of set)) (range_with_len 0 8)

-- how many numbers there are up to the last that isn't 0
abbrev pub used : List ℕ → ℕ
used [] = 0
used (x ∷ xs) = cond (used xs == 0 && x == 0) 0 (suc (used xs))

-- the tag of a set: the low 32 bits of a hash of its pairs of words up to the last that isn't 0, each fed as its
-- sixteen bytes. Sets that differ may have one tag.
unfoldable pub tag_of : List Bool → ℕ
tag_of set =
    let pairs = pairs_of set in
    folding.finish (fold folding.write folding.initial (flat_map fed.u128 (take (used pairs) pairs))) % 2 ^ 32
