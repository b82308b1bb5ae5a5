-- The index of the entries of a search, by what is left of each model.
use Rattle.std.specs.Prelude.{◌≡◌, ℕ, suc, ◌+◌, ◌*◌, ◌%◌, ◌^◌, ◌<◌, nat_eq, List, [], ◌∷◌, length, slice_get, Option}
use Rattle.std.specs.Prelude.{Some, None}
use Rattle.std.specs.declared.hash.FoldHasher.{FoldHasher}
use Rattle.std.specs.declared.hash.BuildHasherDefault.{BuildHasherDefault}
use Rattle.std.specs.HashMap.{get, HashMap}
use Rattle.sequence_rules.specs.Entries.{AnswersPlainly}
use Rattle.sequence_values.specs.declared.types.SeqEntry.{SeqEntry}

-- a map from numbers to numbers
abbrev pub Numbered : Type 0
Numbered = HashMap ℕ ℕ (BuildHasherDefault FoldHasher)

-- a number that is made of others; equal lists give equal numbers
unfoldable pub key_from : ℕ → List ℕ → ℕ
key_from key [] = key
key_from key (units ∷ rem) = key_from ((key * 1000003 % 2 ^ 64 + units) % 2 ^ 64) rem

-- the key of what is left
abbrev pub key_of : List ℕ → ℕ
key_of rem = key_from 0 rem

-- the last entry of a key among those below a number, where there is one
abbrev pub IsLastOfKey : List SeqEntry → ℕ → ℕ → Option ℕ → Type 0
IsLastOfKey es n key None = (k : ℕ) (e : SeqEntry) → k < n → slice_get es k ≡ Some e → key_of e.rem ≡ key → ⊥
IsLastOfKey es n key (Some j) =
    (j < n) × ((e : SeqEntry) → slice_get es j ≡ Some e → key_of e.rem ≡ key)
    × ((k : ℕ) (e : SeqEntry) → j < k → k < n → slice_get es k ≡ Some e → key_of e.rem ≡ key → ⊥)

-- An index: the map has the last entry of each key, and the list, for each entry, the last one of its key before it.
pub record IsIndexed (latest : Numbered) (before : List (Option ℕ)) (es : List SeqEntry) : Type 0 where
  pub long : length before ≡ length es
  pub last : (key : ℕ) → IsLastOfKey es (length es) key (get nat_eq latest key)
  pub chain : (k : ℕ) (e : SeqEntry) (o : Option ℕ) → slice_get es k ≡ Some e → slice_get before k ≡ Some o
      → IsLastOfKey es k (key_of e.rem) o

-- an entry stands behind the one that is looked at next, or none is
abbrev pub IsBeyond : Option ℕ → ℕ → Type 0
IsBeyond None k = Unit {0}
IsBeyond (Some j) k = j < k

-- where a look stands: the next entry has the key that is looked for, and none behind it that is by Bound or Branch answers
pub record IsLooking (es : List SeqEntry) (rem starts : List ℕ) (need : ℕ) (next : Option ℕ) : Type 0 where
  pub within : (j : ℕ) → next ≡ Some j → j < length es
  pub keyed : (j : ℕ) (e : SeqEntry) → next ≡ Some j → slice_get es j ≡ Some e → key_of e.rem ≡ key_of rem
  pub passed : (k : ℕ) (e : SeqEntry) → IsBeyond next k → slice_get es k ≡ Some e → AnswersPlainly e rem starts need → ⊥

-- how many entries a look may still go over
abbrev pub left_of : Option ℕ → ℕ
left_of None = 0
left_of (Some j) = suc j
