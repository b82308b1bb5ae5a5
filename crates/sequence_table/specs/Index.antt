-- The index of the starts of the nodes, by a number that is made of them (own).
use Rattle.std.specs.Prelude.{◌≡◌, ℕ, suc, ◌+◌, ◌*◌, ◌%◌, ◌^◌, ◌<◌, nat_eq, List, [], ◌∷◌, length, slice_get, Option}
use Rattle.std.specs.Prelude.{Some, None}
use Rattle.std.specs.declared.hash.FoldHasher.{FoldHasher}
use Rattle.std.specs.declared.hash.BuildHasherDefault.{BuildHasherDefault}
use Rattle.std.specs.HashMap.{get, HashMap}

-- a map from numbers to numbers
abbrev pub Numbered : Type 0
Numbered = HashMap ℕ ℕ (BuildHasherDefault FoldHasher)

-- a number that is made of others; equal lists give equal numbers
unfoldable pub key_from : ℕ → List ℕ → ℕ
key_from key [] = key
key_from key (start ∷ starts) = key_from ((key * 1000003 % 2 ^ 64 + start) % 2 ^ 64) starts

-- the number of starts
abbrev pub key_of : List ℕ → ℕ
key_of starts = key_from 0 starts

-- none of the starts are these
abbrev pub IsMissing : List (List ℕ) → List ℕ → Type 0
IsMissing all starts = (k : ℕ) → slice_get all k ≡ Some starts → ⊥

-- the last place that has these starts
pub record IsLastPlace (all : List (List ℕ)) (starts : List ℕ) (k : ℕ) : Type 0 where
  pub within : k < length all
  pub there : slice_get all k ≡ Some starts
  pub last : (j : ℕ) → k < j → slice_get all j ≡ Some starts → ⊥

-- the last place of a number among those below n, where there is one
abbrev pub IsLastOfKey : List (List ℕ) → ℕ → ℕ → Option ℕ → Type 0
IsLastOfKey all n key None = (k : ℕ) (e : List ℕ) → k < n → slice_get all k ≡ Some e → key_of e ≡ key → ⊥
IsLastOfKey all n key (Some j) =
    (j < n) × ((e : List ℕ) → slice_get all j ≡ Some e → key_of e ≡ key)
    × ((k : ℕ) (e : List ℕ) → j < k → k < n → slice_get all k ≡ Some e → key_of e ≡ key → ⊥)

-- An index: the map has the last place of each number, and the list, for each place, the last one of its number before
-- it.
pub record IsIndexed (latest : Numbered) (before : List (Option ℕ)) (all : List (List ℕ)) : Type 0 where
  pub long : length before ≡ length all
  pub last : (key : ℕ) → IsLastOfKey all (length all) key (get nat_eq latest key)
  pub chain : (k : ℕ) (e : List ℕ) (o : Option ℕ) → slice_get all k ≡ Some e → slice_get before k ≡ Some o
      → IsLastOfKey all k (key_of e) o

-- a place stands behind the one that is looked at next, or none is
abbrev pub IsBeyond : Option ℕ → ℕ → Type 0
IsBeyond None k = Unit {0}
IsBeyond (Some j) k = j < k

-- where a look stands: the next place has the number that is looked for, and none behind it has the starts
pub record IsLooking (all : List (List ℕ)) (starts : List ℕ) (next : Option ℕ) : Type 0 where
  pub within : (j : ℕ) → next ≡ Some j → j < length all
  pub keyed : (j : ℕ) (e : List ℕ) → next ≡ Some j → slice_get all j ≡ Some e → key_of e ≡ key_of starts
  pub passed : (k : ℕ) → IsBeyond next k → slice_get all k ≡ Some starts → ⊥

-- how many places a look may still go over
abbrev pub left_of : Option ℕ → ℕ
left_of None = 0
left_of (Some j) = suc j
