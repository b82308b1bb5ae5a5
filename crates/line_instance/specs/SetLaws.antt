-- Laws of the sets, as lists of truths.
use Rattle.std.specs.Prelude.{◌≡◌, ℕ, ◌+◌, ◌<◌, ◌↔◌, Bool, false, List, length, slice_index_or, slice_set, Contains}
use Rattle.line_instance.specs.Truths.{In, IsSubset, union, minus, meet, count, members_of}

-- a subset of a subset is a subset
abbrev pub SubsetIsTransitive : Type 0
SubsetIsTransitive = (a b c : List Bool) → IsSubset a b → IsSubset b c → IsSubset a c

-- what a set has and another has not is a subset of the first
abbrev pub MinusIsSubset : Type 0
MinusIsSubset = (a b : List Bool) → IsSubset (minus a b) a

-- what two sets have in common is a subset of the first
abbrev pub MeetIsSubset : Type 0
MeetIsSubset = (a b : List Bool) → IsSubset (meet a b) a

-- two sets that have nothing in common have together as many members as the one and the other
abbrev pub DisjointCountsAdd : Type 0
DisjointCountsAdd = (a b : List Bool) → ((i : ℕ) → In a i → In b i → ⊥) → count (union a b) ≡ count a + count b

-- without one of its members a set has one member fewer
abbrev pub CountFalls : Type 0
CountFalls = (s : List Bool) (i : ℕ) → In s i → count s ≡ count (slice_set s i false) + 1

-- two sets with the same members are the same
abbrev pub SameMembersAreEqual : Type 0
SameMembersAreEqual = (a b : List Bool) → length a ≡ 1024 → length b ≡ 1024 → ((i : ℕ) → In a i ↔ In b i) → a ≡ b

-- the list of the members has the members and nothing else
abbrev pub MembersAreListed : Type 0
MembersAreListed = (s : List Bool) (i : ℕ) → In s i ↔ Contains (members_of s) i

-- each number in the list of the members is less than the next
abbrev pub MembersRise : Type 0
MembersRise = (s : List Bool) (k : ℕ) → k + 1 < length (members_of s)
    → slice_index_or (members_of s) k 0 < slice_index_or (members_of s) (k + 1) 0

-- the list of the members is as long as the set has members
abbrev pub CountIsLength : Type 0
CountIsLength = (s : List Bool) → count s ≡ length (members_of s)
