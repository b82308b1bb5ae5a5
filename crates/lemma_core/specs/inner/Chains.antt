-- How entries are found by the tags of their sets. The tags fall into buckets, and those of one bucket stand in a
-- chain, the last one first. A sieve has a mark for each of them, and lets few other tags through.
use Rattle.std.specs.Prelude.{◌≡◌, ℕ, zero, suc, ◌-◌, ◌<◌, List, length, slice_get, slice_index, map, bit_and}
use Rattle.std.specs.Prelude.{Option, Some, None}
use Rattle.line_rules.specs.lines.Tags.{tag_of}
use Rattle.line_rules.specs.declared.types.Entry.{Entry}
use Rattle.lemma_core.specs.Sieves.{word_in, mark_of, IsSieve}
use Rattle.lemma_core.specs.declared.index.Link.{Link}

-- the tags of the entries' sets
abbrev pub tags_of : List Entry → List ℕ
tags_of es = map (λ (e : Entry). tag_of e.set) es

-- a place as it is stored: one more than it, and 0 where there is none
abbrev pub place : ℕ → Option ℕ
place zero = None
place (suc p) = Some p

-- p is the last place below n of a tag that falls into the bucket b
pub record IsLastPlace (bucket : ℕ → ℕ) (ts : List ℕ) (b n p : ℕ) : Type 0 where
  pub below : p < n
  pub tag : ℕ
  pub there : slice_get ts p ≡ Some tag
  pub falls : bucket tag ≡ b
  pub last : (j t : ℕ) → p < j → j < n → slice_get ts j ≡ Some t → bucket t ≡ b → ⊥

-- no place below n has a tag that falls into the bucket b
abbrev pub HasNoPlace : (ℕ → ℕ) → List ℕ → ℕ → ℕ → Type 0
HasNoPlace bucket ts b n = (j t : ℕ) → j < n → slice_get ts j ≡ Some t → bucket t ≡ b → ⊥

-- the last place below n of a tag that falls into the bucket b, where there is one
abbrev pub IsLast : (ℕ → ℕ) → List ℕ → ℕ → ℕ → Option ℕ → Type 0
IsLast bucket ts b n (Some p) = IsLastPlace bucket ts b n p
IsLast bucket ts b n None = HasNoPlace bucket ts b n

-- Each bucket leads to the last tag in it, and each tag to the last one before it in its bucket.
pub record IsChained (bucket : ℕ → ℕ) (ts hs bs : List ℕ) : Type 0 where
  pub heads : (b : ℕ) → b < length hs → IsLast bucket ts b (length ts) (place (slice_index hs b))
  pub links : (n t : ℕ) → slice_get ts n ≡ Some t → IsLast bucket ts (bucket t) n (place (slice_index bs n))

-- the bucket, out of so many, into which a tag falls
abbrev pub bucket_in : ℕ → ℕ → ℕ
bucket_in count t = bit_and t (count - 1)

-- the tags and the links of what an index keeps of each entry
abbrev pub tags : List Link → List ℕ
tags ls = map (λ (l : Link). l.tag) ls

abbrev pub links : List Link → List ℕ
links ls = map (λ (l : Link). l.before) ls

-- What is true of every index: the chains and the sieve are those of its tags, and both are there or neither, and
-- then there is no tag.
pub record IsIndex (heads : List ℕ) (ls : List Link) (sieve : List ℕ) : Type 0 where
  pub chained : IsChained (bucket_in (length heads)) (tags ls) heads (links ls)
  pub sieved : IsSieve (word_in (length sieve)) mark_of (tags ls) sieve
  pub none : length sieve ≡ 0 → length ls ≡ 0
  pub both : (0 < length sieve → 0 < length heads) × (0 < length heads → 0 < length sieve)

-- the index is of these entries
pub record IsIndexOf (es : List Entry) (heads : List ℕ) (ls : List Link) (sieve : List ℕ) : Type 0 where
  pub index : IsIndex heads ls sieve
  pub same : tags ls ≡ tags_of es
