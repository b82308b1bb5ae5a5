-- What a pass keeps of entries: two marks of the tag of each set, and rows that name entries. Own.
use Rattle.std.specs.Prelude.{◌≡◌, ℕ, ◌+◌, ◌/◌, ◌<◌, ◌≤◌, List, [], ◌∷◌, ◌++◌, length, take, slice_get, Bool, true}
use Rattle.std.specs.Prelude.{Option, Some, IfSome}
use Rattle.line_rules.specs.Entries.{Answers, IsDerived}
use Rattle.line_rules.specs.declared.types.Entry.{Entry}
use Rattle.lemma_core.specs.Sieves.{HasMark}
use Rattle.lemma_core.specs.Books.{BookView}
use Rattle.lemma_core.specs.inner.Chains.{tags_of}
use Rattle.lemma_core.specs.Desks.{DeskView, entries, HasDerived}
use Rattle.book_share.specs.declared.marks.Marks.{Marks}
use Rattle.book_share.specs.declared.lemma_rows.LemmaRow.{LemmaRow}
use Rattle.book_share.specs.declared.lemma_rows.LemmaRows.{LemmaRows}
use Rattle.lemma_core.specs.declared.types.Published.{Published}
use Rattle.lemma_core.specs.declared.types.Published.TheVariants as published
use Rattle.book_share.specs.declared.memo.Memo.{Memo}
use Rattle.book_share.specs.declared.memo.OwnEntry.{OwnEntry}

-- the tag that picks the second mark of a tag
abbrev pub second_of : ℕ → ℕ
second_of tag = tag / 1024

-- a tag has both its marks in the words
pub record HasMarks (words : List ℕ) (tag : ℕ) : Type 0 where
  pub first : HasMark words tag
  pub second : HasMark words (second_of tag)

-- there are words, and each of these tags has its marks in them
pub record AreMarksOf (words : List ℕ) (tags : List ℕ) : Type 0 where
  pub some : 0 < length words
  pub each : (k tag : ℕ) → slice_get tags k ≡ Some tag → HasMarks words tag

-- where there are marks, each of these tags has its own
abbrev pub AreMarks : Marks → List ℕ → Type 0
AreMarks m tags = IfSome m.words (λ words. AreMarksOf words.items tags)

-- the tag isn't among these
abbrev pub Lacks : List ℕ → ℕ → Type 0
Lacks tags tag = (k : ℕ) → slice_get tags k ≡ Some tag → ⊥

-- the entry of this number answers the question
abbrev pub HasAnswer : List Entry → ℕ → List Bool → ℕ → ℕ → Type 0
HasAnswer es id set most cycle = (e : Entry) × (slice_get es id ≡ Some e) × Answers e set most cycle

-- a row has the set and the stations of the entry that it names, which has the cycle or a longer one
pub record IsRowOf (r : LemmaRow) (cycle : ℕ) (es : List Entry) : Type 0 where
  pub entry : Entry
  pub there : slice_get es r.id ≡ Some entry
  pub set : entry.set ≡ r.set
  pub most : entry.most ≡ r.most
  pub long : cycle ≤ entry.cycle

-- each row in which an entry stands is that of one of these
abbrev pub AreRowsOf : List (Option LemmaRow) → ℕ → List Entry → Type 0
AreRowsOf rows cycle es = (k : ℕ) (r : LemmaRow) → slice_get rows k ≡ Some (Some r) → IsRowOf r cycle es

-- where there are rows, they are of these entries
abbrev pub AreRows : LemmaRows → ℕ → List Entry → Type 0
AreRows t cycle es = IfSome t.rows (λ rows. AreRowsOf rows.items cycle es)

-- what was kept is of these entries: the marks are theirs, and the rows name some of them
pub record HasKept (m : Memo) (cycle : ℕ) (es : List Entry) : Type 0 where
  pub marks : AreMarks m.marks (tags_of es)
  pub rows : AreRows m.rows cycle es

-- a memo of the first so many of these entries
pub record IsMemoOf (m : Memo) (cycle : ℕ) (es : List Entry) : Type 0 where
  pub few : m.count ≤ length es
  pub kept : HasKept m cycle (take m.count es)

-- a memo of all of these entries, for questions at a cycle
pub record IsMemoOfAll (m : Memo) (cycle : ℕ) (es : List Entry) : Type 0 where
  pub memo : IsMemoOf m cycle es
  pub all : m.count ≡ length es
  pub asked : m.cycle ≡ cycle

-- it has caught up in a turn
abbrev pub IsReady : Memo → Type 0
IsReady m = m.ready ≡ true

-- a memo of all entries of a book, which are derived
pub record IsMemoOfBook (m : Memo) (b : BookView) : Type 0 where
  pub whole : IsMemoOfAll m b.about.cycle b.state.entries
  pub derived : IsDerived b.about.kind b.about.line b.state.entries

-- a memo of what a desk has seen: of some of its entries; and of all once it has caught up, which are then derived
pub record IsMemoOfSeen (m : Memo) (d : DeskView) : Type 0 where
  pub memo : IsMemoOf m d.about.cycle (entries d)
  pub all : IsReady m → m.count ≡ length (entries d)
  pub derived : IsReady m → HasDerived d

-- where a pass has a memo, it is one of what the desk has seen
abbrev pub IsMemoBy : Option Memo → DeskView → Type 0
IsMemoBy m d = IfSome m (λ memo. IsMemoOfSeen memo d)

-- the same before the desk's last turn ended: it is one of some of the entries
abbrev pub WasMemoBy : Option Memo → DeskView → Type 0
WasMemoBy m d = IfSome m (λ memo. IsMemoOf memo d.about.cycle (entries d))

-- what is kept of an own entry has its set, its stations and its cycle
pub record IsOwn (o : OwnEntry) (e : Entry) : Type 0 where
  pub set : e.set ≡ o.set
  pub most : e.most ≡ o.most
  pub cycle : e.cycle ≡ o.cycle

-- a memo of all that a desk has seen but its last entry, which has this number
pub record LacksLast (m : Memo) (d : DeskView) (e : Entry) (id : ℕ) : Type 0 where
  pub front : List Entry
  pub last : entries d ≡ front ++ e ∷ []
  pub number : id ≡ length front
  pub fits : id + 1 < 18446744073709551616
  pub whole : IsMemoOfAll m d.about.cycle front
  pub derived : HasDerived d

-- the memo after a turn in which an entry was published: where it was added, it lacks that entry alone
abbrev pub IsMemoBut : Option Memo → DeskView → Entry → Published → Type 0
IsMemoBut m d e (published.Known id) = IsMemoBy m d
IsMemoBut m d e (published.Added id) = IfSome m (λ memo. LacksLast memo d e id)
IsMemoBut m d e published.NoMemory = IsMemoBy m d
