-- What the calls of a share promise of a pass: what it has seen, its own places, its tries, its loads and its parts.
-- Each answer is in the words of a desk (lemma_core), on a list that begins with what was seen before. Own.
use Rattle.std.specs.Prelude.{◌≡◌, ℕ, suc, ◌<◌, ◌≤◌, List, Bool, slice_get, Option, Some, None}
use Rattle.atomic_table.specs.Seated.{TableId}
use Rattle.line_rules.specs.Entries.{Answers, IsUnanswered}
use Rattle.line_rules.specs.declared.types.Entry.{Entry}
use Rattle.lemma_core.specs.declared.types.Looked.{Looked}
use Rattle.lemma_core.specs.declared.types.Looked.TheVariants as looked
use Rattle.lemma_core.specs.declared.types.Published.{Published}
use Rattle.lemma_core.specs.declared.types.Published.TheVariants as published
use Rattle.lemma_core.specs.History.{AreExact}
use Rattle.lemma_core.specs.Books.{BookView}
use Rattle.lemma_core.specs.Desks.{HasOwn}
use Rattle.book_share.specs.declared.pass.TryLooked.{TryLooked}
use Rattle.book_share.specs.declared.pass.TryLooked.TheVariants as try_looked
use Rattle.book_share.specs.declared.pass.TryPublished.{TryPublished}
use Rattle.book_share.specs.declared.pass.TryPublished.TheVariants as try_published
use Rattle.book_share.specs.declared.pass.Glimpsed.{Glimpsed}
use Rattle.book_share.specs.declared.pass.Glimpsed.TheVariants as glimpsed
use Rattle.book_share.specs.declared.pass.Started.{Started}
use Rattle.book_share.specs.declared.pass.Started.TheVariants as started
use Rattle.book_share.specs.Passes.{PassView, PassOf, desk_by}
use Rattle.book_share.specs.Rule.{newcomer}

-- the pass is of this share
abbrev pub IsPassOf : TableId → PassOf → Type 0
IsPassOf share pass = pass.share ≡ share

-- a share with its first pass; or, out of memory, the book comes back
abbrev pub Starts : BookView → Started → Type 0
Starts b (started.Good share pass) = IsPassOf share pass × (pass.view ≡ newcomer b)
Starts b (started.NoMemory back) = back ≡ b

-- What is true of every pass between two calls: its own places rise, from the start on and within what it has seen,
-- and each event that it has seen is exact at its turn.
pub record IsSound (v : PassView) : Type 0 where
  pub own : HasOwn (desk_by v)
  pub from : (k place : ℕ) → slice_get v.own k ≡ Some place → v.base.from ≤ place
  pub exact : AreExact v.base.opening v.seen

-- what no turn changes: what the share is about, the parts, and what was loaded
pub record Rests (old new : PassView) : Type 0 where
  pub base : new.base ≡ old.base
  pub parts : new.parts ≡ old.parts
  pub reads : new.reads ≡ old.reads
  pub read : new.read ≡ old.read

-- the turn was tried once, and its word was found to be n: 0 free, 1 held
pub record TriedOnce (old new : PassView) (n : ℕ) : Type 0 where
  pub tries : new.tries ≡ suc old.tries
  pub met : new.met ≡ n

-- the turn was tried until it was free
pub record Waited (old new : PassView) : Type 0 where
  pub tries : old.tries < new.tries
  pub met : new.met ≡ 0

-- what a look found, where the turn wasn't held
abbrev pub found_by : TryLooked → Option Looked
found_by (try_looked.Found id most) = Some (looked.Found id most)
found_by try_looked.Absent = Some looked.Absent
found_by try_looked.Busy = None

-- what a glimpse tells of entries: the one of this number answers, none does, or nothing
abbrev pub Glimpses : List Entry → List Bool → ℕ → ℕ → Glimpsed → Type 0
Glimpses es set most cycle (glimpsed.Found id) = (e : Entry) × (slice_get es id ≡ Some e) × Answers e set most cycle
Glimpses es set most cycle glimpsed.Absent = IsUnanswered es set most cycle
Glimpses es set most cycle glimpsed.Unknown = Unit {0}

-- a glimpse tells something
abbrev pub IsKnown : Glimpsed → Type 0
IsKnown (glimpsed.Found id) = Unit {0}
IsKnown glimpsed.Absent = Unit {0}
IsKnown glimpsed.Unknown = ⊥

-- what became of an entry, where the turn wasn't held
abbrev pub published_by : TryPublished → Option Published
published_by (try_published.Known id) = Some (published.Known id)
published_by (try_published.Added id) = Some (published.Added id)
published_by (try_published.Busy back) = None
published_by try_published.NoMemory = Some published.NoMemory

-- where the turn was held, the entry comes back
abbrev pub GivesBack : Entry → TryPublished → Type 0
GivesBack step (try_published.Known id) = Unit {0}
GivesBack step (try_published.Added id) = Unit {0}
GivesBack step (try_published.Busy back) = back ≡ step
GivesBack step try_published.NoMemory = Unit {0}
