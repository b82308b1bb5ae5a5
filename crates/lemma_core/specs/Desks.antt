-- What contracts see of a desk, where entries are looked up and published and balances are offered, and what its
-- calls do.
use Rattle.std.specs.Prelude.{◌≡◌, ℕ, ◌<◌, ◌≤◌, Bool, true, List, [], ◌∷◌, ◌++◌, length}
use Rattle.line_rules.specs.Accepted.{HasBalance}
use Rattle.line_rules.specs.Entries.{Follows, IsDerived, IsUnanswered, IsLastAnswer}
use Rattle.line_rules.specs.declared.types.Entry.{Entry}
use Rattle.lemma_core.specs.Machine.{About}
use Rattle.lemma_core.specs.History.{Item, added, known, better, Standing, replay, Begins, AreOwn}
use Rattle.lemma_core.specs.declared.types.Looked.{Looked}
use Rattle.lemma_core.specs.declared.types.Looked.TheVariants as looked
use Rattle.lemma_core.specs.declared.types.Published.{Published}
use Rattle.lemma_core.specs.declared.types.Published.TheVariants as published
use Rattle.lemma_core.specs.declared.types.Offered.{Offered}
use Rattle.lemma_core.specs.declared.types.Offered.TheVariants as offered

-- What a desk is about; its opening state; the list of the events that it has seen, each a Publish or a better Offer;
-- the places of its own events in that list; whether it is alone; whether the room for offers was made; and numbers
-- of its own that no call changes, by which a caller knows the desk again.
pub record DeskView : Type 0 where
  pub about : About
  pub opening : Standing
  pub seen : List Item
  pub own : List ℕ
  pub alone : Bool
  pub roomy : Bool
  pub kept : List ℕ

-- the entries that replay from the opening state by a list of events
abbrev pub entries_after : DeskView → List Item → List Entry
entries_after d h = (replay d.opening h).entries

-- the fewest stations, of the opening balance and the better offers of a list
abbrev pub fewest_after : DeskView → List Item → ℕ
fewest_after d h = (replay d.opening h).stations

-- the entries that a desk has seen
abbrev pub entries : DeskView → List Entry
entries d = entries_after d d.seen

-- the desk's own places rise, and lie within the list that it has seen
abbrev pub HasOwn : DeskView → Type 0
HasOwn d = AreOwn d.seen d.own

-- the entries that a desk has seen are derived
abbrev pub HasDerived : DeskView → Type 0
HasDerived d = IsDerived d.about.kind d.about.line (entries d)

-- the entry follows from the entries that the desk has seen
abbrev pub FollowsSeen : DeskView → Entry → Type 0
FollowsSeen d e = Follows d.about.kind d.about.line (entries d) e

-- what every call keeps: what the desk is about, its opening state, that room for offers was made, and the numbers of
-- its own; and its list begins with the old one
pub record Keeps (old new : DeskView) : Type 0 where
  pub about : new.about ≡ old.about
  pub opening : new.opening ≡ old.opening
  pub alone : new.alone ≡ old.alone
  pub roomy : old.roomy ≡ true → new.roomy ≡ true
  pub kept : new.kept ≡ old.kept
  pub seen : Begins old.seen new.seen

-- A call that adds no event of its own. Where the desk is alone its list stays.
pub record Waits (old new : DeskView) : Type 0 where
  pub keeps : Keeps old new
  pub own : new.own ≡ old.own
  pub still : old.alone ≡ true → new.seen ≡ old.seen

-- A call that adds one event of its own, which stands last in the list; `before` is the list without it.
pub record Adds (old new : DeskView) (before : List Item) (item : Item) : Type 0 where
  pub keeps : Keeps old new
  pub last : new.seen ≡ before ++ item ∷ []
  pub since : Begins old.seen before
  pub own : new.own ≡ old.own ++ length before ∷ []
  pub still : old.alone ≡ true → before ≡ old.seen

-- what a look tells of entries: the last one that answers, or that none does
abbrev pub Finds : List Entry → List Bool → ℕ → ℕ → Looked → Type 0
Finds es set most cycle (looked.Found id has) = (last : IsLastAnswer es set most cycle id) × (last.entry.most ≡ has)
Finds es set most cycle looked.Absent = IsUnanswered es set most cycle

-- what publishing an entry does: the last entry that answers it is named, or it is added with the number of the
-- entries before; and out of memory no event is added
abbrev pub Publishes : DeskView → DeskView → Entry → Published → Type 0
Publishes old new e (published.Known id) =
    (before : List Item) × Adds old new before (known id e.most)
    × IsLastAnswer (entries_after old before) e.set e.most e.cycle id
Publishes old new e (published.Added id) =
    (before : List Item) × Adds old new before (added id e)
    × IsUnanswered (entries_after old before) e.set e.most e.cycle
    × (id ≡ length (entries_after old before))
Publishes old new e published.NoMemory = Waits old new

-- what offering a balance of so many stations does: it has fewer than the best, or it has at least as many
abbrev pub Offers : DeskView → DeskView → ℕ → Offered → Type 0
Offers old new n offered.Better = (before : List Item) × Adds old new before (better n) × (n < fewest_after old before)
Offers old new n offered.NotBetter = Waits old new × (fewest_after old new.seen ≤ n)

-- What `least` tells: the fewest stations of the opening balance and the better offers of a history that begins with
-- the list seen. So many stations have a balance, and there are no more of them than in what is seen. Where the desk
-- is alone, the history is the list.
pub record Tells (old new : DeskView) (n : ℕ) : Type 0 where
  pub waits : Waits old new
  pub history : List Item
  pub begins : Begins new.seen history
  pub stations : n ≡ fewest_after old history
  pub balance : HasBalance old.about.kind old.about.line old.about.cycle n
  pub fewest : n ≤ fewest_after old new.seen
  pub still : old.alone ≡ true → history ≡ new.seen
