-- What a call did on a desk: the desk's own events since the call began, and the entries that they name.
use Rattle.std.specs.Prelude.{◌≡◌, ℕ, ◌≤◌, true, List, [], ◌∷◌, ◌++◌, length, slice_get, Option, Some, None}
use Rattle.line_rules.specs.declared.types.Entry.{Entry}
use Rattle.line_rules.specs.Ranges.{IsCycle}
use Rattle.lemma_core.specs.History.{Item, added, known, better}
use Rattle.lemma_core.specs.Desks.{DeskView}

-- an entry that a certificate can say: at most 1,024 stations, at a cycle of 1 to 10^18
pub record IsStatable (e : Entry) : Type 0 where
  pub most : e.most ≤ 1024
  pub cycle : IsCycle e.cycle

-- every entry is one that a certificate can say
abbrev pub AreStatable : List Entry → Type 0
AreStatable es = (k : ℕ) (e : Entry) → slice_get es k ≡ Some e → IsStatable e

-- the item is of a Publish: an entry was added, or it was known
abbrev pub IsPublish : Item → Type 0
IsPublish (added id e) = Unit {0}
IsPublish (known id most) = Unit {0}
IsPublish (better n) = ⊥

-- all items are of a Publish
abbrev pub ArePublish : List Item → Type 0
ArePublish [] = Unit {0}
ArePublish (i ∷ is) = IsPublish i × ArePublish is

-- the entry that a Publish names, among the entries seen: the one that it added, or the one of its number, which
-- answers it
abbrev pub named : List Entry → Item → Option Entry
named es (added id e) = Some e
named es (known id most) = slice_get es id
named es (better n) = None

-- the entries that items added
abbrev pub added_of : List Item → List Entry
added_of [] = []
added_of (added id e ∷ is) = e ∷ added_of is
added_of (known id most ∷ is) = added_of is
added_of (better n ∷ is) = added_of is

-- these items stand at these places of a history, one for one
abbrev pub AreAt : List Item → List ℕ → List Item → Type 0
AreAt h [] [] = Unit {0}
AreAt h [] (i ∷ is) = ⊥
AreAt h (p ∷ ps) [] = ⊥
AreAt h (p ∷ ps) (i ∷ is) = (slice_get h p ≡ Some i) × AreAt h ps is

-- The desk's own events since it was `old`, in order: these items, each behind what had been seen then.
pub record Did (old new : DeskView) (items : List Item) : Type 0 where
  pub places : List ℕ
  pub own : new.own ≡ old.own ++ places
  pub behind : (k p : ℕ) → slice_get places k ≡ Some p → length old.seen ≤ p
  pub there : AreAt new.seen places items

-- where the desk was alone, it has seen these items since, and nothing else
abbrev pub SawOnly : DeskView → DeskView → List Item → Type 0
SawOnly old new items = old.alone ≡ true → new.seen ≡ old.seen ++ items
