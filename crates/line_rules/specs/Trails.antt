-- The open frames of a search that stopped: valid trails, and trails that are open over a list of entries.
use Rattle.std.specs.Prelude.{◌≡◌, ℕ, suc, ◌-◌, ◌≤◌, Bool, List, [], ◌∷◌, ◌++◌, length, slice_get, Option, Some, None}
use Rattle.line_instance.specs.Line.{Line}
use Rattle.line_rules.specs.Loads.{IsLoad, IsFull, Belongs, rest}
use Rattle.line_rules.specs.Order.{Precedes, UpTo, After}
use Rattle.line_rules.specs.Entries.{IsOpen, Covers, Answers}
use Rattle.line_rules.specs.declared.types.LineKind.{LineKind}
use Rattle.line_rules.specs.declared.types.Mode.{Mode}
use Rattle.line_rules.specs.declared.types.Load.{Load}
use Rattle.line_rules.specs.declared.types.Entry.{Entry}
use Rattle.line_rules.specs.declared.types.OpenFrame.{OpenFrame}

-- A frame that has a further frame below it, for the rest of its last load l: it has a station for that load, which is
-- full, and the open loads before it are covered by the cites.
pub record IsPassed (kind : LineKind) (line : Line) (X : ℕ) (es : List Entry) (f : OpenFrame) (l : Load) : Type 0 where
  pub belongs : Belongs kind f.mode
  pub stations : 1 ≤ f.most
  pub last : f.last ≡ Some l
  pub load : IsLoad line X f.mode f.set l
  pub full : IsFull line X f.mode f.set l
  pub covers : Covers line (λ k. IsOpen kind line X f.mode f.set f.most k × Precedes line k l) es f.set f.most X f.cites

-- the last load, where there is one, is a load of the set
abbrev pub LastIsLoad : Line → ℕ → Mode → List Bool → Option Load → Type 0
LastIsLoad line X mode R None = Unit {0}
LastIsLoad line X mode R (Some l) = IsLoad line X mode R l

-- The deepest frame: the open loads up to and including its last are covered by the cites.
pub record IsDeepest (kind : LineKind) (line : Line) (X : ℕ) (es : List Entry) (f : OpenFrame) : Type 0 where
  pub belongs : Belongs kind f.mode
  pub last : LastIsLoad line X f.mode f.set f.last
  pub covers : Covers line (λ k. IsOpen kind line X f.mode f.set f.most k × UpTo line f.last k) es f.set f.most X
      f.cites

-- The frames lead from one question to another: the first frame has the question, and the further ones lead on from the
-- rest of its last load with one station less.
abbrev pub Leads : LineKind → Line → ℕ → List Entry → List Bool → ℕ → List OpenFrame → List Bool → ℕ → Type 0
Leads kind line X es R most [] R' most' = (R' ≡ R) × (most' ≡ most)
Leads kind line X es R most (f ∷ fs) R' most' = (l : Load) × ((f.set ≡ R) × (f.most ≡ most)
    × IsPassed kind line X es f l × Leads kind line X es (rest f.set l) (f.most - 1) fs R' most')

-- A valid trail at X over a list of entries, from the question of R in `most` stations: the frames lead from there to
-- the deepest one.
pub record IsTrail (kind : LineKind) (line : Line) (X : ℕ) (es : List Entry) (R : List Bool) (most : ℕ)
    (frames : List OpenFrame) : Type 0 where
  pub passed : List OpenFrame
  pub deepest : OpenFrame
  pub all : frames ≡ passed ++ deepest ∷ []
  pub leads : Leads kind line X es R most passed deepest.set deepest.most
  pub deep : IsDeepest kind line X es deepest

-- no entry of cycle X answers the frame
abbrev pub IsUnansweredAt : ℕ → List Entry → OpenFrame → Type 0
IsUnansweredAt X es f = (k : ℕ) (e : Entry) → slice_get es k ≡ Some e → e.cycle ≡ X → Answers e f.set f.most X → ⊥

-- The trail is open over the entries: no entry of cycle X answers a frame, and the deepest frame has a further load.
pub record IsOpenOver (line : Line) (X : ℕ) (es : List Entry) (frames : List OpenFrame) : Type 0 where
  pub unanswered : (k : ℕ) (f : OpenFrame) → slice_get frames k ≡ Some f → IsUnansweredAt X es f
  pub further : (k : ℕ) (f : OpenFrame) → slice_get frames k ≡ Some f → length frames ≡ suc k
      → (l : Load) × IsLoad line X f.mode f.set l × After line f.last l
