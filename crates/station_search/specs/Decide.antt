-- What `decide` answers.
use Rattle.std.specs.Prelude.{◌≡◌, ℕ, suc, ◌<◌, ◌≤◌, Bool, List, length, slice_get, Option, Some}
use Rattle.line_instance.specs.Line.{Line}
use Rattle.line_rules.specs.Bounds.{bound}
use Rattle.line_rules.specs.Loads.{IsLoad}
use Rattle.line_rules.specs.Order.{After}
use Rattle.line_rules.specs.Entries.{Answers}
use Rattle.line_rules.specs.Seats.{AreSeated}
use Rattle.line_rules.specs.Trails.{IsTrail}
use Rattle.line_rules.specs.declared.types.LineKind.{LineKind}
use Rattle.line_rules.specs.declared.types.Mode.{Mode}
use Rattle.line_rules.specs.declared.types.Load.{Load}
use Rattle.line_rules.specs.declared.types.Entry.{Entry}
use Rattle.line_rules.specs.declared.types.OpenFrame.{OpenFrame}
use Rattle.lemma_core.specs.Desks.{DeskView}
use Rattle.pair_search.specs.Sharing.{Sharing, IsTableOf}
use Rattle.station_search.specs.Mode.{frame_mode}
use Rattle.station_search.specs.declared.answers.Reason.TheVariants as reason
use Rattle.station_search.specs.declared.answers.Decided.{Decided}
use Rattle.station_search.specs.declared.answers.Decided.TheVariants as decided

-- the desk is for this line, its kind and this cycle
pub record IsFor (desk : DeskView) (line : Line) (kind : LineKind) (cycle : ℕ) : Type 0 where
  pub same_line : desk.about.line ≡ line
  pub same_kind : desk.about.kind ≡ kind
  pub same_cycle : desk.about.cycle ≡ cycle

-- the table of pairs is of this line, its kind and this cycle (own)
pub record IsPairing (line : Line) (kind : LineKind) (cycle : ℕ) (table : Sharing) : Type 0 where
  pub table_of : IsTableOf line table
  pub same_kind : table.kind ≡ kind
  pub same_cycle : table.cycle ≡ cycle

-- the entry of number id answers the question
pub record IsAnswered (es : List Entry) (id : ℕ) (set : List Bool) (most cycle : ℕ) : Type 0 where
  pub entry : Entry
  pub there : slice_get es id ≡ Some entry
  pub answers : Answers entry set most cycle

-- the deepest frame has a further load after its last
abbrev pub HasFurther : Line → ℕ → List OpenFrame → Type 0
HasFurther line X frames =
    (k : ℕ) (f : OpenFrame) → slice_get frames k ≡ Some f → length frames ≡ suc k
    → (l : Load) × IsLoad line X f.mode f.set l × After line f.last l

-- each frame has the mode that was asked for, or else that of its set
abbrev pub HaveModes : Option Mode → LineKind → Line → List OpenFrame → Type 0
HaveModes asked kind line frames =
    (k : ℕ) (f : OpenFrame) → slice_get frames k ≡ Some f → f.mode ≡ frame_mode asked kind line f.set

-- A search that stopped: its trail leads from the question of R in `most` stations, which the bound leaves open; no
-- unit is left, and one more load is needed.
pub record Stops (asked : Option Mode) (kind : LineKind) (line : Line) (X : ℕ) (es : List Entry) (R : List Bool)
    (most left : ℕ) (frames : List OpenFrame) : Type 0 where
  pub bounded : bound kind line X R ≤ most
  pub trail : IsTrail kind line X es R most frames
  pub spent : left ≡ 0
  pub further : HasFurther line X frames
  pub modes : HaveModes asked kind line frames

-- What an answer says of the question whether R has a balance in `most` stations at cycle X, with the entries seen
-- after the call and the units left: the bound refutes it; the bound doesn't, and an entry does; there is a balance, by
-- loads; the units ended; or memory did.
abbrev pub Decides : Option Mode → LineKind → Line → ℕ → List Entry → List Bool → ℕ → ℕ → Decided → Type 0
Decides asked kind line X es R most left (decided.Refuted reason.ByBound) = most < bound kind line X R
Decides asked kind line X es R most left (decided.Refuted (reason.ByEntry id)) =
    (bound kind line X R ≤ most) × IsAnswered es id R most X
Decides asked kind line X es R most left (decided.Found loads) =
    (bound kind line X R ≤ most) × (length loads ≤ most) × AreSeated kind line X R loads
Decides asked kind line X es R most left (decided.Spent frames) = Stops asked kind line X es R most left frames
Decides asked kind line X es R most left (decided.NoMemory frames) = Unit {0}

-- an entry refutes it
abbrev pub IsByEntry : Decided → Type 0
IsByEntry (decided.Refuted reason.ByBound) = ⊥
IsByEntry (decided.Refuted (reason.ByEntry id)) = Unit {0}
IsByEntry (decided.Found loads) = ⊥
IsByEntry (decided.Spent frames) = ⊥
IsByEntry (decided.NoMemory frames) = ⊥
