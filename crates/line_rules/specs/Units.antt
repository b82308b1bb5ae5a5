-- Units: how many loads an entry, a frame or a certificate stands on.
use Rattle.std.specs.Prelude.{◌≡◌, ℕ, ◌+◌, cond, nat_eq, List, [], ◌∷◌, Option, Some, None}
use Rattle.line_instance.specs.Line.{Line}
use Rattle.line_rules.specs.Loads.{IsLoad}
use Rattle.line_rules.specs.Order.{Counts, UpTo}
use Rattle.line_rules.specs.declared.types.Entry.{Entry}
use Rattle.line_rules.specs.declared.types.OpenFrame.{OpenFrame}
use Rattle.line_rules.specs.declared.types.Trail.{Trail}
use Rattle.line_rules.specs.declared.types.Why.{Why}
use Rattle.line_rules.specs.declared.types.Why.TheVariants as why

-- the units of an entry: by Branch as many as its set has loads, full or not; none in the other ways
abbrev pub UnitsBy : Line → Entry → Why → ℕ → Type 0
UnitsBy line e why.Bound units = units ≡ 0
UnitsBy line e (why.Branch mode cites) units = Counts line (IsLoad line e.cycle mode e.set) units
UnitsBy line e (why.Swap cite out into) units = units ≡ 0
UnitsBy line e (why.Pairs two) units = units ≡ 0

-- the sum of the units of the entries
abbrev pub UnitsOf : Line → List Entry → ℕ → Type 0
UnitsOf line [] units = units ≡ 0
UnitsOf line (e ∷ es) units = (a : ℕ) × (b : ℕ) × (UnitsBy line e e.why a × UnitsOf line es b × (units ≡ a + b))

-- the units of a frame: the loads up to and including its last, none where it has no last
abbrev pub FrameUnits : Line → ℕ → OpenFrame → ℕ → Type 0
FrameUnits line X f units = Counts line (λ l. IsLoad line X f.mode f.set l × UpTo line f.last l) units

-- the sum of the units of the frames
abbrev pub UnitsIn : Line → ℕ → List OpenFrame → ℕ → Type 0
UnitsIn line X [] units = units ≡ 0
UnitsIn line X (f ∷ fs) units = (a : ℕ) × (b : ℕ) × (FrameUnits line X f a × UnitsIn line X fs b × (units ≡ a + b))

-- the units of a trail: those of its frames at its cycle
abbrev pub TrailUnits : Line → Option Trail → ℕ → Type 0
TrailUnits line None units = units ≡ 0
TrailUnits line (Some trail) units = UnitsIn line trail.cycle trail.frames units

-- the units of entries and a trail, as a certificate has them
abbrev pub UnitsWhole : Line → List Entry → Option Trail → ℕ → Type 0
UnitsWhole line es trail units = (a : ℕ) × (b : ℕ) × (UnitsOf line es a × TrailUnits line trail b × (units ≡ a + b))

-- the entries of cycle X
abbrev pub entries_at : ℕ → List Entry → List Entry
entries_at X [] = []
entries_at X (e ∷ es) = cond (nat_eq e.cycle X) (e ∷ entries_at X es) (entries_at X es)

-- the units of a trail that is at X, and none where it is at another cycle
abbrev pub TrailUnitsAt : Line → ℕ → Option Trail → ℕ → Type 0
TrailUnitsAt line X None units = units ≡ 0
TrailUnitsAt line X (Some trail) units = cond (nat_eq trail.cycle X) (UnitsIn line X trail.frames units) (units ≡ 0)

-- the units at X: those of the entries of cycle X and of a trail at X
abbrev pub UnitsAt : Line → ℕ → List Entry → Option Trail → ℕ → Type 0
UnitsAt line X es trail units = (a : ℕ) × (b : ℕ) × (UnitsOf line (entries_at X es) a × TrailUnitsAt line X trail b
    × (units ≡ a + b))
