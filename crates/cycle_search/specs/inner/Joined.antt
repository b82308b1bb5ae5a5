-- Entries behind those of an earlier list, and what their cites are raised by.
use Rattle.std.specs.Prelude.{◌≡◌, ℕ, List, ◌++◌, length, map, slice_get, Some}
use Rattle.line_rules.specs.Ranges.{AreCites, IsWhy}
use Rattle.line_rules.specs.declared.types.Entry.{Entry}
use Rattle.line_rules.specs.declared.types.OpenFrame.{OpenFrame}
use Rattle.entry_lists.specs.Lift.{lifted_why}

-- an entry with its cites raised by the number of entries before its list
abbrev pub raised_entry : ℕ → Entry → Entry
raised_entry earlier e = record { set = e.set; most = e.most; cycle = e.cycle; why = lifted_why earlier e.why }

-- the entries of a first list, and behind them those of a second one, their cites raised
abbrev pub behind : List Entry → List Entry → List Entry
behind before es = before ++ map (raised_entry (length before)) es

-- each entry cites entries of a list of so many
abbrev pub HaveCites : ℕ → List Entry → Type 0
HaveCites count es = (k : ℕ) (e : Entry) → slice_get es k ≡ Some e → (n : ℕ) × IsWhy n count e.why

-- each frame cites entries of a list of so many
abbrev pub HaveFrameCites : ℕ → List OpenFrame → Type 0
HaveFrameCites count frames = (k : ℕ) (f : OpenFrame) → slice_get frames k ≡ Some f → AreCites count f.cites
