-- The parts of a certificate's text as grammars.
use Rattle.std.specs.Prelude.{◌≡◌, ℕ, ◌<◌, ◌≤◌, Bool, true, false, List, [], ◌∷◌, ◌++◌, length, map, Option, Some}
use Rattle.std.specs.Prelude.{None, codes}
use Rattle.line_rules.specs.Ranges.{IsCycle, IsAsked, NamesCycle, IsPlacing, AreEntries, IsTrailOrNone, AreBounds}
use Rattle.line_rules.specs.declared.types.LineKind.{LineKind}
use Rattle.line_rules.specs.declared.types.Balance.{Balance as Assignment}
use Rattle.line_rules.specs.declared.types.Entry.{Entry}
use Rattle.line_rules.specs.declared.types.Trail.{Trail}
use Rattle.line_rules.specs.declared.types.Claim.TheVariants as claim
use Rattle.cert_lines.specs.declared.line_forms.Opening.{Opening}
use Rattle.cert_lines.specs.declared.line_forms.Opening.TheVariants as opening
use Rattle.cert_lines.specs.declared.line_forms.Version.{Version}
use Rattle.cert_lines.specs.declared.line_forms.Version.TheVariants as version
use Rattle.cert_lines.specs.Rows.{Row, fixed, keyed}
use Rattle.cert_lines.specs.ValueRows.{seat_row}
use Rattle.cert_lines.specs.LineForms.{opening_row}
use Rattle.entry_lists.specs.OldRanges.{AreOldBounds}
use Rattle.entry_lists.specs.declared.version_one.OldClaim.TheVariants as old
use Rattle.cert_text.specs.Cert.{head_rows, list_rows, trail_rows, has_pairs}
use Rattle.cert_text.specs.OldCert.{counted_rows}
use Rattle.cert_lines.specs.Faults.{Grammar}
use Rattle.cert_text.specs.declared.parts.Head.{Head}
use Rattle.cert_text.specs.declared.parts.EntryList.{EntryList}
use Rattle.cert_text.specs.declared.parts.Placed.{Placed}
use Rattle.cert_text.specs.declared.parts.AnyClaim.{AnyClaim}
use Rattle.cert_text.specs.declared.parts.AnyClaim.TheVariants as any

-- the kind of line, 1 to 1,024 tasks, the question
pub record IsHeadOf (h : Head) : Type 0 where
  pub some : 1 ≤ h.tasks
  pub few : h.tasks ≤ 1024
  pub ask : IsAsked h.ask

abbrev pub heads : Grammar Head
heads = record { rows = λ h. head_rows h.kind h.tasks h.ask; ranged = IsHeadOf }

-- a trail or none, beside so many entries
abbrev pub trails : ℕ → ℕ → Grammar (Option Trail)
trails n count = record { rows = trail_rows n; ranged = IsTrailOrNone n count }

-- entries of a text that may have entries by pairs, or may not
abbrev pub MayHave : Bool → List Entry → Type 0
MayHave true es = Unit {0}
MayHave false es = has_pairs es ≡ false

-- entries and a trail, of a text with entries by pairs or without
abbrev pub lists : ℕ → Bool → Grammar EntryList
lists n pairs = record {
  rows = λ x. list_rows n x.entries x.trail;
  ranged = λ x. AreEntries n x.entries × IsTrailOrNone n (length x.entries) x.trail × MayHave pairs x.entries;
}

-- a balance: its stations, and a place for each of n tasks
abbrev pub seatings : LineKind → ℕ → Grammar Assignment
seatings kind n = record {
  rows = λ b. keyed (codes "balance") b.stations ∷ map (seat_row kind) b.place;
  ranged = IsPlacing kind n;
}

-- the bounds behind the lower one, up to the places
pub record IsPlacedOf (kind : LineKind) (n : ℕ) (p : Placed) : Type 0 where
  pub upper : IsCycle p.upper
  pub balance : IsPlacing kind n p.balance

abbrev pub placings : LineKind → ℕ → Grammar Placed
placings kind n = record {
  rows = λ p. keyed (codes "upper") p.upper ∷ keyed (codes "balance") p.balance.stations ∷ map (seat_row kind)
      p.balance.place;
  ranged = IsPlacedOf kind n;
}

-- what stands behind the first line of a claim: the end, or bounds
abbrev pub behind_rows : Head → AnyClaim → List Row
behind_rows h (any.New (claim.TooLong task)) = fixed (codes "end") ∷ []
behind_rows h (any.New (claim.Bounds lower upper b es t)) =
    (keyed (codes "upper") upper ∷ keyed (codes "balance") b.stations ∷ map (seat_row h.kind) b.place)
    ++ (list_rows h.tasks es t ++ fixed (codes "end") ∷ [])
behind_rows h (any.Old (old.TooLong task)) = fixed (codes "end") ∷ []
behind_rows h (any.Old (old.Bounds lower upper b ps)) =
    (keyed (codes "upper") upper ∷ keyed (codes "balance") b.stations ∷ map (seat_row h.kind) b.place)
    ++ (counted_rows h.tasks ps ++ fixed (codes "end") ∷ [])

-- the first line of a claim
abbrev pub opening_of : AnyClaim → Opening
opening_of (any.New (claim.TooLong task)) = opening.TooLong task
opening_of (any.New (claim.Bounds lower upper b es t)) = opening.Lower lower
opening_of (any.Old (old.TooLong task)) = opening.TooLong task
opening_of (any.Old (old.Bounds lower upper b ps)) = opening.Lower lower

-- whether a text of the version may have entries by pairs; none where its entries stand in parts
abbrev pub pairs_of : Version → Option Bool
pairs_of version.One = None
pairs_of version.Two = Some false
pairs_of version.Three = Some true

-- entries that a text of such a version may have as one list
abbrev pub MayHold : Option Bool → List Entry → Type 0
MayHold None es = ⊥
MayHold (Some pairs) es = MayHave pairs es

-- a claim of a version, behind a head: a task too long, which all versions say alike, or bounds
abbrev pub IsClaimOf : Version → Head → AnyClaim → Type 0
IsClaimOf v h (any.New (claim.TooLong task)) = NamesCycle h.ask × (task < h.tasks)
IsClaimOf v h (any.New (claim.Bounds lower upper b es t)) = MayHold (pairs_of v) es
    × AreBounds h.kind h.tasks lower upper b es t
IsClaimOf v h (any.Old (old.TooLong task)) = ⊥
IsClaimOf v h (any.Old (old.Bounds lower upper b ps)) = (v ≡ version.One) × AreOldBounds h.kind h.tasks lower upper b ps

-- the claim is one that the first line opens
abbrev pub IsOpened : Version → Head → Opening → AnyClaim → Type 0
IsOpened v h o c = IsClaimOf v h c × (opening_of c ≡ o)

abbrev pub opened : Version → Head → Opening → Grammar AnyClaim
opened v h o = record { rows = behind_rows h; ranged = IsOpened v h o }

-- the claims behind a head
abbrev pub claims : Version → Head → Grammar AnyClaim
claims v h = record { rows = λ c. opening_row (opening_of c) ∷ behind_rows h c; ranged = IsClaimOf v h }
