use Rattle.std.proofs.Common.{◌≡◌, ℕ, ◌<◌, Some}
use Rattle.std.specs.Prelude.{slice_get}
use Rattle.std.specs.List.{Contains}
use Rattle.line_rules.specs.declared.types.Entry.{Entry}
use Rattle.entry_lists.specs.Trim.{cited_by}
use Rattle.tests_cert.proofs.streams.cite_earlier.Given as goal

abbrev pub invariant-loop-k : goal.invariant-loop-k
invariant-loop-k l = (j : ℕ) (e : Entry) → j < l.k → slice_get l.entries j ≡ Some e → (cite : ℕ)
    → Contains (cited_by e.why) cite → cite < j
