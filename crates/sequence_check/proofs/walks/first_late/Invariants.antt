use Rattle.std.proofs.Common.{◌≡◌, ℕ, ◌<◌, Some}
use Rattle.std.specs.Prelude.{slice_get}
use Rattle.sequence_check.proofs.walks.first_late.Given as goal

abbrev pub invariant-loop-p : goal.invariant-loop-p
invariant-loop-p l = (q x : ℕ) → q < l.p → slice_get l.cites q ≡ Some x → x < l.k
