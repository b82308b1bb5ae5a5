use Rattle.std.proofs.Common.{ℕ, ◌≡◌, ◌∙◌, Option, Some, None, List, [], take, ap, inr}
use Rattle.line_io.specs.Kept.{Tally, NamedFile, KeepsTorn, failed, file_in}
use Rattle.line_io.proofs.mem_shelf.extend_torn.Goals as goal

-- memory refused the bytes of a torn call, and two faults were counted
kept_none : (old new : Option (List ℕ)) (kept bytes : List ℕ) (t u : Tally) → old ≡ Some bytes → new ≡ old
    → u ≡ failed (failed t) → KeepsTorn old kept t new u
kept_none (Some old) new kept bytes t u s e f = inr (e, f)
kept_none None new kept bytes t u s e f = (cc)

nameless : NamedFile
nameless = record { name = []; bytes = [] }

pub returns-in-Err-clause-torn : goal.returns-in-Err-clause-torn
returns-in-Err-clause-torn c =
    kept_none (file_in c.args.files.now c.args.name.now) (file_in c.extend_by_prefix.new.files c.args.name.now)
    (take c.args.keep c.args.bytes.now) _ c.args.calls.now c.fail-in-Err.new.self
    (c.requires.read nameless) c.in-Err.ensures.same (c.fail-in-Err.ensures.up ∙ ap failed c.fail.ensures.up)
