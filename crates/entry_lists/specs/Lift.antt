-- The lift of a certificate of version 1: the certificate of version 2 that says the same.
use Rattle.std.specs.Prelude.{ℕ, ◌+◌, List, [], ◌∷◌, ◌++◌, length, map, Option, Some, None}
use Rattle.line_rules.specs.declared.types.Entry.{Entry}
use Rattle.line_rules.specs.declared.types.Why.{Why}
use Rattle.line_rules.specs.declared.types.Why.TheVariants as why
use Rattle.line_rules.specs.declared.types.OpenFrame.{OpenFrame}
use Rattle.line_rules.specs.declared.types.Trail.{Trail}
use Rattle.line_rules.specs.declared.types.Claim.{Claim}
use Rattle.line_rules.specs.declared.types.Claim.TheVariants as claim
use Rattle.line_rules.specs.declared.types.Certificate.{Certificate}
use Rattle.entry_lists.specs.declared.version_one.Part.{Part}
use Rattle.entry_lists.specs.declared.version_one.OldClaim.{OldClaim}
use Rattle.entry_lists.specs.declared.version_one.OldClaim.TheVariants as old_claim
use Rattle.entry_lists.specs.declared.version_one.OldCertificate.{OldCertificate}

-- cites, raised by the number of entries of earlier parts
abbrev pub raised : ℕ → List ℕ → List ℕ
raised earlier cites = map (λ cite. cite + earlier) cites

-- a reason with its cites raised
abbrev pub lifted_why : ℕ → Why → Why
lifted_why earlier why.Bound = why.Bound
lifted_why earlier (why.Branch mode cites) = why.Branch mode (raised earlier cites)
lifted_why earlier (why.Swap cite out into) = why.Swap (cite + earlier) out into
lifted_why earlier (why.Pairs two) = why.Pairs two

-- an entry of a part at its part's cycle, its cites raised
abbrev pub lifted_entry : ℕ → ℕ → Entry → Entry
lifted_entry cycle earlier e = record { set = e.set; most = e.most; cycle = cycle; why = lifted_why earlier e.why }

-- a frame of a part, its cites raised
abbrev pub lifted_frame : ℕ → OpenFrame → OpenFrame
lifted_frame earlier f = record {
  set = f.set;
  most = f.most;
  mode = f.mode;
  last = f.last;
  cites = raised earlier f.cites;
}

-- the entries of the parts in order, each at its part's cycle, cites raised by the number of entries of earlier parts
abbrev pub lifted_entries : ℕ → List Part → List Entry
lifted_entries earlier [] = []
lifted_entries earlier (p ∷ ps) = map (lifted_entry p.cycle earlier) p.entries
    ++ lifted_entries (earlier + length p.entries) ps

-- frames at a cycle, or none
abbrev pub trail_at : ℕ → List OpenFrame → Option Trail
trail_at cycle [] = None
trail_at cycle (f ∷ fs) = Some (record { cycle = cycle; frames = f ∷ fs })

-- a trail, or where there is none the other one
abbrev pub trail_or : Option Trail → Option Trail → Option Trail
trail_or None other = other
trail_or (Some t) other = Some t

-- the trail of the first part that has one, at that part's cycle, cites raised by the number of entries of earlier
-- parts
abbrev pub lifted_trail : ℕ → List Part → Option Trail
lifted_trail earlier [] = None
lifted_trail earlier (p ∷ ps) = trail_or (trail_at p.cycle (map (lifted_frame earlier) p.frames))
    (lifted_trail (earlier + length p.entries) ps)

-- what is claimed, the parts as one list of entries with one trail
abbrev pub lifted_claim : OldClaim → Claim
lifted_claim (old_claim.TooLong task) = claim.TooLong task
lifted_claim (old_claim.Bounds lower upper b ps) = claim.Bounds lower upper b (lifted_entries 0 ps) (lifted_trail 0 ps)

-- The lift: the same line, question and claim, with the parts as one list.
abbrev pub lift : OldCertificate → Certificate
lift old = record { kind = old.kind; tasks = old.tasks; ask = old.ask; claim = lifted_claim old.claim }
