use Rattle.std.proofs.Common.{◌≡◌, ℕ, List, replicate, take, subst, sym, sum, arith, ap}
use Rattle.std.proofs.lemmas.List.{take-replicate}
use Rattle.sequence_rules.specs.Charges.{listed_charges}
use Rattle.sequence_rules.specs.Entries.{HasAnswer}
use Rattle.sequence_values.specs.declared.types.SeqEntry.{SeqEntry}
use Rattle.sequence_check.proofs.checking.shows_lower.Goals as goal

-- an answer to an equal state, with equal charges
moved : (es : List SeqEntry) (charges charges' rem rem' starts starts' : List ℕ) (need : ℕ) → charges ≡ charges'
    → rem ≡ rem' → starts ≡ starts'
    → HasAnswer charges es rem starts need → HasAnswer charges' es rem' starts' need
moved es charges charges' rem rem' starts starts' need c r s h =
    let O : List ℕ → Type 0 = λ z. HasAnswer z es rem starts need in
    let P : List ℕ → Type 0 = λ z. HasAnswer charges' es z starts need in
    let Q : List ℕ → Type 0 = λ z. HasAnswer charges' es rem' z need in
    subst Q s (subst P r (subst O c h))

pub has_answer-requires-clause-few : goal.has_answer-requires-clause-few
has_answer-requires-clause-few c =
    omega (arith, c.requires.times.units, ap (λ (z : List ℕ). sum z) c.as_slice.ensures)

pub returns : goal.returns
returns c =
    let zero : ℕ = 0 in
    let root : List ℕ = replicate c.args.times.now.stations zero in
    let begun : List ℕ = take c.args.times.now.stations (replicate 64 zero) in
    let is : begun ≡ root = take-replicate c.args.times.now.stations 64 zero c.requires.times.few in
    let listed : List ℕ = listed_charges c.args.cert.now.charges in (
      λ e l. moved c.args.cert.now.entries c.args.charges.now listed c.as_slice.result.now c.args.times.now.demands
          begun
          root c.args.cert.now.lower c.requires.charges c.as_slice.ensures is (c.has_answer.ensures.some e),
      λ h. c.has_answer.ensures.none (moved c.args.cert.now.entries listed c.args.charges.now c.args.times.now.demands
          c.as_slice.result.now root begun c.args.cert.now.lower (sym c.requires.charges) (sym c.as_slice.ensures)
          (sym is)
          (h (omega (arith, c.if-cert-eq0.false)))),
    )
