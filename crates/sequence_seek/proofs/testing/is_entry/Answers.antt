use Rattle.std.proofs.Common.{◌≡◌, ◌∙◌, ℕ, List, length, ap, subst, arith}
use Rattle.sequence_rules.specs.Ranges.{IsState, numbers_by}
use Rattle.sequence_seek.proofs.testing.is_entry.Goals as goal

pub returns : goal.returns
returns c =
    let why = c.args.entry.now.why in
    let stations : ℕ = c.args.times.now.stations in
    let many : c.numbers_by-numbers.result ≡ numbers_by (length c.args.times.now.demands) why =
    c.numbers_by-numbers.ensures ∙ ap (λ n. numbers_by n why) c.len.ensures in
    let M : ℕ → Type 0 = λ n. IsState n stations c.as_slice-rem.result.now c.as_slice.result.now in
    let R : List ℕ → Type 0 = λ xs. IsState (numbers_by (length c.args.times.now.demands) why) stations xs
    c.as_slice.result.now in
    let S : List ℕ → Type 0 = λ xs. IsState (numbers_by (length c.args.times.now.demands) why) stations
    c.args.entry.now.rem xs in
    λ e charges. record {
      state = subst S c.as_slice.ensures (subst R c.as_slice-rem.ensures
          (subst M many (c.is_state_of.ensures.0 c.if-not-is_state_of.false)));
      least = omega (arith, c.if-entry-gt-MOST.false);
      why = c.are_cites.ensures e charges;
    }
