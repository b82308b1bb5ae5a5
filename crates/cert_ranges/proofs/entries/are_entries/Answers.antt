use Rattle.std.proofs.Common.{arith, ◌≡◌, subst, sym, ℕ, true, refl}
use Rattle.line_rules.specs.Ranges.{IsEntry}
use Rattle.cert_ranges.proofs.Items.{one_more, each_item}
use Rattle.cert_ranges.proofs.entries.are_entries.Goals as goal

pub returns-then-not-is_entry : goal.returns-then-not-is_entry
returns-then-not-is_entry c = (
  λ t. absurd (cc),
  λ r. let N : ℕ → Type 0 = λ n. IsEntry c.args.tasks n c.at.result.now in
      let e : c.is_entry.result ≡ true = c.is_entry.ensures.1
      (subst N (sym c.len-count.ensures) (r.each c.loop-k.k c.at.result.now c.at.ensures)) in
      cc,
)

pub loop-k-preserved : goal.loop-k-preserved
loop-k-preserved c = one_more (IsEntry c.args.tasks c.len-count.result) c.args.entries.now c.loop-k.k c.at.result.now
    c.at.ensures (c.is_entry.ensures.0 c.if-not-is_entry.false) c.loop-k.invariant

pub returns : goal.returns
returns c = (
  λ t. record {
    many = omega (arith, c.if-count-gt-MAX_ENTRIES.false, c.len-count.ensures);
    each = λ k e h. let N : ℕ → Type 0 = λ n. IsEntry c.args.tasks n e in
        subst N c.len-count.ensures (each_item (IsEntry c.args.tasks c.len-count.result) c.args.entries.now c.loop-k.k
        (omega (arith, c.loop-k-test.false, c.len-count.ensures)) c.loop-k.invariant k e h);
  },
  λ r. refl,
)
