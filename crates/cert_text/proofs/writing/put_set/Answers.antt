use Rattle.std.proofs.Common.{◌≡◌, ℕ, ◌+◌, ◌/◌, [], ◌∷◌, arith, refl, sym, ap, map}
use Rattle.std.specs.List.{range_with_len}
use Rattle.std.proofs.lemmas.List.FromFn.{map-range_with_len_more}
use Rattle.cert_lines.specs.Numbers.{set_text, hex_digit, four}
use Rattle.cert_text.proofs.PutTexts.{nothing, puts, puts_as}
use Rattle.cert_text.proofs.writing.put_set.Goals as goal

pub loop-k-init : goal.loop-k-init
loop-k-init g c = nothing _ _ _ refl

pub loop-k-preserved : goal.loop-k-preserved
loop-k-preserved g c =
    let f : ℕ → ℕ = λ k. hex_digit (four c.args.tasks c.args.set.now k) in
    puts _ _ _ _ (map f (range_with_len 0 c.loop-k.k)) (f c.loop-k.k ∷ []) (map f (range_with_len 0 (c.loop-k.k + 1)))
    c.loop-k.invariant
    (puts_as _ _ _ _ _ c.put.ensures (ap (λ d. d ∷ []) (sym c.digit_of.ensures)))
    (map-range_with_len_more f 0 c.loop-k.k c.loop-k.k (omega arith))

pub returns : goal.returns
unfolding set_text
returns g c =
    let e : (c.args.tasks + 3) / 4 ≡ c.loop-k.k = omega (arith, c.loop-k-test.false, c.loop-k.auto.k-end) in
    puts_as _ _ _ _ _ c.loop-k.invariant (ap (λ n. map (λ k. hex_digit (four c.args.tasks c.args.set.now k))
    (range_with_len 0 n)) e)
