use Rattle.std.proofs.Common.{◌≡◌, ℕ, ◌-◌, ◌≤◌, List, [], ◌∷◌, ◌++◌, length, take, drop, arith, refl, sym, ap, ◌∙◌}
use Rattle.std.specs.List.{flat_map}
use Rattle.std.specs.Prelude.{slice_get, Some}
use Rattle.std.proofs.lemmas.List.{take_all}
use Rattle.cert_lines.specs.Numbers.{number_text, cites_text}
use Rattle.cert_text.proofs.PutTexts.{nothing, puts}
use Rattle.cert_text.proofs.writing.put_cites.Goals as goal
use Rattle.line_io.proofs.PrintedItems.{next_text}

pub loop-cite-init : goal.loop-cite-init
loop-cite-init g c = nothing _ _ _ refl

pub loop-cite-preserved : goal.loop-cite-preserved
loop-cite-preserved g c =
    puts _ _ _ _ _ _ _ c.loop-cite.invariant (puts _ _ _ _ _ _ _ c.put-in-loop-cite.ensures
    c.put_number-in-loop-cite.ensures refl)
    (sym (next_text (λ d. 44 ∷ number_text d) (take (length c.args.cites.now - 1) (drop 1 c.args.cites.now))
    c.loop-cite.cite-index 0 _ c.loop-cite-test.true refl))

-- what a list that isn't empty reads as
split : (cites : List ℕ) (c i : ℕ) → slice_get cites 0 ≡ Some c → length (take (length cites - 1) (drop 1 cites)) ≤ i
    → cites_text cites ≡ number_text c ++ flat_map (λ d. 44 ∷ number_text d)
    (take i (take (length cites - 1) (drop 1 cites)))
split [] c i e h = (cc)
split (d ∷ cites) c i e h =
    let s : d ≡ c = cc in
    let l : length (d ∷ cites) - 1 ≡ length cites = omega arith in
    let t : take i (take (length (d ∷ cites) - 1) cites) ≡ cites =
    take_all i (take (length (d ∷ cites) - 1) cites) h ∙ take_all (length (d ∷ cites) - 1) cites
    (omega (arith, l)) in
    ap (λ x. number_text x ++ flat_map (λ d. 44 ∷ number_text d) cites) s
    ∙ ap (λ x. number_text c ++ flat_map (λ d. 44 ∷ number_text d) x) (sym t)

pub returns : goal.returns
returns g c = puts _ _ _ _ _ _ _ c.put_number.ensures c.loop-cite.invariant
    (split c.args.cites.now c.in-Some.first.now c.loop-cite.cite-index (sym c.in-Some.ensures.value)
    c.loop-cite-test.false)
