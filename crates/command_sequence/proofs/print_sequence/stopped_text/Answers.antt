use Rattle.std.proofs.Common.{◌≡◌, ◌∙◌, ◌++◌, ℕ, List, ap, append_assoc}
use Rattle.std.specs.Prelude.{codes, string_bytes}
use Rattle.std.proofs.lemmas.Result.{IfOk-weaker}
use Rattle.command_sequence.specs.SequenceText.{bounds_line, sequence_line}
use Rattle.command_sequence.proofs.print_sequence.stopped_text.Goals as goal

pub returns : goal.returns
returns c =
    let said : List ℕ = string_bytes c.args.said in
    let front : List ℕ = codes "stopped by units\n" in
    let bounds : List ℕ = bounds_line c.args.cert.now.lower c.args.cert.now.upper in
    let line : List ℕ → List ℕ = sequence_line c.args.mix.now in
    let units : List ℕ = c.args.cert.now.sequence in
    let same : ((said ++ front) ++ bounds) ++ line units ≡ said ++ ((front ++ bounds) ++ line units) =
    ap (λ (xs : List ℕ). xs ++ line units) (append_assoc said front bounds)
    ∙ append_assoc said (front ++ bounds) (line units) in
    let heading : string_bytes c.push_bounds.new.text ≡ (said ++ front) ++ bounds =
    c.in_ok-push_bounds.ensures
    ∙ ap (λ k. string_bytes c.push_str.new.self ++ bounds_line k c.from-2.result) c.from.ensures
    ∙ ap (λ k. string_bytes c.push_str.new.self ++ bounds_line c.args.cert.now.lower k) c.from-2.ensures
    ∙ ap (λ (xs : List ℕ). xs ++ bounds) c.in_ok-push_str.ensures.bytes in
    IfOk-weaker c.with_sequence.result _ _ (λ t h. h
    ∙ ap (λ (z : List ℕ). string_bytes c.push_bounds.new.text ++ line z) c.as_slice.ensures
    ∙ ap (λ (xs : List ℕ). xs ++ line units) heading ∙ same) c.with_sequence.ensures
