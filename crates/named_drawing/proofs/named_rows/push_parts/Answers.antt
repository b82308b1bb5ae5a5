use Rattle.std.proofs.Common.{◌≡◌, ◌∙◌, ◌++◌, ℕ, List, get_or, ap, arith, codes, string_bytes}
use Rattle.std.proofs.lemmas.Bool.{eqb-true}
use Rattle.std.proofs.lemmas.Grind.{common_steps}
use Rattle.std.proofs.lemmas.Str.{IsCharBoundary-after_ascii}
use Rattle.line_drawing.specs.Parts.{text_of}
use Rattle.line_drawing.proofs.Chains.{behind, three}
use Rattle.named_drawing.specs.Escapes.{escaped}
use Rattle.named_drawing.specs.Widths.{part_before, part_behind}
use Rattle.named_drawing.specs.NamedRows.{above_parts, below_parts}
use Rattle.named_drawing.proofs.named_rows.push_parts.Goals as goal

pub range_from-requires : goal.range_from-requires
range_from-requires c =
    let name : List ℕ = c.args.name.now in
    let at : ℕ = c.args.at in
    let blank : get_or name at 0 ≡ 32 = eqb-true (get_or name at 0) 32 c.requires.blank.blank in
    λ some. IsCharBoundary-after_ascii name at c.utf8.name c.requires.blank.within (omega (arith, blank))

pub returns : goal.returns
returns c =
    let name : List ℕ = c.args.name.now in
    let s = c.args.segment.now in
    let at : ℕ = c.args.at in
    let old : List ℕ = string_bytes c.args.text.now in
    let front : c.range.result.now ≡ part_before name at = c.range.ensures.value ∙ grind (arith, common_steps) in
    let a : List ℕ = text_of (above_parts s) in
    let b : List ℕ = escaped (part_before name at) in
    let d : List ℕ = text_of (below_parts s) in
    let e : List ℕ = escaped (part_behind name at) in
    let first = rw c.middle_of-middle.ensures at c.in_ok-write.ensures.bytes in
    let second = rw c.middle_of-middle.ensures at c.in_ok-write-2.ensures.bytes in
    behind old (a ++ b ++ d ++ e) (codes "</text>\n")
    (behind old (a ++ b ++ d) e
    (three old a b d first
    (c.in_ok-push_escaped.ensures ∙ ap (λ t. string_bytes c.write.new.self ++ escaped t) front) second)
    (c.in_ok-push_escaped-2.ensures
    ∙ ap (λ t. string_bytes c.write-2.new.self ++ escaped t) c.range_from.ensures.value))
    c.in_ok-push_str.ensures.bytes
