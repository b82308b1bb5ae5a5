use Rattle.std.proofs.Common.{◌≡◌, ◌≤◌, ◌<◌, ◌+◌, ◌∙◌, ◌++◌, ℕ, List, [], ◌∷◌, ap, sym, arith, drop, take, map, rules}
use Rattle.std.proofs.Common.{Some, length, vec_len, true, subst}
use Rattle.std.specs.Result.{is_ok}
use Rattle.std.proofs.lemmas.List.Elements.{All-append}
use Rattle.std.specs.Prelude.{All}
use Rattle.combined_graph.specs.Sequences.{unit_names, IsFirstUnknown}
use Rattle.combined_graph.specs.Mixes.{model_named}
use Rattle.combined_graph.proofs.UnitNames.{next_name, all_read, too_many, unknown, one_unit}
use Rattle.combined_graph.proofs.sequence.read_units.Goals as goal

pub returns-in_default-clause-read : goal.returns-in_default-clause-read
returns-in_default-clause-read c =
    all_read c.args.models.now (unit_names c.args.bytes.now) (vec_len c.units.units) c.units.units.items
    (c.units.invariant.left ∙ ap (map (λ (x : ℕ × List ℕ). x.1)) c.in_default.ensures.0) c.units.invariant.few
    c.units.invariant.said

pub returns-then-len-eq-MAX_UNITS-clause-read : goal.returns-then-len-eq-MAX_UNITS-clause-read
returns-then-len-eq-MAX_UNITS-clause-read c =
    too_many c.args.models.now (unit_names c.args.bytes.now) (vec_len c.units.units) c.units.units.items
    c.in-Ok.content.bytes.now _
    (c.units.invariant.left ∙ ap (map (λ (x : ℕ × List ℕ). x.1)) c.in-Ok.ensures.0)
    (omega (arith, c.len.ensures, c.if-len-eq-MAX_UNITS.true)) c.units.invariant.said

pub returns-in_default-place_of-clause-read : goal.returns-in_default-place_of-clause-read
returns-in_default-place_of-clause-read c =
    let few : vec_len c.units.units < 100000 = omega (
      arith,
      c.units.invariant.few,
      c.len.ensures,
      c.if-len-eq-MAX_UNITS.false,
    ) in
    let P : ℕ → Type 0 = λ n. IsFirstUnknown c.args.models.now (unit_names c.args.bytes.now) (n + 1)
    × (n + 1 ≤ 100000) in
    subst P (sym c.len-in_default-place_of.ensures)
    (unknown c.args.models.now (unit_names c.args.bytes.now) (vec_len c.units.units) c.units.units.items
    c.in-Ok.content.bytes.now _
    (c.units.invariant.left ∙ ap (map (λ (x : ℕ × List ℕ). x.1)) c.in-Ok.ensures.0) few
    (sym c.in_default-place_of.ensures.place) c.units.invariant.said)

pub units-preserved : goal.units-preserved
units-preserved c =
    let next = c.units.invariant.left ∙ ap (map (λ (x : ℕ × List ℕ). x.1)) c.in-Ok.ensures.0 in
    let good : is_ok c.push.result ≡ true = c.if-is_err.ensures.negation in
    let items : c.push.new.self.items ≡ c.units.units.items ++ c.in-Some.model ∷ [] = rw good at c.push.ensures.items in
    let len : vec_len c.push.new.self ≡ vec_len c.units.units + 1 = rw good at c.push.ensures.len in
    let P : List ℕ → Type 0 = All (λ m. m < length c.args.models.now) in
    record {
      few = omega (arith, len, c.units.invariant.few, c.len.ensures, c.if-len-eq-MAX_UNITS.false);
      room = omega (arith, c.in-Ok.ensures.2, c.units.invariant.room);
      left = ap (λ n. drop n (unit_names c.args.bytes.now)) len
          ∙ (next_name (unit_names c.args.bytes.now) (vec_len c.units.units) c.in-Ok.content.bytes.now _ next).behind;
      said =
          ap (λ n. map (model_named c.args.models.now) (take n (unit_names c.args.bytes.now))) len
          ∙ one_unit c.args.models.now (unit_names c.args.bytes.now) (vec_len c.units.units) c.in-Some.model
          c.units.units.items c.in-Ok.content.bytes.now _ next (sym c.in-Some.ensures.place) c.units.invariant.said
          ∙ ap (map (λ m. Some m)) (sym items);
      models = subst P (sym items) (All-append (λ m. m < length c.args.models.now) c.units.units.items
          (c.in-Some.model ∷ []) c.units.invariant.models (search rules));
    }
