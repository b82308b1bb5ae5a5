use Rattle.std.proofs.Common.{◌≡◌, Some, None, length, ap, sym, ◌∙◌, arith, option_map, Bor, List, ℕ}
use Rattle.csv.specs.Records.{fields_of, field_at}
use Rattle.combined_graph.proofs.FourFields.{four_fields, no_field}
use Rattle.combined_graph.proofs.records.four_of.Goals as goal

pub returns-in_err-word-clause-none : goal.returns-in_err-word-clause-none
returns-in_err-word-clause-none c =
    let none : field_at (fields_of c.args.row.now) 0 ≡ None =
    sym c.get.ensures.value ∙ ap (option_map (λ (s : Bor (List ℕ)). s.now)) c.in_err-word.was in
    let short = no_field (fields_of c.args.row.now) 0 none in
    λ _ four. omega (arith, short, four)

pub returns-in_err-second-clause-none : goal.returns-in_err-second-clause-none
returns-in_err-second-clause-none c =
    let none : field_at (fields_of c.args.row.now) 1 ≡ None =
    sym c.get-2.ensures.value ∙ ap (option_map (λ (s : Bor (List ℕ)). s.now)) c.in_err-second.was in
    let short = no_field (fields_of c.args.row.now) 1 none in
    λ _ four. omega (arith, short, four)

pub returns-in_err-third-clause-none : goal.returns-in_err-third-clause-none
returns-in_err-third-clause-none c =
    let none : field_at (fields_of c.args.row.now) 2 ≡ None =
    sym c.get-3.ensures.value ∙ ap (option_map (λ (s : Bor (List ℕ)). s.now)) c.in_err-third.was in
    let short = no_field (fields_of c.args.row.now) 2 none in
    λ _ four. omega (arith, short, four)

pub returns-in_err-fourth-clause-none : goal.returns-in_err-fourth-clause-none
returns-in_err-fourth-clause-none c =
    let none : field_at (fields_of c.args.row.now) 3 ≡ None =
    sym c.get-4.ensures.value ∙ ap (option_map (λ (s : Bor (List ℕ)). s.now)) c.in_err-fourth.was in
    let short = no_field (fields_of c.args.row.now) 3 none in
    λ _ four. omega (arith, short, four)

pub returns-clause-some : goal.returns-clause-some
returns-clause-some c =
    let four : length (fields_of c.args.row.now) ≡ 4 = omega (arith, c.len.ensures, c.if-len-ne4.false) in
    let word : field_at (fields_of c.args.row.now) 0 ≡ Some c.in_ok-word.word.now =
    sym c.get.ensures.value ∙ ap (option_map (λ (s : Bor (List ℕ)). s.now)) c.in_ok-word.was in
    let second : field_at (fields_of c.args.row.now) 1 ≡ Some c.in_ok-second.second.now =
    sym c.get-2.ensures.value ∙ ap (option_map (λ (s : Bor (List ℕ)). s.now)) c.in_ok-second.was in
    let third : field_at (fields_of c.args.row.now) 2 ≡ Some c.in_ok-third.third.now =
    sym c.get-3.ensures.value ∙ ap (option_map (λ (s : Bor (List ℕ)). s.now)) c.in_ok-third.was in
    let fourth : field_at (fields_of c.args.row.now) 3 ≡ Some c.in_ok-fourth.fourth.now =
    sym c.get-4.ensures.value ∙ ap (option_map (λ (s : Bor (List ℕ)). s.now)) c.in_ok-fourth.was in
    four_fields (fields_of c.args.row.now) _ _ _ _ four word second third fourth
