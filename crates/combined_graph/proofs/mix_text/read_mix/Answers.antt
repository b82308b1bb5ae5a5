use Rattle.std.proofs.Common.{rules}
use Rattle.combined_graph.specs.MixText.{IsMixRead}
use Rattle.combined_graph.proofs.FirstFault.{answer_is_first}
use Rattle.combined_graph.proofs.MixFacts.{answer_is_told}
use Rattle.combined_graph.proofs.mix_text.read_mix.Goals as goal

pub returns-in-Err-first_of-clause-first : goal.returns-in-Err-first_of-clause-first
returns-in-Err-first_of-clause-first c =
    let is : IsMixRead c.args.bytes.now c.fault.result = search rules in
    answer_is_first c.args.bytes.now c.fault.result is

pub returns-in-Ok-false-clause-first : goal.returns-in-Ok-false-clause-first
returns-in-Ok-false-clause-first c =
    let is : IsMixRead c.args.bytes.now c.fault-in-Ok-false.result = search rules in
    answer_is_first c.args.bytes.now c.fault-in-Ok-false.result is

pub returns-clause-first : goal.returns-clause-first
returns-clause-first c =
    let is : IsMixRead c.args.bytes.now c.read_rest.result = search rules in
    answer_is_first c.args.bytes.now c.read_rest.result is

pub returns-clause-told : goal.returns-clause-told
returns-clause-told c =
    let is : IsMixRead c.args.bytes.now c.read_rest.result = search rules in
    answer_is_told c.args.bytes.now c.read_rest.result is
