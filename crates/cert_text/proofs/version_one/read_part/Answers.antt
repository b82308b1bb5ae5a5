use Rattle.std.proofs.Common.{sym, subst, List, [], Ok, Some, false}
use Rattle.line_rules.specs.declared.types.Entry.{Entry}
use Rattle.cert_lines.specs.Pattern.{IsRead}
use Rattle.cert_text.specs.inner.OldParts.{old_trails, one_part}
use Rattle.cert_text.proofs.PartErrors.{ends, first, second, same, hand}
use Rattle.cert_lines.proofs.JudgedEntry.{some_entry}
use Rattle.cert_text.proofs.PartSequences.{both_read}
use Rattle.cert_text.proofs.CertificateParts.{unique_given}
use Rattle.cert_text.proofs.VersionOneParts.{no_frames, part_cycles, part_counts, short_entries, part_rest, part_behind}
use Rattle.cert_text.proofs.VersionOneParts.{part_parts, unique_part_cycle, unique_part_count, some_part_rest}
use Rattle.cert_text.proofs.VersionOneParts.{some_part_behind, cycle_is, few_entries, same_part, part_said, part_read}
use Rattle.cert_text.proofs.version_one.read_part.Goals as goal

pub returns-in_err-cycle-clause-read : goal.returns-in_err-cycle-clause-read
returns-in_err-cycle-clause-read g c t =
    hand (one_part c.args.tasks c.args.room) _ _ _ _ c.from_residual.result c.in_err-cycle.field-0.0
    c.from_residual.ensures.1
    (same (part_parts c.args.tasks c.args.room) (one_part c.args.tasks c.args.room)
    (same_part c.args.tasks c.args.room c.requires.room)
    (first part_cycles (part_behind c.args.tasks c.args.room) unique_part_cycle
    (λ k r. some_part_behind c.args.tasks c.args.room k (cycle_is k r.0 r.1))
    (ends part_cycles _ 0 _ [] _ (c.in_err-cycle.ensures.read t))))

pub returns-in_err-count-clause-read : goal.returns-in_err-count-clause-read
returns-in_err-count-clause-read g c t =
    hand (one_part c.args.tasks c.args.room) _ _ _ _ c.from_residual-in_err-count.result c.in_err-count.field-0.0
    c.from_residual-in_err-count.ensures.1
    (same (part_parts c.args.tasks c.args.room) (one_part c.args.tasks c.args.room)
    (same_part c.args.tasks c.args.room c.requires.room)
    (second part_cycles (part_behind c.args.tasks c.args.room) _ _ _ _ _ unique_part_cycle
    (c.in_ok-cycle.ensures.read t)
    (first part_counts (part_rest c.args.tasks c.args.room c.in_ok-cycle.cycle) unique_part_count
    (λ k r. some_part_rest c.args.tasks c.args.room c.in_ok-cycle.cycle k
    (cycle_is c.in_ok-cycle.cycle c.in_ok-cycle.ensures.said.0 c.in_ok-cycle.ensures.said.1))
    (ends part_counts _ 0 _ [] _ (c.in_err-count.ensures.read t)))))

pub read_lines-requires-clause-can : goal.read_lines-requires-clause-can
read_lines-requires-clause-can g c = (
  c.requires.some,
  c.requires.few,
  few_entries c.in_ok-count.count c.in_ok-count.ensures.said.1,
  cycle_is c.in_ok-cycle.cycle c.in_ok-cycle.ensures.said.0 c.in_ok-cycle.ensures.said.1,
)

pub read_lines-requires-clause-some : goal.read_lines-requires-clause-some
read_lines-requires-clause-some g c = some_entry c.args.tasks c.in_ok-count.count
    (Some c.in_ok-cycle.cycle) false (cycle_is c.in_ok-cycle.cycle c.in_ok-cycle.ensures.said.0
    c.in_ok-cycle.ensures.said.1)

pub returns-in_err-entries-clause-read : goal.returns-in_err-entries-clause-read
returns-in_err-entries-clause-read g c t =
    hand (one_part c.args.tasks c.args.room) _ _ _ _ c.from_residual-in_err-entries.result c.in_err-entries.field-0.0
    c.from_residual-in_err-entries.ensures.1
    (same (part_parts c.args.tasks c.args.room) (one_part c.args.tasks c.args.room)
    (same_part c.args.tasks c.args.room c.requires.room)
    (second part_cycles (part_behind c.args.tasks c.args.room) _ _ _ _ _ unique_part_cycle
    (c.in_ok-cycle.ensures.read t)
    (second part_counts (part_rest c.args.tasks c.args.room c.in_ok-cycle.cycle) _ _ _ _ _ unique_part_count
    (c.in_ok-count.ensures.read t)
    (first (short_entries c.args.tasks c.in_ok-cycle.cycle c.in_ok-count.count)
    (λ es. old_trails c.args.tasks c.in_ok-count.count c.args.room)
    (unique_given c.args.tasks c.in_ok-count.count (Some c.in_ok-cycle.cycle) false c.requires.few
    (few_entries c.in_ok-count.count c.in_ok-count.ensures.said.1))
    (λ es r. ([], no_frames c.args.tasks c.in_ok-count.count c.args.room))
    (ends (short_entries c.args.tasks c.in_ok-cycle.cycle c.in_ok-count.count) _ 0 _ [] _
    (c.in_err-entries.ensures.read t))))))

pub returns-in_err-frames-clause-read : goal.returns-in_err-frames-clause-read
returns-in_err-frames-clause-read g c t =
    hand (one_part c.args.tasks c.args.room) _ _ _ _ c.from_residual-in_err-frames.result c.in_err-frames.field-0.0
    c.from_residual-in_err-frames.ensures.1
    (same (part_parts c.args.tasks c.args.room) (one_part c.args.tasks c.args.room)
    (same_part c.args.tasks c.args.room c.requires.room)
    (second part_cycles (part_behind c.args.tasks c.args.room) _ _ _ _ _ unique_part_cycle
    (c.in_ok-cycle.ensures.read t)
    (second part_counts (part_rest c.args.tasks c.args.room c.in_ok-cycle.cycle) _ _ _ _ _ unique_part_count
    (c.in_ok-count.ensures.read t)
    (second (short_entries c.args.tasks c.in_ok-cycle.cycle c.in_ok-count.count)
    (λ es. old_trails c.args.tasks c.in_ok-count.count c.args.room) _ _ _ _ _
    (unique_given c.args.tasks c.in_ok-count.count (Some c.in_ok-cycle.cycle) false c.requires.few
    (few_entries c.in_ok-count.count c.in_ok-count.ensures.said.1)) (c.in_ok-entries.ensures.read t)
    (ends (old_trails c.args.tasks c.in_ok-count.count c.args.room) _ 0 _ [] _ (c.in_err-frames.ensures.read t))))))

pub returns-clause-said : goal.returns-clause-said
returns-clause-said g c =
    let Q : List Entry → Type 0 = λ es. (one_part c.args.tasks c.args.room).ranged
    (record { cycle = c.in_ok-cycle.cycle; entries = es; frames = c.in_ok-frames.frames }) in
    subst Q (sym c.from_vec.ensures)
    (part_said c.args.tasks c.args.room c.in_ok-cycle.cycle c.in_ok-count.count c.in_ok-entries.entries.items
    c.in_ok-frames.frames c.requires.room (cycle_is c.in_ok-cycle.cycle c.in_ok-cycle.ensures.said.0
    c.in_ok-cycle.ensures.said.1) c.in_ok-count.ensures.said.1 c.in_ok-entries.ensures.said
    c.in_ok-frames.ensures.said)

pub returns-clause-read : goal.returns-clause-read
returns-clause-read g c t =
    let Q : List Entry → Type 0 = λ es. IsRead (one_part c.args.tasks c.args.room) (g.S.Source.number c.args.source.now)
    (g.S.Source.left c.args.source.now) (g.S.Source.left c.read_frames.new.source)
    (g.S.Source.number c.read_frames.new.source)
    (Ok (record { cycle = c.in_ok-cycle.cycle; entries = es; frames = c.in_ok-frames.frames })) in
    subst Q (sym c.from_vec.ensures)
    (part_read c.args.tasks c.args.room c.in_ok-cycle.cycle c.in_ok-count.count c.in_ok-entries.entries.items
    c.in_ok-frames.frames _ _ _ _ c.requires.room
    (both_read part_cycles (part_behind c.args.tasks c.args.room) c.in_ok-cycle.cycle
    (c.in_ok-count.count, (c.in_ok-entries.entries.items, c.in_ok-frames.frames)) _ _ _ _ _ _
    (c.in_ok-cycle.ensures.read t)
    (both_read part_counts (part_rest c.args.tasks c.args.room c.in_ok-cycle.cycle) c.in_ok-count.count
    (c.in_ok-entries.entries.items, c.in_ok-frames.frames) _ _ _ _ _ _ (c.in_ok-count.ensures.read t)
    (both_read (short_entries c.args.tasks c.in_ok-cycle.cycle c.in_ok-count.count)
    (λ es. old_trails c.args.tasks c.in_ok-count.count c.args.room) c.in_ok-entries.entries.items
    c.in_ok-frames.frames _ _ _ _ _ _ (c.in_ok-entries.ensures.read t) (c.in_ok-frames.ensures.read t)))))
