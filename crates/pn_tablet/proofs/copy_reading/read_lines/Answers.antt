-- A line that is refused ends the reading, and one that is taken makes the draft longer.
use Rattle.std.proofs.Common.{rules, ◌≡◌, ◌+◌, ◌==◌, Ok, length, sym, ap, ◌∙◌, arith}
use Rattle.pn_tablet.specs.CopyReading.{pieces_of, is_over, with_mark, with_image, finish, read_on}
use Rattle.pn_tablet.specs.Copies.{DraftValue}
use Rattle.pn_tablet.specs.declared.copy_line.CopyLine.TheVariants.{Mark, Record, End}
use Rattle.pn_tablet.specs.declared.fault.CopyTextFault.TheVariants.{BadLine}
use Rattle.pn_tablet.proofs.CopySteps.{is_over-pieces_of, read_on-bad, read_on-said, read_on-last, then_ok, then_err, passed_on, same_right, refused_right, unless_memory, mark_position}
use Rattle.pn_tablet.proofs.copy_reading.read_lines.Goals as goal
use Rattle.pn_tablet.proofs.copy_reading.read_lines.Goals.{in-Mark+in_ok-draft-in-Mark, in-Record+in_ok-draft-in-Record}

pub returns-in_err-name : goal.returns-in_err-name
returns-in_err-name c =
    passed_on c.from_residual.result _ c.in_err-name.field-0.0 c.from_residual.ensures.1 (λ other.
    c.lines.invariant.reads
    ∙ read_on-bad c.args.form c.lines.number c.lines.draft (pieces_of c.lines.rest.now) c.in-Some.line.now c.in-Some.after.now c.in-Some.ensures.0 c.in_err-name.field-0.0 (c.in_err-name.ensures other))

pub with_mark-requires : goal.with_mark-requires
with_mark-requires c = mark_position c.args.form (BadLine c.lines.number) c.in-Some.line.now c.in-Mark.name c.in-Mark.position (c.in_ok-name.ensures ∙ ap Ok c.in-Mark.is)

pub returns-in_err-draft-in-Mark : goal.returns-in_err-draft-in-Mark
returns-in_err-draft-in-Mark c =
    passed_on c.from_residual-in_err-draft-in-Mark.result _ c.in_err-draft-in-Mark.field-0.0 c.from_residual-in_err-draft-in-Mark.ensures.1 (λ other.
    c.lines.invariant.reads
    ∙ read_on-said c.args.form c.lines.number c.lines.draft (pieces_of c.lines.rest.now) c.in-Some.line.now c.in-Some.after.now c.in-Some.ensures.0 (Mark c.in-Mark.name c.in-Mark.position) (c.in_ok-name.ensures ∙ ap Ok c.in-Mark.is)
    ∙ then_err (with_mark c.lines.number c.lines.draft (c.in-Mark.name, c.in-Mark.position)) _ c.in_err-draft-in-Mark.field-0.0 (refused_right c.in_err-draft-in-Mark.field-0.0 _ c.in_err-draft-in-Mark.ensures other))

pub returns-in_err-draft-in-Record : goal.returns-in_err-draft-in-Record
returns-in_err-draft-in-Record c =
    passed_on c.from_residual-in_err-draft-in-Record.result _ c.in_err-draft-in-Record.field-0.0 c.from_residual-in_err-draft-in-Record.ensures.1 (λ other.
    c.lines.invariant.reads
    ∙ read_on-said c.args.form c.lines.number c.lines.draft (pieces_of c.lines.rest.now) c.in-Some.line.now c.in-Some.after.now c.in-Some.ensures.0 (Record c.in-Record.image) (c.in_ok-name.ensures ∙ ap Ok c.in-Record.is)
    ∙ then_err (with_image c.lines.number c.lines.draft c.in-Record.image) _ c.in_err-draft-in-Record.field-0.0 (refused_right c.in_err-draft-in-Record.field-0.0 _ c.in_err-draft-in-Record.ensures other))

pub returns-in-End : goal.returns-in-End
returns-in-End c =
    let empty : c.is_empty.result ≡ (length c.in-Some.after.now == 0) = search rules in
    let over : is_over (pieces_of c.in-Some.after.now) ≡ c.is_empty.result = is_over-pieces_of c.in-Some.after.now ∙ sym empty in
    same_right c.finish.result (finish c.lines.number c.lines.draft c.in-End.count c.is_empty.result) _
    (sym (c.lines.invariant.reads
    ∙ read_on-said c.args.form c.lines.number c.lines.draft (pieces_of c.lines.rest.now) c.in-Some.line.now c.in-Some.after.now c.in-Some.ensures.0 (End c.in-End.count) (c.in_ok-name.ensures ∙ ap Ok c.in-End.is)
    ∙ ap (finish c.lines.number c.lines.draft c.in-End.count) over))
    (unless_memory _ _ c.finish.ensures)

pub lines-preserved : goal.lines-preserved
lines-preserved c = record {
  reads = elim c.match-branch-2.branch [
    | in-Mark+in_ok-draft-in-Mark w ↦
        c.lines.invariant.reads
        ∙ read_on-said c.args.form c.lines.number c.lines.draft (pieces_of c.lines.rest.now) c.in-Some.line.now c.in-Some.after.now c.in-Some.ensures.0 (Mark w.in-Mark.name w.in-Mark.position) (c.in_ok-name.ensures ∙ ap Ok w.in-Mark.is)
        ∙ then_ok (with_mark c.lines.number c.lines.draft (w.in-Mark.name, w.in-Mark.position)) _ w.in_ok-draft-in-Mark.draft w.in_ok-draft-in-Mark.ensures
        ∙ ap (λ (d : DraftValue). read_on c.args.form (c.lines.number + 1) d (pieces_of c.in-Some.after.now)) (sym w.draft-is)
    | in-Record+in_ok-draft-in-Record w ↦
        c.lines.invariant.reads
        ∙ read_on-said c.args.form c.lines.number c.lines.draft (pieces_of c.lines.rest.now) c.in-Some.line.now c.in-Some.after.now c.in-Some.ensures.0 (Record w.in-Record.image) (c.in_ok-name.ensures ∙ ap Ok w.in-Record.is)
        ∙ then_ok (with_image c.lines.number c.lines.draft w.in-Record.image) _ w.in_ok-draft-in-Record.draft w.in_ok-draft-in-Record.ensures
        ∙ ap (λ (d : DraftValue). read_on c.args.form (c.lines.number + 1) d (pieces_of c.in-Some.after.now)) (sym w.draft-is)
  ];
  some = omega (arith, c.lines.invariant.some);
  within = omega (arith, c.in-Some.ensures.1, c.lines.invariant.within);
}

pub returns : goal.returns
returns c = λ other. c.lines.invariant.reads ∙ read_on-last c.args.form c.lines.number c.lines.draft (pieces_of c.lines.rest.now) c.lines.rest.now c.in_default.ensures
