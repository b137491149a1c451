-- What the first lines say is added, and the lines after them are read.
use Rattle.std.proofs.Common.{◌+◌, rules, sym, arith}
use Rattle.pn_tablet.specs.CopyReading.{pieces_of, read_on}
use Rattle.pn_tablet.proofs.CopyChunkLaws.{taken_then, refused_then}
use Rattle.pn_tablet.proofs.CopySteps.{passed_on, same_right}
use Rattle.pn_tablet.proofs.copy_chunks.read_after.Goals as goal

pub returns-in_err-draft : goal.returns-in_err-draft
returns-in_err-draft c =
    passed_on c.from_residual.result _ c.in_err-draft.field-0.0 c.from_residual.ensures.1 (λ other.
    refused_then c.args.form c.args.text.now c.args.first.says.items _ c.requires.begins c.args.empty c.in_err-draft.field-0.0 (c.in_err-draft.ensures other))

pub returns : goal.returns
returns c =
    same_right c.read_lines.result (read_on c.args.form (c.len.result + 2) c.in_ok-draft.draft (pieces_of c.split_at.result.1.now)) _
    (sym (taken_then c.args.form c.args.text.now c.args.first.says.items _ c.requires.begins c.args.empty c.in_ok-draft.draft (c.len.result + 2) c.split_at.result.1.now c.in_ok-draft.ensures (search (rules, arith)) c.split_at.ensures.back))
    c.read_lines.ensures
