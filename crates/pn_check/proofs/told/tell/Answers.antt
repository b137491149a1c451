-- The text is the line of the value that was written.
use Rattle.std.proofs.lemmas.Result.{IfOk-weaker}
use Rattle.pn_json.specs.Members.{seen_text}
use Rattle.pn_json.proofs.AppendedTexts.{has_value}
use Rattle.pn_check.specs.Told.{told_data}
use Rattle.pn_check.proofs.told.tell.Goals as goal

pub returns : goal.returns
returns c =
    let value = told_data c.args.fault.now c.args.number (seen_text c.args.name) in
    IfOk-weaker c.finish_line.result _ _ (λ text is. is value (has_value value _ _ c.in_ok-writer.ensures c.in_ok-write_fault.ensures)) c.finish_line.ensures
