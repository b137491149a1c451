-- The marks are shown.
use Rattle.std.proofs.Common.{refl, sym, ap}
use Rattle.pn_json.specs.Tokens.{line_of}
use Rattle.pn_join.specs.Marks.{Positions}
use Rattle.pn_protocol.specs.Reply.Short.{marks_reply_data}
use Rattle.pn_serve.specs.Control.Commands.{logged}
use Rattle.pn_serve.specs.declared.control.commands.WriterCommand.TheVariants as commands
use Rattle.pn_serve.specs.Machine.Outcomes.{machine_over, reply_turn}
use Rattle.pn_serve.proofs.Obeying.{shows}
use Rattle.pn_serve.proofs.control.commands.show_marks.Goals as goal

pub returns : goal.returns
returns c =
    let live = c.args.live.now in
    shows live commands.Marks (line_of (marks_reply_data c.marks.result.now)) c.marks_reply.result c.answer_text.result refl
    (ap (λ (ms : Positions). reply_turn (machine_over (logged live)) (line_of (marks_reply_data ms))) (sym c.marks.ensures.marks)) c.marks_reply.ensures c.answer_text.ensures
