-- One more command was done.
use Rattle.std.proofs.Common.{refl, ◌∙◌}
use Rattle.pn_serve.specs.Control.Commands.{answer_of}
use Rattle.pn_serve.proofs.EventsRead.{none_told, one_told}
use Rattle.pn_serve.proofs.control.mailboxes.ControlMailboxes.obey_all.Goals as goal

pub loop-mailbox-init : goal.loop-mailbox-init
loop-mailbox-init g c = record { told = λ at_fault names waiting. none_told at_fault names waiting c.args.live.now; same = refl }

pub loop-mailbox-preserved : goal.loop-mailbox-preserved
loop-mailbox-preserved g c = record {
  told = λ at_fault names waiting. one_told at_fault names waiting c.args.live.now c.loop-mailbox.live c.give_answer-answer.new.live c.in-Some.command (answer_of c.give_answer-answer.result.answer)
      (c.loop-mailbox.invariant.told at_fault names waiting) c.give_answer-answer.ensures.obeys;
  same = c.give_answer-answer.ensures.same ∙ c.loop-mailbox.invariant.same;
}
