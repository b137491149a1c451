-- What threads share of a server may go to another thread, and may be shared: what control sessions and the writer leave for each
-- other, counters, and faults of streams.
use denote.RattleType.{RattleType}
use denote.Param.Send.{IsSend, IsSync, sendable}
use denote.Param.SendFields.{declared_send, variants_send}
use denote.Struct.Record.{declared}
use Rattle.std.proofs.Crossing.{crosses}
use Rattle.pn_apply.proofs.Crossing.{share_send}
use Rattle.pn_record.proofs.Crossing.{cell_send, key_send, mark_table_send, record_table_send}
pub use Rattle.pn_record.proofs.Crossing.{name_send}
use Rattle.pn_tablet.specs.contracts.copy.TabletCopy as copy
use Rattle.pn_tablet.specs.contracts.copy_text.CopyText as copy_text
use Rattle.pn_scan.specs.contracts.view.Row as row
use Rattle.pn_region.specs.contracts.notices.Since as since
use Rattle.pn_protocol.specs.contracts.reply.PageReply as page
use Rattle.pn_protocol.specs.contracts.reply.Reply as reply
use Rattle.pn_serve.specs.contracts.control.commands.WriterCommand as command
use Rattle.pn_serve.specs.contracts.control.commands.WriterAnswer as answer
use Rattle.pn_serve.specs.contracts.control.answers.Question as question
use Rattle.pn_serve.specs.contracts.control.answers.GivenAnswer as given
use Rattle.pn_serve.specs.contracts.control.held_command.HeldCommand as held_command
use Rattle.pn_serve.specs.contracts.control.mailboxes.ControlMailbox as control_mailbox
use Rattle.pn_serve.specs.contracts.control.mailboxes.ControlMailboxes as controls
use Rattle.pn_serve.specs.contracts.server.times.Counter as counter
use Rattle.pn_serve.specs.contracts.server.shown_mark.ShownMark as shown_mark
use Rattle.pn_serve.specs.contracts.server.fault_log.StreamFailure as failure
use Rattle.pn_serve.specs.contracts.server.fault_log.FaultLog as faults
use Rattle.pn_serve.specs.contracts.server.messages.RoundShare as messages
use Rattle.pn_serve.specs.contracts.server.reports.Report as report
use Rattle.pn_serve.specs.contracts.server.held_report.HeldReport as held_report
use Rattle.pn_serve.specs.contracts.server.held_report.KeptReport as kept_report
use Rattle.pn_serve.specs.contracts.server.mailboxes.Mailbox as mailbox
use Rattle.pn_serve.specs.declared.server.publishers.Sending as sending
use Rattle.pn_serve.specs.contracts.server.reports.Reporter as reporter

copy_send : IsSend copy.the_row
copy_send = search (sendable, crosses, key_send, record_table_send, mark_table_send) depth 40 fits 20000

command_send : IsSend command.the_row
command_send = search (sendable, crosses, copy_send) depth 60 fits 20000

copy_text_send : IsSend copy_text.the_row
copy_text_send = search (sendable, crosses, copy_send) depth 60 fits 20000

row_send : IsSend row.the_row
row_send = search (sendable, crosses, key_send, cell_send) depth 40 fits 20000

page_send : IsSend page.the_row
page_send = search (sendable, crosses, row_send) depth 40 fits 20000

reply_send : IsSend reply.the_row
reply_send = variants_send reply.enum (
  (search (sendable, crosses) depth 40, tt),
  (
    (search (sendable, crosses) depth 40, tt),
    (
      (search (sendable, crosses, copy_text_send) depth 40, tt),
      (
        (search (sendable, crosses) depth 40, tt),
        (
          (search (sendable, crosses) depth 40, tt),
          (
            (search (sendable, crosses) depth 40, tt),
            (
              tt,
              (
                (search (sendable, crosses, page_send) depth 40, tt),
                (
                  (search (sendable, crosses, key_send) depth 40, (search (sendable, crosses, cell_send) depth 40, tt)),
                  (
                    (search (sendable, crosses, key_send) depth 40, (search (sendable, crosses, cell_send) depth 40, tt)),
                    (
                      (search (sendable, crosses) depth 40, tt),
                      (
                        (search (sendable, crosses) depth 40 fits 20000, tt),
                        (
                          (search (sendable, crosses) depth 40, tt),
                          tt,
                        ),
                      ),
                    ),
                  ),
                ),
              ),
            ),
          ),
        ),
      ),
    ),
  ),
)

since_send : IsSend since.the_row
since_send = search (sendable, crosses) depth 60 fits 20000

answer_send : IsSend answer.the_row
answer_send = variants_send answer.enum ((reply_send, tt), ((since_send, tt), tt))

question_send : IsSend question.the_row
question_send = search (sendable, crosses) depth 40

given_send : IsSend given.the_row
given_send = declared_send (declared given.struct _) (question_send, (answer_send, tt))

held_command_send : IsSend held_command.the_row
held_command_send = variants_send held_command.enum (tt, ((command_send, tt), (tt, ((given_send, tt), (tt, tt)))))

control_mailbox_send : IsSend control_mailbox.the_row
control_mailbox_send = search (sendable, crosses, held_command_send) depth 60 fits 20000

control_mailbox_sync : IsSync control_mailbox.the_row
control_mailbox_sync = search (sendable, crosses, held_command_send) depth 60 fits 20000

pub controls_send : IsSend controls.the_row
controls_send = search (sendable, crosses, control_mailbox_send) depth 60 fits 20000

pub controls_sync : IsSync controls.the_row
controls_sync = search (sendable, crosses, control_mailbox_sync) depth 60 fits 20000

pub counter_send : IsSend counter.the_row
counter_send = search (sendable, crosses) depth 40

pub counter_sync : IsSync counter.the_row
counter_sync = search (sendable, crosses) depth 40

pub shown_mark_send : IsSend shown_mark.the_row
shown_mark_send = search (sendable, crosses) depth 40

pub shown_mark_sync : IsSync shown_mark.the_row
shown_mark_sync = search (sendable, crosses) depth 40

failure_send : IsSend failure.the_row
failure_send = search (sendable, crosses, name_send) depth 40 fits 20000

pub faults_send : IsSend faults.the_row
faults_send = search (sendable, crosses, failure_send) depth 40 fits 20000

pub faults_sync : IsSync faults.the_row
faults_sync = search (sendable, crosses, failure_send) depth 40 fits 20000

messages_send : IsSend messages.the_row
messages_send = search (sendable, crosses, share_send) depth 40

report_send : IsSend report.the_row
report_send = variants_send report.enum ((messages_send, tt), ((name_send, tt), ((name_send, tt), tt)))

held_report_send : IsSend held_report.the_row
held_report_send = variants_send held_report.enum (tt, ((report_send, tt), (tt, tt)))

module _ (M : RattleType) (g : sending.Ghosts M.Denot) where
  kept_report_send : IsSend (kept_report.the_row M g)
  kept_report_send = declared_send (declared (kept_report.struct M g) _) (held_report_send, (search (sendable, crosses) depth 40 fits 20000, tt))

  mailbox_send : IsSend (mailbox.the_row M g)
  mailbox_send = search (sendable, crosses, kept_report_send) depth 60 fits 20000

  mailbox_sync : IsSync (mailbox.the_row M g)
  mailbox_sync = search (sendable, crosses, kept_report_send) depth 60 fits 20000

  pub reporter_send : IsSend (reporter.the_row M g)
  reporter_send = search (sendable, crosses, name_send, mailbox_send, mailbox_sync, counter_send, counter_sync) depth 60 fits 20000
