-- The message of the value that was read is that of the line.
use Rattle.pn_json.proofs.LookUps.{right_same}
use Rattle.pn_record.proofs.ImageLines.{found_in_line, right_of_line, long_by_reading}
use Rattle.pn_stream.specs.Messages.{IsMessage, message_in, message_at}
use Rattle.pn_stream.proofs.SameMessage.{message_line_again}
use Rattle.pn_stream.proofs.message.read_message.Goals as goal

pub returns-clause-found : goal.returns-clause-found
returns-clause-found c = found_in_line IsMessage message_in _ _ _ c.read_value.ensures.exact c.message_read.ensures.found c.message_read.ensures.unread

pub returns-clause-exact : goal.returns-clause-exact
unfolding message_at
returns-clause-exact c = right_of_line IsMessage message_in _ _ _ c.read_value.ensures.exact c.message_read.ensures.exact c.message_read.ensures.unread

pub returns-clause-only : goal.returns-clause-only
returns-clause-only c = λ message is. right_same _ _ _ _ _ (returns-clause-exact c) (message_line_again _ message is)

pub returns-clause-too_long : goal.returns-clause-too_long
returns-clause-too_long c = long_by_reading IsMessage message_in c.args.line.now _ _ _ c.read_value.ensures.too_long c.message_read.ensures.faults c.message_read.ensures.unread
