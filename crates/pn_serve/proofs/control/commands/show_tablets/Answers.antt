-- The tablets are shown.
use Rattle.std.proofs.Common.{refl}
use Rattle.pn_json.specs.Tokens.{line_of}
use Rattle.pn_live.specs.LiveRegions.{core}
use Rattle.pn_protocol.specs.Reply.Short.{tablets_data}
use Rattle.pn_serve.specs.declared.control.commands.WriterCommand.TheVariants as commands
use Rattle.pn_serve.proofs.Obeying.{shows}
use Rattle.pn_serve.proofs.control.commands.show_tablets.Goals as goal

pub returns : goal.returns
returns c = shows c.args.live.now commands.Tablets (line_of (tablets_data (core c.args.live.now).tablets)) c.tablets_reply.result c.answer_text.result refl refl c.tablets_reply.ensures c.answer_text.ensures
