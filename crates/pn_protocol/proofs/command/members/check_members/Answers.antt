use Rattle.std.proofs.Common.{sym, ◌∙◌}
use Rattle.serde_json.specs.View.{members_view}
use Rattle.pn_json.specs.Members.{texts}
use Rattle.pn_protocol.proofs.CommandLimits.{never_memory}
use Rattle.pn_protocol.proofs.command.members.check_members.Goals as goal

pub returns-clause-memory : goal.returns-clause-memory
returns-clause-memory c = λ is. never_memory (texts c.args.names.now) (members_view c.args.members.now.entries) (sym c.check_names.ensures.named ∙ is)
