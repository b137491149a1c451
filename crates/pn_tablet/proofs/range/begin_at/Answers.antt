-- Where there is no end all keys pass.
use Rattle.std.proofs.Common.{ap}
use Rattle.std.specs.Option.{option_copied}
use Rattle.pn_tablet.proofs.Within.{all_from-none}
use Rattle.pn_tablet.proofs.range.begin_at.Goals as goal

pub returns-in-None : goal.returns-in-None
returns-in-None c = all_from-none (option_copied c.args.from) c.args.cells.now (ap option_copied c.in-None.is)
