-- No key lies below a range that is open there.
use Rattle.std.proofs.Common.{not, count_by, ap, sym, ◌∙◌}
use Rattle.std.specs.Option.{option_copied}
use Rattle.pn_tablet.specs.Layouts.{is_from}
use Rattle.pn_tablet.proofs.Within.{none_below}
use Rattle.pn_tablet.proofs.range.count_below.Goals as goal

pub returns-in-None : goal.returns-in-None
returns-in-None c = none_below c.args.cells.now ∙ ap (λ from. count_by (λ entry. not (is_from from entry.0)) c.args.cells.now) (sym (ap option_copied c.in-None.is))
