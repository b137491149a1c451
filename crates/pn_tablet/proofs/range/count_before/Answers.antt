-- All keys lie before the end of a range that is open there.
use Rattle.std.proofs.Common.{count_by, ap, sym, ◌∙◌}
use Rattle.std.specs.Option.{option_copied}
use Rattle.pn_tablet.specs.Layouts.{is_before}
use Rattle.pn_tablet.proofs.Within.{all_come_before}
use Rattle.pn_tablet.proofs.range.count_before.Goals as goal

pub returns-in-None : goal.returns-in-None
returns-in-None c = c.len.ensures.count ∙ all_come_before c.args.cells.now ∙ ap (λ to. count_by (λ entry. is_before to entry.0) c.args.cells.now) (sym (ap option_copied c.in-None.is))
