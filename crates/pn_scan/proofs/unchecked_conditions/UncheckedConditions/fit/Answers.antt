-- The values keep the limits where the conditions do.
use Rattle.std.proofs.Common.{sym, ◌∙◌}
use Rattle.pn_scan.proofs.Conditions.{fit_all}
use Rattle.pn_scan.proofs.unchecked_conditions.UncheckedConditions.fit.Goals as goal

pub returns : goal.returns
returns c = c.self.invariant.fits ∙ fit_all c.self.inside.values.now c.args.self.now (sym c.self.view_is) c.self.invariant.all
