-- All of what is shown fit where all conditions do.
use Rattle.std.proofs.Common.{sym, ◌∙◌}
use Rattle.std.proofs.lemmas.List.Folds.{list_all-map}
use Rattle.pn_scan.specs.Queries.{is_condition, shown_condition}
use Rattle.pn_scan.proofs.condition.are_conditions.Goals as goal

pub returns : goal.returns
returns c = c.all_fit.ensures ∙ sym (list_all-map is_condition shown_condition c.args.conditions.now)
