-- A name comes after all others where the number of lesser names is that of all.
use Rattle.std.proofs.Common.{eqb, ◌∙◌}
use Rattle.std.specs.Ordering.{is_lt}
use Rattle.pn_join.specs.Marks.{name_cmp}
use Rattle.pn_tablet.proofs.Within.{all_counted}
use Rattle.pn_tablet.proofs.copy_draft.is_after_all.Goals as goal

pub returns : goal.returns
returns c =
    (λ i. eqb (c.lower_bound.ensures i) (c.len.ensures.count i))
    ∙ all_counted (λ other. is_lt (name_cmp other.0 c.args.name.now)) c.args.marks.now
