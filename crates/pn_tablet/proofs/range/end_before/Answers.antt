-- All keys are below the end where the number of lesser keys is that of all.
use Rattle.std.proofs.Common.{eqb, ◌∙◌, ap, sym}
use Rattle.std.specs.Option.{option_copied}
use Rattle.std.specs.Ordering.{is_lt}
use Rattle.pn_record.specs.Sets.{bytes_cmp}
use Rattle.pn_tablet.proofs.Within.{all_counted, all_before, all_before-none}
use Rattle.pn_tablet.proofs.range.end_before.Goals as goal

pub returns-in-Some : goal.returns-in-Some
returns-in-Some c =
    (λ i. eqb (c.lower_bound.ensures i) (c.len.ensures.count i))
    ∙ all_counted (λ entry. is_lt (bytes_cmp entry.0 c.in-Some.to.now)) c.args.cells.now
    ∙ ap (λ o. all_before o c.args.cells.now) (sym (ap option_copied c.in-Some.is))

pub returns-in-None : goal.returns-in-None
returns-in-None c = all_before-none (option_copied c.args.to) c.args.cells.now (ap option_copied c.in-None.is)
