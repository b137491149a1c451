-- The keys, the conditions and the limit of a query keep the limits.
use Rattle.std.proofs.Common.{◌≡◌, true, ◌&&◌, sym, ap, ◌∙◌}
use Rattle.std.proofs.lemmas.Bool.{and_from}
use Rattle.pn_scan.specs.Queries.{QueryValue, query_fits}
use Rattle.pn_tablet.specs.Layouts.{is_end}
use Rattle.pn_scan.proofs.query_json.members_value.Goals as goal

pub returns-clause-limits : goal.returns-clause-limits
returns-clause-limits c =
    let query : QueryValue = c.args.query.now in
    let after : is_end query.after ≡ true = ap is_end (sym c.after.ensures) ∙ c.in_ok-put_key.ensures.limits in
    let from : is_end query.from ≡ true = ap is_end (sym c.from.ensures) ∙ c.in_ok-put_key-2.ensures.limits in
    let to : is_end query.to ≡ true = ap is_end (sym c.to.ensures) ∙ c.in_ok-put_key-3.ensures.limits in
    let keys = and_from (is_end query.after && is_end query.from) (is_end query.to) (and_from (is_end query.after) (is_end query.from) after from) to in
    and_from (is_end query.after && is_end query.from && is_end query.to) (query_fits query.conditions query.limit) keys c.limit.ensures.fits
