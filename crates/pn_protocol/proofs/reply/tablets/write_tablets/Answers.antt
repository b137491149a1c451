-- One tablet more is written, and at the end all.
use Rattle.std.proofs.Common.{◌≤◌, List, length, map, ap, arith}
use Rattle.std.proofs.lemmas.List.{take_all}
use Rattle.pn_tablet.specs.Tablets.{TabletStateValue}
use Rattle.pn_protocol.specs.Reply.Short.{tablet_data}
use Rattle.pn_json.specs.Tokens.{values_tokens}
use Rattle.pn_json.proofs.AppendedTexts.{appends_none, appends_token, appends_both, appends_as, whole_array, one_more_item}
use Rattle.pn_protocol.proofs.reply.tablets.write_tablets.Goals as goal

pub loop-number-init : goal.loop-number-init
loop-number-init g c = appends_none _

pub loop-number-preserved : goal.loop-number-preserved
loop-number-preserved g c =
    let tablets = g.T.ShownTablets.tablets c.args.region.now in
    appends_as (one_more_item tablet_data tablets c.loop-number.number c.tablet.result.now c.tablet.ensures) (appends_both c.loop-number.invariant c.in_ok-write_tablet.ensures)

pub returns : goal.returns
returns g c =
    let tablets = g.T.ShownTablets.tablets c.args.region.now in
    let passed : length tablets ≤ c.loop-number.number = omega (arith, c.count-number-end.ensures) in
    let all = ap (λ (ts : List TabletStateValue). values_tokens (map tablet_data ts)) (take_all c.loop-number.number tablets passed) in
    whole_array (map tablet_data tablets) (appends_token c.in_ok-begin_array.ensures) (appends_as all c.loop-number.invariant) (appends_token c.in_ok-end_array.ensures)
