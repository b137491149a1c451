-- One value more is written, and at the end all.
use Rattle.std.proofs.Common.{map, ap}
use Rattle.std.proofs.lemmas.List.{take_all}
use Rattle.pn_json.specs.Tokens.{value_tokens, values_tokens}
use Rattle.pn_json.proofs.AppendedTexts.{appends_none, appends_token, appends_both, appends_as, whole_array, one_more}
use Rattle.pn_protocol.proofs.reply.scan.write_array.Goals as goal

pub loop-item-init : goal.loop-item-init
loop-item-init g c = appends_none _

pub loop-item-preserved : goal.loop-item-preserved
loop-item-preserved g c =
    appends_as (one_more g.T.Shown.value value_tokens c.args.list.now c.loop-item.item-index c.item-item.result c.item-item.is c.loop-item-test.true)
    (appends_both c.loop-item.invariant c.in_ok-write.ensures)

pub returns : goal.returns
returns g c =
    let list = c.args.list.now in
    let all = ap (λ xs. values_tokens (map g.T.Shown.value xs)) (take_all c.loop-item.item-index list c.loop-item-test.false) in
    whole_array (map g.T.Shown.value list) (appends_token c.in_ok-begin_array.ensures) (appends_as all c.loop-item.invariant) (appends_token c.in_ok-end_array.ensures)
