use Rattle.pn_record.proofs.MarksValues.{put_next_shown}
use Rattle.pn_record.proofs.as_json.write.fields_value.Goals as goal

pub loop-name-preserved : goal.loop-name-preserved
loop-name-preserved c =
    let next = put_next_shown c.args.fields.now c.loop-name.name-index c.loop-name-item.result c.loop-name-test.true c.loop-name-item.is c.requires in
    cc (c.in_ok-put.ensures.ok, c.in_ok-value.ensures, c.as_ref.ensures, c.as_str.ensures.value, c.loop-name.invariant)
