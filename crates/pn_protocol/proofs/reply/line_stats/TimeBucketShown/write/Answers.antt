-- The members of a bucket follow one another.
use Rattle.pn_protocol.specs.Reply.Stats.{time_bucket_data}
use Rattle.pn_json.proofs.AppendedTexts.{appends_token, appends_both}
use Rattle.pn_protocol.proofs.reply.line_stats.TimeBucketShown.write.Goals as goal

pub returns : goal.returns
unfolding time_bucket_data
returns c =
    appends_both (appends_token c.in_ok-begin_object.ensures)
    (appends_both c.in_ok-write_number_member.ensures
    (appends_both c.in_ok-write_number_member-2.ensures (appends_token c.in_ok-end_object.ensures)))
