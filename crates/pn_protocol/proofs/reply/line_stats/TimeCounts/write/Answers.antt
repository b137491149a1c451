-- The members of the counts follow one another.
use Rattle.std.proofs.Common.{List, codes, map}
use Rattle.serde_json.specs.Data.{Data, array, object, member, no_members}
use Rattle.serde_json.specs.View.{items_of}
use Rattle.pn_protocol.specs.declared.reply.line_stats.TimeBucket.{TimeBucket}
use Rattle.pn_protocol.specs.declared.reply.line_stats.TimeCounts.{TimeCounts}
use Rattle.pn_protocol.specs.Reply.Stats.{count, time_bucket_data, time_counts_data}
use Rattle.pn_json.specs.Tokens.{value_tokens}
use Rattle.pn_json.proofs.AppendedTexts.{appends_token, appends_both, appends_as}
use Rattle.pn_protocol.proofs.reply.line_stats.TimeCounts.write.Goals as goal

-- how many took how long, with these buckets
abbrev counts_of : TimeCounts → List TimeBucket → Data
counts_of times buckets =
    object (member (codes "buckets") (array (items_of (map time_bucket_data buckets)))
    (count (codes "count") times.count
    (count (codes "total") times.total no_members)))

pub returns : goal.returns
unfolding time_counts_data
returns c =
    appends_as (λ i. value_tokens (counts_of c.args.self.now (c.deref.ensures.value i)))
    (appends_both (appends_token c.in_ok-begin_object.ensures)
    (appends_both (appends_token c.in_ok-key.ensures)
    (appends_both c.in_ok-write_array.ensures
    (appends_both c.in_ok-write_number_member.ensures
    (appends_both c.in_ok-write_number_member-2.ensures (appends_token c.in_ok-end_object.ensures))))))
