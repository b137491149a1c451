-- The members follow one another.
use Rattle.std.proofs.Common.{List, codes, map}
use Rattle.serde_json.specs.Data.{Data, array, object, string, member, no_members}
use Rattle.serde_json.specs.View.{items_of}
use Rattle.pn_protocol.specs.declared.reply.stats.Stats.{Stats}
use Rattle.pn_protocol.specs.declared.reply.stats.StreamStats.{StreamStats}
use Rattle.pn_protocol.specs.declared.reply.stats.TabletStats.{TabletStats}
use Rattle.pn_protocol.specs.Reply.Stats.{count, lines_data, connections_data, stats_data, stream_data, tablet_data, times_data, unread_data}
use Rattle.pn_json.specs.Tokens.{value_tokens}
use Rattle.pn_json.proofs.AppendedTexts.{appends_token, appends_both, appends_as}
use Rattle.pn_protocol.proofs.reply.stats.StatsShown.write.Goals as goal

-- what a server has done so far, with these streams and tablets
abbrev stats_of : Stats → List StreamStats → List TabletStats → Data
stats_of stats streams tablets =
    object (count (codes "bytes") stats.bytes
    (member (codes "connections") (connections_data stats.connections)
    (member (codes "lines") (lines_data stats.lines)
    (count (codes "rounds") stats.rounds
    (member (codes "streams") (array (items_of (map stream_data streams)))
    (member (codes "tablets") (array (items_of (map tablet_data tablets)))
    (member (codes "times") (times_data stats.times)
    (member (codes "unread") (unread_data stats.unread)
    (count (codes "uptime") stats.uptime
    (member (codes "version") (string stats.version.now) no_members))))))))))

pub returns : goal.returns
unfolding stats_data connections_data lines_data times_data unread_data
returns c =
    appends_as (λ i. value_tokens (stats_of c.args.self.now (c.deref.ensures.value i) (c.deref-2.ensures.value i)))
    (appends_both (appends_token c.in_ok-begin_object.ensures)
    (appends_both c.in_ok-write_number_member.ensures
    (appends_both (appends_token c.in_ok-key.ensures)
    (appends_both c.in_ok-write.ensures
    (appends_both (appends_token c.in_ok-key-2.ensures)
    (appends_both c.in_ok-write-2.ensures
    (appends_both c.in_ok-write_number_member-2.ensures
    (appends_both (appends_token c.in_ok-key-3.ensures)
    (appends_both c.in_ok-write_array.ensures
    (appends_both (appends_token c.in_ok-key-4.ensures)
    (appends_both c.in_ok-write_array-2.ensures
    (appends_both (appends_token c.in_ok-key-5.ensures)
    (appends_both c.in_ok-write-3.ensures
    (appends_both (appends_token c.in_ok-key-6.ensures)
    (appends_both c.in_ok-write-4.ensures
    (appends_both c.in_ok-write_number_member-3.ensures
    (appends_both c.in_ok-write_text_member.ensures (appends_token c.in_ok-end_object.ensures))))))))))))))))))
