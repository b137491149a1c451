-- The reply to `stats`.
use Rattle.std.specs.Prelude.{ℕ, List, codes, map, Option, Some, None, String, string_bytes}
use Rattle.std.specs.declared.alloc.Global.{Global}
use Rattle.serde_json.specs.Data.{Data, number, object, unsigned, Members, no_members, member, array, null, string}
use Rattle.serde_json.specs.View.{items_of}
use Rattle.pn_protocol.specs.declared.reply.line_stats.LineCounts.{LineCounts}
use Rattle.pn_protocol.specs.declared.reply.line_stats.LineKinds.{LineKinds}
use Rattle.pn_protocol.specs.declared.reply.line_stats.LineStats.{LineStats}
use Rattle.pn_protocol.specs.declared.reply.line_stats.TimeBucket.{TimeBucket}
use Rattle.pn_protocol.specs.declared.reply.line_stats.TimeCounts.{TimeCounts}
use Rattle.pn_protocol.specs.declared.reply.line_stats.TimeStats.{TimeStats}
use Rattle.pn_protocol.specs.declared.reply.line_stats.UnreadStats.{UnreadStats}
use Rattle.pn_protocol.specs.declared.reply.stats.ConnectionStats.{ConnectionStats}
use Rattle.pn_protocol.specs.declared.reply.stats.Stats.{Stats}
use Rattle.pn_protocol.specs.declared.reply.stats.StreamFaultStats.{StreamFaultStats}
use Rattle.pn_protocol.specs.declared.reply.stats.StreamState.{StreamState}
use Rattle.pn_protocol.specs.declared.reply.stats.StreamState.TheVariants.{Waiting, Open, Ended, Failed}
use Rattle.pn_protocol.specs.declared.reply.stats.StreamStats.{StreamStats}
use Rattle.pn_protocol.specs.declared.reply.stats.TabletStats.{TabletStats}

-- The lines of clients in the reply to `stats`.

-- a number, before the other members
abbrev pub count : List ℕ → ℕ → Members → Members
count name value others = member name (number (unsigned value)) others

-- how many lines were answered, and how many of them were refused
unfoldable pub line_counts_data : LineCounts → Data
line_counts_data counts = object (count (codes "answered") counts.answered (count (codes "refused") counts.refused no_members))

-- the lines of each kind
unfoldable pub line_kinds_data : LineKinds → Data
line_kinds_data kinds =
    object (member (codes "copy") (line_counts_data kinds.copy)
    (member (codes "get") (line_counts_data kinds.get)
    (member (codes "other") (line_counts_data kinds.other)
    (member (codes "read") (line_counts_data kinds.read)
    (member (codes "scan") (line_counts_data kinds.scan) no_members)))))

-- all lines, and those of each kind
unfoldable pub lines_data : LineStats → Data
lines_data lines =
    object (count (codes "answered") lines.all.answered
    (member (codes "kinds") (line_kinds_data lines.kinds)
    (count (codes "refused") lines.all.refused no_members)))

-- How long lines and rounds took, in the reply to `stats`.

-- how many took at most a number of microseconds, but more than those of the bucket before
unfoldable pub time_bucket_data : TimeBucket → Data
time_bucket_data bucket = object (count (codes "count") bucket.count (count (codes "most") bucket.most no_members))

-- how many took how long, how many there were, and how many microseconds they took together
unfoldable pub time_counts_data : TimeCounts → Data
time_counts_data times =
    object (member (codes "buckets") (array (items_of (map time_bucket_data times.buckets.items)))
    (count (codes "count") times.count
    (count (codes "total") times.total no_members)))

-- how long lines took, and how long rounds
unfoldable pub times_data : TimeStats → Data
times_data times =
    object (member (codes "lines") (time_counts_data times.lines)
    (member (codes "rounds") (time_counts_data times.rounds) no_members))

-- The records that unread replies keep, in the reply to `stats`.

-- the bytes of these records, the clients that were ended, and the limit
unfoldable pub unread_data : UnreadStats → Data
unread_data unread =
    object (count (codes "bytes") unread.bytes
    (count (codes "ended") unread.ended
    (count (codes "limit") unread.limit no_members)))

-- the word of a stream's state
abbrev pub state_word : StreamState → List ℕ
state_word Waiting = codes "waiting"
state_word Open = codes "open"
state_word Ended = codes "ended"
state_word Failed = codes "failed"

-- a number, or null where there is none
abbrev pub number_or_null : Option ℕ → Data
number_or_null None = null
number_or_null (Some value) = number (unsigned value)

-- a text, or null where there is none
abbrev pub text_or_null : Option (String Global) → Data
text_or_null None = null
text_or_null (Some text) = string (string_bytes text)

-- the line of a fault, or null where there was none
abbrev pub fault_line : Option StreamFaultStats → Data
fault_line None = null
fault_line (Some fault) = number (unsigned fault.line)

-- what a fault is, or null where there was none
abbrev pub fault_reason : Option StreamFaultStats → Data
fault_reason None = null
fault_reason (Some fault) = string (string_bytes fault.reason)

-- the connections of a server
unfoldable pub connections_data : ConnectionStats → Data
connections_data connections =
    object (count (codes "accepted") connections.accepted
    (count (codes "idle") connections.idle
    (count (codes "open") connections.open
    (count (codes "refused") connections.refused no_members))))

-- a stream of it
unfoldable pub stream_data : StreamStats → Data
stream_data stream =
    object (count (codes "bytes") stream.bytes
    (member (codes "heard") (number_or_null stream.heard)
    (member (codes "line") (fault_line stream.fault)
    (count (codes "messages") stream.messages
    (member (codes "name") (string stream.name)
    (member (codes "newest") (number_or_null stream.newest)
    (member (codes "path") (string (string_bytes stream.path))
    (count (codes "position") stream.position
    (member (codes "reason") (fault_reason stream.fault)
    (member (codes "since") (number_or_null stream.since)
    (member (codes "state") (string (state_word stream.state))
    (member (codes "stream") (text_or_null stream.stream) no_members))))))))))))

-- the records of a tablet
unfoldable pub tablet_data : TabletStats → Data
tablet_data tablet = object (count (codes "deleted") tablet.deleted (count (codes "records") tablet.records no_members))

-- what a server has done so far
unfoldable pub stats_data : Stats → Data
stats_data stats =
    object (count (codes "bytes") stats.bytes
    (member (codes "connections") (connections_data stats.connections)
    (member (codes "lines") (lines_data stats.lines)
    (count (codes "rounds") stats.rounds
    (member (codes "streams") (array (items_of (map stream_data stats.streams.items)))
    (member (codes "tablets") (array (items_of (map tablet_data stats.tablets.items)))
    (member (codes "times") (times_data stats.times)
    (member (codes "unread") (unread_data stats.unread)
    (count (codes "uptime") stats.uptime
    (member (codes "version") (string stats.version.now) no_members))))))))))
