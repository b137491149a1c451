-- Replies of fixed texts, names and numbers, those that show the tablets, and how far streams were taken.
use Rattle.std.specs.Prelude.{ℕ, List, ◌++◌, codes, decimal, map, Option, Some, None}
use Rattle.serde_json.specs.Data.{Data, number, string, object, unsigned, Members, no_members, member, null, array}
use Rattle.serde_json.specs.View.{items_of}
use Rattle.pn_join.specs.Marks.{Positions}
use Rattle.pn_record.specs.Grammar.{word_of}
use Rattle.pn_record.specs.Marks.{marks_data}
use Rattle.pn_tablet.specs.Tablets.{TabletStateValue}
use Rattle.pn_tablet.specs.declared.state.Status.{Status}
use Rattle.pn_tablet.specs.declared.state.Status.TheVariants.{Serving, Recovering}
use Rattle.pn_protocol.specs.declared.refusal.MemberName.{MemberName}
use Rattle.pn_protocol.specs.declared.refusal.MemberName.TheVariants.{Whole, Do, Batches, Bounds, First, Images, Key, Keys, Lines, Need, Stream, Query, Seconds, Since, Tablet, Version, Wait, Other, Image}
use Rattle.pn_protocol.specs.declared.refusal.Refusal.{Refusal}
use Rattle.pn_protocol.specs.declared.refusal.Refusal.TheVariants.{TooLong, NotJson, BadShape, ReadOnly, OutOfRange, Memory}
use Rattle.pn_protocol.specs.declared.reply.short.NumberName.{NumberName}
use Rattle.pn_protocol.specs.Reply.Faults.{error_data}
use Rattle.pn_protocol.specs.declared.reply.short.NumberName.TheVariants as name

-- Replies of fixed texts, names and numbers, as JSON values.

-- the member's name in lower case, or the name of the image's member
abbrev pub member_word : MemberName → List ℕ
member_word Whole = codes "whole"
member_word Do = codes "do"
member_word Batches = codes "batches"
member_word Bounds = codes "bounds"
member_word First = codes "first"
member_word Images = codes "images"
member_word Key = codes "key"
member_word Keys = codes "keys"
member_word Lines = codes "lines"
member_word Need = codes "need"
member_word Stream = codes "stream"
member_word Query = codes "query"
member_word Seconds = codes "seconds"
member_word Since = codes "since"
member_word Tablet = codes "tablet"
member_word Version = codes "version"
member_word Wait = codes "wait"
member_word Other = codes "other"
member_word (Image member_name) = word_of member_name

-- the member at fault
abbrev pub about_member : MemberName → Members
about_member member_name = member (codes "member") (string (member_word member_name)) no_members

-- the reply to a line that was refused
unfoldable pub refusal_data : Refusal → Data
refusal_data TooLong = error_data (codes "too-long") no_members
refusal_data NotJson = error_data (codes "not-json") no_members
refusal_data (BadShape member_name) = error_data (codes "bad-shape") (about_member member_name)
refusal_data ReadOnly = error_data (codes "read-only") no_members
refusal_data (OutOfRange member_name) = error_data (codes "out-of-range") (about_member member_name)
refusal_data Memory = error_data (codes "memory") no_members

-- a number, as the one member of an object
unfoldable pub number_data : List ℕ → ℕ → Data
number_data name count = object (member name (number (unsigned count)) no_members)

-- the reply to a delivery: how many records it changed
abbrev pub changed_data : ℕ → Data
changed_data count = number_data (codes "changed") count

-- the reply to an adoption: the tablet that took the copy
abbrev pub adopted_data : ℕ → Data
adopted_data tablet = number_data (codes "adopted") tablet

-- the reply to a loss: the tablet
abbrev pub lost_data : ℕ → Data
lost_data tablet = number_data (codes "lost") tablet

-- the line before a copy: how many lines follow
abbrev pub lines_data : ℕ → Data
lines_data count = number_data (codes "lines") count

-- the reply to a change of layout: how many tablets there are
abbrev pub relaid_data : ℕ → Data
relaid_data count = number_data (codes "tablets") count

-- the reply to a stop: after how many seconds at most the server ends
abbrev pub stopping_data : ℕ → Data
stopping_data seconds = number_data (codes "stopping") seconds

-- the reply of one number
abbrev pub number_reply_data : NumberName → ℕ → Data
number_reply_data name.Adopted tablet = adopted_data tablet
number_reply_data name.Changed count = changed_data count
number_reply_data name.Lines count = lines_data count
number_reply_data name.Lost tablet = lost_data tablet
number_reply_data name.Stopping seconds = stopping_data seconds
number_reply_data name.Tablets count = relaid_data count

-- the last line of a server: `served` and the number of sessions
abbrev pub served_line : ℕ → List ℕ
served_line sessions = (codes "served " ++ decimal sessions) ++ codes "\n"

-- The replies that show the tablets, and how far streams were taken.

-- an end of a range, or null where it has none
abbrev pub end_data : Option (List ℕ) → Data
end_data None = null
end_data (Some key) = string key

-- what a tablet needs, or null where it serves
abbrev pub need_data : Status → Data
need_data Serving = null
need_data (Recovering need) = marks_data need

-- a tablet: its cover, its first key, what it needs, and the first key past it
unfoldable pub tablet_data : TabletStateValue → Data
tablet_data tablet =
    object (member (codes "cover") (marks_data tablet.cover)
    (member (codes "from") (end_data tablet.range.0)
    (member (codes "need") (need_data tablet.status)
    (member (codes "to") (end_data tablet.range.1) no_members))))

-- all tablets, in their order
unfoldable pub tablets_data : List TabletStateValue → Data
tablets_data tablets = object (member (codes "tablets") (array (items_of (map tablet_data tablets))) no_members)

-- how far streams were taken
unfoldable pub marks_reply_data : Positions → Data
marks_reply_data marks = object (member (codes "marks") (marks_data marks) no_members)
