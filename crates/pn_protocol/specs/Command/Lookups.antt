-- The commands that ask for records, and for what changed.
use Rattle.std.specs.Prelude.{Option, Some, None, Result, Ok, Err, codes}
use Rattle.serde_json.specs.Data.{Data, Members}
use Rattle.serde_json.specs.Find.{get_member, as_str}
use Rattle.pn_json.specs.Answers.{fault_as, ◌>>=◌}
use Rattle.pn_json.specs.Members.{member_as}
use Rattle.pn_record.specs.Limits.{is_key}
use Rattle.pn_scan.specs.Queries.{QueryValue}
use Rattle.pn_scan.specs.QueryReading.{query_in}
use Rattle.pn_scan.specs.declared.query_json.QueryFault.{QueryFault}
use Rattle.pn_scan.specs.declared.query_json.QueryFault.TheVariants as query
use Rattle.pn_protocol.specs.declared.refusal.MemberName.TheVariants.{Query, Key, Keys, Since}
use Rattle.pn_protocol.specs.declared.refusal.Refusal.{Refusal}
use Rattle.pn_protocol.specs.declared.refusal.Refusal.TheVariants.{BadShape, OutOfRange, Memory}
use Rattle.pn_protocol.specs.Command.Meaning.{may_be_asked, CommandValue, notices, read, scan}
use Rattle.pn_protocol.specs.Command.Checks.{fits, keys_fit, fitting_version, keys_alone, named_alone, number_alone, version_shape}
use Rattle.pn_protocol.specs.Command.Words.{members_of}
use Rattle.pn_protocol.specs.declared.command.word.CommandWord.TheVariants.{Get, Notices, Read, Scan}
use Rattle.pn_protocol.specs.Command.Meaning as command

-- The query of a `scan` command: its shape is checked with the other members, its ranges after them.

-- the query of a member, or its fault; a missing one has the wrong shape
abbrev pub query_at : Option Data → Result QueryValue QueryFault
query_at None = Err query.BadShape
query_at (Some d) = query_in d

-- the refusal of a line for the fault of its query
abbrev pub query_refusal : QueryFault → Refusal
query_refusal query.BadShape = BadShape Query
query_refusal query.OutOfRange = OutOfRange Query
query_refusal query.Memory = Memory

-- it has the shape of a query, whatever its ranges
abbrev pub query_shape : Result QueryValue QueryFault → Result (Unit {0}) Refusal
query_shape (Err query.BadShape) = Err (BadShape Query)
query_shape reading = Ok tt

-- a query of that shape, in its ranges
abbrev pub fitting_query : Result QueryValue QueryFault → Result QueryValue Refusal
fitting_query reading = fault_as query_refusal reading

-- the line says the read of a key, a get of keys, or a scan
abbrev pub AsksForRecords : Result CommandValue Refusal → Type 0
AsksForRecords (Ok (command.get keys)) = Unit {0}
AsksForRecords (Ok (read key version)) = Unit {0}
AsksForRecords (Ok (scan query)) = Unit {0}
AsksForRecords said = ⊥

-- the keys of a `get` command
unfoldable pub get_in : Members → Result CommandValue Refusal
get_in members = do
  keys ← keys_alone (codes "keys") (members_of Get) Keys members
  fit ← keys_fit keys
  Ok (command.get keys)

-- the number after which a `notices` command asks
unfoldable pub notices_in : Members → Result CommandValue Refusal
notices_in members = do
  since ← number_alone (codes "since") (members_of Notices) Since members
  fit ← fits Since (may_be_asked since)
  Ok (notices since)

-- the key of a `read` command, and the version that is required, if one is
unfoldable pub read_in : Members → Result CommandValue Refusal
read_in members = do
  text ← member_as as_str (BadShape Key) (get_member (codes "key") members)
  numbers ← version_shape (get_member (codes "version") members)
  named ← named_alone (members_of Read) members
  fit ← fits Key (is_key text)
  version ← fitting_version numbers
  Ok (read text version)

-- the query of a `scan` command
unfoldable pub scan_in : Members → Result CommandValue Refusal
scan_in members = do
  shape ← query_shape (query_at (get_member (codes "query") members))
  named ← named_alone (members_of Scan) members
  query ← fitting_query (query_at (get_member (codes "query") members))
  Ok (scan query)
