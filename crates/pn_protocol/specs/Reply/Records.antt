-- Records as rows, and the replies that show records, pages and notices.
use Rattle.std.specs.Prelude.{ℕ, List, map, codes, Option, Some, None, zip, ◌++◌, true, option_map}
use Rattle.std.specs.FinMap.{keys}
use Rattle.serde_json.specs.Data.{Data, null, string, array, object, no_members, member, boolean, number, unsigned}
use Rattle.serde_json.specs.View.{items_of}
use Rattle.serde_json.specs.Written.{compact_text}
use Rattle.pn_record.specs.declared.cell.CellState.{CellState}
use Rattle.pn_record.specs.declared.cell.CellState.TheVariants.{One, Deleted, Conflict}
use Rattle.pn_record.specs.Sets.{CellValue, Stamp, state_of}
use Rattle.pn_record.specs.Writing.{version_data, content_data}
use Rattle.pn_scan.specs.Pages.{PageValue}
use Rattle.pn_scan.specs.Queries.{QueryValue}
use Rattle.pn_scan.specs.QueryReading.{query_data}
use Rattle.pn_region.specs.Log.{notices_from, changes_after, last_of}
use Rattle.pn_region.specs.declared.notices.Entry.{Entry}
use Rattle.pn_region.specs.declared.notices.Notice.{Notice}
use Rattle.pn_region.specs.declared.notices.Since.{Since}
use Rattle.pn_region.specs.declared.notices.Since.TheVariants.{Notices, Missed}

-- Records as rows, and versions that may be missing.

-- a state's name in lower case
abbrev pub state_word : CellState → List ℕ
state_word One = codes "one"
state_word Deleted = codes "deleted"
state_word Conflict = codes "conflict"

-- a row: all contents in content order, the key, the state and the version
unfoldable pub row_data : List ℕ × CellValue → Data
row_data entry =
    object (member (codes "contents") (array (items_of (map content_data (keys entry.1.1))))
    (member (codes "key") (string entry.0)
    (member (codes "state") (string (state_word (state_of entry.1)))
    (member (codes "version") (version_data entry.1.0) no_members))))

-- the version of a record, or null
abbrev pub version_or_null : Option Stamp → Data
version_or_null None = null
version_or_null (Some version) = version_data version

-- The replies that show the records of keys.

-- the row of a record, or null where there is none
abbrev pub row_or_null : List ℕ → Option CellValue → Data
row_or_null key None = null
row_or_null key (Some cell) = row_data (key, cell)

-- the reply to a read of a key: its row, or null
unfoldable pub read_data : List ℕ → Option CellValue → Data
read_data key cell = object (member (codes "row") (row_or_null key cell) no_members)

-- keys with their cells, each as a row or null
abbrev pub rows_or_nulls : List (List ℕ) → List (Option CellValue) → List Data
rows_or_nulls keys cells = map (λ found. row_or_null found.0 found.1) (zip keys cells)

-- the reply to a get of keys: their rows, or null
unfoldable pub get_data : List (List ℕ) → List (Option CellValue) → Data
get_data keys cells = object (member (codes "rows") (array (items_of (rows_or_nulls keys cells))) no_members)

-- The reply to a scan.

-- the query for the rest, or null if nothing is left
abbrev pub next_data : Option QueryValue → Data
next_data None = null
next_data (Some query) = query_data query

-- the reply to a scan: the query for the rest, and the rows of the page
unfoldable pub scan_data : PageValue → Data
scan_data page =
    object (member (codes "next") (next_data page.1)
    (member (codes "rows") (array (items_of (map row_data page.0))) no_members))

-- what the reply is before its rows
abbrev pub head_text : Option QueryValue → List ℕ
head_text next = codes "{\"next\":" ++ compact_text (next_data next) ++ codes ",\"rows\":["

-- Replies to `notices`.

-- a notice: the version after the change, the one before it or null, the key, and the number
unfoldable pub notice_data : Notice → Data
notice_data notice =
    object (member (codes "after") (version_data notice.change.after)
    (member (codes "before") (version_or_null notice.change.before)
    (member (codes "key") (string notice.change.key)
    (member (codes "number") (number (unsigned notice.number)) no_members))))

-- the last number, and the notices
unfoldable pub notices_data : ℕ → List Notice → Data
notices_data next list =
    object (member (codes "next") (number (unsigned next))
    (member (codes "notices") (array (items_of (map notice_data list))) no_members))

-- the last number, where notices were missed
unfoldable pub missed_data : ℕ → Data
missed_data next = object (member (codes "missed") (boolean true) (member (codes "next") (number (unsigned next)) no_members))

-- the reply for what the log answered
abbrev pub found_since : Since → Data
found_since (Notices next list) = notices_data next list.items
found_since (Missed next) = missed_data next

-- the reply with these notices, or that they were missed
abbrev pub since_as : ℕ → Option (List Notice) → Data
since_as next (Some list) = notices_data next list
since_as next None = missed_data next

-- the reply that a log of these entries gives after a number
abbrev pub since_data : List Entry → ℕ → Data
since_data entries n = since_as (last_of entries) (option_map (notices_from n) (changes_after entries n))
