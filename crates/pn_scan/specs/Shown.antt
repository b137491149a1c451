-- Which records a query shows, a walk over some of them, and what looking at records counts for.
use Rattle.std.specs.Prelude.{◌≡◌, ◌≤◌, ◌<◌, ◌⊎◌, ℕ, Bool, ◌+◌, ◌-◌, ◌*◌, ◌/◌, ◌^◌, min, max, if◌then◌else◌, List, [], ◌∷◌, length, drop, Option, Some, None, true, ◌&&◌, filter, ◌++◌, take, nat_lt}
use Rattle.std.specs.FinMap.{keys}
use Rattle.std.specs.List.{list_any, sum_by}
use Rattle.pn_record.specs.Cells.{Entries}
use Rattle.pn_record.specs.Limits.{ContentValue, Field, FieldValue, number_value, text_value}
use Rattle.pn_record.specs.Sets.{CellValue}
use Rattle.pn_tablet.specs.Layouts.{is_below, is_from, is_before}
use Rattle.pn_scan.specs.Queries.{shows, ConditionValue, has, eq, lt, gt, prefix, QueryValue}
use Rattle.pn_scan.specs.declared.filter.ContentsLook.{ContentsLook}
use Rattle.pn_scan.specs.declared.walk.TheConstants.{COMPARED_BYTES, COMPARED_PAIRS, MAX_COMPARED, MAX_PART_WORK, UNIT_WORK}
use Rattle.pn_scan.specs.declared.walk.Place.{Place}
use Rattle.pn_scan.specs.declared.walk.WalkOutcome.{WalkOutcome}
use Rattle.pn_scan.specs.declared.walk.WalkOutcome.TheVariants.{All, To}

-- What looking at records counts for.

-- how many fields there are; a deletion has none
abbrev pub fields_in : Option (List Field) → ℕ
fields_in None = 0
fields_in (Some fields) = length fields

-- the bytes of a text
abbrev pub value_bytes : FieldValue → ℕ
value_bytes (number_value z) = 0
value_bytes (text_value text) = length text

-- the bytes of the text that a condition asks for, if it does
abbrev pub condition_bytes : ConditionValue → ℕ
condition_bytes (has name) = 0
condition_bytes (eq name asked) = value_bytes asked
condition_bytes (lt name asked) = value_bytes asked
condition_bytes (gt name asked) = value_bytes asked
condition_bytes (prefix name asked) = length asked

-- a content counts one, and one more for each few pairs of a condition and a field, and for each few bytes of the conditions' texts
abbrev pub content_work : List ConditionValue → Option (List Field) → ℕ
content_work conditions body =
    1 + min ((length conditions * fields_in body) / COMPARED_PAIRS + sum_by condition_bytes conditions / COMPARED_BYTES) MAX_COMPARED

-- contents count up to the first that meets the conditions
abbrev pub contents_work : List ConditionValue → List ContentValue → ℕ
contents_work conditions [] = 0
contents_work conditions (content ∷ contents) =
    content_work conditions content.0 + (if shows conditions content.0 then 0 else contents_work conditions contents)

-- each record counts one and its contents; of the first one, those from an index on
abbrev pub records_work : List ConditionValue → ℕ → Entries → ℕ
records_work conditions seen [] = 0
records_work conditions seen (row ∷ rows) = 1 + contents_work conditions (drop seen (keys row.1.1)) + records_work conditions 0 rows

-- one of the contents from an index on meets the conditions
abbrev pub shows_from : List ConditionValue → ℕ → List ContentValue → Bool
shows_from conditions seen contents = list_any (λ content. shows conditions content.0) (drop seen contents)

-- a look that began at an index came to know whether what is from there on shows; what that counts for is counted
abbrev pub Knows : (ℕ → Bool) → (ℕ → ℕ) → ℕ → ℕ → ℕ → ContentsLook → Type 0
Knows shows counts from most done look =
    (look.shows ≡ shows from) × (look.done ≡ done + counts from) × (look.done ≤ max most MAX_PART_WORK)

-- it stopped at an index, before which nothing shows; what was looked at counts no more than there was to do, or than one content. Where nothing
-- was compared before, it is further
abbrev pub Stops : (ℕ → Bool) → (ℕ → ℕ) → ℕ → ℕ → ℕ → ContentsLook → Type 0
Stops shows counts from most done look =
    (shows look.end ≡ shows from) × (done + counts from ≤ max most MAX_PART_WORK + counts look.end) × (done ≤ 1 → from < look.end)

-- how many whole units some work is, and one more for a rest, as far as that has 32 bits
abbrev pub units_in : ℕ → ℕ
units_in work = min ((work + (UNIT_WORK - 1)) / UNIT_WORK) (2 ^ 32 - 1)

-- Which records a query shows.

-- the key is above the one that is excluded, if there is one
abbrev pub is_after : Option (List ℕ) → List ℕ → Bool
is_after None key = true
is_after (Some after) key = is_below after key

-- the key is not below `from`, below `to` and above `after`
abbrev pub is_asked : QueryValue → List ℕ → Bool
is_asked query key = is_from query.from key && is_before query.to key && is_after query.after key

-- one of its contents has fields and meets every condition
abbrev pub has_shown : List ConditionValue → CellValue → Bool
has_shown conditions cell = list_any (λ content. shows conditions content.0) (keys cell.1)

-- the record is shown: its key is asked for, and one content does for all conditions
abbrev pub is_shown : QueryValue → List ℕ × CellValue → Bool
is_shown query row = is_asked query row.0 && has_shown query.conditions row.1

-- the records that are shown, in key order, each with its whole cell
abbrev pub shown_rows : QueryValue → Entries → Entries
shown_rows query cells = filter (is_shown query) cells

-- the same of the contents from an index on
abbrev pub is_shown_from : QueryValue → ℕ → List ℕ × CellValue → Bool
is_shown_from query seen row = is_asked query row.0 && shows_from query.conditions seen (keys row.1.1)

-- the records that are shown, where the first one is by its contents from an index on
abbrev pub rows_from : QueryValue → ℕ → Entries → Entries
rows_from query seen [] = []
rows_from query seen (row ∷ rows) = if is_shown_from query seen row then row ∷ shown_rows query rows else shown_rows query rows

-- A walk over some records.

-- the rows that are shown from a place on
abbrev pub place_rows : QueryValue → Entries → Place → Entries
place_rows query cells place = rows_from query place.seen (drop place.index cells)

-- what is left from a place on counts for this
abbrev pub place_work : QueryValue → Entries → Place → ℕ
place_work query cells place = records_work query.conditions place.seen (drop place.index cells)

-- the rows from a place on were added, as far as there is room, and `more` whether others are shown; or those before another place, all of
-- which have room
abbrev pub WalksTo : QueryValue → Entries → Place → ℕ → ℕ → Entries → Entries → WalkOutcome → Type 0
WalksTo query cells from work room before after (All more spent) =
    (after ≡ take room (before ++ place_rows query cells from))
    × (more ≡ nat_lt room (length (before ++ place_rows query cells from)))
    × (spent ≤ max work MAX_PART_WORK)
WalksTo query cells from work room before after (To end) =
    (after ++ place_rows query cells end ≡ before ++ place_rows query cells from)
    × (length after ≤ room)
    × (place_work query cells from ≤ place_work query cells end + max work MAX_PART_WORK)
    × (end.index < length cells)
    × (from.index ≤ end.index)
    × (0 < work → (from.index < end.index) ⊎ (from.seen < end.seen))
