-- Which tablets of a layout may have rows for a query, which of them a page visits, and the page of their rows.
use Rattle.std.specs.Prelude.{ℕ, ◌+◌, Bool, true, ◌&&◌, nat_lt, nat_le, List, [], length, filter, Option, Some, None, if◌then◌else◌, ◌∷◌, take, option_map, Result, Ok, Err}
use Rattle.std.specs.List.{flat_map, range_with_len, last_or}
use Rattle.std.specs.Option.{option_or}
use Rattle.pn_record.specs.Cells.{Entries}
use Rattle.pn_tablet.specs.Layouts.{Bounds, tablet_of, tablet_ends, is_below}
use Rattle.pn_tablet.specs.Tablets.{TabletStateValue}
use Rattle.pn_tablet.specs.declared.state.Status.{Status}
use Rattle.pn_tablet.specs.declared.state.Status.TheVariants.{Serving, Recovering}
use Rattle.pn_scan.specs.Queries.{QueryValue, query_after}
use Rattle.pn_scan.specs.Shown.{shown_rows}
use Rattle.pn_scan.specs.declared.view.ScanFault.{ScanFault}
use Rattle.pn_scan.specs.declared.view.ScanFault.TheVariants as fault

-- Which tablets of a layout may have rows for a query, and which of them a page visits.

-- a tablet by its number, and the state that it was found in, or none where the entry was refused
abbrev pub Look : Type 0
Look = ℕ × Option TabletStateValue

-- the cells of what was found
abbrev pub cells_in : Option TabletStateValue → Entries
cells_in None = []
cells_in (Some state) = state.cells

-- the tablet of a key, or the first where there is no key
abbrev pub first_tablet : Bounds → Option (List ℕ) → ℕ
first_tablet bounds None = 0
first_tablet bounds (Some key) = tablet_of bounds key

-- the lower bound, if there is one, is less than the end, if there is one
abbrev pub begins_before : Option (List ℕ) → Option (List ℕ) → Bool
begins_before None to = true
begins_before (Some from) None = true
begins_before (Some from) (Some to) = is_below from to

-- the tablet may have rows: it is not below those of `from` and `after`, and begins before `to`
abbrev pub is_candidate : Bounds → QueryValue → ℕ → Bool
is_candidate bounds query tablet = nat_le (first_tablet bounds query.from) tablet && nat_le (first_tablet bounds query.after) tablet && begins_before (tablet_ends bounds tablet).0 query.to

-- the numbers of the candidates, rising
abbrev pub candidates : Bounds → QueryValue → List ℕ
candidates bounds query = filter (is_candidate bounds query) (range_with_len 0 (length bounds + 1))

-- the rows that tablets show together
abbrev pub rows_in : QueryValue → List Look → Entries
rows_in query looks = shown_rows query (flat_map (λ look. cells_in look.1) looks)

-- the tablets below a number
abbrev pub looks_below : ℕ → List Look → List Look
looks_below tablet looks = filter (λ look. nat_lt look.0 tablet) looks

-- a candidate is visited where the candidates below it show at most a page of rows
abbrev pub is_visited : QueryValue → List Look → Look → Bool
is_visited query looks look = nat_le (length (rows_in query (looks_below look.0 looks))) query.limit

-- the looks into candidates
abbrev pub candidates_of : Bounds → QueryValue → List Look → List Look
candidates_of bounds query looks = filter (λ look. is_candidate bounds query look.0) looks

-- the looks into candidates that are visited
abbrev pub visited : Bounds → QueryValue → List Look → List Look
visited bounds query looks = filter (is_visited query (candidates_of bounds query looks)) (candidates_of bounds query looks)

-- Pages of the rows that a query shows of the tablets of a layout.

-- why nothing can be read of a tablet of this status: it is recovering
abbrev pub refusal_by : ℕ → Status → Option ScanFault
refusal_by tablet Serving = None
refusal_by tablet (Recovering need) = Some (fault.Recovering tablet)

-- why a look finds nothing: the entry was refused, or the tablet is recovering
abbrev pub refusal : Look → Option ScanFault
refusal (tablet, None) = Some fault.NoEntry
refusal (tablet, Some state) = refusal_by tablet state.status

-- the refusal of the first tablet that has one
abbrev pub first_refusal : List Look → Option ScanFault
first_refusal [] = None
first_refusal (look ∷ looks) = option_or (refusal look) (first_refusal looks)

-- the value, unless there is a fault
abbrev pub unless : {A : Type 0} → Option ScanFault → A → Result A ScanFault
unless None value = Ok value
unless (Some why) value = Err why

-- a page: its rows, and the query for the next page, if there is more
abbrev pub PageValue : Type 0
PageValue = Entries × Option QueryValue

-- the query for the records after the rows of a page
abbrev pub next_of : QueryValue → Entries → Option QueryValue
next_of query rows = option_map (λ row. query_after query row.0) (last_or None (take query.limit rows))

-- the first rows up to the limit, and the query for the next page exactly where there are more
abbrev pub first_page : QueryValue → Entries → PageValue
first_page query rows = (take query.limit rows, if nat_lt query.limit (length rows) then next_of query rows else None)

-- the page of a query: the first rows of all tablets together, unless one that is visited cannot be read
abbrev pub page_of : Bounds → QueryValue → List Look → Result PageValue ScanFault
page_of bounds query looks = unless (first_refusal (visited bounds query looks)) (first_page query (rows_in query looks))
