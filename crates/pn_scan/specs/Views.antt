-- Reads and pages over what looks into tablets found, each at one moment of its own, and pages one after another.
use Rattle.std.specs.Prelude.{◌≡◌, ℕ, Bool, true, false, nat_lt, List, [], ◌∷◌, length, take, slice_get, Option, Some, None, Result, Ok, Err, IsTrue, ◌<◌, ◌≤◌, ◌⊎◌, map, OnOk, OnErr, not, if◌then◌else◌, zip, IsOk, ◌+◌}
use Rattle.std.specs.FinMap.{find}
use Rattle.std.specs.List.{AllByRecursion, flat_map, range_with_len}
use Rattle.std.specs.Ordering.{is_lt}
use Rattle.pn_json.specs.Answers.{◌>>=◌}
use Rattle.pn_record.specs.Cells.{Entries}
use Rattle.pn_record.specs.Sets.{bytes_cmp, version_cmp, CellValue, Stamp}
use Rattle.pn_tablet.specs.Steps.{IsSpelled, Refuses, version_at}
use Rattle.pn_tablet.specs.Layouts.{Bounds, tablet_ends, tablet_of}
use Rattle.pn_tablet.specs.Tablets.{TabletStateValue, lie_in}
use Rattle.pn_scan.specs.Queries.{QueryValue}
use Rattle.pn_scan.specs.Shown.{shown_rows}
use Rattle.pn_scan.specs.Pages.{Look, cells_in, candidates, rows_in, visited, refusal, unless, first_refusal, PageValue, page_of}
use Rattle.pn_scan.specs.declared.view.ScanFault.{ScanFault}
use Rattle.pn_scan.specs.declared.view.ScanFault.TheVariants as fault

-- Reads of tablets one after another, each at one moment of its own.

-- the state is that of a tablet of the layout: its keys lie in the tablet's range, and its cells are those of images
pub record IsStateOf (bounds : Bounds) (tablet : ℕ) (state : TabletStateValue) : Type 0 where
  pub range : state.range ≡ tablet_ends bounds tablet
  pub inside : IsTrue (lie_in state.range state.cells)
  pub spelled : IsSpelled state.cells

-- what was found, if anything was, is a state of the tablet
abbrev pub IsFoundIn : Bounds → Look → Type 0
IsFoundIn bounds (tablet, None) = Unit {0}
IsFoundIn bounds (tablet, Some state) = IsStateOf bounds tablet state

-- the fault is out of memory
abbrev pub is_memory : ScanFault → Bool
is_memory fault.Memory = true
is_memory _ = false

-- the answer, under `show`, is the right one, or out of memory where there is no other fault
abbrev pub Answers : {A B : Type 0} → (A → B) → Result A ScanFault → Result B ScanFault → Type 0
Answers show (Ok value) right = right ≡ Ok (show value)
Answers show (Err why) right = Refuses is_memory why right

-- the first rows that a tablet shows, and whether it shows more
abbrev pub rows_at : QueryValue → ℕ → Look → Result (Entries × Bool) ScanFault
rows_at query room look = unless (refusal look) (take room (shown_rows query (cells_in look.1)), nat_lt room (length (shown_rows query (cells_in look.1))))

-- the cell of a key in a tablet, if it has one
abbrev pub cell_at : List ℕ → Look → Result (Option CellValue) ScanFault
cell_at key look = unless (refusal look) (find bytes_cmp key (cells_in look.1))

-- an answer of one look into a tablet: the view looked, and the answer is the right one for what it found
pub record LooksOnce {V A B : Type 0} (looks : V → Look → V → Type 0) (bounds : Bounds) (old new : V) (show : A → B) (answer : Result A ScanFault) (right : Look → Result B ScanFault) (look : Look) : Type 0 where
  pub looked : looks old look new
  pub found : IsFoundIn bounds look
  pub answers : Answers show answer (right look)

-- the view looked into one tablet after another
abbrev pub Looks : {V : Type 0} → (V → Look → V → Type 0) → V → List Look → V → Type 0
Looks looks old [] new = new ≡ old
Looks {V} looks old (look ∷ more) new = (between : V) × looks old look between × Looks looks between more new

-- a view of tablets that stay: it finds the tablet of the number, and stays as it is
abbrev pub LooksAt : {V : Type 0} → (V → List TabletStateValue) → V → Look → V → Type 0
LooksAt tablets old look new = (slice_get (tablets old) look.0 ≡ look.1) × (new ≡ old)

-- Pages over what the looks of a view found.

-- a page goes on after these looks: none was refused, and they show at most a page of rows
pub record GoesOn (query : QueryValue) (before : List Look) : Type 0 where
  pub none_refused : first_refusal before ≡ None
  pub few : length (rows_in query before) ≤ query.limit

-- the looks of a page: into candidates in rising number, each once, and into the next only while the page goes on
pub record IsVisit (bounds : Bounds) (query : QueryValue) (seen : List Look) : Type 0 where
  pub found : AllByRecursion (IsFoundIn bounds) seen
  pub order : map (λ look. look.0) seen ≡ take (length seen) (candidates bounds query)
  pub only : (n : ℕ) → n < length seen → GoesOn query (take n seen)

-- nothing is left to read: no candidate, or no room in the page
abbrev pub IsWhole : Bounds → QueryValue → List Look → Type 0
IsWhole bounds query seen = (length seen ≡ length (candidates bounds query)) ⊎ (query.limit < length (rows_in query seen))

-- the rows of a query were read through a view by these looks, and the answer is the right one for them; no fault comes before a look
pub record IsScan {V A B : Type 0} (looks : V → Look → V → Type 0) (bounds : Bounds) (query : QueryValue) (old new : V) (show : A → B) (answer : Result A ScanFault) (right : Entries → B) (seen : List Look) : Type 0 where
  pub looked : Looks looks old seen new
  pub visit : IsVisit bounds query seen
  pub answers : Answers show answer (unless (first_refusal (visited bounds query seen)) (right (rows_in query seen)))
  pub whole : OnOk answer (IsWhole bounds query seen)
  pub begun : OnErr answer (0 < length seen)

-- Reads of single records over what the looks of a view found.

-- the cells of keys, each in what was found of the key's tablet
abbrev pub cells_of_keys : List (List ℕ) → List Look → List (Option CellValue)
cells_of_keys keys seen = map (λ pair. find bytes_cmp pair.0 (cells_in pair.1.1)) (zip keys seen)

-- the cells of keys were read through a view by these looks, key by key, up to the first refusal
pub record IsGet {V A : Type 0} (looks : V → Look → V → Type 0) (bounds : Bounds) (keys : List (List ℕ)) (old new : V) (show : A → List (Option CellValue)) (answer : Result A ScanFault) (seen : List Look) : Type 0 where
  pub looked : Looks looks old seen new
  pub found : AllByRecursion (IsFoundIn bounds) seen
  pub order : map (λ look. look.0) seen ≡ map (tablet_of bounds) (take (length seen) keys)
  pub only : (n : ℕ) → n < length seen → first_refusal (take n seen) ≡ None
  pub answers : Answers show answer (unless (first_refusal seen) (cells_of_keys keys seen))
  pub whole : OnOk answer (length seen ≡ length keys)

-- the version, if there is one, is not less than the required one, if there is one
abbrev pub reaches : Option Stamp → Option Stamp → Bool
reaches None has = true
reaches (Some wanted) None = false
reaches (Some wanted) (Some has) = not (is_lt (version_cmp has wanted))

-- the cell, unless it falls short of the version that is required
abbrev pub unless_behind : Option Stamp → Option CellValue → Result (Option CellValue) ScanFault
unless_behind wanted cell = if reaches wanted (version_at cell) then Ok cell else Err (fault.Behind (version_at cell))

-- the cell of a key in a tablet, of the version that is required, if one is, or a later one
abbrev pub read_of : List ℕ → Option Stamp → Look → Result (Option CellValue) ScanFault
read_of key wanted look = cell_at key look >>= unless_behind wanted

-- the answer is the right one, or out of memory where there was no fault before
abbrev pub AnswersAfter : {A : Type 0} → Result A ScanFault → Result A ScanFault → Result A ScanFault → Type 0
AnswersAfter before (Ok value) right = right ≡ Ok value
AnswersAfter before (Err fault.Memory) right = IsOk before
AnswersAfter before (Err why) right = right ≡ Err why

-- a key was read through a view by one look
pub record IsRead {V : Type 0} (looks : V → Look → V → Type 0) (bounds : Bounds) (key : List ℕ) (wanted : Option Stamp) (old new : V) (answer : Result (Option CellValue) ScanFault) (look : Look) : Type 0 where
  pub looked : looks old look new
  pub found : IsFoundIn bounds look
  pub answers : AnswersAfter (cell_at key look) answer (read_of key wanted look)

-- Pages one after another, each asked for by the continuation of the one before.

-- every tablet of a layout, as it is
abbrev pub looks_of : Bounds → List TabletStateValue → List Look
looks_of bounds tablets = map (λ tablet. (tablet, slice_get tablets tablet)) (range_with_len 0 (length bounds + 1))

-- a page that is right for a query, over whatever was found of the tablets that it read
abbrev pub IsSomePage : Bounds → QueryValue → PageValue → Type 0
IsSomePage bounds query page = (seen : List Look) × IsVisit bounds query seen × (page_of bounds query seen ≡ Ok page)

-- a page of tablets that stay as they are
abbrev pub IsPageOf : Bounds → List Look → QueryValue → PageValue → Type 0
IsPageOf bounds looks query page = page_of bounds query looks ≡ Ok page

-- each page is that of the continuation before it
abbrev pub ArePages : (QueryValue → PageValue → Type 0) → Option QueryValue → List PageValue → Type 0
ArePages is_page asked [] = Unit {0}
ArePages is_page None (page ∷ pages) = ⊥
ArePages is_page (Some query) (page ∷ pages) = is_page query page × ArePages is_page page.1 pages

-- the continuation of the last page, if there is one
abbrev pub left_by : Option QueryValue → List PageValue → Option QueryValue
left_by asked [] = asked
left_by asked (page ∷ pages) = left_by page.1 pages

-- the rows of pages together
abbrev pub rows_of : List PageValue → Entries
rows_of pages = flat_map (λ page. page.0) pages

-- the rows that a continuation still asks for
abbrev pub rows_left : List Look → Option QueryValue → Entries
rows_left looks None = []
rows_left looks (Some query) = rows_in query looks
