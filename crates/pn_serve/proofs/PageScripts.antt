-- Pages that a script shows are those of regions, one after another.
use Rattle.std.proofs.Common.{◌≡◌, ◌≢◌, ◌<◌, inl, inr, ℕ, nat_le, true, false, cond, ◌&&◌, List, [], ◌∷◌, ◌++◌, length, take, drop, refl, sym, ap, ◌∙◌, subst, append-nil, arith}
use Rattle.std.specs.Prelude.{Result, Ok, Err, Option, Some, None}
use Rattle.std.specs.FinMap.{find}
use Rattle.std.specs.List.{list_all}
use Rattle.std.specs.Ordering.{eq_by_cmp}
use Rattle.std.proofs.lemmas.Bool.{and_parts}
use Rattle.std.proofs.lemmas.Bool.Decides.{nat_tests}
use Rattle.std.proofs.lemmas.List.{take-append-drop}
use Rattle.pn_join.proofs.Rising.{not_found_below, Rising, Rising-from_sorted}
use Rattle.pn_json.specs.Tokens.{line_of}
use Rattle.pn_record.specs.Cells.{Entries}
use Rattle.pn_record.specs.Sets.{bytes_cmp, CellValue}
use Rattle.pn_record.proofs.CellMaps.{tied_keys}
use Rattle.pn_scan.specs.Pages.{PageValue}
use Rattle.pn_tablet.specs.Layouts.{is_end}
use Rattle.pn_scan.specs.Queries.{QueryValue, query_after, is_condition, is_limit, query_fits, is_query}
use Rattle.pn_scan.specs.declared.query.TheConstants.{MAX_CONDITIONS}
use Rattle.pn_scan.specs.Shown.{is_shown, shown_rows}
use Rattle.pn_scan.specs.Views.{ArePages, left_by, rows_of}
use Rattle.pn_scan.specs.declared.view.ScanFault.{ScanFault}
use Rattle.pn_scan.proofs.Continuing.{shown_after}
use Rattle.pn_scan.proofs.WalkLaws.{AllAfter, Ending, whole, goes_on, ending_of, IsCutFrom, page_cut}
use Rattle.pn_region.specs.Events.{RegionEvent}
use Rattle.pn_region.specs.Reads.{IsAnswered, IsAnsweredOf, all_looks, page_in}
use Rattle.pn_region.specs.Regions.{RegionValue, IsRegion, all_cells}
use Rattle.pn_region.proofs.EventSteps.{event_is}
use Rattle.pn_region.proofs.TakenImages.{all_rising}
use Rattle.pn_region.proofs.ReadLaws.{pages_of_cells, answered_rise, all_together}
use Rattle.pn_protocol.specs.declared.refusal.Refusal.{Refusal}
use Rattle.pn_protocol.specs.Command.Lines.{command_at}
use Rattle.pn_protocol.specs.Command.Meaning.{CommandValue, scan}
use Rattle.pn_protocol.specs.Reply.Records.{scan_data}
use Rattle.pn_protocol.proofs.CommandLines.{line_found}
use Rattle.pn_serve.specs.Machine.Doing.{lookup_turn}
use Rattle.pn_serve.specs.Machine.Turns.{last_of, end_in, end_turn, turn_of, outcome_at, turn_in, turn}
use Rattle.pn_serve.specs.Machine.Outcomes.{Outcome, done, line, call, round, Mode, awaits_command, Machine, Turn}
use Rattle.pn_serve.specs.Script.Events.{events_in}
use Rattle.pn_serve.specs.Script.Written.{InputEnd, Input, ToldLine, told_lines, after_line}
use Rattle.pn_serve.specs.Script.Laws.{ShowsPage, ShowsNext, EndsPages, ShowPages, shown_cell, Told, machine_of}
use Rattle.pn_serve.proofs.Happened.{OneLeads, line_leads}
use Rattle.pn_serve.proofs.ScriptLaws.{after_is}

-- ---- a line that shows a page

module _ (m : Machine) (query : QueryValue) where
  abbrev Found : Turn → Type 0
  Found turned = (page : PageValue) × (page_in m.region query ≡ Ok page) × (turned.reply ≡ line_of (scan_data page))

  found_by : (right : Result PageValue ScanFault) → page_in m.region query ≡ right → (lookup_turn m scan_data right).refused ≡ false → Found (lookup_turn m scan_data right)
  found_by (Ok page) is accepted = (page, is, refl)
  found_by (Err fault) is accepted = cc

  scan_found : (outcome : Outcome) → (turn_of m outcome (Ok (scan query))).refused ≡ false → Found (turn_of m outcome (Ok (scan query)))
  scan_found done accepted = found_by (page_in m.region query) refl accepted
  scan_found line accepted = cc
  scan_found call accepted = cc
  scan_found (round flags) accepted = found_by (page_in m.region query) refl accepted

  pub line_shows : (text : List ℕ) (outcome : Outcome) → m.mode ≡ awaits_command → command_at text ≡ Ok (scan query) → (turn m outcome text).refused ≡ false → (page : PageValue) × ShowsPage m text (turn m outcome text) query page
  line_shows text outcome waits says accepted =
      let at = outcome_at outcome text in
      let same : turn m outcome text ≡ turn_of m at (Ok (scan query)) = ap (λ (mode : Mode). turn_in mode m outcome text) waits ∙ ap (λ (said : Result CommandValue Refusal). turn_of m at said) says in
      let found = scan_found at (sym (ap (λ (t : Turn). t.refused) same) ∙ accepted) in
      (found.0, record { waits = waits; says = says; found = found.1; replied = ap (λ (t : Turn). t.reply) same ∙ found.2 })

  last_as_line : (outcome : Outcome) → last_of m outcome (Ok (scan query)) ≡ turn_of m outcome (Ok (scan query))
  last_as_line done = refl
  last_as_line line = refl
  last_as_line call = refl
  last_as_line (round flags) = refl

  pub end_shows : (text : List ℕ) (outcome : Outcome) → text ≢ [] → m.mode ≡ awaits_command → command_at text ≡ Ok (scan query) → (end_turn m outcome text).refused ≡ false → (page : PageValue) × ShowsPage m text (end_turn m outcome text) query page
  end_shows [] outcome there waits says accepted = absurd (there refl)
  end_shows (b ∷ part) outcome there waits says accepted =
      let at = outcome_at outcome (b ∷ part) in
      let same : end_turn m outcome (b ∷ part) ≡ turn_of m at (Ok (scan query)) =
      ap (λ (mode : Mode). end_in mode m outcome (b ∷ part)) waits ∙ ap (λ (said : Result CommandValue Refusal). last_of m at said) says ∙ last_as_line at in
      let found = scan_found at (sym (ap (λ (t : Turn). t.refused) same) ∙ accepted) in
      (found.0, record { waits = waits; says = says; found = found.1; replied = ap (λ (t : Turn). t.reply) same ∙ found.2 })

-- ---- a query that a line says asks for at least one row

some_rows : (limit : ℕ) → is_limit limit ≡ true → 0 < limit
some_rows limit is = grind (arith, nat_tests)

query_room : (query : QueryValue) → is_query query ≡ true → 0 < query.limit
query_room query is =
    let fits = (and_parts (is_end query.after && is_end query.from && is_end query.to) (query_fits query.conditions query.limit) is).1 in
    let few = and_parts (is_limit query.limit && nat_le (length query.conditions) MAX_CONDITIONS) (list_all is_condition query.conditions) fits in
    some_rows query.limit (and_parts (is_limit query.limit) (nat_le (length query.conditions) MAX_CONDITIONS) few.0).0

line_room : (text : List ℕ) (query : QueryValue) → command_at text ≡ Ok (scan query) → 0 < query.limit
line_room text query says = query_room query (line_found text (scan query) says).spelled.limits

-- ---- from a script's pages to those of regions

one_is : (events : List RegionEvent) (old new : RegionValue) → OneLeads events old new → IsRegion old → IsRegion new
one_is [] old new lead is = subst IsRegion (sym lead) is
one_is (event ∷ []) old new lead is = event_is event old new is lead
one_is (event ∷ next ∷ later) old new lead is = absurd lead

line_is : (m : Machine) (text : ToldLine) → IsRegion m.region → IsRegion (after_line m text).region
line_is m text is = one_is (events_in m.mode m text.outcome text.text) m.region (after_line m text).region (line_leads m text.outcome text.text is) is

module _ (Holds : RegionValue → Type 0) where
  -- a region with the property has the page; the query asks for at least one row
  pub record Had (query : QueryValue) (page : PageValue) : Type 0 where
    pub region : RegionValue
    pub is : IsRegion region
    pub holds : Holds region
    pub found : page_in region query ≡ Ok page
    pub room : 0 < query.limit

  shown_had : (m : Machine) (text : List ℕ) (turned : Turn) (asked : Option QueryValue) (page : PageValue) (rest : List PageValue) → IsRegion m.region → ShowsNext Holds m text turned asked page
      → ArePages Had page.1 rest → ArePages Had asked (page ∷ rest)
  shown_had m text turned asked page rest is next more =
      subst (λ (o : Option QueryValue). ArePages Had o (page ∷ rest)) (sym next.asks)
      (record { region = m.region; is = is; holds = next.holds; found = next.shows.found; room = line_room text next.query next.shows.says }, more)

  ends_had : (m : Machine) (end : Option InputEnd) (asked : Option QueryValue) (pages : List PageValue) → IsRegion m.region → EndsPages Holds m end asked pages → ArePages Had asked pages
  ends_had m end asked [] is ends = tt
  ends_had m None asked (page ∷ pages) is ends = absurd ends
  ends_had m (Some end) asked (page ∷ []) is ends = shown_had m end.part _ asked page [] is ends tt
  ends_had m (Some end) asked (page ∷ next ∷ pages) is ends = absurd ends

  pages_had : (lines : List ToldLine) (m : Machine) (end : Option InputEnd) (asked : Option QueryValue) (pages : List PageValue) → IsRegion m.region → ShowPages Holds m lines end asked pages → ArePages Had asked pages
  pages_had [] m end asked pages is shows = ends_had m end asked pages is shows
  pages_had (text ∷ lines) m end asked pages is (inl other) = pages_had lines (after_line m text) end asked pages (line_is m text is) other
  pages_had (text ∷ lines) m end asked pages is (inr (page, rest, first, next, later)) =
      subst (ArePages Had asked) (sym first)
      (shown_had m text.text _ asked page rest is next (pages_had lines (after_line m text) end page.1 rest (line_is m text is) later))

  -- pages of one kind are pages of another
  pages_so : (Other : QueryValue → PageValue → Type 0) → ((query : QueryValue) (page : PageValue) → Had query page → Other query page) → (asked : Option QueryValue) (pages : List PageValue) → ArePages Had asked pages → ArePages Other asked pages
  pages_so Other so asked [] are = tt
  pages_so Other so None (page ∷ pages) are = absurd are
  pages_so Other so (Some query) (page ∷ pages) are = (so query page are.0, pages_so Other so page.1 pages are.1)

  pub answered : (asked : Option QueryValue) (pages : List PageValue) → ArePages Had asked pages → ArePages IsAnswered asked pages
  answered asked pages are = pages_so IsAnswered (λ query page had. (had.region, had.is, had.found)) asked pages are

  -- the first query asks for a row, if there is a page
  first_room : (query : QueryValue) (page : PageValue) (pages : List PageValue) → ArePages Had (Some query) (page ∷ pages) → 0 < query.limit
  first_room query page pages are = are.0.room

  pub rise : (query : QueryValue) (pages : List PageValue) → ArePages Had (Some query) pages → Rising bytes_cmp (rows_of pages) × AllAfter query.after (rows_of pages)
  rise query [] are = (tt, tt)
  rise query (page ∷ pages) are = answered_rise query (page ∷ pages) (first_room query page pages are) (answered (Some query) (page ∷ pages) are)

-- a page that a region has is the first of the rows of its cells
cut_from : (region : RegionValue) (query : QueryValue) (page : PageValue) → IsRegion region → page_in region query ≡ Ok page → IsCutFrom (all_cells region) query page
cut_from region query page is found = subst (λ (cells : Entries). IsCutFrom cells query page) (all_together region is) (page_cut region.layout (all_looks region) query page found)

-- while cells stay the same, pages are together all rows
pub together : (cells : Entries) (query : QueryValue) (pages : List PageValue) → ArePages (Had (λ region. all_cells region ≡ cells)) (Some query) pages → left_by (Some query) pages ≡ None → rows_of pages ≡ shown_rows query cells
together cells query [] are none = cc
together cells query (page ∷ pages) are none =
    pages_of_cells cells query (page ∷ pages) are.0.room
    (pages_so (λ region. all_cells region ≡ cells) (IsAnsweredOf cells) (λ asked next had. (had.region, had.is, had.holds, had.found)) (Some query) (page ∷ pages) are) none

-- ---- a record that stays as it was

-- the cell at a key, among the rows that rising cells show
find_shown : (query : QueryValue) (key : List ℕ) (cells : Entries) → Rising bytes_cmp cells → find bytes_cmp key (shown_rows query cells) ≡ shown_cell query key (find bytes_cmp key cells)
find_shown query key [] rises = refl
find_shown query key (e ∷ es) rises =
    let rest = find_shown query key es rises.1 in
    elim (eq_by_cmp bytes_cmp key e.0) as (λ t. eq_by_cmp bytes_cmp key e.0 ≡ t → find bytes_cmp key (cond (is_shown query e) (e ∷ shown_rows query es) (shown_rows query es)) ≡ shown_cell query key (cond t (Some e.1) (find bytes_cmp key es))) [
      | true ↦ λ tied.
          let same : key ≡ e.0 = tied_keys key e.0 tied in
          let none : find bytes_cmp key es ≡ None = subst (λ k. find bytes_cmp k es ≡ None) (sym same) (not_found_below bytes_cmp e.0 es rises.0) in
          ap (λ b. find bytes_cmp key (cond b (e ∷ shown_rows query es) (shown_rows query es))) (ap (λ k. is_shown query (k, e.1)) (sym same))
          ∙ (elim (is_shown query (key, e.1)) as (λ b. find bytes_cmp key (cond b (e ∷ shown_rows query es) (shown_rows query es)) ≡ cond b (Some e.1) None) [
            | true ↦ ap (λ t. cond t (Some e.1) (find bytes_cmp key (shown_rows query es))) tied
            | false ↦ rest ∙ ap (shown_cell query key) none
          ])
      | false ↦ λ apart.
          (elim (is_shown query e) as (λ b. find bytes_cmp key (cond b (e ∷ shown_rows query es) (shown_rows query es)) ≡ find bytes_cmp key (shown_rows query es)) [
            | true ↦ ap (λ t. cond t (Some e.1) (find bytes_cmp key (shown_rows query es))) apart
            | false ↦ refl
          ])
          ∙ rest
    ] refl

-- what is found at a key in two lists depends on what is found in the second
find_after : (key : List ℕ) (front later others : Entries) → find bytes_cmp key later ≡ find bytes_cmp key others → find bytes_cmp key (front ++ later) ≡ find bytes_cmp key (front ++ others)
find_after key [] later others same = same
find_after key (e ∷ es) later others same = ap (cond (eq_by_cmp bytes_cmp key e.0) (Some e.1)) (find_after key es later others same)

module _ (key : List ℕ) (cell : Option CellValue) where
  abbrev pub Stays : RegionValue → Type 0
  Stays region = find bytes_cmp key (all_cells region) ≡ cell

  abbrev asked_cell : Option QueryValue → Option CellValue
  asked_cell None = None
  asked_cell (Some query) = shown_cell query key cell

  page_stays : (query : QueryValue) (cells : Entries) → Rising bytes_cmp cells → find bytes_cmp key cells ≡ cell → (page : PageValue) (later : Entries) → Ending query (shown_rows query cells) page
      → find bytes_cmp key later ≡ asked_cell page.1 → (page.1 ≡ None → later ≡ []) → find bytes_cmp key (page.0 ++ later) ≡ shown_cell query key cell
  page_stays query cells rises is page later (whole last all few) found none =
      ap (λ (es : Entries). find bytes_cmp key es) ((λ i. all i ++ none last i) ∙ append-nil (shown_rows query cells)) ∙ find_shown query key cells rises ∙ ap (shown_cell query key) is
  page_stays query cells rises is page later (goes_on row at next front within) found none =
      let rows = shown_rows query cells in
      let rest : find bytes_cmp key (drop query.limit rows) ≡ shown_cell (query_after query row.0) key cell =
      ap (λ (es : Entries). find bytes_cmp key es) (sym (shown_after query cells query.limit row rises at)) ∙ find_shown (query_after query row.0) key cells rises ∙ ap (shown_cell (query_after query row.0) key) is in
      ap (λ (es : Entries). find bytes_cmp key (es ++ later)) front
      ∙ find_after key (take query.limit rows) later (drop query.limit rows) (found ∙ ap asked_cell next ∙ sym rest)
      ∙ ap (λ (es : Entries). find bytes_cmp key es) (take-append-drop query.limit rows)
      ∙ find_shown query key cells rises ∙ ap (shown_cell query key) is

  no_more : (asked : Option QueryValue) (pages : List PageValue) → asked ≡ None → ArePages (Had Stays) asked pages → rows_of pages ≡ []
  no_more asked [] none are = refl
  no_more None (page ∷ pages) none are = absurd are
  no_more (Some query) (page ∷ pages) none are = cc

  pub stays : (asked : Option QueryValue) (pages : List PageValue) → ArePages (Had Stays) asked pages → left_by asked pages ≡ None → find bytes_cmp key (rows_of pages) ≡ asked_cell asked
  stays asked [] are none = sym (ap asked_cell none)
  stays None (page ∷ pages) are none = absurd are
  stays (Some query) (page ∷ pages) are none =
      let had = are.0 in
      let cells = all_cells had.region in
      page_stays query cells (Rising-from_sorted bytes_cmp cells (all_rising had.region had.is)) had.holds page (rows_of pages)
      (ending_of query (shown_rows query cells) page had.room (cut_from had.region query page had.is had.found))
      (stays page.1 pages are.1 none) (λ last. no_more page.1 pages last are.1)

-- ---- the laws

abbrev pub AnyRegion : RegionValue → Type 0
AnyRegion region = Unit {0}

pub told_had : (Holds : RegionValue → Type 0) (told : Told) (more : Input) (query : QueryValue) (pages : List PageValue) → ShowPages Holds (machine_of told) (told_lines more.lines more.outcomes) more.end (Some query) pages → ArePages (Had Holds) (Some query) pages
told_had Holds told more query pages shows =
    pages_had Holds (told_lines more.lines more.outcomes) (machine_of told) more.end (Some query) pages (after_is (λ name. []) told.layout told.lawful told.input) shows

pub told_rise : (told : Told) (more : Input) (query : QueryValue) (pages : List PageValue) → ShowPages AnyRegion (machine_of told) (told_lines more.lines more.outcomes) more.end (Some query) pages → Rising bytes_cmp (rows_of pages) × AllAfter query.after (rows_of pages)
told_rise told more query pages shows = rise AnyRegion query pages (told_had AnyRegion told more query pages shows)
