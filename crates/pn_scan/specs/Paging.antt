-- Looks and pages that are resumed, between which the view may move.
use Rattle.std.specs.Prelude.{◌≤◌, ℕ, suc, ◌+◌, ◌-◌, ◌*◌, ◌^◌, Bool, nat_lt, ◌++◌, length, take, ◌≡◌, ◌⊎◌, ◌<◌, List, [], ◌∷◌, map, max, Option, None, Some, IfSome, Result, Ok, Err, OnOk, OnErr}
use Rattle.std.specs.List.{AllByRecursion, range_with_len}
use Rattle.pn_record.specs.Cells.{Entries}
use Rattle.pn_tablet.specs.Layouts.{Bounds}
use Rattle.pn_scan.specs.Queries.{QueryValue}
use Rattle.pn_scan.specs.Shown.{rows_from, records_work}
use Rattle.pn_scan.specs.WalkValues.{PartWalkValue, PageWalkValue}
use Rattle.pn_scan.specs.declared.walk.TabletRows.{TabletRows}
use Rattle.pn_scan.specs.declared.walk.TabletRows.TheVariants.{Done, Rest}
use Rattle.pn_scan.specs.Pages.{Look, candidates, rows_in, visited, PageValue, first_page, first_refusal, unless}
use Rattle.pn_scan.specs.Views.{Answers, IsVisit, IsWhole}
use Rattle.pn_scan.specs.declared.view.ScanFault.{ScanFault}
use Rattle.pn_scan.specs.declared.page_walk.PageStep.{PageStep}
use Rattle.pn_scan.specs.declared.page_walk.PageStep.TheVariants.{Done as PageDone, Next}
use Rattle.pn_scan.specs.declared.walk.TheConstants.{UNIT_WORK}

-- Looks into one tablet that are resumed: each is shown by the answer that it comes to.

-- the first rows that a tablet shows, and whether it shows more
abbrev pub PartValue : Type 0
PartValue = Entries × Bool

-- the answer that a look comes to
abbrev pub walk_answer : QueryValue → PartWalkValue → PartValue
walk_answer query walk = (take walk.room (walk.rows ++ rows_from query walk.seen walk.rest), nat_lt walk.room (length (walk.rows ++ rows_from query walk.seen walk.rest)))

-- the answer that it has, or comes to
abbrev pub part_at : QueryValue → TabletRows → PartValue
part_at query (Done rows more spent) = (rows.items, more)
part_at query (Rest walk) = walk_answer query walk

-- how far a look is from its end: its records, and the contents of the first one
abbrev pub part_left : PartWalkValue → ℕ
part_left walk = suc (length walk.rest) * 2 ^ 64 - walk.seen

-- the same of a look that may be done
abbrev pub left_in : TabletRows → ℕ
left_in (Done rows more spent) = 0
left_in (Rest walk) = part_left walk

-- what is left of a look counts for this
abbrev pub part_work : QueryValue → PartWalkValue → ℕ
part_work query walk = records_work query.conditions walk.seen walk.rest

-- what a look counts for: as much as it says where it is done, and else this
abbrev pub spent_in : ℕ → TabletRows → ℕ
spent_in most (Done rows more spent) = spent
spent_in most (Rest walk) = most

-- of what was left, at most this was looked at
abbrev pub LooksAtMost : QueryValue → ℕ → PartWalkValue → TabletRows → Type 0
LooksAtMost query most old (Done rows more spent) = spent ≤ most
LooksAtMost query most old (Rest walk) = part_work query old ≤ part_work query walk + most

-- Pages that are resumed, between whose looks the view may move.

-- a look as it was made: the view before it, the tablet and what was found, and the view after it
pub record LookMade (V : Type 0) : Type 0 where
  pub old : V
  pub look : Look
  pub new : V

-- looks that a view made
abbrev pub AreMade : {V : Type 0} → (V → Look → V → Type 0) → List (LookMade V) → Type 0
AreMade looks trace = AllByRecursion (λ made. looks made.old made.look made.new) trace

-- what they found
abbrev pub looks_in : {V : Type 0} → List (LookMade V) → List Look
looks_in trace = map (λ made. made.look) trace

-- they lead from one view to another, and nothing came between them
abbrev pub Follows : {V : Type 0} → V → List (LookMade V) → V → Type 0
Follows old [] new = new ≡ old
Follows old (made ∷ more) new = (made.old ≡ old) × Follows made.new more new

-- nothing was done but looks
abbrev pub OnlyLooks : {V : Type 0} → (V → Look → V → Type 0) → V → V → Type 0
OnlyLooks {V} looks old new = (made : List (LookMade V)) × Follows old made new × AreMade looks made

-- what may become of a view between two looks
abbrev pub Moving : Type 0 → Type 1
Moving V = V → V → Type 0

-- nothing may
abbrev pub Stays : {V : Type 0} → Moving V
Stays was now = now ≡ was

-- it may stay, and what may happen twice may happen once
pub record IsPreorder {V : Type 0} (moves : Moving V) : Type 0 where
  pub stays : (v : V) → moves v v
  pub goes_on : (a b c : V) → moves a b → moves b c → moves a c

-- before the first look, between looks, and after the last the view only moved
abbrev pub Gaps : {V : Type 0} → Moving V → V → List (LookMade V) → V → Type 0
Gaps moves was [] now = moves was now
Gaps moves was (made ∷ more) now = moves was made.old × Gaps moves made.new more now

-- a look, after what came between
pub record LooksAfter {V : Type 0} (moves : Moving V) (looks : V → Look → V → Type 0) (old : V) (look : Look) (new : V) : Type 0 where
  pub between : V
  pub moved : moves old between
  pub looked : looks between look new

-- the rows of a look that is resumed, once it has its answer
abbrev pub rows_to_come : QueryValue → Option PartWalkValue → Entries
rows_to_come query None = []
rows_to_come query (Some walk) = (walk_answer query walk).0

-- what is still to be looked at before the next look counts for this
abbrev pub work_left : QueryValue → Option PartWalkValue → ℕ
work_left query None = 0
work_left query (Some walk) = part_work query walk

-- how far a look is from its end, where one is resumed
abbrev pub steps_left : Option PartWalkValue → ℕ
steps_left None = 0
steps_left (Some walk) = part_left walk

-- the look that is resumed, if one is
abbrev pub going_in : TabletRows → Option PartWalkValue
going_in (Done rows more spent) = None
going_in (Rest walk) = Some walk

-- by these looks, the last of which is perhaps resumed, a page is as far as the walk
pub record IsOnPage {V : Type 0} (looks : V → Look → V → Type 0) (bounds : Bounds) (query : QueryValue) (walk : PageWalkValue) (trace : List (LookMade V)) : Type 0 where
  pub made : AreMade looks trace
  pub visit : IsVisit bounds query (looks_in trace)
  pub none_refused : first_refusal (looks_in trace) ≡ None
  pub to_come : candidates bounds query ≡ map (λ look. look.0) (looks_in trace) ++ range_with_len walk.next (walk.end - walk.next)
  pub rows_are : walk.rows ++ rows_to_come query walk.part ≡ take (query.limit + 1) (rows_in query (looks_in trace))
  pub begun : IfSome walk.part (λ part. 0 < length trace)

-- the page was found, or why there is none, by these looks; no fault comes before a look
pub record EndsPage {V : Type 0} (looks : V → Look → V → Type 0) (bounds : Bounds) (query : QueryValue) (answer : Result PageValue ScanFault) (trace : List (LookMade V)) : Type 0 where
  pub made : AreMade looks trace
  pub visit : IsVisit bounds query (looks_in trace)
  pub answers : Answers (λ page. page) answer (unless (first_refusal (visited bounds query (looks_in trace))) (first_page query (rows_in query (looks_in trace))))
  pub whole : OnOk answer (IsWhole bounds query (looks_in trace))
  pub begun : OnErr answer (0 < length trace)

-- after more looks the page is found, or refused, or is to be resumed
abbrev pub PagesTo : {V : Type 0} → (V → Look → V → Type 0) → Bounds → QueryValue → V → V → Result PageStep ScanFault → List (LookMade V) → Type 0
PagesTo {V} looks bounds query old new (Ok (PageDone page)) trace = (more : List (LookMade V)) × Follows old more new × EndsPage looks bounds query (Ok (page.rows.items, page.next)) (trace ++ more)
PagesTo {V} looks bounds query old new (Ok (Next walk)) trace = (more : List (LookMade V)) × Follows old more new × IsOnPage looks bounds query walk (trace ++ more)
PagesTo {V} looks bounds query old new (Err fault) trace = (more : List (LookMade V)) × Follows old more new × EndsPage looks bounds query (Err fault) (trace ++ more)

-- a page of which nothing was looked for
abbrev pub IsNewWalk : Bounds → QueryValue → PageWalkValue → Type 0
IsNewWalk bounds query walk = (walk.rows ≡ []) × (walk.part ≡ None) × (candidates bounds query ≡ range_with_len walk.next (walk.end - walk.next))

-- of what a look had left no more was looked at than the units count, which are no more than the first of these amounts of work, or than the
-- second where a look was begun
abbrev pub CountsWork : QueryValue → ℕ → ℕ → PageWalkValue → PageStep → Type 0
CountsWork query most first old (PageDone page) = Unit {0}
CountsWork query most first old (Next walk) =
    (UNIT_WORK * walk.units < max most first + UNIT_WORK)
    × ((work_left query old.part ≤ work_left query walk.part + UNIT_WORK * walk.units) ⊎ (walk.part ≡ None))

-- fewer tablets are to come, or less is left of the one that is looked into
abbrev pub IsNearer : PageWalkValue → PageStep → Type 0
IsNearer old (PageDone page) = Unit {0}
IsNearer old (Next walk) =
    (walk.end - walk.next < old.end - old.next) ⊎ ((walk.end ≡ old.end) × (walk.next ≡ old.next) × (steps_left walk.part < steps_left old.part))
