-- Lookups that are resumed come to their replies, and how many units of work a step is.
use Rattle.std.proofs.Common.{◌≡◌, ◌≤◌, ◌+◌, ◌*◌, ◌-◌, ◌<◌, ℕ, length, max, min, refl, sym, subst, inl, inr, arith, List, [], ◌∷◌, ◌++◌, Option, ap, ◌∙◌}
use Rattle.std.specs.Prelude.{Result, Ok, Err, IfOk, IfErr}
use Rattle.pn_join.specs.declared.memory.NoMemory.{NoMemory}
use Rattle.pn_join.specs.Marks.{Positions}
use Rattle.pn_record.specs.Sets.{CellValue}
use Rattle.pn_tablet.specs.CopyCounts.{CountsOn}
use Rattle.pn_tablet.specs.CopyWriting.{CopyCountValue}
use Rattle.pn_tablet.specs.declared.copy_count.CopyStep.{CopyStep}
use Rattle.pn_tablet.specs.Copies.{TabletCopyValue}
use Rattle.pn_tablet.specs.Layouts.{Bounds}
use Rattle.pn_tablet.specs.declared.copy_count.CopyStep.TheVariants as copies
use Rattle.pn_scan.specs.Paging.{CountsWork, AreMade, Follows, Gaps, IsNearer, IsOnPage, IsPreorder, LookMade, LooksAfter, Moving, OnlyLooks, PagesTo, looks_in}
use Rattle.pn_scan.specs.Queries.{QueryValue}
use Rattle.pn_scan.specs.WalkValues.{PageWalkValue}
use Rattle.pn_scan.specs.declared.view.ScanFault.{ScanFault}
use Rattle.pn_scan.specs.declared.page_walk.PageStep.{PageStep}
use Rattle.pn_scan.specs.declared.page_walk.TheConstants.{LOOK_UNITS}
use Rattle.pn_scan.specs.declared.walk.TheConstants.{MAX_PART_WORK, UNIT_WORK}
use Rattle.pn_scan.specs.Views.{IsGet}
use Rattle.pn_scan.proofs.Paging.{gaps_more, looks_after, scanned}
use Rattle.pn_scan.proofs.Scans.{new_page}
use Rattle.pn_scan.specs.declared.page_walk.PageStep.TheVariants as pages
use Rattle.pn_protocol.specs.Command.Meaning.{CommandValue, adopt, copy, deliver, get, lose, marks, notices, read, relayout, scan, tablets}
use Rattle.pn_protocol.specs.Reply.Texts.{ShowsFound, copy_reply}
use Rattle.pn_protocol.specs.Reply.Records.{get_data}
use Rattle.pn_lines.specs.Answers.{answer_left as engine_left}
use Rattle.pn_live.specs.Lookups.{GetWalkValue, EndsGet, GetsOn, IsOnGet, IsCopied}
use Rattle.pn_live.proofs.Getting.{new_get}
use Rattle.pn_live.specs.Readers.{LiveReaderValue, LooksLive, Tablets}
use Rattle.pn_serve.specs.declared.machine.line_answers.LineOutcome.{LineOutcome}
use Rattle.pn_serve.specs.declared.machine.line_answers.LineOutcome.TheVariants.{Done, Pending as Begun}
use Rattle.pn_serve.specs.declared.sessions.pending_lookup.PendingLookup.{PendingLookup}
use Rattle.pn_serve.specs.declared.sessions.pending_lookup.PendingLookup.TheVariants.{Page, Keys, Copy}
use Rattle.pn_serve.specs.declared.sessions.pending_lookup.TheConstants.{UNIT_LINES}
use Rattle.pn_serve.specs.Session.Resuming.{answer_left, CopyAnswer, CountsUnits, CountsStep, PageAnswer, pending_left, AreNewKeys, HasFew, IsNewPage, IsOnCopy, KeysAnswer, LooksOn, LooksTo, KnowsNoLess}
use Rattle.pn_serve.specs.Lines.{given_by}
use Rattle.pn_serve.proofs.Knowing.{going_knows, knows_on, knows_same, look_knows}

-- How many units of work a step of a lookup is.

-- the most work that a step of a page is to do
abbrev most_work : ℕ → ℕ
most_work units = UNIT_WORK * max units LOOK_UNITS

-- a page used no more units than it may
pub page_few : (units used : ℕ) (query : QueryValue) (old : PageWalkValue) (step : Result PageStep ScanFault) → CountsStep units step used → IfOk step (CountsWork query (most_work units) (max (most_work units) MAX_PART_WORK) old) → used ≤ max units 64
page_few units used query old (Ok (pages.Done page)) counts few = omega (arith, counts)
page_few units used query old (Ok (pages.Next next)) counts few = omega (arith, counts, few.0)
page_few units used query old (Err fault) counts few = omega (arith, counts)

-- and counts them
pub page_counted : (units used most first : ℕ) (query : QueryValue) (walk : PageWalkValue) (step : Result PageStep ScanFault) (answer : LineOutcome) → PageAnswer query step answer → CountsStep units step used → IfOk step (CountsWork query most first walk)
    → CountsUnits answer (Page query walk) used
page_counted units used most first query walk (Ok (pages.Done page)) (Done reply) shows counts few = tt
page_counted units used most first query walk (Ok (pages.Done page)) (Begun pending) shows counts few = absurd shows
page_counted units used most first query walk (Ok (pages.Next next)) (Done reply) shows counts few = absurd shows
page_counted units used most first query walk (Ok (pages.Next next)) (Begun pending) is counts few =
    subst (λ (g : PendingLookup). CountsUnits (Begun g) (Page query walk) used) (sym is) (elim few.1 [
      | inl left ↦ inl (omega (arith, left, counts))
      | inr none ↦ inr none
    ])
page_counted units used most first query walk (Err fault) (Done reply) shows counts few = tt
page_counted units used most first query walk (Err fault) (Begun pending) shows counts few = absurd shows

-- keys are counted
pub keys_counted : (walk : GetWalkValue) (most used : ℕ) (result : Result GetWalkValue ScanFault) (answer : LineOutcome) → used ≡ min (length walk.keys - walk.read) most
    → IfOk result (λ next. next.read ≤ walk.read + most) → IfOk result (λ next. length next.keys - next.read ≡ length walk.keys - walk.read - most)
    → IfOk result (λ next. (pending : PendingLookup) → answer ≡ Begun pending → (pending ≡ Keys next) × (next.read < length next.keys)) → IfErr result (λ _. answer_left answer ≡ 0) → CountsUnits answer (Keys walk) used
keys_counted walk most used result (Done reply) counts few left begun fault = tt
keys_counted walk most used (Ok next) (Begun pending) counts few left begun fault =
    let (is, more) = begun pending refl in
    subst (λ (g : PendingLookup). CountsUnits (Begun g) (Keys walk) used) (sym is) (omega (arith, few, left, more, counts))
keys_counted walk most used (Err other) (Begun pending) counts few left begun fault = absurd (omega (arith, fault))

-- lines of a copy are counted
pub copy_counted : (count : CopyCountValue) (units lines : ℕ) (step : Result CopyStep NoMemory) (answer : LineOutcome) → lines ≡ UNIT_LINES * units → CountsOn lines count step → CopyAnswer step answer → CountsUnits answer (Copy count) units
copy_counted count units lines step (Done reply) are to shows = tt
copy_counted count units lines (Ok (copies.Done text)) (Begun pending) are to shows = absurd shows
copy_counted count units lines (Ok (copies.Next more)) (Begun pending) are to is = subst (λ (g : PendingLookup). CountsUnits (Begun g) (Copy count) units) (sym is) (omega (arith, to.1, are))
copy_counted count units lines (Err fault) (Begun pending) are to shows = absurd shows

-- an answer leaves as much of a look as the engine learns
pub given_left : (answer : LineOutcome) (pending : PendingLookup) → answer_left answer ≤ pending_left pending → engine_left pending_left (given_by answer) ≤ pending_left pending
given_left (Done reply) pending less = less
given_left (Begun next) pending less = less

-- Lookups that are resumed come to their replies.

-- a get that was answered, by the looks that were made
pub got_by : (moves : Moving LiveReaderValue) (was new : LiveReaderValue) (bounds : Bounds) (keys : List (List ℕ)) (answer : Result (List (Option CellValue)) ScanFault) (trace : List (LookMade LiveReaderValue)) → EndsGet bounds keys answer trace → Gaps moves was trace new
    → (reached : LiveReaderValue) × IsGet (LooksAfter moves LooksLive) bounds keys was reached (λ cells. cells) answer (looks_in trace) × moves reached new
got_by moves was new bounds keys answer trace ends gaps =
    let there = looks_after moves LooksLive was new trace ends.made gaps in (
      there.0,
      record { looked = there.1; found = ends.found; order = ends.order; only = ends.only; answers = ends.answers; whole = ends.whole },
      there.2,
    )

module _ (moves : Moving LiveReaderValue) (pre : IsPreorder moves) (was between old new : LiveReaderValue) (moved : moves between old) where
  -- a page was resumed
  module _ (query : QueryValue) (walk : PageWalkValue) (so_far : LooksOn moves was (scan query) between (Page query walk)) where
    abbrev trace : List (LookMade LiveReaderValue)
    trace = so_far.1.0

    pub page_goes : (step : Result PageStep ScanFault) (answer : LineOutcome) → PagesTo LooksLive was.layout query old new step trace → PageAnswer query step answer → LooksTo moves was (scan query) new answer
    page_goes (Ok (pages.Done page)) (Done reply) goes shows =
        let gaps = gaps_more moves was between old new trace goes.0 pre so_far.1.2 moved goes.1 in
        let there = scanned moves LooksLive was.layout query was new (Ok (page.rows.items, page.next)) (trace ++ goes.0) goes.2 gaps in
        record { seen = looks_in (trace ++ goes.0); answer = Ok (page.rows.items, page.next); reached = there.0; scanned = there.1; moved = there.2; shows = shows }
    page_goes (Ok (pages.Done page)) (Begun pending) goes shows = absurd shows
    page_goes (Ok (pages.Next next)) (Done reply) goes shows = absurd shows
    page_goes (Ok (pages.Next next)) (Begun pending) goes is =
        subst (λ (g : PendingLookup). LooksOn moves was (scan query) new g) (sym is)
        (refl, (trace ++ goes.0, goes.2, gaps_more moves was between old new trace goes.0 pre so_far.1.2 moved goes.1))
    page_goes (Err fault) (Done reply) goes shows =
        let gaps = gaps_more moves was between old new trace goes.0 pre so_far.1.2 moved goes.1 in
        let there = scanned moves LooksLive was.layout query was new (Err fault) (trace ++ goes.0) goes.2 gaps in
        record { seen = looks_in (trace ++ goes.0); answer = Err fault; reached = there.0; scanned = there.1; moved = there.2; shows = shows }
    page_goes (Err fault) (Begun pending) goes shows = absurd shows

-- ---- by what becomes of a reader between two looks, which leaves it reading the same tablets

module _ (moves : Moving LiveReaderValue) (pre : IsPreorder moves) (knows : (old new : LiveReaderValue) → moves old new → KnowsNoLess old new) (was between old new : LiveReaderValue) (moved : moves between old) where
  same_layout : (command : CommandValue) (pending : PendingLookup) → LooksOn moves was command between pending → old.layout ≡ was.layout
  same_layout command pending on = ap (λ (t : Tablets). t.layout) ((knows between old moved).tablets ∙ (going_knows moves knows was between command pending on).tablets)

  -- a page was resumed, whatever the command is
  pub page_on : (command : CommandValue) (query : QueryValue) (walk : PageWalkValue) (step : Result PageStep ScanFault) (answer : LineOutcome) → LooksOn moves was command between (Page query walk)
      → ((trace : List (LookMade LiveReaderValue)) → IsOnPage LooksLive old.layout query walk trace → PagesTo LooksLive old.layout query old new step trace) → PageAnswer query step answer → LooksTo moves was command new answer
  page_on (scan asked) query walk step answer on goes shows =
      let layout = same_layout (scan asked) (Page query walk) on in
      let trace = on.1.0 in
      let at = subst (λ (q : QueryValue). IsOnPage LooksLive old.layout q walk trace) (sym on.0) (subst (λ (b : Bounds). IsOnPage LooksLive b asked walk trace) (sym layout) on.1.1) in
      let gone = subst (λ (q : QueryValue). PagesTo LooksLive was.layout q old new step trace) on.0 (subst (λ (b : Bounds). PagesTo LooksLive b query old new step trace) layout (goes trace at)) in
      page_goes moves pre was between old new moved asked walk (refl, on.1) step answer gone (subst (λ (q : QueryValue). PageAnswer q step answer) on.0 shows)
  page_on (get keys) query walk step answer on goes shows = absurd on
  page_on (copy need tablet) query walk step answer on goes shows = absurd on
  page_on (read key wanted) query walk step answer on goes shows = absurd on
  page_on (adopt lines) query walk step answer on goes shows = absurd on
  page_on (deliver deliveries) query walk step answer on goes shows = absurd on
  page_on (lose tablet) query walk step answer on goes shows = absurd on
  page_on marks query walk step answer on goes shows = absurd on
  page_on (notices since) query walk step answer on goes shows = absurd on
  page_on (relayout bounds) query walk step answer on goes shows = absurd on
  page_on tablets query walk step answer on goes shows = absurd on

  -- keys were read on
  keys_to : (keys : List (List ℕ)) (walk : GetWalkValue) (result : Result GetWalkValue ScanFault) (answer : LineOutcome) (trace : List (LookMade LiveReaderValue)) → walk.keys ≡ keys → Gaps moves was trace between → GetsOn was.layout old new walk.keys result trace
      → ((more : List (LookMade LiveReaderValue)) → IfOk result (λ next. IsOnGet was.layout next more) → KeysAnswer was.layout more result answer) → LooksTo moves was (get keys) new answer
  keys_to keys walk (Ok next) (Done reply) trace same gaps goes answers =
      let more = trace ++ goes.1.0 in
      let (shown, ends, shows) = answers more goes.1.2 in
      let there = got_by moves was new was.layout keys shown more (subst (λ (ks : List (List ℕ)). EndsGet was.layout ks shown more) (goes.0 ∙ same) ends) (gaps_more moves was between old new trace goes.1.0 pre gaps moved goes.1.1) in
      record { seen = looks_in more; answer = shown; reached = there.0; got = there.1; moved = there.2; shows = subst (λ (ks : List (List ℕ)). ShowsFound (get_data ks) shown reply) (goes.0 ∙ same) shows }
  keys_to keys walk (Ok next) (Begun pending) trace same gaps goes answers =
      let more = trace ++ goes.1.0 in
      subst (λ (g : PendingLookup). LooksOn moves was (get keys) new g) (sym (answers more goes.1.2)) (goes.0 ∙ same, (more, goes.1.2, gaps_more moves was between old new trace goes.1.0 pre gaps moved goes.1.1))
  keys_to keys walk (Err fault) (Done reply) trace same gaps goes answers =
      let more = trace ++ goes.0 in
      let there = got_by moves was new was.layout keys (Err fault) more (subst (λ (ks : List (List ℕ)). EndsGet was.layout ks (Err fault) more) same goes.2) (gaps_more moves was between old new trace goes.0 pre gaps moved goes.1) in
      record { seen = looks_in more; answer = Err fault; reached = there.0; got = there.1; moved = there.2; shows = answers more tt }
  keys_to keys walk (Err fault) (Begun pending) trace same gaps goes answers = absurd (answers trace tt)

  pub keys_on : (command : CommandValue) (walk : GetWalkValue) (result : Result GetWalkValue ScanFault) (answer : LineOutcome) → LooksOn moves was command between (Keys walk)
      → ((trace : List (LookMade LiveReaderValue)) → IsOnGet old.layout walk trace → GetsOn old.layout old new walk.keys result trace)
      → ((bounds : Bounds) (trace : List (LookMade LiveReaderValue)) → IfOk result (λ next. IsOnGet bounds next trace) → KeysAnswer bounds trace result answer) → LooksTo moves was command new answer
  keys_on (get keys) walk result answer on goes answers =
      let layout = same_layout (get keys) (Keys walk) on in
      let trace = on.1.0 in
      keys_to keys walk result answer trace on.0 on.1.2
      (subst (λ (b : Bounds). GetsOn b old new walk.keys result trace) layout (goes trace (subst (λ (b : Bounds). IsOnGet b walk trace) (sym layout) on.1.1))) (answers was.layout)
  keys_on (scan query) walk result answer on goes answers = absurd on
  keys_on (copy need tablet) walk result answer on goes answers = absurd on
  keys_on (read key wanted) walk result answer on goes answers = absurd on
  keys_on (adopt lines) walk result answer on goes answers = absurd on
  keys_on (deliver deliveries) walk result answer on goes answers = absurd on
  keys_on (lose tablet) walk result answer on goes answers = absurd on
  keys_on marks walk result answer on goes answers = absurd on
  keys_on (notices since) walk result answer on goes answers = absurd on
  keys_on (relayout bounds) walk result answer on goes answers = absurd on
  keys_on tablets walk result answer on goes answers = absurd on

  -- lines of a copy were counted on; nothing was looked at
  copy_to : (need : Positions) (tablet : ℕ) (count : CopyCountValue) (records : ℕ) (step : Result CopyStep NoMemory) (answer : LineOutcome) → IsOnCopy moves was need tablet between count.copy → CountsOn records count step → CopyAnswer step answer
      → LooksTo moves was (copy need tablet) old answer
  copy_to need tablet count records (Ok (copies.Done text)) (Done reply) on to shows =
      inl record { within = on.within; found = on.found; answer = Ok count.copy; reached = on.reached; copied = on.copied; moved = pre.goes_on on.reached between old on.moved moved; shows = inl (shows.0, shows.1 ∙ ap copy_reply to.0) }
  copy_to need tablet count records (Ok (copies.Done text)) (Begun pending) on to shows = absurd shows
  copy_to need tablet count records (Ok (copies.Next more)) (Done reply) on to shows = absurd shows
  copy_to need tablet count records (Ok (copies.Next more)) (Begun pending) on to is =
      subst (λ (g : PendingLookup). LooksOn moves was (copy need tablet) old g) (sym is) record {
        within = on.within;
        found = on.found;
        reached = on.reached;
        copied = subst (λ (t : TabletCopyValue). IsCopied was need on.reached (Ok t) (tablet, on.found)) (sym to.0) on.copied;
        moved = pre.goes_on on.reached between old on.moved moved;
      }
  copy_to need tablet count records (Err fault) (Done reply) on to is =
      inl record { within = on.within; found = on.found; answer = Ok count.copy; reached = on.reached; copied = on.copied; moved = pre.goes_on on.reached between old on.moved moved; shows = inr is }
  copy_to need tablet count records (Err fault) (Begun pending) on to shows = absurd shows

  pub copy_on : (command : CommandValue) (count : CopyCountValue) (records : ℕ) (step : Result CopyStep NoMemory) (answer : LineOutcome) → LooksOn moves was command between (Copy count) → CountsOn records count step → CopyAnswer step answer → LooksTo moves was command old answer
  copy_on (copy need tablet) count records step answer on to shows = copy_to need tablet count records step answer on to shows
  copy_on (scan query) count records step answer on to shows = absurd on
  copy_on (get keys) count records step answer on to shows = absurd on
  copy_on (read key wanted) count records step answer on to shows = absurd on
  copy_on (adopt lines) count records step answer on to shows = absurd on
  copy_on (deliver deliveries) count records step answer on to shows = absurd on
  copy_on (lose tablet) count records step answer on to shows = absurd on
  copy_on marks count records step answer on to shows = absurd on
  copy_on (notices since) count records step answer on to shows = absurd on
  copy_on (relayout bounds) count records step answer on to shows = absurd on
  copy_on tablets count records step answer on to shows = absurd on

-- ---- less is left

-- a page is nearer to its end
pub page_nearer : (query : QueryValue) (walk : PageWalkValue) (step : Result PageStep ScanFault) (answer : LineOutcome) → PageAnswer query step answer → IfOk step (IsNearer walk) → HasFew step → answer_left answer ≤ pending_left (Page query walk)
page_nearer query walk (Ok (pages.Done page)) (Done reply) shows nearer few = omega arith
page_nearer query walk (Ok (pages.Done page)) (Begun pending) shows nearer few = absurd shows
page_nearer query walk (Ok (pages.Next next)) (Done reply) shows nearer few = absurd shows
page_nearer query walk (Ok (pages.Next next)) (Begun pending) is nearer few =
    let left : answer_left (Begun pending) ≡ pending_left (Page query next) + 1 = ap (λ (g : PendingLookup). pending_left g + 1) is in
    elim nearer [
      | inl fewer ↦ omega (arith, left, fewer, few)
      | inr less ↦ omega (arith, left, less.0, less.1, less.2)
    ]
page_nearer query walk (Err fault) (Done reply) shows nearer few = omega arith
page_nearer query walk (Err fault) (Begun pending) shows nearer few = absurd shows

-- this number of keys fewer are to be read
pub keys_nearer : (walk : GetWalkValue) (most : ℕ) (result : Result GetWalkValue ScanFault) (answer : LineOutcome) → 1 ≤ most → IfOk result (λ next. length next.keys - next.read ≡ length walk.keys - walk.read - most)
    → IfOk result (λ next. (pending : PendingLookup) → answer ≡ Begun pending → (pending ≡ Keys next) × (next.read < length next.keys)) → IfErr result (λ _. answer_left answer ≡ 0) → answer_left answer ≤ pending_left (Keys walk)
keys_nearer walk most (Ok next) (Done reply) some left begun fault = omega arith
keys_nearer walk most (Ok next) (Begun pending) some left begun fault =
    let (is, more) = begun pending refl in
    let here : answer_left (Begun pending) ≡ pending_left (Keys next) + 1 = ap (λ (g : PendingLookup). pending_left g + 1) is in
    omega (arith, here, left, more, some)
keys_nearer walk most (Err other) answer some left begun fault = omega (arith, fault)

-- this number of lines more are counted
pub copy_nearer : (count : CopyCountValue) (records : ℕ) (step : Result CopyStep NoMemory) (answer : LineOutcome) → 0 < records → CountsOn records count step → CopyAnswer step answer → answer_left answer ≤ pending_left (Copy count)
copy_nearer count records (Ok (copies.Done text)) (Done reply) some to shows = omega arith
copy_nearer count records (Ok (copies.Done text)) (Begun pending) some to shows = absurd shows
copy_nearer count records (Ok (copies.Next more)) (Done reply) some to shows = absurd shows
copy_nearer count records (Ok (copies.Next more)) (Begun pending) some to is =
    let here : answer_left (Begun pending) ≡ pending_left (Copy more) + 1 = ap (λ (g : PendingLookup). pending_left g + 1) is in
    let cells : length more.copy.cells ≡ length count.copy.cells = ap (λ (t : TabletCopyValue). length t.cells) to.0 in
    omega (arith, here, cells, to.1, to.2, some)
copy_nearer count records (Err fault) (Done reply) some to shows = omega arith
copy_nearer count records (Err fault) (Begun pending) some to shows = absurd shows

-- ---- a lookup begins

module _ (moves : Moving LiveReaderValue) (pre : IsPreorder moves) (old : LiveReaderValue) where
  pub begins_page : (query : QueryValue) (pending : PendingLookup) → IsNewPage old.layout query pending → LooksOn moves old (scan query) old pending
  begins_page query (Page asked walk) new = (new.0, ([], new_page LooksLive old.layout query walk new.1, pre.stays old))
  begins_page query (Keys walk) new = absurd new
  begins_page query (Copy count) new = absurd new

  pub begins_keys : (keys : List (List ℕ)) (pending : PendingLookup) → AreNewKeys keys pending → LooksOn moves old (get keys) old pending
  begins_keys keys (Page asked walk) new = absurd new
  begins_keys keys (Keys walk) new = (new.keys_are, ([], new_get old.layout keys walk new, pre.stays old))
  begins_keys keys (Copy count) new = absurd new

-- ---- what a reader knows after looks

-- looks alone leave it knowing no less
pub only_looks_know : (old new : LiveReaderValue) → OnlyLooks LooksLive old new → KnowsNoLess old new
only_looks_know old new only = by old only.0 only.1 only.2
  where
    by : (was : LiveReaderValue) (made : List (LookMade LiveReaderValue)) → Follows was made new → AreMade LooksLive made → KnowsNoLess was new
    by was [] follows are = knows_same was new follows
    by was (one ∷ made) follows are =
        knows_on was one.new new (subst (λ (r : LiveReaderValue). KnowsNoLess r one.new) follows.0 (look_knows one.old one.new one.look are.0)) (by one.new made follows.1 are.1)
