-- A session's reader never knows less, so a later reply shows no older record.
use Rattle.std.proofs.Common.{List, ◌≡◌, ℕ, [], ◌∷◌, inl, inr, refl, ◌∙◌, sym, subst, zero, suc, Bool, true, false, if◌then◌else◌, Option, None, Some, set, ap}
use Rattle.std.specs.Prelude.{Result, Ok, Err, slice_get}
use Rattle.std.specs.List.{All, AllByRecursion}
use Rattle.std.proofs.lemmas.List.Elements.{All-from_recursion, All-weaker}
use Rattle.std.specs.FinMap.{find}
use Rattle.pn_json.specs.Answers.{◌>>=◌}
use Rattle.pn_record.specs.Sets.{bytes_cmp, CellValue, Stamp}
use Rattle.pn_tablet.specs.Layouts.{tablet_of, Bounds}
use Rattle.pn_tablet.specs.Steps.{version_at}
use Rattle.pn_tablet.specs.Tablets.{TabletStateValue}
use Rattle.pn_tablet.specs.declared.state.Status.{Status}
use Rattle.pn_tablet.specs.declared.state.Status.TheVariants.{Serving, Recovering}
use Rattle.pn_stream.specs.Brokers.{BrokerRecord}
use Rattle.pn_scan.specs.Pages.{Look, refusal_by, unless}
use Rattle.pn_scan.specs.Paging.{AreMade, Gaps, IsPreorder, LookMade, LooksAfter, Moving, Stays}
use Rattle.pn_scan.specs.Views.{Looks, cell_at, AnswersAfter, read_of, reaches, unless_behind}
use Rattle.pn_scan.specs.declared.view.ScanFault.{ScanFault}
use Rattle.pn_scan.specs.declared.view.ScanFault.TheVariants as fault
use Rattle.pn_region.specs.Reads.{HoldsStill}
use Rattle.pn_protocol.specs.declared.refusal.Refusal.{Refusal}
use Rattle.pn_protocol.specs.declared.reply.Reply.{Reply}
use Rattle.pn_protocol.specs.Command.Lines.{lookup_at}
use Rattle.pn_protocol.specs.Command.Meaning.{CommandValue, adopt, copy, deliver, get, lose, marks, notices, read, relayout, scan, tablets}
use Rattle.pn_live.specs.LiveRegions.{LiveRegionValue, IsReaderIn, tablets_in}
use Rattle.pn_live.specs.Readers.{LiveReaderValue, IsNewReader, LooksLive, Tablets, Finds, KnowsMore, Sees, TabletReaderValue}
use Rattle.pn_live.proofs.Knowing.{looks_know, looks_same}
use Rattle.pn_live.specs.PublishedTablets.{IsHonestList}
use Rattle.pn_live.specs.Laws.{AllKnowMore}
use Rattle.pn_live.proofs.HonestLists.{never_back_across}
use Rattle.pn_serve.specs.declared.machine.line_answers.LineOutcome.{LineOutcome}
use Rattle.pn_serve.specs.declared.machine.line_answers.LineOutcome.TheVariants.{Done, Pending as Begun}
use Rattle.pn_serve.specs.declared.sessions.pending_lookup.PendingLookup.{PendingLookup}
use Rattle.pn_serve.specs.declared.sessions.pending_lookup.PendingLookup.TheVariants.{Page, Keys, Copy}
use Rattle.pn_serve.specs.Session.Resuming.{AnswersWith, KnowsNoLess, LooksFor, LooksOn}
pub use Rattle.pn_serve.specs.Proofs.{knows_itself, knows_on}
use Rattle.pn_serve.specs.Session.Lines.{LooksUp, Tells, AnswersLine, LooksUpKey}
use Rattle.pn_serve.specs.Lines.{AllAnswer}

-- New readers of a live region are its own.

pub own_new : (live : LiveRegionValue) (readers : List LiveReaderValue) → AllByRecursion (IsNewReader (tablets_in live)) readers → All (IsReaderIn live) readers
own_new live readers new = All-weaker (IsNewReader (tablets_in live)) (IsReaderIn live) (λ reader is. is.0) readers (All-from_recursion (IsNewReader (tablets_in live)) readers new)

-- A session's reader never knows less.

-- what others do with a shared reader between two looks may be nothing, and may go on
pub knows_preorder : IsPreorder KnowsNoLess
knows_preorder = record { stays = knows_itself; goes_on = knows_on }

-- a reader that is alone stays as it is
pub stays_preorder : {V : Type 0} → IsPreorder {V = V} Stays
stays_preorder {V} = record { stays = λ v. refl; goes_on = λ a b c first second. second ∙ first }

pub knows_same : (old new : LiveReaderValue) → new ≡ old → KnowsNoLess old new
knows_same old new same = subst (KnowsNoLess old) (sym same) (knows_itself old)

pub look_knows : (old new : LiveReaderValue) (look : Look) → LooksLive old look new → KnowsNoLess old new
look_knows old new look looked = record { tablets = looks_same old new look looked; known = looks_know old new look looked }

-- what becomes of a reader between two looks leaves it knowing no less
module _ (moves : Moving LiveReaderValue) (knows : (old new : LiveReaderValue) → moves old new → KnowsNoLess old new) where
  looks_all_know : (old new : LiveReaderValue) (seen : List Look) → Looks (LooksAfter moves LooksLive) old seen new → KnowsNoLess old new
  looks_all_know old new [] looked = knows_same old new looked
  looks_all_know old new (look ∷ seen) looked =
      let first = looked.1 in
      knows_on old looked.0 new (knows_on old first.between looked.0 (knows old first.between first.moved) (look_knows first.between looked.0 look first.looked)) (looks_all_know looked.0 new seen looked.2)

  -- looks that were made so far
  pub trace_knows : (old new : LiveReaderValue) (trace : List (LookMade LiveReaderValue)) → AreMade LooksLive trace → Gaps moves old trace new → KnowsNoLess old new
  trace_knows old new [] made gaps = knows old new gaps
  trace_knows old new (one ∷ trace) made gaps =
      knows_on old one.new new (knows_on old one.old one.new (knows old one.old gaps.0) (look_knows one.old one.new one.look made.0)) (trace_knows one.new new trace made.1 gaps.1)

  -- after a command
  pub command_knows : (old new : LiveReaderValue) (command : CommandValue) (reply : Reply) → LooksUp moves old command new reply → KnowsNoLess old new
  command_knows old new (copy need tablet) reply (inl copied) = knows_on old copied.reached new (look_knows old copied.reached (tablet, copied.found) copied.copied.looked) (knows copied.reached new copied.moved)
  command_knows old new (copy need tablet) reply (inr none) = knows_same old new none.1
  command_knows old new (get keys) reply looks = knows_on old looks.reached new (looks_all_know old looks.reached looks.seen looks.got.looked) (knows looks.reached new looks.moved)
  command_knows old new (read key wanted) reply looks = look_knows old new (tablet_of old.layout key, looks.found) looks.read.looked
  command_knows old new (scan query) reply looks = knows_on old looks.reached new (looks_all_know old looks.reached looks.seen looks.scanned.looked) (knows looks.reached new looks.moved)
  command_knows old new (adopt lines) reply refuses = knows_same old new refuses.0
  command_knows old new (deliver deliveries) reply refuses = knows_same old new refuses.0
  command_knows old new (lose tablet) reply refuses = knows_same old new refuses.0
  command_knows old new marks reply refuses = knows_same old new refuses.0
  command_knows old new (notices since) reply refuses = knows_same old new refuses.0
  command_knows old new (relayout bounds) reply refuses = knows_same old new refuses.0
  command_knows old new tablets reply refuses = knows_same old new refuses.0

  said_knows : (old new : LiveReaderValue) (said : Result CommandValue Refusal) (reply : Reply) → Tells moves old said new reply → KnowsNoLess old new
  said_knows old new (Ok command) reply tells = command_knows old new command reply tells
  said_knows old new (Err refusal) reply refuses = knows_same old new refuses.0

  -- after a line
  pub line_knows : (old new : LiveReaderValue) (line : List ℕ) (reply : Reply) → AnswersLine moves old line new reply → KnowsNoLess old new
  line_knows old new line reply (inl tells) = said_knows old new (lookup_at line) reply tells
  line_knows old new line reply (inr short) = knows_same old new short.1.0

  -- while a line is looked up
  pub going_knows : (old new : LiveReaderValue) (command : CommandValue) (pending : PendingLookup) → LooksOn moves old command new pending → KnowsNoLess old new
  going_knows old new (scan query) (Page asked walk) on = trace_knows old new on.1.0 on.1.1.made on.1.2
  going_knows old new (scan query) (Keys walk) on = absurd on
  going_knows old new (scan query) (Copy count) on = absurd on
  going_knows old new (get keys) (Page asked walk) on = absurd on
  going_knows old new (get keys) (Keys walk) on = trace_knows old new on.1.0 on.1.1.made on.1.2
  going_knows old new (get keys) (Copy count) on = absurd on
  going_knows old new (copy need tablet) (Page asked walk) on = absurd on
  going_knows old new (copy need tablet) (Keys walk) on = absurd on
  going_knows old new (copy need tablet) (Copy count) on = knows_on old on.reached new (look_knows old on.reached (tablet, on.found) on.copied.looked) (knows on.reached new on.moved)
  going_knows old new (read key wanted) pending on = absurd on
  going_knows old new (adopt lines) pending on = absurd on
  going_knows old new (deliver deliveries) pending on = absurd on
  going_knows old new (lose tablet) pending on = absurd on
  going_knows old new marks pending on = absurd on
  going_knows old new (notices since) pending on = absurd on
  going_knows old new (relayout bounds) pending on = absurd on
  going_knows old new tablets pending on = absurd on

  -- after a line that was answered, or begun
  pub answer_knows : (old new : LiveReaderValue) (line : List ℕ) (answer : LineOutcome) → AnswersWith (AnswersLine moves) (LooksFor moves) old line new answer → KnowsNoLess old new
  answer_knows old new line (Done reply) answers = line_knows old new line reply answers
  answer_knows old new line (Begun pending) begun = going_knows old new begun.command pending begun.so_far

-- a reader that is alone stays as it is between two looks
pub stays_knows : (old new : LiveReaderValue) → Stays old new → KnowsNoLess old new
stays_knows old new same = knows_same old new same

pub moves_knows : (old new : LiveReaderValue) → KnowsNoLess old new → KnowsNoLess old new
moves_knows old new knows = knows

-- A later reply of a reader shows no older record.

-- what a reader knows after lines
pub lines_know : (moves : Moving LiveReaderValue) → ((was now : LiveReaderValue) → moves was now → KnowsNoLess was now) → (old : LiveReaderValue) (lines : List (List ℕ)) (replies : List Reply) (new : LiveReaderValue)
    → AllAnswer (AnswersLine moves) old lines replies new → KnowsNoLess old new
lines_know moves knows old [] [] new all = knows_same old new all
lines_know moves knows old [] (reply ∷ replies) new all = absurd all
lines_know moves knows old (line ∷ lines) [] new all = absurd all
lines_know moves knows old (line ∷ lines) (reply ∷ replies) new all =
    knows_on old all.0 new (line_knows moves knows old all.0 line reply all.1) (lines_know moves knows all.0 lines replies new all.2)

-- ---- the tablet of a number

set_there : {X : Type 0} (xs : List X) (n : ℕ) (x y : X) → slice_get xs n ≡ Some x → slice_get (set xs n y) n ≡ Some y
set_there [] n x y there = absurd (cc)
set_there (z ∷ xs) zero x y there = refl
set_there (z ∷ xs) (suc n) x y there = set_there xs n x y there

knows_at : (olds news : List TabletReaderValue) (n : ℕ) (old new : TabletReaderValue) → AllKnowMore olds news → slice_get olds n ≡ Some old → slice_get news n ≡ Some new → KnowsMore old new
knows_at [] news n old new know was now = absurd (cc)
knows_at (a ∷ olds) [] n old new know was now = absurd know
knows_at (a ∷ olds) (b ∷ news) zero old new know was now =
    let one : a ≡ old = cc in
    let two : b ≡ new = cc in
    subst (KnowsMore old) two (subst (λ (reader : TabletReaderValue). KnowsMore reader b) one know.0)
knows_at (a ∷ olds) (b ∷ news) (suc n) old new know was now = knows_at olds news n old new know.1 was now

honest_at : (broker : BrokerRecord) (readers : List TabletReaderValue) (n : ℕ) (reader : TabletReaderValue) → AllByRecursion (λ one. IsHonestList broker one.range one.seen) readers → slice_get readers n ≡ Some reader
    → IsHonestList broker reader.range reader.seen
honest_at broker [] n reader honest there = absurd (cc)
honest_at broker (one ∷ readers) zero reader honest there = let same : one ≡ reader = cc in subst (λ (r : TabletReaderValue). IsHonestList broker r.range r.seen) same honest.0
honest_at broker (one ∷ readers) (suc n) reader honest there = honest_at broker readers n reader honest.1 there

-- ---- what a look found

by_reach : (here cell : Option CellValue) (does : Bool) → (if does then Ok here else Err (fault.Behind (version_at here))) ≡ Ok cell → cell ≡ here
by_reach here cell true is = cc
by_reach here cell false is = absurd (cc)

by_status : (n : ℕ) (status : Status) (wanted : Option Stamp) (here cell : Option CellValue) → (unless (refusal_by n status) here >>= unless_behind wanted) ≡ Ok cell → (status ≡ Serving) × (cell ≡ here)
by_status n Serving wanted here cell is = (refl, by_reach here cell (reaches wanted (version_at here)) is)
by_status n (Recovering need) wanted here cell is = absurd (cc)

-- a state that serves, and its cell
record Found (key : List ℕ) (found : Option TabletStateValue) (cell : Option CellValue) : Type 0 where
  state : TabletStateValue
  is : found ≡ Some state
  serves : state.status ≡ Serving
  has : cell ≡ find bytes_cmp key state.cells

cell_found : (key : List ℕ) (wanted : Option Stamp) (n : ℕ) (found : Option TabletStateValue) (cell : Option CellValue) → read_of key wanted (n, found) ≡ Ok cell → Found key found cell
cell_found key wanted n None cell is = absurd (cc)
cell_found key wanted n (Some state) cell is =
    let so = by_status n state.status wanted (find bytes_cmp key state.cells) cell is in
    record { state = state; is = refl; serves = so.0; has = so.1 }

answered : (key : List ℕ) (wanted : Option Stamp) (n : ℕ) (found : Option TabletStateValue) (answer : Result (Option CellValue) ScanFault) (cell : Option CellValue)
    → AnswersAfter (cell_at key (n, found)) answer (read_of key wanted (n, found)) → answer ≡ Ok cell → Found key found cell
answered key wanted n found answer cell answers is =
    cell_found key wanted n found cell (subst (λ (a : Result (Option CellValue) ScanFault). AnswersAfter (cell_at key (n, found)) a (read_of key wanted (n, found))) is answers)

-- ---- two lookups of a key

module _ (broker : BrokerRecord) (first seen later last : LiveReaderValue) (key : List ℕ) (one other : Option Stamp) (reply again : Reply)
    (was : LooksUpKey first key one seen reply) (knows : KnowsNoLess seen later) (now : LooksUpKey later key other last again) where
  same_layout : later.layout ≡ first.layout
  same_layout = ap (λ (t : Tablets). t.layout) knows.tablets ∙ ap (λ (r : LiveReaderValue). r.layout) was.read.looked.4

  same_number : tablet_of later.layout key ≡ tablet_of first.layout key
  same_number = ap (λ (bounds : Bounds). tablet_of bounds key) same_layout

  more_known : KnowsMore was.read.looked.1 now.read.looked.0
  more_known =
      let before = was.read.looked in
      let after = now.read.looked in
      let n = tablet_of first.layout key in
      knows_at seen.tablet_readers later.tablet_readers n before.1 after.0 knows.known
      (subst (λ (r : LiveReaderValue). slice_get r.tablet_readers n ≡ Some before.1) (sym before.4) (set_there first.tablet_readers n before.0 before.1 before.2))
      (subst (λ (k : ℕ). slice_get later.tablet_readers k ≡ Some after.0) same_number after.2)

  last_honest : AllByRecursion (λ (reader : TabletReaderValue). IsHonestList broker reader.range reader.seen) last.tablet_readers → IsHonestList broker now.read.looked.1.range now.read.looked.1.seen
  last_honest honest =
      let after = now.read.looked in
      let n = tablet_of later.layout key in
      honest_at broker last.tablet_readers n after.1 honest
      (subst (λ (r : LiveReaderValue). slice_get r.tablet_readers n ≡ Some after.1) (sym after.4) (set_there later.tablet_readers n after.0 after.1 after.2))

  pub no_older : AllByRecursion (λ (reader : TabletReaderValue). IsHonestList broker reader.range reader.seen) last.tablet_readers → (cell further : Option CellValue) → was.answer ≡ Ok cell → now.answer ≡ Ok further → HoldsStill cell further
  no_older honest cell further is so =
      let before = was.read.looked in
      let after = now.read.looked in
      let had = answered key one (tablet_of first.layout key) was.found was.answer cell was.read.answers is in
      let has = answered key other (tablet_of later.layout key) now.found now.answer further now.read.answers so in
      let finds : Finds before.0 had.state before.1 = subst (λ (found : Option TabletStateValue). Sees before.0 found before.1) had.is before.3 in
      let finds_later : Finds after.0 has.state after.1 = subst (λ (found : Option TabletStateValue). Sees after.0 found after.1) has.is after.3 in
      let held = never_back_across broker before.0 before.1 after.0 after.1 had.state has.state finds more_known finds_later (last_honest honest) had.serves has.serves key in
      subst (λ (c : Option CellValue). HoldsStill c further) (sym had.has) (subst (HoldsStill (find bytes_cmp key had.state.cells)) (sym has.has) held)
