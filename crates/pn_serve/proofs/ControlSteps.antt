-- Steps of control sessions, by what the program did, and tablets that are counted one after another.
use Rattle.std.proofs.Common.{◌≡◌, ℕ, suc, ◌+◌, List, [], ◌∷◌, ◌++◌, length, Option, Some, Result, Ok, Err, Vec, refl, ap, subst, arith, ◌≢◌, ◌⊎◌, ◌<◌, Bool, true, false, inl, inr, sym, ◌∙◌}
use Rattle.std.specs.Prelude.{IfOk, MatchResult}
use Rattle.std.specs.declared.alloc.Global.{Global}
use Rattle.std.proofs.lemmas.Bool.{cases_lt}
use Rattle.std.proofs.lemmas.Bool.Decides.{nat_tests}
use Rattle.pn_line.specs.Line.{kept_bytes}
use Rattle.pn_line.proofs.LineLaws.{kept_bytes-short, length-kept_bytes_long}
use Rattle.pn_join.specs.declared.memory.NoMemory.{NoMemory}
use Rattle.pn_json.specs.Tokens.{line_of}
use Rattle.pn_tablet.specs.Tablets.{TabletStateValue}
use Rattle.pn_tablet.specs.declared.counted_cells.RecordCounts.{RecordCounts}
use Rattle.pn_tablet.specs.Copies.{TabletCopyValue}
use Rattle.pn_tablet.specs.CopyReading.{copy_at}
use Rattle.pn_tablet.specs.declared.fault.CopyTextFault.{CopyTextFault}
use Rattle.pn_tablet.specs.declared.fault.CopyTextFault.TheVariants as copy_fault
use Rattle.pn_scan.specs.declared.view.ScanFault.{ScanFault}
use Rattle.pn_scan.specs.Paging.{Stays}
use Rattle.pn_scan.specs.declared.view.ScanFault.TheVariants as fault
use Rattle.pn_protocol.specs.declared.reply.stats.TabletStats.{TabletStats}
use Rattle.pn_protocol.proofs.CommandLines.{control_too_long as too_long}
use Rattle.pn_protocol.specs.Command.Controls.{ControlValue, control_at, script, notices, advance, stats, stop}
use Rattle.pn_protocol.specs.Command.Lines.{is_too_long}
use Rattle.pn_protocol.specs.Reply.Faults.{Refuses}
use Rattle.pn_protocol.specs.Reply.Stats.{stats_data}
use Rattle.pn_protocol.specs.declared.reply.stats.Stats.{Stats}
use Rattle.pn_protocol.specs.declared.refusal.Refusal.{Refusal}
use Rattle.pn_protocol.specs.declared.refusal.Refusal.TheVariants.{TooLong, NotJson, BadShape, ReadOnly, OutOfRange, Memory}
use Rattle.pn_protocol.specs.declared.reply.Reply.{Reply}
use Rattle.pn_protocol.specs.declared.reply.Reply.TheVariants.{Adopted, Changed, Copy, Lost, Page, Record, Records, Relaid, Stopping, Silent, Text, Refused, NotTaken}
use Rattle.pn_protocol.specs.declared.reply.refusals.CommandFault.TheVariants.{CopyText}
use Rattle.pn_protocol.specs.Command.Meaning as command
use Rattle.pn_live.specs.Lookups.{IsCounted}
use Rattle.pn_live.specs.Readers.{LiveReaderValue, Tablets}
use Rattle.pn_serve.specs.Control.Steps.{AreCounted, CountsTablets, stats_of, AdoptsRead, DoesTask, ObeysControl, ObeysScript, RepliesWith, Says, ShowsCounts, StepsAs, StepsBy, StepsLast, task_of}
use Rattle.pn_serve.specs.Session.Resuming.{KnowsNoLess}
use Rattle.pn_serve.proofs.Knowing.{knows_on, knows_same, look_knows, command_knows, stays_knows}
use Rattle.pn_serve.specs.Control.Commands.{said_by}
use Rattle.pn_serve.specs.Session.Lines.{LooksUp}
use Rattle.pn_serve.specs.declared.control.steps.ControlStep.{ControlStep}
use Rattle.pn_serve.specs.declared.control.steps.ControlStep.TheVariants.{Replies, Announces, Stops, Ends}
use Rattle.pn_serve.specs.declared.control.steps.ScriptTask.{ScriptTask}

-- Tablets that are counted one after another.

no_more : (n : ℕ) → n + 0 ≡ n
no_more n = omega arith

later : (n l : ℕ) → n + suc l ≡ suc n + l
later n l = omega arith

-- one tablet more
pub one_counted : (first : ℕ) (shown : List TabletStats) (old mid new : LiveReaderValue) (counts : RecordCounts) (found : Option TabletStateValue)
    → AreCounted old first shown mid → IsCounted mid new (Some counts) (first + length shown, found) → AreCounted old first (shown ++ stats_of counts ∷ []) new
one_counted first [] old mid new counts found are is = (
  new,
  counts,
  found,
  subst (λ (r : LiveReaderValue). IsCounted r new (Some counts) (first, found)) are (subst (λ n. IsCounted mid new (Some counts) (n, found)) (no_more first) is),
  refl,
  refl,
)
one_counted first (s ∷ more) old mid new counts found are is = (
  are.0,
  are.1,
  are.2,
  are.3,
  are.4,
  one_counted (suc first) more are.0 mid new counts found are.5 (subst (λ n. IsCounted mid new (Some counts) (n, found)) (later first (length more)) is),
)

pub counted_knows : (first : ℕ) (shown : List TabletStats) (old new : LiveReaderValue) → AreCounted old first shown new → KnowsNoLess old new
counted_knows first [] old new are = knows_same old new are
counted_knows first (s ∷ more) old new are = knows_on old are.0 new (look_knows old are.0 (first, are.2) are.3.looked) (counted_knows (suc first) more are.0 new are.5)

-- the reader knows no less
pub tablets_know : (old new : LiveReaderValue) (answer : Result (Vec TabletStats Global) ScanFault) → CountsTablets old new answer → KnowsNoLess old new
tablets_know old new (Ok shown) counts = counted_knows 0 shown.items old new counts.0
tablets_know old new (Err fault.NoEntry) ends = knows_on old ends.between new (counted_knows 0 ends.before old ends.between ends.counted) (look_knows ends.between new (length ends.before, ends.found) ends.refused.looked)
tablets_know old new (Err fault.Memory) same = knows_same old new same
tablets_know old new (Err (fault.Recovering tablet)) never = absurd never
tablets_know old new (Err (fault.Behind has)) never = absurd never

-- the layout stays
pub counted_layout : (first : ℕ) (shown : List TabletStats) (old new : LiveReaderValue) → AreCounted old first shown new → new.layout ≡ old.layout
counted_layout first shown old new are = ap (λ (t : Tablets). t.layout) (counted_knows first shown old new are).tablets

-- Steps of control sessions, by what the program did.

-- a line that was written says so, or memory ran out
pub says_line : (line : List ℕ) (written : Result (Vec ℕ Global) NoMemory) (shown : Reply) → IfOk written (λ text. text.items ≡ line)
    → MatchResult written (λ text. shown ≡ Text text) (λ _. shown ≡ Refused Memory) → Says (record { text = line; refused = false }) shown
says_line line (Ok text) shown is shows = inl (ap said_by shows ∙ (λ i. record { text = is i; refused = false }))
says_line line (Err none) shown is shows = inr shows

-- so what a server has done
pub shows_done : (done : Stats) (tablets : Vec TabletStats Global) (shown : Reply) → done.tablets ≡ tablets → Says (record { text = line_of (stats_data done); refused = false }) shown
    → ShowsCounts (Ok tablets) shown
shows_done done tablets shown same (inl said) = inl (done, same, said)
shows_done done tablets shown same (inr none) = inr none

-- a text that is a copy
pub read_copy : (text : List ℕ) (copy : TabletCopyValue) (step : ControlStep) → copy_at text ≡ Ok copy → AdoptsRead (Ok copy) step → AdoptsRead (copy_at text) step ⊎ (step ≡ Replies (Refused Memory))
read_copy text copy step is adopts = inl (subst (λ (r : Result TabletCopyValue CopyTextFault). AdoptsRead r step) (sym is) adopts)

-- or that is none
pub read_fault : (text : List ℕ) (why : CopyTextFault) (shown : Reply) → (why ≢ copy_fault.Memory → copy_at text ≡ Err why) → Refuses (CopyText why) shown
    → AdoptsRead (copy_at text) (Replies shown) ⊎ (Replies shown ≡ Replies (Refused Memory))
read_fault text why (NotTaken said) is refuses = inl (subst (λ (r : Result TabletCopyValue CopyTextFault). AdoptsRead r (Replies (NotTaken said))) (sym (is refuses.0)) refuses)
read_fault text why (Adopted tablet) is refuses = inr (ap Replies refuses)
read_fault text why (Changed count) is refuses = inr (ap Replies refuses)
read_fault text why (Copy copy) is refuses = inr (ap Replies refuses)
read_fault text why (Page page) is refuses = inr (ap Replies refuses)
read_fault text why (Record key cell) is refuses = inr (ap Replies refuses)
read_fault text why (Records keys cells) is refuses = inr (ap Replies refuses)
read_fault text why (Lost tablet) is refuses = inr (ap Replies refuses)
read_fault text why (Relaid count) is refuses = inr (ap Replies refuses)
read_fault text why (Stopping seconds) is refuses = inr (ap Replies refuses)
read_fault text why Silent is refuses = inr (ap Replies refuses)
read_fault text why (Text bytes) is refuses = inr (ap Replies refuses)
read_fault text why (Refused refusal) is refuses = inr (ap Replies refuses)

-- a command that was done by whom it is for
pub done_as : (old : LiveReaderValue) (asked : command.CommandValue) (new : LiveReaderValue) (step : ControlStep) (found task : ScriptTask) → found ≡ task_of asked → found ≡ task → DoesTask task old asked new step
    → ObeysScript old asked new step
done_as old asked new step found task is same does = subst (λ (t : ScriptTask). DoesTask t old asked new step) (sym same ∙ is) does

-- a line that says this command
pub steps_said : (old new : LiveReaderValue) (line : List ℕ) (asked : ControlValue) (step : ControlStep) → control_at line ≡ Ok asked → ObeysControl old asked new step → StepsBy old line new step
steps_said old new line asked step said obeys = inl (subst (λ (r : Result ControlValue Refusal). StepsAs old r new step) (sym said) obeys)

steps_refused : (old : LiveReaderValue) (line : List ℕ) (refusal : Refusal) → control_at line ≡ Err refusal → StepsBy old line old (Replies (Refused refusal))
steps_refused old line refusal said = inl (subst (λ (r : Result ControlValue Refusal). StepsAs old r old (Replies (Refused refusal))) (sym said) (refl, refl))

-- a line that was refused, or for which memory ran out
pub steps_fault : (old : LiveReaderValue) (line : List ℕ) (refusal : Refusal) → (refusal ≢ Memory → control_at line ≡ Err refusal) → (refusal ≡ Memory → is_too_long line ≡ false) → StepsBy old line old (Replies (Refused refusal))
steps_fault old line Memory is short = inr (short refl, refl, refl)
steps_fault old line TooLong is short = steps_refused old line TooLong (is (λ same. cc))
steps_fault old line NotJson is short = steps_refused old line NotJson (is (λ same. cc))
steps_fault old line (BadShape part) is short = steps_refused old line (BadShape part) (is (λ same. cc))
steps_fault old line ReadOnly is short = steps_refused old line ReadOnly (is (λ same. cc))
steps_fault old line (OutOfRange part) is short = steps_refused old line (OutOfRange part) (is (λ same. cc))

-- a line says what its kept bytes say
said_kept : (line : List ℕ) → (control_at (kept_bytes line) ≡ control_at line) × (is_too_long (kept_bytes line) ≡ is_too_long line)
said_kept line = elim (cases_lt 65536 (length line)) [
  | inl long ↦
      (
      let long_too : 65536 < length (kept_bytes line) = omega (arith, length-kept_bytes_long line long) in
      let here : is_too_long (kept_bytes line) ≡ true = grind (arith, nat_tests) in
      let there : is_too_long line ≡ true = grind (arith, nat_tests) in
      (too_long (kept_bytes line) long_too ∙ sym (too_long line long), here ∙ sym there)
      )
  | inr short ↦ (ap control_at (kept_bytes-short line short), ap is_too_long (kept_bytes-short line short))
]

steps_kept : (old new : LiveReaderValue) (line : List ℕ) (step : ControlStep) → StepsBy old (kept_bytes line) new step → StepsBy old line new step
steps_kept old new line step steps =
    let same = said_kept line in
    subst (λ (r : Result ControlValue Refusal). StepsAs old r new step ⊎ ((is_too_long line ≡ false) × (new ≡ old) × (step ≡ Replies (Refused Memory)))) same.0
    (subst (λ (b : Bool). StepsAs old (control_at (kept_bytes line)) new step ⊎ ((b ≡ false) × (new ≡ old) × (step ≡ Replies (Refused Memory)))) same.1 steps)

-- so a line that was read
pub steps_so_far : (old new : LiveReaderValue) (bytes text : List ℕ) (step : ControlStep) → bytes ≡ kept_bytes text → StepsBy old bytes new step → StepsBy old text new step
steps_so_far old new bytes text step is steps = steps_kept old new text step (subst (λ (b : List ℕ). StepsBy old b new step) is steps)

pub lasts_so_far : (old new : LiveReaderValue) (bytes text : List ℕ) (step : ControlStep) → bytes ≡ kept_bytes text → StepsLast old bytes new step → StepsLast old text new step
lasts_so_far old new bytes text step is last = record { first = last.first; steps = steps_so_far old new bytes text last.first is last.steps; lasts = last.lasts }

-- the reader never knows less
replied_knows : (old new : LiveReaderValue) (asked : command.CommandValue) (step : ControlStep) → RepliesWith (λ shown. LooksUp Stays old asked new shown) step → KnowsNoLess old new
replied_knows old new asked (Replies shown) looks = command_knows Stays stays_knows old new asked shown looks
replied_knows old new asked (Announces lines) looks = absurd looks
replied_knows old new asked (Stops seconds) looks = absurd looks
replied_knows old new asked Ends looks = absurd looks

script_knows : (old new : LiveReaderValue) (asked : command.CommandValue) (step : ControlStep) → ObeysScript old asked new step → KnowsNoLess old new
script_knows old new (command.adopt lines) step obeys = knows_same old new obeys.0
script_knows old new (command.lose tablet) step obeys = knows_same old new obeys.0
script_knows old new command.marks step obeys = knows_same old new obeys.0
script_knows old new command.tablets step obeys = knows_same old new obeys.0
script_knows old new (command.copy need tablet) step obeys = replied_knows old new (command.copy need tablet) step obeys
script_knows old new (command.deliver deliveries) step obeys = replied_knows old new (command.deliver deliveries) step obeys
script_knows old new (command.get keys) step obeys = replied_knows old new (command.get keys) step obeys
script_knows old new (command.notices since) step obeys = replied_knows old new (command.notices since) step obeys
script_knows old new (command.read key version) step obeys = replied_knows old new (command.read key version) step obeys
script_knows old new (command.relayout bounds) step obeys = replied_knows old new (command.relayout bounds) step obeys
script_knows old new (command.scan query) step obeys = replied_knows old new (command.scan query) step obeys

asked_knows : (old new : LiveReaderValue) (asked : ControlValue) (step : ControlStep) → ObeysControl old asked new step → KnowsNoLess old new
asked_knows old new (script asked) step obeys = script_knows old new asked step obeys
asked_knows old new (notices since wait) step obeys = knows_same old new obeys.0
asked_knows old new advance step obeys = knows_same old new obeys.0
asked_knows old new stats step obeys = tablets_know old new obeys.answer obeys.counts
asked_knows old new (stop seconds) step obeys = knows_same old new obeys.0

as_knows : (old new : LiveReaderValue) (said : Result ControlValue Refusal) (step : ControlStep) → StepsAs old said new step → KnowsNoLess old new
as_knows old new (Ok asked) step steps = asked_knows old new asked step steps
as_knows old new (Err refusal) step steps = knows_same old new steps.0

pub steps_know : (old new : LiveReaderValue) (line : List ℕ) (step : ControlStep) → StepsBy old line new step → KnowsNoLess old new
steps_know old new line step (inl steps) = as_knows old new (control_at line) step steps
steps_know old new line step (inr none) = knows_same old new none.1

pub last_knows : (old new : LiveReaderValue) (part : List ℕ) (step : ControlStep) → StepsLast old part new step → KnowsNoLess old new
last_knows old new part step last = steps_know old new part last.first last.steps
