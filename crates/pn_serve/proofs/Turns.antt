-- Turns of lines, by what the program did.
use Rattle.std.proofs.Common.{◌≡◌, ℕ, Bool, true, false, if◌then◌else◌, List, [], ◌∷◌, length, refl, sym, ap, ◌∙◌, subst, inl, inr, arith}
use Rattle.std.proofs.lemmas.Bool.{cases_lt}
use Rattle.std.proofs.lemmas.Bool.Decides.{nat_tests}
use Rattle.std.specs.Prelude.{◌≢◌, Result, Ok, Err, Vec, MatchResult}
use Rattle.serde_json.specs.Data.{Data}
use Rattle.pn_scan.specs.Views.{AnswersAfter}
use Rattle.pn_scan.specs.declared.view.ScanFault.{ScanFault}
use Rattle.pn_scan.specs.declared.view.ScanFault.TheVariants as scan
use Rattle.std.specs.declared.alloc.Global.{Global}
use Rattle.pn_join.specs.Marks.{Positions}
use Rattle.pn_stream.specs.Brokers.{DeliveryValue}
use Rattle.pn_tablet.specs.Tablets.{TabletStateValue}
use Rattle.pn_tablet.specs.declared.state.TabletOp.{TabletOp}
use Rattle.pn_apply.specs.Applying.{AreOldOrStepped}
use Rattle.pn_region.specs.Rounds.{is_memory, new_marks, joins, IsHalfTaken, Leaves, round as taken_round}
use Rattle.pn_region.specs.Log.{LoggedRegion, refused_log, with_break}
use Rattle.pn_region.specs.Regions.{RegionValue}
use Rattle.pn_region.specs.declared.fault.RoundFault.{RoundFault}
use Rattle.pn_region.specs.declared.fault.RoundFault.TheVariants as round_fault
use Rattle.pn_tablet.specs.Steps.{Refuses}
use Rattle.pn_protocol.specs.declared.reply.Reply.{Reply}
use Rattle.pn_protocol.specs.declared.reply.Reply.TheVariants.{Adopted, Changed, Copy, Lost, Page, Record, Records, Relaid, Silent, Stopping, Text, Refused, NotTaken}
use Rattle.pn_protocol.specs.declared.refusal.Refusal.{Refusal}
use Rattle.pn_protocol.specs.declared.refusal.Refusal.TheVariants.{TooLong, NotJson, BadShape, ReadOnly, OutOfRange, Memory}
use Rattle.pn_protocol.specs.Command.Meaning.{CommandValue, deliver}
use Rattle.pn_protocol.specs.Command.Lines.{command_at, is_too_long}
use Rattle.pn_protocol.proofs.CommandLines.{too_long}
use Rattle.pn_serve.specs.Machine.Outcomes.{Outcome, Machine, done, line, call, round, awaits_command, Turn, machine_over, refusal_turn, reply_turn}
use Rattle.pn_serve.specs.Machine.Turns.{some_after, after_part_with_marks, command_turn, turn_of, outcome_at, turn, IsReadUnless, Turned, TurnedBy, AnswersBy, Obeys}
use Rattle.pn_serve.specs.Machine.Doing.{delivery_turn, lookup_turn}
use Rattle.pn_protocol.specs.Reply.Texts.{ShowsFound}
use Rattle.pn_protocol.specs.Reply.Faults.{Tells, Refuses as RefusesBy, lookup_fault_data, round_fault_data}
use Rattle.pn_protocol.specs.declared.reply.refusals.CommandFault.TheVariants as command_fault
use Rattle.pn_json.specs.Answers.{ShowsUnless}
use Rattle.pn_json.specs.Tokens.{line_of}

-- what a reply comes to that tells this, or that memory ran out
pub told_or_out : (P : Reply → Type 0) (right : Type 0) (said : Data) (reply : Reply) → ((text : Vec ℕ Global) → right → text.items ≡ line_of said → P (NotTaken text)) → P (Refused Memory) → Tells right said reply → P reply
told_or_out P right said (NotTaken text) tells out (knows, says) = tells text knows says
told_or_out P right said (Adopted tablet) tells out is = subst P (sym is) out
told_or_out P right said (Changed count) tells out is = subst P (sym is) out
told_or_out P right said (Copy copy) tells out is = subst P (sym is) out
told_or_out P right said (Page page) tells out is = subst P (sym is) out
told_or_out P right said (Record key cell) tells out is = subst P (sym is) out
told_or_out P right said (Records keys cells) tells out is = subst P (sym is) out
told_or_out P right said (Lost tablet) tells out is = subst P (sym is) out
told_or_out P right said (Relaid count) tells out is = subst P (sym is) out
told_or_out P right said (Stopping seconds) tells out is = subst P (sym is) out
told_or_out P right said Silent tells out is = subst P (sym is) out
told_or_out P right said (Text text) tells out is = subst P (sym is) out
told_or_out P right said (Refused refusal) tells out is = subst P (sym is) out

-- out of memory in a call, a command is refused so
abbrev pub RunsOut : LoggedRegion → CommandValue → Type 0
RunsOut region command = command_turn (machine_over region) call command ≡ refusal_turn (machine_over region) Memory

-- memory ran out, and nothing changed
pub turned_call : (old new : LoggedRegion) (command : CommandValue) → RunsOut old command → new ≡ old → Obeys (machine_over old) command (machine_over new) (Refused Memory)
turned_call old new command out same = record {
  outcome = call;
  machine_is = ap (λ (t : Turn). t.machine) out ∙ ap machine_over (sym same);
  replied = ap (λ (t : Turn). t.reply) out;
  refused = ap (λ (t : Turn). t.refused) out;
}

-- an outcome of a command is one of its line
abbrev pub read_whole : Outcome → Outcome
read_whole line = done
read_whole outcome = outcome

pub read_always : (may : Type 0) (outcome : Outcome) → IsReadUnless may (read_whole outcome)
read_always may done = tt
read_always may line = tt
read_always may call = tt
read_always may (round flags) = tt

as_obeyed : (machine : Machine) (outcome : Outcome) (command : CommandValue) → turn_of machine (read_whole outcome) (Ok command) ≡ command_turn machine outcome command
as_obeyed machine done command = refl
as_obeyed machine line command = refl
as_obeyed machine call command = refl
as_obeyed machine (round flags) command = refl

-- a line that is a command is not too long
pub within : (text : List ℕ) (command : CommandValue) → command_at text ≡ Ok command → is_too_long text ≡ false
within text command said = elim (cases_lt 65536 (length text)) [
  | inl long ↦ absurd (let refused : command_at text ≡ Err TooLong = too_long _ text long in cc)
  | inr short ↦ grind (arith, nat_tests)
]

-- a line that is not too long goes by its outcome
pub as_it_goes : (outcome : Outcome) (text : List ℕ) → is_too_long text ≡ false → outcome_at outcome text ≡ outcome
as_it_goes outcome text short = ap (λ (test : Bool). if test then done else outcome) short

-- done is done, whatever the length
pub as_said : (test : Bool) → (if test then done else done) ≡ done
as_said true = refl
as_said false = refl

-- equal turns come to the same machine and reply
pub turned_read : (may : Type 0) (turns others : Outcome → Turn) (machine : Machine) (reply : Reply) (is : Turned turns machine reply) (outcome : Outcome) → IsReadUnless may outcome → others outcome ≡ turns is.outcome
    → TurnedBy may others machine reply
turned_read may turns others machine reply is outcome read same = record {
  outcome = outcome;
  read = read;
  machine_is = ap (λ (t : Turn). t.machine) same ∙ is.machine_is;
  replied = ap (λ (t : Turn). t.reply) same ∙ is.replied;
  refused = ap (λ (t : Turn). t.refused) same ∙ is.refused;
}

pub turned_as : (may : Type 0) (turns others : Outcome → Turn) (machine : Machine) (reply : Reply) (is : TurnedBy ⊥ turns machine reply) (outcome : Outcome) → IsReadUnless may outcome → others outcome ≡ turns is.outcome
    → TurnedBy may others machine reply
turned_as may turns others machine reply is outcome read same = record {
  outcome = outcome;
  read = read;
  machine_is = ap (λ (t : Turn). t.machine) same ∙ is.machine_is;
  replied = ap (λ (t : Turn). t.reply) same ∙ is.replied;
  refused = ap (λ (t : Turn). t.refused) same ∙ is.refused;
}

-- a line that was read whatever memory does, was read
weaker : (may : Type 0) (outcome : Outcome) → IsReadUnless ⊥ outcome → IsReadUnless may outcome
weaker may done read = tt
weaker may line read = absurd read
weaker may call read = tt
weaker may (round flags) read = tt

pub turned_always : (may : Type 0) (turns : Outcome → Turn) (machine : Machine) (reply : Reply) → TurnedBy ⊥ turns machine reply → TurnedBy may turns machine reply
turned_always may turns machine reply is = turned_as may turns turns machine reply is is.outcome (weaker may is.outcome is.read) refl

-- the command of a line was run
pub turned_said : (may : Type 0) (text : List ℕ) (command : CommandValue) (old : LoggedRegion) (new : Machine) (reply : Reply) → command_at text ≡ Ok command → Obeys (machine_over old) command new reply → AnswersBy may (machine_over old) text new reply
turned_said may text command old new reply said obeys =
    let outcome = read_whole obeys.outcome in
    turned_read may (λ outcome. command_turn (machine_over old) outcome command) (λ outcome. turn (machine_over old) outcome text) new reply obeys outcome (read_always may obeys.outcome)
    (ap (λ (o : Outcome). turn_of (machine_over old) o (command_at text)) (as_it_goes outcome text (within text command said))
    ∙ ap (turn_of (machine_over old) outcome) said ∙ as_obeyed (machine_over old) obeys.outcome command)

-- memory ran out before a command was found, in a line that is not too long
pub turned_unread : (may : Type 0) (text : List ℕ) (region : LoggedRegion) → may → is_too_long text ≡ false → AnswersBy may (machine_over region) text (machine_over region) (Refused Memory)
turned_unread may text region out short =
    let same : turn (machine_over region) line text ≡ refusal_turn (machine_over region) Memory = ap (λ (o : Outcome). turn_of (machine_over region) o (command_at text)) (as_it_goes line text short) in
    record { outcome = line; read = out; machine_is = ap (λ (t : Turn). t.machine) same; replied = ap (λ (t : Turn). t.reply) same; refused = ap (λ (t : Turn). t.refused) same }

-- the line was refused
pub turned_fault : (may : Type 0) (text : List ℕ) (region : LoggedRegion) (refusal : Refusal) → command_at text ≡ Err refusal → AnswersBy may (machine_over region) text (machine_over region) (Refused refusal)
turned_fault may text region refusal said =
    let same : turn (machine_over region) done text ≡ refusal_turn (machine_over region) refusal =
    ap (λ (o : Outcome). turn_of (machine_over region) o (command_at text)) (as_said (is_too_long text)) ∙ ap (turn_of (machine_over region) done) said in
    record { outcome = done; read = tt; machine_is = ap (λ (t : Turn). t.machine) same; replied = ap (λ (t : Turn). t.reply) same; refused = ap (λ (t : Turn). t.refused) same }

-- it was refused, or memory ran out before a command was found
pub turned_err : (may : Type 0) (text : List ℕ) (region : LoggedRegion) (refusal : Refusal) → (refusal ≢ Memory → command_at text ≡ Err refusal) → (refusal ≡ Memory → is_too_long text ≡ false) → (refusal ≡ Memory → may)
    → AnswersBy may (machine_over region) text (machine_over region) (Refused refusal)
turned_err may text region Memory is short out = turned_unread may text region (out refl) (short refl)
turned_err may text region TooLong is short out = turned_fault may text region TooLong (is (λ same. cc))
turned_err may text region NotJson is short out = turned_fault may text region NotJson (is (λ same. cc))
turned_err may text region (BadShape part) is short out = turned_fault may text region (BadShape part) (is (λ same. cc))
turned_err may text region ReadOnly is short out = turned_fault may text region ReadOnly (is (λ same. cc))
turned_err may text region (OutOfRange part) is short out = turned_fault may text region (OutOfRange part) (is (λ same. cc))

-- a lookup of the region, and what is right for it
module _ {A : Type 0} (region : LoggedRegion) (command : CommandValue) (show : A → Data) (right : Result A ScanFault) (does : command_turn (machine_over region) done command ≡ lookup_turn (machine_over region) show right) (out : RunsOut region command) where
  no_memory : (reply : Reply) → reply ≡ Refused Memory → Obeys (machine_over region) command (machine_over region) reply
  no_memory reply is = subst (λ (r : Reply). Obeys (machine_over region) command (machine_over region) r) (sym is) (turned_call region region command out refl)

  -- it was refused
  pub turned_why : (fault : ScanFault) (reply : Reply) → (fault ≢ scan.Memory → right ≡ Err fault) → RefusesBy (command_fault.Lookup fault) reply → Obeys (machine_over region) command (machine_over region) reply
  turned_why fault reply is says =
      told_or_out (λ (r : Reply). Obeys (machine_over region) command (machine_over region) r) (fault ≢ scan.Memory) (lookup_fault_data fault) reply (λ text other said. tells text (is other) said) (turned_call region region command out refl) says
    where
      tells : (text : Vec ℕ Global) → right ≡ Err fault → text.items ≡ line_of (lookup_fault_data fault) → Obeys (machine_over region) command (machine_over region) (NotTaken text)
      tells text is said =
          let all : command_turn (machine_over region) done command ≡ lookup_turn (machine_over region) show (Err fault) = does ∙ ap (lookup_turn (machine_over region) show) is in record {
            outcome = done;
            machine_is = ap (λ (t : Turn). t.machine) all;
            replied = ap (λ (t : Turn). t.reply) all ∙ sym said;
            refused = ap (λ (t : Turn). t.refused) all;
          }

  -- what it found was shown, or there was no memory for the text
  pub turned_shown : {B : Type 0} (seen : B → A) (found : Result B ScanFault) (reply : Reply) → ShowsUnless scan.Memory seen found right → ShowsFound (λ b. show (seen b)) found reply
      → Obeys (machine_over region) command (machine_over region) reply
  turned_shown seen (Ok found) reply is (inl shows) =
      let all : command_turn (machine_over region) done command ≡ reply_turn (machine_over region) (line_of (show (seen found))) = does ∙ ap (lookup_turn (machine_over region) show) is in record {
        outcome = done;
        machine_is = ap (λ (t : Turn). t.machine) all;
        replied = ap (λ (t : Turn). t.reply) all ∙ sym shows.1;
        refused = ap (λ (t : Turn). t.refused) all ∙ sym shows.0;
      }
  turned_shown seen (Ok found) reply is (inr none) = no_memory reply none
  turned_shown seen (Err fault) reply is refuses = turned_why fault reply is refuses

-- what was read is right, or memory ran out
pub read_shows : {A : Type 0} (before right found : Result A ScanFault) → AnswersAfter before found right → ShowsUnless scan.Memory (λ found. found) found right
read_shows before right (Ok found) is = is
read_shows before right (Err scan.Memory) is = λ other. absurd (other refl)
read_shows before right (Err (scan.Recovering tablet)) is = λ other. is
read_shows before right (Err (scan.Behind has)) is = λ other. is
read_shows before right (Err scan.NoEntry) is = λ other. is

module _ (old new : LoggedRegion) (deliveries : List DeliveryValue) where
  -- the round was refused
  pub turned_refused : (fault : RoundFault) (text : Vec ℕ Global) → taken_round old.state deliveries ≡ Err fault → new.state ≡ old.state → new.log ≡ old.log → text.items ≡ line_of (round_fault_data fault) → Obeys (machine_over old) (deliver deliveries) (machine_over new) (NotTaken text)
  turned_refused fault text refused same kept is = record {
    outcome = done;
    machine_is = ap (λ (r : Result RegionValue RoundFault). (delivery_turn (machine_over old) r).machine) refused ∙ (λ i. record { mode = awaits_command; region = sym same i; log = sym kept i });
    replied = ap (λ (r : Result RegionValue RoundFault). (delivery_turn (machine_over old) r).reply) refused ∙ sym is;
    refused = ap (λ (r : Result RegionValue RoundFault). (delivery_turn (machine_over old) r).refused) refused;
  }

-- which tablets took their part
which : (ts us : List TabletStateValue) (ops : List TabletOp) → AreOldOrStepped ts ops us → (flags : List Bool) × (us ≡ some_after flags ts ops)
which [] [] [] half = ([], refl)
which [] [] (op ∷ ops) half = absurd half
which [] (u ∷ us) ops half = absurd (none ops half)
  where
    none : (ops : List TabletOp) → AreOldOrStepped [] ops (u ∷ us) → ⊥
    none [] half = half
    none (op ∷ ops) half = half
which (t ∷ ts) us [] half = absurd (none us half)
  where
    none : (us : List TabletStateValue) → AreOldOrStepped (t ∷ ts) [] us → ⊥
    none [] half = half
    none (u ∷ us) half = half
which (t ∷ ts) [] (op ∷ ops) half = absurd half
which (t ∷ ts) (u ∷ us) (op ∷ ops) half =
    let (flags, is) = which ts us ops half.1 in elim half.0 [
      | inl same ↦ (false ∷ flags, λ i. same i ∷ is i)
      | inr taken ↦ (true ∷ flags, λ i. taken i ∷ is i)
    ]

half_found : (old new : RegionValue) (deliveries : List DeliveryValue) (right : Result Positions RoundFault) → new.layout ≡ old.layout → new.marks ≡ old.marks
    → MatchResult right (λ next. AreOldOrStepped old.tablets (joins old deliveries next) new.tablets) (λ fault. new.tablets ≡ old.tablets)
    → (flags : List Bool) × (after_part_with_marks old deliveries flags right ≡ new)
half_found old new deliveries (Ok next) layout positions half =
    let (flags, is) = which old.tablets new.tablets (joins old deliveries next) half in
    (flags, λ i. record { layout = sym layout i; tablets = sym is i; marks = sym positions i })
half_found old new deliveries (Err fault) layout positions same = ([], λ i. record { layout = sym layout i; tablets = sym same i; marks = sym positions i })

-- the round ran out of memory
pub turned_half : (old new : LoggedRegion) (deliveries : List DeliveryValue) → IsHalfTaken old.state deliveries new.state → new.log ≡ with_break old.log → Obeys (machine_over old) (deliver deliveries) (machine_over new) (Refused Memory)
turned_half old new deliveries half broken =
    let (flags, is) = half_found old.state new.state deliveries (new_marks old.state.marks deliveries) half.0 half.1 half.2 in
    record { outcome = round flags; machine_is = λ i. record { mode = awaits_command; region = is i; log = sym broken i }; replied = refl; refused = refl }

-- the round has a fault, and the reply says which, or that memory ran out
module _ (old new : LoggedRegion) (deliveries : List DeliveryValue) where
  abbrev Comes : Reply → Type 0
  Comes reply = Obeys (machine_over old) (deliver deliveries) (machine_over new) reply

  refused_whole : (fault : RoundFault) (reply : Reply) → taken_round old.state deliveries ≡ Err fault → new.state ≡ old.state → new.log ≡ old.log → Tells (fault ≢ round_fault.Memory) (round_fault_data fault) reply → Comes reply
  refused_whole fault reply refused same kept tells =
      told_or_out Comes (fault ≢ round_fault.Memory) (round_fault_data fault) reply (λ text other says. turned_refused old new deliveries fault text refused same kept says)
      (turned_call old new (deliver deliveries) refl (λ i. record { state = same i; log = kept i })) tells

  pub turned_fault_of_round : (fault : RoundFault) (reply : Reply) → Refuses is_memory fault (taken_round old.state deliveries) → Leaves fault old.state deliveries new.state → new.log ≡ refused_log old.log fault
      → RefusesBy (command_fault.Round fault) reply → Comes reply
  turned_fault_of_round (round_fault.Gap stream wanted got) reply refused leaves kept tells = refused_whole (round_fault.Gap stream wanted got) reply refused leaves kept tells
  turned_fault_of_round round_fault.TooManyStreams reply refused leaves kept tells = refused_whole round_fault.TooManyStreams reply refused leaves kept tells
  turned_fault_of_round round_fault.Memory reply refused leaves broken tells =
      told_or_out Comes (round_fault.Memory ≢ round_fault.Memory) (round_fault_data round_fault.Memory) reply (λ text other says. absurd (other refl)) (turned_half old new deliveries leaves broken) tells
