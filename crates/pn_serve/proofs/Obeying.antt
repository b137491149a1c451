-- Commands of control sessions, by what the writer did.
use Rattle.std.proofs.Common.{◌≡◌, ◌≢◌, ℕ, ◌+◌, ◌<◌, ◌≤◌, false, true, List, [], ◌∷◌, length, inl, inr, refl, sym, ap, ◌∙◌, subst, arith, Option, Some, None}
use Rattle.std.specs.Prelude.{Result, Ok, Err, Vec, IfOk, MatchResult}
use Rattle.std.specs.List.{position}
use Rattle.std.specs.declared.alloc.Global.{Global}
use Rattle.serde_json.specs.Data.{Data}
use Rattle.pn_json.specs.Tokens.{line_of}
use Rattle.pn_join.specs.Marks.{Positions}
use Rattle.pn_join.specs.declared.memory.NoMemory.{NoMemory}
use Rattle.pn_tablet.specs.Copies.{TabletCopyValue, IsCopy}
use Rattle.pn_tablet.specs.Steps.{Refuses}
use Rattle.pn_tablet.specs.Steps as steps
use Rattle.pn_tablet.specs.Tablets.{TabletStateValue, same_range}
use Rattle.pn_tablet.specs.declared.fault.OpFault.{OpFault as AdoptFault}
use Rattle.pn_tablet.specs.declared.fault.OpFault.TheVariants as adoption
use Rattle.pn_tablet.specs.declared.fault.Shortfall.{Shortfall}
use Rattle.pn_tablet.specs.declared.state.TabletOp.TheVariants.{Lose}
use Rattle.pn_region.specs.Recovery.{after_advance, is_no_advance as is_memory, with_marks, after_adoption, after_adoption_by, after_adoption_unless, after_loss, lacks, tablet_for}
use Rattle.pn_region.specs.Events.{RegionEvent, AllLeadTo}
use Rattle.pn_region.specs.Log.{with_break}
use Rattle.pn_region.specs.Regions.{RegionValue, IsRegion}
use Rattle.pn_region.specs.declared.fault.AdvanceFault.{AdvanceFault}
use Rattle.pn_region.specs.declared.fault.AdvanceFault.TheVariants as advancing
use Rattle.pn_live.specs.LiveRegions.{LiveRegionValue, core, after_op_at, Adopts, Advances}
use Rattle.pn_live.specs.PublishedTablets.{PublishedTabletValue}
use Rattle.pn_live.proofs.Adopting.{found_tablet}
use Rattle.pn_live.proofs.Events.{all_lead}
use Rattle.pn_protocol.specs.Reply.Faults.{adopt_fault_data, advance_fault_data, Tells, Refuses as RefusesBy}
use Rattle.pn_protocol.specs.Reply.Short.{adopted_data, lost_data, marks_reply_data}
use Rattle.pn_protocol.specs.declared.refusal.MemberName.TheVariants.{Tablet}
use Rattle.pn_protocol.specs.declared.refusal.Refusal.TheVariants.{OutOfRange, Memory}
use Rattle.pn_protocol.specs.declared.reply.Reply.{Reply}
use Rattle.pn_protocol.specs.declared.reply.Reply.TheVariants.{Adopted, Lost, Text, Refused}
use Rattle.pn_protocol.specs.declared.reply.refusals.CommandFault.TheVariants.{Adoption, Advance}
use Rattle.pn_serve.specs.Control.Commands.{Said, said_by, logged, asked_turn, advance_turn, event_of, event_by, with_event, IsAfter, ObeysLive}
use Rattle.pn_serve.specs.Machine.Outcomes.{awaits_command, machine_over, reply_turn, Turn}
use Rattle.pn_serve.specs.Machine.Doing.{adoption_turn, at_tablet}
use Rattle.pn_serve.specs.declared.control.commands.WriterCommand.{WriterCommand}
use Rattle.pn_serve.specs.declared.control.commands.WriterCommand.TheVariants as commands
use Rattle.pn_serve.proofs.Relaying.{not_memory, no_tablet, tablet_there, telling}
use Rattle.pn_serve.proofs.Turns.{told_or_out}

module _ (live : LiveRegionValue) (asked : WriterCommand) where
  -- memory ran out, and nothing changed
  pub out : ObeysLive live asked live (said_by (Refused Memory))
  out = record { replied = inl refl; left = refl }

  -- it was refused for this, or memory ran out
  pub refuses : (right : Type 0) (why : Data) (reply : Reply) → (right → asked_turn (logged live) asked ≡ telling (logged live) why) → Tells right why reply → ObeysLive live asked live (said_by reply)
  refuses right why reply is tells =
      told_or_out (λ (r : Reply). ObeysLive live asked live (said_by r)) right why reply
      (λ text knows says. record { replied = inr (is knows ∙ ap (λ (bytes : List ℕ). record { machine = machine_over (logged live); reply = bytes; refused = true }) (sym says)); left = refl }) out tells

  -- a text was shown, or memory ran out
  pub shows : (right : List ℕ) (text : Result (Vec ℕ Global) NoMemory) (reply : Reply) → event_of asked ≡ None → asked_turn (logged live) asked ≡ reply_turn (machine_over (logged live)) right
      → IfOk text (λ t. t.items ≡ right) → MatchResult text (λ t. reply ≡ Text t) (λ _. reply ≡ Refused Memory) → ObeysLive live asked live (said_by reply)
  shows right (Ok text) reply none turns is shown =
      subst (λ (r : Reply). ObeysLive live asked live (said_by r)) (sym shown)
      (record { replied = inr (turns ∙ ap (reply_turn (machine_over (logged live))) (sym is)); left = subst (λ (e : Option RegionEvent). IsAfter e live live) (sym none) refl })
  shows right (Err fault) reply none turns is shown = subst (λ (r : Reply). ObeysLive live asked live (said_by r)) (sym shown) out

  -- nothing changed
  pub still : (new : LiveRegionValue) (said : Said) → new ≡ live → ObeysLive live asked live said → ObeysLive live asked new said
  still new said same obeys = subst (λ (l : LiveRegionValue). ObeysLive live asked l said) (sym same) obeys

-- ---- losses

module _ (old : LiveRegionValue) (tablet : ℕ) where
  abbrev loses : TabletStateValue → Turn
  loses state = record { machine = record { mode = awaits_command; region = after_loss (core old) tablet; log = with_break old.log }; reply = line_of (lost_data tablet); refused = false }

  abbrev at : Option TabletStateValue → Turn
  at found = at_tablet (machine_over (logged old)) found loses

  -- there is no such tablet
  pub lost_none : length old.layout < tablet → IsRegion (core old) → ObeysLive old (commands.Lose tablet) old (said_by (Refused (OutOfRange Tablet)))
  lost_none past is =
      let beyond : length old.layout + 1 ≤ tablet = omega (arith, past) in
      record { replied = inr (ap at (no_tablet (core old) tablet is beyond)); left = refl }

  -- the tablet was lost
  pub lost_it : (new : LiveRegionValue) → tablet ≤ length old.layout → IsRegion (core old) → new ≡ after_op_at old tablet Lose → core new ≡ after_loss (core old) tablet → ObeysLive old (commands.Lose tablet) new (said_by (Lost tablet))
  lost_it new within is did becomes =
      let (state, there) = tablet_there (core old) tablet is within in
      let noted : new.log ≡ with_break old.log = ap (λ (l : LiveRegionValue). l.log) did in
      record {
        replied = inr (ap at there ∙ (λ i. record { machine = record { mode = awaits_command; region = sym becomes i; log = sym noted i }; reply = line_of (lost_data tablet); refused = false }));
        left = did;
      }

-- ---- adoptions

-- the number of the tablet that took a copy
abbrev number_in : Result (ℕ × RegionValue) AdoptFault → ℕ
number_in (Ok taken) = taken.0
number_in (Err fault) = 0

taken_by : (region new : RegionValue) (copy : TabletCopyValue) (number tablet : ℕ) (short : Option Shortfall) → after_adoption_unless region copy number short ≡ Ok (tablet, new) → tablet ≡ number
taken_by region new copy number tablet None is = sym (ap number_in is)
taken_by region new copy number tablet (Some short) is = absurd (cc)

-- the tablet that has the copy's range
pub for_copy : {seen copy : TabletCopyValue} (live : LiveRegionValue) (found : Option ℕ) → seen ≡ copy → found ≡ position (λ (p : PublishedTabletValue). same_range p.range seen.range) live.tablets → tablet_for (core live) copy ≡ found
for_copy {copy = copy} live found copied is =
    found_tablet live.tablets copy.range ∙ sym (is ∙ ap (λ (x : TabletCopyValue). position (λ (p : PublishedTabletValue). same_range p.range x.range) live.tablets) copied)

module _ (old : LiveRegionValue) (copy : TabletCopyValue) where
  -- the tablet of the copy's range took it
  pub adopted_it : (new : LiveRegionValue) (number : ℕ) → IsCopy copy.range copy.marks copy.cells → tablet_for (core old) copy ≡ Some number → Adopts copy old new → ObeysLive old (commands.Adopt copy) new (said_by (Adopted number))
  adopted_it new number lawful found did =
      let same = taken_by (core old) (core new) copy number did.tablet (lacks (core old) copy number) (ap (after_adoption_by (core old) copy) (sym found) ∙ did.adopted) in
      let noted : new.log ≡ with_break old.log = ap (λ (l : LiveRegionValue). l.log) did.published in
      record {
        replied = inr (ap (adoption_turn (logged old)) did.adopted
            ∙ (λ i. record { machine = record { mode = awaits_command; region = core new; log = sym noted i }; reply = line_of (adopted_data (same i)); refused = false }));
        left = (lawful, did);
      }

  -- no tablet has its range
  pub adopted_by_none : (reply : Reply) → tablet_for (core old) copy ≡ None → RefusesBy (Adoption adoption.WrongRange) reply → ObeysLive old (commands.Adopt copy) old (said_by reply)
  adopted_by_none reply none tells =
      refuses old (commands.Adopt copy) (adoption.WrongRange ≢ adoption.Memory) (adopt_fault_data adoption.WrongRange) reply (λ _. ap (λ (found : Option ℕ). adoption_turn (logged old) (after_adoption_by (core old) copy found)) none) tells

  -- it was refused
  pub adopted_not : (fault : AdoptFault) (reply : Reply) → Refuses steps.is_memory fault (after_adoption (core old) copy) → RefusesBy (Adoption fault) reply → ObeysLive old (commands.Adopt copy) old (said_by reply)
  adopted_not fault reply right tells =
      refuses old (commands.Adopt copy) (fault ≢ adoption.Memory) (adopt_fault_data fault) reply (λ other. ap (adoption_turn (logged old)) (not_memory fault (after_adoption (core old) copy) right other)) tells

-- ---- marks that advance

-- the marks of a region that advanced
abbrev marks_in : Result RegionValue AdvanceFault → Positions
marks_in (Ok after) = after.marks
marks_in (Err fault) = []

no_memory : (fault : AdvanceFault) (right : Result RegionValue AdvanceFault) → Refuses is_memory fault right → fault ≢ advancing.Memory → right ≡ Err fault
no_memory advancing.TooManyStreams right is other = is
no_memory advancing.Memory right is other = absurd (other refl)

module _ (old : LiveRegionValue) where
  -- the marks are those that were shown
  pub advanced_to : (new : LiveRegionValue) (marks : Positions) (text : Vec ℕ Global) → after_advance (core old) ≡ Ok (with_marks (core old) marks) → text.items ≡ line_of (marks_reply_data marks) → Advances old new
      → ObeysLive old commands.Advance new (said_by (Text text))
  advanced_to new marks text found shown did =
      let same : marks ≡ new.marks = ap marks_in (sym found ∙ did.advanced) in
      let kept : new.log ≡ old.log = ap (λ (l : LiveRegionValue). l.log) did.rest in
      let says : text.items ≡ line_of (marks_reply_data new.marks) = shown ∙ ap (λ (ms : Positions). line_of (marks_reply_data ms)) same in
      record {
        replied = inr (ap (advance_turn (logged old)) did.advanced
            ∙ (λ i. record { machine = record { mode = awaits_command; region = core new; log = sym kept i }; reply = sym says i; refused = false }));
        left = did;
      }

  -- it was refused
  pub advanced_not : (fault : AdvanceFault) (reply : Reply) → Refuses is_memory fault (after_advance (core old)) → RefusesBy (Advance fault) reply → ObeysLive old commands.Advance old (said_by reply)
  advanced_not fault reply right tells =
      refuses old commands.Advance (fault ≢ advancing.Memory) (advance_fault_data fault) reply (λ other. ap (advance_turn (logged old)) (no_memory fault (after_advance (core old)) right other)) tells

-- ---- events

-- the event that came about leads where the command does
pub leads_first : (event : Option RegionEvent) (old between : LiveRegionValue) (later : List RegionEvent) (new : RegionValue) → IsAfter event old between → AllLeadTo later (core between) new → AllLeadTo (with_event event later) (core old) new
leads_first None old between later new same lead = subst (λ (l : LiveRegionValue). AllLeadTo later (core l) new) same lead
leads_first (Some event) old between later new did lead =
    let (next, leads, is) = all_lead (event ∷ []) old between (old, between, refl, did, refl) in
    (next, leads, subst (λ (r : RegionValue). AllLeadTo later r new) is lead)

pub command_leads : (old new : LiveRegionValue) (asked : WriterCommand) (said : Said) → ObeysLive old asked new said → AllLeadTo (with_event (event_by asked said) []) (core old) (core new)
command_leads old new asked said obeys = leads_first (event_by asked said) old new [] (core new) obeys.left refl
