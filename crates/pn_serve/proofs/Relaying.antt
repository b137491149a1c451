-- Losses, copies, adoptions and changes of the layout, by what the program did.
use Rattle.std.proofs.Common.{true, false, ◌≡◌, ◌≢◌, ℕ, ◌+◌, ◌≤◌, List, length, inl, inr, refl, sym, ap, ◌∙◌, subst, arith, slice_get, Option, Some, None, nat_lt, cond}
use Rattle.std.specs.Prelude.{Result, Ok, Err, IsSomeAnd}
use Rattle.std.proofs.lemmas.Option.{slice_get_past, slice_get_cases}
use Rattle.std.proofs.lemmas.Bool.Decides.{nat_tests}
use Rattle.serde_json.specs.Data.{Data}
use Rattle.pn_join.specs.Marks.{Positions}
use Rattle.pn_json.specs.Tokens.{line_of}
use Rattle.pn_tablet.specs.Copies.{TabletCopyValue, copy_of, is_memory}
use Rattle.pn_tablet.specs.CopyReading.{copy_at}
use Rattle.pn_tablet.specs.Steps.{Refuses, Answers}
use Rattle.pn_tablet.specs.Tablets.{TabletStateValue}
use Rattle.pn_tablet.specs.declared.fault.CopyFault.{CopyFault}
use Rattle.pn_tablet.specs.declared.fault.OpFault.{OpFault as AdoptFault}
use Rattle.pn_tablet.specs.Layouts.{Bounds, IsLayout, first_fall, rising_layout, layout_of}
use Rattle.pn_tablet.specs.declared.layout.TheConstants.{MAX_BOUNDS}
use Rattle.pn_tablet.specs.declared.layout.LayoutFault.{LayoutFault}
use Rattle.pn_tablet.specs.declared.layout.LayoutFault.TheVariants.{TooMany}
use Rattle.pn_tablet.proofs.LayoutFacts.{rising_from_none}
use Rattle.pn_tablet.specs.Steps as steps
use Rattle.pn_tablet.specs.declared.fault.CopyTextFault.TheVariants as text
use Rattle.pn_tablet.specs.declared.fault.CopyFault.TheVariants as copying
use Rattle.pn_tablet.specs.declared.fault.OpFault.TheVariants as adoption
use Rattle.pn_region.specs.Log.{LoggedRegion, with_break}
use Rattle.pn_region.specs.Recovery.{after_adoption, after_relayout, is_memory as is_no_relayout}
use Rattle.pn_region.specs.Regions.{RegionValue, IsRegion}
use Rattle.pn_region.proofs.RoundSteps.{tablet_count}
use Rattle.pn_region.specs.declared.fault.RelayoutFault.{RelayoutFault}
use Rattle.pn_region.specs.Recovery as recovery
use Rattle.pn_region.specs.declared.fault.RelayoutFault.TheVariants as fault_of
use Rattle.pn_protocol.specs.declared.reply.Reply.{Reply}
use Rattle.pn_protocol.specs.declared.reply.Reply.TheVariants.{Adopted, Lost, Refused, Relaid}
use Rattle.pn_protocol.specs.declared.refusal.MemberName.TheVariants.{Tablet}
use Rattle.pn_protocol.specs.declared.refusal.Refusal.TheVariants.{OutOfRange, Memory}
use Rattle.pn_protocol.specs.Command.Meaning.{CommandValue, copy, lose, relayout}
use Rattle.pn_protocol.specs.Reply.Texts.{ShowsCopy, ShowsCopyOf}
use Rattle.pn_protocol.specs.Reply.Faults.{Tells, Refuses as RefusesBy, copy_fault_data}
use Rattle.pn_protocol.specs.declared.reply.refusals.CommandFault.TheVariants.{Copy}
use Rattle.pn_protocol.specs.Reply.Short.{lost_data}
use Rattle.pn_protocol.specs.declared.refusal.MemberName.TheVariants as member_name
use Rattle.pn_serve.specs.Machine.Doing.{plain_turn, at_tablet, copy_reply_turn, adoption_turn, read_adoption_turn, text_adoption_turn, relaid_turn, relayout_turn}
use Rattle.pn_serve.specs.Machine.Outcomes.{done, awaits_command, Turn, machine_over}
use Rattle.pn_serve.specs.Machine.Turns.{command_turn, Obeys, ComesTo}
use Rattle.pn_serve.proofs.Turns.{told_or_out, turned_call}

-- Losses, copies and adoptions, by what the program did.

-- a refusal that changes nothing
abbrev pub telling : LoggedRegion → Data → Turn
telling region said = record { machine = machine_over region; reply = line_of said; refused = true }

-- a refusal was answered, or memory ran out
pub told : (turn : Turn) (old new : LoggedRegion) (right : Type 0) (said : Data) (reply : Reply) → new ≡ old → (right → turn ≡ telling old said) → Tells right said reply → ComesTo turn old new reply
told turn old new right said reply same is tells =
    told_or_out (ComesTo turn old new) right said reply
    (λ text knows says. inl (ap (λ (t : Turn). t.machine) (is knows) ∙ ap machine_over (sym same), ap (λ (t : Turn). t.reply) (is knows) ∙ sym says, ap (λ (t : Turn). t.refused) (is knows)))
    (inr (same, refl)) tells

-- a turn that other turns come to
pub came_as : (one other : Turn) (old new : LoggedRegion) (reply : Reply) → one ≡ other → ComesTo other old new reply → ComesTo one old new reply
came_as one other old new reply same comes = subst (λ (t : Turn). ComesTo t old new reply) (sym same) comes

-- ---- adoptions

pub adopts : (old new : LoggedRegion) (given : TabletCopyValue) (tablet : ℕ) → after_adoption old.state given ≡ Ok (tablet, new.state) → new.log ≡ with_break old.log → ComesTo (adoption_turn old (after_adoption old.state given)) old new (Adopted tablet)
adopts old new given tablet is noted = came_as _ _ old new (Adopted tablet) (ap (adoption_turn old) is) (inl (λ i. record { mode = awaits_command; region = new.state; log = sym noted i }, refl, refl))

pub not_memory : (fault : AdoptFault) (right : Result (ℕ × RegionValue) AdoptFault) → Refuses steps.is_memory fault right → fault ≢ adoption.Memory → right ≡ Err fault
not_memory adoption.WrongRange right is other = is
not_memory (adoption.TooOld stream has needs) right is other = is
not_memory adoption.Memory right is other = absurd (other refl)

pub adopts_text : (old new : LoggedRegion) (bytes : List ℕ) (given : TabletCopyValue) (reply : Reply) → copy_at bytes ≡ Ok given → ComesTo (adoption_turn old (after_adoption old.state given)) old new reply
    → ComesTo (text_adoption_turn old (Some bytes)) old new reply
adopts_text old new bytes given reply is comes = came_as _ _ old new reply (ap (read_adoption_turn old) is) comes

-- ---- losses and copies

pub no_tablet : (region : RegionValue) (tablet : ℕ) → IsRegion region → length region.layout + 1 ≤ tablet → slice_get region.tablets tablet ≡ None
no_tablet region tablet is past = slice_get_past region.tablets tablet (omega (arith, past, tablet_count region.marks region.layout region.tablets is.tablets))

-- there is no such tablet
refused_there : (region : LoggedRegion) (tablet : ℕ) (command : CommandValue) (does : TabletStateValue → Turn) → slice_get region.state.tablets tablet ≡ None
    → plain_turn (machine_over region) command ≡ at_tablet (machine_over region) (slice_get region.state.tablets tablet) does → command_turn (machine_over region) done command ≡ plain_turn (machine_over region) command
    → Obeys (machine_over region) command (machine_over region) (Refused (OutOfRange Tablet))
refused_there region tablet command does none is obeys =
    let all = obeys ∙ is ∙ ap (λ (found : Option TabletStateValue). at_tablet (machine_over region) found does) none in
    record { outcome = done; machine_is = ap (λ (t : Turn). t.machine) all; replied = ap (λ (t : Turn). t.reply) all; refused = ap (λ (t : Turn). t.refused) all }

pub lost_nothing : (region : LoggedRegion) (tablet : ℕ) → slice_get region.state.tablets tablet ≡ None → Obeys (machine_over region) (lose tablet) (machine_over region) (Refused (OutOfRange Tablet))
lost_nothing region tablet none = refused_there region tablet (lose tablet) _ none refl refl

pub copied_nothing : (region : LoggedRegion) (need : Positions) (tablet : ℕ) → slice_get region.state.tablets tablet ≡ None → Obeys (machine_over region) (copy need tablet) (machine_over region) (Refused (OutOfRange Tablet))
copied_nothing region need tablet none = refused_there region tablet (copy need tablet) _ none refl refl

-- there is a tablet of each number below the layout's count
pub tablet_there : (region : RegionValue) (tablet : ℕ) → IsRegion region → tablet ≤ length region.layout → (state : TabletStateValue) × (slice_get region.tablets tablet ≡ Some state)
tablet_there region tablet is within = elim (slice_get_cases region.tablets tablet).1 [
  | inl (state, inside, there, here) ↦ (state, there)
  | inr (past, none) ↦ absurd (omega (arith, past, within, tablet_count region.marks region.layout region.tablets is.tablets))
]

pub lost_there : (old new : LoggedRegion) (tablet : ℕ) (state : TabletStateValue) → slice_get old.state.tablets tablet ≡ Some state → new.state ≡ recovery.after_loss old.state tablet → new.log ≡ with_break old.log → Obeys (machine_over old) (lose tablet) (machine_over new) (Lost tablet)
lost_there old new tablet state there is noted =
    let does : TabletStateValue → Turn = λ state. record { machine = record { mode = awaits_command; region = recovery.after_loss old.state tablet; log = with_break old.log }; reply = line_of (lost_data tablet); refused = false } in
    let all = ap (λ (found : Option TabletStateValue). at_tablet (machine_over old) found does) there in
    record { outcome = done; machine_is = ap (λ (t : Turn). t.machine) all ∙ (λ i. record { mode = awaits_command; region = sym is i; log = sym noted i }); replied = ap (λ (t : Turn). t.reply) all; refused = ap (λ (t : Turn). t.refused) all }

-- a copy was looked for in a tablet
module _ (region : LoggedRegion) (need : Positions) (tablet : ℕ) (state : TabletStateValue) (there : slice_get region.state.tablets tablet ≡ Some state) where
  looked : (right : Result TabletCopyValue CopyFault) → copy_of state need ≡ right → command_turn (machine_over region) done (copy need tablet) ≡ copy_reply_turn (machine_over region) tablet right
  looked right is =
      ap (λ (found : Option TabletStateValue). at_tablet (machine_over region) found (λ state. copy_reply_turn (machine_over region) tablet (copy_of state need))) there
      ∙ ap (copy_reply_turn (machine_over region) tablet) is

  out : (reply : Reply) → reply ≡ Refused Memory → Obeys (machine_over region) (copy need tablet) (machine_over region) reply
  out reply is = subst (λ (r : Reply). Obeys (machine_over region) (copy need tablet) (machine_over region) r) (sym is) (turned_call region region (copy need tablet) refl refl)

  copied_there : (copied : TabletCopyValue) (reply : Reply) → copy_of state need ≡ Ok copied → ShowsCopy copied reply → Obeys (machine_over region) (copy need tablet) (machine_over region) reply
  copied_there copied reply is (inl shows) =
      let all = looked (Ok copied) is in
      record { outcome = done; machine_is = ap (λ (t : Turn). t.machine) all; replied = ap (λ (t : Turn). t.reply) all ∙ sym shows.1; refused = ap (λ (t : Turn). t.refused) all ∙ sym shows.0 }
  copied_there copied reply is (inr none) = out reply none

  right_fault : (fault : CopyFault) (right : Result TabletCopyValue CopyFault) → Refuses is_memory fault right → fault ≢ copying.Memory → right ≡ Err fault
  right_fault copying.Recovering right is other = is
  right_fault (copying.Behind stream has wanted) right is other = is
  right_fault copying.NoEntry right is other = is
  right_fault copying.Memory right is other = absurd (other refl)

  not_copied_there : (fault : CopyFault) (reply : Reply) → Refuses is_memory fault (copy_of state need) → RefusesBy (Copy tablet fault) reply → Obeys (machine_over region) (copy need tablet) (machine_over region) reply
  not_copied_there fault reply right tells =
      told_or_out (λ (r : Reply). Obeys (machine_over region) (copy need tablet) (machine_over region) r) (fault ≢ copying.Memory) (copy_fault_data tablet fault) reply
      (λ text other says. let all = looked (Err fault) (right_fault fault (copy_of state need) right other) in
      record { outcome = done; machine_is = ap (λ (t : Turn). t.machine) all; replied = ap (λ (t : Turn). t.reply) all ∙ sym says; refused = ap (λ (t : Turn). t.refused) all })
      (out (Refused Memory) refl) tells

  -- what was found of the tablet was shown
  pub answered_there : (copied : Result TabletCopyValue CopyFault) (reply : Reply) → Answers is_memory copied (copy_of state need) → ShowsCopyOf tablet copied reply → Obeys (machine_over region) (copy need tablet) (machine_over region) reply
  answered_there (Ok copied) reply is shows = copied_there copied reply is shows
  answered_there (Err fault) reply is tells = not_copied_there fault reply is tells

-- what was looked for in a tablet that is there
pub at_some : (found : Option TabletStateValue) (state : TabletStateValue) (P : TabletStateValue → Type 0) → found ≡ Some state → IsSomeAnd found P → P state
at_some None state P there holds = absurd (cc)
at_some (Some other) state P there holds = let same : other ≡ state = cc in subst P same holds

-- Changes of the layout, by what the program did.

-- ---- bounds that are those of a layout

rising_is : (fall : Option ℕ) (bounds layout : Bounds) → rising_layout fall bounds ≡ Ok layout → (layout ≡ bounds) × (fall ≡ None)
rising_is None bounds layout is = (cc, refl)
rising_is (Some index) bounds layout is = absurd (cc)

pub lawful_bounds : (bounds layout : Bounds) → layout_of bounds ≡ Ok layout → (layout ≡ bounds) × IsLayout bounds
lawful_bounds bounds layout is =
    elim (nat_lt MAX_BOUNDS (length bounds)) as (λ b. nat_lt MAX_BOUNDS (length bounds) ≡ b → cond b (Err TooMany) (rising_layout (first_fall bounds) bounds) ≡ Ok layout → (layout ≡ bounds) × IsLayout bounds) [
      | true ↦ λ many is. absurd (cc)
      | false ↦ λ few is.
          let rises = rising_is (first_fall bounds) bounds layout is in
          (rises.0, record { few = grind (arith, nat_tests); rising = rising_from_none bounds rises.1 })
    ] refl is

-- ---- changes of the layout

pub relays : (old new : LoggedRegion) (count : ℕ) (right : Result RegionValue RelayoutFault) → right ≡ Ok new.state → new.log ≡ old.log → ComesTo (relaid_turn (machine_over old) count right) old new (Relaid count)
relays old new count right is kept =
    came_as _ _ old new (Relaid count) (ap (relaid_turn (machine_over old) count) is) (inl (λ i. record { mode = awaits_command; region = new.state; log = sym kept i }, refl, refl))

is_refused : (fault : RelayoutFault) (right : Result RegionValue RelayoutFault) → Refuses is_no_relayout fault right → fault ≢ fault_of.Memory → right ≡ Err fault
is_refused (fault_of.StillRecovering tablet) right is other = is
is_refused fault_of.Memory right is other = absurd (other refl)

-- what a change of the layout comes to, the command does
pub relaid_obeys : (old new : LoggedRegion) (bounds layout : Bounds) (reply : Reply) → layout_of bounds ≡ Ok layout → ComesTo (relaid_turn (machine_over old) (length layout + 1) (after_relayout old.state layout)) old new reply
    → Obeys (machine_over old) (relayout bounds) (machine_over new) reply
relaid_obeys old new bounds layout reply is (inl comes) =
    let all : command_turn (machine_over old) done (relayout bounds) ≡ relaid_turn (machine_over old) (length layout + 1) (after_relayout old.state layout) = ap (relayout_turn (machine_over old)) is in
    record { outcome = done; machine_is = ap (λ (t : Turn). t.machine) all ∙ comes.0; replied = ap (λ (t : Turn). t.reply) all ∙ comes.1; refused = ap (λ (t : Turn). t.refused) all ∙ comes.2 }
relaid_obeys old new bounds layout reply is (inr out) =
    subst (λ (r : Reply). Obeys (machine_over old) (relayout bounds) (machine_over new) r) (sym out.1) (turned_call old new (relayout bounds) refl out.0)

-- the bounds are those of no layout
pub relaid_not : (region : LoggedRegion) (bounds : Bounds) (fault : LayoutFault) → layout_of bounds ≡ Err fault → Obeys (machine_over region) (relayout bounds) (machine_over region) (Refused (OutOfRange member_name.Bounds))
relaid_not region bounds fault is =
    let all : command_turn (machine_over region) done (relayout bounds) ≡ relayout_turn (machine_over region) (Err fault) = ap (relayout_turn (machine_over region)) is in
    record { outcome = done; machine_is = ap (λ (t : Turn). t.machine) all; replied = ap (λ (t : Turn). t.reply) all; refused = ap (λ (t : Turn). t.refused) all }
