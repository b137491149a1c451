-- What a line does to two machines whose regions are alike.
use Rattle.std.proofs.Common.{◌≡◌, ℕ, ◌+◌, ◌-◌, nat_le, Bool, true, false, if◌then◌else◌, List, [], ◌∷◌, length, take, refl, sym, ap, subst}
use Rattle.std.specs.Prelude.{Result, Ok, Err, Option, Some, None, slice_get}
use Rattle.std.specs.List.{AllByRecursion, list_any}
use Rattle.std.specs.Result.{result_map_both}
use Rattle.pn_join.specs.Marks.{Positions}
use Rattle.pn_stream.specs.Brokers.{DeliveryValue}
use Rattle.pn_tablet.specs.Copies.{TabletCopyValue, copy_of}
use Rattle.pn_tablet.specs.CopyReading.{copy_at}
use Rattle.pn_tablet.specs.Layouts.{Bounds, layout_of}
use Rattle.pn_tablet.specs.Tablets.{TabletStateValue}
use Rattle.pn_tablet.specs.declared.fault.CopyTextFault.{CopyTextFault}
use Rattle.pn_tablet.specs.declared.fault.CopyFault.{CopyFault}
use Rattle.pn_tablet.specs.declared.layout.LayoutFault.{LayoutFault}
use Rattle.pn_tablet.specs.declared.fault.Shortfall.{Shortfall}
use Rattle.pn_tablet.specs.declared.state.TabletOp.TheVariants.{Adopt}
use Rattle.pn_region.specs.Events as events
use Rattle.pn_region.specs.Events.{RegionEvent}
use Rattle.pn_region.specs.Log.{with_break}
use Rattle.pn_region.specs.Rounds.{new_marks, after_joins}
use Rattle.pn_region.specs.Recovery.{after_loss, after_op, tablet_for, lacks, after_adoption_unless, after_adoption_by, first_recovering, with_layout_unless, with_layout}
use Rattle.pn_region.specs.Regions.{RegionValue}
use Rattle.pn_region.specs.declared.fault.RoundFault.{RoundFault}
use Rattle.pn_json.specs.Tokens.{line_of}
use Rattle.pn_protocol.specs.declared.refusal.Refusal.{Refusal}
use Rattle.pn_protocol.specs.Command.Lines.{command_at}
use Rattle.pn_protocol.specs.Command.Meaning.{CommandValue, adopt, copy, deliver, get, lose, marks, notices, read, relayout, scan, tablets}
use Rattle.pn_protocol.specs.Reply.Short.{lost_data}
use Rattle.pn_serve.specs.Machine.Turns.{unless_call, with_line, after_part_with_marks, turn_of, outcome_at, turn_in, turn}
use Rattle.pn_serve.specs.Machine.Doing.{delivery_turn, at_tablet, copy_reply_turn, copy_turn, loss_turn, adoption_turn, read_adoption_turn, text_adoption_turn, relaid_turn, relayout_turn}
use Rattle.pn_serve.specs.Machine.Outcomes.{Outcome, done, line, call, round, Mode, awaits_command, announced, Machine, Turn, logged_region, silent_turn}
use Rattle.pn_serve.specs.Script.Events.{unless_refused, some_tablet, half_round_events, events_by, events_by_copy, events_by_text, events_in}
use Rattle.pn_serve.proofs.Relaying.{lawful_bounds}
use Rattle.pn_serve.proofs.PartRounds.{same_count, same_place, lack_at, BothThere, both_at, same_recovering}
pub use Rattle.pn_serve.proofs.PartRounds.{SameFace, SameFaces}

-- ---- a relation of regions that events carry on, if they are of a kind

pub record Carries (R : RegionValue → RegionValue → Type 0) (Is : RegionEvent → Type 0) : Type 0 where
  pub faces : (a b : RegionValue) → R a b → SameFaces a.tablets b.tablets
  pub marks : (a b : RegionValue) → R a b → a.marks ≡ b.marks
  pub takes : (a b : RegionValue) (deliveries : List DeliveryValue) (next : Positions) → R a b → new_marks a.marks deliveries ≡ Ok next → R (after_joins a deliveries next) (after_joins b deliveries next)
  pub takes_some : (a b : RegionValue) (deliveries : List DeliveryValue) (flags : List Bool) (next : Positions) → R a b → new_marks a.marks deliveries ≡ Ok next
      → R (after_part_with_marks a deliveries flags (Ok next)) (after_part_with_marks b deliveries flags (Ok next))
  pub loses : (a b : RegionValue) (tablet : ℕ) → R a b → Is (events.loss tablet) → R (after_loss a tablet) (after_loss b tablet)
  pub adopts : (a b : RegionValue) (given : TabletCopyValue) (tablet : ℕ) → R a b → Is (events.adoption given) → R (after_op a tablet (Adopt given)) (after_op b tablet (Adopt given))
  pub relays : (a b : RegionValue) (bounds : Bounds) → R a b → Is (events.relayout bounds) → R (with_layout a bounds) (with_layout b bounds)

-- two machines wait for the same, and their regions are related
pub record Alike (R : RegionValue → RegionValue → Type 0) (m n : Machine) : Type 0 where
  pub region : R m.region n.region
  pub mode : m.mode ≡ n.mode

-- two turns leave such machines, and the same happens
pub record Steps (R : RegionValue → RegionValue → Type 0) (happens others : List RegionEvent) (turned other : Turn) : Type 0 where
  pub machines : Alike R turned.machine other.machine
  pub same : others ≡ happens

module _ (R : RegionValue → RegionValue → Type 0) (Is : RegionEvent → Type 0) (carries : Carries R Is) where
  module _ (m n : Machine) (alike : Alike R m n) where
    -- nothing happens
    quiet : (turned other : Turn) → turned.machine ≡ m → other.machine ≡ n → Steps R [] [] turned other
    quiet turned other is is_too = record { machines = subst (λ (k : Machine). Alike R k other.machine) (sym is) (subst (λ (k : Machine). Alike R m k) (sym is_too) alike); same = refl }

    same_marks : (deliveries : List DeliveryValue) → new_marks m.region.marks deliveries ≡ new_marks n.region.marks deliveries
    same_marks deliveries = ap (λ (at : Positions). new_marks at deliveries) (carries.marks m.region n.region alike.region)

    abbrev round_of : Machine → List DeliveryValue → Result Positions RoundFault → Turn
    round_of k deliveries right = delivery_turn k (result_map_both (after_joins k.region deliveries) (λ fault. fault) right)

    round_by : (deliveries : List DeliveryValue) (right : Result Positions RoundFault) → new_marks m.region.marks deliveries ≡ right
        → Steps R (unless_refused (round_of m deliveries right) (events.round deliveries)) (unless_refused (round_of n deliveries right) (events.round deliveries)) (round_of m deliveries right) (round_of n deliveries right)
    round_by deliveries (Ok next) is = record { machines = record { region = carries.takes m.region n.region deliveries next alike.region is; mode = alike.mode }; same = refl }
    round_by deliveries (Err fault) is = quiet _ _ refl refl

    round_steps : (deliveries : List DeliveryValue) → Steps R (events_by m done (Ok (deliver deliveries))) (events_by n done (Ok (deliver deliveries))) (turn_of m done (Ok (deliver deliveries))) (turn_of n done (Ok (deliver deliveries)))
    round_steps deliveries =
        let at = new_marks m.region.marks deliveries in
        subst (λ (right : Result Positions RoundFault). Steps R (unless_refused (round_of m deliveries at) (events.round deliveries)) (unless_refused (round_of n deliveries right) (events.round deliveries)) (round_of m deliveries at) (round_of n deliveries right))
        (same_marks deliveries) (round_by deliveries at refl)

    half_region : (deliveries : List DeliveryValue) (flags : List Bool) (right : Result Positions RoundFault) → new_marks m.region.marks deliveries ≡ right
        → R (after_part_with_marks m.region deliveries flags right) (after_part_with_marks n.region deliveries flags right)
    half_region deliveries flags (Ok next) is = carries.takes_some m.region n.region deliveries flags next alike.region is
    half_region deliveries flags (Err fault) is = alike.region

    same_flags : (flags : List Bool) → some_tablet flags m.region.tablets ≡ some_tablet flags n.region.tablets
    same_flags flags = ap (λ (count : ℕ). list_any (λ flag. flag) (take count flags)) (same_count m.region.tablets n.region.tablets (carries.faces m.region n.region alike.region))

    half_steps : (deliveries : List DeliveryValue) (flags : List Bool)
        → Steps R (events_by m (round flags) (Ok (deliver deliveries))) (events_by n (round flags) (Ok (deliver deliveries))) (turn_of m (round flags) (Ok (deliver deliveries))) (turn_of n (round flags) (Ok (deliver deliveries)))
    half_steps deliveries flags = record {
      machines = record {
        region = subst (λ (right : Result Positions RoundFault). R (after_part_with_marks m.region deliveries flags (new_marks m.region.marks deliveries)) (after_part_with_marks n.region deliveries flags right)) (same_marks deliveries) (half_region deliveries flags (new_marks m.region.marks deliveries) refl);
        mode = alike.mode;
      };
      same = sym (λ i. half_round_events deliveries (same_flags flags i) (same_marks deliveries i));
    }

    abbrev losing_found : Machine → ℕ → Option TabletStateValue → Turn
    losing_found k tablet found = at_tablet k found (λ state. record { machine = record k { region = after_loss k.region tablet; log = with_break k.log }; reply = line_of (lost_data tablet); refused = false })

    loss_by : (tablet : ℕ) (found other : Option TabletStateValue) → BothThere found other → AllByRecursion Is (unless_refused (losing_found m tablet found) (events.loss tablet))
        → Steps R (unless_refused (losing_found m tablet found) (events.loss tablet)) (unless_refused (losing_found n tablet other) (events.loss tablet)) (losing_found m tablet found) (losing_found n tablet other)
    loss_by tablet None None both all = quiet _ _ refl refl
    loss_by tablet None (Some u) both all = absurd both
    loss_by tablet (Some t) None both all = absurd both
    loss_by tablet (Some t) (Some u) both all = record { machines = record { region = carries.loses m.region n.region tablet alike.region all.0; mode = alike.mode }; same = refl }

    loss_steps : (tablet : ℕ) → AllByRecursion Is (unless_refused (loss_turn m tablet) (events.loss tablet))
        → Steps R (unless_refused (loss_turn m tablet) (events.loss tablet)) (unless_refused (loss_turn n tablet) (events.loss tablet)) (loss_turn m tablet) (loss_turn n tablet)
    loss_steps tablet all = loss_by tablet (slice_get m.region.tablets tablet) (slice_get n.region.tablets tablet) (both_at tablet m.region.tablets n.region.tablets (carries.faces m.region n.region alike.region)) all

    abbrev relaid_found : Machine → Bounds → Option ℕ → Turn
    relaid_found k bounds found = relaid_turn k (length bounds + 1) (with_layout_unless k.region bounds found)

    relaid_by : (bounds : Bounds) (found : Option ℕ) → AllByRecursion Is (unless_refused (relaid_found m bounds found) (events.relayout bounds))
        → Steps R (unless_refused (relaid_found m bounds found) (events.relayout bounds)) (unless_refused (relaid_found n bounds found) (events.relayout bounds)) (relaid_found m bounds found) (relaid_found n bounds found)
    relaid_by bounds None all = record { machines = record { region = carries.relays m.region n.region bounds alike.region all.0; mode = alike.mode }; same = refl }
    relaid_by bounds (Some tablet) all = quiet _ _ refl refl

    -- what bounds do by the layout that they are
    abbrev Relays : Bounds → Result Bounds LayoutFault → Type 0
    Relays bounds right = AllByRecursion Is (unless_refused (relayout_turn m right) (events.relayout bounds))
        → Steps R (unless_refused (relayout_turn m right) (events.relayout bounds)) (unless_refused (relayout_turn n right) (events.relayout bounds)) (relayout_turn m right) (relayout_turn n right)

    relaid_steps : (bounds : Bounds) → Relays bounds (Ok bounds)
    relaid_steps bounds all =
        let found = first_recovering m.region.tablets in
        subst (λ (other : Option ℕ). Steps R (unless_refused (relaid_found m bounds found) (events.relayout bounds)) (unless_refused (relaid_found n bounds other) (events.relayout bounds)) (relaid_found m bounds found) (relaid_found n bounds other))
        (same_recovering m.region.tablets n.region.tablets (carries.faces m.region n.region alike.region)) (relaid_by bounds found all)

    relay_by : (bounds : Bounds) (right : Result Bounds LayoutFault) → layout_of bounds ≡ right → Relays bounds right
    relay_by bounds (Err fault) is = λ all. quiet _ _ refl refl
    relay_by bounds (Ok layout) is = subst (λ (b : Bounds). Relays bounds (Ok b)) (sym (lawful_bounds bounds layout is).0) (relaid_steps bounds)

    relay_steps : (bounds : Bounds) → Relays bounds (layout_of bounds)
    relay_steps bounds = relay_by bounds (layout_of bounds) refl

  shown_stays : (k : Machine) (tablet : ℕ) (right : Result TabletCopyValue CopyFault) → (copy_reply_turn k tablet right).machine ≡ k
  shown_stays k tablet (Ok given) = refl
  shown_stays k tablet (Err fault) = refl

  copy_stays : (k : Machine) (need : Positions) (tablet : ℕ) → (copy_turn k need tablet).machine ≡ k
  copy_stays k need tablet = at (slice_get k.region.tablets tablet)
    where
      at : (found : Option TabletStateValue) → (at_tablet k found (λ state. copy_reply_turn k tablet (copy_of state need))).machine ≡ k
      at None = refl
      at (Some state) = shown_stays k tablet (copy_of state need)

  module _ (m n : Machine) (alike : Alike R m n) where
    done_steps : (said : Result CommandValue Refusal) → AllByRecursion Is (events_by m done said) → Steps R (events_by m done said) (events_by n done said) (turn_of m done said) (turn_of n done said)
    done_steps (Ok (adopt lines)) all = record { machines = record { region = alike.region; mode = refl }; same = refl }
    done_steps (Ok (copy need tablet)) all = quiet m n alike _ _ (copy_stays m need tablet) (copy_stays n need tablet)
    done_steps (Ok (deliver deliveries)) all = round_steps m n alike deliveries
    done_steps (Ok (get keys)) all = quiet m n alike _ _ refl refl
    done_steps (Ok (lose tablet)) all = loss_steps m n alike tablet all
    done_steps (Ok marks) all = quiet m n alike _ _ refl refl
    done_steps (Ok (notices since)) all = quiet m n alike _ _ refl refl
    done_steps (Ok (read key version)) all = quiet m n alike _ _ refl refl
    done_steps (Ok (relayout bounds)) all = relay_steps m n alike bounds all
    done_steps (Ok (scan query)) all = quiet m n alike _ _ refl refl
    done_steps (Ok tablets) all = quiet m n alike _ _ refl refl
    done_steps (Err refusal) all = quiet m n alike _ _ refl refl

    call_steps : (said : Result CommandValue Refusal) → AllByRecursion Is (events_by m call said) → Steps R (events_by m call said) (events_by n call said) (turn_of m call said) (turn_of n call said)
    call_steps (Ok (adopt lines)) all = record { machines = record { region = alike.region; mode = refl }; same = refl }
    call_steps (Ok (copy need tablet)) all = quiet m n alike _ _ refl refl
    call_steps (Ok (deliver deliveries)) all = quiet m n alike _ _ refl refl
    call_steps (Ok (get keys)) all = quiet m n alike _ _ refl refl
    call_steps (Ok (lose tablet)) all = loss_steps m n alike tablet all
    call_steps (Ok marks) all = quiet m n alike _ _ refl refl
    call_steps (Ok (notices since)) all = quiet m n alike _ _ refl refl
    call_steps (Ok (read key version)) all = quiet m n alike _ _ refl refl
    call_steps (Ok (relayout bounds)) all = quiet m n alike _ _ refl refl
    call_steps (Ok (scan query)) all = quiet m n alike _ _ refl refl
    call_steps (Ok tablets) all = quiet m n alike _ _ refl refl
    call_steps (Err refusal) all = quiet m n alike _ _ refl refl

    partly_steps : (flags : List Bool) (said : Result CommandValue Refusal) → AllByRecursion Is (events_by m (round flags) said)
        → Steps R (events_by m (round flags) said) (events_by n (round flags) said) (turn_of m (round flags) said) (turn_of n (round flags) said)
    partly_steps flags (Ok (adopt lines)) all = record { machines = record { region = alike.region; mode = refl }; same = refl }
    partly_steps flags (Ok (copy need tablet)) all = quiet m n alike _ _ (copy_stays m need tablet) (copy_stays n need tablet)
    partly_steps flags (Ok (deliver deliveries)) all = half_steps m n alike deliveries flags
    partly_steps flags (Ok (get keys)) all = quiet m n alike _ _ refl refl
    partly_steps flags (Ok (lose tablet)) all = loss_steps m n alike tablet all
    partly_steps flags (Ok marks) all = quiet m n alike _ _ refl refl
    partly_steps flags (Ok (notices since)) all = quiet m n alike _ _ refl refl
    partly_steps flags (Ok (read key version)) all = quiet m n alike _ _ refl refl
    partly_steps flags (Ok (relayout bounds)) all = relay_steps m n alike bounds all
    partly_steps flags (Ok (scan query)) all = quiet m n alike _ _ refl refl
    partly_steps flags (Ok tablets) all = quiet m n alike _ _ refl refl
    partly_steps flags (Err refusal) all = quiet m n alike _ _ refl refl

    pub said_steps : (outcome : Outcome) (said : Result CommandValue Refusal) → AllByRecursion Is (events_by m outcome said) → Steps R (events_by m outcome said) (events_by n outcome said) (turn_of m outcome said) (turn_of n outcome said)
    said_steps done said all = done_steps said all
    said_steps line said all = quiet m n alike _ _ refl refl
    said_steps call said all = call_steps said all
    said_steps (round flags) said all = partly_steps flags said all

    -- ---- announced copies

    abbrev adopted_by : Machine → TabletCopyValue → Option ℕ → Turn
    adopted_by k given found = adoption_turn (logged_region k) (after_adoption_by k.region given found)

    abbrev adopted_unless : Machine → TabletCopyValue → ℕ → Option Shortfall → Turn
    adopted_unless k given tablet short = adoption_turn (logged_region k) (after_adoption_unless k.region given tablet short)

    unless_steps : (given : TabletCopyValue) (tablet : ℕ) (short : Option Shortfall) → AllByRecursion Is (unless_refused (adopted_unless m given tablet short) (events.adoption given))
        → Steps R (unless_refused (adopted_unless m given tablet short) (events.adoption given)) (unless_refused (adopted_unless n given tablet short) (events.adoption given)) (adopted_unless m given tablet short) (adopted_unless n given tablet short)
    unless_steps given tablet None all = record { machines = record { region = carries.adopts m.region n.region given tablet alike.region all.0; mode = refl }; same = refl }
    unless_steps given tablet (Some short) all = record { machines = record { region = alike.region; mode = refl }; same = refl }

    found_steps : (given : TabletCopyValue) (found : Option ℕ) → AllByRecursion Is (unless_refused (adopted_by m given found) (events.adoption given))
        → Steps R (unless_refused (adopted_by m given found) (events.adoption given)) (unless_refused (adopted_by n given found) (events.adoption given)) (adopted_by m given found) (adopted_by n given found)
    found_steps given None all = record { machines = record { region = alike.region; mode = refl }; same = refl }
    found_steps given (Some tablet) all =
        let short = lacks m.region given tablet in
        subst (λ (other : Option Shortfall). Steps R (unless_refused (adopted_unless m given tablet short) (events.adoption given)) (unless_refused (adopted_unless n given tablet other) (events.adoption given)) (adopted_unless m given tablet short) (adopted_unless n given tablet other))
        (lack_at given tablet m.region.tablets n.region.tablets (carries.faces m.region n.region alike.region)) (unless_steps given tablet short all)

    copy_steps : (right : Result TabletCopyValue CopyTextFault) → AllByRecursion Is (events_by_copy (logged_region m) right)
        → Steps R (events_by_copy (logged_region m) right) (events_by_copy (logged_region n) right) (read_adoption_turn (logged_region m) right) (read_adoption_turn (logged_region n) right)
    copy_steps (Err fault) all = record { machines = record { region = alike.region; mode = refl }; same = refl }
    copy_steps (Ok given) all =
        let found = tablet_for m.region given in
        subst (λ (other : Option ℕ). Steps R (unless_refused (adopted_by m given found) (events.adoption given)) (unless_refused (adopted_by n given other) (events.adoption given)) (adopted_by m given found) (adopted_by n given other))
        (same_place given m.region n.region (carries.faces m.region n.region alike.region)) (found_steps given found all)

    pub text_steps : (text : Option (List ℕ)) → AllByRecursion Is (events_by_text (logged_region m) text)
        → Steps R (events_by_text (logged_region m) text) (events_by_text (logged_region n) text) (text_adoption_turn (logged_region m) text) (text_adoption_turn (logged_region n) text)
    text_steps None all = record { machines = record { region = alike.region; mode = refl }; same = refl }
    text_steps (Some text) all = copy_steps (copy_at text) all

    came_steps : (left : ℕ) (text : Option (List ℕ)) (last : Bool) → AllByRecursion Is (if last then events_by_text (logged_region m) text else [])
        → Steps R (if last then events_by_text (logged_region m) text else []) (if last then events_by_text (logged_region n) text else [])
        (if last then text_adoption_turn (logged_region m) text else silent_turn (record m { mode = announced (left - 1) text })) (if last then text_adoption_turn (logged_region n) text else silent_turn (record n { mode = announced (left - 1) text }))
    came_steps left text true all = text_steps text all
    came_steps left text false all = record { machines = record { region = alike.region; mode = refl }; same = refl }

    -- ---- a line, and the end of the input

    mode_steps : (mode : Mode) (outcome : Outcome) (text : List ℕ) → AllByRecursion Is (events_in mode m outcome text) → Steps R (events_in mode m outcome text) (events_in mode n outcome text) (turn_in mode m outcome text) (turn_in mode n outcome text)
    mode_steps awaits_command outcome text all = said_steps (outcome_at outcome text) (command_at text) all
    mode_steps (announced left came) outcome text all = came_steps left (unless_call outcome (with_line came text (10 ∷ []))) (nat_le left 1) all

    pub line_steps : (outcome : Outcome) (text : List ℕ) → AllByRecursion Is (events_in m.mode m outcome text) → Steps R (events_in m.mode m outcome text) (events_in n.mode n outcome text) (turn m outcome text) (turn n outcome text)
    line_steps outcome text all =
        subst (λ (mode : Mode). Steps R (events_in m.mode m outcome text) (events_in mode n outcome text) (turn m outcome text) (turn_in mode n outcome text)) alike.mode (mode_steps m.mode outcome text all)
