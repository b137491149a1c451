-- Rounds of what streams gave, and commands of control sessions, one after another.
use Rattle.std.proofs.Common.{◌≡◌, ◌≢◌, ℕ, Bool, true, false, List, [], ◌∷◌, ◌++◌, Option, None, Some, IfSome, inl, inr, refl, sym, ap, ◌∙◌, subst}
use Rattle.std.specs.Prelude.{Result, Ok, Err, IsErrAnd}
use Rattle.std.proofs.lemmas.Result.{err_from_is_err_and}
use Rattle.std.specs.List.{All, AllByRecursion}
use Rattle.pn_join.specs.Marks.{Positions}
use Rattle.pn_live.specs.LiveRegions.{LiveRegionValue}
use Rattle.pn_stream.specs.Brokers.{DeliveryValue}
use Rattle.pn_serve.specs.Control.Commands.{ObeysLive, Said}
use Rattle.pn_serve.specs.declared.control.commands.WriterCommand.{WriterCommand}
use Rattle.pn_serve.specs.Server.Events.{AllDone, BringAll, Brings, IsCommand, IsEnd, ReadsBesides, RunsCommands, RunsEvents, RunsOn, RunsUpTo, ToldAll, WriterEvent, gathered, tried, taken, told, AreOfStreams, IsOfStreams, ReadToEnds, ReadUpTo, RunsRounds}
use Rattle.pn_serve.specs.Server.Rounds.{value_of, RoundInputValue, IsRoundTried, TakesInput, IsNextInput, RunsInput, StopsAt, TakesRound, Waits, waiting_value}
use Rattle.pn_serve.specs.declared.server.events.ReadingEnd.{ReadingEnd}
use Rattle.pn_serve.specs.declared.server.fault_log.ServeFault.{ServeFault}
use Rattle.pn_serve.specs.declared.server.fault_log.ServeFault.TheVariants.{Start, Stream, Round, Close, Write}
use Rattle.pn_serve.specs.declared.server.mailboxes.AtFault.{AtFault}
use Rattle.pn_serve.specs.declared.server.mailboxes.AtFault.TheVariants.{GoOn}
use Rattle.pn_serve.specs.declared.server.rounds.RoundInput.{RoundInput}

-- events and those after them
pub done_after : (at_fault : AtFault) (names : List (List ℕ)) (waiting : Option RoundInputValue) (old : LiveRegionValue) (events : List WriterEvent) (still : List (List ℕ)) (held : Option RoundInputValue) (between : LiveRegionValue)
    (later : List WriterEvent) (left : List (List ℕ)) (waits : Option RoundInputValue) (new : LiveRegionValue)
    → AllDone at_fault names waiting old events still held between → AllDone at_fault still held between later left waits new → AllDone at_fault names waiting old (events ++ later) left waits new
done_after at_fault names waiting old [] still held between later left waits new all then =
    subst (λ (ns : List (List ℕ)). AllDone at_fault ns waiting old later left waits new) all.0
    (subst (λ (w : Option RoundInputValue). AllDone at_fault still w old later left waits new) all.1 (subst (λ (was : LiveRegionValue). AllDone at_fault still held was later left waits new) all.2 then))
done_after at_fault names waiting old (gathered input ∷ events) still held between later left waits new all then =
    (all.0, all.1, all.2, all.3, done_after at_fault all.0 (Some input) old events still held between later left waits new all.4 then)
done_after at_fault names waiting old (tried input ∷ events) still held between later left waits new all then =
    (all.0, all.1, all.2, all.3, done_after at_fault names waiting all.0 events still held between later left waits new all.4 then)
done_after at_fault names waiting old (taken input ∷ events) still held between later left waits new all then =
    (all.0, all.1, all.2, done_after at_fault names None all.0 events still held between later left waits new all.3 then)
done_after at_fault names waiting old (told asked said ∷ events) still held between later left waits new all then =
    (all.0, all.1, done_after at_fault names waiting all.0 events still held between later left waits new all.2 then)

-- ---- the events of a round

-- events of streams alone came
pub record DoesRounds (P : DeliveryValue → Type 0) (at_fault : AtFault) (names : List (List ℕ)) (waiting : Option RoundInputValue) (old : LiveRegionValue) (left : List (List ℕ)) (waits : Option RoundInputValue) (new : LiveRegionValue) : Type 0 where
  pub events : List WriterEvent
  pub alone : AreOfStreams events
  pub done : AllDone at_fault names waiting old events left waits new
  pub brought : BringAll P events

module _ (P : DeliveryValue → Type 0) (at_fault : AtFault) (old : LiveRegionValue) where
  -- the next input waits then, and events of it follow
  next_then : (names : List (List ℕ)) (waiting : Option RoundInputValue) (input : RoundInputValue) (left : List (List ℕ)) (waits : Option RoundInputValue) (new : LiveRegionValue) → (waiting ≡ None → names ≢ [])
      → IsNextInput names waiting old.marks input left → All P input.deliveries → DoesRounds P at_fault left (Some input) old left waits new → DoesRounds P at_fault names waiting old left waits new
  next_then names None input left waits new some next such then = record {
    events = gathered input ∷ then.events;
    alone = (tt, then.alone);
    done = (left, refl, some refl, next, then.done);
    brought = (such, then.brought);
  }
  next_then names (Some waiting) input left waits new some next such then =
      subst (λ (i : RoundInputValue). DoesRounds P at_fault names (Some i) old left waits new) next.0
      (subst (λ (ns : List (List ℕ)). DoesRounds P at_fault ns (Some input) old left waits new) next.1 then)

  round_taken : (names : List (List ℕ)) (input : RoundInputValue) (waits : Option RoundInputValue) (new : LiveRegionValue) → TakesInput at_fault input old new (Ok tt) → All P input.deliveries → waits ≡ None
      → DoesRounds P at_fault names (Some input) old names waits new
  round_taken names input waits new takes such none = record { events = taken input ∷ []; alone = (tt, tt); done = (new, refl, takes, (refl, none, refl)); brought = (such, tt) }

  round_waits : (names : List (List ℕ)) (input : RoundInputValue) (waits : Option RoundInputValue) (new : LiveRegionValue) → at_fault ≡ GoOn → waits ≡ Some input → IsRoundTried old new → All P input.deliveries
      → DoesRounds P at_fault names (Some input) old names waits new
  round_waits names input waits new goes_on is tries such = record { events = tried input ∷ []; alone = (tt, tt); done = (new, goes_on, refl, tries, (refl, is, refl)); brought = (such, tt) }

  it_waits : (names : List (List ℕ)) (waiting : Option RoundInputValue) (left : List (List ℕ)) (waits : Option RoundInputValue) (new : LiveRegionValue) → (waiting ≡ None → names ≢ []) → at_fault ≡ GoOn
      → Waits P names waiting old left waits new → DoesRounds P at_fault names waiting old left waits new
  it_waits names waiting left waits new some goes_on (inl nothing) = record { events = []; alone = tt; done = (nothing.1, nothing.2 ∙ sym nothing.0, nothing.3); brought = tt }
  it_waits names waiting left waits new some goes_on (inr next) = next_then names waiting next.0 left waits new some next.1 next.4 (round_waits left next.0 waits new goes_on next.2 next.3 next.4)

  -- what a round does, that went well or waits
  pub does_round : (names : List (List ℕ)) (waiting : Option RoundInputValue) (left : List (List ℕ)) (waits : Option RoundInputValue) (new : LiveRegionValue) (went : Bool) → (waiting ≡ None → names ≢ [])
      → TakesRound P at_fault names waiting old left waits new (Ok went) → DoesRounds P at_fault names waiting old left waits new
  does_round names waiting left waits new true some ran = next_then names waiting ran.0 left waits new some ran.1.next ran.1.brought (round_taken left ran.0 waits new ran.1.takes ran.1.brought ran.2)
  does_round names waiting left waits new false some ran = it_waits names waiting left waits new some ran.0 ran.1

  -- what waits then is such
  pub such_waits : (names : List (List ℕ)) (waiting : Option RoundInputValue) (left : List (List ℕ)) (waits : Option RoundInputValue) (new : LiveRegionValue) (went : Bool)
      → TakesRound P at_fault names waiting old left waits new (Ok went) → IfSome waits (λ input. All P input.deliveries)
  such_waits names waiting left waits new true ran = subst (λ (w : Option RoundInputValue). IfSome w (λ input. All P input.deliveries)) (sym ran.2) tt
  such_waits names waiting left waits new false ran = elim ran.1 [
    | inl nothing ↦ subst (λ (w : Option RoundInputValue). IfSome w (λ input. All P input.deliveries)) (sym nothing.2) tt
    | inr next ↦ subst (λ (w : Option RoundInputValue). IfSome w (λ input. All P input.deliveries)) (sym next.2) next.4
  ]

-- an input of which a round was tried waits
pub waits_again : (P : DeliveryValue → Type 0) (at_fault now_at : AtFault) (names left : List (List ℕ)) (waiting : Option RoundInputValue) (marks : Positions) (old new : LiveRegionValue) (asked given : Option RoundInput) (input back : RoundInput)
    → asked ≡ Some input → given ≡ Some back → now_at ≡ at_fault → marks ≡ old.marks → IfSome asked (λ i. IsNextInput names waiting marks (value_of i) left) → IfSome asked (λ i. All P i.deliveries.items)
    → RunsInput now_at (value_of input) old new (Ok given) → TakesRound P at_fault names waiting old left (Some (value_of back)) new (Ok false)
waits_again P at_fault now_at names left waiting marks old new asked given input back is gives same marked next such runs =
    let ran : RunsInput now_at (value_of input) old new (Ok (Some back)) = subst (λ (g : Option RoundInput). RunsInput now_at (value_of input) old new (Ok g)) gives runs in
    let goes : IsNextInput names waiting marks (value_of input) left = subst (λ (a : Option RoundInput). IfSome a (λ i. IsNextInput names waiting marks (value_of i) left)) is next in
    let are : All P input.deliveries.items = subst (λ (a : Option RoundInput). IfSome a (λ i. All P i.deliveries.items)) is such in
    (sym same ∙ ran.0, inr (value_of input, subst (λ (m : Positions). IsNextInput names waiting m (value_of input) left) marked goes, ap Some ran.1, ran.2, are))

-- so is the input itself
pub such_input : (P : DeliveryValue → Type 0) (waiting : Option RoundInput) → IfSome (waiting_value waiting) (λ input. All P input.deliveries) → IfSome waiting (λ input. All P input.deliveries.items)
such_input P None such = tt
such_input P (Some input) such = such

all_of_both : (Q : WriterEvent → Type 0) (events more : List WriterEvent) → AllByRecursion Q events → AllByRecursion Q more → AllByRecursion Q (events ++ more)
all_of_both Q [] more first second = second
all_of_both Q (event ∷ events) more first second = (first.0, all_of_both Q events more first.1 second)

-- commands bring nothing of streams
commands_bring : (P : DeliveryValue → Type 0) (events : List WriterEvent) → AllByRecursion IsCommand events → BringAll P events
commands_bring P [] alone = tt
commands_bring P (gathered input ∷ later) alone = absurd alone.0
commands_bring P (tried input ∷ later) alone = absurd alone.0
commands_bring P (taken input ∷ later) alone = absurd alone.0
commands_bring P (told asked said ∷ later) alone = (tt, commands_bring P later alone.1)

-- ---- the events so far

-- the events so far, the streams that are still read, and the input that waits
pub record DoneSoFar (P : DeliveryValue → Type 0) (at_fault : AtFault) (names : List (List ℕ)) (old : LiveRegionValue) (still : List (List ℕ)) (waiting : Option RoundInputValue) (new : LiveRegionValue) : Type 0 where
  pub events : List WriterEvent
  pub done : AllDone at_fault names None old events still waiting new
  pub brought : BringAll P events

module _ (P : DeliveryValue → Type 0) (at_fault : AtFault) (names : List (List ℕ)) (old : LiveRegionValue) where
  pub nothing_yet : DoneSoFar P at_fault names old names None old
  nothing_yet = record { events = []; done = (refl, refl, refl); brought = tt }

  pub none_yet : DoesRounds P at_fault names None old names None old
  none_yet = record { events = []; alone = tt; done = (refl, refl, refl); brought = tt }

  -- one more round
  pub one_round : (still : List (List ℕ)) (waiting : Option RoundInputValue) (between : LiveRegionValue) (left : List (List ℕ)) (waits : Option RoundInputValue) (new : LiveRegionValue)
      → DoneSoFar P at_fault names old still waiting between → DoesRounds P at_fault still waiting between left waits new → DoneSoFar P at_fault names old left waits new
  one_round still waiting between left waits new so more = record {
    events = so.events ++ more.events;
    done = done_after at_fault names None old so.events still waiting between more.events left waits new so.done more.done;
    brought = all_of_both (Brings P) so.events more.events so.brought more.brought;
  }

  pub one_more : (still : List (List ℕ)) (waiting : Option RoundInputValue) (between : LiveRegionValue) (left : List (List ℕ)) (waits : Option RoundInputValue) (new : LiveRegionValue)
      → DoesRounds P at_fault names None old still waiting between → DoesRounds P at_fault still waiting between left waits new → DoesRounds P at_fault names None old left waits new
  one_more still waiting between left waits new so more = record {
    events = so.events ++ more.events;
    alone = all_of_both IsOfStreams so.events more.events so.alone more.alone;
    done = done_after at_fault names None old so.events still waiting between more.events left waits new so.done more.done;
    brought = all_of_both (Brings P) so.events more.events so.brought more.brought;
  }

  -- more commands were done
  pub more_told : (still : List (List ℕ)) (waiting : Option RoundInputValue) (between new : LiveRegionValue) → DoneSoFar P at_fault names old still waiting between → ToldAll at_fault still waiting between new
      → DoneSoFar P at_fault names old still waiting new
  more_told still waiting between new so more = record {
    events = so.events ++ more.events;
    done = done_after at_fault names None old so.events still waiting between more.events still waiting new so.done more.done;
    brought = all_of_both (Brings P) so.events more.events so.brought (commands_bring P more.events more.alone);
  }

  pub ran_on : (still : List (List ℕ)) (waiting : Option RoundInputValue) (new : LiveRegionValue) (end : ReadingEnd) → DoneSoFar P at_fault names old still waiting new → IsEnd end still waiting → RunsOn P at_fault names old new end
  ran_on still waiting new end so ended = record { events = so.events; left = still; waits = waiting; done = so.done; brought = so.brought; ended = ended }

  pub ran_up_to : (still : List (List ℕ)) (waiting : Option RoundInputValue) (between new : LiveRegionValue) (fault : ServeFault) → DoneSoFar P at_fault names old still waiting between → StopsAt P at_fault still waiting between new fault
      → RunsUpTo P at_fault names old new fault
  ran_up_to still waiting between new fault so stops = record { events = so.events; last = between; still = still; waiting = waiting; done = so.done; brought = so.brought; stops = stops }

  -- a fault as an answer
  pub as_fault : (new : LiveRegionValue) (fault : ServeFault) (result : Result ReadingEnd ServeFault) → IsErrAnd result (λ other. other ≡ fault) → RunsUpTo P at_fault names old new fault → RunsEvents P at_fault names old new result
  as_fault new fault result answered ran =
      let (other, is, same) = err_from_is_err_and result answered in
      subst (RunsEvents P at_fault names old new) (sym is) (subst (RunsUpTo P at_fault names old new) (sym same) ran)

  pub all_read : (still : List (List ℕ)) (waiting : Option RoundInputValue) (new : LiveRegionValue) → DoesRounds P at_fault names None old still waiting new → still ≡ [] → waiting ≡ None → ReadToEnds P at_fault names old new
  all_read still waiting new so none nothing = record {
    events = so.events;
    alone = so.alone;
    done = subst (λ (ns : List (List ℕ)). AllDone at_fault names None old so.events ns None new) none (subst (λ (w : Option RoundInputValue). AllDone at_fault names None old so.events still w new) nothing so.done);
    brought = so.brought;
  }

  pub read_up_to : (still : List (List ℕ)) (waiting : Option RoundInputValue) (between new : LiveRegionValue) (fault : ServeFault) → DoesRounds P at_fault names None old still waiting between → StopsAt P at_fault still waiting between new fault
      → ReadUpTo P at_fault names old new fault
  read_up_to still waiting between new fault so stops = record { events = so.events; alone = so.alone; last = between; still = still; waiting = waiting; done = so.done; brought = so.brought; stops = stops }

  pub as_answer : {T : Type 0} (new : LiveRegionValue) (fault : ServeFault) (result : Result T ServeFault) → IsErrAnd result (λ other. other ≡ fault) → ReadUpTo P at_fault names old new fault → RunsRounds P at_fault names old new result
  as_answer new fault result answered read =
      let (other, is, same) = err_from_is_err_and result answered in
      subst (RunsRounds P at_fault names old new) (sym is) (subst (ReadUpTo P at_fault names old new) (sym same) read)

-- commands, and those after them
pub told_then : (at_fault : AtFault) (names : List (List ℕ)) (waiting : Option RoundInputValue) (old between new : LiveRegionValue) → ToldAll at_fault names waiting old between → ToldAll at_fault names waiting between new
    → ToldAll at_fault names waiting old new
told_then at_fault names waiting old between new so more = record {
  events = so.events ++ more.events;
  alone = all_of_both IsCommand so.events more.events so.alone more.alone;
  done = done_after at_fault names waiting old so.events names waiting between more.events names waiting new so.done more.done;
}

-- one more command was done
pub one_told : (at_fault : AtFault) (names : List (List ℕ)) (waiting : Option RoundInputValue) (old between new : LiveRegionValue) (asked : WriterCommand) (said : Said) → ToldAll at_fault names waiting old between → ObeysLive between asked new said
    → ToldAll at_fault names waiting old new
one_told at_fault names waiting old between new asked said so obeys = record {
  events = so.events ++ told asked said ∷ [];
  alone = all_of_both IsCommand so.events (told asked said ∷ []) so.alone (tt, tt);
  done = done_after at_fault names waiting old so.events names waiting between (told asked said ∷ []) names waiting new so.done (new, obeys, (refl, refl, refl));
}

pub none_told : (at_fault : AtFault) (names : List (List ℕ)) (waiting : Option RoundInputValue) (old : LiveRegionValue) → ToldAll at_fault names waiting old old
none_told at_fault names waiting old = record { events = []; alone = tt; done = (refl, refl, refl) }

-- commands alone, and those after them; or none
pub more_commands : (old between new : LiveRegionValue) → RunsCommands old between → RunsCommands between new → RunsCommands old new
more_commands old between new so more = told_then GoOn [] None old between new so more

pub no_commands : (old new : LiveRegionValue) → new ≡ old → RunsCommands old new
no_commands old new same = record { events = []; alone = tt; done = (refl, refl, same) }

-- the fault of a round is not that its threads were refused
begun : (P : DeliveryValue → Type 0) (at_fault : AtFault) (names : List (List ℕ)) (waiting : Option RoundInputValue) (old new : LiveRegionValue) → StopsAt P at_fault names waiting old new Start → ⊥
begun P at_fault names waiting old new (inl stops) = stops.2.takes
begun P at_fault names waiting old new (inr stops) = let same = stops.1 in cc

pub as_besides : (P : DeliveryValue → Type 0) (names : List (List ℕ)) (old new : LiveRegionValue) (read : Result ReadingEnd ServeFault) → RunsEvents P GoOn names old new read → ReadsBesides P names old new read
as_besides P names old new (Ok end) ran = ran
as_besides P names old new (Err Start) ran = absurd (begun P GoOn ran.still ran.waiting ran.last new ran.stops)
as_besides P names old new (Err (Stream name)) ran = ran
as_besides P names old new (Err Round) ran = ran
as_besides P names old new (Err Close) ran = ran
as_besides P names old new (Err Write) ran = ran
