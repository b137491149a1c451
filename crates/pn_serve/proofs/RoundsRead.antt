-- Rounds of what streams gave, one after another, and how serving ends.
use Rattle.std.proofs.Common.{◌≡◌, ◌≢◌, ◌⊎◌, ℕ, ◌+◌, ◌≤◌, Bool, true, List, [], ◌∷◌, Option, None, Some, IfSome, IfErr, OnOk, OnErr, inl, inr, refl, sym, ap, subst, arith, map, false, ◌∙◌}
use Rattle.std.specs.Prelude.{Result, Ok, Err, MatchResult, IfOk, IsOk, IsErrAnd, IsErrOf}
use Rattle.std.specs.List.{All, Contains}
use Rattle.std.specs.Result.{result_map_both}
use Rattle.std.proofs.lemmas.List.Elements.{All-contains, Contains-append_right, Contains-append_left, Contains-push}
use Rattle.std.proofs.lemmas.Result.{err_from_is_err_and}
use Rattle.pn_join.specs.Marks.{Positions, position_of}
use Rattle.pn_tablet.specs.Steps.{Refuses}
use Rattle.pn_stream.specs.Brokers.{DeliveryValue}
use Rattle.pn_stream.specs.Batches as batches
use Rattle.pn_region.specs.Rounds.{is_memory, new_marks, after_joins, round}
use Rattle.pn_region.specs.Regions.{RegionValue}
use Rattle.pn_region.specs.Log.{refused_log, with_notices}
use Rattle.pn_region.specs.declared.fault.RoundFault.{RoundFault}
use Rattle.pn_region.specs.declared.fault.RoundFault.TheVariants.{Gap, TooManyStreams, Memory}
use Rattle.pn_region.proofs.GapLaws.{gap_is_missing}
use Rattle.pn_live.specs.LiveRegions.{LiveRegionValue, core, tablets_after_round}
use Rattle.pn_serve.specs.Server.Reports.{IsOfRounds, names_of, NamesOne}
use Rattle.pn_serve.specs.Server.Events.{AllDone, WriterEvent, gathered, tried, taken, told, ReadUpTo, ReadToEnds, RunsRounds}
use Rattle.pn_serve.specs.Server.Rounds.{RoundInputValue, Continues, IsNoGap, IsRoundTaken, IsRoundRefused, TakesInput, TriesRound, ends_try, stopping, IsNextInput, RunsRound, waiting_value}
use Rattle.pn_serve.specs.declared.server.fault_log.ServeFault.{ServeFault}
use Rattle.pn_serve.specs.declared.server.rounds.RoundInput.{RoundInput}
use Rattle.pn_serve.specs.declared.server.fault_log.ServeFault.TheVariants.{Start, Stream, Round, Close, Write}
use Rattle.pn_serve.specs.declared.server.mailboxes.AtFault.{AtFault}
use Rattle.pn_serve.specs.declared.server.mailboxes.AtFault.TheVariants.{Stop, GoOn}
use Rattle.pn_serve.proofs.Gatherings.{fault_named, left_named}
use Rattle.pn_serve.specs.Server.Served.{EndsReading, EndsServing}
use Rattle.pn_serve.specs.Server.Publishers.{IsTakenWhole}

-- Rounds of what streams gave, one after another.

refusal_of : (f : Positions → RegionValue) (marks : Result Positions RoundFault) (fault : RoundFault) → result_map_both f (λ e. e) marks ≡ Err fault → marks ≡ Err fault
refusal_of f (Ok marks) fault is = absurd (cc)
refusal_of f (Err other) fault is = let same : other ≡ fault = cc in ap Err same

-- deliveries that continue what was taken leave no gap
never_a_gap : (marks : Positions) (deliveries : List DeliveryValue) (stream : List ℕ) (wanted got : ℕ) → All (Continues marks) deliveries → new_marks marks deliveries ≡ Err (Gap stream wanted got) → ⊥
never_a_gap marks deliveries stream wanted got continues is =
    let gap = gap_is_missing marks deliveries stream wanted got is in
    let delivery = gap.delivery in
    let there : Contains deliveries delivery =
    subst (λ (ds : List DeliveryValue). Contains ds delivery) (sym gap.parts)
    (Contains-append_right gap.before (delivery ∷ gap.after) delivery (Contains-append_left (delivery ∷ []) gap.after delivery (Contains-push [] delivery)))
    in
    let first : delivery.first ≤ position_of marks delivery.stream + 1 = All-contains (Continues marks) deliveries delivery continues there in
    let same : position_of marks stream ≡ position_of marks delivery.stream = ap (position_of marks) gap.stream_is in
    let got_is = gap.got_is in
    let past = gap.past in
    let within : wanted ≤ position_of marks stream = omega (arith, first, same, got_is, past) in
    gap.missing (inl within)

no_gap_in : (old : LiveRegionValue) (deliveries : List DeliveryValue) (fault : RoundFault) → All (Continues old.marks) deliveries → Refuses is_memory fault (round (core old) deliveries) → IsNoGap fault
no_gap_in old deliveries (Gap stream wanted got) continues refused =
    never_a_gap old.marks deliveries stream wanted got continues (refusal_of (after_joins (core old) deliveries) (new_marks old.marks deliveries) (Gap stream wanted got) refused)
no_gap_in old deliveries TooManyStreams continues refused = tt
no_gap_in old deliveries Memory continues refused = tt

-- the round was refused with a fault, where memory is not waited for
pub refused_by : {T : Type 0} (result : Result T RoundFault) (old : LiveRegionValue) (deliveries : List DeliveryValue) (new : LiveRegionValue) → All (Continues old.marks) deliveries
    → IfErr result (λ fault. Refuses is_memory fault (round (core old) deliveries)) → IfErr result (λ fault. new ≡ record old { log = refused_log old.log fault }) → OnErr result (IsRoundRefused Stop old deliveries new)
refused_by (Ok done) old deliveries new continues refuses left = tt
refused_by (Err fault) old deliveries new continues refuses left = record { fault = fault; no_gap = no_gap_in old deliveries fault continues refuses; lasts = tt; refused = refuses; left = left }

-- a fault that is not out of memory
pub refused_for_good : (fault : RoundFault) (old : LiveRegionValue) (deliveries : List DeliveryValue) (new : LiveRegionValue) → fault ≢ Memory → All (Continues old.marks) deliveries
    → Refuses is_memory fault (round (core old) deliveries) → new ≡ record old { log = refused_log old.log fault } → IsRoundRefused GoOn old deliveries new
refused_for_good Memory old deliveries new other continues refuses left = absurd (other refl)
refused_for_good TooManyStreams old deliveries new other continues refuses left = record { fault = TooManyStreams; no_gap = tt; lasts = tt; refused = refuses; left = left }
refused_for_good (Gap stream wanted got) old deliveries new other continues refuses left =
    absurd (no_gap_in old deliveries (Gap stream wanted got) continues refuses)

-- the round was taken
pub taken_by : {T : Type 0} (run : Result T RoundFault) (old : LiveRegionValue) (deliveries : List DeliveryValue) (new : LiveRegionValue) → OnOk run (round (core old) deliveries ≡ Ok (core new))
    → OnOk run (new.tablets ≡ tablets_after_round old deliveries new.marks) → OnOk run (new.log ≡ with_notices old.log (core old) (core new)) → OnOk run (IsRoundTaken old deliveries new)
taken_by (Ok done) old deliveries new took published noted = record { taken = took; published = published; noted = noted }
taken_by (Err fault) old deliveries new took published noted = tt

-- a try of a round
pub tried_so : {T : Type 0} (run : Result T RoundFault) (old : LiveRegionValue) (deliveries : List DeliveryValue) (new : LiveRegionValue) (result : Result Bool ServeFault) → All (Continues old.marks) deliveries
    → OnOk run (IsRoundTaken old deliveries new) → IfErr run (λ fault. Refuses is_memory fault (round (core old) deliveries)) → IfErr run (λ fault. new ≡ record old { log = refused_log old.log fault })
    → MatchResult run (λ _. result ≡ Ok true) (λ fault. result ≡ ends_try fault)
    → TriesRound old deliveries new result
tried_so (Ok done) old deliveries new result continues took refuses left is = subst (TriesRound old deliveries new) (sym is) took
tried_so (Err Memory) old deliveries new result continues took refuses left is = subst (TriesRound old deliveries new) (sym is) left
tried_so (Err TooManyStreams) old deliveries new result continues took refuses left is =
    subst (TriesRound old deliveries new) (sym is) (refl, refused_for_good TooManyStreams old deliveries new (λ same. cc) continues refuses left)
tried_so (Err (Gap stream wanted got)) old deliveries new result continues took refuses left is =
    subst (TriesRound old deliveries new) (sym is) (refl, refused_for_good (Gap stream wanted got) old deliveries new (λ same. cc) continues refuses left)

run_either : {T : Type 0} (result : Result T RoundFault) (old : LiveRegionValue) (deliveries : List DeliveryValue) (new : LiveRegionValue) → OnOk result (IsRoundTaken old deliveries new) → OnErr result (IsRoundRefused Stop old deliveries new)
    → IsRoundTaken old deliveries new ⊎ IsRoundRefused Stop old deliveries new
run_either (Ok done) old deliveries new took refused = inl took
run_either (Err fault) old deliveries new took refused = inr refused

-- the input was taken as a round
pub takes : {T : Type 0} (input : RoundInputValue) (old new : LiveRegionValue) (stop : Option (List ℕ)) (run : Result T RoundFault) (result : Result (Unit {0}) ServeFault)
    → stop ≡ input.fault → OnOk run (IsRoundTaken old input.deliveries new) → OnErr run (IsRoundRefused Stop old input.deliveries new)
    → IfSome stop (λ name. result ≡ Err (Stream name)) → (stop ≡ None → MatchResult run (λ _. result ≡ Ok tt) (λ _. result ≡ Err Round))
    → TakesInput Stop input old new result
takes {T} input old new None run result stops took refused named unnamed = unless run took refused (unnamed refl)
  where
    unless : (ran : Result T RoundFault) → OnOk ran (IsRoundTaken old input.deliveries new) → OnErr ran (IsRoundRefused Stop old input.deliveries new)
        → MatchResult ran (λ _. result ≡ Ok tt) (λ _. result ≡ Err Round) → TakesInput Stop input old new result
    unless (Ok done) took refused is = subst (TakesInput Stop input old new) (sym is) (sym stops, took)
    unless (Err fault) took refused is = subst (TakesInput Stop input old new) (sym is) (sym stops, refused)
takes input old new (Some name) run result stops took refused named unnamed =
    subst (TakesInput Stop input old new) (sym named) (sym stops, run_either run old input.deliveries new took refused)

-- names of no streams
pub no_names : {P : Type 0} (name : P → List ℕ) (streams : List P) → map name streams ≡ [] → streams ≡ []
no_names name [] none = refl
no_names name (stream ∷ streams) none = absurd (cc)

-- no input waits
pub none_waits : (waiting : Option RoundInput) → waiting_value waiting ≡ None → waiting ≡ None
none_waits None none = refl
none_waits (Some input) none = absurd (cc)

-- ---- whom faults name

-- the streams that are read, and the one with a fault in the input that waits, are of these
record AreAmong (all names : List (List ℕ)) (waiting : Option RoundInputValue) : Type 0 where
  read : (name : List ℕ) → Contains names name → Contains all name
  named : IfSome waiting (λ input. IfSome input.fault (Contains all))

contained : (all names : List (List ℕ)) (fault : Option (List ℕ)) → ((name : List ℕ) → Contains names name → Contains all name) → IfSome fault (Contains names) → IfSome fault (Contains all)
contained all names None more there = tt
contained all names (Some name) more there = more name there

still_among : (all : List (List ℕ)) (at_fault : AtFault) (names : List (List ℕ)) (waiting : Option RoundInputValue) (old : LiveRegionValue) (events : List WriterEvent) (still : List (List ℕ)) (waits : Option RoundInputValue) (new : LiveRegionValue)
    → AllDone at_fault names waiting old events still waits new → AreAmong all names waiting → AreAmong all still waits
still_among all at_fault names waiting old [] still waits new done among =
    subst (λ (ns : List (List ℕ)). AreAmong all ns waits) (sym done.0) (subst (AreAmong all names) (sym done.1) among)
still_among all at_fault names waiting old (gathered input ∷ later) still waits new done among =
    still_among all at_fault done.0 (Some input) old later still waits new done.4 (record {
      read = λ name there. among.read name (left_named names old.marks input done.0 name done.3.0 there);
      named = contained all names input.fault among.read (fault_named names old.marks input done.0 done.3.0);
    })
still_among all at_fault names waiting old (tried input ∷ later) still waits new done among = still_among all at_fault names waiting done.0 later still waits new done.4 among
still_among all at_fault names waiting old (taken input ∷ later) still waits new done among = still_among all at_fault names None done.0 later still waits new done.3 (record { read = among.read; named = tt })
still_among all at_fault names waiting old (told asked said ∷ later) still waits new done among = still_among all at_fault names waiting done.0 later still waits new done.2 among

next_named : (all names : List (List ℕ)) (waiting : Option RoundInputValue) (marks : Positions) (input : RoundInputValue) (left : List (List ℕ)) → AreAmong all names waiting → IsNextInput names waiting marks input left
    → IfSome input.fault (Contains all)
next_named all names None marks input left among next = contained all names input.fault among.read (fault_named names marks input left next.0)
next_named all names (Some waiting) marks input left among next = subst (λ (i : RoundInputValue). IfSome i.fault (Contains all)) (sym next.0) among.named

stopping_is : (at_fault : AtFault) (fault : Option (List ℕ)) (name : List ℕ) → stopping at_fault fault ≡ Some name → fault ≡ Some name
stopping_is Stop fault name is = is
stopping_is GoOn fault name is = absurd (cc)

round_named : (P : DeliveryValue → Type 0) (all : List (List ℕ)) (at_fault : AtFault) (names : List (List ℕ)) (waiting : Option RoundInputValue) (old : LiveRegionValue) (input : RoundInputValue) (left : List (List ℕ)) (new : LiveRegionValue) (fault : ServeFault)
    → AreAmong all names waiting → RunsRound P at_fault names waiting old input left new (Err fault) → IsOfRounds all fault
round_named P all at_fault names waiting old input left new (Stream name) among run =
    subst (λ (f : Option (List ℕ)). IfSome f (Contains all)) (stopping_is at_fault input.fault name run.takes.0) (next_named all names waiting old.marks input left among run.next)
round_named P all at_fault names waiting old input left new Round among run = tt
round_named P all at_fault names waiting old input left new Start among run = absurd run.takes
round_named P all at_fault names waiting old input left new Close among run = absurd run.takes
round_named P all at_fault names waiting old input left new Write among run = absurd run.takes

-- a fault that stops rounds is of a round, or names a stream
pub of_rounds : (P : DeliveryValue → Type 0) (at_fault : AtFault) (names : List (List ℕ)) (old new : LiveRegionValue) (fault : ServeFault) → ReadUpTo P at_fault names old new fault → IsOfRounds names fault
of_rounds P at_fault names old new fault read = elim read.stops [
  | inl stops ↦ round_named P names at_fault read.still read.waiting read.last stops.0 stops.1 new fault
      (still_among names at_fault names None old read.events read.still read.waiting read.last read.done (record { read = λ name there. there; named = tt })) stops.2
  | inr stops ↦ subst (IsOfRounds names) (sym stops.1) tt
]

-- How serving ends, by how its parts end.

module _ (P : DeliveryValue → Type 0) {S : Type 0} (left : S → Option (List ℕ)) (streams : List (batches.Stream S)) where
  -- rounds stopped
  rounds_stopped : (old new : LiveRegionValue) (fault : ServeFault) → IsOfRounds (names_of streams) fault → ReadUpTo P Stop (names_of streams) old new fault → EndsReading P left streams old new (Err fault)
  rounds_stopped old new (Stream name) named read = (named, inl read)
  rounds_stopped old new Round named read = read
  rounds_stopped old new Start named read = absurd named
  rounds_stopped old new Close named read = absurd named
  rounds_stopped old new Write named read = absurd named

  -- a thread's stream is not taken
  not_taken : (old new : LiveRegionValue) (fault : ServeFault) → ReadToEnds P Stop (names_of streams) old new → NamesOne (names_of streams) fault → EndsReading P left streams old new (Err fault)
  not_taken old new (Stream name) read named = (named, inr read)
  not_taken old new Start read named = absurd named
  not_taken old new Round read named = absurd named
  not_taken old new Close read named = absurd named
  not_taken old new Write read named = absurd named

  all_read : (old new : LiveRegionValue) (result : Result (Unit {0}) ServeFault) → ReadToEnds P Stop (names_of streams) old new → OnOk result (All (IsTakenWhole left new.marks) streams) → IfErr result (NamesOne (names_of streams))
      → EndsReading P left streams old new result
  all_read old new (Ok done) read took named = record { read = read; taken = took }
  all_read old new (Err fault) read took named = not_taken old new fault read named

  -- nothing was begun
  pub not_begun : (old : LiveRegionValue) (fault : ServeFault) (result : Result (Unit {0}) ServeFault) → IsErrAnd result (λ other. other ≡ fault) → fault ≡ Start → EndsReading P left streams old old result
  not_begun old fault result answered start =
      let (other, is, same) = err_from_is_err_and result answered in
      subst (EndsReading P left streams old old) (sym is) (subst (λ (f : ServeFault). EndsReading P left streams old old (Err f)) (sym (same ∙ start)) refl)

  -- all threads ended, or sessions were refused
  pub reading_ends : (at_fault : AtFault) (names : List (List ℕ)) (read_by : List (batches.Stream S)) (old new : LiveRegionValue) (is_refused : Bool) (marks : Positions) (read result : Result (Unit {0}) ServeFault)
      → at_fault ≡ Stop → names ≡ names_of streams → read_by ≡ streams → (is_refused ≡ true → (read ≡ Err Start) × (new ≡ old)) → (is_refused ≡ false → RunsRounds P at_fault names old new read)
      → IfErr read (λ fault. result ≡ Err fault)
      → marks ≡ new.marks → OnOk read (OnOk result (All (IsTakenWhole left marks) read_by)) → OnOk read (IfErr result (NamesOne (names_of read_by))) → EndsReading P left streams old new result
  reading_ends at_fault names read_by old new true marks read result stop same_names are refused reads first same took rest =
      let start = subst (λ (r : Result (Unit {0}) ServeFault). IfErr r (λ fault. result ≡ Err fault)) (refused refl).0 first in
      subst (EndsReading P left streams old new) (sym start) (refused refl).1
  reading_ends at_fault names read_by old new false marks (Err fault) result stop same_names are refused reads first same took rest =
      let read_up : ReadUpTo P Stop (names_of streams) old new fault =
      subst (λ (a : AtFault). ReadUpTo P a (names_of streams) old new fault) stop (subst (λ (ns : List (List ℕ)). ReadUpTo P at_fault ns old new fault) same_names (reads refl)) in
      subst (EndsReading P left streams old new) (sym first) (rounds_stopped old new fault (of_rounds P Stop (names_of streams) old new fault read_up) read_up)
  reading_ends at_fault names read_by old new false marks (Ok done) result stop same_names are refused reads first same took rest =
      all_read old new result
      (subst (λ (a : AtFault). ReadToEnds P a (names_of streams) old new) stop (subst (λ (ns : List (List ℕ)). ReadToEnds P at_fault ns old new) same_names (reads refl)))
      (subst (λ (ss : List (batches.Stream S)). OnOk result (All (IsTakenWhole left new.marks) ss)) are (subst (λ (m : Positions). OnOk result (All (IsTakenWhole left m) read_by)) same took))
      (subst (λ (ss : List (batches.Stream S)). IfErr result (NamesOne (names_of ss))) are rest)

  -- no write fails before the region is closed
  pub no_write : {A B : Type 0} (old new : LiveRegionValue) (count : ℕ) (reading : Result (Unit {0}) ServeFault) (closing : Result A B) (served : Result ℕ ServeFault) → EndsReading P left streams old new reading
      → IfErr reading (λ fault. served ≡ Err fault) → OnOk reading (MatchResult closing (λ _. served ≡ Ok count) (λ _. served ≡ Err Close)) → IfErr served (λ fault. fault ≢ Write)
  no_write old new count (Ok done) (Ok region) served ends first closes = subst (λ (r : Result ℕ ServeFault). IfErr r (λ fault. fault ≢ Write)) (sym closes) tt
  no_write old new count (Ok done) (Err fault) served ends first closes = subst (λ (r : Result ℕ ServeFault). IfErr r (λ fault. fault ≢ Write)) (sym closes) (λ is. cc)
  no_write old new count (Err (Stream name)) closing served ends first closes = subst (λ (r : Result ℕ ServeFault). IfErr r (λ fault. fault ≢ Write)) (sym first) (λ is. cc)
  no_write old new count (Err Round) closing served ends first closes = subst (λ (r : Result ℕ ServeFault). IfErr r (λ fault. fault ≢ Write)) (sym first) (λ is. cc)
  no_write old new count (Err Start) closing served ends first closes = subst (λ (r : Result ℕ ServeFault). IfErr r (λ fault. fault ≢ Write)) (sym first) (λ is. cc)
  no_write old new count (Err Close) closing served ends first closes = absurd ends
  no_write old new count (Err Write) closing served ends first closes = absurd ends

  at_fault : (old new : LiveRegionValue) (fault : ServeFault) → EndsReading P left streams old new (Err fault) → EndsServing P left old streams (Err fault)
  at_fault old new (Stream name) ends = record { closed = new; ends = ends }
  at_fault old new Round ends = record { closed = new; ends = ends }
  at_fault old new Start ends = record { closed = new; ends = ends }
  at_fault old new Close ends = absurd ends
  at_fault old new Write ends = absurd ends

  -- all was read: the number of sessions was written, or not
  all_written : (old new : LiveRegionValue) (result : Result (Unit {0}) ServeFault) → EndsReading P left streams old new (Ok tt) → IfErr result (λ fault. fault ≡ Write) → EndsServing P left old streams result
  all_written old new (Ok done) ends write = record { closed = new; ends = ends }
  all_written old new (Err fault) ends write = subst (λ (f : ServeFault). EndsServing P left old streams (Err f)) (sym write) (record { closed = new; ends = ends })

  -- serving ends as reading, closing and writing do, the first fault of which is answered
  pub serving_ends : {A B : Type 0} (old new : LiveRegionValue) (count : ℕ) (reading : Result (Unit {0}) ServeFault) (closing : Result A B) (served : Result ℕ ServeFault) (result : Result (Unit {0}) ServeFault)
      → EndsReading P left streams old new reading → IfErr reading (λ fault. served ≡ Err fault) → OnOk reading (MatchResult closing (λ _. served ≡ Ok count) (λ _. served ≡ Err Close))
      → IfErr served (λ fault. result ≡ Err fault) → OnOk served (IfErr result (λ fault. fault ≡ Write)) → EndsServing P left old streams result
  serving_ends old new count (Err fault) closing served result ends first closes first_fault write =
      let is : result ≡ Err fault = subst (λ (r : Result ℕ ServeFault). IfErr r (λ f. result ≡ Err f)) first first_fault in
      subst (EndsServing P left old streams) (sym is) (at_fault old new fault ends)
  serving_ends old new count (Ok done) (Ok region) served result ends first closes first_fault write =
      all_written old new result ends (subst (λ (r : Result ℕ ServeFault). OnOk r (IfErr result (λ fault. fault ≡ Write))) closes write)
  serving_ends old new count (Ok done) (Err fault) served result ends first closes first_fault write =
      let is : result ≡ Err Close = subst (λ (r : Result ℕ ServeFault). IfErr r (λ f. result ≡ Err f)) closes first_fault in
      subst (EndsServing P left old streams) (sym is) (record { closed = new; ends = ends })

-- as many readers came back as there were
pub all_back : {A B : Type 0} (count now was : ℕ) (reading : Result (Unit {0}) ServeFault) (closing : Result A B) (result : Result ℕ ServeFault) → IfErr reading (λ fault. result ≡ Err fault)
    → OnOk reading (MatchResult closing (λ _. result ≡ Ok count) (λ _. result ≡ Err Close)) → count ≡ now → OnOk reading (now ≡ was) → IfOk result (λ n. n ≡ was)
all_back count now was (Err fault) closing result first closes counted all = subst (λ (r : Result ℕ ServeFault). IfOk r (λ n. n ≡ was)) (sym first) tt
all_back count now was (Ok done) (Ok region) result first closes counted all = subst (λ (r : Result ℕ ServeFault). IfOk r (λ n. n ≡ was)) (sym closes) (counted ∙ all)
all_back count now was (Ok done) (Err fault) result first closes counted all = subst (λ (r : Result ℕ ServeFault). IfOk r (λ n. n ≡ was)) (sym closes) tt

-- what is written of their number
pub of_sessions : {T : Type 0} (sessions : ℕ) (P : ℕ → Type 0) (served : Result ℕ ServeFault) (result : Result T ServeFault) → IfOk served (λ n. n ≡ sessions) → OnOk result (IsOk served) → IfOk served (λ n. OnOk result (P n)) → OnOk result (P sessions)
of_sessions sessions P (Ok n) result is all written = subst (λ (m : ℕ). OnOk result (P m)) is written
of_sessions sessions P (Err fault) (Ok done) is all written = let no : false ≡ true = all in absurd (cc)
of_sessions sessions P (Err fault) (Err other) is all written = tt

-- what is written of it where the writer fails
pub of_sessions_in_part : {T : Type 0} (sessions : ℕ) (P : ℕ → Type 0) (served : Result ℕ ServeFault) (result : Result T ServeFault) → IfOk served (λ n. n ≡ sessions) → IfErr served (λ fault. fault ≢ Write)
    → IfErr served (λ fault. result ≡ Err fault) → IfOk served (λ n. OnErr result (P n)) → IsErrOf result Write → P sessions
of_sessions_in_part sessions P (Ok n) (Err fault) is not first written failed = subst P is written
of_sessions_in_part sessions P (Ok n) (Ok done) is not first written failed = absurd (cc)
of_sessions_in_part sessions P (Err fault) result is not first written failed = absurd (not (let same = sym first ∙ failed in cc))

-- a write fault is the sink's own
pub fails_by_writing : {T : Type 0} (A : Type 0) (served : Result ℕ ServeFault) (result : Result T ServeFault) → IfErr served (λ fault. fault ≢ Write) → IfErr served (λ fault. result ≡ Err fault)
    → OnOk served (IfErr result (λ fault. (fault ≡ Write) × A)) → IsErrOf result Write → A
fails_by_writing A (Ok n) (Err fault) not first write failed = write.1
fails_by_writing A (Ok n) (Ok done) not first write failed = absurd (cc)
fails_by_writing A (Err fault) result not first write failed = absurd (not (let same = sym first ∙ failed in cc))

pub err_first : {T E : Type 0} (result : Result T E) (P : E → Type 0) (A : Type 0) → IfErr result (λ e. P e × A) → IfErr result P
err_first (Ok done) P A both = tt
err_first (Err fault) P A both = both.0

pub ok_err_first : {T U E : Type 0} (before : Result T E) (result : Result U E) (P : E → Type 0) (A : Type 0) → OnOk before (IfErr result (λ e. P e × A)) → OnOk before (IfErr result P)
ok_err_first (Err fault) result P A both = tt
ok_err_first (Ok done) result P A both = err_first result P A both
