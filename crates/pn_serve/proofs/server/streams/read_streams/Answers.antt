-- The rounds are of the streams that were begun.
use Rattle.std.proofs.Common.{◌≡◌, ℕ, List, refl, sym, ◌∙◌, subst}
use Rattle.std.proofs.lemmas.Result.{err_from_is_err_and}
use Rattle.std.specs.Prelude.{IsErrAnd, Result, Ok, Err}
use Rattle.pn_stream.specs.Brokers.{IsHonest, DeliveryValue}
use Rattle.pn_live.specs.LiveRegions.{LiveRegionValue}
use Rattle.pn_serve.specs.Server.Events.{ReadsBesides, RunsEvents, ReadsStreams, RunsRounds}
use Rattle.pn_serve.specs.Server.Publishers.{IsSent}
use Rattle.pn_serve.specs.declared.server.events.ReadingEnd.{ReadingEnd}
use Rattle.pn_serve.specs.declared.server.fault_log.ServeFault.{ServeFault}
use Rattle.pn_serve.specs.declared.server.fault_log.ServeFault.TheVariants.{Start, Stream, Round, Close, Write}
use Rattle.pn_serve.specs.declared.server.mailboxes.AtFault.{AtFault}
use Rattle.pn_serve.specs.declared.server.mailboxes.AtFault.TheVariants.{GoOn}
use Rattle.pn_serve.proofs.EventsRead.{as_besides}
use Rattle.pn_serve.proofs.RoundsRead.{of_rounds}
use Rattle.pn_serve.proofs.SentEvents.{besides_on, streams_on}
use Rattle.pn_serve.proofs.PublishersRead.{sent_is_honest}
use Rattle.pn_serve.proofs.server.streams.read_streams.Goals as goal

as_streams : (P : DeliveryValue → Type 0) (names : List (List ℕ)) (old new : LiveRegionValue) (read : Result ReadingEnd ServeFault) → RunsRounds P GoOn names old new read → ReadsStreams P names old new read
as_streams P names old new (Ok end) reads = reads
as_streams P names old new (Err Start) reads = absurd (of_rounds P GoOn names old new Start reads)
as_streams P names old new (Err (Stream name)) reads = reads
as_streams P names old new (Err Round) reads = reads
as_streams P names old new (Err Close) reads = reads
as_streams P names old new (Err Write) reads = reads

not_begun : (P : DeliveryValue → Type 0) (names : List (List ℕ)) (old : LiveRegionValue) (fault : ServeFault) (result : Result ReadingEnd ServeFault) → IsErrAnd result (λ other. other ≡ fault) → fault ≡ Start → ReadsStreams P names old old result
not_begun P names old fault result answered start =
    let (other, is, same) = err_from_is_err_and result answered in
    subst (ReadsStreams P names old old) (sym is) (subst (λ (f : ServeFault). ReadsStreams P {T = ReadingEnd} names old old (Err f)) (sym (same ∙ start)) refl)

none_beside : (P : DeliveryValue → Type 0) (names : List (List ℕ)) (old : LiveRegionValue) (fault : ServeFault) (result : Result ReadingEnd ServeFault) → IsErrAnd result (λ other. other ≡ fault) → fault ≡ Start → ReadsBesides P names old old result
none_beside P names old fault result answered start =
    let (other, is, same) = err_from_is_err_and result answered in
    subst (ReadsBesides P names old old) (sym is) (subst (λ (f : ServeFault). ReadsBesides P names old old (Err f)) (sym (same ∙ start)) refl)

module _ (P : DeliveryValue → Type 0) (at_fault : AtFault) (given names : List (List ℕ)) (old new : LiveRegionValue) (read : Result ReadingEnd ServeFault) (same : given ≡ names) (goes_on : at_fault ≡ GoOn) where
  alone : RunsRounds P at_fault given old new read → ReadsStreams P names old new read
  alone reads =
      as_streams P names old new read
      (subst (λ (a : AtFault). RunsRounds P a names old new read) goes_on (subst (λ (ns : List (List ℕ)). RunsRounds P at_fault ns old new read) same reads))

  besides : RunsEvents P at_fault given old new read → ReadsBesides P names old new read
  besides ran =
      as_besides P names old new read
      (subst (λ (a : AtFault). RunsEvents P a names old new read) goes_on (subst (λ (ns : List (List ℕ)). RunsEvents P at_fault ns old new read) same ran))

pub returns-clause-alone : goal.returns-clause-alone
returns-clause-alone g c = λ none.
    alone (IsSent g.M.Sending.known g.M.Sending.sends) c.in_ok-mailboxes.mailboxes.at_fault _ _ c.args.live.now c.run_rounds-read.new.live c.run_rounds-read.result c.in_ok-mailboxes.ensures.names c.in_ok-mailboxes.ensures.at_fault (c.run_rounds-read.ensures.alone none)

pub returns-clause-reads : goal.returns-clause-reads
returns-clause-reads g c =
    besides (IsSent g.M.Sending.known g.M.Sending.sends) c.in_ok-mailboxes.mailboxes.at_fault _ _ c.args.live.now c.run_rounds-read.new.live c.run_rounds-read.result c.in_ok-mailboxes.ensures.names c.in_ok-mailboxes.ensures.at_fault c.run_rounds-read.ensures.runs

pub returns-in_err-mailboxes-clause-alone : goal.returns-in_err-mailboxes-clause-alone
returns-in_err-mailboxes-clause-alone g c = λ none.
    not_begun (IsSent g.M.Sending.known g.M.Sending.sends) _ c.args.live.now c.in_err-mailboxes.field-0.0 c.from_residual.result c.from_residual.ensures.1 c.in_err-mailboxes.ensures.fault

pub returns-in_err-mailboxes-clause-reads : goal.returns-in_err-mailboxes-clause-reads
returns-in_err-mailboxes-clause-reads g c =
    none_beside (IsSent g.M.Sending.known g.M.Sending.sends) _ c.args.live.now c.in_err-mailboxes.field-0.0 c.from_residual.result c.from_residual.ensures.1 c.in_err-mailboxes.ensures.fault

pub returns-clause-honest : goal.returns-clause-honest
returns-clause-honest g c = λ broker known honest.
    besides_on (IsSent g.M.Sending.known g.M.Sending.sends) (IsHonest broker) (sent_is_honest broker g.M.Sending.known g.M.Sending.sends known honest) _ c.args.live.now c.run_rounds-read.new.live c.run_rounds-read.result
    (returns-clause-reads g c)

pub returns-clause-honest_alone : goal.returns-clause-honest_alone
returns-clause-honest_alone g c = λ none broker known honest.
    streams_on (IsSent g.M.Sending.known g.M.Sending.sends) (IsHonest broker) (sent_is_honest broker g.M.Sending.known g.M.Sending.sends known honest) _ c.args.live.now c.run_rounds-read.new.live c.run_rounds-read.result
    (returns-clause-alone g c none)

pub returns-in_err-mailboxes-clause-honest : goal.returns-in_err-mailboxes-clause-honest
returns-in_err-mailboxes-clause-honest g c = λ broker known honest.
    none_beside (IsHonest broker) _ c.args.live.now c.in_err-mailboxes.field-0.0 c.from_residual.result c.from_residual.ensures.1 c.in_err-mailboxes.ensures.fault

pub returns-in_err-mailboxes-clause-honest_alone : goal.returns-in_err-mailboxes-clause-honest_alone
returns-in_err-mailboxes-clause-honest_alone g c = λ none broker known honest.
    not_begun (IsHonest broker) _ c.args.live.now c.in_err-mailboxes.field-0.0 c.from_residual.result c.from_residual.ensures.1 c.in_err-mailboxes.ensures.fault
