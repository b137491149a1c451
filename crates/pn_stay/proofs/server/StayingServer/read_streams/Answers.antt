-- What was read is honest where publishers are.
use Rattle.std.proofs.Common.{◌≡◌, ℕ, false, List, Option, None, Some, Result, refl, ap, ◌∙◌, subst}
use Rattle.std.specs.Prelude.{is_some}
use Rattle.pn_stream.specs.Brokers.{IsHonest, DeliveryValue}
use Rattle.pn_live.specs.LiveRegions.{LiveRegionValue}
use Rattle.pn_serve.specs.Server.Events.{ReadsBesides, ReadsStreams}
use Rattle.pn_serve.specs.declared.server.events.ReadingEnd.{ReadingEnd}
use Rattle.pn_serve.specs.declared.server.fault_log.ServeFault.{ServeFault}
use Rattle.pn_stay.specs.Servers.{ServerValue}
use Rattle.pn_stay.proofs.server.StayingServer.read_streams.Goals as goal

none_there : {A : Type 0} (option : Option A) → is_some option ≡ false → option ≡ None
none_there None off = refl
none_there (Some value) off = absurd (cc)

module _ (P : DeliveryValue → Type 0) (names : List (List ℕ)) (one other new : LiveRegionValue) (read : Result ReadingEnd ServeFault) (same : one ≡ other) where
  besides : ReadsBesides P names one new read → ReadsBesides P names other new read
  besides reads = subst (λ (old : LiveRegionValue). ReadsBesides P names old new read) same reads

  alone : ReadsStreams P names one new read → ReadsStreams P names other new read
  alone reads = subst (λ (old : LiveRegionValue). ReadsStreams P names old new read) same reads

pub returns-clause-honest : goal.returns-clause-honest
returns-clause-honest g c = λ broker known honest.
    besides (IsHonest broker) _ _ _ _ _ (ap (λ (s : ServerValue). s.live) c.self.view_is) (c.read_streams-read.ensures.honest broker known honest)

pub returns-clause-honest_alone : goal.returns-clause-honest_alone
returns-clause-honest_alone g c = λ off broker known honest.
    alone (IsHonest broker) _ _ _ _ _ (ap (λ (s : ServerValue). s.live) c.self.view_is)
    (c.read_streams-read.ensures.honest_alone (none_there _ (ap (λ (s : ServerValue). s.controlled) c.self.view_is ∙ off)) broker known honest)
