-- A turn, by its parts.
use Rattle.std.proofs.Common.{◌≡◌, ◌≢◌, ◌⊎◌, ◌+◌, ◌*◌, ℕ, Option, List, [], inl, inr, refl, sym, ap, ◌∙◌, subst, ⊎_elim}
use Rattle.pn_lines.specs.Engines.{EngineValue}
use Rattle.pn_lines.specs.Handling.{Handling}
use Rattle.pn_lines.specs.Standing.{StandsStill}
use Rattle.pn_lines.specs.Turns.{BufferValue, IsKept, IsStored, Rests, TakesFirst, TurnValue, held_in, outcome_of, Moment, Turned, WorkedIn, at}
use Rattle.pn_lines.specs.declared.engine.TheConstants.{MAX_STEP_UNITS}
use Rattle.pn_lines.specs.declared.turns.Pause.TheVariants as pause
use Rattle.pn_lines.specs.declared.turns.SourceState.{SourceState}
use Rattle.pn_lines.specs.declared.turns.TurnFault.TheVariants as fault
use Rattle.pn_lines.specs.declared.turns.TurnOutcome.{TurnOutcome}
use Rattle.pn_lines.specs.declared.turns.TurnOutcome.TheVariants as outcome
use Rattle.pn_lines.specs.declared.turns.sending.Sent.{Sent}
use Rattle.pn_lines.specs.declared.turns.sending.Sent.TheVariants as sent
use Rattle.pn_lines.specs.declared.turns.working.TheConstants.{TURN_UNITS}
use Rattle.pn_lines.specs.declared.turns.working.Work.{Work}
use Rattle.pn_lines.specs.declared.turns.working.Work.TheVariants as work
use Rattle.pn_lines.proofs.TurnEnds.{Turned-after, Turned-looked, Turned-stopped, Turned-worked}

module _ {G : Type 0} where
  -- the source is as the turn left it
  pub kept_source : (result : TurnOutcome) (reached kept : TurnValue G) → IsKept result reached kept → kept.source ≡ reached.source
  kept_source (outcome.Goes pause) reached kept is = ap (λ (k : TurnValue G). k.source) is
  kept_source (outcome.Ended end) reached kept is = is.1
  kept_source (outcome.Failed fault) reached kept is = is.1

  -- the engine and the source of what was loaded
  pub held_was : (shown loaded was : TurnValue G) (buffers : BufferValue) → shown ≡ loaded → held_in loaded.engine buffers loaded.source ≡ was → held_in shown.engine buffers shown.source ≡ was
  held_was shown loaded was buffers same held = ap (λ (k : TurnValue G). held_in k.engine buffers k.source) same ∙ held

-- a write has failed where the sink did
write_failed : (worked : Work) (took : Sent) → outcome_of worked took ≡ outcome.Failed fault.Write → took ≡ sent.Fails
write_failed work.Turn sent.All is = cc
write_failed work.Input sent.All is = cc
write_failed (work.Ended end) sent.All is = cc
write_failed work.Failed sent.All is = cc
write_failed work.Turn sent.Waits is = cc
write_failed work.Input sent.Waits is = cc
write_failed (work.Ended end) sent.Waits is = cc
write_failed work.Failed sent.Waits is = cc
write_failed worked sent.Fails is = refl

pub sink_failed : {G : Type 0} (worked : Work) (took : Sent) (wanted result : TurnOutcome) (reached kept : TurnValue G) → wanted ≡ outcome_of worked took → IsStored wanted result reached kept → result ≡ outcome.Failed fault.Write → took ≡ sent.Fails
sink_failed worked took wanted result reached kept comes stored is =
    ⊎_elim
    (λ (same : result ≡ wanted). write_failed worked took (sym comes ∙ sym same ∙ is))
    (λ (full : (result ≡ outcome.Failed fault.Memory) × ((reached.unread ≢ []) ⊎ (reached.replies ≢ []))). let wrong : outcome.Failed fault.Memory ≡ outcome.Failed fault.Write = sym full.0 ∙ is in cc)
    stored.1

pub waits_not : outcome.Goes pause.Output ≢ outcome.Goes pause.Turn
waits_not same = cc

pub fails_not : outcome.Failed fault.Write ≢ outcome.Goes pause.Turn
fails_not same = cc

module _ {V G : Type 0} (handling : Handling V G) (left : G → ℕ) where
  -- what was loaded, the work, what the sink took, and what was stored
  pub Turned-stored : (old : Moment V G) (leaves after : Option (List ℕ)) (now : V) (begun kept : TurnValue G) (engine : EngineValue G) (state : SourceState) (middle final : BufferValue) (worked : Work) (took : Sent) (wanted result : TurnOutcome) → begun ≡ old.kept
      → old.kept.replies ≡ [] → WorkedIn handling left TURN_UNITS (TURN_UNITS + 2 * MAX_STEP_UNITS) (at old.left old.written old.machine begun) (at leaves old.written now (held_in engine middle state)) worked
      → TakesFirst old.written after middle.replies final.replies → final.input ≡ middle.input → (took ≡ sent.All → final.replies ≡ []) → (took ≡ sent.Waits → final.replies ≢ []) → wanted ≡ outcome_of worked took
      → IsStored wanted result (held_in engine final state) kept → Turned handling left old (at leaves after now kept) result
  Turned-stored old leaves after now begun kept engine state middle final worked took wanted result loaded none works takes input all some comes stored =
      Turned-worked handling left old leaves after now (held_in engine middle state) kept final.replies worked took result none
      (subst (λ (k : TurnValue G). WorkedIn handling left TURN_UNITS (TURN_UNITS + 2 * MAX_STEP_UNITS) (at old.left old.written old.machine k) (at leaves old.written now (held_in engine middle state)) worked) loaded works) takes all some
      (subst (λ (l : List ℕ). IsStored (outcome_of worked took) result (record { engine = engine; unread = l; replies = final.replies; source = state }) kept) input
      (subst (λ (o : TurnOutcome). IsStored o result (held_in engine final state) kept) comes stored))

  -- the same after what waited
  pub Turned-sent : (known before between : Option (List ℕ)) (machine : V) (shown old : TurnValue G) (new : Moment V G) (waits : List ℕ) (result : TurnOutcome) → shown ≡ old → TakesFirst before between shown.replies waits → waits ≡ []
      → Turned handling left (at known between machine (record shown { replies = waits })) new result → Turned handling left (at known before machine old) new result
  Turned-sent known before between machine shown old new waits result same takes all is =
      subst (λ (k : TurnValue G). Turned handling left (at known before machine k) new result) same (Turned-after handling left (at known before machine shown) new between waits result takes all is)

  -- the same where the sink leaves some of it, and an answer was gone on with
  pub Turned-pending : (known before after : Option (List ℕ)) (machine now : V) (shown old : TurnValue G) (engine : EngineValue G) (waits : List ℕ) → shown ≡ old → TakesFirst before after shown.replies waits → waits ≢ []
      → StandsStill handling machine shown.engine now engine → engine.counts.lines ≡ shown.engine.counts.lines
      → Turned handling left (at known before machine old) (at known after now (record shown { engine = engine; replies = waits })) (outcome.Goes pause.Output)
  Turned-pending known before after machine now shown old engine waits same takes some still lines =
      subst (λ (k : TurnValue G). Turned handling left (at known before machine k) (at known after now (record shown { engine = engine; replies = waits })) (outcome.Goes pause.Output)) same
      (Turned-looked handling left (at known before machine shown) after waits now engine (outcome.Goes pause.Output) takes still lines some waits_not)

  pub Turned-waiting : (known before after : Option (List ℕ)) (machine : V) (shown old : TurnValue G) (waits : List ℕ) (result : TurnOutcome) → shown ≡ old → TakesFirst before after shown.replies waits → Rests (record shown { replies = waits }) result
      → result ≢ outcome.Goes pause.Turn → Turned handling left (at known before machine old) (at known after machine (record shown { replies = waits })) result
  Turned-waiting known before after machine shown old waits result same takes rests stops =
      subst (λ (k : TurnValue G). Turned handling left (at known before machine k) (at known after machine (record shown { replies = waits })) result) same
      (Turned-stopped handling left (at known before machine shown) after waits result takes rests stops)
