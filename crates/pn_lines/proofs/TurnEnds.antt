-- What a turn comes to after its work, or where its sink takes no more.
use Rattle.std.proofs.Common.{◌≡◌, ◌≢◌, ◌⊎◌, ◌+◌, ◌-◌, ◌*◌, ◌<◌, ℕ, Option, List, [], ◌++◌, length, inl, inr, refl, sym, ap, ◌∙◌, subst, arith, length-append, ⊎_elim}
use Rattle.pn_lines.specs.Engines.{EngineValue}
use Rattle.pn_lines.specs.Handling.{Handling}
use Rattle.pn_lines.specs.Standing.{StandsStill}
use Rattle.pn_lines.specs.Turns.{IsKept, IsStored, Rests, TakesFirst, TurnValue, Works, is_last, outcome_of, Moment, Turned, WorkedIn, at}
use Rattle.pn_lines.specs.declared.engine.TheConstants.{MAX_STEP_UNITS}
use Rattle.pn_lines.specs.declared.turns.Pause.TheVariants as pause
use Rattle.pn_lines.specs.declared.turns.TurnFault.TheVariants as fault
use Rattle.pn_lines.specs.declared.turns.TurnOutcome.{TurnOutcome}
use Rattle.pn_lines.specs.declared.turns.TurnOutcome.TheVariants as outcome
use Rattle.pn_lines.specs.declared.turns.sending.Sent.{Sent}
use Rattle.pn_lines.specs.declared.turns.sending.Sent.TheVariants as sent
use Rattle.pn_lines.specs.declared.turns.working.TheConstants.{TURN_UNITS}
use Rattle.pn_lines.specs.declared.turns.working.Work.{Work}
use Rattle.pn_lines.specs.declared.turns.working.Work.TheVariants as work
use Rattle.pn_lines.proofs.Turning.{Moves-then, Moves-went, only_went, then_moved}

-- work goes on at once only where it was not done
worked_turn : (worked : Work) (took : Sent) → outcome_of worked took ≡ outcome.Goes pause.Turn → worked ≡ work.Turn
worked_turn work.Turn took is = refl
worked_turn work.Input sent.All is = cc
worked_turn (work.Ended end) sent.All is = cc
worked_turn work.Failed sent.All is = cc
worked_turn work.Input sent.Waits is = cc
worked_turn (work.Ended end) sent.Waits is = cc
worked_turn work.Failed sent.Waits is = cc
worked_turn work.Input sent.Fails is = cc
worked_turn (work.Ended end) sent.Fails is = cc
worked_turn work.Failed sent.Fails is = cc

module _ {G : Type 0} where
  -- the rest of the outcomes
  rests_of : (worked : Work) (took : Sent) (held : TurnValue G) (waits : List ℕ) → Works held worked → (took ≡ sent.All → waits ≡ []) → (took ≡ sent.Waits → waits ≢ []) → Rests (record held { replies = waits }) (outcome_of worked took)
  rests_of work.Turn sent.All held waits works all some = all refl
  rests_of work.Input sent.All held waits works all some = (all refl, works)
  rests_of (work.Ended end) sent.All held waits works all some = (all refl, works)
  rests_of work.Failed sent.All held waits works all some = (all refl, works)
  rests_of work.Turn sent.Waits held waits works all some = some refl
  rests_of work.Input sent.Waits held waits works all some = some refl
  rests_of (work.Ended end) sent.Waits held waits works all some = some refl
  rests_of work.Failed sent.Waits held waits works all some = some refl
  rests_of work.Turn sent.Fails held waits works all some = tt
  rests_of work.Input sent.Fails held waits works all some = tt
  rests_of (work.Ended end) sent.Fails held waits works all some = tt
  rests_of work.Failed sent.Fails held waits works all some = tt

  IsKept-same : (outcome : TurnOutcome) (kept : TurnValue G) → IsKept outcome kept kept
  IsKept-same (outcome.Goes pause) kept = refl
  IsKept-same (outcome.Ended end) kept = (refl, refl)
  IsKept-same (outcome.Failed fault) kept = (refl, refl)

module _ {V G : Type 0} (handling : Handling V G) (left : G → ℕ) where
  -- the work of a turn, and what its sink took
  pub Turned-worked : (old : Moment V G) (leaves after : Option (List ℕ)) (now : V) (held kept : TurnValue G) (waits : List ℕ) (worked : Work) (took : Sent) (result : TurnOutcome) → old.kept.replies ≡ []
      → WorkedIn handling left TURN_UNITS (TURN_UNITS + 2 * MAX_STEP_UNITS) old (at leaves old.written now held) worked → TakesFirst old.written after held.replies waits → (took ≡ sent.All → waits ≡ []) → (took ≡ sent.Waits → waits ≢ [])
      → IsStored (outcome_of worked took) result (record held { replies = waits }) kept → Turned handling left old (at leaves after now kept) result
  Turned-worked old leaves after now held kept waits worked took result none works takes all some stored =
      let by = works.by in
      let sent_is = ap length takes.split ∙ length-append takes.sent waits in
      let came = length-append by.moved.came [] in
      let took_is = length-append by.moved.took [] in
      let went = length-append by.moved.went takes.sent in
      record {
        moved = then_moved by.moved (only_went takes.sent);
        reached = record held { replies = waits };
        moves = Moves-then handling by.moved (only_went takes.sent) old (at leaves old.written now held) (at leaves after now (record held { replies = waits })) by.moves
            (Moves-went handling leaves old.written after now held takes.sent waits takes.appends takes.split);
        few = record { came = omega (arith, came, by.came); made = omega (arith, took_is, went, ap length by.none, sent_is, by.counted, works.few); lines = omega (arith, by.lines) };
        rests = ⊎_elim
            (λ (same : result ≡ outcome_of worked took). subst (λ (o : TurnOutcome). Rests (record held { replies = waits }) o) (sym same) (rests_of worked took held waits by.works all some))
            (λ (full : (result ≡ outcome.Failed fault.Memory) × ((held.unread ≢ []) ⊎ (waits ≢ []))). subst (λ (o : TurnOutcome). Rests (record held { replies = waits }) o) (sym full.0) full.1)
            stored.1;
        nearer = λ turn. ⊎_elim
            (λ (same : result ≡ outcome_of worked took). ⊎_elim
            (λ (any : 0 < length by.moved.came). inl (omega (arith, came, any)))
            (λ (more : (0 < works.units) ⊎ (TURN_UNITS ≡ 0) ⊎ (0 < length old.kept.replies)). ⊎_elim
            (λ (used : 0 < works.units). inr (by.nearer used))
            (λ (rest : (TURN_UNITS ≡ 0) ⊎ (0 < length old.kept.replies)). ⊎_elim
            (λ (zero_units : TURN_UNITS ≡ 0). absurd (omega (arith, zero_units)))
            (λ (waited : 0 < length old.kept.replies). absurd (omega (arith, waited, ap length none)))
            rest)
            more)
            (by.used (worked_turn worked took (sym same ∙ turn))))
            (λ (full : (result ≡ outcome.Failed fault.Memory) × ((held.unread ≢ []) ⊎ (waits ≢ []))). let wrong : outcome.Failed fault.Memory ≡ outcome.Goes pause.Turn = sym full.0 ∙ turn in cc)
            stored.1;
        kept = stored.0;
      }

  -- all that waited went first
  pub Turned-after : (old new : Moment V G) (between : Option (List ℕ)) (waits : List ℕ) (result : TurnOutcome) → TakesFirst old.written between old.kept.replies waits → waits ≡ []
      → Turned handling left (at old.left between old.machine (record old.kept { replies = waits })) new result → Turned handling left old new result
  Turned-after old new between waits result takes all is =
      let sent_is = ap length takes.split ∙ length-append takes.sent waits in
      let went = length-append takes.sent is.moved.went in
      record {
        moved = then_moved (only_went takes.sent) is.moved;
        reached = is.reached;
        moves = Moves-then handling (only_went takes.sent) is.moved old (at old.left between old.machine (record old.kept { replies = waits })) (at new.left new.written new.machine is.reached)
            (Moves-went handling old.left old.written between old.machine old.kept takes.sent waits takes.appends takes.split) is.moves;
        few = record { came = is.few.came; made = omega (arith, went, sent_is, is.few.made); lines = is.few.lines };
        rests = is.rests;
        nearer = is.nearer;
        kept = is.kept;
      }

  -- the sink took no more, and an answer was gone on with
  pub Turned-looked : (old : Moment V G) (after : Option (List ℕ)) (waits : List ℕ) (now : V) (engine : EngineValue G) (result : TurnOutcome) → TakesFirst old.written after old.kept.replies waits
      → StandsStill handling old.machine old.kept.engine now engine → engine.counts.lines ≡ old.kept.engine.counts.lines → Rests (record old.kept { engine = engine; replies = waits }) result
      → result ≢ outcome.Goes pause.Turn → Turned handling left old (at old.left after now (record old.kept { engine = engine; replies = waits })) result
  Turned-looked old after waits now engine result takes still lines rests stops =
      let went = Moves-went handling old.left old.written after old.machine old.kept takes.sent waits takes.appends takes.split in
      record {
        moved = only_went takes.sent;
        reached = record old.kept { engine = engine; replies = waits };
        moves = record {
          comes = went.comes;
          goes = went.goes;
          unread = went.unread;
          ends = went.ends;
          stands = λ start taken out is. still start (taken ++ []) ((out ++ takes.sent) ++ waits) old.kept.unread (is_last old.kept.source) (went.stands start taken out is);
        };
        few = record { came = omega arith; made = omega (arith, ap length takes.split ∙ length-append takes.sent waits); lines = omega (arith, lines) };
        rests = rests;
        nearer = λ turn. absurd (stops turn);
        kept = IsKept-same result (record old.kept { engine = engine; replies = waits });
      }

  -- the sink took no more
  pub Turned-stopped : (old : Moment V G) (after : Option (List ℕ)) (waits : List ℕ) (result : TurnOutcome) → TakesFirst old.written after old.kept.replies waits → Rests (record old.kept { replies = waits }) result
      → result ≢ outcome.Goes pause.Turn → Turned handling left old (at old.left after old.machine (record old.kept { replies = waits })) result
  Turned-stopped old after waits result takes rests stops = record {
    moved = only_went takes.sent;
    reached = record old.kept { replies = waits };
    moves = Moves-went handling old.left old.written after old.machine old.kept takes.sent waits takes.appends takes.split;
    few = record { came = omega arith; made = omega (arith, ap length takes.split ∙ length-append takes.sent waits); lines = omega arith };
    rests = rests;
    nearer = λ turn. absurd (stops turn);
    kept = IsKept-same result (record old.kept { replies = waits });
  }
