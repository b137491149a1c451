-- What the work of a turn does.
use Rattle.std.proofs.Common.{◌≡◌, ◌≢◌, ◌⊎◌, ◌+◌, ◌-◌, ◌*◌, ◌<◌, ◌≤◌, ℕ, zero, suc, Bool, true≢false, Option, None, Some, OnSome, List, [], ◌++◌, length, take, drop, Vec, vec_capacity, min, inl, inr, refl, sym, ap, ◌∙◌, subst, arith, append-nil, length-append, length-take-le, ⊎_elim}
use Rattle.std.specs.Io.KnownBytes.{IsAtEnd}
use Rattle.std.specs.declared.alloc.Global.{Global}
use Rattle.pn_lines.specs.Engines.{EngineValue, Advances, Costs, IsNearer, IsPartAt, NextIs}
use Rattle.pn_lines.specs.Giving.{Adds}
use Rattle.pn_lines.specs.Handling.{Handling}
use Rattle.pn_lines.specs.Standing.{Stands}
use Rattle.pn_lines.specs.Turns.{BufferValue, Comes, Works, held_in, is_last, next_work, Moment, Worked, WorkedIn, at}
use Rattle.pn_lines.specs.declared.engine.Next.{Next}
use Rattle.pn_lines.specs.declared.engine.Next.TheVariants as next
use Rattle.pn_lines.specs.declared.engine.TheConstants.{MAX_STEP_UNITS, UNIT_BYTES}
use Rattle.pn_lines.specs.declared.finding.TheConstants.{MAX_PIECE_BYTES}
use Rattle.pn_lines.specs.declared.turns.SourceState.{SourceState}
use Rattle.pn_lines.specs.declared.turns.SourceState.TheVariants as source
use Rattle.pn_lines.specs.declared.turns.buffers.Came.{Came}
use Rattle.pn_lines.specs.declared.turns.buffers.Came.TheVariants as came
use Rattle.pn_lines.specs.declared.turns.input.TheConstants.{READ_SIZE}
use Rattle.pn_lines.specs.declared.turns.working.Work.{Work}
use Rattle.pn_lines.specs.declared.turns.working.Work.TheVariants as work
use Rattle.pn_lines.proofs.Left.{IsNearer-trans}
use Rattle.pn_lines.proofs.Turning.{Moves-came, Moves-then, Moves-took, both_none, only_came, only_took, then_moved}

-- bytes came, units were used, or there was a reason to use none
abbrev IsUsed : ℕ → ℕ → ℕ → ℕ → Type 0
IsUsed came units allowed waited = (0 < came) ⊎ (0 < units) ⊎ (allowed ≡ 0) ⊎ (0 < waited)

-- a call that may go on at once used units, or was allowed none, or replies waited
used_turn : (allowed units : ℕ) (came waited : ℕ) → allowed ≤ units → IsUsed came units allowed waited
used_turn zero units came waited few = inr (inr (inl refl))
used_turn (suc allowed) units came waited few = inr (inl (omega (arith, few)))

used_more : (units : ℕ) (came allowed waited made : ℕ) → 0 < made → made ≤ waited + UNIT_BYTES * units → IsUsed came units allowed waited
used_more zero came allowed waited made some counted = inr (inr (inr (omega (arith, some, counted))))
used_more (suc units) came allowed waited made some counted = inr (inl (omega arith))

used_two : (allowed rest units more came also waited waits made : ℕ) → rest ≡ allowed - units → made + waits ≤ waited + UNIT_BYTES * units → also ≤ came → IsUsed also more rest waits → IsUsed came (units + more) allowed waited
used_two allowed rest units more came also waited waits made is counted few (inl some) = inl (omega (arith, some, few))
used_two allowed rest units more came also waited waits made is counted few (inr (inl some)) = inr (inl (omega (arith, some)))
used_two allowed rest units more came also waited waits made is counted few (inr (inr (inl none))) = used_turn allowed (units + more) came waited (omega (arith, is, none))
used_two allowed rest units more came also waited waits made is counted few (inr (inr (inr some))) = used_more (units + more) came allowed waited waits some (omega (arith, counted))

not_ended : source.Open ≡ source.AtEnd → ⊥
not_ended ended = cc

not_failed : source.Failed ≡ source.AtEnd → ⊥
not_failed ended = cc

on_known : (known : Option (List ℕ)) (P : Type 0) → P → OnSome known P
on_known None P holds = tt
on_known (Some bytes) P holds = holds

module _ {G : Type 0} where
  works_next : (found : Next) (state : SourceState) (allowed units : ℕ) (waits : Vec ℕ Global) (new : EngineValue G) (ahead rest replies : List ℕ) → ahead ≡ rest → NextIs found allowed units waits new rest (is_last state)
      → Works (record { engine = new; unread = ahead; replies = replies; source = state }) (next_work found state)
  works_next next.Input source.Open allowed units waits new ahead rest replies same is = (refl, (subst (λ (l : List ℕ). IsPartAt new.stage l) (sym same) is.0, is.1))
  works_next next.Input source.AtEnd allowed units waits new ahead rest replies same is = absurd (true≢false is.2)
  works_next next.Input source.Failed allowed units waits new ahead rest replies same is = (refl, (subst (λ (l : List ℕ). IsPartAt new.stage l) (sym same) is.0, is.1))
  works_next next.Room state allowed units waits new ahead rest replies same is = tt
  works_next next.Turn state allowed units waits new ahead rest replies same is = tt
  works_next (next.End end) state allowed units waits new ahead rest replies same is = is

  used_next : (found : Next) (state : SourceState) (allowed units n : ℕ) (replies waits : Vec ℕ Global) (new : EngineValue G) (rest : List ℕ) → MAX_PIECE_BYTES ≤ vec_capacity replies → Adds replies waits → Costs allowed units n replies waits
      → NextIs found allowed units waits new rest (is_last state) → next_work found state ≡ work.Turn → IsUsed 0 units allowed (length replies.items)
  used_next next.Input source.Open allowed units n replies waits new rest room adds costs is turn = cc
  used_next next.Input source.AtEnd allowed units n replies waits new rest room adds costs is turn = cc
  used_next next.Input source.Failed allowed units n replies waits new rest room adds costs is turn = cc
  used_next next.Room state allowed units n replies waits new rest room adds costs is turn =
      used_more units 0 allowed (length replies.items) (length waits.items) (omega (arith, is.1, room, adds.capacity, waits.ok.0)) (omega (arith, costs.counted, replies.ok.0, waits.ok.0))
  used_next next.Turn state allowed units n replies waits new rest room adds costs is turn = used_turn allowed units 0 (length replies.items) is
  used_next (next.End end) state allowed units n replies waits new rest room adds costs is turn = cc

  nearer_two : (left : G → ℕ) (units more : ℕ) (a b c : EngineValue G) → (units ≡ 0 → b ≡ a) → (0 < units → IsNearer left a b) → (more ≡ 0 → c ≡ b) → (0 < more → IsNearer left b c) → 0 < units + more → IsNearer left a c
  nearer_two left zero zero a b c still nearer same closer some = absurd (omega (arith, some))
  nearer_two left zero (suc more) a b c still nearer same closer some = subst (λ (r : EngineValue G). IsNearer left r c) (still refl) (closer (omega arith))
  nearer_two left (suc units) zero a b c still nearer same closer some = subst (λ (r : EngineValue G). IsNearer left a r) (sym (same refl)) (nearer (omega arith))
  nearer_two left (suc units) (suc more) a b c still nearer same closer some = IsNearer-trans left a b c (nearer (omega arith)) (closer (omega arith))

module _ {V G : Type 0} (handling : Handling V G) (left : G → ℕ) where
  -- a call of the engine
  pub Worked-took : (allowed units n : ℕ) (known written : Option (List ℕ)) (was now : V) (old new : EngineValue G) (bytes ahead : List ℕ) (replies waits : Vec ℕ Global) (state : SourceState) (found : Next)
      → MAX_PIECE_BYTES ≤ vec_capacity replies → ahead ≡ drop n bytes → n ≤ length bytes
      → ((start : V) (taken out : List ℕ) → Stands handling start taken (out ++ replies.items) bytes (is_last state) was old → Stands handling start (taken ++ take n bytes) (out ++ waits.items) (drop n bytes) (is_last state) now new)
      → Adds replies waits → Costs allowed units n replies waits → Advances left units n old new → new.counts.lines ≤ old.counts.lines + min allowed units → NextIs found allowed units waits new (drop n bytes) (is_last state)
      → Worked handling left allowed units 0 (at known written was (record { engine = old; unread = bytes; replies = replies.items; source = state })) (at known written now (record { engine = new; unread = ahead; replies = waits.items; source = state })) (next_work found state)
  Worked-took allowed units n known written was now old new bytes ahead replies waits state found room same within stands adds costs advances lines is = record {
    moved = only_took (take n bytes);
    moves = Moves-took handling known written was now old new bytes ahead n replies.items waits.items state same stands;
    none = refl;
    came = omega arith;
    counted = omega (arith, costs.counted, length-take-le n bytes within, replies.ok.0, waits.ok.0);
    lines = lines;
    still = advances.still;
    nearer = advances.nearer;
    works = works_next found state allowed units waits new ahead (drop n bytes) waits.items same is;
    used = used_next found state allowed units n replies waits new (drop n bytes) room adds costs is;
  }

  -- the same in the buffers of a thread
  pub Worked-call : (allowed units n : ℕ) (known written : Option (List ℕ)) (was now : V) (old new : EngineValue G) (bytes items ahead : List ℕ) (replies waits : Vec ℕ Global) (before : BufferValue) (state : SourceState) (last : Bool) (found : Next) (worked : Work)
      → bytes ≡ items → record { input = items; replies = replies.items } ≡ before → last ≡ is_last state → worked ≡ next_work found state → MAX_PIECE_BYTES ≤ vec_capacity replies → ahead ≡ drop n items → n ≤ length bytes
      → ((start : V) (taken out : List ℕ) → Stands handling start taken (out ++ replies.items) bytes last was old → Stands handling start (taken ++ take n bytes) (out ++ waits.items) (drop n bytes) last now new)
      → Adds replies waits → Costs allowed units n replies waits → Advances left units n old new → new.counts.lines ≤ old.counts.lines + min allowed units → NextIs found allowed units waits new (drop n bytes) last
      → Worked handling left allowed units 0 (at known written was (held_in old before state)) (at known written now (held_in new (record { input = ahead; replies = waits.items }) state)) worked
  Worked-call allowed units n known written was now old new bytes items ahead replies waits before state last found worked shown whole closes comes room rest within stands adds costs advances lines is =
      let held : record { input = bytes; replies = replies.items } ≡ before = ap (λ (l : List ℕ). record { input = l; replies = replies.items }) shown ∙ whole in
      let same : ahead ≡ drop n bytes = rest ∙ ap (λ (l : List ℕ). drop n l) (sym shown) in
      subst (λ (b : BufferValue). Worked handling left allowed units 0 (at known written was (held_in old b state)) (at known written now (held_in new (record { input = ahead; replies = waits.items }) state)) worked) held
      (subst (λ (w : Work). Worked handling left allowed units 0 (at known written was (held_in old (record { input = bytes; replies = replies.items }) state)) (at known written now (held_in new (record { input = ahead; replies = waits.items }) state)) w) (sym comes)
      (Worked-took allowed units n known written was now old new bytes ahead replies waits state found room same within
      (subst (λ (b : Bool). (start : V) (taken out : List ℕ) → Stands handling start taken (out ++ replies.items) bytes b was old → Stands handling start (taken ++ take n bytes) (out ++ waits.items) (drop n bytes) b now new) closes stands)
      adds costs advances lines (subst (λ (b : Bool). NextIs found allowed units waits new (drop n bytes) b) closes is)))

  module _ (known leaves written : Option (List ℕ)) (was : V) (run : EngineValue G) (old new replies waits : List ℕ) (state now : SourceState) (found : Came) (comes : Comes known leaves old new found) (same : waits ≡ replies)
      (wants : IsPartAt run.stage old) (ends : now ≡ source.AtEnd → ((state ≡ source.AtEnd) × (comes.bytes ≡ [])) ⊎ OnSome known (IsAtEnd leaves)) where
    -- a read, and then a call of the engine
    pub Worked-read : (allowed units : ℕ) (after : Moment V G) (worked result : Work) → Worked handling left allowed units 0 (at leaves written was (record { engine = run; unread = new; replies = waits; source = now })) after worked
        → Works after.kept result → (result ≡ work.Turn → (0 < length comes.bytes) ⊎ (worked ≡ work.Turn))
        → Worked handling left allowed units READ_SIZE (at known written was (record { engine = run; unread = old; replies = replies; source = state })) after result
    Worked-read allowed units after worked result called works turns =
        let is = subst (λ (l : List ℕ). Worked handling left allowed units 0 (at leaves written was (record { engine = run; unread = new; replies = l; source = now })) after worked) same called in
        let long = length-append comes.bytes is.moved.came in
        record {
          moved = then_moved (only_came comes.bytes) is.moved;
          moves = Moves-then handling (only_came comes.bytes) is.moved (at known written was (record { engine = run; unread = old; replies = replies; source = state }))
              (at leaves written was (record { engine = run; unread = new; replies = replies; source = now })) after
              (Moves-came handling known leaves written was run old new comes.bytes replies state now comes.consumes comes.new_is wants ends) is.moves;
          none = is.none;
          came = omega (arith, long, comes.few, is.came);
          counted = is.counted;
          lines = is.lines;
          still = is.still;
          nearer = is.nearer;
          works = works;
          used = λ turn. ⊎_elim
              (λ (some : 0 < length comes.bytes). inl (omega (arith, long, some)))
              (λ (same : worked ≡ work.Turn). ⊎_elim (λ (some : 0 < length is.moved.came). inl (omega (arith, long, some))) (λ (rest : (0 < units) ⊎ (allowed ≡ 0) ⊎ (0 < length replies)). inr rest) (is.used same))
              (turns turn);
        }

    -- a read that brought nothing
    waits_here : (allowed : ℕ) (result : Work) → Works (record { engine = run; unread = new; replies = replies; source = now }) result → result ≢ work.Turn
        → Worked handling left allowed 0 READ_SIZE (at known written was (record { engine = run; unread = old; replies = replies; source = state })) (at leaves written was (record { engine = run; unread = new; replies = replies; source = now })) result
    waits_here allowed result works idle = record {
      moved = only_came comes.bytes;
      moves = Moves-came handling known leaves written was run old new comes.bytes replies state now comes.consumes comes.new_is wants ends;
      none = refl;
      came = comes.few;
      counted = omega arith;
      lines = omega arith;
      still = λ none. refl;
      nearer = λ some. absurd (omega (arith, some));
      works = works;
      used = λ turn. absurd (idle turn);
    }

    pub Worked-waits : (allowed : ℕ) (result : Work) → Works (record { engine = run; unread = new; replies = replies; source = now }) result → result ≢ work.Turn
        → WorkedIn handling left allowed (allowed + MAX_STEP_UNITS) (at known written was (record { engine = run; unread = old; replies = replies; source = state })) (at leaves written was (record { engine = run; unread = new; replies = waits; source = now })) result
    Worked-waits allowed result works idle = record {
      units = 0;
      few = omega arith;
      by = subst (λ (l : List ℕ). Worked handling left allowed 0 READ_SIZE (at known written was (record { engine = run; unread = old; replies = replies; source = state })) (at leaves written was (record { engine = run; unread = new; replies = l; source = now })) result) (sym same)
          (waits_here allowed result works idle);
    }

  -- by what was found
  module _ (known leaves written : Option (List ℕ)) (was : V) (run : EngineValue G) (old new replies waits : List ℕ) (same : waits ≡ replies) (part : IsPartAt run.stage old) (made : run.left ≡ []) where
    pub Worked-came : (state : SourceState) → state ≡ source.Open → (is_all : Bool) (allowed units : ℕ) (after : Moment V G) (worked result : Work) → Comes known leaves old new (came.Input is_all) → units ≤ allowed + MAX_STEP_UNITS
        → Worked handling left allowed units 0 (at leaves written was (record { engine = run; unread = new; replies = waits; source = state })) after worked → (result ≡ worked) ⊎ (result ≡ work.Turn)
        → WorkedIn handling left allowed (allowed + MAX_STEP_UNITS) (at known written was (record { engine = run; unread = old; replies = replies; source = state })) after result
    Worked-came state opened is_all allowed units after worked result comes few is either = record {
      units = units;
      few = few;
      by = Worked-read known leaves written was run old new replies waits state state (came.Input is_all) comes same part (λ ended. absurd (not_ended (sym opened ∙ ended))) allowed units after worked result is
          (⊎_elim (λ (one : result ≡ worked). subst (λ (w : Work). Works after.kept w) (sym one) is.works) (λ (turn : result ≡ work.Turn). subst (λ (w : Work). Works after.kept w) (sym turn) tt) either) (λ turn. inl comes.by);
    }

    pub Worked-ended : (state : SourceState) (allowed units : ℕ) (after : Moment V G) (worked : Work) → Comes known leaves old new came.End → units ≤ allowed + MAX_STEP_UNITS
        → Worked handling left allowed units 0 (at leaves written was (record { engine = run; unread = new; replies = waits; source = source.AtEnd })) after worked
        → WorkedIn handling left allowed (allowed + MAX_STEP_UNITS) (at known written was (record { engine = run; unread = old; replies = replies; source = state })) after worked
    Worked-ended state allowed units after worked comes few is = record {
      units = units;
      few = few;
      by = Worked-read known leaves written was run old new replies waits state source.AtEnd came.End comes same part (λ ended. inr (on_known known (IsAtEnd leaves) comes.by.1)) allowed units after worked worked is is.works (λ turn. inr turn);
    }

    nothing_came : (bytes : List ℕ) → new ≡ old ++ bytes → bytes ≡ [] → IsPartAt run.stage new
    nothing_came bytes is none = subst (λ (l : List ℕ). IsPartAt run.stage l) (sym (is ∙ ap (λ (l : List ℕ). old ++ l) none ∙ append-nil old)) part

    pub Worked-nothing : (state : SourceState) → state ≡ source.Open → (allowed : ℕ) → Comes known leaves old new came.Nothing
        → WorkedIn handling left allowed (allowed + MAX_STEP_UNITS) (at known written was (record { engine = run; unread = old; replies = replies; source = state })) (at leaves written was (record { engine = run; unread = new; replies = waits; source = state })) work.Input
    Worked-nothing state opened allowed comes =
        Worked-waits known leaves written was run old new replies waits state state came.Nothing comes same part (λ ended. absurd (not_ended (sym opened ∙ ended))) allowed work.Input (opened, (nothing_came comes.bytes comes.new_is comes.by, made)) (λ turn. cc)

    pub Worked-failed : (state : SourceState) (allowed : ℕ) → Comes known leaves old new came.Fault
        → WorkedIn handling left allowed (allowed + MAX_STEP_UNITS) (at known written was (record { engine = run; unread = old; replies = replies; source = state })) (at leaves written was (record { engine = run; unread = new; replies = waits; source = source.Failed })) work.Failed
    Worked-failed state allowed comes =
        Worked-waits known leaves written was run old new replies waits state source.Failed came.Fault comes same part (λ ended. absurd (not_failed ended)) allowed work.Failed (refl, (nothing_came comes.bytes comes.new_is comes.by, made)) (λ turn. cc)

  -- one call alone
  pub Worked-once : (allowed units : ℕ) (old new : Moment V G) (worked : Work) → units ≤ allowed + MAX_STEP_UNITS → Worked handling left allowed units 0 old new worked → WorkedIn handling left allowed (allowed + 2 * MAX_STEP_UNITS) old new worked
  Worked-once allowed units old new worked few is = record {
    units = units;
    few = omega (arith, few);
    by = record { moved = is.moved; moves = is.moves; none = is.none; came = omega (arith, is.came); counted = is.counted; lines = is.lines; still = is.still; nearer = is.nearer; works = is.works; used = is.used };
  }

  -- one call, and then more work
  pub Worked-then : (allowed rest units more : ℕ) (a b c : Moment V G) (one two : Work) → rest ≡ allowed - units → Worked handling left allowed units 0 a b one → Worked handling left rest more READ_SIZE b c two
      → Worked handling left allowed (units + more) READ_SIZE a c two
  Worked-then allowed rest units more a b c one two is first second =
      let came = length-append first.moved.came second.moved.came in
      let took = length-append first.moved.took second.moved.took in
      record {
        moved = then_moved first.moved second.moved;
        moves = Moves-then handling first.moved second.moved a b c first.moves second.moves;
        none = both_none first.moved.went second.moved.went first.none second.none;
        came = omega (arith, came, first.came, second.came);
        counted = omega (arith, took, first.counted, second.counted);
        lines = omega (arith, is, first.lines, second.lines);
        still = λ none. second.still (omega (arith, none)) ∙ first.still (omega (arith, none));
        nearer = nearer_two left units more a.kept.engine b.kept.engine c.kept.engine first.still first.nearer second.still second.nearer;
        works = second.works;
        used = λ turn.
            used_two allowed rest units more (length (first.moved.came ++ second.moved.came)) (length second.moved.came) (length a.kept.replies) (length b.kept.replies) (length first.moved.took) is first.counted (omega (arith, came)) (second.used turn);
      }

  pub Worked-joined : (allowed units rest : ℕ) (a b c : Moment V G) (one two : Work) → units ≤ allowed + MAX_STEP_UNITS → rest ≡ allowed - units → Worked handling left allowed units 0 a b one → WorkedIn handling left rest (rest + MAX_STEP_UNITS) b c two
      → WorkedIn handling left allowed (allowed + 2 * MAX_STEP_UNITS) a c two
  Worked-joined allowed units rest a b c one two few is first second = record {
    units = units + second.units;
    few = omega (arith, few, is, second.few);
    by = Worked-then allowed rest units second.units a b c one two is first second.by;
  }
