-- The first newline among bytes, and how much is left after a step.
use Rattle.std.proofs.Common.{◌≡◌, ◌+◌, ◌<◌, ◌≤◌, ℕ, List, [], ◌∷◌, ◌++◌, take, sym, ap, ◌∙◌, subst, arith, ◌⊎◌, ◌-◌, zero, suc, inl, inr, refl}
use Rattle.std.proofs.lemmas.List.{length-take, take-take}
use Rattle.pn_line.specs.Line.{IsUnbroken}
use Rattle.pn_line.specs.declared.line_buffer.TheConstants.{ENDLESS, MAX_LINE_BYTES}
use Rattle.pn_lines.specs.Giving.{NewlineAt}
use Rattle.pn_lines.specs.Answers.{AnswerValue, done, pending}
use Rattle.pn_lines.specs.Engines.{EngineValue, after_answer, dropping, with_lines, Advances, IsNearer, bytes_left, lines_left}
use Rattle.pn_lines.specs.declared.handler.EndedBy.{EndedBy}
use Rattle.pn_lines.specs.declared.handler.EndedBy.TheVariants.{Newline, Input}

-- The first newline among the first bytes.

-- it is the first of all
pub NewlineAt-window : (bytes : List ℕ) (window at : ℕ) → NewlineAt (take window bytes) at → NewlineAt bytes at × (at < window)
NewlineAt-window bytes window at found =
    let long = length-take window bytes in
    let below : at + 1 ≤ window = omega (arith, long, found.below) in
    let first : take at (take window bytes) ≡ take at bytes = take-take at window bytes (omega (arith, below)) in (
      record {
        below = omega (arith, long, found.below);
        before = subst IsUnbroken first found.before;
        newline = sym (take-take (at + 1) window bytes below) ∙ found.newline ∙ ap (λ (l : List ℕ). l ++ 10 ∷ []) first;
      },
      omega (arith, below),
    )

-- How much is left after a step.

module _ {G : Type 0} where
  -- after a whole line as many bytes are left as before it, without it
  left_line : (answer : AnswerValue G) (run : EngineValue G) → bytes_left (after_answer answer Newline run) ≡ lines_left run.counts.lines run.most
  left_line (done replied) run = refl
  left_line (pending g) run = refl

  left_last : (answer : AnswerValue G) (run : EngineValue G) → bytes_left (after_answer answer Input run) ≤ 1
  left_last (done replied) run = omega arith
  left_last (pending g) run = omega arith

  -- while a line is dropped
  left_dropped : (dropped : ℕ) (run : EngineValue G) → 0 < dropped → bytes_left (dropping dropped run) ≡ lines_left run.counts.lines run.most + (ENDLESS - dropped)
  left_dropped zero run some = absurd (omega arith)
  left_dropped (suc dropped) run some = refl

  -- less is left of the bytes
  by_bytes : (left : G → ℕ) (units taken : ℕ) (old new : EngineValue G) → 0 < units → bytes_left new < bytes_left old → bytes_left new + taken ≤ bytes_left old → Advances left units taken old new
  by_bytes left units taken old new some less few = record { still = λ none. absurd (omega arith); nearer = λ used. inl less; fewer = few }

  pub Advances-line : (left : G → ℕ) (units taken : ℕ) (answer : AnswerValue G) (run : EngineValue G) → 0 < units → run.counts.lines < run.most → taken ≤ ENDLESS
      → Advances left units taken (dropping 0 run) (after_answer answer Newline (with_lines 1 (dropping 0 run)))
  Advances-line left units taken answer run some few short =
      let now = left_line answer (with_lines 1 (dropping 0 run)) in
      by_bytes left units taken (dropping 0 run) (after_answer answer Newline (with_lines 1 (dropping 0 run))) some (omega (arith, now)) (omega (arith, now))

  pub Advances-last : (left : G → ℕ) (units taken lines : ℕ) (answer : AnswerValue G) (run : EngineValue G) → 0 < units → (run.counts.lines < run.most) ⊎ (taken ≡ 0) → taken ≤ MAX_LINE_BYTES
      → Advances left units taken (dropping 0 run) (after_answer answer Input (with_lines lines (dropping 0 run)))
  Advances-last left units taken lines answer run some (inl few) short =
      let now = left_last answer (with_lines lines (dropping 0 run)) in
      by_bytes left units taken (dropping 0 run) (after_answer answer Input (with_lines lines (dropping 0 run))) some (omega (arith, now)) (omega (arith, now))
  Advances-last left units taken lines answer run some (inr none) short =
      let now = left_last answer (with_lines lines (dropping 0 run)) in
      by_bytes left units taken (dropping 0 run) (after_answer answer Input (with_lines lines (dropping 0 run))) some (omega (arith, now)) (omega (arith, now))

  -- the first bytes of a line that is too long
  pub Advances-long : (left : G → ℕ) (units taken : ℕ) (run : EngineValue G) → 0 < units → 0 < taken → taken ≤ ENDLESS → run.counts.lines < run.most → Advances left units taken (dropping 0 run) (dropping taken (with_lines 1 run))
  Advances-long left units taken run some any short few =
      let now = left_dropped taken (with_lines 1 run) any in
      by_bytes left units taken (dropping 0 run) (dropping taken (with_lines 1 run)) some (omega (arith, now)) (omega (arith, now))

  -- more of it
  pub Advances-dropped : (left : G → ℕ) (units dropped count : ℕ) (run : EngineValue G) → 0 < units → 0 < dropped → 0 < count → dropped + count < ENDLESS → Advances left units count (dropping dropped run) (dropping (dropped + count) run)
  Advances-dropped left units dropped count run some any more short =
      let was = left_dropped dropped run any in
      let now = left_dropped (dropped + count) run (omega arith) in
      by_bytes left units count (dropping dropped run) (dropping (dropped + count) run) some (omega (arith, was, now)) (omega (arith, was, now))

  -- its end
  pub Advances-refused : (left : G → ℕ) (units dropped taken : ℕ) (ended : EndedBy) (answer : AnswerValue G) (run : EngineValue G) → 0 < units → 0 < dropped → ((taken ≡ 0) × (ended ≡ Input)) ⊎ ((0 < taken) × (dropped + taken ≤ ENDLESS) × (ended ≡ Newline))
      → Advances left units taken (dropping dropped run) (after_answer answer ended run)
  Advances-refused left units dropped taken Newline answer run some any (inr (more, short, kind)) =
      let was = left_dropped dropped run any in
      let now = left_line answer run in
      by_bytes left units taken (dropping dropped run) (after_answer answer Newline run) some (omega (arith, was, now)) (omega (arith, was, now))
  Advances-refused left units dropped taken Newline answer run some any (inl (none, kind)) = cc
  Advances-refused left units dropped taken Input answer run some any (inl (none, kind)) =
      let was = left_dropped dropped run any in
      let now = left_last answer run in
      by_bytes left units taken (dropping dropped run) (after_answer answer Input run) some (omega (arith, was, now)) (omega (arith, was, now))
  Advances-refused left units dropped taken Input answer run some any (inr (more, short, kind)) = cc

  -- a step after others
  pub IsNearer-trans : (left : G → ℕ) (a b c : EngineValue G) → IsNearer left a b → IsNearer left b c → IsNearer left a c
  IsNearer-trans left a b c (inl p) (inl q) = inl (omega (arith, p, q))
  IsNearer-trans left a b c (inl p) (inr (inl q)) = inl (omega (arith, p, q.0))
  IsNearer-trans left a b c (inl p) (inr (inr q)) = inl (omega (arith, p, q.0))
  IsNearer-trans left a b c (inr (inl p)) (inl q) = inl (omega (arith, p.0, q))
  IsNearer-trans left a b c (inr (inl p)) (inr (inl q)) = inr (inl (q.0 ∙ p.0, omega (arith, p.1, q.1)))
  IsNearer-trans left a b c (inr (inl p)) (inr (inr q)) = inr (inl (q.0 ∙ p.0, omega (arith, p.1, q.1)))
  IsNearer-trans left a b c (inr (inr p)) (inl q) = inl (omega (arith, p.0, q))
  IsNearer-trans left a b c (inr (inr p)) (inr (inl q)) = inr (inl (q.0 ∙ p.0, omega (arith, p.1, q.1)))
  IsNearer-trans left a b c (inr (inr p)) (inr (inr q)) = inr (inr (q.0 ∙ p.0, q.1 ∙ p.1, omega (arith, p.2, q.2)))

  nearer_after : (left : G → ℕ) (units taken : ℕ) (a b c : EngineValue G) → Advances left units taken a b → IsNearer left b c → IsNearer left a c
  nearer_after left zero taken a b c first more = subst (λ (r : EngineValue G). IsNearer left r c) (first.still refl) more
  nearer_after left (suc units) taken a b c first more = IsNearer-trans left a b c (first.nearer (omega arith)) more

  pub Advances-more : (left : G → ℕ) (units more taken also : ℕ) (a b c : EngineValue G) → 0 < more → Advances left units taken a b → Advances left more also b c → Advances left (units + more) (taken + also) a c
  Advances-more left units more taken also a b c some first second = record {
    still = λ none. absurd (omega (arith, some, none));
    nearer = λ used. nearer_after left units taken a b c first (second.nearer some);
    fewer = omega (arith, first.fewer, second.fewer);
  }

  -- before the first step
  pub Advances-none : (left : G → ℕ) (a : EngineValue G) → Advances left 0 0 a a
  Advances-none left a = record { still = λ none. refl; nearer = λ used. absurd (omega (arith, used)); fewer = omega arith }
