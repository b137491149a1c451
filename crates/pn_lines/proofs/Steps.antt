-- What each step that takes lines does, one after another.
use Rattle.std.proofs.Common.{◌≡◌, ◌+◌, ◌-◌, ◌≤◌, ℕ, Bool, List, [], ◌++◌, length, take, drop, Vec, refl, sym, ap, ◌∙◌, subst, arith, append_assoc, append-nil, length-append, ◌≢◌, ◌⊎◌, ◌*◌, ◌<◌, true, ◌∷◌, max, inl, inr}
use Rattle.std.proofs.Math.Seq.{take-add}
use Rattle.std.proofs.lemmas.List.{drop-drop, length-drop, take_all, drop_all, length-take, take-take}
use Rattle.std.specs.declared.alloc.Global.{Global}
use Rattle.std.proofs.lemmas.List.Elements.{All-nil}
use Rattle.pn_line.specs.declared.line_buffer.TheConstants.{ENDLESS, MAX_KEPT_BYTES, MAX_LINE_BYTES}
use Rattle.pn_line.specs.Line.{IsUnbroken}
use Rattle.pn_lines.specs.Engines.{EngineValue, dropping, after_answer, with_lines, Advances, NextIs}
use Rattle.pn_lines.specs.Giving.{Adds, Gives, NewlineAt}
use Rattle.pn_lines.specs.Handling.{Handling, IsPreorder}
use Rattle.pn_lines.specs.Standing.{Stands, count_of, Asks, Refuses, Takes}
use Rattle.pn_lines.specs.declared.engine.Next.{Next}
use Rattle.pn_lines.specs.declared.engine.state.Stage.{Stage}
use Rattle.pn_lines.proofs.Standing.{Stands-given, Stands-answered}
use Rattle.pn_lines.specs.Answers.{AnswerValue, done, pending}
use Rattle.pn_lines.specs.declared.engine.TheConstants.{MAX_STEP_UNITS, UNIT_BYTES}
use Rattle.pn_lines.specs.declared.handler.EndedBy.{EndedBy}
use Rattle.pn_lines.specs.declared.handler.EndedBy.TheVariants.{Newline, Input}
use Rattle.pn_lines.proofs.Left.{Advances-last, Advances-line, Advances-long, Advances-refused}
use Rattle.pn_lines.proofs.Taking.{Asked-line, Asked-long, Stands-long, counted_long}
use Rattle.pn_lines.specs.declared.engine.Next.TheVariants as next

-- Steps one after another.

pub Adds-none : (v : Vec ℕ Global) → Adds v v
Adds-none v = record { given = []; items = sym (append-nil v.items); capacity = omega arith }

pub Adds-more : (a b c : Vec ℕ Global) → Adds a b → Adds b c → Adds a c
Adds-more a b c first second = record {
  given = first.given ++ second.given;
  items = second.items ∙ ap (λ (l : List ℕ). l ++ second.given) first.items ∙ append_assoc a.items first.given second.given;
  capacity = omega (arith, first.capacity, second.capacity);
}

-- nothing was done by the last step
pub Advances-waited : {G : Type 0} (left : G → ℕ) (units taken : ℕ) (a b c : EngineValue G) → Advances left units taken a b → Advances left 0 0 b c → Advances left units taken a c
Advances-waited {G = G} left units taken a b c first second = subst (λ (r : EngineValue G). Advances left units taken a r) (sym (second.still refl)) first

pub NextIs-waited : {G : Type 0} (what : Next) (allowed units : ℕ) (replies : Vec ℕ Global) (run : EngineValue G) (ahead : List ℕ) (last : Bool) → NextIs what 1 0 replies run ahead last → NextIs what allowed units replies run ahead last
NextIs-waited next.Input allowed units replies run ahead last is = is
NextIs-waited next.Room allowed units replies run ahead last is = is
NextIs-waited next.Turn allowed units replies run ahead last is = absurd (omega (arith, is))
NextIs-waited (next.End end) allowed units replies run ahead last is = is

module _ {V G : Type 0} (handling : Handling V G) (start : V) (taken : List ℕ) (bytes : List ℕ) (last : Bool) where
  -- nothing was taken
  pub Stands-none : (given : List ℕ) (machine : V) (run : EngineValue G) → Stands handling start taken given bytes last machine run → Stands handling start (taken ++ take 0 bytes) given (drop 0 bytes) last machine run
  Stands-none given machine run is = subst (λ (l : List ℕ). Stands handling start l given bytes last machine run) (sym (append-nil taken)) is

  pub Stands-waited : (given : List ℕ) (machine : V) (run : EngineValue G) → Stands handling start (taken ++ take 0 bytes) given (drop 0 bytes) last machine run → Stands handling start taken given bytes last machine run
  Stands-waited given machine run is = subst (λ (l : List ℕ). Stands handling start l given bytes last machine run) (append-nil taken) is

  -- some bytes were taken, and then others
  pub Stands-then : (given : List ℕ) (machine : V) (run : EngineValue G) (n m : ℕ) → Stands handling start ((taken ++ take n bytes) ++ take m (drop n bytes)) given (drop m (drop n bytes)) last machine run
      → Stands handling start (taken ++ take (n + m) bytes) given (drop (n + m) bytes) last machine run
  Stands-then given machine run n m is =
      let all : (taken ++ take n bytes) ++ take m (drop n bytes) ≡ taken ++ take (n + m) bytes = append_assoc taken (take n bytes) (take m (drop n bytes)) ∙ ap (λ (l : List ℕ). taken ++ l) (sym (take-add n m bytes)) in
      subst (λ (l : List ℕ). Stands handling start (taken ++ take (n + m) bytes) given l last machine run) (drop-drop m n bytes)
      (subst (λ (l : List ℕ). Stands handling start l given (drop m (drop n bytes)) last machine run) all is)

  -- text was given, and nothing was taken
  pub Stands-gave : (out : List ℕ) (machine : V) (run new : EngineValue G) (old now : Vec ℕ Global) (n : ℕ) → Gives run.left new.left old now → new ≡ record run { left = new.left } → n ≡ 0
      → Stands handling start taken (out ++ old.items) bytes last machine run → Stands handling start (taken ++ take n bytes) (out ++ now.items) (drop n bytes) last machine new
  Stands-gave out machine run new old now n gives others none is =
      let left : (out ++ (old.items ++ gives.given)) ++ new.left ≡ (out ++ old.items) ++ (gives.given ++ new.left) = simp append_assoc in
      let same : (out ++ now.items) ++ new.left ≡ (out ++ old.items) ++ run.left = ap (λ (l : List ℕ). (out ++ l) ++ new.left) gives.items ∙ left ∙ ap (λ (l : List ℕ). (out ++ old.items) ++ l) (sym gives.split) in
      let less : length new.left ≤ length run.left = omega (arith, ap length gives.split, length-append gives.given new.left) in
      let gave = Stands-given handling start taken (out ++ old.items) (out ++ now.items) bytes new.left last machine run same less is in
      subst (λ (k : ℕ). Stands handling start (taken ++ take k bytes) (out ++ now.items) (drop k bytes) last machine new) (sym none)
      (Stands-none (out ++ now.items) machine new (subst (λ (r : EngineValue G). Stands handling start taken (out ++ now.items) bytes last machine r) (sym others) gave))

  -- what is done next was taken out
  pub Stands-staged : (given : List ℕ) (machine : V) (run new : EngineValue G) (stage : Stage G) → stage ≡ run.stage → new ≡ dropping 0 run → Stands handling start taken given bytes last machine run
      → Stands handling start taken given bytes last machine (record new { stage = stage })
  Stands-staged given machine run new stage same reads is =
      subst (λ (r : EngineValue G). Stands handling start taken given bytes last machine (record r { stage = stage })) (sym reads)
      (subst (λ (s : Stage G). Stands handling start taken given bytes last machine (record run { stage = s })) (sym same) is)

  -- a step after others, which saw what they left
  module _ (old new : List ℕ) (was now : V) (before after : EngineValue G) (n m : ℕ) (ahead : List ℕ) (same : ahead ≡ drop n bytes)
      (step : Stands handling start (taken ++ take n bytes) old ahead last was before → Stands handling start ((taken ++ take n bytes) ++ take m ahead) new (drop m ahead) last now after)
      (is : Stands handling start (taken ++ take n bytes) old (drop n bytes) last was before) where
    stepped : Stands handling start ((taken ++ take n bytes) ++ take m (drop n bytes)) new (drop m (drop n bytes)) last now after
    stepped =
        subst (λ (l : List ℕ). Stands handling start ((taken ++ take n bytes) ++ take m l) new (drop m l) last now after) same
        (step (subst (λ (l : List ℕ). Stands handling start (taken ++ take n bytes) old l last was before) (sym same) is))

    pub Stands-on : Stands handling start (taken ++ take (n + m) bytes) new (drop (n + m) bytes) last now after
    Stands-on = Stands-then new now after n m stepped

-- all of what a slice has from an index on
pub slice_rest : (bytes : List ℕ) (n : ℕ) → take (length bytes - n) (drop n bytes) ≡ drop n bytes
slice_rest bytes n = take_all (length bytes - n) (drop n bytes) (omega (arith, length-drop n bytes))

-- What each step that takes lines does.

module _ {V G : Type 0} (handling : Handling V G) where
  -- an answer sets what is done next, whatever it was
  pub after_same : (answer : AnswerValue G) (ended : EndedBy) (run : EngineValue G) → after_answer answer ended run ≡ after_answer answer ended (dropping 0 run)
  after_same (done replied) ended run = refl
  after_same (pending g) ended run = refl

  -- an answer counts no line
  after_lines : (answer : AnswerValue G) (ended : EndedBy) (run : EngineValue G) → (after_answer answer ended run).counts.lines ≡ run.counts.lines
  after_lines (done replied) ended run = refl
  after_lines (pending g) ended run = refl

  counts_one : (part : List ℕ) → count_of Input part ≤ 1
  counts_one [] = omega arith
  counts_one (b ∷ part) = omega arith

  recast : (start : V) (taken took given ahead : List ℕ) (last : Bool) (machine : V) (run new : EngineValue G) → took ≡ taken → new ≡ run → Stands handling start taken given ahead last machine run
      → Stands handling start took given ahead last machine new
  recast start taken took given ahead last machine run new same is stands =
      subst (λ (l : List ℕ). Stands handling start l given ahead last machine new) (sym same) (subst (λ (r : EngineValue G). Stands handling start taken given ahead last machine r) (sym is) stands)

  module _ (left : G → ℕ) (steady : IsPreorder handling.moves) (bytes : List ℕ) (last : Bool) (was : V) (run : EngineValue G) where
    -- a whole line
    pub Takes-line : (now : V) (new : EngineValue G) (at units : ℕ) → NewlineAt bytes at → at ≤ MAX_LINE_BYTES → run.counts.lines < run.most → run.left ≡ []
        → Asks handling Newline (take at bytes) was now (with_lines 1 run) new → at + 1 ≤ UNIT_BYTES * units → units ≤ MAX_STEP_UNITS → Takes handling left bytes last was now (dropping 0 run) new (at + 1) units
    Takes-line now new at units newline short few made asks enough least =
        let has = asks.has ∙ after_same asks.answer Newline (with_lines 1 run) in
        let some : 0 < units = omega (arith, enough) in
        let shorter : length (take at bytes) < ENDLESS = omega (arith, length-take at bytes, short) in
        record {
          stands = λ start before given is.
              let asked = Asked-line handling start before given bytes (drop (at + 1) bytes) last was run now (take at bytes) Newline asks.answer steady (record { unbroken = newline.before; short = shorter }) tt (omega (arith, few)) asks.answered is in
              recast start (before ++ (take at bytes ++ 10 ∷ [])) (before ++ take (at + 1) bytes) given (drop (at + 1) bytes) last now (after_answer asks.answer Newline (with_lines 1 (dropping 0 run))) new (ap (λ (l : List ℕ). before ++ l) newline.newline) has
              (Stands-answered handling start (before ++ (take at bytes ++ 10 ∷ [])) given (drop (at + 1) bytes) last now (with_lines 1 (dropping 0 run)) Newline asks.answer made asked);
          advances = subst (λ (r : EngineValue G). Advances left units (at + 1) (dropping 0 run) r) (sym has) (Advances-line left units (at + 1) asks.answer run some few (omega (arith, short)));
          within = omega (arith, newline.below);
          counted = enough;
          few = least;
          lines = omega (arith, ap (λ (r : EngineValue G). r.counts.lines) has, after_lines asks.answer Newline (with_lines 1 (dropping 0 run)));
        }

    -- how many lines the last part counts for fits
    last_fits : (part : List ℕ) → (run.counts.lines < run.most) ⊎ (part ≡ []) → run.counts.lines ≤ run.most → run.counts.lines + count_of Input part ≤ run.most
    last_fits [] few most = omega (arith, most)
    last_fits (b ∷ part) (inl few) most = omega (arith, few)
    last_fits (b ∷ part) (inr none) most = cc

    -- and so does the count
    pub last_counts : (part : List ℕ) → (run.counts.lines < run.most) ⊎ (part ≡ []) → run.counts.lines + count_of Input part ≤ max run.most run.counts.lines
    last_counts [] few = omega arith
    last_counts (b ∷ part) (inl few) = omega (arith, few)
    last_counts (b ∷ part) (inr none) = cc

    none_or : (run.counts.lines < run.most) ⊎ (bytes ≡ []) → (run.counts.lines < run.most) ⊎ (length bytes ≡ 0)
    none_or (inl few) = inl few
    none_or (inr none) = inr (ap length none)

    -- the last part
    pub Takes-last : (now : V) (new : EngineValue G) (units : ℕ) → last ≡ true → IsUnbroken bytes → length bytes ≤ MAX_LINE_BYTES → (run.counts.lines < run.most) ⊎ (bytes ≡ []) → run.left ≡ []
        → Asks handling Input bytes was now (with_lines (count_of Input bytes) run) new → 0 < units → length bytes ≤ UNIT_BYTES * units → units ≤ MAX_STEP_UNITS
        → Takes handling left bytes last was now (dropping 0 run) new (length bytes) units
    Takes-last now new units is_last unbroken short few made asks some enough least =
        let has = asks.has ∙ after_same asks.answer Input (with_lines (count_of Input bytes) run) in
        let all : drop (length bytes) bytes ≡ [] = drop_all (length bytes) bytes (omega arith) in
        let whole : take (length bytes) bytes ≡ bytes ++ [] = take_all (length bytes) bytes (omega arith) ∙ sym (append-nil bytes) in
        record {
          stands = λ start before given is.
              let asked = Asked-line handling start before given bytes (drop (length bytes) bytes) last was run now bytes Input asks.answer steady (record { unbroken = unbroken; short = omega (arith, short) }) (all, is_last) (last_fits bytes few is.few) asks.answered is in
              recast start (before ++ (bytes ++ [])) (before ++ take (length bytes) bytes) given (drop (length bytes) bytes) last now (after_answer asks.answer Input (with_lines (count_of Input bytes) (dropping 0 run))) new (ap (λ (l : List ℕ). before ++ l) whole) has
              (Stands-answered handling start (before ++ (bytes ++ [])) given (drop (length bytes) bytes) last now (with_lines (count_of Input bytes) (dropping 0 run)) Input asks.answer made asked);
          advances = subst (λ (r : EngineValue G). Advances left units (length bytes) (dropping 0 run) r) (sym has) (Advances-last left units (length bytes) (count_of Input bytes) asks.answer run some (none_or few) short);
          within = omega arith;
          counted = enough;
          few = least;
          lines = omega (arith, ap (λ (r : EngineValue G). r.counts.lines) has, after_lines asks.answer Input (with_lines (count_of Input bytes) (dropping 0 run)), counts_one bytes);
        }

    -- the first bytes of a line that is too long
    pub Takes-long : (new : EngineValue G) (units : ℕ) → IsUnbroken (take MAX_KEPT_BYTES bytes) → MAX_KEPT_BYTES ≤ length bytes → run.counts.lines < run.most → new ≡ dropping MAX_KEPT_BYTES (with_lines 1 run)
        → MAX_KEPT_BYTES ≤ UNIT_BYTES * units → units ≤ MAX_STEP_UNITS → Takes handling left bytes last was was (dropping 0 run) new MAX_KEPT_BYTES units
    Takes-long new units unbroken long few has enough least =
        let some : 0 < units = omega (arith, enough) in
        record {
          stands = λ start before given is.
              recast start (before ++ take MAX_KEPT_BYTES bytes) (before ++ take MAX_KEPT_BYTES bytes) given (drop MAX_KEPT_BYTES bytes) last was (dropping MAX_KEPT_BYTES (with_lines 1 run)) new refl has
              (Stands-long handling start before given bytes (drop MAX_KEPT_BYTES bytes) last was run (take MAX_KEPT_BYTES bytes) unbroken (omega (arith, length-take MAX_KEPT_BYTES bytes, long)) few is);
          advances = subst (λ (r : EngineValue G). Advances left units MAX_KEPT_BYTES (dropping 0 run) r) (sym has) (Advances-long left units MAX_KEPT_BYTES run some (omega arith) (omega arith) few);
          within = long;
          counted = enough;
          few = least;
          lines = omega (arith, ap (λ (r : EngineValue G). r.counts.lines) has);
        }

    -- the end of a line that was dropped
    pub Takes-refused : (now : V) (new : EngineValue G) (dropped window at units : ℕ) → 0 < dropped → NewlineAt (take window bytes) at → dropped + window ≤ max dropped ENDLESS → run.left ≡ [] → Refuses handling Newline was now run new
        → at + 1 ≤ UNIT_BYTES * units → units ≤ MAX_STEP_UNITS → Takes handling left bytes last was now (dropping dropped run) new (at + 1) units
    Takes-refused now new dropped window at units some newline short made refuses enough least =
        let any : 0 < units = omega (arith, enough) in
        let long = length-take window bytes in
        let below : at + 1 ≤ window = omega (arith, long, newline.below) in
        let first : take at (take window bytes) ≡ take at bytes = take-take at window bytes (omega (arith, below)) in
        let whole : take (at + 1) bytes ≡ take at bytes ++ 10 ∷ [] = sym (take-take (at + 1) window bytes below) ∙ newline.newline ∙ ap (λ (l : List ℕ). l ++ 10 ∷ []) first in
        let unbroken : IsUnbroken (take at bytes) = subst IsUnbroken first newline.before in
        let shorter : dropped + at < ENDLESS = omega (arith, below, short) in
        record {
          stands = λ start before given is.
              let line = is.rest ++ take at bytes in
              let reading = is.stage.0 in
              let many = counted_long handling start before given bytes (drop (at + 1) bytes) last was run dropped some is in
              let longer : MAX_LINE_BYTES < length line = omega (arith, length-append is.rest (take at bytes), reading.dropped_is, many.0) in
              let fits : dropped + length (take at bytes) < ENDLESS = omega (arith, length-take at bytes, shorter) in
              let asked = Asked-long handling start before given bytes (drop (at + 1) bytes) last was run dropped some is now (take at bytes) Newline (done refuses.replied) steady unbroken fits tt (refuses.answered line longer) in
              recast start (before ++ (take at bytes ++ 10 ∷ [])) (before ++ take (at + 1) bytes) given (drop (at + 1) bytes) last now (after_answer (done refuses.replied) Newline run) new (ap (λ (l : List ℕ). before ++ l) whole) refuses.has
              (Stands-answered handling start (before ++ (take at bytes ++ 10 ∷ [])) given (drop (at + 1) bytes) last now run Newline (done refuses.replied) made asked);
          advances = subst (λ (r : EngineValue G). Advances left units (at + 1) (dropping dropped run) r) (sym refuses.has) (Advances-refused left units dropped (at + 1) Newline (done refuses.replied) run any some (inr (omega arith, omega (arith, shorter), refl)));
          within = omega (arith, long, newline.below);
          counted = enough;
          few = least;
          lines = omega (arith, ap (λ (r : EngineValue G). r.counts.lines) refuses.has, after_lines (done refuses.replied) Newline run);
        }

    -- the end of the input in a line that was dropped
    pub Takes-ended : (now : V) (new : EngineValue G) (dropped : ℕ) → 0 < dropped → bytes ≡ [] → last ≡ true → run.left ≡ [] → Refuses handling Input was now run new → Takes handling left bytes last was now (dropping dropped run) new 0 1
    Takes-ended now new dropped some none is_last made refuses =
        record {
          stands = λ start before given is.
              let reading = is.stage.0 in
              let many = counted_long handling start before given bytes (drop 0 bytes) last was run dropped some is in
              let same : is.rest ++ [] ≡ is.rest = append-nil is.rest in
              let longer : MAX_LINE_BYTES < length (is.rest ++ []) = omega (arith, ap length same, reading.dropped_is, many.0) in
              let asked = Asked-long handling start before given bytes (drop 0 bytes) last was run dropped some is now [] Input (done refuses.replied) steady (All-nil (λ (b : ℕ). b ≢ 10)) (omega (arith, many.1)) (none, is_last) (refuses.answered (is.rest ++ []) longer) in
              recast start (before ++ []) (before ++ take 0 bytes) given (drop 0 bytes) last now (after_answer (done refuses.replied) Input run) new refl refuses.has
              (Stands-answered handling start (before ++ []) given (drop 0 bytes) last now run Input (done refuses.replied) made asked);
          advances = subst (λ (r : EngineValue G). Advances left 1 0 (dropping dropped run) r) (sym refuses.has) (Advances-refused left 1 dropped 0 Input (done refuses.replied) run (omega arith) some (inl (refl, refl)));
          within = omega arith;
          counted = omega arith;
          few = omega arith;
          lines = omega (arith, ap (λ (r : EngineValue G). r.counts.lines) refuses.has, after_lines (done refuses.replied) Input run);
        }
