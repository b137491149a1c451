-- How a driver ends.
use Rattle.std.proofs.Common.{◌≡◌, ◌≢◌, ◌⊎◌, ◌+◌, ◌<◌, ◌≤◌, ℕ, Bool, true, false, Option, None, Some, IfSome, List, [], ◌∷◌, ◌++◌, length, All, inl, inr, refl, sym, ap, ◌∙◌, subst, arith, append_assoc, append-nil, ⊎_elim}
use Rattle.std.specs.Prelude.{Ok, Err}
use Rattle.std.specs.Io.KnownBytes.{Appends}
use Rattle.std.proofs.lemmas.List.Elements.{All-head, All-tail, All-nil, All-cons}
use Rattle.pn_line.specs.Line.{LineBufferValue, so_far, IsUnbroken, Takes}
use Rattle.pn_line.specs.Text.{PartRead, text_of}
use Rattle.pn_line.specs.declared.line_buffer.TheConstants.{ENDLESS, MAX_LINE_BYTES}
use Rattle.pn_line.proofs.TextLaws.{ReadsPart-from_takes}
use Rattle.pn_lines.specs.Driving.{IsReading, Reads, Answered, Cut, Ended, HasEnded, IsEndless, IsFull, Start, Stopped}
use Rattle.pn_lines.specs.Engines.{EngineValue, stage_after}
use Rattle.pn_lines.specs.Handling.{IsPreorder, Replied, refusals_of, texts_of, Handling}
use Rattle.pn_lines.specs.Standing.{IsLine, StageAt}
use Rattle.pn_lines.specs.declared.driver.LinesFault.{LinesFault}
use Rattle.pn_lines.specs.declared.driver.LinesFault.TheVariants.{Closed, EndlessLine, Read, TooManyLines, Write}
use Rattle.pn_lines.specs.declared.engine.state.LinesEnd.TheVariants as end
use Rattle.pn_lines.specs.declared.engine.state.Stage.{Stage}
use Rattle.pn_lines.specs.declared.engine.state.Stage.TheVariants.{Reading, Pending, Ended as HasStopped}
use Rattle.pn_lines.specs.declared.handler.EndedBy.{EndedBy}
use Rattle.pn_lines.specs.declared.handler.EndedBy.TheVariants.{Newline, Input}
use Rattle.pn_lines.proofs.Standing.{no_length}

-- an answer is gone on with
abbrev IsGoing : {G : Type 0} → Stage G → Type 0
IsGoing (Reading dropped) = ⊥
IsGoing (Pending g of) = Unit {0}
IsGoing (HasStopped end) = ⊥

settled_after : (G : Type 0) (ended : EndedBy) → IsGoing {G = G} (stage_after ended) → ⊥
settled_after G Newline pending = pending
settled_after G Input pending = pending

unbroken_lines : (lines : List (List ℕ)) → All IsLine lines → All IsUnbroken lines
unbroken_lines [] are = All-nil IsUnbroken
unbroken_lines (line ∷ lines) are = let head = All-head IsLine line lines are in All-cons IsUnbroken line lines head.unbroken (unbroken_lines lines (All-tail IsLine line lines are))

module _ {V G : Type 0} (handling : Handling V G) (start : Start V) where
  -- the lines that were answered, where this part of the next was read
  read_to : (input : List ℕ) (left written : Option (List ℕ)) (replies part more : List ℕ) (last : Bool) (machine : V) (run : EngineValue G) (leaves : Option (List ℕ)) (is : IsReading handling start input left written replies last machine run)
      → IsUnbroken part → is.stands.rest ++ is.rest ≡ part ++ more → leaves ≡ Some more → PartRead input leaves is.stands.lines part
  read_to input left written replies part more last machine run leaves is unbroken same leaves_is = record {
    rest = more;
    unbroken = unbroken_lines is.stands.lines is.stands.are_lines;
    part_unbroken = unbroken;
    text_is = is.input_is ∙ ap (λ (l : List ℕ). l ++ is.rest) is.stands.taken_is ∙ append_assoc (text_of is.stands.lines) is.stands.rest is.rest ∙ ap (λ (l : List ℕ). text_of is.stands.lines ++ l) same;
    left_is = leaves_is;
  }

  -- what was given of the replies
  gave : (input : List ℕ) (left written : Option (List ℕ)) (replies : List ℕ) (last : Bool) (machine : V) (run : EngineValue G) (is : IsReading handling start input left written replies last machine run) (after : List Replied)
      → is.stands.more ≡ after → is.out ++ (replies ++ run.left) ≡ texts_of is.stands.replies ++ texts_of after
  gave input left written replies last machine run is after more = sym (append_assoc is.out replies run.left) ∙ is.stands.texts ∙ ap (λ (rs : List Replied). texts_of is.stands.replies ++ texts_of rs) more

  -- the sink failed where no answer is gone on with
  module _ (most : ℕ) (left written : Option (List ℕ)) (replies : List ℕ) (last : Bool) (machine : V) (run : EngineValue G) where
    cut_between : (input : List ℕ) (is : IsReading handling start input left written replies last machine run) → handling.moves is.stands.reached machine → IsUnbroken is.stands.rest → is.stands.more ≡ []
        → (reached : V) × handling.moves reached machine × Cut handling start input left written reached
    cut_between input is moved unbroken more = (
      is.stands.reached,
      moved,
      record {
        lines = is.stands.lines;
        part = is.stands.rest;
        replies = is.stands.replies;
        reached = is.stands.reached;
        answered = record { read = read_to input left written replies is.stands.rest is.rest last machine run left is unbroken refl is.left_is; are_lines = is.stands.are_lines; made = is.stands.made };
        last = [];
        ended = inl (refl, refl);
        prefix = record { sent = is.out; back = replies ++ run.left; appends = is.wrote; whole = gave input left written replies last machine run is [] more };
      },
    )

    cut_at : (input : List ℕ) (is : IsReading handling start input left written replies last machine run) (stage : Stage G) → IsPreorder handling.moves
        → StageAt handling stage run.counts.lines run.most run.left (record { lines = is.stands.lines; rest = is.stands.rest; ahead = []; last = last; reached = is.stands.reached; now = machine }) is.stands.more → (IsGoing stage → run.left ≢ [])
        → (reached : V) × handling.moves reached machine × Cut handling start input left written reached
    cut_at input is (Reading dropped) steady at some = cut_between input is at.0.moved at.0.unbroken at.1
    cut_at input is (Pending g ended) steady at some = absurd (some tt at.2)
    cut_at input is (HasStopped end.Input) steady at some =
        let asked = at.1 in
        let part : is.stands.rest ≡ asked.line = asked.rest_is ∙ append-nil asked.line in (
          asked.between,
          asked.goes_on,
          record {
            lines = is.stands.lines;
            part = asked.line;
            replies = is.stands.replies;
            reached = is.stands.reached;
            answered = record { read = read_to input left written replies asked.line is.rest last machine run left is asked.is_line.unbroken (ap (λ (l : List ℕ). l ++ is.rest) part) is.left_is; are_lines = is.stands.are_lines; made = is.stands.made };
            last = at.0.text;
            ended = inr (is.left_is ∙ ap (λ (l : List ℕ). Some l) (is.at_end asked.over.1), (at.0, refl, record { between = asked.first; moved = asked.moved; answered = asked.answered }));
            prefix = record { sent = is.out; back = replies ++ run.left; appends = is.wrote; whole = gave input left written replies last machine run is (at.0 ∷ []) at.2 ∙ ap (λ (l : List ℕ). texts_of is.stands.replies ++ l) (append-nil at.0.text) };
          },
        )
    cut_at input is (HasStopped end.Closed) steady at some = cut_between input is (steady.goes_on is.stands.reached at.0.stopped machine at.0.moved at.0.goes_on) at.0.unbroken at.1
    cut_at input is (HasStopped end.TooManyLines) steady at some = cut_between input is (steady.goes_on is.stands.reached at.0.stopped machine at.0.moved at.0.goes_on) at.0.unbroken at.1
    cut_at input is (HasStopped end.EndlessLine) steady at some = cut_between input is (steady.goes_on is.stands.reached at.0.stopped machine at.0.moved at.0.goes_on) at.0.unbroken at.1

    -- it ends by that
    cut_by : (known : Option (List ℕ)) → start.left ≡ known → IsPreorder handling.moves → (IsGoing run.stage → run.left ≢ []) → IfSome known (λ input. IsReading handling start input left written replies last machine run) → HasEnded handling most start left written machine (Err Write)
    cut_by None told steady some reads = record { reached = machine; moved = steady.stays machine; ends_by = subst (λ (l : Option (List ℕ)). IfSome l (λ input. Cut handling start input left written machine)) (sym told) tt }
    cut_by (Some input) told steady some is =
        let ends = cut_at input is run.stage steady is.stands.stage some in
        record { reached = ends.0; moved = ends.1; ends_by = subst (λ (l : Option (List ℕ)). IfSome l (λ (bytes : List ℕ). Cut handling start bytes left written ends.0)) (sym told) ends.2 }

    pub Ends-cut : IsPreorder handling.moves → run.left ≢ [] → Reads handling start left written replies last machine run → HasEnded handling most start left written machine (Err Write)
    Ends-cut steady some reads = cut_by start.left refl steady (λ pending. some) reads

    -- the same once an answer is there
    pub Ends-cut_settled : (ended : EndedBy) → IsPreorder handling.moves → run.stage ≡ stage_after ended → Reads handling start left written replies last machine run → HasEnded handling most start left written machine (Err Write)
    Ends-cut_settled ended steady settled reads = cut_by start.left refl steady (λ pending. absurd (settled_after G ended (subst (λ (s : Stage G). IsGoing s) settled pending))) reads

  -- a part of the next line was read, and where
  record HasPart (input : List ℕ) (left leaves : Option (List ℕ)) (lines : List (List ℕ)) (rest : List ℕ) (line : LineBufferValue) : Type 0 where
    pub part : List ℕ
    pub line_is : line ≡ so_far part
    pub read : PartRead input leaves lines part
    pub more : List ℕ
    pub split : rest ≡ part ++ more
    pub leaves_is : leaves ≡ Some more

  module _ (most : ℕ) (left leaves written : Option (List ℕ)) (replies : List ℕ) (machine : V) (run : EngineValue G) (line : LineBufferValue) (reading : run.stage ≡ Reading 0) (takes : Takes (so_far []) line left leaves []) where
    at_line : (input : List ℕ) (is : IsReading handling start input left written replies false machine run)
        → StageAt handling (Reading 0) run.counts.lines run.most run.left (record { lines = is.stands.lines; rest = is.stands.rest; ahead = []; last = false; reached = is.stands.reached; now = machine }) is.stands.more
    at_line input is = subst (λ (s : Stage G). StageAt handling s run.counts.lines run.most run.left (record { lines = is.stands.lines; rest = is.stands.rest; ahead = []; last = false; reached = is.stands.reached; now = machine }) is.stands.more) reading is.stands.stage

    has_part : (input : List ℕ) (is : IsReading handling start input left written replies false machine run) → HasPart input left leaves is.stands.lines is.rest line
    has_part input is =
        let known : Takes (so_far []) line (Some is.rest) leaves [] = subst (λ (l : Option (List ℕ)). Takes (so_far []) line l leaves []) is.left_is takes in
        let part = ReadsPart-from_takes [] is.rest (All-nil (λ (b : ℕ). b ≢ 10)) known in
        let none : is.stands.rest ≡ [] = no_length is.stands.rest (omega (arith, (at_line input is).0.dropped_is)) in
        record {
          part = part.taken;
          line_is = part.line;
          read = read_to input left written replies part.taken part.rest false machine run leaves is part.unbroken (ap (λ (l : List ℕ). l ++ is.rest) none ∙ part.text_is) part.leaves_is;
          more = part.rest;
          split = part.text_is;
          leaves_is = part.leaves_is;
        }

    answered_at : (input : List ℕ) (is : IsReading handling start input left written replies false machine run) (has : HasPart input left leaves is.stands.lines is.rest line) → Answered handling start input leaves is.stands.lines has.part is.stands.replies is.stands.reached
    answered_at input is has = record { read = has.read; are_lines = is.stands.are_lines; made = is.stands.made }

    count_at : (input : List ℕ) (is : IsReading handling start input left written replies false machine run) → run.counts.lines ≡ length is.stands.lines
    count_at input is = ⊎_elim (λ (none : (0 ≡ 0) × (run.counts.lines ≡ length is.stands.lines)). none.1) (λ (some : (MAX_LINE_BYTES < 0) × (0 < ENDLESS) × (run.counts.lines ≡ length is.stands.lines + 1)). absurd (omega (arith, some.0))) (at_line input is).0.counted

    cut_here : (known : Option (List ℕ)) → start.left ≡ known → IsPreorder handling.moves → IfSome known (λ input. IsReading handling start input left written replies false machine run) → HasEnded handling most start leaves written machine (Err Write)
    cut_here None told steady reads = record { reached = machine; moved = steady.stays machine; ends_by = subst (λ (l : Option (List ℕ)). IfSome l (λ input. Cut handling start input leaves written machine)) (sym told) tt }
    cut_here (Some input) told steady is =
        let at = at_line input is in
        let has = has_part input is in
        record {
          reached = is.stands.reached;
          moved = at.0.moved;
          ends_by = subst (λ (l : Option (List ℕ)). IfSome l (λ (bytes : List ℕ). Cut handling start bytes leaves written is.stands.reached)) (sym told)
              (record {
                lines = is.stands.lines;
                part = has.part;
                replies = is.stands.replies;
                reached = is.stands.reached;
                answered = answered_at input is has;
                last = [];
                ended = inl (refl, refl);
                prefix = record { sent = is.out; back = replies ++ run.left; appends = is.wrote; whole = gave input left written replies false machine run is [] at.1 };
              });
        }

    -- the sink failed after no more was read
    pub Ends-cut_read : IsPreorder handling.moves → Reads handling start left written replies false machine run → HasEnded handling most start leaves written machine (Err Write)
    Ends-cut_read steady reads = cut_here start.left refl steady reads

    module _ (none : replies ≡ []) (made : run.left ≡ []) where
      wrote_all : (input : List ℕ) (is : IsReading handling start input left written replies false machine run) → Appends start.written written (texts_of is.stands.replies)
      wrote_all input is =
          let whole = gave input left written replies false machine run is [] (at_line input is).1 in
          let all : is.out ≡ texts_of is.stands.replies = sym (append-nil is.out) ∙ ap (λ (l : List ℕ). is.out ++ l) (sym (ap (λ (l : List ℕ). l ++ run.left) none ∙ made)) ∙ whole ∙ append-nil (texts_of is.stands.replies) in
          subst (λ (l : List ℕ). Appends start.written written l) all is.wrote

      stopped_by : (so : List (List ℕ) → List ℕ → Type 0) (known : Option (List ℕ)) → start.left ≡ known → IsPreorder handling.moves
          → ((input : List ℕ) (is : IsReading handling start input left written replies false machine run) (has : HasPart input left leaves is.stands.lines is.rest line) → so is.stands.lines has.part)
          → IfSome known (λ input. IsReading handling start input left written replies false machine run) → (reached : V) × handling.moves reached machine × IfSome start.left (λ (input : List ℕ). Stopped handling so start input leaves written reached)
      stopped_by so None told steady is_so reads = (machine, steady.stays machine, subst (λ (l : Option (List ℕ)). IfSome l (λ (input : List ℕ). Stopped handling so start input leaves written machine)) (sym told) tt)
      stopped_by so (Some input) told steady is_so is =
          let has = has_part input is in (
            is.stands.reached,
            (at_line input is).0.moved,
            subst (λ (l : Option (List ℕ)). IfSome l (λ (bytes : List ℕ). Stopped handling so start bytes leaves written is.stands.reached)) (sym told)
                (record { lines = is.stands.lines; part = has.part; replies = is.stands.replies; answered = answered_at input is has; is_so = is_so input is has; wrote = wrote_all input is }),
          )

      -- the source failed
      pub Ends-broken : IsPreorder handling.moves → Reads handling start left written replies false machine run → HasEnded handling most start leaves written machine (Err Read)
      Ends-broken steady reads =
          let ends = stopped_by (λ (lines : List (List ℕ)) (part : List ℕ). Unit {0}) start.left refl steady (λ input is has. tt) reads in
          record { reached = ends.0; moved = ends.1; ends_by = ends.2 }

      -- no line was read
      pub Ends-shut : IsPreorder handling.moves → line.count ≡ 0 → Reads handling start left written replies false machine run → HasEnded handling most start leaves written machine (Err Closed)
      Ends-shut steady nothing reads =
          let ends = stopped_by (λ (lines : List (List ℕ)) (part : List ℕ). part ≡ []) start.left refl steady (λ input is has. no_length has.part (omega (arith, nothing, ap (λ (l : LineBufferValue). l.count) has.line_is))) reads in
          record { reached = ends.0; moved = ends.1; ends_by = ends.2 }

      endless_at : most ≡ run.most → (run.counts.lines < run.most) × (line.count ≡ ENDLESS) → (input : List ℕ) (is : IsReading handling start input left written replies false machine run) (has : HasPart input left leaves is.stands.lines is.rest line)
          → IsEndless most is.stands.lines has.part
      endless_at same endless input is has =
          let count : line.count ≡ length has.part = ap (λ (l : LineBufferValue). l.count) has.line_is in
          (omega (arith, count_at input is, endless.0, same), sym count ∙ endless.1)

      full_at : most ≡ run.most → (run.most ≤ run.counts.lines) × (line.count ≡ 0) × IfSome left (λ rest. rest ≢ []) → (input : List ℕ) (is : IsReading handling start input left written replies false machine run) (has : HasPart input left leaves is.stands.lines is.rest line)
          → IsFull most leaves is.stands.lines has.part
      full_at same full input is has =
          let count : line.count ≡ length has.part = ap (λ (l : LineBufferValue). l.count) has.line_is in
          let none : has.part ≡ [] = no_length has.part (omega (arith, count, full.1)) in
          let some : is.rest ≢ [] = subst (λ (l : Option (List ℕ)). IfSome l (λ (rest : List ℕ). rest ≢ [])) is.left_is full.2 in
          let all : is.rest ≡ has.more = has.split ∙ ap (λ (l : List ℕ). l ++ has.more) none in
          (omega (arith, count_at input is, full.0, is.stands.few, same), none, λ empty. some (all ∙ emptied has.more (sym has.leaves_is ∙ empty)))
        where
          emptied : (more : List ℕ) → Some more ≡ Some [] → more ≡ []
          emptied more is_none = cc

      -- there are more lines than may be answered, or a line has no end
      pub Ends-exceeded : (fault : LinesFault) → IsPreorder handling.moves → most ≡ run.most → (run.most ≤ run.counts.lines → fault ≡ TooManyLines) → (run.counts.lines < run.most → fault ≡ EndlessLine)
          → ((run.counts.lines < run.most) × (line.count ≡ ENDLESS)) ⊎ ((run.most ≤ run.counts.lines) × (line.count ≡ 0) × IfSome left (λ rest. rest ≢ []))
          → Reads handling start left written replies false machine run → HasEnded handling most start leaves written machine (Err fault)
      Ends-exceeded fault steady same many long (inl endless) reads =
          let ends = stopped_by (IsEndless most) start.left refl steady (endless_at same endless) reads in
          subst (λ (f : LinesFault). HasEnded handling most start leaves written machine (Err f)) (sym (long endless.0)) (record { reached = ends.0; moved = ends.1; ends_by = ends.2 })
      Ends-exceeded fault steady same many long (inr full) reads =
          let ends = stopped_by (IsFull most leaves) start.left refl steady (full_at same full) reads in
          subst (λ (f : LinesFault). HasEnded handling most start leaves written machine (Err f)) (sym (many full.0)) (record { reached = ends.0; moved = ends.1; ends_by = ends.2 })

  -- the whole input was read and answered, and all was written
  module _ (most : ℕ) (left written : Option (List ℕ)) (replies : List ℕ) (machine : V) (run : EngineValue G) (over : run.stage ≡ HasStopped end.Input) (none : replies ≡ []) (made : run.left ≡ []) (same : most ≡ run.most) where
    all_by : (known : Option (List ℕ)) → start.left ≡ known → IsPreorder handling.moves → IfSome known (λ input. IsReading handling start input left written replies true machine run) → HasEnded handling most start left written machine (Ok run.counts)
    all_by None told steady reads = record { reached = machine; moved = steady.stays machine; ends_by = subst (λ (l : Option (List ℕ)). IfSome l (λ input. Ended handling most start input left written machine run.counts)) (sym told) tt }
    all_by (Some input) told steady is =
        let at = subst (λ (s : Stage G). StageAt handling s run.counts.lines run.most run.left (record { lines = is.stands.lines; rest = is.stands.rest; ahead = []; last = true; reached = is.stands.reached; now = machine }) is.stands.more) over is.stands.stage in
        let asked = at.1 in
        let part : is.stands.rest ≡ asked.line = asked.rest_is ∙ append-nil asked.line in
        let whole = gave input left written replies true machine run is (at.0 ∷ []) at.2 in
        let all : is.out ≡ texts_of is.stands.replies ++ at.0.text = sym (append-nil is.out) ∙ ap (λ (l : List ℕ). is.out ++ l) (sym (ap (λ (l : List ℕ). l ++ run.left) none ∙ made)) ∙ whole ∙ ap (λ (l : List ℕ). texts_of is.stands.replies ++ l) (append-nil at.0.text) in
        let refused : refusals_of is.stands.more ≡ refusals_of (at.0 ∷ []) = ap refusals_of at.2 in
        record {
          reached = asked.between;
          moved = asked.goes_on;
          ends_by = subst (λ (l : Option (List ℕ)). IfSome l (λ (bytes : List ℕ). Ended handling most start bytes left written asked.between run.counts)) (sym told)
              (record {
                lines = is.stands.lines;
                part = asked.line;
                replies = is.stands.replies;
                reached = is.stands.reached;
                answered = record { read = read_to input left written replies asked.line is.rest true machine run left is asked.is_line.unbroken (ap (λ (l : List ℕ). l ++ is.rest) part) is.left_is; are_lines = is.stands.are_lines; made = is.stands.made };
                last = at.0;
                ended = record { between = asked.first; moved = asked.moved; answered = asked.answered };
                wrote = subst (λ (l : List ℕ). Appends start.written written l) all is.wrote;
                lines_are = asked.counted;
                refused_are = omega (arith, is.stands.refused, refused);
                few = omega (arith, same, is.stands.few);
                at_end = is.left_is ∙ ap (λ (l : List ℕ). Some l) (is.at_end refl);
                is_line = asked.is_line;
              });
        }

    pub Ends-all : IsPreorder handling.moves → Reads handling start left written replies true machine run → HasEnded handling most start left written machine (Ok run.counts)
    Ends-all steady reads = all_by start.left refl steady reads
