-- What each way of taking lines does to where an engine stands.
use Rattle.std.proofs.Common.{◌≡◌, ◌≢◌, ◌+◌, ◌<◌, ◌≤◌, ℕ, Bool, List, [], ◌∷◌, ◌++◌, length, max, inl, inr, refl, sym, ap, ◌∙◌, arith, append_assoc, append-nil, length-append, ⊎_elim}
use Rattle.std.proofs.lemmas.List.Elements.{All-append}
use Rattle.pn_line.specs.declared.line_buffer.TheConstants.{ENDLESS, MAX_KEPT_BYTES, MAX_LINE_BYTES}
use Rattle.pn_line.specs.Line.{IsUnbroken}
use Rattle.pn_line.specs.Text.{text_of}
use Rattle.pn_lines.specs.Answers.{AnswerValue, AnswersBy}
use Rattle.pn_lines.specs.Engines.{EngineValue, dropping, with_lines}
use Rattle.pn_lines.specs.Handling.{IsPreorder, Handling}
use Rattle.pn_lines.specs.Standing.{IsLine, IsOver, Stands, count_of, newline_of}
use Rattle.pn_lines.specs.declared.engine.state.LinesEnd.TheVariants as end
use Rattle.pn_lines.specs.declared.engine.state.Stage.TheVariants.{Ended}
use Rattle.pn_lines.specs.declared.handler.EndedBy.{EndedBy}
use Rattle.pn_lines.specs.declared.handler.EndedBy.TheVariants.{Newline, Input}
use Rattle.pn_lines.proofs.Standing.{StandsAsked, no_length}

-- a line that has a byte counts for one
count_of-some : (ended : EndedBy) (line : List ℕ) → 0 < length line → count_of ended line ≡ 1
count_of-some Newline line some = refl
count_of-some Input [] some = absurd (omega (arith, some))
count_of-some Input (b ∷ line) some = refl

-- what is taken comes after the lines and what was taken of the next
taken_more : (taken lines rest more : List ℕ) → taken ≡ lines ++ rest → taken ++ more ≡ lines ++ (rest ++ more)
taken_more taken lines rest more is = ap (λ (l : List ℕ). l ++ more) is ∙ append_assoc lines rest more

-- nothing was taken of the next
taken_next : (taken lines rest more : List ℕ) → length rest ≡ 0 → taken ≡ lines ++ rest → taken ++ more ≡ lines ++ more
taken_next taken lines rest more none is =
    let nothing = no_length rest (omega (arith, none)) in
    ap (λ (l : List ℕ). l ++ more) (is ∙ ap (λ (r : List ℕ). lines ++ r) nothing ∙ append-nil lines)

module _ {V G : Type 0} (handling : Handling V G) where
  module _ (start : V) (taken given ahead after : List ℕ) (last : Bool) (machine : V) (run : EngineValue G) where
    -- a line at hand was taken, and has this answer
    pub Asked-line : (now : V) (line : List ℕ) (ended : EndedBy) (answer : AnswerValue G) → IsPreorder handling.moves → IsLine line → IsOver ended after last → run.counts.lines + count_of ended line ≤ run.most
        → AnswersBy handling machine ended line now answer → Stands handling start taken given ahead last machine (dropping 0 run)
        → StandsAsked handling ended answer start (taken ++ (line ++ newline_of ended)) given after last now (with_lines (count_of ended line) (dropping 0 run))
    Asked-line now line ended answer steady is_line over few answered is =
        let reading = is.stage.0 in
        let counted : run.counts.lines ≡ length is.lines = ⊎_elim (λ (none : (0 ≡ 0) × (run.counts.lines ≡ length is.lines)). none.1) (λ (some : (MAX_LINE_BYTES < 0) × (0 < ENDLESS) × (run.counts.lines ≡ length is.lines + 1)). absurd (omega (arith, some.0))) reading.counted in
        record {
          lines = is.lines;
          rest = line ++ newline_of ended;
          taken_is = taken_next taken (text_of is.lines) is.rest (line ++ newline_of ended) reading.dropped_is is.taken_is;
          are_lines = is.are_lines;
          few = few;
          replies = is.replies;
          reached = is.reached;
          made = is.made;
          more = is.more;
          texts = is.texts;
          refused = is.refused;
          stage = (
            record {
              line = line;
              first = machine;
              between = now;
              rest_is = refl;
              is_line = is_line;
              moved = reading.moved;
              answered = answered;
              goes_on = steady.stays now;
              counted = ap (λ (n : ℕ). n + count_of ended line) counted;
              over = over;
            },
            is.stage.1,
          );
        }

    -- the first bytes of a line that is too long were dropped
    pub Stands-long : (bytes : List ℕ) → IsUnbroken bytes → length bytes ≡ MAX_KEPT_BYTES → run.counts.lines < run.most → Stands handling start taken given ahead last machine (dropping 0 run)
        → Stands handling start (taken ++ bytes) given after last machine (dropping MAX_KEPT_BYTES (with_lines 1 run))
    Stands-long bytes unbroken long few is =
        let reading = is.stage.0 in
        let counted : run.counts.lines ≡ length is.lines = ⊎_elim (λ (none : (0 ≡ 0) × (run.counts.lines ≡ length is.lines)). none.1) (λ (some : (MAX_LINE_BYTES < 0) × (0 < ENDLESS) × (run.counts.lines ≡ length is.lines + 1)). absurd (omega (arith, some.0))) reading.counted in
        record {
          lines = is.lines;
          rest = bytes;
          taken_is = taken_next taken (text_of is.lines) is.rest bytes reading.dropped_is is.taken_is;
          are_lines = is.are_lines;
          few = omega (arith, few);
          replies = is.replies;
          reached = is.reached;
          made = is.made;
          more = is.more;
          texts = is.texts;
          refused = is.refused;
          stage = (
            record {
              moved = reading.moved;
              unbroken = unbroken;
              dropped_is = long;
              counted = inr (omega arith, omega arith, ap (λ (n : ℕ). n + 1) counted);
            },
            is.stage.1,
          );
        }

    -- as many lines were answered as may be, and there is more
    pub Stands-full : IsPreorder handling.moves → ahead ≢ [] → run.most ≤ run.counts.lines → Stands handling start taken given ahead last machine (dropping 0 run) → Stands handling start taken given ahead last machine (record run { stage = Ended end.TooManyLines })
    Stands-full steady some full is =
        let reading = is.stage.0 in
        let counted : run.counts.lines ≡ length is.lines = ⊎_elim (λ (none : (0 ≡ 0) × (run.counts.lines ≡ length is.lines)). none.1) (λ (some : (MAX_LINE_BYTES < 0) × (0 < ENDLESS) × (run.counts.lines ≡ length is.lines + 1)). absurd (omega (arith, some.0))) reading.counted in
        record {
          lines = is.lines;
          rest = is.rest;
          taken_is = is.taken_is;
          are_lines = is.are_lines;
          few = is.few;
          replies = is.replies;
          reached = is.reached;
          made = is.made;
          more = is.more;
          texts = is.texts;
          refused = is.refused;
          stage = (
            record {
              stopped = machine;
              moved = reading.moved;
              is_so = (omega (arith, counted, full, is.few), no_length is.rest (omega (arith, reading.dropped_is)), some);
              goes_on = steady.stays machine;
              unbroken = reading.unbroken;
            },
            is.stage.1,
          );
        }

    -- the handler answers no further line
    pub Stands-shut : IsPreorder handling.moves → handling.closed machine → Stands handling start taken given ahead last machine (dropping 0 run) → Stands handling start taken given ahead last machine (record run { stage = Ended end.Closed })
    Stands-shut steady closed is =
        let reading = is.stage.0 in
        record {
          lines = is.lines;
          rest = is.rest;
          taken_is = is.taken_is;
          are_lines = is.are_lines;
          few = is.few;
          replies = is.replies;
          reached = is.reached;
          made = is.made;
          more = is.more;
          texts = is.texts;
          refused = is.refused;
          stage = (
            record {
              stopped = machine;
              moved = reading.moved;
              is_so = (no_length is.rest (omega (arith, reading.dropped_is)), closed);
              goes_on = steady.stays machine;
              unbroken = reading.unbroken;
            },
            is.stage.1,
          );
        }

    module _ (dropped : ℕ) (some : 0 < dropped) (is : Stands handling start taken given ahead last machine (dropping dropped run)) where
      -- a line is dropped
      pub counted_long : (MAX_LINE_BYTES < dropped) × (dropped < ENDLESS) × (run.counts.lines ≡ length is.lines + 1)
      counted_long = ⊎_elim (λ (none : (dropped ≡ 0) × (run.counts.lines ≡ length is.lines)). absurd (omega (arith, none.0, some))) (λ (long : (MAX_LINE_BYTES < dropped) × (dropped < ENDLESS) × (run.counts.lines ≡ length is.lines + 1)). long) is.stage.0.counted

      -- its end was taken, and it has this answer
      pub Asked-long : (now : V) (bytes : List ℕ) (ended : EndedBy) (answer : AnswerValue G) → IsPreorder handling.moves → IsUnbroken bytes → dropped + length bytes < ENDLESS → IsOver ended after last
          → AnswersBy handling machine ended (is.rest ++ bytes) now answer → StandsAsked handling ended answer start (taken ++ (bytes ++ newline_of ended)) given after last now run
      Asked-long now bytes ended answer steady unbroken short over answered =
          let reading = is.stage.0 in
          let long = length-append is.rest bytes in
          let one = count_of-some ended (is.rest ++ bytes) (omega (arith, long, reading.dropped_is, some)) in
          record {
            lines = is.lines;
            rest = is.rest ++ (bytes ++ newline_of ended);
            taken_is = taken_more taken (text_of is.lines) is.rest (bytes ++ newline_of ended) is.taken_is;
            are_lines = is.are_lines;
            few = is.few;
            replies = is.replies;
            reached = is.reached;
            made = is.made;
            more = is.more;
            texts = is.texts;
            refused = is.refused;
            stage = (
              record {
                line = is.rest ++ bytes;
                first = machine;
                between = now;
                rest_is = sym (append_assoc is.rest bytes (newline_of ended));
                is_line = record { unbroken = All-append (λ (b : ℕ). b ≢ 10) is.rest bytes reading.unbroken unbroken; short = omega (arith, long, reading.dropped_is, short) };
                moved = reading.moved;
                answered = answered;
                goes_on = steady.stays now;
                counted = counted_long.2 ∙ ap (λ (n : ℕ). length is.lines + n) (sym one);
                over = over;
              },
              is.stage.1,
            );
          }

      -- more of it was dropped
      pub Stands-dropped : (bytes : List ℕ) → IsUnbroken bytes → dropped + length bytes < ENDLESS → Stands handling start (taken ++ bytes) given after last machine (dropping (dropped + length bytes) run)
      Stands-dropped bytes unbroken short =
          let reading = is.stage.0 in
          let long = length-append is.rest bytes in
          let was = counted_long in
          record {
            lines = is.lines;
            rest = is.rest ++ bytes;
            taken_is = taken_more taken (text_of is.lines) is.rest bytes is.taken_is;
            are_lines = is.are_lines;
            few = is.few;
            replies = is.replies;
            reached = is.reached;
            made = is.made;
            more = is.more;
            texts = is.texts;
            refused = is.refused;
            stage = (
              record {
                moved = reading.moved;
                unbroken = All-append (λ (b : ℕ). b ≢ 10) is.rest bytes reading.unbroken unbroken;
                dropped_is = long ∙ ap (λ (n : ℕ). n + length bytes) reading.dropped_is;
                counted = inr (omega (arith, was.0), short, was.2);
              },
              is.stage.1,
            );
          }

      -- it has no end
      pub Stands-endless : IsPreorder handling.moves → (bytes : List ℕ) → IsUnbroken bytes → ENDLESS ≤ dropped + length bytes → dropped + length bytes ≤ max dropped ENDLESS
          → Stands handling start (taken ++ bytes) given after last machine (record run { stage = Ended end.EndlessLine })
      Stands-endless steady bytes unbroken long most =
          let reading = is.stage.0 in
          let all = length-append is.rest bytes in
          let was = counted_long in
          record {
            lines = is.lines;
            rest = is.rest ++ bytes;
            taken_is = taken_more taken (text_of is.lines) is.rest bytes is.taken_is;
            are_lines = is.are_lines;
            few = is.few;
            replies = is.replies;
            reached = is.reached;
            made = is.made;
            more = is.more;
            texts = is.texts;
            refused = is.refused;
            stage = (
              record {
                stopped = machine;
                moved = reading.moved;
                is_so = (omega (arith, was.2, is.few), omega (arith, all, reading.dropped_is, long, most, was.1));
                goes_on = steady.stays machine;
                unbroken = All-append (λ (b : ℕ). b ≢ 10) is.rest bytes reading.unbroken unbroken;
              },
              is.stage.1,
            );
          }
