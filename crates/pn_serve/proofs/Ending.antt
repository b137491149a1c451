-- The end of a run whose handler is alone, by what the engine for lines ended with.
use Rattle.std.proofs.Common.{◌≡◌, ◌≢◌, ◌≤◌, ◌+◌, ℕ, Bool, true, false, Option, Some, List, [], ◌∷◌, ◌++◌, length, All, inl, inr, refl, sym, ap, ◌∙◌, subst, arith, length-append}
use Rattle.std.specs.Prelude.{Result, Ok, Err, IsErrOf, IfOk, IfErr, OnOk}
use Rattle.std.specs.Io.KnownBytes.{Appends}
use Rattle.std.proofs.lemmas.List.Elements.{All-nil, All-cons, All-append, All-weaker}
use Rattle.pn_line.specs.Sent.{AppendsPrefix}
use Rattle.pn_line.specs.Text.{last_line, lines_of}
use Rattle.pn_lines.specs.Driving as engine
use Rattle.pn_lines.specs.Driving.{CanEnd, IsEndless, IsFull, Start, Stopped}
use Rattle.pn_lines.specs.Handling.{Answers, Handling, by, Replied}
use Rattle.pn_lines.specs.Handling as said
use Rattle.pn_lines.specs.Standing as standing
use Rattle.pn_lines.specs.Standing.{IsLine, count_of}
use Rattle.pn_lines.specs.declared.driver.LinesFault.{LinesFault}
use Rattle.pn_lines.specs.declared.driver.LinesFault.TheVariants as fault
use Rattle.pn_lines.specs.declared.engine.Counts.{Counts}
use Rattle.pn_lines.specs.declared.handler.EndedBy.{EndedBy}
use Rattle.pn_lines.specs.declared.handler.EndedBy.TheVariants.{Newline, Input}
use Rattle.pn_protocol.specs.Reply.Texts.{is_refusal}
use Rattle.pn_protocol.specs.declared.reply.Reply.{Reply}
use Rattle.pn_scan.specs.Paging.{Stays}
use Rattle.pn_serve.specs.Lines.{Ended, EndsBy, Replies, refusals_of, texts_of, HasRun, counts_of, run_ended, AllAnswer, IsShort, Broken, Cut, Exceeded, Flushes}
use Rattle.pn_serve.specs.Script.Written.{parts_of, one_if}
use Rattle.pn_serve.specs.declared.script.Counts as runs
use Rattle.pn_serve.specs.declared.script.RunFault.{RunFault}
use Rattle.pn_serve.specs.declared.script.RunFault.TheVariants.{Read, Write, Memory}
use Rattle.pn_serve.specs.declared.script.TheConstants.{MAX_LINES}
use Rattle.pn_serve.proofs.Serving.{OnTold, as_many_replies, few_refusals, lines_in, parts_read, Exceeded_bytes, Exceeded_lines, within-all}

same_one : (b : Bool) → said.one_if b ≡ one_if b
same_one true = refl
same_one false = refl

one_at_most : (b : Bool) → said.one_if b ≤ 1
one_at_most true = omega arith
one_at_most false = omega arith

last_count : (part : List ℕ) → count_of Input part ≡ length (last_line part)
last_count [] = refl
last_count (b ∷ part) = refl

all_short : (lines : List (List ℕ)) → All IsLine lines → All IsShort lines
all_short lines are = All-weaker IsLine IsShort (λ line is. is.short) lines are

short_part : (part : List ℕ) → IsLine part → All IsShort (last_line part)
short_part [] is = All-nil IsShort
short_part (b ∷ part) is = All-cons IsShort (b ∷ part) [] is.short (All-nil IsShort)

module _ {V W G : Type 0} (see : V → W) (makes ends : W → List ℕ → W → Reply → Type 0) (goes : V → EndedBy → List ℕ → V → G → Type 0) (closed : V → Type 0) where
  -- a handler that is alone, by what is seen of it
  abbrev pub alone : Handling V G
  alone = by Stays (λ was ended text now one. Replies makes ends (see was) ended text (see now) one) goes closed

  -- what is seen of a start
  abbrev pub seen : Start V → Start W
  seen start = record { machine = see start.machine; left = start.left; written = start.written }

  -- nothing came between
  pub replied : (was : V) (ended : EndedBy) (text : List ℕ) (now : V) (one : Replied) → Answers alone was ended text now one → Replies makes ends (see was) ended text (see now) one
  replied was ended text now one is = subst (λ (v : V). Replies makes ends (see v) ended text (see now) one) is.moved is.answered

  -- the replies to lines, one after another
  pub record AllReplied (was : V) (lines : List (List ℕ)) (shown : List Replied) (now : V) : Type 0 where
    pub replies : List Reply
    pub made : AllAnswer makes (see was) lines replies (see now)
    pub texts : said.texts_of shown ≡ texts_of replies
    pub refusals : said.refusals_of shown ≡ refusals_of replies

  pub all_replied : (was : V) (lines : List (List ℕ)) (shown : List Replied) (now : V) → standing.AllAnswer alone was lines shown now → AllReplied was lines shown now
  all_replied was [] [] now all = record { replies = []; made = ap see all; texts = refl; refusals = refl }
  all_replied was [] (one ∷ shown) now all = absurd all
  all_replied was (line ∷ lines) [] now all = absurd all
  all_replied was (line ∷ lines) (one ∷ shown) now all =
      let first = replied was Newline line all.0 one all.1 in
      let rest = all_replied all.0 lines shown now all.2 in record {
        replies = first.reply ∷ rest.replies;
        made = (see all.0, first.made, rest.made);
        texts = λ i. (first.shown i).text ++ rest.texts i;
        refusals = (λ i. said.one_if ((first.shown i).refused) + rest.refusals i) ∙ ap (λ (n : ℕ). n + refusals_of rest.replies) (same_one (is_refusal first.reply));
      }

  module _ (start : Start V) (script : List ℕ) (left written : Option (List ℕ)) (machine : V) where
    pub ended_alone : (counts : Counts) → engine.Ended alone MAX_LINES start script left written machine counts → Ended makes ends (seen start) script left written (see machine) (counts_of counts)
    ended_alone counts is =
        let all = all_replied start.machine is.lines is.replies is.reached is.answered.made in
        let last = replied is.reached Input is.part machine is.last is.ended in
        let parts : parts_of script ≡ (is.lines, is.part) = parts_read left is.answered.read is.at_end in
        let whole : lines_of script ≡ is.lines ++ last_line is.part = lines_in left is.answered.read is.at_end in
        let many : counts.lines ≡ length (is.lines ++ last_line is.part) = omega (arith, is.lines_are, last_count is.part, length-append is.lines (last_line is.part)) in
        let few : length (is.lines ++ last_line is.part) ≤ 1000000 = omega (arith, many, is.few) in
        let replies = as_many_replies makes (see start.machine) is.lines all.replies (see is.reached) all.made in
        let one : said.one_if is.last.refused ≡ one_if (is_refusal last.reply) = ap (λ (r : Replied). said.one_if r.refused) last.shown ∙ same_one (is_refusal last.reply) in record {
          replies = all.replies;
          reached = see is.reached;
          made = subst (λ (p : List (List ℕ) × List ℕ). AllAnswer makes (see start.machine) p.0 all.replies (see is.reached)) (sym parts) all.made;
          last = last.reply;
          ended = subst (λ (p : List (List ℕ) × List ℕ). ends (see is.reached) p.1 (see machine) last.reply) (sym parts) last.made;
          wrote = subst (λ (t : List ℕ). Appends start.written written t) (λ i. all.texts i ++ (last.shown i).text) is.wrote;
          lines_are = many ∙ ap length (sym whole);
          refused_are = omega (arith, is.refused_are, all.refusals, one, one_at_most is.last.refused, few_refusals all.replies, replies, few, length-append is.lines (last_line is.part));
          within = within-all script (is.lines ++ last_line is.part) whole (All-append IsShort is.lines (last_line is.part) (all_short is.lines is.answered.are_lines) (short_part is.part is.is_line)) few;
          at_end = is.at_end;
        }

    unfoldable pub stopped_alone : (so : List (List ℕ) → List ℕ → Type 0) → Stopped alone so start script left written machine → Broken makes ends (seen start) script left written (see machine)
    stopped_alone so is =
        let all = all_replied start.machine is.lines is.replies machine is.answered.made in record {
          lines = is.lines;
          part = is.part;
          read = is.answered.read;
          replies = all.replies;
          made = all.made;
          wrote = subst (λ (t : List ℕ). Appends start.written written t) all.texts is.wrote;
        }

    pub cut_alone : engine.Cut alone start script left written machine → Cut makes ends (seen start) script left written (see machine)
    cut_alone is =
        let all = all_replied start.machine is.lines is.replies is.reached is.answered.made in record {
          lines = is.lines;
          part = is.part;
          read = is.answered.read;
          replies = all.replies;
          reached = see is.reached;
          made = all.made;
          last = is.last;
          ended = elim is.ended [
            | inl none ↦ inl (ap see none.0, none.1)
            | inr some ↦ (let last = replied is.reached Input is.part machine some.1.0 some.1.2 in inr (some.0, (last.reply, some.1.1 ∙ ap (λ (r : Replied). r.text) last.shown, last.made)))
          ];
          prefix = subst (λ (t : List ℕ). AppendsPrefix start.written written t) (λ i. all.texts i ++ is.last) is.prefix;
        }

    -- as many lines as may be answered were, and there is more
    full_alone : Stopped alone (IsFull MAX_LINES left) start script left written machine → Exceeded makes ends (seen start) script left written (see machine)
    unfolding stopped_alone
    full_alone is =
        let broken = stopped_alone (IsFull MAX_LINES left) is in
        Exceeded_lines makes ends (seen start) script left written (see machine) broken (all_short is.lines is.answered.are_lines) is.is_so.1 (λ none. is.is_so.2 (broken.read.left_is ∙ ap Some none)) is.is_so.0

    -- a line has no end
    endless_alone : Stopped alone (IsEndless MAX_LINES) start script left written machine → Exceeded makes ends (seen start) script left written (see machine)
    unfolding stopped_alone
    endless_alone is = Exceeded_bytes makes ends (seen start) script left written (see machine) (stopped_alone (IsEndless MAX_LINES) is) (all_short is.lines is.answered.are_lines) is.is_so.1 is.is_so.0

  module _ (start : Start V) (left written : Option (List ℕ)) where
    ends_alone : (machine : V) (ended : Result Counts LinesFault) → ended ≢ Err fault.Closed → engine.EndsBy alone MAX_LINES start left written machine ended → EndsBy makes ends (seen start) left written (see machine) (run_ended ended)
    ends_alone machine (Ok counts) other is = OnTold start.left _ _ (λ script ended. ended_alone start script left written machine counts ended) is
    ends_alone machine (Err fault.Read) other is = OnTold start.left _ _ (λ script stopped. stopped_alone start script left written machine _ stopped) is
    ends_alone machine (Err fault.Write) other is = OnTold start.left _ _ (λ script cut. cut_alone start script left written machine cut) is
    ends_alone machine (Err fault.TooManyLines) other is = OnTold start.left _ _ (λ script stopped. full_alone start script left written machine stopped) is
    ends_alone machine (Err fault.EndlessLine) other is = OnTold start.left _ _ (λ script stopped. endless_alone start script left written machine stopped) is
    ends_alone machine (Err fault.Closed) other is = absurd (other refl)

    pub run_ends : (machine : V) (result : Result runs.Counts RunFault) → HasRun alone start left written machine result → EndsBy makes ends (seen start) left written (see machine) result
    run_ends machine result is =
        subst (λ (r : Result runs.Counts RunFault). EndsBy makes ends (seen start) left written (see machine) r) (sym is.is)
        (subst (λ (v : V). EndsBy makes ends (seen start) left written (see v) (run_ended is.ended)) (sym is.has_ended.moved) (ends_alone is.has_ended.reached is.ended is.unclosed is.has_ended.ends_by))

-- ---- why a run may end so

module _ (read write end closed : Type 0) where
  pub run_read : (ended : Result Counts LinesFault) → CanEnd read write end closed ended → IsErrOf (run_ended ended) Read → read
  run_read (Ok counts) can is = absurd (cc)
  run_read (Err fault.Read) can is = can
  run_read (Err fault.Write) can is = absurd (cc)
  run_read (Err fault.TooManyLines) can is = absurd (cc)
  run_read (Err fault.EndlessLine) can is = absurd (cc)
  run_read (Err fault.Closed) can is = absurd (cc)

  pub run_write : (ended : Result Counts LinesFault) → CanEnd read write end closed ended → IsErrOf (run_ended ended) Write → write
  run_write (Ok counts) can is = absurd (cc)
  run_write (Err fault.Read) can is = absurd (cc)
  run_write (Err fault.Write) can is = can
  run_write (Err fault.TooManyLines) can is = absurd (cc)
  run_write (Err fault.EndlessLine) can is = absurd (cc)
  run_write (Err fault.Closed) can is = absurd (cc)

  -- a handler that is not closed does not end its lines
  pub never_closed : (ended : Result Counts LinesFault) → CanEnd read write end closed ended → (closed → ⊥) → ended ≢ Err fault.Closed
  never_closed (Ok counts) can unclosed = λ is. cc
  never_closed (Err fault.Read) can unclosed = λ is. cc
  never_closed (Err fault.Write) can unclosed = λ is. cc
  never_closed (Err fault.TooManyLines) can unclosed = λ is. cc
  never_closed (Err fault.EndlessLine) can unclosed = λ is. cc
  never_closed (Err fault.Closed) can unclosed = λ is. unclosed can

  pub run_end : (ended : Result Counts LinesFault) → CanEnd read write end closed ended → OnOk (run_ended ended) end
  run_end (Ok counts) can = can
  run_end (Err fault.Read) can = tt
  run_end (Err fault.Write) can = tt
  run_end (Err fault.TooManyLines) can = tt
  run_end (Err fault.EndlessLine) can = tt
  run_end (Err fault.Closed) can = tt

pub run_few : (ended : Result Counts LinesFault) → IfOk ended (λ counts. counts.lines ≤ MAX_LINES) → IfOk (run_ended ended) (λ counts. counts.lines ≤ MAX_LINES)
run_few (Ok counts) few = few
run_few (Err fault.Read) few = tt
run_few (Err fault.Write) few = tt
run_few (Err fault.TooManyLines) few = tt
run_few (Err fault.EndlessLine) few = tt
run_few (Err fault.Closed) few = tt

pub run_out : (flushed : Type 0) (ended : Result Counts LinesFault) → engine.Flushes ended flushed → Flushes (run_ended ended) flushed
run_out flushed (Ok counts) out = out
run_out flushed (Err fault.Read) out = out
run_out flushed (Err fault.Write) out = out
run_out flushed (Err fault.TooManyLines) out = out
run_out flushed (Err fault.EndlessLine) out = out
run_out flushed (Err fault.Closed) out = out

-- out of memory is no end of a run
pub run_begun : (ended : Result Counts LinesFault) → IfErr (run_ended ended) (λ found. found ≢ Memory)
run_begun (Ok counts) = tt
run_begun (Err fault.Read) = λ is. cc
run_begun (Err fault.Write) = λ is. cc
run_begun (Err fault.TooManyLines) = λ is. cc
run_begun (Err fault.EndlessLine) = λ is. cc
run_begun (Err fault.Closed) = λ is. cc
