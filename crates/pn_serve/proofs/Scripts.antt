-- A run of a script, by one list of outcomes.
use Rattle.std.proofs.Common.{◌≡◌, ℕ, ◌+◌, Option, None, Some, List, [], ◌∷◌, ◌++◌, length, IfSome, inl, inr, refl, sym, ap, ◌∙◌, subst, arith, append-nil, append_assoc}
use Rattle.std.specs.Prelude.{Result, Ok, Err, ◌⊎◌}
use Rattle.std.specs.Io.KnownBytes.{Appends}
use Rattle.pn_line.specs.Text.{PartRead}
use Rattle.pn_line.specs.Sent.{AppendsPrefix}
use Rattle.pn_line.proofs.SentLaws.{AppendsPrefix-more}
use Rattle.pn_region.specs.Regions.{RegionValue}
use Rattle.pn_protocol.specs.declared.reply.Reply.{Reply}
use Rattle.pn_serve.specs.declared.script.Counts.{Counts}
use Rattle.pn_serve.specs.declared.script.RunFault.{RunFault}
use Rattle.pn_serve.specs.declared.script.RunFault.TheVariants.{Read, Write, TooManyTurns, Memory}
use Rattle.pn_serve.specs.Lines as lines
use Rattle.pn_serve.specs.Lines.{EndsBy, AllAnswer, texts_of, refusals_of}
use Rattle.pn_lines.specs.Driving.{Start}
use Rattle.pn_serve.specs.Machine.Outcomes.{Outcome, done, Machine, new_machine}
use Rattle.pn_serve.specs.Machine.Turns.{turn, end_turn, Answers, Concludes}
use Rattle.pn_protocol.specs.Reply.Texts.{reply_text, is_refusal}
use Rattle.pn_serve.specs.Runs.{RunStart, Ended, Broken, Cut, Exceeded, Ends, lines_within}
use Rattle.pn_serve.specs.Script.Written.{parts_of, replies_from, machine_after, refusals_from, replies, refusals, end_of, one_if}
use Rattle.pn_serve.proofs.Serving.{parts-text, parts_read}

-- the outcomes of lines that were answered
record Outcomes (was : Machine) (texts : List (List ℕ)) (said : List Reply) (now : Machine) : Type 0 where
  outcomes : List Outcome
  paired : length outcomes ≡ length texts
  machine : machine_after was texts outcomes ≡ now
  replied : replies_from was texts outcomes ≡ texts_of said
  refused : refusals_from was texts outcomes ≡ refusals_of said

outcomes_of : (was : Machine) (texts : List (List ℕ)) (said : List Reply) (now : Machine) → AllAnswer Answers was texts said now → Outcomes was texts said now
outcomes_of was [] [] now all = record { outcomes = []; paired = refl; machine = sym all; replied = refl; refused = refl }
outcomes_of was [] (r ∷ said) now all = absurd all
outcomes_of was (t ∷ texts) [] now all = absurd all
outcomes_of was (t ∷ texts) (r ∷ said) now all =
    let turned : Answers was t all.0 r = all.1 in
    let rest = outcomes_of all.0 texts said now all.2 in record {
      outcomes = turned.outcome ∷ rest.outcomes;
      paired = omega (arith, rest.paired);
      machine = ap (λ (m : Machine). machine_after m texts rest.outcomes) turned.machine_is ∙ rest.machine;
      replied = (λ i. turned.replied i ++ replies_from (turned.machine_is i) texts rest.outcomes) ∙ ap (λ (more : List ℕ). reply_text r ++ more) rest.replied;
      refused = (λ i. one_if (turned.refused i) + refusals_from (turned.machine_is i) texts rest.outcomes) ∙ ap (λ (more : ℕ). one_if (is_refusal r) + more) rest.refused;
    }

-- the replies to lines, and then to more of them
replies_from-more : (machine : Machine) (texts : List (List ℕ)) (outcomes : List Outcome) (more : List (List ℕ)) → length outcomes ≡ length texts
    → replies_from machine (texts ++ more) outcomes ≡ replies_from machine texts outcomes ++ replies_from (machine_after machine texts outcomes) more []
replies_from-more machine [] [] more same = refl
replies_from-more machine [] (o ∷ outcomes) more same = absurd (omega arith)
replies_from-more machine (t ∷ texts) [] more same = absurd (omega arith)
replies_from-more machine (t ∷ texts) (o ∷ outcomes) more same =
    let next = (turn machine o t).machine in
    ap (λ (r : List ℕ). (turn machine o t).reply ++ r) (replies_from-more next texts outcomes more (omega arith))
    ∙ sym (append_assoc (turn machine o t).reply (replies_from next texts outcomes) (replies_from (machine_after next texts outcomes) more []))

-- the whole lines of a text of which lines and a part were read
lines_in : {text : List ℕ} {left : Option (List ℕ)} {read_lines : List (List ℕ)} {part : List ℕ} → (read : PartRead text left read_lines part) → (parts_of text).0 ≡ read_lines ++ (parts_of (part ++ read.rest)).0
lines_in {read_lines = read_lines} {part = part} read =
    ap (λ (t : List ℕ). (parts_of t).0) read.text_is ∙ ap (λ (p : List (List ℕ) × List ℕ). p.0) (parts-text read_lines (part ++ read.rest) read.unbroken)

module _ (region : RegionValue) (left written : Option (List ℕ)) where
  abbrev begun : RunStart
  begun = record { region = region; left = left; written = written }

  abbrev start : Start Machine
  start = record { machine = new_machine region; left = left; written = written }

  -- all replies to a script whose lines and end were answered
  module _ (script : List ℕ) (texts : List (List ℕ)) (part : List ℕ) (parts : parts_of script ≡ (texts, part)) (said : List Reply) (reached now : Machine) (all : Outcomes (new_machine region) texts said reached)
      (last : Reply) (ended : Concludes reached part now last) where
    all_replies : replies region script all.outcomes ended.outcome ≡ texts_of said ++ reply_text last
    all_replies =
        ap (λ (p : List (List ℕ) × List ℕ). replies_from (new_machine region) p.0 all.outcomes ++ (end_turn (machine_after (new_machine region) p.0 all.outcomes) ended.outcome p.1).reply) parts
        ∙ ap (λ (m : Machine). replies_from (new_machine region) texts all.outcomes ++ (end_turn m ended.outcome part).reply) all.machine
        ∙ (λ i. all.replied i ++ ended.replied i)

    all_refusals : refusals region script all.outcomes ended.outcome ≡ refusals_of said + one_if (is_refusal last)
    all_refusals =
        ap (λ (p : List (List ℕ) × List ℕ). refusals_from (new_machine region) p.0 all.outcomes + one_if (end_turn (machine_after (new_machine region) p.0 all.outcomes) ended.outcome p.1).refused) parts
        ∙ ap (λ (m : Machine). refusals_from (new_machine region) texts all.outcomes + one_if (end_turn m ended.outcome part).refused) all.machine
        ∙ (λ i. all.refused i + one_if (ended.refused i))

  script_ended : (script : List ℕ) (leaves wrote : Option (List ℕ)) (now : Machine) (counts : Counts) → lines.Ended Answers Concludes start script leaves wrote now counts → Ended begun script leaves wrote counts
  script_ended script leaves wrote now counts is =
      let texts = (parts_of script).0 in
      let part = (parts_of script).1 in
      let all = outcomes_of (new_machine region) texts is.replies is.reached is.made in
      let ended : Concludes is.reached part now is.last = is.ended in record {
        outcomes = all.outcomes;
        last = ended.outcome;
        wrote = subst (λ (r : List ℕ). Appends written wrote r) (sym (all_replies script texts part refl is.replies is.reached now all is.last ended)) is.wrote;
        lines_are = is.lines_are;
        refused_are = is.refused_are ∙ sym (all_refusals script texts part refl is.replies is.reached now all is.last ended);
        within = is.within;
        at_end = is.at_end;
      }

  script_broken : (script : List ℕ) (leaves wrote : Option (List ℕ)) (now : Machine) → lines.Broken Answers Concludes start script leaves wrote now → Broken begun script leaves wrote
  script_broken script leaves wrote now is =
      let all = outcomes_of (new_machine region) is.lines is.replies now is.made in record {
        lines = is.lines;
        part = is.part;
        read = is.read;
        outcomes = all.outcomes;
        wrote = subst (λ (r : List ℕ). Appends written wrote r) (sym all.replied) is.wrote;
      }

  script_exceeded : (script : List ℕ) (leaves wrote : Option (List ℕ)) (now : Machine) → lines.Exceeded Answers Concludes start script leaves wrote now → Exceeded begun script leaves wrote
  script_exceeded script leaves wrote now is =
      let all = outcomes_of (new_machine region) (lines_within script) is.replies now is.made in record {
        part = is.part;
        read = is.read;
        stopped = is.stopped;
        outcomes = all.outcomes;
        wrote = subst (λ (r : List ℕ). Appends written wrote r) (sym all.replied) is.wrote;
        more = is.more;
      }

  -- a prefix of the replies to the first lines is one of the replies to all
  cut_first : (script : List ℕ) (leaves wrote : Option (List ℕ)) (texts : List (List ℕ)) (part : List ℕ) (said : List Reply) (reached : Machine) → PartRead script leaves texts part
      → Outcomes (new_machine region) texts said reached → AppendsPrefix written wrote (texts_of said) → Cut begun script leaves wrote
  cut_first script leaves wrote texts part said reached read all sent =
      let more = (parts_of (part ++ read.rest)).0 in record {
        lines = texts;
        part = part;
        read = read;
        outcomes = all.outcomes;
        last = done;
        prefix = AppendsPrefix-more (end_of region script all.outcomes done).reply
            (subst (λ (r : List ℕ). AppendsPrefix written wrote r)
            (sym (replies_from-more (new_machine region) texts all.outcomes more all.paired) ∙ ap (λ (l : List (List ℕ)). replies_from (new_machine region) l all.outcomes) (sym (lines_in read)))
            (AppendsPrefix-more (replies_from (machine_after (new_machine region) texts all.outcomes) more []) (subst (λ (r : List ℕ). AppendsPrefix written wrote r) (sym all.replied) sent)));
      }

  -- or the input was at its end
  cut_last : (script : List ℕ) (leaves wrote : Option (List ℕ)) (texts : List (List ℕ)) (part : List ℕ) (said : List Reply) (reached now : Machine) (last : List ℕ) → PartRead script leaves texts part
      → Outcomes (new_machine region) texts said reached → ((now ≡ reached) × (last ≡ [])) ⊎ ((leaves ≡ Some []) × ((reply : Reply) × (last ≡ reply_text reply) × Concludes reached part now reply))
      → AppendsPrefix written wrote (texts_of said ++ last) → Cut begun script leaves wrote
  cut_last script leaves wrote texts part said reached now last read all (inl none) sent =
      cut_first script leaves wrote texts part said reached read all
      (subst (λ (r : List ℕ). AppendsPrefix written wrote r) (ap (λ (l : List ℕ). texts_of said ++ l) none.1 ∙ append-nil (texts_of said)) sent)
  cut_last script leaves wrote texts part said reached now last read all (inr (gone, (reply, is, ended))) sent =
      let turned : Concludes reached part now reply = ended in record {
        lines = texts;
        part = part;
        read = read;
        outcomes = all.outcomes;
        last = turned.outcome;
        prefix = subst (λ (r : List ℕ). AppendsPrefix written wrote r)
            (ap (λ (l : List ℕ). texts_of said ++ l) is ∙ sym (all_replies script texts part (parts_read leaves read gone) said reached now all reply turned)) sent;
      }

  script_cut : (script : List ℕ) (leaves wrote : Option (List ℕ)) (now : Machine) → lines.Cut Answers Concludes start script leaves wrote now → Cut begun script leaves wrote
  script_cut script leaves wrote now is =
      cut_last script leaves wrote is.lines is.part is.replies is.reached now is.last is.read (outcomes_of (new_machine region) is.lines is.replies is.reached is.made) is.ended is.prefix

on_told : (left : Option (List ℕ)) (P Q : List ℕ → Type 0) → ((text : List ℕ) → P text → Q text) → IfSome left P → IfSome left Q
on_told None P Q f h = tt
on_told (Some text) P Q f h = f text h

-- where the run of a script ends
script_ends : (region : RegionValue) (left written leaves wrote : Option (List ℕ)) (now : Machine) (result : Result Counts RunFault)
    → EndsBy Answers Concludes (record { machine = new_machine region; left = left; written = written }) leaves wrote now result → Ends (record { region = region; left = left; written = written }) leaves wrote result
script_ends region left written leaves wrote now (Ok counts) is = on_told left _ _ (λ script. script_ended region left written script leaves wrote now counts) is
script_ends region left written leaves wrote now (Err Read) is = on_told left _ _ (λ script. script_broken region left written script leaves wrote now) is
script_ends region left written leaves wrote now (Err Write) is = on_told left _ _ (λ script. script_cut region left written script leaves wrote now) is
script_ends region left written leaves wrote now (Err TooManyTurns) is = on_told left _ _ (λ script. script_exceeded region left written script leaves wrote now) is
script_ends region left written leaves wrote now (Err Memory) is = (is.0, is.1)

pub as_script : (machine : Machine) (region : RegionValue) (left written leaves wrote : Option (List ℕ)) (now : Machine) (result : Result Counts RunFault) → machine ≡ new_machine region
    → EndsBy Answers Concludes (record { machine = machine; left = left; written = written }) leaves wrote now result → Ends (record { region = region; left = left; written = written }) leaves wrote result
as_script machine region left written leaves wrote now result is ends =
    script_ends region left written leaves wrote now result
    (subst (λ (m : Machine). EndsBy Answers Concludes (record { machine = m; left = left; written = written }) leaves wrote now result) is ends)
