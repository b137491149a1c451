-- The parts of a script: lines that were read to their end, which may be answered, and those too many or too long.
use Rattle.std.proofs.Common.{◌≡◌, ◌≢◌, ℕ, List, [], ◌∷◌, ◌++◌, All, if◌then◌else◌, refl, ap, ◌∙◌, append_assoc, append-nil, ne_eqb, ◌≤◌, Bool, true, false, Option, None, Some, length, IfSome, sym, subst, arith, zero, suc, ◌-◌, ◌<◌, cond, take, nat_lt, inl, inr, option_map}
use Rattle.std.proofs.lemmas.List.Elements.{All-head, All-tail, All-nil}
use Rattle.std.specs.List.{take_while}
use Rattle.std.proofs.lemmas.List.{length-append, take-take}
use Rattle.std.proofs.lemmas.Bool.Decides.{nat_tests}
use Rattle.std.proofs.lemmas.List.Sums.{take_while-cons}
use Rattle.std.proofs.lemmas.Bool.{cases_eq, cases_lt}
use Rattle.pn_line.specs.Line.{IsUnbroken, kept_bytes, max_kept}
use Rattle.pn_line.specs.Text.{text_of, lines_of, last_line, onto_first, PartRead}
use Rattle.pn_line.proofs.TextLaws.{text_of-nil, text_of-cons, lines_of-text, lines_of-nil, lines_of-last, lines_of-line, lines_of-byte, lines_of-begun}
use Rattle.pn_line.proofs.LineLaws.{kept_bytes-short, length-kept_bytes_long}
use Rattle.pn_protocol.specs.declared.reply.Reply.{Reply}
use Rattle.pn_protocol.specs.Reply.Texts.{is_refusal}
use Rattle.pn_protocol.specs.declared.refusal.Refusal.TheVariants.{TooLong}
use Rattle.pn_protocol.specs.Command.Lines.{is_too_long, command_at}
use Rattle.pn_protocol.proofs.CommandLines.{too_long}
use Rattle.pn_lines.specs.Driving.{Start}
use Rattle.pn_serve.specs.Script.Written.{onto, parts_of, one_if}
use Rattle.pn_serve.specs.Lines.{refusals_of, AllAnswer, IsShort, Broken, Exceeded}
use Rattle.pn_serve.specs.Runs.{lines_within, IsAtBound}
use Rattle.pn_serve.specs.Machine.Turns.{unless_call, one_came, turn_of, outcome_at, turn_in, turn, last_of, end_in, end_turn, TurnedBy, Answers, Concludes}
use Rattle.pn_serve.specs.Machine.Outcomes.{Outcome, done, Mode, awaits_command, announced, Machine, logged_region, Turn, refusal_turn}
use Rattle.pn_serve.specs.Machine.Doing.{text_adoption_turn}

-- The parts of a script whose lines are known.

parts-newline : (rest : List ℕ) → parts_of (10 ∷ rest) ≡ ([] ∷ (parts_of rest).0, (parts_of rest).1)
unfolding parts_of
parts-newline rest = refl

parts-byte : (b : ℕ) (rest : List ℕ) → b ≢ 10 → parts_of (b ∷ rest) ≡ onto b (parts_of rest).0 (parts_of rest).1
unfolding parts_of
parts-byte b rest other = ap (λ test. if test then ([] ∷ (parts_of rest).0, (parts_of rest).1) else onto b (parts_of rest).0 (parts_of rest).1) (ne_eqb b 10 other)

-- a line with its newline is the first line
parts-line : (line rest : List ℕ) → IsUnbroken line → parts_of (line ++ 10 ∷ rest) ≡ (line ∷ (parts_of rest).0, (parts_of rest).1)
parts-line [] rest unbroken = parts-newline rest
parts-line (b ∷ line) rest unbroken =
    parts-byte b (line ++ 10 ∷ rest) (All-head (λ x. x ≢ 10) b line unbroken)
    ∙ ap (λ parts. onto b parts.0 parts.1) (parts-line line rest (All-tail (λ x. x ≢ 10) b line unbroken))

-- what has no newline is a part
parts-part : (part : List ℕ) → IsUnbroken part → parts_of part ≡ ([], part)
unfolding parts_of
parts-part [] unbroken = refl
parts-part (b ∷ part) unbroken =
    parts-byte b part (All-head (λ x. x ≢ 10) b part unbroken) ∙ ap (λ parts. onto b parts.0 parts.1) (parts-part part (All-tail (λ x. x ≢ 10) b part unbroken))

-- some lines, then the lines of the rest
pub parts-text : (lines : List (List ℕ)) (rest : List ℕ) → All IsUnbroken lines → parts_of (text_of lines ++ rest) ≡ (lines ++ (parts_of rest).0, (parts_of rest).1)
parts-text [] rest unbroken = ap (λ text. parts_of (text ++ rest)) text_of-nil
parts-text (line ∷ lines) rest unbroken =
    ap (λ text. parts_of (text ++ rest)) (text_of-cons line lines)
    ∙ ap parts_of (append_assoc line (10 ∷ text_of lines) rest)
    ∙ parts-line line (text_of lines ++ rest) (All-head IsUnbroken line lines unbroken)
    ∙ ap (λ parts. (line ∷ parts.0, parts.1)) (parts-text lines rest (All-tail IsUnbroken line lines unbroken))

-- lines, and a part after them
pub parts-whole : (lines : List (List ℕ)) (part : List ℕ) → All IsUnbroken lines → IsUnbroken part → parts_of (text_of lines ++ part) ≡ (lines, part)
parts-whole lines part unbroken last =
    parts-text lines part unbroken ∙ ap (λ parts. (lines ++ parts.0, parts.1)) (parts-part part last) ∙ ap (λ all. (all, part)) (append-nil lines)

-- Lines that were read to their end, and their replies.

pub OnTold : (left : Option (List ℕ)) (P Q : List ℕ → Type 0) → ((text : List ℕ) → P text → Q text) → IfSome left P → IfSome left Q
OnTold None P Q f h = tt
OnTold (Some text) P Q f h = f text h

untold : (rest : List ℕ) → None ≡ Some rest → ⊥
untold rest is = cc

-- what holds of known bytes
pub of_known : (left : Option (List ℕ)) (rest : List ℕ) (P : List ℕ → Type 0) → left ≡ Some rest → IfSome left P → P rest
of_known None rest P is holds = absurd (untold rest is)
of_known (Some x) rest P is holds = let same : x ≡ rest = cc in subst P same holds

-- the parts of a text that was read to its end
pub parts_read : {text : List ℕ} {lines : List (List ℕ)} {part : List ℕ} (left : Option (List ℕ)) → (read : PartRead text left lines part) → left ≡ Some [] → parts_of text ≡ (lines, part)
parts_read {lines = lines} {part = part} left read gone =
    let none : read.rest ≡ [] = let same = sym read.left_is ∙ gone in cc in
    ap parts_of (read.text_is ∙ ap (λ (r : List ℕ). text_of lines ++ (part ++ r)) none ∙ ap (λ (p : List ℕ). text_of lines ++ p) (append-nil part))
    ∙ parts-whole lines part read.unbroken read.part_unbroken

-- the lines of a text that was read to its end
pub lines_in : {text : List ℕ} {lines : List (List ℕ)} {part : List ℕ} (left : Option (List ℕ)) → (read : PartRead text left lines part) → left ≡ Some [] → lines_of text ≡ lines ++ last_line part
lines_in {lines = lines} {part = part} left read gone =
    let none : read.rest ≡ [] = let same = sym read.left_is ∙ gone in cc in
    ap lines_of (read.text_is ∙ ap (λ (r : List ℕ). text_of lines ++ (part ++ r)) none ∙ ap (λ (p : List ℕ). text_of lines ++ p) (append-nil part))
    ∙ lines_of-text lines part read.unbroken ∙ ap (λ (l : List (List ℕ)). lines ++ l) (last_of_part part read.part_unbroken)
  where
    last_of_part : (part : List ℕ) → IsUnbroken part → lines_of part ≡ last_line part
    last_of_part [] unbroken = lines_of-nil
    last_of_part (b ∷ part) unbroken = lines_of-last b part unbroken

-- no more replies are refusals than there are
pub few_refusals : (replies : List Reply) → refusals_of replies ≤ length replies
few_refusals [] = omega arith
few_refusals (reply ∷ replies) = let rest = few_refusals replies in let one = at_most_one (is_refusal reply) in omega (arith, rest, one)
  where
    at_most_one : (b : Bool) → one_if b ≤ 1
    at_most_one true = omega arith
    at_most_one false = omega arith

-- each line has one reply
pub as_many_replies : {V : Type 0} (makes : V → List ℕ → V → Reply → Type 0) (was : V) (lines : List (List ℕ)) (replies : List Reply) (now : V) → AllAnswer makes was lines replies now → length replies ≡ length lines
as_many_replies makes was [] [] now all = refl
as_many_replies makes was [] (r ∷ replies) now all = absurd all
as_many_replies makes was (l ∷ lines) [] now all = absurd all
as_many_replies makes was (l ∷ lines) (r ∷ replies) now all = let rest = as_many_replies makes all.0 lines replies now all.2 in omega (arith, rest)

-- Which lines of a script may be answered.

abbrev test : List ℕ → Bool
test line = nat_lt (length line) 1000000000

passes : (line : List ℕ) → IsShort line → test line ≡ true
passes line short = grind (arith, nat_tests, short)

-- short lines, at most as many as allowed, are kept
front : (n : ℕ) (lines more : List (List ℕ)) → All IsShort lines → length lines ≤ n
    → take_while test (take n (lines ++ more)) ≡ lines ++ take_while test (take (n - length lines) more)
front n [] more are few = let all : n - 0 ≡ n = omega arith in ap (λ k. take_while test (take k more)) (sym all)
front zero (line ∷ lines) more are few = absurd (omega (arith, few))
front (suc n) (line ∷ lines) more are few =
    let left : suc n - length (line ∷ lines) ≡ n - length lines = omega arith in
    take_while-cons test line (take n (lines ++ more))
    ∙ ap (λ b. cond b (line ∷ take_while test (take n (lines ++ more))) []) (passes line (All-head IsShort line lines are))
    ∙ ap (λ l. line ∷ l) (front n lines more (All-tail IsShort line lines are) (omega (arith, few)))
    ∙ ap (λ k. line ∷ (lines ++ take_while test (take k more))) (sym left)

-- all lines may be answered
pub within-all : (text : List ℕ) (lines : List (List ℕ)) → lines_of text ≡ lines → All IsShort lines → length lines ≤ 1000000 → lines_within text ≡ lines_of text
within-all text lines is are few =
    ap (λ l. take_while test (take 1000000 l)) (is ∙ sym (append-nil lines))
    ∙ front 1000000 lines [] are few
    ∙ ap (λ l. lines ++ l) (nothing (1000000 - length lines))
    ∙ append-nil lines ∙ sym is
  where
    nothing : (n : ℕ) → take_while test (take n []) ≡ []
    nothing zero = refl
    nothing (suc n) = refl

-- of more than a million lines the first million
pub within-million : (text : List ℕ) (lines more : List (List ℕ)) → lines_of text ≡ lines ++ more → All IsShort lines → length lines ≡ 1000000 → lines_within text ≡ lines
within-million text lines more is are many =
    let none : 1000000 - length lines ≡ 0 = omega (arith, many) in
    ap (λ l. take_while test (take 1000000 l)) is
    ∙ front 1000000 lines more are (omega (arith, many))
    ∙ ap (λ k. lines ++ take_while test (take k more)) none
    ∙ append-nil lines

-- the lines before one without end
pub within-endless : (text : List ℕ) (lines : List (List ℕ)) (line : List ℕ) (more : List (List ℕ)) → lines_of text ≡ lines ++ line ∷ more → All IsShort lines → length lines < 1000000 → 1000000000 ≤ length line → lines_within text ≡ lines
within-endless text lines line more is are few long =
    ap (λ l. take_while test (take 1000000 l)) is
    ∙ front 1000000 lines (line ∷ more) are (omega (arith, few))
    ∙ ap (λ l. lines ++ l) (stops (1000000 - length lines))
    ∙ append-nil lines
  where
    fails : test line ≡ false
    fails = grind (arith, nat_tests, long)

    stops : (n : ℕ) → take_while test (take n (line ∷ more)) ≡ []
    stops zero = refl
    stops (suc n) = take_while-cons test line (take n more) ∙ ap (λ b. cond b (line ∷ take_while test (take n more)) []) fails

-- some lines are not all lines
pub not_all : (text : List ℕ) (lines : List (List ℕ)) (line : List ℕ) (more : List (List ℕ)) → lines_of text ≡ lines ++ line ∷ more → lines_within text ≡ lines → lines_within text ≢ lines_of text
not_all text lines line more is within same = longer lines (sym within ∙ same ∙ is)
  where
    longer : (l : List (List ℕ)) → l ≡ l ++ line ∷ more → ⊥
    longer l e = omega (arith, ap length e, length-append l (line ∷ more))

-- Scripts with more lines than may be answered, or with a line without end.

-- a text with a byte has a line
some_line : (rest : List ℕ) → rest ≢ [] → (line : List ℕ) × (more : List (List ℕ)) × (lines_of rest ≡ line ∷ more)
some_line [] some = absurd (some refl)
some_line (b ∷ rest) some = elim (cases_eq b 10) [
  | inl is ↦ ([], lines_of rest, ap (λ x. lines_of (x ∷ rest)) is ∙ lines_of-line [] rest (All-nil (λ (x : ℕ). x ≢ 10)))
  | inr other ↦ begun (lines_of rest) (lines_of-byte b rest other)
]
  where
    begun : (lines : List (List ℕ)) → lines_of (b ∷ rest) ≡ onto_first b lines → (line : List ℕ) × (more : List (List ℕ)) × (lines_of (b ∷ rest) ≡ line ∷ more)
    begun [] is = (b ∷ [], [], is)
    begun (line ∷ lines) is = (b ∷ line, lines, is)

-- a line of a billion bytes, and perhaps more
begun_line : (part rest : List ℕ) → IsUnbroken part → length part ≡ 1000000000 → (line : List ℕ) × (more : List (List ℕ)) × (lines_of (part ++ rest) ≡ line ∷ more) × (1000000000 ≤ length line)
begun_line [] rest unbroken long = absurd (omega (arith, long))
begun_line (b ∷ part) rest unbroken long =
    let (line, more, is, longer) = lines_of-begun b part rest unbroken in (line, more, is, omega (arith, long, longer))

-- the lines of a text of which lines and a part were read
lines_begun : {script : List ℕ} {left : Option (List ℕ)} {lines : List (List ℕ)} {part : List ℕ} (read : PartRead script left lines part) → lines_of script ≡ lines ++ lines_of (part ++ read.rest)
lines_begun {lines = lines} {part = part} read = ap lines_of read.text_is ∙ lines_of-text lines (part ++ read.rest) read.unbroken

-- lines were read and answered, and then a part of the next was read
module _ {V : Type 0} (makes ends : V → List ℕ → V → Reply → Type 0) (start : Start V) (script : List ℕ) (left written : Option (List ℕ)) (machine : V) (is : Broken makes ends start script left written machine) where
  exceeded : IsAtBound is.lines is.part → lines_within script ≡ is.lines → lines_within script ≢ lines_of script → Exceeded makes ends start script left written machine
  exceeded bound within more = record {
    part = is.part;
    read = subst (λ (l : List (List ℕ)). PartRead script left l is.part) (sym within) is.read;
    stopped = subst (λ (l : List (List ℕ)). IsAtBound l is.part) (sym within) bound;
    replies = is.replies;
    made = subst (λ (l : List (List ℕ)). AllAnswer makes start.machine l is.replies machine) (sym within) is.made;
    wrote = is.wrote;
    more = more;
  }

  -- a line has no end
  pub Exceeded_bytes : All IsShort is.lines → length is.part ≡ 1000000000 → length is.lines < 1000000 → Exceeded makes ends start script left written machine
  Exceeded_bytes short long few =
      let (first, more, all, longer) = begun_line is.part is.read.rest is.read.part_unbroken long in
      let whole : lines_of script ≡ is.lines ++ first ∷ more = lines_begun is.read ∙ ap (λ (l : List (List ℕ)). is.lines ++ l) all in
      let within = within-endless script is.lines first more whole short few longer in
      exceeded (inr long) within (not_all script is.lines first more whole within)

  -- there are more than a million lines
  pub Exceeded_lines : All IsShort is.lines → is.part ≡ [] → is.read.rest ≢ [] → length is.lines ≡ 1000000 → Exceeded makes ends start script left written machine
  Exceeded_lines short none some many =
      let (line, more, all) = some_line is.read.rest some in
      let whole : lines_of script ≡ is.lines ++ line ∷ more = lines_begun is.read ∙ ap (λ (p : List ℕ). is.lines ++ lines_of (p ++ is.read.rest)) none ∙ ap (λ (l : List (List ℕ)). is.lines ++ l) all in
      let within = within-million script is.lines (line ∷ more) whole short many in
      exceeded (inl (many, none)) within (not_all script is.lines line more whole within)

-- Lines that are too long.

said-long : (outcome : Outcome) (text : List ℕ) → 65536 < length text → outcome_at outcome text ≡ done
said-long outcome text long =
    let test : is_too_long text ≡ true = grind (arith, nat_tests) in
    ap (λ (b : Bool). if b then done else outcome) test

-- a line that is too long is refused as such
pub turn-long : (machine : Machine) (outcome : Outcome) (text : List ℕ) → 65536 < length text → turn_in awaits_command machine outcome text ≡ refusal_turn machine TooLong
turn-long machine outcome text long =
    ap (λ (o : Outcome). turn_of machine o (command_at text)) (said-long outcome text long) ∙ ap (turn_of machine done) (too_long _ text long)

end-long : (machine : Machine) (outcome : Outcome) (text : List ℕ) → 65536 < length text → end_in awaits_command machine outcome text ≡ refusal_turn machine TooLong
end-long machine outcome [] long = absurd (omega (arith, long))
end-long machine outcome (b ∷ text) long =
    ap (λ (o : Outcome). last_of machine o (command_at (b ∷ text))) (said-long outcome (b ∷ text) long) ∙ ap (last_of machine done) (too_long _ (b ∷ text) long)

kept-kept : (line : List ℕ) → kept_bytes (kept_bytes line) ≡ kept_bytes line
kept-kept line = take-take max_kept max_kept line (omega arith)

-- a line does what its kept bytes do
turn-kept : (mode : Mode) (machine : Machine) (outcome : Outcome) (line : List ℕ) → turn_in mode machine outcome (kept_bytes line) ≡ turn_in mode machine outcome line
turn-kept awaits_command machine outcome line = elim (cases_lt 65536 (length line)) [
  | inl long ↦ turn-long machine outcome (kept_bytes line) (omega (arith, length-kept_bytes_long line long)) ∙ sym (turn-long machine outcome line long)
  | inr short ↦ ap (turn_in awaits_command machine outcome) (kept_bytes-short line short)
]
turn-kept (announced left came) machine outcome line =
    ap (λ (bytes : List ℕ). one_came machine left (unless_call outcome (option_map (λ text. text ++ (bytes ++ 10 ∷ [])) came))) (kept-kept line)

pub end-kept : (mode : Mode) (machine : Machine) (outcome : Outcome) (part : List ℕ) → end_in mode machine outcome (kept_bytes part) ≡ end_in mode machine outcome part
end-kept awaits_command machine outcome part = elim (cases_lt 65536 (length part)) [
  | inl long ↦ end-long machine outcome (kept_bytes part) (omega (arith, length-kept_bytes_long part long)) ∙ sym (end-long machine outcome part long)
  | inr short ↦ ap (end_in awaits_command machine outcome) (kept_bytes-short part short)
]
end-kept (announced left came) machine outcome part =
    ap (λ (bytes : List ℕ). text_adoption_turn (logged_region machine) (unless_call outcome (option_map (λ text. text ++ (bytes ++ [])) came))) (kept-kept part)

pub answers_kept : (old new : Machine) (bytes text : List ℕ) (reply : Reply) → bytes ≡ kept_bytes text → Answers old bytes new reply → Answers old text new reply
answers_kept old new bytes text reply is answers =
    subst (λ (turns : Outcome → Turn). TurnedBy (Unit {0}) turns new reply) (λ i outcome. (ap (λ (b : List ℕ). turn old outcome b) is ∙ turn-kept old.mode old outcome text) i) answers

pub concludes_kept : (old new : Machine) (bytes text : List ℕ) (reply : Reply) → bytes ≡ kept_bytes text → Concludes old bytes new reply → Concludes old text new reply
concludes_kept old new bytes text reply is concludes =
    subst (λ (turns : Outcome → Turn). TurnedBy (Unit {0}) turns new reply) (λ i outcome. (ap (λ (b : List ℕ). end_turn old outcome b) is ∙ end-kept old.mode old outcome text) i) concludes
