-- Of one text there is one longest run, and one fault that ends it.
use Rattle.std.proofs.Common.{◌≡◌, ◌≢◌, ℕ, ◌+◌, ◌-◌, ◌<◌, ◌≤◌, List, [], ◌∷◌, ◌++◌, length, Option, None, Some, Result, Ok, Err, inl, inr, ◌⊎◌, refl, sym, ap, ◌∙◌, subst, arith, append_assoc, length-append}
use Rattle.std.proofs.lemmas.List.Elements.{All-head, All-tail}
use Rattle.pn_line.specs.Line.{IsUnbroken}
use Rattle.pn_line.specs.Text.{text_of}
use Rattle.pn_line.proofs.TextLaws.{text_of-nil, text_of-cons}
use Rattle.pn_record.specs.declared.fault.ImageFault.{ImageFault}
use Rattle.pn_record.specs.declared.records.Image.{Image}
use Rattle.pn_stream.specs.Messages.{Message, message_at, IsMessageLine}
use Rattle.pn_stream.specs.Streams.{InStep, FirstLine, NoLine, Refuses, RefusedLine, LongLine, Stands, IsOfText}
use Rattle.pn_stream.specs.Batches.{Batch, Ends}
use Rattle.pn_stream.specs.declared.fault.StreamFault.{StreamFault}
use Rattle.pn_stream.specs.declared.fault.StreamFault.TheVariants.{Read, LineTooLong, BadMessage, OutOfStep, Memory, Failed}
use Rattle.pn_stream.proofs.SameMessage.{message_line_again, message_line_unique}

cons_parts : {A : Type 0} (x y : A) (xs ys : List A) → x ∷ xs ≡ y ∷ ys → (x ≡ y) × (xs ≡ ys)
cons_parts x y xs ys is = (cc, cc)

same_first : (line other rest more : List ℕ) → IsUnbroken line → IsUnbroken other → line ++ 10 ∷ rest ≡ other ++ 10 ∷ more → (line ≡ other) × (rest ≡ more)
same_first [] [] rest more unbroken whole is = (refl, (cons_parts 10 10 rest more is).1)
same_first [] (b ∷ other) rest more unbroken whole is = absurd (All-head (λ x. x ≢ 10) b other whole (sym (cons_parts 10 b rest (other ++ 10 ∷ more) is).0))
same_first (b ∷ line) [] rest more unbroken whole is = absurd (All-head (λ x. x ≢ 10) b line unbroken (cons_parts b 10 (line ++ 10 ∷ rest) more is).0)
same_first (b ∷ line) (c ∷ other) rest more unbroken whole is =
    let (head, tail) = cons_parts b c (line ++ 10 ∷ rest) (other ++ 10 ∷ more) is in
    let (same, left) = same_first line other rest more (All-tail (λ x. x ≢ 10) b line unbroken) (All-tail (λ x. x ≢ 10) c other whole) tail in
    (ap (λ x. x ∷ line) head ∙ ap (λ l. c ∷ l) same, left)

-- a text has one first line
first_unique : (text line other rest more : List ℕ) → FirstLine text line rest → FirstLine text other more → (line ≡ other) × (rest ≡ more)
first_unique text line other rest more first second = same_first line other rest more first.unbroken second.unbroken (sym first.text_is ∙ second.text_is)

broken : (line rest : List ℕ) → IsUnbroken (line ++ 10 ∷ rest) → ⊥
broken [] rest unbroken = All-head (λ x. x ≢ 10) 10 rest unbroken refl
broken (b ∷ line) rest unbroken = broken line rest (All-tail (λ x. x ≢ 10) b (line ++ 10 ∷ rest) unbroken)

longer_than : (front after line rest : List ℕ) → IsUnbroken front → length line < length front → front ++ after ≡ line ++ 10 ∷ rest → ⊥
longer_than [] after line rest unbroken long is = omega (arith, long)
longer_than (b ∷ front) after [] rest unbroken long is = All-head (λ x. x ≢ 10) b front unbroken (cons_parts b 10 (front ++ after) rest is).0
longer_than (b ∷ front) after (c ∷ line) rest unbroken long is =
    longer_than front after line rest (All-tail (λ x. x ≢ 10) b front unbroken) (omega (arith, long)) (cons_parts b c (front ++ after) (line ++ 10 ∷ rest) is).1

-- a line is not both a message and refused
not_both : (line : List ℕ) (message : Message) (fault : ImageFault) → IsMessageLine line message → message_at line ≡ Err fault → ⊥
not_both line message fault said refused = neither (sym (message_line_again line message said) ∙ refused)
  where
    neither : ◌≡◌ {A = Result Message ImageFault} (Ok message) (Err fault) → ⊥
    neither is = cc

not_another : (line : List ℕ) (wanted got : ℕ) (image other : Image) → IsMessageLine line (wanted, image) → IsMessageLine line (got, other) → got ≢ wanted → ⊥
not_another line wanted got image other said stray apart = apart (ap (λ (m : Message). m.0) (message_line_unique line (got, other) (wanted, image) stray said))

-- no message in step follows a batch that may give one more
abbrev Stops : ℕ → ℕ → ℕ → List ℕ → Type 0
Stops max count position text = (wanted : ℕ) (line rest : List ℕ) (image : Image) → wanted ≡ position + count + 1 → FirstLine text line rest → IsMessageLine line (wanted, image) → count < max → ⊥

stops : (max count position : ℕ) (text : List ℕ) (fault : Option StreamFault) (part : List ℕ) (left : Option (List ℕ)) → IsOfText fault → Ends max max count position text fault part left → Stops max count position text
stops max count position text None part left of_text ends wanted line rest image is first said fewer = elim ends.0 [
  | inl full ↦ omega (arith, full.0, fewer)
  | inr none ↦ broken line rest (subst IsUnbroken first.text_is none.1.unbroken)
]
stops max count position text (Some Read) part left of_text ends wanted line rest image is first said fewer = absurd of_text
stops max count position text (Some Memory) part left of_text ends wanted line rest image is first said fewer = absurd of_text
stops max count position text (Some Failed) part left of_text ends wanted line rest image is first said fewer = absurd ends.1
stops max count position text (Some LineTooLong) part left of_text ends wanted line rest image is first said fewer =
    longer_than ends.1.front ends.1.rest line rest ends.1.unbroken (omega (arith, ends.1.long, said.short)) (sym ends.1.text_is ∙ first.text_is)
stops max count position text (Some (BadMessage at fault)) part left of_text ends wanted line rest image is first said fewer =
    let (same, _) = first_unique text ends.1.line line ends.1.rest rest ends.1.first first in
    not_both line (wanted, image) fault said (ap message_at (sym same) ∙ ends.1.refused.1)
stops max count position text (Some (OutOfStep named got)) part left of_text ends wanted line rest image is first said fewer =
    let (same, _) = first_unique text ends.1.line line ends.1.rest rest ends.1.first first in
    let (other, stray) = ends.1.refused.2 in
    not_another line wanted got image other said (subst (λ (l : List ℕ). IsMessageLine l (got, other)) same stray) (λ e. ends.1.refused.1 (e ∙ is))

-- a text that begins with a line begins with it
pub begins : (text line : List ℕ) (lines : List (List ℕ)) (rest : List ℕ) → IsUnbroken line → text ≡ text_of (line ∷ lines) ++ rest → FirstLine text line (text_of lines ++ rest)
begins text line lines rest unbroken is = record {
  unbroken = unbroken;
  text_is = is ∙ ap (λ t. t ++ rest) (text_of-cons line lines) ∙ append_assoc line (10 ∷ text_of lines) rest;
}

same_runs : (max position : ℕ) (text : List ℕ) (lines others : List (List ℕ)) (images shown : List Image) (rest more : List ℕ) → InStep position lines images → InStep position others shown
    → text ≡ text_of lines ++ rest → text ≡ text_of others ++ more → length images ≤ max → length shown ≤ max → Stops max (length images) position rest → Stops max (length shown) position more → (images ≡ shown) × (rest ≡ more)
same_runs max position text [] [] [] [] rest more run again is also within inside stop halt =
    (refl, sym (is ∙ ap (λ t. t ++ rest) text_of-nil) ∙ also ∙ ap (λ t. t ++ more) text_of-nil)
same_runs max position text [] (other ∷ others) [] (show ∷ shown) rest more run again is also within inside stop halt =
    let here : rest ≡ text = sym (is ∙ ap (λ t. t ++ rest) text_of-nil) in
    absurd (stop (position + 1) other (text_of others ++ more) show (omega arith) (begins rest other others more again.0 (here ∙ also)) again.1 (omega (arith, inside)))
same_runs max position text (line ∷ lines) [] (image ∷ images) [] rest more run again is also within inside stop halt =
    let here : more ≡ text = sym (also ∙ ap (λ t. t ++ more) text_of-nil) in
    absurd (halt (position + 1) line (text_of lines ++ rest) image (omega arith) (begins more line lines rest run.0 (here ∙ is)) run.1 (omega (arith, within)))
same_runs max position text (line ∷ lines) (other ∷ others) (image ∷ images) (show ∷ shown) rest more run again is also within inside stop halt =
    let (same, after) = first_unique text line other (text_of lines ++ rest) (text_of others ++ more) (begins text line lines rest run.0 is) (begins text other others more again.0 also) in
    let seen : image ≡ show = ap (λ (m : Message). m.1) (message_line_unique line (position + 1, image) (position + 1, show) run.1 (subst (λ (l : List ℕ). IsMessageLine l (position + 1, show)) (sym same) again.1)) in
    let (next, left) = same_runs (max - 1) (position + 1) (text_of lines ++ rest) lines others images shown rest more run.2 again.2 refl after
    (omega (arith, within)) (omega (arith, inside))
    (λ wanted l r i e first said fewer. stop wanted l r i (omega (arith, e)) first said (omega (arith, fewer)))
    (λ wanted l r i e first said fewer. halt wanted l r i (omega (arith, e)) first said (omega (arith, fewer))) in
    (ap (λ i. i ∷ images) seen ∙ ap (λ l. show ∷ l) next, left)
same_runs max position text [] others (image ∷ images) shown rest more run again is also within inside stop halt = absurd run
same_runs max position text (line ∷ lines) others [] shown rest more run again is also within inside stop halt = absurd run
same_runs max position text lines [] images (show ∷ shown) rest more run again is also within inside stop halt = absurd again
same_runs max position text lines (other ∷ others) images [] rest more run again is also within inside stop halt = absurd again

-- a fault that depends on the text has a line, or a long front, in it
apart_from_none : (wanted : ℕ) (text : List ℕ) (fault : StreamFault) → IsOfText (Some fault) → NoLine text → Stands wanted text fault → ⊥
apart_from_none wanted text Read of_text none stands = of_text
apart_from_none wanted text Memory of_text none stands = of_text
apart_from_none wanted text Failed of_text none stands = stands
apart_from_none wanted text LineTooLong of_text none stands =
    let whole : length text ≡ length (stands.front ++ stands.rest) = ap length stands.text_is in
    omega (arith, whole, length-append stands.front stands.rest, stands.long, none.short)
apart_from_none wanted text (BadMessage at fault) of_text none stands = broken stands.line stands.rest (subst IsUnbroken stands.first.text_is none.unbroken)
apart_from_none wanted text (OutOfStep named got) of_text none stands = broken stands.line stands.rest (subst IsUnbroken stands.first.text_is none.unbroken)

-- a text that begins with a line that is not too long does not begin with one that is
long_apart : (text line rest : List ℕ) → FirstLine text line rest → length line ≤ 65536 → LongLine text → ⊥
long_apart text line rest first short long =
    longer_than long.front long.rest line rest long.unbroken (omega (arith, long.long, short)) (sym long.text_is ∙ first.text_is)

same_error : (r : Result Message ImageFault) (e f : ImageFault) → r ≡ Err e → r ≡ Err f → e ≡ f
same_error r e f one two = errors e f (sym one ∙ two)
  where
    errors : (e f : ImageFault) → ◌≡◌ {A = Result Message ImageFault} (Err e) (Err f) → e ≡ f
    errors e f is = cc

-- one line is refused by one fault
one_refusal : (wanted : ℕ) (line : List ℕ) (fault other : StreamFault) → IsOfText (Some fault) → IsOfText (Some other) → Refuses wanted line fault → Refuses wanted line other → fault ≡ other
one_refusal wanted line (BadMessage at fault) (BadMessage named other) a b one two =
    ap (λ n. BadMessage n fault) (one.0 ∙ sym two.0) ∙ ap (BadMessage named) (same_error (message_at line) fault other one.1 two.1)
one_refusal wanted line (OutOfStep named got) (OutOfStep name came) a b one two =
    ap (λ n. OutOfStep n got) (one.0 ∙ sym two.0)
    ∙ ap (OutOfStep name) (ap (λ (m : Message). m.0) (message_line_unique line (got, one.2.0) (came, two.2.0) one.2.1 two.2.1))
one_refusal wanted line (BadMessage at fault) (OutOfStep named got) a b one two = absurd (not_both line (got, two.2.0) fault two.2.1 one.1)
one_refusal wanted line (OutOfStep named got) (BadMessage at fault) a b one two = absurd (not_both line (got, one.2.0) fault one.2.1 two.1)
one_refusal wanted line Read other a b one two = absurd one
one_refusal wanted line Memory other a b one two = absurd a
one_refusal wanted line LineTooLong other a b one two = absurd one
one_refusal wanted line Failed other a b one two = absurd one
one_refusal wanted line fault Read a b one two = absurd two
one_refusal wanted line fault Memory a b one two = absurd b
one_refusal wanted line fault LineTooLong a b one two = absurd two
one_refusal wanted line fault Failed a b one two = absurd two

refused_once : (wanted : ℕ) (text : List ℕ) (fault other : StreamFault) → IsOfText (Some fault) → IsOfText (Some other) → RefusedLine wanted text fault → RefusedLine wanted text other → fault ≡ other
refused_once wanted text fault other a b one two =
    let (same, _) = first_unique text one.line two.line one.rest two.rest one.first two.first in
    one_refusal wanted two.line fault other a b (subst (λ (l : List ℕ). Refuses wanted l fault) same one.refused) two.refused

-- at the front of a text is one fault
one_stands : (wanted : ℕ) (text : List ℕ) (fault other : StreamFault) → IsOfText (Some fault) → IsOfText (Some other) → Stands wanted text fault → Stands wanted text other → fault ≡ other
one_stands wanted text LineTooLong LineTooLong a b one two = refl
one_stands wanted text LineTooLong (BadMessage at fault) a b one two = absurd (long_apart text two.line two.rest two.first two.short one)
one_stands wanted text LineTooLong (OutOfStep named got) a b one two = absurd (long_apart text two.line two.rest two.first two.short one)
one_stands wanted text (BadMessage at fault) LineTooLong a b one two = absurd (long_apart text one.line one.rest one.first one.short two)
one_stands wanted text (OutOfStep named got) LineTooLong a b one two = absurd (long_apart text one.line one.rest one.first one.short two)
one_stands wanted text (BadMessage at fault) (BadMessage named other) a b one two = refused_once wanted text _ _ a b one two
one_stands wanted text (BadMessage at fault) (OutOfStep named got) a b one two = refused_once wanted text _ _ a b one two
one_stands wanted text (OutOfStep named got) (BadMessage at fault) a b one two = refused_once wanted text _ _ a b one two
one_stands wanted text (OutOfStep named got) (OutOfStep name came) a b one two = refused_once wanted text _ _ a b one two
one_stands wanted text Read other a b one two = absurd a
one_stands wanted text Memory other a b one two = absurd a
one_stands wanted text Failed other a b one two = absurd one
one_stands wanted text fault Read a b one two = absurd b
one_stands wanted text fault Memory a b one two = absurd b
one_stands wanted text fault Failed a b one two = absurd two

-- a batch that ends before a fault does not end without
only_one_ends : (max count position : ℕ) (text part : List ℕ) (fault : StreamFault) → IsOfText (Some fault) → ((max ≤ count) × (part ≡ [])) ⊎ ((count < max) × NoLine text) → count < max → Stands (position + count + 1) text fault → ⊥
only_one_ends max count position text part fault of_text (inl full) fewer stands = omega (arith, full.0, fewer)
only_one_ends max count position text part fault of_text (inr none) fewer stands = apart_from_none (position + count + 1) text fault of_text none.1 stands

one_end : (max count position : ℕ) (text : List ℕ) (fault next : Option StreamFault) (part piece : List ℕ) (left leaves : Option (List ℕ)) → IsOfText fault → IsOfText next
    → Ends max max count position text fault part left → Ends max max count position text next piece leaves → fault ≡ next
one_end max count position text None None part piece left leaves a b one two = refl
one_end max count position text None (Some next) part piece left leaves a b one two = absurd (only_one_ends max count position text part next b one.0 two.0 two.1)
one_end max count position text (Some fault) None part piece left leaves a b one two = absurd (only_one_ends max count position text piece fault a two.0 one.0 one.1)
one_end max count position text (Some fault) (Some next) part piece left leaves a b one two = ap Some (one_stands (position + count + 1) text fault next a b one.1 two.1)

-- two batches of one text have the same images, and end before the same fault
pub same_batch : (max position : ℕ) (text : List ℕ) (one other : List Image) (fault next : Option StreamFault) (part piece : List ℕ) (left leaves : Option (List ℕ))
    → Batch max max position text one fault part left → Batch max max position text other next piece leaves → IsOfText fault → IsOfText next → (one ≡ other) × (fault ≡ next)
same_batch max position text one other fault next part piece left leaves first second of_text told =
    let (same, rest) = same_runs max position text first.run.lines second.run.lines one other first.rest second.rest first.run.in_step second.run.in_step first.run.text_is second.run.text_is first.within second.within
    (stops max (length one) position first.rest fault part left of_text first.ends) (stops max (length other) position second.rest next piece leaves told second.ends) in
    let ends : Ends max max (length other) position second.rest fault part left =
    subst (λ (n : ℕ). Ends max max n position second.rest fault part left) (ap length same) (subst (λ (t : List ℕ). Ends max max (length one) position t fault part left) rest first.ends) in
    (same, one_end max (length other) position second.rest fault next part piece left leaves of_text told ends second.ends)
