-- How runs of messages grow, one line, one attempt and one call after another.
use Rattle.std.proofs.Common.{◌≡◌, [], ◌∷◌, ◌++◌, Result, Ok, Err, IfOk, OnErr, refl, ◌∙◌, subst, ◌≢◌, ℕ, ◌+◌, ◌<◌, ◌≤◌, Bool, true, false, Contains, OnSome, List, length, Option, None, Some, IfErr, IsErrAnd, IfSome, inl, inr, sym, ap, arith, append_assoc, length-append, zero, suc, ◌^◌, pred, nat_le}
use Rattle.std.proofs.lemmas.Fn.{FoldsTo-push, chained_keeps}
use Rattle.std.proofs.lemmas.List.Elements.{All-contains, Contains-append_right}
use Rattle.std.proofs.lemmas.Bool.{and_parts}
use Rattle.pn_line.specs.Line.{IsUnbroken, HasShown}
use Rattle.pn_line.specs.Text.{text_of}
use Rattle.pn_line.proofs.TextLaws.{text_of-nil, text_of-append, text_of-push}
use Rattle.pn_join.specs.declared.memory.NoMemory.{NoMemory}
use Rattle.pn_join.specs.Marks.{is_position}
use Rattle.pn_record.specs.declared.records.Image.{Image}
use Rattle.pn_stream.specs.Calls.{FailedSoFar, MadeAtLast, IsCall, IsResumed}
use Rattle.pn_stream.specs.Messages.{IsMessageLine}
use Rattle.pn_stream.specs.Streams.{InStep, Run, FirstLine, NoLine, IsLeft, Stands}
use Rattle.pn_stream.specs.Batches.{SoFar, Batch, IsNext, Ends, Stream}
use Rattle.pn_stream.specs.declared.fault.StreamFault.{StreamFault}
use Rattle.pn_stream.specs.declared.next.NextMessage.{NextMessage}
use Rattle.pn_stream.specs.declared.fault.StreamFault.TheVariants.{Memory}
use Rattle.pn_stream.specs.Brokers.{DeliveryValue}

-- What attempts keep of the first, and what the last one makes.

module _ {F T : Type 0} {step : F → Result T NoMemory → F → Type 0} where
  -- memory ran out for one more
  pub one_more : (first before : F) (answer : Result T NoMemory) (fault : NoMemory) (last : F) → FailedSoFar step first before → step before answer last → answer ≡ Err fault → FailedSoFar step first last
  one_more first before answer fault last so_far again is =
      record { faults = so_far.faults ++ fault ∷ []; failed = FoldsTo-push _ _ _ _ _ _ so_far.failed (subst (λ a. step before a last) is again) }

  -- what each of those that memory ran out for keeps
  failed_keep : (Keeps : F → F → Type 0) (first last : F) → FailedSoFar step first last → Keeps first first
      → ((before : F) (answer : Result T NoMemory) (after : F) → step before answer after → Keeps first before → Keeps first after) → Keeps first last
  failed_keep Keeps first last so_far same keeps =
      chained_keeps _ (λ faults f. Keeps first f) (λ faults f fault g before again. keeps f (Err fault) g again before) so_far.faults first last same so_far.failed

  -- what each of all keeps
  pub attempts_keep : {first last : F} (answer : Result T NoMemory) → IfOk answer (λ made. MadeAtLast step first made last) → OnErr answer (FailedSoFar step first last)
      → (Keeps : F → F → Type 0) → Keeps first first → ((before : F) (answer : Result T NoMemory) (after : F) → step before answer after → Keeps first before → Keeps first after) → Keeps first last
  attempts_keep {first} {last} (Ok made) is failed Keeps same keeps = keeps is.before (Ok made) last is.makes (failed_keep Keeps first is.before is.failed same keeps)
  attempts_keep {first} {last} (Err fault) is failed Keeps same keeps = failed_keep Keeps first last failed same keeps

  -- where each leaves all as it was, the last one makes what the first could have made
  pub makes_anew : (first last : F) (answer : Result T NoMemory) (P : T → Type 0) → IfOk answer (λ made. MadeAtLast step first made last)
      → ((before : F) (answer : Result T NoMemory) (after : F) → step before answer after → after ≡ before) → ((made : T) (after : F) → step first (Ok made) after → P made) → IfOk answer P
  makes_anew first last (Ok made) P is same makes =
      let kept : is.before ≡ first = failed_keep (λ f g. g ≡ f) first is.before is.failed refl (λ before answer after s kept. same before answer after s ∙ kept) in
      makes made last (subst (λ f. step f (Ok made) last) kept is.makes)
  makes_anew first last (Err fault) P is same makes = tt

-- How runs of messages grow, one line after another.

-- one message more at the end
pub InStep-push : (position : ℕ) (lines : List (List ℕ)) (images : List Image) (line : List ℕ) (image : Image) (wanted : ℕ) → wanted ≡ position + length images + 1
    → InStep position lines images → IsUnbroken line → IsMessageLine line (wanted, image) → InStep position (lines ++ line ∷ []) (images ++ image ∷ [])
InStep-push position [] [] line image wanted is run unbroken said =
    let here : wanted ≡ position + 1 = omega (arith, is) in
    (unbroken, subst (λ (n : ℕ). IsMessageLine line (n, image)) here said, tt)
InStep-push position [] (shown ∷ images) line image wanted is run unbroken said = absurd run
InStep-push position (first ∷ lines) [] line image wanted is run unbroken said = absurd run
InStep-push position (first ∷ lines) (shown ∷ images) line image wanted is run unbroken said =
    (run.0, run.1, InStep-push (position + 1) lines images line image wanted (omega (arith, is)) run.2 unbroken said)

-- one line more
pub Run-push : (position : ℕ) (text : List ℕ) (images : List Image) (rest line more : List ℕ) (image : Image) (wanted : ℕ) → wanted ≡ position + length images + 1
    → Run position text images rest → FirstLine rest line more → IsMessageLine line (wanted, image) → Run position text (images ++ image ∷ []) more
Run-push position text images rest line more image wanted is run first said = record {
  lines = run.lines ++ line ∷ [];
  in_step = InStep-push position run.lines images line image wanted is run.in_step first.unbroken said;
  text_is = run.text_is ∙ ap (λ t. text_of run.lines ++ t) first.text_is
      ∙ ap (λ t. text_of run.lines ++ t) (sym (append_assoc line (10 ∷ []) more))
      ∙ sym (append_assoc (text_of run.lines) (line ++ 10 ∷ []) more)
      ∙ ap (λ t. t ++ more) (sym (text_of-push run.lines line));
}

pub InStep-append : (position next : ℕ) (lines others : List (List ℕ)) (one other : List Image) → next ≡ position + length one → InStep position lines one → InStep next others other → InStep position (lines ++ others) (one ++ other)
InStep-append position next [] others [] other is first second =
    let here : next ≡ position = omega (arith, is) in subst (λ (n : ℕ). InStep n others other) here second
InStep-append position next [] others (image ∷ one) other is first second = absurd first
InStep-append position next (line ∷ lines) others [] other is first second = absurd first
InStep-append position next (line ∷ lines) others (image ∷ one) other is first second =
    (first.0, first.1, InStep-append (position + 1) next lines others one other (omega (arith, is)) first.2 second)

-- a run and then another are a run
pub Run-append : (position : ℕ) (text rest more : List ℕ) (one other : List Image) → Run position text one rest → Run (position + length one) rest other more → Run position text (one ++ other) more
Run-append position text rest more one other first second = record {
  lines = first.lines ++ second.lines;
  in_step = InStep-append position (position + length one) first.lines second.lines one other refl first.in_step second.in_step;
  text_is = first.text_is ∙ ap (λ t. text_of first.lines ++ t) second.text_is
      ∙ sym (append_assoc (text_of first.lines) (text_of second.lines) more)
      ∙ ap (λ t. t ++ more) (sym (text_of-append first.lines second.lines));
}

-- before the first line
pub Run-none : (position : ℕ) (text : List ℕ) → Run position text [] text
Run-none position text = record { lines = []; in_step = tt; text_is = ap (λ t. t ++ text) (sym text_of-nil) }

-- what a search for messages starts with
pub SoFar-none : (position : ℕ) (part : List ℕ) (images : List Image) (left : Option (List ℕ)) → images ≡ [] → IfSome left (λ text. SoFar position (part ++ text) images part left)
SoFar-none position part images None none = tt
SoFar-none position part images (Some text) none = rw none (record { rest = part ++ text; run = Run-none position (part ++ text); is_left = (text, refl, refl) })

-- what holds of what is left, of the rest of the text
pub on_rest : (rest part : List ℕ) (left : Option (List ℕ)) (P : List ℕ → Type 0) → IsLeft rest part left → IfSome left (λ text. P (part ++ text)) → P rest
on_rest rest part left P is told =
    let at : IfSome (Some is.0) (λ text. P (part ++ text)) = subst (λ (l : Option (List ℕ)). IfSome l (λ text. P (part ++ text))) is.1 told in
    subst P (sym is.2) at

-- one message more
pub SoFar-push : (position : ℕ) (front part now : List ℕ) (images : List Image) (found : NextMessage) (first left leaves : Option (List ℕ)) → found.at ≡ position + length images + 1
    → IfSome first (λ text. SoFar position (front ++ text) images part left) → IfSome left (λ text. IsNext (part ++ text) (Some found) now leaves)
    → IfSome first (λ text. SoFar position (front ++ text) (images ++ found.image ∷ []) now leaves)
SoFar-push position front part now images found None left leaves is so next = tt
SoFar-push position front part now images found (Some text) left leaves is so next =
    let (line, more, at, said, is_left) = on_rest so.rest part left (λ (t : List ℕ). IsNext t (Some found) now leaves) so.is_left next in
    record { rest = more; run = Run-push position (front ++ text) images so.rest line more found.image found.at is so.run at said; is_left = is_left }

-- before the first line none was seen
pub shown_none : (first : Option (List ℕ)) → OnSome first (Unit {0})
shown_none None = tt
shown_none (Some text) = tt

-- a newline that was seen after the next line is in the text
pub shown_on : (P : Type 0) (position : ℕ) (front part : List ℕ) (images : List Image) (first left : Option (List ℕ))
    → IfSome first (λ text. SoFar position (front ++ text) images part left) → OnSome left P → OnSome first P
shown_on P position front part images None left so shown = tt
shown_on P position front part images (Some text) left so shown =
    let told : OnSome (Some so.is_left.0) P = subst (λ (l : Option (List ℕ)). OnSome l P) so.is_left.1 shown in told

-- a text with a newline that was seen has a whole line
pub none_shown : (text part rest : List ℕ) (left : Option (List ℕ)) → left ≡ Some rest → text ≡ part ++ rest → HasShown true left → NoLine text → ⊥
none_shown text part rest left is whole shown none =
    let there : Contains rest 10 = subst (λ (l : Option (List ℕ)). IfSome l (λ bytes. Contains bytes 10)) is shown in
    All-contains (λ b. b ≢ 10) text 10 none.unbroken (subst (λ (t : List ℕ). Contains t 10) (sym whole) (Contains-append_right part rest 10 there)) refl

-- no whole line is left: none was seen, and there are too few messages
pub Batch-end : (least most position : ℕ) (front part now : List ℕ) (images : List Image) (more : Bool) (first left leaves : Option (List ℕ)) → length images ≤ most → (more ≡ false → length images < least)
    → OnSome first (HasShown more left) → IfSome first (λ text. SoFar position (front ++ text) images part left) → IfSome left (λ text. IsNext (part ++ text) None now leaves)
    → IfSome first (λ text. Batch least most position (front ++ text) images None now leaves)
Batch-end least most position front part now images more None left leaves within few shown so next = tt
Batch-end least most position front part now images true (Some text) left leaves within few shown so next =
    let (none, _) = on_rest so.rest part left (λ (t : List ℕ). NoLine t × IsLeft t now leaves) so.is_left next in
    absurd (none_shown so.rest part so.is_left.0 left so.is_left.1 so.is_left.2 shown none)
Batch-end least most position front part now images false (Some text) left leaves within few shown so next =
    let (none, is_left) = on_rest so.rest part left (λ (t : List ℕ). NoLine t × IsLeft t now leaves) so.is_left next in
    record { rest = so.rest; within = within; run = so.run; ends = (inr (few refl, none), is_left) }

-- the batch has enough
pub Batch-enough : (least most position : ℕ) (front part : List ℕ) (images : List Image) (first left : Option (List ℕ)) → least ≤ length images → length images ≤ most → part ≡ []
    → IfSome first (λ text. SoFar position (front ++ text) images part left) → IfSome first (λ text. Batch least most position (front ++ text) images None part left)
Batch-enough least most position front part images None left enough within taken so = tt
Batch-enough least most position front part images (Some text) left enough within taken so = record { rest = so.rest; within = within; run = so.run; ends = (inl (enough, taken), so.is_left) }

-- a fault follows
pub Batch-fault : (least most position wanted : ℕ) (front part now : List ℕ) (images : List Image) (fault : StreamFault) (first left leaves : Option (List ℕ)) → wanted ≡ position + length images + 1 → length images < most
    → IfSome first (λ text. SoFar position (front ++ text) images part left) → IfSome left (λ text. Stands wanted (part ++ text) fault)
    → IfSome first (λ text. Batch least most position (front ++ text) images (Some fault) now leaves)
Batch-fault least most position wanted front part now images fault None left leaves is few so stands = tt
Batch-fault least most position wanted front part now images fault (Some text) left leaves is few so stands =
    let at : Stands wanted so.rest fault = on_rest so.rest part left (λ (t : List ℕ). Stands wanted t fault) so.is_left stands in
    record { rest = so.rest; within = omega (arith, few); run = so.run; ends = (few, subst (λ (n : ℕ). Stands n so.rest fault) is at) }

-- memory ran out
pub Batch-memory : (least most position : ℕ) (front part now : List ℕ) (images : List Image) (first left leaves : Option (List ℕ)) → length images < most
    → IfSome first (λ text. SoFar position (front ++ text) images part left)
    → IfSome first (λ text. Batch least most position (front ++ text) images (Some Memory) now leaves)
Batch-memory least most position front part now images None left leaves few so = tt
Batch-memory least most position front part now images (Some text) left leaves few so = record { rest = so.rest; within = omega (arith, few); run = so.run; ends = (few, tt) }

in_step_none : (position : ℕ) (lines : List (List ℕ)) (images : List Image) → length images ≡ 0 → InStep position lines images → text_of lines ≡ []
in_step_none position [] [] none run = text_of-nil
in_step_none position (line ∷ lines) [] none run = absurd run
in_step_none position lines (image ∷ images) none run = absurd (omega (arith, none))

-- a fault with no message before it is at the start of the text
pub Stands-first : (least most position : ℕ) (part : List ℕ) (images : List Image) (fault : StreamFault) (now : List ℕ) (left leaves : Option (List ℕ)) → length images ≡ 0
    → IfSome left (λ text. Batch least most position (part ++ text) images (Some fault) now leaves) → IfSome left (λ text. Stands (position + 1) (part ++ text) fault)
Stands-first least most position part images fault now None leaves none batch = tt
Stands-first least most position part images fault now (Some text) leaves none batch =
    let all : part ++ text ≡ batch.rest = batch.run.text_is ∙ ap (λ t. t ++ batch.rest) (in_step_none position batch.run.lines images none batch.run.in_step) in
    let at : position + length images + 1 ≡ position + 1 = omega (arith, none) in
    subst (λ (t : List ℕ). Stands (position + 1) t fault) (sym all) (subst (λ (n : ℕ). Stands n batch.rest fault) at batch.ends.1)

-- what holds of the fault that a call passed on
pub passed_on : {T E : Type 0} (answer : Result T E) (fault : E) (P : E → Type 0) → IsErrAnd answer (λ other. other ≡ fault) → P fault → IfErr answer P
passed_on (Ok value) fault P is holds = tt
passed_on (Err other) fault P is holds = subst P (sym is) holds

-- What two calls give, one after another, is what one call gives.

-- where the second call ends, both end
both_end : (before fewest max count all position : ℕ) (rest : List ℕ) (fault : Option StreamFault) (piece : List ℕ) (leaves : Option (List ℕ)) → all ≡ before + count
    → Ends fewest max count (position + before) rest fault piece leaves → Ends (before + fewest) (before + max) all position rest fault piece leaves
both_end before fewest max count all position rest None piece leaves is ends = elim ends.0 [
  | inl enough ↦ (inl (omega (arith, is, enough.0), enough.1), ends.1)
  | inr few ↦ (inr (omega (arith, is, few.0), few.1), ends.1)
]
both_end before fewest max count all position rest (Some fault) piece leaves is ends =
    let at : position + before + count + 1 ≡ position + all + 1 = omega (arith, is) in
    (omega (arith, is, ends.0), subst (λ (n : ℕ). Stands n rest fault) at ends.1)

-- what one call gives and then another is what one call gives that asks for as many more
pub two_calls : (least most fewest max position : ℕ) (text part piece : List ℕ) (one other : List Image) (fault : Option StreamFault) (left leaves : Option (List ℕ))
    → Batch least most position text one None part left → IfSome left (λ rest. Batch fewest max (position + length one) (part ++ rest) other fault piece leaves)
    → Batch (length one + fewest) (length one + max) position text (one ++ other) fault piece leaves
two_calls least most fewest max position text part piece one other fault left leaves first told =
    let second = on_rest first.rest part left (λ (t : List ℕ). Batch fewest max (position + length one) t other fault piece leaves) first.ends.1 told in
    let all = length-append one other in
    record {
      rest = second.rest;
      within = omega (arith, all, second.within);
      run = Run-append position text first.rest second.rest one other first.run second.run;
      ends = both_end (length one) fewest max (length other) (length (one ++ other)) position second.rest fault piece leaves all second.ends;
    }

-- A publisher's first message is a batch of one, and what is read after it goes on with it.

-- one past the position before it is the position
pred_is : (n : ℕ) → 1 ≤ n → n ≡ pred n + 1
pred_is zero some = absurd (omega (arith, some))
pred_is (suc n) some = omega arith

least_position : (n : ℕ) → is_position n ≡ true → 1 ≤ n
least_position n in_range = grind (arith, (and_parts (nat_le 1 n) (nat_le n (10 ^ 15)) in_range).0)

-- the first message alone is a batch that begins just before it
pub Batch-first : (front now : List ℕ) (found : NextMessage) (images : List Image) (left leaves : Option (List ℕ)) → images ≡ found.image ∷ [] → now ≡ [] → is_position found.at ≡ true
    → IfSome left (λ text. IsNext (front ++ text) (Some found) now leaves) → IfSome left (λ text. Batch 1 1 (pred found.at) (front ++ text) images None now leaves)
Batch-first front now found images None leaves is taken in_range next = tt
Batch-first front now found images (Some text) leaves is taken in_range next =
    let (line, more, at, said, is_left) = next in
    let place : found.at ≡ pred found.at + 0 + 1 = omega (arith, pred_is found.at (least_position found.at in_range)) in
    let run : Run (pred found.at) (front ++ text) (found.image ∷ []) more =
    Run-push (pred found.at) (front ++ text) [] (front ++ text) line more found.image found.at place (Run-none (pred found.at) (front ++ text)) at said in
    rw is (record { rest = more; within = omega arith; run = run; ends = (inl (omega arith, taken), is_left) })

-- a batch of one message at `at`, and a batch after it, are one batch that begins just before the first
then_more : (least most at : ℕ) (front part piece : List ℕ) (one other : List Image) (fault : Option StreamFault) (first left leaves : Option (List ℕ)) → 1 ≤ at → length one ≡ 1
    → IfSome first (λ text. Batch 1 1 (pred at) (front ++ text) one None part left) → IfSome left (λ rest. Batch least most at (part ++ rest) other fault piece leaves)
    → IfSome first (λ text. Batch (1 + least) (1 + most) (pred at) (front ++ text) (one ++ other) fault piece leaves)
then_more least most at front part piece one other fault None left leaves some is begins told = tt
then_more least most at front part piece one other fault (Some text) left leaves some is begins told =
    let here : at ≡ pred at + length one = omega (arith, pred_is at some, is) in
    let next = subst (λ (n : ℕ). IfSome left (λ rest. Batch least most n (part ++ rest) other fault piece leaves)) here told in
    subst (λ (n : ℕ). Batch (n + least) (n + most) (pred at) (front ++ text) (one ++ other) fault piece leaves) is
    (two_calls 1 1 least most (pred at) (front ++ text) part piece one other fault left leaves begins next)

-- the first message and what a call gives after it are what one call gives that begins just before that message
pub one_run : {S : Type 0} (left : S → Option (List ℕ)) (may_fail : Type 0) (least most : ℕ) (old begun new : Stream S) (first next : DeliveryValue)
    → IsResumed left may_fail old (Ok (Some first)) begun → IsCall left may_fail least most begun (Ok next) new
    → IfSome (left old.source) (λ text. Batch (1 + least) (1 + most) (pred first.first) (old.part ++ text) (first.images ++ next.images) new.fault new.part (left new.source))
one_run left may_fail least most old begun new first next resumed call =
    let at : first.first ≡ begun.position = ap (λ (d : DeliveryValue). d.first) resumed.finds.value in
    subst (λ (n : ℕ). IfSome (left old.source) (λ text. Batch (1 + least) (1 + most) (pred n) (old.part ++ text) (first.images ++ next.images) new.fault new.part (left new.source))) (sym at)
    (then_more least most begun.position old.part begun.part new.part first.images next.images new.fault (left old.source) (left begun.source) (left new.source)
    resumed.finds.least resumed.finds.one resumed.finds.batch call.gives.batch)
