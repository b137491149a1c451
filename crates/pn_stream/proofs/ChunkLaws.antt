-- What is read of lines in chunks is what is read of them in one go.
use Rattle.std.proofs.Common.{◌≡◌, ◌≢◌, ℕ, suc, ◌+◌, ◌<◌, ◌≤◌, ◌^◌, All, List, [], ◌∷◌, ◌++◌, length, take, drop, get_or, Option, None, Some, IsSome, ◌⊎◌, inl, inr, refl, sym, ap, ◌∙◌, subst, arith, append_assoc, append-nil, length-append, take-append-drop, drop-cons}
use Rattle.std.proofs.Math.Seq.{drop-append_seam}
use Rattle.std.proofs.lemmas.List.{drop_all, take_more}
use Rattle.std.proofs.lemmas.List.Elements.{All-get_or}
use Rattle.pn_record.specs.declared.records.Image.{Image}
use Rattle.pn_stream.specs.Streams.{InStep, Refuses}
use Rattle.pn_stream.specs.Batches.{IsWhole, AddsMessage, StopsAt, IsRead}
use Rattle.pn_stream.specs.declared.fault.StreamFault.{StreamFault}
use Rattle.pn_stream.specs.declared.fault.StreamFault.TheVariants.{Read, LineTooLong, BadMessage, OutOfStep, Memory, Failed}
use Rattle.pn_stream.proofs.Runs.{InStep-push, InStep-append}
use Rattle.pn_stream.proofs.Steps.{position_within}

-- a line in step is one message
pub InStep-length : (position : ℕ) (lines : List (List ℕ)) (images : List Image) → InStep position lines images → length images ≡ length lines
InStep-length position [] [] run = refl
InStep-length position [] (image ∷ images) run = absurd run
InStep-length position (line ∷ lines) [] run = absurd run
InStep-length position (line ∷ lines) (image ∷ images) run = omega (arith, InStep-length (position + 1) lines images run.2)

-- messages in step have positions of a stream
pub InStep-within : (position : ℕ) (lines : List (List ℕ)) (images : List Image) → position ≤ 10 ^ 15 → InStep position lines images → position + length images ≤ 10 ^ 15
InStep-within position [] [] begin run = omega (arith, begin)
InStep-within position [] (image ∷ images) begin run = absurd run
InStep-within position (line ∷ lines) [] begin run = absurd run
InStep-within position (line ∷ lines) (image ∷ images) begin run =
    omega (arith, InStep-within (position + 1) lines images (position_within line (position + 1) image run.1) run.2)

-- ---- where reading stops

-- without a fault no line is left
pub none_left : (wanted : ℕ) (lines : List (List ℕ)) → StopsAt wanted lines None → lines ≡ []
none_left wanted [] stops = refl
none_left wanted (line ∷ lines) stops = absurd stops

-- a fault refuses a line that is there
stops_more : (wanted : ℕ) (lines more : List (List ℕ)) (fault : StreamFault) → StopsAt wanted lines (Some fault) → StopsAt wanted (lines ++ more) (Some fault)
stops_more wanted [] more fault stops = absurd stops
stops_more wanted (line ∷ lines) more fault stops = stops

-- memory may run out where a line is left
stops_for_memory : (wanted : ℕ) (lines : List (List ℕ)) → 0 < length lines → StopsAt wanted lines (Some Memory)
stops_for_memory wanted [] some = omega (arith, some)
stops_for_memory wanted (line ∷ lines) some = tt

some_left : (wanted : ℕ) (lines : List (List ℕ)) (fault : StreamFault) → StopsAt wanted lines (Some fault) → 0 < length lines
some_left wanted [] fault stops = absurd stops
some_left wanted (line ∷ lines) fault stops = omega arith

of_line : (wanted : ℕ) (lines : List (List ℕ)) (fault : StreamFault) → StopsAt wanted lines (Some fault) → (fault ≢ Read) × (fault ≢ Failed)
of_line wanted [] fault stops = absurd stops
of_line wanted (line ∷ lines) (BadMessage at fault) stops = (λ is. cc, λ is. cc)
of_line wanted (line ∷ lines) (OutOfStep named got) stops = (λ is. cc, λ is. cc)
of_line wanted (line ∷ lines) Memory stops = (λ is. cc, λ is. cc)
of_line wanted (line ∷ lines) Read stops = absurd stops
of_line wanted (line ∷ lines) LineTooLong stops = absurd stops
of_line wanted (line ∷ lines) Failed stops = absurd stops

module _ (position : ℕ) (lines : List (List ℕ)) (images : List Image) where
  -- the position that is due after the images
  abbrev due : ℕ
  due = position + length images + 1

  -- without a fault all lines are read
  pub all_in_step : IsRead position lines images None → InStep position lines images
  all_in_step read =
      let all : lines ≡ read.front = read.lines_are ∙ ap (λ ls. read.front ++ ls) (none_left due read.back read.stops) ∙ append-nil read.front in
      subst (λ (ls : List (List ℕ)). InStep position ls images) (sym all) read.in_step

  -- no more messages than lines
  pub no_more_images : (fault : Option StreamFault) → IsRead position lines images fault → length images ≤ length lines
  no_more_images fault read =
      let all : length lines ≡ length read.front + length read.back = ap length read.lines_are ∙ length-append read.front read.back in
      omega (arith, all, InStep-length position read.front images read.in_step)

  -- fewer where a fault comes
  pub fewer_images : (fault : StreamFault) → IsRead position lines images (Some fault) → length images < length lines
  fewer_images fault read =
      let all : length lines ≡ length read.front + length read.back = ap length read.lines_are ∙ length-append read.front read.back in
      omega (arith, all, InStep-length position read.front images read.in_step, some_left due read.back fault read.stops)

  pub read_within : (fault : Option StreamFault) → position ≤ 10 ^ 15 → IsRead position lines images fault → position + length images ≤ 10 ^ 15
  read_within fault begin read = InStep-within position read.front images begin read.in_step

  -- a fault is one of a line
  pub fault_of_line : (fault : StreamFault) → IsRead position lines images (Some fault) → (fault ≢ Read) × (fault ≢ Failed)
  fault_of_line fault read = of_line due read.back fault read.stops

-- what is read of the same lines
pub read_same : (position : ℕ) (shown lines : List (List ℕ)) (images : List Image) (fault : Option StreamFault) → shown ≡ lines → IsRead position shown images fault → IsRead position lines images fault
read_same position shown lines images fault is read = subst (λ (ls : List (List ℕ)). IsRead position ls images fault) is read

-- ---- one line after another

-- before the first line
pub read_none : (position : ℕ) (lines : List (List ℕ)) (images : List Image) → images ≡ [] → InStep position (take 0 lines) images
read_none position lines images none = rw none tt

-- one line more
pub read_more : (position : ℕ) (lines : List (List ℕ)) (images new : List Image) (i wanted : ℕ) (line : List ℕ) → All IsWhole lines → i < length lines → line ≡ get_or lines i line → wanted ≡ position + length images + 1
    → InStep position (take i lines) images → AddsMessage wanted line images new → InStep position (take (i + 1) lines) new
read_more position lines images new i wanted line whole within is at run adds =
    let one : IsWhole line = subst IsWhole (sym is) (All-get_or IsWhole lines i line within whole) in
    let grown : take (i + 1) lines ≡ take i lines ++ line ∷ [] = take_more lines i line within ∙ ap (λ l. take i lines ++ l ∷ []) (sym is) in
    rw (grown, adds.grown) (InStep-push position (take i lines) images line adds.image wanted at run one.unbroken adds.said)

-- at the end
pub read_all : (position : ℕ) (lines : List (List ℕ)) (images : List Image) (i : ℕ) → length lines ≤ i → InStep position (take i lines) images → IsRead position lines images None
read_all position lines images i end run = record {
  front = take i lines;
  back = drop i lines;
  lines_are = sym (take-append-drop i lines);
  in_step = run;
  stops = subst (λ (ls : List (List ℕ)). StopsAt (position + length images + 1) ls None) (sym (drop_all i lines end)) tt;
}

-- at a line that is refused
pub read_until : (position : ℕ) (lines : List (List ℕ)) (images : List Image) (i wanted : ℕ) (line : List ℕ) (fault : StreamFault) → i < length lines → line ≡ get_or lines i line → wanted ≡ position + length images + 1
    → InStep position (take i lines) images → Refuses wanted line fault → IsRead position lines images (Some fault)
read_until position lines images i wanted line fault within is at run refused =
    let rest : drop i lines ≡ line ∷ drop (suc i) lines = drop-cons lines i line within ∙ ap (λ l. l ∷ drop (suc i) lines) (sym is) in
    record {
      front = take i lines;
      back = drop i lines;
      lines_are = sym (take-append-drop i lines);
      in_step = run;
      stops = subst (λ (ls : List (List ℕ)). StopsAt (position + length images + 1) ls (Some fault)) (sym rest) (subst (λ (n : ℕ). Refuses n line fault) at refused);
    }

-- ---- one chunk after another

-- what is read of later lines follows
pub later_follow : (position : ℕ) (low high : List (List ℕ)) (one other : List Image) (fault : Option StreamFault)
    → IsRead position low one None → IsRead (position + length low) high other fault → IsRead position (low ++ high) (one ++ other) fault
later_follow position low high one other fault first second =
    let all : InStep position low one = all_in_step position low one first in
    let count : length one ≡ length low = InStep-length position low one all in
    let both : length (one ++ other) ≡ length one + length other = length-append one other in
    let at : position + length low + length other + 1 ≡ position + length (one ++ other) + 1 = omega (arith, count, both) in
    record {
      front = low ++ second.front;
      back = second.back;
      lines_are = ap (λ ls. low ++ ls) second.lines_are ∙ sym (append_assoc low second.front second.back);
      in_step = InStep-append position (position + length low) low second.front one other (omega (arith, count)) all second.in_step;
      stops = subst (λ (n : ℕ). StopsAt n second.back fault) at second.stops;
    }

-- a fault hides what is read of later lines
pub fault_hides : (position : ℕ) (low high : List (List ℕ)) (one : List Image) (fault : StreamFault) → IsRead position low one (Some fault) → IsRead position (low ++ high) one (Some fault)
fault_hides position low high one fault first = record {
  front = first.front;
  back = first.back ++ high;
  lines_are = ap (λ ls. ls ++ high) first.lines_are ∙ append_assoc first.front first.back high;
  in_step = first.in_step;
  stops = stops_more (position + length one + 1) first.back high fault first.stops;
}

-- memory ran out between them
memory_between : (position : ℕ) (low high : List (List ℕ)) (one : List Image) → 0 < length high → IsRead position low one None → IsRead position (low ++ high) one (Some Memory)
memory_between position low high one some first = record {
  front = low;
  back = high;
  lines_are = refl;
  in_step = all_in_step position low one first;
  stops = stops_for_memory (position + length one + 1) high some;
}

-- a chunk and what follows it, put together
pub read_together : (position next : ℕ) (lines low high : List (List ℕ)) (one other all : List Image) (first second fault : Option StreamFault)
    → lines ≡ low ++ high → next ≡ position + length low → 0 < length high → IsRead position low one first → IsRead next high other second
    → (IsSome first → (all ≡ one) × (fault ≡ first)) → (first ≡ None → ((all ≡ one ++ other) × (fault ≡ second)) ⊎ ((all ≡ one) × (fault ≡ Some Memory)))
    → IsRead position lines all fault
read_together position next lines low high one other all (Some early) second fault whole at some front back hidden follows =
    let is = hidden refl in rw (whole, is.0, is.1) (fault_hides position low high one early front)
read_together position next lines low high one other all None second fault whole at some front back hidden follows =
    let later : IsRead (position + length low) high other second = subst (λ (n : ℕ). IsRead n high other second) at back in
    elim (follows refl) [
      | inl is ↦ rw (whole, is.0, is.1) (later_follow position low high one other second front later)
      | inr is ↦ rw (whole, is.0, is.1) (memory_between position low high one some front)
    ]

-- what is read from the line on that memory ran out for, put together with what was read before
pub read_on : (position next count : ℕ) (lines left : List (List ℕ)) (one other all : List Image) (second fault : Option StreamFault)
    → left ≡ drop count lines → count ≡ length one → next ≡ position + count → IsRead position lines one (Some Memory) → IsRead next left other second
    → ((all ≡ one ++ other) × (fault ≡ second)) ⊎ ((all ≡ one) × (fault ≡ Some Memory)) → IsRead position lines all fault
read_on position next count lines left one other all second fault cut is at first later both =
    let same : count ≡ length first.front = is ∙ InStep-length position first.front one first.in_step in
    let rest : left ≡ first.back = cut ∙ ap (λ n. drop n lines) same ∙ ap (λ ls. drop (length first.front) ls) first.lines_are ∙ drop-append_seam first.front first.back in
    let front : IsRead position first.front one None = record { front = first.front; back = []; lines_are = sym (append-nil first.front); in_step = first.in_step; stops = tt } in
    let numbers : next ≡ position + length first.front = omega (arith, at, same) in
    let back : IsRead (position + length first.front) first.back other second =
    subst (λ (n : ℕ). IsRead n first.back other second) numbers (subst (λ (ls : List (List ℕ)). IsRead next ls other second) rest later)
    in
    elim both [
      | inl so ↦ rw (so.0, so.1) (subst (λ (ls : List (List ℕ)). IsRead position ls (one ++ other) second) (sym first.lines_are) (later_follow position first.front first.back one other second front back))
      | inr so ↦ rw (so.0, so.1) first
    ]
