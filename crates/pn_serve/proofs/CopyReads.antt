-- The copies of texts that were read, as they are added.
use Rattle.std.proofs.Common.{◌≡◌, ◌≢◌, ℕ, suc, ◌+◌, true, false, Bool, if◌then◌else◌, Option, Some, inl, inr, ap₂, ◌≤◌, ◌<◌, List, [], ◌∷◌, ◌++◌, ◌⊎◌, length, map, Result, Ok, Err, refl, sym, ap, ◌∙◌, subst, append_assoc, arith}
use Rattle.std.proofs.lemmas.List.{map-append, length-append, length-map}
use Rattle.std.specs.Fork.{GivesJobs}
use Rattle.std.specs.Fn.{FnReturns}
use Rattle.std.specs.Prelude.{IfErr}
use Rattle.std.specs.Result.{IsErrAnd}
use denote.Param.Members.{Shared}
use Rattle.pn_json.specs.Answers.{IsUnless}
use Rattle.pn_tablet.specs.Copies.{TabletCopyValue}
use Rattle.pn_tablet.specs.declared.layout.TheConstants.{MAX_BOUNDS}
use Rattle.pn_tablet.specs.declared.fault.CopyTextFault.{CopyTextFault}
use Rattle.pn_tablet.specs.declared.fault.CopyTextFault.TheVariants as text_fault
use Rattle.pn_tablet.specs.CopyReading.{copy_at}
use Rattle.pn_serve.specs.Copies.Cutting.{AreCuts, CopyCutValue, IsCut, TextLeft}
use Rattle.pn_serve.specs.Copies.Reading.{AreAdded, AreRead, CopiesReaderValue, HasRead, StopsAt, StopsReading, StopsText, copy_in_cut, read_in, told_in}
use Rattle.pn_serve.specs.Copies.Faulty.{AreCutsToFault}
use Rattle.pn_serve.proofs.CopyCuts.{are_whole, none_faulty, read_alike}
use Rattle.pn_serve.proofs.CopyTexts.{cuts-append}
use Rattle.pn_serve.specs.declared.copies.fault.CopiesFault.{CopiesFault}
use Rattle.pn_serve.specs.declared.copies.fault.CopiesFault.TheVariants.{Line, Memory, NoCopy, Read, TooMany, TooManyStreams, TwoCopies, Unequal}

-- these of the copies that were read were added, and the rest is to come
pub record AddedSoFar (reads : List (Result TabletCopyValue CopiesFault)) (old new : List TabletCopyValue) (rest : List (Result TabletCopyValue CopiesFault)) : Type 0 where
  pub added : List TabletCopyValue
  pub reads_are : reads ≡ map Ok added ++ rest
  pub copies_are : new ≡ old ++ added

pub one_added : (reads : List (Result TabletCopyValue CopiesFault)) (old copies new : List TabletCopyValue) (read : Result TabletCopyValue CopiesFault) (copy : TabletCopyValue) (rest : List (Result TabletCopyValue CopiesFault))
    → AddedSoFar reads old copies (read ∷ rest) → read ≡ Ok copy → new ≡ copies ++ copy ∷ [] → AddedSoFar reads old new rest
one_added reads old copies new read copy rest so_far is grown = record {
  added = so_far.added ++ copy ∷ [];
  reads_are = so_far.reads_are ∙ ap (λ (r : Result TabletCopyValue CopiesFault). map Ok so_far.added ++ r ∷ rest) is ∙ sym (append_assoc (map Ok so_far.added) (Ok copy ∷ []) rest)
      ∙ ap (λ (l : List (Result TabletCopyValue CopiesFault)). l ++ rest) (sym (map-append Ok so_far.added (copy ∷ [])));
  copies_are = grown ∙ ap (λ (l : List TabletCopyValue). l ++ copy ∷ []) so_far.copies_are ∙ append_assoc old so_far.added (copy ∷ []);
}

pub stops : (reads : List (Result TabletCopyValue CopiesFault)) (old copies : List TabletCopyValue) (read : Result TabletCopyValue CopiesFault) (rest : List (Result TabletCopyValue CopiesFault)) (fault : CopiesFault)
    → AddedSoFar reads old copies (read ∷ rest)
    → ((fault ≡ TooMany) × (MAX_BOUNDS + 1 ≤ length copies)) ⊎ ((read ≡ Err fault) × (length copies < MAX_BOUNDS + 1)) → StopsAt reads old fault
stops reads old copies read rest fault so_far why = record {
  before = so_far.added;
  read = read;
  later = rest;
  reads_are = so_far.reads_are;
  why = subst (λ (l : List TabletCopyValue). ((fault ≡ TooMany) × (MAX_BOUNDS + 1 ≤ length l)) ⊎ ((read ≡ Err fault) × (length l < MAX_BOUNDS + 1))) so_far.copies_are why;
}

-- a call for each text gives what each was read as
pub all_read : {F : Type 0} (g : Shared F (CopyCutValue × Unit {0}) (Result TabletCopyValue CopiesFault)) (f : F) (cuts : List CopyCutValue) (reads : List (Result TabletCopyValue CopiesFault))
    → ((cut : CopyCutValue) (read : Result TabletCopyValue CopiesFault) → FnReturns g f (cut, tt) read → IsUnless Memory read (copy_in_cut cut))
    → length reads ≡ length cuts → GivesJobs g f cuts reads → AreRead cuts reads
all_read g f [] [] each same gives = tt
all_read g f [] (read ∷ reads) each same gives = absurd (omega (arith, same))
all_read g f (cut ∷ cuts) [] each same gives = absurd (omega (arith, same))
all_read g f (cut ∷ cuts) (read ∷ reads) each same gives =
    let first = (gives 0 read (omega arith)).1 in (
      each cut read (subst (λ (job : CopyCutValue). FnReturns g f (job, tt) read) (sym (first.job_is cut)) first.call),
      all_read g f cuts reads each (omega (arith, same)) (λ i d below.
          let at = (gives (suc i) d (omega (arith, below))).1 in
          (refl, record { job = at.job; job_read = at.job_read; job_is = at.job_is; call = at.call })),
    )

-- where all were read, they are the copies of the texts
are_all : (cuts : List CopyCutValue) (added : List TabletCopyValue) → AreRead cuts (map Ok added) → map copy_in_cut cuts ≡ map Ok added
are_all [] [] are = refl
are_all [] (copy ∷ added) are = absurd are
are_all (cut ∷ cuts) [] are = absurd are
are_all (cut ∷ cuts) (copy ∷ added) are = ap₂ (λ (r : Result TabletCopyValue CopiesFault) (rs : List (Result TabletCopyValue CopiesFault)). r ∷ rs) are.0 (are_all cuts added are.1)

-- the copies of some texts and of others
copies_on : (cuts more : List CopyCutValue) (copies added : List TabletCopyValue) → map copy_in_cut cuts ≡ map Ok copies → map copy_in_cut more ≡ map Ok added
    → map copy_in_cut (cuts ++ more) ≡ map Ok (copies ++ added)
copies_on cuts more copies added one other =
    map-append copy_in_cut cuts more ∙ ap₂ (λ (l r : List (Result TabletCopyValue CopiesFault)). l ++ r) one other ∙ sym (map-append Ok copies added)

-- before the first text none was read
pub new_read : {S : Type 0} (left : S → Option (List ℕ)) (text : List ℕ) (reader : CopiesReaderValue S) → left reader.source ≡ Some text → reader.next ≡ 1 → reader.copies ≡ [] → HasRead left text reader
new_read left text reader is next none = record {
  cuts = [];
  rest = text;
  are_cuts = ap (λ n. record { next = n; bytes = text }) (sym next);
  left_is = is;
  copies_are = ap (λ (l : List TabletCopyValue). map Ok l) (sym none);
}

-- what next_texts says
abbrev pub CutsOut : {S : Type 0} → (S → Option (List ℕ)) → S → ℕ → List CopyCutValue → S → ℕ → Type 0
CutsOut left source next some later after =
    (bytes : List ℕ) → left source ≡ Some bytes → (rest : List ℕ) × (left later ≡ Some rest) × AreCutsToFault (record { next = next; bytes = bytes }) some (record { next = after; bytes = rest })

pub read_more : {S : Type 0} (left : S → Option (List ℕ)) (text : List ℕ) (old new : CopiesReaderValue S) (some : List CopyCutValue) (reads : List (Result TabletCopyValue CopiesFault))
    → CutsOut left old.source old.next some new.source new.next → AreRead some reads → AreAdded reads old.copies new.copies → HasRead left text old → HasRead left text new
read_more left text old new some reads cuts are added has =
    let (rest, left_is, more) = cuts has.rest has.left_is in
    let read : AreRead some (map Ok added.added) = subst (AreRead some) added.reads_are are in
    record {
      cuts = has.cuts ++ some;
      rest = rest;
      are_cuts = cuts-append _ has.cuts _ some _ has.are_cuts (none_faulty _ some _ added.added more read);
      left_is = left_is;
      copies_are = copies_on has.cuts some old.copies added.added has.copies_are (are_all some added.added read)
          ∙ ap (λ (l : List TabletCopyValue). map Ok l) (sym added.copies_are);
    }

as_many : (cuts : List CopyCutValue) (reads : List (Result TabletCopyValue CopiesFault)) → AreRead cuts reads → length cuts ≡ length reads
as_many [] [] are = refl
as_many [] (read ∷ reads) are = absurd are
as_many (cut ∷ cuts) [] are = absurd are
as_many (cut ∷ cuts) (read ∷ reads) are = omega (arith, as_many cuts reads are.1)

pub grows : (some : List CopyCutValue) (reads : List (Result TabletCopyValue CopiesFault)) (old new : List TabletCopyValue) → 1 ≤ length some → AreRead some reads → AreAdded reads old new → length old < length new
grows some reads old new one are added =
    omega (arith, one, as_many some reads are, ap length added.reads_are, length-map {B = Result TabletCopyValue CopiesFault} added.added Ok, ap length added.copies_are, length-append old added.added)

-- the texts before the one at which reading stops, and that one
record Split (left : TextLeft) (before : List TabletCopyValue) (read : Result TabletCopyValue CopiesFault) : Type 0 where
  cuts : List CopyCutValue
  cut : CopyCutValue
  between : TextLeft
  later : TextLeft
  are_cuts : AreCuts left cuts between
  is_cut : IsCut between cut later
  copies_are : map copy_in_cut cuts ≡ map Ok before
  read_is : IsUnless Memory read (copy_in_cut cut)

split : (some : List CopyCutValue) (before : List TabletCopyValue) (read : Result TabletCopyValue CopiesFault) (later : List (Result TabletCopyValue CopiesFault)) (left last : TextLeft)
    → AreCuts left some last → AreRead some (map Ok before ++ read ∷ later) → Split left before read
split [] [] read later left last are reads = absurd reads
split [] (copy ∷ before) read later left last are reads = absurd reads
split (cut ∷ some) [] read later left last are reads = record { cuts = []; cut = cut; between = left; later = are.0; are_cuts = refl; is_cut = are.1; copies_are = refl; read_is = reads.0 }
split (cut ∷ some) (copy ∷ before) read later left last are reads =
    let more = split some before read later are.0 last are.2 reads.1 in
    record {
      cuts = cut ∷ more.cuts;
      cut = more.cut;
      between = more.between;
      later = more.later;
      are_cuts = (are.0, are.1, more.are_cuts);
      is_cut = more.is_cut;
      copies_are = ap₂ (λ (r : Result TabletCopyValue CopiesFault) (rs : List (Result TabletCopyValue CopiesFault)). r ∷ rs) reads.0 more.copies_are;
      read_is = more.read_is;
    }

-- the fault of a text, or that it is one too many
why_stops : (old before : List TabletCopyValue) (cut : CopyCutValue) (read : Result TabletCopyValue CopiesFault) (fault : CopiesFault) → fault ≢ Memory → IsUnless Memory read (copy_in_cut cut)
    → ((fault ≡ TooMany) × (MAX_BOUNDS + 1 ≤ length (old ++ before))) ⊎ ((read ≡ Err fault) × (length (old ++ before) < MAX_BOUNDS + 1))
    → ((fault ≡ TooMany) × (MAX_BOUNDS + 1 ≤ length (old ++ before))) ⊎ ((copy_in_cut cut ≡ Err fault) × (length (old ++ before) < MAX_BOUNDS + 1))
why_stops old before cut read fault other is (inl many) = inl many
why_stops old before cut read fault other is (inr (read_is, few)) =
    inr ((subst (λ (r : Result TabletCopyValue CopiesFault). IsUnless Memory r (copy_in_cut cut)) read_is is) other, few)

stops_text : {S : Type 0} (left : S → Option (List ℕ)) (text : List ℕ) (old : CopiesReaderValue S) (later : S) (after : ℕ) (some : List CopyCutValue) (reads : List (Result TabletCopyValue CopiesFault)) (fault : CopiesFault)
    → fault ≢ Memory → CutsOut left old.source old.next some later after → AreRead some reads → StopsAt reads old.copies fault → HasRead left text old → StopsText text fault
stops_text left text old later after some reads fault other cuts are at has =
    let (rest, left_is, more) = cuts has.rest has.left_is in
    let whole = are_whole _ some _ more in
    let read : AreRead whole.cuts (map Ok at.before ++ at.read ∷ at.later) = read_alike whole.cuts some _ whole.same (subst (AreRead some) at.reads_are are) in
    let found = split whole.cuts at.before at.read at.later _ _ whole.are_cuts read in
    record {
      cuts = has.cuts ++ found.cuts;
      copies = old.copies ++ at.before;
      cut = found.cut;
      between = found.between;
      later = found.later;
      are_cuts = cuts-append _ has.cuts _ found.cuts _ has.are_cuts found.are_cuts;
      copies_are = copies_on has.cuts found.cuts old.copies at.before has.copies_are found.copies_are;
      is_cut = found.is_cut;
      why = why_stops old.copies at.before found.cut at.read fault other found.read_is at.why;
    }

-- no text has an error of the reader as its fault
no_read_ok : (cut : CopyCutValue) (copy : TabletCopyValue) (long : Bool) → (if long then Err (told_in cut text_fault.BadEnd) else Ok copy) ≢ Err Read
no_read_ok cut copy true = λ is. cc
no_read_ok cut copy false = λ is. cc

no_read : (cut : CopyCutValue) (read : Result TabletCopyValue CopyTextFault) → read_in cut read ≢ Err Read
no_read cut (Ok copy) = no_read_ok cut copy cut.is_too_long
no_read cut (Err (text_fault.BadLine n)) = λ is. cc
no_read cut (Err (text_fault.OutsideRange n)) = λ is. cc
no_read cut (Err (text_fault.NotRising n)) = λ is. cc
no_read cut (Err text_fault.BadEnd) = λ is. cc
no_read cut (Err text_fault.Truncated) = λ is. cc
no_read cut (Err text_fault.Memory) = λ is. cc

no_read_stops : (text : List ℕ) → StopsText text Read → ⊥
no_read_stops text stops = elim stops.why [ inl many ↦ (let is = many.0 in cc) | inr read ↦ no_read stops.cut (copy_at stops.cut.text) read.0 ]

pub at_fault : (may_fail : Type 0) (text : List ℕ) (fault : CopiesFault) → (fault ≢ Memory → StopsText text fault) → StopsReading may_fail text fault
at_fault may_fail text Memory stops = tt
at_fault may_fail text Read stops = absurd (no_read_stops text (stops (λ is. cc)))
at_fault may_fail text (Line n fault) stops = stops (λ is. cc)
at_fault may_fail text TooMany stops = stops (λ is. cc)
at_fault may_fail text (NoCopy key) stops = stops (λ is. cc)
at_fault may_fail text (TwoCopies key) stops = stops (λ is. cc)
at_fault may_fail text TooManyStreams stops = stops (λ is. cc)
at_fault may_fail text (Unequal n why) stops = stops (λ is. cc)

pub stopped : {S : Type 0} (left : S → Option (List ℕ)) (may_fail : Type 0) (text : List ℕ) (old : CopiesReaderValue S) (later : S) (after : ℕ) (some : List CopyCutValue) (reads : List (Result TabletCopyValue CopiesFault)) (fault : CopiesFault)
    → CutsOut left old.source old.next some later after → AreRead some reads → (fault ≢ Memory → StopsAt reads old.copies fault) → HasRead left text old → StopsReading may_fail text fault
stopped left may_fail text old later after some reads fault cuts are at has =
    at_fault may_fail text fault (λ other. stops_text left text old later after some reads fault other cuts are (at other) has)

-- what holds of the fault that a call passed on
pub passed_on : {A B : Type 0} (answer : Result A B) (fault : B) (P : B → Type 0) → IsErrAnd answer (λ other. other ≡ fault) → P fault → IfErr answer P
passed_on (Ok value) fault P is holds = tt
passed_on (Err other) fault P is holds = subst P (sym is) holds
