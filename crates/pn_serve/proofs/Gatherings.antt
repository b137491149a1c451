-- What streams and their mailboxes give, one after another, and faults that are passed on.
use Rattle.std.proofs.Common.{List, [], ◌∷◌, ◌++◌, map, ◌≡◌, refl, sym, ap, subst, IfErr, true, false, ◌≤◌, Option, ℕ, ◌∙◌, Bool, if◌then◌else◌, None, Some, IfSome, inl, inr, append-nil}
use Rattle.std.specs.Prelude.{Result, IsErrAnd, Ok, Err, IsErr, IfOk, OnOk, OnErr, MatchResult}
use Rattle.std.proofs.lemmas.Result.{err_from_is_err_and}
use Rattle.std.specs.List.{Contains, All}
use Rattle.std.proofs.lemmas.List.Elements.{Contains-append_right, Contains-append_left, Contains-push, All-append, All-nil, All-push, Contains-append_cases}
use Rattle.pn_join.specs.Marks.{Positions, position_of}
use Rattle.pn_stream.specs.Batches.{Stream}
use Rattle.pn_region.specs.Rounds.{leaves_gap}
use Rattle.pn_serve.specs.declared.server.fault_log.ServeFault.{ServeFault}
use Rattle.pn_serve.specs.Server.Reports.{names_of, is_fault, messages_of}
use Rattle.pn_serve.specs.Server.Publishers.{EndsStream, IsTakenWhole, IsSent, IsSentReport}
use Rattle.pn_serve.specs.declared.server.fault_log.ServeFault.TheVariants.{Stream as of_stream}
use Rattle.pn_serve.specs.declared.server.reporting.StreamEnd.{StreamEnd}
use Rattle.pn_serve.specs.Server.Rounds.{Note, IsInputOf, IsOwn, first_fault, goes_on, no_input, still_read, with_report, with_notes, RoundInputValue}
use Rattle.pn_serve.specs.declared.server.reports.Report.{Report}
use Rattle.pn_serve.specs.declared.server.reports.Report.TheVariants.{Messages, End, Fault}

-- Lists that grow, and faults that are passed on.

pub map_push : {A B : Type 0} (f : A → B) (xs : List A) (x : A) → map f (xs ++ x ∷ []) ≡ map f xs ++ f x ∷ []
map_push f [] x = refl
map_push f (y ∷ xs) x = ap (λ l. f y ∷ l) (map_push f xs x)

-- what holds of a fault that is passed on
pub passed_on : {T : Type 0} (P : ServeFault → Type 0) (fault : ServeFault) (result : Result T ServeFault) → IsErrAnd result (λ other. other ≡ fault) → P fault → IfErr result P
passed_on {T} P fault result answered holds =
    let (other, is, same) = err_from_is_err_and result answered in
    subst (λ (r : Result T ServeFault). IfErr r P) (sym is) (subst P (sym same) holds)

-- Streams of threads, and what is answered of them.

-- the stream of a thread was taken to its end
pub taken_by : {S : Type 0} (left : S → Option (List ℕ)) (marks : Positions) (stream : Stream S) (ended : Result StreamEnd (List ℕ)) (result : Result (Unit {0}) ServeFault) → EndsStream left stream ended
    → OnOk result (IfOk ended (λ end. end.last ≤ position_of marks end.name)) → OnErr ended (IsErr result) → OnOk result (IsTakenWhole left marks stream)
taken_by left marks stream ended (Err fault) ends reached whole = tt
taken_by left marks stream (Err name) (Ok done) ends reached whole = let no : false ≡ true = whole in absurd (cc)
taken_by left marks stream (Ok end) (Ok done) ends reached whole = record { last = end.last; whole = ends.1; reached = subst (λ (name : List ℕ). end.last ≤ position_of marks name) ends.0 reached }

-- a thread's fault names its stream
pub named_by : {S : Type 0} (left : S → Option (List ℕ)) (stream : Stream S) (ended : Result StreamEnd (List ℕ)) (fault : ServeFault) → EndsStream left stream ended
    → MatchResult ended (λ end. fault ≡ of_stream end.name) (λ name. fault ≡ of_stream name) → fault ≡ of_stream stream.name
named_by left stream (Ok end) fault ends is = is ∙ ap of_stream ends.0
named_by left stream (Err name) fault ends is = is ∙ ap of_stream ends

-- a thread's stream is one of the streams
pub is_one : {S T : Type 0} (stream_of : T → Stream S) (threads yielded rest : List T) (thread : T) → yielded ++ thread ∷ rest ≡ threads → Contains (names_of (map stream_of threads)) (stream_of thread).name
is_one {S} {T} stream_of threads yielded rest thread is = subst (λ (ts : List T). Contains (names_of (map stream_of ts)) (stream_of thread).name) is (there yielded)
  where
    there : (ts : List T) → Contains (names_of (map stream_of (ts ++ thread ∷ rest))) (stream_of thread).name
    there [] = Contains-append_left ((stream_of thread).name ∷ []) (names_of (map stream_of rest)) (stream_of thread).name (Contains-push [] (stream_of thread).name)
    there (t ∷ ts) = Contains-append_right ((stream_of t).name ∷ []) (names_of (map stream_of (ts ++ thread ∷ rest))) (stream_of thread).name (there ts)

-- What mailboxes give, one after another.

-- one more note
pub notes_push : (marks : Positions) (input : RoundInputValue) (notes : List Note) (note : Note) → with_notes marks input (notes ++ note ∷ []) ≡ with_report marks (with_notes marks input notes) note.name note.report
notes_push marks input [] note = refl
notes_push marks input (first ∷ notes) note = notes_push marks (with_report marks input first.name first.report) notes note

joined : (test : Bool) (name : List ℕ) (names more : List (List ℕ)) → (if test then name ∷ (names ++ more) else (names ++ more)) ≡ (if test then name ∷ names else names) ++ more
joined true name names more = refl
joined false name names more = refl

-- the streams that go on after one more note
pub read_push : (marks : Positions) (notes : List Note) (note : Note) → still_read marks (notes ++ note ∷ []) ≡ still_read marks notes ++ (if goes_on marks note.report then note.name ∷ [] else [])
read_push marks [] note = refl
read_push marks (first ∷ notes) note =
    ap (λ (names : List (List ℕ)). if goes_on marks first.report then first.name ∷ names else names) (read_push marks notes note)
    ∙ joined (goes_on marks first.report) first.name (still_read marks notes) (if goes_on marks note.report then note.name ∷ [] else [])

-- no stream was asked yet
pub asked_none : (marks : Positions) (input : RoundInputValue) (left : List (List ℕ)) → input ≡ no_input → left ≡ [] → IsInputOf [] marks input left
asked_none marks input left none nobody = record { notes = []; of_streams = refl; own = All-nil IsOwn; together = none; going_on = nobody }

asked_more : (names : List (List ℕ)) (marks : Positions) (input : RoundInputValue) (left still : List (List ℕ)) (note : Note) → IsInputOf names marks input left → IsOwn note
    → still ≡ left ++ (if goes_on marks note.report then note.name ∷ [] else []) → IsInputOf (names ++ note.name ∷ []) marks (with_report marks input note.name note.report) still
asked_more names marks input left still note is own pending = record {
  notes = is.notes ++ note ∷ [];
  of_streams = map_push (λ (n : Note). n.name) is.notes note ∙ ap (λ (ns : List (List ℕ)). ns ++ note.name ∷ []) is.of_streams;
  own = All-push IsOwn is.notes note is.own own;
  together = ap (λ (v : RoundInputValue). with_report marks v note.name note.report) is.together ∙ sym (notes_push marks no_input is.notes note);
  going_on = pending ∙ ap (λ (ns : List (List ℕ)). ns ++ (if goes_on marks note.report then note.name ∷ [] else [])) is.going_on ∙ sym (read_push marks is.notes note);
}

-- one more stream was asked, and goes on
pub asked_on : (names : List (List ℕ)) (marks : Positions) (input : RoundInputValue) (left : List (List ℕ)) (note : Note) → IsInputOf names marks input left → IsOwn note → goes_on marks note.report ≡ true
    → IsInputOf (names ++ note.name ∷ []) marks (with_report marks input note.name note.report) (left ++ note.name ∷ [])
asked_on names marks input left note is own on =
    asked_more names marks input left (left ++ note.name ∷ []) note is own (ap (λ (test : Bool). left ++ (if test then note.name ∷ [] else [])) (sym on))

-- one more stream was asked, and has ended
pub asked_off : (names : List (List ℕ)) (marks : Positions) (input : RoundInputValue) (left : List (List ℕ)) (note : Note) → IsInputOf names marks input left → IsOwn note → goes_on marks note.report ≡ false
    → IsInputOf (names ++ note.name ∷ []) marks (with_report marks input note.name note.report) left
asked_off names marks input left note is own off =
    asked_more names marks input left left note is own (sym (append-nil left) ∙ ap (λ (test : Bool). left ++ (if test then note.name ∷ [] else [])) (sym off))

-- a stream that goes on is one of those that were asked
still_named : (marks : Positions) (notes : List Note) (name : List ℕ) → Contains (still_read marks notes) name → Contains (map (λ (note : Note). note.name) notes) name
still_named marks [] name there = there
still_named marks (note ∷ notes) name there = at (goes_on marks note.report) (still_named marks notes name) there
  where
    at : (test : Bool) → (Contains (still_read marks notes) name → Contains (map (λ (n : Note). n.name) notes) name) → Contains (if test then note.name ∷ still_read marks notes else still_read marks notes) name
        → Contains (note.name ∷ map (λ (n : Note). n.name) notes) name
    at true others found = elim (Contains-append_cases (note.name ∷ []) (still_read marks notes) name found) [
      | inl here ↦ Contains-append_left (note.name ∷ []) (map (λ (n : Note). n.name) notes) name here
      | inr later ↦ Contains-append_right (note.name ∷ []) (map (λ (n : Note). n.name) notes) name (others later)
    ]
    at false others found = Contains-append_right (note.name ∷ []) (map (λ (n : Note). n.name) notes) name (others found)

pub left_named : (names : List (List ℕ)) (marks : Positions) (input : RoundInputValue) (left : List (List ℕ)) (name : List ℕ) → IsInputOf names marks input left → Contains left name → Contains names name
left_named names marks input left name is there =
    subst (λ (ns : List (List ℕ)). Contains ns name) is.of_streams (still_named marks is.notes name (subst (λ (ns : List (List ℕ)). Contains ns name) is.going_on there))

named_if : (names : List (List ℕ)) (name : List ℕ) (test : Bool) → Contains names name → IfSome (if test then Some name else None) (Contains names)
named_if names name true there = there
named_if names name false there = tt

named_first : (names : List (List ℕ)) (before : Option (List ℕ)) (name : List ℕ) (test : Bool) → Contains names name → IfSome before (Contains names) → IfSome (first_fault before name test) (Contains names)
named_first names (Some other) name test there known = known
named_first names None name test there known = named_if names name test there

named_on : (names : List (List ℕ)) (marks : Positions) (input : RoundInputValue) (name : List ℕ) (report : Option Report) → Contains names name → IfSome input.fault (Contains names)
    → IfSome (with_report marks input name report).fault (Contains names)
named_on names marks input name None there known = known
named_on names marks input name (Some report) there known = named_first names input.fault name (is_fault marks report) there known

known_by : (names : List (List ℕ)) (marks : Positions) (notes : List Note) (input : RoundInputValue) → ((name : List ℕ) → Contains (map (λ (note : Note). note.name) notes) name → Contains names name)
    → IfSome input.fault (Contains names) → IfSome (with_notes marks input notes).fault (Contains names)
known_by names marks [] input among known = known
known_by names marks (note ∷ notes) input among known =
    let others = map (λ (n : Note). n.name) notes in
    known_by names marks notes (with_report marks input note.name note.report) (λ name there. among name (Contains-append_right (note.name ∷ []) others name there))
    (named_on names marks input note.name note.report (among note.name (Contains-append_left (note.name ∷ []) others note.name (Contains-push [] note.name))) known)

-- a fault is of one of the streams that were asked
pub fault_named : (names : List (List ℕ)) (marks : Positions) (input : RoundInputValue) (left : List (List ℕ)) → IsInputOf names marks input left → IfSome input.fault (Contains names)
fault_named names marks input left is =
    subst (λ (v : RoundInputValue). IfSome v.fault (Contains names)) (sym is.together)
    (known_by names marks is.notes no_input (λ name there. subst (λ (ns : List (List ℕ)). Contains ns name) is.of_streams there) tt)

-- the messages of a report that goes on were sent
sent_of : (known : Type 0) (sends : List ℕ → List ℕ → Type 0) (marks : Positions) (report : Report) → IsSentReport known sends report → All (IsSent known sends) (messages_of marks report)
sent_of known sends marks (Messages messages) sent = at (leaves_gap marks messages.delivery)
  where
    at : (gap : Bool) → All (IsSent known sends) (if gap then [] else messages.delivery ∷ [])
    at true = All-nil (IsSent known sends)
    at false = All-push (IsSent known sends) [] messages.delivery (All-nil (IsSent known sends)) sent
sent_of known sends marks (End name) sent = All-nil (IsSent known sends)
sent_of known sends marks (Fault name) sent = All-nil (IsSent known sends)

-- so were all, with those of one more report
pub sent_on : (known : Type 0) (sends : List ℕ → List ℕ → Type 0) (marks : Positions) (input : RoundInputValue) (name : List ℕ) (report : Option Report) → All (IsSent known sends) input.deliveries
    → IfSome report (IsSentReport known sends) → All (IsSent known sends) (with_report marks input name report).deliveries
sent_on known sends marks input name None all sent = all
sent_on known sends marks input name (Some report) all sent = All-append (IsSent known sends) input.deliveries (messages_of marks report) all (sent_of known sends marks report sent)
