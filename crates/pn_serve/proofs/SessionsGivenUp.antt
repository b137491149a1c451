-- A lookup of a session that is given up, as where memory runs out.
use Rattle.std.specs.Prelude.{◌≡◌, ℕ, List, [], ◌∷◌, ◌++◌, length, map, take, false, Option, Result, Ok, Err}
use Rattle.std.proofs.Common.{inl, inr, refl, sym, ap, ◌∙◌, subst, arith, append-nil}
use Rattle.std.proofs.lemmas.Bool.{cases_lt}
use Rattle.std.proofs.lemmas.Bool.Decides.{nat_tests}
use Rattle.std.proofs.lemmas.List.{length-map}
use Rattle.pn_tablet.specs.Layouts.{Bounds, tablet_of}
use Rattle.pn_tablet.specs.Steps.{Refuses}
use Rattle.pn_scan.specs.Pages.{unless}
use Rattle.pn_scan.specs.Paging.{Gaps, IsOnPage, IsPreorder, LookMade, Moving, looks_in}
use Rattle.pn_scan.specs.Views.{cells_of_keys, is_memory}
use Rattle.pn_scan.specs.declared.view.ScanFault.{ScanFault}
use Rattle.pn_scan.specs.declared.view.ScanFault.TheVariants.{Memory as look_memory}
use Rattle.pn_scan.proofs.Paging.{gaps_more, page_without_memory, scanned}
use Rattle.pn_scan.proofs.Scans.{none_refused_front}
use Rattle.pn_lines.specs.Handling.{Replied}
use Rattle.pn_lines.specs.declared.handler.EndedBy.{EndedBy}
use Rattle.pn_lines.specs.declared.handler.EndedBy.TheVariants.{Newline, Input}
use Rattle.pn_live.specs.Lookups.{EndsGet, GetWalkValue, IsOnGet}
use Rattle.pn_live.specs.Readers.{LiveReaderValue, LooksLive}
use Rattle.pn_protocol.proofs.CommandLines.{too_long}
use Rattle.pn_protocol.specs.Command.Lines.{is_too_long, lookup_at}
use Rattle.pn_protocol.specs.Command.Meaning.{CommandValue, adopt, copy, deliver, get, lose, marks, notices, read, relayout, scan, tablets}
use Rattle.pn_protocol.specs.declared.refusal.Refusal.{Refusal}
use Rattle.pn_protocol.specs.declared.refusal.Refusal.TheVariants.{Memory}
use Rattle.pn_protocol.specs.declared.reply.Reply.{Reply}
use Rattle.pn_protocol.specs.declared.reply.Reply.TheVariants.{Refused}
use Rattle.pn_serve.proofs.GoingOn.{got_by}
use Rattle.pn_serve.specs.Lines.{Replies, by_end, replied_of}
use Rattle.pn_serve.specs.Session.Lines.{AnswersLine, EndsLines, LooksUp, Tells}
use Rattle.pn_serve.specs.Session.Resuming.{LooksFor, LooksForLast, LooksOn}
use Rattle.pn_serve.specs.declared.sessions.pending_lookup.PendingLookup.{PendingLookup}
use Rattle.pn_serve.specs.declared.sessions.pending_lookup.PendingLookup.TheVariants.{Page, Keys, Copy}

ok_is_no_fault : (command : CommandValue) (refusal : Refusal) → Ok command ≡ Err refusal → ⊥
ok_is_no_fault command refusal is = cc

-- a line that is a command is not too long
not_long : (line : List ℕ) (command : CommandValue) → lookup_at line ≡ Ok command → is_too_long line ≡ false
not_long line command said = elim (cases_lt 65536 (length line)) [
  | inl long ↦ absurd (ok_is_no_fault command _ (sym said ∙ too_long _ line long))
  | inr short ↦ grind (arith, nat_tests)
]

-- memory that runs out while keys are read ends the get
keys_without_memory : (bounds : Bounds) (walk : GetWalkValue) (trace : List (LookMade LiveReaderValue)) → IsOnGet bounds walk trace → EndsGet bounds walk.keys (Err look_memory) trace
keys_without_memory bounds walk trace on =
    let size : length (looks_in trace) ≡ walk.read = length-map trace (λ made. made.look) ∙ on.count in record {
      made = on.made;
      found = on.found;
      order = on.order ∙ ap (λ n. map (tablet_of bounds) (take n walk.keys)) (sym size);
      only = λ n inside. none_refused_front n (looks_in trace) on.none_refused;
      answers = subst (λ (o : Option ScanFault). Refuses is_memory look_memory (unless o (cells_of_keys walk.keys (looks_in trace)))) (sym on.none_refused) refl;
      whole = tt;
    }

abbrev no_looks : List (LookMade LiveReaderValue)
no_looks = []

-- a line was answered, after what came between
record After (moves : Moving LiveReaderValue) (does : LiveReaderValue → List ℕ → LiveReaderValue → Reply → Type 0) (was : LiveReaderValue) (text : List ℕ) (now : LiveReaderValue) : Type 0 where
  between : LiveReaderValue
  moved : moves was between
  made : does between text now (Refused Memory)

module _ (moves : Moving LiveReaderValue) (pre : IsPreorder moves) where
  module _ (was between now : LiveReaderValue) (moved : moves between now) where
    -- nothing was looked at
    refused_at_once : (text : List ℕ) (command : CommandValue) → lookup_at text ≡ Ok command → moves was between → After moves (AnswersLine moves) was text now
    refused_at_once text command said gap = record { between = now; moved = pre.goes_on was between now gap moved; made = inr (not_long text command said, (refl, refl)) }

    -- the line was answered by what was looked at
    refused_after : (text : List ℕ) (command : CommandValue) → lookup_at text ≡ Ok command → LooksUp moves was command now (Refused Memory) → After moves (AnswersLine moves) was text now
    refused_after text command said up = record { between = was; moved = pre.stays was; made = inl (subst (λ (r : Result CommandValue Refusal). Tells moves was r now (Refused Memory)) (sym said) up) }

    up_given_up : (text : List ℕ) (command : CommandValue) (pending : PendingLookup) → lookup_at text ≡ Ok command → LooksOn moves was command between pending → After moves (AnswersLine moves) was text now
    up_given_up text (scan query) (Page asked walk) said on = by on.1.0 on.1.1 on.1.2
      where
        by : (trace : List (LookMade LiveReaderValue)) → IsOnPage LooksLive was.layout query walk trace → Gaps moves was trace between → After moves (AnswersLine moves) was text now
        by [] at gaps = refused_at_once text (scan query) said gaps
        by (one ∷ trace) at gaps =
            let more = (one ∷ trace) ++ no_looks in
            let there = scanned moves LooksLive was.layout query was now (Err look_memory) more (page_without_memory at (omega arith)) (gaps_more moves was between now now (one ∷ trace) [] pre gaps moved refl) in
            refused_after text (scan query) said record { seen = looks_in more; answer = Err look_memory; reached = there.0; scanned = there.1; moved = there.2; shows = refl }
    up_given_up text (get keys) (Keys walk) said on =
        let more = on.1.0 ++ no_looks in
        let ends = subst (λ (l : List (LookMade LiveReaderValue)). EndsGet was.layout keys (Err look_memory) l) (sym (append-nil on.1.0))
        (subst (λ (ks : List (List ℕ)). EndsGet was.layout ks (Err look_memory) on.1.0) on.0 (keys_without_memory was.layout walk on.1.0 on.1.1)) in
        let there = got_by moves was now was.layout keys (Err look_memory) more ends (gaps_more moves was between now now on.1.0 [] pre on.1.2 moved refl) in
        refused_after text (get keys) said record { seen = looks_in more; answer = Err look_memory; reached = there.0; got = there.1; moved = there.2; shows = refl }
    up_given_up text (copy need tablet) (Copy count) said on =
        refused_after text (copy need tablet) said (inl record { within = on.within; found = on.found; answer = Ok count.copy; reached = on.reached; copied = on.copied; moved = pre.goes_on on.reached between now on.moved moved; shows = inr refl })
    up_given_up text (scan query) (Keys walk) said on = absurd on
    up_given_up text (scan query) (Copy count) said on = absurd on
    up_given_up text (get keys) (Page asked walk) said on = absurd on
    up_given_up text (get keys) (Copy count) said on = absurd on
    up_given_up text (copy need tablet) (Page asked walk) said on = absurd on
    up_given_up text (copy need tablet) (Keys walk) said on = absurd on
    up_given_up text (read key wanted) pending said on = absurd on
    up_given_up text (adopt lines) pending said on = absurd on
    up_given_up text (deliver deliveries) pending said on = absurd on
    up_given_up text (lose tablet) pending said on = absurd on
    up_given_up text marks pending said on = absurd on
    up_given_up text (notices since) pending said on = absurd on
    up_given_up text (relayout bounds) pending said on = absurd on
    up_given_up text tablets pending said on = absurd on

    line_given_up : (text : List ℕ) (pending : PendingLookup) → LooksFor moves was text between pending → After moves (AnswersLine moves) was text now
    line_given_up text pending looks = up_given_up text looks.command pending looks.reads looks.so_far

    last_given_up : (text : List ℕ) (pending : PendingLookup) → LooksForLast moves was text between pending → After moves (EndsLines moves) was text now
    last_given_up [] pending looks = absurd looks
    last_given_up (b ∷ text) pending looks = let after = line_given_up (b ∷ text) pending looks in record { between = after.between; moved = after.moved; made = after.made }

    -- the line is left refused
    pub given_up : (ended : EndedBy) (text : List ℕ) (pending : PendingLookup) → by_end (LooksFor moves) (LooksForLast moves) was ended text between pending
        → (replied : Replied) × ((first : LiveReaderValue) × moves was first × Replies (AnswersLine moves) (EndsLines moves) first ended text now replied)
    given_up Newline text pending looks =
        let after = line_given_up text pending looks in
        (replied_of (Refused Memory), (after.between, after.moved, record { reply = Refused Memory; shown = refl; made = after.made }))
    given_up Input text pending looks =
        let after = last_given_up text pending looks in
        (replied_of (Refused Memory), (after.between, after.moved, record { reply = Refused Memory; shown = refl; made = after.made }))
