-- How states are stored in a proof, and what may become of a handler twice may become of it once.
use Rattle.std.specs.Prelude.{◌≡◌, ℕ, List, Option, None, Some, refl, Bool}
use Rattle.std.proofs.Common.{ap, subst, ◌∙◌}
use Rattle.std.specs.Coded.{Coded, code_by, coded×, coded_ℕ, coded_list, coded_option, coded_bool}
use Rattle.pn_tablet.specs.Copies.{TabletCopyValue}
use Rattle.pn_tablet.specs.Proofs.{copy_code}
use Rattle.pn_scan.specs.Paging.{Moving, Stays}
use Rattle.pn_region.specs.Proofs.{region_code, entry_code}
use Rattle.pn_region.specs.Regions.{RegionValue}
use Rattle.pn_region.specs.declared.notices.Entry.{Entry}
use Rattle.pn_lines.specs.Handling.{GivesUp, by, IsPreorder, Replied}
use Rattle.pn_lines.specs.declared.handler.EndedBy.{EndedBy}
use Rattle.pn_live.specs.Proofs.{reader_code}
use Rattle.pn_live.specs.Readers.{LiveReaderValue}
use Rattle.pn_live.proofs.Knowing.{all_know_themselves, all_know_on}
use Rattle.pn_serve.specs.Machine.Outcomes.{Mode, awaits_command, announced, Machine}
use Rattle.pn_serve.specs.Control.Lines.{ControlState, KeepsKnowing}
use Rattle.pn_serve.specs.Copies.Reading.{CopiesReaderValue}
use Rattle.pn_serve.specs.Lines.{Replies}
use Rattle.pn_serve.specs.Session.Resuming.{KeepsReader, alone_reads, reader_of, reads_by, reads_lines, KnowsNoLess}
use Rattle.pn_serve.specs.Session.Lines.{AnswersLine, EndsLines}
use Rattle.pn_serve.specs.declared.sessions.AloneReader.{AloneReader}

-- How the states of a machine are stored in a proof.

-- a mode as what was announced
abbrev pub mode_in : Mode → Option (ℕ × Option (List ℕ))
mode_in awaits_command = None
mode_in (announced left text) = Some (left, text)

abbrev pub mode_from : Option (ℕ × Option (List ℕ)) → Mode
mode_from None = awaits_command
mode_from (Some (left, text)) = announced left text

abbrev pub same_mode : (mode : Mode) → mode_from (mode_in mode) ≡ mode
same_mode awaits_command = refl
same_mode (announced left text) = refl

abbrev pub mode_code : Coded Mode
mode_code = code_by (Option (ℕ × Option (List ℕ))) (coded_option (coded× coded_ℕ (coded_option (coded_list coded_ℕ)))) mode_in mode_from same_mode

-- a machine as its mode, its region and its log
abbrev pub machine_code : Coded Machine
machine_code =
    code_by ((Mode × RegionValue) × List Entry) (coded× (coded× mode_code region_code) (coded_list entry_code))
    (λ m. ((m.mode, m.region), m.log))
    (λ p. record { mode = p.0.0; region = p.0.1; log = p.1 })
    (λ _. refl)

-- How the state of a control session is stored in a proof.

-- its reader and its mode, and how it is to end
abbrev pub control_code : Coded ControlState
control_code =
    code_by ((LiveReaderValue × Mode) × (Option ℕ × Bool)) (coded× (coded× reader_code mode_code) (coded× (coded_option coded_ℕ) coded_bool))
    (λ s. ((s.reader, s.mode), (s.stop, s.over)))
    (λ p. record { reader = p.0.0; mode = p.0.1; stop = p.1.0; over = p.1.1 })
    (λ _. refl)

-- How readers of copies are stored in a proof.

-- a reader of copies as its source, the number of the next line and its copies
abbrev pub copies_reader_code : {S : Type 0} → Coded S → Coded (CopiesReaderValue S)
copies_reader_code {S = S} code =
    code_by ((S × ℕ) × List TabletCopyValue) (coded× (coded× code coded_ℕ) (coded_list copy_code))
    (λ r. ((r.source, r.next), r.copies))
    (λ p. record { source = p.0.0; next = p.0.1; copies = p.1 })
    (λ _. refl)

-- What may become of a handler twice may become of it once.

-- a reader knows what it knows, and never less
pub knows_itself : (reader : LiveReaderValue) → KnowsNoLess reader reader
knows_itself reader = record { tablets = refl; known = all_know_themselves reader.tablet_readers }

pub knows_on : (a b c : LiveReaderValue) → KnowsNoLess a b → KnowsNoLess b c → KnowsNoLess a c
knows_on a b c p q = record {
  tablets = q.tablets ∙ p.tablets;
  known = all_know_on a.tablet_readers b.tablet_readers c.tablet_readers p.known q.known;
}

pub knows_steadily : IsPreorder KnowsNoLess
knows_steadily = record { stays = knows_itself; goes_on = knows_on }

-- and so that of a control session
pub controls_know : IsPreorder KeepsKnowing
controls_know = record { stays = λ state. knows_itself state.reader; goes_on = λ a b c first second. knows_on a.reader b.reader c.reader first second }

-- what stays as it is may stay so twice
pub stays_steadily : {V : Type 0} → IsPreorder {V = V} Stays
stays_steadily {V} = record { stays = λ v. refl; goes_on = λ a b c first second. second ∙ first }

-- of a handler nothing is kept
pub forgets_steadily : {V : Type 0} → IsPreorder {V = V} (λ old new. Unit {0})
forgets_steadily {V} = record { stays = λ v. tt; goes_on = λ a b c first second. tt }

-- a handler that is alone, and begins no line
pub alone_steadily : {V G : Type 0} (answers : V → EndedBy → List ℕ → V → Replied → Type 0) (closed : V → Type 0) (keeps : V → V → Type 0) → IsPreorder keeps
    → IsPreorder {V = V} Stays × IsPreorder keeps × GivesUp (by {V = V} {G = G} Stays answers (λ _ _ _ _ _. ⊥) closed)
alone_steadily answers closed keeps kept = (stays_steadily, kept, λ was between now ended line pending begun moved. absurd begun)

-- a reader, by what may become of it in between
pub reads_steadily : (moves : Moving LiveReaderValue) → IsPreorder moves → IsPreorder moves × IsPreorder KnowsNoLess × GivesUp (reads_lines moves)
reads_steadily moves steady = (
  steady,
  knows_steadily,
  λ was between now ended text pending looks moved. (let up = looks.gives_up now moved in (up.0, record { between = up.1.0; moved = up.1.1; answered = up.1.2 })),
)

-- a handler that has its reader alone
module _ {V : Type 0} (see : V → LiveReaderValue) where
  alone_given_up : GivesUp (reads_by see)
  alone_given_up was between now ended text pending looks moved =
      let up = looks.gives_up (see now) (ap see moved) in
      (up.0, record { between = was; moved = refl; answered = subst (λ (reader : LiveReaderValue). Replies (AnswersLine Stays) (EndsLines Stays) reader ended text (see now) up.0) up.1.1 up.1.2 })

pub alone_reads_steadily : IsPreorder {V = AloneReader} Stays × IsPreorder KeepsReader × GivesUp alone_reads
alone_reads_steadily = (
  stays_steadily,
  record { stays = λ alone. (knows_itself alone.reader.now, refl); goes_on = λ a b c first second. (knows_on a.reader.now b.reader.now c.reader.now first.0 second.0, second.1 ∙ first.1) },
  alone_given_up reader_of,
)
