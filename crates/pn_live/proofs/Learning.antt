-- Readers of tablets, one after another: what they learn, and that they know no more than is published.
use Rattle.std.proofs.Common.{◌≡◌, ℕ, zero, suc, ◌+◌, ◌<◌, ◌≤◌, List, [], ◌∷◌, length, drop, map, set, get_or, sym, ap, ◌∙◌, subst, arith, refl}
use Rattle.std.proofs.lemmas.List.{length-map}
use Rattle.std.specs.List.{AllByRecursion}
use Rattle.pn_join.specs.Marks.{Positions}
use Rattle.pn_tablet.specs.Layouts.{Ends}
use Rattle.pn_tablet.specs.Tablets.{TabletStateValue, empty_tablet}
use Rattle.pn_apply.specs.Reducing.{ranges}
use Rattle.pn_region.specs.Regions.{AreTabletsOf, ArePartsOf}
use Rattle.pn_live.specs.PublishedTablets.{TabletNoteValue, PublishedTabletValue, state_at}
use Rattle.pn_live.specs.Readers.{TabletReaderValue, Learns, AllLearn, AreOfTablets, AllKnowPublished, LiveReaderValue, Tablets, AreTabletReadersOf, ReadsFrom}
use Rattle.pn_live.proofs.Appending.{DoneFirst, done_at, done_more, within_of, first_of}
use Rattle.pn_live.specs.LiveRegions.{LiveRegionValue, IsReaderIn}
use Rattle.pn_live.proofs.ListLaws.{range_kept}

-- Tablet readers that learn notes, one after another.

abbrev LearntFirst : ℕ → List TabletReaderValue → List TabletNoteValue → List TabletReaderValue → Type 0
LearntFirst n olds notes news = DoneFirst Learns n olds notes news

abbrev SameBooks : List TabletNoteValue → List TabletReaderValue → Type 0
SameBooks notes readers = map (λ note. note.book) notes ≡ map (λ reader. reader.book) readers

pub note_count : (notes : List TabletNoteValue) (readers : List TabletReaderValue) → SameBooks notes readers → length notes ≡ length readers
note_count notes readers same = sym (length-map notes (λ (n : TabletNoteValue). n.book)) ∙ (ap length same ∙ length-map readers (λ (w : TabletReaderValue). w.book))

book_at : (notes : List TabletNoteValue) (readers : List TabletReaderValue) (n : ℕ) (note : TabletNoteValue) (reader : TabletReaderValue) → SameBooks notes readers → n < length readers
    → (get_or notes n note).book ≡ (get_or readers n reader).book
book_at [] [] n note reader same within = absurd (omega arith)
book_at [] (w ∷ readers) n note reader same within = absurd (cc same)
book_at (m ∷ notes) [] n note reader same within = absurd (omega arith)
book_at (m ∷ notes) (w ∷ readers) zero note reader same within = cc same
book_at (m ∷ notes) (w ∷ readers) (suc n) note reader same within = book_at notes readers n note reader (cc same) (omega arith)

pub all_learnt : (n : ℕ) (olds : List TabletReaderValue) (notes : List TabletNoteValue) (news : List TabletReaderValue) → SameBooks notes olds → LearntFirst n olds notes news → length notes ≤ n → AllLearn olds notes news
all_learnt zero [] [] news same done past = subst (λ (ws : List TabletReaderValue). AllLearn [] [] ws) (sym done) tt
all_learnt zero [] (note ∷ notes) news same done past = absurd (omega arith)
all_learnt zero (old ∷ olds) [] news same done past = absurd (cc same)
all_learnt zero (old ∷ olds) (note ∷ notes) news same done past = absurd (omega arith)
all_learnt (suc n) [] notes news same done past = absurd done
all_learnt (suc n) (old ∷ olds) [] news same done past = absurd done
all_learnt (suc n) (old ∷ olds) (note ∷ notes) [] same done past = absurd done
all_learnt (suc n) (old ∷ olds) (note ∷ notes) (new ∷ news) same done past = (done.0, all_learnt n olds notes news (cc same) done.1 (omega arith))

-- the first `n` have learnt, and a note is left
module _ (olds : List TabletReaderValue) (notes : List TabletNoteValue) (same : SameBooks notes olds) (n : ℕ) (news : List TabletReaderValue) (so_far : LearntFirst n olds notes news)
    (note : TabletNoteValue) (rest : List TabletNoteValue) (left : note ∷ rest ≡ drop n notes) where
  pub note_within : n < length olds
  note_within = omega (arith, within_of notes n note rest left, note_count notes olds same)

  reader_before : (reader : TabletReaderValue) → reader ≡ get_or news n reader → reader ≡ get_or olds n reader
  reader_before reader at = at ∙ done_at Learns n olds notes news reader so_far

  pub own_book : (reader : TabletReaderValue) → reader ≡ get_or news n reader → note.book ≡ reader.book
  own_book reader at =
      ap (λ (m : TabletNoteValue). m.book) (first_of notes n note rest left)
      ∙ (book_at notes olds n note reader same note_within ∙ sym (ap (λ (w : TabletReaderValue). w.book) (reader_before reader at)))

  pub one_learnt : (reader new : TabletReaderValue) → reader ≡ get_or news n reader → Learns reader note new → LearntFirst (n + 1) olds notes (set news n new)
  one_learnt reader new at learns =
      done_more Learns n olds notes news reader note new so_far note_within (within_of notes n note rest left) (reader_before reader at) (first_of notes n note rest left) learns

-- Readers that know no more than is published, one after another.

none_known : (tablets : List PublishedTabletValue) → AreOfTablets tablets [] → AllKnowPublished tablets []
none_known [] of = tt
none_known (p ∷ tablets) of = absurd of

pub known_none : (tablets : List PublishedTabletValue) (ws : List TabletReaderValue) → ws ≡ [] → AreOfTablets tablets ws → AllKnowPublished tablets ws
known_none tablets ws none of = subst (AllKnowPublished tablets) (sym none) (none_known tablets (subst (AreOfTablets tablets) none of))

-- readers of the same tablets and ranges are of these tablets
pub of_tablets : (tablets : List PublishedTabletValue) (readers : List TabletReaderValue) → map (λ (w : TabletReaderValue). w.book) readers ≡ map (λ (p : PublishedTabletValue). p.book) tablets
    → map (λ (w : TabletReaderValue). w.range) readers ≡ map (λ (p : PublishedTabletValue). p.range) tablets → AreOfTablets tablets readers
of_tablets [] [] books ranges = tt
of_tablets [] (w ∷ readers) books ranges = absurd (cc books)
of_tablets (p ∷ tablets) [] books ranges = absurd (cc books)
of_tablets (p ∷ tablets) (w ∷ readers) books ranges = (record { book = cc books; range = cc ranges }, of_tablets tablets readers (cc books) (cc ranges))

pub parts_of_tablets : (marks : Positions) (rs : List Ends) (ts : List TabletStateValue) → AreTabletsOf marks rs ts → ArePartsOf marks rs ts
parts_of_tablets marks [] [] are = tt
parts_of_tablets marks [] (t ∷ ts) are = absurd are
parts_of_tablets marks (r ∷ rs) [] are = absurd are
parts_of_tablets marks (r ∷ rs) (t ∷ ts) are = (record { range = are.0.range; covered = are.0.covered }, parts_of_tablets marks rs ts are.1)

pub tablet_readers_of_tablets : (tablets : List PublishedTabletValue) (reader : LiveReaderValue) → ReadsFrom tablets reader → AreTabletReadersOf reader.layout reader.tablet_readers → AreOfTablets tablets reader.tablet_readers
tablet_readers_of_tablets tablets reader reads own = of_tablets tablets reader.tablet_readers reads.books (own ∙ reads.ends)

-- readers of a live region read its tablets
pub all_read : (live : LiveRegionValue) (readers : List LiveReaderValue) → map (λ (p : PublishedTabletValue). p.range) live.tablets ≡ ranges live.layout → AllByRecursion (IsReaderIn live) readers
    → AllByRecursion (ReadsFrom live.tablets) readers
all_read live [] own all = tt
all_read live (reader ∷ readers) own all = (
  record { books = ap (λ (t : Tablets). t.books) all.0; ends = ap (λ (t : Tablets). ranges t.layout) all.0 ∙ sym own },
  all_read live readers own all.1,
)

pub ranges_of_tablets : (tablets : List PublishedTabletValue) → map (λ (t : TabletStateValue). t.range) (map state_at tablets) ≡ map (λ (p : PublishedTabletValue). p.range) tablets
ranges_of_tablets [] = refl
ranges_of_tablets (p ∷ tablets) = λ i. range_kept (empty_tablet p.range) p.list i ∷ ranges_of_tablets tablets i
