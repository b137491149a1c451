-- What readers know only grows, by looks and by entries into tablets.
use Rattle.std.proofs.Common.{◌≡◌, ℕ, zero, suc, List, [], ◌∷◌, map, set, refl, sym, ap, ◌∙◌, subst, Option, Some, None, ◌+◌, ◌<◌, ◌≤◌, length, get_or, Result, arith}
use Rattle.std.specs.Prelude.{slice_get, IfSome}
use Rattle.std.proofs.Math.Seq.{map-set_same}
use Rattle.std.proofs.lemmas.List.{length-map}
use Rattle.std.proofs.lemmas.Option.{slice_get_read}
use Rattle.std.proofs.lemmas.List.FromFn.{length-map-range_with_len, get_or-map-range_with_len}
use mathlib.Core.List.{IsPrefix}
use Rattle.logbook.specs.Pages.{Book}
use Rattle.pn_join.specs.Marks.{Positions}
use Rattle.pn_tablet.specs.Layouts.{Ends, Bounds, tablet_ends}
use Rattle.pn_tablet.specs.Tablets.{TabletStateValue, empty_tablet}
use Rattle.pn_tablet.specs.Copies.{TabletCopyValue}
use Rattle.pn_tablet.specs.declared.counted_cells.RecordCounts.{RecordCounts}
use Rattle.pn_tablet.specs.declared.fault.CopyFault.{CopyFault}
use Rattle.pn_scan.specs.Pages.{Look}
use Rattle.pn_scan.specs.Views.{Looks, LooksOnce, IsFoundIn}
use Rattle.pn_scan.specs.declared.view.ScanFault.{ScanFault}
use Rattle.pn_apply.proofs.Turns.{mapped_at}
use Rattle.pn_region.specs.Regions.{IsSound}
use Rattle.pn_live.specs.Laws.{AllKnowMore}
use Rattle.pn_live.specs.PublishedTablets.{TabletNoteValue}
use Rattle.pn_live.specs.Readers.{LiveReaderValue, LooksLive, tablets_of, AreTabletReadersOf, TabletReaderValue, Sees, Finds, Learns, AllLearn, KnowsMore, IsOneLook, left_by}
use Rattle.pn_live.proofs.Prefixes.{begins_itself, begins_on}
use Rattle.pn_live.specs.Lookups.{IsOneCopy, IsCopied, IsOneCount, IsCounted}
use Rattle.pn_live.specs.Published.{found_by}
use Rattle.pn_live.specs.declared.read_guard.ReadGuard.{ReadGuard}
use Rattle.pn_live.proofs.ListLaws.{range_kept}

-- What readers know only grows.

pub knows_itself : (w : TabletReaderValue) → KnowsMore w w
knows_itself w = record { book = refl; range = refl; seen = begins_itself w.seen; learnt = begins_itself w.learnt }

pub knows_on : (a b c : TabletReaderValue) → KnowsMore a b → KnowsMore b c → KnowsMore a c
knows_on a b c p q = record {
  book = q.book ∙ p.book;
  range = q.range ∙ p.range;
  seen = begins_on a.seen b.seen c.seen p.seen q.seen;
  learnt = begins_on a.learnt b.learnt c.learnt p.learnt q.learnt;
}

finding_knows : (old : TabletReaderValue) (state : TabletStateValue) (new : TabletReaderValue) → Finds old state new → KnowsMore old new
finding_knows old state new found = record {
  book = ap (λ (w : TabletReaderValue). w.book) found.same;
  range = ap (λ (w : TabletReaderValue). w.range) found.same;
  seen = found.seen;
  learnt = subst (IsPrefix old.learnt) (sym (ap (λ (w : TabletReaderValue). w.learnt) found.same)) (begins_itself old.learnt);
}

pub seeing_knows : (old : TabletReaderValue) (found : Option TabletStateValue) (new : TabletReaderValue) → Sees old found new → KnowsMore old new
seeing_knows old None new sees = subst (KnowsMore old) (sym sees) (knows_itself old)
seeing_knows old (Some state) new sees = finding_knows old state new sees

pub learning_knows : (old : TabletReaderValue) (note : TabletNoteValue) (new : TabletReaderValue) → Learns old note new → KnowsMore old new
learning_knows old note new learns = record {
  book = ap (λ (w : TabletReaderValue). w.book) learns.same;
  range = ap (λ (w : TabletReaderValue). w.range) learns.same;
  seen = subst (IsPrefix old.seen) (sym (ap (λ (w : TabletReaderValue). w.seen) learns.same)) (begins_itself old.seen);
  learnt = learns.learnt;
}

pub all_know_themselves : (ws : List TabletReaderValue) → AllKnowMore ws ws
all_know_themselves [] = tt
all_know_themselves (w ∷ ws) = (knows_itself w, all_know_themselves ws)

pub all_know_on : (xs ys zs : List TabletReaderValue) → AllKnowMore xs ys → AllKnowMore ys zs → AllKnowMore xs zs
all_know_on [] [] [] p q = tt
all_know_on [] [] (c ∷ zs) p q = absurd q
all_know_on [] (b ∷ ys) zs p q = absurd p
all_know_on (a ∷ xs) [] zs p q = absurd p
all_know_on (a ∷ xs) (b ∷ ys) [] p q = absurd q
all_know_on (a ∷ xs) (b ∷ ys) (c ∷ zs) p q = (knows_on a b c p.0 q.0, all_know_on xs ys zs p.1 q.1)

one_knows : (ws : List TabletReaderValue) (n : ℕ) (was now : TabletReaderValue) → slice_get ws n ≡ Some was → KnowsMore was now → AllKnowMore ws (set ws n now)
one_knows [] n was now there more = tt
one_knows (w ∷ ws) zero was now there more =
    let same : w ≡ was = cc there in (subst (λ (x : TabletReaderValue). KnowsMore x now) (sym same) more, all_know_themselves ws)
one_knows (w ∷ ws) (suc n) was now there more = (knows_itself w, one_knows ws n was now there more)

pub looks_know : (old new : LiveReaderValue) (look : Look) → LooksLive old look new → AllKnowMore old.tablet_readers new.tablet_readers
looks_know old new look looked =
    subst (λ (r : LiveReaderValue). AllKnowMore old.tablet_readers r.tablet_readers) (sym looked.4)
    (one_knows old.tablet_readers look.0 looked.0 looked.1 looked.2 (seeing_knows looked.0 look.1 looked.1 looked.3))

pub learning_all_knows : (olds news : List TabletReaderValue) (front : List TabletNoteValue) → AllLearn olds front news → AllKnowMore olds news
learning_all_knows [] [] front learn = tt
learning_all_knows [] (new ∷ news) [] learn = absurd learn
learning_all_knows [] (new ∷ news) (note ∷ front) learn = absurd learn
learning_all_knows (old ∷ olds) news [] learn = absurd learn
learning_all_knows (old ∷ olds) [] (note ∷ front) learn = absurd learn
learning_all_knows (old ∷ olds) (new ∷ news) (note ∷ front) learn = (learning_knows old note new learn.0, learning_all_knows olds news front learn.1)

abbrev books : List TabletReaderValue → List Book
books ws = map (λ w. w.book) ws

abbrev ends : List TabletReaderValue → List Ends
ends ws = map (λ w. w.range) ws

-- they stay readers of the same tablets and ranges
pub books_known : (olds news : List TabletReaderValue) → AllKnowMore olds news → books news ≡ books olds
books_known [] [] more = refl
books_known [] (new ∷ news) more = absurd more
books_known (old ∷ olds) [] more = absurd more
books_known (old ∷ olds) (new ∷ news) more = let here = more.0.book in let rest = books_known olds news more.1 in cc (here, rest)

pub ends_known : (olds news : List TabletReaderValue) → AllKnowMore olds news → ends news ≡ ends olds
ends_known [] [] more = refl
ends_known [] (new ∷ news) more = absurd more
ends_known (old ∷ olds) [] more = absurd more
ends_known (old ∷ olds) (new ∷ news) more = let here = more.0.range in let rest = ends_known olds news more.1 in cc (here, rest)

-- the reader still reads the same tablets
pub looks_same : (old new : LiveReaderValue) (look : Look) → LooksLive old look new → tablets_of new ≡ tablets_of old
looks_same old new look looked =
    λ i. record { layout = ap (λ (r : LiveReaderValue). r.layout) looked.4 i; books = books_known old.tablet_readers new.tablet_readers (looks_know old new look looked) i }

pub learns_same : (old new : LiveReaderValue) (front : List TabletNoteValue) → new.layout ≡ old.layout → AllLearn old.tablet_readers front new.tablet_readers → tablets_of new ≡ tablets_of old
learns_same old new front layout learn =
    λ i. record { layout = layout i; books = books_known old.tablet_readers new.tablet_readers (learning_all_knows old.tablet_readers new.tablet_readers front learn) i }

-- Looks of a reader, one after another.

pub all_looks_know : (seen : List Look) (old new : LiveReaderValue) → Looks LooksLive old seen new → AllKnowMore old.tablet_readers new.tablet_readers
all_looks_know [] old new looked = subst (λ (r : LiveReaderValue). AllKnowMore old.tablet_readers r.tablet_readers) (sym looked) (all_know_themselves old.tablet_readers)
all_looks_know (look ∷ seen) old new looked =
    all_know_on old.tablet_readers looked.0.tablet_readers new.tablet_readers (looks_know old looked.0 look looked.1) (all_looks_know seen looked.0 new looked.2)

-- the reader still reads the same tablets
pub all_looks_same : (seen : List Look) (old new : LiveReaderValue) → Looks LooksLive old seen new → tablets_of new ≡ tablets_of old
all_looks_same [] old new looked = ap tablets_of looked
all_looks_same (look ∷ seen) old new looked = all_looks_same seen looked.0 new looked.2 ∙ looks_same old looked.0 look looked.1

-- One entry of a reader into a tablet.

-- what an entry found, and what the reader knows once it has left
pub finds_left : (old : TabletReaderValue) (guard : ReadGuard) → Finds old (found_by guard) (left_by guard) → (state : TabletStateValue) (new : TabletReaderValue)
    → state ≡ found_by guard → new ≡ left_by guard → Finds old state new
finds_left old guard finds state new is now =
    subst (λ (t : TabletStateValue). Finds old t new) (sym is) (subst (λ (r : TabletReaderValue). Finds old (found_by guard) r) (sym now) finds)

reader_count : (layout : Bounds) (readers : List TabletReaderValue) → AreTabletReadersOf layout readers → length readers ≡ length layout + 1
reader_count layout readers are =
    sym (length-map readers (λ (w : TabletReaderValue). w.range)) ∙ (ap length are ∙ length-map-range_with_len (tablet_ends layout) 0 (length layout + 1))

pub reader_within : (layout : Bounds) (readers : List TabletReaderValue) (n : ℕ) → AreTabletReadersOf layout readers → n ≤ length layout → n < length readers
reader_within layout readers n are few = omega (arith, few, reader_count layout readers are)

own_ends : (layout : Bounds) (readers : List TabletReaderValue) (n : ℕ) (was : TabletReaderValue) → AreTabletReadersOf layout readers → n < length readers → was ≡ get_or readers n was → was.range ≡ tablet_ends layout n
own_ends layout readers n was are within at =
    ap (λ (w : TabletReaderValue). w.range) at
    ∙ (sym (mapped_at (λ (w : TabletReaderValue). w.range) readers n was was.range within)
    ∙ (ap (λ (rs : List Ends). get_or rs n was.range) are
    ∙ get_or-map-range_with_len (tablet_ends layout) 0 (length layout + 1) n n was.range (omega (arith, within, reader_count layout readers are)) (omega arith)))

found_range : (was : TabletReaderValue) (state : TabletStateValue) (now : TabletReaderValue) → Finds was state now → state.range ≡ was.range
found_range was state now found =
    ap (λ (t : TabletStateValue). t.range) found.state ∙ (range_kept (empty_tablet now.range) now.seen ∙ ap (λ (w : TabletReaderValue). w.range) found.same)

module _ (layout : Bounds) (readers : List TabletReaderValue) (n : ℕ) (was now : TabletReaderValue) (are : AreTabletReadersOf layout readers) (few : n ≤ length layout) (at : was ≡ get_or readers n was) where
  within : n < length readers
  within = reader_within layout readers n are few

  is_found : (found : Option TabletStateValue) → Sees was found now → IfSome found IsSound → IsFoundIn layout (n, found)
  is_found None sees sound = tt
  is_found (Some state) sees sound = record {
    range = found_range was state now sees ∙ own_ends layout readers n was are within at;
    inside = sound.inside;
    spelled = sound.spelled;
  }

  -- the readers are still of the layout's ranges
  pub still_tablet_readers : (found : Option TabletStateValue) → Sees was found now → AreTabletReadersOf layout (set readers n now)
  still_tablet_readers found sees =
      map-set_same (λ (w : TabletReaderValue). w.range) readers n now was ((seeing_knows was found now sees).range ∙ ap (λ (w : TabletReaderValue). w.range) at) ∙ are

  -- one look into one tablet
  pub looked_once : {A B : Type 0} (show : A → B) (answer : Result A ScanFault) (right : Look → Result B ScanFault) (found : Option TabletStateValue) → IsOneLook was now show answer right n found
      → LooksOnce LooksLive layout (record { layout = layout; tablet_readers = readers }) (record { layout = layout; tablet_readers = set readers n now }) show answer right (n, found)
  looked_once show answer right found look = record {
    looked = (was, now, slice_get_read readers (length readers) n was refl within at, look.sees, refl);
    found = is_found found look.sees look.sound;
    answers = look.answers;
  }

  -- one copy of one tablet
  pub copied_once : (need : Positions) (answer : Result TabletCopyValue CopyFault) (found : Option TabletStateValue) → IsOneCopy was need now answer found
      → IsCopied (record { layout = layout; tablet_readers = readers }) need (record { layout = layout; tablet_readers = set readers n now }) answer (n, found)
  copied_once need answer found look = record {
    looked = (was, now, slice_get_read readers (length readers) n was refl within at, look.sees, refl);
    found = is_found found look.sees look.sound;
    answers = look.answers;
  }

  -- the counts of one tablet
  pub counted_once : (answer : Option RecordCounts) (found : Option TabletStateValue) → IsOneCount was now answer found
      → IsCounted (record { layout = layout; tablet_readers = readers }) (record { layout = layout; tablet_readers = set readers n now }) answer (n, found)
  counted_once answer found look = record {
    looked = (was, now, slice_get_read readers (length readers) n was refl within at, look.sees, refl);
    found = is_found found look.sees look.sound;
    counts = look.counts;
  }
