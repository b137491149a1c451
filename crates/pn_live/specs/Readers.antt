-- Readers of a live region: what they know of each live tablet, and one look into a tablet.
use Rattle.std.specs.Prelude.{◌≡◌, nat_lt, if◌then◌else◌, List, [], ◌∷◌, length, Option, None, Some, map, set, slice_get, ℕ, IfSome, Result}
use Rattle.std.specs.List.{AllByRecursion}
use mathlib.Core.List.{IsPrefix}
use Rattle.logbook.specs.Pages.{Book}
use Rattle.pn_tablet.specs.Layouts.{Ends, Bounds}
use Rattle.pn_tablet.specs.Steps.{state_of}
use Rattle.pn_tablet.specs.Tablets.{TabletStateValue}
use Rattle.pn_tablet.specs.declared.state.TabletOp.{TabletOp}
use Rattle.pn_scan.specs.Pages.{Look}
use Rattle.pn_scan.specs.Views.{Answers}
use Rattle.pn_scan.specs.declared.view.ScanFault.{ScanFault}
use Rattle.pn_apply.specs.Reducing.{ranges}
use Rattle.pn_region.specs.Regions.{IsSound}
use Rattle.pn_live.specs.PublishedTablets.{TabletNoteValue, PublishedTabletValue}
use Rattle.pn_live.specs.Attempts.{settled_of}
use Rattle.pn_live.specs.Orders.{list_of}
use Rattle.pn_live.specs.declared.read_guard.ReadGuard.{ReadGuard}

-- What a reader knows of each live tablet.

-- which tablet it is, its range, and the operations that the reader saw and learnt
pub record TabletReaderValue : Type 0 where
  pub book : Book
  pub range : Ends
  pub seen : List TabletOp
  pub learnt : List TabletOp

-- a state was found: that of a list which extends all that was seen and learnt, and which is then what was seen
pub record Finds (old : TabletReaderValue) (found : TabletStateValue) (new : TabletReaderValue) : Type 0 where
  pub same : new ≡ record old { seen = new.seen }
  pub seen : IsPrefix old.seen new.seen
  pub learnt : IsPrefix old.learnt new.seen
  pub state : found ≡ state_of new.range new.seen

-- an entry found a state, or was refused and changed nothing
abbrev pub Sees : TabletReaderValue → Option TabletStateValue → TabletReaderValue → Type 0
Sees old None new = new ≡ old
Sees old (Some state) new = Finds old state new

-- the longer of two lists, or the first where they are as long
abbrev pub longer_of : {A : Type 0} → List A → List A → List A
longer_of xs ys = if nat_lt (length xs) (length ys) then ys else xs

-- a note was learnt: what the reader learnt is then the longer of its own list and the note's, and both begin it
pub record Learns (old : TabletReaderValue) (heard : TabletNoteValue) (new : TabletReaderValue) : Type 0 where
  pub same : new ≡ record old { learnt = longer_of old.learnt heard.list }
  pub learnt : IsPrefix old.learnt new.learnt
  pub note : IsPrefix heard.list new.learnt

-- each tablet reader learnt the note of its tablet
abbrev pub AllLearn : List TabletReaderValue → List TabletNoteValue → List TabletReaderValue → Type 0
AllLearn [] [] [] = Unit {0}
AllLearn (old ∷ olds) (note ∷ notes) (new ∷ news) = Learns old note new × AllLearn olds notes news
AllLearn _ _ _ = ⊥

-- the reader's history of its tablet only grew
pub record KnowsMore (old new : TabletReaderValue) : Type 0 where
  pub book : new.book ≡ old.book
  pub range : new.range ≡ old.range
  pub seen : IsPrefix old.seen new.seen
  pub learnt : IsPrefix old.learnt new.learnt

-- Readers of a live region.

-- a layout, and a tablet reader for each of its ranges
pub record LiveReaderValue : Type 0 where
  pub layout : Bounds
  pub tablet_readers : List TabletReaderValue

-- which tablets a live region has, which stays
pub record Tablets : Type 0 where
  pub layout : Bounds
  pub books : List Book

-- which tablets the reader reads
abbrev pub tablets_of : LiveReaderValue → Tablets
tablets_of reader = record { layout = reader.layout; books = map (λ part. part.book) reader.tablet_readers }

-- the notes are of these tablets
abbrev pub AreNotesOf : Tablets → List TabletNoteValue → Type 0
AreNotesOf tablets notes = map (λ note. note.book) notes ≡ tablets.books

-- the front is of the tablets that the reader reads
abbrev pub IsFrontFor : LiveReaderValue → List TabletNoteValue → Type 0
IsFrontFor reader front = AreNotesOf (tablets_of reader) front

-- the reader reads these live tablets
pub record ReadsFrom (tablets : List PublishedTabletValue) (reader : LiveReaderValue) : Type 0 where
  pub books : map (λ part. part.book) reader.tablet_readers ≡ map (λ tablet. tablet.book) tablets
  pub ends : ranges reader.layout ≡ map (λ tablet. tablet.range) tablets

-- the tablet readers are of the layout's ranges, one each, in their order
abbrev pub AreTabletReadersOf : Bounds → List TabletReaderValue → Type 0
AreTabletReadersOf layout readers = map (λ reader. reader.range) readers ≡ ranges layout

-- the reader entered one tablet, and found a state or was refused; nothing else changed
abbrev pub LooksLive : LiveReaderValue → Look → LiveReaderValue → Type 0
LooksLive old look new =
    (was : TabletReaderValue) × (now : TabletReaderValue) × (slice_get old.tablet_readers look.0 ≡ Some was) × Sees was look.1 now
    × (new ≡ record old { tablet_readers = set old.tablet_readers look.0 now })

-- a new reader of a tablet, which saw and learnt what is published
abbrev pub new_reader_of : PublishedTabletValue → TabletReaderValue
new_reader_of tablet = record { book = tablet.book; range = tablet.range; seen = tablet.list; learnt = tablet.list }

-- a reader of these tablets that saw and learnt nothing
abbrev pub IsNewReader : Tablets → LiveReaderValue → Type 0
IsNewReader tablets reader = (tablets_of reader ≡ tablets) × AllByRecursion (λ part. (part.seen ≡ []) × (part.learnt ≡ [])) reader.tablet_readers

-- One look of a reader into a tablet.

-- what the reader knows once a guard is left
abbrev pub left_by : ReadGuard → TabletReaderValue
left_by guard = record { book = guard.learnt.seen.book; range = guard.found.value.state.range; seen = list_of guard.found.value; learnt = settled_of guard.learnt.seen.log }

-- one entry, and the right answer for what it found, as `show` shows it
pub record IsOneLook {A B : Type 0} (old new : TabletReaderValue) (show : A → B) (answer : Result A ScanFault) (right : Look → Result B ScanFault) (tablet : ℕ) (found : Option TabletStateValue) : Type 0 where
  pub sees : Sees old found new
  pub sound : IfSome found IsSound
  pub answers : Answers show answer (right (tablet, found))

-- How the readers that `close` is given stand to the live tablets.

-- the reader is of the live tablet
pub record IsOfTablet (tablet : PublishedTabletValue) (reader : TabletReaderValue) : Type 0 where
  pub book : reader.book ≡ tablet.book
  pub range : reader.range ≡ tablet.range

-- the readers are of the live tablets, one each, in their order
abbrev pub AreOfTablets : List PublishedTabletValue → List TabletReaderValue → Type 0
AreOfTablets [] [] = Unit {0}
AreOfTablets (tablet ∷ tablets) (reader ∷ readers) = IsOfTablet tablet reader × AreOfTablets tablets readers
AreOfTablets _ _ = ⊥

-- all that the reader saw and learnt begins what is published
pub record KnowsPublished (tablet : PublishedTabletValue) (reader : TabletReaderValue) : Type 0 where
  pub seen : IsPrefix reader.seen tablet.list
  pub learnt : IsPrefix reader.learnt tablet.list

-- all that the readers saw and learnt, each of its tablet, begins what is published
abbrev pub AllKnowPublished : List PublishedTabletValue → List TabletReaderValue → Type 0
AllKnowPublished [] [] = Unit {0}
AllKnowPublished (tablet ∷ tablets) (reader ∷ readers) = KnowsPublished tablet reader × AllKnowPublished tablets readers
AllKnowPublished _ _ = ⊥
