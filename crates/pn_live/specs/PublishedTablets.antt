-- What is published of each live tablet of a region, and lists that are honest about what brokers published.
use Rattle.std.specs.Prelude.{◌≡◌, List, [], ◌∷◌, ◌++◌, map}
use Rattle.std.specs.List.{AllByRecursion}
use Rattle.logbook.specs.Pages.{Book}
use mathlib.Core.List.{IsPrefix}
use Rattle.pn_tablet.specs.Layouts.{Ends}
use Rattle.pn_tablet.specs.Steps.{state_of}
use Rattle.pn_tablet.specs.Tablets.{TabletStateValue}
use Rattle.pn_tablet.specs.declared.state.TabletOp.{TabletOp}
use Rattle.pn_stream.specs.Brokers.{BrokerRecord}
use Rattle.pn_region.specs.Laws.{IsFaithful}

-- What is published of each live tablet of a region.

-- a live tablet: which one it is, its range, and the operations that are published
pub record PublishedTabletValue : Type 0 where
  pub book : Book
  pub range : Ends
  pub list : List TabletOp

-- which tablets they are
abbrev pub books_of : List PublishedTabletValue → List Book
books_of tablets = map (λ tablet. tablet.book) tablets

-- its state is that of what is published
abbrev pub state_at : PublishedTabletValue → TabletStateValue
state_at tablet = state_of tablet.range tablet.list

-- nothing is published yet
abbrev pub IsNewTablet : Ends → PublishedTabletValue → Type 0
IsNewTablet range tablet = (tablet.range ≡ range) × (tablet.list ≡ [])

-- nothing is published yet of the tablets of these ranges
abbrev pub AreNewTablets : List Ends → List PublishedTabletValue → Type 0
AreNewTablets [] [] = Unit {0}
AreNewTablets (range ∷ ranges) (tablet ∷ tablets) = IsNewTablet range tablet × AreNewTablets ranges tablets
AreNewTablets _ _ = ⊥

-- the tablet with one operation more
abbrev pub with_op : PublishedTabletValue → TabletOp → PublishedTabletValue
with_op tablet op = record tablet { list = tablet.list ++ op ∷ [] }

-- the tablets with one operation more each
abbrev pub with_ops : List PublishedTabletValue → List TabletOp → List PublishedTabletValue
with_ops (tablet ∷ tablets) (op ∷ ops) = with_op tablet op ∷ with_ops tablets ops
with_ops tablets _ = tablets

-- a note of a tablet: which one it is, and the operations that were published
pub record TabletNoteValue : Type 0 where
  pub book : Book
  pub list : List TabletOp

-- the note of what is published
abbrev pub note_of : PublishedTabletValue → TabletNoteValue
note_of tablet = record { book = tablet.book; list = tablet.list }

-- the notes of all tablets
abbrev pub notes_of : List PublishedTabletValue → List TabletNoteValue
notes_of tablets = map note_of tablets

-- Published lists that are honest about what brokers published.

-- the state of each beginning of the list is faithful
abbrev pub IsHonestList : BrokerRecord → Ends → List TabletOp → Type 0
IsHonestList broker range list = (first : List TabletOp) → IsPrefix first list → IsFaithful broker (state_of range first)

-- what is published of each live tablet is honest
abbrev pub AreHonestTablets : BrokerRecord → List PublishedTabletValue → Type 0
AreHonestTablets broker tablets = AllByRecursion (λ tablet. IsHonestList broker tablet.range tablet.list) tablets
