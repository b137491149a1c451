-- What is published of a live tablet, and what a reader knows of it.
use Rattle.std.specs.Prelude.{◌≡◌, List}
use Rattle.pn_tablet.specs.Layouts.{Ends}
use Rattle.pn_tablet.specs.Steps.{state_of}
use Rattle.pn_tablet.specs.Tablets.{TabletStateValue}
use Rattle.pn_tablet.specs.declared.state.TabletOp.{TabletOp}
use Rattle.pn_live.specs.Attempts.{settled_of}
use Rattle.pn_live.specs.Orders.{list_of}
use Rattle.pn_live.specs.declared.live_tablet.LiveTablet.{LiveTablet}
use Rattle.pn_live.specs.declared.read_guard.ReadGuard.{ReadGuard}
use Rattle.pn_live.specs.declared.reader_handle.ReaderHandle.{ReaderHandle}

-- the operations whose publication ended well
abbrev pub published_ops : LiveTablet → List TabletOp
published_ops tablet = settled_of tablet.settled.seen.log

-- the state that readers find
abbrev pub state_in : LiveTablet → TabletStateValue
state_in tablet = tablet.writer.desk.shown.value.state

-- the operations that lead to the state answered last
abbrev pub seen_by : ReaderHandle → List TabletOp
seen_by handle = list_of handle.seen.value

-- the operations that the reader learnt
abbrev pub learnt_by : ReaderHandle → List TabletOp
learnt_by handle = settled_of handle.learnt.seen.log

-- the range of the reader's tablet
abbrev pub range_of : ReaderHandle → Ends
range_of handle = handle.seen.value.state.range

-- the state that a read guard found: that of its list
abbrev pub found_by : ReadGuard → TabletStateValue
found_by guard = state_of guard.found.value.state.range (list_of guard.found.value)

-- the reader is of this tablet
pub record IsReaderOf (tablet : LiveTablet) (handle : ReaderHandle) : Type 0 where
  pub book : handle.learnt.seen.book ≡ tablet.settled.seen.book
  pub range : range_of handle ≡ (state_in tablet).range
