-- The key's tablet was looked into.
use Rattle.std.proofs.Common.{arith}
use Rattle.pn_scan.specs.Views.{cell_at}
use Rattle.pn_live.proofs.Knowing.{reader_within, still_tablet_readers, looked_once}
use Rattle.pn_live.proofs.reader.LiveReaderView.cell.Goals as goal

pub index_mut-requires : goal.index_mut-requires
index_mut-requires c =
    let inside = c.self.inside in
    omega (arith, reader_within inside.layout inside.tablet_readers.items c.tablet_of-tablet.result c.self.invariant c.tablet_of-tablet.ensures.within, inside.tablet_readers.ok.0)

pub invariant_of-self : goal.invariant_of-self
invariant_of-self c =
    let inside = c.self.inside in
    still_tablet_readers inside.layout inside.tablet_readers.items c.tablet_of-tablet.result c.index_mut.result.now c.cell.new.self c.self.invariant
    c.tablet_of-tablet.ensures.within c.index_mut.ensures.value c.cell.ensures.0 c.cell.ensures.1.sees

pub returns-clause-look : goal.returns-clause-look
returns-clause-look c =
    let inside = c.self.inside in (
      c.cell.ensures.0,
      rw (← c.self.view_is) (rw (← c.tablet_of-tablet.ensures.tablet)
          (looked_once inside.layout inside.tablet_readers.items c.tablet_of-tablet.result c.index_mut.result.now c.cell.new.self c.self.invariant
          c.tablet_of-tablet.ensures.within c.index_mut.ensures.value (λ cell. cell) c.cell.result (cell_at c.args.key.now) c.cell.ensures.0 c.cell.ensures.1)),
    )
