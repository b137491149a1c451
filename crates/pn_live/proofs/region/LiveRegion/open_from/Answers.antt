-- The live region that was opened has started, and its readers are new.
use Rattle.std.proofs.Common.{sym, subst}
use Rattle.std.specs.List.{AllByRecursion}
use Rattle.pn_region.specs.Regions.{RegionValue}
use Rattle.pn_live.specs.LiveRegions.{tablets_in, StopsStart}
use Rattle.pn_live.specs.Readers.{Tablets, IsNewReader}
use Rattle.pn_live.proofs.Events.{new_core, still_read}
use Rattle.pn_live.proofs.region.LiveRegion.open_from.Goals as goal

pub close-requires : goal.close-requires
close-requires g c = still_read (tablets_in c.in-Ok.opened.0) c.start_from.new.self c.in-Ok.opened.1.items c.start_from.ensures.same c.in-Ok.ensures.readers

pub returns-in-Ok-start_from-clause-starts : goal.returns-in-Ok-start_from-clause-starts
returns-in-Ok-start_from-clause-starts g c = record { opened = c.in-Ok.opened.0; is_new = c.in-Ok.ensures.region; lead = c.in-Ok-start_from.ensures.ok }

pub returns-in-Ok-start_from-clause-readers : goal.returns-in-Ok-start_from-clause-readers
returns-in-Ok-start_from-clause-readers g c = subst (λ (tablets : Tablets). AllByRecursion (IsNewReader tablets) c.in-Ok.opened.1.items) (sym c.start_from.ensures.same) c.in-Ok.ensures.readers

pub returns-in-Err-start_from-clause-refused : goal.returns-in-Err-start_from-clause-refused
returns-in-Err-start_from-clause-refused g c =
    subst (λ (region : RegionValue). StopsStart c.args.copies.items region c.in-Err-start_from.fault) (new_core c.args.layout c.in-Ok.opened.0 c.in-Ok.ensures.region) c.in-Err-start_from.ensures.refused
