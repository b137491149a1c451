-- New readers of a live region are its own.
use Rattle.pn_serve.proofs.Knowing.{own_new}
use Rattle.pn_serve.proofs.server.open_region.Goals as goal

pub returns-in-Ok-clause-own : goal.returns-in-Ok-clause-own
returns-in-Ok-clause-own g c = own_new c.in-Ok.live c.in-Ok.readers.items c.in-Ok.ensures.readers
