-- The number that a log has is the last that was given.
use Rattle.std.proofs.Common.{◌≡◌, List, subst}
use Rattle.pn_region.specs.declared.notices.Entry.{Entry}
use Rattle.pn_region.specs.Log.{last_of}
use Rattle.pn_region.proofs.LogLaws.{last_given}
use Rattle.pn_region.proofs.notices.Log.last_number.Goals as goal

pub returns : goal.returns
returns c =
    let inside = c.self.inside in
    subst (λ (es : List Entry). c.min.result ≡ last_of es) c.self.view_is
    (last_given inside.entries inside.last c.min.result inside.kept c.self.invariant c.min.ensures)
