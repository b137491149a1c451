-- One more entry.
use Rattle.pn_region.proofs.LogLaws.{goes_on}
use Rattle.pn_region.proofs.notices.Log.put.Goals as goal

pub invariant_of-self-else-self-gt-LAST_NUMBER : goal.invariant_of-self-else-self-gt-LAST_NUMBER
invariant_of-self-else-self-gt-LAST_NUMBER c =
    goes_on c.self.inside.entries c.push.new.self c.self.inside.last c.min-self-inside.result c.self.inside.kept c.keep.new.kept c.args.entry c.self.invariant
    c.push.ensures c.min-self-inside.ensures c.keep.ensures
