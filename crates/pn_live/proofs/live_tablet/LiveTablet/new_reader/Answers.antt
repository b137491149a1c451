-- The new reader takes the writer's view.
use Rattle.pn_live.proofs.Prefixes.{admits, forks, merges}
use Rattle.pn_live.proofs.live_tablet.LiveTablet.new_reader.Goals as goal

pub reader-requires : goal.reader-requires
reader-requires c = admits

pub tell-note-requires : goal.tell-note-requires
tell-note-requires c = forks _ _

pub learn-requires-clause-rule : goal.learn-requires-clause-rule
learn-requires-clause-rule c = merges _ _ _ _
