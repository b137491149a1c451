-- A chunk and what follows it are put together.
use Rattle.std.proofs.Common.{length, refl}
use Rattle.pn_tablet.proofs.CopyChunkLaws.{put_together}
use Rattle.pn_tablet.proofs.copy_chunks.+chunks.Goals as goal

pub returns-clause-within : goal.returns-clause-within
returns-clause-within g t c =
    (put_together c.args.form c.args.text.now c.split_at.result.0.now c.split_at.result.1.now _ _ _ (length c.split_at.result.0.now) _ _ _
    c.split_at.ensures.by_index.0 refl
    c.join-later.ensures.second.0 c.join-later.ensures.second.1 c.join-later.ensures.first.0 c.join-later.ensures.first.1 c.put_together.ensures).0

pub returns-clause-begins : goal.returns-clause-begins
returns-clause-begins g t c =
    (put_together c.args.form c.args.text.now c.split_at.result.0.now c.split_at.result.1.now _ _ _ (length c.split_at.result.0.now) _ _ _
    c.split_at.ensures.by_index.0 refl
    c.join-later.ensures.second.0 c.join-later.ensures.second.1 c.join-later.ensures.first.0 c.join-later.ensures.first.1 c.put_together.ensures).1
