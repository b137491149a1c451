-- The part of the share's table in the range joins the cells.
use Rattle.std.proofs.lemmas.Result.{on_ok_weaker}
use Rattle.pn_apply.specs.Reducing.{images_in}
use Rattle.pn_apply.proofs.Tables.{held_part}
use Rattle.pn_apply.proofs.reducing.join_part.Goals as goal

pub returns-clause-held : goal.returns-clause-held
returns-clause-held c =
    let images = c.args.share.now.images in
    let part = held_part c.args.range.now images c.in-Some.whole.now c.in_ok-part.part c.in-Some.ensures c.in_ok-part.ensures in
    on_ok_weaker c.join_records.result (λ lists. λ taken held. lists taken (images_in c.args.range.now images) held part) c.join_records.ensures.lists
