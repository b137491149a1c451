-- The tablet comes after those that were published before it.
use Rattle.std.proofs.Common.{◌++◌, ◌∷◌, [], List, map, ap, ◌∙◌}
use Rattle.std.proofs.lemmas.List.{map-append}
use Rattle.logbook.specs.Pages.{Book}
use Rattle.pn_tablet.specs.declared.state.TabletOp.{TabletOp}
use Rattle.pn_live.specs.declared.publication_order.PublishPosition.{PublishPosition}
use Rattle.pn_live.proofs.publication_order.PublicationOrder.add.Goals as goal

abbrev book_of : PublishPosition TabletOp → Book
book_of position = position.seen.book

pub returns : goal.returns
returns c =
    let position = c.args.position.now in
    ap (map book_of) c.push.ensures
    ∙ map-append book_of c.self.inside.past (position ∷ [])
    ∙ ap (λ (before : List Book). before ++ position.seen.book ∷ []) c.self.view_is
