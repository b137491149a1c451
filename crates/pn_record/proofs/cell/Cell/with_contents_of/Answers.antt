-- Where the contents are the same nothing is to be gathered.
use Rattle.std.proofs.Common.{sym, ◌∙◌}
use Rattle.pn_record.specs.Laws.{same_contents}
use Rattle.pn_record.proofs.cell.Cell.with_contents_of.Goals as goal

pub returns-then-are_same-clause-gathered : goal.returns-then-are_same-clause-gathered
returns-then-are_same-clause-gathered c =
    same_contents c.args.self.now c.args.other.now
    (sym c.contents.ensures.contents ∙ c.are_same.ensures.0 c.if-are_same.true ∙ c.contents-2.ensures.contents)
