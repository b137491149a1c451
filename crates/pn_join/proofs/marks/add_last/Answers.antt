-- A mark that comes after all others is raised at the end.
use Rattle.std.proofs.Common.{◌++◌, sym, ap, ◌∙◌}
use Rattle.std.specs.Option.{option_to_list}
use Rattle.std.proofs.lemmas.Result.{on_ok_weaker}
use Rattle.pn_join.proofs.LeastFacts.{mark_there, raised_last}
use Rattle.pn_join.proofs.marks.add_last.Goals as goal

pub returns : goal.returns
returns c =
    let marks = c.args.marks.now in
    let name = c.args.name.now in
    let some = mark_there name c.args.position c.if-position-eq0.false in
    let rising = rw some at c.requires in
    on_ok_weaker c.raise_at.result (λ is. is ∙ raised_last marks name c.args.position rising ∙ ap (λ o. marks ++ option_to_list o) (sym some)) c.raise_at.ensures.ok
