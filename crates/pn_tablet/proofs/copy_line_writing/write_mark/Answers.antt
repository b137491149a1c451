-- The line of a mark.
use Rattle.std.proofs.Common.{rules, ◌≡◌, true, List, ℕ, [], ◌∷◌, ap, ◌∙◌, subst}
use Rattle.std.proofs.lemmas.Result.{IfOk-weaker}
use Rattle.pn_join.specs.Naming.{is_name}
use Rattle.pn_tablet.specs.CopyTexts.{mark_data}
use Rattle.pn_tablet.specs.CopyWriting.{WritesLines}
use Rattle.pn_tablet.specs.declared.copy_line.CopyLine.TheVariants.{Mark}
use Rattle.pn_tablet.proofs.CopyWritten.{line_from, mark_written}
use Rattle.pn_tablet.proofs.copy_line_writing.write_mark.Goals as goal

pub returns : goal.returns
returns c =
    let name : List ℕ = c.as_str.result.now in
    let same : name ≡ c.args.name.now = search rules in
    let named : is_name c.args.name.now ≡ true = search rules in
    IfOk-weaker c.end_line.result _ _ (λ text line. subst (λ (n : List ℕ). WritesLines c.args.text.items text.items (Mark n c.args.position ∷ [])) same
    (mark_written c.args.text.items text.items name c.args.position (ap is_name same ∙ named) c.requires
    (line_from c.args.text.items text.items (mark_data (name, c.args.position)) c.new-line.ensures.before c.new-line.ensures.tokens c.in_ok-put_mark.ensures line))) c.end_line.ensures
