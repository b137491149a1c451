-- The text grows by the value's text and a newline, and that is read as the value.
use Rattle.std.proofs.Common.{rules, ◌≡◌, [], ◌∷◌, ◌++◌, Some, ap, ◌∙◌, subst, append_assoc}
use Rattle.json.specs.Print.{print}
use Rattle.serde_json.specs.Written.{compact_text}
use Rattle.serde_json.proofs.Texts.{print-outline}
use Rattle.pn_record.specs.Reading.{reading}
use Rattle.pn_tablet.proofs.CopyValueTexts.{text_read}
use Rattle.pn_tablet.proofs.copy_line_writing.end_line.Goals as goal

pub returns : goal.returns
returns c = λ value are.
    let before = c.args.line.before in
    let text = print c.args.line.tokens in
    let bytes : c.push.new.self.items ≡ (before ++ text) ++ 10 ∷ [] = search rules in
    let same : text ≡ compact_text value = ap print are ∙ print-outline value in (
      bytes ∙ ap (λ t. (before ++ t) ++ 10 ∷ []) same ∙ append_assoc before (compact_text value) (10 ∷ []),
      λ again shallow. subst (λ t. reading t ≡ Some value) same (text_read value text (c.into_inner-text.ensures.reads_back ∙ are) c.into_inner-text.ensures.utf8 again shallow),
    )
