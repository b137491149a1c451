-- The body and the master between braces.
use Rattle.std.proofs.Common.{◌≤◌, ◌++◌, length, codes, ◌∙◌, subst}
use Rattle.json.specs.Print.{quoted}
use Rattle.serde_json.specs.Written.{compact_text}
use Rattle.pn_json.specs.Tokens.{AppendsText}
use Rattle.pn_json.proofs.AppendedTexts.{appended_as, appended_both}
use Rattle.pn_record.specs.Limits.{ContentValue}
use Rattle.pn_record.specs.Showing.{shown_body}
use Rattle.pn_record.specs.Writing.{body_text, content_data}
use Rattle.pn_record.proofs.ImageText.{content_text, length-content_data}
use Rattle.pn_record.proofs.as_json.content_writer.append_content.Goals as goal

pub returns-clause-added : goal.returns-clause-added
returns-clause-added c =
    let body = shown_body c.content.inside.body in
    let parts = appended_both c.append_text.ensures (appended_both c.append_body.ensures (appended_both c.append_text-2.ensures (appended_both c.append_string.ensures c.append_text-3.ensures))) in
    subst (λ (content : ContentValue). AppendsText c.args.out.now c.append_text-3.new.out (compact_text (content_data content))) c.content.view_is
    (appended_as ((λ i. codes "{" ++ (body_text body ++ (codes ",\"master\":" ++ (quoted (c.as_str.ensures.text i) ++ codes "}")))) ∙ content_text (body, c.content.inside.master)) parts)

pub returns-clause-short : goal.returns-clause-short
returns-clause-short c =
    subst (λ (content : ContentValue). length (compact_text (content_data content)) ≤ 52000) c.content.view_is (length-content_data (shown_body c.content.inside.body, c.content.inside.master) c.content.invariant)
