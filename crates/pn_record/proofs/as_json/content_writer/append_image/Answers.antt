-- The body, the key, the master and the version between braces.
use Rattle.std.proofs.Common.{◌≡◌, ◌≤◌, ◌++◌, ◌&&◌, length, codes, ◌∙◌, subst, arith}
use Rattle.std.proofs.lemmas.Bool.{and_from}
use Rattle.json.specs.Print.{quoted}
use Rattle.serde_json.specs.Written.{compact_text}
use Rattle.pn_json.specs.Tokens.{AppendsText}
use Rattle.pn_json.proofs.AppendedTexts.{appended_as, appended_both}
use Rattle.pn_record.specs.Limits.{is_content, ContentValue, is_key, is_version}
use Rattle.pn_record.specs.Showing.{shown_body}
use Rattle.pn_record.specs.Writing.{body_text, image_data, version_data}
use Rattle.pn_record.specs.declared.records.Image.{Image}
use Rattle.pn_record.proofs.ImageText.{image_text, length-image_data}
use Rattle.pn_record.proofs.as_json.content_writer.append_image.Goals as goal

pub returns-clause-added : goal.returns-clause-added
returns-clause-added c =
    let body = shown_body c.content.inside.body in
    let inside : Image = record { key = c.args.key.now; version = c.args.version; content = (body, c.content.inside.master) } in
    let last = appended_both c.append_text-4.ensures (appended_both c.append_version.ensures.added c.append_text-5.ensures) in
    let parts = appended_both c.append_text.ensures (appended_both c.append_body.ensures (appended_both c.append_text-2.ensures (appended_both c.append_string.ensures
    (appended_both c.append_text-3.ensures (appended_both c.append_string-2.ensures last))))) in
    let same : codes "{" ++ (body_text body ++ (codes ",\"key\":" ++ (quoted c.as_str.result.now ++ (codes ",\"master\":" ++ (quoted c.as_str-2.result.now ++ (codes ",\"version\":" ++ (compact_text (version_data c.args.version) ++ codes "}")))))))
    ≡ compact_text (image_data inside) =
    (λ i. codes "{" ++ (body_text body ++ (codes ",\"key\":" ++ (quoted (c.as_str.ensures.text i) ++ (codes ",\"master\":" ++ (quoted (c.as_str-2.ensures.text i) ++ (codes ",\"version\":" ++ (compact_text (version_data c.args.version) ++ codes "}"))))))))
    ∙ image_text inside in
    subst (λ (content : ContentValue). AppendsText c.args.out.now c.append_text-5.new.out (compact_text (image_data (record { key = c.args.key.now; version = c.args.version; content = content })))) c.content.view_is
    (appended_as same parts)

pub returns-clause-short : goal.returns-clause-short
returns-clause-short c =
    let content : ContentValue = (shown_body c.content.inside.body, c.content.inside.master) in
    let numbered = and_from (is_key c.args.key.now) (is_version c.args.version) c.as_str.ensures.is_key c.append_version.ensures.limits in
    let fits = and_from (is_key c.args.key.now && is_version c.args.version) (is_content content) numbered c.content.invariant in
    let short : length (compact_text (image_data (record { key = c.args.key.now; version = c.args.version; content = content }))) ≤ 52000 =
    omega (arith, length-image_data (record { key = c.args.key.now; version = c.args.version; content = content }) fits) in
    subst (λ (content : ContentValue). length (compact_text (image_data (record { key = c.args.key.now; version = c.args.version; content = content }))) ≤ 52000) c.content.view_is short
