-- A content, and after the last what ends the row.
use Rattle.std.proofs.Common.{rules, ◌≡◌, List, get_or, length, ap, ◌∙◌, arith}
use Rattle.std.specs.FinMap.{keys}
use Rattle.pn_json.proofs.AppendedTexts.{appended_as, appended_both}
use Rattle.pn_record.specs.Limits.{ContentValue}
use Rattle.pn_protocol.proofs.MadeRows.{content_last, content_then, content_within}
use Rattle.pn_protocol.proofs.reply.rows_text.append_row_part.Goals as goal

pub bounds-contents-content : goal.bounds-contents-content
bounds-contents-content c =
    omega (arith, content_within c.args.content c.args.key.now c.args.cell.now c.requires (omega (arith, c.contents-contents.ensures.some, ap length c.contents-contents.ensures.contents)), ap length c.contents-contents.ensures.contents)

pub returns-then-next-contents : goal.returns-then-next-contents
returns-then-next-contents c =
    let shown : ContentValue = c.index-contents-content.result in
    let here : shown ≡ get_or (keys c.args.cell.now.1) c.args.content shown = c.index-contents-content.is ∙ ap (λ (l : List ContentValue). get_or l c.args.content shown) c.contents-contents.ensures.contents in
    let parts = appended_both (appended_as c.before_content.ensures c.append_text.ensures) c.append_content.ensures.added in
    content_then c.args.content _ c.args.key.now c.args.cell.now shown c.args.out.now c.append_content.new.out here (search rules) (omega (arith, ap length c.contents-contents.ensures.contents)) parts c.append_content.ensures.short

pub returns : goal.returns
returns c =
    let shown : ContentValue = c.index-contents-content.result in
    let here : shown ≡ get_or (keys c.args.cell.now.1) c.args.content shown = c.index-contents-content.is ∙ ap (λ (l : List ContentValue). get_or l c.args.content shown) c.contents-contents.ensures.contents in
    let within = content_within c.args.content c.args.key.now c.args.cell.now c.requires (omega (arith, c.contents-contents.ensures.some, ap length c.contents-contents.ensures.contents)) in
    let parts = appended_both (appended_as c.before_content.ensures c.append_text.ensures) c.append_content.ensures.added in
    content_last c.args.content c.args.key.now c.args.cell.now shown c.args.out.now c.append_row_end.new.out here within (omega (arith, ap length c.contents-contents.ensures.contents))
    (appended_both parts (appended_both c.append_text-2.ensures c.append_row_end.ensures.added)) c.append_content.ensures.short c.append_row_end.ensures.short
