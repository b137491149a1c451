-- The head that was made, and the rows.
use Rattle.std.proofs.Common.{rules, ◌≡◌, ◌++◌, List, ℕ, map, codes, inl, false, refl, ap, ◌∙◌}
use Rattle.serde_json.specs.View.{items_of}
use Rattle.serde_json.specs.Written.{items_text}
use Rattle.pn_protocol.specs.Reply.Records.{row_data, head_text}
use Rattle.pn_protocol.proofs.MadeReplies.{page_text}
use Rattle.pn_protocol.proofs.reply.answers.page_reply.Goals as goal

pub returns-in-Ok : goal.returns-in-Ok
returns-in-Ok c =
    let rows = c.args.page.rows.items in
    let is : c.in-Ok.head.items ≡ head_text c.args.page.next = search rules in
    inl (refl, ap (λ (l : List ℕ). (l ++ items_text false (items_of (map row_data rows))) ++ codes "}\n") is ∙ page_text rows c.args.page.next)
