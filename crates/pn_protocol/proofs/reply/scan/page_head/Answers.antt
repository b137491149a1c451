-- What comes before the query, the query, and what comes after it.
use Rattle.std.proofs.Common.{rules, ◌≡◌, ◌++◌, codes, ◌∙◌, append_assoc}
use Rattle.pn_protocol.proofs.reply.scan.page_head.Goals as goal

pub returns : goal.returns
returns c =
    let next = c.in_ok-next.next.items in
    let made : c.extend_from_slice-2.new.self.items ≡ (codes "{\"next\":" ++ next) ++ codes ",\"rows\":[" = search rules in
    made ∙ append_assoc (codes "{\"next\":") next (codes ",\"rows\":[") ∙ (λ i. codes "{\"next\":" ++ (c.in_ok-next.ensures i ++ codes ",\"rows\":["))
