-- The head, and then the rest.
use Rattle.std.proofs.Common.{◌≡◌, ◌<◌, ◌≤◌, ℕ, List, [], length, ap, ◌∙◌, subst, arith}
use Rattle.std.specs.Prelude.{◌↔◌, IsTrue}
use Rattle.std.proofs.lemmas.Bool.{false≢true}
use Rattle.pn_protocol.specs.Reply.Texts.{head_bytes, rest_bytes}
use Rattle.pn_protocol.proofs.MadeReplies.{head_left, rest_left}
use Rattle.pn_protocol.proofs.reply.text.ReplyText.is_made.Goals as goal

pub returns-then-self-head : goal.returns-then-self-head
returns-then-self-head c =
    let within : c.self.inside.made < length (head_bytes c.self.inside.head) = omega (arith, c.if-self-head.true, ap length c.as_bytes-head.ensures) in
    (λ yes. absurd (false≢true yes), λ none. absurd (head_left (head_bytes c.self.inside.head) (rest_bytes c.self.inside.rest) c.self.inside.made within (c.self.view_is ∙ none)))

pub returns : goal.returns
returns c =
    let over : length (head_bytes c.self.inside.head) ≤ c.self.inside.made = omega (arith, c.if-self-head.false, ap length c.as_bytes-head.ensures) in
    subst (λ (left : List ℕ). IsTrue c.is_made.result ↔ (left ≡ [])) c.self.view_is (rest_left (head_bytes c.self.inside.head) (rest_bytes c.self.inside.rest) c.self.inside.made c.is_made.result over c.is_made.ensures)
