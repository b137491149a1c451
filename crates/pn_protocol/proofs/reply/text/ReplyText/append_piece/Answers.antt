-- A piece of the head, or of the rest.
use Rattle.std.proofs.Common.{◌++◌, ℕ, List, drop, subst, arith}
use Rattle.pn_json.specs.Tokens.{MakesPiece}
use Rattle.pn_protocol.specs.Reply.Texts.{head_bytes, rest_bytes}
use Rattle.pn_protocol.proofs.MadeReplies.{head_part, rest_part}
use Rattle.pn_protocol.proofs.reply.text.ReplyText.append_piece.Goals as goal

pub returns-then-self-head : goal.returns-then-self-head
returns-then-self-head c =
    let rest = rest_bytes c.self.inside.rest in
    let made = c.self.inside.made in
    let part = head_part c.as_bytes-head.result.now rest made c.append_some-self-inside.result 65536 c.args.out.now c.append_some-self-inside.new.out c.if-self-head.true c.append_some-self-inside.ensures.end (omega arith) c.append_some-self-inside.ensures.added in
    let of_head = subst (λ (head : List ℕ). MakesPiece 65536 (drop made head ++ rest) (drop c.append_some-self-inside.result head ++ rest) c.args.out.now c.append_some-self-inside.new.out) c.as_bytes-head.ensures part in
    subst (λ (left : List ℕ). MakesPiece 65536 left (drop c.append_some-self-inside.result (head_bytes c.self.inside.head) ++ rest) c.args.out.now c.append_some-self-inside.new.out) c.self.view_is of_head

pub returns : goal.returns
returns c =
    let made = c.self.inside.made in
    let part = rest_part c.as_bytes-head.result.now (rest_bytes c.self.inside.rest) (rest_bytes c.append_piece.new.self) made 65536 c.args.out.now c.append_piece.new.out c.if-self-head.false c.append_piece.ensures in
    let of_head = subst (λ (head : List ℕ). MakesPiece 65536 (drop made head ++ rest_bytes c.self.inside.rest) (drop made head ++ rest_bytes c.append_piece.new.self) c.args.out.now c.append_piece.new.out) c.as_bytes-head.ensures part in
    subst (λ (left : List ℕ). MakesPiece 65536 left (drop made (head_bytes c.self.inside.head) ++ rest_bytes c.append_piece.new.self) c.args.out.now c.append_piece.new.out) c.self.view_is of_head
