-- A piece fits the room.
use Rattle.pn_json.proofs.AppendedTexts.{piece_short, piece_some, piece_whole}
use Rattle.std.proofs.Common.{◌+◌, ◌≤◌, length, vec_capacity, arith}
use Rattle.pn_protocol.proofs.reply.text.ReplyText.write_piece.Goals as goal

pub returns-clause-whole : goal.returns-clause-whole
returns-clause-whole c =
    let room : length c.args.out.now.items + 65536 ≤ vec_capacity c.args.out.now = omega (arith, c.requires, c.args.out.now.ok.0) in
    piece_whole c.append_piece.ensures room

pub returns-clause-piece : goal.returns-clause-piece
returns-clause-piece c =
    let room : length c.args.out.now.items + 65536 ≤ vec_capacity c.args.out.now = omega (arith, c.requires, c.args.out.now.ok.0) in
    omega (arith, piece_short c.append_piece.ensures room, c.args.out.now.ok.0, c.append_piece.new.out.ok.0)

pub returns-clause-capacity : goal.returns-clause-capacity
returns-clause-capacity c = c.append_piece.ensures.appended.capacity

pub returns-clause-some : goal.returns-clause-some
returns-clause-some c = piece_some c.append_piece.ensures
