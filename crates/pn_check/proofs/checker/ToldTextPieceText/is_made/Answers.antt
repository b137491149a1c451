-- Nothing is left after the last byte.
use Rattle.std.proofs.Common.{◌≡◌, length, arith}
use Rattle.pn_check.proofs.ToldLines.{all_made}
use Rattle.pn_check.proofs.checker.ToldTextPieceText.is_made.Goals as goal

pub returns : goal.returns
returns c =
    let text = c.args.self.now.text in
    let size : c.len.result ≡ length text.items = omega (arith, c.len.ensures, text.ok.0) in
    all_made text.items c.args.self.now.made c.len.result size
