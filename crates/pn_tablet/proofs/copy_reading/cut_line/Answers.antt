-- A text is cut at its first newline.
use Rattle.std.proofs.Common.{◌+◌}
use Rattle.pn_tablet.proofs.CopySteps.{pieces-cut, pieces-none, rest_whole, rest_shorter}
use Rattle.pn_tablet.proofs.copy_reading.cut_line.Goals as goal

pub returns-in-None : goal.returns-in-None
returns-in-None c = pieces-none c.args.text.now c.in-None.ensures

pub returns-in-Some : goal.returns-in-Some
returns-in-Some c =
    let whole = rest_whole (c.in-Some.at + 1) c.args.text.now in
    rw whole (pieces-cut c.args.text.now c.in-Some.at c.in-Some.ensures, rest_shorter c.args.text.now c.in-Some.at c.in-Some.ensures)
