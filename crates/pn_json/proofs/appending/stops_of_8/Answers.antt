-- The three tests of a byte are those of a byte that needs an escape.
use Rattle.std.proofs.Common.{arith}
use Rattle.pn_json.proofs.AppendedTexts.{mask_of_stops}
use Rattle.pn_json.proofs.appending.stops_of_8.Goals as goal

pub returns : goal.returns
returns c = mask_of_stops c.args.bytes 8 c.fits-bytes.0 (omega arith) c.fits-bytes.1
