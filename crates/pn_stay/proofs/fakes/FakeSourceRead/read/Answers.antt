-- A read of pieces is one of their bytes.
use Rattle.pn_stay.proofs.Buffers.{reads_bytes}
use Rattle.pn_stay.proofs.fakes.FakeSourceRead.read.Goals as goal

pub returns-clause-bytes : goal.returns-clause-bytes
returns-clause-bytes c = let e = c.read_piece.ensures in reads_bytes c.read_piece.result c.args.self.now c.read_piece.new.self c.args.buf.now
    c.read_piece.new.buf _ e.count e.copied e.left e.comes e.waits
