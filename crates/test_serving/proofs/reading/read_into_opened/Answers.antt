-- The readers stay those of the region's tablets.
use Rattle.std.proofs.Common.{sym, ◌∙◌}
use Rattle.test_serving.proofs.reading.read_into_opened.Goals as goal

pub close_region-requires : goal.close_region-requires
close_region-requires g c = λ k d within. c.requires k d within ∙ sym c.read_all-is_read.ensures
