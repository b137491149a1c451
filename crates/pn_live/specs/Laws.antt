-- What the laws over lists of operations speak of.
use Rattle.std.specs.Prelude.{◌≡◌, ◌⊎◌, ℕ, List, [], ◌∷◌, drop, Option, None, Some, IsTrue}
use Rattle.std.specs.FinMap.{contains_key}
use Rattle.std.specs.Ordering.{is_lt}
use Rattle.pn_record.specs.Sets.{version_cmp, CellValue}
use Rattle.pn_record.specs.declared.records.Image.{Image}
use Rattle.pn_live.specs.Readers.{TabletReaderValue, KnowsMore}
use Rattle.pn_tablet.specs.declared.state.TabletOp.{TabletOp}
use Rattle.pn_tablet.specs.declared.state.TabletOp.TheVariants.{Lose}

-- the operation is no loss
abbrev pub IsNoLoss : TabletOp → Type 0
IsNoLoss Lose = ⊥
IsNoLoss _ = Unit {0}

-- none is a loss
abbrev pub AreNoLosses : List TabletOp → Type 0
AreNoLosses [] = Unit {0}
AreNoLosses (op ∷ ops) = IsNoLoss op × AreNoLosses ops

-- the record is there in a newer version than the image's, or in its version with its content among the contents
abbrev pub HasImage : Image → Option CellValue → Type 0
HasImage image None = ⊥
HasImage image (Some cell) = IsTrue (is_lt (version_cmp image.version cell.0)) ⊎ ((cell.0 ≡ image.version) × IsTrue (contains_key cell.1 image.content))

-- no operation that was seen after the first `count` is a loss
abbrev pub HasNoLossAfter : ℕ → TabletReaderValue → Type 0
HasNoLossAfter count reader = AreNoLosses (drop count reader.seen)

-- every tablet reader's history only grew
abbrev pub AllKnowMore : List TabletReaderValue → List TabletReaderValue → Type 0
AllKnowMore [] [] = Unit {0}
AllKnowMore (old ∷ olds) (new ∷ news) = KnowsMore old new × AllKnowMore olds news
AllKnowMore _ _ = ⊥
