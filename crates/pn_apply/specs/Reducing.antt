-- What images bring to the tablets of a layout, and to a round.
use Rattle.std.specs.Prelude.{◌+◌, List, [], length, map, filter, ◌≡◌, ℕ, ◌∷◌, ◌++◌, Option, None, reverse}
use Rattle.std.specs.List.{flat_map, range_with_len}
use Rattle.std.specs.FinMap.{find}
use Rattle.pn_join.specs.Marks.{Positions}
use Rattle.pn_join.specs.Tables.{optional_joined}
use Rattle.pn_record.specs.declared.records.Image.{Image}
use Rattle.pn_record.specs.Cells.{Entries, table_of}
use Rattle.pn_record.specs.Sets.{bytes_cmp, CellValue, cell_joined, set_of}
use Rattle.pn_tablet.specs.Layouts.{Ends, in_range, Bounds, tablet_ends}
use Rattle.pn_tablet.specs.declared.state.TabletOp.{TabletOp}
use Rattle.pn_tablet.specs.declared.state.TabletOp.TheVariants.{Join}
use Rattle.pn_stream.specs.Brokers.{DeliveryValue}

-- What images bring to the tablets of a layout.

-- the images of all deliveries, one delivery after another
abbrev pub all_images : List DeliveryValue → List Image
all_images deliveries = flat_map (λ delivery. delivery.images) deliveries

-- the images whose keys lie in a range
abbrev pub images_in : Ends → List Image → List Image
images_in range images = filter (λ image. in_range range image.key) images

-- the ranges of a layout's tablets, in order
abbrev pub ranges : Bounds → List Ends
ranges bounds = map (tablet_ends bounds) (range_with_len 0 (length bounds + 1))

-- the join of the cells of the images in a range, with the marks
abbrev pub join_in : Positions → List Image → Ends → TabletOp
join_in marks images range = Join (table_of (images_in range images)) marks

-- the joins that images bring to the tablets of a layout
abbrev pub joins_of : Bounds → Positions → List Image → List TabletOp
joins_of bounds marks images = map (join_in marks images) (ranges bounds)

-- the cells that a join brings
abbrev pub joined_cells : TabletOp → Entries
joined_cells (Join cells marks) = cells
joined_cells _ = []

-- What images bring to a round, as cells.

-- the key of an image, and its cell
abbrev pub entry_of : Image → List ℕ × CellValue
entry_of image = (image.key, (image.version, set_of (image.content ∷ [])))

-- the entries made so far, and those of the images that are left, last first, are those of all images
abbrev pub AreMade : List Image → List Image → Entries → Type 0
AreMade images left entries = entries ++ map entry_of (reverse left) ≡ map entry_of images

-- what all cells at a key join to, where the key may stand in several entries
abbrev pub joined_at : Entries → List ℕ → Option CellValue
joined_at [] key = None
joined_at (entry ∷ entries) key = optional_joined cell_joined (find bytes_cmp key (entry ∷ [])) (joined_at entries key)
