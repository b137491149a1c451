-- The laws of `src/laws.rt`.
use Rattle.std.proofs.Common.{◌≡◌, true, List, [], ◌∷◌, ◌++◌, map, Option, sym, ap, ◌∙◌, subst}
use Rattle.std.specs.List.{flat_map}
use Rattle.std.proofs.lemmas.List.Elements.{filter-append}
use Rattle.std.proofs.lemmas.List.Folds.{flat_map-map}
use Rattle.pn_join.specs.Marks.{Positions, are_positions}
use Rattle.pn_record.specs.declared.records.Image.{Image}
use Rattle.pn_record.specs.Sets.{CellValue}
use Rattle.pn_record.specs.Cells.{SameImages, cells, spell, Entries, table_of, adds}
use Rattle.pn_record.proofs.CellLists.{both, cells-append, cells-same}
use Rattle.pn_record.proofs.CellMaps.{rising-table_of, adds-table_of, same_cells_table, cells-spelled}
use Rattle.pn_tablet.specs.Layouts.{Ends, in_range, Bounds, IsLayout}
use Rattle.pn_tablet.specs.Tablets.{TabletStateValue, lie_in}
use Rattle.pn_tablet.specs.declared.state.TabletOp.{TabletOp}
use Rattle.pn_tablet.specs.declared.state.TabletOp.TheVariants.{Join}
use Rattle.pn_apply.specs.Applying.{AreJoinsIn, HavePositions}
use Rattle.pn_apply.specs.Reducing.{images_in, ranges, join_in, joins_of, joined_cells}
use Rattle.pn_apply.proofs.Tables.{entries_that, table_that, all_that, all_pieces}

pub cells_cut : (bounds : Bounds) (images : List Image) → IsLayout bounds → flat_map (λ (range : Ends). table_of (images_in range images)) (ranges bounds) ≡ table_of images
cells_cut bounds images lawful =
    ap (λ (f : Ends → Entries). flat_map f (ranges bounds)) (λ i range. table_that (in_range range) images i) ∙ all_pieces bounds (table_of images) lawful (rising-table_of images)

pub operations_cut : (bounds : Bounds) (marks : Positions) (images : List Image) → IsLayout bounds → flat_map joined_cells (joins_of bounds marks images) ≡ table_of images
operations_cut bounds marks images lawful = flat_map-map joined_cells (join_in marks images) (ranges bounds) ∙ cells_cut bounds images lawful

pub range_joins : (range : Ends) (images more : List Image) → adds (table_of (images_in range images)) (spell (table_of (images_in range more))) ≡ table_of (images_in range (images ++ more))
range_joins range images more =
    let own = images_in range images in
    let theirs = images_in range more in
    let spelled = spell (table_of theirs) in
    adds-table_of own spelled
    ∙ same_cells_table (own ++ spelled) (own ++ theirs) (λ key. cells-append own spelled key ∙ ap (λ (c : Option CellValue). both (cells own key) c) (cells-spelled theirs key) ∙ sym (cells-append own theirs key))
    ∙ ap table_of (sym (filter-append (λ (image : Image). in_range range image.key) images more))

-- the same images have the same cells in a range
pub same_in : (range : Ends) (images others : List Image) → SameImages images others → table_of (images_in range images) ≡ table_of (images_in range others)
same_in range images others same =
    table_that (in_range range) images
    ∙ ap (entries_that (in_range range)) (same_cells_table images others (cells-same images others same))
    ∙ sym (table_that (in_range range) others)

pub same_joins : (bounds : Bounds) (marks : Positions) (images others : List Image) → SameImages images others → joins_of bounds marks images ≡ joins_of bounds marks others
same_joins bounds marks images others same =
    ap (λ (f : Ends → TabletOp). map f (ranges bounds)) (λ i range. Join (same_in range images others same i) marks)

-- the cells of the images in a range lie there
pub cells_inside : (range : Ends) (images : List Image) → lie_in range (table_of (images_in range images)) ≡ true
cells_inside range images = ap (lie_in range) (table_that (in_range range) images) ∙ all_that (in_range range) (table_of images)

fit_own : (marks : Positions) (images : List Image) (tablets : List TabletStateValue) → AreJoinsIn tablets (map (join_in marks images) (map (λ (t : TabletStateValue). t.range) tablets))
fit_own marks images [] = tt
fit_own marks images (t ∷ tablets) = (cells_inside t.range images, fit_own marks images tablets)

pub joins_fit : (bounds : Bounds) (marks : Positions) (images : List Image) (tablets : List TabletStateValue) → map (λ (t : TabletStateValue). t.range) tablets ≡ ranges bounds → AreJoinsIn tablets (joins_of bounds marks images)
joins_fit bounds marks images tablets is = subst (λ (rs : List Ends). AreJoinsIn tablets (map (join_in marks images) rs)) is (fit_own marks images tablets)

with_positions : (marks : Positions) (images : List Image) (rs : List Ends) → are_positions marks ≡ true → HavePositions (map (join_in marks images) rs)
with_positions marks images [] lawful = tt
with_positions marks images (r ∷ rs) lawful = (lawful, with_positions marks images rs lawful)

pub joins_have_positions : (bounds : Bounds) (marks : Positions) (images : List Image) → are_positions marks ≡ true → HavePositions (joins_of bounds marks images)
joins_have_positions bounds marks images lawful = with_positions marks images (ranges bounds) lawful
