-- The cell of a key in a list of images, the images that spell the cells of a table, and records that are not older than before.
use Rattle.std.specs.Prelude.{◌≡◌, ℕ, List, [], ◌∷◌, map, filter, Option, Some, None, option_map, Contains, All, ◌↔◌, false, Bool, true, ◌&&◌, ◌++◌}
use Rattle.std.specs.List.{flat_map, filter_map}
use Rattle.std.specs.Option.{option_map_or}
use Rattle.std.specs.Str.{bytes_eq}
use Rattle.std.specs.Ordering.{is_gt, eq_by_cmp}
use Rattle.std.specs.FinMap.{find, keys, FinMap, from_entries, entries}
use Rattle.std.specs.FinMap.Entries.{by_order}
use Rattle.std.specs.Cmp.Lexicographic.{pointwise}
use Rattle.pn_record.specs.declared.records.Image.{Image}
use Rattle.pn_record.specs.Sets.{bytes_cmp, version_cmp, content_cmp, Stamp, Contents, CellValue, set_of}

-- The cell of a key in a list of images, and the images that spell the cells of a table.

-- the version is that of one of the images, and no image has a greater one
pub record IsTop (version : Stamp) (images : List Image) : Type 0 where
  pub there : Contains (map (λ image. image.version) images) version
  pub greatest : All (λ image. is_gt (version_cmp image.version version) ≡ false) images

-- the greater of two versions
abbrev pub later : Stamp → Stamp → Stamp
later a b = by_order (version_cmp a b) b b a

-- the greatest version, if there is an image
abbrev pub top : List Image → Option Stamp
top [] = None
top (image ∷ images) = Some (option_map_or (later image.version) (top images) image.version)

-- the images of a key
abbrev pub images_of : List ℕ → List Image → List Image
images_of key images = filter (λ image. bytes_eq image.key key) images

-- the contents of the images that have a version
abbrev pub contents_with : Stamp → List Image → Contents
contents_with version images = set_of (map (λ image. image.content) (filter (λ image. eq_by_cmp version_cmp image.version version) images))

-- the greatest version, with the contents of all images that have it, if there is an image
abbrev pub cell_of : List Image → Option CellValue
cell_of images = option_map (λ version. (version, contents_with version images)) (top images)

-- the cells of a list of images, by key
abbrev pub cells : List Image → List ℕ → Option CellValue
cells images key = cell_of (images_of key images)

-- the entries of a table have exactly the cells of the images
abbrev pub Holds : List (List ℕ × CellValue) → List Image → Type 0
Holds table images = (key : List ℕ) → find bytes_cmp key table ≡ cells images key

-- one image for each content of a cell
abbrev pub spell_cell : List ℕ × CellValue → List Image
spell_cell entry = map (λ shown. record { key = entry.0; version = entry.1.0; content = shown }) (keys entry.1.1)

-- one image for each key and content
abbrev pub spell : List (List ℕ × CellValue) → List Image
spell table = flat_map spell_cell table

-- each image of one is in the other, in any order and any number
abbrev pub SameImages : List Image → List Image → Type 0
SameImages images others = (image : Image) → Contains images image ↔ Contains others image

-- When the cells of a key are the same.

-- the cells have the same version and the same contents
abbrev pub same_cell : CellValue → CellValue → Bool
same_cell a b = eq_by_cmp version_cmp a.0 b.0 && pointwise (eq_by_cmp content_cmp) (keys a.1) (keys b.1)

-- both are present and the same, or both are absent
abbrev pub same_at : Option CellValue → Option CellValue → Bool
same_at None None = true
same_at None (Some b) = false
same_at (Some a) None = false
same_at (Some a) (Some b) = same_cell a b

-- The cells of a list of images as a finite map.

-- from the keys of the images to their cells
abbrev pub cells_map : List Image → FinMap bytes_cmp CellValue
cells_map images = from_entries (filter_map (λ image. option_map (λ cell. (image.key, cell)) (cells images image.key)) images)

-- entries in key order
abbrev pub Entries : Type 0
Entries = List (List ℕ × CellValue)

-- the table of the cells of a list
unfoldable pub table_of : List Image → Entries
table_of images = entries (cells_map images)

-- a table with more images added: the table of the images that spell it and of these
unfoldable pub adds : Entries → List Image → Entries
adds table images = table_of (spell table ++ images)

-- Records that are not older than before.

-- if there was a record, there is one now, and its version is not older
abbrev pub NotOlder : Option CellValue → Option CellValue → Type 0
NotOlder None now = Unit {0}
NotOlder (Some was) None = ⊥
NotOlder (Some was) (Some now) = is_gt (version_cmp was.0 now.0) ≡ false
