-- Reading lines and values, and which lines and values are images.
use Rattle.std.specs.Prelude.{◌≡◌, ℕ, ◌≤◌, List, length, nat_lt, if◌then◌else◌, Option, Some, None, Result, Ok, Err, Bool, ◌&&◌, IsTrue, true, option_map, String}
use Rattle.std.specs.Option.{ok_or}
use Rattle.std.specs.Str.{is_utf8}
use Rattle.std.specs.Borrow.{Bor}
use Rattle.std.specs.declared.alloc.Global.{Global}
use Rattle.std.specs.BTreeMap.{BTreeMap}
use Rattle.serde_json.specs.Data.{Data}
use Rattle.serde_json.specs.Read.{read}
use Rattle.serde_json.specs.View.{members_view}
use Rattle.serde_json.specs.declared.value.Value.{Value}
use Rattle.pn_json.specs.Answers.{◌>>=◌}
use Rattle.pn_record.specs.Limits.{max_line_bytes, is_version, is_key, Field, is_content, names_rise}
use Rattle.pn_record.specs.Grammar.{numbers_in, image_in, fields_of}
use Rattle.pn_record.specs.declared.records.Image.{Image}
use Rattle.pn_record.specs.declared.fault.Member.TheVariants.{Version}
use Rattle.pn_record.specs.declared.fault.ImageFault.{ImageFault}
use Rattle.pn_record.specs.declared.fault.ImageFault.TheVariants.{TooLong, NotJson, BadShape, OutOfRange}
use Rattle.pn_record.specs.Writing.{image_data}

-- Reading lines and values.

-- the version that a value spells
abbrev pub version_in : Data → Result (ℕ × ℕ) ImageFault
version_in d = do
  version ← ok_or (numbers_in d) (BadShape Version)
  if is_version version then Ok version else Err (OutOfRange Version)

-- the value that `serde_json` reads from the bytes, if any
unfoldable pub reading : List ℕ → Option Data
reading bytes = if is_utf8 bytes then read bytes else None

-- the value of a line that is not too long
unfoldable pub value_at : List ℕ → Result Data ImageFault
value_at line = if nat_lt max_line_bytes (length line) then Err TooLong else ok_or (reading line) NotJson

-- the line is not too long, and `serde_json` reads a value from it that spells this
pub record IsLine {A : Type 0} (IsSpelled : Data → A → Type 0) (line : List ℕ) (meant : A) : Type 0 where
  pub short : length line ≤ max_line_bytes
  pub value : Data
  pub read : reading line ≡ Some value
  pub spelled : IsSpelled value meant

-- the image of a line
unfoldable pub image_at : List ℕ → Result Image ImageFault
image_at line = value_at line >>= image_in

-- Values and lines that are images.

-- the key, the version and the content keep the limits
abbrev pub is_image : Image → Bool
is_image image = is_key image.key && is_version image.version && is_content image.content

-- the value is the JSON of the image, which keeps the limits
pub record IsImage (d : Data) (image : Image) : Type 0 where
  pub value : d ≡ image_data image
  pub limits : IsTrue (is_image image)

-- the line is the image's JSON
abbrev pub IsImageLine : List ℕ → Image → Type 0
IsImageLine line image = IsLine IsImage line image

-- The fields of borrowed members.

-- an object's members, borrowed
abbrev pub Borrowed : Type 0
Borrowed = Bor (BTreeMap (String Global) Value)

-- the fields of the members, if there are any
abbrev pub seen_fields : Option Borrowed → Option (List Field)
seen_fields members = option_map (λ ms. fields_of (members_view ms.now.entries)) members

-- the names of the fields strictly rise, if there are any
abbrev pub body_rises : Option (List Field) → Bool
body_rises None = true
body_rises (Some fields) = names_rise fields
