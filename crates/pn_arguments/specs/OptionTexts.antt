-- What the texts of options say: bounds, permissions of sockets, and streams.
use Rattle.std.specs.Prelude.{ℕ, List, if◌then◌else◌, Result, Ok, Err, Bool, ◌&&◌, nat_le, nat_lt, length, ◌+◌, not, ◌==◌, [], ◌∷◌, drop, codes, string_bytes, Option, Some, None}
use Rattle.std.specs.Option.{ok_or}
use Rattle.std.specs.Char.{digit_value}
use Rattle.std.specs.List.{list_all, list_any, before_first, after_first, position_or_len, starts_with}
use Rattle.std.specs.Str.Parse.{digits_value, without_leading_plus}
use Rattle.std.specs.Str.{bytes_eq}
use Rattle.serde_json.specs.Data.{Data}
use Rattle.serde_json.specs.Find.{as_array, as_str}
use Rattle.pn_join.specs.Naming.{is_name}
use Rattle.pn_json.specs.Answers.{◌>>=◌}
use Rattle.pn_json.specs.Members.{each_in}
use Rattle.pn_record.specs.Limits.{is_key}
use Rattle.pn_record.specs.Reading.{reading}
use Rattle.pn_tablet.specs.Layouts.{Bounds, layout_of}
use Rattle.pn_tablet.specs.declared.layout.LayoutFault.{LayoutFault}
use Rattle.pn_region.specs.declared.marking.TheConstants.{MAX_STREAMS}
use Rattle.pn_serve.specs.declared.server.publishers.StreamPath.{StreamPath}
use Rattle.pn_serve.specs.declared.server.publishers.StreamPath.TheVariants as path
use Rattle.pn_arguments.specs.declared.faults.OptionFault.{OptionFault}
use Rattle.pn_arguments.specs.declared.faults.Why.TheVariants.{NoArray, NoJson, NoKey, NoLayout, LongPath, NameTwice, NoEquals, NoName, NoPath, TooMany}
use Rattle.pn_arguments.specs.declared.bounds.TheConstants.{MAX_PERMISSIONS, OCTAL}
use Rattle.pn_arguments.specs.declared.streams.TheConstants.{MAX_SOCKET_BYTES}
use Rattle.pn_arguments.specs.declared.faults.OptionFault.TheVariants as fault

-- The bounds that a text says.

-- a key of 1 to 256 bytes
abbrev pub key_in : Data → Result (List ℕ) OptionFault
key_in d = do
  text ← ok_or (as_str d) (fault.Bounds NoKey)
  if is_key text then Ok text else Err (fault.Bounds NoKey)

-- a layout, or why bounds are none
abbrev pub or_bounds : Result Bounds LayoutFault → Result Bounds OptionFault
or_bounds (Ok layout) = Ok layout
or_bounds (Err other) = Err (fault.Bounds (NoLayout other))

-- the layout whose bounds are a JSON array of keys
unfoldable pub bounds_in : List ℕ → Result Bounds OptionFault
bounds_in text = do
  value ← ok_or (reading text) (fault.Bounds NoJson)
  items ← ok_or (as_array value) (fault.Bounds NoArray)
  keys ← each_in key_in items
  or_bounds (layout_of keys)

-- The permissions of sockets that a text says.

-- one octal digit or more, and nothing else
abbrev pub is_octal : List ℕ → Bool
is_octal text = nat_lt 0 (length text) && list_all (λ c. nat_lt (digit_value c) OCTAL) text

-- octal digits write permissions
abbrev pub are_permissions : List ℕ → Bool
are_permissions digits = is_octal digits && nat_le (digits_value OCTAL digits) MAX_PERMISSIONS

-- the permissions that a text writes
abbrev pub permissions_in : List ℕ → Result ℕ OptionFault
permissions_in text =
    let digits = without_leading_plus text in
    if are_permissions digits then Ok (digits_value OCTAL digits) else Err fault.SocketMode

-- Streams as arguments.

-- the path of a file, or of a socket that is listened on
pub data PathValue : Type 0 where
  file : List ℕ → PathValue
  listen : List ℕ → PathValue

-- a stream's name, and where it is read
abbrev pub StreamValue : Type 0
StreamValue = List ℕ × PathValue

-- the byte `=`
abbrev pub is_equals : ℕ → Bool
is_equals byte = byte == 61

-- a text has no `=`
abbrev pub lacks_equals : List ℕ → Bool
lacks_equals word = position_or_len is_equals word == length word

-- what the path of a socket that is listened on begins with
abbrev pub listen_word : List ℕ
listen_word = codes "listen:"

-- with `--stay`, a path begins with this
abbrev pub is_listened : Bool → List ℕ → Bool
is_listened stays text = stays && starts_with ◌==◌ text listen_word

-- a file's path, which is not empty
abbrev pub file_in : ℕ → List ℕ → Result PathValue OptionFault
file_in index text = if length text == 0 then Err (fault.Stream index NoPath) else Ok (file text)

-- a socket's path, which is neither empty nor too long
abbrev pub socket_in : ℕ → List ℕ → Result PathValue OptionFault
socket_in index text =
    if length text == 0 then Err (fault.Stream index NoPath)
    else if nat_lt MAX_SOCKET_BYTES (length text) then Err (fault.Stream index LongPath)
    else Ok (listen text)

-- the path of a socket after `listen:`, or else of a file
abbrev pub path_in : Bool → ℕ → List ℕ → Result PathValue OptionFault
path_in stays index text = if is_listened stays text then socket_in index (drop (length listen_word) text) else file_in index text

-- a name, and where its stream is read
abbrev pub named_in : Bool → ℕ → List ℕ → List ℕ → Result StreamValue OptionFault
named_in stays index name text =
    if not (is_name name) then Err (fault.Stream index NoName)
    else do
      found ← path_in stays index text
      Ok (name, found)

-- the stream of an argument, which is split at its first `=`
abbrev pub stream_in : Bool → ℕ → List ℕ → Result StreamValue OptionFault
stream_in stays index word =
    if lacks_equals word then Err (fault.Stream index NoEquals)
    else named_in stays index (before_first is_equals word) (after_first is_equals word)

-- the streams of arguments from this index on, or the first fault
abbrev pub each_stream : Bool → ℕ → List (List ℕ) → Result (List StreamValue) OptionFault
each_stream stays index [] = Ok []
each_stream stays index (word ∷ words) = do
  stream ← stream_in stays index word
  streams ← each_stream stays (index + 1) words
  Ok (stream ∷ streams)

-- a stream of the list has the name
abbrev pub has_name : List StreamValue → List ℕ → Bool
has_name streams name = list_any (λ stream. bytes_eq stream.0 name) streams

-- the index of the first stream whose name a later one has, where those of the list are counted from this index on
abbrev pub repeated_from : ℕ → List StreamValue → Option ℕ
repeated_from index [] = None
repeated_from index (stream ∷ streams) = if has_name streams stream.0 then Some index else repeated_from (index + 1) streams

-- streams whose names differ
abbrev pub once : Option ℕ → List StreamValue → Result (List StreamValue) OptionFault
once None streams = Ok streams
once (Some index) streams = Err (fault.Stream index NameTwice)

-- at most 16 streams, whose names differ
unfoldable pub streams_in : Bool → List (List ℕ) → Result (List StreamValue) OptionFault
streams_in stays words =
    if nat_lt MAX_STREAMS (length words) then Err (fault.Stream MAX_STREAMS TooMany)
    else do
      streams ← each_stream stays 0 words
      once (repeated_from 0 streams) streams

-- where a stream of the program is read
abbrev pub path_value : StreamPath → PathValue
path_value (path.File text) = file (string_bytes text)
path_value (path.Listen text) = listen (string_bytes text)

-- a stream of the program
abbrev pub stream_value : List ℕ × StreamPath → StreamValue
stream_value stream = (stream.0, path_value stream.1)
