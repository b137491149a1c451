-- A stream as a text: its lines, their messages, what is left to read, and where each fault comes.
use Rattle.std.specs.Prelude.{◌≡◌, ℕ, ◌+◌, ◌≤◌, List, [], ◌∷◌, ◌++◌, length, Option, Some, None, ◌≢◌, ◌<◌, Err, Bool, Result, Ok}
use Rattle.pn_line.specs.Line.{IsUnbroken}
use Rattle.pn_line.specs.Text.{text_of}
use Rattle.pn_line.specs.declared.reading.BoundedEnd.{BoundedEnd}
use Rattle.pn_line.specs.declared.reading.BoundedEnd.TheVariants.{Newline, EndOfInput, TooLong}
use Rattle.pn_record.specs.Limits.{max_line_bytes}
use Rattle.pn_record.specs.declared.records.Image.{Image}
use Rattle.pn_record.specs.declared.fault.ImageFault.{ImageFault}
use Rattle.pn_record.specs.declared.fault.ImageFault.TheVariants as image
use Rattle.pn_stream.specs.Messages.{IsMessageLine, message_at, Message}
use Rattle.pn_stream.specs.declared.fault.StreamFault.{StreamFault}
use Rattle.pn_stream.specs.declared.fault.StreamFault.TheVariants.{Read, LineTooLong, BadMessage, OutOfStep, Memory, Failed}

-- A stream as a text: its lines, their messages, and what is left to read.

-- the lines are the messages of these images, at the positions after this one
abbrev pub InStep : ℕ → List (List ℕ) → List Image → Type 0
InStep position [] [] = Unit {0}
InStep position (line ∷ lines) (image ∷ images) =
    IsUnbroken line × IsMessageLine line (position + 1, image) × InStep (position + 1) lines images
InStep position [] (image ∷ images) = ⊥
InStep position (line ∷ lines) [] = ⊥

-- the text begins with the messages of these images, in step, and this is the rest of it
pub record Run (position : ℕ) (text : List ℕ) (images : List Image) (rest : List ℕ) : Type 0 where
  pub lines : List (List ℕ)
  pub in_step : InStep position lines images
  pub text_is : text ≡ text_of lines ++ rest

-- the text's first line, and the text after it
pub record FirstLine (text line rest : List ℕ) : Type 0 where
  pub unbroken : IsUnbroken line
  pub text_is : text ≡ line ++ 10 ∷ rest

-- the text has no whole line, and what it has is not too long to be one
pub record NoLine (text : List ℕ) : Type 0 where
  pub unbroken : IsUnbroken text
  pub short : length text ≤ max_line_bytes

-- this text is left: the part of a line that was read, and what the source still has
abbrev pub IsLeft : List ℕ → List ℕ → Option (List ℕ) → Type 0
IsLeft text part left = (rest : List ℕ) × (left ≡ Some rest) × (text ≡ part ++ rest)

-- The faults of a stream, and where in its text each comes.

-- why a line is not the message of the position `wanted`; memory may run out at any line
abbrev pub Refuses : ℕ → List ℕ → StreamFault → Type 0
Refuses wanted line (BadMessage at fault) = (at ≡ wanted) × (message_at line ≡ Err fault)
Refuses wanted line (OutOfStep named got) = (named ≡ wanted) × (got ≢ wanted) × ((image : Image) × IsMessageLine line (got, image))
Refuses wanted line Memory = Unit {0}
Refuses wanted line Read = ⊥
Refuses wanted line LineTooLong = ⊥
Refuses wanted line Failed = ⊥

-- the first line is refused by this fault
pub record RefusedLine (wanted : ℕ) (text : List ℕ) (fault : StreamFault) : Type 0 where
  pub line : List ℕ
  pub rest : List ℕ
  pub first : FirstLine text line rest
  pub short : length line ≤ max_line_bytes
  pub refused : Refuses wanted line fault

-- too many bytes come before the first newline
pub record LongLine (text : List ℕ) : Type 0 where
  pub front : List ℕ
  pub rest : List ℕ
  pub unbroken : IsUnbroken front
  pub long : max_line_bytes < length front
  pub text_is : text ≡ front ++ rest

-- the fault comes next in the text, where the message of the position `wanted` is due; the source may fail and memory
-- run out anywhere
abbrev pub Stands : ℕ → List ℕ → StreamFault → Type 0
Stands wanted text (BadMessage at fault) = RefusedLine wanted text (BadMessage at fault)
Stands wanted text (OutOfStep named got) = RefusedLine wanted text (OutOfStep named got)
Stands wanted text LineTooLong = LongLine text
Stands wanted text Read = Unit {0}
Stands wanted text Memory = Unit {0}
Stands wanted text Failed = ⊥

-- the fault depends on the text alone
abbrev pub IsOfText : Option StreamFault → Type 0
IsOfText None = Unit {0}
IsOfText (Some Read) = ⊥
IsOfText (Some Memory) = ⊥
IsOfText (Some LineTooLong) = Unit {0}
IsOfText (Some (BadMessage at fault)) = Unit {0}
IsOfText (Some (OutOfStep named got)) = Unit {0}
IsOfText (Some Failed) = Unit {0}

-- What is made of the end of a line, and of the message that was read in it.

-- whether a further newline was seen after the line, if a whole one was read; or why none comes
abbrev pub line_ended : {E : Type 0} → Result BoundedEnd E → Result (Option Bool) StreamFault
line_ended (Ok (Newline more)) = Ok (Some more)
line_ended (Ok EndOfInput) = Ok None
line_ended (Ok TooLong) = Err LineTooLong
line_ended (Err error) = Err Read

-- why there is no message of the position `wanted`
abbrev pub fault_at : ℕ → ImageFault → StreamFault
fault_at wanted image.Memory = Memory
fault_at wanted image.TooLong = BadMessage wanted image.TooLong
fault_at wanted image.NotJson = BadMessage wanted image.NotJson
fault_at wanted (image.BadShape member) = BadMessage wanted (image.BadShape member)
fault_at wanted (image.OutOfRange member) = BadMessage wanted (image.OutOfRange member)

-- the message that was read, or why there is none of the position `wanted`
abbrev pub message_due : ℕ → Result Message ImageFault → Result Message StreamFault
message_due wanted (Ok message) = Ok message
message_due wanted (Err fault) = Err (fault_at wanted fault)
