-- What a call for the next messages of a stream gives, and lines that are taken before their messages are read.
use Rattle.std.specs.Prelude.{◌≡◌, ℕ, ◌+◌, ◌<◌, ◌≤◌, List, [], length, Option, OnSome, Some, None, ◌⊎◌, IsTrue, ◌^◌, ◌∷◌, ◌++◌, All}
use Rattle.pn_line.specs.Line.{LineBufferValue, so_far, HasShown, IsUnbroken}
use Rattle.pn_line.specs.Text.{text_of}
use Rattle.pn_join.specs.Marks.{is_position}
use Rattle.pn_record.specs.declared.records.Image.{Image}
use Rattle.pn_record.specs.Limits.{max_line_bytes}
use Rattle.pn_stream.specs.Messages.{IsMessageLine}
use Rattle.pn_stream.specs.Streams.{Run, FirstLine, NoLine, IsLeft, InStep, Stands, Refuses}
use Rattle.pn_stream.specs.declared.fault.StreamFault.{StreamFault}
use Rattle.pn_stream.specs.declared.next.NextMessage.{NextMessage}
use Rattle.pn_stream.specs.declared.lines.NextLine.{NextLine}

-- What a call for the next messages of a stream gives.

-- a reader of a stream: its name, the last position returned, the part of a line that was read, a fault for the next
-- call, and the source
pub record Stream (S : Type 0) : Type 0 where
  pub name : List ℕ
  pub position : ℕ
  pub part : List ℕ
  pub fault : Option StreamFault
  pub source : S

-- the bytes of a line, if there is one
abbrev pub part_of : Option LineBufferValue → List ℕ
part_of None = []
part_of (Some line) = line.bytes

-- a batch of `count` images ends before this text: it has enough and read no byte after them, or no whole line is
-- left, or this fault follows
abbrev pub Ends : ℕ → ℕ → ℕ → ℕ → List ℕ → Option StreamFault → List ℕ → Option (List ℕ) → Type 0
Ends least most count position text None part left = (((least ≤ count) × (part ≡ [])) ⊎ ((count < least) × NoLine text)) × IsLeft text part left
Ends least most count position text (Some fault) part left = (count < most) × Stands (position + count + 1) text fault

-- the text begins with these messages in step, at most `most`; fewer than `least` only where no whole line is left or
-- a fault follows
pub record Batch (least most position : ℕ) (text : List ℕ) (images : List Image) (fault : Option StreamFault) (part : List ℕ) (left : Option (List ℕ)) : Type 0 where
  pub rest : List ℕ
  pub within : length images ≤ most
  pub run : Run position text images rest
  pub ends : Ends least most (length images) position rest fault part left

-- the text begins with the messages of these images, and this is left of it
pub record SoFar (position : ℕ) (text : List ℕ) (images : List Image) (part : List ℕ) (left : Option (List ℕ)) : Type 0 where
  pub rest : List ℕ
  pub run : Run position text images rest
  pub is_left : IsLeft rest part left

-- the line holds a part without its newline, and is not too long
pub record IsPart (line : LineBufferValue) : Type 0 where
  pub line_is : line ≡ so_far line.bytes
  pub part : NoLine line.bytes

-- of a message that was read: nothing of the next line was read, a newline that was seen there is left, and the position
-- is one of a stream
pub record IsTaken (part : List ℕ) (left leaves : Option (List ℕ)) (message : NextMessage) : Type 0 where
  pub none : part ≡ []
  pub more : OnSome left (HasShown message.more leaves)
  pub in_range : IsTrue (is_position message.at)

-- the next message of the text, if a whole line is there, and what is left then
abbrev pub IsNext : List ℕ → Option NextMessage → List ℕ → Option (List ℕ) → Type 0
IsNext text (Some found) part left =
    (line : List ℕ) × (rest : List ℕ) × FirstLine text line rest × IsMessageLine line (found.at, found.image) × IsLeft rest part left
IsNext text None part left = NoLine text × IsLeft text part left

-- Lines that are taken from a stream before their messages are read, and what is read of them.

-- the bytes are one line without its newline, which is not too long
pub record IsWhole (line : List ℕ) : Type 0 where
  pub unbroken : IsUnbroken line
  pub short : length line ≤ max_line_bytes

-- whole lines, whose messages have positions below 2^64
abbrev pub CanBeRead : ℕ → List (List ℕ) → Type 0
CanBeRead position lines = All IsWhole lines × (position + length lines < 2 ^ 64)

-- the next line of the text, if a whole one is there, and what is left then
abbrev pub IsNextLine : List ℕ → Option NextLine → List ℕ → Option (List ℕ) → Type 0
IsNextLine text (Some next) part left = (rest : List ℕ) × FirstLine text next.line rest × IsLeft rest part left
IsNextLine text None part left = NoLine text × IsLeft text part left

-- the text begins with these lines, and this is left of it
pub record LinesSoFar (text : List ℕ) (lines : List (List ℕ)) (part : List ℕ) (left : Option (List ℕ)) : Type 0 where
  pub rest : List ℕ
  pub text_is : text ≡ text_of lines ++ rest
  pub is_left : IsLeft rest part left

-- the text begins with these lines, at most `most`; after them it ends as a batch of as many messages does, at whatever
-- positions they stand
pub record Gathered (least most : ℕ) (text : List ℕ) (lines : List (List ℕ)) (fault : Option StreamFault) (part : List ℕ) (left : Option (List ℕ)) : Type 0 where
  pub rest : List ℕ
  pub within : length lines ≤ most
  pub text_is : text ≡ text_of lines ++ rest
  pub ends : (position : ℕ) → Ends least most (length lines) position rest fault part left

-- the image of the line's message, whose position is this one, is added at the end
pub record AddsMessage (position : ℕ) (line : List ℕ) (old new : List Image) : Type 0 where
  pub image : Image
  pub said : IsMessageLine line (position, image)
  pub grown : new ≡ old ++ image ∷ []

-- no line is left, or the first is refused by this fault where the message of the position `wanted` is due
abbrev pub StopsAt : ℕ → List (List ℕ) → Option StreamFault → Type 0
StopsAt wanted [] None = Unit {0}
StopsAt wanted (line ∷ lines) None = ⊥
StopsAt wanted [] (Some fault) = ⊥
StopsAt wanted (line ∷ lines) (Some fault) = Refuses wanted line fault

-- the lines begin with the messages of these images, in step; then no line is left, or this fault refuses the next one
pub record IsRead (position : ℕ) (lines : List (List ℕ)) (images : List Image) (fault : Option StreamFault) : Type 0 where
  pub front : List (List ℕ)
  pub back : List (List ℕ)
  pub lines_are : lines ≡ front ++ back
  pub in_step : InStep position front images
  pub stops : StopsAt (position + length images + 1) back fault

-- the fault at one of the lines, which comes before the fault that ended them
abbrev pub first_fault : Option StreamFault → Option StreamFault → Option StreamFault
first_fault (Some fault) end = Some fault
first_fault None end = end
