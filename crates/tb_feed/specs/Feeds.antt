-- The feed of a text: an input for each line that isn't empty.
use Rattle.std.specs.Prelude.{◌≡◌, ◌≢◌, ◌==◌, ℕ, ◌+◌, Bool, true, false, List, [], ◌∷◌, ◌++◌, length, filter, codes, ⊤}
use Rattle.std.specs.List.{AllZip, slice_split}
use Rattle.std.specs.Fmt.{decimal}
use Rattle.tb_log.specs.Shapes.{IsLane, IsInputInShape}
use Rattle.tb_log.specs.declared.entry.Input.{Input}
use Rattle.tb_log.specs.declared.entry.Input.TheVariants.{Tick, NoTicks, Gone, Cut}
use Rattle.tb_log.specs.declared.entry.Input.TheVariants as input_of
use Rattle.tb_tool_line.specs.ToolLines.{IsToolLine}
use Rattle.tb_feed.specs.declared.fault.FeedFault.{FeedFault}
use Rattle.tb_feed.specs.declared.fault.FeedFault.TheVariants.{Line, TooLong, NoMemory}

-- an input that can be part of a feed: it is in shape, and isn't the end of ticks (`noticks`)
abbrev pub MayBeFed : Input → Type 0
MayBeFed input = IsInputInShape input × (input ≢ NoTicks)

-- the lines of a text without their newlines (byte 10); the last line is the text after the last newline
abbrev pub lines_of : List ℕ → List (List ℕ)
lines_of text = slice_split (λ byte. byte == 10) text

-- A line has an input: one case for each input. The number of a lane is decimal, without leading zeros.
abbrev pub Says : List ℕ → Input → Type 0
Says line Tick = line ≡ codes "tick"
-- no line has `noticks`
Says line NoTicks = ⊥
-- after one space, the bytes that the tool has written, whatever they are
Says line (input_of.Line lane said) = IsLane lane × ((text : List ℕ) × (line ≡ codes "line " ++ decimal lane ++ codes " " ++ text) × IsToolLine text said)
Says line (Gone lane) = IsLane lane × (line ≡ codes "gone " ++ decimal lane)
Says line (Cut lane) = IsLane lane × (line ≡ codes "cut " ++ decimal lane)

abbrev pub is_full : List ℕ → Bool
is_full [] = false
is_full (byte ∷ line) = true

-- The lines have these inputs, one each, in order. Empty lines have none.
abbrev pub SayAll : List (List ℕ) → List Input → Type 0
SayAll lines inputs = AllZip Says (filter is_full lines) inputs

-- a text has this feed
abbrev pub IsFeedOf : List ℕ → List Input → Type 0
IsFeedOf text inputs = SayAll (lines_of text) inputs

-- The line with this number, from 1, isn't empty and has no input. Each line before it is empty or has an input.
pub record IsFirstBad (text : List ℕ) (number : ℕ) : Type 0 where
  pub before : List (List ℕ)
  pub line : List ℕ
  pub after : List (List ℕ)
  pub are_lines : lines_of text ≡ before ++ line ∷ after
  pub number_is : number ≡ length before + 1
  pub inputs : List Input
  pub fine : SayAll before inputs
  pub full : is_full line ≡ true
  pub bad : (input : Input) → Says line input → ⊥

-- The meaning of an error for the text.
abbrev pub IsFaultOf : List ℕ → FeedFault → Type 0
IsFaultOf text (Line number) = IsFirstBad text number
-- `TooLong` never holds here: the limit of the length is no part of this definition
IsFaultOf text (TooLong len) = ⊥
-- out of memory says nothing of the text
IsFaultOf text NoMemory = ⊤
