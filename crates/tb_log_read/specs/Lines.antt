-- The line of an entry, the text of a log, the first line that isn't an entry's, and what each error states.
use Rattle.std.specs.Prelude.{◌≡◌, ◌≢◌, ℕ, ◌+◌, ◌^◌, ◌<◌, ◌≤◌, ◌==◌, List, [], ◌∷◌, ◌++◌, length, IsTrue, if◌then◌else◌}
use Rattle.std.specs.List.{All, list_all}
use Rattle.tb_log.specs.LogText.{entry_text, log_text}
use Rattle.tb_log.specs.Proper.{is_proper_entry}
use Rattle.tb_log.specs.Shapes.{InShape}
use Rattle.tb_log.specs.declared.entry.Entry.{Entry}
use Rattle.tb_log_read.specs.declared.fault.LogFault.{LogFault}
use Rattle.tb_log_read.specs.declared.fault.LogFault.TheVariants as fault

-- The bytes are the line of this entry with this number. The number is at least 1 and fits in 64 bits. The entry is well-formed and
-- in shape.
pub record IsLine (number : ℕ) (entry : Entry) (line : List ℕ) : Type 0 where
  pub from_one : 1 ≤ number
  pub fits : number < 2 ^ 64
  pub proper : IsTrue (is_proper_entry entry)
  pub shape : InShape entry
  pub text : line ≡ entry_text number entry

-- a log that can be read: fewer than 2^64 entries, each well-formed and in shape
pub record IsLog (log : List Entry) : Type 0 where
  pub few : length log < 2 ^ 64
  pub proper : IsTrue (list_all is_proper_entry log)
  pub shape : All InShape log

-- the first line, with its newline; without a newline, all bytes are one line
abbrev pub first_line : List ℕ → List ℕ
first_line [] = []
first_line (byte ∷ bytes) = if byte == 10 then byte ∷ [] else byte ∷ first_line bytes

-- The first line that isn't an entry's has this number: the lines before it are the text of a log, and the line exists, and isn't the
-- line of an entry with its number.
pub record StopsAt (bytes : List ℕ) (number : ℕ) : Type 0 where
  pub log : List Entry
  pub rest : List ℕ
  pub is_log : IsLog log
  pub before : bytes ≡ log_text log ++ rest
  pub counted : number ≡ length log + 1
  pub is_there : rest ≢ []
  pub is_none : (entry : Entry) → IsLine number entry (first_line rest) → ⊥

-- what an error of `read_log` states; out of memory states nothing about the bytes
abbrev pub HasFault : List ℕ → LogFault → Type 0
HasFault bytes (fault.Line number) = StopsAt bytes number
HasFault bytes fault.NoMemory = Unit {0}

-- what an error of `read_line` states: it has this number, and the line isn't that of an entry with this number; out of memory states
-- nothing of the line
abbrev pub IsNoLine : ℕ → List ℕ → LogFault → Type 0
IsNoLine number line (fault.Line named) = (named ≡ number) × ((entry : Entry) → IsLine number entry line → ⊥)
IsNoLine number line fault.NoMemory = Unit {0}
