-- What `at` writes about the scripts in files.
use Rattle.std.specs.Prelude.{◌≡◌, ◌≢◌, ℕ, List, [], ◌∷◌, ◌++◌, Option, None}
use Rattle.tb_edge.specs.Sinks.{Writes, WritesPrefix}
use Rattle.tb_body.specs.declared.program.Program.{Program}
use Rattle.tb_script.specs.Findings.{IsFound, Program'}
use Rattle.tb_script.specs.declared.fault.ScriptFault.TheVariants as fault
use Rattle.tb_fault_place.specs.Points.{IsPoint, TellsFault}
use Rattle.tb_fault_place.specs.declared.point.Point.{Point}
use Rattle.tb_lens.specs.Loads.{CantRead, IsHeld, IsOver}
use Rattle.tb_lens.specs.declared.status.Status.{Status}
use Rattle.tb_lens.specs.declared.status.Status.TheVariants.{Fine, Found, Trouble}
use Rattle.tb_lens.specs.declared.status.Trouble.{Trouble as Reason}
use Rattle.tb_lens.specs.declared.status.Trouble.TheVariants as trouble

-- the greatest number of bytes of a script: a longer file has an error
abbrev pub most_bytes : ℕ
most_bytes = 1048576

-- bytes that the name may hold, not too many for a script
abbrev pub IsLoaded : Option (List ℕ) → List ℕ → Type 0
IsLoaded told bytes = IsHeld most_bytes told bytes

-- a number of bytes that the name may hold, too many for a script
abbrev pub IsTooLong : Option (List ℕ) → ℕ → Type 0
IsTooLong told len = IsOver most_bytes told len

-- the error of a file with `len` bytes, which has no place
abbrev pub long_point : ℕ → Point
long_point len = record { fault = fault.TooLong len; mark = None }

-- What is written about the file of this name: nothing if and only if its script is accepted, or else the error that `toolbus check`
-- reports, with its place and its name.
pub data TellsOf (told : Option (List ℕ)) (name text : List ℕ) : Type 0 where
  accepted : (bytes : List ℕ) (program : Program) → IsLoaded told bytes → IsFound bytes (Program' program) → text ≡ [] → TellsOf told name text
  refused : (bytes : List ℕ) (point : Point) → IsLoaded told bytes → IsPoint bytes point → TellsFault name bytes point text → TellsOf told name text
  long : (len : ℕ) → IsTooLong told len → TellsFault name [] (long_point len) text → TellsOf told name text

-- what is written about each file, in order
abbrev pub TellsOfAll : (List ℕ → Option (List ℕ)) → List (List ℕ) → List ℕ → Type 0
TellsOfAll held [] text = text ≡ []
TellsOfAll held (name ∷ names) text =
    (first : List ℕ) × (rest : List ℕ) × TellsOf (held name) name first × TellsOfAll held names rest × (text ≡ first ++ rest)

-- the status tells whether there is a text
abbrev pub Says : List ℕ → Status → Type 0
Says text Fine = text ≡ []
Says text Found = text ≢ []
Says text Trouble = ⊥

-- the whole text is written, with its status, and nothing else
pub record AtOutcome (held : List ℕ → Option (List ℕ)) (names : List (List ℕ)) (old new : Option (List ℕ)) (status : Status) : Type 0 where
  pub text : List ℕ
  pub tells : TellsOfAll held names text
  pub says : Says text status
  pub written : Writes old new text

-- Why the call fails: one of the files can't be read, the write fails, or memory runs out (at any time).
abbrev pub IsReason : {S : Type 0} → (S → List (List ℕ)) → (S → ℕ) → List (List ℕ) → S → S → Type 0 → Reason → Type 0
IsReason asked faults names old new out_failed (trouble.File name) = CantRead asked faults names name.bytes.items old new
IsReason asked faults names old new out_failed trouble.Out = out_failed
IsReason asked faults names old new out_failed trouble.NoMemory = Unit {0}
IsReason asked faults names old new out_failed (trouble.TooLong name) = ⊥
IsReason asked faults names old new out_failed (trouble.Script name) = ⊥
IsReason asked faults names old new out_failed trouble.Connect = ⊥
IsReason asked faults names old new out_failed trouble.Input = ⊥

-- a prefix of the text about all files is written
abbrev pub TellsInPart : (List ℕ → Option (List ℕ)) → List (List ℕ) → Option (List ℕ) → Option (List ℕ) → Type 0
TellsInPart held names old new = (text : List ℕ) × TellsOfAll held names text × WritesPrefix old new text

-- nothing is written, unless the write to the output failed
abbrev pub AtFailure : (List ℕ → Option (List ℕ)) → List (List ℕ) → Option (List ℕ) → Option (List ℕ) → Reason → Type 0
AtFailure held names old new (trouble.File name) = new ≡ old
AtFailure held names old new trouble.Out = TellsInPart held names old new
AtFailure held names old new trouble.NoMemory = new ≡ old
AtFailure held names old new (trouble.TooLong name) = new ≡ old
AtFailure held names old new (trouble.Script name) = new ≡ old
AtFailure held names old new trouble.Connect = new ≡ old
AtFailure held names old new trouble.Input = new ≡ old
