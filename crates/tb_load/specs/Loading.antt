-- The result of loading the file of a script: its program, or its error.
use Rattle.std.specs.Prelude.{◌≡◌, ◌<◌, ◌≤◌, ℕ, List, Option, IfSome, length}
use Rattle.tb_body.specs.declared.program.Program.{Program}
use Rattle.tb_expand.specs.declared.fault.ExpandFault.TheVariants as expand
use Rattle.tb_script.specs.declared.fault.ScriptFault.{ScriptFault}
use Rattle.tb_script.specs.declared.fault.ScriptFault.TheVariants as script
use Rattle.tb_script.specs.Findings.{IsFound, NoTokens, NoScript, Improper, Recursive, Large, ManyRoots, Program'}
use Rattle.tb_load.specs.declared.fault.LoadFault.{LoadFault}
use Rattle.tb_load.specs.declared.fault.LoadFault.TheVariants.{Script, File, NoMemory}

-- the greatest size of a script's file, in bytes; a larger file is too long
abbrev pub most_bytes : ℕ
most_bytes = 1048576

-- these bytes can be the loaded content of a file: at most `most` bytes, and the reported content of the file, if the files report it
abbrev pub IsLoadedWithin : ℕ → Option (List ℕ) → List ℕ → Type 0
IsLoadedWithin most told bytes = IfSome told (λ held. bytes ≡ held) × (length bytes ≤ most)

-- `len` is more than `most`, and is the number of bytes of the file, if the files report its content
abbrev pub IsLongerThan : ℕ → Option (List ℕ) → ℕ → Type 0
IsLongerThan most told len = (most < len) × IfSome told (λ held. len ≡ length held)

-- these bytes can be the loaded content of the file of a script or a feed
abbrev pub IsLoaded : Option (List ℕ) → List ℕ → Type 0
IsLoaded told bytes = IsLoadedWithin most_bytes told bytes

-- the file of a script or a feed has this number of bytes, which is too large
abbrev pub IsTooLong : Option (List ℕ) → ℕ → Type 0
IsTooLong told len = IsLongerThan most_bytes told len

-- The claims of an error in a script about the script's bytes: they have this error and no other finding.
abbrev pub IsRefused : List ℕ → ScriptFault → Type 0
-- the bytes can't be tokenized
IsRefused bytes (script.Lex fault) = IsFound bytes (NoTokens fault)
-- the tokens don't parse as a script within the limits
IsRefused bytes (script.Parse fault) = IsFound bytes (NoScript fault)
-- the script fails a condition
IsRefused bytes (script.Check fault) = IsFound bytes (Improper fault)
-- the calls of the script form a cycle
IsRefused bytes (script.Expand (expand.Recursion names)) = IsFound bytes (Recursive names)
-- a process is too large
IsRefused bytes (script.Expand (expand.TooLarge name)) = IsFound bytes (Large name)
-- there are too many roots
IsRefused bytes (script.Roots count) = IsFound bytes (ManyRoots count)
-- these errors don't come here: each form is built, out of memory is no error of the script, and the length is an error of the file
IsRefused bytes (script.NotBuilt token) = ⊥
IsRefused bytes (script.Expand expand.NoMemory) = ⊥
IsRefused bytes script.NoMemory = ⊥
IsRefused bytes (script.TooLong len) = ⊥

-- The file's bytes are loaded, and they have this program and no error.
pub record HasProgram (told : Option (List ℕ)) (program : Program) : Type 0 where
  pub bytes : List ℕ
  pub loaded : IsLoaded told bytes
  pub found : IsFound bytes (Program' program)

-- the file's script is accepted
abbrev pub IsAccepted : Option (List ℕ) → Type 0
IsAccepted told = (program : Program) × HasProgram told program

-- Why the file of a script is rejected.
abbrev pub IsBadScript : Option (List ℕ) → ScriptFault → Type 0
-- the file has this number of bytes, which is too large
IsBadScript told (script.TooLong len) = IsTooLong told len
-- the file's bytes are rejected
IsBadScript told fault = (bytes : List ℕ) × IsLoaded told bytes × IsRefused bytes fault

-- Why the file of a script gives no program.
abbrev pub IsUnloaded : Option (List ℕ) → LoadFault → Type 0
-- the script is rejected
IsUnloaded told (Script fault) = IsBadScript told fault
-- the file could not be read
IsUnloaded told File = Unit {0}
-- memory ran out
IsUnloaded told NoMemory = Unit {0}
