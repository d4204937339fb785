-- Why the file of a script gives no program, as an error of a command.
use Rattle.std.specs.Prelude.{ℕ, List, Option}
use Rattle.tb_load.specs.Loading.{IsBadScript}
use Rattle.tb_top.specs.declared.fault.Fault.{Fault}
use Rattle.tb_top.specs.declared.fault.Fault.TheVariants.{Script, File, NoMemory}

abbrev pub IsUnloaded : Option (List ℕ) → Fault → Type 0
-- the script is rejected
IsUnloaded told (Script fault) = IsBadScript told fault
-- the file could not be read
IsUnloaded told File = Unit {0}
-- memory ran out
IsUnloaded told NoMemory = Unit {0}
-- no other error comes
IsUnloaded told _ = ⊥
