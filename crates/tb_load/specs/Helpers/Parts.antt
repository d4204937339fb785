-- The claims that the functions of a load guarantee to each other and to the calls that use them.
use Rattle.std.specs.Prelude.{◌≡◌, ◌⊎◌, ℕ, List, ◌++◌, Result, Err}
use Rattle.tb_load.specs.Loading.{IsRefused}
use Rattle.tb_load.specs.declared.fault.LoadFault.{LoadFault}
use Rattle.tb_load.specs.declared.fault.LoadFault.TheVariants.{Script, File, NoMemory}

-- these files were requested, or perhaps none if memory ran out
abbrev pub AsksFor : {A : Type 0} → List (List ℕ) → List (List ℕ) → List (List ℕ) → Result A LoadFault → Type 0
AsksFor names old new (Err NoMemory) = (new ≡ old) ⊎ (new ≡ old ++ names)
AsksFor names old new _ = new ≡ old ++ names

-- why bytes give no program
abbrev pub IsRefusedBy : List ℕ → LoadFault → Type 0
IsRefusedBy bytes (Script fault) = IsRefused bytes fault
IsRefusedBy bytes NoMemory = Unit {0}
IsRefusedBy bytes File = ⊥
