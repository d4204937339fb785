-- The answers of `iface`, and the bytes that it writes.
use Rattle.std.specs.Prelude.{◌≡◌, ℕ, List, Option, Some, None, Result, Ok, Err}
use Rattle.tb_edge.specs.Sinks.{Writes, WritesPrefix}
use Rattle.tb_body.specs.declared.program.Program.{Program}
use Rattle.tb_iface.specs.Interfaces.{interface_of}
use Rattle.tb_iface.specs.PatternTexts.{interface_text}
use Rattle.tb_iface.specs.declared.answer.Interface.{Interface}
use Rattle.tb_load.specs.Loading.{HasProgram}
use Rattle.tb_top.specs.Loading.{IsUnloaded}
use Rattle.tb_top.specs.declared.fault.Fault.{Fault}
use Rattle.tb_top.specs.declared.fault.Fault.TheVariants.{Script, File, Out, NoMemory, Stranger}

-- The script has a program, in which the tool of this name has this interface.
pub record HasInterface (told : Option (List ℕ)) (tool : List ℕ) (interface : Interface) : Type 0
  where
    pub program : Program
    pub has : HasProgram told program
    pub is : interface_of program tool ≡ Some interface

-- The script has a program, in which no tool has this name.
pub record HasNoTool (told : Option (List ℕ)) (tool : List ℕ) : Type 0 where
  pub program : Program
  pub has : HasProgram told program
  pub none : interface_of program tool ≡ None

-- the claims about `iface` by its answer, for the reported content of the script's file, the tool's
-- name, and the bytes of the sink before and after the call
abbrev pub IfaceOutcome : {A : Type 0} → Option (List ℕ) → List ℕ → Option (List ℕ)
    → Option (List ℕ) → Result A Fault → Type 0
-- the tool's interface was written
IfaceOutcome told tool old new (Ok done) =
    (interface : Interface) × HasInterface told tool interface
    × Writes old new (interface_text tool interface)
-- the sink failed: a prefix of the interface was written
IfaceOutcome told tool old new (Err Out) =
    (interface : Interface) × HasInterface told tool interface
    × WritesPrefix old new (interface_text tool interface)
-- the script is accepted, and has no such tool
IfaceOutcome told tool old new (Err Stranger) = HasNoTool told tool × (new ≡ old)
-- the script was rejected
IfaceOutcome told tool old new (Err (Script fault)) = IsUnloaded told (Script fault) × (new ≡ old)
-- the script's file could not be read
IfaceOutcome told tool old new (Err File) = new ≡ old
-- memory ran out
IfaceOutcome told tool old new (Err NoMemory) = new ≡ old
-- no other answer comes
IfaceOutcome told tool old new _ = ⊥
