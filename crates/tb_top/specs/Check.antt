-- The answers of `check`, and the bytes that it writes.
use Rattle.std.specs.Prelude.{◌≡◌, ℕ, List, Option, Result, Ok, Err, codes}
use Rattle.tb_edge.specs.Sinks.{Writes, WritesPrefix}
use Rattle.tb_load.specs.Loading.{IsAccepted}
use Rattle.tb_top.specs.Loading.{IsUnloaded}
use Rattle.tb_top.specs.declared.fault.Fault.{Fault}
use Rattle.tb_top.specs.declared.fault.Fault.TheVariants.{Script, File, Out, NoMemory}

abbrev pub ok_line : List ℕ
ok_line = codes "ok\n"

-- the claims about `check` by its answer, for the reported content of the script's file, and the
-- bytes of the sink before and after the call
abbrev pub CheckOutcome : {A : Type 0} → Option (List ℕ) → Option (List ℕ) → Option (List ℕ)
    → Result A Fault → Type 0
-- the script is accepted
CheckOutcome told old new (Ok done) = IsAccepted told × Writes old new ok_line
-- the script is accepted, and the sink failed
CheckOutcome told old new (Err Out) = IsAccepted told × WritesPrefix old new ok_line
-- the script was rejected
CheckOutcome told old new (Err (Script fault)) = IsUnloaded told (Script fault) × (new ≡ old)
-- the script's file could not be read
CheckOutcome told old new (Err File) = new ≡ old
-- memory ran out
CheckOutcome told old new (Err NoMemory) = new ≡ old
-- no other answer comes
CheckOutcome told old new _ = ⊥
