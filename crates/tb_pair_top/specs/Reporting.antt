-- The line on standard error for an answer, and the status with which the program ends.
use Rattle.std.specs.Prelude.{◌≡◌, ◌⊎◌, ℕ, List, Option, Result, Ok, Err}
use Rattle.tb_edge.specs.Sinks.{Writes, WritesPrefix}
use Rattle.tb_pair_top.specs.Lines.{fault_line}
use Rattle.tb_pair_top.specs.Statuses.{status_of}
use Rattle.tb_pair_top.specs.declared.fault.PairFault.{PairFault}
use Rattle.tb_pair_top.specs.declared.status.PairStatus.{PairStatus}
use Rattle.tb_pair_top.specs.declared.status.PairStatus.TheVariants.{Ended, Outside}
use Rattle.tb_pair_top.specs.declared.status.PairEdge.TheVariants as edge

-- standard error gets nothing after `Ok`. After an error, it gets the error's line, or a prefix of
-- this line if standard error failed
abbrev pub Reports : {A : Type 0} → Result A PairFault → Option (List ℕ) → Option (List ℕ)
    → PairStatus → Type 0
Reports (Ok done) old new status = (status ≡ Ended) × (new ≡ old)
Reports (Err fault) old new status =
    ((status ≡ status_of fault) × Writes old new (fault_line fault))
    ⊎ ((status ≡ Outside edge.Err) × WritesPrefix old new (fault_line fault))

-- Some answer comes, and it is reported.
abbrev pub Reported : {A : Type 0} → (Result A PairFault → Type 0) → Option (List ℕ)
    → Option (List ℕ) → PairStatus → Type 0
Reported {A} Comes old new status =
    (answer : Result A PairFault) × Comes answer × Reports answer old new status
