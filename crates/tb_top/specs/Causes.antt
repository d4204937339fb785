-- The part of the environment that failed if its error is reported.
use Rattle.std.specs.Prelude.{Result, Ok, Err}
use Rattle.tb_edge.specs.Faults.{Rose}
use Rattle.tb_top.specs.Views.{Seen}
use Rattle.tb_top.specs.declared.fault.Fault.{Fault}
use Rattle.tb_top.specs.declared.fault.Fault.TheVariants.{File, Out, Clock, Crew}

-- An answer names a part of the environment only if the count of failures of this part rose in the
-- call.
abbrev pub IsCaused : {A : Type 0} → Seen → Seen → Result A Fault → Type 0
IsCaused old new (Err File) = Rose old.file_faults new.file_faults
IsCaused old new (Err Out) = Rose old.outside.out_faults new.outside.out_faults
IsCaused old new (Err Clock) = Rose old.outside.clock_faults new.outside.clock_faults
IsCaused old new (Err Crew) = Rose old.outside.crew_faults new.outside.crew_faults
IsCaused old new _ = Unit {0}
