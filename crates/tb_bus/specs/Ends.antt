-- The steps that shut down a bus.
use Rattle.std.specs.Prelude.{⊤}
use Rattle.tb_log.specs.declared.entry.LabelKind.{LabelKind}
use Rattle.tb_log.specs.declared.entry.LabelKind.TheVariants as kind

-- the kinds `finish` (no process is left), `halt` (no process can make a step, and no more ticks come), and `shutdown` (by a process)
abbrev pub TakesDown : LabelKind → Type 0
TakesDown kind.Finish = ⊤
TakesDown kind.Halt = ⊤
TakesDown kind.Shutdown = ⊤
TakesDown kind = ⊥
