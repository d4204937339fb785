-- Why a bus of a pair ends, from why its workers ended, and why the pair ends.
use Rattle.std.specs.Prelude.{Bool, List, ◌∷◌, if◌then◌else◌}
use Rattle.std.specs.List.{list_any}
use Rattle.tb_run.specs.Reasons.{is_no_memory, is_full_end}
use Rattle.tb_run.specs.declared.ends.WorkEnd.{WorkEnd}
use Rattle.tb_run.specs.declared.ends.WorkEnd.TheVariants as end
use Rattle.tb_run.specs.declared.ends.RunWhy.{RunWhy}
use Rattle.tb_run.specs.declared.ends.RunWhy.TheVariants as run
use Rattle.tb_pair_run.specs.Outcomes.{of_both}
use Rattle.tb_pair_run.specs.declared.ends.BusWhy.{BusWhy}
use Rattle.tb_pair_run.specs.declared.ends.BusWhy.TheVariants as bus
use Rattle.tb_pair_run.specs.declared.ends.PairWhy.{PairWhy}
use Rattle.tb_pair_run.specs.declared.ends.PairWhy.TheVariants as pair

abbrev pub of_refusals : Bool → Bool → BusWhy
of_refusals no_memory full =
    if no_memory then bus.NoMemory else if full then bus.Events else bus.Ended

-- from why the worker of the pipe, the ticker and all others ended
abbrev pub bus_why : WorkEnd → WorkEnd → List WorkEnd → BusWhy
bus_why pipe tick ends =
    of_refusals (list_any is_no_memory (pipe ∷ tick ∷ ends))
    (list_any is_full_end (pipe ∷ tick ∷ ends))

-- from why the ticker ended at each bus, where both went to their end
abbrev pub of_ticks : WorkEnd → WorkEnd → PairWhy
of_ticks end.Failed others = pair.Clock
of_ticks end.Over end.Failed = pair.Clock
of_ticks end.Over end.Over = pair.Ended
of_ticks end.Over end.Down = pair.Ended
of_ticks end.Over end.Stopped = pair.Ended
of_ticks end.Over end.Full = pair.Ended
of_ticks end.Over end.NoMemory = pair.Ended
of_ticks end.Down end.Failed = pair.Clock
of_ticks end.Down end.Over = pair.Ended
of_ticks end.Down end.Down = pair.Ended
of_ticks end.Down end.Stopped = pair.Ended
of_ticks end.Down end.Full = pair.Ended
of_ticks end.Down end.NoMemory = pair.Ended
of_ticks end.Stopped others = pair.Ended
of_ticks end.Full others = pair.Ended
of_ticks end.NoMemory others = pair.Ended

abbrev pub by_both : BusWhy → WorkEnd → WorkEnd → PairWhy
by_both bus.NoMemory tick others = pair.NoMemory
by_both bus.Events tick others = pair.Events
by_both bus.Ended tick others = of_ticks tick others

abbrev pub pair_why : BusWhy → BusWhy → WorkEnd → WorkEnd → PairWhy
pair_why why others_why tick others = by_both (of_both why others_why) tick others

-- why there was no crew
abbrev pub no_crew : RunWhy → PairWhy
no_crew run.Crew = pair.Crew
no_crew run.Ended = pair.NoMemory
no_crew run.Clock = pair.NoMemory
no_crew run.Out = pair.NoMemory
no_crew run.Events = pair.NoMemory
no_crew run.NoMemory = pair.NoMemory
