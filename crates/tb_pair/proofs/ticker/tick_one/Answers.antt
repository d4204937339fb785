use Rattle.std.proofs.Common.{sym, ◌∙◌}
use Rattle.tb_pair.proofs.ticker.tick_one.Goals as goal

pub returns-in-Tick-clause-ticked : goal.returns-in-Tick-clause-ticked
returns-in-Tick-clause-ticked g c = record { first = c.tick.ensures.ticked; second = c.tick-in-Tick.ensures.ticked; gets = sym c.neither.ensures ∙ c.if-neither.false; told = c.in-Tick.ensures.told; calm = c.in-Tick.ensures.calm }
