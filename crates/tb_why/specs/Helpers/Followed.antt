-- The state after a core has followed a log, and the claim if it couldn't.
use Rattle.std.specs.Prelude.{◌≡◌, ℕ, List, ◌∷◌, ◌++◌, false}
use Rattle.tb_bus.specs.Buses.{start}
use Rattle.tb_bus.specs.Traces.{IsLegal, IsTrace, after, replay}
use Rattle.tb_bus.specs.declared.origin.Origin.{Origin}
use Rattle.tb_core.specs.Cores.{CoreState, bus_now}
use Rattle.tb_log.specs.Limits.{has_room}
use Rattle.tb_log.specs.declared.entry.Entry.{Entry}
use Rattle.tb_why.specs.Ends.{while_up}
use Rattle.tb_why.specs.Reasons.{waiters}
use Rattle.tb_why.specs.Standing.{standings}
use Rattle.tb_why.specs.declared.stall.Waiter.{Waiter}
use Rattle.tb_why.specs.declared.standing.Standing.{Standing}

-- The log is a trace, and the core has followed it. The entries before the step that shuts down the bus (all entries if there is no such
-- step) lead to a bus with these ticks, these processes with their offers (`seen`), and these findings (`lines`).
pub record IsEnd (origin : Origin) (log : List Entry) (core : CoreState) (ticks : ℕ) (seen : List Standing) (lines : List Waiter) : Type 0 where
  pub trace : IsTrace (start origin) log
  pub started : core.origin ≡ origin
  pub followed : core.log ≡ log
  pub running : core.stopped ≡ false
  pub ticks_are : ticks ≡ (replay (start origin) (while_up log)).now
  pub stands : seen ≡ standings (replay (start origin) (while_up log))
  pub waits : lines ≡ waiters (replay (start origin) (while_up log))

-- The entries before some entry are a trace from the bus of the core. This entry can come next, but the core's log has no capacity for it.
pub record IsCrowdedIn (core : CoreState) (entries : List Entry) : Type 0 where
  pub before : List Entry
  pub entry : Entry
  pub later : List Entry
  pub parts : entries ≡ before ++ entry ∷ later
  pub trace : IsTrace (bus_now core) before
  pub legal : IsLegal (replay (bus_now core) before) entry (after (replay (bus_now core) before) entry)
  pub full : has_room core.origin.limit (core.log ++ before) entry ≡ false
