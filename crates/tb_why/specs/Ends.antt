-- What each process waits for at the end of a log that is a trace, or just before the bus shuts down. Also the errors of `why`.
use Rattle.std.specs.Prelude.{◌≡◌, ℕ, Bool, true, false, List, [], ◌∷◌, ◌++◌, if◌then◌else◌}
use Rattle.tb_bus.specs.Buses.{start}
use Rattle.tb_bus.specs.Traces.{IsLegal, IsTrace, after, replay}
use Rattle.tb_bus.specs.declared.origin.Origin.{Origin}
use Rattle.tb_core.specs.Cores.{CoreState}
use Rattle.tb_log.specs.Limits.{has_room}
use Rattle.tb_log.specs.LogText.{log_text}
use Rattle.tb_log.specs.declared.entry.Entry.{Entry}
use Rattle.tb_log.specs.declared.entry.Entry.TheVariants.{Did, Quiet, Fed, Gave}
use Rattle.tb_log.specs.declared.entry.LabelKind.{LabelKind}
use Rattle.tb_log.specs.declared.entry.LabelKind.TheVariants as kind
use Rattle.tb_log_read.specs.Lines.{IsLog}
use Rattle.tb_why.specs.Reasons.{waiters}
use Rattle.tb_why.specs.Standing.{standings}
use Rattle.tb_why.specs.declared.stall.Waiter.{Waiter}
use Rattle.tb_why.specs.declared.standing.Standing.{Standing}

-- the kinds of steps that shut the bus down
abbrev pub is_last : LabelKind → Bool
is_last kind.Finish = true
is_last kind.Halt = true
is_last kind.Shutdown = true
is_last other = false

-- the entry is a step that shuts the bus down
abbrev pub takes_down : Entry → Bool
takes_down (Did label) = is_last label.kind
takes_down Quiet = false
takes_down (Fed input reply) = false
takes_down (Gave lane out) = false

-- the entries before the first such step; all entries if there is no such step
abbrev pub while_up : List Entry → List Entry
while_up [] = []
while_up (entry ∷ log) = if takes_down entry then [] else entry ∷ while_up log

-- The bytes are the text of a log, and this log is a trace.
pub record IsTraceText (origin : Origin) (bytes : List ℕ) : Type 0 where
  pub log : List Entry
  pub is_log : IsLog log
  pub text : bytes ≡ log_text log
  pub trace : IsTrace (start origin) log

-- The bytes are the text of a log, and the entries before some entry are a trace. This entry can come next, but a log of the origin has no
-- capacity for it.
pub record IsCrowdedText (origin : Origin) (bytes : List ℕ) : Type 0 where
  pub log : List Entry
  pub before : List Entry
  pub entry : Entry
  pub later : List Entry
  pub is_log : IsLog log
  pub text : bytes ≡ log_text log
  pub parts : log ≡ before ++ entry ∷ later
  pub trace : IsTrace (start origin) before
  pub legal : IsLegal (replay (start origin) before) entry (after (replay (start origin) before) entry)
  pub full : has_room origin.limit before entry ≡ false

-- The bytes are the text of a log, and this log is a trace. The entries before the step that shuts down the bus (all entries if there is
-- no such step) lead to a bus with these ticks, these processes with their offers (`seen`), and these findings (`lines`).
pub record ExplainsEnd (origin : Origin) (bytes : List ℕ) (core : CoreState) (ticks : ℕ) (seen : List Standing) (lines : List Waiter) : Type 0 where
  pub log : List Entry
  pub is_log : IsLog log
  pub text : bytes ≡ log_text log
  pub trace : IsTrace (start origin) log
  -- the core has followed the whole log, and isn't stopped
  pub started : core.origin ≡ origin
  pub followed : core.log ≡ log
  pub running : core.stopped ≡ false
  -- of the bus just before it shuts down, or at the end of the log: its ticks, its processes with their offers, and what they wait for
  pub ticks_are : ticks ≡ (replay (start origin) (while_up log)).now
  pub stands : seen ≡ standings (replay (start origin) (while_up log))
  pub waits : lines ≡ waiters (replay (start origin) (while_up log))
