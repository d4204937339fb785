-- What the logs of two buses show of the pipe between them, once both workers have ended and the two ends of the pipe have met.
use Rattle.std.specs.Prelude.{◌≡◌, ◌⊎◌, Bool, true, false, List, [], ◌∷◌, ◌++◌}
use Rattle.tb_terms.specs.declared.term.Term.{Term}
use Rattle.tb_log.specs.declared.entry.Out.{Out}
use Rattle.tb_log.specs.declared.entry.Entry.{Entry}
use Rattle.tb_log.specs.declared.entry.Entry.TheVariants.{Gave}
use Rattle.tb_log.specs.Lanes.{inputs}
use Rattle.tb_lock.specs.Rights.{own}
use Rattle.tb_lock.specs.Seats.{SeatView}
use Rattle.tb_run.specs.Dropping.{HasDropped}
use Rattle.tb_run.specs.Outcomes.{is_of}
use Rattle.tb_run.specs.Workers.{cut_count}
use Rattle.tb_pair.specs.Piping.{does, events, connect, lines_of}
use Rattle.tb_pair.specs.Workers.{StopsWhereDropped}

-- A worker's seat, before and after its work, and a seat that has seen the whole log of its bus. The worker began on a bus that had
-- logged nothing. Its seat has seen a prefix of the log, and this prefix has all entries of its rights in the log.
pub record IsPartOf (begun done last : SeatView) : Type 0 where
  pub fresh : begun.seen ≡ []
  pub rest : List Entry
  pub begins : last.seen ≡ done.seen ++ rest
  pub owns : own begun.rights last.seen ≡ own begun.rights done.seen

-- No item is handed out on lane 1 before the first input of this lane.
abbrev pub AwaitsName : List Entry → Type 0
AwaitsName log = (before : List Entry) (out : Out) (after : List Entry) → log ≡ before ++ Gave 1 out ∷ after → inputs before 1 ≡ [] → ⊥

-- The events of lane 1 of the other bus are a prefix of the terms of the `rec-do` lines of lane 1 of the first bus. No log has other inputs
-- of lane 1 than these, the connect requests, and one disconnect request of the other bus's tool. `Early` and `Others_early` are what an
-- early end of the worker of a bus shows. With the empty type, there was none.
pub record Passes (one other : List Entry) (Early Others_early : Type 0) : Type 0 where
  pub rest : List Term
  pub prefix : does one ≡ events other ++ rest
  pub no_cut : cut_count 1 one ≡ 0
  pub others_no_cut : cut_count 1 other ≡ 0
  -- the one input is the connect request
  pub names : (inputs one 1 ≡ connect ∷ []) ⊎ ((inputs one 1 ≡ []) × Early)
  -- nothing is handed out to a tool before its connect request
  pub first : AwaitsName one
  pub others_first : AwaitsName other
  -- whether the tool of the other bus has left
  pub leaves : Bool
  -- the inputs are the connect request, then the events, then perhaps the disconnect request
  pub others_names : (inputs other 1 ≡ connect ∷ lines_of (events other) leaves) ⊎ ((inputs other 1 ≡ []) × (leaves ≡ false) × Others_early)
  -- after an input that was dropped because the bus had shut down, no other comes
  pub others_once : StopsWhereDropped other
  -- if it has left, the events are the terms of all `rec-do` lines of the first bus's tool
  pub whole : leaves ≡ true → events other ≡ does one
  -- it has left, or an input of lane 1 was dropped because the bus had shut down
  pub why : (leaves ≡ true) ⊎ (HasDropped (is_of 1) other ⊎ Others_early)
  -- so the events are the terms of all `rec-do` lines of the first bus's tool, or an input of lane 1 was dropped because the other bus had
  -- shut down
  pub exact : (events other ≡ does one) ⊎ (HasDropped (is_of 1) other ⊎ Others_early)
