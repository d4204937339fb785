-- Along a trace, a bus that has shut down stays so, and a lane with an empty queue keeps it empty.
use Rattle.std.proofs.Common.{◌≡◌, ℕ, List, [], ◌∷◌, ◌++◌, true, None, refl, sym, ap, ◌∙◌, subst}
use Rattle.tb_log.specs.Shapes.{IsLane}
use Rattle.tb_log.specs.declared.entry.Entry.{Entry}
use Rattle.tb_tools.specs.Finding.{next_out}
use Rattle.tb_bus.specs.Buses.{Bus, start}
use Rattle.tb_bus.specs.Traces.{IsTrace, after, replay}
use Rattle.tb_bus.specs.declared.origin.Origin.{Origin}
use Rattle.tb_lock.specs.Seats.{SeatView}
use Rattle.tb_run.specs.Workers.{bus_of}
use Rattle.tb_run.proofs.JoinLemmas.{Kept}

-- the laws of the bus
abbrev pub DownLaw : Type 0
DownLaw = (bus : Bus) (log : List Entry) → IsTrace bus log → bus.down ≡ true → (replay bus log).down ≡ true

abbrev pub EmptyLaw : Type 0
EmptyLaw = (bus : Bus) (log : List Entry) (lane : ℕ) → IsLane lane → IsTrace bus log → bus.down ≡ true → next_out lane bus.bench ≡ None → next_out lane (replay bus log).bench ≡ None

pub trace_before : (bus : Bus) (log more : List Entry) → IsTrace bus (log ++ more) → IsTrace bus log
trace_before bus [] more t = tt
trace_before bus (entry ∷ log) more t = (t.0, trace_before (after bus entry) log more t.1)

pub trace_after : (bus : Bus) (log more : List Entry) → IsTrace bus (log ++ more) → IsTrace (replay bus log) more
trace_after bus [] more t = t
trace_after bus (entry ∷ log) more t = trace_after (after bus entry) log more t.1

pub replay_append : (bus : Bus) (log more : List Entry) → replay bus (log ++ more) ≡ replay (replay bus log) more
replay_append bus [] more = refl
replay_append bus (entry ∷ log) more = replay_append (after bus entry) log more

-- what the last seat has seen, and another had seen before
module _ (other last : SeatView) (same : other.origin ≡ last.origin) (trace : IsTrace (start last.origin) last.seen) (kept : Kept last other) where
  after_other : IsTrace (bus_of other) kept.rest
  after_other =
      subst (λ (o : Origin). IsTrace (replay (start o) other.seen) kept.rest) (sym same)
      (trace_after (start last.origin) other.seen kept.rest (subst (IsTrace (start last.origin)) kept.begins trace))

  bus_last : bus_of last ≡ replay (bus_of other) kept.rest
  bus_last =
      ap (replay (start last.origin)) kept.begins
      ∙ (replay_append (start last.origin) other.seen kept.rest ∙ ap (λ (o : Origin). replay (replay (start o) other.seen) kept.rest) (sym same))

  pub down_to_end : DownLaw → (bus_of other).down ≡ true → (bus_of last).down ≡ true
  down_to_end law down = ap (λ (b : Bus). b.down) bus_last ∙ law (bus_of other) kept.rest after_other down

  pub empty_to_end : EmptyLaw → (lane : ℕ) → IsLane lane → (bus_of other).down ≡ true → next_out lane (bus_of other).bench ≡ None → next_out lane (bus_of last).bench ≡ None
  empty_to_end law lane is down none = ap (λ (b : Bus). next_out lane b.bench) bus_last ∙ law (bus_of other) kept.rest lane is after_other down none
