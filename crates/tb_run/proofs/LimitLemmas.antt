-- If a call of a run was rejected because the log was full, the log is at its limit.
use Rattle.std.proofs.Common.{◌≡◌, ◌≤◌, ◌+◌, ℕ, List, [], ◌∷◌, ◌++◌, length, true, sym, subst, inl, inr}
use Rattle.tb_log.specs.declared.entry.Entry.{Entry}
use Rattle.tb_log.specs.declared.entry.Input.TheVariants as input
use Rattle.tb_bus.specs.Buses.{start}
use Rattle.tb_bus.specs.Commands.{largest_command}
use Rattle.tb_bus.specs.Traces.{IsTrace}
use Rattle.tb_bus.specs.declared.origin.Origin.{Origin}
use Rattle.tb_core.specs.Cores.{CoreState, Call, HandIn, HandOut, MakeStep, is_full}
use Rattle.tb_core.specs.Full.{IsAtLimit, MayCall}
use Rattle.tb_run.specs.Refusals.{HadNoRoom, LaneRefused, WasRefused}
use Rattle.tb_run.specs.Views.{LaneView, OutsideView, SomeLane}
use Rattle.tb_run.proofs.TraceLemmas.{trace_before}

-- at some place, a log had no capacity for the entry of some call
abbrev pub WasFull : Origin → List Entry → Type 0
WasFull origin log = (call : Call) × HadNoRoom call origin log

lane_full : (origin : Origin) (log : List Entry) (lane : ℕ) (old new : LaneView) → LaneRefused origin log lane old new → WasFull origin log
lane_full origin log lane old new (inl r) = (HandIn r.input, r.no_room)
lane_full origin log lane old new (inr (inl r)) = (HandOut lane, r)
lane_full origin log lane old new (inr (inr r)) = (HandIn (input.Cut lane), r.no_room)

lanes_full : (origin : Origin) (log : List Entry) (lane : ℕ) (olds news : List LaneView) → SomeLane (LaneRefused origin log) lane olds news → WasFull origin log
lanes_full origin log lane [] news s = absurd s
lanes_full origin log lane (old ∷ olds) [] s = absurd s
lanes_full origin log lane (old ∷ olds) (new ∷ news) (inl r) = lane_full origin log lane old new r
lanes_full origin log lane (old ∷ olds) (new ∷ news) (inr s) = lanes_full origin log (lane + 1) olds news s

pub was_full : (most : ℕ) (old new : OutsideView) (origin : Origin) (log : List Entry) → WasRefused most old new origin log → WasFull origin log
was_full most old new origin log (inl s) = lanes_full origin log 1 old.lanes new.lanes s
was_full most old new origin log (inr (inl r)) = (HandIn input.Tick, r.no_room)
was_full most old new origin log (inr (inr (inl r))) = (HandIn input.NoTicks, r.no_room)
was_full most old new origin log (inr (inr (inr r))) = (MakeStep, r)

-- the theorem on a core whose log was full
abbrev pub LaterLaw : Type 0
LaterLaw = (core : CoreState) (call : Call) (more : List Entry) → IsTrace (start core.origin) core.log → MayCall call → is_full core call ≡ true → length (core.log ++ more) ≤ core.origin.limit →
    IsAtLimit (largest_command core.origin) core.origin (core.log ++ more)

pub full_at_limit : LaterLaw → (origin : Origin) (log : List Entry) → IsTrace (start origin) log → WasFull origin log → length log ≤ origin.limit → IsAtLimit (largest_command origin) origin log
full_at_limit law origin log trace (call, full) within =
    let to : full.core.origin ≡ origin = full.origin_is in
    let all : IsTrace (start origin) (full.core.log ++ full.rest) = subst (IsTrace (start origin)) full.is trace in
    let before : IsTrace (start full.core.origin) full.core.log = subst (λ (o : Origin). IsTrace (start o) full.core.log) (sym to) (trace_before (start origin) full.core.log full.rest all) in
    let few : length (full.core.log ++ full.rest) ≤ full.core.origin.limit = subst (λ (o : Origin). length (full.core.log ++ full.rest) ≤ o.limit) (sym to) (subst (λ (s : List Entry). length s ≤ origin.limit) full.is within) in
    let here : IsAtLimit (largest_command full.core.origin) full.core.origin (full.core.log ++ full.rest) = law full.core call full.rest before full.may full.full few in
    subst (IsAtLimit (largest_command origin) origin) (sym full.is) (subst (λ (o : Origin). IsAtLimit (largest_command o) o (full.core.log ++ full.rest)) to here)
