-- The tickets of a handle by its stage, and the rule for a handle after a step of another handle.
use Rattle.std.proofs.Common.{◌≡◌, ◌≤◌, ◌<◌, ◌+◌, ℕ, List, [], ◌++◌, Bool, true, Some, true≢false, refl, sym, ap, arith}
use Rattle.tb_log.specs.declared.entry.Entry.{Entry}
use Rattle.tb_bus.specs.declared.origin.Origin.{Origin}
use Rattle.tb_lock.specs.Rights.{own}
use Rattle.tb_lock.specs.Seats.{SeatView, Stage, Opening, Idle, Waiting, Serving, Joined}
use Rattle.tb_lock.specs.Helpers.Rule.{ticket_of, has_turn, FitsStage, Fits}
use Rattle.tb_lock.proofs.OwnLemmas.{own_fewer}
use Rattle.tb_lock.proofs.HistoryLemmas.{grows_more}

-- the ticket of a handle was drawn, and its turn hasn't passed
pub ticket_range : (log : List Entry) (stopped : Bool) (served drawn : ℕ) (seat : SeatView) (stage : Stage) (ticket : ℕ) → FitsStage log stopped served drawn seat stage → ticket_of stage ≡ Some ticket → (served ≤ ticket) × (ticket < drawn)
ticket_range log stopped served drawn seat Opening ticket f e = absurd f
ticket_range log stopped served drawn seat Idle ticket f e = absurd (cc)
ticket_range log stopped served drawn seat (Waiting other) ticket f e = let is : other ≡ ticket = cc in let low = f.0 in let high = f.1 in (omega arith, omega arith)
ticket_range log stopped served drawn seat (Serving other mark) ticket f e = let is : other ≡ ticket = cc in let low = f.0 in let high = f.1 in (omega arith, omega arith)
ticket_range log stopped served drawn seat (Joined one rights other more) ticket f e = absurd (cc)

-- if the turn of a handle is open, the handle has the served ticket
pub turn_ticket : (log : List Entry) (stopped : Bool) (served drawn : ℕ) (seat : SeatView) (stage : Stage) → FitsStage log stopped served drawn seat stage → has_turn stage ≡ true → ticket_of stage ≡ Some served
turn_ticket log stopped served drawn seat Opening f e = absurd f
turn_ticket log stopped served drawn seat Idle f e = absurd (true≢false (sym e))
turn_ticket log stopped served drawn seat (Waiting ticket) f e = absurd (true≢false (sym e))
turn_ticket log stopped served drawn seat (Serving ticket mark) f e = ap Some f.0
turn_ticket log stopped served drawn seat (Joined one rights other more) f e = absurd (true≢false (sym e))

stage_drawn : (log : List Entry) (stopped : Bool) (served drawn : ℕ) (seat : SeatView) (stage : Stage) → FitsStage log stopped served drawn seat stage → FitsStage log stopped served (drawn + 1) seat stage
stage_drawn log stopped served drawn seat Opening f = f
stage_drawn log stopped served drawn seat Idle f = tt
stage_drawn log stopped served drawn seat (Waiting ticket) f = let high = f.1 in (f.0, omega arith)
stage_drawn log stopped served drawn seat (Serving ticket mark) f = let high = f.1 in (f.0, omega arith, f.2, f.3)
stage_drawn log stopped served drawn seat (Joined one rights other more) f = f

-- the rule for this handle holds after another handle draws a ticket
pub fits_drawn : (origin : Origin) (log : List Entry) (stopped : Bool) (served drawn : ℕ) (seat : SeatView) → Fits origin log stopped served drawn seat → Fits origin log stopped served (drawn + 1) seat
fits_drawn origin log stopped served drawn seat f = record {
  gone = f.gone;
  origin_is = f.origin_is;
  grows = f.grows;
  mine = f.mine;
  stage = stage_drawn log stopped served drawn seat seat.stage f.stage;
  called = f.called;
  told = f.told;
}

stage_passed : (log : List Entry) (stopped : Bool) (served drawn : ℕ) (seat : SeatView) (stage : Stage) → FitsStage log stopped served drawn seat stage → (ticket_of stage ≡ Some served → ⊥) → FitsStage log stopped (served + 1) drawn seat stage
stage_passed log stopped served drawn seat Opening f apart = f
stage_passed log stopped served drawn seat Idle f apart = tt
stage_passed log stopped served drawn seat (Waiting ticket) f apart = let low = f.0 in let differ : ticket ≡ served → ⊥ = λ e. apart (ap Some e) in (omega arith, f.1)
stage_passed log stopped served drawn seat (Serving ticket mark) f apart = absurd (apart (ap Some f.0))
stage_passed log stopped served drawn seat (Joined one rights other more) f apart = f

-- the rule for this handle holds after another handle passes its turn on
pub fits_passed : (origin : Origin) (log : List Entry) (stopped : Bool) (served drawn : ℕ) (seat : SeatView) → Fits origin log stopped served drawn seat → (ticket_of seat.stage ≡ Some served → ⊥) → Fits origin log stopped (served + 1) drawn seat
fits_passed origin log stopped served drawn seat f apart = record {
  gone = f.gone;
  origin_is = f.origin_is;
  grows = f.grows;
  mine = f.mine;
  stage = stage_passed log stopped served drawn seat seat.stage f.stage apart;
  called = f.called;
  told = f.told;
}

stage_noted : (log entries : List Entry) (stopped : Bool) (served drawn : ℕ) (seat : SeatView) (stage : Stage) → FitsStage log stopped served drawn seat stage → own seat.rights entries ≡ [] → (ticket_of stage ≡ Some served → ⊥) → FitsStage (log ++ entries) stopped served drawn seat stage
stage_noted log entries stopped served drawn seat Opening f none apart = f
stage_noted log entries stopped served drawn seat Idle f none apart = tt
stage_noted log entries stopped served drawn seat (Waiting ticket) f none apart = f
stage_noted log entries stopped served drawn seat (Serving ticket mark) f none apart = absurd (apart (ap Some f.0))
stage_noted log entries stopped served drawn seat (Joined one rights other more) f none apart = (
  f.0,
  grows_more rights one log entries f.1 (own_fewer rights seat.rights entries f.3 none),
  grows_more more other log entries f.2 (own_fewer more seat.rights entries f.4 none),
  f.3,
  f.4,
)

-- the rule for this handle holds after another handle notes entries that need none of this handle's rights
pub fits_noted : (origin : Origin) (log entries : List Entry) (stopped : Bool) (served drawn : ℕ) (seat : SeatView) → Fits origin log stopped served drawn seat → own seat.rights entries ≡ [] → (ticket_of seat.stage ≡ Some served → ⊥) → Fits origin (log ++ entries) stopped served drawn seat
fits_noted origin log entries stopped served drawn seat f none apart = record {
  gone = f.gone;
  origin_is = f.origin_is;
  grows = grows_more seat.rights seat.seen log entries f.grows none;
  mine = f.mine;
  stage = stage_noted log entries stopped served drawn seat seat.stage f.stage none apart;
  called = f.called;
  told = f.told;
}

stage_stopped : (log : List Entry) (stopped : Bool) (served drawn : ℕ) (seat : SeatView) (stage : Stage) → FitsStage log stopped served drawn seat stage → (ticket_of stage ≡ Some served → ⊥) → FitsStage log true served drawn seat stage
stage_stopped log stopped served drawn seat Opening f apart = f
stage_stopped log stopped served drawn seat Idle f apart = tt
stage_stopped log stopped served drawn seat (Waiting ticket) f apart = f
stage_stopped log stopped served drawn seat (Serving ticket mark) f apart = absurd (apart (ap Some f.0))
stage_stopped log stopped served drawn seat (Joined one rights other more) f apart = f

-- the rule for this handle holds after another handle notes that the core was stopped
pub fits_stopped : (origin : Origin) (log : List Entry) (stopped : Bool) (served drawn : ℕ) (seat : SeatView) → Fits origin log stopped served drawn seat → (ticket_of seat.stage ≡ Some served → ⊥) → Fits origin log true served drawn seat
fits_stopped origin log stopped served drawn seat f apart = record {
  gone = f.gone;
  origin_is = f.origin_is;
  grows = f.grows;
  mine = f.mine;
  stage = stage_stopped log stopped served drawn seat seat.stage f.stage apart;
  called = λ _. refl;
  told = λ _. refl;
}
