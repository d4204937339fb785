-- The rule for a bus after a step of one handle: what the step must show, and what remains.
use Rattle.std.proofs.Common.{◌≡◌, ◌≢◌, ◌⊎◌, ◌≤◌, ◌+◌, ◌%◌, ◌^◌, ℕ, zero, suc, List, [], ◌∷◌, set, Bool, true, false, Option, true≢false, refl, sym, ap, ◌∙◌, inl, inr, ⊎_elim, arith}
use mathlib.Core.Option as opt
use lib.ListN.{get_elem?}
use Rattle.tb_log.specs.declared.entry.Entry.{Entry}
use Rattle.tb_bus.specs.declared.origin.Origin.{Origin}
use Rattle.tb_bus.specs.Buses.{start}
use Rattle.tb_bus.specs.Traces.{IsTrace}
use Rattle.tb_core.specs.Cores.{CoreState}
use Rattle.tb_lock.specs.Rights.{own, all_rights}
use Rattle.tb_lock.specs.Histories.{IsSparse}
use Rattle.tb_lock.specs.Seats.{SeatView, Stage, Opening, Idle, Waiting, Serving, Joined}
use Rattle.tb_lock.specs.Helpers.Rule.{BoardState, tickets, has_turn, Fits, Apart, Somewhere, AtHome, Away, Running, IsNew, opening_seat}
use Rattle.tb_lock.proofs.ListLemmas.{sum_set, sum_le_sum, each_set, pairs_set, any_set}

-- one handle of a bus has changed, and the words, the slot, and the history with it: these claims imply the rule
pub record Changes (origin : Origin) (board : BoardState) (run : Running origin board) (id : ℕ) (seat after : SeatView) (words : List ℕ) (homes : List (opt.Option (Option CoreState))) (log : List Entry) (stopped : Bool) (served drawn : ℕ) : Type 0 where
  pub at : get_elem? board.views id ≡ opt.some seat
  pub words_are : words ≡ drawn % 2 ^ 64 ∷ served % 2 ^ 64 ∷ []
  pub waiting : served + tickets after.stage + run.drawn ≡ drawn + run.served + tickets seat.stage
  pub room : after.room ≡ seat.room
  pub here : Fits origin log stopped served drawn after
  pub others : (by : ℕ) (other : SeatView) → by ≢ id → get_elem? board.views by ≡ opt.some other → Fits origin log stopped served drawn other
  pub apart : (by : ℕ) (other : SeatView) → by ≢ id → get_elem? board.views by ≡ opt.some other → Apart after other
  pub slot : (let next : BoardState = record { words = words; homes = homes; views = set board.views id after } in AtHome origin log stopped next ⊎ Away next)
  pub trace : IsTrace (start origin) log
  pub sparse : IsSparse log
  pub owned : own all_rights log ≡ log
  pub seen : Somewhere (λ seat. seat.seen ≡ log) (set board.views id after)
  pub reason : stopped ≡ true → Somewhere (λ seat. seat.called ≡ true) (set board.views id after)

pub apart_swaps : (seat other : SeatView) → Apart seat other → Apart other seat
apart_swaps seat other a = record {
  rights = λ right one more. a.rights right more one;
  tickets = λ ticket one more. a.tickets ticket more one;
  indices = λ index one more. a.indices index more one;
}

pub changes : (origin : Origin) (board : BoardState) (run : Running origin board) (id : ℕ) (seat after : SeatView) (words : List ℕ) (homes : List (opt.Option (Option CoreState))) (log : List Entry) (stopped : Bool) (served drawn : ℕ) →
    Changes origin board run id seat after words homes log stopped served drawn → Running origin (record { words = words; homes = homes; views = set board.views id after })
changes origin board run id seat after words homes log stopped served drawn c =
    let t = sum_set (λ s. tickets s.stage) board.views id seat after c.at in
    let r = sum_set (λ s. s.room) board.views id seat after c.at in
    let waits = c.waiting in
    let waited = run.waiting in
    let rooms = run.rooms in
    let room = c.room in
    record {
      log = log;
      stopped = stopped;
      drawn = drawn;
      served = served;
      words = c.words_are;
      waiting = omega arith;
      rooms = omega arith;
      fits = λ by other at. each_set (Fits origin log stopped served drawn) board.views id after c.others c.here by other at;
      apart = λ one by u v differ at other. pairs_set Apart apart_swaps board.views id after run.apart c.apart one by u v differ at other;
      slot = c.slot;
      trace = c.trace;
      sparse = c.sparse;
      owned = c.owned;
      seen = c.seen;
      reason = c.reason;
    }

-- the claim about the slot remains if the turn of the changed handle is open neither before nor after the change
pub slot_kept : (origin : Origin) (board : BoardState) (log : List Entry) (stopped : Bool) (id : ℕ) (seat after : SeatView) (words : List ℕ) → get_elem? board.views id ≡ opt.some seat → has_turn seat.stage ≡ false → has_turn after.stage ≡ false →
    AtHome origin log stopped board ⊎ Away board → (let next : BoardState = record { words = words; homes = board.homes; views = set board.views id after } in AtHome origin log stopped next ⊎ Away next)
slot_kept origin board log stopped id seat after words at before now slot = ⊎_elim
    (λ (home : AtHome origin log stopped board). inl (record {
      core = home.core;
      here = home.here;
      is = home.is;
      nobody_has = λ by other there. each_set (λ s. has_turn s.stage ≡ false) board.views id after (λ j u differ e. home.nobody_has j u e) now by other there;
    }))
    (λ (away : Away board). inr (record {
      out = away.out;
      somebody_has = any_set (λ s. has_turn s.stage ≡ true) board.views id seat after at (λ has. absurd (true≢false (sym has ∙ before))) away.somebody_has;
    }))
    slot

-- if the turn of a handle is open, the slot is taken
pub slot_out : (origin : Origin) (board : BoardState) (log : List Entry) (stopped : Bool) (id : ℕ) (seat : SeatView) → get_elem? board.views id ≡ opt.some seat → has_turn seat.stage ≡ true →
    AtHome origin log stopped board ⊎ Away board → Away board
slot_out origin board log stopped id seat at has slot = ⊎_elim (λ (home : AtHome origin log stopped board). absurd (true≢false (sym has ∙ home.nobody_has id seat at))) (λ (away : Away board). away) slot

-- the slot remains taken if the turn of the changed handle is open after the change
pub stays_out : (board : BoardState) (id : ℕ) (seat after : SeatView) (words : List ℕ) → get_elem? board.views id ≡ opt.some seat → has_turn after.stage ≡ true → Away board → Away (record { words = words; homes = board.homes; views = set board.views id after })
stays_out board id seat after words at has away = record { out = away.out; somebody_has = any_set (λ s. has_turn s.stage ≡ true) board.views id seat after at (λ _. has) away.somebody_has }

-- the one handle of a bus that is being made
pub alone_at : {A : Type 0} (x a : A) (i : ℕ) → get_elem? (x ∷ []) i ≡ opt.some a → x ≡ a
alone_at x a zero e = opt.some-injective x a e
alone_at x a (suc i) e = absurd (opt.some-ne-none a (sym e))

pub opens : (origin : Origin) (board : BoardState) (id : ℕ) (seat : SeatView) → IsNew origin board → get_elem? board.views id ≡ opt.some seat → seat ≡ opening_seat origin
opens origin board id seat new at = sym (alone_at (opening_seat origin) seat id (ap (λ (views : List SeatView). get_elem? views id) (sym new.views) ∙ at))

at_most_one : (stage : Stage) → tickets stage ≤ 1
at_most_one Opening = omega arith
at_most_one Idle = omega arith
at_most_one (Waiting ticket) = omega arith
at_most_one (Serving ticket mark) = omega arith
at_most_one (Joined one rights other more) = omega arith

-- a handle with a ticket has a quota above 0
pub ticket_room : (origin : Origin) (log : List Entry) (stopped : Bool) (served drawn : ℕ) (seat : SeatView) → Fits origin log stopped served drawn seat → tickets seat.stage ≤ seat.room
ticket_room origin log stopped served drawn seat f = by seat.room refl
  where
    by : (room : ℕ) → seat.room ≡ room → tickets seat.stage ≤ seat.room
    by zero e = let is : tickets seat.stage ≡ 0 = ap (λ (s : SeatView). tickets s.stage) (f.gone e) in omega arith
    by (suc room) e = let few = at_most_one seat.stage in omega arith

-- so at most 64 tickets are drawn and not served
pub few_tickets : (origin : Origin) (board : BoardState) (run : Running origin board) → run.drawn ≤ run.served + 64
few_tickets origin board run =
    let less = sum_le_sum (λ s. tickets s.stage) (λ s. s.room) board.views (λ i seat at. ticket_room origin run.log run.stopped run.served run.drawn seat (run.fits i seat at)) in
    let waiting = run.waiting in
    let rooms = run.rooms in
    omega arith
