-- Noting a call on the taken core keeps the rule, and so does noting that it was stopped.
use Rattle.std.proofs.Common.{◌≡◌, ◌≢◌, ◌<◌, ◌+◌, ◌%◌, ◌^◌, ℕ, List, [], ◌∷◌, ◌++◌, length, slice_index, slice_set, Bool, true, Option, Some, option_to_list, refl, sym, ap, ◌∙◌, subst, inr, ⊎_elim, arith, length-append}
use mathlib.Core.Option as opt
use lib.ListN.{get_elem?}
use Rattle.atomic_table.specs.Table.{keeps, stepped, Allows}
use Rattle.tb_log.specs.declared.entry.Entry.{Entry}
use Rattle.tb_bus.specs.declared.origin.Origin.{Origin}
use Rattle.tb_bus.specs.Buses.{start}
use Rattle.tb_bus.specs.Traces.{IsTrace, replay}
use Rattle.tb_bus.proofs.TraceLemmas.{trace-append}
use Rattle.tb_core.specs.Cores.{CoreState}
use Rattle.tb_lock.specs.Rights.{all_rights}
use Rattle.tb_lock.specs.Histories.{Grows, IsSparse, indexed}
use Rattle.tb_lock.specs.Helpers.Indices.{has_index}
use Rattle.tb_lock.specs.Seats.{SeatView, Serving}
use Rattle.tb_lock.specs.Helpers.Rule.{BoardState, tickets, ticket_of, has_turn, FitsStage, Fits, Apart, Away, Running, IsNew, Kept}
use Rattle.tb_lock.specs.Helpers.Plays.{HolderState, Adds, noting, in_hand, Notes, stopping, Stops}
use Rattle.tb_lock.proofs.ListLemmas.{any_set, any_here}
use Rattle.tb_lock.proofs.FrameLemmas.{changes, slot_out, stays_out, opens, ticket_room}
use Rattle.tb_lock.proofs.StageLemmas.{fits_noted, fits_stopped}
use Rattle.tb_lock.proofs.RightLemmas.{or_true}
use Rattle.tb_lock.proofs.OwnLemmas.{own_apart, own_all_more}
use Rattle.tb_lock.proofs.HistoryLemmas.{grows_refl, in_noted, has_index-append, indexed_from, index_within}

module _ (origin : Origin) (board : BoardState) (run : Running origin board) (id : ℕ) (seat : SeatView) (at : get_elem? board.views id ≡ opt.some seat) (ticket : ℕ) (mark : Bool) (open_is : seat.stage ≡ Serving ticket mark) where
  fits : Fits origin run.log run.stopped run.served run.drawn seat
  fits = run.fits id seat at

  now : (ticket ≡ run.served) × (ticket < run.drawn) × (seat.seen ≡ run.log) × (mark ≡ run.stopped)
  now = subst (FitsStage run.log run.stopped run.served run.drawn seat) open_is fits.stage

  -- no other handle has this ticket
  no_other : (by : ℕ) (other : SeatView) → by ≢ id → get_elem? board.views by ≡ opt.some other → ticket_of other.stage ≡ Some run.served → ⊥
  no_other by other differ there theirs = (run.apart by id other seat differ there at).tickets run.served theirs (ap ticket_of open_is ∙ ap Some now.0)

  has_room : 0 < seat.room
  has_room =
      let less = ticket_room origin run.log run.stopped run.served run.drawn seat fits in
      let one : tickets seat.stage ≡ 1 = ap tickets open_is in
      omega arith

  words_stay : slice_set board.words 1 (slice_index board.words 1) ≡ run.drawn % 2 ^ 64 ∷ run.served % 2 ^ 64 ∷ []
  words_stay = ap (λ (ws : List ℕ). slice_set ws 1 (slice_index ws 1)) run.words

  out : Away board
  out = slot_out origin board run.log run.stopped id seat at (ap has_turn open_is) run.slot

  module _ (core : CoreState) (logged : Option Entry) (adds : Adds seat core logged) (mark_is : core.stopped ≡ mark) where
    abbrev entries : List Entry
    entries = option_to_list logged

    abbrev noted_by : SeatView
    noted_by = noting seat logged core.stopped

    longer_is : seat.seen ++ entries ≡ run.log ++ entries
    longer_is = ap (λ (xs : List Entry). xs ++ entries) now.2

    here : Fits origin (run.log ++ entries) run.stopped run.served run.drawn noted_by
    here =
        let room = has_room in
        record {
          gone = λ e. absurd (omega arith);
          origin_is = fits.origin_is;
          grows = subst (Grows seat.rights (seat.seen ++ entries)) longer_is (grows_refl seat.rights (seat.seen ++ entries));
          mine = in_noted seat.seen entries 0 seat.mine (omega arith) fits.mine;
          stage = subst (FitsStage (run.log ++ entries) run.stopped run.served run.drawn noted_by) (sym open_is) (now.0, now.1, longer_is, now.3);
          called = fits.called;
          told = λ e. ⊎_elim fits.told (λ t. sym (mark_is ∙ now.3) ∙ t) (or_true seat.told core.stopped e);
        }

    apart : (by : ℕ) (other : SeatView) → by ≢ id → get_elem? board.views by ≡ opt.some other → Apart noted_by other
    apart by other differ there =
        let a = run.apart id by seat other (λ e. differ (sym e)) at there in
        let theirs = run.fits by other there in
        record {
          rights = a.rights;
          tickets = a.tickets;
          indices = λ index mine their. ⊎_elim
              (λ old. a.indices index old their)
              (λ new.
              let above = indexed_from (length seat.seen) entries index new in
              let below = index_within other.seen 0 other.mine index theirs.mine their in
              let long : length run.log ≡ length other.seen + length theirs.grows.rest = ap length theirs.grows.is ∙ length-append other.seen theirs.grows.rest in
              let same : length seat.seen ≡ length run.log = ap length now.2 in
              let never : ⊥ = omega arith in never)
              (or_true (has_index index seat.mine) (has_index index (indexed (length seat.seen) entries)) (sym (has_index-append index seat.mine (indexed (length seat.seen) entries)) ∙ mine));
        }

    others : (by : ℕ) (other : SeatView) → by ≢ id → get_elem? board.views by ≡ opt.some other → Fits origin (run.log ++ entries) run.stopped run.served run.drawn other
    others by other differ there =
        let a = run.apart id by seat other (λ e. differ (sym e)) at there in
        fits_noted origin run.log entries run.stopped run.served run.drawn other (run.fits by other there) (own_apart seat.rights other.rights entries a.rights adds.rights) (no_other by other differ there)

    pub noted_on : Running origin (stepped board 1 (slice_index board.words 1) id [] noted_by keeps)
    noted_on =
        changes origin board run id seat noted_by (slice_set board.words 1 (slice_index board.words 1)) board.homes (run.log ++ entries) run.stopped run.served run.drawn (record {
          at = at;
          words_are = words_stay;
          waiting = omega arith;
          room = refl;
          here = here;
          others = others;
          apart = apart;
          slot = inr (stays_out board id seat noted_by (slice_set board.words 1 (slice_index board.words 1)) at (ap has_turn open_is) out);
          trace = trace-append (start origin) run.log entries run.trace
              (subst (λ (o : Origin). IsTrace (replay (start o) run.log) entries) (fits.origin_is has_room) (subst (λ (xs : List Entry). IsTrace (replay (start seat.origin) xs) entries) now.2 adds.trace));
          sparse = subst IsSparse longer_is adds.sparse;
          owned = own_all_more all_rights run.log entries run.owned adds.owned;
          seen = any_here (λ s. s.seen ≡ run.log ++ entries) board.views id seat noted_by at longer_is;
          reason = λ e. any_set (λ s. s.called ≡ true) board.views id seat noted_by at (λ called. called) (run.reason e);
        })

  abbrev stopped_by : SeatView
  stopped_by = stopping ticket seat

  stopped_here : Fits origin run.log true run.served run.drawn stopped_by
  stopped_here =
      let room = has_room in
      record {
        gone = λ e. absurd (omega arith);
        origin_is = fits.origin_is;
        grows = fits.grows;
        mine = fits.mine;
        stage = (now.0, now.1, now.2, refl);
        called = λ _. refl;
        told = λ _. refl;
      }

  stopped_apart : (by : ℕ) (other : SeatView) → by ≢ id → get_elem? board.views by ≡ opt.some other → Apart stopped_by other
  stopped_apart by other differ there =
      let a = run.apart id by seat other (λ e. differ (sym e)) at there in
      record { rights = a.rights; tickets = λ n mine theirs. a.tickets n (ap ticket_of open_is ∙ mine) theirs; indices = a.indices }

  pub stopped_on : Running origin (stepped board 1 (slice_index board.words 1) id [] stopped_by keeps)
  stopped_on =
      let one : tickets seat.stage ≡ 1 = ap tickets open_is in
      changes origin board run id seat stopped_by (slice_set board.words 1 (slice_index board.words 1)) board.homes run.log true run.served run.drawn (record {
        at = at;
        words_are = words_stay;
        waiting = omega arith;
        room = refl;
        here = stopped_here;
        others = λ by other differ there. fits_stopped origin run.log run.stopped run.served run.drawn other (run.fits by other there) (no_other by other differ there);
        apart = stopped_apart;
        slot = inr (stays_out board id seat stopped_by (slice_set board.words 1 (slice_index board.words 1)) at refl out);
        trace = run.trace;
        sparse = run.sparse;
        owned = run.owned;
        seen = any_set (λ s. s.seen ≡ run.log) board.views id seat stopped_by at (λ e. e) run.seen;
        reason = λ _. any_here (λ s. s.called ≡ true) board.views id seat stopped_by at refl;
      })

pub notes : (origin : Origin) (slots id : ℕ) (me : HolderState) (ticket : ℕ) (core : CoreState) (logged : Option Entry) → me.0.stage ≡ Serving ticket core.stopped → me.1 ≡ (0, Some core) ∷ [] → Adds me.0 core logged →
    Allows (Kept origin) slots id me 1 (λ n. n) (Notes me)
notes origin slots id me ticket core logged open_is slot adds board kept wide at _ = ⊎_elim
    (λ (new : IsNew origin board). let opening = ap (λ (s : SeatView). s.stage) (opens origin board id me.0 new at) in absurd (cc))
    (λ (run : Running origin board). (
      noting me.0 logged core.stopped,
      keeps,
      tt,
      inr (noted_on origin board run id me.0 at ticket core.stopped open_is core logged adds refl),
      (core, logged, ap in_hand slot, adds.log, refl),
    ))
    kept

serves_so : (seat : SeatView) (ticket other : ℕ) (mark more : Bool) → seat.stage ≡ Serving ticket mark → seat.stage ≡ Serving other more → ticket ≡ other
serves_so seat ticket other mark more one two = cc

pub stops : (origin : Origin) (slots id : ℕ) (me : HolderState) (ticket : ℕ) (mark : Bool) → me.0.stage ≡ Serving ticket mark → Allows (Kept origin) slots id me 1 (λ n. n) (Stops me)
stops origin slots id me ticket mark open_is board kept wide at _ = ⊎_elim
    (λ (new : IsNew origin board). let opening = ap (λ (s : SeatView). s.stage) (opens origin board id me.0 new at) in absurd (cc))
    (λ (run : Running origin board). (
      stopping ticket me.0,
      keeps,
      tt,
      inr (stopped_on origin board run id me.0 at ticket mark open_is),
      λ other more e. ap (λ (n : ℕ). (stopping n me.0, me.1)) (serves_so me.0 ticket other mark more open_is e),
    ))
    kept
