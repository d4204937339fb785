-- Drawing a turn keeps the rule.
use Rattle.std.proofs.Common.{◌≡◌, ◌≢◌, ◌<◌, ◌+◌, ◌%◌, ◌^◌, ℕ, List, [], ◌∷◌, slice_index, slice_set, true, refl, sym, ap, ◌∙◌, inr, ⊎_elim, arith}
use Rattle.std.proofs.Math.Nat.{mod-add-mod}
use mathlib.Core.Option as opt
use lib.ListN.{get_elem?}
use Rattle.atomic_table.specs.Table.{keeps, stepped, Allows}
use Rattle.tb_bus.specs.declared.origin.Origin.{Origin}
use Rattle.tb_lock.specs.Seats.{SeatView, Idle, Waiting}
use Rattle.tb_lock.specs.Helpers.Rule.{BoardState, tickets, has_turn, Fits, Apart, Running, IsNew, Kept}
use Rattle.tb_lock.specs.Helpers.Plays.{HolderState, Draws}
use Rattle.tb_lock.proofs.ListLemmas.{any_set}
use Rattle.tb_lock.proofs.FrameLemmas.{changes, slot_kept, opens}
use Rattle.tb_lock.proofs.StageLemmas.{ticket_range, fits_drawn}

module _ (origin : Origin) (board : BoardState) (run : Running origin board) (id : ℕ) (seat : SeatView) (at : get_elem? board.views id ≡ opt.some seat) (idle : seat.stage ≡ Idle) (room : 0 < seat.room) where
  abbrev drawn_by : SeatView
  drawn_by = record seat { stage = Waiting run.drawn }

  here : Fits origin run.log run.stopped run.served (run.drawn + 1) drawn_by
  here =
      let f = run.fits id seat at in
      let waiting = run.waiting in
      record {
        gone = λ e. absurd (omega arith);
        origin_is = f.origin_is;
        grows = f.grows;
        mine = f.mine;
        stage = (omega arith, omega arith);
        called = f.called;
        told = f.told;
      }

  apart : (by : ℕ) (other : SeatView) → by ≢ id → get_elem? board.views by ≡ opt.some other → Apart drawn_by other
  apart by other differ there =
      let a = run.apart id by seat other (λ e. differ (sym e)) at there in
      record {
        rights = a.rights;
        tickets = λ ticket mine theirs.
            let is : run.drawn ≡ ticket = cc in
            let range = ticket_range run.log run.stopped run.served run.drawn other other.stage ticket (run.fits by other there).stage theirs in
            let high = range.1 in
            absurd (omega arith);
        indices = a.indices;
      }

  pub runs_on : Running origin (stepped board 0 ((slice_index board.words 0 + 1) % 2 ^ 64) id [] drawn_by keeps)
  runs_on =
      let none : tickets seat.stage ≡ 0 = ap tickets idle in
      changes origin board run id seat drawn_by (slice_set board.words 0 ((slice_index board.words 0 + 1) % 2 ^ 64)) board.homes run.log run.stopped run.served (run.drawn + 1) (record {
        at = at;
        words_are = ap (λ (ws : List ℕ). slice_set ws 0 ((slice_index ws 0 + 1) % 2 ^ 64)) run.words ∙ ap (λ (n : ℕ). n ∷ run.served % 2 ^ 64 ∷ []) (mod-add-mod run.drawn (2 ^ 64) 1);
        waiting = omega arith;
        room = refl;
        here = here;
        others = λ by other differ there. fits_drawn origin run.log run.stopped run.served run.drawn other (run.fits by other there);
        apart = apart;
        slot = slot_kept origin board run.log run.stopped id seat drawn_by (slice_set board.words 0 ((slice_index board.words 0 + 1) % 2 ^ 64)) at (ap has_turn idle) refl run.slot;
        trace = run.trace;
        sparse = run.sparse;
        owned = run.owned;
        seen = any_set (λ s. s.seen ≡ run.log) board.views id seat drawn_by at (λ e. e) run.seen;
        reason = λ e. any_set (λ s. s.called ≡ true) board.views id seat drawn_by at (λ e. e) (run.reason e);
      })

pub draws : (origin : Origin) (slots id : ℕ) (me : HolderState) → me.0.stage ≡ Idle → 0 < me.0.room → Allows (Kept origin) slots id me 0 (λ n. (n + 1) % 2 ^ 64) (Draws me)
draws origin slots id me idle room board kept wide at _ = ⊎_elim
    (λ (new : IsNew origin board). let opening = ap (λ (s : SeatView). s.stage) (opens origin board id me.0 new at) in absurd (cc))
    (λ (run : Running origin board). (
      record me.0 { stage = Waiting run.drawn },
      keeps,
      tt,
      inr (runs_on origin board run id me.0 at idle room),
      (run.drawn, ap (λ (ws : List ℕ). slice_index ws 0) run.words, refl),
    ))
    kept
