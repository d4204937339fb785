-- Passing a turn on keeps the rule; so does the first turn of a bus that is being made.
use Rattle.std.proofs.Common.{◌≡◌, ◌≢◌, ◌<◌, ◌+◌, ◌%◌, ◌^◌, ℕ, zero, suc, List, [], ◌∷◌, set, slice_index, slice_set, replicate, true, false, Some, None, true≢false, refl, sym, ap, ◌∙◌, subst, inl, inr, ⊎_elim, arith}
use Rattle.std.proofs.Math.Nat.{mod-add-mod}
use mathlib.Core.Option as opt
use lib.ListN.{get_elem?}
use Rattle.atomic_table.specs.Table.{gives, takes, stepped, opening, Allows}
use Rattle.tb_bus.specs.declared.origin.Origin.{Origin}
use Rattle.tb_core.specs.Cores.{CoreState}
use Rattle.tb_lock.specs.Seats.{SeatView, Opening, Idle, Serving}
use Rattle.tb_lock.specs.Helpers.Rule.{BoardState, tickets, ticket_of, has_turn, FitsStage, Fits, Apart, AtHome, Away, Running, IsNew, Kept, opening_seat}
use Rattle.tb_lock.specs.Helpers.Plays.{HolderState, Passes, Opens}
use Rattle.tb_lock.proofs.ListLemmas.{set_there, each_set, any_set}
use Rattle.tb_lock.proofs.FrameLemmas.{changes, slot_out, opens, alone_at, ticket_room}
use Rattle.tb_lock.proofs.StageLemmas.{turn_ticket, fits_passed}
use Rattle.tb_lock.proofs.OwnLemmas.{not_false}
use Rattle.tb_lock.proofs.HistoryLemmas.{grows_refl, sparse_nil}

module _ (origin : Origin) (board : BoardState) (run : Running origin board) (id : ℕ) (seat : SeatView) (at : get_elem? board.views id ≡ opt.some seat) (ticket : ℕ) (core : CoreState) (open_is : seat.stage ≡ Serving ticket core.stopped) where
  fits : Fits origin run.log run.stopped run.served run.drawn seat
  fits = run.fits id seat at

  now : (ticket ≡ run.served) × (ticket < run.drawn) × (seat.seen ≡ run.log) × (core.stopped ≡ run.stopped)
  now = subst (FitsStage run.log run.stopped run.served run.drawn seat) open_is fits.stage

  -- no other handle has this ticket
  pub no_other : (by : ℕ) (other : SeatView) → by ≢ id → get_elem? board.views by ≡ opt.some other → ticket_of other.stage ≡ Some run.served → ⊥
  no_other by other differ there theirs = (run.apart by id other seat differ there at).tickets run.served theirs (ap ticket_of open_is ∙ ap Some now.0)

  module _ (origin_is : core.origin ≡ seat.origin) (log_is : core.log ≡ seat.seen) where
    abbrev passed_on : SeatView
    passed_on = record seat { stage = Idle }

    has_room : 0 < seat.room
    has_room =
        let less = ticket_room origin run.log run.stopped run.served run.drawn seat fits in
        let one : tickets seat.stage ≡ 1 = ap tickets open_is in
        omega arith

    here : Fits origin run.log run.stopped (run.served + 1) run.drawn passed_on
    here =
        let room = has_room in
        record {
          gone = λ e. absurd (omega arith);
          origin_is = fits.origin_is;
          grows = fits.grows;
          mine = fits.mine;
          stage = tt;
          called = fits.called;
          told = fits.told;
        }

    apart : (by : ℕ) (other : SeatView) → by ≢ id → get_elem? board.views by ≡ opt.some other → Apart passed_on other
    apart by other differ there =
        let a = run.apart id by seat other (λ e. differ (sym e)) at there in
        record { rights = a.rights; tickets = λ n mine theirs. absurd (cc); indices = a.indices }

    out : Away board
    out = slot_out origin board run.log run.stopped id seat at (ap has_turn open_is) run.slot

    home : (words : List ℕ) → AtHome origin run.log run.stopped (record { words = words; homes = slice_set board.homes 0 (opt.some (Some core)); views = set board.views id passed_on })
    home words = record {
      core = core;
      here = set_there board.homes 0 opt.none (opt.some (Some core)) out.out;
      is = record { origin_is = origin_is ∙ fits.origin_is has_room; log_is = log_is ∙ now.2; stopped_is = now.3 };
      nobody_has = λ by other there. each_set (λ s. has_turn s.stage ≡ false) board.views id passed_on
          (λ j u differ e. not_false (has_turn u.stage) (λ has. no_other j u differ e (turn_ticket run.log run.stopped run.served run.drawn u u.stage (run.fits j u e).stage has)))
          refl by other there;
    }

    pub passed : Running origin (stepped board 1 ((slice_index board.words 1 + 1) % 2 ^ 64) id ((0, Some core) ∷ []) passed_on gives)
    passed =
        let words : List ℕ = slice_set board.words 1 ((slice_index board.words 1 + 1) % 2 ^ 64) in
        let one : tickets seat.stage ≡ 1 = ap tickets open_is in
        changes origin board run id seat passed_on words (slice_set board.homes 0 (opt.some (Some core))) run.log run.stopped (run.served + 1) run.drawn (record {
          at = at;
          words_are = ap (λ (ws : List ℕ). slice_set ws 1 ((slice_index ws 1 + 1) % 2 ^ 64)) run.words ∙ ap (λ (n : ℕ). run.drawn % 2 ^ 64 ∷ n ∷ []) (mod-add-mod run.served (2 ^ 64) 1);
          waiting = omega arith;
          room = refl;
          here = here;
          others = λ by other differ there. fits_passed origin run.log run.stopped run.served run.drawn other (run.fits by other there) (no_other by other differ there);
          apart = apart;
          slot = inl (home words);
          trace = run.trace;
          sparse = run.sparse;
          owned = run.owned;
          seen = any_set (λ s. s.seen ≡ run.log) board.views id seat passed_on at (λ e. e) run.seen;
          reason = λ e. any_set (λ s. s.called ≡ true) board.views id seat passed_on at (λ e. e) (run.reason e);
        })

pub passes : (origin : Origin) (slots id : ℕ) (me : HolderState) (ticket : ℕ) (core : CoreState) → me.0.stage ≡ Serving ticket core.stopped → me.1 ≡ (0, Some core) ∷ [] → core.origin ≡ me.0.origin → core.log ≡ me.0.seen →
    Allows (Kept origin) slots id me 1 (λ n. (n + 1) % 2 ^ 64) (Passes me)
passes origin slots id me ticket core open_is slot origin_is log_is =
    subst (λ (m : HolderState). Allows (Kept origin) slots id m 1 (λ n. (n + 1) % 2 ^ 64) (Passes m)) (λ i. (me.0, sym slot i)) (λ board kept wide at _. ⊎_elim
    (λ (new : IsNew origin board). let opening = ap (λ (s : SeatView). s.stage) (opens origin board id me.0 new at) in absurd (cc))
    (λ (run : Running origin board). (record me.0 { stage = Idle }, gives, tt, inr (passed origin board run id me.0 at ticket core open_is origin_is log_is), refl))
    kept)

-- a bus that is being made
pub begins : (origin : Origin) → Kept origin (opening (1 ∷ 0 ∷ []) (replicate 1 None) (opening_seat origin))
begins origin = inl (record { words = refl; homes = refl; views = refl })

abbrev opened_by : Origin → SeatView
opened_by origin = record (opening_seat origin) { stage = Serving 0 false }

module _ (origin : Origin) where
  -- of the one handle
  only : (P : SeatView → Type 0) → P (opened_by origin) → (id : ℕ) (seat : SeatView) → get_elem? (opened_by origin ∷ []) id ≡ opt.some seat → P seat
  only P holds id seat at = subst P (alone_at (opened_by origin) seat id at) holds

  first_fits : Fits origin [] false 0 1 (opened_by origin)
  first_fits = record {
    gone = λ e. absurd (omega arith);
    origin_is = λ _. refl;
    grows = grows_refl (opened_by origin).rights [];
    mine = tt;
    stage = (refl, omega arith, refl, refl);
    called = λ e. absurd (true≢false (sym e));
    told = λ e. absurd (true≢false (sym e));
  }

  no_two : (i j : ℕ) (u v : SeatView) → i ≢ j → get_elem? (opened_by origin ∷ []) i ≡ opt.some u → get_elem? (opened_by origin ∷ []) j ≡ opt.some v → ⊥
  no_two zero zero u v differ one other = differ refl
  no_two zero (suc j) u v differ one other = opt.some-ne-none v (sym other)
  no_two (suc i) j u v differ one other = opt.some-ne-none u (sym one)

  -- the first turn is open
  first_turn : Running origin (record { words = 1 ∷ 0 ∷ []; homes = opt.none ∷ []; views = opened_by origin ∷ [] })
  first_turn = record {
    log = [];
    stopped = false;
    drawn = 1;
    served = 0;
    words = refl;
    waiting = refl;
    rooms = refl;
    fits = λ id seat at. only (Fits origin [] false 0 1) first_fits id seat at;
    apart = λ i j u v differ one other. absurd (no_two i j u v differ one other);
    slot = inr (record { out = refl; somebody_has = (0, opened_by origin, refl, refl) });
    trace = tt;
    sparse = sparse_nil;
    owned = refl;
    seen = (0, opened_by origin, refl, refl);
    reason = λ e. absurd (true≢false (sym e));
  }

-- it has the number 0
first_number : {A : Type 0} (x a : A) (i : ℕ) → get_elem? (x ∷ []) i ≡ opt.some a → i ≡ 0
first_number x a zero e = refl
first_number x a (suc i) e = absurd (opt.some-ne-none a (sym e))

pub first_opens : (origin : Origin) (slots id : ℕ) (me : HolderState) → me.0.stage ≡ Opening → me.1 ≡ [] → Allows (Kept origin) slots id me 1 (λ n. n) (Opens me)
first_opens origin slots id me opening_is empty = subst (λ (m : HolderState). Allows (Kept origin) slots id m 1 (λ n. n) (Opens m)) (λ i. (me.0, sym empty i)) (λ board kept wide at _. ⊎_elim
    (λ (new : IsNew origin board).
    let is : me.0 ≡ opening_seat origin = opens origin board id me.0 new at in
    let number : id ≡ 0 = first_number (opening_seat origin) me.0 id (ap (λ (views : List SeatView). get_elem? views id) (sym new.views) ∙ at) in (
      record me.0 { stage = Serving 0 false },
      takes 0 None,
      ap (λ hs. get_elem? hs 0) new.homes,
      inr (subst (Running origin)
          (λ i. record {
            words = slice_set (sym new.words i) 1 (slice_index (sym new.words i) 1);
            homes = slice_set (sym new.homes i) 0 opt.none;
            views = set (sym new.views i) (sym number i) (record (sym is i) { stage = Serving 0 false });
          })
          (first_turn origin)),
      refl,
    ))
    (λ (run : Running origin board). absurd (subst (FitsStage run.log run.stopped run.served run.drawn me.0) opening_is (run.fits id me.0 at).stage))
    kept)
