-- The read of the served ticket keeps the rule, and shows the core that the handle finds.
use Rattle.std.proofs.Common.{◌≡◌, ◌≢◌, ◌≤◌, ◌<◌, ◌%◌, ◌^◌, ℕ, List, [], ◌∷◌, slice_index, slice_set, true, false, Option, Some, true≢false, refl, sym, ap, ◌∙◌, subst, inr, ⊎_elim, arith}
use Rattle.std.proofs.lemmas.List.{set-get_or}
use mathlib.Core.Logic.{dite}
use mathlib.Core.Option as opt
use native.Mathlib.Decide.{ℕ_discrete}
use lib.ListN.{get_elem?}
use Rattle.atomic_table.specs.Table.{keeps, takes, stepped, Allows}
use Rattle.atomic_table.proofs.Lists.{one_turn, set_again}
use Rattle.tb_log.specs.declared.entry.Entry.{Entry}
use Rattle.tb_bus.specs.declared.origin.Origin.{Origin}
use Rattle.tb_bus.specs.Buses.{start}
use Rattle.tb_bus.specs.Traces.{IsTrace}
use Rattle.tb_core.specs.Cores.{CoreState}
use Rattle.tb_lock.specs.Rights.{own, all_rights}
use Rattle.tb_lock.specs.Histories.{Grows, IsSparse}
use Rattle.tb_lock.specs.Helpers.Indices.{AreIn}
use Rattle.tb_lock.specs.Seats.{SeatView, Waiting, Serving}
use Rattle.tb_lock.specs.Calls.{Meets}
use Rattle.tb_lock.specs.Helpers.Rule.{BoardState, tickets, ticket_of, has_turn, FitsStage, Fits, Apart, AtHome, Away, Running, IsNew, Kept}
use Rattle.tb_lock.specs.Helpers.Plays.{HolderState, Reads, TakesSlot}
use Rattle.tb_lock.proofs.ListLemmas.{same_there, set_there, sum_two, any_set, any_here}
use Rattle.tb_lock.proofs.FrameLemmas.{changes, opens, ticket_room, few_tickets}
use Rattle.tb_lock.proofs.StageLemmas.{turn_ticket}
use Rattle.tb_lock.proofs.HistoryLemmas.{grows_refl, in_more}

-- a read that changes nothing keeps the rule
pub stays : (origin : Origin) (board : BoardState) (word id : ℕ) (seat : SeatView) (carried : List (ℕ × Option CoreState)) → Kept origin board → get_elem? board.views id ≡ opt.some seat → Kept origin (stepped board word (slice_index board.words word) id carried seat keeps)
stays origin board word id seat carried kept at =
    subst (Kept origin) (λ i. record { words = sym (set-get_or board.words word 0) i; homes = board.homes; views = sym (set_again board.views id seat at) i }) kept

module _ (origin : Origin) (board : BoardState) (run : Running origin board) (id : ℕ) (seat : SeatView) (at : get_elem? board.views id ≡ opt.some seat) where
  -- if a handle has the whole quota and the core is stopped, this handle has called `stop`
  pub lone : seat.room ≡ 64 → run.stopped ≡ true → seat.called ≡ true
  lone all e =
      let it = run.reason e in
      dite (ℕ_discrete it.0 id)
      (λ same. ap (λ (s : SeatView). s.called) (sym (same_there board.views it.0 id it.1 seat same it.2 at)) ∙ it.3)
      (λ differ.
      let both = sum_two (λ s. s.room) board.views it.0 id it.1 seat differ it.2 at in
      let rooms = run.rooms in
      let is : it.1.room ≡ 0 = omega arith in
      absurd (true≢false (sym it.3 ∙ ap (λ (s : SeatView). s.called) ((run.fits it.0 it.1 it.2).gone is))))

  module _ (ticket : ℕ) (waits : seat.stage ≡ Waiting ticket) where
    fits : Fits origin run.log run.stopped run.served run.drawn seat
    fits = run.fits id seat at

    range : (run.served ≤ ticket) × (ticket < run.drawn)
    range = subst (FitsStage run.log run.stopped run.served run.drawn seat) waits fits.stage

    has_room : 0 < seat.room
    has_room =
        let less = ticket_room origin run.log run.stopped run.served run.drawn seat fits in
        let one : tickets seat.stage ≡ 1 = ap tickets waits in
        omega arith

    found_is : slice_index board.words 1 ≡ run.served % 2 ^ 64
    found_is = ap (λ (ws : List ℕ). slice_index ws 1) run.words

    served : slice_index board.words 1 ≡ ticket % 2 ^ 64 → run.served ≡ ticket
    served e =
        let few = few_tickets origin board run in
        let low = range.0 in
        let high = range.1 in
        one_turn run.served ticket (2 ^ 64) range.0 (omega arith) (sym found_is ∙ e)

    -- the core is in the slot, because no other handle is served
    at_home : run.served ≡ ticket → AtHome origin run.log run.stopped board
    at_home is = ⊎_elim
        (λ (home : AtHome origin run.log run.stopped board). home)
        (λ (away : Away board).
        let it = away.somebody_has in
        dite (ℕ_discrete it.0 id)
        (λ same.
        let here : it.1 ≡ seat = same_there board.views it.0 id it.1 seat same it.2 at in
        let none : has_turn it.1.stage ≡ false = ap (λ (s : SeatView). has_turn s.stage) here ∙ ap has_turn waits in
        absurd (true≢false (sym it.3 ∙ none)))
        (λ differ.
        let theirs = turn_ticket run.log run.stopped run.served run.drawn it.1 it.1.stage (run.fits it.0 it.1 it.2).stage it.3 in
        absurd ((run.apart it.0 id it.1 seat differ it.2 at).tickets run.served theirs (ap ticket_of waits ∙ ap Some (sym is)))))
        run.slot

    module _ (is : run.served ≡ ticket) (home : AtHome origin run.log run.stopped board) where
      abbrev served_by : SeatView
      served_by = record seat { seen = home.core.log; stage = Serving ticket home.core.stopped }

      here : Fits origin run.log run.stopped run.served run.drawn served_by
      here =
          let room = has_room in
          let log_is = home.is.log_is in
          record {
            gone = λ e. absurd (omega arith);
            origin_is = fits.origin_is;
            grows = subst (λ (xs : List Entry). Grows seat.rights xs run.log) (sym log_is) (grows_refl seat.rights run.log);
            mine = subst (λ (xs : List Entry). AreIn xs 0 seat.mine) (sym (log_is ∙ fits.grows.is)) (in_more seat.seen fits.grows.rest 0 seat.mine fits.mine);
            stage = (sym is, range.1, log_is, home.is.stopped_is);
            called = fits.called;
            told = fits.told;
          }

      apart : (by : ℕ) (other : SeatView) → by ≢ id → get_elem? board.views by ≡ opt.some other → Apart served_by other
      apart by other differ there =
          let a = run.apart id by seat other (λ e. differ (sym e)) at there in
          record { rights = a.rights; tickets = λ n mine theirs. a.tickets n (ap ticket_of waits ∙ mine) theirs; indices = a.indices }

      pub taken : Running origin (stepped board 1 (slice_index board.words 1) id [] served_by (takes 0 (Some home.core)))
      taken =
          let one : tickets seat.stage ≡ 1 = ap tickets waits in
          changes origin board run id seat served_by (slice_set board.words 1 (slice_index board.words 1)) (slice_set board.homes 0 opt.none) run.log run.stopped run.served run.drawn (record {
            at = at;
            words_are = ap (λ (ws : List ℕ). slice_set ws 1 (slice_index ws 1)) run.words;
            waiting = omega arith;
            room = refl;
            here = here;
            others = λ by other differ there. run.fits by other there;
            apart = apart;
            slot = inr (record { out = set_there board.homes 0 (opt.some (Some home.core)) opt.none home.here; somebody_has = any_here (λ s. has_turn s.stage ≡ true) board.views id seat served_by at refl });
            trace = run.trace;
            sparse = run.sparse;
            owned = run.owned;
            seen = any_here (λ s. s.seen ≡ run.log) board.views id seat served_by at home.is.log_is;
            reason = λ e. any_set (λ s. s.called ≡ true) board.views id seat served_by at (λ called. called) (run.reason e);
          })

      pub meets : Meets seat home.core
      meets =
          let log_is = home.is.log_is in
          let stopped_is = home.is.stopped_is in
          let origin_is = fits.origin_is has_room in
          record {
            origin = home.is.origin_is ∙ sym origin_is;
            grows = subst (Grows seat.rights seat.seen) (sym log_is) fits.grows;
            trace = subst (λ (o : Origin). IsTrace (start o) home.core.log) (sym origin_is) (subst (IsTrace (start origin)) (sym log_is) run.trace);
            sparse = subst IsSparse (sym log_is) run.sparse;
            owned = subst (λ (xs : List Entry). own all_rights xs ≡ xs) (sym log_is) run.owned;
            called = λ e. stopped_is ∙ fits.called e;
            told = λ e. stopped_is ∙ fits.told e;
            alone = λ all e. lone all (sym stopped_is ∙ e);
          }

waits_so : (seat : SeatView) (ticket other : ℕ) → seat.stage ≡ Waiting ticket → seat.stage ≡ Waiting other → ticket ≡ other
waits_so seat ticket other one more = cc

-- by its one ticket, because a handle has no other
told_by : (me after : HolderState) (found ticket : ℕ) → me.0.stage ≡ Waiting ticket → (found ≡ ticket % 2 ^ 64 → TakesSlot ticket me after) → (found ≢ ticket % 2 ^ 64 → after ≡ me) → Reads me found after
told_by me after found ticket waits hits misses other more =
    subst (λ (n : ℕ). (found ≡ n % 2 ^ 64 → TakesSlot n me after) × (found ≢ n % 2 ^ 64 → after ≡ me)) (waits_so me.0 ticket other waits more) (hits, misses)

pub reads : (origin : Origin) (slots id : ℕ) (me : HolderState) (ticket : ℕ) → me.0.stage ≡ Waiting ticket → me.1 ≡ [] → Allows (Kept origin) slots id me 1 (λ n. n) (Reads me)
reads origin slots id me ticket waits empty = subst (λ (m : HolderState). Allows (Kept origin) slots id m 1 (λ n. n) (Reads m)) (λ i. (me.0, sym empty i)) (λ board kept wide at _. ⊎_elim
    (λ (new : IsNew origin board). let opening = ap (λ (s : SeatView). s.stage) (opens origin board id me.0 new at) in absurd (cc))
    (λ (run : Running origin board). dite (ℕ_discrete (slice_index board.words 1) (ticket % 2 ^ 64))
    (λ is_it.
    let is = served origin board run id me.0 at ticket waits is_it in
    let home = at_home origin board run id me.0 at ticket waits is in
    let after : HolderState = (record me.0 { seen = home.core.log; stage = Serving ticket home.core.stopped }, (0, Some home.core) ∷ []) in (
      after.0,
      takes 0 (Some home.core),
      home.here,
      inr (taken origin board run id me.0 at ticket waits is home),
      told_by (me.0, []) after (slice_index board.words 1) ticket waits (λ _. (home.core, refl, meets origin board run id me.0 at ticket waits is home)) (λ miss. absurd (miss is_it)),
    ))
    (λ miss. (me.0, keeps, tt, stays origin board 1 id me.0 [] kept at, told_by (me.0, []) (me.0, []) (slice_index board.words 1) ticket waits (λ is_it. absurd (miss is_it)) (λ _. refl))))
    kept)
