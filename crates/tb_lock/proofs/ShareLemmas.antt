-- The split of a handle, the join of two handles, and the look after a join keep the rule. The look shows that each had seen all entries of
-- its rights.
use Rattle.std.proofs.Common.{◌≡◌, ◌≢◌, ◌⊎◌, ◌≤◌, ◌<◌, ◌+◌, ◌-◌, ℕ, List, [], ◌∷◌, ◌++◌, set, slice_index, slice_set, Bool, true, false, ◌||◌, Some, None, true≢false, refl, sym, ap, ◌∙◌, subst, inl, inr, ⊎_elim, arith, length, length-append, append-nil, ◌==◌}
use Rattle.std.proofs.lemmas.List.{set_comm, nil_from_length}
use Rattle.std.proofs.lemmas.List.Sums.{sum_by_push}
use Rattle.std.proofs.lemmas.Nat.Bits.{bit_at-zero}
use mathlib.Core.Logic.{dite}
use mathlib.Core.Option as opt
use native.Mathlib.Decide.{ℕ_discrete}
use lib.ListN.{get_elem?}
use Rattle.atomic_table.specs.Table.{keeps, stepped, Allows, Splits, Joins}
use Rattle.atomic_table.proofs.Lists.{set_else}
use Rattle.tb_log.specs.declared.entry.Entry.{Entry}
use Rattle.tb_bus.specs.declared.origin.Origin.{Origin}
use Rattle.tb_lock.specs.declared.rights.Rights.{Rights}
use Rattle.tb_lock.specs.Rights.{Right, Steps, Ticks, In, Out, has, right_of, AreAmong, no_rights, without}
use Rattle.tb_lock.specs.Histories.{Own, Grows, longer}
use Rattle.tb_lock.specs.Helpers.Indices.{AreIn, has_index}
use Rattle.tb_lock.specs.Seats.{SeatView, Stage, Idle, Joined, nobody, kept_of, handed_on}
use Rattle.tb_lock.specs.Helpers.Rule.{BoardState, tickets, ticket_of, has_turn, FitsStage, Fits, Apart, Somewhere, AtHome, Away, Running, IsNew, Kept}
use Rattle.tb_lock.specs.Helpers.Plays.{HolderState, joining, Looks}
use Rattle.tb_lock.proofs.ListLemmas.{sum_set, each_set, each_end, pairs_set, pairs_end, any_set, any_end, any_two, set_there}
use Rattle.tb_lock.proofs.FrameLemmas.{apart_swaps, changes, slot_kept, opens}
use Rattle.tb_lock.proofs.RightLemmas.{has-united, left_among, left_apart, of_united, or_true}
use Rattle.tb_lock.proofs.OwnLemmas.{NeedsNone, none_needed, not_false}
use Rattle.tb_lock.proofs.HistoryLemmas.{grows_fewer, grows_joined, grows_first, grows_second, longer_is, in_more, in_merged, has_index-merged}

idle_fits : (log : List Entry) (stopped : Bool) (served drawn : ℕ) (seat : SeatView) (stage : Stage) → stage ≡ Idle → FitsStage log stopped served drawn seat stage
idle_fits log stopped served drawn seat stage idle = subst (FitsStage log stopped served drawn seat) (sym idle) tt

-- an idle handle has no ticket
no_ticket : (stage : Stage) (ticket : ℕ) → stage ≡ Idle → ticket_of stage ≡ Some ticket → ⊥
no_ticket stage ticket idle e = let none : ticket_of stage ≡ None = ap ticket_of idle in cc

module _ (origin : Origin) (board : BoardState) (run : Running origin board) (id : ℕ) (seat : SeatView) (at : get_elem? board.views id ≡ opt.some seat) (gone : Rights) (among : AreAmong gone seat.rights) (room : 1 < seat.room) (idle : seat.stage ≡ Idle) where
  fits : Fits origin run.log run.stopped run.served run.drawn seat
  fits = run.fits id seat at

  abbrev left : SeatView
  left = kept_of gone seat

  abbrev new : SeatView
  new = handed_on gone seat

  left_fits : Fits origin run.log run.stopped run.served run.drawn left
  left_fits = record {
    gone = λ e. absurd (omega arith);
    origin_is = λ _. fits.origin_is (omega arith);
    grows = grows_fewer (without seat.rights gone) seat.rights seat.seen run.log (left_among seat.rights gone) fits.grows;
    mine = fits.mine;
    stage = idle_fits run.log run.stopped run.served run.drawn left seat.stage idle;
    called = fits.called;
    told = fits.told;
  }

  new_fits : Fits origin run.log run.stopped run.served run.drawn new
  new_fits = record {
    gone = λ e. absurd (omega arith);
    origin_is = λ _. fits.origin_is (omega arith);
    grows = grows_fewer gone seat.rights seat.seen run.log among fits.grows;
    mine = tt;
    stage = idle_fits run.log run.stopped run.served run.drawn new seat.stage idle;
    called = λ e. absurd (true≢false (sym e));
    told = λ e. absurd (true≢false (sym e));
  }

  left_apart_from : (by : ℕ) (other : SeatView) → by ≢ id → get_elem? board.views by ≡ opt.some other → Apart left other
  left_apart_from by other differ there =
      let a = run.apart id by seat other (λ e. differ (sym e)) at there in
      record {
        rights = λ right mine theirs. a.rights right (left_among seat.rights gone right mine) theirs;
        tickets = a.tickets;
        indices = a.indices;
      }

  new_apart_from : (by : ℕ) (other : SeatView) → by ≢ id → get_elem? board.views by ≡ opt.some other → Apart new other
  new_apart_from by other differ there =
      let a = run.apart id by seat other (λ e. differ (sym e)) at there in
      record {
        rights = λ right mine theirs. a.rights right (among right mine) theirs;
        tickets = a.tickets;
        indices = λ index mine theirs. absurd (true≢false (sym mine));
      }

  new_apart_left : Apart new left
  new_apart_left = record {
    rights = λ right mine theirs. left_apart seat.rights gone right theirs mine;
    tickets = λ ticket mine theirs. no_ticket seat.stage ticket idle mine;
    indices = λ index mine theirs. absurd (true≢false (sym mine));
  }

  abbrev parted_views : List SeatView
  parted_views = slice_set board.views id left ++ new ∷ []

  part_slot : (let next : BoardState = record { words = board.words; homes = board.homes; views = parted_views } in AtHome origin run.log run.stopped next ⊎ Away next)
  part_slot = ⊎_elim
      (λ (home : AtHome origin run.log run.stopped board). inl (record {
        core = home.core;
        here = home.here;
        is = home.is;
        nobody_has = λ by other there. each_end (λ s. has_turn s.stage ≡ false) (set board.views id left) new
            (λ j u e. each_set (λ s. has_turn s.stage ≡ false) board.views id left (λ i v _ f. home.nobody_has i v f) (ap has_turn idle) j u e)
            (ap has_turn idle) by other there;
      }))
      (λ (away : Away board). inr (record {
        out = away.out;
        somebody_has = any_end (λ s. has_turn s.stage ≡ true) (set board.views id left) new (any_set (λ s. has_turn s.stage ≡ true) board.views id seat left at (λ has. has) away.somebody_has);
      }))
      run.slot

  pub parted : Running origin (record { words = board.words; homes = board.homes; views = parted_views })
  parted =
      let t = sum_set (λ s. tickets s.stage) board.views id seat left at in
      let r = sum_set (λ s. s.room) board.views id seat left at in
      let t' = sum_by_push (λ (s : SeatView). tickets s.stage) (set board.views id left) new in
      let r' = sum_by_push (λ (s : SeatView). s.room) (set board.views id left) new in
      let none : tickets seat.stage ≡ 0 = ap tickets idle in
      let waiting = run.waiting in
      let rooms = run.rooms in
      record {
        log = run.log;
        stopped = run.stopped;
        drawn = run.drawn;
        served = run.served;
        words = run.words;
        waiting = omega arith;
        rooms = omega arith;
        fits = λ by other there. each_end (Fits origin run.log run.stopped run.served run.drawn) (set board.views id left) new
            (λ j u e. each_set (Fits origin run.log run.stopped run.served run.drawn) board.views id left (λ i v _ f. run.fits i v f) left_fits j u e)
            new_fits by other there;
        apart = λ i j u v differ one other. pairs_end Apart apart_swaps (set board.views id left) new
            (pairs_set Apart apart_swaps board.views id left run.apart left_apart_from)
            (λ by w e. by_number by w e) i j u v differ one other;
        slot = part_slot;
        trace = run.trace;
        sparse = run.sparse;
        owned = run.owned;
        seen = any_end (λ s. s.seen ≡ run.log) (set board.views id left) new (any_set (λ s. s.seen ≡ run.log) board.views id seat left at (λ e. e) run.seen);
        reason = λ e. any_end (λ s. s.called ≡ true) (set board.views id left) new (any_set (λ s. s.called ≡ true) board.views id seat left at (λ called. called) (run.reason e));
      }
    where
      by_number : (by : ℕ) (w : SeatView) → get_elem? (set board.views id left) by ≡ opt.some w → Apart new w
      by_number by w e = dite (ℕ_discrete by id)
          (λ same. subst (Apart new) (opt.some-injective left w (sym (set_there board.views id seat left at) ∙ ap (get_elem? (set board.views id left)) (sym same) ∙ e)) new_apart_left)
          (λ differ. new_apart_from by w differ (sym (set_else board.views id by left differ) ∙ e))

pub splits : (origin : Origin) (id : ℕ) (seat : SeatView) (gone : Rights) → AreAmong gone seat.rights → 1 < seat.room → seat.stage ≡ Idle → Splits (Kept origin) id seat (kept_of gone seat) (handed_on gone seat)
splits origin id seat gone among room idle board kept at = ⊎_elim
    (λ (new : IsNew origin board). let opening = ap (λ (s : SeatView). s.stage) (opens origin board id seat new at) in absurd (cc))
    (λ (run : Running origin board). inr (parted origin board run id seat at gone among room idle))
    kept

has_none : (right : Right) → has no_rights right ≡ true → ⊥
has_none Steps e = true≢false (sym e)
has_none Ticks e = true≢false (sym e)
has_none (In lane) e = true≢false (sym e ∙ ap (λ (n : ℕ). n == 1) (bit_at-zero (lane - 1)))
has_none (Out lane) e = true≢false (sym e ∙ ap (λ (n : ℕ). n == 1) (bit_at-zero (lane - 1)))

needs_no_rights : (log : List Entry) → NeedsNone no_rights log
needs_no_rights [] = tt
needs_no_rights (entry ∷ entries) = (not_false (has no_rights (right_of entry)) (has_none (right_of entry)), needs_no_rights entries)

nobody_apart : (other : SeatView) → Apart nobody other
nobody_apart other = record {
  rights = λ right mine theirs. has_none right mine;
  tickets = λ ticket mine theirs. absurd (cc);
  indices = λ index mine theirs. true≢false (sym mine);
}

or_either : {C : Type 0} (a b : Bool) → (a || b) ≡ true → (a ≡ true → C) → (b ≡ true → C) → C
or_either a b e one other = ⊎_elim one other (or_true a b e)

or_left : (a b : Bool) → a ≡ true → (a || b) ≡ true
or_left a b e = ap (λ (x : Bool). x || b) e

or_right : (a b : Bool) → b ≡ true → (a || b) ≡ true
or_right true b e = refl
or_right false b e = e

-- of two prefixes, one of which is the whole history, the longer is the whole history
whole : (rights more : Rights) (one other log : List Entry) → one ≡ log → Grows more other log → longer one other ≡ log
whole rights more one other log e g = ⊎_elim
    (λ (t : (longer one other ≡ other) × (length one ≤ length other)).
    let short : length log ≡ length other + length g.rest = ap length g.is ∙ length-append other g.rest in
    let same : length one ≡ length log = ap length e in
    let none : g.rest ≡ [] = nil_from_length g.rest (omega arith) in
    t.0 ∙ sym (g.is ∙ ap (λ (xs : List Entry). other ++ xs) none ∙ append-nil other))
    (λ (t : (longer one other ≡ one) × (length other ≤ length one)). t.0 ∙ e)
    (longer_is one other)

whole_too : (rights more : Rights) (one other log : List Entry) → Grows rights one log → other ≡ log → longer one other ≡ log
whole_too rights more one other log g e = ⊎_elim
    (λ (t : (longer one other ≡ other) × (length one ≤ length other)). t.0 ∙ e)
    (λ (t : (longer one other ≡ one) × (length other ≤ length one)).
    let short : length log ≡ length one + length g.rest = ap length g.is ∙ length-append one g.rest in
    let same : length other ≡ length log = ap length e in
    let none : g.rest ≡ [] = nil_from_length g.rest (omega arith) in
    t.0 ∙ sym (g.is ∙ ap (λ (xs : List Entry). one ++ xs) none ∙ append-nil one))
    (longer_is one other)

module _ (origin : Origin) (board : BoardState) (run : Running origin board) (id by : ℕ) (seat other : SeatView) (at : get_elem? board.views id ≡ opt.some seat) (differ : by ≢ id) (there : get_elem? board.views by ≡ opt.some other)
    (idle : seat.stage ≡ Idle) (their_idle : other.stage ≡ Idle) (room : 0 < seat.room) where
  mine_fits : Fits origin run.log run.stopped run.served run.drawn seat
  mine_fits = run.fits id seat at

  their_fits : Fits origin run.log run.stopped run.served run.drawn other
  their_fits = run.fits by other there

  between : Apart seat other
  between = run.apart id by seat other (λ e. differ (sym e)) at there

  abbrev both : SeatView
  both = joining seat other

  -- own entries keep their indices in the longer of the two logs
  in_longer : (owns : List Own) → AreIn seat.seen 0 owns → AreIn (longer seat.seen other.seen) 0 owns
  in_longer owns h =
      let g = grows_first seat.rights other.rights seat.seen other.seen run.log mine_fits.grows their_fits.grows in
      subst (λ (xs : List Entry). AreIn xs 0 owns) (sym g.is) (in_more seat.seen g.rest 0 owns h)

  in_longer_too : (owns : List Own) → AreIn other.seen 0 owns → AreIn (longer seat.seen other.seen) 0 owns
  in_longer_too owns h =
      let g = grows_second seat.rights other.rights seat.seen other.seen run.log mine_fits.grows their_fits.grows in
      subst (λ (xs : List Entry). AreIn xs 0 owns) (sym g.is) (in_more other.seen g.rest 0 owns h)

  both_fits : Fits origin run.log run.stopped run.served run.drawn both
  both_fits = record {
    gone = λ e. absurd (omega arith);
    origin_is = λ _. mine_fits.origin_is room;
    grows = grows_joined seat.rights other.rights seat.seen other.seen run.log mine_fits.grows their_fits.grows;
    mine = in_merged (longer seat.seen other.seen) 0 seat.mine other.mine (in_longer seat.mine mine_fits.mine) (in_longer_too other.mine their_fits.mine) between.indices;
    stage = (
      refl,
      mine_fits.grows,
      their_fits.grows,
      (λ right e. has-united seat.rights other.rights right ∙ or_left (has seat.rights right) (has other.rights right) e),
      (λ right e. has-united seat.rights other.rights right ∙ or_right (has seat.rights right) (has other.rights right) e),
    );
    called = λ e. or_either seat.called other.called e mine_fits.called their_fits.called;
    told = λ e. or_either seat.told other.told e mine_fits.told their_fits.told;
  }

  nobody_fits : Fits origin run.log run.stopped run.served run.drawn nobody
  nobody_fits = record {
    gone = λ _. refl;
    origin_is = λ e. absurd (omega arith);
    grows = record { rest = run.log; is = refl; none = none_needed no_rights run.log (needs_no_rights run.log) };
    mine = tt;
    stage = tt;
    called = λ e. absurd (true≢false (sym e));
    told = λ e. absurd (true≢false (sym e));
  }

  both_apart : (j : ℕ) (u : SeatView) → j ≢ id → get_elem? (set board.views by nobody) j ≡ opt.some u → Apart both u
  both_apart j u apart e = dite (ℕ_discrete j by)
      (λ same. subst (Apart both) (opt.some-injective nobody u (sym (set_there board.views by other nobody there) ∙ ap (get_elem? (set board.views by nobody)) (sym same) ∙ e)) (apart_swaps nobody both (nobody_apart both)))
      (λ further.
      let at_j : get_elem? board.views j ≡ opt.some u = sym (set_else board.views by j nobody further) ∙ e in
      let a = run.apart id j seat u (λ x. apart (sym x)) at at_j in
      let b = run.apart by j other u (λ x. further (sym x)) there at_j in
      record {
        rights = λ right mine theirs. ⊎_elim (λ t. a.rights right t theirs) (λ t. b.rights right t theirs) (of_united seat.rights other.rights right mine);
        tickets = λ ticket mine theirs. absurd (cc);
        indices = λ index mine theirs. or_either (has_index index seat.mine) (has_index index other.mine) (sym (has_index-merged index seat.mine other.mine) ∙ mine) (λ t. a.indices index t theirs) (λ t. b.indices index t theirs);
      })

  abbrev views : List SeatView
  views = set (set board.views by nobody) id both

  there_too : get_elem? (set board.views by nobody) id ≡ opt.some seat
  there_too = set_else board.views by id nobody (λ e. differ (sym e)) ∙ at

  join_slot : (let next : BoardState = record { words = board.words; homes = board.homes; views = views } in AtHome origin run.log run.stopped next ⊎ Away next)
  join_slot = ⊎_elim
      (λ (home : AtHome origin run.log run.stopped board). inl (record {
        core = home.core;
        here = home.here;
        is = home.is;
        nobody_has = λ j u e. each_set (λ s. has_turn s.stage ≡ false) (set board.views by nobody) id both
            (λ i v _ f. each_set (λ s. has_turn s.stage ≡ false) board.views by nobody (λ k w _ g. home.nobody_has k w g) refl i v f) refl j u e;
      }))
      (λ (away : Away board). inr (record {
        out = away.out;
        somebody_has = subst (λ (vs : List SeatView). Somewhere (λ s. has_turn s.stage ≡ true) vs) (set_comm board.views id by both nobody (λ e. differ (sym e)))
            (any_two (λ s. has_turn s.stage ≡ true) board.views id by seat other both nobody differ at there
            (λ has. absurd (true≢false (sym has ∙ ap has_turn idle))) (λ has. absurd (true≢false (sym has ∙ ap has_turn their_idle))) away.somebody_has);
      }))
      run.slot

  -- after the join, some handle has seen the whole history
  join_seen : Somewhere (λ s. s.seen ≡ run.log) views
  join_seen = subst (λ (vs : List SeatView). Somewhere (λ s. s.seen ≡ run.log) vs) (set_comm board.views id by both nobody (λ e. differ (sym e)))
      (any_two (λ s. s.seen ≡ run.log) board.views id by seat other both nobody differ at there
      (λ e. whole seat.rights other.rights seat.seen other.seen run.log e their_fits.grows) (λ e. whole_too seat.rights other.rights seat.seen other.seen run.log mine_fits.grows e) run.seen)

  pub united_views : Running origin (record { words = board.words; homes = board.homes; views = views })
  united_views =
      let t = sum_set (λ s. tickets s.stage) board.views by other nobody there in
      let r = sum_set (λ s. s.room) board.views by other nobody there in
      let t' = sum_set (λ s. tickets s.stage) (set board.views by nobody) id seat both there_too in
      let r' = sum_set (λ s. s.room) (set board.views by nobody) id seat both there_too in
      let none : tickets seat.stage ≡ 0 = ap tickets idle in
      let none' : tickets other.stage ≡ 0 = ap tickets their_idle in
      let waiting = run.waiting in
      let rooms = run.rooms in
      record {
        log = run.log;
        stopped = run.stopped;
        drawn = run.drawn;
        served = run.served;
        words = run.words;
        waiting = omega arith;
        rooms = omega arith;
        fits = λ j u e. each_set (Fits origin run.log run.stopped run.served run.drawn) (set board.views by nobody) id both
            (λ i v _ f. each_set (Fits origin run.log run.stopped run.served run.drawn) board.views by nobody (λ k w _ g. run.fits k w g) nobody_fits i v f) both_fits j u e;
        apart = λ i j u v apart one two. pairs_set Apart apart_swaps (set board.views by nobody) id both
            (pairs_set Apart apart_swaps board.views by nobody run.apart (λ j u _ _. nobody_apart u)) both_apart i j u v apart one two;
        slot = join_slot;
        trace = run.trace;
        sparse = run.sparse;
        owned = run.owned;
        seen = join_seen;
        reason = λ e. subst (λ (vs : List SeatView). Somewhere (λ s. s.called ≡ true) vs) (set_comm board.views id by both nobody (λ x. differ (sym x)))
            (any_two (λ s. s.called ≡ true) board.views id by seat other both nobody differ at there (or_left seat.called other.called) (or_right seat.called other.called) (run.reason e));
      }

pub joins : (origin : Origin) (id by : ℕ) (seat other : SeatView) → seat.stage ≡ Idle → other.stage ≡ Idle → 0 < seat.room → Joins (Kept origin) id seat by other (joining seat other) nobody
joins origin id by seat other idle their_idle room board kept at differ then_there =
    let there : get_elem? board.views by ≡ opt.some other = sym (set_else board.views id by (joining seat other) differ) ∙ then_there in
    ⊎_elim
    (λ (new : IsNew origin board). let opening = ap (λ (s : SeatView). s.stage) (opens origin board id seat new at) in absurd (cc))
    (λ (run : Running origin board). inr (subst (λ (vs : List SeatView). Running origin (record { words = board.words; homes = board.homes; views = vs }))
    (set_comm board.views by id nobody (joining seat other) differ)
    (united_views origin board run id by seat other at differ there idle their_idle room)))
    kept

module _ (origin : Origin) (board : BoardState) (run : Running origin board) (id : ℕ) (seat : SeatView) (at : get_elem? board.views id ≡ opt.some seat) (one other : List Entry) (rights more : Rights) (joined_is : seat.stage ≡ Joined one rights other more) where
  joint : Fits origin run.log run.stopped run.served run.drawn seat
  joint = run.fits id seat at

  pub known : FitsStage run.log run.stopped run.served run.drawn seat (Joined one rights other more)
  known = subst (FitsStage run.log run.stopped run.served run.drawn seat) joined_is joint.stage

  abbrev looked : SeatView
  looked = record seat { stage = Idle }

  looked_fits : Fits origin run.log run.stopped run.served run.drawn looked
  looked_fits = record {
    gone = λ e. absurd (idle_never (sym (ap (λ (s : SeatView). s.stage) (joint.gone e)) ∙ joined_is));
    origin_is = joint.origin_is;
    grows = joint.grows;
    mine = joint.mine;
    stage = tt;
    called = joint.called;
    told = joint.told;
  }
    where
      idle_never : Idle ≡ Joined one rights other more → ⊥
      idle_never e = cc

  looked_apart : (by : ℕ) (u : SeatView) → by ≢ id → get_elem? board.views by ≡ opt.some u → Apart looked u
  looked_apart by u differ there =
      let a = run.apart id by seat u (λ e. differ (sym e)) at there in
      record { rights = a.rights; tickets = λ ticket mine theirs. absurd (cc); indices = a.indices }

  pub looks_on : Running origin (stepped board 0 (slice_index board.words 0) id [] looked keeps)
  looks_on =
      let none : tickets seat.stage ≡ 0 = ap tickets joined_is in
      changes origin board run id seat looked (slice_set board.words 0 (slice_index board.words 0)) board.homes run.log run.stopped run.served run.drawn (record {
        at = at;
        words_are = ap (λ (ws : List ℕ). slice_set ws 0 (slice_index ws 0)) run.words;
        waiting = omega arith;
        room = refl;
        here = looked_fits;
        others = λ by u differ there. run.fits by u there;
        apart = looked_apart;
        slot = slot_kept origin board run.log run.stopped id seat looked (slice_set board.words 0 (slice_index board.words 0)) at (ap has_turn joined_is) refl run.slot;
        trace = run.trace;
        sparse = run.sparse;
        owned = run.owned;
        seen = any_set (λ s. s.seen ≡ run.log) board.views id seat looked at (λ e. e) run.seen;
        reason = λ e. any_set (λ s. s.called ≡ true) board.views id seat looked at (λ called. called) (run.reason e);
      })

pub looks : (origin : Origin) (slots id : ℕ) (me : HolderState) (one other : List Entry) (rights more : Rights) → me.0.stage ≡ Joined one rights other more → Allows (Kept origin) slots id me 0 (λ n. n) (Looks me)
looks origin slots id me one other rights more joined_is board kept wide at _ = ⊎_elim
    (λ (new : IsNew origin board). let opening = ap (λ (s : SeatView). s.stage) (opens origin board id me.0 new at) in absurd (cc))
    (λ (run : Running origin board). (
      record me.0 { stage = Idle },
      keeps,
      tt,
      inr (looks_on origin board run id me.0 at one other rights more joined_is),
      λ first some second others e.
          let k = known origin board run id me.0 at first second some others e in
          (refl, subst (Grows some first) (sym k.0) (grows_first some others first second run.log k.1 k.2), subst (Grows others second) (sym k.0) (grows_second some others first second run.log k.1 k.2)),
    ))
    kept
