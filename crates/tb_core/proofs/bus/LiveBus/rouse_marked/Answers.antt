use Rattle.std.proofs.Common.{◌∙◌, ◌+◌, ap, arith, subst, sym}
use Rattle.std.specs.List.{All}
use Rattle.tb_index.specs.Indexes.{is_receiver}
use Rattle.tb_search.specs.Candidates.{rows_of}
use Rattle.tb_search.specs.Indexed.{IsNextPlace}
use Rattle.tb_living.specs.Indexes.{IsRightFor}
use Rattle.tb_core.specs.Helpers.LiveBuses.{IsAwakeUnder}
use Rattle.tb_core.specs.declared.bus.LiveBus.{LiveBus}
use Rattle.tb_core.proofs.RouseLemmas.{AreAwakeBelow, awake-end, awake-none, awake-then}
use Rattle.tb_core.proofs.SetLemmas.{stands-then}
use Rattle.tb_core.proofs.bus.LiveBus.rouse_marked.Goals as goal

pub loop-at-preserved : goal.loop-at-preserved
loop-at-preserved g c =
    let old = c.args.self.now in
    let bus = c.loop-at.self in
    let new = c.rouse_at.new.self in
    let place = c.in-Some.place in
    let mark = c.args.mark in
    let next = subst (IsNextPlace (is_receiver bus.index mark) (rows_of bus.living.items) c.loop-at.at) c.in-Some.is c.next_marked.ensures in
    let living = ap (λ (b : LiveBus _ _ _). b.living.items) c.rouse_at.ensures.alone in
    let sound = c.loop-at.invariant.same.sound in
    let then = c.rouse_at.ensures.same.sound in
    record {
      same = stands-then g.W.Walker.view old bus new c.loop-at.invariant.same c.rouse_at.ensures.same;
      alone = c.rouse_at.ensures.alone ∙ ap (λ (b : LiveBus _ _ _). let one : LiveBus _ _ _ = record b { index = new.index; roused = new.roused } in one) c.loop-at.invariant.alone;
      awake = subst (AreAwakeBelow mark new.index (place + 1)) (sym living)
          (awake-then mark bus.living.items bus.index new.index c.loop-at.at place sound.indexed.each (subst (All (IsRightFor new.index)) living then.indexed.each) c.rouse_at.ensures.kept next
          c.in_ok-rouse_at-in-Some.ensures.awake c.loop-at.invariant.awake);
    }

pub returns-in-None-clause-awake : goal.returns-in-None-clause-awake
returns-in-None-clause-awake g c =
    let bus = c.loop-at.self in
    let mark = c.args.mark in
    let next = subst (IsNextPlace (is_receiver bus.index mark) (rows_of bus.living.items) c.loop-at.at) c.in-None.is c.next_marked.ensures in
    let living = ap (λ (b : LiveBus _ _ _). b.living.items) c.loop-at.invariant.alone in
    subst (All (IsAwakeUnder mark bus.index)) living (awake-none mark bus.living.items bus.index c.loop-at.at next c.loop-at.invariant.awake)

pub returns-clause-awake : goal.returns-clause-awake
returns-clause-awake g c =
    let bus = c.loop-at.self in
    let mark = c.args.mark in
    let living = ap (λ (b : LiveBus _ _ _). b.living.items) c.loop-at.invariant.alone in
    subst (All (IsAwakeUnder mark bus.index)) living (awake-end mark bus.living.items bus.index c.loop-at.at (omega (arith, c.loop-at-test.false, c.len.ensures)) c.loop-at.invariant.awake)
