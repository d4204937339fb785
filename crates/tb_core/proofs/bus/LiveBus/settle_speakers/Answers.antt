use Rattle.std.proofs.Common.{◌+◌, subst, sym}
use Rattle.tb_index.specs.Indexes.{is_receiver}
use Rattle.tb_search.specs.Candidates.{rows_of}
use Rattle.tb_search.specs.Indexed.{IsNextPlace}
use Rattle.tb_living.specs.Indexes.{tool_mark}
use Rattle.tb_core.specs.Helpers.LiveBuses.{settings_in}
use Rattle.tb_core.specs.declared.bus.LiveBus.{LiveBus}
use Rattle.tb_living.proofs.RestLemmas.{AreSettledBelow, settled-all, settled-more}
use Rattle.tb_core.proofs.SetLemmas.{stands-then}
use Rattle.tb_core.proofs.bus.LiveBus.settle_speakers.Goals as goal

pub loop-at-preserved : goal.loop-at-preserved
loop-at-preserved g c =
    let bus = c.loop-at.self in
    let new = c.settle_at.new.self in
    let place = c.in-Some.place in
    let next = subst (IsNextPlace (is_receiver bus.index tool_mark) (rows_of bus.living.items) c.loop-at.at) c.in-Some.is c.next_marked.ensures in
    let it = c.in_ok-settle_at-in-Some.ensures.settled in
    let sound = c.loop-at.invariant.same.sound in
    record {
      same = stands-then g.W.Walker.view c.args.self.now bus new c.loop-at.invariant.same c.settle_at.ensures.same;
      settled = subst (λ (b : LiveBus _ _ _). AreSettledBelow (settings_in b) b.index (place + 1) b.living.items) (sym c.settle_at.ensures.alone)
          (settled-more (settings_in bus) bus.stirred bus.living.items bus.index new.index c.loop-at.at place it.0 sound.in_order sound.indexed.each sound.rested next it.1 it.2 it.3 c.loop-at.invariant.settled);
    }

pub returns-in-None-clause-settled : goal.returns-in-None-clause-settled
returns-in-None-clause-settled g c =
    let bus = c.loop-at.self in
    let next = subst (IsNextPlace (is_receiver bus.index tool_mark) (rows_of bus.living.items) c.loop-at.at) c.in-None.is c.next_marked.ensures in
    let sound = c.loop-at.invariant.same.sound in
    settled-all (settings_in bus) bus.stirred bus.living.items bus.index c.loop-at.at sound.indexed.each sound.rested next c.loop-at.invariant.settled
