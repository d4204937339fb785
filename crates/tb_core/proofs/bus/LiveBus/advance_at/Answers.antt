use Rattle.std.proofs.Common.{sym, refl, subst}
use Rattle.std.specs.Vec.{with_item}
use Rattle.tb_search.specs.Views.{proc_at}
use Rattle.tb_core.specs.Helpers.LiveBuses.{procs_in}
use Rattle.tb_core.proofs.AdvanceLemmas.{Went, read-at, leaves-there, advanced-set, advanced-removed, set-before, gone-before, sorts-once}
use Rattle.tb_living.specs.Indexes.{IsRightFor}
use Rattle.tb_living.proofs.ReadLemmas.{all-there, read-there, read-through}
use Rattle.tb_living.proofs.IndexLemmas.{stale-right}
use Rattle.tb_core.proofs.bus.LiveBus.advance_at.Given.{Over}
use Rattle.tb_core.proofs.bus.LiveBus.advance_at.Goals.{After-go_on}
use Rattle.tb_core.proofs.bus.LiveBus.advance_at.Goals as goal

pub go_on-requires-clause-on : goal.go_on-requires-clause-on
go_on-requires-clause-on g c =
    let before = c.get_mut-living.result.now in
    let read = read-at g.W.Walker.view c.args.self.now c.args.at before c.index-as_slice-living.result c.as_slice.result.now c.requires.sound c.requires.within (read-through c.args.self.now.living.items c.args.at _ _ c.get_mut-living.ensures.value c.index_mut.ensures.value) c.as_slice.ensures c.index-as_slice-living.is in
    subst (λ p. g.W.Walker.view.is_on p before.walker) (sym read.same) read.it.live.is_on

pub go_on-requires-clause-taken : goal.go_on-requires-clause-taken
go_on-requires-clause-taken g c =
    let before = c.get_mut-living.result.now in
    let plan = c.index-as_slice-living.result in
    let read = read-at g.W.Walker.view c.args.self.now c.args.at before plan c.as_slice.result.now c.requires.sound c.requires.within (read-through c.args.self.now.living.items c.args.at _ _ c.get_mut-living.ensures.value c.index_mut.ensures.value) c.as_slice.ensures c.index-as_slice-living.is in
    let can = c.requires.taken in
    (can.0, leaves-there g.W.Walker.view c.args.self.now c.args.at before plan c.args.taken can.0 read can.1, can.3)

right-then : (g : Over) (c : After-go_on g) → IsRightFor c.args.self.now.index c.go_on.new.living
right-then g c =
    let bus = c.args.self.now in
    let before = c.get_mut-living.result.now in
    let here = read-there bus.living.items c.args.at before c.requires.within (read-through c.args.self.now.living.items c.args.at _ _ c.get_mut-living.ensures.value c.index_mut.ensures.value) in
    stale-right bus.index before c.go_on.new.living c.go_on.ensures.number c.go_on.ensures.marks c.go_on.ensures.stale (all-there (IsRightFor bus.index) bus.living.items c.args.at before c.requires.sound.indexed.each here)

pub clear-requires-clause-sends : goal.clear-requires-clause-sends
clear-requires-clause-sends g c = (right-then g (goal.at.clear-requires-clause-sends g c).After-go_on).sent

pub clear-requires-clause-receives : goal.clear-requires-clause-receives
clear-requires-clause-receives g c = (right-then g (goal.at.clear-requires-clause-receives g c).After-go_on).received

pub returns-then-go_on-clause-advanced : goal.returns-then-go_on-clause-advanced
returns-then-go_on-clause-advanced g c offered leaves =
    let bus = c.args.self.now in
    let before = c.get_mut-living.result.now in
    let after = c.go_on.new.living in
    let plan = c.index-as_slice-living.result in
    let read = read-at g.W.Walker.view bus c.args.at before plan c.as_slice.result.now c.requires.sound c.requires.within (read-through c.args.self.now.living.items c.args.at _ _ c.get_mut-living.ensures.value c.index_mut.ensures.value) c.as_slice.ensures c.index-as_slice-living.is in
    let went : Went g.W.Walker.view plan before offered c.args.binds.now after = record {
      is_on = c.go_on.ensures.on;
      goes = c.go_on.ensures.advanced offered (leaves-there g.W.Walker.view bus c.args.at before plan c.args.taken offered read leaves);
      number = c.go_on.ensures.number;
      body = c.go_on.ensures.body;
      inbox = c.go_on.ensures.inbox;
      stale = c.go_on.ensures.stale;
      marks = c.go_on.ensures.marks;
    } in
    advanced-removed g.W.Walker.view bus c.args.at before plan offered c.args.binds.now after c.go_on.result c.remove.new.self c.clear.new.self c.requires.sound read went c.go_on.ensures.ended c.if-go_on.true c.remove.ensures.items c.clear.ensures

pub returns-then-go_on-clause-before : goal.returns-then-go_on-clause-before
returns-then-go_on-clause-before g c other l = gone-before c.args.self.now.living.items c.remove.new.self.items c.args.at c.go_on.new.living other c.remove.ensures.items l

pub returns-else-go_on-clause-advanced : goal.returns-else-go_on-clause-advanced
returns-else-go_on-clause-advanced g c offered leaves =
    let bus = c.args.self.now in
    let before = c.get_mut-living.result.now in
    let after = c.go_on.new.living in
    let plan = c.index-as_slice-living.result in
    let read = read-at g.W.Walker.view bus c.args.at before plan c.as_slice.result.now c.requires.sound c.requires.within (read-through c.args.self.now.living.items c.args.at _ _ c.get_mut-living.ensures.value c.index_mut.ensures.value) c.as_slice.ensures c.index-as_slice-living.is in
    let can = c.requires.taken in
    let goes = c.go_on.ensures.advanced offered (leaves-there g.W.Walker.view bus c.args.at before plan c.args.taken offered read leaves) in
    let its = c.go_on.ensures.advanced can.0 (leaves-there g.W.Walker.view bus c.args.at before plan c.args.taken can.0 read can.1) in
    let went : Went g.W.Walker.view plan before offered c.args.binds.now after = record {
      is_on = c.go_on.ensures.on;
      goes = goes;
      number = c.go_on.ensures.number;
      body = c.go_on.ensures.body;
      inbox = c.go_on.ensures.inbox;
      stale = c.go_on.ensures.stale;
      marks = c.go_on.ensures.marks;
    } in
    let sorts = sorts-once offered can.0 c.args.binds.now (g.W.Walker.view.walking plan before.walker).ticks (g.W.Walker.view.walking plan after.walker) (proc_at (procs_in g.W.Walker.view bus) c.args.at).store goes its can.2 in
    advanced-set g.W.Walker.view bus c.args.at before plan offered c.args.binds.now after c.go_on.result (with_item bus.living c.args.at after) c.requires.sound read went sorts
    c.go_on.ensures.ended c.if-go_on.false c.requires.named refl

pub returns-else-go_on-clause-before : goal.returns-else-go_on-clause-before
returns-else-go_on-clause-before g c other l = set-before c.args.self.now.living.items c.args.at c.go_on.new.living other l
