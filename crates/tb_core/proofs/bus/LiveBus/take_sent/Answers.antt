use Rattle.std.proofs.Common.{refl, subst, inr, false, Contains}
use Rattle.std.specs.Vec.{with_item}
use Rattle.tb_living.specs.Indexes.{IsRightFor}
use Rattle.tb_core.specs.Helpers.LiveBuses.{settings_in}
use Rattle.tb_living.proofs.ReadLemmas.{all-there, read-through}
use Rattle.tb_core.proofs.ReadLemmas.{live-at}
use Rattle.tb_core.proofs.SetLemmas.{stands-set, set-there, set-other}
use Rattle.tb_living.proofs.IndexLemmas.{keeps-self, stale-right}
use Rattle.tb_living.proofs.RestLemmas.{rested-stale}
use Rattle.tb_core.proofs.bus.LiveBus.take_sent.Goals as goal

pub returns-clause-same : goal.returns-clause-same
returns-clause-same g c =
    let bus = c.args.self.now in
    let living = c.get_mut-living.result.now in
    let one = record living { ready = with_item living.ready c.args.index (record c.index_mut-2.result.now { action = c.sent_of.new.action }); fresh = false } in
    let it = live-at g.W.Walker.view bus c.args.at living c.requires.sound c.requires.within (read-through c.args.self.now.living.items c.args.at _ _ c.get_mut-living.ensures.value c.index_mut.ensures.value) in
    let right = all-there (IsRightFor bus.index) bus.living.items c.args.at living c.requires.sound.indexed.each it.here in
    stands-set g.W.Walker.view bus (with_item bus.living c.args.at one) bus.index bus.looked c.args.at living one it c.requires.sound refl (record {
      live = record { is_on = it.live.is_on; alive = it.live.alive; sorts = it.live.sorts; ticks = it.live.ticks; ready = λ e. cc };
      proc = refl;
      fresh = λ young. inr (subst (λ row. Contains bus.stale.items row.number) it.row c.requires.named);
    }) (λ other ne. keeps-self bus.index other) (stale-right bus.index living one refl refl refl right) (rested-stale (settings_in bus) bus.stirred bus.index one refl)

pub returns-clause-kept : goal.returns-clause-kept
returns-clause-kept g c =
    let bus = c.args.self.now in
    let living = c.get_mut-living.result.now in
    let one = record living { ready = with_item living.ready c.args.index (record c.index_mut-2.result.now { action = c.sent_of.new.action }); fresh = false } in
    let it = live-at g.W.Walker.view bus c.args.at living c.requires.sound c.requires.within (read-through c.args.self.now.living.items c.args.at _ _ c.get_mut-living.ensures.value c.index_mut.ensures.value) in
    record {
      before = living;
      after = one;
      here = it.here;
      there = set-there bus.living.items c.args.at living one it.here;
      number = refl;
      body = refl;
      walker = refl;
    }

pub returns-clause-others : goal.returns-clause-others
returns-clause-others g c other ne = set-other c.args.self.now.living.items c.args.at other _ ne
