use Rattle.std.proofs.Common.{◌≡◌, true, false, arith, rules, refl, sym, subst, ap, ◌∙◌, inl, Some, OnOk}
use Rattle.std.specs.Vec.{with_item}
use Rattle.tb_bus.specs.Buses.{Proc}
use Rattle.tb_search.specs.declared.living.Living.{Living}
use Rattle.tb_living.specs.Indexes.{IsRested, IsRightFor}
use Rattle.tb_living.specs.Lives.{IsLiveOn, proc_by, IsFreshOr}
use Rattle.tb_core.specs.Helpers.LiveBuses.{settings_in}
use Rattle.tb_core.proofs.ReadLemmas.{live-at}
use Rattle.tb_living.proofs.ReadLemmas.{all-there, read-there, plan-within, body-within, read-is, body-is, read-through}
use Rattle.tb_living.proofs.IndexLemmas.{keeps-self, stale-right}
use Rattle.tb_living.proofs.RestLemmas.{rested-stale}
use Rattle.tb_core.proofs.SetLemmas.{in-place, named-as, updated-live, stands-set}
use Rattle.tb_core.proofs.bus.LiveBus.freshen_at.Given.{Over}
use Rattle.tb_core.proofs.bus.LiveBus.freshen_at.Goals.{After-look}
use Rattle.tb_core.proofs.bus.LiveBus.freshen_at.Goals as goal

pub returns-then-living-clause-same : goal.returns-then-living-clause-same
returns-then-living-clause-same g c =
    let bus = c.args.self.now in
    let living = c.get_mut-living.result.now in
    let it = live-at g.W.Walker.view bus c.args.at living c.requires.sound c.requires.within (read-through c.args.self.now.living.items c.args.at _ _ c.get_mut-living.ensures.value c.index_mut.ensures.value) in
    stands-set g.W.Walker.view bus (with_item bus.living c.args.at living) bus.index bus.looked c.args.at living living it c.requires.sound refl
    (in-place g.W.Walker.view bus it.plan it.plan living living refl it.live refl (λ young. inl c.if-living.true))
    (λ other ne. keeps-self bus.index other) (all-there (IsRightFor bus.index) bus.living.items c.args.at living c.requires.sound.indexed.each it.here)
    (all-there (IsRested (settings_in bus) bus.stirred bus.index) bus.living.items c.args.at living c.requires.sound.rested it.here)

pub bounds-as_slice-living : goal.bounds-as_slice-living
bounds-as_slice-living g c =
    let bus = c.args.self.now in
    let living = c.get_mut-living.result.now in
    let it = live-at g.W.Walker.view bus c.args.at living c.requires.sound c.requires.within (read-through c.args.self.now.living.items c.args.at _ _ c.get_mut-living.ensures.value c.index_mut.ensures.value) in
    plan-within bus.plans c.as_slice.result.now living.body it.plan c.as_slice.ensures it.planned

pub offset_bounds-as_slice-living : goal.offset_bounds-as_slice-living
offset_bounds-as_slice-living g c = let within = bounds-as_slice-living g c in omega arith

pub bounds-as_slice-living-2 : goal.bounds-as_slice-living-2
bounds-as_slice-living-2 g c =
    let bus = c.args.self.now in
    let living = c.get_mut-living.result.now in
    let it = live-at g.W.Walker.view bus c.args.at living c.requires.sound c.requires.within (read-through c.args.self.now.living.items c.args.at _ _ c.get_mut-living.ensures.value c.index_mut.ensures.value) in
    body-within g.W.Walker.view.body_of bus.plans bus.origin.program.bodies c.as_slice-2.result.now living.body it.plan c.requires.sound.planned c.as_slice-2.ensures it.planned

pub look-requires-clause-body : goal.look-requires-clause-body
look-requires-clause-body g c =
    let bus = c.args.self.now in
    let living = c.get_mut-living.result.now in
    let it = live-at g.W.Walker.view bus c.args.at living c.requires.sound c.requires.within (read-through c.args.self.now.living.items c.args.at _ _ c.get_mut-living.ensures.value c.index_mut.ensures.value) in
    ap g.W.Walker.view.body_of (read-is bus.plans c.as_slice.result.now living.body c.index-as_slice-living.result it.plan c.as_slice.ensures it.planned c.index-as_slice-living.is)
    ∙ sym (body-is g.W.Walker.view.body_of bus.plans bus.origin.program.bodies c.as_slice-2.result.now living.body it.plan c.index-as_slice-living-2.result c.requires.sound.planned c.as_slice-2.ensures it.planned c.index-as_slice-living-2.is)

pub look-requires-clause-live : goal.look-requires-clause-live
look-requires-clause-live g c =
    let bus = c.args.self.now in
    let living = c.get_mut-living.result.now in
    let it = live-at g.W.Walker.view bus c.args.at living c.requires.sound c.requires.within (read-through c.args.self.now.living.items c.args.at _ _ c.get_mut-living.ensures.value c.index_mut.ensures.value) in
    let plan = read-is bus.plans c.as_slice.result.now living.body c.index-as_slice-living.result it.plan c.as_slice.ensures it.planned c.index-as_slice-living.is in
    subst (λ p. IsLiveOn g.W.Walker.view p bus.ticks living) (sym plan) it.live

-- the index has what it has to of the one that was looked at, which isn't fresh
looked-right : (g : Over) (c : After-look g) → IsRightFor c.args.self.now.index c.look.new.living
looked-right g c =
    let bus = c.args.self.now in
    let living = c.get_mut-living.result.now in
    let here = read-there bus.living.items c.args.at living c.requires.within (read-through c.args.self.now.living.items c.args.at _ _ c.get_mut-living.ensures.value c.index_mut.ensures.value) in
    stale-right bus.index living c.look.new.living (ap (λ (p : Proc). p.number) c.look.ensures.same) c.look.ensures.marks c.look.ensures.stale
    (all-there (IsRightFor bus.index) bus.living.items c.args.at living c.requires.sound.indexed.each here)

pub update-requires-clause-right : goal.update-requires-clause-right
update-requires-clause-right g c = looked-right g (goal.at.update-requires-clause-right g c).After-look

pub returns-in_err-look-clause-same : goal.returns-in_err-look-clause-same
returns-in_err-look-clause-same g c =
    let bus = c.args.self.now in
    let living = c.get_mut-living.result.now in
    let one = c.look.new.living in
    let it = live-at g.W.Walker.view bus c.args.at living c.requires.sound c.requires.within (read-through c.args.self.now.living.items c.args.at _ _ c.get_mut-living.ensures.value c.index_mut.ensures.value) in
    let plan = read-is bus.plans c.as_slice.result.now living.body c.index-as_slice-living.result it.plan c.as_slice.ensures it.planned c.index-as_slice-living.is in
    let named = λ (young : bus.aged ≡ false). named-as bus.stale.items living one (all-there (IsFreshOr bus.stale.items) bus.living.items c.args.at living (c.requires.sound.fresh young) it.here) c.if-living.false (ap (λ (p : Proc). p.number) c.look.ensures.same) in
    stands-set g.W.Walker.view bus (with_item bus.living c.args.at one) bus.index bus.looked c.args.at living one it c.requires.sound refl
    (in-place g.W.Walker.view bus c.index-as_slice-living.result it.plan living one plan c.look.ensures.live c.look.ensures.same named)
    (λ other ne. keeps-self bus.index other) (looked-right g (goal.at.returns-in_err-look-clause-same g c).After-look)
    (rested-stale (settings_in bus) bus.stirred bus.index one c.look.ensures.stale)

pub returns-in_err-look-clause-set : goal.returns-in_err-look-clause-set
returns-in_err-look-clause-set g c =
    let nothing : OnOk c.from_residual.result (c.look.new.living.fresh ≡ true) = search rules in
    (c.look.new.living, refl, nothing)

pub returns-clause-same : goal.returns-clause-same
returns-clause-same g c =
    let bus = c.args.self.now in
    let view = g.W.Walker.view in
    let living = c.get_mut-living.result.now in
    let middle = c.look.new.living in
    let one = c.update.new.living in
    let it = live-at view bus c.args.at living c.requires.sound c.requires.within (read-through c.args.self.now.living.items c.args.at _ _ c.get_mut-living.ensures.value c.index_mut.ensures.value) in
    let read = c.index-as_slice-living.result in
    let plan = read-is bus.plans c.as_slice.result.now living.body read it.plan c.as_slice.ensures it.planned c.index-as_slice-living.is in
    let number : one.number ≡ living.number = ap (λ (l : Living _). l.number) c.update.ensures.same ∙ ap (λ (p : Proc). p.number) c.look.ensures.same in
    let named = λ (young : bus.aged ≡ false). named-as bus.stale.items living one (all-there (IsFreshOr bus.stale.items) bus.living.items c.args.at living (c.requires.sound.fresh young) it.here) c.if-living.false number in
    stands-set view bus (with_item bus.living c.args.at one) c.update.new.index c.update.new.looked c.args.at living one it c.requires.sound refl
    (in-place view bus read it.plan living one plan (updated-live view read bus.ticks middle one c.look.ensures.live c.in_ok-look.ensures.looked c.update.ensures.same)
    (ap (proc_by view (Some read)) c.update.ensures.same ∙ c.look.ensures.same) named)
    (λ other ne. c.update.ensures.others other (λ e. ne (e ∙ ap (λ (p : Proc). p.number) c.look.ensures.same))) c.update.ensures.right (c.update.ensures.rested bus.stirred)
