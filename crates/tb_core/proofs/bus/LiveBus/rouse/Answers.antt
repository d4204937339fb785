use Rattle.std.proofs.Common.{◌∙◌, ◌<◌, List, arith, ap, get_or, length, subst, sym}
use Rattle.tb_search.specs.declared.living.Living.{Living}
use Rattle.tb_living.specs.Indexes.{IsAwakeAt}
use Rattle.tb_core.specs.declared.bus.LiveBus.{LiveBus}
use Rattle.tb_living.proofs.RestLemmas.{awake-all, awake-more}
use Rattle.tb_core.proofs.SetLemmas.{stands-then}
use Rattle.tb_core.proofs.bus.LiveBus.rouse.Goals as goal

pub rouse_at-requires-clause-within : goal.rouse_at-requires-clause-within
rouse_at-requires-clause-within g c =
    let living = ap (λ (b : LiveBus _ _ _). b.living.items) c.loop-at.invariant.alone in
    let at = c.loop-at.at-index in
    subst (λ (xs : List (Living _)). get_or c.args.indices.now at 0 < length xs) (sym living) (c.requires.within at 0 (omega arith))

pub loop-at-preserved : goal.loop-at-preserved
loop-at-preserved g c =
    let old = c.args.self.now in
    let bus = c.loop-at.self in
    let new = c.rouse_at.new.self in
    let living = ap (λ (b : LiveBus _ _ _). b.living.items) c.loop-at.invariant.alone in
    record {
      same = stands-then g.W.Walker.view old bus new c.loop-at.invariant.same c.rouse_at.ensures.same;
      alone = c.rouse_at.ensures.alone ∙ ap (λ (b : LiveBus _ _ _). let one : LiveBus _ _ _ = record b { index = new.index; roused = new.roused } in one) c.loop-at.invariant.alone;
      awake = awake-more bus.index new.index old.living.items c.args.indices.now c.loop-at.at-index (omega arith) c.rouse_at.ensures.kept
          (subst (λ (xs : List (Living _)). IsAwakeAt new.index xs (get_or c.args.indices.now c.loop-at.at-index 0)) living c.in_ok-rouse_at.ensures.awake) c.loop-at.invariant.awake;
    }

pub returns-in_err-rouse_at-clause-same : goal.returns-in_err-rouse_at-clause-same
returns-in_err-rouse_at-clause-same g c = stands-then g.W.Walker.view c.args.self.now c.loop-at.self c.rouse_at.new.self c.loop-at.invariant.same c.rouse_at.ensures.same

pub returns-in_err-rouse_at-clause-alone : goal.returns-in_err-rouse_at-clause-alone
returns-in_err-rouse_at-clause-alone g c =
    let new = c.rouse_at.new.self in
    c.rouse_at.ensures.alone ∙ ap (λ (b : LiveBus _ _ _). let one : LiveBus _ _ _ = record b { index = new.index; roused = new.roused } in one) c.loop-at.invariant.alone

pub returns-clause-awake : goal.returns-clause-awake
returns-clause-awake g c = awake-all c.loop-at.self.index c.args.self.now.living.items c.args.indices.now c.loop-at.at-index (omega arith) c.loop-at.invariant.awake
