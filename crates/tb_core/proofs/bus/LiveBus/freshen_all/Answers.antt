use Rattle.std.proofs.Common.{◌≡◌, ◌<◌, ◌∙◌, length, ap, arith, sym, subst}
use Rattle.std.proofs.Math.ListN.{length-set}
use Rattle.tb_core.proofs.SetLemmas.{stands-then}
use Rattle.tb_core.proofs.TickLemmas.{AreFreshBelow, all-fresh, fresh-more}
use Rattle.tb_core.proofs.bus.LiveBus.freshen_all.Goals as goal

pub loop-at-preserved : goal.loop-at-preserved
loop-at-preserved g c =
    let bus = c.loop-at.self in
    let new = c.freshen_at.new.self in
    let at = c.loop-at.at in
    let within : at < length bus.living.items = let end = c.loop-at.invariant.end in omega arith in
    let set = c.in_ok-freshen_at.ensures.set in
    record {
      same = stands-then g.W.Walker.view c.args.self.now bus new c.loop-at.invariant.same c.freshen_at.ensures.same;
      end = c.loop-at.invariant.end ∙ sym (length-set bus.living.items at set.0) ∙ ap length (sym set.1);
      fresh = fresh-more bus.living.items new.living.items at set.0 set.1 within set.2 c.loop-at.invariant.fresh;
    }

pub returns-clause-fresh : goal.returns-clause-fresh
returns-clause-fresh g c =
    let all = c.loop-at.self.living.items in
    let past : c.loop-at.at ≡ length all = let end = c.loop-at.invariant.end in omega arith in
    all-fresh all (subst (λ at. AreFreshBelow at all) past c.loop-at.invariant.fresh)
