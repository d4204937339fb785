use Rattle.std.proofs.Common.{◌<◌, ◌+◌, ℕ, List, arith, length, drop, ap, sym, subst, ◌∙◌}
use Rattle.std.specs.List.{All}
use Rattle.tb_living.specs.Lives.{IsFreshOr}
use Rattle.tb_core.proofs.SetLemmas.{stands-then, named-from}
use Rattle.tb_core.proofs.bus.LiveBus.freshen_noted.Goals as goal

pub loop-index-preserved : goal.loop-index-preserved
loop-index-preserved g c =
    let bus = c.loop-index.self in
    let new = c.freshen_number.new.self in
    let index = c.loop-index.index in
    let number = c.index-number.result.now in
    let within : index < length bus.stale.items = let end = c.loop-index.invariant.end in omega arith in
    let named = named-from bus.stale.items index number bus.living.items within c.index-number.ensures c.loop-index.invariant.fresh in
    let fresh : All (IsFreshOr (drop (index + 1) bus.stale.items)) new.living.items = c.in_ok-freshen_number.ensures.fresh (drop (index + 1) bus.stale.items) named in
    let same = ap (λ stale. stale.items) c.freshen_number.ensures.stale in
    record {
      same = stands-then g.W.Walker.view c.args.self.now bus new c.loop-index.invariant.same c.freshen_number.ensures.same;
      stale = c.freshen_number.ensures.stale ∙ c.loop-index.invariant.stale;
      end = c.loop-index.invariant.end ∙ ap length (sym same);
      fresh = subst (λ (numbers : List ℕ). All (IsFreshOr (drop (index + 1) numbers)) new.living.items) (sym same) fresh;
    }
