use Rattle.std.proofs.Common.{◌∙◌, ◌+◌, arith, subst, sym, false}
use Rattle.std.specs.List.{All}
use Rattle.tb_living.specs.Lives.{IsBelow}
use Rattle.tb_living.proofs.OpenLemmas.{all-named, few-roots}
use Rattle.std.proofs.lemmas.List.Elements.{All-weaker}
use Rattle.tb_bus.specs.Exchanges.{setting_by}
use Rattle.tb_living.specs.Indexes.{IsRested, IsUnmarked}
use Rattle.tb_living.proofs.IndexLemmas.{right-opened}
use Rattle.tb_living.proofs.RestLemmas.{rested-stale}
use Rattle.tb_core.proofs.bus.LiveBus.open.Goals as goal

pub returns-clause-sound : goal.returns-clause-sound
returns-clause-sound g c = record {
  in_order = c.in_ok-living.ensures.in_order;
  below = subst (λ many. All (IsBelow (many + 1)) c.in_ok-living.living.items) (sym c.len.ensures) c.in_ok-living.ensures.below;
  planned = c.in_ok-plans.ensures ∙ c.as_slice.ensures;
  live = c.in_ok-living.ensures.live;
  fresh = λ young. all-named c.in_ok-living.living.items c.as_slice-2.result.now c.in_ok-stale.stale.items c.as_slice-2.ensures.value c.in_ok-stale.ensures;
  lanes = c.show_lanes.ensures;
  indexed = right-opened c.in_ok-index.index c.in_ok-living.living.items c.as_slice-2.result.now c.as_slice-3.result.now c.in_ok-stale.stale.items
      c.in_ok-index.ensures.nothing c.in_ok-index.ensures.room c.as_slice-3.ensures.value c.in_ok-stale.ensures c.as_slice-2.ensures.value c.in_ok-living.ensures.unmarked;
  rested = All-weaker IsUnmarked (IsRested (setting_by c.args.origin.program.bodies c.args.origin.program.tools c.in_ok-bench.bench) false c.in_ok-index.index)
      (λ living unmarked. rested-stale (setting_by c.args.origin.program.bodies c.args.origin.program.tools c.in_ok-bench.bench) false c.in_ok-index.index living unmarked.stale)
      c.in_ok-living.living.items c.in_ok-living.ensures.unmarked;
}

pub overflow_cast-next_number : goal.overflow_cast-next_number
overflow_cast-next_number g c =
    let program = c.args.origin.program in
    let few = few-roots program.bodies program.roots program.tools program.in_range in
    let many = c.len.ensures in
    omega arith

pub overflow_add-next_number : goal.overflow_add-next_number
overflow_add-next_number g c =
    let program = c.args.origin.program in
    let few = few-roots program.bodies program.roots program.tools program.in_range in
    let many = c.len.ensures in
    omega arith
