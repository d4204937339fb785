use Rattle.std.proofs.Common.{◌≡◌, ℕ, ◌<◌, length, ap, sym, subst, ◌∙◌, arith}
use Rattle.std.proofs.lemmas.Grind.{common_steps}
use Rattle.tb_log.specs.Shapes.{IsLane}
use Rattle.tb_tools.specs.Lanes.{BenchState}
use Rattle.tb_tools.specs.Finding.{smaller_of}
use Rattle.tb_tools.proofs.Reading.{lane_at-index}
use Rattle.tb_tools.proofs.Choosing.{smaller_of-there}
use Rattle.tb_tools.proofs.bench.Bench.first_at.Goals as goal

pub loop-index-preserved : goal.loop-index-preserved
loop-index-preserved c =
    let within : c.loop-index.index < length c.self.inside.lanes.items = omega (arith, c.self.invariant.0) in
    let row = lane_at-index c.args.self.now c.self.inside.lanes.items c.loop-index.index c.index.result.now (sym (ap (λ (bench : BenchState). bench.lanes) c.self.view_is)) within c.index.ensures in
    let there = smaller_of-there c.args.tool.now c.args.stage c.args.self.now c.loop-index.best c.loop-index.index c.index.result.now c.loop-index-test.true row c.loop-index.invariant.1 in
    let numbered = ap (λ (lane : ℕ). smaller_of c.args.tool.now c.args.stage c.loop-index.best lane c.index.result.now.tool) c.number_of.ensures in
    (grind (arith, common_steps), λ found is. there found (sym numbered ∙ sym c.smaller-best.ensures ∙ is))

pub returns-in-Some-clause-within : goal.returns-in-Some-clause-within
returns-in-Some-clause-within c = λ lane is.
    let same : c.in-Some.found.lane ≡ lane = cc in
    subst IsLane same (c.loop-index.invariant.1 c.in-Some.found c.in-Some.is).0
