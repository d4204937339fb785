use Rattle.std.proofs.Common.{◌≡◌, ℕ, ◌<◌, ◌≤◌, List, length, ap, ◌∙◌, arith}
use Rattle.tb_tools.specs.Lanes.{Lane, BenchState}
use Rattle.tb_tools.specs.Acts.{last_line, gone_down}
use Rattle.tb_tools.proofs.Dismissing.{dismissed-more, dismissed-all}
use Rattle.tb_tools.proofs.bench.Bench.down.Goals as goal

pub loop-index-preserved : goal.loop-index-preserved
loop-index-preserved c =
    let within : c.loop-index.index < length c.self.inside.lanes.items = omega (arith, c.self.invariant.0) in
    let both = dismissed-more c.self.inside.lanes.items c.loop-index.self-inside.lanes.items c.loop-index.lines.items c.dismiss.new.lines.items
    c.loop-index.index c.index_mut.result.now c.dismiss.new.self (last_line c.args.t.now) within
    c.loop-index.invariant.lanes c.loop-index.invariant.lines c.index_mut.ensures.value c.dismiss.ensures in
    record { lanes = both.0; next_tool = c.loop-index.invariant.next_tool; lines = both.1 }

pub returns-clause-ok : goal.returns-clause-ok
returns-clause-ok c =
    let all : length c.self.inside.lanes.items ≤ c.loop-index.index = omega (arith, c.self.invariant.0) in
    let e = dismissed-all c.self.inside.lanes.items c.loop-index.self-inside.lanes.items c.loop-index.index (last_line c.args.t.now) all c.loop-index.invariant.lanes in
    same _ _ _ _ e c.loop-index.invariant.next_tool ∙ ap (λ (bench : BenchState). gone_down c.args.t.now bench) c.self.view_is
  where
    same : (lanes others : List Lane) (next other : ℕ) → lanes ≡ others → next ≡ other
        → ◌≡◌ {A = BenchState} (record { lanes = lanes; next_tool = next }) (record { lanes = others; next_tool = other })
    same lanes others next other e f = cc
