use Rattle.std.proofs.Common.{◌≡◌, length, rules, arith}
use Rattle.tb_chart.proofs.DrawnLemmas.{all_drawn, few_so_far, one_more}
use Rattle.tb_chart.proofs.drawn.drawn_rows.Goals as goal

pub loop-index-preserved : goal.loop-index-preserved
loop-index-preserved c =
    one_more c.args.chart.now.rows.items c.loop-index.index c.row-item.result c.own_line.result c.loop-index.drawn.items c.add_drawn.new.drawn.items
    (omega arith) (search rules) c.own_line.ensures c.loop-index.invariant c.in_ok-add_drawn.ensures

pub add_drawn-requires : goal.add_drawn-requires
add_drawn-requires c =
    record {
      few = few_so_far c.args.chart.now.rows.items c.loop-index.index c.row-item.result c.own_line.result c.loop-index.drawn.items (omega arith)
          (omega arith) c.own_line.ensures c.loop-index.invariant;
    }

pub returns : goal.returns
returns c =
    let last : c.loop-index.index ≡ length c.args.chart.now.rows.items = omega (arith, c.loop-index-test.false, c.loop-index.auto.index-end) in
    all_drawn c.args.chart.now.rows.items c.loop-index.index c.loop-index.drawn.items last c.loop-index.invariant
