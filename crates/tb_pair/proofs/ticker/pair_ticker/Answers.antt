use Rattle.tb_pair.proofs.TickerLemmas.{all_ends}
use Rattle.tb_pair.proofs.ticker.pair_ticker.Goals as goal

pub returns : goal.returns
returns g c =
    all_ends c.args.ticks c.args.one.now.seat c.tick_all-wanted.new.one.seat c.no_more-one_end.new.bus.seat c.args.other.now.seat c.tick_all-wanted.new.other.seat c.no_more-other_end.new.bus.seat c.tick_all-wanted.new.one.end c.tick_all-wanted.new.other.end
    (g.C.Clock.told c.args.clock.now) (g.C.Clock.told c.tick_all-wanted.new.clock) (g.C.Clock.faults c.args.clock.now) (g.C.Clock.faults c.tick_all-wanted.new.clock) c.tick_all-wanted.result c.no_more-one_end.result c.no_more-other_end.result
    c.tick_all-wanted.ensures.ticked c.no_more-one_end.ensures c.no_more-other_end.ensures
