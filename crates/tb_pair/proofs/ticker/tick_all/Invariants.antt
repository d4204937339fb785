use Rattle.tb_pair.specs.Ticking.{CanTick}
use Rattle.tb_pair.proofs.TickerLemmas.{TicksOn}
use Rattle.tb_pair.proofs.ticker.tick_all.Given as goal

abbrev pub invariant-loop-done : goal.invariant-loop-done
invariant-loop-done g l =
    TicksOn l.fn.one.seat l.one.seat l.one.end l.fn.other.seat l.other.seat l.other.end (g.C.Clock.told l.fn.clock) (g.C.Clock.told l.clock) (g.C.Clock.faults l.fn.clock) (g.C.Clock.faults l.clock) l._done
    × CanTick l.one.post.now.shared l.one.seat
    × CanTick l.other.post.now.shared l.other.seat
