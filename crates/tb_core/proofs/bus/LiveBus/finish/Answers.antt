use Rattle.std.proofs.Common.{ap}
use Rattle.tb_bus.specs.Buses.{Bus}
use Rattle.tb_core.proofs.bus.LiveBus.finish.Goals as goal

pub returns-clause-gone : goal.returns-clause-gone
returns-clause-gone g c offered leaves =
    let went = c.advance_at.ensures.advanced offered leaves in
    record {
      sound = record { in_order = went.sound.in_order; below = went.sound.below; planned = went.sound.planned; live = went.sound.live; fresh = went.sound.fresh; lanes = went.sound.lanes; indexed = went.sound.indexed; rested = went.sound.rested };
      bus = ap (λ (b : Bus). let after : Bus = record b { last_starter = c.args.from.proc } in after) went.bus;
      origin = went.origin;
    }
