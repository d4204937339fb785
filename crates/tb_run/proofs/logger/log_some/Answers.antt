use Rattle.std.proofs.Common.{sym, ap, ◌∙◌, ℕ, length, take, drop}
use Rattle.std.proofs.lemmas.Bool.{eqb-true}
use Rattle.tb_lock.specs.Seats.{SeatView}
use Rattle.tb_run.proofs.SeatLemmas.{stops_on}
use Rattle.tb_run.proofs.LogLemmas.{adds_observe, puts_any, puts_nothing, part_none}
use Rattle.tb_run.proofs.logger.log_some.Goals as goal

pub returns-in-Ok : goal.returns-in-Ok
returns-in-Ok g c =
    let law = c.calls_add_their_own.ensures.seen in
    let o = c.in-Ok.ensures in
    let old = c.args.seat.now in
    let mid = c.read_log.new.seat in
    let is = c.as_slice-piece.ensures ∙ (o.finds ∙ ap (λ (n : ℕ). take 1000 (drop n o.core.log)) c.written.ensures) in
    puts_any law old mid c.put_some.new.seat o.core c.args.writer.now c.put_some.new.writer 1000 c.as_slice-piece.result.now (g.O.Sink.taken c.args.out.now) (g.O.Sink.taken c.put_some.new.out) (g.O.Sink.faults c.args.out.now) (g.O.Sink.faults c.put_some.new.out)
    (adds_observe law old mid o.core o.meets o.seat) (ap (λ (s : SeatView). s.seen) o.seat) (ap (λ (s : SeatView). s.called) o.seat) is c.put_some.result c.put_some.ensures

pub returns-then-is_empty : goal.returns-then-is_empty
returns-then-is_empty g c =
    let law = c.calls_add_their_own.ensures.seen in
    let o = c.in-Ok.ensures in
    let old = c.args.seat.now in
    let mid = c.read_log.new.seat in
    let is = c.as_slice-piece.ensures ∙ (o.finds ∙ ap (λ (n : ℕ). take 1000 (drop n o.core.log)) c.written.ensures) in
    let none = eqb-true (length c.as_slice-piece.result.now) 0 (sym c.is_empty.ensures ∙ c.if-is_empty.true) in
    puts_any law old mid mid o.core c.args.writer.now c.args.writer.now 1000 c.as_slice-piece.result.now (g.O.Sink.taken c.args.out.now) (g.O.Sink.taken c.args.out.now) (g.O.Sink.faults c.args.out.now) (g.O.Sink.faults c.args.out.now)
    (adds_observe law old mid o.core o.meets o.seat) (ap (λ (s : SeatView). s.seen) o.seat) (ap (λ (s : SeatView). s.called) o.seat) is c.wait_for_more.result
    (puts_nothing mid c.as_slice-piece.result.now c.args.writer.now (g.O.Sink.taken c.args.out.now) (g.O.Sink.faults c.args.out.now) none c.requires.held c.wait_for_more.result c.wait_for_more.ensures)

pub returns : goal.returns
returns g c =
    let law = c.calls_add_their_own.ensures.seen in
    let o = c.in-Err.ensures in
    let old = c.args.seat.now in
    let mid = c.read_log.new.seat in
    let adds = adds_observe law old mid o.core o.meets o.seat in
    (stops_on old mid c.stop.new.seat adds c.stop.ensures, part_none old mid c.stop.new.seat o.core c.args.writer.now (g.O.Sink.taken c.args.out.now) adds (ap (λ (s : SeatView). s.seen) o.seat) c.stop.ensures.adds)
