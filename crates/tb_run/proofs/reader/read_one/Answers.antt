use Rattle.std.proofs.Common.{ℕ, List, subst, ◌∷◌, [], refl, arith}
use Rattle.tb_edge.specs.declared.given.Given.TheVariants as given
use Rattle.tb_edge.specs.declared.inlet.Got.TheVariants as got
use Rattle.tb_log.specs.declared.entry.Input.TheVariants as input
use Rattle.tb_log.specs.declared.entry.ToolLine.TheVariants as tool
use Rattle.tb_tool_line.specs.ToolLines.{IsToolLine}
use Rattle.tb_run.proofs.ReadLemmas.{not_over, reads_hands, reads_out, reads_over, line_on, gone_on}
use Rattle.tb_run.proofs.reader.read_one.Goals as goal

pub returns-in-Ok : goal.returns-in-Ok
returns-in-Ok g c =
    let lane = c.args.lane in
    reads_hands lane c.args.seat.now c.deliver.new.seat (g.I.Inlet.told c.args.inlet.now) (g.I.Inlet.told c.next.new.self) (given.Line c.next.new.line.items) (input.Line lane c.in-Ok.read) c.deliver.result
    (line_on lane c.in-Ok.read) (not_over (g.I.Inlet.told c.args.inlet.now) got.Line c.in-Line.ensures.over refl) (refl, subst (λ (b : List ℕ). IsToolLine b c.in-Ok.read) c.as_slice.ensures.value c.in-Ok.ensures.line) c.in-Line.ensures.told c.deliver.ensures

pub returns-in-Err : goal.returns-in-Err
returns-in-Err g c =
    reads_out c.args.lane c.args.seat.now c.stop.new.seat (g.I.Inlet.told c.args.inlet.now) (g.I.Inlet.told c.next.new.self) (given.Line c.next.new.line.items ∷ []) (omega arith) (λ e. absurd (not_over (g.I.Inlet.told c.args.inlet.now) got.Line c.in-Line.ensures.over refl e)) c.in-Line.ensures.told c.stop.ensures

pub returns-in-Long : goal.returns-in-Long
returns-in-Long g c =
    let lane = c.args.lane in
    reads_hands lane c.args.seat.now c.deliver-in-Long.new.seat (g.I.Inlet.told c.args.inlet.now) (g.I.Inlet.told c.next.new.self) given.Long (input.Line lane tool.Bad) c.deliver-in-Long.result
    (line_on lane tool.Bad) (not_over (g.I.Inlet.told c.args.inlet.now) got.Long c.in-Long.ensures.over refl) (refl, refl) c.in-Long.ensures.told c.deliver-in-Long.ensures

pub returns-in-End : goal.returns-in-End
returns-in-End g c =
    let lane = c.args.lane in
    reads_hands lane c.args.seat.now c.deliver-in-End.new.seat (g.I.Inlet.told c.args.inlet.now) (g.I.Inlet.told c.next.new.self) given.End (input.Gone lane) c.deliver-in-End.result
    (gone_on lane) (not_over (g.I.Inlet.told c.args.inlet.now) got.End c.in-End.ensures.over refl) refl c.in-End.ensures.told c.deliver-in-End.ensures

pub returns-in-Failed : goal.returns-in-Failed
returns-in-Failed g c =
    let lane = c.args.lane in
    reads_hands lane c.args.seat.now c.deliver-in-Failed.new.seat (g.I.Inlet.told c.args.inlet.now) (g.I.Inlet.told c.next.new.self) given.End (input.Gone lane) c.deliver-in-Failed.result
    (gone_on lane) (not_over (g.I.Inlet.told c.args.inlet.now) got.Failed c.in-Failed.ensures.over refl) refl c.in-Failed.ensures.told c.deliver-in-Failed.ensures

pub returns-in-Over : goal.returns-in-Over
returns-in-Over g c = reads_over c.args.lane c.args.seat.now (g.I.Inlet.told c.args.inlet.now) (g.I.Inlet.told c.next.new.self) c.in-Over.ensures.told

pub returns-in-NoMemory : goal.returns-in-NoMemory
returns-in-NoMemory g c =
    reads_out c.args.lane c.args.seat.now c.stop-in-NoMemory.new.seat (g.I.Inlet.told c.args.inlet.now) (g.I.Inlet.told c.next.new.self) [] (omega arith) (λ over. refl) c.in-NoMemory.ensures.told c.stop-in-NoMemory.ensures
