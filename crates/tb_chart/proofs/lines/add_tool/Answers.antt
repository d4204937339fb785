use Rattle.std.proofs.Common.{◌∙◌, ◌<◌, None, sym, refl, arith}
use Rattle.std.specs.Vec.{vec_len}
use Rattle.tb_chart.proofs.ToolLemmas.{adds_found, adds_named, adds_pushed, seat_within, some_of}
use Rattle.tb_chart.proofs.lines.add_tool.Goals as goal

pub returns-then-has_tool : goal.returns-then-has_tool
returns-then-has_tool c =
    adds_found c.args.seat c.args.tools.now.items c.as_slice.result.now (sym c.if-has_tool.true ∙ c.has_tool.ensures) c.as_slice.ensures.value

pub returns-in-Some-get_mut : goal.returns-in-Some-get_mut
returns-in-Some-get_mut c =
    adds_named c.args.seat _ c.args.tools.now.items c.as_slice-2.result.now c.in-Some.index c.in-Some.ensures.some refl c.as_slice-2.ensures.value

-- the lifeline that was found is there
pub returns-in_default : goal.returns-in_default
returns-in_default c =
    let within = seat_within (record { lane = c.args.seat.lane; kind = None }) c.as_slice-2.result.now c.in-Some.index c.in-Some.ensures.some in
    let short : c.in-Some.index < vec_len c.args.tools.now = omega (arith, within, c.as_slice-2.ensures.len) in
    let it = some_of c.get_mut.result (c.get_mut.ensures.variant.1 short) in
    absurd (c.in_default.not-Some it.0 it.1)

pub returns-in_ok-push-in-None : goal.returns-in_ok-push-in-None
returns-in_ok-push-in-None c =
    adds_pushed c.args.seat (record { lane = c.args.seat.lane; kind = None }) c.args.tools.now.items c.as_slice.result.now c.as_slice-2.result.now _
    refl refl (sym c.if-has_tool.false ∙ c.has_tool.ensures) c.in-None.ensures.none c.as_slice.ensures.value c.as_slice-2.ensures.value
    c.in_ok-push-in-None.ensures.items
