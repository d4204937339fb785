use Rattle.tb_feed.proofs.LineLemmas.{no-lane}
use Rattle.tb_feed.proofs.line.tool_input.Goals as goal

pub returns-in-None-lane_of : goal.returns-in-None-lane_of
returns-in-None-lane_of c = no-lane c.args.rest.now c.in-Some.number.now c.in-Some.text.now c.in-Some.ensures.0 c.in-Some.ensures.1 c.in-None-lane_of.ensures
