use Rattle.std.proofs.Common.{◌∙◌, ap}
use Rattle.std.specs.Str.{bytes_eq}
use Rattle.tb_types.specs.NamePositions.{position_in, kept, tool_name}
use Rattle.tb_types.proofs.Naming.{position_more}
use Rattle.tb_types.proofs.names.tool_positions.Goals as goal

pub loop-position-preserved : goal.loop-position-preserved
loop-position-preserved c = λ name.
    c.in_ok-keep_position.ensures.kept name
    ∙ ap (λ own. kept (position_in c.loop-position.positions name) (bytes_eq own name) c.loop-position.position) c.as_bytes.ensures.value
    ∙ position_more tool_name c.args.tools.now c.loop-position.position c.index-tools-position.result name (position_in c.loop-position.positions name) c.loop-position-test.true c.index-tools-position.is (c.loop-position.invariant name)
