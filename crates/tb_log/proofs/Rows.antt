-- Example lines without terms, and example logs with their statements about lanes.
use Rattle.std.specs.Prelude.{◌≡◌, List, [], ◌∷◌, codes, refl}
use Rattle.std.specs.Fmt.{digits}
use Rattle.tb_log.specs.LogText.{log_text_from, log_text}
use Rattle.tb_log.specs.Lanes.{handed, sent, inputs, ticks}
use Rattle.tb_log.specs.declared.entry.Entry.{Entry}
use Rattle.tb_log.specs.declared.entry.Entry.TheVariants.{Quiet, Fed, Gave}
use Rattle.tb_log.specs.declared.entry.Input.TheVariants as input
use Rattle.tb_log.specs.declared.entry.ToolLine.TheVariants as tool
use Rattle.tb_log.specs.declared.entry.Out.TheVariants as out
use Rattle.tb_log.specs.declared.entry.Reply.TheVariants.{Took, Dropped}
use Rattle.tb_log.specs.declared.entry.Why.TheVariants as why

-- a bad line, the end of a tool, and a cut
bad_lines : log_text_from 3 (Fed (input.Line 1 tool.Bad) (Dropped why.Bad) ∷ Fed (input.Gone 1) Took ∷ Fed (input.Cut 16) Took ∷ []) ≡ codes "3 drop bad line 1 ?\n4 gone 1\n5 cut 16\n"
unfolding digits
bad_lines = refl

-- a tick, a start and an end
quiet_lines : log_text (Quiet ∷ Fed input.Tick Took ∷ Gave 1 (out.Start (codes "calc")) ∷ Gave 1 out.End ∷ Fed input.NoTicks (Dropped why.Down) ∷ []) ≡ codes "1 quiet\n2 tick\n3 out 1 start \"calc\"\n4 out 1 end\n5 drop down noticks\n"
unfolding digits
quiet_lines = refl

-- On lane 1, the end couldn't be written. On lane 2, both outputs come after the cut and were written.
two_lanes : List Entry
two_lanes =
    Gave 1 (out.Start (codes "t")) ∷ Fed (input.Cut 2) (Dropped why.NotLive) ∷ Gave 2 (out.Start (codes "u")) ∷ Fed input.Tick Took
    ∷ Gave 1 out.End ∷ Quiet ∷ Fed (input.Cut 1) (Dropped why.Down) ∷ Fed (input.Gone 2) Took ∷ Gave 2 out.End ∷ Fed input.Tick (Dropped why.Down)
    ∷ Fed (input.Line 1 tool.Bad) (Dropped why.Down) ∷ []

first_handed : handed two_lanes 1 ≡ out.Start (codes "t") ∷ out.End ∷ []
unfolding two_lanes
first_handed = refl

first_sent : sent two_lanes 1 ≡ out.Start (codes "t") ∷ []
unfolding two_lanes
first_sent = refl

second_sent : sent two_lanes 2 ≡ out.Start (codes "u") ∷ out.End ∷ []
unfolding two_lanes
second_sent = refl

first_inputs : inputs two_lanes 1 ≡ input.Line 1 tool.Bad ∷ []
unfolding two_lanes
first_inputs = refl

second_inputs : inputs two_lanes 2 ≡ input.Gone 2 ∷ []
unfolding two_lanes
second_inputs = refl

both_ticks : ticks two_lanes ≡ 2
unfolding two_lanes
both_ticks = refl
