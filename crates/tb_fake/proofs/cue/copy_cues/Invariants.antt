use Rattle.std.proofs.Common.{◌≡◌, take}
use Rattle.tb_fake.specs.Fakes.{cues_on}
use Rattle.tb_fake.proofs.cue.copy_cues.Given as goal

abbrev pub invariant-loop-cue : goal.invariant-loop-cue
invariant-loop-cue l = l.own ≡ cues_on l.lane (take l.cue-index l.cues)
