use Rattle.std.proofs.Common.{◌≡◌, take}
use Rattle.tb_core.proofs.machine.copy_texts.Given as goal

-- those in front are copied
abbrev pub invariant-loop-text : goal.invariant-loop-text
invariant-loop-text l = l.copies ≡ take l.text-index l.texts
