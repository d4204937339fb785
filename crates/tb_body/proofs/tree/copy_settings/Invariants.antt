use Rattle.std.proofs.Common.{◌≡◌, take}
use Rattle.tb_body.proofs.tree.copy_settings.Given as goal

abbrev pub invariant-loop-setting : goal.invariant-loop-setting
invariant-loop-setting l = l.copies ≡ take l.setting-index l.settings
