use Rattle.std.proofs.Common.{◌≡◌, drop}
use Rattle.std.specs.List.{list_all}
use Rattle.tb_body.specs.InRange.{is_setting_in_range}
use Rattle.tb_body.proofs.in_range.are_settings_in_range.Given as goal

abbrev pub invariant-loop-setting : goal.invariant-loop-setting
invariant-loop-setting l = list_all (is_setting_in_range l.slots) (drop l.setting-index l.settings) ≡ list_all (is_setting_in_range l.slots) l.settings
