use Rattle.std.proofs.Common.{◌≡◌, ◌++◌, map, drop, option_map}
use Rattle.tb_func.specs.Values.{all_of}
use Rattle.tb_process_steps.specs.Settings.{given_by}
use Rattle.tb_process_steps.proofs.settings.given.Given as goal

-- the binds so far, followed by the binds of the remaining settings, are the binds of all settings
abbrev pub invariant-loop-setting : goal.invariant-loop-setting
invariant-loop-setting l =
    option_map (λ rest. l.binds ++ rest) (all_of (map (given_by l.store) (drop l.setting-index l.settings)))
    ≡ all_of (map (given_by l.store) l.settings)
