-- The rights of the workers of one bus of a pair: the readers of lanes 2 to 16, their writers, the stepper, and the worker of the pipe.
use Rattle.std.specs.Prelude.{ℕ, false, List, [], ◌∷◌, ◌++◌, drop, map}
use Rattle.std.specs.List.{fold}
use Rattle.tb_lock.specs.declared.rights.Rights.{Rights}
use Rattle.tb_lock.specs.Rights.{all_rights, without, stepper_rights}
use Rattle.tb_run.specs.Parts.{bits, in_of, out_of}

-- the bits of the lanes 2 to 16
abbrev pub others : List ℕ
others = drop 1 bits

-- both rights of lane 1
abbrev pub to_pipe : Rights
to_pipe = record { steps = false; ticks = false; ins = 1; outs = 1 }

abbrev pub pair_rights : List Rights
pair_rights = map in_of others ++ (map out_of others ++ stepper_rights ∷ to_pipe ∷ [])

-- the rest of all rights
abbrev pub pair_left : Rights
pair_left = fold without all_rights pair_rights
