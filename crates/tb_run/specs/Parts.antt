-- The rights of the workers, in the order of their jobs: the readers of the lanes, their writers, the stepper; then the ticker.
use Rattle.std.specs.Prelude.{ℕ, false, List, [], ◌∷◌, ◌++◌, map}
use Rattle.std.specs.List.{fold}
use Rattle.tb_lock.specs.declared.rights.Rights.{Rights}
use Rattle.tb_lock.specs.Rights.{all_rights, stepper_rights, without}

-- the bits of lanes 1 to 16
abbrev pub bits : List ℕ
bits = 1 ∷ 2 ∷ 4 ∷ 8 ∷ 16 ∷ 32 ∷ 64 ∷ 128 ∷ 256 ∷ 512 ∷ 1024 ∷ 2048 ∷ 4096 ∷ 8192 ∷ 16384 ∷ 32768 ∷ []

-- the right to deliver the input of the lane of this bit
abbrev pub in_of : ℕ → Rights
in_of bit = record { steps = false; ticks = false; ins = bit; outs = 0 }

-- the right to take the queued items of the lane of this bit
abbrev pub out_of : ℕ → Rights
out_of bit = record { steps = false; ticks = false; ins = 0; outs = bit }

-- the rights of the sixteen readers, the sixteen writers, and the stepper
unfoldable pub job_rights : List Rights
job_rights = map in_of bits ++ (map out_of bits ++ stepper_rights ∷ [])

-- the rights that remain after those of the jobs were passed on
abbrev pub rights_left : Rights
rights_left = fold without all_rights job_rights
