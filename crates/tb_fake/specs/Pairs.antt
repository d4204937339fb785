-- The pairs as `fakes` makes them: each inlet has the cues of its lane, and each outlet has the failing calls of its lane. Nothing was
-- given or taken.
use Rattle.std.specs.Prelude.{ℕ, false, List, [], ◌∷◌}
use Rattle.tb_fake.specs.Fakes.{cues_on, fails_on}
use Rattle.tb_fake.specs.declared.cue.Cue.{Cue}
use Rattle.tb_fake.specs.declared.cue.Fail.{Fail}
use Rattle.tb_fake.specs.declared.pairs.FakePair.{FakePair}

-- the sixteen lanes
abbrev pub all_lanes : List ℕ
all_lanes = 1 ∷ 2 ∷ 3 ∷ 4 ∷ 5 ∷ 6 ∷ 7 ∷ 8 ∷ 9 ∷ 10 ∷ 11 ∷ 12 ∷ 13 ∷ 14 ∷ 15 ∷ 16 ∷ []

-- the unused pair of a lane
abbrev pub fresh_pair : List Cue → List Fail → ℕ → FakePair
fresh_pair cues fails lane = record {
  inlet = record { cues = cues_on lane cues; given = 0; over = false };
  outlet = record { taken = []; items = 64; bytes = 65536; fails = fails_on lane fails; calls = 0; faults = 0 };
}
