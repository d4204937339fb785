-- The requirements of the theorems about one log: the written bytes, and the reasons for which the
-- whole text of a log was written.
use Rattle.std.specs.Prelude.{◌≡◌, ℕ, List, ◌++◌, Option, Some, None, ⊤}
use Rattle.tb_run.specs.declared.ends.RunWhy.{RunWhy}
use Rattle.tb_run.specs.declared.ends.RunWhy.TheVariants.{Ended, Crew, Clock, Out, Events, NoMemory}

-- the sink reports the bytes that it took, and took exactly these bytes in the call
abbrev pub HasPut : List ℕ → Option (List ℕ) → Option (List ℕ) → Type 0
HasPut bytes None new = ⊥
HasPut bytes (Some taken) new = new ≡ Some (taken ++ bytes)

-- a run that ends for this reason has written the whole text of its log
abbrev pub PutsAll : RunWhy → Type 0
PutsAll Ended = ⊤
PutsAll Clock = ⊤
PutsAll Events = ⊤
PutsAll Out = ⊥
PutsAll NoMemory = ⊥
PutsAll Crew = ⊥
