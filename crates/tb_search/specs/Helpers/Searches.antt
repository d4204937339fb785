-- The data that a search goes through, from the values of the code.
use Rattle.std.specs.Prelude.{ℕ}
use Rattle.tb_bus.specs.Exchanges.{Setting, setting_by}
use Rattle.tb_search.specs.declared.search.Searched.{Searched}
use Rattle.tb_search.specs.declared.exchanging.Speaker.{Speaker}
use Rattle.tb_search.specs.Candidates.{Scene, scene_of, rows_of}

-- the scene of a search
abbrev pub scene_searched : {W : Type 0} → Searched W → Scene
scene_searched searched = scene_of searched.program.now.bodies searched.program.now.tools searched.bench.now (rows_of searched.all.now) searched.marks

-- the setting in which a process with this body speaks with tools
abbrev pub setting_searched : {W : Type 0} → Searched W → ℕ → Setting
setting_searched searched = setting_by searched.program.now.bodies searched.program.now.tools searched.bench.now

-- the setting of a speaker
abbrev pub setting_spoken : Speaker → Setting
setting_spoken speaker = setting_by speaker.program.now.bodies speaker.program.now.tools speaker.bench.now speaker.body
