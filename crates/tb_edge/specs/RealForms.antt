-- The state of the files and sinks of the system, as contracts see it, and the files after a call.
use Rattle.std.specs.Prelude.{ℕ, List, [], ◌∷◌, ◌++◌, Result, Ok, Err}
use Rattle.tb_edge.specs.Faults.{risen}
use Rattle.tb_edge.specs.declared.files.Loaded.{Loaded}
use Rattle.tb_edge.specs.declared.files.FilesFault.{FilesFault}
use Rattle.tb_edge.specs.declared.files.FilesFault.TheVariants.{Failed, NoMemory}

-- a `RealFiles`
pub record RealFilesView : Type 0 where
  pub asked : List (List ℕ)
  pub faults : ℕ

abbrev pub real_files_after : Result Loaded FilesFault → RealFilesView → List ℕ → RealFilesView
real_files_after (Ok loaded) files name = record files { asked = files.asked ++ name ∷ [] }
real_files_after (Err Failed) files name = record { asked = files.asked ++ name ∷ []; faults = risen files.faults }
real_files_after (Err NoMemory) files name = files

-- a `RealSink`
pub record RealSinkView (W : Type 0) : Type 0 where
  pub writer : W
  pub faults : ℕ
