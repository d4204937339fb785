-- The state of the files, sinks, and clocks in memory, and the answer of each call and the state after it.
use Rattle.std.specs.Prelude.{◌≡◌, ℕ, ◌+◌, ◌-◌, ◌==◌, nat_le, nat_lt, Bool, true, if◌then◌else◌, Option, Result, Ok, Err, List, [], ◌∷◌, ◌++◌, length, take, unwrap_or}
use Rattle.std.specs.List.{find, list_any}
use Rattle.std.specs.Option.{option_map, ok_or}
use Rattle.std.specs.Str.{bytes_eq}
use Rattle.tb_edge.specs.Faults.{risen}
use Rattle.tb_edge.specs.declared.held_files.HeldFile.{HeldFile}
use Rattle.tb_edge.specs.declared.files.Loaded.{Loaded}
use Rattle.tb_edge.specs.declared.files.Loaded.TheVariants.{Bytes, TooLong}
use Rattle.tb_edge.specs.declared.files.FilesFault.{FilesFault}
use Rattle.tb_edge.specs.declared.files.FilesFault.TheVariants.{Failed, NoMemory}
use Rattle.tb_edge.specs.declared.clock.Beat.{Beat}
use Rattle.tb_edge.specs.declared.clock.Beat.TheVariants as beat

-- the bytes of the first file with this name
abbrev pub held_in : List HeldFile → List ℕ → Option (List ℕ)
held_in files name = option_map (λ file. file.bytes) (find (λ file. bytes_eq file.name name) files)

-- the answer of a load of these bytes
abbrev pub loaded_of : ℕ → List ℕ → Loaded
loaded_of most bytes = if nat_le (length bytes) most then Bytes bytes else TooLong (length bytes)

-- the call with this number must fail
abbrev pub fails_at : List ℕ → ℕ → Bool
fails_at fails call = list_any (λ fail. fail == call) fails

-- the answer is this one, or out of memory
abbrev pub IsUnlessNoMemory : Result Loaded FilesFault → Result Loaded FilesFault → Type 0
IsUnlessNoMemory (Ok loaded) answer = answer ≡ Ok loaded
IsUnlessNoMemory (Err Failed) answer = answer ≡ Err Failed
IsUnlessNoMemory (Err NoMemory) answer = Unit {0}

-- a `MemFiles`
pub record MemFilesView : Type 0 where
  pub held : List HeldFile
  pub fails : List ℕ
  pub asked : List (List ℕ)
  pub faults : ℕ

-- a call fails if its number is one of the given ones, or if no file has its name
abbrev pub mem_answer : MemFilesView → List ℕ → ℕ → Result Loaded FilesFault
mem_answer files name most =
    if fails_at files.fails (length files.asked + 1) then Err Failed else ok_or (option_map (loaded_of most) (held_in files.held name)) Failed

abbrev pub mem_files_after : Result Loaded FilesFault → MemFilesView → List ℕ → MemFilesView
mem_files_after (Ok loaded) files name = record files { asked = files.asked ++ name ∷ [] }
mem_files_after (Err Failed) files name = record files { asked = files.asked ++ name ∷ []; faults = risen files.faults }
mem_files_after (Err NoMemory) files name = files

-- a `SureFiles`
pub record SureFilesView : Type 0 where
  pub held : List HeldFile
  pub asked : List (List ℕ)

-- if no file has the name, no bytes are loaded
abbrev pub surely_held_in : List HeldFile → List ℕ → List ℕ
surely_held_in files name = unwrap_or (held_in files name) []

abbrev pub sure_files_after : Result Loaded FilesFault → SureFilesView → List ℕ → SureFilesView
sure_files_after (Ok loaded) files name = record files { asked = files.asked ++ name ∷ [] }
sure_files_after (Err fault) files name = files

-- a `MemSink`
pub record MemSinkView : Type 0 where
  pub taken : List ℕ
  pub room : ℕ
  pub fails : List ℕ
  pub calls : ℕ
  pub faults : ℕ

-- the bytes that are taken of a piece: the prefix that fits, or none in a call that must fail
abbrev pub prefix_put : MemSinkView → List ℕ → List ℕ
prefix_put sink piece = if fails_at sink.fails (risen sink.calls) then [] else take (sink.room - length sink.taken) piece

-- a call fails if it doesn't take the whole piece
abbrev pub is_put : MemSinkView → List ℕ → Bool
is_put sink piece = length (prefix_put sink piece) == length piece

abbrev pub mem_sink_after : MemSinkView → List ℕ → MemSinkView
mem_sink_after sink piece = record sink {
  taken = sink.taken ++ prefix_put sink piece;
  calls = risen sink.calls;
  faults = if is_put sink piece then sink.faults else risen sink.faults;
}

-- a `MemClock`
pub record MemClockView : Type 0 where
  pub ticks : ℕ
  pub fails : List ℕ
  pub gave : ℕ
  pub ended : Bool
  pub calls : ℕ
  pub faults : ℕ

-- the next answer of a clock with this number of ticks, of which it has given some
abbrev pub next_beat : ℕ → ℕ → Beat
next_beat ticks gave = if nat_lt gave ticks then beat.Tick else beat.End

-- after its end, a clock answers only `End`; before, it fails in a call that must fail
abbrev pub mem_beat : MemClockView → Beat
mem_beat clock =
    if clock.ended then beat.End else if fails_at clock.fails (risen clock.calls) then beat.Failed else next_beat clock.ticks clock.gave

-- the clock after an answer
abbrev pub mem_clock_by : Beat → MemClockView → MemClockView
mem_clock_by beat.Tick clock = record clock { gave = clock.gave + 1; calls = risen clock.calls }
mem_clock_by beat.End clock = record clock { ended = true; calls = risen clock.calls }
mem_clock_by beat.Failed clock = record clock { calls = risen clock.calls; faults = risen clock.faults }

abbrev pub mem_clock_after : MemClockView → MemClockView
mem_clock_after clock = mem_clock_by (mem_beat clock) clock

-- a `SureClock`
pub record SureClockView : Type 0 where
  pub ticks : ℕ
  pub gave : ℕ
  pub ended : Bool

abbrev pub sure_beat : SureClockView → Beat
sure_beat clock = if clock.ended then beat.End else next_beat clock.ticks clock.gave

-- the clock after an answer
abbrev pub sure_clock_by : Beat → SureClockView → SureClockView
sure_clock_by beat.Tick clock = record clock { gave = clock.gave + 1 }
sure_clock_by beat.End clock = record clock { ended = true }
sure_clock_by beat.Failed clock = clock

abbrev pub sure_clock_after : SureClockView → SureClockView
sure_clock_after clock = sure_clock_by (sure_beat clock) clock
