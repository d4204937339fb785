-- The claims that the private functions of the program guarantee to each other.
use Rattle.std.specs.Prelude.{◌≡◌, ◌⊎◌, ℕ, List, [], ◌∷◌, ◌++◌, Option, Some, None, IsSome}
use Rattle.std.specs.Prelude.{option_to_list, Result, Ok, Err}
use Rattle.tb_body.specs.declared.program.Program.{Program}
use Rattle.tb_edge.specs.Sinks.{Writes, WritesPrefix}
use Rattle.tb_feed.specs.Feeds.{IsFirstBad}
use Rattle.tb_feed.specs.declared.fault.FeedFault.TheVariants as feed_fault
use Rattle.tb_script.specs.Findings.{IsFound, Program'}
use Rattle.tb_sim.specs.declared.ends.SimEnd.{SimEnd}
use Rattle.tb_sim.specs.declared.ends.SimEnd.TheVariants as sim
use Rattle.tb_gen.specs.Ring.{ring_text}
use Rattle.tb_iface.specs.Interfaces.{interface_of}
use Rattle.tb_iface.specs.PatternTexts.{interface_text}
use Rattle.tb_iface.specs.declared.answer.Interface.{Interface}
use Rattle.tb_load.specs.Loading.{HasProgram, IsLoadedWithin, IsLongerThan, IsRefused}
use Rattle.tb_run.specs.Views.{OutsideView}
use Rattle.tb_run.specs.declared.ends.RunWhy.{RunWhy}
use Rattle.tb_run.specs.declared.ends.RunWhy.TheVariants as why
use Rattle.tb_top.specs.Ring.{RingOutcome}
use Rattle.tb_top.specs.Run.{LiveOutcome}
use Rattle.tb_top.specs.Sim.{IsFed, IsFeedRefused, SimOutcome}
use Rattle.tb_top.specs.Verify.{VerifyOutcome, most_log_bytes}
use Rattle.tb_bus.specs.declared.origin.Origin.{Origin}
use Rattle.tb_log.specs.declared.entry.Input.{Input}
use Rattle.tb_top.specs.declared.fault.Fault.{Fault}
use Rattle.tb_top.specs.declared.fault.Fault.TheVariants.{Script, Feed, File, Out, Clock, Crew}
use Rattle.tb_top.specs.declared.fault.Fault.TheVariants.{Limit, NoMemory, Log, Stranger}
use Rattle.tb_top.specs.declared.status.Bound.TheVariants as bound
use Rattle.tb_top.specs.declared.status.LogWrong.TheVariants as log_wrong

-- these files were requested, or perhaps none if memory ran out
abbrev pub AsksFor : {A : Type 0} → List (List ℕ) → List (List ℕ) → List (List ℕ) → Result A Fault
    → Type 0
AsksFor names old new (Err NoMemory) = (new ≡ old) ⊎ (new ≡ old ++ names)
AsksFor names old new _ = new ≡ old ++ names

-- the feed's file was requested, if there is one
abbrev pub AsksForFeed : {A : Type 0} → Option (List ℕ) → List (List ℕ) → List (List ℕ)
    → Result A Fault → Type 0
AsksForFeed name old new answer = AsksFor (option_to_list name) old new answer

-- why bytes give no program
abbrev pub IsRefusedBy : List ℕ → Fault → Type 0
IsRefusedBy bytes (Script fault) = IsRefused bytes fault
IsRefusedBy bytes NoMemory = Unit {0}
IsRefusedBy bytes _ = ⊥

-- why bytes give no feed
abbrev pub IsBadFeed : List ℕ → Fault → Type 0
IsBadFeed bytes (Feed (feed_fault.Line number)) = IsFirstBad bytes number
IsBadFeed bytes NoMemory = Unit {0}
IsBadFeed bytes _ = ⊥

-- why the file of a feed gives no inputs
abbrev pub IsUnread : (List ℕ → Option (List ℕ)) → Option (List ℕ) → Fault → Type 0
IsUnread held name (Feed fault) = IsFeedRefused held name fault
IsUnread held name File = IsSome name
IsUnread held name NoMemory = Unit {0}
IsUnread held name _ = ⊥

-- an error of a command after its script has a program
abbrev pub IsBehindScript : Fault → Type 0
IsBehindScript (Script fault) = ⊥
IsBehindScript _ = Unit {0}

-- the answer after a simulation with this end, if the whole output was written
abbrev pub EndsAs : {A : Type 0} → SimEnd → Result A Fault → Type 0
EndsAs last (Ok done) = last ≡ sim.Down
EndsAs last (Err (Limit bound.Steps)) = last ≡ sim.Steps
EndsAs last (Err (Limit bound.Events)) = last ≡ sim.Events
EndsAs last _ = ⊥

-- The answer of writing a text after a simulation with this end: the whole text was written, or a
-- prefix because the sink failed or memory ran out.
abbrev pub PutsText : {A : Type 0} → List ℕ → SimEnd → Option (List ℕ) → Option (List ℕ)
    → Result A Fault → Type 0
PutsText text last old new (Err Out) = WritesPrefix old new text
PutsText text last old new (Err NoMemory) = WritesPrefix old new text
PutsText text last old new answer = EndsAs last answer × Writes old new text

-- an error of a command after its feed is read
abbrev pub IsBehindFeed : Fault → Type 0
IsBehindFeed Out = Unit {0}
IsBehindFeed (Limit bound) = Unit {0}
IsBehindFeed NoMemory = Unit {0}
IsBehindFeed _ = ⊥

-- for all files of the inputs and of the program: the outcome of `sim` for the simulation with this
-- number of steps
abbrev pub IsSimulated : {A : Type 0} → ℕ → Origin → List Input → Option (List ℕ) → Option (List ℕ)
    → Result A Fault → Type 0
IsSimulated steps origin inputs old new answer =
    (held : List ℕ → Option (List ℕ)) (script : List ℕ) (name : Option (List ℕ))
    → IsFed held name inputs → HasProgram (held script) origin.program →
    SimOutcome held (record {
      script = script;
      feed = name;
      connects = origin.connects;
      steps = steps;
      events = origin.limit;
    }) old new answer

-- The answer of writing a text at once after a simulation with this end. If memory ran out, nothing
-- was written.
abbrev pub PutsWhole : {A : Type 0} → List ℕ → SimEnd → Option (List ℕ) → Option (List ℕ)
    → Result A Fault → Type 0
PutsWhole text last old new (Err Out) = WritesPrefix old new text
PutsWhole text last old new (Err NoMemory) = new ≡ old
PutsWhole text last old new answer = EndsAs last answer × Writes old new text

-- for all rings whose script has this program: the outcome of `ring` for its simulation
abbrev pub IsRingSimulated : {A : Type 0} → Program → ℕ → Option (List ℕ) → Option (List ℕ)
    → Result A Fault → Type 0
IsRingSimulated program n old new answer =
    (k : ℕ) → IsFound (ring_text n k) (Program' program) → RingOutcome n k old new answer

-- the answer after a run that ended for this reason
abbrev pub EndsRun : {A : Type 0} → RunWhy → Result A Fault → Type 0
EndsRun it (Ok done) = it ≡ why.Ended
EndsRun it (Err Clock) = it ≡ why.Clock
EndsRun it (Err Crew) = it ≡ why.Crew
EndsRun it (Err Out) = it ≡ why.Out
EndsRun it (Err (Limit bound.Events)) = it ≡ why.Events
EndsRun it (Err NoMemory) = it ≡ why.NoMemory
EndsRun it _ = ⊥

-- for all files of the program: the outcome of `run` with this number of ticks
abbrev pub IsLive : {A : Type 0} → ℕ → Origin → OutsideView → OutsideView → Result A Fault → Type 0
IsLive ticks origin old new answer =
    (held : List ℕ → Option (List ℕ)) (script : List ℕ) → HasProgram (held script) origin.program →
    LiveOutcome held (record {
      script = script;
      connects = origin.connects;
      ticks = ticks;
      events = origin.limit;
    }) old new answer

-- an error of neither the clock nor the crew
abbrev pub IsInside : Fault → Type 0
IsInside Clock = ⊥
IsInside Crew = ⊥
IsInside _ = Unit {0}

-- an error of a run after its script has a program
abbrev pub IsLiveFault : Fault → Type 0
IsLiveFault Out = Unit {0}
IsLiveFault Clock = Unit {0}
IsLiveFault Crew = Unit {0}
IsLiveFault (Limit bound) = Unit {0}
IsLiveFault NoMemory = Unit {0}
IsLiveFault _ = ⊥

-- why the file of a log gives no bytes
abbrev pub IsLogUnread : Option (List ℕ) → Fault → Type 0
IsLogUnread told (Log (log_wrong.TooLong len)) = IsLongerThan most_log_bytes told len
IsLogUnread told File = Unit {0}
IsLogUnread told NoMemory = Unit {0}
IsLogUnread told _ = ⊥

-- for all files of the program and of the bytes: the outcome of `verify` for these bytes as a log
-- of the program
abbrev pub IsVerified : {A : Type 0} → Program → List (List ℕ) → List ℕ → Option (List ℕ)
    → Option (List ℕ) → Result A Fault → Type 0
IsVerified program connects bytes old new answer =
    (held : List ℕ → Option (List ℕ)) (script log : List ℕ) → HasProgram (held script) program
    → IsLoadedWithin most_log_bytes (held log) bytes →
    VerifyOutcome held (record { script = script; log = log; connects = connects }) old new answer

-- why a tool has no interface
abbrev pub HasNoInterface : Program → List ℕ → Fault → Type 0
HasNoInterface program tool Stranger = interface_of program tool ≡ None
HasNoInterface program tool NoMemory = Unit {0}
HasNoInterface program tool _ = ⊥

-- the text of the interface that a tool of this name has
abbrev pub IsInterfaceText : Program → List ℕ → List ℕ → Type 0
IsInterfaceText program tool text =
    (found : Interface) × (interface_of program tool ≡ Some found)
    × (text ≡ interface_text tool found)
