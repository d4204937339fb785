-- What one tick worker has delivered to two buses so far.
use Rattle.std.specs.Prelude.{◌≡◌, ◌≤◌, ◌<◌, ◌+◌, ◌⊎◌, ◌&&◌, ℕ, Bool, true, false, is_some, List, length, Option, Some, None}
use Rattle.tb_edge.specs.Faults.{Rose}
use Rattle.tb_edge.specs.Ends.{ClockView, and_ticked}
use Rattle.tb_log.specs.declared.entry.Input.TheVariants as input
use Rattle.tb_log.specs.declared.entry.Reply.TheVariants.{Dropped}
use Rattle.tb_log.specs.declared.entry.Why.TheVariants as why
use Rattle.tb_log.specs.declared.entry.Entry.{Entry}
use Rattle.tb_log.specs.declared.entry.Entry.TheVariants.{Fed}
use Rattle.tb_core.specs.Cores.{HandIn}
use Rattle.tb_lock.specs.Seats.{SeatView}
use Rattle.tb_run.specs.declared.ends.WorkEnd.{WorkEnd}
use Rattle.tb_run.specs.declared.ends.WorkEnd.TheVariants as end
use Rattle.tb_run.specs.Dropping.{AreLetIn}
use Rattle.tb_run.specs.Seats.{Adds, Marks, SameMarks, EndsWith, FoundFull}
use Rattle.tb_run.specs.Helpers.Ticking.{EndsAll}
use Rattle.tb_run.specs.Workers.{AreTicks, LetIn}
use Rattle.tb_pair.specs.Ticking.{GotAll}

-- why a bus receives no more ticks
abbrev pub CutBy : SeatView → SeatView → ℕ → ℕ → WorkEnd → Type 0
CutBy old new count given end.Over = ⊥
CutBy old new count given end.Down = EndsWith new (Fed input.Tick (Dropped why.Down))
CutBy old new count given end.Stopped = Unit {0}
CutBy old new count given end.Full = (count < given) × FoundFull (HandIn input.Tick) old new
CutBy old new count given end.Failed = ⊥
CutBy old new count given end.NoMemory = Unit {0}

-- a bus that receives each tick has received all of the clock's, and any other bus no more than these
abbrev pub TickedBy : Option WorkEnd → SeatView → SeatView → List Entry → ℕ → Type 0
TickedBy None old new first given = (length first ≡ given) × SameMarks old new × AreLetIn first
TickedBy (Some it) old new first given = (length first ≤ given) × Marks old new it × LetIn it first × CutBy old new (length first) given it

-- a bus while the clock goes on, which gave so many ticks
pub record Ticked (old new : SeatView) (given : ℕ) (state : Option WorkEnd) : Type 0 where
  pub first : List Entry
  pub adds : Adds old new first
  pub ticks : AreTicks first
  pub by : TickedBy state old new first given

-- a bus that received all, or all except the last, which was refused
abbrev pub GotBy : Option WorkEnd → ℕ → ℕ → Type 0
GotBy None count given = count ≡ given
GotBy (Some it) count given = GotAll count given it

-- A bus after one more tick, with this state then: if it still received ticks, it received this one or refused it.
pub record TickedMore (begun new : SeatView) (given : ℕ) (state state' : Option WorkEnd) : Type 0 where
  pub is : Ticked begun new given state'
  pub got : state ≡ None → GotBy state' (length is.first) given

-- one of two buses still receives ticks
abbrev pub SomeGets : Option WorkEnd → Option WorkEnd → Type 0
SomeGets state others = (is_some state && is_some others) ≡ false

-- one more tick was given, and delivered to each bus that receives them
pub record TicksOne (one one_new : SeatView) (state state' : Option WorkEnd) (other other_new : SeatView) (others others' : Option WorkEnd) (told_old told_new : Option ClockView) (faults_old faults_new : ℕ) : Type 0 where
  pub first : (begun : SeatView) (given : ℕ) → Ticked begun one given state → TickedMore begun one_new (given + 1) state state'
  pub second : (begun : SeatView) (given : ℕ) → Ticked begun other given others → TickedMore begun other_new (given + 1) others others'
  pub gets : SomeGets state others
  pub told : told_new ≡ and_ticked told_old 1 false
  pub calm : faults_new ≡ faults_old

-- no tick was given: the clock has ended or failed, or neither bus receives any
abbrev pub NoTick : Option WorkEnd → Option WorkEnd → Option ClockView → Option ClockView → ℕ → ℕ → WorkEnd → Type 0
NoTick state others told_old told_new faults_old faults_new end.Over = (told_new ≡ and_ticked told_old 0 true) × (faults_new ≡ faults_old) × SomeGets state others
NoTick state others told_old told_new faults_old faults_new end.Failed = (told_new ≡ told_old) × Rose faults_old faults_new × SomeGets state others
NoTick state others told_old told_new faults_old faults_new end.Down = (told_new ≡ told_old) × (faults_new ≡ faults_old) × ((is_some state && is_some others) ≡ true)
NoTick state others told_old told_new faults_old faults_new end.Stopped = ⊥
NoTick state others told_old told_new faults_old faults_new end.Full = ⊥
NoTick state others told_old told_new faults_old faults_new end.NoMemory = ⊥

-- why no more ticks come, before this is reported to each bus that still receives them
abbrev pub WhyOver : WorkEnd → ℕ → ℕ → Bool → ℕ → ℕ → Option WorkEnd → Option WorkEnd → Type 0
WhyOver end.Over most given ended old new state others = (new ≡ old) × (((ended ≡ true) × SomeGets state others) ⊎ (given ≡ most))
WhyOver end.Failed most given ended old new state others = Rose old new × SomeGets state others
WhyOver end.Down most given ended old new state others = (new ≡ old) × ((is_some state && is_some others) ≡ true)
WhyOver end.Stopped most given ended old new state others = ⊥
WhyOver end.Full most given ended old new state others = ⊥
WhyOver end.NoMemory most given ended old new state others = ⊥

-- all ticks were given
pub record TickedAll (most : ℕ) (one one_new : SeatView) (state : Option WorkEnd) (other other_new : SeatView) (others : Option WorkEnd) (told_old told_new : Option ClockView) (faults_old faults_new : ℕ) (wanted : WorkEnd) : Type 0 where
  pub given : ℕ
  pub first : Ticked one one_new given state
  pub second : Ticked other other_new given others
  pub fully : GotBy state (length first.first) given ⊎ GotBy others (length second.first) given
  pub ended : Bool
  pub told : told_new ≡ and_ticked told_old given ended
  pub within : given ≤ most
  pub why : WhyOver wanted most given ended faults_old faults_new state others

-- a bus that still receives ticks received the notice that no more come, or refused it; any other bus stays as it is
abbrev pub SaysSo : Option WorkEnd → SeatView → SeatView → WorkEnd → WorkEnd → Type 0
SaysSo None old new wanted it = EndsAll old new wanted it
SaysSo (Some was) old new wanted it = (new ≡ old) × (it ≡ was)

-- a bus that still receives ticks may receive the notice that no more come
abbrev pub MayEnd : Option WorkEnd → WorkEnd → Type 0
MayEnd (Some it) wanted = Unit {0}
MayEnd None end.Over = Unit {0}
MayEnd None end.Failed = Unit {0}
MayEnd None end.Down = ⊥
MayEnd None end.Stopped = ⊥
MayEnd None end.Full = ⊥
MayEnd None end.NoMemory = ⊥
