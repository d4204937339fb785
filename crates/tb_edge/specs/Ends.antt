-- The items that inlets, outlets, and clocks report. Nothing is claimed of one that doesn't report them.
use Rattle.std.specs.Prelude.{◌≡◌, ℕ, ◌+◌, Bool, true, false, ◌||◌, Option, Some, None, IfSome, List, [], ◌∷◌, ◌++◌, ⊤}
use Rattle.tb_edge.specs.declared.given.Given.{Given}
use Rattle.tb_edge.specs.declared.given.Given.TheVariants as given
use Rattle.tb_edge.specs.declared.given.Taken.{Taken}
use Rattle.tb_edge.specs.declared.inlet.Got.{Got}
use Rattle.tb_edge.specs.declared.inlet.Got.TheVariants as got
use Rattle.tb_edge.specs.declared.clock.Beat.{Beat}
use Rattle.tb_edge.specs.declared.clock.Beat.TheVariants as beat

-- the items that an inlet gave, and whether it is over
pub record InletView : Type 0 where
  pub gave : List Given
  pub over : Bool

-- the items that an answer gives, if this line is in the buffer; a failure is the end of the tool
abbrev pub given_by : Got → List ℕ → List Given
given_by got.Line line = given.Line line ∷ []
given_by got.Long line = given.Long ∷ []
given_by got.End line = given.End ∷ []
given_by got.Failed line = given.End ∷ []
given_by got.Over line = []
given_by got.NoMemory line = []

-- the answer says that no more items come
abbrev pub is_over : Got → Bool
is_over got.Line = false
is_over got.Long = false
is_over got.End = false
is_over got.Failed = false
is_over got.Over = true
is_over got.NoMemory = false

-- the report of an inlet after more items, and perhaps its end; an inlet that reports nothing still reports nothing
abbrev pub and_given : Option InletView → List Given → Bool → Option InletView
and_given None more over = None
and_given (Some view) more over = Some (record { gave = view.gave ++ more; over = view.over || over })

-- the report of an inlet after an answer
abbrev pub inlet_after : Option InletView → Got → List ℕ → Option InletView
inlet_after old answer line = and_given old (given_by answer line) (is_over answer)

-- an inlet that is over answers only `Over`
abbrev pub MayGive : Option InletView → Got → Type 0
MayGive old answer = IfSome old (λ view. view.over ≡ true → answer ≡ got.Over)

-- the report of an outlet after more items; an outlet that reports nothing still reports nothing
abbrev pub and_taken : Option (List Taken) → List Taken → Option (List Taken)
and_taken None more = None
and_taken (Some taken) more = Some (taken ++ more)

-- the number of ticks that a clock gave, and whether the clock has ended
pub record ClockView : Type 0 where
  pub ticks : ℕ
  pub ended : Bool

-- the number of ticks that an answer gives
abbrev pub ticks_by : Beat → ℕ
ticks_by beat.Tick = 1
ticks_by beat.End = 0
ticks_by beat.Failed = 0

-- the answer says that no more ticks come
abbrev pub ends_by : Beat → Bool
ends_by beat.Tick = false
ends_by beat.End = true
ends_by beat.Failed = false

-- the report of a clock after more ticks, and perhaps its end; a clock that reports nothing still reports nothing
abbrev pub and_ticked : Option ClockView → ℕ → Bool → Option ClockView
and_ticked None more ended = None
and_ticked (Some view) more ended = Some (record { ticks = view.ticks + more; ended = view.ended || ended })

-- the report of a clock after an answer
abbrev pub clock_after : Option ClockView → Beat → Option ClockView
clock_after old answer = and_ticked old (ticks_by answer) (ends_by answer)

-- a clock that reports that it has ended
abbrev pub has_ended : Option ClockView → Type 0
has_ended None = ⊥
has_ended (Some view) = view.ended ≡ true

-- a clock that has ended answers only `End`
abbrev pub MayBeat : Option ClockView → Beat → Type 0
MayBeat old answer = has_ended old → answer ≡ beat.End

-- the number of failed calls of a clock after an answer: unchanged, unless the clock failed
abbrev pub StaysAt : Beat → ℕ → ℕ → Type 0
StaysAt beat.Tick old new = new ≡ old
StaysAt beat.End old new = new ≡ old
StaysAt beat.Failed old new = ⊤
