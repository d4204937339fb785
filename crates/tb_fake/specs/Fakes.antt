-- The behavior of the lane ends for tests: an inlet gives its cues in order, and an outlet takes the items that fit.
use Rattle.std.specs.Prelude.{◌≡◌, ℕ, ◌+◌, ◌-◌, ◌==◌, ◌≤◌, nat_le, nat_lt, Bool, true, false, not, ◌&&◌, if◌then◌else◌, Some, List, [], ◌∷◌, ◌++◌, map, take, length, slice_get, ⊤}
use Rattle.std.specs.List.{filter}
use Rattle.tb_edge.specs.Faults.{risen}
use Rattle.tb_edge.specs.InMemory.{fails_at}
use Rattle.tb_edge.specs.Ends.{InletView}
use Rattle.tb_edge.specs.declared.given.Given.{Given}
use Rattle.tb_edge.specs.declared.given.Given.TheVariants as given
use Rattle.tb_edge.specs.declared.given.Taken.{Taken}
use Rattle.tb_edge.specs.declared.given.Taken.TheVariants as taken
use Rattle.tb_edge.specs.declared.inlet.Got.{Got}
use Rattle.tb_edge.specs.declared.inlet.Got.TheVariants as got
use Rattle.tb_fake.specs.declared.cue.Cue.{Cue}
use Rattle.tb_fake.specs.declared.cue.Fail.{Fail}
use Rattle.tb_fake.specs.declared.record.Kind.{Kind}
use Rattle.tb_fake.specs.declared.record.Kind.TheVariants as kind

-- the cues of a lane, in order
abbrev pub cues_on : ℕ → List Cue → List Cue
cues_on lane cues = filter (λ cue. cue.lane == lane) cues

-- the numbers of the calls of a lane's outlet that must fail
abbrev pub fails_on : ℕ → List Fail → List ℕ
fails_on lane fails = map (λ fail. fail.call) (filter (λ fail. fail.lane == lane) fails)

-- the given form of an item: a line of more than 65,536 bytes is given as a line that is too long
abbrev pub given_of : Given → Given
given_of (given.Line bytes) = if nat_le (length bytes) 65536 then given.Line bytes else given.Long
given_of given.Long = given.Long
given_of given.End = given.End

-- a `FakeInlet`: its cues, the number of given cues, and whether it is over
pub record FakeInletView : Type 0 where
  pub cues : List Cue
  pub given : ℕ
  pub over : Bool

-- the report of an inlet: the items of its given cues, which are a prefix of its cues, and whether it is over
abbrev pub gave_by : FakeInletView → InletView
gave_by inlet = record { gave = map (λ cue. given_of cue.gives) (take inlet.given inlet.cues); over = inlet.over }

-- this answer, with this line in the buffer, gives the cue's item, or memory ran out
abbrev pub IsGiving : Cue → Got → List ℕ → Type 0
IsGiving cue got.Line line = (given_of cue.gives ≡ given.Line line) × (length line ≤ 65536)
IsGiving cue got.Long line = given_of cue.gives ≡ given.Long
IsGiving cue got.End line = given_of cue.gives ≡ given.End
IsGiving cue got.Over line = ⊥
IsGiving cue got.Failed line = ⊥
IsGiving cue got.NoMemory line = ⊤

-- this is the next cue of an inlet that isn't over
abbrev pub IsCued : FakeInletView → Cue → Type 0
IsCued inlet cue = (inlet.over ≡ false) × (slice_get inlet.cues inlet.given ≡ Some cue)

-- the inlet gives its next cue, or answers that it is over, or runs out of memory (only if it isn't over); it never fails
abbrev pub IsNext : FakeInletView → Got → List ℕ → Type 0
IsNext inlet got.Line line = (cue : Cue) × IsCued inlet cue × IsGiving cue got.Line line
IsNext inlet got.Long line = (cue : Cue) × IsCued inlet cue × IsGiving cue got.Long line
IsNext inlet got.End line = (cue : Cue) × IsCued inlet cue × IsGiving cue got.End line
IsNext inlet got.Over line = ⊤
IsNext inlet got.Failed line = ⊥
IsNext inlet got.NoMemory line = inlet.over ≡ false

-- the inlet after an answer
abbrev pub inlet_next : Got → FakeInletView → FakeInletView
inlet_next got.Line inlet = record inlet { given = inlet.given + 1 }
inlet_next got.Long inlet = record inlet { given = inlet.given + 1 }
inlet_next got.End inlet = record inlet { given = inlet.given + 1 }
inlet_next got.Over inlet = record inlet { over = true }
inlet_next got.Failed inlet = inlet
inlet_next got.NoMemory inlet = inlet

-- an item of this kind with these bytes
abbrev pub taken_by : Kind → List ℕ → Taken
taken_by kind.Start bytes = taken.Start bytes
taken_by kind.Line bytes = taken.Line bytes
taken_by kind.End bytes = taken.End

-- a `FakeOutlet`: the taken items; the free capacity in items and in bytes; the calls of `begin` and `line` that must fail; the number of
-- these calls so far, and how many of them failed
pub record FakeOutletView : Type 0 where
  pub taken : List Taken
  pub items : ℕ
  pub bytes : ℕ
  pub fails : List ℕ
  pub calls : ℕ
  pub faults : ℕ

-- whether a call takes an item of this size: the call isn't to fail, and the item fits
abbrev pub takes : FakeOutletView → ℕ → Bool
takes outlet size = not (fails_at outlet.fails (risen outlet.calls)) && (nat_lt 0 outlet.items && nat_le size outlet.bytes)

-- the outlet after it took an item of this size
abbrev pub outlet_with : FakeOutletView → Taken → ℕ → FakeOutletView
outlet_with outlet item size = record outlet { taken = outlet.taken ++ item ∷ []; items = outlet.items - 1; bytes = outlet.bytes - size }

-- the outlet after a call of `begin` or `line` with an item of this size
abbrev pub outlet_after : FakeOutletView → Taken → ℕ → FakeOutletView
outlet_after outlet item size =
    if takes outlet size then outlet_with (record outlet { calls = risen outlet.calls }) item size
    else record outlet { calls = risen outlet.calls; faults = risen outlet.faults }
