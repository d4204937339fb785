-- The result for a source: its error with its place, or nothing.
use Rattle.std.specs.Prelude.{◌≡◌, ℕ, List, [], ◌∷◌, ◌++◌, Option, Some, None, codes}
use Rattle.tb_body.specs.declared.program.Program.{Program}
use Rattle.tb_script.specs.Findings.{IsFound, Program'}
use Rattle.tb_script.specs.Loading.{HasFault}
use Rattle.tb_fault_place.specs.FaultNames.{fault_name}
use Rattle.tb_fault_place.specs.Standing.{StandsAt, place_text, spot_of_mark}
use Rattle.tb_fault_place.specs.declared.point.Point.{Point}

-- The source has this error and no other, as `toolbus check` reports it, and the error's place is at these bytes. If there are
-- several cycles of calls, the error may name any of them.
pub record IsPoint (text : List ℕ) (point : Point) : Type 0 where
  pub has_fault : HasFault text point.fault
  pub stands : StandsAt text point.fault point.mark

-- `None`: the source has a program. A point: the source has this error, and so it has no program.
abbrev pub IsAnswer : List ℕ → Option Point → Type 0
IsAnswer text None = (program : Program) × IsFound text (Program' program)
IsAnswer text (Some point) = IsPoint text point

-- The lines begin with the place and the name of the error, each with a colon and a space after it, and end with a newline.
abbrev pub TellsFault : List ℕ → List ℕ → Point → List ℕ → Type 0
TellsFault name text point lines =
    (rest : List ℕ) × (lines ≡ place_text name (spot_of_mark text point.mark) ++ fault_name point.fault ++ codes ": " ++ rest ++ 10 ∷ [])
