-- Lines that are the place, the name of the error, a rest and a newline state the error.
use Rattle.std.proofs.Common.{◌≡◌, ℕ, List, [], ◌∷◌, ◌++◌, codes}
use Rattle.tb_fault_place.specs.FaultNames.{fault_name}
use Rattle.tb_fault_place.specs.Points.{TellsFault}
use Rattle.tb_fault_place.specs.Standing.{place_text, spot_of_mark}
use Rattle.tb_fault_place.specs.declared.point.Point.{Point}

pub tells : (name text : List ℕ) (point : Point) (rest lines : List ℕ)
    → lines ≡ place_text name (spot_of_mark text point.mark) ++ fault_name point.fault ++ codes ": " ++ rest ++ 10 ∷ []
    → TellsFault name text point lines
tells name text point rest lines is = (rest, is)
