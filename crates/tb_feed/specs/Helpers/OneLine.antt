-- What is found of one line and of its lane; no public contract cites it.
use Rattle.std.specs.Prelude.{◌≡◌, ◌==◌, ℕ, Bool, not, List, Option}
use Rattle.std.specs.List.{list_all}
use Rattle.std.specs.Option.{MatchOption}
use Rattle.std.specs.Fmt.{decimal}
use Rattle.tb_log.specs.Shapes.{IsLane}
use Rattle.tb_log.specs.declared.entry.Input.{Input}
use Rattle.tb_feed.specs.Feeds.{Says}

-- the input that a line says; none where it says none
abbrev pub IsSaid : List ℕ → Option Input → Type 0
IsSaid line said = MatchOption said ((input : Input) → Says line input → ⊥) (Says line)

-- the lane whose number the bytes are; none where they are none of a lane
abbrev pub IsNumberOf : List ℕ → Option ℕ → Type 0
IsNumberOf bytes lane = MatchOption lane ((lane : ℕ) → IsLane lane → bytes ≡ decimal lane → ⊥) (λ lane. IsLane lane × (bytes ≡ decimal lane))

-- none of the bytes is a blank, byte 32
abbrev pub lacks_blank : List ℕ → Bool
lacks_blank bytes = list_all (λ byte. not (byte == 32)) bytes
