-- The number or the place that digits represent. A number that is too large for its type becomes the greatest number of the type.
use Rattle.std.specs.Prelude.{ℕ, ◌-◌, ◌^◌, List, min}
use Rattle.tb_read.specs.Spelling.{digits_value}
use Rattle.tb_log.specs.declared.entry.Place.{Place}
use Rattle.tb_log_read.specs.Helpers.Cutting.{prefix, behind}

abbrev pub number64 : List ℕ → ℕ
number64 digits = min (digits_value digits) (2 ^ 64 - 1)

abbrev pub number32 : List ℕ → ℕ
number32 digits = min (number64 digits) (2 ^ 32 - 1)

abbrev pub number8 : List ℕ → ℕ
number8 digits = min (number64 digits) (2 ^ 8 - 1)

-- a place: two numbers with a point between them
abbrev pub place_of : List ℕ → Place
place_of word = record { proc = number32 (prefix 46 word); atom = number32 (behind 46 word) }
