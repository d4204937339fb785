-- The line and the column of a byte of a text, both counted from 1.
use Rattle.std.specs.Prelude.{ℕ, ◌+◌, ◌==◌, Bool, ◌&&◌, not, nat_le, nat_lt, List, length, filter, take, if◌then◌else◌}
use Rattle.std.specs.List.{fold}
use Rattle.tb_source_map.specs.declared.spot.Spot.{Spot}

-- whether the byte ends a line
abbrev pub is_newline : ℕ → Bool
is_newline byte = byte == 10

-- whether the byte continues a character: in UTF-8 the bytes from 128 to 191 do, and each other byte begins a character
abbrev pub goes_on : ℕ → Bool
goes_on byte = nat_le 128 byte && nat_lt byte 192

-- the line and the column of the first byte
abbrev pub first_spot : Spot
first_spot = record { line = 1; column = 1 }

-- the line and the column of the next byte, by this byte: a newline begins the next line, a byte that continues a character changes
-- nothing, and any other byte adds one column
abbrev pub spot_after : Spot → ℕ → Spot
spot_after spot byte =
    if is_newline byte then record { line = spot.line + 1; column = 1 }
    else (if goes_on byte then spot else record { line = spot.line; column = spot.column + 1 })

-- the line and the column of a byte that comes after these bytes
abbrev pub spot_behind : List ℕ → Spot
spot_behind before = fold spot_after first_spot before

-- the line and the column of the byte at this position
abbrev pub spot_of : List ℕ → ℕ → Spot
spot_of text byte = spot_behind (take byte text)

-- the number of lines that end in the bytes
abbrev pub lines_ended : List ℕ → ℕ
lines_ended bytes = length (filter is_newline bytes)

-- the number of characters that begin in the bytes
abbrev pub characters : List ℕ → ℕ
characters bytes = length (filter (λ byte. not (goes_on byte)) bytes)
