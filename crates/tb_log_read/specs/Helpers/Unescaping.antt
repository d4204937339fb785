-- The bytes of a string that is written without its quotes.
use Rattle.std.specs.Prelude.{ℕ, Bool, true, false, ◌==◌, List, [], ◌∷◌, if◌then◌else◌}

-- the byte that a letter represents after a backslash
abbrev pub letter_byte : ℕ → ℕ
letter_byte letter =
    if letter == 110 then 10 else (if letter == 114 then 13 else (if letter == 116 then 9 else letter))

-- the bytes of a string from here on; `true` means that the last byte was a backslash that begins an escape
abbrev pub unescaped_from : Bool → List ℕ → List ℕ
unescaped_from is_escaped [] = []
unescaped_from true (byte ∷ bytes) = letter_byte byte ∷ unescaped_from false bytes
unescaped_from false (byte ∷ bytes) =
    if byte == 92 then unescaped_from true bytes else byte ∷ unescaped_from false bytes
