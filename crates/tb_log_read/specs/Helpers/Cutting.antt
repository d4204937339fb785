-- Bytes, split at the first separator.
use Rattle.std.specs.Prelude.{ℕ, ◌-◌, ◌==◌, List, [], ◌∷◌, length, take, if◌then◌else◌}

-- the bytes before the first separator, or all bytes if there is none
abbrev pub prefix : ℕ → List ℕ → List ℕ
prefix separator [] = []
prefix separator (byte ∷ bytes) = if byte == separator then [] else byte ∷ prefix separator bytes

-- the bytes after the first separator, or no bytes if there is none
abbrev pub behind : ℕ → List ℕ → List ℕ
behind separator [] = []
behind separator (byte ∷ bytes) = if byte == separator then bytes else behind separator bytes

-- all bytes except the last one
abbrev pub without_last : List ℕ → List ℕ
without_last bytes = take (length bytes - 1) bytes
