-- The texts of several terms, split on each comma outside brackets and strings.
use Rattle.std.specs.Prelude.{ℕ, suc, ◌+◌, ◌-◌, Bool, false, ◌&&◌, ◌||◌, ◌==◌, List, [], ◌∷◌, Option, Some, None, if◌then◌else◌}
use Rattle.tb_log_read.specs.declared.part.Standing.{Standing}
use Rattle.tb_log_read.specs.declared.part.Standing.TheVariants.{Plain, Quoted, Escaped}

-- the number of open brackets
abbrev pub depth_of : Standing → ℕ
depth_of (Plain depth) = depth
depth_of (Quoted depth) = depth
depth_of (Escaped depth) = depth

-- the state after a byte outside strings
abbrev pub plain_after : ℕ → ℕ → Standing
plain_after depth byte =
    if byte == 34 then Quoted depth
    else (if (byte == 40) || (byte == 91) then Plain (depth + 1)
    else (if (byte == 41) || (byte == 93) then Plain (depth - 1) else Plain depth))

-- the state after a byte
abbrev pub after : Standing → ℕ → Standing
after (Plain depth) byte = plain_after depth byte
after (Quoted depth) byte = if byte == 34 then Plain depth else (if byte == 92 then Escaped depth else Quoted depth)
after (Escaped depth) byte = Quoted depth

-- whether a part ends before this byte
abbrev pub is_cut : Standing → ℕ → Bool
is_cut (Plain depth) byte = (depth == 0) && (byte == 44)
is_cut (Quoted depth) byte = false
is_cut (Escaped depth) byte = false

-- the length of the first part
abbrev pub part_len : Standing → List ℕ → ℕ
part_len standing [] = 0
part_len standing (byte ∷ bytes) = if is_cut standing byte then 0 else suc (part_len (after standing byte) bytes)

-- the byte before the first part
abbrev pub onto : ℕ → List (List ℕ) → List (List ℕ)
onto byte [] = (byte ∷ []) ∷ []
onto byte (part ∷ parts) = (byte ∷ part) ∷ parts

-- the parts, if reading begins in this state
abbrev pub parts_from : Standing → List ℕ → List (List ℕ)
parts_from standing [] = [] ∷ []
parts_from standing (byte ∷ bytes) =
    if is_cut standing byte then [] ∷ parts_from (Plain 0) bytes else onto byte (parts_from (after standing byte) bytes)

-- the parts of bytes
abbrev pub parts : List ℕ → List (List ℕ)
parts bytes = parts_from (Plain 0) bytes

-- the parts after a comma, if there is one
abbrev pub more_parts : Option (List ℕ) → List (List ℕ)
more_parts None = []
more_parts (Some bytes) = parts bytes
