-- Whitespace and comments.
use Rattle.std.specs.Prelude.{◌≡◌, ℕ, Bool, not, ◌==◌, List, [], ◌∷◌, ◌++◌, IsTrue, ◌⊎◌}
use Rattle.std.specs.List.{list_all}
use Rattle.tb_read.specs.Spelling.{is_blank}

abbrev pub is_within_line : ℕ → Bool
is_within_line byte = not (byte == 10)

-- two percent signs and any bytes after them on the same line
abbrev pub IsComment : List ℕ → Type 0
IsComment text = (line : List ℕ) × (text ≡ 37 ∷ 37 ∷ line) × IsTrue (list_all is_within_line line)

-- a whitespace byte, or a comment with the newline (LF) that ends it
abbrev pub IsGapPart : List ℕ → Type 0
IsGapPart part =
    ((blank : ℕ) × IsTrue (is_blank blank) × (part ≡ blank ∷ []))
    ⊎ ((comment : List ℕ) × IsComment comment × (part ≡ comment ++ 10 ∷ []))

-- the bytes are these parts, one after the other
abbrev pub InParts : List (List ℕ) → List ℕ → Type 0
InParts [] bytes = bytes ≡ []
InParts (part ∷ parts) bytes = (rest : List ℕ) × (bytes ≡ part ++ rest) × IsGapPart part × InParts parts rest

-- whitespace and comments alone
abbrev pub IsGap : List ℕ → Type 0
IsGap bytes = (parts : List (List ℕ)) × InParts parts bytes

-- whitespace and comments alone up to the end of the source, which can end within a comment
abbrev pub IsLast : List ℕ → Type 0
IsLast bytes = IsGap bytes ⊎ ((gap : List ℕ) × (comment : List ℕ) × (bytes ≡ gap ++ comment) × IsGap gap × IsComment comment)
