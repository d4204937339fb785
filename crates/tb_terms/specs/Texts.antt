-- The text of a term, and the texts of terms joined by commas.
use Rattle.std.specs.Prelude.{ℕ, List, [], ◌∷◌, ◌++◌, map, Option, Some, None, ◌==◌, if◌then◌else◌}
use Rattle.std.specs.List.{join_with_byte, flat_map}
use Rattle.std.specs.Fmt.{signed_decimal}
use Rattle.tb_terms.specs.declared.term.Term.{Term}
use Rattle.tb_terms.specs.declared.term.Term.TheOpen.{Term-F, Int, Str, Appl, List as ListOf}
use Rattle.tb_terms.specs.declared.term.Term.TheFolds.{fold-Term}

-- the letter that represents this byte after a backslash, or none if the byte is written as it is
abbrev pub escape_letter : ℕ → Option ℕ
escape_letter byte =
    if byte == 92 then Some 92
    else (if byte == 34 then Some 34
    else (if byte == 10 then Some 110
    else (if byte == 13 then Some 114
    else (if byte == 9 then Some 116 else None))))

abbrev pub with_letter : ℕ → Option ℕ → List ℕ
with_letter byte None = byte ∷ []
with_letter byte (Some letter) = 92 ∷ letter ∷ []

abbrev pub escaped : ℕ → List ℕ
escaped byte = with_letter byte (escape_letter byte)

abbrev pub quoted : List ℕ → List ℕ
quoted bytes = 34 ∷ flat_map escaped bytes ++ 34 ∷ []

-- texts, joined by commas
abbrev pub joined : List (List ℕ) → List ℕ
joined texts = join_with_byte 44 texts

-- the text of a name with arguments, given the texts of these: without arguments, the name alone
abbrev pub appl_text : List ℕ → List (List ℕ) → List ℕ
appl_text name [] = name
appl_text name (part ∷ parts) = name ++ 40 ∷ joined (part ∷ parts) ++ 41 ∷ []

abbrev pub list_text : List (List ℕ) → List ℕ
list_text parts = 91 ∷ joined parts ++ 93 ∷ []

-- the text of one node, given the texts of its parts
abbrev pub text_step : Term-F (List ℕ) → List ℕ
text_step (Int number) = signed_decimal number
text_step (Str bytes) = quoted bytes
text_step (Appl name parts) = appl_text name parts
text_step (ListOf parts) = list_text parts

abbrev pub term_text : Term → List ℕ
term_text = fold-Term (List ℕ) text_step

abbrev pub terms_text : List Term → List ℕ
terms_text terms = joined (map term_text terms)
