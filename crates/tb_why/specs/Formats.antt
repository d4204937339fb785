-- The reason why `printf` has no text: the first place of the format that has none.
use Rattle.std.specs.Prelude.{ℕ, ◌+◌, ◌==◌, ◌||◌, Bool, true, false, List, [], ◌∷◌, Option, Some, None, is_some, if◌then◌else◌}
use Rattle.tb_terms.specs.declared.term.Term.{Term}
use Rattle.tb_func.specs.Printing.{shown, str_of}
use Rattle.tb_why.specs.declared.reason.FormatFault.{FormatFault}
use Rattle.tb_why.specs.declared.reason.FormatFault.TheVariants.{NoFormat, NoDirective, TooFew, Differs, Ends, TooMany, TooLong}

-- the letters that print an argument: `d`, `s`, `t`
abbrev pub is_directive : ℕ → Bool
is_directive letter = letter == 100 || letter == 115 || letter == 116

-- the fault of a letter after a `%` for which no argument is left
abbrev pub fault_without : ℕ → FormatFault
fault_without letter = if is_directive letter then TooFew letter else NoDirective letter

-- the fault of a letter after a `%` that doesn't print the argument with this number
abbrev pub fault_with : ℕ → ℕ → FormatFault
fault_with letter number = if is_directive letter then Differs letter number else NoDirective letter

-- The fault of the rest of a format, with the rest of the arguments. The flag states whether a `%` is before the rest, and the number is
-- that of the first argument that is left. If each place has a text, the whole text is too long.
abbrev pub fault_from : Bool → ℕ → List ℕ → List Term → FormatFault
fault_from false number [] [] = TooLong
fault_from false number [] (t ∷ ts) = TooMany number
fault_from false number (c ∷ cs) ts = if c == 37 then fault_from true number cs ts else fault_from false number cs ts
fault_from true number [] ts = Ends
fault_from true number (c ∷ cs) [] = if c == 37 then fault_from false number cs [] else fault_without c
fault_from true number (c ∷ cs) (t ∷ ts) =
    if c == 37 then fault_from false number cs (t ∷ ts)
    else (if is_some (shown c t) then fault_from false (number + 1) cs ts else fault_with c number)

abbrev pub fault_in : Option (List ℕ) → List Term → FormatFault
fault_in None others = NoFormat
fault_in (Some format) others = fault_from false 1 format others

-- the fault of these values: the first is the format, and the others are its arguments
abbrev pub format_fault : List Term → FormatFault
format_fault [] = NoFormat
format_fault (first ∷ others) = fault_in (str_of first) others
