-- The text that `printf` prints: the bytes of its format, with the text of the next argument for each `%` and letter, and `%` for `%%`.
use Rattle.std.specs.Prelude.{ℕ, ◌==◌, Bool, true, false, List, [], ◌∷◌, ◌++◌, Option, Some, None, option_map, option_and_then, if◌then◌else◌}
use Rattle.std.specs.Fmt.{signed_decimal}
use Rattle.tb_terms.specs.declared.term.Term.{Term, out-Term}
use Rattle.tb_terms.specs.declared.term.Term.TheOpen.{Term-F, Int, Str, Appl, List as ListOf}
use Rattle.tb_terms.specs.declared.term.Term.TheVariants as term
use Rattle.tb_terms.specs.Texts.{term_text}
use Rattle.tb_func.specs.Arguments.{int_of, of_both}
use Rattle.tb_func.specs.Limits.{limited}

abbrev pub str_in : Term-F Term → Option (List ℕ)
str_in (Int number) = None
str_in (Str bytes) = Some bytes
str_in (Appl name parts) = None
str_in (ListOf parts) = None

abbrev pub str_of : Term → Option (List ℕ)
str_of t = str_in (out-Term t)

-- the argument as the letter requires: `d` for a number in decimal, `s` for a string as it is, `t` for the text of any term
abbrev pub shown : ℕ → Term → Option (List ℕ)
shown letter t =
    if letter == 100 then option_map signed_decimal (int_of t)
    else (if letter == 115 then str_of t
    else (if letter == 116 then Some (term_text t) else None))

abbrev pub prefixed : Option (List ℕ) → Option (List ℕ) → Option (List ℕ)
prefixed bytes rest = of_both (λ b r. Some (b ++ r)) bytes rest

-- the text of the rest of a format with the rest of the arguments, or none; the flag says that this rest begins with the byte that
-- completes a `%`, as in `%%` or `%d`
abbrev pub printed : Bool → List ℕ → List Term → Option (List ℕ)
printed false [] [] = Some []
printed false [] (t ∷ ts) = None
printed false (c ∷ cs) ts = if c == 37 then printed true cs ts else prefixed (Some (c ∷ [])) (printed false cs ts)
printed true [] ts = None
printed true (c ∷ cs) [] = if c == 37 then prefixed (Some (37 ∷ [])) (printed false cs []) else None
printed true (c ∷ cs) (t ∷ ts) =
    if c == 37 then prefixed (Some (37 ∷ [])) (printed false cs (t ∷ ts)) else prefixed (shown c t) (printed false cs ts)

abbrev pub format_text : List ℕ → List Term → Option Term
format_text format ts = option_and_then (λ bytes. limited (term.Str bytes)) (printed false format ts)

-- the first argument is the format
abbrev pub printf_of : List Term → Option Term
printf_of [] = None
printf_of (first ∷ others) =
    option_and_then (λ format. format_text format others) (str_of first)
