-- Which terms agree with a pattern under given binds, and which binds are among others.
use Rattle.std.specs.Prelude.{◌≡◌, ℕ, Bool, true, false, ◌&&◌, List, [], ◌∷◌, map, Option, Some, None}
use Rattle.std.specs.Str.{bytes_eq}
use Rattle.tb_terms.specs.declared.term.Term.{Term, out-Term}
use Rattle.tb_terms.specs.declared.term.Term.TheOpen as term
use Rattle.tb_terms.specs.declared.pattern.Pattern.{Pattern}
use Rattle.tb_terms.specs.declared.pattern.Pattern.TheOpen as pattern
use Rattle.tb_terms.specs.declared.pattern.Pattern.TheFolds.{fold-Pattern}
use Rattle.tb_terms.specs.Same.{is_same_term}
use Rattle.tb_terms.specs.Sorts.{has_sort}
use Rattle.tb_match.specs.declared.bind.Bind.{Bind}
use Rattle.tb_match.specs.Joining.{bound}

abbrev pub Agreeing : Type 0
Agreeing = Term → Bool

-- as many terms as parts, each of which agrees with its part
abbrev pub all_agree : List Agreeing → List Term → Bool
all_agree [] [] = true
all_agree [] (term ∷ terms) = false
all_agree (part ∷ parts) [] = false
all_agree (part ∷ parts) (term ∷ terms) = part term && all_agree parts terms

abbrev pub appl_agrees : List ℕ → List Agreeing → term.Term-F Term → Bool
appl_agrees name parts (term.Int number) = false
appl_agrees name parts (term.Str bytes) = false
appl_agrees name parts (term.Appl other terms) = bytes_eq name other && all_agree parts terms
appl_agrees name parts (term.List terms) = false

abbrev pub members_agree : List Agreeing → term.Term-F Term → Bool
members_agree parts (term.Int number) = false
members_agree parts (term.Str bytes) = false
members_agree parts (term.Appl name terms) = false
members_agree parts (term.List terms) = all_agree parts terms

abbrev pub is_value : Option Term → Term → Bool
is_value None term = false
is_value (Some value) term = is_same_term value term

-- a variable represents the term that its slot is bound to; this term has the type of the variable
abbrev pub agree_step : List Bind → pattern.Pattern-F Agreeing → Agreeing
agree_step binds (pattern.Fixed fixed) term = is_same_term fixed term
agree_step binds (pattern.Hole sort) term = has_sort term sort
agree_step binds (pattern.Result slot sort) term = has_sort term sort && is_value (bound slot binds) term
agree_step binds (pattern.Appl name parts) term = appl_agrees name parts (out-Term term)
agree_step binds (pattern.List parts) term = members_agree parts (out-Term term)

abbrev pub agrees : List Bind → Pattern → Term → Bool
agrees binds = fold-Pattern Agreeing (agree_step binds)

abbrev pub list_agrees : List Bind → List Pattern → List Term → Bool
list_agrees binds patterns terms = all_agree (map (agrees binds) patterns) terms

-- the others bind the slot of each of these binds to the same term
abbrev pub AreAmong : List Bind → List Bind → Type 0
AreAmong [] others = Unit {0}
AreAmong (bind ∷ binds) others = (bound bind.slot others ≡ Some bind.value) × AreAmong binds others
