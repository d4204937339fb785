-- Which terms match a pattern, and the binds of a match.
use Rattle.std.specs.Prelude.{ℕ, Bool, true, false, List, [], ◌∷◌, map, Option, Some, None, if◌then◌else◌}
use Rattle.std.specs.List.{list_all}
use Rattle.std.specs.Str.{bytes_eq}
use Rattle.tb_terms.specs.declared.term.Term.{Term, out-Term}
use Rattle.tb_terms.specs.declared.term.Term.TheOpen as term
use Rattle.tb_terms.specs.declared.pattern.Pattern.{Pattern}
use Rattle.tb_terms.specs.declared.pattern.Pattern.TheOpen as pattern
use Rattle.tb_terms.specs.declared.pattern.Pattern.TheFolds.{fold-Pattern}
use Rattle.tb_terms.specs.Same.{is_same_term}
use Rattle.tb_terms.specs.Sorts.{has_sort}
use Rattle.tb_match.specs.declared.bind.Bind.{Bind}
use Rattle.tb_match.specs.Joining.{both}

-- the binds of a term, or none if it doesn't match
abbrev pub Matching : Type 0
Matching = Term → Option (List Bind)

-- as many terms as parts, each of which matches its part, with their binds joined from left to right
abbrev pub match_all : List Matching → List Term → Option (List Bind)
match_all [] [] = Some []
match_all [] (term ∷ terms) = None
match_all (matching ∷ others) [] = None
match_all (matching ∷ others) (term ∷ terms) = both (matching term) (match_all others terms)

abbrev pub match_appl : List ℕ → List Matching → term.Term-F Term → Option (List Bind)
match_appl name parts (term.Int number) = None
match_appl name parts (term.Str bytes) = None
match_appl name parts (term.Appl other terms) = if bytes_eq name other then match_all parts terms else None
match_appl name parts (term.List terms) = None

abbrev pub match_members : List Matching → term.Term-F Term → Option (List Bind)
match_members parts (term.Int number) = None
match_members parts (term.Str bytes) = None
match_members parts (term.Appl name terms) = None
match_members parts (term.List terms) = match_all parts terms

-- a match with these binds, or no match
abbrev pub binds_if : Bool → List Bind → Option (List Bind)
binds_if true binds = Some binds
binds_if false binds = None

abbrev pub match_step : pattern.Pattern-F Matching → Matching
match_step (pattern.Fixed fixed) term = binds_if (is_same_term fixed term) []
match_step (pattern.Hole sort) term = binds_if (has_sort term sort) []
match_step (pattern.Result slot sort) term = binds_if (has_sort term sort) (record { slot = slot; value = term } ∷ [])
match_step (pattern.Appl name parts) term = match_appl name parts (out-Term term)
match_step (pattern.List parts) term = match_members parts (out-Term term)

-- the binds of a term that matches the pattern
abbrev pub match_term : Pattern → Term → Option (List Bind)
match_term = fold-Pattern Matching match_step

-- the binds of terms that match the patterns one by one
abbrev pub match_list : List Pattern → List Term → Option (List Bind)
match_list patterns terms = match_all (map match_term patterns) terms

-- a pattern without result variables
abbrev pub plain_step : pattern.Pattern-F Bool → Bool
plain_step (pattern.Fixed fixed) = true
plain_step (pattern.Hole sort) = true
plain_step (pattern.Result slot sort) = false
plain_step (pattern.Appl name parts) = list_all (λ part. part) parts
plain_step (pattern.List parts) = list_all (λ part. part) parts

abbrev pub is_plain : Pattern → Bool
is_plain = fold-Pattern Bool plain_step

abbrev pub are_plain : List Pattern → Bool
are_plain patterns = list_all (λ part. part) (map is_plain patterns)
