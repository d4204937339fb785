-- The text of a pattern, and the text of an interface.
use Rattle.std.specs.Prelude.{ℕ, List, [], ◌∷◌, ◌++◌, Option, Some, None, unwrap_or, codes}
use Rattle.std.specs.List.{flat_map}
use Rattle.tb_terms.specs.Texts.{appl_text, list_text, quoted, term_text}
use Rattle.tb_terms.specs.declared.sort.Sort.{Sort}
use Rattle.tb_terms.specs.declared.sort.Sort.TheOpen as sort
use Rattle.tb_terms.specs.declared.sort.Sort.TheFolds.{fold-Sort}
use Rattle.tb_terms.specs.declared.pattern.Pattern.{Pattern}
use Rattle.tb_terms.specs.declared.pattern.Pattern.TheOpen.{Pattern-F, Fixed, Hole, Result, Appl, List as ListOf}
use Rattle.tb_terms.specs.declared.pattern.Pattern.TheFolds.{fold-Pattern}
use Rattle.tb_iface.specs.declared.answer.Interface.{Interface}

-- the text of a type, from the texts of its parts: none for the type of all terms; a list of any terms is `list` alone
abbrev pub type_step : sort.Sort-F (Option (List ℕ)) → Option (List ℕ)
type_step sort.Bool = Some (codes "bool")
type_step sort.Int = Some (codes "int")
type_step sort.Str = Some (codes "str")
type_step (sort.List None) = Some (codes "list")
type_step (sort.List (Some members)) = Some (appl_text (codes "list") (members ∷ []))
type_step sort.Any = None
type_step (sort.Tool name) = Some name

-- the text of a type; `term` for the type of all terms
abbrev pub sort_text : Sort → List ℕ
sort_text sort = unwrap_or (fold-Sort (Option (List ℕ)) type_step sort) (codes "term")

-- the text of a hole: its type in angle brackets
abbrev pub placeholder_text : Sort → List ℕ
placeholder_text sort = 60 ∷ sort_text sort ++ 62 ∷ []

-- the text of a pattern, from the texts of its parts, in the syntax of terms
abbrev pub pattern_text_step : Pattern-F (List ℕ) → List ℕ
pattern_text_step (Fixed term) = term_text term
pattern_text_step (Hole sort) = placeholder_text sort
pattern_text_step (Result slot sort) = placeholder_text sort
pattern_text_step (Appl name parts) = appl_text name parts
pattern_text_step (ListOf parts) = list_text parts

abbrev pub pattern_text : Pattern → List ℕ
pattern_text = fold-Pattern (List ℕ) pattern_text_step

-- a space and the command of a tool as a string; empty if the tool has no command
abbrev pub command_words : Option (List ℕ) → List ℕ
command_words None = []
command_words (Some command) = 32 ∷ quoted command

-- a line for each pattern: this word and the text of the pattern
abbrev pub pattern_lines : List ℕ → List Pattern → List ℕ
pattern_lines word patterns = flat_map (λ pattern. word ++ pattern_text pattern ++ 10 ∷ []) patterns

-- the text of an interface: a line for the tool, then the lines that it may receive, then the lines that a process may take from it
abbrev pub interface_text : List ℕ → Interface → List ℕ
interface_text tool interface =
    codes "tool " ++ tool ++ command_words interface.command ++ 10 ∷ pattern_lines (codes "to ") interface.to ++ pattern_lines (codes "from ") interface.from
