-- The lines that a tool receives by a log, and the lines that the program takes from the tool by the log.
use Rattle.std.specs.Prelude.{ℕ, List, [], ◌∷◌, Contains, IsSome, codes, if◌then◌else◌}
use Rattle.std.specs.List.{flat_map}
use Rattle.tb_terms.specs.declared.term.Term.{Term}
use Rattle.tb_terms.specs.declared.term.Term.TheVariants.{Appl}
use Rattle.tb_terms.specs.declared.sort.Sort.TheVariants.{Tool}
use Rattle.tb_terms.specs.declared.pattern.Pattern.{Pattern}
use Rattle.tb_terms.specs.Sorts.{has_sort}
use Rattle.tb_match.specs.Matches.{match_term}
use Rattle.tb_log.specs.declared.entry.Entry.{Entry}
use Rattle.tb_log.specs.declared.entry.Entry.TheVariants.{Did, Quiet, Fed, Gave}
use Rattle.tb_log.specs.declared.entry.LabelKind.{LabelKind}
use Rattle.tb_log.specs.declared.entry.LabelKind.TheVariants as kind

-- the line with this word and all terms except the first, if the first term is a tool of this name
abbrev pub line_if : List ℕ → List ℕ → List Term → List Term
line_if tool word [] = []
line_if tool word (first ∷ terms) = if has_sort first (Tool tool) then Appl word terms ∷ [] else []

-- the line with the reason of a shutdown
abbrev pub last_line : List Term → List Term
last_line reason = Appl (codes "rec-terminate") reason ∷ []

-- The line that a tool of this name receives by a step with these terms: one equation for each kind of step.
abbrev pub told_as : List ℕ → LabelKind → List Term → List Term
told_as tool kind.SndEval terms = line_if tool (codes "rec-eval") terms
told_as tool kind.SndDo terms = line_if tool (codes "rec-do") terms
told_as tool kind.SndAckEvent terms = line_if tool (codes "rec-ack-event") terms
told_as tool kind.SndTerminate terms = line_if tool (codes "rec-terminate") terms
told_as tool kind.Shutdown terms = last_line terms
told_as tool kind.Finish terms = last_line (Appl (codes "finish") [] ∷ [])
told_as tool kind.Halt terms = last_line (Appl (codes "halt") [] ∷ [])
told_as tool _ terms = []

-- The line that a step with these terms takes from a tool of this name: one equation for each kind of step.
abbrev pub heard_as : List ℕ → LabelKind → List Term → List Term
heard_as tool kind.RecValue terms = line_if tool (codes "snd-value") terms
heard_as tool kind.RecEvent terms = line_if tool (codes "snd-event") terms
heard_as tool kind.RecConnect [] = []
heard_as tool kind.RecConnect (first ∷ terms) = if has_sort first (Tool tool) then Appl (codes "snd-connect") (Appl tool [] ∷ []) ∷ [] else []
heard_as tool _ terms = []

abbrev pub told_by : List ℕ → Entry → List Term
told_by tool (Did label) = told_as tool label.kind label.terms
told_by tool Quiet = []
told_by tool (Fed input reply) = []
told_by tool (Gave lane out) = []

abbrev pub heard_by : List ℕ → Entry → List Term
heard_by tool (Did label) = heard_as tool label.kind label.terms
heard_by tool Quiet = []
heard_by tool (Fed input reply) = []
heard_by tool (Gave lane out) = []

-- The lines that a tool of this name receives by a log, in order.
abbrev pub told : List ℕ → List Entry → List Term
told tool log = flat_map (told_by tool) log

-- The lines that the program takes from a tool of this name by a log, in order.
abbrev pub heard : List ℕ → List Entry → List Term
heard tool log = flat_map (heard_by tool) log

-- the term matches one of these patterns
pub record MatchesOne (patterns : List Pattern) (term : Term) : Type 0 where
  pub pattern : Pattern
  pub among : Contains patterns pattern
  pub matches : IsSome (match_term pattern term)
