-- The definition of the oldest note that matches.
use Rattle.std.specs.Prelude.{◌≡◌, ◌<◌, ℕ, List, slice_get, Option, Some, None, option_and_then}
use Rattle.tb_terms.specs.declared.term.Term.{Term}
use Rattle.tb_terms.specs.declared.pattern.Pattern.{Pattern}
use Rattle.tb_match.specs.declared.bind.Bind.{Bind}
use Rattle.tb_match.specs.Matches.{match_list}
use Rattle.tb_notes.specs.declared.queue.Found.{Found}

-- the binds of the note at this position, or none if there is no note or it doesn't match
abbrev pub binds_at : List Pattern → List (List Term) → ℕ → Option (List Bind)
binds_at patterns notes place = option_and_then (match_list patterns) (slice_get notes place)

-- no note of the queue matches
abbrev pub NoneMatches : List Pattern → List (List Term) → Type 0
NoneMatches patterns notes = (place : ℕ) → binds_at patterns notes place ≡ None

-- the note at this position matches with these binds, and no earlier note matches
abbrev pub IsOldest : List Pattern → List (List Term) → Found → Type 0
IsOldest patterns notes found =
    (binds_at patterns notes found.place ≡ Some found.binds)
    × ((place : ℕ) → place < found.place → binds_at patterns notes place ≡ None)
