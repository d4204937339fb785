-- The subscriptions of a process and its queue of notes, and the effect of each call on them.
use Rattle.std.specs.Prelude.{◌<◌, ◌≤◌, ◌+◌, ℕ, Bool, List, [], ◌∷◌, ◌++◌, length, remove, Option, Some, None, is_some, IsTrue, if◌then◌else◌}
use Rattle.std.specs.List.{list_any, list_all, IsDistinct}
use Rattle.std.specs.Coded.{coded_list}
use Rattle.tb_terms.specs.declared.term.Term.{Term}
use Rattle.tb_terms.specs.declared.pattern.Pattern.{Pattern}
use Rattle.tb_terms.specs.contracts.pattern.Pattern as pattern
use Rattle.tb_terms.specs.Same.{is_same}
use Rattle.tb_match.specs.declared.bind.Bind.{Bind}
use Rattle.tb_match.specs.Matches.{match_list, are_plain}
use Rattle.tb_notes.specs.declared.queue.Found.{Found}

-- a subscription is a list of patterns, and a note is a list of terms; the oldest note is the first one
pub record Held : Type 0 where
  pub subscriptions : List (List Pattern)
  pub notes : List (List Term)

-- the content of an inbox, and the number of further notes for which it has memory
pub record Contents : Type 0 where
  pub held : Held
  pub spare : ℕ

-- no subscription and no note
abbrev pub nothing : Held
nothing = record { subscriptions = []; notes = [] }

-- whether two lists of patterns are equal
abbrev pub is_same_patterns : List Pattern → List Pattern → Bool
is_same_patterns = is_same (coded_list pattern.the_row.coded)

-- whether a subscription is equal to these patterns
abbrev pub is_among : List Pattern → List (List Pattern) → Bool
is_among patterns subscriptions = list_any (is_same_patterns patterns) subscriptions

-- a subscription is added at the end if no equal one exists
abbrev pub with_subscription : List Pattern → List (List Pattern) → List (List Pattern)
with_subscription patterns subscriptions =
    if is_among patterns subscriptions then subscriptions else subscriptions ++ patterns ∷ []

-- the first equal subscription is removed if there is one
abbrev pub without : List Pattern → List (List Pattern) → List (List Pattern)
without patterns [] = []
without patterns (subscription ∷ others) =
    if is_same_patterns patterns subscription then others else subscription ∷ without patterns others

abbrev pub subscribed : List Pattern → Held → Held
subscribed patterns held = record held { subscriptions = with_subscription patterns held.subscriptions }

-- only the subscriptions change; the notes remain in the queue
abbrev pub unsubscribed : List Pattern → Held → Held
unsubscribed patterns held = record held { subscriptions = without patterns held.subscriptions }

-- whether the patterns match the note
abbrev pub fits : List Term → List Pattern → Bool
fits note patterns = is_some (match_list patterns note)

-- whether some subscription matches the note
abbrev pub wants : Held → List Term → Bool
wants held note = list_any (fits note) held.subscriptions

-- the maximum number of notes in a queue
abbrev pub most_notes : ℕ
most_notes = 65536

-- the queue has capacity for one more note
abbrev pub HasRoom : Held → Type 0
HasRoom held = length held.notes < most_notes

-- the note is added as the last one
abbrev pub with_note : List Term → Held → Held
with_note note held = record held { notes = held.notes ++ note ∷ [] }

abbrev pub found_or : ℕ → Option (List Bind) → Option Found → Option Found
found_or place None later = later
found_or place (Some binds) later = Some (record { place = place; binds = binds })

-- the position of the first note that matches, and its binds, if the first of these notes is at the position `place`
abbrev pub first_match : ℕ → List Pattern → List (List Term) → Option Found
first_match place patterns [] = None
first_match place patterns (note ∷ notes) =
    found_or place (match_list patterns note) (first_match (place + 1) patterns notes)

-- the position of the oldest note that matches, and its binds, or none
abbrev pub oldest_match : List Pattern → Held → Option Found
oldest_match patterns held = first_match 0 patterns held.notes

-- the note at this position is removed; the others keep their order
abbrev pub without_note : ℕ → Held → Held
without_note place held = record held { notes = remove held.notes place }

-- what holds of every inbox: no subscription has a variable that takes a term, no two are equal, and the
-- notes are within the limit
pub record IsInOrder (held : Held) : Type 0 where
  pub plain : IsTrue (list_all are_plain held.subscriptions)
  pub distinct : IsDistinct is_same_patterns held.subscriptions
  pub within : length held.notes ≤ most_notes
