-- The inboxes of the running processes, and the processes without their inboxes.
use Rattle.std.specs.Prelude.{◌≡◌, ◌<◌, ℕ, List, [], ◌∷◌, map, length, slice_index_or, slice_set, if◌then◌else◌}
use Rattle.tb_terms.specs.declared.term.Term.{Term}
use Rattle.tb_notes.specs.Inboxes.{Held, HasRoom, nothing, wants, with_note}
use Rattle.tb_search.specs.declared.living.Living.{Living}

-- the subscriptions and notes of each process
abbrev pub helds_of : {W : Type 0} → List (Living W) → List Held
helds_of all = map (λ living. living.inbox.held) all

abbrev pub held_at : {W : Type 0} → List (Living W) → ℕ → Held
held_at all at = slice_index_or (helds_of all) at nothing

-- the number of further notes for which each inbox has memory
abbrev pub spares_of : {W : Type 0} → List (Living W) → List ℕ
spares_of all = map (λ living. living.inbox.spare) all

abbrev pub spare_at : {W : Type 0} → List (Living W) → ℕ → ℕ
spare_at all at = slice_index_or (spares_of all) at 0

-- a running process with an empty inbox in place of its own
abbrev pub bare : {W : Type 0} → Living W → Living W
bare living = record living { inbox = record { held = nothing; spare = 0 } }

abbrev pub bares_of : {W : Type 0} → List (Living W) → List (Living W)
bares_of all = map bare all

-- The inbox of the process at an index has these contents now. Otherwise, only the reserved memory of inboxes may change.
pub record IsHeldAt {W : Type 0} (old : List (Living W)) (at : ℕ) (held : Held) (new : List (Living W)) : Type 0 where
  pub bares : bares_of new ≡ bares_of old
  pub helds : helds_of new ≡ slice_set (helds_of old) at held

-- The inboxes have the same contents. Only the reserved memory of inboxes may change.
pub record HoldTheSame {W : Type 0} (old new : List (Living W)) : Type 0 where
  pub bares : bares_of new ≡ bares_of old
  pub helds : helds_of new ≡ helds_of old

-- the process at an index exists, and its inbox has capacity and memory for one more note
pub record CanTake {W : Type 0} (all : List (Living W)) (at : ℕ) : Type 0 where
  pub within : at < length all
  pub room : HasRoom (held_at all at)
  pub spare : 0 < spare_at all at

-- the inboxes after the inbox at an index receives a note
abbrev pub put : List Term → ℕ → List Held → List Held
put note at helds = slice_set helds at (with_note note (slice_index_or helds at nothing))

-- the inboxes after each inbox at these indices receives a note, from the last index to the first
abbrev pub put_each : List Term → List ℕ → List Held → List Held
put_each note [] helds = helds
put_each note (at ∷ indices) helds = put note at (put_each note indices helds)

-- an inbox after it receives a note, if it wants the note
abbrev pub with_given : List Term → Held → Held
with_given note held = if wants held note then with_note note held else held
