-- The two places of a candidate: the process and atom that begin it, and those that receive. And the candidates at given places.
use Rattle.std.specs.Prelude.{◌≡◌, ◌≢◌, ℕ, ◌+◌, ◌<◌, ◌==◌, ◌&&◌, List, [], ◌∷◌, ◌++◌, map, filter, length, Bool, true, false, if◌then◌else◌, Option, Some, None, option_to_list}
use Rattle.tb_terms.specs.declared.term.Term.{Term}
use Rattle.tb_log.specs.declared.entry.Place.{Place}
use Rattle.tb_bus.specs.Steps.{nowhere}
use Rattle.tb_search.specs.Candidates.{Row, Scene, row_at, reception, partners, finding_of}
use Rattle.tb_search.specs.Views.{ready_at}
use Rattle.tb_bus.specs.declared.action.Action.{Action}
use Rattle.tb_bus.specs.declared.action.Action.TheVariants as action
use Rattle.tb_search.specs.declared.living.Ready.{Ready}
use Rattle.tb_search.specs.declared.candidate.Received.{Received}
use Rattle.tb_search.specs.declared.candidate.Partner.{Partner}
use Rattle.tb_search.specs.declared.candidate.Candidate.{Candidate}
use Rattle.tb_search.specs.declared.candidate.Candidate.TheVariants as candidate

-- the place of an action: the number of its process, and its atom
abbrev pub place_at : List Row → ℕ → ℕ → Place
place_at rows at index = record { proc = (row_at rows at).number; atom = (ready_at rows at index).atom }

-- whether two places are the same
abbrev pub is_place : Place → Place → Bool
is_place one other = one.proc == other.proc && one.atom == other.atom

-- whether the receiver is at this place
abbrev pub is_partner_at : List Row → Place → Partner → Bool
is_partner_at rows to partner = is_place (place_at rows partner.living partner.received.action) to

-- A candidate has two places: where it begins, and where it is received. An action that a process does by itself is received nowhere.
-- The end of the bus has no place.
abbrev pub is_at : List Row → Place → Place → Candidate → Bool
is_at rows from to (candidate.Own at index found) = is_place (place_at rows at index) from && is_place nowhere to
is_at rows from to (candidate.Handshake at index partner) = is_place (place_at rows at index) from && is_partner_at rows to partner
is_at rows from to candidate.Finish = false
is_at rows from to candidate.Halt = false

-- the index of a row with this number, or none
abbrev pub IsPlaceWith : ℕ → List Row → Option ℕ → Type 0
IsPlaceWith number rows None = (place : ℕ) → place < length rows → (row_at rows place).number ≢ number
IsPlaceWith number rows (Some place) = (place < length rows) × ((row_at rows place).number ≡ number)

-- the action with its binds, if it has this atom and receives the terms
abbrev pub received_by : ℕ → List Term → ℕ → Ready → List Received
received_by atom terms index ready = if ready.atom == atom then reception terms index ready.action else []

-- the actions with this atom that receive the terms, if the first action has this index
abbrev pub receptions_at : ℕ → List Term → ℕ → List Ready → List Received
receptions_at atom terms index [] = []
receptions_at atom terms index (ready ∷ others) = received_by atom terms index ready ++ receptions_at atom terms (index + 1) others

-- the candidates of an action that are received at a place
abbrev pub candidates_to : Scene → Place → ℕ → Row → ℕ → Action → List Candidate
candidates_to scene to at row index (action.Own own) = if is_place nowhere to then map (candidate.Own at index) (option_to_list (finding_of scene row own)) else []
candidates_to scene to at row index (action.Send terms) = map (candidate.Handshake at index) (filter (is_partner_at scene.rows to) (partners row.number terms 0 scene.rows))
candidates_to scene to at row index (action.Receive patterns) = []

-- the candidates of an action that are received at a place, if the action has this atom
abbrev pub candidates_with : Scene → ℕ → Place → ℕ → Row → ℕ → Ready → List Candidate
candidates_with scene atom to at row index ready = if ready.atom == atom then candidates_to scene to at row index ready.action else []

-- the candidates, received at a place, of the actions with this atom, if the first action has this index
abbrev pub named_among : Scene → ℕ → Place → ℕ → Row → ℕ → List Ready → List Candidate
named_among scene atom to at row index [] = []
named_among scene atom to at row index (ready ∷ others) = candidates_with scene atom to at row index ready ++ named_among scene atom to at row (index + 1) others
