-- Whether an offer of a process takes part in a move of the bus, and which steps show its atom.
use Rattle.std.specs.Prelude.{◌≡◌, ◌⊎◌, Bool, true, false, List, [], ◌∷◌, Option, Some, None, is_some}
use Rattle.std.specs.List.{list_any}
use Rattle.tb_terms.specs.declared.pattern.Pattern.{Pattern}
use Rattle.tb_match.specs.Matches.{match_list}
use Rattle.tb_process_steps.specs.Offers.{Offered, offers}
use Rattle.tb_log.specs.declared.entry.Label.{Label}
use Rattle.tb_log.specs.declared.entry.Place.{Place}
use Rattle.tb_bus.specs.Buses.{Bus, Proc}
use Rattle.tb_bus.specs.Effects.{effect_of}
use Rattle.tb_bus.specs.Steps.{action_by, handshakes, others}
use Rattle.tb_bus.specs.declared.action.Action.{Action}
use Rattle.tb_bus.specs.declared.action.Action.TheVariants as action

-- the list has a member
abbrev pub is_full : {A : Type 0} → List A → Bool
is_full [] = false
is_full (x ∷ xs) = true

-- the action sends terms that match the patterns
abbrev pub sends_match : List Pattern → Option Action → Bool
sends_match patterns None = false
sends_match patterns (Some (action.Own own)) = false
sends_match patterns (Some (action.Send terms)) = is_some (match_list patterns terms)
sends_match patterns (Some (action.Receive other)) = false

-- one of the offers of a process sends terms that match the patterns, and its times hold
abbrev pub any_sends : Bus → List Pattern → Proc → Bool
any_sends bus patterns other = list_any (λ sent. sends_match patterns (action_by bus other sent)) (offers other.term other.store)

-- Whether an offer with this action takes part in a move: the action has an effect, or it shakes hands with an offer of another process.
abbrev pub can_by : Bus → Proc → Offered → Option Action → Bool
can_by bus proc offered None = false
can_by bus proc offered (Some (action.Own own)) = is_some (effect_of bus proc (action.Own own))
can_by bus proc offered (Some (action.Send terms)) = is_full (handshakes bus proc offered terms)
can_by bus proc offered (Some (action.Receive patterns)) = list_any (any_sends bus patterns) (others bus proc)

-- Whether an offer of a process takes part in a move of the bus.
abbrev pub can_happen : Bus → Proc → Offered → Bool
can_happen bus proc offered = can_by bus proc offered (action_by bus proc offered)

-- a step with this label shows the atom at this place: as the atom that acts, or as the atom that receives
abbrev pub Shows : Label → Place → Type 0
Shows label place = (label.from ≡ place) ⊎ (label.to ≡ place)
