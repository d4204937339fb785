-- The process that a walker represents, its offers as a look finds them, and the process after an offer is taken or a tick passes.
use Rattle.std.specs.Prelude.{ℕ, ◌+◌, Bool, true, false, List, [], map, Option, Some, None, option_map}
use Rattle.tb_terms.specs.declared.term.Term.{Term}
use Rattle.tb_terms.specs.declared.sort.Sort.{Sort}
use Rattle.tb_terms.specs.declared.pattern.Pattern.{Pattern}
use Rattle.tb_func.specs.declared.slot.Slot.{Slot}
use Rattle.tb_match.specs.declared.bind.Bind.{Bind}
use Rattle.tb_body.specs.declared.body.Body.{Body}
use Rattle.tb_body.specs.declared.atom.Atom.{Atom}
use Rattle.tb_process_steps.specs.Processes.{Process, fresh, aged}
use Rattle.tb_process_steps.specs.Offers.{Offered, offers}
use Rattle.tb_process_steps.specs.Binds.{with_binds}
use Rattle.tb_process_steps.specs.Atoms.{act_of, times_of, sent_exprs, matched_exprs, values_together, patterns_of, accepted, is_ready}
use Rattle.tb_process_steps.specs.declared.offer.Offer.{Offer}

-- a running process: its term or the end, its store, and the number of ticks that it has seen
pub record Walking : Type 0 where
  pub term : Option Process
  pub store : List Slot
  pub ticks : ℕ

-- the greatest number of ticks that a process can see
abbrev pub most_ticks : ℕ
most_ticks = 4000000

-- the process that enters its body with this store
abbrev pub entering : Body → List Slot → Walking
entering body store = record { term = Some (fresh body.tree); store = store; ticks = 0 }

-- the offers of a term in a store; none after the end
abbrev pub offers_of_term : Option Process → List Slot → List Offered
offers_of_term None store = []
offers_of_term (Some term) store = offers term store

-- the offers of a process, in the order of the source
unfoldable pub offers_of : Walking → List Offered
offers_of walking = offers_of_term walking.term walking.store

-- an offer as a look finds it: its atom, its age, and whether it is ready at this number of ticks of the bus
abbrev pub seen : List Atom → ℕ → Offered → Offer
seen atoms now offered = record { atom = offered.atom; age = offered.age; ready = is_ready offered.store offered.age now (times_of atoms offered.atom) }

-- all offers of a process as a look finds them
abbrev pub seen_offers : List Atom → ℕ → Walking → List Offer
seen_offers atoms now walking = map (seen atoms now) (offers_of walking)

-- the values that an offered atom sends or looks at
abbrev pub sent_by : List Atom → Offered → Option (List Term)
sent_by atoms offered = values_together offered.store (sent_exprs (act_of atoms offered.atom))

-- the patterns of an offered atom
abbrev pub patterns_by : List Atom → Offered → Option (List Pattern)
patterns_by atoms offered = patterns_of offered.store (matched_exprs (act_of atoms offered.atom))

-- the binds of an offered atom for these terms; nothing if it doesn't accept them
abbrev pub accepted_by : List Atom → List Term → Offered → Option (List Bind)
accepted_by atoms terms offered = accepted offered.store (matched_exprs (act_of atoms offered.atom)) terms

-- The process after an offer is taken: it continues with the rest, in the offered store with the binds set.
abbrev pub fired : List Bind → ℕ → Offered → Walking
fired binds ticks offered = record { term = offered.residual; store = with_binds offered.store binds; ticks = ticks }

-- The process after a tick: its term ages, unless the process has ended. The number of ticks grows by one, and the store remains.
abbrev pub ticked : Walking → Walking
ticked walking = record walking { term = option_map aged walking.term; ticks = walking.ticks + 1 }

-- the types of a store's slots
abbrev pub sorts_of : List Slot → List Sort
sorts_of store = map (λ (slot : Slot). slot.sort) store

-- the process has ended
abbrev pub is_end : Option Process → Bool
is_end None = true
is_end (Some term) = false
