-- Facts for the calls of walkers: a store takes the binds of accepted terms, a step takes no time, and a new store has the types of its
-- slots.
use Rattle.std.proofs.Common.{◌≡◌, ℕ, ◌<◌, List, [], map, length, get_or, slice_get, IsTrue, Option, Some, None, option_and_then, ap, sym, ◌∙◌}
use Rattle.std.specs.Option.{ForSome}
use Rattle.std.proofs.lemmas.Option.{slice_get-get_or}
use Rattle.tb_terms.specs.declared.sort.Sort.{Sort}
use Rattle.tb_terms.specs.declared.term.Term.{Term}
use Rattle.tb_func.specs.Stores.{fresh_slot}
use Rattle.tb_func.specs.declared.slot.Slot.{Slot}
use Rattle.tb_match.specs.declared.bind.Bind.{Bind}
use Rattle.tb_body.specs.declared.atom.Atom.{Atom}
use Rattle.tb_process_steps.specs.Atoms.{act_of, matched_exprs}
use Rattle.tb_process_steps.specs.Binds.{takes_binds}
use Rattle.tb_process_steps.specs.Offers.{Offered}
use Rattle.tb_process_steps.specs.Walks.{Walking, offers_of, accepted_by, fired, sorts_of}
use Rattle.tb_process_steps.proofs.Sorts.{sorts-fresh}
use Rattle.tb_process_steps.proofs.Taken.{binds-taken}

pub bound_taken : (atoms : List Atom) (ts : List Term) (offers : List Offered) (k : ℕ) (given : Option (List Bind)) (binds : List Bind) (x : Offered) → given ≡ option_and_then (accepted_by atoms ts) (slice_get offers k) → given ≡ Some binds → slice_get offers k ≡ Some x → IsTrue (takes_binds x.store binds)
bound_taken atoms ts offers k given binds x e is here =
    binds-taken x.store (matched_exprs (act_of atoms x.atom)) ts binds (sym (ap (λ (o : Option Offered). option_and_then (accepted_by atoms ts) o) here) ∙ sym e ∙ is)

pub fired_ticks : (before after : Walking) (k : ℕ) (binds : List Bind) → k < length (offers_of before) → ForSome (slice_get (offers_of before) k) (λ offered. after ≡ fired binds before.ticks offered) → after.ticks ≡ before.ticks
fired_ticks before after k binds within h =
    let none : Offered = record { atom = 0; age = 0; store = []; residual = None } in
    let offered : Offered = get_or (offers_of before) k none in
    ap (λ (w : Walking). w.ticks) (h offered (slice_get-get_or (offers_of before) k none within))

pub store_fits : (store : List Slot) (sorts own : List Sort) → store ≡ map fresh_slot sorts → own ≡ sorts → sorts_of store ≡ own
store_fits store sorts own e same = ap sorts_of e ∙ sorts-fresh sorts ∙ sym same
