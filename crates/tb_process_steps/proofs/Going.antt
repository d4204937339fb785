-- A running process remains among the terms that its body can reach, and its offers ascend.
use Rattle.std.proofs.Common.{◌≡◌, ℕ, ◌+◌, ◌≤◌, List, [], ◌∷◌, map, length, Option, Some, None, IfSome, option_map, slice_get, refl, ap, subst, Contains, arith}
use Rattle.std.specs.List.Sorted.{IsStrictlyIncreasing}
use Rattle.tb_func.specs.declared.slot.Slot.{Slot}
use Rattle.tb_match.specs.declared.bind.Bind.{Bind}
use Rattle.tb_body.specs.declared.atom.Atom.{Atom}
use Rattle.tb_body.specs.declared.body.Body.{Body}
use Rattle.tb_body.specs.declared.tree.Tree.{Tree}
use Rattle.tb_process_steps.specs.Processes.{Process, aged}
use Rattle.tb_process_steps.specs.Offers.{Offered, offers}
use Rattle.tb_process_steps.specs.Walks.{Walking, entering, offers_of, offers_of_term, seen, seen_offers, fired, ticked}
use Rattle.tb_process_steps.specs.Reached.{Reaches, entered, went_on, grew_older, IsReached}
use Rattle.tb_process_steps.specs.declared.offer.Offer.{Offer}
use Rattle.tb_process_steps.proofs.Ascending.{offers-ascend, offered-once, offered-there}
use Rattle.tb_process_steps.proofs.Offering.{contains-at}

pub entering-reached : (body : Body) (store : List Slot) → IsReached body (entering body store)
entering-reached body store = entered

left-reached : (tree : Tree) (ticks : ℕ) (term : Process) (store : List Slot) (offered : Offered) (r : Option Process) → Reaches tree ticks term → Contains (offers term store) offered → offered.residual ≡ r → IfSome r (Reaches tree ticks)
left-reached tree ticks term store offered None h c e = tt
left-reached tree ticks term store offered (Some left) h c e = went_on store offered h c e

term-reached : (tree : Tree) (ticks : ℕ) (term : Option Process) (store : List Slot) (k : ℕ) (offered : Offered) → IfSome term (Reaches tree ticks) → slice_get (offers_of_term term store) k ≡ Some offered → IfSome offered.residual (Reaches tree ticks)
term-reached tree ticks None store k offered h e = absurd (let t : ◌≡◌ {A = Option Offered} None (Some offered) = e in cc)
term-reached tree ticks (Some term) store k offered h e = left-reached tree ticks term store offered offered.residual h (contains-at (offers term store) k offered e) refl

pub fired-reached : (body : Body) (walking : Walking) (k : ℕ) (offered : Offered) (binds : List Bind) → IsReached body walking → slice_get (offers_of walking) k ≡ Some offered → IsReached body (fired binds walking.ticks offered)
unfolding offers_of
fired-reached body walking k offered binds h e = term-reached body.tree walking.ticks walking.term walking.store k offered h e

aged-reached : (tree : Tree) (ticks : ℕ) (term : Option Process) → IfSome term (Reaches tree ticks) → IfSome (option_map aged term) (Reaches tree (ticks + 1))
aged-reached tree ticks None h = tt
aged-reached tree ticks (Some term) h = grew_older h

pub ticked-reached : (body : Body) (walking : Walking) → IsReached body walking → IsReached body (ticked walking)
ticked-reached body walking h = aged-reached body.tree walking.ticks walking.term h

-- the visible part of the offers

seen-atoms : (atoms : List Atom) (now : ℕ) (os : List Offered) → map (λ (o : Offered). o.atom) os ≡ map (λ (o : Offer). o.atom) (map (seen atoms now) os)
seen-atoms atoms now [] = refl
seen-atoms atoms now (o ∷ os) = ap (λ (ns : List ℕ). o.atom ∷ ns) (seen-atoms atoms now os)

nothing-ascends : IsStrictlyIncreasing []
nothing-ascends k l = absurd (omega arith)

term-ascend : (body : Body) (ticks : ℕ) (term : Option Process) (store : List Slot) → IfSome term (Reaches body.tree ticks) → IsStrictlyIncreasing (map (λ (o : Offered). o.atom) (offers_of_term term store))
term-ascend body ticks None store h = nothing-ascends
term-ascend body ticks (Some term) store h = offers-ascend body ticks term store h

pub seen-ascend : (body : Body) (now : ℕ) (walking : Walking) → IsReached body walking → IsStrictlyIncreasing (map (λ (o : Offer). o.atom) (seen_offers body.atoms now walking))
unfolding offers_of
seen-ascend body now walking h = subst IsStrictlyIncreasing (seen-atoms body.atoms now (offers_of_term walking.term walking.store)) (term-ascend body walking.ticks walking.term walking.store h)

-- by their positions: an atom of the body, which is offered at no other position

term-there : (body : Body) (ticks : ℕ) (term : Option Process) (store : List Slot) (k : ℕ) (offered : Offered) → IfSome term (Reaches body.tree ticks) → slice_get (offers_of_term term store) k ≡ Some offered → (1 ≤ offered.atom) × (offered.atom ≤ length body.atoms)
term-there body ticks None store k offered h e = absurd (let t : ◌≡◌ {A = Option Offered} None (Some offered) = e in cc)
term-there body ticks (Some term) store k offered h e = offered-there body ticks term store offered h (contains-at (offers term store) k offered e)

pub offered_at-there : (body : Body) (walking : Walking) (k : ℕ) (offered : Offered) → IsReached body walking → slice_get (offers_of walking) k ≡ Some offered → (1 ≤ offered.atom) × (offered.atom ≤ length body.atoms)
unfolding offers_of
offered_at-there body walking k offered h e = term-there body walking.ticks walking.term walking.store k offered h e

term-once : (body : Body) (ticks : ℕ) (term : Option Process) (store : List Slot) (one other : Offered) → IfSome term (Reaches body.tree ticks) → Contains (offers_of_term term store) one → Contains (offers_of_term term store) other → one.atom ≡ other.atom → one ≡ other
term-once body ticks None store one other h c d e = let l = c.1 in absurd (omega arith)
term-once body ticks (Some term) store one other h c d e = offered-once body ticks term store one other h c d e

pub offered-once_of : (body : Body) (walking : Walking) (one other : Offered) → IsReached body walking → Contains (offers_of walking) one → Contains (offers_of walking) other → one.atom ≡ other.atom → one ≡ other
unfolding offers_of
offered-once_of body walking one other h c d e = term-once body walking.ticks walking.term walking.store one other h c d e
