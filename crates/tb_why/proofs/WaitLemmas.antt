-- What the living of a bus wait for is what its processes wait for.
use Rattle.std.proofs.Common.{◌≡◌, ◌<◌, ◌≤◌, ◌+◌, ℕ, Bool, List, ◌∷◌, [], ◌++◌, length, map, take, Option, Some, None, option_map, slice_get, get_or, refl, ap, sym, ◌∙◌, subst, arith}
use Rattle.std.proofs.lemmas.List.{length-map}
use Rattle.std.proofs.lemmas.Option.{slice_get-map}
use Rattle.tb_process_steps.specs.WalkerViews.{View}
use Rattle.tb_body.specs.declared.body.Body.{Body}
use Rattle.tb_bus.specs.Buses.{Bus, Proc}
use Rattle.tb_bus.specs.Exchanges.{setting_by}
use Rattle.tb_living.specs.Lives.{proc_by, proc_in}
use Rattle.tb_living.proofs.ReadLemmas.{read-there}
use Rattle.tb_notes.specs.Inboxes.{Held}
use Rattle.tb_search.specs.declared.living.Living.{Living}
use Rattle.tb_core.specs.Helpers.LiveBuses.{bus_of, procs_in}
use Rattle.tb_core.specs.declared.bus.LiveBus.{LiveBus}
use Rattle.tb_why.specs.Helpers.Scenes.{queues_in}
use Rattle.tb_why.specs.Reasons.{Queue, Scene, queue_of, scene_of, stall_of, waiter_of, waiters}
use Rattle.tb_why.specs.Standing.{standing_of, standings}
use Rattle.tb_why.specs.declared.stall.Stall.{Stall}
use Rattle.tb_why.specs.declared.stall.Waiter.{Waiter}
use Rattle.tb_why.specs.declared.standing.Offering.{Offering}
use Rattle.tb_why.specs.declared.standing.Standing.{Standing}
use Rattle.tb_why.proofs.LookLemmas.{all-there, map-both, one-more, queues-are}

-- what is seen of the living is what is seen of the processes
pub stand-is : {W P T : Type 0} (view : View P W T) (bus : LiveBus W P T) → map view.body_of bus.plans ≡ bus.origin.program.bodies →
    map (λ living. standing_of (map view.body_of bus.plans) bus.ticks (proc_in view bus.plans living)) bus.living.items ≡ standings (bus_of view bus)
stand-is view bus planned =
    sym (map-both (standing_of (map view.body_of bus.plans) bus.ticks) (proc_in view bus.plans) bus.living.items)
    ∙ ap (λ (bodies : List Body). map (standing_of bodies bus.ticks) (procs_in view bus)) planned

pub procs-long : {W P T : Type 0} (view : View P W T) (bus : LiveBus W P T) → length (procs_in view bus) ≡ length bus.living.items
procs-long view bus = length-map bus.living.items (proc_in view bus.plans)

pub seen-long : {W P T : Type 0} (view : View P W T) (bus : LiveBus W P T) (seen : List Standing) → seen ≡ standings (bus_of view bus) → length seen ≡ length bus.living.items
seen-long view bus seen e =
    ap (λ (ss : List Standing). length ss) e ∙ length-map (procs_in view bus) (standing_of bus.origin.program.bodies bus.ticks) ∙ length-map bus.living.items (proc_in view bus.plans)

-- a scene with what is seen, and with the queues of the living
abbrev pub scene_by : {W P T : Type 0} → LiveBus W P T → List Standing → List Queue → Scene
scene_by bus seen queues = record {
  setting = setting_by bus.origin.program.bodies bus.origin.program.tools bus.bench;
  bodies = bus.origin.program.bodies;
  next_number = bus.marks.next_number;
  standings = seen;
  queues = queues;
}

pub scene-is : {W P T : Type 0} (view : View P W T) (bus : LiveBus W P T) (seen : List Standing) → seen ≡ standings (bus_of view bus) → scene_by bus seen (queues_in bus.living.items) ≡ scene_of (bus_of view bus)
scene-is view bus seen e =
    ap (λ (ss : List Standing). scene_by bus ss (queues_in bus.living.items)) e
    ∙ ap (λ (qs : List Queue). scene_by bus (standings (bus_of view bus)) qs) (queues-are view bus.plans bus.living.items)

-- A process with its lines.

abbrev pub waiter_by : Bool → Scene → ℕ → ℕ → Held → List Offering → Waiter
waiter_by down scene number body held offers = record { number = number; body = body; stalls = map (stall_of down scene number body held) offers }

by-proc : {W P T : Type 0} (view : View P W T) (plan : Option P) (living : Living W) (down : Bool) (scene : Scene) (offers : List Offering) →
    waiter_by down scene living.number living.body living.inbox.held offers
    ≡ waiter_by down scene (proc_by view plan living).number (proc_by view plan living).body (proc_by view plan living).inbox offers
by-proc view None living down scene offers = refl
by-proc view (Some plan) living down scene offers = refl

pub waiter-is : {W P T : Type 0} (view : View P W T) (bus : LiveBus W P T) (seen : List Standing) (at : ℕ) (living : Living W) (standing : Standing) (scene : Scene) →
    seen ≡ standings (bus_of view bus) → scene ≡ scene_of (bus_of view bus) → at < length seen → standing ≡ get_or seen at standing → slice_get bus.living.items at ≡ Some living →
    (proc : Proc) → slice_get (procs_in view bus) at ≡ Some proc →
    waiter_by bus.marks.down scene living.number living.body living.inbox.held standing.offers ≡ waiter_of (bus_of view bus) proc
waiter-is view bus seen at living standing scene e same within is here proc there =
    let down = bus.marks.down in
    let whole : Scene = scene_of (bus_of view bus) in
    let one : Proc = proc_in view bus.plans living in
    let mine : Some one ≡ Some proc = ap (option_map (proc_in view bus.plans)) (sym here) ∙ sym (slice_get-map (proc_in view bus.plans) bus.living.items at) ∙ there in
    let own : one ≡ proc = cc in
    let stands : Standing = standing_of bus.origin.program.bodies bus.ticks proc in
    let read : Some standing ≡ Some stands =
    sym (read-there seen at standing within is) ∙ ap (λ (ss : List Standing). slice_get ss at) e ∙ slice_get-map (standing_of bus.origin.program.bodies bus.ticks) (procs_in view bus) at
    ∙ ap (option_map (standing_of bus.origin.program.bodies bus.ticks)) there in
    let saw : standing ≡ stands = cc in
    ap (λ (s : Scene). waiter_by down s living.number living.body living.inbox.held standing.offers) same
    ∙ by-proc view (slice_get bus.plans living.body) living down whole standing.offers
    ∙ ap (λ (p : Proc). waiter_by down whole p.number p.body p.inbox standing.offers) own
    ∙ ap (λ (s : Standing). waiter_by down whole proc.number proc.body proc.inbox s.offers) saw
