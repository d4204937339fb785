-- The possible steps of each process of the ring, by its state.
use Rattle.std.proofs.Common.{◌≡◌, ◌≢◌, ℕ, ◌+◌, ◌≤◌, ◌<◌, Bool, true, false, List, [], ◌∷◌, ◌++◌, map, Option, Some, None, option_map, option_and_then, refl, ap, ◌∙◌}
use Rattle.std.specs.List.{flat_map}
use Rattle.tb_terms.specs.declared.term.Term.{Term}
use Rattle.tb_func.specs.declared.slot.Slot.{Slot}
use Rattle.tb_match.specs.declared.bind.Bind.{Bind}
use Rattle.tb_body.specs.declared.body.Body.{Body}
use Rattle.tb_body.specs.declared.program.Program.{Program}
use Rattle.tb_process_steps.specs.Processes.{At, Seq}
use Rattle.tb_process_steps.specs.Offers.{Offered, offers, offers_if, offers_after, before}
use Rattle.tb_process_steps.specs.Settings.{tested}
use Rattle.tb_bus.specs.declared.action.Action.{Action}
use Rattle.tb_bus.specs.declared.action.Action.TheVariants as action
use Rattle.tb_bus.specs.declared.action.OwnAction.TheVariants as own
use Rattle.tb_bus.specs.Actions.{action_of, shutdown_action}
use Rattle.tb_bus.specs.Buses.{Bus, Proc, atoms_of}
use Rattle.tb_bus.specs.Effects.{Effect, GoesDown}
use Rattle.tb_bus.specs.Steps.{Own, Handshake, action_by, moves_by, handshakes_with, handshakes, moves_of}
use Rattle.tb_log.specs.declared.entry.LabelKind.TheVariants as kind
use Rattle.tb_ring_law.specs.Helpers.Bodies.{worth, first_test}
use Rattle.tb_ring_law.specs.Helpers.Buses.{node_store, first_store, node_loop, node_waits, node_holds, first_loop, first_begins_with, first_holds, next_of, node_at, first_at, bus_of}
use Rattle.tb_ring_law.proofs.Programs.{ring_bodies}
use Rattle.tb_ring_law.proofs.Values.{node-begins, first-begins, node-sent, first-sent, first-sent-once, done_term, done-sent, test-less, test-done, node-wanted, first-wanted, matches, misses}

-- what the store has once the settings are made: a fresh node begins anew
abbrev pub kept : Bool → ℕ → ℕ
kept true t = 0
kept false t = t

-- Node receives
abbrev pub node_receiving : ℕ → ℕ → ℕ → Offered
node_receiving n i t = record { atom = 1; age = 0; store = node_store i (next_of n i) t; residual = Some node_holds }

-- Node sends
abbrev pub node_sending : ℕ → ℕ → ℕ → Offered
node_sending n i t = record { atom = 2; age = 0; store = node_store i (next_of n i) t; residual = Some node_loop }

-- First sends for the first time, receives, sends on, or ends the bus
abbrev pub first_beginning : ℕ → Offered
first_beginning messages = record { atom = 1; age = 0; store = first_store 0; residual = Some (first_loop messages) }

abbrev pub first_receiving : ℕ → ℕ → Offered
first_receiving messages t = record { atom = 2; age = 0; store = first_store t; residual = Some (first_holds messages) }

abbrev pub first_sending : ℕ → ℕ → Offered
first_sending messages t = record { atom = 3; age = 0; store = first_store t; residual = Some (first_loop messages) }

abbrev pub first_ending : ℕ → ℕ → Offered
first_ending messages t = record { atom = 4; age = 0; store = first_store t; residual = Some (first_loop messages) }

-- a message to this process
abbrev pub message : ℕ → ℕ → List Term
message target t = worth target ∷ worth t ∷ []

abbrev pub bind_of : ℕ → ℕ → List Bind
bind_of slot t = record { slot = slot; value = worth t } ∷ []

-- the bus shuts down
abbrev pub down_effect : Effect
down_effect = record { kind = kind.Shutdown; shown = done_term ∷ []; binds = []; change = GoesDown done_term }

module _ (messages : ℕ) (program : Program) (bodies : program.bodies ≡ ring_bodies messages) (procs : List Proc) (starter : ℕ) where
  abbrev pub here : Bus
  here = bus_of program procs starter

  node-offers : (n i t : ℕ) (fresh : Bool) → offers (node_waits fresh) (node_store i (next_of n i) t) ≡ node_receiving n i (kept fresh t) ∷ record { atom = 3; age = 0; store = node_store i (next_of n i) (kept fresh t); residual = None } ∷ []
  node-offers n i t true = rw (node-begins i (next_of n i) t) refl
  node-offers n i t false = refl

  pub node-ignores : (sender : Proc) (sent : Offered) (n i t target v : ℕ) (fresh : Bool) → i ≢ target → handshakes_with here sender sent (message target v) (node_at n (node_waits fresh) i t) ≡ []
  unfolding handshakes_with
  node-ignores sender sent n i t target v fresh differ =
      rw (node-offers n i t fresh) (rw bodies (rw (node-wanted i (next_of n i) (kept fresh t)) (rw (misses i 2 target v differ) refl)))

  pub node-takes : (sender : Proc) (sent : Offered) (n i t v : ℕ) (fresh : Bool)
      → handshakes_with here sender sent (message i v) (node_at n (node_waits fresh) i t) ≡ Handshake sender sent (node_at n (node_waits fresh) i t) (node_receiving n i (kept fresh t)) (message i v) (bind_of 2 v) ∷ []
  unfolding handshakes_with
  node-takes sender sent n i t v fresh =
      rw (node-offers n i t fresh) (rw bodies (rw (node-wanted i (next_of n i) (kept fresh t)) (rw (matches i 2 v) refl)))

  pub first-ignores : (sender : Proc) (sent : Offered) (t target v : ℕ) → 1 ≢ target → handshakes_with here sender sent (message target v) (first_at (first_loop messages) t) ≡ []
  unfolding handshakes_with
  first-ignores sender sent t target v differ = rw bodies (rw (first-wanted t) (rw (misses 1 0 target v differ) refl))

  pub first-takes : (sender : Proc) (sent : Offered) (t v : ℕ)
      → handshakes_with here sender sent (message 1 v) (first_at (first_loop messages) t) ≡ Handshake sender sent (first_at (first_loop messages) t) (first_receiving messages t) (message 1 v) (bind_of 0 v) ∷ []
  unfolding handshakes_with
  first-takes sender sent t v = rw bodies (rw (first-wanted t) (rw (matches 1 0 v) refl))

  -- what a process has that holds a message

  acts : (proc : Proc) (offered : Offered) → action_by here proc offered ≡ action_of (atoms_of (ring_bodies messages) proc.body) 0 offered
  acts proc offered = ap (λ (bs : List Body). action_of (atoms_of bs proc.body) 0 offered) bodies

  -- its only offer
  moves-once : (proc : Proc) (offered : Offered) (does : Option Action) → offers proc.term proc.store ≡ offered ∷ [] → action_of (atoms_of (ring_bodies messages) proc.body) 0 offered ≡ does → moves_of here proc ≡ moves_by here proc offered does ++ []
  unfolding moves_of
  moves-once proc offered does one is =
      ap (flat_map (λ (o : Offered). moves_by here proc o (action_by here proc o))) one
      ∙ ap (λ (a : Option Action). moves_by here proc offered a ++ []) (acts proc offered ∙ is)

  pub node-moves : (n i t : ℕ) → t ≤ 1000000 → moves_of here (node_at n node_holds i t) ≡ handshakes here (node_at n node_holds i t) (node_sending n i t) (message (next_of n i) (t + 1)) ++ []
  node-moves n i t most =
      moves-once (node_at n node_holds i t) (node_sending n i t) (Some (action.Send (message (next_of n i) (t + 1)))) refl (ap (option_map action.Send) (node-sent i (next_of n i) t most))

  first-offers-once : (t : ℕ) → offers (first_begins_with messages) (first_store t) ≡ first_beginning messages ∷ []
  first-offers-once t = ap (λ (o : Option (List Slot)). offers_after o (offers (Seq (At 1 0) (first_loop messages)))) (first-begins t)

  pub first-moves-once : (t : ℕ) → moves_of here (first_at (first_begins_with messages) t) ≡ handshakes here (first_at (first_begins_with messages) t) (first_beginning messages) (message 2 1) ++ []
  first-moves-once t =
      moves-once (first_at (first_begins_with messages) t) (first_beginning messages) (Some (action.Send (message 2 1))) (first-offers-once t) (ap (option_map action.Send) (first-sent-once 0))

  first-offers : (t : ℕ) (b : Bool) → tested (first_store t) (first_test messages) ≡ Some b
      → offers (first_holds messages) (first_store t) ≡ map (before (first_loop messages)) (offers_if (Some b) (offers (At 3 0) (first_store t)) (offers (At 4 0) (first_store t)))
  first-offers t b is = ap (λ (o : Option Bool). map (before (first_loop messages)) (offers_if o (offers (At 3 0) (first_store t)) (offers (At 4 0) (first_store t)))) is

  pub first-moves : (t : ℕ) → t < messages → t ≤ 1000000 → moves_of here (first_at (first_holds messages) t) ≡ handshakes here (first_at (first_holds messages) t) (first_sending messages t) (message 2 (t + 1)) ++ []
  first-moves t less most =
      moves-once (first_at (first_holds messages) t) (first_sending messages t) (Some (action.Send (message 2 (t + 1)))) (first-offers t true (test-less t messages less)) (ap (option_map action.Send) (first-sent t most))

  pub first-ends : moves_of here (first_at (first_holds messages) messages) ≡ Own (first_at (first_holds messages) messages) (first_ending messages messages) down_effect ∷ []
  first-ends =
      moves-once (first_at (first_holds messages) messages) (first_ending messages messages) (Some (action.Own (own.Shutdown done_term))) (first-offers messages false (test-done messages))
      (ap (option_and_then shutdown_action) (done-sent messages))
