-- The first possible step of the ring's bus, by the process that holds the message.
use Rattle.std.proofs.Common.{◌≡◌, ℕ, ◌+◌, ◌≤◌, ◌<◌, Bool, true, false, not, cond, eqb, ltb, leb, List, [], ◌∷◌, ◌++◌, filter, map, Some, refl, ap, sym, ◌∙◌, subst, arith, append_assoc, ◌⊎◌, inl, inr}
use Rattle.std.specs.List.{flat_map}
use Rattle.std.proofs.lemmas.Bool.{le-ltb, lt-ltb, le-leb, ne_eqb, eq-eqb}
use Rattle.std.proofs.lemmas.List.{append-nil}
use Rattle.tb_body.specs.declared.program.Program.{Program}
use Rattle.tb_process_steps.specs.Processes.{Process}
use Rattle.tb_process_steps.specs.Offers.{Offered}
use Rattle.tb_func.specs.declared.slot.Slot.{Slot}
use Rattle.tb_bus.specs.Buses.{Proc, proc_left}
use Rattle.tb_bus.specs.Steps.{Move, Handshake, Step, steps, step_of, label_of, moves, moves_of_all, moves_of, moves_or_halt, in_turn, handshakes, handshakes_with, advance}
use Rattle.tb_log.specs.Limits.{terms_size}
use Rattle.tb_log.specs.declared.entry.Label.{Label}
use Rattle.tb_log.specs.declared.entry.LabelKind.TheVariants as kind
use Rattle.tb_ring_law.specs.Helpers.Buses.{node_loop, node_waits, node_holds, first_loop, first_holds, next_of, node_at, first_at, bus_of, AllWait, first_store}
use Rattle.tb_ring_law.proofs.Programs.{ring_bodies}
use Rattle.tb_ring_law.proofs.Values.{number-size}
use Rattle.tb_ring_law.proofs.Moves.{kept, message, bind_of, node_receiving, node_sending, first_receiving, node-takes, first-ignores, first-takes, node-moves}
use Rattle.tb_ring_law.proofs.Waiting.{wait-append, none-after, goes-past, node-goes, first-goes}

message-size : (target t : ℕ) → terms_size (message target t) ≡ 2
message-size target t = rw (number-size target) (rw (number-size t) refl)

-- the bus after these processes, of which this one began the last step, hands a message on first of all, and comes to those
pub record Hands (program : Program) (procs : List Proc) (starter : ℕ) (after : List Proc) (next : ℕ) : Type 0 where
  pub label : Label
  pub sends : label.kind ≡ kind.Msg
  pub size : terms_size label.terms ≡ 2
  pub rest : List Step
  pub is : steps (bus_of program procs starter) ≡ record { label = label; bus = bus_of program after next } ∷ rest

-- somebody is asked first, and has a move
pub first-step : (program : Program) (proc : Proc) (procs : List Proc) (starter : ℕ) (asked : Proc) (more : List Proc) (move : Move) (rest : List Move)
    → in_turn (bus_of program (proc ∷ procs) starter) ≡ asked ∷ more → moves_of (bus_of program (proc ∷ procs) starter) asked ≡ move ∷ rest
    → (others : List Step) × (steps (bus_of program (proc ∷ procs) starter) ≡ step_of (bus_of program (proc ∷ procs) starter) move ∷ others)
unfolding steps moves moves_of_all
first-step program proc procs starter asked more move rest turn has =
    let here = bus_of program (proc ∷ procs) starter in (
      map (step_of here) (rest ++ flat_map (moves_of here) more),
      ap (λ (ps : List Proc). map (step_of here) (moves_or_halt false (flat_map (moves_of here) ps))) turn
          ∙ ap (λ (ms : List Move). map (step_of here) (moves_or_halt false (ms ++ flat_map (moves_of here) more))) has,
    )

module _ (n messages : ℕ) (program : Program) (bodies : program.bodies ≡ ring_bodies messages) (low : 2 ≤ n) where
  -- the first process, in turn

  pub first-in-turn : (term : Process) (t : ℕ) (nodes : List Proc) (starter : ℕ) → (starter ≡ 0) ⊎ (starter ≡ n) → AllWait n 2 (n + 1) nodes
      → (more : List Proc) × (in_turn (bus_of program (first_at term t ∷ nodes) starter) ≡ first_at term t ∷ more)
  first-in-turn term t nodes starter (inl none) waits =
      let first = first_at term t in
      subst (λ (s : ℕ). (more : List Proc) × (in_turn (bus_of program (first ∷ nodes) s) ≡ first ∷ more)) (sym none) (_, refl)
  first-in-turn term t nodes starter (inr last) waits =
      let first = first_at term t in
      let not_after : ltb n 1 ≡ false = le-ltb n 1 (omega (arith, low)) in
      let before : leb 1 n ≡ true = le-leb 1 n (omega (arith, low)) in
      let none : filter (λ (p : Proc). ltb n p.number) nodes ≡ [] =
      ap (filter (λ (p : Proc). ltb n p.number)) (sym (append-nil nodes)) ∙ none-after n n 2 (n + 1) nodes [] waits (omega arith) in
      let later = filter (λ (p : Proc). leb p.number n) nodes in
      subst (λ (s : ℕ). (more : List Proc) × (in_turn (bus_of program (first ∷ nodes) s) ≡ first ∷ more)) (sym last) (
        later,
        ap (λ (b : Bool). cond b (first ∷ filter (λ (p : Proc). ltb n p.number) nodes) (filter (λ (p : Proc). ltb n p.number) nodes) ++ cond (leb 1 n) (first ∷ later) later) not_after
            ∙ ap (λ (ps : List Proc). ps ++ cond (leb 1 n) (first ∷ later) later) none
            ∙ ap (λ (b : Bool). cond b (first ∷ later) later) before,
      )

  -- the first process sends to the second

  pub first-hands : (term : Process) (t v kept_t starter : ℕ) (offered : Offered) (fresh : Bool) (u : ℕ) (behind : List Proc)
      → (starter ≡ 0) ⊎ (starter ≡ n) → AllWait n 3 (n + 1) behind
      → offered.residual ≡ Some (first_loop messages) → offered.store ≡ first_store kept_t
      → moves_of (bus_of program (first_at term t ∷ node_at n (node_waits fresh) 2 u ∷ behind) starter) (first_at term t)
      ≡ handshakes (bus_of program (first_at term t ∷ node_at n (node_waits fresh) 2 u ∷ behind) starter) (first_at term t) offered (message 2 v) ++ []
      → Hands program (first_at term t ∷ node_at n (node_waits fresh) 2 u ∷ behind) starter (first_at (first_loop messages) kept_t ∷ node_at n node_holds 2 v ∷ behind) 1
  unfolding handshakes
  first-hands term t v kept_t starter offered fresh u behind begun waits residual store has =
      let first = first_at term t in
      let second = node_at n (node_waits fresh) 2 u in
      let procs = first ∷ second ∷ behind in
      let here = bus_of program procs starter in
      let turn = first-in-turn term t (second ∷ behind) starter begun ((fresh, u, refl), waits) in
      let move = Handshake first offered second (node_receiving n 2 (kept fresh u)) (message 2 v) (bind_of 2 v) in
      let takes = node-takes messages program bodies procs starter first offered n 2 u v fresh in
      let others_rest = flat_map (handshakes_with here first offered (message 2 v)) (filter (λ (other : Proc). not (eqb other.number 1)) behind) in
      let shakes : handshakes here first offered (message 2 v) ++ [] ≡ move ∷ (others_rest ++ []) = ap (λ (ms : List Move). (ms ++ others_rest) ++ []) takes in
      let step = first-step program first (second ∷ behind) starter first turn.0 move (others_rest ++ []) turn.1 (has ∙ shakes) in
      let sent : advance 1 offered [] procs ≡ first_at (first_loop messages) kept_t ∷ second ∷ behind =
      first-goes n (n + 1) offered [] first (first_at (first_loop messages) kept_t) (second ∷ behind) refl
      (ap (λ (s : List Slot). proc_left first s offered.residual) store ∙ ap (proc_left first (first_store kept_t)) residual) ((fresh, u, refl), waits) in
      let received : advance 2 (node_receiving n 2 (kept fresh u)) (bind_of 2 v) (first_at (first_loop messages) kept_t ∷ ([] ++ (second ∷ behind))) ≡ first_at (first_loop messages) kept_t ∷ ([] ++ (node_at n node_holds 2 v ∷ behind)) =
      node-goes n 2 3 (n + 1) 2 (node_receiving n 2 (kept fresh u)) (bind_of 2 v) (first_at (first_loop messages) kept_t) [] second (node_at n node_holds 2 v) behind refl (omega arith) refl (omega arith) refl refl waits (omega arith) in
      record {
        label = label_of move;
        sends = refl;
        size = message-size 2 v;
        rest = step.0;
        is = step.1 ∙ ap (λ (ps : List Proc). record { label = label_of move; bus = bus_of program ps 1 } ∷ step.0) (ap (advance 2 (node_receiving n 2 (kept fresh u)) (bind_of 2 v)) sent ∙ received);
      }

  -- a node that holds the message, in turn

  node-in-turn : (t h m : ℕ) (before behind : List Proc) (starter : ℕ) → 2 ≤ h → starter + 1 ≡ h → AllWait n 2 h before
      → (more : List Proc) × (in_turn (bus_of program (first_at (first_loop messages) t ∷ (before ++ (node_at n node_holds h m ∷ behind))) starter) ≡ node_at n node_holds h m ∷ more)
  node-in-turn t h m before behind starter least last waits =
      let first = first_at (first_loop messages) t in
      let holder = node_at n node_holds h m in
      let procs = before ++ (holder ∷ behind) in
      let after = filter (λ (p : Proc). ltb starter p.number) behind in
      let earlier = filter (λ (p : Proc). leb p.number starter) (first ∷ procs) in
      let not_after : ltb starter 1 ≡ false = le-ltb starter 1 (omega (arith, least, last)) in
      let next : ltb starter h ≡ true = lt-ltb starter h (omega (arith, last)) in (
        after ++ earlier,
        ap (λ (b : Bool). cond b (first ∷ filter (λ (p : Proc). ltb starter p.number) procs) (filter (λ (p : Proc). ltb starter p.number) procs) ++ earlier) not_after
            ∙ ap (λ (ps : List Proc). ps ++ earlier) (none-after n starter 2 h before (holder ∷ behind) waits (omega (arith, last)))
            ∙ ap (λ (b : Bool). cond b (holder ∷ after) after ++ earlier) next,
      )

  -- a node sends to the next

  -- these processes: the first waits, so do those before the holder, and the one behind it with those after that
  abbrev between : ℕ → ℕ → ℕ → ℕ → Bool → List Proc → List Proc → List Proc
  between t h m u fresh before behind = first_at (first_loop messages) t ∷ (before ++ (node_at n node_holds h m ∷ node_at n (node_waits fresh) (h + 1) u ∷ behind))

  -- what the node behind the holder does as it takes the message
  abbrev taking : ℕ → ℕ → Bool → Offered
  taking h u fresh = node_receiving n (h + 1) (kept fresh u)

  abbrev to_next : ℕ → ℕ → ℕ → Bool → Move
  to_next h m u fresh = Handshake (node_at n node_holds h m) (node_sending n h m) (node_at n (node_waits fresh) (h + 1) u) (taking h u fresh) (message (h + 1) (m + 1)) (bind_of 2 (m + 1))

  -- nobody takes it before the next node does
  next-takes : (t h m u : ℕ) (fresh : Bool) (before behind : List Proc) (starter : ℕ) → 2 ≤ h → AllWait n 2 h before
      → (rest : List Move) × (handshakes (bus_of program (between t h m u fresh before behind) starter) (node_at n node_holds h m) (node_sending n h m) (message (h + 1) (m + 1)) ≡ to_next h m u fresh ∷ rest)
  unfolding handshakes
  next-takes t h m u fresh before behind starter least waits_before =
      let first = first_at (first_loop messages) t in
      let holder = node_at n node_holds h m in
      let offered = node_sending n h m in
      let second = node_at n (node_waits fresh) (h + 1) u in
      let nodes = before ++ (holder ∷ second ∷ behind) in
      let f = handshakes_with (bus_of program (first ∷ nodes) starter) holder offered (message (h + 1) (m + 1)) in
      let keeps = λ (other : Proc). not (eqb other.number h) in
      let rest = flat_map f (filter keeps behind) in
      let other : eqb 1 h ≡ false = ne_eqb 1 h (λ e. absurd (omega (arith, least, e))) in
      let itself : eqb h h ≡ true = eq-eqb h h refl in
      let next : eqb (h + 1) h ≡ false = ne_eqb (h + 1) h (λ e. absurd (omega (arith, e))) in
      let ignores : f first ≡ [] = first-ignores messages program bodies (first ∷ nodes) starter holder offered t (h + 1) (m + 1) (λ e. absurd (omega (arith, least, e))) in
      let takes : f second ≡ to_next h m u fresh ∷ [] = node-takes messages program bodies (first ∷ nodes) starter holder offered n (h + 1) u (m + 1) fresh in (
        rest,
        ap (λ (b : Bool). flat_map f (cond (not b) (first ∷ filter keeps nodes) (filter keeps nodes))) other
            ∙ ap (λ (ms : List Move). ms ++ flat_map f (filter keeps nodes)) ignores
            ∙ goes-past messages program bodies (first ∷ nodes) starter holder offered keeps n 2 h (h + 1) (m + 1) before (holder ∷ second ∷ behind) waits_before (omega arith)
            ∙ ap (λ (b : Bool). flat_map f (cond (not b) (holder ∷ filter keeps (second ∷ behind)) (filter keeps (second ∷ behind)))) itself
            ∙ ap (λ (b : Bool). flat_map f (cond (not b) (second ∷ filter keeps behind) (filter keeps behind))) next
            ∙ ap (λ (ms : List Move). ms ++ rest) takes,
      )

  -- then the holder waits again, and the next node holds the message
  next-holds : (t h m u : ℕ) (fresh : Bool) (before behind : List Proc) → 2 ≤ h → AllWait n 2 h before → AllWait n (h + 1 + 1) (n + 1) behind
      → advance (h + 1) (taking h u fresh) (bind_of 2 (m + 1)) (advance h (node_sending n h m) [] (between t h m u fresh before behind))
      ≡ first_at (first_loop messages) t ∷ (before ++ (node_at n node_loop h m ∷ node_at n node_holds (h + 1) (m + 1) ∷ behind))
  next-holds t h m u fresh before behind least waits_before waits_behind =
      let first = first_at (first_loop messages) t in
      let second = node_at n (node_waits fresh) (h + 1) u in
      let left = node_at n node_loop h m in
      let holds = node_at n node_holds (h + 1) (m + 1) in
      let goes = advance (h + 1) (taking h u fresh) (bind_of 2 (m + 1)) in
      let waits_second : AllWait n (h + 1) (n + 1) (second ∷ behind) = ((fresh, u, refl), waits_behind) in
      let sent : advance h (node_sending n h m) [] (between t h m u fresh before behind) ≡ first ∷ (before ++ (left ∷ second ∷ behind)) =
      node-goes n h (h + 1) (n + 1) h (node_sending n h m) [] first before (node_at n node_holds h m) left (second ∷ behind) refl least waits_before (omega arith) refl refl waits_second (omega arith) in
      let among : before ++ (left ∷ second ∷ behind) ≡ (before ++ left ∷ []) ++ (second ∷ behind) = sym (append_assoc before (left ∷ []) (second ∷ behind)) in
      let waits_left : AllWait n 2 (h + 1) (before ++ left ∷ []) = wait-append n 2 h (h + 1) before (left ∷ []) waits_before ((false, m, refl), refl) in
      let received : goes (first ∷ ((before ++ left ∷ []) ++ (second ∷ behind))) ≡ first ∷ ((before ++ left ∷ []) ++ (holds ∷ behind)) =
      node-goes n (h + 1) (h + 1 + 1) (n + 1) (h + 1) (taking h u fresh) (bind_of 2 (m + 1)) first (before ++ left ∷ []) second holds behind refl (omega (arith, least)) waits_left (omega arith) refl refl waits_behind (omega arith) in
      ap goes (sent ∙ ap (λ (ps : List Proc). first ∷ ps) among) ∙ received ∙ ap (λ (ps : List Proc). first ∷ ps) (append_assoc before (left ∷ []) (holds ∷ behind))

  pub node-hands : (t h m u : ℕ) (fresh : Bool) (before behind : List Proc) (starter : ℕ) → 2 ≤ h → h < n → m ≤ 1000000 → starter + 1 ≡ h → AllWait n 2 h before → AllWait n (h + 1 + 1) (n + 1) behind
      → Hands program (first_at (first_loop messages) t ∷ (before ++ (node_at n node_holds h m ∷ node_at n (node_waits fresh) (h + 1) u ∷ behind))) starter
      (first_at (first_loop messages) t ∷ (before ++ (node_at n node_loop h m ∷ node_at n node_holds (h + 1) (m + 1) ∷ behind))) h
  node-hands t h m u fresh before behind starter least below most last waits_before waits_behind =
      let holder = node_at n node_holds h m in
      let procs = between t h m u fresh before behind in
      let here = bus_of program procs starter in
      let move = to_next h m u fresh in
      let turn = node-in-turn t h m before (node_at n (node_waits fresh) (h + 1) u ∷ behind) starter least last waits_before in
      let shakes = next-takes t h m u fresh before behind starter least waits_before in
      let target : next_of n h ≡ h + 1 = ap (λ (b : Bool). cond b 1 (h + 1)) (ne_eqb h n (λ e. absurd (omega (arith, below, e)))) in
      let has : moves_of here holder ≡ move ∷ (shakes.0 ++ []) =
      node-moves messages program bodies procs starter n h m most
      ∙ ap (λ (to : ℕ). handshakes here holder (node_sending n h m) (message to (m + 1)) ++ []) target
      ∙ ap (λ (ms : List Move). ms ++ []) shakes.1 in
      let step = first-step program (first_at (first_loop messages) t) (before ++ (holder ∷ node_at n (node_waits fresh) (h + 1) u ∷ behind)) starter holder turn.0 move (shakes.0 ++ []) turn.1 has in
      record {
        label = label_of move;
        sends = refl;
        size = message-size (h + 1) (m + 1);
        rest = step.0;
        is = step.1 ∙ ap (λ (ps : List Proc). record { label = label_of move; bus = bus_of program ps h } ∷ step.0) (next-holds t h m u fresh before behind least waits_before waits_behind);
      }

  -- the last node sends to the first process

  pub last-hands : (t m : ℕ) (before : List Proc) (starter : ℕ) → m ≤ 1000000 → starter + 1 ≡ n → AllWait n 2 n before
      → Hands program (first_at (first_loop messages) t ∷ (before ++ (node_at n node_holds n m ∷ []))) starter (first_at (first_holds messages) (m + 1) ∷ (before ++ (node_at n node_loop n m ∷ []))) n
  unfolding handshakes
  last-hands t m before starter most last waits =
      let first = first_at (first_loop messages) t in
      let holder = node_at n node_holds n m in
      let nodes = before ++ (holder ∷ []) in
      let procs = first ∷ nodes in
      let here = bus_of program procs starter in
      let turn = node-in-turn t n m before [] starter low last waits in
      let to_first : next_of n n ≡ 1 = ap (λ (b : Bool). cond b 1 (n + 1)) (eq-eqb n n refl) in
      let offered = node_sending n n m in
      let move = Handshake holder offered first (first_receiving messages t) (message 1 (m + 1)) (bind_of 0 (m + 1)) in
      let f = handshakes_with here holder offered (message 1 (m + 1)) in
      let keeps = λ (other : Proc). not (eqb other.number n) in
      let rest = flat_map f (filter keeps nodes) in
      let other : eqb 1 n ≡ false = ne_eqb 1 n (λ e. absurd (omega (arith, low, e))) in
      let takes : f first ≡ move ∷ [] = first-takes messages program bodies procs starter holder offered t (m + 1) in
      let shakes : handshakes here holder offered (message 1 (m + 1)) ≡ move ∷ rest =
      ap (λ (b : Bool). flat_map f (cond (not b) (first ∷ filter keeps nodes) (filter keeps nodes))) other
      ∙ ap (λ (ms : List Move). ms ++ rest) takes in
      let has : moves_of here holder ≡ move ∷ (rest ++ []) =
      node-moves messages program bodies procs starter n n m most
      ∙ ap (λ (target : ℕ). handshakes here holder offered (message target (m + 1)) ++ []) to_first
      ∙ ap (λ (ms : List Move). ms ++ []) shakes in
      let step = first-step program first nodes starter holder turn.0 move (rest ++ []) turn.1 has in
      let left = node_at n node_loop n m in
      let sent : advance n offered [] procs ≡ first ∷ (before ++ (left ∷ [])) =
      node-goes n n (n + 1) (n + 1) n offered [] first before holder left [] refl low waits (omega arith) refl refl refl (omega arith) in
      let waits_left : AllWait n 2 (n + 1) (before ++ left ∷ []) = wait-append n 2 n (n + 1) before (left ∷ []) waits ((false, m, refl), refl) in
      let goes = advance 1 (first_receiving messages t) (bind_of 0 (m + 1)) in
      let received : goes (first ∷ (before ++ left ∷ [])) ≡ first_at (first_holds messages) (m + 1) ∷ (before ++ left ∷ []) =
      first-goes n (n + 1) (first_receiving messages t) (bind_of 0 (m + 1)) first (first_at (first_holds messages) (m + 1)) (before ++ left ∷ []) refl refl waits_left in
      record {
        label = label_of move;
        sends = refl;
        size = message-size 1 (m + 1);
        rest = step.0;
        is = step.1 ∙ ap (λ (ps : List Proc). record { label = label_of move; bus = bus_of program ps n } ∷ step.0) (ap goes sent ∙ received);
      }
