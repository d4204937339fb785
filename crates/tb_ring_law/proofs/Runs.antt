-- The ring's simulation: message after message goes round, and then the bus shuts down.
use Rattle.std.proofs.Common.{◌≡◌, ℕ, zero, suc, ◌+◌, ◌-◌, ◌*◌, ◌≤◌, ◌<◌, Bool, true, false, cond, List, [], ◌∷◌, ◌++◌, map, length, Some, refl, ap, sym, ◌∙◌, subst, arith, ◌⊎◌, inl, inr, append_assoc}
use Rattle.std.specs.List.{slice_get}
use Rattle.std.proofs.lemmas.Bool.{and_from, le-leb, lt-leb, eq-eqb, ne_eqb}
use Rattle.std.proofs.lemmas.List.{length-append}
use Rattle.std.proofs.lemmas.List.Sums.{sum-map, sum_by_push}
use Rattle.tb_terms.specs.declared.sort.Sort.TheVariants as sort
use Rattle.tb_body.specs.declared.program.Program.{Program}
use Rattle.tb_notes.specs.Inboxes.{nothing}
use Rattle.tb_bus.specs.Buses.{Bus, Proc, opened, opened_one}
use Rattle.tb_bus.specs.Steps.{Own, Step, steps, label_of, apply}
use Rattle.tb_log.specs.Limits.{entry_size, log_size, has_room}
use Rattle.tb_log.specs.declared.entry.Label.{Label}
use Rattle.tb_log.specs.declared.entry.Entry.{Entry}
use Rattle.tb_log.specs.declared.entry.Entry.TheVariants.{Did}
use Rattle.tb_sim.specs.Simulation.{Limits, Sim, Ends, Makes, turn, step_turn, makes, IsSim}
use Rattle.tb_sim.specs.declared.ends.SimEnd.TheVariants.{Down, Steps, Events}
use Rattle.tb_log.specs.declared.entry.LabelKind.TheVariants as kind
use Rattle.tb_ring_law.specs.Ends.{step_kind, messages_then_end}
use Rattle.tb_ring_law.specs.Helpers.Pieces.{links}
use Rattle.tb_ring_law.specs.Helpers.Bodies.{worth, link_root}
use Rattle.tb_ring_law.specs.Helpers.Buses.{slot, node_loop, node_waits, node_holds, first_loop, first_begins_with, first_holds, next_of, node_at, first_at, bus_of, AllWait}
use Rattle.tb_ring_law.proofs.Programs.{ring_bodies, node-enters, first-enters}
use Rattle.tb_ring_law.proofs.Values.{begins-zero, done-size}
use Rattle.tb_ring_law.proofs.Moves.{first_beginning, first_sending, first_ending, first-moves-once, first-moves, first-ends, down_effect}
use Rattle.tb_ring_law.proofs.Waiting.{wait-le, wait-append}
use Rattle.tb_ring_law.proofs.Steps.{Hands, first-step, first-in-turn, first-hands, node-hands, last-hands}

abbrev pub limits : Limits
limits = record { steps = 4000000; entries = 4000000 }

-- the state of the simulation after this number of steps
abbrev pub sim_at : Program → List Proc → ℕ → List Entry → ℕ → Sim
sim_at program procs starter log made = record { bus = bus_of program procs starter; log = log; steps_made = made; quiet = false; left = [] }

-- the log has an entry a message
record Kept (log : List Entry) (made : ℕ) : Type 0 where
  long : length log ≡ made
  large : log_size log ≡ 2 * made

size-push : (log : List Entry) (entry : Entry) → log_size (log ++ entry ∷ []) ≡ log_size log + entry_size entry
size-push log entry = sum-map entry_size (log ++ entry ∷ []) ∙ sum_by_push entry_size log entry ∙ ap (λ (size : ℕ). size + entry_size entry) (sym (sum-map entry_size log))

kept-more : (log : List Entry) (made : ℕ) (entry : Entry) → entry_size entry ≡ 2 → Kept log made → Kept (log ++ entry ∷ []) (made + 1)
kept-more log made entry two kept =
    let long = length-append log (entry ∷ []) in
    let large = size-push log entry in
    record { long = omega (arith, long, kept.long); large = omega (arith, large, kept.large, two) }

room : (log : List Entry) (made : ℕ) (entry : Entry) → made ≤ 1000000 → entry_size entry ≤ 5 → Kept log made → has_room 4000000 log entry ≡ true
room log made entry most small kept =
    and_from _ _ (le-leb (length log + 1) 4000000 (omega (arith, most, kept.long))) (le-leb (log_size log + entry_size entry) 16777216 (omega (arith, most, small, kept.large)))

module _ (program : Program) where
  -- a step is possible, so the first is made
  turn-step : (procs : List Proc) (starter : ℕ) (log : List Entry) (made : ℕ) (label : Label) (after : Bus) (rest : List Step)
      → steps (bus_of program procs starter) ≡ record { label = label; bus = after } ∷ rest → made ≤ 1000000 → has_room 4000000 log (Did label) ≡ true
      → turn limits (sim_at program procs starter log made) ≡ Makes (Did label) (record { bus = after; log = log ++ Did label ∷ []; steps_made = made + 1; quiet = false; left = [] })
  turn-step procs starter log made label after rest is most has =
      let sim = sim_at program procs starter log made in
      let next : Sim = record { bus = after; log = log; steps_made = made + 1; quiet = false; left = [] } in
      ap (step_turn limits sim) is
      ∙ ap (λ (b : Bool). cond b (Ends Steps) (makes limits sim (Did label) next)) (lt-leb 4000000 made (omega (arith, most)))
      ∙ ap (λ (b : Bool). cond b (Makes (Did label) (record next { log = log ++ Did label ∷ [] })) (Ends Events)) has

  -- a process sends the message on
  turn-hands : (procs : List Proc) (starter : ℕ) (log : List Entry) (made : ℕ) (after : List Proc) (next : ℕ) (hands : Hands program procs starter after next) → made ≤ 1000000 → Kept log made
      → turn limits (sim_at program procs starter log made) ≡ Makes (Did hands.label) (sim_at program after next (log ++ Did hands.label ∷ []) (made + 1))
  turn-hands procs starter log made after next hands most kept =
      let size = hands.size in
      turn-step procs starter log made hands.label (bus_of program after next) hands.rest hands.is most (room log made (Did hands.label) most (omega (arith, size)) kept)

-- A node holds a message: so many others are to get it in this round, the first process last, and so many rounds come then.
record NodeHolds (n messages made : ℕ) (procs : List Proc) (starter : ℕ) : Type 0 where
  holder : ℕ
  others : ℕ
  rounds : ℕ
  t : ℕ
  before : List Proc
  behind : List Proc
  least : 2 ≤ holder
  last : starter + 1 ≡ holder
  count : holder + others ≡ n + 1
  to_come : made + others + n * rounds ≡ messages
  waits_before : AllWait n 2 holder before
  waits_behind : AllWait n (holder + 1) (n + 1) behind
  are : procs ≡ first_at (first_loop messages) t ∷ (before ++ (node_at n node_holds holder made ∷ behind))

-- the first process holds it, after the last node
record FirstHolds (n messages made : ℕ) (procs : List Proc) (starter : ℕ) : Type 0 where
  rounds : ℕ
  nodes : List Proc
  last : starter ≡ n
  to_come : made + n * rounds ≡ messages
  waits : AllWait n 2 (n + 1) nodes
  are : procs ≡ first_at (first_holds messages) made ∷ nodes

abbrev Holds : ℕ → ℕ → ℕ → List Proc → ℕ → Type 0
Holds n messages made procs starter = NodeHolds n messages made procs starter ⊎ FirstHolds n messages made procs starter

-- a message goes on, and another process holds it
record GoesOn (n messages : ℕ) (program : Program) (made : ℕ) (procs : List Proc) (starter : ℕ) : Type 0 where
  after : List Proc
  next : ℕ
  hands : Hands program procs starter after next
  holds : Holds n messages (made + 1) after next

module _ (n messages : ℕ) (program : Program) (bodies : program.bodies ≡ ring_bodies messages) (low : 2 ≤ n) (most : messages ≤ 1000000) where
  node-goes-on : (made holder others rounds t : ℕ) (before behind : List Proc) (starter : ℕ) → 2 ≤ holder → starter + 1 ≡ holder → holder + others ≡ n + 1 → made + others + n * rounds ≡ messages
      → AllWait n 2 holder before → AllWait n (holder + 1) (n + 1) behind → GoesOn n messages program made (first_at (first_loop messages) t ∷ (before ++ (node_at n node_holds holder made ∷ behind))) starter
  node-goes-on made holder others rounds t before [] starter least last count to_come waits_before end =
      let same : holder ≡ n = omega (arith, end) in
      let within : made ≤ 1000000 = omega (arith, to_come, most) in
      let left = node_at n node_loop holder made in
      record {
        after = first_at (first_holds messages) (made + 1) ∷ (before ++ (left ∷ []));
        next = n;
        hands = subst
            (λ (i : ℕ). starter + 1 ≡ i → AllWait n 2 i before → Hands program (first_at (first_loop messages) t ∷ (before ++ (node_at n node_holds i made ∷ []))) starter (first_at (first_holds messages) (made + 1) ∷ (before ++ (node_at n node_loop i made ∷ []))) n)
            (sym same)
            (λ l w. last-hands n messages program bodies low t made before starter within l w)
            last
            waits_before;
        holds = inr (record {
          rounds = rounds;
          nodes = before ++ (left ∷ []);
          last = refl;
          to_come = omega (arith, to_come, count, end);
          waits = wait-append n 2 holder (n + 1) before (left ∷ []) waits_before ((false, made, refl), end);
          are = refl;
        });
      }
  node-goes-on made holder others rounds t before (second ∷ behind) starter least last count to_come waits_before ((fresh, u, e), waits_behind) =
      let less = wait-le n (holder + 1 + 1) (n + 1) behind waits_behind in
      let within : made ≤ 1000000 = omega (arith, to_come, most) in
      let first = first_at (first_loop messages) t in
      let left = node_at n node_loop holder made in
      let holds = node_at n node_holds (holder + 1) (made + 1) in
      record {
        after = first ∷ (before ++ (left ∷ holds ∷ behind));
        next = holder;
        hands = subst
            (λ (p : Proc). Hands program (first ∷ (before ++ (node_at n node_holds holder made ∷ p ∷ behind))) starter (first ∷ (before ++ (left ∷ holds ∷ behind))) holder)
            (sym e)
            (node-hands n messages program bodies low t holder made u fresh before behind starter least (omega (arith, less)) within last waits_before waits_behind);
        holds = inl (record {
          holder = holder + 1;
          others = others - 1;
          rounds = rounds;
          t = t;
          before = before ++ (left ∷ []);
          behind = behind;
          least = omega (arith, least);
          last = refl;
          count = omega (arith, count, less);
          to_come = omega (arith, to_come, count, less);
          waits_before = wait-append n 2 holder (holder + 1) before (left ∷ []) waits_before ((false, made, refl), refl);
          waits_behind = waits_behind;
          are = ap (λ (ps : List Proc). first ∷ ps) (sym (append_assoc before (left ∷ []) (holds ∷ behind)));
        });
      }

  -- the second process holds a message
  second-holds : (made t rounds : ℕ) (behind : List Proc) → made + n * (rounds + 1) ≡ messages → AllWait n 3 (n + 1) behind
      → NodeHolds n messages (made + 1) (first_at (first_loop messages) t ∷ (node_at n node_holds 2 (made + 1) ∷ behind)) 1
  second-holds made t rounds behind to_come waits = record {
    holder = 2;
    others = n - 1;
    rounds = rounds;
    t = t;
    before = [];
    behind = behind;
    least = omega arith;
    last = refl;
    count = omega (arith, low);
    to_come = omega (arith, to_come, low);
    waits_before = refl;
    waits_behind = waits;
    are = refl;
  }

  first-goes-on : (made rounds starter : ℕ) (nodes : List Proc) → starter ≡ n → made < messages → made + n * rounds ≡ messages → AllWait n 2 (n + 1) nodes → GoesOn n messages program made (first_at (first_holds messages) made ∷ nodes) starter
  first-goes-on made zero starter nodes last less to_come waits = absurd (omega (arith, less, to_come))
  first-goes-on made (suc rounds) starter [] last less to_come waits = absurd (omega (arith, waits, low))
  first-goes-on made (suc rounds) starter (second ∷ behind) last less to_come ((fresh, u, e), waits) =
      let within : made ≤ 1000000 = omega (arith, less, most) in
      let first = first_at (first_holds messages) made in
      let holds = node_at n node_holds 2 (made + 1) in
      let after = first_at (first_loop messages) made ∷ holds ∷ behind in
      let moves = first-moves messages program bodies (first ∷ node_at n (node_waits fresh) 2 u ∷ behind) starter made less within in
      record {
        after = after;
        next = 1;
        hands = subst (λ (p : Proc). Hands program (first ∷ p ∷ behind) starter after 1) (sym e)
            (first-hands n messages program bodies low (first_holds messages) made (made + 1) made starter (first_sending messages made) fresh u behind (inr last) waits refl refl moves);
        holds = inl (second-holds made made rounds behind (omega (arith, to_come)) waits);
      }

  goes-on : (made : ℕ) (procs : List Proc) (starter : ℕ) → made < messages → Holds n messages made procs starter → GoesOn n messages program made procs starter
  goes-on made procs starter less (inl h) =
      subst (λ (ps : List Proc). GoesOn n messages program made ps starter) (sym h.are)
      (node-goes-on made h.holder h.others h.rounds h.t h.before h.behind starter h.least h.last h.count h.to_come h.waits_before h.waits_behind)
  goes-on made procs starter less (inr h) =
      subst (λ (ps : List Proc). GoesOn n messages program made ps starter) (sym h.are) (first-goes-on made h.rounds starter h.nodes h.last less h.to_come h.waits)

  -- the last message has come round
  ends : (nodes : List Proc) (log : List Entry) → AllWait n 2 (n + 1) nodes → Kept log messages → (more : List Entry) × IsSim limits (sim_at program (first_at (first_holds messages) messages ∷ nodes) n log messages) more Down × (map step_kind more ≡ Some kind.Shutdown ∷ [])
  ends nodes log waits kept =
      let first = first_at (first_holds messages) messages in
      let here = bus_of program (first ∷ nodes) n in
      let turned = first-in-turn n messages program bodies low (first_holds messages) messages nodes n (inr refl) waits in
      let move = Own first (first_ending messages messages) down_effect in
      let step = first-step program first nodes n first turned.0 move [] turned.1 (first-ends messages program bodies (first ∷ nodes) n) in
      let entry = Did (label_of move) in
      let size : entry_size entry ≡ 5 = rw done-size refl in
      let made = turn-step program (first ∷ nodes) n log messages (label_of move) (apply here move) step.0 step.1 most (room log messages entry most (omega (arith, size)) kept) in
      (entry ∷ [], (record { bus = apply here move; log = log ++ entry ∷ []; steps_made = messages + 1; quiet = false; left = [] }, made, refl), refl)

  -- so many messages are to come
  runs : (left made : ℕ) (procs : List Proc) (starter : ℕ) (log : List Entry) → made + left ≡ messages → Holds n messages made procs starter → Kept log made → (more : List Entry) × IsSim limits (sim_at program procs starter log made) more Down × (map step_kind more ≡ messages_then_end left)
  runs zero made procs starter log none (inl h) kept = let less = wait-le n (h.holder + 1) (n + 1) h.behind h.waits_behind in absurd (omega (arith, none, h.to_come, h.count, less))
  runs zero made procs starter log none (inr h) kept =
      let same : made ≡ messages = omega (arith, none) in
      let last = ends h.nodes log h.waits (subst (λ (m : ℕ). Kept log m) same kept) in
      let are : procs ≡ first_at (first_holds messages) messages ∷ h.nodes = h.are ∙ ap (λ (m : ℕ). first_at (first_holds messages) m ∷ h.nodes) same in (
        last.0,
        subst (λ (ps : List Proc). IsSim limits (sim_at program ps starter log made) last.0 Down) (sym are)
            (subst (λ (s : ℕ). IsSim limits (sim_at program (first_at (first_holds messages) messages ∷ h.nodes) s log made) last.0 Down) (sym h.last)
            (subst (λ (m : ℕ). IsSim limits (sim_at program (first_at (first_holds messages) messages ∷ h.nodes) n log m) last.0 Down) (sym same) last.1)),
        last.2,
      )
  runs (suc left) made procs starter log some holds kept =
      let on = goes-on made procs starter (omega (arith, some)) holds in
      let entry = Did on.hands.label in
      let rest = runs left (made + 1) on.after on.next (log ++ entry ∷ []) (omega (arith, some)) on.holds (kept-more log made entry on.hands.size kept) in
      (entry ∷ rest.0, (sim_at program on.after on.next (log ++ entry ∷ []) (made + 1), turn-hands program procs starter log made on.after on.next on.hands (omega (arith, some, most)) kept, rest.1), (λ i. Some (on.hands.sends i) ∷ rest.2 i))

  -- the first message is sent
  first-message : (rounds : ℕ) (nodes : List Proc) → n * (rounds + 1) ≡ messages → AllWait n 2 (n + 1) nodes → GoesOn n messages program 0 (first_at (first_begins_with messages) 0 ∷ nodes) 0
  first-message rounds [] to_come waits = absurd (omega (arith, waits, low))
  first-message rounds (second ∷ behind) to_come ((fresh, u, e), waits) =
      let first = first_at (first_begins_with messages) 0 in
      let after = first_at (first_loop messages) 0 ∷ node_at n node_holds 2 1 ∷ behind in
      let moves = first-moves-once messages program bodies (first ∷ node_at n (node_waits fresh) 2 u ∷ behind) 0 0 in
      record {
        after = after;
        next = 1;
        hands = subst (λ (p : Proc). Hands program (first ∷ p ∷ behind) 0 after 1) (sym e)
            (first-hands n messages program bodies low (first_begins_with messages) 0 1 0 0 (first_beginning messages) fresh u behind (inl refl) waits refl refl moves);
        holds = inl (second-holds 0 0 rounds behind (omega (arith, to_come)) waits);
      }

  -- from the first process, with all others as they begin, the bus goes down
  pub goes-down : (rounds : ℕ) (nodes : List Proc) → n * (rounds + 1) ≡ messages → AllWait n 2 (n + 1) nodes
      → (log : List Entry) × IsSim limits (sim_at program (first_at (first_begins_with messages) 0 ∷ nodes) 0 [] 0) log Down × (map step_kind log ≡ messages_then_end messages)
  goes-down rounds nodes to_come waits =
      let on = first-message rounds nodes to_come waits in
      let entry = Did on.hands.label in
      let all : suc (messages - 1) ≡ messages = omega (arith, to_come, low) in
      let kept : Kept [] 0 = record { long = refl; large = refl } in
      let rest = runs (messages - 1) 1 on.after on.next (entry ∷ []) (omega (arith, to_come, low)) on.holds (kept-more [] 0 entry on.hands.size kept) in
      let kinds : map step_kind (entry ∷ rest.0) ≡ messages_then_end (suc (messages - 1)) = λ i. Some (on.hands.sends i) ∷ rest.2 i in
      (entry ∷ rest.0, (sim_at program on.after on.next (entry ∷ []) 1, turn-hands program (first_at (first_begins_with messages) 0 ∷ nodes) 0 [] 0 on.after on.next on.hands (omega arith) kept, rest.1), subst (λ (count : ℕ). map step_kind (entry ∷ rest.0) ≡ messages_then_end count) all kinds)

-- The opening bus.

pub first-opened : (messages : ℕ) → opened_one 1 1 [] (slice_get (ring_bodies messages) 1) ≡ first_at (first_begins_with messages) 0 ∷ []
first-opened messages = λ i. record { number = 1; body = 1; term = first-enters messages i; store = record { sort = sort.Int; value = begins-zero i } ∷ []; inbox = nothing } ∷ []

node-opened : (n messages i j : ℕ) → j ≡ next_of n i → opened_one i 0 (worth i ∷ worth j ∷ []) (slice_get (ring_bodies messages) 0) ≡ node_at n (node_waits true) i 0 ∷ []
node-opened n messages i j is = λ k. record { number = i; body = 0; term = node-enters k; store = slot i ∷ slot (is k) ∷ record { sort = sort.Int; value = begins-zero k } ∷ []; inbox = nothing } ∷ []

-- these are processes that wait
pub nodes-opened : (n messages i count : ℕ) → i + count ≡ n → AllWait n i (n + 1) (opened (ring_bodies messages) i (map link_root (links i count)))
nodes-opened n messages i zero is =
    let same : i ≡ n = omega (arith, is) in
    let last : 1 ≡ next_of n i = sym (ap (λ (b : Bool). cond b 1 (i + 1)) (eq-eqb i n same)) in
    subst (λ (ps : List Proc). AllWait n i (n + 1) (ps ++ [])) (sym (node-opened n messages i 1 last)) ((true, 0, refl), omega (arith, same))
nodes-opened n messages i (suc count) is =
    let next : i + 1 ≡ next_of n i = sym (ap (λ (b : Bool). cond b 1 (i + 1)) (ne_eqb i n (λ e. absurd (omega (arith, is, e))))) in
    let rest = opened (ring_bodies messages) (i + 1) (map link_root (links (i + 1) count)) in
    subst (λ (ps : List Proc). AllWait n i (n + 1) (ps ++ rest)) (sym (node-opened n messages i (i + 1) next)) ((true, 0, refl), nodes-opened n messages (i + 1) count (omega (arith, is)))
