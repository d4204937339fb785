-- Rows of processes that wait: they neither move nor take another's message.
use Rattle.std.proofs.Common.{◌≡◌, ℕ, ◌+◌, ◌≤◌, ◌<◌, Bool, true, false, cond, eqb, ltb, List, [], ◌∷◌, ◌++◌, filter, refl, ap, sym, ◌∙◌, subst, arith, ◌⊎◌, inl, inr}
use Rattle.std.specs.List.{flat_map}
use Rattle.std.proofs.lemmas.Bool.{le-ltb, ne_eqb, eq-eqb}
use Rattle.std.proofs.lemmas.Grind.{flat_map-append}
use Rattle.tb_match.specs.declared.bind.Bind.{Bind}
use Rattle.tb_body.specs.declared.program.Program.{Program}
use Rattle.tb_process_steps.specs.Offers.{Offered}
use Rattle.tb_process_steps.specs.Binds.{with_binds}
use Rattle.tb_bus.specs.Buses.{Proc, proc_left}
use Rattle.tb_bus.specs.Steps.{Move, advance, handshakes_with}
use Rattle.tb_ring_law.specs.Helpers.Buses.{bus_of, Waits, AllWait}
use Rattle.tb_ring_law.proofs.Programs.{ring_bodies}
use Rattle.tb_ring_law.proofs.Moves.{message, node-ignores}

pub wait-le : (n from to : ℕ) (procs : List Proc) → AllWait n from to procs → from ≤ to
wait-le n from to [] e = omega (arith, e)
wait-le n from to (proc ∷ procs) (here, behind) = let rest = wait-le n (from + 1) to procs behind in omega (arith, rest)

pub wait-append : (n from mid to : ℕ) (procs more : List Proc) → AllWait n from mid procs → AllWait n mid to more → AllWait n from to (procs ++ more)
wait-append n from mid to [] more e rest = subst (λ (i : ℕ). AllWait n i to more) (sym e) rest
wait-append n from mid to (proc ∷ procs) more (here, behind) rest = (here, wait-append n (from + 1) mid to procs more behind rest)

number-of : (n i : ℕ) (proc : Proc) → Waits n i proc → proc.number ≡ i
number-of n i proc (fresh, t, e) = ap (λ (p : Proc). p.number) e

-- no process is after the starter
pub none-after : (n starter from to : ℕ) (procs rest : List Proc) → AllWait n from to procs → to ≤ starter + 1 → filter (λ (proc : Proc). ltb starter proc.number) (procs ++ rest) ≡ filter (λ (proc : Proc). ltb starter proc.number) rest
none-after n starter from to [] rest e most = refl
none-after n starter from to (proc ∷ procs) rest (here, behind) most =
    let less = wait-le n (from + 1) to procs behind in
    let is = number-of n from proc here in
    let not_after : ltb starter proc.number ≡ false = le-ltb starter proc.number (omega (arith, less, most, is)) in
    ap (λ (b : Bool). cond b (proc ∷ filter (λ (p : Proc). ltb starter p.number) (procs ++ rest)) (filter (λ (p : Proc). ltb starter p.number) (procs ++ rest))) not_after
    ∙ none-after n starter (from + 1) to procs rest behind most

module _ (messages : ℕ) (program : Program) (bodies : program.bodies ≡ ring_bodies messages) (procs : List Proc) (starter : ℕ) where
  -- a message goes past those that wait with smaller numbers
  pub goes-past : (sender : Proc) (sent : Offered) (keeps : Proc → Bool) (n from to target v : ℕ) (before rest : List Proc) → AllWait n from to before → to ≤ target
      → flat_map (handshakes_with (bus_of program procs starter) sender sent (message target v)) (filter keeps (before ++ rest))
      ≡ flat_map (handshakes_with (bus_of program procs starter) sender sent (message target v)) (filter keeps rest)
  goes-past sender sent keeps n from to target v [] rest e most = refl
  goes-past sender sent keeps n from to target v (proc ∷ before) rest ((fresh, t, e), behind) most =
      let less = wait-le n (from + 1) to before behind in
      let nothing : handshakes_with (bus_of program procs starter) sender sent (message target v) proc ≡ [] =
      ap (handshakes_with (bus_of program procs starter) sender sent (message target v)) e ∙ node-ignores messages program bodies procs starter sender sent n from t target v fresh (omega (arith, less, most)) in
      kept_or_not nothing (keeps proc) ∙ goes-past sender sent keeps n (from + 1) to target v before rest behind most where
        kept_or_not : handshakes_with (bus_of program procs starter) sender sent (message target v) proc ≡ [] → (b : Bool)
            → flat_map (handshakes_with (bus_of program procs starter) sender sent (message target v)) (cond b (proc ∷ filter keeps (before ++ rest)) (filter keeps (before ++ rest)))
            ≡ flat_map (handshakes_with (bus_of program procs starter) sender sent (message target v)) (filter keeps (before ++ rest))
        kept_or_not nothing true = ap (λ (ms : List Move). ms ++ flat_map (handshakes_with (bus_of program procs starter) sender sent (message target v)) (filter keeps (before ++ rest))) nothing
        kept_or_not nothing false = refl

-- this one goes on
abbrev goes : ℕ → Offered → List Bind → Proc → List Proc
goes number offered binds proc = cond (eqb proc.number number) (proc_left proc (with_binds offered.store binds) offered.residual) (proc ∷ [])

-- who waits stays, where another goes on
pub stays : (n from to number : ℕ) (offered : Offered) (binds : List Bind) (procs : List Proc) → AllWait n from to procs → (number < from) ⊎ (to ≤ number) → advance number offered binds procs ≡ procs
unfolding advance
stays n from to number offered binds [] e far = refl
stays n from to number offered binds (proc ∷ procs) (here, behind) far =
    let less = wait-le n (from + 1) to procs behind in
    let is = number-of n from proc here in
    let other : eqb proc.number number ≡ false = ne_eqb proc.number number (differs from less is far) in
    ap (λ (b : Bool). cond b (proc_left proc (with_binds offered.store binds) offered.residual) (proc ∷ []) ++ advance number offered binds procs) other
    ∙ ap (λ (ps : List Proc). proc ∷ ps) (stays n (from + 1) to number offered binds procs behind (further far)) where
      differs : (i : ℕ) → i + 1 ≤ to → proc.number ≡ i → (number < i) ⊎ (to ≤ number) → proc.number ≡ number → ⊥
      differs i less is (inl below) e = omega (arith, less, is, below, e)
      differs i less is (inr above) e = omega (arith, less, is, above, e)

      further : (number < from) ⊎ (to ≤ number) → (number < from + 1) ⊎ (to ≤ number)
      further (inl below) = inl (omega (arith, below))
      further (inr above) = inr above

-- one process goes on, between those that wait
pub node-goes : (n mid from to number : ℕ) (offered : Offered) (binds : List Bind) (first : Proc) (before : List Proc) (proc now : Proc) (behind : List Proc)
    → first.number ≡ 1 → 2 ≤ number → AllWait n 2 mid before → mid ≤ number → proc.number ≡ number → proc_left proc (with_binds offered.store binds) offered.residual ≡ now ∷ []
    → AllWait n from to behind → number < from → advance number offered binds (first ∷ (before ++ (proc ∷ behind))) ≡ first ∷ (before ++ (now ∷ behind))
unfolding advance
node-goes n mid from to number offered binds first before proc now behind one least waits_before far_before is leaves waits_behind far_behind =
    let other : eqb first.number number ≡ false = ne_eqb first.number number (λ e. absurd (omega (arith, one, least, e))) in
    let here : eqb proc.number number ≡ true = eq-eqb proc.number number is in
    let g = goes number offered binds in
    ap (λ (b : Bool). cond b (proc_left first (with_binds offered.store binds) offered.residual) (first ∷ []) ++ flat_map g (before ++ (proc ∷ behind))) other
    ∙ ap (λ (ps : List Proc). first ∷ ps) (flat_map-append g before (proc ∷ behind)
    ∙ ap (λ (ps : List Proc). ps ++ flat_map g (proc ∷ behind)) (stays n 2 mid number offered binds before waits_before (inr far_before))
    ∙ ap (λ (b : Bool). before ++ (cond b (proc_left proc (with_binds offered.store binds) offered.residual) (proc ∷ []) ++ flat_map g behind)) here
    ∙ ap (λ (ps : List Proc). before ++ (ps ++ flat_map g behind)) leaves
    ∙ ap (λ (ps : List Proc). before ++ (now ∷ ps)) (stays n from to number offered binds behind waits_behind (inl far_behind)))

-- the first process goes on
pub first-goes : (n to : ℕ) (offered : Offered) (binds : List Bind) (proc now : Proc) (nodes : List Proc) → proc.number ≡ 1 → proc_left proc (with_binds offered.store binds) offered.residual ≡ now ∷ []
    → AllWait n 2 to nodes → advance 1 offered binds (proc ∷ nodes) ≡ now ∷ nodes
unfolding advance
first-goes n to offered binds proc now nodes is leaves waits =
    let g = goes 1 offered binds in
    ap (λ (b : Bool). cond b (proc_left proc (with_binds offered.store binds) offered.residual) (proc ∷ []) ++ flat_map g nodes) (eq-eqb proc.number 1 is)
    ∙ ap (λ (ps : List Proc). ps ++ flat_map g nodes) leaves
    ∙ ap (λ (ps : List Proc). now ∷ ps) (stays n 2 to 1 offered binds nodes waits (inl (omega arith)))
