-- The simulation of the ring ends because the bus has shut down.
use Rattle.std.proofs.Common.{◌≡◌, ℕ, ◌+◌, ◌-◌, ◌*◌, ◌≤◌, List, [], ◌++◌, map, refl, ap, sym, subst, arith}
use Rattle.tb_body.specs.declared.program.Program.{Program}
use Rattle.tb_bus.specs.Buses.{Proc, opened}
use Rattle.tb_sim.specs.Simulation.{IsSim}
use Rattle.tb_sim.specs.declared.ends.SimEnd.TheVariants.{Down}
use Rattle.tb_ring_law.specs.Ends.{GoesDown}
use Rattle.tb_ring_law.specs.Helpers.Pieces.{ring_links}
use Rattle.tb_ring_law.specs.Helpers.Bodies.{link_root}
use Rattle.tb_ring_law.proofs.Programs.{ring_bodies}
use Rattle.tb_ring_law.proofs.Accepted.{ring_program, ring-found}
use Rattle.tb_ring_law.proofs.Runs.{limits, sim_at, goes-down, first-opened, nodes-opened}

pub ring-goes-down : (n k : ℕ) → 2 ≤ n → n ≤ 10000 → 1 ≤ k → n * k ≤ 1000000 → GoesDown n k
ring-goes-down n k least most positive few =
    let program : Program = ring_program n (n * k) least most in
    let nodes : List Proc = opened (ring_bodies (n * k)) 2 (map link_root (ring_links n)) in
    let rounds : k - 1 + 1 ≡ k = omega (arith, positive) in
    let down = goes-down n (n * k) program refl least few (k - 1) nodes (ap (λ (i : ℕ). n * i) rounds) (nodes-opened n (n * k) 2 (n - 2) (omega (arith, least))) in
    record {
      program = program;
      found = ring-found n k least most few;
      log = down.0;
      entries = down.2;
      ends = subst (λ (ps : List Proc). IsSim limits (sim_at program (ps ++ nodes) 0 [] 0) down.0 Down) (sym (first-opened (n * k))) down.1;
    }
