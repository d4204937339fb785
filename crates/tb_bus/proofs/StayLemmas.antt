-- A bus that is down stays down, and what is to be handed out on its lanes only becomes less.
use Rattle.std.proofs.Common.{◌≡◌, ℕ, zero, suc, ◌-◌, ◌<◌, ◌==◌, Bool, true, false, List, [], ◌∷◌, ◌++◌, drop, length, slice_get, slice_index_or, Option, Some, None, if◌then◌else◌, Contains, refl, ap, sym, ◌∙◌, subst, arith}
use Rattle.std.specs.List.{cons_option}
use Rattle.std.proofs.lemmas.Bool.Decides.{nat_tests}
use Rattle.std.proofs.lemmas.Option.{same_Some}
use Rattle.tb_log.specs.Shapes.{IsLane}
use Rattle.tb_log.specs.Lanes.{handed_by, handed}
use Rattle.tb_log.specs.declared.entry.Label.{Label}
use Rattle.tb_log.specs.declared.entry.Input.{Input}
use Rattle.tb_log.specs.declared.entry.Out.{Out}
use Rattle.tb_log.specs.declared.entry.Reply.TheVariants.{Dropped}
use Rattle.tb_log.specs.declared.entry.Why.TheVariants.{Down}
use Rattle.tb_log.specs.declared.entry.Entry.{Entry}
use Rattle.tb_log.specs.declared.entry.Entry.TheVariants.{Did, Quiet, Fed, Gave}
use Rattle.tb_tools.specs.Lanes.{Lane, BenchState, unused, outs_at}
use Rattle.tb_tools.specs.Acts.{without_out, handed_out}
use Rattle.tb_tools.specs.Finding.{next_out}
use Rattle.tb_tools.proofs.Staying.{on_lane-others, on_lane-same}
use Rattle.tb_bus.specs.Buses.{Bus}
use Rattle.tb_bus.specs.Steps.{Move, Step, moves, moves_while_up, steps, first}
use Rattle.tb_bus.specs.Traces.{Answer, IsLegal, IsTrace, after, fed, replay, took}
use Rattle.tb_bus.proofs.TraceLemmas.{steps-none}

-- entries

no-moves : (bus : Bus) → bus.down ≡ true → moves bus ≡ []
unfolding moves
no-moves bus down = ap (λ (b : Bool). let ms : List Move = if b then [] else moves_while_up bus bus.procs in ms) down

-- A bus that is down makes no step,
pub no-steps : (bus : Bus) → bus.down ≡ true → steps bus ≡ []
no-steps bus down = steps-none bus (ap first (no-moves bus down))

none-there : (step : Step) → Contains [] step → ⊥
none-there step c = let below = c.1 in omega arith

-- so that no entry says that it did,
pub no_step-down : (bus : Bus) → bus.down ≡ true → (label : Label) (next : Bus) → IsLegal bus (Did label) next → ⊥
no_step-down bus down label next legal =
    let step : Step = record { label = label; bus = next } in
    none-there step (subst (λ (ss : List Step). Contains ss step) (no-steps bus down) legal)

-- and drops each input.
pub fed-down : (bus : Bus) (input : Input) → bus.down ≡ true → fed bus input ≡ record { reply = Dropped Down; bus = bus }
fed-down bus input down = ap (λ (b : Bool). let a : Answer = if b then record { reply = Dropped Down; bus = bus } else took bus input in a) down

-- lanes

is-there : (lanes : List Lane) (at : ℕ) (out : Out) → slice_get (slice_index_or lanes at unused).outs 0 ≡ Some out → at < length lanes
is-there [] at out e = cc
is-there (lane ∷ lanes) zero out e = omega arith
is-there (lane ∷ lanes) (suc at) out e = let rest = is-there lanes at out e in omega arith

first-and-rest : (outs : List Out) (out : Out) → slice_get outs 0 ≡ Some out → outs ≡ out ∷ drop 1 outs
first-and-rest [] out e = cc
first-and-rest (it ∷ outs) out e = ap (λ (o : Out). o ∷ outs) (same_Some it out e)

-- what was to be handed out next on a lane stood before all that still is
gave-here : (lane : ℕ) (bench : BenchState) (out : Out) → next_out lane bench ≡ Some out → outs_at lane bench ≡ out ∷ outs_at lane (handed_out lane bench)
gave-here lane bench out e =
    let same : outs_at lane (handed_out lane bench) ≡ drop 1 (outs_at lane bench) = ap (λ (l : Lane). l.outs) (on_lane-same without_out lane bench (is-there bench.lanes (lane - 1) out e)) in
    first-and-rest (outs_at lane bench) out e ∙ ap (λ (outs : List Out). out ∷ outs) (sym same)

same-number : (one other : ℕ) → (one == other) ≡ true → one ≡ other
same-number one other e = grind (arith, nat_tests)

other-number : (one other : ℕ) → (one == other) ≡ false → other ≡ one → ⊥
other-number one other e same = grind (arith, nat_tests)

gave-by : (lane at : ℕ) (bench : BenchState) (out : Out) (b : Bool) → (at == lane) ≡ b → IsLane lane → IsLane at → next_out at bench ≡ Some out →
    outs_at lane bench ≡ cons_option (if b then Some out else None) (outs_at lane (handed_out at bench))
gave-by lane at bench out true e l k there =
    subst (λ (n : ℕ). outs_at n bench ≡ out ∷ outs_at n (handed_out at bench)) (same-number at lane e) (gave-here at bench out there)
gave-by lane at bench out false e l k there =
    ap (λ (it : Lane). it.outs) (sym (on_lane-others without_out at lane bench k l (other-number at lane e)))

-- traces

-- after an entry a bus is still down, and what is to be handed out is what was, but for what the entry hands out
record Left (lane : ℕ) (bus : Bus) (entry : Entry) (next : Bus) : Type 0 where
  down : next.down ≡ true
  outs : outs_at lane bus.bench ≡ cons_option (handed_by lane entry) (outs_at lane next.bench)

left-after : (bus : Bus) (entry : Entry) (lane : ℕ) → IsLane lane → IsLegal bus entry (after bus entry) → bus.down ≡ true → Left lane bus entry (after bus entry)
left-after bus (Did label) lane l legal down = absurd (no_step-down bus down label (after bus (Did label)) legal)
left-after bus Quiet lane l legal down = record { down = down; outs = refl }
left-after bus (Fed input reply) lane l legal down =
    let same : bus ≡ (fed bus input).bus = ap (λ (a : Answer). a.bus) (sym (fed-down bus input down)) in
    record { down = subst (λ (b : Bus). b.down ≡ true) same down; outs = ap (λ (b : Bus). outs_at lane b.bench) same }
left-after bus (Gave at out) lane l legal down = record { down = down; outs = gave-by lane at bus.bench out (at == lane) refl l legal.0 legal.1 }

first-lane : IsLane 1
first-lane = (omega arith, omega arith)

-- A bus that is down stays down along each trace,
pub stays-down : (bus : Bus) (log : List Entry) → IsTrace bus log → bus.down ≡ true → (replay bus log).down ≡ true
stays-down bus [] trace down = down
stays-down bus (entry ∷ log) trace down =
    let left = left-after bus entry 1 first-lane trace.0 down in
    stays-down (after bus entry) log trace.1 left.down

further : (found : Option Out) (outs more left : List Out) → outs ≡ more ++ left → cons_option found outs ≡ cons_option found more ++ left
further None outs more left e = e
further (Some out) outs more left e = ap (λ (os : List Out). out ∷ os) e

-- and what is to be handed out on a lane is what the trace hands out there, and what then still is.
pub outs-down : (bus : Bus) (log : List Entry) (lane : ℕ) → IsLane lane → IsTrace bus log → bus.down ≡ true → outs_at lane bus.bench ≡ handed log lane ++ outs_at lane (replay bus log).bench
outs-down bus [] lane l trace down = refl
outs-down bus (entry ∷ log) lane l trace down =
    let left = left-after bus entry lane l trace.0 down in
    let next = after bus entry in
    left.outs ∙ further (handed_by lane entry) (outs_at lane next.bench) (handed log lane) (outs_at lane (replay next log).bench) (outs-down next log lane l trace.1 left.down)

none-left : (outs more left : List Out) → outs ≡ more ++ left → slice_get outs 0 ≡ None → slice_get left 0 ≡ None
none-left [] [] left e none = ap (λ (os : List Out). slice_get os 0) (sym e)
none-left [] (it ∷ more) left e none = cc
none-left (out ∷ outs) more left e none = cc

-- So a lane with nothing to hand out keeps nothing.
pub stays-empty : (bus : Bus) (log : List Entry) (lane : ℕ) → IsLane lane → IsTrace bus log → bus.down ≡ true → next_out lane bus.bench ≡ None → next_out lane (replay bus log).bench ≡ None
stays-empty bus log lane l trace down none =
    none-left (outs_at lane bus.bench) (handed log lane) (outs_at lane (replay bus log).bench) (outs-down bus log lane l trace down) none
