-- A tick leaves the processes in order: each is where its body may have led it, a tick later.
use Rattle.std.proofs.Common.{◌+◌, ◌<◌, ℕ, List, [], ◌∷◌, map}
use Rattle.std.proofs.lemmas.List.Elements.{All-map, All-weaker}
use Rattle.tb_body.specs.declared.body.Body.{Body}
use Rattle.tb_process_steps.specs.Reached.{grew_older}
use Rattle.tb_bus.specs.Buses.{Bus, Proc}
use Rattle.tb_bus.specs.Traces.{aged_proc}
use Rattle.tb_bus.proofs.OrderLemmas.{Ascend, IsLed, InOrder}

aged-ascend : (below : ℕ) (procs : List Proc) → Ascend below procs → Ascend below (map aged_proc procs)
aged-ascend below [] h = tt
aged-ascend below (proc ∷ procs) h = (h.0, aged-ascend proc.number procs h.1)

aged-led : (bodies : List Body) (proc : Proc) → IsLed bodies proc → IsLed bodies (aged_proc proc)
aged-led bodies proc h = (h.0, h.1, (h.2.0 + 1, grew_older h.2.1))

pub ticked-in_order : (bus : Bus) → InOrder bus → InOrder (record bus { procs = map aged_proc bus.procs; now = bus.now + 1 })
ticked-in_order bus h = record {
  ascend = aged-ascend 0 bus.procs h.ascend;
  below = All-map (λ (proc : Proc). proc.number < bus.next_number) aged_proc bus.procs h.below;
  led = All-map (IsLed bus.program.bodies) aged_proc bus.procs
      (All-weaker (IsLed bus.program.bodies) (λ proc. IsLed bus.program.bodies (aged_proc proc)) (aged-led bus.program.bodies) bus.procs h.led);
}
