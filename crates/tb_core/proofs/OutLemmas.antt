-- The next item that is queued on a lane of a core, and the entry of a call that takes it.
use Rattle.std.proofs.Common.{◌≡◌, ℕ, ap, sym, subst, ◌∙◌, Some, None, Bool, true, false, if◌then◌else◌}
use Rattle.tb_log.specs.declared.entry.Out.{Out}
use Rattle.tb_log.specs.declared.entry.Entry.TheVariants.{Gave}
use Rattle.tb_tools.specs.Finding.{next_out}
use Rattle.tb_bus.specs.Buses.{Bus}
use Rattle.tb_core.specs.Cores.{CoreState, HandOut, IsTakenOut, bus_now, out_entry, would_log}
use Rattle.tb_core.specs.declared.answers.TakeOut.{TakeOut}
use Rattle.tb_core.specs.declared.answers.TakeOut.TheVariants as taken

-- the call logs nothing where nothing is
pub nothing-on : (core : CoreState) (bus : Bus) (lane : ℕ) → bus_now core ≡ bus → next_out lane bus.bench ≡ None → would_log core (HandOut lane) ≡ None
nothing-on core bus lane e none = ap (λ (b : Bus). out_entry lane (next_out lane b.bench)) e ∙ ap (out_entry lane) none

-- else what is handed out
pub gave-on : (core : CoreState) (bus : Bus) (lane : ℕ) (out : Out) → bus_now core ≡ bus → next_out lane bus.bench ≡ Some out → would_log core (HandOut lane) ≡ Some (Gave lane out)
gave-on core bus lane out e found = ap (λ (b : Bus). out_entry lane (next_out lane b.bench)) e ∙ ap (out_entry lane) found

-- what is answered where nothing is
pub left-on : (core : CoreState) (bus : Bus) (lane : ℕ) (down : Bool) (answer : TakeOut) → bus_now core ≡ bus → next_out lane bus.bench ≡ None → bus.down ≡ down →
    answer ≡ (if down then taken.Closed else taken.Nothing) → IsTakenOut core lane answer
left-on core bus lane true answer e none down is =
    subst (IsTakenOut core lane) (sym is) (ap (λ (b : Bus). next_out lane b.bench) e ∙ none, ap (λ (b : Bus). b.down) e ∙ down)
left-on core bus lane false answer e none down is =
    subst (IsTakenOut core lane) (sym is) (ap (λ (b : Bus). next_out lane b.bench) e ∙ none, ap (λ (b : Bus). b.down) e ∙ down)
