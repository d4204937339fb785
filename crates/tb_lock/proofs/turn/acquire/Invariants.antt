use Rattle.std.proofs.Common.{◌≡◌, ◌%◌, ◌^◌, ℕ, []}
use Rattle.tb_lock.specs.Seats.{Waiting}
use Rattle.tb_lock.proofs.turn.acquire.Given as goal

abbrev pub invariant-loop : goal.invariant-loop
invariant-loop g l = (ticket : ℕ) × (l.ticket ≡ ticket % 2 ^ 64) × (l.holder.table_id ≡ l.fn.holder.table_id) × (l.holder.me ≡ (record l.fn.holder.me.0 { stage = Waiting ticket }, []))
