-- A log without capacity for an entry is at its limit. Each log that begins with it and is within the limit is at its limit too.
use Rattle.std.proofs.Common.{◌≡◌, ◌≤◌, ◌<◌, ◌+◌, ◌⊎◌, inl, inr, ℕ, max, nat_le, Bool, true, false, ◌&&◌, not, List, [], ◌∷◌, ◌++◌, map, length, length-append, append-nil, Option, Some, None, refl, sym, subst, arith}
use Rattle.std.proofs.lemmas.Bool.{leb-false}
use Rattle.std.proofs.lemmas.List.Sums.{sum_by-cons}
use Rattle.std.proofs.lemmas.Option.{same_Some}
use Rattle.tb_log.specs.Limits.{entry_size, log_size, has_room, most_size}
use Rattle.tb_log.specs.Shapes.{IsLane}
use Rattle.tb_log.specs.declared.entry.Out.{Out}
use Rattle.tb_log.specs.declared.entry.Entry.{Entry}
use Rattle.tb_log.specs.declared.entry.Entry.TheVariants.{Did, Quiet, Fed, Gave}
use Rattle.tb_tools.specs.Finding.{next_out}
use Rattle.tb_bus.specs.Buses.{Bus, start}
use Rattle.tb_bus.specs.Commands.{largest_command}
use Rattle.tb_bus.specs.Steps.{Step, steps}
use Rattle.tb_bus.specs.Traces.{IsTrace, after, fed}
use Rattle.tb_bus.specs.Reached.{Reaches}
use Rattle.tb_bus.proofs.SizeLemmas.{entry-limited}
use Rattle.tb_bus.proofs.TraceLemmas.{legal-first, legal-quiet, legal-fed, legal-gave}
use Rattle.tb_core.specs.Cores.{CoreState, Call, HandIn, MakeStep, HandOut, bus_now, ends_quiet, is_full, lacks_room, out_entry, step_entry, would_log}
use Rattle.tb_core.specs.Full.{IsAtLimit, MayCall}

-- what a call would log may follow on its bus

follows : (bus : Bus) (entry other : Entry) → Some entry ≡ Some other → IsTrace bus (entry ∷ []) → IsTrace bus (other ∷ [])
follows bus entry other e trace = subst (λ (it : Entry). IsTrace bus (it ∷ [])) (same_Some entry other e) trace

step-follows : (bus : Bus) (down quiet : Bool) (all : List Step) (entry : Entry) → steps bus ≡ all → bus.down ≡ down → step_entry down quiet all ≡ Some entry → IsTrace bus (entry ∷ [])
step-follows bus true quiet all entry e d h = cc
step-follows bus false true (step ∷ rest) entry e d h = follows bus (Did step.label) entry h (legal-first bus step rest e)
step-follows bus false false (step ∷ rest) entry e d h = follows bus (Did step.label) entry h (legal-first bus step rest e)
step-follows bus false true [] entry e d h = cc
step-follows bus false false [] entry e d h = follows bus Quiet entry h (legal-quiet bus e d)

out-follows : (bus : Bus) (lane : ℕ) (found : Option Out) (entry : Entry) → IsLane lane → next_out lane bus.bench ≡ found → out_entry lane found ≡ Some entry → IsTrace bus (entry ∷ [])
out-follows bus lane None entry l e h = cc
out-follows bus lane (Some out) entry l e h = follows bus (Gave lane out) entry h (legal-gave bus lane out l e)

call-follows : (core : CoreState) (call : Call) (entry : Entry) → MayCall call → would_log core call ≡ Some entry → IsTrace (bus_now core) (entry ∷ [])
call-follows core (HandIn input) entry may e =
    let reply = (fed (bus_now core) input).reply in
    follows (bus_now core) (Fed input reply) entry e (legal-fed (bus_now core) input reply may refl)
call-follows core MakeStep entry may e = step-follows (bus_now core) (bus_now core).down (ends_quiet core.log) (steps (bus_now core)) entry refl refl e
call-follows core (HandOut lane) entry may e = out-follows (bus_now core) lane (next_out lane (bus_now core).bench) entry may refl e

-- a core's bus is one that its origin reaches
pub now-reached : (core : CoreState) → IsTrace (start core.origin) core.log → Reaches core.origin (bus_now core)
unfolding bus_now
now-reached core trace = (core.log, trace, refl)

-- logs

log-append : (one other : List Entry) → log_size (one ++ other) ≡ log_size one + log_size other
log-append [] other = omega arith
log-append (entry ∷ one) other =
    let first : log_size (entry ∷ (one ++ other)) ≡ entry_size entry + log_size (one ++ other) = sum_by-cons (λ (n : ℕ). n) (entry_size entry) (map entry_size (one ++ other)) in
    let same : log_size (entry ∷ one) ≡ entry_size entry + log_size one = sum_by-cons (λ (n : ℕ). n) (entry_size entry) (map entry_size one) in
    let rest = log-append one other in
    omega arith

one-fails : (a b : Bool) → not (a && b) ≡ true → (a ≡ false) ⊎ (b ≡ false)
one-fails true true h = cc
one-fails true false h = inr refl
one-fails false b h = inl refl

not-within : (n most : ℕ) → nat_le n most ≡ false → most < n
not-within n most h = leb-false n most h

no-room : (limit : ℕ) (log : List Entry) (entry : Entry) → not (has_room limit log entry) ≡ true → (limit < length log + 1) ⊎ (most_size < log_size log + entry_size entry)
no-room limit log entry h = by (one-fails (nat_le (length log + 1) limit) (nat_le (log_size log + entry_size entry) most_size) h)
  where
    by : (nat_le (length log + 1) limit ≡ false) ⊎ (nat_le (log_size log + entry_size entry) most_size ≡ false) → (limit < length log + 1) ⊎ (most_size < log_size log + entry_size entry)
    by (inl e) = inl (not-within (length log + 1) limit e)
    by (inr e) = inr (not-within (log_size log + entry_size entry) most_size e)

all-there : (limit short rest long : ℕ) → limit < short + 1 → long ≡ short + rest → long ≤ limit → long ≡ limit
all-there limit short rest long a b c = omega arith

too-large : (most size entry rest larger : ℕ) (largest : ℕ) → most < size + entry → entry ≤ max 131072 largest → larger ≡ size + rest → most < larger + max 131072 largest
too-large most size entry rest larger largest a b c = omega arith

-- So a log that goes on within its limit is at that.
pub full-later : (core : CoreState) (call : Call) (more : List Entry) → IsTrace (start core.origin) core.log → MayCall call → is_full core call ≡ true → length (core.log ++ more) ≤ core.origin.limit →
    IsAtLimit (largest_command core.origin) core.origin (core.log ++ more)
full-later core call more trace may full within = by (would_log core call) refl full
  where
    which : (entry : Entry) → would_log core call ≡ Some entry → (core.origin.limit < length core.log + 1) ⊎ (most_size < log_size core.log + entry_size entry) →
        IsAtLimit (largest_command core.origin) core.origin (core.log ++ more)
    which entry e (inl few) = inl (all-there core.origin.limit (length core.log) (length more) (length (core.log ++ more)) few (length-append core.log more) within)
    which entry e (inr large) =
        let follow = call-follows core call entry may e in
        let limited = entry-limited core.origin (bus_now core) (after (bus_now core) entry) entry (now-reached core trace) follow.0 in
        inr (too-large most_size (log_size core.log) (entry_size entry) (log_size more) (log_size (core.log ++ more)) (largest_command core.origin) large limited (log-append core.log more))

    by : (found : Option Entry) → would_log core call ≡ found → lacks_room core found ≡ true → IsAtLimit (largest_command core.origin) core.origin (core.log ++ more)
    by None e h = cc
    by (Some entry) e h = which entry e (no-room core.origin.limit core.log entry h)

-- a log without capacity for an entry is at its limit
pub full-now : (core : CoreState) (call : Call) → IsTrace (start core.origin) core.log → MayCall call → is_full core call ≡ true → length core.log ≤ core.origin.limit →
    IsAtLimit (largest_command core.origin) core.origin core.log
full-now core call trace may full within =
    subst (IsAtLimit (largest_command core.origin) core.origin) (append-nil core.log)
    (full-later core call [] trace may full (subst (λ (log : List Entry). length log ≤ core.origin.limit) (sym (append-nil core.log)) within))
