-- A core that follows a log line by line, and its result.
use Rattle.std.proofs.Common.{◌≡◌, ◌⊎◌, ◌+◌, ◌<◌, ◌≤◌, ℕ, suc, nat_eq, nat_le, not, Bool, true, false, List, [], ◌∷◌, ◌++◌, length, map, Some, Result, Ok, Err, refl, ap, sym, ◌∙◌, subst, inl, inr, arith, append-nil, length-append}
use Rattle.std.specs.Prelude.{IfOk}
use Rattle.std.proofs.lemmas.Bool.{and_from, and_parts, eqb-true, false≢true, le-leb, leb-true}
use Rattle.std.proofs.lemmas.List.Elements.{All-nil}
use Rattle.std.proofs.lemmas.List.Sums.{sum_by-cons}
use Rattle.tb_bus.specs.Buses.{Bus, start}
use Rattle.tb_bus.specs.Traces.{IsLegal, IsTrace, after, replay}
use Rattle.tb_bus.specs.declared.origin.Origin.{Origin}
use Rattle.tb_bus.proofs.TraceLemmas.{trace-append}
use Rattle.tb_core.specs.Cores.{CoreState, Follows, IsCrowded, Logs, bus_now, lacks_room}
use Rattle.tb_log.specs.Limits.{entry_size, has_room, log_size, most_size}
use Rattle.tb_log.specs.LogText.{log_text}
use Rattle.tb_log.specs.Shapes.{InShape}
use Rattle.tb_log.specs.declared.entry.Entry.{Entry}
use Rattle.tb_log_read.specs.Lines.{IsLine, IsLog, first_line}
use Rattle.tb_log_read.proofs.LineReadings.{line_one}
use Rattle.tb_log_read.proofs.Logs.{is_longer, log-push, text-push}
use Rattle.tb_verify.specs.Verdicts.{IsCrowdedAt, IsTraceBefore, IsVerdict, LeavesAt}
use Rattle.tb_verify.specs.Helpers.Followed.{FollowsLine, IsCrowdedLine, IsFollowed, IsWithin, Settles}
use Rattle.tb_verify.specs.declared.verdict.Verdict.{Verdict}
use Rattle.tb_verify.specs.declared.verdict.Verdict.TheVariants as verdict
use Rattle.tb_verify.specs.declared.verdict.VerifyFault.{VerifyFault}
use Rattle.tb_verify.specs.declared.verdict.VerifyFault.TheVariants as fault
use Rattle.tb_verify.proofs.VerdictLemmas.{crowded_before, goes_past, one_verdict}

-- Room.

log-append : (one other : List Entry) → log_size (one ++ other) ≡ log_size one + log_size other
log-append [] other = omega arith
log-append (entry ∷ one) other =
    let first : log_size (entry ∷ (one ++ other)) ≡ entry_size entry + log_size (one ++ other) = sum_by-cons (λ (n : ℕ). n) (entry_size entry) (map entry_size (one ++ other)) in
    let same : log_size (entry ∷ one) ≡ entry_size entry + log_size one = sum_by-cons (λ (n : ℕ). n) (entry_size entry) (map entry_size one) in
    let rest = log-append one other in
    omega arith

one-entry : (entry : Entry) (more : List Entry) → log_size (entry ∷ more) ≡ entry_size entry + log_size more
one-entry entry more = sum_by-cons (λ (n : ℕ). n) (entry_size entry) (map entry_size more)

-- a log within its limits had capacity for each of its entries
had_room : (limit : ℕ) (log more whole : List Entry) (entry : Entry) → IsWithin limit whole → whole ≡ log ++ entry ∷ more → has_room limit log entry ≡ true
had_room limit log more whole entry w is =
    let long : length whole ≡ length log + suc (length more) = ap (λ (l : List Entry). length l) is ∙ length-append log (entry ∷ more) in
    let large : log_size whole ≡ log_size log + log_size (entry ∷ more) = ap log_size is ∙ log-append log (entry ∷ more) in
    let parts = one-entry entry more in
    let few : length whole ≤ limit = w.few in
    let small : log_size whole ≤ most_size = w.small in
    let a : length log + 1 ≤ limit = omega arith in
    let b : log_size log + entry_size entry ≤ most_size = omega arith in
    and_from (nat_le (length log + 1) limit) (nat_le (log_size log + entry_size entry) most_size) (le-leb (length log + 1) limit a) (le-leb (log_size log + entry_size entry) most_size b)

-- and a log that had capacity for an entry is within its limits with it
stays_within : (limit : ℕ) (log whole : List Entry) (entry : Entry) → has_room limit log entry ≡ true → whole ≡ log ++ entry ∷ [] → IsWithin limit whole
stays_within limit log whole entry h is =
    let p = and_parts (nat_le (length log + 1) limit) (nat_le (log_size log + entry_size entry) most_size) h in
    let a : length log + 1 ≤ limit = leb-true (length log + 1) limit p.0 in
    let b : log_size log + entry_size entry ≤ most_size = leb-true (log_size log + entry_size entry) most_size p.1 in
    let long : length whole ≡ length log + 1 = ap (λ (l : List Entry). length l) is ∙ length-append log (entry ∷ []) in
    let large : log_size whole ≡ log_size log + log_size (entry ∷ []) = ap log_size is ∙ log-append log (entry ∷ []) in
    let parts : log_size (entry ∷ []) ≡ entry_size entry + 0 = one-entry entry [] in
    record { few = omega arith; small = omega arith }

-- The core.

-- at first nothing is followed
pub follows-nothing : (origin : Origin) (bytes : List ℕ) (core : CoreState) → core.origin ≡ origin → core.stopped ≡ false → core.log ≡ [] → IsFollowed origin bytes bytes core
follows-nothing origin bytes core o r l = record {
  started = o;
  running = r;
  is_log = subst IsLog (sym l) (record { few = omega arith; proper = refl; shape = All-nil InShape });
  so_far = ap (λ (es : List Entry). log_text es ++ bytes) (sym l);
  trace = subst (IsTrace (start origin)) (sym l) tt;
  within = subst (IsWithin origin.limit) (sym l) (record { few = omega arith; small = omega arith });
}

bus_there : (origin : Origin) (core : CoreState) → core.origin ≡ origin → bus_now core ≡ replay (start origin) core.log
unfolding bus_now
bus_there origin core o = ap (λ (it : Origin). replay (start it) core.log) o

there : (b : Bool) → not b ≡ false → b ≡ true
there true h = refl
there false h = absurd (false≢true (sym h))

-- the effect of a line's entry is the effect of the line
pub follows-line : (old new : CoreState) (number : ℕ) (line : List ℕ) (entry : Entry) (legal : Bool) → IsLine number entry line → Follows old entry legal new → (legal ≡ true → lacks_room old (Some entry) ≡ false) → FollowsLine old number line legal new
follows-line old new number line entry true is f room = (entry, is, f, there (has_room old.origin.limit old.log entry) (room refl))
follows-line old new number line entry false is f room = λ other next it legal.
    f.1 next (subst (λ (e : Entry). IsLegal (bus_now old) e next) (line_one number number other entry line it is).1 legal)

-- a line more
pub follows-on : (origin : Origin) (bytes rest line later : List ℕ) (number : ℕ) (old new : CoreState) (legal : Bool) → IsFollowed origin bytes rest old → rest ≡ line ++ later → number ≡ length old.log + 1 → legal ≡ true → FollowsLine old number line legal new → IsFollowed origin bytes later new
follows-on origin bytes rest line later number old new false f parted count is h = cc
follows-on origin bytes rest line later number old new true f parted count is h =
    let entry = h.0 in
    let logs : Logs old new (entry ∷ []) = h.2 in
    let on = subst (λ (b : Bus). IsTrace b (entry ∷ [])) (bus_there origin old f.started) logs.trace in
    record {
      started = logs.origin ∙ f.started;
      running = logs.stopped ∙ f.running;
      is_log = log-push old.log new.log entry number line f.is_log h.1 count logs.log;
      so_far = text-push bytes rest line later old.log new.log entry number f.so_far parted h.1 count logs.log;
      trace = subst (IsTrace (start origin)) (sym logs.log) (trace-append (start origin) old.log (entry ∷ []) f.trace on);
      within = stays_within origin.limit old.log new.log entry (subst (λ (it : Origin). has_room it.limit old.log entry ≡ true) f.started h.3) logs.log;
    }

before : (origin : Origin) (bytes rest : List ℕ) (number : ℕ) (core : CoreState) → IsFollowed origin bytes rest core → (rest ≡ [] → ⊥) → number ≡ length core.log + 1 → IsTraceBefore origin bytes number core.log rest
before origin bytes rest number core f some count = record { is_log = f.is_log; before = f.so_far; counted = count; is_there = some; trace = f.trace }

-- no line that was followed is crowded
not_crowded : (origin : Origin) (bytes rest : List ℕ) (core : CoreState) → IsFollowed origin bytes rest core → (number : ℕ) (c : IsCrowdedAt origin bytes number) → length c.log < length core.log → ⊥
not_crowded origin bytes rest core f number c less =
    let past = goes_past origin bytes number c.log core.log c.rest rest c.is_before f.is_log f.so_far f.trace less in
    let same : past.entry ≡ c.entry = (line_one number number past.entry c.entry (first_line c.rest) past.line c.line).1 in
    let room : has_room origin.limit c.log past.entry ≡ true = had_room origin.limit c.log past.more core.log past.entry f.within past.is in
    false≢true (sym c.full ∙ ap (λ (e : Entry). has_room origin.limit c.log e) (sym same) ∙ room)

-- Its result.

-- to the end
pub settles-trace : (origin : Origin) (bytes rest : List ℕ) (core : CoreState) → IsFollowed origin bytes rest core → rest ≡ [] → Settles origin bytes (Ok verdict.Trace)
settles-trace origin bytes rest core f none =
    let text : bytes ≡ log_text core.log = f.so_far ∙ ap (λ (r : List ℕ). log_text core.log ++ r) none ∙ append-nil (log_text core.log) in (
      record { log = core.log; is_log = f.is_log; text = text; trace = f.trace },
      λ number c.
          not_crowded origin bytes rest core f number c
          (is_longer c.log core.log c.rest c.is_before.is_log f.is_log c.is_before.is_there (sym c.is_before.before ∙ text)),
    )

-- to a line that is none, or isn't legal
pub settles-line : (origin : Origin) (bytes rest line : List ℕ) (number : ℕ) (core new : CoreState) (legal : Bool) → IsFollowed origin bytes rest core → (rest ≡ [] → ⊥) → line ≡ first_line rest → number ≡ length core.log + 1 → legal ≡ false → FollowsLine core number line legal new → Settles origin bytes (Ok (verdict.Line number))
settles-line origin bytes rest line number core new true f some first count is h = cc
settles-line origin bytes rest line number core new false f some first count is h =
    let none : FollowsLine core number (first_line rest) false new = subst (λ (l : List ℕ). FollowsLine core number l false new) first h in
    let leaves : LeavesAt origin bytes number = record {
      log = core.log;
      rest = rest;
      is_before = before origin bytes rest number core f some count;
      is_none = λ entry next line legal.
          none entry next line (subst (λ (b : Bus). IsLegal b entry next) (sym (bus_there origin core f.started)) legal);
    } in (
      leaves,
      λ k c.
          let less_than : k < number = crowded_before origin bytes k number c leaves in
          let counted : k ≡ length c.log + 1 = c.is_before.counted in
          let less : length c.log < length core.log = omega arith in
          not_crowded origin bytes rest core f k c less,
    )

lacking : (b : Bool) → not b ≡ true → b ≡ false
lacking true h = absurd (false≢true h)
lacking false h = refl

-- to a line for which there is no capacity
settles-full : (origin : Origin) (bytes rest : List ℕ) (number : ℕ) (core : CoreState) → IsFollowed origin bytes rest core → (rest ≡ [] → ⊥) → number ≡ length core.log + 1 → IsCrowdedLine core number (first_line rest) → Settles origin bytes (Err fault.Full)
settles-full origin bytes rest number core f some count h =
    let entry = h.0 in
    let crowded : IsCrowded core entry = h.2 in
    let next = after (bus_now core) entry in (
      number,
      record {
        log = core.log;
        rest = rest;
        is_before = before origin bytes rest number core f some count;
        entry = entry;
        next = next;
        line = h.1;
        legal = subst (λ (b : Bus). IsLegal b entry next) (bus_there origin core f.started) crowded.legal;
        full = lacking (has_room origin.limit core.log entry) (subst (λ (it : Origin). not (has_room it.limit core.log entry) ≡ true) f.started crowded.full);
      },
    )

-- or an error
pub settles-fault : (origin : Origin) (bytes rest line : List ℕ) (number : ℕ) (core : CoreState) (it : VerifyFault) → IsFollowed origin bytes rest core → (rest ≡ [] → ⊥) → line ≡ first_line rest → number ≡ length core.log + 1 → (it ≡ fault.Full → IsCrowdedLine core number line) → Settles origin bytes (Err it)
settles-fault origin bytes rest line number core fault.Full f some first count h =
    settles-full origin bytes rest number core f some count (subst (λ (l : List ℕ). IsCrowdedLine core number l) first (h refl))
settles-fault origin bytes rest line number core fault.NoMemory f some first count h = tt

-- the number of the next line
pub line-number : (len : ℕ) (entries log : List Entry) → len ≡ length entries → entries ≡ log → len + 1 ≡ length log + 1
line-number len entries log long same = ap (λ (n : ℕ). n + 1) (long ∙ ap (λ (l : List Entry). length l) same)

pub some-left : (rest later : List ℕ) → length later < length rest → rest ≡ [] → ⊥
some-left rest later less none =
    let zero : length rest ≡ 0 = ap (λ (r : List ℕ). length r) none in
    omega arith

no-length : (n : ℕ) → suc n ≡ 0 → ⊥
no-length n e = omega arith

pub none-left : (rest : List ℕ) → nat_eq (length rest) 0 ≡ true → rest ≡ []
none-left [] e = refl
none-left (byte ∷ rest) e = absurd (no-length (length rest) (eqb-true (length (byte ∷ rest)) 0 e))

-- What that says of the answer.

abbrev Answer : Type 0
Answer = Result Verdict VerifyFault

pub tells-verdict : (origin : Origin) (bytes : List ℕ) (answer : Answer) → Settles origin bytes answer → IfOk answer (IsVerdict origin bytes)
tells-verdict origin bytes (Ok verdict) s = s.0
tells-verdict origin bytes (Err fault) s = tt

pub tells-only : (origin : Origin) (bytes : List ℕ) (answer : Answer) → Settles origin bytes answer → (verdict : Verdict) → IsVerdict origin bytes verdict → (answer ≡ Ok verdict) ⊎ ((answer ≡ Err fault.Full) ⊎ (answer ≡ Err fault.NoMemory))
tells-only origin bytes (Ok found) s verdict v = inl (ap (λ (it : Verdict). Ok it) (one_verdict origin bytes found verdict s.0 v))
tells-only origin bytes (Err fault.Full) s verdict v = inr (inl refl)
tells-only origin bytes (Err fault.NoMemory) s verdict v = inr (inr refl)

pub tells-full : (origin : Origin) (bytes : List ℕ) (answer : Answer) → Settles origin bytes answer → answer ≡ Err fault.Full → (number : ℕ) × IsCrowdedAt origin bytes number
tells-full origin bytes (Ok found) s e = cc
tells-full origin bytes (Err fault.Full) s e = s
tells-full origin bytes (Err fault.NoMemory) s e = cc

pub tells-crowded : (origin : Origin) (bytes : List ℕ) (answer : Answer) → Settles origin bytes answer → (number : ℕ) → IsCrowdedAt origin bytes number → (answer ≡ Err fault.Full) ⊎ (answer ≡ Err fault.NoMemory)
tells-crowded origin bytes (Ok found) s number c = absurd (s.1 number c)
tells-crowded origin bytes (Err fault.Full) s number c = inl refl
tells-crowded origin bytes (Err fault.NoMemory) s number c = inr refl
