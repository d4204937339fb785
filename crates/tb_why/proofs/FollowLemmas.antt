-- A core that follows a log in two parts.
use Rattle.std.proofs.Common.{◌≡◌, ◌<◌, ◌≤◌, ◌+◌, ℕ, zero, suc, Bool, true, false, not, List, [], ◌∷◌, ◌++◌, length, take, drop, Option, Some, None, slice_get, get_or, Result, Err, IsErrOf, refl, ap, sym, ◌∙◌, subst, arith, add-one, append-nil, append_assoc, length-append, if◌then◌else◌}
use Rattle.std.proofs.lemmas.List.{take_all, drop_all}
use Rattle.std.proofs.lemmas.Result.{IfErr-at_err}
use Rattle.tb_bus.specs.Buses.{Bus, start}
use Rattle.tb_bus.specs.Traces.{IsLegal, IsTrace, after, replay}
use Rattle.tb_bus.specs.declared.origin.Origin.{Origin}
use Rattle.tb_bus.specs.Ends.{TakesDown}
use Rattle.tb_bus.proofs.DownLemmas.{down-is}
use Rattle.tb_bus.proofs.TraceLemmas.{replay-append, trace-append, trace-prefix, trace-rest}
use Rattle.tb_core.specs.Cores.{CoreState, Follows, IsCrowded, Logs, bus_now}
use Rattle.tb_log.specs.Limits.{has_room}
use Rattle.tb_log.specs.declared.entry.Entry.{Entry}
use Rattle.tb_log.specs.declared.entry.LabelKind.{LabelKind}
use Rattle.tb_log.specs.declared.entry.LabelKind.TheVariants as kind
use Rattle.tb_log.specs.LogText.{log_text}
use Rattle.tb_log_read.specs.Lines.{HasFault, IsLog}
use Rattle.tb_log_read.specs.declared.fault.LogFault.{LogFault}
use Rattle.tb_log_read.specs.declared.fault.LogFault.TheVariants as fault
use Rattle.tb_log_read.proofs.Logs.{log_not_stopped, same_logs}
use Rattle.tb_living.proofs.ReadLemmas.{read-there}
use Rattle.tb_why.specs.Ends.{ExplainsEnd, IsCrowdedText, IsTraceText, is_last, takes_down, while_up}
use Rattle.tb_why.specs.Helpers.Followed.{IsCrowdedIn, IsEnd}
use Rattle.tb_why.specs.Reasons.{waiters}
use Rattle.tb_why.specs.Standing.{standings}
use Rattle.tb_why.specs.declared.stall.Waiter.{Waiter}
use Rattle.tb_why.specs.declared.standing.Standing.{Standing}

-- Lists.

more-taken : {A : Type 0} (xs : List A) (k : ℕ) (x : A) → slice_get xs k ≡ Some x → take (suc k) xs ≡ take k xs ++ x ∷ []
more-taken [] k x e = absurd (let t : None ≡ Some x = e in cc)
more-taken (y ∷ ys) zero x e = let same : y ≡ x = cc in ap (λ (z : _). z ∷ []) same
more-taken (y ∷ ys) (suc k) x e = ap (λ (zs : List _). y ∷ zs) (more-taken ys k x e)

left-there : {A : Type 0} (xs : List A) (k : ℕ) (x : A) → slice_get xs k ≡ Some x → drop k xs ≡ x ∷ drop (suc k) xs
left-there [] k x e = absurd (let t : None ≡ Some x = e in cc)
left-there (y ∷ ys) zero x e = let same : y ≡ x = cc in ap (λ (z : _). z ∷ ys) same
left-there (y ∷ ys) (suc k) x e = left-there ys k x e

parted : {A : Type 0} (xs : List A) (k : ℕ) (x : A) → slice_get xs k ≡ Some x → xs ≡ take k xs ++ x ∷ drop (suc k) xs
parted [] k x e = absurd (let t : None ≡ Some x = e in cc)
parted (y ∷ ys) zero x e = let same : y ≡ x = cc in ap (λ (z : _). z ∷ ys) same
parted (y ∷ ys) (suc k) x e = ap (λ (zs : List _). y ∷ zs) (parted ys k x e)

pub both-parts : {A : Type 0} (xs : List A) (k : ℕ) → xs ≡ take k xs ++ drop k xs
both-parts [] zero = refl
both-parts [] (suc k) = refl
both-parts (y ∷ ys) zero = refl
both-parts (y ∷ ys) (suc k) = ap (λ (zs : List _). y ∷ zs) (both-parts ys k)

-- An error of a call is that of the call within it.

pub same-err : {A B E : Type 0} (one other : E) → IsErrOf {T = A} (Err one) other → IsErrOf {T = B} (Err one) other
same-err {B = B} {E = E} one other e = ap (λ (it : E). let r : Result B E = Err it in r) (IfErr-at_err (λ (it : E). one ≡ it) e refl)

-- The entries before the step that takes the bus down.

down-by : (entry : Entry) (log : List Entry) (down : Bool) → true ≡ down → (if down then [] else entry ∷ while_up log) ≡ []
down-by entry log true e = refl
down-by entry log false e = absurd (let t : true ≡ false = e in cc)

up-by : (entry : Entry) (log : List Entry) (down : Bool) → false ≡ down → (if down then [] else entry ∷ while_up log) ≡ entry ∷ while_up log
up-by entry log true e = absurd (let t : false ≡ true = e in cc)
up-by entry log false e = refl

-- they end there
pub up-ends : (log : List Entry) (k : ℕ) (entry : Entry) → k < length log → entry ≡ get_or log k entry → true ≡ takes_down entry → while_up log ≡ take k log ++ while_up (drop k log) → take k log ≡ while_up log
up-ends log k entry within is down so_far =
    let here = read-there log k entry within is in
    let none : while_up (drop k log) ≡ [] = ap while_up (left-there log k entry here) ∙ down-by entry (drop (suc k) log) (takes_down entry) down in
    sym (so_far ∙ ap (λ (es : List Entry). take k log ++ es) none ∙ append-nil (take k log))

-- or go on
pub up-goes-on : (log : List Entry) (k : ℕ) (entry : Entry) → k < length log → entry ≡ get_or log k entry → false ≡ takes_down entry → while_up log ≡ take k log ++ while_up (drop k log) → while_up log ≡ take (k + 1) log ++ while_up (drop (k + 1) log)
up-goes-on log k entry within is up so_far =
    let here = read-there log k entry within is in
    let later : List Entry = while_up (drop (suc k) log) in
    let more : while_up (drop k log) ≡ entry ∷ later = ap while_up (left-there log k entry here) ∙ up-by entry (drop (suc k) log) (takes_down entry) up in
    so_far ∙ ap (λ (es : List Entry). take k log ++ es) more ∙ sym (append_assoc (take k log) (entry ∷ []) later) ∙ ap (λ (es : List Entry). es ++ later) (sym (more-taken log k entry here))
    ∙ ap (λ (n : ℕ). take n log ++ while_up (drop n log)) (sym (add-one k))

-- to the end
pub up-whole : (log : List Entry) (k many : ℕ) → many ≤ k → many ≡ length log → while_up log ≡ take k log ++ while_up (drop k log) → take many log ≡ while_up log
up-whole log k many past long so_far =
    let none : while_up (drop k log) ≡ [] = ap while_up (drop_all k log (omega arith)) in
    take_all many log (omega arith) ∙ sym (so_far ∙ ap (λ (es : List Entry). take k log ++ es) none ∙ append-nil (take k log) ∙ take_all k log (omega arith))

-- The core.

-- what was logged first, and then
leads : (old new : CoreState) (entries : List Entry) → Logs old new entries → bus_now new ≡ replay (bus_now old) entries
unfolding bus_now
leads old new entries logs =
    ap (λ (o : Origin). replay (start o) new.log) logs.origin ∙ ap (replay (start old.origin)) logs.log ∙ replay-append (start old.origin) old.log entries

pub logs-nothing : (core : CoreState) → Logs core core []
logs-nothing core = record { origin = refl; log = sym (append-nil core.log); stopped = refl; trace = tt; spare = omega arith }

logs-then : (old middle new : CoreState) (xs ys : List Entry) → Logs old middle xs → Logs middle new ys → Logs old new (xs ++ ys)
logs-then old middle new xs ys p q =
    let long = length-append xs ys in
    let less : old.spare ≤ middle.spare + length xs = p.spare in
    let further : middle.spare ≤ new.spare + length ys = q.spare in
    record {
      origin = q.origin ∙ p.origin;
      log = q.log ∙ ap (λ (es : List Entry). es ++ ys) p.log ∙ append_assoc old.log xs ys;
      stopped = q.stopped ∙ p.stopped;
      trace = trace-append (bus_now old) xs ys p.trace (subst (λ (b : Bus). IsTrace b ys) (leads old middle xs p) q.trace);
      spare = omega arith;
    }

-- an entry more
pub logs-more : (old middle new : CoreState) (entries : List Entry) (k : ℕ) (entry : Entry) (legal : Bool) → k < length entries → entry ≡ get_or entries k entry → legal ≡ true →
    Logs old middle (take k entries) → Follows middle entry legal new → Logs old new (take (k + 1) entries)
logs-more old middle new entries k entry true within is e so_far follows =
    let more : take k entries ++ entry ∷ [] ≡ take (k + 1) entries = sym (more-taken entries k entry (read-there entries k entry within is)) ∙ ap (λ (n : ℕ). take n entries) (sym (add-one k)) in
    subst (Logs old new) more (logs-then old middle new (take k entries) (entry ∷ []) so_far follows)
logs-more old middle new entries k entry false within is e so_far follows = absurd (let t : false ≡ true = e in cc)

pub logs-all : (old new : CoreState) (entries : List Entry) (k : ℕ) → length entries ≤ k → Logs old new (take k entries) → Logs old new entries
logs-all old new entries k past logs = subst (Logs old new) (take_all k entries past) logs

-- an entry that can't come next is in no trace
pub logs-no-more : (old middle new : CoreState) (entries : List Entry) (k : ℕ) (entry : Entry) (legal : Bool) → k < length entries → entry ≡ get_or entries k entry → legal ≡ false →
    Logs old middle (take k entries) → Follows middle entry legal new → IsTrace (bus_now old) entries → ⊥
logs-no-more old middle new entries k entry true within is e so_far follows trace = absurd (let t : true ≡ false = e in cc)
logs-no-more old middle new entries k entry false within is e so_far follows trace =
    let here = read-there entries k entry within is in
    let there : Bus = replay (bus_now old) (take k entries) in
    let rest = trace-rest (bus_now old) (take k entries) (entry ∷ drop (suc k) entries) (subst (IsTrace (bus_now old)) (parted entries k entry here) trace) in
    follows.1 (after there entry) (subst (λ (b : Bus). IsLegal b entry (after there entry)) (sym (leads old middle (take k entries) so_far)) rest.0)

-- No capacity.

lacking : (b : Bool) → not b ≡ true → b ≡ false
lacking true e = absurd (let t : false ≡ true = e in cc)
lacking false e = refl

pub crowded-here : (old middle : CoreState) (entries : List Entry) (k : ℕ) (entry : Entry) → k < length entries → entry ≡ get_or entries k entry → Logs old middle (take k entries) → IsCrowded middle entry → IsCrowdedIn old entries
crowded-here old middle entries k entry within is so_far crowded =
    let here = read-there entries k entry within is in
    let there = leads old middle (take k entries) so_far in
    record {
      before = take k entries;
      entry = entry;
      later = drop (suc k) entries;
      parts = parted entries k entry here;
      trace = so_far.trace;
      legal = subst (λ (b : Bus). IsLegal b entry (after b entry)) there crowded.legal;
      full = ap (λ (o : Origin). has_room o.limit (old.log ++ take k entries) entry) (sym so_far.origin) ∙ ap (λ (es : List Entry). has_room middle.origin.limit es entry) (sym so_far.log)
          ∙ lacking (has_room middle.origin.limit middle.log entry) crowded.full;
    }

-- in the first of two parts
pub crowded-up : (first : CoreState) (log up down : List Entry) → log ≡ up ++ down → IsCrowdedIn first up → IsCrowdedIn first log
crowded-up first log up down parts c = record {
  before = c.before;
  entry = c.entry;
  later = c.later ++ down;
  parts = parts ∙ ap (λ (es : List Entry). es ++ down) c.parts ∙ append_assoc c.before (c.entry ∷ c.later) down;
  trace = c.trace;
  legal = c.legal;
  full = c.full;
}

-- and in the second
pub crowded-down : (first middle : CoreState) (log up down : List Entry) → log ≡ up ++ down → Logs first middle up → IsCrowdedIn middle down → IsCrowdedIn first log
crowded-down first middle log up down parts before c =
    let there = leads first middle up before in
    let further : replay (bus_now middle) c.before ≡ replay (bus_now first) (up ++ c.before) = ap (λ (b : Bus). replay b c.before) there ∙ sym (replay-append (bus_now first) up c.before) in
    record {
      before = up ++ c.before;
      entry = c.entry;
      later = c.later;
      parts = parts ∙ ap (λ (es : List Entry). up ++ es) c.parts ∙ sym (append_assoc up c.before (c.entry ∷ c.later));
      trace = trace-append (bus_now first) up c.before before.trace (subst (λ (b : Bus). IsTrace b c.before) there c.trace);
      legal = subst (λ (b : Bus). IsLegal b c.entry (after b c.entry)) further c.legal;
      full = ap (λ (o : Origin). has_room o.limit (first.log ++ (up ++ c.before)) c.entry) (sym before.origin)
          ∙ ap (λ (es : List Entry). has_room middle.origin.limit es c.entry) (sym (ap (λ (es : List Entry). es ++ c.before) before.log ∙ append_assoc first.log up c.before))
          ∙ c.full;
    }

-- Its end.

at-start : (core : CoreState) → core.log ≡ [] → bus_now core ≡ start core.origin
unfolding bus_now
at-start core none = ap (replay (start core.origin)) none

-- what is known of the two parts of a log
pub record InParts (first middle last : CoreState) (log up down : List Entry) : Type 0 where
  pub fresh : first.log ≡ []
  pub starts : up ≡ while_up log
  pub parts : log ≡ up ++ down
  pub one : Logs first middle up
  pub two : Logs middle last down

pub is-end : (first middle last : CoreState) (log up down : List Entry) (bus : Bus) (ticks : ℕ) (seen : List Standing) (lines : List Waiter) → InParts first middle last log up down → first.stopped ≡ false →
    bus ≡ bus_now middle → ticks ≡ bus.now → seen ≡ standings bus → lines ≡ waiters bus → IsEnd first.origin log last ticks seen lines
is-end first middle last log up down bus ticks seen lines parts running here now stands waits =
    let whole : Logs first last (up ++ down) = logs-then first middle last up down parts.one parts.two in
    let there : bus ≡ replay (start first.origin) (while_up log) = here ∙ leads first middle up parts.one ∙ ap (λ (b : Bus). replay b up) (at-start first parts.fresh) ∙ ap (replay (start first.origin)) parts.starts in
    record {
      trace = subst (IsTrace (start first.origin)) (sym parts.parts) (subst (λ (b : Bus). IsTrace b (up ++ down)) (at-start first parts.fresh) whole.trace);
      started = whole.origin;
      followed = whole.log ∙ ap (λ (es : List Entry). es ++ (up ++ down)) parts.fresh ∙ sym parts.parts;
      running = whole.stopped ∙ running;
      ticks_are = now ∙ ap (λ (b : Bus). b.now) there;
      stands = stands ∙ ap standings there;
      waits = waits ∙ ap waiters there;
    }

-- a log that is a trace is one up to its middle, and from there
pub not-up : (first : CoreState) (log up down : List Entry) → first.log ≡ [] → log ≡ up ++ down → (IsTrace (bus_now first) up → ⊥) → IsTrace (start first.origin) log → ⊥
not-up first log up down fresh parts never trace =
    never (subst (λ (b : Bus). IsTrace b up) (sym (at-start first fresh)) (trace-prefix (start first.origin) up down (subst (IsTrace (start first.origin)) parts trace)))

pub not-down : (first middle : CoreState) (log up down : List Entry) → first.log ≡ [] → log ≡ up ++ down → Logs first middle up → (IsTrace (bus_now middle) down → ⊥) → IsTrace (start first.origin) log → ⊥
not-down first middle log up down fresh parts before never trace =
    let there : bus_now middle ≡ replay (start first.origin) up = leads first middle up before ∙ ap (λ (b : Bus). replay b up) (at-start first fresh) in
    never (subst (λ (b : Bus). IsTrace b down) (sym there) (trace-rest (start first.origin) up down (subst (IsTrace (start first.origin)) parts trace)))

-- What that says of the bytes.

-- a line that is none is in no text of a log
pub not-stopped : (bytes : List ℕ) (found : LogFault) → (found ≡ fault.NoMemory → ⊥) → HasFault bytes found → (log : List Entry) → IsLog log → bytes ≡ log_text log → ⊥
not-stopped bytes (fault.Line number) other stops log is_log text = log_not_stopped bytes log number is_log text stops
not-stopped bytes fault.NoMemory other stops log is_log text = other refl

pub explains : (origin : Origin) (bytes : List ℕ) (log : List Entry) (first core : CoreState) (ticks : ℕ) (seen : List Standing) (lines : List Waiter) →
    IsLog log → bytes ≡ log_text log → first.origin ≡ origin → IsEnd first.origin log core ticks seen lines → ExplainsEnd origin bytes core ticks seen lines
explains origin bytes log first core ticks seen lines is_log text started end =
    let it : IsEnd origin log core ticks seen lines = subst (λ (o : Origin). IsEnd o log core ticks seen lines) started end in
    record { log = log; is_log = is_log; text = text; trace = it.trace; started = it.started; followed = it.followed; running = it.running; ticks_are = it.ticks_are; stands = it.stands; waits = it.waits }

pub no-trace : (origin : Origin) (bytes : List ℕ) (log : List Entry) (first : CoreState) → IsLog log → bytes ≡ log_text log → first.origin ≡ origin → (IsTrace (start first.origin) log → ⊥) → IsTraceText origin bytes → ⊥
no-trace origin bytes log first is_log text started never it =
    let same : it.log ≡ log = same_logs it.log log it.is_log is_log (sym it.text ∙ text) in
    never (subst (λ (o : Origin). IsTrace (start o) log) (sym started) (subst (IsTrace (start origin)) same it.trace))

pub crowded : (origin : Origin) (bytes : List ℕ) (log : List Entry) (first : CoreState) → IsLog log → bytes ≡ log_text log → first.origin ≡ origin → first.log ≡ [] → IsCrowdedIn first log → IsCrowdedText origin bytes
crowded origin bytes log first is_log text started fresh c =
    let there : bus_now first ≡ start origin = at-start first fresh ∙ ap start started in
    record {
      log = log;
      before = c.before;
      entry = c.entry;
      later = c.later;
      is_log = is_log;
      text = text;
      parts = c.parts;
      trace = subst (λ (b : Bus). IsTrace b c.before) there c.trace;
      legal = subst (λ (b : Bus). IsLegal (replay b c.before) c.entry (after (replay b c.before) c.entry)) there c.legal;
      full = ap (λ (o : Origin). has_room o.limit c.before c.entry) (sym started) ∙ ap (λ (es : List Entry). has_room first.origin.limit (es ++ c.before) c.entry) (sym fresh) ∙ c.full;
    }

-- The bus that is explained hasn't shut down.

last-is : (kind : LabelKind) → TakesDown kind → is_last kind ≡ true
last-is kind.Finish h = refl
last-is kind.Halt h = refl
last-is kind.Shutdown h = refl
last-is other h = absurd h

up-after : (bus : Bus) (entry : Entry) (down : Bool) → IsLegal bus entry (after bus entry) → bus.down ≡ false → takes_down entry ≡ false → (after bus entry).down ≡ down → (after bus entry).down ≡ false
up-after bus entry true legal up none e =
    let is = down-is bus (after bus entry) entry legal up e in
    let taken : takes_down entry ≡ true = ap takes_down is.1 ∙ last-is is.0.kind is.2 in
    absurd (let t : false ≡ true = sym none ∙ taken in cc)
up-after bus entry false legal up none e = e

up-if : (bus : Bus) (entry : Entry) (log : List Entry) (down : Bool) → bus.down ≡ false → (down ≡ false → (replay (after bus entry) (while_up log)).down ≡ false) → (replay bus (if down then [] else entry ∷ while_up log)).down ≡ false
up-if bus entry log true up later = up
up-if bus entry log false up later = later refl

pub stays-up : (bus : Bus) (log : List Entry) → IsTrace bus log → bus.down ≡ false → (replay bus (while_up log)).down ≡ false
stays-up bus [] trace up = up
stays-up bus (entry ∷ log) trace up =
    up-if bus entry log (takes_down entry) up (λ none. stays-up (after bus entry) log trace.1 (up-after bus entry (after bus entry).down trace.0 up none refl))
