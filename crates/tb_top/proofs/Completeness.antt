-- If no part of the environment fails, and no limit is met, a command ends well, or memory ran out.
use Rattle.std.proofs.Common.{◌≡◌, ◌≢◌, ℕ, ◌*◌, ◌<◌, ◌≤◌, Option, Some, None, List, [], ◌∷◌, Result, Ok, Err, refl, ap, sym, ◌∙◌, subst, length, inl, inr, ◌⊎◌, arith}
use Rattle.tb_body.specs.declared.program.Program.{Program}
use Rattle.tb_bus.specs.declared.origin.Origin.{Origin}
use Rattle.tb_bus.specs.Buses.{start}
use Rattle.tb_cli.specs.declared.command.Command.{Command}
use Rattle.tb_cli.specs.declared.command.Command.TheVariants as command
use Rattle.tb_edge.specs.Faults.{Rose}
use Rattle.tb_load.proofs.LoadLemmas.{is-told, not-bad, not-long, not-refused, one-program, told-within}
use Rattle.tb_run.specs.Views.{OutsideView}
use Rattle.tb_run.specs.declared.ends.RunWhy.TheVariants as why
use Rattle.tb_top.specs.Run.{IsRun, LiveOutcome, RunRequest}
use Rattle.tb_expand.specs.declared.fault.ExpandFault.TheVariants as expand
use Rattle.tb_feed.specs.Feeds.{IsFeedOf, IsFirstBad}
use Rattle.tb_feed.specs.declared.fault.FeedFault.{FeedFault}
use Rattle.tb_feed.specs.declared.fault.FeedFault.TheVariants as feed_fault
use Rattle.tb_feed.proofs.FeedLemmas.{feed-fine, one-feed}
use Rattle.tb_log.specs.declared.entry.Entry.{Entry}
use Rattle.tb_log.specs.declared.entry.Input.{Input}
use Rattle.tb_gen.specs.Ring.{ring_text}
use Rattle.tb_iface.specs.Interfaces.{interface_of}
use Rattle.tb_iface.specs.declared.answer.Interface.{Interface}
use Rattle.tb_ring_law.specs.Ends.{GoesDown}
use Rattle.tb_ring_law.proofs.GoesDown.{ring-goes-down}
use Rattle.tb_script.specs.Findings.{IsFound, NoTokens, NoScript, Improper, Recursive, Large, ManyRoots, Program'}
use Rattle.tb_script.specs.declared.fault.ScriptFault.{ScriptFault}
use Rattle.tb_script.specs.declared.fault.ScriptFault.TheVariants as script
use Rattle.tb_sim.specs.Simulation.{IsSim, limits_of, sim_start}
use Rattle.tb_sim.specs.declared.ends.SimEnd.{SimEnd}
use Rattle.tb_sim.specs.declared.ends.SimEnd.TheVariants as sim
use Rattle.tb_sim.proofs.SimTraces.{one-sim}
use Rattle.tb_top.specs.Check.{CheckOutcome}
use Rattle.tb_load.specs.Loading.{HasProgram, IsBadScript, IsLoaded, IsLoadedWithin, IsLongerThan, IsRefused, IsTooLong, most_bytes}
use Rattle.tb_top.specs.Outcomes.{Comes}
use Rattle.tb_top.specs.Causes.{IsCaused}
use Rattle.tb_top.specs.Completeness.{Due, Judged, Crowd, Long, IsDue, MustEnd, MustTell, Reads, due_status, tool_status}
use Rattle.tb_top.specs.Iface.{IfaceOutcome}
use Rattle.tb_top.specs.Reporting.{Reported, Reports}
use Rattle.tb_top.specs.Ring.{IsRingOf, RingOutcome, most_of_ring, ring_origin}
use Rattle.tb_top.specs.Sim.{IsFed, IsFeedRefused, IsSimOf, Request, SimOutcome, origin_for}
use Rattle.tb_top.specs.Statuses.{status_of}
use Rattle.tb_top.specs.Verify.{HasVerdict, IsCrowded, IsJudged, VerifyOutcome, VerifyRequest, log_origin, most_log_bytes}
use Rattle.tb_top.specs.Views.{Seen}
use Rattle.tb_verify.specs.declared.verdict.Verdict.TheVariants as verdict
use Rattle.tb_verify.proofs.VerdictLemmas.{one_verdict}
use Rattle.tb_top.specs.declared.fault.Fault.{Fault}
use Rattle.tb_top.specs.declared.fault.Fault.TheVariants.{Script, Feed, Words, File, Out, Clock, Crew, Limit, NoMemory, Log, Stranger}
use Rattle.tb_top.specs.declared.status.Status.{Status}
use Rattle.tb_top.specs.declared.status.Status.TheVariants as status
use Rattle.tb_top.specs.declared.status.Edge.TheVariants as edge
use Rattle.tb_top.specs.declared.status.Bound.TheVariants as bound
use Rattle.tb_top.specs.declared.status.LogWrong.TheVariants as log_wrong

-- what a command answers that ends well, or for which memory ran out
abbrev pub IsWell : {A : Type 0} → Result A Fault → Type 0
IsWell (Ok done) = Unit {0}
IsWell (Err NoMemory) = Unit {0}
IsWell _ = ⊥

-- `check` of a script that is accepted
pub check-well : {A : Type 0} (bytes : List ℕ) (program : Program) (old new : Option (List ℕ)) (answer : Result A Fault) → length bytes ≤ most_bytes → IsFound bytes (Program' program) →
    (answer ≡ Err File → ⊥) → (answer ≡ Err Out → ⊥) → CheckOutcome (Some bytes) old new answer → IsWell answer
check-well bytes program old new (Ok done) few found file out h = tt
check-well bytes program old new (Err NoMemory) few found file out h = tt
check-well bytes program old new (Err File) few found file out h = absurd (file refl)
check-well bytes program old new (Err Out) few found file out h = absurd (out refl)
check-well bytes program old new (Err (Script fault)) few found file out h = absurd (not-bad bytes program fault few found h.0)
check-well bytes program old new (Err (Feed fault)) few found file out h = absurd h
check-well bytes program old new (Err (Words fault)) few found file out h = absurd h
check-well bytes program old new (Err Clock) few found file out h = absurd h
check-well bytes program old new (Err Crew) few found file out h = absurd h
check-well bytes program old new (Err (Log wrong)) few found file out h = absurd h
check-well bytes program old new (Err Stranger) few found file out h = absurd h
check-well bytes program old new (Err (Limit bound)) few found file out h = absurd h

-- an error of a feed that reads
not-unread : (held : List ℕ → Option (List ℕ)) (feed : Option (List ℕ)) (inputs : List Input) (fault : FeedFault) → Reads held feed inputs → IsFeedRefused held feed fault → ⊥
not-unread held None inputs fault reads h = h
not-unread held (Some name) inputs (feed_fault.Line number) (bytes, told, few, is) (all, loaded, bad) =
    feed-fine bytes inputs number is (subst (λ (bs : List ℕ). IsFirstBad bs number) (is-told (held name) bytes all told loaded) bad)
not-unread held (Some name) inputs (feed_fault.TooLong len) (bytes, told, few, is) h =
    not-long bytes len few (subst (λ (file : Option (List ℕ)). IsTooLong file len) told h)
not-unread held (Some name) inputs feed_fault.NoMemory reads h = h

-- the inputs of a feed that reads are those that are fed
one-fed : (held : List ℕ → Option (List ℕ)) (feed : Option (List ℕ)) (inputs others : List Input) → Reads held feed inputs → IsFed held feed others → others ≡ inputs
one-fed held None inputs others reads fed = fed ∙ sym reads
one-fed held (Some name) inputs others (bytes, told, few, is) (all, loaded, fed) =
    one-feed bytes others inputs (subst (λ (bs : List ℕ). IsFeedOf bs others) (is-told (held name) bytes all told loaded) fed) is

-- a program and inputs have one simulation
same-end : (request : Request) (program other : Program) (inputs others : List Input) (log more : List Entry) (last : SimEnd) → other ≡ program → others ≡ inputs →
    IsSim (limits_of request.steps (origin_for request program)) (sim_start (start (origin_for request program)) inputs) log sim.Down →
    IsSim (limits_of request.steps (origin_for request other)) (sim_start (start (origin_for request other)) others) more last → last ≡ sim.Down
same-end request program other inputs others log more last p i ends is =
    let moved : IsSim (limits_of request.steps (origin_for request program)) (sim_start (start (origin_for request program)) inputs) more last =
    subst (λ (q : Program). IsSim (limits_of request.steps (origin_for request q)) (sim_start (start (origin_for request q)) inputs) more last) p
    (subst (λ (xs : List Input). IsSim (limits_of request.steps (origin_for request other)) (sim_start (start (origin_for request other)) xs) more last) i is) in
    (one-sim (limits_of request.steps (origin_for request program)) (sim_start (start (origin_for request program)) inputs) more log last sim.Down moved ends).1

ends-down : (held : List ℕ → Option (List ℕ)) (request : Request) (log : List Entry) (last : SimEnd) → MustEnd held request → IsSimOf held request log last → last ≡ sim.Down
ends-down held request log last must is =
    same-end request must.program is.program must.inputs is.inputs must.log log last
    (one-program (held request.script) must.bytes must.program is.program must.told must.found is.has) (one-fed held request.feed must.inputs is.inputs must.reads is.fed) must.ends is.simulated

pub sim-well : {A : Type 0} (held : List ℕ → Option (List ℕ)) (request : Request) (old new : Option (List ℕ)) (answer : Result A Fault) → MustEnd held request →
    (answer ≡ Err File → ⊥) → (answer ≡ Err Out → ⊥) → SimOutcome held request old new answer → IsWell answer
sim-well held request old new (Ok done) must file out h = tt
sim-well held request old new (Err NoMemory) must file out h = tt
sim-well held request old new (Err File) must file out h = absurd (file refl)
sim-well held request old new (Err Out) must file out h = absurd (out refl)
sim-well held request old new (Err (Script fault)) must file out h =
    absurd (not-bad must.bytes must.program fault must.few must.found (subst (λ (told : Option (List ℕ)). IsBadScript told fault) must.told h.0))
sim-well held request old new (Err (Feed fault)) must file out h = absurd (not-unread held request.feed must.inputs fault must.reads h.1)
sim-well held request old new (Err (Words fault)) must file out h = absurd h
sim-well held request old new (Err Clock) must file out h = absurd h
sim-well held request old new (Err Crew) must file out h = absurd h
sim-well held request old new (Err (Log wrong)) must file out h = absurd h
sim-well held request old new (Err Stranger) must file out h = absurd h
sim-well held request old new (Err (Limit bound.Steps)) must file out (log, is, put) = let e : sim.Steps ≡ sim.Down = ends-down held request log sim.Steps must is in cc
sim-well held request old new (Err (Limit bound.Events)) must file out (log, is, put) = let e : sim.Events ≡ sim.Down = ends-down held request log sim.Events must is in cc

-- what is reported of an answer that ends well, or for which memory ran out
pub reported-well : {A : Type 0} (answer : Result A Fault) (old new : Option (List ℕ)) (it : Status) → IsWell answer → (it ≡ status.Outside edge.Err → ⊥) → Reports answer old new it → (it ≡ status.Ended) ⊎ (it ≡ status.NoMemory)
reported-well (Ok done) old new it well err h = inl h.0
reported-well (Err NoMemory) old new it well err (inl h) = inr h.0
reported-well (Err NoMemory) old new it well err (inr h) = absurd (err h.0)
reported-well (Err File) old new it well err h = absurd well
reported-well (Err Out) old new it well err h = absurd well
reported-well (Err Clock) old new it well err h = absurd well
reported-well (Err Crew) old new it well err h = absurd well
reported-well (Err (Log wrong)) old new it well err h = absurd well
reported-well (Err Stranger) old new it well err h = absurd well
reported-well (Err (Script fault)) old new it well err h = absurd well
reported-well (Err (Feed fault)) old new it well err h = absurd well
reported-well (Err (Words fault)) old new it well err h = absurd well
reported-well (Err (Limit bound)) old new it well err h = absurd well

-- no part of the environment failed in the call
file-stays : {A : Type 0} (old new : Seen) (answer : Result A Fault) → (Rose old.file_faults new.file_faults → ⊥) → IsCaused old new answer → answer ≡ Err File → ⊥
file-stays {A} old new answer stays caused e = stays (subst (λ (it : Result A Fault). IsCaused old new it) e caused)

out-stays : {A : Type 0} (old new : Seen) (answer : Result A Fault) → (Rose old.outside.out_faults new.outside.out_faults → ⊥) → IsCaused old new answer → answer ≡ Err Out → ⊥
out-stays {A} old new answer stays caused e = stays (subst (λ (it : Result A Fault). IsCaused old new it) e caused)

pub check-completes : (A : Type 0) (script bytes : List ℕ) (program : Program) (old new : Seen) (told more : Option (List ℕ)) (it : Status) →
    old.held script ≡ Some bytes → length bytes ≤ most_bytes → IsFound bytes (Program' program) → (Rose old.file_faults new.file_faults → ⊥) → (Rose old.outside.out_faults new.outside.out_faults → ⊥) → (it ≡ status.Outside edge.Err → ⊥) →
    Reported {A = A} (Comes (Ok (command.Check script)) old new) told more it → (it ≡ status.Ended) ⊎ (it ≡ status.NoMemory)
check-completes A script bytes program old new told more it holds few found file out err (answer, comes, reports) =
    reported-well answer told more it
    (check-well bytes program old.outside.put new.outside.put answer few found (file-stays old new answer file comes.caused) (out-stays old new answer out comes.caused)
    (subst (λ (held : Option (List ℕ)). CheckOutcome held old.outside.put new.outside.put answer) holds comes.outcome.0))
    err reports

pub sim-completes : (A : Type 0) (request : Request) (old new : Seen) (told more : Option (List ℕ)) (it : Status) →
    MustEnd old.held request → (Rose old.file_faults new.file_faults → ⊥) → (Rose old.outside.out_faults new.outside.out_faults → ⊥) → (it ≡ status.Outside edge.Err → ⊥) →
    Reported {A = A} (Comes (Ok (command.Sim request.script request.feed request.connects request.steps request.events)) old new) told more it → (it ≡ status.Ended) ⊎ (it ≡ status.NoMemory)
sim-completes A request old new told more it must file out err (answer, comes, reports) =
    reported-well answer told more it
    (sim-well old.held request old.outside.put new.outside.put answer must (file-stays old new answer file comes.caused) (out-stays old new answer out comes.caused) comes.outcome.0)
    err reports

-- the answer of `run` for a script that is accepted, if no part of the environment fails
abbrev pub EndsLive : {A : Type 0} → (List ℕ → Option (List ℕ)) → RunRequest → OutsideView → OutsideView → Result A Fault → Type 0
EndsLive held request old new (Ok done) = Unit {0}
EndsLive held request old new (Err NoMemory) = Unit {0}
EndsLive held request old new (Err (Limit bound.Events)) = IsRun held request old new why.Events
EndsLive held request old new _ = ⊥

run-well : {A : Type 0} (held : List ℕ → Option (List ℕ)) (request : RunRequest) (bytes : List ℕ) (program : Program) (old new : OutsideView) (answer : Result A Fault) →
    held request.script ≡ Some bytes → length bytes ≤ most_bytes → IsFound bytes (Program' program) →
    (answer ≡ Err File → ⊥) → (answer ≡ Err Out → ⊥) → (answer ≡ Err Clock → ⊥) → (answer ≡ Err Crew → ⊥) → LiveOutcome held request old new answer → EndsLive held request old new answer
run-well held request bytes program old new (Ok done) told few found file out clock crew h = tt
run-well held request bytes program old new (Err NoMemory) told few found file out clock crew h = tt
run-well held request bytes program old new (Err (Limit bound.Events)) told few found file out clock crew h = h
run-well held request bytes program old new (Err (Limit bound.Steps)) told few found file out clock crew h = h
run-well held request bytes program old new (Err File) told few found file out clock crew h = file refl
run-well held request bytes program old new (Err Out) told few found file out clock crew h = out refl
run-well held request bytes program old new (Err Clock) told few found file out clock crew h = clock refl
run-well held request bytes program old new (Err Crew) told few found file out clock crew h = crew refl
run-well held request bytes program old new (Err (Script fault)) told few found file out clock crew h =
    not-bad bytes program fault few found (subst (λ (it : Option (List ℕ)). IsBadScript it fault) told h.0)
run-well held request bytes program old new (Err (Feed fault)) told few found file out clock crew h = h
run-well held request bytes program old new (Err (Words fault)) told few found file out clock crew h = h
run-well held request bytes program old new (Err (Log wrong)) told few found file out clock crew h = h
run-well held request bytes program old new (Err Stranger) told few found file out clock crew h = h

reported-live : {A : Type 0} (held : List ℕ → Option (List ℕ)) (request : RunRequest) (before after : OutsideView) (answer : Result A Fault) (old new : Option (List ℕ)) (it : Status) →
    EndsLive held request before after answer → (it ≡ status.Outside edge.Err → ⊥) → Reports answer old new it →
    (it ≡ status.Ended) ⊎ ((it ≡ status.NoMemory) ⊎ ((it ≡ status.Limit bound.Events) × IsRun held request before after why.Events))
reported-live held request before after (Ok done) old new it well err h = inl h.0
reported-live held request before after (Err NoMemory) old new it well err (inl h) = inr (inl h.0)
reported-live held request before after (Err NoMemory) old new it well err (inr h) = absurd (err h.0)
reported-live held request before after (Err (Limit bound.Events)) old new it well err (inl h) = inr (inr (h.0, well))
reported-live held request before after (Err (Limit bound.Events)) old new it well err (inr h) = absurd (err h.0)
reported-live held request before after (Err (Limit bound.Steps)) old new it well err h = absurd well
reported-live held request before after (Err File) old new it well err h = absurd well
reported-live held request before after (Err Out) old new it well err h = absurd well
reported-live held request before after (Err Clock) old new it well err h = absurd well
reported-live held request before after (Err Crew) old new it well err h = absurd well
reported-live held request before after (Err (Script fault)) old new it well err h = absurd well
reported-live held request before after (Err (Feed fault)) old new it well err h = absurd well
reported-live held request before after (Err (Words fault)) old new it well err h = absurd well
reported-live held request before after (Err (Log wrong)) old new it well err h = absurd well
reported-live held request before after (Err Stranger) old new it well err h = absurd well

-- what a command answers that has this status, or for which memory ran out
abbrev Says : {A : Type 0} → Status → Result A Fault → Type 0
Says due (Ok done) = status.Ended ≡ due
Says due (Err fault) = (status_of fault ≡ due) ⊎ (fault ≡ NoMemory)

reported-so : {A : Type 0} (answer : Result A Fault) (old new : Option (List ℕ)) (due it : Status) → Says due answer → (it ≡ status.Outside edge.Err → ⊥) → Reports answer old new it → (it ≡ due) ⊎ (it ≡ status.NoMemory)
reported-so (Ok done) old new due it says err h = inl (h.0 ∙ says)
reported-so (Err fault) old new due it (inl same) err (inl h) = inl (h.0 ∙ same)
reported-so (Err fault) old new due it (inr none) err (inl h) = inr (h.0 ∙ ap status_of none)
reported-so (Err fault) old new due it says err (inr h) = absurd (err h.0)

-- the finding on the log of a request is the finding on the reported bytes, as those of a log of the script's program
judged : (held : List ℕ → Option (List ℕ)) (request : VerifyRequest) (bytes log : List ℕ) (program : Program) (Says : Origin → List ℕ → Type 0) →
    held request.script ≡ Some bytes → IsFound bytes (Program' program) → held request.log ≡ Some log → IsJudged held request Says → (length log ≤ most_log_bytes) × Says (log_origin request program) log
judged held request bytes log program Says told found told_log it =
    let one : it.program ≡ program = one-program (held request.script) bytes program it.program told found it.has in
    let same = told-within most_log_bytes (held request.log) log it.bytes told_log it.loaded in
    (same.1, subst (λ (bs : List ℕ). Says (log_origin request program) bs) same.0 (subst (λ (p : Program). Says (log_origin request p) it.bytes) one it.says))

-- a log whose reported content is these bytes is as long as they are
long : (file : Option (List ℕ)) (log : List ℕ) (len : ℕ) → file ≡ Some log → IsLongerThan most_log_bytes file len → (most_log_bytes < length log) × (len ≡ length log)
long file log len told longer =
    let same : len ≡ length log = (subst (λ (it : Option (List ℕ)). IsLongerThan most_log_bytes it len) told longer).1 in
    (subst (λ (n : ℕ). most_log_bytes < n) same longer.0, same)

-- there is one finding on bytes
one-due : (origin : Origin) (bytes : List ℕ) (one other : Due) → IsDue origin bytes one → IsDue origin bytes other → one ≡ other
one-due origin bytes (Judged verdict) (Judged same) (few, (is, room)) (small, (alike, space)) = ap Judged (one_verdict origin bytes verdict same is alike)
one-due origin bytes (Judged verdict) Crowd (few, (is, room)) (small, (number, crowded)) = absurd (room number crowded)
one-due origin bytes (Judged verdict) (Long len) (few, told) (over, same) = absurd (omega (arith, over, few))
one-due origin bytes Crowd (Judged verdict) (few, (number, crowded)) (small, (is, room)) = absurd (room number crowded)
one-due origin bytes Crowd Crowd h k = refl
one-due origin bytes Crowd (Long len) (few, crowded) (over, same) = absurd (omega (arith, over, few))
one-due origin bytes (Long len) (Judged verdict) (over, same) (few, told) = absurd (omega (arith, over, few))
one-due origin bytes (Long len) Crowd (over, same) (few, crowded) = absurd (omega (arith, over, few))
one-due origin bytes (Long len) (Long other) (over, same) (more, alike) = ap Long (same ∙ sym alike)

-- the status of the finding
due-one : (origin : Origin) (bytes : List ℕ) (one due : Due) → IsDue origin bytes one → IsDue origin bytes due → due_status one ≡ due_status due
due-one origin bytes one due h k = ap due_status (one-due origin bytes one due h k)

-- `verify` of a script that is accepted, and of a log whose content is reported
verify-well : {A : Type 0} (held : List ℕ → Option (List ℕ)) (request : VerifyRequest) (due : Due) (old new : Option (List ℕ)) (answer : Result A Fault) → MustTell held request due →
    (answer ≡ Err File → ⊥) → (answer ≡ Err Out → ⊥) → VerifyOutcome held request old new answer → Says (due_status due) answer
verify-well held request due old new (Ok done) must file out h =
    due-one (log_origin request must.program) must.log (Judged verdict.Trace) due (judged held request must.bytes must.log must.program (HasVerdict verdict.Trace) must.told must.found must.told_log h.0) must.is_due
verify-well held request due old new (Err (Log (log_wrong.Line number))) must file out h =
    inl (due-one (log_origin request must.program) must.log (Judged (verdict.Line number)) due (judged held request must.bytes must.log must.program (HasVerdict (verdict.Line number)) must.told must.found must.told_log h.0) must.is_due)
verify-well held request due old new (Err (Limit bound.Events)) must file out h =
    inl (due-one (log_origin request must.program) must.log Crowd due (judged held request must.bytes must.log must.program IsCrowded must.told must.found must.told_log h.0) must.is_due)
verify-well held request due old new (Err (Log (log_wrong.TooLong len))) must file out (accepted, longer, same) =
    inl (due-one (log_origin request must.program) must.log (Long len) due (long (held request.log) must.log len must.told_log longer) must.is_due)
verify-well held request due old new (Err NoMemory) must file out h = inr refl
verify-well held request due old new (Err File) must file out h = absurd (file refl)
verify-well held request due old new (Err Out) must file out h = absurd (out refl)
verify-well held request due old new (Err (Script fault)) must file out h =
    absurd (not-bad must.bytes must.program fault must.few must.found (subst (λ (it : Option (List ℕ)). IsBadScript it fault) must.told h.0))
verify-well held request due old new (Err (Limit bound.Steps)) must file out h = absurd h
verify-well held request due old new (Err (Feed fault)) must file out h = absurd h
verify-well held request due old new (Err (Words fault)) must file out h = absurd h
verify-well held request due old new (Err Clock) must file out h = absurd h
verify-well held request due old new (Err Crew) must file out h = absurd h
verify-well held request due old new (Err Stranger) must file out h = absurd h

pub verify-completes : (A : Type 0) (request : VerifyRequest) (due : Due) (old new : Seen) (told more : Option (List ℕ)) (it : Status) →
    MustTell old.held request due → (Rose old.file_faults new.file_faults → ⊥) → (Rose old.outside.out_faults new.outside.out_faults → ⊥) → (it ≡ status.Outside edge.Err → ⊥) →
    Reported {A = A} (Comes (Ok (command.Verify request.script request.log request.connects)) old new) told more it → (it ≡ due_status due) ⊎ (it ≡ status.NoMemory)
verify-completes A request due old new told more it must file out err (answer, comes, reports) =
    reported-so answer told more (due_status due) it
    (verify-well old.held request due old.outside.put new.outside.put answer must (file-stays old new answer file comes.caused) (out-stays old new answer out comes.caused) comes.outcome.0)
    err reports

-- `iface` of a script that is accepted

has-interface : (tool : List ℕ) (program other : Program) (found : Option Interface) → other ≡ program → interface_of other tool ≡ found → tool_status found ≡ tool_status (interface_of program tool)
has-interface tool program other found one is = ap tool_status (sym is ∙ ap (λ (p : Program). interface_of p tool) one)

iface-well : {A : Type 0} (bytes tool : List ℕ) (program : Program) (old new : Option (List ℕ)) (answer : Result A Fault) → length bytes ≤ most_bytes → IsFound bytes (Program' program) →
    (answer ≡ Err File → ⊥) → (answer ≡ Err Out → ⊥) → IfaceOutcome (Some bytes) tool old new answer → Says (tool_status (interface_of program tool)) answer
iface-well bytes tool program old new (Ok done) few found file out (interface, it, put) =
    has-interface tool program it.program (Some interface) (one-program (Some bytes) bytes program it.program refl found it.has) it.is
iface-well bytes tool program old new (Err Stranger) few found file out (it, put) =
    inl (has-interface tool program it.program None (one-program (Some bytes) bytes program it.program refl found it.has) it.none)
iface-well bytes tool program old new (Err NoMemory) few found file out h = inr refl
iface-well bytes tool program old new (Err File) few found file out h = absurd (file refl)
iface-well bytes tool program old new (Err Out) few found file out h = absurd (out refl)
iface-well bytes tool program old new (Err (Script fault)) few found file out h = absurd (not-bad bytes program fault few found h.0)
iface-well bytes tool program old new (Err (Feed fault)) few found file out h = absurd h
iface-well bytes tool program old new (Err (Words fault)) few found file out h = absurd h
iface-well bytes tool program old new (Err Clock) few found file out h = absurd h
iface-well bytes tool program old new (Err Crew) few found file out h = absurd h
iface-well bytes tool program old new (Err (Limit bound)) few found file out h = absurd h
iface-well bytes tool program old new (Err (Log wrong)) few found file out h = absurd h

pub iface-completes : (A : Type 0) (script tool bytes : List ℕ) (program : Program) (old new : Seen) (told more : Option (List ℕ)) (it : Status) →
    old.held script ≡ Some bytes → length bytes ≤ most_bytes → IsFound bytes (Program' program) → (Rose old.file_faults new.file_faults → ⊥) → (Rose old.outside.out_faults new.outside.out_faults → ⊥) → (it ≡ status.Outside edge.Err → ⊥) →
    Reported {A = A} (Comes (Ok (command.Iface script tool)) old new) told more it → (it ≡ tool_status (interface_of program tool)) ⊎ (it ≡ status.NoMemory)
iface-completes A script tool bytes program old new told more it holds few found file out err (answer, comes, reports) =
    reported-so answer told more (tool_status (interface_of program tool)) it
    (iface-well bytes tool program old.outside.put new.outside.put answer few found (file-stays old new answer file comes.caused) (out-stays old new answer out comes.caused)
    (subst (λ (held : Option (List ℕ)). IfaceOutcome held tool old.outside.put new.outside.put answer) holds comes.outcome.0))
    err reports

-- a part of the environment whose count stays isn't named
clock-stays : {A : Type 0} (old new : Seen) (answer : Result A Fault) → (Rose old.outside.clock_faults new.outside.clock_faults → ⊥) → IsCaused old new answer → answer ≡ Err Clock → ⊥
clock-stays {A} old new answer stays caused e = stays (subst (λ (it : Result A Fault). IsCaused old new it) e caused)

crew-stays : {A : Type 0} (old new : Seen) (answer : Result A Fault) → (Rose old.outside.crew_faults new.outside.crew_faults → ⊥) → IsCaused old new answer → answer ≡ Err Crew → ⊥
crew-stays {A} old new answer stays caused e = stays (subst (λ (it : Result A Fault). IsCaused old new it) e caused)

pub run-completes : (A : Type 0) (request : RunRequest) (bytes : List ℕ) (program : Program) (old new : Seen) (told more : Option (List ℕ)) (it : Status) →
    old.held request.script ≡ Some bytes → length bytes ≤ most_bytes → IsFound bytes (Program' program) → (Rose old.file_faults new.file_faults → ⊥) → (Rose old.outside.out_faults new.outside.out_faults → ⊥) →
    (Rose old.outside.clock_faults new.outside.clock_faults → ⊥) → (Rose old.outside.crew_faults new.outside.crew_faults → ⊥) → (it ≡ status.Outside edge.Err → ⊥) →
    Reported {A = A} (Comes (Ok (command.Run request.script request.connects request.ticks request.events)) old new) told more it →
    (it ≡ status.Ended) ⊎ ((it ≡ status.NoMemory) ⊎ ((it ≡ status.Limit bound.Events) × IsRun old.held request old.outside new.outside why.Events))
run-completes A request bytes program old new told more it holds few found file out clock crew err (answer, comes, reports) =
    reported-live old.held request old.outside new.outside answer told more it
    (run-well old.held request bytes program old.outside new.outside answer holds few found (file-stays old new answer file comes.caused) (out-stays old new answer out comes.caused)
    (clock-stays old new answer clock comes.caused) (crew-stays old new answer crew comes.caused) comes.outcome)
    err reports

-- the simulation of a ring that shuts down is that one
pub ring-ends : (n k : ℕ) (log : List Entry) (last : SimEnd) (down : GoesDown n k) → IsRingOf n k log last → (log ≡ down.log) × (last ≡ sim.Down)
ring-ends n k log last down is =
    let same : Program' is.program ≡ Program' down.program = down.found.only (Program' is.program) is.found.holds in
    let one : is.program ≡ down.program = cc in
    let moved : IsSim (limits_of most_of_ring (ring_origin down.program)) (sim_start (start (ring_origin down.program)) []) log last =
    subst (λ (q : Program). IsSim (limits_of most_of_ring (ring_origin q)) (sim_start (start (ring_origin q)) []) log last) one is.simulated in
    one-sim (limits_of most_of_ring (ring_origin down.program)) (sim_start (start (ring_origin down.program)) []) log down.log last sim.Down moved down.ends

-- `ring` of a ring that shuts down
ring-well : {A : Type 0} (n k : ℕ) (old new : Option (List ℕ)) (answer : Result A Fault) → GoesDown n k → (answer ≡ Err Out → ⊥) → RingOutcome n k old new answer → IsWell answer
ring-well n k old new (Ok done) down out h = tt
ring-well n k old new (Err NoMemory) down out h = tt
ring-well n k old new (Err Out) down out h = absurd (out refl)
ring-well n k old new (Err (Script fault)) down out h = absurd (not-refused (ring_text n k) down.program fault down.found h.0)
ring-well n k old new (Err (Limit bound.Steps)) down out (log, is, put) = let e : sim.Steps ≡ sim.Down = (ring-ends n k log sim.Steps down is).1 in cc
ring-well n k old new (Err (Limit bound.Events)) down out (log, is, put) = let e : sim.Events ≡ sim.Down = (ring-ends n k log sim.Events down is).1 in cc
ring-well n k old new (Err File) down out h = absurd h
ring-well n k old new (Err Clock) down out h = absurd h
ring-well n k old new (Err Crew) down out h = absurd h
ring-well n k old new (Err (Log wrong)) down out h = absurd h
ring-well n k old new (Err Stranger) down out h = absurd h
ring-well n k old new (Err (Feed fault)) down out h = absurd h
ring-well n k old new (Err (Words fault)) down out h = absurd h

pub ring-completes : (A : Type 0) (n k : ℕ) (old new : Seen) (told more : Option (List ℕ)) (it : Status) → 2 ≤ n → n ≤ 10000 → 1 ≤ k → n * k ≤ 1000000 →
    (Rose old.outside.out_faults new.outside.out_faults → ⊥) → (it ≡ status.Outside edge.Err → ⊥) →
    Reported {A = A} (Comes (Ok (command.Ring n k)) old new) told more it → (it ≡ status.Ended) ⊎ (it ≡ status.NoMemory)
ring-completes A n k old new told more it least most positive few out err (answer, comes, reports) =
    reported-well answer told more it
    (ring-well n k old.outside.put new.outside.put answer (ring-goes-down n k least most positive few) (out-stays old new answer out comes.caused) comes.outcome.0)
    err reports
