-- How the parts of the top call reach the outcome of their command.
use Rattle.std.proofs.Common.{◌≡◌, ℕ, Option, Some, None, List, [], ◌∷◌, ◌++◌, Result, Ok, Err, refl, ap, sym, ◌∙◌, subst, append_assoc, append-nil, inl, inr, option_to_list, ◌⊎◌, IfErr, IsOk, Bool, false, true}
use Rattle.tb_edge.specs.Sinks.{Writes, WritesPrefix}
use Rattle.tb_body.specs.declared.program.Program.{Program}
use Rattle.tb_bus.specs.Buses.{start}
use Rattle.tb_bus.specs.declared.origin.Origin.{Origin}
use Rattle.tb_bus.specs.Traces.{IsTrace}
use Rattle.tb_gen.specs.Ring.{ring_text}
use Rattle.std.specs.Prelude.{◌≤◌, IsTrue, length}
use Rattle.std.specs.List.{list_all}
use Rattle.tb_log.specs.LogText.{log_text}
use Rattle.tb_log.specs.Proper.{is_proper_entry}
use Rattle.tb_log.specs.declared.entry.Entry.{Entry}
use Rattle.tb_log.specs.declared.entry.Input.{Input}
use Rattle.tb_script.specs.Findings.{IsFound, Program'}
use Rattle.tb_sim.specs.Simulation.{IsSim, limits_of, sim_start}
use Rattle.tb_sim.specs.declared.ends.SimEnd.{SimEnd}
use Rattle.tb_sim.specs.declared.ends.SimEnd.TheVariants as sim
use Rattle.tb_edge.specs.FilesHeld.{AsksSome}
use Rattle.tb_top.specs.Asking.{AsksAll, AsksBeside, AsksScript, Asks}
use Rattle.tb_cli.specs.declared.command.Command.{Command}
use Rattle.tb_cli.specs.declared.command.Command.TheVariants as command
use Rattle.tb_cli.specs.declared.fault.WordFault.{WordFault}
use Rattle.tb_load.specs.Loading.{HasProgram, IsAccepted, IsRefused}
use Rattle.tb_top.specs.Outcomes.{CommandOutcome}
use Rattle.tb_core.specs.Cores.{CoreState}
use Rattle.tb_edge.specs.Faults.{Rose}
use Rattle.tb_run.specs.Outcomes.{RunOutcome, Runs}
use Rattle.tb_run.specs.Views.{OutsideView}
use Rattle.tb_run.specs.declared.ends.RunWhy.{RunWhy}
use Rattle.tb_run.specs.declared.ends.RunWhy.TheVariants as why
use Rattle.tb_top.specs.Run.{IsRun, LiveOutcome, RunRequest}
use Rattle.tb_top.specs.Views.{IsLeft, Seen}
use Rattle.tb_top.specs.Ring.{IsRingOf, RingOutcome, most_of_ring, ring_origin, summary}
use Rattle.tb_top.specs.Iface.{IfaceOutcome}
use Rattle.tb_top.specs.Sim.{IsFed, IsSimOf, Request, SimOutcome}
use Rattle.tb_top.specs.Verify.{HasRoom, VerifyOutcome, VerifyRequest}
use Rattle.tb_verify.specs.Verdicts.{IsCrowdedAt}
use Rattle.tb_verify.specs.declared.verdict.Verdict.{Verdict}
use Rattle.tb_verify.specs.declared.verdict.VerifyFault.{VerifyFault}
use Rattle.tb_verify.specs.declared.verdict.VerifyFault.TheVariants as verify
use Rattle.tb_top.specs.Helpers.Parts.{AsksFor, EndsRun, HasNoInterface, IsBehindScript, IsLive, IsLiveFault, IsLogUnread, IsRefusedBy, IsRingSimulated, IsSimulated, IsUnread, PutsText, PutsWhole}
use Rattle.tb_top.specs.declared.fault.Fault.{Fault}
use Rattle.tb_top.specs.declared.fault.Fault.TheVariants.{Script, Feed, Words, File, Out, Clock, Crew, Limit, NoMemory, Log, Stranger}
use Rattle.tb_top.specs.declared.status.Bound.TheVariants as bound
use Rattle.tb_top.specs.declared.status.LogWrong.TheVariants as log_wrong

-- what isn't touched
left : (it : OutsideView) → IsLeft it it
left it = record { lanes = refl; clock = refl; clock_faults = refl; crew_faults = refl }

-- the simulation of an origin's program with these inputs, as a file says them
abbrev request_of : List ℕ → Option (List ℕ) → ℕ → Origin → Request
request_of script name steps origin = record { script = script; feed = name; connects = origin.connects; steps = steps; events = origin.limit }

simulated : (steps : ℕ) (origin : Origin) (inputs : List Input) (held : List ℕ → Option (List ℕ)) (script : List ℕ) (name : Option (List ℕ)) (log : List Entry) (last : SimEnd) →
    IsSim (limits_of steps origin) (sim_start (start origin) inputs) log last → IsTrace (start origin) log → IsTrue (list_all is_proper_entry log) → length log ≤ origin.limit → IsFed held name inputs → HasProgram (held script) origin.program →
    IsSimOf held (request_of script name steps origin) log last
simulated steps origin inputs held script name log last is trace proper within fed has = record { program = origin.program; has = has; inputs = inputs; fed = fed; simulated = is; trace = trace; proper = proper; within = within }

-- the log was written, or a prefix of its text
pub log-written : {A : Type 0} (steps : ℕ) (origin : Origin) (inputs : List Input) (log : List Entry) (last : SimEnd) (old new : Option (List ℕ)) (answer : Result A Fault) →
    IsSim (limits_of steps origin) (sim_start (start origin) inputs) log last → IsTrace (start origin) log → IsTrue (list_all is_proper_entry log) → length log ≤ origin.limit → PutsText (log_text log) last old new answer →
    IsSimulated steps origin inputs old new answer
log-written steps origin inputs log last old new (Ok done) is trace proper within put held script name fed has =
    (log, subst (IsSimOf held (request_of script name steps origin) log) put.0 (simulated steps origin inputs held script name log last is trace proper within fed has), put.1)
log-written steps origin inputs log last old new (Err (Limit bound.Steps)) is trace proper within put held script name fed has =
    (log, subst (IsSimOf held (request_of script name steps origin) log) put.0 (simulated steps origin inputs held script name log last is trace proper within fed has), put.1)
log-written steps origin inputs log last old new (Err (Limit bound.Events)) is trace proper within put held script name fed has =
    (log, subst (IsSimOf held (request_of script name steps origin) log) put.0 (simulated steps origin inputs held script name log last is trace proper within fed has), put.1)
log-written steps origin inputs log last old new (Err Out) is trace proper within put held script name fed has =
    (log, last, simulated steps origin inputs held script name log last is trace proper within fed has, put)
log-written steps origin inputs log last old new (Err NoMemory) is trace proper within put held script name fed has =
    inr (log, last, simulated steps origin inputs held script name log last is trace proper within fed has, put)
log-written steps origin inputs log last old new (Err (Script fault)) is trace proper within put held script name fed has = absurd put.0
log-written steps origin inputs log last old new (Err (Feed fault)) is trace proper within put held script name fed has = absurd put.0
log-written steps origin inputs log last old new (Err (Words fault)) is trace proper within put held script name fed has = absurd put.0
log-written steps origin inputs log last old new (Err File) is trace proper within put held script name fed has = absurd put.0
log-written steps origin inputs log last old new (Err Clock) is trace proper within put held script name fed has = absurd put.0
log-written steps origin inputs log last old new (Err Crew) is trace proper within put held script name fed has = absurd put.0
log-written steps origin inputs log last old new (Err (Log wrong)) is trace proper within put held script name fed has = absurd put.0
log-written steps origin inputs log last old new (Err Stranger) is trace proper within put held script name fed has = absurd put.0

-- a feed that isn't read ends the work on a program
pub unread : (A : Type 0) (held : List ℕ → Option (List ℕ)) (request : Request) (program : Program) (told : Option (List ℕ)) (fault : Fault) →
    IsUnread held request.feed fault → HasProgram (held request.script) program → SimOutcome {A = A} held request told told (Err fault)
unread A held request program told (Feed fault) h has = ((program, has), h, refl)
unread A held request program told File h has = refl
unread A held request program told NoMemory h has = inl refl
unread A held request program told Out h has = absurd h
unread A held request program told Clock h has = absurd h
unread A held request program told Crew h has = absurd h
unread A held request program told (Log wrong) h has = absurd h
unread A held request program told Stranger h has = absurd h
unread A held request program told (Script fault) h has = absurd h
unread A held request program told (Words fault) h has = absurd h
unread A held request program told (Limit bound) h has = absurd h

-- a log that isn't read ends the work on a program
pub log-unread : (A : Type 0) (held : List ℕ → Option (List ℕ)) (request : VerifyRequest) (program : Program) (put : Option (List ℕ)) (fault : Fault) →
    IsLogUnread (held request.log) fault → HasProgram (held request.script) program → VerifyOutcome {A = A} held request put put (Err fault)
log-unread A held request program put (Log (log_wrong.TooLong len)) h has = ((program, has), h, refl)
log-unread A held request program put (Log (log_wrong.Line number)) h has = absurd h
log-unread A held request program put File h has = refl
log-unread A held request program put NoMemory h has = refl
log-unread A held request program put Out h has = absurd h
log-unread A held request program put Clock h has = absurd h
log-unread A held request program put Crew h has = absurd h
log-unread A held request program put Stranger h has = absurd h
log-unread A held request program put (Script fault) h has = absurd h
log-unread A held request program put (Feed fault) h has = absurd h
log-unread A held request program put (Words fault) h has = absurd h
log-unread A held request program put (Limit bound) h has = absurd h

-- where there is a verdict, there was capacity
pub has-room : (origin : Origin) (bytes : List ℕ) (verdict : Verdict) →
    ((number : ℕ) → IsCrowdedAt origin bytes number → (◌≡◌ {A = Result Verdict VerifyFault} (Ok verdict) (Err verify.Full)) ⊎ (◌≡◌ {A = Result Verdict VerifyFault} (Ok verdict) (Err verify.NoMemory))) → HasRoom origin bytes
has-room origin bytes verdict full number crowded = no (full number crowded) where
  no : (◌≡◌ {A = Result Verdict VerifyFault} (Ok verdict) (Err verify.Full)) ⊎ (◌≡◌ {A = Result Verdict VerifyFault} (Ok verdict) (Err verify.NoMemory)) → ⊥
  no (inl e) = absurd cc
  no (inr e) = absurd cc

-- a tool that has no interface ends it too
pub no-interface : (A : Type 0) (told : Option (List ℕ)) (tool : List ℕ) (program : Program) (put : Option (List ℕ)) (fault : Fault) →
    HasNoInterface program tool fault → HasProgram told program → IfaceOutcome {A = A} told tool put put (Err fault)
no-interface A told tool program put Stranger h has = (record { program = program; has = has; none = h }, refl)
no-interface A told tool program put NoMemory h has = refl
no-interface A told tool program put File h has = absurd h
no-interface A told tool program put Out h has = absurd h
no-interface A told tool program put Clock h has = absurd h
no-interface A told tool program put Crew h has = absurd h
no-interface A told tool program put (Script fault) h has = absurd h
no-interface A told tool program put (Feed fault) h has = absurd h
no-interface A told tool program put (Words fault) h has = absurd h
no-interface A told tool program put (Limit bound) h has = absurd h
no-interface A told tool program put (Log wrong) h has = absurd h

-- the summary of a ring was written, or a prefix of it
ring-put : {A : Type 0} (n k : ℕ) (log : List Entry) (last : SimEnd) (old new : Option (List ℕ)) (answer : Result A Fault) → IsRingOf n k log last → PutsWhole (summary n log) last old new answer → RingOutcome n k old new answer
ring-put n k log last old new (Ok done) is put = (log, subst (IsRingOf n k log) put.0 is, put.1)
ring-put n k log last old new (Err (Limit bound.Steps)) is put = (log, subst (IsRingOf n k log) put.0 is, put.1)
ring-put n k log last old new (Err (Limit bound.Events)) is put = (log, subst (IsRingOf n k log) put.0 is, put.1)
ring-put n k log last old new (Err Out) is put = (log, last, is, put)
ring-put n k log last old new (Err NoMemory) is put = put
ring-put n k log last old new (Err (Script fault)) is put = absurd put.0
ring-put n k log last old new (Err (Feed fault)) is put = absurd put.0
ring-put n k log last old new (Err (Words fault)) is put = absurd put.0
ring-put n k log last old new (Err File) is put = absurd put.0
ring-put n k log last old new (Err Clock) is put = absurd put.0
ring-put n k log last old new (Err Crew) is put = absurd put.0
ring-put n k log last old new (Err (Log wrong)) is put = absurd put.0
ring-put n k log last old new (Err Stranger) is put = absurd put.0

ring-of : (n k : ℕ) (origin : Origin) (log : List Entry) (last : SimEnd) → IsFound (ring_text n k) (Program' origin.program) →
    origin ≡ ring_origin origin.program → IsSim (limits_of most_of_ring origin) (sim_start (start origin) []) log last → IsTrace (start origin) log → IsRingOf n k log last
ring-of n k origin log last found e is trace = record {
  program = origin.program;
  found = found;
  simulated = subst (λ (o : Origin). IsSim (limits_of most_of_ring o) (sim_start (start o) []) log last) e is;
  trace = subst (λ (o : Origin). IsTrace (start o) log) e trace;
}

pub summary-written : {A : Type 0} (n : ℕ) (origin : Origin) (log : List Entry) (last : SimEnd) (old new : Option (List ℕ)) (answer : Result A Fault) →
    origin ≡ ring_origin origin.program → IsSim (limits_of most_of_ring origin) (sim_start (start origin) []) log last → IsTrace (start origin) log → PutsWhole (summary n log) last old new answer →
    IsRingSimulated origin.program n old new answer
summary-written n origin log last old new answer e is trace put k found = ring-put n k log last old new answer (ring-of n k origin log last found e is trace) put

-- Which files were requested.

-- after the script's file the others were requested
then-others : (told : Option (List ℕ)) (script : List ℕ) (others old mid new : List (List ℕ)) → IsAccepted told → mid ≡ old ++ script ∷ [] → new ≡ mid ++ others → AsksAll told script others old new
then-others told script others old mid new accepted e h =
    (accepted, h ∙ ap (λ (names : List (List ℕ)). names ++ others) e ∙ append_assoc old (script ∷ []) others)

pub asks-others : {A : Type 0} (told : Option (List ℕ)) (script : List ℕ) (others old mid new : List (List ℕ)) (answer : Result A Fault) → IsAccepted told →
    mid ≡ old ++ script ∷ [] → IfErr answer IsBehindScript → AsksFor others mid new answer → AsksBeside told script others old new answer
asks-others told script others old mid new (Ok done) accepted e behind asks = then-others told script others old mid new accepted e asks
asks-others told script others old mid new (Err (Script fault)) accepted e behind asks = absurd behind
asks-others told script others old mid new (Err (Feed fault)) accepted e behind asks = then-others told script others old mid new accepted e asks
asks-others told script others old mid new (Err (Words fault)) accepted e behind asks = then-others told script others old mid new accepted e asks
asks-others told script others old mid new (Err File) accepted e behind asks = inr (then-others told script others old mid new accepted e asks)
asks-others told script others old mid new (Err Out) accepted e behind asks = then-others told script others old mid new accepted e asks
asks-others told script others old mid new (Err Clock) accepted e behind asks = then-others told script others old mid new accepted e asks
asks-others told script others old mid new (Err Crew) accepted e behind asks = then-others told script others old mid new accepted e asks
asks-others told script others old mid new (Err (Log wrong)) accepted e behind asks = then-others told script others old mid new accepted e asks
asks-others told script others old mid new (Err Stranger) accepted e behind asks = then-others told script others old mid new accepted e asks
asks-others told script others old mid new (Err (Limit bound)) accepted e behind asks = then-others told script others old mid new accepted e asks
asks-others told script others old mid new (Err NoMemory) accepted e behind (inl h) = inr (inl (h ∙ e))
asks-others told script others old mid new (Err NoMemory) accepted e behind (inr h) = inr (inr (then-others told script others old mid new accepted e h))

-- a command with a script alone requests nothing more
pub asks-alone : {A : Type 0} (told : Option (List ℕ)) (script : List ℕ) (old new : List (List ℕ)) (answer : Result A Fault) → IsAccepted told →
    new ≡ old ++ script ∷ [] → IfErr answer IsBehindScript → AsksBeside told script [] old new answer
asks-alone told script old new (Ok done) accepted e behind = (accepted, e)
asks-alone told script old new (Err (Script fault)) accepted e behind = absurd behind
asks-alone told script old new (Err (Feed fault)) accepted e behind = (accepted, e)
asks-alone told script old new (Err (Words fault)) accepted e behind = (accepted, e)
asks-alone told script old new (Err File) accepted e behind = inr (accepted, e)
asks-alone told script old new (Err Out) accepted e behind = (accepted, e)
asks-alone told script old new (Err Clock) accepted e behind = (accepted, e)
asks-alone told script old new (Err Crew) accepted e behind = (accepted, e)
asks-alone told script old new (Err (Log wrong)) accepted e behind = (accepted, e)
asks-alone told script old new (Err Stranger) accepted e behind = (accepted, e)
asks-alone told script old new (Err (Limit bound)) accepted e behind = (accepted, e)
asks-alone told script old new (Err NoMemory) accepted e behind = inr (inr (accepted, e))

-- with any answer, some of the files were requested, in order

asks-none : (names old new : List (List ℕ)) → new ≡ old → AsksSome names old new
asks-none names old new e = record { asked = []; others = names; first = refl; is = e ∙ sym (append-nil old) }

asks-one : (script : List ℕ) (others old new : List (List ℕ)) → AsksScript script old new → AsksSome (script ∷ others) old new
asks-one script others old new e = record { asked = script ∷ []; others = others; first = refl; is = e }

asks-all : (told : Option (List ℕ)) (script : List ℕ) (others old new : List (List ℕ)) → AsksAll told script others old new → AsksSome (script ∷ others) old new
asks-all told script others old new h = record { asked = script ∷ others; others = []; first = append-nil (script ∷ others); is = h.1 }

asks-some-of : {A : Type 0} (told : Option (List ℕ)) (script : List ℕ) (others old new : List (List ℕ)) (answer : Result A Fault) → AsksBeside told script others old new answer → AsksSome (script ∷ others) old new
asks-some-of told script others old new (Ok done) h = asks-all told script others old new h
asks-some-of told script others old new (Err (Script fault)) h = asks-one script others old new h
asks-some-of told script others old new (Err (Feed fault)) h = asks-all told script others old new h
asks-some-of told script others old new (Err (Words fault)) h = asks-all told script others old new h
asks-some-of told script others old new (Err File) (inl h) = asks-one script others old new h
asks-some-of told script others old new (Err File) (inr h) = asks-all told script others old new h
asks-some-of told script others old new (Err Out) h = asks-all told script others old new h
asks-some-of told script others old new (Err Clock) h = asks-all told script others old new h
asks-some-of told script others old new (Err Crew) h = asks-all told script others old new h
asks-some-of told script others old new (Err (Log wrong)) h = asks-all told script others old new h
asks-some-of told script others old new (Err Stranger) h = asks-all told script others old new h
asks-some-of told script others old new (Err (Limit bound)) h = asks-all told script others old new h
asks-some-of told script others old new (Err NoMemory) (inl h) = asks-none (script ∷ others) old new h
asks-some-of told script others old new (Err NoMemory) (inr (inl h)) = asks-one script others old new h
asks-some-of told script others old new (Err NoMemory) (inr (inr h)) = asks-all told script others old new h

pub asks-some : {A : Type 0} (held : List ℕ → Option (List ℕ)) (names old new : List (List ℕ)) (answer : Result A Fault) → Asks held names old new answer → AsksSome names old new
asks-some held [] old new answer h = asks-none [] old new h
asks-some held (script ∷ others) old new answer h = asks-some-of (held script) script others old new answer h

-- a ring whose script is rejected
pub ring-refused : (A : Type 0) (n k : ℕ) (bytes : List ℕ) (told : Option (List ℕ)) (fault : Fault) → bytes ≡ ring_text n k → IsRefusedBy bytes fault → RingOutcome {A = A} n k told told (Err fault)
ring-refused A n k bytes told (Script fault) e h = (subst (λ (bs : List ℕ). IsRefused bs fault) e h, refl)
ring-refused A n k bytes told NoMemory e h = refl
ring-refused A n k bytes told (Feed fault) e h = absurd h
ring-refused A n k bytes told (Words fault) e h = absurd h
ring-refused A n k bytes told File e h = absurd h
ring-refused A n k bytes told Out e h = absurd h
ring-refused A n k bytes told Clock e h = absurd h
ring-refused A n k bytes told Crew e h = absurd h
ring-refused A n k bytes told (Log wrong) e h = absurd h
ring-refused A n k bytes told Stranger e h = absurd h
ring-refused A n k bytes told (Limit bound) e h = absurd h

-- memory ran out before anything was done
pub not-begun : (A : Type 0) (asked : Result Command WordFault) (old : Seen) → IsOk asked → CommandOutcome {A = A} asked old old (Err NoMemory)
not-begun A (Err fault) old ok = let h : ◌≡◌ {A = Bool} false true = ok in let no : ⊥ = cc in absurd no
not-begun A (Ok (command.Check script)) old ok = (refl, left old.outside)
not-begun A (Ok (command.Sim script feed connects steps events)) old ok = (inl refl, left old.outside)
not-begun A (Ok (command.Ring n k)) old ok = (refl, left old.outside)
not-begun A (Ok (command.Run script connects ticks events)) old ok = inl (refl, left old.outside)
not-begun A (Ok (command.Verify script log connects)) old ok = (refl, left old.outside)
not-begun A (Ok (command.Iface script tool)) old ok = (refl, left old.outside)

-- a run that ended so
abbrev run_request : List ℕ → ℕ → Origin → RunRequest
run_request script ticks origin = record { script = script; connects = origin.connects; ticks = ticks; events = origin.limit }

is-run : (held : List ℕ → Option (List ℕ)) (script : List ℕ) (ticks : ℕ) (origin : Origin) (old new : OutsideView) (back : CoreState) (it other : RunWhy) → Runs ticks old new origin back it → it ≡ other → HasProgram (held script) origin.program →
    IsRun held (run_request script ticks origin) old new other
is-run held script ticks origin old new back it other runs e has =
    record { program = origin.program; has = has; back = back; runs = subst (λ (w : RunWhy). Runs ticks old new origin back w) e runs }

pub run-ended : {A : Type 0} (ticks : ℕ) (origin : Origin) (old new : OutsideView) (back : CoreState) (it : RunWhy) (answer : Result A Fault) → Runs ticks old new origin back it → EndsRun it answer → IsLive ticks origin old new answer
run-ended ticks origin old new back it (Ok done) runs e held script has = is-run held script ticks origin old new back it why.Ended runs e has
run-ended ticks origin old new back it (Err Clock) runs e held script has = is-run held script ticks origin old new back it why.Clock runs e has
run-ended ticks origin old new back it (Err Crew) runs e held script has = is-run held script ticks origin old new back it why.Crew runs e has
run-ended ticks origin old new back it (Err Out) runs e held script has = is-run held script ticks origin old new back it why.Out runs e has
run-ended ticks origin old new back it (Err (Limit bound.Events)) runs e held script has = is-run held script ticks origin old new back it why.Events runs e has
run-ended ticks origin old new back it (Err NoMemory) runs e held script has = inr (is-run held script ticks origin old new back it why.NoMemory runs e has)
run-ended ticks origin old new back it (Err (Limit bound.Steps)) runs e held script has = absurd e
run-ended ticks origin old new back it (Err (Script fault)) runs e held script has = absurd e
run-ended ticks origin old new back it (Err (Feed fault)) runs e held script has = absurd e
run-ended ticks origin old new back it (Err (Words fault)) runs e held script has = absurd e
run-ended ticks origin old new back it (Err File) runs e held script has = absurd e
run-ended ticks origin old new back it (Err (Log wrong)) runs e held script has = absurd e
run-ended ticks origin old new back it (Err Stranger) runs e held script has = absurd e

-- the count that rose if a part of the environment is named
pub out-rose : {A : Type 0} (ticks : ℕ) (origin : Origin) (old new : OutsideView) (back : CoreState) (it : RunWhy) (answer : Result A Fault) → Runs ticks old new origin back it → EndsRun it answer → answer ≡ Err Out → Rose old.out_faults new.out_faults
out-rose {A} ticks origin old new back it answer runs e named =
    let ended : it ≡ why.Out = subst (λ (a : Result A Fault). EndsRun it a) named e in
    (subst (λ (w : RunWhy). RunOutcome ticks old new back w) ended runs.outcome).3

pub clock-rose : {A : Type 0} (ticks : ℕ) (origin : Origin) (old new : OutsideView) (back : CoreState) (it : RunWhy) (answer : Result A Fault) → Runs ticks old new origin back it → EndsRun it answer → answer ≡ Err Clock → Rose old.clock_faults new.clock_faults
clock-rose {A} ticks origin old new back it answer runs e named =
    let ended : it ≡ why.Clock = subst (λ (a : Result A Fault). EndsRun it a) named e in
    (subst (λ (w : RunWhy). RunOutcome ticks old new back w) ended runs.outcome).4

pub crew-rose : {A : Type 0} (ticks : ℕ) (origin : Origin) (old new : OutsideView) (back : CoreState) (it : RunWhy) (answer : Result A Fault) → Runs ticks old new origin back it → EndsRun it answer → answer ≡ Err Crew → Rose old.crew_faults new.crew_faults
crew-rose {A} ticks origin old new back it answer runs e named =
    let ended : it ≡ why.Crew = subst (λ (a : Result A Fault). EndsRun it a) named e in
    (subst (λ (w : RunWhy). RunOutcome ticks old new back w) ended runs.outcome).4

pub live-by : {A : Type 0} (ticks : ℕ) (one other : Origin) (old new : OutsideView) (answer : Result A Fault) → one ≡ other → IsLive ticks one old new answer → IsLive ticks other old new answer
live-by ticks one other old new answer e live = subst (λ (o : Origin). IsLive ticks o old new answer) e live

pub live-behind : {A : Type 0} (answer : Result A Fault) → IfErr answer IsLiveFault → IfErr answer IsBehindScript
live-behind (Ok done) h = tt
live-behind (Err Out) h = tt
live-behind (Err Clock) h = tt
live-behind (Err Crew) h = tt
live-behind (Err (Log wrong)) h = tt
live-behind (Err Stranger) h = tt
live-behind (Err (Limit bound)) h = tt
live-behind (Err NoMemory) h = tt
live-behind (Err (Script fault)) h = h
live-behind (Err (Feed fault)) h = tt
live-behind (Err (Words fault)) h = tt
live-behind (Err File) h = tt

pub not-file : {A : Type 0} (P : Type 0) (answer : Result A Fault) → IfErr answer IsLiveFault → answer ≡ Err File → P
not-file {A} P answer h e = absurd (subst (λ (a : Result A Fault). IfErr a IsLiveFault) e h)
