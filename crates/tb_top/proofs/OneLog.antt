-- The written bytes determine the log.
use Rattle.std.proofs.Common.{◌≡◌, ◌≤◌, ◌<◌, ◌^◌, ℕ, Option, Some, None, List, [], ◌++◌, length, ap, sym, ◌∙◌, subst, arith}
use Rattle.std.specs.Prelude.{IsTrue}
use Rattle.std.specs.List.{list_all}
use Rattle.std.proofs.lemmas.List.{append_cancel_left}
use Rattle.tb_edge.specs.Sinks.{Writes}
use Rattle.tb_log.specs.LogText.{log_text}
use Rattle.tb_log.specs.Proper.{is_proper_entry}
use Rattle.tb_log.specs.declared.entry.Entry.{Entry}
use Rattle.tb_log_read.specs.Lines.{IsLog}
use Rattle.tb_log_read.proofs.Logs.{same_logs}
use Rattle.tb_bus.specs.Buses.{start}
use Rattle.tb_bus.specs.Traces.{IsTrace}
use Rattle.tb_bus.specs.declared.origin.Origin.{Origin}
use Rattle.tb_bus.proofs.BusShapes.{trace-in_shape}
use Rattle.tb_core.specs.Cores.{CoreState}
use Rattle.tb_run.specs.Outcomes.{Runs}
use Rattle.tb_run.specs.Views.{OutsideView}
use Rattle.tb_run.specs.declared.ends.RunWhy.{RunWhy}
use Rattle.tb_run.specs.declared.ends.RunWhy.TheVariants as why
use Rattle.tb_sim.specs.declared.ends.SimEnd.{SimEnd}
use Rattle.tb_top.specs.OneLog.{HasPut, PutsAll}
use Rattle.tb_top.specs.Run.{IsRun, RunRequest}
use Rattle.tb_top.specs.Sim.{IsSimOf, Request, origin_for}

abbrev taken-in : Option (List ℕ) → List ℕ
taken-in None = []
taken-in (Some taken) = taken

-- the written text is the written bytes
text-put : (bytes text : List ℕ) (old new : Option (List ℕ)) → HasPut bytes old new → Writes old new text → bytes ≡ text
text-put bytes text None new has writes = absurd has
text-put bytes text (Some taken) new has writes =
    let same : taken ++ bytes ≡ taken ++ text = ap taken-in (sym has ∙ writes) in
    append_cancel_left taken bytes text same

is-log : (origin : Origin) (log : List Entry) → IsTrace (start origin) log → IsTrue (list_all is_proper_entry log) → length log < 2 ^ 64 → IsLog log
is-log origin log trace proper few = record { few = few; proper = proper; shape = trace-in_shape origin log trace }

one-log : (bytes : List ℕ) (log other : List Entry) (old new other_old other_new : Option (List ℕ)) → IsLog log → IsLog other → Writes old new (log_text log) → Writes other_old other_new (log_text other) →
    HasPut bytes old new → HasPut bytes other_old other_new → log ≡ other
one-log bytes log other old new other_old other_new is other_is writes other_writes has other_has =
    same_logs log other is other_is (sym (text-put bytes (log_text log) old new has writes) ∙ text-put bytes (log_text other) other_old other_new other_has other_writes)

-- of two simulations
pub sim-log : (held : List ℕ → Option (List ℕ)) (request : Request) (log : List Entry) (last : SimEnd) → request.events < 2 ^ 64 → IsSimOf held request log last → IsLog log
sim-log held request log last few s =
    is-log (origin_for request s.program) log s.trace s.proper (let within = s.within in omega (arith, within, few))

pub sim-one_log : (held other_held : List ℕ → Option (List ℕ)) (request other_request : Request) (log other : List Entry) (last other_last : SimEnd) (old new other_old other_new : Option (List ℕ)) (bytes : List ℕ) →
    request.events < 2 ^ 64 → other_request.events < 2 ^ 64 → IsSimOf held request log last → IsSimOf other_held other_request other other_last → Writes old new (log_text log) → Writes other_old other_new (log_text other) →
    HasPut bytes old new → HasPut bytes other_old other_new → log ≡ other
sim-one_log held other_held request other_request log other last other_last old new other_old other_new bytes few other_few s other_s writes other_writes has other_has =
    one-log bytes log other old new other_old other_new (sim-log held request log last few s) (sim-log other_held other_request other other_last other_few other_s) writes other_writes has other_has

-- of two runs
runs-put : (most : ℕ) (old new : OutsideView) (origin : Origin) (back : CoreState) (it : RunWhy) → Runs most old new origin back it → PutsAll it → Writes old.put new.put (log_text back.log)
runs-put most old new origin back why.Ended r all = r.outcome.0
runs-put most old new origin back why.Clock r all = r.outcome.0
runs-put most old new origin back why.Events r all = r.outcome.0
runs-put most old new origin back why.Out r all = absurd all
runs-put most old new origin back why.NoMemory r all = absurd all
runs-put most old new origin back why.Crew r all = absurd all

pub run-log : (held : List ℕ → Option (List ℕ)) (request : RunRequest) (old new : OutsideView) (it : RunWhy) → request.events < 2 ^ 64 → (run : IsRun held request old new it) → IsLog run.back.log
run-log held request old new it few run =
    let limit : run.back.origin.limit ≡ request.events = ap (λ (o : Origin). o.limit) run.runs.origin_is in
    is-log run.back.origin run.back.log run.runs.history.trace run.runs.proper (let within = run.runs.within in omega (arith, within, limit, few))

pub run-one_log : (held other_held : List ℕ → Option (List ℕ)) (request other_request : RunRequest) (old new other_old other_new : OutsideView) (it other_it : RunWhy) (bytes : List ℕ)
    (run : IsRun held request old new it) (other : IsRun other_held other_request other_old other_new other_it) → request.events < 2 ^ 64 → other_request.events < 2 ^ 64 → PutsAll it → PutsAll other_it →
    HasPut bytes old.put new.put → HasPut bytes other_old.put other_new.put → run.back.log ≡ other.back.log
run-one_log held other_held request other_request old new other_old other_new it other_it bytes run other few other_few all other_all has other_has =
    one-log bytes run.back.log other.back.log old.put new.put other_old.put other_new.put (run-log held request old new it few run) (run-log other_held other_request other_old other_new other_it other_few other)
    (runs-put request.ticks old new _ run.back it run.runs all) (runs-put other_request.ticks other_old other_new _ other.back other_it other.runs other_all) has other_has
