-- What a trace has before its entries `quiet`, what shuts down its bus, and that its text is of one log.
use Rattle.std.proofs.Common.{◌≡◌, List, [], ◌∷◌, Bool, true, false, refl, sym, ap, ◌∙◌, subst}
use Rattle.std.proofs.lemmas.Bool.{false≢true}
use Rattle.tb_bus.specs.Buses.{Bus, start}
use Rattle.tb_bus.specs.Traces.{IsLegal, IsTrace, after, replay}
use Rattle.tb_bus.specs.declared.origin.Origin.{Origin}
use Rattle.tb_bus.proofs.DownLemmas.{down-is}
use Rattle.tb_bus.proofs.TraceLemmas.{trace-rest}
use Rattle.tb_headline.specs.Words.{HasOneText, IsIdleAtQuiet, IsShutDown}
use Rattle.tb_log.specs.declared.entry.Entry.{Entry}
use Rattle.tb_log.specs.declared.entry.Entry.TheVariants.{Quiet}
use Rattle.tb_log_read.specs.Lines.{IsLog}
use Rattle.tb_log_read.proofs.Logs.{same_logs}

pub idle-at_quiet : (bus : Bus) (log : List Entry) → IsTrace bus log → IsIdleAtQuiet bus log
idle-at_quiet bus log trace before after is =
    let rest = trace-rest bus before (Quiet ∷ after) (subst (λ (l : List Entry). IsTrace bus l) is trace) in
    (rest.0.0, rest.0.1)

-- the first entry after which the bus has shut down, or a later one
shut_down-at : (bus : Bus) (entry : Entry) (log : List Entry) → IsLegal bus entry (after bus entry) → bus.down ≡ false → ((after bus entry).down ≡ false → IsShutDown log) → (down : Bool) → (after bus entry).down ≡ down → IsShutDown (entry ∷ log)
shut_down-at bus entry log legal up later true e =
    let step = down-is bus (after bus entry) entry legal up e in
    ([], step.0, log, ap (λ (it : Entry). it ∷ log) step.1, step.2)
shut_down-at bus entry log legal up later false e =
    let rest = later e in
    (entry ∷ rest.0, rest.1, rest.2, ap (λ (more : List Entry). entry ∷ more) rest.3, rest.4)

shut_down-from : (bus : Bus) (log : List Entry) → IsTrace bus log → bus.down ≡ false → (replay bus log).down ≡ true → IsShutDown log
shut_down-from bus [] trace up down = absurd (false≢true (sym up ∙ down))
shut_down-from bus (entry ∷ log) trace up down =
    shut_down-at bus entry log trace.0 up (λ e. shut_down-from (after bus entry) log trace.1 e down) (after bus entry).down refl

pub shut_down-by_step : (origin : Origin) (log : List Entry) → IsTrace (start origin) log → (replay (start origin) log).down ≡ true → IsShutDown log
shut_down-by_step origin log trace down = shut_down-from (start origin) log trace refl down

pub one-text : (log : List Entry) → IsLog log → HasOneText log
one-text log is other other_is same = same_logs other log other_is is same
