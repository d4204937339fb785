-- Arguments request only rings within the ranges. So what holds for these rings holds for the arguments.
use Rattle.std.proofs.Common.{◌≡◌, ℕ, ◌+◌, ◌*◌, List, [], ◌∷◌, ◌++◌, Option, Result, Ok, subst, ◌⊎◌, codes}
use Rattle.std.specs.Fmt.{decimal}
use Rattle.tb_cli.specs.declared.command.Command.{Command}
use Rattle.tb_cli.specs.declared.command.Command.TheVariants as command
use Rattle.tb_cli.specs.declared.fault.WordFault.{WordFault}
use Rattle.tb_cli.specs.Table.{IsWithin}
use Rattle.tb_cli.specs.Words.{asked}
use Rattle.tb_cli.proofs.Ranges.{asked-within}
use Rattle.tb_edge.specs.Faults.{Rose}
use Rattle.tb_log.specs.declared.entry.Entry.{Entry}
use Rattle.tb_sim.specs.declared.ends.SimEnd.{SimEnd}
use Rattle.tb_sim.specs.declared.ends.SimEnd.TheVariants as sim
use Rattle.tb_top.specs.Outcomes.{Comes}
use Rattle.tb_top.specs.Reporting.{Reported}
use Rattle.tb_top.specs.Ring.{IsRingOf, summary}
use Rattle.tb_top.specs.Views.{Seen}
use Rattle.tb_top.specs.declared.status.Status.{Status}
use Rattle.tb_top.specs.declared.status.Status.TheVariants as status
use Rattle.tb_top.specs.declared.status.Edge.TheVariants as edge
use Rattle.tb_top.proofs.Completeness.{ring-completes}
use Rattle.tb_top.proofs.Summaries.{ring-summary}

pub asked-completes : (A : Type 0) (words : List (List ℕ)) (n k : ℕ) (old new : Seen) (told more : Option (List ℕ)) (it : Status) → asked words ≡ Ok (command.Ring n k) →
    (Rose old.outside.out_faults new.outside.out_faults → ⊥) → (it ≡ status.Outside edge.Err → ⊥) →
    Reported {A = A} (Comes (asked words) old new) told more it → (it ≡ status.Ended) ⊎ (it ≡ status.NoMemory)
asked-completes A words n k old new told more it is out err reported =
    let within : IsWithin (command.Ring n k) = asked-within words (command.Ring n k) is in
    ring-completes A n k old new told more it within.0.0 within.0.1 within.1 within.2 out err
    (subst (λ (answer : Result Command WordFault). Reported {A = A} (Comes answer old new) told more it) is reported)

pub asked-summary : (words : List (List ℕ)) (n k : ℕ) (log : List Entry) (last : SimEnd) → asked words ≡ Ok (command.Ring n k) → IsRingOf n k log last
    → (last ≡ sim.Down) × (summary n log ≡ codes "processes " ++ decimal n ++ codes " steps " ++ decimal (n * k + 1) ++ codes " end " ++ codes "shutdown" ++ 10 ∷ [])
asked-summary words n k log last is ring =
    let within : IsWithin (command.Ring n k) = asked-within words (command.Ring n k) is in
    ring-summary n k log last within.0.0 within.0.1 within.1 within.2 ring
