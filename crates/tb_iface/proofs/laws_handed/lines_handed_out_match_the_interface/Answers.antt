use Rattle.std.proofs.Common.{ℕ, List, ◌∷◌, ◌++◌}
use Rattle.tb_terms.specs.declared.term.Term.{Term}
use Rattle.tb_log.specs.declared.entry.Out.TheVariants.{Line}
use Rattle.tb_log.specs.declared.entry.Entry.{Entry}
use Rattle.tb_log.specs.declared.entry.Entry.TheVariants.{Gave}
use Rattle.tb_tools.specs.Lanes.{lane_at}
use Rattle.tb_bus.specs.declared.origin.Origin.{Origin}
use Rattle.tb_bus.specs.Buses.{start}
use Rattle.tb_bus.specs.Traces.{IsTrace, replay}
use Rattle.tb_bus.proofs.TraceLemmas.{trace-prefix}
use Rattle.tb_iface.specs.Handing.{WasPutAsListed}
use Rattle.tb_iface.proofs.HandingLemmas.{handed-put, put-told}
use Rattle.tb_iface.proofs.HeardLemmas.{told-matches}
use Rattle.tb_iface.proofs.WhoseLemmas.{line-whose}
use Rattle.tb_iface.proofs.laws_handed.lines_handed_out_match_the_interface.Goals as goal

as-listed : (origin : Origin) (before rest : List Entry) (lane : ℕ) (line : Term) → IsTrace (start origin) (before ++ Gave lane (Line line) ∷ rest) → WasPutAsListed origin before lane line
as-listed origin before rest lane line trace =
    let put = handed-put origin before rest lane line trace in
    let first = trace-prefix (start origin) before (Gave lane (Line line) ∷ rest) trace in
    record { put = put; whose = line-whose put.label (lane_at lane (replay (start origin) put.before).bench) (Line line) put.puts.is; matches = λ tool for. told-matches origin before tool line first (put-told origin before lane line tool put for) }

pub returns : goal.returns
returns c = as-listed
