use Rattle.tb_parse.proofs.Exits.{meets_err}
use Rattle.tb_parse.proofs.TimedAtoms.{timed_stops, timed_found}
use Rattle.tb_parse.proofs.procs.timed.Goals as goal

pub returns-in_err-times : goal.returns-in_err-times
returns-in_err-times c =
    meets_err _ _ _ _ _ c.from_residual.ensures.1 c.in_err-times.ensures (λ at e. timed_stops c.args.room c.args.token c.args.act c.args.reader.now e)

pub returns : goal.returns
returns c = timed_found c.args.room c.args.token c.args.act c.args.reader.now c.in_ok-times.ensures c.in_ok-atom.ensures
