use Rattle.std.proofs.Common.{sym, map, string_bytes}
use Rattle.tb_cli.specs.Parts.{parts_of}
use Rattle.tb_cli.specs.Table.{pair}
use Rattle.tb_cli.proofs.Fitting.{form-fits}
use Rattle.tb_cli.proofs.reading.read_pair.Goals as goal

pub make_pair-requires : goal.make_pair-requires
make_pair-requires c = form-fits pair 1 (parts_of (map string_bytes c.args.words.now)) (sym c.in_ok-check_form.ensures.is)
