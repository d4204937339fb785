use Rattle.std.proofs.Common.{sym, subst, map, string_bytes}
use Rattle.tb_cli.specs.Parts.{parts_of}
use Rattle.tb_cli.specs.Table.{Row}
use Rattle.tb_cli.specs.Helpers.Tables.{row_of}
use Rattle.tb_cli.specs.Helpers.Fitting.{FormFits}
use Rattle.tb_cli.proofs.Fitting.{form-fits}
use Rattle.tb_cli.proofs.reading.read_row.Goals as goal

pub make_command-requires : goal.make_command-requires
make_command-requires c =
    let parts = parts_of (map string_bytes c.args.words.now) in
    subst (λ (row : Row). FormFits row.form parts) c.requires (form-fits (row_of c.args.row.now).form 2 parts (sym c.in_ok-check_form.ensures.is))
