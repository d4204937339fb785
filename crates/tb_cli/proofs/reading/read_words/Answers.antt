use Rattle.std.proofs.Common.{◌∙◌, Bor, Option, sym, ap, map, string_bytes, option_map, option_copied, arith}
use Rattle.std.proofs.lemmas.Grind.{common_steps}
use Rattle.tb_cli.specs.declared.table.Row.{Row as CodeRow}
use Rattle.tb_cli.specs.Helpers.Tables.{row_of}
use Rattle.tb_cli.proofs.Built.{read-built}
use Rattle.tb_cli.proofs.Rows.{row-by}
use Rattle.tb_cli.proofs.reading.read_words.Goals as goal

-- The row that was found is that of its own command.
pub read_row-requires : goal.read_row-requires
read_row-requires c =
    row-by c.as_str.result.now (row_of c.in-Some-row_named.row.now)
    (sym c.row_named.ensures ∙ ap (λ (found : Option (Bor CodeRow)). option_map row_of (option_copied found)) c.in-Some-row_named.is)

-- An error is the arguments' own, and so never this one.
pub returns-clause-built : goal.returns-clause-built
returns-clause-built c = read-built (map string_bytes c.args.words.now.items) c.read_row.result (grind (arith, common_steps))
