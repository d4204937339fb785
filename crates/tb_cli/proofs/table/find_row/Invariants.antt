use Rattle.std.proofs.Common.{◌≡◌, drop, map, bytes_eq}
use Rattle.std.specs.List.{find}
use Rattle.tb_cli.specs.Table.{Row}
use Rattle.tb_cli.specs.Helpers.Tables.{row_of}
use Rattle.tb_cli.proofs.table.find_row.Given as goal

-- the row is sought among the remaining rows
abbrev pub invariant-loop-row : goal.invariant-loop-row
invariant-loop-row l = find (λ (row : Row). bytes_eq row.word l.word) (map row_of (drop l.row-index l.rows)) ≡ find (λ (row : Row). bytes_eq row.word l.word) (map row_of l.rows)
