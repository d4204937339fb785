use Rattle.std.proofs.Common.{◌*◌, ◌≤◌, ℕ, map, string_bytes, sym, subst, arith}
use Rattle.tb_read.specs.Spelling.{digits_value}
use Rattle.tb_cli.specs.Parts.{parts_of}
use Rattle.tb_cli.specs.Table.{operand}
use Rattle.tb_cli.proofs.Fitting.{ring-numbers}
use Rattle.tb_cli.proofs.command.make_ring.Goals as goal

pub operand_number-n-requires : goal.operand_number-n-requires
operand_number-n-requires c = let h = ring-numbers (parts_of (map string_bytes c.args.words.now)) c.requires in omega (arith, h.processes.1)

pub operand_number-k-requires : goal.operand_number-k-requires
operand_number-k-requires c = let h = ring-numbers (parts_of (map string_bytes c.args.words.now)) c.requires in omega (arith, h.small)

pub returns-clause-within : goal.returns-clause-within
returns-clause-within c =
    let h = ring-numbers (parts_of (map string_bytes c.args.words.now)) c.requires in
    let n = c.operand_number-n.ensures in
    let k = c.operand_number-k.ensures in
    let product = subst (λ (m : ℕ). m * c.operand_number-k.result ≤ 1000000) (sym n) (subst (λ (m : ℕ). digits_value (operand 0 (parts_of (map string_bytes c.args.words.now))) * m ≤ 1000000) (sym k) h.rounds.1) in
    ((omega (arith, n, h.processes.0), omega (arith, n, h.processes.1)), omega (arith, k, h.rounds.0), product)
