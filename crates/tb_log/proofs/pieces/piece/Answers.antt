use Rattle.std.proofs.Common.{◌≡◌, ◌∙◌, ◌-◌, ℕ, ap, length, min, take, drop}
use Rattle.std.proofs.lemmas.Result.{IfOk-weaker}
use Rattle.tb_log.proofs.ReadLemmas.{read_piece}
use Rattle.tb_log.proofs.pieces.piece.Goals as goal

pub returns : goal.returns
returns c =
    let entries = c.args.log.now.entries in
    let before = c.min-before.result in
    let count = c.min-count.result in
    let behind : before ≡ min c.args.from (length entries) = c.min-before.ensures ∙ ap (λ (n : ℕ). min c.args.from n) c.len.ensures in
    let so_many : count ≡ min c.args.most (length entries - before) = c.min-count.ensures ∙ ap (λ (n : ℕ). min c.args.most (n - before)) c.len-2.ensures in
    let same = read_piece entries c.args.from c.args.most before count behind so_many in
    IfOk-weaker c.copies.result (λ copies. copies ≡ take count (drop before entries)) (λ piece. piece ≡ take c.args.most (drop c.args.from entries)) (λ copies e. e ∙ same) c.copies.ensures
