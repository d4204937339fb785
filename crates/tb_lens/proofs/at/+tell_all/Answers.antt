use Rattle.std.proofs.Common.{Bor, ℕ, List, map}
use Rattle.std.proofs.lemmas.Result.{err_from_is_err_and}
use Rattle.tb_lens.proofs.Asking.{asks_each, asks_first, on_err, some_all}
use Rattle.tb_lens.proofs.Reasons.{reason_of_first, reason_of_others}
use Rattle.tb_lens.proofs.Tellings.{tells_slice}
use Rattle.tb_lens.proofs.at.+tell_all.Goals as goal

pub returns-in_ok-extend_from_slice-in-len1-up-clause-tells : goal.returns-in_ok-extend_from_slice-in-len1-up-clause-tells
returns-in_ok-extend_from_slice-in-len1-up-clause-tells g t c =
    let value : Bor (List ℕ) → List ℕ = λ name. name.now in
    tells_slice (g.F.Files.held c.args.files.now) (g.F.Files.held c.tell.new.files) value c.args.scripts.now _
    c.in_ok-text-in-len1-up.text.items c.in_ok-rest-in-len1-up.rest.items c.as_slice.result.now c.extend_from_slice.new.self.items
    c.in-len1-up.len_at_least c.in_ok-text-in-len1-up.ensures.held c.in_ok-text-in-len1-up.ensures.tells c.in_ok-rest-in-len1-up.ensures.tells
    c.as_slice.ensures.value c.in_ok-extend_from_slice-in-len1-up.ensures.items

-- the first file can't be read, or memory runs out at it
pub returns-in_err-text-in-len1-up-clause-asks_some :
    goal.returns-in_err-text-in-len1-up-clause-asks_some
returns-in_err-text-in-len1-up-clause-asks_some g t c =
    let value : Bor (List ℕ) → List ℕ = λ name. name.now in
    on_err c.from_residual.result
    (asks_first value c.args.scripts.now _ (g.F.Files.asked c.args.files.now) (g.F.Files.asked c.tell.new.files) c.in-len1-up.len_at_least
    c.in_err-text-in-len1-up.ensures.asks_some)

pub returns-in_err-text-in-len1-up-clause-reason :
    goal.returns-in_err-text-in-len1-up-clause-reason
returns-in_err-text-in-len1-up-clause-reason g t c =
    let value : Bor (List ℕ) → List ℕ = λ name. name.now in
    let p = err_from_is_err_and c.from_residual.result c.from_residual.ensures.1 in
    rw (p.1, p.2)
    (reason_of_first g.F.Files.asked g.F.Files.faults value c.args.scripts.now _ c.args.files.now c.tell.new.files
    c.in_err-text-in-len1-up.field-0.0 c.in-len1-up.len_at_least c.in_err-text-in-len1-up.ensures.reason)

-- one of the other files
pub returns-in_err-rest-in-len1-up-clause-reason :
    goal.returns-in_err-rest-in-len1-up-clause-reason
returns-in_err-rest-in-len1-up-clause-reason g t c =
    let value : Bor (List ℕ) → List ℕ = λ name. name.now in
    let p = err_from_is_err_and c.from_residual-in_err-rest-in-len1-up.result c.from_residual-in_err-rest-in-len1-up.ensures.1 in
    rw (p.1, p.2)
    (reason_of_others g.F.Files.asked g.F.Files.faults value c.args.scripts.now _ c.args.files.now c.tell.new.files c.tell_all.new.files
    c.in_err-rest-in-len1-up.field-0.0 c.in-len1-up.len_at_least c.in_ok-text-in-len1-up.ensures.asks c.in_ok-text-in-len1-up.ensures.never_falls
    c.in_err-rest-in-len1-up.ensures.reason)

-- all were asked for before memory ran out
pub returns-in_err-extend_from_slice-in-len1-up-clause-asks_some :
    goal.returns-in_err-extend_from_slice-in-len1-up-clause-asks_some
returns-in_err-extend_from_slice-in-len1-up-clause-asks_some g t c =
    let value : Bor (List ℕ) → List ℕ = λ name. name.now in
    on_err c.from_residual-in_err-extend_from_slice-in-len1-up.result
    (some_all (map value c.args.scripts.now) (g.F.Files.asked c.args.files.now) (g.F.Files.asked c.tell_all.new.files)
    (asks_each value c.args.scripts.now _ (g.F.Files.asked c.args.files.now) (g.F.Files.asked c.tell.new.files)
    (g.F.Files.asked c.tell_all.new.files) c.in-len1-up.len_at_least c.in_ok-text-in-len1-up.ensures.asks
    c.in_ok-rest-in-len1-up.ensures.asks))
