use Rattle.std.proofs.Common.{◌≡◌, Some, None}
use Rattle.std.proofs.lemmas.Result.{err_from_is_err_and}
use Rattle.tb_read.specs.Helpers.Building.{built_from, nothing}
use Rattle.tb_read.specs.Helpers.Limits.{over_limit}
use Rattle.tb_read.proofs.Wholes.{fault_of_scan, fault_of_limit, found_term, always_built}
use Rattle.tb_read.proofs.read.read.Goals as goal

pub returns-in_err-tokens-clause-fault : goal.returns-in_err-tokens-clause-fault
returns-in_err-tokens-clause-fault c =
    let p = err_from_is_err_and c.from_residual.result c.from_residual.ensures.1 in
    rw (p.1, p.2) (fault_of_scan c.args.limits.size c.args.limits.levels c.args.bytes.now _ c.in_err-tokens.ensures)

pub returns-in-Some-clause-fault : goal.returns-in-Some-clause-fault
returns-in-Some-clause-fault c =
    let over : over_limit c.args.limits.size c.args.limits.levels c.in_ok-tokens.tokens.items ≡ Some c.in-Some.fault = cc (c.in-Some.ensures, c.as_slice.ensures.value) in
    fault_of_limit c.args.limits.size c.args.limits.levels c.args.bytes.now c.in_ok-tokens.tokens.items c.in-Some.fault c.in_ok-tokens.ensures over

pub unreachable-requires : goal.unreachable-requires
unreachable-requires c =
    let none : (built_from nothing c.in_ok-tokens.tokens.items).done ≡ None = cc c.in_ok-term.ensures in
    always_built c.args.bytes.now c.in_ok-tokens.tokens.items c.in_ok-tokens.ensures none

pub returns-clause-found : goal.returns-clause-found
returns-clause-found c =
    let within : over_limit c.args.limits.size c.args.limits.levels c.in_ok-tokens.tokens.items ≡ None = cc (c.in_default.ensures, c.as_slice.ensures.value) in
    let made : (built_from nothing c.in_ok-tokens.tokens.items).done ≡ Some c.in-Some-2.term = cc c.in_ok-term.ensures in
    found_term c.args.limits.size c.args.limits.levels c.args.bytes.now c.in_ok-tokens.tokens.items c.in-Some-2.term c.in_ok-tokens.ensures within made
