use Rattle.std.proofs.Common.{◌+◌, Err, refl, ap, sym, ◌∙◌}
use Rattle.tb_verify.specs.declared.verdict.VerifyFault.{VerifyFault}
use Rattle.tb_verify.proofs.FollowedLemmas.{follows-nothing, follows-on, line-number, none-left, settles-fault, settles-line, settles-trace, some-left}
use Rattle.tb_verify.proofs.verifying.verify_lines.Goals as goal

pub lines-init : goal.lines-init
lines-init g c = follows-nothing c.args.core.now.origin c.args.log.now c.args.core.now refl c.requires.running c.requires.fresh

pub lines-preserved : goal.lines-preserved
lines-preserved g c =
    let old = c.lines.core in
    let parts = c.split_line.result in
    let count = line-number c.len.result c.log.result.now.entries old.log c.len.ensures c.log.ensures.value in
    follows-on c.args.core.now.origin c.args.log.now c.lines.rest.now parts.0.now parts.1.now (c.len.result + 1) old c.follow_line.new.core c.in-Ok-true.field-0 c.lines.invariant c.split_line.ensures.parts count c.in-Ok-true.field-0-test c.in-Ok-true.ensures.follows

pub returns-in-Ok-false : goal.returns-in-Ok-false
returns-in-Ok-false g c =
    let old = c.lines.core in
    let rest = c.lines.rest.now in
    let parts = c.split_line.result in
    let count = line-number c.len.result c.log.result.now.entries old.log c.len.ensures c.log.ensures.value in
    let some = some-left rest parts.1.now c.split_line.ensures.shorter in
    settles-line c.args.core.now.origin c.args.log.now rest parts.0.now (c.len.result + 1) old c.follow_line.new.core c.in-Ok-false.field-0 c.lines.invariant some c.split_line.ensures.line count c.in-Ok-false.field-0-test c.in-Ok-false.ensures.follows

pub returns-in-Err : goal.returns-in-Err
returns-in-Err g c =
    let old = c.lines.core in
    let rest = c.lines.rest.now in
    let parts = c.split_line.result in
    let count = line-number c.len.result c.log.result.now.entries old.log c.len.ensures c.log.ensures.value in
    let some = some-left rest parts.1.now c.split_line.ensures.shorter in
    settles-fault c.args.core.now.origin c.args.log.now rest parts.0.now (c.len.result + 1) old c.in-Err.fault c.lines.invariant some c.split_line.ensures.line count (λ e. c.in-Err.ensures.full (ap (λ (f : VerifyFault). Err f) e))

pub returns : goal.returns
returns g c = settles-trace c.args.core.now.origin c.args.log.now c.lines.rest.now c.lines.core c.lines.invariant (none-left c.lines.rest.now (sym c.is_empty.ensures ∙ c.lines-test.false))
