use Rattle.std.proofs.Common.{◌<◌, ◌+◌, length, drop, arith}
use Rattle.tb_why.proofs.FormatLemmas.{fault-found}
use Rattle.tb_why.proofs.formats.fault_of.Goals as goal

pub returns-in-Some : goal.returns-in-Some
returns-in-Some c =
    let format = c.args.format.now in
    let at = c.loop-letter.letter-index in
    let within : at < length format = let t = c.loop-letter-test.true in omega arith in
    fault-found c.loop-letter.reading format c.args.terms.now at c.in-Some.fault within (c.in-Some.ensures (drop (at + 1) format)) c.loop-letter.invariant
