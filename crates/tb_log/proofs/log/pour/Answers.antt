use Rattle.std.proofs.Common.{◌≡◌, ◌∙◌, ◌+◌, length, arith, ap}
use Rattle.std.proofs.lemmas.List.{length_push}
use Rattle.tb_log.proofs.MoveLemmas.{poured_on}
use Rattle.tb_log.proofs.log.pour.Goals as goal

pub loop-term-preserved : goal.loop-term-preserved
loop-term-preserved c =
    let long : length c.loop-term.terms ≡ length c.pop.new.self + 1 = ap length c.in-Some.ensures ∙ length_push c.pop.new.self c.in-Some.term in
    record {
      poured = poured_on c.loop-term.into.items c.push_reserved.new.self.items c.pop.new.self c.loop-term.terms c.in-Some.term c.in-Some.ensures c.push_reserved.ensures.items ∙ c.loop-term.invariant.poured;
      room = omega (arith, long, c.push_reserved.ensures.len, c.push_reserved.ensures.capacity, c.loop-term.invariant.room);
    }
