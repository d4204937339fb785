use Rattle.std.proofs.Common.{◌≡◌, ◌∙◌, ◌+◌, ◌++◌, length, reverse, ap, arith}
use Rattle.std.proofs.lemmas.List.{length-append, length-reverse, with_items_is}
use Rattle.tb_log.proofs.MoveLemmas.{turned_back}
use Rattle.tb_log.proofs.log.move_terms.Goals as goal

pub returns-clause-moved : goal.returns-clause-moved
returns-clause-moved c =
    let old = c.args.into.now.items in
    let more = c.args.terms.now in
    let poured = c.pour.new.into in
    let first : c.len-first.result ≡ length old = omega (arith, c.len-first.ensures, c.args.into.now.ok.0) in
    let moved : c.turn.new.terms ≡ old ++ more =
    turned_back old more c.as_mut_slice.result.now c.turn.new.terms c.len-first.result first (c.as_mut_slice.ensures.value ∙ c.pour.ensures.poured) c.turn.ensures in
    let new_long : length c.turn.new.terms ≡ length old + length more = ap length moved ∙ length-append old more in
    let old_long : length poured.items ≡ length old + length (reverse more) = ap length c.pour.ensures.poured ∙ length-append old (reverse more) in
    let same_long : length (reverse more) ≡ length more = length-reverse more in
    with_items_is poured c.turn.new.terms (omega (arith, new_long, old_long, same_long, poured.ok.0)) ∙ moved
