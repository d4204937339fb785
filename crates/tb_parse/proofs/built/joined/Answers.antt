use Rattle.std.proofs.Common.{sym, ap, ◌∙◌}
use Rattle.tb_parse.specs.Helpers.Heights.{joined, join_of}
use Rattle.tb_parse.proofs.Chains.{joined_push}
use Rattle.tb_parse.proofs.built.joined.Goals as goal

pub loop-x-preserved : goal.loop-x-preserved
loop-x-preserved c =
    let join = join_of c.args.chain in
    ap (λ b. joined join c.pop.new.self b) c.in_ok-whole.ensures ∙ sym (joined_push join c.pop.new.self c.in-Some.x c.loop-x.whole)
    ∙ ap (λ xs. joined join xs c.loop-x.whole) (sym c.in-Some.ensures) ∙ c.loop-x.invariant
