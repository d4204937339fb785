use Rattle.std.proofs.Common.{◌/◌, ◌%◌, ap, ◌∙◌}
use Rattle.std.specs.Int.{bit_at}
use Rattle.tb_index.proofs.BitLemmas as bits
use Rattle.tb_index.proofs.bits.set_bit.Goals as goal

pub returns-clause-here : goal.returns-clause-here
returns-clause-here c = bits.bit_in-written c.args.words.now.items c.args.n _ c.requires ∙ c.with_bit.ensures.here

pub returns-clause-others : goal.returns-clause-others
returns-clause-others c = λ k apart. bits.bit_in-others c.args.words.now.items c.args.n k _ c.requires apart
    (λ i l other. c.with_bit.ensures.others i l other ∙ ap (λ w. bit_at w i) (bits.read c.args.words.now.items (c.args.n / 64) c.index-word.result.now c.requires c.index-word.ensures))

pub returns-clause-filled : goal.returns-clause-filled
returns-clause-filled c = bits.filled _ (c.args.n % 64) (returns-clause-here c)
