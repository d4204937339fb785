use Rattle.std.proofs.Common.{w64, arith}
use Rattle.std.proofs.lemmas.Nat.Bits.{bit_at-trailing_zeros}
use Rattle.tb_index.proofs.bits.first_in_word.Goals as goal

pub returns-clause-next : goal.returns-clause-next
returns-clause-next c = let t = bit_at-trailing_zeros w64 c.args.word c.requires (omega arith) in (omega arith, t.1, λ k l m. t.2 k m)
