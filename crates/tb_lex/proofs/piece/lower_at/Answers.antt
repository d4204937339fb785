use Rattle.tb_lex.proofs.Names.{is_name_prefix}
use Rattle.tb_lex.proofs.piece.lower_at.Goals as goal

pub new-requires : goal.new-requires
new-requires c = rw (c.split_at.ensures.front, c.name_len.ensures.value) (is_name_prefix c.args.bytes.now c.requires)
