use Rattle.tb_read.proofs.Names.{is_name_prefix}
use Rattle.tb_read.proofs.lex.name_at.Goals as goal

pub new-requires : goal.new-requires
new-requires c = rw (c.split_at.ensures.front, c.name_len-len.ensures.value) (is_name_prefix c.args.bytes.now c.requires)
