use Rattle.tb_log_read.proofs.Parting.{parted_some, parted_none}
use Rattle.tb_log_read.proofs.part.next_part.Goals as goal

pub returns-in-Some-clause-parts : goal.returns-in-Some-clause-parts
returns-in-Some-clause-parts c =
    parted_some c.args.bytes.now _ _ c.in-Some.more.now _ _ c.part_len.ensures.value c.split_at.ensures.front c.split_at.ensures.back c.in-Some.ensures.cases.0

pub returns-in-None-clause-parts : goal.returns-in-None-clause-parts
returns-in-None-clause-parts c =
    parted_none c.args.bytes.now _ _ _ c.part_len.ensures.value c.split_at.ensures.front c.split_at.ensures.back c.in-None.ensures.cases
