use Rattle.tb_verify.proofs.FollowedLemmas.{follows-line}
use Rattle.tb_verify.proofs.verifying.follow_line.Goals as goal

pub returns-in-Ok-follow-clause-follows : goal.returns-in-Ok-follow-clause-follows
returns-in-Ok-follow-clause-follows g c =
    follows-line c.args.core.now c.follow.new.self c.args.number c.args.line.now c.in-Ok.entry c.in-Ok-follow.legal c.in-Ok.ensures.found c.in-Ok-follow.ensures.follows c.in-Ok-follow.ensures.room
