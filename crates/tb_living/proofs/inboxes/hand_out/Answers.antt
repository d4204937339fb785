use Rattle.std.proofs.Common.{◌∙◌, ap}
use Rattle.tb_search.specs.Candidates.{rows_of}
use Rattle.tb_living.specs.Holdings.{put_each}
use Rattle.tb_living.proofs.NoteLemmas.{all-can, apart-of, each-given, wanting-within}
use Rattle.tb_living.proofs.inboxes.hand_out.Goals as goal

pub reserve_all-requires : goal.reserve_all-requires
reserve_all-requires g c = wanting-within c.args.note.now c.args.all.now.items c.args.indices.now c.requires.wanting

pub put_all-requires-clause-apart : goal.put_all-requires-clause-apart
put_all-requires-clause-apart g c = apart-of c.args.note.now (rows_of c.args.all.now.items) c.args.indices.now c.requires.wanting

pub put_all-requires-clause-can : goal.put_all-requires-clause-can
put_all-requires-clause-can g c =
    all-can c.args.note.now c.args.all.now.items c.reserve_all.new.all.items c.args.indices.now c.requires.wanting c.requires.room c.reserve_all.ensures.same c.in_ok-reserve_all.ensures.ok

pub returns-clause-ok : goal.returns-clause-ok
returns-clause-ok g c =
    c.put_all.ensures.helds c.args.note.now c.in_ok-copies.ensures.copies
    ∙ ap (put_each c.args.note.now c.args.indices.now) c.reserve_all.ensures.same.helds
    ∙ each-given c.args.note.now c.args.all.now.items c.args.indices.now c.requires.wanting
