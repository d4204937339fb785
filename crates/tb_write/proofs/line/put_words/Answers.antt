use Rattle.std.proofs.lemmas.Result.{on_err_weaker}
use Rattle.tb_edge.proofs.Puts.{WritesPrefix-append, WritesPrefix-more}
use Rattle.tb_message.specs.Messages.{rest_text}
use Rattle.tb_write.proofs.line.put_words.Goals as goal

pub returns-in-Ok-clause-prefix : goal.returns-in-Ok-clause-prefix
returns-in-Ok-clause-prefix g c =
    on_err_weaker c.put_rest.result (WritesPrefix-append (g.E.Sink.taken c.args.err.now) (g.E.Sink.taken c.put.new.self) (g.E.Sink.taken c.put_rest.new.err) c.args.line.now.words.now (rest_text c.args.line.now.rest) c.in-Ok.ensures.ok) c.put_rest.ensures.prefix

pub returns-in-Err-clause-prefix : goal.returns-in-Err-clause-prefix
returns-in-Err-clause-prefix g c = WritesPrefix-more (g.E.Sink.taken c.args.err.now) (g.E.Sink.taken c.put.new.self) c.args.line.now.words.now (rest_text c.args.line.now.rest) c.in-Err.ensures.prefix
