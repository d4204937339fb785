use Rattle.std.proofs.lemmas.Result.{on_err_weaker}
use Rattle.tb_edge.proofs.Puts.{WritesPrefix-append, WritesPrefix-more}
use Rattle.tb_message.specs.Messages.{message_text}
use Rattle.tb_write.proofs.line.put_text.Goals as goal

pub returns-in-Ok-clause-prefix : goal.returns-in-Ok-clause-prefix
returns-in-Ok-clause-prefix g c =
    on_err_weaker c.put_words.result (WritesPrefix-append (g.E.Sink.taken c.args.err.now) (g.E.Sink.taken c.put.new.self) (g.E.Sink.taken c.put_words.new.err) c.args.prefix.now (message_text c.args.line.now) c.in-Ok.ensures.ok) c.put_words.ensures.prefix

pub returns-in-Err-clause-prefix : goal.returns-in-Err-clause-prefix
returns-in-Err-clause-prefix g c = WritesPrefix-more (g.E.Sink.taken c.args.err.now) (g.E.Sink.taken c.put.new.self) c.args.prefix.now (message_text c.args.line.now) c.in-Err.ensures.prefix
