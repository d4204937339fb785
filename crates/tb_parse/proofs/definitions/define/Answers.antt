use Rattle.std.proofs.Common.{List, ap}
use Rattle.tb_syntax.specs.declared.script.ToolDef.{ToolDef}
use Rattle.tb_parse.proofs.KeptRows.{process_more, process_stops, tool_more, tool_stops, none_more, defines_err}
use Rattle.tb_parse.proofs.definitions.define.Goals as goal

pub returns-in_err-made : goal.returns-in_err-made
returns-in_err-made c =
    defines_err c.args.room c.args.found.now c.args.reader.now c.args.found.now c.process.new.reader _ _ c.from_residual.ensures.1
    (process_stops c.args.room c.args.reader.now c.args.found.now c.args.found.now c.process.new.reader _
    c.position-token.ensures c.eat_word.ensures.found c.eat_word.ensures.behind c.if-eat_word.true c.in_err-made.ensures)

pub returns-then-eat_word : goal.returns-then-eat_word
returns-then-eat_word c =
    process_more c.args.room c.args.reader.now c.args.found.now
    c.position-token.ensures c.eat_word.ensures.found c.eat_word.ensures.behind c.if-eat_word.true c.in_ok-made.ensures c.in_ok-add.ensures

pub returns-in_err-declared : goal.returns-in_err-declared
returns-in_err-declared c =
    defines_err c.args.room c.args.found.now c.args.reader.now c.args.found.now c.tool.new.reader _ _ c.from_residual-in_err-declared.ensures.1
    (tool_stops c.args.room c.args.reader.now c.args.found.now c.args.found.now c.tool.new.reader _
    c.position-token.ensures c.eat_word.ensures.found c.eat_word.ensures.behind c.if-eat_word.false
    c.eat_word-2.ensures.found c.eat_word-2.ensures.behind c.if-eat_word-2.true c.in_err-declared.ensures)

pub returns-then-eat_word-2 : goal.returns-then-eat_word-2
returns-then-eat_word-2 c =
    let found = c.args.found.now in
    tool_more c.args.room c.args.reader.now c.args.found.now
    c.position-token.ensures c.eat_word.ensures.found c.eat_word.ensures.behind c.if-eat_word.false
    c.eat_word-2.ensures.found c.eat_word-2.ensures.behind c.if-eat_word-2.true c.in_ok-declared.ensures
    (ap (λ (tools : List ToolDef). record found { tools = tools }) c.in_ok-push.ensures.ok)

pub returns : goal.returns
returns c =
    none_more c.args.room c.args.reader.now c.args.found.now
    c.eat_word.ensures.found c.eat_word.ensures.behind c.if-eat_word.false
    c.eat_word-2.ensures.found c.eat_word-2.ensures.behind c.if-eat_word-2.false
