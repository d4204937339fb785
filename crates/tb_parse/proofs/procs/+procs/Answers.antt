use Rattle.std.proofs.Common.{◌<◌, sym, subst, arith}
use Rattle.tb_parse.specs.declared.built.Built.{Built}
use Rattle.tb_parse.specs.Helpers.Parsing.{Outcome, prim, transfer}
use Rattle.tb_parse.specs.Helpers.Heights.{as_built}
use Rattle.tb_parse.specs.Helpers.Reading.{Meets, runs}
use Rattle.tb_parse.proofs.Chains.{chain_begin, chain_stop, chain_last, chain_more, chain_end}
use Rattle.tb_parse.proofs.Exits.{meets_err}
use Rattle.tb_parse.proofs.Blocks.{block_found, sides_found, side_found}
use Rattle.tb_parse.proofs.Stars.{stars_none, stars_begin, stars_stop, stars_last, stars_more, stars_end}
use Rattle.tb_parse.proofs.Turns.{deeper}
use Rattle.tb_parse.proofs.procs.+procs.Goals as goal

pub prim-returns : goal.prim-returns
unfolding prim
prim-returns t c =
    let some : 0 < c.args.room = omega arith in
    let e = deeper (λ n. runs (as_built (prim n)) c.args.reader.now) c.args.room some in
    subst (λ (o : Outcome Built). Meets o c.prim_of.result c.prim_of.new.reader) (sym e) c.prim_of.ensures

pub chain-loop-turn-init : goal.chain-loop-turn-init
chain-loop-turn-init t c = chain_begin c.args.link c.args.room c.args.reader.now c.new-prefix.ensures

pub chain-returns-in_err-x : goal.chain-returns-in_err-x
chain-returns-in_err-x t c =
    meets_err _ _ _ _ _ c.from_residual.ensures.1 c.in_err-x.ensures
    (λ position e. chain_stop c.args.link c.args.room c.args.reader.now c.loop-turn.prefix c.loop-turn._turn c.loop-turn.reader c.loop-turn-test.true c.loop-turn.invariant e)

pub chain-returns-then-not-eat_sign : goal.chain-returns-then-not-eat_sign
chain-returns-then-not-eat_sign t c =
    let found = rw c.sign_of-sign.ensures at c.eat_sign.ensures.found in
    let behind = rw c.sign_of-sign.ensures at c.eat_sign.ensures.behind in
    chain_last c.args.link c.args.room c.args.reader.now c.loop-turn.prefix c.loop-turn._turn c.loop-turn.reader
    c.loop-turn-test.true c.loop-turn.invariant c.in_ok-x.ensures c.in_ok-joined.ensures found behind c.if-not-eat_sign.true

pub chain-loop-turn-preserved : goal.chain-loop-turn-preserved
chain-loop-turn-preserved t c =
    let found = rw c.sign_of-sign.ensures at c.eat_sign.ensures.found in
    let behind = rw c.sign_of-sign.ensures at c.eat_sign.ensures.behind in
    chain_more c.args.link c.args.room c.args.reader.now c.loop-turn.prefix c.loop-turn._turn c.loop-turn.reader
    c.loop-turn-test.true c.loop-turn.invariant c.in_ok-x.ensures c.in_ok-push.ensures.ok found behind c.if-not-eat_sign.false

pub chain-returns : goal.chain-returns
chain-returns t c =
    chain_end c.args.link c.args.room c.args.reader.now c.loop-turn.prefix c.loop-turn._turn c.loop-turn.reader c.loop-turn-test.false c.loop-turn.invariant c.position.ensures

pub turns-returns-in_err-whole : goal.turns-returns-in_err-whole
turns-returns-in_err-whole t c =
    meets_err _ _ _ _ _ c.from_residual.ensures.1 c.in_err-whole.ensures (λ position e. stars_none c.args.room c.args.reader.now e)

pub turns-loop-turn-init : goal.turns-loop-turn-init
turns-loop-turn-init t c = stars_begin c.args.room c.args.reader.now c.in_ok-whole.ensures

pub turns-returns-then-not-eat_sign : goal.turns-returns-then-not-eat_sign
turns-returns-then-not-eat_sign t c =
    stars_last c.args.room c.args.reader.now c.loop-turn.whole c.loop-turn._turn c.loop-turn.reader c.loop-turn.invariant
    c.loop-turn-test.true c.eat_sign.ensures.found c.eat_sign.ensures.behind c.if-not-eat_sign.true

pub turns-returns-in_err-last : goal.turns-returns-in_err-last
turns-returns-in_err-last t c =
    meets_err _ _ _ _ _ c.from_residual-in_err-last.ensures.1 c.in_err-last.ensures
    (λ position e. stars_stop c.args.room c.args.reader.now c.loop-turn.whole c.loop-turn._turn c.loop-turn.reader c.loop-turn.invariant
    c.loop-turn-test.true c.eat_sign.ensures.found c.eat_sign.ensures.behind c.if-not-eat_sign.false e)

pub turns-loop-turn-preserved : goal.turns-loop-turn-preserved
turns-loop-turn-preserved t c =
    stars_more c.args.room c.args.reader.now c.loop-turn.whole c.loop-turn._turn c.loop-turn.reader c.loop-turn.invariant
    c.loop-turn-test.true c.eat_sign.ensures.found c.eat_sign.ensures.behind c.if-not-eat_sign.false c.in_ok-last.ensures c.in_ok-whole-2.ensures

pub turns-returns : goal.turns-returns
turns-returns t c =
    stars_end c.args.room c.args.reader.now c.loop-turn.whole c.loop-turn._turn c.loop-turn.reader c.loop-turn.invariant c.loop-turn-test.false c.position.ensures

pub block-returns : goal.block-returns
block-returns t c =
    block_found (transfer (prim c.args.room) c.args.room) c.args.room c.args.reader.now
    c.in_ok-vars.ensures c.in_ok-skip_word.ensures c.in_ok-x.ensures c.in_ok-skip_word-2.ensures c.in_ok-within.ensures

pub sides-returns-then-not-eat_word : goal.sides-returns-then-not-eat_word
sides-returns-then-not-eat_word t c p is_x =
    side_found (transfer (prim c.args.room) c.args.room) c.args.test p c.args.reader.now is_x
    c.eat_word.ensures.found c.eat_word.ensures.behind c.if-not-eat_word.true c.in_ok-skip_word.ensures c.in_ok-only.ensures

pub sides-returns : goal.sides-returns
sides-returns t c p is_x =
    sides_found (transfer (prim c.args.room) c.args.room) c.args.test p c.args.reader.now is_x
    c.eat_word.ensures.found c.eat_word.ensures.behind c.if-not-eat_word.false c.in_ok-y.ensures c.in_ok-skip_word-2.ensures c.in_ok-either.ensures
