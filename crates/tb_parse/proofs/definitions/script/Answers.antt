use Rattle.tb_parse.proofs.Scripts.{script_undefined, script_no_word, script_no_paren, script_no_roots, script_not_ended, script_found, judges_err}
use Rattle.tb_parse.proofs.definitions.script.Goals as goal

pub returns-in_err-defined : goal.returns-in_err-defined
returns-in_err-defined c =
    judges_err _ _ _ _ c.from_residual.ensures.1 c.in_err-defined.ensures (λ p e. script_undefined c.args.room c.args.reader.now e)

pub returns-in_err-skip_word : goal.returns-in_err-skip_word
returns-in_err-skip_word c =
    judges_err _ _ _ _ c.from_residual-in_err-skip_word.ensures.1 c.in_err-skip_word.ensures
    (λ p e. script_no_word c.args.room c.args.reader.now c.in_ok-defined.ensures e)

pub returns-in_err-skip_sign : goal.returns-in_err-skip_sign
returns-in_err-skip_sign c =
    judges_err _ _ _ _ c.from_residual-in_err-skip_sign.ensures.1 c.in_err-skip_sign.ensures
    (λ p e. script_no_paren c.args.room c.args.reader.now c.in_ok-defined.ensures c.in_ok-skip_word.ensures e)

pub returns-in_err-roots : goal.returns-in_err-roots
returns-in_err-roots c =
    judges_err _ _ _ _ c.from_residual-in_err-roots.ensures.1 c.in_err-roots.ensures
    (λ p e. script_no_roots c.args.room c.args.reader.now c.in_ok-defined.ensures c.in_ok-skip_word.ensures c.in_ok-skip_sign.ensures e)

pub returns-then-not-is_done : goal.returns-then-not-is_done
returns-then-not-is_done c =
    script_not_ended c.args.room c.args.reader.now
    c.in_ok-defined.ensures c.in_ok-skip_word.ensures c.in_ok-skip_sign.ensures c.in_ok-roots.ensures c.if-not-is_done.ensures c.position.ensures

pub returns : goal.returns
returns c =
    script_found c.args.room c.args.reader.now
    c.in_ok-defined.ensures c.in_ok-skip_word.ensures c.in_ok-skip_sign.ensures c.in_ok-roots.ensures c.if-not-is_done.ensures c.whole.ensures
