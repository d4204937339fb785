use Rattle.tb_parse.proofs.Exits.{meets_err}
use Rattle.tb_parse.proofs.Processes.{process_unnamed, process_no_formals, process_no_is, process_no_body, process_found}
use Rattle.tb_parse.proofs.definitions.process.Goals as goal

pub returns-in_err-name : goal.returns-in_err-name
returns-in_err-name c =
    meets_err _ _ _ _ _ c.from_residual.ensures.1 c.in_err-name.ensures (λ p e. process_unnamed c.args.room c.args.token c.args.reader.now e)

pub returns-in_err-formals : goal.returns-in_err-formals
returns-in_err-formals c =
    meets_err _ _ _ _ _ c.from_residual-in_err-formals.ensures.1 c.in_err-formals.ensures
    (λ p e. process_no_formals c.args.room c.args.token c.args.reader.now c.in_ok-name.ensures e)

pub returns-in_err-skip_word : goal.returns-in_err-skip_word
returns-in_err-skip_word c =
    meets_err _ _ _ _ _ c.from_residual-in_err-skip_word.ensures.1 c.in_err-skip_word.ensures
    (λ p e. process_no_is c.args.room c.args.token c.args.reader.now c.in_ok-name.ensures c.in_ok-formals.ensures e)

pub returns-in_err-body : goal.returns-in_err-body
returns-in_err-body c =
    meets_err _ _ _ _ _ c.from_residual-in_err-body.ensures.1 c.in_err-body.ensures
    (λ p e. process_no_body c.args.room c.args.token c.args.reader.now c.in_ok-name.ensures c.in_ok-formals.ensures c.in_ok-skip_word.ensures e)

pub returns : goal.returns
returns c =
    process_found c.args.room c.args.token c.args.reader.now c.in_ok-name.ensures c.in_ok-formals.ensures c.in_ok-skip_word.ensures c.in_ok-body.ensures c.definition.ensures
