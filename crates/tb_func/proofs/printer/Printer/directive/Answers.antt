use Rattle.std.proofs.Common.{◌==◌, ◌≡◌, false, arith}
use Rattle.std.proofs.lemmas.Bool.Decides.{nat_tests}
use Rattle.std.proofs.lemmas.Result.{IfOk-weaker}
use Rattle.tb_func.proofs.OutputLemmas.{output-percent, output-shown}
use Rattle.tb_func.proofs.printer.Printer.directive.Goals as goal

pub returns-then-letter-eq37 : goal.returns-then-letter-eq37
returns-then-letter-eq37 c = λ rest.
    let p = c.args.self.now in
    output-percent p.text.items c.push.new.self.items p.taken c.args.letter rest c.args.args.now (omega arith) c.in_ok-push.ensures.items

pub returns : goal.returns
returns c =
    let p = c.args.self.now in
    let other : (c.args.letter == 37) ≡ false = grind (arith, nat_tests) in
    IfOk-weaker c.push_shown.result _ _ (λ s h rest. output-shown p.text.items c.push_shown.new.into.items p.taken c.args.letter rest c.args.args.now c.index-args-self.result s other (omega arith) c.index-args-self.is h) c.push_shown.ensures
