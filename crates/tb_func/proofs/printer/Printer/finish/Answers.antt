use Rattle.std.proofs.Common.{List, ℕ, Option, ◌++◌, option_map, sym, ap, arith, refl}
use Rattle.tb_func.proofs.OutputLemmas.{printed-early}
use Rattle.tb_func.proofs.printer.Printer.finish.Goals as goal
use Rattle.tb_func.proofs.printer.Printer.finish.Goals.{then-is_after_percent-via-then-is_after_percent, then-is_after_percent-via-else-is_after_percent+then-taken-args}

pub returns-then-is_after_percent : goal.returns-then-is_after_percent
returns-then-is_after_percent c =
    let text = c.args.self.text.items in
    elim c.then-is_after_percent.branch [
      | then-is_after_percent-via-then-is_after_percent w ↦ rw w.if-is_after_percent.true refl
      | then-is_after_percent-via-else-is_after_percent+then-taken-args w ↦ sym (ap (λ (o : Option (List ℕ)). option_map (λ rest. text ++ rest) o) (printed-early c.args.self.is_after_percent c.args.self.taken c.args.args.now (omega (arith, w.if-taken-args.true))))
    ]
