-- The whole text of a printer within a format, given the rest of the format and all arguments.
use Rattle.std.specs.Prelude.{ℕ, List, ◌++◌, drop, Option, option_map}
use Rattle.tb_terms.specs.declared.term.Term.{Term}
use Rattle.tb_func.specs.declared.printer.Printer.{Printer}
use Rattle.tb_func.specs.Printing.{printed}

abbrev pub in_all : Printer → List ℕ → List Term → Option (List ℕ)
in_all printer format ts =
    option_map (λ rest. printer.text.items ++ rest) (printed printer.is_after_percent format (drop printer.taken ts))
