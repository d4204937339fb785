-- The numbers of a command that arguments request are within their ranges.
use Rattle.std.proofs.Common.{◌≡◌, ℕ, List, [], ◌∷◌, Option, Some, None, Ok, Err, slice_get, refl, subst, arith}
use Rattle.tb_cli.specs.declared.command.Command.{Command}
use Rattle.tb_cli.specs.declared.pair_command.PairCommand.{PairCommand}
use Rattle.tb_cli.specs.declared.table.Verb.{Verb}
use Rattle.tb_cli.specs.declared.table.Verb.TheVariants as verb
use Rattle.tb_cli.specs.Parts.{Part, given, parts_of}
use Rattle.tb_cli.specs.Table.{Setting, Form, Row, connect, steps, ticks, events, sim, run, pair, option_named, row_named, number_or, number_of, make, make_pair, IsWithin, IsPairWithin}
use Rattle.tb_cli.specs.Words.{Answer, form_answer, made, made_pair, asked_by, asked, asked_pair}
use Rattle.tb_cli.specs.Helpers.Fitting.{AllFit, IsIn, IsNumber, FormFits, row_by}
use Rattle.tb_cli.proofs.Fitting.{number-at, ring-numbers, form-fits}
use Rattle.tb_cli.proofs.Rows.{row-by}

-- The number of an option is the first that is given, or the default.
first-in : (option : Setting) (values : List (List ℕ)) → IsNumber option.kind → IsIn option.kind option.usual → AllFit option.kind [] values → IsIn option.kind (number_or option.usual (slice_get values 0))
first-in option [] number usual all = usual
first-in option (value ∷ values) number usual all = (number-at option.kind (value ∷ values) value number all refl).1

number-in : (form : Form) (parts : List Part) (option : Setting) → FormFits form parts → option_named form.options option.name ≡ Some option → IsNumber option.kind → IsIn option.kind option.usual → IsIn option.kind (number_of option parts)
number-in form parts option fits named number usual = first-in option (given (Some option.name) parts) number usual (fits.option option named).fits

made-within : (which : Verb) (parts : List Part) → FormFits (row_by which).form parts → IsWithin (make which parts)
made-within verb.Check parts fits = tt
made-within verb.Sim parts fits = (
  (fits.option connect refl).few,
  number-in sim.form parts steps fits refl (omega arith) (omega arith, omega arith),
  number-in sim.form parts events fits refl (omega arith) (omega arith, omega arith),
)
made-within verb.Run parts fits = (
  (fits.option connect refl).few,
  (number-in run.form parts ticks fits refl (omega arith) (omega arith, omega arith)).1,
  number-in run.form parts events fits refl (omega arith) (omega arith, omega arith),
)
made-within verb.Verify parts fits = (fits.option connect refl).few
made-within verb.Iface parts fits = tt
made-within verb.Ring parts fits = let h = ring-numbers parts fits in (h.processes, h.rounds.0, h.rounds.1)

row-within : (row : Row) (parts : List Part) (answer : Answer) (command : Command) → row ≡ row_by row.verb → form_answer row.form 2 parts ≡ answer → made row parts answer ≡ Ok command → IsWithin command
row-within row parts (Ok tt) command own fine e =
    let same : make row.verb parts ≡ command = cc in
    subst IsWithin same (made-within row.verb parts (subst (λ (r : Row). FormFits r.form parts) own (form-fits row.form 2 parts fine)))
row-within row parts (Err f) command own fine e = absurd cc

found-within : (found : Option Row) (words : List (List ℕ)) (command : Command) → ((row : Row) → found ≡ Some row → row ≡ row_by row.verb) → asked_by found words ≡ Ok command → IsWithin command
found-within None words command own e = absurd cc
found-within (Some row) words command own e = row-within row (parts_of words) (form_answer row.form 2 (parts_of words)) command (own row refl) refl e

pub asked-within : (words : List (List ℕ)) (command : Command) → asked words ≡ Ok command → IsWithin command
asked-within [] command e = absurd cc
asked-within (word ∷ words) command e = found-within (row_named word) words command (row-by word) e

-- the arguments of a pair

pub pair-within : (parts : List Part) → FormFits pair parts → IsPairWithin (make_pair parts)
pair-within parts fits = (
  (number-in pair parts ticks fits refl (omega arith) (omega arith, omega arith)).1,
  number-in pair parts events fits refl (omega arith) (omega arith, omega arith),
)

pair-made : (parts : List Part) (answer : Answer) (it : PairCommand) → form_answer pair 1 parts ≡ answer → made_pair parts answer ≡ Ok it → IsPairWithin it
pair-made parts (Ok tt) it fine e =
    let same : make_pair parts ≡ it = cc in
    subst IsPairWithin same (pair-within parts (form-fits pair 1 parts fine))
pair-made parts (Err f) it fine e = absurd cc

pub asked_pair-within : (words : List (List ℕ)) (it : PairCommand) → asked_pair words ≡ Ok it → IsPairWithin it
asked_pair-within [] it e = absurd cc
asked_pair-within (word ∷ words) it e = pair-made (parts_of (word ∷ words)) (form_answer pair 1 (parts_of (word ∷ words))) it refl e
