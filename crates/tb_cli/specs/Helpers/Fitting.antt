-- What holds for the values of arguments that have no error.
use Rattle.std.specs.Prelude.{◌≡◌, ℕ, ◌*◌, ◌≤◌, ◌<◌, ◌^◌, List, [], ◌∷◌, ◌++◌, length, take, get_or, slice_get, Some, IsTrue, ⊤}
use Rattle.tb_terms.specs.Names.{is_text}
use Rattle.tb_read.specs.Spelling.{digits_value}
use Rattle.tb_cli.specs.declared.table.Verb.{Verb}
use Rattle.tb_cli.specs.declared.table.Verb.TheVariants as verb
use Rattle.tb_cli.specs.declared.table.Kind.{Kind}
use Rattle.tb_cli.specs.declared.table.Kind.TheVariants.{File, Number, Factor}
use Rattle.tb_cli.specs.declared.table.Kind.TheVariants as kind
use Rattle.tb_cli.specs.Parts.{Part, given, operands_of}
use Rattle.tb_cli.specs.Table.{Setting, Form, Row, check, sim, run, verify, iface, ring, option_named, operand}
use Rattle.tb_cli.specs.Words.{most_times}

-- the row of a command
abbrev pub row_by : Verb → Row
row_by verb.Check = check
row_by verb.Sim = sim
row_by verb.Run = run
row_by verb.Verify = verify
row_by verb.Iface = iface
row_by verb.Ring = ring

-- a value that fits its kind. `before` has the values that were given earlier under the same name
abbrev pub Fits : Kind → List (List ℕ) → List ℕ → Type 0
Fits File before value = IsTrue (is_text value)
Fits kind.Command before value = IsTrue (is_text value)
Fits (Number least most) before value = (least ≤ digits_value value) × (digits_value value ≤ most)
Fits (Factor most) before value = (1 ≤ digits_value value) × (digits_value (get_or before 0 []) * digits_value value ≤ most)

-- all values of one option fit, after the values in `before`
abbrev pub AllFit : Kind → List (List ℕ) → List (List ℕ) → Type 0
AllFit kind before [] = ⊤
AllFit kind before (value ∷ values) = Fits kind before value × AllFit kind (before ++ value ∷ []) values

-- each operand fits its kind, after the operands in `before`, and there are no more operands than kinds
abbrev pub OperandsFit : List Kind → List (List ℕ) → List (List ℕ) → Type 0
OperandsFit kinds before [] = ⊤
OperandsFit [] before (value ∷ values) = ⊥
OperandsFit (kind ∷ kinds) before (value ∷ values) = Fits kind before value × OperandsFit kinds (before ++ value ∷ []) values

-- the values that parts give for an option: no more than it can have, and each fits
pub record OptionFits (option : Setting) (parts : List Part) : Type 0 where
  pub few : length (given (Some option.name) parts) ≤ most_times option.kind
  pub fits : AllFit option.kind [] (given (Some option.name) parts)

-- the operand at this place: parts give it, and it fits its kind
pub record OperandFits (place : ℕ) (kind : Kind) (parts : List Part) : Type 0 where
  pub there : place < length (operands_of parts)
  pub fits : Fits kind (take place (operands_of parts)) (operand place parts)

-- each option of the form fits, and parts give each operand of the form, which fits
pub record FormFits (form : Form) (parts : List Part) : Type 0 where
  pub option : (option : Setting) → option_named form.options option.name ≡ Some option → OptionFits option parts
  pub operand : (place : ℕ) (kind : Kind) → slice_get form.operands place ≡ Some kind → OperandFits place kind parts

-- a number in the range of its kind. Other kinds than `Number` have no range here
abbrev pub IsIn : Kind → ℕ → Type 0
IsIn File n = ⊤
IsIn kind.Command n = ⊤
IsIn (Number least most) n = (least ≤ n) × (n ≤ most)
IsIn (Factor most) n = ⊤

-- a kind of numbers whose range ends below 2 ^ 32
abbrev pub IsNumber : Kind → Type 0
IsNumber File = ⊥
IsNumber kind.Command = ⊥
IsNumber (Number least most) = most < 2 ^ 32
IsNumber (Factor most) = ⊥
