-- The values of arguments that have no error fit the kinds of their form.
use Rattle.std.proofs.Common.{◌≡◌, ◌≤◌, ◌<◌, ◌&&◌, ◌*◌, ◌+◌, ℕ, zero, suc, Bool, true, false, if◌then◌else◌, nat_le, bytes_eq, List, [], ◌∷◌, ◌++◌, length, get_or, slice_get, take, Option, Some, None, IsTrue, Result, Ok, Err, refl, sym, ap, subst, ◌∙◌, ◌⊎◌, inl, inr, ◌^◌, ◌-◌, min, arith}
use Rattle.std.proofs.lemmas.Bool.{and_parts, leb-true, leb-false}
use Rattle.std.proofs.lemmas.List.{append-nil, append_assoc, length-append}
use Rattle.std.proofs.lemmas.Grind.{flat_map-append}
use Rattle.std.proofs.lemmas.Slice.Eq.{bytes_eq-Decides}
use Rattle.std.proofs.Math.Nat.{le-mul_of_pos_right, mul_comm, min-eq_left}
use Rattle.tb_terms.specs.Names.{is_text}
use Rattle.tb_read.specs.Spelling.{is_digits, digits_value}
use Rattle.tb_cli.specs.declared.fault.WordFault.{WordFault}
use Rattle.tb_cli.specs.declared.fault.WordFault.TheVariants as fault
use Rattle.tb_cli.specs.declared.table.Kind.{Kind}
use Rattle.tb_cli.specs.declared.table.Kind.TheVariants.{File, Number, Factor}
use Rattle.tb_cli.specs.declared.table.Kind.TheVariants as kind
use Rattle.tb_cli.specs.Parts.{Part, AnOption, AWord, name_of, len_of, given_by, given, operands_of}
use Rattle.tb_cli.specs.Table.{Setting, Form, option_named, operand, ring}
use Rattle.tb_cli.specs.Words.{Answer, and_then, value_answer, most_times, once_more, setting_kind, operand_kind, checked_value, part_answer, parts_answer, whole_answer, form_answer}
use Rattle.tb_cli.specs.Helpers.Fitting.{Fits, AllFit, OperandsFit, OptionFits, OperandFits, FormFits, IsIn, IsNumber}

-- a value

text-fits : (b : Bool) (position : ℕ) → ◌≡◌ {A = Answer} (if b then Ok tt else Err (fault.Unknown position)) (Ok tt) → b ≡ true
text-fits true position e = refl
text-fits false position e = absurd cc

number-fits : (digits b : Bool) (position : ℕ) → ◌≡◌ {A = Answer} (if digits then (if b then Ok tt else Err (fault.Range position)) else Err (fault.Number position)) (Ok tt) → b ≡ true
number-fits true true position e = refl
number-fits true false position e = absurd cc
number-fits false b position e = absurd cc

both : (a b c d : ℕ) → (nat_le a b && nat_le c d) ≡ true → (a ≤ b) × (c ≤ d)
both a b c d e = (leb-true a b (and_parts (nat_le a b) (nat_le c d) e).0, leb-true c d (and_parts (nat_le a b) (nat_le c d) e).1)

value-fits : (kind : Kind) (before : List (List ℕ)) (position : ℕ) (value : List ℕ) → value_answer kind (get_or before 0 []) position value ≡ Ok tt → Fits kind before value
value-fits File before position value e = text-fits (is_text value) position e
value-fits kind.Command before position value e = text-fits (is_text value) position e
value-fits (Number least most) before position value e =
    both least (digits_value value) (digits_value value) most (number-fits (is_digits value) (nat_le least (digits_value value) && nat_le (digits_value value) most) position e)
value-fits (Factor most) before position value e =
    let product = digits_value (get_or before 0 []) * digits_value value in
    both 1 (digits_value value) product most (number-fits (is_digits value) (nat_le 1 (digits_value value) && nat_le product most) position e)

-- values with one more value at the end

all-snoc : (kind : Kind) (before values : List (List ℕ)) (value : List ℕ) → AllFit kind before values → Fits kind (before ++ values) value → AllFit kind before (values ++ value ∷ [])
all-snoc kind before [] value all fit = (subst (λ (b : List (List ℕ)). Fits kind b value) (append-nil before) fit, tt)
all-snoc kind before (first ∷ values) value all fit =
    (all.0, all-snoc kind (before ++ first ∷ []) values value all.1 (subst (λ (b : List (List ℕ)). Fits kind b value) (sym (append_assoc before (first ∷ []) values)) fit))

operands-snoc : (kinds : List Kind) (before values : List (List ℕ)) (value : List ℕ) (kind : Kind) → OperandsFit kinds before values → slice_get kinds (length values) ≡ Some kind → Fits kind (before ++ values) value → OperandsFit kinds before (values ++ value ∷ [])
operands-snoc [] before [] value kind all at fit = absurd cc
operands-snoc [] before (first ∷ values) value kind all at fit = absurd all
operands-snoc (other ∷ kinds) before [] value kind all at fit =
    let same : other ≡ kind = cc in
    (subst (λ (k : Kind). Fits k before value) (sym same) (subst (λ (b : List (List ℕ)). Fits kind b value) (append-nil before) fit), tt)
operands-snoc (other ∷ kinds) before (first ∷ values) value kind all at fit =
    (all.0, operands-snoc kinds (before ++ first ∷ []) values value kind all.1 at (subst (λ (b : List (List ℕ)). Fits kind b value) (sym (append_assoc before (first ∷ []) values)) fit))

-- the answer for a part

checked-kind : (kind : Result Kind WordFault) (before : List (List ℕ)) (position : ℕ) (value : List ℕ) → checked_value kind (get_or before 0 []) position (Some value) ≡ Ok tt → (k : Kind) × (kind ≡ Ok k) × Fits k before value
checked-kind (Ok k) before position value e = (k, refl, value-fits k before position value e)
checked-kind (Err f) before position value e = absurd cc

operand-known : (found : Option Kind) (position : ℕ) (kind : Kind) → operand_kind found position ≡ Ok kind → found ≡ Some kind
operand-known None position kind e = absurd cc
operand-known (Some other) position kind e = let same : other ≡ kind = cc in ap Some same

pub record Known (found : Option Setting) (times : ℕ) (kind : Kind) : Type 0 where
  pub option : Setting
  pub is : found ≡ Some option
  pub same : option.kind ≡ kind
  pub few : times < most_times kind

setting-known : (found : Option Setting) (times position : ℕ) (kind : Kind) → setting_kind found times position ≡ Ok kind → Known found times kind
setting-known None times position kind e = absurd cc
setting-known (Some option) times position kind e = by (nat_le (most_times option.kind) times) refl e where
  by : (b : Bool) → nat_le (most_times option.kind) times ≡ b → ◌≡◌ {A = Result Kind WordFault} (if b then Err (once_more option.kind position) else Ok option.kind) (Ok kind) → Known (Some option) times kind
  by true full h = absurd cc
  by false full h =
      let same : option.kind ≡ kind = cc in
      record { option = option; is = refl; same = same; few = subst (λ (k : Kind). times < most_times k) same (leb-false (most_times option.kind) times full) }

-- parts without an error

pub record Fine (form : Form) (parts : List Part) : Type 0 where
  pub option : (option : Setting) → option_named form.options option.name ≡ Some option → OptionFits option parts
  pub operands : OperandsFit form.operands [] (operands_of parts)

more : (name : Option (List ℕ)) (parts : List Part) (part : Part) → given name (parts ++ part ∷ []) ≡ given name parts ++ given_by name part
more name parts part = flat_map-append (given_by name) parts (part ∷ []) ∙ ap (λ (values : List (List ℕ)). given name parts ++ values) (append-nil (given_by name part))

kept : (option : Setting) (parts : List Part) (part : Part) → given_by (Some option.name) part ≡ [] → OptionFits option parts → OptionFits option (parts ++ part ∷ [])
kept option parts part none fit =
    let same : given (Some option.name) parts ≡ given (Some option.name) (parts ++ part ∷ []) =
    sym (more (Some option.name) parts part ∙ ap (λ (values : List (List ℕ)). given (Some option.name) parts ++ values) none ∙ append-nil (given (Some option.name) parts)) in
    record {
      few = subst (λ (values : List (List ℕ)). length values ≤ most_times option.kind) same fit.few;
      fits = subst (AllFit option.kind []) same fit.fits;
    }

grown : (option : Setting) (parts : List Part) (part : Part) (value : List ℕ) → given_by (Some option.name) part ≡ value ∷ [] → length (given (Some option.name) parts) < most_times option.kind → Fits option.kind (given (Some option.name) parts) value →
    OptionFits option parts → OptionFits option (parts ++ part ∷ [])
grown option parts part value one room fit before =
    let same : given (Some option.name) parts ++ value ∷ [] ≡ given (Some option.name) (parts ++ part ∷ []) =
    sym (more (Some option.name) parts part ∙ ap (λ (values : List (List ℕ)). given (Some option.name) parts ++ values) one) in
    let size = length-append (given (Some option.name) parts) (value ∷ []) in
    let few : length (given (Some option.name) parts ++ value ∷ []) ≤ most_times option.kind = omega (arith, size, room) in
    record {
      few = subst (λ (values : List (List ℕ)). length values ≤ most_times option.kind) same few;
      fits = subst (AllFit option.kind []) same (all-snoc option.kind [] (given (Some option.name) parts) value before.fits fit);
    }

word-fine : (form : Form) (before : List Part) (position : ℕ) (word : List ℕ) → Fine form before → part_answer form (operands_of before) position (AWord word) ≡ Ok tt → Fine form (before ++ AWord word ∷ [])
word-fine form before position word fine e =
    let values = operands_of before in
    let known = checked-kind (operand_kind (slice_get form.operands (length values)) position) values position word e in
    let at = operand-known (slice_get form.operands (length values)) position known.0 known.1 in
    record {
      option = λ option named. kept option before (AWord word) refl (fine.option option named);
      operands = subst (OperandsFit form.operands []) (sym (more None before (AWord word))) (operands-snoc form.operands [] values word known.0 fine.operands at known.2);
    }

option-fine : (form : Form) (before : List Part) (position : ℕ) (name value : List ℕ) → Fine form before → part_answer form (given (Some name) before) position (AnOption name (Some value)) ≡ Ok tt → Fine form (before ++ AnOption name (Some value) ∷ [])
option-fine form before position name value fine e =
    let values = given (Some name) before in
    let found = option_named form.options name in
    let known = checked-kind (setting_kind found (length values) position) values (position + 1) value e in
    let setting = setting-known found (length values) position known.0 known.1 in
    record {
      option = λ option named. by option named (bytes_eq name option.name) refl setting known.2;
      operands = subst (OperandsFit form.operands []) (sym (more None before (AnOption name (Some value)) ∙ append-nil (operands_of before))) fine.operands;
    }
  where
    part : Part
    part = AnOption name (Some value)

    under : (option : Setting) → name ≡ option.name → (k : Kind) → option_named form.options option.name ≡ Some option → Known (option_named form.options name) (length (given (Some name) before)) k → Fits k (given (Some name) before) value → (length (given (Some option.name) before) < most_times option.kind) × Fits option.kind (given (Some option.name) before) value
    under option same k named setting fit =
        let alike : Some setting.option ≡ Some option = sym setting.is ∙ ap (option_named form.options) same ∙ named in
        let one : setting.option ≡ option = cc in
        let kinds : k ≡ option.kind = sym setting.same ∙ ap (λ (o : Setting). o.kind) one in
        let few : length (given (Some name) before) < most_times option.kind = subst (λ (j : Kind). length (given (Some name) before) < most_times j) kinds setting.few in
        let fits : Fits option.kind (given (Some name) before) value = subst (λ (j : Kind). Fits j (given (Some name) before) value) kinds fit in
        (subst (λ (n : List ℕ). length (given (Some n) before) < most_times option.kind) same few, subst (λ (n : List ℕ). Fits option.kind (given (Some n) before) value) same fits)

    by : (option : Setting) → option_named form.options option.name ≡ Some option → (b : Bool) → bytes_eq name option.name ≡ b → {k : Kind} → Known (option_named form.options name) (length (given (Some name) before)) k → Fits k (given (Some name) before) value → OptionFits option (before ++ part ∷ [])
    by option named true is {k = k} setting fit =
        let here = under option ((bytes_eq-Decides name option.name).0 is) k named setting fit in
        grown option before part value (ap (λ (b : Bool). if b then value ∷ [] else []) is) here.0 here.1 (fine.option option named)
    by option named false is {k = k} setting fit = kept option before part (ap (λ (b : Bool). if b then value ∷ [] else []) is) (fine.option option named)

bare : (form : Form) (before : List Part) (position : ℕ) (name : List ℕ) → part_answer form (given (Some name) before) position (AnOption name None) ≡ Ok tt → ⊥
bare form before position name e = none (setting_kind (option_named form.options name) (length (given (Some name) before)) position) e where
  none : (r : Result Kind WordFault) → checked_value r (get_or (given (Some name) before) 0 []) (position + 1) None ≡ Ok tt → ⊥
  none (Ok kind) h = absurd cc
  none (Err f) h = absurd cc

part-fine : (form : Form) (before : List Part) (position : ℕ) (part : Part) → Fine form before → part_answer form (given (name_of part) before) position part ≡ Ok tt → Fine form (before ++ part ∷ [])
part-fine form before position (AWord word) fine e = word-fine form before position word fine e
part-fine form before position (AnOption name (Some value)) fine e = option-fine form before position name value fine e
part-fine form before position (AnOption name None) fine e = absurd (bare form before position name e)

-- If two answers together have no error, neither of them has one.
both-fine : (first next : Answer) → and_then first next ≡ Ok tt → (first ≡ Ok tt) × (next ≡ Ok tt)
both-fine (Ok tt) next e = (refl, e)
both-fine (Err f) next e = absurd cc

parts-fine : (form : Form) (before : List Part) (position : ℕ) (parts : List Part) → Fine form before → parts_answer form before position parts ≡ Ok tt → Fine form (before ++ parts)
parts-fine form before position [] fine e = subst (Fine form) (sym (append-nil before)) fine
parts-fine form before position (part ∷ parts) fine e =
    let fines = both-fine (part_answer form (given (name_of part) before) position part) (parts_answer form (before ++ part ∷ []) (position + len_of part) parts) e in
    subst (Fine form) (append_assoc before (part ∷ []) parts) (parts-fine form (before ++ part ∷ []) (position + len_of part) parts (part-fine form before position part fine fines.0) fines.1)

nothing-fine : (form : Form) → Fine form []
nothing-fine form = record { option = λ option named. record { few = omega arith; fits = tt }; operands = tt }

-- all operands

operand-at : (kinds : List Kind) (before values : List (List ℕ)) (place : ℕ) (kind : Kind) → OperandsFit kinds before values → slice_get kinds place ≡ Some kind → length kinds ≤ length values → (place < length values) × Fits kind (before ++ take place values) (get_or values place [])
operand-at [] before values place kind all at enough = absurd cc
operand-at (other ∷ kinds) before [] place kind all at enough = absurd (omega (arith, enough))
operand-at (other ∷ kinds) before (value ∷ values) zero kind all at enough =
    let same : other ≡ kind = cc in
    (omega arith, subst (λ (b : List (List ℕ)). Fits kind b value) (sym (append-nil before)) (subst (λ (k : Kind). Fits k before value) same all.0))
operand-at (other ∷ kinds) before (value ∷ values) (suc place) kind all at enough =
    let rest = operand-at kinds (before ++ value ∷ []) values place kind all.1 at (omega (arith, enough)) in
    (omega (arith, rest.0), subst (λ (b : List (List ℕ)). Fits kind b (get_or values place [])) (append_assoc before (value ∷ []) (take place values)) rest.1)

enough-operands : (form : Form) (parts : List Part) → whole_answer form parts ≡ Ok tt → length form.operands ≤ length (operands_of parts)
enough-operands form parts e = by (nat_le (length form.operands) (length (operands_of parts))) refl e where
  by : (b : Bool) → nat_le (length form.operands) (length (operands_of parts)) ≡ b → ◌≡◌ {A = Answer} (if b then Ok tt else Err fault.Missing) (Ok tt) → length form.operands ≤ length (operands_of parts)
  by true is h = leb-true (length form.operands) (length (operands_of parts)) is
  by false is h = absurd cc

-- Arguments without an error give what their form needs.
pub form-fits : (form : Form) (first : ℕ) (parts : List Part) → form_answer form first parts ≡ Ok tt → FormFits form parts
form-fits form first parts e =
    let fines = both-fine (parts_answer form [] first parts) (whole_answer form parts) e in
    let fine = parts-fine form [] first parts (nothing-fine form) fines.0 in
    record {
      option = fine.option;
      operand = λ place kind at.
          let here = operand-at form.operands [] (operands_of parts) place kind fine.operands at (enough-operands form parts fines.1) in
          record { there = here.0; fits = here.1 };
    }

pub option_fits : (form : Form) (parts : List Part) (option : Setting) → FormFits form parts → option_named form.options option.name ≡ Some option → OptionFits option parts
option_fits form parts option fits named = fits.option option named

pub operand_fits : (form : Form) (parts : List Part) (place : ℕ) (kind : Kind) → FormFits form parts → slice_get form.operands place ≡ Some kind → OperandFits place kind parts
operand_fits form parts place kind fits at = fits.operand place kind at

-- each value of an option fits

fit-at : (kind : Kind) (before values : List (List ℕ)) (i : ℕ) (value : List ℕ) → AllFit kind before values → slice_get values i ≡ Some value → Fits kind (before ++ take i values) value
fit-at kind before [] i value all at = absurd cc
fit-at kind before (first ∷ values) zero value all at =
    let same : first ≡ value = cc in
    subst (λ (b : List (List ℕ)). Fits kind b value) (sym (append-nil before)) (subst (Fits kind before) same all.0)
fit-at kind before (first ∷ values) (suc i) value all at =
    subst (λ (b : List (List ℕ)). Fits kind b value) (append_assoc before (first ∷ []) (take i values)) (fit-at kind (before ++ first ∷ []) values i value all.1 at)

pub text-at : (sort : Kind) (values : List (List ℕ)) (i : ℕ) (value : List ℕ) → (sort ≡ File) ⊎ (sort ≡ kind.Command) → AllFit sort [] values → Some value ≡ slice_get values i → IsTrue (is_text value)
text-at sort values i value (inl file) all at = fit-at File [] values i value (subst (λ (k : Kind). AllFit k [] values) file all) (sym at)
text-at sort values i value (inr command) all at = fit-at kind.Command [] values i value (subst (λ (k : Kind). AllFit k [] values) command all) (sym at)

number-is : (kind : Kind) (value : List ℕ) → IsNumber kind → Fits kind [] value → (digits_value value < 2 ^ 32) × IsIn kind (digits_value value)
number-is File value number fit = absurd number
number-is kind.Command value number fit = absurd number
number-is (Factor most) value number fit = absurd number
number-is (Number least most) value number fit = (omega (arith, number, fit.1), fit)

-- a number that is limited to the greatest number of 64 bits
pub number-told : (n : ℕ) (value : List ℕ) → n ≡ min (digits_value value) (2 ^ 64 - 1) → digits_value value < 2 ^ 32 → n ≡ digits_value value
number-told n value told small = told ∙ min-eq_left (omega (arith, small))

pub number-at : (kind : Kind) (values : List (List ℕ)) (value : List ℕ) → IsNumber kind → AllFit kind [] values → Some value ≡ slice_get values 0 → (digits_value value < 2 ^ 32) × IsIn kind (digits_value value)
number-at kind values value number all at = number-is kind value number (fit-at kind [] values 0 value all (sym at))

-- the ranges of both operands of a ring
pub record RingNumbers (n k : ℕ) : Type 0 where
  pub processes : (2 ≤ n) × (n ≤ 10000)
  pub rounds : (1 ≤ k) × (n * k ≤ 1000000)
  pub small : k ≤ 1000000

pub ring-numbers : (parts : List Part) → FormFits ring.form parts → RingNumbers (digits_value (operand 0 parts)) (digits_value (operand 1 parts))
ring-numbers parts fits =
    let values = operands_of parts in
    let n = digits_value (operand 0 parts) in
    let k = digits_value (operand 1 parts) in
    let first = fits.operand 0 (Number 2 10000) refl in
    let second = fits.operand 1 (Factor 1000000) refl in
    let same : get_or (take 1 values) 0 [] ≡ get_or values 0 [] = one values in
    let product : n * k ≤ 1000000 = subst (λ (w : List ℕ). digits_value w * k ≤ 1000000) same second.fits.1 in
    let grown : k ≤ k * n = le-mul_of_pos_right k (omega (arith, first.fits.0)) in
    let turned : k * n ≡ n * k = mul_comm k n in
    record { processes = first.fits; rounds = (second.fits.0, product); small = omega (arith, grown, turned, product) }
  where
    one : (values : List (List ℕ)) → get_or (take 1 values) 0 [] ≡ get_or values 0 []
    one [] = refl
    one (value ∷ values) = refl
