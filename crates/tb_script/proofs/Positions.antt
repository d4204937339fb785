-- The position of a name among definitions, in both forms.
use Rattle.std.proofs.Common.{◌≡◌, ℕ, suc, ◌+◌, Bool, true, false, List, [], ◌∷◌, length, Option, Some, None, option_map, refl, sym, ap, ◌∙◌, arith}
use Rattle.std.specs.Prelude.{if◌then◌else◌, map}
use Rattle.std.proofs.lemmas.List.{length-map}
use Rattle.tb_syntax.specs.declared.script.Script.{Script}
use Rattle.std.specs.Str.{bytes_eq}
use Rattle.tb_types.specs.NamePositions.{position_of as position_if, process_name}
use Rattle.tb_expand.specs.Acts.{position_of, process_of}

abbrev pub or_number : ℕ → Option ℕ → ℕ
or_number count None = count
or_number count (Some position) = position

one_further : (count : ℕ) (found : Option ℕ) → or_number count found + 1 ≡ or_number (suc count) (option_map (λ position. position + 1) found)
one_further count None = omega arith
one_further count (Some position) = refl

behind : (same : Bool) (count : ℕ) (found : Option ℕ) (position : ℕ) → position ≡ or_number count found
    → ◌≡◌ {A = ℕ} (if same then 0 else position + 1) (or_number (suc count) (if same then Some 0 else option_map (λ position. position + 1) found))
behind true count found position e = refl
behind false count found position e = ap (λ (n : ℕ). n + 1) e ∙ one_further count found

-- the position of the name, or the number of names if it isn't among them
pub position_is : (names : List (List ℕ)) (name : List ℕ) → position_of name names ≡ or_number (length names) (position_if names name)
position_is [] name = refl
position_is (first ∷ others) name = behind (bytes_eq first name) (length others) (position_if others name) (position_of name others) (position_is others name)

pub found_position : (script : Script) (name : List ℕ) (position : ℕ) → position_if (map process_name script.procs) name ≡ Some position → position ≡ process_of script name
found_position script name position found =
    let names = map process_name script.procs in
    sym (position_is names name ∙ ap (or_number (length names)) found)

pub no_position : (script : Script) (name : List ℕ) → position_if (map process_name script.procs) name ≡ None → length script.procs ≡ process_of script name
no_position script name none =
    let names = map process_name script.procs in
    sym (position_is names name ∙ ap (or_number (length names)) none ∙ length-map script.procs process_name)
