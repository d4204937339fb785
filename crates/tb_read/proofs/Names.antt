-- The name at the beginning of bytes.
use Rattle.std.proofs.Common.{◌≡◌, ℕ, ◌+◌, Bool, true, false, List, [], ◌∷◌, take, refl, cond}
use Rattle.std.proofs.Math.Numerals.{one-add}
use Rattle.std.proofs.lemmas.Bool.{false≢true}
use Rattle.std.specs.List.{prefix_len, list_all}
use Rattle.tb_terms.specs.Names.{is_name, is_name_byte}
use Rattle.tb_read.specs.Helpers.Answers.{begins_with}
use Rattle.tb_read.specs.declared.kind.Kind.TheVariants.{Name}

-- each byte of the longest passing prefix passes
pub all_of_prefix : (p : ℕ → Bool) (bs : List ℕ) → list_all p (take (prefix_len p bs) bs) ≡ true
all_of_prefix p [] = refl
all_of_prefix p (b ∷ bs) = by (p b) refl (all_of_prefix p bs) where
  by : (v : Bool) → p b ≡ v → list_all p (take (prefix_len p bs) bs) ≡ true → list_all p (take (cond v (1 + prefix_len p bs) 0) (b ∷ bs)) ≡ true
  by true e rest = rw (one-add, e) rest
  by false e rest = refl

pub is_name_prefix : (bs : List ℕ) → begins_with Name bs ≡ true → is_name (take (prefix_len is_name_byte bs) bs) ≡ true
is_name_prefix [] h = absurd (false≢true h)
is_name_prefix (b ∷ bs) h =
    let also : is_name_byte b ≡ true = rw h refl in
    rw (also, one-add, h) (all_of_prefix is_name_byte bs)
