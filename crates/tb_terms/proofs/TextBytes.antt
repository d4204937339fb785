-- Which bytes make a text.
use Rattle.std.proofs.Common.{◌≡◌, ℕ, Bool, ◌&&◌, true, false, List, Option, Some, None, cond, refl}
use Rattle.std.specs.Str.{IsUtf8, is_utf8}
use Rattle.std.proofs.lemmas.Str.{IsUtf8-from_is_utf8, is_utf8-from_IsUtf8}
use Rattle.tb_terms.specs.Names.{is_string, is_text}

pub made_of_string : (text bs : List ℕ) → text ≡ bs → IsUtf8 text → is_text bs ≡ true → Some text ≡ cond (is_string bs) (Some bs) None
made_of_string text bs e u t =
    let is : is_utf8 bs ≡ true = rw e at (is_utf8-from_IsUtf8 text u) in
    rw (e, is, t) refl

none_by : (b t : Bool) (bs : List ℕ) → (b ≡ true → ⊥) → ◌≡◌ {A = Option (List ℕ)} None (cond (b && t) (Some bs) None)
none_by true t bs h = absurd (h refl)
none_by false t bs h = refl

pub none_of_other : (bs : List ℕ) → (IsUtf8 bs → ⊥) → ◌≡◌ {A = Option (List ℕ)} None (cond (is_string bs) (Some bs) None)
none_of_other bs h = none_by (is_utf8 bs) (is_text bs) bs (λ e. h (IsUtf8-from_is_utf8 bs e))
