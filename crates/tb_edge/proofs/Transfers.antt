-- What a reader has given, and what a writer has been handed, part by part.
use Rattle.std.proofs.Common.{◌≡◌, ℕ, ◌+◌, ◌-◌, ◌≤◌, Option, List, [], ◌++◌, length, take, drop, refl, sym, ap, subst, ◌∙◌, append_assoc, append-nil, take-append-drop, arith, length-append}
use Rattle.std.proofs.KnownBytes.{Appends-nil, Appends-trans, Consumes-nil, Consumes-trans}
use Rattle.std.proofs.lemmas.List.{take_rest}
use Rattle.std.specs.Io.KnownBytes.{Appends, Consumes}

-- all but the rest was appended
pub record IsWritten (old new : Option (List ℕ)) (all rest : List ℕ) : Type 0 where
  pub done : List ℕ
  pub is_all : done ++ rest ≡ all
  pub appends : Appends old new done

pub IsWritten-none : (told : Option (List ℕ)) (all : List ℕ) → IsWritten told told all all
IsWritten-none told all = record { done = []; is_all = refl; appends = Appends-nil told }

-- a front of the rest was appended
pub IsWritten-more : (a b c : Option (List ℕ)) (all rest : List ℕ) (n : ℕ) → IsWritten a b all rest → Appends b c (take n rest) → IsWritten a c all (take (length rest - n) (drop n rest))
IsWritten-more a b c all rest n written more = record {
  done = written.done ++ take n rest;
  is_all = ap (λ l. (written.done ++ take n rest) ++ l) (take_rest rest n) ∙ append_assoc written.done (take n rest) (drop n rest)
      ∙ ap (λ l. written.done ++ l) (take-append-drop n rest) ∙ written.is_all;
  appends = Appends-trans a b c written.done (take n rest) written.appends more;
}

pub IsWritten-all : (a b : Option (List ℕ)) (all : List ℕ) → IsWritten a b all [] → Appends a b all
IsWritten-all a b all written = subst (Appends a b) (sym (append-nil written.done) ∙ written.is_all) written.appends

-- what was read is counted, and kept where it is within the limit
pub record IsRead (old new : Option (List ℕ)) (kept : List ℕ) (len most : ℕ) : Type 0 where
  pub bytes : List ℕ
  pub given : Consumes old new bytes
  pub counted : len ≡ length bytes
  pub all_kept : len ≤ most → kept ≡ bytes

pub IsRead-none : (told : Option (List ℕ)) (most : ℕ) → IsRead told told [] 0 most
IsRead-none told most = record { bytes = []; given = Consumes-nil told; counted = refl; all_kept = λ _. refl }

pub IsRead-more : (a b c : Option (List ℕ)) (kept new_kept piece : List ℕ) (len new_len most : ℕ) → IsRead a b kept len most → Consumes b c piece
    → new_len ≡ len + length piece → (new_len ≤ most → new_kept ≡ kept ++ piece) → IsRead a c new_kept new_len most
IsRead-more a b c kept new_kept piece len new_len most read gives counted keeps =
    record {
      bytes = read.bytes ++ piece;
      given = Consumes-trans a b c read.bytes piece read.given gives;
      counted = omega (arith, length-append read.bytes piece, read.counted);
      all_kept = λ within. keeps within ∙ ap (λ l. l ++ piece) (read.all_kept (omega arith));
    }
