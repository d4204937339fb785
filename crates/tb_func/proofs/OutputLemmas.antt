-- The beginning, the steps, and the end of a printer.
use Rattle.std.proofs.Common.{◌≡◌, ℕ, zero, suc, ◌+◌, ◌<◌, ◌==◌, Bool, cond, true, false, List, [], ◌∷◌, ◌++◌, length, get_or, drop, Option, Some, None, option_map, refl, sym, ap, ◌∙◌, arith, drop-cons, append_assoc, add-one}
use Rattle.tb_terms.specs.declared.term.Term.{Term}
use Rattle.tb_func.specs.declared.printer.Printer.{Printer}
use Rattle.tb_func.specs.Helpers.Outputs.{in_all}
use Rattle.tb_func.specs.Printing.{printed, shown, prefixed}

pub behind_nothing : (o : Option (List ℕ)) → option_map (λ rest. [] ++ rest) o ≡ o
behind_nothing None = refl
behind_nothing (Some bytes) = refl

pub printed-early : (b : Bool) (n : ℕ) (ts : List Term) → n < length ts → printed b [] (drop n ts) ≡ None
printed-early true n ts h = refl
printed-early false n [] h = absurd (omega arith)
printed-early false zero (t ∷ ts) h = refl
printed-early false (suc n) (t ∷ ts) h = printed-early false n ts (omega arith)

pub in_all-stops : (p : Printer) (format : List ℕ) (ts : List Term) (i b : ℕ) (all : Option (List ℕ)) → in_all p (drop i format) ts ≡ all → i < length format → b ≡ get_or format i 0 → ((rest : List ℕ) → in_all p (b ∷ rest) ts ≡ None) → None ≡ all
in_all-stops p format ts i b all h below e stop =
    let split : drop i format ≡ b ∷ drop (suc i) format = rw e (drop-cons format i 0 below) in
    sym (stop (drop (suc i) format)) ∙ ap (λ f. in_all p f ts) (sym split) ∙ h

abbrev output : List ℕ → Bool → List ℕ → List Term → Option (List ℕ)
output text b format ts = option_map (λ rest. text ++ rest) (printed b format ts)

put_prefixed : (text bytes : List ℕ) (o : Option (List ℕ)) → ◌≡◌ {A = Option (List ℕ)} (option_map (λ rest. text ++ rest) (prefixed (Some bytes) o)) (option_map (λ rest. (text ++ bytes) ++ rest) o)
put_prefixed text bytes None = refl
put_prefixed text bytes (Some rest) = ap Some (sym (append_assoc text bytes rest))

percent : (text : List ℕ) (rest : List ℕ) (ts : List Term) → output text true (37 ∷ rest) ts ≡ output (text ++ 37 ∷ []) false rest ts
percent text rest [] = put_prefixed text (37 ∷ []) (printed false rest [])
percent text rest (t ∷ ts) = put_prefixed text (37 ∷ []) (printed false rest (t ∷ ts))

-- `%%`
pub output-percent : (text new : List ℕ) (n c : ℕ) (rest : List ℕ) (ts : List Term) → c ≡ 37 → new ≡ text ++ 37 ∷ [] → output text true (c ∷ rest) (drop n ts) ≡ output new false rest (drop n ts)
output-percent text new n c rest ts e k = rw (e, k) (percent text rest (drop n ts))

show_prefixed : (text new : List ℕ) (o rest : Option (List ℕ)) (s : Bool) → option_map (λ bytes. text ++ bytes) o ≡ cond s (Some new) None → ◌≡◌ {A = Option (List ℕ)} (option_map (λ rest. text ++ rest) (prefixed o rest)) (cond s (option_map (λ rest. new ++ rest) rest) None)
show_prefixed text new None rest true h = cc
show_prefixed text new None rest false h = refl
show_prefixed text new (Some bytes) rest true h =
    let is : new ≡ text ++ bytes = cc in
    rw is (put_prefixed text bytes rest)
show_prefixed text new (Some bytes) rest false h = cc

-- the next argument is shown as the letter requires
pub output-shown : (text new : List ℕ) (n c : ℕ) (rest : List ℕ) (ts : List Term) (t : Term) (s : Bool) → (c == 37) ≡ false → n < length ts → t ≡ get_or ts n t → option_map (λ bytes. text ++ bytes) (shown c t) ≡ cond s (Some new) None → output text true (c ∷ rest) (drop n ts) ≡ cond s (output new false rest (drop (n + 1) ts)) None
output-shown text new n c rest ts t s e below is h =
    rw (add-one, drop-cons ts n t below, sym is, e) (show_prefixed text new (shown c t) (printed false rest (drop (suc n) ts)) s h)
