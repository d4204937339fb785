-- The fault of a format is at the first place where a text is missing.
use Rattle.std.proofs.Common.{◌≡◌, ℕ, ◌+◌, ◌==◌, ◌||◌, Bool, true, false, List, [], ◌∷◌, ◌++◌, length, Option, Some, None, is_some, option_map, if◌then◌else◌, refl, ap, sym, ◌∙◌, subst, arith, append_assoc, length-append}
use Rattle.std.specs.Fmt.{signed_decimal}
use Rattle.std.proofs.lemmas.Bool.{eqb-true}
use Rattle.tb_terms.specs.declared.term.Term.{Term}
use Rattle.tb_terms.specs.Texts.{term_text}
use Rattle.tb_func.specs.Arguments.{int_of}
use Rattle.tb_func.specs.Printing.{prefixed, printed, shown, str_of}
use Rattle.tb_why.specs.Failing.{Faults, FaultsBy, FaultsFrom, StopsAt}
use Rattle.tb_why.specs.Formats.{fault_from, fault_in, fault_with, fault_without, format_fault, is_directive}
use Rattle.tb_why.specs.declared.reason.FormatFault.{FormatFault}
use Rattle.tb_why.specs.declared.reason.FormatFault.TheVariants.{NoFormat, NoDirective, TooFew, Differs, Ends, TooMany, TooLong}

-- more is printed in front
module _ (first next : ℕ) (front : List ℕ) (taken : List Term) (same : next ≡ first + length taken)
    (prints : (before : List ℕ) (used : List Term) → is_some (printed false before used) ≡ true → is_some (printed false (front ++ before) (taken ++ used)) ≡ true) where
  moved : (format : List ℕ) (arguments used left : List Term) (rest : List ℕ) → StopsAt format arguments used left rest → StopsAt (front ++ format) (taken ++ arguments) (taken ++ used) left rest
  moved format arguments used left rest stops = record {
    before = front ++ stops.before;
    parts = ap (λ (l : List ℕ). front ++ l) stops.parts ∙ sym (append_assoc front stops.before rest);
    shared = ap (λ (l : List Term). taken ++ l) stops.shared ∙ sym (append_assoc taken used left);
    prints = prints stops.before used stops.prints;
  }

  counted : (used : List Term) (number : ℕ) → number ≡ next + length used → number ≡ first + length (taken ++ used)
  counted used number e = let long = length-append taken used in omega arith

  further : (format : List ℕ) (arguments : List Term) (fault : FormatFault) → FaultsFrom next format arguments fault → FaultsFrom first (front ++ format) (taken ++ arguments) fault
  further format arguments NoFormat h = absurd h
  further format arguments (NoDirective letter) h = (taken ++ h.0, h.1, h.2, moved format arguments h.0 h.1 (37 ∷ letter ∷ h.2) h.3, h.4, h.5)
  further format arguments (TooFew letter) h = (taken ++ h.0, h.1, moved format arguments h.0 [] (37 ∷ letter ∷ h.1) h.2, h.3, h.4)
  further format arguments (Differs letter number) h = (taken ++ h.0, h.1, h.2, h.3, moved format arguments h.0 (h.1 ∷ h.2) (37 ∷ letter ∷ h.3) h.4, counted h.0 number h.5, h.6, h.7, h.8)
  further format arguments Ends h = (taken ++ h.0, h.1, moved format arguments h.0 h.1 (37 ∷ []) h.2)
  further format arguments (TooMany number) h = (taken ++ h.0, h.1, h.2, moved format arguments h.0 (h.1 ∷ h.2) [] h.3, counted h.0 number h.4)
  further format arguments TooLong h = prints format arguments h

-- what is printed in front of a place
both-some : (a b : Option (List ℕ)) → is_some a ≡ true → is_some b ≡ true → is_some (prefixed a b) ≡ true
both-some None b p q = p
both-some (Some x) None p q = q
both-some (Some x) (Some y) p q = refl

plain-prints : (c : ℕ) → (c == 37) ≡ false → (before : List ℕ) (used : List Term) → is_some (printed false before used) ≡ true → is_some (printed false (c ∷ before) used) ≡ true
plain-prints c e before used h =
    subst (λ (b : Bool). is_some (if b then printed true before used else prefixed (Some (c ∷ [])) (printed false before used)) ≡ true) (sym e) (both-some (Some (c ∷ [])) (printed false before used) refl h)

percent-prints : (c : ℕ) → (c == 37) ≡ true → (before : List ℕ) (used : List Term) → is_some (printed false before used) ≡ true → is_some (printed false (37 ∷ c ∷ before) used) ≡ true
percent-prints c e before [] h =
    subst (λ (b : Bool). is_some (if b then prefixed (Some (37 ∷ [])) (printed false before []) else None) ≡ true) (sym e) (both-some (Some (37 ∷ [])) (printed false before []) refl h)
percent-prints c e before (t ∷ ts) h =
    subst (λ (b : Bool). is_some (if b then prefixed (Some (37 ∷ [])) (printed false before (t ∷ ts)) else prefixed (shown c t) (printed false before ts)) ≡ true) (sym e)
    (both-some (Some (37 ∷ [])) (printed false before (t ∷ ts)) refl h)

letter-prints : (c : ℕ) (t : Term) → (c == 37) ≡ false → is_some (shown c t) ≡ true → (before : List ℕ) (used : List Term) → is_some (printed false before used) ≡ true → is_some (printed false (37 ∷ c ∷ before) (t ∷ used)) ≡ true
letter-prints c t e s before used h =
    subst (λ (b : Bool). is_some (if b then prefixed (Some (37 ∷ [])) (printed false before (t ∷ used)) else prefixed (shown c t) (printed false before used)) ≡ true) (sym e)
    (both-some (shown c t) (printed false before used) s h)

-- a letter that is none of the three prints nothing
none-by : (d s t : Bool) (x y z : Option (List ℕ)) → (d || s || t) ≡ false → (if d then x else (if s then y else (if t then z else None))) ≡ None
none-by true s t x y z e = absurd (let f : true ≡ false = e in cc)
none-by false true t x y z e = absurd (let f : true ≡ false = e in cc)
none-by false false true x y z e = absurd (let f : true ≡ false = e in cc)
none-by false false false x y z e = refl

none-shown : (c : ℕ) → is_directive c ≡ false → (t : Term) → shown c t ≡ None
none-shown c e t = none-by (c == 100) (c == 115) (c == 116) (option_map signed_decimal (int_of t)) (str_of t) (Some (term_text t)) e

is-none : {A : Type 0} (o : Option A) → is_some o ≡ false → o ≡ None
is-none None e = refl
is-none (Some x) e = absurd (let f : true ≡ false = e in cc)

-- nothing is printed yet
opens : (format : List ℕ) (arguments : List Term) → StopsAt format arguments [] arguments format
opens format arguments = record { before = []; parts = refl; shared = refl; prints = refl }

without : (c first : ℕ) (cs : List ℕ) (b : Bool) → is_directive c ≡ b → (c == 37) ≡ false → FaultsFrom first (37 ∷ c ∷ cs) [] (if b then TooFew c else NoDirective c)
without c first cs true d e = ([], cs, opens (37 ∷ c ∷ cs) [], e, d)
without c first cs false d e = ([], [], cs, opens (37 ∷ c ∷ cs) [], e, none-shown c d)

matched : (c first : ℕ) (cs : List ℕ) (t : Term) (ts : List Term) (b : Bool) → is_directive c ≡ b → (c == 37) ≡ false → is_some (shown c t) ≡ false → FaultsFrom first (37 ∷ c ∷ cs) (t ∷ ts) (if b then Differs c first else NoDirective c)
matched c first cs t ts true d e s = ([], t, ts, cs, opens (37 ∷ c ∷ cs) (t ∷ ts), omega arith, e, d, is-none (shown c t) s)
matched c first cs t ts false d e s = ([], t ∷ ts, cs, opens (37 ∷ c ∷ cs) (t ∷ ts), e, none-shown c d)

plain : (c first : ℕ) (cs : List ℕ) (ts : List Term) (b : Bool) → (c == 37) ≡ b → FaultsFrom first (37 ∷ cs) ts (fault_from true first cs ts) → FaultsFrom first cs ts (fault_from false first cs ts) →
    FaultsFrom first (c ∷ cs) ts (if b then fault_from true first cs ts else fault_from false first cs ts)
plain c first cs ts true e begun past = subst (λ (n : ℕ). FaultsFrom first (n ∷ cs) ts (fault_from true first cs ts)) (sym (eqb-true c 37 e)) begun
plain c first cs ts false e begun past = further first first (c ∷ []) [] (omega arith) (plain-prints c e) cs ts (fault_from false first cs ts) past

bare : (c first : ℕ) (cs : List ℕ) (b : Bool) → (c == 37) ≡ b → FaultsFrom first cs [] (fault_from false first cs []) → FaultsFrom first (37 ∷ c ∷ cs) [] (if b then fault_from false first cs [] else fault_without c)
bare c first cs true e h = further first first (37 ∷ c ∷ []) [] (omega arith) (percent-prints c e) cs [] (fault_from false first cs []) h
bare c first cs false e h = without c first cs (is_directive c) refl e

given : (c first : ℕ) (cs : List ℕ) (t : Term) (ts : List Term) (b s : Bool) → (c == 37) ≡ b → is_some (shown c t) ≡ s →
    FaultsFrom first cs (t ∷ ts) (fault_from false first cs (t ∷ ts)) → FaultsFrom (first + 1) cs ts (fault_from false (first + 1) cs ts) →
    FaultsFrom first (37 ∷ c ∷ cs) (t ∷ ts) (if b then fault_from false first cs (t ∷ ts) else (if s then fault_from false (first + 1) cs ts else fault_with c first))
given c first cs t ts true s e f here more = further first first (37 ∷ c ∷ []) [] (omega arith) (percent-prints c e) cs (t ∷ ts) (fault_from false first cs (t ∷ ts)) here
given c first cs t ts false true e f here more = further first (first + 1) (37 ∷ c ∷ []) (t ∷ []) (omega arith) (letter-prints c t e f) cs ts (fault_from false (first + 1) cs ts) more
given c first cs t ts false false e f here more = matched c first cs t ts (is_directive c) refl e f

-- the format with the `%` before it
abbrev whole : Bool → List ℕ → List ℕ
whole false format = format
whole true format = 37 ∷ format

from-so : (begun : Bool) (first : ℕ) (format : List ℕ) (arguments : List Term) → FaultsFrom first (whole begun format) arguments (fault_from begun first format arguments)
from-so false first [] [] = refl
from-so false first [] (t ∷ ts) = ([], t, ts, opens [] (t ∷ ts), omega arith)
from-so false first (c ∷ cs) ts = plain c first cs ts (c == 37) refl (from-so true first cs ts) (from-so false first cs ts)
from-so true first [] ts = ([], ts, opens (37 ∷ []) ts)
from-so true first (c ∷ cs) [] = bare c first cs (c == 37) refl (from-so false first cs [])
from-so true first (c ∷ cs) (t ∷ ts) = given c first cs t ts (c == 37) (is_some (shown c t)) refl refl (from-so false first cs (t ∷ ts)) (from-so false (first + 1) cs ts)

by-so : (format : Option (List ℕ)) (arguments : List Term) → FaultsBy format arguments (fault_in format arguments)
by-so None arguments = refl
by-so (Some format) arguments = from-so false 1 format arguments

-- The fault of the arguments of `printf`.
pub faults-so : (terms : List Term) → Faults terms (format_fault terms)
faults-so [] = refl
faults-so (first ∷ arguments) = by-so (str_of first) arguments
