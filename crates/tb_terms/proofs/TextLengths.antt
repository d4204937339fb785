-- Bounds of the length of a text: by the size of its term, and by the length of the joined texts that it is in.
use Rattle.std.proofs.Common.{◌≡◌, ℕ, ℤ, pos, negsuc, zero, suc, ◌+◌, ◌*◌, ◌^◌, ◌≤◌, ◌<◌, Bool, true, ◌&&◌, List, [], ◌∷◌, ◌++◌, map, sum, length, get_or, take, Option, Some, None, refl, ap, sym, ◌∙◌, arith, length-append, vec_len}
use Rattle.std.specs.Global.{Vec}
use Rattle.std.proofs.lemmas.Bool.{and_parts, ltb-true}
use Rattle.std.proofs.lemmas.Fmt.{length_signed_le}
use Rattle.std.proofs.lemmas.List.Folds.{length-flat_map-take}
use Rattle.std.proofs.lemmas.List.Sums.{sum_by-cons}
use Rattle.std.specs.Fmt.{signed_decimal}
use Rattle.std.specs.List.{list_all, flat_map, AllByRecursion}
use Rattle.tb_terms.specs.Names.{is_name}
use Rattle.tb_terms.specs.Proper.{is_proper, proper_step, has_64_bits}
use Rattle.tb_terms.specs.Sizes.{term_size, size_step}
use Rattle.tb_terms.specs.Texts.{term_text, text_step, joined, escape_letter, with_letter, escaped, quoted, appl_text, list_text}
use Rattle.tb_terms.specs.Helpers.Prefixes.{comma_before}
use Rattle.tb_terms.specs.declared.term.Term.{Term}
use Rattle.tb_terms.specs.declared.term.Term.TheVariants as term
use Rattle.tb_terms.proofs.Induction.{term_induction, fold-Int, fold-Str, fold-Appl, fold-List}
use Rattle.tb_terms.proofs.Joined.{joined-turn}

-- Texts within joined texts.

joined-cons : (t u : Term) (ts : List Term) → length (joined (map term_text (t ∷ u ∷ ts))) ≡ length (term_text t) + (1 + length (joined (map term_text (u ∷ ts))))
joined-cons t u ts =
    let rest = joined (map term_text (u ∷ ts)) in
    let one : length (44 ∷ rest) ≡ 1 + length rest = omega arith in
    length-append (term_text t) (44 ∷ rest) ∙ ap (λ n. length (term_text t) + n) one

joined-front : (k : ℕ) (ts : List Term) → length (joined (map term_text (take k ts))) ≤ length (joined (map term_text ts))
joined-front zero ts = omega arith
joined-front (suc k) [] = omega arith
joined-front (suc zero) (t ∷ []) = omega arith
joined-front (suc (suc k)) (t ∷ []) = omega arith
joined-front (suc zero) (t ∷ u ∷ ts) =
    let whole = joined-cons t u ts in
    omega (arith, whole)
joined-front (suc (suc k)) (t ∷ u ∷ ts) =
    let rest = joined-front (suc k) (u ∷ ts) in
    let whole = joined-cons t u ts in
    let part : length (joined (map term_text (take (suc (suc k)) (t ∷ u ∷ ts)))) ≡ length (term_text t) + (1 + length (joined (map term_text (take (suc k) (u ∷ ts))))) = joined-cons t u (take k ts) in
    omega (arith, rest, whole, part)

-- a text, with the texts before it and its comma, is no longer than all joined texts
pub joined-room : (ts : List Term) (i : ℕ) (d : Term) → i < length ts → length (joined (map term_text (take i ts))) + (length (comma_before i) + length (term_text (get_or ts i d))) ≤ length (joined (map term_text ts))
joined-room ts i d below =
    let front = joined-front (suc i) ts in
    let parts = joined (map term_text (take i ts)) in
    let turn : length (joined (map term_text (take (suc i) ts))) ≡ length (parts ++ (comma_before i ++ term_text (get_or ts i d))) = ap length (joined-turn ts i d below) in
    omega (arith, front, turn, length-append parts (comma_before i ++ term_text (get_or ts i d)), length-append (comma_before i) (term_text (get_or ts i d)))

-- If the capacity is too small for a text or its comma, it is too small for all joined texts.
pub comma-full : (ts : List Term) (i : ℕ) (t : Term) (cap before len now : ℕ) → i < length ts → cap ≤ before → now ≡ len + length (joined (map term_text (take i ts))) → before < now + length (comma_before i) → cap < len + length (joined (map term_text ts))
comma-full ts i t cap before len now below kept at full =
    let room = joined-room ts i t below in
    omega arith

pub text-full : (ts : List Term) (i : ℕ) (t : Term) (cap before between len now next : ℕ) → i < length ts → t ≡ get_or ts i t → cap ≤ before → before ≤ between → now ≡ len + length (joined (map term_text (take i ts))) → next ≡ now + length (comma_before i) → between < next + length (term_text t) → cap < len + length (joined (map term_text ts))
text-full ts i t cap before between len now next below is kept grown at behind full =
    let room = joined-room ts i t below in
    let same : length (term_text t) ≡ length (term_text (get_or ts i t)) = ap (λ u. length (term_text u)) is in
    omega arith

pub escaped-full : (bytes : List ℕ) (i cap before len now : ℕ) → i < length bytes → cap ≤ before → now ≡ len + length (flat_map escaped (take i bytes)) → before < now + length (escaped (get_or bytes i 0)) → cap < len + length (flat_map escaped bytes)
escaped-full bytes i cap before len now below kept at full =
    let room = length-flat_map-take escaped bytes i 0 below in
    omega arith

-- the length of a buffer after more was written at its end
pub len-after : (old new : Vec ℕ) (more : List ℕ) → new.items ≡ old.items ++ more → vec_len new ≡ vec_len old + length more
len-after old new more e = new.ok.0 ∙ ap length e ∙ length-append old.items more ∙ ap (λ n. n + length more) (sym old.ok.0)

-- The length of the text of a term, by the size of the term.

number-short : (z : ℤ) → has_64_bits z ≡ true → length (signed_decimal z) ≤ 20
number-short (pos n) h =
    let below : n < 2 ^ 63 = ltb-true n (2 ^ 63) h in
    length_signed_le 19 (pos n) (omega arith) below
number-short (negsuc n) h =
    let below : n < 2 ^ 63 = ltb-true n (2 ^ 63) h in
    length_signed_le 19 (negsuc n) (omega arith) below

with_letter-short : (byte : ℕ) (letter : Option ℕ) → length (with_letter byte letter) ≤ 2
with_letter-short byte None = omega arith
with_letter-short byte (Some letter) = omega arith

escaped-short : (bytes : List ℕ) → length (flat_map escaped bytes) ≤ 2 * length bytes
escaped-short [] = omega arith
escaped-short (byte ∷ bytes) =
    let one = with_letter-short byte (escape_letter byte) in
    let rest = escaped-short bytes in
    omega (arith, one, rest, length-append (escaped byte) (flat_map escaped bytes))

quoted-short : (bytes : List ℕ) → length (quoted bytes) ≤ 2 + 2 * length bytes
quoted-short bytes = omega (arith, escaped-short bytes, length-append (34 ∷ flat_map escaped bytes) (34 ∷ []))

-- the text of the term has fewer than 21 bytes for each unit of its size
abbrev IsShort : Term → Type 0
IsShort t = is_proper t ≡ true → length (term_text t) < 21 * term_size t

parts-short : (ts : List Term) → AllByRecursion IsShort ts → list_all (λ part. part) (map is_proper ts) ≡ true → length (joined (map term_text ts)) ≤ 21 * sum (map term_size ts)
parts-short [] all h = omega arith
parts-short (t ∷ []) all h =
    let both = and_parts (is_proper t) true h in
    let one = all.0 both.0 in
    let size : sum (map term_size (t ∷ [])) ≡ term_size t + 0 = sum_by-cons (λ n. n) (term_size t) [] in
    omega (arith, one, size)
parts-short (t ∷ u ∷ ts) all h =
    let both = and_parts (is_proper t) (list_all (λ part. part) (map is_proper (u ∷ ts))) h in
    let one = all.0 both.0 in
    let rest = parts-short (u ∷ ts) all.1 both.1 in
    let whole = joined-cons t u ts in
    let size : sum (map term_size (t ∷ u ∷ ts)) ≡ term_size t + sum (map term_size (u ∷ ts)) = sum_by-cons (λ n. n) (term_size t) (map term_size (u ∷ ts)) in
    omega (arith, one, rest, whole, size)

-- the text of a name with arguments has at most two bytes more than the name and the joined arguments
appl-long : (name : List ℕ) (parts : List (List ℕ)) → length (appl_text name parts) ≤ length name + (2 + length (joined parts))
appl-long name [] = omega arith
appl-long name (part ∷ parts) = omega (arith, length-append (name ++ 40 ∷ joined (part ∷ parts)) (41 ∷ []), length-append name (40 ∷ joined (part ∷ parts)))

list-long : (parts : List (List ℕ)) → length (list_text parts) ≤ 2 + length (joined parts)
list-long parts = omega (arith, length-append (91 ∷ joined parts) (93 ∷ []))

int-short : (z : ℤ) → IsShort (term.Int z)
int-short z h =
    let bits : has_64_bits z ≡ true = sym (fold-Int Bool proper_step z) ∙ h in
    let text : length (term_text (term.Int z)) ≡ length (signed_decimal z) = ap length (fold-Int (List ℕ) text_step z) in
    let size : term_size (term.Int z) ≡ 1 = fold-Int ℕ size_step z in
    omega (arith, number-short z bits)

str-short : (bytes : List ℕ) → IsShort (term.Str bytes)
str-short bytes h =
    let text : length (term_text (term.Str bytes)) ≡ length (quoted bytes) = ap length (fold-Str (List ℕ) text_step bytes) in
    let size : term_size (term.Str bytes) ≡ 1 + length bytes = fold-Str ℕ size_step bytes in
    omega (arith, quoted-short bytes)

appl-bound : (name : List ℕ) (ts : List Term) → AllByRecursion IsShort ts → is_proper (term.Appl name ts) ≡ true → length (term_text (term.Appl name ts)) ≤ length name + (2 + 21 * sum (map term_size ts))
appl-bound name ts all h =
    let whole : (is_name name && list_all (λ part. part) (map is_proper ts)) ≡ true = sym (fold-Appl Bool proper_step name ts) ∙ h in
    let both = and_parts (is_name name) (list_all (λ part. part) (map is_proper ts)) whole in
    let text : length (term_text (term.Appl name ts)) ≡ length (appl_text name (map term_text ts)) = ap length (fold-Appl (List ℕ) text_step name ts) in
    omega (arith, appl-long name (map term_text ts), parts-short ts all both.1)

appl-short : (name : List ℕ) (ts : List Term) → AllByRecursion IsShort ts → IsShort (term.Appl name ts)
appl-short name ts all h =
    let size : term_size (term.Appl name ts) ≡ 1 + length name + sum (map term_size ts) = fold-Appl ℕ size_step name ts in
    omega (arith, appl-bound name ts all h)

list-short : (ts : List Term) → AllByRecursion IsShort ts → IsShort (term.List ts)
list-short ts all h =
    let proper : list_all (λ part. part) (map is_proper ts) ≡ true = sym (fold-List Bool proper_step ts) ∙ h in
    let text : length (term_text (term.List ts)) ≡ length (list_text (map term_text ts)) = ap length (fold-List (List ℕ) text_step ts) in
    let size : term_size (term.List ts) ≡ 1 + sum (map term_size ts) = fold-List ℕ size_step ts in
    omega (arith, list-long (map term_text ts), parts-short ts all proper)

pub text-short : (t : Term) → is_proper t ≡ true → length (term_text t) < 21 * term_size t
text-short = term_induction IsShort int-short str-short appl-short list-short

each-short : (ts : List Term) → AllByRecursion IsShort ts
each-short [] = tt
each-short (t ∷ ts) = (text-short t, each-short ts)

-- the name isn't counted as a part
pub appl-text-short : (name : List ℕ) (ts : List Term) → is_proper (term.Appl name ts) ≡ true → length (term_text (term.Appl name ts)) ≤ length name + (2 + 21 * sum (map term_size ts))
appl-text-short name ts h = appl-bound name ts (each-short ts) h

each-proper : (ts : List Term) → list_all is_proper ts ≡ true → list_all (λ part. part) (map is_proper ts) ≡ true
each-proper [] h = refl
each-proper (t ∷ ts) h =
    let both = and_parts (is_proper t) (list_all is_proper ts) h in
    let rest = each-proper ts both.1 in
    let one : is_proper t ≡ true = both.0 in
    cc

pub texts-short : (ts : List Term) → list_all is_proper ts ≡ true → length (joined (map term_text ts)) ≤ 21 * sum (map term_size ts)
texts-short ts h = parts-short ts (each-short ts) (each-proper ts h)
