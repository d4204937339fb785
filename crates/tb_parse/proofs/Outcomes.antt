-- Each sequence of tokens is a script within the limits or has an error, and has only one of these.
use Rattle.std.proofs.Common.{◌≡◌, ◌≢◌, ℕ, zero, suc, ◌+◌, ◌-◌, ◌≤◌, ◌<◌, ◌⊎◌, List, [], ◌++◌, length, take, drop, Option, Some, None, refl, ap, sym, ◌∙◌, subst, inl, inr, arith, append_assoc}
use Rattle.std.proofs.lemmas.Bool.{cases_lt}
use Rattle.std.proofs.lemmas.List.{length-take-le, take-append-drop}
use Rattle.std.proofs.Math.Seq.{take-append-add}
use Rattle.tb_lex.specs.declared.kind.TokenKind.{TokenKind}
use Rattle.tb_syntax.specs.declared.script.Script.{Script}
use Rattle.tb_syntax.specs.Limits.{open_brackets, IsTooDeep, first_too_high}
use Rattle.tb_syntax.specs.Spelling.{Spells}
use Rattle.tb_parse.specs.declared.fault.ParseFault.{ParseFault}
use Rattle.tb_parse.specs.declared.fault.ParseFault.TheVariants as fault
use Rattle.tb_parse.specs.Faults.{NoneTooDeep, IsScriptOf, IsUnspelt, Begins, IsSyntaxFault, IsTooHigh, HasFault}
use Rattle.tb_parse.specs.Helpers.Parsing.{Outcome, Found, Stops, script}
use Rattle.tb_parse.proofs.ReadScripts.{complete, unique}
use Rattle.tb_parse.proofs.SoundScripts.{sound, begun}
use Rattle.tb_parse.proofs.AlikeScripts.{wrong}

-- Errors and scripts exclude each other.

deep_apart : (kinds : List TokenKind) (p : ℕ) → IsTooDeep kinds p → NoneTooDeep kinds → ⊥
deep_apart kinds p d shallow = let low = shallow p d.is_position in let over = d.is_over in absurd (omega arith)

deep_unique : (kinds : List TokenKind) (p q : ℕ) → IsTooDeep kinds p → IsTooDeep kinds q → p ≡ q
deep_unique kinds p q d e = by (cases_lt p q) where
  by : (p < q) ⊎ (q ≤ p) → p ≡ q
  by (inl h) = let low = e.none_before p h in let over = d.is_over in absurd (omega arith)
  by (inr h) = behind (cases_lt q p) where
    behind : (q < p) ⊎ (p ≤ q) → p ≡ q
    behind (inl i) = let low = d.none_before q i in let over = e.is_over in absurd (omega arith)
    behind (inr i) = omega arith

high_unique : (kinds : List TokenKind) (p q : ℕ) → IsTooHigh kinds p → IsTooHigh kinds q → p ≡ q
high_unique kinds p q h i = some_same (sym h.first ∙ ap (λ (s : Script). first_too_high s.procs) (unique kinds h.script i.script h.spells i.spells) ∙ i.first) where
  some_same : ◌≡◌ {A = Option ℕ} (Some p) (Some q) → p ≡ q
  some_same e = cc

too_deep_unique : (kinds : List TokenKind) (p q : ℕ) → HasFault kinds (fault.TooDeep p) → HasFault kinds (fault.TooDeep q) → p ≡ q
too_deep_unique kinds p q (inl d) (inl e) = deep_unique kinds p q d e
too_deep_unique kinds p q (inl d) (inr i) = absurd (deep_apart kinds p d i.shallow)
too_deep_unique kinds p q (inr h) (inl e) = absurd (deep_apart kinds q e h.shallow)
too_deep_unique kinds p q (inr h) (inr i) = high_unique kinds p q h i

faults_apart : (kinds : List TokenKind) (p q : ℕ) → HasFault kinds (fault.TooDeep p) → HasFault kinds (fault.Syntax q) → ⊥
faults_apart kinds p q (inl d) u = deep_apart kinds p d u.shallow
faults_apart kinds p q (inr h) u = u.unspelt h.script h.spells

take_more : (kinds : List TokenKind) (n q : ℕ) → n ≤ q → n ≤ length kinds → take q kinds ≡ take n kinds ++ take (q - n) (drop n kinds)
take_more kinds n q h i =
    let long : length (take n kinds) ≡ n = length-take-le n kinds i in
    let count : q ≡ length (take n kinds) + (q - n) = omega arith in
    ap (take q) (sym (take-append-drop n kinds)) ∙ ap (λ m. take m (take n kinds ++ drop n kinds)) count ∙ take-append-add (take n kinds) (drop n kinds) (q - n)

-- if tokens begin a spelling, each prefix of them does too
fewer_begin : (kinds : List TokenKind) (n q : ℕ) → n ≤ q → n ≤ length kinds → Begins (take q kinds) → Begins (take n kinds)
fewer_begin kinds n q h i b =
    let more : List TokenKind = take (q - n) (drop n kinds) in
    let whole : take q kinds ++ b.0 ≡ take n kinds ++ (more ++ b.0) = ap (λ ks. ks ++ b.0) (take_more kinds n q h i) ∙ append_assoc (take n kinds) more b.0 in
    (more ++ b.0, b.1, subst (Spells b.1) whole b.2)

not_before : (kinds : List TokenKind) (p q : ℕ) → IsSyntaxFault kinds p → IsSyntaxFault kinds q → p < q → ⊥
not_before kinds p q f g h = let within = g.is_position in f.stops (omega arith) (fewer_begin kinds (p + 1) q (omega arith) (omega arith) g.begun)

syntax_unique : (kinds : List TokenKind) (p q : ℕ) → IsSyntaxFault kinds p → IsSyntaxFault kinds q → p ≡ q
syntax_unique kinds p q f g = by (cases_lt p q) (cases_lt q p) where
  by : (p < q) ⊎ (q ≤ p) → (q < p) ⊎ (p ≤ q) → p ≡ q
  by (inl h) c = absurd (not_before kinds p q f g h)
  by (inr h) (inl i) = absurd (not_before kinds q p g f i)
  by (inr h) (inr i) = omega arith

pub fault_one : (kinds : List TokenKind) (f g : ParseFault) → HasFault kinds f → HasFault kinds g → f ≢ fault.NoMemory → g ≢ fault.NoMemory → f ≡ g
fault_one kinds fault.NoMemory g h i told other = absurd (told refl)
fault_one kinds (fault.Syntax p) fault.NoMemory h i told other = absurd (other refl)
fault_one kinds (fault.TooDeep p) fault.NoMemory h i told other = absurd (other refl)
fault_one kinds (fault.Syntax p) (fault.Syntax q) h i told other = ap (λ n. fault.Syntax n) (syntax_unique kinds p q h i)
fault_one kinds (fault.Syntax p) (fault.TooDeep q) h i told other = absurd (faults_apart kinds q p i h)
fault_one kinds (fault.TooDeep p) (fault.Syntax q) h i told other = absurd (faults_apart kinds p q h i)
fault_one kinds (fault.TooDeep p) (fault.TooDeep q) h i told other = ap (λ n. fault.TooDeep n) (too_deep_unique kinds p q h i)

low_high : (kinds : List TokenKind) (s : Script) (p : ℕ) → IsScriptOf kinds s → IsTooHigh kinds p → ⊥
low_high kinds s p i h = none_some (sym i.low ∙ ap (λ (s : Script). first_too_high s.procs) (unique kinds s h.script i.spells h.spells) ∙ h.first) where
  none_some : ◌≡◌ {A = Option ℕ} None (Some p) → ⊥
  none_some e = cc

pub script_has_none : (kinds : List TokenKind) (s : Script) (f : ParseFault) → IsScriptOf kinds s → HasFault kinds f → f ≡ fault.NoMemory
script_has_none kinds s (fault.TooDeep p) i (inl d) = absurd (deep_apart kinds p d i.shallow)
script_has_none kinds s (fault.TooDeep p) i (inr h) = absurd (low_high kinds s p i h)
script_has_none kinds s (fault.Syntax p) i u = absurd (u.unspelt s i.spells)
script_has_none kinds s fault.NoMemory i u = refl

-- There is always one.

abbrev Shallow : List TokenKind → ℕ → Type 0
Shallow kinds count = (earlier : ℕ) → earlier < count → open_brackets (take (earlier + 1) kinds) ≤ 128

-- the first of so many tokens behind which too many are open, or none
first_deep : (kinds : List TokenKind) (count : ℕ) → count ≤ length kinds → ((p : ℕ) × IsTooDeep kinds p) ⊎ Shallow kinds count
first_deep kinds zero h = inr (λ earlier i. absurd (omega arith))
first_deep kinds (suc count) h = by (first_deep kinds count (omega arith)) (cases_lt 128 (open_brackets (take (count + 1) kinds))) where
  by : ((p : ℕ) × IsTooDeep kinds p) ⊎ Shallow kinds count → (128 < open_brackets (take (count + 1) kinds)) ⊎ (open_brackets (take (count + 1) kinds) ≤ 128) → ((p : ℕ) × IsTooDeep kinds p) ⊎ Shallow kinds (suc count)
  by (inl d) c = inl d
  by (inr s) (inl over) = inl (count, record { is_position = omega arith; is_over = over; none_before = s })
  by (inr s) (inr low) = inr (λ earlier i. behind earlier i (cases_lt earlier count)) where
    behind : (earlier : ℕ) → earlier < suc count → (earlier < count) ⊎ (count ≤ earlier) → open_brackets (take (earlier + 1) kinds) ≤ 128
    behind earlier i (inl j) = s earlier j
    behind earlier i (inr j) = let same : earlier ≡ count = omega arith in rw same low

none_deep : (kinds : List TokenKind) → ((p : ℕ) × IsTooDeep kinds p) ⊎ NoneTooDeep kinds
none_deep kinds = first_deep kinds (length kinds) (omega arith)

abbrev HasOne : List TokenKind → Type 0
HasOne kinds = ((script : Script) × IsScriptOf kinds script) ⊎ ((f : ParseFault) × HasFault kinds f × (f ≢ fault.NoMemory))

pub deep_is_other : (p : ℕ) → fault.TooDeep p ≢ fault.NoMemory
deep_is_other p e = cc

pub syntax_is_other : (p : ℕ) → fault.Syntax p ≢ fault.NoMemory
syntax_is_other p e = cc

spelt_has_one : (kinds : List TokenKind) → NoneTooDeep kinds → (s : Script) → Spells s kinds → (o : Option ℕ) → first_too_high s.procs ≡ o → HasOne kinds
spelt_has_one kinds shallow s d None e = inl (s, record { shallow = shallow; spells = d; low = e })
spelt_has_one kinds shallow s d (Some p) e = inr (fault.TooDeep p, inr (record { shallow = shallow; script = s; spells = d; first = e }), deep_is_other p)

-- with room for all tokens, tokens that can't be read are no script, and this is the position of their error
pub stopped : (kinds : List TokenKind) (room p : ℕ) → length kinds ≤ room → NoneTooDeep kinds → script room 0 kinds ≡ Stops p → IsSyntaxFault kinds p
stopped kinds room p h shallow e = record { shallow = shallow; unspelt = none; is_position = first.0; begun = first.1; stops = wrong room kinds p h e } where
  first : (p ≤ length kinds) × Begins (take p kinds)
  first = begun room kinds p e

  apart : {s : Script} → Found s (length kinds) [] ≡ Stops p → ⊥
  apart h = cc

  none : IsUnspelt kinds
  none s d = apart (sym (complete s kinds d room h) ∙ e)

read_has_one : (kinds : List TokenKind) → NoneTooDeep kinds → (o : Outcome Script) → script (length kinds) 0 kinds ≡ o → HasOne kinds
read_has_one kinds shallow (Found s at rest) e = spelt_has_one kinds shallow s (sound (length kinds) kinds s at rest e) (first_too_high s.procs) refl
read_has_one kinds shallow (Stops p) e = inr (fault.Syntax p, stopped kinds (length kinds) p (omega arith) shallow e, syntax_is_other p)

pub each_has_one : (kinds : List TokenKind) → HasOne kinds
each_has_one kinds = by (none_deep kinds) where
  by : ((p : ℕ) × IsTooDeep kinds p) ⊎ NoneTooDeep kinds → HasOne kinds
  by (inl d) = inr (fault.TooDeep d.0, inl d.1, deep_is_other d.0)
  by (inr shallow) = read_has_one kinds shallow (script (length kinds) 0 kinds) refl
