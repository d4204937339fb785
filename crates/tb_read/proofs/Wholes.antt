-- The results of the scan, the limits, and the builder, for the whole source.
use Rattle.std.proofs.Common.{◌≡◌, ℕ, ℤ, suc, ◌-◌, ◌≤◌, ◌<◌, Bool, true, false, cond, ltb, List, [], ◌∷◌, length, take, drop, Option, Some, None, Result, Ok, Err, refl, ap, sym, ◌∙◌, subst}
use Rattle.std.proofs.lemmas.Bool.{ltb-true, ltb-false}
use Rattle.std.specs.List.{prefix_len}
use Rattle.tb_terms.specs.Names.{is_digit}
use Rattle.tb_terms.specs.Sizes.{term_size, term_levels}
use Rattle.tb_terms.specs.declared.term.Term.{Term}
use Rattle.tb_read.specs.declared.token.Token.{Token}
use Rattle.tb_read.specs.declared.fault.TermFault.{TermFault}
use Rattle.tb_read.specs.declared.fault.TermFault.TheVariants as fault
use Rattle.tb_read.specs.declared.kind.Kind.{Kind}
use Rattle.tb_read.specs.declared.kind.Kind.TheVariants as kind
use Rattle.tb_read.specs.declared.quoted.Within.{Within}
use Rattle.tb_read.specs.declared.quoted.Within.TheVariants.{Between}
use Rattle.tb_read.specs.declared.quoted.Turn.{Turn}
use Rattle.tb_read.specs.declared.quoted.Turn.TheVariants.{Ends, Goes, Puts, Bad}
use Rattle.tb_read.specs.declared.shape.Shape.{Shape}
use Rattle.tb_read.specs.Tokens.{tokens_of}
use Rattle.tb_read.specs.Helpers.Limits.{tokens_size, tokens_levels, over_limit}
use Rattle.tb_read.specs.Helpers.Building.{built_from, nothing}
use Rattle.tb_read.specs.Spelling.{digits_value, Spaced, Reads}
use Rattle.tb_read.specs.Lexing.{string_turn, string_rest, with_prefix, string_of, is_real, is_negative, number_of, in_range, number_from, kind_of, token_of, skip_blanks}
use Rattle.tb_read.specs.Scanning.{Ends as Stops, allows, after, may_end, made, next_at, start, Runs, Scans}
use Rattle.tb_read.specs.Reading.{IsWithin, HasFaultWithin}
use Rattle.tb_read.specs.Helpers.Answers.{Faulted}
use Rattle.tb_read.proofs.Strings.{turned}
use Rattle.tb_read.proofs.Lexed.{Lexed, runs_sound}
use Rattle.tb_read.proofs.Grammar.{term-accepts}
use Rattle.tb_read.proofs.Counted.{tokens_size-tokens_of, tokens_levels-tokens_of}

-- an error with a position in the source
abbrev pub IsPositioned : TermFault → Type 0
IsPositioned (fault.Syntax position) = Unit {0}
IsPositioned (fault.Real position) = Unit {0}
IsPositioned (fault.IntRange position) = Unit {0}
IsPositioned fault.TooLarge = ⊥
IsPositioned fault.TooDeep = ⊥
IsPositioned fault.NoMemory = ⊥

same_fault : {X : Type 0} (f g : TermFault) → ◌≡◌ {A = Result X TermFault} (Err f) (Err g) → IsPositioned f → IsPositioned g
same_fault f g e p = let same : f ≡ g = cc in subst IsPositioned same p

abbrev Pair : Type 0
Pair = List ℕ × List ℕ

prefix_err : (prefix : List ℕ) (r : Result Pair TermFault) (f : TermFault) → with_prefix prefix r ≡ Err f → r ≡ Err f
prefix_err prefix (Ok x) f e = cc
prefix_err prefix (Err g) f e = let same : g ≡ f = cc in ap (λ (h : TermFault). Err h) same

turned_positioned : (total : ℕ) (bytes : List ℕ) → ((w : Within) (f : TermFault) → string_rest total w bytes ≡ Err f → IsPositioned f) → (t : Turn) (f : TermFault) → turned total t bytes ≡ Err f → IsPositioned f
turned_positioned total bytes rest Ends f e = cc
turned_positioned total bytes rest (Goes next) f e = rest next f e
turned_positioned total bytes rest (Puts put next) f e = rest next f (prefix_err (put ∷ []) (string_rest total next bytes) f e)
turned_positioned total bytes rest Bad f e = same_fault (fault.Syntax (total - suc (length bytes))) f e tt

rest_positioned : (total : ℕ) (bytes : List ℕ) (w : Within) (f : TermFault) → string_rest total w bytes ≡ Err f → IsPositioned f
rest_positioned total [] w f e = same_fault (fault.Syntax total) f e tt
rest_positioned total (b ∷ bytes) w f e = turned_positioned total bytes (rest_positioned total bytes) (string_turn w b) f e

string_positioned : (total : ℕ) (bytes : List ℕ) (r : Result Pair TermFault) → string_rest total Between bytes ≡ r → (f : TermFault) → string_of r ≡ Err f → IsPositioned f
string_positioned total bytes (Err g) r f e = same_fault g f e (rest_positioned total bytes Between g r)
string_positioned total bytes (Ok y) r f e = cc

number_by : (position : ℕ) (rest : List ℕ) (v : Bool) (o : Option ℤ) (f : TermFault) → ◌≡◌ {A = Result Lexed TermFault} (cond v (Err (fault.Real position)) (in_range position o rest)) (Err f) → IsPositioned f
number_by position rest true o f e = same_fault (fault.Real position) f e tt
number_by position rest false None f e = same_fault (fault.IntRange position) f e tt
number_by position rest false (Some z) f e = cc

number_positioned : (total position : ℕ) (negative : Bool) (digits rest : List ℕ) (f : TermFault) → number_from total position negative digits rest ≡ Err f → IsPositioned f
number_positioned total position negative [] rest f e = same_fault (fault.Syntax (total - length rest)) f e tt
number_positioned total position negative (d ∷ digits) rest f e = number_by position rest (is_real rest) (number_of negative (digits_value (d ∷ digits))) f e

token_positioned : (next : Kind) (total : ℕ) (bytes : List ℕ) (f : TermFault) → token_of next total bytes ≡ Err f → IsPositioned f
token_positioned kind.LeftParen total bytes f e = cc
token_positioned kind.RightParen total bytes f e = cc
token_positioned kind.LeftBracket total bytes f e = cc
token_positioned kind.RightBracket total bytes f e = cc
token_positioned kind.Comma total bytes f e = cc
token_positioned kind.Name total bytes f e = cc
token_positioned kind.Str total [] f e = same_fault (fault.Syntax total) f e tt
token_positioned kind.Str total (b ∷ bytes) f e = string_positioned total bytes (string_rest total Between bytes) refl f e
token_positioned kind.Int total bytes f e =
    let unsigned = drop (cond (is_negative bytes) 1 0) bytes in
    let len = prefix_len is_digit unsigned in
    number_positioned total (total - length bytes) (is_negative bytes) (take len unsigned) (drop len unsigned) f e
token_positioned kind.Other total bytes f e = same_fault (fault.Syntax (total - length bytes)) f e tt

made_positioned : (r : Result Lexed TermFault) (f : TermFault) → ((g : TermFault) → r ≡ Err g → IsPositioned g) → made r ≡ Stops (Some f) → IsPositioned f
made_positioned (Ok x) f h e = cc
made_positioned (Err g) f h e = let same : g ≡ f = cc in subst IsPositioned same (h g refl)

next_by : (v : Bool) (r : Result Lexed TermFault) (position : ℕ) (f : TermFault) → ((g : TermFault) → r ≡ Err g → IsPositioned g) → cond v (made r) (Stops (Some (fault.Syntax position))) ≡ Stops (Some f) → IsPositioned f
next_by true r position f h e = made_positioned r f h e
next_by false r position f h e = let same : fault.Syntax position ≡ f = cc in subst IsPositioned same tt

end_by : (v : Bool) (total : ℕ) (f : TermFault) → cond v (Stops None) (Stops (Some (fault.Syntax total))) ≡ Stops (Some f) → IsPositioned f
end_by true total f e = cc
end_by false total f e = let same : fault.Syntax total ≡ f = cc in subst IsPositioned same tt

next_positioned : (s : Shape) (total : ℕ) (l : List ℕ) (f : TermFault) → next_at s total l ≡ Stops (Some f) → IsPositioned f
next_positioned s total [] f e = end_by (may_end s.expect s.brackets) total f e
next_positioned s total (b ∷ l) f e = next_by (allows s (kind_of b)) (token_of (kind_of b) total (b ∷ l)) (total - length (b ∷ l)) f (λ g h. token_positioned (kind_of b) total (b ∷ l) g h) e

pub runs_positioned : (ks : List Token) (s : Shape) (total : ℕ) (bytes : List ℕ) (f : TermFault) → Runs s total bytes ks (Some f) → IsPositioned f
runs_positioned [] s total bytes f r = next_positioned s total (skip_blanks bytes) f r
runs_positioned (k ∷ ks) s total bytes f r = runs_positioned ks (after s k) total r.0 f r.2

pub fault_of_scan : (size levels : ℕ) (bytes : List ℕ) (e : TermFault) → Faulted (λ f. (ks : List Token) × Scans bytes ks (Some f)) e → HasFaultWithin size levels bytes e
fault_of_scan most deepest bytes fault.NoMemory h = tt
fault_of_scan most deepest bytes (fault.Syntax position) h = h
fault_of_scan most deepest bytes (fault.Real position) h = h
fault_of_scan most deepest bytes (fault.IntRange position) h = h
fault_of_scan most deepest bytes fault.TooLarge h = absurd (runs_positioned h.0 start (length bytes) bytes fault.TooLarge h.1)
fault_of_scan most deepest bytes fault.TooDeep h = absurd (runs_positioned h.0 start (length bytes) bytes fault.TooDeep h.1)

-- the scanned tokens build one term, and the source parses as this term
abbrev Whole : List ℕ → List Token → Type 0
Whole bytes ks = (t : Term) × ((built_from nothing ks).done ≡ Some t) × (ks ≡ tokens_of t) × Reads bytes t

pub scanned : (bytes : List ℕ) (ks : List Token) → Scans bytes ks None → Whole bytes ks
scanned bytes ks r =
    let p = runs_sound ks start (length bytes) bytes r in
    let q = term-accepts ks p.0 in
    (q.0, q.1, q.2, subst (λ l. Spaced l bytes) q.2 p.1)

abbrev Limited : ℕ → ℕ → ℕ → ℕ → Option TermFault → Type 0
Limited most deepest size levels None = (size ≤ most) × (levels ≤ deepest)
Limited most deepest size levels (Some fault.TooLarge) = most < size
Limited most deepest size levels (Some fault.TooDeep) = (size ≤ most) × (deepest < levels)
Limited most deepest size levels (Some _) = ⊥

limited_by : (most deepest size levels : ℕ) (v w : Bool) → ltb most size ≡ v → ltb deepest levels ≡ w → Limited most deepest size levels (cond v (Some fault.TooLarge) (cond w (Some fault.TooDeep) None))
limited_by most deepest size levels true w ev ew = ltb-true most size ev
limited_by most deepest size levels false true ev ew = (ltb-false most size ev, ltb-true deepest levels ew)
limited_by most deepest size levels false false ev ew = (ltb-false most size ev, ltb-false deepest levels ew)

limited : (most deepest : ℕ) (ks : List Token) → Limited most deepest (tokens_size ks) (tokens_levels 0 ks) (over_limit most deepest ks)
limited most deepest ks = limited_by most deepest (tokens_size ks) (tokens_levels 0 ks) (ltb most (tokens_size ks)) (ltb deepest (tokens_levels 0 ks)) refl refl

limited_term : (most deepest : ℕ) (ks : List Token) (t : Term) → ks ≡ tokens_of t → Limited most deepest (term_size t) (term_levels t) (over_limit most deepest ks)
limited_term most deepest ks t e =
    let size : tokens_size ks ≡ term_size t = ap tokens_size e ∙ tokens_size-tokens_of t in
    let levels : tokens_levels 0 ks ≡ term_levels t = ap (tokens_levels 0) e ∙ tokens_levels-tokens_of t in
    subst (λ n. Limited most deepest n (term_levels t) (over_limit most deepest ks)) size (subst (λ n. Limited most deepest (tokens_size ks) n (over_limit most deepest ks)) levels (limited most deepest ks))

pub found_term : (most deepest : ℕ) (bytes : List ℕ) (ks : List Token) (t : Term) → Scans bytes ks None → over_limit most deepest ks ≡ None → (built_from nothing ks).done ≡ Some t → Reads bytes t × IsWithin most deepest t
found_term most deepest bytes ks t r o b =
    let w = scanned bytes ks r in
    let same : ◌≡◌ {A = Option Term} (Some w.0) (Some t) = sym w.1 ∙ b in
    let is : w.0 ≡ t = cc in
    let l : Limited most deepest (term_size w.0) (term_levels w.0) None = subst (λ f. Limited most deepest (term_size w.0) (term_levels w.0) f) o (limited_term most deepest ks w.0 w.2) in
    subst (λ (u : Term). Reads bytes u × IsWithin most deepest u) is (w.3, l)

over_fault : (most deepest : ℕ) (bytes : List ℕ) (t : Term) (f : TermFault) → Reads bytes t → Limited most deepest (term_size t) (term_levels t) (Some f) → HasFaultWithin most deepest bytes f
over_fault most deepest bytes t (fault.Syntax position) r l = absurd l
over_fault most deepest bytes t (fault.Real position) r l = absurd l
over_fault most deepest bytes t (fault.IntRange position) r l = absurd l
over_fault most deepest bytes t fault.TooLarge r l = (t, r, l)
over_fault most deepest bytes t fault.TooDeep r l = (t, r, l.0, l.1)
over_fault most deepest bytes t fault.NoMemory r l = tt

pub fault_of_limit : (most deepest : ℕ) (bytes : List ℕ) (ks : List Token) (f : TermFault) → Scans bytes ks None → over_limit most deepest ks ≡ Some f → HasFaultWithin most deepest bytes f
fault_of_limit most deepest bytes ks f r o =
    let w = scanned bytes ks r in
    over_fault most deepest bytes w.0 f w.3 (subst (λ g. Limited most deepest (term_size w.0) (term_levels w.0) g) o (limited_term most deepest ks w.0 w.2))

pub always_built : (bytes : List ℕ) (ks : List Token) → Scans bytes ks None → (built_from nothing ks).done ≡ None → ⊥
always_built bytes ks r e =
    let w = scanned bytes ks r in
    let no : ◌≡◌ {A = Option Term} (Some w.0) None = sym w.1 ∙ e in
    cc
