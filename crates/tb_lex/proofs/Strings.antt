-- The lexer reads strings as the reader of terms does.
use Rattle.std.proofs.Common.{◌≡◌, ℕ, suc, ◌-◌, true, List, [], ◌∷◌, ◌++◌, length, Result, Ok, Err, refl, ap, sym, ◌∙◌}
use Rattle.tb_terms.specs.Names.{is_string}
use Rattle.tb_read.specs.declared.quoted.Within.{Within}
use Rattle.tb_read.specs.declared.quoted.Within.TheVariants.{Between}
use Rattle.tb_read.specs.declared.quoted.Turn.{Turn}
use Rattle.tb_read.specs.declared.quoted.Turn.TheVariants.{Ends, Goes, Puts, Bad}
use Rattle.tb_read.specs.declared.fault.TermFault.{TermFault}
use Rattle.tb_read.specs.Lexing.{string_turn, string_rest as term_string, with_prefix as term_prefix}
use Rattle.tb_read.proofs.Strings.{prefix_ok as term_prefix_ok, turned as term_turned}
use Rattle.tb_read.proofs.Scalars.{string_put}
use Rattle.tb_lex.specs.declared.fault.LexFault.{LexFault}
use Rattle.tb_lex.specs.Helpers.Scanning.{string_fault, string_rest, with_prefix}

abbrev pub Pair : Type 0
Pair = List ℕ × List ℕ

-- the rest of a string, given the turn of its first byte
abbrev pub turned : ℕ → ℕ → Within → ℕ → Turn → List ℕ → Result Pair LexFault
turned quote total within byte turn bytes = elim turn [
  | Ends ↦ Ok ([], bytes)
  | Goes next ↦ string_rest quote total next bytes
  | Puts put next ↦ with_prefix (put ∷ []) (string_rest quote total next bytes)
  | Bad ↦ Err (string_fault quote (total - suc (length bytes)) within byte)
]

abbrev pub found : Pair → Result Pair LexFault
found x = Ok x

abbrev pub read : Pair → Result Pair TermFault
read x = Ok x

pub prefix_ok : (f : List ℕ) (r : Result Pair LexFault) (x : Pair) → with_prefix f r ≡ Ok x → (y : Pair) × (r ≡ Ok y) × (x ≡ (f ++ y.0, y.1))
prefix_ok f (Ok y) x e = let same : ◌≡◌ {A = Pair} (f ++ y.0, y.1) x = cc in (y, refl, sym same)
prefix_ok f (Err g) x e = cc

abbrev Same : ℕ → ℕ → ℕ → List ℕ → Type 0
Same quote total other bytes = (w : Within) (x : Pair) → string_rest quote total w bytes ≡ Ok x → term_string other w bytes ≡ Ok x

same_by : (quote total other : ℕ) (bytes : List ℕ) → Same quote total other bytes → (w : Within) (b : ℕ) (t : Turn) (x : Pair) → turned quote total w b t bytes ≡ Ok x → term_turned other t bytes ≡ Ok x
same_by quote total other bytes ih w b Ends x e = let same : ◌≡◌ {A = Pair} ([], bytes) x = cc in ap read same
same_by quote total other bytes ih w b (Goes next) x e = ih next x e
same_by quote total other bytes ih w b (Puts put next) x e =
    let y = prefix_ok (put ∷ []) (string_rest quote total next bytes) x e in
    ap (λ (r : Result Pair TermFault). term_prefix (put ∷ []) r) (ih next y.0 y.1) ∙ ap read (sym y.2)
same_by quote total other bytes ih w b Bad x e = cc

-- a string that is read is read in a term
pub read_in_term : (quote total other : ℕ) (bytes : List ℕ) → Same quote total other bytes
read_in_term quote total other [] w x e = cc
read_in_term quote total other (b ∷ bytes) w x e = same_by quote total other bytes (read_in_term quote total other bytes) w b (string_turn w b) x e

abbrev Back : ℕ → ℕ → ℕ → List ℕ → Type 0
Back quote total other bytes = (w : Within) (x : Pair) → term_string other w bytes ≡ Ok x → string_rest quote total w bytes ≡ Ok x

back_by : (quote total other : ℕ) (bytes : List ℕ) → Back quote total other bytes → (w : Within) (b : ℕ) (t : Turn) (x : Pair) → term_turned other t bytes ≡ Ok x → turned quote total w b t bytes ≡ Ok x
back_by quote total other bytes ih w b Ends x e = let same : ◌≡◌ {A = Pair} ([], bytes) x = cc in ap found same
back_by quote total other bytes ih w b (Goes next) x e = ih next x e
back_by quote total other bytes ih w b (Puts put next) x e =
    let y = term_prefix_ok (put ∷ []) (term_string other next bytes) x e in
    let same : ◌≡◌ {A = Pair} ((put ∷ []) ++ y.0.0, y.0.1) x = ap (λ (l : List ℕ). (l, y.0.1)) (sym y.2) ∙ ap (λ (l : List ℕ). (x.0, l)) (sym y.3) in
    ap (λ (r : Result Pair LexFault). with_prefix (put ∷ []) r) (ih next y.0 y.1) ∙ ap found same
back_by quote total other bytes ih w b Bad x e = cc

-- a string that is read in a term is read here
pub read_here : (quote total other : ℕ) (bytes : List ℕ) → Back quote total other bytes
read_here quote total other [] w x e = cc
read_here quote total other (b ∷ bytes) w x e = back_by quote total other bytes (read_here quote total other bytes) w b (string_turn w b) x e

pub is_string_put : (quote total : ℕ) (bytes : List ℕ) (x : Pair) → string_rest quote total Between bytes ≡ Ok x → is_string x.0 ≡ true
is_string_put quote total bytes x e = string_put total bytes x (read_in_term quote total total bytes Between x e)
