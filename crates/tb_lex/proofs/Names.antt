-- The name with which bytes begin.
use Rattle.std.proofs.Common.{◌≡◌, ℕ, Bool, true, false, ◌||◌, eqb, List, [], ◌∷◌, ◌++◌, length, take, drop, Ok, refl, ap, sym, ◌∙◌, subst, inr}
use Rattle.std.proofs.Math.Numerals.{one-add}
use Rattle.std.proofs.Math.Seq.{take-append_seam, drop-append_seam}
use Rattle.std.proofs.lemmas.Bool.{false≢true, and_parts, and_from}
use Rattle.std.proofs.lemmas.List.Folds.{list_all-append}
use Rattle.std.specs.List.{prefix_len, list_all}
use Rattle.tb_terms.specs.Names.{is_name, is_ident, is_lower, is_upper, is_digit, is_name_byte}
use Rattle.tb_read.proofs.Names.{all_of_prefix}
use Rattle.tb_read.proofs.Complete.{prefix_all}
use Rattle.tb_lex.specs.Tokens.{IsPiece, IsLongest}
use Rattle.tb_lex.specs.Helpers.Scanning.{Read, has_head, lower_at, upper_at}
use Rattle.tb_lex.specs.declared.head.Head.TheVariants as head
use Rattle.tb_lex.specs.declared.kind.TokenKind.TheVariants as kind
use Rattle.tb_lex.proofs.Prefixes.{all_behind, none_more, stops_by}
use Rattle.tb_lex.proofs.Heads.{PieceOf, piece_of, lower_head, upper_head}

pub is_name_prefix : (bs : List ℕ) → has_head head.Lower bs ≡ true → is_name (take (prefix_len is_name_byte bs) bs) ≡ true
is_name_prefix [] h = absurd (false≢true h)
is_name_prefix (b ∷ bs) h =
    let also : is_name_byte b ≡ true = rw h refl in
    rw (also, one-add, h) (all_of_prefix is_name_byte bs)

upper_also : (b : ℕ) → is_upper b ≡ true → is_name_byte b ≡ true
upper_also b h = by (is_lower b) where
  by : (v : Bool) → (v || is_upper b || is_digit b || (eqb b 45) || (eqb b 95)) ≡ true
  by true = refl
  by false = rw h refl

pub is_ident_prefix : (bs : List ℕ) → has_head head.Upper bs ≡ true → is_ident (take (prefix_len is_name_byte bs) bs) ≡ true
is_ident_prefix [] h = absurd (false≢true h)
is_ident_prefix (b ∷ bs) h = rw (upper_also b h, one-add, h) (all_of_prefix is_name_byte bs)

pub name_longest : (text rest : List ℕ) → is_name text ≡ true → prefix_len is_name_byte rest ≡ 0 → IsLongest text rest
name_longest [] rest h s more tail e p = absurd (false≢true h)
name_longest (c ∷ cs) rest h s more tail e p =
    let first = (and_parts (is_lower c) (list_all is_name_byte cs) h).0 in
    let whole : PieceOf head.Lower (c ∷ (cs ++ more)) = subst (λ n. PieceOf n (c ∷ (cs ++ more))) (lower_head c first) (piece_of c (cs ++ more) p) in
    let all = (and_parts (is_lower c) (list_all is_name_byte (cs ++ more)) whole).1 in
    none_more is_name_byte more tail (ap (prefix_len is_name_byte) (sym e) ∙ s) (all_behind is_name_byte cs more all)

pub ident_longest : (text rest : List ℕ) → is_ident text ≡ true → prefix_len is_name_byte rest ≡ 0 → IsLongest text rest
ident_longest [] rest h s more tail e p = absurd (false≢true h)
ident_longest (c ∷ cs) rest h s more tail e p =
    let first = (and_parts (is_upper c) (list_all is_name_byte cs) h).0 in
    let whole : PieceOf head.Upper (c ∷ (cs ++ more)) = subst (λ n. PieceOf n (c ∷ (cs ++ more))) (upper_head c first) (piece_of c (cs ++ more) p) in
    let all = (and_parts (is_upper c) (list_all is_name_byte (cs ++ more)) whole).1 in
    none_more is_name_byte more tail (ap (prefix_len is_name_byte) (sym e) ∙ s) (all_behind is_name_byte cs more all)

-- one more byte of a name
longer : (cs : List ℕ) (x : ℕ) → list_all is_name_byte cs ≡ true → is_name_byte x ≡ true → list_all is_name_byte (cs ++ (x ∷ [])) ≡ true
longer cs x all e = list_all-append is_name_byte cs (x ∷ []) ∙ and_from (list_all is_name_byte cs) (list_all is_name_byte (x ∷ [])) all (and_from (is_name_byte x) true e refl)

cons_nil : (x : ℕ) → x ∷ [] ≡ [] → ⊥
cons_nil x e = cc

pub name_stops : (name rest : List ℕ) → is_name name ≡ true → IsLongest name rest → prefix_len is_name_byte rest ≡ 0
name_stops [] rest h l = absurd (false≢true h)
name_stops (c ∷ cs) rest h l =
    let p = and_parts (is_lower c) (list_all is_name_byte cs) h in
    stops_by is_name_byte rest (λ x tail e ok.
    let all = longer cs x p.1 ok in
    let name : is_name (c ∷ (cs ++ (x ∷ []))) ≡ true = and_from (is_lower c) (list_all is_name_byte (cs ++ (x ∷ []))) p.0 all in
    let piece : IsPiece (c ∷ (cs ++ (x ∷ []))) = inr (kind.Lower (c ∷ (cs ++ (x ∷ []))), (name, refl)) in
    cons_nil x (l (x ∷ []) tail e piece))

pub ident_stops : (name rest : List ℕ) → is_ident name ≡ true → IsLongest name rest → prefix_len is_name_byte rest ≡ 0
ident_stops [] rest h l = absurd (false≢true h)
ident_stops (c ∷ cs) rest h l =
    let p = and_parts (is_upper c) (list_all is_name_byte cs) h in
    stops_by is_name_byte rest (λ x tail e ok.
    let all = longer cs x p.1 ok in
    let name : is_ident (c ∷ (cs ++ (x ∷ []))) ≡ true = and_from (is_upper c) (list_all is_name_byte (cs ++ (x ∷ []))) p.0 all in
    let piece : IsPiece (c ∷ (cs ++ (x ∷ []))) = inr (kind.Upper (c ∷ (cs ++ (x ∷ []))), (name, refl)) in
    cons_nil x (l (x ∷ []) tail e piece))

abbrev lower_pair : List ℕ → List ℕ → Read
lower_pair name rest = Ok (kind.Lower name, rest)

abbrev upper_pair : List ℕ → List ℕ → Read
upper_pair name rest = Ok (kind.Upper name, rest)

pub lower_taken : (c : ℕ) (cs rest : List ℕ) → is_name (c ∷ cs) ≡ true → prefix_len is_name_byte rest ≡ 0 → lower_at ((c ∷ cs) ++ rest) ≡ Ok (kind.Lower (c ∷ cs), rest)
lower_taken c cs rest h s =
    let p = and_parts (is_lower c) (list_all is_name_byte cs) h in
    let first : is_name_byte c ≡ true = rw p.0 refl in
    let len : prefix_len is_name_byte ((c ∷ cs) ++ rest) ≡ length (c ∷ cs) = prefix_all is_name_byte (c ∷ cs) rest (and_from (is_name_byte c) (list_all is_name_byte cs) first p.1) s in
    ap (λ n. lower_pair (take n ((c ∷ cs) ++ rest)) (drop n ((c ∷ cs) ++ rest))) len
    ∙ ap (λ (l : List ℕ). lower_pair l (drop (length (c ∷ cs)) ((c ∷ cs) ++ rest))) (take-append_seam (c ∷ cs) rest)
    ∙ ap (λ (l : List ℕ). lower_pair (c ∷ cs) l) (drop-append_seam (c ∷ cs) rest)

pub upper_taken : (c : ℕ) (cs rest : List ℕ) → is_ident (c ∷ cs) ≡ true → prefix_len is_name_byte rest ≡ 0 → upper_at ((c ∷ cs) ++ rest) ≡ Ok (kind.Upper (c ∷ cs), rest)
upper_taken c cs rest h s =
    let p = and_parts (is_upper c) (list_all is_name_byte cs) h in
    let first : is_name_byte c ≡ true = upper_also c p.0 in
    let len : prefix_len is_name_byte ((c ∷ cs) ++ rest) ≡ length (c ∷ cs) = prefix_all is_name_byte (c ∷ cs) rest (and_from (is_name_byte c) (list_all is_name_byte cs) first p.1) s in
    ap (λ n. upper_pair (take n ((c ∷ cs) ++ rest)) (drop n ((c ∷ cs) ++ rest))) len
    ∙ ap (λ (l : List ℕ). upper_pair l (drop (length (c ∷ cs)) ((c ∷ cs) ++ rest))) (take-append_seam (c ∷ cs) rest)
    ∙ ap (λ (l : List ℕ). upper_pair (c ∷ cs) l) (drop-append_seam (c ∷ cs) rest)
