-- The ring's text is its pieces, and which tokens it has.
use Rattle.std.proofs.Common.{◌≡◌, ℕ, zero, suc, ◌+◌, ◌-◌, ◌*◌, ◌≤◌, pos, true, List, [], ◌∷◌, ◌++◌, refl, ap, sym, ◌∙◌, subst, inl, arith, append_assoc, codes}
use Rattle.std.proofs.lemmas.Bool.{and_from}
use Rattle.std.specs.Fmt.{decimal, digits}
use Rattle.tb_terms.specs.Proper.{has_64_bits}
use Rattle.tb_lex.specs.Gaps.{IsLast}
use Rattle.tb_lex.specs.Tokens.{Lexes}
use Rattle.tb_lex.specs.declared.token.Token.{Token}
use Rattle.tb_lex.specs.declared.kind.TokenKind.{TokenKind}
use Rattle.tb_syntax.specs.Spelling.{kinds_of}
use Rattle.tb_gen.specs.Ring.{node_line, first_line, node, later, nodes_text, ring_text}
use Rattle.tb_ring_law.specs.Helpers.Pieces.{pieces_text, kinds_in, are_apart, are_wide, front_pieces, call_pieces, links, links_kinds, ring_kinds, right}
use Rattle.tb_ring_law.proofs.Lexing.{Lexed, lex-pieces}

wide : (n : ℕ) → n ≤ 1000000 → has_64_bits (pos n) ≡ true
wide n most = grind arith

-- one call
call-text : (i j : ℕ) (rest : List ℕ) → later (node i j) ++ rest ≡ pieces_text (call_pieces i j) rest
call-text i j rest =
    let back = codes ")" in
    let number = decimal j in
    ap (λ (t : List ℕ). codes ", Node(" ++ t)
    (append_assoc (decimal i ++ codes ", " ++ number) back rest
    ∙ append_assoc (decimal i ++ codes ", ") number (back ++ rest)
    ∙ append_assoc (decimal i) (codes ", ") (number ++ (back ++ rest)))

call-apart : (i j : ℕ) (rest : List ℕ) → are_apart (call_pieces i j) rest ≡ true
call-apart i j rest = refl

call-wide : (i j : ℕ) → i ≤ 1000000 → j ≤ 1000000 → are_wide (call_pieces i j) ≡ true
call-wide i j first second = and_from _ _ (wide i first) (and_from _ _ (wide j second) refl)

lex-call : (i j : ℕ) (rest : List ℕ) (kinds : List TokenKind) → i ≤ 1000000 → j ≤ 1000000 → Lexed rest kinds → Lexed (later (node i j) ++ rest) (kinds_in (call_pieces i j) ++ kinds)
lex-call i j rest kinds first second lexed =
    subst (λ (t : List ℕ). Lexed t (kinds_in (call_pieces i j) ++ kinds)) (sym (call-text i j rest))
    (lex-pieces (call_pieces i j) rest kinds (call-apart i j rest) (call-wide i j first second) lexed)

-- the calls from this process on, of which the last sends to the first
lex-links : (i count n : ℕ) (rest : List ℕ) (kinds : List TokenKind) → i + count ≡ n → n ≤ 10000 → Lexed rest kinds
    → Lexed (nodes_text i count ++ (later (node n 1) ++ rest)) (links_kinds (links i count) ++ kinds)
lex-links i zero n rest kinds is most lexed =
    let same : i ≡ n = omega (arith, is) in
    subst (λ (j : ℕ). Lexed (later (node j 1) ++ rest) (links_kinds (links i zero) ++ kinds)) same (lex-call i 1 rest kinds (omega (arith, is, most)) (omega arith) lexed)
lex-links i (suc count) n rest kinds is most lexed =
    let back = later (node n 1) ++ rest in
    let behind = lex-links (i + 1) count n rest kinds (omega (arith, is)) most lexed in
    let all = lex-call i (i + 1) (nodes_text (i + 1) count ++ back) (links_kinds (links (i + 1) count) ++ kinds) (omega (arith, is, most)) (omega (arith, is, most)) behind in
    subst (λ (t : List ℕ). Lexed t (links_kinds (links i (suc count)) ++ kinds)) (sym (append_assoc (later (node i (i + 1))) (nodes_text (i + 1) count) back)) all

one : decimal 1 ≡ 49 ∷ []
unfolding digits
one = refl

two : decimal 2 ≡ 50 ∷ []
unfolding digits
two = refl

-- the definitions and the first root
front-apart : (messages : ℕ) (rest : List ℕ) → are_apart (front_pieces messages) (44 ∷ rest) ≡ true
front-apart messages rest = refl

front-wide : (messages : ℕ) → messages ≤ 1000000 → are_wide (front_pieces messages) ≡ true
front-wide messages most = and_from _ _ (wide messages most) refl

abbrev front : ℕ → List ℕ → List ℕ
front messages rest = node_line ++ first_line messages ++ (codes "toolbus(First" ++ rest)

abbrev before_number : List ℕ
before_number = node_line ++ codes "process First is let T : int in snd-msg(2, 1) . (rec-msg(1, T?) . if less(T, "

abbrev behind_number : List ℕ
behind_number = codes ") then snd-msg(2, add(T, 1)) else shutdown(done) fi) * delta endlet\n"

front-text : (messages : ℕ) (rest : List ℕ) → front messages rest ≡ pieces_text (front_pieces messages) rest
front-text messages rest = rw one (rw two (ap (λ (t : List ℕ). before_number ++ t) (append_assoc (decimal messages) behind_number (codes "toolbus(First" ++ rest))))

-- a comma stands first
abbrev BeginsComma : List ℕ → Type 0
BeginsComma text = (rest : List ℕ) × (text ≡ 44 ∷ rest)

lex-front : (messages : ℕ) (rest : List ℕ) (kinds : List TokenKind) → messages ≤ 1000000 → BeginsComma rest → Lexed rest kinds → Lexed (front messages rest) (kinds_in (front_pieces messages) ++ kinds)
lex-front messages rest kinds most comma lexed =
    subst (λ (t : List ℕ). Lexed t (kinds_in (front_pieces messages) ++ kinds)) (sym (front-text messages rest))
    (lex-pieces (front_pieces messages) rest kinds (ap (are_apart (front_pieces messages)) comma.1 ∙ front-apart messages comma.0) (front-wide messages most) lexed)

-- the end of the text
line-end : IsLast (10 ∷ [])
line-end = inl ((10 ∷ []) ∷ [], ([], refl, inl (10, refl, refl), refl))

lex-nothing : Lexed (10 ∷ []) []
lex-nothing position = ([], line-end, refl)

lex-end : Lexed (codes ")\n") (kinds_in (right ∷ []))
lex-end = lex-pieces (right ∷ []) (10 ∷ []) [] refl refl lex-nothing

abbrev back : ℕ → ℕ → List ℕ
back n count = nodes_text 2 count ++ (later (node n 1) ++ codes ")\n")

back-comma : (n count : ℕ) → BeginsComma (back n count)
back-comma n zero = (_, refl)
back-comma n (suc count) = (_, refl)

ring-text : (n k : ℕ) → ring_text n k ≡ front (n * k) (back n (n - 2))
ring-text n k =
    let start = codes "toolbus(First" in
    let calls = nodes_text 2 (n - 2) in
    let last = later (node n 1) in
    let end = codes ")\n" in
    ap (λ (t : List ℕ). node_line ++ first_line (n * k) ++ t) (append_assoc (start ++ calls) last end ∙ append_assoc start calls (last ++ end))

-- The ring's text has these tokens.
pub lex-ring : (n k : ℕ) → 2 ≤ n → n ≤ 10000 → n * k ≤ 1000000 → (tokens : List Token) × Lexes (ring_text n k) tokens × (kinds_of tokens ≡ ring_kinds n (n * k))
lex-ring n k least few most =
    subst (λ (t : List ℕ). Lexed t (ring_kinds n (n * k))) (sym (ring-text n k))
    (lex-front (n * k) (back n (n - 2)) _ most (back-comma n (n - 2)) (lex-links 2 (n - 2) n _ _ (omega (arith, least)) few lex-end))
    0
