-- The ring's source in pieces: each token with the whitespace before it.
use Rattle.std.specs.Prelude.{ℕ, zero, suc, ◌-◌, pos, Bool, true, false, not, ◌&&◌, ◌==◌, List, [], ◌∷◌, ◌++◌, map, codes, ◌+◌}
use Rattle.std.specs.List.{list_all, flat_map, prefix_len}
use Rattle.std.specs.Fmt.{signed_decimal}
use Rattle.tb_terms.specs.Names.{is_digit, is_name, is_ident, is_name_byte}
use Rattle.tb_terms.specs.Proper.{has_64_bits}
use Rattle.tb_lex.specs.Tokens.{symbol_text}
use Rattle.tb_lex.specs.Helpers.Scanning.{begins_with}
use Rattle.tb_lex.specs.declared.kind.TokenKind.{TokenKind}
use Rattle.tb_lex.specs.declared.kind.TokenKind.TheVariants.{Int, Str, Lower, Upper, Symbol as Sign}
use Rattle.tb_lex.specs.declared.symbol.Symbol.{Symbol}
use Rattle.tb_lex.specs.declared.symbol.Symbol.TheVariants as sign

-- the whitespace before a token: nothing, a space or a newline
pub data Gap : Type 0 where
  None : Gap
  Blank : Gap
  Line : Gap

abbrev pub gap_text : Gap → List ℕ
gap_text None = []
gap_text Blank = 32 ∷ []
gap_text Line = 10 ∷ []

pub record Piece : Type 0 where
  pub gap : Gap
  pub kind : TokenKind

-- the text of a token; the ring's source has no strings
abbrev pub text_of : TokenKind → List ℕ
text_of (Int number) = signed_decimal number
text_of (Str bytes) = []
text_of (Lower name) = name
text_of (Upper name) = name
text_of (Sign symbol) = symbol_text symbol

-- the text of the pieces in order, followed by the rest
abbrev pub pieces_text : List Piece → List ℕ → List ℕ
pieces_text [] rest = rest
pieces_text (piece ∷ pieces) rest = gap_text piece.gap ++ (text_of piece.kind ++ pieces_text pieces rest)

abbrev pub kinds_in : List Piece → List TokenKind
kinds_in pieces = map (λ (piece : Piece). piece.kind) pieces

-- a symbol doesn't form a longer symbol with the text that follows it
abbrev pub is_symbol_apart : Symbol → List ℕ → Bool
is_symbol_apart sign.Colon rest = not (begins_with 61 rest)
is_symbol_apart sign.Greater rest = not (begins_with 62 rest)
is_symbol_apart _ rest = true

-- the text of this kind is one token, and doesn't form a longer token with the text that follows it
abbrev pub is_apart : TokenKind → List ℕ → Bool
is_apart (Int number) rest = (prefix_len is_digit rest == 0) && not (begins_with 46 rest)
is_apart (Str bytes) rest = false
is_apart (Lower name) rest = is_name name && (prefix_len is_name_byte rest == 0)
is_apart (Upper name) rest = is_ident name && (prefix_len is_name_byte rest == 0)
is_apart (Sign symbol) rest = is_symbol_apart symbol rest

abbrev pub are_apart : List Piece → List ℕ → Bool
are_apart [] rest = true
are_apart (piece ∷ pieces) rest = is_apart piece.kind (pieces_text pieces rest) && are_apart pieces rest

-- a number fits into 64 bits
abbrev pub is_wide : TokenKind → Bool
is_wide (Int number) = has_64_bits number
is_wide (Str bytes) = true
is_wide (Lower name) = true
is_wide (Upper name) = true
is_wide (Sign symbol) = true

abbrev pub are_wide : List Piece → Bool
are_wide pieces = list_all (λ (piece : Piece). is_wide piece.kind) pieces

abbrev pub tight : TokenKind → Piece
tight kind = record { gap = None; kind = kind }

abbrev pub spaced : TokenKind → Piece
spaced kind = record { gap = Blank; kind = kind }

abbrev pub on_line : TokenKind → Piece
on_line kind = record { gap = Line; kind = kind }

abbrev pub word : List ℕ → Piece
word name = spaced (Lower name)

abbrev pub name : List ℕ → Piece
name text = spaced (Upper text)

abbrev pub left : Piece
left = tight (Sign sign.LeftParen)

abbrev pub right : Piece
right = tight (Sign sign.RightParen)

abbrev pub comma : Piece
comma = tight (Sign sign.Comma)

abbrev pub number : ℕ → TokenKind
number n = Int (pos n)

-- process Node(I : int, J : int) is let T : int in (rec-msg(I, T?) . snd-msg(J, add(T, 1))) * delta endlet
abbrev pub node_pieces : List Piece
node_pieces =
    tight (Lower (codes "process")) ∷ name (codes "Node")
    ∷ left ∷ tight (Upper (codes "I")) ∷ spaced (Sign sign.Colon) ∷ word (codes "int") ∷ comma ∷ name (codes "J") ∷ spaced (Sign sign.Colon) ∷ word (codes "int") ∷ right
    ∷ word (codes "is") ∷ word (codes "let") ∷ name (codes "T") ∷ spaced (Sign sign.Colon) ∷ word (codes "int") ∷ word (codes "in")
    ∷ spaced (Sign sign.LeftParen) ∷ tight (Lower (codes "rec-msg")) ∷ left ∷ tight (Upper (codes "I")) ∷ comma ∷ name (codes "T") ∷ tight (Sign sign.Question) ∷ right
    ∷ spaced (Sign sign.Point) ∷ word (codes "snd-msg") ∷ left ∷ tight (Upper (codes "J")) ∷ comma
    ∷ word (codes "add") ∷ left ∷ tight (Upper (codes "T")) ∷ comma ∷ spaced (number 1) ∷ right ∷ right ∷ right
    ∷ spaced (Sign sign.Star) ∷ word (codes "delta") ∷ word (codes "endlet") ∷ []

-- process First is let T : int in snd-msg(2, 1) . (rec-msg(1, T?) . if less(T, messages) then snd-msg(2, add(T, 1)) else shutdown(done)
-- fi) * delta endlet
abbrev pub first_pieces : ℕ → List Piece
first_pieces messages =
    on_line (Lower (codes "process")) ∷ name (codes "First")
    ∷ word (codes "is") ∷ word (codes "let") ∷ name (codes "T") ∷ spaced (Sign sign.Colon) ∷ word (codes "int") ∷ word (codes "in")
    ∷ word (codes "snd-msg") ∷ left ∷ tight (number 2) ∷ comma ∷ spaced (number 1) ∷ right ∷ spaced (Sign sign.Point)
    ∷ spaced (Sign sign.LeftParen) ∷ tight (Lower (codes "rec-msg")) ∷ left ∷ tight (number 1) ∷ comma ∷ name (codes "T") ∷ tight (Sign sign.Question) ∷ right
    ∷ spaced (Sign sign.Point) ∷ word (codes "if") ∷ word (codes "less") ∷ left ∷ tight (Upper (codes "T")) ∷ comma ∷ spaced (number messages) ∷ right
    ∷ word (codes "then") ∷ word (codes "snd-msg") ∷ left ∷ tight (number 2) ∷ comma
    ∷ word (codes "add") ∷ left ∷ tight (Upper (codes "T")) ∷ comma ∷ spaced (number 1) ∷ right ∷ right
    ∷ word (codes "else") ∷ word (codes "shutdown") ∷ left ∷ tight (Lower (codes "done")) ∷ right ∷ word (codes "fi") ∷ right
    ∷ spaced (Sign sign.Star) ∷ word (codes "delta") ∷ word (codes "endlet") ∷ []

-- toolbus(First
abbrev pub start_pieces : List Piece
start_pieces = on_line (Lower (codes "toolbus")) ∷ left ∷ tight (Upper (codes "First")) ∷ []

-- , Node(process, next)
abbrev pub call_pieces : ℕ → ℕ → List Piece
call_pieces process next =
    comma ∷ name (codes "Node") ∷ left ∷ tight (number process) ∷ comma ∷ spaced (number next) ∷ right ∷ []

-- the process definitions and the first root
abbrev pub front_pieces : ℕ → List Piece
front_pieces messages = node_pieces ++ (first_pieces messages ++ start_pieces)

-- a process of the ring and the next, to which it sends
pub record Link : Type 0 where
  pub process : ℕ
  pub next : ℕ

-- `count` processes from this process on, each of which sends to the next process; and then the last process, which sends to the first
-- process
abbrev pub links : ℕ → ℕ → List Link
links process zero = record { process = process; next = 1 } ∷ []
links process (suc count) = record { process = process; next = process + 1 } ∷ links (process + 1) count

-- all processes of the ring except the first
abbrev pub ring_links : ℕ → List Link
ring_links n = links 2 (n - 2)

abbrev pub links_kinds : List Link → List TokenKind
links_kinds row = flat_map (λ (link : Link). kinds_in (call_pieces link.process link.next)) row

-- the tokens of the ring's script, by its numbers of processes and messages
abbrev pub ring_kinds : ℕ → ℕ → List TokenKind
ring_kinds n messages = kinds_in (front_pieces messages) ++ (links_kinds (ring_links n) ++ kinds_in (right ∷ []))
