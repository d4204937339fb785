-- The mark of a message or of a receive: the number of terms or patterns, and the head of the first one.
use Rattle.std.specs.Prelude.{ℕ, ◌+◌, ◌*◌, ◌%◌, ◌^◌, ◌==◌, ◌&&◌, ◌||◌, Bool, List, [], ◌∷◌, length, fold}
use Rattle.std.specs.List.{list_any}
use Rattle.std.specs.Int.{w64, cast_unsigned}
use Rattle.tb_terms.specs.declared.term.Term.{Term, out-Term}
use Rattle.tb_terms.specs.declared.term.Term.TheOpen as term
use Rattle.tb_terms.specs.declared.pattern.Pattern.{Pattern, out-Pattern}
use Rattle.tb_terms.specs.declared.pattern.Pattern.TheOpen as pattern
use Rattle.tb_index.specs.declared.mark.Mark.{Mark}

-- the 64-bit hash after one more value
abbrev pub mixed : ℕ → ℕ → ℕ
mixed hash value = (hash * 31 % 2 ^ 64 + value) % 2 ^ 64

-- the head of an open first pattern, and of an empty list of terms or patterns
abbrev pub open_head : ℕ
open_head = 0

-- the head of a string
abbrev pub text_head : ℕ
text_head = 1

-- the head of a list
abbrev pub row_head : ℕ
row_head = 2

abbrev pub number_head : ℕ → ℕ
number_head number = mixed 5000000001 number

-- the head of a name with this number of arguments
abbrev pub name_head : List ℕ → ℕ → ℕ
name_head name parts = mixed (fold mixed 7 name) parts

abbrev pub term_head_in : term.Term-F Term → ℕ
term_head_in (term.Int number) = number_head (cast_unsigned w64 number)
term_head_in (term.Str bytes) = text_head
term_head_in (term.Appl name terms) = name_head name (length terms)
term_head_in (term.List terms) = row_head

abbrev pub term_head : Term → ℕ
term_head term = term_head_in (out-Term term)

abbrev pub pattern_head_in : pattern.Pattern-F Pattern → ℕ
pattern_head_in (pattern.Fixed fixed) = term_head fixed
pattern_head_in (pattern.Hole sort) = open_head
pattern_head_in (pattern.Result slot sort) = open_head
pattern_head_in (pattern.Appl name parts) = name_head name (length parts)
pattern_head_in (pattern.List parts) = row_head

abbrev pub pattern_head : Pattern → ℕ
pattern_head pattern = pattern_head_in (out-Pattern pattern)

abbrev pub first_term_head : List Term → ℕ
first_term_head [] = open_head
first_term_head (term ∷ terms) = term_head term

abbrev pub first_pattern_head : List Pattern → ℕ
first_pattern_head [] = open_head
first_pattern_head (pattern ∷ patterns) = pattern_head pattern

-- the mark of the terms of a message
unfoldable pub sent_mark : List Term → Mark
sent_mark terms = record { count = length terms; head = first_term_head terms }

-- the mark of the patterns of a receive
unfoldable pub received_mark : List Pattern → Mark
received_mark patterns = record { count = length patterns; head = first_pattern_head patterns }

abbrev pub is_mark : Mark → Mark → Bool
is_mark a b = (a.count == b.count) && (a.head == b.head)

abbrev pub has_mark : List Mark → Mark → Bool
has_mark marks mark = list_any (is_mark mark) marks

-- the open mark with as many terms
abbrev pub wide : Mark → Mark
wide mark = record { count = mark.count; head = open_head }

-- whether the marks of a receive and of a message meet: only then can the message match the receive
abbrev pub meets : Mark → Mark → Bool
meets received sent = (received.count == sent.count) && ((received.head == open_head) || (received.head == sent.head))
