-- The names of the functions, and their signatures: the number of arguments, with the shapes of the arguments and of the result.
use Rattle.std.specs.Prelude.{ℕ, List, Option, Some, None, if◌then◌else◌, codes}
use Rattle.std.specs.Str.{bytes_eq}
use Rattle.tb_terms.specs.declared.expr.Func.{Func}
use Rattle.tb_terms.specs.declared.expr.Func.TheVariants.{Equal, NotEqual, Not, And, Or, Add, Sub, Mul, Div, Mod, Less, LessEqual, Greater, GreaterEqual, Size, First, Next, Join, Member, Index, Msec, Sec, Min, Hour}
use Rattle.tb_func.specs.declared.shape.Shape.{Shape}
use Rattle.tb_func.specs.declared.shape.Shape.TheVariants as shape
use Rattle.tb_func.specs.declared.shape.Signature.{Signature}

-- the function if the name is this word, and the other result otherwise
abbrev pub or_word : List ℕ → List ℕ → Func → Option Func → Option Func
or_word name word func other = if bytes_eq name word then Some func else other

abbrev pub logic_named : List ℕ → Option Func
logic_named name =
    or_word name (codes "equal") Equal
    (or_word name (codes "not-equal") NotEqual
    (or_word name (codes "not") Not
    (or_word name (codes "and") And
    (or_word name (codes "or") Or None))))

abbrev pub arithmetic_named : List ℕ → Option Func
arithmetic_named name =
    or_word name (codes "add") Add
    (or_word name (codes "sub") Sub
    (or_word name (codes "mul") Mul
    (or_word name (codes "div") Div
    (or_word name (codes "mod") Mod None))))

abbrev pub order_named : List ℕ → Option Func
order_named name =
    or_word name (codes "less") Less
    (or_word name (codes "less-equal") LessEqual
    (or_word name (codes "greater") Greater
    (or_word name (codes "greater-equal") GreaterEqual None)))

abbrev pub list_named : List ℕ → Option Func
list_named name =
    or_word name (codes "size") Size
    (or_word name (codes "first") First
    (or_word name (codes "next") Next
    (or_word name (codes "join") Join
    (or_word name (codes "member") Member
    (or_word name (codes "index") Index None)))))

abbrev pub time_named : List ℕ → Option Func
time_named name =
    or_word name (codes "msec") Msec
    (or_word name (codes "sec") Sec
    (or_word name (codes "min") Min
    (or_word name (codes "hour") Hour None)))

-- the first function if there is one, and the second result otherwise
abbrev pub either : Option Func → Option Func → Option Func
either (Some func) other = Some func
either None other = other

abbrev pub function_named : List ℕ → Option Func
function_named name =
    either (logic_named name)
    (either (arithmetic_named name)
    (either (order_named name)
    (either (list_named name) (time_named name))))

abbrev pub one : Shape → Shape → Signature
one first result = record { arity = 1; first = first; second = shape.Any; result = result }

abbrev pub two : Shape → Shape → Shape → Signature
two first second result = record { arity = 2; first = first; second = second; result = result }

abbrev pub signature_of : Func → Signature
signature_of Equal = two shape.Any shape.Any shape.Bool
signature_of NotEqual = two shape.Any shape.Any shape.Bool
signature_of Not = one shape.Bool shape.Bool
signature_of And = two shape.Bool shape.Bool shape.Bool
signature_of Or = two shape.Bool shape.Bool shape.Bool
signature_of Add = two shape.Int shape.Int shape.Int
signature_of Sub = two shape.Int shape.Int shape.Int
signature_of Mul = two shape.Int shape.Int shape.Int
signature_of Div = two shape.Int shape.Int shape.Int
signature_of Mod = two shape.Int shape.Int shape.Int
signature_of Less = two shape.Int shape.Int shape.Bool
signature_of LessEqual = two shape.Int shape.Int shape.Bool
signature_of Greater = two shape.Int shape.Int shape.Bool
signature_of GreaterEqual = two shape.Int shape.Int shape.Bool
signature_of Size = one shape.List shape.Int
signature_of First = one shape.List shape.Any
signature_of Next = one shape.List shape.List
signature_of Join = two shape.List shape.List shape.List
signature_of Member = two shape.Any shape.List shape.Bool
signature_of Index = two shape.List shape.Int shape.Any
signature_of Msec = one shape.Int shape.Int
signature_of Sec = one shape.Int shape.Int
signature_of Min = one shape.Int shape.Int
signature_of Hour = one shape.Int shape.Int
