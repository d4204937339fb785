-- The type of a shape, the terms that fit a shape, and the arguments that fit a signature.
use Rattle.std.specs.Prelude.{Bool, List, [], ◌∷◌, take, IsTrue}
use Rattle.std.specs.List.{AllZip}
use Rattle.tb_terms.specs.declared.term.Term.{Term}
use Rattle.tb_terms.specs.declared.sort.Sort.{Sort}
use Rattle.tb_terms.specs.declared.sort.Sort.TheVariants as sort
use Rattle.tb_terms.specs.Sorts.{has_sort}
use Rattle.tb_func.specs.declared.shape.Shape.{Shape}
use Rattle.tb_func.specs.declared.shape.Shape.TheVariants as shape
use Rattle.tb_func.specs.declared.shape.Signature.{Signature}

-- the type of the terms that fit the shape
abbrev pub sort_of : Shape → Sort
sort_of shape.Bool = sort.Bool
sort_of shape.Int = sort.Int
sort_of shape.List = sort.List sort.Any
sort_of shape.Any = sort.Any

abbrev pub fits : Shape → Term → Bool
fits shape term = has_sort term (sort_of shape)

-- the shapes of the arguments, one for each argument
abbrev pub shapes_of : Signature → List Shape
shapes_of signature = take signature.arity (signature.first ∷ signature.second ∷ [])

-- as many arguments as the signature has, each of which fits its shape
abbrev pub AreFit : Signature → List Term → Type 0
AreFit signature terms = AllZip (λ shape term. IsTrue (fits shape term)) (shapes_of signature) terms
