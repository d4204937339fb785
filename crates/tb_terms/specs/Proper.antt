-- Proper terms: numbers have 64 bits, and strings and names are well-formed.
use Rattle.std.specs.Prelude.{◌^◌, ℤ, pos, negsuc, Bool, ◌&&◌, nat_lt}
use Rattle.std.specs.List.{list_all}
use Rattle.tb_terms.specs.Names.{is_name, is_string}
use Rattle.tb_terms.specs.declared.term.Term.{Term}
use Rattle.tb_terms.specs.declared.term.Term.TheOpen.{Term-F, Int, Str, Appl, List as ListOf}
use Rattle.tb_terms.specs.declared.term.Term.TheFolds.{fold-Term}

abbrev pub has_64_bits : ℤ → Bool
has_64_bits (pos n) = nat_lt n (2 ^ 63)
has_64_bits (negsuc n) = nat_lt n (2 ^ 63)

abbrev pub proper_step : Term-F Bool → Bool
proper_step (Int number) = has_64_bits number
proper_step (Str bytes) = is_string bytes
proper_step (Appl name parts) = is_name name && list_all (λ part. part) parts
proper_step (ListOf parts) = list_all (λ part. part) parts

abbrev pub is_proper : Term → Bool
is_proper = fold-Term Bool proper_step
