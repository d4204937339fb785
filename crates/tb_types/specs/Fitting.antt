-- Which types go together, and what the names `true` and `false` and the results of functions go with.
use Rattle.std.specs.Prelude.{ℕ, Bool, true, false, ◌||◌, List, Option, Some, None, codes}
use Rattle.std.specs.Str.{bytes_eq}
use Rattle.tb_terms.specs.Same.{is_same}
use Rattle.tb_terms.specs.contracts.sort.Sort as sorts
use Rattle.tb_terms.specs.declared.sort.Sort.{Sort, out-Sort}
use Rattle.tb_terms.specs.declared.sort.Sort.TheOpen as sort
use Rattle.tb_terms.specs.declared.sort.Sort.TheFolds.{fold-Sort}
use Rattle.tb_terms.specs.declared.expr.Func.{Func}
use Rattle.tb_func.specs.Fitting.{sort_of}
use Rattle.tb_func.specs.Functions.{signature_of}

abbrev pub is_any : sort.Sort-F Sort → Bool
is_any sort.Any = true
is_any _ = false

abbrev pub is_bool : sort.Sort-F Sort → Bool
is_bool sort.Bool = true
is_bool _ = false

abbrev pub is_int : sort.Sort-F Sort → Bool
is_int sort.Int = true
is_int _ = false

abbrev pub is_str : sort.Sort-F Sort → Bool
is_str sort.Str = true
is_str _ = false

abbrev pub is_any_tool : sort.Sort-F Sort → Bool
is_any_tool (sort.Tool name) = true
is_any_tool _ = false

-- the type of this tool
abbrev pub is_tool_sort : List ℕ → sort.Sort-F Sort → Bool
is_tool_sort tool (sort.Tool name) = bytes_eq name tool
is_tool_sort tool _ = false

-- a list type whose member type passes
abbrev pub is_list_of : (Sort → Bool) → sort.Sort-F Sort → Bool
is_list_of passes (sort.List members) = passes members
is_list_of passes _ = false

-- two types go together if and only if they are equal, one is `term`, or both are list types whose member types go together
abbrev pub goes_step : sort.Sort-F (Sort → Bool) → Sort → Bool
goes_step sort.Bool other = is_any (out-Sort other) || is_bool (out-Sort other)
goes_step sort.Int other = is_any (out-Sort other) || is_int (out-Sort other)
goes_step sort.Str other = is_any (out-Sort other) || is_str (out-Sort other)
goes_step (sort.List member_goes_with) other = is_any (out-Sort other) || is_list_of member_goes_with (out-Sort other)
goes_step sort.Any other = true
goes_step (sort.Tool name) other = is_any (out-Sort other) || is_tool_sort name (out-Sort other)

abbrev pub goes_with : Sort → Sort → Bool
goes_with = fold-Sort (Sort → Bool) goes_step

abbrev pub is_same_sort : Sort → Sort → Bool
is_same_sort = is_same sorts.the_row.coded

-- a name that is a value of `bool`
abbrev pub is_truth_word : List ℕ → Bool
is_truth_word name = bytes_eq name (codes "true") || bytes_eq name (codes "false")

abbrev pub result_goes_with : Option Func → Sort → Bool
result_goes_with None s = false
result_goes_with (Some func) s = goes_with (sort_of (signature_of func).result) s
