-- The store after the settings of a `let`, and the truth value of a test.
use Rattle.std.specs.Prelude.{ℕ, Bool, List, map, Option, Some, None, option_map, option_and_then, if◌then◌else◌}
use Rattle.tb_terms.specs.declared.term.Term.{Term}
use Rattle.tb_terms.specs.declared.sort.Sort.{Sort}
use Rattle.tb_terms.specs.declared.expr.Expr.{Expr}
use Rattle.tb_terms.specs.Sorts.{has_sort, initial_value}
use Rattle.tb_func.specs.declared.slot.Slot.{Slot}
use Rattle.tb_func.specs.Arguments.{bool_of}
use Rattle.tb_func.specs.Stores.{sort_at}
use Rattle.tb_func.specs.Values.{value_of, all_of}
use Rattle.tb_match.specs.declared.bind.Bind.{Bind}
use Rattle.tb_process_steps.specs.Binds.{with_binds}
use Rattle.tb_body.specs.declared.tree.Setting.{Setting}

-- the value, if the slot exists and the value has its type
abbrev pub well_sorted : Option Sort → Option Term → Option Term
well_sorted None value = None
well_sorted (Some sort) None = None
well_sorted (Some sort) (Some value) = if has_sort value sort then Some value else None

-- the value that a setting gives its slot: the value of its expression; without one, the initial value of the slot's type
abbrev pub start_value : List Slot → ℕ → Option Expr → Option Term
start_value slots slot None = option_map initial_value (sort_at slots slot)
start_value slots slot (Some expr) = value_of slots expr

-- the bind of a setting, if the setting has a value of its slot's type
abbrev pub given_by : List Slot → Setting → Option Bind
given_by slots setting = option_map (λ value. record { slot = setting.slot; value = value }) (well_sorted (sort_at slots setting.slot) (start_value slots setting.slot setting.start))

-- The store after the settings. All expressions are evaluated in the store before the settings.
-- There is no such store if a setting has no value of its slot's type.
abbrev pub with_settings : List Slot → List Setting → Option (List Slot)
with_settings slots settings = option_map (with_binds slots) (all_of (map (given_by slots) settings))

-- the truth value of a test; nothing if the test has no value or its value is no truth value
abbrev pub tested : List Slot → Expr → Option Bool
tested slots test = option_and_then bool_of (value_of slots test)
