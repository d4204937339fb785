-- What contracts see of a log.
use Rattle.std.specs.Prelude.{ℕ, List, refl}
use Rattle.std.specs.Coded.{Coded, code_by, coded×, coded_ℕ, coded_list}
use Rattle.tb_log.specs.declared.entry.Entry.{Entry}
use Rattle.tb_log.specs.contracts.entry.Entry as entry

pub record LogState : Type 0 where
  -- the greatest number of entries
  pub limit : ℕ
  -- the entries, in order
  pub entries : List Entry
  -- the number of further entries for which there is memory, apart from the terms of steps
  pub spare : ℕ
  -- the size of the step for which memory is reserved, or 0
  pub reserved : ℕ

abbrev pub log_code : Coded LogState
log_code =
    code_by (ℕ × (List Entry × (ℕ × ℕ))) (coded× coded_ℕ (coded× (coded_list entry.the_row.coded) (coded× coded_ℕ coded_ℕ)))
    (λ l. (l.limit, (l.entries, (l.spare, l.reserved)))) (λ t. record { limit = t.0; entries = t.1.0; spare = t.1.1.0; reserved = t.1.1.1 }) (λ _. refl)
