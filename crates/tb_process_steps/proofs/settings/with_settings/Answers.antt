use Rattle.std.proofs.Common.{◌≡◌, Option, Some, List, map, sym, ◌∙◌}
use Rattle.tb_func.specs.Values.{all_of}
use Rattle.tb_match.specs.declared.bind.Bind.{Bind}
use Rattle.tb_process_steps.specs.Settings.{given_by}
use Rattle.tb_process_steps.proofs.BindLemmas.{all_given_taken}
use Rattle.tb_process_steps.proofs.settings.with_settings.Goals as goal

pub set_binds-requires : goal.set_binds-requires
set_binds-requires c =
    let same : c.in_ok-after-in-Some.after ≡ c.args.store.now = c.in_ok-after-in-Some.ensures in
    let found : c.in_ok-binds.field-0 ≡ all_of (map (given_by c.args.store.now) c.args.settings.now) = c.in_ok-binds.ensures in
    let given : ◌≡◌ {A = Option (List Bind)} (all_of (map (given_by c.args.store.now) c.args.settings.now)) (Some c.in-Some.binds) = sym found ∙ c.in-Some.is in
    rw same (all_given_taken c.args.store.now c.args.settings.now c.in-Some.binds given)
