-- A running process at an index of a sound bus, its plan, and the process that it represents.
use Rattle.std.proofs.Common.{◌≡◌, ℕ, ◌<◌, length, ap, ◌∙◌, Some, slice_get, get_or}
use Rattle.tb_process_steps.specs.WalkerViews.{View}
use Rattle.tb_search.specs.Candidates.{row_at, row_of, rows_of, no_row}
use Rattle.tb_search.specs.Views.{proc_at, no_proc}
use Rattle.tb_search.specs.declared.living.Living.{Living}
use Rattle.tb_living.specs.Lives.{IsLive, IsLiveOn, proc_of, proc_by, proc_in}
use Rattle.tb_core.specs.Helpers.LiveBuses.{IsSound, procs_in}
use Rattle.tb_core.specs.declared.bus.LiveBus.{LiveBus}
use Rattle.tb_living.proofs.ReadLemmas.{all-there, map-there, read-there}

-- one of the living at an index
pub record LiveAt {W P T : Type 0} (view : View P W T) (bus : LiveBus W P T) (at : ℕ) (living : Living W) : Type 0 where
  pub here : slice_get bus.living.items at ≡ Some living
  pub plan : P
  pub planned : slice_get bus.plans living.body ≡ Some plan
  pub live : IsLiveOn view plan bus.ticks living
  pub proc : proc_at (procs_in view bus) at ≡ proc_of living (view.walking plan living.walker)
  pub row : row_at (rows_of bus.living.items) at ≡ row_of living

live-by : {W P T : Type 0} (view : View P W T) (bus : LiveBus W P T) (at : ℕ) (living : Living W) → slice_get bus.living.items at ≡ Some living → IsLive view bus.plans bus.ticks living → LiveAt view bus at living
live-by view bus at living here live = record {
  here = here;
  plan = live.0;
  planned = live.1;
  live = live.2;
  proc = map-there (proc_in view bus.plans) bus.living.items at living no_proc here ∙ ap (λ plan. proc_by view plan living) live.1;
  row = map-there row_of bus.living.items at living no_row here;
}

pub live-there : {W P T : Type 0} (view : View P W T) (bus : LiveBus W P T) (at : ℕ) (living : Living W) → IsSound view bus → slice_get bus.living.items at ≡ Some living → LiveAt view bus at living
live-there view bus at living sound here = live-by view bus at living here (all-there (IsLive view bus.plans bus.ticks) bus.living.items at living sound.live here)

pub live-at : {W P T : Type 0} (view : View P W T) (bus : LiveBus W P T) (at : ℕ) (living : Living W) → IsSound view bus → at < length bus.living.items → living ≡ get_or bus.living.items at living → LiveAt view bus at living
live-at view bus at living sound within is = live-there view bus at living sound (read-there bus.living.items at living within is)
