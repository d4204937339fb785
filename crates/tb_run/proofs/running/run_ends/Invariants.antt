use Rattle.tb_run.specs.Moving.{works_of}
use Rattle.tb_run.specs.Parting.{parted}
use Rattle.tb_run.specs.Parts.{job_rights}
use Rattle.tb_run.specs.Helpers.Desks.{all_begun}
use Rattle.tb_run.proofs.running.run_ends.Given as goal

abbrev pub ghosts-run_post : goal.ghosts-run_post
ghosts-run_post g a = record {
  bus = a.post.shared;
  starts = all_begun g.O.Outlet.told g.O.Outlet.faults (parted a.seat job_rights) (works_of 1 a.lanes.now.inlets.items a.lanes.now.outlets.items);
}
