use Rattle.tb_edge.specs.Faults.{Rose}
use Rattle.tb_pair.proofs.TimeLemmas.{rose_of, times}
use Rattle.tb_pair.proofs.laws.ticks_meet.Goals as goal

pub returns : goal.returns
returns c = λ most told_old told_new faults_old faults_new bus others_bus begun done last others_begun others_done others_last it others t can part others_can others_part.
    times most told_old told_new faults_old faults_new (Rose faults_old faults_new) bus others_bus begun done last others_begun others_done others_last it others t (rose_of t.wanted most t.given t.ended faults_old faults_new it others t.why) can part others_can others_part
