use Rattle.tb_lock.proofs.shared.Shared.split.Given as goal

abbrev pub ghosts-part : goal.ghosts-part
ghosts-part g a = record { rights = a.rights }
