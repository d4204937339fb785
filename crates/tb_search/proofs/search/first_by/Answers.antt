use Rattle.tb_search.proofs.search.first_by.Goals as goal

pub first_partner-requires-clause-index : goal.first_partner-requires-clause-index
first_partner-requires-clause-index g c = record { each = c.requires.index.each }
