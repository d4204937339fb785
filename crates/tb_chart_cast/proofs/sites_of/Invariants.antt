use Rattle.std.proofs.Common.{◌≡◌, ◌++◌, drop}
use Rattle.tb_chart_cast.specs.Casts.{beside, site_of}
use Rattle.tb_chart_cast.proofs.sites_of.Given as goal

-- the sites so far, followed by the sites of the remaining marks, are all sites
abbrev pub invariant-loop-index : goal.invariant-loop-index
invariant-loop-index l = l.sites.items ++ beside site_of l.atoms l.index (drop l.index l.marks) ≡ beside site_of l.atoms 0 l.marks
