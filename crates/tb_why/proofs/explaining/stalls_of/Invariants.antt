use Rattle.std.proofs.Common.{◌≡◌, map, take}
use Rattle.tb_why.specs.Reasons.{stall_of}
use Rattle.tb_why.specs.Helpers.Scenes.{scene_seen}
use Rattle.tb_why.proofs.explaining.stalls_of.Given as goal

-- the lines of the offers so far
abbrev pub invariant-loop-offer : goal.invariant-loop-offer
invariant-loop-offer g l = l.stalls ≡ map (stall_of l.sight.down (scene_seen l.sight) l.living.number l.living.body l.living.inbox.held) (take l.offer-index l.offers)
