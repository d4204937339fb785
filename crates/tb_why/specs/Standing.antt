-- The living processes of a bus with their offers, and of each offer its age, whether its times hold, its values, and its patterns.
use Rattle.std.specs.Prelude.{ℕ, List, map}
use Rattle.tb_body.specs.declared.atom.Atom.{Atom}
use Rattle.tb_body.specs.declared.body.Body.{Body}
use Rattle.tb_process_steps.specs.Atoms.{is_ready, times_of}
use Rattle.tb_process_steps.specs.Offers.{Offered, offers}
use Rattle.tb_process_steps.specs.Walks.{patterns_by, sent_by}
use Rattle.tb_bus.specs.Buses.{Bus, Proc, atoms_of}
use Rattle.tb_why.specs.declared.standing.Offering.{Offering}
use Rattle.tb_why.specs.declared.standing.Standing.{Standing}

-- an offer on a bus that has seen `now` ticks
abbrev pub offering_of : List Atom → ℕ → Offered → Offering
offering_of atoms now offered = record {
  atom = offered.atom;
  age = offered.age;
  ready = is_ready offered.store offered.age now (times_of atoms offered.atom);
  sent = sent_by atoms offered;
  patterns = patterns_by atoms offered;
}

-- a process of such a bus with its offers, in text order
abbrev pub standing_of : List Body → ℕ → Proc → Standing
standing_of bodies now proc = record {
  number = proc.number;
  body = proc.body;
  offers = map (offering_of (atoms_of bodies proc.body) now) (offers proc.term proc.store);
}

-- All living processes of a bus with their offers, in the order of the bus.
abbrev pub standings : Bus → List Standing
standings bus = map (standing_of bus.program.bodies bus.now) bus.procs
