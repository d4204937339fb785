-- The span of a position that has no list yet.
use Rattle.tb_code.specs.declared.entry.Span.{Span}
use Rattle.tb_code.specs.declared.node.Node.{Node}

abbrev pub blank : Node → Span
blank node = record { first = 0; count = 0 }
