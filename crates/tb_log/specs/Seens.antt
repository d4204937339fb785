-- The values that a log lends: terms, labels and entries.
use Rattle.std.specs.Prelude.{ℤ, List, map}
use Rattle.tb_terms.specs.declared.term.Term.{Term}
use Rattle.tb_terms.specs.declared.term.Term.TheVariants.{Int}
use Rattle.tb_log.specs.declared.entry.Label.{Label}
use Rattle.tb_log.specs.declared.entry.Entry.{Entry}
use Rattle.tb_log.specs.declared.entry.Entry.TheVariants.{Did, Quiet, Fed, Gave}
use Rattle.tb_log.specs.declared.seen.SeenTerms.{SeenTerms}
use Rattle.tb_log.specs.declared.seen.SeenTerms.TheVariants.{Terms, Numbers}
use Rattle.tb_log.specs.declared.seen.SeenLabel.{SeenLabel}
use Rattle.tb_log.specs.declared.seen.Seen.{Seen}
use Rattle.tb_log.specs.declared.seen.Seen.TheVariants as seen

-- numbers as terms
abbrev pub number_terms : List ℤ → List Term
number_terms numbers = map Int numbers

-- the terms that are lent
abbrev pub terms_seen : SeenTerms → List Term
terms_seen (Terms terms) = terms.now
terms_seen (Numbers numbers) = number_terms numbers.now

-- the label that is lent, with its terms
abbrev pub label_seen : SeenLabel → Label
label_seen label = record { kind = label.kind; from = label.from; to = label.to; terms = terms_seen label.terms }

-- the entry that is lent
abbrev pub entry_seen : Seen → Entry
entry_seen (seen.Did label) = Did (label_seen label)
entry_seen seen.Quiet = Quiet
entry_seen (seen.Fed input reply) = Fed input.now reply
entry_seen (seen.Gave lane out) = Gave lane out.now
