use Rattle.std.proofs.Common.{◌≡◌, drop, bytes_eq}
use Rattle.std.specs.List.{find}
use Rattle.tb_syntax.specs.AtomWords.{atom_text}
use Rattle.tb_syntax.proofs.atom_words.find_atom.Given as goal

-- the result depends only on the remaining words
abbrev pub invariant-loop-word : goal.invariant-loop-word
invariant-loop-word l = find (λ word. bytes_eq l.name (atom_text word)) (drop l.word-index l.words) ≡ find (λ word. bytes_eq l.name (atom_text word)) l.words
