-- The processes from a number on: the first one, and those after it.
use Rattle.std.proofs.Common.{◌≡◌, ◌≤◌, ◌<◌, ◌+◌, ◌-◌, ◌++◌, ℕ, zero, suc, List, [], ap, ◌∙◌, sym, arith}
use Rattle.std.proofs.lemmas.List.{append_assoc, append-nil}
use Rattle.tb_gen.specs.Ring.{node, later, nodes_text}

nodes-at : (process n : ℕ) → process < n → nodes_text process (n - process) ≡ later (node process (process + 1)) ++ nodes_text (process + 1) (n - (process + 1))
nodes-at process n within = let size : n - process ≡ suc (n - (process + 1)) = omega (arith, within) in ap (nodes_text process) size

-- One process is added, and those after it remain.
pub put-one : (before after : List ℕ) (process n : ℕ) (whole : List ℕ) → process < n → after ≡ before ++ later (node process (process + 1)) → before ++ nodes_text process (n - process) ≡ whole → after ++ nodes_text (process + 1) (n - (process + 1)) ≡ whole
put-one before after process n whole within put all =
    let rest = nodes_text (process + 1) (n - (process + 1)) in
    ap (λ (text : List ℕ). text ++ rest) put
    ∙ append_assoc before (later (node process (process + 1))) rest
    ∙ ap (λ (text : List ℕ). before ++ text) (sym (nodes-at process n within))
    ∙ all

-- None remains.
pub put-all : (text : List ℕ) (process n : ℕ) (whole : List ℕ) → n ≤ process → text ++ nodes_text process (n - process) ≡ whole → text ≡ whole
put-all text process n whole past all =
    let none : n - process ≡ zero = omega (arith, past) in
    sym (append-nil text) ∙ ap (λ (count : ℕ). text ++ nodes_text process count) (sym none) ∙ all

-- Four pieces are added, one after another.
pub put-four : (old a b c d t u v w : List ℕ) → t ≡ old ++ a → u ≡ t ++ b → v ≡ u ++ c → w ≡ v ++ d → w ≡ old ++ (a ++ b ++ c ++ d)
put-four old a b c d t u v w first second third fourth =
    fourth
    ∙ ap (λ (x : List ℕ). x ++ d) (third ∙ ap (λ (x : List ℕ). x ++ c) (second ∙ ap (λ (x : List ℕ). x ++ b) first))
    ∙ ap (λ (x : List ℕ). x ++ c ++ d) (append_assoc old a b)
    ∙ ap (λ (x : List ℕ). x ++ d) (append_assoc old (a ++ b) c)
    ∙ append_assoc old (a ++ b ++ c) d
