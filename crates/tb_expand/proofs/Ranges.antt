-- The expansions of the processes of a well-formed script are in range of a body.
use Rattle.std.proofs.Common.{◌≡◌, ℕ, ◌+◌, ◌≤◌, Bool, true, false, map, length, flat_map, Contains, ap, ◌∙◌, arith, length-append}
use Rattle.std.specs.List.{list_all}
use Rattle.std.proofs.lemmas.Bool.{and_from, eq-eqb, le-leb, ltb-false, or_parts}
use Rattle.std.proofs.lemmas.List.{length-map}
use Rattle.tb_body.specs.declared.atom.Atom.{Atom}
use Rattle.tb_body.specs.Acts.{is_atom_in_body}
use Rattle.tb_body.specs.InRange.{is_body_in_range, is_in_range, is_tree_in_range}
use Rattle.tb_body.specs.Trees.{tree_levels}
use Rattle.tb_syntax.specs.declared.script.Formal.{Formal}
use Rattle.tb_syntax.specs.declared.script.ProcDef.{ProcDef}
use Rattle.tb_syntax.specs.declared.script.Script.{Script}
use Rattle.tb_types.specs.Conditions.{Proper}
use Rattle.tb_types.specs.Definitions.{formal_faults, formal_repeats, none_seen}
use Rattle.tb_types.specs.Scopes.{known_formal}
use Rattle.tb_expand.specs.Helpers.Agreeing.{Agrees}
use Rattle.tb_expand.specs.Expansion.{Part, expands, expansion_of, is_too_large, sorts_of}
use Rattle.tb_expand.specs.Scopes.{formals_seen}
use Rattle.tb_expand.specs.Helpers.Wholes.{is_whole}
use Rattle.tb_expand.proofs.AtomsOf.{IsGoodOf, atoms_of_expansion}
use Rattle.tb_expand.proofs.FaultFree.{free_definition}
use Rattle.tb_expand.proofs.AtomRanges.{atom_in_range}
use Rattle.tb_expand.proofs.NoFaults.{append_none}
use Rattle.tb_expand.proofs.Numbering.{expands_numbered}
use Rattle.tb_expand.proofs.Seeing.{formals_agree}
use Rattle.tb_expand.proofs.TreeRanges.{tree_in_range}

module _ (script : Script) (d : ProcDef) (proper : Proper script) (there : Contains script.procs d) where
  abbrev part : Part
  part = expands script (length script.procs) d.body (formals_seen 0 d.formals) 1 (length d.formals)

  abbrev slots : ℕ
  slots = length (expansion_of script d).sorts

  slots_are : slots ≡ length d.formals + length part.sorts
  slots_are =
      length-append (sorts_of d.formals) part.sorts
      ∙ ap (λ n. n + length part.sorts) (length-map d.formals (λ (formal : Formal). formal.sort))

  within : length d.formals + length part.sorts ≤ slots
  within = omega (arith, slots_are)

  formals_within : length d.formals ≤ slots
  formals_within = omega (arith, slots_are)

  agrees : Agrees script slots (formals_seen 0 d.formals) (map known_formal d.formals)
  agrees =
      let free = append_none (formal_repeats none_seen d.formals) (flat_map (formal_faults script.tools) d.formals) (free_definition script d proper there).formals in
      formals_agree script slots 0 d.formals free.1 (omega (arith, formals_within))

  -- a property of each atom without violations holds for all atoms of the process
  pub atoms_of_process : (good : Atom → Bool) → IsGoodOf script slots good → list_all good (expansion_of script d).atoms ≡ true
  atoms_of_process good is_good =
      atoms_of_expansion script slots good is_good (length script.procs) d.body (formals_seen 0 d.formals) (map known_formal d.formals) 1 (length d.formals) proper
      agrees (free_definition script d proper there).body within

  tree_of_process : is_tree_in_range slots (expansion_of script d).tree ≡ true
  tree_of_process =
      tree_in_range script slots (length script.procs) d.body (formals_seen 0 d.formals) (map known_formal d.formals) 1 (length d.formals) proper
      agrees (free_definition script d proper there).body within

  few_atoms : is_too_large (expansion_of script d) ≡ false → length part.atoms ≤ 200000
  few_atoms small =
      let few : length part.atoms ≤ 20000 = ltb-false 20000 (length part.atoms) (or_parts _ _ small).0 in
      omega arith

  few_levels : is_too_large (expansion_of script d) ≡ false → tree_levels part.tree ≤ 1000
  few_levels small = ltb-false 1000 (tree_levels part.tree) (or_parts _ _ small).1

  process_in_range : is_whole script (length script.procs) d.body ≡ true → is_too_large (expansion_of script d) ≡ false
      → is_in_range (expansion_of script d).tree (expansion_of script d).atoms slots (length d.formals) ≡ true
  process_in_range whole small =
      let numbered = expands_numbered script (length script.procs) d.body whole (formals_seen 0 d.formals) 1 (length d.formals) in
      and_from _ _
      (and_from _ _
      (and_from _ _
      (and_from _ _
      (and_from _ _
      (and_from _ _ numbered.ascends (eq-eqb _ _ numbered.counted))
      (le-leb (length part.atoms) 200000 (few_atoms small)))
      (le-leb (tree_levels part.tree) 1000 (few_levels small)))
      (le-leb (length d.formals) slots formals_within))
      tree_of_process)
      (atoms_of_process (is_atom_in_body slots) (λ scope known def. atom_in_range script slots scope known def))

pub expansions_in_range : (script : Script) (d : ProcDef) → Proper script → Contains script.procs d → is_whole script (length script.procs) d.body ≡ true → is_too_large (expansion_of script d) ≡ false
    → is_body_in_range (expansion_of script d).tree (expansion_of script d).atoms (expansion_of script d).sorts (length d.formals) ≡ true
unfolding is_body_in_range
expansions_in_range script d proper there whole small = process_in_range script d proper there whole small
