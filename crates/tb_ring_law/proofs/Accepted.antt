-- The ring's script is accepted.
use Rattle.std.proofs.Common.{◌≡◌, ℕ, zero, suc, ◌+◌, ◌-◌, ◌*◌, ◌≤◌, List, [], length, map, refl, sym, subst, arith, true}
use Rattle.tb_body.specs.declared.program.Program.{Program}
use Rattle.tb_body.specs.Programs.{is_program_in_range}
use Rattle.tb_lex.specs.Tokens.{Lexes}
use Rattle.tb_lex.specs.declared.token.Token.{Token}
use Rattle.tb_lex.specs.declared.kind.TokenKind.{TokenKind}
use Rattle.tb_lex.proofs.Runs.{lexes_one, no_fault}
use Rattle.tb_syntax.specs.Spelling.{kinds_of, Spells}
use Rattle.tb_syntax.specs.declared.script.Script.{Script}
use Rattle.tb_parse.specs.Faults.{IsScriptOf, HasFault as HasParseFault}
use Rattle.tb_parse.proofs.Outcomes.{script_has_none}
use Rattle.tb_parse.proofs.ReadScripts.{unique}
use Rattle.tb_gen.specs.Ring.{ring_text}
use Rattle.tb_script.specs.Programs.{HasTokens, IsProgramOf}
use Rattle.tb_script.specs.Findings.{IsFound, Program'}
use Rattle.tb_script.specs.Helpers.Making.{HasOnlyTokens, IsOnlyScript}
use Rattle.tb_script.proofs.ProgramRanges.{program_in_range}
use Rattle.tb_script.proofs.Findings.{program_found}
use Rattle.tb_ring_law.specs.Helpers.Pieces.{links, ring_kinds}
use Rattle.tb_ring_law.specs.Helpers.Trees.{link_call, ring_script}
use Rattle.tb_ring_law.specs.Helpers.Bodies.{ring_roots}
use Rattle.tb_ring_law.proofs.Programs.{ring_bodies}
use Rattle.tb_ring_law.proofs.Texts.{lex-ring}
use Rattle.tb_ring_law.proofs.Limits.{ring-parsed, few-tokens}
use Rattle.tb_ring_law.proofs.Checked.{ring-proper}
use Rattle.tb_ring_law.proofs.Expanded.{no-cycle, all-small, bodies-are, roots-are}

calls-many : (i count : ℕ) → length (map link_call (links i count)) ≡ count + 1
calls-many i zero = refl
calls-many i (suc count) = let behind = calls-many (i + 1) count in omega (arith, behind)

few-roots : (n messages : ℕ) → 2 ≤ n → n ≤ 10000 → length (ring_script n messages).roots ≤ 10000
few-roots n messages least most = let many = calls-many 2 (n - 2) in omega (arith, many, least, most)

pub in-range : (n messages : ℕ) → 2 ≤ n → n ≤ 10000 → is_program_in_range (ring_bodies messages) (ring_roots n) [] ≡ true
in-range n messages least most =
    program_in_range (ring_script n messages) (ring_bodies messages) (ring_roots n) [] (ring-proper n messages) (bodies-are n messages) (roots-are n messages) refl (few-roots n messages least most)

-- the program of n processes that send so many messages
abbrev pub ring_program : (n messages : ℕ) → 2 ≤ n → n ≤ 10000 → Program
ring_program n messages least most = record { bodies = ring_bodies messages; roots = ring_roots n; tools = []; in_range = in-range n messages least most }

module _ (n k : ℕ) (least : 2 ≤ n) (most : n ≤ 10000) (few : n * k ≤ 1000000) where
  abbrev text : List ℕ
  text = ring_text n k

  abbrev script : Script
  script = ring_script n (n * k)

  lexed : (tokens : List Token) × Lexes text tokens × (kinds_of tokens ≡ ring_kinds n (n * k))
  lexed = lex-ring n k least most few

  kinds : kinds_of lexed.0 ≡ ring_kinds n (n * k)
  kinds = lexed.2

  has-tokens : HasTokens text lexed.0
  has-tokens = record { lexes = lexed.1; few = few-tokens n (n * k) lexed.0 least most kinds }

  is-script : IsScriptOf (kinds_of lexed.0) script
  is-script = subst (λ (ks : List TokenKind). IsScriptOf ks script) (sym kinds) (ring-parsed n (n * k))

  only-tokens : HasOnlyTokens text lexed.0
  only-tokens = record {
    has_tokens = has-tokens;
    one = λ others h. lexes_one text others lexed.0 h.lexes has-tokens.lexes;
    sound = λ f h. h.not_memory (no_fault text lexed.0 f has-tokens.lexes has-tokens.few h.fault_is);
  }

  only-script : IsOnlyScript text script
  only-script = record {
    is_text = record { tokens = lexed.0; has_tokens = has-tokens; is_script = is-script };
    one = λ other h.
        let same = lexes_one text h.tokens lexed.0 h.has_tokens.lexes has-tokens.lexes in
        unique (kinds_of lexed.0) other script (subst (λ (ts : List Token). Spells other (kinds_of ts)) same h.is_script.spells) is-script.spells;
    has_tokens = only-tokens.sound;
    has_script = λ f h.
        let same = lexes_one text h.tokens lexed.0 h.has_tokens.lexes has-tokens.lexes in
        h.not_memory (script_has_none (kinds_of lexed.0) script f is-script (subst (λ (ts : List Token). HasParseFault (kinds_of ts) f) same h.fault_is));
  }

  is-program : IsProgramOf script (ring_program n (n * k) least most)
  is-program = record { bodies = bodies-are n (n * k); roots = roots-are n (n * k); tools = refl }

  -- The ring's script has this program, and nothing else is found of it.
  pub ring-found : IsFound text (Program' (ring_program n (n * k) least most))
  ring-found = program_found text script only-script (ring-proper n (n * k)) (no-cycle n (n * k)) (all-small n (n * k)) (few-roots n (n * k) least most) (ring_program n (n * k) least most) is-program
