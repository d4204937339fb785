-- The bytes of a token, by its position among the tokens.
use Rattle.std.specs.Prelude.{ℕ, ◌-◌, List, length, slice_get, Option, Some, None}
use Rattle.tb_lex.specs.declared.token.Token.{Token}
use Rattle.tb_source_map.specs.declared.mark.Mark.{Mark}

-- the empty place where the last token ends, or the start of the text if there are no tokens
abbrev pub end_behind : Option Token → Mark
end_behind None = record { from = 0; to = 0 }
end_behind (Some last) = record { from = last.to; to = last.to }

-- the empty place after all tokens
abbrev pub end_of : List Token → Mark
end_of tokens = end_behind (slice_get tokens (length tokens - 1))

-- the bytes of the token; if there is no token, the place after all tokens
abbrev pub mark_of_token : Mark → Option Token → Mark
mark_of_token end None = end
mark_of_token end (Some token) = record { from = token.from; to = token.to }

-- the bytes of the token at this position
abbrev pub mark_at : List Token → ℕ → Mark
mark_at tokens token = mark_of_token (end_of tokens) (slice_get tokens token)
