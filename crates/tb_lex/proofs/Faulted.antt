-- Claims about errors.
use Rattle.tb_lex.specs.declared.fault.LexFault.{LexFault}
use Rattle.tb_lex.specs.declared.fault.LexFault.TheVariants as fault
use Rattle.tb_lex.specs.Helpers.Answers.{Faulted}

pub Faulted-weaker : (P Q : LexFault → Type 0) → ((f : LexFault) → P f → Q f) → (e : LexFault) → Faulted P e → Faulted Q e
Faulted-weaker P Q h fault.NoMemory p = tt
Faulted-weaker P Q h (fault.BadByte position) p = h _ p
Faulted-weaker P Q h (fault.OpenString position) p = h _ p
Faulted-weaker P Q h (fault.Real position) p = h _ p
Faulted-weaker P Q h (fault.IntRange position) p = h _ p
Faulted-weaker P Q h fault.TooMany p = h _ p
