-- Claims about errors.
use Rattle.tb_read.specs.declared.fault.TermFault.{TermFault}
use Rattle.tb_read.specs.declared.fault.TermFault.TheVariants as fault
use Rattle.tb_read.specs.Helpers.Answers.{Faulted}

pub Faulted-weaker : (P Q : TermFault → Type 0) → ((f : TermFault) → P f → Q f) → (e : TermFault) → Faulted P e → Faulted Q e
Faulted-weaker P Q h fault.NoMemory p = tt
Faulted-weaker P Q h (fault.Syntax position) p = h _ p
Faulted-weaker P Q h (fault.Real position) p = h _ p
Faulted-weaker P Q h (fault.IntRange position) p = h _ p
Faulted-weaker P Q h fault.TooLarge p = h _ p
Faulted-weaker P Q h fault.TooDeep p = h _ p
