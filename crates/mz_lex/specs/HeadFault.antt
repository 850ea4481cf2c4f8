-- The refusals of environment parts that are refusals of the cut.
use Rattle.mz_lex.specs.declared.lex_fault.LexFault.{LexFault}
use Rattle.mz_lex.specs.declared.lex_fault.LexFault.TheVariants as lex
use Rattle.mz_lex.specs.declared.head_fault.HeadFault.{HeadFault}
use Rattle.mz_lex.specs.declared.head_fault.HeadFault.TheVariants as heads

abbrev pub head_fault_of : LexFault → HeadFault
head_fault_of (lex.BadByte p) = heads.BadByte p
head_fault_of (lex.TooManyTokens p) = heads.TooManyTokens p
head_fault_of (lex.Pragma p) = heads.Pragma p
head_fault_of (lex.Memory a) = heads.Memory a
