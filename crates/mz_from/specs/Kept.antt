-- Whether the instances that a `from` makes keep the limits of an expression.
use Rattle.std.specs.Prelude.{Bool, true, ◌&&◌, nat_eq, if◌then◌else◌, List, length}
use Rattle.std.specs.List.{list_all}
use Rattle.mz_logic.specs.Instance.{instance}
use Rattle.mz_logic.specs.declared.letters.Letter.{Letter}
use Rattle.mz_core.specs.Statement.{Statement}
use Rattle.mz_core.specs.Erasure.{erase}
use Rattle.mz_core.specs.declared.scheme.Scheme.{Scheme}
use Rattle.mz_core.specs.declared.scheme.SchemeLetter.{SchemeLetter}
use Rattle.mz_core.specs.declared.scheme.SchemeLetter.TheVariants.{OfFunctor, OfPredicate}
use Rattle.mz_core.specs.declared.soft_type.SoftType.{SoftType}
use Rattle.mz_sizes.specs.Sizes.{type_keeps}
use Rattle.mz_instance_sizes.specs.Sizes.{formula_keeps}
use Rattle.mz_following.specs.TypeInstance.{type_instance}
use Rattle.mz_from.specs.Verdict.{fixed_by_all}

abbrev pub statement_kept : List Letter → Statement → Bool
statement_kept ls p = formula_keeps (instance ls (erase p))

abbrev pub type_kept : List Letter → SoftType → Bool
type_kept ls ty = type_keeps (type_instance ls ty)

-- the type of a functor letter and those of its places; of a predicate letter's types no instance is made
abbrev pub letter_kept : List Letter → SchemeLetter → Bool
letter_kept ls (OfFunctor s places ty) = list_all (type_kept ls) places && type_kept ls ty
letter_kept ls (OfPredicate s places) = true

-- the conclusion, the premises, and the letters' types
abbrev pub scheme_kept : List Letter → Scheme → Bool
scheme_kept ls scheme = statement_kept ls scheme.conclusion && (list_all (statement_kept ls) scheme.premises && list_all (letter_kept ls) scheme.letters)

-- at a `from` with what is cited; where that are not as many as the scheme has premises, no instance is made
abbrev pub from_keeps : Scheme → List Statement → Statement → Bool
from_keeps scheme cited s = if nat_eq (length cited) (length scheme.premises) then scheme_kept (fixed_by_all scheme cited s) scheme else true
