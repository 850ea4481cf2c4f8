-- Types with letters replaced.
use Rattle.std.specs.Prelude.{Bool, ◌&&◌, not, List, map}
use Rattle.std.specs.List.{list_all}
use Rattle.mz_logic.specs.Letters.{is_predicate_letter}
use Rattle.mz_logic.specs.Instance.{term_instance}
use Rattle.mz_logic.specs.declared.letters.Letter.{Letter}
use Rattle.mz_core.specs.declared.adjective.Adjective.{Adjective}
use Rattle.mz_core.specs.declared.radix.Radix.{Radix}
use Rattle.mz_core.specs.declared.soft_type.SoftType.{SoftType}

abbrev pub adjective_instance : List Letter → Adjective → Adjective
adjective_instance ls a = record { positive = a.positive; sym = a.sym; args = map (term_instance ls) a.args }

abbrev pub radix_instance : List Letter → Radix → Radix
radix_instance ls r = record { sym = r.sym; args = map (term_instance ls) r.args }

abbrev pub type_instance : List Letter → SoftType → SoftType
type_instance ls ty = record { adjectives = map (adjective_instance ls) ty.adjectives; radix = radix_instance ls ty.radix }

-- no symbol of the type is a predicate letter; so it is with each type that is read
abbrev pub is_letterless_adjective : Adjective → Bool
is_letterless_adjective a = not (is_predicate_letter a.sym)

abbrev pub is_letterless : SoftType → Bool
is_letterless ty = not (is_predicate_letter ty.radix.sym) && list_all is_letterless_adjective ty.adjectives
