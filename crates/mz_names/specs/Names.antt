-- What identifiers, and the words that stand for something at a place, are read to.
use Rattle.std.specs.Prelude.{ℕ, zero, suc, Bool, true, false, ◌&&◌, not, nat_le, bytes_eq, if◌then◌else◌, List, [], ◌∷◌, length, reverse, Option, Some, None, Result, Ok, Err, find, slice_get}
use Rattle.mz_base.specs.declared.place.Place.{Place}
use Rattle.mz_logic.specs.declared.sym.Sym.{Sym}
use Rattle.mz_logic.specs.Term.{Term, Const}
use Rattle.mz_core.specs.Statement.{Statement}
use Rattle.mz_core.specs.declared.soft_type.SoftType.{SoftType}
use Rattle.mz_core.specs.declared.scheme.SchemeLetter.{SchemeLetter}
use Rattle.mz_core.specs.declared.scheme.SchemeLetter.TheVariants.{OfFunctor, OfPredicate}
use Rattle.mz_context.specs.Context.{numbered}
use Rattle.mz_context.specs.declared.constants.Constant.{Constant}
use Rattle.mz_context.specs.declared.context.Context.{Context}
use Rattle.mz_context.specs.declared.labelled.LabelledStatement.{LabelledStatement}
use Rattle.mz_context.specs.declared.letters.NamedLetter.{NamedLetter}
use Rattle.mz_context.specs.declared.private.PrivateFunctor.{PrivateFunctor}
use Rattle.mz_context.specs.declared.private.PrivatePredicate.{PrivatePredicate}
use Rattle.mz_context.specs.declared.reserved.ReservedVariable.{ReservedVariable}
use Rattle.mz_names.specs.Scope.{type_from}
use Rattle.mz_names.specs.declared.refusal.Refusal.{Refusal}
use Rattle.mz_names.specs.declared.refusal.Refusal.TheVariants.{UnknownVariable}

-- a constant is in force and has the name
abbrev pub has_name : List ℕ → Option Constant → Bool
has_name name None = false
has_name name (Some k) = bytes_eq k.name name

-- the greatest number up to n whose constant is in force and has the name
abbrev pub latest_up_to : List ℕ → List (Option Constant) → ℕ → Option ℕ
latest_up_to name ks zero = None
latest_up_to name ks (suc n) = if has_name name (numbered ks (suc n)) then Some (suc n) else latest_up_to name ks n

-- the number of the latest constant with the name. While a body is read, its bound variables are constants, later than
-- all others and an inner one later than an outer one: so the innermost bound variable comes first.
abbrev pub number_of : List ℕ → List (Option Constant) → Option ℕ
number_of name ks = latest_up_to name ks (length ks)

-- the constant with the number, where it may be used
abbrev pub if_usable : ℕ → Option ℕ → Option Term
if_usable least None = None
if_usable least (Some n) = if nat_le least n then Some (Const n) else None

-- what an identifier that stands as a variable is read to
abbrev pub variable : ℕ → Context → List ℕ → Option Term
variable least c name = if_usable least (number_of name c.constants)

-- the latest reserved variable with the name
abbrev pub is_reserved_as : List ℕ → ReservedVariable → Bool
is_reserved_as name v = bytes_eq v.name name

abbrev pub reserved_as : List ℕ → List ReservedVariable → Option ReservedVariable
reserved_as name vs = find (is_reserved_as name) (reverse vs)

-- the type of a reserved variable, where its constants may be used
abbrev pub usable_type : ℕ → Option ReservedVariable → Option SoftType
usable_type least None = None
usable_type least (Some v) = if type_from least v.ty then Some v.ty else None

-- the type that a variable has which is declared without one: that with which it was reserved
abbrev pub reserved_type : ℕ → Context → List ℕ → Option SoftType
reserved_type least c name = usable_type least (reserved_as name c.reserved)

abbrev pub is_some : {X : Type 0} → Option X → Bool
is_some None = false
is_some (Some x) = true

abbrev pub is_none : {X : Type 0} → Option X → Bool
is_none None = true
is_none (Some x) = false

-- the identifier stands for no constant and is reserved
abbrev pub is_only_reserved : ℕ → Context → List ℕ → Bool
is_only_reserved least c name = is_none (number_of name c.constants) && is_some (reserved_type least c name)

-- what `$1` and so on stand for, where it is known
abbrev pub argument : Context → ℕ → Option Term
argument c zero = None
argument c (suc k) = slice_get c.arguments k

-- the latest private functor, private predicate and letter with the name
abbrev pub is_functor_as : List ℕ → PrivateFunctor → Bool
is_functor_as name f = bytes_eq f.name name

abbrev pub private_functor : Context → List ℕ → Option PrivateFunctor
private_functor c name = find (is_functor_as name) (reverse c.functors)

abbrev pub is_predicate_as : List ℕ → PrivatePredicate → Bool
is_predicate_as name p = bytes_eq p.name name

abbrev pub private_predicate : Context → List ℕ → Option PrivatePredicate
private_predicate c name = find (is_predicate_as name) (reverse c.predicates)

abbrev pub is_of_functor : SchemeLetter → Bool
is_of_functor (OfFunctor s tys ty) = true
is_of_functor (OfPredicate s tys) = false

abbrev pub is_functor_letter_as : List ℕ → NamedLetter → Bool
is_functor_letter_as name l = is_of_functor l.letter && bytes_eq l.name name

abbrev pub is_predicate_letter_as : List ℕ → NamedLetter → Bool
is_predicate_letter_as name l = not (is_of_functor l.letter) && bytes_eq l.name name

abbrev pub functor_letter : Context → List ℕ → Option NamedLetter
functor_letter c name = find (is_functor_letter_as name) (reverse c.letters)

abbrev pub predicate_letter : Context → List ℕ → Option NamedLetter
predicate_letter c name = find (is_predicate_letter_as name) (reverse c.letters)

-- a letter's symbol, and the types of its places
abbrev pub letter_sym : SchemeLetter → Sym
letter_sym (OfFunctor s tys ty) = s
letter_sym (OfPredicate s tys) = s

abbrev pub letter_places : SchemeLetter → List SoftType
letter_places (OfFunctor s tys ty) = tys
letter_places (OfPredicate s tys) = tys

-- the latest statement with the label
abbrev pub has_label : List ℕ → LabelledStatement → Bool
has_label label s = bytes_eq s.label label

abbrev pub labelled_as : Context → List ℕ → Option LabelledStatement
labelled_as c label = find (has_label label) (reverse c.labelled)

-- what is known, or the refusal at the place
abbrev pub known_or : {X : Type 0} → Place → Option X → Result X Refusal
known_or place None = Err (UnknownVariable place)
known_or place (Some x) = Ok x
