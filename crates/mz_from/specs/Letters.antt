-- Whether what the letters of a scheme are fixed to fits their types.
use Rattle.std.specs.Prelude.{◌≡◌, Bool, true, false, List, [], ◌∷◌, Option, Some, None, reverse}
use Rattle.std.specs.List.{filter, list_all}
use Rattle.mz_logic.specs.declared.sym.Sym.{Sym}
use Rattle.mz_logic.specs.Term.{Term, Const, App, terms_of}
use Rattle.mz_logic.specs.Letters.{term_for}
use Rattle.mz_logic.specs.Instance.{term_instance}
use Rattle.mz_logic.specs.declared.letters.Letter.{Letter}
use Rattle.mz_core.specs.declared.soft_type.SoftType.{SoftType}
use Rattle.mz_core.specs.declared.scheme.SchemeLetter.{SchemeLetter}
use Rattle.mz_core.specs.declared.scheme.SchemeLetter.TheVariants.{OfFunctor, OfPredicate}
use Rattle.mz_context.specs.Context.{numbers}
use Rattle.mz_context.specs.declared.constants.Constant.{Constant}
use Rattle.mz_ground.specs.declared.clause.Clause.{Clause}
use Rattle.mz_fits.specs.Fits.{TypeFits, type_at}
use Rattle.mz_thesis.specs.Rows.{with_fresh}
use Rattle.mz_following.specs.TypeInstance.{type_instance, is_letterless}

-- a type under the places of a letter, with the letters replaced, at constants for the places before it, the innermost first
abbrev pub type_there : List Letter → List Term → SoftType → SoftType
type_there ls before ty = type_at before (type_instance ls ty)

-- the letter's term fits its type for fresh arguments of the types of its places; `before` are those for the places that are done
abbrev pub FitsOver : List Clause → List Letter → Sym → SoftType → List (Option Constant) → List Term → List SoftType → Type 0
FitsOver cs ls s ty ks before [] = TypeFits cs ks (term_instance ls (App s (terms_of (reverse before)))) (type_there ls before ty)
FitsOver cs ls s ty ks before (place ∷ places) = FitsOver cs ls s ty (with_fresh ks (type_there ls before place)) (Const (numbers ks) ∷ before) places

abbrev pub IsFixed : Option Term → Type 0
IsFixed None = ⊥
IsFixed (Some t) = Unit {0}

-- a functor letter is fixed, and its term fits its type; nothing is asked of a predicate letter. That a type has a predicate letter for a
-- symbol, which no type that is read has, counts as not fitting
abbrev pub LetterFits : List Clause → List (Option Constant) → List Letter → SchemeLetter → Type 0
LetterFits cs ks ls (OfFunctor s places ty) = IsFixed (term_for s ls) × (list_all is_letterless (ty ∷ places) ≡ true) × FitsOver cs ls s ty ks [] places
LetterFits cs ks ls (OfPredicate s places) = Unit {0}

-- each of the letters fits
abbrev pub LettersFit : List Clause → List (Option Constant) → List Letter → List SchemeLetter → Type 0
LettersFit cs ks ls [] = Unit {0}
LettersFit cs ks ls (x ∷ xs) = LetterFits cs ks ls x × LettersFit cs ks ls xs

abbrev pub is_some : Option Term → Bool
is_some None = false
is_some (Some t) = true

-- it is a functor letter that is fixed
abbrev pub is_fixed : List Letter → SchemeLetter → Bool
is_fixed ls (OfFunctor s places ty) = is_some (term_for s ls)
is_fixed ls (OfPredicate s places) = false

-- those of the letters that are fixed by the first list
abbrev pub fixed_among : List Letter → List SchemeLetter → List SchemeLetter
fixed_among ls xs = filter (is_fixed ls) xs
