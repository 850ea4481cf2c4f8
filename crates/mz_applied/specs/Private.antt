-- Private functors and predicates, and letters, applied to arguments. They are named by the identifier at `place`.
use Rattle.std.specs.Prelude.{◌≡◌, ℕ, Bool, true, false, nat_eq, if◌then◌else◌, List, [], ◌∷◌, length, Option, Some, None, Result, Err}
use Rattle.mz_base.specs.declared.place.Place.{Place}
use Rattle.mz_logic.specs.Term.{Term, App, terms_of}
use Rattle.mz_logic.specs.Substitution.{substitute, argument_at}
use Rattle.mz_core.specs.Statement.{Statement, Atom}
use Rattle.mz_core.specs.TypeSubstitution.{substitute_statement}
use Rattle.mz_core.specs.declared.soft_type.SoftType.{SoftType}
use Rattle.mz_context.specs.declared.constants.Constant.{Constant}
use Rattle.mz_context.specs.declared.context.Context.{Context}
use Rattle.mz_context.specs.declared.letters.NamedLetter.{NamedLetter}
use Rattle.mz_context.specs.declared.private.PrivateFunctor.{PrivateFunctor}
use Rattle.mz_context.specs.declared.private.PrivatePredicate.{PrivatePredicate}
use Rattle.mz_ground.specs.declared.clause.Clause.{Clause}
use Rattle.mz_environment.specs.declared.environment.Environment.{Environment}
use Rattle.mz_fits.specs.Fits.{TypeFits}
use Rattle.mz_choice.specs.Resolution.{typing}
use Rattle.mz_names.specs.Names.{private_functor, private_predicate, functor_letter, predicate_letter, letter_sym, letter_places}
use Rattle.mz_names.specs.Scope.{term_from, statement_from}
use Rattle.mz_names.specs.declared.refusal.Refusal.{Refusal}
use Rattle.mz_names.specs.declared.refusal.Refusal.TheVariants.{UnknownVariable, NoNotation, UnfitArgument}
use Rattle.mz_sizes.specs.Sizes.{term_keeps, statement_keeps}
use Rattle.mz_applied.specs.Within.{within}

-- each argument fits the type of its place
pub data PlacesFit (cs : List Clause) (ks : List (Option Constant)) : List SoftType → List Term → Type 0 where
  no_places : PlacesFit cs ks [] []
  and_place : (ty : SoftType) (tys : List SoftType) (t : Term) (ts : List Term) → TypeFits cs ks t ty → PlacesFit cs ks tys ts → PlacesFit cs ks (ty ∷ tys) (t ∷ ts)

-- why what has such places isn't applied to the arguments: it has another number of places, a place that an argument
-- doesn't fit, or a body with a constant that may not be used
pub data Admits (e : Environment) (c : Context) (place : Place) (usable : Bool) (places : List SoftType) (ts : List Term) : Option Refusal → Type 0 where
  other_number : nat_eq (length ts) (length places) ≡ false → Admits e c place usable places ts (Some (NoNotation place))
  unfit : nat_eq (length ts) (length places) ≡ true → ¬ PlacesFit (typing e c) c.constants places ts → Admits e c place usable places ts (Some (UnfitArgument place))
  not_usable : nat_eq (length ts) (length places) ≡ true → PlacesFit (typing e c) c.constants places ts → usable ≡ false → Admits e c place usable places ts (Some (UnknownVariable place))
  admits : nat_eq (length ts) (length places) ≡ true → PlacesFit (typing e c) c.constants places ts → usable ≡ true → Admits e c place usable places ts None

-- the constants of the body of a private functor or predicate may be used; the types of its places don't count
abbrev pub is_functor_usable : ℕ → PrivateFunctor → Bool
is_functor_usable least f = term_from least f.body

abbrev pub is_predicate_usable : ℕ → PrivatePredicate → Bool
is_predicate_usable least p = statement_from least p.body

-- a letter with as many arguments as it has places, or why there is none
abbrev pub term_of_letter : Place → List Term → Option NamedLetter → Result Term Refusal
term_of_letter place ts None = Err (UnknownVariable place)
term_of_letter place ts (Some l) = if nat_eq (length ts) (length (letter_places l.letter)) then within term_keeps place (App (letter_sym l.letter) (terms_of ts)) else Err (NoNotation place)

abbrev pub statement_of_letter : Place → List Term → Option NamedLetter → Result Statement Refusal
statement_of_letter place ts None = Err (UnknownVariable place)
statement_of_letter place ts (Some l) = if nat_eq (length ts) (length (letter_places l.letter)) then within statement_keeps place (Atom (letter_sym l.letter) ts) else Err (NoNotation place)

-- what an identifier with arguments in parentheses is read to: the body of the private functor at the arguments, or
-- else the functor letter with them
pub data AppliesFunctor (e : Environment) (c : Context) (least : ℕ) (place : Place) (name : List ℕ) (ts : List Term) : Result Term Refusal → Type 0 where
  functor_refused : (f : PrivateFunctor) (r : Refusal) → private_functor c name ≡ Some f → Admits e c place (is_functor_usable least f) f.places ts (Some r) → AppliesFunctor e c least place name ts (Err r)
  functor_expanded : (f : PrivateFunctor) → private_functor c name ≡ Some f → Admits e c place (is_functor_usable least f) f.places ts None → AppliesFunctor e c least place name ts (within term_keeps place (substitute 0 (argument_at ts) f.body))
  letter_of_functor : private_functor c name ≡ None → AppliesFunctor e c least place name ts (term_of_letter place ts (functor_letter c name))

-- the same with arguments in brackets: of the private predicate, or else of the predicate letter
pub data AppliesPredicate (e : Environment) (c : Context) (least : ℕ) (place : Place) (name : List ℕ) (ts : List Term) : Result Statement Refusal → Type 0 where
  predicate_refused : (p : PrivatePredicate) (r : Refusal) → private_predicate c name ≡ Some p → Admits e c place (is_predicate_usable least p) p.places ts (Some r) → AppliesPredicate e c least place name ts (Err r)
  predicate_expanded : (p : PrivatePredicate) → private_predicate c name ≡ Some p → Admits e c place (is_predicate_usable least p) p.places ts None → AppliesPredicate e c least place name ts (within statement_keeps place (substitute_statement 0 (argument_at ts) p.body))
  letter_of_predicate : private_predicate c name ≡ None → AppliesPredicate e c least place name ts (statement_of_letter place ts (predicate_letter c name))
