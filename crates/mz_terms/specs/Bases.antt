-- What operands are read to, once their arguments are read.
use Rattle.std.specs.Prelude.{◌≡◌, ℕ, List, [], ◌∷◌, Some, None, Result, Ok, Err, codes}
use Rattle.mz_base.specs.declared.place.Place.{Place}
use Rattle.mz_logic.specs.Term.{Term}
use Rattle.mz_logic.specs.declared.kind.Kind.TheVariants as kind
use Rattle.mz_context.specs.declared.context.Context.{Context}
use Rattle.mz_environment.specs.declared.environment.Environment.{Environment}
use Rattle.mz_names.specs.Names.{variable, argument, known_or}
use Rattle.mz_names.specs.declared.refusal.Refusal.{Refusal}
use Rattle.mz_names.specs.declared.refusal.Refusal.TheVariants.{UnknownSymbol, UnknownVariable}
use Rattle.mz_choice.specs.declared.choice.Applied.{Applied}
use Rattle.mz_choice.specs.declared.choice.Wanted.TheVariants.{Anything}
use Rattle.mz_tree.specs.Trees.{TermData, TermsData, BaseData, AdjectiveList, TypeData, FormulaData, PrefixData, BeforeList, IdentifierBase, SubjectBase, ArgumentBase, GroupBase, CallBase, CallWithBase, SelectorBase, AggregateBase, BracketsBase, BracesBase, SquaresBase, SetOfBase, ChoiceBase, ChoiceStructureBase, SelectorPrefix, ChoiceOfPrefix, ChoiceOverPrefix}
use Rattle.mz_tree.specs.declared.word.Word.{Word}
use Rattle.mz_applied.specs.Application.{application, bracketed}
use Rattle.mz_applied.specs.Meant.{as_term}
use Rattle.mz_applied.specs.Reading.{ReadsAs}
use Rattle.mz_applied.specs.Private.{AppliesFunctor}
use Rattle.mz_terms.specs.Values.{as_list}

-- an identifier with arguments in parentheses
pub data Calls (e : Environment) (c : Context) (least : ℕ) (w : Word) (ts : List Term) : Result (List Term) Refusal → Type 0 where
  calls : (o : Result Term Refusal) → AppliesFunctor e c least w.place w.spelling ts o → Calls e c least w ts (as_list o)

-- a symbol at a place with its arguments; `first` is the place of the first token
pub data Applies (e : Environment) (c : Context) (place first : Place) (a : Applied) : Result (List Term) Refusal → Type 0 where
  applies : (o : Result Term Refusal) → ReadsAs e c Anything place (as_term place first) a o → Applies e c place first a (as_list o)

-- an operand without its prefixes, whose arguments are read to these terms. A term in parentheses is that term; forms of a
-- later profile name nothing.
pub data Closes (e : Environment) (c : Context) (least : ℕ) : BaseData → List Term → Result (List Term) Refusal → Type 0 where
  identifier : (w : Word) (ts : List Term) → Closes e c least (IdentifierBase w) ts (as_list (known_or w.place (variable least c w.spelling)))
  subject : (p : Place) (ts : List Term) → Closes e c least (SubjectBase p) ts (as_list (known_or p c.it))
  numbered : (p : Place) (k : ℕ) (ts : List Term) → Closes e c least (ArgumentBase p k) ts (as_list (known_or p (argument c k)))
  group : (p q : Place) (us : TermsData) (ts : List Term) → Closes e c least (GroupBase p us q) ts (Ok ts)
  call : (w : Word) (p q : Place) (ts : List Term) (o : Result (List Term) Refusal) → Calls e c least w ts o → Closes e c least (CallBase w p q) ts o
  call_with : (w : Word) (p q : Place) (us : TermsData) (ts : List Term) (o : Result (List Term) Refusal) → Calls e c least w ts o → Closes e c least (CallWithBase w p us q) ts o
  -- `the U` in a field's type speaks of the structure that the field belongs to
  no_structure : (p : Place) (w : Word) (ts : List Term) → c.subject ≡ None → Closes e c least (SelectorBase p w) ts (Err (UnknownVariable p))
  field : (p : Place) (w : Word) (t : Term) (ts : List Term) (o : Result (List Term) Refusal) → c.subject ≡ Some t → Applies e c w.place p (application kind.Selector w.spelling [] (t ∷ [])) o → Closes e c least (SelectorBase p w) ts o
  aggregate : (w : Word) (p q : Place) (us : TermsData) (ts : List Term) (o : Result (List Term) Refusal) → Applies e c w.place w.place (application kind.Aggregate w.spelling [] ts) o → Closes e c least (AggregateBase w p us q) ts o
  brackets : (l r : Word) (us : TermsData) (ts : List Term) (o : Result (List Term) Refusal) → Applies e c l.place l.place (bracketed kind.Functor l.spelling r.spelling ts) o → Closes e c least (BracketsBase l us r) ts o
  braces : (p q : Place) (us : TermsData) (ts : List Term) (o : Result (List Term) Refusal) → Applies e c p p (bracketed kind.Functor (codes "{") (codes "}") ts) o → Closes e c least (BracesBase p us q) ts o
  squares : (p q : Place) (us : TermsData) (ts : List Term) (o : Result (List Term) Refusal) → Applies e c p p (bracketed kind.Functor (codes "[") (codes "]") ts) o → Closes e c least (SquaresBase p us q) ts o
  set_term : (p q r s u : Place) (w : Word) (t : TermData) (ty : TypeData) (f : FormulaData) (ts : List Term) → Closes e c least (SetOfBase p t q w r ty s f u) ts (Err (UnknownSymbol p))
  choice : (p : Place) (xs : AdjectiveList) (w : Word) (ts : List Term) → Closes e c least (ChoiceBase p xs w) ts (Err (UnknownSymbol p))
  choice_structure : (p : Place) (xs : AdjectiveList) (w : Word) (ts : List Term) → Closes e c least (ChoiceStructureBase p xs w) ts (Err (UnknownSymbol p))

-- prefixes, the innermost first, of what was read to these terms
pub data Prefixed (e : Environment) (c : Context) : List PrefixData → List Term → Result (List Term) Refusal → Type 0 where
  no_prefix : (ts : List Term) → Prefixed e c [] ts (Ok ts)
  refused : (p q : Place) (w : Word) (ps : List PrefixData) (ts : List Term) (r : Refusal) → Applies e c w.place p (application kind.Selector w.spelling [] ts) (Err r) → Prefixed e c (SelectorPrefix p w q ∷ ps) ts (Err r)
  selected : (p q : Place) (w : Word) (ps : List PrefixData) (ts us : List Term) (o : Result (List Term) Refusal) → Applies e c w.place p (application kind.Selector w.spelling [] ts) (Ok us) → Prefixed e c ps us o → Prefixed e c (SelectorPrefix p w q ∷ ps) ts o
  choice_of : (p q : Place) (xs : AdjectiveList) (w : Word) (bs : BeforeList) (ps : List PrefixData) (ts : List Term) → Prefixed e c (ChoiceOfPrefix p xs w q bs ∷ ps) ts (Err (UnknownSymbol p))
  choice_over : (p q : Place) (xs : AdjectiveList) (w : Word) (bs : BeforeList) (ps : List PrefixData) (ts : List Term) → Prefixed e c (ChoiceOverPrefix p xs w q bs ∷ ps) ts (Err (UnknownSymbol p))
