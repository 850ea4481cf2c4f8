-- What formulas without parts that are formulas are read to.
use Rattle.std.specs.Prelude.{◌≡◌, ℕ, if◌then◌else◌, List, [], ◌∷◌, Option, Some, None, Result, Ok, Err}
use Rattle.mz_base.specs.declared.place.Place.{Place}
use Rattle.mz_logic.specs.Term.{Term}
use Rattle.mz_logic.specs.declared.kind.Kind.TheVariants.{Predicate}
use Rattle.mz_core.specs.Statement.{Statement, And}
use Rattle.mz_core.specs.declared.soft_type.SoftType.{SoftType}
use Rattle.mz_context.specs.declared.context.Context.{Context}
use Rattle.mz_environment.specs.declared.environment.Environment.{Environment}
use Rattle.mz_names.specs.declared.refusal.Refusal.{Refusal}
use Rattle.mz_names.specs.declared.refusal.Refusal.TheVariants.{TooLarge}
use Rattle.mz_choice.specs.declared.choice.Wanted.TheVariants.{Anything}
use Rattle.mz_tree.specs.Trees.{TermData, TermsData, TypeData, AdjectiveData, AdjectiveList, no_adjectives, more_adjectives}
use Rattle.mz_tree.specs.Places.{first_place}
use Rattle.mz_tree.specs.Spell.{spell_term, spell_terms, spell_adjective}
use Rattle.mz_tree.specs.declared.word.Word.{Word}
use Rattle.mz_applied.specs.Application.{application, attribute_of}
use Rattle.mz_applied.specs.Meant.{as_statement, as_attributed}
use Rattle.mz_applied.specs.Private.{AppliesPredicate}
use Rattle.mz_applied.specs.Reading.{ReadsAs}
use Rattle.mz_terms.specs.Adjectives.{is_denied, attribute_in, ReadsOwn}
pub use Rattle.mz_terms.specs.Terms.{ReadsTerm}
use Rattle.mz_terms.specs.Terms.{ReadsAll}
pub use Rattle.mz_terms.specs.Types.{ReadsType}
use Rattle.mz_sizes.specs.Sizes.{statement_keeps}
use Rattle.mz_joined.specs.Bound.{of_type_within}

-- the arguments on a side, where some are written there
pub data ReadsSide (e : Environment) (c : Context) (least : ℕ) : Option TermsData → Result (List Term) Refusal → Type 0 where
  no_side : ReadsSide e c least None (Ok [])
  side : (ts : TermsData) (o : Result (List Term) Refusal) → ReadsAll e c least ts o → ReadsSide e c least (Some ts) o

-- the place of the first token of an atom, whose symbol stands at the second place
abbrev pub first_of : Option TermsData → Place → Option Place
first_of None p = Some p
first_of (Some ts) p = first_place (spell_terms ts)

-- a predicate symbol between its arguments: those on the left, those on the right, and then the symbol applied to them
pub data ReadsPredicate (e : Environment) (c : Context) (least : ℕ) (left : Option TermsData) (w : Word) (right : Option TermsData) : Result Statement Refusal → Type 0 where
  left_refused : (r : Refusal) → ReadsSide e c least left (Err r) → ReadsPredicate e c least left w right (Err r)
  right_refused : (ts : List Term) (r : Refusal) → ReadsSide e c least left (Ok ts) → ReadsSide e c least right (Err r) → ReadsPredicate e c least left w right (Err r)
  both_read : (ts us : List Term) (first : Place) (o : Result Statement Refusal) → ReadsSide e c least left (Ok ts) → ReadsSide e c least right (Ok us) → first_of left w.place ≡ Some first →
      ReadsAs e c Anything w.place (as_statement w.place first) (application Predicate w.spelling ts us) o → ReadsPredicate e c least left w right o

-- a private predicate or a letter with arguments in brackets
pub data ReadsPrivate (e : Environment) (c : Context) (least : ℕ) (w : Word) (side : Option TermsData) : Result Statement Refusal → Type 0 where
  arguments_refused : (r : Refusal) → ReadsSide e c least side (Err r) → ReadsPrivate e c least w side (Err r)
  arguments_read : (ts : List Term) (o : Result Statement Refusal) → ReadsSide e c least side (Ok ts) → AppliesPredicate e c least w.place w.spelling ts o → ReadsPrivate e c least w side o

-- `t is T`: the term, then the type, then what the type says of the term
pub data ReadsIsType (e : Environment) (c : Context) (least : ℕ) (t : TermData) (ty : TypeData) : Result Statement Refusal → Type 0 where
  term_refused : (r : Refusal) → ReadsTerm e c least t (Err r) → ReadsIsType e c least t ty (Err r)
  type_refused : (u : Term) (r : Refusal) → ReadsTerm e c least t (Ok u) → ReadsType e c least ty (Err r) → ReadsIsType e c least t ty (Err r)
  both_read : (u : Term) (s : SoftType) (first : Place) → ReadsTerm e c least t (Ok u) → ReadsType e c least ty (Ok s) → first_place (spell_term t) ≡ Some first → ReadsIsType e c least t ty (of_type_within first s u)

-- an adjective said of a term: its arguments, then the attribute of the term, which may read to any literal
pub data ReadsAttributed (e : Environment) (c : Context) (least : ℕ) (u : Term) (a : AdjectiveData) : Result Statement Refusal → Type 0 where
  own_refused : (r : Refusal) → ReadsOwn e c least a (Err r) → ReadsAttributed e c least u a (Err r)
  own_read : (ts : List Term) (first : Place) (o : Result Statement Refusal) → ReadsOwn e c least a (Ok ts) → first_place (spell_adjective a) ≡ Some first →
      ReadsAs e c Anything (attribute_in a).place (as_attributed (is_denied a) (attribute_in a).place first) (attribute_of (attribute_in a).spelling ts u) o → ReadsAttributed e c least u a o

-- what is said so far; none where it is beyond the limits, and then all is
abbrev pub kept : Statement → Option Statement
kept s = if statement_keeps s then Some s else None

abbrev pub kept_with : Option Statement → Statement → Option Statement
kept_with None t = None
kept_with (Some s) t = kept (And s t)

-- an adjective as the first one, and joined to what was said before it; a refusal stays
abbrev pub said : Result Statement Refusal → Result (Option Statement) Refusal
said (Err r) = Err r
said (Ok s) = Ok (kept s)

abbrev pub said_behind : Option Statement → Result Statement Refusal → Result (Option Statement) Refusal
said_behind s (Err r) = Err r
said_behind s (Ok t) = Ok (kept_with s t)

-- further adjectives, each joined to what was said so far
pub data ReadsFurther (e : Environment) (c : Context) (least : ℕ) (u : Term) : List AdjectiveData → Result (Option Statement) Refusal → Result (Option Statement) Refusal → Type 0 where
  refused : (xs : List AdjectiveData) (r : Refusal) → ReadsFurther e c least u xs (Err r) (Err r)
  no_further : (s : Option Statement) → ReadsFurther e c least u [] (Ok s) (Ok s)
  further : (a : AdjectiveData) (xs : List AdjectiveData) (s : Option Statement) (p : Result Statement Refusal) (o : Result (Option Statement) Refusal) → ReadsAttributed e c least u a p → ReadsFurther e c least u xs (said_behind s p) o → ReadsFurther e c least u (a ∷ xs) (Ok s) o

-- all that was said, or the refusal at the place
abbrev pub said_within : Place → Result (Option Statement) Refusal → Result Statement Refusal
said_within first (Err r) = Err r
said_within first (Ok None) = Err (TooLarge first)
said_within first (Ok (Some s)) = Ok s

abbrev pub listed_adjectives : AdjectiveList → List AdjectiveData
listed_adjectives no_adjectives = []
listed_adjectives (more_adjectives a xs) = a ∷ listed_adjectives xs

-- `t is A B ..`: the term, then the adjectives from left to right, which nothing has to cover. What they say together has to
-- keep the limits, and this is tested behind the last one
pub data ReadsIsAdjectives (e : Environment) (c : Context) (least : ℕ) (t : TermData) (a : AdjectiveData) (xs : List AdjectiveData) : Result Statement Refusal → Type 0 where
  subject_refused : (r : Refusal) → ReadsTerm e c least t (Err r) → ReadsIsAdjectives e c least t a xs (Err r)
  subject_read : (u : Term) (first : Place) (p : Result Statement Refusal) (o : Result (Option Statement) Refusal) → ReadsTerm e c least t (Ok u) → first_place (spell_term t) ≡ Some first → ReadsAttributed e c least u a p → ReadsFurther e c least u xs (said p) o → ReadsIsAdjectives e c least t a xs (said_within first o)
