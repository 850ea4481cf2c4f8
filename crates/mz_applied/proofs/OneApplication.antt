-- What applications are read to is determined.
use Rattle.std.proofs.Common.{◌≡◌, ◌⊎◌, inl, inr, ℕ, Bool, true, false, List, length, Option, Some, None, refl, sym, ap, ◌∙◌, subst}
use Rattle.std.specs.Prelude.{nat_eq, Result, Ok, Err}
use Rattle.mz_base.specs.declared.place.Place.{Place}
use Rattle.mz_logic.specs.Term.{Term}
use Rattle.mz_logic.specs.Substitution.{substitute, argument_at}
use Rattle.mz_core.specs.Statement.{Statement}
use Rattle.mz_core.specs.TypeSubstitution.{substitute_statement}
use Rattle.mz_core.specs.declared.soft_type.SoftType.{SoftType}
use Rattle.mz_core.specs.declared.notation.Meaning.{Meaning}
use Rattle.mz_context.specs.declared.context.Context.{Context}
use Rattle.mz_context.specs.declared.private.PrivateFunctor.{PrivateFunctor}
use Rattle.mz_context.specs.declared.private.PrivatePredicate.{PrivatePredicate}
use Rattle.mz_environment.specs.declared.environment.Environment.{Environment}
use Rattle.mz_choice.specs.Resolution.{typing}
use Rattle.mz_names.specs.Names.{private_functor, private_predicate, functor_letter, predicate_letter}
use Rattle.mz_names.specs.declared.refusal.Refusal.{Refusal}
use Rattle.mz_names.specs.declared.refusal.Refusal.TheVariants.{UnknownVariable, NoNotation, UnfitArgument}
use Rattle.mz_choice.specs.declared.choice.Applied.{Applied}
use Rattle.mz_choice.specs.declared.choice.Wanted.{Wanted}
use Rattle.mz_choice.proofs.OneChoice.{one_resolution_law}
use Rattle.mz_sizes.specs.Sizes.{term_keeps, statement_keeps}
use Rattle.mz_applied.specs.Within.{within}
use Rattle.mz_applied.specs.Meant.{meant}
use Rattle.mz_applied.specs.Reading as re
use Rattle.mz_applied.specs.Reading.{Means, ReadsAs}
use Rattle.mz_applied.specs.Private as pr
use Rattle.mz_applied.specs.Private.{PlacesFit, Admits, is_functor_usable, is_predicate_usable, term_of_letter, statement_of_letter, AppliesFunctor, AppliesPredicate}
use Rattle.mz_applied.specs.Laws.{OneTermLaw, OneTypeLaw, OneAdjectiveLaw, OneStatementLaw, OneFunctorLaw, OnePredicateLaw}

pub one_meaning : (e : Environment) (c : Context) (w : Wanted) (place : Place) (a : Applied) (o p : Result Meaning Refusal) → Means e c w place a o → Means e c w place a p → o ≡ p
one_meaning e c w place a o p (re.means x h) (re.means y k) = ap (meant place) (one_resolution_law (typing e c) e c w a x y h k)

not_ok : {X : Type 0} (r : Refusal) (m : Meaning) (o p : Result Meaning Refusal) (x y : X) → o ≡ Err r → p ≡ Ok m → o ≡ p → x ≡ y
not_ok r m o p x y e f h = cc

in_ok : (m n : Meaning) (o p : Result Meaning Refusal) → o ≡ Ok m → p ≡ Ok n → o ≡ p → m ≡ n
in_ok m n o p e f h = cc

in_err : (r s : Refusal) (o p : Result Meaning Refusal) → o ≡ Err r → p ≡ Err s → o ≡ p → r ≡ s
in_err r s o p e f h = cc

pub one_application : {X : Type 0} (e : Environment) (c : Context) (w : Wanted) (place : Place) (form : Meaning → Result X Refusal) (a : Applied) (o p : Result X Refusal) → ReadsAs e c w place form a o → ReadsAs e c w place form a p → o ≡ p
one_application {X} e c w place form a o p (re.refused r h) (re.refused s k) = ap Err (in_err r s (Err r) (Err s) refl refl (one_meaning e c w place a (Err r) (Err s) h k))
one_application {X} e c w place form a o p (re.refused r h) (re.reads m k) = not_ok r m (Err r) (Ok m) (Err r) (form m) refl refl (one_meaning e c w place a (Err r) (Ok m) h k)
one_application {X} e c w place form a o p (re.reads m h) (re.refused r k) = not_ok r m (Err r) (Ok m) (form m) (Err r) refl refl (one_meaning e c w place a (Err r) (Ok m) k h)
one_application {X} e c w place form a o p (re.reads m h) (re.reads n k) = ap form (in_ok m n (Ok m) (Ok n) refl refl (one_meaning e c w place a (Ok m) (Ok n) h k))

pub one_term_law : OneTermLaw
one_term_law e c w place form a o p h k = one_application e c w place form a o p h k

pub one_type_law : OneTypeLaw
one_type_law e c w place form a o p h k = one_application e c w place form a o p h k

pub one_adjective_law : OneAdjectiveLaw
one_adjective_law e c w place form a o p h k = one_application e c w place form a o p h k

pub one_statement_law : OneStatementLaw
one_statement_law e c w place form a o p h k = one_application e c w place form a o p h k

-- why arguments aren't admitted, by the tests in their order
usable_as : Place → Bool → Option Refusal
usable_as place true = None
usable_as place false = Some (UnknownVariable place)

abbrev FitAs : Environment → Context → Place → Bool → List SoftType → List Term → Option Refusal → Type 0
FitAs e c place usable places ts o =
    (PlacesFit (typing e c) c.constants places ts × (o ≡ usable_as place usable)) ⊎ ((PlacesFit (typing e c) c.constants places ts → ⊥) × (o ≡ Some (UnfitArgument place)))

abbrev AdmitsAs : Environment → Context → Place → Bool → List SoftType → List Term → Bool → Option Refusal → Type 0
AdmitsAs e c place usable places ts false o = o ≡ Some (NoNotation place)
AdmitsAs e c place usable places ts true o = FitAs e c place usable places ts o

admits_as : (e : Environment) (c : Context) (place : Place) (usable : Bool) (places : List SoftType) (ts : List Term) (o : Option Refusal) → Admits e c place usable places ts o → AdmitsAs e c place usable places ts (nat_eq (length ts) (length places)) o
unfolding usable_as
admits_as e c place usable places ts o (pr.other_number n) = subst (λ b. AdmitsAs e c place usable places ts b (Some (NoNotation place))) (sym n) refl
admits_as e c place usable places ts o (pr.unfit n f) = subst (λ b. AdmitsAs e c place usable places ts b (Some (UnfitArgument place))) (sym n) (inr (f, refl))
admits_as e c place usable places ts o (pr.not_usable n f h) = subst (λ b. AdmitsAs e c place usable places ts b (Some (UnknownVariable place))) (sym n) (inl (f, sym (ap (usable_as place) h)))
admits_as e c place usable places ts o (pr.admits n f h) = subst (λ b. AdmitsAs e c place usable places ts b None) (sym n) (inl (f, sym (ap (usable_as place) h)))

fit_once : (e : Environment) (c : Context) (place : Place) (usable : Bool) (places : List SoftType) (ts : List Term) (o p : Option Refusal) → FitAs e c place usable places ts o → FitAs e c place usable places ts p → o ≡ p
fit_once e c place usable places ts o p (inl (f, h)) (inl (g, k)) = h ∙ sym k
fit_once e c place usable places ts o p (inl (f, h)) (inr (g, k)) = absurd (g f)
fit_once e c place usable places ts o p (inr (f, h)) (inl (g, k)) = absurd (f g)
fit_once e c place usable places ts o p (inr (f, h)) (inr (g, k)) = h ∙ sym k

admits_once : (e : Environment) (c : Context) (place : Place) (usable : Bool) (places : List SoftType) (ts : List Term) (same : Bool) (o p : Option Refusal) → AdmitsAs e c place usable places ts same o → AdmitsAs e c place usable places ts same p → o ≡ p
admits_once e c place usable places ts false o p h k = h ∙ sym k
admits_once e c place usable places ts true o p h k = fit_once e c place usable places ts o p h k

one_refusal : (e : Environment) (c : Context) (place : Place) (usable : Bool) (places : List SoftType) (ts : List Term) (o p : Option Refusal) → Admits e c place usable places ts o → Admits e c place usable places ts p → o ≡ p
one_refusal e c place usable places ts o p h k =
    admits_once e c place usable places ts (nat_eq (length ts) (length places)) o p (admits_as e c place usable places ts o h) (admits_as e c place usable places ts p k)

functor_behind : Place → List Term → PrivateFunctor → Option Refusal → Result Term Refusal
functor_behind place ts f (Some r) = Err r
functor_behind place ts f None = within term_keeps place (substitute 0 (argument_at ts) f.body)

abbrev FunctorAs : Environment → Context → ℕ → Place → List ℕ → List Term → Option PrivateFunctor → Result Term Refusal → Type 0
FunctorAs e c least place name ts None o = o ≡ term_of_letter place ts (functor_letter c name)
FunctorAs e c least place name ts (Some f) o = (q : Option Refusal) × Admits e c place (is_functor_usable least f) f.places ts q × (o ≡ functor_behind place ts f q)

functor_as : (e : Environment) (c : Context) (least : ℕ) (place : Place) (name : List ℕ) (ts : List Term) (o : Result Term Refusal) → AppliesFunctor e c least place name ts o → FunctorAs e c least place name ts (private_functor c name) o
unfolding functor_behind
functor_as e c least place name ts o (pr.functor_refused f r h k) = subst (λ x. FunctorAs e c least place name ts x (Err r)) (sym h) (Some r, k, refl)
functor_as e c least place name ts o (pr.functor_expanded f h k) = subst (λ x. FunctorAs e c least place name ts x (within term_keeps place (substitute 0 (argument_at ts) f.body))) (sym h) (None, k, refl)
functor_as e c least place name ts o (pr.letter_of_functor h) = subst (λ x. FunctorAs e c least place name ts x (term_of_letter place ts (functor_letter c name))) (sym h) refl

functor_once : (e : Environment) (c : Context) (least : ℕ) (place : Place) (name : List ℕ) (ts : List Term) (x : Option PrivateFunctor) (o p : Result Term Refusal) → FunctorAs e c least place name ts x o → FunctorAs e c least place name ts x p → o ≡ p
functor_once e c least place name ts None o p h k = h ∙ sym k
functor_once e c least place name ts (Some f) o p (q, a, h) (r, b, k) = h ∙ ap (functor_behind place ts f) (one_refusal e c place (is_functor_usable least f) f.places ts q r a b) ∙ sym k

pub one_functor_law : OneFunctorLaw
one_functor_law e c least place name ts o p h k =
    functor_once e c least place name ts (private_functor c name) o p (functor_as e c least place name ts o h) (functor_as e c least place name ts p k)

predicate_behind : Place → List Term → PrivatePredicate → Option Refusal → Result Statement Refusal
predicate_behind place ts f (Some r) = Err r
predicate_behind place ts f None = within statement_keeps place (substitute_statement 0 (argument_at ts) f.body)

abbrev PredicateAs : Environment → Context → ℕ → Place → List ℕ → List Term → Option PrivatePredicate → Result Statement Refusal → Type 0
PredicateAs e c least place name ts None o = o ≡ statement_of_letter place ts (predicate_letter c name)
PredicateAs e c least place name ts (Some f) o = (q : Option Refusal) × Admits e c place (is_predicate_usable least f) f.places ts q × (o ≡ predicate_behind place ts f q)

predicate_as : (e : Environment) (c : Context) (least : ℕ) (place : Place) (name : List ℕ) (ts : List Term) (o : Result Statement Refusal) → AppliesPredicate e c least place name ts o → PredicateAs e c least place name ts (private_predicate c name) o
unfolding predicate_behind
predicate_as e c least place name ts o (pr.predicate_refused f r h k) = subst (λ x. PredicateAs e c least place name ts x (Err r)) (sym h) (Some r, k, refl)
predicate_as e c least place name ts o (pr.predicate_expanded f h k) = subst (λ x. PredicateAs e c least place name ts x (within statement_keeps place (substitute_statement 0 (argument_at ts) f.body))) (sym h) (None, k, refl)
predicate_as e c least place name ts o (pr.letter_of_predicate h) = subst (λ x. PredicateAs e c least place name ts x (statement_of_letter place ts (predicate_letter c name))) (sym h) refl

predicate_once : (e : Environment) (c : Context) (least : ℕ) (place : Place) (name : List ℕ) (ts : List Term) (x : Option PrivatePredicate) (o p : Result Statement Refusal) → PredicateAs e c least place name ts x o → PredicateAs e c least place name ts x p → o ≡ p
predicate_once e c least place name ts None o p h k = h ∙ sym k
predicate_once e c least place name ts (Some f) o p (q, a, h) (r, b, k) = h ∙ ap (predicate_behind place ts f) (one_refusal e c place (is_predicate_usable least f) f.places ts q r a b) ∙ sym k

pub one_predicate_law : OnePredicateLaw
one_predicate_law e c least place name ts o p h k =
    predicate_once e c least place name ts (private_predicate c name) o p (predicate_as e c least place name ts o h) (predicate_as e c least place name ts p k)
