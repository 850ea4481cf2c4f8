-- Contexts stay whole.
use Rattle.std.proofs.Common.{◌≡◌, ◌≤◌, ◌<◌, ℕ, zero, suc, true, List, [], ◌∷◌, ◌++◌, refl, sym, ap, ◌∙◌, subst, arith, length, Option, Some, None}
use Rattle.std.specs.Prelude.{Contains}
use Rattle.std.specs.List.{list_all}
use Rattle.std.proofs.lemmas.List.Elements.{Contains-append_cases}
use Rattle.mz_std_laws.proofs.Sums.{either}
use Rattle.mz_logic.specs.Term.{Term}
use Rattle.mz_core.specs.Statement.{Statement}
use Rattle.mz_core.specs.declared.soft_type.SoftType.{SoftType}
use Rattle.mz_items.specs.Closed.{letter_closed}
use Rattle.mz_context.specs.Context.{numbered, next}
use Rattle.mz_context.specs.Changes.{with_constant, labelled}
use Rattle.mz_context.specs.declared.constants.Constant.{Constant}
use Rattle.mz_context.specs.declared.context.Context.{Context}
use Rattle.mz_context.specs.declared.labelled.LabelledStatement.{LabelledStatement}
use Rattle.mz_context.specs.declared.letters.NamedLetter.{NamedLetter}
use Rattle.mz_context.specs.declared.private.PrivateFunctor.{PrivateFunctor}
use Rattle.mz_context.specs.declared.private.PrivatePredicate.{PrivatePredicate}
use Rattle.mz_context.specs.declared.reserved.ReservedVariable.{ReservedVariable}
use Rattle.mz_fits.proofs.OneMatch.{some-inj, none_some}
use Rattle.mz_names.specs.Closing.{constant_of, with_variables}
use Rattle.mz_names.specs.declared.variable.Variable.{Variable}
use Rattle.mz_applied.specs.Private.{is_functor_usable, is_predicate_usable}
use Rattle.mz_choice_laws.specs.Known.{term_known, statement_known, HasKnownTypes}
use Rattle.mz_choice_laws.proofs.KnownTerms.{term_known-where}
use Rattle.mz_choice_laws.proofs.KnownValues.{type_known-where, statement_known-where, all_known-where}
use Rattle.mz_term_laws.specs.Usable.{is_usable, term_usable, type_usable, statement_usable}
use Rattle.mz_term_laws.specs.Whole.{IsUsableConstant, IsWhole}
use Rattle.mz_term_laws.specs.ChangeLaws.{EmptyLaw, WholeFromLaw, AreUsable, ConstantLaw, VariablesLaw, StatementLaw, ThesisLaw, PreviousLaw, ReservedLaw, FunctorLaw, PredicateLaw, LetterLaw}
use Rattle.mz_term_laws.proofs.UsableProofs.{numbered_last, numbered_below, usable_parts, usable_from, usable_more, term_from-zero, type_from-zero, statement_from-zero, term_known-with, type_known-with, statement_known-with}

-- what a list has that has one element more
one_only : {X : Type 0} (x y : X) → Contains (x ∷ []) y → x ≡ y
one_only x y (zero, lt, e) = e
one_only x y (suc k, lt, e) = absurd (omega (arith, lt))

pub or_last : {X : Type 0} (P : X → Type 0) (xs : List X) (x y : X) → Contains (xs ++ x ∷ []) y → (Contains xs y → P y) → P x → P y
or_last P xs x y c f h = either (Contains-append_cases xs (x ∷ []) y c) f (λ i. subst P (one_only x y i) h)

-- what the reading needs of the types of constants
pub known_types : (least : ℕ) (c : Context) → IsWhole least c → HasKnownTypes (is_usable least c) c
known_types least c w = record { constants = λ n k e u. (w.constants n k e (usable_parts least c n u).0).0; letters = w.letters }

-- more is usable where one constant more is in force
pub term_more : (least : ℕ) (c : Context) (k : Constant) (t : Term) → term_usable least c t ≡ true → term_usable least (with_constant c k) t ≡ true
term_more least c k t h = term_known-where (is_usable least c) (is_usable least (with_constant c k)) (usable_more least c k) 0 t h

pub type_more : (least : ℕ) (c : Context) (k : Constant) (ty : SoftType) → type_usable least c ty ≡ true → type_usable least (with_constant c k) ty ≡ true
type_more least c k ty h = type_known-where (is_usable least c) (is_usable least (with_constant c k)) (usable_more least c k) 0 ty h

pub statement_more : (least : ℕ) (c : Context) (k : Constant) (n : ℕ) (s : Statement) → statement_known (is_usable least c) n s ≡ true → statement_known (is_usable least (with_constant c k)) n s ≡ true
statement_more least c k n s h = statement_known-where (is_usable least c) (is_usable least (with_constant c k)) (usable_more least c k) n s h

constant_more : (least : ℕ) (c : Context) (k x : Constant) → IsUsableConstant least c x → IsUsableConstant least (with_constant c k) x
constant_more least c k x u = (type_more least c k x.ty u.0, λ t e. term_more least c k t (u.1 t e))

-- one constant more
pub constant_law : ConstantLaw
constant_law least c k w u =
    record {
      constants = λ n x e le. either (numbered_last c.constants k n x e) (λ h. constant_more least c k x (w.constants n x h le)) (λ h. subst (IsUsableConstant least (with_constant c k)) h.1 (constant_more least c k k u));
      reserved = λ v i f. type_more least c k v.ty (w.reserved v i f);
      labelled = λ p i f. statement_more least c k 0 p.statement (w.labelled p i f);
      previous = λ s e f. statement_more least c k 0 s (w.previous s e f);
      functors = λ f i h. term_known-where (is_usable least c) (is_usable least (with_constant c k)) (usable_more least c k) (length f.places) f.body (w.functors f i h);
      predicates = λ p i h. statement_more least c k (length p.places) p.body (w.predicates p i h);
      letters = w.letters;
      thesis = λ s e. statement_more least c k 0 s (w.thesis s e);
      it_is = λ t e. term_more least c k t (w.it_is t e);
      arguments = all_known-where (is_usable least c) (is_usable least (with_constant c k)) (usable_more least c k) 0 c.arguments w.arguments;
      subject = λ t e. term_more least c k t (w.subject t e);
    }

-- variables
pub usable_variable : (least : ℕ) (c : Context) (v : Variable) → type_usable least c v.ty ≡ true → IsUsableConstant least c (constant_of v)
usable_variable least c v h = (h, λ t e. absurd (none_some t e))

pub variables_law : VariablesLaw
variables_law least c [] w u = w
variables_law least c (v ∷ vs) w u = variables_law least (with_constant c (constant_of v)) vs (constant_law least c (constant_of v) w (usable_variable least c v u.0)) u.1

pub usable_append : (least : ℕ) (c : Context) (vs us : List Variable) → AreUsable least c vs → AreUsable least (with_variables c vs) us → AreUsable least c (vs ++ us)
usable_append least c [] us h k = k
usable_append least c (v ∷ vs) us h k = (h.0, usable_append least (with_constant c (constant_of v)) vs us h.1 k)

-- variables whose types have no constant of one another
abbrev pub AllUsable : ℕ → Context → List Variable → Type 0
AllUsable least c [] = Unit {0}
AllUsable least c (v ∷ vs) = (type_usable least c v.ty ≡ true) × AllUsable least c vs

all_more : (least : ℕ) (c : Context) (k : Constant) (vs : List Variable) → AllUsable least c vs → AllUsable least (with_constant c k) vs
all_more least c k [] h = tt
all_more least c k (v ∷ vs) h = (type_more least c k v.ty h.0, all_more least c k vs h.1)

pub each_usable : (least : ℕ) (c : Context) (vs : List Variable) → AllUsable least c vs → AreUsable least c vs
each_usable least c [] h = tt
each_usable least c (v ∷ vs) h = (h.0, each_usable least (with_constant c (constant_of v)) vs (all_more least c (constant_of v) vs h.1))

-- statements
labelled_parts : (label : List ℕ) (s : Statement) (p : LabelledStatement) → Contains (labelled label s) p → s ≡ p.statement
labelled_parts [] s p c = absurd (let lt = c.1 in omega arith)
labelled_parts (b ∷ bs) s p c = ap (λ (q : LabelledStatement). q.statement) (one_only (record { label = b ∷ bs; statement = s }) p c)

pub labelled_usable : (least : ℕ) (c : Context) (label : List ℕ) (s : Statement) → statement_usable least c s ≡ true → (p : LabelledStatement) → Contains (labelled label s) p → statement_usable least c p.statement ≡ true
labelled_usable least c label s h p i = subst (λ (r : Statement). statement_usable least c r ≡ true) (labelled_parts label s p i) h

pub statement_law : StatementLaw
statement_law least c label s w h =
    record {
      constants = w.constants;
      reserved = w.reserved;
      labelled = λ p i f. either (Contains-append_cases c.labelled (labelled label s) p i) (λ j. w.labelled p j f) (λ j. labelled_usable least c label s h p j);
      previous = λ r e f. subst (λ (q : Statement). statement_usable least c q ≡ true) (some-inj s r e) h;
      functors = w.functors;
      predicates = w.predicates;
      letters = w.letters;
      thesis = w.thesis;
      it_is = w.it_is;
      arguments = w.arguments;
      subject = w.subject;
    }

pub thesis_law : ThesisLaw
thesis_law least c s w h =
    record {
      constants = w.constants;
      reserved = w.reserved;
      labelled = w.labelled;
      previous = w.previous;
      functors = w.functors;
      predicates = w.predicates;
      letters = w.letters;
      thesis = λ r e. subst (λ (q : Statement). statement_usable least c q ≡ true) (some-inj s r e) h;
      it_is = w.it_is;
      arguments = w.arguments;
      subject = w.subject;
    }

pub previous_law : PreviousLaw
previous_law least c w =
    record {
      constants = w.constants;
      reserved = w.reserved;
      labelled = w.labelled;
      previous = λ r e f. absurd (none_some r e);
      functors = w.functors;
      predicates = w.predicates;
      letters = w.letters;
      thesis = w.thesis;
      it_is = w.it_is;
      arguments = w.arguments;
      subject = w.subject;
    }

-- reserved variables, private functors and predicates, letters
pub reserved_law : ReservedLaw
reserved_law least c v w h =
    record {
      constants = w.constants;
      reserved = λ u i f. or_last (λ (x : ReservedVariable). type_usable least c x.ty ≡ true) c.reserved v u i (λ j. w.reserved u j f) h;
      labelled = w.labelled;
      previous = w.previous;
      functors = w.functors;
      predicates = w.predicates;
      letters = w.letters;
      thesis = w.thesis;
      it_is = w.it_is;
      arguments = w.arguments;
      subject = w.subject;
    }

pub functor_law : FunctorLaw
functor_law least c f w h =
    record {
      constants = w.constants;
      reserved = w.reserved;
      labelled = w.labelled;
      previous = w.previous;
      functors = λ g i u. or_last (λ (x : PrivateFunctor). term_known (is_usable least c) (length x.places) x.body ≡ true) c.functors f g i (λ j. w.functors g j u) h;
      predicates = w.predicates;
      letters = w.letters;
      thesis = w.thesis;
      it_is = w.it_is;
      arguments = w.arguments;
      subject = w.subject;
    }

pub predicate_law : PredicateLaw
predicate_law least c p w h =
    record {
      constants = w.constants;
      reserved = w.reserved;
      labelled = w.labelled;
      previous = w.previous;
      functors = w.functors;
      predicates = λ q i u. or_last (λ (x : PrivatePredicate). statement_known (is_usable least c) (length x.places) x.body ≡ true) c.predicates p q i (λ j. w.predicates q j u) h;
      letters = w.letters;
      thesis = w.thesis;
      it_is = w.it_is;
      arguments = w.arguments;
      subject = w.subject;
    }

pub letter_law : LetterLaw
letter_law least c l w h =
    record {
      constants = w.constants;
      reserved = w.reserved;
      labelled = w.labelled;
      previous = w.previous;
      functors = w.functors;
      predicates = w.predicates;
      letters = λ m i. or_last (λ (x : NamedLetter). letter_closed x.letter ≡ true) c.letters l m i (λ j. w.letters m j) h;
      thesis = w.thesis;
      it_is = w.it_is;
      arguments = w.arguments;
      subject = w.subject;
    }

-- nothing is put into a context
numbered-nothing_at : (n : ℕ) → numbered [] n ≡ None
numbered-nothing_at zero = refl
numbered-nothing_at (suc n) = refl

not_there : {X : Type 0} (xs : List X) (x : X) → xs ≡ [] → Contains xs x → ⊥
not_there {X} xs x e c = let i : Contains [] x = subst (λ (ys : List X). Contains ys x) e c in let lt = i.1 in omega arith

not_any : {X : Type 0} (o : Option X) (x : X) → o ≡ None → o ≡ Some x → ⊥
not_any o x e h = none_some x (sym e ∙ h)

pub empty_law : EmptyLaw
empty_law least c w =
    record {
      constants = λ n k e le. absurd (none_some k (sym (numbered-nothing_at n) ∙ (ap (λ ks. numbered ks n) (sym w.constants) ∙ e)));
      reserved = λ v i f. absurd (not_there c.reserved v w.reserved i);
      labelled = λ p i f. absurd (not_there c.labelled p w.labelled i);
      previous = λ s e f. absurd (not_any c.previous s w.previous e);
      functors = λ f i u. absurd (not_there c.functors f w.functors i);
      predicates = λ p i u. absurd (not_there c.predicates p w.predicates i);
      letters = λ l i. absurd (not_there c.letters l w.letters i);
      thesis = λ s e. absurd (not_any c.thesis s w.thesis e);
      it_is = λ t e. absurd (not_any c.it t w.it_is e);
      arguments = ap (list_all (term_usable least c)) w.arguments;
      subject = λ t e. absurd (not_any c.subject t w.subject e);
    }

-- the constants may no longer be used
from_now_on : (least : ℕ) (c : Context) (m : ℕ) → is_usable 0 c m ≡ true → least ≤ m → is_usable least c m ≡ true
from_now_on least c m h le = usable_from least c m le (usable_parts 0 c m h).1

functor_from_zero : (f : PrivateFunctor) → is_functor_usable 0 f ≡ true
functor_from_zero f = term_from-zero f.body

predicate_from_zero : (p : PrivatePredicate) → is_predicate_usable 0 p ≡ true
predicate_from_zero p = statement_from-zero p.body

pub whole_from_law : WholeFromLaw
whole_from_law least c w le no_thesis no_it no_arguments no_subject =
    record {
      constants = λ n k e i. absurd (let lt : n < next c = numbered_below c.constants n k e in omega (arith, lt, le, i));
      reserved = λ v i f. type_known-with (is_usable 0 c) (is_usable least c) least (from_now_on least c) 0 v.ty (w.reserved v i (type_from-zero v.ty)) f;
      labelled = λ p i f. statement_known-with (is_usable 0 c) (is_usable least c) least (from_now_on least c) 0 p.statement (w.labelled p i (statement_from-zero p.statement)) f;
      previous = λ s e f. statement_known-with (is_usable 0 c) (is_usable least c) least (from_now_on least c) 0 s (w.previous s e (statement_from-zero s)) f;
      functors = λ f i u. term_known-with (is_usable 0 c) (is_usable least c) least (from_now_on least c) (length f.places) f.body (w.functors f i (functor_from_zero f)) u;
      predicates = λ p i u. statement_known-with (is_usable 0 c) (is_usable least c) least (from_now_on least c) (length p.places) p.body (w.predicates p i (predicate_from_zero p)) u;
      letters = w.letters;
      thesis = λ s e. absurd (not_any c.thesis s no_thesis e);
      it_is = λ t e. absurd (not_any c.it t no_it e);
      arguments = ap (list_all (term_usable least c)) no_arguments;
      subject = λ t e. absurd (not_any c.subject t no_subject e);
    }
