-- Symbols, private functors and predicates, and letters applied to usable arguments.
use Rattle.std.proofs.Common.{◌≡◌, ◌≤◌, ◌<◌, ◌⊎◌, inl, inr, ◌-◌, ◌+◌, ℕ, zero, suc, Bool, true, false, List, [], ◌∷◌, ◌++◌, refl, sym, ap, ◌∙◌, subst, arith, length, length-append, take, reverse, Option, Some, None}
use Rattle.std.specs.Prelude.{not, nat_le, nat_eq, if◌then◌else◌, Result, Ok, Err, Contains, slice_get}
use Rattle.std.specs.List.{list_all, list_any}
use Rattle.std.proofs.lemmas.Bool.{leb-true, eqb-true, true≢false}
use mathlib.Core.List.{reverse-cons}
use Rattle.std.proofs.lemmas.List.Elements.{Contains-append_cases}
use Rattle.std.proofs.Math.Seq.{take-append_seam}
use Rattle.mz_base.specs.declared.place.Place.{Place}
use Rattle.mz_logic.specs.Term.{Term, Const, App, terms_of}
use Rattle.mz_logic.specs.Constants.{occurs}
use Rattle.mz_logic.specs.Substitution.{substitute, argument_at}
use Rattle.mz_logic.specs.declared.literal.Literal.{Literal}
use Rattle.mz_logic.specs.declared.literal.Literal.TheVariants as literal
use Rattle.mz_core.specs.Statement.{Statement, Atom}
use Rattle.mz_core.specs.TypeStatements.{literal_statement}
use Rattle.mz_core.specs.TypeSubstitution.{substitute_statement}
use Rattle.mz_core.specs.declared.adjective.Adjective.{Adjective}
use Rattle.mz_core.specs.declared.soft_type.SoftType.{SoftType}
use Rattle.mz_core.specs.declared.notation.Meaning.{Meaning}
use Rattle.mz_core.specs.declared.notation.Meaning.TheVariants.{OfTerm, OfLiteral, OfType}
use Rattle.mz_core.proofs.AllLemmas.{literal_statement_all}
use Rattle.mz_context.specs.Context.{numbered, numbers, next}
use Rattle.mz_context.specs.declared.constants.Constant.{Constant}
use Rattle.mz_context.specs.declared.context.Context.{Context}
use Rattle.mz_context.specs.declared.letters.NamedLetter.{NamedLetter}
use Rattle.mz_context.specs.declared.private.PrivateFunctor.{PrivateFunctor}
use Rattle.mz_context.specs.declared.private.PrivatePredicate.{PrivatePredicate}
use Rattle.mz_context.specs.declared.reserved.ReservedVariable.{ReservedVariable}
use Rattle.mz_environment.specs.declared.environment.Environment.{Environment}
use Rattle.mz_closed_laws.specs.ClosedEnvironment.{IsClosedEnvironment}
use Rattle.mz_types.specs.Known.{typing}
use Rattle.mz_chain_laws.proofs.StructureHolds.{found}
use Rattle.mz_fits.proofs.OneMatch.{some-inj, none_some}
use Rattle.mz_names.specs.Names.{has_name, is_some, is_reserved_as, reserved_as, usable_type, reserved_type, latest_up_to, number_of, if_usable, variable, argument, is_functor_as, is_predicate_as, functor_letter, predicate_letter, letter_sym, letter_places}
use Rattle.mz_names.specs.Scope.{type_from}
use Rattle.mz_names.specs.declared.refusal.Refusal.{Refusal}
use Rattle.mz_names.specs.declared.refusal.Refusal.TheVariants.{NoNotation, TooLarge}
use Rattle.mz_choice.specs.Choice as co
use Rattle.mz_choice.specs.Choice.{Suits, EndsWithFresh}
use Rattle.mz_choice.specs.declared.choice.Applied.{Applied}
use Rattle.mz_choice.specs.declared.choice.Wanted.{Wanted}
use Rattle.mz_choice.specs.declared.choice.Wanted.TheVariants.{Anything, AdjectiveOf, AdjectiveOfFresh}
use Rattle.mz_sizes.specs.Sizes.{term_keeps, adjective_keeps, statement_keeps}
use Rattle.mz_applied.specs.Within.{within}
use Rattle.mz_applied.specs.Meant.{as_term, as_type, as_statement, keeps_alone, as_attributed, as_adjective, adjective_of, sign_of, literal_of, but_last}
use Rattle.mz_applied.specs.Private as pr
use Rattle.mz_applied.specs.Private.{Admits, is_functor_usable, is_predicate_usable, term_of_letter, statement_of_letter, AppliesFunctor, AppliesPredicate}
use Rattle.mz_applied.specs.Reading.{ReadsAs}
use Rattle.mz_choice_laws.specs.Known.{term_known, adjective_known, type_known, literal_known, statement_known, meaning_known, HasKnownTypes}
use Rattle.mz_choice_laws.proofs.ListParts.{all-take, all-get}
use Rattle.mz_choice_laws.proofs.KnownTerms.{args_known-terms_of}
use Rattle.mz_choice_laws.proofs.KnownValues.{term_at_arguments, statement_at_arguments}
use Rattle.mz_choice_laws.proofs.KnownChain.{known_chain_law}
use Rattle.mz_choice_laws.proofs.KnownChoice.{known_meaning_law, suited_law}
use Rattle.mz_term_laws.specs.Usable.{is_usable, term_usable, type_usable, statement_usable}
use Rattle.mz_term_laws.specs.Whole.{IsWhole}
use Rattle.mz_term_laws.specs.TermLaws.{ReservedTypeLaw, RadicesLaw}
use Rattle.mz_term_laws.proofs.Outcomes.{on_ok, if_any, on_within, on_reads_as}
use Rattle.mz_term_laws.proofs.UsableProofs.{term_from-weaker, type_from-weaker, statement_from-weaker, numbered_below, usable_from}
use Rattle.mz_term_laws.proofs.ChangeProofs.{known_types}

-- what the laws on reading start from
pub record Reading (e : Environment) (c : Context) (from least : ℕ) : Type 0 where
  pub environment : IsClosedEnvironment e
  pub context : IsWhole from c
  pub below : from ≤ least

-- meanings in their forms
term_form : (known : ℕ → Bool) (place first : Place) (m : Meaning) → meaning_known known 0 m ≡ true → on_ok (term_known known 0) (as_term place first m) ≡ true
term_form known place first (OfTerm t) h = on_within (term_known known 0) term_keeps first t h
term_form known place first (OfLiteral l) h = refl
term_form known place first (OfType ty) h = refl

type_form : (known : ℕ → Bool) (place : Place) (m : Meaning) → meaning_known known 0 m ≡ true → on_ok (type_known known 0) (as_type place m) ≡ true
type_form known place (OfTerm t) h = refl
type_form known place (OfLiteral l) h = refl
type_form known place (OfType ty) h = h

statement_form : (known : ℕ → Bool) (place first : Place) (m : Meaning) → meaning_known known 0 m ≡ true → on_ok (statement_known known 0) (as_statement place first m) ≡ true
statement_form known place first (OfTerm t) h = refl
statement_form known place first (OfLiteral l) h = on_within (statement_known known 0) statement_keeps first (literal_statement l) (literal_statement_all (term_known known) 0 l h)
statement_form known place first (OfType ty) h = refl

literal_of_known : (known : ℕ → Bool) (non : Bool) (l : Literal) → literal_known known 0 l ≡ true → literal_known known 0 (literal_of non l) ≡ true
literal_of_known known non (literal.Atom positive s ts) h = h
literal_of_known known non (literal.Eq positive t u) h = h

attributed_step : (known : ℕ → Bool) (first : Place) (s : Statement) (b : Bool) → statement_known known 0 s ≡ true → on_ok (statement_known known 0) (if b then Ok s else Err (TooLarge first)) ≡ true
attributed_step known first s true h = h
attributed_step known first s false h = refl

attributed_form : (known : ℕ → Bool) (non : Bool) (place first : Place) (m : Meaning) → meaning_known known 0 m ≡ true → on_ok (statement_known known 0) (as_attributed non place first m) ≡ true
attributed_form known non place first (OfTerm t) h = refl
attributed_form known non place first (OfLiteral l) h =
    attributed_step known first (literal_statement (literal_of non l)) (keeps_alone l) (literal_statement_all (term_known known) 0 (literal_of non l) (literal_of_known known non l h))
attributed_form known non place first (OfType ty) h = refl

literal_adjective : (known : ℕ → Bool) (non : Bool) (place first : Place) (l : Literal) → literal_known known 0 l ≡ true → on_ok (adjective_known known 0) (adjective_of non place first l) ≡ true
literal_adjective known non place first (literal.Atom positive s ts) h =
    on_within (adjective_known known 0) adjective_keeps first (record { positive = sign_of non positive; sym = s; args = but_last ts }) (all-take (term_known known 0) (length ts - 1) ts h)
literal_adjective known non place first (literal.Eq positive t u) h = refl

adjective_form : (known : ℕ → Bool) (non : Bool) (place first : Place) (m : Meaning) → meaning_known known 0 m ≡ true → on_ok (adjective_known known 0) (as_adjective non place first m) ≡ true
adjective_form known non place first (OfTerm t) h = refl
adjective_form known non place first (OfLiteral l) h = literal_adjective known non place first l h
adjective_form known non place first (OfType ty) h = refl

-- a symbol applied to arguments
abbrev ArgumentsKnown : (ℕ → Bool) → Applied → Type 0
ArgumentsKnown known a = list_all (term_known known 0) (a.left ++ a.right) ≡ true

pub reads_term : (known : ℕ → Bool) (e : Environment) (c : Context) → IsClosedEnvironment e → HasKnownTypes known c → (w : Wanted) (place q first : Place) (a : Applied) → ArgumentsKnown known a → (o : Result Term Refusal) → ReadsAs e c w place (as_term q first) a o → on_ok (term_known known 0) o ≡ true
reads_term known e c ce h w place q first a ka o r =
    on_reads_as (term_known known 0) e c w place (as_term q first) a (λ m k. term_form known q first m (known_meaning_law known (typing e c) e c ce h w a m ka k)) o r

pub reads_type : (known : ℕ → Bool) (e : Environment) (c : Context) → IsClosedEnvironment e → HasKnownTypes known c → (w : Wanted) (place q : Place) (a : Applied) → ArgumentsKnown known a → (o : Result SoftType Refusal) → ReadsAs e c w place (as_type q) a o → on_ok (type_known known 0) o ≡ true
reads_type known e c ce h w place q a ka o r =
    on_reads_as (type_known known 0) e c w place (as_type q) a (λ m k. type_form known q m (known_meaning_law known (typing e c) e c ce h w a m ka k)) o r

pub reads_statement : (known : ℕ → Bool) (e : Environment) (c : Context) → IsClosedEnvironment e → HasKnownTypes known c → (w : Wanted) (place q first : Place) (a : Applied) → ArgumentsKnown known a → (o : Result Statement Refusal) → ReadsAs e c w place (as_statement q first) a o → on_ok (statement_known known 0) o ≡ true
reads_statement known e c ce h w place q first a ka o r =
    on_reads_as (statement_known known 0) e c w place (as_statement q first) a (λ m k. statement_form known q first m (known_meaning_law known (typing e c) e c ce h w a m ka k)) o r

pub reads_attributed : (known : ℕ → Bool) (e : Environment) (c : Context) → IsClosedEnvironment e → HasKnownTypes known c → (w : Wanted) (non : Bool) (place q first : Place) (a : Applied) → ArgumentsKnown known a → (o : Result Statement Refusal) → ReadsAs e c w place (as_attributed non q first) a o → on_ok (statement_known known 0) o ≡ true
reads_attributed known e c ce h w non place q first a ka o r =
    on_reads_as (statement_known known 0) e c w place (as_attributed non q first) a (λ m k. attributed_form known non q first m (known_meaning_law known (typing e c) e c ce h w a m ka k)) o r

pub reads_adjective : (known : ℕ → Bool) (e : Environment) (c : Context) → IsClosedEnvironment e → HasKnownTypes known c → (w : Wanted) (non : Bool) (place q first : Place) (a : Applied) → ArgumentsKnown known a → (o : Result Adjective Refusal) → ReadsAs e c w place (as_adjective non q first) a o → on_ok (adjective_known known 0) o ≡ true
reads_adjective known e c ce h w non place q first a ka o r =
    on_reads_as (adjective_known known 0) e c w place (as_adjective non q first) a (λ m k. adjective_form known non q first m (known_meaning_law known (typing e c) e c ce h w a m ka k)) o r

-- an adjective of a fresh constant lacks it
abbrev pub lacks : ℕ → Adjective → Bool
lacks n a = not (list_any (occurs n) a.args)

lacking : (b : Bool) → b ≡ false → not b ≡ true
lacking true h = absurd (true≢false h)
lacking false h = refl

pub lacking_back : (b : Bool) → not b ≡ true → b ≡ false
lacking_back true h = absurd (true≢false (sym h))
lacking_back false h = refl

but_last-append : (ts : List Term) (t : Term) → but_last (ts ++ t ∷ []) ≡ ts
but_last-append ts t =
    let n : length (ts ++ t ∷ []) ≡ length ts + 1 = length-append ts (t ∷ []) in
    let m : length (ts ++ t ∷ []) - 1 ≡ length ts = omega (arith, n) in
    ap (λ k. take k (ts ++ t ∷ [])) m ∙ take-append_seam ts (t ∷ [])

ends_lack : (n : ℕ) (ts : List Term) → EndsWithFresh ts n → list_any (occurs n) (but_last ts) ≡ false
ends_lack n ts h = ap (λ us. list_any (occurs n) (but_last us)) h.is ∙ (ap (list_any (occurs n)) (but_last-append h.before (Const n)) ∙ h.others)

-- by what it was wanted for
abbrev LacksAs : Wanted → Bool → Place → Place → Meaning → Type 0
LacksAs Anything non place first m = Unit {0}
LacksAs (AdjectiveOf t) non place first m = Unit {0}
LacksAs (AdjectiveOfFresh n) non place first m = on_ok (lacks n) (as_adjective non place first m) ≡ true

suited_lacks : (non : Bool) (place first : Place) (w : Wanted) (m : Meaning) → Suits w m → LacksAs w non place first m
suited_lacks non place first w m (co.anything k) = tt
suited_lacks non place first w m (co.of_subject t positive s ts i h) = tt
suited_lacks non place first w m (co.of_fresh n positive s ts i h) =
    on_within (lacks n) adjective_keeps first (record { positive = sign_of non positive; sym = s; args = but_last ts }) (lacking (list_any (occurs n) (but_last ts)) (ends_lack n ts h))

pub reads_lacking : (e : Environment) (c : Context) (n : ℕ) (non : Bool) (place q first : Place) (a : Applied) (o : Result Adjective Refusal) → ReadsAs e c (AdjectiveOfFresh n) place (as_adjective non q first) a o → on_ok (lacks n) o ≡ true
reads_lacking e c n non place q first a o r =
    on_reads_as (lacks n) e c (AdjectiveOfFresh n) place (as_adjective non q first) a (λ m k. suited_lacks non q first (AdjectiveOfFresh n) m (suited_law (typing e c) e c (AdjectiveOfFresh n) a m k)) o r

-- identifiers
has_name_there : (name : List ℕ) (o : Option Constant) → has_name name o ≡ true → is_some o ≡ true
has_name_there name None h = h
has_name_there name (Some x) h = refl

named_step : (name : List ℕ) (ks : List (Option Constant)) (k n : ℕ) (b : Bool) → has_name name (numbered ks (suc k)) ≡ b → (latest_up_to name ks k ≡ Some n → is_some (numbered ks n) ≡ true) → (if b then Some (suc k) else latest_up_to name ks k) ≡ Some n → is_some (numbered ks n) ≡ true
named_step name ks k n true e f h = subst (λ i. is_some (numbered ks i) ≡ true) (some-inj (suc k) n h) (has_name_there name (numbered ks (suc k)) e)
named_step name ks k n false e f h = f h

named_there : (name : List ℕ) (ks : List (Option Constant)) (k n : ℕ) → latest_up_to name ks k ≡ Some n → is_some (numbered ks n) ≡ true
named_there name ks zero n h = absurd (none_some n h)
named_there name ks (suc k) n h = named_step name ks k n (has_name name (numbered ks (suc k))) refl (named_there name ks k n) h

number_step : (from least : ℕ) (c : Context) (n : ℕ) (b : Bool) → nat_le least n ≡ b → from ≤ least → n < next c → if_any (term_usable from c) (if b then Some (Const n) else None) ≡ true
number_step from least c n true e le lt = let q : least ≤ n = leb-true least n e in usable_from from c n (omega (arith, le, q)) lt
number_step from least c n false e le lt = refl

number_usable : (from least : ℕ) (c : Context) (o : Option ℕ) → from ≤ least → ((n : ℕ) → o ≡ Some n → n < next c) → if_any (term_usable from c) (if_usable least o) ≡ true
number_usable from least c None le f = refl
number_usable from least c (Some n) le f = number_step from least c n (nat_le least n) refl le (f n refl)

-- a constant that is there is below the next one
below_next : (ks : List (Option Constant)) (n : ℕ) (o : Option Constant) → numbered ks n ≡ o → is_some o ≡ true → n < numbers ks
below_next ks n None e h = absurd (true≢false (sym h))
below_next ks n (Some k) e h = numbered_below ks n k e

pub variable_usable : (from least : ℕ) (c : Context) → from ≤ least → (name : List ℕ) → if_any (term_usable from c) (variable least c name) ≡ true
variable_usable from least c le name =
    number_usable from least c (number_of name c.constants) le (λ n h. below_next c.constants n (numbered c.constants n) refl (named_there name c.constants (length c.constants) n h))

optional : (p : Term → Bool) (o : Option Term) → ((t : Term) → o ≡ Some t → p t ≡ true) → if_any p o ≡ true
optional p None f = refl
optional p (Some t) f = f t refl

pub subject_usable : (from : ℕ) (c : Context) → IsWhole from c → if_any (term_usable from c) c.it ≡ true
subject_usable from c w = optional (term_usable from c) c.it w.it_is

pub argument_usable : (from : ℕ) (c : Context) → IsWhole from c → (k : ℕ) → if_any (term_usable from c) (argument c k) ≡ true
argument_usable from c w zero = refl
argument_usable from c w (suc k) = optional (term_usable from c) (slice_get c.arguments k) (λ t e. all-get (term_usable from c) c.arguments k t w.arguments e)

-- the latest of a list
reversed_step : {X : Type 0} (x y : X) (ys : List X) → (Contains (reverse ys) x → Contains ys x) → Contains (reverse ys) x ⊎ Contains (y ∷ []) x → Contains (y ∷ ys) x
reversed_step x y ys f (inl i) = let r : Contains ys x = f i in (suc r.0, omega (arith, r.1), r.2)
reversed_step x y ys f (inr (zero, lt, e)) = (0, omega arith, e)
reversed_step x y ys f (inr (suc k, lt, e)) = absurd (omega (arith, lt))

pub contains_reverse : {X : Type 0} (xs : List X) (x : X) → Contains (reverse xs) x → Contains xs x
contains_reverse [] x c = c
contains_reverse {X} (y ∷ ys) x c =
    reversed_step x y ys (λ i. contains_reverse ys x i) (Contains-append_cases (reverse ys) (y ∷ []) x (subst (λ (zs : List X). Contains zs x) (reverse-cons y ys) c))

-- the type of a reserved variable
reserved_step : (from least : ℕ) (c : Context) → from ≤ least → IsWhole from c → (v : ReservedVariable) → Contains c.reserved v → (b : Bool) → type_from least v.ty ≡ b → if_any (type_usable from c) (if b then Some v.ty else None) ≡ true
reserved_step from least c le w v i true e = w.reserved v i (type_from-weaker from least le v.ty e)
reserved_step from least c le w v i false e = refl

usable_reserved : (from least : ℕ) (c : Context) → from ≤ least → IsWhole from c → (o : Option ReservedVariable) → ((v : ReservedVariable) → o ≡ Some v → Contains c.reserved v) → if_any (type_usable from c) (usable_type least o) ≡ true
usable_reserved from least c le w None f = refl
usable_reserved from least c le w (Some v) f = reserved_step from least c le w v (f v refl) (type_from least v.ty) refl

pub reserved_usable : (from least : ℕ) (c : Context) → from ≤ least → IsWhole from c → (name : List ℕ) → if_any (type_usable from c) (reserved_type least c name) ≡ true
reserved_usable from least c le w name =
    usable_reserved from least c le w (reserved_as name c.reserved) (λ v e. contains_reverse c.reserved v (found (is_reserved_as name) (reverse c.reserved) v e).0)

some_usable : (p : SoftType → Bool) (o : Option SoftType) → if_any p o ≡ true → (ty : SoftType) → o ≡ Some ty → p ty ≡ true
some_usable p None h ty e = absurd (none_some ty e)
some_usable p (Some x) h ty e = subst (λ (y : SoftType). p y ≡ true) (some-inj x ty e) h

pub reserved_type_law : ReservedTypeLaw
reserved_type_law c from least w le name ty e = some_usable (type_usable from c) (reserved_type least c name) (reserved_usable from least c le w name) ty e

-- private functors and predicates
admitted : (e : Environment) (c : Context) (place : Place) (usable : Bool) (places : List SoftType) (ts : List Term) (o : Option Refusal) → Admits e c place usable places ts o → o ≡ None → (usable ≡ true) × (length ts ≡ length places)
admitted e c place usable places ts o (pr.other_number k) q = absurd (none_some _ (sym q))
admitted e c place usable places ts o (pr.unfit k n) q = absurd (none_some _ (sym q))
admitted e c place usable places ts o (pr.not_usable k p h) q = absurd (none_some _ (sym q))
admitted e c place usable places ts o (pr.admits k p h) q = (h, eqb-true (length ts) (length places) k)

functor_weaker : (from least : ℕ) → from ≤ least → (f : PrivateFunctor) → is_functor_usable least f ≡ true → is_functor_usable from f ≡ true
functor_weaker from least le f h = term_from-weaker from least le f.body h

predicate_weaker : (from least : ℕ) → from ≤ least → (p : PrivatePredicate) → is_predicate_usable least p ≡ true → is_predicate_usable from p ≡ true
predicate_weaker from least le p h = statement_from-weaker from least le p.body h

letter_term_step : (known : ℕ → Bool) (place : Place) (ts : List Term) (l : NamedLetter) (b : Bool) → list_all (term_known known 0) ts ≡ true → on_ok (term_known known 0) (if b then within term_keeps place (App (letter_sym l.letter) (terms_of ts)) else Err (NoNotation place)) ≡ true
letter_term_step known place ts l true h = on_within (term_known known 0) term_keeps place (App (letter_sym l.letter) (terms_of ts)) (args_known-terms_of known 0 ts ∙ h)
letter_term_step known place ts l false h = refl

letter_term : (known : ℕ → Bool) (place : Place) (ts : List Term) (o : Option NamedLetter) → list_all (term_known known 0) ts ≡ true → on_ok (term_known known 0) (term_of_letter place ts o) ≡ true
letter_term known place ts None h = refl
letter_term known place ts (Some l) h = letter_term_step known place ts l (nat_eq (length ts) (length (letter_places l.letter))) h

letter_statement_step : (known : ℕ → Bool) (place : Place) (ts : List Term) (l : NamedLetter) (b : Bool) → list_all (term_known known 0) ts ≡ true → on_ok (statement_known known 0) (if b then within statement_keeps place (Atom (letter_sym l.letter) ts) else Err (NoNotation place)) ≡ true
letter_statement_step known place ts l true h = on_within (statement_known known 0) statement_keeps place (Atom (letter_sym l.letter) ts) h
letter_statement_step known place ts l false h = refl

letter_statement : (known : ℕ → Bool) (place : Place) (ts : List Term) (o : Option NamedLetter) → list_all (term_known known 0) ts ≡ true → on_ok (statement_known known 0) (statement_of_letter place ts o) ≡ true
letter_statement known place ts None h = refl
letter_statement known place ts (Some l) h = letter_statement_step known place ts l (nat_eq (length ts) (length (letter_places l.letter))) h

pub applies_functor : (e : Environment) (c : Context) (from least : ℕ) → Reading e c from least → (place : Place) (name : List ℕ) (ts : List Term) → list_all (term_usable from c) ts ≡ true → (o : Result Term Refusal) → AppliesFunctor e c least place name ts o → on_ok (term_usable from c) o ≡ true
applies_functor e c from least r place name ts kt o (pr.functor_refused f x i a) = refl
applies_functor e c from least r place name ts kt o (pr.functor_expanded f i a) =
    let q : (is_functor_usable least f ≡ true) × (length ts ≡ length f.places) = admitted e c place (is_functor_usable least f) f.places ts None a refl in
    let there : Contains c.functors f = contains_reverse c.functors f (found (is_functor_as name) (reverse c.functors) f i).0 in
    on_within (term_usable from c) term_keeps place (substitute 0 (argument_at ts) f.body)
    (term_at_arguments (is_usable from c) ts (length f.places) kt q.1 f.body (r.context.functors f there (functor_weaker from least r.below f q.0)))
applies_functor e c from least r place name ts kt o (pr.letter_of_functor i) = letter_term (is_usable from c) place ts (functor_letter c name) kt

pub applies_predicate : (e : Environment) (c : Context) (from least : ℕ) → Reading e c from least → (place : Place) (name : List ℕ) (ts : List Term) → list_all (term_usable from c) ts ≡ true → (o : Result Statement Refusal) → AppliesPredicate e c least place name ts o → on_ok (statement_usable from c) o ≡ true
applies_predicate e c from least r place name ts kt o (pr.predicate_refused p x i a) = refl
applies_predicate e c from least r place name ts kt o (pr.predicate_expanded p i a) =
    let q : (is_predicate_usable least p ≡ true) × (length ts ≡ length p.places) = admitted e c place (is_predicate_usable least p) p.places ts None a refl in
    let there : Contains c.predicates p = contains_reverse c.predicates p (found (is_predicate_as name) (reverse c.predicates) p i).0 in
    on_within (statement_usable from c) statement_keeps place (substitute_statement 0 (argument_at ts) p.body)
    (statement_at_arguments (is_usable from c) ts (length p.places) kt q.1 p.body (r.context.predicates p there (predicate_weaker from least r.below p q.0)))
applies_predicate e c from least r place name ts kt o (pr.letter_of_predicate i) = letter_statement (is_usable from c) place ts (predicate_letter c name) kt

-- radices
pub radices_law : RadicesLaw
radices_law e c from ce w t rs h chain = known_chain_law (is_usable from c) (typing e c) e c ce (known_types from c w) t rs h chain
