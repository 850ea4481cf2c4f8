-- What adjectives and types are read to is usable.
use Rattle.std.proofs.Common.{◌≡◌, ◌<◌, arith, ◌⊎◌, inl, inr, ℕ, Bool, true, false, List, [], ◌∷◌, ◌++◌, refl, sym, ◌∙◌, subst, Some}
use Rattle.std.specs.Prelude.{◌||◌, nat_eq, Result, Ok, Err}
use Rattle.std.specs.List.{list_all, list_any}
use Rattle.std.proofs.lemmas.Bool.{and_parts, and_from, eqb-true, eq-eqb, true≢false, or_right}
use Rattle.mz_std_laws.proofs.Sums.{either}
use Rattle.mz_logic.specs.Term.{Term, Const}
use Rattle.mz_logic.specs.Constants.{occurs}
use Rattle.mz_core.specs.declared.adjective.Adjective.{Adjective}
use Rattle.mz_core.specs.declared.soft_type.SoftType.{SoftType}
use Rattle.mz_core.proofs.AllLemmas.{all-append}
use Rattle.mz_context.specs.declared.constants.Constant.{Constant}
use Rattle.mz_context.specs.declared.context.Context.{Context}
use Rattle.mz_context.specs.Context.{constant_at, next}
use Rattle.mz_context.specs.Changes.{with_constant}
use Rattle.mz_environment.specs.declared.environment.Environment.{Environment}
use Rattle.mz_fits.proofs.OneMatch.{none_some}
use Rattle.mz_names.specs.Names.{variable, known_or}
use Rattle.mz_names.specs.declared.refusal.Refusal.{Refusal}
use Rattle.mz_choice.specs.declared.choice.Wanted.{Wanted}
use Rattle.mz_choice.specs.declared.choice.Wanted.TheVariants.{Anything, AdjectiveOfFresh}
use Rattle.mz_choice.specs.Cover.{bare}
use Rattle.mz_choice.specs.Fresh.{fresh, with_fresh}
use Rattle.mz_sizes.specs.Sizes.{type_keeps}
use Rattle.mz_tree.specs.Trees.{AdjectiveData, TypeData}
use Rattle.mz_applied.specs.Application.{application, attribute_of}
use Rattle.mz_terms.specs.Adjectives as ad
use Rattle.mz_terms.specs.Adjectives.{is_denied, attribute_in, ReadsOwn, ReadsAdjective, ReadsAdjectives}
use Rattle.mz_terms.specs.Types as ty
use Rattle.mz_terms.specs.Types.{radix_in, radix_kind, ReadsRadixTerms, ReadsRadix, ReadsWritten, ReadsParts, ReadsType, ReadsRegistered}
use Rattle.mz_choice_laws.specs.Known.{term_known, adjective_known, type_known, HasKnownTypes}
use Rattle.mz_choice_laws.proofs.KnownTerms.{all_known-apart}
use Rattle.mz_choice_laws.proofs.KnownValues.{type_known-where, all_known-where}
use Rattle.mz_term_laws.specs.Usable.{is_usable, term_usable, adjective_usable, type_usable}
use Rattle.mz_term_laws.specs.TermLaws.{AdjectivesLaw, TypeLaw, RegisteredLaw}
use Rattle.mz_term_laws.proofs.Outcomes.{on_ok, on_within, on_known_or, on_as_list}
use Rattle.mz_term_laws.proofs.UsableProofs.{numbered_last, numbered_below, usable_apart}
use Rattle.mz_term_laws.proofs.ChangeProofs.{known_types, constant_law}
use Rattle.mz_term_laws.proofs.AppliedProofs.{Reading, reads_type, reads_adjective, lacks, lacking_back, reads_lacking, variable_usable}
use Rattle.mz_term_laws.proofs.TermProofs.{all_usable}

-- an adjective's arguments
pub own_usable : (e : Environment) (c : Context) (from least : ℕ) → Reading e c from least → (a : AdjectiveData) (o : Result (List Term) Refusal) → ReadsOwn e c least a o → on_ok (list_all (term_usable from c)) o ≡ true
own_usable e c from least r a o (ad.plain non w) = refl
own_usable e c from least r a o (ad.with_identifier non x w) =
    on_as_list (term_usable from c) (known_or x.place (variable least c x.spelling)) (on_known_or (term_usable from c) x.place (variable least c x.spelling) (variable_usable from least c r.below x.spelling))
own_usable e c from least r a o (ad.with_terms non p q ts w x h) = all_usable e c from least r ts x h

-- adjectives, where the subject and all that is usable is known
adjective_is_known : (known : ℕ → Bool) (e : Environment) (c : Context) (from least : ℕ) → Reading e c from least → HasKnownTypes known c → ((n : ℕ) → is_usable from c n ≡ true → known n ≡ true) → (w : Wanted) (t : Term) → term_known known 0 t ≡ true → (a : AdjectiveData) (o : Result Adjective Refusal) → ReadsAdjective e c least w t a o → on_ok (adjective_known known 0) o ≡ true
adjective_is_known known e c from least r hk f w t kt a o (ad.own_refused b x h) = refl
adjective_is_known known e c from least r hk f w t kt a o (ad.own_read b ts first x h i k) =
    let own : list_all (term_known known 0) ts ≡ true = all_known-where (is_usable from c) known f 0 ts (own_usable e c from least r b (Ok ts) h) in
    reads_adjective known e c r.environment hk w (is_denied b) (attribute_in b).place (attribute_in b).place first (attribute_of (attribute_in b).spelling ts t)
    (all-append (term_known known 0) ts (t ∷ []) own (and_from (term_known known 0 t) true kt refl)) x k

adjectives_are_known : (known : ℕ → Bool) (e : Environment) (c : Context) (from least : ℕ) → Reading e c from least → HasKnownTypes known c → ((n : ℕ) → is_usable from c n ≡ true → known n ≡ true) → (w : Wanted) (t : Term) → term_known known 0 t ≡ true → (xs : List AdjectiveData) (before : List Adjective) (o : Result (List Adjective) Refusal) → ReadsAdjectives e c least w t xs before o → list_all (adjective_known known 0) before ≡ true → on_ok (list_all (adjective_known known 0)) o ≡ true
adjectives_are_known known e c from least r hk f w t kt xs before o (ad.no_more bs) kb = kb
adjectives_are_known known e c from least r hk f w t kt xs before o (ad.one_refused a rest bs x h) kb = refl
adjectives_are_known known e c from least r hk f w t kt xs before o (ad.one_read a rest bs b x h k) kb =
    adjectives_are_known known e c from least r hk f w t kt rest (bs ++ b ∷ []) x k
    (all-append (adjective_known known 0) bs (b ∷ []) kb (and_from (adjective_known known 0 b) true (adjective_is_known known e c from least r hk f w t kt a (Ok b) h) refl))

-- adjectives of a fresh constant lack it
adjective_lacks : (e : Environment) (c : Context) (least n : ℕ) (t : Term) (a : AdjectiveData) (o : Result Adjective Refusal) → ReadsAdjective e c least (AdjectiveOfFresh n) t a o → on_ok (lacks n) o ≡ true
adjective_lacks e c least n t a o (ad.own_refused b x h) = refl
adjective_lacks e c least n t a o (ad.own_read b ts first x h i k) =
    reads_lacking e c n (is_denied b) (attribute_in b).place (attribute_in b).place first (attribute_of (attribute_in b).spelling ts t) x k

adjectives_lack : (e : Environment) (c : Context) (least n : ℕ) (t : Term) (xs : List AdjectiveData) (before : List Adjective) (o : Result (List Adjective) Refusal) → ReadsAdjectives e c least (AdjectiveOfFresh n) t xs before o → list_all (lacks n) before ≡ true → on_ok (list_all (lacks n)) o ≡ true
adjectives_lack e c least n t xs before o (ad.no_more bs) lb = lb
adjectives_lack e c least n t xs before o (ad.one_refused a rest bs x h) lb = refl
adjectives_lack e c least n t xs before o (ad.one_read a rest bs b x h k) lb =
    adjectives_lack e c least n t rest (bs ++ b ∷ []) x k (all-append (lacks n) bs (b ∷ []) lb (and_from (lacks n b) true (adjective_lacks e c least n t a (Ok b) h) refl))

-- the constants that are known beside a fresh one
abbrev or_number : (ℕ → Bool) → ℕ → ℕ → Bool
or_number known n m = known m || nat_eq m n

or_left : (a b : Bool) → a ≡ true → (a || b) ≡ true
or_left true b h = refl
or_left false b h = absurd (true≢false (sym h))

or_apart : (a b : Bool) → (a || b) ≡ true → b ≡ false → a ≡ true
or_apart true b h k = refl
or_apart false b h k = absurd (true≢false (sym h ∙ k))

or_either : (a b : Bool) → (a || b) ≡ true → (a ≡ true) ⊎ (b ≡ true)
or_either true b h = inl refl
or_either false b h = inr h

old_one : (from : ℕ) (c : Context) (n : ℕ) (k : Constant) → constant_at c n ≡ Some k → or_number (is_usable from c) (next c) n ≡ true → is_usable from c n ≡ true
old_one from c n k j h =
    either (or_either (is_usable from c n) (nat_eq n (next c)) h) (λ u. u)
    (λ u. absurd (let lt : n < next c = numbered_below c.constants n k j in let e : n ≡ next c = eqb-true n (next c) u in omega (arith, lt, e)))

-- what may be used beside the fresh constant is known
beside : (from : ℕ) (c : Context) (k : Constant) (m : ℕ) → is_usable from (with_constant c k) m ≡ true → or_number (is_usable from c) (next c) m ≡ true
beside from c k m h = beside_step (nat_eq m (next c)) refl
  where
    beside_step : (b : Bool) → nat_eq m (next c) ≡ b → or_number (is_usable from c) (next c) m ≡ true
    beside_step true e = or_right (is_usable from c m) (nat_eq m (next c)) e
    beside_step false e = or_left (is_usable from c m) (nat_eq m (next c)) (usable_apart from c k m h e)

-- their types, where the fresh constant has a usable one
fresh_types : (e : Environment) (c : Context) (from least : ℕ) → Reading e c from least → (t : SoftType) → type_usable from c (bare t) ≡ true → HasKnownTypes (or_number (is_usable from c) (next c)) (with_fresh c (bare t))
fresh_types e c from least r t ut =
    let known : ℕ → Bool = or_number (is_usable from c) (next c) in
    let wider : (m : ℕ) → is_usable from c m ≡ true → known m ≡ true = λ m h. or_left (is_usable from c m) (nat_eq m (next c)) h in
    let here : type_known known 0 (bare t) ≡ true = type_known-where (is_usable from c) known wider 0 (bare t) ut in
    record {
      constants = λ n k i h. either (numbered_last c.constants (fresh (bare t)) n k i)
          (λ j. type_known-where (is_usable from c) known wider 0 k.ty ((known_types from c r.context).constants n k j (old_one from c n k j h)))
          (λ j. subst (λ (x : Constant). type_known known 0 x.ty ≡ true) j.1 here);
      letters = r.context.letters;
    }

-- adjectives without the fresh constant
apart_adjectives : (p q : ℕ → Bool) (n : ℕ) → ((m : ℕ) → p m ≡ true → nat_eq m n ≡ false → q m ≡ true) → (xs : List Adjective) → list_all (adjective_known p 0) xs ≡ true → list_all (lacks n) xs ≡ true → list_all (adjective_known q 0) xs ≡ true
apart_adjectives p q n f [] h k = refl
apart_adjectives p q n f (x ∷ xs) h k =
    let a : (adjective_known p 0 x ≡ true) × (list_all (adjective_known p 0) xs ≡ true) = and_parts (adjective_known p 0 x) (list_all (adjective_known p 0) xs) h in
    let b : (lacks n x ≡ true) × (list_all (lacks n) xs ≡ true) = and_parts (lacks n x) (list_all (lacks n) xs) k in
    and_from (adjective_known q 0 x) (list_all (adjective_known q 0) xs) (all_known-apart p q n f 0 x.args a.0 (lacking_back (list_any (occurs n) x.args) b.0)) (apart_adjectives p q n f xs a.1 b.1)

both_on : (p q : ℕ → Bool) (n : ℕ) → ((m : ℕ) → p m ≡ true → nat_eq m n ≡ false → q m ≡ true) → (o : Result (List Adjective) Refusal) → on_ok (list_all (adjective_known p 0)) o ≡ true → on_ok (list_all (lacks n)) o ≡ true → on_ok (list_all (adjective_known q 0)) o ≡ true
both_on p q n f (Err x) h k = refl
both_on p q n f (Ok xs) h k = apart_adjectives p q n f xs h k

fresh_is : (known : ℕ → Bool) (n : ℕ) → or_number known n n ≡ true
fresh_is known n = or_right (known n) (nat_eq n n) (eq-eqb n n refl)

-- the written adjectives of a type
written_usable : (e : Environment) (c : Context) (from least : ℕ) → Reading e c from least → (t : SoftType) → type_usable from c (bare t) ≡ true → (xs : List AdjectiveData) (o : Result (List Adjective) Refusal) → ReadsWritten e c least t xs o → on_ok (list_all (adjective_usable from c)) o ≡ true
written_usable e c from least r t ut xs o h =
    let d : Context = with_fresh c (bare t) in
    let known : ℕ → Bool = or_number (is_usable from c) (next c) in
    let behind : Reading e d from least =
    record { environment = r.environment; context = constant_law from c (fresh (bare t)) r.context (ut, λ u i. absurd (none_some u i)); below = r.below } in
    let kept : on_ok (list_all (adjective_known known 0)) o ≡ true =
    adjectives_are_known known e d from least behind (fresh_types e c from least r t ut) (beside from c (fresh (bare t))) (AdjectiveOfFresh (next c)) (Const (next c)) (fresh_is (is_usable from c) (next c)) xs [] o h refl in
    both_on known (is_usable from c) (next c) (λ m u ne. or_apart (is_usable from c m) (nat_eq m (next c)) u ne) o kept (adjectives_lack e d least (next c) (Const (next c)) xs [] o h refl)

-- types
radix_terms : (e : Environment) (c : Context) (from least : ℕ) → Reading e c from least → (t : TypeData) (o : Result (List Term) Refusal) → ReadsRadixTerms e c least t o → on_ok (list_all (term_usable from c)) o ≡ true
radix_terms e c from least r t o (ty.of_mode xs w) = refl
radix_terms e c from least r t o (ty.of_mode_of xs w p ts x h) = all_usable e c from least r ts x h
radix_terms e c from least r t o (ty.of_structure xs w) = refl
radix_terms e c from least r t o (ty.of_structure_over xs w p ts x h) = all_usable e c from least r ts x h

radix_usable : (e : Environment) (c : Context) (from least : ℕ) → Reading e c from least → (t : TypeData) (o : Result SoftType Refusal) → ReadsRadix e c least t o → on_ok (type_usable from c) o ≡ true
radix_usable e c from least r t o (ty.terms_refused x h) = refl
radix_usable e c from least r t o (ty.terms_read ts x h k) =
    reads_type (is_usable from c) e c r.environment (known_types from c r.context) Anything (radix_in t).place (radix_in t).place (application (radix_kind t) (radix_in t).spelling [] ts) (radix_terms e c from least r t (Ok ts) h) x k

type_parts : (from : ℕ) (c : Context) (t : SoftType) → type_usable from c t ≡ true → (list_all (adjective_usable from c) t.adjectives ≡ true) × (list_all (term_usable from c) t.radix.args ≡ true)
type_parts from c t h = and_parts (list_all (adjective_usable from c) t.adjectives) (list_all (term_usable from c) t.radix.args) h

parts_usable : (e : Environment) (c : Context) (from least : ℕ) → Reading e c from least → (t : TypeData) (o : Result SoftType Refusal) → ReadsParts e c least t o → on_ok (type_usable from c) o ≡ true
parts_usable e c from least r t o (ty.radix_refused x h) = refl
parts_usable e c from least r t o (ty.adjectives_refused s xs x h i k) = refl
parts_usable e c from least r t o (ty.parts_read s xs ys h i k) =
    let whole : (list_all (adjective_usable from c) s.adjectives ≡ true) × (list_all (term_usable from c) s.radix.args ≡ true) = type_parts from c s (radix_usable e c from least r t (Ok s) h) in
    let written : list_all (adjective_usable from c) ys ≡ true = written_usable e c from least r s (and_from true (list_all (term_usable from c) s.radix.args) refl whole.1) xs (Ok ys) k in
    and_from (list_all (adjective_usable from c) (ys ++ s.adjectives)) (list_all (term_usable from c) s.radix.args) (all-append (adjective_usable from c) ys s.adjectives written whole.0) whole.1

pub type_is_usable : (e : Environment) (c : Context) (from least : ℕ) → Reading e c from least → (t : TypeData) (o : Result SoftType Refusal) → ReadsType e c least t o → on_ok (type_usable from c) o ≡ true
type_is_usable e c from least r t o (ty.refused x h) = refl
type_is_usable e c from least r t o (ty.uncovered s first h i n) = refl
type_is_usable e c from least r t o (ty.covered s first h i n) = on_within (type_usable from c) type_keeps first s (parts_usable e c from least r t (Ok s) h)

registered_usable : (e : Environment) (c : Context) (from least : ℕ) → Reading e c from least → (t : TypeData) (o : Result SoftType Refusal) → ReadsRegistered e c least t o → on_ok (type_usable from c) o ≡ true
registered_usable e c from least r t o (ty.not_registered x h) = refl
registered_usable e c from least r t o (ty.registered s first h i) = on_within (type_usable from c) type_keeps first s (parts_usable e c from least r t (Ok s) h)

pub adjectives_law : AdjectivesLaw
adjectives_law e c from least ce w le wanted t ut xs ys h =
    adjectives_are_known (is_usable from c) e c from least (record { environment = ce; context = w; below = le }) (known_types from c w) (λ n u. u) wanted t ut xs [] (Ok ys) h refl

pub type_law : TypeLaw
type_law e c from least ce w le t s h = type_is_usable e c from least (record { environment = ce; context = w; below = le }) t (Ok s) h

pub registered_law : RegisteredLaw
registered_law e c from least ce w le t s h = registered_usable e c from least (record { environment = ce; context = w; below = le }) t (Ok s) h
