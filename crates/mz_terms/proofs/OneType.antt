-- What adjectives and types are read to is determined.
use Rattle.std.proofs.Common.{◌≡◌, ℕ, List, [], ◌∷◌, ◌++◌, refl, sym, ap, ◌∙◌, subst, Option, Some}
use Rattle.std.specs.Prelude.{Result, Ok, Err}
use Rattle.mz_base.specs.declared.place.Place.{Place}
use Rattle.mz_logic.specs.Term.{Term, Const}
use Rattle.mz_core.specs.declared.adjective.Adjective.{Adjective}
use Rattle.mz_core.specs.declared.soft_type.SoftType.{SoftType}
use Rattle.mz_context.specs.declared.context.Context.{Context}
use Rattle.mz_context.specs.Context.{next}
use Rattle.mz_environment.specs.declared.environment.Environment.{Environment}
use Rattle.mz_types.specs.Known.{typing}
use Rattle.mz_names.specs.Names.{variable, known_or}
use Rattle.mz_names.specs.declared.refusal.Refusal.{Refusal}
use Rattle.mz_names.specs.declared.refusal.Refusal.TheVariants.{Unregistered}
use Rattle.mz_choice.specs.declared.choice.Wanted.{Wanted}
use Rattle.mz_choice.specs.declared.choice.Wanted.TheVariants.{Anything, AdjectiveOfFresh}
use Rattle.mz_choice.specs.Cover.{bare, IsCovered}
use Rattle.mz_choice.specs.Fresh.{with_fresh}
use Rattle.mz_sizes.specs.Sizes.{type_keeps}
use Rattle.mz_tree.specs.Trees.{AdjectiveData, AdjectiveList, TypeData, PlainAdjective, WithIdentifierAdjective, WithTermsAdjective, ModeType, ModeOfType, StructureType, StructureOverType, no_adjectives, more_adjectives, adjectives_of}
use Rattle.mz_tree.specs.Places.{first_place}
use Rattle.mz_tree.specs.Spell.{spell_adjective, spell_type}
use Rattle.mz_applied.specs.Within.{within}
use Rattle.mz_applied.specs.Application.{application, attribute_of}
use Rattle.mz_applied.specs.Meant.{as_type, as_adjective}
use Rattle.mz_applied.specs.Reading.{ReadsAs}
use Rattle.mz_applied.proofs.OneApplication.{one_type_law, one_adjective_law}
use Rattle.mz_terms.specs.Values.{as_list}
use Rattle.mz_terms.specs.Terms.{ReadsAll}
use Rattle.mz_terms.specs.Adjectives as ad
use Rattle.mz_terms.specs.Adjectives.{is_denied, attribute_in, ReadsOwn, ReadsAdjective, ReadsAdjectives}
use Rattle.mz_terms.specs.Types as ty
use Rattle.mz_terms.specs.Types.{adjectives_in, radix_in, radix_kind, ReadsRadixTerms, ReadsRadix, with_adjectives, ReadsWritten, ReadsParts, ReadsType, ReadsRegistered}
use Rattle.mz_terms.proofs.OneTerm.{one_list}

same_some : (o : Option Place) (p q : Place) → o ≡ Some p → o ≡ Some q → p ≡ q
same_some o p q h k = cc

abbrev OwnAs : Environment → Context → ℕ → AdjectiveData → Result (List Term) Refusal → Type 0
OwnAs e c least (PlainAdjective non w) o = o ≡ Ok []
OwnAs e c least (WithIdentifierAdjective non x w) o = o ≡ as_list (known_or x.place (variable least c x.spelling))
OwnAs e c least (WithTermsAdjective non p ts q w) o = ReadsAll e c least ts o

own_as : (e : Environment) (c : Context) (least : ℕ) (a : AdjectiveData) (o : Result (List Term) Refusal) → ReadsOwn e c least a o → OwnAs e c least a o
own_as e c least a o (ad.plain non w) = refl
own_as e c least a o (ad.with_identifier non x w) = refl
own_as e c least a o (ad.with_terms non p q ts w x h) = h

own_once : (e : Environment) (c : Context) (least : ℕ) (a : AdjectiveData) (o p : Result (List Term) Refusal) → OwnAs e c least a o → OwnAs e c least a p → o ≡ p
own_once e c least (PlainAdjective non w) o p h k = h ∙ sym k
own_once e c least (WithIdentifierAdjective non x w) o p h k = h ∙ sym k
own_once e c least (WithTermsAdjective non q ts r w) o p h k = one_list e c least ts o h p k

pub one_own : (e : Environment) (c : Context) (least : ℕ) (a : AdjectiveData) (o p : Result (List Term) Refusal) → ReadsOwn e c least a o → ReadsOwn e c least a p → o ≡ p
one_own e c least a o p h k = own_once e c least a o p (own_as e c least a o h) (own_as e c least a p k)

-- what an adjective's arguments give
abbrev OwnBehind : Environment → Context → Wanted → Term → AdjectiveData → Result (List Term) Refusal → Result Adjective Refusal → Type 0
OwnBehind e c w t a (Err r) o = o ≡ Err r
OwnBehind e c w t a (Ok ts) o =
    (first : Place) × (first_place (spell_adjective a) ≡ Some first) × ReadsAs e c w (attribute_in a).place (as_adjective (is_denied a) (attribute_in a).place first) (attribute_of (attribute_in a).spelling ts t) o

abbrev AdjectiveAs : Environment → Context → ℕ → Wanted → Term → AdjectiveData → Result Adjective Refusal → Type 0
AdjectiveAs e c least w t a o = (x : Result (List Term) Refusal) × ReadsOwn e c least a x × OwnBehind e c w t a x o

adjective_as : (e : Environment) (c : Context) (least : ℕ) (w : Wanted) (t : Term) (a : AdjectiveData) (o : Result Adjective Refusal) → ReadsAdjective e c least w t a o → AdjectiveAs e c least w t a o
adjective_as e c least w t a o (ad.own_refused b r h) = (Err r, h, refl)
adjective_as e c least w t a o (ad.own_read b ts first p h ef k) = (Ok ts, h, (first, ef, k))

own_behind_once : (e : Environment) (c : Context) (w : Wanted) (t : Term) (a : AdjectiveData) (x : Result (List Term) Refusal) (o p : Result Adjective Refusal) → OwnBehind e c w t a x o → OwnBehind e c w t a x p → o ≡ p
own_behind_once e c w t a (Err r) o p h k = h ∙ sym k
own_behind_once e c w t a (Ok ts) o p h k =
    let same : k.0 ≡ h.0 = same_some (first_place (spell_adjective a)) k.0 h.0 k.1 h.1 in
    let j : ReadsAs e c w (attribute_in a).place (as_adjective (is_denied a) (attribute_in a).place h.0) (attribute_of (attribute_in a).spelling ts t) p = subst (λ z. ReadsAs e c w (attribute_in a).place (as_adjective (is_denied a) (attribute_in a).place z) (attribute_of (attribute_in a).spelling ts t) p) same k.2 in
    one_adjective_law e c w (attribute_in a).place (as_adjective (is_denied a) (attribute_in a).place h.0) (attribute_of (attribute_in a).spelling ts t) o p h.2 j

one_adjective : (e : Environment) (c : Context) (least : ℕ) (w : Wanted) (t : Term) (a : AdjectiveData) (o p : Result Adjective Refusal) → ReadsAdjective e c least w t a o → ReadsAdjective e c least w t a p → o ≡ p
one_adjective e c least w t a o p h k =
    let x : AdjectiveAs e c least w t a o = adjective_as e c least w t a o h in
    let y : AdjectiveAs e c least w t a p = adjective_as e c least w t a p k in
    own_behind_once e c w t a x.0 o p x.2 (subst (λ z. OwnBehind e c w t a z p) (one_own e c least a y.0 x.0 y.1 x.1) y.2)

abbrev EachBehind : Environment → Context → ℕ → Wanted → Term → List AdjectiveData → List Adjective → Result Adjective Refusal → Result (List Adjective) Refusal → Type 0
EachBehind e c least w t xs before (Err r) o = o ≡ Err r
EachBehind e c least w t xs before (Ok b) o = ReadsAdjectives e c least w t xs (before ++ b ∷ []) o

abbrev EachAs : Environment → Context → ℕ → Wanted → Term → List AdjectiveData → List Adjective → Result (List Adjective) Refusal → Type 0
EachAs e c least w t [] before o = o ≡ Ok before
EachAs e c least w t (a ∷ xs) before o = (x : Result Adjective Refusal) × ReadsAdjective e c least w t a x × EachBehind e c least w t xs before x o

each_as : (e : Environment) (c : Context) (least : ℕ) (w : Wanted) (t : Term) (xs : List AdjectiveData) (before : List Adjective) (o : Result (List Adjective) Refusal) → ReadsAdjectives e c least w t xs before o → EachAs e c least w t xs before o
each_as e c least w t xs before o (ad.no_more b) = refl
each_as e c least w t xs before o (ad.one_refused a ys b r h) = (Err r, h, refl)
each_as e c least w t xs before o (ad.one_read a ys b d p h k) = (Ok d, h, k)

pub one_adjectives : (e : Environment) (c : Context) (least : ℕ) (w : Wanted) (t : Term) (xs : List AdjectiveData) (before : List Adjective) (o : Result (List Adjective) Refusal) → ReadsAdjectives e c least w t xs before o → (p : Result (List Adjective) Refusal) → ReadsAdjectives e c least w t xs before p → o ≡ p
one_adjectives e c least w t xs before o (ad.no_more b) p k = sym (each_as e c least w t [] b p k)
one_adjectives e c least w t xs before o (ad.one_refused a ys b r h) p k =
    let q : EachAs e c least w t (a ∷ ys) b p = each_as e c least w t (a ∷ ys) b p k in
    let same : q.0 ≡ Err r = one_adjective e c least w t a q.0 (Err r) q.1 h in
    let behind : EachBehind e c least w t ys b (Err r) p = subst (λ x. EachBehind e c least w t ys b x p) same q.2 in
    sym behind
one_adjectives e c least w t xs before o (ad.one_read a ys b d x h j) p k =
    let q : EachAs e c least w t (a ∷ ys) b p = each_as e c least w t (a ∷ ys) b p k in
    let same : q.0 ≡ Ok d = one_adjective e c least w t a q.0 (Ok d) q.1 h in
    let behind : EachBehind e c least w t ys b (Ok d) p = subst (λ y. EachBehind e c least w t ys b y p) same q.2 in
    one_adjectives e c least w t ys (b ++ d ∷ []) x j p behind

abbrev RadixTermsAs : Environment → Context → ℕ → TypeData → Result (List Term) Refusal → Type 0
RadixTermsAs e c least (ModeType xs w) o = o ≡ Ok []
RadixTermsAs e c least (ModeOfType xs w p ts) o = ReadsAll e c least ts o
RadixTermsAs e c least (StructureType xs w) o = o ≡ Ok []
RadixTermsAs e c least (StructureOverType xs w p ts) o = ReadsAll e c least ts o

radix_terms_as : (e : Environment) (c : Context) (least : ℕ) (t : TypeData) (o : Result (List Term) Refusal) → ReadsRadixTerms e c least t o → RadixTermsAs e c least t o
radix_terms_as e c least t o (ty.of_mode xs w) = refl
radix_terms_as e c least t o (ty.of_mode_of xs w p ts x h) = h
radix_terms_as e c least t o (ty.of_structure xs w) = refl
radix_terms_as e c least t o (ty.of_structure_over xs w p ts x h) = h

radix_terms_once : (e : Environment) (c : Context) (least : ℕ) (t : TypeData) (o p : Result (List Term) Refusal) → RadixTermsAs e c least t o → RadixTermsAs e c least t p → o ≡ p
radix_terms_once e c least (ModeType xs w) o p h k = h ∙ sym k
radix_terms_once e c least (ModeOfType xs w q ts) o p h k = one_list e c least ts o h p k
radix_terms_once e c least (StructureType xs w) o p h k = h ∙ sym k
radix_terms_once e c least (StructureOverType xs w q ts) o p h k = one_list e c least ts o h p k

abbrev RadixBehind : Environment → Context → TypeData → Result (List Term) Refusal → Result SoftType Refusal → Type 0
RadixBehind e c t (Err r) o = o ≡ Err r
RadixBehind e c t (Ok ts) o = ReadsAs e c Anything (radix_in t).place (as_type (radix_in t).place) (application (radix_kind t) (radix_in t).spelling [] ts) o

abbrev RadixAs : Environment → Context → ℕ → TypeData → Result SoftType Refusal → Type 0
RadixAs e c least t o = (x : Result (List Term) Refusal) × ReadsRadixTerms e c least t x × RadixBehind e c t x o

radix_as : (e : Environment) (c : Context) (least : ℕ) (t : TypeData) (o : Result SoftType Refusal) → ReadsRadix e c least t o → RadixAs e c least t o
radix_as e c least t o (ty.terms_refused r h) = (Err r, h, refl)
radix_as e c least t o (ty.terms_read ts p h k) = (Ok ts, h, k)

radix_behind_once : (e : Environment) (c : Context) (t : TypeData) (x : Result (List Term) Refusal) (o p : Result SoftType Refusal) → RadixBehind e c t x o → RadixBehind e c t x p → o ≡ p
radix_behind_once e c t (Err r) o p h k = h ∙ sym k
radix_behind_once e c t (Ok ts) o p h k = one_type_law e c Anything (radix_in t).place (as_type (radix_in t).place) (application (radix_kind t) (radix_in t).spelling [] ts) o p h k

one_radix : (e : Environment) (c : Context) (least : ℕ) (t : TypeData) (o p : Result SoftType Refusal) → ReadsRadix e c least t o → ReadsRadix e c least t p → o ≡ p
one_radix e c least t o p h k =
    let x : RadixAs e c least t o = radix_as e c least t o h in
    let y : RadixAs e c least t p = radix_as e c least t p k in
    let same : y.0 ≡ x.0 = radix_terms_once e c least t y.0 x.0 (radix_terms_as e c least t y.0 y.1) (radix_terms_as e c least t x.0 x.1) in
    radix_behind_once e c t x.0 o p x.2 (subst (λ z. RadixBehind e c t z p) same y.2)

adjective_list : AdjectiveList → List AdjectiveData
adjective_list no_adjectives = []
adjective_list (more_adjectives a xs) = a ∷ adjective_list xs

adjective_list-of : (xs : List AdjectiveData) → adjective_list (adjectives_of xs) ≡ xs
unfolding adjective_list
adjective_list-of [] = refl
adjective_list-of (a ∷ xs) = ap (λ ys. a ∷ ys) (adjective_list-of xs)

same_adjectives : (l : AdjectiveList) (xs ys : List AdjectiveData) → l ≡ adjectives_of xs → l ≡ adjectives_of ys → xs ≡ ys
same_adjectives l xs ys h k = sym (adjective_list-of xs) ∙ (ap adjective_list (sym h ∙ k) ∙ adjective_list-of ys)

-- what the written adjectives give, and what the radix does
with_written : SoftType → Result (List Adjective) Refusal → Result SoftType Refusal
with_written t (Err r) = Err r
with_written t (Ok xs) = Ok (with_adjectives xs t)

abbrev PartsBehind : Environment → Context → ℕ → TypeData → Result SoftType Refusal → Result SoftType Refusal → Type 0
PartsBehind e c least t (Err r) o = o ≡ Err r
PartsBehind e c least t (Ok m) o = (xs : List AdjectiveData) × (y : Result (List Adjective) Refusal) × (adjectives_in t ≡ adjectives_of xs) × ReadsWritten e c least m xs y × (o ≡ with_written m y)

abbrev PartsAs : Environment → Context → ℕ → TypeData → Result SoftType Refusal → Type 0
PartsAs e c least t o = (x : Result SoftType Refusal) × ReadsRadix e c least t x × PartsBehind e c least t x o

parts_as : (e : Environment) (c : Context) (least : ℕ) (t : TypeData) (o : Result SoftType Refusal) → ReadsParts e c least t o → PartsAs e c least t o
unfolding with_written
parts_as e c least t o (ty.radix_refused r h) = (Err r, h, refl)
parts_as e c least t o (ty.adjectives_refused m xs r h ex k) = (Ok m, h, (xs, Err r, ex, k, refl))
parts_as e c least t o (ty.parts_read m xs ys h ex k) = (Ok m, h, (xs, Ok ys, ex, k, refl))

written_once : (e : Environment) (c : Context) (least : ℕ) (m : SoftType) (xs : List AdjectiveData) (o p : Result (List Adjective) Refusal) → ReadsWritten e c least m xs o → ReadsWritten e c least m xs p → o ≡ p
written_once e c least m xs o p h k = one_adjectives e (with_fresh c (bare m)) least (AdjectiveOfFresh (next c)) (Const (next c)) xs [] o h p k

parts_behind_once : (e : Environment) (c : Context) (least : ℕ) (t : TypeData) (x o p : Result SoftType Refusal) → PartsBehind e c least t x o → PartsBehind e c least t x p → o ≡ p
parts_behind_once e c least t (Err r) o p h k = h ∙ sym k
parts_behind_once e c least t (Ok m) o p h k =
    let same : k.0 ≡ h.0 = same_adjectives (adjectives_in t) k.0 h.0 k.2 h.2 in
    let read : ReadsWritten e c least m h.0 k.1 = subst (λ xs. ReadsWritten e c least m xs k.1) same k.3 in
    h.4 ∙ (ap (with_written m) (written_once e c least m h.0 h.1 k.1 h.3 read) ∙ sym k.4)

one_parts : (e : Environment) (c : Context) (least : ℕ) (t : TypeData) (o p : Result SoftType Refusal) → ReadsParts e c least t o → ReadsParts e c least t p → o ≡ p
one_parts e c least t o p h k =
    let x : PartsAs e c least t o = parts_as e c least t o h in
    let y : PartsAs e c least t p = parts_as e c least t p k in
    parts_behind_once e c least t x.0 o p x.2 (subst (λ z. PartsBehind e c least t z p) (one_radix e c least t y.0 x.0 y.1 x.1) y.2)

not_ok : {X : Type 0} (r : Refusal) (m : SoftType) (o p : Result SoftType Refusal) (x y : X) → o ≡ Err r → p ≡ Ok m → o ≡ p → x ≡ y
not_ok r m o p x y e f h = cc

in_ok : (m n : SoftType) (o p : Result SoftType Refusal) → o ≡ Ok m → p ≡ Ok n → o ≡ p → m ≡ n
in_ok m n o p e f h = cc

in_err : (r s : Refusal) (o p : Result SoftType Refusal) → o ≡ Err r → p ≡ Err s → o ≡ p → r ≡ s
in_err r s o p e f h = cc

pub one_type : (e : Environment) (c : Context) (least : ℕ) (t : TypeData) (o p : Result SoftType Refusal) → ReadsType e c least t o → ReadsType e c least t p → o ≡ p
one_type e c least t o p (ty.refused r h) (ty.refused s k) = ap Err (in_err r s (Err r) (Err s) refl refl (one_parts e c least t (Err r) (Err s) h k))
one_type e c least t o p (ty.refused r h) (ty.uncovered m at k ef n) = not_ok r m (Err r) (Ok m) (Err r) (Err (Unregistered at)) refl refl (one_parts e c least t (Err r) (Ok m) h k)
one_type e c least t o p (ty.refused r h) (ty.covered m at k ef n) = not_ok r m (Err r) (Ok m) (Err r) (within type_keeps at m) refl refl (one_parts e c least t (Err r) (Ok m) h k)
one_type e c least t o p (ty.uncovered m at h ef n) (ty.refused r k) = not_ok r m (Err r) (Ok m) (Err (Unregistered at)) (Err r) refl refl (one_parts e c least t (Err r) (Ok m) k h)
one_type e c least t o p (ty.uncovered m at h ef n) (ty.uncovered q there k eg l) = ap (λ x. Err (Unregistered x)) (same_some (first_place (spell_type t)) at there ef eg)
one_type e c least t o p (ty.uncovered m at h ef n) (ty.covered q there k eg l) =
    let same : q ≡ m = in_ok q m (Ok q) (Ok m) refl refl (one_parts e c least t (Ok q) (Ok m) k h) in
    absurd (n (subst (λ x. IsCovered (typing e c) e c x) same l))
one_type e c least t o p (ty.covered m at h ef n) (ty.refused r k) = not_ok r m (Err r) (Ok m) (within type_keeps at m) (Err r) refl refl (one_parts e c least t (Err r) (Ok m) k h)
one_type e c least t o p (ty.covered m at h ef n) (ty.uncovered q there k eg l) =
    let same : m ≡ q = in_ok m q (Ok m) (Ok q) refl refl (one_parts e c least t (Ok m) (Ok q) h k) in
    absurd (l (subst (λ x. IsCovered (typing e c) e c x) same n))
one_type e c least t o p (ty.covered m at h ef n) (ty.covered q there k eg l) =
    let same : m ≡ q = in_ok m q (Ok m) (Ok q) refl refl (one_parts e c least t (Ok m) (Ok q) h k) in
    ap (within type_keeps at) same ∙ ap (λ x. within type_keeps x q) (same_some (first_place (spell_type t)) at there ef eg)

pub one_registered : (e : Environment) (c : Context) (least : ℕ) (t : TypeData) (o p : Result SoftType Refusal) → ReadsRegistered e c least t o → ReadsRegistered e c least t p → o ≡ p
one_registered e c least t o p (ty.not_registered r h) (ty.not_registered s k) = ap Err (in_err r s (Err r) (Err s) refl refl (one_parts e c least t (Err r) (Err s) h k))
one_registered e c least t o p (ty.not_registered r h) (ty.registered m at k ef) = not_ok r m (Err r) (Ok m) (Err r) (within type_keeps at m) refl refl (one_parts e c least t (Err r) (Ok m) h k)
one_registered e c least t o p (ty.registered m at h ef) (ty.not_registered r k) = not_ok r m (Err r) (Ok m) (within type_keeps at m) (Err r) refl refl (one_parts e c least t (Err r) (Ok m) k h)
one_registered e c least t o p (ty.registered m at h ef) (ty.registered q there k eg) =
    let same : m ≡ q = in_ok m q (Ok m) (Ok q) refl refl (one_parts e c least t (Ok m) (Ok q) h k) in
    ap (within type_keeps at) same ∙ ap (λ x. within type_keeps x q) (same_some (first_place (spell_type t)) at there ef eg)
