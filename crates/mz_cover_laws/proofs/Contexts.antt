-- Contexts with constants for loci.
use Rattle.std.proofs.Common.{◌≡◌, ◌≤◌, ◌<◌, ◌+◌, ℕ, zero, suc, Bool, true, List, [], ◌∷◌, ◌++◌, length, length-append, refl, sym, ap, ◌∙◌, subst, arith, add-one, Option, Some}
use Rattle.std.specs.Prelude.{Contains, slice_get}
use Rattle.std.specs.List.{list_all}
use Rattle.std.proofs.lemmas.Bool.{lt-ltb, ltb-true, and_parts, and_from}
use Rattle.mz_std_laws.proofs.Options.{some-inj, none_some}
use Rattle.mz_logic.specs.Term.{Term, Const}
use Rattle.mz_logic.specs.Formula.{Formula}
use Rattle.mz_logic.specs.Indices.{closed}
use Rattle.mz_logic.proofs.ListLemmas.{list_all-where}
use Rattle.mz_core.specs.Closed.{type_under, loci_under}
use Rattle.mz_core.specs.Guard.{guard}
use Rattle.mz_core.specs.declared.soft_type.SoftType.{SoftType}
use Rattle.mz_context.specs.Context.{in_force, constant_at, next}
use Rattle.mz_context.specs.declared.constants.Constant.{Constant}
use Rattle.mz_context.specs.declared.context.Context.{Context}
use Rattle.mz_context.specs.declared.letters.NamedLetter.{NamedLetter}
use Rattle.mz_ground.specs.declared.clause.Clause.{Clause}
use Rattle.mz_environment.specs.declared.environment.Environment.{Environment}
use Rattle.mz_fits.specs.Fits.{type_at}
use Rattle.mz_fits.specs.Laws.{AreGranted}
use Rattle.mz_types.specs.Known.{letters_clauses, typing}
use Rattle.mz_types.specs.Chain.{rows_of_letters}
use Rattle.mz_chain_laws.specs.ChainLaw.{HasChainClauses, HasClosedRadices}
use Rattle.mz_choice.specs.Fresh.{fresh, with_fresh}
use Rattle.mz_choice.specs.Cover.{with_loci}
use Rattle.mz_choice_laws.specs.Known.{term_known, adjective_known, type_known, HasKnownTypes}
use Rattle.mz_choice_laws.proofs.KnownTerms.{term_known-below}
use Rattle.mz_choice_laws.proofs.KnownValues.{type_known-where, type_at_values}
use Rattle.mz_thesis_laws.proofs.RowProofs.{granted_with_fresh}
use Rattle.mz_cover_laws.specs.Inhabited.{is_before}
use Rattle.mz_cover_laws.proofs.Guards.{with_guards}

-- numbers
pub next-with_fresh : (c : Context) (ty : SoftType) → next (with_fresh c ty) ≡ suc (next c)
next-with_fresh c ty = ap suc (length-append c.constants (Some (fresh ty) ∷ []) ∙ add-one (length c.constants))

pub next-with_loci : (c : Context) (before : List Term) (tys : List SoftType) → next (with_loci c before tys) ≡ next c + length tys
next-with_loci c before [] = omega arith
next-with_loci c before (ty ∷ tys) =
    let d : Context = with_fresh c (type_at before ty) in
    let one_more : next d + length tys ≡ suc (next c) + length tys = ap (λ n. n + length tys) (next-with_fresh c (type_at before ty)) in
    let sum : suc (next c) + length tys ≡ next c + length (ty ∷ tys) = omega arith in
    next-with_loci d (Const (next c) ∷ before) tys ∙ one_more ∙ sum

-- letters stay
pub letters-with_loci : (c : Context) (before : List Term) (tys : List SoftType) → (with_loci c before tys).letters ≡ c.letters
letters-with_loci c before [] = refl
letters-with_loci c before (ty ∷ tys) = letters-with_loci (with_fresh c (type_at before ty)) (Const (next c) ∷ before) tys

pub typing_as : (e : Environment) (c d : Context) → d.letters ≡ c.letters → typing e c ≡ typing e d
typing_as e c d same = ap (λ (ls : List NamedLetter). e.typing ++ letters_clauses ls) (sym same)

pub clauses_as : (cs : List Clause) (e : Environment) (c d : Context) → d.letters ≡ c.letters → HasChainClauses cs e c → HasChainClauses cs e d
clauses_as cs e c d same h = record {
  functors = h.functors;
  letters = λ r is. h.letters r (subst (λ (ls : List NamedLetter). Contains (rows_of_letters ls) r) same is);
  modes = h.modes;
  structures = h.structures;
  plain = h.plain;
}

-- what is known of the constants derives from their guards
pub granted_with_loci : (ax g : List Formula) (cs : List Clause) (c : Context) (before : List Term) (tys : List SoftType) → AreGranted ax g cs c.constants → AreGranted ax (with_guards (next c) before tys g) cs (with_loci c before tys).constants
granted_with_loci ax g cs c before [] h = h
granted_with_loci ax g cs c before (ty ∷ tys) h =
    let t : SoftType = type_at before ty in
    let d : Context = with_loci (with_fresh c t) (Const (next c) ∷ before) tys in
    let k : List Formula = guard t (Const (next c)) ++ g in
    subst (λ n. AreGranted ax (with_guards n (Const (next c) ∷ before) tys k) cs d.constants) (next-with_fresh c t)
    (granted_with_loci ax k cs (with_fresh c t) (Const (next c) ∷ before) tys (granted_with_fresh ax g cs c.constants t h))

-- a constant that is in force is before the next one
within : (ks : List (Option Constant)) (i : ℕ) (k : Constant) → in_force (slice_get ks i) ≡ Some k → i < length ks
within [] i k is = absurd (none_some k is)
within (o ∷ os) zero k is = omega arith
within (o ∷ os) (suc i) k is = let rest : i < length os = within os i k is in omega (arith, rest)

pub before_next : (c : Context) (n : ℕ) (k : Constant) → constant_at c n ≡ Some k → n < next c
before_next c zero k is = absurd (none_some k is)
before_next c (suc i) k is = let rest : i < length c.constants = within c.constants i k is in omega (arith, rest)

-- types
pub more_known : (m n : ℕ) (ty : SoftType) → m ≤ n → type_known (is_before m) 0 ty ≡ true → type_known (is_before n) 0 ty ≡ true
more_known m n ty le h = type_known-where (is_before m) (is_before n) (λ k is. let lt : k < m = ltb-true k m is in lt-ltb k n (omega (arith, lt, le))) 0 ty h

pub more_types_known : (m : ℕ) (c : Context) → next c ≤ m → HasKnownTypes (is_before (next c)) c → HasKnownTypes (is_before m) c
more_types_known m c le h = record {
  constants = λ n k is before. more_known (next c) m k.ty le (h.constants n k is (lt-ltb n (next c) (before_next c n k is)));
  letters = h.letters;
}

last_known : (known : ℕ → Bool) (ty : SoftType) (ks : List (Option Constant)) (i : ℕ) (k : Constant) →
    ((o : Constant) → in_force (slice_get ks i) ≡ Some o → type_known known 0 o.ty ≡ true) → type_known known 0 ty ≡ true → in_force (slice_get (ks ++ Some (fresh ty) ∷ []) i) ≡ Some k → type_known known 0 k.ty ≡ true
last_known known ty [] zero k f h is = subst (λ (x : Constant). type_known known 0 x.ty ≡ true) (some-inj (fresh ty) k is) h
last_known known ty [] (suc i) k f h is = absurd (none_some k is)
last_known known ty (o ∷ os) zero k f h is = f k is
last_known known ty (o ∷ os) (suc i) k f h is = last_known known ty os i k f h is

fresh_known : (known : ℕ → Bool) (c : Context) (ty : SoftType) (n : ℕ) (k : Constant) → HasKnownTypes known c → type_known known 0 ty ≡ true → constant_at (with_fresh c ty) n ≡ Some k → known n ≡ true → type_known known 0 k.ty ≡ true
fresh_known known c ty zero k h w is kn = absurd (none_some k is)
fresh_known known c ty (suc i) k h w is kn = last_known known ty c.constants i k (λ o old. h.constants (suc i) o old kn) w is

pub known_with_fresh : (known : ℕ → Bool) (c : Context) (ty : SoftType) → HasKnownTypes known c → type_known known 0 ty ≡ true → HasKnownTypes known (with_fresh c ty)
known_with_fresh known c ty h w = record { constants = λ n k is kn. fresh_known known c ty n k h w is kn; letters = h.letters }

pub known_with_loci : (m : ℕ) (c : Context) (before : List Term) (tys : List SoftType) → next c + length tys ≤ m → HasKnownTypes (is_before m) c → list_all (term_known (is_before m) 0) before ≡ true → loci_under (length before) tys ≡ true → HasKnownTypes (is_before m) (with_loci c before tys)
known_with_loci m c before [] le h hb loci = h
known_with_loci m c before (ty ∷ tys) le h hb loci =
    let both : (type_under (length before) ty ≡ true) × (loci_under (length before + 1) tys ≡ true) = and_parts (type_under (length before) ty) (loci_under (length before + 1) tys) loci in
    let t : SoftType = type_at before ty in
    let here : type_known (is_before m) 0 t ≡ true = type_at_values (is_before m) before (length before) hb refl ty both.0 in
    let one_more : next (with_fresh c t) ≡ suc (next c) = next-with_fresh c t in
    known_with_loci m (with_fresh c t) (Const (next c) ∷ before) tys (subst (λ n. n + length tys ≤ m) (sym one_more) (omega arith)) (known_with_fresh (is_before m) c t h here)
    (and_from (term_known (is_before m) 0 (Const (next c))) (list_all (term_known (is_before m) 0) before) (lt-ltb (next c) m (omega arith)) hb)
    (subst (λ n. loci_under n tys ≡ true) (add-one (length before)) both.1)

-- no radix has a loose index
pub terms_closed : (known : ℕ → Bool) (ts : List Term) → list_all (term_known known 0) ts ≡ true → list_all closed ts ≡ true
terms_closed known ts h = list_all-where (term_known known 0) closed (λ t k. term_known-below known 0 t k) ts h

pub radices_closed : (c : Context) → HasKnownTypes (is_before (next c)) c → HasClosedRadices c
radices_closed c h n k is =
    terms_closed (is_before (next c)) k.ty.radix.args
    (and_parts (list_all (adjective_known (is_before (next c)) 0) k.ty.adjectives) (list_all (term_known (is_before (next c)) 0) k.ty.radix.args) (h.constants n k is (lt-ltb n (next c) (before_next c n k is)))).1
