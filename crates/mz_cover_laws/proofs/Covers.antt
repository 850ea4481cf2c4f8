-- A covered type is inhabited.
use Rattle.std.proofs.Common.{◌≡◌, ◌≤◌, ◌<◌, ◌+◌, ℕ, zero, suc, Bool, true, false, List, [], ◌∷◌, ◌++◌, map, length, reverse, append-nil, refl, sym, ap, ◌∙◌, subst, arith, Option, Some}
use Rattle.std.specs.Prelude.{nat_eq, if◌then◌else◌, Contains}
use Rattle.std.specs.List.{list_all}
use Rattle.std.proofs.lemmas.Bool.{lt-ltb, ltb-true, and_parts, and_from}
use Rattle.std.proofs.lemmas.List.{map-append, length-reverse, reverse-append}
use Rattle.mz_std_laws.proofs.Options.{none_some}
use Rattle.mz_logic.specs.Term.{Term, Terms, Bound, Const, App, none, more}
use Rattle.mz_logic.specs.Formula as formula
use Rattle.mz_logic.specs.Formula.{Formula}
use Rattle.mz_logic.specs.Literal.{literal_formula}
use Rattle.mz_logic.specs.declared.sym.Sym.{Sym}
use Rattle.mz_logic.specs.declared.literal.Literal.{Literal}
use Rattle.mz_logic.specs.Indices.{closed, args_below}
use Rattle.mz_logic.specs.ConstantTerm.{term_with, args_with, formula_with}
use Rattle.mz_logic.specs.Substitution.{substitute, substitute_formula, value_at}
use Rattle.mz_logic.specs.Equality.{AreEqual}
use Rattle.mz_logic.specs.Derives.{Derives}
use Rattle.mz_logic.proofs.Generalization.{constant_generalized}
use Rattle.mz_logic.proofs.ListLemmas.{list_all-where}
use Rattle.mz_logic.proofs.Each.{Each, Along, cut_each, each_itself, each_under, each_append, each_left, each_right, each_along, along_each}
use Rattle.mz_core.specs.Statement.{Statement, Truth}
use Rattle.mz_core.specs.TypeSubstitution.{statement_at}
use Rattle.mz_core.specs.Erasure.{erase}
use Rattle.mz_core.specs.Hidden.{is_of_any_object}
use Rattle.mz_core.specs.Guard.{guard, adjective_literal}
use Rattle.mz_core.specs.Closed.{term_under, adjective_under, type_under, loci_closed}
use Rattle.mz_core.specs.InForce.{term_in_force, formula_in_force, adjective_in_force, type_in_force}
use Rattle.mz_core.specs.declared.adjective.Adjective.{Adjective}
use Rattle.mz_core.specs.declared.radix.Radix.{Radix}
use Rattle.mz_core.specs.declared.soft_type.SoftType.{SoftType}
use Rattle.mz_core.specs.declared.registration.ExistentialRegistration.{ExistentialRegistration}
use Rattle.mz_core.proofs.AllLemmas.{all-append}
use Rattle.mz_core.proofs.LawProofs.{in_force_at, erasure_in_force}
use Rattle.mz_laws.proofs.StatementProofs.{type_substitution_in_force}
use Rattle.mz_items.specs.Loci.{over}
use Rattle.mz_items.specs.Closed.{existential_under}
use Rattle.mz_items.specs.RegistrationRows.{existential}
use Rattle.mz_context.specs.Context.{next}
use Rattle.mz_context.specs.declared.constants.Constant.{Constant}
use Rattle.mz_context.specs.declared.context.Context.{Context}
use Rattle.mz_ground.specs.ClauseFormula.{clause_formula}
use Rattle.mz_ground.specs.declared.clause.Clause.{Clause}
use Rattle.mz_clauses.specs.Guards.{loci_guards}
use Rattle.mz_clause_laws.proofs.Instances.{formulas_at}
use Rattle.mz_clause_laws.proofs.Literals.{over_closed}
use Rattle.mz_environment.specs.declared.environment.Environment.{Environment}
use Rattle.mz_closed_laws.specs.ClosedEnvironment.{existential_closed}
use Rattle.mz_classes.proofs.SymListLemmas.{same_sym_true}
use Rattle.mz_fits.specs.Fits as fits
use Rattle.mz_fits.specs.Fits.{AllFit, LociFit, type_at}
use Rattle.mz_fits.specs.Matching.{Fixed, unfixed, AllMatched, values_of}
use Rattle.mz_fits.specs.Laws.{AreGranted}
use Rattle.mz_fits.proofs.SoundLemmas.{literal_derives}
use Rattle.mz_fits.proofs.MatchSound.{match_law}
use Rattle.mz_types.specs.Known.{typing}
use Rattle.mz_types.specs.Chain.{IsChain}
use Rattle.mz_chain_laws.specs.ChainLaw.{HasChainClauses, HasClosedRadices, as_type}
use Rattle.mz_chain_laws.proofs.ChainHolds.{chain_law}
use Rattle.mz_chain_laws.proofs.Fired.{fit_length, loci_hold}
use Rattle.mz_chain_laws.proofs.Said as said
use Rattle.mz_chain_laws.proofs.Said.{closed_reverse, with_equal, atom_of, of_atom}
use Rattle.mz_chain_laws.proofs.Values.{accepted_values}
use Rattle.mz_choice.specs.Fresh.{with_fresh}
use Rattle.mz_choice.specs.Cover as cover
use Rattle.mz_choice.specs.Cover.{FitFresh, bare, with_loci, loci_constants, over_constants, IsRegisteredChain, registered_type, MemberMatches, CoversAt}
use Rattle.mz_choice_laws.specs.Known.{term_known, radix_known, adjective_known, type_known, HasKnownTypes}
use Rattle.mz_choice_laws.proofs.ListParts.{all-one}
use Rattle.mz_choice_laws.proofs.KnownTerms.{term_known-in_force}
use Rattle.mz_choice_laws.proofs.KnownMatches.{unfixed_known, all_matched_known, values_known}
use Rattle.mz_choice_laws.proofs.KnownValues.{type_all-where, type_at_values}
use Rattle.mz_choice_laws.proofs.KnownChain.{known_chain_law}
use Rattle.mz_thesis_laws.proofs.RowProofs.{granted_with_fresh, consider_law}
use Rattle.mz_cover_laws.specs.Inhabited.{there_is, is_before, Holds, ObjectLaw, RadixLaw, RegisteredLaw, CoveredLaw}
use Rattle.mz_cover_laws.proofs.Placed.{with-other, with-itself, all_with-in_force, placed, placed_values}
use Rattle.mz_cover_laws.proofs.Guards.{guard_with, type_with-in_force, formulas_with-in_force, with_guards, at_values, length-loci_constants}
use Rattle.mz_cover_laws.proofs.Contexts.{next-with_loci, letters-with_loci, typing_as, clauses_as, granted_with_loci, next-with_fresh, more_types_known, known_with_fresh, known_with_loci, terms_closed, radices_closed}
use Rattle.mz_cover_laws.proofs.Existentials.{under_in_force, taken, any_object, whole_guard, registered_out}

-- constants before a number
before_so : (n k : ℕ) → is_before n k ≡ true → k < n
before_so n k h = ltb-true k n h

pub type_forces : (n : ℕ) (ty : SoftType) → type_known (is_before n) 0 ty ≡ true → type_in_force n ty ≡ true
type_forces n ty h = type_all-where (term_known (is_before n)) (in_force_at n) 0 ty (λ t k. term_known-in_force (is_before n) n (before_so n) 0 t k) h

pub terms_force : (n : ℕ) (ts : List Term) → list_all (term_known (is_before n) 0) ts ≡ true → list_all (term_in_force n) ts ≡ true
terms_force n ts h = list_all-where (term_known (is_before n) 0) (term_in_force n) (λ t k. term_known-in_force (is_before n) n (before_so n) 0 t k) ts h

pub inhabited_in_force : (n : ℕ) (ty : SoftType) → type_in_force n ty ≡ true → formula_in_force n (erase (there_is ty)) ≡ true
inhabited_in_force n ty h = erasure_in_force n (there_is ty) (and_from (type_in_force n ty) true h refl)

pub value_forces : (n : ℕ) (ts : List Term) (i : ℕ) → list_all (term_in_force n) ts ≡ true → term_in_force n (value_at ts i) ≡ true
value_forces n [] i h = refl
value_forces n (t ∷ ts) zero h = (and_parts (term_in_force n t) (list_all (term_in_force n) ts) h).0
value_forces n (t ∷ ts) (suc i) h = value_forces n ts i (and_parts (term_in_force n t) (list_all (term_in_force n) ts) h).1

pub reverse_forces : (n : ℕ) (ts : List Term) → list_all (term_in_force n) ts ≡ true → list_all (term_in_force n) (reverse ts) ≡ true
reverse_forces n [] h = refl
reverse_forces n (t ∷ ts) h =
    let both : (term_in_force n t ≡ true) × (list_all (term_in_force n) ts ≡ true) = and_parts (term_in_force n t) (list_all (term_in_force n) ts) h in
    subst (λ (us : List Term). list_all (term_in_force n) us ≡ true) (sym (reverse-append (t ∷ []) ts))
    (all-append (term_in_force n) (reverse ts) (t ∷ []) (reverse_forces n ts both.1) (and_from (term_in_force n t) true both.0 refl))

pub under_type_in_force : (next n : ℕ) (ty : SoftType) → type_under n ty ≡ true → type_in_force next ty ≡ true
under_type_in_force next n ty h =
    type_all-where term_under (in_force_at next) n ty (λ t k. under_in_force next n t k) h

constants_known : (m n : ℕ) (before : List Term) (tys : List SoftType) → n + length tys ≤ m → list_all (term_known (is_before m) 0) before ≡ true → list_all (term_known (is_before m) 0) (loci_constants n before tys) ≡ true
constants_known m n before [] le h = h
constants_known m n before (ty ∷ tys) le h =
    constants_known m (suc n) (Const n ∷ before) tys (omega arith) (and_from (term_known (is_before m) 0 (Const n)) (list_all (term_known (is_before m) 0) before) (lt-ltb n m (omega arith)) h)

-- literals that fit
all_fit_derive : (ax g : List Formula) (cs : List Clause) (ks : List (Option Constant)) (ls : List Literal) → AreGranted ax g cs ks → AllFit cs ks ls → Along ax g (map literal_formula ls)
all_fit_derive ax g cs ks ls grants fits.none_left = tt
all_fit_derive ax g cs ks ls grants (fits.and_fits l others h k) = (literal_derives ax g cs ks grants l h, all_fit_derive ax g cs ks others grants k)

-- adjectives that fit a fresh constant of the type derive of it
fresh_derive : (ax g h : List Formula) (cs : List Clause) (c : Context) (ty : SoftType) (xs : List Adjective) → AreGranted ax g cs c.constants → FitFresh cs c ty xs → Each ax h g → Along ax h (guard ty (Const (next c))) →
    Along ax h (map literal_formula (map (adjective_literal (Const (next c))) xs))
fresh_derive ax g h cs c ty xs grants fit each here =
    let gs : List Formula = guard ty (Const (next c)) in
    let ls : List Literal = map (adjective_literal (Const (next c))) xs in
    let all : Along ax (gs ++ g) (map literal_formula ls) = all_fit_derive ax (gs ++ g) cs (with_fresh c ty).constants ls (granted_with_fresh ax g cs c.constants ty grants) fit in
    along_each ax h (map literal_formula ls) (λ f is. cut_each ax h (gs ++ g) f (each_append ax h gs g (each_along ax h gs here) each) (each_along ax (gs ++ g) (map literal_formula ls) all f is))

-- what holds for all loci, at values that fit these
pub stated_at : (ax g : List Formula) (cs : List Clause) (ks : List (Option Constant)) → AreGranted ax g cs ks → (loci : List SoftType) (values : List Term) → list_all closed values ≡ true → LociFit cs ks [] loci values →
    (s : Statement) → Derives ax g (erase (over loci s)) → Derives ax g (substitute_formula 0 (value_at (reverse values)) (erase s))
stated_at ax g cs ks grants loci values closed_values fit s d =
    let rvs : List Term = reverse values in
    let count : length rvs ≡ length loci + 0 = length-reverse values ∙ fit_length cs ks [] loci values fit ∙ omega arith in
    let guards : Along ax g (formulas_at rvs (loci_guards 0 loci)) =
    subst (λ (us : List Term). Along ax g (formulas_at us (loci_guards 0 loci))) (append-nil rvs) (loci_hold ax g cs ks grants 0 [] [] loci values refl fit) in
    over_closed ax g 0 rvs loci s (closed_reverse values closed_values) count guards d

-- any object
pub object_law : ObjectLaw
object_law ax g ty any = taken ax g (bare ty) 0 (each_along ax g (guard (bare ty) (Const 0)) (any_object ax g ty (Const 0) any))

-- from the guard of the radix
pub radix_law : RadixLaw
radix_law ax g e c h ty known fit radix =
    let n : ℕ = next c in
    let in_ty : type_in_force n ty ≡ true = type_forces n ty known in
    let in_bare : type_in_force n (bare ty) ≡ true = (and_parts (list_all (adjective_in_force n) ty.adjectives) (list_all (term_in_force n) ty.radix.args) in_ty).1 in
    let gs : List Formula = guard (bare ty) (Const n) in
    let k : List Formula = erase (statement_at Truth (Const n)) ∷ gs ++ g in
    let from_all : Each ax k (gs ++ g) = each_under ax (gs ++ g) (gs ++ g) (erase (statement_at Truth (Const n))) (each_itself ax (gs ++ g)) in
    let from_gs : Along ax k gs = along_each ax k gs (each_left ax k gs g from_all) in
    let adjectives : Along ax k (map literal_formula (map (adjective_literal (Const n)) ty.adjectives)) =
    fresh_derive ax g k (typing e c) c (bare ty) ty.adjectives h.granted fit (each_right ax k gs g from_all) from_gs in
    consider_law ax g n n (bare ty) Truth (there_is ty) h.premises_so (omega arith) in_bare refl (and_from (type_in_force n ty) true in_ty refl) radix
    (taken ax k ty n (each_along ax k (guard ty (Const n)) (whole_guard ax k ty (Const n) from_gs adjectives)))

-- values of a match
record Values (cs : List Clause) (ks : List (Option Constant)) (r : ExistentialRegistration) (us ts values : List Term) : Type 0 where
  pub fixed : Fixed
  pub matched : AllMatched cs ks (length r.loci) (unfixed (length r.loci)) us ts (Some fixed)
  pub are_values : values_of fixed ≡ Some values
  pub fit : LociFit cs ks [] r.loci values

values_so : (cs : List Clause) (c : Context) (ty : SoftType) (r : ExistentialRegistration) (m : Radix) (o : Option (List Term)) → MemberMatches cs c ty r m o → (values : List Term) → o ≡ Some values →
    Values cs c.constants r (over_constants (next c) (length r.loci) m.args) ty.radix.args values
values_so cs c ty r m o (cover.unmatched h) values is = absurd (none_some values is)
values_so cs c ty r m o (cover.matched fs p h a) values is =
    let v : (values_of fs ≡ Some values) × LociFit cs c.constants [] r.loci values = accepted_values cs c.constants r.loci fs p a values is in
    record { fixed = fs; matched = h; are_values = v.0; fit = v.1 }

-- terms in place of constants have no index
one_closed : (b : Bool) (t : Term) (m : ℕ) → closed t ≡ true → closed (if b then t else Const m) ≡ true
one_closed true t m ct = ct
one_closed false t m ct = refl

mutual
  with_closed : (c : ℕ) (t u : Term) → closed t ≡ true → closed u ≡ true → closed (term_with c t u) ≡ true
  with_closed c t (Bound i) ct cu = cu
  with_closed c t (Const m) ct cu = one_closed (nat_eq m c) t m ct
  with_closed c t (App s us) ct cu = args_with_closed c t us ct cu

  args_with_closed : (c : ℕ) (t : Term) (us : Terms) → closed t ≡ true → args_below 0 us ≡ true → args_below 0 (args_with c t us) ≡ true
  args_with_closed c t none ct cu = refl
  args_with_closed c t (more u us) ct cu =
      let both : (closed u ≡ true) × (args_below 0 us ≡ true) = and_parts (closed u) (args_below 0 us) cu in
      and_from (closed (term_with c t u)) (args_below 0 (args_with c t us)) (with_closed c t u ct both.0) (args_with_closed c t us ct both.1)

placed_closed : (n : ℕ) (ts : List Term) (u : Term) → list_all closed ts ≡ true → closed u ≡ true → closed (placed n ts u) ≡ true
placed_closed n [] u ct cu = cu
placed_closed n (t ∷ ts) u ct cu =
    let both : (closed t ≡ true) × (list_all closed ts ≡ true) = and_parts (closed t) (list_all closed ts) ct in
    placed_closed (suc n) ts (term_with n t u) both.1 (with_closed n t u both.0 cu)

all_placed_closed : (n : ℕ) (ts us : List Term) → list_all closed ts ≡ true → list_all closed us ≡ true → list_all closed (map (placed n ts) us) ≡ true
all_placed_closed n ts [] ct cu = refl
all_placed_closed n ts (u ∷ us) ct cu =
    let both : (closed u ≡ true) × (list_all closed us ≡ true) = and_parts (closed u) (list_all closed us) cu in
    and_from (closed (placed n ts u)) (list_all closed (map (placed n ts) us)) (placed_closed n ts u ct both.0) (all_placed_closed n ts us ct both.1)

placed-other : (n m : ℕ) (ts : List Term) → n + length ts ≤ m → placed n ts (Const m) ≡ Const m
placed-other n m [] le = refl
placed-other n m (t ∷ ts) le = ap (placed (suc n) ts) (with-other n m t (omega arith)) ∙ placed-other (suc n) m ts (omega arith)

granted_further : (ax h g : List Formula) (cs : List Clause) (ks : List (Option Constant)) → Each ax h g → AreGranted ax g cs ks → AreGranted ax h cs ks
granted_further ax h g cs ks each grants = record {
  clauses = λ c is. cut_each ax h g (clause_formula c) each (grants.clauses c is);
  known = λ n l is. cut_each ax h g (literal_formula l) each (grants.known n l is);
}

-- a member of the chain of a registration's type, at the constants: its guard derives from theirs
record Member (ax g : List Formula) (c : Context) (r : ExistentialRegistration) (x : ℕ) (m : Radix) : Type 0 where
  pub behind : next c + length r.loci ≤ x
  pub arguments : list_all closed m.args ≡ true
  pub guards : Along ax (guard (type_at (loci_constants (next c) [] r.loci) r.ty) (Const x) ++ with_guards (next c) [] r.loci g) (guard (as_type m) (Const x))

member_so : (ax g : List Formula) (e : Environment) (c : Context) → Holds ax g e c → (r : ExistentialRegistration) → existential_closed r ≡ true → (ms : List Radix) → IsRegisteredChain (typing e c) e c r ms → (m : Radix) → Contains ms m →
    Member ax g c r (next (with_loci c [] r.loci)) m
member_so ax g e c h r closed_so ms chain m is =
    let n : ℕ = next c in
    let inner : Context = with_loci c [] r.loci in
    let x : ℕ = next inner in
    let ty : SoftType = type_at (loci_constants n [] r.loci) r.ty in
    let d : Context = with_fresh inner ty in
    let long : x ≡ n + length r.loci = next-with_loci c [] r.loci in
    let last : next d ≡ suc x = next-with_fresh inner ty in
    let parts : (loci_closed r.loci ≡ true) × (existential_under (length r.loci) r ≡ true) = and_parts (loci_closed r.loci) (existential_under (length r.loci) r) closed_so in
    let under_loci : type_under (length r.loci) r.ty ≡ true = (and_parts (list_all (adjective_under (length r.loci)) r.adjectives) (type_under (length r.loci) r.ty) parts.1).1 in
    let same : d.letters ≡ c.letters = letters-with_loci c [] r.loci in
    let known_inner : HasKnownTypes (is_before (suc x)) inner = known_with_loci (suc x) c [] r.loci (omega (arith, long)) (more_types_known (suc x) c (omega (arith, long)) h.types) refl parts.0 in
    let constants : list_all (term_known (is_before (suc x)) 0) (loci_constants n [] r.loci) ≡ true = constants_known (suc x) n [] r.loci (omega (arith, long)) refl in
    let count : length (loci_constants n [] r.loci) ≡ length r.loci = length-loci_constants n [] r.loci ∙ omega arith in
    let known_ty : type_known (is_before (suc x)) 0 ty ≡ true = type_at_values (is_before (suc x)) (loci_constants n [] r.loci) (length r.loci) constants count r.ty under_loci in
    let known_d : HasKnownTypes (is_before (suc x)) d = known_with_fresh (is_before (suc x)) inner ty known_inner known_ty in
    let chain_there : IsChain (typing e d) e d (Const x) ms = subst (λ (cs : List Clause). IsChain cs e d (Const x) ms) (typing_as e c d same) chain in
    let w : List Formula = with_guards n [] r.loci g in
    let granted : AreGranted ax (guard ty (Const x) ++ w) (typing e d) d.constants =
    subst (λ (cs : List Clause). AreGranted ax (guard ty (Const x) ++ w) cs d.constants) (typing_as e c d same)
    (granted_with_fresh ax w (typing e c) inner.constants ty (granted_with_loci ax g (typing e c) c [] r.loci h.granted)) in
    let clauses : HasChainClauses (typing e d) e d = subst (λ (cs : List Clause). HasChainClauses cs e d) (typing_as e c d same) (clauses_as (typing e c) e c d same h.clauses) in
    let radices : HasClosedRadices d = radices_closed d (subst (λ j. HasKnownTypes (is_before j) d) (sym last) known_d) in
    let arguments : list_all (radix_known (is_before (suc x)) 0) ms ≡ true = known_chain_law (is_before (suc x)) (typing e d) e d h.closed_so known_d (Const x) ms (lt-ltb x (suc x) (omega arith)) chain_there in
    record {
      behind = omega (arith, long);
      arguments = terms_closed (is_before (suc x)) m.args (all-one (radix_known (is_before (suc x)) 0) ms m is arguments);
      guards = along_each ax (guard ty (Const x) ++ w) (guard (as_type m) (Const x)) (chain_law ax (guard ty (Const x) ++ w) e d granted clauses radices (Const x) refl ms chain_there m is);
    }

-- the atom of the type's radix, from the guard of the registration's type
radix_atom : (ax g : List Formula) (e : Environment) (c : Context) → Holds ax g e c → (ty : SoftType) → type_known (is_before (next c)) 0 ty ≡ true → (r : ExistentialRegistration) → existential_closed r ≡ true →
    (x : ℕ) (m : Radix) → Member ax g c r x m → m.sym ≡ ty.radix.sym → (values : List Term) → Values (typing e c) c.constants r (over_constants (next c) (length r.loci) m.args) ty.radix.args values →
    list_all (term_in_force (next c)) values ≡ true → list_all closed values ≡ true → is_of_any_object ty.radix.sym ≡ false →
    Derives ax (guard (type_at (reverse values) r.ty) (Const (next c)) ++ g) (formula.Atom ty.radix.sym (ty.radix.args ++ Const (next c) ∷ []))
radix_atom ax g e c h ty known r closed_so x m member same values v in_values closed_values named =
    let n : ℕ = next c in
    let cs : List Clause = typing e c in
    let parts : (loci_closed r.loci ≡ true) × (existential_under (length r.loci) r ≡ true) = and_parts (loci_closed r.loci) (existential_under (length r.loci) r) closed_so in
    let under_loci : type_under (length r.loci) r.ty ≡ true = (and_parts (list_all (adjective_under (length r.loci)) r.adjectives) (type_under (length r.loci) r.ty) parts.1).1 in
    let count : length values ≡ length r.loci = fit_length cs c.constants [] r.loci values v.fit in
    let t : SoftType = type_at (loci_constants n [] r.loci) r.ty in
    let w : List Formula = guard t (Const x) ++ with_guards n [] r.loci g in
    let named_so : is_of_any_object m.sym ≡ false = subst (λ (s : Sym). is_of_any_object s ≡ false) (sym same) named in
    let atom : Derives ax w (formula.Atom m.sym (m.args ++ Const x ∷ [])) = atom_of ax w m (Const x) named_so (record { arguments = member.arguments; guards = member.guards }) in
    let tv : SoftType = type_at (reverse values) r.ty in
    let at_loci : Derives ax (guard (type_at (reverse values ++ []) r.ty) (Const x) ++ g) (formula.Atom m.sym (map (placed n values) (m.args ++ Const x ∷ []))) =
    at_values ax cs c.constants n n x [] r.loci values g r.ty m.sym (m.args ++ Const x ∷ []) h.granted (omega arith) member.behind h.premises_so refl in_values closed_values parts.0
    (subst (λ j. type_under j r.ty ≡ true) (omega arith) under_loci) v.fit atom in
    let k : List Formula = guard tv (Const x) ++ g in
    let filled : List Term = map (substitute 0 (value_at (reverse values))) (over_constants n (length r.loci) m.args) in
    let args : map (placed n values) (m.args ++ Const x ∷ []) ≡ filled ++ Const x ∷ [] =
    map-append (placed n values) m.args (Const x ∷ []) ∙
    (λ i. (sym (placed_values n n values m.args (omega arith) in_values) ∙ ap (λ j. map (substitute 0 (value_at (reverse values))) (over_constants n j m.args)) count) i ++ placed-other n x values (subst (λ j. n + j ≤ x) (sym count) member.behind) i ∷ []) in
    let filled_atom : Derives ax k (formula.Atom m.sym (filled ++ Const x ∷ [])) =
    subst (λ us. Derives ax k (formula.Atom m.sym us)) args (subst (λ vs. Derives ax (guard (type_at vs r.ty) (Const x) ++ g) (formula.Atom m.sym (map (placed n values) (m.args ++ Const x ∷ [])))) (append-nil (reverse values)) at_loci) in
    let closed_filled : list_all closed filled ≡ true =
    subst (λ us. list_all closed us ≡ true) (sym (placed_values n n values m.args (omega arith) in_values) ∙ ap (λ j. map (substitute 0 (value_at (reverse values))) (over_constants n j m.args)) count) (all_placed_closed n values m.args closed_values member.arguments) in
    let ty_parts : (list_all (adjective_known (is_before n) 0) ty.adjectives ≡ true) × (list_all (term_known (is_before n) 0) ty.radix.args ≡ true) = and_parts (list_all (adjective_known (is_before n) 0) ty.adjectives) (list_all (term_known (is_before n) 0) ty.radix.args) known in
    let closed_args : list_all closed ty.radix.args ≡ true = terms_closed (is_before n) ty.radix.args ty_parts.1 in
    let from_g : Each ax k g = each_right ax k (guard tv (Const x)) g (each_itself ax k) in
    let equal : AreEqual ax k filled ty.radix.args =
    (match_law ax k cs c.constants (granted_further ax k g cs c.constants from_g h.granted) (length r.loci) v.fixed (over_constants n (length r.loci) m.args) ty.radix.args values closed_args v.matched v.are_values).0 in
    let of_filled : said.Holds ax k (Const x) (record { sym = m.sym; args = filled }) = of_atom ax k (record { sym = m.sym; args = filled }) (Const x) closed_filled filled_atom in
    let there : Derives ax k (formula.Atom ty.radix.sym (ty.radix.args ++ Const x ∷ [])) =
    atom_of ax k ty.radix (Const x) named (with_equal ax k (record { sym = m.sym; args = filled }) ty.radix (Const x) same closed_args refl equal of_filled) in
    let le : n ≤ x = let long : n + length r.loci ≤ x = member.behind in omega (arith, long) in
    let in_tv : type_in_force n tv ≡ true = type_substitution_in_force n 0 (value_at (reverse values)) r.ty (λ i. value_forces n (reverse values) i (reverse_forces n values in_values)) (under_type_in_force n (length r.loci) r.ty under_loci) in
    let premises : map (formula_with x (Const n)) k ≡ guard tv (Const n) ++ g =
    map-append (formula_with x (Const n)) (guard tv (Const x)) g ∙
    (λ i. (guard_with x (Const n) tv (Const x) ∙ (λ j. guard (type_with-in_force n x (Const n) tv le in_tv j) (with-itself x (Const n) j))) i ++ formulas_with-in_force n x (Const n) g le h.premises_so i) in
    let conclusion : map (term_with x (Const n)) (ty.radix.args ++ Const x ∷ []) ≡ ty.radix.args ++ Const n ∷ [] =
    map-append (term_with x (Const n)) ty.radix.args (Const x ∷ []) ∙ (λ i. all_with-in_force n x (Const n) ty.radix.args le (terms_force n ty.radix.args ty_parts.1) i ++ with-itself x (Const n) i ∷ []) in
    subst (λ fs. Derives ax fs (formula.Atom ty.radix.sym (ty.radix.args ++ Const n ∷ []))) premises
    (subst (λ us. Derives ax (map (formula_with x (Const n)) k) (formula.Atom ty.radix.sym us)) conclusion
    (constant_generalized ax k (formula.Atom ty.radix.sym (ty.radix.args ++ Const x ∷ [])) x (Const n) refl there))

-- the guard of the type's radix, of an object of the registration's type
radix_guard : (ax g h : List Formula) (ty tv : SoftType) (n : ℕ) (b : Bool) → is_of_any_object ty.radix.sym ≡ b →
    (is_of_any_object ty.radix.sym ≡ false → Derives ax (guard tv (Const n) ++ g) (formula.Atom ty.radix.sym (ty.radix.args ++ Const n ∷ []))) → list_all closed ty.radix.args ≡ true →
    Each ax h g → Along ax h (guard tv (Const n)) → Along ax h (guard (bare ty) (Const n))
radix_guard ax g h ty tv n true any atom ca each here = any_object ax h ty (Const n) any
radix_guard ax g h ty tv n false named atom ca each here =
    (of_atom ax h ty.radix (Const n) ca (cut_each ax h (guard tv (Const n) ++ g) (formula.Atom ty.radix.sym (ty.radix.args ++ Const n ∷ [])) (each_append ax h (guard tv (Const n)) g (each_along ax h (guard tv (Const n)) here) each) (atom named))).guards

-- by a registration
covered_at : (ax g : List Formula) (e : Environment) (c : Context) → Holds ax g e c → (ty : SoftType) → type_known (is_before (next c)) 0 ty ≡ true → (r : ExistentialRegistration) → Contains e.registrations r →
    (ms : List Radix) → IsRegisteredChain (typing e c) e c r ms → (m : Radix) → Contains ms m → (values : List Term) → CoversAt (typing e c) c ty r m values → Derives ax g (erase (there_is ty))
covered_at ax g e c h ty known r is ms chain m there values covers =
    let n : ℕ = next c in
    let cs : List Clause = typing e c in
    let closed_so : existential_closed r ≡ true = all-one existential_closed e.registrations r is h.closed_so.registrations in
    let parts : (loci_closed r.loci ≡ true) × (existential_under (length r.loci) r ≡ true) = and_parts (loci_closed r.loci) (existential_under (length r.loci) r) closed_so in
    let v : Values cs c.constants r (over_constants n (length r.loci) m.args) ty.radix.args values = values_so cs c ty r m (Some values) covers.matches values refl in
    let ty_parts : (list_all (adjective_known (is_before n) 0) ty.adjectives ≡ true) × (list_all (term_known (is_before n) 0) ty.radix.args ≡ true) = and_parts (list_all (adjective_known (is_before n) 0) ty.adjectives) (list_all (term_known (is_before n) 0) ty.radix.args) known in
    let known_values : list_all (term_known (is_before n) 0) values ≡ true =
    values_known (is_before n) v.fixed values
    (all_matched_known (is_before n) cs c.constants (length r.loci) (unfixed (length r.loci)) (over_constants n (length r.loci) m.args) ty.radix.args (Some v.fixed) v.matched ty_parts.1 (unfixed_known (is_before n) (length r.loci)) v.fixed refl) v.are_values in
    let in_values : list_all (term_in_force n) values ≡ true = terms_force n values known_values in
    let closed_values : list_all closed values ≡ true = terms_closed (is_before n) values known_values in
    let rvs : List Term = reverse values in
    let stated : Derives ax g (substitute_formula 0 (value_at rvs) (erase (existential r))) = stated_at ax g cs c.constants h.granted r.loci values closed_values v.fit (existential r) (h.registrations r is) in
    let in_ty : type_in_force n ty ≡ true = type_forces n ty known in
    registered_out ax g n (length r.loci) rvs r (erase (there_is ty)) h.premises_so (λ i. value_forces n rvs i (reverse_forces n values in_values)) parts.1 (inhabited_in_force n ty in_ty) stated
    (λ k each whole radix.
    taken ax k ty n (each_along ax k (guard ty (Const n))
    (whole_guard ax k ty (Const n)
    (radix_guard ax g k ty (type_at rvs r.ty) n (is_of_any_object ty.radix.sym) refl
    (λ named. radix_atom ax g e c h ty known r closed_so (next (with_loci c [] r.loci)) m (member_so ax g e c h r closed_so ms chain m there) (same_sym_true m.sym ty.radix.sym covers.symbol) values v in_values closed_values named)
    (terms_closed (is_before n) ty.radix.args ty_parts.1) each radix)
    (fresh_derive ax g k cs c (type_at rvs (registered_type r)) ty.adjectives h.granted covers.fit each whole))))

pub registered_law : RegisteredLaw
registered_law ax g e c h ty known (r, is, (ms, chain, (m, there, (values, covers)))) = covered_at ax g e c h ty known r is ms chain m there values covers

-- where the adjectives are covered
pub covered_law : CoveredLaw
covered_law ax g e c h ty known (cover.no_adjectives empty) radix = subst (λ (xs : List Adjective). Derives ax g (erase (there_is (record { adjectives = xs; radix = ty.radix })))) (sym empty) radix
covered_law ax g e c h ty known (cover.by_radix fit) radix = radix_law ax g e c h ty known fit radix
covered_law ax g e c h ty known (cover.by_registration has) radix = registered_law ax g e c h ty known has
