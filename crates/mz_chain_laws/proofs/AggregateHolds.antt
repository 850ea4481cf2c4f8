-- The radix of an aggregate holds.
use Rattle.std.proofs.Common.{◌≡◌, ◌+◌, ℕ, zero, suc, List, [], ◌∷◌, ◌++◌, map, length, length-append, append_assoc, append-nil, reverse, take, drop, take-append-drop, get_or, refl, sym, ap, ◌∙◌, subst, arith, Bool, true, false, Option, Some, None}
use Rattle.std.specs.Prelude.{Contains}
use Rattle.std.specs.List.{list_all}
use Rattle.std.proofs.lemmas.Bool.{and_parts, and_from}
use Rattle.std.proofs.lemmas.List.{map-append, length-reverse, reverse-reverse}
use Rattle.mz_logic.specs.declared.sym.Sym.{Sym}
use Rattle.mz_logic.specs.Term.{Term, Bound, App, terms_of}
use Rattle.mz_logic.specs.Formula as formula
use Rattle.mz_logic.specs.Formula.{Formula}
use Rattle.mz_logic.specs.Indices.{closed}
use Rattle.mz_logic.specs.Substitution.{substitute, substitute_formula, value_at}
use Rattle.mz_logic.specs.Derives.{Derives}
use Rattle.mz_logic.specs.Literal.{literal_formula}
use Rattle.mz_logic.specs.declared.literal.Literal.{Literal}
use Rattle.mz_logic.proofs.IndexLemmas.{args_below-terms_of}
use Rattle.mz_logic.proofs.SubstitutionLaws.{substitute_args-terms_of}
use Rattle.mz_logic.proofs.Each.{Along, along_each, along_append}
use Rattle.mz_core.specs.Closed.{term_under, type_under, adjective_under}
use Rattle.mz_core.specs.Guard.{guard, guard_literals}
use Rattle.mz_core.specs.TypeSubstitution.{substitute_type, substitute_adjective}
use Rattle.mz_core.specs.declared.adjective.Adjective.{Adjective}
use Rattle.mz_core.specs.declared.structure.Field.{Field}
use Rattle.mz_core.specs.declared.radix.Radix.{Radix}
use Rattle.mz_core.specs.declared.soft_type.SoftType.{SoftType}
use Rattle.mz_core.specs.declared.structure.Structure.{Structure}
use Rattle.mz_core.proofs.LawProofs.{guard_of_substitution}
use Rattle.mz_context.specs.declared.constants.Constant.{Constant}
use Rattle.mz_ground.specs.declared.clause.Clause.{Clause}
use Rattle.mz_classes.proofs.SymListLemmas.{same_sym_true}
use Rattle.mz_items.specs.Loci.{inward, variables}
use Rattle.mz_items.specs.Closed.{field_under, structure_closed}
use Rattle.mz_items.specs.StructureRows as row
use Rattle.mz_clauses.specs.Guards.{loci_guards}
use Rattle.mz_clauses.specs.StructureClauses.{structure_literal, given_guards}
use Rattle.mz_clause_laws.proofs.Instances.{formulas_at, formulas_at-append}
use Rattle.mz_fits.specs.Fits.{LociFit, type_at}
use Rattle.mz_fits.specs.Laws.{AreGranted}
use Rattle.mz_fits.proofs.SoundLemmas.{fits_derives}
use Rattle.mz_fits.proofs.OneMatch.{some-inj, none_some}
use Rattle.mz_types.specs.Structures as st
use Rattle.mz_types.specs.Structures.{has_aggregate, made_by, FieldsFit, no_fields, and_field, AggregateFits, made_radix, AggregateGives}
use Rattle.mz_chain_laws.specs.ChainLaw.{HasAggregateClause, made_of_variables}
use Rattle.mz_chain_laws.proofs.Fired.{fired, fit_length, loci_hold}
use Rattle.mz_chain_laws.proofs.Said.{closed_append, closed_reverse, Holds, of_atom}
use Rattle.mz_chain_laws.proofs.StructureHolds.{variables_at, loci_at, map_reverse, inward_at, found, Under, structure_under, map-twice, length_inward}

-- structures with the clause of their aggregate
abbrev pub AreMade : List Clause → List Structure → Type 0
AreMade cs all = (x : Structure) → Contains all x → HasAggregateClause cs x × (structure_closed x ≡ true)

field_length : (cs : List Clause) (ks : List (Option Constant)) (values : List Term) (fs : List Field) (zs : List Term) → FieldsFit cs ks values fs zs → length zs ≡ length fs
field_length cs ks values fs zs no_fields = refl
field_length cs ks values fs zs (and_field f others z more h k) = ap suc (field_length cs ks values others more k)

-- types at values for values
adjectives_twice : (ts us : List Term) (xs : List Adjective) → list_all (adjective_under (length us)) xs ≡ true → map (substitute_adjective 0 (value_at ts)) (map (substitute_adjective 0 (value_at us)) xs) ≡ map (substitute_adjective 0 (value_at (map (substitute 0 (value_at ts)) us))) xs
adjectives_twice ts us [] h = refl
adjectives_twice ts us (a ∷ xs) h =
    let both : (adjective_under (length us) a ≡ true) × (list_all (adjective_under (length us)) xs ≡ true) = and_parts (adjective_under (length us) a) (list_all (adjective_under (length us)) xs) h in
    λ i. record { positive = a.positive; sym = a.sym; args = map-twice ts us a.args both.0 i } ∷ adjectives_twice ts us xs both.1 i

type_twice : (ts us : List Term) (ty : SoftType) → type_under (length us) ty ≡ true → substitute_type 0 (value_at ts) (substitute_type 0 (value_at us) ty) ≡ substitute_type 0 (value_at (map (substitute 0 (value_at ts)) us)) ty
type_twice ts us ty h =
    let both : (list_all (adjective_under (length us)) ty.adjectives ≡ true) × (list_all (term_under (length us)) ty.radix.args ≡ true) = and_parts (list_all (adjective_under (length us)) ty.adjectives) (list_all (term_under (length us)) ty.radix.args) h in
    λ i. record { adjectives = adjectives_twice ts us ty.adjectives both.0 i; radix = record { sym = ty.radix.sym; args = map-twice ts us ty.radix.args both.1 i } }

first_same : (x y : Term) (xs ys : List Term) → x ∷ xs ≡ y ∷ ys → x ≡ y
first_same x y xs ys e = ap (λ (zs : List Term). get_or zs 0 x) e

rest_same : (x y : Term) (xs ys : List Term) → x ∷ xs ≡ y ∷ ys → xs ≡ ys
rest_same x y xs ys e = ap (λ (zs : List Term). drop 1 zs) e

-- the fields' guards at the values
given_at : (ax g : List Formula) (cs : List Clause) (ks : List (Option Constant)) → AreGranted ax g cs ks → (ts us values : List Term) → map (substitute 0 (value_at ts)) us ≡ values → (fs : List Field) (vs zs : List Term) → map (substitute 0 (value_at ts)) vs ≡ zs → list_all (field_under (length us)) fs ≡ true → FieldsFit cs ks values fs zs → Along ax g (formulas_at ts (given_guards us fs vs))
given_at ax g cs ks grants ts us values eu fs vs zs ez h no_fields = tt
given_at ax g cs ks grants ts us values eu fs [] zs ez h (and_field f others z more k fit) = tt
given_at ax g cs ks grants ts us values eu fs (v ∷ vs) zs ez h (and_field f others z more k fit) =
    let both : (field_under (length us) f ≡ true) × (list_all (field_under (length us)) others ≡ true) = and_parts (field_under (length us) f) (list_all (field_under (length us)) others) h in
    let said : Along ax g (guard (type_at values f.ty) z) = along_each ax g (guard (type_at values f.ty) z) (fits_derives ax g cs ks grants z (type_at values f.ty) k) in
    let same_type : type_at values f.ty ≡ substitute_type 0 (value_at ts) (substitute_type 0 (value_at us) f.ty) = ap (λ (ws : List Term). substitute_type 0 (value_at ws) f.ty) (sym eu) ∙ sym (type_twice ts us f.ty both.0) in
    let same_term : z ≡ substitute 0 (value_at ts) v = sym (first_same (substitute 0 (value_at ts) v) z (map (substitute 0 (value_at ts)) vs) more ez) in
    let moved : Along ax g (guard (substitute_type 0 (value_at ts) (substitute_type 0 (value_at us) f.ty)) (substitute 0 (value_at ts) v)) =
    subst (λ (w : Term). Along ax g (guard (substitute_type 0 (value_at ts) (substitute_type 0 (value_at us) f.ty)) w)) same_term (subst (λ (ty : SoftType). Along ax g (guard ty z)) same_type said) in
    let here : Along ax g (formulas_at ts (guard_literals (substitute_type 0 (value_at us) f.ty) v)) = subst (Along ax g) (sym (guard_of_substitution 0 (value_at ts) (substitute_type 0 (value_at us) f.ty) v)) moved in
    let rest : Along ax g (formulas_at ts (given_guards us others vs)) = given_at ax g cs ks grants ts us values eu others vs more (rest_same (substitute 0 (value_at ts) v) z (map (substitute 0 (value_at ts)) vs) more ez) both.1 fit in
    subst (Along ax g) (sym (formulas_at-append ts (guard_literals (substitute_type 0 (value_at us) f.ty) v) (given_guards us others vs)))
    (along_append ax g (formulas_at ts (guard_literals (substitute_type 0 (value_at us) f.ty) v)) (formulas_at ts (given_guards us others vs)) here rest)

-- the variables of an aggregate, and the aggregate of these, at its arguments
made_at : (x : Structure) (ls zs args : List Term) → length ls ≡ length x.loci → length zs ≡ length x.fields → ls ++ zs ≡ args → substitute 0 (value_at (reverse zs ++ reverse ls)) (made_of_variables x) ≡ App x.aggregate (terms_of args)
made_at x ls zs args nl nz e =
    let back : length (reverse zs) ≡ length x.fields = length-reverse zs ∙ nz in
    let loci : map (substitute 0 (value_at (reverse zs ++ reverse ls))) (variables (length x.fields) (length x.loci)) ≡ ls = loci_at (reverse zs) ls (length x.fields) (length x.loci) back nl in
    let fields : map (substitute 0 (value_at (reverse zs ++ reverse ls))) (variables 0 (length x.fields)) ≡ zs =
    ap (λ n. map (substitute 0 (value_at (reverse zs ++ reverse ls))) (variables 0 n)) (sym nz) ∙ variables_at [] (reverse ls) zs in
    ap (App x.aggregate) (substitute_args-terms_of 0 (value_at (reverse zs ++ reverse ls)) (variables (length x.fields) (length x.loci) ++ variables 0 (length x.fields))) ∙
    ap (λ (us : List Term). App x.aggregate (terms_of us)) (map-append (substitute 0 (value_at (reverse zs ++ reverse ls))) (variables (length x.fields) (length x.loci)) (variables 0 (length x.fields)) ∙ ((λ i. loci i ++ fields i) ∙ e))

fields_inward : (f : Term → Term) (n : ℕ) (zs : List Term) → map f (variables 0 n) ≡ zs → map f (inward 0 n) ≡ reverse zs
fields_inward f n zs e = ap (map f) (sym (reverse-reverse (inward 0 n))) ∙ (map_reverse f (variables 0 n) ∙ ap reverse e)

-- the structure's atom of an aggregate whose arguments fit
made_atom : (ax g : List Formula) (cs : List Clause) (ks : List (Option Constant)) → AreGranted ax g cs ks → (x : Structure) (args : List Term) → list_all closed (take (length x.loci) args) ≡ true → list_all closed (drop (length x.loci) args) ≡ true → HasAggregateClause cs x → structure_closed x ≡ true → AggregateFits cs ks x args → Derives ax g (formula.Atom x.sym (take (length x.loci) args ++ App x.aggregate (terms_of args) ∷ []))
made_atom ax g cs ks grants x args cl cz w cx fits =
    let ts : List Term = reverse (drop (length x.loci) args) ++ reverse (take (length x.loci) args) in
    let nl : length (take (length x.loci) args) ≡ length x.loci = fit_length cs ks [] x.loci (take (length x.loci) args) fits.loci in
    let nz : length (drop (length x.loci) args) ≡ length x.fields = field_length cs ks (st.given_values x args) x.fields (drop (length x.loci) args) fits.fields in
    let back : length (reverse (drop (length x.loci) args)) ≡ length x.fields = length-reverse (drop (length x.loci) args) ∙ nz in
    let front : length (reverse (take (length x.loci) args)) ≡ length x.loci = length-reverse (take (length x.loci) args) ∙ nl in
    let both : length ts ≡ length (reverse (drop (length x.loci) args)) + length (reverse (take (length x.loci) args)) = length-append (reverse (drop (length x.loci) args)) (reverse (take (length x.loci) args)) in
    let long : length ts ≡ length x.loci + length x.fields = omega (arith, back, front, both) in
    let made : substitute 0 (value_at ts) (made_of_variables x) ≡ App x.aggregate (terms_of args) = made_at x (take (length x.loci) args) (drop (length x.loci) args) args nl nz (take-append-drop (length x.loci) args) in
    let loci : map (substitute 0 (value_at ts)) (variables (length x.fields) (length x.loci)) ≡ take (length x.loci) args = loci_at (reverse (drop (length x.loci) args)) (take (length x.loci) args) (length x.fields) (length x.loci) back nl in
    let inner : map (substitute 0 (value_at ts)) (inward (length x.fields) (length x.loci)) ≡ reverse (take (length x.loci) args) = inward_at (reverse (drop (length x.loci) args)) (take (length x.loci) args) (length x.fields) (length x.loci) back nl in
    let fields : map (substitute 0 (value_at ts)) (variables 0 (length x.fields)) ≡ drop (length x.loci) args =
    ap (λ n. map (substitute 0 (value_at ts)) (variables 0 n)) (sym nz) ∙ variables_at [] (reverse (take (length x.loci) args)) (drop (length x.loci) args) in
    let outer : map (substitute 0 (value_at ts)) (inward 0 (length x.fields)) ≡ reverse (drop (length x.loci) args) = fields_inward (substitute 0 (value_at ts)) (length x.fields) (drop (length x.loci) args) fields in
    let us : List Term = row.given_values x (length x.fields) (made_of_variables x) in
    let values : map (substitute 0 (value_at ts)) (row.given_values x (length x.fields) (made_of_variables x)) ≡ st.given_values x args =
    map-append (substitute 0 (value_at ts)) (inward 0 (length x.fields)) (made_of_variables x ∷ inward (length x.fields) (length x.loci)) ∙ (λ i. outer i ++ (made i ∷ inner i)) in
    let p : length (inward 0 (length x.fields)) ≡ length x.fields = length_inward 0 (length x.fields) in
    let q : length (inward (length x.fields) (length x.loci)) ≡ length x.loci = length_inward (length x.fields) (length x.loci) in
    let r : length us ≡ length (inward 0 (length x.fields)) + length (made_of_variables x ∷ inward (length x.fields) (length x.loci)) = length-append (inward 0 (length x.fields)) (made_of_variables x ∷ inward (length x.fields) (length x.loci)) in
    let size : length x.loci + 1 + length x.fields ≡ length us = omega (arith, p, q, r) in
    let under : list_all (field_under (length us)) x.fields ≡ true = subst (λ m. list_all (field_under m) x.fields ≡ true) size (structure_under x cx).fields in
    let guards : Along ax g (formulas_at ts (loci_guards (length x.fields) x.loci)) =
    subst (λ (vs : List Term). Along ax g (formulas_at (reverse (drop (length x.loci) args) ++ vs) (loci_guards (length x.fields) x.loci))) (append-nil (reverse (take (length x.loci) args)))
    (loci_hold ax g cs ks grants (length x.fields) (reverse (drop (length x.loci) args)) [] x.loci (take (length x.loci) args) back fits.loci) in
    let given : Along ax g (formulas_at ts (given_guards us x.fields (variables 0 (length x.fields)))) =
    given_at ax g cs ks grants ts us (st.given_values x args) values x.fields (variables 0 (length x.fields)) (drop (length x.loci) args) fields under fits.fields in
    let premises : Along ax g (formulas_at ts (loci_guards (length x.fields) x.loci ++ given_guards us x.fields (variables 0 (length x.fields)))) =
    subst (Along ax g) (sym (formulas_at-append ts (loci_guards (length x.fields) x.loci) (given_guards us x.fields (variables 0 (length x.fields)))))
    (along_append ax g (formulas_at ts (loci_guards (length x.fields) x.loci)) (formulas_at ts (given_guards us x.fields (variables 0 (length x.fields)))) guards given) in
    let ct : list_all closed ts ≡ true = closed_append (reverse (drop (length x.loci) args)) (reverse (take (length x.loci) args)) (closed_reverse (drop (length x.loci) args) cz) (closed_reverse (take (length x.loci) args) cl) in
    let said : Derives ax g (substitute_formula 0 (value_at ts) (literal_formula (structure_literal (length x.fields) x (made_of_variables x)))) =
    fired ax g cs grants.clauses ts ct (length x.loci + length x.fields) (loci_guards (length x.fields) x.loci ++ given_guards us x.fields (variables 0 (length x.fields))) (structure_literal (length x.fields) x (made_of_variables x)) long w premises in
    let atom : map (substitute 0 (value_at ts)) (variables (length x.fields) (length x.loci) ++ made_of_variables x ∷ []) ≡ take (length x.loci) args ++ App x.aggregate (terms_of args) ∷ [] =
    map-append (substitute 0 (value_at ts)) (variables (length x.fields) (length x.loci)) (made_of_variables x ∷ []) ∙ (λ i. loci i ++ made i ∷ []) in
    subst (λ (vs : List Term). Derives ax g (formula.Atom x.sym vs)) atom said

closed_take : (n : ℕ) (xs : List Term) → list_all closed xs ≡ true → list_all closed (take n xs) ≡ true
closed_take zero xs h = refl
closed_take (suc n) [] h = refl
closed_take (suc n) (x ∷ xs) h =
    let both : (closed x ≡ true) × (list_all closed xs ≡ true) = and_parts (closed x) (list_all closed xs) h in
    and_from (closed x) (list_all closed (take n xs)) both.0 (closed_take n xs both.1)

closed_drop : (n : ℕ) (xs : List Term) → list_all closed xs ≡ true → list_all closed (drop n xs) ≡ true
closed_drop zero xs h = h
closed_drop (suc n) [] h = refl
closed_drop (suc n) (x ∷ xs) h = closed_drop n xs (and_parts (closed x) (list_all closed xs) h).1

pub aggregate_holds : (ax g : List Formula) (cs : List Clause) (ks : List (Option Constant)) → AreGranted ax g cs ks → (all : List Structure) → AreMade cs all → (s : Sym) (args : List Term) → list_all closed args ≡ true → (o : Option Radix) → AggregateGives cs ks all s args o → (y : Radix) → o ≡ Some y → Holds ax g (App s (terms_of args)) y
aggregate_holds ax g cs ks grants all d s args ca o (st.of_none h) y e = absurd (none_some y e)
aggregate_holds ax g cs ks grants all d s args ca o (st.unfit_arguments x h n) y e = absurd (none_some y e)
aggregate_holds ax g cs ks grants all d s args ca o (st.of_structure x h fits) y e =
    let i : Contains all x × (has_aggregate s x ≡ true) = found (has_aggregate s) all x h in
    let w : HasAggregateClause cs x × (structure_closed x ≡ true) = d x i.0 in
    let cl : list_all closed (take (length x.loci) args) ≡ true = closed_take (length x.loci) args ca in
    let cz : list_all closed (drop (length x.loci) args) ≡ true = closed_drop (length x.loci) args ca in
    let atom : Derives ax g (formula.Atom x.sym (take (length x.loci) args ++ App x.aggregate (terms_of args) ∷ [])) = made_atom ax g cs ks grants x args cl cz w.0 w.1 fits in
    let one : Holds ax g (App x.aggregate (terms_of args)) (made_radix x args) = of_atom ax g (made_radix x args) (App x.aggregate (terms_of args)) cl atom in
    subst (Holds ax g (App s (terms_of args))) (some-inj (made_radix x args) y e)
    (subst (λ (q : Sym). Holds ax g (App q (terms_of args)) (made_radix x args)) (same_sym_true x.aggregate s i.1) one)
