-- The radices that structures give hold.
use Rattle.std.proofs.Common.{◌≡◌, ◌+◌, ◌<◌, ◌⊎◌, inl, inr, ℕ, zero, suc, List, [], ◌∷◌, ◌++◌, map, length, length-append, append_assoc, append-nil, reverse, refl, sym, ap, ◌∙◌, subst, arith, Bool, true, false, Option, Some, None}
use Rattle.std.specs.Prelude.{◌&&◌, if◌then◌else◌, Contains, find, flat_map}
use Rattle.std.specs.List.{list_all}
use Rattle.std.proofs.lemmas.Bool.{and_parts, and_from}
use Rattle.std.proofs.lemmas.List.{map-append, reverse-append, reverse-reverse, length-reverse}
use Rattle.mz_std_laws.proofs.Sums.{either}
use Rattle.mz_logic.specs.declared.sym.Sym.{Sym}
use Rattle.mz_logic.specs.Sym.{same_sym}
use Rattle.mz_logic.specs.Term.{Term, Bound, App, none, more, terms_of}
use Rattle.mz_logic.specs.Formula as formula
use Rattle.mz_logic.specs.Formula.{Formula}
use Rattle.mz_logic.specs.Indices.{closed}
use Rattle.mz_logic.specs.Substitution.{substitute, value_at}
use Rattle.mz_logic.specs.Derives.{Derives}
use Rattle.mz_logic.specs.declared.literal.Literal.{Literal}
use Rattle.mz_logic.proofs.SubstitutionLaws.{substitute-substitute, substitute-agree}
use Rattle.mz_logic.proofs.ValueLaws.{substitute-value_at}
use Rattle.mz_logic.proofs.Each.{Along, along_append}
use Rattle.mz_core.specs.Closed.{term_under, type_under, adjective_under, loci_closed}
use Rattle.mz_core.specs.Hidden.{is_of_any_object}
use Rattle.mz_core.specs.Guard.{guard}
use Rattle.mz_core.specs.TypeSubstitution.{substitute_type}
use Rattle.mz_core.specs.declared.structure.Field.{Field}
use Rattle.mz_core.specs.declared.radix.Radix.{Radix}
use Rattle.mz_core.specs.declared.soft_type.SoftType.{SoftType}
use Rattle.mz_core.specs.declared.structure.Structure.{Structure}
use Rattle.mz_core.proofs.LawProofs.{guard_of_substitution}
use Rattle.mz_context.specs.declared.constants.Constant.{Constant}
use Rattle.mz_ground.specs.declared.clause.Clause.{Clause}
use Rattle.mz_classes.proofs.SymListLemmas.{same_sym_true}
use Rattle.mz_items.specs.Loci.{inward, variables}
use Rattle.mz_items.specs.Closed.{field_under, notation_closed, structure_closed}
use Rattle.mz_items.specs.StructureRows.{selected, selected_values, field_values}
use Rattle.mz_clauses.specs.Guards.{loci_guards, guard_at_object}
use Rattle.mz_clauses.specs.StructureClauses.{structure_literal, structure_parts, field_guard}
use Rattle.mz_clause_laws.proofs.Instances.{formulas_at, formulas_at-append, along_first, along_second}
use Rattle.mz_clause_laws.proofs.Valuations.{term_within}
use Rattle.mz_fits.specs.Fits.{LociFit, type_at}
use Rattle.mz_fits.specs.Laws.{AreGranted}
use Rattle.mz_fits.proofs.OneMatch.{some-inj, none_some}
use Rattle.mz_types.specs.RowTypes.{radix_at}
use Rattle.mz_types.specs.Structures as st
use Rattle.mz_types.specs.Structures.{is_structure, has_selector, structure_of, field_radix, MemberGives, FirstGives, ancestors_at, AncestorsGive}
use Rattle.mz_chain_laws.specs.ChainLaw.{HasPartClauses, as_type}
use Rattle.mz_chain_laws.proofs.Fired.{fired_all, guard_at_term, fit_length, append-one_value_more, loci_hold}
use Rattle.mz_chain_laws.proofs.Said.{closed_append, closed_reverse, closed_at_values, Holds, radix_part, atom_of, AllHold}

-- variables at the values that stand for them
value_past : (us zs : List Term) (x : Term) → value_at (us ++ (x ∷ zs)) (length us) ≡ x
value_past [] zs x = refl
value_past (u ∷ us) zs x = value_past us zs x

one_variable_more : (by n : ℕ) → variables by (suc n) ≡ Bound (by + n) ∷ variables by n
one_variable_more by n = reverse-append (inward by n) (Bound (by + n) ∷ [])

pub variables_at : (ws before vs : List Term) → map (substitute 0 (value_at (ws ++ (reverse vs ++ before)))) (variables (length ws) (length vs)) ≡ vs
variables_at ws before [] = refl
variables_at ws before (x ∷ xs) =
    let same : ws ++ (reverse (x ∷ xs) ++ before) ≡ ws ++ (reverse xs ++ (x ∷ before)) = ap (λ ys. ws ++ ys) (append-one_value_more x xs before) in
    let split : ws ++ (reverse xs ++ (x ∷ before)) ≡ (ws ++ reverse xs) ++ (x ∷ before) = sym (append_assoc ws (reverse xs) (x ∷ before)) in
    let a : length (ws ++ reverse xs) ≡ length ws + length (reverse xs) = length-append ws (reverse xs) in
    let b : length (reverse xs) ≡ length xs = length-reverse xs in
    let place : length ws + length xs ≡ length (ws ++ reverse xs) = omega (arith, a, b) in
    let value : value_at (ws ++ (reverse xs ++ (x ∷ before))) (length ws + length xs) ≡ x = (λ i. value_at (split i) (place i)) ∙ value_past (ws ++ reverse xs) before x in
    let first : substitute 0 (value_at (ws ++ (reverse xs ++ (x ∷ before)))) (Bound (length ws + length xs)) ≡ x = substitute-value_at (ws ++ (reverse xs ++ (x ∷ before))) (length ws + length xs) ∙ value in
    let rest : map (substitute 0 (value_at (ws ++ (reverse xs ++ (x ∷ before))))) (variables (length ws) (length xs)) ≡ xs = variables_at ws (x ∷ before) xs in
    ap (λ us. map (substitute 0 (value_at us)) (variables (length ws) (suc (length xs)))) same ∙
    (ap (map (substitute 0 (value_at (ws ++ (reverse xs ++ (x ∷ before)))))) (one_variable_more (length ws) (length xs)) ∙ (λ i. first i ∷ rest i))

-- the variables of so many loci under others
pub loci_at : (ws vs : List Term) (by n : ℕ) → length ws ≡ by → length vs ≡ n → map (substitute 0 (value_at (ws ++ reverse vs))) (variables by n) ≡ vs
loci_at ws vs by n eb en =
    (λ i. map (substitute 0 (value_at (ws ++ sym (append-nil (reverse vs)) i))) (variables (sym eb i) (sym en i))) ∙ variables_at ws [] vs

pub map_reverse : (f : Term → Term) (xs : List Term) → map f (reverse xs) ≡ reverse (map f xs)
map_reverse f [] = refl
map_reverse f (x ∷ xs) =
    ap (map f) (reverse-append (x ∷ []) xs) ∙ (map-append f (reverse xs) (x ∷ []) ∙ (ap (λ ys. ys ++ f x ∷ []) (map_reverse f xs) ∙ sym (reverse-append (f x ∷ []) (map f xs))))

-- the same, the innermost first
pub inward_at : (ws vs : List Term) (by n : ℕ) → length ws ≡ by → length vs ≡ n → map (substitute 0 (value_at (ws ++ reverse vs))) (inward by n) ≡ reverse vs
inward_at ws vs by n eb en =
    ap (map (substitute 0 (value_at (ws ++ reverse vs)))) (sym (reverse-reverse (inward by n))) ∙
    (map_reverse (substitute 0 (value_at (ws ++ reverse vs))) (variables by n) ∙ ap reverse (loci_at ws vs by n eb en))

-- what a structure's symbol or a selector's is found by
found_step : {A : Type 0} (p : A → Bool) (y : A) (ys : List A) (x : A) (b : Bool) → p y ≡ b → (if b then Some y else find p ys) ≡ Some x → ((y ≡ x) × (p y ≡ true)) ⊎ (find p ys ≡ Some x)
found_step p y ys x true e h = inl (some-inj y x h, e)
found_step p y ys x false e h = inr h

pub found : {A : Type 0} (p : A → Bool) (xs : List A) (x : A) → find p xs ≡ Some x → Contains xs x × (p x ≡ true)
found p [] x h = absurd (none_some x h)
found p (y ∷ ys) x h =
    either (found_step p y ys x (p y) refl h)
    (λ a. ((0, omega arith, a.0), subst (λ z. p z ≡ true) a.0 a.1))
    (λ k. let r = found p ys x k in ((suc r.0.0, omega (arith, r.0.1), r.0.2), r.1))

-- the parts of a structure at an object of it
parts_at : (ax g : List Formula) (cs : List Clause) (ks : List (Option Constant)) → AreGranted ax g cs ks → (t : Term) → closed t ≡ true → (r : Radix) → Holds ax g t r → (x : Structure) → x.sym ≡ r.sym → is_of_any_object x.sym ≡ false → HasPartClauses cs x → LociFit cs ks [] x.loci r.args → Along ax g (formulas_at (t ∷ reverse r.args) (structure_parts x))
parts_at ax g cs ks grants t ct r hr x es ep w fit =
    let n : length r.args ≡ length x.loci = fit_length cs ks [] x.loci r.args fit in
    let long : length (t ∷ reverse r.args) ≡ length x.loci + 1 = let e : length (reverse r.args) ≡ length r.args = length-reverse r.args in omega (arith, e, n) in
    let cv : list_all closed (t ∷ reverse r.args) ≡ true = and_from (closed t) (list_all closed (reverse r.args)) ct (closed_reverse r.args hr.arguments) in
    let guards : Along ax g (formulas_at (t ∷ reverse r.args) (loci_guards 1 x.loci)) =
    subst (λ (us : List Term). Along ax g (formulas_at (t ∷ us) (loci_guards 1 x.loci))) (append-nil (reverse r.args)) (loci_hold ax g cs ks grants 1 (t ∷ []) [] x.loci r.args refl fit) in
    let atom : Derives ax g (formula.Atom r.sym (r.args ++ t ∷ [])) = atom_of ax g r t (subst (λ (s : Sym). is_of_any_object s ≡ false) es ep) hr in
    let named : Derives ax g (formula.Atom x.sym (r.args ++ t ∷ [])) = subst (λ (s : Sym). Derives ax g (formula.Atom s (r.args ++ t ∷ []))) (sym es) atom in
    let loci : map (substitute 0 (value_at (t ∷ reverse r.args))) (variables 1 (length x.loci)) ≡ r.args = loci_at (t ∷ []) r.args 1 (length x.loci) refl n in
    let last : substitute 0 (value_at (t ∷ reverse r.args)) (Bound 0) ≡ t = substitute-value_at (t ∷ reverse r.args) 0 in
    let whole : map (substitute 0 (value_at (t ∷ reverse r.args))) (variables 1 (length x.loci) ++ Bound 0 ∷ []) ≡ r.args ++ t ∷ [] =
    map-append (substitute 0 (value_at (t ∷ reverse r.args))) (variables 1 (length x.loci)) (Bound 0 ∷ []) ∙ (λ i. loci i ++ last i ∷ []) in
    let one : Along ax g (formulas_at (t ∷ reverse r.args) (structure_literal 1 x (Bound 0) ∷ [])) = (subst (λ (us : List Term). Derives ax g (formula.Atom x.sym us)) (sym whole) named, tt) in
    let premises : Along ax g (formulas_at (t ∷ reverse r.args) (loci_guards 1 x.loci ++ structure_literal 1 x (Bound 0) ∷ [])) =
    subst (Along ax g) (sym (formulas_at-append (t ∷ reverse r.args) (loci_guards 1 x.loci) (structure_literal 1 x (Bound 0) ∷ [])))
    (along_append ax g (formulas_at (t ∷ reverse r.args) (loci_guards 1 x.loci)) (formulas_at (t ∷ reverse r.args) (structure_literal 1 x (Bound 0) ∷ [])) guards one) in
    fired_all ax g cs grants.clauses (t ∷ reverse r.args) cv (length x.loci + 1) (loci_guards 1 x.loci ++ structure_literal 1 x (Bound 0) ∷ []) (structure_parts x) long w premises

radix_under : (n : ℕ) (ty : SoftType) → type_under n ty ≡ true → list_all (term_under n) ty.radix.args ≡ true
radix_under n ty h = (and_parts (list_all (adjective_under n) ty.adjectives) (list_all (term_under n) ty.radix.args) h).1

-- what a closed structure has
pub record Under (x : Structure) : Type 0 where
  pub ancestors : list_all (type_under (length x.loci)) x.ancestors ≡ true
  pub fields : list_all (field_under (length x.loci + 1 + length x.fields)) x.fields ≡ true

pub structure_under : (x : Structure) → structure_closed x ≡ true → Under x
structure_under x h =
    let one : ((loci_closed x.loci && list_all (type_under (length x.loci)) x.ancestors && list_all (field_under (length x.loci + 1 + length x.fields)) x.fields) ≡ true) × (list_all notation_closed x.notations ≡ true) =
    and_parts (loci_closed x.loci && list_all (type_under (length x.loci)) x.ancestors && list_all (field_under (length x.loci + 1 + length x.fields)) x.fields) (list_all notation_closed x.notations) h in
    let two : ((loci_closed x.loci && list_all (type_under (length x.loci)) x.ancestors) ≡ true) × (list_all (field_under (length x.loci + 1 + length x.fields)) x.fields ≡ true) =
    and_parts (loci_closed x.loci && list_all (type_under (length x.loci)) x.ancestors) (list_all (field_under (length x.loci + 1 + length x.fields)) x.fields) one.0 in
    record { ancestors = (and_parts (loci_closed x.loci) (list_all (type_under (length x.loci)) x.ancestors) two.0).1; fields = two.1 }

-- the ancestors
each_ancestor : (ax g : List Formula) (t : Term) (vs : List Term) (n : ℕ) → list_all closed (reverse vs) ≡ true → length (reverse vs) ≡ n → (tys : List SoftType) → list_all (type_under n) tys ≡ true → Along ax g (formulas_at (t ∷ reverse vs) (flat_map guard_at_object tys)) → AllHold ax g t (map (radix_at vs) tys)
unfolding radix_at
each_ancestor ax g t vs n cv long [] h a = tt
each_ancestor ax g t vs n cv long (ty ∷ tys) h a =
    let both : (type_under n ty ≡ true) × (list_all (type_under n) tys ≡ true) = and_parts (type_under n ty) (list_all (type_under n) tys) h in
    let here : Along ax g (formulas_at (t ∷ reverse vs) (guard_at_object ty)) = along_first ax g (t ∷ reverse vs) (guard_at_object ty) (flat_map guard_at_object tys) a in
    let rest : Along ax g (formulas_at (t ∷ reverse vs) (flat_map guard_at_object tys)) = along_second ax g (t ∷ reverse vs) (guard_at_object ty) (flat_map guard_at_object tys) a in
    (record { arguments = closed_at_values (reverse vs) ty.radix.args n cv long (radix_under n ty both.0); guards = radix_part ax g (type_at (reverse vs) ty) t (subst (Along ax g) (guard_at_term t (reverse vs) ty) here) }, each_ancestor ax g t vs n cv long tys both.1 rest)

-- structures with their clauses
abbrev pub AreDescribed : List Clause → List Structure → Type 0
AreDescribed cs all = (x : Structure) → Contains all x → HasPartClauses cs x × (structure_closed x ≡ true) × (is_of_any_object x.sym ≡ false)

pub ancestors_hold : (ax g : List Formula) (cs : List Clause) (ks : List (Option Constant)) → AreGranted ax g cs ks → (all : List Structure) → AreDescribed cs all → (t : Term) → closed t ≡ true → (r : Radix) → Holds ax g t r → (xs : List Radix) → AncestorsGive cs ks all r xs → AllHold ax g t xs
ancestors_hold ax g cs ks grants all d t ct r hr xs (st.of_no_structure h) = tt
ancestors_hold ax g cs ks grants all d t ct r hr xs (st.unfit_loci x h k) = tt
ancestors_hold ax g cs ks grants all d t ct r hr xs (st.of_ancestors x h fit) =
    let i : Contains all x × (is_structure r.sym x ≡ true) = found (is_structure r.sym) all x h in
    let w : HasPartClauses cs x × (structure_closed x ≡ true) × (is_of_any_object x.sym ≡ false) = d x i.0 in
    let n : length (reverse r.args) ≡ length x.loci = length-reverse r.args ∙ fit_length cs ks [] x.loci r.args fit in
    let parts : Along ax g (formulas_at (t ∷ reverse r.args) (structure_parts x)) = parts_at ax g cs ks grants t ct r hr x (same_sym_true x.sym r.sym i.1) w.2 w.0 fit in
    each_ancestor ax g t r.args (length x.loci) (closed_reverse r.args hr.arguments) n x.ancestors (structure_under x w.1).ancestors
    (along_first ax g (t ∷ reverse r.args) (flat_map guard_at_object x.ancestors) (flat_map (field_guard (selected_values x)) x.fields) parts)

-- one of several parts
picked : {X : Type 0} (ax g : List Formula) (ts : List Term) (f : X → List Literal) (xs : List X) (x : X) → Contains xs x → Along ax g (formulas_at ts (flat_map f xs)) → Along ax g (formulas_at ts (f x))
picked ax g ts f [] x c a = absurd (let lt = c.1 in omega arith)
picked ax g ts f (y ∷ ys) x (zero, lt, e) a = subst (λ z. Along ax g (formulas_at ts (f z))) e (along_first ax g ts (f y) (flat_map f ys) a)
picked ax g ts f (y ∷ ys) x (suc k, lt, e) a = picked ax g ts f ys x (k, omega arith, e) (along_second ax g ts (f y) (flat_map f ys) a)

-- values for values
value_twice : (ts us : List Term) (k : ℕ) → k < length us → substitute 0 (value_at ts) (value_at us k) ≡ value_at (map (substitute 0 (value_at ts)) us) k
value_twice ts [] k lt = absurd (omega (arith, lt))
value_twice ts (u ∷ us) zero lt = refl
value_twice ts (u ∷ us) (suc k) lt = value_twice ts us k (omega (arith, lt))

pub map-twice : (ts us ws : List Term) → list_all (term_under (length us)) ws ≡ true → map (substitute 0 (value_at ts)) (map (substitute 0 (value_at us)) ws) ≡ map (substitute 0 (value_at (map (substitute 0 (value_at ts)) us))) ws
map-twice ts us [] h = refl
map-twice ts us (w ∷ ws) h =
    let both : (term_under (length us) w ≡ true) × (list_all (term_under (length us)) ws ≡ true) = and_parts (term_under (length us) w) (list_all (term_under (length us)) ws) h in
    let one : substitute 0 (value_at ts) (substitute 0 (value_at us) w) ≡ substitute 0 (value_at (map (substitute 0 (value_at ts)) us)) w =
    substitute-substitute 0 (value_at us) (value_at ts) w ∙
    substitute-agree 0 (length us) (λ k. substitute 0 (value_at ts) (value_at us k)) (value_at (map (substitute 0 (value_at ts)) us)) w (value_twice ts us) (term_within (length us) w both.0) in
    λ i. one i ∷ map-twice ts us ws both.1 i

-- the selectors' terms on an object
pub selections_at : (t : Term) (ts : List Term) (fs : List Field) → map (substitute 0 (value_at (t ∷ ts))) (map (selected (Bound 0)) fs) ≡ map (selected t) fs
selections_at t ts [] = refl
selections_at t ts (f ∷ fs) = λ i. App f.selector (more (substitute-value_at (t ∷ ts) 0 i) none) ∷ selections_at t ts fs i

selections_closed : (t : Term) (fs : List Field) → closed t ≡ true → list_all closed (map (selected t) fs) ≡ true
selections_closed t [] h = refl
selections_closed t (f ∷ fs) h = and_from (closed (selected t f)) (list_all closed (map (selected t) fs)) (and_from (closed t) true h refl) (selections_closed t fs h)

-- what stands for the indices of a field's type
abbrev values_of_object : Structure → Term → List Term → List Term
values_of_object x t args = field_values (reverse (map (selected t) x.fields)) t (reverse args)

object_values : (x : Structure) (t : Term) (args : List Term) → length args ≡ length x.loci → map (substitute 0 (value_at (t ∷ reverse args))) (selected_values x) ≡ values_of_object x t args
object_values x t args n =
    let one : map (substitute 0 (value_at (t ∷ reverse args))) (reverse (map (selected (Bound 0)) x.fields)) ≡ reverse (map (selected t) x.fields) =
    map_reverse (substitute 0 (value_at (t ∷ reverse args))) (map (selected (Bound 0)) x.fields) ∙ ap reverse (selections_at t (reverse args) x.fields) in
    let two : substitute 0 (value_at (t ∷ reverse args)) (Bound 0) ≡ t = substitute-value_at (t ∷ reverse args) 0 in
    let three : map (substitute 0 (value_at (t ∷ reverse args))) (inward 1 (length x.loci)) ≡ reverse args = inward_at (t ∷ []) args 1 (length x.loci) refl n in
    map-append (substitute 0 (value_at (t ∷ reverse args))) (reverse (map (selected (Bound 0)) x.fields)) (Bound 0 ∷ inward 1 (length x.loci)) ∙ (λ i. one i ++ (two i ∷ three i))

length_map : {A B : Type 0} (f : A → B) (xs : List A) → length (map f xs) ≡ length xs
length_map f [] = refl
length_map f (x ∷ xs) = ap suc (length_map f xs)

pub length_inward : (by n : ℕ) → length (inward by n) ≡ n
length_inward by zero = refl
length_inward by (suc n) =
    let a : length (inward by n ++ Bound (by + n) ∷ []) ≡ length (inward by n) + 1 = length-append (inward by n) (Bound (by + n) ∷ []) in
    let b : length (inward by n) ≡ n = length_inward by n in
    omega (arith, a, b)

-- the field's radix at an object
field_holds : (ax g : List Formula) (cs : List Clause) (ks : List (Option Constant)) → AreGranted ax g cs ks → (t : Term) → closed t ≡ true → (r : Radix) → Holds ax g t r → (x : Structure) → x.sym ≡ r.sym → is_of_any_object x.sym ≡ false → HasPartClauses cs x → structure_closed x ≡ true → LociFit cs ks [] x.loci r.args → (f : Field) → Contains x.fields f → type_under (length x.loci + 1 + length x.fields) f.ty ≡ true → Holds ax g (selected t f) (field_radix x r.args t f)
unfolding field_radix
field_holds ax g cs ks grants t ct r hr x es ep w cx fit f c under =
    let inner : SoftType = substitute_type 0 (value_at (selected_values x)) f.ty in
    let n : length r.args ≡ length x.loci = fit_length cs ks [] x.loci r.args fit in
    let parts : Along ax g (formulas_at (t ∷ reverse r.args) (structure_parts x)) = parts_at ax g cs ks grants t ct r hr x es ep w fit in
    let one : Along ax g (formulas_at (t ∷ reverse r.args) (field_guard (selected_values x) f)) =
    picked ax g (t ∷ reverse r.args) (field_guard (selected_values x)) x.fields f c (along_second ax g (t ∷ reverse r.args) (flat_map guard_at_object x.ancestors) (flat_map (field_guard (selected_values x)) x.fields) parts) in
    let here : Along ax g (guard (substitute_type 0 (value_at (t ∷ reverse r.args)) inner) (substitute 0 (value_at (t ∷ reverse r.args)) (selected (Bound 0) f))) =
    subst (Along ax g) (guard_of_substitution 0 (value_at (t ∷ reverse r.args)) inner (selected (Bound 0) f)) one in
    let radix : Along ax g (guard (as_type (substitute_type 0 (value_at (t ∷ reverse r.args)) inner).radix) (substitute 0 (value_at (t ∷ reverse r.args)) (selected (Bound 0) f))) =
    radix_part ax g (substitute_type 0 (value_at (t ∷ reverse r.args)) inner) (substitute 0 (value_at (t ∷ reverse r.args)) (selected (Bound 0) f)) here in
    let subject : substitute 0 (value_at (t ∷ reverse r.args)) (selected (Bound 0) f) ≡ selected t f = λ i. App f.selector (more (substitute-value_at (t ∷ reverse r.args) 0 i) none) in
    let a : length (reverse (map (selected (Bound 0)) x.fields)) ≡ length x.fields = length-reverse (map (selected (Bound 0)) x.fields) ∙ length_map (selected (Bound 0)) x.fields in
    let b : length (inward 1 (length x.loci)) ≡ length x.loci = length_inward 1 (length x.loci) in
    let d : length (selected_values x) ≡ length (reverse (map (selected (Bound 0)) x.fields)) + length (Bound 0 ∷ inward 1 (length x.loci)) = length-append (reverse (map (selected (Bound 0)) x.fields)) (Bound 0 ∷ inward 1 (length x.loci)) in
    let count : length x.loci + 1 + length x.fields ≡ length (selected_values x) = omega (arith, a, b, d) in
    let args_under : list_all (term_under (length (selected_values x))) f.ty.radix.args ≡ true = subst (λ m. list_all (term_under m) f.ty.radix.args ≡ true) count (radix_under (length x.loci + 1 + length x.fields) f.ty under) in
    let values : map (substitute 0 (value_at (t ∷ reverse r.args))) (selected_values x) ≡ values_of_object x t r.args = object_values x t r.args n in
    let args : map (substitute 0 (value_at (t ∷ reverse r.args))) (map (substitute 0 (value_at (selected_values x))) f.ty.radix.args) ≡ (field_radix x r.args t f).args =
    map-twice (t ∷ reverse r.args) (selected_values x) f.ty.radix.args args_under ∙ ap (λ (vs : List Term). map (substitute 0 (value_at vs)) f.ty.radix.args) values in
    let moved : Along ax g (guard (as_type (field_radix x r.args t f)) (selected t f)) =
    subst (λ (v : Term). Along ax g (guard (as_type (field_radix x r.args t f)) v)) subject
    (subst (λ (vs : List Term). Along ax g (guard (as_type (record { sym = f.ty.radix.sym; args = vs })) (substitute 0 (value_at (t ∷ reverse r.args)) (selected (Bound 0) f)))) args radix) in
    let cv : list_all closed (values_of_object x t r.args) ≡ true =
    closed_append (reverse (map (selected t) x.fields)) (t ∷ reverse r.args) (closed_reverse (map (selected t) x.fields) (selections_closed t x.fields ct)) (and_from (closed t) (list_all closed (reverse r.args)) ct (closed_reverse r.args hr.arguments)) in
    let long : length (values_of_object x t r.args) ≡ length (selected_values x) = ap length (sym values) ∙ length_map (substitute 0 (value_at (t ∷ reverse r.args))) (selected_values x) in
    record { arguments = closed_at_values (values_of_object x t r.args) f.ty.radix.args (length (selected_values x)) cv long args_under; guards = moved }

each_under : (n : ℕ) (fs : List Field) (f : Field) → Contains fs f → list_all (field_under n) fs ≡ true → type_under n f.ty ≡ true
each_under n [] f c h = absurd (let lt = c.1 in omega arith)
each_under n (g ∷ fs) f (zero, lt, e) h = subst (λ (k : Field). type_under n k.ty ≡ true) e (and_parts (field_under n g) (list_all (field_under n) fs) h).0
each_under n (g ∷ fs) f (suc k, lt, e) h = each_under n fs f (k, omega arith, e) (and_parts (field_under n g) (list_all (field_under n) fs) h).1

member_holds : (ax g : List Formula) (cs : List Clause) (ks : List (Option Constant)) → AreGranted ax g cs ks → (all : List Structure) → AreDescribed cs all → (s : Sym) (t : Term) → closed t ≡ true → (r : Radix) → Holds ax g t r → (o : Option Radix) → MemberGives cs ks all s t r o → (y : Radix) → o ≡ Some y → Holds ax g (App s (terms_of (t ∷ []))) y
member_holds ax g cs ks grants all d s t ct r hr o (st.no_structure h) y e = absurd (none_some y e)
member_holds ax g cs ks grants all d s t ct r hr o (st.no_field x h k) y e = absurd (none_some y e)
member_holds ax g cs ks grants all d s t ct r hr o (st.unfit x f h k n) y e = absurd (none_some y e)
member_holds ax g cs ks grants all d s t ct r hr o (st.of_field x f h k fit) y e =
    let i : Contains all x × (is_structure r.sym x ≡ true) = found (is_structure r.sym) all x h in
    let j : Contains x.fields f × (has_selector s f ≡ true) = found (has_selector s) x.fields f k in
    let w : HasPartClauses cs x × (structure_closed x ≡ true) × (is_of_any_object x.sym ≡ false) = d x i.0 in
    let under : type_under (length x.loci + 1 + length x.fields) f.ty ≡ true = each_under (length x.loci + 1 + length x.fields) x.fields f j.0 (structure_under x w.1).fields in
    let one : Holds ax g (selected t f) (field_radix x r.args t f) = field_holds ax g cs ks grants t ct r hr x (same_sym_true x.sym r.sym i.1) w.2 w.0 w.1 fit f j.0 under in
    subst (Holds ax g (App s (terms_of (t ∷ [])))) (some-inj (field_radix x r.args t f) y e)
    (subst (λ (q : Sym). Holds ax g (App q (terms_of (t ∷ []))) (field_radix x r.args t f)) (same_sym_true f.selector s j.1) one)

pub first_holds : (ax g : List Formula) (cs : List Clause) (ks : List (Option Constant)) → AreGranted ax g cs ks → (all : List Structure) → AreDescribed cs all → (s : Sym) (t : Term) → closed t ≡ true → (rs : List Radix) → AllHold ax g t rs → (o : Option Radix) → FirstGives cs ks all s t rs o → (y : Radix) → o ≡ Some y → Holds ax g (App s (terms_of (t ∷ []))) y
first_holds ax g cs ks grants all d s t ct rs hs o st.none_gives y e = absurd (none_some y e)
first_holds ax g cs ks grants all d s t ct rs hs o (st.this_gives r others x h) y e = member_holds ax g cs ks grants all d s t ct r hs.0 (Some x) h y e
first_holds ax g cs ks grants all d s t ct rs hs o (st.not_this r others p h k) y e = first_holds ax g cs ks grants all d s t ct others hs.1 p k y e
