-- The radices that rows give hold.
use Rattle.std.proofs.Common.{◌≡◌, ◌+◌, ℕ, zero, suc, List, [], ◌∷◌, ◌++◌, map, length, reverse, refl, sym, ap, ◌∙◌, subst, arith, true, false, append-nil, Option, Some, None}
use Rattle.std.specs.Prelude.{◌&&◌, Contains}
use Rattle.std.specs.List.{list_all}
use Rattle.std.proofs.lemmas.Bool.{and_parts, and_from}
use Rattle.std.proofs.lemmas.List.{length-reverse}
use Rattle.mz_logic.specs.declared.sym.Sym.{Sym}
use Rattle.mz_logic.specs.Sym.{same_sym}
use Rattle.mz_logic.specs.Term.{Term, App, terms_of}
use Rattle.mz_logic.specs.Formula as formula
use Rattle.mz_logic.specs.Formula.{Formula}
use Rattle.mz_logic.specs.Indices.{closed}
use Rattle.mz_logic.specs.Substitution.{substitute, value_at}
use Rattle.mz_logic.specs.Equality.{AreEqual}
use Rattle.mz_logic.specs.Derives.{Derives}
use Rattle.mz_logic.proofs.IndexLemmas.{args_below-terms_of}
use Rattle.mz_logic.proofs.SubstitutionLaws.{substitute_args-terms_of}
use Rattle.mz_logic.proofs.Congruence.{application_congruence}
use Rattle.mz_logic.proofs.Each.{Along, along_append}
use Rattle.mz_core.specs.Closed.{term_under, type_under, adjective_under, loci_closed}
use Rattle.mz_core.specs.Guard.{guard, guard_literals}
use Rattle.mz_core.specs.declared.radix.Radix.{Radix}
use Rattle.mz_core.specs.declared.soft_type.SoftType.{SoftType}
use Rattle.mz_core.proofs.LawProofs.{guard_of_substitution}
use Rattle.mz_context.specs.declared.constants.Constant.{Constant}
use Rattle.mz_ground.specs.declared.clause.Clause.{Clause}
use Rattle.mz_classes.proofs.SymListLemmas.{same_sym_true}
use Rattle.mz_clauses.specs.Guards.{loci_guards, guard_at_object}
use Rattle.mz_clause_laws.proofs.Instances.{formulas_at, formulas_at-append}
use Rattle.mz_environment.specs.declared.rows.Row.{Row}
use Rattle.mz_closed_laws.specs.ClosedClauses.{row_closed}
use Rattle.mz_row_laws.specs.RowLaws.{row_term, row_mode, HasTypeClauses, HasParentClauses}
use Rattle.mz_fits.specs.Fits.{LociFit, type_at}
use Rattle.mz_fits.specs.Matching.{Fixed, unfixed, AllMatched, values_of, Accepted}
use Rattle.mz_fits.specs.Laws.{AreGranted}
use Rattle.mz_fits.proofs.MatchSound.{match_law}
use Rattle.mz_fits.proofs.OneMatch.{some-inj, none_some}
use Rattle.mz_types.specs.RowTypes as rows
use Rattle.mz_types.specs.RowTypes.{radix_at, RowGives, RowAdds, RowsAdd}
use Rattle.mz_chain_laws.specs.ChainLaw.{as_type}
use Rattle.mz_chain_laws.proofs.Fired.{fired_all, guard_at_term, fit_length, loci_hold}
use Rattle.mz_chain_laws.proofs.Said.{closed_reverse, closed_at_values, equal_swapped, Holds, radix_part, at_equal, with_equal, AllHold, all_append}
use Rattle.mz_chain_laws.proofs.Values.{accepted_values}

-- the arguments and the type of a row stand under its loci
record StandsUnder (r : Row) : Type 0 where
  pub arguments : list_all (term_under (length r.loci)) r.args ≡ true
  pub radix : list_all (term_under (length r.loci)) r.ty.radix.args ≡ true

stands_under : (r : Row) → row_closed r ≡ true → StandsUnder r
stands_under r h =
    let parts : ((loci_closed r.loci && list_all (term_under (length r.loci)) r.args) ≡ true) × (type_under (length r.loci) r.ty ≡ true) = and_parts (loci_closed r.loci && list_all (term_under (length r.loci)) r.args) (type_under (length r.loci) r.ty) h in
    record {
      arguments = (and_parts (loci_closed r.loci) (list_all (term_under (length r.loci)) r.args) parts.0).1;
      radix = (and_parts (list_all (adjective_under (length r.loci)) r.ty.adjectives) (list_all (term_under (length r.loci)) r.ty.radix.args) parts.1).1;
    }

-- a row at values that its loci are fixed to by a match with closed terms
record IsAtValues (cs : List Clause) (ks : List (Option Constant)) (r : Row) (args vs : List Term) : Type 0 where
  pub closed_values : list_all closed (reverse vs) ≡ true
  pub count : length (reverse vs) ≡ length r.loci
  pub fit : LociFit cs ks [] r.loci vs
  pub closed_arguments : list_all closed (map (substitute 0 (value_at (reverse vs))) r.args) ≡ true
  pub closed_radix : list_all closed (radix_at vs r.ty).args ≡ true

at_values : (ax g : List Formula) (cs : List Clause) (ks : List (Option Constant)) → AreGranted ax g cs ks → (r : Row) (args : List Term) (fs : Fixed) (vs : List Term) → list_all closed args ≡ true → row_closed r ≡ true → AllMatched cs ks (length r.loci) (unfixed (length r.loci)) r.args args (Some fs) → values_of fs ≡ Some vs → LociFit cs ks [] r.loci vs → IsAtValues cs ks r args vs
unfolding radix_at
at_values ax g cs ks grants r args fs vs ca cr h hv fit =
    let s : StandsUnder r = stands_under r cr in
    let cv : list_all closed (reverse vs) ≡ true = closed_reverse vs (match_law ax g cs ks grants (length r.loci) fs r.args args vs ca h hv).1 in
    let count : length (reverse vs) ≡ length r.loci = length-reverse vs ∙ fit_length cs ks [] r.loci vs fit in
    record {
      closed_values = cv;
      count = count;
      fit = fit;
      closed_arguments = closed_at_values (reverse vs) r.args (length r.loci) cv count s.arguments;
      closed_radix = closed_at_values (reverse vs) r.ty.radix.args (length r.loci) cv count s.radix;
    }

-- the row's type holds of its application at the values, and so of the application that it matches
typed_at : (ax g : List Formula) (cs : List Clause) (ks : List (Option Constant)) → AreGranted ax g cs ks → (r : Row) (args : List Term) (fs : Fixed) (vs : List Term) → list_all closed args ≡ true → HasTypeClauses cs r → AllMatched cs ks (length r.loci) (unfixed (length r.loci)) r.args args (Some fs) → values_of fs ≡ Some vs → IsAtValues cs ks r args vs → Holds ax g (App r.sym (terms_of args)) (radix_at vs r.ty)
unfolding radix_at
typed_at ax g cs ks grants r args fs vs ca w h hv here =
    let filled : List Term = map (substitute 0 (value_at (reverse vs))) r.args in
    let premises : Along ax g (formulas_at (reverse vs) (loci_guards 0 r.loci)) =
    subst (λ (us : List Term). Along ax g (formulas_at us (loci_guards 0 r.loci))) (append-nil (reverse vs)) (loci_hold ax g cs ks grants 0 [] [] r.loci vs refl here.fit) in
    let conclusions : Along ax g (formulas_at (reverse vs) (guard_literals r.ty (row_term r))) =
    fired_all ax g cs grants.clauses (reverse vs) here.closed_values (length r.loci) (loci_guards 0 r.loci) (guard_literals r.ty (row_term r)) here.count w premises in
    let whole : Along ax g (guard (type_at (reverse vs) r.ty) (substitute 0 (value_at (reverse vs)) (row_term r))) =
    subst (Along ax g) (guard_of_substitution 0 (value_at (reverse vs)) r.ty (row_term r)) conclusions in
    let applied : substitute 0 (value_at (reverse vs)) (row_term r) ≡ App r.sym (terms_of filled) = ap (App r.sym) (substitute_args-terms_of 0 (value_at (reverse vs)) r.args) in
    let of_radix : Along ax g (guard (as_type (radix_at vs r.ty)) (App r.sym (terms_of filled))) =
    subst (λ (u : Term). Along ax g (guard (as_type (radix_at vs r.ty)) u)) applied (radix_part ax g (type_at (reverse vs) r.ty) (substitute 0 (value_at (reverse vs)) (row_term r)) whole) in
    let equal : AreEqual ax g filled args = (match_law ax g cs ks grants (length r.loci) fs r.args args vs ca h hv).0 in
    at_equal ax g (radix_at vs r.ty) (App r.sym (terms_of filled)) (App r.sym (terms_of args))
    (args_below-terms_of 0 filled ∙ here.closed_arguments) (args_below-terms_of 0 args ∙ ca)
    (application_congruence ax g r.sym filled args here.closed_arguments ca equal)
    (record { arguments = here.closed_radix; guards = of_radix })

row_holds : (ax g : List Formula) (cs : List Clause) (ks : List (Option Constant)) → AreGranted ax g cs ks → (args : List Term) → list_all closed args ≡ true → (r : Row) → HasTypeClauses cs r → row_closed r ≡ true → (o : Option Radix) → RowGives cs ks args r o → (x : Radix) → o ≡ Some x → Holds ax g (App r.sym (terms_of args)) x
row_holds ax g cs ks grants args ca r w cr o (rows.unmatched h) x e = absurd (none_some x e)
row_holds ax g cs ks grants args ca r w cr o (rows.refused fs h a) x e = absurd (none_some x e)
row_holds ax g cs ks grants args ca r w cr o (rows.gives fs vs h a) x e =
    let v : (values_of fs ≡ Some vs) × LociFit cs ks [] r.loci vs = accepted_values cs ks r.loci fs (Some vs) a vs refl in
    subst (Holds ax g (App r.sym (terms_of args))) (some-inj (radix_at vs r.ty) x e) (typed_at ax g cs ks grants r args fs vs ca w h v.0 (at_values ax g cs ks grants r args fs vs ca cr h v.0 v.1))

-- the row's type holds of what is of the mode that it matches
parent_at : (ax g : List Formula) (cs : List Clause) (ks : List (Option Constant)) → AreGranted ax g cs ks → (t : Term) → closed t ≡ true → (q : Radix) → Holds ax g t q → (r : Row) → q.sym ≡ r.sym → (fs : Fixed) (vs : List Term) → HasParentClauses cs r → AllMatched cs ks (length r.loci) (unfixed (length r.loci)) r.args q.args (Some fs) → values_of fs ≡ Some vs → IsAtValues cs ks r q.args vs → Holds ax g t (radix_at vs r.ty)
unfolding radix_at
parent_at ax g cs ks grants t ct q hq r es fs vs w h hv here =
    let filled : Radix = record { sym = r.sym; args = map (substitute 0 (value_at (reverse vs))) r.args } in
    let long : length (t ∷ reverse vs) ≡ length r.loci + 1 = let e : length (reverse vs) ≡ length r.loci = here.count in omega (arith, e) in
    let guards : Along ax g (formulas_at (t ∷ reverse vs) (loci_guards 1 r.loci)) =
    subst (λ (us : List Term). Along ax g (formulas_at (t ∷ us) (loci_guards 1 r.loci))) (append-nil (reverse vs)) (loci_hold ax g cs ks grants 1 (t ∷ []) [] r.loci vs refl here.fit) in
    let equal : AreEqual ax g q.args filled.args = equal_swapped ax g filled.args q.args here.closed_arguments hq.arguments (match_law ax g cs ks grants (length r.loci) fs r.args q.args vs hq.arguments h hv).0 in
    let of_mode : Holds ax g t filled = with_equal ax g q filled t es here.closed_arguments ct equal hq in
    let object : Along ax g (formulas_at (t ∷ reverse vs) (guard_at_object (row_mode r))) = subst (Along ax g) (sym (guard_at_term t (reverse vs) (row_mode r))) of_mode.guards in
    let premises : Along ax g (formulas_at (t ∷ reverse vs) (loci_guards 1 r.loci ++ guard_at_object (row_mode r))) =
    subst (Along ax g) (sym (formulas_at-append (t ∷ reverse vs) (loci_guards 1 r.loci) (guard_at_object (row_mode r))))
    (along_append ax g (formulas_at (t ∷ reverse vs) (loci_guards 1 r.loci)) (formulas_at (t ∷ reverse vs) (guard_at_object (row_mode r))) guards object) in
    let conclusions : Along ax g (formulas_at (t ∷ reverse vs) (guard_at_object r.ty)) =
    fired_all ax g cs grants.clauses (t ∷ reverse vs) (and_from (closed t) (list_all closed (reverse vs)) ct here.closed_values) (length r.loci + 1) (loci_guards 1 r.loci ++ guard_at_object (row_mode r)) (guard_at_object r.ty) long w premises in
    record { arguments = here.closed_radix; guards = radix_part ax g (type_at (reverse vs) r.ty) t (subst (Along ax g) (guard_at_term t (reverse vs) r.ty) conclusions) }

parent_holds : (ax g : List Formula) (cs : List Clause) (ks : List (Option Constant)) → AreGranted ax g cs ks → (t : Term) → closed t ≡ true → (q : Radix) → Holds ax g t q → (r : Row) → q.sym ≡ r.sym → HasParentClauses cs r → row_closed r ≡ true → (o : Option Radix) → RowGives cs ks q.args r o → (x : Radix) → o ≡ Some x → Holds ax g t x
parent_holds ax g cs ks grants t ct q hq r es w cr o (rows.unmatched h) x e = absurd (none_some x e)
parent_holds ax g cs ks grants t ct q hq r es w cr o (rows.refused fs h a) x e = absurd (none_some x e)
parent_holds ax g cs ks grants t ct q hq r es w cr o (rows.gives fs vs h a) x e =
    let v : (values_of fs ≡ Some vs) × LociFit cs ks [] r.loci vs = accepted_values cs ks r.loci fs (Some vs) a vs refl in
    subst (Holds ax g t) (some-inj (radix_at vs r.ty) x e) (parent_at ax g cs ks grants t ct q hq r es fs vs w h v.0 (at_values ax g cs ks grants r q.args fs vs hq.arguments cr h v.0 v.1))

-- what rows add, where each of them gives what holds
added : (ax g : List Formula) (cs : List Clause) (ks : List (Option Constant)) (t : Term) (s : Sym) (args : List Term) (r : Row) (xs : List Radix) → RowAdds cs ks s args r xs → (r.sym ≡ s → (x : Radix) → RowGives cs ks args r (Some x) → Holds ax g t x) → AllHold ax g t xs
added ax g cs ks t s args r xs (rows.of_other h) f = tt
added ax g cs ks t s args r xs (rows.of_none h k) f = tt
added ax g cs ks t s args r xs (rows.of_one x h k) f = (f (same_sym_true r.sym s h) x k, tt)

all_added : (ax g : List Formula) (cs : List Clause) (ks : List (Option Constant)) (t : Term) (s : Sym) (args : List Term) (rs : List Row) (xs : List Radix) → RowsAdd cs ks s args rs xs → ((r : Row) → Contains rs r → r.sym ≡ s → (x : Radix) → RowGives cs ks args r (Some x) → Holds ax g t x) → AllHold ax g t xs
all_added ax g cs ks t s args rs xs rows.no_rows f = tt
all_added ax g cs ks t s args rs xs (rows.and_row r others ys zs h k) f =
    all_append ax g t ys zs (added ax g cs ks t s args r ys h (f r (0, omega arith, refl)))
    (all_added ax g cs ks t s args others zs k (λ q c. f q (suc c.0, omega (arith, c.1), c.2)))

-- the rows of functors or letters
pub rows_hold : (ax g : List Formula) (cs : List Clause) (ks : List (Option Constant)) → AreGranted ax g cs ks → (s : Sym) (args : List Term) → list_all closed args ≡ true → (rs : List Row) → ((r : Row) → Contains rs r → HasTypeClauses cs r × (row_closed r ≡ true)) → (xs : List Radix) → RowsAdd cs ks s args rs xs → AllHold ax g (App s (terms_of args)) xs
rows_hold ax g cs ks grants s args ca rs w xs h =
    all_added ax g cs ks (App s (terms_of args)) s args rs xs h
    (λ r c es x k. subst (λ (u : Sym). Holds ax g (App u (terms_of args)) x) es (row_holds ax g cs ks grants args ca r (w r c).0 (w r c).1 (Some x) k x refl))

-- those of modes
pub parents_hold : (ax g : List Formula) (cs : List Clause) (ks : List (Option Constant)) → AreGranted ax g cs ks → (t : Term) → closed t ≡ true → (q : Radix) → Holds ax g t q → (rs : List Row) → ((r : Row) → Contains rs r → HasParentClauses cs r × (row_closed r ≡ true)) → (xs : List Radix) → RowsAdd cs ks q.sym q.args rs xs → AllHold ax g t xs
parents_hold ax g cs ks grants t ct q hq rs w xs h =
    all_added ax g cs ks t q.sym q.args rs xs h (λ r c es x k. parent_holds ax g cs ks grants t ct q hq r (sym es) (w r c).0 (w r c).1 (Some x) k x refl)
