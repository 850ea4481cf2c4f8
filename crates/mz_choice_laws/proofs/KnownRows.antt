-- What rows and structures give is of known constants where the arguments are.
use Rattle.std.proofs.Common.{◌≡◌, ◌+◌, ℕ, List, [], ◌∷◌, ◌++◌, map, length, reverse, refl, sym, ◌∙◌, subst, arith, Bool, true, Option, Some, length-append}
use Rattle.std.specs.Prelude.{◌&&◌}
use Rattle.std.specs.List.{list_all}
use Rattle.std.proofs.lemmas.Bool.{and_parts, and_from}
use Rattle.std.proofs.lemmas.List.{length-reverse, length-map}
use Rattle.mz_logic.specs.declared.sym.Sym.{Sym}
use Rattle.mz_logic.specs.Term.{Term}
use Rattle.mz_core.specs.Closed.{term_under, type_under, adjective_under, loci_closed}
use Rattle.mz_core.specs.declared.radix.Radix.{Radix}
use Rattle.mz_core.specs.declared.structure.Field.{Field}
use Rattle.mz_core.specs.declared.structure.Structure.{Structure}
use Rattle.mz_core.specs.declared.soft_type.SoftType.{SoftType}
use Rattle.mz_core.proofs.AllLemmas.{all-append, all-map}
use Rattle.mz_items.specs.Closed.{structure_closed, field_under}
use Rattle.mz_items.specs.StructureRows.{selected, field_values}
use Rattle.mz_items.proofs.RowLemmas.{all-reverse}
use Rattle.mz_context.specs.declared.constants.Constant.{Constant}
use Rattle.mz_ground.specs.declared.clause.Clause.{Clause}
use Rattle.mz_environment.specs.declared.rows.Row.{Row}
use Rattle.mz_closed_laws.specs.ClosedClauses.{row_closed}
use Rattle.mz_fits.specs.Fits.{LociFit}
use Rattle.mz_fits.specs.Matching.{Fixed, unfixed, values_of, Accepted}
use Rattle.mz_fits.proofs.OneMatch.{some-inj, none_some}
use Rattle.mz_types.specs.RowTypes as rows
use Rattle.mz_types.specs.RowTypes.{radix_at, RowGives, RowAdds, RowsAdd}
use Rattle.mz_types.specs.Structures as st
use Rattle.mz_types.specs.Structures.{is_structure, has_selector, field_radix, MemberGives, FirstGives, AggregateGives, AncestorsGive, made_radix}
use Rattle.mz_chain_laws.proofs.Fired.{fit_length}
use Rattle.mz_chain_laws.proofs.StructureHolds.{structure_under}
use Rattle.mz_chain_laws.proofs.Values.{accepted_values}
use Rattle.mz_choice_laws.specs.Known.{term_known, radix_known}
use Rattle.mz_choice_laws.proofs.ListParts.{all-take, all-find}
use Rattle.mz_choice_laws.proofs.KnownMatches.{AreKnown, unfixed_known, all_matched_known, values_known}
use Rattle.mz_choice_laws.proofs.KnownValues.{terms_at_values}

radix_under : (n : ℕ) (ty : SoftType) → type_under n ty ≡ true → list_all (term_under n) ty.radix.args ≡ true
radix_under n ty h = (and_parts (list_all (adjective_under n) ty.adjectives) (list_all (term_under n) ty.radix.args) h).1

-- values of loci, the innermost first
pub record AreValues (known : ℕ → Bool) (n : ℕ) (vs : List Term) : Type 0 where
  pub are_known : list_all (term_known known 0) (reverse vs) ≡ true
  pub count : length (reverse vs) ≡ n

pub loci_values : (known : ℕ → Bool) (cs : List Clause) (ks : List (Option Constant)) (loci : List SoftType) (vs : List Term) → list_all (term_known known 0) vs ≡ true → LociFit cs ks [] loci vs → AreValues known (length loci) vs
loci_values known cs ks loci vs h fit = record { are_known = all-reverse (term_known known 0) vs h; count = length-reverse vs ∙ fit_length cs ks [] loci vs fit }

pub accepted_known : (known : ℕ → Bool) (cs : List Clause) (ks : List (Option Constant)) (loci : List SoftType) (fs : Fixed) (vs : List Term) → AreKnown known fs → Accepted cs ks loci fs (Some vs) → AreValues known (length loci) vs
accepted_known known cs ks loci fs vs a h =
    let v : (values_of fs ≡ Some vs) × LociFit cs ks [] loci vs = accepted_values cs ks loci fs (Some vs) h vs refl in
    loci_values known cs ks loci vs (values_known known fs vs a v.0) v.1

pub radix_at_known : (known : ℕ → Bool) (vs : List Term) (n : ℕ) → AreValues known n vs → (ty : SoftType) → type_under n ty ≡ true → radix_known known 0 (radix_at vs ty) ≡ true
unfolding radix_at
radix_at_known known vs n v ty h = terms_at_values known (reverse vs) n v.are_known v.count ty.radix.args (radix_under n ty h)

-- rows
row_type : (r : Row) → row_closed r ≡ true → type_under (length r.loci) r.ty ≡ true
row_type r h = (and_parts (loci_closed r.loci && list_all (term_under (length r.loci)) r.args) (type_under (length r.loci) r.ty) h).1

row_known : (known : ℕ → Bool) (cs : List Clause) (ks : List (Option Constant)) (args : List Term) → list_all (term_known known 0) args ≡ true → (r : Row) → row_closed r ≡ true → (o : Option Radix) → RowGives cs ks args r o → (x : Radix) → o ≡ Some x → radix_known known 0 x ≡ true
row_known known cs ks args ka r cr o (rows.unmatched h) x e = absurd (none_some x e)
row_known known cs ks args ka r cr o (rows.refused fs h a) x e = absurd (none_some x e)
row_known known cs ks args ka r cr o (rows.gives fs vs h a) x e =
    let k : AreKnown known fs = all_matched_known known cs ks (length r.loci) (unfixed (length r.loci)) r.args args (Some fs) h ka (unfixed_known known (length r.loci)) fs refl in
    subst (λ (y : Radix). radix_known known 0 y ≡ true) (some-inj (radix_at vs r.ty) x e) (radix_at_known known vs (length r.loci) (accepted_known known cs ks r.loci fs vs k a) r.ty (row_type r cr))

added_known : (known : ℕ → Bool) (cs : List Clause) (ks : List (Option Constant)) (s : Sym) (args : List Term) → list_all (term_known known 0) args ≡ true → (r : Row) → row_closed r ≡ true → (xs : List Radix) → RowAdds cs ks s args r xs → list_all (radix_known known 0) xs ≡ true
added_known known cs ks s args ka r cr xs (rows.of_other h) = refl
added_known known cs ks s args ka r cr xs (rows.of_none h k) = refl
added_known known cs ks s args ka r cr xs (rows.of_one x h k) = and_from (radix_known known 0 x) true (row_known known cs ks args ka r cr (Some x) k x refl) refl

pub rows_known : (known : ℕ → Bool) (cs : List Clause) (ks : List (Option Constant)) (s : Sym) (args : List Term) → list_all (term_known known 0) args ≡ true → (rs : List Row) → list_all row_closed rs ≡ true → (xs : List Radix) → RowsAdd cs ks s args rs xs → list_all (radix_known known 0) xs ≡ true
rows_known known cs ks s args ka rs cr xs rows.no_rows = refl
rows_known known cs ks s args ka rs cr xs (rows.and_row r others ys zs h k) =
    let both : (row_closed r ≡ true) × (list_all row_closed others ≡ true) = and_parts (row_closed r) (list_all row_closed others) cr in
    all-append (radix_known known 0) ys zs (added_known known cs ks s args ka r both.0 ys h) (rows_known known cs ks s args ka others both.1 zs k)

-- ancestors
each_ancestor : (known : ℕ → Bool) (vs : List Term) (n : ℕ) → AreValues known n vs → (tys : List SoftType) → list_all (type_under n) tys ≡ true → list_all (radix_known known 0) (map (radix_at vs) tys) ≡ true
each_ancestor known vs n v tys h = all-map (type_under n) (radix_known known 0) (radix_at vs) tys (λ ty k. radix_at_known known vs n v ty k) h

pub ancestors_known : (known : ℕ → Bool) (cs : List Clause) (ks : List (Option Constant)) (all : List Structure) → list_all structure_closed all ≡ true → (r : Radix) → radix_known known 0 r ≡ true → (xs : List Radix) → AncestorsGive cs ks all r xs → list_all (radix_known known 0) xs ≡ true
ancestors_known known cs ks all ca r kr xs (st.of_no_structure h) = refl
ancestors_known known cs ks all ca r kr xs (st.unfit_loci x h k) = refl
ancestors_known known cs ks all ca r kr xs (st.of_ancestors x h fit) =
    each_ancestor known r.args (length x.loci) (loci_values known cs ks x.loci r.args kr fit) x.ancestors (structure_under x (all-find structure_closed (is_structure r.sym) all x ca h)).ancestors

-- aggregates
made_known : (known : ℕ → Bool) (x : Structure) (args : List Term) → list_all (term_known known 0) args ≡ true → radix_known known 0 (made_radix x args) ≡ true
made_known known x args h = all-take (term_known known 0) (length x.loci) args h

pub aggregate_known : (known : ℕ → Bool) (cs : List Clause) (ks : List (Option Constant)) (all : List Structure) (s : Sym) (args : List Term) → list_all (term_known known 0) args ≡ true → (o : Option Radix) → AggregateGives cs ks all s args o → (x : Radix) → o ≡ Some x → radix_known known 0 x ≡ true
aggregate_known known cs ks all s args ka o (st.of_none h) x e = absurd (none_some x e)
aggregate_known known cs ks all s args ka o (st.unfit_arguments y h k) x e = absurd (none_some x e)
aggregate_known known cs ks all s args ka o (st.of_structure y h fit) x e = subst (λ (z : Radix). radix_known known 0 z ≡ true) (some-inj (made_radix y args) x e) (made_known known y args ka)

-- fields
selections_known : (known : ℕ → Bool) (t : Term) (fs : List Field) → term_known known 0 t ≡ true → list_all (term_known known 0) (map (selected t) fs) ≡ true
selections_known known t [] h = refl
selections_known known t (f ∷ fs) h = and_from (term_known known 0 (selected t f)) (list_all (term_known known 0) (map (selected t) fs)) (and_from (term_known known 0 t) true h refl) (selections_known known t fs h)

object_known : (known : ℕ → Bool) (x : Structure) (t : Term) (args : List Term) → term_known known 0 t ≡ true → AreValues known (length x.loci) args → list_all (term_known known 0) (field_values (reverse (map (selected t) x.fields)) t (reverse args)) ≡ true
object_known known x t args kt v =
    all-append (term_known known 0) (reverse (map (selected t) x.fields)) (t ∷ reverse args) (all-reverse (term_known known 0) (map (selected t) x.fields) (selections_known known t x.fields kt))
    (and_from (term_known known 0 t) (list_all (term_known known 0) (reverse args)) kt v.are_known)

length-object_count : (x : Structure) (t : Term) (args : List Term) → length (reverse args) ≡ length x.loci → length (field_values (reverse (map (selected t) x.fields)) t (reverse args)) ≡ length x.loci + 1 + length x.fields
length-object_count x t args n =
    let a : length (reverse (map (selected t) x.fields)) ≡ length (map (selected t) x.fields) = length-reverse (map (selected t) x.fields) in
    let b : length (map (selected t) x.fields) ≡ length x.fields = length-map x.fields (selected t) in
    let d : length (reverse (map (selected t) x.fields) ++ (t ∷ reverse args)) ≡ length (reverse (map (selected t) x.fields)) + length (t ∷ reverse args) = length-append (reverse (map (selected t) x.fields)) (t ∷ reverse args) in
    omega (arith, a, b, d, n)

field_known : (known : ℕ → Bool) (x : Structure) (args : List Term) (t : Term) (f : Field) → structure_closed x ≡ true → term_known known 0 t ≡ true → AreValues known (length x.loci) args → field_under (length x.loci + 1 + length x.fields) f ≡ true → radix_known known 0 (field_radix x args t f) ≡ true
unfolding field_radix
field_known known x args t f cx kt v h =
    terms_at_values known (field_values (reverse (map (selected t) x.fields)) t (reverse args)) (length x.loci + 1 + length x.fields) (object_known known x t args kt v) (length-object_count x t args v.count) f.ty.radix.args (radix_under (length x.loci + 1 + length x.fields) f.ty h)

member_known : (known : ℕ → Bool) (cs : List Clause) (ks : List (Option Constant)) (all : List Structure) → list_all structure_closed all ≡ true → (s : Sym) (t : Term) → term_known known 0 t ≡ true → (r : Radix) → radix_known known 0 r ≡ true → (o : Option Radix) → MemberGives cs ks all s t r o → (y : Radix) → o ≡ Some y → radix_known known 0 y ≡ true
member_known known cs ks all ca s t kt r kr o (st.no_structure h) y e = absurd (none_some y e)
member_known known cs ks all ca s t kt r kr o (st.no_field x h k) y e = absurd (none_some y e)
member_known known cs ks all ca s t kt r kr o (st.unfit x f h k n) y e = absurd (none_some y e)
member_known known cs ks all ca s t kt r kr o (st.of_field x f h k fit) y e =
    let cx : structure_closed x ≡ true = all-find structure_closed (is_structure r.sym) all x ca h in
    let cf : field_under (length x.loci + 1 + length x.fields) f ≡ true = all-find (field_under (length x.loci + 1 + length x.fields)) (has_selector s) x.fields f (structure_under x cx).fields k in
    subst (λ (z : Radix). radix_known known 0 z ≡ true) (some-inj (field_radix x r.args t f) y e) (field_known known x r.args t f cx kt (loci_values known cs ks x.loci r.args kr fit) cf)

pub first_known : (known : ℕ → Bool) (cs : List Clause) (ks : List (Option Constant)) (all : List Structure) → list_all structure_closed all ≡ true → (s : Sym) (t : Term) → term_known known 0 t ≡ true → (rs : List Radix) → list_all (radix_known known 0) rs ≡ true → (o : Option Radix) → FirstGives cs ks all s t rs o → (y : Radix) → o ≡ Some y → radix_known known 0 y ≡ true
first_known known cs ks all ca s t kt rs kr o st.none_gives y e = absurd (none_some y e)
first_known known cs ks all ca s t kt rs kr o (st.this_gives r others x h) y e =
    member_known known cs ks all ca s t kt r (and_parts (radix_known known 0 r) (list_all (radix_known known 0) others) kr).0 (Some x) h y e
first_known known cs ks all ca s t kt rs kr o (st.not_this r others p h k) y e =
    first_known known cs ks all ca s t kt others (and_parts (radix_known known 0 r) (list_all (radix_known known 0) others) kr).1 p k y e
