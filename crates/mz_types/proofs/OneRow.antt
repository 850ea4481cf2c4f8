-- What rows and structures give is determined.
use Rattle.std.proofs.Common.{◌≡◌, ◌⊎◌, inl, inr, ℕ, zero, suc, Bool, true, false, List, [], ◌∷◌, ◌++◌, refl, sym, ap, ◌∙◌, subst, length, map, Option, Some, None}
use Rattle.std.specs.Prelude.{find, reverse}
use Rattle.mz_std_laws.proofs.Sums.{either, either_once}
use Rattle.mz_logic.specs.Sym.{same_sym}
use Rattle.mz_logic.specs.declared.sym.Sym.{Sym}
use Rattle.mz_logic.specs.Term.{Term}
use Rattle.mz_core.specs.declared.structure.Field.{Field}
use Rattle.mz_core.specs.declared.radix.Radix.{Radix}
use Rattle.mz_core.specs.declared.soft_type.SoftType.{SoftType}
use Rattle.mz_core.specs.declared.structure.Structure.{Structure}
use Rattle.mz_context.specs.declared.constants.Constant.{Constant}
use Rattle.mz_ground.specs.declared.clause.Clause.{Clause}
use Rattle.mz_environment.specs.declared.rows.Row.{Row}
use Rattle.mz_fits.specs.Fits.{LociFit}
use Rattle.mz_fits.specs.Matching.{Fixed, unfixed, AllMatched, Accepted}
use Rattle.mz_fits.proofs.OneMatch.{some-inj, none_some, one_match_law, one_accepted_law}
use Rattle.mz_types.specs.RowTypes.{radix_at, RowGives, unmatched, refused, gives, RowAdds, of_other, of_none, of_one, RowsAdd, no_rows, and_row}
use Rattle.mz_types.specs.Structures as st
use Rattle.mz_types.specs.Structures.{has_selector, structure_of, made_by, field_radix, MemberGives, FirstGives, none_gives, this_gives, not_this, AggregateFits, made_radix, AggregateGives, ancestors_at, AncestorsGive}

-- the radix of a row at values, if there are any
abbrev given : Row → Option (List Term) → Option Radix
given r None = None
given r (Some vs) = Some (radix_at vs r.ty)

-- what a row gives, by the match of its arguments
abbrev Given : List Clause → List (Option Constant) → Row → Option Fixed → Option Radix → Type 0
Given cs ks r None o = o ≡ None
Given cs ks r (Some fs) o = (w : Option (List Term)) × Accepted cs ks r.loci fs w × (o ≡ given r w)

row_as : (cs : List Clause) (ks : List (Option Constant)) (args : List Term) (r : Row) (o : Option Radix) → RowGives cs ks args r o → (q : Option Fixed) × AllMatched cs ks (length r.loci) (unfixed (length r.loci)) r.args args q × Given cs ks r q o
row_as cs ks args r o (unmatched h) = (None, h, refl)
row_as cs ks args r o (refused fs h a) = (Some fs, h, (None, a, refl))
row_as cs ks args r o (gives fs vs h a) = (Some fs, h, (Some vs, a, refl))

given_once : (cs : List Clause) (ks : List (Option Constant)) (r : Row) (q : Option Fixed) (o p : Option Radix) → Given cs ks r q o → Given cs ks r q p → o ≡ p
given_once cs ks r None o p h k = h ∙ sym k
given_once cs ks r (Some fs) o p h k = h.2 ∙ ap (given r) (one_accepted_law cs ks r.loci fs h.0 k.0 h.1 k.1) ∙ sym k.2

row_once : (cs : List Clause) (ks : List (Option Constant)) (args : List Term) (r : Row) (o p : Option Radix) → RowGives cs ks args r o → RowGives cs ks args r p → o ≡ p
row_once cs ks args r o p h k =
    let a : (q : Option Fixed) × AllMatched cs ks (length r.loci) (unfixed (length r.loci)) r.args args q × Given cs ks r q o = row_as cs ks args r o h in
    let b : (q : Option Fixed) × AllMatched cs ks (length r.loci) (unfixed (length r.loci)) r.args args q × Given cs ks r q p = row_as cs ks args r p k in
    let same : a.0 ≡ b.0 = one_match_law cs ks (length r.loci) (unfixed (length r.loci)) r.args args a.0 b.0 a.1 b.1 in
    given_once cs ks r b.0 o p (subst (λ q. Given cs ks r q o) same a.2) b.2

abbrev pub one_if_any : Option Radix → List Radix
one_if_any None = []
one_if_any (Some r) = r ∷ []

abbrev AddsAs : List Clause → List (Option Constant) → List Term → Row → Bool → List Radix → Type 0
AddsAs cs ks args r true xs = (o : Option Radix) × RowGives cs ks args r o × (xs ≡ one_if_any o)
AddsAs cs ks args r false xs = xs ≡ []

adds_as : (cs : List Clause) (ks : List (Option Constant)) (s : Sym) (args : List Term) (r : Row) (xs : List Radix) → RowAdds cs ks s args r xs → AddsAs cs ks args r (same_sym r.sym s) xs
adds_as cs ks s args r xs (of_other h) = subst (λ b. AddsAs cs ks args r b []) (sym h) refl
adds_as cs ks s args r xs (of_none h k) = subst (λ b. AddsAs cs ks args r b []) (sym h) (None, k, refl)
adds_as cs ks s args r xs (of_one x h k) = subst (λ b. AddsAs cs ks args r b (x ∷ [])) (sym h) (Some x, k, refl)

as_once : (cs : List Clause) (ks : List (Option Constant)) (args : List Term) (r : Row) (b : Bool) (xs ys : List Radix) → AddsAs cs ks args r b xs → AddsAs cs ks args r b ys → xs ≡ ys
as_once cs ks args r true xs ys h k = h.2 ∙ ap one_if_any (row_once cs ks args r h.0 k.0 h.1 k.1) ∙ sym k.2
as_once cs ks args r false xs ys h k = h ∙ sym k

adds_once : (cs : List Clause) (ks : List (Option Constant)) (s : Sym) (args : List Term) (r : Row) (xs ys : List Radix) → RowAdds cs ks s args r xs → RowAdds cs ks s args r ys → xs ≡ ys
adds_once cs ks s args r xs ys h k = as_once cs ks args r (same_sym r.sym s) xs ys (adds_as cs ks s args r xs h) (adds_as cs ks s args r ys k)

abbrev pub RowsAs : List Clause → List (Option Constant) → Sym → List Term → List Row → List Radix → Type 0
RowsAs cs ks s args [] xs = xs ≡ []
RowsAs cs ks s args (r ∷ rs) xs = (ys : List Radix) × (zs : List Radix) × RowAdds cs ks s args r ys × RowsAdd cs ks s args rs zs × (xs ≡ ys ++ zs)

pub rows_as : (cs : List Clause) (ks : List (Option Constant)) (s : Sym) (args : List Term) (rs : List Row) (xs : List Radix) → RowsAdd cs ks s args rs xs → RowsAs cs ks s args rs xs
rows_as cs ks s args rs xs no_rows = refl
rows_as cs ks s args rs xs (and_row r qs ys zs h k) = (ys, zs, h, k, refl)

pub rows_once : (cs : List Clause) (ks : List (Option Constant)) (s : Sym) (args : List Term) (rs : List Row) (xs ys : List Radix) → RowsAdd cs ks s args rs xs → RowsAdd cs ks s args rs ys → xs ≡ ys
rows_once cs ks s args [] xs ys h k = rows_as cs ks s args [] xs h ∙ sym (rows_as cs ks s args [] ys k)
rows_once cs ks s args (r ∷ rs) xs ys h k =
    let a : (us : List Radix) × (vs : List Radix) × RowAdds cs ks s args r us × RowsAdd cs ks s args rs vs × (xs ≡ us ++ vs) = rows_as cs ks s args (r ∷ rs) xs h in
    let b : (us : List Radix) × (vs : List Radix) × RowAdds cs ks s args r us × RowsAdd cs ks s args rs vs × (ys ≡ us ++ vs) = rows_as cs ks s args (r ∷ rs) ys k in
    let first : a.0 ≡ b.0 = adds_once cs ks s args r a.0 b.0 a.2 b.2 in
    let others : a.1 ≡ b.1 = rows_once cs ks s args rs a.1 b.1 a.3 b.3 in
    a.4 ∙ (λ i. first i ++ others i) ∙ sym b.4

-- where something fits, and else nothing
abbrev Either : Type 0 → Option Radix → Option Radix → Type 0
Either F x o = (F × (o ≡ x)) ⊎ ((F → ⊥) × (o ≡ None))

abbrev FieldAs : List Clause → List (Option Constant) → Structure → Term → Radix → Option Field → Option Radix → Type 0
FieldAs cs ks x t r None o = o ≡ None
FieldAs cs ks x t r (Some f) o = Either (LociFit cs ks [] x.loci r.args) (Some (field_radix x r.args t f)) o

abbrev MemberAs : List Clause → List (Option Constant) → Sym → Term → Radix → Option Structure → Option Radix → Type 0
MemberAs cs ks s t r None o = o ≡ None
MemberAs cs ks s t r (Some x) o = FieldAs cs ks x t r (find (has_selector s) x.fields) o

member_as : (cs : List Clause) (ks : List (Option Constant)) (all : List Structure) (s : Sym) (t : Term) (r : Radix) (o : Option Radix) → MemberGives cs ks all s t r o → MemberAs cs ks s t r (structure_of all r.sym) o
member_as cs ks all s t r o (st.no_structure h) = subst (λ y. MemberAs cs ks s t r y None) (sym h) refl
member_as cs ks all s t r o (st.no_field x h k) = subst (λ y. MemberAs cs ks s t r y None) (sym h) (subst (λ f. FieldAs cs ks x t r f None) (sym k) refl)
member_as cs ks all s t r o (st.unfit x f h k n) = subst (λ y. MemberAs cs ks s t r y None) (sym h) (subst (λ g. FieldAs cs ks x t r g None) (sym k) (inr (n, refl)))
member_as cs ks all s t r o (st.of_field x f h k l) = subst (λ y. MemberAs cs ks s t r y (Some (field_radix x r.args t f))) (sym h) (subst (λ g. FieldAs cs ks x t r g (Some (field_radix x r.args t f))) (sym k) (inl (l, refl)))

field_once : (cs : List Clause) (ks : List (Option Constant)) (x : Structure) (t : Term) (r : Radix) (f : Option Field) (o p : Option Radix) → FieldAs cs ks x t r f o → FieldAs cs ks x t r f p → o ≡ p
field_once cs ks x t r None o p h k = h ∙ sym k
field_once cs ks x t r (Some f) o p h k = either_once h k

as_member_once : (cs : List Clause) (ks : List (Option Constant)) (s : Sym) (t : Term) (r : Radix) (x : Option Structure) (o p : Option Radix) → MemberAs cs ks s t r x o → MemberAs cs ks s t r x p → o ≡ p
as_member_once cs ks s t r None o p h k = h ∙ sym k
as_member_once cs ks s t r (Some x) o p h k = field_once cs ks x t r (find (has_selector s) x.fields) o p h k

member_once : (cs : List Clause) (ks : List (Option Constant)) (all : List Structure) (s : Sym) (t : Term) (r : Radix) (o p : Option Radix) → MemberGives cs ks all s t r o → MemberGives cs ks all s t r p → o ≡ p
member_once cs ks all s t r o p h k = as_member_once cs ks s t r (structure_of all r.sym) o p (member_as cs ks all s t r o h) (member_as cs ks all s t r p k)

abbrev FirstAs : List Clause → List (Option Constant) → List Structure → Sym → Term → List Radix → Option Radix → Type 0
FirstAs cs ks all s t [] o = o ≡ None
FirstAs cs ks all s t (r ∷ rs) o = ((x : Radix) × MemberGives cs ks all s t r (Some x) × (o ≡ Some x)) ⊎ (MemberGives cs ks all s t r None × FirstGives cs ks all s t rs o)

first_as : (cs : List Clause) (ks : List (Option Constant)) (all : List Structure) (s : Sym) (t : Term) (rs : List Radix) (o : Option Radix) → FirstGives cs ks all s t rs o → FirstAs cs ks all s t rs o
first_as cs ks all s t rs o none_gives = refl
first_as cs ks all s t rs o (this_gives r qs x h) = inl (x, h, refl)
first_as cs ks all s t rs o (not_this r qs p h k) = inr (h, k)

pub first_once : (cs : List Clause) (ks : List (Option Constant)) (all : List Structure) (s : Sym) (t : Term) (rs : List Radix) (o p : Option Radix) → FirstGives cs ks all s t rs o → FirstGives cs ks all s t rs p → o ≡ p
first_once cs ks all s t [] o p h k = first_as cs ks all s t [] o h ∙ sym (first_as cs ks all s t [] p k)
first_once cs ks all s t (r ∷ rs) o p h k =
    either (first_as cs ks all s t (r ∷ rs) o h)
    (λ a. either (first_as cs ks all s t (r ∷ rs) p k)
    (λ b. a.2 ∙ member_once cs ks all s t r (Some a.0) (Some b.0) a.1 b.1 ∙ sym b.2)
    (λ b. absurd (none_some a.0 (member_once cs ks all s t r None (Some a.0) b.0 a.1))))
    (λ a. either (first_as cs ks all s t (r ∷ rs) p k)
    (λ b. absurd (none_some b.0 (member_once cs ks all s t r None (Some b.0) a.0 b.1)))
    (λ b. first_once cs ks all s t rs o p a.1 b.1))

abbrev MadeAs : List Clause → List (Option Constant) → List Term → Option Structure → Option Radix → Type 0
MadeAs cs ks args None o = o ≡ None
MadeAs cs ks args (Some x) o = Either (AggregateFits cs ks x args) (Some (made_radix x args)) o

made_as : (cs : List Clause) (ks : List (Option Constant)) (all : List Structure) (s : Sym) (args : List Term) (o : Option Radix) → AggregateGives cs ks all s args o → MadeAs cs ks args (made_by all s) o
made_as cs ks all s args o (st.of_none h) = subst (λ y. MadeAs cs ks args y None) (sym h) refl
made_as cs ks all s args o (st.unfit_arguments x h n) = subst (λ y. MadeAs cs ks args y None) (sym h) (inr (n, refl))
made_as cs ks all s args o (st.of_structure x h f) = subst (λ y. MadeAs cs ks args y (Some (made_radix x args))) (sym h) (inl (f, refl))

as_made_once : (cs : List Clause) (ks : List (Option Constant)) (args : List Term) (x : Option Structure) (o p : Option Radix) → MadeAs cs ks args x o → MadeAs cs ks args x p → o ≡ p
as_made_once cs ks args None o p h k = h ∙ sym k
as_made_once cs ks args (Some x) o p h k = either_once h k

pub aggregate_once : (cs : List Clause) (ks : List (Option Constant)) (all : List Structure) (s : Sym) (args : List Term) (o p : Option Radix) → AggregateGives cs ks all s args o → AggregateGives cs ks all s args p → o ≡ p
aggregate_once cs ks all s args o p h k = as_made_once cs ks args (made_by all s) o p (made_as cs ks all s args o h) (made_as cs ks all s args p k)

abbrev AncestorsAs : List Clause → List (Option Constant) → Radix → Option Structure → List Radix → Type 0
AncestorsAs cs ks r None xs = xs ≡ []
AncestorsAs cs ks r (Some x) xs = (LociFit cs ks [] x.loci r.args × (xs ≡ ancestors_at x r.args)) ⊎ ((LociFit cs ks [] x.loci r.args → ⊥) × (xs ≡ []))

ancestors_as : (cs : List Clause) (ks : List (Option Constant)) (all : List Structure) (r : Radix) (xs : List Radix) → AncestorsGive cs ks all r xs → AncestorsAs cs ks r (structure_of all r.sym) xs
ancestors_as cs ks all r xs (st.of_no_structure h) = subst (λ y. AncestorsAs cs ks r y []) (sym h) refl
ancestors_as cs ks all r xs (st.unfit_loci x h n) = subst (λ y. AncestorsAs cs ks r y []) (sym h) (inr (n, refl))
ancestors_as cs ks all r xs (st.of_ancestors x h l) = subst (λ y. AncestorsAs cs ks r y (ancestors_at x r.args)) (sym h) (inl (l, refl))

as_ancestors_once : (cs : List Clause) (ks : List (Option Constant)) (r : Radix) (x : Option Structure) (xs ys : List Radix) → AncestorsAs cs ks r x xs → AncestorsAs cs ks r x ys → xs ≡ ys
as_ancestors_once cs ks r None xs ys h k = h ∙ sym k
as_ancestors_once cs ks r (Some x) xs ys h k = either_once h k

pub ancestors_once : (cs : List Clause) (ks : List (Option Constant)) (all : List Structure) (r : Radix) (xs ys : List Radix) → AncestorsGive cs ks all r xs → AncestorsGive cs ks all r ys → xs ≡ ys
ancestors_once cs ks all r xs ys h k = as_ancestors_once cs ks r (structure_of all r.sym) xs ys (ancestors_as cs ks all r xs h) (ancestors_as cs ks all r ys k)
