-- Registrations have no constant, and what they owe is what their conditions state.
use Rattle.std.proofs.Common.{◌≡◌, ◌+◌, ℕ, zero, suc, true, false, List, [], ◌∷◌, length, refl, sym, ap, subst, arith, Option, Some}
use Rattle.std.specs.Prelude.{Contains}
use Rattle.std.specs.List.{list_all}
use Rattle.std.proofs.lemmas.Bool.{and_from}
use Rattle.mz_logic.specs.declared.sequent.Sequent.{Sequent}
use Rattle.mz_logic.specs.Formula.{Formula}
use Rattle.mz_logic.specs.Derives.{Derives}
use Rattle.mz_core.specs.Closed.{term_under, adjective_under, type_under, loci_closed}
use Rattle.mz_core.specs.Erasure.{erase}
use Rattle.mz_core.specs.Statement.{Statement}
use Rattle.mz_core.specs.TypedSequent.{typed_sequent, erased_sequent}
use Rattle.mz_core.specs.declared.item.Item.{Item}
use Rattle.mz_core.specs.declared.item.Item.TheVariants as item
use Rattle.mz_core.specs.declared.registration.ExistentialRegistration.{ExistentialRegistration}
use Rattle.mz_core.specs.declared.registration.ConditionalRegistration.{ConditionalRegistration}
use Rattle.mz_core.specs.declared.registration.FunctorialRegistration.{FunctorialRegistration}
use Rattle.mz_core.specs.declared.soft_type.SoftType.{SoftType}
use Rattle.mz_items.specs.Closed.{existential_under, conditional_under, functorial_under, type_if_any_under, item_closed}
use Rattle.mz_items.specs.Exports.{is_primitive}
use Rattle.mz_items.specs.Items.{thesis_of, owes}
use Rattle.mz_items.specs.Loci.{over}
use Rattle.mz_items.specs.RegistrationRows.{existential, conditional, functorial}
use Rattle.mz_items.specs.declared.condition.Condition.{Condition}
use Rattle.mz_items.specs.declared.condition.Condition.TheVariants.{Existence, Coherence}
use Rattle.mz_context.specs.Context.{next}
use Rattle.mz_context.specs.declared.constants.Constant.{Constant}
use Rattle.mz_context.specs.declared.context.Context.{Context}
use Rattle.mz_loci.specs.Loci.{type_over_loci, types_behind, locus_types}
use Rattle.mz_loci_laws.proofs.OverProofs.{type_under_loci}
use Rattle.mz_clusters.specs.declared.headings.ReadCluster.{ReadCluster}
use Rattle.mz_clusters.specs.declared.headings.ReadCluster.TheVariants.{Existential, Conditional, Functorial}
use Rattle.mz_cluster_laws.specs.Laws.{IsUsableCluster}
use Rattle.mz_cluster_items.specs.OverLoci.{term_over_loci, adjectives_over_loci, type_if_any_over_loci}
use Rattle.mz_cluster_items.specs.Items.{cluster_item}
use Rattle.mz_condition_laws.specs.Laws.{AreClosedTheses}
use Rattle.mz_registered_laws.proofs.OverProofs.{term_under_loci, adjectives_under_loci, type_if_any_under_loci}
use Rattle.mz_registered_laws.proofs.TheseProofs.{existential_theses, conditional_theses, functorial_theses}

types-length : (least j : ℕ) (ks : List (Option Constant)) → length (types_behind least j ks) ≡ length ks
types-length least j [] = refl
types-length least j (k ∷ ks) = ap suc (types-length least (suc j) ks)

-- each condition of the item derives for all loci
abbrev pub AllDerive : List Formula → List SoftType → Item → Type 0
AllDerive ax loci x = (c : Condition) (t : Statement) → thesis_of x c ≡ Some t → Derives ax [] (erase (over loci t))

pub record IsClosedOwed (count : ℕ) (loci : List SoftType) (x : Item) : Type 0 where
  pub closed : item_closed x ≡ true
  pub own : is_primitive x ≡ false
  pub theses : AreClosedTheses count x
  pub owed : (ax : List Formula) → AllDerive ax loci x → (q : Sequent) → Contains (owes x) q → Derives ax q.premises q.conclusion

only : (q p : Sequent) → Contains (p ∷ []) q → q ≡ p
only q p (zero, lt, e) = let k : p ≡ q = e in sym k
only q p (suc i, lt, e) = absurd (omega (arith, lt))

derived : (ax : List Formula) (loci : List SoftType) (t : Statement) → Derives ax [] (erase (over loci t)) → (q : Sequent) → q ≡ erased_sequent (typed_sequent [] (over loci t)) → Derives ax q.premises q.conclusion
derived ax loci t d q e = subst (λ (p : Sequent). Derives ax p.premises p.conclusion) (sym e) d

existential_owed : (r : ExistentialRegistration) (ax : List Formula) → AllDerive ax r.loci (item.Existential r) → (q : Sequent) → Contains (owes (item.Existential r)) q → Derives ax q.premises q.conclusion
unfolding owes
existential_owed r ax all q is = derived ax r.loci (existential r) (all Existence (existential r) refl) q (only q (erased_sequent (typed_sequent [] (over r.loci (existential r)))) is)

conditional_owed : (r : ConditionalRegistration) (ax : List Formula) → AllDerive ax r.loci (item.Conditional r) → (q : Sequent) → Contains (owes (item.Conditional r)) q → Derives ax q.premises q.conclusion
unfolding owes
conditional_owed r ax all q is = derived ax r.loci (conditional r) (all Coherence (conditional r) refl) q (only q (erased_sequent (typed_sequent [] (over r.loci (conditional r)))) is)

functorial_owed : (r : FunctorialRegistration) (ax : List Formula) → AllDerive ax r.loci (item.Functorial r) → (q : Sequent) → Contains (owes (item.Functorial r)) q → Derives ax q.premises q.conclusion
unfolding owes
functorial_owed r ax all q is = derived ax r.loci (functorial r) (all Coherence (functorial r) refl) q (only q (erased_sequent (typed_sequent [] (over r.loci (functorial r)))) is)

existential_closed : (n : ℕ) (r : ExistentialRegistration) → length r.loci ≡ n → loci_closed r.loci ≡ true → existential_under n r ≡ true → IsClosedOwed n r.loci (item.Existential r)
existential_closed n r long loci h = record {
  closed = and_from (loci_closed r.loci) (existential_under (length r.loci) r) loci (subst (λ m. existential_under m r ≡ true) (sym long) h);
  own = refl;
  theses = existential_theses n r h;
  owed = existential_owed r;
}

conditional_closed : (n : ℕ) (r : ConditionalRegistration) → length r.loci ≡ n → loci_closed r.loci ≡ true → conditional_under n r ≡ true → IsClosedOwed n r.loci (item.Conditional r)
conditional_closed n r long loci h = record {
  closed = and_from (loci_closed r.loci) (conditional_under (length r.loci) r) loci (subst (λ m. conditional_under m r ≡ true) (sym long) h);
  own = refl;
  theses = conditional_theses n r h;
  owed = conditional_owed r;
}

functorial_closed : (n : ℕ) (r : FunctorialRegistration) → length r.loci ≡ n → loci_closed r.loci ≡ true → functorial_under n r ≡ true → IsClosedOwed n r.loci (item.Functorial r)
functorial_closed n r long loci h = record {
  closed = and_from (loci_closed r.loci) (functorial_under (length r.loci) r) loci (subst (λ m. functorial_under m r ≡ true) (sym long) h);
  own = refl;
  theses = functorial_theses n r h;
  owed = functorial_owed r;
}

-- a registration whose parts are usable, of loci without constants
pub cluster_closed : (least : ℕ) (d : Context) (ks : List (Option Constant)) (x : ReadCluster) → next d ≡ least + length ks → loci_closed (locus_types least ks) ≡ true → IsUsableCluster least d x →
    IsClosedOwed (length ks) (locus_types least ks) (cluster_item least ks x)
cluster_closed least d ks (Existential x) e loci u =
    let n : ℕ = length ks in
    let xs = adjectives_over_loci least n x.adjectives in
    let ty : SoftType = type_over_loci least n x.ty in
    existential_closed n (record { loci = locus_types least ks; adjectives = xs; ty = ty }) (types-length least 0 ks) loci
    (and_from (list_all (adjective_under n) xs) (type_under n ty) (adjectives_under_loci least (next d) n x.adjectives e u.1) (type_under_loci least (next d) n x.ty e u.0))
cluster_closed least d ks (Conditional x) e loci u =
    let n : ℕ = length ks in
    let xs = adjectives_over_loci least n x.from in
    let ys = adjectives_over_loci least n x.to in
    let ty : SoftType = type_over_loci least n x.ty in
    conditional_closed n (record { loci = locus_types least ks; from = xs; to = ys; ty = ty }) (types-length least 0 ks) loci
    (and_from _ (type_under n ty)
    (and_from (list_all (adjective_under n) xs) (list_all (adjective_under n) ys) (adjectives_under_loci least (next d) n x.from e u.1) (adjectives_under_loci least (next d) n x.to e u.2))
    (type_under_loci least (next d) n x.ty e u.0))
cluster_closed least d ks (Functorial x) e loci u =
    let n : ℕ = length ks in
    let t = term_over_loci least n x.term in
    let xs = adjectives_over_loci least n x.adjectives in
    let ty = type_if_any_over_loci least n x.ty in
    functorial_closed n (record { loci = locus_types least ks; term = t; adjectives = xs; ty = ty }) (types-length least 0 ks) loci
    (and_from _ (type_if_any_under n ty)
    (and_from (term_under n t) (list_all (adjective_under n) xs) (term_under_loci least (next d) n x.term e u.0) (adjectives_under_loci least (next d) n x.adjectives e u.2))
    (type_if_any_under_loci least (next d) n x.ty e u.1))
