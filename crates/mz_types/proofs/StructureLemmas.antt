-- What the code of structures tells.
use Rattle.std.proofs.Common.{◌≡◌, ◌≤◌, ◌<◌, ◌+◌, ℕ, zero, suc, List, [], ◌∷◌, ◌++◌, refl, sym, ap, ◌∙◌, subst, Bool, true, false, arith, length, Option, Some, None, take, drop, map}
use Rattle.std.specs.Prelude.{◌↔◌, IsTrue, nat_eq, find, reverse}
use Rattle.std.proofs.lemmas.Bool.{eqb-true}
use Rattle.std.proofs.lemmas.Bool.{false≢true}
use Rattle.mz_logic.specs.declared.sym.Sym.{Sym}
use Rattle.mz_logic.specs.Term.{Term}
use Rattle.mz_core.specs.declared.structure.Field.{Field}
use Rattle.mz_core.specs.declared.radix.Radix.{Radix}
use Rattle.mz_core.specs.declared.soft_type.SoftType.{SoftType}
use Rattle.mz_core.specs.declared.structure.Structure.{Structure}
use Rattle.mz_context.specs.declared.constants.Constant.{Constant}
use Rattle.mz_items.specs.StructureRows.{selected, field_values}
use Rattle.mz_ground.specs.declared.clause.Clause.{Clause}
use Rattle.mz_fits.specs.Fits.{TypeFits, LociFit, type_at}
use Rattle.mz_fits.proofs.FitLemmas.{not_both, empty}
use Rattle.mz_types.specs.Structures as st
use Rattle.mz_types.specs.Structures.{has_selector, structure_of, made_by, field_radix, MemberGives, FirstGives, FieldsFit, no_fields, and_field, given_values, AggregateFits, made_radix, AggregateGives, ancestors_at, AncestorsGive}

pub told_radix : (x : Structure) (args selections values : List Term) (t : Term) (f : Field) (fields : List Field) (at : SoftType) → fields ≡ x.fields → selections ≡ map (selected t) fields → values ≡ field_values (reverse selections) t (reverse args) → at ≡ type_at values f.ty → at.radix ≡ field_radix x args t f
unfolding field_radix
told_radix x args selections values t f fields at ef es ev ea =
    let e : values ≡ field_values (reverse (map (selected t) x.fields)) t (reverse args) = ev ∙ ap (λ (us : List Term). field_values (reverse us) t (reverse args)) (es ∙ ap (map (selected t)) ef) in
    ap (λ (ty : SoftType). ty.radix) ea ∙ ap (λ (vs : List Term). (type_at vs f.ty).radix) e

pub told_no_structure : (cs : List Clause) (ks : List (Option Constant)) (all : List Structure) (s : Sym) (t : Term) (r : Radix) → None ≡ structure_of all r.sym → MemberGives cs ks all s t r None
told_no_structure cs ks all s t r h = st.no_structure (sym h)

pub told_no_field : (cs : List Clause) (ks : List (Option Constant)) (all : List Structure) (s : Sym) (t : Term) (r : Radix) (x : Structure) (fields : List Field) → Some x ≡ structure_of all r.sym → fields ≡ x.fields → None ≡ find (has_selector s) fields → MemberGives cs ks all s t r None
told_no_field cs ks all s t r x fields h ef k = st.no_field x (sym h) (subst (λ (fs : List Field). find (has_selector s) fs ≡ None) ef (sym k))

pub told_unfit : (cs : List Clause) (ks : List (Option Constant)) (all : List Structure) (s : Sym) (t : Term) (r : Radix) (x : Structure) (f : Field) (fields : List Field) (loci : List SoftType) (args : List Term) (b : Bool) → Some x ≡ structure_of all r.sym → fields ≡ x.fields → Some f ≡ find (has_selector s) fields → loci ≡ x.loci → args ≡ r.args → IsTrue b ↔ LociFit cs ks [] loci args → b ≡ false → MemberGives cs ks all s t r None
told_unfit cs ks all s t r x f fields loci args b h ef k el ea i eb =
    st.unfit x f (sym h) (subst (λ (fs : List Field). find (has_selector s) fs ≡ Some f) ef (sym k))
    (λ l. absurd (not_both b eb (i.1 (subst (λ (tys : List SoftType). LociFit cs ks [] tys args) (sym el) (subst (λ (us : List Term). LociFit cs ks [] x.loci us) (sym ea) l)))))

pub told_field : (cs : List Clause) (ks : List (Option Constant)) (all : List Structure) (s : Sym) (t : Term) (r y : Radix) (x : Structure) (f : Field) (fields : List Field) (loci : List SoftType) (args : List Term) (b : Bool) → Some x ≡ structure_of all r.sym → fields ≡ x.fields → Some f ≡ find (has_selector s) fields → loci ≡ x.loci → args ≡ r.args → IsTrue b ↔ LociFit cs ks [] loci args → b ≡ true → y ≡ field_radix x args t f → MemberGives cs ks all s t r (Some y)
told_field cs ks all s t r y x f fields loci args b h ef k el ea i eb ey =
    let l : LociFit cs ks [] x.loci r.args = subst (λ (us : List Term). LociFit cs ks [] x.loci us) ea (subst (λ (tys : List SoftType). LociFit cs ks [] tys args) el (i.0 eb)) in
    let e : y ≡ field_radix x r.args t f = ey ∙ ap (λ (us : List Term). field_radix x us t f) ea in
    subst (λ z. MemberGives cs ks all s t r (Some z)) (sym e) (st.of_field x f (sym h) (subst (λ (fs : List Field). find (has_selector s) fs ≡ Some f) ef (sym k)) l)

pub ruleset member_rules = (told_no_structure, told_no_field, told_unfit, told_field)

pub told_no_member : (cs : List Clause) (ks : List (Option Constant)) (all : List Structure) (s : Sym) (t : Term) (members : List Radix) → length members ≡ 0 → FirstGives cs ks all s t members None
told_no_member cs ks all s t members e = subst (λ rs. FirstGives cs ks all s t rs None) (sym (empty _ e)) st.none_gives

pub told_this : (cs : List Clause) (ks : List (Option Constant)) (all : List Structure) (s : Sym) (t : Term) (members rs : List Radix) (r x : Radix) (o : Option Radix) → members ≡ r ∷ rs → MemberGives cs ks all s t r o → o ≡ Some x → FirstGives cs ks all s t members (Some x)
told_this cs ks all s t members rs r x o e h eo = subst (λ qs. FirstGives cs ks all s t qs (Some x)) (sym e) (st.this_gives r rs x (subst (MemberGives cs ks all s t r) eo h))

pub told_not_this : (cs : List Clause) (ks : List (Option Constant)) (all : List Structure) (s : Sym) (t : Term) (members rs : List Radix) (r : Radix) (o p : Option Radix) → members ≡ r ∷ rs → MemberGives cs ks all s t r o → o ≡ None → FirstGives cs ks all s t rs p → FirstGives cs ks all s t members p
told_not_this cs ks all s t members rs r o p e h eo k = subst (λ qs. FirstGives cs ks all s t qs p) (sym e) (st.not_this r rs p (subst (MemberGives cs ks all s t r) eo h) k)

pub ruleset first_rules = (told_no_member, told_this, told_not_this)

first_fits : (cs : List Clause) (ks : List (Option Constant)) (values : List Term) (f : Field) (fs : List Field) (z : Term) (zs : List Term) → FieldsFit cs ks values (f ∷ fs) (z ∷ zs) → TypeFits cs ks z (type_at values f.ty)
first_fits cs ks values f fs z zs (and_field g gs y ys h k) = h

others_fit : (cs : List Clause) (ks : List (Option Constant)) (values : List Term) (f : Field) (fs : List Field) (z : Term) (zs : List Term) → FieldsFit cs ks values (f ∷ fs) (z ∷ zs) → FieldsFit cs ks values fs zs
others_fit cs ks values f fs z zs (and_field g gs y ys h k) = k

no_more : (cs : List Clause) (ks : List (Option Constant)) (values : List Term) (z : Term) (zs : List Term) → FieldsFit cs ks values [] (z ∷ zs) → ⊥
no_more cs ks values z zs f = elim f [ ]

no_fewer : (cs : List Clause) (ks : List (Option Constant)) (values : List Term) (f : Field) (fs : List Field) → FieldsFit cs ks values (f ∷ fs) [] → ⊥
no_fewer cs ks values f fs h = elim h [ ]

at_end : (cs : List Clause) (ks : List (Option Constant)) (values zs : List Term) → IsTrue (nat_eq (length zs) 0) ↔ FieldsFit cs ks values [] zs
at_end cs ks values [] = (λ x. no_fields, λ f. refl)
at_end cs ks values (z ∷ zs) = (λ x. let e : length (z ∷ zs) ≡ 0 = eqb-true (length (z ∷ zs)) 0 x in absurd (omega (arith, e)), λ f. absurd (no_more cs ks values z zs f))

-- the fields that are left fit just where all do
pub told_end : (cs : List Clause) (ks : List (Option Constant)) (values zs ts : List Term) (fields fs : List Field) → length fs ≡ 0 → FieldsFit cs ks values fs ts ↔ FieldsFit cs ks values fields zs → IsTrue (nat_eq (length ts) 0) ↔ FieldsFit cs ks values fields zs
told_end cs ks values zs ts fields fs e w =
    let i : IsTrue (nat_eq (length ts) 0) ↔ FieldsFit cs ks values fs ts = subst (λ gs. IsTrue (nat_eq (length ts) 0) ↔ FieldsFit cs ks values gs ts) (sym (empty _ e)) (at_end cs ks values ts) in
    (λ x. w.0 (i.0 x), λ h. i.1 (w.1 h))

pub told_fewer : (cs : List Clause) (ks : List (Option Constant)) (values zs ts : List Term) (fields fs more : List Field) (f : Field) → fs ≡ f ∷ more → length ts ≡ 0 → FieldsFit cs ks values fs ts ↔ FieldsFit cs ks values fields zs → IsTrue false ↔ FieldsFit cs ks values fields zs
told_fewer cs ks values zs ts fields fs more f ef et w =
    (λ x. absurd (false≢true x), λ h. absurd (no_fewer cs ks values f more (subst (λ us. FieldsFit cs ks values (f ∷ more) us) (empty _ et) (subst (λ gs. FieldsFit cs ks values gs ts) ef (w.1 h)))))

at_first : (cs : List Clause) (ks : List (Option Constant)) (values zs ts us : List Term) (fields fs more : List Field) (f : Field) (z : Term) → fs ≡ f ∷ more → ts ≡ z ∷ us → FieldsFit cs ks values fs ts ↔ FieldsFit cs ks values fields zs → FieldsFit cs ks values (f ∷ more) (z ∷ us) ↔ FieldsFit cs ks values fields zs
at_first cs ks values zs ts us fields fs more f z ef et w =
    subst (λ vs. FieldsFit cs ks values (f ∷ more) vs ↔ FieldsFit cs ks values fields zs) et (subst (λ gs. FieldsFit cs ks values gs ts ↔ FieldsFit cs ks values fields zs) ef w)

pub told_field_unfit : (cs : List Clause) (ks : List (Option Constant)) (values zs ts us : List Term) (fields fs more : List Field) (f : Field) (z : Term) (at : SoftType) (b : Bool) → fs ≡ f ∷ more → ts ≡ z ∷ us → at ≡ type_at values f.ty → IsTrue b ↔ TypeFits cs ks z at → b ≡ false → FieldsFit cs ks values fs ts ↔ FieldsFit cs ks values fields zs → IsTrue false ↔ FieldsFit cs ks values fields zs
told_field_unfit cs ks values zs ts us fields fs more f z at b ef et ea i eb w =
    let v : FieldsFit cs ks values (f ∷ more) (z ∷ us) ↔ FieldsFit cs ks values fields zs = at_first cs ks values zs ts us fields fs more f z ef et w in
    (λ x. absurd (false≢true x), λ h. absurd (not_both b eb (i.1 (subst (TypeFits cs ks z) (sym ea) (first_fits cs ks values f more z us (v.1 h))))))

pub told_field_fits : (cs : List Clause) (ks : List (Option Constant)) (values zs ts us : List Term) (fields fs more : List Field) (f : Field) (z : Term) (at : SoftType) (b : Bool) → fs ≡ f ∷ more → ts ≡ z ∷ us → at ≡ type_at values f.ty → IsTrue b ↔ TypeFits cs ks z at → b ≡ true → FieldsFit cs ks values fs ts ↔ FieldsFit cs ks values fields zs → FieldsFit cs ks values more us ↔ FieldsFit cs ks values fields zs
told_field_fits cs ks values zs ts us fields fs more f z at b ef et ea i eb w =
    let v : FieldsFit cs ks values (f ∷ more) (z ∷ us) ↔ FieldsFit cs ks values fields zs = at_first cs ks values zs ts us fields fs more f z ef et w in
    (λ h. v.0 (and_field f more z us (subst (TypeFits cs ks z) ea (i.0 eb)) h), λ h. others_fit cs ks values f more z us (v.1 h))

pub told_no_field_asked : (cs : List Clause) (ks : List (Option Constant)) (values zs : List Term) (fields : List Field) → FieldsFit cs ks values fields zs ↔ FieldsFit cs ks values fields zs
told_no_field_asked cs ks values zs fields = (λ h. h, λ h. h)

pub ruleset fields_rules = (told_end, told_fewer, told_field_unfit, told_field_fits, told_no_field_asked)

pub told_args_unfit : (cs : List Clause) (ks : List (Option Constant)) (x : Structure) (args ls : List Term) (tys : List SoftType) (n : ℕ) (b : Bool) → n ≡ length x.loci → ls ≡ take n args → tys ≡ x.loci → IsTrue b ↔ LociFit cs ks [] tys ls → b ≡ false → IsTrue false ↔ AggregateFits cs ks x args
told_args_unfit cs ks x args ls tys n b en el et i eb =
    let e : take (length x.loci) args ≡ ls = ap (λ m. take m args) (sym en) ∙ sym el in
    (λ h. absurd (false≢true h), λ f. absurd (not_both b eb (i.1 (subst (λ (us : List SoftType). LociFit cs ks [] us ls) (sym et) (subst (λ (us : List Term). LociFit cs ks [] x.loci us) e f.loci)))))

pub told_args_fit : (cs : List Clause) (ks : List (Option Constant)) (x : Structure) (args ls zs values : List Term) (tys : List SoftType) (fs : List Field) (n m : ℕ) (a b : Bool) → n ≡ length x.loci → m ≡ length x.loci → ls ≡ take n args → zs ≡ drop m args → tys ≡ x.loci → fs ≡ x.fields → values ≡ given_values x args → IsTrue a ↔ LociFit cs ks [] tys ls → a ≡ true → IsTrue b ↔ FieldsFit cs ks values fs zs → IsTrue b ↔ AggregateFits cs ks x args
told_args_fit cs ks x args ls zs values tys fs n m a b en em el ez et ef ev i ea j =
    let e : ls ≡ take (length x.loci) args = el ∙ ap (λ k. take k args) en in
    let d : zs ≡ drop (length x.loci) args = ez ∙ ap (λ k. drop k args) em in
    let l : LociFit cs ks [] x.loci (take (length x.loci) args) = subst (λ (us : List Term). LociFit cs ks [] x.loci us) e (subst (λ (us : List SoftType). LociFit cs ks [] us ls) et (i.0 ea)) in
    let one : IsTrue b ↔ FieldsFit cs ks values fs (drop (length x.loci) args) = subst (λ (us : List Term). IsTrue b ↔ FieldsFit cs ks values fs us) d j in
    let two : IsTrue b ↔ FieldsFit cs ks values x.fields (drop (length x.loci) args) = subst (λ (gs : List Field). IsTrue b ↔ FieldsFit cs ks values gs (drop (length x.loci) args)) ef one in
    let k : IsTrue b ↔ FieldsFit cs ks (given_values x args) x.fields (drop (length x.loci) args) = subst (λ (us : List Term). IsTrue b ↔ FieldsFit cs ks us x.fields (drop (length x.loci) args)) ev two in
    (λ h. record { loci = l; fields = k.0 h }, λ f. k.1 f.fields)

pub ruleset aggregate_rules = (told_args_unfit, told_args_fit)

pub told_no_maker : (cs : List Clause) (ks : List (Option Constant)) (all : List Structure) (s : Sym) (args : List Term) → None ≡ made_by all s → AggregateGives cs ks all s args None
told_no_maker cs ks all s args h = st.of_none (sym h)

pub told_not_made : (cs : List Clause) (ks : List (Option Constant)) (all : List Structure) (s : Sym) (args : List Term) (x : Structure) (b : Bool) → Some x ≡ made_by all s → IsTrue b ↔ AggregateFits cs ks x args → b ≡ false → AggregateGives cs ks all s args None
told_not_made cs ks all s args x b h i eb = st.unfit_arguments x (sym h) (λ f. absurd (not_both b eb (i.1 f)))

pub told_made : (cs : List Clause) (ks : List (Option Constant)) (all : List Structure) (s : Sym) (args : List Term) (x : Structure) (r : Radix) (b : Bool) → Some x ≡ made_by all s → IsTrue b ↔ AggregateFits cs ks x args → b ≡ true → r ≡ made_radix x args → AggregateGives cs ks all s args (Some r)
told_made cs ks all s args x r b h i eb er = subst (λ q. AggregateGives cs ks all s args (Some q)) (sym er) (st.of_structure x (sym h) (i.0 eb))

pub ruleset made_rules = (told_no_maker, told_not_made, told_made)

pub told_no_ancestors : (cs : List Clause) (ks : List (Option Constant)) (all : List Structure) (r : Radix) → None ≡ structure_of all r.sym → AncestorsGive cs ks all r []
told_no_ancestors cs ks all r h = st.of_no_structure (sym h)

pub told_unfit_loci : (cs : List Clause) (ks : List (Option Constant)) (all : List Structure) (r : Radix) (x : Structure) (loci : List SoftType) (args : List Term) (b : Bool) → Some x ≡ structure_of all r.sym → loci ≡ x.loci → args ≡ r.args → IsTrue b ↔ LociFit cs ks [] loci args → b ≡ false → AncestorsGive cs ks all r []
told_unfit_loci cs ks all r x loci args b h el ea i eb =
    st.unfit_loci x (sym h) (λ l. absurd (not_both b eb (i.1 (subst (λ (tys : List SoftType). LociFit cs ks [] tys args) (sym el) (subst (λ (us : List Term). LociFit cs ks [] x.loci us) (sym ea) l)))))

pub told_ancestors : (cs : List Clause) (ks : List (Option Constant)) (all : List Structure) (r : Radix) (x : Structure) (loci : List SoftType) (args : List Term) (rs : List Radix) (b : Bool) → Some x ≡ structure_of all r.sym → loci ≡ x.loci → args ≡ r.args → IsTrue b ↔ LociFit cs ks [] loci args → b ≡ true → rs ≡ ancestors_at x r.args → AncestorsGive cs ks all r rs
told_ancestors cs ks all r x loci args rs b h el ea i eb er =
    let l : LociFit cs ks [] x.loci r.args = subst (λ (us : List Term). LociFit cs ks [] x.loci us) ea (subst (λ (tys : List SoftType). LociFit cs ks [] tys args) el (i.0 eb)) in
    subst (AncestorsGive cs ks all r) (sym er) (st.of_ancestors x (sym h) l)

pub ruleset ancestor_rules = (told_no_ancestors, told_unfit_loci, told_ancestors)
