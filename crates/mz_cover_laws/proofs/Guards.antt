-- Guards of loci at their constants, and the values in place of these.
use Rattle.std.proofs.Common.{◌≡◌, ◌≤◌, ◌<◌, ◌+◌, ℕ, suc, true, false, List, [], ◌∷◌, ◌++◌, map, length, reverse, refl, sym, ap, ◌∙◌, subst, arith, add-one, Option}
use Rattle.std.specs.List.{list_all}
use Rattle.std.proofs.lemmas.Bool.{and_parts, and_from}
use Rattle.std.proofs.lemmas.List.{map-append}
use Rattle.mz_logic.specs.declared.sym.Sym.{Sym}
use Rattle.mz_logic.specs.declared.literal.Literal.{Literal}
use Rattle.mz_logic.specs.declared.literal.Literal.TheVariants as literal
use Rattle.mz_logic.specs.Term.{Term, Const}
use Rattle.mz_logic.specs.Formula.{Formula, Atom}
use Rattle.mz_logic.specs.Literal.{literal_formula}
use Rattle.mz_logic.specs.Indices.{closed}
use Rattle.mz_logic.specs.ConstantTerm.{term_with, formula_with}
use Rattle.mz_logic.specs.Substitution.{substitute, value_at}
use Rattle.mz_logic.specs.Derives.{Derives}
use Rattle.mz_logic.proofs.AbstractionLaws.{formula_with-absent}
use Rattle.mz_logic.proofs.Generalization.{constant_generalized}
use Rattle.mz_logic.proofs.Each.{Each, cut_each, each_itself, each_append, each_left, each_right}
use Rattle.mz_core.specs.Closed.{term_under, adjective_under, type_under, loci_under}
use Rattle.mz_core.specs.Guard.{guard, guard_literals}
use Rattle.mz_core.specs.InForce.{term_in_force, formula_in_force, adjective_in_force, type_in_force}
use Rattle.mz_core.specs.TypeSubstitution.{substitute_adjective}
use Rattle.mz_core.specs.declared.adjective.Adjective.{Adjective}
use Rattle.mz_core.specs.declared.soft_type.SoftType.{SoftType}
use Rattle.mz_core.proofs.TermMaps.{adjective_with, type_with, literal_with, guard_literals-with}
use Rattle.mz_context.specs.declared.constants.Constant.{Constant}
use Rattle.mz_ground.specs.declared.clause.Clause.{Clause}
use Rattle.mz_fits.specs.Fits as fits
use Rattle.mz_fits.specs.Fits.{type_at, LociFit}
use Rattle.mz_fits.specs.Laws.{AreGranted}
use Rattle.mz_fits.proofs.SoundLemmas.{fits_derives}
use Rattle.mz_chain_laws.proofs.Fired.{append-one_value_more}
use Rattle.mz_choice.specs.Cover.{loci_constants}
use Rattle.mz_thesis_laws.specs.RowLaws.{AreInForce}
use Rattle.mz_thesis_laws.proofs.RowProofs.{new_in}
use Rattle.mz_cover_laws.proofs.Placed.{map_same, map_as, with-other, with-itself, all_with-in_force, with-values, placed, map-placed_none, map-placed_more}

-- a term for a constant, in a guard
literal_with-formula : (c : ℕ) (t : Term) (l : Literal) → formula_with c t (literal_formula l) ≡ literal_formula (literal_with (term_with c t) l)
literal_with-formula c t (literal.Atom true s us) = refl
literal_with-formula c t (literal.Atom false s us) = refl
literal_with-formula c t (literal.Eq true a b) = refl
literal_with-formula c t (literal.Eq false a b) = refl

literals_with-formulas : (c : ℕ) (t : Term) (ls : List Literal) → map (formula_with c t) (map literal_formula ls) ≡ map literal_formula (map (literal_with (term_with c t)) ls)
literals_with-formulas c t [] = refl
literals_with-formulas c t (l ∷ ls) = λ i. literal_with-formula c t l i ∷ literals_with-formulas c t ls i

pub guard_with : (c : ℕ) (t : Term) (ty : SoftType) (u : Term) → map (formula_with c t) (guard ty u) ≡ guard (type_with (term_with c t) ty) (term_with c t u)
guard_with c t ty u = literals_with-formulas c t (guard_literals ty u) ∙ ap (map literal_formula) (guard_literals-with (term_with c t) ty u)

-- in a type under values
adjective_with-values : (c : ℕ) (t : Term) (bs : List Term) (a : Adjective) → adjective_under (length bs) a ≡ true → adjective_with (term_with c t) (substitute_adjective 0 (value_at bs) a) ≡ substitute_adjective 0 (value_at (map (term_with c t) bs)) a
adjective_with-values c t bs a h =
    λ i. record { positive = a.positive; sym = a.sym; args = map_as (term_with c t) (substitute 0 (value_at bs)) (substitute 0 (value_at (map (term_with c t) bs))) (term_under (length bs)) a.args (λ u k. with-values c t bs u k) h i }

type_with-values : (c : ℕ) (t : Term) (bs : List Term) (ty : SoftType) → type_under (length bs) ty ≡ true → type_with (term_with c t) (type_at bs ty) ≡ type_at (map (term_with c t) bs) ty
type_with-values c t bs ty h =
    let n : ℕ = length bs in
    let both : (list_all (adjective_under n) ty.adjectives ≡ true) × (list_all (term_under n) ty.radix.args ≡ true) = and_parts (list_all (adjective_under n) ty.adjectives) (list_all (term_under n) ty.radix.args) h in
    let xs : map (adjective_with (term_with c t)) (map (substitute_adjective 0 (value_at bs)) ty.adjectives) ≡ map (substitute_adjective 0 (value_at (map (term_with c t) bs))) ty.adjectives =
    map_as (adjective_with (term_with c t)) (substitute_adjective 0 (value_at bs)) (substitute_adjective 0 (value_at (map (term_with c t) bs))) (adjective_under n) ty.adjectives (λ a k. adjective_with-values c t bs a k) both.0 in
    let us : map (term_with c t) (map (substitute 0 (value_at bs)) ty.radix.args) ≡ map (substitute 0 (value_at (map (term_with c t) bs))) ty.radix.args =
    map_as (term_with c t) (substitute 0 (value_at bs)) (substitute 0 (value_at (map (term_with c t) bs))) (term_under n) ty.radix.args (λ u k. with-values c t bs u k) both.1 in
    λ i. record { adjectives = xs i; radix = record { sym = ty.radix.sym; args = us i } }

-- in what is in force
adjective_with-in_force : (n c : ℕ) (t : Term) (a : Adjective) → n ≤ c → adjective_in_force n a ≡ true → adjective_with (term_with c t) a ≡ a
adjective_with-in_force n c t a le h = λ i. record { positive = a.positive; sym = a.sym; args = all_with-in_force n c t a.args le h i }

pub type_with-in_force : (n c : ℕ) (t : Term) (ty : SoftType) → n ≤ c → type_in_force n ty ≡ true → type_with (term_with c t) ty ≡ ty
type_with-in_force n c t ty le h =
    let both : (list_all (adjective_in_force n) ty.adjectives ≡ true) × (list_all (term_in_force n) ty.radix.args ≡ true) = and_parts (list_all (adjective_in_force n) ty.adjectives) (list_all (term_in_force n) ty.radix.args) h in
    let xs : map (adjective_with (term_with c t)) ty.adjectives ≡ ty.adjectives = map_same (adjective_with (term_with c t)) (adjective_in_force n) ty.adjectives (λ a k. adjective_with-in_force n c t a le k) both.0 in
    let us : map (term_with c t) ty.radix.args ≡ ty.radix.args = all_with-in_force n c t ty.radix.args le both.1 in
    λ i. record { adjectives = xs i; radix = record { sym = ty.radix.sym; args = us i } }

pub formulas_with-in_force : (n c : ℕ) (t : Term) (g : List Formula) → n ≤ c → AreInForce n g → map (formula_with c t) g ≡ g
formulas_with-in_force n c t g le h = map_same (formula_with c t) (formula_in_force n) g (λ f k. formula_with-absent c t f (new_in n c f le k)) h

-- the guards of loci at the constants from n on, the later ones first, and then the premises
abbrev pub with_guards : ℕ → List Term → List SoftType → List Formula → List Formula
with_guards n before [] g = g
with_guards n before (ty ∷ tys) g = with_guards (suc n) (Const n ∷ before) tys (guard (type_at before ty) (Const n) ++ g)

each_with_guards : (ax : List Formula) (n : ℕ) (before : List Term) (tys : List SoftType) (h g : List Formula) → Each ax h g → Each ax (with_guards n before tys h) (with_guards n before tys g)
each_with_guards ax n before [] h g each = each
each_with_guards ax n before (ty ∷ tys) h g each =
    let gs : List Formula = guard (type_at before ty) (Const n) in
    each_with_guards ax (suc n) (Const n ∷ before) tys (gs ++ h) (gs ++ g)
    (each_append ax (gs ++ h) gs g (each_left ax (gs ++ h) gs h (each_itself ax (gs ++ h))) (λ f is. cut_each ax (gs ++ h) h f (each_right ax (gs ++ h) gs h (each_itself ax (gs ++ h))) (each f is)))

one_more_under : (b : Term) (bs : List Term) (tys : List SoftType) → loci_under (length bs + 1) tys ≡ true → loci_under (length (b ∷ bs)) tys ≡ true
one_more_under b bs tys h = subst (λ n. loci_under n tys ≡ true) (add-one (length bs)) h

guards_with : (c : ℕ) (t : Term) (m : ℕ) (before : List Term) (tys : List SoftType) (g : List Formula) → c < m → loci_under (length before) tys ≡ true →
    map (formula_with c t) (with_guards m before tys g) ≡ with_guards m (map (term_with c t) before) tys (map (formula_with c t) g)
guards_with c t m before [] g lt h = refl
guards_with c t m before (ty ∷ tys) g lt h =
    let both : (type_under (length before) ty ≡ true) × (loci_under (length before + 1) tys ≡ true) = and_parts (type_under (length before) ty) (loci_under (length before + 1) tys) h in
    let there : term_with c t (Const m) ≡ Const m = with-other c m t lt in
    let first : map (formula_with c t) (guard (type_at before ty) (Const m)) ≡ guard (type_at (map (term_with c t) before) ty) (Const m) =
    guard_with c t (type_at before ty) (Const m) ∙ (λ i. guard (type_with-values c t before ty both.0 i) (there i)) in
    let whole : map (formula_with c t) (guard (type_at before ty) (Const m) ++ g) ≡ guard (type_at (map (term_with c t) before) ty) (Const m) ++ map (formula_with c t) g =
    map-append (formula_with c t) (guard (type_at before ty) (Const m)) g ∙ ap (λ fs. fs ++ map (formula_with c t) g) first in
    guards_with c t (suc m) (Const m ∷ before) tys (guard (type_at before ty) (Const m) ++ g) (omega arith) (one_more_under (Const m) before tys both.1) ∙
    (λ i. with_guards (suc m) (there i ∷ map (term_with c t) before) tys (whole i))

constants_with : (c : ℕ) (t : Term) (m : ℕ) (before : List Term) (tys : List SoftType) → c < m → map (term_with c t) (loci_constants m before tys) ≡ loci_constants m (map (term_with c t) before) tys
constants_with c t m before [] lt = refl
constants_with c t m before (ty ∷ tys) lt =
    constants_with c t (suc m) (Const m ∷ before) tys (omega arith) ∙ ap (λ b. loci_constants (suc m) (b ∷ map (term_with c t) before) tys) (with-other c m t lt)

pub length-loci_constants : (m : ℕ) (before : List Term) (tys : List SoftType) → length (loci_constants m before tys) ≡ length tys + length before
length-loci_constants m before [] = omega arith
length-loci_constants m before (ty ∷ tys) =
    let rest : length (loci_constants (suc m) (Const m ∷ before) tys) ≡ length tys + length (Const m ∷ before) = length-loci_constants (suc m) (Const m ∷ before) tys in
    omega (arith, rest)

-- a term for the first of the constants: its guard goes, where that derives
first_goes : (ax : List Formula) (cs : List Clause) (ks : List (Option Constant)) (k n m : ℕ) (before : List Term) (l : SoftType) (tys : List SoftType) (t : Term) (g : List Formula) (ty : SoftType) (s : Sym) (us : List Term) →
    AreGranted ax g cs ks → k ≤ n → n + length (l ∷ tys) ≤ m → AreInForce k g → list_all (term_in_force k) before ≡ true → closed t ≡ true → loci_under (length before) (l ∷ tys) ≡ true → type_under (length (l ∷ tys) + length before) ty ≡ true →
    fits.TypeFits cs ks t (type_at before l) →
    Derives ax (guard (type_at (loci_constants n before (l ∷ tys)) ty) (Const m) ++ with_guards n before (l ∷ tys) g) (Atom s us) →
    Derives ax (guard (type_at (loci_constants (suc n) (t ∷ before) tys) ty) (Const m) ++ with_guards (suc n) (t ∷ before) tys g) (Atom s (map (term_with n t) us))
first_goes ax cs ks k n m before l tys t g ty s us grants le long in_g in_before ct loci under_all fit d =
    let both : (type_under (length before) l ≡ true) × (loci_under (length before + 1) tys ≡ true) = and_parts (type_under (length before) l) (loci_under (length before + 1) tys) loci in
    let inner : List Term = loci_constants (suc n) (Const n ∷ before) tys in
    let first : map (term_with n t) (Const n ∷ before) ≡ t ∷ before = λ i. with-itself n t i ∷ all_with-in_force k n t before le in_before i in
    let count : length inner ≡ length tys + length (Const n ∷ before) = length-loci_constants (suc n) (Const n ∷ before) tys in
    let sum : length (l ∷ tys) + length before ≡ length inner = omega (arith, count) in
    let under_inner : type_under (length inner) ty ≡ true = subst (λ j. type_under j ty ≡ true) sum under_all in
    let object : map (formula_with n t) (guard (type_at inner ty) (Const m)) ≡ guard (type_at (loci_constants (suc n) (t ∷ before) tys) ty) (Const m) =
    guard_with n t (type_at inner ty) (Const m) ∙ (λ i. guard (type_with-values n t inner ty under_inner i) (with-other n m t (omega arith) i)) ∙
    ap (λ bs. guard (type_at bs ty) (Const m)) (constants_with n t (suc n) (Const n ∷ before) tys (omega arith) ∙ ap (λ bs. loci_constants (suc n) bs tys) first) in
    let gs : List Formula = guard (type_at before l) t in
    let here : map (formula_with n t) (guard (type_at before l) (Const n)) ≡ gs =
    guard_with n t (type_at before l) (Const n) ∙ (λ i. guard (type_with-values n t before l both.0 i) (with-itself n t i)) ∙ ap (λ bs. guard (type_at bs l) t) (all_with-in_force k n t before le in_before) in
    let whole : map (formula_with n t) (guard (type_at before l) (Const n) ++ g) ≡ gs ++ g =
    map-append (formula_with n t) (guard (type_at before l) (Const n)) g ∙ (λ i. here i ++ formulas_with-in_force k n t g le in_g i) in
    let loci_so : map (formula_with n t) (with_guards (suc n) (Const n ∷ before) tys (guard (type_at before l) (Const n) ++ g)) ≡ with_guards (suc n) (t ∷ before) tys (gs ++ g) =
    guards_with n t (suc n) (Const n ∷ before) tys (guard (type_at before l) (Const n) ++ g) (omega arith) (one_more_under (Const n) before tys both.1) ∙ (λ i. with_guards (suc n) (first i) tys (whole i)) in
    let x : List Formula = guard (type_at (loci_constants (suc n) (t ∷ before) tys) ty) (Const m) in
    let w : List Formula = with_guards (suc n) (t ∷ before) tys g in
    let moved : Derives ax (x ++ with_guards (suc n) (t ∷ before) tys (gs ++ g)) (Atom s (map (term_with n t) us)) =
    subst (λ fs. Derives ax fs (Atom s (map (term_with n t) us)))
    (map-append (formula_with n t) (guard (type_at inner ty) (Const m)) (with_guards n before (l ∷ tys) g) ∙ (λ i. object i ++ loci_so i))
    (constant_generalized ax (guard (type_at inner ty) (Const m) ++ with_guards n before (l ∷ tys) g) (Atom s us) n t ct d) in
    let said : Each ax g (gs ++ g) = each_append ax g gs g (fits_derives ax g cs ks grants t (type_at before l) fit) (each_itself ax g) in
    let from_w : Each ax (x ++ w) w = each_right ax (x ++ w) x w (each_itself ax (x ++ w)) in
    let from_x : Each ax (x ++ w) x = each_left ax (x ++ w) x w (each_itself ax (x ++ w)) in
    cut_each ax (x ++ w) (x ++ with_guards (suc n) (t ∷ before) tys (gs ++ g)) (Atom s (map (term_with n t) us))
    (each_append ax (x ++ w) x (with_guards (suc n) (t ∷ before) tys (gs ++ g)) from_x
    (λ f is. cut_each ax (x ++ w) w f from_w (each_with_guards ax (suc n) (t ∷ before) tys g (gs ++ g) said f is))) moved

-- values that fit the loci, in place of their constants: the loci's guards go
pub at_values : (ax : List Formula) (cs : List Clause) (ks : List (Option Constant)) (k n m : ℕ) (before : List Term) (tys : List SoftType) (ts : List Term) (g : List Formula) (ty : SoftType) (s : Sym) (us : List Term) →
    AreGranted ax g cs ks → k ≤ n → n + length tys ≤ m → AreInForce k g → list_all (term_in_force k) before ≡ true → list_all (term_in_force k) ts ≡ true → list_all closed ts ≡ true → loci_under (length before) tys ≡ true → type_under (length tys + length before) ty ≡ true →
    LociFit cs ks before tys ts →
    Derives ax (guard (type_at (loci_constants n before tys) ty) (Const m) ++ with_guards n before tys g) (Atom s us) →
    Derives ax (guard (type_at (reverse ts ++ before) ty) (Const m) ++ g) (Atom s (map (placed n ts) us))
at_values ax cs ks k n m before tys ts g ty s us grants le long in_g in_before in_ts cts loci under_all (fits.no_loci b) d =
    subst (λ vs. Derives ax (guard (type_at before ty) (Const m) ++ g) (Atom s vs)) (sym (map-placed_none n us)) d
at_values ax cs ks k n m before tys ts g ty s us grants le long in_g in_before in_ts cts loci under_all (fits.and_locus b l others t vs fit rest) d =
    let forces : (term_in_force k t ≡ true) × (list_all (term_in_force k) vs ≡ true) = and_parts (term_in_force k t) (list_all (term_in_force k) vs) in_ts in
    let closes : (closed t ≡ true) × (list_all closed vs ≡ true) = and_parts (closed t) (list_all closed vs) cts in
    let both : (type_under (length before) l ≡ true) × (loci_under (length before + 1) others ≡ true) = and_parts (type_under (length before) l) (loci_under (length before + 1) others) loci in
    let sum : length (l ∷ others) + length before ≡ length others + length (t ∷ before) = omega arith in
    let one : Derives ax (guard (type_at (loci_constants (suc n) (t ∷ before) others) ty) (Const m) ++ with_guards (suc n) (t ∷ before) others g) (Atom s (map (term_with n t) us)) =
    first_goes ax cs ks k n m before l others t g ty s us grants le long in_g in_before closes.0 loci under_all fit d in
    let all : Derives ax (guard (type_at (reverse vs ++ (t ∷ before)) ty) (Const m) ++ g) (Atom s (map (placed (suc n) vs) (map (term_with n t) us))) =
    at_values ax cs ks k (suc n) m (t ∷ before) others vs g ty s (map (term_with n t) us) grants (omega arith) (omega arith) in_g (and_from (term_in_force k t) (list_all (term_in_force k) before) forces.0 in_before) forces.1 closes.1
    (one_more_under t before others both.1) (subst (λ j. type_under j ty ≡ true) sum under_all) rest one in
    subst (λ ws. Derives ax (guard (type_at ws ty) (Const m) ++ g) (Atom s (map (placed n (t ∷ vs)) us))) (sym (append-one_value_more t vs before))
    (subst (λ ws. Derives ax (guard (type_at (reverse vs ++ (t ∷ before)) ty) (Const m) ++ g) (Atom s ws)) (map-placed_more n t vs us) all)
