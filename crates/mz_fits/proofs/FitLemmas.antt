-- What the code of fits tells.
use Rattle.std.proofs.Common.{◌≡◌, ℕ, zero, suc, List, [], ◌∷◌, refl, subst, sym, Bool, true, false, arith, length}
use Rattle.std.specs.Prelude.{◌↔◌, IsTrue, nat_eq, Contains, Option}
use Rattle.mz_logic.specs.Term.{Term}
use Rattle.std.proofs.lemmas.Bool.{eqb-true}
use Rattle.std.proofs.lemmas.Bool.{false≢true}
pub use Rattle.mz_std_laws.proofs.Truth.{not_both}
use Rattle.mz_logic.specs.declared.literal.Literal.{Literal}
use Rattle.mz_logic.specs.declared.literal.Literal.TheVariants.{Eq}
use Rattle.mz_core.specs.Guard.{guard_literals}
use Rattle.mz_core.specs.declared.soft_type.SoftType.{SoftType}
use Rattle.mz_context.specs.declared.constants.Constant.{Constant}
use Rattle.mz_ground.specs.declared.clause.Clause.{Clause}
use Rattle.mz_fits.specs.Fits.{type_at, LiteralFits, AllFit, none_left, and_fits, TypeFits, AreEqualBy, the_same, by_facts, LociFit, no_loci, and_locus}

pub empty : {A : Type 0} (xs : List A) → length xs ≡ 0 → xs ≡ []
empty [] h = refl
empty (x ∷ xs) h = absurd (omega (arith, h))

pub told_same : (cs : List Clause) (ks : List (Option Constant)) (t u : Term) (b : Bool) → IsTrue b ↔ (t ≡ u) → b ≡ true → AreEqualBy cs ks t u
told_same cs ks t u b i h = the_same (i.0 h)

pub told_other : (cs : List Clause) (ks : List (Option Constant)) (t u : Term) (a b : Bool) → IsTrue a ↔ (t ≡ u) → a ≡ false → IsTrue b ↔ LiteralFits cs ks (Eq true t u) → IsTrue b ↔ AreEqualBy cs ks t u
told_other cs ks t u a b i h j = (λ x. by_facts (j.0 x), back)
  where
    back : AreEqualBy cs ks t u → IsTrue b
    back (the_same p) = absurd (not_both a h (i.1 p))
    back (by_facts f) = j.1 f

pub ruleset equal_rules = (told_same, told_other)

first_fits : (cs : List Clause) (ks : List (Option Constant)) (before : List Term) (ty : SoftType) (tys : List SoftType) (t : Term) (ts : List Term) → LociFit cs ks before (ty ∷ tys) (t ∷ ts) → TypeFits cs ks t (type_at before ty)
first_fits cs ks before ty tys t ts (and_locus b y ys u us f h) = f

others_fit : (cs : List Clause) (ks : List (Option Constant)) (before : List Term) (ty : SoftType) (tys : List SoftType) (t : Term) (ts : List Term) → LociFit cs ks before (ty ∷ tys) (t ∷ ts) → LociFit cs ks (t ∷ before) tys ts
others_fit cs ks before ty tys t ts (and_locus b y ys u us f h) = h

pub told_value : (cs : List Clause) (ks : List (Option Constant)) (before : List Term) (ty at : SoftType) (t : Term) (b : Bool) → at ≡ type_at before ty → IsTrue b ↔ TypeFits cs ks t at → IsTrue b ↔ TypeFits cs ks t (type_at before ty)
told_value cs ks before ty at t b same i = subst (λ x. IsTrue b ↔ TypeFits cs ks t x) same i

-- the loci that are left fit just where all do
pub told_unfit : (cs : List Clause) (ks : List (Option Constant)) (before : List Term) (ty : SoftType) (loci tys more : List SoftType) (t : Term) (values ts us : List Term) (b : Bool) → tys ≡ ty ∷ more → ts ≡ t ∷ us → IsTrue b ↔ TypeFits cs ks t (type_at before ty) → b ≡ false → LociFit cs ks before tys ts ↔ LociFit cs ks [] loci values → IsTrue false ↔ LociFit cs ks [] loci values
told_unfit cs ks before ty loci tys more t values ts us b el ev i h w =
    (λ x. absurd (false≢true x), λ f. absurd (not_both b h (i.1 (first_fits cs ks before ty more t us (subst (λ xs. LociFit cs ks before (ty ∷ more) xs) ev (subst (λ xs. LociFit cs ks before xs ts) el (w.1 f)))))))

pub told_next : (cs : List Clause) (ks : List (Option Constant)) (before after : List Term) (ty : SoftType) (loci tys more : List SoftType) (t : Term) (values ts us : List Term) (b : Bool) → tys ≡ ty ∷ more → ts ≡ t ∷ us → IsTrue b ↔ TypeFits cs ks t (type_at before ty) → b ≡ true → after ≡ t ∷ before → LociFit cs ks before tys ts ↔ LociFit cs ks [] loci values → LociFit cs ks after more us ↔ LociFit cs ks [] loci values
told_next cs ks before after ty loci tys more t values ts us b el ev i h same w = (forward, back)
  where
    forward : LociFit cs ks after more us → LociFit cs ks [] loci values
    forward f = w.0 (subst (λ xs. LociFit cs ks before xs ts) (sym el) (subst (λ xs. LociFit cs ks before (ty ∷ more) xs) (sym ev) (and_locus before ty more t us (i.0 h) (subst (λ xs. LociFit cs ks xs more us) same f))))

    back : LociFit cs ks [] loci values → LociFit cs ks after more us
    back f = subst (λ xs. LociFit cs ks xs more us) (sym same) (others_fit cs ks before ty more t us (subst (λ xs. LociFit cs ks before (ty ∷ more) xs) ev (subst (λ xs. LociFit cs ks before xs ts) el (w.1 f))))

no_more : (cs : List Clause) (ks : List (Option Constant)) (before : List Term) (t : Term) (ts : List Term) → LociFit cs ks before [] (t ∷ ts) → ⊥
no_more cs ks before t ts f = elim f [ ]

no_fewer : (cs : List Clause) (ks : List (Option Constant)) (before : List Term) (ty : SoftType) (tys : List SoftType) → LociFit cs ks before (ty ∷ tys) [] → ⊥
no_fewer cs ks before ty tys f = elim f [ ]

at_end : (cs : List Clause) (ks : List (Option Constant)) (before values : List Term) → IsTrue (nat_eq (length values) 0) ↔ LociFit cs ks before [] values
at_end cs ks before [] = (λ x. no_loci before, λ f. refl)
at_end cs ks before (t ∷ ts) = (λ x. let z : length (t ∷ ts) ≡ 0 = eqb-true (length (t ∷ ts)) 0 x in absurd (omega (arith, z)), λ f. absurd (no_more cs ks before t ts f))

pub told_end : (cs : List Clause) (ks : List (Option Constant)) (before values ts : List Term) (loci tys : List SoftType) → length tys ≡ 0 → LociFit cs ks before tys ts ↔ LociFit cs ks [] loci values → IsTrue (nat_eq (length ts) 0) ↔ LociFit cs ks [] loci values
told_end cs ks before values ts loci tys el w =
    let e : IsTrue (nat_eq (length ts) 0) ↔ LociFit cs ks before tys ts = subst (λ xs. IsTrue (nat_eq (length ts) 0) ↔ LociFit cs ks before xs ts) (sym (empty _ el)) (at_end cs ks before ts) in
    (λ x. w.0 (e.0 x), λ f. e.1 (w.1 f))

pub told_fewer : (cs : List Clause) (ks : List (Option Constant)) (before values ts : List Term) (loci tys more : List SoftType) (ty : SoftType) → tys ≡ ty ∷ more → length ts ≡ 0 → LociFit cs ks before tys ts ↔ LociFit cs ks [] loci values → IsTrue false ↔ LociFit cs ks [] loci values
told_fewer cs ks before values ts loci tys more ty el ev w =
    (λ x. absurd (false≢true x), λ f. absurd (no_fewer cs ks before ty more (subst (λ xs. LociFit cs ks before (ty ∷ more) xs) (empty _ ev) (subst (λ xs. LociFit cs ks before xs ts) el (w.1 f)))))

pub told_first : (cs : List Clause) (ks : List (Option Constant)) (before values : List Term) (loci : List SoftType) → before ≡ [] → LociFit cs ks before loci values ↔ LociFit cs ks [] loci values
told_first cs ks before values loci e = subst (λ xs. LociFit cs ks before loci values ↔ LociFit cs ks xs loci values) e ((λ f. f, λ f. f))

pub ruleset loci_rules = (told_unfit, told_next, told_end, told_fewer, told_first)

first_of : (cs : List Clause) (ks : List (Option Constant)) (l : Literal) (ls : List Literal) → AllFit cs ks (l ∷ ls) → LiteralFits cs ks l
first_of cs ks l ls (and_fits m ms f h) = f

others_of : (cs : List Clause) (ks : List (Option Constant)) (l : Literal) (ls : List Literal) → AllFit cs ks (l ∷ ls) → AllFit cs ks ls
others_of cs ks l ls (and_fits m ms f h) = h

-- the literals that are left fit just where all do
pub told_all_fit : (cs : List Clause) (ks : List (Option Constant)) (ls rest : List Literal) → length rest ≡ 0 → AllFit cs ks rest ↔ AllFit cs ks ls → IsTrue true ↔ AllFit cs ks ls
told_all_fit cs ks ls rest er w = (λ x. w.0 (subst (AllFit cs ks) (sym (empty _ er)) none_left), λ h. refl)

pub told_one_unfit : (cs : List Clause) (ks : List (Option Constant)) (l : Literal) (ls rest others : List Literal) (b : Bool) → rest ≡ l ∷ others → IsTrue b ↔ LiteralFits cs ks l → b ≡ false → AllFit cs ks rest ↔ AllFit cs ks ls → IsTrue false ↔ AllFit cs ks ls
told_one_unfit cs ks l ls rest others b er i h w = (λ x. absurd (false≢true x), λ k. absurd (not_both b h (i.1 (first_of cs ks l others (subst (AllFit cs ks) er (w.1 k))))))

pub told_one_fits : (cs : List Clause) (ks : List (Option Constant)) (l : Literal) (ls rest others : List Literal) (b : Bool) → rest ≡ l ∷ others → IsTrue b ↔ LiteralFits cs ks l → b ≡ true → AllFit cs ks rest ↔ AllFit cs ks ls → AllFit cs ks others ↔ AllFit cs ks ls
told_one_fits cs ks l ls rest others b er i h w =
    (λ k. w.0 (subst (AllFit cs ks) (sym er) (and_fits l others (i.0 h) k)), λ k. others_of cs ks l others (subst (AllFit cs ks) er (w.1 k)))

pub told_none_asked : (cs : List Clause) (ks : List (Option Constant)) (ls : List Literal) → AllFit cs ks ls ↔ AllFit cs ks ls
told_none_asked cs ks ls = (λ k. k, λ k. k)

pub ruleset each_rules = (told_all_fit, told_one_unfit, told_one_fits, told_none_asked)

pub told_fits : (cs : List Clause) (ks : List (Option Constant)) (t : Term) (ty : SoftType) (ls : List Literal) (b : Bool) → ls ≡ guard_literals ty t → IsTrue b ↔ AllFit cs ks ls → IsTrue b ↔ TypeFits cs ks t ty
unfolding TypeFits
told_fits cs ks t ty ls b same h = subst (λ xs. IsTrue b ↔ AllFit cs ks xs) same h

-- a literal among those that fit
pub one_of : (cs : List Clause) (ks : List (Option Constant)) (ls : List Literal) → AllFit cs ks ls → (l : Literal) → Contains ls l → LiteralFits cs ks l
one_of cs ks ls none_left l k = absurd (omega (arith, k.1))
one_of cs ks ls (and_fits m ms f h) l (zero, lt, eq) = subst (LiteralFits cs ks) eq f
one_of cs ks ls (and_fits m ms f h) l (suc n, lt, eq) = one_of cs ks ms h l (n, omega (arith, lt), eq)
