-- Matching of formal terms over loci, which fixes loci.
use Rattle.std.specs.Prelude.{◌≡◌, ◌≤◌, ◌<◌, ◌-◌, ℕ, zero, suc, Bool, false, nat_eq, List, [], ◌∷◌, ◌++◌, Option, Some, None, slice_get, slice_set}
use Rattle.mz_logic.specs.Sym.{same_sym}
use Rattle.mz_logic.specs.declared.sym.Sym.{Sym}
use Rattle.mz_logic.specs.Term.{Term, Bound, Const, App, terms_of}
use Rattle.mz_core.specs.declared.soft_type.SoftType.{SoftType}
use Rattle.mz_context.specs.declared.constants.Constant.{Constant}
use Rattle.mz_ground.specs.declared.clause.Clause.{Clause}
use Rattle.mz_fits.specs.Fits.{AreEqualBy, LociFit}

-- for each locus in order the term to which it is fixed, if it is
abbrev pub Fixed : Type 0
Fixed = List (Option Term)

-- nothing is fixed
abbrev pub unfixed : ℕ → Fixed
unfixed zero = []
unfixed (suc n) = unfixed n ++ None ∷ []

-- a term for the locus at a place: it fixes the locus, or is the same as what the locus is fixed to, or equal by the
-- facts. The last index is what is fixed behind it, or none where it doesn't match.
pub data Placed (cs : List Clause) (ks : List (Option Constant)) (fs : Fixed) (place : ℕ) (t : Term) : Option Fixed → Type 0 where
  fixes : slice_get fs place ≡ Some None → Placed cs ks fs place t (Some (slice_set fs place (Some t)))
  equal : (u : Term) → slice_get fs place ≡ Some (Some u) → AreEqualBy cs ks u t → Placed cs ks fs place t (Some fs)
  unequal : (u : Term) → slice_get fs place ≡ Some (Some u) → ¬ AreEqualBy cs ks u t → Placed cs ks fs place t None
  no_place : slice_get fs place ≡ None → Placed cs ks fs place t None

-- whether a formal term that is no locus may match another, by their heads
abbrev pub heads_agree : Term → Term → Bool
heads_agree (Bound i) t = false
heads_agree (Const m) (Bound j) = false
heads_agree (Const m) (Const n) = nat_eq m n
heads_agree (Const m) (App r ts) = false
heads_agree (App s us) (Bound j) = false
heads_agree (App s us) (Const n) = false
heads_agree (App s us) (App r ts) = same_sym s r

-- a formal term under `scope` loci beside a term: what is fixed behind it, or none where they don't match
mutual
  pub data Matched (cs : List Clause) (ks : List (Option Constant)) (scope : ℕ) : Fixed → Term → Term → Option Fixed → Type 0 where
    -- a locus takes the term
    locus : (fs : Fixed) (i : ℕ) (t : Term) (o : Option Fixed) → i < scope → Placed cs ks fs (scope - suc i) t o → Matched cs ks scope fs (Bound i) t o
    no_locus : (fs : Fixed) (i : ℕ) (t : Term) → scope ≤ i → Matched cs ks scope fs (Bound i) t None
    -- other terms have the same symbols in the same places
    constant : (fs : Fixed) (n : ℕ) → Matched cs ks scope fs (Const n) (Const n) (Some fs)
    other_constant : (fs : Fixed) (n : ℕ) (t : Term) → heads_agree (Const n) t ≡ false → Matched cs ks scope fs (Const n) t None
    symbol : (fs : Fixed) (s : Sym) (us ts : List Term) (o : Option Fixed) → AllMatched cs ks scope fs us ts o → Matched cs ks scope fs (App s (terms_of us)) (App s (terms_of ts)) o
    other_symbol : (fs : Fixed) (s : Sym) (us : List Term) (t : Term) → heads_agree (App s (terms_of us)) t ≡ false → Matched cs ks scope fs (App s (terms_of us)) t None

  -- lists of them, pair by pair
  pub data AllMatched (cs : List Clause) (ks : List (Option Constant)) (scope : ℕ) : Fixed → List Term → List Term → Option Fixed → Type 0 where
    all_matched : (fs : Fixed) → AllMatched cs ks scope fs [] [] (Some fs)
    one_more : (fs between : Fixed) (u t : Term) (us ts : List Term) (o : Option Fixed) →
        Matched cs ks scope fs u t (Some between) → AllMatched cs ks scope between us ts o → AllMatched cs ks scope fs (u ∷ us) (t ∷ ts) o
    one_fails : (fs : Fixed) (u t : Term) (us ts : List Term) → Matched cs ks scope fs u t None → AllMatched cs ks scope fs (u ∷ us) (t ∷ ts) None
    too_few : (fs : Fixed) (t : Term) (ts : List Term) → AllMatched cs ks scope fs [] (t ∷ ts) None
    too_many : (fs : Fixed) (u : Term) (us : List Term) → AllMatched cs ks scope fs (u ∷ us) [] None

-- the values, where each locus is fixed
abbrev pub with_value : Term → Option (List Term) → Option (List Term)
with_value t None = None
with_value t (Some ts) = Some (t ∷ ts)

abbrev pub values_of : Fixed → Option (List Term)
values_of [] = Some []
values_of (None ∷ fs) = None
values_of (Some t ∷ fs) = with_value t (values_of fs)

-- after all matches: the values, where each locus is fixed and the guards of all of them fit
pub data Accepted (cs : List Clause) (ks : List (Option Constant)) (loci : List SoftType) (fs : Fixed) : Option (List Term) → Type 0 where
  not_fixed : values_of fs ≡ None → Accepted cs ks loci fs None
  fitting : (ts : List Term) → values_of fs ≡ Some ts → LociFit cs ks [] loci ts → Accepted cs ks loci fs (Some ts)
  unfit : (ts : List Term) → values_of fs ≡ Some ts → ¬ LociFit cs ks [] loci ts → Accepted cs ks loci fs None
