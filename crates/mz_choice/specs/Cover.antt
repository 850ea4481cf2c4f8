-- Whether a type's adjectives are covered.
use Rattle.std.specs.Prelude.{◌≡◌, ℕ, zero, suc, true, List, [], ◌∷◌, ◌++◌, length, map, reverse, Contains, Option, Some, None}
use Rattle.mz_logic.specs.Sym.{same_sym}
use Rattle.mz_logic.specs.Term.{Term, Const}
use Rattle.mz_logic.specs.Abstraction.{term_over}
use Rattle.mz_core.specs.Guard.{adjective_literal}
use Rattle.mz_core.specs.declared.adjective.Adjective.{Adjective}
use Rattle.mz_core.specs.declared.radix.Radix.{Radix}
use Rattle.mz_core.specs.declared.soft_type.SoftType.{SoftType}
use Rattle.mz_core.specs.declared.registration.ExistentialRegistration.{ExistentialRegistration}
use Rattle.mz_context.specs.declared.context.Context.{Context}
use Rattle.mz_context.specs.Context.{next}
use Rattle.mz_ground.specs.declared.clause.Clause.{Clause}
use Rattle.mz_environment.specs.declared.environment.Environment.{Environment}
use Rattle.mz_fits.specs.Fits.{AllFit, type_at}
use Rattle.mz_fits.specs.Matching.{Fixed, unfixed, AllMatched, Accepted}
use Rattle.mz_choice.specs.Fresh.{with_fresh}
use Rattle.mz_types.specs.Chain.{IsChain}

-- adjectives fit a fresh constant of the type
abbrev pub FitFresh : List Clause → Context → SoftType → List Adjective → Type 0
FitFresh cs c ty xs = AllFit cs (with_fresh c ty).constants (map (adjective_literal (Const (next c))) xs)

-- the type's radix alone
abbrev pub bare : SoftType → SoftType
bare ty = record { adjectives = []; radix = ty.radix }

-- a fresh constant for each locus, of its type at those before it, whose constants are given the innermost first
abbrev pub with_loci : Context → List Term → List SoftType → Context
with_loci c before [] = c
with_loci c before (ty ∷ tys) = with_loci (with_fresh c (type_at before ty)) (Const (next c) ∷ before) tys

-- the constants from n on, for so many loci, the innermost first
abbrev pub loci_constants : ℕ → List Term → List SoftType → List Term
loci_constants n before [] = before
loci_constants n before (ty ∷ tys) = loci_constants (suc n) (Const n ∷ before) tys

-- terms with so many loci for the constants from n on
abbrev pub over_constants : ℕ → ℕ → List Term → List Term
over_constants n zero ts = ts
over_constants n (suc count) ts = over_constants (suc n) count (map (term_over n 0) ts)

-- the chain of a registration's type, its loci being the constants from the next one on
abbrev pub IsRegisteredChain : List Clause → Environment → Context → ExistentialRegistration → List Radix → Type 0
IsRegisteredChain cs e c r rs =
    IsChain cs e (with_fresh (with_loci c [] r.loci) (type_at (loci_constants (next c) [] r.loci) r.ty)) (Const (next (with_loci c [] r.loci))) rs

-- the type with the registered adjectives
abbrev pub registered_type : ExistentialRegistration → SoftType
registered_type r = record { adjectives = r.ty.adjectives ++ r.adjectives; radix = r.ty.radix }

-- the values of the registration's loci by which a member of the chain of its type matches the type's radix: none where the
-- arguments don't match, or leave a locus without a value, or the guards of the loci don't fit
pub data MemberMatches (cs : List Clause) (c : Context) (ty : SoftType) (r : ExistentialRegistration) (m : Radix) : Option (List Term) → Type 0 where
  unmatched : AllMatched cs c.constants (length r.loci) (unfixed (length r.loci)) (over_constants (next c) (length r.loci) m.args) ty.radix.args None → MemberMatches cs c ty r m None
  matched : (fs : Fixed) (o : Option (List Term)) →
      AllMatched cs c.constants (length r.loci) (unfixed (length r.loci)) (over_constants (next c) (length r.loci) m.args) ty.radix.args (Some fs) →
      Accepted cs c.constants r.loci fs o → MemberMatches cs c ty r m o

-- a registration covers a type by a member of the chain of its type: the member has the type's radix symbol, its arguments
-- match at values for all loci, whose guards fit, and the type's adjectives fit from the registered guard
pub record CoversAt (cs : List Clause) (c : Context) (ty : SoftType) (r : ExistentialRegistration) (m : Radix) (values : List Term) : Type 0 where
  pub symbol : same_sym m.sym ty.radix.sym ≡ true
  pub matches : MemberMatches cs c ty r m (Some values)
  pub fit : FitFresh cs c (type_at (reverse values) (registered_type r)) ty.adjectives

-- with some values
abbrev pub Covers : List Clause → Context → SoftType → ExistentialRegistration → Radix → Type 0
Covers cs c ty r m = (values : List Term) × CoversAt cs c ty r m values

-- by some of these members
abbrev pub SomeCovers : List Clause → Context → SoftType → ExistentialRegistration → List Radix → Type 0
SomeCovers cs c ty r ms = (m : Radix) × Contains ms m × Covers cs c ty r m

-- by some member of the chain of its type
abbrev pub CoversByChain : List Clause → Environment → Context → SoftType → ExistentialRegistration → Type 0
CoversByChain cs e c ty r = (ms : List Radix) × IsRegisteredChain cs e c r ms × SomeCovers cs c ty r ms

-- some of these registrations does
abbrev pub HasCover : List Clause → Environment → Context → SoftType → List ExistentialRegistration → Type 0
HasCover cs e c ty rs = (r : ExistentialRegistration) × Contains rs r × CoversByChain cs e c ty r

-- a type without adjectives needs no cover; else its adjectives fit from the guard of its radix, or a registration that
-- is let in covers it
pub data IsCovered (cs : List Clause) (e : Environment) (c : Context) (ty : SoftType) : Type 0 where
  no_adjectives : ty.adjectives ≡ [] → IsCovered cs e c ty
  by_radix : FitFresh cs c (bare ty) ty.adjectives → IsCovered cs e c ty
  by_registration : HasCover cs e c ty e.registrations → IsCovered cs e c ty
