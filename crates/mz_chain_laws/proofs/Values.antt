-- Values that are accepted.
use Rattle.std.proofs.Common.{◌≡◌, List, [], subst, Option, Some}
use Rattle.mz_logic.specs.Term.{Term}
use Rattle.mz_core.specs.declared.soft_type.SoftType.{SoftType}
use Rattle.mz_context.specs.declared.constants.Constant.{Constant}
use Rattle.mz_ground.specs.declared.clause.Clause.{Clause}
use Rattle.mz_fits.specs.Fits.{LociFit}
use Rattle.mz_fits.specs.Matching.{Fixed, values_of, Accepted, not_fixed, fitting, unfit}
use Rattle.mz_fits.proofs.OneMatch.{some-inj, none_some}

-- values that are accepted are those of all loci, and fit
pub accepted_values : (cs : List Clause) (ks : List (Option Constant)) (loci : List SoftType) (fs : Fixed) (o : Option (List Term)) → Accepted cs ks loci fs o → (vs : List Term) → o ≡ Some vs → (values_of fs ≡ Some vs) × LociFit cs ks [] loci vs
accepted_values cs ks loci fs o (not_fixed h) vs e = absurd (none_some vs e)
accepted_values cs ks loci fs o (fitting ts h l) vs e =
    let same : ts ≡ vs = some-inj ts vs e in
    (subst (λ (us : List Term). values_of fs ≡ Some us) same h, subst (λ (us : List Term). LociFit cs ks [] loci us) same l)
accepted_values cs ks loci fs o (unfit ts h l) vs e = absurd (none_some vs e)
