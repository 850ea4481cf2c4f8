-- What the code of steps tells.
use Rattle.std.proofs.Common.{◌≡◌, ◌<◌, ◌-◌, ℕ, zero, suc, List, [], ◌∷◌, refl, sym, ap, ◌∙◌, subst, Bool, true, false, arith, Option, Some, None}
use Rattle.std.specs.Prelude.{◌↔◌, IsTrue, nat_eq}
use Rattle.std.proofs.lemmas.Bool.{eqb-true, eqb-false}
use Rattle.mz_std_laws.proofs.Truth.{not_both}
use Rattle.mz_core.specs.Statement.{Statement}
use Rattle.mz_context.specs.declared.constants.Constant.{Constant}
use Rattle.mz_ground.specs.declared.clause.Clause.{Clause}
use Rattle.mz_environment.specs.declared.unfoldings.Unfolding.{Unfolding}
use Rattle.mz_thesis.specs.Unfolding.{UnfoldsTo}
use Rattle.mz_thesis.specs.Rows.{Admits, thesis_after}
use Rattle.mz_thesis.specs.Applied as applied
use Rattle.mz_thesis.specs.Applied.{first_part, with_first_part, Unfolded, Applied}
use Rattle.mz_thesis.specs.declared.step.Step.{Step}

pub told_unfolded : (cs : List Clause) (ks : List (Option Constant)) (us : List Unfolding) (thesis d s : Statement) (o : Option Statement) → UnfoldsTo cs ks us (first_part thesis) o → o ≡ Some d → s ≡ with_first_part d thesis → Unfolded cs ks us thesis (Some s)
told_unfolded cs ks us thesis d s o h eo same =
    subst (λ r. Unfolded cs ks us thesis (Some r)) (sym same) (applied.unfolded d (subst (UnfoldsTo cs ks us (first_part thesis)) eo h))

pub told_as_it_is : (cs : List Clause) (ks : List (Option Constant)) (us : List Unfolding) (thesis : Statement) (o : Option Statement) → UnfoldsTo cs ks us (first_part thesis) o → o ≡ None → Unfolded cs ks us thesis None
told_as_it_is cs ks us thesis o h eo = applied.as_it_is (subst (UnfoldsTo cs ks us (first_part thesis)) eo h)

pub ruleset unfolded_rules = (told_unfolded, told_as_it_is)

pub told_fits : (cs : List Clause) (ks : List (Option Constant)) (us : List Unfolding) (most : ℕ) (thesis s : Statement) (step : Step) (b : Bool) → IsTrue b ↔ Admits cs ks thesis step → b ≡ true → s ≡ thesis_after thesis step → Applied cs ks us most thesis step (Some s)
told_fits cs ks us most thesis s step b i eb same =
    subst (λ r. Applied cs ks us most thesis step (Some r)) (sym same) (applied.fits most thesis step (i.0 eb))

refused : (cs : List Clause) (ks : List (Option Constant)) (thesis : Statement) (step : Step) (b : Bool) → IsTrue b ↔ Admits cs ks thesis step → b ≡ false → ¬ Admits cs ks thesis step
refused cs ks thesis step b i eb h = not_both b eb (i.1 h)

suc-one_more : (most k : ℕ) → nat_eq most 0 ≡ false → k ≡ most - 1 → suc k ≡ most
suc-one_more zero k h e = absurd (eqb-false zero 0 h refl)
suc-one_more (suc n) k h e = omega (arith, e)

pub told_no_more : (cs : List Clause) (ks : List (Option Constant)) (us : List Unfolding) (most : ℕ) (thesis : Statement) (step : Step) (b : Bool) → IsTrue b ↔ Admits cs ks thesis step → b ≡ false → nat_eq most 0 ≡ true → Applied cs ks us most thesis step None
told_no_more cs ks us most thesis step b i eb h =
    subst (λ n. Applied cs ks us n thesis step None) (sym (eqb-true most 0 h)) (applied.no_unfolding_left thesis step (refused cs ks thesis step b i eb))

pub told_nothing : (cs : List Clause) (ks : List (Option Constant)) (us : List Unfolding) (most : ℕ) (thesis : Statement) (step : Step) (b : Bool) (o : Option Statement) → IsTrue b ↔ Admits cs ks thesis step → b ≡ false → nat_eq most 0 ≡ false → Unfolded cs ks us thesis o → o ≡ None → Applied cs ks us most thesis step None
told_nothing cs ks us most thesis step b o i eb h u eo =
    subst (λ n. Applied cs ks us n thesis step None) (suc-one_more most (most - 1) h refl) (applied.unfolds_to_nothing (most - 1) thesis step (refused cs ks thesis step b i eb) (subst (Unfolded cs ks us thesis) eo u))

pub told_unfolds : (cs : List Clause) (ks : List (Option Constant)) (us : List Unfolding) (most k : ℕ) (thesis next : Statement) (step : Step) (b : Bool) (o p : Option Statement) → IsTrue b ↔ Admits cs ks thesis step → b ≡ false → nat_eq most 0 ≡ false → Unfolded cs ks us thesis o → o ≡ Some next → k ≡ most - 1 → Applied cs ks us k next step p → Applied cs ks us most thesis step p
told_unfolds cs ks us most k thesis next step b o p i eb h u eo ek a =
    subst (λ n. Applied cs ks us n thesis step p) (suc-one_more most k h ek) (applied.unfolds k thesis next step p (refused cs ks thesis step b i eb) (subst (Unfolded cs ks us thesis) eo u) a)

pub ruleset applied_rules = (told_fits, told_no_more, told_nothing, told_unfolds)
