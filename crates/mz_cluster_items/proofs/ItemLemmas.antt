-- What the code of items tells.
use Rattle.std.proofs.Common.{◌≡◌, ◌∙◌, ◌<◌, ◌+◌, ◌-◌, ℕ, zero, suc, Bool, true, false, sym, ap, arith}
use Rattle.std.specs.Prelude.{◌&&◌}
use Rattle.mz_clusters.specs.declared.headings.ReadCluster.{ReadCluster}
use Rattle.mz_cluster_items.specs.Items.{occurs_in_cluster, all_occur}

-- loci, from the last one on
pub told_occurs : (least left less : ℕ) (x : ReadCluster) (b all : Bool) → 0 < left → less ≡ left - 1 → b ≡ occurs_in_cluster (least + less) x → b ≡ true → all_occur least left x ≡ all → all_occur least less x ≡ all
told_occurs least zero less x b all lt el eb et h = absurd (omega (arith, lt))
told_occurs least (suc m) less x b all lt el eb et h =
    let is : less ≡ m = omega (arith, el) in
    let one : occurs_in_cluster (least + m) x ≡ true = ap (λ k. occurs_in_cluster (least + k) x) (sym is) ∙ (sym eb ∙ et) in
    ap (λ k. all_occur least k x) is ∙ (sym (ap (λ (y : Bool). y && all_occur least m x) one) ∙ h)

pub told_lacking : (least left less : ℕ) (x : ReadCluster) (b all : Bool) → 0 < left → less ≡ left - 1 → b ≡ occurs_in_cluster (least + less) x → b ≡ false → all_occur least left x ≡ all → false ≡ all
told_lacking least zero less x b all lt el eb et h = absurd (omega (arith, lt))
told_lacking least (suc m) less x b all lt el eb et h =
    let is : less ≡ m = omega (arith, el) in
    let one : occurs_in_cluster (least + m) x ≡ false = ap (λ k. occurs_in_cluster (least + k) x) (sym is) ∙ (sym eb ∙ et) in
    sym (ap (λ (y : Bool). y && all_occur least m x) one) ∙ h

pub told_all : (least left : ℕ) (x : ReadCluster) (all : Bool) → left ≡ 0 → all_occur least left x ≡ all → true ≡ all
told_all least left x all el h = sym (ap (λ k. all_occur least k x) el) ∙ h

pub ruleset occur_rules = (told_occurs, told_lacking, told_all)
