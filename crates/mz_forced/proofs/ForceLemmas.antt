-- A formula has one force.
use Rattle.std.proofs.Common.{◌≡◌, ◌+◌, ◌*◌, ℕ, List, refl, ap, Bool, true, false, ◌∙◌}
use Rattle.std.specs.Prelude.{not, ◌^◌, Contains, [], ◌∷◌}
use Rattle.mz_logic.specs.Capped.{capped}
use Rattle.mz_logic.specs.Term.{Term, terms_of}
use Rattle.mz_logic.specs.Formula.{Formula}
use Rattle.mz_logic.specs.declared.disjunct.Disjunct.{Disjunct}
use Rattle.mz_ground.specs.declared.clause.Clause.{Clause}
use Rattle.mz_ground.specs.Layers.{IsGroundTerm}
use Rattle.mz_refute.proofs.CountLemmas.{one_count}
use Rattle.mz_refute.proofs.WorkLemmas.{one_work}
use Rattle.mz_forced.specs.Force.{IsForce, HaveChoices, all_indices, of_atom, of_equation, of_negation, of_conjunction, of_negated_conjunction, of_universal, of_truth, of_negated_universal}

one_power : (d : Disjunct) (cs : List Clause) (ts : List Term) (a b m n : ℕ) → HaveChoices d cs ts a m → HaveChoices d cs ts b n → capped (a ^ m) ≡ capped (b ^ n)
one_power d cs ts a b m n h k =
    let p : a ≡ b = one_count (IsGroundTerm d cs) a b h.terms k.terms in
    let q : m ≡ n = one_count (Contains (all_indices (terms_of ts))) m n h.variables k.variables in
    λ i. capped (p i ^ q i)

pub one_force : (d : Disjunct) (cs : List Clause) (p : Bool) (f : Formula) (m n : ℕ) → IsForce d cs p f m → IsForce d cs p f n → m ≡ n
one_force d cs p f m n (of_atom q s ts a b h) (of_atom r s2 us a2 b2 k) = one_power d cs ts a a2 b b2 h k
one_force d cs p f m n (of_equation q t u a b h) (of_equation r v w a2 b2 k) = one_power d cs (t ∷ u ∷ []) a a2 b b2 h k
one_force d cs p f m n (of_negation q g a h) (of_negation r k b i) = one_force d cs (not q) g a b h i
one_force d cs p f m n (of_conjunction g k a b h i) (of_conjunction g2 k2 a2 b2 h2 i2) = λ j. capped (one_force d cs true g a a2 h h2 j + one_force d cs true k b b2 i i2 j)
one_force d cs p f m n (of_negated_conjunction g k a b v w h i x y) (of_negated_conjunction g2 k2 a2 b2 v2 w2 h2 i2 x2 y2) =
    λ j. capped (one_force d cs false g a a2 h h2 j * one_work d cs false k w w2 y y2 j + one_work d cs false g v v2 x x2 j * one_force d cs false k b b2 i i2 j)
one_force d cs p f m n (of_universal b a h) (of_universal b2 a2 h2) = one_force d cs true b a a2 h h2
one_force d cs p f m n (of_truth q) (of_truth r) = refl
one_force d cs p f m n (of_negated_universal b) (of_negated_universal b2) = refl
