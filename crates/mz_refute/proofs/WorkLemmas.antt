-- A formula has one work.
use Rattle.std.proofs.Common.{◌≡◌, ◌+◌, ◌*◌, ℕ, List, refl, ap, Bool, true, false}
use Rattle.std.specs.Prelude.{not}
use Rattle.mz_logic.specs.Formula.{Formula}
use Rattle.mz_logic.specs.declared.disjunct.Disjunct.{Disjunct}
use Rattle.mz_ground.specs.declared.clause.Clause.{Clause}
use Rattle.mz_ground.specs.Layers.{IsGroundTerm}
use Rattle.mz_logic.specs.Capped.{capped}
use Rattle.mz_refute.specs.Work.{IsDisequal, IsSigned, IsWork, of_truth, of_atom, of_equation, of_disequation, of_negation, of_conjunction, of_negated_conjunction, of_universal, of_negated_universal}
use Rattle.mz_refute.proofs.CountLemmas.{one_count}

pub one_work : (d : Disjunct) (cs : List Clause) (p : Bool) (f : Formula) (m n : ℕ) → IsWork d cs p f m → IsWork d cs p f n → m ≡ n
one_work d cs p f m n (of_truth q) (of_truth r) = refl
one_work d cs p f m n (of_atom q s ts a c) (of_atom r s' us b e) = ap capped (one_count (IsSigned d cs (not q) s) a b c e)
one_work d cs p f m n (of_equation t u a c) (of_equation v w b e) = ap capped (one_count (IsDisequal d cs) a b c e)
one_work d cs p f m n (of_disequation t u a c) (of_disequation v w b e) = ap capped (one_count (IsGroundTerm d cs) a b c e)
one_work d cs p f m n (of_negation q g a h) (of_negation r k b i) = one_work d cs (not q) g a b h i
one_work d cs p f m n (of_conjunction g k a b h i) (of_conjunction g' k' a' b' h' i') = λ j. capped (one_work d cs true g a a' h h' j + one_work d cs true k b b' i i' j)
one_work d cs p f m n (of_negated_conjunction g k a b h i) (of_negated_conjunction g' k' a' b' h' i') = λ j. capped (one_work d cs false g a a' h h' j * one_work d cs false k b b' i i' j)
one_work d cs p f m n (of_universal b a h) (of_universal b' a' h') = one_work d cs true b a a' h h'
one_work d cs p f m n (of_negated_universal b) (of_negated_universal b') = refl
