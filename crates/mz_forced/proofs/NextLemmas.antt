-- A disjunct has one next disjunct.
use Rattle.std.proofs.Common.{◌≡◌, ◌++◌, List, refl, ap, sym, ◌∙◌}
use Rattle.mz_logic.specs.Formula.{Formula}
use Rattle.mz_logic.specs.declared.literal.Literal.{Literal}
use Rattle.mz_logic.specs.declared.disjunct.Disjunct.{Disjunct}
use Rattle.mz_ground.specs.declared.clause.Clause.{Clause}
use Rattle.mz_forced.specs.Added.{IsNext, IsAddable, most_added}
use Rattle.mz_forced.proofs.SortedLemmas.{one_first}

same_disjunct : (ls ms : List Literal) (us vs : List Formula) → ls ≡ ms → us ≡ vs → (n m : Disjunct) → n.literals ≡ ls → n.universals ≡ us → m.literals ≡ ms → m.universals ≡ vs → n ≡ m
same_disjunct ls ms us vs e q n m a b c f =
    let l : n.literals ≡ m.literals = a ∙ e ∙ sym c in
    let u : n.universals ≡ m.universals = b ∙ q ∙ sym f in
    λ i. record { literals = l i; universals = u i }

pub one_next : (d : Disjunct) (cs : List Clause) (n m : Disjunct) → IsNext d cs n → IsNext d cs m → n ≡ m
one_next d cs n m a b =
    same_disjunct (d.literals ++ a.added) (d.literals ++ b.added) d.universals d.universals (ap (λ ls. d.literals ++ ls) (one_first most_added (IsAddable d cs) a.added b.added a.are_added b.are_added)) refl n m a.literals a.universals b.literals b.universals
