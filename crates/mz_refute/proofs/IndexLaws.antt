-- The index of facts, and what is answered by it.
use Rattle.std.proofs.Common.{◌≡◌, ℕ, Bool, true, false, List, length, sym, ◌∙◌, ap, subst}
use Rattle.mz_logic.specs.Formula.{Formula}
use Rattle.mz_logic.specs.declared.disjunct.Disjunct.{Disjunct}
use Rattle.mz_ground.specs.Ground.{ground_terms}
use Rattle.mz_ground.specs.FactSet.{FactView, HasFacts}
use Rattle.mz_ground.specs.declared.clause.Clause.{Clause}
use Rattle.mz_ground.specs.declared.ground_part.Ground.{Ground}
use Rattle.mz_refute.specs.declared.answer.Answer.{Answer}
use Rattle.mz_refute.specs.declared.fact_index.FactIndex.{FactIndex}
use Rattle.mz_refute.specs.Answered.{IsAnswer}
use Rattle.mz_refute.specs.Entries.{HasEntries, HaveSameMembers}
use Rattle.mz_refute.specs.HoldsFacts.{HoldsFacts, entries_of}
use Rattle.mz_refute.specs.FactIndex.{IsFactIndex, AreClasses, AreSigns, AreDisequal}
use Rattle.mz_refute.specs.RowsWork.{RowsAnswer}
use Rattle.mz_match.specs.Table.{count_of}
use Rattle.mz_refute.specs.Tabled.{IsCounted}
use Rattle.mz_refute.specs.TermClass.{class_in}
use Rattle.mz_refute.proofs.AnswerLaws.{answer_by_rows}
use Rattle.mz_refute.proofs.HoldsLaws.{held_facts}
use Rattle.mz_refute.proofs.TabledLaws.{tabled}
use Rattle.mz_refute.proofs.CountLaws.{counted}

pub index_answer : (d : Disjunct) (cs : List Clause) (x : FactIndex) → IsFactIndex d cs x → (values : List ℕ) → values ≡ x.values.items → (u : Formula) (r : Answer) → RowsAnswer x.table x.terms values d.universals u r → IsAnswer d cs u r
index_answer d cs x h values e u r a =
    answer_by_rows d cs (class_in (ground_terms h.part) h.classes) x.table x.terms x.values.items
    (tabled d cs h.part h.classes h.positive h.negative h.disequal h.held x.table h.entries x.values.items h.values)
    (subst (λ (n : ℕ). IsCounted d cs (count_of x.table) n) (sym h.terms) (counted d cs h.part h.classes h.positive h.negative h.disequal h.held x.table h.entries))
    u r (subst (λ (vs : List ℕ). RowsAnswer x.table x.terms vs d.universals u r) e a)

pub index_made : (v : FactView) (x : FactIndex) (classes : List ℕ) (positive negative disequal : List Bool) (g : Ground) (ws us : List ℕ) (ps ns qs : List Bool) (n : ℕ) → AreClasses v classes → AreSigns v true positive → AreSigns v false negative → AreDisequal v disequal → g ≡ v.part → ws ≡ classes → ps ≡ positive → ns ≡ negative → qs ≡ disequal → us ≡ classes → HaveSameMembers x.values.items us → n ≡ length classes → x.terms ≡ n → HasEntries x.table (entries_of g ws ps ns qs) → (d : Disjunct) (cs : List Clause) → HasFacts d cs v → IsFactIndex d cs x
index_made v x classes positive negative disequal g ws us ps ns qs n c p o q eg ew ep en eq eu ev el et h d cs f =
    record {
      part = v.part;
      classes = classes;
      positive = positive;
      negative = negative;
      disequal = disequal;
      held = held_facts d cs v classes positive negative disequal c p o q f;
      entries = subst (λ y. HasEntries x.table y) (λ i. entries_of (eg i) (ew i) (ep i) (en i) (eq i)) h;
      values = subst (λ (vs : List ℕ). HaveSameMembers x.values.items vs) eu ev;
      terms = et ∙ el;
    }

-- the lists are as long as those of the ground part
pub same_length : {X Y : Type 0} (xs ys : List X) (zs ws : List Y) → xs ≡ ys → length ys ≡ length ws → zs ≡ ws → length xs ≡ length zs
same_length xs ys zs ws e l h = ap length e ∙ l ∙ sym (ap length h)
