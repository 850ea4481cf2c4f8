-- The lists taken of facts hold the facts.
use Rattle.std.proofs.Common.{◌≡◌, ℕ, Bool, true, false, List, ap, sym, ◌∙◌, Option, Some, None}
use Rattle.std.specs.Prelude.{◌↔◌, slice_get}
use Rattle.std.proofs.lemmas.Option.{slice_get_within}
use Rattle.mz_logic.specs.declared.literal.Literal.TheVariants.{Eq}
use Rattle.mz_logic.specs.declared.disjunct.Disjunct.{Disjunct}
use Rattle.mz_ground.specs.Ground.{ground_terms, term_at}
use Rattle.mz_ground.specs.Facts.{Fact}
use Rattle.mz_ground.specs.FactSet.{FactView, HasFacts}
use Rattle.mz_ground.specs.declared.clause.Clause.{Clause}
use Rattle.mz_refute.specs.HoldsFacts.{HoldsFacts}
use Rattle.mz_refute.specs.FactIndex.{AreClasses, AreSigns, AreDisequal}

abbrev flag_or : Bool → Option Bool → Bool
flag_or b None = b
flag_or b (Some c) = c

some_flag : (b : Bool) (o : Option Bool) (P : Type 0) → o ≡ Some b → ((b ≡ true) ↔ P) → (o ≡ Some true) ↔ P
some_flag b o P e h = (λ q. h.0 (ap (flag_or b) (sym e ∙ q)), λ p. e ∙ ap (λ x. Some x) (h.1 p))

pub held_facts : (d : Disjunct) (cs : List Clause) (v : FactView) (classes : List ℕ) (positive negative disequal : List Bool) → AreClasses v classes → AreSigns v true positive → AreSigns v false negative → AreDisequal v disequal → HasFacts d cs v → HoldsFacts d cs v.part classes positive negative disequal
held_facts d cs v classes positive negative disequal c p n q h =
    record {
      ground = h.ground;
      class_count = c.count;
      positive_count = p.count;
      negative_count = n.count;
      disequal_count = q.count;
      equal = λ i j li lj.
          let k : (v.class i ≡ v.class j) ↔ Fact d cs (Eq true (term_at (ground_terms v.part) i) (term_at (ground_terms v.part) j)) = h.equal i j li lj in
          (λ e. k.0 (sym (c.each i li) ∙ e ∙ c.each j lj), λ f. c.each i li ∙ k.1 f ∙ sym (c.each j lj));
      holds = λ k a at. some_flag (v.signed true k) (slice_get positive k) _ (p.each k (slice_get_within v.part.atoms k a at)) (h.signed true k a at);
      fails = λ k a at. some_flag (v.signed false k) (slice_get negative k) _ (n.each k (slice_get_within v.part.atoms k a at)) (h.signed false k a at);
      differ = λ k e at. some_flag (v.disequal k) (slice_get disequal k) _ (q.each k (slice_get_within v.part.equations k e at)) (h.disequal k e at);
    }
