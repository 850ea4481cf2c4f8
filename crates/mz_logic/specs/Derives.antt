-- The rules of derivations, and what is derivable.
use Rattle.std.specs.Prelude.{◌≡◌, ◌≤◌, ◌-◌, true, false, List, [], ◌∷◌, map, Some, slice_get, All}
use Rattle.std.specs.List.{list_any}
use Rattle.mz_logic.specs.Term.{Const}
use Rattle.mz_logic.specs.Formula as formula
use Rattle.mz_logic.specs.Formula.{Formula}
use Rattle.mz_logic.specs.Formulas.{IsMember, sequent}
use Rattle.mz_logic.specs.Indices.{closed}
use Rattle.mz_logic.specs.Constants.{occurs_in_formula}
use Rattle.mz_logic.specs.Substitution.{body_at}
use Rattle.mz_logic.specs.Forms.{IfEq, IfNot, IfAnd, IfAll}
use Rattle.mz_logic.specs.Negation.{falsity}
use Rattle.mz_logic.specs.Instance.{instance}
use Rattle.mz_logic.specs.Replacement.{Replaced}
use Rattle.mz_logic.specs.Derivation.{Derivation, Derivations, Node, none, more, root, roots}
use Rattle.mz_logic.specs.declared.sequent.Sequent.{Sequent}
use Rattle.mz_logic.specs.declared.rule.Rule.{Rule}
use Rattle.mz_logic.specs.declared.rule.Rule.TheVariants.{Hypothesis, Weaken, Truth, AndIn, AndLeft, AndRight, NotIn, NotOut, Classical, AllIn, AllOut, Reflexive, Replace, Cut, Axiom, Instance}

-- there is no parent
abbrev pub IfNone : List Sequent → Type 0 → Type 0
IfNone [] P = P
IfNone (p ∷ ps) P = ⊥

-- there is one parent
abbrev pub IfOne : List Sequent → (Sequent → Type 0) → Type 0
IfOne [] P = ⊥
IfOne (p ∷ []) P = P p
IfOne (p ∷ q ∷ ps) P = ⊥

-- there are two parents
abbrev pub IfTwo : List Sequent → (Sequent → Sequent → Type 0) → Type 0
IfTwo [] P = ⊥
IfTwo (p ∷ []) P = ⊥
IfTwo (p ∷ q ∷ []) P = P p q
IfTwo (p ∷ q ∷ r ∷ ps) P = ⊥

-- the parent p gives f from the premises of s
unfoldable pub Gives : Sequent → Sequent → Formula → Type 0
Gives s p f = (p.premises ≡ s.premises) × (p.conclusion ≡ f)

-- the parent p gives f from h and then the premises of s
unfoldable pub GivesFrom : Sequent → Formula → Sequent → Formula → Type 0
GivesFrom s h p f = (p.premises ≡ h ∷ s.premises) × (p.conclusion ≡ f)

-- the sequent s follows by the rule from the sequents of its parents
abbrev pub FollowsBy : List Formula → Rule → Sequent → List Sequent → Type 0
-- a premise
FollowsBy axioms Hypothesis s ps = IfNone ps (IsMember s.premises s.conclusion)
-- the same conclusion from premises each of which is a premise of s
FollowsBy axioms Weaken s ps =
    IfOne ps (λ p. All (IsMember s.premises) p.premises × (p.conclusion ≡ s.conclusion))
-- truth
FollowsBy axioms Truth s ps = IfNone ps (s.conclusion ≡ formula.Truth)
-- f & g from f and from g
FollowsBy axioms AndIn s ps =
    IfTwo ps (λ p q. IfAnd s.conclusion (λ f g. Gives s p f × Gives s q g))
-- f from f & g
FollowsBy axioms AndLeft s ps =
    IfOne ps (λ p. (p.premises ≡ s.premises) × IfAnd p.conclusion (λ f g. f ≡ s.conclusion))
-- g from f & g
FollowsBy axioms AndRight s ps =
    IfOne ps (λ p. (p.premises ≡ s.premises) × IfAnd p.conclusion (λ f g. g ≡ s.conclusion))
-- not f, where falsity comes from f and the premises
FollowsBy axioms NotIn s ps =
    IfOne ps (λ p. IfNot s.conclusion (λ f. GivesFrom s f p falsity))
-- anything from f and from not f
FollowsBy axioms NotOut s ps =
    IfTwo ps (λ p q. Gives s p p.conclusion × Gives s q (formula.Not p.conclusion))
-- f, where falsity comes from not f and the premises
FollowsBy axioms Classical s ps =
    IfOne ps (λ p. GivesFrom s (formula.Not s.conclusion) p falsity)
-- a quantifier over b from b at the constant c, which is neither in the premises nor in b
FollowsBy axioms (AllIn c) s ps =
    IfOne ps (λ p. IfAll s.conclusion (λ b. Gives s p (body_at b (Const c)) × (list_any (occurs_in_formula c) s.premises ≡ false) × (occurs_in_formula c b ≡ false)))
-- b at the closed term t from a quantifier over b
FollowsBy axioms (AllOut t) s ps =
    IfOne ps (λ p. (p.premises ≡ s.premises) × IfAll p.conclusion (λ b. body_at b t ≡ s.conclusion) × (closed t ≡ true))
-- t = t for a closed term t
FollowsBy axioms Reflexive s ps =
    IfNone ps (IfEq s.conclusion (λ t u. (t ≡ u) × (closed t ≡ true)))
-- from t = u and f, closed t and u: f with some occurrences of t replaced by u
FollowsBy axioms Replace s ps =
    IfTwo ps (λ p q. (p.premises ≡ s.premises) × (q.premises ≡ s.premises) × IfEq p.conclusion (λ t u. (closed t ≡ true) × (closed u ≡ true) × Replaced t u q.conclusion s.conclusion))
-- g from f, and from f and the premises to g
FollowsBy axioms Cut s ps =
    IfTwo ps (λ p q. Gives s p p.conclusion × GivesFrom s p.conclusion q s.conclusion)
-- the axiom with the number i, counted from 1
FollowsBy axioms (Axiom i) s ps =
    IfNone ps ((1 ≤ i) × (slice_get axioms (i - 1) ≡ Some s.conclusion))
-- the instances by letters of a sequent's premises and conclusion
FollowsBy axioms (Instance ls) s ps =
    IfOne ps (λ p. (s.premises ≡ map (instance ls) p.premises) × (s.conclusion ≡ instance ls p.conclusion))

-- each node of the derivation follows by its rule
unfoldable mutual
  pub IsValid : List Formula → Derivation → Type 0
  IsValid axioms (Node rule s ds) = FollowsBy axioms rule s (roots ds) × AreValid axioms ds

  pub AreValid : List Formula → Derivations → Type 0
  AreValid axioms none = Unit {0}
  AreValid axioms (more d ds) = IsValid axioms d × AreValid axioms ds

-- some valid derivation ends in the sequent of f from the premises
abbrev pub Derives : List Formula → List Formula → Formula → Type 0
Derives axioms premises f = (d : Derivation) × (root d ≡ sequent premises f) × IsValid axioms d
