-- What a formula forces derives from it.
use Rattle.std.proofs.Common.{◌≡◌, ◌⊎◌, inl, inr, List, [], ◌∷◌, ◌++◌, refl, sym, subst, Bool, true, false}
use Rattle.std.specs.Prelude.{not, Contains}
use Rattle.std.specs.List.{list_all}
use Rattle.std.proofs.lemmas.List.Elements.{Contains-append_cases}
use Rattle.mz_logic.specs.Term.{Term}
use Rattle.mz_logic.specs.Formula as formula
use Rattle.mz_logic.specs.Formula.{Formula, Not, And, All}
use Rattle.mz_logic.specs.Indices.{closed}
use Rattle.mz_logic.specs.Substitution.{body_at}
use Rattle.mz_logic.specs.Negation.{falsity}
use Rattle.mz_logic.specs.Equality.{AreEqual}
use Rattle.mz_logic.specs.Literal.{signed, literal_formula}
use Rattle.mz_logic.specs.declared.literal.Literal.{Literal}
use Rattle.mz_logic.specs.declared.literal.Literal.TheVariants.{Atom, Eq}
use Rattle.mz_logic.specs.declared.disjunct.Disjunct.{Disjunct}
use Rattle.mz_logic.specs.Derives.{Derives}
use Rattle.mz_logic.proofs.Rules.{and_in, and_left, and_right, not_in, not_out, all_out}
use Rattle.mz_logic.proofs.Connectives as connectives
use Rattle.mz_logic.proofs.Connectives.{under, twice_out, swapped}
use Rattle.mz_logic.proofs.Congruence.{atom_congruence}
use Rattle.mz_ground.specs.declared.clause.Clause.{Clause}
use Rattle.mz_ground.specs.Laws.{IsGranted}
use Rattle.mz_ground.proofs.FactsSound.{expression_closed-InLayer}
use Rattle.mz_refute.specs.Valued as valued
use Rattle.mz_refute.specs.Valued.{IsValued, AreValued}
use Rattle.mz_refute.specs.Laws.{AreGranted}
use Rattle.mz_refute.proofs.RefutedSound.{value_closed, valued_closed, all_valued_closed, all_values_closed, value_derives, values_derive, refuted_derives}
use Rattle.mz_forced.specs.Forced.{IsForced, HaveLeast, HasLeast, no_terms, and_terms, atom, equation, negation, first, second, left, right, at_term}
use Rattle.mz_forced.specs.Added.{IsAddable, IsNext}

-- the least terms are values
pub least_values : (d : Disjunct) (cs : List Clause) (ts vs : List Term) → HaveLeast d cs ts vs → AreValued d cs ts vs
least_values d cs ts vs no_terms = valued.no_values
least_values d cs ts vs (and_terms t v us ws h rest) = valued.and_values t v us ws h.valued (least_values d cs us ws rest)

-- under one more premise, and the other way round
turned_under : (ax g : List Formula) (k : Formula) (d : Disjunct) (cs : List Clause) → IsGranted ax g d cs → (ts vs : List Term) → AreValued d cs ts vs → AreEqual ax (k ∷ g) vs ts
turned_under ax g k d cs h ts vs valued.no_values = tt
turned_under ax g k d cs h ts vs (valued.and_values t v us ws a rest) =
    (under ax g k (formula.Eq v t) (swapped ax g t v (valued_closed d cs t v a) (value_closed d cs v t a) (value_derives ax g d cs h t v a)), turned_under ax g k d cs h us ws rest)

equation_true : (ax g : List Formula) (t u v w : Term) → closed t ≡ true → closed u ≡ true → closed v ≡ true → closed w ≡ true → Derives ax g (formula.Eq t v) → Derives ax g (formula.Eq u w) → Derives ax g (formula.Eq t u) → Derives ax g (formula.Eq v w)
equation_true ax g t u v w ct cu cv cw a b e =
    connectives.chained ax g v t w ct cw (swapped ax g t v ct cv a) (connectives.chained ax g t u w cu cw e b)

equation_false : (ax g : List Formula) (t u v w : Term) → closed t ≡ true → closed u ≡ true → closed v ≡ true → closed w ≡ true → Derives ax g (formula.Eq t v) → Derives ax g (formula.Eq u w) → Derives ax g (Not (formula.Eq t u)) → Derives ax g (Not (formula.Eq v w))
equation_false ax g t u v w ct cu cv cw a b e =
    let k : Formula = formula.Eq v w in
    not_in ax g k
    (not_out ax (k ∷ g) (formula.Eq t u) falsity
    (equation_true ax (k ∷ g) v w t u cv cw ct cu (under ax g k (formula.Eq v t) (swapped ax g t v ct cv a)) (under ax g k (formula.Eq w u) (swapped ax g u w cu cw b)) (connectives.first ax g k))
    (under ax g k (Not (formula.Eq t u)) e))

-- the other part of a negated conjunction
other_left : (ax g : List Formula) (f k : Formula) → Derives ax g (Not (And f k)) → Derives ax g k → Derives ax g (Not f)
other_left ax g f k e h = not_in ax g f (not_out ax (f ∷ g) (And f k) falsity (and_in ax (f ∷ g) f k (connectives.first ax g f) (under ax g f k h)) (under ax g f (Not (And f k)) e))

other_right : (ax g : List Formula) (f k : Formula) → Derives ax g (Not (And f k)) → Derives ax g f → Derives ax g (Not k)
other_right ax g f k e h = not_in ax g k (not_out ax (k ∷ g) (And f k) falsity (and_in ax (k ∷ g) f k (under ax g k f h) (connectives.first ax g k)) (under ax g k (Not (And f k)) e))

pub forced_derives : (ax g : List Formula) (d : Disjunct) (cs : List Clause) → IsGranted ax g d cs → AreGranted ax g d → (positive : Bool) (f : Formula) (l : Literal) → Derives ax g (signed positive f) → IsForced d cs positive f l → Derives ax g (literal_formula l)
forced_derives ax g d cs h u p f l e (atom true s ts vs m n) =
    let a : AreValued d cs ts vs = least_values d cs ts vs m in
    atom_congruence ax g s ts vs (all_valued_closed d cs ts vs a) (all_values_closed d cs ts vs a) (values_derive ax g d cs h ts vs a) e
forced_derives ax g d cs h u p f l e (atom false s ts vs m n) =
    let a : AreValued d cs ts vs = least_values d cs ts vs m in
    let k : Formula = formula.Atom s vs in
    not_in ax g k
    (not_out ax (k ∷ g) (formula.Atom s ts) falsity
    (atom_congruence ax (k ∷ g) s vs ts (all_values_closed d cs ts vs a) (all_valued_closed d cs ts vs a) (turned_under ax g k d cs h ts vs a) (connectives.first ax g k))
    (under ax g k (Not (formula.Atom s ts)) e))
forced_derives ax g d cs h u p f l e (equation true a b v w x y n) =
    equation_true ax g a b v w (valued_closed d cs a v x.valued) (valued_closed d cs b w y.valued) (value_closed d cs v a x.valued) (value_closed d cs w b y.valued) (value_derives ax g d cs h a v x.valued) (value_derives ax g d cs h b w y.valued) e
forced_derives ax g d cs h u p f l e (equation false a b v w x y n) =
    equation_false ax g a b v w (valued_closed d cs a v x.valued) (valued_closed d cs b w y.valued) (value_closed d cs v a x.valued) (value_closed d cs w b y.valued) (value_derives ax g d cs h a v x.valued) (value_derives ax g d cs h b w y.valued) e
forced_derives ax g d cs h u p f l e (negation true k m r) = forced_derives ax g d cs h u false k m e r
forced_derives ax g d cs h u p f l e (negation false k m r) = forced_derives ax g d cs h u true k m (twice_out ax g k e) r
forced_derives ax g d cs h u p f l e (first a b m r) = forced_derives ax g d cs h u true a m (and_left ax g a b e) r
forced_derives ax g d cs h u p f l e (second a b m r) = forced_derives ax g d cs h u true b m (and_right ax g a b e) r
forced_derives ax g d cs h u p f l e (left a b m r q) = forced_derives ax g d cs h u false a m (other_left ax g a b e (refuted_derives ax g d cs h u false b q)) r
forced_derives ax g d cs h u p f l e (right a b m r q) = forced_derives ax g d cs h u false b m (other_right ax g a b e (refuted_derives ax g d cs h u false a q)) r
forced_derives ax g d cs h u p f l e (at_term b t m i r) = forced_derives ax g d cs h u true (body_at b t) m (all_out ax g b t (expression_closed-InLayer d cs _ _ i) e) r

-- what is added derives
added_derives : (ax g : List Formula) (d : Disjunct) (cs : List Clause) → IsGranted ax g d cs → AreGranted ax g d → (l : Literal) → IsAddable d cs l → Derives ax g (literal_formula l)
added_derives ax g d cs h u l a = forced_derives ax g d cs h u true a.universal l (u a.universal a.listed) a.forced

next_literal : (ax g : List Formula) (d next : Disjunct) (cs : List Clause) → IsGranted ax g d cs → AreGranted ax g d → IsNext d cs next → (l : Literal) → Contains next.literals l → Derives ax g (literal_formula l)
next_literal ax g d next cs h u n l c =
    elim (Contains-append_cases d.literals n.added l (subst (λ (ls : List Literal). Contains ls l) n.literals c)) [
      | inl x ↦ h.literals l x
      | inr x ↦ added_derives ax g d cs h u l (n.are_added.each l x)
    ]

pub next_granted : (ax g : List Formula) (d next : Disjunct) (cs : List Clause) → IsGranted ax g d cs → AreGranted ax g d → IsNext d cs next → IsGranted ax g next cs × AreGranted ax g next
next_granted ax g d next cs h u n =
    (record { literals = λ l c. next_literal ax g d next cs h u n l c; clauses = h.clauses }, λ f c. u f (subst (λ (fs : List Formula). Contains fs f) n.universals c))
