-- What is refuted has a derivation of its negation.
use Rattle.std.proofs.Common.{◌≡◌, List, [], ◌∷◌, refl, Bool, true, false}
use Rattle.std.specs.List.{list_all}
use Rattle.std.proofs.lemmas.Bool.{and_from}
use Rattle.mz_logic.specs.Term.{Term, App, terms_of}
use Rattle.mz_logic.specs.Formula as formula
use Rattle.mz_logic.specs.Formula.{Formula, Truth, Not, And, All}
use Rattle.mz_logic.specs.Indices.{closed}
use Rattle.mz_logic.specs.Substitution.{body_at}
use Rattle.mz_logic.specs.Negation.{falsity, negated}
use Rattle.mz_logic.specs.Replacement.{TermReplaced, ArgsReplaced, Replaced, replaced, kept, within, end, next}
use Rattle.mz_logic.specs.Same.{IsSame, itself, exchanged, chained, not_twice, negation, conjuncts, body}
use Rattle.mz_logic.specs.Equality.{AreEqual}
use Rattle.mz_logic.specs.declared.literal.Literal.TheVariants.{Atom, Eq}
use Rattle.mz_logic.specs.declared.disjunct.Disjunct.{Disjunct}
use Rattle.mz_logic.specs.Derives.{Derives}
use Rattle.mz_logic.proofs.IndexLemmas.{args_below-terms_of}
use Rattle.mz_logic.proofs.Rules.{truth, and_in, and_left, and_right, not_in, not_out, all_out, replace}
use Rattle.mz_logic.proofs.Connectives as connectives
use Rattle.mz_logic.proofs.Connectives.{first, under, twice_in, swapped}
use Rattle.mz_logic.proofs.Congruence.{atom_congruence, application_congruence}
use Rattle.mz_logic.proofs.Equivalence.{same_derives}
use Rattle.mz_ground.specs.declared.clause.Clause.{Clause}
use Rattle.mz_ground.specs.Laws.{IsGranted}
use Rattle.mz_ground.proofs.FactsSound.{expression_closed-InLayer, literal_closed-Fact, sides, closed_args, fact_derives, contradiction_derives}
use Rattle.mz_refute.specs.Valued as valued
use Rattle.mz_refute.specs.Valued.{IsValued, AreValued}
use Rattle.mz_refute.specs.EqualModuloFacts as equal
use Rattle.mz_refute.specs.EqualModuloFacts.{plain, EqualModuloFacts, AllEqualModuloFacts, FormulasEqualModuloFacts}
use Rattle.mz_refute.specs.Refuted as refuted
use Rattle.mz_refute.specs.Refuted.{IsRefuted}
use Rattle.mz_refute.specs.Closes as closes
use Rattle.mz_refute.specs.Closes.{IsClosed}
use Rattle.mz_refute.specs.Laws.{AreGranted, refutation}

-- what has a value, and the value, have no index
pub value_closed : (d : Disjunct) (cs : List Clause) (v : Term) → (t : Term) → IsValued d cs t v → closed v ≡ true
value_closed d cs v t (valued.as_ground u w i f) = (sides u w (literal_closed-Fact d cs _ f)).1
value_closed d cs v t (valued.by_arguments s ts us w vs i f) = (sides (App s (terms_of us)) w (literal_closed-Fact d cs _ f)).1

mutual
  pub valued_closed : (d : Disjunct) (cs : List Clause) (t v : Term) → IsValued d cs t v → closed t ≡ true
  valued_closed d cs t v (valued.as_ground u w i f) = expression_closed-InLayer d cs _ _ i
  valued_closed d cs t v (valued.by_arguments s ts us w vs i f) = rw (args_below-terms_of 0 ts) (all_valued_closed d cs ts us vs)

  pub all_valued_closed : (d : Disjunct) (cs : List Clause) (ts vs : List Term) → AreValued d cs ts vs → list_all closed ts ≡ true
  all_valued_closed d cs ts vs valued.no_values = refl
  all_valued_closed d cs ts vs (valued.and_values t v us ws a rest) = and_from (closed t) (list_all closed us) (valued_closed d cs t v a) (all_valued_closed d cs us ws rest)

pub all_values_closed : (d : Disjunct) (cs : List Clause) (ts vs : List Term) → AreValued d cs ts vs → list_all closed vs ≡ true
all_values_closed d cs ts vs valued.no_values = refl
all_values_closed d cs ts vs (valued.and_values t v us ws a rest) = and_from (closed v) (list_all closed ws) (value_closed d cs v t a) (all_values_closed d cs us ws rest)

-- a term is derivably equal to its value
mutual
  pub value_derives : (ax g : List Formula) (d : Disjunct) (cs : List Clause) → IsGranted ax g d cs → (t v : Term) → IsValued d cs t v → Derives ax g (formula.Eq t v)
  value_derives ax g d cs h t v (valued.as_ground u w i f) = fact_derives ax g d cs h (Eq true u w) f
  value_derives ax g d cs h t v (valued.by_arguments s ts us w vs i f) =
      let a : Term = App s (terms_of ts) in
      let b : Term = App s (terms_of us) in
      let cb : closed b ≡ true = expression_closed-InLayer d cs _ _ i in
      let cw : closed w ≡ true = (sides b w (literal_closed-Fact d cs _ f)).1 in
      let e : Derives ax g (formula.Eq a b) = application_congruence ax g s ts us (all_valued_closed d cs ts us vs) (closed_args s us cb) (values_derive ax g d cs h ts us vs) in
      connectives.chained ax g a b w cb cw e (fact_derives ax g d cs h (Eq true b w) f)

  pub values_derive : (ax g : List Formula) (d : Disjunct) (cs : List Clause) → IsGranted ax g d cs → (ts vs : List Term) → AreValued d cs ts vs → AreEqual ax g ts vs
  values_derive ax g d cs h ts vs valued.no_values = tt
  values_derive ax g d cs h ts vs (valued.and_values t v us ws a rest) = (value_derives ax g d cs h t v a, values_derive ax g d cs h us ws rest)

-- the same the other way round, and under one more premise
value_turned : (ax g : List Formula) (d : Disjunct) (cs : List Clause) → IsGranted ax g d cs → (t v : Term) → IsValued d cs t v → Derives ax g (formula.Eq v t)
value_turned ax g d cs h t v a = swapped ax g t v (valued_closed d cs t v a) (value_closed d cs v t a) (value_derives ax g d cs h t v a)

values_turned : (ax g : List Formula) (d : Disjunct) (cs : List Clause) → IsGranted ax g d cs → (ts vs : List Term) → AreValued d cs ts vs → AreEqual ax g vs ts
values_turned ax g d cs h ts vs valued.no_values = tt
values_turned ax g d cs h ts vs (valued.and_values t v us ws a rest) = (value_turned ax g d cs h t v a, values_turned ax g d cs h us ws rest)

values_under : (ax g : List Formula) (k : Formula) (d : Disjunct) (cs : List Clause) → IsGranted ax g d cs → (ts vs : List Term) → AreValued d cs ts vs → AreEqual ax (k ∷ g) ts vs
values_under ax g k d cs h ts vs valued.no_values = tt
values_under ax g k d cs h ts vs (valued.and_values t v us ws a rest) = (under ax g k (formula.Eq t v) (value_derives ax g d cs h t v a), values_under ax g k d cs h us ws rest)

-- a formula and the same without double negations
IsSame-negated : (f : Formula) → IsSame (Not f) (negated f)
IsSame-negated Truth = itself (Not Truth)
IsSame-negated (formula.Eq t u) = itself (Not (formula.Eq t u))
IsSame-negated (formula.Atom s ts) = itself (Not (formula.Atom s ts))
IsSame-negated (Not f) = not_twice f
IsSame-negated (And f g) = itself (Not (And f g))
IsSame-negated (All f) = itself (Not (All f))

pub IsSame-plain : (f : Formula) → IsSame f (plain f)
IsSame-plain Truth = itself Truth
IsSame-plain (formula.Eq t u) = itself (formula.Eq t u)
IsSame-plain (formula.Atom s ts) = itself (formula.Atom s ts)
IsSame-plain (Not f) = chained (Not f) (Not (plain f)) (negated (plain f)) (negation f (plain f) (IsSame-plain f)) (IsSame-negated (plain f))
IsSame-plain (And f g) = conjuncts f g (plain f) (plain g) (IsSame-plain f) (IsSame-plain g)
IsSame-plain (All f) = body f (plain f) (IsSame-plain f)

-- nothing need be replaced
all_kept : (t u : Term) (xs : List Term) → ArgsReplaced t u (terms_of xs) (terms_of xs)
all_kept t u [] = end
all_kept t u (x ∷ xs) = next x x (terms_of xs) (terms_of xs) (kept x) (all_kept t u xs)

formula_kept : (t u : Term) (f : Formula) → Replaced t u f f
formula_kept t u Truth = refl
formula_kept t u (formula.Eq v w) = (kept v, kept w)
formula_kept t u (formula.Atom s vs) = (refl, all_kept t u vs)
formula_kept t u (Not f) = formula_kept t u f
formula_kept t u (And f g) = (formula_kept t u f, formula_kept t u g)
formula_kept t u (All f) = formula_kept t u f

-- a formula of a term, of a list or of a formula, in which a replacement in that is one in the formula
abbrev RespectsTerm : (Term → Formula) → Type 0
RespectsTerm K = (t u x y : Term) → TermReplaced t u x y → Replaced t u (K x) (K y)

abbrev RespectsTerms : (List Term → Formula) → Type 0
RespectsTerms K = (t u : Term) (xs ys : List Term) → ArgsReplaced t u (terms_of xs) (terms_of ys) → Replaced t u (K xs) (K ys)

abbrev RespectsFormula : (Formula → Formula) → Type 0
RespectsFormula K = (t u : Term) (x y : Formula) → Replaced t u x y → Replaced t u (K x) (K y)

-- what is congruent may stand for one another
mutual
  congruent_term : (ax g : List Formula) (d : Disjunct) (cs : List Clause) → IsGranted ax g d cs → (t u : Term) → EqualModuloFacts d cs t u → (K : Term → Formula) → RespectsTerm K → Derives ax g (K u) → Derives ax g (K t)
  congruent_term ax g d cs h t u (equal.as_written v c) K r e = e
  congruent_term ax g d cs h t u (equal.in_value v w x a b) K r e =
      let cv : closed v ≡ true = valued_closed d cs v x a in
      let cw : closed w ≡ true = valued_closed d cs w x b in
      let cx : closed x ≡ true = value_closed d cs x v a in
      let equal : Derives ax g (formula.Eq w v) = connectives.chained ax g w x v cx cv (value_derives ax g d cs h w x b) (value_turned ax g d cs h v x a) in
      replace ax g w v (K w) (K v) cw cv (r w v w v replaced) equal e
  congruent_term ax g d cs h t u (equal.one_index index) K r e = e
  congruent_term ax g d cs h t u (equal.one_symbol s ts us a) K r e =
      congruent_terms ax g d cs h ts us a (λ xs. K (App s (terms_of xs))) (λ v w xs ys m. r v w (App s (terms_of xs)) (App s (terms_of ys)) (within s (terms_of xs) (terms_of ys) m)) e

  congruent_terms : (ax g : List Formula) (d : Disjunct) (cs : List Clause) → IsGranted ax g d cs → (ts us : List Term) → AllEqualModuloFacts d cs ts us → (K : List Term → Formula) → RespectsTerms K → Derives ax g (K us) → Derives ax g (K ts)
  congruent_terms ax g d cs h ts us equal.no_terms K r e = e
  congruent_terms ax g d cs h ts us (equal.and_terms t u vs ws a rest) K r e =
      let head : Derives ax g (K (t ∷ ws)) =
      congruent_term ax g d cs h t u a (λ x. K (x ∷ ws)) (λ v w x y m. r v w (x ∷ ws) (y ∷ ws) (next x y (terms_of ws) (terms_of ws) m (all_kept v w ws))) e in
      congruent_terms ax g d cs h vs ws rest (λ xs. K (t ∷ xs)) (λ v w xs ys m. r v w (t ∷ xs) (t ∷ ys) (next t t (terms_of xs) (terms_of ys) (kept t) m)) head

congruent_formula : (ax g : List Formula) (d : Disjunct) (cs : List Clause) → IsGranted ax g d cs → (f k : Formula) → FormulasEqualModuloFacts d cs f k → (K : Formula → Formula) → RespectsFormula K → Derives ax g (K k) → Derives ax g (K f)
congruent_formula ax g d cs h f k equal.truths K r e = e
congruent_formula ax g d cs h f k (equal.equations t u v w a b) K r e =
    let left : Derives ax g (K (formula.Eq t w)) =
    congruent_term ax g d cs h t v a (λ x. K (formula.Eq x w)) (λ p q x y m. r p q (formula.Eq x w) (formula.Eq y w) (m, kept w)) e in
    congruent_term ax g d cs h u w b (λ x. K (formula.Eq t x)) (λ p q x y m. r p q (formula.Eq t x) (formula.Eq t y) (kept t, m)) left
congruent_formula ax g d cs h f k (equal.atoms s ts us a) K r e =
    congruent_terms ax g d cs h ts us a (λ xs. K (formula.Atom s xs)) (λ p q xs ys m. r p q (formula.Atom s xs) (formula.Atom s ys) (refl, m)) e
congruent_formula ax g d cs h f k (equal.negations l m a) K r e =
    congruent_formula ax g d cs h l m a (λ x. K (Not x)) (λ p q x y n. r p q (Not x) (Not y) n) e
congruent_formula ax g d cs h f k (equal.conjunctions l m n o a b) K r e =
    let left : Derives ax g (K (And l o)) =
    congruent_formula ax g d cs h l n a (λ x. K (And x o)) (λ p q x y z. r p q (And x o) (And y o) (z, formula_kept p q o)) e in
    congruent_formula ax g d cs h m o b (λ x. K (And l x)) (λ p q x y z. r p q (And l x) (And l y) (formula_kept p q l, z)) left
congruent_formula ax g d cs h f k (equal.universals l m a) K r e =
    congruent_formula ax g d cs h l m a (λ x. K (All x)) (λ p q x y n. r p q (All x) (All y) n) e

-- a universal that is congruent to one that derives
listed_derives : (ax g : List Formula) (d : Disjunct) (cs : List Clause) → IsGranted ax g d cs → (f u : Formula) → FormulasEqualModuloFacts d cs (plain f) (plain u) → Derives ax g u → Derives ax g f
listed_derives ax g d cs h f u a e =
    let from_plain : Derives ax g (plain u) = same_derives ax g u (plain u) (IsSame-plain u) e in
    let to_plain : Derives ax g (plain f) = congruent_formula ax g d cs h (plain f) (plain u) a (λ x. x) (λ p q x y m. m) from_plain in
    same_derives ax g (plain f) f (exchanged f (plain f) (IsSame-plain f)) to_plain

pub refuted_derives : (ax g : List Formula) (d : Disjunct) (cs : List Clause) → IsGranted ax g d cs → AreGranted ax g d → (positive : Bool) (f : Formula) → IsRefuted d cs positive f → Derives ax g (refutation positive f)
refuted_derives ax g d cs h u p f refuted.falsity = truth ax g
refuted_derives ax g d cs h u p f (refuted.atom true s ts vs a k) =
    let at : Formula = formula.Atom s ts in
    let value : Derives ax (at ∷ g) (formula.Atom s vs) =
    atom_congruence ax (at ∷ g) s ts vs (all_valued_closed d cs ts vs a) (all_values_closed d cs ts vs a) (values_under ax g at d cs h ts vs a) (first ax g at) in
    not_in ax g at (not_out ax (at ∷ g) (formula.Atom s vs) falsity value (under ax g at (Not (formula.Atom s vs)) (fact_derives ax g d cs h (Atom false s vs) k)))
refuted_derives ax g d cs h u p f (refuted.atom false s ts vs a k) =
    atom_congruence ax g s vs ts (all_values_closed d cs ts vs a) (all_valued_closed d cs ts vs a) (values_turned ax g d cs h ts vs a) (fact_derives ax g d cs h (Atom true s vs) k)
refuted_derives ax g d cs h u p f (refuted.equation a b v w va vb k) =
    let ca : closed a ≡ true = valued_closed d cs a v va in
    let cb : closed b ≡ true = valued_closed d cs b w vb in
    let cv : closed v ≡ true = value_closed d cs v a va in
    let cw : closed w ≡ true = value_closed d cs w b vb in
    let e : Formula = formula.Eq a b in
    let to_a : Derives ax (e ∷ g) (formula.Eq v a) = under ax g e (formula.Eq v a) (value_turned ax g d cs h a v va) in
    let from_b : Derives ax (e ∷ g) (formula.Eq b w) = under ax g e (formula.Eq b w) (value_derives ax g d cs h b w vb) in
    let equal : Derives ax (e ∷ g) (formula.Eq v w) = connectives.chained ax (e ∷ g) v a w ca cw to_a (connectives.chained ax (e ∷ g) a b w cb cw (first ax g e) from_b) in
    not_in ax g e (not_out ax (e ∷ g) (formula.Eq v w) falsity equal (under ax g e (Not (formula.Eq v w)) (fact_derives ax g d cs h (Eq false v w) k)))
refuted_derives ax g d cs h u p f (refuted.disequation a b v va vb) =
    connectives.chained ax g a v b (value_closed d cs v a va) (valued_closed d cs b v vb) (value_derives ax g d cs h a v va) (value_turned ax g d cs h b v vb)
refuted_derives ax g d cs h u p f (refuted.negation true k r) = twice_in ax g k (refuted_derives ax g d cs h u false k r)
refuted_derives ax g d cs h u p f (refuted.negation false k r) = refuted_derives ax g d cs h u true k r
refuted_derives ax g d cs h u p f (refuted.first k l r) =
    let c : Formula = And k l in
    not_in ax g c (not_out ax (c ∷ g) k falsity (and_left ax (c ∷ g) k l (first ax g c)) (under ax g c (Not k) (refuted_derives ax g d cs h u true k r)))
refuted_derives ax g d cs h u p f (refuted.second k l r) =
    let c : Formula = And k l in
    not_in ax g c (not_out ax (c ∷ g) l falsity (and_right ax (c ∷ g) k l (first ax g c)) (under ax g c (Not l) (refuted_derives ax g d cs h u true l r)))
refuted_derives ax g d cs h u p f (refuted.both k l r q) = and_in ax g k l (refuted_derives ax g d cs h u false k r) (refuted_derives ax g d cs h u false l q)
refuted_derives ax g d cs h u p f (refuted.at_term b t i r) =
    let a : Formula = All b in
    let at : Formula = body_at b t in
    not_in ax g a (not_out ax (a ∷ g) at falsity (all_out ax (a ∷ g) b t (expression_closed-InLayer d cs _ _ i) (first ax g a)) (under ax g a (Not at) (refuted_derives ax g d cs h u true at r)))
refuted_derives ax g d cs h u p f (refuted.listed b k c a) = listed_derives ax g d cs h (All b) k a (u k c)

-- falsity derives from a closed disjunct
pub closed_derives : (ax g : List Formula) (d : Disjunct) (cs : List Clause) → IsGranted ax g d cs → AreGranted ax g d → IsClosed d cs → Derives ax g falsity
closed_derives ax g d cs h u (closes.contradiction c) = contradiction_derives ax g d cs h c
closed_derives ax g d cs h u (closes.refutation f c r) = not_out ax g f falsity (u f c) (refuted_derives ax g d cs h u true f r.refuted)
