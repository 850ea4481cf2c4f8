-- What derives from properties of formulas: the rules of lists for sets.
use Rattle.std.proofs.Common.{◌≡◌, ◌<◌, inl, inr, ℕ, List, [], ◌∷◌, ◌++◌, map, length, refl, sym, ◌∙◌, subst, arith, true, false}
use Rattle.std.specs.Prelude.{All, Contains}
use Rattle.std.specs.List.{list_all, list_any}
use Rattle.std.proofs.lemmas.Bool.{or_from}
use Rattle.std.proofs.lemmas.List.Elements.{All-nil, All-cons, All-head, All-tail, All-append, All-map, All-weaker, All-contains_itself, Contains-append_left, Contains-append_right, All-contains}
use Rattle.mz_logic.specs.Term.{Term, Const}
use Rattle.mz_logic.specs.Formula as formula
use Rattle.mz_logic.specs.Formula.{Formula, Truth, Eq, Not, And}
use Rattle.mz_logic.specs.Indices.{closed}
use Rattle.mz_logic.specs.Constants.{occurs_in_formula}
use Rattle.mz_logic.specs.Substitution.{substitute_formula, value_at, body_at}
use Rattle.mz_logic.specs.Negation.{falsity, negated}
use Rattle.mz_logic.specs.Connectives.{joined, implies, quantified}
use Rattle.mz_logic.specs.ConstantTerm.{formula_with}
use Rattle.mz_logic.specs.Same.{IsSame}
use Rattle.mz_logic.specs.Instance.{instance}
use Rattle.mz_logic.specs.declared.letters.Letter.{Letter}
use Rattle.mz_logic.specs.Derives.{Derives}
use Rattle.mz_logic.specs.DerivesFrom.{DerivesFrom, AllDerive, IsNone, Adjoined, IsImage}
use Rattle.mz_logic.proofs.Rules.{truth, and_in, and_left, and_right, not_in, not_out, classical, all_in, all_out, reflexive, instance_of}
use Rattle.mz_logic.proofs.Connectives.{first, twice_in, twice_out, swapped, chained}
use Rattle.mz_logic.proofs.Equivalence.{same_derives}
use Rattle.mz_logic.proofs.AbstractionLaws.{formula_with-absent}
use Rattle.mz_logic.proofs.Generalization.{constant_generalized}
use Rattle.mz_logic.proofs.Congruence.{formula_congruence}
use Rattle.mz_logic.proofs.AxiomLaws.{from_other_axioms}
use Rattle.mz_logic.proofs.Each.{Along, cut_each, each_along, first_or_later, the_first, a_later, axiom_derives, premises_within, derives_more, along_more, negated_in, negated_out, joined_in, joined_out, implies_in, implies_out, not_all_out, exists_out, exists_in, quantified_out}
use Rattle.mz_logic.specs.Formulas.{IsMember}

-- members
pub premise_derives : (A P : Formula → Type 0) (f : Formula) → P f → DerivesFrom A P f
premise_derives A P f h = record {
  axioms = [];
  premises = f ∷ [];
  are_axioms = All-nil A;
  are_premises = All-cons P f [] h (All-nil P);
  derives = first [] [] f;
}

pub axiom_in_set : (A P : Formula → Type 0) (f : Formula) → A f → DerivesFrom A P f
axiom_in_set A P f h = record {
  axioms = f ∷ [];
  premises = [];
  are_axioms = All-cons A f [] h (All-nil A);
  are_premises = All-nil P;
  derives = axiom_derives (f ∷ []) [] f (the_first f f [] refl);
}

-- larger sets
pub larger : (A B P Q : Formula → Type 0) (f : Formula) → ((k : Formula) → A k → B k) → ((k : Formula) → P k → Q k) → DerivesFrom A P f → DerivesFrom B Q f
larger A B P Q f more_axioms more_premises d = record {
  axioms = d.axioms;
  premises = d.premises;
  are_axioms = All-weaker A B more_axioms d.axioms d.are_axioms;
  are_premises = All-weaker P Q more_premises d.premises d.are_premises;
  derives = d.derives;
}

-- from a list of premises
pub from_list : (A : Formula → Type 0) (ax g : List Formula) (f : Formula) → All A ax → Derives ax g f → DerivesFrom A (Contains g) f
from_list A ax g f h d = record {
  axioms = ax;
  premises = g;
  are_axioms = h;
  are_premises = All-contains_itself g;
  derives = d;
}

pub to_list : (A : Formula → Type 0) (g : List Formula) (f : Formula) → DerivesFrom A (Contains g) f → (ax : List Formula) × All A ax × Derives ax g f
to_list A g f d =
    (d.axioms, d.are_axioms, premises_within d.premises g f d.axioms (λ k is. All-contains (Contains g) d.premises k d.are_premises is) d.derives)

-- several formulas that derive, from common lists
record Jointly (A P : Formula → Type 0) (fs : List Formula) : Type 0 where
  axioms : List Formula
  premises : List Formula
  are_axioms : All A axioms
  are_premises : All P premises
  along : Along axioms premises fs

jointly : (A P : Formula → Type 0) (fs : List Formula) → AllDerive A P fs → Jointly A P fs
jointly A P [] p = record { axioms = []; premises = []; are_axioms = All-nil A; are_premises = All-nil P; along = tt }
jointly A P (f ∷ fs) p =
    let d : DerivesFrom A P f = p.0 in
    let r : Jointly A P fs = jointly A P fs p.1 in
    record {
      axioms = d.axioms ++ r.axioms;
      premises = d.premises ++ r.premises;
      are_axioms = All-append A d.axioms r.axioms d.are_axioms r.are_axioms;
      are_premises = All-append P d.premises r.premises d.are_premises r.are_premises;
      along = (
        derives_more d.axioms (d.axioms ++ r.axioms) d.premises (d.premises ++ r.premises) f (λ k is. Contains-append_left d.axioms r.axioms k is) (λ k is. Contains-append_left d.premises r.premises k is) d.derives,
        along_more r.axioms (d.axioms ++ r.axioms) r.premises (d.premises ++ r.premises) fs (λ k is. Contains-append_right d.axioms r.axioms k is) (λ k is. Contains-append_right d.premises r.premises k is) r.along,
      );
    }

-- what lists derive wherever some formulas derive, sets derive where these do
pub by_list : (A P : Formula → Type 0) (fs : List Formula) (g : Formula) → AllDerive A P fs → ((ax h : List Formula) → Along ax h fs → Derives ax h g) → DerivesFrom A P g
by_list A P fs g p rule =
    let r : Jointly A P fs = jointly A P fs p in
    record { axioms = r.axioms; premises = r.premises; are_axioms = r.are_axioms; are_premises = r.are_premises; derives = rule r.axioms r.premises r.along }

-- cut
all_derive : (A P Q : Formula → Type 0) (fs : List Formula) → ((k : Formula) → Q k → DerivesFrom A P k) → All Q fs → AllDerive A P fs
all_derive A P Q [] each h = tt
all_derive A P Q (f ∷ fs) each h = (each f (All-head Q f fs h), all_derive A P Q fs each (All-tail Q f fs h))

pub cut_set : (A P Q : Formula → Type 0) (f : Formula) → ((k : Formula) → Q k → DerivesFrom A P k) → DerivesFrom A Q f → DerivesFrom A P f
cut_set A P Q f each d =
    let r : Jointly A P d.premises = jointly A P d.premises (all_derive A P Q d.premises each d.are_premises) in
    let ax : List Formula = r.axioms ++ d.axioms in
    let along : Along ax r.premises d.premises = along_more r.axioms ax r.premises r.premises d.premises (λ k is. Contains-append_left r.axioms d.axioms k is) (λ k is. is) r.along in
    let there : Derives ax d.premises f = derives_more d.axioms ax d.premises d.premises f (λ k is. Contains-append_right r.axioms d.axioms k is) (λ k is. is) d.derives in
    record {
      axioms = ax;
      premises = r.premises;
      are_axioms = All-append A r.axioms d.axioms r.are_axioms d.are_axioms;
      are_premises = r.are_premises;
      derives = cut_each ax r.premises d.premises f (each_along ax r.premises d.premises along) there;
    }

-- other axioms
none_left : (g : List Formula) → All IsNone g → g ≡ []
none_left [] h = refl
none_left (f ∷ fs) h = absurd (All-head IsNone f fs h)

pub other_axioms : (A B P : Formula → Type 0) (f : Formula) → ((k : Formula) → A k → DerivesFrom B IsNone k) → DerivesFrom A P f → DerivesFrom B P f
unfolding IsMember
other_axioms A B P f each d =
    let r : Jointly B IsNone d.axioms = jointly B IsNone d.axioms (all_derive B IsNone A d.axioms each d.are_axioms) in
    let along : Along r.axioms [] d.axioms = subst (λ g. Along r.axioms g d.axioms) (none_left r.premises r.are_premises) r.along in
    record {
      axioms = r.axioms;
      premises = d.premises;
      are_axioms = r.are_axioms;
      are_premises = d.are_premises;
      derives = from_other_axioms d.axioms r.axioms d.premises f (each_along r.axioms [] d.axioms along) d.derives;
    }

-- one formula more among the premises
record Split (P : Formula → Type 0) (f : Formula) (g : List Formula) : Type 0 where
  others : List Formula
  are_premises : All P others
  within : (k : Formula) → Contains g k → Contains (f ∷ others) k

past_second : (g : List Formula) (f b k : Formula) → Contains (f ∷ g) k → Contains (f ∷ b ∷ g) k
past_second g f b k is =
    elim (first_or_later f k g is) [ inl e ↦ the_first f k (b ∷ g) e | inr later ↦ a_later f k (b ∷ g) (a_later b k g later) ]

no_members : (k : Formula) (f : Formula) → Contains [] k → Contains (f ∷ []) k
no_members k f is = let lt : is.0 < 0 = is.1 in absurd (omega arith)

split : (P : Formula → Type 0) (f : Formula) (g : List Formula) → All (Adjoined P f) g → Split P f g
split P f [] h = record { others = []; are_premises = All-nil P; within = λ k is. no_members k f is }
split P f (p ∷ ps) h =
    let r : Split P f ps = split P f ps (All-tail (Adjoined P f) p ps h) in
    elim (All-head (Adjoined P f) p ps h) [
      | inl has ↦ record {
        others = p ∷ r.others;
        are_premises = All-cons P p r.others has r.are_premises;
        within = λ k is. elim (first_or_later p k ps is) [ inl e ↦ a_later f k (p ∷ r.others) (the_first p k r.others e) | inr later ↦ past_second r.others f p k (r.within k later) ];
      }
      | inr same ↦ record {
        others = r.others;
        are_premises = r.are_premises;
        within = λ k is. elim (first_or_later p k ps is) [ inl e ↦ the_first f k r.others (sym same ∙ e) | inr later ↦ r.within k later ];
      }
    ]

-- what lists derive from one formula more, sets derive from it as well
pub by_one_more : (A P : Formula → Type 0) (f g h : Formula) → DerivesFrom A (Adjoined P f) g → ((ax ps : List Formula) → All P ps → Derives ax (f ∷ ps) g → Derives ax ps h) → DerivesFrom A P h
by_one_more A P f g h d rule =
    let s : Split P f d.premises = split P f d.premises d.are_premises in
    record {
      axioms = d.axioms;
      premises = s.others;
      are_axioms = d.are_axioms;
      are_premises = s.are_premises;
      derives = rule d.axioms s.others s.are_premises (premises_within d.premises (f ∷ s.others) g d.axioms s.within d.derives);
    }

adjoined_premise : (A P : Formula → Type 0) (f : Formula) → DerivesFrom A (Adjoined P f) f
adjoined_premise A P f = premise_derives A (Adjoined P f) f (inr refl)

pub adjoined : (A P : Formula → Type 0) (f g : Formula) → DerivesFrom A P g → DerivesFrom A (Adjoined P f) g
adjoined A P f g d = larger A A P (Adjoined P f) g (λ k h. h) (λ k h. inl h) d

-- deduction, both ways
pub deduction : (A P : Formula → Type 0) (f g : Formula) → DerivesFrom A (Adjoined P f) g → DerivesFrom A P (implies f g)
deduction A P f g d = by_one_more A P f g (implies f g) d (λ ax ps h e. implies_in ax ps f g e)

pub detachment : (A P : Formula → Type 0) (f g : Formula) → DerivesFrom A P (implies f g) → DerivesFrom A P f → DerivesFrom A P g
detachment A P f g d e = by_list A P (implies f g ∷ f ∷ []) g (d, (e, tt)) (λ ax h p. implies_out ax h f g p.0 p.1.0)

pub deduction_back : (A P : Formula → Type 0) (f g : Formula) → DerivesFrom A P (implies f g) → DerivesFrom A (Adjoined P f) g
deduction_back A P f g d = detachment A (Adjoined P f) f g (adjoined A P f (implies f g) d) (adjoined_premise A P f)

pub cut_one : (A P : Formula → Type 0) (f g : Formula) → DerivesFrom A P f → DerivesFrom A (Adjoined P f) g → DerivesFrom A P g
cut_one A P f g d e = detachment A P f g (deduction A P f g e) d

-- truth and conjunctions
pub truth_derives : (A P : Formula → Type 0) → DerivesFrom A P Truth
truth_derives A P = by_list A P [] Truth tt (λ ax h p. truth ax h)

pub conjunction_in : (A P : Formula → Type 0) (f g : Formula) → DerivesFrom A P f → DerivesFrom A P g → DerivesFrom A P (And f g)
conjunction_in A P f g d e = by_list A P (f ∷ g ∷ []) (And f g) (d, (e, tt)) (λ ax h p. and_in ax h f g p.0 p.1.0)

pub conjunction_left : (A P : Formula → Type 0) (f g : Formula) → DerivesFrom A P (And f g) → DerivesFrom A P f
conjunction_left A P f g d = by_list A P (And f g ∷ []) f (d, tt) (λ ax h p. and_left ax h f g p.0)

pub conjunction_right : (A P : Formula → Type 0) (f g : Formula) → DerivesFrom A P (And f g) → DerivesFrom A P g
conjunction_right A P f g d = by_list A P (And f g ∷ []) g (d, tt) (λ ax h p. and_right ax h f g p.0)

pub parts_in : (A P : Formula → Type 0) (fs : List Formula) → AllDerive A P fs → DerivesFrom A P (joined fs)
parts_in A P fs p = by_list A P fs (joined fs) p (λ ax h q. joined_in ax h fs q)

along_all : (A P : Formula → Type 0) (ax h fs : List Formula) → All A ax → All P h → Along ax h fs → AllDerive A P fs
along_all A P ax h [] a p q = tt
along_all A P ax h (f ∷ fs) a p q = (record { axioms = ax; premises = h; are_axioms = a; are_premises = p; derives = q.0 }, along_all A P ax h fs a p q.1)

pub parts_out : (A P : Formula → Type 0) (fs : List Formula) → DerivesFrom A P (joined fs) → AllDerive A P fs
parts_out A P fs d = along_all A P d.axioms d.premises fs d.are_axioms d.are_premises (joined_out d.axioms d.premises fs d.derives)

-- negation
pub negation_in : (A P : Formula → Type 0) (f : Formula) → DerivesFrom A (Adjoined P f) falsity → DerivesFrom A P (Not f)
negation_in A P f d = by_one_more A P f falsity (Not f) d (λ ax ps h e. not_in ax ps f e)

pub negation_out : (A P : Formula → Type 0) (f g : Formula) → DerivesFrom A P f → DerivesFrom A P (Not f) → DerivesFrom A P g
negation_out A P f g d e = by_list A P (f ∷ Not f ∷ []) g (d, (e, tt)) (λ ax h p. not_out ax h f g p.0 p.1.0)

pub by_contradiction : (A P : Formula → Type 0) (f : Formula) → DerivesFrom A (Adjoined P (Not f)) falsity → DerivesFrom A P f
by_contradiction A P f d = by_one_more A P (Not f) falsity f d (λ ax ps h e. classical ax ps f e)

pub double_negation_in : (A P : Formula → Type 0) (f : Formula) → DerivesFrom A P f → DerivesFrom A P (Not (Not f))
double_negation_in A P f d = by_list A P (f ∷ []) (Not (Not f)) (d, tt) (λ ax h p. twice_in ax h f p.0)

pub double_negation_out : (A P : Formula → Type 0) (f : Formula) → DerivesFrom A P (Not (Not f)) → DerivesFrom A P f
double_negation_out A P f d = by_list A P (Not (Not f) ∷ []) f (d, tt) (λ ax h p. twice_out ax h f p.0)

pub negated_from_Not : (A P : Formula → Type 0) (f : Formula) → DerivesFrom A P (Not f) → DerivesFrom A P (negated f)
negated_from_Not A P f d = by_list A P (Not f ∷ []) (negated f) (d, tt) (λ ax h p. negated_in ax h f p.0)

pub Not_from_negated : (A P : Formula → Type 0) (f : Formula) → DerivesFrom A P (negated f) → DerivesFrom A P (Not f)
Not_from_negated A P f d = by_list A P (negated f ∷ []) (Not f) (d, tt) (λ ax h p. negated_out ax h f p.0)

pub in_both_cases : (A P : Formula → Type 0) (f g : Formula) → DerivesFrom A (Adjoined P f) g → DerivesFrom A (Adjoined P (Not f)) g → DerivesFrom A P g
in_both_cases A P f g d e =
    by_contradiction A P g (
    let Q : Formula → Type 0 = Adjoined P (Not g) in
    let not_f : DerivesFrom A Q (Not f) = negation_in A Q f (negation_out A (Adjoined Q f) g falsity (larger A A (Adjoined P f) (Adjoined Q f) g (λ k h. h) (λ k h. elim h [ inl p ↦ inl (inl p) | inr s ↦ inr s ]) d) (adjoined A Q f (Not g) (adjoined_premise A P (Not g)))) in
    let gives_g : DerivesFrom A Q g = cut_one A Q (Not f) g not_f (larger A A (Adjoined P (Not f)) (Adjoined Q (Not f)) g (λ k h. h) (λ k h. elim h [ inl p ↦ inl (inl p) | inr s ↦ inr s ]) e) in
    negation_out A Q g falsity gives_g (adjoined_premise A P (Not g))
    )

-- the same up to association and double negation
pub same_in_set : (A P : Formula → Type 0) (f g : Formula) → IsSame f g → DerivesFrom A P f → DerivesFrom A P g
same_in_set A P f g s d = by_list A P (f ∷ []) g (d, tt) (λ ax h p. same_derives ax h f g s p.0)

-- quantifiers
pub universal_at : (A P : Formula → Type 0) (b : Formula) (t : Term) → closed t ≡ true → DerivesFrom A P (formula.All b) → DerivesFrom A P (body_at b t)
universal_at A P b t ct d = by_list A P (formula.All b ∷ []) (body_at b t) (d, tt) (λ ax h p. all_out ax h b t ct p.0)

pub universals_at : (A P : Formula → Type 0) (ts : List Term) (f : Formula) → list_all closed ts ≡ true → DerivesFrom A P (quantified (length ts) f) → DerivesFrom A P (substitute_formula 0 (value_at ts) f)
universals_at A P ts f h d = by_list A P (quantified (length ts) f ∷ []) (substitute_formula 0 (value_at ts) f) (d, tt) (λ ax g p. quantified_out ax g ts f h p.0)

apart_from : (P : Formula → Type 0) (c : ℕ) (g : List Formula) → ((k : Formula) → P k → occurs_in_formula c k ≡ false) → All P g → list_any (occurs_in_formula c) g ≡ false
apart_from P c [] apart h = refl
apart_from P c (f ∷ fs) apart h = or_from (occurs_in_formula c f) (list_any (occurs_in_formula c) fs) (apart f (All-head P f fs h)) (apart_from P c fs apart (All-tail P f fs h))

pub generalization : (A P : Formula → Type 0) (b : Formula) (c : ℕ) → ((k : Formula) → P k → occurs_in_formula c k ≡ false) → occurs_in_formula c b ≡ false → DerivesFrom A P (body_at b (Const c)) → DerivesFrom A P (formula.All b)
generalization A P b c apart apart_b d = record {
  axioms = d.axioms;
  premises = d.premises;
  are_axioms = d.are_axioms;
  are_premises = d.are_premises;
  derives = all_in d.axioms d.premises b c (apart_from P c d.premises apart d.are_premises) apart_b d.derives;
}

pub existential_in : (A P : Formula → Type 0) (b : Formula) (t : Term) → closed t ≡ true → DerivesFrom A P (body_at b t) → DerivesFrom A P (Not (formula.All (Not b)))
existential_in A P b t ct d = by_list A P (body_at b t ∷ []) (Not (formula.All (Not b))) (d, tt) (λ ax h p. exists_in ax h b t ct p.0)

-- an object at which the body of an existential holds
existential_step : (A P : Formula → Type 0) (b g : Formula) (c : ℕ) → ((k : Formula) → P k → occurs_in_formula c k ≡ false) → occurs_in_formula c b ≡ false → occurs_in_formula c g ≡ false → DerivesFrom A (Adjoined P (body_at b (Const c))) g → DerivesFrom A P (implies (Not (formula.All (Not b))) g)
existential_step A P b g c apart apart_b apart_g e =
    let some : Formula = Not (formula.All (Not b)) in
    let at : Formula = body_at b (Const c) in
    by_one_more A P at g (implies some g) e
    (λ ax ps h d. implies_in ax ps some g (exists_out ax (some ∷ ps) b g c (or_from _ _ apart_b (apart_from P c ps apart h)) apart_b apart_g (first ax ps some) (premises_within (at ∷ ps) (at ∷ some ∷ ps) g ax (past_second ps at some) d)))

pub existential_out : (A P : Formula → Type 0) (b g : Formula) (c : ℕ) → ((k : Formula) → P k → occurs_in_formula c k ≡ false) → occurs_in_formula c b ≡ false → occurs_in_formula c g ≡ false → DerivesFrom A P (Not (formula.All (Not b))) → DerivesFrom A (Adjoined P (body_at b (Const c))) g → DerivesFrom A P g
existential_out A P b g c apart apart_b apart_g d e =
    detachment A P (Not (formula.All (Not b))) g (existential_step A P b g c apart apart_b apart_g e) d

-- an object at which the body of a universal fails
failing_step : (A P : Formula → Type 0) (b g : Formula) (c : ℕ) → ((k : Formula) → P k → occurs_in_formula c k ≡ false) → occurs_in_formula c b ≡ false → occurs_in_formula c g ≡ false → DerivesFrom A (Adjoined P (Not (body_at b (Const c)))) g → DerivesFrom A P (implies (Not (formula.All b)) g)
failing_step A P b g c apart apart_b apart_g e =
    let some : Formula = Not (formula.All b) in
    let at : Formula = Not (body_at b (Const c)) in
    by_one_more A P at g (implies some g) e
    (λ ax ps h d. implies_in ax ps some g (not_all_out ax (some ∷ ps) b g c (or_from _ _ apart_b (apart_from P c ps apart h)) apart_b apart_g (first ax ps some) (premises_within (at ∷ ps) (at ∷ some ∷ ps) g ax (past_second ps at some) d)))

pub failing_universal : (A P : Formula → Type 0) (b g : Formula) (c : ℕ) → ((k : Formula) → P k → occurs_in_formula c k ≡ false) → occurs_in_formula c b ≡ false → occurs_in_formula c g ≡ false → DerivesFrom A P (Not (formula.All b)) → DerivesFrom A (Adjoined P (Not (body_at b (Const c)))) g → DerivesFrom A P g
failing_universal A P b g c apart apart_b apart_g d e =
    detachment A P (Not (formula.All b)) g (failing_step A P b g c apart apart_b apart_g e) d

-- equations
pub equal_self : (A P : Formula → Type 0) (t : Term) → closed t ≡ true → DerivesFrom A P (Eq t t)
equal_self A P t ct = by_list A P [] (Eq t t) tt (λ ax h p. reflexive ax h t ct)

pub equal_swapped : (A P : Formula → Type 0) (t u : Term) → closed t ≡ true → closed u ≡ true → DerivesFrom A P (Eq t u) → DerivesFrom A P (Eq u t)
equal_swapped A P t u ct cu d = by_list A P (Eq t u ∷ []) (Eq u t) (d, tt) (λ ax h p. swapped ax h t u ct cu p.0)

pub equal_chained : (A P : Formula → Type 0) (t u v : Term) → closed u ≡ true → closed v ≡ true → DerivesFrom A P (Eq t u) → DerivesFrom A P (Eq u v) → DerivesFrom A P (Eq t v)
equal_chained A P t u v cu cv d e = by_list A P (Eq t u ∷ Eq u v ∷ []) (Eq t v) (d, (e, tt)) (λ ax h p. chained ax h t u v cu cv p.0 p.1.0)

pub equal_exchanged : (A P : Formula → Type 0) (t u : Term) (b : Formula) → closed t ≡ true → closed u ≡ true → DerivesFrom A P (Eq t u) → DerivesFrom A P (body_at b t) → DerivesFrom A P (body_at b u)
equal_exchanged A P t u b ct cu d e = by_list A P (Eq t u ∷ body_at b t ∷ []) (body_at b u) (d, (e, tt)) (λ ax h p. formula_congruence ax h t u b ct cu p.0 p.1.0)

-- letters and constants
images : (P : Formula → Type 0) (change : Formula → Formula) (g : List Formula) → All P g → All (IsImage change P) (map change g)
images P change g h = All-map (IsImage change P) change g (All-weaker P (λ k. IsImage change P (change k)) (λ k p. (k, p, refl)) g h)

pub instance_in_set : (A P : Formula → Type 0) (f : Formula) (ls : List Letter) → DerivesFrom A P f → DerivesFrom A (IsImage (instance ls) P) (instance ls f)
instance_in_set A P f ls d = record {
  axioms = d.axioms;
  premises = map (instance ls) d.premises;
  are_axioms = d.are_axioms;
  are_premises = images P (instance ls) d.premises d.are_premises;
  derives = instance_of d.axioms d.premises f ls d.derives;
}

pub constant_in_set : (A P : Formula → Type 0) (f : Formula) (c : ℕ) (t : Term) → closed t ≡ true → DerivesFrom A P f → DerivesFrom A (IsImage (formula_with c t) P) (formula_with c t f)
constant_in_set A P f c t ct d = record {
  axioms = d.axioms;
  premises = map (formula_with c t) d.premises;
  are_axioms = d.are_axioms;
  are_premises = images P (formula_with c t) d.premises d.are_premises;
  derives = constant_generalized d.axioms d.premises f c t ct d.derives;
}

-- a constant that occurs in no member
unchanged : (P : Formula → Type 0) (c : ℕ) (t : Term) → ((k : Formula) → P k → occurs_in_formula c k ≡ false) → (k : Formula) → IsImage (formula_with c t) P k → P k
unchanged P c t apart k h = subst P (sym (h.2 ∙ formula_with-absent c t h.0 (apart h.0 h.1))) h.1

pub fresh_constant : (A P : Formula → Type 0) (f : Formula) (c : ℕ) (t : Term) → closed t ≡ true → ((k : Formula) → P k → occurs_in_formula c k ≡ false) → DerivesFrom A P f → DerivesFrom A P (formula_with c t f)
fresh_constant A P f c t ct apart d =
    larger A A (IsImage (formula_with c t) P) P (formula_with c t f) (λ k h. h) (unchanged P c t apart) (constant_in_set A P f c t ct d)
