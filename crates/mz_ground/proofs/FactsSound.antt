-- Each fact derives from the disjunct's literals and the clauses.
use Rattle.std.proofs.Common.{◌≡◌, ◌<◌, ◌≤◌, ℕ, zero, suc, List, [], ◌∷◌, map, length, refl, sym, ap, ◌∙◌, subst, arith, Bool, true, false}
use Rattle.std.specs.Prelude.{◌&&◌, ◌||◌, nat_lt}
use Rattle.std.specs.List.{list_all, list_any}
use Rattle.std.proofs.lemmas.Bool.{ltb-true, ltb-false, eqb-true, and_parts, and_from}
use Rattle.mz_logic.specs.declared.sym.Sym.{Sym}
use Rattle.mz_logic.specs.Term as term
use Rattle.mz_logic.specs.Term.{Bound, Const, App, none, more, terms_of}
use Rattle.mz_logic.specs.Formula as formula
use Rattle.mz_logic.specs.Formula.{Formula, Not}
use Rattle.mz_logic.specs.Indices.{closed, args_below}
use Rattle.mz_logic.specs.Negation.{falsity}
use Rattle.mz_logic.specs.Equality as equality
use Rattle.mz_logic.specs.Literal.{literal_formula}
use Rattle.mz_logic.specs.declared.literal.Literal.{Literal}
use Rattle.mz_logic.specs.declared.literal.Literal.TheVariants.{Atom, Eq}
use Rattle.mz_logic.specs.declared.disjunct.Disjunct.{Disjunct}
use Rattle.mz_logic.specs.Derives.{Derives}
use Rattle.mz_logic.proofs.IndexLemmas.{args_below-terms_of}
use Rattle.mz_logic.proofs.ValueLaws.{substitute-value_at}
use Rattle.mz_logic.proofs.Rules.{not_in, not_out, reflexive}
use Rattle.mz_logic.proofs.Connectives.{first, under, swapped, chained}
use Rattle.mz_logic.proofs.Congruence.{atom_congruence, application_congruence}
use Rattle.mz_ground.specs.declared.clause.Clause.{Clause}
use Rattle.mz_ground.specs.declared.trigger.Trigger.{Trigger}
use Rattle.mz_ground.specs.declared.trigger.Trigger.TheVariants as trigger
use Rattle.mz_ground.specs.Variables.{has_index, args_have_index, trigger_has, has_all_below}
use Rattle.mz_ground.specs.GroundExpression.{GroundExpression, expression_closed}
use Rattle.mz_logic.specs.Substitution.{value_at, substitute, substitute_args}
use Rattle.mz_ground.specs.Instance.{trigger_at, premises_at, conclusion_at}
use Rattle.mz_ground.specs.Layers as layers
use Rattle.mz_ground.specs.Layers.{InLayer, IsGroundLiteral}
use Rattle.mz_ground.specs.Facts as facts
use Rattle.mz_ground.specs.Facts.{Fact, AreEqual, AreFacts, IsContradictory}
use Rattle.mz_logic.specs.Connectives.{quantified}
use Rattle.mz_logic.proofs.Each.{Along, quantified_out}
use Rattle.mz_ground.specs.ClauseFormula.{implication, clause_formula}
use Rattle.mz_ground.specs.Laws.{IsGranted}
use Rattle.mz_ground.proofs.ClauseInstance.{substitute_formula-implication, implication_out}

-- what is ground has no index
pub expression_closed-InLayer : (d : Disjunct) (cs : List Clause) (n : ℕ) (p : GroundExpression) → InLayer d cs n p → expression_closed p ≡ true
expression_closed-InLayer d cs n p layers.first_constant = refl
expression_closed-InLayer d cs n p (layers.of_literal l q c h e) = e
expression_closed-InLayer d cs n p (layers.of_universal f q c h e) = e
expression_closed-InLayer d cs n p (layers.earlier m q i) = expression_closed-InLayer d cs m q i
expression_closed-InLayer d cs n p (layers.added m c ts l q a b i z k h e) = e

abbrev pub literal_closed : Literal → Bool
literal_closed (Atom positive s ts) = list_all closed ts
literal_closed (Eq positive t u) = closed t && closed u

pub literal_closed-ground : (d : Disjunct) (cs : List Clause) (l : Literal) → IsGroundLiteral d cs l → literal_closed l ≡ true
literal_closed-ground d cs (Atom positive s ts) i = expression_closed-InLayer d cs _ _ i
literal_closed-ground d cs (Eq positive t u) i = expression_closed-InLayer d cs _ _ i

-- the sides of a closed equation, and two closed terms as one
pub sides : (t u : term.Term) → (closed t && closed u) ≡ true → (closed t ≡ true) × (closed u ≡ true)
sides t u h = and_parts (closed t) (closed u) h

pub both_sides : (t u : term.Term) → closed t ≡ true → closed u ≡ true → (closed t && closed u) ≡ true
both_sides t u h k = and_from (closed t) (closed u) h k

pub closed_args : (s : Sym) (ts : List term.Term) → closed (App s (terms_of ts)) ≡ true → list_all closed ts ≡ true
closed_args s ts h = sym (args_below-terms_of 0 ts) ∙ h

-- facts have no index
pub literal_closed-Fact : (d : Disjunct) (cs : List Clause) (l : Literal) → Fact d cs l → literal_closed l ≡ true
literal_closed-Fact d cs l (facts.given k c i) = literal_closed-ground d cs k i
literal_closed-Fact d cs l (facts.reflexive t i) =
    let c : closed t ≡ true = expression_closed-InLayer d cs _ _ i in
    both_sides t t c c
literal_closed-Fact d cs l (facts.symmetric t u f) =
    let c : (closed t ≡ true) × (closed u ≡ true) = sides t u (literal_closed-Fact d cs _ f) in
    both_sides u t c.1 c.0
literal_closed-Fact d cs l (facts.transitive t u v f k) =
    let c : (closed t ≡ true) × (closed u ≡ true) = sides t u (literal_closed-Fact d cs _ f) in
    let e : (closed u ≡ true) × (closed v ≡ true) = sides u v (literal_closed-Fact d cs _ k) in
    both_sides t v c.0 e.1
literal_closed-Fact d cs l (facts.congruent s ts us i j es) = both_sides (App s (terms_of ts)) (App s (terms_of us)) (expression_closed-InLayer d cs _ _ i) (expression_closed-InLayer d cs _ _ j)
literal_closed-Fact d cs l (facts.atom_congruence positive s ts us f i es) = expression_closed-InLayer d cs _ _ i
literal_closed-Fact d cs l (facts.reversed t u f) =
    let c : (closed t ≡ true) × (closed u ≡ true) = sides t u (literal_closed-Fact d cs _ f) in
    both_sides u t c.1 c.0
literal_closed-Fact d cs l (facts.fired c ts m n t p i fs) = literal_closed-ground d cs (conclusion_at c ts) i

-- the terms of an instance whose trigger is closed are closed
false-is-not-true : false ≡ true → ⊥
false-is-not-true e = cc

abbrev closed_terms : term.Terms → Bool
closed_terms = args_below 0

or_parts : {P : Type 0} (a b : Bool) → (a || b) ≡ true → (a ≡ true → P) → (b ≡ true → P) → P
or_parts true b h f k = f refl
or_parts false b h f k = k h

mutual
  index_closed : (ts : List term.Term) (i : ℕ) (t : term.Term) → has_index i t ≡ true → closed (substitute 0 (value_at ts) t) ≡ true → closed (value_at ts i) ≡ true
  index_closed ts i (Bound index) h c =
      let e : index ≡ i = eqb-true index i h in
      subst (λ j. closed (value_at ts j) ≡ true) e (ap closed (sym (substitute-value_at ts index)) ∙ c)
  index_closed ts i (Const number) h c = absurd (false-is-not-true h)
  index_closed ts i (App s us) h c = index_closed_args ts i us h c

  index_closed_args : (ts : List term.Term) (i : ℕ) (us : term.Terms) → args_have_index i us ≡ true → closed_terms (substitute_args 0 (value_at ts) us) ≡ true → closed (value_at ts i) ≡ true
  index_closed_args ts i none h c = absurd (false-is-not-true h)
  index_closed_args ts i (more u us) h c =
      let p = and_parts (closed (substitute 0 (value_at ts) u)) (closed_terms (substitute_args 0 (value_at ts) us)) c in
      or_parts (has_index i u) (args_have_index i us) h (λ k. index_closed ts i u k p.0) (λ k. index_closed_args ts i us k p.1)

index_closed_list : (ts : List term.Term) (i : ℕ) (us : List term.Term) → list_any (has_index i) us ≡ true → list_all closed (map (substitute 0 (value_at ts)) us) ≡ true → closed (value_at ts i) ≡ true
index_closed_list ts i [] h c = absurd (false-is-not-true h)
index_closed_list ts i (u ∷ us) h c =
    let p = and_parts (closed (substitute 0 (value_at ts) u)) (list_all closed (map (substitute 0 (value_at ts)) us)) c in
    or_parts (has_index i u) (list_any (has_index i) us) h (λ k. index_closed ts i u k p.0) (λ k. index_closed_list ts i us k p.1)

index_closed_trigger : (ts : List term.Term) (i : ℕ) (r : Trigger) → trigger_has i r ≡ true → expression_closed (trigger_at ts r) ≡ true → closed (value_at ts i) ≡ true
index_closed_trigger ts i (trigger.Term t) h c = index_closed ts i t h c
index_closed_trigger ts i (trigger.Atom s us) h c = index_closed_list ts i us h c

below_or_last : {P : Type 0} (n i : ℕ) (b : Bool) → nat_lt i n ≡ b → i < suc n → (i < n → P) → (i ≡ n → P) → P
below_or_last n i true e lt f k = f (ltb-true i n e)
below_or_last n i false e lt f k = let le : n ≤ i = ltb-false i n e in k (omega arith)

trigger_has-below : (r : Trigger) (n i : ℕ) → has_all_below n r ≡ true → i < n → trigger_has i r ≡ true
trigger_has-below r zero i h lt = absurd (omega arith)
trigger_has-below r (suc n) i h lt =
    let p = and_parts (trigger_has n r) (has_all_below n r) h in
    below_or_last n i (nat_lt i n) refl lt (λ k. trigger_has-below r n i p.1 k) (λ e. subst (λ j. trigger_has j r ≡ true) (sym e) p.0)

list_closed : (ts : List term.Term) → ((i : ℕ) → i < length ts → closed (value_at ts i) ≡ true) → list_all closed ts ≡ true
list_closed [] h = refl
list_closed (t ∷ ts) h = and_from (closed t) (list_all closed ts) (h 0 (omega arith)) (list_closed ts (λ i lt. h (suc i) (omega arith)))

pub terms_closed : (c : Clause) (ts : List term.Term) → length ts ≡ c.variables → expression_closed (trigger_at ts c.trigger) ≡ true → list_all closed ts ≡ true
terms_closed c ts n h =
    list_closed ts (λ i lt. index_closed_trigger ts i c.trigger (trigger_has-below c.trigger c.variables i c.triggered (omega (arith, n))) h)

-- an instance derives from its clause
pub clause_instance : (ax g : List Formula) (c : Clause) (ts : List term.Term) → list_all closed ts ≡ true → length ts ≡ c.variables → Derives ax g (clause_formula c) → Derives ax g (implication (premises_at c ts) (conclusion_at c ts))
clause_instance ax g c ts h n d =
    let body : Formula = implication c.premises c.conclusion in
    let at_length : Derives ax g (quantified (length ts) body) = subst (λ m. Derives ax g (quantified m body)) (sym n) d in
    subst (Derives ax g) (substitute_formula-implication ts c.premises c.conclusion) (quantified_out ax g ts body h at_length)

turned_derives : (ax g : List Formula) (t u : term.Term) → closed t ≡ true → closed u ≡ true → Derives ax g (Not (formula.Eq t u)) → Derives ax g (Not (formula.Eq u t))
turned_derives ax g t u ct cu d =
    let e : Formula = formula.Eq u t in
    not_in ax g e (not_out ax (e ∷ g) (formula.Eq t u) falsity (swapped ax (e ∷ g) u t cu ct (first ax g e)) (under ax g e (Not (formula.Eq t u)) d))

mutual
  pub fact_derives : (ax g : List Formula) (d : Disjunct) (cs : List Clause) → IsGranted ax g d cs → (l : Literal) → Fact d cs l → Derives ax g (literal_formula l)
  fact_derives ax g d cs h l (facts.given k c i) = h.literals k c
  fact_derives ax g d cs h l (facts.reflexive t i) = reflexive ax g t (expression_closed-InLayer d cs _ _ i)
  fact_derives ax g d cs h l (facts.symmetric t u f) =
      let c : (closed t ≡ true) × (closed u ≡ true) = sides t u (literal_closed-Fact d cs _ f) in
      swapped ax g t u c.0 c.1 (fact_derives ax g d cs h (Eq true t u) f)
  fact_derives ax g d cs h l (facts.transitive t u v f k) =
      let e : (closed u ≡ true) × (closed v ≡ true) = sides u v (literal_closed-Fact d cs _ k) in
      chained ax g t u v e.0 e.1 (fact_derives ax g d cs h (Eq true t u) f) (fact_derives ax g d cs h (Eq true u v) k)
  fact_derives ax g d cs h l (facts.congruent s ts us i j es) =
      application_congruence ax g s ts us (closed_args s ts (expression_closed-InLayer d cs _ _ i)) (closed_args s us (expression_closed-InLayer d cs _ _ j)) (equals_derive ax g d cs h ts us es)
  fact_derives ax g d cs h l (facts.atom_congruence true s ts us f i es) =
      atom_congruence ax g s ts us (literal_closed-Fact d cs _ f) (expression_closed-InLayer d cs _ _ i) (equals_derive ax g d cs h ts us es) (fact_derives ax g d cs h (Atom true s ts) f)
  fact_derives ax g d cs h l (facts.atom_congruence false s ts us f i es) =
      let a : Formula = formula.Atom s us in
      let back : Derives ax (a ∷ g) (formula.Atom s ts) =
      atom_congruence ax (a ∷ g) s us ts (expression_closed-InLayer d cs _ _ i) (literal_closed-Fact d cs _ f) (equals_turned ax g d cs h a ts us es) (first ax g a) in
      not_in ax g a (not_out ax (a ∷ g) (formula.Atom s ts) falsity back (under ax g a (Not (formula.Atom s ts)) (fact_derives ax g d cs h (Atom false s ts) f)))
  fact_derives ax g d cs h l (facts.reversed t u f) =
      let c : (closed t ≡ true) × (closed u ≡ true) = sides t u (literal_closed-Fact d cs _ f) in
      turned_derives ax g t u c.0 c.1 (fact_derives ax g d cs h (Eq false t u) f)
  fact_derives ax g d cs h l (facts.fired c ts m n t p i fs) =
      let ground : list_all closed ts ≡ true = terms_closed c ts n (expression_closed-InLayer d cs _ _ t) in
      implication_out ax g (premises_at c ts) (conclusion_at c ts) (clause_instance ax g c ts ground n (h.clauses c m)) (facts_derive ax g d cs h (premises_at c ts) fs)

  equals_derive : (ax g : List Formula) (d : Disjunct) (cs : List Clause) → IsGranted ax g d cs → (ts us : List term.Term) → AreEqual d cs ts us → equality.AreEqual ax g ts us
  equals_derive ax g d cs h ts us facts.no_terms = tt
  equals_derive ax g d cs h ts us (facts.and_terms t u vs ws f es) = (fact_derives ax g d cs h (Eq true t u) f, equals_derive ax g d cs h vs ws es)

  -- the equations the other way round, under one more premise
  equals_turned : (ax g : List Formula) (d : Disjunct) (cs : List Clause) → IsGranted ax g d cs → (a : Formula) (ts us : List term.Term) → AreEqual d cs ts us → equality.AreEqual ax (a ∷ g) us ts
  equals_turned ax g d cs h a ts us facts.no_terms = tt
  equals_turned ax g d cs h a ts us (facts.and_terms t u vs ws f es) =
      let c : (closed t ≡ true) × (closed u ≡ true) = sides t u (literal_closed-Fact d cs _ f) in
      (under ax g a (formula.Eq u t) (swapped ax g t u c.0 c.1 (fact_derives ax g d cs h (Eq true t u) f)), equals_turned ax g d cs h a vs ws es)

  facts_derive : (ax g : List Formula) (d : Disjunct) (cs : List Clause) → IsGranted ax g d cs → (ls : List Literal) → AreFacts d cs ls → Along ax g (map literal_formula ls)
  facts_derive ax g d cs h ls facts.no_literals = tt
  facts_derive ax g d cs h ls (facts.and_literals l ks f fs) = (fact_derives ax g d cs h l f, facts_derive ax g d cs h ks fs)

pub contradiction_derives : (ax g : List Formula) (d : Disjunct) (cs : List Clause) → IsGranted ax g d cs → IsContradictory d cs → Derives ax g falsity
contradiction_derives ax g d cs h (facts.on_atom s ts a b) = not_out ax g (formula.Atom s ts) falsity (fact_derives ax g d cs h (Atom true s ts) a) (fact_derives ax g d cs h (Atom false s ts) b)
contradiction_derives ax g d cs h (facts.on_equation t u a b) = not_out ax g (formula.Eq t u) falsity (fact_derives ax g d cs h (Eq true t u) a) (fact_derives ax g d cs h (Eq false t u) b)
