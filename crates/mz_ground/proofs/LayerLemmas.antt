-- The layers of a ground part.
use Rattle.std.proofs.Common.{◌≡◌, ◌<◌, ◌≤◌, ◌+◌, ℕ, zero, suc, List, [], ◌∷◌, ◌++◌, length, map, take, get_or, refl, sym as inverse, ap, ◌∙◌, subst, arith, ◌⊎◌, inl, inr, Some, add-one}
use Rattle.std.specs.Prelude.{Contains, slice_get}
use Rattle.std.proofs.lemmas.List.{take_all, get_or-take, length-take-le, length-map, length_push}
use Rattle.std.proofs.lemmas.List.Elements.{Contains-get_or}
use Rattle.std.proofs.lemmas.Option.{none-some}
use Rattle.std.proofs.lemmas.Bool.{cases_lt}
use Rattle.mz_logic.specs.declared.sym.Sym.{Sym}
use Rattle.mz_logic.specs.Term as term
use Rattle.mz_logic.specs.Term.{Term}
use Rattle.mz_logic.specs.declared.literal.Literal.{Literal}
use Rattle.mz_logic.specs.declared.literal.Literal.TheVariants as literals
use Rattle.mz_logic.specs.declared.disjunct.Disjunct.{Disjunct}
use Rattle.mz_ground.specs.GroundExpression.{GroundExpression, TermExpression, AtomExpression, EquationExpression, IsAtomExpression}
use Rattle.mz_logic.specs.Substitution.{substitute, value_at}
use Rattle.mz_ground.specs.Instance.{literal_at, trigger_at}
use Rattle.mz_ground.specs.Layers.{InLayer, first_constant, of_literal, of_universal, earlier, added, further_layers}
use Rattle.mz_ground.specs.Ground.{term_at, term_or_zero, ground_terms, ground_atoms, ground_equations, atom_expression, equation_expression, end_of, end_or_none, IsDistinct, IsGround, most_atoms, IsWithinTerms, IsWithinAtoms, AreWithinBefore, GroundFails, IsGroundWithinLimits}
use Rattle.mz_ground.specs.Table.{entry_terms}
use Rattle.mz_ground.specs.Growth.{IsMember, IsStored, IsNumbered, ReadsIn, Grows, IsExpressionOfLiterals, IsExpressionOfFormulas}
use Rattle.mz_ground.specs.Instances.{expression_or_zero, expression_at, IsAddedBy, IsBefore, IsEndIn, IsBetween, IsNew, IsSpan}
use Rattle.mz_ground.specs.Making.{whole_end, no_layer, IsStart, HasLayer, IsFirst, IsFilling, IsFilled, IsClosed, ClosingFails}
use Rattle.mz_ground.specs.declared.clause.Clause.{Clause}
use Rattle.mz_ground.specs.declared.ground_part.Ground.{Ground}
use Rattle.mz_ground.specs.declared.ground_term.GroundTerm.TheVariants as entry
use Rattle.mz_ground.specs.declared.ground_atom.GroundAtom.{GroundAtom}
use Rattle.mz_ground.specs.declared.layer_ends.LayerEnd.{LayerEnd}
use Rattle.mz_ground.specs.declared.trigger_places.TriggerPlaces.{TriggerPlaces}
use Rattle.mz_ground.specs.declared.expression_place.ExpressionPlace.{ExpressionPlace}
use Rattle.mz_ground.specs.declared.expression_place.ExpressionPlace.TheVariants as place
use Rattle.mz_ground.specs.declared.trigger.Trigger.{Trigger}
use Rattle.mz_ground.specs.declared.trigger.Trigger.TheVariants as trigger
use Rattle.mz_ground.specs.declared.ground_fault.GroundFault.{GroundFault}
use Rattle.mz_ground.specs.declared.ground_fault.GroundFault.TheVariants.{TooManyTerms, TooManyAtoms, Memory}
use Rattle.mz_ground.proofs.ListLemmas.{contains_none, contains_first, contains_one, contains_get, contains_map, get_left, get_map}
use Rattle.mz_ground.proofs.TableLemmas.{entry_terms-length, get-term_at}
use Rattle.mz_ground.proofs.GrowthLemmas.{grows_nothing, grows_both, member_grown}
use Rattle.mz_logic.proofs.ValueLaws.{substitute-no_values}
use Rattle.mz_ground.proofs.ExpressionLemmas.{all-no_values}
use Rattle.mz_ground.proofs.InstanceLemmas.{instance_as, before_kept, before_back, end_kept, contains_take, take_contains, atom_there}

-- what stands in a layer
abbrev LayerCases : Disjunct → List Clause → ℕ → GroundExpression → Type 0
LayerCases d cs zero p = (TermExpression (term.Const 0) ≡ p) ⊎ (IsExpressionOfLiterals d.literals p ⊎ IsExpressionOfFormulas d.universals p)
LayerCases d cs (suc n) p = InLayer d cs n p ⊎ IsAddedBy cs (InLayer d cs n) p

layer_cases : (d : Disjunct) (cs : List Clause) {n : ℕ} {p : GroundExpression} → InLayer d cs n p → LayerCases d cs n p
layer_cases d cs first_constant = inl refl
layer_cases d cs (of_literal l p c h k) = inr (inl (record { literal = l; among = c; expression = record { has = h; is_closed = k } }))
layer_cases d cs (of_universal f p c h k) = inr (inr (record { formula = f; among = c; expression = record { has = h; is_closed = k } }))
layer_cases d cs (earlier n p i) = inl i
layer_cases d cs (added n c ts l p among arity trig nodes lit h k) = inr (record { clause = c; among = among; instance = record { terms = ts; arity = arity; trigger = trig; nodes = nodes; expression = record { literal = l; among = lit; expression = record { has = h; is_closed = k } } } })

layer_added : (d : Disjunct) (cs : List Clause) (n : ℕ) (p : GroundExpression) → IsAddedBy cs (InLayer d cs n) p → InLayer d cs (suc n) p
layer_added d cs n p a = added n a.clause a.instance.terms a.instance.expression.literal p a.among a.instance.arity a.instance.trigger a.instance.nodes a.instance.expression.among a.instance.expression.expression.has a.instance.expression.expression.is_closed

-- the constant 0 alone
zero_earlier : (i k : ℕ) (s : Sym) (args : List ℕ) → slice_get (entry.Const 0 ∷ []) i ≡ Some (entry.App s args) → Contains args k → k < i
zero_earlier zero k s args e w = cc
zero_earlier (suc i) k s args e w = absurd (none-some (entry.App s args) e)

distinct_short : {A : Type 0} (xs : List A) → length xs ≤ 1 → IsDistinct xs
distinct_short xs le = λ i j x lt within e. omega (arith, lt, within)

pub first_numbered : (g : Ground) → IsFirst g → IsNumbered g
first_numbered g f =
    let m : Ground = record { terms = entry.Const 0 ∷ []; atoms = []; equations = []; ends = [] } in
    let n : IsNumbered m = record {
      table = record { earlier = zero_earlier; distinct = distinct_short (entry_terms (entry.Const 0 ∷ [])) (omega arith) };
      atoms_within = λ a k w v. absurd (contains_none a w);
      equations_within = λ e w. absurd (contains_none e w);
      distinct_atoms = distinct_short [] (omega arith);
      distinct_equations = distinct_short [] (omega arith);
    } in
    let path : m ≡ g = λ i. record { terms = inverse f.terms i; atoms = inverse f.atoms i; equations = inverse f.equations i; ends = inverse f.ends i } in
    subst IsNumbered path n

first_terms : (g : Ground) → IsFirst g → ground_terms g ≡ term.Const 0 ∷ []
first_terms g f = ap entry_terms f.terms

first_atoms : (g : Ground) → IsFirst g → ground_atoms g ≡ []
first_atoms g f = ap (map (atom_expression (ground_terms g))) f.atoms

first_equations : (g : Ground) → IsFirst g → ground_equations g ≡ []
first_equations g f = ap (map (equation_expression (ground_terms g))) f.equations

first_members : (g : Ground) → IsFirst g → (p : GroundExpression) → IsMember g p → TermExpression (term.Const 0) ≡ p
first_members g f (TermExpression t) w = ap TermExpression (contains_one (term.Const 0) t (subst (λ (z : List Term). Contains z t) (first_terms g f) w))
first_members g f (AtomExpression s ts) w = absurd (contains_none (AtomExpression s ts) (subst (λ (z : List GroundExpression). Contains z (AtomExpression s ts)) (first_atoms g f) w))
first_members g f (EquationExpression t u) w = absurd (contains_none (EquationExpression t u) (subst (λ (z : List GroundExpression). Contains z (EquationExpression t u)) (first_equations g f) w))

first_has : (g : Ground) → IsFirst g → IsMember g (TermExpression (term.Const 0))
first_has g f = subst (λ (z : List Term). Contains z (term.Const 0)) (inverse (first_terms g f)) (contains_first (term.Const 0) [])

literal_at-no_terms : (l : Literal) → literal_at [] l ≡ l
literal_at-no_terms (literals.Atom positive s us) = ap (literals.Atom positive s) (all-no_values us)
literal_at-no_terms (literals.Eq positive t u) = λ i. literals.Eq positive (substitute-no_values 0 t i) (substitute-no_values 0 u i)

all_literals-none : (ls : List Literal) → map (literal_at []) ls ≡ ls
all_literals-none [] = refl
all_literals-none (l ∷ ls) = λ i. literal_at-no_terms l i ∷ all_literals-none ls i

pub told_base : (d : Disjunct) (g h k : Ground) → IsFirst g → ((ts : List Term) → ReadsIn g [] ts → Grows g (IsExpressionOfLiterals (map (literal_at ts) d.literals)) h) → (IsNumbered h → Grows h (IsExpressionOfFormulas d.universals) k) → (cs : List Clause) → IsFilling d cs k 0
told_base d g h k f a b cs =
    let read : ReadsIn g [] [] = record { numbered = first_numbered g f; within = λ j w. absurd (contains_none j w); terms = refl } in
    let x : Grows g (IsExpressionOfLiterals d.literals) h = subst (λ (ls : List Literal). Grows g (IsExpressionOfLiterals ls) h) (all_literals-none d.literals) (a [] read) in
    let y : Grows h (IsExpressionOfFormulas d.universals) k = b x.numbered in
    let both : Grows g (λ p. IsExpressionOfLiterals d.literals p ⊎ IsExpressionOfFormulas d.universals p) k = grows_both g h k (IsExpressionOfLiterals d.literals) (IsExpressionOfFormulas d.universals) x y in
    record {
      numbered = both.numbered;
      count = ap length (both.ends ∙ f.ends);
      layers = λ m lt. absurd (omega (arith, lt));
      sound = λ p w. elim (both.sound p w) [
        | inl v ↦ subst (λ (z : GroundExpression). InLayer d cs 0 z) (first_members g f p v) first_constant
        | inr q ↦ elim q [
          | inl l ↦ of_literal l.literal p l.among l.expression.has l.expression.is_closed
          | inr u ↦ of_universal u.formula p u.among u.expression.has u.expression.is_closed
        ]
      ];
      complete = λ le p i. elim (layer_cases d cs i) [
        | inl e ↦ inl (subst (λ (z : GroundExpression). IsMember k z) e (member_grown g k (first_numbered g f) both.terms both.atoms both.equations (TermExpression (term.Const 0)) (first_has g f)))
        | inr q ↦ both.complete le p q
      ];
    }

pub ruleset first_rules = (first_numbered)

pub ruleset base_rules = (told_base)

-- all members stand before the end of all
whole_terms : (g : Ground) → take (whole_end g).terms (ground_terms g) ≡ ground_terms g
whole_terms g = take_all (length g.terms) (ground_terms g) (omega (arith, entry_terms-length g.terms))

whole_atoms : (g : Ground) → take (whole_end g).atoms (ground_atoms g) ≡ ground_atoms g
whole_atoms g = take_all (length g.atoms) (ground_atoms g) (omega (arith, length-map g.atoms (atom_expression (ground_terms g))))

whole_equations : (g : Ground) → take (whole_end g).equations (ground_equations g) ≡ ground_equations g
whole_equations g = take_all (length g.equations) (ground_equations g) (omega (arith, length-map g.equations (equation_expression (ground_terms g))))

member_before : (g : Ground) (p : GroundExpression) → IsMember g p → IsBefore g (whole_end g) p
member_before g (TermExpression t) w = subst (λ (z : List Term). Contains z t) (inverse (whole_terms g)) w
member_before g (AtomExpression s ts) w = subst (λ (z : List GroundExpression). Contains z (AtomExpression s ts)) (inverse (whole_atoms g)) w
member_before g (EquationExpression t u) w = subst (λ (z : List GroundExpression). Contains z (EquationExpression t u)) (inverse (whole_equations g)) w

before_member : (g : Ground) (p : GroundExpression) → IsBefore g (whole_end g) p → IsMember g p
before_member g (TermExpression t) w = subst (λ (z : List Term). Contains z t) (whole_terms g) w
before_member g (AtomExpression s ts) w = subst (λ (z : List GroundExpression). Contains z (AtomExpression s ts)) (whole_atoms g) w
before_member g (EquationExpression t u) w = subst (λ (z : List GroundExpression). Contains z (EquationExpression t u)) (whole_equations g) w

pub whole_in : (g : Ground) → IsEndIn g (whole_end g)
whole_in g = record { terms = omega arith; atoms = omega arith; equations = omega arith }

-- a layer is still there when more has been put behind it
layer_kept : (d : Disjunct) (cs : List Clause) (g h : Ground) (m : ℕ) (Q : GroundExpression → Type 0) → IsNumbered g → Grows g Q h → HasLayer d cs g m (end_of g m) → HasLayer d cs h m (end_of h m)
layer_kept d cs g h m Q n a l =
    let e : LayerEnd = end_of g m in
    let same : end_of h m ≡ e = ap (λ z. end_or_none (slice_get z m)) a.ends in
    let kept : HasLayer d cs h m e = record {
      within = end_kept g h Q e l.within a;
      members = λ p. (λ w. (l.members p).0 (before_back g h e n a.terms a.atoms a.equations l.within p w), λ i. before_kept g h e n a.terms a.atoms a.equations l.within p ((l.members p).1 i));
      terms = l.terms;
      atoms = l.atoms;
    } in
    subst (HasLayer d cs h m) (inverse same) kept

added_as : (cs : List Clause) (P Q : GroundExpression → Type 0) (p : GroundExpression) → ((q : GroundExpression) → P q → Q q) → IsAddedBy cs P p → IsAddedBy cs Q p
added_as cs P Q p h a = record { clause = a.clause; among = a.among; instance = instance_as a.clause P Q p h a.instance }

last_layer : (d : Disjunct) (cs : List Clause) (g : Ground) (n : ℕ) → IsFilled d cs g n → HasLayer d cs g n (whole_end g)
last_layer d cs g n f = subst (HasLayer d cs g n) f.last (f.layers n (omega arith))

-- what stands before an end stands before the start or is new
nothing_before : (g : Ground) (p : GroundExpression) → IsBefore g no_layer p → ⊥
nothing_before g (TermExpression t) w = contains_none t w
nothing_before g (AtomExpression s ts) w = contains_none (AtomExpression s ts) w
nothing_before g (EquationExpression t u) w = contains_none (EquationExpression t u) w

trigger_cases : (g : Ground) (s e : LayerEnd) (ts : List Term) (r : Trigger) → IsBefore g e (trigger_at ts r) → IsBefore g s (trigger_at ts r) ⊎ IsNew g s e (trigger_at ts r)
trigger_cases g s e ts (trigger.Term t) w =
    let q = take_contains (ground_terms g) e.terms (substitute 0 (value_at ts) t) w in
    elim (cases_lt q.0 s.terms) [
      | inl l ↦ inl (contains_take (ground_terms g) s.terms q.0 (substitute 0 (value_at ts) t) l q.2)
      | inr l ↦ inr (record { place = place.Term q.0; between = (l, q.1); is = ap TermExpression (inverse (ap term_or_zero q.2)) })
    ]
trigger_cases g s e ts (trigger.Atom a us) w =
    let p : GroundExpression = AtomExpression a (map (substitute 0 (value_at ts)) us) in
    let q = take_contains (ground_atoms g) e.atoms p w in
    elim (cases_lt q.0 s.atoms) [
      | inl l ↦ inl (contains_take (ground_atoms g) s.atoms q.0 p l q.2)
      | inr l ↦ inr (record { place = place.Atom q.0; between = (l, q.1); is = inverse (ap expression_or_zero q.2) })
    ]

before_at : (g : Ground) (s e : LayerEnd) → IsEndIn g e → (at : ExpressionPlace) → IsBetween s e at → IsBefore g e (expression_at g at)
before_at g s e w (place.Term k) b = contains_take (ground_terms g) e.terms k (term_at (ground_terms g) k) b.1 (get-term_at (ground_terms g) k (omega (arith, b.1, w.terms, entry_terms-length g.terms)))
before_at g s e w (place.Atom k) b =
    let q = atom_there g k (omega (arith, b.1, w.atoms)) in
    subst (λ (z : GroundExpression). IsBefore g e z) (inverse q.2) (contains_take (ground_atoms g) e.atoms k (atom_expression (ground_terms g) q.0) b.1 (get_map (atom_expression (ground_terms g)) g.atoms k q.0 q.1))

new_before : (g : Ground) (s e : LayerEnd) → IsEndIn g e → (p : GroundExpression) → IsNew g s e p → IsBefore g e p
new_before g s e w p q = subst (λ (z : GroundExpression). IsBefore g e z) (inverse q.is) (before_at g s e w q.place q.between)

-- what instances with a trigger before the start have is there
before_done : (d : Disjunct) (cs : List Clause) (g : Ground) (n : ℕ) (s : LayerEnd) → IsFilled d cs g n → IsStart g n s → (p : GroundExpression) → IsAddedBy cs (IsBefore g s) p → InLayer d cs n p
before_done d cs g zero s f b p a = absurd (nothing_before g (trigger_at a.instance.terms a.clause.trigger) (subst (λ (z : LayerEnd). IsBefore g z (trigger_at a.instance.terms a.clause.trigger)) b a.instance.trigger))
before_done d cs g (suc m) s f b p a =
    let l : HasLayer d cs g m (end_of g m) = f.layers m (omega arith) in
    layer_added d cs m p (added_as cs (IsBefore g s) (InLayer d cs m) p (λ q v. (l.members q).0 (subst (λ (z : LayerEnd). IsBefore g z q) b v)) a)

pub told_next : (d : Disjunct) (cs : List Clause) (g h : Ground) (n : ℕ) (s : LayerEnd) → IsFilled d cs g n → IsStart g n s → Grows g (IsAddedBy cs (IsNew g s (whole_end g))) h → IsFilling d cs h (n + 1)
told_next d cs g h n s f b a =
    let e : LayerEnd = whole_end g in
    let l : HasLayer d cs g n e = last_layer d cs g n f in
    let there : (p : GroundExpression) → InLayer d cs n p → IsMember h p = λ p j. member_grown g h f.numbered a.terms a.atoms a.equations p (before_member g p ((l.members p).1 j)) in
    let next : IsFilling d cs h (suc n) = record {
      numbered = a.numbered;
      count = ap length a.ends ∙ f.count;
      layers = λ j lt. layer_kept d cs g h j (IsAddedBy cs (IsNew g s e)) f.numbered a (f.layers j lt);
      sound = λ p w. elim (a.sound p w) [
        | inl v ↦ earlier n p ((l.members p).0 (member_before g p v))
        | inr r ↦ layer_added d cs n p (added_as cs (IsNew g s e) (InLayer d cs n) p (λ q v. (l.members q).0 (new_before g s e (whole_in g) q v)) r)
      ];
      complete = λ le p i. elim (layer_cases d cs i) [
        | inl j ↦ inl (there p j)
        | inr r ↦ elim (trigger_cases g s e r.instance.terms r.clause.trigger ((l.members (trigger_at r.instance.terms r.clause.trigger)).1 r.instance.trigger)) [
          | inl v ↦ inl (there p (before_done d cs g n s f b p (record { clause = r.clause; among = r.among; instance = record { terms = r.instance.terms; arity = r.instance.arity; trigger = v; nodes = r.instance.nodes; expression = r.instance.expression } })))
          | inr v ↦ a.complete le p (record { clause = r.clause; among = r.among; instance = record { terms = r.instance.terms; arity = r.instance.arity; trigger = v; nodes = r.instance.nodes; expression = r.instance.expression } })
        ]
      ];
    } in
    subst (IsFilling d cs h) (inverse (add-one n)) next

pub filled_span : (d : Disjunct) (cs : List Clause) (g : Ground) (n : ℕ) (s : LayerEnd) → IsFilled d cs g n → IsStart g n s → IsSpan g s (whole_end g)
filled_span d cs g zero s f b = record { end = whole_in g; terms = omega (arith, ap (λ (z : LayerEnd). z.terms) b); atoms = omega (arith, ap (λ (z : LayerEnd). z.atoms) b) }
filled_span d cs g (suc m) s f b =
    let w : IsEndIn g (end_of g m) = (f.layers m (omega arith)).within in
    record { end = whole_in g; terms = omega (arith, ap (λ (z : LayerEnd). z.terms) b, w.terms); atoms = omega (arith, ap (λ (z : LayerEnd). z.atoms) b, w.atoms) }

-- a layer added, where the places were made
pub told_layer : (g h : Ground) (cs : List Clause) (s e : LayerEnd) (x : TriggerPlaces) → e ≡ whole_end g → (x.start ≡ s) × (x.end ≡ e) → Grows g (IsAddedBy cs (IsNew g x.start x.end)) h → Grows g (IsAddedBy cs (IsNew g s (whole_end g))) h
told_layer g h cs s e x q p a =
    let to_start : Grows g (IsAddedBy cs (IsNew g s x.end)) h = subst (λ (z : LayerEnd). Grows g (IsAddedBy cs (IsNew g z x.end)) h) p.0 a in
    subst (λ (z : LayerEnd). Grows g (IsAddedBy cs (IsNew g s z)) h) (p.1 ∙ q) to_start

-- where no term and no atom stands behind the start of the layer, no instance is new
none_between : (s e : LayerEnd) → s.terms ≡ e.terms → s.atoms ≡ e.atoms → (k : ExpressionPlace) → IsBetween s e k → ⊥
none_between s e t a (place.Term k) b = omega (arith, t, b.0, b.1)
none_between s e t a (place.Atom k) b = omega (arith, a, b.0, b.1)

pub told_no_layer : (g : Ground) (cs : List Clause) (s e : LayerEnd) → IsNumbered g → e ≡ whole_end g → s.terms ≡ e.terms → s.atoms ≡ e.atoms → Grows g (IsAddedBy cs (IsNew g s (whole_end g))) g
told_no_layer g cs s e n q t a =
    let none : (p : GroundExpression) → IsNew g s e p → ⊥ = λ p r. none_between s e t a r.place r.between in
    subst (λ (z : LayerEnd). Grows g (IsAddedBy cs (IsNew g s z)) g) q (grows_nothing g (IsAddedBy cs (IsNew g s e)) n (λ p r. none (trigger_at r.instance.terms r.clause.trigger) r.instance.trigger))

pub span_as_read : (g : Ground) (s e : LayerEnd) → e ≡ whole_end g → IsSpan g s (whole_end g) → IsSpan g s e
span_as_read g s e q w = subst (λ (z : LayerEnd). IsSpan g s z) (inverse q) w

pub end_as_read : (g : Ground) (s e last : LayerEnd) → last ≡ e → IsSpan g s e → IsEndIn g last
end_as_read g s e last q w = subst (λ (z : LayerEnd). IsEndIn g z) (inverse q) w.end

pub ruleset add_layer_rules = (span_as_read, end_as_read, told_layer, told_no_layer)

-- closing a layer
stored_member : (g : Ground) (p : GroundExpression) → length g.atoms ≤ most_atoms → IsStored g p → IsMember g p
stored_member g p le s = elim s [ inl w ↦ w | inr q ↦ absurd (omega (arith, le, q.1)) ]

stored_term : (g : Ground) (t : Term) → IsStored g (TermExpression t) → Contains (ground_terms g) t
stored_term g t s = elim s [ inl w ↦ w | inr q ↦ absurd q.0 ]

get_end : {A : Type 0} (xs : List A) (x : A) → slice_get (xs ++ x ∷ []) (length xs) ≡ Some x
get_end [] x = refl
get_end (y ∷ ys) x = get_end ys x

pub told_filled : (d : Disjunct) (cs : List Clause) (g h : Ground) (n : ℕ) → IsFilling d cs g n → IsClosed g h → IsFilled d cs h n
told_filled d cs g h n f c =
    let e : LayerEnd = whole_end g in
    let m : Ground = record { terms = g.terms; atoms = g.atoms; equations = g.equations; ends = g.ends ++ e ∷ [] } in
    let path : m ≡ h = λ i. record { terms = inverse c.terms i; atoms = inverse c.atoms i; equations = inverse c.equations i; ends = inverse c.ends i } in
    let here : end_of m n ≡ e = ap (λ k. end_or_none (slice_get (g.ends ++ e ∷ []) k)) (inverse f.count) ∙ ap end_or_none (get_end g.ends e) in
    let old : (j : ℕ) → j < n → end_of m j ≡ end_of g j = λ j lt. ap end_or_none (get_left g.ends (e ∷ []) j (omega (arith, lt, f.count))) in
    let last : HasLayer d cs m n e = record { within = whole_in m; members = λ p. (λ w. f.sound p (before_member g p w), λ i. member_before g p (stored_member g p c.few_atoms (f.complete c.few_terms p i))); terms = c.few_terms; atoms = c.few_atoms } in
    let before : (j : ℕ) → j < n → HasLayer d cs m j (end_of m j) = λ j lt.
    let l = f.layers j lt in
    let r : HasLayer d cs m j (end_of g j) = record { within = record { terms = l.within.terms; atoms = l.within.atoms; equations = l.within.equations }; members = l.members; terms = l.terms; atoms = l.atoms } in
    subst (HasLayer d cs m j) (inverse (old j lt)) r in
    let numbered' : IsNumbered m = record { table = f.numbered.table; atoms_within = f.numbered.atoms_within; equations_within = f.numbered.equations_within; distinct_atoms = f.numbered.distinct_atoms; distinct_equations = f.numbered.distinct_equations } in
    let all : IsFilled d cs m n = record {
      numbered = numbered';
      count = length_push g.ends e ∙ omega (arith, f.count);
      last = here;
      layers = λ j lt. elim (cases_lt j n) [
        | inl l ↦ before j l
        | inr l ↦ let q : n ≡ j = omega (arith, lt, l) in subst (λ (k : ℕ). HasLayer d cs m k (end_of m k)) q (subst (HasLayer d cs m n) (inverse here) last)
      ];
    } in
    subst (λ (z : Ground). IsFilled d cs z n) path all

-- why there is no ground part
distinct_take : {A : Type 0} (xs : List A) (n : ℕ) → IsDistinct xs → n ≤ length xs → IsDistinct (take n xs)
distinct_take xs n h le = λ i j x lt within e.
    let size : length (take n xs) ≡ n = length-take-le n xs le in
    let lj : j < n = omega (arith, within, size) in
    let li : i < n = omega (arith, lt, lj) in
    h i j x lt (omega (arith, lj, le)) (inverse (get_or-take n xs i x li) ∙ e ∙ get_or-take n xs j x lj)

atom_only : (ts : List Term) (items : List GroundAtom) (p : GroundExpression) → Contains (map (atom_expression ts) items) p → IsAtomExpression p
atom_only ts items p w = let m = contains_map (atom_expression ts) items p w in subst IsAtomExpression m.2 tt

within_terms : (d : Disjunct) (cs : List Clause) (g : Ground) (m : ℕ) (e : LayerEnd) → IsNumbered g → HasLayer d cs g m e → IsWithinTerms d cs m
within_terms d cs g m e n l =
    let le : e.terms ≤ length (ground_terms g) = omega (arith, l.within.terms, entry_terms-length g.terms) in
    (take e.terms (ground_terms g), record { members = λ t. l.members (TermExpression t); distinct = distinct_take (ground_terms g) e.terms n.table.distinct le }, omega (arith, length-take-le e.terms (ground_terms g) le, l.terms))

atoms_to : (d : Disjunct) (cs : List Clause) (g : Ground) (m : ℕ) (e : LayerEnd) → HasLayer d cs g m e → (p : GroundExpression) → Contains (take e.atoms (ground_atoms g)) p → IsAtomExpression p → InLayer d cs m p
atoms_to d cs g m e l (TermExpression t) w a = absurd a
atoms_to d cs g m e l (AtomExpression s ts) w a = (l.members (AtomExpression s ts)).0 w
atoms_to d cs g m e l (EquationExpression t u) w a = absurd a

atoms_from : (d : Disjunct) (cs : List Clause) (g : Ground) (m : ℕ) (e : LayerEnd) → HasLayer d cs g m e → (p : GroundExpression) → IsAtomExpression p → InLayer d cs m p → Contains (take e.atoms (ground_atoms g)) p
atoms_from d cs g m e l (TermExpression t) a i = absurd a
atoms_from d cs g m e l (AtomExpression s ts) a i = (l.members (AtomExpression s ts)).1 i
atoms_from d cs g m e l (EquationExpression t u) a i = absurd a

within_atoms : (d : Disjunct) (cs : List Clause) (g : Ground) (m : ℕ) (e : LayerEnd) → IsNumbered g → HasLayer d cs g m e → IsWithinAtoms d cs m
within_atoms d cs g m e n l =
    let le : e.atoms ≤ length (ground_atoms g) = omega (arith, l.within.atoms, length-map g.atoms (atom_expression (ground_terms g))) in
    let only : (p : GroundExpression) → Contains (take e.atoms (ground_atoms g)) p → IsAtomExpression p = λ p w. let r = take_contains (ground_atoms g) e.atoms p w in atom_only (ground_terms g) g.atoms p (contains_get (ground_atoms g) r.0 p r.2) in
    (take e.atoms (ground_atoms g), record { members = λ p. (λ w. (only p w, atoms_to d cs g m e l p w (only p w)), λ a. atoms_from d cs g m e l p a.0 a.1); distinct = distinct_take (ground_atoms g) e.atoms n.distinct_atoms le }, omega (arith, length-take-le e.atoms (ground_atoms g) le, l.atoms))

before_layers : (d : Disjunct) (cs : List Clause) (g : Ground) (n : ℕ) → IsFilling d cs g n → AreWithinBefore d cs n
before_layers d cs g n f = λ m lt. (within_terms d cs g m (end_of g m) f.numbered (f.layers m lt), within_atoms d cs g m (end_of g m) f.numbered (f.layers m lt))

atom_member : (g : Ground) (p : GroundExpression) → IsAtomExpression p → Contains (ground_atoms g) p → IsMember g p
atom_member g (TermExpression t) a w = absurd a
atom_member g (AtomExpression s ts) a w = w
atom_member g (EquationExpression t u) a w = absurd a

pub told_fails : (d : Disjunct) (cs : List Clause) (g : Ground) (n : ℕ) (f : GroundFault) → IsFilling d cs g n → n ≤ 4 → ClosingFails g f → GroundFails d cs f
told_fails d cs g n TooManyTerms h le lt = (
  n,
  record {
    layer = le;
    before = before_layers d cs g n h;
    passes = (ground_terms g, h.numbered.table.distinct, λ k t within. h.sound (TermExpression (get_or (ground_terms g) k t)) (Contains-get_or (ground_terms g) k t within), omega (arith, lt, entry_terms-length g.terms));
  },
)
told_fails d cs g n TooManyAtoms h le r = (
  n,
  record {
    layer = le;
    before = before_layers d cs g n h;
    terms = (ground_terms g, record { members = λ t. (λ w. h.sound (TermExpression t) w, λ i. stored_term g t (h.complete r.0 (TermExpression t) i)); distinct = h.numbered.table.distinct }, omega (arith, r.0, entry_terms-length g.terms));
    passes = (
      ground_atoms g,
      h.numbered.distinct_atoms,
      λ k p within. (let w = Contains-get_or (ground_atoms g) k p within in let a = atom_only (ground_terms g) g.atoms (get_or (ground_atoms g) k p) w in (a, h.sound (get_or (ground_atoms g) k p) (atom_member g (get_or (ground_atoms g) k p) a w))),
      omega (arith, r.1, length-map g.atoms (atom_expression (ground_terms g))),
    );
  },
)
told_fails d cs g n Memory h le r = tt

pub told_ground : (d : Disjunct) (cs : List Clause) (g : Ground) → IsFilled d cs g 4 → IsGroundWithinLimits d cs g
told_ground d cs g f =
    let at : (n : ℕ) → n ≤ further_layers → HasLayer d cs g n (end_of g n) = λ n le. f.layers n (omega (arith, le)) in
    let l : HasLayer d cs g 4 (whole_end g) = last_layer d cs g 4 f in (
      record {
        earlier = f.numbered.table.earlier;
        atoms_within = f.numbered.atoms_within;
        equations_within = f.numbered.equations_within;
        layers = f.count;
        terms = λ n t le. (at n le).members (TermExpression t);
        atoms = λ n s ts le. (at n le).members (AtomExpression s ts);
        equations = λ n t u le. (at n le).members (EquationExpression t u);
        all = f.last;
        distinct_terms = f.numbered.table.distinct;
        distinct_atoms = f.numbered.distinct_atoms;
        distinct_equations = f.numbered.distinct_equations;
      },
      l.terms,
      l.atoms,
    )

pub filled_numbered : (d : Disjunct) (cs : List Clause) (g : Ground) (n : ℕ) → IsFilled d cs g n → IsNumbered g
filled_numbered d cs g n f = f.numbered

-- a ground part is one in which a trigger may be matched
pub numbered_from_ground : (d : Disjunct) (cs : List Clause) (g : Ground) → IsGround d cs g → IsNumbered g
numbered_from_ground d cs g h = record { table = record { earlier = h.earlier; distinct = h.distinct_terms }; atoms_within = h.atoms_within; equations_within = h.equations_within; distinct_atoms = h.distinct_atoms; distinct_equations = h.distinct_equations }

pub start_next : (d : Disjunct) (cs : List Clause) (g h k : Ground) (Q : GroundExpression → Type 0) (n : ℕ) (e : LayerEnd) → IsFilled d cs g n → Grows g Q h → IsClosed h k → e ≡ whole_end g → IsStart k (n + 1) e
start_next d cs g h k Q n e f a c q =
    let lt : n < length g.ends = omega (arith, f.count) in
    let same : slice_get k.ends n ≡ slice_get g.ends n = ap (λ z. slice_get z n) (c.ends ∙ ap (λ z. z ++ whole_end h ∷ []) a.ends) ∙ get_left g.ends (whole_end h ∷ []) n lt in
    let here : IsStart k (suc n) e = q ∙ inverse f.last ∙ inverse (ap end_or_none same) in
    subst (λ (m : ℕ). IsStart k m e) (inverse (add-one n)) here

-- the same, where the number of layers was read
pub ground_as_read : (d : Disjunct) (cs : List Clause) (g : Ground) (n : ℕ) → n ≡ 4 → IsFilled d cs g n → IsGroundWithinLimits d cs g
ground_as_read d cs g n q f = told_ground d cs g (subst (IsFilled d cs g) q f)

pub ruleset ground_rules = (told_next, told_filled, told_fails, told_ground, whole_in, filled_numbered, filled_span)
