-- Matching a trigger against a ground term or atom.
use Rattle.std.proofs.Common.{◌≡◌, ◌<◌, ◌+◌, ℕ, zero, suc, Bool, true, false, List, [], ◌∷◌, ◌++◌, length, map, get_or, refl, sym as inverse, ap, ◌∙◌, subst, arith, inl, inr, Option, Some, None}
use Rattle.std.specs.Prelude.{Contains, slice_get, option_map}
use Rattle.std.specs.List.{list_any}
use Rattle.std.proofs.lemmas.List.{take_more, take_all, map_push, length_push}
use Rattle.std.proofs.lemmas.List.Elements.{Contains-push_cases}
use Rattle.std.proofs.lemmas.Option.{slice_get-map, get_or_from_slice_get}
use Rattle.std.proofs.lemmas.Bool.{false≢true}
use Rattle.mz_logic.specs.declared.sym.Sym.{Sym}
use Rattle.mz_logic.specs.Term as term
use Rattle.mz_logic.specs.Term.{Term}
use Rattle.mz_ground.specs.Variables.{has_index, trigger_has, has_all_below}
use Rattle.mz_ground.specs.GroundExpression.{GroundExpression, TermExpression, AtomExpression}
use Rattle.mz_logic.specs.Substitution.{substitute, value_at}
use Rattle.mz_ground.specs.Instance.{trigger_at}
use Rattle.mz_ground.specs.Ground.{term_at, ground_terms, atom_expression}
use Rattle.mz_ground.specs.Table.{IsTable, entry_terms}
use Rattle.mz_ground.specs.Matches.{IsValue, IsTermValue, AreTermsValue}
use Rattle.mz_ground.specs.Growth.{IsNumbered}
use Rattle.mz_ground.specs.Instances.{expression_or_zero, expression_at, IsExpressionPlace, IsMatch, IsTriggerValue, MatchedBelow}
use Rattle.mz_ground.specs.declared.clause.Clause.{Clause}
use Rattle.mz_ground.specs.declared.trigger.Trigger.{Trigger}
use Rattle.mz_ground.specs.declared.trigger.Trigger.TheVariants as trigger
use Rattle.mz_ground.specs.declared.ground_part.Ground.{Ground}
use Rattle.mz_ground.specs.declared.ground_atom.GroundAtom.{GroundAtom}
use Rattle.mz_ground.specs.declared.ground_term.GroundTerm.{GroundTerm}
use Rattle.mz_ground.specs.declared.expression_place.ExpressionPlace.{ExpressionPlace}
use Rattle.mz_ground.specs.declared.expression_place.ExpressionPlace.TheVariants as place
use Rattle.mz_ground.proofs.ListLemmas.{contains_none, contains_get}
use Rattle.mz_ground.proofs.VariableLemmas.{lacks_all}

has_at : (b : Bool) (i n : ℕ) (r : Trigger) → trigger_has i r ≡ b → i < n → has_all_below n r ≡ true → trigger_has i r ≡ true
has_at true i n r e lt h = e
has_at false i n r e lt h = absurd (false≢true (lacks_all i n r lt e ∙ h))

pub atom_at : (g : Ground) (k : ℕ) (a : GroundAtom) → slice_get g.atoms k ≡ Some a → expression_at g (place.Atom k) ≡ AtomExpression a.sym (map (term_at (ground_terms g)) a.args)
atom_at g k a e = ap expression_or_zero (slice_get-map (atom_expression (ground_terms g)) g.atoms k ∙ ap (option_map (atom_expression (ground_terms g))) e)

same_term : (t u : Term) → TermExpression t ≡ TermExpression u → t ≡ u
same_term t u e = cc

same_head : (r s : Sym) (ts us : List Term) → AtomExpression r ts ≡ AtomExpression s us → r ≡ s
same_head r s ts us e = cc

same_args : (r s : Sym) (ts us : List Term) → AtomExpression r ts ≡ AtomExpression s us → ts ≡ us
same_args r s ts us e = cc

value_as : (es : List GroundTerm) (index : ℕ) (E F : List Term → Type 0) (b : Bool) (r : Option ℕ) → ((ts : List Term) → F ts → E ts) → IsValue es index E b r → IsValue es index F b r
value_as es index E F b None h v = λ o ts l f. v o ts l (h ts f)
value_as es index E F b (Some k) h v = (v.0, λ ts l f. v.1 ts l (h ts f))

pub told_term : (g : Ground) (index k : ℕ) (r : Trigger) (at : ExpressionPlace) (t : Term) (o : Option ℕ) → r ≡ trigger.Term t → at ≡ place.Term k → IsTermValue g.terms index t k o → IsTriggerValue g index r (expression_at g at) o
told_term g index k r at t o er ea v =
    let here : IsTriggerValue g index (trigger.Term t) (TermExpression (term_at (ground_terms g) k)) o =
    record { value = value_as g.terms index (λ ts. substitute 0 (value_at ts) t ≡ term_at (entry_terms g.terms) k) (λ ts. TermExpression (substitute 0 (value_at ts) t) ≡ TermExpression (term_at (ground_terms g) k)) (has_index index t) o (λ ts e. same_term (substitute 0 (value_at ts) t) (term_at (ground_terms g) k) e) v.value } in
    subst (λ (z : Trigger). IsTriggerValue g index z (expression_at g at) o) (inverse er) (subst (λ (z : ExpressionPlace). IsTriggerValue g index (trigger.Term t) (expression_at g z) o) (inverse ea) here)

pub told_atom : (g : Ground) (index k : ℕ) (r : Trigger) (at : ExpressionPlace) (s : Sym) (us : List Term) (a : GroundAtom) (o : Option ℕ) → r ≡ trigger.Atom s us → at ≡ place.Atom k → slice_get g.atoms k ≡ Some a → AreTermsValue g.terms index us a.args o → IsTriggerValue g index r (expression_at g at) o
told_atom g index k r at s us a o er ea ga v =
    let here : IsTriggerValue g index (trigger.Atom s us) (AtomExpression a.sym (map (term_at (ground_terms g)) a.args)) o =
    record { value = value_as g.terms index (λ ts. map (substitute 0 (value_at ts)) us ≡ map (term_at (entry_terms g.terms)) a.args) (λ ts. AtomExpression s (map (substitute 0 (value_at ts)) us) ≡ AtomExpression a.sym (map (term_at (ground_terms g)) a.args)) (list_any (has_index index) us) o (λ ts e. same_args s a.sym (map (substitute 0 (value_at ts)) us) (map (term_at (ground_terms g)) a.args) e) v.value } in
    subst (λ (z : Trigger). IsTriggerValue g index z (expression_at g at) o) (inverse er)
    (subst (λ (z : ExpressionPlace). IsTriggerValue g index (trigger.Atom s us) (expression_at g z) o) (inverse ea)
    (subst (λ (z : GroundExpression). IsTriggerValue g index (trigger.Atom s us) z o) (inverse (atom_at g k a ga)) here))

pub told_other_sym : (g : Ground) (index k : ℕ) (r : Trigger) (at : ExpressionPlace) (s : Sym) (us : List Term) (a : GroundAtom) → r ≡ trigger.Atom s us → at ≡ place.Atom k → slice_get g.atoms k ≡ Some a → (s ≡ a.sym → ⊥) → IsTriggerValue g index r (expression_at g at) None
told_other_sym g index k r at s us a er ea ga n =
    let here : IsTriggerValue g index (trigger.Atom s us) (AtomExpression a.sym (map (term_at (ground_terms g)) a.args)) None =
    record { value = λ o ts l e. n (same_head s a.sym (map (substitute 0 (value_at ts)) us) (map (term_at (ground_terms g)) a.args) e) } in
    subst (λ (z : Trigger). IsTriggerValue g index z (expression_at g at) None) (inverse er)
    (subst (λ (z : ExpressionPlace). IsTriggerValue g index (trigger.Atom s us) (expression_at g z) None) (inverse ea)
    (subst (λ (z : GroundExpression). IsTriggerValue g index (trigger.Atom s us) z None) (inverse (atom_at g k a ga)) here))

-- a trigger of the other form
pub term_at_atom : (g : Ground) → (k : ℕ) (a : GroundAtom) (ts : List Term) (t : Term) → slice_get g.atoms k ≡ Some a → TermExpression (substitute 0 (value_at ts) t) ≡ expression_at g (place.Atom k) → ⊥
term_at_atom g k a ts t ga e = let q : TermExpression (substitute 0 (value_at ts) t) ≡ AtomExpression a.sym (map (term_at (ground_terms g)) a.args) = e ∙ atom_at g k a ga in cc

atom_entry : (items : List GroundAtom) (k : ℕ) → k < length items → (a : GroundAtom) × (slice_get items k ≡ Some a)
atom_entry [] k lt = absurd (omega arith)
atom_entry (a ∷ items) zero lt = (a, refl)
atom_entry (a ∷ items) (suc k) lt = atom_entry items k (omega arith)

apart_term : (g : Ground) (k : ℕ) (ts : List Term) (t : Term) → k < length g.atoms → TermExpression (substitute 0 (value_at ts) t) ≡ expression_at g (place.Atom k) → ⊥
apart_term g k ts t lt e = let d = atom_entry g.atoms k lt in term_at_atom g k d.0 ts t d.1 e

apart_atom : (t : Term) (s : Sym) (us : List Term) → AtomExpression s us ≡ TermExpression t → ⊥
apart_atom t s us e = cc

pub told_term_at_atom : (g : Ground) (index k : ℕ) (r : Trigger) (at : ExpressionPlace) (t : Term) → r ≡ trigger.Term t → at ≡ place.Atom k → IsExpressionPlace g at → IsTriggerValue g index r (expression_at g at) None
told_term_at_atom g index k r at t er ea w =
    let lt : k < length g.atoms = subst (λ (z : ExpressionPlace). IsExpressionPlace g z) ea w in
    let here : IsTriggerValue g index (trigger.Term t) (expression_at g (place.Atom k)) None = record { value = λ o ts l e. apart_term g k ts t lt e } in
    subst (λ (z : Trigger). IsTriggerValue g index z (expression_at g at) None) (inverse er) (subst (λ (z : ExpressionPlace). IsTriggerValue g index (trigger.Term t) (expression_at g z) None) (inverse ea) here)

pub told_atom_at_term : (g : Ground) (index k : ℕ) (r : Trigger) (at : ExpressionPlace) (s : Sym) (us : List Term) → r ≡ trigger.Atom s us → at ≡ place.Term k → IsTriggerValue g index r (expression_at g at) None
told_atom_at_term g index k r at s us er ea =
    let here : IsTriggerValue g index (trigger.Atom s us) (expression_at g (place.Term k)) None = record { value = λ o ts l e. apart_atom (term_at (ground_terms g) k) s (map (substitute 0 (value_at ts)) us) e } in
    subst (λ (z : Trigger). IsTriggerValue g index z (expression_at g at) None) (inverse er) (subst (λ (z : ExpressionPlace). IsTriggerValue g index (trigger.Atom s us) (expression_at g z) None) (inverse ea) here)

pub place_of_term : (g : Ground) (k : ℕ) (at : ExpressionPlace) → at ≡ place.Term k → IsExpressionPlace g at → k < length g.terms
place_of_term g k at e w = subst (λ (z : ExpressionPlace). IsExpressionPlace g z) e w

pub place_of_atom : (g : Ground) (k : ℕ) (at : ExpressionPlace) → at ≡ place.Atom k → IsExpressionPlace g at → k < length g.atoms
place_of_atom g k at e w = subst (λ (z : ExpressionPlace). IsExpressionPlace g z) e w

pub table_of : (g : Ground) → IsNumbered g → IsTable g.terms
table_of g n = n.table

pub args_of_atom : (g : Ground) → IsNumbered g → (k : ℕ) (a : GroundAtom) → slice_get g.atoms k ≡ Some a → (j : ℕ) → Contains a.args j → j < length g.terms
args_of_atom g n k a e j w = n.atoms_within a j (contains_get g.atoms k a e) w

pub ruleset trigger_value_rules = (told_term, told_atom, told_other_sym, told_term_at_atom, told_atom_at_term, place_of_term, place_of_atom, table_of, args_of_atom)

-- whether the instance is the expression
pub trigger_at-term_is : (g : Ground) (ts : List Term) (k : ℕ) (r : Trigger) (at : ExpressionPlace) (t : Term) → r ≡ trigger.Term t → at ≡ place.Term k → substitute 0 (value_at ts) t ≡ term_at (entry_terms g.terms) k → trigger_at ts r ≡ expression_at g at
trigger_at-term_is g ts k r at t er ea e = ap (trigger_at ts) er ∙ ap TermExpression e ∙ ap (expression_at g) (inverse ea)

pub substitute-term_from : (g : Ground) (ts : List Term) (k : ℕ) (r : Trigger) (at : ExpressionPlace) (t : Term) → r ≡ trigger.Term t → at ≡ place.Term k → trigger_at ts r ≡ expression_at g at → substitute 0 (value_at ts) t ≡ term_at (entry_terms g.terms) k
substitute-term_from g ts k r at t er ea e = same_term (substitute 0 (value_at ts) t) (term_at (entry_terms g.terms) k) (ap (trigger_at ts) (inverse er) ∙ e ∙ ap (expression_at g) ea)

pub trigger_at-atom_is : (g : Ground) (ts : List Term) (k : ℕ) (r : Trigger) (at : ExpressionPlace) (s : Sym) (us : List Term) (a : GroundAtom) → r ≡ trigger.Atom s us → at ≡ place.Atom k → slice_get g.atoms k ≡ Some a → s ≡ a.sym → map (substitute 0 (value_at ts)) us ≡ map (term_at (entry_terms g.terms)) a.args → trigger_at ts r ≡ expression_at g at
trigger_at-atom_is g ts k r at s us a er ea ga es e = ap (trigger_at ts) er ∙ (λ i. AtomExpression (es i) (e i)) ∙ inverse (ap (expression_at g) ea ∙ atom_at g k a ga)

atom_equation : (g : Ground) (ts : List Term) (k : ℕ) (r : Trigger) (at : ExpressionPlace) (s : Sym) (us : List Term) (a : GroundAtom) → r ≡ trigger.Atom s us → at ≡ place.Atom k → slice_get g.atoms k ≡ Some a → trigger_at ts r ≡ expression_at g at → AtomExpression s (map (substitute 0 (value_at ts)) us) ≡ AtomExpression a.sym (map (term_at (entry_terms g.terms)) a.args)
atom_equation g ts k r at s us a er ea ga e = ap (trigger_at ts) (inverse er) ∙ e ∙ ap (expression_at g) ea ∙ atom_at g k a ga

pub atom_from_sym : (g : Ground) (ts : List Term) (k : ℕ) (r : Trigger) (at : ExpressionPlace) (s : Sym) (us : List Term) (a : GroundAtom) → r ≡ trigger.Atom s us → at ≡ place.Atom k → slice_get g.atoms k ≡ Some a → trigger_at ts r ≡ expression_at g at → s ≡ a.sym
atom_from_sym g ts k r at s us a er ea ga e = same_head s a.sym (map (substitute 0 (value_at ts)) us) (map (term_at (entry_terms g.terms)) a.args) (atom_equation g ts k r at s us a er ea ga e)

pub map-atom_from_args : (g : Ground) (ts : List Term) (k : ℕ) (r : Trigger) (at : ExpressionPlace) (s : Sym) (us : List Term) (a : GroundAtom) → r ≡ trigger.Atom s us → at ≡ place.Atom k → slice_get g.atoms k ≡ Some a → trigger_at ts r ≡ expression_at g at → map (substitute 0 (value_at ts)) us ≡ map (term_at (entry_terms g.terms)) a.args
map-atom_from_args g ts k r at s us a er ea ga e = same_args s a.sym (map (substitute 0 (value_at ts)) us) (map (term_at (entry_terms g.terms)) a.args) (atom_equation g ts k r at s us a er ea ga e)

pub term_not_atom : (g : Ground) (ts : List Term) (k : ℕ) (r : Trigger) (at : ExpressionPlace) (t : Term) → r ≡ trigger.Term t → at ≡ place.Atom k → IsExpressionPlace g at → trigger_at ts r ≡ expression_at g at → ⊥
term_not_atom g ts k r at t er ea w e = apart_term g k ts t (place_of_atom g k at ea w) (ap (trigger_at ts) (inverse er) ∙ e ∙ ap (expression_at g) ea)

pub atom_not_term : (g : Ground) (ts : List Term) (k : ℕ) (r : Trigger) (at : ExpressionPlace) (s : Sym) (us : List Term) → r ≡ trigger.Atom s us → at ≡ place.Term k → trigger_at ts r ≡ expression_at g at → ⊥
atom_not_term g ts k r at s us er ea e = apart_atom (term_at (ground_terms g) k) s (map (substitute 0 (value_at ts)) us) (ap (trigger_at ts) (inverse er) ∙ e ∙ ap (expression_at g) ea)

pub ruleset instance_rules = (trigger_at-term_is, substitute-term_from, trigger_at-atom_is, atom_from_sym, map-atom_from_args, term_not_atom, atom_not_term, place_of_term, place_of_atom, table_of, args_of_atom)

-- the places for the variables
pub matched_none : (g : Ground) (c : Clause) (p : GroundExpression) → MatchedBelow g c p 0 []
matched_none g c p = record { arity = refl; within = λ k w. absurd (contains_none k w); only = λ ts l e. refl }

pub matched_more : (g : Ground) (c : Clause) (p : GroundExpression) (i k : ℕ) (places : List ℕ) → i < c.variables → MatchedBelow g c p i places → IsTriggerValue g i c.trigger p (Some k) → MatchedBelow g c p (i + 1) (places ++ k ∷ [])
matched_more g c p i k places lt m v =
    record {
      arity = length_push places k ∙ ap (λ n. n + 1) m.arity;
      within = λ j w. elim (Contains-push_cases places k j w) [ inl a ↦ m.within j a | inr e ↦ subst (λ (z : ℕ). z < length g.terms) e v.value.0 ];
      only = λ ts l e.
          let here : i < length ts = omega arith in
          let at : slice_get ts i ≡ Some (term_at (entry_terms g.terms) k) = v.value.1 ts here e in
          let item : get_or ts i (term.Const 0) ≡ term_at (entry_terms g.terms) k = get_or_from_slice_get ts i (term_at (entry_terms g.terms) k) (term.Const 0) at in
          take_more ts i (term.Const 0) here ∙ (λ j. m.only ts l e j ++ item j ∷ []) ∙ inverse (map_push (term_at (ground_terms g)) places k);
    }

pub match_missing : (g : Ground) (c : Clause) (p : GroundExpression) (i : ℕ) → i < c.variables → IsTriggerValue g i c.trigger p None → IsMatch g c p None
match_missing g c p i lt v = λ ts l e. v.value (has_at (trigger_has i c.trigger) i c.variables c.trigger refl lt c.triggered) ts (omega arith) e

all_only : (g : Ground) (c : Clause) (p : GroundExpression) (places : List ℕ) → MatchedBelow g c p c.variables places → (ts : List Term) → length ts ≡ c.variables → trigger_at ts c.trigger ≡ p → ts ≡ map (term_at (ground_terms g)) places
all_only g c p places m ts l e = inverse (take_all c.variables ts (omega arith)) ∙ m.only ts l e

pub match_found : (g : Ground) (c : Clause) (p : GroundExpression) (places : List ℕ) → MatchedBelow g c p c.variables places → trigger_at (map (term_at (ground_terms g)) places) c.trigger ≡ p → IsMatch g c p (Some places)
match_found g c p places m e = record { arity = m.arity; within = m.within; instance = e; only = all_only g c p places m }

pub match_other : (g : Ground) (c : Clause) (p : GroundExpression) (places : List ℕ) → MatchedBelow g c p c.variables places → (trigger_at (map (term_at (ground_terms g)) places) c.trigger ≡ p → ⊥) → IsMatch g c p None
match_other g c p places m n = λ ts l e. n (subst (λ (z : List Term). trigger_at z c.trigger ≡ p) (all_only g c p places m ts l e) e)

pub matched_within : (g : Ground) (c : Clause) (p : GroundExpression) (i : ℕ) (places : List ℕ) → MatchedBelow g c p i places → (k : ℕ) → Contains places k → k < length g.terms
matched_within g c p i places m k w = m.within k w

pub ruleset match_rules = (matched_none, matched_more, match_missing, match_found, match_other, matched_within)
