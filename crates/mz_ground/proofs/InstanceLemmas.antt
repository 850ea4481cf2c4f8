-- What putting the expressions of instances into a ground part leaves.
use Rattle.std.proofs.Common.{◌≡◌, ◌<◌, ◌≤◌, ◌+◌, ℕ, zero, suc, List, [], ◌∷◌, ◌++◌, length, map, take, get_or, refl, sym as inverse, ap, ◌∙◌, subst, arith, ◌⊎◌, inl, inr, Option, Some, None}
use Rattle.std.specs.Prelude.{Contains, slice_get}
use Rattle.std.proofs.lemmas.List.{take_all, take-append-le, take_more, length-append, length-map}
use Rattle.std.proofs.lemmas.List.Elements.{Contains-append_left, Contains-append_right, Contains-push, Contains-push_cases, Contains-get_or}
use Rattle.std.proofs.lemmas.Option.{none-some, same_Some}
use Rattle.mz_logic.specs.declared.sym.Sym.{Sym}
use Rattle.mz_logic.specs.Term.{Term}
use Rattle.mz_logic.specs.Literal.{literal_formula}
use Rattle.mz_ground.specs.GroundExpression.{GroundExpression, TermExpression, AtomExpression, EquationExpression}
use Rattle.mz_logic.specs.Substitution.{substitute, value_at}
use Rattle.mz_ground.specs.Instance.{trigger_at, literal_at, premises_at, conclusion_at, instance_nodes}
use Rattle.mz_ground.specs.Ground.{term_at, ground_terms, ground_atoms, ground_equations, atom_expression, equation_expression, most_terms}
use Rattle.mz_ground.specs.Layers.{most_nodes}
use Rattle.mz_ground.specs.Table.{Extends, entry_terms}
use Rattle.mz_ground.specs.Growth.{IsNumbered, ReadsIn, Grows, IsExpressionOf, IsExpressionOfLiterals}
use Rattle.mz_ground.specs.Instances.{expression_or_zero, expression_at, place_like, IsExpressionPlace, IsMatchAt, IsMatch, IsInstanceExpression, IsAddedBy, IsBefore, IsEndIn, IsExpressionAt, IsAmong, IsBetween, IsNew}
use Rattle.mz_ground.specs.Heads.{AreTriggerPlaces, candidates}
use Rattle.mz_ground.specs.declared.clause.Clause.{Clause}
use Rattle.mz_ground.specs.declared.trigger.Trigger.{Trigger}
use Rattle.mz_ground.specs.declared.trigger.Trigger.TheVariants as trigger
use Rattle.mz_ground.specs.declared.ground_part.Ground.{Ground}
use Rattle.mz_ground.specs.declared.ground_atom.GroundAtom.{GroundAtom}
use Rattle.mz_ground.specs.declared.layer_ends.LayerEnd.{LayerEnd}
use Rattle.mz_ground.specs.declared.trigger_places.TriggerPlaces.{TriggerPlaces}
use Rattle.mz_ground.specs.declared.expression_place.ExpressionPlace.{ExpressionPlace}
use Rattle.mz_ground.specs.declared.expression_place.ExpressionPlace.TheVariants as place
use Rattle.mz_ground.proofs.ListLemmas.{contains_none, contains_first, contains_later, contains_cases, contains_get, extends-length, get_extended, get_some, get_map}
use Rattle.mz_ground.proofs.TableLemmas.{entry_terms-length, term_at_grown}
use Rattle.mz_ground.proofs.GrowthLemmas.{grows_nothing, grows_both, grows_as, grows_within, terms_grown, atoms_extend, equations_extend, reads_in_grown}
use Rattle.mz_ground.proofs.ExpressionLemmas.{literals_more}
use Rattle.mz_ground.proofs.HeadLemmas.{candidates_only, candidates_listed, trigger_places_kept}

-- an instance
pub told_instance : (g h k : Ground) (args : List ℕ) (c : Clause) → ((ts : List Term) → ReadsIn g args ts → Grows g (IsExpressionOfLiterals (map (literal_at ts) c.premises)) h) → ((ts : List Term) → ReadsIn h args ts → Grows h (IsExpressionOf (literal_formula (literal_at ts c.conclusion))) k) → (ts : List Term) → ReadsIn g args ts → Grows g (IsExpressionOfLiterals (premises_at c ts ++ conclusion_at c ts ∷ [])) k
told_instance g h k args c a b ts r =
    let first : Grows g (IsExpressionOfLiterals (premises_at c ts)) h = a ts r in
    literals_more g h k (premises_at c ts) (conclusion_at c ts) first (b ts (reads_in_grown g h (IsExpressionOfLiterals (premises_at c ts)) args ts r first))

pub ruleset instance_rules = (told_instance)

-- the one instance with a trigger
matched_reads : (g : Ground) (c : Clause) (p : GroundExpression) (places : List ℕ) → IsNumbered g → IsMatchAt g c p places → ReadsIn g places (map (term_at (ground_terms g)) places)
matched_reads g c p places n m = record { numbered = n; within = m.within; terms = refl }

pub told_added : (g h : Ground) (c : Clause) (at : ExpressionPlace) (places : List ℕ) → IsNumbered g → IsMatch g c (expression_at g at) (Some places) → instance_nodes c (map (term_at (entry_terms g.terms)) places) ≤ most_nodes → ((ts : List Term) → ReadsIn g places ts → Grows g (IsExpressionOfLiterals (premises_at c ts ++ conclusion_at c ts ∷ [])) h) → Grows g (IsInstanceExpression c (IsExpressionAt g at)) h
told_added g h c at places n m le a =
    let ts : List Term = map (term_at (ground_terms g)) places in
    let b : Grows g (IsExpressionOfLiterals (premises_at c ts ++ conclusion_at c ts ∷ [])) h = a ts (matched_reads g c (expression_at g at) places n m) in
    grows_as g h (IsExpressionOfLiterals (premises_at c ts ++ conclusion_at c ts ∷ [])) (IsInstanceExpression c (IsExpressionAt g at)) b
    (λ p q. record { terms = ts; arity = length-map places (term_at (ground_terms g)) ∙ m.arity; trigger = record { is = m.instance }; nodes = le; expression = q })
    (λ p q. subst (λ (us : List Term). IsExpressionOfLiterals (premises_at c us ++ conclusion_at c us ∷ []) p) (m.only q.terms q.arity q.trigger.is) q.expression)

pub told_too_large : (g : Ground) (c : Clause) (at : ExpressionPlace) (places : List ℕ) → IsNumbered g → IsMatch g c (expression_at g at) (Some places) → (instance_nodes c (map (term_at (entry_terms g.terms)) places) ≤ most_nodes → ⊥) → Grows g (IsInstanceExpression c (IsExpressionAt g at)) g
told_too_large g c at places n m small =
    grows_nothing g (IsInstanceExpression c (IsExpressionAt g at)) n
    (λ p q. small (subst (λ (us : List Term). instance_nodes c us ≤ most_nodes) (m.only q.terms q.arity q.trigger.is) q.nodes))

pub told_unmatched : (g : Ground) (c : Clause) (at : ExpressionPlace) → IsNumbered g → IsMatch g c (expression_at g at) None → Grows g (IsInstanceExpression c (IsExpressionAt g at)) g
told_unmatched g c at n m = grows_nothing g (IsInstanceExpression c (IsExpressionAt g at)) n (λ p q. m q.terms q.arity q.trigger.is)

pub matched_places : (g : Ground) (c : Clause) (p : GroundExpression) (places : List ℕ) → IsMatch g c p (Some places) → (k : ℕ) → Contains places k → k < length g.terms
matched_places g c p places m k w = m.within k w

-- the same, where the places were read
pub places_within : (g : Ground) (c : Clause) (p : GroundExpression) (r : Option (List ℕ)) (places xs : List ℕ) → r ≡ Some places → xs ≡ places → IsMatch g c p r → (k : ℕ) → Contains xs k → k < length g.terms
places_within g c p r places xs q e m k w = matched_places g c p places (subst (IsMatch g c p) q m) k (subst (λ (z : List ℕ). Contains z k) e w)

pub added_as_read : (g h : Ground) (c : Clause) (at : ExpressionPlace) (r : Option (List ℕ)) (places xs ys : List ℕ) → r ≡ Some places → xs ≡ places → ys ≡ places → IsNumbered g → IsMatch g c (expression_at g at) r → instance_nodes c (map (term_at (entry_terms g.terms)) xs) ≤ most_nodes → ((ts : List Term) → ReadsIn g ys ts → Grows g (IsExpressionOfLiterals (premises_at c ts ++ conclusion_at c ts ∷ [])) h) → Grows g (IsInstanceExpression c (IsExpressionAt g at)) h
added_as_read g h c at r places xs ys q e f n m le a = told_added g h c at places n (subst (IsMatch g c (expression_at g at)) q m) (subst (λ (z : List ℕ). instance_nodes c (map (term_at (entry_terms g.terms)) z) ≤ most_nodes) e le) (λ ts s. a ts (subst (λ (z : List ℕ). ReadsIn g z ts) (inverse f) s))

pub too_large_as_read : (g : Ground) (c : Clause) (at : ExpressionPlace) (r : Option (List ℕ)) (places xs : List ℕ) → r ≡ Some places → xs ≡ places → IsNumbered g → IsMatch g c (expression_at g at) r → (instance_nodes c (map (term_at (entry_terms g.terms)) xs) ≤ most_nodes → ⊥) → Grows g (IsInstanceExpression c (IsExpressionAt g at)) g
too_large_as_read g c at r places xs q e n m small = told_too_large g c at places n (subst (IsMatch g c (expression_at g at)) q m) (λ le. small (subst (λ (z : List ℕ). instance_nodes c (map (term_at (entry_terms g.terms)) z) ≤ most_nodes) (inverse e) le))

pub ruleset match_rules = (told_added, told_too_large, told_unmatched, matched_places)

-- the first members of a list
pub contains_take : {A : Type 0} (xs : List A) (n k : ℕ) (x : A) → k < n → slice_get xs k ≡ Some x → Contains (take n xs) x
contains_take [] n k x lt e = absurd (none-some x e)
contains_take (y ∷ ys) zero k x lt e = absurd (omega arith)
contains_take {A} (y ∷ ys) (suc n) zero x lt e = subst (λ (z : A). Contains (y ∷ take n ys) z) (same_Some y x e) (contains_first y (take n ys))
contains_take (y ∷ ys) (suc n) (suc k) x lt e = contains_later y x (take n ys) (contains_take ys n k x (omega arith) e)

pub take_contains : {A : Type 0} (xs : List A) (n : ℕ) (x : A) → Contains (take n xs) x → (k : ℕ) × (k < n) × (slice_get xs k ≡ Some x)
take_contains xs zero x w = absurd (contains_none x w)
take_contains [] (suc n) x w = absurd (contains_none x w)
take_contains (y ∷ ys) (suc n) x w =
    elim (contains_cases y x (take n ys) w) [
      | inl e ↦ (0, omega arith, ap Some e)
      | inr v ↦ let r = take_contains ys n x v in (suc r.0, omega (arith, r.1), r.2)
    ]

-- expressions of a ground part stay at their places
pub expression_at-term_kept : (g h : Ground) → Extends g.terms h.terms → (k : ℕ) → k < length g.terms → expression_at h (place.Term k) ≡ expression_at g (place.Term k)
expression_at-term_kept g h p k lt = ap TermExpression (term_at_grown g.terms h.terms p k lt)

pub expression_at-atom_kept : (g h : Ground) → IsNumbered g → Extends g.terms h.terms → Extends g.atoms h.atoms → (k : ℕ) → k < length g.atoms → expression_at h (place.Atom k) ≡ expression_at g (place.Atom k)
expression_at-atom_kept g h n p q k lt = ap expression_or_zero (get_extended (ground_atoms g) (ground_atoms h) k (atoms_extend g h n p q) (omega (arith, length-map g.atoms (atom_expression (ground_terms g)))))

pub instance_as : (c : Clause) (P Q : GroundExpression → Type 0) (p : GroundExpression) → ((q : GroundExpression) → P q → Q q) → IsInstanceExpression c P p → IsInstanceExpression c Q p
instance_as c P Q p h i = record { terms = i.terms; arity = i.arity; trigger = h (trigger_at i.terms c.trigger) i.trigger; nodes = i.nodes; expression = i.expression }

-- where there are more terms than the limit nothing is owed
grows_full : (g h : Ground) (Q R : GroundExpression → Type 0) → Grows g Q h → most_terms < length h.terms → ((p : GroundExpression) → Q p → R p) → Grows g R h
grows_full g h Q R a lt to = grows_within g h Q R a to (λ le p r. absurd (omega (arith, lt, le)))

pub numbered_after : (g h : Ground) (Q : GroundExpression → Type 0) → Grows g Q h → IsNumbered h
numbered_after g h Q a = a.numbered

pub expression_kept : (g h : Ground) → IsNumbered g → Extends g.terms h.terms → Extends g.atoms h.atoms → (at : ExpressionPlace) → IsExpressionPlace g at → expression_at h at ≡ expression_at g at
expression_kept g h n p q (place.Term k) lt = expression_at-term_kept g h p k lt
expression_kept g h n p q (place.Atom k) lt = expression_at-atom_kept g h n p q k lt

pub place_kept : (g h : Ground) (Q : GroundExpression → Type 0) → Grows g Q h → (at : ExpressionPlace) → IsExpressionPlace g at → IsExpressionPlace h at
place_kept g h Q a (place.Term k) lt = extends-length g.terms h.terms k a.terms lt
place_kept g h Q a (place.Atom k) lt = extends-length g.atoms h.atoms k a.atoms lt

-- one place after another
pub among_none : (g : Ground) (c : Clause) → IsNumbered g → Grows g (IsInstanceExpression c (IsAmong g c.trigger [])) g
among_none g c n = grows_nothing g (IsInstanceExpression c (IsAmong g c.trigger [])) n (λ p q. contains_none q.trigger.place q.trigger.among)

among_wider : (g : Ground) (r : Trigger) (ks js : List ℕ) → ((k : ℕ) → Contains ks k → Contains js k) → (p : GroundExpression) → IsAmong g r ks p → IsAmong g r js p
among_wider g r ks js h p q = record { place = q.place; among = h q.place q.among; is = q.is }

among_cases : (g : Ground) (r : Trigger) (ks : List ℕ) (j : ℕ) (p : GroundExpression) → IsAmong g r (ks ++ j ∷ []) p → IsAmong g r ks p ⊎ (p ≡ expression_at g (place_like r j))
among_cases g r ks j p q =
    elim (Contains-push_cases ks j q.place q.among) [
      | inl w ↦ inl (record { place = q.place; among = w; is = q.is })
      | inr e ↦ inr (q.is ∙ ap (λ k. expression_at g (place_like r k)) (inverse e))
    ]

listed_place : (g : Ground) (r : Trigger) (ks : List ℕ) (i j : ℕ) (at : ExpressionPlace) → i < length ks → j ≡ get_or ks i 0 → at ≡ place_like r j → ((m : ℕ) → Contains ks m → IsExpressionPlace g (place_like r m)) → IsExpressionPlace g at
listed_place g r ks i j at lt e here all =
    subst (λ (z : ExpressionPlace). IsExpressionPlace g z) (inverse here) (subst (λ (m : ℕ). IsExpressionPlace g (place_like r m)) (inverse e) (all (get_or ks i 0) (Contains-get_or ks i 0 lt)))

pub place_after : (g h : Ground) (Q : GroundExpression → Type 0) (r : Trigger) (ks : List ℕ) (i : ℕ) (at : ExpressionPlace) → i < length ks → at ≡ place_like r (get_or ks i 0) → ((m : ℕ) → Contains ks m → IsExpressionPlace g (place_like r m)) → Grows g Q h → IsExpressionPlace h at
place_after g h Q r ks i at lt here all a = place_kept g h Q a at (listed_place g r ks i (get_or ks i 0) at lt refl here all)

pub among_more : (g h k : Ground) (c : Clause) (ks : List ℕ) (i j : ℕ) (at : ExpressionPlace) → IsNumbered g → i < length ks → j ≡ get_or ks i 0 → at ≡ place_like c.trigger j → ((m : ℕ) → Contains ks m → IsExpressionPlace g (place_like c.trigger m)) → Grows g (IsInstanceExpression c (IsAmong g c.trigger (take i ks))) h → Grows h (IsInstanceExpression c (IsExpressionAt h at)) k → Grows g (IsInstanceExpression c (IsAmong g c.trigger (take (i + 1) ks))) k
among_more g h k c ks i j at n lt e here all a b =
    let w : IsExpressionPlace g at = listed_place g c.trigger ks i j at lt e here all in
    let r : Trigger = c.trigger in
    let js : List ℕ = take i ks in
    let more : take (i + 1) ks ≡ js ++ j ∷ [] = take_more ks i 0 lt ∙ ap (λ z. js ++ z ∷ []) (inverse e) in
    let same : expression_at h at ≡ expression_at g at = expression_kept g h n a.terms a.atoms at w in
    let there : expression_at h at ≡ expression_at g (place_like r j) = same ∙ ap (expression_at g) here in
    let to : (p : GroundExpression) → IsInstanceExpression c (IsAmong g r js) p ⊎ IsInstanceExpression c (IsExpressionAt h at) p → IsInstanceExpression c (IsAmong g r (js ++ j ∷ [])) p = λ p q. elim q [
      | inl x ↦ instance_as c (IsAmong g r js) (IsAmong g r (js ++ j ∷ [])) p (among_wider g r js (js ++ j ∷ []) (λ m v. Contains-append_left js (j ∷ []) m v)) x
      | inr y ↦ instance_as c (IsExpressionAt h at) (IsAmong g r (js ++ j ∷ [])) p (λ z s. record { place = j; among = Contains-push js j; is = s.is ∙ there }) y
    ] in
    let from : (p : GroundExpression) → IsInstanceExpression c (IsAmong g r (js ++ j ∷ [])) p → IsInstanceExpression c (IsAmong g r js) p ⊎ IsInstanceExpression c (IsExpressionAt h at) p = λ p q. elim (among_cases g r js j (trigger_at q.terms r) q.trigger) [
      | inl x ↦ inl (record { terms = q.terms; arity = q.arity; trigger = x; nodes = q.nodes; expression = q.expression })
      | inr y ↦ inr (record { terms = q.terms; arity = q.arity; trigger = record { is = y ∙ inverse there }; nodes = q.nodes; expression = q.expression })
    ] in
    subst (λ (z : List ℕ). Grows g (IsInstanceExpression c (IsAmong g r z)) k) (inverse more)
    (grows_as g k (λ p. IsInstanceExpression c (IsAmong g r js) p ⊎ IsInstanceExpression c (IsExpressionAt h at) p) (IsInstanceExpression c (IsAmong g r (js ++ j ∷ []))) (grows_both g h k (IsInstanceExpression c (IsAmong g r js)) (IsInstanceExpression c (IsExpressionAt h at)) a b) to from)

take_within : {A : Type 0} (xs : List A) (i : ℕ) (x : A) → Contains (take i xs) x → Contains xs x
take_within xs i x w = let r = take_contains xs i x w in contains_get xs r.0 x r.2

pub among_full : (g h : Ground) (c : Clause) (ks : List ℕ) (i : ℕ) → most_terms < length h.terms → Grows g (IsInstanceExpression c (IsAmong g c.trigger (take i ks))) h → Grows g (IsInstanceExpression c (IsAmong g c.trigger ks)) h
among_full g h c ks i full a =
    grows_full g h (IsInstanceExpression c (IsAmong g c.trigger (take i ks))) (IsInstanceExpression c (IsAmong g c.trigger ks)) a full
    (λ p q. instance_as c (IsAmong g c.trigger (take i ks)) (IsAmong g c.trigger ks) p (among_wider g c.trigger (take i ks) ks (λ k w. take_within ks i k w)) q)

pub among_all : (g h : Ground) (c : Clause) (ks : List ℕ) (i : ℕ) → length ks ≤ i → Grows g (IsInstanceExpression c (IsAmong g c.trigger (take i ks))) h → Grows g (IsInstanceExpression c (IsAmong g c.trigger ks)) h
among_all g h c ks i le a = subst (λ (z : List ℕ). Grows g (IsInstanceExpression c (IsAmong g c.trigger z)) h) (take_all i ks le) a

pub ruleset places_rules = (among_none, among_full, among_all, place_after, numbered_after)

-- what is new, and where a trigger may stand
pub between_place : (g : Ground) (s e : LayerEnd) → IsEndIn g e → (at : ExpressionPlace) → IsBetween s e at → IsExpressionPlace g at
between_place g s e w (place.Term k) b = omega (arith, b.1, w.terms)
between_place g s e w (place.Atom k) b = omega (arith, b.1, w.atoms)

-- the atom at a place
pub atom_there : (g : Ground) (k : ℕ) → k < length g.atoms → (a : GroundAtom) × (slice_get g.atoms k ≡ Some a) × (expression_at g (place.Atom k) ≡ atom_expression (ground_terms g) a)
atom_there g k lt =
    let q = get_some g.atoms k lt in
    (q.0, q.1, ap expression_or_zero (get_map (atom_expression (ground_terms g)) g.atoms k q.0 q.1))

no_atom : (t : Term) (s : Sym) (ts : List Term) → TermExpression t ≡ AtomExpression s ts → ⊥
no_atom t s ts e = cc

no_term : (t : Term) (s : Sym) (ts : List Term) → AtomExpression s ts ≡ TermExpression t → ⊥
no_term t s ts e = cc

among_at : (g : Ground) (x : TriggerPlaces) → IsNumbered g → IsEndIn g x.end → AreTriggerPlaces g x → (ts : List Term) (r : Trigger) (at : ExpressionPlace) → IsBetween x.start x.end at → trigger_at ts r ≡ expression_at g at → IsAmong g r (candidates x r) (trigger_at ts r)
among_at g x n w h ts (trigger.Term t) (place.Term k) b e = record { place = k; among = candidates_listed g x n w h ts (trigger.Term t) k b e; is = e }
among_at g x n w h ts (trigger.Term t) (place.Atom k) b e =
    let q = atom_there g k (between_place g x.start x.end w (place.Atom k) b) in
    absurd (no_atom (substitute 0 (value_at ts) t) q.0.sym (map (term_at (ground_terms g)) q.0.args) (e ∙ q.2))
among_at g x n w h ts (trigger.Atom s us) (place.Term k) b e = absurd (no_term (term_at (ground_terms g) k) s (map (substitute 0 (value_at ts)) us) e)
among_at g x n w h ts (trigger.Atom s us) (place.Atom k) b e = record { place = k; among = candidates_listed g x n w h ts (trigger.Atom s us) k b e; is = e }

pub told_clause : (g h : Ground) (c : Clause) (x : TriggerPlaces) (ks : List ℕ) → ks ≡ candidates x c.trigger → IsNumbered g → IsEndIn g x.end → AreTriggerPlaces g x → Grows g (IsInstanceExpression c (IsAmong g c.trigger ks)) h → Grows g (IsInstanceExpression c (IsNew g x.start x.end)) h
told_clause g h c x ks same n w f a =
    let r : Trigger = c.trigger in
    let b : Grows g (IsInstanceExpression c (IsAmong g r (candidates x r))) h = subst (λ (z : List ℕ). Grows g (IsInstanceExpression c (IsAmong g r z)) h) same a in
    grows_as g h (IsInstanceExpression c (IsAmong g r (candidates x r))) (IsInstanceExpression c (IsNew g x.start x.end)) b
    (λ p i. instance_as c (IsAmong g r (candidates x r)) (IsNew g x.start x.end) p (λ q s. record { place = place_like r s.place; between = candidates_only g x f r s.place s.among; is = s.is }) i)
    (λ p i. record { terms = i.terms; arity = i.arity; nodes = i.nodes; expression = i.expression; trigger = among_at g x n w f i.terms r i.trigger.place i.trigger.between i.trigger.is })

pub candidate_place : (g : Ground) (x : TriggerPlaces) (r : Trigger) (ks : List ℕ) → ks ≡ candidates x r → IsEndIn g x.end → AreTriggerPlaces g x → (k : ℕ) → Contains ks k → IsExpressionPlace g (place_like r k)
candidate_place g x r ks same w f k c = between_place g x.start x.end w (place_like r k) (candidates_only g x f r k (subst (λ (z : List ℕ). Contains z k) same c))

pub some_terms : (g : Ground) (x : TriggerPlaces) → AreTriggerPlaces g x → 0 < length x.terms
some_terms g x f = f.terms.some

pub some_atoms : (g : Ground) (x : TriggerPlaces) → AreTriggerPlaces g x → 0 < length x.atoms
some_atoms g x f = f.atoms.some

pub ruleset clause_rules = (told_clause, candidate_place, some_terms, some_atoms)

pub new_kept : (g h : Ground) (s e : LayerEnd) → IsNumbered g → Extends g.terms h.terms → Extends g.atoms h.atoms → IsEndIn g e → (p : GroundExpression) → IsNew g s e p → IsNew h s e p
new_kept g h s e n a b w p q = record { place = q.place; between = q.between; is = q.is ∙ inverse (expression_kept g h n a b q.place (between_place g s e w q.place q.between)) }

pub new_back : (g h : Ground) (s e : LayerEnd) → IsNumbered g → Extends g.terms h.terms → Extends g.atoms h.atoms → IsEndIn g e → (p : GroundExpression) → IsNew h s e p → IsNew g s e p
new_back g h s e n a b w p q = record { place = q.place; between = q.between; is = q.is ∙ expression_kept g h n a b q.place (between_place g s e w q.place q.between) }

-- what stands before an end stays there
take_extended : {A : Type 0} (xs ys : List A) (n : ℕ) → Extends xs ys → n ≤ length xs → take n ys ≡ take n xs
take_extended xs ys n p le = ap (take n) p.1 ∙ take-append-le n xs p.0 le

pub before_kept : (g h : Ground) (e : LayerEnd) → IsNumbered g → Extends g.terms h.terms → Extends g.atoms h.atoms → Extends g.equations h.equations → IsEndIn g e → (p : GroundExpression) → IsBefore g e p → IsBefore h e p
before_kept g h e n a b c w (TermExpression t) q = subst (λ (z : List Term). Contains z t) (inverse (take_extended (ground_terms g) (ground_terms h) e.terms (_, terms_grown g h a) (omega (arith, w.terms, entry_terms-length g.terms)))) q
before_kept g h e n a b c w (AtomExpression s ts) q = subst (λ (z : List GroundExpression). Contains z (AtomExpression s ts)) (inverse (take_extended (ground_atoms g) (ground_atoms h) e.atoms (atoms_extend g h n a b) (omega (arith, w.atoms, length-map g.atoms (atom_expression (ground_terms g)))))) q
before_kept g h e n a b c w (EquationExpression t u) q = subst (λ (z : List GroundExpression). Contains z (EquationExpression t u)) (inverse (take_extended (ground_equations g) (ground_equations h) e.equations (equations_extend g h n a c) (omega (arith, w.equations, length-map g.equations (equation_expression (ground_terms g)))))) q

pub before_back : (g h : Ground) (e : LayerEnd) → IsNumbered g → Extends g.terms h.terms → Extends g.atoms h.atoms → Extends g.equations h.equations → IsEndIn g e → (p : GroundExpression) → IsBefore h e p → IsBefore g e p
before_back g h e n a b c w (TermExpression t) q = subst (λ (z : List Term). Contains z t) (take_extended (ground_terms g) (ground_terms h) e.terms (_, terms_grown g h a) (omega (arith, w.terms, entry_terms-length g.terms))) q
before_back g h e n a b c w (AtomExpression s ts) q = subst (λ (z : List GroundExpression). Contains z (AtomExpression s ts)) (take_extended (ground_atoms g) (ground_atoms h) e.atoms (atoms_extend g h n a b) (omega (arith, w.atoms, length-map g.atoms (atom_expression (ground_terms g))))) q
before_back g h e n a b c w (EquationExpression t u) q = subst (λ (z : List GroundExpression). Contains z (EquationExpression t u)) (take_extended (ground_equations g) (ground_equations h) e.equations (equations_extend g h n a c) (omega (arith, w.equations, length-map g.equations (equation_expression (ground_terms g))))) q

pub end_kept : (g h : Ground) (Q : GroundExpression → Type 0) (e : LayerEnd) → IsEndIn g e → Grows g Q h → IsEndIn h e
end_kept g h Q e w a =
    record {
      terms = omega (arith, w.terms, ap length a.terms.1, length-append g.terms a.terms.0);
      atoms = omega (arith, w.atoms, ap length a.atoms.1, length-append g.atoms a.atoms.0);
      equations = omega (arith, w.equations, ap length a.equations.1, length-append g.equations a.equations.0);
    }

-- one clause after another
pub clauses_none : (g : Ground) (old : GroundExpression → Type 0) → IsNumbered g → Grows g (IsAddedBy [] old) g
clauses_none g old n = grows_nothing g (IsAddedBy [] old) n (λ p q. contains_none q.clause q.among)

pub clauses_more : (g h k : Ground) (cs : List Clause) (i : ℕ) (c : Clause) (x : TriggerPlaces) → IsNumbered g → IsEndIn g x.end → i < length cs → c ≡ get_or cs i c → Grows g (IsAddedBy (take i cs) (IsNew g x.start x.end)) h → Grows h (IsInstanceExpression c (IsNew h x.start x.end)) k → Grows g (IsAddedBy (take (i + 1) cs) (IsNew g x.start x.end)) k
clauses_more g h k cs i c x n w lt same a b =
    let old : GroundExpression → Type 0 = IsNew g x.start x.end in
    let late : GroundExpression → Type 0 = IsNew h x.start x.end in
    let more : take (i + 1) cs ≡ take i cs ++ c ∷ [] = take_more cs i c lt ∙ ap (λ z. take i cs ++ z ∷ []) (inverse same) in
    let to : (p : GroundExpression) → IsAddedBy (take i cs) old p ⊎ IsInstanceExpression c late p → IsAddedBy (take i cs ++ c ∷ []) old p = λ p q. elim q [
      | inl y ↦ record { clause = y.clause; among = Contains-append_left (take i cs) (c ∷ []) y.clause y.among; instance = y.instance }
      | inr y ↦ record { clause = c; among = Contains-append_right (take i cs) (c ∷ []) c (contains_first c []); instance = instance_as c late old p (new_back g h x.start x.end n a.terms a.atoms w) y }
    ] in
    let from : (p : GroundExpression) → IsAddedBy (take i cs ++ c ∷ []) old p → IsAddedBy (take i cs) old p ⊎ IsInstanceExpression c late p = λ p q. elim (Contains-push_cases (take i cs) c q.clause q.among) [
      | inl y ↦ inl (record { clause = q.clause; among = y; instance = q.instance })
      | inr r ↦ inr (subst (λ (z : Clause). IsInstanceExpression z late p) (inverse r) (instance_as q.clause old late p (new_kept g h x.start x.end n a.terms a.atoms w) q.instance))
    ] in
    subst (λ (z : List Clause). Grows g (IsAddedBy z old) k) (inverse more)
    (grows_as g k (λ p. IsAddedBy (take i cs) old p ⊎ IsInstanceExpression c late p) (IsAddedBy (take i cs ++ c ∷ []) old) (grows_both g h k (IsAddedBy (take i cs) old) (IsInstanceExpression c late) a b) to from)

pub clauses_all : (g h : Ground) (cs items : List Clause) (i : ℕ) (old : GroundExpression → Type 0) → items ≡ cs → length items ≤ i → Grows g (IsAddedBy (take i items) old) h → Grows g (IsAddedBy cs old) h
clauses_all g h cs items i old e le a = subst (λ (z : List Clause). Grows g (IsAddedBy z old) h) (take_all i items le ∙ e) a

pub trigger_places_after : (g h : Ground) (Q : GroundExpression → Type 0) (x : TriggerPlaces) → IsEndIn g x.end → AreTriggerPlaces g x → Grows g Q h → AreTriggerPlaces h x
trigger_places_after g h Q x w f a = trigger_places_kept g h x a.terms a.atoms w f

pub ruleset clauses_rules = (clauses_none, clauses_more, end_kept, trigger_places_after, numbered_after)
