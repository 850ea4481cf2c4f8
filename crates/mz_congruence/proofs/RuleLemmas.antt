-- The rules that are put together are exactly those of the ground part.
use Rattle.std.proofs.Common.{◌≡◌, ◌<◌, ◌≤◌, ◌+◌, ℕ, zero, suc, List, [], ◌∷◌, ◌++◌, length, map, refl, ap, sym, ◌∙◌, subst, arith, inl, inr, ◌⊎◌}
use Rattle.std.specs.Prelude.{slice_get, slice_index_or, Some, None, Option, MatchOption, Contains, ◌↔◌}
use Rattle.mz_congruence.proofs.SignatureLemmas.{equation_equal}
use Rattle.std.proofs.lemmas.Option.{slice_get_within, slice_get_read}
use Rattle.std.proofs.lemmas.Bool.Decides.{eqb_tells}
use Rattle.std.proofs.lemmas.List.{length-map}
use Rattle.mz_logic.specs.Term.{Term}
use Rattle.mz_logic.specs.declared.literal.Literal.{Literal}
use Rattle.mz_logic.specs.declared.literal.Literal.TheVariants.{Atom, Eq}
use Rattle.mz_logic.specs.declared.disjunct.Disjunct.{Disjunct}
use Rattle.mz_logic.proofs.ValueLaws.{substitute-no_values}
use Rattle.mz_ground.specs.GroundExpression.{GroundExpression, TermExpression, AtomExpression}
use Rattle.mz_ground.specs.Layers.{IsGroundExpression}
use Rattle.mz_logic.specs.Substitution.{substitute, value_at}
use Rattle.mz_ground.specs.Instance.{literal_at, trigger_at, premises_at, conclusion_at}
use Rattle.mz_ground.specs.Ground.{term_at, ground_terms, atom_expression, IsGround}
use Rattle.mz_ground.specs.Growth.{IsNumbered}
use Rattle.mz_ground.specs.Instances.{expression_or_zero, expression_at, place_like, IsExpressionPlace, IsMatch}
use Rattle.mz_ground.specs.declared.clause.Clause.{Clause}
use Rattle.mz_ground.specs.declared.trigger.Trigger.{Trigger}
use Rattle.mz_ground.specs.declared.trigger.Trigger.TheVariants as trigger
use Rattle.mz_ground.specs.declared.ground_part.Ground.{Ground}
use Rattle.mz_ground.specs.declared.ground_atom.GroundAtom.{GroundAtom}
use Rattle.mz_ground.specs.declared.ground_equation.GroundEquation.{GroundEquation}
use Rattle.mz_ground.specs.declared.expression_place.ExpressionPlace.{ExpressionPlace}
use Rattle.mz_ground.specs.declared.expression_place.ExpressionPlace.TheVariants as place
use Rattle.mz_ground.proofs.LayerLemmas.{numbered_from_ground}
use Rattle.mz_congruence.specs.declared.graph.Pair.{Pair}
use Rattle.mz_congruence.specs.declared.graph.Rule.{Rule}
use Rattle.mz_congruence.specs.Nodes.{disequal_place}
use Rattle.mz_congruence.specs.Codes.{Codes, rule_of, IsRule, of_literal, of_exchange, of_instance}
use Rattle.mz_congruence.specs.Pairing.{terms_at, PairOf, PairsOf, Adds, AddsRules, AddsInstance, Below, IsLiteralRule, IsExchangeRule, IsInstanceRule, IsPlaceRule, IsClauseRule, places_for}
use Rattle.mz_congruence.proofs.RootLemmas.{cases_lt}
use Rattle.mz_congruence.proofs.ListLemmas.{some_same, none_some, get_left, get_right, get_some, get_map, get_contains, contains_get, not_contains_nil}
use Rattle.mz_congruence.proofs.GroundLemmas.{term_ground, term_place, atom_ground, atom_found, equation_unique}
use Rattle.mz_congruence.proofs.PairLemmas.{codes_unique, codes_all_unique}
use Rattle.mz_congruence.proofs.LookupLemmas.{all-no_values, nil_within}

-- a rule at the end of a list
push_old : (xs : List Rule) (y r : Rule) → Contains xs r → Contains (xs ++ y ∷ []) r
push_old xs y r c = let p = contains_get xs r c in get_contains (xs ++ y ∷ []) p.0 r (get_left xs (y ∷ []) p.0 r p.2)

push_new : (xs : List Rule) (y : Rule) → Contains (xs ++ y ∷ []) y
push_new xs y = get_contains (xs ++ y ∷ []) (length xs) y (get_right xs (y ∷ []) (length xs) 0 (omega arith))

split_le : (n k : ℕ) → n ≤ k → (m : ℕ) × (k ≡ n + m)
split_le zero k le = (k, omega arith)
split_le (suc n) zero le = absurd (omega (arith, le))
split_le (suc n) (suc k) le = let p = split_le n k (omega (arith, le)) in (p.0, omega (arith, p.1))

one_get : (y r : Rule) (m : ℕ) → slice_get (y ∷ []) m ≡ Some r → y ≡ r
one_get y r zero e = some_same e
one_get y r (suc m) e = absurd (none_some e)

push_split : (xs : List Rule) (y r : Rule) → Contains (xs ++ y ∷ []) r → Contains xs r ⊎ (r ≡ y)
push_split xs y r c =
    let p = contains_get (xs ++ y ∷ []) r c in
    elim (cases_lt p.0 (length xs)) [
      | inl lt ↦
          let x = get_some xs p.0 lt in
          let e : x.0 ≡ r = some_same (sym (get_left xs (y ∷ []) p.0 x.0 x.1) ∙ p.2) in
          inl (get_contains xs p.0 r (x.1 ∙ ap Some e))
      | inr ge ↦
          let q = split_le (length xs) p.0 ge in
          inr (sym (one_get y r q.0 (sym (get_right xs (y ∷ []) p.0 q.0 q.1) ∙ p.2)))
    ]

pub adds_none : (P : Rule → Type 0) (xs : List Rule) → ((r : Rule) → P r → ⊥) → Adds P xs xs
adds_none P xs n = record { kept = λ r c. c; added = λ r p. absurd (n r p); only = λ r c. inl c }

adds_one : (P : Rule → Type 0) (xs : List Rule) (y : Rule) → P y → ((r : Rule) → P r → r ≡ y) → Adds P xs (xs ++ y ∷ [])
adds_one P xs y h u =
    record {
      kept = push_old xs y;
      added = λ r p. subst (λ (x : Rule). Contains (xs ++ y ∷ []) x) (sym (u r p)) (push_new xs y);
      only = λ r c. elim (push_split xs y r c) [ inl a ↦ inl a | inr e ↦ inr (subst P (sym e) h) ];
    }

pub adds_iff : (P Q : Rule → Type 0) (xs ys : List Rule) → ((r : Rule) → P r → Q r) → ((r : Rule) → Q r → P r) → Adds P xs ys → Adds Q xs ys
adds_iff P Q xs ys to from a =
    record {
      kept = a.kept;
      added = λ r q. a.added r (from r q);
      only = λ r c. elim (a.only r c) [ inl x ↦ inl x | inr p ↦ inr (to r p) ];
    }

adds_more_at : (Q : ℕ → Rule → Type 0) (k : ℕ) (xs ys zs : List Rule) → Adds (Below Q k) xs ys → Adds (Q k) ys zs → Adds (Below Q (k + 1)) xs zs
adds_more_at Q k xs ys zs a b =
    record {
      kept = λ r c. b.kept r (a.kept r c);
      added = λ r p.
          elim (eqb_tells p.0 k) [
            | inl e ↦ b.added r (subst (λ (j : ℕ). Q j r) e.1 p.2)
            | inr e ↦ b.kept r (a.added r (p.0, omega (arith, p.1, e.1), p.2))
          ];
      only = λ r c.
          elim (b.only r c) [
            | inl x ↦ elim (a.only r x) [ inl z ↦ inl z | inr q ↦ inr (q.0, omega (arith, q.1), q.2) ]
            | inr q ↦ inr (k, omega arith, q)
          ];
    }

-- the loops
pub adds_start : (g : Ground) (Q : ℕ → Rule → Type 0) (xs : List Rule) → AddsRules g (Below Q 0) xs xs
unfolding AddsRules
adds_start g Q xs d cs gr = adds_none (Below Q 0) xs (λ r p. omega (arith, p.1))

pub adds_more : (g : Ground) (Q : ℕ → Rule → Type 0) (k : ℕ) (xs ys zs : List Rule) → AddsRules g (Below Q k) xs ys → AddsRules g (Q k) ys zs → AddsRules g (Below Q (k + 1)) xs zs
unfolding AddsRules
adds_more g Q k xs ys zs a b d cs gr = adds_more_at Q k xs ys zs (a d cs gr) (b d cs gr)

pub adds_end : (g : Ground) (Q : ℕ → Rule → Type 0) (k n : ℕ) (xs ys : List Rule) → n ≡ k → AddsRules g (Below Q k) xs ys → AddsRules g (Below Q n) xs ys
adds_end g Q k n xs ys e a = subst (λ (m : ℕ). AddsRules g (Below Q m) xs ys) (sym e) a

-- the rule of a literal
literal_nil : (l : Literal) → literal_at [] l ≡ l
literal_nil (Atom positive s us) = ap (λ vs. Atom positive s vs) (all-no_values us)
literal_nil (Eq positive t u) = λ i. Eq positive (substitute-no_values 0 t i) (substitute-no_values 0 u i)

rule_same : (ps qs : List Pair) (i j i' j' : ℕ) → ps ≡ qs → i ≡ i' → j ≡ j' → rule_of ps i j ≡ rule_of qs i' j'
rule_same ps qs i j i' j' e f g = λ t. rule_of (e t) (f t) (g t)

pub told_literal : (g : Ground) (ls : List Literal) (k : ℕ) (l : Literal) (p : Pair) (v : List Pair) (xs ys : List Rule) → slice_get ls k ≡ Some l → PairOf g [] l (Some p) → v ≡ [] → ys ≡ xs ++ record { premises = v; conclusion = p } ∷ [] → AddsRules g (IsLiteralRule g ls k) xs ys
unfolding PairOf AddsRules
told_literal g ls k l p v xs ys at c ev e d cs gr =
    let y : Rule = rule_of [] p.left p.right in
    let code : Codes g l p.left p.right = subst (λ (m : Literal). Codes g m p.left p.right) (literal_nil l) (c d cs gr (nil_within g)) in
    rw (e, ev) (adds_one (IsLiteralRule g ls k) xs y (l, p.left, p.right, at, code, refl)
    (λ r q.
    let same : q.0 ≡ l = some_same (sym q.3 ∙ at) in
    let other : Codes g l q.1 q.2 = subst (λ (m : Literal). Codes g m q.1 q.2) same q.4 in
    let u = codes_unique d cs g gr l q.1 q.2 p.left p.right other code in
    q.5 ∙ rule_same [] [] q.1 q.2 p.left p.right refl u.0 u.1))

pub told_no_literal : (g : Ground) (ls : List Literal) (k : ℕ) (l : Literal) (xs : List Rule) → slice_get ls k ≡ Some l → PairOf g [] l None → AddsRules g (IsLiteralRule g ls k) xs xs
unfolding PairOf AddsRules
told_no_literal g ls k l xs at n d cs gr =
    adds_none (IsLiteralRule g ls k) xs (λ r q.
    let same : q.0 ≡ l = some_same (sym q.3 ∙ at) in
    let other : Codes g (literal_at [] l) q.1 q.2 = subst (λ (m : Literal). Codes g m q.1 q.2) (same ∙ sym (literal_nil l)) q.4 in
    n d cs gr (nil_within g) q.1 q.2 other)

-- the rule of an exchange
exchange_place : (d : Disjunct) (cs : List Clause) (g : Ground) → IsGround d cs g → (m n : ℕ) (e f h : GroundEquation) → slice_get g.equations m ≡ Some f → slice_get g.equations n ≡ Some h → e.left ≡ f.right → e.right ≡ f.left → e.left ≡ h.right → e.right ≡ h.left → m ≡ n
exchange_place d cs g gr m n e f h at bt a b p q =
    let t : Term = term_at (ground_terms g) f.left in
    let u : Term = term_at (ground_terms g) f.right in
    equation_unique d cs g gr m n f h t u (at, refl, refl) (bt, ap (term_at (ground_terms g)) (sym q ∙ b), ap (term_at (ground_terms g)) (sym p ∙ a))

pub told_exchange : (g : Ground) (k m i j : ℕ) (e f : GroundEquation) (v : List Pair) (xs ys : List Rule) → slice_get g.equations k ≡ Some e → slice_get g.equations m ≡ Some f → e.left ≡ f.right → e.right ≡ f.left → i ≡ disequal_place g k → j ≡ disequal_place g m → v ≡ [] → ys ≡ xs ++ rule_of v i j ∷ [] → AddsRules g (IsExchangeRule g k) xs ys
unfolding AddsRules
told_exchange g k m i j e f v xs ys at bt p q ei ej ev ey d cs gr =
    let y : Rule = rule_of [] (disequal_place g k) (disequal_place g m) in
    let same : rule_of v i j ≡ y = rule_same v [] i j (disequal_place g k) (disequal_place g m) ev ei ej in
    rw (ey, same) (adds_one (IsExchangeRule g k) xs y (e, m, f, at, bt, p, q, refl)
    (λ r h.
    let one : h.0 ≡ e = some_same (sym h.3 ∙ at) in
    let place : h.1 ≡ m = exchange_place d cs g gr h.1 m e h.2 f h.4 bt (ap (λ (x : GroundEquation). x.left) (sym one) ∙ h.5) (ap (λ (x : GroundEquation). x.right) (sym one) ∙ h.6) p q in
    h.7 ∙ ap (λ (n : ℕ). rule_of [] (disequal_place g k) (disequal_place g n)) place))

pub told_no_exchange : (g : Ground) (k : ℕ) (e : GroundEquation) (xs : List Rule) → slice_get g.equations k ≡ Some e → ((m : ℕ) (f : GroundEquation) → slice_get g.equations m ≡ Some f → e.left ≡ f.right → e.right ≡ f.left → ⊥) → AddsRules g (IsExchangeRule g k) xs xs
unfolding AddsRules
told_no_exchange g k e xs at n d cs gr =
    adds_none (IsExchangeRule g k) xs (λ r h.
    let one : h.0 ≡ e = some_same (sym h.3 ∙ at) in
    n h.1 h.2 h.4 (ap (λ (x : GroundEquation). x.left) (sym one) ∙ h.5) (ap (λ (x : GroundEquation). x.right) (sym one) ∙ h.6))

-- the rule of an instance
pub told_instance : (g : Ground) (args : List ℕ) (c : Clause) (ps : List Pair) (p : Pair) (xs ys : List Rule) → PairsOf g args c.premises (Some ps) → PairOf g args c.conclusion (Some p) → ys ≡ xs ++ record { premises = ps; conclusion = p } ∷ [] → AddsInstance g args c xs ys
unfolding PairOf PairsOf AddsInstance
told_instance g args c ps p xs ys a b e d cs gr w =
    let ts : List Term = terms_at g args in
    let y : Rule = rule_of ps p.left p.right in
    rw e (adds_one (IsInstanceRule g c ts) xs y (ps, p.left, p.right, a d cs gr w, b d cs gr w, refl)
    (λ r h.
    let u = codes_unique d cs g gr (conclusion_at c ts) h.1 h.2 p.left p.right h.4 (b d cs gr w) in
    h.5 ∙ rule_same h.0 ps h.1 h.2 p.left p.right (codes_all_unique d cs g gr (premises_at c ts) h.0 ps h.3 (a d cs gr w)) u.0 u.1))

pub told_no_premises : (g : Ground) (args : List ℕ) (c : Clause) (xs : List Rule) → PairsOf g args c.premises None → AddsInstance g args c xs xs
unfolding PairsOf AddsInstance
told_no_premises g args c xs n d cs gr w = adds_none (IsInstanceRule g c (terms_at g args)) xs (λ r h. n d cs gr w h.0 h.3)

pub told_no_conclusion : (g : Ground) (args : List ℕ) (c : Clause) (xs : List Rule) → PairOf g args c.conclusion None → AddsInstance g args c xs xs
unfolding PairOf AddsInstance
told_no_conclusion g args c xs n d cs gr w = adds_none (IsInstanceRule g c (terms_at g args)) xs (λ r h. n d cs gr w h.1 h.2 h.4)

-- the rule at a place
pub told_place : (g : Ground) (c : Clause) (k : ℕ) (at : ExpressionPlace) (args : List ℕ) (xs ys : List Rule) → at ≡ place_like c.trigger k → IsMatch g c (expression_at g at) (Some args) → AddsInstance g args c xs ys → AddsRules g (IsPlaceRule g c k) xs ys
unfolding AddsInstance AddsRules
told_place g c k at args xs ys e m a d cs gr =
    let ts : List Term = terms_at g args in
    let len : length ts ≡ c.variables = length-map args (term_at (ground_terms g)) ∙ m.arity in
    adds_iff (IsInstanceRule g c ts) (IsPlaceRule g c k) xs ys
    (λ r i. (ts, len, m.instance ∙ ap (expression_at g) e, i))
    (λ r q. subst (λ (us : List Term). IsInstanceRule g c us r) (m.only q.0 q.1 (q.2 ∙ ap (expression_at g) (sym e))) q.3)
    (a d cs gr m.within)

pub told_no_place : (g : Ground) (c : Clause) (k : ℕ) (at : ExpressionPlace) (xs : List Rule) → at ≡ place_like c.trigger k → IsMatch g c (expression_at g at) None → AddsRules g (IsPlaceRule g c k) xs xs
unfolding AddsRules
told_no_place g c k at xs e m d cs gr = adds_none (IsPlaceRule g c k) xs (λ r q. m q.0 q.1 (q.2 ∙ ap (expression_at g) (sym e)))

pub place_there : (g : Ground) (t : Trigger) (k : ℕ) (at : ExpressionPlace) → at ≡ place_like t k → k < places_for g t → IsExpressionPlace g at
place_there g (trigger.Term t) k at e lt = subst (λ (x : ExpressionPlace). IsExpressionPlace g x) (sym e) lt
place_there g (trigger.Atom s us) k at e lt = subst (λ (x : ExpressionPlace). IsExpressionPlace g x) (sym e) lt

told_clause : (g : Ground) (all : List Clause) (k : ℕ) (c : Clause) (xs ys : List Rule) → slice_get all k ≡ Some c → AddsRules g (Below (IsPlaceRule g c) (places_for g c.trigger)) xs ys → AddsRules g (IsClauseRule g all k) xs ys
unfolding AddsRules
told_clause g all k c xs ys at a d cs gr =
    adds_iff (Below (IsPlaceRule g c) (places_for g c.trigger)) (IsClauseRule g all k) xs ys
    (λ r p. (c, at, p))
    (λ r q. subst (λ (x : Clause). Below (IsPlaceRule g x) (places_for g x.trigger) r) (some_same (sym q.1 ∙ at)) q.2)
    (a d cs gr)

pub told_clause_at : (g : Ground) (all : List Clause) (k : ℕ) (c : Clause) (xs ys : List Rule) → k < length all → c ≡ slice_index_or all k c → AddsRules g (Below (IsPlaceRule g c) (places_for g c.trigger)) xs ys → AddsRules g (IsClauseRule g all k) xs ys
told_clause_at g all k c xs ys lt e a = told_clause g all k c xs ys (slice_get_read all (length all) k c refl lt e) a

-- all rules
expression_at-atom_there : (g : Ground) (k : ℕ) (a : GroundAtom) → slice_get g.atoms k ≡ Some a → expression_at g (place.Atom k) ≡ atom_expression (ground_terms g) a
expression_at-atom_there g k a e = ap expression_or_zero (get_map (atom_expression (ground_terms g)) g.atoms k a e)

expression_ground : (d : Disjunct) (cs : List Clause) (g : Ground) → IsGround d cs g → (t : Trigger) (k : ℕ) → k < places_for g t → IsGroundExpression d cs (expression_at g (place_like t k))
expression_ground d cs g gr (trigger.Term t) k lt = term_ground d cs g gr k lt
expression_ground d cs g gr (trigger.Atom s us) k lt =
    let a = get_some g.atoms k lt in
    subst (λ (q : GroundExpression). IsGroundExpression d cs q) (sym (expression_at-atom_there g k a.0 a.1)) (atom_ground d cs g gr k a.0 a.1)

expression_found : (d : Disjunct) (cs : List Clause) (g : Ground) → IsGround d cs g → (ts : List Term) (t : Trigger) → IsGroundExpression d cs (trigger_at ts t) → (k : ℕ) × (k < places_for g t) × (trigger_at ts t ≡ expression_at g (place_like t k))
expression_found d cs g gr ts (trigger.Term t) h =
    let p = term_place d cs g gr (substitute 0 (value_at ts) t) h in
    (p.0, p.1.0, ap TermExpression (sym p.1.1))
expression_found d cs g gr ts (trigger.Atom s us) h =
    let p = atom_found d cs g gr s (map (substitute 0 (value_at ts)) us) h in
    (p.0, slice_get_within g.atoms p.0 p.1.0 p.1.1, (λ i. AtomExpression (sym p.1.2 i) (sym p.1.3 i)) ∙ sym (expression_at-atom_there g p.0 p.1.0 p.1.1))

rules_sound : (d : Disjunct) (cs : List Clause) (g : Ground) → IsGround d cs g → (xs ys zs : List Rule) → Adds (Below (IsLiteralRule g d.literals) (length d.literals)) [] xs → Adds (Below (IsExchangeRule g) (length g.equations)) xs ys → Adds (Below (IsClauseRule g cs) (length cs)) ys zs → (r : Rule) → Contains zs r → IsRule d cs g r
rules_sound d cs g gr xs ys zs a b c r m =
    elim (c.only r m) [
      | inl n ↦ elim (b.only r n) [
        | inl o ↦ elim (a.only r o) [
          | inl p ↦ absurd (not_contains_nil r p)
          | inr q ↦
              let h = q.2 in
              subst (λ (x : Rule). IsRule d cs g x) (sym h.5) (of_literal h.0 h.1 h.2 (get_contains d.literals q.0 h.0 h.3) h.4)
        ]
        | inr q ↦
            let h = q.2 in
            subst (λ (x : Rule). IsRule d cs g x) (sym h.7) (of_exchange q.0 h.1 h.0 h.2 h.3 h.4 h.5 h.6)
      ]
      | inr q ↦
          let e : Clause = q.2.0 in
          let h = q.2.2.2 in
          let ts : List Term = h.0 in
          let i = h.3 in
          let ground : IsGroundExpression d cs (trigger_at ts e.trigger) = subst (λ (p : GroundExpression). IsGroundExpression d cs p) (sym h.2) (expression_ground d cs g gr e.trigger q.2.2.0 q.2.2.1) in
          subst (λ (x : Rule). IsRule d cs g x) (sym i.5) (of_instance e ts i.0 i.1 i.2 (get_contains cs q.0 e q.2.1) h.1 ground i.3 i.4)
    ]

rules_complete : (d : Disjunct) (cs : List Clause) (g : Ground) → IsGround d cs g → (xs ys zs : List Rule) → Adds (Below (IsLiteralRule g d.literals) (length d.literals)) [] xs → Adds (Below (IsExchangeRule g) (length g.equations)) xs ys → Adds (Below (IsClauseRule g cs) (length cs)) ys zs → (r : Rule) → IsRule d cs g r → Contains zs r
rules_complete d cs g gr xs ys zs a b c r (of_literal l i j mem code) =
    let p = contains_get d.literals l mem in
    c.kept (rule_of [] i j) (b.kept (rule_of [] i j) (a.added (rule_of [] i j) (p.0, p.1, (l, i, j, p.2, code, refl))))
rules_complete d cs g gr xs ys zs a b c r (of_exchange k m e f at bt p q) =
    c.kept (rule_of [] (disequal_place g k) (disequal_place g m)) (b.added (rule_of [] (disequal_place g k) (disequal_place g m)) (k, slice_get_within g.equations k e at, (e, m, f, at, bt, p, q, refl)))
rules_complete d cs g gr xs ys zs a b c r (of_instance e ts ps i j mem len trig cps cp) =
    let p = contains_get cs e mem in
    let q = expression_found d cs g gr ts e.trigger trig in
    c.added (rule_of ps i j) (p.0, p.1, (e, p.2, (q.0, q.1, (ts, len, q.2, (ps, i, j, cps, cp, refl)))))

pub told_rules : (d : Disjunct) (cs : List Clause) (g : Ground) (xs ys zs : List Rule) → IsGround d cs g → AddsRules g (Below (IsLiteralRule g d.literals) (length d.literals)) [] xs → AddsRules g (Below (IsExchangeRule g) (length g.equations)) xs ys → AddsRules g (Below (IsClauseRule g cs) (length cs)) ys zs → (r : Rule) → Contains zs r ↔ IsRule d cs g r
unfolding AddsRules
told_rules d cs g xs ys zs gr a b c r = (rules_sound d cs g gr xs ys zs (a d cs gr) (b d cs gr) (c d cs gr) r, rules_complete d cs g gr xs ys zs (a d cs gr) (b d cs gr) (c d cs gr) r)

pub ruleset adds_rules = (adds_start, adds_more, adds_end)

pub ruleset literal_rules = (told_literal, told_no_literal)

pub ruleset exchange_rules = (told_exchange, told_no_exchange)

pub ruleset instance_rules = (told_instance, told_no_premises, told_no_conclusion)

pub ground_numbered : (d : Disjunct) (cs : List Clause) (g : Ground) → IsGround d cs g → IsNumbered g
ground_numbered d cs g gr = numbered_from_ground d cs g gr

pub ruleset place_rules = (told_place, told_no_place, place_there)

-- the place of an equation with its sides exchanged
pub reversed_found : (es : List GroundEquation) (e : GroundEquation) (r : Option ℕ) → MatchOption r ((k : ℕ) → slice_get es k ≡ Some (record { left = e.right; right = e.left }) → ⊥) (λ k. slice_get es k ≡ Some (record { left = e.right; right = e.left })) → MatchOption r ((m : ℕ) (f : GroundEquation) → slice_get es m ≡ Some f → e.left ≡ f.right → e.right ≡ f.left → ⊥) (λ m. (f : GroundEquation) × (slice_get es m ≡ Some f) × (e.left ≡ f.right) × (e.right ≡ f.left))
reversed_found es e None h = λ m f at l r. h m (at ∙ ap Some (equation_equal f (record { left = e.right; right = e.left }) (sym r) (sym l)))
reversed_found es e (Some k) h = (record { left = e.right; right = e.left }, h, refl, refl)

pub ruleset reversed_rules = (reversed_found)

pub ruleset all_rules = (told_rules, ground_numbered)
