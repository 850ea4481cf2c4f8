-- Nodes with one label stay equal when equal nodes' labels are made one, and become equal by what is tested.
use Rattle.std.proofs.Common.{◌≡◌, ◌<◌, ◌≤◌, ℕ, zero, suc, List, [], ◌∷◌, length, map, refl, ap, sym, ◌∙◌, subst, arith, set, true, inl, inr, ◌⊎◌}
use Rattle.std.specs.Prelude.{slice_index, slice_get, Some, Contains, Result, Ok, Err, OnOk, nat_lt, ◌&&◌}
use Rattle.std.specs.List.{list_all}
use Rattle.std.proofs.lemmas.Bool.{eqb-true, ltb-true}
use Rattle.std.proofs.lemmas.Bool.Decides.{eqb_tells}
use Rattle.std.proofs.lemmas.List.{length-set}
use Rattle.mz_congruence.specs.declared.graph.Graph.{Graph}
use Rattle.mz_congruence.specs.declared.graph.Node.{Node}
use Rattle.mz_congruence.specs.declared.graph.Pair.{Pair}
use Rattle.mz_congruence.specs.declared.graph.Rule.{Rule}
use Rattle.mz_congruence.specs.Congruence.{Equal, AllEqual, reflexive, symmetric, transitive, congruent, applied, none, more, left_of, right_of}
use Rattle.mz_congruence.specs.Classes.{after_steps, root, Descends}
use Rattle.mz_congruence.specs.Closing.{same, below, pair_below, IsWithin, State}
use Rattle.mz_congruence.proofs.AndLemmas.{both_left, both_right}
use Rattle.mz_congruence.proofs.ClosingLemmas.{contains_from}
use Rattle.mz_congruence.proofs.RootLemmas.{index_set_same, index_set_other, slice_index-past_end, cases_lt}
use Rattle.mz_classes.specs.Labels.{Labelled, Relabelled, LeadWithinClasses}

-- relabelling
pub relabelled_none : (from to : ℕ) (c : List ℕ) → Relabelled from to c c
relabelled_none from to c = record { len = refl; each = λ i. inl refl }

pub relabelled_set : (from to : ℕ) (c : List ℕ) (k : ℕ) → k < length c → slice_index c k ≡ from → Relabelled from to c (set c k to)
relabelled_set from to c k lt e = record {
  len = length-set c k to;
  each = λ i.
      elim (eqb_tells i k) [
        | inl t ↦ inr (ap (slice_index c) t.1 ∙ e, ap (slice_index (set c k to)) t.1 ∙ index_set_same c k to lt)
        | inr t ↦ inl (index_set_other c k to i t.1)
      ];
}

pub relabelled_through : (from to : ℕ) (a b c : List ℕ) → Relabelled from to a b → Relabelled from to b c → Relabelled from to a c
relabelled_through from to a b c x y = record {
  len = y.len ∙ x.len;
  each = λ i.
      elim (x.each i) [
        | inl p ↦ elim (y.each i) [
          | inl q ↦ inl (q ∙ p)
          | inr q ↦ inr (sym p ∙ q.0, q.1)
        ]
        | inr p ↦ elim (y.each i) [
          | inl q ↦ inr (p.0, q ∙ p.1)
          | inr q ↦ inr (p.0, q.1)
        ]
      ];
}

-- a node that was relabelled is equal to p, and to q
pub labelled_moved : (g : Graph) (c d : List ℕ) (p q from to : ℕ) → Labelled g c → Relabelled from to c d → p < length g.nodes → q < length g.nodes → slice_index c p ≡ from → slice_index c q ≡ to → Equal g p q → Labelled g d
labelled_moved g c d p q from to l r lp lq ep eq e = record {
  len = r.len ∙ l.len;
  sound = λ i j li lj h.
      elim (r.each i) [
        | inl x ↦ elim (r.each j) [
          | inl y ↦ l.sound i j li lj (sym x ∙ h ∙ y)
          | inr y ↦
              let iq : Equal g i q = l.sound i q li lq (sym x ∙ h ∙ y.1 ∙ sym eq) in
              let pj : Equal g p j = l.sound p j lp lj (ep ∙ sym y.0) in
              transitive i q j iq (transitive q p j (symmetric p q e) pj)
        ]
        | inr x ↦
            let ip : Equal g i p = l.sound i p li lp (x.0 ∙ sym ep) in
            elim (r.each j) [
              | inl y ↦
                  let qj : Equal g q j = l.sound q j lq lj (eq ∙ sym x.1 ∙ h ∙ y) in
                  transitive i p j ip (transitive p q j e qj)
              | inr y ↦ l.sound i j li lj (x.0 ∙ sym y.0)
            ]
      ];
}

pub told_left : {E : Type 0} (g : Graph) (c d : List ℕ) (p q a b : ℕ) (r : Result (Unit {0}) E) → Labelled g c → p < length g.nodes → q < length g.nodes → Equal g p q → a ≡ slice_index c p → b ≡ slice_index c q → Relabelled a b c d → OnOk r (Labelled g d)
told_left g c d p q a b (Ok x) l lp lq e ea eb m = labelled_moved g c d p q a b l m lp lq (sym ea) (sym eb) e
told_left g c d p q a b (Err x) l lp lq e ea eb m = tt

pub told_right : {E : Type 0} (g : Graph) (c d : List ℕ) (p q a b : ℕ) (r : Result (Unit {0}) E) → Labelled g c → p < length g.nodes → q < length g.nodes → Equal g p q → a ≡ slice_index c p → b ≡ slice_index c q → Relabelled b a c d → OnOk r (Labelled g d)
told_right g c d p q a b r l lp lq e ea eb m = told_left g c d q p b a r l lq lp (symmetric p q e) eb ea m

pub ruleset relabel_rules = (relabelled_none, relabelled_set, relabelled_through)

pub ruleset merge_rules = (told_left, told_right)

-- the labels at the start
pub labelled_start : (g : Graph) (c : List ℕ) → length c ≡ length g.nodes → ((i : ℕ) → i < length g.nodes → slice_index c i ≡ i) → Labelled g c
labelled_start g c len h = record {
  len = len;
  sound = λ i j li lj e. subst (λ (k : ℕ). Equal g i k) (sym (h i li) ∙ e ∙ h j lj) (reflexive i);
}

-- what is tested
nil_cons : {x : ℕ} {xs : List ℕ} → [] ≡ x ∷ xs → ⊥
nil_cons e = cc

cons_nil : {x : ℕ} {xs : List ℕ} → x ∷ xs ≡ [] → ⊥
cons_nil e = cc

cons_same : {x y : ℕ} {xs ys : List ℕ} → x ∷ xs ≡ y ∷ ys → (x ≡ y) × (xs ≡ ys)
cons_same e = (cc, cc)

args_equal : (g : Graph) (c : List ℕ) (n : ℕ) → n ≡ length g.nodes → Labelled g c → (is js : List ℕ) → list_all (below n) is ≡ true → list_all (below n) js ≡ true → map (slice_index c) is ≡ map (slice_index c) js → AllEqual g is js
args_equal g c n en l [] [] wi wj h = none
args_equal g c n en l [] (j ∷ js) wi wj h = absurd (nil_cons h)
args_equal g c n en l (i ∷ is) [] wi wj h = absurd (cons_nil h)
args_equal g c n en l (i ∷ is) (j ∷ js) wi wj h =
    let parts = cons_same h in
    let li : i < n = ltb-true i n (both_left (below n i) (list_all (below n) is) wi) in
    let lj : j < n = ltb-true j n (both_left (below n j) (list_all (below n) js) wj) in
    more i j is js (l.sound i j (omega (arith, en, li)) (omega (arith, en, lj)) parts.0)
    (args_equal g c n en l is js (both_right (below n i) (list_all (below n) is) wi) (both_right (below n j) (list_all (below n) js) wj) parts.1)

pub nodes_equal : (g : Graph) (c : List ℕ) (i j : ℕ) (a b : Node) → IsWithin g → Labelled g c → slice_get g.nodes i ≡ Some a → slice_get g.nodes j ≡ Some b → a.head ≡ b.head → map (slice_index c) a.args ≡ map (slice_index c) b.args → Equal g i j
nodes_equal g c i j a b w l at bt e h = congruent i j a b at bt e (args_equal g c (length g.nodes) refl l a.args b.args (w.args i a at) (w.args j b bt) h)

premises_equal : (g : Graph) (c : List ℕ) (n : ℕ) → n ≡ length g.nodes → Labelled g c → (ps : List Pair) → list_all (pair_below n) ps ≡ true → list_all (same (slice_index c)) ps ≡ true → AllEqual g (map left_of ps) (map right_of ps)
premises_equal g c n en l [] w h = none
premises_equal g c n en l (p ∷ ps) w h =
    let here : pair_below n p ≡ true = both_left (pair_below n p) (list_all (pair_below n) ps) w in
    let ll : p.left < n = ltb-true p.left n (both_left (nat_lt p.left n) (nat_lt p.right n) here) in
    let lr : p.right < n = ltb-true p.right n (both_right (nat_lt p.left n) (nat_lt p.right n) here) in
    let e : slice_index c p.left ≡ slice_index c p.right = eqb-true (slice_index c p.left) (slice_index c p.right) (both_left (same (slice_index c) p) (list_all (same (slice_index c)) ps) h) in
    more p.left p.right (map left_of ps) (map right_of ps) (l.sound p.left p.right (omega (arith, ll, en)) (omega (arith, lr, en)) e)
    (premises_equal g c n en l ps (both_right (pair_below n p) (list_all (pair_below n) ps) w) (both_right (same (slice_index c) p) (list_all (same (slice_index c)) ps) h))

pub rule_equal : (g : Graph) (c : List ℕ) (k : ℕ) (r : Rule) → IsWithin g → Labelled g c → slice_get g.rules k ≡ Some r → list_all (same (slice_index c)) r.premises ≡ true → Equal g r.conclusion.left r.conclusion.right
rule_equal g c k r w l at h =
    let mem : Contains g.rules r = contains_from g.rules k r at in
    applied r mem (premises_equal g c (length g.nodes) refl l r.premises (w.premises r mem) h)

-- the roots that the labels give
steps_within : (n : ℕ) (labels c : List ℕ) → LeadWithinClasses labels c → (i : ℕ) → i < length labels → (after_steps n c i < length labels) × (slice_index labels (after_steps n c i) ≡ slice_index labels i)
steps_within zero labels c h i li = (li, refl)
steps_within (suc n) labels c h i li =
    let next : slice_index c i < length labels = omega (arith, h.earlier i li, li) in
    let p = steps_within n labels c h (slice_index c i) next in
    (p.0, p.1 ∙ h.same i li)

pub state_from : (g : Graph) (labels c : List ℕ) → Labelled g labels → LeadWithinClasses labels c → State g c
unfolding Descends
state_from g labels c l h = record {
  len = h.len ∙ l.len;
  descends = λ i. elim (cases_lt i (length labels)) [ inl lt ↦ h.earlier i lt | inr ge ↦ omega (arith, slice_index-past_end c i (omega (arith, ge, h.len))) ];
  sound = record {
    each = λ i li.
        let lt : i < length labels = omega (arith, li, l.len) in
        let p = steps_within i labels c h i lt in
        l.sound i (root c i) li (omega (arith, p.0, l.len)) (sym p.1);
  };
}
