-- Each step of the closing makes only equal nodes one, and where no step is left all equal nodes are one.
use Rattle.std.proofs.Common.{◌≡◌, ◌<◌, ◌≤◌, ◌+◌, ◌*◌, ℕ, zero, suc, List, [], ◌∷◌, ◌++◌, length, map, refl, ap, sym, ◌∙◌, subst, arith, set, true, false, Bool, inl, inr}
use Rattle.std.specs.Prelude.{slice_index, slice_get, slice_index_or, Some, None, Contains, nat_lt, if◌then◌else◌}
use Rattle.std.specs.List.{list_all}
use Rattle.std.proofs.lemmas.Bool.{eqb-true, eq-eqb, ltb-true}
use Rattle.std.proofs.lemmas.Bool.Decides.{eqb_tells}
use Rattle.std.proofs.lemmas.Option.{slice_get_within, get_or_from_slice_get}
use Rattle.std.proofs.lemmas.List.{length-set}
use Rattle.mz_congruence.specs.declared.graph.Node.{Node}
use Rattle.mz_congruence.specs.declared.graph.Pair.{Pair}
use Rattle.mz_congruence.specs.declared.graph.Rule.{Rule}
use Rattle.mz_congruence.specs.declared.graph.Graph.{Graph}
use Rattle.mz_congruence.specs.declared.signatures.Signatures.{Signatures}
use Rattle.mz_congruence.specs.Congruence.{Equal, AllEqual, reflexive, symmetric, transitive, congruent, applied, none, more, left_of, right_of}
use Rattle.mz_congruence.specs.Classes.{root, Descends, Flat, total, Progress, Sound, United}
use Rattle.mz_congruence.specs.Signature.{head_code, signature, place_of, is_list}
use Rattle.mz_congruence.specs.Closing.{same, below, pair_below, IsWithin, Exact, State, Entry, Entries, Listed, ListedUnless, ListedBelow, Grows, Entered, Clean, CleanUnless, IsMet, MetUnless, MetBelow, RuleApplied, DoneUnless}
use Rattle.mz_congruence.proofs.AndLemmas.{both_left, both_right}
use Rattle.mz_congruence.proofs.RootLemmas.{root_own, root_fixed, root_le, root_flat, descends_set, total-set, replaced, replaced_same, replaced_other, root_link, slice_index-past_end, cases_lt}
use Rattle.mz_congruence.proofs.SignatureLemmas.{signature_parts, is_list_true, is_list_same}

pub sound_equal : (g : Graph) (c : List ℕ) → Sound g c → (i j : ℕ) → i < length g.nodes → j < length g.nodes → root c i ≡ root c j → Equal g i j
sound_equal g c s i j li lj e = transitive i (root c i) j (s.each i li) (symmetric j (root c i) (subst (λ (k : ℕ). Equal g j k) (sym e) (s.each j lj)))

sound_link : (g : Graph) (c d : List ℕ) (from to : ℕ) → Sound g c → ((i : ℕ) → root d i ≡ replaced from to (root c i)) → Equal g from to → Sound g d
sound_link g c d from to s r q = record {
  each = λ i li.
      elim (eqb_tells (root c i) from) [
        | inl t ↦ subst (λ (k : ℕ). Equal g i k) (sym (r i ∙ ap (replaced from to) t.1 ∙ replaced_same from to)) (transitive i from to (subst (λ (k : ℕ). Equal g i k) t.1 (s.each i li)) q)
        | inr t ↦ subst (λ (k : ℕ). Equal g i k) (sym (r i ∙ replaced_other from to (root c i) t.1)) (s.each i li)
      ];
}

pub sound_same : (g : Graph) (c d : List ℕ) → Sound g c → ((i : ℕ) → root d i ≡ root c i) → Sound g d
sound_same g c d s r = record { each = λ i li. subst (λ (k : ℕ). Equal g i k) (sym (r i)) (s.each i li) }

-- what one link reaches
pub record Linked (c : List ℕ) (p q : ℕ) (d : List ℕ) : Type 0 where
  pub len : length d ≡ length c
  pub descends : Descends d
  pub progress : total d < total c
  pub united : United true c p q d

pub linked : (c : List ℕ) (p q a b : ℕ) → Descends c → p < length c → q < length c → a ≡ root c p → b ≡ root c q → a < b → Linked c p q (set c b a)
linked c p q a b d lp lq ea eb lt =
    let le : b ≤ q = omega (arith, eb, root_le c d q) in
    let within : b < length c = omega (arith, le, lq) in
    let own_b : slice_index c b ≡ b = rw eb (root_fixed c d q) in
    let own_a : slice_index c a ≡ a = rw ea (root_fixed c d p) in
    let roots : (i : ℕ) → root (set c b a) i ≡ replaced b a (root c i) = root_link c b a d within own_b lt own_a in
    record {
      len = length-set c b a;
      descends = descends_set c b a within (omega (arith, lt)) d;
      progress = omega (arith, total-set c b a within, own_b, lt);
      united = λ g len s e.
          let x : Equal g p a = subst (λ (k : ℕ). Equal g p k) (sym ea) (s.each p (omega (arith, len, lp))) in
          let y : Equal g q b = subst (λ (k : ℕ). Equal g q k) (sym eb) (s.each q (omega (arith, len, lq))) in
          sound_link g c (set c b a) b a s roots (transitive b q a (symmetric q b y) (transitive q p a (symmetric p q e) x));
    }

pub linked_back : (c : List ℕ) (p q a b : ℕ) → Descends c → p < length c → q < length c → a ≡ root c p → b ≡ root c q → b < a → Linked c p q (set c a b)
linked_back c p q a b d lp lq ea eb lt =
    let l : Linked c q p (set c a b) = linked c q p b a d lq lp eb ea lt in
    record { len = l.len; descends = l.descends; progress = l.progress; united = λ g len s e. l.united g len s (symmetric p q e) }

pub united_sound : (m : Bool) (g : Graph) (c : List ℕ) (p q : ℕ) (d : List ℕ) → State g c → Progress m c d → United m c p q d → Equal g p q → Sound g d
united_sound true g c p q d s pr u e = u g s.len s.sound e
united_sound false g c p q d s pr u e = subst (λ (x : List ℕ). Sound g x) (sym pr) s.sound

-- lists of numbers and their roots
all_roots : (g : Graph) (c : List ℕ) (n : ℕ) → n ≡ length g.nodes → Sound g c → (is : List ℕ) → list_all (below n) is ≡ true → AllEqual g is (map (root c) is)
all_roots g c n en s [] h = none
all_roots g c n en s (i ∷ is) h =
    let lt : i < n = ltb-true i n (both_left (below n i) (list_all (below n) is) h) in
    more i (root c i) is (map (root c) is) (s.each i (omega (arith, en, lt))) (all_roots g c n en s is (both_right (below n i) (list_all (below n) is) h))

-- both are equal to the third
all_through : (g : Graph) (is js ks : List ℕ) → AllEqual g is ks → AllEqual g js ks → AllEqual g is js
all_through g is js ks none none = none
all_through g is js ks (more i k is' ks' e es) (more j k' js' ks'' f fs) = more i j is' js' (transitive i k j e (symmetric j k f)) (all_through g is' js' ks' es fs)

-- the nodes that a table finds congruent are equal
entry_equal : (g : Graph) (c : List ℕ) → State g c → IsWithin g → (i j : ℕ) (a : Node) (s : List ℕ) → slice_get g.nodes i ≡ Some a → s ≡ signature (root c) a → Entry g s j → Equal g i j
entry_equal g c st w i j a s at es e =
    let p = signature_parts a.head e.node.head (map (root c) a.args) e.roots (sym es ∙ e.is) in
    let x : AllEqual g a.args (map (root c) a.args) = all_roots g c (length g.nodes) refl st.sound a.args (w.args i a at) in
    let y : AllEqual g a.args e.roots = subst (λ (rs : List ℕ). AllEqual g a.args rs) p.1 x in
    congruent i j a e.node at e.at p.0 (all_through g a.args e.node.args e.roots y e.equal)

pub entry_within : (g : Graph) (s : List ℕ) (j : ℕ) → Entry g s j → j < length g.nodes
entry_within g s j e = slice_get_within g.nodes j e.node e.at

pub found_within : (g : Graph) (t : Signatures) (s : List ℕ) (j : ℕ) → Entries g t → place_of t s ≡ Some j → j < length g.nodes
unfolding Entries
found_within g t s j en e = entry_within g s j (en s j e)

node_same : {a b : Node} → Some a ≡ Some b → a ≡ b
node_same e = cc

listed_found : (m : Bool) (g : Graph) (c d : List ℕ) (t : Signatures) (i j : ℕ) (a : Node) (s : List ℕ) → slice_get g.nodes i ≡ Some a → s ≡ signature (root c) a → place_of t s ≡ Some j → Progress m c d → United m c i j d → ListedUnless m g d t i
listed_found true g c d t i j a s at es pj pr u = tt
listed_found false g c d t i j a s at es pj pr u = λ b bt.
    let here : Listed g c t i a = record { place = j; at = ap (place_of t) (sym es) ∙ pj; one = sym u } in
    subst (λ (x : List ℕ). Listed g x t i b) (sym pr) (subst (λ (y : Node). Listed g c t i y) (node_same (sym at ∙ bt)) here)

pub told_found : (g : Graph) (m : Bool) (c d : List ℕ) (t : Signatures) (i j : ℕ) (a : Node) (s : List ℕ) → IsWithin g → State g c → Entries g t → slice_get g.nodes i ≡ Some a → s ≡ signature (root c) a → place_of t s ≡ Some j → length d ≡ length c → Descends d → Progress m c d → United m c i j d → Entered g m c d t t i
unfolding Entries Grows
told_found g m c d t i j a s w st en at es pj len ds pr u =
    let eq : Equal g i j = entry_equal g c st w i j a s at es (en s j pj) in
    record {
      state = record { len = len ∙ st.len; descends = ds; sound = united_sound m g c i j d st pr u eq };
      progress = pr;
      entries = en;
      grows = λ q k h. h;
      listed = listed_found m g c d t i j a s at es pj pr u;
    }

new_entries : (g : Graph) (c : List ℕ) (t u : Signatures) (i : ℕ) (a : Node) (s : List ℕ) → IsWithin g → State g c → Entries g t → slice_get g.nodes i ≡ Some a → s ≡ signature (root c) a → ((q : List ℕ) → place_of u q ≡ (if is_list q s then Some i else place_of t q)) → Entries g u
unfolding Entries
new_entries g c t u i a s w st en at es h q j e =
    let new : Entry g s i = record { node = a; at = at; roots = map (root c) a.args; is = es; equal = all_roots g c (length g.nodes) refl st.sound a.args (w.args i a at) } in
    let here : (b : Bool) → is_list q s ≡ b → (if b then Some i else place_of t q) ≡ Some j → Entry g q j
    = elim [
      | true ↦ λ x y. let ij : i ≡ j = cc in subst (λ (k : ℕ). Entry g q k) ij (subst (λ (z : List ℕ). Entry g z i) (sym (is_list_true q s x)) new)
      | false ↦ λ x y. en q j y
    ] in
    here (is_list q s) refl (sym (h q) ∙ e)

new_grows : (t u : Signatures) (i : ℕ) (s : List ℕ) → place_of t s ≡ None → ((q : List ℕ) → place_of u q ≡ (if is_list q s then Some i else place_of t q)) → Grows t u
unfolding Grows
new_grows t u i s pn h q j e =
    let here : (b : Bool) → is_list q s ≡ b → place_of u q ≡ (if b then Some i else place_of t q) → place_of u q ≡ Some j
    = elim [
      | true ↦ λ x y. let z : place_of t q ≡ None = ap (place_of t) (is_list_true q s x) ∙ pn in cc
      | false ↦ λ x y. y ∙ e
    ] in
    here (is_list q s) refl (h q)

place_of-new_at : (t u : Signatures) (i : ℕ) (s : List ℕ) → ((q : List ℕ) → place_of u q ≡ (if is_list q s then Some i else place_of t q)) → place_of u s ≡ Some i
place_of-new_at t u i s h =
    let here : (b : Bool) → b ≡ true → place_of u s ≡ (if b then Some i else place_of t s) → place_of u s ≡ Some i = elim [ true ↦ λ x y. y | false ↦ λ x y. cc ] in
    here (is_list s s) (is_list_same s) (h s)

pub told_new : (g : Graph) (c : List ℕ) (t u : Signatures) (i : ℕ) (a : Node) (s : List ℕ) → IsWithin g → State g c → Entries g t → slice_get g.nodes i ≡ Some a → s ≡ signature (root c) a → place_of t s ≡ None → ((q : List ℕ) → place_of u q ≡ (if is_list q s then Some i else place_of t q)) → Entered g false c c t u i
told_new g c t u i a s w st en at es pn h =
    record {
      state = st;
      progress = refl;
      entries = new_entries g c t u i a s w st en at es h;
      grows = new_grows t u i s pn h;
      listed = λ b bt. subst (λ (y : Node). Listed g c u i y) (node_same (sym at ∙ bt)) (record { place = i; at = ap (place_of u) (sym es) ∙ place_of-new_at t u i s h; one = refl });
    }

-- the merge_congruent over the nodes
pub no_entries : (g : Graph) (t : Signatures) → ((s : List ℕ) → place_of t s ≡ None) → Entries g t
unfolding Entries
no_entries g t h s j e = let z : place_of t s ≡ None = h s in cc

pub progress_through : (m : Bool) (b c d : List ℕ) → Progress m b c → total d < total c → total d < total b
progress_through true b c d p h = omega (arith, p, h)
progress_through false b c d p h = rw (← p) h

pub progress_same : (m : Bool) (b c d : List ℕ) → Progress m b c → d ≡ c → Progress m b d
progress_same m b c d p e = subst (λ (x : List ℕ). Progress m b x) (sym e) p

pub listed_more : (m : Bool) (g : Graph) (c d : List ℕ) (t u : Signatures) (k : ℕ) → ListedBelow m g c t k → d ≡ c → Grows t u → ((a : Node) → slice_get g.nodes k ≡ Some a → Listed g d u k a) → ListedBelow m g d u (k + 1)
unfolding Grows
listed_more true g c d t u k b e gr h = tt
listed_more false g c d t u k b e gr h = λ i a lt at.
    elim (eqb_tells i k) [
      | inl q ↦ subst (λ (x : ℕ). Listed g d u x a) (sym q.1) (h a (rw q.1 at at))
      | inr q ↦
          let l : Listed g c t i a = b i a (omega (arith, lt, q.1)) at in
          subst (λ (x : List ℕ). Listed g x u i a) (sym e) (record { place = l.place; at = gr (signature (root c) a) l.place l.at; one = l.one })
    ]

pub clean_from : (m : Bool) (g : Graph) (c : List ℕ) (t : Signatures) (n : ℕ) → length g.nodes ≤ n → ListedBelow m g c t n → CleanUnless m g c
unfolding Clean
clean_from true g c t n le h = tt
clean_from false g c t n le h = λ i j a b at bt e es.
    let li : i < length g.nodes = slice_get_within g.nodes i a at in
    let lj : j < length g.nodes = slice_get_within g.nodes j b bt in
    let x : Listed g c t i a = h i a (omega (arith, li, le)) at in
    let y : Listed g c t j b = h j b (omega (arith, lj, le)) bt in
    let one : signature (root c) a ≡ signature (root c) b = λ k. head_code (e k) ++ es k in
    let places : Some x.place ≡ Some y.place = sym x.at ∙ ap (place_of t) one ∙ y.at in
    let p : x.place ≡ y.place = cc in
    sym x.one ∙ ap (root c) p ∙ y.one

-- the rules
pub contains_from : (rs : List Rule) (k : ℕ) (r : Rule) → slice_get rs k ≡ Some r → Contains rs r
contains_from rs k r at = (k, slice_get_within rs k r at, get_or_from_slice_get rs k r r at)

premises_equal : (g : Graph) (c : List ℕ) (n : ℕ) → n ≡ length g.nodes → Sound g c → (ps : List Pair) → list_all (pair_below n) ps ≡ true → list_all (same (root c)) ps ≡ true → AllEqual g (map left_of ps) (map right_of ps)
premises_equal g c n en s [] w h = none
premises_equal g c n en s (p ∷ ps) w h =
    let here : pair_below n p ≡ true = both_left (pair_below n p) (list_all (pair_below n) ps) w in
    let l : p.left < n = ltb-true p.left n (both_left (nat_lt p.left n) (nat_lt p.right n) here) in
    let r : p.right < n = ltb-true p.right n (both_right (nat_lt p.left n) (nat_lt p.right n) here) in
    let e : root c p.left ≡ root c p.right = eqb-true (root c p.left) (root c p.right) (both_left (same (root c) p) (list_all (same (root c)) ps) h) in
    more p.left p.right (map left_of ps) (map right_of ps) (sound_equal g c s p.left p.right (omega (arith, l, en)) (omega (arith, r, en)) e)
    (premises_equal g c n en s ps (both_right (pair_below n p) (list_all (pair_below n) ps) w) (both_right (same (root c) p) (list_all (same (root c)) ps) h))

rule_same : {a b : Rule} → Some a ≡ Some b → a ≡ b
rule_same e = cc

met_applied : (m : Bool) (g : Graph) (c d : List ℕ) (k : ℕ) (r : Rule) → slice_get g.rules k ≡ Some r → Progress m c d → United m c r.conclusion.left r.conclusion.right d → MetUnless m g d k
unfolding IsMet
met_applied true g c d k r at pr u = tt
met_applied false g c d k r at pr u = λ q qt.
    subst (λ (x : List ℕ). IsMet x q) (sym pr) (subst (λ (y : Rule). IsMet c y) (rule_same (sym at ∙ qt)) (λ h. u))

pub told_applied : (g : Graph) (m : Bool) (c d : List ℕ) (k : ℕ) (r : Rule) → IsWithin g → State g c → slice_get g.rules k ≡ Some r → list_all (same (root c)) r.premises ≡ true → length d ≡ length c → Descends d → Progress m c d → United m c r.conclusion.left r.conclusion.right d → RuleApplied g m c d k
told_applied g m c d k r w st at h len ds pr u =
    let mem : Contains g.rules r = contains_from g.rules k r at in
    let eq : Equal g r.conclusion.left r.conclusion.right = applied r mem (premises_equal g c (length g.nodes) refl st.sound r.premises (w.premises r mem) h) in
    record {
      state = record { len = len ∙ st.len; descends = ds; sound = united_sound m g c r.conclusion.left r.conclusion.right d st pr u eq };
      progress = pr;
      met = met_applied m g c d k r at pr u;
    }

no_both : {b : Bool} → b ≡ true → b ≡ false → ⊥
no_both p q = cc

pub told_not_applied : (g : Graph) (c : List ℕ) (k : ℕ) (r : Rule) → State g c → slice_get g.rules k ≡ Some r → list_all (same (root c)) r.premises ≡ false → RuleApplied g false c c k
unfolding IsMet
told_not_applied g c k r st at h =
    record { state = st; progress = refl; met = λ q qt. subst (λ (y : Rule). IsMet c y) (rule_same (sym at ∙ qt)) (λ t. absurd (no_both t h)) }

pub met_more : (m : Bool) (g : Graph) (c d : List ℕ) (k : ℕ) → MetBelow m g c k → d ≡ c → ((r : Rule) → slice_get g.rules k ≡ Some r → IsMet d r) → MetBelow m g d (k + 1)
met_more true g c d k b e h = tt
met_more false g c d k b e h = λ i r lt at.
    elim (eqb_tells i k) [
      | inl q ↦ h r (rw q.1 at at)
      | inr q ↦ subst (λ (x : List ℕ). IsMet x r) (sym e) (b i r (omega (arith, lt, q.1)) at)
    ]

pub met_end : (m : Bool) (g : Graph) (c : List ℕ) (n : ℕ) → length g.rules ≤ n → MetBelow m g c n → MetBelow m g c (length g.rules)
met_end true g c n le h = tt
met_end false g c n le h = λ i r lt at. h i r (omega (arith, lt, le)) at

-- where no step is left, equal nodes are one
same_from_roots : (r : ℕ → ℕ) (ps : List Pair) → map r (map left_of ps) ≡ map r (map right_of ps) → list_all (same r) ps ≡ true
same_from_roots r [] h = refl
same_from_roots r (p ∷ ps) h =
    let a : same r p ≡ true = eq-eqb (r p.left) (r p.right) (cc) in
    let b : list_all (same r) ps ≡ true = same_from_roots r ps (cc) in
    rw (a, b) refl

slice_get_at : (rs : List Rule) (k : ℕ) (r : Rule) → k < length rs → slice_index_or rs k r ≡ r → slice_get rs k ≡ Some r
slice_get_at [] k r lt e = absurd (omega arith)
slice_get_at (x ∷ xs) zero r lt e = ap Some e
slice_get_at (x ∷ xs) (suc k) r lt e = slice_get_at xs k r (omega arith) e

get_from_contains : (rs : List Rule) (r : Rule) → Contains rs r → (k : ℕ) × (k < length rs) × (slice_get rs k ≡ Some r)
get_from_contains rs r h = (h.0, h.1, slice_get_at rs h.0 r h.1 h.2)

mutual
  unfolding Clean IsMet

  pub complete : (g : Graph) (c : List ℕ) → Clean g c → MetBelow false g c (length g.rules) → (i j : ℕ) → Equal g i j → root c i ≡ root c j
  complete g c cl mt i j (reflexive k) = refl
  complete g c cl mt i j (symmetric k l f) = sym (complete g c cl mt k l f)
  complete g c cl mt i j (transitive k l m f h) = complete g c cl mt k l f ∙ complete g c cl mt l m h
  complete g c cl mt i j (congruent k l a b at bt e fs) = cl k l a b at bt e (complete_all g c cl mt a.args b.args fs)
  complete g c cl mt i j (applied r at fs) =
      let p = get_from_contains g.rules r at in
      mt p.0 r p.1 p.2 (same_from_roots (root c) r.premises (complete_all g c cl mt (map left_of r.premises) (map right_of r.premises) fs))

  pub complete_all : (g : Graph) (c : List ℕ) → Clean g c → MetBelow false g c (length g.rules) → (is js : List ℕ) → AllEqual g is js → map (root c) is ≡ map (root c) js
  complete_all g c cl mt is js none = refl
  complete_all g c cl mt is js (more i j ks ls f fs) = λ t. complete g c cl mt i j f t ∷ complete_all g c cl mt ks ls fs t

pub exact_from : (m : Bool) (g : Graph) (c d : List ℕ) → m ≡ false → State g c → DoneUnless m g c → length d ≡ length c → Descends d → Flat d → ((i : ℕ) → root d i ≡ root c i) → Exact g d
exact_from true g c d e st dn len ds fl r = cc
exact_from false g c d e st dn len ds fl r =
    let to : (i : ℕ) → slice_index d i ≡ root c i = λ i. sym (root_flat d ds fl i) ∙ r i in
    record {
      len = len ∙ st.len;
      descends = ds;
      flat = fl;
      same = λ i j li lj. (λ h. sound_equal g c st.sound i j li lj (sym (to i) ∙ h ∙ to j), λ h. to i ∙ complete g c dn.0 dn.1 i j h ∙ sym (to j));
    }

pub state_flat : (g : Graph) (c d : List ℕ) → State g c → length d ≡ length c → Descends d → ((i : ℕ) → root d i ≡ root c i) → State g d
state_flat g c d st len ds r = record { len = len ∙ st.len; descends = ds; sound = sound_same g c d st.sound r }

false_true : false ≡ true → ⊥
false_true e = cc

pub done_merged : (m : Bool) (g : Graph) (c d : List ℕ) → Progress m c d → CleanUnless m g d → MetBelow false g c (length g.rules) → DoneUnless m g d
done_merged true g c d p cl mt = tt
done_merged false g c d p cl mt = (cl, λ i r lt at. subst (λ (x : List ℕ). IsMet x r) (sym p) (mt i r lt at))

pub progress_le : (m : Bool) (c d : List ℕ) → Progress m c d → total d ≤ total c
progress_le true c d p = omega (arith, p)
progress_le false c d p = rw p (omega arith)

-- a round makes the measure of the rounds fall
pub round_falls : (n m : Bool) (b c d : List ℕ) → n ≡ true → total c ≤ total b → Progress m c d → 2 * total d + (if m then 1 else 0) < 2 * total b + (if n then 1 else 0)
round_falls true true b c d e le p = omega (arith, le, p)
round_falls true false b c d e le p = rw p (omega (arith, le))
round_falls false m b c d e le p = absurd (false_true e)

pub start_state : (g : Graph) (c : List ℕ) → length c ≡ length g.nodes → ((i : ℕ) → i < length g.nodes → slice_index c i ≡ i) → State g c
unfolding Descends
start_state g c len h =
    record {
      len = len;
      descends = λ i. elim (cases_lt i (length g.nodes)) [ inl lt ↦ omega (arith, h i lt) | inr ge ↦ omega (arith, slice_index-past_end c i (omega (arith, ge, len))) ];
      sound = record { each = λ i li. subst (λ (k : ℕ). Equal g i k) (sym (root_own c i (h i li))) (reflexive i) };
    }
