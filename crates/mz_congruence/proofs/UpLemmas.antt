-- Each fact has two nodes that are equal by the rules of the graph.
use Rattle.std.proofs.Common.{◌≡◌, ◌<◌, ℕ, suc, List, [], ◌∷◌, length, map, refl, ap, sym, ◌∙◌, subst, arith, true, false, Bool, inl, inr, ◌⊎◌}
use Rattle.std.specs.Prelude.{slice_get, Some, Contains, All, nat_lt, ◌↔◌}
use Rattle.std.specs.List.{list_all}
use Rattle.std.proofs.lemmas.Option.{slice_get_within, get_or_from_slice_get}
use Rattle.std.proofs.lemmas.Bool.{lt-ltb}
use Rattle.mz_logic.specs.declared.sym.Sym.{Sym}
use Rattle.mz_logic.specs.Term as term
use Rattle.mz_logic.specs.Term.{Term, terms_of, list_of}
use Rattle.mz_logic.specs.TermStorage.{list_of-terms_of}
use Rattle.mz_logic.specs.declared.literal.Literal.{Literal}
use Rattle.mz_logic.specs.declared.literal.Literal.TheVariants.{Atom, Eq}
use Rattle.mz_logic.specs.declared.disjunct.Disjunct.{Disjunct}
use Rattle.mz_ground.specs.Layers.{IsGroundLiteral}
use Rattle.mz_ground.specs.Instance.{premises_at, conclusion_at}
use Rattle.mz_ground.specs.Ground.{term_at, term_of_entry, ground_terms, IsGround}
use Rattle.mz_ground.specs.Facts as facts
use Rattle.mz_ground.specs.Facts.{Fact, AreEqual, AreFacts}
use Rattle.mz_ground.specs.declared.clause.Clause.{Clause}
use Rattle.mz_ground.specs.declared.ground_part.Ground.{Ground}
use Rattle.mz_ground.specs.declared.ground_term.GroundTerm.{GroundTerm}
use Rattle.mz_ground.specs.declared.ground_term.GroundTerm.TheVariants.{Const, App}
use Rattle.mz_ground.specs.declared.ground_atom.GroundAtom.{GroundAtom}
use Rattle.mz_ground.specs.declared.ground_equation.GroundEquation.{GroundEquation}
use Rattle.mz_congruence.specs.declared.graph.Head.TheVariants.{Function}
use Rattle.mz_congruence.specs.declared.graph.Node.{Node}
use Rattle.mz_congruence.specs.declared.graph.Pair.{Pair}
use Rattle.mz_congruence.specs.declared.graph.Rule.{Rule}
use Rattle.mz_congruence.specs.declared.graph.Graph.{Graph}
use Rattle.mz_congruence.specs.Congruence as nodes
use Rattle.mz_congruence.specs.Congruence.{Equal, AllEqual, left_of, right_of}
use Rattle.mz_congruence.specs.Nodes.{atom_head, atom_node, nodes_of, atom_place, disequal_place, yes_place, key_at}
use Rattle.mz_congruence.specs.Codes.{IsTermPlace, IsAtomPlace, IsEquationPlace, Codes, CodesAll, rule_of, IsRule, of_literal, of_exchange, of_instance, IsGraph}
use Rattle.mz_congruence.specs.Pairing.{AllWithin}
use Rattle.mz_congruence.specs.Closing.{pair_below, IsWithin}
use Rattle.mz_congruence.proofs.ListLemmas.{get_some, get_contains, contains_head, contains_tail}
use Rattle.mz_congruence.proofs.GroundLemmas.{term_entry, term_place, term_unique, atom_found, atom_unique, equation_found, equation_unique, equation_within}
use Rattle.mz_congruence.proofs.NodeLemmas.{term_node_at, atom_node_at, term_key, atom_key, disequal_key, yes_key, NodeStands, nodes_stand, term_within, atom_within, disequal_within, yes_within, list_all_below}
use Rattle.mz_congruence.proofs.FactLemmas.{down, terms_from, literal_from}

-- two nodes that stand for the literal: for equal terms any places of them, for terms that are disequal the equation or its exchange
abbrev pub At : Ground → Literal → ℕ → ℕ → Type 0
At g (Atom positive s ts) i j = (k : ℕ) × IsAtomPlace g k s ts × (i ≡ atom_place g positive k) × (j ≡ yes_place g)
At g (Eq true t u) i j = IsTermPlace g i t × IsTermPlace g j u
At g (Eq false t u) i j = (k : ℕ) × (e : GroundEquation) × (IsEquationPlace g k e t u ⊎ IsEquationPlace g k e u t) × (i ≡ disequal_place g k) × (j ≡ yes_place g)

-- the literal has two nodes that are equal
pub record Coded (g : Ground) (graph : Graph) (l : Literal) : Type 0 where
  pub left : ℕ
  pub right : ℕ
  pub at : At g l left right
  pub equal : Equal graph left right

same_equal : (graph : Graph) (i j : ℕ) → i ≡ j → Equal graph i j
same_equal graph i j e = subst (λ (k : ℕ). Equal graph i k) e (nodes.reflexive i)

rule_equal : (graph : Graph) (i j : ℕ) → Contains graph.rules (rule_of [] i j) → Equal graph i j
rule_equal graph i j c = nodes.applied (rule_of [] i j) c nodes.none

exchange_equal : (d : Disjunct) (cs : List Clause) (g : Ground) → IsGround d cs g → (graph : Graph) → IsGraph d cs g graph → (k m : ℕ) (e f : GroundEquation) (t u : Term) → IsEquationPlace g k e t u → IsEquationPlace g m f u t → Equal graph (disequal_place g k) (disequal_place g m)
exchange_equal d cs g gr graph h k m e f t u p q =
    let w = equation_within d cs g gr k e p.0 in
    let v = equation_within d cs g gr m f q.0 in
    let a : e.left ≡ f.right = term_unique d cs g gr e.left f.right t (w.0, p.1) (v.1, q.2) in
    let b : e.right ≡ f.left = term_unique d cs g gr e.right f.left u (w.1, p.2) (v.0, q.1) in
    rule_equal graph (disequal_place g k) (disequal_place g m) (h.complete (rule_of [] (disequal_place g k) (disequal_place g m)) (of_exchange k m e f p.0 q.0 a b))

disequal_equal : (d : Disjunct) (cs : List Clause) (g : Ground) → IsGround d cs g → (graph : Graph) → IsGraph d cs g graph → (k m : ℕ) (e f : GroundEquation) (t u : Term) → (IsEquationPlace g k e t u ⊎ IsEquationPlace g k e u t) → (IsEquationPlace g m f t u ⊎ IsEquationPlace g m f u t) → Equal graph (disequal_place g k) (disequal_place g m)
disequal_equal d cs g gr graph h k m e f t u p q =
    elim p [
      | inl a ↦ elim q [
        | inl b ↦ same_equal graph (disequal_place g k) (disequal_place g m) (ap (disequal_place g) (equation_unique d cs g gr k m e f t u a b))
        | inr b ↦ exchange_equal d cs g gr graph h k m e f t u a b
      ]
      | inr a ↦ elim q [
        | inl b ↦ exchange_equal d cs g gr graph h k m e f u t a b
        | inr b ↦ same_equal graph (disequal_place g k) (disequal_place g m) (ap (disequal_place g) (equation_unique d cs g gr k m e f u t a b))
      ]
    ]

-- the nodes of a literal are determined up to equality
at_equal : (d : Disjunct) (cs : List Clause) (g : Ground) → IsGround d cs g → (graph : Graph) → IsGraph d cs g graph → (l : Literal) (i j i' j' : ℕ) → At g l i j → At g l i' j' → Equal graph i i' × Equal graph j j'
at_equal d cs g gr graph h (Atom positive s ts) i j i' j' p q =
    let k : p.0 ≡ q.0 = atom_unique d cs g gr p.0 q.0 s ts p.1 q.1 in
    (same_equal graph i i' (p.2 ∙ ap (atom_place g positive) k ∙ sym q.2), same_equal graph j j' (p.3 ∙ sym q.3))
at_equal d cs g gr graph h (Eq true t u) i j i' j' p q =
    (same_equal graph i i' (term_unique d cs g gr i i' t p.0 q.0), same_equal graph j j' (term_unique d cs g gr j j' u p.1 q.1))
at_equal d cs g gr graph h (Eq false t u) i j i' j' p q =
    let x : Equal graph (disequal_place g p.0) (disequal_place g q.0) = disequal_equal d cs g gr graph h p.0 q.0 p.1 q.1 t u p.2 q.2 in
    (nodes.transitive i (disequal_place g p.0) i' (same_equal graph i (disequal_place g p.0) p.3) (nodes.transitive (disequal_place g p.0) (disequal_place g q.0) i' x (same_equal graph (disequal_place g q.0) i' (sym q.3))), same_equal graph j j' (p.4 ∙ sym q.4))

codes_at : (d : Disjunct) (cs : List Clause) (g : Ground) → IsGround d cs g → (l : Literal) (i j : ℕ) → Codes g l i j → At g l i j
codes_at d cs g gr (Atom positive s ts) i j c = c
codes_at d cs g gr (Eq true t u) i j c =
    let w = equation_within d cs g gr c.0 c.1 c.2.0 in
    (subst (λ (k : ℕ). IsTermPlace g k t) (sym c.3) (w.0, c.2.1), subst (λ (k : ℕ). IsTermPlace g k u) (sym c.4) (w.1, c.2.2))
codes_at d cs g gr (Eq false t u) i j c = (c.0, c.1, inl c.2, c.3, c.4)

pub codes_found : (d : Disjunct) (cs : List Clause) (g : Ground) → IsGround d cs g → (l : Literal) → IsGroundLiteral d cs l → (i : ℕ) × (j : ℕ) × Codes g l i j
codes_found d cs g gr (Atom positive s ts) h = let p = atom_found d cs g gr s ts h in (atom_place g positive p.0, yes_place g, (p.0, p.1, refl, refl))
codes_found d cs g gr (Eq true t u) h = let p = equation_found d cs g gr t u h in (p.1.left, p.1.right, (p.0, p.1, p.2, refl, refl))
codes_found d cs g gr (Eq false t u) h = let p = equation_found d cs g gr t u h in (disequal_place g p.0, yes_place g, (p.0, p.1, p.2, refl, refl))

all_codes_found : (d : Disjunct) (cs : List Clause) (g : Ground) → IsGround d cs g → (ls : List Literal) → ((k : ℕ) (l : Literal) → slice_get ls k ≡ Some l → IsGroundLiteral d cs l) → (ps : List Pair) × CodesAll g ls ps
all_codes_found d cs g gr [] h = ([], tt)
all_codes_found d cs g gr (l ∷ ls) h =
    let p = codes_found d cs g gr l (h 0 l refl) in
    let q = all_codes_found d cs g gr ls (λ k m e. h (suc k) m e) in
    (record { left = p.0; right = p.1 } ∷ q.0, (p.2, q.1))

all_get : (d : Disjunct) (cs : List Clause) (ls : List Literal) → All (IsGroundLiteral d cs) ls → (k : ℕ) (l : Literal) → slice_get ls k ≡ Some l → IsGroundLiteral d cs l
all_get d cs ls h k l at = subst (λ (x : Literal). IsGroundLiteral d cs x) (get_or_from_slice_get ls k l l at) (h k l (slice_get_within ls k l at))

graph_get : (d : Disjunct) (cs : List Clause) (g : Ground) (graph : Graph) → IsGraph d cs g graph → (i : ℕ) (a : Node) → slice_get (nodes_of g) i ≡ Some a → slice_get graph.nodes i ≡ Some a
graph_get d cs g graph h i a at = ap (λ (ns : List Node). slice_get ns i) h.nodes ∙ at

app_parts : {r s : Sym} {xs ys : term.Terms} → term.App r xs ≡ term.App s ys → (r ≡ s) × (xs ≡ ys)
app_parts e = (cc, cc)

const_app : {n : ℕ} {s : Sym} {ys : term.Terms} → term.Const n ≡ term.App s ys → ⊥
const_app e = cc

app_entry : (ts : List Term) (x : GroundTerm) (s : Sym) (us : List Term) → term_of_entry ts x ≡ term.App s (terms_of us) → (args : List ℕ) × (x ≡ App s args) × (map (term_at ts) args ≡ us)
app_entry ts (Const number) s us e = absurd (const_app e)
app_entry ts (App r args) s us e =
    let p = app_parts e in
    (args, ap (λ q. App q args) p.0, sym (list_of-terms_of (map (term_at ts) args)) ∙ ap list_of p.1 ∙ list_of-terms_of us)

-- the entry of a term with a symbol
pub app_place : (d : Disjunct) (cs : List Clause) (g : Ground) → IsGround d cs g → (i : ℕ) (s : Sym) (us : List Term) → IsTermPlace g i (term.App s (terms_of us)) → (args : List ℕ) × (slice_get g.terms i ≡ Some (App s args)) × (map (term_at (ground_terms g)) args ≡ us)
app_place d cs g gr i s us h =
    let p = get_some g.terms i h.0 in
    let e : term_of_entry (ground_terms g) p.0 ≡ term.App s (terms_of us) = sym (term_entry d cs g gr i p.0 p.1) ∙ h.1 in
    let q = app_entry (ground_terms g) p.0 s us e in
    (q.0, p.1 ∙ ap Some q.1, q.2)

pub cons_nil : {t : Term} {ts : List Term} → t ∷ ts ≡ [] → ⊥
cons_nil e = cc

pub nil_cons : {t : Term} {ts : List Term} → [] ≡ t ∷ ts → ⊥
nil_cons e = cc

pub cons_head : {t u : Term} {ts us : List Term} → t ∷ ts ≡ u ∷ us → t ≡ u
cons_head e = cc

pub cons_tail : {t u : Term} {ts us : List Term} → t ∷ ts ≡ u ∷ us → ts ≡ us
cons_tail e = cc

pub within_term : (d : Disjunct) (cs : List Clause) (g : Ground) → IsGround d cs g → (i : ℕ) (s : Sym) (args : List ℕ) → slice_get g.terms i ≡ Some (App s args) → AllWithin g args
within_term d cs g gr i s args at = λ k c. omega (arith, gr.earlier i k s args at c, slice_get_within g.terms i (App s args) at)

pub within_atom : (d : Disjunct) (cs : List Clause) (g : Ground) → IsGround d cs g → (k : ℕ) (a : GroundAtom) → slice_get g.atoms k ≡ Some a → AllWithin g a.args
within_atom d cs g gr k a at = λ j c. gr.atoms_within a j (get_contains g.atoms k a at) c

mutual
  pub up : (d : Disjunct) (cs : List Clause) (g : Ground) → IsGround d cs g → (graph : Graph) → IsGraph d cs g graph → (l : Literal) → Fact d cs l → Coded g graph l
  up d cs g gr graph h l (facts.given m mem gm) =
      let p = codes_found d cs g gr m gm in
      record { left = p.0; right = p.1; at = codes_at d cs g gr m p.0 p.1 p.2; equal = rule_equal graph p.0 p.1 (h.complete (rule_of [] p.0 p.1) (of_literal m p.0 p.1 mem p.2)) }
  up d cs g gr graph h l (facts.reflexive t gt) =
      let p = term_place d cs g gr t gt in
      record { left = p.0; right = p.0; at = (p.1, p.1); equal = nodes.reflexive p.0 }
  up d cs g gr graph h l (facts.symmetric t u f) =
      let r = up d cs g gr graph h (Eq true t u) f in
      record { left = r.right; right = r.left; at = (r.at.1, r.at.0); equal = nodes.symmetric r.left r.right r.equal }
  up d cs g gr graph h l (facts.transitive t u v f e) =
      let r = up d cs g gr graph h (Eq true t u) f in
      let q = up d cs g gr graph h (Eq true u v) e in
      let one : r.right ≡ q.left = term_unique d cs g gr r.right q.left u r.at.1 q.at.0 in
      record { left = r.left; right = q.right; at = (r.at.0, q.at.1); equal = nodes.transitive r.left q.left q.right (subst (λ (k : ℕ). Equal graph r.left k) one r.equal) q.equal }
  up d cs g gr graph h l (facts.congruent s ts us gt gu es) =
      let p = term_place d cs g gr (term.App s (terms_of ts)) gt in
      let q = term_place d cs g gr (term.App s (terms_of us)) gu in
      let x = app_place d cs g gr p.0 s ts p.1 in
      let y = app_place d cs g gr q.0 s us q.1 in
      let fs : AllEqual graph x.0 y.0 = up_args d cs g gr graph h ts us es x.0 y.0 (within_term d cs g gr p.0 s x.0 x.1) (within_term d cs g gr q.0 s y.0 y.1) x.2 y.2 in
      record {
        left = p.0;
        right = q.0;
        at = (p.1, q.1);
        equal = nodes.congruent p.0 q.0 (record { head = Function s; args = x.0 }) (record { head = Function s; args = y.0 }) (graph_get d cs g graph h p.0 (record { head = Function s; args = x.0 }) (term_node_at g p.0 (App s x.0) x.1)) (graph_get d cs g graph h q.0 (record { head = Function s; args = y.0 }) (term_node_at g q.0 (App s y.0) y.1)) refl fs;
      }
  up d cs g gr graph h l (facts.atom_congruence positive s ts us f gu es) =
      let r = up d cs g gr graph h (Atom positive s ts) f in
      let q = atom_found d cs g gr s us gu in
      let a : GroundAtom = r.at.1.0 in
      let b : GroundAtom = q.1.0 in
      let i : ℕ = atom_place g positive r.at.0 in
      let j : ℕ = atom_place g positive q.0 in
      let fs : AllEqual graph a.args b.args = up_args d cs g gr graph h ts us es a.args b.args (within_atom d cs g gr r.at.0 a r.at.1.1) (within_atom d cs g gr q.0 b q.1.1) r.at.1.3 q.1.3 in
      let heads : atom_head positive a.sym ≡ atom_head positive b.sym = ap (atom_head positive) (r.at.1.2 ∙ sym q.1.2) in
      let one : Equal graph i j = nodes.congruent i j (atom_node positive a) (atom_node positive b) (graph_get d cs g graph h i (atom_node positive a) (atom_node_at g positive r.at.0 a r.at.1.1)) (graph_get d cs g graph h j (atom_node positive b) (atom_node_at g positive q.0 b q.1.1)) heads fs in
      record {
        left = j;
        right = r.right;
        at = (q.0, q.1, refl, r.at.3);
        equal = nodes.transitive j i r.right (nodes.symmetric i j one) (nodes.transitive i r.left r.right (same_equal graph i r.left (sym r.at.2)) r.equal);
      }
  up d cs g gr graph h l (facts.reversed t u f) =
      let r = up d cs g gr graph h (Eq false t u) f in
      record { left = r.left; right = r.right; at = (r.at.0, r.at.1, elim r.at.2 [ inl x ↦ inr x | inr x ↦ inl x ], r.at.3, r.at.4); equal = r.equal }
  up d cs g gr graph h l (facts.fired c ts mem len trigger gps gp fs) =
      let ps = all_codes_found d cs g gr (premises_at c ts) (all_get d cs (premises_at c ts) gps) in
      let p = codes_found d cs g gr (conclusion_at c ts) gp in
      let es : AllEqual graph (map left_of ps.0) (map right_of ps.0) = up_all d cs g gr graph h (premises_at c ts) fs ps.0 ps.1 in
      record {
        left = p.0;
        right = p.1;
        at = codes_at d cs g gr (conclusion_at c ts) p.0 p.1 p.2;
        equal = nodes.applied (rule_of ps.0 p.0 p.1) (h.complete (rule_of ps.0 p.0 p.1) (of_instance c ts ps.0 p.0 p.1 mem len trigger ps.1 p.2)) es;
      }

  up_args : (d : Disjunct) (cs : List Clause) (g : Ground) → IsGround d cs g → (graph : Graph) → IsGraph d cs g graph → (ts us : List Term) → AreEqual d cs ts us → (is js : List ℕ) → AllWithin g is → AllWithin g js → map (term_at (ground_terms g)) is ≡ ts → map (term_at (ground_terms g)) js ≡ us → AllEqual graph is js
  up_args d cs g gr graph h ts us facts.no_terms [] [] a b p q = nodes.none
  up_args d cs g gr graph h ts us facts.no_terms [] (j ∷ js) a b p q = absurd (cons_nil q)
  up_args d cs g gr graph h ts us facts.no_terms (i ∷ is) js a b p q = absurd (cons_nil p)
  up_args d cs g gr graph h ts us (facts.and_terms t u vs ws f es) [] js a b p q = absurd (nil_cons p)
  up_args d cs g gr graph h ts us (facts.and_terms t u vs ws f es) (i ∷ is) [] a b p q = absurd (nil_cons q)
  up_args d cs g gr graph h ts us (facts.and_terms t u vs ws f es) (i ∷ is) (j ∷ js) a b p q =
      let r = up d cs g gr graph h (Eq true t u) f in
      let x : i ≡ r.left = term_unique d cs g gr i r.left t (a i (contains_head i is), cons_head p) r.at.0 in
      let y : r.right ≡ j = term_unique d cs g gr r.right j u r.at.1 (b j (contains_head j js), cons_head q) in
      nodes.more i j is js (nodes.transitive i r.left j (same_equal graph i r.left x) (nodes.transitive r.left r.right j r.equal (same_equal graph r.right j y)))
      (up_args d cs g gr graph h vs ws es is js (λ k c. a k (contains_tail i k is c)) (λ k c. b k (contains_tail j k js c)) (cons_tail p) (cons_tail q))

  up_all : (d : Disjunct) (cs : List Clause) (g : Ground) → IsGround d cs g → (graph : Graph) → IsGraph d cs g graph → (ls : List Literal) → AreFacts d cs ls → (ps : List Pair) → CodesAll g ls ps → AllEqual graph (map left_of ps) (map right_of ps)
  up_all d cs g gr graph h ls facts.no_literals [] c = nodes.none
  up_all d cs g gr graph h ls facts.no_literals (p ∷ ps) c = absurd c
  up_all d cs g gr graph h ls (facts.and_literals l ms f fs) [] c = absurd c
  up_all d cs g gr graph h ls (facts.and_literals l ms f fs) (p ∷ ps) c =
      let r = up d cs g gr graph h l f in
      let x = at_equal d cs g gr graph h l p.left p.right r.left r.right (codes_at d cs g gr l p.left p.right c.0) r.at in
      nodes.more p.left p.right (map left_of ps) (map right_of ps) (nodes.transitive p.left r.left p.right x.0 (nodes.transitive r.left r.right p.right r.equal (nodes.symmetric p.right r.right x.1)))
      (up_all d cs g gr graph h ms fs ps c.1)

-- equal nodes are exactly the facts
pub exact_terms : (d : Disjunct) (cs : List Clause) (g : Ground) → IsGround d cs g → (graph : Graph) → IsGraph d cs g graph → (i j : ℕ) → i < length g.terms → j < length g.terms → Equal graph i j ↔ Fact d cs (Eq true (term_at (ground_terms g) i) (term_at (ground_terms g) j))
exact_terms d cs g gr graph h i j li lj =
    let t : Term = term_at (ground_terms g) i in
    let u : Term = term_at (ground_terms g) j in (
      λ e. terms_from d cs (key_at g i) (key_at g j) t u (term_key d cs g gr i li) (term_key d cs g gr j lj) (down d cs g gr graph h i j e),
      λ f.
          let r = up d cs g gr graph h (Eq true t u) f in
          let x : i ≡ r.left = term_unique d cs g gr i r.left t (li, refl) r.at.0 in
          let y : r.right ≡ j = term_unique d cs g gr r.right j u r.at.1 (lj, refl) in
          nodes.transitive i r.left j (same_equal graph i r.left x) (nodes.transitive r.left r.right j r.equal (same_equal graph r.right j y)),
    )

pub exact_atom : (d : Disjunct) (cs : List Clause) (g : Ground) → IsGround d cs g → (graph : Graph) → IsGraph d cs g graph → (positive : Bool) (k : ℕ) (a : GroundAtom) → slice_get g.atoms k ≡ Some a → Equal graph (atom_place g positive k) (yes_place g) ↔ Fact d cs (Atom positive a.sym (map (term_at (ground_terms g)) a.args))
exact_atom d cs g gr graph h positive k a at =
    let ts : List Term = map (term_at (ground_terms g)) a.args in
    let i : ℕ = atom_place g positive k in
    let j : ℕ = yes_place g in (
      λ e. literal_from d cs (key_at g i) (key_at g j) (Atom positive a.sym ts) (atom_key g positive k a at) (yes_key g) (down d cs g gr graph h i j e),
      λ f.
          let r = up d cs g gr graph h (Atom positive a.sym ts) f in
          let x = at_equal d cs g gr graph h (Atom positive a.sym ts) i j r.left r.right (k, (a, at, refl, refl), refl, refl) r.at in
          nodes.transitive i r.left j x.0 (nodes.transitive r.left r.right j r.equal (nodes.symmetric j r.right x.1)),
    )

pub exact_disequal : (d : Disjunct) (cs : List Clause) (g : Ground) → IsGround d cs g → (graph : Graph) → IsGraph d cs g graph → (k : ℕ) (e : GroundEquation) → slice_get g.equations k ≡ Some e → Equal graph (disequal_place g k) (yes_place g) ↔ Fact d cs (Eq false (term_at (ground_terms g) e.left) (term_at (ground_terms g) e.right))
exact_disequal d cs g gr graph h k e at =
    let t : Term = term_at (ground_terms g) e.left in
    let u : Term = term_at (ground_terms g) e.right in
    let i : ℕ = disequal_place g k in
    let j : ℕ = yes_place g in (
      λ q. literal_from d cs (key_at g i) (key_at g j) (Eq false t u) (disequal_key g k e at) (yes_key g) (down d cs g gr graph h i j q),
      λ f.
          let r = up d cs g gr graph h (Eq false t u) f in
          let x = at_equal d cs g gr graph h (Eq false t u) i j r.left r.right (k, e, inl (at, refl, refl), refl, refl) r.at in
          nodes.transitive i r.left j x.0 (nodes.transitive r.left r.right j r.equal (nodes.symmetric j r.right x.1)),
    )

-- a disequation is a fact only where it or its exchange is ground
pub disequal_ground : (d : Disjunct) (cs : List Clause) (g : Ground) → IsGround d cs g → (graph : Graph) → IsGraph d cs g graph → (t u : Term) → Fact d cs (Eq false t u) → (k : ℕ) × (e : GroundEquation) × (IsEquationPlace g k e t u ⊎ IsEquationPlace g k e u t)
disequal_ground d cs g gr graph h t u f = let r = up d cs g gr graph h (Eq false t u) f in (r.at.0, r.at.1, r.at.2)

-- all numbers of the graph are those of nodes
codes_within : (d : Disjunct) (cs : List Clause) (g : Ground) → IsGround d cs g → (l : Literal) (i j : ℕ) → Codes g l i j → (i < length (nodes_of g)) × (j < length (nodes_of g))
codes_within d cs g gr (Atom positive s ts) i j c =
    let lt : c.0 < length g.atoms = slice_get_within g.atoms c.0 c.1.0 c.1.1 in
    (omega (arith, c.2, atom_within g positive c.0 lt), omega (arith, c.3, yes_within g))
codes_within d cs g gr (Eq true t u) i j c =
    let w = equation_within d cs g gr c.0 c.1 c.2.0 in
    (omega (arith, c.3, term_within g c.1.left w.0), omega (arith, c.4, term_within g c.1.right w.1))
codes_within d cs g gr (Eq false t u) i j c =
    let lt : c.0 < length g.equations = slice_get_within g.equations c.0 c.1 c.2.0 in
    (omega (arith, c.3, disequal_within g c.0 lt), omega (arith, c.4, yes_within g))

codes_all_within : (d : Disjunct) (cs : List Clause) (g : Ground) → IsGround d cs g → (n : ℕ) → n ≡ length (nodes_of g) → (ls : List Literal) (ps : List Pair) → CodesAll g ls ps → list_all (pair_below n) ps ≡ true
codes_all_within d cs g gr n e [] [] c = refl
codes_all_within d cs g gr n e [] (p ∷ ps) c = absurd c
codes_all_within d cs g gr n e (l ∷ ls) [] c = absurd c
codes_all_within d cs g gr n e (l ∷ ls) (p ∷ ps) c =
    let w = codes_within d cs g gr l p.left p.right c.0 in
    let a : nat_lt p.left n ≡ true = lt-ltb p.left n (omega (arith, w.0, e)) in
    let b : nat_lt p.right n ≡ true = lt-ltb p.right n (omega (arith, w.1, e)) in
    let r : list_all (pair_below n) ps ≡ true = codes_all_within d cs g gr n e ls ps c.1 in
    rw (a, b, r) refl

rule_premises : (d : Disjunct) (cs : List Clause) (g : Ground) → IsGround d cs g → (n : ℕ) → n ≡ length (nodes_of g) → (r : Rule) → IsRule d cs g r → list_all (pair_below n) r.premises ≡ true
rule_premises d cs g gr n e r (of_literal l i j mem c) = refl
rule_premises d cs g gr n e r (of_exchange k m x y at bt p q) = refl
rule_premises d cs g gr n e r (of_instance c ts ps i j mem len trigger cps cp) = codes_all_within d cs g gr n e (premises_at c ts) ps cps

rule_conclusion : (d : Disjunct) (cs : List Clause) (g : Ground) → IsGround d cs g → (r : Rule) → IsRule d cs g r → (r.conclusion.left < length (nodes_of g)) × (r.conclusion.right < length (nodes_of g))
rule_conclusion d cs g gr r (of_literal l i j mem c) = codes_within d cs g gr l i j c
rule_conclusion d cs g gr r (of_exchange k m x y at bt p q) = (disequal_within g k (slice_get_within g.equations k x at), disequal_within g m (slice_get_within g.equations m y bt))
rule_conclusion d cs g gr r (of_instance c ts ps i j mem len trigger cps cp) = codes_within d cs g gr (conclusion_at c ts) i j cp

pub graph_within : (d : Disjunct) (cs : List Clause) (g : Ground) → IsGround d cs g → (graph : Graph) → IsGraph d cs g graph → IsWithin graph
graph_within d cs g gr graph h =
    let n : length graph.nodes ≡ length (nodes_of g) = ap length h.nodes in
    record {
      args = λ i a at.
          let s : NodeStands d cs g a = nodes_stand d cs g gr i a (ap (λ (ns : List Node). slice_get ns i) (sym h.nodes) ∙ at) in
          list_all_below (length graph.nodes) a.args (λ k c. omega (arith, s.within k c, n, term_within g k (s.within k c)));
      premises = λ r c. rule_premises d cs g gr (length graph.nodes) n r (h.sound r c);
      conclusion = λ r c. let p = rule_conclusion d cs g gr r (h.sound r c) in (omega (arith, p.0, n), omega (arith, p.1, n));
    }
