-- The nodes of a ground part: where they stand and what they say.
use Rattle.std.proofs.Common.{◌≡◌, ◌<◌, ◌+◌, ℕ, List, [], ◌∷◌, length, length-append, map, refl, ap, sym, ◌∙◌, subst, arith, true, false, Bool}
use Rattle.std.specs.Prelude.{slice_get, Some, Contains, nat_lt}
use Rattle.std.specs.List.{list_all}
use Rattle.std.proofs.lemmas.Bool.{lt-ltb}
use Rattle.std.proofs.lemmas.Option.{slice_get_within}
use Rattle.std.proofs.lemmas.List.{length-map}
use Rattle.mz_logic.specs.declared.sym.Sym.{Sym}
use Rattle.mz_logic.specs.Term as term
use Rattle.mz_logic.specs.Term.{Term, terms_of}
use Rattle.mz_logic.specs.declared.literal.Literal.{Literal}
use Rattle.mz_logic.specs.declared.literal.Literal.TheVariants.{Atom, Eq}
use Rattle.mz_logic.specs.declared.disjunct.Disjunct.{Disjunct}
use Rattle.mz_ground.specs.Layers.{IsGroundTerm, IsGroundAtom}
use Rattle.mz_ground.specs.Ground.{term_at, term_of_entry, ground_terms, IsGround}
use Rattle.mz_ground.specs.declared.clause.Clause.{Clause}
use Rattle.mz_ground.specs.declared.ground_part.Ground.{Ground}
use Rattle.mz_ground.specs.declared.ground_term.GroundTerm.{GroundTerm}
use Rattle.mz_ground.specs.declared.ground_term.GroundTerm.TheVariants.{Const, App}
use Rattle.mz_ground.specs.declared.ground_atom.GroundAtom.{GroundAtom}
use Rattle.mz_ground.specs.declared.ground_equation.GroundEquation.{GroundEquation}
use Rattle.mz_congruence.specs.declared.graph.Node.{Node}
use Rattle.mz_congruence.specs.Nodes.{term_node, atom_head, atom_node, disequal_node, yes_node, nodes_to_positive, nodes_to_negative, nodes_to_disequal, nodes_of, atom_place, disequal_place, yes_place, OfTerm, OfLiteral, OfTruth, key, key_or_truth, key_at}
use Rattle.mz_congruence.specs.Closing.{below}
use Rattle.mz_congruence.proofs.ListLemmas.{get_left, get_right, get_map, get_some, get_contains, contains_head, contains_tail, not_contains_nil, AllOf, all_append, all_map, all_one}
use Rattle.mz_congruence.proofs.GroundLemmas.{term_entry, term_ground, atom_ground}

-- where the nodes stand
pub term_node_at : (g : Ground) (i : ℕ) (e : GroundTerm) → slice_get g.terms i ≡ Some e → slice_get (nodes_of g) i ≡ Some (term_node e)
term_node_at g i e at =
    get_left (nodes_to_disequal g) (yes_node ∷ []) i (term_node e) (get_left (nodes_to_negative g) (map disequal_node g.equations) i (term_node e)
    (get_left (nodes_to_positive g) (map (atom_node false) g.atoms) i (term_node e) (get_left (map term_node g.terms) (map (atom_node true) g.atoms) i (term_node e) (get_map term_node g.terms i e at))))

length_positive : (g : Ground) → length (nodes_to_positive g) ≡ length g.terms + length g.atoms
length_positive g =
    let a : length (map term_node g.terms) ≡ length g.terms = length-map g.terms term_node in
    let b : length (map (atom_node true) g.atoms) ≡ length g.atoms = length-map g.atoms (atom_node true) in
    let c : length (nodes_to_positive g) ≡ length (map term_node g.terms) + length (map (atom_node true) g.atoms) = length-append (map term_node g.terms) (map (atom_node true) g.atoms) in
    omega (arith, a, b, c)

length_negative : (g : Ground) → length (nodes_to_negative g) ≡ length g.terms + length g.atoms + length g.atoms
length_negative g =
    let b : length (map (atom_node false) g.atoms) ≡ length g.atoms = length-map g.atoms (atom_node false) in
    let c : length (nodes_to_negative g) ≡ length (nodes_to_positive g) + length (map (atom_node false) g.atoms) = length-append (nodes_to_positive g) (map (atom_node false) g.atoms) in
    omega (arith, b, c, length_positive g)

length_disequal : (g : Ground) → length (nodes_to_disequal g) ≡ yes_place g
length_disequal g =
    let b : length (map disequal_node g.equations) ≡ length g.equations = length-map g.equations disequal_node in
    let c : length (nodes_to_disequal g) ≡ length (nodes_to_negative g) + length (map disequal_node g.equations) = length-append (nodes_to_negative g) (map disequal_node g.equations) in
    omega (arith, b, c, length_negative g)

pub length_nodes : (g : Ground) → length (nodes_of g) ≡ yes_place g + 1
length_nodes g =
    let c : length (nodes_of g) ≡ length (nodes_to_disequal g) + 1 = length-append (nodes_to_disequal g) (yes_node ∷ []) in
    omega (arith, c, length_disequal g)

pub atom_node_at : (g : Ground) (positive : Bool) (k : ℕ) (a : GroundAtom) → slice_get g.atoms k ≡ Some a → slice_get (nodes_of g) (atom_place g positive k) ≡ Some (atom_node positive a)
atom_node_at g true k a at =
    let i : ℕ = length g.terms + k in
    let n : length (map term_node g.terms) ≡ length g.terms = length-map g.terms term_node in
    let here : slice_get (nodes_to_positive g) i ≡ Some (atom_node true a) = get_right (map term_node g.terms) (map (atom_node true) g.atoms) i k (omega (arith, n)) ∙ get_map (atom_node true) g.atoms k a at in
    get_left (nodes_to_disequal g) (yes_node ∷ []) i (atom_node true a) (get_left (nodes_to_negative g) (map disequal_node g.equations) i (atom_node true a)
    (get_left (nodes_to_positive g) (map (atom_node false) g.atoms) i (atom_node true a) here))
atom_node_at g false k a at =
    let i : ℕ = length g.terms + length g.atoms + k in
    let here : slice_get (nodes_to_negative g) i ≡ Some (atom_node false a) = get_right (nodes_to_positive g) (map (atom_node false) g.atoms) i k (omega (arith, length_positive g)) ∙ get_map (atom_node false) g.atoms k a at in
    get_left (nodes_to_disequal g) (yes_node ∷ []) i (atom_node false a) (get_left (nodes_to_negative g) (map disequal_node g.equations) i (atom_node false a) here)

pub disequal_node_at : (g : Ground) (k : ℕ) (e : GroundEquation) → slice_get g.equations k ≡ Some e → slice_get (nodes_of g) (disequal_place g k) ≡ Some (disequal_node e)
disequal_node_at g k e at =
    let i : ℕ = disequal_place g k in
    let here : slice_get (nodes_to_disequal g) i ≡ Some (disequal_node e) = get_right (nodes_to_negative g) (map disequal_node g.equations) i k (omega (arith, length_negative g)) ∙ get_map disequal_node g.equations k e at in
    get_left (nodes_to_disequal g) (yes_node ∷ []) i (disequal_node e) here

pub yes_node_at : (g : Ground) → slice_get (nodes_of g) (yes_place g) ≡ Some yes_node
yes_node_at g = get_right (nodes_to_disequal g) (yes_node ∷ []) (yes_place g) 0 (omega (arith, length_disequal g))

-- the places are within
pub term_within : (g : Ground) (i : ℕ) → i < length g.terms → i < length (nodes_of g)
term_within g i lt = omega (arith, lt, length_nodes g)

pub atom_within : (g : Ground) (positive : Bool) (k : ℕ) → k < length g.atoms → atom_place g positive k < length (nodes_of g)
atom_within g true k lt = omega (arith, lt, length_nodes g)
atom_within g false k lt = omega (arith, lt, length_nodes g)

pub disequal_within : (g : Ground) (k : ℕ) → k < length g.equations → disequal_place g k < length (nodes_of g)
disequal_within g k lt = omega (arith, lt, length_nodes g)

pub yes_within : (g : Ground) → yes_place g < length (nodes_of g)
yes_within g = omega (arith, length_nodes g)

-- what the nodes say
entry_key : (ts : List Term) (e : GroundTerm) → key ts (term_node e).head (term_node e).args ≡ OfTerm (term_of_entry ts e)
entry_key ts (Const number) = refl
entry_key ts (App sym args) = refl

pub term_key : (d : Disjunct) (cs : List Clause) (g : Ground) → IsGround d cs g → (i : ℕ) → i < length g.terms → key_at g i ≡ OfTerm (term_at (ground_terms g) i)
term_key d cs g gr i lt =
    let p = get_some g.terms i lt in
    ap (key_or_truth (ground_terms g)) (term_node_at g i p.0 p.1) ∙ entry_key (ground_terms g) p.0 ∙ ap OfTerm (sym (term_entry d cs g gr i p.0 p.1))

atom_says : (ts : List Term) (positive : Bool) (a : GroundAtom) → key ts (atom_head positive a.sym) a.args ≡ OfLiteral (Atom positive a.sym (map (term_at ts) a.args))
atom_says ts true a = refl
atom_says ts false a = refl

pub atom_key : (g : Ground) (positive : Bool) (k : ℕ) (a : GroundAtom) → slice_get g.atoms k ≡ Some a → key_at g (atom_place g positive k) ≡ OfLiteral (Atom positive a.sym (map (term_at (ground_terms g)) a.args))
atom_key g positive k a at = ap (key_or_truth (ground_terms g)) (atom_node_at g positive k a at) ∙ atom_says (ground_terms g) positive a

pub disequal_key : (g : Ground) (k : ℕ) (e : GroundEquation) → slice_get g.equations k ≡ Some e → key_at g (disequal_place g k) ≡ OfLiteral (Eq false (term_at (ground_terms g) e.left) (term_at (ground_terms g) e.right))
disequal_key g k e at = ap (key_or_truth (ground_terms g)) (disequal_node_at g k e at)

pub yes_key : (g : Ground) → key_at g (yes_place g) ≡ OfTruth
yes_key g = ap (key_or_truth (ground_terms g)) (yes_node_at g)

-- the arguments of a node are ground terms, and what it says is of the ground part
pub record NodeStands (d : Disjunct) (cs : List Clause) (g : Ground) (a : Node) : Type 0 where
  pub within : (k : ℕ) → Contains a.args k → k < length g.terms
  pub of_term : (t : Term) → key (ground_terms g) a.head a.args ≡ OfTerm t → IsGroundTerm d cs t
  pub of_atom : (positive : Bool) (s : Sym) (ts : List Term) → key (ground_terms g) a.head a.args ≡ OfLiteral (Atom positive s ts) → IsGroundAtom d cs s ts

term_same : {t u : Term} → OfTerm t ≡ OfTerm u → t ≡ u
term_same e = cc

term_literal : {t : Term} {l : Literal} → OfTerm t ≡ OfLiteral l → ⊥
term_literal e = cc

literal_term : {t : Term} {l : Literal} → OfLiteral l ≡ OfTerm t → ⊥
literal_term e = cc

truth_term : {t : Term} → OfTruth ≡ OfTerm t → ⊥
truth_term e = cc

truth_literal : {l : Literal} → OfTruth ≡ OfLiteral l → ⊥
truth_literal e = cc

atom_same : {p q : Bool} {r s : Sym} {ts us : List Term} → OfLiteral (Atom p r ts) ≡ OfLiteral (Atom q s us) → (r ≡ s) × (ts ≡ us)
atom_same e = (cc, cc)

disequal_atom : {p q : Bool} {s : Sym} {ts : List Term} {t u : Term} → OfLiteral (Eq p t u) ≡ OfLiteral (Atom q s ts) → ⊥
disequal_atom e = cc

term_node_stands : (d : Disjunct) (cs : List Clause) (g : Ground) → IsGround d cs g → (i : ℕ) (e : GroundTerm) → slice_get g.terms i ≡ Some e → NodeStands d cs g (term_node e)
term_node_stands d cs g gr i (Const number) at =
    let lt : i < length g.terms = slice_get_within g.terms i (Const number) at in
    let h : IsGroundTerm d cs (term.Const number) = subst (λ (t : Term). IsGroundTerm d cs t) (term_entry d cs g gr i (Const number) at) (term_ground d cs g gr i lt) in
    record {
      within = λ k c. absurd (not_contains_nil k c);
      of_term = λ t q. subst (λ (u : Term). IsGroundTerm d cs u) (term_same q) h;
      of_atom = λ p s us q. absurd (term_literal q);
    }
term_node_stands d cs g gr i (App sym args) at =
    let lt : i < length g.terms = slice_get_within g.terms i (App sym args) at in
    let h : IsGroundTerm d cs (term.App sym (terms_of (map (term_at (ground_terms g)) args))) = subst (λ (t : Term). IsGroundTerm d cs t) (term_entry d cs g gr i (App sym args) at) (term_ground d cs g gr i lt) in
    record {
      within = λ k c. omega (arith, gr.earlier i k sym args at c, lt);
      of_term = λ t q. subst (λ (u : Term). IsGroundTerm d cs u) (term_same q) h;
      of_atom = λ p s us q. absurd (term_literal q);
    }

atom_node_stands : (d : Disjunct) (cs : List Clause) (g : Ground) → IsGround d cs g → (positive : Bool) (k : ℕ) (a : GroundAtom) → slice_get g.atoms k ≡ Some a → NodeStands d cs g (atom_node positive a)
atom_node_stands d cs g gr positive k a at =
    let says : key (ground_terms g) (atom_head positive a.sym) a.args ≡ OfLiteral (Atom positive a.sym (map (term_at (ground_terms g)) a.args)) = atom_says (ground_terms g) positive a in
    let h : IsGroundAtom d cs a.sym (map (term_at (ground_terms g)) a.args) = atom_ground d cs g gr k a at in
    record {
      within = λ j c. gr.atoms_within a j (get_contains g.atoms k a at) c;
      of_term = λ t q. absurd (literal_term (sym says ∙ q));
      of_atom = λ p s us q. let e = atom_same (sym says ∙ q) in subst (λ (vs : List Term). IsGroundAtom d cs s vs) e.1 (subst (λ (r : Sym). IsGroundAtom d cs r (map (term_at (ground_terms g)) a.args)) e.0 h);
    }

disequal_node_stands : (d : Disjunct) (cs : List Clause) (g : Ground) (e : GroundEquation) → NodeStands d cs g (disequal_node e)
disequal_node_stands d cs g e =
    record {
      within = λ k c. absurd (not_contains_nil k c);
      of_term = λ t q. absurd (literal_term q);
      of_atom = λ p s us q. absurd (disequal_atom q);
    }

yes_node_stands : (d : Disjunct) (cs : List Clause) (g : Ground) → NodeStands d cs g yes_node
yes_node_stands d cs g =
    record {
      within = λ k c. absurd (not_contains_nil k c);
      of_term = λ t q. absurd (truth_term q);
      of_atom = λ p s us q. absurd (truth_literal q);
    }

pub nodes_stand : (d : Disjunct) (cs : List Clause) (g : Ground) → IsGround d cs g → AllOf (NodeStands d cs g) (nodes_of g)
nodes_stand d cs g gr =
    let P : Node → Type 0 = NodeStands d cs g in
    let a : AllOf P (map term_node g.terms) = all_map P term_node g.terms (λ i e at. term_node_stands d cs g gr i e at) in
    let b : AllOf P (map (atom_node true) g.atoms) = all_map P (atom_node true) g.atoms (λ k e at. atom_node_stands d cs g gr true k e at) in
    let c : AllOf P (map (atom_node false) g.atoms) = all_map P (atom_node false) g.atoms (λ k e at. atom_node_stands d cs g gr false k e at) in
    let e : AllOf P (map disequal_node g.equations) = all_map P disequal_node g.equations (λ k e at. disequal_node_stands d cs g e) in
    all_append P (nodes_to_disequal g) (yes_node ∷ []) (all_append P (nodes_to_negative g) (map disequal_node g.equations) (all_append P (nodes_to_positive g) (map (atom_node false) g.atoms) (all_append P (map term_node g.terms) (map (atom_node true) g.atoms) a b) c) e)
    (all_one P yes_node (yes_node_stands d cs g))

-- numbers that are all below n
pub list_all_below : (n : ℕ) (ks : List ℕ) → ((k : ℕ) → Contains ks k → k < n) → list_all (below n) ks ≡ true
list_all_below n [] h = refl
list_all_below n (k ∷ ks) h =
    let a : nat_lt k n ≡ true = lt-ltb k n (h k (contains_head k ks)) in
    let b : list_all (below n) ks ≡ true = list_all_below n ks (λ j c. h j (contains_tail k j ks c)) in
    rw (a, b) refl
