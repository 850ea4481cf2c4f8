-- What the calls on facts tell.
use Rattle.std.proofs.Common.{◌≡◌, ◌<◌, ◌≤◌, ℕ, List, [], length, map, refl, ap, sym, ◌∙◌, subst, arith, true, false, Bool, inl, inr, ◌⊎◌}
use Rattle.std.specs.Prelude.{slice_index, slice_get, Some, nat_eq, ◌↔◌, Option, None}
use Rattle.std.proofs.lemmas.Bool.{eqb-true, eq-eqb}
use Rattle.std.proofs.lemmas.Option.{slice_get_within}
use Rattle.mz_logic.specs.declared.sym.Sym.{Sym}
use Rattle.mz_logic.specs.Term as term
use Rattle.mz_logic.specs.Term.{Term, terms_of}
use Rattle.mz_logic.specs.declared.literal.Literal.{Literal}
use Rattle.mz_logic.specs.declared.literal.Literal.TheVariants.{Atom, Eq}
use Rattle.mz_logic.specs.declared.disjunct.Disjunct.{Disjunct}
use Rattle.mz_logic.proofs.ValueLaws.{substitute-no_values}
use Rattle.mz_ground.specs.Layers.{IsGroundLiteral}
use Rattle.mz_logic.specs.Substitution.{substitute, value_at}
use Rattle.mz_ground.specs.Instance.{conclusion_at}
use Rattle.mz_ground.specs.Ground.{term_at, ground_terms, IsGround}
use Rattle.mz_ground.specs.Facts as facts
use Rattle.mz_ground.specs.Facts.{Fact, IsContradictory}
use Rattle.mz_ground.specs.declared.clause.Clause.{Clause}
use Rattle.mz_ground.specs.declared.ground_part.Ground.{Ground}
use Rattle.mz_ground.specs.declared.ground_atom.GroundAtom.{GroundAtom}
use Rattle.mz_ground.specs.declared.ground_equation.GroundEquation.{GroundEquation}
use Rattle.mz_congruence.specs.declared.fact_table.FactTable.{FactTable}
use Rattle.mz_congruence.specs.declared.graph.Graph.{Graph}
use Rattle.mz_congruence.specs.Congruence.{Equal}
use Rattle.mz_congruence.specs.Classes.{Descends, Flat}
use Rattle.mz_congruence.specs.Closing.{Exact}
use Rattle.mz_congruence.specs.Nodes.{nodes_of, atom_place, disequal_place, yes_place}
use Rattle.mz_congruence.specs.Codes.{IsTermPlace, IsAtomPlace, IsEquationPlace, IsGraph}
use Rattle.mz_ground.specs.FactSet.{HasFacts, DecidesFact, DecidesContradiction}
use Rattle.mz_congruence.specs.FactTable.{flag_at, signed_at, table_view}
use Rattle.std.specs.Prelude.{Result, Ok, Err, IfOk}
use Rattle.mz_congruence.specs.GroundGraph.{HasFactsOf}
use Rattle.mz_congruence.specs.declared.ground_graph.GroundGraph.{GroundGraph}
use Rattle.mz_congruence.specs.OfClasses.{IsOfClasses, AtomClash, EquationClash, DecidesDisequal}
use Rattle.mz_congruence.proofs.RootLemmas.{cases_lt, slice_index-past_end}
use Rattle.mz_congruence.proofs.ListLemmas.{get_some}
use Rattle.mz_congruence.proofs.GroundLemmas.{term_place, atom_found, equation_found, equation_unique, equation_within}
use Rattle.mz_congruence.proofs.NodeLemmas.{term_within, atom_within, disequal_within, yes_within}
use Rattle.mz_congruence.proofs.LookupLemmas.{nil_within, all-no_values}
use Rattle.mz_congruence.specs.Lookup.{IsTermFound, IsAtomFound, IsEquationFound, FindsTerm, FindsAtom, FindsEquation}
use Rattle.mz_congruence.proofs.UpLemmas.{exact_terms, exact_atom, exact_disequal}

-- what is a fact is of the ground part
abbrev Placed : Ground → Literal → Type 0
Placed g (Atom positive s ts) = (k : ℕ) × IsAtomPlace g k s ts
Placed g (Eq true t u) = ((i : ℕ) × IsTermPlace g i t) × ((j : ℕ) × IsTermPlace g j u)
Placed g (Eq false t u) = (k : ℕ) × (e : GroundEquation) × (IsEquationPlace g k e t u ⊎ IsEquationPlace g k e u t)

literal_placed : (d : Disjunct) (cs : List Clause) (g : Ground) → IsGround d cs g → (l : Literal) → IsGroundLiteral d cs l → Placed g l
literal_placed d cs g gr (Atom positive s ts) h = atom_found d cs g gr s ts h
literal_placed d cs g gr (Eq true t u) h =
    let p = equation_found d cs g gr t u h in
    let w = equation_within d cs g gr p.0 p.1 p.2.0 in
    ((p.1.left, (w.0, p.2.1)), (p.1.right, (w.1, p.2.2)))
literal_placed d cs g gr (Eq false t u) h = let p = equation_found d cs g gr t u h in (p.0, p.1, inl p.2)

pub fact_placed : (d : Disjunct) (cs : List Clause) (g : Ground) → IsGround d cs g → (l : Literal) → Fact d cs l → Placed g l
fact_placed d cs g gr l (facts.given m mem h) = literal_placed d cs g gr m h
fact_placed d cs g gr l (facts.reflexive t h) = let p = term_place d cs g gr t h in (p, p)
fact_placed d cs g gr l (facts.symmetric t u f) = let p = fact_placed d cs g gr (Eq true t u) f in (p.1, p.0)
fact_placed d cs g gr l (facts.transitive t u v f e) =
    let p = fact_placed d cs g gr (Eq true t u) f in
    let q = fact_placed d cs g gr (Eq true u v) e in
    (p.0, q.1)
fact_placed d cs g gr l (facts.congruent s ts us gt gu es) = (term_place d cs g gr (term.App s (terms_of ts)) gt, term_place d cs g gr (term.App s (terms_of us)) gu)
fact_placed d cs g gr l (facts.atom_congruence positive s ts us f gu es) = atom_found d cs g gr s us gu
fact_placed d cs g gr l (facts.reversed t u f) =
    let p = fact_placed d cs g gr (Eq false t u) f in
    (p.0, p.1, elim p.2 [ inl x ↦ inr x | inr x ↦ inl x ])
fact_placed d cs g gr l (facts.fired c ts mem len trigger gps gp fs) = literal_placed d cs g gr (conclusion_at c ts) gp

-- the facts that are taken of exact classes
nat_eq_iff : (x y : ℕ) (P : Type 0) (b : Bool) → b ≡ nat_eq x y → (x ≡ y) ↔ P → (b ≡ true) ↔ P
nat_eq_iff x y P b e h = (λ q. h.0 (eqb-true x y (sym e ∙ q)), λ p. e ∙ eq-eqb x y (h.1 p))

iff_through : {P Q R : Type 0} → P ↔ Q → Q ↔ R → P ↔ R
iff_through p q = (λ x. q.0 (p.0 x), λ z. p.1 (q.1 z))

-- the ground part that is kept is the one that was given
record Told (d : Disjunct) (cs : List Clause) (g : Ground) (f : FactTable) : Type 0 where
  ground : IsGround d cs g
  equal : (i j : ℕ) → i < length g.terms → j < length g.terms → (slice_index f.classes.items i ≡ slice_index f.classes.items j) ↔ Fact d cs (Eq true (term_at (ground_terms g) i) (term_at (ground_terms g) j))
  signed : (positive : Bool) (k : ℕ) (a : GroundAtom) → slice_get g.atoms k ≡ Some a → (signed_at f positive k ≡ true) ↔ Fact d cs (Atom positive a.sym (map (term_at (ground_terms g)) a.args))
  disequal : (k : ℕ) (e : GroundEquation) → slice_get g.equations k ≡ Some e → (flag_at f.disequal.items k ≡ true) ↔ Fact d cs (Eq false (term_at (ground_terms g) e.left) (term_at (ground_terms g) e.right))

told_has : (d : Disjunct) (cs : List Clause) (g : Ground) (f : FactTable) → g ≡ f.ground → Told d cs g f → HasFacts d cs (table_view f)
told_has d cs g f gf told =
    let here : Told d cs f.ground f = subst (λ (x : Ground). Told d cs x f) gf told in
    record { ground = here.ground; equal = here.equal; signed = here.signed; disequal = here.disequal }

pub told_table : (d : Disjunct) (cs : List Clause) (g : Ground) → IsGround d cs g → (graph : Graph) → IsGraph d cs g graph → (c : List ℕ) → Exact graph c → (f : FactTable) → IsOfClasses g c f → HasFacts d cs (table_view f)
unfolding Descends Flat
told_table d cs g gr graph h c ex f tk =
    let n : length graph.nodes ≡ length (nodes_of g) = ap length h.nodes in
    let equals : (i j : ℕ) → i < length g.terms → j < length g.terms → (slice_index f.classes.items i ≡ slice_index f.classes.items j) ↔ Fact d cs (Eq true (term_at (ground_terms g) i) (term_at (ground_terms g) j))
    = λ i j li lj.
    let a : slice_index f.classes.items i ≡ slice_index c i = tk.classes i li in
    let b : slice_index f.classes.items j ≡ slice_index c j = tk.classes j lj in
    let e : (slice_index c i ≡ slice_index c j) ↔ Equal graph i j = ex.same i j (omega (arith, n, term_within g i li)) (omega (arith, n, term_within g j lj)) in
    let s : (slice_index f.classes.items i ≡ slice_index f.classes.items j) ↔ (slice_index c i ≡ slice_index c j) = (λ q. sym a ∙ q ∙ b, λ q. a ∙ q ∙ sym b) in
    iff_through s (iff_through e (exact_terms d cs g gr graph h i j li lj)) in
    let yes : yes_place g < length graph.nodes = omega (arith, n, yes_within g) in
    let atom : (positive : Bool) (k : ℕ) (a : GroundAtom) → slice_get g.atoms k ≡ Some a → (slice_index c (atom_place g positive k) ≡ slice_index c (yes_place g)) ↔ Fact d cs (Atom positive a.sym (map (term_at (ground_terms g)) a.args))
    = λ positive k a at.
    let lt : k < length g.atoms = slice_get_within g.atoms k a at in
    iff_through (ex.same (atom_place g positive k) (yes_place g) (omega (arith, n, atom_within g positive k lt)) yes) (exact_atom d cs g gr graph h positive k a at) in
    let away : (k : ℕ) (e : GroundEquation) → slice_get g.equations k ≡ Some e → (slice_index c (disequal_place g k) ≡ slice_index c (yes_place g)) ↔ Fact d cs (Eq false (term_at (ground_terms g) e.left) (term_at (ground_terms g) e.right))
    = λ k e at.
    let lt : k < length g.equations = slice_get_within g.equations k e at in
    iff_through (ex.same (disequal_place g k) (yes_place g) (omega (arith, n, disequal_within g k lt)) yes) (exact_disequal d cs g gr graph h k e at) in
    let signs : (positive : Bool) (k : ℕ) (a : GroundAtom) → slice_get g.atoms k ≡ Some a → (signed_at f positive k ≡ true) ↔ Fact d cs (Atom positive a.sym (map (term_at (ground_terms g)) a.args))
    = elim [
      | true ↦ λ k a at. nat_eq_iff (slice_index c (atom_place g true k)) (slice_index c (yes_place g)) (Fact d cs (Atom true a.sym (map (term_at (ground_terms g)) a.args))) (flag_at f.positive.items k) (tk.positive k (slice_get_within g.atoms k a at)) (atom true k a at)
      | false ↦ λ k a at. nat_eq_iff (slice_index c (atom_place g false k)) (slice_index c (yes_place g)) (Fact d cs (Atom false a.sym (map (term_at (ground_terms g)) a.args))) (flag_at f.negative.items k) (tk.negative k (slice_get_within g.atoms k a at)) (atom false k a at)
    ] in
    told_has d cs g f (sym tk.ground) (record {
      ground = gr;
      equal = equals;
      signed = signs;
      disequal = λ k e at. nat_eq_iff (slice_index c (disequal_place g k)) (slice_index c (yes_place g)) (Fact d cs (Eq false (term_at (ground_terms g) e.left) (term_at (ground_terms g) e.right))) (flag_at f.disequal.items k) (tk.disequal k (slice_get_within g.equations k e at)) (away k e at);
    })

-- a flag is set or not
flag_cases : (b : Bool) → (b ≡ true) ⊎ (b ≡ false)
flag_cases true = inl refl
flag_cases false = inr refl

no_both : {b : Bool} → b ≡ true → b ≡ false → ⊥
no_both p q = cc

false_not_true : false ≡ true → ⊥
false_not_true e = cc

-- equal terms
term_nil : (d : Disjunct) (cs : List Clause) (g : Ground) → IsGround d cs g → (t : Term) (r : Option ℕ) → FindsTerm g [] t r → IsTermFound g t r
unfolding FindsTerm
term_nil d cs g gr t r h = subst (λ (u : Term). IsTermFound g u r) (substitute-no_values 0 t) (h d cs gr (nil_within g))

pub told_same : (f : FactTable) (t u : Term) (i j : ℕ) (b : Bool) → FindsTerm f.ground [] t (Some i) → FindsTerm f.ground [] u (Some j) → b ≡ nat_eq (slice_index f.classes.items i) (slice_index f.classes.items j) → DecidesFact (table_view f) (Eq true t u) b
unfolding DecidesFact
told_same f t u i j b p q e d cs h =
    let x = term_nil d cs f.ground h.ground t (Some i) p in
    let y = term_nil d cs f.ground h.ground u (Some j) q in
    let z : (slice_index f.classes.items i ≡ slice_index f.classes.items j) ↔ Fact d cs (Eq true t u)
    = subst (λ (w : Term). (slice_index f.classes.items i ≡ slice_index f.classes.items j) ↔ Fact d cs (Eq true w u)) x.1
    (subst (λ (w : Term). (slice_index f.classes.items i ≡ slice_index f.classes.items j) ↔ Fact d cs (Eq true (term_at (ground_terms f.ground) i) w)) y.1 (h.equal i j x.0 y.0)) in
    nat_eq_iff (slice_index f.classes.items i) (slice_index f.classes.items j) (Fact d cs (Eq true t u)) b e z

pub told_no_left : (f : FactTable) (t u : Term) → FindsTerm f.ground [] t None → DecidesFact (table_view f) (Eq true t u) false
unfolding DecidesFact
told_no_left f t u n d cs h = (
  λ q. absurd (false_not_true q),
  λ x. let p = fact_placed d cs f.ground h.ground (Eq true t u) x in absurd (term_nil d cs f.ground h.ground t None n p.0.0 p.0.1),
)

pub told_no_right : (f : FactTable) (t u : Term) → FindsTerm f.ground [] u None → DecidesFact (table_view f) (Eq true t u) false
unfolding DecidesFact
told_no_right f t u n d cs h = (
  λ q. absurd (false_not_true q),
  λ x. let p = fact_placed d cs f.ground h.ground (Eq true t u) x in absurd (term_nil d cs f.ground h.ground u None n p.1.0 p.1.1),
)

-- atoms
atom_nil : (d : Disjunct) (cs : List Clause) (g : Ground) → IsGround d cs g → (s : Sym) (us : List Term) (r : Option ℕ) → FindsAtom g [] s us r → IsAtomFound g s us r
unfolding FindsAtom
atom_nil d cs g gr s us r h = subst (λ (ts : List Term). IsAtomFound g s ts r) (all-no_values us) (h d cs gr (nil_within g))

pub told_signed : (f : FactTable) (positive : Bool) (s : Sym) (us : List Term) (k : ℕ) (b : Bool) → FindsAtom f.ground [] s us (Some k) → b ≡ signed_at f positive k → DecidesFact (table_view f) (Atom positive s us) b
unfolding DecidesFact
told_signed f positive s us k b q e d cs h =
    let p = atom_nil d cs f.ground h.ground s us (Some k) q in
    let x : (signed_at f positive k ≡ true) ↔ Fact d cs (Atom positive s us) = subst (λ (l : Literal). (signed_at f positive k ≡ true) ↔ Fact d cs l) (λ i. Atom positive (p.2 i) (p.3 i)) (h.signed positive k p.0 p.1) in
    (λ z. x.0 (sym e ∙ z), λ y. e ∙ x.1 y)

pub told_no_atom : (f : FactTable) (positive : Bool) (s : Sym) (us : List Term) → FindsAtom f.ground [] s us None → DecidesFact (table_view f) (Atom positive s us) false
unfolding DecidesFact
told_no_atom f positive s us n d cs h = (
  λ q. absurd (false_not_true q),
  λ x. let p = fact_placed d cs f.ground h.ground (Atom positive s us) x in absurd (atom_nil d cs f.ground h.ground s us None n p.0 p.1),
)

-- equations that fail
equation_nil : (d : Disjunct) (cs : List Clause) (g : Ground) → IsGround d cs g → (t u : Term) (r : Option ℕ) → FindsEquation g [] t u r → IsEquationFound g t u r
unfolding FindsEquation
equation_nil d cs g gr t u r h = subst (λ (v : Term). IsEquationFound g v u r) (substitute-no_values 0 t) (subst (λ (v : Term). IsEquationFound g (substitute 0 (value_at []) t) v r) (substitute-no_values 0 u) (h d cs gr (nil_within g)))

pub told_disequal : (f : FactTable) (t u : Term) (k : ℕ) (b : Bool) → FindsEquation f.ground [] t u (Some k) → b ≡ flag_at f.disequal.items k → DecidesDisequal f t u b
unfolding DecidesDisequal
told_disequal f t u k true h q d cs gr = let p = equation_nil d cs f.ground gr t u (Some k) h in (k, p.0, p.1, sym q)
told_disequal f t u k false h q d cs gr = λ m x p set.
    let e = equation_nil d cs f.ground gr t u (Some k) h in
    let one : m ≡ k = equation_unique d cs f.ground gr m k x e.0 t u p e.1 in
    no_both (ap (flag_at f.disequal.items) (sym one) ∙ set) (sym q)

pub told_no_equation : (f : FactTable) (t u : Term) → FindsEquation f.ground [] t u None → DecidesDisequal f t u false
unfolding DecidesDisequal
told_no_equation f t u n d cs gr = λ m x p set. equation_nil d cs f.ground gr t u None n m x p

disequal_fact : (d : Disjunct) (cs : List Clause) (f : FactTable) → HasFacts d cs (table_view f) → (t u : Term) (k : ℕ) (e : GroundEquation) → IsEquationPlace f.ground k e t u → (flag_at f.disequal.items k ≡ true) ↔ Fact d cs (Eq false t u)
disequal_fact d cs f h t u k e p = subst (λ (l : Literal). (flag_at f.disequal.items k ≡ true) ↔ Fact d cs l) (λ i. Eq false (p.1 i) (p.2 i)) (h.disequal k e p.0)

pub told_first_disequal : (f : FactTable) (t u : Term) (b : Bool) → b ≡ true → DecidesDisequal f t u b → DecidesFact (table_view f) (Eq false t u) true
unfolding DecidesFact DecidesDisequal
told_first_disequal f t u true e a d cs h = let x = a d cs h.ground in (λ q. (disequal_fact d cs f h t u x.0 x.1 x.2).0 x.3, λ y. refl)
told_first_disequal f t u false e a d cs h = absurd (false_not_true e)

pub told_second_disequal : (f : FactTable) (t u : Term) (b c : Bool) → b ≡ false → DecidesDisequal f t u b → DecidesDisequal f u t c → DecidesFact (table_view f) (Eq false t u) c
unfolding DecidesFact DecidesDisequal
told_second_disequal f t u true c e a y d cs h = absurd (no_both refl e)
told_second_disequal f t u false true e a y d cs h = let x = y d cs h.ground in (λ q. facts.reversed u t ((disequal_fact d cs f h u t x.0 x.1 x.2).0 x.3), λ z. refl)
told_second_disequal f t u false false e a y d cs h = (
  λ q. absurd (false_not_true q),
  λ x.
      let p = fact_placed d cs f.ground h.ground (Eq false t u) x in
      elim p.2 [
        | inl q ↦ absurd (a d cs h.ground p.0 p.1 q ((disequal_fact d cs f h t u p.0 p.1 q).1 x))
        | inr q ↦ absurd (y d cs h.ground p.0 p.1 q ((disequal_fact d cs f h u t p.0 p.1 q).1 (facts.reversed t u x)))
      ],
)

-- contradictory facts
pub told_atom_clash : (f : FactTable) (b : Bool) → b ≡ true → AtomClash f b → DecidesContradiction (table_view f) true
unfolding DecidesContradiction
told_atom_clash f true e a d cs h =
    let p = get_some f.ground.atoms a.0 a.1 in
    let ts : List Term = map (term_at (ground_terms f.ground)) p.0.args in
    (λ q. facts.on_atom p.0.sym ts ((h.signed true a.0 p.0 p.1).0 a.2) ((h.signed false a.0 p.0 p.1).0 a.3), λ x. refl)
told_atom_clash f false e a d cs h = absurd (false_not_true e)

no_equation_clash : (d : Disjunct) (cs : List Clause) (f : FactTable) → HasFacts d cs (table_view f) → EquationClash f false → (k : ℕ) (e : GroundEquation) (t u : Term) → IsEquationPlace f.ground k e t u → Fact d cs (Eq true t u) → Fact d cs (Eq false t u) → ⊥
no_equation_clash d cs f h q k e t u r x y =
    let w = equation_within d cs f.ground h.ground k e r.0 in
    let same : slice_index f.classes.items e.left ≡ slice_index f.classes.items e.right = (h.equal e.left e.right w.0 w.1).1 (subst (λ (l : Literal). Fact d cs l) (λ i. Eq true (sym r.1 i) (sym r.2 i)) x) in
    q k e r.0 ((disequal_fact d cs f h t u k e r).1 y) same

no_clash : (d : Disjunct) (cs : List Clause) (f : FactTable) → HasFacts d cs (table_view f) → AtomClash f false → EquationClash f false → IsContradictory d cs → ⊥
no_clash d cs f h a q (facts.on_atom s ts x y) =
    let p = fact_placed d cs f.ground h.ground (Atom true s ts) x in
    let k : ℕ = p.0 in
    let b : GroundAtom = p.1.0 in
    let one : (positive : Bool) → Atom positive b.sym (map (term_at (ground_terms f.ground)) b.args) ≡ Atom positive s ts = λ positive i. Atom positive (p.1.2 i) (p.1.3 i) in
    a k (slice_get_within f.ground.atoms k b p.1.1) ((h.signed true k b p.1.1).1 (subst (λ (l : Literal). Fact d cs l) (sym (one true)) x)) ((h.signed false k b p.1.1).1 (subst (λ (l : Literal). Fact d cs l) (sym (one false)) y))
no_clash d cs f h a q (facts.on_equation t u x y) =
    let p = fact_placed d cs f.ground h.ground (Eq false t u) y in
    elim p.2 [
      | inl r ↦ no_equation_clash d cs f h q p.0 p.1 t u r x y
      | inr r ↦ no_equation_clash d cs f h q p.0 p.1 u t r (facts.symmetric t u x) (facts.reversed t u y)
    ]

pub told_equation_clash : (f : FactTable) (b c : Bool) → b ≡ false → AtomClash f b → EquationClash f c → DecidesContradiction (table_view f) c
unfolding DecidesContradiction
told_equation_clash f true c e a q d cs h = absurd (no_both refl e)
told_equation_clash f false true e a q d cs h =
    let x : GroundEquation = q.1 in
    let w = equation_within d cs f.ground h.ground q.0 x q.2 in
    let t : Term = term_at (ground_terms f.ground) x.left in
    let u : Term = term_at (ground_terms f.ground) x.right in
    (λ z. facts.on_equation t u ((h.equal x.left x.right w.0 w.1).0 q.4) ((h.disequal q.0 x q.2).0 q.3), λ z. refl)
told_equation_clash f false false e a q d cs h = (λ z. absurd (false_not_true z), λ x. absurd (no_clash d cs f h a q x))

pub ruleset same_rules = (told_same, told_no_left, told_no_right)

pub ruleset holds_rules = (told_signed, told_no_atom, told_first_disequal, told_second_disequal)

pub ruleset disequal_rules = (told_disequal, told_no_equation)

pub ruleset clash_rules = (told_atom_clash, told_equation_clash)

-- the facts of classes
pub told_kept : {E : Type 0} (g : Ground) (c : List ℕ) (r : Result FactTable E) → IfOk r (λ f. IsOfClasses g c f) → IfOk r (λ f. f.ground ≡ g)
told_kept g c (Ok f) h = h.ground
told_kept g c (Err e) h = h

pub told_facts : {E : Type 0} (g : Ground) (graph : GroundGraph) (c : List ℕ) (r : Result FactTable E) → Exact graph.graph c → IfOk r (λ f. IsOfClasses g c f) → IfOk r (λ f. HasFactsOf g graph f)
unfolding HasFactsOf
told_facts g graph c (Ok f) ex h = λ d cs gr gg. told_table d cs g gr graph.graph gg.graph c ex f h
told_facts g graph c (Err e) ex h = h

table_bounded : (g : Ground) (graph : Graph) (c : List ℕ) (f : FactTable) → Exact graph c → IsOfClasses g c f → (k : ℕ) → slice_index f.classes.items k ≤ k
unfolding Descends
table_bounded g graph c f ex tk k =
    elim (cases_lt k (length g.terms)) [ inl lt ↦ omega (arith, tk.classes k lt, ex.descends k) | inr ge ↦ omega (arith, slice_index-past_end f.classes.items k (omega (arith, ge, tk.classes_len))) ]

pub told_bounded : {E : Type 0} (g : Ground) (graph : GroundGraph) (c : List ℕ) (r : Result FactTable E) → Exact graph.graph c → IfOk r (λ f. IsOfClasses g c f) → IfOk r (λ f. (k : ℕ) → slice_index f.classes.items k ≤ k)
told_bounded g graph c (Ok f) ex h = table_bounded g graph.graph c f ex h
told_bounded g graph c (Err e) ex h = h

pub ruleset facts_rules = (told_kept, told_facts, told_bounded)
