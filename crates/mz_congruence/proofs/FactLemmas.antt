-- The nodes that are equal by the rules of a graph are exactly those that stand for facts.
use Rattle.std.proofs.Common.{◌≡◌, ◌<◌, ℕ, zero, suc, List, [], ◌∷◌, length, map, refl, ap, sym, ◌∙◌, subst, true, false, Bool, inl, inr, ◌⊎◌}
use Rattle.std.specs.Prelude.{slice_get, Some, None, Option, Contains, All}
use Rattle.std.proofs.lemmas.Option.{get_or_from_slice_get}
use Rattle.mz_logic.specs.declared.sym.Sym.{Sym}
use Rattle.mz_logic.specs.Term as term
use Rattle.mz_logic.specs.Term.{Term, terms_of}
use Rattle.mz_logic.specs.declared.literal.Literal.{Literal}
use Rattle.mz_logic.specs.declared.literal.Literal.TheVariants.{Atom, Eq}
use Rattle.mz_logic.specs.declared.disjunct.Disjunct.{Disjunct}
use Rattle.mz_ground.specs.Layers.{IsGroundTerm, IsGroundAtom, IsGroundLiteral}
use Rattle.mz_ground.specs.Instance.{premises_at, conclusion_at}
use Rattle.mz_ground.specs.Ground.{term_at, ground_terms, IsGround}
use Rattle.mz_ground.specs.Facts as facts
use Rattle.mz_ground.specs.Facts.{Fact, AreEqual, AreFacts}
use Rattle.mz_ground.specs.declared.clause.Clause.{Clause}
use Rattle.mz_ground.specs.declared.ground_part.Ground.{Ground}
use Rattle.mz_ground.specs.declared.ground_equation.GroundEquation.{GroundEquation}
use Rattle.mz_congruence.specs.declared.graph.Head.{Head}
use Rattle.mz_congruence.specs.declared.graph.Head.TheVariants.{Constant, Function, Positive, Negative, Disequal, Yes}
use Rattle.mz_congruence.specs.declared.graph.Node.{Node}
use Rattle.mz_congruence.specs.declared.graph.Pair.{Pair}
use Rattle.mz_congruence.specs.declared.graph.Rule.{Rule}
use Rattle.mz_congruence.specs.declared.graph.Graph.{Graph}
use Rattle.mz_congruence.specs.Congruence as nodes
use Rattle.mz_congruence.specs.Congruence.{Equal, AllEqual, left_of, right_of}
use Rattle.mz_congruence.specs.Nodes.{nodes_of, atom_place, disequal_place, Key, OfTerm, OfLiteral, OfTruth, key, key_or_truth, key_at}
use Rattle.mz_congruence.specs.Codes.{IsAtomPlace, IsEquationPlace, Codes, CodesAll, IsRule, of_literal, of_exchange, of_instance, IsGraph}
use Rattle.mz_congruence.proofs.ListLemmas.{some_same, get_some, contains_head, contains_tail}
use Rattle.mz_congruence.proofs.GroundLemmas.{atom_ground, equation_ground, equation_within}
use Rattle.mz_congruence.proofs.NodeLemmas.{term_key, atom_key, disequal_key, yes_key, NodeStands, nodes_stand}

abbrev pub Holds : Disjunct → List Clause → Key → Type 0
Holds d cs (OfTerm t) = ⊥
Holds d cs (OfLiteral l) = Fact d cs l
Holds d cs OfTruth = Unit {0}

-- what the equality of two nodes says: that the terms are equal, or that one holds where the other does
abbrev pub Means : Disjunct → List Clause → Key → Key → Type 0
Means d cs (OfTerm t) (OfTerm u) = Fact d cs (Eq true t u)
Means d cs (OfTerm t) (OfLiteral l) = ⊥
Means d cs (OfTerm t) OfTruth = ⊥
Means d cs (OfLiteral l) (OfTerm t) = ⊥
Means d cs (OfLiteral l) (OfLiteral m) = (Fact d cs l → Fact d cs m) × (Fact d cs m → Fact d cs l)
Means d cs (OfLiteral l) OfTruth = (Fact d cs l → Unit {0}) × (Unit {0} → Fact d cs l)
Means d cs OfTruth (OfTerm t) = ⊥
Means d cs OfTruth (OfLiteral l) = (Unit {0} → Fact d cs l) × (Fact d cs l → Unit {0})
Means d cs OfTruth OfTruth = (Unit {0} → Unit {0}) × (Unit {0} → Unit {0})

abbrev pub MeansAll : Disjunct → List Clause → Ground → List ℕ → List ℕ → Type 0
MeansAll d cs g [] [] = Unit {0}
MeansAll d cs g [] (j ∷ js) = ⊥
MeansAll d cs g (i ∷ is) [] = ⊥
MeansAll d cs g (i ∷ is) (j ∷ js) = Means d cs (key_at g i) (key_at g j) × MeansAll d cs g is js

means_itself : (d : Disjunct) (cs : List Clause) (k : Key) → ((t : Term) → k ≡ OfTerm t → IsGroundTerm d cs t) → Means d cs k k
means_itself d cs (OfTerm t) h = facts.reflexive t (h t refl)
means_itself d cs (OfLiteral l) h = (λ x. x, λ x. x)
means_itself d cs OfTruth h = (λ x. x, λ x. x)

means_exchanged : (d : Disjunct) (cs : List Clause) (k l : Key) → Means d cs k l → Means d cs l k
means_exchanged d cs (OfTerm t) (OfTerm u) h = facts.symmetric t u h
means_exchanged d cs (OfTerm t) (OfLiteral m) h = h
means_exchanged d cs (OfTerm t) OfTruth h = h
means_exchanged d cs (OfLiteral l) (OfTerm u) h = h
means_exchanged d cs (OfLiteral l) (OfLiteral m) h = (h.1, h.0)
means_exchanged d cs (OfLiteral l) OfTruth h = (h.1, h.0)
means_exchanged d cs OfTruth (OfTerm u) h = h
means_exchanged d cs OfTruth (OfLiteral m) h = (h.1, h.0)
means_exchanged d cs OfTruth OfTruth h = (h.1, h.0)

abbrev Iff : Disjunct → List Clause → Key → Key → Type 0
Iff d cs k l = (Holds d cs k → Holds d cs l) × (Holds d cs l → Holds d cs k)

abbrev IsStatement : Key → Type 0
IsStatement (OfTerm t) = ⊥
IsStatement (OfLiteral l) = Unit {0}
IsStatement OfTruth = Unit {0}

iff_from : (d : Disjunct) (cs : List Clause) (k l : Key) → IsStatement k → Means d cs k l → IsStatement l × Iff d cs k l
iff_from d cs (OfTerm t) l p h = absurd p
iff_from d cs (OfLiteral l) (OfTerm u) p h = absurd h
iff_from d cs (OfLiteral l) (OfLiteral m) p h = (tt, h)
iff_from d cs (OfLiteral l) OfTruth p h = (tt, h)
iff_from d cs OfTruth (OfTerm u) p h = absurd h
iff_from d cs OfTruth (OfLiteral m) p h = (tt, h)
iff_from d cs OfTruth OfTruth p h = (tt, h)

means_from : (d : Disjunct) (cs : List Clause) (k l : Key) → IsStatement k → IsStatement l → Iff d cs k l → Means d cs k l
means_from d cs (OfTerm t) l p q h = absurd p
means_from d cs (OfLiteral l) (OfTerm u) p q h = absurd q
means_from d cs (OfLiteral l) (OfLiteral m) p q h = h
means_from d cs (OfLiteral l) OfTruth p q h = h
means_from d cs OfTruth (OfTerm u) p q h = absurd q
means_from d cs OfTruth (OfLiteral m) p q h = h
means_from d cs OfTruth OfTruth p q h = h

chained_statement : (d : Disjunct) (cs : List Clause) (k l m : Key) → IsStatement k → Means d cs k l → Means d cs l m → Means d cs k m
chained_statement d cs k l m s h i =
    let a = iff_from d cs k l s h in
    let c = iff_from d cs l m a.0 i in
    means_from d cs k m s c.0 (λ x. c.1.0 (a.1.0 x), λ x. a.1.1 (c.1.1 x))

means_chained : (d : Disjunct) (cs : List Clause) (k l m : Key) → Means d cs k l → Means d cs l m → Means d cs k m
means_chained d cs (OfTerm t) (OfTerm u) (OfTerm v) h i = facts.transitive t u v h i
means_chained d cs (OfTerm t) (OfTerm u) (OfLiteral n) h i = absurd i
means_chained d cs (OfTerm t) (OfTerm u) OfTruth h i = absurd i
means_chained d cs (OfTerm t) (OfLiteral l) m h i = absurd h
means_chained d cs (OfTerm t) OfTruth m h i = absurd h
means_chained d cs (OfLiteral k) l m h i = chained_statement d cs (OfLiteral k) l m tt h i
means_chained d cs OfTruth l m h i = chained_statement d cs OfTruth l m tt h i

equal_terms : (d : Disjunct) (cs : List Clause) (g : Ground) → IsGround d cs g → (is js : List ℕ) → ((k : ℕ) → Contains is k → k < length g.terms) → ((k : ℕ) → Contains js k → k < length g.terms) → MeansAll d cs g is js → AreEqual d cs (map (term_at (ground_terms g)) is) (map (term_at (ground_terms g)) js)
equal_terms d cs g gr [] [] a b m = facts.no_terms
equal_terms d cs g gr [] (j ∷ js) a b m = absurd m
equal_terms d cs g gr (i ∷ is) [] a b m = absurd m
equal_terms d cs g gr (i ∷ is) (j ∷ js) a b m =
    let ki : key_at g i ≡ OfTerm (term_at (ground_terms g) i) = term_key d cs g gr i (a i (contains_head i is)) in
    let kj : key_at g j ≡ OfTerm (term_at (ground_terms g) j) = term_key d cs g gr j (b j (contains_head j js)) in
    let f : Means d cs (OfTerm (term_at (ground_terms g) i)) (OfTerm (term_at (ground_terms g) j)) = subst (λ (k : Key). Means d cs k (OfTerm (term_at (ground_terms g) j))) ki (subst (λ (k : Key). Means d cs (key_at g i) k) kj m.0) in
    facts.and_terms (term_at (ground_terms g) i) (term_at (ground_terms g) j) (map (term_at (ground_terms g)) is) (map (term_at (ground_terms g)) js) f
    (equal_terms d cs g gr is js (λ k c. a k (contains_tail i k is c)) (λ k c. b k (contains_tail j k js c)) m.1)

equal_exchanged : (d : Disjunct) (cs : List Clause) (ts us : List Term) → AreEqual d cs ts us → AreEqual d cs us ts
equal_exchanged d cs ts us facts.no_terms = facts.no_terms
equal_exchanged d cs ts us (facts.and_terms t u vs ws f es) = facts.and_terms u t ws vs (facts.symmetric t u f) (equal_exchanged d cs vs ws es)

alike_means : (d : Disjunct) (cs : List Clause) (g : Ground) → IsGround d cs g → (h : Head) (xs ys : List ℕ) → NodeStands d cs g (record { head = h; args = xs }) → NodeStands d cs g (record { head = h; args = ys }) → MeansAll d cs g xs ys → Means d cs (key (ground_terms g) h xs) (key (ground_terms g) h ys)
alike_means d cs g gr (Constant number) xs ys a b m = facts.reflexive (term.Const number) (a.of_term (term.Const number) refl)
alike_means d cs g gr (Function s) xs ys a b m =
    let ts : List Term = map (term_at (ground_terms g)) xs in
    let us : List Term = map (term_at (ground_terms g)) ys in
    facts.congruent s ts us (a.of_term (term.App s (terms_of ts)) refl) (b.of_term (term.App s (terms_of us)) refl) (equal_terms d cs g gr xs ys a.within b.within m)
alike_means d cs g gr (Positive s) xs ys a b m =
    let ts : List Term = map (term_at (ground_terms g)) xs in
    let us : List Term = map (term_at (ground_terms g)) ys in
    let e : AreEqual d cs ts us = equal_terms d cs g gr xs ys a.within b.within m in
    (λ f. facts.atom_congruence true s ts us f (b.of_atom true s us refl) e, λ f. facts.atom_congruence true s us ts f (a.of_atom true s ts refl) (equal_exchanged d cs ts us e))
alike_means d cs g gr (Negative s) xs ys a b m =
    let ts : List Term = map (term_at (ground_terms g)) xs in
    let us : List Term = map (term_at (ground_terms g)) ys in
    let e : AreEqual d cs ts us = equal_terms d cs g gr xs ys a.within b.within m in
    (λ f. facts.atom_congruence false s ts us f (b.of_atom false s us refl) e, λ f. facts.atom_congruence false s us ts f (a.of_atom false s ts refl) (equal_exchanged d cs ts us e))
alike_means d cs g gr (Disequal e) xs ys a b m = (λ x. x, λ x. x)
alike_means d cs g gr Yes xs ys a b m = (λ x. x, λ x. x)

-- what a literal's two nodes mean
mean_atom : (d : Disjunct) (cs : List Clause) (g : Ground) (positive : Bool) (k : ℕ) (s : Sym) (ts : List Term) → IsAtomPlace g k s ts → key_at g (atom_place g positive k) ≡ OfLiteral (Atom positive s ts)
mean_atom d cs g positive k s ts h = atom_key g positive k h.0 h.1 ∙ (λ i. OfLiteral (Atom positive (h.2 i) (h.3 i)))

mean_disequal : (g : Ground) (k : ℕ) (e : GroundEquation) (t u : Term) → IsEquationPlace g k e t u → key_at g (disequal_place g k) ≡ OfLiteral (Eq false t u)
mean_disequal g k e t u h = disequal_key g k e h.0 ∙ (λ i. OfLiteral (Eq false (h.1 i) (h.2 i)))

literal_to : (d : Disjunct) (cs : List Clause) (k l : Key) (m : Literal) → k ≡ OfLiteral m → l ≡ OfTruth → Fact d cs m → Means d cs k l
literal_to d cs k l m p q f = subst (λ (x : Key). Means d cs x l) (sym p) (subst (λ (y : Key). Means d cs (OfLiteral m) y) (sym q) (λ x. tt, λ x. f))

pub literal_from : (d : Disjunct) (cs : List Clause) (k l : Key) (m : Literal) → k ≡ OfLiteral m → l ≡ OfTruth → Means d cs k l → Fact d cs m
literal_from d cs k l m p q h =
    let x : Means d cs (OfLiteral m) OfTruth = subst (λ (x : Key). Means d cs x OfTruth) p (subst (λ (y : Key). Means d cs k y) q h) in
    x.1 tt

terms_to : (d : Disjunct) (cs : List Clause) (k l : Key) (t u : Term) → k ≡ OfTerm t → l ≡ OfTerm u → Fact d cs (Eq true t u) → Means d cs k l
terms_to d cs k l t u p q f = subst (λ (x : Key). Means d cs x l) (sym p) (subst (λ (y : Key). Means d cs (OfTerm t) y) (sym q) f)

pub terms_from : (d : Disjunct) (cs : List Clause) (k l : Key) (t u : Term) → k ≡ OfTerm t → l ≡ OfTerm u → Means d cs k l → Fact d cs (Eq true t u)
terms_from d cs k l t u p q h = subst (λ (x : Key). Means d cs x (OfTerm u)) p (subst (λ (y : Key). Means d cs k y) q h)

side_keys : (d : Disjunct) (cs : List Clause) (g : Ground) → IsGround d cs g → (k : ℕ) (e : GroundEquation) (t u : Term) → IsEquationPlace g k e t u → (key_at g e.left ≡ OfTerm t) × (key_at g e.right ≡ OfTerm u)
side_keys d cs g gr k e t u h =
    let w = equation_within d cs g gr k e h.0 in
    (term_key d cs g gr e.left w.0 ∙ ap OfTerm h.1, term_key d cs g gr e.right w.1 ∙ ap OfTerm h.2)

pub codes_ground : (d : Disjunct) (cs : List Clause) (g : Ground) → IsGround d cs g → (l : Literal) (i j : ℕ) → Codes g l i j → IsGroundLiteral d cs l
codes_ground d cs g gr (Atom positive s ts) i j h =
    let p = h.1 in
    let a : IsGroundAtom d cs p.0.sym (map (term_at (ground_terms g)) p.0.args) = atom_ground d cs g gr h.0 p.0 p.1 in
    subst (λ (vs : List Term). IsGroundAtom d cs s vs) p.3 (subst (λ (r : Sym). IsGroundAtom d cs r (map (term_at (ground_terms g)) p.0.args)) p.2 a)
codes_ground d cs g gr (Eq true t u) i j h = equation_ground d cs g gr h.0 h.1 t u h.2
codes_ground d cs g gr (Eq false t u) i j h = equation_ground d cs g gr h.0 h.1 t u h.2

fact_means : (d : Disjunct) (cs : List Clause) (g : Ground) → IsGround d cs g → (l : Literal) (i j : ℕ) → Codes g l i j → Fact d cs l → Means d cs (key_at g i) (key_at g j)
fact_means d cs g gr (Atom positive s ts) i j h f =
    literal_to d cs (key_at g i) (key_at g j) (Atom positive s ts) (ap (key_at g) h.2 ∙ mean_atom d cs g positive h.0 s ts h.1) (ap (key_at g) h.3 ∙ yes_key g) f
fact_means d cs g gr (Eq true t u) i j h f =
    let k = side_keys d cs g gr h.0 h.1 t u h.2 in
    terms_to d cs (key_at g i) (key_at g j) t u (ap (key_at g) h.3 ∙ k.0) (ap (key_at g) h.4 ∙ k.1) f
fact_means d cs g gr (Eq false t u) i j h f =
    literal_to d cs (key_at g i) (key_at g j) (Eq false t u) (ap (key_at g) h.3 ∙ mean_disequal g h.0 h.1 t u h.2) (ap (key_at g) h.4 ∙ yes_key g) f

means_fact : (d : Disjunct) (cs : List Clause) (g : Ground) → IsGround d cs g → (l : Literal) (i j : ℕ) → Codes g l i j → Means d cs (key_at g i) (key_at g j) → Fact d cs l
means_fact d cs g gr (Atom positive s ts) i j h m =
    literal_from d cs (key_at g i) (key_at g j) (Atom positive s ts) (ap (key_at g) h.2 ∙ mean_atom d cs g positive h.0 s ts h.1) (ap (key_at g) h.3 ∙ yes_key g) m
means_fact d cs g gr (Eq true t u) i j h m =
    let k = side_keys d cs g gr h.0 h.1 t u h.2 in
    terms_from d cs (key_at g i) (key_at g j) t u (ap (key_at g) h.3 ∙ k.0) (ap (key_at g) h.4 ∙ k.1) m
means_fact d cs g gr (Eq false t u) i j h m =
    literal_from d cs (key_at g i) (key_at g j) (Eq false t u) (ap (key_at g) h.3 ∙ mean_disequal g h.0 h.1 t u h.2) (ap (key_at g) h.4 ∙ yes_key g) m

means_facts : (d : Disjunct) (cs : List Clause) (g : Ground) → IsGround d cs g → (ls : List Literal) (ps : List Pair) → CodesAll g ls ps → MeansAll d cs g (map left_of ps) (map right_of ps) → AreFacts d cs ls
means_facts d cs g gr [] [] c m = facts.no_literals
means_facts d cs g gr [] (p ∷ ps) c m = absurd c
means_facts d cs g gr (l ∷ ls) [] c m = absurd c
means_facts d cs g gr (l ∷ ls) (p ∷ ps) c m = facts.and_literals l ls (means_fact d cs g gr l p.left p.right c.0 m.0) (means_facts d cs g gr ls ps c.1 m.1)

no_get : {l : Literal} → None ≡ Some l → ⊥
no_get e = cc

codes_all_ground : (d : Disjunct) (cs : List Clause) (g : Ground) → IsGround d cs g → (ls : List Literal) (ps : List Pair) → CodesAll g ls ps → (k : ℕ) (l : Literal) → slice_get ls k ≡ Some l → IsGroundLiteral d cs l
codes_all_ground d cs g gr [] ps c k l at = absurd (no_get at)
codes_all_ground d cs g gr (m ∷ ls) [] c k l at = absurd c
codes_all_ground d cs g gr (m ∷ ls) (p ∷ ps) c zero l at = subst (λ (x : Literal). IsGroundLiteral d cs x) (some_same at) (codes_ground d cs g gr m p.left p.right c.0)
codes_all_ground d cs g gr (m ∷ ls) (p ∷ ps) c (suc k) l at = codes_all_ground d cs g gr ls ps c.1 k l at

all_from : (d : Disjunct) (cs : List Clause) (ls : List Literal) → ((k : ℕ) (l : Literal) → slice_get ls k ≡ Some l → IsGroundLiteral d cs l) → All (IsGroundLiteral d cs) ls
all_from d cs ls h = λ k x lt. let p = get_some ls k lt in subst (λ (y : Literal). IsGroundLiteral d cs y) (sym (get_or_from_slice_get ls k p.0 x p.1)) (h k p.0 p.1)

rule_means : (d : Disjunct) (cs : List Clause) (g : Ground) → IsGround d cs g → (r : Rule) → IsRule d cs g r → MeansAll d cs g (map left_of r.premises) (map right_of r.premises) → Means d cs (key_at g r.conclusion.left) (key_at g r.conclusion.right)
rule_means d cs g gr r (of_literal l i j mem c) m = fact_means d cs g gr l i j c (facts.given l mem (codes_ground d cs g gr l i j c))
rule_means d cs g gr r (of_exchange k n e f at bt p q) m =
    let t : Term = term_at (ground_terms g) e.left in
    let u : Term = term_at (ground_terms g) e.right in
    let ke : key_at g (disequal_place g k) ≡ OfLiteral (Eq false t u) = disequal_key g k e at in
    let kf : key_at g (disequal_place g n) ≡ OfLiteral (Eq false u t) = disequal_key g n f bt ∙ (λ i. OfLiteral (Eq false (term_at (ground_terms g) (sym q i)) (term_at (ground_terms g) (sym p i)))) in
    subst (λ (x : Key). Means d cs x (key_at g (disequal_place g n))) (sym ke) (subst (λ (y : Key). Means d cs (OfLiteral (Eq false t u)) y) (sym kf) (λ x. facts.reversed t u x, λ x. facts.reversed u t x))
rule_means d cs g gr r (of_instance c ts ps i j mem len trigger cps cp) m =
    fact_means d cs g gr (conclusion_at c ts) i j cp
    (facts.fired c ts mem len trigger (all_from d cs (premises_at c ts) (codes_all_ground d cs g gr (premises_at c ts) ps cps)) (codes_ground d cs g gr (conclusion_at c ts) i j cp) (means_facts d cs g gr (premises_at c ts) ps cps m))

-- nodes that are equal say the same
stands_at : (d : Disjunct) (cs : List Clause) (g : Ground) → IsGround d cs g → (graph : Graph) → graph.nodes ≡ nodes_of g → (i : ℕ) (a : Node) → slice_get graph.nodes i ≡ Some a → NodeStands d cs g a × (key_at g i ≡ key (ground_terms g) a.head a.args)
stands_at d cs g gr graph e i a at =
    let bt : slice_get (nodes_of g) i ≡ Some a = ap (λ (ns : List Node). slice_get ns i) (sym e) ∙ at in
    (nodes_stand d cs g gr i a bt, ap (key_or_truth (ground_terms g)) bt)

option_cases : (o : Option Node) → (o ≡ None) ⊎ ((a : Node) × (o ≡ Some a))
option_cases None = inl refl
option_cases (Some a) = inr (a, refl)

truth_not_term : {t : Term} → OfTruth ≡ OfTerm t → ⊥
truth_not_term e = cc

key_ground : (d : Disjunct) (cs : List Clause) (g : Ground) → IsGround d cs g → (i : ℕ) (t : Term) → key_at g i ≡ OfTerm t → IsGroundTerm d cs t
key_ground d cs g gr i t e =
    elim (option_cases (slice_get (nodes_of g) i)) [
      | inl n ↦ absurd (truth_not_term (sym (ap (key_or_truth (ground_terms g)) n) ∙ e))
      | inr p ↦ (nodes_stand d cs g gr i p.0 p.1).of_term t (sym (ap (key_or_truth (ground_terms g)) p.1) ∙ e)
    ]

mutual
  pub down : (d : Disjunct) (cs : List Clause) (g : Ground) → IsGround d cs g → (graph : Graph) → IsGraph d cs g graph → (i j : ℕ) → Equal graph i j → Means d cs (key_at g i) (key_at g j)
  down d cs g gr graph h i j (nodes.reflexive k) = means_itself d cs (key_at g k) (λ t e. key_ground d cs g gr k t e)
  down d cs g gr graph h i j (nodes.symmetric k l f) = means_exchanged d cs (key_at g k) (key_at g l) (down d cs g gr graph h k l f)
  down d cs g gr graph h i j (nodes.transitive k l m f e) = means_chained d cs (key_at g k) (key_at g l) (key_at g m) (down d cs g gr graph h k l f) (down d cs g gr graph h l m e)
  down d cs g gr graph h i j (nodes.congruent k l a b at bt e fs) =
      let p = stands_at d cs g gr graph h.nodes k a at in
      let q = stands_at d cs g gr graph h.nodes l b bt in
      let sb : NodeStands d cs g (record { head = a.head; args = b.args }) = subst (λ (x : Head). NodeStands d cs g (record { head = x; args = b.args })) (sym e) q.0 in
      let m : Means d cs (key (ground_terms g) a.head a.args) (key (ground_terms g) a.head b.args) = alike_means d cs g gr a.head a.args b.args p.0 sb (down_all d cs g gr graph h a.args b.args fs) in
      let kb : key_at g l ≡ key (ground_terms g) a.head b.args = q.1 ∙ ap (λ x. key (ground_terms g) x b.args) (sym e) in
      subst (λ (x : Key). Means d cs x (key_at g l)) (sym p.1) (subst (λ (y : Key). Means d cs (key (ground_terms g) a.head a.args) y) (sym kb) m)
  down d cs g gr graph h i j (nodes.applied r c fs) = rule_means d cs g gr r (h.sound r c) (down_all d cs g gr graph h (map left_of r.premises) (map right_of r.premises) fs)

  pub down_all : (d : Disjunct) (cs : List Clause) (g : Ground) → IsGround d cs g → (graph : Graph) → IsGraph d cs g graph → (is js : List ℕ) → AllEqual graph is js → MeansAll d cs g is js
  down_all d cs g gr graph h is js nodes.none = tt
  down_all d cs g gr graph h is js (nodes.more i j ks ls f fs) = (down d cs g gr graph h i j f, down_all d cs g gr graph h ks ls fs)
