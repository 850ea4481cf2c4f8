-- Ground terms, atoms and equations by their places.
use Rattle.std.proofs.Common.{◌≡◌, ◌<◌, ◌+◌, ℕ, zero, suc, List, [], ◌∷◌, ◌++◌, length, length-append, map, take, refl, ap, sym, ◌∙◌, subst, arith}
use Rattle.std.specs.Prelude.{slice_get, Some, Contains, ◌↔◌}
use Rattle.std.proofs.lemmas.List.{take_all, length-map}
use Rattle.mz_logic.specs.declared.sym.Sym.{Sym}
use Rattle.mz_logic.specs.Term as term
use Rattle.mz_logic.specs.Term.{Term, terms_of}
use Rattle.mz_logic.specs.declared.disjunct.Disjunct.{Disjunct}
use Rattle.mz_ground.specs.GroundExpression.{GroundExpression, AtomExpression, EquationExpression}
use Rattle.mz_ground.specs.Layers.{further_layers, IsGroundExpression, IsGroundTerm, IsGroundAtom}
use Rattle.mz_ground.specs.Ground.{term_or_zero, term_at, term_of_entry, terms_after, ground_terms, atom_expression, equation_expression, ground_atoms, ground_equations, end_of, IsGround}
use Rattle.mz_ground.specs.declared.layer_ends.LayerEnd.{LayerEnd}
use Rattle.mz_ground.specs.declared.clause.Clause.{Clause}
use Rattle.mz_ground.specs.declared.ground_part.Ground.{Ground}
use Rattle.mz_ground.specs.declared.ground_term.GroundTerm.{GroundTerm}
use Rattle.mz_ground.specs.declared.ground_term.GroundTerm.TheVariants.{Const, App}
use Rattle.mz_ground.specs.declared.ground_atom.GroundAtom.{GroundAtom}
use Rattle.mz_ground.specs.declared.ground_equation.GroundEquation.{GroundEquation}
use Rattle.mz_congruence.specs.Codes.{IsTermPlace, IsAtomPlace, IsEquationPlace}
use Rattle.mz_congruence.proofs.ListLemmas.{some_same, none_some, get_left, get_right, get_map, get_unmap, get_some, contains_get, get_contains, contains_head, contains_tail, place_unique}

pub term_get : (ts : List Term) (i : ℕ) (t : Term) → slice_get ts i ≡ Some t → term_at ts i ≡ t
term_get ts i t e = ap term_or_zero e

-- the terms before stay
after_get : (before : List Term) (es : List GroundTerm) (i : ℕ) (t : Term) → slice_get before i ≡ Some t → slice_get (terms_after before es) i ≡ Some t
after_get before [] i t e = e
after_get before (x ∷ es) i t e = after_get (before ++ term_of_entry before x ∷ []) es i t (get_left before (term_of_entry before x ∷ []) i t e)

after_at : (before : List Term) (es : List GroundTerm) (i : ℕ) → i < length before → term_at (terms_after before es) i ≡ term_at before i
after_at before es i lt =
    let p = get_some before i lt in
    term_get (terms_after before es) i p.0 (after_get before es i p.0 p.1) ∙ sym (term_get before i p.0 p.1)

args_at : (before whole : List Term) (args : List ℕ) → ((k : ℕ) → Contains args k → k < length before) → ((k : ℕ) → k < length before → term_at whole k ≡ term_at before k) → map (term_at whole) args ≡ map (term_at before) args
args_at before whole [] h same = refl
args_at before whole (a ∷ rest) h same =
    let e : term_at whole a ≡ term_at before a = same a (h a (contains_head a rest)) in
    let f : map (term_at whole) rest ≡ map (term_at before) rest = args_at before whole rest (λ k c. h k (contains_tail a k rest c)) same in
    λ i. e i ∷ f i

abbrev ArgsBelow : ℕ → GroundTerm → Type 0
ArgsBelow n (Const number) = Unit {0}
ArgsBelow n (App sym args) = (k : ℕ) → Contains args k → k < n

entry_same : (before whole : List Term) (e : GroundTerm) (n : ℕ) → n ≡ length before → ArgsBelow n e → ((k : ℕ) → k < length before → term_at whole k ≡ term_at before k) → term_of_entry whole e ≡ term_of_entry before e
entry_same before whole (Const number) n q h same = refl
entry_same before whole (App sym args) n q h same = ap (λ us. term.App sym (terms_of us)) (args_at before whole args (λ k c. omega (arith, h k c, q)) same)

entry_at : (before : List Term) (es : List GroundTerm) (k i : ℕ) (e : GroundTerm) → slice_get es k ≡ Some e → i ≡ length before + k → ArgsBelow i e → term_at (terms_after before es) i ≡ term_of_entry (terms_after before es) e
entry_at before [] k i e at q h = absurd (none_some at)
entry_at before (x ∷ es) zero i e at q h =
    let v : Term = term_of_entry before x in
    let here : slice_get (before ++ v ∷ []) i ≡ Some v = get_right before (v ∷ []) i 0 q in
    let p : term_at (terms_after before (x ∷ es)) i ≡ v = term_get (terms_after before (x ∷ es)) i v (after_get (before ++ v ∷ []) es i v here) in
    let xe : x ≡ e = some_same at in
    let n : i ≡ length before = omega (arith, q) in
    let s : term_of_entry (terms_after before (x ∷ es)) e ≡ term_of_entry before e = entry_same before (terms_after before (x ∷ es)) e i n h (λ k lt. after_at before (x ∷ es) k lt) in
    p ∙ ap (term_of_entry before) xe ∙ sym s
entry_at before (x ∷ es) (suc k) i e at q h =
    let v : Term = term_of_entry before x in
    let n : length (before ++ v ∷ []) ≡ length before + 1 = length-append before (v ∷ []) in
    entry_at (before ++ v ∷ []) es k i e at (omega (arith, q, n)) h

entry_below : (d : Disjunct) (cs : List Clause) (g : Ground) → IsGround d cs g → (i : ℕ) (e : GroundTerm) → slice_get g.terms i ≡ Some e → ArgsBelow i e
entry_below d cs g gr i (Const number) at = tt
entry_below d cs g gr i (App sym args) at = λ k c. gr.earlier i k sym args at c

pub term_entry : (d : Disjunct) (cs : List Clause) (g : Ground) → IsGround d cs g → (i : ℕ) (e : GroundTerm) → slice_get g.terms i ≡ Some e → term_at (ground_terms g) i ≡ term_of_entry (ground_terms g) e
term_entry d cs g gr i e at = entry_at [] g.terms i i e at (omega arith) (entry_below d cs g gr i e at)

after_length : (before : List Term) (es : List GroundTerm) → length (terms_after before es) ≡ length before + length es
after_length before [] = omega arith
after_length before (x ∷ es) =
    let v : Term = term_of_entry before x in
    let n : length (before ++ v ∷ []) ≡ length before + 1 = length-append before (v ∷ []) in
    omega (arith, after_length (before ++ v ∷ []) es, n)

pub terms_length : (g : Ground) → length (ground_terms g) ≡ length g.terms
terms_length g = omega (arith, after_length [] g.terms)

pub all_terms : (d : Disjunct) (cs : List Clause) (g : Ground) → IsGround d cs g → (t : Term) → Contains (ground_terms g) t ↔ IsGroundTerm d cs t
all_terms d cs g gr t =
    let n : (end_of g further_layers).terms ≡ length g.terms = ap (λ (e : LayerEnd). e.terms) gr.all in
    let all : take (end_of g further_layers).terms (ground_terms g) ≡ ground_terms g = take_all (end_of g further_layers).terms (ground_terms g) (omega (arith, n, terms_length g)) in
    subst (λ (ts : List Term). Contains ts t ↔ IsGroundTerm d cs t) all (gr.terms further_layers t (omega arith))

pub all_atoms : (d : Disjunct) (cs : List Clause) (g : Ground) → IsGround d cs g → (s : Sym) (ts : List Term) → Contains (ground_atoms g) (AtomExpression s ts) ↔ IsGroundAtom d cs s ts
all_atoms d cs g gr s ts =
    let n : (end_of g further_layers).atoms ≡ length g.atoms = ap (λ (e : LayerEnd). e.atoms) gr.all in
    let m : length (ground_atoms g) ≡ length g.atoms = length-map g.atoms (atom_expression (ground_terms g)) in
    let all : take (end_of g further_layers).atoms (ground_atoms g) ≡ ground_atoms g = take_all (end_of g further_layers).atoms (ground_atoms g) (omega (arith, n, m)) in
    subst (λ (ps : List GroundExpression). Contains ps (AtomExpression s ts) ↔ IsGroundAtom d cs s ts) all (gr.atoms further_layers s ts (omega arith))

pub all_equations : (d : Disjunct) (cs : List Clause) (g : Ground) → IsGround d cs g → (t u : Term) → Contains (ground_equations g) (EquationExpression t u) ↔ IsGroundExpression d cs (EquationExpression t u)
all_equations d cs g gr t u =
    let n : (end_of g further_layers).equations ≡ length g.equations = ap (λ (e : LayerEnd). e.equations) gr.all in
    let m : length (ground_equations g) ≡ length g.equations = length-map g.equations (equation_expression (ground_terms g)) in
    let all : take (end_of g further_layers).equations (ground_equations g) ≡ ground_equations g = take_all (end_of g further_layers).equations (ground_equations g) (omega (arith, n, m)) in
    subst (λ (ps : List GroundExpression). Contains ps (EquationExpression t u) ↔ IsGroundExpression d cs (EquationExpression t u)) all (gr.equations further_layers t u (omega arith))

-- terms
pub term_found : (g : Ground) (i : ℕ) → i < length g.terms → slice_get (ground_terms g) i ≡ Some (term_at (ground_terms g) i)
term_found g i lt =
    let p = get_some (ground_terms g) i (omega (arith, lt, terms_length g)) in
    p.1 ∙ ap Some (sym (term_get (ground_terms g) i p.0 p.1))

pub term_ground : (d : Disjunct) (cs : List Clause) (g : Ground) → IsGround d cs g → (i : ℕ) → i < length g.terms → IsGroundTerm d cs (term_at (ground_terms g) i)
term_ground d cs g gr i lt = (all_terms d cs g gr (term_at (ground_terms g) i)).0 (get_contains (ground_terms g) i (term_at (ground_terms g) i) (term_found g i lt))

pub term_place : (d : Disjunct) (cs : List Clause) (g : Ground) → IsGround d cs g → (t : Term) → IsGroundTerm d cs t → (i : ℕ) × IsTermPlace g i t
term_place d cs g gr t h =
    let p = contains_get (ground_terms g) t ((all_terms d cs g gr t).1 h) in
    (p.0, (omega (arith, p.1, terms_length g), term_get (ground_terms g) p.0 t p.2))

pub term_unique : (d : Disjunct) (cs : List Clause) (g : Ground) → IsGround d cs g → (i j : ℕ) (t : Term) → IsTermPlace g i t → IsTermPlace g j t → i ≡ j
term_unique d cs g gr i j t p q =
    place_unique (ground_terms g) gr.distinct_terms i j t (term_found g i p.0 ∙ ap Some p.1) (term_found g j q.0 ∙ ap Some q.1)

-- atoms
pub atom_ground : (d : Disjunct) (cs : List Clause) (g : Ground) → IsGround d cs g → (k : ℕ) (a : GroundAtom) → slice_get g.atoms k ≡ Some a → IsGroundAtom d cs a.sym (map (term_at (ground_terms g)) a.args)
atom_ground d cs g gr k a at =
    (all_atoms d cs g gr a.sym (map (term_at (ground_terms g)) a.args)).0 (get_contains (ground_atoms g) k (atom_expression (ground_terms g) a) (get_map (atom_expression (ground_terms g)) g.atoms k a at))

atom_parts : {s r : Sym} {ts us : List Term} → AtomExpression s ts ≡ AtomExpression r us → (s ≡ r) × (ts ≡ us)
atom_parts e = (cc, cc)

pub atom_found : (d : Disjunct) (cs : List Clause) (g : Ground) → IsGround d cs g → (s : Sym) (ts : List Term) → IsGroundAtom d cs s ts → (k : ℕ) × IsAtomPlace g k s ts
atom_found d cs g gr s ts h =
    let p = contains_get (ground_atoms g) (AtomExpression s ts) ((all_atoms d cs g gr s ts).1 h) in
    let q = get_unmap (atom_expression (ground_terms g)) g.atoms p.0 (AtomExpression s ts) p.2 in
    let e = atom_parts q.2 in
    (p.0, (q.0, q.1, e.0, e.1))

pub atom_unique : (d : Disjunct) (cs : List Clause) (g : Ground) → IsGround d cs g → (k m : ℕ) (s : Sym) (ts : List Term) → IsAtomPlace g k s ts → IsAtomPlace g m s ts → k ≡ m
atom_unique d cs g gr k m s ts p q =
    let at : (n : ℕ) → IsAtomPlace g n s ts → slice_get (ground_atoms g) n ≡ Some (AtomExpression s ts)
    = λ n h. get_map (atom_expression (ground_terms g)) g.atoms n h.0 h.1 ∙ (λ i. Some (AtomExpression (h.2 i) (h.3 i))) in
    place_unique (ground_atoms g) gr.distinct_atoms k m (AtomExpression s ts) (at k p) (at m q)

-- equations
pub equation_ground : (d : Disjunct) (cs : List Clause) (g : Ground) → IsGround d cs g → (k : ℕ) (e : GroundEquation) (t u : Term) → IsEquationPlace g k e t u → IsGroundExpression d cs (EquationExpression t u)
equation_ground d cs g gr k e t u h =
    let at : slice_get (ground_equations g) k ≡ Some (EquationExpression t u) = get_map (equation_expression (ground_terms g)) g.equations k e h.0 ∙ (λ i. Some (EquationExpression (h.1 i) (h.2 i))) in
    (all_equations d cs g gr t u).0 (get_contains (ground_equations g) k (EquationExpression t u) at)

equation_parts : {t u v w : Term} → EquationExpression t u ≡ EquationExpression v w → (t ≡ v) × (u ≡ w)
equation_parts e = (cc, cc)

pub equation_found : (d : Disjunct) (cs : List Clause) (g : Ground) → IsGround d cs g → (t u : Term) → IsGroundExpression d cs (EquationExpression t u) → (k : ℕ) × (e : GroundEquation) × IsEquationPlace g k e t u
equation_found d cs g gr t u h =
    let p = contains_get (ground_equations g) (EquationExpression t u) ((all_equations d cs g gr t u).1 h) in
    let q = get_unmap (equation_expression (ground_terms g)) g.equations p.0 (EquationExpression t u) p.2 in
    let e = equation_parts q.2 in
    (p.0, q.0, (q.1, e.0, e.1))

pub equation_unique : (d : Disjunct) (cs : List Clause) (g : Ground) → IsGround d cs g → (k m : ℕ) (e f : GroundEquation) (t u : Term) → IsEquationPlace g k e t u → IsEquationPlace g m f t u → k ≡ m
equation_unique d cs g gr k m e f t u p q =
    let at : (n : ℕ) (e : GroundEquation) → IsEquationPlace g n e t u → slice_get (ground_equations g) n ≡ Some (EquationExpression t u)
    = λ n e h. get_map (equation_expression (ground_terms g)) g.equations n e h.0 ∙ (λ i. Some (EquationExpression (h.1 i) (h.2 i))) in
    place_unique (ground_equations g) gr.distinct_equations k m (EquationExpression t u) (at k e p) (at m f q)

pub equation_within : (d : Disjunct) (cs : List Clause) (g : Ground) → IsGround d cs g → (k : ℕ) (e : GroundEquation) → slice_get g.equations k ≡ Some e → (e.left < length g.terms) × (e.right < length g.terms)
equation_within d cs g gr k e at = gr.equations_within e (get_contains g.equations k e at)
