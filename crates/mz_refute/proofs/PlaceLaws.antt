-- Ground terms by their places, and their classes.
use Rattle.std.proofs.Common.{◌≡◌, ◌<◌, ◌+◌, ◌⊎◌, inl, inr, ℕ, zero, suc, List, [], ◌∷◌, ◌++◌, map, length, take, refl, arith, ap, sym, ◌∙◌, subst, Bool, true, false}
use Rattle.std.specs.Prelude.{slice_get, Some, Contains, AllPairs, ◌≢◌, if◌then◌else◌}
use Rattle.std.proofs.lemmas.List.{take_all, length-append}
use Rattle.mz_logic.specs.declared.sym.Sym.{Sym}
use Rattle.mz_logic.specs.Term.{Term, App, terms_of}
use Rattle.mz_logic.specs.declared.disjunct.Disjunct.{Disjunct}
use Rattle.mz_ground.specs.declared.clause.Clause.{Clause}
use Rattle.mz_ground.specs.declared.ground_part.Ground.{Ground}
use Rattle.mz_ground.specs.declared.ground_term.GroundTerm.{GroundTerm}
use Rattle.mz_ground.specs.declared.ground_term.GroundTerm.TheVariants as node
use Rattle.mz_ground.specs.GroundExpression.{GroundExpression, AtomExpression, EquationExpression}
use Rattle.mz_ground.specs.Layers.{IsGroundTerm, IsGroundExpression, further_layers}
use Rattle.mz_ground.specs.Ground.{IsGround, ground_terms, terms_after, term_of_entry, term_at, term_or_zero, end_of, ground_atoms, ground_equations, atom_expression, equation_expression}
use Rattle.mz_refute.specs.TermClass.{same_term, class_in}
use Rattle.mz_refute.proofs.TermEquality.{same_term-true, same_term-self}
use Rattle.mz_refute.proofs.ListLaws.{member_at, get_left, get_end, get_member, map_equal, distinct_places, distinct_rest}

length_after : (before : List Term) (es : List GroundTerm) → length (terms_after before es) ≡ length before + length es
length_after before [] = omega arith
length_after before (e ∷ es) =
    let x = length_after (before ++ term_of_entry before e ∷ []) es in
    let y = length-append before (term_of_entry before e ∷ []) in
    omega (arith, x, y)

pub ground_length : (g : Ground) → length (ground_terms g) ≡ length g.terms
ground_length g = omega (arith, length_after [] g.terms)

kept_after : (before : List Term) (es : List GroundTerm) (i : ℕ) (t : Term) → slice_get before i ≡ Some t → slice_get (terms_after before es) i ≡ Some t
kept_after before [] i t h = h
kept_after before (e ∷ es) i t h = kept_after (before ++ term_of_entry before e ∷ []) es i t (get_left before (term_of_entry before e ∷ []) i t h)

-- the entry at a place, by the terms before it
record AtPlace (ts : List Term) (j : ℕ) (e : GroundTerm) : Type 0 where
  before : List Term
  is : slice_get ts j ≡ Some (term_of_entry before e)
  same : (k : ℕ) → k < j → slice_get before k ≡ slice_get ts k

entry_after : (before : List Term) (es : List GroundTerm) (i : ℕ) (e : GroundTerm) (j : ℕ) → j ≡ length before + i → slice_get es i ≡ Some e → AtPlace (terms_after before es) j e
entry_after before [] i e j q h = cc
entry_after before (x ∷ es) zero e j q h =
    let p : x ≡ e = cc in
    let l : j ≡ length before = omega (arith, q) in
    let t : Term = term_of_entry before x in
    let a : slice_get (before ++ t ∷ []) j ≡ Some t = ap (slice_get (before ++ t ∷ [])) l ∙ get_end before t in
    record {
      before = before;
      is = kept_after (before ++ t ∷ []) es j t a ∙ ap (λ z. Some (term_of_entry before z)) p;
      same = λ k lt. let m = member_at before k (omega (arith, lt, l)) in m.at ∙ sym (kept_after (before ++ t ∷ []) es k m.member (get_left before (t ∷ []) k m.member m.at));
    }
entry_after before (x ∷ es) (suc i) e j q h =
    let y = length-append before (term_of_entry before x ∷ []) in
    entry_after (before ++ term_of_entry before x ∷ []) es i e j (omega (arith, q, y)) h

term_of_entry-same_at : (b ts : List Term) (j : ℕ) → ((k : ℕ) → k < j → slice_get b k ≡ slice_get ts k) → (e : GroundTerm) → ((s : Sym) (args : List ℕ) → e ≡ node.App s args → (k : ℕ) → Contains args k → k < j) → term_of_entry b e ≡ term_of_entry ts e
term_of_entry-same_at b ts j h (node.Const n) f = refl
term_of_entry-same_at b ts j h (node.App s args) f = ap (λ us. App s (terms_of us)) (map_equal (term_at b) (term_at ts) args (λ k m. ap term_or_zero (h k (f s args refl k m))))

-- the term at a place is that of the entry
pub ground_entry : (d : Disjunct) (cs : List Clause) (g : Ground) → IsGround d cs g → (i : ℕ) (e : GroundTerm) → slice_get g.terms i ≡ Some e → slice_get (ground_terms g) i ≡ Some (term_of_entry (ground_terms g) e)
ground_entry d cs g h i e k =
    let p = entry_after [] g.terms i e i (omega arith) k in
    p.is ∙ ap (λ z. Some z) (term_of_entry-same_at p.before (ground_terms g) i p.same e (λ s args q j m. h.earlier i j s args (k ∙ ap (λ z. Some z) q) m))

pub place_term : (d : Disjunct) (cs : List Clause) (g : Ground) → (i : ℕ) (t : Term) → slice_get (ground_terms g) i ≡ Some t → term_at (ground_terms g) i ≡ t
place_term d cs g i t h = ap term_or_zero h

-- members
all_terms : (d : Disjunct) (cs : List Clause) (g : Ground) → IsGround d cs g → take (end_of g further_layers).terms (ground_terms g) ≡ ground_terms g
all_terms d cs g h = ap (λ e. take e.terms (ground_terms g)) h.all ∙ take_all (length g.terms) (ground_terms g) (omega (arith, ground_length g))

pub ground_has : (d : Disjunct) (cs : List Clause) (g : Ground) → IsGround d cs g → (t : Term) → IsGroundTerm d cs t → Contains (ground_terms g) t
ground_has d cs g h t k = subst (λ (xs : List Term). Contains xs t) (all_terms d cs g h) ((h.terms further_layers t (omega arith)).1 k)

pub has_ground : (d : Disjunct) (cs : List Clause) (g : Ground) → IsGround d cs g → (t : Term) → Contains (ground_terms g) t → IsGroundTerm d cs t
has_ground d cs g h t k = (h.terms further_layers t (omega arith)).0 (subst (λ (xs : List Term). Contains xs t) (sym (all_terms d cs g h)) k)

pub place_ground : (d : Disjunct) (cs : List Clause) (g : Ground) → IsGround d cs g → (i : ℕ) (t : Term) → slice_get (ground_terms g) i ≡ Some t → IsGroundTerm d cs t
place_ground d cs g h i t k = has_ground d cs g h t (get_member (ground_terms g) i t k)

length_map : {X Y : Type 0} (f : X → Y) (xs : List X) → length (map f xs) ≡ length xs
length_map f [] = refl
length_map f (x ∷ xs) = ap suc (length_map f xs)

all_atoms : (d : Disjunct) (cs : List Clause) (g : Ground) → IsGround d cs g → take (end_of g further_layers).atoms (ground_atoms g) ≡ ground_atoms g
all_atoms d cs g h = ap (λ e. take e.atoms (ground_atoms g)) h.all ∙ take_all (length g.atoms) (ground_atoms g) (omega (arith, length_map (atom_expression (ground_terms g)) g.atoms))

all_equations : (d : Disjunct) (cs : List Clause) (g : Ground) → IsGround d cs g → take (end_of g further_layers).equations (ground_equations g) ≡ ground_equations g
all_equations d cs g h = ap (λ e. take e.equations (ground_equations g)) h.all ∙ take_all (length g.equations) (ground_equations g) (omega (arith, length_map (equation_expression (ground_terms g)) g.equations))

pub atom_has : (d : Disjunct) (cs : List Clause) (g : Ground) → IsGround d cs g → (s : Sym) (ts : List Term) → IsGroundExpression d cs (AtomExpression s ts) → Contains (ground_atoms g) (AtomExpression s ts)
atom_has d cs g h s ts k = subst (λ (xs : List GroundExpression). Contains xs (AtomExpression s ts)) (all_atoms d cs g h) ((h.atoms further_layers s ts (omega arith)).1 k)

pub has_atom : (d : Disjunct) (cs : List Clause) (g : Ground) → IsGround d cs g → (s : Sym) (ts : List Term) → Contains (ground_atoms g) (AtomExpression s ts) → IsGroundExpression d cs (AtomExpression s ts)
has_atom d cs g h s ts k = (h.atoms further_layers s ts (omega arith)).0 (subst (λ (xs : List GroundExpression). Contains xs (AtomExpression s ts)) (sym (all_atoms d cs g h)) k)

pub equation_has : (d : Disjunct) (cs : List Clause) (g : Ground) → IsGround d cs g → (t u : Term) → IsGroundExpression d cs (EquationExpression t u) → Contains (ground_equations g) (EquationExpression t u)
equation_has d cs g h t u k = subst (λ (xs : List GroundExpression). Contains xs (EquationExpression t u)) (all_equations d cs g h) ((h.equations further_layers t u (omega arith)).1 k)

pub has_equation : (d : Disjunct) (cs : List Clause) (g : Ground) → IsGround d cs g → (t u : Term) → Contains (ground_equations g) (EquationExpression t u) → IsGroundExpression d cs (EquationExpression t u)
has_equation d cs g h t u k = (h.equations further_layers t u (omega arith)).0 (subst (λ (xs : List GroundExpression). Contains xs (EquationExpression t u)) (sym (all_equations d cs g h)) k)

-- the class of a term at a place
if_same : (b : Bool) (x y : ℕ) → b ≡ true → (if b then x else y) ≡ x
if_same b x y h = rw h refl

if_other : (b : Bool) (x y : ℕ) → b ≡ false → (if b then x else y) ≡ y
if_other b x y h = rw h refl

bool_cases : (b : Bool) → (b ≡ true) ⊎ (b ≡ false)
bool_cases true = inl refl
bool_cases false = inr refl

pub class_at : (ts : List Term) (vs : List ℕ) (i : ℕ) (t : Term) (v : ℕ) → AllPairs (λ (x y : Term). x ≢ y) ts → slice_get ts i ≡ Some t → slice_get vs i ≡ Some v → class_in ts vs t ≡ v
class_at [] vs i t v h a b = cc
class_at (u ∷ us) [] i t v h a b = cc
class_at (u ∷ us) (w ∷ vs) zero t v h a b =
    let p : u ≡ t = cc in
    let q : w ≡ v = cc in
    if_same (same_term u t) w (class_in us vs t) (subst (λ (z : Term). same_term u z ≡ true) p (same_term-self u)) ∙ q
class_at (u ∷ us) (w ∷ vs) (suc i) t v h a b =
    elim (bool_cases (same_term u t)) [
      | inl c ↦ absurd (distinct_places (u ∷ us) zero (suc i) t h (ap (λ z. Some z) (same_term-true u t c)) a (omega arith))
      | inr c ↦ if_other (same_term u t) w (class_in us vs t) c ∙ class_at us vs i t v (distinct_rest u us h) a b
    ]
