-- The limits that a ground part keeps, and what the code of facts tells.
use Rattle.std.proofs.Common.{◌≡◌, ◌≤◌, ◌<◌, ◌+◌, ℕ, zero, suc, List, [], ◌∷◌, ◌++◌, map, length, take, get_or, refl, ap, sym, ◌∙◌, subst, arith, Bool, true, false, length-append}
use Rattle.std.specs.Prelude.{◌↔◌, IsTrue, Contains, All}
use Rattle.std.proofs.lemmas.List.Elements.{All-contains}
use Rattle.mz_logic.specs.Term as term
use Rattle.mz_logic.specs.declared.literal.Literal.{Literal}
use Rattle.mz_logic.specs.declared.disjunct.Disjunct.{Disjunct}
use Rattle.mz_ground.specs.declared.clause.Clause.{Clause}
use Rattle.mz_ground.specs.declared.ground_part.Ground.{Ground}
use Rattle.mz_ground.specs.declared.ground_term.GroundTerm.{GroundTerm}
use Rattle.mz_ground.specs.declared.ground_atom.GroundAtom.{GroundAtom}
use Rattle.mz_ground.specs.declared.ground_fault.GroundFault.{GroundFault}
use Rattle.mz_ground.specs.declared.ground_fault.GroundFault.TheVariants.{TooManyTerms, TooManyAtoms}
use Rattle.mz_ground.specs.GroundExpression.{GroundExpression, TermExpression, AtomExpression, EquationExpression, IsAtomExpression}
use Rattle.mz_ground.specs.Layers.{InLayer, further_layers}
use Rattle.mz_ground.specs.FactSet.{FactView, HasFacts, DecidesFact}
use Rattle.mz_ground.specs.Ground.{IsDistinct, IsGround, IsGroundWithinLimits, IsWithinTerms, IsWithinAtoms, PassesTerms, PassesAtoms, HasTooManyTerms, HasTooManyAtoms, GroundFails, terms_after, term_of_entry, ground_terms, ground_atoms, atom_expression, end_of, most_terms, most_atoms}
use Rattle.mz_fits.specs.Fits.{KeepsLimits, IsFactWithin}
use Rattle.mz_fits.proofs.CountLemmas.{length-le_distinct}

length-terms_after : (before : List term.Term) (es : List GroundTerm) → length (terms_after before es) ≡ length before + length es
length-terms_after before [] = omega arith
length-terms_after before (e ∷ es) =
    let one : length (before ++ term_of_entry before e ∷ []) ≡ length before + 1 = length-append before (term_of_entry before e ∷ []) in
    let rest : length (terms_after (before ++ term_of_entry before e ∷ []) es) ≡ length (before ++ term_of_entry before e ∷ []) + length es = length-terms_after (before ++ term_of_entry before e ∷ []) es in
    omega (arith, one, rest)

length-map : {A B : Type 0} (f : A → B) (xs : List A) → length (map f xs) ≡ length xs
length-map f [] = refl
length-map f (x ∷ xs) = ap suc (length-map f xs)

shorter_take : {A : Type 0} (n : ℕ) (xs : List A) → length (take n xs) ≤ length xs
shorter_take zero [] = omega arith
shorter_take (suc n) [] = omega arith
shorter_take zero (x ∷ xs) = omega arith
shorter_take (suc n) (x ∷ xs) = let le : length (take n xs) ≤ length xs = shorter_take n xs in omega (arith, le)

get_or-take : {A : Type 0} (xs : List A) (n k : ℕ) (x : A) → k < length (take n xs) → get_or (take n xs) k x ≡ get_or xs k x
get_or-take [] zero k x lt = refl
get_or-take [] (suc n) k x lt = refl
get_or-take (y ∷ ys) zero k x lt = absurd (omega arith)
get_or-take (y ∷ ys) (suc n) zero x lt = refl
get_or-take (y ∷ ys) (suc n) (suc k) x lt = get_or-take ys n k x (omega arith)

AllPairs-take : {A : Type 0} (xs : List A) (n : ℕ) → IsDistinct xs → IsDistinct (take n xs)
AllPairs-take xs n h i j d lt within =
    let shorter : length (take n xs) ≤ length xs = shorter_take n xs in
    rw (get_or-take xs n i d (omega (arith, lt, within)), get_or-take xs n j d within) (h i j d lt (omega (arith, within, shorter)))

from_take : {A : Type 0} (xs : List A) (n : ℕ) (x : A) → Contains (take n xs) x → Contains xs x
from_take xs n x c =
    let shorter : length (take n xs) ≤ length xs = shorter_take n xs in
    (c.0, omega (arith, c.1, shorter), sym (get_or-take xs n c.0 x c.1) ∙ c.2)

from_map : {A B : Type 0} (f : A → B) (xs : List A) (y : B) → Contains (map f xs) y → (x : A) × (f x ≡ y)
from_map f [] y c = absurd (omega (arith, c.1))
from_map f (x ∷ xs) y (zero, lt, e) = (x, e)
from_map f (x ∷ xs) y (suc k, lt, e) = from_map f xs y (k, omega arith, e)

atom_of : (ts : List term.Term) (atoms : List GroundAtom) (n : ℕ) (p : GroundExpression) → Contains (take n (map (atom_expression ts) atoms)) p → IsAtomExpression p
atom_of ts atoms n p c =
    let from = from_map (atom_expression ts) atoms p (from_take (map (atom_expression ts) atoms) n p c) in
    subst IsAtomExpression from.1 tt

atoms_there : (d : Disjunct) (cs : List Clause) (g : Ground) (n : ℕ) → IsGround d cs g → n ≤ further_layers → (p : GroundExpression) → (Contains (take (end_of g n).atoms (ground_atoms g)) p ↔ (IsAtomExpression p × InLayer d cs n p))
atoms_there d cs g n h le (TermExpression t) = (λ c. absurd (atom_of (ground_terms g) g.atoms (end_of g n).atoms (TermExpression t) c), λ i. absurd i.0)
atoms_there d cs g n h le (AtomExpression s ts) = (λ c. (tt, (h.atoms n s ts le).0 c), λ i. (h.atoms n s ts le).1 i.1)
atoms_there d cs g n h le (EquationExpression t u) = (λ c. absurd (atom_of (ground_terms g) g.atoms (end_of g n).atoms (EquationExpression t u) c), λ i. absurd i.0)

terms_within : (d : Disjunct) (cs : List Clause) (g : Ground) → IsGroundWithinLimits d cs g → (n : ℕ) → n ≤ further_layers → IsWithinTerms d cs n
terms_within d cs g h n le =
    let ts : List term.Term = take (end_of g n).terms (ground_terms g) in
    let shorter : length ts ≤ length (ground_terms g) = shorter_take (end_of g n).terms (ground_terms g) in
    let all : length (ground_terms g) ≡ length g.terms = length-terms_after [] g.terms ∙ (omega arith) in
    let limit : length g.terms ≤ most_terms = h.1 in
    (ts, record { members = λ t. h.0.terms n t le; distinct = AllPairs-take (ground_terms g) (end_of g n).terms h.0.distinct_terms }, omega (arith, shorter, all, limit))

atoms_within : (d : Disjunct) (cs : List Clause) (g : Ground) → IsGroundWithinLimits d cs g → (n : ℕ) → n ≤ further_layers → IsWithinAtoms d cs n
atoms_within d cs g h n le =
    let ps : List GroundExpression = take (end_of g n).atoms (ground_atoms g) in
    let shorter : length ps ≤ length (ground_atoms g) = shorter_take (end_of g n).atoms (ground_atoms g) in
    let all : length (ground_atoms g) ≡ length g.atoms = length-map (atom_expression (ground_terms g)) g.atoms in
    let limit : length g.atoms ≤ most_atoms = h.2 in
    (ps, record { members = λ p. atoms_there d cs g n h.0 le p; distinct = AllPairs-take (ground_atoms g) (end_of g n).atoms h.0.distinct_atoms }, omega (arith, shorter, all, limit))

pub keeps_limits : (d : Disjunct) (cs : List Clause) (g : Ground) → IsGroundWithinLimits d cs g → KeepsLimits d cs
keeps_limits d cs g h n le = (terms_within d cs g h n le, atoms_within d cs g h n le)

-- a layer doesn't both keep and pass a limit
not_both_terms : (d : Disjunct) (cs : List Clause) (n : ℕ) → IsWithinTerms d cs n → PassesTerms d cs n → ⊥
not_both_terms d cs n w p =
    let le : length p.0 ≤ length w.0 =
    length-le_distinct p.0 w.0 p.1 (λ t c. (w.1.members t).1 (All-contains (λ u. InLayer d cs n (TermExpression u)) p.0 t p.2 c)) in
    omega (arith, le, w.2, p.3)

not_both_atoms : (d : Disjunct) (cs : List Clause) (n : ℕ) → IsWithinAtoms d cs n → PassesAtoms d cs n → ⊥
not_both_atoms d cs n w p =
    let le : length p.0 ≤ length w.0 =
    length-le_distinct p.0 w.0 p.1 (λ t c. (w.1.members t).1 (All-contains (λ u. IsAtomExpression u × InLayer d cs n u) p.0 t p.2 c)) in
    omega (arith, le, w.2, p.3)

not_terms : (d : Disjunct) (cs : List Clause) (n : ℕ) → KeepsLimits d cs → HasTooManyTerms d cs n → ⊥
not_terms d cs n k h = not_both_terms d cs n (k n h.layer).0 h.passes

not_atoms : (d : Disjunct) (cs : List Clause) (n : ℕ) → KeepsLimits d cs → HasTooManyAtoms d cs n → ⊥
not_atoms d cs n k h = not_both_atoms d cs n (k n h.layer).1 h.passes

-- what the code tells
pub told_terms : (d : Disjunct) (cs : List Clause) (l : Literal) (f : GroundFault) → f ≡ TooManyTerms → GroundFails d cs f → IsTrue false ↔ IsFactWithin d cs l
told_terms d cs l f same h =
    let g : GroundFails d cs TooManyTerms = subst (GroundFails d cs) same h in
    (λ x. absurd (cc), λ w. absurd (not_terms d cs g.0 w.keeps g.1))

pub told_atoms : (d : Disjunct) (cs : List Clause) (l : Literal) (f : GroundFault) → f ≡ TooManyAtoms → GroundFails d cs f → IsTrue false ↔ IsFactWithin d cs l
told_atoms d cs l f same h =
    let g : GroundFails d cs TooManyAtoms = subst (GroundFails d cs) same h in
    (λ x. absurd (cc), λ w. absurd (not_atoms d cs g.0 w.keeps g.1))

pub told_fact : (d : Disjunct) (cs : List Clause) (l : Literal) (g : Ground) (v : FactView) (b : Bool) → IsGroundWithinLimits d cs g → HasFacts d cs v → DecidesFact v l b → IsTrue b ↔ IsFactWithin d cs l
unfolding DecidesFact
told_fact d cs l g v b within holds tells =
    (λ x. record { keeps = keeps_limits d cs g within; fact = (tells d cs holds).0 x }, λ w. (tells d cs holds).1 w.fact)

pub ruleset fault_rules = (told_terms, told_atoms)
