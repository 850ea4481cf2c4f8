-- The limits that a ground part keeps, and the verdicts that the code answers.
use Rattle.std.proofs.Common.{◌≡◌, ◌≤◌, ◌<◌, ◌+◌, ℕ, zero, suc, List, [], ◌∷◌, ◌++◌, map, length, take, drop, get_or, refl, ap, sym, ◌∙◌, subst, arith, Bool, true, false, Option, Some, None, length-append}
use Rattle.std.specs.Prelude.{◌↔◌, Contains, MatchOption}
use Rattle.std.proofs.Math.Seq.{drop-cons}
use Rattle.std.proofs.lemmas.List.{drop_all}
use Rattle.mz_base.specs.declared.limit.Limit.TheVariants.{Disjuncts, Terms, Atoms, Work}
use Rattle.mz_logic.specs.Term as term
use Rattle.mz_logic.specs.declared.disjunct.Disjunct.{Disjunct}
use Rattle.mz_nf.specs.declared.problem.Problem.{Problem}
use Rattle.mz_nf.specs.declared.nf_fault.NfFault.{NfFault}
use Rattle.mz_nf.specs.declared.nf_fault.NfFault.TheVariants.{TooManyDisjuncts}
use Rattle.mz_nf.specs.Count.{count_of}
use Rattle.mz_nf.specs.Splits.{AreDisjuncts}
use Rattle.mz_nf.specs.Refuses.{Refuses}
use Rattle.mz_ground.specs.declared.clause.Clause.{Clause}
use Rattle.mz_ground.specs.declared.ground_part.Ground.{Ground}
use Rattle.mz_ground.specs.declared.ground_term.GroundTerm.{GroundTerm}
use Rattle.mz_ground.specs.declared.ground_atom.GroundAtom.{GroundAtom}
use Rattle.mz_ground.specs.declared.ground_fault.GroundFault.{GroundFault}
use Rattle.mz_ground.specs.declared.ground_fault.GroundFault.TheVariants.{TooManyTerms, TooManyAtoms}
use Rattle.mz_ground.specs.GroundExpression.{GroundExpression, TermExpression, AtomExpression, EquationExpression, IsAtomExpression}
use Rattle.mz_ground.specs.Layers.{InLayer, further_layers}
use Rattle.mz_ground.specs.Facts.{IsContradictory}
use Rattle.mz_ground.specs.Ground.{IsDistinct, IsGround, IsGroundWithinLimits, IsWithinTerms, IsWithinAtoms, GroundFails, terms_after, term_of_entry, ground_terms, ground_atoms, atom_expression, end_of, most_terms, most_atoms}
use Rattle.mz_refute.specs.Closes.{IsClosed, contradiction, refutation}
use Rattle.mz_by.specs.declared.by.ByVerdict.{ByVerdict}
use Rattle.mz_by.specs.declared.by.ByVerdict.TheVariants.{Closed, Open, Over}
use Rattle.mz_by.specs.Verdict.{KeepsLimits, IsClosedWithin, Decides, DecidesAll, IsVerdict, by_terms, by_atoms, by_work, is_open, all_closed, decided, passed, too_many, on_disjuncts}
use Rattle.mz_by.specs.Examination.{IsExamination, IsNoneRefuted}
use Rattle.mz_by.specs.declared.examine.Examination.{Examination}
use Rattle.mz_by.specs.declared.examine.Examination.TheVariants as examinations

length-terms_after : (before : List term.Term) (es : List GroundTerm) → length (terms_after before es) ≡ length before + length es
length-terms_after before [] = omega arith
length-terms_after before (e ∷ es) =
    let one : length (before ++ term_of_entry before e ∷ []) ≡ length before + 1 = length-append before (term_of_entry before e ∷ []) in
    let rest : length (terms_after (before ++ term_of_entry before e ∷ []) es) ≡ length (before ++ term_of_entry before e ∷ []) + length es = length-terms_after (before ++ term_of_entry before e ∷ []) es in
    omega (arith, one, rest)

length-map : {A B : Type 0} (f : A → B) (xs : List A) → length (map f xs) ≡ length xs
length-map f [] = refl
length-map f (x ∷ xs) = ap suc (length-map f xs)

shorter_take : {A : Type 0} (n : ℕ) (xs : List A) → length (take n xs) ≤ length xs
shorter_take zero [] = omega arith
shorter_take (suc n) [] = omega arith
shorter_take zero (x ∷ xs) = omega arith
shorter_take (suc n) (x ∷ xs) = let le : length (take n xs) ≤ length xs = shorter_take n xs in omega (arith, le)

get_or-take : {A : Type 0} (xs : List A) (n k : ℕ) (x : A) → k < length (take n xs) → get_or (take n xs) k x ≡ get_or xs k x
get_or-take [] zero k x lt = refl
get_or-take [] (suc n) k x lt = refl
get_or-take (y ∷ ys) zero k x lt = absurd (omega arith)
get_or-take (y ∷ ys) (suc n) zero x lt = refl
get_or-take (y ∷ ys) (suc n) (suc k) x lt = get_or-take ys n k x (omega arith)

AllPairs-take : {A : Type 0} (xs : List A) (n : ℕ) → IsDistinct xs → IsDistinct (take n xs)
AllPairs-take xs n h i j d lt within =
    let shorter : length (take n xs) ≤ length xs = shorter_take n xs in
    rw (get_or-take xs n i d (omega (arith, lt, within)), get_or-take xs n j d within) (h i j d lt (omega (arith, within, shorter)))

from_take : {A : Type 0} (xs : List A) (n : ℕ) (x : A) → Contains (take n xs) x → Contains xs x
from_take xs n x c =
    let shorter : length (take n xs) ≤ length xs = shorter_take n xs in
    (c.0, omega (arith, c.1, shorter), sym (get_or-take xs n c.0 x c.1) ∙ c.2)

from_map : {A B : Type 0} (f : A → B) (xs : List A) (y : B) → Contains (map f xs) y → (x : A) × (f x ≡ y)
from_map f [] y c = absurd (omega (arith, c.1))
from_map f (x ∷ xs) y (zero, lt, e) = (x, e)
from_map f (x ∷ xs) y (suc k, lt, e) = from_map f xs y (k, omega arith, e)

atom_of : (ts : List term.Term) (atoms : List GroundAtom) (n : ℕ) (p : GroundExpression) → Contains (take n (map (atom_expression ts) atoms)) p → IsAtomExpression p
atom_of ts atoms n p c =
    let from = from_map (atom_expression ts) atoms p (from_take (map (atom_expression ts) atoms) n p c) in
    subst IsAtomExpression from.1 tt

atoms_there : (d : Disjunct) (cs : List Clause) (g : Ground) (n : ℕ) → IsGround d cs g → n ≤ further_layers → (p : GroundExpression) → (Contains (take (end_of g n).atoms (ground_atoms g)) p ↔ (IsAtomExpression p × InLayer d cs n p))
atoms_there d cs g n h le (TermExpression t) = (λ c. absurd (atom_of (ground_terms g) g.atoms (end_of g n).atoms (TermExpression t) c), λ i. absurd i.0)
atoms_there d cs g n h le (AtomExpression s ts) = (λ c. (tt, (h.atoms n s ts le).0 c), λ i. (h.atoms n s ts le).1 i.1)
atoms_there d cs g n h le (EquationExpression t u) = (λ c. absurd (atom_of (ground_terms g) g.atoms (end_of g n).atoms (EquationExpression t u) c), λ i. absurd i.0)

terms_within : (d : Disjunct) (cs : List Clause) (g : Ground) → IsGroundWithinLimits d cs g → (n : ℕ) → n ≤ further_layers → IsWithinTerms d cs n
terms_within d cs g h n le =
    let ts : List term.Term = take (end_of g n).terms (ground_terms g) in
    let shorter : length ts ≤ length (ground_terms g) = shorter_take (end_of g n).terms (ground_terms g) in
    let all : length (ground_terms g) ≡ length g.terms = length-terms_after [] g.terms ∙ (omega arith) in
    let limit : length g.terms ≤ most_terms = h.1 in
    (ts, record { members = λ t. h.0.terms n t le; distinct = AllPairs-take (ground_terms g) (end_of g n).terms h.0.distinct_terms }, omega (arith, shorter, all, limit))

atoms_within : (d : Disjunct) (cs : List Clause) (g : Ground) → IsGroundWithinLimits d cs g → (n : ℕ) → n ≤ further_layers → IsWithinAtoms d cs n
atoms_within d cs g h n le =
    let ps : List GroundExpression = take (end_of g n).atoms (ground_atoms g) in
    let shorter : length ps ≤ length (ground_atoms g) = shorter_take (end_of g n).atoms (ground_atoms g) in
    let all : length (ground_atoms g) ≡ length g.atoms = length-map (atom_expression (ground_terms g)) g.atoms in
    let limit : length g.atoms ≤ most_atoms = h.2 in
    (ps, record { members = λ p. atoms_there d cs g n h.0 le p; distinct = AllPairs-take (ground_atoms g) (end_of g n).atoms h.0.distinct_atoms }, omega (arith, shorter, all, limit))

pub keeps_limits : (d : Disjunct) (cs : List Clause) (g : Ground) → IsGroundWithinLimits d cs g → KeepsLimits d cs
keeps_limits d cs g h n le = (terms_within d cs g h n le, atoms_within d cs g h n le)

-- what a disjunct gives
pub gives_terms : (d : Disjunct) (cs : List Clause) (number : ℕ) (e : GroundFault) → e ≡ TooManyTerms → GroundFails d cs e → Decides d cs number (Over Terms 4097)
gives_terms d cs number e same h = let f : GroundFails d cs TooManyTerms = subst (GroundFails d cs) same h in by_terms f.0 f.1

pub gives_atoms : (d : Disjunct) (cs : List Clause) (number : ℕ) (e : GroundFault) → e ≡ TooManyAtoms → GroundFails d cs e → Decides d cs number (Over Atoms 16385)
gives_atoms d cs number e same h = let f : GroundFails d cs TooManyAtoms = subst (GroundFails d cs) same h in by_atoms f.0 f.1

pub gives_clash : (d : Disjunct) (cs : List Clause) (g : Ground) → IsGroundWithinLimits d cs g → IsContradictory d cs → IsClosedWithin d cs
gives_clash d cs g h c = record { keeps = keeps_limits d cs g h; closed = contradiction c }

pub gives_refuted : (d : Disjunct) (cs : List Clause) (g : Ground) (e : Examination) → IsGroundWithinLimits d cs g → e ≡ examinations.Refuted → IsExamination d cs d.universals e → IsClosedWithin d cs
gives_refuted d cs g e h same x =
    let r : IsExamination d cs d.universals examinations.Refuted = subst (IsExamination d cs d.universals) same x in
    record { keeps = keeps_limits d cs g h; closed = refutation r.0 r.1 r.2 }

none_closed : (d : Disjunct) (cs : List Clause) → ¬ IsContradictory d cs → IsNoneRefuted d cs d.universals → ¬ IsClosed d cs
none_closed d cs n h (contradiction c) = n c
none_closed d cs n h (refutation u c r) = h u c r

pub gives_work : (d : Disjunct) (cs : List Clause) (g : Ground) (number work : ℕ) (e : Examination) → IsGroundWithinLimits d cs g → ¬ IsContradictory d cs → e ≡ examinations.Over work → IsExamination d cs d.universals e → Decides d cs number (Over Work work)
gives_work d cs g number work e h n same x =
    let r : IsExamination d cs d.universals (examinations.Over work) = subst (IsExamination d cs d.universals) same x in
    by_work work (keeps_limits d cs g h) (none_closed d cs n r.0) r.1

pub gives_open : (d : Disjunct) (cs : List Clause) (g : Ground) (number : ℕ) (e : Examination) → IsGroundWithinLimits d cs g → ¬ IsContradictory d cs → e ≡ examinations.Open → IsExamination d cs d.universals e → Decides d cs number (Open number)
gives_open d cs g number e h n same x =
    let r : IsExamination d cs d.universals examinations.Open = subst (IsExamination d cs d.universals) same x in
    is_open (keeps_limits d cs g h) (none_closed d cs n r.0) r.1

-- the disjuncts that are left
drop-next_left : (ds : List Disjunct) (i : ℕ) (d : Disjunct) → i < length ds → d ≡ get_or ds i d → drop i ds ≡ d ∷ drop (i + 1) ds
drop-next_left ds i d lt at =
    let e : suc i ≡ (i + 1) = omega arith in
    drop-cons ds i d lt ∙ (λ j. sym at j ∷ drop (e j) ds)

pub left_decided : (cs : List Clause) (ds : List Disjunct) (i number : ℕ) (d : Disjunct) (v : ByVerdict) → i < length ds → d ≡ get_or ds i d → ((w : ByVerdict) → DecidesAll cs number (drop i ds) w → DecidesAll cs 1 ds w) → Decides d cs number v → DecidesAll cs 1 ds v
left_decided cs ds i number d v lt at so h = so v (subst (λ xs. DecidesAll cs number xs v) (sym (drop-next_left ds i d lt at)) (decided number d (drop (i + 1) ds) v h))

pub left_passed : (cs : List Clause) (ds : List Disjunct) (i number next : ℕ) (d : Disjunct) → i < length ds → d ≡ get_or ds i d → next ≡ number + 1 → ((w : ByVerdict) → DecidesAll cs number (drop i ds) w → DecidesAll cs 1 ds w) → IsClosedWithin d cs → (w : ByVerdict) → DecidesAll cs next (drop (i + 1) ds) w → DecidesAll cs 1 ds w
left_passed cs ds i number next d lt at en so h w x =
    let e : next ≡ suc number = omega (arith, en) in
    so w (subst (λ xs. DecidesAll cs number xs w) (sym (drop-next_left ds i d lt at)) (passed number d (drop (i + 1) ds) w h (subst (λ m. DecidesAll cs m (drop (i + 1) ds) w) e x)))

pub none_left : (cs : List Clause) (ds : List Disjunct) (i number : ℕ) → length ds ≤ i → ((w : ByVerdict) → DecidesAll cs number (drop i ds) w → DecidesAll cs 1 ds w) → DecidesAll cs 1 ds Closed
none_left cs ds i number le so = so Closed (subst (λ xs. DecidesAll cs number xs Closed) (sym (drop_all i ds le)) (all_closed number))

pub not_true : (b : Bool) → b ≡ false → b ≡ true → ⊥
not_true true e h = cc
not_true false e h = cc

pub given_some : {A : Type 0} (P : Type 0) (Q : A → Type 0) (o : Option A) (x : A) → o ≡ Some x → MatchOption o P Q → Q x
given_some P Q o x e h = subst (λ m. MatchOption m P Q) e h

pub given_none : {A : Type 0} (P : Type 0) (Q : A → Type 0) (o : Option A) → o ≡ None → MatchOption o P Q → P
given_none P Q o e h = subst (λ m. MatchOption m P Q) e h

-- the verdict on a problem
pub gives_count : (p : Problem) (cs : List Clause) (e : NfFault) (n : ℕ) → e ≡ TooManyDisjuncts n → Refuses p e → IsVerdict p cs (Over Disjuncts n)
gives_count p cs e n same h =
    let r : Refuses p (TooManyDisjuncts n) = subst (Refuses p) same h in
    let is : n ≡ count_of p = r.0 in
    subst (λ m. IsVerdict p cs (Over Disjuncts m)) (sym is) (too_many (subst (λ m. 1024 < m) is r.1))

pub gives_all : (p : Problem) (cs : List Clause) (ds : List Disjunct) (v : ByVerdict) → length ds ≡ count_of p → length ds ≤ 1024 → AreDisjuncts p ds → DecidesAll cs 1 ds v → IsVerdict p cs v
gives_all p cs ds v n few a h = on_disjuncts ds v (subst (λ m. m ≤ 1024) n few) a h
