-- What contexts say with further constants.
use Rattle.std.proofs.Common.{◌≡◌, ◌+◌, ◌<◌, ℕ, zero, suc, true, List, [], ◌∷◌, ◌++◌, map, length, refl, sym, ap, ◌∙◌, subst, arith, append_assoc, length-append, Option, Some, None}
use Rattle.std.specs.Prelude.{Contains, slice_get}
use Rattle.std.proofs.lemmas.List.{append-nil, map-append}
use Rattle.std.proofs.lemmas.List.Elements.{Contains-append_left, Contains-append_right}
use Rattle.mz_logic.specs.Term.{Term, Const}
use Rattle.mz_logic.specs.Formula as formula
use Rattle.mz_logic.specs.Formula.{Formula}
use Rattle.mz_logic.specs.Literal.{literal_formula}
use Rattle.mz_logic.specs.Derives.{Derives}
use Rattle.mz_logic.specs.declared.literal.Literal.{Literal}
use Rattle.mz_logic.proofs.Each.{Each, Along, each_itself, each_append, each_left, each_right, each_none, each_more, along_each}
use Rattle.mz_core.specs.Guard.{guard, guard_literals}
use Rattle.mz_core.specs.Erasure.{erase}
use Rattle.mz_context.specs.Context.{next, numbered, numbers, in_force}
use Rattle.mz_context.specs.Changes.{with_constant}
use Rattle.mz_context.specs.Gather.{known, known_of, equation_if_any}
use Rattle.mz_context.specs.declared.constants.Constant.{Constant}
use Rattle.mz_context.specs.declared.context.Context.{Context}
use Rattle.mz_ground.specs.declared.clause.Clause.{Clause}
use Rattle.mz_environment.specs.declared.unfoldings.Unfolding.{Unfolding}
use Rattle.mz_fits.specs.Laws.{AreGranted}
use Rattle.mz_names.specs.Closing.{constant_of, with_variables}
use Rattle.mz_names.specs.declared.variable.Variable.{Variable}
use Rattle.mz_steps.specs.Rows.{constant_for}
use Rattle.mz_steps.specs.declared.read_step.Definition.{Definition}
use Rattle.mz_steps_laws.specs.Facts.{known_from, statements_in, facts, Rests}
use Rattle.mz_steps_laws.specs.StepLaws.{guards_of}

-- one more constant
known_from-append : (n : ℕ) (ks : List (Option Constant)) (o : Option Constant) → known_from n (ks ++ o ∷ []) ≡ known_from n ks ++ known_of (n + length ks) o
known_from-append n [] o =
    let e : n ≡ n + 0 = omega arith in
    append-nil (known_of n o) ∙ ap (λ m. known_of m o) e
known_from-append n (k ∷ ks) o =
    let e : suc n + length ks ≡ n + length (k ∷ ks) = omega arith in
    ap (λ ls. known_of n k ++ ls) (known_from-append (suc n) ks o) ∙
    (sym (append_assoc (known_of n k) (known_from (suc n) ks) (known_of (suc n + length ks) o)) ∙ ap (λ m. (known_of n k ++ known_from (suc n) ks) ++ known_of m o) e)

pub known_with : (ks : List (Option Constant)) (k : Constant) → known_from 1 (ks ++ Some k ∷ []) ≡ known_from 1 ks ++ known_of (numbers ks) (Some k)
known_with ks k =
    let e : 1 + length ks ≡ numbers ks = omega arith in
    known_from-append 1 ks (Some k) ∙ ap (λ m. known_from 1 ks ++ known_of m (Some k)) e

pub each_with_constant : (ax h : List Formula) (c : Context) (k : Constant) → Each ax h (facts c) → Each ax h (map literal_formula (known_of (next c) (Some k))) → Each ax h (facts (with_constant c k))
each_with_constant ax h c k old new =
    let ls : List Literal = known_from 1 c.constants in
    let ms : List Literal = known_of (next c) (Some k) in
    let rest : List Formula = map erase (statements_in c) in
    let both : Each ax h ((map literal_formula ls ++ map literal_formula ms) ++ rest) =
    each_append ax h (map literal_formula ls ++ map literal_formula ms) rest (each_append ax h (map literal_formula ls) (map literal_formula ms) (each_left ax h (map literal_formula ls) rest old) new) (each_right ax h (map literal_formula ls) rest old) in
    subst (λ fs. Each ax h (fs ++ rest)) (sym (ap (map literal_formula) (known_with c.constants k) ∙ map-append literal_formula ls ms)) both

-- what is known of the constant of a variable, and of that of a definition
pub each_of_variable : (ax h : List Formula) (n : ℕ) (v : Variable) → Each ax h (guard v.ty (Const n)) → Each ax h (map literal_formula (known_of n (Some (constant_of v))))
each_of_variable ax h n v e =
    subst (Each ax h) (sym (ap (map literal_formula) (append-nil (guard_literals v.ty (Const n))))) e

pub each_of_definition : (ax h : List Formula) (n : ℕ) (d : Definition) → Each ax h (guard d.ty (Const n)) → Derives ax h (formula.Eq (Const n) d.term) → Each ax h (map literal_formula (known_of n (Some (constant_for d))))
each_of_definition ax h n d e eq =
    subst (Each ax h) (sym (map-append literal_formula (guard_literals d.ty (Const n)) (equation_if_any n (Some d.term))))
    (each_append ax h (map literal_formula (guard_literals d.ty (Const n))) (map literal_formula (equation_if_any n (Some d.term))) e
    (each_more ax h (formula.Eq (Const n) d.term) [] eq (each_none ax h)))

pub next_with : (c : Context) (k : Constant) → next (with_constant c k) ≡ suc (next c)
next_with c k = let e : length (c.constants ++ Some k ∷ []) ≡ length c.constants + 1 = length-append c.constants (Some k ∷ []) in omega (arith, e)

pub each_with_variables : (ax h : List Formula) (c : Context) (vs : List Variable) → Each ax h (facts c) → Each ax h (guards_of (next c) vs) → Each ax h (facts (with_variables c vs))
each_with_variables ax h c [] old new = old
each_with_variables ax h c (v ∷ vs) old new =
    let gs : List Formula = guard v.ty (Const (next c)) in
    each_with_variables ax h (with_constant c (constant_of v)) vs
    (each_with_constant ax h c (constant_of v) old (each_of_variable ax h (next c) v (each_left ax h gs (guards_of (suc (next c)) vs) new)))
    (subst (λ m. Each ax h (guards_of m vs)) (sym (next_with c (constant_of v))) (each_right ax h gs (guards_of (suc (next c)) vs) new))

-- what is known of a constant is among what is known of all
in_none : (l : Literal) → Contains [] l → ⊥
in_none l is = let lt : is.0 < 0 = is.1 in omega arith

place_within : (ks : List (Option Constant)) (n m : ℕ) (l : Literal) → Contains (known_of (n + m) (in_force (slice_get ks m))) l → Contains (known_from n ks) l
place_within [] n zero l is = absurd (in_none l is)
place_within [] n (suc m) l is = absurd (in_none l is)
place_within (o ∷ os) n zero l is =
    let e : n + zero ≡ n = omega arith in
    Contains-append_left (known_of n o) (known_from (suc n) os) l (subst (λ k. Contains (known_of k o) l) e is)
place_within (o ∷ os) n (suc m) l is =
    let e : n + suc m ≡ suc n + m = omega arith in
    Contains-append_right (known_of n o) (known_from (suc n) os) l (place_within os (suc n) m l (subst (λ k. Contains (known_of k (in_force (slice_get os m))) l) e is))

pub known_within : (ks : List (Option Constant)) (n : ℕ) (l : Literal) → Contains (known ks n) l → Contains (known_from 1 ks) l
known_within ks zero l is = absurd (in_none l is)
known_within ks (suc m) l is =
    let e : suc m ≡ 1 + m = omega arith in
    place_within ks 1 m l (subst (λ k. Contains (known_of k (in_force (slice_get ks m))) l) e is)

member_derives : (ax h : List Formula) (ls : List Literal) (l : Literal) → Contains ls l → Along ax h (map literal_formula ls) → Derives ax h (literal_formula l)
member_derives ax h [] l is p = absurd (in_none l is)
member_derives ax h (k ∷ ks) l (zero, lt, e) p = subst (λ m. Derives ax h (literal_formula m)) e p.0
member_derives ax h (k ∷ ks) l (suc i, lt, e) p = member_derives ax h ks l (i, omega (arith, lt), e) p.1

pub granted : (ax held : List Formula) (cs : List Clause) (us : List Unfolding) (c : Context) → Rests ax held cs us c → AreGranted ax (facts c ++ held) cs c.constants
granted ax held cs us c rests =
    let g : List Formula = facts c ++ held in
    let ls : List Literal = known_from 1 c.constants in
    let all : Each ax g (map literal_formula ls) = each_left ax g (map literal_formula ls) (map erase (statements_in c)) (each_left ax g (facts c) held (each_itself ax g)) in
    record {
      clauses = rests.clauses;
      known = λ n l is. member_derives ax g ls l (known_within c.constants n l is) (along_each ax g (map literal_formula ls) all);
    }
