-- What the code of chains tells.
use Rattle.std.proofs.Common.{◌≡◌, ◌≤◌, ◌<◌, ◌+◌, ◌-◌, ◌*◌, ◌⊎◌, inl, inr, if◌then◌else◌, ℕ, zero, suc, List, [], ◌∷◌, ◌++◌, refl, sym, ap, ◌∙◌, subst, Bool, true, false, arith, length, length-append, map, Option, Some, None, append_assoc}
use Rattle.std.specs.Prelude.{reverse, Contains, IsTrue, ◌↔◌, nat_le, find}
use Rattle.std.proofs.lemmas.List.{append-nil, reverse-append, reverse-reverse}
use Rattle.std.proofs.Math.Nat.{suc-mul}
use Rattle.std.proofs.lemmas.Bool.{leb-true, leb-false}
use Rattle.mz_std_laws.proofs.Sums.{either}
use Rattle.mz_logic.specs.declared.sym.Sym.{Sym}
use Rattle.mz_logic.specs.declared.kind.Kind.{Kind}
use Rattle.mz_logic.specs.declared.kind.Kind.TheVariants as kind
use Rattle.mz_logic.specs.Term.{Term, Bound, Const, App, terms_of}
use Rattle.mz_core.specs.Hidden.{object_mode, set_mode}
use Rattle.mz_core.specs.declared.radix.Radix.{Radix}
use Rattle.mz_core.specs.declared.soft_type.SoftType.{SoftType}
use Rattle.mz_core.specs.declared.structure.Structure.{Structure}
use Rattle.mz_context.specs.declared.constants.Constant.{Constant}
use Rattle.mz_context.specs.declared.context.Context.{Context}
use Rattle.mz_context.specs.Context.{numbered, constant_at}
use Rattle.mz_ground.specs.declared.clause.Clause.{Clause}
use Rattle.mz_environment.specs.Rows.{is_mode}
use Rattle.mz_environment.specs.declared.rows.Row.{Row}
use Rattle.mz_environment.specs.declared.environment.Environment.{Environment}
use Rattle.mz_fits.proofs.FitLemmas.{not_both}
use Rattle.mz_fits.proofs.OneMatch.{some-inj, none_some}
use Rattle.mz_types.specs.RowTypes as rows
use Rattle.mz_types.specs.RowTypes.{radix_at, RowAdds, RowsAdd}
use Rattle.mz_types.specs.Structures as st
use Rattle.mz_types.specs.Structures.{is_structure, structure_of, FirstGives, AggregateGives, AncestorsGive}
use Rattle.mz_types.specs.Chain as ch
use Rattle.mz_types.specs.Chain.{radix_nodes, most_nodes, most_radices, IsLeftOut, is_structure_kind, has_no_radix, rows_of_letters, radix_if_any, Parents, Visited, Walks, Begins, IsChain, plain}

-- what is left out
pub told_full : (out : List Radix) (r : Radix) → 256 ≤ length out → IsTrue true ↔ IsLeftOut out r
told_full out r le = (λ x. ch.full le, λ h. refl)

pub told_there : (out : List Radix) (r : Radix) (b : Bool) → IsTrue b ↔ Contains out r → b ≡ true → IsTrue true ↔ IsLeftOut out r
told_there out r b i eb = (λ x. ch.there (i.0 eb), λ h. refl)

pub told_last : (out : List Radix) (r : Radix) (a b : Bool) → length out < 256 → IsTrue a ↔ Contains out r → a ≡ false → IsTrue b ↔ (most_nodes < radix_nodes r) → IsTrue b ↔ IsLeftOut out r
told_last out r a b lt i ea j = (λ x. ch.too_large (j.0 x), λ h. back h)
  where
    back : IsLeftOut out r → IsTrue b
    back (ch.there k) = absurd (not_both a ea (i.1 k))
    back (ch.too_large k) = j.1 k
    back (ch.full k) = absurd (omega (arith, lt, k))

pub ruleset left_rules = (told_full, told_there, told_last)

-- parents
pub told_mode : (cs : List Clause) (e : Environment) (c : Context) (r : Radix) (b : Bool) (args : List Term) (xs : List Radix) → b ≡ is_mode r.sym.kind → b ≡ true → args ≡ r.args → RowsAdd cs c.constants r.sym args e.modes xs → Parents cs e c r (reverse xs)
told_mode cs e c r b args xs same eb ea h = ch.of_mode xs (sym same ∙ eb) (subst (λ (us : List Term). RowsAdd cs c.constants r.sym us e.modes xs) ea h)

pub told_structure : (cs : List Clause) (e : Environment) (c : Context) (r : Radix) (b : Bool) (xs ys : List Radix) → b ≡ is_structure_kind r.sym.kind → b ≡ true → AncestorsGive cs c.constants e.structures r ys → xs ≡ reverse ys → Parents cs e c r (reverse xs)
told_structure cs e c r b xs ys same eb h ex =
    let back : reverse xs ≡ ys = ap reverse ex ∙ reverse-reverse ys in
    subst (Parents cs e c r) (sym back) (ch.of_structure ys (sym same ∙ eb) h)

pub told_no_parents : (cs : List Clause) (e : Environment) (c : Context) (r : Radix) (a b : Bool) → a ≡ is_mode r.sym.kind → a ≡ false → b ≡ is_structure_kind r.sym.kind → b ≡ false → Parents cs e c r (reverse [])
told_no_parents cs e c r a b sa ea sb eb = ch.of_other (sym sa ∙ ea) (sym sb ∙ eb)

pub ruleset parent_rules = (told_mode, told_structure, told_no_parents)

-- a radix in its turn
pub told_skip : (cs : List Clause) (e : Environment) (c : Context) (out xs : List Radix) (r : Radix) (b : Bool) → IsTrue b ↔ IsLeftOut out r → b ≡ true → xs ≡ [] → Visited cs e c out r (reverse xs) out
told_skip cs e c out xs r b i h ex = subst (λ (ys : List Radix). Visited cs e c out r (reverse ys) out) (sym ex) (ch.left_out (i.0 h))

pub told_taken : (cs : List Clause) (e : Environment) (c : Context) (out after xs : List Radix) (r : Radix) (b : Bool) → IsTrue b ↔ IsLeftOut out r → b ≡ false → Parents cs e c r (reverse xs) → after ≡ out ++ r ∷ [] → Visited cs e c out r (reverse xs) after
told_taken cs e c out after xs r b i h k ea =
    subst (Visited cs e c out r (reverse xs)) (sym ea) (ch.taken (reverse xs) (λ x. absurd (not_both b h (i.1 x))) k)

pub ruleset visited_rules = (told_skip, told_taken)

-- the loop: what is left of the walk completes it
pub told_popped : (cs : List Clause) (e : Environment) (c : Context) (first stack rest stack' out out' xs : List Radix) (r : Radix) → stack ≡ rest ++ r ∷ [] → Visited cs e c out r (reverse xs) out' → stack' ≡ rest ++ xs → ((end : List Radix) → Walks cs e c (reverse stack) out end → Walks cs e c first [] end) → (end : List Radix) → Walks cs e c (reverse stack') out' end → Walks cs e c first [] end
told_popped cs e c first stack rest stack' out out' xs r es v ea so end w =
    let todo : reverse stack ≡ r ∷ reverse rest = ap reverse es ∙ reverse-append rest (r ∷ []) in
    let todo' : reverse stack' ≡ reverse xs ++ reverse rest = ap reverse ea ∙ reverse-append rest xs in
    let w' : Walks cs e c (reverse xs ++ reverse rest) out' end = subst (λ ys. Walks cs e c ys out' end) todo' w in
    so end (subst (λ ys. Walks cs e c ys out end) (sym todo) (ch.visits r (reverse rest) (reverse xs) out out' end v w'))

pub told_walked : (cs : List Clause) (e : Environment) (c : Context) (first stack out : List Radix) → stack ≡ [] → ((end : List Radix) → Walks cs e c (reverse stack) out end → Walks cs e c first [] end) → Walks cs e c first [] out
told_walked cs e c first stack out es so = so out (subst (λ xs. Walks cs e c xs out out) (ap reverse (sym es)) (ch.walked out))

-- how many parents a radix has at most
abbrev pub ancestor_count : List Structure → ℕ
ancestor_count [] = 0
ancestor_count (x ∷ xs) = length x.ancestors + ancestor_count xs

abbrev pub parent_count : Environment → ℕ
parent_count e = length e.modes + ancestor_count e.structures

find_step : (s : Sym) (y : Structure) (ys : List Structure) (x : Structure) → structure_of (y ∷ ys) s ≡ Some x → (y ≡ x) ⊎ (structure_of ys s ≡ Some x)
find_step s y ys x h = tested (is_structure s y) refl
  where
    tested : (b : Bool) → is_structure s y ≡ b → (y ≡ x) ⊎ (structure_of ys s ≡ Some x)
    tested true e = inl (some-inj y x (sym (ap (λ (c : Bool). if c then Some y else structure_of ys s) e) ∙ h))
    tested false e = inr (sym (ap (λ (c : Bool). if c then Some y else structure_of ys s) e) ∙ h)

few_ancestors : (all : List Structure) (s : Sym) (x : Structure) → structure_of all s ≡ Some x → length x.ancestors ≤ ancestor_count all
few_ancestors [] s x h = absurd (none_some x h)
few_ancestors (y ∷ ys) s x h =
    either (find_step s y ys x h)
    (λ e. let l : length x.ancestors ≡ length y.ancestors = ap (λ (z : Structure). length z.ancestors) (sym e) in omega (arith, l))
    (λ k. let le : length x.ancestors ≤ ancestor_count ys = few_ancestors ys s x k in omega (arith, le))

length-map : {A B : Type 0} (f : A → B) (xs : List A) → length (map f xs) ≡ length xs
length-map f [] = refl
length-map f (x ∷ xs) = ap suc (length-map f xs)

few_given : (cs : List Clause) (ks : List (Option Constant)) (all : List Structure) (r : Radix) (xs : List Radix) → AncestorsGive cs ks all r xs → length xs ≤ ancestor_count all
few_given cs ks all r xs (st.of_no_structure h) = omega arith
few_given cs ks all r xs (st.unfit_loci x h k) = omega arith
few_given cs ks all r xs (st.of_ancestors x h k) =
    let a : length (map (radix_at r.args) x.ancestors) ≡ length x.ancestors = length-map (radix_at r.args) x.ancestors in
    let b : length x.ancestors ≤ ancestor_count all = few_ancestors all r.sym x h in
    omega (arith, a, b)

one_at_most : (cs : List Clause) (ks : List (Option Constant)) (s : Sym) (args : List Term) (r : Row) (xs : List Radix) → RowAdds cs ks s args r xs → length xs ≤ 1
one_at_most cs ks s args r xs (rows.of_other h) = omega arith
one_at_most cs ks s args r xs (rows.of_none h k) = omega arith
one_at_most cs ks s args r xs (rows.of_one x h k) = omega arith

few_rows : (cs : List Clause) (ks : List (Option Constant)) (s : Sym) (args : List Term) (rs : List Row) (xs : List Radix) → RowsAdd cs ks s args rs xs → length xs ≤ length rs
few_rows cs ks s args rs xs rows.no_rows = omega arith
few_rows cs ks s args rs xs (rows.and_row r others ys zs h k) =
    let a : length ys ≤ 1 = one_at_most cs ks s args r ys h in
    let b : length zs ≤ length others = few_rows cs ks s args others zs k in
    let l : length (ys ++ zs) ≡ length ys + length zs = length-append ys zs in
    omega (arith, a, b, l)

length-reverse : {A : Type 0} (xs : List A) → length (reverse xs) ≡ length xs
length-reverse [] = refl
length-reverse (x ∷ xs) =
    let a : length (reverse (x ∷ xs)) ≡ length (reverse xs ++ x ∷ []) = ap length (reverse-append (x ∷ []) xs) in
    let b : length (reverse xs ++ x ∷ []) ≡ length (reverse xs) + 1 = length-append (reverse xs) (x ∷ []) in
    let c : length (reverse xs) ≡ length xs = length-reverse xs in
    omega (arith, a, b, c)

few_parents : (cs : List Clause) (e : Environment) (c : Context) (r : Radix) (xs : List Radix) → Parents cs e c r xs → length xs ≤ parent_count e
few_parents cs e c r xs (ch.of_mode ys h k) =
    let a : length (reverse ys) ≡ length ys = length-reverse ys in
    let b : length ys ≤ length e.modes = few_rows cs c.constants r.sym r.args e.modes ys k in
    omega (arith, a, b)
few_parents cs e c r xs (ch.of_structure ys h k) = let b : length ys ≤ ancestor_count e.structures = few_given cs c.constants e.structures r ys k in omega (arith, b)
few_parents cs e c r xs (ch.of_other h k) = omega arith

-- the measure of the loop falls
abbrev pub measure : ℕ → ℕ → ℕ → ℕ
measure most out stack = (256 - out) * suc most + stack

lower : (n o p k s : ℕ) → o < 256 → p ≡ suc o → k ≤ n → measure n p (s + k) < measure n o (s + 1)
lower n o p k s lt e le =
    let d : 256 - o ≡ suc (256 - p) = omega (arith, lt, e) in
    let x : (256 - o) * suc n ≡ suc (256 - p) * suc n = ap (λ m. m * suc n) d in
    let y : suc (256 - p) * suc n ≡ (256 - p) * suc n + suc n = suc-mul (256 - p) (suc n) in
    omega (arith, x, y, le)

within : (n : ℕ) (out : List Radix) (r : Radix) (b : Bool) → nat_le 256 n ≡ b → n ≡ length out → ¬ IsLeftOut out r → length out < 256
within n out r true h e k = absurd (k (ch.full (subst (λ m. 256 ≤ m) e (leb-true 256 n h))))
within n out r false h e k = let lt : n < 256 = leb-false 256 n h in omega (arith, lt, e)

falls : (cs : List Clause) (e : Environment) (c : Context) (out out' ps xs rest : List Radix) (r : Radix) → ps ≡ reverse xs → Visited cs e c out r ps out' → measure (parent_count e) (length out') (length (rest ++ xs)) < measure (parent_count e) (length out) (length (rest ++ r ∷ []))
falls cs e c out out' ps xs rest r ep (ch.left_out h) =
    let n : length (reverse xs) ≡ length xs = length-reverse xs in
    let z : length (reverse xs) ≡ 0 = ap length (sym ep) in
    let a : length (rest ++ xs) ≡ length rest + length xs = length-append rest xs in
    let b : length (rest ++ r ∷ []) ≡ length rest + 1 = length-append rest (r ∷ []) in
    omega (arith, n, z, a, b)
falls cs e c out out' ps xs rest r ep (ch.taken ys n h) =
    let lt : length out < 256 = within (length out) out r (nat_le 256 (length out)) refl refl n in
    let few : length ys ≤ parent_count e = few_parents cs e c r ys h in
    let m : length (reverse xs) ≡ length xs = length-reverse xs in
    let q : length ys ≡ length (reverse xs) = ap length ep in
    let le : length xs ≤ parent_count e = omega (arith, few, m, q) in
    let a : length (rest ++ xs) ≡ length rest + length xs = length-append rest xs in
    let b : length (rest ++ r ∷ []) ≡ length rest + 1 = length-append rest (r ∷ []) in
    let p : length (out ++ r ∷ []) ≡ suc (length out) = length-append out (r ∷ []) ∙ (omega arith) in
    subst (λ k. measure (parent_count e) (length (out ++ r ∷ [])) k < measure (parent_count e) (length out) (length (rest ++ r ∷ []))) (sym a)
    (subst (λ k. measure (parent_count e) (length (out ++ r ∷ [])) (length rest + length xs) < measure (parent_count e) (length out) k) (sym b)
    (lower (parent_count e) (length out) (length (out ++ r ∷ [])) (length xs) (length rest) lt p le))

pub told_smaller : (cs : List Clause) (e : Environment) (c : Context) (stack rest stack' out out' xs : List Radix) (r : Radix) → stack ≡ rest ++ r ∷ [] → Visited cs e c out r (reverse xs) out' → stack' ≡ rest ++ xs → measure (parent_count e) (length out') (length stack') < measure (parent_count e) (length out) (length stack)
told_smaller cs e c stack rest stack' out out' xs r es v ea = rw (es, ea) (falls cs e c out out' (reverse xs) xs rest r refl v)

pub ruleset walk_rules = (told_popped, told_walked, told_smaller)

-- what a chain begins with
pub told_no_radices : (cs : List Clause) (e : Environment) (c : Context) (n : ℕ) (xs : List Radix) → numbered c.constants n ≡ None → xs ≡ [] → Begins cs e c (Const n) (reverse xs)
told_no_radices cs e c n xs h ex = subst (λ (ys : List Radix). Begins cs e c (Const n) (reverse ys)) (sym ex) (ch.no_constant n h)

pub told_declared : (cs : List Clause) (e : Environment) (c : Context) (n : ℕ) (k : Constant) (xs : List Radix) (r : Radix) → numbered c.constants n ≡ Some k → r ≡ k.ty.radix → xs ≡ [] ++ r ∷ [] → Begins cs e c (Const n) (reverse xs)
told_declared cs e c n k xs r h er ex = subst (λ (ys : List Radix). Begins cs e c (Const n) (reverse ys)) (sym (ex ∙ ap (λ q. q ∷ []) er)) (ch.constant n k h)

pub ruleset declared_rules = (told_no_radices, told_declared)

pub told_chain : (cs : List Clause) (e : Environment) (c : Context) (t : Term) (first out one two : List Radix) → Begins cs e c t (reverse first) → Walks cs e c (reverse first) [] out → one ≡ out ++ plain set_mode ∷ [] → two ≡ one ++ plain object_mode ∷ [] → IsChain cs e c t two
told_chain cs e c t first out one two b w e1 e2 =
    let same : two ≡ out ++ plain set_mode ∷ plain object_mode ∷ [] = e2 ∙ (ap (λ xs. xs ++ plain object_mode ∷ []) e1 ∙ append_assoc out (plain set_mode ∷ []) (plain object_mode ∷ [])) in
    subst (IsChain cs e c t) (sym same) (ch.chain_of t (reverse first) out b w)
