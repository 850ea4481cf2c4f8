-- A table with the entries of facts counts them.
use Rattle.std.proofs.Common.{◌≡◌, ◌<◌, ◌+◌, ◌⊎◌, inl, inr, ℕ, zero, suc, List, [], ◌∷◌, ◌++◌, map, length, refl, arith, ap, sym, ◌∙◌, subst, Bool, true, false}
use Rattle.std.specs.Prelude.{slice_get, slice_index, slice_index_or, Some, Contains, AllPairs, ◌≢◌, ◌↔◌, ◌&&◌, if◌then◌else◌}
use Rattle.mz_logic.specs.declared.sym.Sym.{Sym}
use Rattle.mz_logic.specs.Sym.{same_sym}
use Rattle.mz_logic.specs.Term.{Term}
use Rattle.mz_logic.specs.declared.literal.Literal.TheVariants.{Atom, Eq}
use Rattle.mz_logic.specs.declared.disjunct.Disjunct.{Disjunct}
use Rattle.mz_ground.specs.declared.clause.Clause.{Clause}
use Rattle.mz_ground.specs.declared.ground_part.Ground.{Ground}
use Rattle.mz_ground.specs.declared.ground_term.GroundTerm.{GroundTerm}
use Rattle.mz_ground.specs.declared.ground_term.GroundTerm.TheVariants as node
use Rattle.mz_ground.specs.declared.ground_atom.GroundAtom.{GroundAtom}
use Rattle.mz_ground.specs.declared.ground_equation.GroundEquation.{GroundEquation}
use Rattle.mz_ground.specs.GroundExpression.{AtomExpression, EquationExpression}
use Rattle.mz_ground.specs.Ground.{ground_terms, term_at, atom_expression, equation_expression}
use Rattle.mz_ground.specs.Facts.{Fact}
use Rattle.mz_refute.specs.Counted.{IsCount}
use Rattle.mz_refute.specs.Work.{IsSigned, IsDisequal}
use Rattle.mz_refute.specs.Entries.{Entry, term_entry, term_entries, sign_entry, atom_entries, equation_entries, rows_for, row_pair, HasEntries}
use Rattle.mz_refute.specs.HoldsFacts.{HoldsFacts, entries_of}
use Rattle.mz_match.specs.Heads.{same_head}
use Rattle.mz_match.specs.Rows.{SomeOf}
use Rattle.mz_match.specs.Table.{count_of}
use Rattle.mz_refute.specs.Tabled.{IsCounted}
use Rattle.mz_match.specs.declared.row.Head.{Head}
use Rattle.mz_match.specs.declared.row.Head.TheVariants.{Constant, Functor, Holds, Fails, Disequal}
use Rattle.mz_match.specs.declared.table.Table.{Table}
use Rattle.mz_match.proofs.CongruentLemmas.{and_cases, and_true}
use Rattle.mz_match.proofs.SymbolLaws.{same_sym-true, sym-same}
use Rattle.mz_refute.proofs.TableDown.{some_in}
use Rattle.mz_refute.proofs.RefutedUp.{some_of_member}
use Rattle.mz_refute.proofs.ListLaws.{get_member, get_map, distinct_places, distinct_rest}
use Rattle.mz_refute.proofs.PlaceLaws.{ground_length, ground_has, has_ground, has_equation}
use Rattle.mz_refute.proofs.TabledLaws.{fact_atom, atom_place, equation_place}

-- the images of the members with the flag that pass the test
abbrev picked : {X Y : Type 0} → (X → Y) → (X → Bool) → List Bool → List X → List Y
picked f q [] xs = []
picked f q (b ∷ bs) [] = []
picked f q (b ∷ bs) (x ∷ xs) = if b && q x then f x ∷ picked f q bs xs else picked f q bs xs

record Pick (X Y : Type 0) (f : X → Y) (q : X → Bool) (bs : List Bool) (xs : List X) (Q : Y → Type 0) : Type 0 where
  place : ℕ
  member : X
  at : slice_get xs place ≡ Some member
  has : slice_get bs place ≡ Some true
  kept : q member ≡ true
  fact : Q (f member)

if_cases : {Y : Type 0} (Q : Y → Type 0) (y : Y) (ys : List Y) (b : Bool) → SomeOf Q (if b then y ∷ ys else ys) → ((b ≡ true) × Q y) ⊎ SomeOf Q ys
if_cases Q y ys true k = elim k [ inl a ↦ inl (refl, a) | inr c ↦ inr c ]
if_cases Q y ys false k = inr k

if_more : {Y : Type 0} (Q : Y → Type 0) (y : Y) (ys : List Y) (b : Bool) → SomeOf Q ys → SomeOf Q (if b then y ∷ ys else ys)
if_more Q y ys true k = inr k
if_more Q y ys false k = k

if_here : {Y : Type 0} (Q : Y → Type 0) (y : Y) (ys : List Y) (b : Bool) → b ≡ true → Q y → SomeOf Q (if b then y ∷ ys else ys)
if_here Q y ys true e k = inl k
if_here Q y ys false e k = cc

picked_found : {X Y : Type 0} (f : X → Y) (q : X → Bool) (bs : List Bool) (xs : List X) (Q : Y → Type 0) → SomeOf Q (picked f q bs xs) → Pick X Y f q bs xs Q
picked_found f q [] xs Q k = absurd k
picked_found f q (b ∷ bs) [] Q k = absurd k
picked_found f q (b ∷ bs) (x ∷ xs) Q k =
    elim (if_cases Q (f x) (picked f q bs xs) (b && q x) k) [
      | inl a ↦ let e = and_cases b (q x) a.0 in record { place = zero; member = x; at = refl; has = ap (λ c. Some c) e.0; kept = e.1; fact = a.1 }
      | inr a ↦ let r = picked_found f q bs xs Q a in record { place = suc r.place; member = r.member; at = r.at; has = r.has; kept = r.kept; fact = r.fact }
    ]

move : {Y : Type 0} (Q : Y → Type 0) (x y : Y) → x ≡ y → Q x → Q y
move Q x y e k = subst Q e k

flag_is : (b c : Bool) → Some b ≡ Some c → b ≡ c
flag_is b c e = cc

picked_find : {X Y : Type 0} (f : X → Y) (q : X → Bool) (bs : List Bool) (xs : List X) (Q : Y → Type 0) (k : ℕ) (x : X) → slice_get xs k ≡ Some x → slice_get bs k ≡ Some true → q x ≡ true → Q (f x) → SomeOf Q (picked f q bs xs)
picked_find f q [] xs Q k x a b c r = cc
picked_find f q (p ∷ bs) [] Q k x a b c r = cc
picked_find f q (p ∷ bs) (y ∷ xs) Q zero x a b c r =
    let e : y ≡ x = cc in
    if_here Q (f y) (picked f q bs xs) (p && q y) (and_true p (q y) (flag_is p true b) (ap q e ∙ c)) (move Q (f x) (f y) (ap f (sym e)) r)
picked_find f q (p ∷ bs) (y ∷ xs) Q (suc k) x a b c r = if_more Q (f y) (picked f q bs xs) (p && q y) (picked_find f q bs xs Q k x a b c r)

or_any : {X : Type 0} (xs : List X) (j : ℕ) (d e : X) → j < length xs → slice_index_or xs j d ≡ slice_index_or xs j e
or_any [] j d e h = absurd (omega arith)
or_any (x ∷ xs) zero d e h = refl
or_any (x ∷ xs) (suc j) d e h = or_any xs j d e (omega arith)

distinct_cons : {X : Type 0} (x : X) (xs : List X) → ((y : X) → Contains xs y → x ≡ y → ⊥) → AllPairs (λ (y z : X). y ≢ z) xs → AllPairs (λ (y z : X). y ≢ z) (x ∷ xs)
distinct_cons x xs f h i zero d lt le = absurd (omega (arith, lt))
distinct_cons x xs f h zero (suc j) d lt le = f (slice_index_or xs j d) (j, omega (arith, le), or_any xs j (slice_index_or xs j d) d (omega (arith, le)))
distinct_cons x xs f h (suc i) (suc j) d lt le = h i j d (omega (arith, lt)) (omega (arith, le))

if_distinct : {Y : Type 0} (y : Y) (ys : List Y) (b : Bool) → (b ≡ true → (z : Y) → Contains ys z → y ≡ z → ⊥) → AllPairs (λ (u v : Y). u ≢ v) ys → AllPairs (λ (u v : Y). u ≢ v) (if b then y ∷ ys else ys)
if_distinct y ys true f h = distinct_cons y ys (f refl) h
if_distinct y ys false f h = h

picked_distinct : {X Y Z : Type 0} (f : X → Y) (q : X → Bool) (c : X → Z) (bs : List Bool) (xs : List X) → AllPairs (λ (u v : Z). u ≢ v) (map c xs) → ((x y : X) → q x ≡ true → q y ≡ true → f x ≡ f y → c x ≡ c y) → AllPairs (λ (u v : Y). u ≢ v) (picked f q bs xs)
picked_distinct f q c [] xs h e = λ i j d lt le. absurd (omega (arith, le))
picked_distinct f q c (b ∷ bs) [] h e = λ i j d lt le. absurd (omega (arith, le))
picked_distinct f q c (b ∷ bs) (x ∷ xs) h e =
    if_distinct (f x) (picked f q bs xs) (b && q x)
    (λ k z m l.
    let s = picked_found f q bs xs (λ y. y ≡ z) (some_of_member (λ y. y ≡ z) (picked f q bs xs) z m refl) in
    let w = e x s.member (and_cases b (q x) k).1 s.kept (l ∙ sym s.fact) in
    distinct_places (c x ∷ map c xs) zero (suc s.place) (c x) h refl (get_map c xs s.place s.member s.at ∙ ap (λ y. Some y) (sym w)) (omega arith))
    (picked_distinct f q c bs xs (distinct_rest (c x) (map c xs) h) e)

member_of : {X : Type 0} (xs : List X) (x : X) → SomeOf (λ y. y ≡ x) xs → Contains xs x
member_of xs x k = let s = some_in (λ y. y ≡ x) xs k in move (Contains xs) s.0 x s.1.1 s.1.0

-- how many rows entries give
abbrev count_for : Head → List Entry → ℕ
count_for h es = length (rows_for h es)

if_length : {X : Type 0} (b : Bool) (x : X) (xs : List X) → length (if b then x ∷ xs else xs) ≡ (if b then 1 else 0) + length xs
if_length true x xs = omega arith
if_length false x xs = omega arith

count-append : (h : Head) (ds es : List Entry) → count_for h (ds ++ es) ≡ count_for h ds + count_for h es
count-append h [] es = omega arith
count-append h (d ∷ ds) es =
    let x = if_length {X = List ℕ × ℕ} (same_head d.head h) (d.args, d.value) (rows_for h (ds ++ es)) in
    let y = if_length {X = List ℕ × ℕ} (same_head d.head h) (d.args, d.value) (rows_for h ds) in
    omega (arith, x, y, count-append h ds es)

-- no term has a row of a fact
abbrev IsFactHead : Head → Type 0
IsFactHead (Constant n) = ⊥
IsFactHead (Functor s) = ⊥
IsFactHead (Holds s) = Unit {0}
IsFactHead (Fails s) = Unit {0}
IsFactHead Disequal = Unit {0}

term_other : (classes : List ℕ) (v : ℕ) (e : GroundTerm) (h : Head) → IsFactHead h → same_head (term_entry classes v e).head h ≡ false
term_other classes v e (Constant n) f = absurd f
term_other classes v e (Functor s) f = absurd f
term_other classes v (node.Const n) (Holds s) f = refl
term_other classes v (node.App r args) (Holds s) f = refl
term_other classes v (node.Const n) (Fails s) f = refl
term_other classes v (node.App r args) (Fails s) f = refl
term_other classes v (node.Const n) Disequal f = refl
term_other classes v (node.App r args) Disequal f = refl

if_none : {X : Type 0} (b : Bool) (x : X) (xs : List X) → b ≡ false → length (if b then x ∷ xs else xs) ≡ length xs
if_none b x xs e = rw e refl

count_terms : (h : Head) → IsFactHead h → (classes vs : List ℕ) (ts : List GroundTerm) → count_for h (term_entries classes vs ts) ≡ 0
count_terms h f classes [] ts = refl
count_terms h f classes (v ∷ vs) [] = refl
count_terms h f classes (v ∷ vs) (t ∷ ts) =
    if_none {X = List ℕ × ℕ} (same_head (term_entry classes v t).head h) ((term_entry classes v t).args, (term_entry classes v t).value) (rows_for h (term_entries classes vs ts)) (term_other classes v t h f)
    ∙ count_terms h f classes vs ts

-- the rows of a flag
flag_count : (b : Bool) (k h : Head) (args : List ℕ) → count_for h (sign_entry b k args) ≡ (if b && same_head k h then 1 else 0)
flag_count true k h args = let x = if_length {X = List ℕ × ℕ} (same_head k h) (args, 0) [] in omega (arith, x)
flag_count false k h args = refl

count_for-no_flag : (b : Bool) (k h : Head) (args : List ℕ) → same_head k h ≡ false → count_for h (sign_entry b k args) ≡ 0
count_for-no_flag true k h args e = if_none {X = List ℕ × ℕ} (same_head k h) (args, 0) [] e
count_for-no_flag false k h args e = refl

picked_length : {X Y : Type 0} (f : X → Y) (q : X → Bool) (b : Bool) (bs : List Bool) (x : X) (xs : List X) → length (picked f q (b ∷ bs) (x ∷ xs)) ≡ (if b && q x then 1 else 0) + length (picked f q bs xs)
picked_length f q b bs x xs = if_length (b && q x) (f x) (picked f q bs xs)

abbrev of_symbol : Sym → GroundAtom → Bool
of_symbol s a = same_sym a.sym s

abbrev any_equation : GroundEquation → Bool
any_equation e = true

abbrev atom_terms : List Term → GroundAtom → List Term
atom_terms ts a = map (term_at ts) a.args

abbrev equation_terms : List Term → GroundEquation → Term × Term
equation_terms ts e = (term_at ts e.left, term_at ts e.right)

picked_none : {X Y : Type 0} (f : X → Y) (bs : List Bool) (xs : List X) → length (picked f (λ x. false) bs xs) ≡ 0
picked_none f [] xs = refl
picked_none f (b ∷ bs) [] = refl
picked_none f (true ∷ bs) (x ∷ xs) = picked_none f bs xs
picked_none f (false ∷ bs) (x ∷ xs) = picked_none f bs xs

count_atoms : {Y : Type 0} (f : GroundAtom → Y) (h : Head) (classes : List ℕ) (ps ns : List Bool) (os : List GroundAtom) → length ps ≡ length os → length ns ≡ length os → count_for h (atom_entries classes ps ns os) ≡ length (picked f (λ a. same_head (Holds a.sym) h) ps os) + length (picked f (λ a. same_head (Fails a.sym) h) ns os)
count_atoms f h classes [] [] os l m = omega arith
count_atoms f h classes [] (n ∷ ns) [] l m = omega arith
count_atoms f h classes [] (n ∷ ns) (a ∷ os) l m = absurd (omega (arith, l))
count_atoms f h classes (p ∷ ps) [] [] l m = omega arith
count_atoms f h classes (p ∷ ps) [] (a ∷ os) l m = absurd (omega (arith, m))
count_atoms f h classes (p ∷ ps) (n ∷ ns) [] l m = omega arith
count_atoms f h classes (p ∷ ps) (n ∷ ns) (a ∷ os) l m =
    let args : List ℕ = map (slice_index classes) a.args in
    let x = count-append h (sign_entry p (Holds a.sym) args ++ sign_entry n (Fails a.sym) args) (atom_entries classes ps ns os) in
    let y = count-append h (sign_entry p (Holds a.sym) args) (sign_entry n (Fails a.sym) args) in
    let z = flag_count p (Holds a.sym) h args in
    let w = flag_count n (Fails a.sym) h args in
    let u = picked_length f (λ b. same_head (Holds b.sym) h) p ps a os in
    let v = picked_length f (λ b. same_head (Fails b.sym) h) n ns a os in
    omega (arith, x, y, z, w, u, v, count_atoms f h classes ps ns os (omega (arith, l)) (omega (arith, m)))

no_equations : (h : Head) → same_head Disequal h ≡ false → (classes : List ℕ) (bs : List Bool) (es : List GroundEquation) → count_for h (equation_entries classes bs es) ≡ 0
no_equations h f classes [] es = refl
no_equations h f classes (b ∷ bs) [] = refl
no_equations h f classes (b ∷ bs) (e ∷ es) =
    let args : List ℕ = slice_index classes e.left ∷ slice_index classes e.right ∷ [] in
    let x = count-append h (sign_entry b Disequal args) (equation_entries classes bs es) in
    omega (arith, x, count_for-no_flag b Disequal h args f, no_equations h f classes bs es)

count_differ : (ts : List Term) (classes : List ℕ) (bs : List Bool) (es : List GroundEquation) → count_for Disequal (equation_entries classes bs es) ≡ length (picked (equation_terms ts) any_equation bs es)
count_differ ts classes [] es = refl
count_differ ts classes (b ∷ bs) [] = refl
count_differ ts classes (b ∷ bs) (e ∷ es) =
    let args : List ℕ = slice_index classes e.left ∷ slice_index classes e.right ∷ [] in
    let x = count-append Disequal (sign_entry b Disequal args) (equation_entries classes bs es) in
    let z = flag_count b Disequal Disequal args in
    let u = picked_length (equation_terms ts) any_equation b bs e es in
    omega (arith, x, z, u, count_differ ts classes bs es)

rows_count : (table : Table) (es : List Entry) → HasEntries table es → (h : Head) → count_of table h ≡ count_for h es
unfolding HasEntries
rows_count table es k h = (k h).number

all_counts : (h : Head) (g : Ground) (classes : List ℕ) (positive negative disequal : List Bool) → IsFactHead h → count_for h (entries_of g classes positive negative disequal) ≡ count_for h (atom_entries classes positive negative g.atoms) + count_for h (equation_entries classes disequal g.equations)
all_counts h g classes positive negative disequal f =
    let x = count-append h (term_entries classes classes g.terms) (atom_entries classes positive negative g.atoms ++ equation_entries classes disequal g.equations) in
    let y = count-append h (atom_entries classes positive negative g.atoms) (equation_entries classes disequal g.equations) in
    omega (arith, x, y, count_terms h f classes classes g.terms)

one_atom : (ts : List Term) (s : Sym) (a b : GroundAtom) → of_symbol s a ≡ true → of_symbol s b ≡ true → atom_terms ts a ≡ atom_terms ts b → atom_expression ts a ≡ atom_expression ts b
one_atom ts s a b p q e =
    let x : a.sym ≡ s = same_sym-true a.sym s p in
    let y : b.sym ≡ s = same_sym-true b.sym s q in
    λ i. AtomExpression ((x ∙ sym y) i) (e i)

one_equation : (ts : List Term) (a b : GroundEquation) → any_equation a ≡ true → any_equation b ≡ true → equation_terms ts a ≡ equation_terms ts b → equation_expression ts a ≡ equation_expression ts b
one_equation ts a b p q e = λ i. EquationExpression ((e i).0) ((e i).1)

-- the flags are those of the facts with the sign
abbrev AreFlags : Disjunct → List Clause → Ground → Bool → List Bool → Type 0
AreFlags d cs g sign flags = (k : ℕ) (a : GroundAtom) → slice_get g.atoms k ≡ Some a → ((slice_get flags k ≡ Some true) ↔ Fact d cs (Atom sign a.sym (map (term_at (ground_terms g)) a.args)))

signed_from : (d : Disjunct) (cs : List Clause) (g : Ground) (sign : Bool) (flags : List Bool) → AreFlags d cs g sign flags → (s : Sym) (us : List Term) → Contains (picked (atom_terms (ground_terms g)) (of_symbol s) flags g.atoms) us → IsSigned d cs sign s us
signed_from d cs g sign flags are s us m =
    let p = picked_found (atom_terms (ground_terms g)) (of_symbol s) flags g.atoms (λ y. y ≡ us) (some_of_member (λ y. y ≡ us) (picked (atom_terms (ground_terms g)) (of_symbol s) flags g.atoms) us m refl) in
    let f : Fact d cs (Atom sign p.member.sym (map (term_at (ground_terms g)) p.member.args)) = (are p.place p.member p.at).0 p.has in
    let k : Fact d cs (Atom sign s us) = subst (λ (o : Sym). Fact d cs (Atom sign o us)) (same_sym-true p.member.sym s p.kept) (subst (λ (xs : List Term). Fact d cs (Atom sign p.member.sym xs)) p.fact f) in
    record { ground = fact_atom d cs sign s us k; fact = k }

signed_to : (d : Disjunct) (cs : List Clause) (g : Ground) (classes : List ℕ) (positive negative disequal : List Bool) → HoldsFacts d cs g classes positive negative disequal → (sign : Bool) (flags : List Bool) → AreFlags d cs g sign flags → (s : Sym) (us : List Term) → IsSigned d cs sign s us → Contains (picked (atom_terms (ground_terms g)) (of_symbol s) flags g.atoms) us
signed_to d cs g classes positive negative disequal h sign flags are s us k =
    let a = atom_place d cs g classes positive negative disequal h s us k.ground in
    let f : Fact d cs (Atom sign a.atom.sym (map (term_at (ground_terms g)) a.atom.args)) = subst (λ (o : Sym). Fact d cs (Atom sign o (map (term_at (ground_terms g)) a.atom.args))) (sym a.sym_is) (subst (λ (xs : List Term). Fact d cs (Atom sign s xs)) (sym a.args_are) k.fact) in
    member_of (picked (atom_terms (ground_terms g)) (of_symbol s) flags g.atoms) us
    (picked_find (atom_terms (ground_terms g)) (of_symbol s) flags g.atoms (λ y. y ≡ us) a.place a.atom a.at ((are a.place a.atom a.at).1 f) (sym-same a.atom.sym s a.sym_is) a.args_are)

signed_count : (d : Disjunct) (cs : List Clause) (g : Ground) (classes : List ℕ) (positive negative disequal : List Bool) → HoldsFacts d cs g classes positive negative disequal → (table : Table) → HasEntries table (entries_of g classes positive negative disequal) → (sign : Bool) (flags : List Bool) → AreFlags d cs g sign flags → (s : Sym) (head : Head) → IsFactHead head → same_head Disequal head ≡ false → count_for head (atom_entries classes positive negative g.atoms) ≡ length (picked (atom_terms (ground_terms g)) (of_symbol s) flags g.atoms) → IsCount (IsSigned d cs sign s) (count_of table head)
signed_count d cs g classes positive negative disequal h table k sign flags are s head f e n =
    let x = rows_count table (entries_of g classes positive negative disequal) k head in
    let y = all_counts head g classes positive negative disequal f in
    let z = no_equations head e classes disequal g.equations in
    record {
      values = picked (atom_terms (ground_terms g)) (of_symbol s) flags g.atoms;
      members = λ us. (signed_from d cs g sign flags are s us, signed_to d cs g classes positive negative disequal h sign flags are s us);
      distinct = picked_distinct (atom_terms (ground_terms g)) (of_symbol s) (atom_expression (ground_terms g)) flags g.atoms h.ground.distinct_atoms (one_atom (ground_terms g) s);
      number = omega (arith, x, y, z, n);
    }

holds_count : (d : Disjunct) (cs : List Clause) (g : Ground) (classes : List ℕ) (positive negative disequal : List Bool) → HoldsFacts d cs g classes positive negative disequal → (table : Table) → HasEntries table (entries_of g classes positive negative disequal) → (s : Sym) → IsCount (IsSigned d cs true s) (count_of table (Holds s))
holds_count d cs g classes positive negative disequal h table k s =
    let n : count_for (Holds s) (atom_entries classes positive negative g.atoms) ≡ length (picked (atom_terms (ground_terms g)) (of_symbol s) positive g.atoms) + length (picked (atom_terms (ground_terms g)) (λ a. false) negative g.atoms) = count_atoms (atom_terms (ground_terms g)) (Holds s) classes positive negative g.atoms h.positive_count h.negative_count in
    signed_count d cs g classes positive negative disequal h table k true positive h.holds s (Holds s) tt refl (omega (arith, n, picked_none (atom_terms (ground_terms g)) negative g.atoms))

fails_count : (d : Disjunct) (cs : List Clause) (g : Ground) (classes : List ℕ) (positive negative disequal : List Bool) → HoldsFacts d cs g classes positive negative disequal → (table : Table) → HasEntries table (entries_of g classes positive negative disequal) → (s : Sym) → IsCount (IsSigned d cs false s) (count_of table (Fails s))
fails_count d cs g classes positive negative disequal h table k s =
    let n : count_for (Fails s) (atom_entries classes positive negative g.atoms) ≡ length (picked (atom_terms (ground_terms g)) (λ a. false) positive g.atoms) + length (picked (atom_terms (ground_terms g)) (of_symbol s) negative g.atoms) = count_atoms (atom_terms (ground_terms g)) (Fails s) classes positive negative g.atoms h.positive_count h.negative_count in
    signed_count d cs g classes positive negative disequal h table k false negative h.fails s (Fails s) tt refl (omega (arith, n, picked_none (atom_terms (ground_terms g)) positive g.atoms))

disequal_from : (d : Disjunct) (cs : List Clause) (g : Ground) (classes : List ℕ) (positive negative disequal : List Bool) → HoldsFacts d cs g classes positive negative disequal → (p : Term × Term) → Contains (picked (equation_terms (ground_terms g)) any_equation disequal g.equations) p → IsDisequal d cs p
disequal_from d cs g classes positive negative disequal h p m =
    let x = picked_found (equation_terms (ground_terms g)) any_equation disequal g.equations (λ y. y ≡ p) (some_of_member (λ y. y ≡ p) (picked (equation_terms (ground_terms g)) any_equation disequal g.equations) p m refl) in
    let f : Fact d cs (Eq false (term_at (ground_terms g) x.member.left) (term_at (ground_terms g) x.member.right)) = (h.differ x.place x.member x.at).0 x.has in
    let c : Contains (map (equation_expression (ground_terms g)) g.equations) (equation_expression (ground_terms g) x.member) = get_member (map (equation_expression (ground_terms g)) g.equations) x.place (equation_expression (ground_terms g) x.member) (get_map (equation_expression (ground_terms g)) g.equations x.place x.member x.at) in
    let q : IsDisequal d cs (equation_terms (ground_terms g) x.member) = record { ground = has_equation d cs g h.ground (term_at (ground_terms g) x.member.left) (term_at (ground_terms g) x.member.right) c; fact = f } in
    subst (λ (y : Term × Term). IsDisequal d cs y) x.fact q

disequal_to : (d : Disjunct) (cs : List Clause) (g : Ground) (classes : List ℕ) (positive negative disequal : List Bool) → HoldsFacts d cs g classes positive negative disequal → (p : Term × Term) → IsDisequal d cs p → Contains (picked (equation_terms (ground_terms g)) any_equation disequal g.equations) p
disequal_to d cs g classes positive negative disequal h p k =
    let a = equation_place d cs g classes positive negative disequal h p.0 p.1 k.ground in
    let l : Term = term_at (ground_terms g) a.equation.left in
    let r : Term = term_at (ground_terms g) a.equation.right in
    let f : Fact d cs (Eq false l r) = subst (λ (y : Term). Fact d cs (Eq false y r)) (sym a.left_is) (subst (λ (y : Term). Fact d cs (Eq false p.0 y)) (sym a.right_is) k.fact) in
    member_of (picked (equation_terms (ground_terms g)) any_equation disequal g.equations) p
    (picked_find (equation_terms (ground_terms g)) any_equation disequal g.equations (λ y. y ≡ p) a.place a.equation a.at ((h.differ a.place a.equation a.at).1 f) refl (λ i. (a.left_is i, a.right_is i)))

disequal_count : (d : Disjunct) (cs : List Clause) (g : Ground) (classes : List ℕ) (positive negative disequal : List Bool) → HoldsFacts d cs g classes positive negative disequal → (table : Table) → HasEntries table (entries_of g classes positive negative disequal) → IsCount (IsDisequal d cs) (count_of table Disequal)
disequal_count d cs g classes positive negative disequal h table k =
    let x = rows_count table (entries_of g classes positive negative disequal) k Disequal in
    let y = all_counts Disequal g classes positive negative disequal tt in
    let z : count_for Disequal (atom_entries classes positive negative g.atoms) ≡ length (picked (atom_terms (ground_terms g)) (λ a. false) positive g.atoms) + length (picked (atom_terms (ground_terms g)) (λ a. false) negative g.atoms) = count_atoms (atom_terms (ground_terms g)) Disequal classes positive negative g.atoms h.positive_count h.negative_count in
    let v = picked_none (atom_terms (ground_terms g)) positive g.atoms in
    let w = picked_none (atom_terms (ground_terms g)) negative g.atoms in
    record {
      values = picked (equation_terms (ground_terms g)) any_equation disequal g.equations;
      members = λ p. (disequal_from d cs g classes positive negative disequal h p, disequal_to d cs g classes positive negative disequal h p);
      distinct = picked_distinct (equation_terms (ground_terms g)) any_equation (equation_expression (ground_terms g)) disequal g.equations h.ground.distinct_equations (one_equation (ground_terms g));
      number = omega (arith, x, y, z, v, w, count_differ (ground_terms g) classes disequal g.equations);
    }

pub counted : (d : Disjunct) (cs : List Clause) (g : Ground) (classes : List ℕ) (positive negative disequal : List Bool) → HoldsFacts d cs g classes positive negative disequal → (table : Table) → HasEntries table (entries_of g classes positive negative disequal) → IsCounted d cs (count_of table) (length classes)
counted d cs g classes positive negative disequal h table k =
    record {
      holds = holds_count d cs g classes positive negative disequal h table k;
      fails = fails_count d cs g classes positive negative disequal h table k;
      differ = disequal_count d cs g classes positive negative disequal h table k;
      terms = record { values = (ground_terms g); members = λ t. (has_ground d cs g h.ground t, ground_has d cs g h.ground t); distinct = h.ground.distinct_terms; number = ground_length g ∙ sym h.class_count };
    }
