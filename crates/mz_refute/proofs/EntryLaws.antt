-- The entries of a table, and its rows.
use Rattle.std.proofs.Common.{◌≡◌, ◌⊎◌, inl, inr, ℕ, zero, suc, List, [], ◌∷◌, ◌++◌, map, length, refl, arith, ap, sym, subst, Bool, true, false}
use Rattle.std.specs.Prelude.{slice_get, slice_index, Some, if◌then◌else◌}
use Rattle.mz_ground.specs.declared.ground_term.GroundTerm.{GroundTerm}
use Rattle.mz_ground.specs.declared.ground_atom.GroundAtom.{GroundAtom}
use Rattle.mz_ground.specs.declared.ground_equation.GroundEquation.{GroundEquation}
use Rattle.mz_match.specs.Heads.{same_head}
use Rattle.mz_match.specs.Table.{rows_of}
use Rattle.mz_match.specs.Rows.{SomeOf}
use Rattle.mz_refute.specs.Entries.{Entry, term_entry, term_entries, sign_entry, atom_entries, equation_entries, rows_for, row_pair, HasEntries}
use Rattle.mz_match.specs.declared.row.Head.{Head}
use Rattle.mz_match.specs.declared.row.Head.TheVariants.{Holds, Fails, Disequal}
use Rattle.mz_match.specs.declared.table.Table.{Table}
use Rattle.mz_refute.proofs.RowLists.{rows_to, rows_back}
use Rattle.mz_match.proofs.SomeLemmas.{some_left, some_right, some_cases, into_map, out_of_map}

-- what the rows with a head are, by the entries
if_first : (P : List ℕ × ℕ → Type 0) (p : List ℕ × ℕ) (ps : List (List ℕ × ℕ)) (b : Bool) → SomeOf P (if b then p ∷ ps else ps) → ((b ≡ true) × P p) ⊎ SomeOf P ps
if_first P p ps true k = elim k [ inl a ↦ inl (refl, a) | inr c ↦ inr c ]
if_first P p ps false k = inr k

pub entries_found : (h : Head) (P : List ℕ × ℕ → Type 0) (es : List Entry) → SomeOf P (rows_for h es) → SomeOf (λ e. (same_head e.head h ≡ true) × P (e.args, e.value)) es
entries_found h P [] k = absurd k
entries_found h P (e ∷ es) k = elim (if_first P (e.args, e.value) (rows_for h es) (same_head e.head h) k) [ inl a ↦ inl a | inr b ↦ inr (entries_found h P es b) ]

one_more : (h : Head) (P : List ℕ × ℕ → Type 0) (e : Entry) (es : List Entry) (b : Bool) → SomeOf P (rows_for h es) → SomeOf P (if b then (e.args, e.value) ∷ rows_for h es else rows_for h es)
one_more h P e es true k = inr k
one_more h P e es false k = k

pub entries_find : (h : Head) (P : List ℕ × ℕ → Type 0) (es : List Entry) → SomeOf (λ e. (same_head e.head h ≡ true) × P (e.args, e.value)) es → SomeOf P (rows_for h es)
entries_find h P [] k = absurd k
entries_find h P (e ∷ es) k =
    elim k [
      | inl a ↦ subst (λ (b : Bool). SomeOf P (if b then (e.args, e.value) ∷ rows_for h es else rows_for h es)) (sym a.0) (inl a.1)
      | inr c ↦ one_more h P e es (same_head e.head h) (entries_find h P es c)
    ]

pub rows_found : (table : Table) (es : List Entry) → HasEntries table es → (h : Head) (P : List ℕ × ℕ → Type 0) → SomeOf (λ r. P (row_pair r)) (rows_of table h) → SomeOf (λ e. (same_head e.head h ≡ true) × P (e.args, e.value)) es
unfolding HasEntries
rows_found table es k h P s = entries_found h P es (rows_to P (map row_pair (rows_of table h)) (rows_for h es) (k h).members (into_map P row_pair (rows_of table h) s))

pub rows_find : (table : Table) (es : List Entry) → HasEntries table es → (h : Head) (P : List ℕ × ℕ → Type 0) → SomeOf (λ e. (same_head e.head h ≡ true) × P (e.args, e.value)) es → SomeOf (λ r. P (row_pair r)) (rows_of table h)
unfolding HasEntries
rows_find table es k h P s = out_of_map P row_pair (rows_of table h) (rows_back P (map row_pair (rows_of table h)) (rows_for h es) (k h).members (entries_find h P es s))

-- what an entry comes from
pub record FromTerm (P : Entry → Type 0) (classes vs : List ℕ) (ts : List GroundTerm) : Type 0 where
  pub place : ℕ
  pub term : GroundTerm
  pub value : ℕ
  pub at : slice_get ts place ≡ Some term
  pub has : slice_get vs place ≡ Some value
  pub fact : P (term_entry classes value term)

pub term_found : (P : Entry → Type 0) (classes vs : List ℕ) (ts : List GroundTerm) → SomeOf P (term_entries classes vs ts) → FromTerm P classes vs ts
term_found P classes [] ts k = absurd k
term_found P classes (v ∷ vs) [] k = absurd k
term_found P classes (v ∷ vs) (t ∷ ts) k =
    elim k [
      | inl a ↦ record { place = zero; term = t; value = v; at = refl; has = refl; fact = a }
      | inr b ↦ let x = term_found P classes vs ts b in record { place = suc x.place; term = x.term; value = x.value; at = x.at; has = x.has; fact = x.fact }
    ]

pub term_find : (P : Entry → Type 0) (classes vs : List ℕ) (ts : List GroundTerm) (i : ℕ) (t : GroundTerm) (v : ℕ) → slice_get ts i ≡ Some t → slice_get vs i ≡ Some v → P (term_entry classes v t) → SomeOf P (term_entries classes vs ts)
term_find P classes [] ts i t v a b k = cc
term_find P classes (w ∷ vs) [] i t v a b k = cc
term_find P classes (w ∷ vs) (u ∷ ts) zero t v a b k =
    let p : u ≡ t = cc in
    let q : w ≡ v = cc in
    inl (subst (λ (x : GroundTerm). P (term_entry classes w x)) (sym p) (subst (λ (x : ℕ). P (term_entry classes x t)) (sym q) k))
term_find P classes (w ∷ vs) (u ∷ ts) (suc i) t v a b k = inr (term_find P classes vs ts i t v a b k)

-- of an atom
abbrev pub holds_entry : List ℕ → GroundAtom → Entry
holds_entry classes a = record { head = Holds a.sym; args = map (slice_index classes) a.args; value = 0 }

abbrev pub fails_entry : List ℕ → GroundAtom → Entry
fails_entry classes a = record { head = Fails a.sym; args = map (slice_index classes) a.args; value = 0 }

sign_found : (P : Entry → Type 0) (b : Bool) (h : Head) (args : List ℕ) → SomeOf P (sign_entry b h args) → (b ≡ true) × P (record { head = h; args = args; value = 0 })
sign_found P true h args k = elim k [ inl a ↦ (refl, a) | inr c ↦ absurd c ]
sign_found P false h args k = absurd k

sign_find : (P : Entry → Type 0) (b : Bool) (h : Head) (args : List ℕ) → b ≡ true → P (record { head = h; args = args; value = 0 }) → SomeOf P (sign_entry b h args)
sign_find P true h args e k = inl k
sign_find P false h args e k = cc

pub record FromAtom (P : Entry → Type 0) (classes : List ℕ) (ps ns : List Bool) (os : List GroundAtom) : Type 0 where
  pub place : ℕ
  pub atom : GroundAtom
  pub at : slice_get os place ≡ Some atom
  pub fact : ((slice_get ps place ≡ Some true) × P (holds_entry classes atom)) ⊎ ((slice_get ns place ≡ Some true) × P (fails_entry classes atom))

pub atom_found : (P : Entry → Type 0) (classes : List ℕ) (ps ns : List Bool) (os : List GroundAtom) → SomeOf P (atom_entries classes ps ns os) → FromAtom P classes ps ns os
atom_found P classes [] ns os k = absurd k
atom_found P classes (p ∷ ps) [] os k = absurd k
atom_found P classes (p ∷ ps) (n ∷ ns) [] k = absurd k
atom_found P classes (p ∷ ps) (n ∷ ns) (a ∷ os) k =
    let args : List ℕ = map (slice_index classes) a.args in
    elim (some_cases P (sign_entry p (Holds a.sym) args ++ sign_entry n (Fails a.sym) args) (atom_entries classes ps ns os) k) [
      | inl x ↦ elim (some_cases P (sign_entry p (Holds a.sym) args) (sign_entry n (Fails a.sym) args) x) [
        | inl y ↦ let z = sign_found P p (Holds a.sym) args y in record { place = zero; atom = a; at = refl; fact = inl (ap (λ b. Some b) z.0, z.1) }
        | inr y ↦ let z = sign_found P n (Fails a.sym) args y in record { place = zero; atom = a; at = refl; fact = inr (ap (λ b. Some b) z.0, z.1) }
      ]
      | inr x ↦ let y = atom_found P classes ps ns os x in record { place = suc y.place; atom = y.atom; at = y.at; fact = y.fact }
    ]

bool_injective : (b c : Bool) → Some b ≡ Some c → b ≡ c
bool_injective b c e = cc

pub atom_find : (P : Entry → Type 0) (classes : List ℕ) (ps ns : List Bool) (os : List GroundAtom) (k : ℕ) (a : GroundAtom) → length ps ≡ length os → length ns ≡ length os → slice_get os k ≡ Some a → ((slice_get ps k ≡ Some true) × P (holds_entry classes a)) ⊎ ((slice_get ns k ≡ Some true) × P (fails_entry classes a)) → SomeOf P (atom_entries classes ps ns os)
atom_find P classes [] ns [] k a l m x y = cc
atom_find P classes [] ns (b ∷ os) k a l m x y = absurd (omega (arith, l))
atom_find P classes (p ∷ ps) [] [] k a l m x y = cc
atom_find P classes (p ∷ ps) [] (b ∷ os) k a l m x y = absurd (omega (arith, m))
atom_find P classes (p ∷ ps) (n ∷ ns) [] k a l m x y = cc
atom_find P classes (p ∷ ps) (n ∷ ns) (b ∷ os) zero a l m x y =
    let q : b ≡ a = cc in
    let args : List ℕ = map (slice_index classes) b.args in
    let here : SomeOf P (sign_entry p (Holds b.sym) args ++ sign_entry n (Fails b.sym) args) =
    elim y [
      | inl z ↦ some_left P (sign_entry p (Holds b.sym) args) (sign_entry n (Fails b.sym) args) (sign_find P p (Holds b.sym) args (bool_injective p true z.0) (subst (λ (c : GroundAtom). P (holds_entry classes c)) (sym q) z.1))
      | inr z ↦ some_right P (sign_entry p (Holds b.sym) args) (sign_entry n (Fails b.sym) args) (sign_find P n (Fails b.sym) args (bool_injective n true z.0) (subst (λ (c : GroundAtom). P (fails_entry classes c)) (sym q) z.1))
    ] in
    some_left P (sign_entry p (Holds b.sym) args ++ sign_entry n (Fails b.sym) args) (atom_entries classes ps ns os) here
atom_find P classes (p ∷ ps) (n ∷ ns) (b ∷ os) (suc k) a l m x y =
    let args : List ℕ = map (slice_index classes) b.args in
    some_right P (sign_entry p (Holds b.sym) args ++ sign_entry n (Fails b.sym) args) (atom_entries classes ps ns os) (atom_find P classes ps ns os k a (omega (arith, l)) (omega (arith, m)) x y)

-- of an equation
abbrev pub differ_entry : List ℕ → GroundEquation → Entry
differ_entry classes e = record { head = Disequal; args = slice_index classes e.left ∷ slice_index classes e.right ∷ []; value = 0 }

pub record FromEquation (P : Entry → Type 0) (classes : List ℕ) (bs : List Bool) (es : List GroundEquation) : Type 0 where
  pub place : ℕ
  pub equation : GroundEquation
  pub at : slice_get es place ≡ Some equation
  pub has : slice_get bs place ≡ Some true
  pub fact : P (differ_entry classes equation)

pub equation_found : (P : Entry → Type 0) (classes : List ℕ) (bs : List Bool) (es : List GroundEquation) → SomeOf P (equation_entries classes bs es) → FromEquation P classes bs es
equation_found P classes [] es k = absurd k
equation_found P classes (b ∷ bs) [] k = absurd k
equation_found P classes (b ∷ bs) (e ∷ es) k =
    let args : List ℕ = slice_index classes e.left ∷ slice_index classes e.right ∷ [] in
    elim (some_cases P (sign_entry b Disequal args) (equation_entries classes bs es) k) [
      | inl x ↦ let z = sign_found P b Disequal args x in record { place = zero; equation = e; at = refl; has = ap (λ c. Some c) z.0; fact = z.1 }
      | inr x ↦ let y = equation_found P classes bs es x in record { place = suc y.place; equation = y.equation; at = y.at; has = y.has; fact = y.fact }
    ]

pub equation_find : (P : Entry → Type 0) (classes : List ℕ) (bs : List Bool) (es : List GroundEquation) (k : ℕ) (e : GroundEquation) → slice_get es k ≡ Some e → slice_get bs k ≡ Some true → P (differ_entry classes e) → SomeOf P (equation_entries classes bs es)
equation_find P classes [] es k e x y z = cc
equation_find P classes (b ∷ bs) [] k e x y z = cc
equation_find P classes (b ∷ bs) (d ∷ es) zero e x y z =
    let q : d ≡ e = cc in
    some_left P (sign_entry b Disequal (slice_index classes d.left ∷ slice_index classes d.right ∷ [])) (equation_entries classes bs es)
    (sign_find P b Disequal (slice_index classes d.left ∷ slice_index classes d.right ∷ []) (bool_injective b true y) (subst (λ (c : GroundEquation). P (differ_entry classes c)) (sym q) z))
equation_find P classes (b ∷ bs) (d ∷ es) (suc k) e x y z =
    some_right P (sign_entry b Disequal (slice_index classes d.left ∷ slice_index classes d.right ∷ [])) (equation_entries classes bs es) (equation_find P classes bs es k e x y z)
