-- A table with the entries of facts stands for them.
use Rattle.std.proofs.Common.{◌≡◌, ◌<◌, ◌⊎◌, inl, inr, ℕ, zero, suc, List, [], ◌∷◌, ◌++◌, map, length, refl, arith, ap, sym, ◌∙◌, subst, Bool, true, false}
use Rattle.std.specs.Prelude.{slice_get, slice_index, Some, Contains}
use Rattle.mz_logic.specs.declared.sym.Sym.{Sym}
use Rattle.mz_logic.specs.Term.{Term, Terms, Const, App, terms_of}
use Rattle.mz_logic.specs.TermStorage.{terms_of-inj}
use Rattle.mz_logic.specs.declared.literal.Literal.{Literal}
use Rattle.mz_logic.specs.declared.literal.Literal.TheVariants.{Atom, Eq}
use Rattle.mz_logic.specs.declared.disjunct.Disjunct.{Disjunct}
use Rattle.mz_ground.specs.declared.clause.Clause.{Clause}
use Rattle.mz_ground.specs.declared.ground_part.Ground.{Ground}
use Rattle.mz_ground.specs.declared.ground_term.GroundTerm.{GroundTerm}
use Rattle.mz_ground.specs.declared.ground_term.GroundTerm.TheVariants as node
use Rattle.mz_ground.specs.declared.ground_atom.GroundAtom.{GroundAtom}
use Rattle.mz_ground.specs.declared.ground_equation.GroundEquation.{GroundEquation}
use Rattle.mz_ground.specs.GroundExpression.{TermExpression, AtomExpression, EquationExpression}
use Rattle.mz_ground.specs.Layers.{first_constant, earlier, IsGroundTerm, IsGroundExpression, IsGroundLiteral}
use Rattle.mz_ground.specs.Ground.{ground_terms, term_of_entry, term_at, ground_atoms, ground_equations, atom_expression, equation_expression}
use Rattle.mz_ground.specs.Facts.{Fact, given, reflexive, symmetric, transitive, congruent, atom_congruence, reversed, fired}
use Rattle.mz_refute.specs.Entries.{Entry, term_entry, term_entries, atom_entries, equation_entries, row_pair, HasEntries, HaveSameMembers}
use Rattle.mz_refute.specs.HoldsFacts.{HoldsFacts, entries_of}
use Rattle.mz_match.specs.Heads.{same_head}
use Rattle.mz_match.specs.Rows.{SomeOf}
use Rattle.mz_match.specs.Table.{rows_of}
use Rattle.mz_refute.specs.Tabled.{HeadMeans, RowMeans, StandsFor, IsTabled}
use Rattle.mz_refute.specs.TermClass.{class_in}
use Rattle.mz_match.specs.declared.row.Head.{Head}
use Rattle.mz_match.specs.declared.row.Head.TheVariants.{Constant, Functor, Holds, Fails, Disequal}
use Rattle.mz_match.specs.declared.row.Row.{Row}
use Rattle.mz_match.specs.declared.table.Table.{Table}
use Rattle.mz_match.proofs.SomeLemmas.{some_left, some_right, some_cases}
use Rattle.mz_match.proofs.HeadLemmas.{same_head-true, same_head-self}
use Rattle.mz_refute.proofs.ListLaws.{member_at, get_within, get_once, get_index, index_get, get_member, member_get, map_get, map_same, find_place, some_get}
use Rattle.mz_refute.proofs.PlaceLaws.{ground_length, ground_entry, place_term, ground_has, place_ground, atom_has, equation_has, class_at}
use Rattle.mz_refute.proofs.EntryLaws.{rows_found, rows_find, term_found, term_find, holds_entry, fails_entry, atom_found, atom_find, differ_entry, equation_found, equation_find}
use Rattle.mz_refute.proofs.GroundLaws.{equal_ground}
use Rattle.mz_refute.proofs.RefutedUp.{some_of_member}

-- facts of atoms and disequations are of ground ones
atom_fact : (d : Disjunct) (cs : List Clause) (l : Literal) → Fact d cs l → (p : Bool) (s : Sym) (ts : List Term) → l ≡ Atom p s ts → IsGroundExpression d cs (AtomExpression s ts)
atom_fact d cs l (given k c g) p s ts e = subst (λ (x : Literal). IsGroundLiteral d cs x) e g
atom_fact d cs l (reflexive t g) p s ts e = cc
atom_fact d cs l (symmetric t u f) p s ts e = cc
atom_fact d cs l (transitive t u v f g) p s ts e = cc
atom_fact d cs l (congruent r vs us g h k) p s ts e = cc
atom_fact d cs l (atom_congruence q r vs us f g k) p s ts e = subst (λ (x : Literal). IsGroundLiteral d cs x) e g
atom_fact d cs l (reversed t u f) p s ts e = cc
atom_fact d cs l (fired c vs a b k g h i) p s ts e = subst (λ (x : Literal). IsGroundLiteral d cs x) e h

pub fact_atom : (d : Disjunct) (cs : List Clause) (p : Bool) (s : Sym) (ts : List Term) → Fact d cs (Atom p s ts) → IsGroundExpression d cs (AtomExpression s ts)
fact_atom d cs p s ts f = atom_fact d cs (Atom p s ts) f p s ts refl

differ_fact : (d : Disjunct) (cs : List Clause) (l : Literal) → Fact d cs l → (v w : Term) → l ≡ Eq false v w → IsGroundExpression d cs (EquationExpression v w) ⊎ IsGroundExpression d cs (EquationExpression w v)
differ_fact d cs l (given k c g) v w e = inl (subst (λ (x : Literal). IsGroundLiteral d cs x) e g)
differ_fact d cs l (reflexive t g) v w e = cc
differ_fact d cs l (symmetric t u f) v w e = cc
differ_fact d cs l (transitive t u x f g) v w e = cc
differ_fact d cs l (congruent r vs us g h k) v w e = cc
differ_fact d cs l (atom_congruence q r vs us f g k) v w e = cc
differ_fact d cs l (reversed t u f) v w e =
    let p : u ≡ v = cc in
    let q : t ≡ w = cc in
    elim (differ_fact d cs (Eq false t u) f t u refl) [
      | inl a ↦ inr (subst (λ (x : Term). IsGroundExpression d cs (EquationExpression w x)) p (subst (λ (x : Term). IsGroundExpression d cs (EquationExpression x u)) q a))
      | inr a ↦ inl (subst (λ (x : Term). IsGroundExpression d cs (EquationExpression v x)) q (subst (λ (x : Term). IsGroundExpression d cs (EquationExpression x t)) p a))
    ]
differ_fact d cs l (fired c vs a b k g h i) v w e = inl (subst (λ (x : Literal). IsGroundLiteral d cs x) e h)

-- a ground term at its place, with its class
record Place (g : Ground) (classes : List ℕ) (t : Term) : Type 0 where
  place : ℕ
  at : slice_get (ground_terms g) place ≡ Some t
  within : place < length g.terms
  class : class_in (ground_terms g) classes t ≡ slice_index classes place

place_at : (d : Disjunct) (cs : List Clause) (g : Ground) (classes : List ℕ) (positive negative disequal : List Bool) → HoldsFacts d cs g classes positive negative disequal → (i : ℕ) (t : Term) → slice_get (ground_terms g) i ≡ Some t → Place g classes t
place_at d cs g classes positive negative disequal h i t k =
    let lt : i < length g.terms = omega (arith, ground_length g, get_within (ground_terms g) i t k) in
    record { place = i; at = k; within = lt; class = class_at (ground_terms g) classes i t (slice_index classes i) h.ground.distinct_terms k (index_get classes i (omega (arith, lt, h.class_count))) }

place_of : (d : Disjunct) (cs : List Clause) (g : Ground) (classes : List ℕ) (positive negative disequal : List Bool) → HoldsFacts d cs g classes positive negative disequal → (t : Term) → IsGroundTerm d cs t → Place g classes t
place_of d cs g classes positive negative disequal h t k = let m = ground_has d cs g h.ground t k in place_at d cs g classes positive negative disequal h m.0 t (member_get (ground_terms g) t m)

-- equal classes
one_class : (d : Disjunct) (cs : List Clause) (g : Ground) (classes : List ℕ) (positive negative disequal : List Bool) → HoldsFacts d cs g classes positive negative disequal → (t u : Term) → IsGroundTerm d cs t → IsGroundTerm d cs u → class_in (ground_terms g) classes t ≡ class_in (ground_terms g) classes u → Fact d cs (Eq true t u)
one_class d cs g classes positive negative disequal h t u a b e =
    let p = place_of d cs g classes positive negative disequal h t a in
    let q = place_of d cs g classes positive negative disequal h u b in
    let f : Fact d cs (Eq true (term_at (ground_terms g) p.place) (term_at (ground_terms g) q.place)) = (h.equal p.place q.place p.within q.within).0 (sym p.class ∙ e ∙ q.class) in
    subst (λ (x : Term). Fact d cs (Eq true x u)) (place_term d cs g p.place t p.at) (subst (λ (x : Term). Fact d cs (Eq true (term_at (ground_terms g) p.place) x)) (place_term d cs g q.place u q.at) f)

same_class : (d : Disjunct) (cs : List Clause) (g : Ground) (classes : List ℕ) (positive negative disequal : List Bool) → HoldsFacts d cs g classes positive negative disequal → (t u : Term) → Fact d cs (Eq true t u) → class_in (ground_terms g) classes t ≡ class_in (ground_terms g) classes u
same_class d cs g classes positive negative disequal h t u f =
    let x = equal_ground d cs t u f in
    let p = place_of d cs g classes positive negative disequal h t x.0 in
    let q = place_of d cs g classes positive negative disequal h u x.1 in
    let k : Fact d cs (Eq true (term_at (ground_terms g) p.place) (term_at (ground_terms g) q.place)) =
    subst (λ (y : Term). Fact d cs (Eq true y (term_at (ground_terms g) q.place))) (sym (place_term d cs g p.place t p.at)) (subst (λ (y : Term). Fact d cs (Eq true t y)) (sym (place_term d cs g q.place u q.at)) f) in
    p.class ∙ (h.equal p.place q.place p.within q.within).1 k ∙ sym q.class

class_index : (d : Disjunct) (cs : List Clause) (g : Ground) (classes : List ℕ) (positive negative disequal : List Bool) → HoldsFacts d cs g classes positive negative disequal → (k : ℕ) → k < length g.terms → slice_index classes k ≡ class_in (ground_terms g) classes (term_at (ground_terms g) k)
unfolding place_at
class_index d cs g classes positive negative disequal h k lt =
    let m = member_at (ground_terms g) k (omega (arith, lt, ground_length g)) in
    let p = place_at d cs g classes positive negative disequal h k m.member m.at in
    sym (ap (class_in (ground_terms g) classes) (place_term d cs g k m.member m.at) ∙ p.class)

args_classes : (d : Disjunct) (cs : List Clause) (g : Ground) (classes : List ℕ) (positive negative disequal : List Bool) → HoldsFacts d cs g classes positive negative disequal → (args : List ℕ) → ((k : ℕ) → Contains args k → k < length g.terms) → map (slice_index classes) args ≡ map (class_in (ground_terms g) classes) (map (term_at (ground_terms g)) args)
args_classes d cs g classes positive negative disequal h args f = map_same (slice_index classes) (class_in (ground_terms g) classes) (term_at (ground_terms g)) args (λ k m. class_index d cs g classes positive negative disequal h k (f k m))

-- what the entries say
term_means : (d : Disjunct) (cs : List Clause) (g : Ground) (classes : List ℕ) (positive negative disequal : List Bool) → HoldsFacts d cs g classes positive negative disequal → (i : ℕ) (e : GroundTerm) (v : ℕ) → slice_get g.terms i ≡ Some e → slice_get classes i ≡ Some v → HeadMeans d cs (class_in (ground_terms g) classes) (term_entry classes v e).head (term_entry classes v e).args (term_entry classes v e).value
term_means d cs g classes positive negative disequal h i (node.Const n) v k c =
    let t : slice_get (ground_terms g) i ≡ Some (Const n) = ground_entry d cs g h.ground i (node.Const n) k in
    (refl, place_ground d cs g h.ground i (Const n) t, class_at (ground_terms g) classes i (Const n) v h.ground.distinct_terms t c)
term_means d cs g classes positive negative disequal h i (node.App s args) v k c =
    let us : List Term = map (term_at (ground_terms g)) args in
    let t : slice_get (ground_terms g) i ≡ Some (App s (terms_of us)) = ground_entry d cs g h.ground i (node.App s args) k in
    let lt : i < length g.terms = get_within g.terms i (node.App s args) k in (
      us,
      place_ground d cs g h.ground i (App s (terms_of us)) t,
      args_classes d cs g classes positive negative disequal h args (λ j m. omega (arith, lt, h.ground.earlier i j s args k m)),
      class_at (ground_terms g) classes i (App s (terms_of us)) v h.ground.distinct_terms t c,
    )

atom_args : (d : Disjunct) (cs : List Clause) (g : Ground) (classes : List ℕ) (positive negative disequal : List Bool) → HoldsFacts d cs g classes positive negative disequal → (k : ℕ) (a : GroundAtom) → slice_get g.atoms k ≡ Some a → map (slice_index classes) a.args ≡ map (class_in (ground_terms g) classes) (map (term_at (ground_terms g)) a.args)
atom_args d cs g classes positive negative disequal h k a e = args_classes d cs g classes positive negative disequal h a.args (λ j m. h.ground.atoms_within a j (get_member g.atoms k a e) m)

cons-differ_args : (d : Disjunct) (cs : List Clause) (g : Ground) (classes : List ℕ) (positive negative disequal : List Bool) → HoldsFacts d cs g classes positive negative disequal → (k : ℕ) (e : GroundEquation) → slice_get g.equations k ≡ Some e → (slice_index classes e.left ∷ slice_index classes e.right ∷ []) ≡ (class_in (ground_terms g) classes (term_at (ground_terms g) e.left) ∷ class_in (ground_terms g) classes (term_at (ground_terms g) e.right) ∷ [])
cons-differ_args d cs g classes positive negative disequal h k e m =
    let w = h.ground.equations_within e (get_member g.equations k e m) in
    λ i. class_index d cs g classes positive negative disequal h e.left w.0 i ∷ class_index d cs g classes positive negative disequal h e.right w.1 i ∷ []

-- an entry with what it says
record Said (d : Disjunct) (cs : List Clause) (class : Term → ℕ) (Q : Entry → Type 0) : Type 0 where
  entry : Entry
  means : HeadMeans d cs class entry.head entry.args entry.value
  fact : Q entry

said : (d : Disjunct) (cs : List Clause) (g : Ground) (classes : List ℕ) (positive negative disequal : List Bool) → HoldsFacts d cs g classes positive negative disequal → (Q : Entry → Type 0) → SomeOf Q (entries_of g classes positive negative disequal) → Said d cs (class_in (ground_terms g) classes) Q
said d cs g classes positive negative disequal h Q k =
    elim (some_cases Q (term_entries classes classes g.terms) (atom_entries classes positive negative g.atoms ++ equation_entries classes disequal g.equations) k) [
      | inl x ↦
          let y = term_found Q classes classes g.terms x in
          record { entry = term_entry classes y.value y.term; means = term_means d cs g classes positive negative disequal h y.place y.term y.value y.at y.has; fact = y.fact }
      | inr x ↦ elim (some_cases Q (atom_entries classes positive negative g.atoms) (equation_entries classes disequal g.equations) x) [
        | inl y ↦
            let z = atom_found Q classes positive negative g.atoms y in
            elim z.fact [
              | inl w ↦ record { entry = holds_entry classes z.atom; means = (map (term_at (ground_terms g)) z.atom.args, (h.holds z.place z.atom z.at).0 w.0, atom_args d cs g classes positive negative disequal h z.place z.atom z.at); fact = w.1 }
              | inr w ↦ record { entry = fails_entry classes z.atom; means = (map (term_at (ground_terms g)) z.atom.args, (h.fails z.place z.atom z.at).0 w.0, atom_args d cs g classes positive negative disequal h z.place z.atom z.at); fact = w.1 }
            ]
        | inr y ↦
            let z = equation_found Q classes disequal g.equations y in
            record { entry = differ_entry classes z.equation; means = (term_at (ground_terms g) z.equation.left, term_at (ground_terms g) z.equation.right, (h.differ z.place z.equation z.at).0 z.has, cons-differ_args d cs g classes positive negative disequal h z.place z.equation z.at); fact = z.fact }
      ]
    ]

rows_mean : (d : Disjunct) (cs : List Clause) (g : Ground) (classes : List ℕ) (positive negative disequal : List Bool) → HoldsFacts d cs g classes positive negative disequal → (table : Table) → HasEntries table (entries_of g classes positive negative disequal) → (q : Head) (r : Row) → Contains (rows_of table q) r → RowMeans d cs (class_in (ground_terms g) classes) q r
rows_mean d cs g classes positive negative disequal h table k q r m =
    let s = some_of_member (λ x. row_pair x ≡ row_pair r) (rows_of table q) r m refl in
    let e = rows_found table (entries_of g classes positive negative disequal) k q (λ p. p ≡ row_pair r) s in
    let x = said d cs g classes positive negative disequal h (λ e. (same_head e.head q ≡ true) × ((e.args, e.value) ≡ row_pair r)) e in
    let y : HeadMeans d cs (class_in (ground_terms g) classes) q x.entry.args x.entry.value = subst (λ (o : Head). HeadMeans d cs (class_in (ground_terms g) classes) o x.entry.args x.entry.value) (same_head-true x.entry.head q x.fact.0) x.means in
    subst (λ (p : List ℕ × ℕ). HeadMeans d cs (class_in (ground_terms g) classes) q p.0 p.1) x.fact.1 y

-- each ground term and each fact has its row
in_terms : (Q : Entry → Type 0) (g : Ground) (classes : List ℕ) (positive negative disequal : List Bool) → SomeOf Q (term_entries classes classes g.terms) → SomeOf Q (entries_of g classes positive negative disequal)
in_terms Q g classes positive negative disequal k = some_left Q (term_entries classes classes g.terms) (atom_entries classes positive negative g.atoms ++ equation_entries classes disequal g.equations) k

in_atoms : (Q : Entry → Type 0) (g : Ground) (classes : List ℕ) (positive negative disequal : List Bool) → SomeOf Q (atom_entries classes positive negative g.atoms) → SomeOf Q (entries_of g classes positive negative disequal)
in_atoms Q g classes positive negative disequal k = some_right Q (term_entries classes classes g.terms) (atom_entries classes positive negative g.atoms ++ equation_entries classes disequal g.equations) (some_left Q (atom_entries classes positive negative g.atoms) (equation_entries classes disequal g.equations) k)

in_equations : (Q : Entry → Type 0) (g : Ground) (classes : List ℕ) (positive negative disequal : List Bool) → SomeOf Q (equation_entries classes disequal g.equations) → SomeOf Q (entries_of g classes positive negative disequal)
in_equations Q g classes positive negative disequal k = some_right Q (term_entries classes classes g.terms) (atom_entries classes positive negative g.atoms ++ equation_entries classes disequal g.equations) (some_right Q (atom_entries classes positive negative g.atoms) (equation_entries classes disequal g.equations) k)

-- the entry of a ground term
record EntryOf (g : Ground) (classes : List ℕ) (t : Term) : Type 0 where
  place : ℕ
  entry : GroundTerm
  at : slice_get g.terms place ≡ Some entry
  has : slice_get classes place ≡ Some (class_in (ground_terms g) classes t)
  is : term_of_entry (ground_terms g) entry ≡ t

entry_of : (d : Disjunct) (cs : List Clause) (g : Ground) (classes : List ℕ) (positive negative disequal : List Bool) → HoldsFacts d cs g classes positive negative disequal → (t : Term) → IsGroundTerm d cs t → EntryOf g classes t
entry_of d cs g classes positive negative disequal h t k =
    let p = place_of d cs g classes positive negative disequal h t k in
    let m = member_at g.terms p.place p.within in
    record {
      place = p.place;
      entry = m.member;
      at = m.at;
      has = index_get classes p.place (omega (arith, p.within, h.class_count)) ∙ ap (λ v. Some v) (sym p.class);
      is = get_once (ground_terms g) p.place (term_of_entry (ground_terms g) m.member) t (ground_entry d cs g h.ground p.place m.member m.at) p.at;
    }

constant_entry : (ts : List Term) (classes : List ℕ) (v n : ℕ) (e : GroundTerm) → term_of_entry ts e ≡ Const n → (same_head (term_entry classes v e).head (Constant n) ≡ true) × (((term_entry classes v e).args ≡ []) × ((term_entry classes v e).value ≡ v))
constant_entry ts classes v n (node.Const m) e = let q : m ≡ n = cc in (subst (λ (k : ℕ). same_head (Constant m) (Constant k) ≡ true) q (same_head-self (Constant m)), (refl, refl))
constant_entry ts classes v n (node.App s args) e = cc

constants_rows : (d : Disjunct) (cs : List Clause) (g : Ground) (classes : List ℕ) (positive negative disequal : List Bool) → HoldsFacts d cs g classes positive negative disequal → (table : Table) → HasEntries table (entries_of g classes positive negative disequal) → (n : ℕ) → IsGroundTerm d cs (Const n) → SomeOf (λ r. (r.args.items ≡ []) × (r.value ≡ class_in (ground_terms g) classes (Const n))) (rows_of table (Constant n))
constants_rows d cs g classes positive negative disequal h table k n a =
    let e = entry_of d cs g classes positive negative disequal h (Const n) a in
    let v : ℕ = class_in (ground_terms g) classes (Const n) in
    let P : List ℕ × ℕ → Type 0 = λ p. (p.0 ≡ []) × (p.1 ≡ v) in
    rows_find table (entries_of g classes positive negative disequal) k (Constant n) P
    (in_terms (λ e. (same_head e.head (Constant n) ≡ true) × P (e.args, e.value)) g classes positive negative disequal
    (term_find (λ e. (same_head e.head (Constant n) ≡ true) × P (e.args, e.value)) classes classes g.terms e.place e.entry v e.at e.has (constant_entry (ground_terms g) classes v n e.entry e.is)))

application_sym : (r s : Sym) (xs ys : Terms) → App r xs ≡ App s ys → r ≡ s
application_sym r s xs ys e = cc

application_args : (r s : Sym) (xs ys : List Term) → App r (terms_of xs) ≡ App s (terms_of ys) → xs ≡ ys
application_args r s xs ys e = let z : terms_of xs ≡ terms_of ys = cc in terms_of-inj xs ys z

functor_entry : (d : Disjunct) (cs : List Clause) (g : Ground) (classes : List ℕ) (positive negative disequal : List Bool) → HoldsFacts d cs g classes positive negative disequal → (i : ℕ) (v : ℕ) (s : Sym) (us : List Term) (e : GroundTerm) → slice_get g.terms i ≡ Some e → term_of_entry (ground_terms g) e ≡ App s (terms_of us) → (same_head (term_entry classes v e).head (Functor s) ≡ true) × (((term_entry classes v e).args ≡ map (class_in (ground_terms g) classes) us) × ((term_entry classes v e).value ≡ v))
functor_entry d cs g classes positive negative disequal h i v s us (node.Const m) k e = cc
functor_entry d cs g classes positive negative disequal h i v s us (node.App r args) k e =
    let q : r ≡ s = application_sym r s (terms_of (map (term_at (ground_terms g)) args)) (terms_of us) e in
    let z : map (term_at (ground_terms g)) args ≡ us = application_args r s (map (term_at (ground_terms g)) args) us e in
    let lt : i < length g.terms = get_within g.terms i (node.App r args) k in (
      subst (λ (o : Sym). same_head (Functor r) (Functor o) ≡ true) q (same_head-self (Functor r)),
      (args_classes d cs g classes positive negative disequal h args (λ j m. omega (arith, lt, h.ground.earlier i j r args k m)) ∙ ap (map (class_in (ground_terms g) classes)) z, refl),
    )

functors_rows : (d : Disjunct) (cs : List Clause) (g : Ground) (classes : List ℕ) (positive negative disequal : List Bool) → HoldsFacts d cs g classes positive negative disequal → (table : Table) → HasEntries table (entries_of g classes positive negative disequal) → (s : Sym) (us : List Term) → IsGroundTerm d cs (App s (terms_of us)) → SomeOf (λ r. (r.args.items ≡ map (class_in (ground_terms g) classes) us) × (r.value ≡ class_in (ground_terms g) classes (App s (terms_of us)))) (rows_of table (Functor s))
functors_rows d cs g classes positive negative disequal h table k s us a =
    let t : Term = App s (terms_of us) in
    let e = entry_of d cs g classes positive negative disequal h t a in
    let v : ℕ = class_in (ground_terms g) classes t in
    let P : List ℕ × ℕ → Type 0 = λ p. (p.0 ≡ map (class_in (ground_terms g) classes) us) × (p.1 ≡ v) in
    rows_find table (entries_of g classes positive negative disequal) k (Functor s) P
    (in_terms (λ e. (same_head e.head (Functor s) ≡ true) × P (e.args, e.value)) g classes positive negative disequal
    (term_find (λ e. (same_head e.head (Functor s) ≡ true) × P (e.args, e.value)) classes classes g.terms e.place e.entry v e.at e.has (functor_entry d cs g classes positive negative disequal h e.place v s us e.entry e.at e.is)))

-- a ground atom at its place
pub record AtomPlace (g : Ground) (s : Sym) (us : List Term) : Type 0 where
  pub place : ℕ
  pub atom : GroundAtom
  pub at : slice_get g.atoms place ≡ Some atom
  pub sym_is : atom.sym ≡ s
  pub args_are : map (term_at (ground_terms g)) atom.args ≡ us

pub atom_place : (d : Disjunct) (cs : List Clause) (g : Ground) (classes : List ℕ) (positive negative disequal : List Bool) → HoldsFacts d cs g classes positive negative disequal → (s : Sym) (us : List Term) → IsGroundExpression d cs (AtomExpression s us) → AtomPlace g s us
atom_place d cs g classes positive negative disequal h s us k =
    let m = atom_has d cs g h.ground s us k in
    let x = map_get (atom_expression (ground_terms g)) g.atoms m.0 (AtomExpression s us) (member_get (ground_atoms g) (AtomExpression s us) m) in
    let e : AtomExpression x.member.sym (map (term_at (ground_terms g)) x.member.args) ≡ AtomExpression s us = x.is in
    record { place = m.0; atom = x.member; at = x.at; sym_is = cc; args_are = cc }

-- the rows of an atom with the sign
abbrev signed_head : Bool → Sym → Head
signed_head true s = Holds s
signed_head false s = Fails s

abbrev signed_entry : Bool → List ℕ → GroundAtom → Entry
signed_entry positive classes a = record { head = signed_head positive a.sym; args = map (slice_index classes) a.args; value = 0 }

flag_of : (d : Disjunct) (cs : List Clause) (g : Ground) (classes : List ℕ) (positive negative disequal : List Bool) → HoldsFacts d cs g classes positive negative disequal → (Q : Entry → Type 0) (sign : Bool) (k : ℕ) (a : GroundAtom) → slice_get g.atoms k ≡ Some a → Fact d cs (Atom sign a.sym (map (term_at (ground_terms g)) a.args)) → Q (signed_entry sign classes a) → ((slice_get positive k ≡ Some true) × Q (holds_entry classes a)) ⊎ ((slice_get negative k ≡ Some true) × Q (fails_entry classes a))
flag_of d cs g classes positive negative disequal h Q true k a e f q = inl ((h.holds k a e).1 f, q)
flag_of d cs g classes positive negative disequal h Q false k a e f q = inr ((h.fails k a e).1 f, q)

signed_rows : (d : Disjunct) (cs : List Clause) (g : Ground) (classes : List ℕ) (positive negative disequal : List Bool) → HoldsFacts d cs g classes positive negative disequal → (table : Table) → HasEntries table (entries_of g classes positive negative disequal) → (sign : Bool) (s : Sym) (us : List Term) → Fact d cs (Atom sign s us) → SomeOf (λ r. r.args.items ≡ map (class_in (ground_terms g) classes) us) (rows_of table (signed_head sign s))
signed_rows d cs g classes positive negative disequal h table k sign s us f =
    let a = atom_place d cs g classes positive negative disequal h s us (fact_atom d cs sign s us f) in
    let w : Fact d cs (Atom sign a.atom.sym (map (term_at (ground_terms g)) a.atom.args)) = subst (λ (o : Sym). Fact d cs (Atom sign o (map (term_at (ground_terms g)) a.atom.args))) (sym a.sym_is) (subst (λ (xs : List Term). Fact d cs (Atom sign s xs)) (sym a.args_are) f) in
    let P : List ℕ × ℕ → Type 0 = λ p. p.0 ≡ map (class_in (ground_terms g) classes) us in
    let Q : Entry → Type 0 = λ e. (same_head e.head (signed_head sign s) ≡ true) × P (e.args, e.value) in
    let q : Q (signed_entry sign classes a.atom) =
    (subst (λ (o : Sym). same_head (signed_head sign a.atom.sym) (signed_head sign o) ≡ true) a.sym_is (same_head-self (signed_head sign a.atom.sym)), atom_args d cs g classes positive negative disequal h a.place a.atom a.at ∙ ap (map (class_in (ground_terms g) classes)) a.args_are) in
    rows_find table (entries_of g classes positive negative disequal) k (signed_head sign s) P
    (in_atoms Q g classes positive negative disequal (atom_find Q classes positive negative g.atoms a.place a.atom h.positive_count h.negative_count a.at (flag_of d cs g classes positive negative disequal h Q sign a.place a.atom a.at w q)))

-- a ground equation at its place
pub record EquationPlace (g : Ground) (v w : Term) : Type 0 where
  pub place : ℕ
  pub equation : GroundEquation
  pub at : slice_get g.equations place ≡ Some equation
  pub left_is : term_at (ground_terms g) equation.left ≡ v
  pub right_is : term_at (ground_terms g) equation.right ≡ w

pub equation_place : (d : Disjunct) (cs : List Clause) (g : Ground) (classes : List ℕ) (positive negative disequal : List Bool) → HoldsFacts d cs g classes positive negative disequal → (v w : Term) → IsGroundExpression d cs (EquationExpression v w) → EquationPlace g v w
equation_place d cs g classes positive negative disequal h v w k =
    let m = equation_has d cs g h.ground v w k in
    let x = map_get (equation_expression (ground_terms g)) g.equations m.0 (EquationExpression v w) (member_get (ground_equations g) (EquationExpression v w) m) in
    let e : EquationExpression (term_at (ground_terms g) x.member.left) (term_at (ground_terms g) x.member.right) ≡ EquationExpression v w = x.is in
    record { place = m.0; equation = x.member; at = x.at; left_is = cc; right_is = cc }

differ_row : (d : Disjunct) (cs : List Clause) (g : Ground) (classes : List ℕ) (positive negative disequal : List Bool) → HoldsFacts d cs g classes positive negative disequal → (table : Table) → HasEntries table (entries_of g classes positive negative disequal) → (v w : Term) → IsGroundExpression d cs (EquationExpression v w) → Fact d cs (Eq false v w) → SomeOf (λ r. r.args.items ≡ class_in (ground_terms g) classes v ∷ class_in (ground_terms g) classes w ∷ []) (rows_of table Disequal)
differ_row d cs g classes positive negative disequal h table k v w c f =
    let a = equation_place d cs g classes positive negative disequal h v w c in
    let l : Term = term_at (ground_terms g) a.equation.left in
    let r : Term = term_at (ground_terms g) a.equation.right in
    let x : Fact d cs (Eq false l r) = subst (λ (y : Term). Fact d cs (Eq false y r)) (sym a.left_is) (subst (λ (y : Term). Fact d cs (Eq false v y)) (sym a.right_is) f) in
    let z : (class_in (ground_terms g) classes l ∷ class_in (ground_terms g) classes r ∷ []) ≡ (class_in (ground_terms g) classes v ∷ class_in (ground_terms g) classes w ∷ []) = λ i. class_in (ground_terms g) classes (a.left_is i) ∷ class_in (ground_terms g) classes (a.right_is i) ∷ [] in
    let P : List ℕ × ℕ → Type 0 = λ p. p.0 ≡ class_in (ground_terms g) classes v ∷ class_in (ground_terms g) classes w ∷ [] in
    rows_find table (entries_of g classes positive negative disequal) k Disequal P
    (in_equations (λ e. (same_head e.head Disequal ≡ true) × P (e.args, e.value)) g classes positive negative disequal
    (equation_find (λ e. (same_head e.head Disequal ≡ true) × P (e.args, e.value)) classes disequal g.equations a.place a.equation a.at ((h.differ a.place a.equation a.at).1 x) (refl, cons-differ_args d cs g classes positive negative disequal h a.place a.equation a.at ∙ z)))

differ_rows : (d : Disjunct) (cs : List Clause) (g : Ground) (classes : List ℕ) (positive negative disequal : List Bool) → HoldsFacts d cs g classes positive negative disequal → (table : Table) → HasEntries table (entries_of g classes positive negative disequal) → (v w : Term) → Fact d cs (Eq false v w) → SomeOf (λ r. r.args.items ≡ class_in (ground_terms g) classes v ∷ class_in (ground_terms g) classes w ∷ []) (rows_of table Disequal) ⊎ SomeOf (λ r. r.args.items ≡ class_in (ground_terms g) classes w ∷ class_in (ground_terms g) classes v ∷ []) (rows_of table Disequal)
differ_rows d cs g classes positive negative disequal h table k v w f =
    elim (differ_fact d cs (Eq false v w) f v w refl) [ inl a ↦ inl (differ_row d cs g classes positive negative disequal h table k v w a f) | inr a ↦ inr (differ_row d cs g classes positive negative disequal h table k w v a (reversed v w f)) ]

-- values
value_has : (d : Disjunct) (cs : List Clause) (g : Ground) (classes : List ℕ) (positive negative disequal : List Bool) → HoldsFacts d cs g classes positive negative disequal → (t : Term) → IsGroundTerm d cs t → SomeOf (λ v. v ≡ class_in (ground_terms g) classes t) classes
value_has d cs g classes positive negative disequal h t k = let p = place_of d cs g classes positive negative disequal h t k in some_get (λ v. v ≡ class_in (ground_terms g) classes t) classes p.place (slice_index classes p.place) (index_get classes p.place (omega (arith, p.within, h.class_count))) (sym p.class)

-- the term of a class at its place
record TermOf (d : Disjunct) (cs : List Clause) (class : Term → ℕ) (v : ℕ) : Type 0 where
  term : Term
  ground : IsGroundTerm d cs term
  is : class term ≡ v

term_of : (d : Disjunct) (cs : List Clause) (g : Ground) (classes : List ℕ) (positive negative disequal : List Bool) → HoldsFacts d cs g classes positive negative disequal → (k v : ℕ) → slice_get classes k ≡ Some v → TermOf d cs (class_in (ground_terms g) classes) v
unfolding place_at
term_of d cs g classes positive negative disequal h k v e =
    let m = member_at (ground_terms g) k (omega (arith, get_within classes k v e, h.class_count, ground_length g)) in
    let p = place_at d cs g classes positive negative disequal h k m.member m.at in
    record { term = m.member; ground = place_ground d cs g h.ground k m.member m.at; is = p.class ∙ get_index classes k v e }

zero_ground : (d : Disjunct) (cs : List Clause) → IsGroundTerm d cs (Const 0)
zero_ground d cs = earlier 3 (TermExpression (Const 0)) (earlier 2 (TermExpression (Const 0)) (earlier 1 (TermExpression (Const 0)) (earlier 0 (TermExpression (Const 0)) first_constant)))

no_term : (d : Disjunct) (cs : List Clause) (g : Ground) (classes : List ℕ) (positive negative disequal : List Bool) → HoldsFacts d cs g classes positive negative disequal → (v : ℕ) → ((k : ℕ) → slice_get classes k ≡ Some v → ⊥) → (u : Term) → IsGroundTerm d cs u → class_in (ground_terms g) classes u ≡ v → ⊥
no_term d cs g classes positive negative disequal h v f u a e =
    let p = place_of d cs g classes positive negative disequal h u a in
    f p.place (index_get classes p.place (omega (arith, p.within, h.class_count)) ∙ ap (λ x. Some x) (sym p.class ∙ e))

pick_term : (d : Disjunct) (cs : List Clause) (g : Ground) (classes : List ℕ) (positive negative disequal : List Bool) → HoldsFacts d cs g classes positive negative disequal → (v : ℕ) → (t : Term) × StandsFor d cs (class_in (ground_terms g) classes) v t
pick_term d cs g classes positive negative disequal h v =
    elim (find_place classes v) [
      | inl k ↦ let t = term_of d cs g classes positive negative disequal h k.0 v k.1 in (t.term, (t.ground, λ u a e. t.is))
      | inr k ↦ (Const 0, (zero_ground d cs, λ u a e. absurd (no_term d cs g classes positive negative disequal h v k u a e)))
    ]

-- a number that stands in a list, at its place
some_place : (vs : List ℕ) (v : ℕ) → SomeOf (λ w. w ≡ v) vs → (k : ℕ) × (slice_get vs k ≡ Some v)
some_place [] v h = absurd h
some_place (w ∷ vs) v h = elim h [ inl e ↦ (zero, ap (λ x. Some x) e) | inr b ↦ let p = some_place vs v b in (suc p.0, p.1) ]

pub tabled : (d : Disjunct) (cs : List Clause) (g : Ground) (classes : List ℕ) (positive negative disequal : List Bool) → HoldsFacts d cs g classes positive negative disequal → (table : Table) → HasEntries table (entries_of g classes positive negative disequal) → (values : List ℕ) → HaveSameMembers values classes → IsTabled d cs (class_in (ground_terms g) classes) (rows_of table) values
tabled d cs g classes positive negative disequal h table k values m =
    record {
      one = one_class d cs g classes positive negative disequal h;
      same = same_class d cs g classes positive negative disequal h;
      means = rows_mean d cs g classes positive negative disequal h table k;
      constants = constants_rows d cs g classes positive negative disequal h table k;
      functors = functors_rows d cs g classes positive negative disequal h table k;
      holds = signed_rows d cs g classes positive negative disequal h table k true;
      fails = signed_rows d cs g classes positive negative disequal h table k false;
      differ = differ_rows d cs g classes positive negative disequal h table k;
      value = λ t a. (m (class_in (ground_terms g) classes t)).1 (value_has d cs g classes positive negative disequal h t a);
      term = λ v c.
          let q = some_place classes v ((m v).0 (some_of_member (λ w. w ≡ v) values v c refl)) in
          let t = term_of d cs g classes positive negative disequal h q.0 v q.1 in
          (t.term, t.ground, t.is);
      pick = pick_term d cs g classes positive negative disequal h;
    }
