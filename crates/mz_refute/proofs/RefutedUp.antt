-- What the facts refute, rows refute.
use Rattle.std.proofs.Common.{◌≡◌, inl, inr, ℕ, zero, suc, List, [], ◌∷◌, length, map, arith, sym, subst, Bool, true, false}
use Rattle.std.specs.Prelude.{◌<◌, not, Contains, slice_index_or}
use Rattle.mz_logic.specs.declared.sym.Sym.{Sym}
use Rattle.mz_logic.specs.Term.{Term, terms_of}
use Rattle.mz_logic.specs.Formula as form
use Rattle.mz_logic.specs.Formula.{Formula}
use Rattle.mz_logic.specs.declared.literal.Literal.TheVariants.{Atom}
use Rattle.mz_logic.specs.declared.disjunct.Disjunct.{Disjunct}
use Rattle.mz_ground.specs.declared.clause.Clause.{Clause}
use Rattle.mz_ground.specs.GroundExpression.{TermExpression}
use Rattle.mz_ground.specs.Layers.{of_universal, earlier}
use Rattle.mz_ground.specs.Facts.{Fact}
use Rattle.mz_refute.specs.Valued.{AreValued}
use Rattle.mz_refute.specs.Refuted.{IsRefuted, falsity, atom, equation, disequation, negation, first, second, both, at_term, listed}
use Rattle.mz_match.specs.declared.row.Head.{Head}
use Rattle.mz_match.specs.declared.row.Head.TheVariants.{Holds, Fails}
use Rattle.mz_match.specs.declared.row.Row.{Row}
use Rattle.mz_match.specs.Rows.{SomeOf, Vals, RowOn}
use Rattle.mz_match.specs.RowsCongruent.{AreCongruentFormulas}
use Rattle.mz_match.specs.RowsRefuted.{RowsRefute}
use Rattle.mz_refute.specs.Tabled.{IsTabled}
use Rattle.mz_match.proofs.SomeLemmas.{some_map}
use Rattle.mz_refute.proofs.AtTerms as at
use Rattle.mz_refute.proofs.AtTerms.{at_formula}
use Rattle.mz_logic.proofs.ValueLaws.{substitute_formula-one_others, substitute_formula-no_values}
use Rattle.mz_refute.proofs.GroundLaws.{AllGround}
use Rattle.mz_refute.proofs.TableUp.{list_up, equal_up, sides_up}
use Rattle.mz_refute.proofs.CongruentUp.{formula_up, FormulaFilled}

-- the terms of a listed universal that have no index are ground
pub universal_filled : (d : Disjunct) (cs : List Clause) (u : Formula) → Contains d.universals u → FormulaFilled d cs u
universal_filled d cs u m v h c = earlier 3 (TermExpression v) (earlier 2 (TermExpression v) (earlier 1 (TermExpression v) (earlier 0 (TermExpression v) (of_universal u (TermExpression v) m h c))))

-- some member by a member
some_at : {X : Type 0} (P : X → Type 0) (xs : List X) (x : X) (k : ℕ) → k < length xs → slice_index_or xs k x ≡ x → P x → SomeOf P xs
some_at P [] x k lt e h = absurd (omega arith)
some_at P (y ∷ xs) x zero lt e h = inl (subst P (sym e) h)
some_at P (y ∷ xs) x (suc k) lt e h = inr (some_at P xs x k (omega arith) e h)

pub some_of_member : {X : Type 0} (P : X → Type 0) (xs : List X) (x : X) → Contains xs x → P x → SomeOf P xs
some_of_member P xs x m h = some_at P xs x m.0 m.1 m.2 h

atom_up : (d : Disjunct) (cs : List Clause) (class : Term → ℕ) (rows : Head → List Row) (values : List ℕ) → IsTabled d cs class rows values → (s : Bool) (p : Sym) (us ts : List Term) → AllGround d cs ts → (vs : List Term) → AreValued d cs (map (at.at_term 0 ts) us) vs → Fact d cs (Atom (not s) p vs) → RowsRefute rows values d.universals s (map class ts) (form.Atom p us)
unfolding RowsRefute RowOn
atom_up d cs class rows values h true p us ts all vs a k =
    some_map (λ r. r.args.items ≡ map class vs) (λ r. Vals rows 0 (map class ts) (terms_of us) r.args.items) (rows (Fails p)) (λ r e. list_up d cs class rows values h ts all us vs r.args.items a e) (h.fails p vs k)
atom_up d cs class rows values h false p us ts all vs a k =
    some_map (λ r. r.args.items ≡ map class vs) (λ r. Vals rows 0 (map class ts) (terms_of us) r.args.items) (rows (Holds p)) (λ r e. list_up d cs class rows values h ts all us vs r.args.items a e) (h.holds p vs k)

not_up : (d : Disjunct) (cs : List Clause) (rows : Head → List Row) (values : List ℕ) (s : Bool) (f : Formula) (a : List ℕ) → RowsRefute rows values d.universals (not s) a f → RowsRefute rows values d.universals s a (form.Not f)
unfolding RowsRefute
not_up d cs rows values true f a h = h
not_up d cs rows values false f a h = h

pub refuted_up : (d : Disjunct) (cs : List Clause) (class : Term → ℕ) (rows : Head → List Row) (values : List ℕ) → IsTabled d cs class rows values → (s : Bool) (f : Formula) (ts : List Term) → AllGround d cs ts → IsRefuted d cs s (at_formula 0 ts f) → RowsRefute rows values d.universals s (map class ts) f
unfolding RowsRefute RowOn
refuted_up d cs class rows values h s form.Truth ts all falsity = tt
refuted_up d cs class rows values h s (form.Eq t u) ts all (equation x y v w a b k) = sides_up d cs class rows values h ts all t u v w a b k
refuted_up d cs class rows values h s (form.Eq t u) ts all (disequation x y v a b) = equal_up d cs class rows values h ts all t u v a b
refuted_up d cs class rows values h s (form.Atom p us) ts all (atom q r xs vs a k) = atom_up d cs class rows values h q p us ts all vs a k
refuted_up d cs class rows values h s (form.Not f) ts all (negation q x r) = not_up d cs rows values q f (map class ts) (refuted_up d cs class rows values h (not q) f ts all r)
refuted_up d cs class rows values h s (form.And f g) ts all (first x y r) = inl (refuted_up d cs class rows values h true f ts all r)
refuted_up d cs class rows values h s (form.And f g) ts all (second x y r) = inr (refuted_up d cs class rows values h true g ts all r)
refuted_up d cs class rows values h s (form.And f g) ts all (both x y r q) = (refuted_up d cs class rows values h false f ts all r, refuted_up d cs class rows values h false g ts all q)
refuted_up d cs class rows values h s (form.All b) ts all (at_term x t c r) =
    let q : IsRefuted d cs true (at_formula 0 (t ∷ ts) b) = subst (λ (k : Formula). IsRefuted d cs true k) (substitute_formula-one_others 0 t ts b) r in
    (class t, refuted_up d cs class rows values h true b (t ∷ ts) (c, all) q)
refuted_up d cs class rows values h s (form.All b) ts all (listed x u m k) =
    some_of_member (λ g. AreCongruentFormulas rows 0 (map class ts) true (form.All b) true g) d.universals u m
    (formula_up d cs class rows values h 0 ts all true (form.All b) true u (universal_filled d cs u m) k)

-- a formula as it stands
pub rows_by_refuted : (d : Disjunct) (cs : List Clause) (class : Term → ℕ) (rows : Head → List Row) (values : List ℕ) → IsTabled d cs class rows values → (f : Formula) → IsRefuted d cs true f → RowsRefute rows values d.universals true [] f
rows_by_refuted d cs class rows values h f k = refuted_up d cs class rows values h true f [] tt (subst (λ (x : Formula). IsRefuted d cs true x) (sym (substitute_formula-no_values 0 f)) k)
