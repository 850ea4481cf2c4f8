-- What rows refute, the facts refute.
use Rattle.std.proofs.Common.{inl, inr, ℕ, List, [], ◌∷◌, map, sym, subst, Bool, true, false}
use Rattle.std.specs.Prelude.{◌+◌}
use Rattle.mz_logic.specs.Term.{Term, terms_of}
use Rattle.mz_logic.specs.Formula as form
use Rattle.mz_logic.specs.Formula.{Formula}
use Rattle.mz_logic.specs.declared.literal.Literal.TheVariants.{Atom}
use Rattle.mz_logic.specs.declared.disjunct.Disjunct.{Disjunct}
use Rattle.mz_ground.specs.declared.clause.Clause.{Clause}
use Rattle.mz_ground.specs.Facts.{reversed}
use Rattle.mz_refute.specs.Refuted.{IsRefuted, falsity, atom, equation, disequation, negation, first, second, both, at_term, listed}
use Rattle.mz_match.specs.declared.row.Head.{Head}
use Rattle.mz_match.specs.declared.row.Head.TheVariants.{Holds, Fails}
use Rattle.mz_match.specs.declared.row.Row.{Row}
use Rattle.mz_match.specs.Rows.{Vals, RowOn}
use Rattle.mz_match.specs.RowsCongruent.{AreCongruentFormulas}
use Rattle.mz_match.specs.RowsRefuted.{RowsRefute}
use Rattle.mz_refute.specs.Tabled.{IsTabled}
use Rattle.mz_refute.proofs.AtTerms as at
use Rattle.mz_refute.proofs.AtTerms.{at_formula}
use Rattle.mz_logic.proofs.ValueLaws.{substitute_formula-one_others, substitute_formula-no_values}
use Rattle.mz_refute.proofs.GroundLaws.{fact_ground}
use Rattle.mz_refute.proofs.TableDown.{some_in, AllStand, args_down, equal_down, sides_down}
use Rattle.mz_refute.proofs.CongruentDown.{formula_down}

pub refuted_down : (d : Disjunct) (cs : List Clause) (class : Term → ℕ) (rows : Head → List Row) (values : List ℕ) → IsTabled d cs class rows values → (s : Bool) (f : Formula) (a : List ℕ) (ts : List Term) → AllStand d cs class a ts → RowsRefute rows values d.universals s a f → IsRefuted d cs s (at_formula 0 ts f)
unfolding RowsRefute RowOn
refuted_down d cs class rows values h true form.Truth a ts all k = absurd k
refuted_down d cs class rows values h false form.Truth a ts all k = falsity
refuted_down d cs class rows values h true (form.Eq t u) a ts all k =
    elim k [
      | inl x ↦ let y = sides_down d cs class rows values h a ts all t u x in equation (at.at_term 0 ts t) (at.at_term 0 ts u) y.v y.w y.left y.right y.fact
      | inr x ↦ let y = sides_down d cs class rows values h a ts all u t x in equation (at.at_term 0 ts t) (at.at_term 0 ts u) y.w y.v y.right y.left (reversed y.v y.w y.fact)
    ]
refuted_down d cs class rows values h false (form.Eq t u) a ts all k =
    let x = equal_down d cs class rows values h a ts all t u k in
    disequation (at.at_term 0 ts t) (at.at_term 0 ts u) x.value x.first x.second
refuted_down d cs class rows values h true (form.Atom s us) a ts all k =
    let x = some_in (λ r. Vals rows 0 a (terms_of us) r.args.items) (rows (Fails s)) k in
    let m = h.means (Fails s) x.0 x.1.0 in
    atom true s (map (at.at_term 0 ts) us) m.0 (args_down d cs class rows values h a ts all us m.0 x.0.args.items (fact_ground d cs (Atom false s m.0) m.1) m.2 x.1.1) m.1
refuted_down d cs class rows values h false (form.Atom s us) a ts all k =
    let x = some_in (λ r. Vals rows 0 a (terms_of us) r.args.items) (rows (Holds s)) k in
    let m = h.means (Holds s) x.0 x.1.0 in
    atom false s (map (at.at_term 0 ts) us) m.0 (args_down d cs class rows values h a ts all us m.0 x.0.args.items (fact_ground d cs (Atom true s m.0) m.1) m.2 x.1.1) m.1
refuted_down d cs class rows values h true (form.Not f) a ts all k = negation true (at_formula 0 ts f) (refuted_down d cs class rows values h false f a ts all k)
refuted_down d cs class rows values h false (form.Not f) a ts all k = negation false (at_formula 0 ts f) (refuted_down d cs class rows values h true f a ts all k)
refuted_down d cs class rows values h true (form.And f g) a ts all k =
    elim k [
      | inl x ↦ first (at_formula 0 ts f) (at_formula 0 ts g) (refuted_down d cs class rows values h true f a ts all x)
      | inr x ↦ second (at_formula 0 ts f) (at_formula 0 ts g) (refuted_down d cs class rows values h true g a ts all x)
    ]
refuted_down d cs class rows values h false (form.And f g) a ts all k =
    both (at_formula 0 ts f) (at_formula 0 ts g) (refuted_down d cs class rows values h false f a ts all k.0) (refuted_down d cs class rows values h false g a ts all k.1)
refuted_down d cs class rows values h true (form.All b) a ts all k =
    let p = h.pick k.0 in
    let r : IsRefuted d cs true (at_formula 0 (p.0 ∷ ts) b) = refuted_down d cs class rows values h true b (k.0 ∷ a) (p.0 ∷ ts) (p.1, all) k.1 in
    at_term (at_formula (0 + 1) ts b) p.0 p.1.0 (subst (λ (x : Formula). IsRefuted d cs true x) (sym (substitute_formula-one_others 0 p.0 ts b)) r)
refuted_down d cs class rows values h false (form.All b) a ts all k =
    let x = some_in (λ u. AreCongruentFormulas rows 0 a true (form.All b) true u) d.universals k in
    listed (at_formula (0 + 1) ts b) x.0 x.1.0 (formula_down d cs class rows values h 0 a ts all true (form.All b) true x.0 x.1.1)

-- a formula as it stands
pub refuted_by_rows : (d : Disjunct) (cs : List Clause) (class : Term → ℕ) (rows : Head → List Row) (values : List ℕ) → IsTabled d cs class rows values → (f : Formula) → RowsRefute rows values d.universals true [] f → IsRefuted d cs true f
refuted_by_rows d cs class rows values h f k = subst (λ (x : Formula). IsRefuted d cs true x) (substitute_formula-no_values 0 f) (refuted_down d cs class rows values h true f [] [] tt k)
