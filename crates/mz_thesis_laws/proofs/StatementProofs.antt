-- What derives of opposites, parts and conjunctions of statements.
use Rattle.std.proofs.Common.{◌≡◌, ℕ, zero, suc, List, [], ◌∷◌, ◌++◌, map, drop, length, refl, sym, ap, ◌∙◌, subst}
use Rattle.std.proofs.lemmas.List.{map-append}
use Rattle.mz_logic.specs.Term.{Term}
use Rattle.mz_logic.specs.Formula as formula
use Rattle.mz_logic.specs.Formula.{Formula}
use Rattle.mz_logic.specs.Same.{exchanged}
use Rattle.mz_logic.specs.Connectives.{joined_to}
use Rattle.mz_logic.specs.Negation.{falsity, negated}
use Rattle.mz_logic.specs.Derives.{Derives}
use Rattle.mz_logic.proofs.Rules.{and_in, and_left, and_right, not_out, classical}
use Rattle.mz_logic.proofs.Connectives.{first, under}
use Rattle.mz_logic.proofs.Equivalence.{same_derives}
use Rattle.mz_logic.proofs.Each.{Each, Along, along_append, along_left, along_right, each_append, each_more, each_along, each_under, each_itself, cut_each, negated_in, negated_out, joined_to_out, joined_in, joined_out, implies_in}
use Rattle.mz_core.specs.Statement.{Statement, Truth, Eq, Atom, Not, And, For}
use Rattle.mz_core.specs.StatementForms.{opposite}
use Rattle.mz_core.specs.TypeSubstitution.{statement_at}
use Rattle.mz_core.specs.Connectives.{where_guard}
use Rattle.mz_core.specs.Parts.{parts, conjunction}
use Rattle.mz_core.specs.Erasure.{erase}
use Rattle.mz_core.proofs.LawProofs.{erasure_of_negation, erasure_of_conjunction}
use Rattle.mz_thesis.specs.Rows.{BeginSame, antecedents}

-- the negation of a negation without a double one
pub not_negated_out : (ax g : List Formula) (f : Formula) → Derives ax g (formula.Not (negated f)) → Derives ax g f
not_negated_out ax g f d =
    let h : List Formula = formula.Not f ∷ g in
    classical ax g f (not_out ax h (negated f) falsity (negated_in ax h f (first ax g (formula.Not f))) (under ax g (formula.Not f) (formula.Not (negated f)) d))

-- opposites
pub opposite_out : (ax g : List Formula) (s : Statement) → Derives ax g (erase (opposite s)) → Derives ax g (formula.Not (erase s))
opposite_out ax g s d = negated_out ax g (erase s) (subst (Derives ax g) (erasure_of_negation s) d)

pub opposite_in : (ax g : List Formula) (s : Statement) → Derives ax g (formula.Not (erase s)) → Derives ax g (erase (opposite s))
opposite_in ax g s d = subst (Derives ax g) (sym (erasure_of_negation s)) (negated_in ax g (erase s) d)

pub opposite_at : (s : Statement) (t : Term) → statement_at (opposite s) t ≡ opposite (statement_at s t)
opposite_at Truth t = refl
opposite_at (Eq u v) t = refl
opposite_at (Atom s ts) t = refl
opposite_at (Not s) t = refl
opposite_at (And s u) t = refl
opposite_at (For ty s) t = refl

-- parts
pub parts_out : (ax g : List Formula) (s : Statement) → Derives ax g (erase s) → Along ax g (map erase (parts s))
parts_out ax g Truth d = (d, tt)
parts_out ax g (Eq t u) d = (d, tt)
parts_out ax g (Atom s ts) d = (d, tt)
parts_out ax g (Not s) d = (d, tt)
parts_out ax g (And s t) d =
    subst (Along ax g) (sym (map-append erase (parts s) (parts t)))
    (along_append ax g (map erase (parts s)) (map erase (parts t)) (parts_out ax g s (and_left ax g (erase s) (erase t) d)) (parts_out ax g t (and_right ax g (erase s) (erase t) d)))
parts_out ax g (For ty s) d = (d, tt)

pub parts_in : (ax g : List Formula) (s : Statement) → Along ax g (map erase (parts s)) → Derives ax g (erase s)
parts_in ax g Truth p = p.0
parts_in ax g (Eq t u) p = p.0
parts_in ax g (Atom s ts) p = p.0
parts_in ax g (Not s) p = p.0
parts_in ax g (And s t) p =
    let q : Along ax g (map erase (parts s) ++ map erase (parts t)) = subst (Along ax g) (map-append erase (parts s) (parts t)) p in
    and_in ax g (erase s) (erase t) (parts_in ax g s (along_left ax g (map erase (parts s)) (map erase (parts t)) q)) (parts_in ax g t (along_right ax g (map erase (parts s)) (map erase (parts t)) q))
parts_in ax g (For ty s) p = p.0

pub conjunction_in : (ax g : List Formula) (ss : List Statement) → Along ax g (map erase ss) → Derives ax g (erase (conjunction ss))
conjunction_in ax g ss p = subst (Derives ax g) (sym (erasure_of_conjunction ss)) (joined_in ax g (map erase ss) p)

pub conjunction_out : (ax g : List Formula) (ss : List Statement) → Derives ax g (erase (conjunction ss)) → Along ax g (map erase ss)
conjunction_out ax g ss d = joined_out ax g (map erase ss) (subst (Derives ax g) (erasure_of_conjunction ss) d)

-- a list that begins with the same
pub begin_in : (ax g : List Formula) (ss ts : List Statement) → BeginSame ss ts → Along ax g (map erase ss) → Along ax g (map erase (drop (length ss) ts)) → Along ax g (map erase ts)
begin_in ax g [] ts same p rest = rest
begin_in ax g (s ∷ ss) [] same p rest = tt
begin_in ax g (s ∷ ss) (t ∷ ts) same p rest = (same_derives ax g (erase s) (erase t) same.0 p.0, begin_in ax g ss ts same.1 p.1 rest)

pub begin_out : (ax g : List Formula) (ss ts : List Statement) → BeginSame ss ts → Along ax g (map erase ts) → Along ax g (map erase ss) × Along ax g (map erase (drop (length ss) ts))
begin_out ax g [] ts same p = (tt, p)
begin_out ax g (s ∷ ss) [] same p = absurd same
begin_out ax g (s ∷ ss) (t ∷ ts) same p =
    let more : Along ax g (map erase ss) × Along ax g (map erase (drop (length ss) ts)) = begin_out ax g ss ts same.1 p.1 in
    ((same_derives ax g (erase t) (erase s) (exchanged (erase s) (erase t) same.0) p.0, more.0), more.1)

-- what a thesis assumes derives from its negation
pub antecedents_out : (ax g : List Formula) (s : Statement) → Derives ax g (formula.Not (erase s)) → Along ax g (map erase (antecedents s))
antecedents_out ax g Truth d = (negated_in ax g (erase Truth) d, tt)
antecedents_out ax g (Eq t u) d = (negated_in ax g (erase (Eq t u)) d, tt)
antecedents_out ax g (Atom s ts) d = (negated_in ax g (erase (Atom s ts)) d, tt)
antecedents_out ax g (Not s) d = parts_out ax g s (not_negated_out ax g (erase s) d)
antecedents_out ax g (And s t) d = (negated_in ax g (erase (And s t)) d, tt)
antecedents_out ax g (For ty s) d = (negated_in ax g (erase (For ty s)) d, tt)

-- a formula that derives from a guard derives under it
pub where_in : (ax g gs : List Formula) (f : Formula) → Derives ax (gs ++ g) f → Derives ax g (where_guard gs f)
where_in ax g [] f d = d
where_in ax g (x ∷ xs) f d =
    let j : Formula = joined_to x xs in
    let h : List Formula = j ∷ g in
    let p : Derives ax h x × Along ax h xs = joined_to_out ax h x xs (first ax g j) in
    let each : Each ax h ((x ∷ xs) ++ g) = each_append ax h (x ∷ xs) g (each_more ax h x xs p.0 (each_along ax h xs p.1)) (each_under ax g g j (each_itself ax g)) in
    implies_in ax g j f (cut_each ax h ((x ∷ xs) ++ g) f each d)
