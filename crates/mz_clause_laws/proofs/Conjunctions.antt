-- Conjunctions of statements at closed terms.
use Rattle.std.proofs.Common.{◌≡◌, List, [], ◌∷◌, ◌++◌, map, sym, ap, ◌∙◌, subst}
use Rattle.std.specs.Prelude.{flat_map}
use Rattle.mz_logic.specs.Term.{Term}
use Rattle.mz_logic.specs.Formula.{Formula}
use Rattle.mz_logic.specs.Connectives.{joined}
use Rattle.mz_logic.specs.Substitution.{substitute_formula, value_at}
use Rattle.mz_logic.specs.Derives.{Derives}
use Rattle.mz_logic.specs.declared.literal.Literal.{Literal}
use Rattle.mz_logic.proofs.Each.{Along, along_append, joined_in, joined_out}
use Rattle.mz_core.specs.Statement.{Statement}
use Rattle.mz_core.specs.Parts.{conjunction}
use Rattle.mz_core.specs.Erasure.{erase}
use Rattle.mz_core.specs.TypeStatements.{literal_statement}
use Rattle.mz_core.proofs.LawProofs.{erasure_of_conjunction}
use Rattle.mz_clause_laws.proofs.Instances.{formulas_at, formulas_at-append}
use Rattle.mz_clause_laws.proofs.Literals.{joined_at, literals_out}

-- statements at terms
abbrev pub statements_at : List Term → List Statement → List Formula
statements_at ts ss = map (substitute_formula 0 (value_at ts)) (map erase ss)

conjunction_at : (ts : List Term) (ss : List Statement) → substitute_formula 0 (value_at ts) (erase (conjunction ss)) ≡ joined (statements_at ts ss)
conjunction_at ts ss = ap (substitute_formula 0 (value_at ts)) (erasure_of_conjunction ss) ∙ joined_at (value_at ts) (map erase ss)

pub conjunction_out : (ax g : List Formula) (ts : List Term) (ss : List Statement) → Derives ax g (substitute_formula 0 (value_at ts) (erase (conjunction ss))) → Along ax g (statements_at ts ss)
conjunction_out ax g ts ss d = joined_out ax g (statements_at ts ss) (subst (Derives ax g) (conjunction_at ts ss) d)

pub conjunction_in : (ax g : List Formula) (ts : List Term) (ss : List Statement) → Along ax g (statements_at ts ss) → Derives ax g (substitute_formula 0 (value_at ts) (erase (conjunction ss)))
conjunction_in ax g ts ss a = subst (Derives ax g) (sym (conjunction_at ts ss)) (joined_in ax g (statements_at ts ss) a)

pub along_both : (ax g : List Formula) (ts : List Term) (ks ls : List Literal) → Along ax g (formulas_at ts ks) → Along ax g (formulas_at ts ls) → Along ax g (formulas_at ts (ks ++ ls))
along_both ax g ts ks ls a b =
    subst (Along ax g) (sym (formulas_at-append ts ks ls)) (along_append ax g (formulas_at ts ks) (formulas_at ts ls) a b)

-- the literals of each, from the conjunctions of these
pub each_out : {X : Type 0} (ax g : List Formula) (ts : List Term) (literals : X → List Literal) (xs : List X) → Along ax g (statements_at ts (map (λ x. conjunction (map literal_statement (literals x))) xs)) → Along ax g (formulas_at ts (flat_map literals xs))
each_out ax g ts literals [] a = tt
each_out ax g ts literals (x ∷ xs) a =
    along_both ax g ts (literals x) (flat_map literals xs) (literals_out ax g ts (literals x) a.0) (each_out ax g ts literals xs a.1)
