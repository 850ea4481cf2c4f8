-- What an item unfolds is as much as its definiens.
use Rattle.std.specs.Prelude.{◌≡◌, true, List, [], ◌∷◌, length, map}
use Rattle.std.specs.List.{list_all}
use Rattle.mz_logic.specs.Term as term
use Rattle.mz_logic.specs.Term.{Bound}
use Rattle.mz_logic.specs.Formula.{Formula}
use Rattle.mz_logic.specs.Indices.{closed}
use Rattle.mz_logic.specs.Literal.{literal_formula}
use Rattle.mz_logic.specs.Substitution.{substitute_formula, value_at}
use Rattle.mz_logic.specs.Derives.{Derives}
use Rattle.mz_core.specs.Statement as statement
use Rattle.mz_core.specs.Statement.{Statement}
use Rattle.mz_core.specs.StatementForms.{implication}
use Rattle.mz_core.specs.Erasure.{erase}
use Rattle.mz_core.specs.declared.item.Item.{Item}
use Rattle.mz_ground.specs.declared.trigger.Trigger.{Trigger}
use Rattle.mz_ground.specs.declared.trigger.Trigger.TheVariants.{Term, Atom}
use Rattle.mz_items.specs.Exports.{item_statements}
use Rattle.mz_clauses.specs.Guards.{loci_guards}
use Rattle.mz_environment.specs.declared.unfoldings.Unfolding.{Unfolding}
use Rattle.mz_environment.specs.Unfoldings.{unfoldings_of}
use Rattle.mz_clause_laws.specs.RowLaws.{AllFollow}

-- what the head says: the atom, or that the last locus equals the term
abbrev pub head_statement : Trigger → Statement
head_statement (Term t) = statement.Eq (Bound 0) t
head_statement (Atom s ts) = statement.Atom s ts

-- at closed terms in place of the loci, where the guards of these derive, the head and the definiens imply each
-- other
abbrev pub Unfolds : List Formula → Unfolding → Type 0
Unfolds ax u =
    (g : List Formula) (ts : List term.Term) → list_all closed ts ≡ true → length ts ≡ length u.loci →
    AllFollow ax g (map (substitute_formula 0 (value_at ts)) (map literal_formula (loci_guards 0 u.loci))) →
    Derives ax g (substitute_formula 0 (value_at ts) (erase (implication (head_statement u.head) u.definiens))) ×
    Derives ax g (substitute_formula 0 (value_at ts) (erase (implication u.definiens (head_statement u.head))))

abbrev pub AllUnfold : List Formula → List Unfolding → Type 0
AllUnfold ax [] = Unit {0}
AllUnfold ax (u ∷ us) = Unfolds ax u × AllUnfold ax us

-- the unfoldings of an item, from what the item grants and owes without premises
abbrev pub UnfoldingLaw : Type 0
UnfoldingLaw = (item : Item) (ax : List Formula) → AllFollow ax [] (item_statements item) → AllUnfold ax (unfoldings_of item)
