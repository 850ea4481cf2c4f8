-- What a chain says of its term derives.
use Rattle.std.specs.Prelude.{◌≡◌, ℕ, ◌+◌, true, false, List, [], ◌∷◌, ◌++◌, length, Some, Contains}
use Rattle.std.specs.List.{list_all}
use Rattle.mz_logic.specs.Term.{Term, Bound}
use Rattle.mz_logic.specs.Formula.{Formula}
use Rattle.mz_logic.specs.Indices.{closed}
use Rattle.mz_logic.specs.Derives.{Derives}
use Rattle.mz_logic.specs.declared.literal.Literal.{Literal}
use Rattle.mz_core.specs.Hidden.{is_of_any_object}
use Rattle.mz_core.specs.Guard.{guard}
use Rattle.mz_core.specs.declared.radix.Radix.{Radix}
use Rattle.mz_core.specs.declared.soft_type.SoftType.{SoftType}
use Rattle.mz_core.specs.declared.structure.Structure.{Structure}
use Rattle.mz_core.specs.declared.item.Item.{Item}
use Rattle.mz_context.specs.declared.constants.Constant.{Constant}
use Rattle.mz_context.specs.declared.context.Context.{Context}
use Rattle.mz_context.specs.Context.{constant_at}
use Rattle.mz_items.specs.Loci.{variables}
use Rattle.mz_items.specs.Closed.{structure_closed}
use Rattle.mz_items.specs.StructureRows.{aggregate, given_values}
use Rattle.mz_ground.specs.declared.clause.Clause.{Clause}
use Rattle.mz_clauses.specs.Clauses.{typing_clauses}
use Rattle.mz_clauses.specs.Guards.{loci_guards}
use Rattle.mz_clauses.specs.StructureClauses.{structure_literal, structure_parts, given_guards}
use Rattle.mz_environment.specs.Environment.{structures_of}
use Rattle.mz_environment.specs.declared.rows.Row.{Row}
use Rattle.mz_environment.specs.declared.environment.Environment.{Environment}
use Rattle.mz_closed_laws.specs.ClosedClauses.{row_closed}
use Rattle.mz_row_laws.specs.RowLaws.{HasClause, HasTypeClauses, HasParentClauses}
use Rattle.mz_fits.specs.Laws.{AreGranted}
use Rattle.mz_types.specs.Known.{typing}
use Rattle.mz_types.specs.Chain.{rows_of_letters, IsChain}

-- where the guards of the loci and the structure's atom hold of a further variable, the ancestors' guards at it, and
-- the guard of each field's type at the field
abbrev pub HasPartClauses : List Clause → Structure → Type 0
HasPartClauses cs x =
    (k : Literal) → Contains (structure_parts x) k →
    HasClause cs (length x.loci + 1) (loci_guards 1 x.loci ++ structure_literal 1 x (Bound 0) ∷ []) k

-- the aggregate of variables for a structure's fields
abbrev pub made_of_variables : Structure → Term
made_of_variables x = aggregate (length x.fields) x (variables 0 (length x.fields))

-- where the guards of the loci and of the fields' types hold of variables, the structure's atom of their aggregate
abbrev pub HasAggregateClause : List Clause → Structure → Type 0
HasAggregateClause cs x =
    HasClause cs (length x.loci + length x.fields)
    (loci_guards (length x.fields) x.loci ++ given_guards (given_values x (length x.fields) (made_of_variables x)) x.fields (variables 0 (length x.fields)))
    (structure_literal (length x.fields) x (made_of_variables x))

-- the typing clauses of a structure's item are such
abbrev pub StructureClauseLaw : Type 0
StructureClauseLaw =
    (item : Item) (x : Structure) → Contains (structures_of item) x → HasPartClauses (typing_clauses item) x × HasAggregateClause (typing_clauses item) x

-- what rows and structures say, clauses say; none has a loose index, and no structure is `object` or `set`
pub record HasChainClauses (cs : List Clause) (e : Environment) (c : Context) : Type 0 where
  pub functors : (r : Row) → Contains e.functors r → HasTypeClauses cs r × (row_closed r ≡ true)
  pub letters : (r : Row) → Contains (rows_of_letters c.letters) r → HasTypeClauses cs r × (row_closed r ≡ true)
  pub modes : (r : Row) → Contains e.modes r → HasParentClauses cs r × (row_closed r ≡ true)
  pub structures : (x : Structure) → Contains e.structures x → HasPartClauses cs x × HasAggregateClause cs x × (structure_closed x ≡ true)
  pub plain : (x : Structure) → Contains e.structures x → is_of_any_object x.sym ≡ false

-- no radix of a constant has a loose index
abbrev pub HasClosedRadices : Context → Type 0
HasClosedRadices c = (n : ℕ) (k : Constant) → constant_at c n ≡ Some k → list_all closed k.ty.radix.args ≡ true

-- a radix as a type without adjectives
abbrev pub as_type : Radix → SoftType
as_type r = record { adjectives = []; radix = r }

-- the guard of each radix of a closed term's chain, at the term, derives from what is known of the constants and from
-- the clauses
abbrev pub ChainLaw : Type 0
ChainLaw =
    (axioms premises : List Formula) (e : Environment) (c : Context) → AreGranted axioms premises (typing e c) c.constants →
    HasChainClauses (typing e c) e c → HasClosedRadices c →
    (t : Term) → closed t ≡ true → (rs : List Radix) → IsChain (typing e c) e c t rs →
    (r : Radix) → Contains rs r → (f : Formula) → Contains (guard (as_type r) t) f → Derives axioms premises f
