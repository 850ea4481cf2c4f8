-- Proofs that rows and structures have their clauses, and clauses their exports.
use Rattle.std.proofs.Common.{◌≡◌, ◌+◌, ◌⊎◌, inl, inr, List, [], ◌∷◌, ◌++◌, length, sym, subst, false}
use Rattle.std.specs.Prelude.{Contains, flat_map}
use Rattle.std.proofs.lemmas.List.Elements.{Contains-append_left, Contains-append_right, Contains-append_cases}
use Rattle.mz_logic.specs.declared.literal.Literal.{Literal}
use Rattle.mz_core.specs.Hidden.{is_of_any_object}
use Rattle.mz_core.specs.declared.structure.Structure.{Structure}
use Rattle.mz_core.specs.declared.item.Item.{Item}
use Rattle.mz_core.specs.declared.item.Item.TheVariants as item
use Rattle.mz_core.specs.declared.outcome.Export.{Export}
use Rattle.mz_ground.specs.declared.clause.Clause.{Clause}
use Rattle.mz_clauses.specs.Guards.{loci_guards, guard_at_object}
use Rattle.mz_clauses.specs.Groups.{groups_clauses}
use Rattle.mz_clauses.specs.StructureClauses.{part_groups, aggregate_groups}
use Rattle.mz_clauses.specs.Clauses.{typing_clauses, further_clauses, equality_clauses, item_clauses, clauses_of}
use Rattle.mz_environment.specs.Rows.{functor_rows, mode_rows}
use Rattle.mz_environment.specs.Environment.{joined, of_item, structures_of}
use Rattle.mz_environment.specs.declared.rows.Row.{Row}
use Rattle.mz_environment.specs.declared.numbering.Numbering.{Numbering}
use Rattle.mz_environment.specs.declared.environment.Environment.{Environment}
use Rattle.mz_row_laws.specs.RowLaws.{row_mode, HasClause, HasTypeClauses, HasParentClauses}
use Rattle.mz_row_laws.proofs.MemberLemmas.{in_one}
use Rattle.mz_row_laws.proofs.RowProofs.{functor_row_law, mode_row_law, functor_clause_law, mode_clause_law}
use Rattle.mz_env_laws.specs.Entries.{IsOfExports, HasTypingOf, SomeItem, AreOfItems}
use Rattle.mz_env_laws.specs.LetInLaws.{HasRowClauses, RowClausesLaw, GivenRowsLaw, JoinedRowsLaw, IsClauseOf, ClauseLaw}
use Rattle.mz_env_laws.proofs.Along.{in_none, first_or_later, stands_member}
use Rattle.mz_env_laws.proofs.EntryProofs.{Among, entries_given, entry_law}

-- with more clauses
types_among : (r : Row) (cs ds : List Clause) → Among cs ds → HasTypeClauses cs r → HasTypeClauses ds r
types_among r cs ds among has k is = let g : HasClause cs (length r.loci) (loci_guards 0 r.loci) k = has k is in (g.0, among g.0 g.1, g.2, g.3, g.4)

parents_among : (r : Row) (cs ds : List Clause) → Among cs ds → HasParentClauses cs r → HasParentClauses ds r
parents_among r cs ds among has k is = let g : HasClause cs (length r.loci + 1) (loci_guards 1 r.loci ++ guard_at_object (row_mode r)) k = has k is in (g.0, among g.0 g.1, g.2, g.3, g.4)

-- the clauses of a structure are typing clauses of its item
structure_clauses : (x : Item) (s : Structure) → Contains (structures_of x) s → (c : Clause) → Contains (groups_clauses (part_groups s ++ aggregate_groups s)) c → Contains (typing_clauses x) c
structure_clauses (item.Axiom x) s is c has = absurd (in_none s is)
structure_clauses (item.AxiomScheme x) s is c has = absurd (in_none s is)
structure_clauses (item.Primitive x) s is c has = absurd (in_none s is)
structure_clauses (item.Theorem x) s is c has = absurd (in_none s is)
structure_clauses (item.Scheme x) s is c has = absurd (in_none s is)
structure_clauses (item.FunctorMeans x) s is c has = absurd (in_none s is)
structure_clauses (item.FunctorEquals x) s is c has = absurd (in_none s is)
structure_clauses (item.Predicate x) s is c has = absurd (in_none s is)
structure_clauses (item.Attribute x) s is c has = absurd (in_none s is)
structure_clauses (item.ModeMeans x) s is c has = absurd (in_none s is)
structure_clauses (item.Abbreviation x) s is c has = absurd (in_none s is)
structure_clauses (item.Notation x) s is c has = absurd (in_none s is)
structure_clauses (item.RedefinedFunctor x) s is c has = absurd (in_none s is)
structure_clauses (item.RedefinedMode x) s is c has = absurd (in_none s is)
structure_clauses (item.RedefinedPredicate x) s is c has = absurd (in_none s is)
structure_clauses (item.RedefinedAttribute x) s is c has = absurd (in_none s is)
structure_clauses (item.Property x) s is c has = absurd (in_none s is)
structure_clauses (item.Existential x) s is c has = absurd (in_none s is)
structure_clauses (item.Conditional x) s is c has = absurd (in_none s is)
structure_clauses (item.Functorial x) s is c has = absurd (in_none s is)
structure_clauses (item.Reduction x) s is c has = absurd (in_none s is)
structure_clauses (item.Identification x) s is c has = absurd (in_none s is)
structure_clauses (item.Structure t) s is c has = subst (λ (k : Structure). Contains (groups_clauses (part_groups k ++ aggregate_groups k)) c) (sym (in_one t s is)) has
structure_clauses (item.SetTerm x) s is c has = absurd (in_none s is)
structure_clauses (item.Choice x) s is c has = absurd (in_none s is)

-- of entries that come from items
pub rows_of_entries : (source : Numbering → Item → Type 0) (e : Environment) → AreOfItems source e → HasRowClauses e
rows_of_entries source e p = record {
  functors = λ r is c in_row. let g : SomeItem source (λ at x. Contains (functor_rows x) r × HasTypingOf e x) = p.functors r is in g.3.1 c (functor_row_law g.1 r g.3.0 c in_row);
  modes = λ r is c in_row. let g : SomeItem source (λ at x. Contains (mode_rows x) r × HasTypingOf e x) = p.modes r is in g.3.1 c (mode_row_law g.1 r g.3.0 c in_row);
  structures = λ s is c of_it. let g : SomeItem source (λ at x. Contains (structures_of x) s × HasTypingOf e x) = p.structures s is in g.3.1 c (structure_clauses g.1 s g.3.0 c of_it);
  types = λ r is. let g : SomeItem source (λ at x. Contains (functor_rows x) r × HasTypingOf e x) = p.functors r is in types_among r (typing_clauses g.1) e.typing g.3.1 (functor_clause_law g.1 r g.3.0);
  parents = λ r is other. let g : SomeItem source (λ at x. Contains (mode_rows x) r × HasTypingOf e x) = p.modes r is in parents_among r (typing_clauses g.1) e.typing g.3.1 (mode_clause_law g.1 r g.3.0 other);
}

pub row_clauses_law : RowClausesLaw
row_clauses_law head exports e v = rows_of_entries (IsOfExports exports) e (entry_law head exports e v)

pub given_rows_law : GivenRowsLaw
given_rows_law at x = rows_of_entries (λ there y. Unit {0}) (of_item at x) (entries_given (λ there y. Unit {0}) at x tt)

pub joined_rows_law : JoinedRowsLaw
joined_rows_law e f p q =
    let left : Among e.typing (e.typing ++ f.typing) = λ c is. Contains-append_left e.typing f.typing c is in
    let right : Among f.typing (e.typing ++ f.typing) = λ c is. Contains-append_right e.typing f.typing c is in
    record {
      functors = λ r is c in_row. elim (Contains-append_cases e.functors f.functors r is) [ inl front ↦ left c (p.functors r front c in_row) | inr back ↦ right c (q.functors r back c in_row) ];
      modes = λ r is c in_row. elim (Contains-append_cases e.modes f.modes r is) [ inl front ↦ left c (p.modes r front c in_row) | inr back ↦ right c (q.modes r back c in_row) ];
      structures = λ s is c of_it. elim (Contains-append_cases e.structures f.structures s is) [ inl front ↦ left c (p.structures s front c of_it) | inr back ↦ right c (q.structures s back c of_it) ];
      types = λ r is. elim (Contains-append_cases e.functors f.functors r is) [ inl front ↦ types_among r e.typing (e.typing ++ f.typing) left (p.types r front) | inr back ↦ types_among r f.typing (e.typing ++ f.typing) right (q.types r back) ];
      parents = λ r is other. elim (Contains-append_cases e.modes f.modes r is) [ inl front ↦ parents_among r e.typing (e.typing ++ f.typing) left (p.parents r front other) | inr back ↦ parents_among r f.typing (e.typing ++ f.typing) right (q.parents r back other) ];
    }

-- clauses of exports
in_items : (xs : List Item) (x : Item) (c : Clause) → Contains xs x → Contains (item_clauses x) c → Contains (flat_map item_clauses xs) c
in_items [] x c is has = absurd (in_none x is)
in_items (y ∷ ys) x c is has =
    elim (first_or_later y x ys is) [
      | inl same ↦ Contains-append_left (item_clauses y) (flat_map item_clauses ys) c (subst (λ z. Contains (item_clauses z) c) (sym same) has)
      | inr later ↦ Contains-append_right (item_clauses y) (flat_map item_clauses ys) c (in_items ys x c later has)
    ]

of_export : (exports : List Export) (c : Clause) (P : Item → Type 0) → ((x : Item) → P x → Contains (item_clauses x) c) → SomeItem (IsOfExports exports) (λ at x. P x) → IsClauseOf exports c
unfolding clauses_of
of_export exports c P turn g = (g.2.0, g.2.1, in_items g.2.0.items g.1 c (stands_member g.2.2) (turn g.1 g.3))

pub of_typing : (x : Item) (c : Clause) → Contains (typing_clauses x) c → Contains (item_clauses x) c
unfolding item_clauses
of_typing x c is = Contains-append_left (typing_clauses x ++ further_clauses x) (equality_clauses x) c (Contains-append_left (typing_clauses x) (further_clauses x) c is)

pub of_further : (x : Item) (c : Clause) → Contains (further_clauses x) c → Contains (item_clauses x) c
unfolding item_clauses
of_further x c is = Contains-append_left (typing_clauses x ++ further_clauses x) (equality_clauses x) c (Contains-append_right (typing_clauses x) (further_clauses x) c is)

pub of_equalities : (x : Item) (c : Clause) → Contains (equality_clauses x) c → Contains (item_clauses x) c
unfolding item_clauses
of_equalities x c is = Contains-append_right (typing_clauses x ++ further_clauses x) (equality_clauses x) c is

pub clause_law : ClauseLaw
clause_law head exports e v c is =
    let p : AreOfItems (IsOfExports exports) e = entry_law head exports e v in
    elim (Contains-append_cases (e.typing ++ e.further) e.equalities c is) [
      | inl front ↦ elim (Contains-append_cases e.typing e.further c front) [
        | inl first ↦ of_export exports c (λ x. Contains (typing_clauses x) c) (λ x has. of_typing x c has) (p.typing c first)
        | inr second ↦ of_export exports c (λ x. Contains (further_clauses x) c) (λ x has. of_further x c has) (p.further c second)
      ]
      | inr back ↦ of_export exports c (λ x. Contains (equality_clauses x) c) (λ x has. of_equalities x c has) (p.equalities c back)
    ]
