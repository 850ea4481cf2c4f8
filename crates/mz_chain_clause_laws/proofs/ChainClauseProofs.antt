-- Clauses say what rows and structures do by which chains go.
use Rattle.std.proofs.Common.{◌≡◌, ◌+◌, Bool, true, ℕ, List, [], ◌∷◌, ◌++◌, length, subst, sym}
use Rattle.std.specs.Prelude.{All, Contains, flat_map}
use Rattle.std.specs.List.{list_all}
use Rattle.std.proofs.lemmas.List.Elements.{Contains-append_left, Contains-append_right}
use Rattle.mz_logic.specs.Term.{Bound}
use Rattle.mz_logic.specs.declared.literal.Literal.{Literal}
use Rattle.mz_core.specs.declared.structure.Structure.{Structure}
use Rattle.mz_core.specs.declared.outcome.Export.{Export}
use Rattle.mz_ground.specs.declared.clause.Clause.{Clause}
use Rattle.mz_items.specs.Closed.{structure_closed}
use Rattle.mz_clauses.specs.Guards.{loci_guards, guard_at_object}
use Rattle.mz_clauses.specs.StructureClauses.{structure_literal}
use Rattle.mz_clauses.specs.Clauses.{typing_clauses, letter_clauses}
use Rattle.mz_axioms.specs.Library.{HasClosedItems}
use Rattle.mz_context.specs.declared.context.Context.{Context}
use Rattle.mz_context.specs.declared.letters.NamedLetter.{NamedLetter}
use Rattle.mz_environment.specs.Rows.{functor_rows, mode_rows, letter_rows}
use Rattle.mz_environment.specs.Environment.{structures_of}
use Rattle.mz_environment.specs.declared.rows.Row.{Row}
use Rattle.mz_environment.specs.declared.environment.Environment.{Environment}
use Rattle.mz_closed_laws.specs.ClosedClauses.{row_closed}
use Rattle.mz_closed_laws.proofs.UnfoldingProofs as closed
use Rattle.mz_row_laws.specs.RowLaws.{row_mode, HasClause, HasTypeClauses, HasParentClauses}
use Rattle.mz_row_laws.proofs.RowProofs.{functor_clause_law, mode_clause_law, letter_clause_law}
use Rattle.mz_types.specs.Known.{clauses_of_letter, letters_clauses, typing}
use Rattle.mz_types.specs.Chain.{rows_of_letter, rows_of_letters}
use Rattle.mz_chain_laws.specs.ChainLaw.{HasPartClauses, HasAggregateClause, HasChainClauses}
use Rattle.mz_chain_laws.proofs.StructureClauses.{structure_clause_law}
use Rattle.mz_env_laws.specs.Entries.{HasTypingOf, IsOfExports, SomeItem, AreOfItems}
use Rattle.mz_env_laws.proofs.EntryProofs.{entry_law}
use Rattle.mz_chain_clause_laws.specs.ChainClauses.{HasClosedLetters, ChainClausesLaw, LetInChainClausesLaw}
use Rattle.mz_chain_clause_laws.proofs.MemberLemmas.{member_passes, from_flat, to_flat}
use Rattle.mz_chain_clause_laws.proofs.PlainProofs.{closed_structure, source_closed, plain_rows_law}

-- clauses of a list are clauses of a longer one
abbrev Among : List Clause → List Clause → Type 0
Among cs ds = (c : Clause) → Contains cs c → Contains ds c

has_among : (n : ℕ) (ps : List Literal) (k : Literal) (cs ds : List Clause) → Among cs ds → HasClause cs n ps k → HasClause ds n ps k
has_among n ps k cs ds among g = (g.0, among g.0 g.1, g.2, g.3, g.4)

types_among : (r : Row) (cs ds : List Clause) → Among cs ds → HasTypeClauses cs r → HasTypeClauses ds r
types_among r cs ds among has k is = has_among (length r.loci) (loci_guards 0 r.loci) k cs ds among (has k is)

parents_among : (r : Row) (cs ds : List Clause) → Among cs ds → HasParentClauses cs r → HasParentClauses ds r
parents_among r cs ds among has k is = has_among (length r.loci + 1) (loci_guards 1 r.loci ++ guard_at_object (row_mode r)) k cs ds among (has k is)

parts_among : (x : Structure) (cs ds : List Clause) → Among cs ds → HasPartClauses cs x → HasPartClauses ds x
parts_among x cs ds among has k is = has_among (length x.loci + 1) (loci_guards 1 x.loci ++ structure_literal 1 x (Bound 0) ∷ []) k cs ds among (has k is)

aggregate_among : (x : Structure) (cs ds : List Clause) → Among cs ds → HasAggregateClause cs x → HasAggregateClause ds x
aggregate_among x cs ds among g = (g.0, among g.0 g.1, g.2, g.3, g.4)

-- the letters in force
letter_row : (ls : List NamedLetter) (r : Row) → ((l : NamedLetter) → Contains ls l → list_all row_closed (letter_rows l.letter) ≡ true) → Contains (rows_of_letters ls) r →
    HasTypeClauses (letters_clauses ls) r × (row_closed r ≡ true)
letter_row ls r closed_letters is =
    let from : (l : NamedLetter) × Contains ls l × Contains (rows_of_letter l) r = from_flat rows_of_letter ls r is in (
      types_among r (letter_clauses from.0.letter) (letters_clauses ls) (λ c in_letter. to_flat clauses_of_letter ls from.0 c from.1 in_letter) (letter_clause_law from.0.letter r from.2),
      member_passes row_closed (letter_rows from.0.letter) r (closed_letters from.0 from.1) from.2,
    )

pub chain_clauses_law : ChainClausesLaw
chain_clauses_law exports e entries all c closed_letters =
    let cs : List Clause = letters_clauses c.letters in
    let let_in : Among e.typing (typing e c) = λ k is. Contains-append_left e.typing cs k is in
    let of_letters : Among cs (typing e c) = λ k is. Contains-append_right e.typing cs k is in
    record {
      functors = λ r is.
          let g : SomeItem (IsOfExports exports) (λ at x. Contains (functor_rows x) r × HasTypingOf e x) = entries.functors r is in (
            types_among r (typing_clauses g.1) (typing e c) (λ k member. let_in k (g.3.1 k member)) (functor_clause_law g.1 r g.3.0),
            member_passes row_closed (functor_rows g.1) r (closed.functor_row_law g.1 (source_closed exports all g.0 g.1 g.2)) g.3.0,
          );
      letters = λ r is.
          let w : HasTypeClauses cs r × (row_closed r ≡ true) = letter_row c.letters r (λ l member. closed.letter_row_law l.letter (closed_letters l member)) is in
          (types_among r cs (typing e c) of_letters w.0, w.1);
      modes = λ r is.
          let g : SomeItem (IsOfExports exports) (λ at x. Contains (mode_rows x) r × HasTypingOf e x) = entries.modes r is in (
            parents_among r (typing_clauses g.1) (typing e c) (λ k member. let_in k (g.3.1 k member)) (mode_clause_law g.1 r g.3.0 ((plain_rows_law exports e entries all).0 r is)),
            member_passes row_closed (mode_rows g.1) r (closed.mode_row_law g.1 (source_closed exports all g.0 g.1 g.2)) g.3.0,
          );
      structures = λ x is.
          let g : SomeItem (IsOfExports exports) (λ at y. Contains (structures_of y) x × HasTypingOf e y) = entries.structures x is in
          let w : HasPartClauses (typing_clauses g.1) x × HasAggregateClause (typing_clauses g.1) x = structure_clause_law g.1 x g.3.0 in
          let on : Among (typing_clauses g.1) (typing e c) = λ k member. let_in k (g.3.1 k member) in
          (parts_among x (typing_clauses g.1) (typing e c) on w.0, aggregate_among x (typing_clauses g.1) (typing e c) on w.1, (closed_structure g.1 x (source_closed exports all g.0 g.1 g.2) g.3.0).1);
      plain = (plain_rows_law exports e entries all).1;
    }

pub let_in_chain_clauses_law : LetInChainClausesLaw
let_in_chain_clauses_law head exports e lets all c closed_letters = chain_clauses_law exports e (entry_law head exports e lets) all c closed_letters
