-- What a scheme owes, and what a scheme that is an axiom grants.
use Rattle.std.specs.Prelude.{List, [], ◌∷◌, ◌++◌}
use Rattle.mz_core.specs.Statement.{Statement}
use Rattle.mz_core.specs.StatementForms.{implication}
use Rattle.mz_core.specs.Parts.{conjunction}
use Rattle.mz_core.specs.TypeStatements.{is_of_type}
use Rattle.mz_core.specs.TypedSequent.{typed_sequent}
use Rattle.mz_core.specs.declared.typed_sequent.TypedSequent.{TypedSequent}
use Rattle.mz_core.specs.declared.scheme.Scheme.{Scheme}
use Rattle.mz_core.specs.declared.scheme.SchemeLetter.{SchemeLetter}
use Rattle.mz_core.specs.declared.scheme.SchemeLetter.TheVariants.{OfFunctor, OfPredicate}
use Rattle.mz_items.specs.Loci.{over, term_on}

-- the type of a functor letter: for its places holds T(F), also where that is truth
abbrev pub letter_types : List SchemeLetter → List Statement
letter_types [] = []
letter_types (OfFunctor s places ty ∷ ls) = over places (is_of_type ty (term_on places s)) ∷ letter_types ls
letter_types (OfPredicate s places ∷ ls) = letter_types ls

-- from the types of the functor letters and the premises, the conclusion
abbrev pub scheme_sequent : Scheme → TypedSequent
scheme_sequent s = typed_sequent (letter_types s.letters ++ s.premises) s.conclusion

-- the premises imply the conclusion
abbrev pub axiom_scheme_grant : Scheme → Statement
axiom_scheme_grant s = implication (conjunction s.premises) s.conclusion
