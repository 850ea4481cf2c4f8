-- Letters of a scheme, declared one after another.
use Rattle.std.specs.Prelude.{◌+◌, Bool, ◌&&◌, not, nat_le, List, [], ◌∷◌, ◌++◌, length, ℕ}
use Rattle.std.specs.List.{filter}
use Rattle.mz_logic.specs.declared.kind.Kind.TheVariants.{LetterFunctor, LetterPredicate}
use Rattle.mz_logic.specs.declared.sym.Sym.{Sym}
use Rattle.mz_core.specs.TypeStatements.{is_of_type}
use Rattle.mz_core.specs.declared.scheme.SchemeLetter.TheVariants.{OfFunctor, OfPredicate}
use Rattle.mz_core.specs.declared.soft_type.SoftType.{SoftType}
use Rattle.mz_items.specs.Loci.{over, term_on}
use Rattle.mz_sizes.specs.Sizes.{statement_keeps}
use Rattle.mz_context.specs.declared.context.Context.{Context}
use Rattle.mz_context.specs.declared.private.PrivateFunctor.{PrivateFunctor}
use Rattle.mz_context.specs.declared.private.PrivatePredicate.{PrivatePredicate}
use Rattle.mz_names.specs.Names.{is_functor_as, is_predicate_as}
use Rattle.mz_tree_heading.specs.declared.patterns.IdentifierTree.{IdentifierTree}

-- the symbol of the next letter of each kind; the letters of an article are numbered from 1, across its schemes
abbrev pub next_functor_letter : Context → Sym
next_functor_letter c = record { article = c.article; kind = LetterFunctor; number = c.counts.functor_letters + 1 }

abbrev pub next_predicate_letter : Context → Sym
next_predicate_letter c = record { article = c.article; kind = LetterPredicate; number = c.counts.predicate_letters + 1 }

abbrev pub is_other_functor : List ℕ → PrivateFunctor → Bool
is_other_functor name f = not (is_functor_as name f)

abbrev pub is_other_predicate : List ℕ → PrivatePredicate → Bool
is_other_predicate name p = not (is_predicate_as name p)

-- with one more letter in force: private functors, or predicates, of its name aren't in force beside it
abbrev pub with_functor_letter : Context → List ℕ → List SoftType → SoftType → Context
with_functor_letter c name tys ty = record c {
  counts = record c.counts { functor_letters = c.counts.functor_letters + 1 };
  functors = filter (is_other_functor name) c.functors;
  letters = c.letters ++ record { name = name; letter = OfFunctor (next_functor_letter c) tys ty } ∷ [];
}

abbrev pub with_predicate_letter : Context → List ℕ → List SoftType → Context
with_predicate_letter c name tys = record c {
  counts = record c.counts { predicate_letters = c.counts.predicate_letters + 1 };
  predicates = filter (is_other_predicate name) c.predicates;
  letters = c.letters ++ record { name = name; letter = OfPredicate (next_predicate_letter c) tys } ∷ [];
}

-- with a letter for each identifier, all with the same types
abbrev pub with_functor_letters : Context → List SoftType → SoftType → List IdentifierTree → Context
with_functor_letters c tys ty [] = c
with_functor_letters c tys ty (w ∷ ws) = with_functor_letters (with_functor_letter c w.name.spelling tys ty) tys ty ws

abbrev pub with_predicate_letters : Context → List SoftType → List IdentifierTree → Context
with_predicate_letters c tys [] = c
with_predicate_letters c tys (w ∷ ws) = with_predicate_letters (with_predicate_letter c w.name.spelling tys) tys ws

-- what the scheme owes by a functor letter's type keeps the limits on nodes and depth; it is made only of few places and adjectives
abbrev pub are_few : {X : Type 0} → List X → Bool
are_few xs = nat_le (length xs) 512

abbrev pub letter_keeps : Sym → List SoftType → SoftType → Bool
letter_keeps s tys ty = (are_few tys && are_few ty.adjectives) && statement_keeps (over tys (is_of_type ty (term_on tys s)))
