-- The letters of a scheme: types without constants and loose indices, the statements of these types, and their clauses.
use Rattle.std.proofs.Common.{◌≡◌, ◌+◌, ◌<◌, inl, inr, ℕ, true, List, [], ◌∷◌, length, map, arith, refl, sym, subst}
use Rattle.std.specs.Prelude.{Bool, ◌&&◌, nat_lt, Contains}
use Rattle.std.specs.List.{list_all}
use Rattle.std.proofs.lemmas.Bool.{ltb-true, false≢true, and_parts, and_from}
use Rattle.mz_logic.specs.Term.{Term, Terms, Bound, Const, App, none, more}
use Rattle.mz_logic.specs.Formula.{Formula}
use Rattle.mz_logic.specs.Derives.{Derives}
use Rattle.mz_logic.proofs.Rules.{hypothesis}
use Rattle.mz_core.specs.Closed.{term_under, args_under, adjective_under, type_under, statement_under, loci_under}
use Rattle.mz_core.specs.Erasure.{erase}
use Rattle.mz_core.specs.Statement.{Statement}
use Rattle.mz_core.specs.TypeStatements.{is_of_type}
use Rattle.mz_core.specs.declared.adjective.Adjective.{Adjective}
use Rattle.mz_core.specs.declared.scheme.SchemeLetter.{SchemeLetter}
use Rattle.mz_core.specs.declared.scheme.SchemeLetter.TheVariants.{OfFunctor, OfPredicate}
use Rattle.mz_core.specs.declared.soft_type.SoftType.{SoftType}
use Rattle.mz_core.proofs.AllLemmas.{is_of_type_all}
use Rattle.mz_ground.specs.ClauseFormula.{clause_formula}
use Rattle.mz_ground.specs.declared.clause.Clause.{Clause}
use Rattle.mz_ground.proofs.ListLemmas.{contains_none, contains_first, contains_later, contains_cases, contains_one, contains_map, map_contains}
use Rattle.mz_items.specs.Closed.{letter_closed}
use Rattle.mz_items.specs.Loci.{over, term_on}
use Rattle.mz_items.specs.SchemeRows.{letter_types}
use Rattle.mz_items.proofs.RowLemmas.{over_under, term_on_under}
use Rattle.mz_clauses.specs.Clauses.{letter_clauses}
use Rattle.mz_clauses.specs.DefinitionClauses.{functor_type_groups}
use Rattle.mz_clause_laws.specs.RowLaws.{AllFollow}
use Rattle.mz_clause_laws.proofs.ItemProofs.{letter_law}
use Rattle.mz_closed_laws.specs.ClosedClauses.{clause_closed}
use Rattle.mz_closed_laws.proofs.DefinitionProofs.{functor_type_closed}
use Rattle.mz_closed_laws.proofs.GroupLemmas.{groups_closed}
use Rattle.mz_choice_laws.proofs.ListParts.{all-flat_map}
use Rattle.mz_chain_clause_laws.proofs.MemberLemmas.{from_flat}
use Rattle.mz_env_laws.proofs.DerivedProofs.{one_follows}
use Rattle.mz_context.specs.declared.letters.NamedLetter.{NamedLetter}
use Rattle.mz_types.specs.Known.{clauses_of_letter, letters_clauses}
use Rattle.mz_block_laws.specs.Met.{AreHeld}
use Rattle.mz_scheme_items.specs.StatesScheme.{letter_in}

-- what has no constant and no loose index stands under any number of binders

nothing_below : (index : ℕ) → index < 0 → ⊥
nothing_below index lt = omega (arith, lt)

no_index : (n : ℕ) (index : ℕ) → nat_lt index 0 ≡ true → nat_lt index n ≡ true
no_index n index h = let lt : index < 0 = ltb-true index 0 h in absurd (nothing_below index lt)

mutual
  term_more : (n : ℕ) (t : Term) → term_under 0 t ≡ true → term_under n t ≡ true
  term_more n (Bound index) h = no_index n index h
  term_more n (Const number) h = absurd (false≢true h)
  term_more n (App s ts) h = args_more n ts h

  args_more : (n : ℕ) (ts : Terms) → args_under 0 ts ≡ true → args_under n ts ≡ true
  args_more n none h = refl
  args_more n (more t ts) h =
      let both : (term_under 0 t ≡ true) × (args_under 0 ts ≡ true) = and_parts (term_under 0 t) (args_under 0 ts) h in
      and_from (term_under n t) (args_under n ts) (term_more n t both.0) (args_more n ts both.1)

all_more : {X : Type 0} (p q : X → Bool) (xs : List X) → ((x : X) → p x ≡ true → q x ≡ true) → list_all p xs ≡ true → list_all q xs ≡ true
all_more p q [] each h = refl
all_more p q (x ∷ xs) each h =
    let both : (p x ≡ true) × (list_all p xs ≡ true) = and_parts (p x) (list_all p xs) h in
    and_from (q x) (list_all q xs) (each x both.0) (all_more p q xs each both.1)

adjective_more : (n : ℕ) (a : Adjective) → adjective_under 0 a ≡ true → adjective_under n a ≡ true
adjective_more n a h = all_more (term_under 0) (term_under n) a.args (term_more n) h

pub type_more : (n : ℕ) (ty : SoftType) → type_under 0 ty ≡ true → type_under n ty ≡ true
type_more n ty h =
    let both : (list_all (adjective_under 0) ty.adjectives ≡ true) × (list_all (term_under 0) ty.radix.args ≡ true) = and_parts (list_all (adjective_under 0) ty.adjectives) (list_all (term_under 0) ty.radix.args) h in
    and_from (list_all (adjective_under n) ty.adjectives) (list_all (term_under n) ty.radix.args) (all_more (adjective_under 0) (adjective_under n) ty.adjectives (adjective_more n) both.0)
    (all_more (term_under 0) (term_under n) ty.radix.args (term_more n) both.1)

-- so places of such types are in order
pub places_closed : (n : ℕ) (tys : List SoftType) → list_all (type_under 0) tys ≡ true → loci_under n tys ≡ true
places_closed n [] h = refl
places_closed n (ty ∷ tys) h =
    let both : (type_under 0 ty ≡ true) × (list_all (type_under 0) tys ≡ true) = and_parts (type_under 0 ty) (list_all (type_under 0) tys) h in
    and_from (type_under n ty) (loci_under (n + 1) tys) (type_more n ty both.0) (places_closed (n + 1) tys both.1)

-- the statements of letters' types

pub types_closed : (ls : List SchemeLetter) → list_all letter_closed ls ≡ true → list_all (statement_under 0) (letter_types ls) ≡ true
types_closed [] h = refl
types_closed (OfFunctor s places ty ∷ ls) h =
    let both = and_parts (letter_closed (OfFunctor s places ty)) (list_all letter_closed ls) h in
    let letter = and_parts (loci_under 0 places) (type_under (length places) ty) both.0 in
    let e : length places ≡ 0 + length places = omega arith in
    let said : statement_under (length places) (is_of_type ty (term_on places s)) ≡ true = is_of_type_all term_under (length places) ty (term_on places s) letter.1 (term_on_under places s) in
    and_from (statement_under 0 (over places (is_of_type ty (term_on places s)))) (list_all (statement_under 0) (letter_types ls))
    (over_under 0 places (is_of_type ty (term_on places s)) letter.0 (subst (λ (m : ℕ). statement_under m (is_of_type ty (term_on places s)) ≡ true) e said)) (types_closed ls both.1)
types_closed (OfPredicate s places ∷ ls) h =
    let both = and_parts (letter_closed (OfPredicate s places)) (list_all letter_closed ls) h in
    types_closed ls both.1

-- the statement of one letter's type is among those of all
one_type : (ls : List SchemeLetter) (l : SchemeLetter) (t : Statement) → Contains ls l → Contains (letter_types (l ∷ [])) t → Contains (letter_types ls) t
one_type [] l t is h = absurd (contains_none l is)
one_type (OfFunctor s places ty ∷ ls) l t is h = elim (contains_cases (OfFunctor s places ty) l ls is) [
  | inl same ↦
      let one : Contains (letter_types (OfFunctor s places ty ∷ [])) t = subst (λ (k : SchemeLetter). Contains (letter_types (k ∷ [])) t) (sym same) h in
      subst (λ u. Contains (letter_types (OfFunctor s places ty ∷ ls)) u) (contains_one (over places (is_of_type ty (term_on places s))) t one) (contains_first (over places (is_of_type ty (term_on places s))) (letter_types ls))
  | inr later ↦ contains_later (over places (is_of_type ty (term_on places s))) t (letter_types ls) (one_type ls l t later h)
]
one_type (OfPredicate s places ∷ ls) l t is h = elim (contains_cases (OfPredicate s places) l ls is) [
  | inl same ↦
      let one : Contains (letter_types (OfPredicate s places ∷ [])) t = subst (λ (k : SchemeLetter). Contains (letter_types (k ∷ [])) t) (sym same) h in
      absurd (contains_none t one)
  | inr later ↦ one_type ls l t later h
]

-- their clauses

letter_clauses_closed : (l : SchemeLetter) → letter_closed l ≡ true → list_all clause_closed (letter_clauses l) ≡ true
unfolding letter_clauses
letter_clauses_closed (OfFunctor s places ty) h =
    let letter = and_parts (loci_under 0 places) (type_under (length places) ty) h in
    groups_closed (functor_type_groups places (term_on places s) ty) (functor_type_closed places (term_on places s) ty letter.0 (term_on_under places s) letter.1)
letter_clauses_closed (OfPredicate s places) h = refl

pub clauses_closed : (ls : List NamedLetter) → ((l : NamedLetter) → Contains ls l → letter_closed l.letter ≡ true) → list_all clause_closed (letters_clauses ls) ≡ true
clauses_closed ls each = all-flat_map clause_closed clauses_of_letter ls (λ l is. letter_clauses_closed l.letter (each l is))

each_follows : (ax g fs : List Formula) → ((f : Formula) → Contains fs f → Derives ax g f) → AllFollow ax g fs
each_follows ax g [] each = tt
each_follows ax g (f ∷ fs) each = (each f (contains_first f fs), each_follows ax g fs (λ h is. each h (contains_later f h fs is)))

pub clauses_held : (ax : List Formula) (ls : List NamedLetter) → AreHeld ax (map erase (letter_types (map letter_in ls))) (letters_clauses ls)
clauses_held ax ls k is =
    let held : List Formula = map erase (letter_types (map letter_in ls)) in
    let from : (l : NamedLetter) × Contains ls l × Contains (clauses_of_letter l) k = from_flat clauses_of_letter ls k is in
    let letter : SchemeLetter = letter_in from.0 in
    let among : (f : Formula) → Contains (map erase (letter_types (letter ∷ []))) f → Derives ax held f =
    λ f there.
    let t : (t : Statement) × Contains (letter_types (letter ∷ [])) t × (erase t ≡ f) = contains_map erase (letter_types (letter ∷ [])) f there in
    hypothesis ax held f (subst (Contains held) t.2 (map_contains erase (letter_types (map letter_in ls)) t.0 (one_type (map letter_in ls) letter t.0 (map_contains letter_in ls from.0 from.1) t.1)))
    in
    one_follows ax held (letter_clauses letter) k (letter_law letter ax held (each_follows ax held (map erase (letter_types (letter ∷ []))) among)) from.2
