-- The radices of a chain are of known constants.
use Rattle.std.proofs.Common.{◌≡◌, ℕ, List, [], ◌∷◌, ◌++◌, refl, sym, Bool, true, Option, Some, None}
use Rattle.std.specs.List.{list_all}
use Rattle.std.proofs.lemmas.Bool.{and_parts, and_from}
use Rattle.mz_logic.specs.Term.{Term}
use Rattle.mz_core.specs.declared.radix.Radix.{Radix}
use Rattle.mz_core.proofs.AllLemmas.{all-append}
use Rattle.mz_items.proofs.RowLemmas.{all-reverse}
use Rattle.mz_context.specs.declared.context.Context.{Context}
use Rattle.mz_ground.specs.declared.clause.Clause.{Clause}
use Rattle.mz_environment.specs.declared.environment.Environment.{Environment}
use Rattle.mz_closed_laws.specs.ClosedClauses.{row_closed}
use Rattle.mz_closed_laws.specs.ClosedEnvironment.{IsClosedEnvironment}
use Rattle.mz_closed_laws.proofs.UnfoldingProofs.{letter_row_law}
use Rattle.mz_types.specs.Chain as ch
use Rattle.mz_types.specs.Chain.{chain_end, Parents, Visited, Walks, walked, visits, Begins, IsChain, chain_of, radix_if_any, rows_of_letter, rows_of_letters}
use Rattle.mz_choice_laws.specs.Known.{term_known, adjective_known, radix_known, HasKnownTypes}
use Rattle.mz_choice_laws.specs.KnownLaws.{KnownChainLaw}
use Rattle.mz_choice_laws.proofs.ListParts.{all-flat_map}
use Rattle.mz_choice_laws.proofs.KnownMatches.{arguments_known}
use Rattle.mz_choice_laws.proofs.KnownRows.{rows_known, ancestors_known, aggregate_known, first_known}

parents_known : (known : ℕ → Bool) (cs : List Clause) (e : Environment) (c : Context) → IsClosedEnvironment e → (r : Radix) → radix_known known 0 r ≡ true → (xs : List Radix) → Parents cs e c r xs → list_all (radix_known known 0) xs ≡ true
parents_known known cs e c ce r kr xs (ch.of_mode ys k rows) = all-reverse (radix_known known 0) ys (rows_known known cs c.constants r.sym r.args kr e.modes ce.modes ys rows)
parents_known known cs e c ce r kr xs (ch.of_structure ys k a) = ancestors_known known cs c.constants e.structures ce.structures r kr ys a
parents_known known cs e c ce r kr xs (ch.of_other k l) = refl

visited_known : (known : ℕ → Bool) (cs : List Clause) (e : Environment) (c : Context) → IsClosedEnvironment e → (out : List Radix) (r : Radix) (xs after : List Radix) → Visited cs e c out r xs after → list_all (radix_known known 0) out ≡ true → radix_known known 0 r ≡ true → (list_all (radix_known known 0) xs ≡ true) × (list_all (radix_known known 0) after ≡ true)
visited_known known cs e c ce out r xs after (ch.left_out l) ho kr = (refl, ho)
visited_known known cs e c ce out r xs after (ch.taken ys l p) ho kr =
    (parents_known known cs e c ce r kr ys p, all-append (radix_known known 0) out (r ∷ []) ho (and_from (radix_known known 0 r) true kr refl))

walk_known : (known : ℕ → Bool) (cs : List Clause) (e : Environment) (c : Context) → IsClosedEnvironment e → (todo out end : List Radix) → Walks cs e c todo out end → list_all (radix_known known 0) todo ≡ true → list_all (radix_known known 0) out ≡ true → list_all (radix_known known 0) end ≡ true
walk_known known cs e c ce todo out end (walked o) ht ho = ho
walk_known known cs e c ce todo out end (visits r others xs o between last v w) ht ho =
    let both : (radix_known known 0 r ≡ true) × (list_all (radix_known known 0) others ≡ true) = and_parts (radix_known known 0 r) (list_all (radix_known known 0) others) ht in
    let b : (list_all (radix_known known 0) xs ≡ true) × (list_all (radix_known known 0) between ≡ true) = visited_known known cs e c ce o r xs between v ho both.0 in
    walk_known known cs e c ce (xs ++ others) between last w (all-append (radix_known known 0) xs others b.0 both.1) b.1

one_if_any : (known : ℕ → Bool) (o : Option Radix) → ((y : Radix) → o ≡ Some y → radix_known known 0 y ≡ true) → list_all (radix_known known 0) (radix_if_any o) ≡ true
one_if_any known None f = refl
one_if_any known (Some y) f = and_from (radix_known known 0 y) true (f y refl) refl

letters_closed : (known : ℕ → Bool) (c : Context) → HasKnownTypes known c → list_all row_closed (rows_of_letters c.letters) ≡ true
letters_closed known c h = all-flat_map row_closed rows_of_letter c.letters (λ l k. letter_row_law l.letter (h.letters l k))

mutual
  begins_known : (known : ℕ → Bool) (cs : List Clause) (e : Environment) (c : Context) → IsClosedEnvironment e → HasKnownTypes known c → (t : Term) (xs : List Radix) → Begins cs e c t xs → term_known known 0 t ≡ true → list_all (radix_known known 0) xs ≡ true
  begins_known known cs e c ce h t xs (ch.constant n k i) kt =
      and_from (radix_known known 0 k.ty.radix) true (and_parts (list_all (adjective_known known 0) k.ty.adjectives) (list_all (term_known known 0) k.ty.radix.args) (h.constants n k i kt)).1 refl
  begins_known known cs e c ce h t xs (ch.no_constant n i) kt = refl
  begins_known known cs e c ce h t xs (ch.index i) kt = refl
  begins_known known cs e c ce h t xs (ch.functor s ts ys k rows) kt =
      all-reverse (radix_known known 0) ys (rows_known known cs c.constants s ts (arguments_known known s ts kt) e.functors ce.functors ys rows)
  begins_known known cs e c ce h t xs (ch.letter s ts ys k rows) kt =
      all-reverse (radix_known known 0) ys (rows_known known cs c.constants s ts (arguments_known known s ts kt) (rows_of_letters c.letters) (letters_closed known c h) ys rows)
  begins_known known cs e c ce h t xs (ch.aggregate s ts o k a) kt =
      one_if_any known o (λ y i. aggregate_known known cs c.constants e.structures s ts (arguments_known known s ts kt) o a y i)
  begins_known known cs e c ce h t xs (ch.selector s u members o k m f) kt =
      let ku : term_known known 0 u ≡ true = (and_parts (term_known known 0 u) true (arguments_known known s (u ∷ []) kt)).0 in
      one_if_any known o (λ y i. first_known known cs c.constants e.structures ce.structures s u ku members (chain_known known cs e c ce h u members m ku) o f y i)
  begins_known known cs e c ce h t xs (ch.no_selection s ts k n) kt = refl
  begins_known known cs e c ce h t xs (ch.other s ts k) kt = refl

  chain_known : (known : ℕ → Bool) (cs : List Clause) (e : Environment) (c : Context) → IsClosedEnvironment e → HasKnownTypes known c → (t : Term) (rs : List Radix) → IsChain cs e c t rs → term_known known 0 t ≡ true → list_all (radix_known known 0) rs ≡ true
  chain_known known cs e c ce h t rs (chain_of u first out b w) kt =
      all-append (radix_known known 0) out chain_end (walk_known known cs e c ce first [] out w (begins_known known cs e c ce h u first b kt) refl) refl

pub known_chain_law : KnownChainLaw
known_chain_law known cs e c ce h t rs kt chain = chain_known known cs e c ce h t rs chain kt
