-- Where a scheme fits, the statement derives.
use Rattle.std.proofs.Common.{◌≡◌, ◌≤◌, ℕ, zero, suc, List, [], ◌∷◌, ◌++◌, map, refl, ap, sym, ◌∙◌, subst, arith, Bool, true, false}
use Rattle.std.specs.Prelude.{Option, Some, None, Contains, ◌&&◌}
use Rattle.std.specs.List.{list_all}
use Rattle.std.proofs.lemmas.Bool.{and_parts}
use Rattle.std.proofs.lemmas.List.{map-append}
use Rattle.mz_logic.specs.Formula.{Formula}
use Rattle.mz_logic.specs.Same.{exchanged}
use Rattle.mz_logic.specs.Instance.{instance}
use Rattle.mz_logic.specs.Derives.{Derives}
use Rattle.mz_logic.specs.declared.letters.Letter.{Letter}
use Rattle.mz_logic.proofs.Rules.{instance_of}
use Rattle.mz_logic.proofs.Equivalence.{same_derives}
use Rattle.mz_logic.proofs.Each.{Each, cut_each, each_none, each_more, each_append, the_first, a_later}
use Rattle.mz_core.specs.Statement.{Statement}
use Rattle.mz_core.specs.Closed.{statement_under}
use Rattle.mz_core.specs.Erasure.{erase}
use Rattle.mz_core.specs.InForce.{statement_in_force}
use Rattle.mz_core.specs.declared.scheme.Scheme.{Scheme}
use Rattle.mz_core.specs.declared.scheme.SchemeLetter.{SchemeLetter}
use Rattle.mz_core.specs.declared.scheme.SchemeLetter.TheVariants.{OfFunctor, OfPredicate}
use Rattle.mz_core.proofs.LawProofs.{erasure_in_force, more_in_force}
use Rattle.mz_items.specs.Closed.{letter_closed, scheme_closed}
use Rattle.mz_items.specs.SchemeRows.{letter_types, scheme_sequent}
use Rattle.mz_context.specs.Context.{numbers}
use Rattle.mz_context.specs.declared.constants.Constant.{Constant}
use Rattle.mz_ground.specs.declared.clause.Clause.{Clause}
use Rattle.mz_fits.specs.Laws.{AreGranted}
use Rattle.mz_thesis_laws.specs.RowLaws.{AreInForce}
use Rattle.mz_obligations.specs.declared.obligation.SchemeVerdict.TheVariants.{Fits}
use Rattle.mz_following.specs.Following.{followed}
use Rattle.mz_following.proofs.InForce.{AreFixedInForce, followed_in_force}
use Rattle.mz_from.specs.Letters.{LettersFit}
use Rattle.mz_from.specs.Verdict.{fixed_by_conclusion, followed_premises, fixed_by_all, IsInstance, Differs, none_left, this_one, not_this, IsVerdict, other_count, other_conclusion, unfit_by_conclusion, other_premise, unfit, fits}
use Rattle.mz_from_laws.specs.Laws.{IsDerivedScheme, FromLaw}
use Rattle.mz_from_laws.proofs.TypeLaws.{letter_type}

-- what the letters are fixed to has constants in force alone
premises_in_force : (n : ℕ) (ps ss : List Statement) (ls : List Letter) → list_all (statement_in_force n) ss ≡ true → AreFixedInForce n ls → AreFixedInForce n (followed_premises ps ss ls)
premises_in_force n [] ss ls hs h = h
premises_in_force n (p ∷ ps) [] ls hs h = h
premises_in_force n (p ∷ ps) (s ∷ ss) ls hs h =
    let both : (statement_in_force n s ≡ true) × (list_all (statement_in_force n) ss ≡ true) = and_parts (statement_in_force n s) (list_all (statement_in_force n) ss) hs in
    premises_in_force n ps ss (followed (erase p) (erase s) ls) both.1 (followed_in_force n (erase p) (erase s) ls (erasure_in_force n s both.0) h)

all_in_force : (m n : ℕ) (ss : List Statement) → m ≤ n → list_all (statement_in_force m) ss ≡ true → list_all (statement_in_force n) ss ≡ true
all_in_force m n [] le h = refl
all_in_force m n (s ∷ ss) le h =
    let both : (statement_in_force m s ≡ true) × (list_all (statement_in_force m) ss ≡ true) = and_parts (statement_in_force m s) (list_all (statement_in_force m) ss) h in
    λ i. more_in_force m n s le both.0 i && all_in_force m n ss le both.1 i

fixed_in_force : (least : ℕ) (scheme : Scheme) (cited : List Statement) (s : Statement) → list_all (statement_in_force least) (s ∷ cited) ≡ true → (m : ℕ) → least ≤ m → AreFixedInForce m (fixed_by_all scheme cited s)
fixed_in_force least scheme cited s h m le =
    let there : list_all (statement_in_force m) (s ∷ cited) ≡ true = all_in_force least m (s ∷ cited) le h in
    let both : (statement_in_force m s ≡ true) × (list_all (statement_in_force m) cited ≡ true) = and_parts (statement_in_force m s) (list_all (statement_in_force m) cited) there in
    premises_in_force m scheme.premises cited (fixed_by_conclusion scheme s) both.1 (followed_in_force m (erase scheme.conclusion) (erase s) [] (erasure_in_force m s both.0) refl)

-- the types of the letters
types_derive : (ax g : List Formula) (cs : List Clause) (ks : List (Option Constant)) → AreGranted ax g cs ks → AreInForce (numbers ks) g → (ls : List Letter) → ((m : ℕ) → numbers ks ≤ m → AreFixedInForce m ls) → (xs : List SchemeLetter) → list_all letter_closed xs ≡ true → LettersFit cs ks ls xs → Each ax g (map (instance ls) (map erase (letter_types xs)))
types_derive ax g cs ks grants in_g ls fixed [] closed h = each_none ax g
types_derive ax g cs ks grants in_g ls fixed (OfFunctor s places ty ∷ xs) closed h =
    let both : (letter_closed (OfFunctor s places ty) ≡ true) × (list_all letter_closed xs ≡ true) = and_parts (letter_closed (OfFunctor s places ty)) (list_all letter_closed xs) closed in
    each_more ax g _ _ (letter_type ax g cs ks grants in_g ls fixed s places ty both.0 h.0.1 h.0.2) (types_derive ax g cs ks grants in_g ls fixed xs both.1 h.1)
types_derive ax g cs ks grants in_g ls fixed (OfPredicate s places ∷ xs) closed h =
    types_derive ax g cs ks grants in_g ls fixed xs (and_parts (letter_closed (OfPredicate s places)) (list_all letter_closed xs) closed).1 h.1

-- the premises
premises_derive : (ax g : List Formula) (ls : List Letter) (above : ℕ) (ps ss : List Statement) → Differs ls above ps ss None → ((c : Statement) → Contains ss c → Derives ax g (erase c)) → Each ax g (map (instance ls) (map erase ps))
premises_derive ax g ls above [] ss d h = each_none ax g
premises_derive ax g ls above (p ∷ ps) [] d h = elim d [ ]
premises_derive ax g ls above (p ∷ ps) (s ∷ ss) (not_this a y t qs ts o is d) h =
    each_more ax g _ _ (same_derives ax g (erase s) (instance ls (erase p)) (exchanged (instance ls (erase p)) (erase s) is) (h s (0, omega arith, refl)))
    (premises_derive ax g ls (suc above) ps ss d (λ c in_ss. h c (later s c ss in_ss)))
  where
    later : (s c : Statement) (ss : List Statement) → Contains ss c → Contains (s ∷ ss) c
    later s c ss (i, lt, e) = (suc i, omega (arith, lt), e)

fitting : (ax g : List Formula) (cs : List Clause) (ks : List (Option Constant)) → AreGranted ax g cs ks → AreInForce (numbers ks) g → (scheme : Scheme) → scheme_closed scheme ≡ true → IsDerivedScheme ax scheme → (cited : List Statement) (s : Statement) → list_all (statement_in_force (numbers ks)) (s ∷ cited) ≡ true → ((c : Statement) → Contains cited c → Derives ax g (erase c)) → IsInstance (fixed_by_all scheme cited s) scheme.conclusion s → Differs (fixed_by_all scheme cited s) 0 scheme.premises cited None → LettersFit cs ks (fixed_by_all scheme cited s) scheme.letters → Derives ax g (erase s)
fitting ax g cs ks grants in_g scheme closed derived cited s in_force each is d f =
    let ls : List Letter = fixed_by_all scheme cited s in
    let fixed : (m : ℕ) → numbers ks ≤ m → AreFixedInForce m ls = fixed_in_force (numbers ks) scheme cited s in_force in
    let first : ((list_all letter_closed scheme.letters && list_all (statement_under 0) scheme.premises) ≡ true) × (statement_under 0 scheme.conclusion ≡ true) = and_parts (list_all letter_closed scheme.letters && list_all (statement_under 0) scheme.premises) (statement_under 0 scheme.conclusion) closed in
    let letters : list_all letter_closed scheme.letters ≡ true = (and_parts (list_all letter_closed scheme.letters) (list_all (statement_under 0) scheme.premises) first.0).0 in
    let types : Each ax g (map (instance ls) (map erase (letter_types scheme.letters))) = types_derive ax g cs ks grants in_g ls fixed scheme.letters letters f in
    let premises : Each ax g (map (instance ls) (map erase scheme.premises)) = premises_derive ax g ls 0 scheme.premises cited d each in
    let split : map (instance ls) (map erase (letter_types scheme.letters ++ scheme.premises)) ≡ map (instance ls) (map erase (letter_types scheme.letters)) ++ map (instance ls) (map erase scheme.premises) =
    ap (map (instance ls)) (map-append erase (letter_types scheme.letters) scheme.premises) ∙ map-append (instance ls) (map erase (letter_types scheme.letters)) (map erase scheme.premises) in
    let all : Each ax g (map (instance ls) (map erase (letter_types scheme.letters ++ scheme.premises))) =
    subst (Each ax g) (sym split) (each_append ax g (map (instance ls) (map erase (letter_types scheme.letters))) (map (instance ls) (map erase scheme.premises)) types premises) in
    let made : Derives ax (map (instance ls) (map erase (letter_types scheme.letters ++ scheme.premises))) (instance ls (erase scheme.conclusion)) =
    instance_of ax (map erase (letter_types scheme.letters ++ scheme.premises)) (erase scheme.conclusion) ls derived in
    same_derives ax g (instance ls (erase scheme.conclusion)) (erase s) is (cut_each ax g (map (instance ls) (map erase (letter_types scheme.letters ++ scheme.premises))) (instance ls (erase scheme.conclusion)) all made)

pub from_law : FromLaw
from_law ax g cs ks grants in_g scheme closed derived cited s in_force each (fits c a d f) = fitting ax g cs ks grants in_g scheme closed derived cited s in_force each a d f
