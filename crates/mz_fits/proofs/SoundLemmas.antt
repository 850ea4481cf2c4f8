-- What fits derives.
use Rattle.std.proofs.Common.{◌≡◌, ℕ, zero, suc, List, [], ◌∷◌, ◌++◌, refl, subst, true, arith, length, map, get_or, Option}
use Rattle.std.specs.Prelude.{Contains, flat_map}
use Rattle.std.proofs.lemmas.List.Elements.{Contains-append_cases}
use Rattle.mz_std_laws.proofs.Sums.{either}
use Rattle.mz_logic.specs.Term.{Term}
use Rattle.mz_logic.specs.Formula as formula
use Rattle.mz_logic.specs.Formula.{Formula}
use Rattle.mz_logic.specs.Literal.{literal_formula}
use Rattle.mz_logic.specs.Derives.{Derives}
use Rattle.mz_logic.specs.declared.literal.Literal.{Literal}
use Rattle.mz_logic.specs.declared.literal.Literal.TheVariants.{Eq}
use Rattle.mz_core.specs.Guard.{guard, guard_literals}
use Rattle.mz_core.specs.declared.soft_type.SoftType.{SoftType}
use Rattle.mz_context.specs.declared.constants.Constant.{Constant}
use Rattle.mz_context.specs.Gather.{known, reached, constants_of}
use Rattle.mz_ground.specs.Laws.{IsGranted}
use Rattle.mz_ground.specs.declared.clause.Clause.{Clause}
use Rattle.mz_ground.proofs.FactsSound.{fact_derives}
use Rattle.mz_fits.specs.Fits.{question, LiteralFits, TypeFits, AreEqualBy, the_same, by_facts}
use Rattle.mz_fits.specs.Laws.{AreGranted, LiteralLaw, FitsLaw, EqualLaw}
use Rattle.mz_fits.proofs.FitLemmas.{one_of}

none_there : {A : Type 0} (x : A) → Contains [] x → ⊥
none_there x c = omega (arith, c.1)

-- a literal that is known of one of the constants
of_some : (ks : List (Option Constant)) (ns : List ℕ) (l : Literal) → Contains (flat_map (known ks) ns) l → (n : ℕ) × Contains (known ks n) l
of_some ks [] l c = absurd (none_there l c)
of_some ks (n ∷ ns) l c = either (Contains-append_cases (known ks n) (flat_map (known ks) ns) l c) (λ h. (n, h)) (λ h. of_some ks ns l h)

granted : (ax g : List Formula) (cs : List Clause) (ks : List (Option Constant)) (l : Literal) → AreGranted ax g cs ks → IsGranted ax g (question ks l) cs
granted ax g cs ks l h = record {
  literals = λ m k. let s : (n : ℕ) × Contains (known ks n) m = of_some ks (reached ks (constants_of ks l)) m k in h.known s.0 m s.1;
  clauses = h.clauses;
}

pub literal_derives : LiteralLaw
literal_derives ax g cs ks h l f = fact_derives ax g (question ks l) cs (granted ax g cs ks l h) l f.fact

from_map : (ls : List Literal) (f : Formula) → Contains (map literal_formula ls) f → (l : Literal) × Contains ls l × (literal_formula l ≡ f)
from_map [] f c = absurd (none_there f c)
from_map (l ∷ ls) f (zero, lt, e) = (l, (0, omega arith, refl), e)
from_map (l ∷ ls) f (suc k, lt, e) =
    let r : (m : Literal) × Contains ls m × (literal_formula m ≡ f) = from_map ls f (k, omega arith, e) in
    (r.0, (suc r.1.0, omega (arith, r.1.1), r.1.2), r.2)

pub fits_derives : FitsLaw
unfolding TypeFits
fits_derives ax g cs ks h t ty fits f k =
    let r : (l : Literal) × Contains (guard_literals ty t) l × (literal_formula l ≡ f) = from_map (guard_literals ty t) f k in
    let one : LiteralFits cs ks r.0 = one_of cs ks (guard_literals ty t) fits r.0 r.1 in
    subst (Derives ax g) r.2 (literal_derives ax g cs ks h r.0 one)

pub equal_derives : EqualLaw
equal_derives ax g cs ks h t u r (the_same p) = subst (λ v. Derives ax g (formula.Eq t v)) p r
equal_derives ax g cs ks h t u r (by_facts f) = literal_derives ax g cs ks h (Eq true t u) f
