-- Laws of premises, negation, conjunction, implication and equations, from the rules.
use Rattle.std.proofs.Common.{◌≡◌, ◌<◌, ℕ, zero, suc, List, [], ◌∷◌, length, refl, arith, get_or, true}
use Rattle.std.specs.Prelude.{All}
use Rattle.mz_logic.specs.Term.{Term}
use Rattle.mz_logic.specs.Formula.{Formula, Eq, Not, And}
use Rattle.mz_logic.specs.Formulas.{IsMember}
use Rattle.mz_logic.specs.Indices.{closed}
use Rattle.mz_logic.specs.Negation.{falsity}
use Rattle.mz_logic.specs.Replacement.{replaced, kept}
use Rattle.mz_logic.specs.Derives.{Derives}
use Rattle.mz_logic.proofs.Rules.{hypothesis, weakening, and_in, and_left, and_right, not_in, not_out, classical, reflexive, replace, cut}

get_any : (g : List Formula) (k : ℕ) (d e : Formula) → k < length g → get_or g k d ≡ get_or g k e
get_any [] k d e h = absurd (omega arith)
get_any (f ∷ g) zero d e h = refl
get_any (f ∷ g) (suc k) d e h = get_any g k d e (omega arith)

-- each premise is one behind a further one
pub behind : (g : List Formula) (f : Formula) → All (IsMember (f ∷ g)) g
unfolding IsMember
behind g f k d lt = (suc k, omega arith, get_any g k (get_or g k d) d lt)

-- one more premise
pub under : (ax g : List Formula) (f k : Formula) → Derives ax g k → Derives ax (f ∷ g) k
under ax g f k d = weakening ax g (f ∷ g) k (behind g f) d

-- the first premise, and the second
pub first : (ax g : List Formula) (f : Formula) → Derives ax (f ∷ g) f
first ax g f = hypothesis ax (f ∷ g) f (0, omega arith, refl)

pub second : (ax g : List Formula) (f k : Formula) → Derives ax (k ∷ f ∷ g) f
second ax g f k = hypothesis ax (k ∷ f ∷ g) f (1, omega arith, refl)

no_premise : (h : List Formula) → All (IsMember h) []
no_premise h k d lt = absurd (omega arith)

-- what needs no premise
pub anywhere : (ax h : List Formula) (f : Formula) → Derives ax [] f → Derives ax h f
anywhere ax h f d = weakening ax [] h f (no_premise h) d

-- what follows from one formula alone follows from whatever gives it
pub through : (ax g : List Formula) (f k : Formula) → Derives ax (f ∷ []) k → Derives ax g f → Derives ax g k
unfolding IsMember
through ax g f k d e =
    let one : All (IsMember (f ∷ g)) (f ∷ []) = λ i x lt. (0, omega arith, (let z : i ≡ 0 = omega arith in rw z refl)) in
    cut ax g f k e (weakening ax (f ∷ []) (f ∷ g) k one d)

past_second : (g : List Formula) (f b : Formula) → All (IsMember (f ∷ b ∷ g)) (f ∷ g)
unfolding IsMember
past_second g f b zero d lt = (0, omega arith, refl)
past_second g f b (suc k) d lt = (suc (suc k), omega arith, get_any g k (get_or g k d) d (omega arith))

-- `not (f & not k)` is `f implies k`
pub implied : (ax g : List Formula) (f k : Formula) → Derives ax (f ∷ g) k → Derives ax g (Not (And f (Not k)))
implied ax g f k d =
    let both : Formula = And f (Not k) in
    let h : List Formula = both ∷ g in
    let gives_f : Derives ax h f = and_left ax h f (Not k) (first ax g both) in
    let gives_not : Derives ax h (Not k) = and_right ax h f (Not k) (first ax g both) in
    let from_both : All (IsMember (f ∷ both ∷ g)) (f ∷ g) = past_second g f both in
    let gives_k : Derives ax h k = cut ax h f k gives_f (weakening ax (f ∷ g) (f ∷ h) k from_both d) in
    not_in ax g both (not_out ax h k falsity gives_k gives_not)

pub detach : (ax g : List Formula) (f k : Formula) → Derives ax g (Not (And f (Not k))) → Derives ax g f → Derives ax g k
detach ax g f k d e =
    let h : List Formula = Not k ∷ g in
    classical ax g k (not_out ax h (And f (Not k)) falsity (and_in ax h f (Not k) (under ax g (Not k) f e) (first ax g (Not k))) (under ax g (Not k) (Not (And f (Not k))) d))

-- a double negation
pub twice_in : (ax g : List Formula) (f : Formula) → Derives ax g f → Derives ax g (Not (Not f))
twice_in ax g f d =
    let h : List Formula = Not f ∷ g in
    not_in ax g (Not f) (not_out ax h f falsity (under ax g (Not f) f d) (first ax g (Not f)))

pub twice_out : (ax g : List Formula) (f : Formula) → Derives ax g (Not (Not f)) → Derives ax g f
twice_out ax g f d =
    let h : List Formula = Not f ∷ g in
    classical ax g f (not_out ax h (Not f) falsity (first ax g (Not f)) (under ax g (Not f) (Not (Not f)) d))

-- equations
pub swapped : (ax g : List Formula) (t u : Term) → closed t ≡ true → closed u ≡ true → Derives ax g (Eq t u) → Derives ax g (Eq u t)
swapped ax g t u ct cu d = replace ax g t u (Eq t t) (Eq u t) ct cu (replaced, kept t) d (reflexive ax g t ct)

pub chained : (ax g : List Formula) (t u v : Term) → closed u ≡ true → closed v ≡ true → Derives ax g (Eq t u) → Derives ax g (Eq u v) → Derives ax g (Eq t v)
chained ax g t u v cu cv d e = replace ax g u v (Eq t u) (Eq t v) cu cv (kept t, replaced) e d
