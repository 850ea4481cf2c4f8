-- Each rule of derivations as a law of what is derivable.
use Rattle.std.proofs.Common.{◌≡◌, ◌≤◌, ◌-◌, ℕ, List, [], ◌∷◌, map, refl, true, false}
use Rattle.std.specs.Prelude.{All, Contains, Some, slice_get}
use Rattle.std.specs.List.{list_any}
use Rattle.mz_logic.specs.Term.{Term, Const}
use Rattle.mz_logic.specs.Formula as formula
use Rattle.mz_logic.specs.Formula.{Formula}
use Rattle.mz_logic.specs.Formulas.{IsMember, sequent}
use Rattle.mz_logic.specs.Indices.{closed}
use Rattle.mz_logic.specs.Constants.{occurs_in_formula}
use Rattle.mz_logic.specs.Substitution.{body_at}
use Rattle.mz_logic.specs.Negation.{falsity}
use Rattle.mz_logic.specs.Instance.{instance}
use Rattle.mz_logic.specs.Replacement.{Replaced}
use Rattle.mz_logic.specs.declared.letters.Letter.{Letter}
use Rattle.mz_logic.specs.declared.rule.Rule.{Rule}
use Rattle.mz_logic.specs.declared.rule.Rule.TheVariants.{Hypothesis, Weaken, Truth, AndIn, AndLeft, AndRight, NotIn, NotOut, Classical, AllIn, AllOut, Reflexive, Replace, Cut, Axiom, Instance}
use Rattle.mz_logic.specs.Derivation.{Node, none, more, root}
use Rattle.mz_logic.specs.Derives.{IsValid, AreValid, FollowsBy, Gives, GivesFrom, Derives}

-- a node without parents, with one and with two
from_none : (ax g : List Formula) (f : Formula) (r : Rule) → FollowsBy ax r (sequent g f) [] → Derives ax g f
unfolding IsValid AreValid
from_none ax g f r h = (Node r (sequent g f) none, refl, (h, tt))

from_one : (ax g h : List Formula) (f k : Formula) (r : Rule) → FollowsBy ax r (sequent g f) (sequent h k ∷ []) → Derives ax h k → Derives ax g f
unfolding IsValid AreValid
from_one ax g h f k r right d =
    let it : FollowsBy ax r (sequent g f) (root d.0 ∷ []) = rw d.1 right in
    (Node r (sequent g f) (more d.0 none), refl, (it, (d.2, tt)))

from_two : (ax g h i : List Formula) (f k l : Formula) (r : Rule) → FollowsBy ax r (sequent g f) (sequent h k ∷ sequent i l ∷ []) → Derives ax h k → Derives ax i l → Derives ax g f
unfolding IsValid AreValid
from_two ax g h i f k l r right d e =
    let it : FollowsBy ax r (sequent g f) (root d.0 ∷ root e.0 ∷ []) = rw (d.1, e.1) right in
    (Node r (sequent g f) (more d.0 (more e.0 none)), refl, (it, (d.2, (e.2, tt))))

pub hypothesis : (ax g : List Formula) (f : Formula) → Contains g f → Derives ax g f
unfolding IsMember
hypothesis ax g f h = from_none ax g f Hypothesis h

pub weakening : (ax g h : List Formula) (f : Formula) → All (IsMember h) g → Derives ax g f → Derives ax h f
weakening ax g h f within d = from_one ax h g f f Weaken (within, refl) d

pub truth : (ax g : List Formula) → Derives ax g formula.Truth
truth ax g = from_none ax g formula.Truth Truth refl

pub and_in : (ax g : List Formula) (f k : Formula) → Derives ax g f → Derives ax g k → Derives ax g (formula.And f k)
unfolding Gives
and_in ax g f k d e = from_two ax g g g (formula.And f k) f k AndIn ((refl, refl), (refl, refl)) d e

pub and_left : (ax g : List Formula) (f k : Formula) → Derives ax g (formula.And f k) → Derives ax g f
and_left ax g f k d = from_one ax g g f (formula.And f k) AndLeft (refl, refl) d

pub and_right : (ax g : List Formula) (f k : Formula) → Derives ax g (formula.And f k) → Derives ax g k
and_right ax g f k d = from_one ax g g k (formula.And f k) AndRight (refl, refl) d

pub not_in : (ax g : List Formula) (f : Formula) → Derives ax (f ∷ g) falsity → Derives ax g (formula.Not f)
unfolding GivesFrom
not_in ax g f d = from_one ax g (f ∷ g) (formula.Not f) falsity NotIn (refl, refl) d

pub not_out : (ax g : List Formula) (f k : Formula) → Derives ax g f → Derives ax g (formula.Not f) → Derives ax g k
unfolding Gives
not_out ax g f k d e = from_two ax g g g k f (formula.Not f) NotOut ((refl, refl), (refl, refl)) d e

pub classical : (ax g : List Formula) (f : Formula) → Derives ax (formula.Not f ∷ g) falsity → Derives ax g f
unfolding GivesFrom
classical ax g f d = from_one ax g (formula.Not f ∷ g) f falsity Classical (refl, refl) d

pub all_in : (ax g : List Formula) (b : Formula) (c : ℕ) → list_any (occurs_in_formula c) g ≡ false → occurs_in_formula c b ≡ false → Derives ax g (body_at b (Const c)) → Derives ax g (formula.All b)
unfolding Gives
all_in ax g b c fresh apart d = from_one ax g g (formula.All b) (body_at b (Const c)) (AllIn c) ((refl, refl), fresh, apart) d

pub all_out : (ax g : List Formula) (b : Formula) (t : Term) → closed t ≡ true → Derives ax g (formula.All b) → Derives ax g (body_at b t)
all_out ax g b t h d = from_one ax g g (body_at b t) (formula.All b) (AllOut t) (refl, refl, h) d

pub reflexive : (ax g : List Formula) (t : Term) → closed t ≡ true → Derives ax g (formula.Eq t t)
reflexive ax g t h = from_none ax g (formula.Eq t t) Reflexive (refl, h)

pub replace : (ax g : List Formula) (t u : Term) (f k : Formula) → closed t ≡ true → closed u ≡ true → Replaced t u f k → Derives ax g (formula.Eq t u) → Derives ax g f → Derives ax g k
replace ax g t u f k ct cu s d e = from_two ax g g g k (formula.Eq t u) f Replace (refl, refl, (ct, cu, s)) d e

pub cut : (ax g : List Formula) (f k : Formula) → Derives ax g f → Derives ax (f ∷ g) k → Derives ax g k
unfolding Gives GivesFrom
cut ax g f k d e = from_two ax g g (f ∷ g) k f k Cut ((refl, refl), (refl, refl)) d e

pub numbered_axiom : (ax g : List Formula) (i : ℕ) (f : Formula) → 1 ≤ i → slice_get ax (i - 1) ≡ Some f → Derives ax g f
numbered_axiom ax g i f from_one_on h = from_none ax g f (Axiom i) (from_one_on, h)

pub instance_of : (ax g : List Formula) (f : Formula) (ls : List Letter) → Derives ax g f → Derives ax (map (instance ls) g) (instance ls f)
instance_of ax g f ls d = from_one ax (map (instance ls) g) g (instance ls f) f (Instance ls) (refl, refl) d
