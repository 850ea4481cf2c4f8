-- Normal forms of conjunctions and negations.
use Rattle.std.proofs.Common.{◌≡◌, ◌↔◌, List, [], ◌∷◌, refl, sym, ap, ◌∙◌, subst}
use Rattle.mz_logic.specs.Formula.{Formula, Truth, Eq, Atom, Not, And, All}
use Rattle.mz_logic.specs.Negation.{negated}
use Rattle.mz_logic.specs.Same.{grouped, normal_form}
use Rattle.mz_logic.specs.Conjuncts.{conjunction, IsPlain, RestsAgree}

pub grouped_assoc : (a b c : Formula) → grouped (grouped a b) c ≡ grouped a (grouped b c)
grouped_assoc Truth b c = refl
grouped_assoc (Eq t u) b c = refl
grouped_assoc (Atom s ts) b c = refl
grouped_assoc (Not f) b c = refl
grouped_assoc (And f g) b c = ap (λ h. And f h) (grouped_assoc g b c)
grouped_assoc (All f) b c = refl

grouped_twice : (a b : Formula) → negated (negated (grouped a b)) ≡ grouped a b
grouped_twice Truth b = refl
grouped_twice (Eq t u) b = refl
grouped_twice (Atom s ts) b = refl
grouped_twice (Not f) b = refl
grouped_twice (And f g) b = refl
grouped_twice (All f) b = refl

-- a normal form begins with no double negation
pub normal_form_twice : (f : Formula) → negated (negated (normal_form f)) ≡ normal_form f
normal_form_twice Truth = refl
normal_form_twice (Eq t u) = refl
normal_form_twice (Atom s ts) = refl
normal_form_twice (Not f) = ap negated (normal_form_twice f)
normal_form_twice (And f g) = grouped_twice (normal_form f) (normal_form g)
normal_form_twice (All f) = refl

pub conjunction-And : (f g : Formula) (hs : List Formula) → conjunction (And f g) hs ≡ conjunction f (g ∷ hs)
unfolding conjunction
conjunction-And f g [] = refl
conjunction-And f g (h ∷ hs) = grouped_assoc (normal_form f) (normal_form g) (conjunction h hs)

pub conjunction-Not-Not : (f : Formula) (hs : List Formula) → conjunction (Not (Not f)) hs ≡ conjunction f hs
unfolding conjunction
conjunction-Not-Not f [] = normal_form_twice f
conjunction-Not-Not f (h ∷ hs) = ap (λ a. grouped a (conjunction h hs)) (normal_form_twice f)

pub conjunction-nil : (f : Formula) → conjunction f [] ≡ normal_form f
unfolding conjunction
conjunction-nil f = refl

abbrev IsNoAnd : Formula → Type 0
IsNoAnd Truth = Unit {0}
IsNoAnd (Eq t u) = Unit {0}
IsNoAnd (Atom s ts) = Unit {0}
IsNoAnd (Not f) = Unit {0}
IsNoAnd (And f g) = ⊥
IsNoAnd (All f) = Unit {0}

grouped_not : (a b : Formula) → IsNoAnd (negated (grouped a b))
grouped_not Truth b = tt
grouped_not (Eq t u) b = tt
grouped_not (Atom s ts) b = tt
grouped_not (Not f) b = tt
grouped_not (And f g) b = tt
grouped_not (All f) b = tt

plain_normal_form : (f : Formula) → IsPlain f → IsNoAnd (normal_form f)
plain_normal_form Truth h = tt
plain_normal_form (Eq t u) h = tt
plain_normal_form (Atom s ts) h = tt
plain_normal_form (Not Truth) h = tt
plain_normal_form (Not (Eq t u)) h = tt
plain_normal_form (Not (Atom s ts)) h = tt
plain_normal_form (Not (Not f)) h = absurd h
plain_normal_form (Not (And f g)) h = grouped_not (normal_form f) (normal_form g)
plain_normal_form (Not (All f)) h = tt
plain_normal_form (And f g) h = absurd h
plain_normal_form (All f) h = tt

grouped_plain : (a b : Formula) → IsNoAnd a → grouped a b ≡ And a b
grouped_plain Truth b h = refl
grouped_plain (Eq t u) b h = refl
grouped_plain (Atom s ts) b h = refl
grouped_plain (Not f) b h = refl
grouped_plain (And f g) b h = absurd h
grouped_plain (All f) b h = refl

no_and : (a x y : Formula) → IsNoAnd a → a ≡ And x y → ⊥
no_and a x y h e = subst IsNoAnd e h

-- conjunctions with plain first parts agree where the parts and the rests do
pub heads_and_rests : (f g : Formula) (fs gs : List Formula) → IsPlain f → IsPlain g → ((normal_form f ≡ normal_form g) × RestsAgree fs gs) ↔ (conjunction f fs ≡ conjunction g gs)
unfolding conjunction
heads_and_rests f g [] [] pf pg = (λ h. h.0, λ e. (e, tt))
heads_and_rests f g [] (b ∷ gs) pf pg = (λ h. absurd h.1, λ e. absurd (no_and (normal_form f) (normal_form g) (conjunction b gs) (plain_normal_form f pf) (e ∙ grouped_plain (normal_form g) (conjunction b gs) (plain_normal_form g pg))))
heads_and_rests f g (a ∷ fs) [] pf pg = (λ h. absurd h.1, λ e. absurd (no_and (normal_form g) (normal_form f) (conjunction a fs) (plain_normal_form g pg) (sym e ∙ grouped_plain (normal_form f) (conjunction a fs) (plain_normal_form f pf))))
heads_and_rests f g (a ∷ fs) (b ∷ gs) pf pg = (
  λ h i. grouped (h.0 i) (h.1 i),
  λ e. let both : And (normal_form f) (conjunction a fs) ≡ And (normal_form g) (conjunction b gs) = sym (grouped_plain (normal_form f) (conjunction a fs) (plain_normal_form f pf)) ∙ e ∙ grouped_plain (normal_form g) (conjunction b gs) (plain_normal_form g pg) in
      (cc, cc),
)

pub normal_form-heads_agree : (f g : Formula) (fs gs : List Formula) → IsPlain f → IsPlain g → conjunction f fs ≡ conjunction g gs → normal_form f ≡ normal_form g
normal_form-heads_agree f g fs gs pf pg e = ((heads_and_rests f g fs gs pf pg).1 e).0

abbrev IsNoNot : Formula → Type 0
IsNoNot Truth = Unit {0}
IsNoNot (Eq t u) = Unit {0}
IsNoNot (Atom s ts) = Unit {0}
IsNoNot (Not f) = ⊥
IsNoNot (And f g) = Unit {0}
IsNoNot (All f) = Unit {0}

negated_plain : (a : Formula) → IsNoNot a → negated a ≡ Not a
negated_plain Truth h = refl
negated_plain (Eq t u) h = refl
negated_plain (Atom s ts) h = refl
negated_plain (Not f) h = absurd h
negated_plain (And f g) h = refl
negated_plain (All f) h = refl

grouped_no_not : (a b : Formula) → IsNoNot (grouped a b)
grouped_no_not Truth b = tt
grouped_no_not (Eq t u) b = tt
grouped_no_not (Atom s ts) b = tt
grouped_no_not (Not f) b = tt
grouped_no_not (And f g) b = tt
grouped_no_not (All f) b = tt

under_not : (f : Formula) → IsPlain (Not f) → IsNoNot (normal_form f)
under_not Truth h = tt
under_not (Eq t u) h = tt
under_not (Atom s ts) h = tt
under_not (Not f) h = absurd h
under_not (And f g) h = grouped_no_not (normal_form f) (normal_form g)
under_not (All f) h = tt

pub normal_form-Not : (f : Formula) → IsPlain (Not f) → normal_form (Not f) ≡ Not (normal_form f)
normal_form-Not f h = negated_plain (normal_form f) (under_not f h)

pub ruleset same_rules = (conjunction-And, conjunction-Not-Not, heads_and_rests, normal_form-heads_agree)

pub ruleset head_rules = (conjunction-nil, normal_form-Not)
