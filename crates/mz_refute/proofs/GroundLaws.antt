-- What stands in the ground part has no index, and its parts stand there too.
use Rattle.std.proofs.Common.{◌≡◌, ◌<◌, ◌⊎◌, inl, inr, ℕ, zero, suc, List, [], ◌∷◌, length, refl, arith, ap, sym, ◌∙◌, Bool, true, false, subst}
use Rattle.std.specs.Prelude.{◌&&◌, Contains, slice_index_or}
use Rattle.std.specs.List.{list_all, AllByRecursion}
use Rattle.mz_logic.specs.declared.sym.Sym.{Sym}
use Rattle.mz_logic.specs.Term.{Term, Const, App, terms_of}
use Rattle.mz_logic.specs.Indices.{closed, args_below}
use Rattle.mz_logic.specs.Formula as form
use Rattle.mz_logic.specs.Formula.{Formula}
use Rattle.mz_logic.specs.Literal.{literal_formula}
use Rattle.mz_logic.specs.declared.literal.Literal.{Literal}
use Rattle.mz_logic.specs.declared.literal.Literal.TheVariants.{Atom, Eq}
use Rattle.mz_logic.specs.declared.disjunct.Disjunct.{Disjunct}
use Rattle.mz_ground.specs.declared.clause.Clause.{Clause}
use Rattle.mz_ground.specs.Instance.{conclusion_at}
use Rattle.mz_ground.specs.GroundExpression.{GroundExpression, TermExpression, AtomExpression, EquationExpression, expression_closed, IsWithin, whole, argument, Has, the_atom, the_equation, in_atom, in_left, in_right, in_negation, in_first, in_second, in_body}
use Rattle.mz_ground.specs.Layers.{InLayer, first_constant, of_literal, of_universal, earlier, added, IsGroundTerm, IsGroundLiteral, further_layers}
use Rattle.mz_ground.specs.Facts.{Fact, given, reflexive, symmetric, transitive, congruent, atom_congruence, reversed, fired}
use Rattle.mz_match.proofs.CongruentLemmas.{and_cases}

-- a member of a list
pub member_head : {X : Type 0} (x : X) (xs : List X) → Contains (x ∷ xs) x
member_head x xs = (zero, omega arith, refl)

pub member_tail : {X : Type 0} (x y : X) (xs : List X) → Contains xs x → Contains (y ∷ xs) x
member_tail x y xs h = (suc h.0, omega (arith, h.1), h.2)

closed_at : (ts : List Term) (v : Term) (k : ℕ) → args_below 0 (terms_of ts) ≡ true → k < length ts → slice_index_or ts k v ≡ v → closed v ≡ true
closed_at [] v k h lt e = absurd (omega arith)
closed_at (t ∷ ts) v zero h lt e = subst (λ (x : Term). closed x ≡ true) e (and_cases (closed t) (args_below 0 (terms_of ts)) h).0
closed_at (t ∷ ts) v (suc k) h lt e = closed_at ts v k (and_cases (closed t) (args_below 0 (terms_of ts)) h).1 (omega arith) e

member_closed : (ts : List Term) (v : Term) → args_below 0 (terms_of ts) ≡ true → Contains ts v → closed v ≡ true
member_closed ts v h c = closed_at ts v c.0 h c.1 c.2

pub all_closed_args : (ts : List Term) → list_all closed ts ≡ args_below 0 (terms_of ts)
all_closed_args [] = refl
all_closed_args (t ∷ ts) = ap (λ b. closed t && b) (all_closed_args ts)

pub expression_is_closed : (d : Disjunct) (cs : List Clause) (n : ℕ) (p : GroundExpression) → InLayer d cs n p → expression_closed p ≡ true
expression_is_closed d cs n p first_constant = refl
expression_is_closed d cs n p (of_literal l q c h k) = k
expression_is_closed d cs n p (of_universal f q c h k) = k
expression_is_closed d cs n p (earlier m q h) = expression_is_closed d cs m q h
expression_is_closed d cs n p (added m c ts l q a b e g i h k) = k

pub ground_closed : (d : Disjunct) (cs : List Clause) (t : Term) → IsGroundTerm d cs t → closed t ≡ true
ground_closed d cs t h = expression_is_closed d cs further_layers (TermExpression t) h

-- the parts of a expression stand where it stands
pub within_part : (u t : Term) → IsWithin u t → (s : Sym) (us : List Term) → u ≡ App s (terms_of us) → (v : Term) → Contains us v → IsWithin v t
within_part u t whole s us e v m = subst (λ (x : Term). IsWithin v x) (sym e) (argument s us v m whole)
within_part u t (argument r ts x c w) s us e v m = argument r ts x c (within_part u x w s us e v m)

-- the terms that an expression is made of
abbrev IsPart : GroundExpression → Term → Type 0
IsPart (TermExpression t) v = (s : Sym) × (us : List Term) × (t ≡ App s (terms_of us)) × Contains us v
IsPart (AtomExpression s ts) v = Contains ts v
IsPart (EquationExpression t u) v = (v ≡ t) ⊎ (v ≡ u)

has_part : (f : Formula) (q : GroundExpression) → Has f q → (v : Term) → IsPart q v → Has f (TermExpression v)
has_part f q (the_atom r ts) v p = in_atom r ts v v p whole
has_part f q (the_equation t u) v p =
    elim p [
      | inl a ↦ subst (λ (x : Term). Has (form.Eq t u) (TermExpression x)) (sym a) (in_left t u t whole)
      | inr a ↦ subst (λ (x : Term). Has (form.Eq t u) (TermExpression x)) (sym a) (in_right t u u whole)
    ]
has_part f q (in_atom r ts t u c w) v p = in_atom r ts t v c (within_part u t w p.0 p.1 p.2 v p.3)
has_part f q (in_left t u x w) v p = in_left t u v (within_part x t w p.0 p.1 p.2 v p.3)
has_part f q (in_right t u x w) v p = in_right t u v (within_part x u w p.0 p.1 p.2 v p.3)
has_part f q (in_negation g r h) v p = in_negation g (TermExpression v) (has_part g r h v p)
has_part f q (in_first g k r h) v p = in_first g k (TermExpression v) (has_part g r h v p)
has_part f q (in_second g k r h) v p = in_second g k (TermExpression v) (has_part k r h v p)
has_part f q (in_body g r h) v p = in_body g (TermExpression v) (has_part g r h v p)

part_closed : (q : GroundExpression) (v : Term) → IsPart q v → expression_closed q ≡ true → closed v ≡ true
part_closed (TermExpression t) v p k = member_closed p.1 v (subst (λ (x : Term). closed x ≡ true) p.2 k) p.3
part_closed (AtomExpression s ts) v p k = member_closed ts v (sym (all_closed_args ts) ∙ k) p
part_closed (EquationExpression t u) v p k =
    elim p [
      | inl a ↦ ap closed a ∙ (and_cases (closed t) (closed u) k).0
      | inr a ↦ ap closed a ∙ (and_cases (closed t) (closed u) k).1
    ]

layer_part : (d : Disjunct) (cs : List Clause) (n : ℕ) (q : GroundExpression) → InLayer d cs n q → (v : Term) → IsPart q v → InLayer d cs n (TermExpression v)
layer_part d cs n q first_constant v p = let e : Const 0 ≡ App p.0 (terms_of p.1) = p.2 in cc
layer_part d cs n q (of_literal l r c h k) v p = of_literal l (TermExpression v) c (has_part (literal_formula l) r h v p) (part_closed r v p k)
layer_part d cs n q (of_universal f r c h k) v p = of_universal f (TermExpression v) c (has_part f r h v p) (part_closed r v p k)
layer_part d cs n q (earlier i r h) v p = earlier i (TermExpression v) (layer_part d cs i r h v p)
layer_part d cs n q (added i c ts l r a b t g o h k) v p = added i c ts l (TermExpression v) a b t g o (has_part (literal_formula l) r h v p) (part_closed r v p k)

pub ground_part : (d : Disjunct) (cs : List Clause) (s : Sym) (us : List Term) → IsGroundTerm d cs (App s (terms_of us)) → (v : Term) → Contains us v → IsGroundTerm d cs v
ground_part d cs s us h v m = layer_part d cs further_layers (TermExpression (App s (terms_of us))) h v (s, us, refl, m)

-- lists of ground terms
abbrev pub AllGround : Disjunct → List Clause → List Term → Type 0
AllGround d cs ts = AllByRecursion (IsGroundTerm d cs) ts

pub all_ground : (d : Disjunct) (cs : List Clause) (ts : List Term) → ((v : Term) → Contains ts v → IsGroundTerm d cs v) → AllGround d cs ts
all_ground d cs [] f = tt
all_ground d cs (t ∷ ts) f = (f t (member_head t ts), all_ground d cs ts (λ v m. f v (member_tail v t ts m)))

pub parts_ground : (d : Disjunct) (cs : List Clause) (s : Sym) (us : List Term) → IsGroundTerm d cs (App s (terms_of us)) → AllGround d cs us
parts_ground d cs s us h = all_ground d cs us (ground_part d cs s us h)

-- the terms of a fact are ground
abbrev pub GroundTermsOf : Disjunct → List Clause → Literal → Type 0
GroundTermsOf d cs (Atom positive s ts) = AllGround d cs ts
GroundTermsOf d cs (Eq positive t u) = IsGroundTerm d cs t × IsGroundTerm d cs u

literal_ground : (d : Disjunct) (cs : List Clause) (l : Literal) → IsGroundLiteral d cs l → GroundTermsOf d cs l
literal_ground d cs (Atom positive s ts) h = all_ground d cs ts (λ v m. layer_part d cs further_layers (AtomExpression s ts) h v m)
literal_ground d cs (Eq positive t u) h = (layer_part d cs further_layers (EquationExpression t u) h t (inl refl), layer_part d cs further_layers (EquationExpression t u) h u (inr refl))

pub fact_ground : (d : Disjunct) (cs : List Clause) (l : Literal) → Fact d cs l → GroundTermsOf d cs l
fact_ground d cs l (given k c g) = literal_ground d cs k g
fact_ground d cs l (reflexive t g) = (g, g)
fact_ground d cs l (symmetric t u f) = let x = fact_ground d cs (Eq true t u) f in (x.1, x.0)
fact_ground d cs l (transitive t u v f g) = let x = fact_ground d cs (Eq true t u) f in let y = fact_ground d cs (Eq true u v) g in (x.0, y.1)
fact_ground d cs l (congruent s ts us g h e) = (g, h)
fact_ground d cs l (atom_congruence p s ts us f g e) = literal_ground d cs (Atom p s us) g
fact_ground d cs l (reversed t u f) = let x = fact_ground d cs (Eq false t u) f in (x.1, x.0)
fact_ground d cs l (fired c ts a b e g h i) = literal_ground d cs (conclusion_at c ts) h

pub equal_ground : (d : Disjunct) (cs : List Clause) (t u : Term) → Fact d cs (Eq true t u) → IsGroundTerm d cs t × IsGroundTerm d cs u
equal_ground d cs t u f = fact_ground d cs (Eq true t u) f

pub all_closed : (d : Disjunct) (cs : List Clause) (ts : List Term) → AllGround d cs ts → list_all closed ts ≡ true
all_closed d cs [] all = refl
all_closed d cs (t ∷ ts) all = rw (ground_closed d cs t all.0, all_closed d cs ts all.1) refl
