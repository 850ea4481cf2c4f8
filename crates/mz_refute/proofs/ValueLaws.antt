-- Values of terms, and terms that are congruent.
use Rattle.std.proofs.lemmas.Bool.Decides.{leb_tells}
use Rattle.std.proofs.Common.{inl, inr, ◌≡◌, ℕ, suc, List, [], ◌∷◌, refl, arith, sym, ◌∙◌, true, subst}
use Rattle.std.specs.Prelude.{Contains}
use Rattle.mz_logic.specs.declared.sym.Sym.{Sym}
use Rattle.mz_logic.specs.Term.{Term, Terms, Bound, App, terms_of}
use Rattle.mz_logic.specs.Indices.{closed, args_below}
use Rattle.mz_logic.specs.declared.literal.Literal.TheVariants.{Eq}
use Rattle.mz_logic.specs.declared.disjunct.Disjunct.{Disjunct}
use Rattle.mz_ground.specs.declared.clause.Clause.{Clause}
use Rattle.mz_ground.specs.GroundExpression.{IsWithin, whole, argument}
use Rattle.mz_ground.specs.Layers.{IsGroundTerm}
use Rattle.mz_ground.specs.Facts.{Fact, reflexive, symmetric, transitive, congruent, AreEqual}
use Rattle.mz_ground.specs.Facts as facts
use Rattle.mz_refute.specs.Valued.{IsValued, as_ground, by_arguments, AreValued, no_values, and_values}
use Rattle.mz_refute.specs.EqualModuloFacts.{EqualModuloFacts, as_written, in_value, one_index, one_symbol, AllEqualModuloFacts, no_terms, and_terms}
use Rattle.mz_match.proofs.CongruentLemmas.{and_cases}
use Rattle.mz_refute.proofs.GroundLaws.{member_head, member_tail, ground_closed, AllGround, parts_ground, equal_ground}

pub value_self : (d : Disjunct) (cs : List Clause) (t : Term) → IsGroundTerm d cs t → IsValued d cs t t
value_self d cs t h = as_ground t t h (reflexive t h)

pub value_moves : (d : Disjunct) (cs : List Clause) (t w u : Term) → IsValued d cs t w → Fact d cs (Eq true w u) → IsValued d cs t u
value_moves d cs t w u (as_ground x y g f) k = as_ground x u g (transitive x y u f k)
value_moves d cs t w u (by_arguments s ts us y a g f) k = by_arguments s ts us u a g (transitive (App s (terms_of us)) y u f k)

pub value_ground : (d : Disjunct) (cs : List Clause) (t v : Term) → IsValued d cs t v → IsGroundTerm d cs v
value_ground d cs t v (as_ground x y g f) = let z = equal_ground d cs x y f in z.1
value_ground d cs t v (by_arguments s ts us y a g f) = let z = equal_ground d cs (App s (terms_of us)) y f in z.1

-- the value of a ground term is equal to it
mutual
  pub ground_value : (d : Disjunct) (cs : List Clause) (t w : Term) → IsGroundTerm d cs t → IsValued d cs t w → Fact d cs (Eq true t w)
  ground_value d cs t w c (as_ground x y g f) = f
  ground_value d cs t w c (by_arguments s ts us y a g f) =
      transitive (App s (terms_of ts)) (App s (terms_of us)) y (congruent s ts us c g (ground_values d cs ts us (parts_ground d cs s ts c) a)) f

  pub ground_values : (d : Disjunct) (cs : List Clause) (ts us : List Term) → AllGround d cs ts → AreValued d cs ts us → AreEqual d cs ts us
  ground_values d cs ts us c no_values = facts.no_terms
  ground_values d cs ts us c (and_values t u vs ws v r) = facts.and_terms t u vs ws (ground_value d cs t u c.0 v) (ground_values d cs vs ws c.1 r)

-- what has a value has no index
mutual
  pub value_closed : (d : Disjunct) (cs : List Clause) (t v : Term) → IsValued d cs t v → closed t ≡ true
  value_closed d cs t v (as_ground x y g f) = ground_closed d cs x g
  value_closed d cs t v (by_arguments s ts us y a g f) = values_closed d cs ts us a

  pub values_closed : (d : Disjunct) (cs : List Clause) (ts us : List Term) → AreValued d cs ts us → args_below 0 (terms_of ts) ≡ true
  values_closed d cs ts us no_values = refl
  values_closed d cs ts us (and_values t u vs ws v r) = rw (value_closed d cs t u v, values_closed d cs vs ws r) refl

-- the parts of an application
pub record Parts (d : Disjunct) (cs : List Clause) (s : Sym) (xs : Terms) (w : Term) : Type 0 where
  pub ts : List Term
  pub us : List Term
  pub args : xs ≡ terms_of ts
  pub ground : IsGroundTerm d cs (App s (terms_of us))
  pub values : AreValued d cs ts us
  pub fact : Fact d cs (Eq true (App s (terms_of us)) w)

mutual
  values_self : (d : Disjunct) (cs : List Clause) (ts : List Term) → AllGround d cs ts → AreValued d cs ts ts
  values_self d cs [] c = no_values
  values_self d cs (t ∷ ts) c = and_values t t ts ts (value_self d cs t c.0) (values_self d cs ts c.1)

-- the parts of a value of an application: of its own arguments where it is ground
ground_parts : (d : Disjunct) (cs : List Clause) (s : Sym) (ts : List Term) (w : Term) → IsGroundTerm d cs (App s (terms_of ts)) → Fact d cs (Eq true (App s (terms_of ts)) w) → Parts d cs s (terms_of ts) w
ground_parts d cs s ts w g f = record { ts = ts; us = ts; args = refl; ground = g; values = values_self d cs ts (parts_ground d cs s ts g); fact = f }

pub value_parts : (d : Disjunct) (cs : List Clause) (x w : Term) → IsValued d cs x w → (s : Sym) (ts : List Term) → x ≡ App s (terms_of ts) → Parts d cs s (terms_of ts) w
value_parts d cs x w (as_ground t y g f) s ts e =
    ground_parts d cs s ts y (subst (λ (z : Term). IsGroundTerm d cs z) e g) (subst (λ (z : Term). Fact d cs (Eq true z y)) e f)
value_parts d cs x w (by_arguments r ts us y a g f) s vs e =
    let q : r ≡ s = cc in
    let z : terms_of vs ≡ terms_of ts = cc in
    subst (λ (k : Sym). Parts d cs k (terms_of vs) y) q (record { ts = ts; us = us; args = z; ground = g; values = a; fact = f })

-- congruent terms have an index together
mutual
  pub congruent_closed : (d : Disjunct) (cs : List Clause) (t u : Term) → EqualModuloFacts d cs t u → closed t ≡ closed u
  congruent_closed d cs t u (as_written x c) = refl
  congruent_closed d cs t u (in_value x y v a b) = value_closed d cs x v a ∙ sym (value_closed d cs y v b)
  congruent_closed d cs t u (one_index i) = refl
  congruent_closed d cs t u (one_symbol s ts us a) = all_congruent_closed d cs ts us a

  pub all_congruent_closed : (d : Disjunct) (cs : List Clause) (ts us : List Term) → AllEqualModuloFacts d cs ts us → args_below 0 (terms_of ts) ≡ args_below 0 (terms_of us)
  all_congruent_closed d cs ts us no_terms = refl
  all_congruent_closed d cs ts us (and_terms t u vs ws a b) = rw (congruent_closed d cs t u a, all_congruent_closed d cs vs ws b) refl

-- each term without an index within it is ground
abbrev pub IsFilled : Disjunct → List Clause → Term → Type 0
IsFilled d cs u = (v : Term) → IsWithin v u → closed v ≡ true → IsGroundTerm d cs v

abbrev pub AreFilled : Disjunct → List Clause → List Term → Type 0
AreFilled d cs us = (u : Term) → Contains us u → IsFilled d cs u

pub filled_args : (d : Disjunct) (cs : List Clause) (s : Sym) (us : List Term) → IsFilled d cs (App s (terms_of us)) → AreFilled d cs us
filled_args d cs s us h u m v w c = h v (argument s us u m w) c

pub filled_first : (d : Disjunct) (cs : List Clause) (u : Term) (us : List Term) → AreFilled d cs (u ∷ us) → IsFilled d cs u
filled_first d cs u us h = h u (member_head u us)

pub filled_rest : (d : Disjunct) (cs : List Clause) (u : Term) (us : List Term) → AreFilled d cs (u ∷ us) → AreFilled d cs us
filled_rest d cs u us h v m = h v (member_tail v u us m)

no_closed_index : (j : ℕ) → closed (Bound j) ≡ true → ⊥
no_closed_index j h = elim (leb_tells (suc j) 0) [ inl a ↦ omega (arith, a.1) | inr b ↦ let z = b.0 in cc ]

-- a term congruent to one without an index has its value
mutual
  pub congruent_value : (d : Disjunct) (cs : List Clause) (t u : Term) → EqualModuloFacts d cs t u → IsFilled d cs u → closed u ≡ true → IsValued d cs t u
  congruent_value d cs t u (as_written x k) h c = value_self d cs x (h x whole c)
  congruent_value d cs t u (in_value x y v a b) h c = value_moves d cs x v y a (symmetric y v (ground_value d cs y v (h y whole c) b))
  congruent_value d cs t u (one_index i) h c = absurd (no_closed_index i c)
  congruent_value d cs t u (one_symbol s ts us a) h c =
      let g : IsGroundTerm d cs (App s (terms_of us)) = h (App s (terms_of us)) whole c in
      by_arguments s ts us (App s (terms_of us)) (all_congruent_value d cs ts us a (filled_args d cs s us h) c) g (reflexive (App s (terms_of us)) g)

  pub all_congruent_value : (d : Disjunct) (cs : List Clause) (ts us : List Term) → AllEqualModuloFacts d cs ts us → AreFilled d cs us → args_below 0 (terms_of us) ≡ true → AreValued d cs ts us
  all_congruent_value d cs ts us no_terms h c = no_values
  all_congruent_value d cs ts us (and_terms t u vs ws a b) h c =
      and_values t u vs ws (congruent_value d cs t u a (filled_first d cs u ws h) (and_cases (closed u) (args_below 0 (terms_of ws)) c).0)
      (all_congruent_value d cs vs ws b (filled_rest d cs u ws h) (and_cases (closed u) (args_below 0 (terms_of ws)) c).1)
