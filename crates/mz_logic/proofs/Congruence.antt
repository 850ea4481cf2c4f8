-- Equal terms may stand for one another in terms, atoms, equations and formulas.
use Rattle.std.proofs.Common.{◌≡◌, refl, sym, subst, ℕ, ◌+◌, ◌-◌, List, [], ◌∷◌, map, Bool, true, false}
use Rattle.std.specs.Prelude.{nat_lt, nat_eq, if◌then◌else◌}
use Rattle.std.specs.List.{list_all}
use Rattle.std.proofs.lemmas.Bool.{and_parts}
use Rattle.mz_logic.specs.declared.sym.Sym.{Sym}
use Rattle.mz_logic.specs.Term.{Term, Terms, Bound, Const, App, none, more, terms_of}
use Rattle.mz_logic.specs.Formula.{Formula, Truth, Eq, Atom, Not, And, All}
use Rattle.mz_logic.specs.Indices.{closed}
use Rattle.mz_logic.specs.Substitution.{substitute, substitute_args, substitute_formula, value_at, body_at}
use Rattle.mz_logic.specs.Replacement.{TermReplaced, ArgsReplaced, Replaced, replaced, kept, within, end, next}
use Rattle.mz_logic.specs.Derives.{Derives}
use Rattle.mz_logic.specs.Equality.{AreEqual}
use Rattle.mz_logic.proofs.IndexLemmas.{args_below-terms_of}
use Rattle.mz_logic.proofs.ValueLaws.{substitute-one}
use Rattle.mz_logic.proofs.Rules.{reflexive, replace}
use Rattle.mz_logic.proofs.Connectives.{swapped, chained}

-- the same body at t and at u
index_replaced : (t u : Term) (index depth : ℕ) (a b : Bool) → TermReplaced t u (if a then Bound index else (if b then t else Bound (index - 1))) (if a then Bound index else (if b then u else Bound (index - 1)))
index_replaced t u index depth true b = kept (Bound index)
index_replaced t u index depth false true = replaced
index_replaced t u index depth false false = kept (Bound (index - 1))

index_at_replaced : (t u : Term) (depth index : ℕ) → closed t ≡ true → closed u ≡ true → TermReplaced t u (substitute depth (value_at (t ∷ [])) (Bound index)) (substitute depth (value_at (u ∷ [])) (Bound index))
index_at_replaced t u depth index ct cu =
    subst (λ x. TermReplaced t u x (substitute depth (value_at (u ∷ [])) (Bound index))) (sym (substitute-one depth t index ct))
    (subst (TermReplaced t u (if nat_lt index depth then Bound index else (if nat_eq index depth then t else Bound (index - 1)))) (sym (substitute-one depth u index cu))
    (index_replaced t u index depth (nat_lt index depth) (nat_eq index depth)))

mutual
  pub substitute_replaced : (t u : Term) (depth : ℕ) (a : Term) → closed t ≡ true → closed u ≡ true → TermReplaced t u (substitute depth (value_at (t ∷ [])) a) (substitute depth (value_at (u ∷ [])) a)
  substitute_replaced t u depth (Bound index) ct cu = index_at_replaced t u depth index ct cu
  substitute_replaced t u depth (Const number) ct cu = kept (Const number)
  substitute_replaced t u depth (App s xs) ct cu = within s (substitute_args depth (value_at (t ∷ [])) xs) (substitute_args depth (value_at (u ∷ [])) xs) (substitute_args_replaced t u depth xs ct cu)

  pub substitute_args_replaced : (t u : Term) (depth : ℕ) (xs : Terms) → closed t ≡ true → closed u ≡ true → ArgsReplaced t u (substitute_args depth (value_at (t ∷ [])) xs) (substitute_args depth (value_at (u ∷ [])) xs)
  substitute_args_replaced t u depth none ct cu = end
  substitute_args_replaced t u depth (more a xs) ct cu =
      next (substitute depth (value_at (t ∷ [])) a) (substitute depth (value_at (u ∷ [])) a) (substitute_args depth (value_at (t ∷ [])) xs) (substitute_args depth (value_at (u ∷ [])) xs)
      (substitute_replaced t u depth a ct cu) (substitute_args_replaced t u depth xs ct cu)

list_replaced : (t u : Term) (depth : ℕ) (xs : List Term) → closed t ≡ true → closed u ≡ true → ArgsReplaced t u (terms_of (map (substitute depth (value_at (t ∷ []))) xs)) (terms_of (map (substitute depth (value_at (u ∷ []))) xs))
list_replaced t u depth [] ct cu = end
list_replaced t u depth (a ∷ xs) ct cu =
    next (substitute depth (value_at (t ∷ [])) a) (substitute depth (value_at (u ∷ [])) a) (terms_of (map (substitute depth (value_at (t ∷ []))) xs)) (terms_of (map (substitute depth (value_at (u ∷ []))) xs))
    (substitute_replaced t u depth a ct cu) (list_replaced t u depth xs ct cu)

pub substitute_formula_replaced : (t u : Term) (depth : ℕ) (f : Formula) → closed t ≡ true → closed u ≡ true → Replaced t u (substitute_formula depth (value_at (t ∷ [])) f) (substitute_formula depth (value_at (u ∷ [])) f)
substitute_formula_replaced t u depth Truth ct cu = refl
substitute_formula_replaced t u depth (Eq a b) ct cu = (substitute_replaced t u depth a ct cu, substitute_replaced t u depth b ct cu)
substitute_formula_replaced t u depth (Atom s xs) ct cu = (refl, list_replaced t u depth xs ct cu)
substitute_formula_replaced t u depth (Not f) ct cu = substitute_formula_replaced t u depth f ct cu
substitute_formula_replaced t u depth (And f g) ct cu = (substitute_formula_replaced t u depth f ct cu, substitute_formula_replaced t u depth g ct cu)
substitute_formula_replaced t u depth (All f) ct cu = substitute_formula_replaced t u (depth + 1) f ct cu

-- a formula with an equal term
pub formula_congruence : (ax g : List Formula) (t u : Term) (b : Formula) → closed t ≡ true → closed u ≡ true → Derives ax g (Eq t u) → Derives ax g (body_at b t) → Derives ax g (body_at b u)
formula_congruence ax g t u b ct cu e d = replace ax g t u (body_at b t) (body_at b u) ct cu (substitute_formula_replaced t u 0 b ct cu) e d

-- a term with an equal term in it
pub term_congruence : (ax g : List Formula) (t u a : Term) → closed t ≡ true → closed u ≡ true → closed (substitute 0 (value_at (t ∷ [])) a) ≡ true → Derives ax g (Eq t u) → Derives ax g (Eq (substitute 0 (value_at (t ∷ [])) a) (substitute 0 (value_at (u ∷ [])) a))
term_congruence ax g t u a ct cu ca e =
    let at : Term = substitute 0 (value_at (t ∷ [])) a in
    replace ax g t u (Eq at at) (Eq at (substitute 0 (value_at (u ∷ [])) a)) ct cu (kept at, substitute_replaced t u 0 a ct cu) e (reflexive ax g at ca)

-- arguments that are equal one by one
all_kept : (t u : Term) (xs : List Term) → ArgsReplaced t u (terms_of xs) (terms_of xs)
all_kept t u [] = end
all_kept t u (a ∷ xs) = next a a (terms_of xs) (terms_of xs) (kept a) (all_kept t u xs)

one_by_one : (ax g : List Formula) (K : List Term → Formula) → ((t u : Term) (xs ys : List Term) → ArgsReplaced t u (terms_of xs) (terms_of ys) → Replaced t u (K xs) (K ys)) → (ts us : List Term) → list_all closed ts ≡ true → list_all closed us ≡ true → AreEqual ax g ts us → Derives ax g (K ts) → Derives ax g (K us)
one_by_one ax g K respects [] [] ct cu e d = d
one_by_one ax g K respects [] (u ∷ us) ct cu e d = absurd e
one_by_one ax g K respects (t ∷ ts) [] ct cu e d = absurd e
one_by_one ax g K respects (t ∷ ts) (u ∷ us) ct cu e d =
    let t_closed : (closed t ≡ true) × (list_all closed ts ≡ true) = and_parts (closed t) (list_all closed ts) ct in
    let u_closed : (closed u ≡ true) × (list_all closed us ≡ true) = and_parts (closed u) (list_all closed us) cu in
    let head : Derives ax g (K (u ∷ ts)) = replace ax g t u (K (t ∷ ts)) (K (u ∷ ts)) t_closed.0 u_closed.0 (respects t u (t ∷ ts) (u ∷ ts) (next t u (terms_of ts) (terms_of ts) replaced (all_kept t u ts))) e.0 d in
    one_by_one ax g (λ xs. K (u ∷ xs)) (λ v w xs ys r. respects v w (u ∷ xs) (u ∷ ys) (next u u (terms_of xs) (terms_of ys) (kept u) r)) ts us t_closed.1 u_closed.1 e.1 head

pub atom_congruence : (ax g : List Formula) (s : Sym) (ts us : List Term) → list_all closed ts ≡ true → list_all closed us ≡ true → AreEqual ax g ts us → Derives ax g (Atom s ts) → Derives ax g (Atom s us)
atom_congruence ax g s ts us ct cu e d = one_by_one ax g (λ xs. Atom s xs) (λ t u xs ys r. (refl, r)) ts us ct cu e d

pub application_congruence : (ax g : List Formula) (s : Sym) (ts us : List Term) → list_all closed ts ≡ true → list_all closed us ≡ true → AreEqual ax g ts us → Derives ax g (Eq (App s (terms_of ts)) (App s (terms_of us)))
application_congruence ax g s ts us ct cu e =
    let at : Term = App s (terms_of ts) in
    let at_closed : closed at ≡ true = rw (args_below-terms_of 0 ts) ct in
    one_by_one ax g (λ xs. Eq at (App s (terms_of xs))) (λ t u xs ys r. (kept at, within s (terms_of xs) (terms_of ys) r)) ts us ct cu e (reflexive ax g at at_closed)

-- an equation with equal sides
pub equation_congruence : (ax g : List Formula) (t u v w : Term) → closed t ≡ true → closed u ≡ true → closed v ≡ true → closed w ≡ true → Derives ax g (Eq t u) → Derives ax g (Eq v w) → Derives ax g (Eq t v) → Derives ax g (Eq u w)
equation_congruence ax g t u v w ct cu cv cw d e f = chained ax g u v w cv cw (chained ax g u t v ct cv (swapped ax g t u ct cu d) f) e
