-- Sizes of what has terms for its places.
use Rattle.std.proofs.Common.{◌≡◌, ◌<◌, ◌+◌, ◌-◌, add-one, ℕ, zero, suc, List, [], ◌∷◌, length, map, take, get_or, refl, sym, ap, ◌∙◌, arith, Bool, true, false}
use Rattle.std.specs.Prelude.{nat_lt, if◌then◌else◌, max}
use Rattle.mz_logic.specs.Term.{Term, Terms, Bound, Const, App, none, more, terms_of}
use Rattle.mz_logic.specs.Formula.{Formula, Truth, Eq, Atom, Not, And, All}
use Rattle.mz_logic.specs.Substitution.{shift, shift_args, substitute, substitute_args, substitute_formula, argument_at}
use Rattle.mz_ground.specs.Instance.{term_nodes, args_nodes}
use Rattle.mz_sizes.specs.Sizes.{term_depth, args_depth}
use Rattle.mz_instance_sizes.specs.Sizes.{capped, nothing, leaf, above, beside, term_size, args_size, formula_nodes, formula_depth, formula_size}
use Rattle.mz_instance_sizes.specs.Within.{size_or, size_at, sizes_at, size_within}
use Rattle.mz_instance_sizes.specs.declared.size.Size.{Size}
use Rattle.mz_instance_sizes.proofs.SizeLemmas.{above-capped, beside-capped, beside-assoc, beside-nothing}

-- terms beside each other, one more
sizes_more : (xs : List Size) (d : ℕ) (ts : List Term) (i : ℕ) (t : Term) → i < length ts → t ≡ get_or ts i t → sizes_at xs d (terms_of (take (suc i) ts)) ≡ beside (sizes_at xs d (terms_of (take i ts))) (size_at xs d t)
sizes_more xs d [] i t lt e = absurd (omega (arith, lt))
sizes_more xs d (u ∷ us) zero t lt e = ap (λ z. beside (size_at xs d z) nothing) (sym e) ∙ beside-nothing (size_at xs d t)
sizes_more xs d (u ∷ us) (suc i) t lt e =
    ap (beside (size_at xs d u)) (sizes_more xs d us i t (omega (arith, lt)) e) ∙ sym (beside-assoc (size_at xs d u) (sizes_at xs d (terms_of (take i us))) (size_at xs d t))

pub told_more_sizes : (xs : List Size) (d : ℕ) (ts : List Term) (i : ℕ) (t : Term) (out x longer : Size) → i < length ts → t ≡ get_or ts i t → out ≡ sizes_at xs d (terms_of (take i ts)) → x ≡ size_at xs d t → longer ≡ beside out x → longer ≡ sizes_at xs d (terms_of (take (i + 1) ts))
told_more_sizes xs d ts i t out x longer lt e eo ex el =
    el ∙ (λ k. beside (eo k) (ex k)) ∙ sym (sizes_more xs d ts i t lt e) ∙ ap (λ n. sizes_at xs d (terms_of (take n ts))) (sym (add-one i))

pub ruleset terms_rules = (told_more_sizes)

-- an index
pub told_here : (xs : List Size) (depth index : ℕ) → nat_lt index depth ≡ true → leaf ≡ size_at xs depth (Bound index)
told_here xs depth index e = sym (ap (λ b. if b then leaf else size_or xs (index - depth)) e)

pub ruleset term_rules = (told_here)

-- a shift changes nothing
mutual
  nodes-shift : (from by : ℕ) (t : Term) → term_nodes (shift from by t) ≡ term_nodes t
  nodes-shift from by (Bound index) = refl
  nodes-shift from by (Const number) = refl
  nodes-shift from by (App s ts) = ap suc (args_nodes-shift from by ts)

  args_nodes-shift : (from by : ℕ) (ts : Terms) → args_nodes (shift_args from by ts) ≡ args_nodes ts
  args_nodes-shift from by none = refl
  args_nodes-shift from by (more t ts) = λ i. nodes-shift from by t i + args_nodes-shift from by ts i

mutual
  depth-shift : (from by : ℕ) (t : Term) → term_depth (shift from by t) ≡ term_depth t
  depth-shift from by (Bound index) = refl
  depth-shift from by (Const number) = refl
  depth-shift from by (App s ts) = ap suc (args_depth-shift from by ts)

  args_depth-shift : (from by : ℕ) (ts : Terms) → args_depth (shift_args from by ts) ≡ args_depth ts
  args_depth-shift from by none = refl
  args_depth-shift from by (more t ts) = λ i. max (depth-shift from by t i) (args_depth-shift from by ts i)

size-shift : (from by : ℕ) (t : Term) → term_size (shift from by t) ≡ term_size t
size-shift from by t = λ i. capped (nodes-shift from by t i) (depth-shift from by t i)

-- terms for the places
or-argument : (ts : List Term) (k : ℕ) → size_or (map term_size ts) k ≡ term_size (argument_at ts k)
or-argument [] k = refl
or-argument (t ∷ ts) zero = refl
or-argument (t ∷ ts) (suc k) = or-argument ts k

at_index : (ts : List Term) (depth index : ℕ) (b : Bool) → (if b then leaf else size_or (map term_size ts) (index - depth)) ≡ term_size (if b then Bound index else shift 0 depth (argument_at ts (index - depth)))
at_index ts depth index true = refl
at_index ts depth index false = or-argument ts (index - depth) ∙ sym (size-shift 0 depth (argument_at ts (index - depth)))

mutual
  pub size-substitute : (ts : List Term) (depth : ℕ) (t : Term) → size_at (map term_size ts) depth t ≡ term_size (substitute depth (argument_at ts) t)
  size-substitute ts depth (Bound index) = at_index ts depth index (nat_lt index depth)
  size-substitute ts depth (Const number) = refl
  size-substitute ts depth (App s us) =
      ap above (sizes-substitute ts depth us) ∙ above-capped (args_nodes (substitute_args depth (argument_at ts) us)) (args_depth (substitute_args depth (argument_at ts) us))

  pub sizes-substitute : (ts : List Term) (depth : ℕ) (us : Terms) → sizes_at (map term_size ts) depth us ≡ args_size (substitute_args depth (argument_at ts) us)
  sizes-substitute ts depth none = refl
  sizes-substitute ts depth (more u us) =
      let v : Term = substitute depth (argument_at ts) u in
      let vs : Terms = substitute_args depth (argument_at ts) us in
      (λ i. beside (size-substitute ts depth u i) (sizes-substitute ts depth us i)) ∙ beside-capped (term_nodes v) (args_nodes vs) (term_depth v) (args_depth vs)

pub substituted : (values : ℕ → Term) (depth : ℕ) (us : List Term) → substitute_args depth values (terms_of us) ≡ terms_of (map (substitute depth values) us)
substituted values depth [] = refl
substituted values depth (u ∷ us) = ap (more (substitute depth values u)) (substituted values depth us)

pub within-substitute : (ts : List Term) (depth : ℕ) (f : Formula) → size_within (map term_size ts) depth f ≡ formula_size (substitute_formula depth (argument_at ts) f)
within-substitute ts depth Truth = refl
within-substitute ts depth (Eq t u) =
    let v : Term = substitute depth (argument_at ts) t in
    let w : Term = substitute depth (argument_at ts) u in
    ap above ((λ i. beside (size-substitute ts depth t i) (size-substitute ts depth u i)) ∙ beside-capped (term_nodes v) (term_nodes w) (term_depth v) (term_depth w))
    ∙ above-capped (term_nodes v + term_nodes w) (max (term_depth v) (term_depth w))
within-substitute ts depth (Atom s us) =
    let vs : Terms = terms_of (map (substitute depth (argument_at ts)) us) in
    ap above (sizes-substitute ts depth (terms_of us) ∙ ap args_size (substituted (argument_at ts) depth us)) ∙ above-capped (args_nodes vs) (args_depth vs)
within-substitute ts depth (Not f) =
    let g : Formula = substitute_formula depth (argument_at ts) f in
    ap above (within-substitute ts depth f) ∙ above-capped (formula_nodes g) (formula_depth g)
within-substitute ts depth (And f h) =
    let g : Formula = substitute_formula depth (argument_at ts) f in
    let k : Formula = substitute_formula depth (argument_at ts) h in
    ap above ((λ i. beside (within-substitute ts depth f i) (within-substitute ts depth h i)) ∙ beside-capped (formula_nodes g) (formula_nodes k) (formula_depth g) (formula_depth k))
    ∙ above-capped (formula_nodes g + formula_nodes k) (max (formula_depth g) (formula_depth k))
within-substitute ts depth (All f) =
    let g : Formula = substitute_formula (depth + 1) (argument_at ts) f in
    ap above (within-substitute ts (depth + 1) f) ∙ above-capped (formula_nodes g) (formula_depth g)
