-- Sizes of instances.
use Rattle.std.proofs.Common.{◌≡◌, ◌+◌, List, [], ◌∷◌, map, refl, ap, ◌∙◌, Option, Some, None, Bool}
use Rattle.std.specs.Prelude.{max}
use Rattle.mz_logic.specs.Term.{Term, Terms, Bound, Const, App, none, more, terms_of, list_of}
use Rattle.mz_logic.specs.Formula.{Formula, Truth, Eq, Atom, Not, And, All}
use Rattle.mz_logic.specs.declared.sym.Sym.{Sym}
use Rattle.mz_logic.specs.Letters.{term_for, formula_for}
use Rattle.mz_logic.specs.Instance.{term_or, formula_or, term_instance, args_instance, instance}
use Rattle.mz_logic.specs.declared.letters.Letter.{Letter}
use Rattle.mz_logic.proofs.InstanceLemmas.{args_instance-terms_of}
use Rattle.mz_ground.specs.Instance.{term_nodes, args_nodes}
use Rattle.mz_sizes.specs.Sizes.{term_depth, args_depth, term_keeps}
use Rattle.mz_instance_sizes.specs.Sizes.{is_kept, above, beside, all_beside, term_size, args_size, formula_nodes, formula_depth, formula_size, formula_keeps}
use Rattle.mz_instance_sizes.specs.Instances.{applied_size, stated_size, instance_size, instance_sizes, instance_within}
use Rattle.mz_instance_sizes.specs.declared.size.Size.{Size}
use Rattle.mz_instance_sizes.proofs.SizeLemmas.{above-capped, beside-capped, kept-capped}
use Rattle.mz_instance_sizes.proofs.WithinLemmas.{size-substitute, within-substitute}

pub instance_sizes-terms_of : (ls : List Letter) (ts : List Term) → instance_sizes ls (terms_of ts) ≡ map (instance_size ls) ts
instance_sizes-terms_of ls [] = refl
instance_sizes-terms_of ls (t ∷ ts) = ap (λ xs. instance_size ls t ∷ xs) (instance_sizes-terms_of ls ts)

pub ruleset list_rules = (instance_sizes-terms_of)

pub all-beside : (us : List Term) → all_beside (map term_size us) ≡ args_size (terms_of us)
all-beside [] = refl
all-beside (u ∷ us) = ap (beside (term_size u)) (all-beside us) ∙ beside-capped (term_nodes u) (args_nodes (terms_of us)) (term_depth u) (args_depth (terms_of us))

applied : (o : Option Term) (s : Sym) (us : List Term) → applied_size o (map term_size us) ≡ term_size (term_or o s us)
applied None s us = ap above (all-beside us) ∙ above-capped (args_nodes (terms_of us)) (args_depth (terms_of us))
applied (Some body) s us = size-substitute us 0 body

stated : (o : Option Formula) (s : Sym) (us : List Term) → stated_size o (map term_size us) ≡ formula_size (formula_or o s us)
stated None s us = ap above (all-beside us) ∙ above-capped (args_nodes (terms_of us)) (args_depth (terms_of us))
stated (Some body) s us = within-substitute us 0 body

mutual
  pub size-instance : (ls : List Letter) (t : Term) → instance_size ls t ≡ term_size (term_instance ls t)
  size-instance ls (Bound index) = refl
  size-instance ls (Const number) = refl
  size-instance ls (App s ts) = ap (applied_size (term_for s ls)) (sizes-instance ls ts) ∙ applied (term_for s ls) s (list_of (args_instance ls ts))

  pub sizes-instance : (ls : List Letter) (ts : Terms) → instance_sizes ls ts ≡ map term_size (list_of (args_instance ls ts))
  sizes-instance ls none = refl
  sizes-instance ls (more t ts) = λ i. size-instance ls t i ∷ sizes-instance ls ts i

pub within-instance : (ls : List Letter) (f : Formula) → instance_within ls f ≡ formula_size (instance ls f)
within-instance ls Truth = refl
within-instance ls (Eq t u) =
    let v : Term = term_instance ls t in
    let w : Term = term_instance ls u in
    ap above ((λ i. beside (size-instance ls t i) (size-instance ls u i)) ∙ beside-capped (term_nodes v) (term_nodes w) (term_depth v) (term_depth w))
    ∙ above-capped (term_nodes v + term_nodes w) (max (term_depth v) (term_depth w))
within-instance ls (Atom s ts) =
    ap (stated_size (formula_for s ls)) (sizes-instance ls (terms_of ts) ∙ ap (map term_size) (args_instance-terms_of ls ts)) ∙ stated (formula_for s ls) s (map (term_instance ls) ts)
within-instance ls (Not f) = ap above (within-instance ls f) ∙ above-capped (formula_nodes (instance ls f)) (formula_depth (instance ls f))
within-instance ls (And f h) =
    let g : Formula = instance ls f in
    let k : Formula = instance ls h in
    ap above ((λ i. beside (within-instance ls f i) (within-instance ls h i)) ∙ beside-capped (formula_nodes g) (formula_nodes k) (formula_depth g) (formula_depth k))
    ∙ above-capped (formula_nodes g + formula_nodes k) (max (formula_depth g) (formula_depth k))
within-instance ls (All f) = ap above (within-instance ls f) ∙ above-capped (formula_nodes (instance ls f)) (formula_depth (instance ls f))

pub told_term_kept : (ls : List Letter) (t : Term) (x : Size) (b : Bool) → x ≡ instance_size ls t → b ≡ is_kept x → b ≡ term_keeps (term_instance ls t)
told_term_kept ls t x b ex eb = eb ∙ ap is_kept (ex ∙ size-instance ls t) ∙ kept-capped (term_nodes (term_instance ls t)) (term_depth (term_instance ls t))

pub told_instance_kept : (ls : List Letter) (f : Formula) (x : Size) (b : Bool) → x ≡ instance_within ls f → b ≡ is_kept x → b ≡ formula_keeps (instance ls f)
told_instance_kept ls f x b ex eb = eb ∙ ap is_kept (ex ∙ within-instance ls f) ∙ kept-capped (formula_nodes (instance ls f)) (formula_depth (instance ls f))

pub ruleset keep_rules = (told_term_kept, told_instance_kept)
