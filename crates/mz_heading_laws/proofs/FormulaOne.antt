-- What a formula is read to, and what the article has left behind it, is determined.
use Rattle.std.proofs.Common.{◌≡◌, ◌<◌, ◌≤◌, ◌⊎◌, inl, inr, ℕ, refl, sym, ◌∙◌, subst, arith, Option, Some}
use Rattle.std.specs.Prelude.{Result, Ok, Err}
use Rattle.mz_base.specs.declared.place.Place.{Place}
use Rattle.mz_core.specs.Statement.{Statement}
use Rattle.mz_core.specs.declared.outcome.Left.{Left}
use Rattle.mz_context.specs.declared.context.Context.{Context}
use Rattle.mz_environment.specs.declared.environment.Environment.{Environment}
use Rattle.mz_names.specs.declared.refusal.Refusal.{Refusal}
use Rattle.mz_names.specs.declared.refusal.Refusal.TheVariants.{TooLarge}
use Rattle.mz_sizes.specs.Sizes.{statement_nodes}
use Rattle.mz_tree.specs.Places.{first_place}
use Rattle.mz_tree.specs.Spell.{spell_formula}
use Rattle.mz_tree.specs.Trees.{FormulaData}
use Rattle.mz_terms.proofs.OneTerm.{one_term, one_list}
use Rattle.mz_terms.proofs.OneType.{one_own, one_type}
use Rattle.mz_formulas.specs.Formulas.{ReadsFormula}
use Rattle.mz_formula_laws.proofs.OneAtom.{Determined}
use Rattle.mz_formula_laws.proofs.OneFormula.{one_formula}
use Rattle.mz_resolve.specs.Calls as ca
use Rattle.mz_resolve.specs.Calls.{Counted, FormulaRead}
use Rattle.mz_resolve.specs.Spending.{spent}
use Rattle.mz_justified_laws.specs.Determined.{SameLeft, IsDetermined}

-- what was read has more nodes than are left, or they are spent
abbrev IsBeyond : Option Place → Left → Statement → Result Statement Refusal → Type 0
IsBeyond place left x o = (first : Place) × (place ≡ Some first) × (left.nodes < statement_nodes x) × (o ≡ Err (TooLarge first))

abbrev IsCounted : Left → Statement → Result Statement Refusal → Left → Type 0
IsCounted left x o a = (statement_nodes x ≤ left.nodes) × (o ≡ Ok x) × (a ≡ spent left (statement_nodes x))

abbrev CountedNext : Option Place → Left → Result Statement Refusal → Result Statement Refusal → Left → Type 0
CountedNext place left (Err r) o a = o ≡ Err r
CountedNext place left (Ok x) o a = IsBeyond place left x o ⊎ IsCounted left x o a

abbrev CountedAs : (Result Statement Refusal → Type 0) → Option Place → Left → Result Statement Refusal → Left → Type 0
CountedAs reads place left o a = (q : Result Statement Refusal) × reads q × CountedNext place left q o a

counted_as : (reads : Result Statement Refusal → Type 0) (place : Option Place) (left : Left) (o : Result Statement Refusal) (a : Left) → Counted reads statement_nodes place left o a → CountedAs reads place left o a
counted_as reads place left o a (ca.not_read r _ h) = (Err r, h, refl)
counted_as reads place left o a (ca.beyond x f _ h i j) = (Ok x, h, inl (f, i, j, refl))
counted_as reads place left o a (ca.counted x h j) = (Ok x, h, inr (j, refl, refl))

same_place : (o : Option Place) (p q : Place) → o ≡ Some p → o ≡ Some q → p ≡ q
same_place o p q h k = cc

same_left : (o : Result Statement Refusal) (a b : Left) → a ≡ b → SameLeft o a b
same_left (Ok x) a b e = e
same_left (Err r) a b e = tt

any_left : (o : Result Statement Refusal) (r : Refusal) (a b : Left) → o ≡ Err r → SameLeft o a b
any_left o r a b e = subst (λ (z : Result Statement Refusal). SameLeft z a b) (sym e) tt

both_beyond : (place : Option Place) (left : Left) (x : Statement) (o p : Result Statement Refusal) (a b : Left) → IsBeyond place left x o → IsBeyond place left x p → (o ≡ p) × SameLeft o a b
both_beyond place left x o p a b h k = (subst (λ (z : Place). o ≡ Err (TooLarge z)) (same_place place h.0 k.0 h.1 k.1) h.3 ∙ sym k.3, any_left o (TooLarge h.0) a b h.3)

apart : (n m : ℕ) → n < m → m ≤ n → ⊥
apart n m h k = omega (arith, h, k)

counted_once : (place : Option Place) (left : Left) (q o p : Result Statement Refusal) (a b : Left) → CountedNext place left q o a → CountedNext place left q p b → (o ≡ p) × SameLeft o a b
counted_once place left (Err r) o p a b h k = (h ∙ sym k, any_left o r a b h)
counted_once place left (Ok x) o p a b (inl h) (inl k) = both_beyond place left x o p a b h k
counted_once place left (Ok x) o p a b (inl h) (inr k) = absurd (apart left.nodes (statement_nodes x) h.2 k.0)
counted_once place left (Ok x) o p a b (inr h) (inl k) = absurd (apart left.nodes (statement_nodes x) k.2 h.0)
counted_once place left (Ok x) o p a b (inr h) (inr k) = (h.1 ∙ sym k.1, same_left o a b (h.2 ∙ sym k.2))

determined : Determined
determined =
    record {
      term = λ e c least t o p h k. one_term e c least t o h p k;
      terms = λ e c least t o p h k. one_list e c least t o h p k;
      own = one_own;
      ty = one_type;
    }

pub one_formula_read : (e : Environment) (c : Context) (least : ℕ) (left : Left) (f : FormulaData) → IsDetermined (FormulaRead e c least left f)
one_formula_read e c least left f o p a b h k =
    let place : Option Place = first_place (spell_formula f) in
    let x : CountedAs (ReadsFormula e least c f) place left o a = counted_as (ReadsFormula e least c f) place left o a h in
    let y : CountedAs (ReadsFormula e least c f) place left p b = counted_as (ReadsFormula e least c f) place left p b k in
    counted_once place left x.0 o p a b x.2 (subst (λ (z : Result Statement Refusal). CountedNext place left z p b) (sym (one_formula determined e least c f x.0 x.1 y.0 y.1)) y.2)
