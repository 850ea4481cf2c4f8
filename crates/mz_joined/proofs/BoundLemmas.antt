-- Quantifiers over variables, the last one first.
use Rattle.std.proofs.Common.{◌≡◌, ◌<◌, ◌+◌, ◌-◌, ℕ, zero, suc, List, [], ◌∷◌, ◌++◌, length, refl, sym, ap, ◌∙◌, subst, arith, Bool, true, false}
use Rattle.std.proofs.lemmas.List.{length_push}
use Rattle.std.specs.Prelude.{if◌then◌else◌, Result, Ok, Err}
use Rattle.mz_base.specs.declared.place.Place.{Place}
use Rattle.mz_core.specs.Abstraction.{statement_over}
use Rattle.mz_core.specs.Statement.{Statement, For, Not}
use Rattle.mz_core.specs.StatementForms.{opposite}
use Rattle.mz_core.specs.declared.soft_type.SoftType.{SoftType}
use Rattle.mz_names.specs.Closing.{for_all, there_are}
use Rattle.mz_names.specs.declared.refusal.Refusal.{Refusal}
use Rattle.mz_names.specs.declared.refusal.Refusal.TheVariants.{TooLarge}
use Rattle.mz_names.specs.declared.variable.Variable.{Variable}
use Rattle.mz_sizes.specs.Sizes.{statement_keeps}
use Rattle.mz_applied.specs.Within.{within}
use Rattle.mz_joined.specs.Bound.{quantified, for_all_within, there_are_within}
use Rattle.mz_joined.specs.Joined.{denied}
use Rattle.mz_joined.proofs.KeepLemmas.{beyond_for, beyond_not, statement_keeps-over, within_kept, within_beyond, within_refused, refused_within}

-- one variable more at the end
pub for_all-push : (n : ℕ) (vs : List Variable) (v : Variable) (s : Statement) → for_all n (vs ++ v ∷ []) s ≡ for_all n vs (For v.ty (statement_over (n + length vs) 0 s))
for_all-push n [] v s = ap (λ k. For v.ty (statement_over k 0 s)) (omega arith)
for_all-push n (w ∷ ws) v s =
    ap (λ r. For w.ty (statement_over n 0 r)) (for_all-push (suc n) ws v s ∙ ap (λ k. for_all (suc n) ws (For v.ty (statement_over k 0 s))) (omega arith))

-- what is beyond the limits stays so under quantifiers
beyond_all : (n : ℕ) (vs : List Variable) (s : Statement) → statement_keeps s ≡ false → statement_keeps (for_all n vs s) ≡ false
beyond_all n [] s h = h
beyond_all n (v ∷ vs) s h = beyond_for v.ty (statement_over n 0 (for_all (suc n) vs s)) (statement_keeps-over n 0 (for_all (suc n) vs s) ∙ beyond_all (suc n) vs s h)

-- where the loop over variables has come: to all of them, or past some
pub data Reached (first : Place) (vs : List Variable) (s : Statement) (rest : List Variable) (out : Statement) : Type 0 where
  at_start : rest ≡ vs → out ≡ s → Reached first vs s rest out
  later : (v : Variable) (others : List Variable) → vs ≡ v ∷ others → within statement_keeps first out ≡ Ok out → Reached first vs s rest out

pub record Turned (first : Place) (n : ℕ) (vs : List Variable) (s : Statement) (rest : List Variable) (out : Statement) (number : ℕ) : Type 0 where
  pub numbered : number ≡ n + length rest
  pub same : for_all n rest out ≡ for_all n vs s
  pub reached : Reached first vs s rest out

pub told_start : (first : Place) (n number count : ℕ) (vs : List Variable) (s : Statement) → count ≡ length vs → number ≡ n + count → Turned first n vs s vs s number
told_start first n number count vs s ec en = record { numbered = omega (arith, ec, en); same = refl; reached = at_start refl refl }

some_variable : (vs before : List Variable) (v : Variable) → before ++ v ∷ [] ≡ vs → (w : Variable) × (others : List Variable) × (vs ≡ w ∷ others)
some_variable vs [] v e = (v, [], sym e)
some_variable vs (w ∷ ws) v e = (w, ws ++ v ∷ [], sym e)

has_variable : (first : Place) (vs rest before : List Variable) (s out : Statement) (v : Variable) → rest ≡ before ++ v ∷ [] → Reached first vs s rest out → (w : Variable) × (others : List Variable) × (vs ≡ w ∷ others)
has_variable first vs rest before s out v er (at_start es eo) = some_variable vs before v (sym er ∙ es)
has_variable first vs rest before s out v er (later w others ev h) = (w, others, ev)

quantified-some : (first : Place) (n : ℕ) (vs : List Variable) (s : Statement) (w : Variable) (others : List Variable) → vs ≡ w ∷ others → quantified first n vs s ≡ within statement_keeps first (for_all n vs s)
quantified-some first n vs s w others e = subst (λ us. quantified first n us s ≡ within statement_keeps first (for_all n us s)) (sym e) refl

for_all-inside : (n number less : ℕ) (rest before : List Variable) (v : Variable) (out goal : Statement) → rest ≡ before ++ v ∷ [] → number ≡ n + length rest → less ≡ number - 1 → for_all n rest out ≡ goal → for_all n before (For v.ty (statement_over less 0 out)) ≡ goal
for_all-inside n number less rest before v out goal er en el h =
    let e : less ≡ n + length before = omega (arith, en, el, ap length er, length_push before v) in
    ap (λ k. for_all n before (For v.ty (statement_over k 0 out))) e ∙ (sym (for_all-push n before v out) ∙ (ap (λ us. for_all n us out) (sym er) ∙ h))

pub told_turn : (first : Place) (n number less : ℕ) (vs rest before : List Variable) (v : Variable) (s out next : Statement) (p : Result Statement Refusal) →
    rest ≡ before ++ v ∷ [] → less ≡ number - 1 → p ≡ within statement_keeps first (For v.ty (statement_over less 0 out)) → p ≡ Ok next → Turned first n vs s rest out number → Turned first n vs s before next less
told_turn first n number less vs rest before v s out next p er el ep eo t =
    let is : next ≡ For v.ty (statement_over less 0 out) = within_kept first (For v.ty (statement_over less 0 out)) next (sym ep ∙ eo) in
    let some = has_variable first vs rest before s out v er t.reached in
    record {
      numbered = omega (arith, t.numbered, el, ap length er, length_push before v);
      same = ap (for_all n before) is ∙ for_all-inside n number less rest before v out (for_all n vs s) er t.numbered el t.same;
      reached = later some.0 some.1 some.2 (ap (within statement_keeps first) is ∙ (sym ep ∙ eo));
    }

pub told_stop : (first : Place) (n number less : ℕ) (vs rest before : List Variable) (v : Variable) (s out : Statement) (p : Result Statement Refusal) (r : Refusal) →
    rest ≡ before ++ v ∷ [] → less ≡ number - 1 → p ≡ within statement_keeps first (For v.ty (statement_over less 0 out)) → p ≡ Err r → Turned first n vs s rest out number → Err r ≡ quantified first n vs s
told_stop first n number less vs rest before v s out p r er el ep eo t =
    let some = has_variable first vs rest before s out v er t.reached in
    let over : statement_keeps (For v.ty (statement_over less 0 out)) ≡ false = within_beyond first (For v.ty (statement_over less 0 out)) r (sym ep ∙ eo) in
    let all : statement_keeps (for_all n vs s) ≡ false = ap statement_keeps (sym (for_all-inside n number less rest before v out (for_all n vs s) er t.numbered el t.same)) ∙ beyond_all n before (For v.ty (statement_over less 0 out)) over in
    ap Err (within_refused first (For v.ty (statement_over less 0 out)) r (sym ep ∙ eo)) ∙ sym (quantified-some first n vs s some.0 some.1 some.2 ∙ refused_within first (for_all n vs s) all)

none_left : (first : Place) (n : ℕ) (vs : List Variable) (s out : Statement) → for_all n [] out ≡ for_all n vs s → Reached first vs s [] out → Ok out ≡ quantified first n vs s
none_left first n vs s out h (at_start ev eo) = ap Ok eo ∙ ap (λ us. quantified first n us s) ev
none_left first n vs s out h (later v others ev k) = sym (quantified-some first n vs s v others ev ∙ (ap (within statement_keeps first) (sym h) ∙ k))

no_items : (rest : List Variable) → length rest ≡ 0 → rest ≡ []
no_items [] e = refl
no_items (v ∷ vs) e = absurd (omega (arith, e))

pub told_end : (first : Place) (n number : ℕ) (vs rest : List Variable) (s out : Statement) → length rest ≡ 0 → Turned first n vs s rest out number → Ok out ≡ quantified first n vs s
told_end first n number vs rest s out e t =
    let em : rest ≡ [] = no_items rest e in
    none_left first n vs s out (ap (λ us. for_all n us out) (sym em) ∙ t.same) (subst (λ us. Reached first vs s us out) em t.reached)

-- for all
pub within-told_all : (first : Place) (n : ℕ) (vs : List Variable) (s out : Statement) (p : Result Statement Refusal) → p ≡ quantified first n vs s → p ≡ Ok out → within statement_keeps first out ≡ for_all_within first n vs s
within-told_all first n [] s out p e eo = let f : out ≡ s = cc (sym eo ∙ e) in ap (within statement_keeps first) f
within-told_all first n (v ∷ vs) s out p e eo = ap (within statement_keeps first) (within_kept first (for_all n (v ∷ vs) s) out (sym e ∙ eo))

pub told_not_all : (first : Place) (n : ℕ) (vs : List Variable) (s : Statement) (p : Result Statement Refusal) (r : Refusal) → p ≡ quantified first n vs s → p ≡ Err r → Err r ≡ for_all_within first n vs s
told_not_all first n [] s p r e er = cc (sym e ∙ er)
told_not_all first n (v ∷ vs) s p r e er = sym er ∙ e

-- for some
denied-within : (b : Bool) (first : Place) (ty : SoftType) (s : Statement) → statement_keeps (For ty s) ≡ b → denied first (if b then Ok (For ty s) else Err (TooLarge first)) ≡ within statement_keeps first (opposite (For ty s))
denied-within true first ty s e = refl
denied-within false first ty s e = sym (refused_within first (Not (For ty s)) (beyond_not (For ty s) e))

denied-quantified : (first : Place) (n : ℕ) (vs : List Variable) (s : Statement) → denied first (quantified first n vs (opposite s)) ≡ there_are_within first n vs s
denied-quantified first n [] s = refl
denied-quantified first n (v ∷ vs) s = denied-within (statement_keeps (for_all n (v ∷ vs) (opposite s))) first v.ty (statement_over n 0 (for_all (suc n) vs (opposite s))) refl

pub told_some : (first : Place) (n : ℕ) (vs : List Variable) (s opposed : Statement) (all o : Result Statement Refusal) → opposed ≡ opposite s → all ≡ quantified first n vs opposed → o ≡ denied first all → o ≡ there_are_within first n vs s
told_some first n vs s opposed all o es ea eo = eo ∙ (ap (denied first) (ea ∙ ap (quantified first n vs) es) ∙ denied-quantified first n vs s)

pub ruleset quantified_rules = (told_start, told_turn, told_stop, told_end)

pub ruleset all_rules = (within-told_all, told_not_all)

pub ruleset some_rules = (told_some)
