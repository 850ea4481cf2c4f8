-- The instance by letters as a map of terms: it goes under binders, and past what it leaves.
use Rattle.std.proofs.Common.{◌≡◌, ◌≤◌, ℕ, zero, suc, ◌+◌, ◌-◌, List, [], ◌∷◌, map, refl, ap, sym, ◌∙◌, arith}
use Rattle.std.specs.Prelude.{Option, Some, None}
use Rattle.mz_logic.specs.Term.{Term, Terms, Bound, Const, App, none, more, list_of}
use Rattle.mz_logic.specs.Substitution.{shift, substitute, substitute_args, argument_at}
use Rattle.mz_logic.specs.Letters.{term_for}
use Rattle.mz_logic.specs.Instance.{term_instance, args_instance, term_or}
use Rattle.mz_logic.specs.declared.letters.Letter.{Letter}
use Rattle.mz_logic.specs.declared.sym.Sym.{Sym}
use Rattle.mz_logic.proofs.ShiftLaws.{shift-zero}
use Rattle.mz_logic.proofs.SubstitutionLaws.{substitute-outside, substitute-Bound, substitute-unused, substitute-substitute, substitute_args-terms_of}
use Rattle.mz_core.proofs.TermMaps.{GoesUnder}

-- the instance of a term as a map that doesn't depend on the binders above
abbrev pub instances : List Letter → ℕ → Term → Term
instances ls d t = term_instance ls t

-- an argument of changed arguments is the changed argument
argument-map : (f : Term → Term) → f (Const 0) ≡ Const 0 → (ts : List Term) (k : ℕ) → f (argument_at ts k) ≡ argument_at (map f ts) k
argument-map f same [] zero = same
argument-map f same [] (suc k) = same
argument-map f same (t ∷ ts) zero = refl
argument-map f same (t ∷ ts) (suc k) = argument-map f same ts k

-- what stands for an application, behind a substitution
application-substitute : (v : ℕ → Term) (s : Sym) (us : List Term) (o : Option Term) → substitute 0 v (term_or o s us) ≡ term_or o s (map (substitute 0 v) us)
application-substitute v s us None = ap (λ xs. App s xs) (substitute_args-terms_of 0 v us)
application-substitute v s us (Some body) =
    let each : (k : ℕ) → substitute 0 v (argument_at us k) ≡ argument_at (map (substitute 0 v) us) k = argument-map (substitute 0 v) refl us in
    substitute-substitute 0 (argument_at us) v body ∙ (λ i. substitute 0 (λ k. each k i) body)

list_of-substitute : (v : ℕ → Term) (us : Terms) → list_of (substitute_args 0 v us) ≡ map (substitute 0 v) (list_of us)
list_of-substitute v none = refl
list_of-substitute v (more u us) = ap (λ xs. substitute 0 v u ∷ xs) (list_of-substitute v us)

outside : (v : ℕ → Term) (index : ℕ) → substitute 0 v (Bound index) ≡ v index
outside v index =
    let le : 0 ≤ index = omega arith in
    let place : index - 0 ≡ index = omega arith in
    substitute-outside 0 v index le ∙ (shift-zero 0 (v (index - 0)) ∙ ap v place)

-- the instance of a term whose indices have values that are their own instances
mutual
  pub instance-substitute : (ls : List Letter) (v : ℕ → Term) → ((k : ℕ) → term_instance ls (v k) ≡ v k) → (t : Term) → substitute 0 v (term_instance ls t) ≡ term_instance ls (substitute 0 v t)
  instance-substitute ls v own (Bound index) = outside v index ∙ (sym (own index) ∙ sym (ap (term_instance ls) (outside v index)))
  instance-substitute ls v own (Const number) = refl
  instance-substitute ls v own (App s ts) =
      application-substitute v s (list_of (args_instance ls ts)) (term_for s ls) ∙
      ap (term_or (term_for s ls) s) (sym (list_of-substitute v (args_instance ls ts)) ∙ ap list_of (args_instance-substitute ls v own ts))

  args_instance-substitute : (ls : List Letter) (v : ℕ → Term) → ((k : ℕ) → term_instance ls (v k) ≡ v k) → (ts : Terms) → substitute_args 0 v (args_instance ls ts) ≡ args_instance ls (substitute_args 0 v ts)
  args_instance-substitute ls v own none = refl
  args_instance-substitute ls v own (more t ts) = λ i. more (instance-substitute ls v own t i) (args_instance-substitute ls v own ts i)

-- a shift is a substitution
shift-substitution : (by : ℕ) (t : Term) → shift 0 by t ≡ substitute 0 (λ k. Bound (k + by)) t
shift-substitution by t = sym (substitute-Bound 0 (shift 0 by t)) ∙ substitute-unused 0 by Bound t

pub instances_go_under : (ls : List Letter) → GoesUnder (instances ls)
instances_go_under ls = record {
  raised = λ d t. shift-substitution 1 (term_instance ls t) ∙ (instance-substitute ls (λ k. Bound (k + 1)) (λ k. refl) t ∙ ap (term_instance ls) (sym (shift-substitution 1 t)));
  kept = λ d. refl;
}
