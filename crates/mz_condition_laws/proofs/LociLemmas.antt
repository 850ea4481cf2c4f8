-- What is stated at loci stands in a context that has them.
use Rattle.std.proofs.Common.{◌≡◌, ◌≤◌, ◌<◌, ◌+◌, inl, ℕ, zero, suc, Bool, true, List, [], ◌∷◌, length, refl, ap, ◌∙◌, subst, arith}
use Rattle.std.specs.Prelude.{nat_le, nat_lt}
use Rattle.std.specs.List.{list_all}
use Rattle.std.proofs.lemmas.Bool.{and_parts, and_from, ltb-true, lt-ltb, le-leb}
use Rattle.mz_logic.specs.Term.{Term}
use Rattle.mz_logic.specs.Substitution.{substitute, value_at}
use Rattle.mz_core.specs.Closed.{term_under, statement_under}
use Rattle.mz_core.specs.Everywhere.{statement_all}
use Rattle.mz_core.specs.Statement.{Statement}
use Rattle.mz_core.specs.TypeSubstitution.{substitute_statement}
use Rattle.mz_core.proofs.AllLemmas.{statement_all-with, statement_all-at}
use Rattle.mz_core.proofs.MapInstances.{substitutes, substitute_statement-with}
use Rattle.mz_core.proofs.TermMaps.{statement_with}
use Rattle.mz_context.specs.Changes.{with_constant}
use Rattle.mz_context.specs.Context.{next}
use Rattle.mz_context.specs.declared.context.Context.{Context}
use Rattle.mz_names.specs.Closing.{constant_of, with_variables}
use Rattle.mz_names.specs.declared.variable.Variable.{Variable}
use Rattle.mz_choice_laws.specs.Known.{term_known, statement_known}
use Rattle.mz_choice_laws.proofs.KnownTerms.{term_known-under, term_known-substitute, value_known}
use Rattle.mz_choice_laws.proofs.KnownValues.{type_known-where}
use Rattle.mz_loci.specs.Loci.{locus_constants, statement_at_loci}
use Rattle.mz_block_laws.specs.Orders.{Stands, AllStand, AreTyped}
use Rattle.mz_block_laws.proofs.OrderLemmas.{typed_stand, next_with_variables}
use Rattle.mz_term_laws.specs.Usable.{is_usable, statement_usable}
use Rattle.mz_term_laws.specs.ChangeLaws.{AreUsable}
use Rattle.mz_term_laws.proofs.ChangeProofs.{variables_law}
use Rattle.mz_term_laws.proofs.UsableProofs.{next_further}
use Rattle.mz_whole_laws.proofs.StandingLemmas.{type_stands, statement_stands}
use Rattle.mz_standing_laws.specs.Laws.{IsLevel}
use Rattle.mz_standing_laws.specs.Headings.{IsWithLoci}

-- what stands under terms, at these
inside : (known : ℕ → Bool) (ts : List Term) (n d : ℕ) → list_all (term_known known 0) ts ≡ true → length ts ≡ n → (t : Term) → term_under (d + n) t ≡ true → term_known known (d + 0) (substitute d (value_at ts) t) ≡ true
inside known ts n d ht long t h = term_known-substitute known d 0 n (value_at ts) t (λ k lt. value_known known ts k ht (omega (arith, lt, long))) (term_known-under known (d + n) t h)

statement_at_values : (known : ℕ → Bool) (ts : List Term) (n : ℕ) → list_all (term_known known 0) ts ≡ true → length ts ≡ n → (s : Statement) → statement_under n s ≡ true → statement_known known 0 (substitute_statement 0 (value_at ts) s) ≡ true
statement_at_values known ts n ht long s h =
    let before : n ≡ 0 + n = omega arith in
    let after : 0 + 0 ≡ 0 = omega arith in
    let made : Statement = statement_with (substitutes (value_at ts)) 0 s in
    let kept : statement_all (term_known known) (0 + 0) made ≡ true =
    statement_all-with term_under (term_known known) (substitutes (value_at ts)) n 0 0 s (λ d t k. inside known ts n d ht long t k) (statement_all-at term_under n (0 + n) s before h) in
    ap (statement_all (term_known known) 0) (substitute_statement-with (value_at ts) 0 s) ∙ statement_all-at (term_known known) (0 + 0) 0 made after kept

-- the constants of loci
constants-length : (least n : ℕ) → length (locus_constants least n) ≡ n
constants-length least zero = refl
constants-length least (suc n) = ap suc (constants-length least n)

constants_known : (known : ℕ → Bool) (least n : ℕ) → ((j : ℕ) → j < n → known (least + j) ≡ true) → list_all (term_known known 0) (locus_constants least n) ≡ true
constants_known known least zero f = refl
constants_known known least (suc n) f =
    let lt : n < suc n = omega arith in
    and_from (known (least + n)) (list_all (term_known known 0) (locus_constants least n)) (f n lt) (constants_known known least n (λ j below. f j (omega (arith, below))))

usable_from : (c : Context) (m : ℕ) → m < next c → is_usable 0 c m ≡ true
usable_from c m lt = let zero_first : 0 ≤ m = omega arith in and_from (nat_le 0 m) (nat_lt m (next c)) (le-leb 0 m zero_first) (lt-ltb m (next c) lt)

pub at_loci_usable : (c : Context) (least n : ℕ) (s : Statement) → next c ≡ least + n → statement_under n s ≡ true → statement_usable 0 c (statement_at_loci least n s) ≡ true
at_loci_usable c least n s e h =
    statement_at_values (is_usable 0 c) (locus_constants least n) n (constants_known (is_usable 0 c) least n (λ j lt. usable_from c (least + j) (omega (arith, lt, e)))) (constants-length least n) s h

-- loci
usable_below : (least : ℕ) (c : Context) (m : ℕ) → is_usable least c m ≡ true → is_usable 0 c m ≡ true
usable_below least c m h = usable_from c m (ltb-true m (next c) (and_parts (nat_le least m) (nat_lt m (next c)) h).1)

pub usable_from_none : (least : ℕ) (c : Context) (vs : List Variable) → AreUsable least c vs → AreUsable 0 c vs
usable_from_none least c [] u = tt
usable_from_none least c (v ∷ vs) u = (type_known-where (is_usable least c) (is_usable 0 c) (usable_below least c) 0 v.ty u.0, usable_from_none least (with_constant c (constant_of v)) vs u.1)

are_typed : (c : Context) (vs : List Variable) → AreUsable 0 c vs → AreTyped (next c) vs
are_typed c [] u = tt
are_typed c (v ∷ vs) u = (type_stands c v.ty u.0, subst (λ n. AreTyped n vs) (next_further c (constant_of v)) (are_typed (with_constant c (constant_of v)) vs u.1))

pub next_there : (c : Context) (vs : List Variable) → next (with_variables c vs) ≡ next c + length vs
next_there c vs = let e : next (with_variables c vs) ≡ length vs + next c = next_with_variables c vs in omega (arith, e)

-- what is stated at them stands, and does so behind them
pub at_loci_stands : (c : Context) (vs : List Variable) (s : Statement) → statement_under (length vs) s ≡ true → Stands (next (with_variables c vs)) (statement_at_loci (next c) (length vs) s)
at_loci_stands c vs s h = statement_stands (with_variables c vs) (statement_at_loci (next c) (length vs) s) (at_loci_usable (with_variables c vs) (next c) (length vs) s (next_there c vs) h)

pub at_loci_all_stand : (c : Context) (vs : List Variable) (s : Statement) → AreUsable 0 c vs → statement_under (length vs) s ≡ true → AllStand (next c) vs (statement_at_loci (next c) (length vs) s)
at_loci_all_stand c vs s u h =
    typed_stand (next c) vs (statement_at_loci (next c) (length vs) s) (are_typed c vs u)
    (subst (λ n. Stands n (statement_at_loci (next c) (length vs) s)) (next_with_variables c vs) (at_loci_stands c vs s h))

-- the context with loci

it-variables : (c : Context) (vs : List Variable) → (with_variables c vs).it ≡ c.it
it-variables c [] = refl
it-variables c (v ∷ vs) = it-variables (with_constant c (constant_of v)) vs

arguments-variables : (c : Context) (vs : List Variable) → (with_variables c vs).arguments ≡ c.arguments
arguments-variables c [] = refl
arguments-variables c (v ∷ vs) = arguments-variables (with_constant c (constant_of v)) vs

subject-variables : (c : Context) (vs : List Variable) → (with_variables c vs).subject ≡ c.subject
subject-variables c [] = refl
subject-variables c (v ∷ vs) = subject-variables (with_constant c (constant_of v)) vs

pub with_loci : (c : Context) (vs : List Variable) → IsLevel c → AreUsable 0 c vs → IsWithLoci c vs (with_variables c vs)
with_loci c vs level u = record {
  part = record { constants = refl; letters = refl; named = refl; previous = inl refl };
  level = record {
    is_whole = variables_law 0 c vs level.is_whole u;
    no_it = it-variables c vs ∙ level.no_it;
    no_arguments = arguments-variables c vs ∙ level.no_arguments;
    no_subject = subject-variables c vs ∙ level.no_subject;
  };
}
