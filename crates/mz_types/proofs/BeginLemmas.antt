-- What the code of a chain's beginning tells.
use Rattle.std.proofs.Common.{◌≡◌, ◌<◌, ℕ, zero, suc, List, [], ◌∷◌, ◌++◌, refl, sym, ap, ◌∙◌, subst, Bool, true, false, arith, length, Option, Some, None}
use Rattle.std.specs.Prelude.{reverse}
use Rattle.mz_logic.specs.declared.sym.Sym.{Sym}
use Rattle.mz_logic.specs.declared.kind.Kind.{Kind}
use Rattle.mz_logic.specs.declared.kind.Kind.TheVariants as kind
use Rattle.mz_logic.specs.Term.{Term, Bound, Const, App, terms_of}
use Rattle.mz_core.specs.declared.radix.Radix.{Radix}
use Rattle.mz_context.specs.declared.context.Context.{Context}
use Rattle.mz_ground.specs.declared.clause.Clause.{Clause}
use Rattle.mz_environment.specs.declared.environment.Environment.{Environment}
use Rattle.mz_fits.proofs.FitLemmas.{empty}
use Rattle.mz_types.specs.RowTypes.{RowsAdd}
use Rattle.mz_types.specs.Structures.{FirstGives, AggregateGives}
use Rattle.mz_types.specs.Chain as ch
use Rattle.mz_types.specs.Chain.{has_no_radix, rows_of_letters, radix_if_any, Begins, IsChain}

pub told_functor : (cs : List Clause) (e : Environment) (c : Context) (s : Sym) (ts args : List Term) (xs : List Radix) → s.kind ≡ kind.Functor → args ≡ ts → RowsAdd cs c.constants s args e.functors xs → Begins cs e c (App s (terms_of ts)) (reverse xs)
told_functor cs e c s ts args xs h ea k = ch.functor s ts xs h (subst (λ (us : List Term). RowsAdd cs c.constants s us e.functors xs) ea k)

pub told_letter : (cs : List Clause) (e : Environment) (c : Context) (s : Sym) (ts args : List Term) (xs : List Radix) → s.kind ≡ kind.LetterFunctor → args ≡ ts → RowsAdd cs c.constants s args (rows_of_letters c.letters) xs → Begins cs e c (App s (terms_of ts)) (reverse xs)
told_letter cs e c s ts args xs h ea k = ch.letter s ts xs h (subst (λ (us : List Term). RowsAdd cs c.constants s us (rows_of_letters c.letters) xs) ea k)

-- a list of one at most in the other order
radix_if_any-turned : (o : Option Radix) → radix_if_any o ≡ reverse (radix_if_any o)
radix_if_any-turned None = refl
radix_if_any-turned (Some r) = refl

pub told_aggregate : (cs : List Clause) (e : Environment) (c : Context) (s : Sym) (ts : List Term) (xs : List Radix) → s.kind ≡ kind.Aggregate → ((o : Option Radix) × AggregateGives cs c.constants e.structures s ts o × (xs ≡ radix_if_any o)) → Begins cs e c (App s (terms_of ts)) (reverse xs)
told_aggregate cs e c s ts xs h a =
    subst (Begins cs e c (App s (terms_of ts))) (radix_if_any-turned a.0 ∙ ap reverse (sym a.2)) (ch.aggregate s ts a.0 h a.1)

pub told_selector : (cs : List Clause) (e : Environment) (c : Context) (s : Sym) (ts args : List Term) (xs : List Radix) → s.kind ≡ kind.Selector → args ≡ ts → (s.kind ≡ kind.Selector → Begins cs e c (App s (terms_of args)) (reverse xs)) → Begins cs e c (App s (terms_of ts)) (reverse xs)
told_selector cs e c s ts args xs h ea k = subst (λ (us : List Term). Begins cs e c (App s (terms_of us)) (reverse xs)) ea (k h)

none_left : (k : Kind) → ¬ (k ≡ kind.Functor) → ¬ (k ≡ kind.LetterFunctor) → ¬ (k ≡ kind.Aggregate) → ¬ (k ≡ kind.Selector) → has_no_radix k ≡ true
none_left kind.Mode a b d f = refl
none_left kind.Structure a b d f = refl
none_left kind.Attribute a b d f = refl
none_left kind.Functor a b d f = absurd (a refl)
none_left kind.Selector a b d f = absurd (f refl)
none_left kind.Aggregate a b d f = absurd (d refl)
none_left kind.Predicate a b d f = refl
none_left kind.LetterFunctor a b d f = absurd (b refl)
none_left kind.LetterPredicate a b d f = refl

pub told_other : (cs : List Clause) (e : Environment) (c : Context) (s : Sym) (ts : List Term) (xs : List Radix) → ¬ (s.kind ≡ kind.Functor) → ¬ (s.kind ≡ kind.LetterFunctor) → ¬ (s.kind ≡ kind.Aggregate) → ¬ (s.kind ≡ kind.Selector) → xs ≡ [] → Begins cs e c (App s (terms_of ts)) (reverse xs)
told_other cs e c s ts xs a b d f ex = subst (λ (ys : List Radix). Begins cs e c (App s (terms_of ts)) (reverse ys)) (sym ex) (ch.other s ts (none_left s.kind a b d f))

pub ruleset application_rules = (told_functor, told_letter, told_aggregate, told_selector, told_other)

-- a selector's application
pub told_no_argument : (cs : List Clause) (e : Environment) (c : Context) (s : Sym) (args : List Term) (xs : List Radix) → length args ≡ 0 → xs ≡ [] → s.kind ≡ kind.Selector → Begins cs e c (App s (terms_of args)) (reverse xs)
told_no_argument cs e c s args xs el ex h =
    subst (λ (ys : List Radix). Begins cs e c (App s (terms_of args)) (reverse ys)) (sym ex) (ch.no_selection s args h (λ one. omega (arith, el, one)))

pub told_more_arguments : (cs : List Clause) (e : Environment) (c : Context) (s : Sym) (args others : List Term) (t : Term) (xs : List Radix) → args ≡ t ∷ others → 0 < length others → xs ≡ [] → s.kind ≡ kind.Selector → Begins cs e c (App s (terms_of args)) (reverse xs)
told_more_arguments cs e c s args others t xs ea lt ex h =
    let n : length args ≡ suc (length others) = ap length ea in
    subst (λ (ys : List Radix). Begins cs e c (App s (terms_of args)) (reverse ys)) (sym ex) (ch.no_selection s args h (λ one. omega (arith, n, lt, one)))

pub told_selected : (cs : List Clause) (e : Environment) (c : Context) (s : Sym) (args others : List Term) (t : Term) (members list : List Radix) (o : Option Radix) (xs : List Radix) → args ≡ t ∷ others → length others ≡ 0 → IsChain cs e c t list → members ≡ list → FirstGives cs c.constants e.structures s t members o → xs ≡ radix_if_any o → s.kind ≡ kind.Selector → Begins cs e c (App s (terms_of args)) (reverse xs)
told_selected cs e c s args others t members list o xs ea eo k em f ex h =
    let one : args ≡ t ∷ [] = ea ∙ ap (λ (us : List Term). t ∷ us) (empty _ eo) in
    let g : FirstGives cs c.constants e.structures s t list o = subst (λ (rs : List Radix). FirstGives cs c.constants e.structures s t rs o) em f in
    subst (Begins cs e c (App s (terms_of args))) (radix_if_any-turned o ∙ ap reverse (sym ex))
    (subst (λ (us : List Term). Begins cs e c (App s (terms_of us)) (radix_if_any o)) (sym one) (ch.selector s t list o h k g))

pub ruleset selection_rules = (told_no_argument, told_more_arguments, told_selected)

-- a term
pub told_index : (cs : List Clause) (e : Environment) (c : Context) (i : ℕ) (xs : List Radix) → xs ≡ [] → Begins cs e c (Bound i) (reverse xs)
told_index cs e c i xs ex = subst (λ (ys : List Radix). Begins cs e c (Bound i) (reverse ys)) (sym ex) (ch.index i)

pub told_constant : (cs : List Clause) (e : Environment) (c : Context) (n : ℕ) (xs : List Radix) → ((ds : List Clause) (f : Environment) → Begins ds f c (Const n) (reverse xs)) → Begins cs e c (Const n) (reverse xs)
told_constant cs e c n xs h = h cs e

pub ruleset begin_rules = (told_index, told_constant)
