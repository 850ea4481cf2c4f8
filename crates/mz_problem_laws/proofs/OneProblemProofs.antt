-- A statement and what is given have one problem.
use Rattle.std.proofs.Common.{◌≡◌, ℕ, Bool, true, false, List, [], ◌∷◌, ◌++◌, refl, sym, ap, ◌∙◌, subst, Option, Some, None}
use Rattle.mz_logic.specs.declared.sym.Sym.{Sym}
use Rattle.mz_logic.specs.declared.literal.Literal.{Literal}
use Rattle.mz_logic.specs.Term.{Term, Const}
use Rattle.mz_core.specs.Statement.{Statement, Truth, Eq, Atom, Not, And, For}
use Rattle.mz_core.specs.StatementForms.{opposite}
use Rattle.mz_core.specs.TypeSubstitution.{statement_at}
use Rattle.mz_core.specs.declared.soft_type.SoftType.{SoftType}
use Rattle.mz_context.specs.Context.{numbers}
use Rattle.mz_context.specs.declared.constants.Constant.{Constant}
use Rattle.mz_ground.specs.declared.clause.Clause.{Clause}
use Rattle.mz_environment.specs.declared.unfoldings.Unfolding.{Unfolding}
use Rattle.mz_nf.specs.declared.problem.Problem.{Problem}
use Rattle.mz_thesis.specs.Rows.{with_fresh}
use Rattle.mz_thesis.specs.Unfolding.{UnfoldsTo}
use Rattle.mz_thesis.proofs.OneValue.{one_unfolding_law}
use Rattle.mz_problem.specs.Opened.{is_universal, Opens, as_it_is, at_constant, with_all_fresh, guards_from}
use Rattle.mz_problem.specs.Definientia.{is_signed_atom, Adds, definiens, negated_definiens, nothing, nothing_negated, other, AllAdd, no_parts, and_part}
use Rattle.mz_problem.specs.Asked.{known_in, formulas_of, parts_of, problem_of, AskedAt, with_added, Asks, asks}
use Rattle.mz_problem_laws.specs.OneProblem.{OneProblemLaw}

true_false : true ≡ false → ⊥
true_false e = cc

-- leading quantifiers
abbrev OpenedAs : List (Option Constant) → Statement → List SoftType → Statement → Type 0
OpenedAs ks Truth tys t = (tys ≡ []) × (t ≡ Truth)
OpenedAs ks (Eq u v) tys t = (tys ≡ []) × (t ≡ Eq u v)
OpenedAs ks (Atom s ts) tys t = (tys ≡ []) × (t ≡ Atom s ts)
OpenedAs ks (Not s) tys t = (tys ≡ []) × (t ≡ Not s)
OpenedAs ks (And s u) tys t = (tys ≡ []) × (t ≡ And s u)
OpenedAs ks (For ty s) tys t = (us : List SoftType) × (tys ≡ ty ∷ us) × Opens (with_fresh ks ty) (statement_at s (Const (numbers ks))) us t

as_it_stands : (ks : List (Option Constant)) (s : Statement) → is_universal s ≡ false → OpenedAs ks s [] s
as_it_stands ks Truth e = (refl, refl)
as_it_stands ks (Eq u v) e = (refl, refl)
as_it_stands ks (Atom s ts) e = (refl, refl)
as_it_stands ks (Not s) e = (refl, refl)
as_it_stands ks (And s u) e = (refl, refl)
as_it_stands ks (For ty s) e = absurd (true_false e)

opened_as : (ks : List (Option Constant)) (s : Statement) (tys : List SoftType) (t : Statement) → Opens ks s tys t → OpenedAs ks s tys t
opened_as ks s tys t (as_it_is ls r e) = as_it_stands ls r e
opened_as ks s tys t (at_constant ls ty us r v o) = (us, refl, o)

plain : (ks : List (Option Constant)) (s : Statement) (tys : List SoftType) (t : Statement) → is_universal s ≡ false → OpenedAs ks s tys t → (tys ≡ []) × (t ≡ s)
plain ks Truth tys t e a = a
plain ks (Eq u v) tys t e a = a
plain ks (Atom s ts) tys t e a = a
plain ks (Not s) tys t e a = a
plain ks (And s u) tys t e a = a
plain ks (For ty s) tys t e a = absurd (true_false e)

one_opened : (ks : List (Option Constant)) (s : Statement) (tys : List SoftType) (t : Statement) → Opens ks s tys t → (us : List SoftType) (v : Statement) → Opens ks s us v → (tys ≡ us) × (t ≡ v)
one_opened ks s tys t (as_it_is ls r e) us v p =
    let a : (us ≡ []) × (v ≡ r) = plain ls r us v e (opened_as ls r us v p) in
    (sym a.0, sym a.1)
one_opened ks s tys t (at_constant ls ty ws r w o) us v p =
    let a : (xs : List SoftType) × (us ≡ ty ∷ xs) × Opens (with_fresh ls ty) (statement_at r (Const (numbers ls))) xs v = opened_as ls (For ty r) us v p in
    let rest : (ws ≡ a.0) × (w ≡ v) = one_opened (with_fresh ls ty) (statement_at r (Const (numbers ls))) ws w o a.0 v a.2 in
    (ap (λ xs. ty ∷ xs) rest.0 ∙ sym a.1, rest.1)

-- what parts add
abbrev added_of : Option Statement → List Statement
added_of None = []
added_of (Some d) = d ∷ []

abbrev negated_added : Option Statement → List Statement
negated_added None = []
negated_added (Some d) = opposite d ∷ []

abbrev NegatedAs : List Clause → List (Option Constant) → List Unfolding → Statement → List Statement → Type 0
NegatedAs cs ks us Truth ds = ds ≡ []
NegatedAs cs ks us (Eq t u) ds = ds ≡ []
NegatedAs cs ks us (Atom s ts) ds = (o : Option Statement) × UnfoldsTo cs ks us (Atom s ts) o × (ds ≡ negated_added o)
NegatedAs cs ks us (Not s) ds = ds ≡ []
NegatedAs cs ks us (And s t) ds = ds ≡ []
NegatedAs cs ks us (For ty s) ds = ds ≡ []

abbrev AddsAs : List Clause → List (Option Constant) → List Unfolding → Statement → List Statement → Type 0
AddsAs cs ks us Truth ds = ds ≡ []
AddsAs cs ks us (Eq t u) ds = ds ≡ []
AddsAs cs ks us (Atom s ts) ds = (o : Option Statement) × UnfoldsTo cs ks us (Atom s ts) o × (ds ≡ added_of o)
AddsAs cs ks us (Not s) ds = NegatedAs cs ks us s ds
AddsAs cs ks us (And s t) ds = ds ≡ []
AddsAs cs ks us (For ty s) ds = ds ≡ []

negated_nothing : (cs : List Clause) (ks : List (Option Constant)) (us : List Unfolding) (s : Statement) → is_signed_atom (Not s) ≡ false → NegatedAs cs ks us s []
negated_nothing cs ks us Truth e = refl
negated_nothing cs ks us (Eq t u) e = refl
negated_nothing cs ks us (Atom s ts) e = absurd (true_false e)
negated_nothing cs ks us (Not s) e = refl
negated_nothing cs ks us (And s t) e = refl
negated_nothing cs ks us (For ty s) e = refl

adds_nothing : (cs : List Clause) (ks : List (Option Constant)) (us : List Unfolding) (s : Statement) → is_signed_atom s ≡ false → AddsAs cs ks us s []
adds_nothing cs ks us Truth e = refl
adds_nothing cs ks us (Eq t u) e = refl
adds_nothing cs ks us (Atom s ts) e = absurd (true_false e)
adds_nothing cs ks us (Not s) e = negated_nothing cs ks us s e
adds_nothing cs ks us (And s t) e = refl
adds_nothing cs ks us (For ty s) e = refl

adds_as : (cs : List Clause) (ks : List (Option Constant)) (us : List Unfolding) (s : Statement) (ds : List Statement) → Adds cs ks us s ds → AddsAs cs ks us s ds
adds_as cs ks us s ds (definiens r ts d u) = (Some d, u, refl)
adds_as cs ks us s ds (negated_definiens r ts d u) = (Some d, u, refl)
adds_as cs ks us s ds (nothing r ts u) = (None, u, refl)
adds_as cs ks us s ds (nothing_negated r ts u) = (None, u, refl)
adds_as cs ks us s ds (other r e) = adds_nothing cs ks us r e

one_negated : (cs : List Clause) (ks : List (Option Constant)) (us : List Unfolding) (s : Statement) (ds es : List Statement) → NegatedAs cs ks us s ds → NegatedAs cs ks us s es → ds ≡ es
one_negated cs ks us Truth ds es a b = a ∙ sym b
one_negated cs ks us (Eq t u) ds es a b = a ∙ sym b
one_negated cs ks us (Atom s ts) ds es a b = a.2 ∙ (ap negated_added (one_unfolding_law cs ks us (Atom s ts) a.0 b.0 a.1 b.1) ∙ sym b.2)
one_negated cs ks us (Not s) ds es a b = a ∙ sym b
one_negated cs ks us (And s t) ds es a b = a ∙ sym b
one_negated cs ks us (For ty s) ds es a b = a ∙ sym b

one_added : (cs : List Clause) (ks : List (Option Constant)) (us : List Unfolding) (s : Statement) (ds es : List Statement) → AddsAs cs ks us s ds → AddsAs cs ks us s es → ds ≡ es
one_added cs ks us Truth ds es a b = a ∙ sym b
one_added cs ks us (Eq t u) ds es a b = a ∙ sym b
one_added cs ks us (Atom s ts) ds es a b = a.2 ∙ (ap added_of (one_unfolding_law cs ks us (Atom s ts) a.0 b.0 a.1 b.1) ∙ sym b.2)
one_added cs ks us (Not s) ds es a b = one_negated cs ks us s ds es a b
one_added cs ks us (And s t) ds es a b = a ∙ sym b
one_added cs ks us (For ty s) ds es a b = a ∙ sym b

abbrev AllAddAs : List Clause → List (Option Constant) → List Unfolding → List Statement → List Statement → Type 0
AllAddAs cs ks us [] ds = ds ≡ []
AllAddAs cs ks us (s ∷ ss) ds = (es : List Statement) × (fs : List Statement) × Adds cs ks us s es × AllAdd cs ks us ss fs × (ds ≡ es ++ fs)

all_add_as : (cs : List Clause) (ks : List (Option Constant)) (us : List Unfolding) (ss ds : List Statement) → AllAdd cs ks us ss ds → AllAddAs cs ks us ss ds
all_add_as cs ks us ss ds no_parts = refl
all_add_as cs ks us ss ds (and_part s ts es fs a rest) = (es, fs, a, rest, refl)

one_all_added : (cs : List Clause) (ks : List (Option Constant)) (us : List Unfolding) (ss ds es : List Statement) → AllAdd cs ks us ss ds → AllAdd cs ks us ss es → ds ≡ es
one_all_added cs ks us [] ds es a b = all_add_as cs ks us [] ds a ∙ sym (all_add_as cs ks us [] es b)
one_all_added cs ks us (s ∷ ss) ds es a b =
    let p = all_add_as cs ks us (s ∷ ss) ds a in
    let q = all_add_as cs ks us (s ∷ ss) es b in
    let here : p.0 ≡ q.0 = one_added cs ks us s p.0 q.0 (adds_as cs ks us s p.0 p.2) (adds_as cs ks us s q.0 q.2) in
    let rest : p.1 ≡ q.1 = one_all_added cs ks us ss p.1 q.1 p.3 q.3 in
    p.4 ∙ ((λ i. here i ++ rest i) ∙ sym q.4)

-- the problem
one_asked : (cs : List Clause) (ks : List (Option Constant)) (us : List Unfolding) (given : List Statement) (known fresh : List Literal) (t : Statement) (p q : Problem) → AskedAt cs ks us given known fresh t p → AskedAt cs ks us given known fresh t q → p ≡ q
one_asked cs ks us given known fresh t p q a b =
    let x = asked_as cs ks us given known fresh t p a in
    let y = asked_as cs ks us given known fresh t q b in
    x.2 ∙ (ap (λ ds. problem_of given known ds fresh t) (one_all_added cs ks us (parts_of given known fresh t) x.0 y.0 x.1 y.1) ∙ sym y.2)
  where
    asked_as : (cs : List Clause) (ks : List (Option Constant)) (us : List Unfolding) (given : List Statement) (known fresh : List Literal) (t : Statement) (p : Problem) → AskedAt cs ks us given known fresh t p → (ds : List Statement) × AllAdd cs ks us (parts_of given known fresh t) ds × (p ≡ problem_of given known ds fresh t)
    asked_as cs ks us given known fresh t p (with_added ds a) = (ds, a, refl)

abbrev AsksAs : List Clause → List (Option Constant) → List Unfolding → List Statement → Statement → Problem → Type 0
AsksAs cs ks us given s p = (tys : List SoftType) × (t : Statement) × Opens ks s tys t × AskedAt cs (with_all_fresh ks tys) us given (known_in ks (formulas_of given s)) (guards_from (numbers ks) tys) t p

asks_as : (cs : List Clause) (ks : List (Option Constant)) (us : List Unfolding) (given : List Statement) (s : Statement) (p : Problem) → Asks cs ks us given s p → AsksAs cs ks us given s p
asks_as cs ks us given s p (asks tys t o a) = (tys, t, o, a)

pub one_problem_law : OneProblemLaw
one_problem_law cs ks us given s p q a b =
    let x : AsksAs cs ks us given s p = asks_as cs ks us given s p a in
    let y : AsksAs cs ks us given s q = asks_as cs ks us given s q b in
    let same : (x.0 ≡ y.0) × (x.1 ≡ y.1) = one_opened ks s x.0 x.1 x.2 y.0 y.1 y.2 in
    let moved : AskedAt cs (with_all_fresh ks y.0) us given (known_in ks (formulas_of given s)) (guards_from (numbers ks) y.0) x.1 p =
    subst (λ tys. AskedAt cs (with_all_fresh ks tys) us given (known_in ks (formulas_of given s)) (guards_from (numbers ks) tys) x.1 p) same.0 x.3 in
    one_asked cs (with_all_fresh ks y.0) us given (known_in ks (formulas_of given s)) (guards_from (numbers ks) y.0) y.1 p q
    (subst (λ t. AskedAt cs (with_all_fresh ks y.0) us given (known_in ks (formulas_of given s)) (guards_from (numbers ks) y.0) t p) same.1 moved) y.3
