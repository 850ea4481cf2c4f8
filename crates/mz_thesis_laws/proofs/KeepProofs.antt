-- Constants in force and free indices of what a thesis unfolds to.
use Rattle.std.proofs.Common.{◌≡◌, ◌≤◌, ◌<◌, ◌-◌, ◌+◌, ℕ, zero, suc, true, false, Bool, List, [], ◌∷◌, ◌++◌, refl, sym, ap, ◌∙◌, subst, arith, length, Option, Some, None}
use Rattle.std.specs.Prelude.{◌&&◌, reverse, Contains, nat_lt}
use Rattle.std.specs.List.{list_all}
use Rattle.std.proofs.lemmas.List.{length-reverse, reverse-append}
use Rattle.std.proofs.lemmas.Bool.{and_parts, and_from}
use Rattle.mz_logic.specs.declared.sym.Sym.{Sym}
use Rattle.mz_logic.specs.Term.{Term, Terms, Bound, Const, App, none, more, terms_of}
use Rattle.mz_logic.specs.Formula.{Formula}
use Rattle.mz_logic.specs.Indices.{is_below, args_below, closed}
use Rattle.mz_logic.specs.Substitution.{value_at}
use Rattle.mz_logic.proofs.IndexLemmas.{args_below-terms_of}
use Rattle.mz_core.specs.Statement.{Statement, Truth, Eq, Atom, Not, And, For}
use Rattle.mz_core.specs.InForce.{term_in_force, args_in_force, statement_in_force}
use Rattle.mz_core.specs.Below.{statement_below}
use Rattle.mz_core.specs.Closed.{term_under, args_under, statement_under, loci_closed}
use Rattle.mz_core.specs.Everywhere.{adjective_all, type_all, statement_all}
use Rattle.mz_core.specs.declared.adjective.Adjective.{Adjective}
use Rattle.mz_core.specs.declared.soft_type.SoftType.{SoftType}
use Rattle.mz_core.proofs.LawProofs.{in_force_at, statement_in_force-all}
use Rattle.mz_laws.proofs.StatementProofs.{statement_substitution_in_force, statement_substitution_below}
use Rattle.mz_context.specs.declared.constants.Constant.{Constant}
use Rattle.mz_ground.specs.declared.clause.Clause.{Clause}
use Rattle.mz_environment.specs.declared.unfoldings.Unfolding.{Unfolding}
use Rattle.mz_closed_laws.specs.ClosedClauses.{trigger_under, unfolding_closed}
use Rattle.mz_thesis.specs.declared.sought.Sought.{Sought}
use Rattle.mz_thesis.specs.declared.sought.Sought.TheVariants.{AtomOf, Equation}
use Rattle.mz_thesis.specs.Unfolding.{formals, definiens_at, FirstGives, UnfoldsTo, atom, right, left, compound}
use Rattle.mz_thesis.specs.Applied.{first_part, with_first_part, Unfolded, unfolded, as_it_is}
use Rattle.mz_thesis_laws.specs.StepLaws.{AreUnfoldings}
use Rattle.mz_thesis_laws.proofs.MatchKeeps.{GoesInside, matched_values}
use Rattle.mz_thesis_laws.proofs.UnfoldProofs.{GivenAt, given_at, FirstOf, first_of, from_reverse, length-count, some-inj, none_some}

-- what holds of each term of a statement, weakened
all_weaker : {X : Type 0} (p q : X → Bool) (xs : List X) → ((x : X) → p x ≡ true → q x ≡ true) → list_all p xs ≡ true → list_all q xs ≡ true
all_weaker p q [] weaker h = refl
all_weaker p q (x ∷ xs) weaker h =
    let both : (p x ≡ true) × (list_all p xs ≡ true) = and_parts (p x) (list_all p xs) h in
    and_from (q x) (list_all q xs) (weaker x both.0) (all_weaker p q xs weaker both.1)

type_weaker : (p q : ℕ → Term → Bool) (n : ℕ) (ty : SoftType) → ((n : ℕ) (t : Term) → p n t ≡ true → q n t ≡ true) → type_all p n ty ≡ true → type_all q n ty ≡ true
type_weaker p q n ty weaker h =
    let both : (list_all (adjective_all p n) ty.adjectives ≡ true) × (list_all (p n) ty.radix.args ≡ true) = and_parts (list_all (adjective_all p n) ty.adjectives) (list_all (p n) ty.radix.args) h in
    and_from (list_all (adjective_all q n) ty.adjectives) (list_all (q n) ty.radix.args)
    (all_weaker (adjective_all p n) (adjective_all q n) ty.adjectives (λ a. all_weaker (p n) (q n) a.args (weaker n)) both.0)
    (all_weaker (p n) (q n) ty.radix.args (weaker n) both.1)

statement_weaker : (p q : ℕ → Term → Bool) (n : ℕ) (s : Statement) → ((n : ℕ) (t : Term) → p n t ≡ true → q n t ≡ true) → statement_all p n s ≡ true → statement_all q n s ≡ true
statement_weaker p q n Truth weaker h = refl
statement_weaker p q n (Eq t u) weaker h =
    let both : (p n t ≡ true) × (p n u ≡ true) = and_parts (p n t) (p n u) h in
    and_from (q n t) (q n u) (weaker n t both.0) (weaker n u both.1)
statement_weaker p q n (Atom s ts) weaker h = all_weaker (p n) (q n) ts (weaker n) h
statement_weaker p q n (Not s) weaker h = statement_weaker p q n s weaker h
statement_weaker p q n (And s t) weaker h =
    let both : (statement_all p n s ≡ true) × (statement_all p n t ≡ true) = and_parts (statement_all p n s) (statement_all p n t) h in
    and_from (statement_all q n s) (statement_all q n t) (statement_weaker p q n s weaker both.0) (statement_weaker p q n t weaker both.1)
statement_weaker p q n (For ty s) weaker h =
    let both : (type_all p n ty ≡ true) × (statement_all p (n + 1) s ≡ true) = and_parts (type_all p n ty) (statement_all p (n + 1) s) h in
    and_from (type_all q n ty) (statement_all q (n + 1) s) (type_weaker p q n ty weaker both.0) (statement_weaker p q (n + 1) s weaker both.1)

-- what stands under loci alone is in force, and its indices are below their number
mutual
  under_in_force : (next n : ℕ) (t : Term) → term_under n t ≡ true → term_in_force next t ≡ true
  under_in_force next n (Bound index) h = refl
  under_in_force next n (Const number) h = cc
  under_in_force next n (App s ts) h = args_under_in_force next n ts h

  args_under_in_force : (next n : ℕ) (ts : Terms) → args_under n ts ≡ true → args_in_force next ts ≡ true
  args_under_in_force next n none h = refl
  args_under_in_force next n (more t ts) h =
      let both : (term_under n t ≡ true) × (args_under n ts ≡ true) = and_parts (term_under n t) (args_under n ts) h in
      and_from (term_in_force next t) (args_in_force next ts) (under_in_force next n t both.0) (args_under_in_force next n ts both.1)

mutual
  under_below : (n : ℕ) (t : Term) → term_under n t ≡ true → is_below n t ≡ true
  under_below n (Bound index) h = h
  under_below n (Const number) h = cc
  under_below n (App s ts) h = args_under_below n ts h

  args_under_below : (n : ℕ) (ts : Terms) → args_under n ts ≡ true → args_below n ts ≡ true
  args_under_below n none h = refl
  args_under_below n (more t ts) h =
      let both : (term_under n t ≡ true) × (args_under n ts ≡ true) = and_parts (term_under n t) (args_under n ts) h in
      and_from (is_below n t) (args_below n ts) (under_below n t both.0) (args_under_below n ts both.1)

-- values
in_force_inside : (next : ℕ) → GoesInside (term_in_force next)
in_force_inside next s ts h = inner ts h
  where
    inner : (us : List Term) → args_in_force next (terms_of us) ≡ true → list_all (term_in_force next) us ≡ true
    inner [] k = refl
    inner (u ∷ us) k =
        let both : (term_in_force next u ≡ true) × (args_in_force next (terms_of us) ≡ true) = and_parts (term_in_force next u) (args_in_force next (terms_of us)) k in
        and_from (term_in_force next u) (list_all (term_in_force next) us) both.0 (inner us both.1)

closed_inside : GoesInside closed
closed_inside s ts h = sym (args_below-terms_of 0 ts) ∙ h

reverse_all : (p : Term → Bool) (ts : List Term) → list_all p ts ≡ true → list_all p (reverse ts) ≡ true
reverse_all p [] h = refl
reverse_all p (t ∷ ts) h =
    let both : (p t ≡ true) × (list_all p ts ≡ true) = and_parts (p t) (list_all p ts) h in
    subst (λ xs. list_all p xs ≡ true) (sym (reverse-append (t ∷ []) ts)) (appended (reverse ts) (reverse_all p ts both.1) both.0)
  where
    appended : (xs : List Term) → list_all p xs ≡ true → p t ≡ true → list_all p (xs ++ t ∷ []) ≡ true
    appended [] a b = and_from (p t) true b refl
    appended (x ∷ xs) a b =
        let c : (p x ≡ true) × (list_all p xs ≡ true) = and_parts (p x) (list_all p xs) a in
        and_from (p x) (list_all p (xs ++ t ∷ [])) c.0 (appended xs c.1 b)

values_in_force : (next : ℕ) (vs : List Term) (k : ℕ) → list_all (term_in_force next) vs ≡ true → term_in_force next (value_at vs k) ≡ true
values_in_force next [] k h = refl
values_in_force next (v ∷ vs) zero h = (and_parts (term_in_force next v) (list_all (term_in_force next) vs) h).0
values_in_force next (v ∷ vs) (suc k) h = values_in_force next vs k (and_parts (term_in_force next v) (list_all (term_in_force next) vs) h).1

values_below : (vs : List Term) (k : ℕ) → k < length vs → list_all closed vs ≡ true → is_below 0 (value_at vs k) ≡ true
values_below [] k lt h = absurd (omega (arith, lt))
values_below (v ∷ vs) zero lt h = (and_parts (closed v) (list_all closed vs) h).0
values_below (v ∷ vs) (suc k) lt h = values_below vs k (omega (arith, lt)) (and_parts (closed v) (list_all closed vs) h).1

definiens_under : (u : Unfolding) → unfolding_closed u ≡ true → statement_under (length u.loci) u.definiens ≡ true
definiens_under u h = (and_parts (loci_closed u.loci && trigger_under (length u.loci) u.head) (statement_under (length u.loci) u.definiens) h).1

-- what an unfolding gives
given_in_force : (ax g : List Formula) (next : ℕ) (cs : List Clause) (ks : List (Option Constant)) (u : Unfolding) (ts : List Term) (d : Statement) → unfolding_closed u ≡ true → list_all (term_in_force next) ts ≡ true → GivenAt ax g cs ks u ts d → statement_in_force next d ≡ true
given_in_force ax g next cs ks u ts d under h a =
    let vs : list_all (term_in_force next) a.values ≡ true = matched_values (term_in_force next) (in_force_inside next) cs ks (length u.loci) (formals u.head) ts a.values a.fixed a.matched a.are_values h in
    let body : statement_in_force next u.definiens ≡ true =
    statement_in_force-all next (length u.loci) u.definiens ∙ statement_weaker term_under (in_force_at next) (length u.loci) u.definiens (under_in_force next) (definiens_under u under) in
    subst (λ s. statement_in_force next s ≡ true) a.is
    (statement_substitution_in_force next 0 (value_at (reverse a.values)) u.definiens (λ k. values_in_force next (reverse a.values) k (reverse_all (term_in_force next) a.values vs)) body)

given_below : (ax g : List Formula) (cs : List Clause) (ks : List (Option Constant)) (u : Unfolding) (ts : List Term) (d : Statement) → unfolding_closed u ≡ true → list_all closed ts ≡ true → GivenAt ax g cs ks u ts d → statement_below 0 d ≡ true
given_below ax g cs ks u ts d under h a =
    let vs : list_all closed a.values ≡ true = matched_values closed closed_inside cs ks (length u.loci) (formals u.head) ts a.values a.fixed a.matched a.are_values h in
    let long : length u.loci ≡ length (reverse a.values) = sym (length-reverse a.values ∙ length-count cs ks [] u.loci a.values a.loci_fit) in
    let body : statement_below (length u.loci) u.definiens ≡ true = statement_weaker term_under is_below (length u.loci) u.definiens under_below (definiens_under u under) in
    let same : length u.loci ≡ 0 + length u.loci = omega arith in
    let inside : statement_below (0 + length u.loci) u.definiens ≡ true = subst (λ m. statement_below m u.definiens ≡ true) same body in
    subst (λ s. statement_below 0 s ≡ true) a.is
    (statement_substitution_below 0 0 (length u.loci) (value_at (reverse a.values)) u.definiens (λ k lt. values_below (reverse a.values) k (omega (arith, lt, long)) (reverse_all closed a.values vs)) inside)

-- what an atom or an equation unfolds to
pub record Stands (next : ℕ) (s : Statement) : Type 0 where
  pub in_force : statement_in_force next s ≡ true
  pub below : statement_below 0 s ≡ true

first_stands : (ax : List Formula) (next : ℕ) (cs : List Clause) (ks : List (Option Constant)) (us : List Unfolding) → AreUnfoldings ax us → (q : Sought) (ts : List Term) (d : Statement) → list_all (term_in_force next) ts ≡ true → list_all closed ts ≡ true → FirstGives cs ks q ts (reverse us) (Some d) → Stands next d
first_stands ax next cs ks us each q ts d h c f =
    let r : FirstOf cs ks q ts (reverse us) d = first_of cs ks q ts (reverse us) (Some d) f d refl in
    let under : unfolding_closed r.one ≡ true = (each r.one (from_reverse us r.one r.within)).1 in
    let a : GivenAt ax [] cs ks r.one ts d = given_at ax [] cs ks r.one ts (Some d) r.gives d refl in
    record { in_force = given_in_force ax [] next cs ks r.one ts d under h a; below = given_below ax [] cs ks r.one ts d under c a }

two : (p : Term → Bool) (t u : Term) → p t ≡ true → p u ≡ true → list_all p (t ∷ u ∷ []) ≡ true
two p t u a b = and_from (p t) (list_all p (u ∷ [])) a (and_from (p u) true b refl)

unfolds_stands : (ax : List Formula) (next : ℕ) (cs : List Clause) (ks : List (Option Constant)) (us : List Unfolding) → AreUnfoldings ax us → (s : Statement) (o : Option Statement) → UnfoldsTo cs ks us s o → Stands next s → (d : Statement) → o ≡ Some d → Stands next d
unfolds_stands ax next cs ks us each s o (atom r ts p h) w d e = first_stands ax next cs ks us each (AtomOf r) ts d w.in_force w.below (subst (FirstGives cs ks (AtomOf r) ts (reverse us)) e h)
unfolds_stands ax next cs ks us each s o (right t u p h) w d e =
    let f : (term_in_force next t ≡ true) × (term_in_force next u ≡ true) = and_parts (term_in_force next t) (term_in_force next u) w.in_force in
    let c : (closed t ≡ true) × (closed u ≡ true) = and_parts (closed t) (closed u) w.below in
    first_stands ax next cs ks us each Equation (u ∷ t ∷ []) d (two (term_in_force next) u t f.1 f.0) (two closed u t c.1 c.0) (subst (FirstGives cs ks Equation (u ∷ t ∷ []) (reverse us)) e h)
unfolds_stands ax next cs ks us each s o (left t u p h k) w d e =
    let f : (term_in_force next t ≡ true) × (term_in_force next u ≡ true) = and_parts (term_in_force next t) (term_in_force next u) w.in_force in
    let c : (closed t ≡ true) × (closed u ≡ true) = and_parts (closed t) (closed u) w.below in
    first_stands ax next cs ks us each Equation (t ∷ u ∷ []) d (two (term_in_force next) t u f.0 f.1) (two closed t u c.0 c.1) (subst (FirstGives cs ks Equation (t ∷ u ∷ []) (reverse us)) e k)
unfolds_stands ax next cs ks us each s o (compound r h) w d e = absurd (none_some d e)

-- the first part, and another in its place
pub first_part_stands : (next : ℕ) (s : Statement) → Stands next s → Stands next (first_part s)
first_part_stands next Truth w = w
first_part_stands next (Eq t u) w = w
first_part_stands next (Atom s ts) w = w
first_part_stands next (Not s) w = w
first_part_stands next (And s t) w =
    first_part_stands next s (record { in_force = (and_parts (statement_in_force next s) (statement_in_force next t) w.in_force).0; below = (and_parts (statement_below 0 s) (statement_below 0 t) w.below).0 })
first_part_stands next (For ty s) w = w

with_first_stands : (next : ℕ) (d s : Statement) → Stands next d → Stands next s → Stands next (with_first_part d s)
with_first_stands next d Truth v w = v
with_first_stands next d (Eq t u) v w = v
with_first_stands next d (Atom s ts) v w = v
with_first_stands next d (Not s) v w = v
with_first_stands next d (And s t) v w =
    let f : (statement_in_force next s ≡ true) × (statement_in_force next t ≡ true) = and_parts (statement_in_force next s) (statement_in_force next t) w.in_force in
    let b : (statement_below 0 s ≡ true) × (statement_below 0 t ≡ true) = and_parts (statement_below 0 s) (statement_below 0 t) w.below in
    let r : Stands next (with_first_part d s) = with_first_stands next d s v (record { in_force = f.0; below = b.0 }) in
    record { in_force = and_from (statement_in_force next (with_first_part d s)) (statement_in_force next t) r.in_force f.1; below = and_from (statement_below 0 (with_first_part d s)) (statement_below 0 t) r.below b.1 }
with_first_stands next d (For ty s) v w = v

pub unfolded_stands : (ax : List Formula) (next : ℕ) (cs : List Clause) (ks : List (Option Constant)) (us : List Unfolding) → AreUnfoldings ax us → (thesis : Statement) (o : Option Statement) → Unfolded cs ks us thesis o → Stands next thesis → (s : Statement) → o ≡ Some s → Stands next s
unfolded_stands ax next cs ks us each thesis o (unfolded d h) w s e =
    subst (Stands next) (some-inj (with_first_part d thesis) s e) (with_first_stands next d thesis (unfolds_stands ax next cs ks us each (first_part thesis) (Some d) h (first_part_stands next thesis w) d refl) w)
unfolded_stands ax next cs ks us each thesis o (as_it_is h) w s e = absurd (none_some s e)
