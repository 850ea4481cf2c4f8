-- What the code of unfoldings tells.
use Rattle.std.proofs.Common.{◌≡◌, ◌≤◌, ◌<◌, ◌-◌, ℕ, zero, suc, List, [], ◌∷◌, ◌++◌, refl, sym, ap, ◌∙◌, subst, Bool, true, false, arith, length, Option, Some, None, take, get_or}
use Rattle.std.specs.Prelude.{reverse}
use Rattle.std.proofs.lemmas.List.{reverse-append, take_all}
use Rattle.mz_logic.specs.declared.sym.Sym.{Sym}
use Rattle.mz_logic.specs.Term.{Term}
use Rattle.mz_core.specs.Statement.{Statement, Eq, Atom}
use Rattle.mz_context.specs.declared.constants.Constant.{Constant}
use Rattle.mz_ground.specs.declared.clause.Clause.{Clause}
use Rattle.mz_environment.specs.declared.unfoldings.Unfolding.{Unfolding}
use Rattle.mz_fits.specs.Matching.{Fixed, unfixed, AllMatched, Accepted}
use Rattle.mz_thesis.specs.declared.sought.Sought.{Sought}
use Rattle.mz_thesis.specs.declared.sought.Sought.TheVariants.{AtomOf, Equation}
use Rattle.mz_thesis.specs.Unfolding as given
use Rattle.mz_thesis.specs.Unfolding.{formals, is_sought, definiens_at, Gives, FirstGives, is_compound, UnfoldsTo}

-- what one unfolding gives
matched : (cs : List Clause) (ks : List (Option Constant)) (ts us fs : List Term) (u : Unfolding) (first : Fixed) (scope : ℕ) (o p : Option Fixed) → scope ≡ length u.loci → first ≡ unfixed scope → fs ≡ formals u.head → us ≡ fs → AllMatched cs ks scope first us ts o → o ≡ p → AllMatched cs ks (length u.loci) (unfixed (length u.loci)) (formals u.head) ts p
matched cs ks ts us fs u first scope o p es ef eh eu h eo =
    let one : AllMatched cs ks scope first us ts p = subst (AllMatched cs ks scope first us ts) eo h in
    let two : AllMatched cs ks scope first (formals u.head) ts p = subst (λ (xs : List Term). AllMatched cs ks scope first xs ts p) (eu ∙ eh) one in
    let three : AllMatched cs ks scope (unfixed scope) (formals u.head) ts p = subst (λ (xs : Fixed). AllMatched cs ks scope xs (formals u.head) ts p) ef two in
    subst (λ n. AllMatched cs ks n (unfixed n) (formals u.head) ts p) es three

pub told_unmatched : (cs : List Clause) (ks : List (Option Constant)) (ts us fs : List Term) (u : Unfolding) (first : Fixed) (scope : ℕ) (o : Option Fixed) → scope ≡ length u.loci → first ≡ unfixed scope → fs ≡ formals u.head → us ≡ fs → AllMatched cs ks scope first us ts o → o ≡ None → Gives cs ks u ts None
told_unmatched cs ks ts us fs u first scope o es ef eh eu h eo = given.unmatched (matched cs ks ts us fs u first scope o None es ef eh eu h eo)

pub told_unfit : (cs : List Clause) (ks : List (Option Constant)) (ts us fs : List Term) (u : Unfolding) (first behind : Fixed) (scope : ℕ) (o : Option Fixed) (p : Option (List Term)) → scope ≡ length u.loci → first ≡ unfixed scope → fs ≡ formals u.head → us ≡ fs → AllMatched cs ks scope first us ts o → o ≡ Some behind → Accepted cs ks u.loci behind p → p ≡ None → Gives cs ks u ts None
told_unfit cs ks ts us fs u first behind scope o p es ef eh eu h eo a ep =
    given.unfit behind (matched cs ks ts us fs u first scope o (Some behind) es ef eh eu h eo) (subst (Accepted cs ks u.loci behind) ep a)

pub told_fit : (cs : List Clause) (ks : List (Option Constant)) (ts us fs : List Term) (u : Unfolding) (first behind : Fixed) (scope : ℕ) (o : Option Fixed) (p : Option (List Term)) (values : List Term) (s : Statement) → scope ≡ length u.loci → first ≡ unfixed scope → fs ≡ formals u.head → us ≡ fs → AllMatched cs ks scope first us ts o → o ≡ Some behind → Accepted cs ks u.loci behind p → p ≡ Some values → s ≡ definiens_at values u.definiens → Gives cs ks u ts (Some s)
told_fit cs ks ts us fs u first behind scope o p values s es ef eh eu h eo a ep same =
    subst (λ d. Gives cs ks u ts (Some d)) (sym same)
    (given.fit behind values (matched cs ks ts us fs u first scope o (Some behind) es ef eh eu h eo) (subst (Accepted cs ks u.loci behind) ep a))

pub ruleset gives_rules = (told_unmatched, told_unfit, told_fit)

-- the latest one
taken : (us : List Unfolding) (k : ℕ) (u : Unfolding) → k < length us → u ≡ get_or us k u → take (suc k) us ≡ take k us ++ u ∷ []
taken [] k u lt at = absurd (omega (arith, lt))
taken (v ∷ vs) zero u lt at = ap (λ x. x ∷ []) (sym at)
taken (v ∷ vs) (suc k) u lt at = ap (λ xs. v ∷ xs) (taken vs k u (omega (arith, lt)) at)

-- those before a place, the latest first
abbrev pub before : List Unfolding → ℕ → List Unfolding
before us n = reverse (take n us)

one_before : (us : List Unfolding) (n k : ℕ) (u : Unfolding) → k ≡ n - 1 → 0 < n → n ≤ length us → u ≡ get_or us k u → before us n ≡ u ∷ before us k
one_before us n k u ek lt le at =
    let en : n ≡ suc k = omega (arith, ek, lt) in
    let within : k < length us = omega (arith, ek, lt, le) in
    ap (λ m. before us m) en ∙ (ap reverse (taken us k u within at) ∙ reverse-append (take k us) (u ∷ []))

-- what those before a place give, all of them give
abbrev pub SoFar : List Clause → List (Option Constant) → Sought → List Term → List Unfolding → ℕ → Type 0
SoFar cs ks q ts us n = (o : Option Statement) → FirstGives cs ks q ts (before us n) o → FirstGives cs ks q ts (reverse us) o

pub told_other : (cs : List Clause) (ks : List (Option Constant)) (q : Sought) (ts : List Term) (us : List Unfolding) (n k : ℕ) (u : Unfolding) (b : Bool) → k ≡ n - 1 → 0 < n → n ≤ length us → u ≡ get_or us k u → b ≡ is_sought q u.head → b ≡ false → SoFar cs ks q ts us n → SoFar cs ks q ts us k
told_other cs ks q ts us n k u b ek lt le at same eb so o h =
    so o (subst (λ xs. FirstGives cs ks q ts xs o) (sym (one_before us n k u ek lt le at)) (given.of_other u (before us k) o (sym same ∙ eb) h))

pub told_not : (cs : List Clause) (ks : List (Option Constant)) (q : Sought) (ts : List Term) (us : List Unfolding) (n k : ℕ) (u : Unfolding) (b : Bool) (g : Option Statement) → k ≡ n - 1 → 0 < n → n ≤ length us → u ≡ get_or us k u → b ≡ is_sought q u.head → b ≡ true → Gives cs ks u ts g → g ≡ None → SoFar cs ks q ts us n → SoFar cs ks q ts us k
told_not cs ks q ts us n k u b g ek lt le at same eb gv eg so o h =
    so o (subst (λ xs. FirstGives cs ks q ts xs o) (sym (one_before us n k u ek lt le at)) (given.not_this u (before us k) o (sym same ∙ eb) (subst (Gives cs ks u ts) eg gv) h))

pub told_this : (cs : List Clause) (ks : List (Option Constant)) (q : Sought) (ts : List Term) (us : List Unfolding) (n k : ℕ) (u : Unfolding) (b : Bool) (g : Option Statement) (s : Statement) → k ≡ n - 1 → 0 < n → n ≤ length us → u ≡ get_or us k u → b ≡ is_sought q u.head → b ≡ true → Gives cs ks u ts g → g ≡ Some s → SoFar cs ks q ts us n → FirstGives cs ks q ts (reverse us) (Some s)
told_this cs ks q ts us n k u b g s ek lt le at same eb gv eg so =
    so (Some s) (subst (λ xs. FirstGives cs ks q ts xs (Some s)) (sym (one_before us n k u ek lt le at)) (given.this_one u (before us k) s (sym same ∙ eb) (subst (Gives cs ks u ts) eg gv)))

pub told_end : (cs : List Clause) (ks : List (Option Constant)) (q : Sought) (ts : List Term) (us : List Unfolding) (n : ℕ) → n ≡ 0 → SoFar cs ks q ts us n → FirstGives cs ks q ts (reverse us) None
told_end cs ks q ts us n en so = so None (subst (λ m. FirstGives cs ks q ts (before us m) None) (sym en) given.none_left)

pub told_whole : (cs : List Clause) (ks : List (Option Constant)) (q : Sought) (ts : List Term) (us : List Unfolding) (n : ℕ) → n ≡ length us → SoFar cs ks q ts us n
told_whole cs ks q ts us n en o h = subst (λ xs. FirstGives cs ks q ts (reverse xs) o) (ap (λ m. take m us) en ∙ take_all (length us) us (omega arith)) h

pub ruleset first_rules = (told_other, told_not, told_this, told_end, told_whole)

-- equations
pub told_right : (cs : List Clause) (ks : List (Option Constant)) (us : List Unfolding) (t u : Term) (ps qs : List Term) (o : Option Statement) (s : Statement) → ps ≡ u ∷ t ∷ [] → qs ≡ ps → FirstGives cs ks Equation qs (reverse us) o → o ≡ Some s → UnfoldsTo cs ks us (Eq t u) (Some s)
told_right cs ks us t u ps qs o s ep eq h eo =
    given.right t u s (subst (λ xs. FirstGives cs ks Equation xs (reverse us) (Some s)) (eq ∙ ep) (subst (FirstGives cs ks Equation qs (reverse us)) eo h))

pub told_left : (cs : List Clause) (ks : List (Option Constant)) (us : List Unfolding) (t u : Term) (ps qs rs vs : List Term) (o p : Option Statement) → ps ≡ u ∷ t ∷ [] → qs ≡ ps → FirstGives cs ks Equation qs (reverse us) o → o ≡ None → rs ≡ t ∷ u ∷ [] → vs ≡ rs → FirstGives cs ks Equation vs (reverse us) p → UnfoldsTo cs ks us (Eq t u) p
told_left cs ks us t u ps qs rs vs o p ep eq h eo er ev k =
    given.left t u p (subst (λ xs. FirstGives cs ks Equation xs (reverse us) None) (eq ∙ ep) (subst (FirstGives cs ks Equation qs (reverse us)) eo h))
    (subst (λ xs. FirstGives cs ks Equation xs (reverse us) p) (ev ∙ er) k)

pub ruleset equation_rules = (told_right, told_left)

pub told_atom : (cs : List Clause) (ks : List (Option Constant)) (us : List Unfolding) (s : Sym) (q : Sought) (ts vs : List Term) (o : Option Statement) → q ≡ AtomOf s → vs ≡ ts → FirstGives cs ks q vs (reverse us) o → UnfoldsTo cs ks us (Atom s ts) o
told_atom cs ks us s q ts vs o eq ev h =
    given.atom s ts o (subst (λ x. FirstGives cs ks x ts (reverse us) o) eq (subst (λ xs. FirstGives cs ks q xs (reverse us) o) ev h))

pub told_compound : (cs : List Clause) (ks : List (Option Constant)) (us : List Unfolding) (s : Statement) → is_compound s ≡ true → UnfoldsTo cs ks us s None
told_compound cs ks us s h = given.compound s h

pub ruleset unfolds_rules = (told_atom, told_compound)
