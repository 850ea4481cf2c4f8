-- What is usable: in force, without loose indices, none below the least one. More is usable in a context that grew.
use Rattle.std.proofs.Common.{◌≡◌, ◌≤◌, ◌<◌, ◌⊎◌, inl, inr, ◌+◌, ℕ, zero, suc, Bool, true, false, List, [], ◌∷◌, ◌++◌, refl, sym, ap, ◌∙◌, arith, length, length-append, Option, Some}
use Rattle.std.specs.Prelude.{◌&&◌, nat_le, nat_lt, nat_eq}
use Rattle.std.specs.List.{list_all}
use Rattle.std.proofs.lemmas.Bool.{and_parts, and_from, leb-true, le-leb, ltb-true, lt-ltb, eqb-false}
use Rattle.mz_logic.specs.Term.{Term, Terms, Bound, Const, App, none, more}
use Rattle.mz_logic.specs.Indices.{is_below, args_below}
use Rattle.mz_logic.proofs.ListLemmas.{list_all-where}
use Rattle.mz_core.specs.Statement as statement
use Rattle.mz_core.specs.Statement.{Statement}
use Rattle.mz_core.specs.Everywhere.{adjective_all, type_all, statement_all}
use Rattle.mz_core.specs.Closed.{term_under, args_under}
use Rattle.mz_core.specs.InForce.{term_in_force, args_in_force}
use Rattle.mz_core.specs.declared.soft_type.SoftType.{SoftType}
use Rattle.mz_core.proofs.LawProofs.{in_force_at, statement_in_force-all, any_term, all_any, type_any, statement_any}
use Rattle.mz_context.specs.Context.{numbered, numbers, next}
use Rattle.mz_context.specs.Changes.{with_constant}
use Rattle.mz_context.specs.declared.constants.Constant.{Constant}
use Rattle.mz_context.specs.declared.context.Context.{Context}
use Rattle.mz_fits.proofs.OneMatch.{some-inj, none_some}
use Rattle.mz_names.specs.Scope.{term_from, args_from, type_from, types_from, statement_from}
use Rattle.mz_choice_laws.specs.Known.{term_known, args_known, type_known, statement_known}
use Rattle.mz_choice_laws.proofs.KnownTerms.{term_known-where, term_known-below, term_known-in_force}
use Rattle.mz_choice_laws.proofs.KnownValues.{type_all-where, statement_all-where, type_known-where, statement_known-where}
use Rattle.mz_term_laws.specs.Usable.{is_usable}
use Rattle.mz_term_laws.specs.ChangeLaws.{UsableTermLaw, UsableTypeLaw, UsableStatementLaw, UsableBackLaw, NoneUsableLaw, MoreUsableLaw}

-- constants of a list that has one more
pub numbered_more : (ks : List (Option Constant)) (k : Constant) (n : ℕ) (x : Constant) → numbered ks n ≡ Some x → numbered (ks ++ Some k ∷ []) n ≡ Some x
numbered_more ks k zero x h = absurd (none_some x h)
numbered_more [] k (suc n) x h = absurd (none_some x h)
numbered_more (o ∷ os) k (suc zero) x h = h
numbered_more (o ∷ os) k (suc (suc n)) x h = numbered_more os k (suc n) x h

one_further : (ks : List (Option Constant)) (o : Option Constant) (n : ℕ) (x k : Constant) → (numbered ks (suc n) ≡ Some x) ⊎ ((suc n ≡ numbers ks) × (k ≡ x)) → (numbered (o ∷ ks) (suc (suc n)) ≡ Some x) ⊎ ((suc (suc n) ≡ numbers (o ∷ ks)) × (k ≡ x))
one_further ks o n x k (inl h) = inl h
one_further ks o n x k (inr h) = inr (ap suc h.0, h.1)

pub numbered_last : (ks : List (Option Constant)) (k : Constant) (n : ℕ) (x : Constant) → numbered (ks ++ Some k ∷ []) n ≡ Some x → (numbered ks n ≡ Some x) ⊎ ((n ≡ numbers ks) × (k ≡ x))
numbered_last ks k zero x h = absurd (none_some x h)
numbered_last [] k (suc zero) x h = inr (refl, some-inj k x h)
numbered_last [] k (suc (suc n)) x h = absurd (none_some x h)
numbered_last (o ∷ os) k (suc zero) x h = inl h
numbered_last (o ∷ os) k (suc (suc n)) x h = one_further os o n x k (numbered_last os k (suc n) x h)

pub numbered_below : (ks : List (Option Constant)) (n : ℕ) (x : Constant) → numbered ks n ≡ Some x → n < numbers ks
numbered_below ks zero x h = absurd (none_some x h)
numbered_below [] (suc n) x h = absurd (none_some x h)
numbered_below (o ∷ os) (suc zero) x h = omega arith
numbered_below (o ∷ os) (suc (suc n)) x h = let lt : suc n < numbers os = numbered_below os (suc n) x h in omega (arith, lt)

pub usable_parts : (least : ℕ) (c : Context) (n : ℕ) → is_usable least c n ≡ true → (least ≤ n) × (n < next c)
usable_parts least c n h =
    let both : (nat_le least n ≡ true) × (nat_lt n (next c) ≡ true) = and_parts (nat_le least n) (nat_lt n (next c)) h in
    (leb-true least n both.0, ltb-true n (next c) both.1)

pub usable_from : (least : ℕ) (c : Context) (n : ℕ) → least ≤ n → n < next c → is_usable least c n ≡ true
usable_from least c n le lt = and_from (nat_le least n) (nat_lt n (next c)) (le-leb least n le) (lt-ltb n (next c) lt)

pub usable_below : (least : ℕ) (c : Context) (n : ℕ) → is_usable least c n ≡ true → n < next c
usable_below least c n h = (usable_parts least c n h).1

-- the next number with one constant more
pub next_further : (c : Context) (k : Constant) → next (with_constant c k) ≡ suc (next c)
next_further c k = let e : length (c.constants ++ Some k ∷ []) ≡ length c.constants + 1 = length-append c.constants (Some k ∷ []) in omega (arith, e)

pub usable_more : (least : ℕ) (c : Context) (k : Constant) (n : ℕ) → is_usable least c n ≡ true → is_usable least (with_constant c k) n ≡ true
usable_more least c k n h =
    let p : (least ≤ n) × (n < next c) = usable_parts least c n h in
    let e : next (with_constant c k) ≡ suc (next c) = next_further c k in
    usable_from least (with_constant c k) n p.0 (let lt : n < next c = p.1 in omega (arith, lt, e))

pub usable_apart : (least : ℕ) (c : Context) (k : Constant) (n : ℕ) → is_usable least (with_constant c k) n ≡ true → nat_eq n (next c) ≡ false → is_usable least c n ≡ true
usable_apart least c k n h ne =
    let p : (least ≤ n) × (n < next (with_constant c k)) = usable_parts least (with_constant c k) n h in
    let e : next (with_constant c k) ≡ suc (next c) = next_further c k in
    let apart : n ≡ next c → ⊥ = eqb-false n (next c) ne in
    usable_from least c n p.0 (let lt : n < next (with_constant c k) = p.1 in omega (arith, lt, e, apart))

pub usable_weaker : (from least : ℕ) (c : Context) → from ≤ least → (n : ℕ) → is_usable least c n ≡ true → is_usable from c n ≡ true
usable_weaker from least c le n h =
    let p : (least ≤ n) × (n < next c) = usable_parts least c n h in
    usable_from from c n (let q : least ≤ n = p.0 in omega (arith, le, q)) p.1

-- none is below the least one
mutual
  pub term_known-from : (known : ℕ → Bool) (least : ℕ) → ((n : ℕ) → known n ≡ true → least ≤ n) → (n : ℕ) (t : Term) → term_known known n t ≡ true → term_from least t ≡ true
  term_known-from known least f n (Bound index) h = refl
  term_known-from known least f n (Const number) h = le-leb least number (f number h)
  term_known-from known least f n (App s ts) h = args_known-from known least f n ts h

  args_known-from : (known : ℕ → Bool) (least : ℕ) → ((n : ℕ) → known n ≡ true → least ≤ n) → (n : ℕ) (ts : Terms) → args_known known n ts ≡ true → args_from least ts ≡ true
  args_known-from known least f n none h = refl
  args_known-from known least f n (more t ts) h =
      let both : (term_known known n t ≡ true) × (args_known known n ts ≡ true) = and_parts (term_known known n t) (args_known known n ts) h in
      and_from (term_from least t) (args_from least ts) (term_known-from known least f n t both.0) (args_known-from known least f n ts both.1)

-- fewer may not be used
mutual
  pub term_from-weaker : (from least : ℕ) → from ≤ least → (t : Term) → term_from least t ≡ true → term_from from t ≡ true
  term_from-weaker from least le (Bound index) h = refl
  term_from-weaker from least le (Const number) h = let q : least ≤ number = leb-true least number h in le-leb from number (omega (arith, le, q))
  term_from-weaker from least le (App s ts) h = args_from-weaker from least le ts h

  args_from-weaker : (from least : ℕ) → from ≤ least → (ts : Terms) → args_from least ts ≡ true → args_from from ts ≡ true
  args_from-weaker from least le none h = refl
  args_from-weaker from least le (more t ts) h =
      let both : (term_from least t ≡ true) × (args_from least ts ≡ true) = and_parts (term_from least t) (args_from least ts) h in
      and_from (term_from from t) (args_from from ts) (term_from-weaker from least le t both.0) (args_from-weaker from least le ts both.1)

-- properties without regard to binders, as those of each term
abbrev pub from_at : ℕ → ℕ → Term → Bool
from_at least n t = term_from least t

statement_from-all : (least n : ℕ) (s : Statement) → statement_all (from_at least) n s ≡ statement_from least s
statement_from-all least n statement.Truth = refl
statement_from-all least n (statement.Eq t u) = refl
statement_from-all least n (statement.Atom s ts) = refl
statement_from-all least n (statement.Not s) = statement_from-all least n s
statement_from-all least n (statement.And s t) = λ i. statement_from-all least n s i && statement_from-all least n t i
statement_from-all least n (statement.For ty s) = ap (λ b. type_from least ty && b) (statement_from-all least (n + 1) s)

pub type_from-weaker : (from least : ℕ) → from ≤ least → (ty : SoftType) → type_from least ty ≡ true → type_from from ty ≡ true
type_from-weaker from least le ty h = type_all-where (from_at least) (from_at from) 0 ty (λ t k. term_from-weaker from least le t k) h

pub types_from-weaker : (from least : ℕ) → from ≤ least → (tys : List SoftType) → types_from least tys ≡ true → types_from from tys ≡ true
types_from-weaker from least le tys h = list_all-where (type_from least) (type_from from) (λ ty k. type_from-weaker from least le ty k) tys h

pub statement_from-weaker : (from least : ℕ) → from ≤ least → (s : Statement) → statement_from least s ≡ true → statement_from from s ≡ true
statement_from-weaker from least le s h =
    sym (statement_from-all from 0 s) ∙ statement_all-where (from_at least) (from_at from) 0 s (λ m t k. term_from-weaker from least le t k) (statement_from-all least 0 s ∙ h)

-- all may be used from 0 on
zero_least : (n : ℕ) → nat_le 0 n ≡ true
zero_least n = le-leb 0 n (omega arith)

mutual
  pub term_from-zero : (t : Term) → term_from 0 t ≡ true
  term_from-zero (Bound index) = refl
  term_from-zero (Const number) = zero_least number
  term_from-zero (App s ts) = args_from-zero ts

  args_from-zero : (ts : Terms) → args_from 0 ts ≡ true
  args_from-zero none = refl
  args_from-zero (more t ts) = and_from (term_from 0 t) (args_from 0 ts) (term_from-zero t) (args_from-zero ts)

pub type_from-zero : (ty : SoftType) → type_from 0 ty ≡ true
type_from-zero ty = type_all-where any_term (from_at 0) 0 ty (λ t k. term_from-zero t) (type_any 0 ty)

pub statement_from-zero : (s : Statement) → statement_from 0 s ≡ true
statement_from-zero s = sym (statement_from-all 0 0 s) ∙ statement_all-where any_term (from_at 0) 0 s (λ m t k. term_from-zero t) (statement_any 0 s)

-- what is usable
pub least_one : (least : ℕ) (c : Context) (n : ℕ) → is_usable least c n ≡ true → least ≤ n
least_one least c n h = (usable_parts least c n h).0

pub usable_term_law : UsableTermLaw
usable_term_law least c t h =
    (term_known-below (is_usable least c) 0 t h, term_known-in_force (is_usable least c) (next c) (usable_below least c) 0 t h, term_known-from (is_usable least c) least (least_one least c) 0 t h)

pub usable_type_law : UsableTypeLaw
usable_type_law least c ty h = (
  type_all-where (term_known (is_usable least c)) is_below 0 ty (λ t k. term_known-below (is_usable least c) 0 t k) h,
  type_all-where (term_known (is_usable least c)) (in_force_at (next c)) 0 ty (λ t k. term_known-in_force (is_usable least c) (next c) (usable_below least c) 0 t k) h,
  type_all-where (term_known (is_usable least c)) (from_at least) 0 ty (λ t k. term_known-from (is_usable least c) least (least_one least c) 0 t k) h,
)

pub usable_statement_law : UsableStatementLaw
usable_statement_law least c s h = (
  statement_all-where (term_known (is_usable least c)) is_below 0 s (λ m t k. term_known-below (is_usable least c) m t k) h,
  statement_in_force-all (next c) 0 s ∙ statement_all-where (term_known (is_usable least c)) (in_force_at (next c)) 0 s (λ m t k. term_known-in_force (is_usable least c) (next c) (usable_below least c) m t k) h,
  sym (statement_from-all least 0 s) ∙ statement_all-where (term_known (is_usable least c)) (from_at least) 0 s (λ m t k. term_known-from (is_usable least c) least (least_one least c) m t k) h,
)

pub more_usable_law : MoreUsableLaw
more_usable_law from least c le = (
  λ t h. term_known-where (is_usable least c) (is_usable from c) (usable_weaker from least c le) 0 t h,
  λ ty h. type_known-where (is_usable least c) (is_usable from c) (usable_weaker from least c le) 0 ty h,
  λ s h. statement_known-where (is_usable least c) (is_usable from c) (usable_weaker from least c le) 0 s h,
)

-- two properties of each term
list_all-both : {X : Type 0} (p q r : X → Bool) → ((x : X) → p x ≡ true → q x ≡ true → r x ≡ true) → (xs : List X) → list_all p xs ≡ true → list_all q xs ≡ true → list_all r xs ≡ true
list_all-both p q r f [] h k = refl
list_all-both p q r f (x ∷ xs) h k =
    let a : (p x ≡ true) × (list_all p xs ≡ true) = and_parts (p x) (list_all p xs) h in
    let b : (q x ≡ true) × (list_all q xs ≡ true) = and_parts (q x) (list_all q xs) k in
    and_from (r x) (list_all r xs) (f x a.0 b.0) (list_all-both p q r f xs a.1 b.1)

type_all-both : (p q r : ℕ → Term → Bool) (n : ℕ) → ((t : Term) → p n t ≡ true → q n t ≡ true → r n t ≡ true) → (ty : SoftType) → type_all p n ty ≡ true → type_all q n ty ≡ true → type_all r n ty ≡ true
type_all-both p q r n f ty h k =
    let a : (list_all (adjective_all p n) ty.adjectives ≡ true) × (list_all (p n) ty.radix.args ≡ true) = and_parts (list_all (adjective_all p n) ty.adjectives) (list_all (p n) ty.radix.args) h in
    let b : (list_all (adjective_all q n) ty.adjectives ≡ true) × (list_all (q n) ty.radix.args ≡ true) = and_parts (list_all (adjective_all q n) ty.adjectives) (list_all (q n) ty.radix.args) k in
    and_from (list_all (adjective_all r n) ty.adjectives) (list_all (r n) ty.radix.args)
    (list_all-both (adjective_all p n) (adjective_all q n) (adjective_all r n) (λ x i j. list_all-both (p n) (q n) (r n) f x.args i j) ty.adjectives a.0 b.0) (list_all-both (p n) (q n) (r n) f ty.radix.args a.1 b.1)

statement_all-both : (p q r : ℕ → Term → Bool) → ((m : ℕ) (t : Term) → p m t ≡ true → q m t ≡ true → r m t ≡ true) → (n : ℕ) (s : Statement) → statement_all p n s ≡ true → statement_all q n s ≡ true → statement_all r n s ≡ true
statement_all-both p q r f n statement.Truth h k = refl
statement_all-both p q r f n (statement.Eq t u) h k =
    let a : (p n t ≡ true) × (p n u ≡ true) = and_parts (p n t) (p n u) h in
    let b : (q n t ≡ true) × (q n u ≡ true) = and_parts (q n t) (q n u) k in
    and_from (r n t) (r n u) (f n t a.0 b.0) (f n u a.1 b.1)
statement_all-both p q r f n (statement.Atom s ts) h k = list_all-both (p n) (q n) (r n) (f n) ts h k
statement_all-both p q r f n (statement.Not s) h k = statement_all-both p q r f n s h k
statement_all-both p q r f n (statement.And s t) h k =
    let a : (statement_all p n s ≡ true) × (statement_all p n t ≡ true) = and_parts (statement_all p n s) (statement_all p n t) h in
    let b : (statement_all q n s ≡ true) × (statement_all q n t ≡ true) = and_parts (statement_all q n s) (statement_all q n t) k in
    and_from (statement_all r n s) (statement_all r n t) (statement_all-both p q r f n s a.0 b.0) (statement_all-both p q r f n t a.1 b.1)
statement_all-both p q r f n (statement.For ty s) h k =
    let a : (type_all p n ty ≡ true) × (statement_all p (n + 1) s ≡ true) = and_parts (type_all p n ty) (statement_all p (n + 1) s) h in
    let b : (type_all q n ty ≡ true) × (statement_all q (n + 1) s ≡ true) = and_parts (type_all q n ty) (statement_all q (n + 1) s) k in
    and_from (type_all r n ty) (statement_all r (n + 1) s) (type_all-both p q r n (f n) ty a.0 b.0) (statement_all-both p q r f (n + 1) s a.1 b.1)

-- below the next one, and without loose indices
mutual
  term_both : (next n : ℕ) (t : Term) → is_below n t ≡ true → term_in_force next t ≡ true → term_known (λ m. nat_lt m next) n t ≡ true
  term_both next n (Bound index) h k = h
  term_both next n (Const number) h k = k
  term_both next n (App s ts) h k = args_both next n ts h k

  args_both : (next n : ℕ) (ts : Terms) → args_below n ts ≡ true → args_in_force next ts ≡ true → args_known (λ m. nat_lt m next) n ts ≡ true
  args_both next n none h k = refl
  args_both next n (more t ts) h k =
      let a : (is_below n t ≡ true) × (args_below n ts ≡ true) = and_parts (is_below n t) (args_below n ts) h in
      let b : (term_in_force next t ≡ true) × (args_in_force next ts ≡ true) = and_parts (term_in_force next t) (args_in_force next ts) k in
      and_from (term_known (λ m. nat_lt m next) n t) (args_known (λ m. nat_lt m next) n ts) (term_both next n t a.0 b.0) (args_both next n ts a.1 b.1)

-- from a number on besides
mutual
  pub term_known-with : (p q : ℕ → Bool) (least : ℕ) → ((m : ℕ) → p m ≡ true → least ≤ m → q m ≡ true) → (n : ℕ) (t : Term) → term_known p n t ≡ true → term_from least t ≡ true → term_known q n t ≡ true
  term_known-with p q least f n (Bound index) h k = h
  term_known-with p q least f n (Const number) h k = f number h (leb-true least number k)
  term_known-with p q least f n (App s ts) h k = args_known-with p q least f n ts h k

  args_known-with : (p q : ℕ → Bool) (least : ℕ) → ((m : ℕ) → p m ≡ true → least ≤ m → q m ≡ true) → (n : ℕ) (ts : Terms) → args_known p n ts ≡ true → args_from least ts ≡ true → args_known q n ts ≡ true
  args_known-with p q least f n none h k = refl
  args_known-with p q least f n (more t ts) h k =
      let a : (term_known p n t ≡ true) × (args_known p n ts ≡ true) = and_parts (term_known p n t) (args_known p n ts) h in
      let b : (term_from least t ≡ true) × (args_from least ts ≡ true) = and_parts (term_from least t) (args_from least ts) k in
      and_from (term_known q n t) (args_known q n ts) (term_known-with p q least f n t a.0 b.0) (args_known-with p q least f n ts a.1 b.1)

pub type_known-with : (p q : ℕ → Bool) (least : ℕ) → ((m : ℕ) → p m ≡ true → least ≤ m → q m ≡ true) → (n : ℕ) (ty : SoftType) → type_known p n ty ≡ true → type_from least ty ≡ true → type_known q n ty ≡ true
type_known-with p q least f n ty h k = type_all-both (term_known p) (from_at least) (term_known q) n (λ t i j. term_known-with p q least f n t i j) ty h k

pub statement_known-with : (p q : ℕ → Bool) (least : ℕ) → ((m : ℕ) → p m ≡ true → least ≤ m → q m ≡ true) → (n : ℕ) (s : Statement) → statement_known p n s ≡ true → statement_from least s ≡ true → statement_known q n s ≡ true
statement_known-with p q least f n s h k = statement_all-both (term_known p) (from_at least) (term_known q) (λ m t i j. term_known-with p q least f m t i j) n s h (statement_from-all least n s ∙ k)

below_next : (least : ℕ) (c : Context) (m : ℕ) → nat_lt m (next c) ≡ true → least ≤ m → is_usable least c m ≡ true
below_next least c m h le = and_from (nat_le least m) (nat_lt m (next c)) (le-leb least m le) h

pub usable_back_law : UsableBackLaw
usable_back_law least c = (
  λ t h k i. term_known-with (λ m. nat_lt m (next c)) (is_usable least c) least (below_next least c) 0 t (term_both (next c) 0 t h k) i,
  λ ty h k i. type_known-with (λ m. nat_lt m (next c)) (is_usable least c) least (below_next least c) 0 ty (type_all-both is_below (in_force_at (next c)) (term_known (λ m. nat_lt m (next c))) 0 (λ t a b. term_both (next c) 0 t a b) ty h k) i,
  λ s h k i. statement_known-with (λ m. nat_lt m (next c)) (is_usable least c) least (below_next least c) 0 s
      (statement_all-both is_below (in_force_at (next c)) (term_known (λ m. nat_lt m (next c))) (λ m t a b. term_both (next c) m t a b) 0 s h (sym (statement_in_force-all (next c) 0 s) ∙ k)) i,
)

-- where nothing is known
mutual
  term_known-none : (known : ℕ → Bool) → ((m : ℕ) → known m ≡ true → ⊥) → (n : ℕ) (t : Term) → term_known known n t ≡ true → term_under n t ≡ true
  term_known-none known f n (Bound index) h = h
  term_known-none known f n (Const number) h = absurd (f number h)
  term_known-none known f n (App s ts) h = args_known-none known f n ts h

  args_known-none : (known : ℕ → Bool) → ((m : ℕ) → known m ≡ true → ⊥) → (n : ℕ) (ts : Terms) → args_known known n ts ≡ true → args_under n ts ≡ true
  args_known-none known f n none h = refl
  args_known-none known f n (more t ts) h =
      let both : (term_known known n t ≡ true) × (args_known known n ts ≡ true) = and_parts (term_known known n t) (args_known known n ts) h in
      and_from (term_under n t) (args_under n ts) (term_known-none known f n t both.0) (args_known-none known f n ts both.1)

none_usable : (least : ℕ) (c : Context) → next c ≤ least → (m : ℕ) → is_usable least c m ≡ true → ⊥
none_usable least c le m h = let p : (least ≤ m) × (m < next c) = usable_parts least c m h in let a : least ≤ m = p.0 in let b : m < next c = p.1 in omega (arith, le, a, b)

pub none_usable_law : NoneUsableLaw
none_usable_law least c le = (
  λ t h. term_known-none (is_usable least c) (none_usable least c le) 0 t h,
  λ ty h. type_all-where (term_known (is_usable least c)) term_under 0 ty (λ t k. term_known-none (is_usable least c) (none_usable least c le) 0 t k) h,
  λ s h. statement_all-where (term_known (is_usable least c)) term_under 0 s (λ m t k. term_known-none (is_usable least c) (none_usable least c le) m t k) h,
)

pub types_from-zero : (tys : List SoftType) → types_from 0 tys ≡ true
types_from-zero tys = all_any (type_from 0) tys type_from-zero
