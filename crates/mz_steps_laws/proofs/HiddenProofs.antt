-- No hidden constant comes into what is stated.
use Rattle.std.proofs.Common.{◌≡◌, ◌≤◌, ◌<◌, ◌+◌, ◌-◌, ◌⊎◌, inl, inr, ℕ, zero, suc, Bool, true, false, if◌then◌else◌, List, [], ◌∷◌, ◌++◌, map, refl, sym, ap, ◌∙◌, subst, arith, append_assoc}
use Rattle.std.specs.Prelude.{◌||◌, ◌&&◌, not, nat_eq, nat_lt, Contains}
use Rattle.std.specs.List.{list_any, list_all}
use Rattle.std.proofs.lemmas.Bool.{and_parts, and_from, or_parts, or_from, not-true, not_from_false, eqb-false, ltb-true, lt-ltb}
use Rattle.std.proofs.lemmas.List.{append-nil}
use Rattle.std.proofs.lemmas.List.Elements.{Contains-append_left}
use Rattle.mz_logic.specs.Term.{Term, Terms, Bound, Const, App, none, more}
use Rattle.mz_logic.specs.Constants.{occurs, occurs_in_args}
use Rattle.mz_logic.specs.Abstraction.{term_over, args_over}
use Rattle.mz_logic.specs.Substitution.{substitute, value_at}
use Rattle.mz_logic.proofs.SubstitutionLaws.{occurs-substitute}
use Rattle.mz_logic.proofs.ValueLaws.{occurs-value_at}
use Rattle.mz_core.specs.Statement.{Statement, Truth, Eq, Atom, Not, And, For}
use Rattle.mz_core.specs.StatementForms.{implication}
use Rattle.mz_core.specs.Abstraction.{statement_over}
use Rattle.mz_core.specs.TypeSubstitution.{statement_at}
use Rattle.mz_core.specs.Parts.{conjunction}
use Rattle.mz_core.specs.InForce.{term_in_force, args_in_force, type_in_force, statement_in_force}
use Rattle.mz_core.specs.Everywhere.{adjective_all, type_all, statement_all}
use Rattle.mz_core.specs.declared.adjective.Adjective.{Adjective}
use Rattle.mz_core.specs.declared.soft_type.SoftType.{SoftType}
use Rattle.mz_core.proofs.AllLemmas.{statement_all-with, implication_all, conjunction_all}
use Rattle.mz_core.proofs.MapInstances.{abstracts, substitutes, statement_over-with, substitute_statement-with}
use Rattle.mz_laws.specs.Lacking.{term_lacks, statement_lacks}
use Rattle.mz_context.specs.Context.{next}
use Rattle.mz_context.specs.declared.context.Context.{Context}
use Rattle.mz_names.specs.Closing.{there_are}
use Rattle.mz_names.specs.declared.variable.Variable.{Variable}
use Rattle.mz_now.specs.Stated.{adjective_has, type_has, statement_has, hides, in_term, in_type, in_statement, term_has_hidden, type_has_hidden, has_hidden, defined, brings_hidden, with_term, conjuncts_with, conjuncts_of}
use Rattle.mz_now.specs.declared.now_part.NowPart.{NowPart}
use Rattle.mz_now.specs.declared.now_part.NowPart.TheVariants.{Quantifier, Antecedent, Conjunct, Defined, Hidden}
use Rattle.mz_steps.specs.Rows.{hidden_from, parts_said, stands_in_now}
use Rattle.mz_steps.specs.Effects.{may_be_said}
use Rattle.mz_steps.specs.declared.read_step.ReadStep.{ReadStep}
use Rattle.mz_steps.specs.declared.read_step.ReadStep.TheVariants.{Let, Assume, Given, Thus, Take, Consider, Reconsider, Set, State}
use Rattle.mz_steps_laws.specs.HiddenLaws.{MayBeSaid, AllSaid, StepSaidLaw, MoreSaidLaw, HiddenLaw, LackingLaw}

-- one step behind another
pub more_said_law : MoreSaidLaw
more_said_law ps [] rs a b = subst (λ xs. AllSaid xs rs) (append-nil ps) b
more_said_law ps (q ∷ qs) rs a b =
    (a.0, more_said_law (ps ++ q ∷ []) qs rs a.1 (subst (λ xs. AllSaid xs rs) (sym (append_assoc ps (q ∷ []) qs)) b))

-- what a step says
all_hidden : (ps : List NowPart) (n : ℕ) (vs : List Variable) → AllSaid ps (hidden_from n vs)
all_hidden ps n [] = tt
all_hidden ps n (v ∷ vs) = (tt, all_hidden (ps ++ Hidden n ∷ []) (suc n) vs)

defined_said : (ps : List NowPart) (n : ℕ) (t : Term) (b : Bool) → term_has_hidden ps t ≡ b → AllSaid ps ((if b then Hidden n else Defined n t) ∷ [])
defined_said ps n t true e = (tt, tt)
defined_said ps n t false e = (e, tt)

first_brings_none : (ps : List NowPart) (q : NowPart) (qs : List NowPart) → not (list_any (brings_hidden ps) (q ∷ qs)) ≡ true → brings_hidden ps q ≡ false
first_brings_none ps q qs h = (or_parts (brings_hidden ps q) (list_any (brings_hidden ps) qs) (not-true (list_any (brings_hidden ps) (q ∷ qs)) h)).0

none_brought : (ps : List NowPart) (c : Context) (s : ReadStep) → may_be_said ps c s ≡ true → not (list_any (brings_hidden ps) (parts_said ps c s)) ≡ true
none_brought ps c s h = (and_parts (stands_in_now s) (not (list_any (brings_hidden ps) (parts_said ps c s))) h).1

pub step_said_law : StepSaidLaw
step_said_law ps c (Let v) h = (first_brings_none ps (Quantifier (next c) v.ty) [] (none_brought ps c (Let v) h), tt)
step_said_law ps c (Assume s) h = (first_brings_none ps (Antecedent s) [] (none_brought ps c (Assume s) h), tt)
step_said_law ps c (Given vs s) h =
    (first_brings_none ps (Antecedent (there_are (next c) vs s)) (hidden_from (next c) vs) (none_brought ps c (Given vs s) h), all_hidden (ps ++ Antecedent (there_are (next c) vs s) ∷ []) (next c) vs)
step_said_law ps c (Thus s) h = (first_brings_none ps (Conjunct s) [] (none_brought ps c (Thus s) h), tt)
step_said_law ps c (Take t) h = tt
step_said_law ps c (Consider vs s) h = all_hidden ps (next c) vs
step_said_law ps c (Reconsider d) h = defined_said ps (next c) d.term (term_has_hidden ps d.term) refl
step_said_law ps c (Set d) h = defined_said ps (next c) d.term (term_has_hidden ps d.term) refl
step_said_law ps c (State s) h = tt

-- a hidden constant is none of the expression's
none_hidden : (p : ℕ → Bool) (ps : List NowPart) (m : ℕ) → list_any (hides p) ps ≡ false → Contains ps (Hidden m) → p m ≡ false
none_hidden p [] m h is = let lt : is.0 < 0 = is.1 in absurd (omega arith)
none_hidden p (q ∷ qs) m h (zero, lt, e) = sym (ap (hides p) e) ∙ (or_parts (hides p q) (list_any (hides p) qs) h).0
none_hidden p (q ∷ qs) m h (suc i, lt, e) = none_hidden p qs m (or_parts (hides p q) (list_any (hides p) qs) h).1 (i, omega (arith, lt), e)

-- what hasn't a constant lacks it
terms_lack : (m n : ℕ) (ts : List Term) → list_any (occurs m) ts ≡ false → list_all (term_lacks m n) ts ≡ true
terms_lack m n [] h = refl
terms_lack m n (t ∷ ts) h =
    let c : (occurs m t ≡ false) × (list_any (occurs m) ts ≡ false) = or_parts (occurs m t) (list_any (occurs m) ts) h in
    and_from (term_lacks m n t) (list_all (term_lacks m n) ts) (not_from_false (occurs m t) c.0) (terms_lack m n ts c.1)

adjectives_lack : (m n : ℕ) (xs : List Adjective) → list_any (adjective_has m) xs ≡ false → list_all (adjective_all (term_lacks m) n) xs ≡ true
adjectives_lack m n [] h = refl
adjectives_lack m n (a ∷ xs) h =
    let c : (adjective_has m a ≡ false) × (list_any (adjective_has m) xs ≡ false) = or_parts (adjective_has m a) (list_any (adjective_has m) xs) h in
    and_from (adjective_all (term_lacks m) n a) (list_all (adjective_all (term_lacks m) n) xs) (terms_lack m n a.args c.0) (adjectives_lack m n xs c.1)

type_lacks : (m n : ℕ) (ty : SoftType) → type_has m ty ≡ false → type_all (term_lacks m) n ty ≡ true
type_lacks m n ty h =
    let c : (list_any (adjective_has m) ty.adjectives ≡ false) × (list_any (occurs m) ty.radix.args ≡ false) = or_parts (list_any (adjective_has m) ty.adjectives) (list_any (occurs m) ty.radix.args) h in
    and_from (list_all (adjective_all (term_lacks m) n) ty.adjectives) (list_all (term_lacks m n) ty.radix.args) (adjectives_lack m n ty.adjectives c.0) (terms_lack m n ty.radix.args c.1)

has_lacks : (m n : ℕ) (s : Statement) → statement_has m s ≡ false → statement_all (term_lacks m) n s ≡ true
has_lacks m n Truth h = refl
has_lacks m n (Eq t u) h =
    let c : (occurs m t ≡ false) × (occurs m u ≡ false) = or_parts (occurs m t) (occurs m u) h in
    and_from (term_lacks m n t) (term_lacks m n u) (not_from_false (occurs m t) c.0) (not_from_false (occurs m u) c.1)
has_lacks m n (Atom s ts) h = terms_lack m n ts h
has_lacks m n (Not s) h = has_lacks m n s h
has_lacks m n (And s t) h =
    let c : (statement_has m s ≡ false) × (statement_has m t ≡ false) = or_parts (statement_has m s) (statement_has m t) h in
    and_from (statement_all (term_lacks m) n s) (statement_all (term_lacks m) n t) (has_lacks m n s c.0) (has_lacks m n t c.1)
has_lacks m n (For ty s) h =
    let c : (type_has m ty ≡ false) × (statement_has m s ≡ false) = or_parts (type_has m ty) (statement_has m s) h in
    and_from (type_all (term_lacks m) n ty) (statement_all (term_lacks m) (n + 1) s) (type_lacks m n ty c.0) (has_lacks m (n + 1) s c.1)

-- a constant made an index, and a term put for it
chosen_lacks : (m d k : ℕ) (b : Bool) → nat_eq k m ≡ false → occurs m (if b then Bound d else Const k) ≡ false
chosen_lacks m d k true e = refl
chosen_lacks m d k false e = e

mutual
  over_lacks : (m c d : ℕ) (u : Term) → occurs m u ≡ false → occurs m (term_over c d u) ≡ false
  over_lacks m c d (Bound index) h = refl
  over_lacks m c d (Const number) h = chosen_lacks m d number (nat_eq number c) h
  over_lacks m c d (App s us) h = args_over_lack m c d us h

  args_over_lack : (m c d : ℕ) (us : Terms) → occurs_in_args m us ≡ false → occurs_in_args m (args_over c d us) ≡ false
  args_over_lack m c d none h = refl
  args_over_lack m c d (more u us) h =
      let e : (occurs m u ≡ false) × (occurs_in_args m us ≡ false) = or_parts (occurs m u) (occurs_in_args m us) h in
      or_from (occurs m (term_over c d u)) (occurs_in_args m (args_over c d us)) (over_lacks m c d u e.0) (args_over_lack m c d us e.1)

statement_over_lacks : (m c : ℕ) (s : Statement) → statement_lacks m s ≡ true → statement_all (term_lacks m) 1 (statement_over c 0 s) ≡ true
statement_over_lacks m c s h =
    ap (statement_all (term_lacks m) 1) (statement_over-with c 0 s) ∙
    statement_all-with (term_lacks m) (term_lacks m) (abstracts c) 0 1 0 s (λ d t k. not_from_false (occurs m (term_over c d t)) (over_lacks m c d t (not-true (occurs m t) k))) h

replaced_lacks : (m c : ℕ) (t : Term) (s : Statement) → occurs m t ≡ false → statement_lacks m s ≡ true → statement_lacks m (statement_at (statement_over c 0 s) t) ≡ true
replaced_lacks m c t s ht h =
    let body : Statement = statement_over c 0 s in
    ap (statement_all (term_lacks m) 0) (substitute_statement-with (value_at (t ∷ [])) 0 body) ∙
    statement_all-with (term_lacks m) (term_lacks m) (substitutes (value_at (t ∷ []))) 1 0 0 body
    (λ d u k. not_from_false (occurs m (substitute d (value_at (t ∷ [])) u)) (occurs-substitute m d (value_at (t ∷ [])) u (λ i. occurs-value_at m (t ∷ []) i (or_from (occurs m t) false ht refl)) (not-true (occurs m u) k)))
    (statement_over_lacks m c s h)

all_replaced_lack : (m c : ℕ) (t : Term) (ss : List Statement) → occurs m t ≡ false → list_all (statement_lacks m) ss ≡ true → list_all (statement_lacks m) (map (with_term (Defined c t)) ss) ≡ true
all_replaced_lack m c t [] ht h = refl
all_replaced_lack m c t (s ∷ ss) ht h =
    let e : (statement_lacks m s ≡ true) × (list_all (statement_lacks m) ss ≡ true) = and_parts (statement_lacks m s) (list_all (statement_lacks m) ss) h in
    and_from (statement_lacks m (statement_at (statement_over c 0 s) t)) (list_all (statement_lacks m) (map (with_term (Defined c t)) ss)) (replaced_lacks m c t s ht e.0) (all_replaced_lack m c t ss ht e.1)

-- a part in front of others
alone : (m : ℕ) (s : Statement) → statement_lacks m s ≡ true → list_all (statement_lacks m) (s ∷ []) ≡ true
alone m s h = and_from (statement_lacks m s) true h refl

part_lacks : (m : ℕ) (ps : List NowPart) → Contains ps (Hidden m) → (q : NowPart) → MayBeSaid ps q → (ss : List Statement) → list_all (statement_lacks m) ss ≡ true → list_all (statement_lacks m) (conjuncts_with q ss) ≡ true
part_lacks m ps is (Quantifier c ty) a ss h =
    alone m (For ty (statement_over c 0 (conjunction ss)))
    (and_from (type_all (term_lacks m) 0 ty) (statement_all (term_lacks m) 1 (statement_over c 0 (conjunction ss))) (type_lacks m 0 ty (none_hidden (in_type ty) ps m a is)) (statement_over_lacks m c (conjunction ss) (conjunction_all (term_lacks m) 0 ss h)))
part_lacks m ps is (Antecedent s) a ss h =
    alone m (implication s (conjunction ss)) (implication_all (term_lacks m) 0 s (conjunction ss) (has_lacks m 0 s (none_hidden (in_statement s) ps m a is)) (conjunction_all (term_lacks m) 0 ss h))
part_lacks m ps is (Conjunct s) a ss h = and_from (statement_lacks m s) (list_all (statement_lacks m) ss) (has_lacks m 0 s (none_hidden (in_statement s) ps m a is)) h
part_lacks m ps is (Defined c t) a ss h = all_replaced_lack m c t ss (none_hidden (in_term t) ps m a is) h
part_lacks m ps is (Hidden c) a ss h = h

pub hidden_law : HiddenLaw
hidden_law ps [] a m is = refl
hidden_law ps (q ∷ qs) a m is = part_lacks m ps is q a.0 (conjuncts_of qs) (hidden_law (ps ++ q ∷ []) qs a.1 m (Contains-append_left ps (q ∷ []) (Hidden m) is))

-- one constant less in force
down : (n k : ℕ) → nat_lt k (suc n) ≡ true → nat_eq k n ≡ false → nat_lt k n ≡ true
down n k h e =
    let lt : k < suc n = ltb-true k (suc n) h in
    let ne : k ≡ n → ⊥ = eqb-false k n e in
    lt-ltb k n (omega (arith, lt, ne))

mutual
  term_down : (n : ℕ) (t : Term) → term_in_force (suc n) t ≡ true → occurs n t ≡ false → term_in_force n t ≡ true
  term_down n (Bound index) h e = refl
  term_down n (Const number) h e = down n number h e
  term_down n (App s ts) h e = args_down n ts h e

  args_down : (n : ℕ) (ts : Terms) → args_in_force (suc n) ts ≡ true → occurs_in_args n ts ≡ false → args_in_force n ts ≡ true
  args_down n none h e = refl
  args_down n (more t ts) h e =
      let a : (term_in_force (suc n) t ≡ true) × (args_in_force (suc n) ts ≡ true) = and_parts (term_in_force (suc n) t) (args_in_force (suc n) ts) h in
      let b : (occurs n t ≡ false) × (occurs_in_args n ts ≡ false) = or_parts (occurs n t) (occurs_in_args n ts) e in
      and_from (term_in_force n t) (args_in_force n ts) (term_down n t a.0 b.0) (args_down n ts a.1 b.1)

list_down : (n d : ℕ) (ts : List Term) → list_all (term_in_force (suc n)) ts ≡ true → list_all (term_lacks n d) ts ≡ true → list_all (term_in_force n) ts ≡ true
list_down n d [] h e = refl
list_down n d (t ∷ ts) h e =
    let a : (term_in_force (suc n) t ≡ true) × (list_all (term_in_force (suc n)) ts ≡ true) = and_parts (term_in_force (suc n) t) (list_all (term_in_force (suc n)) ts) h in
    let b : (term_lacks n d t ≡ true) × (list_all (term_lacks n d) ts ≡ true) = and_parts (term_lacks n d t) (list_all (term_lacks n d) ts) e in
    and_from (term_in_force n t) (list_all (term_in_force n) ts) (term_down n t a.0 (not-true (occurs n t) b.0)) (list_down n d ts a.1 b.1)

adjectives_down : (n d : ℕ) (xs : List Adjective) → list_all (λ (a : Adjective). list_all (term_in_force (suc n)) a.args) xs ≡ true → list_all (adjective_all (term_lacks n) d) xs ≡ true → list_all (λ (a : Adjective). list_all (term_in_force n) a.args) xs ≡ true
adjectives_down n d [] h e = refl
adjectives_down n d (x ∷ xs) h e =
    let a : (list_all (term_in_force (suc n)) x.args ≡ true) × (list_all (λ (y : Adjective). list_all (term_in_force (suc n)) y.args) xs ≡ true) = and_parts _ _ h in
    let b : (list_all (term_lacks n d) x.args ≡ true) × (list_all (adjective_all (term_lacks n) d) xs ≡ true) = and_parts _ _ e in
    and_from _ _ (list_down n d x.args a.0 b.0) (adjectives_down n d xs a.1 b.1)

type_down : (n d : ℕ) (ty : SoftType) → type_in_force (suc n) ty ≡ true → type_all (term_lacks n) d ty ≡ true → type_in_force n ty ≡ true
type_down n d ty h e =
    let a : (list_all (λ (x : Adjective). list_all (term_in_force (suc n)) x.args) ty.adjectives ≡ true) × (list_all (term_in_force (suc n)) ty.radix.args ≡ true) = and_parts _ _ h in
    let b : (list_all (adjective_all (term_lacks n) d) ty.adjectives ≡ true) × (list_all (term_lacks n d) ty.radix.args ≡ true) = and_parts _ _ e in
    and_from _ _ (adjectives_down n d ty.adjectives a.0 b.0) (list_down n d ty.radix.args a.1 b.1)

statement_down : (n d : ℕ) (s : Statement) → statement_in_force (suc n) s ≡ true → statement_all (term_lacks n) d s ≡ true → statement_in_force n s ≡ true
statement_down n d Truth h e = refl
statement_down n d (Eq t u) h e =
    let a : (term_in_force (suc n) t ≡ true) × (term_in_force (suc n) u ≡ true) = and_parts (term_in_force (suc n) t) (term_in_force (suc n) u) h in
    let b : (term_lacks n d t ≡ true) × (term_lacks n d u ≡ true) = and_parts (term_lacks n d t) (term_lacks n d u) e in
    and_from (term_in_force n t) (term_in_force n u) (term_down n t a.0 (not-true (occurs n t) b.0)) (term_down n u a.1 (not-true (occurs n u) b.1))
statement_down n d (Atom s ts) h e = list_down n d ts h e
statement_down n d (Not s) h e = statement_down n d s h e
statement_down n d (And s t) h e =
    let a : (statement_in_force (suc n) s ≡ true) × (statement_in_force (suc n) t ≡ true) = and_parts (statement_in_force (suc n) s) (statement_in_force (suc n) t) h in
    let b : (statement_all (term_lacks n) d s ≡ true) × (statement_all (term_lacks n) d t ≡ true) = and_parts (statement_all (term_lacks n) d s) (statement_all (term_lacks n) d t) e in
    and_from (statement_in_force n s) (statement_in_force n t) (statement_down n d s a.0 b.0) (statement_down n d t a.1 b.1)
statement_down n d (For ty s) h e =
    let a : (type_in_force (suc n) ty ≡ true) × (statement_in_force (suc n) s ≡ true) = and_parts (type_in_force (suc n) ty) (statement_in_force (suc n) s) h in
    let b : (type_all (term_lacks n) d ty ≡ true) × (statement_all (term_lacks n) (d + 1) s ≡ true) = and_parts (type_all (term_lacks n) d ty) (statement_all (term_lacks n) (d + 1) s) e in
    and_from (type_in_force n ty) (statement_in_force n s) (type_down n d ty a.0 b.0) (statement_down n (d + 1) s a.1 b.1)

further_down : (j n : ℕ) (s : Statement) → statement_in_force (n + j) s ≡ true → ((k : ℕ) → n ≤ k → k < n + j → statement_lacks k s ≡ true) → statement_in_force n s ≡ true
further_down zero n s h each = let e : n + 0 ≡ n = omega arith in subst (λ k. statement_in_force k s ≡ true) e h
further_down (suc j) n s h each =
    let e : n + suc j ≡ suc (n + j) = omega arith in
    further_down j n s (statement_down (n + j) 0 s (subst (λ k. statement_in_force k s ≡ true) e h) (each (n + j) (omega arith) (omega arith)))
    (λ k le lt. each k le (omega (arith, lt)))

pub lacking_law : LackingLaw
lacking_law n m s le h each =
    let e : n + (m - n) ≡ m = omega (arith, le) in
    further_down (m - n) n s (subst (λ k. statement_in_force k s ≡ true) (sym e) h) (λ k a b. each k a (omega (arith, b, e)))
