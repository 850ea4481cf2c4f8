-- Terms of known constants, through shifts, substitutions and abstraction.
use Rattle.std.proofs.Common.{◌≡◌, ◌<◌, ◌≤◌, ℕ, zero, suc, ◌+◌, ◌-◌, List, [], ◌∷◌, length, refl, ap, subst, arith, Bool, true, false}
use Rattle.std.specs.Prelude.{◌&&◌, nat_lt, nat_eq, if◌then◌else◌}
use Rattle.std.specs.List.{list_all, list_any}
use Rattle.std.proofs.lemmas.Bool.{ltb-true, ltb-false, lt-ltb, and_parts, and_from, or_parts}
use Rattle.mz_logic.specs.Term.{Term, Terms, Bound, Const, App, none, more, terms_of}
use Rattle.mz_logic.specs.Constants.{occurs, occurs_in_args}
use Rattle.mz_logic.specs.Indices.{is_below, args_below}
use Rattle.mz_logic.specs.Substitution.{shift, shift_args, substitute, substitute_args, value_at, argument_at}
use Rattle.mz_logic.specs.Abstraction.{term_over, args_over}
use Rattle.mz_core.specs.Closed.{term_under, args_under}
use Rattle.mz_core.specs.InForce.{term_in_force, args_in_force}
use Rattle.mz_choice_laws.specs.Known.{term_known, args_known}

-- lists
pub args_known-terms_of : (known : ℕ → Bool) (n : ℕ) (ts : List Term) → args_known known n (terms_of ts) ≡ list_all (term_known known n) ts
args_known-terms_of known n [] = refl
args_known-terms_of known n (t ∷ ts) = ap (λ b. term_known known n t && b) (args_known-terms_of known n ts)

-- a change of what is known
mutual
  pub term_known-where : (p q : ℕ → Bool) → ((c : ℕ) → p c ≡ true → q c ≡ true) → (n : ℕ) (t : Term) → term_known p n t ≡ true → term_known q n t ≡ true
  term_known-where p q f n (Bound index) h = h
  term_known-where p q f n (Const number) h = f number h
  term_known-where p q f n (App s ts) h = args_known-where p q f n ts h

  args_known-where : (p q : ℕ → Bool) → ((c : ℕ) → p c ≡ true → q c ≡ true) → (n : ℕ) (ts : Terms) → args_known p n ts ≡ true → args_known q n ts ≡ true
  args_known-where p q f n none h = refl
  args_known-where p q f n (more t ts) h =
      let both : (term_known p n t ≡ true) × (args_known p n ts ≡ true) = and_parts (term_known p n t) (args_known p n ts) h in
      and_from (term_known q n t) (args_known q n ts) (term_known-where p q f n t both.0) (args_known-where p q f n ts both.1)

-- one constant that doesn't occur
mutual
  pub term_known-apart : (p q : ℕ → Bool) (c : ℕ) → ((m : ℕ) → p m ≡ true → nat_eq m c ≡ false → q m ≡ true) → (n : ℕ) (t : Term) → term_known p n t ≡ true → occurs c t ≡ false → term_known q n t ≡ true
  term_known-apart p q c f n (Bound index) h k = h
  term_known-apart p q c f n (Const number) h k = f number h k
  term_known-apart p q c f n (App s ts) h k = args_known-apart p q c f n ts h k

  args_known-apart : (p q : ℕ → Bool) (c : ℕ) → ((m : ℕ) → p m ≡ true → nat_eq m c ≡ false → q m ≡ true) → (n : ℕ) (ts : Terms) → args_known p n ts ≡ true → occurs_in_args c ts ≡ false → args_known q n ts ≡ true
  args_known-apart p q c f n none h k = refl
  args_known-apart p q c f n (more t ts) h k =
      let both : (term_known p n t ≡ true) × (args_known p n ts ≡ true) = and_parts (term_known p n t) (args_known p n ts) h in
      let none_of : (occurs c t ≡ false) × (occurs_in_args c ts ≡ false) = or_parts (occurs c t) (occurs_in_args c ts) k in
      and_from (term_known q n t) (args_known q n ts) (term_known-apart p q c f n t both.0 none_of.0) (args_known-apart p q c f n ts both.1 none_of.1)

pub all_known-apart : (p q : ℕ → Bool) (c : ℕ) → ((m : ℕ) → p m ≡ true → nat_eq m c ≡ false → q m ≡ true) → (n : ℕ) (ts : List Term) → list_all (term_known p n) ts ≡ true → list_any (occurs c) ts ≡ false → list_all (term_known q n) ts ≡ true
all_known-apart p q c f n [] h k = refl
all_known-apart p q c f n (t ∷ ts) h k =
    let both : (term_known p n t ≡ true) × (list_all (term_known p n) ts ≡ true) = and_parts (term_known p n t) (list_all (term_known p n) ts) h in
    let none_of : (occurs c t ≡ false) × (list_any (occurs c) ts ≡ false) = or_parts (occurs c t) (list_any (occurs c) ts) k in
    and_from (term_known q n t) (list_all (term_known q n) ts) (term_known-apart p q c f n t both.0 none_of.0) (all_known-apart p q c f n ts both.1 none_of.1)

-- a term without constants
mutual
  pub term_known-under : (known : ℕ → Bool) (n : ℕ) (t : Term) → term_under n t ≡ true → term_known known n t ≡ true
  term_known-under known n (Bound index) h = h
  term_known-under known n (Const number) h = cc
  term_known-under known n (App s ts) h = args_known-under known n ts h

  args_known-under : (known : ℕ → Bool) (n : ℕ) (ts : Terms) → args_under n ts ≡ true → args_known known n ts ≡ true
  args_known-under known n none h = refl
  args_known-under known n (more t ts) h =
      let both : (term_under n t ≡ true) × (args_under n ts ≡ true) = and_parts (term_under n t) (args_under n ts) h in
      and_from (term_known known n t) (args_known known n ts) (term_known-under known n t both.0) (args_known-under known n ts both.1)

-- its indices, and its constants
mutual
  pub term_known-below : (known : ℕ → Bool) (n : ℕ) (t : Term) → term_known known n t ≡ true → is_below n t ≡ true
  term_known-below known n (Bound index) h = h
  term_known-below known n (Const number) h = refl
  term_known-below known n (App s ts) h = args_known-below known n ts h

  args_known-below : (known : ℕ → Bool) (n : ℕ) (ts : Terms) → args_known known n ts ≡ true → args_below n ts ≡ true
  args_known-below known n none h = refl
  args_known-below known n (more t ts) h =
      let both : (term_known known n t ≡ true) × (args_known known n ts ≡ true) = and_parts (term_known known n t) (args_known known n ts) h in
      and_from (is_below n t) (args_below n ts) (term_known-below known n t both.0) (args_known-below known n ts both.1)

mutual
  pub term_known-in_force : (known : ℕ → Bool) (next : ℕ) → ((c : ℕ) → known c ≡ true → c < next) → (n : ℕ) (t : Term) → term_known known n t ≡ true → term_in_force next t ≡ true
  term_known-in_force known next f n (Bound index) h = refl
  term_known-in_force known next f n (Const number) h = lt-ltb number next (f number h)
  term_known-in_force known next f n (App s ts) h = args_known-in_force known next f n ts h

  args_known-in_force : (known : ℕ → Bool) (next : ℕ) → ((c : ℕ) → known c ≡ true → c < next) → (n : ℕ) (ts : Terms) → args_known known n ts ≡ true → args_in_force next ts ≡ true
  args_known-in_force known next f n none h = refl
  args_known-in_force known next f n (more t ts) h =
      let both : (term_known known n t ≡ true) × (args_known known n ts ≡ true) = and_parts (term_known known n t) (args_known known n ts) h in
      and_from (term_in_force next t) (args_in_force next ts) (term_known-in_force known next f n t both.0) (args_known-in_force known next f n ts both.1)

-- under more binders
index_at : (m n index : ℕ) → m ≤ n → nat_lt index m ≡ true → nat_lt index n ≡ true
index_at m n index le h = let lt : index < m = ltb-true index m h in lt-ltb index n (omega arith)

mutual
  pub term_known-more : (known : ℕ → Bool) (m n : ℕ) (t : Term) → m ≤ n → term_known known m t ≡ true → term_known known n t ≡ true
  term_known-more known m n (Bound index) le h = index_at m n index le h
  term_known-more known m n (Const number) le h = h
  term_known-more known m n (App s ts) le h = args_known-more known m n ts le h

  args_known-more : (known : ℕ → Bool) (m n : ℕ) (ts : Terms) → m ≤ n → args_known known m ts ≡ true → args_known known n ts ≡ true
  args_known-more known m n none le h = refl
  args_known-more known m n (more t ts) le h =
      let both : (term_known known m t ≡ true) × (args_known known m ts ≡ true) = and_parts (term_known known m t) (args_known known m ts) h in
      and_from (term_known known n t) (args_known known n ts) (term_known-more known m n t le both.0) (args_known-more known m n ts le both.1)

-- through shifts
index_shift : (from by n index : ℕ) (b : Bool) → nat_lt index from ≡ b → index < n → nat_lt (if b then index else index + by) (n + by) ≡ true
index_shift from by n index true e lt = lt-ltb index (n + by) (omega arith)
index_shift from by n index false e lt = lt-ltb (index + by) (n + by) (omega arith)

mutual
  pub term_known-shift : (known : ℕ → Bool) (from by n : ℕ) (t : Term) → term_known known n t ≡ true → term_known known (n + by) (shift from by t) ≡ true
  term_known-shift known from by n (Bound index) h = index_shift from by n index (nat_lt index from) refl (ltb-true index n h)
  term_known-shift known from by n (Const number) h = h
  term_known-shift known from by n (App s ts) h = args_known-shift known from by n ts h

  args_known-shift : (known : ℕ → Bool) (from by n : ℕ) (ts : Terms) → args_known known n ts ≡ true → args_known known (n + by) (shift_args from by ts) ≡ true
  args_known-shift known from by n none h = refl
  args_known-shift known from by n (more t ts) h =
      let both : (term_known known n t ≡ true) × (args_known known n ts ≡ true) = and_parts (term_known known n t) (args_known known n ts) h in
      and_from (term_known known (n + by) (shift from by t)) (args_known known (n + by) (shift_args from by ts)) (term_known-shift known from by n t both.0) (args_known-shift known from by n ts both.1)

pub known_at : (known : ℕ → Bool) (m n : ℕ) (t : Term) → m ≡ n → term_known known m t ≡ true → term_known known n t ≡ true
known_at known m n t e h = let P : ℕ → Type 0 = λ k. term_known known k t ≡ true in subst P e h

-- terms for indices
index_values : (known : ℕ → Bool) (depth m n : ℕ) (v : ℕ → Term) (index : ℕ) (b : Bool) → ((k : ℕ) → k < n → term_known known m (v k) ≡ true) → nat_lt index depth ≡ b → index < depth + n → term_known known (depth + m) (if b then Bound index else shift 0 depth (v (index - depth))) ≡ true
index_values known depth m n v index true f e lt =
    let within : index < depth = ltb-true index depth e in
    lt-ltb index (depth + m) (omega arith)
index_values known depth m n v index false f e lt =
    let beyond : depth ≤ index = ltb-false index depth e in
    let place : index - depth < n = omega arith in
    let sum : m + depth ≡ depth + m = omega arith in
    known_at known (m + depth) (depth + m) (shift 0 depth (v (index - depth))) sum (term_known-shift known 0 depth m (v (index - depth)) (f (index - depth) place))

mutual
  pub term_known-substitute : (known : ℕ → Bool) (depth m n : ℕ) (v : ℕ → Term) (t : Term) → ((k : ℕ) → k < n → term_known known m (v k) ≡ true) → term_known known (depth + n) t ≡ true → term_known known (depth + m) (substitute depth v t) ≡ true
  term_known-substitute known depth m n v (Bound index) f h = index_values known depth m n v index (nat_lt index depth) f refl (ltb-true index (depth + n) h)
  term_known-substitute known depth m n v (Const number) f h = h
  term_known-substitute known depth m n v (App s ts) f h = args_known-substitute known depth m n v ts f h

  args_known-substitute : (known : ℕ → Bool) (depth m n : ℕ) (v : ℕ → Term) (ts : Terms) → ((k : ℕ) → k < n → term_known known m (v k) ≡ true) → args_known known (depth + n) ts ≡ true → args_known known (depth + m) (substitute_args depth v ts) ≡ true
  args_known-substitute known depth m n v none f h = refl
  args_known-substitute known depth m n v (more t ts) f h =
      let both : (term_known known (depth + n) t ≡ true) × (args_known known (depth + n) ts ≡ true) = and_parts (term_known known (depth + n) t) (args_known known (depth + n) ts) h in
      and_from (term_known known (depth + m) (substitute depth v t)) (args_known known (depth + m) (substitute_args depth v ts)) (term_known-substitute known depth m n v t f both.0) (args_known-substitute known depth m n v ts f both.1)

-- a constant made an index
index_over : (depth n index : ℕ) (b : Bool) → nat_lt index depth ≡ b → index < n → nat_lt (if b then index else index + 1) (n + 1) ≡ true
index_over depth n index true e lt = lt-ltb index (n + 1) (omega arith)
index_over depth n index false e lt = lt-ltb (index + 1) (n + 1) (omega arith)

constant_over : (p q : ℕ → Bool) (c depth n number : ℕ) (b : Bool) → ((m : ℕ) → p m ≡ true → nat_eq m c ≡ false → q m ≡ true) → depth ≤ n → nat_eq number c ≡ b → p number ≡ true → term_known q (n + 1) (if b then Bound depth else Const number) ≡ true
constant_over p q c depth n number true f le e h = lt-ltb depth (n + 1) (omega arith)
constant_over p q c depth n number false f le e h = f number h e

mutual
  pub term_known-over : (p q : ℕ → Bool) (c : ℕ) → ((m : ℕ) → p m ≡ true → nat_eq m c ≡ false → q m ≡ true) → (depth n : ℕ) (t : Term) → depth ≤ n → term_known p n t ≡ true → term_known q (n + 1) (term_over c depth t) ≡ true
  term_known-over p q c f depth n (Bound index) le h = index_over depth n index (nat_lt index depth) refl (ltb-true index n h)
  term_known-over p q c f depth n (Const number) le h = constant_over p q c depth n number (nat_eq number c) f le refl h
  term_known-over p q c f depth n (App s ts) le h = args_known-over p q c f depth n ts le h

  args_known-over : (p q : ℕ → Bool) (c : ℕ) → ((m : ℕ) → p m ≡ true → nat_eq m c ≡ false → q m ≡ true) → (depth n : ℕ) (ts : Terms) → depth ≤ n → args_known p n ts ≡ true → args_known q (n + 1) (args_over c depth ts) ≡ true
  args_known-over p q c f depth n none le h = refl
  args_known-over p q c f depth n (more t ts) le h =
      let both : (term_known p n t ≡ true) × (args_known p n ts ≡ true) = and_parts (term_known p n t) (args_known p n ts) h in
      and_from (term_known q (n + 1) (term_over c depth t)) (args_known q (n + 1) (args_over c depth ts)) (term_known-over p q c f depth n t le both.0) (args_known-over p q c f depth n ts le both.1)

-- the values of a list
pub value_known : (known : ℕ → Bool) (ts : List Term) (k : ℕ) → list_all (term_known known 0) ts ≡ true → k < length ts → term_known known 0 (value_at ts k) ≡ true
value_known known [] k h lt = absurd (omega (arith, lt))
value_known known (t ∷ ts) zero h lt = (and_parts (term_known known 0 t) (list_all (term_known known 0) ts) h).0
value_known known (t ∷ ts) (suc k) h lt = value_known known ts k (and_parts (term_known known 0 t) (list_all (term_known known 0) ts) h).1 (omega (arith, lt))

pub argument_known : (known : ℕ → Bool) (ts : List Term) (k : ℕ) → list_all (term_known known 0) ts ≡ true → k < length ts → term_known known 0 (argument_at ts k) ≡ true
argument_known known [] k h lt = absurd (omega (arith, lt))
argument_known known (t ∷ ts) zero h lt = (and_parts (term_known known 0 t) (list_all (term_known known 0) ts) h).0
argument_known known (t ∷ ts) (suc k) h lt = argument_known known ts k (and_parts (term_known known 0 t) (list_all (term_known known 0) ts) h).1 (omega (arith, lt))
