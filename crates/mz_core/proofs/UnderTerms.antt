-- Terms under n binders alone, through shifts and substitution.
use Rattle.std.proofs.Common.{◌≡◌, ◌<◌, ◌≤◌, ℕ, ◌+◌, ◌-◌, List, [], ◌∷◌, refl, subst, arith, Bool, true, false}
use Rattle.std.specs.Prelude.{◌&&◌, nat_lt, if◌then◌else◌}
use Rattle.std.specs.List.{list_all}
use Rattle.std.proofs.lemmas.Bool.{ltb-true, ltb-false, lt-ltb, and_parts, and_from}
use Rattle.mz_logic.specs.Term as term
use Rattle.mz_logic.specs.Term.{Term, Terms}
use Rattle.mz_logic.specs.Substitution.{shift, shift_args, substitute, substitute_args}
use Rattle.mz_core.specs.Closed.{term_under, args_under}

-- terms
index_under-shift : (from by n index : ℕ) (b : Bool) → nat_lt index from ≡ b → index < n → nat_lt (if b then index else index + by) (n + by) ≡ true
index_under-shift from by n index true e lt = lt-ltb index (n + by) (omega arith)
index_under-shift from by n index false e lt = lt-ltb (index + by) (n + by) (omega arith)

mutual
  pub term_under-shift : (from by n : ℕ) (t : Term) → term_under n t ≡ true → term_under (n + by) (shift from by t) ≡ true
  term_under-shift from by n (term.Bound index) h = index_under-shift from by n index (nat_lt index from) refl (ltb-true index n h)
  term_under-shift from by n (term.Const number) h = cc
  term_under-shift from by n (term.App s ts) h = args_under-shift from by n ts h

  args_under-shift : (from by n : ℕ) (ts : Terms) → args_under n ts ≡ true → args_under (n + by) (shift_args from by ts) ≡ true
  args_under-shift from by n term.none h = refl
  args_under-shift from by n (term.more t ts) h =
      let both : (term_under n t ≡ true) × (args_under n ts ≡ true) = and_parts (term_under n t) (args_under n ts) h in
      and_from _ _ (term_under-shift from by n t both.0) (args_under-shift from by n ts both.1)

mutual
  pub term_under-more : (m n : ℕ) (t : Term) → m ≤ n → term_under m t ≡ true → term_under n t ≡ true
  term_under-more m n (term.Bound index) le h =
      let lt : index < m = ltb-true index m h in
      lt-ltb index n (omega arith)
  term_under-more m n (term.Const number) le h = cc
  term_under-more m n (term.App s ts) le h = args_under-more m n ts le h

  args_under-more : (m n : ℕ) (ts : Terms) → m ≤ n → args_under m ts ≡ true → args_under n ts ≡ true
  args_under-more m n term.none le h = refl
  args_under-more m n (term.more t ts) le h =
      let both : (term_under m t ≡ true) × (args_under m ts ≡ true) = and_parts (term_under m t) (args_under m ts) h in
      and_from _ _ (term_under-more m n t le both.0) (args_under-more m n ts le both.1)

term_under-at : (m n : ℕ) (t : Term) → m ≡ n → term_under m t ≡ true → term_under n t ≡ true
term_under-at m n t e h = let P : ℕ → Type 0 = λ k. term_under k t ≡ true in subst P e h

index_under-substitute : (depth m n : ℕ) (v : ℕ → Term) (index : ℕ) (b : Bool) → ((k : ℕ) → k < n → term_under m (v k) ≡ true) → nat_lt index depth ≡ b → index < depth + n → term_under (depth + m) (if b then term.Bound index else shift 0 depth (v (index - depth))) ≡ true
index_under-substitute depth m n v index true vs e lt =
    let within : index < depth = ltb-true index depth e in
    lt-ltb index (depth + m) (omega arith)
index_under-substitute depth m n v index false vs e lt =
    let beyond : depth ≤ index = ltb-false index depth e in
    let place : index - depth < n = omega arith in
    let sum : m + depth ≡ depth + m = omega arith in
    term_under-at (m + depth) (depth + m) (shift 0 depth (v (index - depth))) sum (term_under-shift 0 depth m (v (index - depth)) (vs (index - depth) place))

mutual
  pub term_under-substitute : (depth m n : ℕ) (v : ℕ → Term) (t : Term) → ((k : ℕ) → k < n → term_under m (v k) ≡ true) → term_under (depth + n) t ≡ true → term_under (depth + m) (substitute depth v t) ≡ true
  term_under-substitute depth m n v (term.Bound index) vs h = index_under-substitute depth m n v index (nat_lt index depth) vs refl (ltb-true index (depth + n) h)
  term_under-substitute depth m n v (term.Const number) vs h = cc
  term_under-substitute depth m n v (term.App s ts) vs h = args_under-substitute depth m n v ts vs h

  args_under-substitute : (depth m n : ℕ) (v : ℕ → Term) (ts : Terms) → ((k : ℕ) → k < n → term_under m (v k) ≡ true) → args_under (depth + n) ts ≡ true → args_under (depth + m) (substitute_args depth v ts) ≡ true
  args_under-substitute depth m n v term.none vs h = refl
  args_under-substitute depth m n v (term.more t ts) vs h =
      let both : (term_under (depth + n) t ≡ true) × (args_under (depth + n) ts ≡ true) = and_parts (term_under (depth + n) t) (args_under (depth + n) ts) h in
      and_from _ _ (term_under-substitute depth m n v t vs both.0) (args_under-substitute depth m n v ts vs both.1)

pub args_under-list : (n : ℕ) (ts : List Term) → list_all (term_under n) ts ≡ true → args_under n (term.terms_of ts) ≡ true
args_under-list n [] h = refl
args_under-list n (t ∷ ts) h =
    let both : (term_under n t ≡ true) × (list_all (term_under n) ts ≡ true) = and_parts (term_under n t) (list_all (term_under n) ts) h in
    and_from _ _ both.0 (args_under-list n ts both.1)
