-- Instances of applications, shifted instances and bodies at arguments, for the test of instances.
use Rattle.std.proofs.Common.{◌≡◌, ◌<◌, ◌≤◌, ℕ, zero, suc, ◌+◌, ◌-◌, List, [], ◌∷◌, map, length, get_or, refl, sym, ap, ◌∙◌, arith, Bool, true, false}
use Rattle.std.specs.Prelude.{nat_lt, if◌then◌else◌, Option, Some, None, find}
use Rattle.std.proofs.lemmas.Bool.{le-ltb, true≢false}
use Rattle.std.proofs.lemmas.List.{get_or-map}
use Rattle.mz_logic.specs.declared.sym.Sym.{Sym}
use Rattle.mz_logic.specs.declared.letters.Letter.{Letter}
use Rattle.mz_logic.specs.declared.letters.Body.{Body}
use Rattle.mz_logic.specs.declared.letters.Body.TheVariants.{OfTerm, OfFormula}
use Rattle.mz_logic.specs.Term.{Term, Terms, Bound, Const, App, none, more, terms_of, list_of}
use Rattle.mz_logic.specs.TermStorage.{list_of-terms_of, terms_of-inj, size_of}
use Rattle.mz_logic.specs.Formula.{Formula}
use Rattle.mz_logic.specs.Letters.{is_functor_letter, is_predicate_letter, is_of, term_in, formula_in, term_at, formula_at, term_for, formula_for}
use Rattle.mz_logic.specs.Substitution.{shift, shift_args, substitute, substitute_args, argument_at}
use Rattle.mz_logic.specs.Instance.{term_instance, args_instance, term_or}
use Rattle.mz_logic.specs.InstanceTest.{shifted_instance, term_at_by, args_at_by, terms_size, body_size, bodies_size, weight, args_weight, letter_weight, letter_weights}
use Rattle.mz_logic.proofs.InstanceLemmas.{args_instance-terms_of}
use Rattle.mz_logic.proofs.ShiftLaws.{shift-zero, shift-Bound, shift_args-terms_of}

-- no further binders
pub shifted_instance-zero : (ls : List Letter) (t : Term) → shifted_instance ls 0 t ≡ term_instance ls t
unfolding shifted_instance
shifted_instance-zero ls t = shift-zero 0 (term_instance ls t)

pub shifted_instances-zero : (ls : List Letter) (ts : List Term) → map (shifted_instance ls 0) ts ≡ map (term_instance ls) ts
shifted_instances-zero ls [] = refl
shifted_instances-zero ls (t ∷ ts) = λ i. shifted_instance-zero ls t i ∷ shifted_instances-zero ls ts i

-- a body under as many binders as its arguments are shifted by
mutual
  pub term_at_by-substitute : (depth : ℕ) (args : List Term) (t : Term) → term_at_by depth depth args t ≡ substitute depth (argument_at args) t
  term_at_by-substitute depth args (Bound index) = refl
  term_at_by-substitute depth args (Const number) = refl
  term_at_by-substitute depth args (App s ts) = ap (λ us. App s us) (args_at_by-substitute depth args ts)

  args_at_by-substitute : (depth : ℕ) (args : List Term) (ts : Terms) → args_at_by depth depth args ts ≡ substitute_args depth (argument_at args) ts
  args_at_by-substitute depth args none = refl
  args_at_by-substitute depth args (more t ts) = λ i. more (term_at_by-substitute depth args t i) (args_at_by-substitute depth args ts i)

pub terms_at_by-substitute : (depth : ℕ) (args ts : List Term) → map (term_at_by depth depth args) ts ≡ map (substitute depth (argument_at args)) ts
terms_at_by-substitute depth args [] = refl
terms_at_by-substitute depth args (t ∷ ts) = λ i. term_at_by-substitute depth args t i ∷ terms_at_by-substitute depth args ts i

pub args_at_by-terms_of : (inner by : ℕ) (args ts : List Term) → args_at_by inner by args (terms_of ts) ≡ terms_of (map (term_at_by inner by args) ts)
args_at_by-terms_of inner by args [] = refl
args_at_by-terms_of inner by args (t ∷ ts) = ap (λ us. more (term_at_by inner by args t) us) (args_at_by-terms_of inner by args ts)

-- a functor letter's body, shifted
shifted_index : (by index : ℕ) (args : List Term) (b : Bool) → b ≡ false → shift 0 by (if b then Bound index else shift 0 0 (argument_at args (index - 0))) ≡ (if b then Bound index else shift 0 by (argument_at args (index - 0)))
shifted_index by index args true e = absurd (true≢false e)
shifted_index by index args false e = ap (shift 0 by) (shift-zero 0 (argument_at args (index - 0)))

mutual
  shift-substitute : (by : ℕ) (args : List Term) (t : Term) → shift 0 by (substitute 0 (argument_at args) t) ≡ term_at_by 0 by args t
  shift-substitute by args (Bound index) = shifted_index by index args (nat_lt index 0) (le-ltb index 0 (omega arith))
  shift-substitute by args (Const number) = refl
  shift-substitute by args (App s ts) = ap (λ us. App s us) (shift_args-substitute_args by args ts)

  shift_args-substitute_args : (by : ℕ) (args : List Term) (ts : Terms) → shift_args 0 by (substitute_args 0 (argument_at args) ts) ≡ args_at_by 0 by args ts
  shift_args-substitute_args by args none = refl
  shift_args-substitute_args by args (more t ts) = λ i. more (shift-substitute by args t i) (shift_args-substitute_args by args ts i)

-- shifted instances by cases
pub shifted_instance-Bound : (ls : List Letter) (by index : ℕ) → shifted_instance ls by (Bound index) ≡ Bound (index + by)
unfolding shifted_instance
shifted_instance-Bound ls by index = shift-Bound by index

pub shifted_instance-Const : (ls : List Letter) (by number : ℕ) → shifted_instance ls by (Const number) ≡ Const number
unfolding shifted_instance
shifted_instance-Const ls by number = refl

shifts_of_instances : (ls : List Letter) (by : ℕ) (ts : List Term) → map (shift 0 by) (map (term_instance ls) ts) ≡ map (shifted_instance ls by) ts
unfolding shifted_instance
shifts_of_instances ls by [] = refl
shifts_of_instances ls by (t ∷ ts) = ap (λ us. shift 0 by (term_instance ls t) ∷ us) (shifts_of_instances ls by ts)

pub shifted_instance-None : (ls : List Letter) (by : ℕ) (s : Sym) (ts : List Term) → term_for s ls ≡ None → shifted_instance ls by (App s (terms_of ts)) ≡ App s (terms_of (map (shifted_instance ls by) ts))
unfolding shifted_instance
shifted_instance-None ls by s ts e =
    let inside : shift 0 by (term_or (term_for s ls) s (list_of (args_instance ls (terms_of ts)))) ≡ shift 0 by (term_or None s (map (term_instance ls) ts)) = λ i. shift 0 by (term_or (e i) s (args_instance-terms_of ls ts i)) in
    inside ∙ ap (λ us. App s us) (shift_args-terms_of 0 by (map (term_instance ls) ts) ∙ ap terms_of (shifts_of_instances ls by ts))

pub shifted_instance-Some : (ls : List Letter) (by : ℕ) (s : Sym) (ts : List Term) (b : Term) → term_for s ls ≡ Some b → shifted_instance ls by (App s (terms_of ts)) ≡ term_at_by 0 by (map (term_instance ls) ts) b
unfolding shifted_instance
shifted_instance-Some ls by s ts b e =
    let inside : shift 0 by (term_or (term_for s ls) s (list_of (args_instance ls (terms_of ts)))) ≡ shift 0 by (term_or (Some b) s (map (term_instance ls) ts)) = λ i. shift 0 by (term_or (e i) s (args_instance-terms_of ls ts i)) in
    inside ∙ shift-substitute by (map (term_instance ls) ts) b

-- an argument at its place
pub argument_shifted : (ls : List Letter) (by : ℕ) (args : List Term) (k : ℕ) (t : Term) → k < length args → t ≡ get_or args k t → shift 0 by (argument_at (map (term_instance ls) args) k) ≡ shifted_instance ls by t
unfolding shifted_instance
argument_shifted ls by args k t lt e = ap (shift 0 by) (get_or-map (term_instance ls) args k t (Const 0) lt ∙ ap (term_instance ls) (sym e))

pub argument_missing : (ls : List Letter) (args : List Term) (k : ℕ) → length args ≤ k → argument_at (map (term_instance ls) args) k ≡ Const 0
argument_missing ls [] k le = refl
argument_missing ls (t ∷ ts) zero le = absurd (omega arith)
argument_missing ls (t ∷ ts) (suc k) le = argument_missing ls ts k (omega arith)

-- sizes of bodies
term_in-size : (b : Body) (t : Term) → term_in b ≡ Some t → size_of t ≤ body_size b
term_in-size (OfTerm u) t e = grind arith
term_in-size (OfFormula f) t e = grind arith

formula_in-size : (b : Body) (f : Formula) → formula_in b ≡ Some f → terms_size f ≤ body_size b
formula_in-size (OfTerm u) f e = grind arith
formula_in-size (OfFormula g) f e = grind arith

term_found : (l : Letter) (others : Option Letter) (rest : ℕ) (c : Bool) (t : Term) → (term_at others ≡ Some t → size_of t ≤ rest) → term_at (if c then Some l else others) ≡ Some t → size_of t ≤ body_size l.body + rest
term_found l others rest true t among e = omega (arith, term_in-size l.body t e)
term_found l others rest false t among e = omega (arith, among e)

formula_found : (l : Letter) (others : Option Letter) (rest : ℕ) (c : Bool) (f : Formula) → (formula_at others ≡ Some f → terms_size f ≤ rest) → formula_at (if c then Some l else others) ≡ Some f → terms_size f ≤ body_size l.body + rest
formula_found l others rest true f among e = omega (arith, formula_in-size l.body f e)
formula_found l others rest false f among e = omega (arith, among e)

term_at-size : (s : Sym) (ls : List Letter) (t : Term) → term_at (find (is_of s) ls) ≡ Some t → size_of t ≤ bodies_size ls
unfolding bodies_size
term_at-size s [] t e = grind arith
term_at-size s (l ∷ ls) t e = term_found l (find (is_of s) ls) (bodies_size ls) (is_of s l) t (term_at-size s ls t) e

formula_at-size : (s : Sym) (ls : List Letter) (f : Formula) → formula_at (find (is_of s) ls) ≡ Some f → terms_size f ≤ bodies_size ls
unfolding bodies_size
formula_at-size s [] f e = grind arith
formula_at-size s (l ∷ ls) f e = formula_found l (find (is_of s) ls) (bodies_size ls) (is_of s l) f (formula_at-size s ls f) e

term_if : (c : Bool) (o : Option Term) (n : ℕ) (t : Term) → (o ≡ Some t → size_of t ≤ n) → (if c then o else None) ≡ Some t → size_of t ≤ n
term_if true o n t h e = h e
term_if false o n t h e = grind arith

formula_if : (c : Bool) (o : Option Formula) (n : ℕ) (f : Formula) → (o ≡ Some f → terms_size f ≤ n) → (if c then o else None) ≡ Some f → terms_size f ≤ n
formula_if true o n f h e = h e
formula_if false o n f h e = grind arith

pub term_for-size : (s : Sym) (ls : List Letter) (t : Term) → term_for s ls ≡ Some t → size_of t ≤ bodies_size ls
term_for-size s ls t e = term_if (is_functor_letter s) (term_at (find (is_of s) ls)) (bodies_size ls) t (term_at-size s ls t) e

pub formula_for-size : (s : Sym) (ls : List Letter) (f : Formula) → formula_for s ls ≡ Some f → terms_size f ≤ bodies_size ls
formula_for-size s ls f e = formula_if (is_predicate_letter s) (formula_at (find (is_of s) ls)) (bodies_size ls) f (formula_at-size s ls f) e

-- weights
positive : (each : ℕ) (ts : Terms) → 0 < each → 0 < args_weight each ts
positive each none lt = lt
positive each (more t ts) lt = omega (arith, positive each ts lt)

item_weight : (each : ℕ) (ts : List Term) (k : ℕ) (d : Term) → 0 < each → k < length ts → weight each (get_or ts k d) < args_weight each (terms_of ts)
item_weight each [] k d lt within = absurd (omega arith)
item_weight each (t ∷ ts) zero d lt within = omega (arith, positive each (terms_of ts) lt)
item_weight each (t ∷ ts) (suc k) d lt within = omega (arith, item_weight each ts k d lt (omega arith))

pub letter_weight-App : (ls : List Letter) (s : Sym) (ts : List Term) → letter_weight ls (App s (terms_of ts)) ≡ suc (bodies_size ls) + letter_weights ls ts
unfolding letter_weight letter_weights
letter_weight-App ls s ts = refl

pub letter_weight-item : (ls : List Letter) (ts : List Term) (k : ℕ) (t : Term) → k < length ts → t ≡ get_or ts k t → letter_weight ls t < letter_weights ls ts
unfolding letter_weight letter_weights
letter_weight-item ls ts k t lt e = rw e (item_weight (suc (bodies_size ls)) ts k t (omega arith) lt)

pub ruleset shift_rules = (shifted_instance-zero, shifted_instances-zero)

pub ruleset substitute_rules = (term_at_by-substitute, terms_at_by-substitute)

pub ruleset formula_rules = (formula_for-size)

pub ruleset instance_rules = (shifted_instance-Bound, shifted_instance-Const, shifted_instance-None, shifted_instance-Some, term_for-size, letter_weight-App, terms_of-inj)

pub ruleset list_rules = (letter_weight-item)

pub ruleset term_rules = (args_at_by-terms_of, argument_shifted, argument_missing, letter_weight-item, terms_of-inj)
