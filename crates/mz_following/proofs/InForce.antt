-- What letters are fixed to has constants in force alone where what is followed has, and so has an instance by them.
use Rattle.std.proofs.Common.{◌≡◌, ℕ, zero, suc, List, [], ◌∷◌, ◌++◌, refl, ap, sym, ◌∙◌, Bool, true, false}
use Rattle.std.specs.Prelude.{Option, Some, None, find, nat_lt, if◌then◌else◌}
use Rattle.std.specs.List.{list_all}
use Rattle.std.proofs.lemmas.Bool.{and_parts, and_from}
use Rattle.mz_logic.specs.Term.{Term, Terms, Bound, Const, App, none, more, list_of}
use Rattle.mz_logic.specs.TermStorage.{terms_of-list_of}
use Rattle.mz_logic.specs.Formula.{Formula, Truth, Eq, Atom, Not, And, All}
use Rattle.mz_logic.specs.Sym.{same_sym}
use Rattle.mz_logic.specs.Negation.{negated}
use Rattle.mz_logic.specs.Substitution.{argument_at}
use Rattle.mz_logic.specs.Letters.{is_functor_letter, is_predicate_letter, is_of, term_in, term_at, term_for, formula_for}
use Rattle.mz_logic.specs.Instance.{term_instance, args_instance, term_or}
use Rattle.mz_logic.specs.declared.sym.Sym.{Sym}
use Rattle.mz_logic.specs.declared.letters.Letter.{Letter}
use Rattle.mz_logic.specs.declared.letters.Body.{Body}
use Rattle.mz_logic.specs.declared.letters.Body.TheVariants.{OfTerm, OfFormula}
use Rattle.mz_core.specs.InForce.{term_in_force, args_in_force, formula_in_force}
use Rattle.mz_core.proofs.LawProofs.{term_in_force-substitute}
use Rattle.mz_core.proofs.AllLemmas.{all-append, all-alone}
use Rattle.mz_core.proofs.InForceLemmas.{args_in_force-terms_of}
use Rattle.mz_following.specs.Places.{place_of, term_over, may_be_term, formula_beside, kept_if}
use Rattle.mz_following.specs.Following.{with_term_if, with_formula_if, term_unless, with_term, formula_unless, with_formula, followed_term, followed_args, followed_terms, followed_equation, followed_atom, followed}

-- the constants of what stands for a functor letter are in force
abbrev pub body_in_force : ℕ → Body → Bool
body_in_force next (OfTerm t) = term_in_force next t
body_in_force next (OfFormula f) = true

abbrev pub letter_in_force : ℕ → Letter → Bool
letter_in_force next l = body_in_force next l.body

abbrev pub AreFixedInForce : ℕ → List Letter → Type 0
AreFixedInForce next ls = list_all (letter_in_force next) ls ≡ true

chosen : (n : ℕ) (b : Bool) (xs ys : List Letter) → AreFixedInForce n xs → AreFixedInForce n ys → AreFixedInForce n (if b then xs else ys)
chosen n true xs ys hx hy = hx
chosen n false xs ys hx hy = hy

one_more : (n : ℕ) (ls : List Letter) (l : Letter) → AreFixedInForce n ls → letter_in_force n l ≡ true → AreFixedInForce n (ls ++ l ∷ [])
one_more n ls l h k = all-append (letter_in_force n) ls (l ∷ []) h (all-alone (letter_in_force n) l k)

with_term_kept : (n : ℕ) (s : Sym) (b : Bool) (t : Term) (ls : List Letter) → term_in_force n t ≡ true → AreFixedInForce n ls → AreFixedInForce n (with_term_if s (kept_if b t) ls)
with_term_kept n s true t ls ht h = one_more n ls (record { letter = s; body = OfTerm t }) h ht
with_term_kept n s false t ls ht h = h

term_unless_kept : (n : ℕ) (o : Option Term) (s : Sym) (args : List Term) (part : Term) (ls : List Letter) → term_in_force n part ≡ true → AreFixedInForce n ls → AreFixedInForce n (term_unless o s args part ls)
term_unless_kept n (Some body) s args part ls hp h = h
term_unless_kept n None s args part ls hp h = with_term_kept n s (may_be_term args part) (term_over args part) ls (term_in_force-substitute n 0 (place_of args) part (λ k. refl) hp) h

formula_if_kept : (n : ℕ) (s : Sym) (o : Option Formula) (ls : List Letter) → AreFixedInForce n ls → AreFixedInForce n (with_formula_if s o ls)
formula_if_kept n s None ls h = h
formula_if_kept n s (Some f) ls h = one_more n ls (record { letter = s; body = OfFormula f }) h refl

formula_unless_kept : (n : ℕ) (o : Option Formula) (s : Sym) (args : List Term) (part : Formula) (ls : List Letter) → AreFixedInForce n ls → AreFixedInForce n (formula_unless o s args part ls)
formula_unless_kept n (Some body) s args part ls h = h
formula_unless_kept n None s args part ls h = formula_if_kept n s (formula_beside args part) ls h

mutual
  followed_term_kept : (n : ℕ) (t u : Term) (ls : List Letter) → term_in_force n u ≡ true → AreFixedInForce n ls → AreFixedInForce n (followed_term t u ls)
  followed_term_kept n (Bound index) u ls hu h = h
  followed_term_kept n (Const number) u ls hu h = h
  followed_term_kept n (App s ts) (Bound index) ls hu h = chosen n (is_functor_letter s) (with_term s (list_of ts) (Bound index) ls) ls (term_unless_kept n (term_for s ls) s (list_of ts) (Bound index) ls hu h) h
  followed_term_kept n (App s ts) (Const number) ls hu h = chosen n (is_functor_letter s) (with_term s (list_of ts) (Const number) ls) ls (term_unless_kept n (term_for s ls) s (list_of ts) (Const number) ls hu h) h
  followed_term_kept n (App s ts) (App r us) ls hu h =
      chosen n (is_functor_letter s) (with_term s (list_of ts) (App r us) ls) (if same_sym s r then followed_args ts us ls else ls) (term_unless_kept n (term_for s ls) s (list_of ts) (App r us) ls hu h)
      (chosen n (same_sym s r) (followed_args ts us ls) ls (followed_args_kept n ts us ls hu h) h)

  followed_args_kept : (n : ℕ) (ts us : Terms) (ls : List Letter) → args_in_force n us ≡ true → AreFixedInForce n ls → AreFixedInForce n (followed_args ts us ls)
  followed_args_kept n none us ls hu h = h
  followed_args_kept n (more t ts) none ls hu h = h
  followed_args_kept n (more t ts) (more u us) ls hu h =
      let both : (term_in_force n u ≡ true) × (args_in_force n us ≡ true) = and_parts (term_in_force n u) (args_in_force n us) hu in
      followed_args_kept n ts us (followed_term t u ls) both.1 (followed_term_kept n t u ls both.0 h)

followed_terms_kept : (n : ℕ) (ts us : List Term) (ls : List Letter) → list_all (term_in_force n) us ≡ true → AreFixedInForce n ls → AreFixedInForce n (followed_terms ts us ls)
followed_terms_kept n [] us ls hu h = h
followed_terms_kept n (t ∷ ts) [] ls hu h = h
followed_terms_kept n (t ∷ ts) (u ∷ us) ls hu h =
    let both : (term_in_force n u ≡ true) × (list_all (term_in_force n) us ≡ true) = and_parts (term_in_force n u) (list_all (term_in_force n) us) hu in
    followed_terms_kept n ts us (followed_term t u ls) both.1 (followed_term_kept n t u ls both.0 h)

equation_kept : (n : ℕ) (t u : Term) (g : Formula) (ls : List Letter) → formula_in_force n g ≡ true → AreFixedInForce n ls → AreFixedInForce n (followed_equation t u g ls)
equation_kept n t u Truth ls hg h = h
equation_kept n t u (Eq v w) ls hg h =
    let both : (term_in_force n v ≡ true) × (term_in_force n w ≡ true) = and_parts (term_in_force n v) (term_in_force n w) hg in
    followed_term_kept n u w (followed_term t v ls) both.1 (followed_term_kept n t v ls both.0 h)
equation_kept n t u (Atom s ts) ls hg h = h
equation_kept n t u (Not g) ls hg h = h
equation_kept n t u (And g k) ls hg h = h
equation_kept n t u (All g) ls hg h = h

atom_kept : (n : ℕ) (s : Sym) (ts : List Term) (g : Formula) (ls : List Letter) → formula_in_force n g ≡ true → AreFixedInForce n ls → AreFixedInForce n (followed_atom s ts g ls)
atom_kept n s ts Truth ls hg h = h
atom_kept n s ts (Eq v w) ls hg h = h
atom_kept n s ts (Atom r us) ls hg h = chosen n (same_sym s r) (followed_terms ts us ls) ls (followed_terms_kept n ts us ls hg h) h
atom_kept n s ts (Not g) ls hg h = h
atom_kept n s ts (And g k) ls hg h = h
atom_kept n s ts (All g) ls hg h = h

negated_kept : (n : ℕ) (g : Formula) → formula_in_force n g ≡ true → formula_in_force n (negated g) ≡ true
negated_kept n Truth h = h
negated_kept n (Eq t u) h = h
negated_kept n (Atom s ts) h = h
negated_kept n (Not f) h = h
negated_kept n (And f g) h = h
negated_kept n (All f) h = h

pub followed_in_force : (n : ℕ) (f g : Formula) (ls : List Letter) → formula_in_force n g ≡ true → AreFixedInForce n ls → AreFixedInForce n (followed f g ls)
followed_in_force n Truth g ls hg h = h
followed_in_force n (Eq t u) g ls hg h = equation_kept n t u g ls hg h
followed_in_force n (Atom s ts) g ls hg h =
    chosen n (is_predicate_letter s) (with_formula s ts g ls) (followed_atom s ts g ls) (formula_unless_kept n (formula_for s ls) s ts g ls h) (atom_kept n s ts g ls hg h)
followed_in_force n (Not f) g ls hg h = followed_in_force n f (negated g) ls (negated_kept n g hg) h
followed_in_force n (And f k) Truth ls hg h = h
followed_in_force n (And f k) (Eq v w) ls hg h = h
followed_in_force n (And f k) (Atom s ts) ls hg h = h
followed_in_force n (And f k) (Not g) ls hg h = h
followed_in_force n (And f k) (And g j) ls hg h =
    let both : (formula_in_force n g ≡ true) × (formula_in_force n j ≡ true) = and_parts (formula_in_force n g) (formula_in_force n j) hg in
    followed_in_force n k j (followed f g ls) both.1 (followed_in_force n f g ls both.0 h)
followed_in_force n (And f k) (All g) ls hg h = h
followed_in_force n (All f) Truth ls hg h = h
followed_in_force n (All f) (Eq v w) ls hg h = h
followed_in_force n (All f) (Atom s ts) ls hg h = h
followed_in_force n (All f) (Not g) ls hg h = h
followed_in_force n (All f) (And g j) ls hg h = h
followed_in_force n (All f) (All g) ls hg h = followed_in_force n f g ls hg h

-- what stands for a functor letter
abbrev OptionInForce : ℕ → Option Term → Type 0
OptionInForce n None = Unit {0}
OptionInForce n (Some t) = term_in_force n t ≡ true

in_body : (n : ℕ) (l : Letter) → letter_in_force n l ≡ true → OptionInForce n (term_at (Some l))
in_body n l h = inner l.body h
  where
    inner : (b : Body) → body_in_force n b ≡ true → OptionInForce n (term_in b)
    inner (OfTerm t) k = k
    inner (OfFormula f) k = tt

found_first : (n : ℕ) (l : Letter) (o : Option Letter) (b : Bool) → OptionInForce n (term_at (Some l)) → OptionInForce n (term_at o) → OptionInForce n (term_at (if b then Some l else o))
found_first n l o true h k = h
found_first n l o false h k = k

found : (n : ℕ) (p : Letter → Bool) (ls : List Letter) → AreFixedInForce n ls → OptionInForce n (term_at (find p ls))
found n p [] h = tt
found n p (l ∷ ls) h =
    let both : (letter_in_force n l ≡ true) × (list_all (letter_in_force n) ls ≡ true) = and_parts (letter_in_force n l) (list_all (letter_in_force n) ls) h in
    found_first n l (find p ls) (p l) (in_body n l both.0) (found n p ls both.1)

where_letter : (n : ℕ) (b : Bool) (o : Option Term) → OptionInForce n o → OptionInForce n (if b then o else None)
where_letter n true o h = h
where_letter n false o h = tt

stands : (n : ℕ) (s : Sym) (ls : List Letter) → AreFixedInForce n ls → OptionInForce n (term_for s ls)
stands n s ls h = where_letter n (is_functor_letter s) (term_at (find (is_of s) ls)) (found n (is_of s) ls h)

-- an instance
argument_in_force : (n : ℕ) → nat_lt 0 n ≡ true → (ts : List Term) (k : ℕ) → list_all (term_in_force n) ts ≡ true → term_in_force n (argument_at ts k) ≡ true
argument_in_force n some [] zero h = some
argument_in_force n some [] (suc k) h = some
argument_in_force n some (t ∷ ts) zero h = (and_parts (term_in_force n t) (list_all (term_in_force n) ts) h).0
argument_in_force n some (t ∷ ts) (suc k) h = argument_in_force n some ts k (and_parts (term_in_force n t) (list_all (term_in_force n) ts) h).1

application_in_force : (n : ℕ) → nat_lt 0 n ≡ true → (s : Sym) (us : Terms) (o : Option Term) → OptionInForce n o → args_in_force n us ≡ true → term_in_force n (term_or o s (list_of us)) ≡ true
application_in_force n some s us None ho h = ap (args_in_force n) (terms_of-list_of us) ∙ h
application_in_force n some s us (Some body) ho h =
    let listed : list_all (term_in_force n) (list_of us) ≡ true = sym (args_in_force-terms_of n (list_of us)) ∙ (ap (args_in_force n) (terms_of-list_of us) ∙ h) in
    term_in_force-substitute n 0 (argument_at (list_of us)) body (λ k. argument_in_force n some (list_of us) k listed) ho

mutual
  pub instance_in_force : (n : ℕ) → nat_lt 0 n ≡ true → (ls : List Letter) → AreFixedInForce n ls → (t : Term) → term_in_force n t ≡ true → term_in_force n (term_instance ls t) ≡ true
  instance_in_force n some ls fixed (Bound index) h = refl
  instance_in_force n some ls fixed (Const number) h = h
  instance_in_force n some ls fixed (App s ts) h = application_in_force n some s (args_instance ls ts) (term_for s ls) (stands n s ls fixed) (args_instance_in_force n some ls fixed ts h)

  args_instance_in_force : (n : ℕ) → nat_lt 0 n ≡ true → (ls : List Letter) → AreFixedInForce n ls → (ts : Terms) → args_in_force n ts ≡ true → args_in_force n (args_instance ls ts) ≡ true
  args_instance_in_force n some ls fixed none h = refl
  args_instance_in_force n some ls fixed (more t ts) h =
      let both : (term_in_force n t ≡ true) × (args_in_force n ts ≡ true) = and_parts (term_in_force n t) (args_in_force n ts) h in
      and_from (term_in_force n (term_instance ls t)) (args_in_force n (args_instance ls ts)) (instance_in_force n some ls fixed t both.0) (args_instance_in_force n some ls fixed ts both.1)
