-- Which letters are fixed by following a formula of a scheme beside another one, node by node.
use Rattle.std.specs.Prelude.{if◌then◌else◌, List, [], ◌∷◌, ◌++◌, Option, Some, None}
use Rattle.mz_logic.specs.Sym.{same_sym}
use Rattle.mz_logic.specs.declared.sym.Sym.{Sym}
use Rattle.mz_logic.specs.Term.{Term, Terms, Bound, Const, App, none, more, list_of}
use Rattle.mz_logic.specs.Formula.{Formula, Truth, Eq, Atom, Not, And, All}
use Rattle.mz_logic.specs.Negation.{negated}
use Rattle.mz_logic.specs.Letters.{is_functor_letter, is_predicate_letter, term_for, formula_for}
use Rattle.mz_logic.specs.declared.letters.Letter.{Letter}
use Rattle.mz_logic.specs.declared.letters.Body.TheVariants.{OfTerm, OfFormula}
use Rattle.mz_following.specs.Places.{term_beside, formula_beside}

-- the letters with one more that is fixed, where there is one
abbrev pub with_term_if : Sym → Option Term → List Letter → List Letter
with_term_if s None ls = ls
with_term_if s (Some body) ls = ls ++ (record { letter = s; body = OfTerm body }) ∷ []

abbrev pub with_formula_if : Sym → Option Formula → List Letter → List Letter
with_formula_if s None ls = ls
with_formula_if s (Some body) ls = ls ++ (record { letter = s; body = OfFormula body }) ∷ []

-- a letter is fixed once, at its first application whose arguments are distinct variables and beside which the part has no other
-- variable that is bound around it; it stands for the part there
abbrev pub term_unless : Option Term → Sym → List Term → Term → List Letter → List Letter
term_unless (Some body) s args part ls = ls
term_unless None s args part ls = with_term_if s (term_beside args part) ls

abbrev pub with_term : Sym → List Term → Term → List Letter → List Letter
with_term s args part ls = term_unless (term_for s ls) s args part ls

abbrev pub formula_unless : Option Formula → Sym → List Term → Formula → List Letter → List Letter
formula_unless (Some body) s args part ls = ls
formula_unless None s args part ls = with_formula_if s (formula_beside args part) ls

abbrev pub with_formula : Sym → List Term → Formula → List Letter → List Letter
with_formula s args part ls = formula_unless (formula_for s ls) s args part ls

-- a term is followed as far as the symbols are the same; the arguments of a letter aren't followed
abbrev mutual
  pub followed_term : Term → Term → List Letter → List Letter
  followed_term (Bound index) u ls = ls
  followed_term (Const number) u ls = ls
  followed_term (App s ts) (Bound index) ls = if is_functor_letter s then with_term s (list_of ts) (Bound index) ls else ls
  followed_term (App s ts) (Const number) ls = if is_functor_letter s then with_term s (list_of ts) (Const number) ls else ls
  followed_term (App s ts) (App r us) ls =
      if is_functor_letter s then with_term s (list_of ts) (App r us) ls else if same_sym s r then followed_args ts us ls else ls

  pub followed_args : Terms → Terms → List Letter → List Letter
  followed_args none us ls = ls
  followed_args (more t ts) none ls = ls
  followed_args (more t ts) (more u us) ls = followed_args ts us (followed_term t u ls)

-- pairs of terms, from left to right
abbrev pub followed_terms : List Term → List Term → List Letter → List Letter
followed_terms [] us ls = ls
followed_terms (t ∷ ts) [] ls = ls
followed_terms (t ∷ ts) (u ∷ us) ls = followed_terms ts us (followed_term t u ls)

-- an equation and an atom beside another formula
abbrev pub followed_equation : Term → Term → Formula → List Letter → List Letter
followed_equation t u Truth ls = ls
followed_equation t u (Eq v w) ls = followed_term u w (followed_term t v ls)
followed_equation t u (Atom s ts) ls = ls
followed_equation t u (Not g) ls = ls
followed_equation t u (And g k) ls = ls
followed_equation t u (All g) ls = ls

abbrev pub followed_atom : Sym → List Term → Formula → List Letter → List Letter
followed_atom s ts Truth ls = ls
followed_atom s ts (Eq v w) ls = ls
followed_atom s ts (Atom r us) ls = if same_sym s r then followed_terms ts us ls else ls
followed_atom s ts (Not g) ls = ls
followed_atom s ts (And g k) ls = ls
followed_atom s ts (All g) ls = ls

-- a formula of a scheme beside another one: a negation beside the negation of the other; a difference in shape ends it there
abbrev pub followed : Formula → Formula → List Letter → List Letter
followed Truth g ls = ls
followed (Eq t u) g ls = followed_equation t u g ls
followed (Atom s ts) g ls = if is_predicate_letter s then with_formula s ts g ls else followed_atom s ts g ls
followed (Not f) g ls = followed f (negated g) ls
followed (And f h) Truth ls = ls
followed (And f h) (Eq v w) ls = ls
followed (And f h) (Atom r us) ls = ls
followed (And f h) (Not g) ls = ls
followed (And f h) (And g k) ls = followed h k (followed f g ls)
followed (And f h) (All g) ls = ls
followed (All f) Truth ls = ls
followed (All f) (Eq v w) ls = ls
followed (All f) (Atom r us) ls = ls
followed (All f) (Not g) ls = ls
followed (All f) (And g k) ls = ls
followed (All f) (All g) ls = followed f g ls
