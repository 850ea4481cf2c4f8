-- Some occurrences of the term t are replaced by the term u, none included.
use Rattle.std.specs.Prelude.{◌≡◌}
use Rattle.mz_logic.specs.declared.sym.Sym.{Sym}
use Rattle.mz_logic.specs.Term.{Term, Terms, Bound, Const, App, none, more, terms_of}
use Rattle.mz_logic.specs.Formula.{Formula, Truth, Eq, Atom, Not, And, All}
use Rattle.mz_logic.specs.Forms.{IfApp, IfEq, IfAtom, IfNot, IfAnd, IfAll}

-- a term and a list of arguments with some occurrences of t replaced by u
mutual
  pub data TermReplaced (t u : Term) : Term → Term → Type 0 where
    replaced : TermReplaced t u t u
    kept : (a : Term) → TermReplaced t u a a
    within : (s : Sym) (xs ys : Terms) → ArgsReplaced t u xs ys → TermReplaced t u (App s xs) (App s ys)

  pub data ArgsReplaced (t u : Term) : Terms → Terms → Type 0 where
    end : ArgsReplaced t u none none
    next : (a b : Term) (xs ys : Terms) → TermReplaced t u a b → ArgsReplaced t u xs ys → ArgsReplaced t u (more a xs) (more b ys)

-- both are applications of one symbol, and the replacement is within the arguments
abbrev pub WithinReplaced : Term → Term → Term → Term → Type 0
WithinReplaced t u (Bound index) b = ⊥
WithinReplaced t u (Const number) b = ⊥
WithinReplaced t u (App s xs) b = IfApp b (λ r ys. (s ≡ r) × ArgsReplaced t u xs ys)

-- g is f with some occurrences of t replaced by u
abbrev pub Replaced : Term → Term → Formula → Formula → Type 0
Replaced t u Truth g = (g ≡ Truth)
Replaced t u (Eq a c) g = IfEq g (λ b d. TermReplaced t u a b × TermReplaced t u c d)
Replaced t u (Atom s xs) g = IfAtom g (λ r ys. (s ≡ r) × ArgsReplaced t u (terms_of xs) (terms_of ys))
Replaced t u (Not f) g = IfNot g (λ k. Replaced t u f k)
Replaced t u (And f h) g = IfAnd g (λ k l. Replaced t u f k × Replaced t u h l)
Replaced t u (All f) g = IfAll g (λ k. Replaced t u f k)
