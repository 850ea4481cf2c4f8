-- Texts of symbols, terms and formulas, as lists of ASCII bytes.
use Rattle.std.specs.Prelude.{ℕ, zero, suc, ◌/◌, ◌%◌, List, [], ◌∷◌, ◌++◌, decimal, if◌then◌else◌, nat_eq}
use Rattle.mz_logic.specs.declared.sym.Sym.{Sym}
use Rattle.mz_logic.specs.declared.kind.Kind.{Kind}
use Rattle.mz_logic.specs.declared.kind.Kind.TheVariants.{Mode, Structure, Attribute, Functor, Selector, Aggregate, Predicate, LetterFunctor, LetterPredicate}
use Rattle.mz_logic.specs.Term.{Term, Terms, Bound, Const, App, none, more, terms_of}
use Rattle.mz_logic.specs.Formula.{Formula, Truth, Eq, Atom, Not, And, All}

-- the last bytes of a number, most significant first, without the zeros
abbrev pub bytes_of : ℕ → ℕ → List ℕ
bytes_of zero n = []
bytes_of (suc count) n = bytes_of count (n / 256) ++ (if nat_eq (n % 256) 0 then [] else (n % 256) ∷ [])

-- the name of an article, from its number
abbrev pub article_text : ℕ → List ℕ
article_text article = bytes_of 8 article

-- M, G, V, O, U, A, R, F or P
abbrev pub kind_letter : Kind → ℕ
kind_letter Mode = 77
kind_letter Structure = 71
kind_letter Attribute = 86
kind_letter Functor = 79
kind_letter Selector = 85
kind_letter Aggregate = 65
kind_letter Predicate = 82
kind_letter LetterFunctor = 70
kind_letter LetterPredicate = 80

-- `NAME.LN`: the article, the letter of the kind, the number
abbrev pub sym_text : Sym → List ℕ
sym_text s = article_text s.article ++ 46 ∷ kind_letter s.kind ∷ decimal s.number

-- `(HEAD REST)`, and HEAD alone where there is no rest
abbrev pub applied_text : List ℕ → List ℕ → List ℕ
applied_text head [] = head
applied_text head (b ∷ bs) = 40 ∷ (head ++ b ∷ bs) ++ 41 ∷ []

-- `bI`, `cI`, and the symbol with its arguments, a space before each
abbrev mutual
  pub term_text : Term → List ℕ
  term_text (Bound index) = 98 ∷ decimal index
  term_text (Const number) = 99 ∷ decimal number
  term_text (App s ts) = applied_text (sym_text s) (args_text ts)

  pub args_text : Terms → List ℕ
  args_text none = []
  args_text (more t ts) = 32 ∷ term_text t ++ args_text ts

-- an argument, with the space before it
abbrev pub argument_text : Term → List ℕ
argument_text t = 32 ∷ term_text t

-- the words `true`, `=`, `not`, `and`, `all`
abbrev pub true_word : List ℕ
true_word = 116 ∷ 114 ∷ 117 ∷ 101 ∷ []

abbrev pub equals_word : List ℕ
equals_word = 61 ∷ []

abbrev pub not_word : List ℕ
not_word = 110 ∷ 111 ∷ 116 ∷ []

abbrev pub and_word : List ℕ
and_word = 97 ∷ 110 ∷ 100 ∷ []

abbrev pub all_word : List ℕ
all_word = 97 ∷ 108 ∷ 108 ∷ []

-- `true`, `(= T U)`, `(SYM A1 A2)`, `(not F)`, `(and F G)`, `(all F)`
abbrev pub formula_text : Formula → List ℕ
formula_text Truth = true_word
formula_text (Eq t u) = applied_text equals_word (32 ∷ term_text t ++ 32 ∷ term_text u)
formula_text (Atom s ts) = applied_text (sym_text s) (args_text (terms_of ts))
formula_text (Not f) = applied_text not_word (32 ∷ formula_text f)
formula_text (And f g) = applied_text and_word (32 ∷ formula_text f ++ 32 ∷ formula_text g)
formula_text (All f) = applied_text all_word (32 ∷ formula_text f)
