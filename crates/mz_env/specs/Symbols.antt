-- Whether constructors are let in: those of an article are, where the article is.
use Rattle.std.specs.Prelude.{◌≡◌, ℕ, Bool, true, false, ◌&&◌, nat_eq, List, [], ◌∷◌, Option, Some, None}
use Rattle.std.specs.List.{list_all, list_any}
use Rattle.std.specs.BTreeSet.{BTreeSet, contains}
use Rattle.std.specs.Ordering.{nat_cmp}
use Rattle.mz_base.specs.declared.name.Name.{Name}
use Rattle.mz_logic.specs.Term.{Term, Terms, Bound, Const, App, none, more}
use Rattle.mz_logic.specs.declared.sym.Sym.{Sym}
use Rattle.mz_logic.specs.declared.literal.Literal.{Literal}
use Rattle.mz_logic.specs.declared.literal.Literal.TheVariants as literal
use Rattle.mz_core.specs.declared.adjective.Adjective.{Adjective}
use Rattle.mz_core.specs.declared.soft_type.SoftType.{SoftType}
use Rattle.mz_core.specs.declared.notation.Meaning.{Meaning}
use Rattle.mz_core.specs.declared.notation.Meaning.TheVariants.{OfTerm, OfLiteral, OfType}
use Rattle.mz_core.specs.declared.notation.Notation.{Notation}
use Rattle.mz_core.specs.declared.item.Item.{Item}
use Rattle.mz_core.specs.declared.item.Item.TheVariants as item

abbrev pub is_numbered : ℕ → Name → Bool
is_numbered n a = nat_eq a.number n

-- the article with the number is one of these
abbrev pub is_among : ℕ → List Name → Bool
is_among n articles = list_any (is_numbered n) articles

-- the set has the numbers of the articles and no others
abbrev pub AreNumbers : List Name → BTreeSet ℕ → Type 0
AreNumbers articles numbers = (n : ℕ) → contains nat_cmp numbers n ≡ is_among n articles

abbrev pub sym_in : List Name → Sym → Bool
sym_in articles s = is_among s.article articles

abbrev mutual
  pub term_in : List Name → Term → Bool
  term_in articles (Bound index) = true
  term_in articles (Const number) = true
  term_in articles (App s ts) = sym_in articles s && args_in articles ts

  pub args_in : List Name → Terms → Bool
  args_in articles none = true
  args_in articles (more t ts) = term_in articles t && args_in articles ts

abbrev pub terms_in : List Name → List Term → Bool
terms_in articles ts = list_all (term_in articles) ts

abbrev pub literal_in : List Name → Literal → Bool
literal_in articles (literal.Atom positive s ts) = sym_in articles s && terms_in articles ts
literal_in articles (literal.Eq positive t u) = term_in articles t && term_in articles u

abbrev pub adjective_in : List Name → Adjective → Bool
adjective_in articles a = sym_in articles a.sym && terms_in articles a.args

abbrev pub adjectives_in : List Name → List Adjective → Bool
adjectives_in articles xs = list_all (adjective_in articles) xs

abbrev pub type_in : List Name → SoftType → Bool
type_in articles ty =
    sym_in articles ty.radix.sym && terms_in articles ty.radix.args && adjectives_in articles ty.adjectives

abbrev pub types_in : List Name → List SoftType → Bool
types_in articles tys = list_all (type_in articles) tys

abbrev pub type_if_any_in : List Name → Option SoftType → Bool
type_if_any_in articles None = true
type_if_any_in articles (Some ty) = type_in articles ty

abbrev pub meaning_in : List Name → Meaning → Bool
meaning_in articles (OfTerm t) = term_in articles t
meaning_in articles (OfLiteral l) = literal_in articles l
meaning_in articles (OfType ty) = type_in articles ty

-- each constructor that the notation names
abbrev pub notation_in : List Name → Notation → Bool
notation_in articles x = types_in articles x.pattern.loci && meaning_in articles x.meaning

-- each constructor that the registration names; another item is none
abbrev pub registration_in : List Name → Item → Bool
registration_in articles (item.Axiom s) = true
registration_in articles (item.AxiomScheme s) = true
registration_in articles (item.Primitive n) = true
registration_in articles (item.Theorem s) = true
registration_in articles (item.Scheme s) = true
registration_in articles (item.FunctorMeans d) = true
registration_in articles (item.FunctorEquals d) = true
registration_in articles (item.Predicate d) = true
registration_in articles (item.Attribute d) = true
registration_in articles (item.ModeMeans d) = true
registration_in articles (item.Abbreviation n) = true
registration_in articles (item.Notation n) = true
registration_in articles (item.RedefinedFunctor d) = true
registration_in articles (item.RedefinedMode d) = true
registration_in articles (item.RedefinedPredicate d) = true
registration_in articles (item.RedefinedAttribute d) = true
registration_in articles (item.Property p) = true
registration_in articles (item.Existential r) = types_in articles r.loci && adjectives_in articles r.adjectives && type_in articles r.ty
registration_in articles (item.Conditional r) = types_in articles r.loci && adjectives_in articles r.from && adjectives_in articles r.to && type_in articles r.ty
registration_in articles (item.Functorial r) = types_in articles r.loci && term_in articles r.term && adjectives_in articles r.adjectives && type_if_any_in articles r.ty
registration_in articles (item.Reduction r) = types_in articles r.loci && term_in articles r.left && term_in articles r.right
registration_in articles (item.Identification r) = types_in articles r.loci && term_in articles r.left && term_in articles r.right
registration_in articles (item.Structure s) = true
registration_in articles (item.SetTerm s) = true
registration_in articles (item.Choice c) = true
