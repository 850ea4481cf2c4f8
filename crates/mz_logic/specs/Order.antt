-- The orders derived from the declarations of symbols, terms and literals: variants in their order, then
-- fields in theirs, lists from their first elements on.
use Rattle.std.specs.Prelude.{List}
use Rattle.std.specs.declared.cmp.Ordering.{Ordering}
use Rattle.std.specs.declared.cmp.Ordering.TheVariants.{Less, Equal, Greater}
use Rattle.std.specs.Ordering.{nat_cmp, bool_cmp, ordering_then}
use Rattle.mz_logic.specs.declared.sym.Sym.{Sym}
use Rattle.mz_logic.specs.Sym.{kind_number}
use Rattle.mz_logic.specs.Term.{Term, Terms, Bound, Const, App, none, more, terms_of}
use Rattle.mz_logic.specs.declared.literal.Literal.{Literal}
use Rattle.mz_logic.specs.declared.literal.Literal.TheVariants.{Atom, Eq}

-- by the article, then the kind, then the number
abbrev pub sym_cmp : Sym → Sym → Ordering
sym_cmp r s =
    ordering_then (nat_cmp r.article s.article)
    (ordering_then (nat_cmp (kind_number r.kind) (kind_number s.kind)) (nat_cmp r.number s.number))

-- indices come first, then constants, then applications by their symbols and then their arguments
unfoldable mutual
  pub term_cmp : Term → Term → Ordering
  term_cmp (Bound m) (Bound n) = nat_cmp m n
  term_cmp (Bound m) (Const n) = Less
  term_cmp (Bound m) (App s us) = Less
  term_cmp (Const m) (Bound n) = Greater
  term_cmp (Const m) (Const n) = nat_cmp m n
  term_cmp (Const m) (App s us) = Less
  term_cmp (App r ts) (Bound n) = Greater
  term_cmp (App r ts) (Const n) = Greater
  term_cmp (App r ts) (App s us) = ordering_then (sym_cmp r s) (args_cmp ts us)

  -- the first arguments that differ decide; a list comes before those that go on after it
  pub args_cmp : Terms → Terms → Ordering
  args_cmp none none = Equal
  args_cmp none (more u us) = Less
  args_cmp (more t ts) none = Greater
  args_cmp (more t ts) (more u us) = ordering_then (term_cmp t u) (args_cmp ts us)

unfoldable pub terms_cmp : List Term → List Term → Ordering
terms_cmp ts us = args_cmp (terms_of ts) (terms_of us)

-- atoms come before equations; a negative literal before a positive one
unfoldable pub literal_cmp : Literal → Literal → Ordering
literal_cmp (Atom p r ts) (Atom q s us) = ordering_then (bool_cmp p q) (ordering_then (sym_cmp r s) (terms_cmp ts us))
literal_cmp (Atom p r ts) (Eq q v w) = Less
literal_cmp (Eq p t u) (Atom q s us) = Greater
literal_cmp (Eq p t u) (Eq q v w) = ordering_then (bool_cmp p q) (ordering_then (term_cmp t v) (term_cmp u w))
