-- A term has one chain.
use Rattle.std.proofs.Common.{◌≡◌, ◌⊎◌, inl, inr, ℕ, zero, suc, Bool, true, false, List, [], ◌∷◌, ◌++◌, refl, sym, ap, ◌∙◌, subst, arith, length, Option, Some, None}
use Rattle.std.specs.Prelude.{reverse}
use Rattle.mz_std_laws.proofs.Sums.{either}
use Rattle.mz_logic.specs.declared.sym.Sym.{Sym}
use Rattle.mz_logic.specs.declared.kind.Kind.{Kind}
use Rattle.mz_logic.specs.declared.kind.Kind.TheVariants as kind
use Rattle.mz_logic.specs.Term.{Term, Bound, Const, App, terms_of, list_of}
use Rattle.mz_logic.specs.TermStorage.{list_of-terms_of}
use Rattle.mz_core.specs.declared.radix.Radix.{Radix}
use Rattle.mz_context.specs.declared.constants.Constant.{Constant}
use Rattle.mz_context.specs.declared.context.Context.{Context}
use Rattle.mz_context.specs.Context.{constant_at}
use Rattle.mz_ground.specs.declared.clause.Clause.{Clause}
use Rattle.mz_environment.specs.Rows.{is_mode}
use Rattle.mz_environment.specs.declared.environment.Environment.{Environment}
use Rattle.mz_fits.proofs.FitLemmas.{not_both}
use Rattle.mz_fits.proofs.OneMatch.{some-inj, none_some}
use Rattle.mz_types.specs.RowTypes.{RowsAdd}
use Rattle.mz_types.specs.Structures.{FirstGives, AggregateGives, AncestorsGive}
use Rattle.mz_types.specs.Chain as ch
use Rattle.mz_types.specs.Chain.{IsLeftOut, is_structure_kind, has_no_radix, rows_of_letters, radix_if_any, Parents, Visited, Walks, walked, visits, Begins, IsChain, chain_of, chain_end}
use Rattle.mz_types.specs.Laws.{OneChainLaw}
use Rattle.mz_types.proofs.OneRow.{rows_once, first_once, aggregate_once, ancestors_once}

-- parents
abbrev ParentsAs : List Clause → Environment → Context → Radix → Bool → Bool → List Radix → Type 0
ParentsAs cs e c r true b xs = (ys : List Radix) × RowsAdd cs c.constants r.sym r.args e.modes ys × (xs ≡ reverse ys)
ParentsAs cs e c r false true xs = AncestorsGive cs c.constants e.structures r xs
ParentsAs cs e c r false false xs = xs ≡ []

no_structure : (k : Kind) → is_structure_kind k ≡ true → is_mode k ≡ false
no_structure kind.Mode h = absurd (not_both (is_structure_kind kind.Mode) refl h)
no_structure kind.Structure h = refl
no_structure kind.Attribute h = refl
no_structure kind.Functor h = refl
no_structure kind.Selector h = refl
no_structure kind.Aggregate h = refl
no_structure kind.Predicate h = refl
no_structure kind.LetterFunctor h = refl
no_structure kind.LetterPredicate h = refl

parents_as : (cs : List Clause) (e : Environment) (c : Context) (r : Radix) (xs : List Radix) → Parents cs e c r xs → ParentsAs cs e c r (is_mode r.sym.kind) (is_structure_kind r.sym.kind) xs
parents_as cs e c r xs (ch.of_mode ys h k) = subst (λ b. ParentsAs cs e c r b (is_structure_kind r.sym.kind) (reverse ys)) (sym h) (ys, k, refl)
parents_as cs e c r xs (ch.of_structure ys h k) =
    subst (λ b. ParentsAs cs e c r b (is_structure_kind r.sym.kind) ys) (sym (no_structure r.sym.kind h)) (subst (λ b. ParentsAs cs e c r false b ys) (sym h) k)
parents_as cs e c r xs (ch.of_other h k) = subst (λ b. ParentsAs cs e c r b (is_structure_kind r.sym.kind) []) (sym h) (subst (λ b. ParentsAs cs e c r false b []) (sym k) refl)

as_parents_once : (cs : List Clause) (e : Environment) (c : Context) (r : Radix) (a b : Bool) (xs ys : List Radix) → ParentsAs cs e c r a b xs → ParentsAs cs e c r a b ys → xs ≡ ys
as_parents_once cs e c r true b xs ys h k = h.2 ∙ ap reverse (rows_once cs c.constants r.sym r.args e.modes h.0 k.0 h.1 k.1) ∙ sym k.2
as_parents_once cs e c r false true xs ys h k = ancestors_once cs c.constants e.structures r xs ys h k
as_parents_once cs e c r false false xs ys h k = h ∙ sym k

parents_once : (cs : List Clause) (e : Environment) (c : Context) (r : Radix) (xs ys : List Radix) → Parents cs e c r xs → Parents cs e c r ys → xs ≡ ys
parents_once cs e c r xs ys h k = as_parents_once cs e c r (is_mode r.sym.kind) (is_structure_kind r.sym.kind) xs ys (parents_as cs e c r xs h) (parents_as cs e c r ys k)

-- a radix in its turn
abbrev VisitedAs : List Clause → Environment → Context → List Radix → Radix → List Radix → List Radix → Type 0
VisitedAs cs e c out r xs after =
    (IsLeftOut out r × (xs ≡ []) × (after ≡ out)) ⊎ ((IsLeftOut out r → ⊥) × Parents cs e c r xs × (after ≡ out ++ r ∷ []))

visited_as : (cs : List Clause) (e : Environment) (c : Context) (out : List Radix) (r : Radix) (xs after : List Radix) → Visited cs e c out r xs after → VisitedAs cs e c out r xs after
visited_as cs e c out r xs after (ch.left_out h) = inl (h, refl, refl)
visited_as cs e c out r xs after (ch.taken ys n h) = inr (n, h, refl)

visited_once : (cs : List Clause) (e : Environment) (c : Context) (out : List Radix) (r : Radix) (xs ys a b : List Radix) → Visited cs e c out r xs a → Visited cs e c out r ys b → (xs ≡ ys) × (a ≡ b)
visited_once cs e c out r xs ys a b h k =
    either (visited_as cs e c out r xs a h)
    (λ p. either (visited_as cs e c out r ys b k) (λ q. (p.1 ∙ sym q.1, p.2 ∙ sym q.2)) (λ q. absurd (q.0 p.0)))
    (λ p. either (visited_as cs e c out r ys b k) (λ q. absurd (p.0 q.0)) (λ q. (parents_once cs e c r xs ys p.1 q.1, p.2 ∙ sym q.2)))

-- the walk
abbrev WalksAs : List Clause → Environment → Context → List Radix → List Radix → List Radix → Type 0
WalksAs cs e c [] out end = end ≡ out
WalksAs cs e c (r ∷ todo) out end = (xs : List Radix) × (between : List Radix) × Visited cs e c out r xs between × Walks cs e c (xs ++ todo) between end

walks_as : (cs : List Clause) (e : Environment) (c : Context) (todo out end : List Radix) → Walks cs e c todo out end → WalksAs cs e c todo out end
walks_as cs e c todo out end (walked o) = refl
walks_as cs e c todo out end (visits r others xs o between last v w) = (xs, between, v, w)

walks_once : (cs : List Clause) (e : Environment) (c : Context) (todo out end : List Radix) → Walks cs e c todo out end → (last : List Radix) → Walks cs e c todo out last → end ≡ last
walks_once cs e c todo out end (walked o) last k = sym (walks_as cs e c [] o last k)
walks_once cs e c todo out end (visits r others xs o between f v w) last k =
    let b : (ys : List Radix) × (after : List Radix) × Visited cs e c o r ys after × Walks cs e c (ys ++ others) after last = walks_as cs e c (r ∷ others) o last k in
    let same : (xs ≡ b.0) × (between ≡ b.1) = visited_once cs e c o r xs b.0 between b.1 v b.2 in
    let w' : Walks cs e c (xs ++ others) between last = subst (λ ys. Walks cs e c (ys ++ others) between last) (sym same.0) (subst (λ a. Walks cs e c (b.0 ++ others) a last) (sym same.1) b.3) in
    walks_once cs e c (xs ++ others) between f w last w'

-- what an application begins with, by its symbol's kind
abbrev SelectorAs : List Clause → Environment → Context → Sym → List Term → List Radix → Type 0
SelectorAs cs e c s [] xs = xs ≡ []
SelectorAs cs e c s (t ∷ []) xs = (members : List Radix) × (o : Option Radix) × IsChain cs e c t members × FirstGives cs c.constants e.structures s t members o × (xs ≡ radix_if_any o)
SelectorAs cs e c s (t ∷ u ∷ ts) xs = xs ≡ []

abbrev ApplicationAs : List Clause → Environment → Context → Sym → List Term → Kind → List Radix → Type 0
ApplicationAs cs e c s ts kind.Mode xs = xs ≡ []
ApplicationAs cs e c s ts kind.Structure xs = xs ≡ []
ApplicationAs cs e c s ts kind.Attribute xs = xs ≡ []
ApplicationAs cs e c s ts kind.Functor xs = (ys : List Radix) × RowsAdd cs c.constants s ts e.functors ys × (xs ≡ reverse ys)
ApplicationAs cs e c s ts kind.Selector xs = SelectorAs cs e c s ts xs
ApplicationAs cs e c s ts kind.Aggregate xs = (o : Option Radix) × AggregateGives cs c.constants e.structures s ts o × (xs ≡ radix_if_any o)
ApplicationAs cs e c s ts kind.Predicate xs = xs ≡ []
ApplicationAs cs e c s ts kind.LetterFunctor xs = (ys : List Radix) × RowsAdd cs c.constants s ts (rows_of_letters c.letters) ys × (xs ≡ reverse ys)
ApplicationAs cs e c s ts kind.LetterPredicate xs = xs ≡ []

abbrev ConstantAs : Option Constant → List Radix → Type 0
ConstantAs None xs = xs ≡ []
ConstantAs (Some k) xs = xs ≡ k.ty.radix ∷ []

abbrev BeginsAs : List Clause → Environment → Context → Term → List Radix → Type 0
BeginsAs cs e c (Bound i) xs = xs ≡ []
BeginsAs cs e c (Const n) xs = ConstantAs (constant_at c n) xs
BeginsAs cs e c (App s ts) xs = ApplicationAs cs e c s (list_of ts) s.kind xs

back : (cs : List Clause) (e : Environment) (c : Context) (s : Sym) (ts : List Term) (k : Kind) (xs : List Radix) → s.kind ≡ k → ApplicationAs cs e c s ts k xs → BeginsAs cs e c (App s (terms_of ts)) xs
back cs e c s ts k xs h a = subst (λ us. ApplicationAs cs e c s us s.kind xs) (sym (list_of-terms_of ts)) (subst (λ j. ApplicationAs cs e c s ts j xs) (sym h) a)

none_given : (cs : List Clause) (e : Environment) (c : Context) (s : Sym) (ts : List Term) (k : Kind) → has_no_radix k ≡ true → ApplicationAs cs e c s ts k []
none_given cs e c s ts kind.Mode h = refl
none_given cs e c s ts kind.Structure h = refl
none_given cs e c s ts kind.Attribute h = refl
none_given cs e c s ts kind.Functor h = absurd (not_both (has_no_radix kind.Functor) refl h)
none_given cs e c s ts kind.Selector h = absurd (not_both (has_no_radix kind.Selector) refl h)
none_given cs e c s ts kind.Aggregate h = absurd (not_both (has_no_radix kind.Aggregate) refl h)
none_given cs e c s ts kind.Predicate h = refl
none_given cs e c s ts kind.LetterFunctor h = absurd (not_both (has_no_radix kind.LetterFunctor) refl h)
none_given cs e c s ts kind.LetterPredicate h = refl

no_single : (cs : List Clause) (e : Environment) (c : Context) (s : Sym) (ts : List Term) → ¬ (length ts ≡ 1) → SelectorAs cs e c s ts []
no_single cs e c s [] n = refl
no_single cs e c s (t ∷ []) n = absurd (n refl)
no_single cs e c s (t ∷ u ∷ ts) n = refl

begins_as : (cs : List Clause) (e : Environment) (c : Context) (t : Term) (xs : List Radix) → Begins cs e c t xs → BeginsAs cs e c t xs
begins_as cs e c t xs (ch.constant n k h) = subst (λ o. ConstantAs o (k.ty.radix ∷ [])) (sym h) refl
begins_as cs e c t xs (ch.no_constant n h) = subst (λ o. ConstantAs o []) (sym h) refl
begins_as cs e c t xs (ch.index i) = refl
begins_as cs e c t xs (ch.functor s ts ys h k) = back cs e c s ts kind.Functor (reverse ys) h (ys, k, refl)
begins_as cs e c t xs (ch.letter s ts ys h k) = back cs e c s ts kind.LetterFunctor (reverse ys) h (ys, k, refl)
begins_as cs e c t xs (ch.aggregate s ts o h k) = back cs e c s ts kind.Aggregate (radix_if_any o) h (o, k, refl)
begins_as cs e c t xs (ch.selector s u members o h k f) = back cs e c s (u ∷ []) kind.Selector (radix_if_any o) h (members, o, k, f, refl)
begins_as cs e c t xs (ch.no_selection s ts h n) = back cs e c s ts kind.Selector [] h (no_single cs e c s ts n)
begins_as cs e c t xs (ch.other s ts h) = back cs e c s ts s.kind [] refl (none_given cs e c s ts s.kind h)

forth : (cs : List Clause) (e : Environment) (c : Context) (s : Sym) (ts : List Term) (k : Kind) (xs : List Radix) → s.kind ≡ k → BeginsAs cs e c (App s (terms_of ts)) xs → ApplicationAs cs e c s ts k xs
forth cs e c s ts k xs h a = subst (λ j. ApplicationAs cs e c s ts j xs) h (subst (λ us. ApplicationAs cs e c s us s.kind xs) (list_of-terms_of ts) a)

constant_once : (o : Option Constant) (xs ys : List Radix) → ConstantAs o xs → ConstantAs o ys → xs ≡ ys
constant_once None xs ys h k = h ∙ sym k
constant_once (Some c) xs ys h k = h ∙ sym k

chain_as : (cs : List Clause) (e : Environment) (c : Context) (t : Term) (rs : List Radix) → IsChain cs e c t rs → (f : List Radix) × (o : List Radix) × Begins cs e c t f × Walks cs e c f [] o × (rs ≡ o ++ chain_end)
chain_as cs e c t rs (chain_of u first out h w) = (first, out, h, w, refl)

none_once : (cs : List Clause) (e : Environment) (c : Context) (s : Sym) (ts : List Term) → ¬ (length ts ≡ 1) → (ys : List Radix) → SelectorAs cs e c s ts ys → [] ≡ ys
none_once cs e c s [] n ys h = sym h
none_once cs e c s (t ∷ []) n ys h = absurd (n refl)
none_once cs e c s (t ∷ u ∷ ts) n ys h = sym h

nothing_once : (cs : List Clause) (e : Environment) (c : Context) (s : Sym) (ts : List Term) (k : Kind) → has_no_radix k ≡ true → (ys : List Radix) → ApplicationAs cs e c s ts k ys → [] ≡ ys
nothing_once cs e c s ts kind.Mode h ys a = sym a
nothing_once cs e c s ts kind.Structure h ys a = sym a
nothing_once cs e c s ts kind.Attribute h ys a = sym a
nothing_once cs e c s ts kind.Functor h ys a = absurd (not_both (has_no_radix kind.Functor) refl h)
nothing_once cs e c s ts kind.Selector h ys a = absurd (not_both (has_no_radix kind.Selector) refl h)
nothing_once cs e c s ts kind.Aggregate h ys a = absurd (not_both (has_no_radix kind.Aggregate) refl h)
nothing_once cs e c s ts kind.Predicate h ys a = sym a
nothing_once cs e c s ts kind.LetterFunctor h ys a = absurd (not_both (has_no_radix kind.LetterFunctor) refl h)
nothing_once cs e c s ts kind.LetterPredicate h ys a = sym a

mutual
  begins_once : (cs : List Clause) (e : Environment) (c : Context) (t : Term) (xs : List Radix) → Begins cs e c t xs → (ys : List Radix) → Begins cs e c t ys → xs ≡ ys
  begins_once cs e c t xs (ch.constant n k h) ys b = constant_once (constant_at c n) (k.ty.radix ∷ []) ys (subst (λ o. ConstantAs o (k.ty.radix ∷ [])) (sym h) refl) (begins_as cs e c (Const n) ys b)
  begins_once cs e c t xs (ch.no_constant n h) ys b = constant_once (constant_at c n) [] ys (subst (λ o. ConstantAs o []) (sym h) refl) (begins_as cs e c (Const n) ys b)
  begins_once cs e c t xs (ch.index i) ys b = sym (begins_as cs e c (Bound i) ys b)
  begins_once cs e c t xs (ch.functor s ts us h k) ys b =
      let a : (vs : List Radix) × RowsAdd cs c.constants s ts e.functors vs × (ys ≡ reverse vs) = forth cs e c s ts kind.Functor ys h (begins_as cs e c (App s (terms_of ts)) ys b) in
      ap reverse (rows_once cs c.constants s ts e.functors us a.0 k a.1) ∙ sym a.2
  begins_once cs e c t xs (ch.letter s ts us h k) ys b =
      let a : (vs : List Radix) × RowsAdd cs c.constants s ts (rows_of_letters c.letters) vs × (ys ≡ reverse vs) = forth cs e c s ts kind.LetterFunctor ys h (begins_as cs e c (App s (terms_of ts)) ys b) in
      ap reverse (rows_once cs c.constants s ts (rows_of_letters c.letters) us a.0 k a.1) ∙ sym a.2
  begins_once cs e c t xs (ch.aggregate s ts o h k) ys b =
      let a : (p : Option Radix) × AggregateGives cs c.constants e.structures s ts p × (ys ≡ radix_if_any p) = forth cs e c s ts kind.Aggregate ys h (begins_as cs e c (App s (terms_of ts)) ys b) in
      ap radix_if_any (aggregate_once cs c.constants e.structures s ts o a.0 k a.1) ∙ sym a.2
  begins_once cs e c t xs (ch.selector s u members o h k f) ys b =
      let a : (ms : List Radix) × (p : Option Radix) × IsChain cs e c u ms × FirstGives cs c.constants e.structures s u ms p × (ys ≡ radix_if_any p) = forth cs e c s (u ∷ []) kind.Selector ys h (begins_as cs e c (App s (terms_of (u ∷ []))) ys b) in
      let same : members ≡ a.0 = chain_once cs e c u members k a.0 a.2 in
      ap radix_if_any (first_once cs c.constants e.structures s u members o a.1 f (subst (λ ms. FirstGives cs c.constants e.structures s u ms a.1) (sym same) a.3)) ∙ sym a.4
  begins_once cs e c t xs (ch.no_selection s ts h n) ys b = none_once cs e c s ts n ys (forth cs e c s ts kind.Selector ys h (begins_as cs e c (App s (terms_of ts)) ys b))
  begins_once cs e c t xs (ch.other s ts h) ys b = nothing_once cs e c s ts s.kind h ys (forth cs e c s ts s.kind ys refl (begins_as cs e c (App s (terms_of ts)) ys b))

  chain_once : (cs : List Clause) (e : Environment) (c : Context) (t : Term) (rs : List Radix) → IsChain cs e c t rs → (qs : List Radix) → IsChain cs e c t qs → rs ≡ qs
  chain_once cs e c t rs (chain_of u first out h w) qs k =
      let a : (f : List Radix) × (o : List Radix) × Begins cs e c u f × Walks cs e c f [] o × (qs ≡ o ++ chain_end) = chain_as cs e c u qs k in
      let same : first ≡ a.0 = begins_once cs e c u first h a.0 a.2 in
      let ends : out ≡ a.1 = walks_once cs e c first [] out w a.1 (subst (λ f. Walks cs e c f [] a.1) (sym same) a.3) in
      ap (λ o. o ++ chain_end) ends ∙ sym a.4

pub one_chain_law : OneChainLaw
one_chain_law cs e c t rs qs h k = chain_once cs e c t rs h qs k
