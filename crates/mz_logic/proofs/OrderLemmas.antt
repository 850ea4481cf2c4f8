-- The order of terms is that of their codes, lists of numbers; a turn of the comparison of lists.
use Rattle.std.proofs.Common.{◌≡◌, ℕ, suc, ◌+◌, ◌<◌, ◌≤◌, List, [], ◌∷◌, ◌++◌, refl, ap, sym, ◌∙◌, subst, append_assoc, drop, get_or, length, add-one, drop-cons}
use Rattle.std.proofs.lemmas.List.{drop_all}
use Rattle.std.specs.declared.cmp.Ordering.{Ordering}
use Rattle.std.specs.declared.cmp.Ordering.TheVariants.{Less, Equal, Greater}
use Rattle.std.specs.Ordering.{MatchOrdering, nat_cmp, on, ordering_then}
use Rattle.std.specs.Cmp.{IsTotalOrder}
use Rattle.std.specs.Cmp.Lexicographic.{slice_cmp}
use Rattle.std.proofs.lemmas.Cmp.{on_total, nat_list_cmp_total, ranked}
use Rattle.mz_logic.specs.declared.sym.Sym.{Sym}
use Rattle.mz_logic.specs.Sym.{kind_number}
use Rattle.mz_logic.specs.Term.{Term, Terms, Bound, Const, App, none, more, terms_of}
use Rattle.mz_logic.specs.Order.{sym_cmp, term_cmp, args_cmp, terms_cmp}
use Rattle.mz_logic.proofs.SymLemmas.{kind_number-inj}

abbrev c : List ℕ → List ℕ → Ordering
c = slice_cmp nat_cmp

pub then_end : (o : Ordering) → ordering_then o Equal ≡ o
then_end Less = refl
then_end Equal = refl
then_end Greater = refl

then_assoc : (o p q : Ordering) → ordering_then o (ordering_then p q) ≡ ordering_then (ordering_then o p) q
then_assoc Less p q = refl
then_assoc Equal p q = refl
then_assoc Greater p q = refl

then_assoc3 : (o p q s : Ordering) → ordering_then o (ordering_then p (ordering_then q s)) ≡ ordering_then (ordering_then o (ordering_then p q)) s
then_assoc3 Less p q s = refl
then_assoc3 Greater p q s = refl
then_assoc3 Equal p q s = then_assoc p q s

then_assoc4 : (o p q r s : Ordering) → ordering_then o (ordering_then p (ordering_then q (ordering_then r s))) ≡ ordering_then (ordering_then o (ordering_then p (ordering_then q r))) s
then_assoc4 Less p q r s = refl
then_assoc4 Greater p q r s = refl
then_assoc4 Equal p q r s = then_assoc3 p q r s

-- codes, each of which tells its end
abbrev mutual
  code : Term → List ℕ
  code (Bound n) = 0 ∷ n ∷ []
  code (Const n) = 1 ∷ n ∷ []
  code (App s ts) = 2 ∷ s.article ∷ kind_number s.kind ∷ s.number ∷ args_code ts

  args_code : Terms → List ℕ
  args_code none = 0 ∷ []
  args_code (more t ts) = 1 ∷ (code t ++ args_code ts)

mutual
  term_front : (t u : Term) (r q : List ℕ) → c (code t ++ r) (code u ++ q) ≡ ordering_then (c (code t) (code u)) (c r q)
  term_front (Bound m) (Bound n) r q = ap (λ o. ordering_then o (c r q)) (sym (then_end (nat_cmp m n)))
  term_front (Bound m) (Const n) r q = refl
  term_front (Bound m) (App v us) r q = refl
  term_front (Const m) (Bound n) r q = refl
  term_front (Const m) (Const n) r q = ap (λ o. ordering_then o (c r q)) (sym (then_end (nat_cmp m n)))
  term_front (Const m) (App v us) r q = refl
  term_front (App s ts) (Bound n) r q = refl
  term_front (App s ts) (Const n) r q = refl
  term_front (App s ts) (App v us) r q =
      ap (λ o. ordering_then (nat_cmp s.article v.article) (ordering_then (nat_cmp (kind_number s.kind) (kind_number v.kind)) (ordering_then (nat_cmp s.number v.number) o))) (args_front ts us r q)
      ∙ then_assoc4 (nat_cmp s.article v.article) (nat_cmp (kind_number s.kind) (kind_number v.kind)) (nat_cmp s.number v.number) (c (args_code ts) (args_code us)) (c r q)

  args_front : (ts us : Terms) (r q : List ℕ) → c (args_code ts ++ r) (args_code us ++ q) ≡ ordering_then (c (args_code ts) (args_code us)) (c r q)
  args_front none none r q = refl
  args_front none (more u us) r q = refl
  args_front (more t ts) none r q = refl
  args_front (more t ts) (more u us) r q =
      rw (append_assoc (code t) (args_code ts) r, append_assoc (code u) (args_code us) q)
      (term_front t u (args_code ts ++ r) (args_code us ++ q)
      ∙ ap (λ o. ordering_then (c (code t) (code u)) o) (args_front ts us r q)
      ∙ then_assoc (c (code t) (code u)) (c (args_code ts) (args_code us)) (c r q)
      ∙ ap (λ o. ordering_then o (c r q)) (sym (term_front t u (args_code ts) (args_code us))))

mutual
  unfolding term_cmp args_cmp

  term_cmp-code : (t u : Term) → term_cmp t u ≡ c (code t) (code u)
  term_cmp-code (Bound m) (Bound n) = sym (then_end (nat_cmp m n))
  term_cmp-code (Bound m) (Const n) = refl
  term_cmp-code (Bound m) (App s us) = refl
  term_cmp-code (Const m) (Bound n) = refl
  term_cmp-code (Const m) (Const n) = sym (then_end (nat_cmp m n))
  term_cmp-code (Const m) (App s us) = refl
  term_cmp-code (App r ts) (Bound n) = refl
  term_cmp-code (App r ts) (Const n) = refl
  term_cmp-code (App r ts) (App s us) =
      ap (λ o. ordering_then (sym_cmp r s) o) (args_cmp-code ts us)
      ∙ sym (then_assoc3 (nat_cmp r.article s.article) (nat_cmp (kind_number r.kind) (kind_number s.kind)) (nat_cmp r.number s.number) (c (args_code ts) (args_code us)))

  args_cmp-code : (ts us : Terms) → args_cmp ts us ≡ c (args_code ts) (args_code us)
  args_cmp-code none none = refl
  args_cmp-code none (more u us) = refl
  args_cmp-code (more t ts) none = refl
  args_cmp-code (more t ts) (more u us) =
      (λ i. ordering_then (term_cmp-code t u i) (args_cmp-code ts us i)) ∙ sym (term_front t u (args_code ts) (args_code us))

-- the order of terms is total
pub term_cmp_total : IsTotalOrder term_cmp
term_cmp_total =
    let same : term_cmp ≡ on code c = λ i t u. term_cmp-code t u i in
    subst IsTotalOrder (sym same) (on_total code nat_list_cmp_total)

-- equal terms alone compare as equal
abbrev IsEqual : Ordering → Type 0
IsEqual Less = ⊥
IsEqual Equal = Unit {0}
IsEqual Greater = ⊥

then_equal : (o p : Ordering) → ordering_then o p ≡ Equal → (o ≡ Equal) × (p ≡ Equal)
then_equal Less p h = absurd (subst IsEqual (sym h) tt)
then_equal Equal p h = (refl, h)
then_equal Greater p h = absurd (subst IsEqual (sym h) tt)

nat_same : (m n : ℕ) (o : Ordering) → MatchOrdering o (m < n) (m ≡ n) (n < m) → o ≡ Equal → m ≡ n
nat_same m n Less h e = absurd (subst IsEqual (sym e) tt)
nat_same m n Equal h e = h
nat_same m n Greater h e = absurd (subst IsEqual (sym e) tt)

nat_equal : (m n : ℕ) → nat_cmp m n ≡ Equal → m ≡ n
nat_equal m n e = nat_same m n (nat_cmp m n) (ranked m n (nat_cmp m n) refl) e

pub sym_cmp-Equal : (r s : Sym) → sym_cmp r s ≡ Equal → r ≡ s
sym_cmp-Equal r s e =
    let p : (nat_cmp r.article s.article ≡ Equal) × (ordering_then (nat_cmp (kind_number r.kind) (kind_number s.kind)) (nat_cmp r.number s.number) ≡ Equal) =
    then_equal (nat_cmp r.article s.article) (ordering_then (nat_cmp (kind_number r.kind) (kind_number s.kind)) (nat_cmp r.number s.number)) e in
    let q : (nat_cmp (kind_number r.kind) (kind_number s.kind) ≡ Equal) × (nat_cmp r.number s.number ≡ Equal) = then_equal (nat_cmp (kind_number r.kind) (kind_number s.kind)) (nat_cmp r.number s.number) p.1 in
    let article : r.article ≡ s.article = nat_equal r.article s.article p.0 in
    let kind : r.kind ≡ s.kind = kind_number-inj r.kind s.kind (nat_equal (kind_number r.kind) (kind_number s.kind) q.0) in
    let number : r.number ≡ s.number = nat_equal r.number s.number q.1 in
    λ i. record { article = article i; kind = kind i; number = number i }

mutual
  unfolding term_cmp args_cmp

  pub term_cmp-Equal : (t u : Term) → term_cmp t u ≡ Equal → t ≡ u
  term_cmp-Equal (Bound m) (Bound n) e = ap Bound (nat_equal m n e)
  term_cmp-Equal (Bound m) (Const n) e = absurd (subst IsEqual (sym e) tt)
  term_cmp-Equal (Bound m) (App s us) e = absurd (subst IsEqual (sym e) tt)
  term_cmp-Equal (Const m) (Bound n) e = absurd (subst IsEqual (sym e) tt)
  term_cmp-Equal (Const m) (Const n) e = ap Const (nat_equal m n e)
  term_cmp-Equal (Const m) (App s us) e = absurd (subst IsEqual (sym e) tt)
  term_cmp-Equal (App r ts) (Bound n) e = absurd (subst IsEqual (sym e) tt)
  term_cmp-Equal (App r ts) (Const n) e = absurd (subst IsEqual (sym e) tt)
  term_cmp-Equal (App r ts) (App s us) e =
      let p : (sym_cmp r s ≡ Equal) × (args_cmp ts us ≡ Equal) = then_equal (sym_cmp r s) (args_cmp ts us) e in
      λ i. App (sym_cmp-Equal r s p.0 i) (args_cmp-Equal ts us p.1 i)

  pub args_cmp-Equal : (ts us : Terms) → args_cmp ts us ≡ Equal → ts ≡ us
  args_cmp-Equal none none e = refl
  args_cmp-Equal none (more u us) e = absurd (subst IsEqual (sym e) tt)
  args_cmp-Equal (more t ts) none e = absurd (subst IsEqual (sym e) tt)
  args_cmp-Equal (more t ts) (more u us) e =
      let p : (term_cmp t u ≡ Equal) × (args_cmp ts us ≡ Equal) = then_equal (term_cmp t u) (args_cmp ts us) e in
      λ i. more (term_cmp-Equal t u p.0 i) (args_cmp-Equal ts us p.1 i)

pub terms_cmp-cons : (t u : Term) (ts us : List Term) → terms_cmp (t ∷ ts) (u ∷ us) ≡ ordering_then (term_cmp t u) (terms_cmp ts us)
unfolding terms_cmp args_cmp
terms_cmp-cons t u ts us = refl

pub terms_cmp-long : (t : Term) (ts : List Term) → terms_cmp (t ∷ ts) [] ≡ Greater
unfolding terms_cmp args_cmp
terms_cmp-long t ts = refl

pub terms_cmp-short : (u : Term) (us : List Term) → terms_cmp [] (u ∷ us) ≡ Less
unfolding terms_cmp args_cmp
terms_cmp-short u us = refl

pub terms_cmp-nil : terms_cmp [] [] ≡ Equal
unfolding terms_cmp args_cmp
terms_cmp-nil = refl

pub term_cmp-App : (r s : Sym) (ts us : List Term) → term_cmp (App r (terms_of ts)) (App s (terms_of us)) ≡ ordering_then (sym_cmp r s) (terms_cmp ts us)
unfolding term_cmp terms_cmp
term_cmp-App r s ts us = refl

-- a turn of the loop
pub terms_cmp-drop : (ts us : List Term) (i : ℕ) (t u : Term) → i < length ts → i < length us → t ≡ get_or ts i t → u ≡ get_or us i u → terms_cmp (drop i ts) (drop i us) ≡ ordering_then (term_cmp t u) (terms_cmp (drop (i + 1) ts) (drop (i + 1) us))
terms_cmp-drop ts us i t u a b et eu =
    rw (drop-cons ts i t a, drop-cons us i u b, ← et, ← eu, add-one) (terms_cmp-cons t u (drop (suc i) ts) (drop (suc i) us))

pub terms_cmp-past_right : (ts us : List Term) (i : ℕ) → i < length ts → length us ≤ i → terms_cmp (drop i ts) (drop i us) ≡ Greater
terms_cmp-past_right ts us i a b = rw (drop-cons ts i (Bound 0) a, drop_all i us b) (terms_cmp-long _ _)

pub terms_cmp-past_left : (ts us : List Term) (i : ℕ) → length ts ≤ i → i < length us → terms_cmp (drop i ts) (drop i us) ≡ Less
terms_cmp-past_left ts us i a b = rw (drop_all i ts a, drop-cons us i (Bound 0) b) (terms_cmp-short _ _)

pub terms_cmp-past_both : (ts us : List Term) (i : ℕ) → length ts ≤ i → length us ≤ i → terms_cmp (drop i ts) (drop i us) ≡ Equal
terms_cmp-past_both ts us i a b = rw (drop_all i ts a, drop_all i us b) terms_cmp-nil

-- an answer that isn't Equal stands
pub then_stands : (o p : Ordering) → (o ≡ Equal → ⊥) → ordering_then o p ≡ o
then_stands Less p h = refl
then_stands Equal p h = absurd (h refl)
then_stands Greater p h = refl

-- the loop stops at an answer that isn't Equal, and goes on at Equal
pub stops : (xs ys ts us : List Term) (i : ℕ) (t u : Term) (o : Ordering) → terms_cmp xs ys ≡ terms_cmp (drop i ts) (drop i us) → i < length ts → i < length us → t ≡ get_or ts i t → u ≡ get_or us i u → o ≡ term_cmp t u → (o ≡ Equal → ⊥) → o ≡ terms_cmp xs ys
stops xs ys ts us i t u o inv a b et eu e n =
    e ∙ sym (then_stands (term_cmp t u) (terms_cmp (drop (i + 1) ts) (drop (i + 1) us)) (λ q. n (e ∙ q))) ∙ sym (terms_cmp-drop ts us i t u a b et eu) ∙ sym inv

pub terms_cmp-goes_on : (xs ys ts us : List Term) (i : ℕ) (t u : Term) → terms_cmp xs ys ≡ terms_cmp (drop i ts) (drop i us) → i < length ts → i < length us → t ≡ get_or ts i t → u ≡ get_or us i u → Equal ≡ term_cmp t u → terms_cmp xs ys ≡ terms_cmp (drop (i + 1) ts) (drop (i + 1) us)
terms_cmp-goes_on xs ys ts us i t u inv a b et eu e =
    inv ∙ terms_cmp-drop ts us i t u a b et eu ∙ ap (λ o. ordering_then o (terms_cmp (drop (i + 1) ts) (drop (i + 1) us))) (sym e)

pub ruleset compare_rules = (then_end, term_cmp-App)

pub ruleset turn_rules = (terms_cmp-drop, terms_cmp-past_right, terms_cmp-past_left, terms_cmp-past_both, then_stands)
