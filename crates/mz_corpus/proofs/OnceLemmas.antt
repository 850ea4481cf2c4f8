-- There is one order.
use Rattle.std.proofs.Common.{◌≡◌, ℕ, ◌≤◌, false, List, [], ◌∷◌, ◌++◌, refl, sym, subst, ◌∙◌, arith}
use Rattle.std.specs.Prelude.{Contains}
use Rattle.mz_base.specs.declared.name.Name.{Name}
use Rattle.mz_base.proofs.NameEqual.{Name-equal}
use Rattle.mz_corpus.specs.Article.{Article}
use Rattle.mz_corpus.specs.Corpus.{names_of}
use Rattle.mz_corpus.specs.Names.{is_among}
use Rattle.mz_corpus.specs.Order.{IsFirstReady, NoneReady, Takes, end, take as take_first, IsOrder}
use Rattle.mz_corpus.specs.declared.ordering.Ordering.{Ordering}
use Rattle.mz_corpus.proofs.SortedLemmas.{RisesBy-pairs, one_sorted}

-- one turn

data Turn (c : List Article) (taken ms : List Name) : Type 0 where
  ended : ms ≡ [] → NoneReady c taken → Turn c taken ms
  went : (m : Name) (rest : List Name) → ms ≡ m ∷ rest → IsFirstReady c taken m → Takes c (taken ++ m ∷ []) rest → Turn c taken ms

turn_of : {c : List Article} {taken ms : List Name} → Takes c taken ms → Turn c taken ms
turn_of (end taken none) = ended refl none
turn_of (take_first taken ns n first more) = went n ns refl first more

below : (c : List Article) (taken : List Name) (n m : Name) → IsFirstReady c taken n → IsFirstReady c taken m → n.number ≤ m.number
below c taken n m first other = subst (λ x. n.number ≤ x.number) other.named (first.first other.article other.held other.ready)

one_first : (c : List Article) (taken : List Name) (n m : Name) → IsFirstReady c taken n → IsFirstReady c taken m → n ≡ m
one_first c taken n m first other =
    let a = below c taken n m first other in
    let b = below c taken m n other first in
    Name-equal n m (omega arith)

one_list : {c : List Article} {taken ns : List Name} → Takes c taken ns → (ms : List Name) → Takes c taken ms → ns ≡ ms
one_list (end taken none) ms k =
    elim (turn_of k) [ ended e other ↦ sym e | went m rest e first more ↦ absurd (none first.article first.held first.ready) ]
one_list {c = c} (take_first taken ns n first more) ms k =
    elim (turn_of k) [
      | ended e none ↦ absurd (none first.article first.held first.ready)
      | went m rest e other later ↦
          (let same : n ≡ m = one_first c taken n m first other in
          let tail : ns ≡ rest = one_list more rest (subst (λ x. Takes c (taken ++ x ∷ []) rest) (sym same) later) in
          (λ i. same i ∷ tail i) ∙ sym e)
    ]

-- the order and the rest

rest_in : (c : List Article) (o p : Ordering) → IsOrder c o → IsOrder c p → o.order ≡ p.order → (x : Name) → Contains o.rest x → Contains p.rest x
rest_in c o p h k e x m = let r = h.rest x m in k.all x r.0 (subst (λ ns. is_among ns x ≡ false) e r.1)

pub one_order : (c : List Article) (o p : Ordering) → IsOrder c o → IsOrder c p → o ≡ p
one_order c o p h k =
    let order : o.order ≡ p.order = one_list h.takes p.order k.takes in
    let rest : o.rest ≡ p.rest = one_sorted (λ n. n.number) o.rest p.rest (RisesBy-pairs (λ n. n.number) o.rest h.rest_ascending) (RisesBy-pairs (λ n. n.number) p.rest k.rest_ascending) (rest_in c o p h k order) (rest_in c p o k h (sym order)) in
    λ i. record { order = order i; rest = rest i }
