-- The rows of a table with one row more.
use Rattle.std.proofs.Common.{◌≡◌, ◌<◌, ◌+◌, ◌⊎◌, inl, inr, ℕ, zero, suc, List, [], ◌∷◌, ◌++◌, length, set, refl, arith, ap, sym, ◌∙◌, subst, Bool, true, false}
use Rattle.std.specs.Prelude.{if◌then◌else◌, slice_index_or, Some, None, Option}
use Rattle.std.specs.BTreeMap.{is_at}
use Rattle.std.specs.Map.{lookup}
use Rattle.std.proofs.lemmas.Bool.Decides.{eqb_tells}
use Rattle.std.specs.Ordering.{nat_cmp}
use Rattle.mz_match.specs.Heads.{same_head, number_of}
use Rattle.mz_match.specs.Rows.{SomeOf}
use Rattle.mz_match.specs.Table.{rows_in, count_in, group_of, groups_at, groups_in, rows_at, HasNoGroup, IsGroupAt, NoneBefore, IsAdded, IsAddedWhere, GroupsGrow, Grows}
use Rattle.mz_match.specs.declared.row.Head.{Head}
use Rattle.mz_match.specs.declared.row.Row.{Row}
use Rattle.mz_match.specs.declared.table.Group.{Group}
use Rattle.mz_match.specs.declared.rows.Rows.{Rows}
use Rattle.mz_match.specs.declared.table.Table.{Table}
use Rattle.mz_match.proofs.HeadLemmas.{same_head-true, same_head-self}

pub none_more : (h : Head) (gs : List Group) (i : ℕ) (g : Group) → i < length gs → g ≡ slice_index_or gs i g → same_head g.head h ≡ false → NoneBefore h gs i → NoneBefore h gs (suc i)
none_more h [] i g lt e n b = absurd (omega arith)
none_more h (k ∷ gs) zero g lt e n b = (subst (λ (x : Group). same_head x.head h ≡ false) e n, tt)
none_more h (k ∷ gs) (suc i) g lt e n b = (b.0, none_more h gs i g (omega arith) e n b.1)

pub group_at : (h : Head) (gs : List Group) (i : ℕ) (g : Group) → i < length gs → g ≡ slice_index_or gs i g → same_head g.head h ≡ true → NoneBefore h gs i → IsGroupAt h gs i
group_at h [] i g lt e n b = absurd (omega arith)
group_at h (k ∷ gs) zero g lt e n b = subst (λ (x : Group). same_head x.head h ≡ true) e n
group_at h (k ∷ gs) (suc i) g lt e n b = (b.0, group_at h gs i g (omega arith) e n b.1)

pub at_within : (h : Head) (gs : List Group) (i : ℕ) → IsGroupAt h gs i → i < length gs
at_within h [] i a = absurd a
at_within h (k ∷ gs) zero a = omega arith
at_within h (k ∷ gs) (suc i) a = omega (arith, at_within h gs i a.1)

pub none_all : (h : Head) (gs : List Group) (i : ℕ) → i ≡ length gs → NoneBefore h gs i → HasNoGroup h gs
none_all h [] i e b = tt
none_all h (k ∷ gs) zero e b = absurd (omega arith)
none_all h (k ∷ gs) (suc i) e b = (b.0, none_all h gs i (omega arith) b.1)

true_false : (b : Bool) → b ≡ true → b ≡ false → ⊥
true_false b h k = cc

bool_cases : (b : Bool) → (b ≡ true) ⊎ (b ≡ false)
bool_cases true = inl refl
bool_cases false = inr refl

-- a head that is another group's is not the group's
apart : (g h q : Head) → same_head g h ≡ false → same_head g q ≡ true → same_head h q ≡ false
apart g h q n e =
    elim (bool_cases (same_head h q)) [
      | inl a ↦
          let x : g ≡ q = same_head-true g q e in
          let y : h ≡ q = same_head-true h q a in
          absurd (true_false (same_head g h) (subst (λ (z : Head). same_head g z ≡ true) (x ∙ sym y) (same_head-self g)) n)
      | inr a ↦ a
    ]

skipped : (b c : Bool) (x : Rows) (y z : Option Rows) (r : Row) → (b ≡ true → c ≡ false) → IsAddedWhere c r y z → IsAddedWhere c r (if b then Some x else y) (if b then Some x else z)
skipped true true x y z r f a = absurd (true_false true refl (f refl))
skipped true false x y z r f a = refl
skipped false c x y z r f a = a

changed : (b : Bool) (x k : Rows) (y : Option Rows) (r : Row) → IsAdded r (Some x) (Some k) → IsAddedWhere b r (if b then Some x else y) (if b then Some k else y)
changed true x k y r a = a
changed false x k y r a = refl

grown_at : (h q : Head) (r : Row) (gs : List Group) (i : ℕ) (g k : Group) → IsGroupAt h gs i → g ≡ slice_index_or gs i g → k.head ≡ g.head → IsAdded r (Some g.rows) (Some k.rows) → IsAddedWhere (same_head h q) r (group_of q gs) (group_of q (set gs i k))
grown_at h q r [] i g k a e n m = absurd a
grown_at h q r (x ∷ gs) zero g k a e n m =
    let p : x.head ≡ h = same_head-true x.head h a in
    let o : k.head ≡ h = n ∙ ap (λ (y : Group). y.head) e ∙ p in
    let w : IsAdded r (Some x.rows) (Some k.rows) = subst (λ (y : Group). IsAdded r (Some y.rows) (Some k.rows)) e m in
    subst (λ (y : Head). IsAddedWhere (same_head h q) r (if same_head y q then Some x.rows else group_of q gs) (if same_head k.head q then Some k.rows else group_of q gs)) (sym p)
    (subst (λ (y : Head). IsAddedWhere (same_head h q) r (if same_head h q then Some x.rows else group_of q gs) (if same_head y q then Some k.rows else group_of q gs)) (sym o)
    (changed (same_head h q) x.rows k.rows (group_of q gs) r w))
grown_at h q r (x ∷ gs) (suc i) g k a e n m =
    skipped (same_head x.head q) (same_head h q) x.rows (group_of q gs) (group_of q (set gs i k)) r (apart x.head h q a.0) (grown_at h q r gs i g k a.1 e n m)

same_before : (r : Row) (old other new : Option Rows) → rows_in old ≡ rows_in other → count_in old ≡ count_in other → IsAdded r old new → IsAdded r other new
same_before r old other new e c a =
    record {
      count = a.count ∙ ap (λ n. n + 1) c;
      rows = subst (λ (xs : List Row). (rows_in new ≡ xs ++ r ∷ []) ⊎ ((rows_in new ≡ xs) × SomeOf (λ x. (x.args.items ≡ r.args.items) × (x.value ≡ r.value)) xs)) e a.rows;
    }

new_at : (b : Bool) (k : Rows) (r : Row) → IsAdded r None (Some k) → IsAddedWhere b r None (if b then Some k else None)
new_at true k r a = a
new_at false k r a = refl

grown_end : (h q : Head) (r : Row) (gs : List Group) (k : Group) → HasNoGroup h gs → k.head ≡ h → IsAdded r None (Some k.rows) → IsAddedWhere (same_head h q) r (group_of q gs) (group_of q (gs ++ k ∷ []))
grown_end h q r [] k a n m = subst (λ (y : Head). IsAddedWhere (same_head h q) r None (if same_head y q then Some k.rows else None)) (sym n) (new_at (same_head h q) k.rows r m)
grown_end h q r (x ∷ gs) k a n m =
    skipped (same_head x.head q) (same_head h q) x.rows (group_of q gs) (group_of q (gs ++ k ∷ [])) r (apart x.head h q a.0) (grown_end h q r gs k a.1 n m)

pub told_old : (h : Head) (r : Row) (gs ks : List Group) (i : ℕ) (g k : Group) → IsGroupAt h gs i → g ≡ slice_index_or gs i g → k.head ≡ g.head → IsAdded r (Some g.rows) (Some k.rows) → ks ≡ set gs i k → GroupsGrow h r gs ks
unfolding GroupsGrow
told_old h r gs ks i g k a e n m s = λ q. subst (λ (xs : List Group). IsAddedWhere (same_head h q) r (group_of q gs) (group_of q xs)) (sym s) (grown_at h q r gs i g k a e n m)

pub told_new : (h : Head) (r : Row) (gs ks : List Group) (o : Rows) (k : Group) → HasNoGroup h gs → k.head ≡ h → o.items.items ≡ [] → o.count ≡ 0 → IsAdded r (Some o) (Some k.rows) → ks ≡ gs ++ k ∷ [] → GroupsGrow h r gs ks
unfolding GroupsGrow
told_new h r gs ks o k a n e c m s = λ q. subst (λ (xs : List Group). IsAddedWhere (same_head h q) r (group_of q gs) (group_of q xs)) (sym s) (grown_end h q r gs k a n (same_before r (Some o) None (Some k.rows) e c m))

pub ruleset group_rules = (told_old, told_new)

-- the whole table
head_apart : (h q : Head) → (number_of h ≡ number_of q → ⊥) → same_head h q ≡ false
head_apart h q n =
    elim (bool_cases (same_head h q)) [
      | inl a ↦ absurd (n (ap number_of (same_head-true h q a)))
      | inr a ↦ a
    ]

pub told_grown : (h : Head) (r : Row) (table mid next : Table) (number : ℕ) (found groups : List Group) → number ≡ number_of h → found ≡ groups_at table.groups number → ((q : ℕ) → (q ≡ number → ⊥) → groups_at mid.groups q ≡ groups_at table.groups q) → GroupsGrow h r found groups → groups_at next.groups number ≡ groups → ((q : ℕ) → (q ≡ number → ⊥) → groups_at next.groups q ≡ groups_at mid.groups q) → Grows h r table next
unfolding GroupsGrow Grows rows_at
told_grown h r table mid next number found groups e f others g n more q =
    elim (eqb_tells number (number_of q)) [
      | inl a ↦
          subst (λ (k : ℕ). IsAddedWhere (same_head h q) r (group_of q (groups_at table.groups k)) (group_of q (groups_at next.groups k))) a.1
          (subst (λ (gs : List Group). IsAddedWhere (same_head h q) r (group_of q gs) (group_of q (groups_at next.groups number))) f
          (subst (λ (gs : List Group). IsAddedWhere (same_head h q) r (group_of q found) (group_of q gs)) (sym n) (g q)))
      | inr a ↦
          let other : number_of q ≡ number → ⊥ = λ o. a.1 (sym o) in
          subst (λ (b : Bool). IsAddedWhere b r (group_of q (groups_at table.groups (number_of q))) (group_of q (groups_at next.groups (number_of q)))) (sym (head_apart h q (λ o. a.1 (e ∙ o))))
          (ap (group_of q) (more (number_of q) other ∙ others (number_of q) other))
    ]

pub ruleset table_rules = (told_grown)

-- a table without rows
pub rows_at-told_empty : (table : Table) → table.groups.entries ≡ [] → (h : Head) → rows_at table h ≡ None
unfolding rows_at
rows_at-told_empty table g h = ap (λ es. group_of h (groups_in (lookup (is_at (nat_cmp (number_of h))) es))) g

pub ruleset new_rules = (rows_at-told_empty)

suc-one_add : (i : ℕ) → suc i ≡ i + 1
suc-one_add i = omega arith

pub none_next : (h : Head) (gs : List Group) (i : ℕ) (g : Group) → i < length gs → g ≡ slice_index_or gs i g → same_head g.head h ≡ false → NoneBefore h gs i → NoneBefore h gs (i + 1)
none_next h gs i g lt e n b = subst (λ (k : ℕ). NoneBefore h gs k) (suc-one_add i) (none_more h gs i g lt e n b)

pub ruleset place_rules = (none_next, group_at, none_all)
