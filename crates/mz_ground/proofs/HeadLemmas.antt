-- Places by hashes of heads, and where a trigger may stand.
use Rattle.std.proofs.Common.{◌≡◌, ◌<◌, ◌≤◌, ◌+◌, ◌%◌, ℕ, Bool, true, false, List, [], ◌∷◌, ◌++◌, length, map, refl, sym as inverse, ap, ◌∙◌, subst, arith, ◌⊎◌, inl, inr, Some, eq-eqb}
use Rattle.std.specs.Prelude.{Contains, slice_get, nat_eq, if◌then◌else◌}
use Rattle.std.proofs.lemmas.List.Elements.{Contains-append_left, Contains-push, Contains-push_cases}
use Rattle.std.proofs.lemmas.Option.{same_Some}
use Rattle.std.proofs.lemmas.Bool.{cases_lt}
use Rattle.mz_logic.specs.declared.sym.Sym.{Sym}
use Rattle.mz_logic.specs.Term as term
use Rattle.mz_logic.specs.Term.{Term, Bound, Terms}
use Rattle.mz_ground.specs.GroundExpression.{TermExpression, AtomExpression}
use Rattle.mz_logic.specs.Substitution.{substitute, substitute_args, value_at}
use Rattle.mz_ground.specs.Instance.{trigger_at}
use Rattle.mz_ground.specs.Ground.{term_at, term_of_entry, ground_terms, atom_expression}
use Rattle.mz_ground.specs.Table.{Extends}
use Rattle.mz_ground.specs.Growth.{IsNumbered}
use Rattle.mz_ground.specs.Instances.{expression_or_zero, expression_at, place_like, IsBetween, IsEndIn}
use Rattle.mz_ground.specs.Hash.{hash_with, hash_with_symbol}
use Rattle.mz_ground.specs.Heads.{head_hash, symbol_hash, list_at, places_of, AreByHash, AreFrom, AreTriggerPlaces, term_candidates, candidates}
use Rattle.mz_ground.specs.declared.trigger.Trigger.{Trigger}
use Rattle.mz_ground.specs.declared.trigger.Trigger.TheVariants as trigger
use Rattle.mz_ground.specs.declared.ground_part.Ground.{Ground}
use Rattle.mz_ground.specs.declared.ground_term.GroundTerm.{GroundTerm}
use Rattle.mz_ground.specs.declared.ground_term.GroundTerm.TheVariants as entry
use Rattle.mz_ground.specs.declared.ground_atom.GroundAtom.{GroundAtom}
use Rattle.mz_ground.specs.declared.trigger_places.TriggerPlaces.{TriggerPlaces}
use Rattle.mz_ground.proofs.ListLemmas.{contains_none, get_extended, get_some, get_map}
use Rattle.mz_ground.proofs.TableLemmas.{term_at-table_read, entry_at}

-- a list of places
pub from_none : (m : ℕ) (ks : List ℕ) → ks ≡ [] → AreFrom m m ks
from_none m ks e = record { listed = λ k le lt. absurd (omega (arith, le, lt)); only = λ k c. absurd (contains_none k (subst (λ (z : List ℕ). Contains z k) e c)) }

pub from_more : (m i : ℕ) (ks : List ℕ) → m ≤ i → AreFrom m i ks → AreFrom m (i + 1) (ks ++ i ∷ [])
from_more m i ks le h = record {
  listed = λ k from lt. elim (cases_lt k i) [
    | inl l ↦ Contains-append_left ks (i ∷ []) k (h.listed k from l)
    | inr l ↦ let e : i ≡ k = omega (arith, lt, l) in subst (λ (z : ℕ). Contains (ks ++ i ∷ []) z) e (Contains-push ks i)
  ];
  only = λ k c. elim (Contains-push_cases ks i k c) [
    | inl w ↦ let q = h.only k w in (q.0, omega (arith, q.1))
    | inr e ↦ (omega (arith, le, e), omega (arith, e))
  ];
}

pub from_end : (m i n : ℕ) (ks : List ℕ) → i ≡ n → AreFrom m i ks → AreFrom m n ks
from_end m i n ks e h = subst (λ (z : ℕ). AreFrom m z ks) e h

pub ruleset from_rules = (from_none, from_more)

-- lists of places by hashes
pub hash_none : {A : Type 0} (hash_of : A → ℕ) (items : List A) (m : ℕ) (lists : List (List ℕ)) → 0 < length lists → ((k : ℕ) → list_at lists k ≡ []) → AreByHash hash_of items m m lists
hash_none hash_of items m lists some empty = record {
  some = some;
  listed = λ k item le lt at. absurd (omega (arith, le, lt));
  only = λ hash k c. absurd (contains_none k (subst (λ (z : List ℕ). Contains z k) (empty (hash % length lists)) c));
}

abbrev OneMore : List (List ℕ) → ℕ → ℕ → List (List ℕ) → Type 0
OneMore old b i new = (k : ℕ) → list_at new k ≡ (if nat_eq k b then list_at old k ++ i ∷ [] else list_at old k)

list_cases : (old new : List (List ℕ)) (b i : ℕ) → OneMore old b i new → (j : ℕ) → (list_at new j ≡ list_at old j ++ i ∷ []) ⊎ (list_at new j ≡ list_at old j)
list_cases old new b i h j =
    let here : (c : Bool) → list_at new j ≡ (if c then list_at old j ++ i ∷ [] else list_at old j) → (list_at new j ≡ list_at old j ++ i ∷ []) ⊎ (list_at new j ≡ list_at old j) = elim [ true ↦ λ e. inl e | false ↦ λ e. inr e ] in
    here (nat_eq j b) (h j)

list_there : (old new : List (List ℕ)) (b i : ℕ) → OneMore old b i new → list_at new b ≡ list_at old b ++ i ∷ []
list_there old new b i h =
    let here : (c : Bool) → c ≡ true → (if c then list_at old b ++ i ∷ [] else list_at old b) ≡ list_at old b ++ i ∷ [] = elim [ true ↦ λ e. refl | false ↦ λ e. cc ] in
    h b ∙ here (nat_eq b b) (eq-eqb b b refl)

list_kept : (old new : List (List ℕ)) (b i j k : ℕ) → OneMore old b i new → Contains (list_at old j) k → Contains (list_at new j) k
list_kept old new b i j k h c =
    elim (list_cases old new b i h j) [
      | inl e ↦ subst (λ (z : List ℕ). Contains z k) (inverse e) (Contains-append_left (list_at old j) (i ∷ []) k c)
      | inr e ↦ subst (λ (z : List ℕ). Contains z k) (inverse e) c
    ]

list_from : (old new : List (List ℕ)) (b i j k : ℕ) → OneMore old b i new → Contains (list_at new j) k → Contains (list_at old j) k ⊎ (i ≡ k)
list_from old new b i j k h c =
    elim (list_cases old new b i h j) [
      | inl e ↦ Contains-push_cases (list_at old j) i k (subst (λ (z : List ℕ). Contains z k) e c)
      | inr e ↦ inl (subst (λ (z : List ℕ). Contains z k) e c)
    ]

pub hash_more : {A : Type 0} (hash_of : A → ℕ) (items : List A) (m i : ℕ) (old new : List (List ℕ)) (item : A) → m ≤ i → slice_get items i ≡ Some item → AreByHash hash_of items m i old → length new ≡ length old → OneMore old (hash_of item % length old) i new → AreByHash hash_of items m (i + 1) new
hash_more {A} hash_of items m i old new item le at h len one =
    let b : ℕ = hash_of item % length old in
    let there : (hash : ℕ) → places_of new hash ≡ list_at new (hash % length old) = λ hash. ap (λ (n : ℕ). list_at new (hash % n)) len in
    let last : Contains (places_of new (hash_of item)) i = subst (λ (z : List ℕ). Contains z i) (inverse (there (hash_of item) ∙ list_there old new b i one)) (Contains-push (list_at old b) i) in
    record {
      some = omega (arith, len, h.some);
      listed = λ k x from lt g. elim (cases_lt k i) [
        | inl l ↦ subst (λ (z : List ℕ). Contains z k) (inverse (there (hash_of x))) (list_kept old new b i (hash_of x % length old) k one (h.listed k x from l g))
        | inr l ↦
            let e : i ≡ k = omega (arith, lt, l) in
            let same : item ≡ x = same_Some item x (inverse at ∙ ap (slice_get items) e ∙ g) in
            subst (λ (z : A). Contains (places_of new (hash_of z)) k) same (subst (λ (z : ℕ). Contains (places_of new (hash_of item)) z) e last)
      ];
      only = λ hash k c. elim (list_from old new b i (hash % length old) k one (subst (λ (z : List ℕ). Contains z k) (there hash) c)) [
        | inl w ↦ let q = h.only hash k w in (q.0, omega (arith, q.1))
        | inr e ↦ (omega (arith, le, e), omega (arith, e))
      ];
    }

-- the same, where the hash was computed
pub told_hash : {A : Type 0} (hash_of : A → ℕ) (items : List A) (m i hash : ℕ) (old new : List (List ℕ)) (item : A) → m ≤ i → slice_get items i ≡ Some item → hash ≡ hash_of item → AreByHash hash_of items m i old → length new ≡ length old → OneMore old (hash % length old) i new → AreByHash hash_of items m (i + 1) new
told_hash hash_of items m i hash old new item le at e h len one = hash_more hash_of items m i old new item le at h len (subst (λ (z : ℕ). OneMore old (z % length old) i new) e one)

pub hash_end : {A : Type 0} (hash_of : A → ℕ) (items : List A) (m i n : ℕ) (lists : List (List ℕ)) → i ≡ n → AreByHash hash_of items m i lists → AreByHash hash_of items m n lists
hash_end hash_of items m i n lists e h = subst (λ (z : ℕ). AreByHash hash_of items m z lists) e h

pub ruleset hash_rules = (hash_none)

hash_kept : {A : Type 0} (hash_of : A → ℕ) (xs ys : List A) (m n : ℕ) (lists : List (List ℕ)) → Extends xs ys → n ≤ length xs → AreByHash hash_of xs m n lists → AreByHash hash_of ys m n lists
hash_kept hash_of xs ys m n lists p le h = record {
  some = h.some;
  listed = λ k x from lt at. h.listed k x from lt (inverse (get_extended xs ys k p (omega (arith, lt, le))) ∙ at);
  only = h.only;
}

pub trigger_places_kept : (g h : Ground) (x : TriggerPlaces) → Extends g.terms h.terms → Extends g.atoms h.atoms → IsEndIn g x.end → AreTriggerPlaces g x → AreTriggerPlaces h x
trigger_places_kept g h x p q w f = record {
  all = f.all;
  terms = hash_kept head_hash g.terms h.terms x.start.terms x.end.terms x.terms p w.terms f.terms;
  atoms = hash_kept symbol_hash g.atoms h.atoms x.start.atoms x.end.atoms x.atoms q w.atoms f.atoms;
}

-- where a trigger may stand
term_only : (g : Ground) (x : TriggerPlaces) → AreTriggerPlaces g x → (t : Term) (k : ℕ) → Contains (term_candidates x t) k → (x.start.terms ≤ k) × (k < x.end.terms)
term_only g x f (Bound i) k c = f.all.only k c
term_only g x f (term.Const n) k c = f.terms.only (hash_with 0 n) k c
term_only g x f (term.App s us) k c = f.terms.only (hash_with_symbol 1 s) k c

pub candidates_only : (g : Ground) (x : TriggerPlaces) → AreTriggerPlaces g x → (r : Trigger) (k : ℕ) → Contains (candidates x r) k → IsBetween x.start x.end (place_like r k)
candidates_only g x f (trigger.Term t) k c = term_only g x f t k c
candidates_only g x f (trigger.Atom s us) k c = f.atoms.only (hash_with_symbol 0 s) k c

constant_head : (b : List Term) (e : GroundTerm) (m : ℕ) → term.Const m ≡ term_of_entry b e → head_hash e ≡ hash_with 0 m
constant_head b (entry.Const n) m q = let r : n ≡ m = cc in ap (hash_with 0) r
constant_head b (entry.App s args) m q = cc

applied_head : (b : List Term) (e : GroundTerm) (s : Sym) (us : Terms) → term.App s us ≡ term_of_entry b e → head_hash e ≡ hash_with_symbol 1 s
applied_head b (entry.Const n) s us q = cc
applied_head b (entry.App r args) s us q = let p : r ≡ s = cc in ap (hash_with_symbol 1) p

term_entry : (g : Ground) → IsNumbered g → (k : ℕ) → k < length g.terms → (e : GroundTerm) × (slice_get g.terms k ≡ Some e) × (term_at (ground_terms g) k ≡ term_of_entry (ground_terms g) e)
term_entry g n k lt = let q = entry_at g.terms k lt in (q.0, q.1, term_at-table_read g.terms n.table k q.0 q.1)

same_term : (t u : Term) → TermExpression t ≡ TermExpression u → t ≡ u
same_term t u e = cc

term_listed : (g : Ground) (x : TriggerPlaces) → IsNumbered g → IsEndIn g x.end → AreTriggerPlaces g x → (ts : List Term) (t : Term) (k : ℕ) → x.start.terms ≤ k → k < x.end.terms → substitute 0 (value_at ts) t ≡ term_at (ground_terms g) k → Contains (term_candidates x t) k
term_listed g x n w f ts (Bound i) k from lt e = f.all.listed k from lt
term_listed g x n w f ts (term.Const m) k from lt e =
    let q = term_entry g n k (omega (arith, lt, w.terms)) in
    subst (λ (z : ℕ). Contains (places_of x.terms z) k) (constant_head (ground_terms g) q.0 m (e ∙ q.2)) (f.terms.listed k q.0 from lt q.1)
term_listed g x n w f ts (term.App s us) k from lt e =
    let q = term_entry g n k (omega (arith, lt, w.terms)) in
    subst (λ (z : ℕ). Contains (places_of x.terms z) k) (applied_head (ground_terms g) q.0 s (substitute_args 0 (value_at ts) us) (e ∙ q.2)) (f.terms.listed k q.0 from lt q.1)

same_symbol : (r s : Sym) (ts us : List Term) → AtomExpression s ts ≡ AtomExpression r us → r ≡ s
same_symbol r s ts us e = cc

pub candidates_listed : (g : Ground) (x : TriggerPlaces) → IsNumbered g → IsEndIn g x.end → AreTriggerPlaces g x → (ts : List Term) (r : Trigger) (k : ℕ) → IsBetween x.start x.end (place_like r k) → trigger_at ts r ≡ expression_at g (place_like r k) → Contains (candidates x r) k
candidates_listed g x n w f ts (trigger.Term t) k b e = term_listed g x n w f ts t k b.0 b.1 (same_term (substitute 0 (value_at ts) t) (term_at (ground_terms g) k) e)
candidates_listed g x n w f ts (trigger.Atom s us) k b e =
    let q = get_some g.atoms k (omega (arith, b.1, w.atoms)) in
    let a : GroundAtom = q.0 in
    let there : AtomExpression s (map (substitute 0 (value_at ts)) us) ≡ AtomExpression a.sym (map (term_at (ground_terms g)) a.args) = e ∙ ap expression_or_zero (get_map (atom_expression (ground_terms g)) g.atoms k a q.1) in
    subst (λ (z : Sym). Contains (places_of x.atoms (hash_with_symbol 0 z)) k) (same_symbol a.sym s (map (substitute 0 (value_at ts)) us) (map (term_at (ground_terms g)) a.args) there) (f.atoms.listed k a b.0 b.1 q.1)
