-- The groups of a table with one entry more.
use Rattle.std.proofs.Common.{◌≡◌, List, [], ◌∷◌, ◌++◌, map, refl, ap, sym, ◌∙◌, subst, ◌⊎◌, inl, inr, append-nil}
use Rattle.std.specs.Prelude.{Bool, true, false, cond, Vec, Some, None}
use Rattle.std.specs.List.{filter}
use Rattle.std.specs.Arc.{arc_value}
use Rattle.std.specs.declared.sync.Arc.{Arc}
use Rattle.std.specs.BTreeMap.{BTreeMap, get}
use Rattle.std.specs.Ordering.{eq_by_cmp}
use Rattle.std.specs.declared.cmp.Ordering.{Ordering}
use Rattle.std.specs.declared.alloc.Global.{Global}
use Rattle.std.proofs.lemmas.List.{map-append}
use Rattle.std.proofs.lemmas.List.Elements.{filter-append}
use Rattle.mz_table.specs.Groups.{values_in, group_at, AreGrouped}

pub filter_alike : {T : Type 0} (p q : T → Bool) → ((x : T) → p x ≡ q x) → (xs : List T) → filter p xs ≡ filter q xs
filter_alike p q e [] = refl
filter_alike p q e (x ∷ xs) = λ i. cond (e x i) (x ∷ filter_alike p q e xs i) (filter_alike p q e xs i)

bool_cases : (b : Bool) → (b ≡ true) ⊎ (b ≡ false)
bool_cases true = inl refl
bool_cases false = inr refl

filter-one_more : {T : Type 0} (p : T → Bool) (xs : List T) (x : T) (b : Bool) → p x ≡ b → filter p (xs ++ x ∷ []) ≡ filter p xs ++ cond b (x ∷ []) []
filter-one_more p xs x b e = filter-append p xs (x ∷ []) ∙ ap (λ c. filter p xs ++ cond c (x ∷ []) []) e

pub grouped_more : {K T : Type 0} (cmp : K → K → Ordering) (has : K → T → Bool) → ((k q : K) → eq_by_cmp cmp k q ≡ true → (x : T) → has k x ≡ has q x) → (xs : List T) (x : T) (k : K) (old mid new : BTreeMap K (Vec (Arc T Global) Global)) (g : Vec (Arc T Global) Global) (before : List T) → AreGrouped cmp has xs old → ((q : K) → has q x ≡ eq_by_cmp cmp k q) → before ≡ group_at cmp old k → ((q : K) → get cmp mid q ≡ cond (eq_by_cmp cmp k q) None (get cmp old q)) → map arc_value g.items ≡ before ++ x ∷ [] → ((q : K) → get cmp new q ≡ cond (eq_by_cmp cmp k q) (Some g) (get cmp mid q)) → AreGrouped cmp has (xs ++ x ∷ []) new
grouped_more cmp has respects xs x k old mid new g before a is b others all put q =
    elim (bool_cases (eq_by_cmp cmp k q)) [
      | inl e ↦
          let found : get cmp new q ≡ Some g = put q ∙ ap (λ c. cond c (Some g) (get cmp mid q)) e in
          let group : before ≡ filter (has q) xs = b ∙ (a k ∙ filter_alike (has k) (has q) (respects k q e) xs) in
          ap values_in found ∙ (all ∙ (ap (λ ys. ys ++ x ∷ []) group ∙ sym (filter-one_more (has q) xs x true (is q ∙ e))))
      | inr e ↦
          let found : get cmp new q ≡ get cmp old q = put q ∙ (ap (λ c. cond c (Some g) (get cmp mid q)) e ∙ (others q ∙ ap (λ c. cond c None (get cmp old q)) e)) in
          ap values_in found ∙ (a q ∙ (sym (append-nil (filter (has q) xs)) ∙ sym (filter-one_more (has q) xs x false (is q ∙ e))))
    ]

-- the same by the shared entries themselves
pub grouped_pushed : {K T : Type 0} (cmp : K → K → Ordering) (has : K → T → Bool) → ((k q : K) → eq_by_cmp cmp k q ≡ true → (x : T) → has k x ≡ has q x) → (items pushed : List (Arc T Global)) (x shared : Arc T Global) (k : K) (old mid new : BTreeMap K (Vec (Arc T Global) Global)) (found g : Vec (Arc T Global) Global) → AreGrouped cmp has (map arc_value items) old → pushed ≡ items ++ x ∷ [] → ((q : K) → has q (arc_value x) ≡ eq_by_cmp cmp k q) → map arc_value found.items ≡ group_at cmp old k → ((q : K) → get cmp mid q ≡ cond (eq_by_cmp cmp k q) None (get cmp old q)) → map arc_value g.items ≡ map arc_value found.items ++ arc_value shared ∷ [] → arc_value shared ≡ arc_value x → ((q : K) → get cmp new q ≡ cond (eq_by_cmp cmp k q) (Some g) (get cmp mid q)) → AreGrouped cmp has (map arc_value pushed) new
grouped_pushed {T = T} cmp has respects items pushed x shared k old mid new found g a p is b others all same put =
    let grown : map arc_value g.items ≡ map arc_value found.items ++ arc_value x ∷ [] = all ∙ ap (λ v. map arc_value found.items ++ v ∷ []) same in
    let more : map arc_value items ++ arc_value x ∷ [] ≡ map arc_value pushed = sym (ap (map arc_value) p ∙ map-append arc_value items (x ∷ [])) in
    subst (λ (ys : List T). AreGrouped cmp has ys new) more
    (grouped_more cmp has respects (map arc_value items) (arc_value x) k old mid new g (map arc_value found.items) a is b others grown put)
