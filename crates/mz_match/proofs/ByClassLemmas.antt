-- The arguments of rows by their classes.
use Rattle.std.proofs.Common.{◌≡◌, ◌≤◌, inl, inr, ℕ, List, [], ◌∷◌, ◌++◌, map, take, length, refl, ap, sym, ◌∙◌, subst, Bool, true, false, append-nil}
use Rattle.std.specs.Prelude.{nat_eq, flat_map, if◌then◌else◌, Vec}
use Rattle.std.specs.declared.alloc.Global.{Global}
use Rattle.std.proofs.lemmas.Bool.Decides.{eqb_tells}
use Rattle.std.proofs.lemmas.List.{take_all}
use Rattle.mz_match.specs.ByClass.{lists_at, args_with, AreByClass}
use Rattle.mz_match.specs.Rows.{has_value}
use Rattle.mz_match.specs.Slots.{Assignment}
use Rattle.mz_match.specs.declared.by_class.ByClass.{ByClass}
use Rattle.mz_match.specs.declared.row.Row.{Row}
use Rattle.mz_match.specs.declared.rows.Rows.{Rows}

-- what is there of a class after its lists were exchanged
pub new-told_added : (old mid new : ℕ → List (List ℕ)) (class : ℕ) (args : List ℕ) (found lists : List (List ℕ)) → found ≡ old class → ((q : ℕ) → (q ≡ class → ⊥) → mid q ≡ old q) → lists ≡ found ++ args ∷ [] → new class ≡ lists → ((q : ℕ) → (q ≡ class → ⊥) → new q ≡ mid q) → (q : ℕ) → new q ≡ (if nat_eq class q then old q ++ args ∷ [] else old q)
new-told_added old mid new class args found lists f others l n more q =
    elim (eqb_tells class q) [
      | inl a ↦
          let here : new class ≡ old class ++ args ∷ [] = n ∙ l ∙ ap (λ xs. xs ++ args ∷ []) f in
          subst (λ (b : Bool). new q ≡ (if b then old q ++ args ∷ [] else old q)) (sym a.0) (subst (λ (k : ℕ). new k ≡ old k ++ args ∷ []) a.1 here)
      | inr a ↦
          let other : q ≡ class → ⊥ = λ e. a.1 (sym e) in
          subst (λ (b : Bool). new q ≡ (if b then old q ++ args ∷ [] else old q)) (sym a.0) (more q other ∙ others q other)
    ]

pub ruleset add_rules = (new-told_added)

cons-put_append : (b : Bool) (x : List ℕ) (xs ys all : List (List ℕ)) → all ≡ xs ++ ys → (if b then x ∷ all else all) ≡ (if b then x ∷ xs else xs) ++ ys
cons-put_append true x xs ys all e = ap (λ zs. x ∷ zs) e
cons-put_append false x xs ys all e = e

args_with-append : (v : ℕ) (rs ks : List Row) → args_with v (rs ++ ks) ≡ args_with v rs ++ args_with v ks
args_with-append v [] ks = refl
args_with-append v (r ∷ rs) ks = cons-put_append (has_value v r) r.args.items (args_with v rs) (args_with v ks) (args_with v (rs ++ ks)) (args_with-append v rs ks)

append-one_more : (b c : Bool) (xs : List (List ℕ)) (args : List ℕ) → b ≡ c → (if b then xs ++ args ∷ [] else xs) ≡ xs ++ (if c then args ∷ [] else [])
append-one_more true true xs args e = refl
append-one_more true false xs args e = cc
append-one_more false true xs args e = cc
append-one_more false false xs args e = sym (append-nil xs)

pub by_class_more : (rs ks : List Row) (m n : ByClass) (r : Row) (args : List ℕ) → AreByClass rs m → args ≡ r.args.items → ((q : ℕ) → lists_at n.lists q ≡ (if nat_eq r.value q then lists_at m.lists q ++ args ∷ [] else lists_at m.lists q)) → ks ≡ rs ++ r ∷ [] → AreByClass ks n
by_class_more rs ks m n r args k o a e =
    subst (λ (xs : List Row). AreByClass xs n) (sym e)
    (λ v. a v ∙ (λ i. if nat_eq r.value v then k v i ++ o i ∷ [] else k v i) ∙ append-one_more (nat_eq r.value v) (has_value v r) (args_with v rs) r.args.items refl ∙ sym (args_with-append v rs (r ∷ [])))

pub by_class_none : (rs : List Row) (m : ByClass) → rs ≡ [] → ((q : ℕ) → lists_at m.lists q ≡ []) → AreByClass rs m
by_class_none rs m e f v = f v ∙ ap (args_with v) (sym e)

pub told_with : (rows : Rows) (v : ℕ) (xs : List (List ℕ)) → xs ≡ lists_at rows.by_class.lists v → xs ≡ args_with v rows.items.items
told_with rows v xs e = e ∙ rows.classed v

pub ruleset with_rules = (told_with)

-- going over the arguments of a class is going over the rows that have it
flat_each : (m : List ℕ → List Assignment) (xs : List (Vec ℕ Global)) → flat_map (λ k. m k.items) xs ≡ flat_map m (map (λ k. k.items) xs)
flat_each m [] = refl
flat_each m (x ∷ xs) = ap (λ ys. m x.items ++ ys) (flat_each m xs)

put_flat : (m : List ℕ → List Assignment) (b : Bool) (x : List ℕ) (xs : List (List ℕ)) (ys : List Assignment) → flat_map m xs ≡ ys → flat_map m (if b then x ∷ xs else xs) ≡ (if b then m x else []) ++ ys
put_flat m true x xs ys e = ap (λ zs. m x ++ zs) e
put_flat m false x xs ys e = e

flat_with : (m : List ℕ → List Assignment) (v : ℕ) (rs : List Row) → flat_map m (args_with v rs) ≡ flat_map (λ r. if has_value v r then m r.args.items else []) rs
flat_with m v [] = refl
flat_with m v (r ∷ rs) = put_flat m (has_value v r) r.args.items (args_with v rs) (flat_map (λ k. if has_value v k then m k.args.items else []) rs) (flat_with m v rs)

pub flat_map-over_class : (m : List ℕ → List Assignment) (v : ℕ) (rs : List Row) (xs : List (Vec ℕ Global)) → map (λ k. k.items) xs ≡ args_with v rs → flat_map (λ k. m k.items) xs ≡ flat_map (λ r. if has_value v r then m r.args.items else []) rs
flat_map-over_class m v rs xs e = flat_each m xs ∙ ap (flat_map m) e ∙ flat_with m v rs

-- at the end of the loop
pub told_over : (m : List ℕ → List Assignment) (v : ℕ) (rs : List Row) (xs : List (Vec ℕ Global)) (n : ℕ) (out : List Assignment) → out ≡ flat_map (λ k. m k.items) (take n xs) → length xs ≤ n → map (λ k. k.items) xs ≡ args_with v rs → out ≡ flat_map (λ r. if has_value v r then m r.args.items else []) rs
told_over m v rs xs n out h le e = h ∙ ap (flat_map (λ k. m k.items)) (take_all n xs le) ∙ flat_map-over_class m v rs xs e
