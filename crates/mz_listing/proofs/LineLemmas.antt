-- Lines of items in turn.
use Rattle.std.proofs.Common.{◌≡◌, ℕ, zero, suc, ◌+◌, ◌<◌, ◌≤◌, Bool, true, false, cond, List, [], ◌∷◌, ◌++◌, Option, Some, None, Result, Ok, Err, length, get_or, take, drop, refl, sym, ap, subst, ◌∙◌, arith, append_assoc, append-nil, add-zero}
use Rattle.std.specs.Prelude.{find, slice_get, OnOk}
use Rattle.std.proofs.lemmas.List.{take_more, take_all, length-take-le, take-append-drop, drop_more}
use Rattle.mz_base.specs.declared.name.Name.{Name}
use Rattle.mz_core.specs.declared.outcome.Export.{Export}
use Rattle.mz_core.specs.declared.item.Item.{Item}
use Rattle.mz_listing.specs.Listing.{item_lines, items_lines, is_export_of, named_lines, lines_of_export, export_lines}

items_more : (name : Name) (items : List Item) (number : ℕ) (item : Item) → items_lines name number (items ++ item ∷ []) ≡ items_lines name number items ++ item_lines name (number + length items) item
items_more name [] number item = append-nil (item_lines name number item) ∙ ap (λ n. item_lines name n item) (sym (add-zero number))
items_more name (i ∷ is) number item =
    ap (λ xs. item_lines name number i ++ xs) (items_more name is (suc number) item)
    ∙ sym (append_assoc (item_lines name number i) (items_lines name (suc number) is) (item_lines name (suc number + length is) item))
    ∙ ap (λ n. (item_lines name number i ++ items_lines name (suc number) is) ++ item_lines name n item) (moved number (length is))
  where
    moved : (a b : ℕ) → suc a + b ≡ a + suc b
    moved a b = omega arith

items_turn : (name : Name) (items : List Item) (i number : ℕ) (item : Item) (start old new : List ℕ) → i < length items → item ≡ get_or items i item → number ≡ i + 1 → old ≡ start ++ items_lines name 1 (take i items) → new ≡ old ++ item_lines name number item
    → new ≡ start ++ items_lines name 1 (take (i + 1) items)
items_turn name items i number item start old new lt at en eo e =
    let more : take (i + 1) items ≡ take i items ++ item ∷ [] = take_more items i item lt ∙ ap (λ x. take i items ++ x ∷ []) (sym at) in
    let len : length (take i items) ≡ i = length-take-le i items (omega arith) in
    let count : 1 + length (take i items) ≡ number = omega arith in
    let lines : items_lines name 1 (take (i + 1) items) ≡ items_lines name 1 (take i items) ++ item_lines name number item = ap (items_lines name 1) more ∙ items_more name (take i items) 1 item ∙ ap (λ n. items_lines name 1 (take i items) ++ item_lines name n item) count in
    e ∙ ap (λ xs. xs ++ item_lines name number item) eo ∙ append_assoc start (items_lines name 1 (take i items)) (item_lines name number item) ∙ ap (λ xs. start ++ xs) (sym lines)

pub items_viewed : (name : Name) (shown items : List Item) (i : ℕ) (item : Item) (start old new : List ℕ) → shown ≡ items → i < length shown → item ≡ get_or shown i item → old ≡ start ++ items_lines name 1 (take i items) → new ≡ old ++ item_lines name (i + 1) item
    → new ≡ start ++ items_lines name 1 (take (i + 1) items)
items_viewed name shown items i item start old new e lt at eo en =
    items_turn name items i (i + 1) item start old new (subst (λ xs. i < length xs) e lt) (subst (λ xs. item ≡ get_or xs i item) e at) refl eo en

pub on_ok : {X E : Type 0} (r : Result X E) (P Q : Type 0) → (P → Q) → OnOk r P → OnOk r Q
on_ok (Ok x) P Q w h = w h
on_ok (Err e) P Q w h = h

-- the export of a name

cond-push_by : {X : Type 0} (p : X → Bool) (y : X) (ys : List X) (x : X) (b : Bool) → p y ≡ b → cond b (Some y) (find p ys) ≡ None → (find p ys ≡ None → find p (ys ++ x ∷ []) ≡ cond (p x) (Some x) None) → cond (p y) (Some y) (find p (ys ++ x ∷ [])) ≡ cond (p x) (Some x) None
cond-push_by p y ys x true e h ih = cc
cond-push_by p y ys x false e h ih = ap (λ b. cond b (Some y) (find p (ys ++ x ∷ []))) e ∙ ih h

find_push : {X : Type 0} (p : X → Bool) (xs : List X) (x : X) → find p xs ≡ None → find p (xs ++ x ∷ []) ≡ cond (p x) (Some x) None
find_push p [] x e = refl
find_push p (y ∷ ys) x e = cond-push_by p y ys x (p y) refl e (find_push p ys x)

cond-more_by : {X : Type 0} (p : X → Bool) (z : X) (zs ys : List X) (x : X) (b : Bool) → p z ≡ b → cond b (Some z) (find p zs) ≡ None → (find p zs ≡ None → find p (zs ++ x ∷ ys) ≡ Some x) → cond (p z) (Some z) (find p (zs ++ x ∷ ys)) ≡ Some x
cond-more_by p z zs ys x true e h ih = cc
cond-more_by p z zs ys x false e h ih = ap (λ b. cond b (Some z) (find p (zs ++ x ∷ ys))) e ∙ ih h

find-found_more : {X : Type 0} (p : X → Bool) (xs ys : List X) (x : X) → find p xs ≡ None → p x ≡ true → find p (xs ++ x ∷ ys) ≡ Some x
find-found_more p [] ys x e passes = ap (λ b. cond b (Some x) (find p ys)) passes
find-found_more p (z ∷ zs) ys x e passes = cond-more_by p z zs ys x (p z) refl e (λ h. find-found_more p zs ys x h passes)

pub find-found_turn : (es : List Export) (n : Name) (i : ℕ) (e : Export) → slice_get es i ≡ Some e → i < length es → is_export_of n e ≡ false → find (is_export_of n) (take i es) ≡ None → find (is_export_of n) (take (i + 1) es) ≡ None
find-found_turn es n i e at lt fails none =
    let more : take (i + 1) es ≡ take i es ++ e ∷ [] = take_more es i e lt ∙ ap (λ x. take i es ++ x ∷ []) (read_at es i e at) in
    ap (find (is_export_of n)) more ∙ find_push (is_export_of n) (take i es) e none ∙ ap (λ b. cond b (Some e) None) fails
  where
    read_at : (xs : List Export) (k : ℕ) (x : Export) → slice_get xs k ≡ Some x → get_or xs k x ≡ x
    read_at [] k x h = refl
    read_at (y ∷ ys) zero x h = cc
    read_at (y ∷ ys) (suc k) x h = read_at ys k x h

pub export_lines-named_found : (es : List Export) (n : Name) (i : ℕ) (e : Export) → slice_get es i ≡ Some e → i < length es → is_export_of n e ≡ true → find (is_export_of n) (take i es) ≡ None → export_lines e ≡ named_lines es n
export_lines-named_found es n i e at lt passes none =
    let split : es ≡ take i es ++ e ∷ drop (i + 1) es = sym (take-append-drop i es) ∙ ap (λ xs. take i es ++ xs) (drop_more es i e lt ∙ ap (λ x. x ∷ drop (i + 1) es) (read_at es i e at)) in
    sym (ap lines_of_export (ap (find (is_export_of n)) split ∙ find-found_more (is_export_of n) (take i es) (drop (i + 1) es) e none passes))
  where
    read_at : (xs : List Export) (k : ℕ) (x : Export) → slice_get xs k ≡ Some x → get_or xs k x ≡ x
    read_at [] k x h = refl
    read_at (y ∷ ys) zero x h = cc
    read_at (y ∷ ys) (suc k) x h = read_at ys k x h

pub named_none : (es : List Export) (n : Name) (i : ℕ) → length es ≤ i → find (is_export_of n) (take i es) ≡ None → named_lines es n ≡ []
named_none es n i past none = ap lines_of_export (ap (find (is_export_of n)) (sym (take_all i es past)) ∙ none)
