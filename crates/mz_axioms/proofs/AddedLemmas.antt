-- A library with one more export.
use Rattle.std.proofs.Common.{◌≡◌, ◌<◌, ◌≤◌, ◌⊎◌, inl, inr, ℕ, zero, suc, Bool, true, false, List, [], ◌∷◌, map, length, refl, sym, ap, ◌∙◌, arith, subst}
use Rattle.std.specs.List.{insert}
use Rattle.std.specs.Prelude.{nat_lt, if◌then◌else◌, slice_index_or, All, AllPairs, Contains}
use Rattle.std.proofs.lemmas.Bool.{ltb-true, ltb-false}
use Rattle.std.proofs.lemmas.List.Elements.{All-nil, All-cons, All-contains}
use Rattle.std.proofs.lemmas.List.Kept.{AllPairs-cons}
use Rattle.mz_base.specs.declared.name.Name.{Name}
use Rattle.mz_base.proofs.NameEqual.{Name-equal}
use Rattle.mz_logic.specs.Formula.{Formula}
use Rattle.mz_logic.proofs.SetLaws.{larger}
use Rattle.mz_logic.specs.declared.sequent.Sequent.{Sequent}
use Rattle.mz_core.specs.declared.outcome.Export.{Export}
use Rattle.mz_core.specs.declared.item.Item.{Item}
use Rattle.mz_items.specs.Items.{owes}
use Rattle.mz_items.specs.Exports.{HasNotationsOfItems}
use Rattle.mz_axioms.specs.BuiltIn.{built_in_exports}
use Rattle.mz_axioms.specs.Library.{IsNamedBefore, AreInOrder, HasName, DependsOn, directly, by_others, granted, IsBefore, of_axioms, of_dependency, of_earlier, IsDerivable, OwesDerivable, HasPrimitivesOnlyIfBuiltIn, HasClosedItems, Sound, added, next_place, place_in, MayBeAdded, AddedLaw}

pub here : {X : Type 0} (x : X) (xs : List X) → Contains (x ∷ xs) x
here x xs = (0, omega arith, refl)

pub there : {X : Type 0} (y x : X) (xs : List X) → Contains xs x → Contains (y ∷ xs) x
there y x xs h = let lt : h.0 < length xs = h.1 in (suc h.0, omega arith, h.2)

pub first_or_later : {X : Type 0} (y x : X) (xs : List X) → Contains (y ∷ xs) x → (x ≡ y) ⊎ Contains xs x
first_or_later y x xs (zero, lt, e) = inl (sym e)
first_or_later y x xs (suc k, lt, e) = let within : suc k < suc (length xs) = lt in inr (k, omega arith, e)

either_way : {X : Type 0} (P : X → Type 0) (b : Bool) (x y : X) → P x → P y → P (if b then x else y)
either_way P true x y p q = p
either_way P false x y p q = q

-- the export that was added, and those that were there
pub has_new : (e : Export) (es : List Export) → Contains (added e es) e
has_new e [] = here e []
has_new e (f ∷ fs) =
    either_way (λ zs. Contains zs e) (nat_lt f.name.number e.name.number) (f ∷ added e fs) (e ∷ f ∷ fs)
    (there f e (added e fs) (has_new e fs)) (here e (f ∷ fs))

pub has_old : (e x : Export) (es : List Export) → Contains es x → Contains (added e es) x
has_old e x [] h = let lt : h.0 < 0 = h.1 in let no : ⊥ = omega arith in absurd no
has_old e x (f ∷ fs) h =
    either_way (λ zs. Contains zs x) (nat_lt f.name.number e.name.number) (f ∷ added e fs) (e ∷ f ∷ fs)
    (elim (first_or_later f x fs h) [ inl same ↦ subst (λ z. Contains (f ∷ added e fs) z) (sym same) (here f (added e fs)) | inr later ↦ there f x (added e fs) (has_old e x fs later) ])
    (there e x (f ∷ fs) h)

pub new_or_old : (e x : Export) (es : List Export) → Contains (added e es) x → (x ≡ e) ⊎ Contains es x
new_or_old e x [] h = first_or_later e x [] h
new_or_old e x (f ∷ fs) h =
    either_way (λ zs. Contains zs x → (x ≡ e) ⊎ Contains (f ∷ fs) x) (nat_lt f.name.number e.name.number) (f ∷ added e fs) (e ∷ f ∷ fs)
    (λ m. elim (first_or_later f x (added e fs) m) [ inl same ↦ inr (subst (λ z. Contains (f ∷ fs) z) (sym same) (here f fs)) | inr later ↦ elim (new_or_old e x fs later) [ inl new ↦ inl new | inr old ↦ inr (there f x fs old) ] ])
    (λ m. first_or_later e x (f ∷ fs) m) h

-- an insert at the place of its name
insert_if : {Y : Type 0} (g : Y → Export) (b : Bool) (x y : Y) (ys : List Y) → map g (insert ys (place_in (g x).name (map g ys)) x) ≡ added (g x) (map g ys) → map g (insert (y ∷ ys) (next_place b (place_in (g x).name (map g ys))) x) ≡ (if b then g y ∷ added (g x) (map g ys) else g x ∷ g y ∷ map g ys)
insert_if g true x y ys h = ap (λ xs. g y ∷ xs) h
insert_if g false x y ys h = refl

pub map-insert : {Y : Type 0} (g : Y → Export) (x : Y) (ys : List Y) → map g (insert ys (place_in (g x).name (map g ys)) x) ≡ added (g x) (map g ys)
map-insert g x [] = refl
map-insert g x (y ∷ ys) = insert_if g (nat_lt (g y).name.number (g x).name.number) x y ys (map-insert g x ys)

pub length-added : (e : Export) (es : List Export) → length (added e es) ≡ suc (length es)
length-added e [] = refl
length-added e (f ∷ fs) =
    either_way (λ xs. length xs ≡ suc (suc (length fs))) (nat_lt f.name.number e.name.number) (f ∷ added e fs) (e ∷ f ∷ fs) (ap suc (length-added e fs)) refl

all_first : (P : Export → Type 0) (f : Export) (fs : List Export) → All P (f ∷ fs) → P f
all_first P f fs h = h 0 f (omega arith)

all_later : (P : Export → Type 0) (f : Export) (fs : List Export) → All P (f ∷ fs) → All P fs
all_later P f fs h k d lt = h (suc k) d (omega arith)

pub all_added : (P : Export → Type 0) (e : Export) (es : List Export) → P e → All P es → All P (added e es)
all_added P e [] p h = All-cons P e [] p h
all_added P e (f ∷ fs) p h =
    either_way (All P) (nat_lt f.name.number e.name.number) (f ∷ added e fs) (e ∷ f ∷ fs)
    (All-cons P f (added e fs) (all_first P f fs h) (all_added P e fs p (all_later P f fs h)))
    (All-cons P e (f ∷ fs) p h)

-- order
pub pairs_first : (f : Export) (fs : List Export) → AreInOrder (f ∷ fs) → All (IsNamedBefore f) fs
pairs_first f fs h k d lt = h 0 (suc k) d (omega arith) (omega arith)

pub pairs_later : (f : Export) (fs : List Export) → AreInOrder (f ∷ fs) → AreInOrder fs
pairs_later f fs h i j d lt within = h (suc i) (suc j) d (omega arith) (omega arith)

before_all : (e f : Export) (fs : List Export) → IsNamedBefore e f → All (IsNamedBefore f) fs → All (IsNamedBefore e) fs
before_all e f fs lt h k d within =
    let later : f.name.number < (slice_index_or fs k d).name.number = h k d within in
    let first : e.name.number < f.name.number = lt in
    omega arith

no_pairs : (R : Export → Export → Type 0) → AllPairs R []
no_pairs R i j d lt within = let no : ⊥ = omega arith in absurd no

strictly : (m n : ℕ) → m ≤ n → (n ≡ m → ⊥) → m < n
strictly m n le differ = grind (arith)

in_order_placed : (b : Bool) (e f : Export) (fs : List Export) → nat_lt f.name.number e.name.number ≡ b → (f.name.number ≡ e.name.number → ⊥) → AreInOrder (f ∷ fs) → AreInOrder (added e fs) → AreInOrder (if b then f ∷ added e fs else e ∷ f ∷ fs)
in_order_placed true e f fs test differ h placed =
    AllPairs-cons IsNamedBefore f (added e fs) (all_added (IsNamedBefore f) e fs (ltb-true f.name.number e.name.number test) (pairs_first f fs h)) placed
in_order_placed false e f fs test differ h placed =
    let le : e.name.number ≤ f.name.number = ltb-false f.name.number e.name.number test in
    let lt : e.name.number < f.name.number = strictly e.name.number f.name.number le differ in
    AllPairs-cons IsNamedBefore e (f ∷ fs) (All-cons (IsNamedBefore e) f fs lt (before_all e f fs lt (pairs_first f fs h))) h

differ_by_number : (e f : Export) (fs : List Export) → (HasName (f ∷ fs) e.name → ⊥) → f.name.number ≡ e.name.number → ⊥
differ_by_number e f fs fresh same = fresh (f, here f fs, Name-equal f.name e.name same)

fresh_later : (f : Export) (fs : List Export) (n : Name) → (HasName (f ∷ fs) n → ⊥) → HasName fs n → ⊥
fresh_later f fs n fresh h = fresh (h.0, there f h.0 fs h.1, h.2)

pub in_order_added : (e : Export) (es : List Export) → (HasName es e.name → ⊥) → AreInOrder es → AreInOrder (added e es)
in_order_added e [] fresh h = AllPairs-cons IsNamedBefore e [] (All-nil (IsNamedBefore e)) (no_pairs IsNamedBefore)
in_order_added e (f ∷ fs) fresh h =
    in_order_placed (nat_lt f.name.number e.name.number) e f fs refl (differ_by_number e f fs fresh) h
    (in_order_added e fs (fresh_later f fs e.name fresh) (pairs_later f fs h))

-- names and dependencies
pub has_name_added : (e : Export) (es : List Export) (n : Name) → HasName es n → HasName (added e es) n
has_name_added e es n h = (h.0, has_old e h.0 es h.1, h.2)

pub depends_added : (e : Export) (es : List Export) (a b : Name) → DependsOn es a b → DependsOn (added e es) a b
depends_added e es a b (directly d within named dependency) = directly d (has_old e d es within) named dependency
depends_added e es a c (by_others p q) = by_others (depends_added e es _ _ p) (depends_added e es _ _ q)

-- what an article depends on is in the library, and was depended on before, or the article is the new one
abbrev Former : Export → List Export → Name → Name → Type 0
Former e es a b = HasName es b × (DependsOn es a b ⊎ (a ≡ e.name))

former_direct : (e : Export) (es : List Export) → Sound es → All (HasName es) e.dependencies → (a b : Name) (d : Export) → d.name ≡ a → Contains d.dependencies b → (d ≡ e) ⊎ Contains es d → Former e es a b
former_direct e es sound known a b d named dependency (inl same) =
    let held : Contains e.dependencies b = subst (λ x. Contains x.dependencies b) same dependency in
    (All-contains (HasName es) e.dependencies b known held, inr (sym named ∙ ap (λ x. x.name) same))
former_direct e es sound known a b d named dependency (inr within) =
    (All-contains (HasName es) d.dependencies b (sound.known d within) dependency, inl (directly d within named dependency))

former_through : (e : Export) (es : List Export) → (HasName es e.name → ⊥) → (a b c : Name) → Former e es a b → Former e es b c → Former e es a c
former_through e es fresh a b c (has, inl before) (had, inl later) = (had, inl (by_others before later))
former_through e es fresh a b c (has, inr new) (had, inl later) = (had, inr new)
former_through e es fresh a b c (has, q) (had, inr same) = absurd (fresh (subst (HasName es) same has))

former : (e : Export) (es : List Export) → Sound es → MayBeAdded es e → (all : List Export) → all ≡ added e es → (a b : Name) → DependsOn all a b → Former e es a b
former e es sound may all same a b (directly d within named dependency) =
    former_direct e es sound may.known a b d named dependency (new_or_old e d es (subst (λ z. Contains z d) same within))
former e es sound may all same a c (by_others p q) =
    former_through e es may.fresh _ _ _ (former e es sound may all same _ _ p) (former e es sound may all same _ _ q)

acyclic_former : (e : Export) (es : List Export) → Sound es → MayBeAdded es e → (a : Name) → Former e es a a → ⊥
acyclic_former e es sound may a (has, inl before) = sound.acyclic a before
acyclic_former e es sound may a (has, inr new) = may.fresh (subst (HasName es) new has)

-- what was derivable is
pub before_added : (e d : Export) (es : List Export) (k : ℕ) (f : Formula) → IsBefore es d k f → IsBefore (added e es) d k f
before_added e d es k f (of_axioms h) = of_axioms h
before_added e d es k f (of_dependency c within depends h) =
    of_dependency c (has_old e c es within) (depends_added e es d.name c.name depends) h
before_added e d es k f (of_earlier h) = of_earlier h

pub derivable_added : (e d : Export) (es : List Export) (k : ℕ) (s : Sequent) → IsDerivable es d k s → IsDerivable (added e es) d k s
derivable_added e d es k s h =
    larger (IsBefore es d k) (IsBefore (added e es) d k) (Contains s.premises) (Contains s.premises) s.conclusion (λ f. before_added e d es k f) (λ f premise. premise) h

owes_added : (e d : Export) (es : List Export) → OwesDerivable es d → OwesDerivable (added e es) d
owes_added e d es h k item at i x lt = derivable_added e d es k _ (h k item at i x lt)

known_added : (e : Export) (es : List Export) → Sound es → MayBeAdded es e → (d : Export) → (d ≡ e) ⊎ Contains es d → All (HasName (added e es)) d.dependencies
known_added e es sound may d (inl same) i n lt =
    has_name_added e es _ (subst (λ x. All (HasName es) x.dependencies) (sym same) may.known i n lt)
known_added e es sound may d (inr within) i n lt = has_name_added e es _ (sound.known d within i n lt)

owed_added : (e : Export) (es : List Export) → Sound es → MayBeAdded es e → (d : Export) → (d ≡ e) ⊎ Contains es d → OwesDerivable (added e es) d
owed_added e es sound may d (inl same) = subst (OwesDerivable (added e es)) (sym same) may.derivable
owed_added e es sound may d (inr within) = owes_added e d es (sound.derivable d within)

pub sound_added : AddedLaw
sound_added es e sound may =
    record {
      in_order = in_order_added e es may.fresh sound.in_order;
      built_in = λ i x lt. has_old e _ es (sound.built_in i x lt);
      primitive = all_added HasPrimitivesOnlyIfBuiltIn e es may.primitive sound.primitive;
      with_notations = all_added HasNotationsOfItems e es may.with_notations sound.with_notations;
      closed = all_added HasClosedItems e es may.closed sound.closed;
      known = λ d within. known_added e es sound may d (new_or_old e d es within);
      acyclic = λ a h. acyclic_former e es sound may a (former e es sound may (added e es) refl a a h);
      derivable = λ d within. owed_added e es sound may d (new_or_old e d es within);
    }
