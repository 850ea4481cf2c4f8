-- Layers of places, and places in their order.
use Rattle.std.proofs.Common.{◌≡◌, ◌<◌, ◌≤◌, ◌+◌, ℕ, zero, suc, Bool, List, [], ◌∷◌, ◌++◌, map, length, drop, refl, ap, sym, ◌∙◌, subst, arith, add-one, drop-cons, get_or}
use Rattle.std.specs.Prelude.{slice_get, slice_index, Option, None, Some, nat_lt, if◌then◌else◌}
use Rattle.std.proofs.lemmas.List.{drop_all}
use Rattle.std.proofs.lemmas.Option.{slice_get_within, get_or_from_slice_get}
use Rattle.std.proofs.lemmas.Bool.{lt-ltb, le-ltb}
use Rattle.std.specs.declared.cmp.Ordering.{Ordering}
use Rattle.std.specs.Ordering.{on, is_lt}
use Rattle.std.specs.Cmp.{IsTotalOrder, IsStrictWeakOrder}
use Rattle.std.proofs.lemmas.Cmp.{then_total, on_total, nat_cmp_total}
use Rattle.std.specs.List.Sorted.{IsSortedBy}
use Rattle.std.specs.Fn.{Called, ComparesAs}
use Rattle.std.proofs.lemmas.Fn.{always_returns_same}
use Rattle.std.proofs.lemmas.List.Sorted.{ranks_by, All-permutation, length_permutation}
use Rattle.std.specs.List.{All}
use denote.Ref.{Bor}
use denote.Param.Members.{Mut}
use Rattle.mz_logic.specs.Order.{term_cmp}
use Rattle.mz_logic.proofs.OrderLemmas.{term_cmp_total, term_cmp-App}
use Rattle.mz_ground.specs.declared.ground_part.Ground.{Ground}
use Rattle.mz_ground.specs.declared.layer_ends.LayerEnd.{LayerEnd}
use Rattle.mz_ground.specs.declared.ground_atom.GroundAtom.{GroundAtom}
use Rattle.mz_logic.specs.Term.{Term, Const, App, terms_of}
use Rattle.mz_numbering.specs.Numbering.{layer_of, term_layer, atom_layer, term_at_place, option_atom_cmp, term_place_cmp, atom_place_cmp, numbers_from, AreOrdered}

-- one layer further
layer_step : (f : LayerEnd → ℕ) (ends : List LayerEnd) (n place : ℕ) (e : LayerEnd) → slice_get ends n ≡ Some e → layer_of (map f (drop n ends)) place ≡ (if nat_lt place (f e) then 0 else suc (layer_of (map f (drop (suc n) ends)) place))
layer_step f ends n place e at = let lt : n < length ends = slice_get_within ends n e at in let is : get_or ends n e ≡ e = get_or_from_slice_get ends n e e at in rw (drop-cons ends n e lt, is) refl

pub layer_found : (f : LayerEnd → ℕ) (ends : List LayerEnd) (n place layer : ℕ) (e : LayerEnd) → slice_get ends n ≡ Some e → layer ≡ n + layer_of (map f (drop n ends)) place → place < f e → n ≡ layer
layer_found f ends n place layer e at h less =
    let zero_layer : layer_of (map f (drop n ends)) place ≡ 0 = layer_step f ends n place e at ∙ ap (λ (b : Bool). if b then 0 else suc (layer_of (map f (drop (suc n) ends)) place)) (lt-ltb place (f e) less) in
    omega (arith, h, zero_layer)

pub layer_passed : (f : LayerEnd → ℕ) (ends : List LayerEnd) (n place layer : ℕ) (e : LayerEnd) → slice_get ends n ≡ Some e → layer ≡ n + layer_of (map f (drop n ends)) place → f e ≤ place → layer ≡ n + 1 + layer_of (map f (drop (n + 1) ends)) place
layer_passed f ends n place layer e at h ge =
    let next : layer_of (map f (drop n ends)) place ≡ suc (layer_of (map f (drop (suc n) ends)) place) = layer_step f ends n place e at ∙ ap (λ (b : Bool). if b then 0 else suc (layer_of (map f (drop (suc n) ends)) place)) (le-ltb place (f e) ge) in
    let one : layer_of (map f (drop (n + 1) ends)) place ≡ layer_of (map f (drop (suc n) ends)) place = ap (λ (m : ℕ). layer_of (map f (drop m ends)) place) (add-one n) in
    omega (arith, h, next, one)

pub layer_last : (f : LayerEnd → ℕ) (ends : List LayerEnd) (n place layer : ℕ) → length ends ≤ n → layer ≡ n + layer_of (map f (drop n ends)) place → n ≡ layer
layer_last f ends n place layer ge h =
    let none_left : layer_of (map f (drop n ends)) place ≡ 0 = ap (λ (es : List LayerEnd). layer_of (map f es) place) (drop_all n ends ge) in
    omega (arith, h, none_left)

pub ruleset layer_rules = (layer_found, layer_passed, layer_last)

-- the numbers from start on, one more
pub numbers_more : (start count : ℕ) → numbers_from start (suc count) ≡ numbers_from start count ++ (start + count) ∷ []
numbers_more start zero = let e : start ≡ start + 0 = omega arith in ap (λ (n : ℕ). n ∷ []) e
numbers_more start (suc count) =
    let e : suc start + count ≡ start + suc count = omega arith in
    ap (λ ns. start ∷ ns) (numbers_more (suc start) count ∙ ap (λ (n : ℕ). numbers_from (suc start) count ++ n ∷ []) e)

pub numbers_next : (k : ℕ) (old new : List ℕ) → old ≡ numbers_from 0 k → new ≡ old ++ k ∷ [] → new ≡ numbers_from 0 (k + 1)
numbers_next k old new e q =
    let z : 0 + k ≡ k = omega arith in
    q ∙ ap (λ (ns : List ℕ). ns ++ k ∷ []) e ∙ ap (λ (n : ℕ). numbers_from 0 k ++ n ∷ []) (sym z) ∙ sym (numbers_more 0 k) ∙ ap (numbers_from 0) (sym (add-one k))

pub ruleset numbers_rules = (numbers_next)

-- what a sort by a comparison leaves
pub ascending_from : (cmp : ℕ → ℕ → Ordering) → IsTotalOrder cmp → {F : Type 0} {g : Mut F (Bor ℕ × (Bor ℕ × Unit {0})) Ordering} {f : F} (xs : List ℕ) → ((lt : ℕ → ℕ → Bool) → IsStrictWeakOrder lt → ComparesAs g lt f → IsSortedBy lt xs) → ((a : Bor ℕ × (Bor ℕ × Unit {0})) (r : Ordering) (f' : F) → Called g f a r f' → (r ≡ cmp a.0.now a.1.0.now) × (f' ≡ f)) → IsSortedBy (λ p q. is_lt (cmp p q)) xs
ascending_from cmp o {g = g} {f = f} xs up h =
    up (λ p q. is_lt (cmp p q)) (ranks_by o (λ (n : ℕ). n))
    (always_returns_same g (λ a r. is_lt r ≡ is_lt (cmp a.0.now a.1.0.now)) f (λ a r f' k. (ap is_lt (h a r f' k).0, (h a r f' k).1)))

pub term_place_cmp_total : (g : Ground) → IsTotalOrder (term_place_cmp g)
unfolding term_place_cmp
term_place_cmp_total g = then_total (on_total (term_layer g) nat_cmp_total) (on_total (term_at_place g) term_cmp_total)

-- an atom as a term with its symbol and arguments
abbrev atom_term : Ground → Option GroundAtom → Term
atom_term g None = Const 0
atom_term g (Some a) = App a.sym (terms_of (map (term_at_place g) a.args))

atom_cmp-term : (g : Ground) (a b : Option GroundAtom) → option_atom_cmp g a b ≡ term_cmp (atom_term g a) (atom_term g b)
unfolding term_cmp
atom_cmp-term g None None = refl
atom_cmp-term g None (Some b) = refl
atom_cmp-term g (Some a) None = refl
atom_cmp-term g (Some a) (Some b) = sym (term_cmp-App a.sym b.sym (map (term_at_place g) a.args) (map (term_at_place g) b.args))

option_atom_cmp_total : (g : Ground) → IsTotalOrder (option_atom_cmp g)
option_atom_cmp_total g =
    let same : option_atom_cmp g ≡ on (atom_term g) term_cmp = λ i a b. atom_cmp-term g a b i in
    subst IsTotalOrder (sym same) (on_total (atom_term g) term_cmp_total)

pub atom_place_cmp_total : (g : Ground) → IsTotalOrder (atom_place_cmp g)
unfolding atom_place_cmp
atom_place_cmp_total g = then_total (on_total (atom_layer g) nat_cmp_total) (on_total (slice_get g.atoms) (option_atom_cmp_total g))

-- places in an order are those below the number of places
length-numbers_from : (start count : ℕ) → length (numbers_from start count) ≡ count
length-numbers_from start zero = refl
length-numbers_from start (suc count) = ap suc (length-numbers_from (suc start) count)

get_or-numbers_from : (start count i d : ℕ) → i < count → get_or (numbers_from start count) i d ≡ start + i
get_or-numbers_from start zero i d lt = absurd (omega (arith, lt))
get_or-numbers_from start (suc count) zero d lt = omega arith
get_or-numbers_from start (suc count) (suc i) d lt = omega (arith, get_or-numbers_from (suc start) count i d (omega (arith, lt)))

all_below : (n : ℕ) → All (λ x. x < n) (numbers_from 0 n)
all_below n = λ i d lt. omega (arith, lt, length-numbers_from 0 n, get_or-numbers_from 0 n i d (omega (arith, lt, length-numbers_from 0 n)))

pub slice_index-ordered : (cmp : ℕ → ℕ → Ordering) (n : ℕ) (places : List ℕ) → AreOrdered cmp n places → (k : ℕ) → k < n → slice_index places k < n
slice_index-ordered cmp n places o k lt =
    let long : length places ≡ n = length_permutation (numbers_from 0 n) places o.permutation ∙ length-numbers_from 0 n in
    All-permutation (λ x. x < n) (numbers_from 0 n) places o.permutation (all_below n) k 0 (omega (arith, lt, long))
