-- The visible loci of a pattern are loci, and none of them twice.
use Rattle.std.proofs.Common.{◌≡◌, ◌≤◌, ◌<◌, ◌-◌, ℕ, zero, suc, Bool, true, false, List, [], ◌∷◌, ◌++◌, length, refl, sym, ap, subst, arith, Option, Some, None}
use Rattle.std.specs.Prelude.{if◌then◌else◌}
use Rattle.std.specs.List.{list_all}
use Rattle.std.proofs.lemmas.Bool.{and_parts, and_from, lt-ltb}
use Rattle.mz_core.proofs.AllLemmas.{all-append}
use Rattle.mz_context.specs.Context.{numbered}
use Rattle.mz_context.specs.declared.constants.Constant.{Constant}
use Rattle.mz_items.specs.Closed.{is_locus, are_distinct}
use Rattle.mz_loci.specs.Loci.{place_before, locus_named, are_fixed}
use Rattle.mz_names.specs.Names.{has_name, latest_up_to, number_of}
use Rattle.mz_patterns.specs.Patterns.{place_behind, loci_named, visible, both_sides, are_wanted, if_wanted, visible_loci}
use Rattle.mz_patterns.specs.declared.visible.Visible.{Visible}
use Rattle.mz_tree_heading.specs.declared.patterns.IdentifierTree.{IdentifierTree}

abbrev some_of : {X : Type 0} → X → Option X
some_of x = Some x

some-inj : {X : Type 0} (x y : X) → some_of x ≡ some_of y → x ≡ y
some-inj x y e = cc

none_some : {X : Type 0} (x : X) → None ≡ some_of x → ⊥
none_some x e = cc

-- the number of a constant with a name

found : (name : List ℕ) (ks : List (Option Constant)) (n : ℕ) (b : Bool) (m : ℕ) → (latest_up_to name ks n ≡ Some m → m ≤ n) → (if b then Some (suc n) else latest_up_to name ks n) ≡ Some m → m ≤ suc n
found name ks n true m later e = let is : suc n ≡ m = some-inj (suc n) m e in omega (arith, is)
found name ks n false m later e = let le : m ≤ n = later e in omega (arith, le)

latest_within : (name : List ℕ) (ks : List (Option Constant)) (n m : ℕ) → latest_up_to name ks n ≡ Some m → m ≤ n
latest_within name ks zero m e = absurd (none_some m e)
latest_within name ks (suc n) m e = found name ks n (has_name name (numbered ks (suc n))) m (latest_within name ks n m) e

not_zero : (name : List ℕ) (ks : List (Option Constant)) (n : ℕ) (b : Bool) (m : ℕ) → (latest_up_to name ks n ≡ Some m → 0 < m) → (if b then Some (suc n) else latest_up_to name ks n) ≡ Some m → 0 < m
not_zero name ks n true m later e = let is : suc n ≡ m = some-inj (suc n) m e in omega (arith, is)
not_zero name ks n false m later e = later e

latest_above : (name : List ℕ) (ks : List (Option Constant)) (n m : ℕ) → latest_up_to name ks n ≡ Some m → 0 < m
latest_above name ks zero m e = absurd (none_some m e)
latest_above name ks (suc n) m e = not_zero name ks n (has_name name (numbered ks (suc n))) m (latest_above name ks n m) e

before_so : (o : Option ℕ) (n count : ℕ) → ((m : ℕ) → o ≡ Some m → (0 < m) × (m ≤ count)) → place_before o ≡ Some n → n < count
before_so None n count each e = absurd (none_some n e)
before_so (Some m) n count each e =
    let above : 0 < m = (each m refl).0 in
    let within : m ≤ count = (each m refl).1 in
    let is : m - 1 ≡ n = some-inj (m - 1) n e in
    omega (arith, above, within, is)

locus_within : (ks : List (Option Constant)) (name : List ℕ) (n : ℕ) → locus_named ks name ≡ Some n → n < length ks
locus_within ks name n e = before_so (number_of name ks) n (length ks) (λ m is. (latest_above name ks (length ks) m is, latest_within name ks (length ks) m is)) e

-- the places of loci with names

abbrev AreLoci : ℕ → List ℕ → Type 0
AreLoci count ns = list_all (is_locus count) ns ≡ true

one_more : (count : ℕ) (o : Option ℕ) (p : Option (List ℕ)) (ns : List ℕ) → ((n : ℕ) → o ≡ Some n → n < count) → ((ms : List ℕ) → p ≡ Some ms → AreLoci count ms) → place_behind o p ≡ Some ns → AreLoci count ns
one_more count None p ns first later e = absurd (none_some ns e)
one_more count (Some n) None ns first later e = absurd (none_some ns e)
one_more count (Some n) (Some ms) ns first later e =
    let lt : n < count = first n refl in
    subst (AreLoci count) (some-inj ((n ∷ []) ++ ms) ns e) (and_from (is_locus count n) (list_all (is_locus count) ms) (lt-ltb n count lt) (later ms refl))

named_within : (ks : List (Option Constant)) (ws : List IdentifierTree) (ns : List ℕ) → loci_named ks ws ≡ Some ns → AreLoci (length ks) ns
named_within ks [] ns e = subst (AreLoci (length ks)) (some-inj [] ns e) refl
named_within ks (w ∷ ws) ns e = one_more (length ks) (locus_named ks w.name.spelling) (loci_named ks ws) ns (locus_within ks w.name.spelling) (named_within ks ws) e

-- both sides of a pattern

pub record AreGood (count : ℕ) (v : Visible) : Type 0 where
  pub loci : list_all (is_locus count) (v.left ++ v.right) ≡ true
  pub distinct : are_distinct (v.left ++ v.right) ≡ true

sides_within : (count : ℕ) (l r : Option (List ℕ)) (v : Visible) → ((ns : List ℕ) → l ≡ Some ns → AreLoci count ns) → ((ns : List ℕ) → r ≡ Some ns → AreLoci count ns) → both_sides l r ≡ Some v → list_all (is_locus count) (v.left ++ v.right) ≡ true
sides_within count None r v left right e = absurd (none_some v e)
sides_within count (Some ls) None v left right e = absurd (none_some v e)
sides_within count (Some ls) (Some rs) v left right e =
    subst (λ (u : Visible). list_all (is_locus count) (u.left ++ u.right) ≡ true) (some-inj (visible ls rs) v e) (all-append (is_locus count) ls rs (left ls refl) (right rs refl))

chosen : (b : Bool) (u v : Visible) → (if b then Some u else None) ≡ Some v → (b ≡ true) × (u ≡ v)
chosen true u v e = (refl, some-inj u v e)
chosen false u v e = absurd (none_some v e)

wanted_good : (least : ℕ) (ks : List (Option Constant)) (o : Option Visible) (v : Visible) → ((u : Visible) → o ≡ Some u → list_all (is_locus (length ks)) (u.left ++ u.right) ≡ true) → if_wanted least ks o ≡ Some v → AreGood (length ks) v
wanted_good least ks None v within e = absurd (none_some v e)
wanted_good least ks (Some u) v within e =
    let both : (are_wanted least ks (u.left ++ u.right) ≡ true) × (u ≡ v) = chosen (are_wanted least ks (u.left ++ u.right)) u v e in
    let parts : (are_distinct (u.left ++ u.right) ≡ true) × (are_fixed least (u.left ++ u.right) 0 ks ≡ true) = and_parts (are_distinct (u.left ++ u.right)) (are_fixed least (u.left ++ u.right) 0 ks) both.0 in
    record {
      loci = subst (λ (x : Visible). list_all (is_locus (length ks)) (x.left ++ x.right) ≡ true) both.1 (within u refl);
      distinct = subst (λ (x : Visible). are_distinct (x.left ++ x.right) ≡ true) both.1 parts.0;
    }

pub visible_good : (least : ℕ) (ks : List (Option Constant)) (left right : List IdentifierTree) (v : Visible) → visible_loci least ks left right ≡ Some v → AreGood (length ks) v
visible_good least ks left right v e =
    wanted_good least ks (both_sides (loci_named ks left) (loci_named ks right)) v
    (λ u is. sides_within (length ks) (loci_named ks left) (loci_named ks right) u (named_within ks left) (named_within ks right) is) e

pub sides_named : (ks : List (Option Constant)) (left right : List IdentifierTree) (v : Visible) → both_sides (loci_named ks left) (loci_named ks right) ≡ Some v → list_all (is_locus (length ks)) (v.left ++ v.right) ≡ true
sides_named ks left right v e = sides_within (length ks) (loci_named ks left) (loci_named ks right) v (named_within ks left) (named_within ks right) e

-- where one identifier stands behind the symbol, one place does

alone_so : (o : Option ℕ) (ns : List ℕ) → place_behind o (Some []) ≡ Some ns → (n : ℕ) × (ns ≡ n ∷ [])
alone_so None ns e = absurd (none_some ns e)
alone_so (Some n) ns e = (n, sym (some-inj (n ∷ []) ns e))

right_so : (l r : Option (List ℕ)) (v : Visible) → both_sides l r ≡ Some v → r ≡ Some v.right
right_so None r v e = absurd (none_some v e)
right_so (Some ls) None v e = absurd (none_some v e)
right_so (Some ls) (Some rs) v e = ap (λ (u : Visible). some_of u.right) (some-inj (visible ls rs) v e)

wanted_so : (least : ℕ) (ks : List (Option Constant)) (o : Option Visible) (v : Visible) → if_wanted least ks o ≡ Some v → o ≡ Some v
wanted_so least ks None v e = absurd (none_some v e)
wanted_so least ks (Some u) v e = ap some_of (chosen (are_wanted least ks (u.left ++ u.right)) u v e).1

pub one_behind : (least : ℕ) (ks : List (Option Constant)) (left : List IdentifierTree) (w : IdentifierTree) (v : Visible) → visible_loci least ks left (w ∷ []) ≡ Some v → (n : ℕ) × (v.right ≡ n ∷ [])
one_behind least ks left w v e =
    alone_so (locus_named ks w.name.spelling) v.right (right_so (loci_named ks left) (loci_named ks (w ∷ [])) v (wanted_so least ks (both_sides (loci_named ks left) (loci_named ks (w ∷ []))) v e))
