-- Members of a list that make no obligation, taken one by one.
use Rattle.std.proofs.Common.{◌≡◌, ◌∙◌, List, [], ◌∷◌, append-nil, length, map, sym, ap, subst}
use Rattle.std.specs.Prelude.{Result, Ok, Err}
use Rattle.mz_cited.specs.Cited.{tree_of, members}
use Rattle.mz_obligations.specs.declared.obligation.Obligation.{Obligation}
use Rattle.mz_taken.specs.Answers.{OnTaken, IsBrought, Brings, Leads}
use Rattle.mz_taken.specs.OneByOne.{OneByOne, none_left, one_refused, one_taken}
use Rattle.mz_taken.specs.Taken.{Taken, Made, Refused}
use Rattle.mz_taken.specs.declared.item_fault.ItemFault.{ItemFault}
use Rattle.mz_taken.specs.declared.item_fault.ItemFault.TheVariants as fault
use Rattle.mz_taken.specs.declared.item_fault.ItemRefusal.{ItemRefusal}
use Rattle.mz_taken.proofs.OneByOneProofs.{on_err, on_ok}
use Rattle.mz_tree.specs.declared.chain.Next.{Next}
use Rattle.mz_tree.specs.declared.lists.Separated.{Separated}
use Rattle.mz_tree.specs.declared.word.Comma.{Comma}

pub told_none : {S X : Type 0} (one : S → X → Taken S → Type 0) (s : S) (ts : List (Next Comma X)) → length ts ≡ 0 → OneByOne one s (map tree_of ts) (Made [] s)
told_none one s [] e = none_left s
told_none one s (t ∷ ts) e = let no : ⊥ = cc in absurd no

pub told_first_refused : {S X Y : Type 0} (Z : Type 0) (one : S → X → Taken S → Type 0) (s u v : S) (x : X) (others all : List X) (z : Result Y ItemFault) (f : ItemFault) → all ≡ x ∷ others → OnTaken z (Leads (one s x) u) → z ≡ Err f → OnTaken {X = Z} (Err f) (Leads (OneByOne one s all) v)
told_first_refused Z one s u v x others all z f e h ez =
    on_err (Leads (one s x) u) (Leads (OneByOne one s all) v) z f ez h (λ r k. subst (λ ys. OneByOne one s ys (Refused r)) (sym e) (one_refused s x others r k))

led_on : {S X Z : Type 0} (one : S → X → Taken S → Type 0) (s u v : S) (x : X) (others : List X) (y : Result Z ItemFault) → one s x (Made [] u) → OnTaken y (Leads (OneByOne one u others) v) → OnTaken y (Leads (OneByOne one s (x ∷ others)) v)
led_on one s u v x others (Ok w) h k = one_taken s u x others [] (Made [] v) h k
led_on one s u v x others (Err (fault.Refused r)) h k = one_taken s u x others [] (Refused r) h k
led_on one s u v x others (Err fault.Memory) h k = tt

-- the others are taken in the same context
pub told_first_taken : {C S X Y Z : Type 0} (one : C → S → X → Taken S → Type 0) (c d : C) (s u v : S) (x : X) (others all : List X) (z : Result Y ItemFault) (w : Y) (y : Result Z ItemFault) → all ≡ x ∷ others → OnTaken z (Leads (one c s x) u) → z ≡ Ok w →
    d ≡ c → OnTaken y (Leads (OneByOne (one d) u others) v) → OnTaken y (Leads (OneByOne (one c) s all) v)
told_first_taken one c d s u v x others all z w y e h ez ed k =
    subst (λ ys. OnTaken y (Leads (OneByOne (one c) s ys) v)) (sym e)
    (led_on (one c) s u v x others y (on_ok (Leads (one c s x) u) z w ez h) (subst (λ b. OnTaken y (Leads (OneByOne (one b) u others) v)) ed k))

-- so of members with commas before them
pub told_next_refused : {S X Y : Type 0} (Z : Type 0) (one : S → X → Taken S → Type 0) (s u v : S) (t : Next Comma X) (others ts : List (Next Comma X)) (z : Result Y ItemFault) (f : ItemFault) → ts ≡ t ∷ others → OnTaken z (Leads (one s t.tree) u) → z ≡ Err f →
    OnTaken {X = Z} (Err f) (Leads (OneByOne one s (map tree_of ts)) v)
told_next_refused Z one s u v t others ts z f e h ez = told_first_refused Z one s u v t.tree (map tree_of others) (map tree_of ts) z f (ap (map tree_of) e) h ez

pub told_next_taken : {C S X Y Z : Type 0} (one : C → S → X → Taken S → Type 0) (c d : C) (s u v : S) (t : Next Comma X) (others ts : List (Next Comma X)) (z : Result Y ItemFault) (w : Y) (y : Result Z ItemFault) → ts ≡ t ∷ others → OnTaken z (Leads (one c s t.tree) u) → z ≡ Ok w →
    d ≡ c → OnTaken y (Leads (OneByOne (one d) u (map tree_of others)) v) → OnTaken y (Leads (OneByOne (one c) s (map tree_of ts)) v)
told_next_taken one c d s u v t others ts z w y e h ez ed k = told_first_taken one c d s u v t.tree (map tree_of others) (map tree_of ts) z w y (ap (map tree_of) e) h ez ed k

pub told_members : {X : Type 0} (ts : Separated X) (x : X) (ns : List (Next Comma X)) → x ≡ ts.first → ns ≡ ts.more → members ts ≡ x ∷ map tree_of ns
told_members ts x ns ex en = ap (λ r. ts.first ∷ map tree_of r) (sym en) ∙ ap (λ y. y ∷ map tree_of ns) (sym ex)

-- no obligation is put behind the others
pub told_brought : {X Y : Type 0} (P : Taken Y → Type 0) (u : Y) (os : List Obligation) (z : Result X ItemFault) → OnTaken z (Leads P u) → OnTaken z (Brings P u os os)
told_brought P u os (Ok v) h = record { made = []; is_made = h; are_last = sym (append-nil os) }
told_brought P u os (Err (fault.Refused r)) h = h
told_brought P u os (Err fault.Memory) h = tt
