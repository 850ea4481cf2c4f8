-- Answers of calls, and members of a list that are taken one by one and make no obligations.
use Rattle.std.proofs.Common.{◌≡◌, List, [], ◌∷◌, length, map, refl, sym, ap, subst, ◌∙◌}
use Rattle.std.specs.Prelude.{Result, Ok, Err}
use Rattle.mz_names.specs.declared.refusal.Refusal.{Refusal}
use Rattle.mz_cited.specs.Cited.{tree_of}
use Rattle.mz_resolve.specs.Answers.{OnRead}
use Rattle.mz_resolve.specs.declared.resolve_fault.ResolveFault.{ResolveFault}
use Rattle.mz_resolve.specs.declared.resolve_fault.ResolveFault.TheVariants as reading
use Rattle.mz_justified.specs.declared.proof_fault.ProofRefusal.TheVariants.{Resolve}
use Rattle.mz_taken.specs.Answers.{OnTaken, Leads, of_reading}
use Rattle.mz_taken.specs.OneByOne.{OneByOne, none_left, one_refused, one_taken}
use Rattle.mz_taken.specs.Taken.{Taken, Made, Refused, behind}
use Rattle.mz_taken.specs.declared.item_fault.ItemFault.{ItemFault}
use Rattle.mz_taken.specs.declared.item_fault.ItemFault.TheVariants as fault
use Rattle.mz_taken.specs.declared.item_fault.ItemRefusal.{ItemRefusal}
use Rattle.mz_taken.specs.declared.item_fault.ItemRefusal.TheVariants.{Proof}
use Rattle.mz_taken.proofs.OneByOneProofs.{behind_nothing, on_err, on_ok}
use Rattle.mz_tree.specs.declared.chain.Next.{Next}
use Rattle.mz_tree.specs.declared.word.Comma.{Comma}

-- a fault of a reading, as one of an item
unread : {X Y : Type 0} (P : Result X Refusal → Type 0) (Q : Result Y ItemRefusal → Type 0) (f : ResolveFault) → ((r : Refusal) → P (Err r) → Q (Err (Proof (Resolve r)))) → OnRead {X = X} (Err f) P → OnTaken {X = Y} (Err (of_reading f)) Q
unread P Q (reading.Refused r) k h = k r h
unread P Q reading.Memory k h = tt

pub on_unread : {X Y : Type 0} (P : Result X Refusal → Type 0) (Q : Result Y ItemRefusal → Type 0) (x : Result X ResolveFault) (f : ResolveFault) (g : ItemFault) → x ≡ Err f → g ≡ of_reading f → OnRead x P → ((r : Refusal) → P (Err r) → Q (Err (Proof (Resolve r)))) →
    OnTaken {X = Y} (Err g) Q
on_unread P Q x f g e eg h k = subst (λ y. OnTaken (Err y) Q) (sym eg) (unread P Q f k (subst (λ y. OnRead y P) e h))

pub on_read : {X : Type 0} (P : Result X Refusal → Type 0) (x : Result X ResolveFault) (y : X) → x ≡ Ok y → OnRead x P → P (Ok y)
on_read P x y e h = subst (λ z. OnRead z P) e h

-- one member and then others
pub one_more : {S X : Type 0} {one : S → X → Taken S → Type 0} {s t : S} {x : X} {xs : List X} {o : Taken S} → one s x (Made [] t) → OneByOne one t xs o → OneByOne one s (x ∷ xs) o
one_more {one = one} {s = s} {t = t} {x = x} {xs = xs} {o = o} h k = subst (OneByOne one s (x ∷ xs)) (behind_nothing o) (one_taken s t x xs [] o h k)

-- what the rest gives, all give
abbrev pub Going : {S X : Type 0} → (S → X → Taken S → Type 0) → S → List (Next Comma X) → S → List (Next Comma X) → Type 0
Going {S} one s rest s0 all = (o : Taken S) → OneByOne one s (map tree_of rest) o → OneByOne one s0 (map tree_of all) o

pub told_begun : {S X : Type 0} (one : S → X → Taken S → Type 0) (s : S) (all : List (Next Comma X)) → Going one s all s all
told_begun one s all o h = h

empty : {X : Type 0} (xs : List X) → length xs ≡ 0 → xs ≡ []
empty [] e = refl
empty (x ∷ xs) e = let no : ⊥ = cc in absurd no

pub told_end : {S X : Type 0} (one : S → X → Taken S → Type 0) (s s0 : S) (rest all : List (Next Comma X)) → length rest ≡ 0 → Going one s rest s0 all → OneByOne one s0 (map tree_of all) (Made [] s)
told_end one s s0 rest all none on = on (Made [] s) (subst (λ xs. OneByOne one s (map tree_of xs) (Made [] s)) (sym (empty rest none)) (none_left s))

pub told_turn : {S X Y : Type 0} (one : S → X → Taken S → Type 0) (s u s0 : S) (n : Next Comma X) (rest others all : List (Next Comma X)) (z : Result Y ItemFault) (v : Y) → rest ≡ n ∷ others →
    OnTaken z (Leads (one s n.tree) u) → z ≡ Ok v → Going one s rest s0 all → Going one u others s0 all
told_turn one s u s0 n rest others all z v is h e on o k =
    on o (subst (λ xs. OneByOne one s (map tree_of xs) o) (sym is) (one_more (on_ok (Leads (one s n.tree) u) z v e h) k))

pub told_stop : {S X Y : Type 0} (Z : Type 0) (one : S → X → Taken S → Type 0) (s u v s0 : S) (n : Next Comma X) (rest others all : List (Next Comma X)) (z : Result Y ItemFault) (f : ItemFault) → rest ≡ n ∷ others →
    OnTaken z (Leads (one s n.tree) u) → z ≡ Err f → Going one s rest s0 all → OnTaken {X = Z} (Err f) (Leads (OneByOne one s0 (map tree_of all)) v)
told_stop Z one s u v s0 n rest others all z f is h e on =
    on_err (Leads (one s n.tree) u) (Leads (OneByOne one s0 (map tree_of all)) v) z f e h
    (λ r k. on (Refused r) (subst (λ xs. OneByOne one s (map tree_of xs) (Refused r)) (sym is) (one_refused s n.tree (map tree_of others) r k)))

-- the same answer, of which more is told
pub on_same : {X S T : Type 0} (P : Taken S → Type 0) (Q : Taken T → Type 0) (s : S) (t : T) (a : Result X ItemFault) → (P (Made [] s) → Q (Made [] t)) → ((r : ItemRefusal) → P (Refused r) → Q (Refused r)) → OnTaken a (Leads P s) → OnTaken a (Leads Q t)
on_same P Q s t (Ok x) k m h = k h
on_same P Q s t (Err (fault.Refused r)) k m h = m r h
on_same P Q s t (Err fault.Memory) k m h = tt

-- the first member and then the others
pub told_first : {S X Y Z : Type 0} (one : S → X → Taken S → Type 0) (s u v : S) (x : X) (xs : List X) (z : Result Y ItemFault) (y : Y) (a : Result Z ItemFault) → OnTaken z (Leads (one s x) u) → z ≡ Ok y → OnTaken a (Leads (OneByOne one u xs) v) →
    OnTaken a (Leads (OneByOne one s (x ∷ xs)) v)
told_first one s u v x xs z y a h e k =
    let first = on_ok (Leads (one s x) u) z y e h in
    on_same (OneByOne one u xs) (OneByOne one s (x ∷ xs)) v v a (λ p. one_more first p) (λ r p. one_more first p) k

pub told_first_refused : {S X Y : Type 0} (Z : Type 0) (one : S → X → Taken S → Type 0) (s u v : S) (x : X) (xs : List X) (z : Result Y ItemFault) (f : ItemFault) → OnTaken z (Leads (one s x) u) → z ≡ Err f → OnTaken {X = Z} (Err f) (Leads (OneByOne one s (x ∷ xs)) v)
told_first_refused Z one s u v x xs z f h e = on_err (Leads (one s x) u) (Leads (OneByOne one s (x ∷ xs)) v) z f e h (λ r k. one_refused s x xs r k)
