-- Parts one after another: where each part has one value at most, so has the whole.
use Rattle.std.proofs.Common.{◌≡◌, Bool, true, false, Option, Some, None, sym, ◌∙◌, subst}
use Rattle.std.specs.Prelude.{Result, Ok, Err}
use Rattle.std.proofs.lemmas.Bool.{false≢true}
use Rattle.mz_core.specs.declared.outcome.Left.{Left}
use Rattle.mz_justified_laws.specs.Determined.{AtMostOne, SameLeft, IsDetermined}

-- as another relation that has
pub one_by : {O : Type 0} (related form : O → Type 0) → ((o : O) → related o → form o) → AtMostOne form → AtMostOne related
one_by related form by one o p h k = one o p (by o h) (by p k)

-- a value alone
pub one_value : {O : Type 0} (x : O) → AtMostOne (λ (o : O). o ≡ x)
one_value x o p h k = h ∙ sym k

-- the one or the other, by a test
abbrev pub IfSo : Bool → Type 0 → Type 0 → Type 0
IfSo true A B = A
IfSo false A B = B

true_false : true ≡ false → ⊥
true_false e = cc

pub if_so : (b : Bool) (A B : Type 0) → b ≡ true → A → IfSo b A B
if_so true A B e h = h
if_so false A B e h = absurd (false≢true e)

pub if_not : (b : Bool) (A B : Type 0) → b ≡ false → B → IfSo b A B
if_not true A B e h = absurd (true_false e)
if_not false A B e h = h

pub one_if : {O : Type 0} (b : Bool) (A B : O → Type 0) → AtMostOne A → AtMostOne B → AtMostOne (λ (o : O). IfSo b (A o) (B o))
one_if true A B one other o p h k = one o p h k
one_if false A B one other o p h k = other o p h k

-- behind what is there or isn't
abbrev pub NextSome : {X O : Type 0} → O → (X → O → Type 0) → Option X → O → Type 0
NextSome bad next None o = o ≡ bad
NextSome bad next (Some x) o = next x o

pub one_next_some : {X O : Type 0} (bad : O) (next : X → O → Type 0) → ((x : X) → AtMostOne (next x)) → (z : Option X) → AtMostOne (NextSome bad next z)
one_next_some bad next one None o p h k = h ∙ sym k
one_next_some bad next one (Some x) o p h k = one x o p h k

-- behind what is made or refused
abbrev pub NextOk : {X F O : Type 0} → (F → O) → (X → O → Type 0) → Result X F → O → Type 0
NextOk bad next (Err r) o = o ≡ bad r
NextOk bad next (Ok x) o = next x o

pub one_next_ok : {X F O : Type 0} (bad : F → O) (next : X → O → Type 0) → ((x : X) → AtMostOne (next x)) → (z : Result X F) → AtMostOne (NextOk bad next z)
one_next_ok bad next one (Err r) o p h k = h ∙ sym k
one_next_ok bad next one (Ok x) o p h k = one x o p h k

-- a part, and what stands behind it
abbrev pub After : {X O : Type 0} → (X → Type 0) → (X → O → Type 0) → O → Type 0
After {X} part next o = (q : X) × part q × next q o

pub one_after : {X O : Type 0} (part : X → Type 0) (next : X → O → Type 0) → AtMostOne part → ((q : X) → AtMostOne (next q)) → AtMostOne (After part next)
one_after {X} part next one then o p h k = then h.0 o p h.2 (subst (λ (z : X). next z p) (sym (one h.0 k.0 h.1 k.1)) k.2)

-- what is made of the last part
abbrev pub Makes : {X O : Type 0} → (X → Type 0) → (X → O) → O → Type 0
Makes {X} part make o = (q : X) × part q × (o ≡ make q)

pub one_made : {X O : Type 0} (part : X → Type 0) (make : X → O) → AtMostOne part → AtMostOne (Makes part make)
one_made {X} part make one o p h k = subst (λ (z : X). o ≡ make z) (one h.0 k.0 h.1 k.1) h.2 ∙ sym k.2

-- behind what is read, with what is left, or refused
abbrev pub NextRead : {X F O : Type 0} → (F → O) → (X → Left → O → Type 0) → Result X F → Left → O → Type 0
NextRead bad next (Err r) l o = o ≡ bad r
NextRead bad next (Ok x) l o = next x l o

abbrev pub AfterRead : {X F O : Type 0} → (Result X F → Left → Type 0) → (F → O) → (X → Left → O → Type 0) → O → Type 0
AfterRead {X} {F} part bad next o = (q : Result X F) × (l : Left) × part q l × NextRead bad next q l o

with_left_read : {X F O : Type 0} (bad : F → O) (next : X → Left → O → Type 0) (q : Result X F) (l m : Left) (p : O) → SameLeft q l m → NextRead bad next q m p → NextRead bad next q l p
with_left_read bad next (Err r) l m p s h = h
with_left_read bad next (Ok x) l m p s h = subst (λ (z : Left). next x z p) (sym s) h

one_next_read : {X F O : Type 0} (bad : F → O) (next : X → Left → O → Type 0) → ((x : X) (l : Left) → AtMostOne (next x l)) → (q : Result X F) (l : Left) → AtMostOne (NextRead bad next q l)
one_next_read bad next one (Err r) l o p h k = h ∙ sym k
one_next_read bad next one (Ok x) l o p h k = one x l o p h k

pub one_after_read : {X F O : Type 0} (part : Result X F → Left → Type 0) (bad : F → O) (next : X → Left → O → Type 0) → IsDetermined part → ((x : X) (l : Left) → AtMostOne (next x l)) → AtMostOne (AfterRead part bad next)
one_after_read {X} {F} part bad next one then o p h k =
    let same : (h.0 ≡ k.0) × SameLeft h.0 h.1 k.1 = one h.0 k.0 h.1 k.1 h.2 k.2 in
    one_next_read bad next then h.0 h.1 o p h.3 (with_left_read bad next h.0 h.1 k.1 p same.1 (subst (λ (z : Result X F). NextRead bad next z k.1 p) (sym same.0) k.3))

-- the same for what is read with what is left: as another relation
pub determined_by : {X Y : Type 0} (related form : Result X Y → Left → Type 0) → ((o : Result X Y) (a : Left) → related o a → form o a) → IsDetermined form → IsDetermined related
determined_by related form by one o p a b h k = one o p a b (by o a h) (by p b k)

same_left : {X Y : Type 0} (o : Result X Y) (a b : Left) → a ≡ b → SameLeft o a b
same_left (Ok x) a b e = e
same_left (Err r) a b e = tt

any_left : {X Y : Type 0} (o : Result X Y) (r : Y) (a b : Left) → o ≡ Err r → SameLeft o a b
any_left {X} {Y} o r a b e = subst (λ (z : Result X Y). SameLeft z a b) (sym e) tt

-- a value alone
abbrev pub IsValue : {X Y : Type 0} → Result X Y → Left → Result X Y → Left → Type 0
IsValue x l o a = (o ≡ x) × (a ≡ l)

pub determined_value : {X Y : Type 0} (x : Result X Y) (l : Left) → IsDetermined (IsValue x l)
determined_value x l o p a b h k = (h.0 ∙ sym k.0, same_left o a b (h.1 ∙ sym k.1))

-- what a part makes, behind which this is left
abbrev pub IsMade : {X Y : Type 0} → (X → Type 0) → Left → Result X Y → Left → Type 0
IsMade {X} part l o a = (q : X) × part q × (o ≡ Ok q) × (a ≡ l)

pub determined_made : {X Y : Type 0} (part : X → Type 0) (l : Left) → AtMostOne part → IsDetermined {X = X} {Y = Y} (IsMade part l)
determined_made {X} part l one o p a b h k = (subst (λ (z : X). o ≡ Ok z) (one h.0 k.0 h.1 k.1) h.2 ∙ sym k.2, same_left o a b (h.3 ∙ sym k.3))

-- a part, and what stands behind it
abbrev pub ThenNext : {X F Y G : Type 0} → (F → G) → (X → Left → Result Y G → Left → Type 0) → Result X F → Left → Result Y G → Left → Type 0
ThenNext bad next (Err r) l o a = o ≡ Err (bad r)
ThenNext bad next (Ok x) l o a = next x l o a

abbrev pub ThenRead : {X F Y G : Type 0} → (Result X F → Left → Type 0) → (F → G) → (X → Left → Result Y G → Left → Type 0) → Result Y G → Left → Type 0
ThenRead {X} {F} part bad next o a = (q : Result X F) × (l : Left) × part q l × ThenNext bad next q l o a

with_left_next : {X F Y G : Type 0} (bad : F → G) (next : X → Left → Result Y G → Left → Type 0) (q : Result X F) (l m : Left) (p : Result Y G) (b : Left) → SameLeft q l m → ThenNext bad next q m p b → ThenNext bad next q l p b
with_left_next bad next (Err r) l m p b s h = h
with_left_next bad next (Ok x) l m p b s h = subst (λ (z : Left). next x z p b) (sym s) h

determined_next : {X F Y G : Type 0} (bad : F → G) (next : X → Left → Result Y G → Left → Type 0) → ((x : X) (l : Left) → IsDetermined (next x l)) → (q : Result X F) (l : Left) → IsDetermined (ThenNext bad next q l)
determined_next bad next one (Err r) l o p a b h k = (h ∙ sym k, any_left o (bad r) a b h)
determined_next bad next one (Ok x) l o p a b h k = one x l o p a b h k

pub determined_then : {X F Y G : Type 0} (part : Result X F → Left → Type 0) (bad : F → G) (next : X → Left → Result Y G → Left → Type 0) → IsDetermined part → ((x : X) (l : Left) → IsDetermined (next x l)) → IsDetermined (ThenRead part bad next)
determined_then {X} {F} part bad next one then o p a b h k =
    let same : (h.0 ≡ k.0) × SameLeft h.0 h.1 k.1 = one h.0 k.0 h.1 k.1 h.2 k.2 in
    determined_next bad next then h.0 h.1 o p a b h.3 (with_left_next bad next h.0 h.1 k.1 p b same.1 (subst (λ (z : Result X F). ThenNext bad next z k.1 p b) (sym same.0) k.3))

-- a refusal is told as it is
abbrev pub as_it_is : {X : Type 0} → X → X
as_it_is r = r

-- the one or the other, by a test
pub determined_if : {X Y : Type 0} (test : Bool) (A B : Result X Y → Left → Type 0) → IsDetermined A → IsDetermined B → IsDetermined (λ (o : Result X Y) (a : Left). IfSo test (A o a) (B o a))
determined_if true A B one other o p a b h k = one o p a b h k
determined_if false A B one other o p a b h k = other o p a b h k

-- a refusal alone
abbrev pub IsRefused : {X Y : Type 0} → Y → Result X Y → Left → Type 0
IsRefused r o a = o ≡ Err r

pub determined_refused : {X Y : Type 0} (r : Y) → IsDetermined {X = X} {Y = Y} (IsRefused r)
determined_refused r o p a b h k = (h ∙ sym k, any_left o r a b h)
