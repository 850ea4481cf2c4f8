-- What the code that reads one after another tells.
use Rattle.std.proofs.Common.{◌≡◌, ◌∙◌, List, [], ◌∷◌, ◌++◌, length, map, refl, sym, subst}
use Rattle.std.specs.Prelude.{Result, Ok, Err, OnOk}
use Rattle.mz_core.specs.declared.outcome.Left.{Left}
use Rattle.mz_context.specs.declared.context.Context.{Context}
use Rattle.mz_names.specs.declared.refusal.Refusal.{Refusal}
use Rattle.mz_cited.specs.Cited.{members, tree_of}
use Rattle.mz_parts.specs.Propositions.{all_read}
use Rattle.mz_parts.proofs.ReadLemmas.{read_by, refused_by, read_more, ok-inj, err-ok}
use Rattle.mz_resolve.specs.Answers.{OnRead}
use Rattle.mz_resolve.specs.declared.resolve_fault.ResolveFault.{ResolveFault}
use Rattle.mz_tree.specs.declared.chain.Next.{Next}
use Rattle.mz_tree.specs.declared.lists.Separated.{Separated}
use Rattle.mz_tree.specs.declared.word.Comma.{Comma}
use Rattle.mz_meanings.specs.Each as ea
use Rattle.mz_meanings.specs.Each.{EachRead}

no_members : {X : Type 0} (xs : List X) → length xs ≡ 0 → xs ≡ []
no_members [] e = refl
no_members (x ∷ xs) e = let wrong : ⊥ = cc in absurd wrong

-- the context stays
pub ok_same : {X : Type 0} (z : Result X ResolveFault) (x : X) (c d : Context) → OnOk z (d ≡ c) → z ≡ Ok x → d ≡ c
ok_same z x c d h e = subst (λ y. OnOk y (d ≡ c)) e h

pub kept_on : {X Y : Type 0} (z : Result X ResolveFault) (x : X) (y : Result Y ResolveFault) (c d b : Context) → OnOk z (d ≡ c) → z ≡ Ok x → OnOk y (b ≡ d) → OnOk y (b ≡ c)
kept_on z x y c d b h e k = subst (λ (a : Context). OnOk y (b ≡ a)) (ok_same z x c d h e) k

pub kept_there : {X : Type 0} (z : Result X ResolveFault) (x : X) (a b d : Context) → OnOk z (d ≡ b) → z ≡ Ok x → b ≡ a → d ≡ a
kept_there z x a b d h e k = ok_same z x b d h e ∙ k

pub kept_then : {X : Type 0} (z : Result X ResolveFault) (x : X) (c d b : Context) → OnOk z (d ≡ c) → z ≡ Ok x → b ≡ d → b ≡ c
kept_then z x c d b h e k = k ∙ ok_same z x c d h e

pub kept_always : {X : Type 0} (z : Result X ResolveFault) (c d : Context) → d ≡ c → OnOk z (d ≡ c)
kept_always (Ok x) c d h = h
kept_always (Err f) c d h = tt

pub ruleset kept_rules = (kept_on, kept_then, kept_always)

-- one, and then others
ended : {T K : Type 0} (one : Left → T → Result K Refusal → Left → Type 0) (left after : Left) (out : List K) (o : Result (List K) Refusal) → EachRead one left [] out o after → (o ≡ Ok out) × (after ≡ left)
ended one left _ out _ (ea.no_more _ _) = (refl, refl)

one_then : {T K : Type 0} (one : Left → T → Result K Refusal → Left → Type 0) (left between after : Left) (t : T) (ts : List T) (out more : List K) (o : Result (List K) Refusal) →
    EachRead one left (t ∷ []) out (Ok more) between → EachRead one between ts more o after → EachRead one left (t ∷ ts) out o after
one_then one left between after t ts out more o (ea.one_read _ middle _ _ _ _ x _ h k) g =
    let is = ended one middle between (out ++ x ∷ []) (Ok more) k in
    let same : more ≡ out ++ x ∷ [] = ok-inj more (out ++ x ∷ []) is.0 in
    ea.one_read left middle after t ts out x o h (subst (λ l. EachRead one l ts (out ++ x ∷ []) o after) is.1 (subst (λ xs. EachRead one between ts xs o after) same g))

one_alone : {T K : Type 0} (one : Left → T → Result K Refusal → Left → Type 0) (left after : Left) (t : T) (ts : List T) (out : List K) (r : Refusal) → EachRead one left (t ∷ []) out (Err r) after → EachRead one left (t ∷ ts) out (Err r) after
one_alone one left after t ts out r (ea.one_refused _ _ _ _ _ _ h) = ea.one_refused left after t ts out r h
one_alone one left after t ts out r (ea.one_read _ middle _ _ _ _ x _ h k) =
    let is = ended one middle after (out ++ x ∷ []) (Err r) k in
    absurd (err-ok r (out ++ x ∷ []) is.0)

-- the trees behind commas
abbrev pub Gives : {T K : Type 0} → (Left → T → Result K Refusal → Left → Type 0) → Left → List (Next Comma T) → List K → Left → List (Next Comma T) → List K → Type 0
Gives {T} {K} one left rest out from all before = (o : Result (List K) Refusal) (after : Left) → EachRead one left (map tree_of rest) out o after → EachRead one from (map tree_of all) before o after

pub told_begun : {T K : Type 0} (one : Left → T → Result K Refusal → Left → Type 0) (left : Left) (all : List (Next Comma T)) (out : List K) → Gives one left all out left all out
told_begun one left all out = λ o after h. h

pub told_end : {T K : Type 0} (one : Left → T → Result K Refusal → Left → Type 0) (left from : Left) (rest all : List (Next Comma T)) (out before : List K) → length rest ≡ 0 → Gives one left rest out from all before → EachRead one from (map tree_of all) before (Ok out) left
told_end one left from rest all out before er g = g (Ok out) left (subst (λ xs. EachRead one left (map tree_of xs) out (Ok out) left) (sym (no_members rest er)) (ea.no_more left out))

pub told_stop : {T K X : Type 0} (Y : Type 0) (one : Context → Left → T → Result K Refusal → Left → Type 0) (c d : Context) (left from after : Left) (rest others all : List (Next Comma T)) (x : Next Comma T) (out more before : List K) (q : Result X ResolveFault) (f : ResolveFault) →
    rest ≡ x ∷ others → OnRead q (λ o. EachRead (one d) left (x.tree ∷ []) out (all_read o more) after) → q ≡ Err f → d ≡ c → Gives (one c) left rest out from all before →
    OnRead {X = Y} (Err f) (λ o. EachRead (one c) from (map tree_of all) before (all_read o more) after)
told_stop {T} {K} {X} Y one c d left from after rest others all x out more before q f er h eq ed g =
    let P : Result X Refusal → Type 0 = λ o. EachRead (one d) left (x.tree ∷ []) out (all_read o more) after in
    let Q : Result Y Refusal → Type 0 = λ o. EachRead (one c) from (map tree_of all) before (all_read o more) after in
    refused_by P Q q f h eq (λ r k. g (Err r) after (subst (λ xs. EachRead (one c) left (map tree_of xs) out (Err r) after) (sym er)
    (one_alone (one c) left after x.tree (map tree_of others) out r (subst (λ (y : Context). EachRead (one y) left (x.tree ∷ []) out (Err r) after) ed k))))

pub told_turn : {T K X : Type 0} (one : Context → Left → T → Result K Refusal → Left → Type 0) (c d : Context) (left from after : Left) (rest others all : List (Next Comma T)) (x : Next Comma T) (out more before : List K) (q : Result X ResolveFault) (y : X) →
    rest ≡ x ∷ others → OnRead q (λ o. EachRead (one d) left (x.tree ∷ []) out (all_read o more) after) → q ≡ Ok y → d ≡ c → Gives (one c) left rest out from all before → Gives (one c) after others more from all before
told_turn {T} {K} {X} one c d left from after rest others all x out more before q y er h eq ed g o end k =
    let P : Result X Refusal → Type 0 = λ z. EachRead (one d) left (x.tree ∷ []) out (all_read z more) after in
    let here : EachRead (one c) left (x.tree ∷ []) out (Ok more) after = subst (λ (z : Context). EachRead (one z) left (x.tree ∷ []) out (Ok more) after) ed (read_by P q y h eq) in
    g o end (subst (λ xs. EachRead (one c) left (map tree_of xs) out o end) (sym er) (one_then (one c) left after end x.tree (map tree_of others) out more o here k))

pub ruleset each_rules = (told_begun, told_end, kept_there)

-- the first and then the others
pub told_first_refused : {T K X : Type 0} (Y : Type 0) (one : Left → T → Result K Refusal → Left → Type 0) (left after : Left) (xs ys : Separated T) (out more others : List K) (q : Result X ResolveFault) (f : ResolveFault) →
    xs ≡ ys → OnRead q (λ o. EachRead one left (xs.first ∷ []) out (all_read o more) after) → q ≡ Err f → OnRead {X = Y} (Err f) (λ o. EachRead one left (members ys) out (all_read o others) after)
told_first_refused {T} {K} {X} Y one left after xs ys out more others q f ex h eq =
    let P : Result X Refusal → Type 0 = λ o. EachRead one left (xs.first ∷ []) out (all_read o more) after in
    let Q : Result Y Refusal → Type 0 = λ o. EachRead one left (members ys) out (all_read o others) after in
    refused_by P Q q f h eq (λ r k. subst (λ (z : Separated T). EachRead one left (members z) out (Err r) after) ex (one_alone one left after xs.first (map tree_of xs.more) out r k))

pub told_first_read : {T K X Y : Type 0} (one : Context → Left → T → Result K Refusal → Left → Type 0) (c d : Context) (left between after : Left) (xs ys : Separated T) (slice : List (Next Comma T)) (out more all : List K) (q : Result X ResolveFault) (x : X) (a : Result Y ResolveFault) →
    xs ≡ ys → OnRead q (λ o. EachRead (one c) left (xs.first ∷ []) out (all_read o more) between) → q ≡ Ok x → OnOk q (d ≡ c) → slice ≡ xs.more → OnRead a (λ o. EachRead (one d) between (map tree_of slice) more (all_read o all) after) →
    OnRead a (λ o. EachRead (one c) left (members ys) out (all_read o all) after)
told_first_read {T} {K} {X} {Y} one c d left between after xs ys slice out more all q x a ex h eq es el k =
    let P : Result X Refusal → Type 0 = λ o. EachRead (one c) left (xs.first ∷ []) out (all_read o more) between in
    let Q : Result Y Refusal → Type 0 = λ o. EachRead (one d) between (map tree_of slice) more (all_read o all) after in
    let R : Result Y Refusal → Type 0 = λ o. EachRead (one c) left (members ys) out (all_read o all) after in
    read_more Q R a k
    (λ o g. subst (λ (z : Separated T). EachRead (one c) left (members z) out (all_read o all) after) ex
    (one_then (one c) left between after xs.first (map tree_of xs.more) out more (all_read o all) (read_by P q x h eq)
    (subst (λ (l : List (Next Comma T)). EachRead (one c) between (map tree_of l) more (all_read o all) after) el
    (subst (λ (z : Context). EachRead (one z) between (map tree_of slice) more (all_read o all) after) (ok_same q x c d es eq) g))))

-- the whole
from_none : {T K : Type 0} (one : Left → T → Result K Refusal → Left → Type 0) (left after : Left) (ts : List T) (out : List K) (o : Result (List K) Refusal) → out ≡ [] → EachRead one left ts out o after → EachRead one left ts [] o after
from_none one left after ts out o e h = subst (λ xs. EachRead one left ts xs o after) e h

pub told_whole : {T K X : Type 0} (one : Left → T → Result K Refusal → Left → Type 0) (left after : Left) (ts : List T) (out more : List K) (q : Result X ResolveFault) (x : X) → out ≡ [] → OnRead q (λ o. EachRead one left ts out (all_read o more) after) → q ≡ Ok x →
    EachRead one left ts [] (Ok more) after
told_whole {T} {K} {X} one left after ts out more q x eo h eq =
    let P : Result X Refusal → Type 0 = λ o. EachRead one left ts out (all_read o more) after in
    from_none one left after ts out (Ok more) eo (read_by P q x h eq)

pub told_whole_refused : {T K X : Type 0} (one : Left → T → Result K Refusal → Left → Type 0) (left after : Left) (ts : List T) (out more : List K) (q : Result X ResolveFault) (f : ResolveFault) → out ≡ [] → OnRead q (λ o. EachRead one left ts out (all_read o more) after) → q ≡ Err f →
    OnRead {X = List K} (Err f) (λ o. EachRead one left ts [] o after)
told_whole_refused {T} {K} {X} one left after ts out more q f eo h eq =
    let P : Result X Refusal → Type 0 = λ o. EachRead one left ts out (all_read o more) after in
    let Q : Result (List K) Refusal → Type 0 = λ o. EachRead one left ts [] o after in
    refused_by P Q q f h eq (λ r k. from_none one left after ts out (Err r) eo k)

pub ruleset whole_rules = (told_whole, told_whole_refused, kept_on, kept_then, kept_always)
