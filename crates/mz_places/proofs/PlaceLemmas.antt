-- What the code of the types of places tells.
use Rattle.std.proofs.Common.{◌≡◌, ℕ, List, [], ◌∷◌, ◌++◌, length, map, refl, sym, ap, ◌∙◌, subst, Option, Some, None}
use Rattle.std.specs.Prelude.{Result, Ok, Err}
use Rattle.mz_core.specs.declared.outcome.Left.{Left}
use Rattle.mz_core.specs.declared.soft_type.SoftType.{SoftType}
use Rattle.mz_context.specs.declared.context.Context.{Context}
use Rattle.mz_environment.specs.declared.environment.Environment.{Environment}
use Rattle.mz_names.specs.declared.refusal.Refusal.{Refusal}
use Rattle.mz_fits.proofs.FitLemmas.{empty}
use Rattle.mz_tree.specs.Trees.{TypeData}
use Rattle.mz_tree.specs.declared.chain.Next.{Next}
use Rattle.mz_tree.specs.declared.lists.Separated.{Separated}
use Rattle.mz_tree.specs.declared.word.Comma.{Comma}
use Rattle.mz_cited.specs.Cited.{members, tree_of}
use Rattle.mz_resolve.specs.Answers.{OnRead}
use Rattle.mz_resolve.specs.Calls.{TypeRead}
use Rattle.mz_resolve.specs.declared.resolve_fault.ResolveFault.{ResolveFault}
use Rattle.mz_parts.specs.Propositions.{all_read}
pub use Rattle.mz_parts.proofs.ReadLemmas.{read_by, refused_by}
use Rattle.mz_parts.proofs.ReadLemmas.{read_more, ok-inj, err-ok}
use Rattle.mz_places.specs.Places as pl
use Rattle.mz_places.specs.Places.{TypesReadBehind, types_in, PlacesRead}

-- one type
pub told_one : (e : Environment) (c : Context) (least : ℕ) (left after : Left) (t : TypeData) (out more : List SoftType) (p : Result SoftType ResolveFault) (ty : SoftType) →
    OnRead p (λ o. TypeRead e c least left t o after) → p ≡ Ok ty → more ≡ out ++ ty ∷ [] → TypesReadBehind e c least left (t ∷ []) out (Ok more) after
told_one e c least left after t out more p ty h ep em =
    let T : Result SoftType Refusal → Type 0 = λ o. TypeRead e c least left t o after in
    let P : List SoftType → Type 0 = λ xs. TypesReadBehind e c least left (t ∷ []) out (Ok xs) after in
    subst P (sym em) (pl.one_read left after after t [] out ty (Ok (out ++ ty ∷ [])) (read_by T p ty h ep) (pl.no_more after (out ++ ty ∷ [])))

pub told_one_refused : (Y : Type 0) (e : Environment) (c : Context) (least : ℕ) (left after : Left) (t : TypeData) (out more : List SoftType) (p : Result SoftType ResolveFault) (f : ResolveFault) →
    OnRead p (λ o. TypeRead e c least left t o after) → p ≡ Err f → OnRead {X = Y} (Err f) (λ o. TypesReadBehind e c least left (t ∷ []) out (all_read o more) after)
told_one_refused Y e c least left after t out more p f h ep =
    let T : Result SoftType Refusal → Type 0 = λ o. TypeRead e c least left t o after in
    let Q : Result Y Refusal → Type 0 = λ o. TypesReadBehind e c least left (t ∷ []) out (all_read o more) after in
    refused_by T Q p f h ep (λ r k. pl.one_refused left after t [] out r k)

pub ruleset one_rules = (told_one, told_one_refused)

-- one after another
ended : (e : Environment) (c : Context) (least : ℕ) (left after : Left) (out : List SoftType) (o : Result (List SoftType) Refusal) → TypesReadBehind e c least left [] out o after → (o ≡ Ok out) × (after ≡ left)
ended e c least left _ out _ (pl.no_more _ _) = (refl, refl)

one_then : (e : Environment) (c : Context) (least : ℕ) (left between after : Left) (t : TypeData) (ts : List TypeData) (out more : List SoftType) (o : Result (List SoftType) Refusal) →
    TypesReadBehind e c least left (t ∷ []) out (Ok more) between → TypesReadBehind e c least between ts more o after → TypesReadBehind e c least left (t ∷ ts) out o after
one_then e c least left between after t ts out more o (pl.one_read _ middle _ _ _ _ ty _ h k) g =
    let is = ended e c least middle between (out ++ ty ∷ []) (Ok more) k in
    let same : more ≡ out ++ ty ∷ [] = ok-inj more (out ++ ty ∷ []) is.0 in
    pl.one_read left middle after t ts out ty o h (subst (λ l. TypesReadBehind e c least l ts (out ++ ty ∷ []) o after) is.1 (subst (λ xs. TypesReadBehind e c least between ts xs o after) same g))

one_alone : (e : Environment) (c : Context) (least : ℕ) (left after : Left) (t : TypeData) (ts : List TypeData) (out : List SoftType) (r : Refusal) →
    TypesReadBehind e c least left (t ∷ []) out (Err r) after → TypesReadBehind e c least left (t ∷ ts) out (Err r) after
one_alone e c least left after t ts out r (pl.one_refused _ _ _ _ _ _ h) = pl.one_refused left after t ts out r h
one_alone e c least left after t ts out r (pl.one_read _ middle _ _ _ _ ty _ h k) =
    let is = ended e c least middle after (out ++ ty ∷ []) (Err r) k in
    absurd (err-ok r (out ++ ty ∷ []) is.0)

-- what the rest gives, all give
abbrev pub Gives : Environment → Context → ℕ → Left → List (Next Comma TypeData) → List SoftType → Left → List (Next Comma TypeData) → List SoftType → Type 0
Gives e c least left rest out from all before = (o : Result (List SoftType) Refusal) (after : Left) → TypesReadBehind e c least left (map tree_of rest) out o after → TypesReadBehind e c least from (map tree_of all) before o after

pub told_each_end : (e : Environment) (c : Context) (least : ℕ) (left from : Left) (rest all : List (Next Comma TypeData)) (out before : List SoftType) → length rest ≡ 0 → Gives e c least left rest out from all before →
    TypesReadBehind e c least from (map tree_of all) before (Ok out) left
told_each_end e c least left from rest all out before er g = g (Ok out) left (subst (λ xs. TypesReadBehind e c least left (map tree_of xs) out (Ok out) left) (sym (empty rest er)) (pl.no_more left out))

at_first : {X : Type 0} (e : Environment) (c d : Context) (least : ℕ) (left after : Left) (x : TypeData) (out more : List SoftType) (q : Result X ResolveFault) → d ≡ c → OnRead q (λ o. TypesReadBehind e d least left (x ∷ []) out (all_read o more) after) →
    OnRead q (λ o. TypesReadBehind e c least left (x ∷ []) out (all_read o more) after)
at_first e c d least left after x out more q ed h = subst (λ z. OnRead q (λ o. TypesReadBehind e z least left (x ∷ []) out (all_read o more) after)) ed h

pub told_each_stop : {X : Type 0} (Y : Type 0) (e : Environment) (c d : Context) (least : ℕ) (left from after : Left) (rest others all : List (Next Comma TypeData)) (x : Next Comma TypeData) (out more before : List SoftType) (q : Result X ResolveFault) (f : ResolveFault) →
    rest ≡ x ∷ others → d ≡ c → OnRead q (λ o. TypesReadBehind e d least left (x.tree ∷ []) out (all_read o more) after) → q ≡ Err f → Gives e c least left rest out from all before →
    OnRead {X = Y} (Err f) (λ o. TypesReadBehind e c least from (map tree_of all) before (all_read o more) after)
told_each_stop {X} Y e c d least left from after rest others all x out more before q f er ed h eq g =
    let P : Result X Refusal → Type 0 = λ o. TypesReadBehind e c least left (x.tree ∷ []) out (all_read o more) after in
    let Q : Result Y Refusal → Type 0 = λ o. TypesReadBehind e c least from (map tree_of all) before (all_read o more) after in
    refused_by P Q q f (at_first e c d least left after x.tree out more q ed h) eq
    (λ r k. g (Err r) after (subst (λ xs. TypesReadBehind e c least left (map tree_of xs) out (Err r) after) (sym er) (one_alone e c least left after x.tree (map tree_of others) out r k)))

pub told_each_turn : {X : Type 0} (e : Environment) (c d : Context) (least : ℕ) (left from after : Left) (rest others all : List (Next Comma TypeData)) (x : Next Comma TypeData) (out more before : List SoftType) (q : Result X ResolveFault) (y : X) →
    rest ≡ x ∷ others → d ≡ c → OnRead q (λ o. TypesReadBehind e d least left (x.tree ∷ []) out (all_read o more) after) → q ≡ Ok y → Gives e c least left rest out from all before → Gives e c least after others more from all before
told_each_turn {X} e c d least left from after rest others all x out more before q y er ed h eq g o end k =
    let P : Result X Refusal → Type 0 = λ z. TypesReadBehind e c least left (x.tree ∷ []) out (all_read z more) after in
    g o end (subst (λ xs. TypesReadBehind e c least left (map tree_of xs) out o end) (sym er) (one_then e c least left after end x.tree (map tree_of others) out more o (read_by P q y (at_first e c d least left after x.tree out more q ed h) eq) k))

pub told_kept : (c d f : Context) → f ≡ d → d ≡ c → f ≡ c
told_kept c d f ed ec = ed ∙ ec

pub ruleset each_rules = (told_each_end, told_each_stop, told_each_turn, told_kept)

-- the first and then the others
first_refused : {X : Type 0} (Y : Type 0) (e : Environment) (c : Context) (least : ℕ) (left after : Left) (xs : Separated TypeData) (out more : List SoftType) (q : Result X ResolveFault) (f : ResolveFault) →
    OnRead q (λ o. TypesReadBehind e c least left (xs.first ∷ []) out (all_read o more) after) → q ≡ Err f → OnRead {X = Y} (Err f) (λ o. TypesReadBehind e c least left (members xs) out (all_read o more) after)
first_refused {X} Y e c least left after xs out more q f h eq =
    let P : Result X Refusal → Type 0 = λ o. TypesReadBehind e c least left (xs.first ∷ []) out (all_read o more) after in
    let Q : Result Y Refusal → Type 0 = λ o. TypesReadBehind e c least left (members xs) out (all_read o more) after in
    refused_by P Q q f h eq (λ r k. one_alone e c least left after xs.first (map tree_of xs.more) out r k)

pub told_all_refused : {X : Type 0} (Y : Type 0) (e : Environment) (c : Context) (least : ℕ) (left after : Left) (xs ys : Separated TypeData) (out more : List SoftType) (q : Result X ResolveFault) (f : ResolveFault) → xs ≡ ys →
    OnRead q (λ o. TypesReadBehind e c least left (xs.first ∷ []) out (all_read o more) after) → q ≡ Err f → OnRead {X = Y} (Err f) (λ o. TypesReadBehind e c least left (members ys) out (all_read o more) after)
told_all_refused Y e c least left after xs ys out more q f ex h eq =
    subst (λ z. OnRead {X = Y} (Err f) (λ o. TypesReadBehind e c least left (members z) out (all_read o more) after)) ex (first_refused Y e c least left after xs out more q f h eq)

first_read : {X Y : Type 0} (e : Environment) (c d : Context) (least : ℕ) (left between after : Left) (xs : Separated TypeData) (others : List (Next Comma TypeData)) (out some more : List SoftType) (q : Result X ResolveFault) (x : X) (p : Result Y ResolveFault) →
    OnRead q (λ o. TypesReadBehind e c least left (xs.first ∷ []) out (all_read o some) between) → q ≡ Ok x → d ≡ c → others ≡ xs.more → OnRead p (λ o. TypesReadBehind e d least between (map tree_of others) some (all_read o more) after) →
    OnRead p (λ o. TypesReadBehind e c least left (members xs) out (all_read o more) after)
first_read {X} {Y} e c d least left between after xs others out some more q x p h eq ed eo k =
    let P : Result X Refusal → Type 0 = λ o. TypesReadBehind e c least left (xs.first ∷ []) out (all_read o some) between in
    let B : Result Y Refusal → Type 0 = λ o. TypesReadBehind e d least between (map tree_of others) some (all_read o more) after in
    let Q : Result Y Refusal → Type 0 = λ o. TypesReadBehind e c least left (members xs) out (all_read o more) after in
    let first : TypesReadBehind e c least left (xs.first ∷ []) out (Ok some) between = read_by P q x h eq in
    read_more B Q p k (λ o i. one_then e c least left between after xs.first (map tree_of xs.more) out some (all_read o more) first
    (subst (λ z. TypesReadBehind e z least between (map tree_of xs.more) some (all_read o more) after) ed (subst (λ ys. TypesReadBehind e d least between (map tree_of ys) some (all_read o more) after) eo i)))

pub told_all_read : {X Y : Type 0} (e : Environment) (c d : Context) (least : ℕ) (left between after : Left) (xs ys : Separated TypeData) (others : List (Next Comma TypeData)) (out some more : List SoftType) (q : Result X ResolveFault) (x : X) (p : Result Y ResolveFault) → xs ≡ ys →
    OnRead q (λ o. TypesReadBehind e c least left (xs.first ∷ []) out (all_read o some) between) → q ≡ Ok x → d ≡ c → others ≡ xs.more → OnRead p (λ o. TypesReadBehind e d least between (map tree_of others) some (all_read o more) after) →
    OnRead p (λ o. TypesReadBehind e c least left (members ys) out (all_read o more) after)
told_all_read e c d least left between after xs ys others out some more q x p ex h eq ed eo k =
    subst (λ z. OnRead p (λ o. TypesReadBehind e c least left (members z) out (all_read o more) after)) ex (first_read e c d least left between after xs others out some more q x p h eq ed eo k)

pub ruleset all_rules = (told_all_refused, told_all_read, told_kept)

-- those that are written
pub told_none : (e : Environment) (c : Context) (least : ℕ) (left : Left) (o : Option (Separated TypeData)) (out : List SoftType) → o ≡ None → out ≡ [] → PlacesRead e c least left o (Ok out) left
told_none e c least left o out eo en =
    subst (λ z. PlacesRead e c least left z (Ok out) left) (sym eo) (subst (λ xs. PlacesRead e c least left None (Ok xs) left) (sym en) (pl.no_more left []))

pub told_places : {X : Type 0} (e : Environment) (c : Context) (least : ℕ) (left after : Left) (o : Option (Separated TypeData)) (xs : Separated TypeData) (out more : List SoftType) (q : Result X ResolveFault) (x : X) → o ≡ Some xs → out ≡ [] →
    OnRead q (λ z. TypesReadBehind e c least left (members xs) out (all_read z more) after) → q ≡ Ok x → PlacesRead e c least left o (Ok more) after
told_places {X} e c least left after o xs out more q x eo en h eq =
    let P : Result X Refusal → Type 0 = λ z. TypesReadBehind e c least left (members xs) out (all_read z more) after in
    subst (λ z. PlacesRead e c least left z (Ok more) after) (sym eo) (subst (λ ys. TypesReadBehind e c least left (members xs) ys (Ok more) after) en (read_by P q x h eq))

pub told_places_refused : {X : Type 0} (e : Environment) (c : Context) (least : ℕ) (left after : Left) (o : Option (Separated TypeData)) (xs : Separated TypeData) (out more : List SoftType) (q : Result X ResolveFault) (f : ResolveFault) → o ≡ Some xs → out ≡ [] →
    OnRead q (λ z. TypesReadBehind e c least left (members xs) out (all_read z more) after) → q ≡ Err f → OnRead {X = List SoftType} (Err f) (λ z. PlacesRead e c least left o z after)
told_places_refused {X} e c least left after o xs out more q f eo en h eq =
    let P : Result X Refusal → Type 0 = λ z. TypesReadBehind e c least left (members xs) out (all_read z more) after in
    let Q : Result (List SoftType) Refusal → Type 0 = λ z. PlacesRead e c least left o z after in
    refused_by P Q q f h eq (λ r k. subst (λ z. PlacesRead e c least left z (Err r) after) (sym eo) (subst (λ ys. TypesReadBehind e c least left (members xs) ys (Err r) after) en k))

pub ruleset place_rules = (told_none, told_places, told_places_refused)
