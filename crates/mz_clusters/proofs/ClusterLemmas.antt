-- What the code of clusters tells.
use Rattle.std.proofs.Common.{◌≡◌, ℕ, List, [], ◌∷◌, ◌++◌, length, map, refl, sym, ap, ◌∙◌, subst}
use Rattle.std.specs.Prelude.{Result, Ok, Err}
use Rattle.mz_logic.specs.Term.{Term, Const}
use Rattle.mz_core.specs.declared.adjective.Adjective.{Adjective}
use Rattle.mz_core.specs.declared.outcome.Left.{Left}
use Rattle.mz_core.specs.declared.soft_type.SoftType.{SoftType}
use Rattle.mz_context.specs.declared.constants.Constant.{Constant}
use Rattle.mz_context.specs.declared.context.Context.{Context}
use Rattle.mz_context.specs.Context.{next}
use Rattle.mz_context.specs.Changes.{with_constant}
use Rattle.mz_environment.specs.declared.environment.Environment.{Environment}
use Rattle.mz_names.specs.declared.refusal.Refusal.{Refusal}
use Rattle.mz_fits.proofs.FitLemmas.{empty}
use Rattle.mz_choice.specs.Fresh.{fresh, with_fresh}
use Rattle.mz_choice.specs.declared.choice.Wanted.{Wanted}
use Rattle.mz_choice.specs.declared.choice.Wanted.TheVariants.{AdjectiveOf, AdjectiveOfFresh}
use Rattle.mz_choice.proofs.CoverLemmas.{told_fresh_left}
use Rattle.mz_tree.specs.Trees.{AdjectiveData, AdjectiveList, AdjectivesData, adjectives_of}
use Rattle.mz_tree.specs.Views.{adjective_of}
use Rattle.mz_tree.specs.declared.nodes.AdjectiveNode.{AdjectiveNode}
use Rattle.mz_formulas.specs.Atoms.{listed_adjectives}
use Rattle.mz_formulas.proofs.AtomLemmas.{listed_adjectives-is}
use Rattle.mz_resolve.specs.Answers.{OnRead}
use Rattle.mz_resolve.specs.declared.resolve_fault.ResolveFault.{ResolveFault}
use Rattle.mz_parts.specs.Propositions.{all_read}
use Rattle.mz_parts.proofs.ReadLemmas.{read_by, refused_by, read_more, ok-inj, err-ok}
use Rattle.mz_clusters.specs.Clusters as cl
use Rattle.mz_clusters.specs.Clusters.{AdjectiveRead, AdjectivesReadBehind, listed, AdjectivesRead, AdjectivesOfTermRead, AdjectivesOfTypeRead}

-- one adjective
pub told_one : (e : Environment) (c : Context) (least : ℕ) (w : Wanted) (t : Term) (left after : Left) (a : AdjectiveData) (out more : List Adjective) (p : Result Adjective ResolveFault) (b : Adjective) →
    OnRead p (λ o. AdjectiveRead e c least w t left a o after) → p ≡ Ok b → more ≡ out ++ b ∷ [] → AdjectivesReadBehind e c least w t left (a ∷ []) out (Ok more) after
told_one e c least w t left after a out more p b h ep em =
    let T : Result Adjective Refusal → Type 0 = λ o. AdjectiveRead e c least w t left a o after in
    let P : List Adjective → Type 0 = λ xs. AdjectivesReadBehind e c least w t left (a ∷ []) out (Ok xs) after in
    subst P (sym em) (cl.one_read left after after a [] out b (Ok (out ++ b ∷ [])) (read_by T p b h ep) (cl.no_more after (out ++ b ∷ [])))

pub told_one_refused : (Y : Type 0) (e : Environment) (c : Context) (least : ℕ) (w : Wanted) (t : Term) (left after : Left) (a : AdjectiveData) (out more : List Adjective) (p : Result Adjective ResolveFault) (f : ResolveFault) →
    OnRead p (λ o. AdjectiveRead e c least w t left a o after) → p ≡ Err f → OnRead {X = Y} (Err f) (λ o. AdjectivesReadBehind e c least w t left (a ∷ []) out (all_read o more) after)
told_one_refused Y e c least w t left after a out more p f h ep =
    let T : Result Adjective Refusal → Type 0 = λ o. AdjectiveRead e c least w t left a o after in
    let Q : Result Y Refusal → Type 0 = λ o. AdjectivesReadBehind e c least w t left (a ∷ []) out (all_read o more) after in
    refused_by T Q p f h ep (λ r k. cl.one_refused left after a [] out r k)

pub ruleset one_rules = (told_one, told_one_refused)

-- one after another
ended : (e : Environment) (c : Context) (least : ℕ) (w : Wanted) (t : Term) (left after : Left) (out : List Adjective) (o : Result (List Adjective) Refusal) → AdjectivesReadBehind e c least w t left [] out o after → (o ≡ Ok out) × (after ≡ left)
ended e c least w t left _ out _ (cl.no_more _ _) = (refl, refl)

one_then : (e : Environment) (c : Context) (least : ℕ) (w : Wanted) (t : Term) (left between after : Left) (a : AdjectiveData) (xs : List AdjectiveData) (out more : List Adjective) (o : Result (List Adjective) Refusal) →
    AdjectivesReadBehind e c least w t left (a ∷ []) out (Ok more) between → AdjectivesReadBehind e c least w t between xs more o after → AdjectivesReadBehind e c least w t left (a ∷ xs) out o after
one_then e c least w t left between after a xs out more o (cl.one_read _ middle _ _ _ _ b _ h k) g =
    let is = ended e c least w t middle between (out ++ b ∷ []) (Ok more) k in
    let same : more ≡ out ++ b ∷ [] = ok-inj more (out ++ b ∷ []) is.0 in
    cl.one_read left middle after a xs out b o h (subst (λ l. AdjectivesReadBehind e c least w t l xs (out ++ b ∷ []) o after) is.1 (subst (λ ys. AdjectivesReadBehind e c least w t between xs ys o after) same g))

one_alone : (e : Environment) (c : Context) (least : ℕ) (w : Wanted) (t : Term) (left after : Left) (a : AdjectiveData) (xs : List AdjectiveData) (out : List Adjective) (r : Refusal) →
    AdjectivesReadBehind e c least w t left (a ∷ []) out (Err r) after → AdjectivesReadBehind e c least w t left (a ∷ xs) out (Err r) after
one_alone e c least w t left after a xs out r (cl.one_refused _ _ _ _ _ _ h) = cl.one_refused left after a xs out r h
one_alone e c least w t left after a xs out r (cl.one_read _ middle _ _ _ _ b _ h k) =
    let is = ended e c least w t middle after (out ++ b ∷ []) (Err r) k in
    absurd (err-ok r (out ++ b ∷ []) is.0)

-- what the rest gives, all give
abbrev pub Gives : Environment → Context → ℕ → Wanted → Term → Left → List AdjectiveNode → List Adjective → Left → List AdjectiveNode → List Adjective → Type 0
Gives e c least w t left rest out from all before = (o : Result (List Adjective) Refusal) (after : Left) → AdjectivesReadBehind e c least w t left (map adjective_of rest) out o after → AdjectivesReadBehind e c least w t from (map adjective_of all) before o after

pub told_each_end : (e : Environment) (c : Context) (least : ℕ) (w : Wanted) (t : Term) (left from : Left) (rest all : List AdjectiveNode) (out before : List Adjective) → length rest ≡ 0 → Gives e c least w t left rest out from all before →
    AdjectivesReadBehind e c least w t from (map adjective_of all) before (Ok out) left
told_each_end e c least w t left from rest all out before er g = g (Ok out) left (subst (λ xs. AdjectivesReadBehind e c least w t left (map adjective_of xs) out (Ok out) left) (sym (empty rest er)) (cl.no_more left out))

pub told_each_stop : {X : Type 0} (Y : Type 0) (e : Environment) (c : Context) (least : ℕ) (w : Wanted) (t : Term) (left from after : Left) (rest others all : List AdjectiveNode) (x : AdjectiveNode) (out more before : List Adjective) (q : Result X ResolveFault) (f : ResolveFault) →
    rest ≡ x ∷ others → OnRead q (λ o. AdjectivesReadBehind e c least w t left (adjective_of x ∷ []) out (all_read o more) after) → q ≡ Err f → Gives e c least w t left rest out from all before →
    OnRead {X = Y} (Err f) (λ o. AdjectivesReadBehind e c least w t from (map adjective_of all) before (all_read o more) after)
told_each_stop {X} Y e c least w t left from after rest others all x out more before q f er h eq g =
    let P : Result X Refusal → Type 0 = λ o. AdjectivesReadBehind e c least w t left (adjective_of x ∷ []) out (all_read o more) after in
    let Q : Result Y Refusal → Type 0 = λ o. AdjectivesReadBehind e c least w t from (map adjective_of all) before (all_read o more) after in
    refused_by P Q q f h eq (λ r k. g (Err r) after (subst (λ xs. AdjectivesReadBehind e c least w t left (map adjective_of xs) out (Err r) after) (sym er) (one_alone e c least w t left after (adjective_of x) (map adjective_of others) out r k)))

pub told_each_turn : {X : Type 0} (e : Environment) (c : Context) (least : ℕ) (w : Wanted) (t : Term) (left from after : Left) (rest others all : List AdjectiveNode) (x : AdjectiveNode) (out more before : List Adjective) (q : Result X ResolveFault) (y : X) →
    rest ≡ x ∷ others → OnRead q (λ o. AdjectivesReadBehind e c least w t left (adjective_of x ∷ []) out (all_read o more) after) → q ≡ Ok y → Gives e c least w t left rest out from all before → Gives e c least w t after others more from all before
told_each_turn {X} e c least w t left from after rest others all x out more before q y er h eq g o end k =
    let P : Result X Refusal → Type 0 = λ z. AdjectivesReadBehind e c least w t left (adjective_of x ∷ []) out (all_read z more) after in
    g o end (subst (λ xs. AdjectivesReadBehind e c least w t left (map adjective_of xs) out o end) (sym er) (one_then e c least w t left after end (adjective_of x) (map adjective_of others) out more o (read_by P q y h eq) k))

pub ruleset each_rules = (told_each_end, told_each_stop, told_each_turn)

-- all of a tree
as_listed : (xs : AdjectivesData) (first : AdjectiveNode) (more : List AdjectiveNode) → adjective_of first ≡ xs.first → adjectives_of (map adjective_of more) ≡ xs.more → adjective_of first ∷ map adjective_of more ≡ listed xs
as_listed xs first more ef em =
    ap (λ y. y ∷ map adjective_of more) ef ∙ ap (λ ys. xs.first ∷ ys) (sym (listed_adjectives-is (map adjective_of more)) ∙ ap listed_adjectives em)

pub told_all_refused : {X : Type 0} (Y : Type 0) (e : Environment) (c : Context) (least : ℕ) (w : Wanted) (t : Term) (left after : Left) (xs : AdjectivesData) (first : AdjectiveNode) (out more others : List Adjective) (q : Result X ResolveFault) (f : ResolveFault) →
    adjective_of first ≡ xs.first → OnRead q (λ o. AdjectivesReadBehind e c least w t left (adjective_of first ∷ []) out (all_read o more) after) → q ≡ Err f → OnRead {X = Y} (Err f) (λ o. AdjectivesReadBehind e c least w t left (listed xs) out (all_read o others) after)
told_all_refused {X} Y e c least w t left after xs first out more others q f ef h eq =
    let P : Result X Refusal → Type 0 = λ o. AdjectivesReadBehind e c least w t left (adjective_of first ∷ []) out (all_read o more) after in
    let Q : Result Y Refusal → Type 0 = λ o. AdjectivesReadBehind e c least w t left (listed xs) out (all_read o others) after in
    refused_by P Q q f h eq (λ r k. one_alone e c least w t left after xs.first (listed_adjectives xs.more) out r (subst (λ (a : AdjectiveData). AdjectivesReadBehind e c least w t left (a ∷ []) out (Err r) after) ef k))

pub told_all_read : {X Y : Type 0} (e : Environment) (c : Context) (least : ℕ) (w : Wanted) (t : Term) (left between after : Left) (xs : AdjectivesData) (first : AdjectiveNode) (others : List AdjectiveNode) (out more all : List Adjective) (q : Result X ResolveFault) (x : X) (a : Result Y ResolveFault) →
    adjective_of first ≡ xs.first → OnRead q (λ o. AdjectivesReadBehind e c least w t left (adjective_of first ∷ []) out (all_read o more) between) → q ≡ Ok x → adjectives_of (map adjective_of others) ≡ xs.more →
    OnRead a (λ o. AdjectivesReadBehind e c least w t between (map adjective_of others) more (all_read o all) after) →
    OnRead a (λ o. AdjectivesReadBehind e c least w t left (listed xs) out (all_read o all) after)
told_all_read {X} {Y} e c least w t left between after xs first others out more all q x a ef h eq em k =
    let P : Result X Refusal → Type 0 = λ o. AdjectivesReadBehind e c least w t left (adjective_of first ∷ []) out (all_read o more) between in
    let Q : Result Y Refusal → Type 0 = λ o. AdjectivesReadBehind e c least w t between (map adjective_of others) more (all_read o all) after in
    let R : Result Y Refusal → Type 0 = λ o. AdjectivesReadBehind e c least w t left (listed xs) out (all_read o all) after in
    read_more Q R a k (λ o g. subst (λ (ys : List AdjectiveData). AdjectivesReadBehind e c least w t left ys out (all_read o all) after) (as_listed xs first others ef em)
    (one_then e c least w t left between after (adjective_of first) (map adjective_of others) out more (all_read o all) (read_by P q x h eq) g))

pub ruleset all_rules = (told_all_refused, told_all_read)

-- the list
pub told_list : {X : Type 0} (e : Environment) (c : Context) (least : ℕ) (w : Wanted) (t : Term) (left after : Left) (xs : AdjectivesData) (out more : List Adjective) (q : Result X ResolveFault) (x : X) →
    out ≡ [] → OnRead q (λ o. AdjectivesReadBehind e c least w t left (listed xs) out (all_read o more) after) → q ≡ Ok x → AdjectivesRead e c least w t left xs (Ok more) after
told_list {X} e c least w t left after xs out more q x eo h eq =
    let P : Result X Refusal → Type 0 = λ o. AdjectivesReadBehind e c least w t left (listed xs) out (all_read o more) after in
    subst (λ ys. AdjectivesReadBehind e c least w t left (listed xs) ys (Ok more) after) eo (read_by P q x h eq)

pub told_list_refused : {X : Type 0} (e : Environment) (c : Context) (least : ℕ) (w : Wanted) (t : Term) (left after : Left) (xs : AdjectivesData) (out more : List Adjective) (q : Result X ResolveFault) (f : ResolveFault) →
    out ≡ [] → OnRead q (λ o. AdjectivesReadBehind e c least w t left (listed xs) out (all_read o more) after) → q ≡ Err f → OnRead {X = List Adjective} (Err f) (λ o. AdjectivesRead e c least w t left xs o after)
told_list_refused {X} e c least w t left after xs out more q f eo h eq =
    let P : Result X Refusal → Type 0 = λ o. AdjectivesReadBehind e c least w t left (listed xs) out (all_read o more) after in
    let Q : Result (List Adjective) Refusal → Type 0 = λ o. AdjectivesRead e c least w t left xs o after in
    refused_by P Q q f h eq (λ r k. subst (λ ys. AdjectivesReadBehind e c least w t left (listed xs) ys (Err r) after) eo k)

pub ruleset list_rules = (told_list, told_list_refused)

-- of a term, and of a type
pub told_of_term : (e : Environment) (c : Context) (least : ℕ) (w : Wanted) (t u : Term) (left after : Left) (xs : AdjectivesData) (a : Result (List Adjective) ResolveFault) → u ≡ t → w ≡ AdjectiveOf u →
    OnRead a (λ o. AdjectivesRead e c least w t left xs o after) → OnRead a (λ o. AdjectivesOfTermRead e c least t left xs o after)
told_of_term e c least w t u left after xs a eu ew h =
    subst (λ v. OnRead a (λ o. AdjectivesRead e c least v t left xs o after)) (ew ∙ ap AdjectiveOf eu) h

pub ruleset term_rules = (told_of_term)

pub as_of_type : (e : Environment) (c d : Context) (least : ℕ) (ty copy : SoftType) (k : Constant) (n : ℕ) (w : Wanted) (t : Term) (left after : Left) (xs : AdjectivesData) (o : Result (List Adjective) Refusal) →
    copy ≡ ty → k ≡ fresh copy → d ≡ with_constant c k → n ≡ next c → w ≡ AdjectiveOfFresh n → t ≡ Const n → AdjectivesRead e d least w t left xs o after → AdjectivesOfTypeRead e c least ty left xs o after
as_of_type e c d least ty copy k n w t left after xs o ey ek ed en ew et h =
    let one : d ≡ with_fresh c ty = ed ∙ ap (with_constant c) (ek ∙ ap fresh ey) in
    let P : Wanted → Type 0 = λ x. AdjectivesRead e d least x t left xs o after in
    let Q : Term → Type 0 = λ x. AdjectivesRead e d least (AdjectiveOfFresh (next c)) x left xs o after in
    let R : Context → Type 0 = λ x. AdjectivesRead e x least (AdjectiveOfFresh (next c)) (Const (next c)) left xs o after in
    subst R one (subst Q (et ∙ ap Const en) (subst P (ew ∙ ap AdjectiveOfFresh en) h))

pub told_of_type : (e : Environment) (c d : Context) (least : ℕ) (ty copy : SoftType) (k : Constant) (n : ℕ) (w : Wanted) (t : Term) (left after : Left) (xs : AdjectivesData) (q : Result (List Adjective) ResolveFault) (ys : List Adjective) →
    copy ≡ ty → k ≡ fresh copy → d ≡ with_constant c k → n ≡ next c → w ≡ AdjectiveOfFresh n → t ≡ Const n → OnRead q (λ o. AdjectivesRead e d least w t left xs o after) → q ≡ Ok ys → AdjectivesOfTypeRead e c least ty left xs (Ok ys) after
told_of_type e c d least ty copy k n w t left after xs q ys ey ek ed en ew et h eq =
    let P : Result (List Adjective) Refusal → Type 0 = λ o. AdjectivesRead e d least w t left xs o after in
    as_of_type e c d least ty copy k n w t left after xs (Ok ys) ey ek ed en ew et (read_by P q ys h eq)

pub told_of_type_refused : (e : Environment) (c d : Context) (least : ℕ) (ty copy : SoftType) (k : Constant) (n : ℕ) (w : Wanted) (t : Term) (left after : Left) (xs : AdjectivesData) (q : Result (List Adjective) ResolveFault) (f : ResolveFault) →
    copy ≡ ty → k ≡ fresh copy → d ≡ with_constant c k → n ≡ next c → w ≡ AdjectiveOfFresh n → t ≡ Const n → OnRead q (λ o. AdjectivesRead e d least w t left xs o after) → q ≡ Err f →
    OnRead {X = List Adjective} (Err f) (λ o. AdjectivesOfTypeRead e c least ty left xs o after)
told_of_type_refused e c d least ty copy k n w t left after xs q f ey ek ed en ew et h eq =
    let P : Result (List Adjective) Refusal → Type 0 = λ o. AdjectivesRead e d least w t left xs o after in
    let Q : Result (List Adjective) Refusal → Type 0 = λ o. AdjectivesOfTypeRead e c least ty left xs o after in
    refused_by P Q q f h eq (λ r k2. as_of_type e c d least ty copy k n w t left after xs (Err r) ey ek ed en ew et k2)

pub ruleset type_rules = (told_of_type, told_of_type_refused, told_fresh_left)
