-- What the code of declarations tells.
use Rattle.std.proofs.Common.{◌≡◌, ℕ, List, [], ◌∷◌, ◌++◌, length, map, refl, sym, ap, ◌∙◌, subst, Box}
use Rattle.std.proofs.lemmas.List.{append-nil, append_assoc}
use Rattle.std.specs.Prelude.{Result, Ok, Err}
use Rattle.std.specs.declared.alloc.Global.{Global}
use Rattle.mz_core.specs.declared.outcome.Left.{Left}
use Rattle.mz_core.specs.declared.soft_type.SoftType.{SoftType}
use Rattle.mz_context.specs.declared.context.Context.{Context}
use Rattle.mz_environment.specs.declared.environment.Environment.{Environment}
use Rattle.mz_names.specs.Closing.{with_variables}
use Rattle.mz_names.specs.declared.refusal.Refusal.{Refusal}
use Rattle.mz_names.specs.declared.variable.Variable.{Variable}
use Rattle.mz_names.proofs.ClosingLemmas.{with_variables-append}
use Rattle.mz_fits.proofs.FitLemmas.{empty}
use Rattle.mz_choice.proofs.CoverLemmas.{grown_itself, grown_kept, grown_more}
use Rattle.mz_tree.specs.Trees.{DeclaredData, DeclarationsData, PlainDeclared, TypedDeclared}
use Rattle.mz_tree.specs.Views.{declared_of, declarations_of, type_of}
use Rattle.mz_tree.specs.declared.chain.Chain.{Chain}
use Rattle.mz_tree.specs.declared.chain.Next.{Next}
use Rattle.mz_tree.specs.declared.nodes.DeclaredNode.{DeclaredNode}
use Rattle.mz_tree.specs.declared.nodes.DeclaredNode.TheVariants as declareds
use Rattle.mz_tree.specs.declared.nodes.TypeNode.{TypeNode}
use Rattle.mz_tree.specs.declared.word.Being.{Being}
use Rattle.mz_tree.specs.declared.word.Comma.{Comma}
use Rattle.mz_tree.specs.declared.word.Word.{Word}
use Rattle.mz_tree.proofs.Views.{declared_of-plain, declared_of-typed}
use Rattle.mz_formulas.specs.Declarations.{Declaring, variable_of, declaring_at, reserved_each, behind, declared_tree, undeclared}
use Rattle.mz_formulas.proofs.DeclaredLemmas.{listed_declared-is}
use Rattle.mz_resolve.specs.Answers.{OnRead}
use Rattle.mz_resolve.specs.Calls.{TypeRead}
use Rattle.mz_resolve.specs.declared.resolve_fault.ResolveFault.{ResolveFault}
use Rattle.mz_parts.specs.Declarations as dc
use Rattle.mz_parts.specs.Declarations.{Declares, declaring_more, DeclaresAll, declared_in, DeclarationsRead, reached}
use Rattle.mz_parts.proofs.ReadLemmas.{read_by, refused_by, read_more, ok-inj, err-ok}

-- one declared identifier
declares_as : (e : Environment) (c : Context) (least : ℕ) (ws us : List Word) (left after : Left) (node other : DeclaredNode) (d : DeclaredData) (o : Result (List Variable) Refusal) → node ≡ other → declared_of other ≡ d →
    Declares e c least ws left d o us after → Declares e c least ws left (declared_of node) o us after
declares_as e c least ws us left after node other d o en ed h = subst (λ x. Declares e c least ws left x o us after) (sym (ap declared_of en ∙ ed)) h

pub told_waits : (e : Environment) (c : Context) (least : ℕ) (ws us : List Word) (left : Left) (node : DeclaredNode) (w x : Word) (vs : List Variable) → node ≡ declareds.Plain w → x ≡ w → us ≡ ws ++ x ∷ [] → vs ≡ [] →
    Declares e c least ws left (declared_of node) (Ok vs) us left
told_waits e c least ws us left node w x vs en ex eu ev =
    let P : List Word → Type 0 = λ ys. Declares e c least ws left (declared_of node) (Ok vs) ys left in
    let Q : List Variable → Type 0 = λ zs. Declares e c least ws left (declared_of node) (Ok zs) (ws ++ w ∷ []) left in
    subst P (sym (eu ∙ ap (λ y. ws ++ y ∷ []) ex)) (subst Q (sym ev) (declares_as e c least ws (ws ++ w ∷ []) left left node (declareds.Plain w) (PlainDeclared w) (Ok []) en (declared_of-plain w) (dc.waits w)))

pub told_typed : (e : Environment) (c : Context) (least : ℕ) (ws us : List Word) (left after : Left) (node : DeclaredNode) (w : Word) (b : Being) (ty : Box TypeNode Global) (n : TypeNode) (p : Result SoftType ResolveFault) (t : SoftType) (vs : List Variable) →
    node ≡ declareds.Typed w b ty → n ≡ ty.value → OnRead p (λ o. TypeRead e c least left (type_of n) o after) → p ≡ Ok t → vs ≡ map (variable_of t) (ws ++ w ∷ []) → us ≡ [] →
    Declares e c least ws left (declared_of node) (Ok vs) us after
told_typed e c least ws us left after node w b ty n p t vs en et h ep ev eu =
    let T : Result SoftType Refusal → Type 0 = λ o. TypeRead e c least left (type_of n) o after in
    let P : List Word → Type 0 = λ ys. Declares e c least ws left (declared_of node) (Ok vs) ys after in
    let Q : List Variable → Type 0 = λ zs. Declares e c least ws left (declared_of node) (Ok zs) [] after in
    subst P (sym eu) (subst Q (sym ev) (declares_as e c least ws [] left after node (declareds.Typed w b ty) (TypedDeclared w b (type_of n)) (Ok (map (variable_of t) (ws ++ w ∷ []))) en (declared_of-typed w b ty ∙ ap (λ x. TypedDeclared w b (type_of x)) (sym et))
    (dc.type_read w b (type_of n) t after (read_by T p t h ep))))

pub told_untyped : (e : Environment) (c : Context) (least : ℕ) (ws us : List Word) (left after : Left) (node : DeclaredNode) (w : Word) (b : Being) (ty : Box TypeNode Global) (n : TypeNode) (p : Result SoftType ResolveFault) (f : ResolveFault) →
    node ≡ declareds.Typed w b ty → n ≡ ty.value → OnRead p (λ o. TypeRead e c least left (type_of n) o after) → p ≡ Err f →
    OnRead {X = List Variable} (Err f) (λ o. Declares e c least ws left (declared_of node) o us after)
told_untyped e c least ws us left after node w b ty n p f en et h ep =
    let T : Result SoftType Refusal → Type 0 = λ o. TypeRead e c least left (type_of n) o after in
    let D : Result (List Variable) Refusal → Type 0 = λ o. Declares e c least ws left (declared_of node) o us after in
    refused_by T D p f h ep (λ r k. declares_as e c least ws us left after node (declareds.Typed w b ty) (TypedDeclared w b (type_of n)) (Err r) en (declared_of-typed w b ty ∙ ap (λ x. TypedDeclared w b (type_of x)) (sym et)) (dc.type_refused w b (type_of n) r us after k))

pub ruleset declare_rules = (told_waits, told_typed, told_untyped)

-- one, with its variables in force
pub told_more : (e : Environment) (c d f : Context) (least : ℕ) (vs all more : List Variable) (ws us : List Word) (left after : Left) (x : DeclaredData) (p : Result (List Variable) ResolveFault) →
    OnRead p (λ o. Declares e c least ws left x o us after) → p ≡ Ok more → d ≡ c → f ≡ with_variables d more → all ≡ vs ++ more →
    DeclaresAll e least (declaring_at c vs ws) left (x ∷ []) (Ok (declaring_at f all us)) after
told_more e c d f least vs all more ws us left after x p h ep ed ef ea =
    let D : Result (List Variable) Refusal → Type 0 = λ o. Declares e c least ws left x o us after in
    let P : Declaring → Type 0 = λ s. DeclaresAll e least (declaring_at c vs ws) left (x ∷ []) (Ok s) after in
    let is : declaring_at f all us ≡ declaring_more (declaring_at c vs ws) more us = ap (λ y. declaring_at y all us) (ef ∙ ap (λ y. with_variables y more) ed) ∙ ap (λ y. declaring_at (with_variables c more) y us) ea in
    subst P (sym is) (dc.one_read (declaring_at c vs ws) left after after x [] more us (Ok (declaring_more (declaring_at c vs ws) more us)) (read_by D p more h ep) (dc.no_more (declaring_more (declaring_at c vs ws) more us) after))

pub told_no_more : (Y : Type 0) (e : Environment) (c : Context) (least : ℕ) (vs : List Variable) (ws us : List Word) (left after : Left) (x : DeclaredData) (p : Result (List Variable) ResolveFault) (f : ResolveFault) (s : Declaring) →
    OnRead p (λ o. Declares e c least ws left x o us after) → p ≡ Err f →
    OnRead {X = Y} (Err f) (λ o. DeclaresAll e least (declaring_at c vs ws) left (x ∷ []) (reached o s) after)
told_no_more Y e c least vs ws us left after x p f s h ep =
    let D : Result (List Variable) Refusal → Type 0 = λ o. Declares e c least ws left x o us after in
    let Q : Result Y Refusal → Type 0 = λ o. DeclaresAll e least (declaring_at c vs ws) left (x ∷ []) (reached o s) after in
    refused_by D Q p f h ep (λ r k. dc.one_refused (declaring_at c vs ws) left after x [] us r k)

pub ruleset more_rules = (told_more, told_no_more, grown_itself, grown_kept, grown_more)

-- one after another: what the rest gives, all give
ended : (e : Environment) (least : ℕ) (s : Declaring) (left after : Left) (o : Result Declaring Refusal) → DeclaresAll e least s left [] o after → (o ≡ Ok s) × (after ≡ left)
ended e least s left _ _ (dc.no_more _ _) = (refl, refl)

one_then : (e : Environment) (least : ℕ) (s t : Declaring) (left between after : Left) (d : DeclaredData) (ds : List DeclaredData) (o : Result Declaring Refusal) →
    DeclaresAll e least s left (d ∷ []) (Ok t) between → DeclaresAll e least t between ds o after → DeclaresAll e least s left (d ∷ ds) o after
one_then e least s t left between after d ds o (dc.one_read _ _ middle _ _ _ vs others _ h k) g =
    let is = ended e least (declaring_more s vs others) middle between (Ok t) k in
    let same : t ≡ declaring_more s vs others = ok-inj t (declaring_more s vs others) is.0 in
    dc.one_read s left middle after d ds vs others o h (subst (λ l. DeclaresAll e least (declaring_more s vs others) l ds o after) is.1 (subst (λ u. DeclaresAll e least u between ds o after) same g))

one_alone : (e : Environment) (least : ℕ) (s : Declaring) (left after : Left) (d : DeclaredData) (ds : List DeclaredData) (r : Refusal) →
    DeclaresAll e least s left (d ∷ []) (Err r) after → DeclaresAll e least s left (d ∷ ds) (Err r) after
one_alone e least s left after d ds r (dc.one_refused _ _ _ _ _ others _ h) = dc.one_refused s left after d ds others r h
one_alone e least s left after d ds r (dc.one_read _ _ middle _ _ _ vs others _ h k) =
    let is = ended e least (declaring_more s vs others) middle after (Err r) k in
    absurd (err-ok r (declaring_more s vs others) is.0)

abbrev pub Gives : Environment → ℕ → Declaring → Left → List (Next Comma DeclaredNode) → Declaring → Left → List (Next Comma DeclaredNode) → Type 0
Gives e least s left rest t from all = (o : Result Declaring Refusal) (after : Left) → DeclaresAll e least s left (map declared_tree rest) o after → DeclaresAll e least t from (map declared_tree all) o after

pub told_each_end : (e : Environment) (least : ℕ) (s t : Declaring) (left from : Left) (rest all : List (Next Comma DeclaredNode)) → length rest ≡ 0 → Gives e least s left rest t from all → DeclaresAll e least t from (map declared_tree all) (Ok s) left
told_each_end e least s t left from rest all er g = g (Ok s) left (subst (λ xs. DeclaresAll e least s left (map declared_tree xs) (Ok s) left) (sym (empty rest er)) (dc.no_more s left))

pub told_each_stop : {X : Type 0} (Y : Type 0) (e : Environment) (least : ℕ) (s u t : Declaring) (left from after : Left) (rest others all : List (Next Comma DeclaredNode)) (n : Next Comma DeclaredNode) (p : Result X ResolveFault) (f : ResolveFault) →
    rest ≡ n ∷ others → OnRead p (λ o. DeclaresAll e least s left (declared_of n.tree ∷ []) (reached o u) after) → p ≡ Err f → Gives e least s left rest t from all →
    OnRead {X = Y} (Err f) (λ o. DeclaresAll e least t from (map declared_tree all) (reached o u) after)
told_each_stop {X} Y e least s u t left from after rest others all n p f er h ep g =
    let P : Result X Refusal → Type 0 = λ o. DeclaresAll e least s left (declared_of n.tree ∷ []) (reached o u) after in
    let Q : Result Y Refusal → Type 0 = λ o. DeclaresAll e least t from (map declared_tree all) (reached o u) after in
    refused_by P Q p f h ep (λ r k. g (Err r) after (subst (λ xs. DeclaresAll e least s left (map declared_tree xs) (Err r) after) (sym er) (one_alone e least s left after (declared_of n.tree) (map declared_tree others) r k)))

pub told_each_turn : {X : Type 0} (e : Environment) (least : ℕ) (s u t : Declaring) (left from after : Left) (rest others all : List (Next Comma DeclaredNode)) (n : Next Comma DeclaredNode) (p : Result X ResolveFault) (x : X) →
    rest ≡ n ∷ others → OnRead p (λ o. DeclaresAll e least s left (declared_of n.tree ∷ []) (reached o u) after) → p ≡ Ok x → Gives e least s left rest t from all → Gives e least u after others t from all
told_each_turn {X} e least s u t left from after rest others all n p x er h ep g o end k =
    let P : Result X Refusal → Type 0 = λ q. DeclaresAll e least s left (declared_of n.tree ∷ []) (reached q u) after in
    g o end (subst (λ xs. DeclaresAll e least s left (map declared_tree xs) o end) (sym er) (one_then e least s u left after end (declared_of n.tree) (map declared_tree others) o (read_by P p x h ep) k))

pub ruleset each_rules = (told_each_end, told_each_stop, told_each_turn, grown_itself, grown_kept, grown_more)

-- the first and then the others
pub told_first_refused : {X : Type 0} (Y : Type 0) (e : Environment) (least : ℕ) (s t u : Declaring) (left after : Left) (d : DeclaredData) (ds : List DeclaredData) (p : Result X ResolveFault) (f : ResolveFault) →
    OnRead p (λ o. DeclaresAll e least s left (d ∷ []) (reached o t) after) → p ≡ Err f → OnRead {X = Y} (Err f) (λ o. DeclaresAll e least s left (d ∷ ds) (reached o u) after)
told_first_refused {X} Y e least s t u left after d ds p f h ep =
    let P : Result X Refusal → Type 0 = λ o. DeclaresAll e least s left (d ∷ []) (reached o t) after in
    let Q : Result Y Refusal → Type 0 = λ o. DeclaresAll e least s left (d ∷ ds) (reached o u) after in
    refused_by P Q p f h ep (λ r k. one_alone e least s left after d ds r k)

pub told_first_read : {X Y : Type 0} (e : Environment) (least : ℕ) (s t u : Declaring) (left between after : Left) (d : DeclaredData) (ds : List DeclaredData) (p : Result X ResolveFault) (x : X) (q : Result Y ResolveFault) →
    OnRead p (λ o. DeclaresAll e least s left (d ∷ []) (reached o t) between) → p ≡ Ok x → OnRead q (λ o. DeclaresAll e least t between ds (reached o u) after) → OnRead q (λ o. DeclaresAll e least s left (d ∷ ds) (reached o u) after)
told_first_read {X} {Y} e least s t u left between after d ds p x q h ep k =
    let P : Result X Refusal → Type 0 = λ o. DeclaresAll e least s left (d ∷ []) (reached o t) between in
    let Q : Result Y Refusal → Type 0 = λ o. DeclaresAll e least t between ds (reached o u) after in
    let R : Result Y Refusal → Type 0 = λ o. DeclaresAll e least s left (d ∷ ds) (reached o u) after in
    read_more Q R q k (λ o g. one_then e least s t left between after d ds (reached o u) (read_by P p x h ep) g)

pub told_first_read_each : {X Y : Type 0} (e : Environment) (least : ℕ) (s t u : Declaring) (left between after : Left) (d : DeclaredData) (slice items : List (Next Comma DeclaredNode)) (p : Result X ResolveFault) (x : X) (q : Result Y ResolveFault) →
    OnRead p (λ o. DeclaresAll e least s left (d ∷ []) (reached o t) between) → p ≡ Ok x → slice ≡ items → OnRead q (λ o. DeclaresAll e least t between (map declared_tree slice) (reached o u) after) →
    OnRead q (λ o. DeclaresAll e least s left (d ∷ map declared_tree items) (reached o u) after)
told_first_read_each e least s t u left between after d slice items p x q h ep es k =
    subst (λ zs. OnRead q (λ o. DeclaresAll e least s left (d ∷ map declared_tree zs) (reached o u) after)) es (told_first_read e least s t u left between after d (map declared_tree slice) p x q h ep k)

pub ruleset all_rules = (told_first_refused, told_first_read, grown_itself, grown_kept, grown_more)

-- the context has the variables in force
pub record Follows (s t : Declaring) : Type 0 where
  pub more : List Variable
  pub variables : t.variables ≡ s.variables ++ more
  pub context : t.context ≡ with_variables s.context more

follows_all : (e : Environment) (least : ℕ) (s t : Declaring) (left after : Left) (ds : List DeclaredData) → DeclaresAll e least s left ds (Ok t) after → Follows s t
follows_all e least s _ left _ _ (dc.no_more _ _) = record { more = []; variables = sym (append-nil s.variables); context = refl }
follows_all e least s t left after _ (dc.one_read _ _ between _ d ds vs others _ h k) =
    let g : Follows (declaring_more s vs others) t = follows_all e least (declaring_more s vs others) t between after ds k in
    record {
      more = vs ++ g.more;
      variables = g.variables ∙ append_assoc s.variables vs g.more;
      context = g.context ∙ sym (with_variables-append s.context vs g.more);
    }

-- the whole
abbrev pub all_of : Chain Comma DeclaredNode → List DeclaredData
all_of n = declared_of n.first ∷ map declared_tree n.more.items

all_is : (n : Chain Comma DeclaredNode) (ds : DeclarationsData) → declarations_of n ≡ ds → all_of n ≡ declared_in ds
all_is n ds e = ap (λ xs. declared_of n.first ∷ xs) (sym (listed_declared-is n.more.items)) ∙ ap declared_in e

begun : (e : Environment) (least : ℕ) (c : Context) (vs : List Variable) (ws : List Word) (left after : Left) (n : Chain Comma DeclaredNode) (ds : DeclarationsData) (o : Result Declaring Refusal) → declarations_of n ≡ ds → vs ≡ [] → ws ≡ [] →
    DeclaresAll e least (declaring_at c vs ws) left (all_of n) o after → DeclaresAll e least (undeclared c) left (declared_in ds) o after
begun e least c vs ws left after n ds o en ev ew h =
    subst (λ xs. DeclaresAll e least (undeclared c) left xs o after) (all_is n ds en) (subst (λ x. DeclaresAll e least (declaring_at c [] x) left (all_of n) o after) ew (subst (λ x. DeclaresAll e least (declaring_at c x ws) left (all_of n) o after) ev h))

pub told_not_declared : {X : Type 0} (e : Environment) (least : ℕ) (c : Context) (vs : List Variable) (ws : List Word) (left after : Left) (n : Chain Comma DeclaredNode) (ds : DeclarationsData) (s : Declaring) (p : Result X ResolveFault) (f : ResolveFault) →
    declarations_of n ≡ ds → vs ≡ [] → ws ≡ [] → OnRead p (λ o. DeclaresAll e least (declaring_at c vs ws) left (declared_of n.first ∷ map declared_tree n.more.items) (reached o s) after) → p ≡ Err f →
    OnRead {X = List Variable} (Err f) (λ o. DeclarationsRead e c least left ds o after)
told_not_declared {X} e least c vs ws left after n ds s p f en ev ew h ep =
    let P : Result X Refusal → Type 0 = λ o. DeclaresAll e least (declaring_at c vs ws) left (all_of n) (reached o s) after in
    let Q : Result (List Variable) Refusal → Type 0 = λ o. DeclarationsRead e c least left ds o after in
    refused_by P Q p f h ep (λ r k. dc.declared_refused r after (begun e least c vs ws left after n ds (Err r) en ev ew k))

declared_by : {X : Type 0} (e : Environment) (least : ℕ) (c d : Context) (vs us : List Variable) (ws xs : List Word) (left after : Left) (n : Chain Comma DeclaredNode) (ds : DeclarationsData) (p : Result X ResolveFault) (x : X) →
    declarations_of n ≡ ds → vs ≡ [] → ws ≡ [] → OnRead p (λ o. DeclaresAll e least (declaring_at c vs ws) left (all_of n) (reached o (declaring_at d us xs)) after) → p ≡ Ok x →
    DeclaresAll e least (undeclared c) left (declared_in ds) (Ok (declaring_at d us xs)) after
declared_by {X} e least c d vs us ws xs left after n ds p x en ev ew h ep =
    let P : Result X Refusal → Type 0 = λ o. DeclaresAll e least (declaring_at c vs ws) left (all_of n) (reached o (declaring_at d us xs)) after in
    begun e least c vs ws left after n ds (Ok (declaring_at d us xs)) en ev ew (read_by P p x h ep)

pub told_not_reserved : {X : Type 0} (e : Environment) (least : ℕ) (c d : Context) (vs us : List Variable) (ws xs : List Word) (left after : Left) (n : Chain Comma DeclaredNode) (ds : DeclarationsData) (p : Result X ResolveFault) (x : X) (q : Result (List Variable) Refusal) (r : Refusal) →
    declarations_of n ≡ ds → vs ≡ [] → ws ≡ [] → OnRead p (λ o. DeclaresAll e least (declaring_at c vs ws) left (declared_of n.first ∷ map declared_tree n.more.items) (reached o (declaring_at d us xs)) after) → p ≡ Ok x →
    q ≡ reserved_each least d xs → q ≡ Err r → DeclarationsRead e c least left ds (Err r) after
told_not_reserved e least c d vs us ws xs left after n ds p x q r en ev ew h ep eq er =
    let P : Result (List Variable) Refusal → Type 0 = λ o. DeclarationsRead e c least left ds (behind us o) after in
    subst P (sym eq ∙ er) (dc.declared_read (declaring_at d us xs) after (declared_by e least c d vs us ws xs left after n ds p x en ev ew h ep))

pub told_declared : {X : Type 0} (e : Environment) (least : ℕ) (c d : Context) (vs us all more : List Variable) (ws xs : List Word) (left after : Left) (n : Chain Comma DeclaredNode) (ds : DeclarationsData) (p : Result X ResolveFault) (x : X) (q : Result (List Variable) Refusal) →
    declarations_of n ≡ ds → vs ≡ [] → ws ≡ [] → OnRead p (λ o. DeclaresAll e least (declaring_at c vs ws) left (declared_of n.first ∷ map declared_tree n.more.items) (reached o (declaring_at d us xs)) after) → p ≡ Ok x →
    q ≡ reserved_each least d xs → q ≡ Ok more → all ≡ us ++ more → DeclarationsRead e c least left ds (Ok all) after
told_declared e least c d vs us all more ws xs left after n ds p x q en ev ew h ep eq er ea =
    let P : Result (List Variable) Refusal → Type 0 = λ o. DeclarationsRead e c least left ds (behind us o) after in
    let Q : List Variable → Type 0 = λ o. DeclarationsRead e c least left ds (Ok o) after in
    subst Q (sym ea) (subst P (sym eq ∙ er) (dc.declared_read (declaring_at d us xs) after (declared_by e least c d vs us ws xs left after n ds p x en ev ew h ep)))

pub told_context : {X : Type 0} (e : Environment) (least : ℕ) (c d f : Context) (vs us all more : List Variable) (ws xs : List Word) (left after : Left) (n : Chain Comma DeclaredNode) (ds : DeclarationsData) (p : Result X ResolveFault) (x : X) →
    declarations_of n ≡ ds → vs ≡ [] → ws ≡ [] → OnRead p (λ o. DeclaresAll e least (declaring_at c vs ws) left (declared_of n.first ∷ map declared_tree n.more.items) (reached o (declaring_at d us xs)) after) → p ≡ Ok x →
    f ≡ with_variables d more → all ≡ us ++ more → f ≡ with_variables c all
told_context e least c d f vs us all more ws xs left after n ds p x en ev ew h ep ef ea =
    let g : Follows (undeclared c) (declaring_at d us xs) = follows_all e least (undeclared c) (declaring_at d us xs) left after (declared_in ds) (declared_by e least c d vs us ws xs left after n ds p x en ev ew h ep) in
    ef ∙ (ap (λ y. with_variables y more) g.context ∙ (sym (with_variables-append c g.more more) ∙ (ap (λ y. with_variables c (y ++ more)) (sym g.variables) ∙ ap (with_variables c) (sym ea))))

pub ruleset read_rules = (told_not_declared, told_not_reserved, told_declared, told_context, grown_itself, grown_kept, grown_more)
