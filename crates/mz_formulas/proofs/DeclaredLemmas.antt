-- What the code of declarations tells.
use Rattle.std.proofs.Common.{◌≡◌, ◌<◌, ◌+◌, ℕ, suc, List, [], ◌∷◌, ◌++◌, length, map, refl, sym, ap, ◌∙◌, subst, arith, Option, Some, None, Box}
use Rattle.std.proofs.lemmas.List.{append-nil, append_assoc}
use Rattle.std.specs.Prelude.{Result, Ok, Err, IfOk}
use Rattle.std.specs.declared.alloc.Global.{Global}
use Rattle.mz_core.specs.declared.soft_type.SoftType.{SoftType}
use Rattle.mz_context.specs.Changes.{with_constant}
use Rattle.mz_context.specs.declared.constants.Constant.{Constant}
use Rattle.mz_context.specs.declared.context.Context.{Context}
use Rattle.mz_environment.specs.declared.environment.Environment.{Environment}
use Rattle.mz_names.specs.Closing.{constant_of, with_variables}
use Rattle.mz_names.specs.declared.refusal.Refusal.{Refusal}
use Rattle.mz_names.specs.declared.variable.Variable.{Variable}
use Rattle.mz_names.proofs.ClosingLemmas.{with_variables-append}
use Rattle.mz_fits.proofs.FitLemmas.{empty}
use Rattle.mz_choice.specs.Fresh.{Grown}
use Rattle.mz_choice.proofs.CoverLemmas.{grown_itself, grown_kept, grown_more, grown_by, grown_add}
use Rattle.mz_tree.specs.Trees.{DeclaredData, PlainDeclared, TypedDeclared, next_declareds_of}
use Rattle.mz_tree.specs.Views.{declared_of, next_declared_of, type_of}
use Rattle.mz_tree.specs.declared.chain.Next.{Next}
use Rattle.mz_tree.specs.declared.nodes.DeclaredNode.{DeclaredNode}
use Rattle.mz_tree.specs.declared.nodes.DeclaredNode.TheVariants as declareds
use Rattle.mz_tree.specs.declared.nodes.TypeNode.{TypeNode}
use Rattle.mz_tree.specs.declared.word.Being.{Being}
use Rattle.mz_tree.specs.declared.word.Comma.{Comma}
use Rattle.mz_tree.specs.declared.word.Word.{Word}
use Rattle.mz_tree.proofs.Views.{declared_of-plain, declared_of-typed}
use Rattle.mz_terms.specs.Types.{ReadsType}
use Rattle.mz_formulas.specs.Declarations as dc
use Rattle.mz_formulas.specs.Declarations.{Declaring, variable_of, with_more, declaring_at, outcome, Declares, DeclaresAll, first_then, reserved_variable, reserved_each, behind, listed_declared, declared_tree, undeclared, ReadsDeclared}

pub ruleset grown_rules = (grown_itself, grown_kept, grown_more, grown_by, grown_add)

-- lists of declarations
pub listed_declared-is : (items : List (Next Comma DeclaredNode)) → listed_declared (next_declareds_of (map next_declared_of items)) ≡ map declared_tree items
listed_declared-is [] = refl
listed_declared-is (n ∷ ns) = ap (λ ds. declared_of n.tree ∷ ds) (listed_declared-is ns)

-- identifiers with the types with which they were reserved
pub told_no_word : (least : ℕ) (c : Context) (rest : List Word) (out : List Variable) (goal : Result (List Variable) Refusal) → length rest ≡ 0 → behind out (reserved_each least c rest) ≡ goal → Ok out ≡ goal
told_no_word least c rest out goal e h = ap Ok (sym (append-nil out)) ∙ (ap (λ ws. behind out (reserved_each least c ws)) (sym (empty rest e)) ∙ h)

behind_one : (out : List Variable) (v : Variable) (o : Result (List Variable) Refusal) → behind (out ++ v ∷ []) o ≡ behind out (first_then (Ok v) o)
behind_one out v (Err r) = refl
behind_one out v (Ok vs) = ap Ok (append_assoc out (v ∷ []) vs)

pub behind-told_word : (least : ℕ) (c : Context) (rest others : List Word) (w : Word) (out more : List Variable) (o goal : Result Variable Refusal) (v : Variable) (whole : Result (List Variable) Refusal) → rest ≡ w ∷ others → o ≡ reserved_variable least c w → o ≡ Ok v → more ≡ out ++ v ∷ [] → behind out (reserved_each least c rest) ≡ whole → behind more (reserved_each least c others) ≡ whole
behind-told_word least c rest others w out more o goal v whole er eo ev em h =
    ap (λ x. behind x (reserved_each least c others)) em ∙ (behind_one out v (reserved_each least c others) ∙
    (ap (λ x. behind out (first_then x (reserved_each least c others))) (sym ev ∙ eo) ∙ (ap (λ ws. behind out (reserved_each least c ws)) (sym er) ∙ h)))

pub told_unreserved : (least : ℕ) (c : Context) (rest others : List Word) (w : Word) (out : List Variable) (o : Result Variable Refusal) (r : Refusal) (whole : Result (List Variable) Refusal) → rest ≡ w ∷ others → o ≡ reserved_variable least c w → o ≡ Err r → behind out (reserved_each least c rest) ≡ whole → Err r ≡ whole
told_unreserved least c rest others w out o r whole er eo ev h =
    ap (λ x. behind out (first_then x (reserved_each least c others))) (sym ev ∙ eo) ∙ (ap (λ ws. behind out (reserved_each least c ws)) (sym er) ∙ h)

behind_none : (o : Result (List Variable) Refusal) → behind [] o ≡ o
behind_none (Err r) = refl
behind_none (Ok vs) = refl

pub behind-told_words : (least : ℕ) (c : Context) (ws : List Word) (out : List Variable) → out ≡ [] → behind out (reserved_each least c ws) ≡ reserved_each least c ws
behind-told_words least c ws out e = ap (λ x. behind x (reserved_each least c ws)) e ∙ behind_none (reserved_each least c ws)

pub ruleset reserved_rules = (told_no_word, behind-told_word, told_unreserved, behind-told_words)

-- variables put into force
pub with_variables-told_put : (c d : Context) (rest others : List Variable) (v : Variable) (goal : Context) → rest ≡ v ∷ others → d ≡ with_constant c (constant_of v) → with_variables c rest ≡ goal → with_variables d others ≡ goal
with_variables-told_put c d rest others v goal er ed h = ap (λ x. with_variables x others) ed ∙ (ap (with_variables c) (sym er) ∙ h)

pub told_all_put : (c : Context) (rest : List Variable) (goal : Context) → length rest ≡ 0 → with_variables c rest ≡ goal → c ≡ goal
told_all_put c rest goal e h = ap (with_variables c) (sym (empty rest e)) ∙ h

pub told_one : (c d : Context) (k : Constant) (v : Variable) → k ≡ constant_of v → d ≡ with_constant c k → d ≡ with_constant c (constant_of v)
told_one c d k v ek ed = ed ∙ ap (with_constant c) ek

pub ruleset put_rules = (with_variables-told_put, told_all_put, grown_itself, grown_kept, grown_more, grown_by, grown_add)

-- one declared identifier
declares_as : (e : Environment) (least : ℕ) (s : Declaring) (node other : DeclaredNode) (d : DeclaredData) (o : Result Declaring Refusal) → node ≡ other → declared_of other ≡ d → Declares e least s d o → Declares e least s (declared_of node) o
declares_as e least s node other d o en ed h = subst (λ x. Declares e least s x o) (sym (ap declared_of en ∙ ed)) h

pub told_waits : (e : Environment) (least : ℕ) (c : Context) (vs : List Variable) (ws us : List Word) (node : DeclaredNode) (w x : Word) → node ≡ declareds.Plain w → x ≡ w → us ≡ ws ++ x ∷ [] → Declares e least (declaring_at c vs ws) (declared_of node) (Ok (declaring_at c vs us))
told_waits e least c vs ws us node w x en ex eu =
    let P : List Word → Type 0 = λ ys. Declares e least (declaring_at c vs ws) (declared_of node) (Ok (declaring_at c vs ys)) in
    subst P (sym (eu ∙ ap (λ y. ws ++ y ∷ []) ex)) (declares_as e least (declaring_at c vs ws) node (declareds.Plain w) (PlainDeclared w) _ en (declared_of-plain w) (dc.waits (declaring_at c vs ws) w))

pub told_type_refused : (e : Environment) (least : ℕ) (c : Context) (vs : List Variable) (ws : List Word) (node : DeclaredNode) (w : Word) (b : Being) (ty : Box TypeNode Global) (p : Result SoftType Refusal) (r : Refusal) → node ≡ declareds.Typed w b ty → ReadsType e c least (type_of ty.value) p → p ≡ Err r → Declares e least (declaring_at c vs ws) (declared_of node) (Err r)
told_type_refused e least c vs ws node w b ty p r en h ep =
    let P : Result SoftType Refusal → Type 0 = λ x. ReadsType e c least (type_of ty.value) x in
    declares_as e least (declaring_at c vs ws) node (declareds.Typed w b ty) (TypedDeclared w b (type_of ty.value)) (Err r) en (declared_of-typed w b ty) (dc.type_refused (declaring_at c vs ws) w b (type_of ty.value) r (subst P ep h))

pub told_typed : (e : Environment) (least : ℕ) (c d f : Context) (vs us more : List Variable) (ws between after : List Word) (node : DeclaredNode) (w x : Word) (b : Being) (ty : Box TypeNode Global) (p : Result SoftType Refusal) (t : SoftType) →
    node ≡ declareds.Typed w b ty → ReadsType e c least (type_of ty.value) p → p ≡ Ok t → d ≡ c → x ≡ w → between ≡ ws ++ x ∷ [] → more ≡ map (variable_of t) between → f ≡ with_variables d more → us ≡ vs ++ more → after ≡ [] →
    Declares e least (declaring_at c vs ws) (declared_of node) (Ok (declaring_at f us after))
told_typed e least c d f vs us more ws between after node w x b ty p t en h ep ed ex eb em ef eu ea =
    let P : Result SoftType Refusal → Type 0 = λ q. ReadsType e c least (type_of ty.value) q in
    let all : more ≡ map (variable_of t) (ws ++ w ∷ []) = em ∙ ap (map (variable_of t)) (eb ∙ ap (λ y. ws ++ y ∷ []) ex) in
    let one : declaring_at f us after ≡ with_more (declaring_at c vs ws) (map (variable_of t) (ws ++ w ∷ [])) =
    ap (λ y. declaring_at y us after) (ef ∙ (ap (λ y. with_variables y more) ed ∙ ap (with_variables c) all)) ∙
    (ap (λ y. declaring_at (with_variables c (map (variable_of t) (ws ++ w ∷ []))) y after) (eu ∙ ap (λ y. vs ++ y) all) ∙
    ap (declaring_at (with_variables c (map (variable_of t) (ws ++ w ∷ []))) (vs ++ map (variable_of t) (ws ++ w ∷ []))) ea) in
    let Q : Declaring → Type 0 = λ s. Declares e least (declaring_at c vs ws) (declared_of node) (Ok s) in
    subst Q (sym one) (declares_as e least (declaring_at c vs ws) node (declareds.Typed w b ty) (TypedDeclared w b (type_of ty.value)) _ en (declared_of-typed w b ty) (dc.type_read (declaring_at c vs ws) w b (type_of ty.value) t (subst P ep h)))

pub ruleset declare_rules = (told_waits, told_type_refused, told_typed, grown_itself, grown_kept, grown_more)

-- one after another: what the rest gives, all give
abbrev pub Gives : Environment → ℕ → Declaring → List (Next Comma DeclaredNode) → Declaring → List (Next Comma DeclaredNode) → Type 0
Gives e least s rest t all = (o : Result Declaring Refusal) → DeclaresAll e least s (map declared_tree rest) o → DeclaresAll e least t (map declared_tree all) o

pub told_declared_end : (e : Environment) (least : ℕ) (s t : Declaring) (rest all : List (Next Comma DeclaredNode)) → length rest ≡ 0 → Gives e least s rest t all → DeclaresAll e least t (map declared_tree all) (Ok s)
told_declared_end e least s t rest all er g = g (Ok s) (subst (λ xs. DeclaresAll e least s (map declared_tree xs) (Ok s)) (sym (empty rest er)) (dc.no_more s))

outcome_is : (e : Environment) (least : ℕ) (s t : Declaring) (d : DeclaredData) (q p : Option Refusal) → q ≡ p → Declares e least s d (outcome q t) → Declares e least s d (outcome p t)
outcome_is e least s t d q p eq h = subst (λ x. Declares e least s d (outcome x t)) eq h

pub told_declared_stop : (e : Environment) (least : ℕ) (s s' t : Declaring) (rest others all : List (Next Comma DeclaredNode)) (n : Next Comma DeclaredNode) (q : Option Refusal) (r : Refusal) → rest ≡ n ∷ others → Declares e least s (declared_of n.tree) (outcome q s') → q ≡ Some r → Gives e least s rest t all → DeclaresAll e least t (map declared_tree all) (Err r)
told_declared_stop e least s s' t rest others all n q r er h eq g =
    g (Err r) (subst (λ xs. DeclaresAll e least s (map declared_tree xs) (Err r)) (sym er) (dc.one_refused s (declared_of n.tree) (map declared_tree others) r (outcome_is e least s s' (declared_of n.tree) q (Some r) eq h)))

pub told_declared_turn : (e : Environment) (least : ℕ) (s s' t : Declaring) (rest others all : List (Next Comma DeclaredNode)) (n : Next Comma DeclaredNode) (q : Option Refusal) → rest ≡ n ∷ others → Declares e least s (declared_of n.tree) (outcome q s') → q ≡ None → Gives e least s rest t all → Gives e least s' others t all
told_declared_turn e least s s' t rest others all n q er h eq g o k =
    g o (subst (λ xs. DeclaresAll e least s (map declared_tree xs) o) (sym er) (dc.one_read s s' (declared_of n.tree) (map declared_tree others) o (outcome_is e least s s' (declared_of n.tree) q None eq h) k))

pub told_first_refused : (e : Environment) (least : ℕ) (s s' : Declaring) (d : DeclaredData) (ds : List DeclaredData) (q : Option Refusal) (r : Refusal) → Declares e least s d (outcome q s') → q ≡ Some r → DeclaresAll e least s (d ∷ ds) (Err r)
told_first_refused e least s s' d ds q r h eq = dc.one_refused s d ds r (outcome_is e least s s' d q (Some r) eq h)

pub told_first_read : (e : Environment) (least : ℕ) (s s' : Declaring) (d : DeclaredData) (ds : List DeclaredData) (q : Option Refusal) (o : Result Declaring Refusal) → Declares e least s d (outcome q s') → q ≡ None → DeclaresAll e least s' ds o → DeclaresAll e least s (d ∷ ds) o
told_first_read e least s s' d ds q o h eq k = dc.one_read s s' d ds o (outcome_is e least s s' d q None eq h) k

-- the context has the variables in force
pub record Follows (s t : Declaring) : Type 0 where
  pub more : List Variable
  pub variables : t.variables ≡ s.variables ++ more
  pub context : t.context ≡ with_variables s.context more

follows_itself : (s : Declaring) → Follows s s
follows_itself s = record { more = []; variables = sym (append-nil s.variables); context = refl }

follows_after : (s t u : Declaring) → Follows s t → Follows t u → Follows s u
follows_after s t u f g =
    record {
      more = f.more ++ g.more;
      variables = g.variables ∙ (ap (λ vs. vs ++ g.more) f.variables ∙ append_assoc s.variables f.more g.more);
      context = g.context ∙ (ap (λ c. with_variables c g.more) f.context ∙ sym (with_variables-append s.context f.more g.more));
    }

follows_one : (e : Environment) (least : ℕ) (s t : Declaring) (d : DeclaredData) → Declares e least s d (Ok t) → Follows s t
follows_one e least s _ _ (dc.waits _ w) = record { more = []; variables = sym (append-nil s.variables); context = refl }
follows_one e least s _ _ (dc.type_read _ w b ty t h) = record { more = map (variable_of t) (s.waiting ++ w ∷ []); variables = refl; context = refl }

follows_all : (e : Environment) (least : ℕ) (s t : Declaring) (ds : List DeclaredData) → DeclaresAll e least s ds (Ok t) → Follows s t
follows_all e least s _ _ (dc.no_more _) = follows_itself s
follows_all e least s t _ (dc.one_read _ u d ds _ h k) = follows_after s u t (follows_one e least s u d h) (follows_all e least u t ds k)

-- the whole
all_is : (e : Environment) (least : ℕ) (s t : Declaring) (ds : List DeclaredData) (q p : Option Refusal) → q ≡ p → DeclaresAll e least s ds (outcome q t) → DeclaresAll e least s ds (outcome p t)
all_is e least s t ds q p eq h = subst (λ x. DeclaresAll e least s ds (outcome x t)) eq h

begun : (e : Environment) (least : ℕ) (c : Context) (vs : List Variable) (ws : List Word) (ds : List DeclaredData) (o : Result Declaring Refusal) → vs ≡ [] → ws ≡ [] → DeclaresAll e least (declaring_at c vs ws) ds o → DeclaresAll e least (undeclared c) ds o
begun e least c vs ws ds o ev ew h = subst (λ x. DeclaresAll e least (declaring_at c [] x) ds o) ew (subst (λ x. DeclaresAll e least (declaring_at c x ws) ds o) ev h)

pub told_not_declared : (e : Environment) (least : ℕ) (c : Context) (vs : List Variable) (ws : List Word) (ds : List DeclaredData) (t : Declaring) (q : Option Refusal) (r : Refusal) → vs ≡ [] → ws ≡ [] → DeclaresAll e least (declaring_at c vs ws) ds (outcome q t) → q ≡ Some r → ReadsDeclared e least c ds (Err r)
told_not_declared e least c vs ws ds t q r ev ew h eq = dc.declared_refused r (begun e least c vs ws ds (Err r) ev ew (all_is e least (declaring_at c vs ws) t ds q (Some r) eq h))

pub told_not_reserved : (e : Environment) (least : ℕ) (c d : Context) (vs us : List Variable) (ws xs : List Word) (ds : List DeclaredData) (q : Option Refusal) (p : Result (List Variable) Refusal) (r : Refusal) → vs ≡ [] → ws ≡ [] → DeclaresAll e least (declaring_at c vs ws) ds (outcome q (declaring_at d us xs)) → q ≡ None → p ≡ reserved_each least d xs → p ≡ Err r → ReadsDeclared e least c ds (Err r)
told_not_reserved e least c d vs us ws xs ds q p r ev ew h eq ep er =
    let P : Result (List Variable) Refusal → Type 0 = λ x. ReadsDeclared e least c ds (behind us x) in
    subst P (sym ep ∙ er) (dc.declared_read (declaring_at d us xs) (begun e least c vs ws ds (Ok (declaring_at d us xs)) ev ew (all_is e least (declaring_at c vs ws) (declaring_at d us xs) ds q None eq h)))

pub told_declared : (e : Environment) (least : ℕ) (c d : Context) (vs us all more : List Variable) (ws xs : List Word) (ds : List DeclaredData) (q : Option Refusal) (p : Result (List Variable) Refusal) → vs ≡ [] → ws ≡ [] → DeclaresAll e least (declaring_at c vs ws) ds (outcome q (declaring_at d us xs)) → q ≡ None → p ≡ reserved_each least d xs → p ≡ Ok more → all ≡ us ++ more → ReadsDeclared e least c ds (Ok all)
told_declared e least c d vs us all more ws xs ds q p ev ew h eq ep er ea =
    let P : Result (List Variable) Refusal → Type 0 = λ x. ReadsDeclared e least c ds (behind us x) in
    let Q : List Variable → Type 0 = λ x. ReadsDeclared e least c ds (Ok x) in
    subst Q (sym ea) (subst P (sym ep ∙ er) (dc.declared_read (declaring_at d us xs) (begun e least c vs ws ds (Ok (declaring_at d us xs)) ev ew (all_is e least (declaring_at c vs ws) (declaring_at d us xs) ds q None eq h))))

pub told_context : (e : Environment) (least : ℕ) (c d f : Context) (vs us all more : List Variable) (ws xs : List Word) (ds : List DeclaredData) (q : Option Refusal) → vs ≡ [] → ws ≡ [] → DeclaresAll e least (declaring_at c vs ws) ds (outcome q (declaring_at d us xs)) → q ≡ None → f ≡ with_variables d more → all ≡ us ++ more → f ≡ with_variables c all
told_context e least c d f vs us all more ws xs ds q ev ew h eq ef ea =
    let g : Follows (undeclared c) (declaring_at d us xs) = follows_all e least (undeclared c) (declaring_at d us xs) ds (begun e least c vs ws ds (Ok (declaring_at d us xs)) ev ew (all_is e least (declaring_at c vs ws) (declaring_at d us xs) ds q None eq h)) in
    ef ∙ (ap (λ x. with_variables x more) g.context ∙ (sym (with_variables-append c g.more more) ∙ (ap (λ x. with_variables c (x ++ more)) (sym g.variables) ∙ ap (with_variables c) (sym ea))))

pub ruleset all_rules = (told_declared_end, told_declared_stop, told_declared_turn, grown_itself, grown_kept, grown_more)

pub ruleset whole_rules = (told_first_refused, told_first_read, grown_itself, grown_kept, grown_more)

pub ruleset read_rules = (told_not_declared, told_not_reserved, told_declared, told_context, grown_itself, grown_kept, grown_more)
