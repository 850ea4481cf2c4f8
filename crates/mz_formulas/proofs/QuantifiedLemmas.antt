-- What the code of quantified formulas tells.
use Rattle.std.proofs.Common.{◌≡◌, ℕ, List, [], ◌∷◌, length, map, refl, sym, ap, ◌∙◌, subst, Option, Some, Box}
use Rattle.std.specs.Prelude.{Result, Ok, Err, IfOk}
use Rattle.std.specs.declared.alloc.Global.{Global}
use Rattle.mz_base.specs.declared.place.Place.{Place}
use Rattle.mz_core.specs.Statement.{Statement}
use Rattle.mz_context.specs.Context.{next}
use Rattle.mz_context.specs.declared.context.Context.{Context}
use Rattle.mz_environment.specs.declared.environment.Environment.{Environment}
use Rattle.mz_names.specs.Closing.{with_variables}
use Rattle.mz_names.specs.declared.refusal.Refusal.{Refusal}
use Rattle.mz_names.specs.declared.variable.Variable.{Variable}
use Rattle.mz_choice.specs.Fresh.{Grown, keeping}
use Rattle.mz_choice.proofs.CoverLemmas.{told_left, grown_itself, grown_kept, grown_more}
use Rattle.mz_tree.specs.Trees.{DeclaredData, FormulaData, QuantifiedData, ForQuantified, ForSuchQuantified, ForFurtherQuantified, ForSuchFurtherQuantified, ExistsQuantified, next_declareds_of}
use Rattle.mz_tree.specs.Views.{formula_of, quantified_of, declared_of, next_declared_of}
use Rattle.mz_tree.specs.declared.chain.Chain.{Chain}
use Rattle.mz_tree.specs.declared.nodes.DeclaredNode.{DeclaredNode}
use Rattle.mz_tree.specs.declared.nodes.FormulaNode.{FormulaNode}
use Rattle.mz_tree.specs.declared.nodes.QuantifiedNode.{QuantifiedNode}
use Rattle.mz_tree.specs.declared.nodes.QuantifiedNode.TheVariants as quantifieds
use Rattle.mz_tree.specs.declared.word.Comma.{Comma}
use Rattle.mz_tree.proofs.Views.{quantified_of-for, quantified_of-for_such, quantified_of-for_further, quantified_of-for_such_further, quantified_of-exists}
use Rattle.mz_joined.specs.Bound.{for_all_within, there_are_within}
use Rattle.mz_joined.specs.Joined.{under}
use Rattle.mz_formulas.specs.Declarations.{ReadsDeclared, declared_tree}
use Rattle.mz_formulas.proofs.DeclaredLemmas.{listed_declared-is}
use Rattle.mz_formulas.specs.Formulas as fo
use Rattle.mz_formulas.specs.Formulas.{declared_in, bound_by, ReadsFormula, ReadsQuantified, ReadsBody}

-- declarations
pub told_declared_in_for : (node : QuantifiedNode) (ds : Chain Comma DeclaredNode) (p h : Place) (f : Box FormulaNode Global) → node ≡ quantifieds.For p ds h f → declared_in (quantified_of node) ≡ declared_of ds.first ∷ map declared_tree ds.more.items
told_declared_in_for node ds p h f en = ap (λ x. declared_in (quantified_of x)) en ∙ (ap declared_in (quantified_of-for p ds h f) ∙ ap (λ xs. declared_of ds.first ∷ xs) (listed_declared-is ds.more.items))

pub told_declared_in_for_such : (node : QuantifiedNode) (ds : Chain Comma DeclaredNode) (p q h : Place) (f g : Box FormulaNode Global) → node ≡ quantifieds.ForSuch p ds q f h g → declared_in (quantified_of node) ≡ declared_of ds.first ∷ map declared_tree ds.more.items
told_declared_in_for_such node ds p q h f g en = ap (λ x. declared_in (quantified_of x)) en ∙ (ap declared_in (quantified_of-for_such p ds q f h g) ∙ ap (λ xs. declared_of ds.first ∷ xs) (listed_declared-is ds.more.items))

pub told_declared_in_for_further : (node : QuantifiedNode) (ds : Chain Comma DeclaredNode) (p : Place) (q : Box QuantifiedNode Global) → node ≡ quantifieds.ForFurther p ds q → declared_in (quantified_of node) ≡ declared_of ds.first ∷ map declared_tree ds.more.items
told_declared_in_for_further node ds p q en = ap (λ x. declared_in (quantified_of x)) en ∙ (ap declared_in (quantified_of-for_further p ds q) ∙ ap (λ xs. declared_of ds.first ∷ xs) (listed_declared-is ds.more.items))

pub told_declared_in_for_such_further : (node : QuantifiedNode) (ds : Chain Comma DeclaredNode) (p r : Place) (f : Box FormulaNode Global) (q : Box QuantifiedNode Global) → node ≡ quantifieds.ForSuchFurther p ds r f q → declared_in (quantified_of node) ≡ declared_of ds.first ∷ map declared_tree ds.more.items
told_declared_in_for_such_further node ds p r f q en = ap (λ x. declared_in (quantified_of x)) en ∙ (ap declared_in (quantified_of-for_such_further p ds r f q) ∙ ap (λ xs. declared_of ds.first ∷ xs) (listed_declared-is ds.more.items))

pub told_declared_in_exists : (node : QuantifiedNode) (ds : Chain Comma DeclaredNode) (p q : Place) (f : Box FormulaNode Global) → node ≡ quantifieds.Exists p ds q f → declared_in (quantified_of node) ≡ declared_of ds.first ∷ map declared_tree ds.more.items
told_declared_in_exists node ds p q f en = ap (λ x. declared_in (quantified_of x)) en ∙ (ap declared_in (quantified_of-exists p ds q f) ∙ ap (λ xs. declared_of ds.first ∷ xs) (listed_declared-is ds.more.items))

pub ruleset declared_rules = (told_declared_in_for, told_declared_in_for_such, told_declared_in_for_further, told_declared_in_for_such_further, told_declared_in_exists)

-- quantifiers
pub told_bound_for : (node : QuantifiedNode) (ds : Chain Comma DeclaredNode) (p h : Place) (f : Box FormulaNode Global) (n : ℕ) (vs : List Variable) (s : Statement) (o : Result Statement Refusal) → node ≡ quantifieds.For p ds h f → o ≡ for_all_within p n vs s → o ≡ bound_by (quantified_of node) n vs (Ok s)
told_bound_for node ds p h f n vs s o en eo = eo ∙ sym (ap (λ x. bound_by x n vs (Ok s)) (ap quantified_of en ∙ quantified_of-for p ds h f))

pub told_bound_for_such : (node : QuantifiedNode) (ds : Chain Comma DeclaredNode) (p q h : Place) (f g : Box FormulaNode Global) (n : ℕ) (vs : List Variable) (s : Statement) (o : Result Statement Refusal) → node ≡ quantifieds.ForSuch p ds q f h g → o ≡ for_all_within p n vs s → o ≡ bound_by (quantified_of node) n vs (Ok s)
told_bound_for_such node ds p q h f g n vs s o en eo = eo ∙ sym (ap (λ x. bound_by x n vs (Ok s)) (ap quantified_of en ∙ quantified_of-for_such p ds q f h g))

pub told_bound_for_further : (node : QuantifiedNode) (ds : Chain Comma DeclaredNode) (p : Place) (q : Box QuantifiedNode Global) (n : ℕ) (vs : List Variable) (s : Statement) (o : Result Statement Refusal) → node ≡ quantifieds.ForFurther p ds q → o ≡ for_all_within p n vs s → o ≡ bound_by (quantified_of node) n vs (Ok s)
told_bound_for_further node ds p q n vs s o en eo = eo ∙ sym (ap (λ x. bound_by x n vs (Ok s)) (ap quantified_of en ∙ quantified_of-for_further p ds q))

pub told_bound_for_such_further : (node : QuantifiedNode) (ds : Chain Comma DeclaredNode) (p r : Place) (f : Box FormulaNode Global) (q : Box QuantifiedNode Global) (n : ℕ) (vs : List Variable) (s : Statement) (o : Result Statement Refusal) → node ≡ quantifieds.ForSuchFurther p ds r f q → o ≡ for_all_within p n vs s → o ≡ bound_by (quantified_of node) n vs (Ok s)
told_bound_for_such_further node ds p r f q n vs s o en eo = eo ∙ sym (ap (λ x. bound_by x n vs (Ok s)) (ap quantified_of en ∙ quantified_of-for_such_further p ds r f q))

pub told_bound_exists : (node : QuantifiedNode) (ds : Chain Comma DeclaredNode) (p q : Place) (f : Box FormulaNode Global) (n : ℕ) (vs : List Variable) (s : Statement) (o : Result Statement Refusal) → node ≡ quantifieds.Exists p ds q f → o ≡ there_are_within p n vs s → o ≡ bound_by (quantified_of node) n vs (Ok s)
told_bound_exists node ds p q f n vs s o en eo = eo ∙ sym (ap (λ x. bound_by x n vs (Ok s)) (ap quantified_of en ∙ quantified_of-exists p ds q f))

pub ruleset bound_rules = (told_bound_for, told_bound_for_such, told_bound_for_further, told_bound_for_such_further, told_bound_exists)

-- what stands behind the declarations
body_as : (e : Environment) (least : ℕ) (c : Context) (node other : QuantifiedNode) (q : QuantifiedData) (o : Result Statement Refusal) → node ≡ other → quantified_of other ≡ q → ReadsBody e least c q o → ReadsBody e least c (quantified_of node) o
body_as e least c node other q o en eq h = subst (λ x. ReadsBody e least c x o) (sym (ap quantified_of en ∙ eq)) h

formula_is : (e : Environment) (least : ℕ) (c : Context) (f : FormulaData) (o p : Result Statement Refusal) → o ≡ p → ReadsFormula e least c f o → ReadsFormula e least c f p
formula_is e least c f o p eo h = subst (λ x. ReadsFormula e least c f x) eo h

pub told_holds : (e : Environment) (least : ℕ) (c : Context) (node : QuantifiedNode) (ds : Chain Comma DeclaredNode) (p h : Place) (f : Box FormulaNode Global) (o : Result Statement Refusal) → node ≡ quantifieds.For p ds h f → ReadsFormula e least c (formula_of f.value) o → ReadsBody e least c (quantified_of node) o
told_holds e least c node ds p h f o en k = body_as e least c node (quantifieds.For p ds h f) _ o en (quantified_of-for p ds h f) (fo.holds c p h (declared_of ds.first) (next_declareds_of (map next_declared_of ds.more.items)) (formula_of f.value) o k)

pub told_exists : (e : Environment) (least : ℕ) (c : Context) (node : QuantifiedNode) (ds : Chain Comma DeclaredNode) (p q : Place) (f : Box FormulaNode Global) (o : Result Statement Refusal) → node ≡ quantifieds.Exists p ds q f → ReadsFormula e least c (formula_of f.value) o → ReadsBody e least c (quantified_of node) o
told_exists e least c node ds p q f o en k = body_as e least c node (quantifieds.Exists p ds q f) _ o en (quantified_of-exists p ds q f) (fo.exists c p q (declared_of ds.first) (next_declareds_of (map next_declared_of ds.more.items)) (formula_of f.value) o k)

pub told_further : (e : Environment) (least : ℕ) (c : Context) (node : QuantifiedNode) (ds : Chain Comma DeclaredNode) (p : Place) (q : Box QuantifiedNode Global) (o : Result Statement Refusal) → node ≡ quantifieds.ForFurther p ds q → ReadsQuantified e least c (quantified_of q.value) o → ReadsBody e least c (quantified_of node) o
told_further e least c node ds p q o en k = body_as e least c node (quantifieds.ForFurther p ds q) _ o en (quantified_of-for_further p ds q) (fo.further c p (declared_of ds.first) (next_declareds_of (map next_declared_of ds.more.items)) (quantified_of q.value) o k)

pub told_such_refused : (e : Environment) (least : ℕ) (c : Context) (node : QuantifiedNode) (ds : Chain Comma DeclaredNode) (p q h : Place) (f g : Box FormulaNode Global) (o : Result Statement Refusal) (r : Refusal) → node ≡ quantifieds.ForSuch p ds q f h g → ReadsFormula e least c (formula_of f.value) o → o ≡ Err r → ReadsBody e least c (quantified_of node) (Err r)
told_such_refused e least c node ds p q h f g o r en k eo =
    body_as e least c node (quantifieds.ForSuch p ds q f h g) _ (Err r) en (quantified_of-for_such p ds q f h g)
    (fo.such_refused c p q h (declared_of ds.first) (next_declareds_of (map next_declared_of ds.more.items)) (formula_of f.value) (formula_of g.value) r (formula_is e least c (formula_of f.value) o (Err r) eo k))

pub told_such : (e : Environment) (least : ℕ) (c b : Context) (node : QuantifiedNode) (ds : Chain Comma DeclaredNode) (p q h : Place) (f g : Box FormulaNode Global) (o x y : Result Statement Refusal) (s : Statement) → node ≡ quantifieds.ForSuch p ds q f h g → ReadsFormula e least c (formula_of f.value) o → o ≡ Ok s → b ≡ c → ReadsFormula e least b (formula_of g.value) x → y ≡ under s x → ReadsBody e least c (quantified_of node) y
told_such e least c b node ds p q h f g o x y s en k eo eb m ey =
    let P : Result Statement Refusal → Type 0 = λ z. ReadsBody e least c (quantified_of node) z in
    subst P (sym ey) (body_as e least c node (quantifieds.ForSuch p ds q f h g) _ (under s x) en (quantified_of-for_such p ds q f h g)
    (fo.such c p q h (declared_of ds.first) (next_declareds_of (map next_declared_of ds.more.items)) (formula_of f.value) (formula_of g.value) s x (formula_is e least c (formula_of f.value) o (Ok s) eo k) (subst (λ z. ReadsFormula e least z (formula_of g.value) x) eb m)))

pub told_such_further_refused : (e : Environment) (least : ℕ) (c : Context) (node : QuantifiedNode) (ds : Chain Comma DeclaredNode) (p t : Place) (f : Box FormulaNode Global) (q : Box QuantifiedNode Global) (o : Result Statement Refusal) (r : Refusal) → node ≡ quantifieds.ForSuchFurther p ds t f q → ReadsFormula e least c (formula_of f.value) o → o ≡ Err r → ReadsBody e least c (quantified_of node) (Err r)
told_such_further_refused e least c node ds p t f q o r en k eo =
    body_as e least c node (quantifieds.ForSuchFurther p ds t f q) _ (Err r) en (quantified_of-for_such_further p ds t f q)
    (fo.such_further_refused c p t (declared_of ds.first) (next_declareds_of (map next_declared_of ds.more.items)) (formula_of f.value) (quantified_of q.value) r (formula_is e least c (formula_of f.value) o (Err r) eo k))

pub told_such_further : (e : Environment) (least : ℕ) (c b : Context) (node : QuantifiedNode) (ds : Chain Comma DeclaredNode) (p t : Place) (f : Box FormulaNode Global) (q : Box QuantifiedNode Global) (o x y : Result Statement Refusal) (s : Statement) → node ≡ quantifieds.ForSuchFurther p ds t f q → ReadsFormula e least c (formula_of f.value) o → o ≡ Ok s → b ≡ c → ReadsQuantified e least b (quantified_of q.value) x → y ≡ under s x → ReadsBody e least c (quantified_of node) y
told_such_further e least c b node ds p t f q o x y s en k eo eb m ey =
    let P : Result Statement Refusal → Type 0 = λ z. ReadsBody e least c (quantified_of node) z in
    subst P (sym ey) (body_as e least c node (quantifieds.ForSuchFurther p ds t f q) _ (under s x) en (quantified_of-for_such_further p ds t f q)
    (fo.such_further c p t (declared_of ds.first) (next_declareds_of (map next_declared_of ds.more.items)) (formula_of f.value) (quantified_of q.value) s x (formula_is e least c (formula_of f.value) o (Ok s) eo k) (subst (λ z. ReadsQuantified e least z (quantified_of q.value) x) eb m)))

pub ruleset body_rules = (told_holds, told_exists, told_further, told_such_refused, told_such, told_such_further_refused, told_such_further)

-- the whole
declared_is : (e : Environment) (least : ℕ) (c : Context) (node : QuantifiedNode) (ds : List DeclaredData) (o p : Result (List Variable) Refusal) → declared_in (quantified_of node) ≡ ds → o ≡ p → ReadsDeclared e least c ds o → ReadsDeclared e least c (declared_in (quantified_of node)) p
declared_is e least c node ds o p ed eo h = subst (λ x. ReadsDeclared e least c (declared_in (quantified_of node)) x) eo (subst (λ x. ReadsDeclared e least c x o) (sym ed) h)

pub told_not_declared : (e : Environment) (least : ℕ) (c : Context) (node : QuantifiedNode) (ds : List DeclaredData) (o : Result (List Variable) Refusal) (r : Refusal) → declared_in (quantified_of node) ≡ ds → ReadsDeclared e least c ds o → o ≡ Err r → ReadsQuantified e least c (quantified_of node) (Err r)
told_not_declared e least c node ds o r ed h eo = fo.declared_refused c (quantified_of node) r (declared_is e least c node ds o (Err r) ed eo h)

in_scope : (c d : Context) (o : Result (List Variable) Refusal) (vs : List Variable) → o ≡ Ok vs → IfOk o (λ us. d ≡ with_variables c us) → d ≡ with_variables c vs
in_scope c d o vs eo h = subst (λ x. IfOk x (λ us. d ≡ with_variables c us)) eo h

pub told_body : (e : Environment) (least : ℕ) (c d : Context) (node : QuantifiedNode) (ds : List DeclaredData) (o : Result (List Variable) Refusal) (vs : List Variable) (p : Result Statement Refusal) → declared_in (quantified_of node) ≡ ds → ReadsDeclared e least c ds o → o ≡ Ok vs → IfOk o (λ us. d ≡ with_variables c us) → ReadsBody e least d (quantified_of node) p → ReadsQuantified e least c (quantified_of node) (bound_by (quantified_of node) (next c) vs p)
told_body e least c d node ds o vs p ed h eo ec k =
    fo.declared c (quantified_of node) vs p (declared_is e least c node ds o (Ok vs) ed eo h) (subst (λ x. ReadsBody e least x (quantified_of node) p) (in_scope c d o vs eo ec) k)

pub told_body_refused : (e : Environment) (least : ℕ) (c d : Context) (node : QuantifiedNode) (ds : List DeclaredData) (o : Result (List Variable) Refusal) (vs : List Variable) (p : Result Statement Refusal) (r : Refusal) → declared_in (quantified_of node) ≡ ds → ReadsDeclared e least c ds o → o ≡ Ok vs → IfOk o (λ us. d ≡ with_variables c us) → ReadsBody e least d (quantified_of node) p → p ≡ Err r → ReadsQuantified e least c (quantified_of node) (Err r)
told_body_refused e least c d node ds o vs p r ed h eo ec k ep =
    let P : Result Statement Refusal → Type 0 = λ x. ReadsQuantified e least c (quantified_of node) (bound_by (quantified_of node) (next c) vs x) in
    subst P ep (told_body e least c d node ds o vs p ed h eo ec k)

pub told_body_read : (e : Environment) (least : ℕ) (c d : Context) (node : QuantifiedNode) (ds : List DeclaredData) (o : Result (List Variable) Refusal) (vs us : List Variable) (p q : Result Statement Refusal) (s : Statement) (n : ℕ) → n ≡ next c → declared_in (quantified_of node) ≡ ds → ReadsDeclared e least c ds o → o ≡ Ok vs → IfOk o (λ xs. d ≡ with_variables c xs) → ReadsBody e least d (quantified_of node) p → p ≡ Ok s → us ≡ vs → q ≡ bound_by (quantified_of node) n us (Ok s) → ReadsQuantified e least c (quantified_of node) q
told_body_read e least c d node ds o vs us p q s n en ed h eo ec k ep eu eq =
    let P : Result Statement Refusal → Type 0 = λ x. ReadsQuantified e least c (quantified_of node) x in
    let is : q ≡ bound_by (quantified_of node) (next c) vs p = eq ∙ (ap (λ m. bound_by (quantified_of node) m us (Ok s)) en ∙ (ap (λ xs. bound_by (quantified_of node) (next c) xs (Ok s)) eu ∙ ap (bound_by (quantified_of node) (next c) vs) (sym ep))) in
    subst P (sym is) (told_body e least c d node ds o vs p ed h eo ec k)

pub ruleset quantified_rules = (told_not_declared, told_body_refused, told_body_read, grown_itself, grown_kept, grown_more)

pub ruleset scope_rules = (told_left)
