-- What the code of `deffunc` and `defpred` tells.
use Rattle.std.proofs.Common.{◌≡◌, ℕ, List, length, refl, sym, ap, ◌∙◌, subst, Option}
use Rattle.std.specs.Prelude.{Result, Ok, Err}
use Rattle.mz_logic.specs.Term.{Term}
use Rattle.mz_core.specs.Statement.{Statement}
use Rattle.mz_core.specs.declared.outcome.Left.{Left}
use Rattle.mz_core.specs.declared.soft_type.SoftType.{SoftType}
use Rattle.mz_context.specs.Context.{next}
use Rattle.mz_context.specs.declared.context.Context.{Context}
use Rattle.mz_context.specs.declared.private.PrivateFunctor.{PrivateFunctor}
use Rattle.mz_context.specs.declared.private.PrivatePredicate.{PrivatePredicate}
use Rattle.mz_environment.specs.declared.environment.Environment.{Environment}
use Rattle.mz_names.specs.declared.refusal.Refusal.{Refusal}
use Rattle.mz_tree.specs.Trees.{TermData, TypeData, FormulaData}
use Rattle.mz_tree.specs.declared.lists.Separated.{Separated}
use Rattle.mz_tree_proof.specs.declared.introduction.DeffuncTree.{DeffuncTree}
use Rattle.mz_tree_proof.specs.declared.introduction.DefpredTree.{DefpredTree}
use Rattle.mz_resolve.specs.Answers.{OnRead}
use Rattle.mz_resolve.specs.Calls.{TermRead, FormulaRead}
use Rattle.mz_resolve.specs.declared.resolve_fault.ResolveFault.{ResolveFault}
use Rattle.mz_places.proofs.PlaceLemmas.{read_by, refused_by}
use Rattle.mz_places.specs.Places.{PlacesRead}
use Rattle.mz_private.specs.Private as pr
use Rattle.mz_private.specs.Private.{inside, functor, predicate, FunctorRead, PredicateRead}
use Rattle.mz_private.proofs.InsideLemmas.{told_outside}

-- inside
pub told_term_inside : (e : Environment) (c d : Context) (least : ℕ) (left after : Left) (tys : List SoftType) (t : TermData) (q : Result Term ResolveFault) (u : Term) → d ≡ inside c tys → OnRead q (λ o. TermRead e d least left t o after) → q ≡ Ok u → TermRead e (inside c tys) least left t (Ok u) after
told_term_inside e c d least left after tys t q u ed h eq =
    let P : Result Term Refusal → Type 0 = λ o. TermRead e d least left t o after in
    subst (λ z. TermRead e z least left t (Ok u) after) ed (read_by P q u h eq)

pub told_term_not_inside : (e : Environment) (c d : Context) (least : ℕ) (left after : Left) (tys : List SoftType) (t : TermData) (q : Result Term ResolveFault) (f : ResolveFault) → d ≡ inside c tys → OnRead q (λ o. TermRead e d least left t o after) → q ≡ Err f → OnRead {X = Term} (Err f) (λ o. TermRead e (inside c tys) least left t o after)
told_term_not_inside e c d least left after tys t q f ed h eq =
    let P : Result Term Refusal → Type 0 = λ o. TermRead e d least left t o after in
    let Q : Result Term Refusal → Type 0 = λ o. TermRead e (inside c tys) least left t o after in
    refused_by P Q q f h eq (λ r k. subst (λ z. TermRead e z least left t (Err r) after) ed k)

pub told_formula_inside : (e : Environment) (c d : Context) (least : ℕ) (left after : Left) (tys : List SoftType) (t : FormulaData) (q : Result Statement ResolveFault) (s : Statement) → d ≡ inside c tys → OnRead q (λ o. FormulaRead e d least left t o after) → q ≡ Ok s → FormulaRead e (inside c tys) least left t (Ok s) after
told_formula_inside e c d least left after tys t q s ed h eq =
    let P : Result Statement Refusal → Type 0 = λ o. FormulaRead e d least left t o after in
    subst (λ z. FormulaRead e z least left t (Ok s) after) ed (read_by P q s h eq)

pub told_formula_not_inside : (e : Environment) (c d : Context) (least : ℕ) (left after : Left) (tys : List SoftType) (t : FormulaData) (q : Result Statement ResolveFault) (f : ResolveFault) → d ≡ inside c tys → OnRead q (λ o. FormulaRead e d least left t o after) → q ≡ Err f → OnRead {X = Statement} (Err f) (λ o. FormulaRead e (inside c tys) least left t o after)
told_formula_not_inside e c d least left after tys t q f ed h eq =
    let P : Result Statement Refusal → Type 0 = λ o. FormulaRead e d least left t o after in
    let Q : Result Statement Refusal → Type 0 = λ o. FormulaRead e (inside c tys) least left t o after in
    refused_by P Q q f h eq (λ r k. subst (λ z. FormulaRead e z least left t (Err r) after) ed k)

pub ruleset inside_rules = (told_term_inside, told_term_not_inside, told_formula_inside, told_formula_not_inside, told_outside)

-- the types of the places
places : (e : Environment) (c : Context) (least : ℕ) (left between : Left) (ts : Option (Separated TypeData)) (p : Result (List SoftType) ResolveFault) (tys : List SoftType) → OnRead p (λ o. PlacesRead e c least left ts o between) → p ≡ Ok tys → PlacesRead e c least left ts (Ok tys) between
places e c least left between ts p tys h ep =
    let P : Result (List SoftType) Refusal → Type 0 = λ o. PlacesRead e c least left ts o between in
    read_by P p tys h ep

-- `deffunc`
pub told_no_functor_places : (e : Environment) (c : Context) (least : ℕ) (left after : Left) (t : DeffuncTree) (p : Result (List SoftType) ResolveFault) (f : ResolveFault) → OnRead p (λ o. PlacesRead e c least left t.types o after) → p ≡ Err f → OnRead {X = PrivateFunctor} (Err f) (λ o. FunctorRead e c least left t o after)
told_no_functor_places e c least left after t p f h ep =
    let P : Result (List SoftType) Refusal → Type 0 = λ o. PlacesRead e c least left t.types o after in
    let Q : Result PrivateFunctor Refusal → Type 0 = λ o. FunctorRead e c least left t o after in
    refused_by P Q p f h ep (λ r k. pr.places_refused r after k)

pub told_no_functor_body : (e : Environment) (c d : Context) (least : ℕ) (left between after : Left) (t : DeffuncTree) (p : Result (List SoftType) ResolveFault) (tys : List SoftType) (q : Result Term ResolveFault) (f : ResolveFault) →
    OnRead p (λ o. PlacesRead e c least left t.types o between) → p ≡ Ok tys → d ≡ c → OnRead q (λ o. TermRead e (inside d tys) least between t.term o after) → q ≡ Err f → OnRead {X = PrivateFunctor} (Err f) (λ o. FunctorRead e c least left t o after)
told_no_functor_body e c d least left between after t p tys q f h ep ed k eq =
    let P : Result Term Refusal → Type 0 = λ o. TermRead e (inside d tys) least between t.term o after in
    let Q : Result PrivateFunctor Refusal → Type 0 = λ o. FunctorRead e c least left t o after in
    refused_by P Q q f k eq (λ r g. pr.term_refused tys r between after (places e c least left between t.types p tys h ep) (subst (λ x. TermRead e (inside x tys) least between t.term (Err r) after) ed g))

pub told_functor : (e : Environment) (c d : Context) (least n : ℕ) (left between after : Left) (t : DeffuncTree) (p : Result (List SoftType) ResolveFault) (tys : List SoftType) (q : Result Term ResolveFault) (u : Term) (x : PrivateFunctor) →
    OnRead p (λ o. PlacesRead e c least left t.types o between) → p ≡ Ok tys → d ≡ c → n ≡ next d → OnRead q (λ o. TermRead e (inside d tys) least between t.term o after) → q ≡ Ok u → x ≡ functor t.name tys n u → FunctorRead e c least left t (Ok x) after
told_functor e c d least n left between after t p tys q u x h ep ed en k eq ex =
    let P : Result Term Refusal → Type 0 = λ o. TermRead e (inside d tys) least between t.term o after in
    let is : x ≡ functor t.name tys (next c) u = ex ∙ ap (λ m. functor t.name tys m u) (en ∙ ap next ed) in
    subst (λ z. FunctorRead e c least left t (Ok z) after) (sym is)
    (pr.functor_read tys u between after (places e c least left between t.types p tys h ep) (subst (λ y. TermRead e (inside y tys) least between t.term (Ok u) after) ed (read_by P q u k eq)))

pub told_back : (c d f : Context) → d ≡ c → f ≡ d → f ≡ c
told_back c d f ed ef = ef ∙ ed

pub ruleset functor_rules = (told_no_functor_places, told_no_functor_body, told_functor, told_back)

-- `defpred`
pub told_no_predicate_places : (e : Environment) (c : Context) (least : ℕ) (left after : Left) (t : DefpredTree) (p : Result (List SoftType) ResolveFault) (f : ResolveFault) → OnRead p (λ o. PlacesRead e c least left t.types o after) → p ≡ Err f → OnRead {X = PrivatePredicate} (Err f) (λ o. PredicateRead e c least left t o after)
told_no_predicate_places e c least left after t p f h ep =
    let P : Result (List SoftType) Refusal → Type 0 = λ o. PlacesRead e c least left t.types o after in
    let Q : Result PrivatePredicate Refusal → Type 0 = λ o. PredicateRead e c least left t o after in
    refused_by P Q p f h ep (λ r k. pr.places_refused r after k)

pub told_no_predicate_body : (e : Environment) (c d : Context) (least : ℕ) (left between after : Left) (t : DefpredTree) (p : Result (List SoftType) ResolveFault) (tys : List SoftType) (q : Result Statement ResolveFault) (f : ResolveFault) →
    OnRead p (λ o. PlacesRead e c least left t.types o between) → p ≡ Ok tys → d ≡ c → OnRead q (λ o. FormulaRead e (inside d tys) least between t.formula o after) → q ≡ Err f → OnRead {X = PrivatePredicate} (Err f) (λ o. PredicateRead e c least left t o after)
told_no_predicate_body e c d least left between after t p tys q f h ep ed k eq =
    let P : Result Statement Refusal → Type 0 = λ o. FormulaRead e (inside d tys) least between t.formula o after in
    let Q : Result PrivatePredicate Refusal → Type 0 = λ o. PredicateRead e c least left t o after in
    refused_by P Q q f k eq (λ r g. pr.formula_refused tys r between after (places e c least left between t.types p tys h ep) (subst (λ x. FormulaRead e (inside x tys) least between t.formula (Err r) after) ed g))

pub told_predicate : (e : Environment) (c d : Context) (least n : ℕ) (left between after : Left) (t : DefpredTree) (p : Result (List SoftType) ResolveFault) (tys : List SoftType) (q : Result Statement ResolveFault) (s : Statement) (x : PrivatePredicate) →
    OnRead p (λ o. PlacesRead e c least left t.types o between) → p ≡ Ok tys → d ≡ c → n ≡ next d → OnRead q (λ o. FormulaRead e (inside d tys) least between t.formula o after) → q ≡ Ok s → x ≡ predicate t.name tys n s → PredicateRead e c least left t (Ok x) after
told_predicate e c d least n left between after t p tys q s x h ep ed en k eq ex =
    let P : Result Statement Refusal → Type 0 = λ o. FormulaRead e (inside d tys) least between t.formula o after in
    let is : x ≡ predicate t.name tys (next c) s = ex ∙ ap (λ m. predicate t.name tys m s) (en ∙ ap next ed) in
    subst (λ z. PredicateRead e c least left t (Ok z) after) (sym is)
    (pr.predicate_read tys s between after (places e c least left between t.types p tys h ep) (subst (λ y. FormulaRead e (inside y tys) least between t.formula (Ok s) after) ed (read_by P q s k eq)))

pub ruleset predicate_rules = (told_no_predicate_places, told_no_predicate_body, told_predicate, told_back)
