-- What the code of what is told ahead of a side that isn't read tells.
use Rattle.std.proofs.Common.{◌≡◌, ℕ, List, [], ◌∷◌, ◌++◌, length, map, Bool, true, false, refl, sym, ap, ◌∙◌, subst, Option, Some, None}
use Rattle.std.specs.Prelude.{◌&&◌, Result, Ok, Err, IfOk}
use Rattle.mz_logic.specs.Term.{Term}
use Rattle.mz_core.specs.Statement.{Statement, Truth, Eq, Atom, Not, And, For}
use Rattle.mz_core.specs.declared.outcome.Left.{Left}
use Rattle.mz_context.specs.Context.{next}
use Rattle.mz_context.specs.declared.context.Context.{Context}
use Rattle.mz_environment.specs.declared.environment.Environment.{Environment}
use Rattle.mz_fits.proofs.FitLemmas.{empty}
use Rattle.mz_choice.proofs.CoverLemmas.{told_left, grown_itself, grown_kept, grown_more}
use Rattle.mz_names.specs.Closing.{for_all, with_variables}
use Rattle.mz_names.specs.declared.refusal.Refusal.{Refusal}
use Rattle.mz_names.specs.declared.variable.Variable.{Variable}
use Rattle.mz_formulas.specs.declared.sentence.Sentence.{Sentence}
use Rattle.mz_resolve.specs.Answers.{OnRead}
use Rattle.mz_resolve.specs.Calls.{TermRead, SentenceRead}
use Rattle.mz_resolve.specs.declared.resolve_fault.ResolveFault.{ResolveFault}
use Rattle.mz_resolve.specs.declared.resolve_fault.ResolveFault.TheVariants as reading
use Rattle.mz_steps.specs.Equalities.{neighbours}
use Rattle.mz_tree_proof.specs.Reasoning.{JustData, SimpleJust, ProofJust, StepList}
use Rattle.mz_tree_proof.specs.declared.equality_step.EqualityStepTree.{EqualityStepTree}
use Rattle.mz_tree_proof.specs.declared.propositions.PropositionTree.{PropositionTree}
use Rattle.mz_tree_proof.specs.declared.references.SimpleTree.{SimpleTree}
use Rattle.mz_base.specs.declared.place.Place.{Place}
use Rattle.mz_parts.specs.Named.{side_of}
use Rattle.mz_justified.specs.Kept.{justification_keeps}
use Rattle.mz_walk.specs.Within.{all_kept}
use Rattle.mz_walk.specs.Compact.{is_equation, sides_keep}
use Rattle.mz_walk.specs.Ahead as ah
use Rattle.mz_walk.specs.Ahead.{TermsBegun, equations_behind, equations_begun, first_keeps, further_keep, begun_keep, KeepsAhead}
use Rattle.mz_performing.proofs.AnswerLemmas.{on_read}

-- terms one after another: what is begun of the rest, behind those so far, is what is begun of all
abbrev pub Begins : Environment → Context → Left → List EqualityStepTree → List Term → Left → List EqualityStepTree → List Term → Type 0
Begins e c left rest out from all before = (us : List Term) → TermsBegun e c left (map side_of rest) out us → TermsBegun e c from (map side_of all) before us

pub told_terms_end : (e : Environment) (c : Context) (left from : Left) (rest all : List EqualityStepTree) (out before : List Term) → length rest ≡ 0 → Begins e c left rest out from all before → TermsBegun e c from (map side_of all) before out
told_terms_end e c left from rest all out before er g = g out (subst (λ xs. TermsBegun e c left (map side_of xs) out out) (sym (empty rest er)) (ah.no_more left out))

pub told_terms_stop : (e : Environment) (c : Context) (left from after : Left) (rest others all : List EqualityStepTree) (k : EqualityStepTree) (out before : List Term) (q : Result Term ResolveFault) (f : ResolveFault) (r : Refusal) → rest ≡ k ∷ others →
    OnRead q (λ o. TermRead e c 0 left k.term o after) → q ≡ Err f → f ≡ reading.Refused r → Begins e c left rest out from all before → TermsBegun e c from (map side_of all) before out
told_terms_stop e c left from after rest others all k out before q f r er h eq ef g =
    let unread : TermRead e c 0 left k.term (Err r) after = subst (λ z. OnRead z (λ o. TermRead e c 0 left k.term o after)) (eq ∙ ap Err ef) h in
    g out (subst (λ xs. TermsBegun e c left (map side_of xs) out out) (sym er) (ah.one_not_read left after k.term (map side_of others) out r unread))

pub told_terms_turn : (e : Environment) (c : Context) (left from after : Left) (rest others all : List EqualityStepTree) (k : EqualityStepTree) (out more before : List Term) (q : Result Term ResolveFault) (t : Term) → rest ≡ k ∷ others →
    OnRead q (λ o. TermRead e c 0 left k.term o after) → q ≡ Ok t → more ≡ out ++ t ∷ [] → Begins e c left rest out from all before → Begins e c after others more from all before
told_terms_turn e c left from after rest others all k out more before q t er h eq em g us z =
    let P : Result Term Refusal → Type 0 = λ o. TermRead e c 0 left k.term o after in
    g us (subst (λ xs. TermsBegun e c left (map side_of xs) out us) (sym er)
    (ah.one_read left after k.term (map side_of others) out us t (on_read P q t eq h) (subst (λ xs. TermsBegun e c after (map side_of others) xs us) em z)))

pub ruleset side_rules = (told_terms_end, told_terms_stop, told_terms_turn)

-- with the variables
pub told_inside : (e : Environment) (c d : Context) (left : Left) (vs : List Variable) (ks : List EqualityStepTree) (out us : List Term) → d ≡ with_variables c vs → out ≡ [] → TermsBegun e d left (map side_of ks) out us → TermsBegun e (with_variables c vs) left (map side_of ks) [] us
told_inside e c d left vs ks out us ed eo h = subst (λ xs. TermsBegun e (with_variables c vs) left (map side_of ks) xs us) eo (subst (λ y. TermsBegun e y left (map side_of ks) out us) ed h)

pub ruleset inside_rules = (told_inside, grown_itself, grown_kept, grown_more)

pub told_begun : {E : Type 0} (e : Environment) (c : Context) (left : Left) (vs : List Variable) (ks : List EqualityStepTree) (q : Result (List Term) E) (us : List Term) →
    IfOk q (λ xs. TermsBegun e (with_variables c vs) left (map side_of ks) [] xs) → q ≡ Ok us → TermsBegun e (with_variables c vs) left (map side_of ks) [] us
told_begun e c left vs ks q us h eq = subst (λ z. IfOk z (λ xs. TermsBegun e (with_variables c vs) left (map side_of ks) [] xs)) eq h

pub ruleset outside_rules = (told_begun, told_left)

-- equations
no_equations : (s : Statement) (us : List Term) → is_equation s ≡ false → [] ≡ equations_behind s us
no_equations Truth us h = refl
no_equations (Eq t u) us h = let bad : true ≡ false = h in cc
no_equations (Atom s ts) us h = refl
no_equations (Not s) us h = refl
no_equations (And s t) us h = refl
no_equations (For ty s) us h = refl

pub told_none_behind : (s : Statement) (us : List Term) (out : List Statement) → out ≡ [] → is_equation s ≡ false → out ≡ equations_behind s us
told_none_behind s us out eo h = eo ∙ no_equations s us h

pub told_neighbours : (s : Statement) (t u : Term) (us : List Term) (out : List Statement) → s ≡ Eq t u → out ≡ neighbours u us → out ≡ equations_behind s us
told_neighbours s t u us out es eo = eo ∙ ap (λ x. equations_behind x us) (sym es)

pub ruleset behind_rules = (told_none_behind, told_neighbours)

-- whether they keep the limits
closed_are : (c : Context) (x : Sentence) (us : List Term) (n : ℕ) (ss : List Statement) (o : Option (List Statement)) → n ≡ next c → ss ≡ equations_behind x.inner us → o ≡ all_kept (map (for_all n x.variables) ss) → o ≡ all_kept (equations_begun c x us)
closed_are c x us n ss o en es eo = eo ∙ (ap (λ i. all_kept (map (for_all i x.variables) ss)) en ∙ ap (λ ys. all_kept (map (for_all (next c) x.variables) ys)) es)

pub told_equations_large : (e : Environment) (c : Context) (ks : List EqualityStepTree) (x : Sentence) (us : List Term) (n : ℕ) (ss : List Statement) (o : Option (List Statement)) → n ≡ next c → ss ≡ equations_behind x.inner us → o ≡ all_kept (map (for_all n x.variables) ss) → o ≡ None →
    false ≡ further_keep e c ks (all_kept (equations_begun c x us))
told_equations_large e c ks x us n ss o en es eo e0 = ap (further_keep e c ks) (sym e0 ∙ closed_are c x us n ss o en es eo)

pub told_equations_kept : (e : Environment) (c : Context) (ks : List EqualityStepTree) (x : Sentence) (us : List Term) (n : ℕ) (ss ts : List Statement) (o : Option (List Statement)) (b : Bool) → n ≡ next c → ss ≡ equations_behind x.inner us → o ≡ all_kept (map (for_all n x.variables) ss) → o ≡ Some ts →
    b ≡ sides_keep e c ks ts → b ≡ further_keep e c ks (all_kept (equations_begun c x us))
told_equations_kept e c ks x us n ss ts o b en es eo e1 eb = eb ∙ ap (further_keep e c ks) (sym e1 ∙ closed_are c x us n ss o en es eo)

pub ruleset further_rules = (told_equations_large, told_equations_kept)

-- the first justification
pub told_simple_keeps : {E : Type 0} (e : Environment) (c : Context) (linked : Bool) (j : JustData) (t : SimpleTree) (s : Statement) (q : Result Bool E) → j ≡ SimpleJust t → IfOk q (λ b. b ≡ justification_keeps e c linked t s) → IfOk q (λ b. b ≡ first_keeps e c linked j s)
told_simple_keeps {E} e c linked j t s q ej h = subst (λ i. IfOk q (λ b. b ≡ first_keeps e c linked i s)) (sym ej) h

pub told_proof_keeps : (e : Environment) (c : Context) (linked : Bool) (j : JustData) (p : Place) (ds : StepList) (end : Place) (s : Statement) → j ≡ ProofJust p ds end → true ≡ first_keeps e c linked j s
told_proof_keeps e c linked j p ds end s ej = ap (λ i. first_keeps e c linked i s) (sym ej)

-- all of them
pub told_begun_keep : (e : Environment) (c : Context) (linked : Bool) (j : JustData) (ks : List EqualityStepTree) (x : Sentence) (us : List Term) (a b : Bool) → a ≡ first_keeps e c linked j x.closed → b ≡ further_keep e c ks (all_kept (equations_begun c x us)) → a && b ≡ begun_keep e c linked j ks x us
told_begun_keep e c linked j ks x us a b ea eb = ap (λ y. y && b) ea ∙ ap (λ y. first_keeps e c linked j x.closed && y) eb

pub ruleset begun_rules = (told_begun_keep)

-- what is read of the step
pub told_not_begun : (e : Environment) (c : Context) (linked : Bool) (l m : Left) (p : PropositionTree) (j : JustData) (ks : List EqualityStepTree) (q : Result Sentence ResolveFault) (f : ResolveFault) (r : Refusal) →
    OnRead q (λ o. SentenceRead e c 0 l p.formula o m) → q ≡ Err f → f ≡ reading.Refused r → KeepsAhead e c linked l p j ks true
told_not_begun e c linked l m p j ks q f r h eq ef = ah.not_begun r m (subst (λ z. OnRead z (λ o. SentenceRead e c 0 l p.formula o m)) (eq ∙ ap Err ef) h)

pub told_keeps_ahead : (e : Environment) (c d d' : Context) (linked : Bool) (l m : Left) (p : PropositionTree) (j : JustData) (ks : List EqualityStepTree) (q : Result Sentence ResolveFault) (x : Sentence) (us : List Term) (b : Bool) →
    OnRead q (λ o. SentenceRead e c 0 l p.formula o m) → q ≡ Ok x → d ≡ c → TermsBegun e (with_variables d x.variables) m (map side_of ks) [] us → d' ≡ d → b ≡ begun_keep e d' linked j ks x us → KeepsAhead e c linked l p j ks b
told_keeps_ahead e c d d' linked l m p j ks q x us b h eq ed g ed' eb =
    let P : Result Sentence Refusal → Type 0 = λ o. SentenceRead e c 0 l p.formula o m in
    let sides : TermsBegun e (with_variables c x.variables) m (map side_of ks) [] us = subst (λ y. TermsBegun e (with_variables y x.variables) m (map side_of ks) [] us) ed g in
    subst (KeepsAhead e c linked l p j ks) (sym (eb ∙ ap (λ y. begun_keep e y linked j ks x us) (ed' ∙ ed))) (ah.begun x m us (on_read P q x eq h) sides)

pub ruleset ahead_rules = (told_not_begun, told_keeps_ahead)
