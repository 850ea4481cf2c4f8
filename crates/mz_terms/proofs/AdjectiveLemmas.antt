-- What the code of adjectives tells.
use Rattle.std.proofs.Common.{◌≡◌, ℕ, Bool, List, [], ◌∷◌, ◌++◌, length, map, sym, ap, ◌∙◌, subst, Option, Some}
use Rattle.std.specs.Prelude.{Result, Ok, Err}
use Rattle.mz_base.specs.declared.place.Place.{Place}
use Rattle.mz_logic.specs.Term.{Term}
use Rattle.mz_core.specs.declared.adjective.Adjective.{Adjective}
use Rattle.mz_context.specs.declared.context.Context.{Context}
use Rattle.mz_environment.specs.declared.environment.Environment.{Environment}
use Rattle.mz_names.specs.Names.{variable, known_or}
use Rattle.mz_names.specs.declared.refusal.Refusal.{Refusal}
use Rattle.mz_fits.proofs.FitLemmas.{empty}
use Rattle.mz_choice.specs.declared.choice.Applied.{Applied}
use Rattle.mz_choice.specs.declared.choice.Wanted.{Wanted}
use Rattle.mz_tree.specs.Trees.{AdjectiveData}
use Rattle.mz_tree.specs.Places.{first_place}
use Rattle.mz_tree.specs.Spell.{spell_adjective}
use Rattle.mz_tree.specs.Views.{adjective_of, terms_of}
use Rattle.mz_tree.specs.declared.chain.Chain.{Chain}
use Rattle.mz_tree.specs.declared.word.Word.{Word}
use Rattle.mz_tree.specs.declared.nodes.AdjectiveNode.{AdjectiveNode}
use Rattle.mz_tree.specs.declared.nodes.AdjectiveNode.TheVariants as nodes
use Rattle.mz_tree.specs.declared.nodes.TermNode.{TermNode}
use Rattle.mz_tree.proofs.Views.{adjective_of-plain, adjective_of-with_identifier, adjective_of-with_terms}
use Rattle.mz_applied.specs.Application.{attribute_of}
use Rattle.mz_applied.specs.Meant.{as_adjective}
use Rattle.mz_applied.specs.Reading.{ReadsAs}
use Rattle.mz_terms.specs.Values.{as_list}
use Rattle.mz_terms.specs.Terms.{ReadsAll}
use Rattle.mz_terms.specs.Adjectives as ad
use Rattle.mz_terms.specs.Adjectives.{is_denied, attribute_in, ReadsOwn, ReadsAdjective, ReadsAdjectives}

own_as : (e : Environment) (c : Context) (least : ℕ) (node other : AdjectiveNode) (a : AdjectiveData) (o : Result (List Term) Refusal) → node ≡ other → adjective_of other ≡ a → ReadsOwn e c least a o → ReadsOwn e c least (adjective_of node) o
own_as e c least node other a o en ea h = subst (λ x. ReadsOwn e c least x o) (sym (ap adjective_of en ∙ ea)) h

pub told_plain : (e : Environment) (c : Context) (least : ℕ) (node : AdjectiveNode) (non : Option Place) (w : Word) → node ≡ nodes.Plain non w → ReadsOwn e c least (adjective_of node) (Ok [])
told_plain e c least node non w en = own_as e c least node (nodes.Plain non w) _ (Ok []) en (adjective_of-plain non w) (ad.plain non w)

pub told_with_identifier : (e : Environment) (c : Context) (least : ℕ) (node : AdjectiveNode) (non : Option Place) (x w : Word) (o : Result (List Term) Refusal) → node ≡ nodes.WithIdentifier non x w → o ≡ as_list (known_or x.place (variable least c x.spelling)) → ReadsOwn e c least (adjective_of node) o
told_with_identifier e c least node non x w o en eo =
    let P : Result (List Term) Refusal → Type 0 = λ y. ReadsOwn e c least (adjective_of node) y in
    subst P (sym eo) (own_as e c least node (nodes.WithIdentifier non x w) _ (as_list (known_or x.place (variable least c x.spelling))) en (adjective_of-with_identifier non x w) (ad.with_identifier non x w))

pub told_with_terms : (e : Environment) (c : Context) (least : ℕ) (node : AdjectiveNode) (non : Option Place) (p q : Place) (ts : Chain Place TermNode) (w : Word) (o : Result (List Term) Refusal) → node ≡ nodes.WithTerms non p ts q w → ReadsAll e c least (terms_of ts) o → ReadsOwn e c least (adjective_of node) o
told_with_terms e c least node non p q ts w o en h = own_as e c least node (nodes.WithTerms non p ts q w) _ o en (adjective_of-with_terms non p ts q w) (ad.with_terms non p q (terms_of ts) w o h)

pub ruleset own_rules = (told_plain, told_with_identifier, told_with_terms)

pub told_own_refused : (e : Environment) (c : Context) (least : ℕ) (wanted : Wanted) (subject : Term) (a : AdjectiveData) (o : Result (List Term) Refusal) (r : Refusal) → ReadsOwn e c least a o → o ≡ Err r → ReadsAdjective e c least wanted subject a (Err r)
told_own_refused e c least wanted subject a o r h eo =
    let P : Result (List Term) Refusal → Type 0 = λ x. ReadsOwn e c least a x in
    ad.own_refused a r (subst P eo h)

pub told_own_read : (e : Environment) (c : Context) (least : ℕ) (wanted : Wanted) (subject : Term) (a : AdjectiveData) (o : Result (List Term) Refusal) (ts : List Term) (first : Place) (non : Bool) (w : Word) (b : Applied) (p : Result Adjective Refusal) → ReadsOwn e c least a o → o ≡ Ok ts → first_place (spell_adjective a) ≡ Some first → non ≡ is_denied a → w ≡ attribute_in a → b ≡ attribute_of w.spelling ts subject → ReadsAs e c wanted w.place (as_adjective non w.place first) b p → ReadsAdjective e c least wanted subject a p
told_own_read e c least wanted subject a o ts first non w b p h eo ef en ew eb k =
    let P : Result (List Term) Refusal → Type 0 = λ x. ReadsOwn e c least a x in
    let Q : Applied → Type 0 = λ x. ReadsAs e c wanted w.place (as_adjective non w.place first) x p in
    let R : Bool → Type 0 = λ x. ReadsAs e c wanted w.place (as_adjective x w.place first) (attribute_of w.spelling ts subject) p in
    let S : Word → Type 0 = λ x. ReadsAs e c wanted x.place (as_adjective (is_denied a) x.place first) (attribute_of x.spelling ts subject) p in
    ad.own_read a ts first p (subst P eo h) ef (subst S ew (subst R en (subst Q eb k)))

pub ruleset adjective_rules = (told_own_refused, told_own_read)

-- what the rest gives, all give
abbrev pub Gives : Environment → Context → ℕ → Wanted → Term → List AdjectiveNode → List Adjective → List AdjectiveNode → Type 0
Gives e c least wanted subject rest out all =
    (o : Result (List Adjective) Refusal) → ReadsAdjectives e c least wanted subject (map adjective_of rest) out o → ReadsAdjectives e c least wanted subject (map adjective_of all) [] o

pub told_no_more : (e : Environment) (c : Context) (least : ℕ) (wanted : Wanted) (subject : Term) (rest all : List AdjectiveNode) (out : List Adjective) → length rest ≡ 0 → Gives e c least wanted subject rest out all → ReadsAdjectives e c least wanted subject (map adjective_of all) [] (Ok out)
told_no_more e c least wanted subject rest all out er g =
    g (Ok out) (subst (λ xs. ReadsAdjectives e c least wanted subject (map adjective_of xs) out (Ok out)) (sym (empty rest er)) (ad.no_more out))

pub told_one_refused : (e : Environment) (c : Context) (least : ℕ) (wanted : Wanted) (subject : Term) (rest others all : List AdjectiveNode) (a : AdjectiveNode) (out : List Adjective) (o : Result Adjective Refusal) (r : Refusal) → rest ≡ a ∷ others → ReadsAdjective e c least wanted subject (adjective_of a) o → o ≡ Err r → Gives e c least wanted subject rest out all → ReadsAdjectives e c least wanted subject (map adjective_of all) [] (Err r)
told_one_refused e c least wanted subject rest others all a out o r er h eo g =
    let P : Result Adjective Refusal → Type 0 = λ x. ReadsAdjective e c least wanted subject (adjective_of a) x in
    g (Err r) (subst (λ xs. ReadsAdjectives e c least wanted subject (map adjective_of xs) out (Err r)) (sym er) (ad.one_refused (adjective_of a) (map adjective_of others) out r (subst P eo h)))

pub told_one_read : (e : Environment) (c : Context) (least : ℕ) (wanted : Wanted) (subject : Term) (rest others all : List AdjectiveNode) (a : AdjectiveNode) (out more : List Adjective) (o : Result Adjective Refusal) (b : Adjective) → rest ≡ a ∷ others → ReadsAdjective e c least wanted subject (adjective_of a) o → o ≡ Ok b → more ≡ out ++ b ∷ [] → Gives e c least wanted subject rest out all → Gives e c least wanted subject others more all
told_one_read e c least wanted subject rest others all a out more o b er h eo em g q k =
    let P : Result Adjective Refusal → Type 0 = λ x. ReadsAdjective e c least wanted subject (adjective_of a) x in
    g q (subst (λ xs. ReadsAdjectives e c least wanted subject (map adjective_of xs) out q) (sym er) (ad.one_read (adjective_of a) (map adjective_of others) out b q (subst P eo h) (subst (λ xs. ReadsAdjectives e c least wanted subject (map adjective_of others) xs q) em k)))

pub ruleset list_rules = (told_no_more, told_one_refused, told_one_read)
