-- What the code of atomic formulas tells.
use Rattle.std.proofs.Common.{◌≡◌, ℕ, Bool, List, [], ◌∷◌, length, map, refl, sym, ap, ◌∙◌, subst, Option, Some, None}
use Rattle.std.specs.Prelude.{Result, Ok, Err}
use Rattle.mz_base.specs.declared.place.Place.{Place}
use Rattle.mz_logic.specs.Term.{Term}
use Rattle.mz_logic.specs.declared.kind.Kind.TheVariants.{Predicate}
use Rattle.mz_core.specs.Statement.{Statement}
use Rattle.mz_core.specs.declared.soft_type.SoftType.{SoftType}
use Rattle.mz_context.specs.declared.context.Context.{Context}
use Rattle.mz_environment.specs.declared.environment.Environment.{Environment}
use Rattle.mz_names.specs.declared.refusal.Refusal.{Refusal}
use Rattle.mz_fits.proofs.FitLemmas.{empty}
use Rattle.mz_choice.specs.declared.choice.Applied.{Applied}
use Rattle.mz_choice.specs.declared.choice.Wanted.TheVariants.{Anything}
use Rattle.mz_tree.specs.Trees.{TermData, TermsData, TypeData, AdjectiveData, AdjectiveList, adjectives_of}
use Rattle.mz_tree.specs.Places.{first_place}
use Rattle.mz_tree.specs.Spell.{spell_term, spell_adjective}
use Rattle.mz_tree.specs.Views.{adjective_of}
use Rattle.mz_tree.specs.declared.nodes.AdjectiveNode.{AdjectiveNode}
use Rattle.mz_tree.specs.declared.word.Word.{Word}
use Rattle.mz_applied.specs.Application.{application, attribute_of}
use Rattle.mz_applied.specs.Meant.{as_statement, as_attributed}
use Rattle.mz_applied.specs.Private.{AppliesPredicate}
use Rattle.mz_applied.specs.Reading.{ReadsAs}
use Rattle.mz_terms.specs.Adjectives.{is_denied, attribute_in, ReadsOwn}
use Rattle.mz_terms.specs.Terms.{ReadsTerm, ReadsAll}
use Rattle.mz_terms.specs.Types.{ReadsType}
use Rattle.mz_joined.specs.Bound.{of_type_within}
use Rattle.mz_formulas.specs.Atoms as at
use Rattle.mz_formulas.specs.Atoms.{ReadsSide, first_of, ReadsPredicate, ReadsPrivate, ReadsIsType, ReadsAttributed, said, said_behind, said_within, ReadsFurther, listed_adjectives, ReadsIsAdjectives}

-- lists of adjectives
pub listed_adjectives-is : (xs : List AdjectiveData) → listed_adjectives (adjectives_of xs) ≡ xs
listed_adjectives-is [] = refl
listed_adjectives-is (x ∷ xs) = ap (λ ys. x ∷ ys) (listed_adjectives-is xs)

-- sides
pub told_no_side : (e : Environment) (c : Context) (least : ℕ) (side : Option TermsData) (ts : List Term) → side ≡ None → ts ≡ [] → ReadsSide e c least side (Ok ts)
told_no_side e c least side ts es et =
    let P : List Term → Type 0 = λ x. ReadsSide e c least side (Ok x) in
    subst P (sym et) (subst (λ x. ReadsSide e c least x (Ok [])) (sym es) at.no_side)

pub told_side : (e : Environment) (c : Context) (least : ℕ) (side : Option TermsData) (ts : TermsData) (o : Result (List Term) Refusal) → side ≡ Some ts → ReadsAll e c least ts o → ReadsSide e c least side o
told_side e c least side ts o es h = subst (λ x. ReadsSide e c least x o) (sym es) (at.side ts o h)

pub ruleset side_rules = (told_no_side, told_side)

side_is : (e : Environment) (c : Context) (least : ℕ) (side : Option TermsData) (o p : Result (List Term) Refusal) → o ≡ p → ReadsSide e c least side o → ReadsSide e c least side p
side_is e c least side o p eo h = subst (λ x. ReadsSide e c least side x) eo h

-- predicates
pub told_left_refused : (e : Environment) (c : Context) (least : ℕ) (left right : Option TermsData) (w : Word) (o : Result (List Term) Refusal) (r : Refusal) → ReadsSide e c least left o → o ≡ Err r → ReadsPredicate e c least left w right (Err r)
told_left_refused e c least left right w o r h eo = at.left_refused r (side_is e c least left o (Err r) eo h)

pub told_right_refused : (e : Environment) (c : Context) (least : ℕ) (left right : Option TermsData) (w : Word) (o p : Result (List Term) Refusal) (ts : List Term) (r : Refusal) → ReadsSide e c least left o → o ≡ Ok ts → ReadsSide e c least right p → p ≡ Err r → ReadsPredicate e c least left w right (Err r)
told_right_refused e c least left right w o p ts r h eo k ep = at.right_refused ts r (side_is e c least left o (Ok ts) eo h) (side_is e c least right p (Err r) ep k)

pub told_both_read : (e : Environment) (c : Context) (least : ℕ) (left right : Option TermsData) (w : Word) (o p : Result (List Term) Refusal) (ts us : List Term) (first : Place) (a : Applied) (q : Result Statement Refusal) → ReadsSide e c least left o → o ≡ Ok ts → ReadsSide e c least right p → p ≡ Ok us → first_of left w.place ≡ Some first → a ≡ application Predicate w.spelling ts us →
    ReadsAs e c Anything w.place (as_statement w.place first) a q → ReadsPredicate e c least left w right q
told_both_read e c least left right w o p ts us first a q h eo k ep ef ea m =
    at.both_read ts us first q (side_is e c least left o (Ok ts) eo h) (side_is e c least right p (Ok us) ep k) ef (subst (λ x. ReadsAs e c Anything w.place (as_statement w.place first) x q) ea m)

pub ruleset predicate_rules = (told_left_refused, told_right_refused, told_both_read)

pub told_arguments_refused : (e : Environment) (c : Context) (least : ℕ) (side : Option TermsData) (w : Word) (o : Result (List Term) Refusal) (r : Refusal) → ReadsSide e c least side o → o ≡ Err r → ReadsPrivate e c least w side (Err r)
told_arguments_refused e c least side w o r h eo = at.arguments_refused r (side_is e c least side o (Err r) eo h)

pub told_arguments_read : (e : Environment) (c : Context) (least : ℕ) (side : Option TermsData) (w : Word) (o : Result (List Term) Refusal) (ts : List Term) (q : Result Statement Refusal) → ReadsSide e c least side o → o ≡ Ok ts → AppliesPredicate e c least w.place w.spelling ts q → ReadsPrivate e c least w side q
told_arguments_read e c least side w o ts q h eo k = at.arguments_read ts q (side_is e c least side o (Ok ts) eo h) k

pub told_named : (e : Environment) (c : Context) (least : ℕ) (side : Option TermsData) (w : Word) (name : List ℕ) (o : Result (List Term) Refusal) (ts : List Term) (q : Result Statement Refusal) → name ≡ w.spelling → ReadsSide e c least side o → o ≡ Ok ts → AppliesPredicate e c least w.place name ts q → ReadsPrivate e c least w side q
told_named e c least side w name o ts q en h eo k = told_arguments_read e c least side w o ts q h eo (subst (λ x. AppliesPredicate e c least w.place x ts q) en k)

pub ruleset private_rules = (told_arguments_refused, told_arguments_read, told_named)

-- `t is T`
term_is : (e : Environment) (c : Context) (least : ℕ) (t : TermData) (o p : Result Term Refusal) → o ≡ p → ReadsTerm e c least t o → ReadsTerm e c least t p
term_is e c least t o p eo h = subst (λ x. ReadsTerm e c least t x) eo h

type_is : (e : Environment) (c : Context) (least : ℕ) (t : TypeData) (o p : Result SoftType Refusal) → o ≡ p → ReadsType e c least t o → ReadsType e c least t p
type_is e c least t o p eo h = subst (λ x. ReadsType e c least t x) eo h

pub told_term_refused : (e : Environment) (c : Context) (least : ℕ) (t : TermData) (ty : TypeData) (o : Result Term Refusal) (r : Refusal) → ReadsTerm e c least t o → o ≡ Err r → ReadsIsType e c least t ty (Err r)
told_term_refused e c least t ty o r h eo = at.term_refused r (term_is e c least t o (Err r) eo h)

pub told_type_refused : (e : Environment) (c : Context) (least : ℕ) (t : TermData) (ty : TypeData) (o : Result Term Refusal) (u : Term) (p : Result SoftType Refusal) (r : Refusal) → ReadsTerm e c least t o → o ≡ Ok u → ReadsType e c least ty p → p ≡ Err r → ReadsIsType e c least t ty (Err r)
told_type_refused e c least t ty o u p r h eo k ep = at.type_refused u r (term_is e c least t o (Ok u) eo h) (type_is e c least ty p (Err r) ep k)

pub told_is_type : (e : Environment) (c : Context) (least : ℕ) (t : TermData) (ty : TypeData) (o : Result Term Refusal) (u : Term) (p : Result SoftType Refusal) (s : SoftType) (first : Place) (q : Result Statement Refusal) → ReadsTerm e c least t o → o ≡ Ok u → ReadsType e c least ty p → p ≡ Ok s → first_place (spell_term t) ≡ Some first → q ≡ of_type_within first s u → ReadsIsType e c least t ty q
told_is_type e c least t ty o u p s first q h eo k ep ef eq =
    let P : Result Statement Refusal → Type 0 = λ x. ReadsIsType e c least t ty x in
    subst P (sym eq) (at.both_read u s first (term_is e c least t o (Ok u) eo h) (type_is e c least ty p (Ok s) ep k) ef)

pub ruleset is_type_rules = (told_term_refused, told_type_refused, told_is_type)

-- adjectives said of a term
own_is : (e : Environment) (c : Context) (least : ℕ) (a : AdjectiveData) (o p : Result (List Term) Refusal) → o ≡ p → ReadsOwn e c least a o → ReadsOwn e c least a p
own_is e c least a o p eo h = subst (λ x. ReadsOwn e c least a x) eo h

pub told_own_refused : (e : Environment) (c : Context) (least : ℕ) (u : Term) (a : AdjectiveData) (o : Result (List Term) Refusal) (r : Refusal) → ReadsOwn e c least a o → o ≡ Err r → ReadsAttributed e c least u a (Err r)
told_own_refused e c least u a o r h eo = at.own_refused r (own_is e c least a o (Err r) eo h)

pub told_own_read : (e : Environment) (c : Context) (least : ℕ) (u : Term) (a : AdjectiveData) (o : Result (List Term) Refusal) (ts : List Term) (first : Place) (non : Bool) (w : Word) (b : Applied) (q : Result Statement Refusal) → ReadsOwn e c least a o → o ≡ Ok ts → first_place (spell_adjective a) ≡ Some first → non ≡ is_denied a → w ≡ attribute_in a → b ≡ attribute_of w.spelling ts u →
    ReadsAs e c Anything w.place (as_attributed non w.place first) b q → ReadsAttributed e c least u a q
told_own_read e c least u a o ts first non w b q h eo ef en ew eb k =
    let Q : Applied → Type 0 = λ x. ReadsAs e c Anything w.place (as_attributed non w.place first) x q in
    let R : Bool → Type 0 = λ x. ReadsAs e c Anything w.place (as_attributed x w.place first) (attribute_of w.spelling ts u) q in
    let S : Word → Type 0 = λ x. ReadsAs e c Anything x.place (as_attributed (is_denied a) x.place first) (attribute_of x.spelling ts u) q in
    at.own_read ts first q (own_is e c least a o (Ok ts) eo h) ef (subst S ew (subst R en (subst Q eb k)))

pub ruleset attributed_rules = (told_own_refused, told_own_read)

-- further adjectives: what the rest gives, all give
abbrev pub Gives : Environment → Context → ℕ → Term → List AdjectiveNode → Result (Option Statement) Refusal → List AdjectiveNode → Result (Option Statement) Refusal → Type 0
Gives e c least u rest so_far all p = (o : Result (Option Statement) Refusal) → ReadsFurther e c least u (map adjective_of rest) so_far o → ReadsFurther e c least u (map adjective_of all) p o

nothing_further : (e : Environment) (c : Context) (least : ℕ) (u : Term) (p : Result (Option Statement) Refusal) → ReadsFurther e c least u [] p p
nothing_further e c least u (Err r) = at.refused [] r
nothing_further e c least u (Ok s) = at.no_further s

pub told_end : (e : Environment) (c : Context) (least : ℕ) (u : Term) (rest all : List AdjectiveNode) (so_far p : Result (Option Statement) Refusal) → length rest ≡ 0 → Gives e c least u rest so_far all p → ReadsFurther e c least u (map adjective_of all) p so_far
told_end e c least u rest all so_far p er g = g so_far (subst (λ xs. ReadsFurther e c least u (map adjective_of xs) so_far so_far) (sym (empty rest er)) (nothing_further e c least u so_far))

pub told_stop : (e : Environment) (c : Context) (least : ℕ) (u : Term) (rest all : List AdjectiveNode) (so_far p : Result (Option Statement) Refusal) (r : Refusal) → so_far ≡ Err r → Gives e c least u rest so_far all p → ReadsFurther e c least u (map adjective_of all) p (Err r)
told_stop e c least u rest all so_far p r eo g = g (Err r) (subst (λ x. ReadsFurther e c least u (map adjective_of rest) x (Err r)) (sym eo) (at.refused (map adjective_of rest) r))

pub told_turn : (e : Environment) (c : Context) (least : ℕ) (u : Term) (rest others all : List AdjectiveNode) (a : AdjectiveNode) (so_far p q : Result (Option Statement) Refusal) (s : Option Statement) → rest ≡ a ∷ others → so_far ≡ Ok s →
    ((xs : List AdjectiveData) (o : Result (Option Statement) Refusal) → ReadsFurther e c least u xs q o → ReadsFurther e c least u (adjective_of a ∷ xs) (Ok s) o) → Gives e c least u rest so_far all p → Gives e c least u others q all p
told_turn e c least u rest others all a so_far p q s er eo h g o k =
    let P : Result (Option Statement) Refusal → Type 0 = λ x. ReadsFurther e c least u (map adjective_of rest) x o in
    g o (subst P (sym eo) (subst (λ xs. ReadsFurther e c least u (map adjective_of xs) (Ok s) o) (sym er) (h (map adjective_of others) o k)))

pub told_and : (e : Environment) (c : Context) (least : ℕ) (u : Term) (a : AdjectiveData) (s : Option Statement) (p : Result Statement Refusal) (q : Result (Option Statement) Refusal) → ReadsAttributed e c least u a p → q ≡ said_behind s p → (xs : List AdjectiveData) (o : Result (Option Statement) Refusal) → ReadsFurther e c least u xs q o → ReadsFurther e c least u (a ∷ xs) (Ok s) o
told_and e c least u a s p q h eq xs o k = at.further a xs s p o h (subst (λ x. ReadsFurther e c least u xs x o) eq k)

pub ruleset further_rules = (told_end, told_stop, told_turn, told_and)

pub told_subject_refused : (e : Environment) (c : Context) (least : ℕ) (t : TermData) (a : AdjectiveData) (xs : List AdjectiveData) (o : Result Term Refusal) (r : Refusal) → ReadsTerm e c least t o → o ≡ Err r → ReadsIsAdjectives e c least t a xs (Err r)
told_subject_refused e c least t a xs o r h eo = at.subject_refused r (term_is e c least t o (Err r) eo h)

pub told_subject_read : (e : Environment) (c : Context) (least : ℕ) (t : TermData) (a : AdjectiveData) (xs : List AdjectiveData) (o : Result Term Refusal) (u : Term) (first : Place) (p : Result Statement Refusal) (x q : Result (Option Statement) Refusal) (z : Result Statement Refusal) → ReadsTerm e c least t o → o ≡ Ok u → first_place (spell_term t) ≡ Some first → ReadsAttributed e c least u a p → x ≡ said p → ReadsFurther e c least u xs x q → z ≡ said_within first q → ReadsIsAdjectives e c least t a xs z
told_subject_read e c least t a xs o u first p x q z h eo ef k ex m ez =
    let P : Result Statement Refusal → Type 0 = λ y. ReadsIsAdjectives e c least t a xs y in
    subst P (sym ez) (at.subject_read u first p q (term_is e c least t o (Ok u) eo h) ef k (subst (λ y. ReadsFurther e c least u xs y q) ex m))

pub ruleset is_adjectives_rules = (told_subject_refused, told_subject_read)
