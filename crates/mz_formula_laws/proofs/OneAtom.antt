-- What declarations and atomic formulas are read to is determined, where what terms, types and adjectives' arguments are read
-- to is.
use Rattle.std.proofs.Common.{◌≡◌, ℕ, List, [], ◌∷◌, refl, sym, ap, ◌∙◌, subst, Option, Some, None}
use Rattle.std.specs.Prelude.{Result, Ok, Err}
use Rattle.mz_base.specs.declared.place.Place.{Place}
use Rattle.mz_logic.specs.Term.{Term}
use Rattle.mz_logic.specs.declared.kind.Kind.TheVariants.{Predicate}
use Rattle.mz_core.specs.Statement.{Statement}
use Rattle.mz_core.specs.declared.soft_type.SoftType.{SoftType}
use Rattle.mz_context.specs.declared.context.Context.{Context}
use Rattle.mz_environment.specs.declared.environment.Environment.{Environment}
use Rattle.mz_names.specs.declared.refusal.Refusal.{Refusal}
use Rattle.mz_names.specs.declared.variable.Variable.{Variable}
use Rattle.mz_choice.specs.declared.choice.Wanted.TheVariants.{Anything}
use Rattle.mz_tree.specs.Trees.{TermData, TermsData, TypeData, AdjectiveData, DeclaredData}
use Rattle.mz_tree.specs.Places.{first_place}
use Rattle.mz_tree.specs.Spell.{spell_term, spell_adjective}
use Rattle.mz_tree.specs.declared.word.Word.{Word}
use Rattle.mz_applied.specs.Application.{application, attribute_of}
use Rattle.mz_applied.specs.Meant.{as_statement, as_attributed}
use Rattle.mz_applied.specs.Private.{AppliesPredicate}
use Rattle.mz_applied.specs.Reading.{ReadsAs}
use Rattle.mz_applied.proofs.OneApplication.{one_statement_law, one_predicate_law}
use Rattle.mz_terms.specs.Adjectives.{is_denied, attribute_in, ReadsOwn}
use Rattle.mz_terms.specs.Terms.{ReadsTerm, ReadsAll}
use Rattle.mz_terms.specs.Types.{ReadsType}
use Rattle.mz_joined.specs.Bound.{of_type_within}
use Rattle.mz_formulas.specs.Atoms as at
use Rattle.mz_formulas.specs.Atoms.{ReadsSide, first_of, ReadsPredicate, ReadsPrivate, ReadsIsType, ReadsAttributed, said, said_behind, said_within, ReadsFurther, ReadsIsAdjectives}
use Rattle.mz_formulas.specs.Declarations as dc
use Rattle.mz_formulas.specs.Declarations.{Declaring, Declares, DeclaresAll, behind, reserved_each, undeclared, ReadsDeclared, with_typed}

-- what terms, types and adjectives' arguments are read to is determined
pub record Determined : Type 0 where
  pub term : (e : Environment) (c : Context) (least : ℕ) (t : TermData) (o p : Result Term Refusal) → ReadsTerm e c least t o → ReadsTerm e c least t p → o ≡ p
  pub terms : (e : Environment) (c : Context) (least : ℕ) (ts : TermsData) (o p : Result (List Term) Refusal) → ReadsAll e c least ts o → ReadsAll e c least ts p → o ≡ p
  pub own : (e : Environment) (c : Context) (least : ℕ) (a : AdjectiveData) (o p : Result (List Term) Refusal) → ReadsOwn e c least a o → ReadsOwn e c least a p → o ≡ p
  pub ty : (e : Environment) (c : Context) (least : ℕ) (t : TypeData) (o p : Result SoftType Refusal) → ReadsType e c least t o → ReadsType e c least t p → o ≡ p

-- what an answer gives is one
abbrev good : {X : Type 0} → X → Result X Refusal
good x = Ok x

ok-inj : {X : Type 0} (x y : X) → good x ≡ good y → x ≡ y
ok-inj x y h = cc

one_side : (l : Determined) (e : Environment) (c : Context) (least : ℕ) (s : Option TermsData) (o p : Result (List Term) Refusal) → ReadsSide e c least s o → ReadsSide e c least s p → o ≡ p
one_side l e c least s o p at.no_side at.no_side = refl
one_side l e c least s o p (at.side ts x h) (at.side us y k) = l.terms e c least ts x y h k

one_place : (o : Option Place) (p q : Place) → o ≡ Some p → o ≡ Some q → p ≡ q
one_place o p q h k = cc

pub one_predicate : (l : Determined) (e : Environment) (c : Context) (least : ℕ) (left : Option TermsData) (w : Word) (right : Option TermsData) (o p : Result Statement Refusal) → ReadsPredicate e c least left w right o → ReadsPredicate e c least left w right p → o ≡ p
one_predicate l e c least left w right o p (at.left_refused r h) (at.left_refused s k) = let q = one_side l e c least left (Err r) (Err s) h k in cc
one_predicate l e c least left w right o p (at.left_refused r h) (at.right_refused ts s k m) = let q = one_side l e c least left (Err r) (Ok ts) h k in cc
one_predicate l e c least left w right o p (at.left_refused r h) (at.both_read ts us f x k m n a) = let q = one_side l e c least left (Err r) (Ok ts) h k in cc
one_predicate l e c least left w right o p (at.right_refused ts r h i) (at.left_refused s k) = let q = one_side l e c least left (Ok ts) (Err s) h k in cc
one_predicate l e c least left w right o p (at.right_refused ts r h i) (at.right_refused us s k m) = let q = one_side l e c least right (Err r) (Err s) i m in cc
one_predicate l e c least left w right o p (at.right_refused ts r h i) (at.both_read vs us f x k m n a) = let q = one_side l e c least right (Err r) (Ok us) i m in cc
one_predicate l e c least left w right o p (at.both_read ts us f x k m n a) (at.left_refused s h) = let q = one_side l e c least left (Ok ts) (Err s) k h in cc
one_predicate l e c least left w right o p (at.both_read vs us f x k m n a) (at.right_refused ts r h i) = let q = one_side l e c least right (Ok us) (Err r) m i in cc
one_predicate l e c least left w right o p (at.both_read ts us f x k m n a) (at.both_read ts' us' f' x' k' m' n' a') =
    let t : ts' ≡ ts = ok-inj ts' ts (one_side l e c least left (Ok ts') (Ok ts) k' k) in
    let u : us' ≡ us = ok-inj us' us (one_side l e c least right (Ok us') (Ok us) m' m) in
    let g : f' ≡ f = one_place (first_of left w.place) f' f n' n in
    let P : Place → Type 0 = λ y. ReadsAs e c Anything w.place (as_statement w.place y) (application Predicate w.spelling ts us) x' in
    one_statement_law e c Anything w.place (as_statement w.place f) (application Predicate w.spelling ts us) x x' a
    (subst P g (subst (λ y. ReadsAs e c Anything w.place (as_statement w.place f') (application Predicate w.spelling y us) x') t (subst (λ y. ReadsAs e c Anything w.place (as_statement w.place f') (application Predicate w.spelling ts' y) x') u a')))

pub one_private : (l : Determined) (e : Environment) (c : Context) (least : ℕ) (w : Word) (s : Option TermsData) (o p : Result Statement Refusal) → ReadsPrivate e c least w s o → ReadsPrivate e c least w s p → o ≡ p
one_private l e c least w s o p (at.arguments_refused r h) (at.arguments_refused q k) = let z = one_side l e c least s (Err r) (Err q) h k in cc
one_private l e c least w s o p (at.arguments_refused r h) (at.arguments_read ts x k m) = let z = one_side l e c least s (Err r) (Ok ts) h k in cc
one_private l e c least w s o p (at.arguments_read ts x h i) (at.arguments_refused q k) = let z = one_side l e c least s (Ok ts) (Err q) h k in cc
one_private l e c least w s o p (at.arguments_read ts x h i) (at.arguments_read us y k m) =
    let t : us ≡ ts = ok-inj us ts (one_side l e c least s (Ok us) (Ok ts) k h) in
    one_predicate_law e c least w.place w.spelling ts x y i (subst (λ z. AppliesPredicate e c least w.place w.spelling z y) t m)

pub one_is_type : (l : Determined) (e : Environment) (c : Context) (least : ℕ) (t : TermData) (ty : TypeData) (o p : Result Statement Refusal) → ReadsIsType e c least t ty o → ReadsIsType e c least t ty p → o ≡ p
one_is_type l e c least t ty o p (at.term_refused r h) (at.term_refused s k) = let q = l.term e c least t (Err r) (Err s) h k in cc
one_is_type l e c least t ty o p (at.term_refused r h) (at.type_refused u s k m) = let q = l.term e c least t (Err r) (Ok u) h k in cc
one_is_type l e c least t ty o p (at.term_refused r h) (at.both_read u s f k m n) = let q = l.term e c least t (Err r) (Ok u) h k in cc
one_is_type l e c least t ty o p (at.type_refused u r h i) (at.term_refused s k) = let q = l.term e c least t (Ok u) (Err s) h k in cc
one_is_type l e c least t ty o p (at.type_refused u r h i) (at.type_refused v s k m) = let q = l.ty e c least ty (Err r) (Err s) i m in cc
one_is_type l e c least t ty o p (at.type_refused u r h i) (at.both_read v s f k m n) = let q = l.ty e c least ty (Err r) (Ok s) i m in cc
one_is_type l e c least t ty o p (at.both_read u s f h i j) (at.term_refused r k) = let q = l.term e c least t (Ok u) (Err r) h k in cc
one_is_type l e c least t ty o p (at.both_read u s f h i j) (at.type_refused v r k m) = let q = l.ty e c least ty (Ok s) (Err r) i m in cc
one_is_type l e c least t ty o p (at.both_read u s f h i j) (at.both_read v x g k m n) =
    let q : u ≡ v = ok-inj u v (l.term e c least t (Ok u) (Ok v) h k) in
    let z : s ≡ x = ok-inj s x (l.ty e c least ty (Ok s) (Ok x) i m) in
    let y : f ≡ g = one_place (first_place (spell_term t)) f g j n in
    ap (λ a. of_type_within a s u) y ∙ (ap (λ a. of_type_within g a u) z ∙ ap (of_type_within g x) q)

pub one_attributed : (l : Determined) (e : Environment) (c : Context) (least : ℕ) (u : Term) (a : AdjectiveData) (o p : Result Statement Refusal) → ReadsAttributed e c least u a o → ReadsAttributed e c least u a p → o ≡ p
one_attributed l e c least u a o p (at.own_refused r h) (at.own_refused s k) = let q = l.own e c least a (Err r) (Err s) h k in cc
one_attributed l e c least u a o p (at.own_refused r h) (at.own_read ts f x k m n) = let q = l.own e c least a (Err r) (Ok ts) h k in cc
one_attributed l e c least u a o p (at.own_read ts f x h i j) (at.own_refused s k) = let q = l.own e c least a (Ok ts) (Err s) h k in cc
one_attributed l e c least u a o p (at.own_read ts f x h i j) (at.own_read us g y k m n) =
    let t : us ≡ ts = ok-inj us ts (l.own e c least a (Ok us) (Ok ts) k h) in
    let z : g ≡ f = one_place (first_place (spell_adjective a)) g f m i in
    one_statement_law e c Anything (attribute_in a).place (as_attributed (is_denied a) (attribute_in a).place f) (attribute_of (attribute_in a).spelling ts u) x y j
    (subst (λ v. ReadsAs e c Anything (attribute_in a).place (as_attributed (is_denied a) (attribute_in a).place v) (attribute_of (attribute_in a).spelling ts u) y) z
    (subst (λ v. ReadsAs e c Anything (attribute_in a).place (as_attributed (is_denied a) (attribute_in a).place g) (attribute_of (attribute_in a).spelling v u) y) t n))

pub one_further : (l : Determined) (e : Environment) (c : Context) (least : ℕ) (u : Term) (xs : List AdjectiveData) (s : Result (Option Statement) Refusal) (o : Result (Option Statement) Refusal) → ReadsFurther e c least u xs s o → (p : Result (Option Statement) Refusal) → ReadsFurther e c least u xs s p → o ≡ p
one_further l e c least u _ _ _ (at.refused xs r) p (at.refused _ _) = refl
one_further l e c least u _ _ _ (at.no_further s) p (at.no_further _) = refl
one_further l e c least u _ _ o (at.further a xs s x _ h k) p (at.further _ _ _ y _ m n) =
    let q : y ≡ x = one_attributed l e c least u a y x m h in
    one_further l e c least u xs (said_behind s x) o k p (subst (λ z. ReadsFurther e c least u xs (said_behind s z) p) q n)

pub one_is_adjectives : (l : Determined) (e : Environment) (c : Context) (least : ℕ) (t : TermData) (a : AdjectiveData) (xs : List AdjectiveData) (o p : Result Statement Refusal) → ReadsIsAdjectives e c least t a xs o → ReadsIsAdjectives e c least t a xs p → o ≡ p
one_is_adjectives l e c least t a xs o p (at.subject_refused r h) (at.subject_refused s k) = let q = l.term e c least t (Err r) (Err s) h k in cc
one_is_adjectives l e c least t a xs o p (at.subject_refused r h) (at.subject_read u f x y k m n i) = let q = l.term e c least t (Err r) (Ok u) h k in cc
one_is_adjectives l e c least t a xs o p (at.subject_read u f x y k m n i) (at.subject_refused r h) = let q = l.term e c least t (Ok u) (Err r) k h in cc
one_is_adjectives l e c least t a xs o p (at.subject_read u f x y h i j w) (at.subject_read v g x' y' k m n z) =
    let q : v ≡ u = ok-inj v u (l.term e c least t (Ok v) (Ok u) k h) in
    let s : g ≡ f = one_place (first_place (spell_term t)) g f m i in
    let r : x' ≡ x = one_attributed l e c least u a x' x (subst (λ b. ReadsAttributed e c least b a x') q n) j in
    ap (said_within f) (one_further l e c least u xs (said x) y w y' (subst (λ b. ReadsFurther e c least u xs (said b) y') r (subst (λ b. ReadsFurther e c least b xs (said x') y') q z))) ∙ ap (λ b. said_within b y') (sym s)

-- declarations
one_declares : (l : Determined) (e : Environment) (least : ℕ) (s : Declaring) (d : DeclaredData) (o p : Result Declaring Refusal) → Declares e least s d o → Declares e least s d p → o ≡ p
one_declares l e least _ _ o p (dc.waits s w) (dc.waits _ _) = refl
one_declares l e least _ _ o p (dc.type_refused s w b ty r h) (dc.type_refused _ _ _ _ q k) = let z = l.ty e s.context least ty (Err r) (Err q) h k in cc
one_declares l e least _ _ o p (dc.type_refused s w b ty r h) (dc.type_read _ _ _ _ t k) = let z = l.ty e s.context least ty (Err r) (Ok t) h k in cc
one_declares l e least _ _ o p (dc.type_read s w b ty t h) (dc.type_refused _ _ _ _ q k) = let z = l.ty e s.context least ty (Ok t) (Err q) h k in cc
one_declares l e least _ _ o p (dc.type_read s w b ty t h) (dc.type_read _ _ _ _ u k) = ap (λ x. Ok (with_typed s w x)) (ok-inj t u (l.ty e s.context least ty (Ok t) (Ok u) h k))

one_declares_all : (l : Determined) (e : Environment) (least : ℕ) (s : Declaring) (ds : List DeclaredData) (o : Result Declaring Refusal) → DeclaresAll e least s ds o → (p : Result Declaring Refusal) → DeclaresAll e least s ds p → o ≡ p
one_declares_all l e least _ _ _ (dc.no_more s) p (dc.no_more _) = refl
one_declares_all l e least _ _ _ (dc.one_refused s d ds r h) p (dc.one_refused _ _ _ q k) = let z = one_declares l e least s d (Err r) (Err q) h k in cc
one_declares_all l e least _ _ _ (dc.one_refused s d ds r h) p (dc.one_read _ t _ _ _ k m) = let z = one_declares l e least s d (Err r) (Ok t) h k in cc
one_declares_all l e least _ _ o (dc.one_read s t d ds _ h k) p (dc.one_refused _ _ _ q m) = let z = one_declares l e least s d (Ok t) (Err q) h m in cc
one_declares_all l e least _ _ o (dc.one_read s t d ds _ h k) p (dc.one_read _ u _ _ _ m n) =
    let q : u ≡ t = ok-inj u t (one_declares l e least s d (Ok u) (Ok t) m h) in
    one_declares_all l e least t ds o k p (subst (λ x. DeclaresAll e least x ds p) q n)

pub one_declared : (l : Determined) (e : Environment) (least : ℕ) (c : Context) (ds : List DeclaredData) (o p : Result (List Variable) Refusal) → ReadsDeclared e least c ds o → ReadsDeclared e least c ds p → o ≡ p
one_declared l e least c ds o p (dc.declared_refused r h) (dc.declared_refused s k) = let q = one_declares_all l e least (undeclared c) ds (Err r) h (Err s) k in cc
one_declared l e least c ds o p (dc.declared_refused r h) (dc.declared_read s k) = let q = one_declares_all l e least (undeclared c) ds (Err r) h (Ok s) k in cc
one_declared l e least c ds o p (dc.declared_read s h) (dc.declared_refused r k) = let q = one_declares_all l e least (undeclared c) ds (Ok s) h (Err r) k in cc
one_declared l e least c ds o p (dc.declared_read s h) (dc.declared_read t k) = ap (λ x. behind x.variables (reserved_each least x.context x.waiting)) (ok-inj s t (one_declares_all l e least (undeclared c) ds (Ok s) h (Ok t) k))
