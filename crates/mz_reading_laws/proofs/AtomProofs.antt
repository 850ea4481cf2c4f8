-- What formulas without parts that are formulas are read to is usable.
use Rattle.std.proofs.Common.{◌≡◌, ℕ, Bool, true, false, List, [], ◌∷◌, refl, Option, Some, None}
use Rattle.std.specs.Prelude.{if◌then◌else◌, Result, Ok, Err}
use Rattle.std.specs.List.{list_all}
use Rattle.std.proofs.lemmas.Bool.{and_from}
use Rattle.mz_base.specs.declared.place.Place.{Place}
use Rattle.mz_logic.specs.Term.{Term}
use Rattle.mz_logic.specs.declared.kind.Kind.TheVariants.{Predicate}
use Rattle.mz_core.specs.Statement.{Statement, And}
use Rattle.mz_core.specs.TypeStatements.{is_of_type}
use Rattle.mz_core.proofs.AllLemmas.{all-append, is_of_type_all}
use Rattle.mz_context.specs.declared.context.Context.{Context}
use Rattle.mz_environment.specs.declared.environment.Environment.{Environment}
use Rattle.mz_names.specs.declared.refusal.Refusal.{Refusal}
use Rattle.mz_choice.specs.declared.choice.Wanted.TheVariants.{Anything}
use Rattle.mz_sizes.specs.Sizes.{statement_keeps}
use Rattle.mz_tree.specs.Trees.{TermData, TermsData, TypeData, AdjectiveData}
use Rattle.mz_tree.specs.declared.word.Word.{Word}
use Rattle.mz_applied.specs.Application.{application, attribute_of}
use Rattle.mz_terms.specs.Adjectives.{is_denied, attribute_in}
use Rattle.mz_formulas.specs.Atoms as at
use Rattle.mz_formulas.specs.Atoms.{ReadsSide, ReadsPredicate, ReadsPrivate, ReadsIsType, ReadsAttributed, kept_with, said, said_behind, said_within, ReadsFurther, ReadsIsAdjectives}
use Rattle.mz_choice_laws.specs.Known.{term_known}
use Rattle.mz_term_laws.specs.Usable.{is_usable, term_usable, statement_usable}
use Rattle.mz_term_laws.proofs.Outcomes.{on_ok, if_any, on_within}
use Rattle.mz_term_laws.proofs.ChangeProofs.{known_types}
use Rattle.mz_term_laws.proofs.AppliedProofs.{Reading, reads_statement, reads_attributed, applies_predicate}
use Rattle.mz_term_laws.proofs.TermProofs.{reads_usable, all_usable}
use Rattle.mz_term_laws.proofs.TypeProofs.{own_usable, type_is_usable}

side_usable : (e : Environment) (c : Context) (from least : ℕ) → Reading e c from least → (s : Option TermsData) (o : Result (List Term) Refusal) → ReadsSide e c least s o → on_ok (list_all (term_usable from c)) o ≡ true
side_usable e c from least r s o at.no_side = refl
side_usable e c from least r s o (at.side ts x h) = all_usable e c from least r ts x h

pub predicate_usable : (e : Environment) (c : Context) (from least : ℕ) → Reading e c from least → (left : Option TermsData) (w : Word) (right : Option TermsData) (o : Result Statement Refusal) → ReadsPredicate e c least left w right o → on_ok (statement_usable from c) o ≡ true
predicate_usable e c from least r left w right o (at.left_refused x h) = refl
predicate_usable e c from least r left w right o (at.right_refused ts x h k) = refl
predicate_usable e c from least r left w right o (at.both_read ts us first x h k i a) =
    reads_statement (is_usable from c) e c r.environment (known_types from c r.context) Anything w.place w.place first (application Predicate w.spelling ts us)
    (all-append (term_usable from c) ts us (side_usable e c from least r left (Ok ts) h) (side_usable e c from least r right (Ok us) k)) x a

pub private_usable : (e : Environment) (c : Context) (from least : ℕ) → Reading e c from least → (w : Word) (s : Option TermsData) (o : Result Statement Refusal) → ReadsPrivate e c least w s o → on_ok (statement_usable from c) o ≡ true
private_usable e c from least r w s o (at.arguments_refused x h) = refl
private_usable e c from least r w s o (at.arguments_read ts x h a) = applies_predicate e c from least r w.place w.spelling ts (side_usable e c from least r s (Ok ts) h) x a

pub is_type_usable : (e : Environment) (c : Context) (from least : ℕ) → Reading e c from least → (t : TermData) (ty : TypeData) (o : Result Statement Refusal) → ReadsIsType e c least t ty o → on_ok (statement_usable from c) o ≡ true
is_type_usable e c from least r t ty o (at.term_refused x h) = refl
is_type_usable e c from least r t ty o (at.type_refused u x h k) = refl
is_type_usable e c from least r t ty o (at.both_read u s first h k i) =
    on_within (statement_usable from c) statement_keeps first (is_of_type s u) (is_of_type_all (term_known (is_usable from c)) 0 s u (type_is_usable e c from least r ty (Ok s) k) (reads_usable e c from least r t (Ok u) h))

attributed_usable : (e : Environment) (c : Context) (from least : ℕ) → Reading e c from least → (u : Term) → term_usable from c u ≡ true → (a : AdjectiveData) (o : Result Statement Refusal) → ReadsAttributed e c least u a o → on_ok (statement_usable from c) o ≡ true
attributed_usable e c from least r u ku a o (at.own_refused x h) = refl
attributed_usable e c from least r u ku a o (at.own_read ts first x h i k) =
    reads_attributed (is_usable from c) e c r.environment (known_types from c r.context) Anything (is_denied a) (attribute_in a).place (attribute_in a).place first (attribute_of (attribute_in a).spelling ts u)
    (all-append (term_usable from c) ts (u ∷ []) (own_usable e c from least r a (Ok ts) h) (and_from (term_usable from c u) true ku refl)) x k

-- what is said so far
abbrev so_far_usable : ℕ → Context → Option Statement → Bool
so_far_usable from c o = if_any (statement_usable from c) o

kept_step : (from : ℕ) (c : Context) (s : Statement) (b : Bool) → statement_usable from c s ≡ true → so_far_usable from c (if b then Some s else None) ≡ true
kept_step from c s true h = h
kept_step from c s false h = refl

kept_with_usable : (from : ℕ) (c : Context) (s : Option Statement) (t : Statement) → so_far_usable from c s ≡ true → statement_usable from c t ≡ true → so_far_usable from c (kept_with s t) ≡ true
kept_with_usable from c None t h k = refl
kept_with_usable from c (Some s) t h k = kept_step from c (And s t) (statement_keeps (And s t)) (and_from (statement_usable from c s) (statement_usable from c t) h k)

said_usable : (from : ℕ) (c : Context) (o : Result Statement Refusal) → on_ok (statement_usable from c) o ≡ true → on_ok (so_far_usable from c) (said o) ≡ true
said_usable from c (Err r) h = refl
said_usable from c (Ok s) h = kept_step from c s (statement_keeps s) h

said_behind_usable : (from : ℕ) (c : Context) (s : Option Statement) (o : Result Statement Refusal) → so_far_usable from c s ≡ true → on_ok (statement_usable from c) o ≡ true → on_ok (so_far_usable from c) (said_behind s o) ≡ true
said_behind_usable from c s (Err r) h k = refl
said_behind_usable from c s (Ok t) h k = kept_with_usable from c s t h k

said_within_usable : (from : ℕ) (c : Context) (first : Place) (o : Result (Option Statement) Refusal) → on_ok (so_far_usable from c) o ≡ true → on_ok (statement_usable from c) (said_within first o) ≡ true
said_within_usable from c first (Err r) h = refl
said_within_usable from c first (Ok None) h = refl
said_within_usable from c first (Ok (Some s)) h = h

further_usable : (e : Environment) (c : Context) (from least : ℕ) → Reading e c from least → (u : Term) → term_usable from c u ≡ true → (xs : List AdjectiveData) (s o : Result (Option Statement) Refusal) → ReadsFurther e c least u xs s o → on_ok (so_far_usable from c) s ≡ true → on_ok (so_far_usable from c) o ≡ true
further_usable e c from least r u ku xs s o (at.refused ys x) hs = refl
further_usable e c from least r u ku xs s o (at.no_further t) hs = hs
further_usable e c from least r u ku xs s o (at.further a ys t p q h k) hs =
    further_usable e c from least r u ku ys (said_behind t p) q k (said_behind_usable from c t p hs (attributed_usable e c from least r u ku a p h))

pub is_adjectives_usable : (e : Environment) (c : Context) (from least : ℕ) → Reading e c from least → (t : TermData) (a : AdjectiveData) (xs : List AdjectiveData) (o : Result Statement Refusal) → ReadsIsAdjectives e c least t a xs o → on_ok (statement_usable from c) o ≡ true
is_adjectives_usable e c from least r t a xs o (at.subject_refused x h) = refl
is_adjectives_usable e c from least r t a xs o (at.subject_read u first p q h i k f) =
    let ku : term_usable from c u ≡ true = reads_usable e c from least r t (Ok u) h in
    said_within_usable from c first q (further_usable e c from least r u ku xs (said p) q f (said_usable from c p (attributed_usable e c from least r u ku a p k)))
