-- What a type says of a term, literal by literal.
use Rattle.std.proofs.Common.{◌≡◌, ◌++◌, List, [], ◌∷◌, map, length, refl, sym, ap, ◌∙◌, subst, arith, Bool, true, false, Option, Some, None}
use Rattle.std.specs.Prelude.{if◌then◌else◌, Result, Ok, Err}
use Rattle.mz_base.specs.declared.place.Place.{Place}
use Rattle.mz_logic.specs.Term.{Term}
use Rattle.mz_logic.specs.declared.literal.Literal.{Literal}
use Rattle.mz_logic.specs.declared.literal.Literal.TheVariants as literal
use Rattle.mz_core.specs.Guard.{radix_literals, adjective_literal, guard_literals}
use Rattle.mz_core.specs.Hidden.{is_of_any_object}
use Rattle.mz_core.specs.Parts.{conjunction, conjunction_to}
use Rattle.mz_core.specs.Statement.{Statement, Atom, And}
use Rattle.mz_core.specs.TypeStatements.{literal_statement, is_of_type}
use Rattle.mz_core.specs.declared.adjective.Adjective.{Adjective}
use Rattle.mz_core.specs.declared.radix.Radix.{Radix}
use Rattle.mz_core.specs.declared.soft_type.SoftType.{SoftType}
use Rattle.mz_names.specs.declared.refusal.Refusal.{Refusal}
use Rattle.mz_sizes.specs.Sizes.{statement_keeps}
use Rattle.mz_applied.specs.Within.{within}
use Rattle.mz_joined.specs.Bound.{of_type_within, radix_said, and_said, stated}
use Rattle.mz_joined.proofs.KeepLemmas.{beyond_and, within_kept, within_beyond, within_refused, refused_within}

-- what was said, and further statements
abbrev pub all_said : Option Statement → List Statement → Statement
all_said None ss = conjunction ss
all_said (Some s) ss = conjunction_to s ss

-- what an adjective says
abbrev pub says : Term → Adjective → Statement
says t a = literal_statement (adjective_literal t a)

mapped : (t : Term) (xs : List Adjective) → map literal_statement (map (adjective_literal t) xs) ≡ map (says t) xs
mapped t [] = refl
mapped t (x ∷ xs) = ap (λ ss. says t x ∷ ss) (mapped t xs)

conjunction-of_radix : (b : Bool) (r : Radix) (t : Term) (xs : List Adjective) →
    conjunction (map literal_statement ((if b then [] else literal.Atom true r.sym (r.args ++ t ∷ []) ∷ []) ++ map (adjective_literal t) xs)) ≡ all_said (if b then None else Some (Atom r.sym (r.args ++ t ∷ []))) (map (says t) xs)
conjunction-of_radix true r t xs = ap conjunction (mapped t xs)
conjunction-of_radix false r t xs = ap (conjunction_to (Atom r.sym (r.args ++ t ∷ []))) (mapped t xs)

pub within-told_begun : (first : Place) (ty : SoftType) (t : Term) (said : Option Statement) (xs : List Adjective) → said ≡ radix_said ty.radix t → xs ≡ ty.adjectives → within statement_keeps first (all_said said (map (says t) xs)) ≡ of_type_within first ty t
within-told_begun first ty t said xs es ex =
    ap (within statement_keeps first) (ap (λ o. all_said o (map (says t) xs)) es ∙ (ap (λ ys. all_said (radix_said ty.radix t) (map (says t) ys)) ex ∙ sym (conjunction-of_radix (is_of_any_object ty.radix.sym) ty.radix t ty.adjectives)))

all_said-one_more : (said : Option Statement) (s : Statement) (ss : List Statement) → all_said said (s ∷ ss) ≡ conjunction_to (and_said said s) ss
all_said-one_more None s ss = refl
all_said-one_more (Some r) s ss = refl

pub within-told_turn : (first : Place) (t : Term) (said : Option Statement) (rest others : List Adjective) (a : Adjective) (s : Statement) (p goal : Result Statement Refusal) →
    rest ≡ a ∷ others → p ≡ within statement_keeps first (and_said said (literal_statement (adjective_literal t a))) → p ≡ Ok s →
    within statement_keeps first (all_said said (map (says t) rest)) ≡ goal → within statement_keeps first (all_said (Some s) (map (says t) others)) ≡ goal
within-told_turn first t said rest others a s p goal er ep eo h =
    ap (λ u. within statement_keeps first (conjunction_to u (map (says t) others))) (within_kept first (and_said said (says t a)) s (sym ep ∙ eo)) ∙
    (ap (within statement_keeps first) (sym (all_said-one_more said (says t a) (map (says t) others))) ∙ (ap (λ xs. within statement_keeps first (all_said said (map (says t) xs))) (sym er) ∙ h))

beyond_to : (s : Statement) (ss : List Statement) → statement_keeps s ≡ false → statement_keeps (conjunction_to s ss) ≡ false
beyond_to s [] h = h
beyond_to s (t ∷ ts) h = beyond_to (And s t) ts (beyond_and s t h)

pub told_stop : (first : Place) (t : Term) (said : Option Statement) (rest others : List Adjective) (a : Adjective) (r : Refusal) (p goal : Result Statement Refusal) →
    rest ≡ a ∷ others → p ≡ within statement_keeps first (and_said said (literal_statement (adjective_literal t a))) → p ≡ Err r →
    within statement_keeps first (all_said said (map (says t) rest)) ≡ goal → Err r ≡ goal
told_stop first t said rest others a r p goal er ep eo h =
    let over : statement_keeps (and_said said (says t a)) ≡ false = within_beyond first (and_said said (says t a)) r (sym ep ∙ eo) in
    ap Err (within_refused first (and_said said (says t a)) r (sym ep ∙ eo)) ∙
    (sym (refused_within first (conjunction_to (and_said said (says t a)) (map (says t) others)) (beyond_to (and_said said (says t a)) (map (says t) others) over)) ∙
    (ap (within statement_keeps first) (sym (all_said-one_more said (says t a) (map (says t) others))) ∙ (ap (λ xs. within statement_keeps first (all_said said (map (says t) xs))) (sym er) ∙ h)))

all_said-nothing_more : (said : Option Statement) → all_said said [] ≡ stated said
all_said-nothing_more None = refl
all_said-nothing_more (Some s) = refl

no_items : (rest : List Adjective) → length rest ≡ 0 → rest ≡ []
no_items [] e = refl
no_items (v ∷ vs) e = absurd (omega (arith, e))

pub told_end : (first : Place) (t : Term) (said : Option Statement) (rest : List Adjective) (s : Statement) (p goal : Result Statement Refusal) → length rest ≡ 0 → s ≡ stated said → p ≡ within statement_keeps first s →
    within statement_keeps first (all_said said (map (says t) rest)) ≡ goal → p ≡ goal
told_end first t said rest s p goal e es ep h =
    ep ∙ (ap (within statement_keeps first) (es ∙ (sym (all_said-nothing_more said) ∙ ap (λ xs. all_said said (map (says t) xs)) (sym (no_items rest e)))) ∙ h)

pub ruleset said_rules = (within-told_begun, within-told_turn, told_stop, told_end)
