-- A turn of the loops over fields.
use Rattle.std.proofs.Common.{◌≡◌, ℕ, suc, ◌+◌, ◌<◌, ◌≤◌, List, [], ◌∷◌, ◌++◌, length, get_or, drop, refl, sym, ap, ◌∙◌, drop-cons, add-one, append_assoc, arith, true}
use Rattle.std.proofs.lemmas.List.{drop_all, length-drop, append-nil}
use Rattle.mz_logic.specs.Term.{Term}
use Rattle.mz_logic.specs.Substitution.{value_at}
use Rattle.mz_logic.specs.declared.literal.Literal.{Literal}
use Rattle.mz_logic.specs.declared.literal.Literal.TheVariants.{Eq}
use Rattle.mz_core.specs.TypeSubstitution.{substitute_type}
use Rattle.mz_core.specs.Guard.{guard_literals}
use Rattle.mz_core.specs.declared.structure.Field.{Field}
use Rattle.mz_items.specs.StructureRows.{selected}
use Rattle.mz_clauses.specs.StructureClauses.{given_guards, selection_equations}

drop-split : {X : Type 0} (xs : List X) (i : ℕ) (x : X) → i < length xs → x ≡ get_or xs i x → drop i xs ≡ x ∷ drop (i + 1) xs
drop-split xs i x lt at = rw (add-one, drop-cons xs i x) (ap (λ y. y ∷ drop (suc i) xs) (sym at))

-- guards of given objects
given_nothing : (values : List Term) (fs : List Field) → given_guards values fs [] ≡ []
given_nothing values [] = refl
given_nothing values (f ∷ fs) = refl

given_none : (values : List Term) (fs : List Field) (zs : List Term) (i : ℕ) → length zs ≤ i → given_guards values (drop i fs) (drop i zs) ≡ []
given_none values fs zs i past = ap (given_guards values (drop i fs)) (drop_all i zs past) ∙ given_nothing values (drop i fs)

given_all : (values : List Term) (fs : List Field) (zs : List Term) (i : ℕ) → length fs ≤ i → given_guards values (drop i fs) (drop i zs) ≡ []
given_all values fs zs i past = ap (λ gs. given_guards values gs (drop i zs)) (drop_all i fs past)

pub told_given : (values : List Term) (fs : List Field) (zs : List Term) (i : ℕ) (f : Field) (z : Term) (out ls g : List Literal) → i < length fs → i < length zs → f ≡ get_or fs i f → z ≡ get_or zs i z → ls ≡ guard_literals (substitute_type 0 (value_at values) f.ty) z → out ++ given_guards values (drop i fs) (drop i zs) ≡ g → (out ++ ls) ++ given_guards values (drop (i + 1) fs) (drop (i + 1) zs) ≡ g
told_given values fs zs i f z out ls g ltf ltz atf atz is goes =
    let ef : drop i fs ≡ f ∷ drop (i + 1) fs = drop-split fs i f ltf atf in
    let ez : drop i zs ≡ z ∷ drop (i + 1) zs = drop-split zs i z ltz atz in
    append_assoc out ls (given_guards values (drop (i + 1) fs) (drop (i + 1) zs)) ∙ (ap (λ ks. out ++ (ks ++ given_guards values (drop (i + 1) fs) (drop (i + 1) zs))) is ∙ (sym (λ j. out ++ given_guards values (ef j) (ez j)) ∙ goes))

pub told_no_more : (values : List Term) (fs : List Field) (zs : List Term) (i : ℕ) (out g : List Literal) → length zs ≤ i → out ++ given_guards values (drop i fs) (drop i zs) ≡ g → out ≡ g
told_no_more values fs zs i out g past goes = sym (append-nil out) ∙ (ap (λ ks. out ++ ks) (sym (given_none values fs zs i past)) ∙ goes)

pub told_no_field : (values : List Term) (fs : List Field) (zs : List Term) (i : ℕ) (out g : List Literal) → length fs ≤ i → out ++ given_guards values (drop i fs) (drop i zs) ≡ g → out ≡ g
told_no_field values fs zs i out g past goes = sym (append-nil out) ∙ (ap (λ ks. out ++ ks) (sym (given_all values fs zs i past)) ∙ goes)

pub ruleset given_rules = (told_given, told_no_more, told_no_field)

-- equations of the selected fields
selection_nothing : (a : Term) (fs : List Field) → selection_equations a fs [] ≡ []
selection_nothing a [] = refl
selection_nothing a (f ∷ fs) = refl

selection_none : (a : Term) (fs : List Field) (zs : List Term) (i : ℕ) → length zs ≤ i → selection_equations a (drop i fs) (drop i zs) ≡ []
selection_none a fs zs i past = ap (selection_equations a (drop i fs)) (drop_all i zs past) ∙ selection_nothing a (drop i fs)

selection_all : (a : Term) (fs : List Field) (zs : List Term) (i : ℕ) → length fs ≤ i → selection_equations a (drop i fs) (drop i zs) ≡ []
selection_all a fs zs i past = ap (λ gs. selection_equations a gs (drop i zs)) (drop_all i fs past)

pub told_selection : (a : Term) (fs : List Field) (zs : List Term) (i : ℕ) (f : Field) (z : Term) (out : List Literal) (l : Literal) (g : List Literal) → i < length fs → i < length zs → f ≡ get_or fs i f → z ≡ get_or zs i z → l ≡ Eq true (selected a f) z → out ++ selection_equations a (drop i fs) (drop i zs) ≡ g → (out ++ l ∷ []) ++ selection_equations a (drop (i + 1) fs) (drop (i + 1) zs) ≡ g
told_selection a fs zs i f z out l g ltf ltz atf atz is goes =
    let ef : drop i fs ≡ f ∷ drop (i + 1) fs = drop-split fs i f ltf atf in
    let ez : drop i zs ≡ z ∷ drop (i + 1) zs = drop-split zs i z ltz atz in
    append_assoc out (l ∷ []) (selection_equations a (drop (i + 1) fs) (drop (i + 1) zs)) ∙ (ap (λ k. out ++ (k ∷ selection_equations a (drop (i + 1) fs) (drop (i + 1) zs))) is ∙ (sym (λ j. out ++ selection_equations a (ef j) (ez j)) ∙ goes))

pub told_no_more_selections : (a : Term) (fs : List Field) (zs : List Term) (i : ℕ) (out g : List Literal) → length zs ≤ i → out ++ selection_equations a (drop i fs) (drop i zs) ≡ g → out ≡ g
told_no_more_selections a fs zs i out g past goes = sym (append-nil out) ∙ (ap (λ ks. out ++ ks) (sym (selection_none a fs zs i past)) ∙ goes)

pub told_no_field_selected : (a : Term) (fs : List Field) (zs : List Term) (i : ℕ) (out g : List Literal) → length fs ≤ i → out ++ selection_equations a (drop i fs) (drop i zs) ≡ g → out ≡ g
told_no_field_selected a fs zs i out g past goes = sym (append-nil out) ∙ (ap (λ ks. out ++ ks) (sym (selection_all a fs zs i past)) ∙ goes)

pub ruleset selection_rules = (told_selection, told_no_more_selections, told_no_field_selected)
