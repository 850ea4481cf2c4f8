-- What the code of private functors, private predicates and letters tells.
use Rattle.std.proofs.Common.{◌≡◌, ℕ, Bool, true, false, List, [], ◌∷◌, length, Option, Some, None, refl, sym, ap, ◌∙◌, subst, arith}
use Rattle.std.specs.Prelude.{◌↔◌, IsTrue, nat_eq, if◌then◌else◌, Result, Ok, Err}
use Rattle.std.proofs.lemmas.Bool.{eqb-true, false≢true}
use Rattle.mz_base.specs.declared.place.Place.{Place}
use Rattle.mz_logic.specs.Term.{Term}
use Rattle.mz_logic.specs.Substitution.{substitute, argument_at}
use Rattle.mz_core.specs.Statement.{Statement}
use Rattle.mz_core.specs.TypeSubstitution.{substitute_statement}
use Rattle.mz_core.specs.declared.soft_type.SoftType.{SoftType}
use Rattle.mz_context.specs.declared.constants.Constant.{Constant}
use Rattle.mz_context.specs.declared.context.Context.{Context}
use Rattle.mz_context.specs.declared.letters.NamedLetter.{NamedLetter}
use Rattle.mz_context.specs.declared.private.PrivateFunctor.{PrivateFunctor}
use Rattle.mz_context.specs.declared.private.PrivatePredicate.{PrivatePredicate}
use Rattle.mz_ground.specs.declared.clause.Clause.{Clause}
use Rattle.mz_environment.specs.declared.environment.Environment.{Environment}
use Rattle.mz_fits.specs.Fits.{TypeFits}
use Rattle.mz_fits.proofs.FitLemmas.{empty, not_both}
use Rattle.mz_choice.specs.Resolution.{typing}
use Rattle.mz_names.specs.Names.{private_functor, private_predicate, functor_letter, predicate_letter}
use Rattle.mz_names.specs.declared.refusal.Refusal.{Refusal}
use Rattle.mz_names.specs.declared.refusal.Refusal.TheVariants.{UnknownVariable, NoNotation, UnfitArgument, TooLarge}
use Rattle.mz_sizes.specs.Sizes.{term_keeps, statement_keeps}
use Rattle.mz_applied.specs.Within.{within}
use Rattle.mz_applied.specs.Private as pr
use Rattle.mz_applied.specs.Private.{PlacesFit, no_places, and_place, Admits, is_functor_usable, is_predicate_usable, term_of_letter, statement_of_letter, AppliesFunctor, AppliesPredicate}

no_more : (cs : List Clause) (ks : List (Option Constant)) (t : Term) (ts : List Term) → PlacesFit cs ks [] (t ∷ ts) → ⊥
no_more cs ks t ts f = elim f [ ]

alone : (cs : List Clause) (ks : List (Option Constant)) (ts : List Term) → IsTrue (nat_eq (length ts) 0) ↔ PlacesFit cs ks [] ts
alone cs ks [] = (λ x. no_places, λ f. refl)
alone cs ks (t ∷ ts) = (λ x. let z : length (t ∷ ts) ≡ 0 = eqb-true (length (t ∷ ts)) 0 x in absurd (omega (arith, z)), λ f. absurd (no_more cs ks t ts f))

no_fewer : (cs : List Clause) (ks : List (Option Constant)) (ty : SoftType) (tys : List SoftType) → PlacesFit cs ks (ty ∷ tys) [] → ⊥
no_fewer cs ks ty tys f = elim f [ ]

first_of : (cs : List Clause) (ks : List (Option Constant)) (ty : SoftType) (tys : List SoftType) (t : Term) (ts : List Term) → PlacesFit cs ks (ty ∷ tys) (t ∷ ts) → TypeFits cs ks t ty
first_of cs ks ty tys t ts (and_place y ys u us f h) = f

others_of : (cs : List Clause) (ks : List (Option Constant)) (ty : SoftType) (tys : List SoftType) (t : Term) (ts : List Term) → PlacesFit cs ks (ty ∷ tys) (t ∷ ts) → PlacesFit cs ks tys ts
others_of cs ks ty tys t ts (and_place y ys u us f h) = h

pub told_no_places : (cs : List Clause) (ks : List (Option Constant)) (places : List SoftType) (ts : List Term) (b : Bool) → length places ≡ 0 → b ≡ nat_eq (length ts) 0 → IsTrue b ↔ PlacesFit cs ks places ts
told_no_places cs ks places ts b ep eb =
    subst (λ x. IsTrue x ↔ PlacesFit cs ks places ts) (sym eb) (subst (λ xs. IsTrue (nat_eq (length ts) 0) ↔ PlacesFit cs ks xs ts) (sym (empty _ ep)) (alone cs ks ts))

pub told_too_few : (cs : List Clause) (ks : List (Option Constant)) (places tys : List SoftType) (ty : SoftType) (ts : List Term) → places ≡ ty ∷ tys → length ts ≡ 0 → IsTrue false ↔ PlacesFit cs ks places ts
told_too_few cs ks places tys ty ts ep et =
    (λ x. absurd (false≢true x), λ f. absurd (no_fewer cs ks ty tys (subst (λ xs. PlacesFit cs ks (ty ∷ tys) xs) (empty _ et) (subst (λ xs. PlacesFit cs ks xs ts) ep f))))

both : (cs : List Clause) (ks : List (Option Constant)) (places tys : List SoftType) (ty : SoftType) (ts us : List Term) (t : Term) → places ≡ ty ∷ tys → ts ≡ t ∷ us → PlacesFit cs ks places ts → PlacesFit cs ks (ty ∷ tys) (t ∷ us)
both cs ks places tys ty ts us t ep et f = subst (λ xs. PlacesFit cs ks (ty ∷ tys) xs) et (subst (λ xs. PlacesFit cs ks xs ts) ep f)

pub told_one_unfit : (cs : List Clause) (ks : List (Option Constant)) (places tys : List SoftType) (ty : SoftType) (ts us : List Term) (t : Term) (b : Bool) → places ≡ ty ∷ tys → ts ≡ t ∷ us → IsTrue b ↔ TypeFits cs ks t ty → b ≡ false → IsTrue false ↔ PlacesFit cs ks places ts
told_one_unfit cs ks places tys ty ts us t b ep et i eb =
    (λ x. absurd (false≢true x), λ f. absurd (not_both b eb (i.1 (first_of cs ks ty tys t us (both cs ks places tys ty ts us t ep et f)))))

pub told_others : (cs : List Clause) (ks : List (Option Constant)) (places tys : List SoftType) (ty : SoftType) (ts us : List Term) (t : Term) (b q : Bool) → places ≡ ty ∷ tys → ts ≡ t ∷ us → IsTrue b ↔ TypeFits cs ks t ty → b ≡ true → IsTrue q ↔ PlacesFit cs ks tys us → IsTrue q ↔ PlacesFit cs ks places ts
told_others cs ks places tys ty ts us t b q ep et i eb j = (forward, λ f. j.1 (others_of cs ks ty tys t us (both cs ks places tys ty ts us t ep et f)))
  where
    forward : IsTrue q → PlacesFit cs ks places ts
    forward x = subst (λ xs. PlacesFit cs ks xs ts) (sym ep) (subst (λ xs. PlacesFit cs ks (ty ∷ tys) xs) (sym et) (and_place ty tys t us (i.0 eb) (j.0 x)))

pub ruleset place_rules = (told_no_places, told_too_few, told_one_unfit, told_others)

tested : (m n : ℕ) (b : Bool) → nat_eq m n ≡ b → (m ≡ n → ⊥) → b ≡ false
tested m n true e h = absurd (h (grind (arith, e)))
tested m n false e h = refl

pub other_count : (m n : ℕ) → (m ≡ n → ⊥) → nat_eq m n ≡ false
other_count m n h = tested m n (nat_eq m n) refl h

pub same_count : (m n : ℕ) → m ≡ n → nat_eq m n ≡ true
same_count m n h = grind (arith, h)

pub told_other_number : (e : Environment) (c : Context) (place : Place) (usable : Bool) (places : List SoftType) (ts : List Term) → (length ts ≡ length places → ⊥) → Admits e c place usable places ts (Some (NoNotation place))
told_other_number e c place usable places ts n = pr.other_number (other_count _ _ n)

pub told_unfit : (e : Environment) (c : Context) (place : Place) (usable : Bool) (places : List SoftType) (ts : List Term) (fit : Bool) → length ts ≡ length places → IsTrue fit ↔ PlacesFit (typing e c) c.constants places ts → fit ≡ false → Admits e c place usable places ts (Some (UnfitArgument place))
told_unfit e c place usable places ts fit n i ef = pr.unfit (same_count _ _ n) (λ f. not_both fit ef (i.1 f))

pub told_not_usable : (e : Environment) (c : Context) (place : Place) (usable : Bool) (places : List SoftType) (ts : List Term) (fit : Bool) → length ts ≡ length places → IsTrue fit ↔ PlacesFit (typing e c) c.constants places ts → fit ≡ true → usable ≡ false → Admits e c place usable places ts (Some (UnknownVariable place))
told_not_usable e c place usable places ts fit n i ef h = pr.not_usable (same_count _ _ n) (i.0 ef) h

pub told_admits : (e : Environment) (c : Context) (place : Place) (usable : Bool) (places : List SoftType) (ts : List Term) (fit : Bool) → length ts ≡ length places → IsTrue fit ↔ PlacesFit (typing e c) c.constants places ts → fit ≡ true → usable ≡ true → Admits e c place usable places ts None
told_admits e c place usable places ts fit n i ef h = pr.admits (same_count _ _ n) (i.0 ef) h

pub ruleset admits_rules = (told_other_number, told_unfit, told_not_usable, told_admits)

-- a body at arguments, measured first
kept : (X : Type 0) (keeps : X → Bool) (place : Place) (x y : X) (b : Bool) → b ≡ keeps y → b ≡ true → x ≡ y → Ok x ≡ within keeps place y
kept X keeps place x y b eb h e = ap Ok e ∙ sym (ap (λ c. if c then Ok y else Err (TooLarge place)) (sym eb ∙ h))

beyond : (X : Type 0) (keeps : X → Bool) (place : Place) (y : X) (b : Bool) → b ≡ keeps y → b ≡ false → Err (TooLarge place) ≡ within keeps place y
beyond X keeps place y b eb h = sym (ap (λ c. if c then Ok y else Err (TooLarge place)) (sym eb ∙ h))

pub told_kept_term : (place : Place) (t u : Term) (b : Bool) → b ≡ term_keeps u → b ≡ true → t ≡ u → Ok t ≡ within term_keeps place u
told_kept_term place t u b eb h e = kept Term term_keeps place t u b eb h e

pub told_large_term : (place : Place) (u : Term) (b : Bool) → b ≡ term_keeps u → b ≡ false → Err (TooLarge place) ≡ within term_keeps place u
told_large_term place u b eb h = beyond Term term_keeps place u b eb h

pub ruleset term_rules = (told_kept_term, told_large_term)

pub told_kept_statement : (place : Place) (s t : Statement) (b : Bool) → b ≡ statement_keeps t → b ≡ true → s ≡ t → Ok s ≡ within statement_keeps place t
told_kept_statement place s t b eb h e = kept Statement statement_keeps place s t b eb h e

pub told_large_statement : (place : Place) (t : Statement) (b : Bool) → b ≡ statement_keeps t → b ≡ false → Err (TooLarge place) ≡ within statement_keeps place t
told_large_statement place t b eb h = beyond Statement statement_keeps place t b eb h

pub ruleset statement_rules = (told_kept_statement, told_large_statement)

pub told_functor_refused : (e : Environment) (c : Context) (least : ℕ) (place : Place) (name : List ℕ) (ts : List Term) (f : PrivateFunctor) (usable : Bool) (q : Option Refusal) (r : Refusal) → private_functor c name ≡ Some f → usable ≡ is_functor_usable least f → Admits e c place usable f.places ts q → q ≡ Some r → AppliesFunctor e c least place name ts (Err r)
told_functor_refused e c least place name ts f usable q r ef eu h eq =
    pr.functor_refused f r ef (subst (λ o. Admits e c place (is_functor_usable least f) f.places ts o) eq (subst (λ b. Admits e c place b f.places ts q) eu h))

pub told_functor_expanded : (e : Environment) (c : Context) (least : ℕ) (place : Place) (name : List ℕ) (ts : List Term) (f : PrivateFunctor) (usable : Bool) (q : Option Refusal) (x : Result Term Refusal) → private_functor c name ≡ Some f → usable ≡ is_functor_usable least f → Admits e c place usable f.places ts q → q ≡ None → x ≡ within term_keeps place (substitute 0 (argument_at ts) f.body) → AppliesFunctor e c least place name ts x
told_functor_expanded e c least place name ts f usable q x ef eu h eq ex =
    let P : Result Term Refusal → Type 0 = λ y. AppliesFunctor e c least place name ts y in
    let done : P (within term_keeps place (substitute 0 (argument_at ts) f.body)) = pr.functor_expanded f ef (subst (λ o. Admits e c place (is_functor_usable least f) f.places ts o) eq (subst (λ b. Admits e c place b f.places ts q) eu h)) in
    subst P (sym ex) done

pub told_functor_letter : (e : Environment) (c : Context) (least : ℕ) (place : Place) (name : List ℕ) (ts : List Term) (l : Option NamedLetter) (x : Result Term Refusal) → private_functor c name ≡ None → l ≡ functor_letter c name → x ≡ term_of_letter place ts l → AppliesFunctor e c least place name ts x
told_functor_letter e c least place name ts l x ef el ex =
    let P : Result Term Refusal → Type 0 = λ y. AppliesFunctor e c least place name ts y in
    subst P (sym (ex ∙ ap (term_of_letter place ts) el)) (pr.letter_of_functor ef)

pub ruleset functor_rules = (told_functor_refused, told_functor_expanded, told_functor_letter)

pub told_predicate_refused : (e : Environment) (c : Context) (least : ℕ) (place : Place) (name : List ℕ) (ts : List Term) (p : PrivatePredicate) (usable : Bool) (q : Option Refusal) (r : Refusal) → private_predicate c name ≡ Some p → usable ≡ is_predicate_usable least p → Admits e c place usable p.places ts q → q ≡ Some r → AppliesPredicate e c least place name ts (Err r)
told_predicate_refused e c least place name ts p usable q r ep eu h eq =
    pr.predicate_refused p r ep (subst (λ o. Admits e c place (is_predicate_usable least p) p.places ts o) eq (subst (λ b. Admits e c place b p.places ts q) eu h))

pub told_predicate_expanded : (e : Environment) (c : Context) (least : ℕ) (place : Place) (name : List ℕ) (ts : List Term) (p : PrivatePredicate) (usable : Bool) (q : Option Refusal) (x : Result Statement Refusal) → private_predicate c name ≡ Some p → usable ≡ is_predicate_usable least p → Admits e c place usable p.places ts q → q ≡ None → x ≡ within statement_keeps place (substitute_statement 0 (argument_at ts) p.body) → AppliesPredicate e c least place name ts x
told_predicate_expanded e c least place name ts p usable q x ep eu h eq ex =
    let P : Result Statement Refusal → Type 0 = λ y. AppliesPredicate e c least place name ts y in
    let done : P (within statement_keeps place (substitute_statement 0 (argument_at ts) p.body)) = pr.predicate_expanded p ep (subst (λ o. Admits e c place (is_predicate_usable least p) p.places ts o) eq (subst (λ b. Admits e c place b p.places ts q) eu h)) in
    subst P (sym ex) done

pub told_predicate_letter : (e : Environment) (c : Context) (least : ℕ) (place : Place) (name : List ℕ) (ts : List Term) (l : Option NamedLetter) (x : Result Statement Refusal) → private_predicate c name ≡ None → l ≡ predicate_letter c name → x ≡ statement_of_letter place ts l → AppliesPredicate e c least place name ts x
told_predicate_letter e c least place name ts l x ep el ex =
    let P : Result Statement Refusal → Type 0 = λ y. AppliesPredicate e c least place name ts y in
    subst P (sym (ex ∙ ap (statement_of_letter place ts) el)) (pr.letter_of_predicate ep)

pub ruleset predicate_rules = (told_predicate_refused, told_predicate_expanded, told_predicate_letter)
