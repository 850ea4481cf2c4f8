-- What the code of refusals in front of a side that isn't read tells.
use Rattle.std.proofs.Common.{◌≡◌, ℕ, ◌-◌, Bool, true, false, List, ◌∷◌, length, Option, Some, None, refl, sym, ap, ◌∙◌, subst, arith}
use Rattle.std.specs.Prelude.{nat_eq, if◌then◌else◌, Result, Ok, Err, IfOk}
use Rattle.mz_base.specs.declared.place.Place.{Place}
use Rattle.mz_core.specs.Statement.{Statement}
use Rattle.mz_context.specs.declared.context.Context.{Context}
use Rattle.mz_environment.specs.declared.environment.Environment.{Environment}
use Rattle.mz_fits.proofs.FitLemmas.{empty}
use Rattle.mz_names.specs.declared.refusal.Refusal.TheVariants.{TooLarge}
use Rattle.mz_given.specs.Given.{cited_in}
use Rattle.mz_tree_proof.specs.Reasoning.{JustData, SimpleJust, ProofJust, StepList}
use Rattle.mz_tree_proof.specs.declared.equality_step.EqualityStepTree.{EqualityStepTree}
use Rattle.mz_tree_proof.specs.declared.references.SimpleTree.{SimpleTree}
use Rattle.mz_justified.specs.Justified.{place_of}
use Rattle.mz_given.specs.declared.given.Given.{Given}
use Rattle.mz_justified.specs.declared.proof_fault.ProofFault.{ProofFault}
use Rattle.mz_justified.specs.declared.proof_fault.ProofFault.TheVariants.{Refused}
use Rattle.mz_justified.specs.declared.proof_fault.ProofRefusal.{ProofRefusal}
use Rattle.mz_justified.specs.declared.proof_fault.ProofRefusal.TheVariants.{UnknownLabel, Resolve, TooManyObligations}
use Rattle.mz_walk.specs.Compact.{place_behind}
use Rattle.mz_walk.specs.Earlier.{is_before, place_refused, uncited, ungrounded, else_told, told_behind, told_of_sides, told_first, large_or, told_unread}
use Rattle.mz_performing.specs.Begun.{ToldAs}

-- one justification
tested : (n : ℕ) (b : Bool) → nat_eq n 0 ≡ b → (n ≡ 0 → ⊥) → b ≡ false
tested n true e h = absurd (h (grind (arith, e)))
tested n false e h = refl

some_left : (n : ℕ) → (n ≡ 0 → ⊥) → nat_eq n 0 ≡ false
some_left n h = tested n (nat_eq n 0) refl h

none_left : (n : ℕ) → n ≡ 0 → nat_eq n 0 ≡ true
none_left n h = grind (arith, h)

abbrev spent_or : Place → Option ProofRefusal → Bool → Option ProofRefusal
spent_or place o b = if b then Some (TooManyObligations place) else o

pub told_spent : (e : Environment) (c : Context) (n : ℕ) (place : Place) (t : SimpleTree) → n ≡ 0 → Some (TooManyObligations place) ≡ ungrounded e c n place t
told_spent e c n place t h = sym (ap (spent_or place (uncited (cited_in e c t))) (none_left n h))

unspent : (e : Environment) (c : Context) (n : ℕ) (place : Place) (t : SimpleTree) → (n ≡ 0 → ⊥) → ungrounded e c n place t ≡ uncited (cited_in e c t)
unspent e c n place t h = ap (spent_or place (uncited (cited_in e c t))) (some_left n h)

pub told_uncited : (e : Environment) (c : Context) (n : ℕ) (place : Place) (t : SimpleTree) (q : Result Given Place) (p : Place) → (n ≡ 0 → ⊥) → q ≡ cited_in e c t → q ≡ Err p → Some (UnknownLabel p) ≡ ungrounded e c n place t
told_uncited e c n place t q p h eq ep = sym (unspent e c n place t h ∙ ap uncited (sym eq ∙ ep))

pub told_grounded : (e : Environment) (c : Context) (n : ℕ) (place : Place) (t : SimpleTree) (q : Result Given Place) (g : Given) → (n ≡ 0 → ⊥) → q ≡ cited_in e c t → q ≡ Ok g → None ≡ ungrounded e c n place t
told_grounded e c n place t q g h eq es = sym (unspent e c n place t h ∙ ap uncited (sym eq ∙ es))

pub ruleset ground_rules = (told_spent, told_uncited, told_grounded)

-- in front of others
abbrev before_or : ProofRefusal → ProofRefusal → Bool → ProofRefusal
before_or q r b = if b then q else r

told_behind-stays : (e : Environment) (c : Context) (n : ℕ) (place : Place) (t : SimpleTree) (rest r : ProofRefusal) → is_before place (place_refused r) ≡ false → told_behind e c n place t rest r ≡ r
told_behind-stays e c n place t rest r h = ap (before_or (else_told (ungrounded e c n place t) rest) r) h

told_behind-told : (e : Environment) (c : Context) (n : ℕ) (place : Place) (t : SimpleTree) (rest r q : ProofRefusal) → is_before place (place_refused r) ≡ true → ungrounded e c n place t ≡ Some q → told_behind e c n place t rest r ≡ q
told_behind-told e c n place t rest r q h k = ap (before_or (else_told (ungrounded e c n place t) rest) r) h ∙ ap (λ o. else_told o rest) k

told_behind-goes_on : (e : Environment) (c : Context) (n : ℕ) (place : Place) (t : SimpleTree) (rest r : ProofRefusal) → is_before place (place_refused r) ≡ true → ungrounded e c n place t ≡ None → told_behind e c n place t rest r ≡ rest
told_behind-goes_on e c n place t rest r h k = ap (before_or (else_told (ungrounded e c n place t) rest) r) h ∙ ap (λ o. else_told o rest) k

-- what the code asks of a justification, at its place
place_is : (place behind : Place) (t : SimpleTree) (ks : List EqualityStepTree) (semicolon : Place) → place ≡ place_of behind t → behind ≡ place_behind ks semicolon → place ≡ place_of (place_behind ks semicolon) t
place_is place behind t ks semicolon ep eb = ep ∙ ap (λ z. place_of z t) eb

before_is : (p p' q : Place) (r : ProofRefusal) (b v : Bool) → p ≡ p' → q ≡ place_refused r → b ≡ is_before p q → b ≡ v → is_before p' (place_refused r) ≡ v
before_is p p' q r b v ep eq eb ev = sym (eb ∙ (ap (λ z. is_before z q) ep ∙ ap (λ z. is_before p' z) eq)) ∙ ev

ground_is : (e : Environment) (c : Context) (n : ℕ) (p p' : Place) (t : SimpleTree) (o v : Option ProofRefusal) → p ≡ p' → o ≡ ungrounded e c n p t → o ≡ v → ungrounded e c n p' t ≡ v
ground_is e c n p p' t o v ep eo ev = ap (λ z. ungrounded e c n z t) (sym ep) ∙ (sym eo ∙ ev)

-- further sides
pub told_sides_end : (e : Environment) (c : Context) (semicolon : Place) (n m : ℕ) (rest all : List EqualityStepTree) (r : ProofRefusal) → length rest ≡ 0 → told_of_sides e c semicolon n rest r ≡ told_of_sides e c semicolon m all r → r ≡ told_of_sides e c semicolon m all r
told_sides_end e c semicolon n m rest all r er h = sym (ap (λ xs. told_of_sides e c semicolon n xs r) (empty rest er)) ∙ h

pub told_side_stays : (e : Environment) (c : Context) (semicolon : Place) (n m : ℕ) (rest others all : List EqualityStepTree) (k : EqualityStepTree) (place behind q : Place) (b : Bool) (r : ProofRefusal) → rest ≡ k ∷ others → behind ≡ place_behind others semicolon → place ≡ place_of behind k.simple → q ≡ place_refused r → b ≡ is_before place q → b ≡ false →
    told_of_sides e c semicolon n rest r ≡ told_of_sides e c semicolon m all r → r ≡ told_of_sides e c semicolon m all r
told_side_stays e c semicolon n m rest others all k place behind q b r er eb ep eq ek ev h =
    let at : place ≡ place_of (place_behind others semicolon) k.simple = place_is place behind k.simple others semicolon ep eb in
    sym (told_behind-stays e c n (place_of (place_behind others semicolon) k.simple) k.simple (told_of_sides e c semicolon (n - 1) others r) r (before_is place _ q r b false at eq ek ev))
    ∙ (sym (ap (λ xs. told_of_sides e c semicolon n xs r) er) ∙ h)

pub told_side_told : (e : Environment) (c : Context) (semicolon : Place) (n m : ℕ) (rest others all : List EqualityStepTree) (k : EqualityStepTree) (place behind q : Place) (b : Bool) (r x : ProofRefusal) (o : Option ProofRefusal) → rest ≡ k ∷ others → behind ≡ place_behind others semicolon → place ≡ place_of behind k.simple → q ≡ place_refused r → b ≡ is_before place q → b ≡ true → o ≡ ungrounded e c n place k.simple → o ≡ Some x →
    told_of_sides e c semicolon n rest r ≡ told_of_sides e c semicolon m all r → x ≡ told_of_sides e c semicolon m all r
told_side_told e c semicolon n m rest others all k place behind q b r x o er eb ep eq ek ev eo ex h =
    let at : place ≡ place_of (place_behind others semicolon) k.simple = place_is place behind k.simple others semicolon ep eb in
    sym (told_behind-told e c n (place_of (place_behind others semicolon) k.simple) k.simple (told_of_sides e c semicolon (n - 1) others r) r x (before_is place _ q r b true at eq ek ev) (ground_is e c n place _ k.simple o (Some x) at eo ex))
    ∙ (sym (ap (λ xs. told_of_sides e c semicolon n xs r) er) ∙ h)

pub told_side_turn : (e : Environment) (c : Context) (semicolon : Place) (n n' m : ℕ) (rest others all : List EqualityStepTree) (k : EqualityStepTree) (place behind q : Place) (b : Bool) (r : ProofRefusal) (o : Option ProofRefusal) → rest ≡ k ∷ others → behind ≡ place_behind others semicolon → place ≡ place_of behind k.simple → q ≡ place_refused r → b ≡ is_before place q → b ≡ true → o ≡ ungrounded e c n place k.simple → o ≡ None → n' ≡ n - 1 →
    told_of_sides e c semicolon n rest r ≡ told_of_sides e c semicolon m all r → told_of_sides e c semicolon n' others r ≡ told_of_sides e c semicolon m all r
told_side_turn e c semicolon n n' m rest others all k place behind q b r o er eb ep eq ek ev eo en em h =
    let at : place ≡ place_of (place_behind others semicolon) k.simple = place_is place behind k.simple others semicolon ep eb in
    ap (λ z. told_of_sides e c semicolon z others r) em
    ∙ (sym (told_behind-goes_on e c n (place_of (place_behind others semicolon) k.simple) k.simple (told_of_sides e c semicolon (n - 1) others r) r (before_is place _ q r b true at eq ek ev) (ground_is e c n place _ k.simple o None at eo en))
    ∙ (sym (ap (λ xs. told_of_sides e c semicolon n xs r) er) ∙ h))

pub ruleset side_rules = (told_sides_end, told_side_stays, told_side_told, told_side_turn)

-- all of them
pub told_first_stays : (e : Environment) (c : Context) (semicolon : Place) (n : ℕ) (t : SimpleTree) (ks : List EqualityStepTree) (place behind q : Place) (b : Bool) (r : ProofRefusal) → behind ≡ place_behind ks semicolon → place ≡ place_of behind t → q ≡ place_refused r → b ≡ is_before place q → b ≡ false → r ≡ told_first e c semicolon n (SimpleJust t) ks r
told_first_stays e c semicolon n t ks place behind q b r eb ep eq ek ev =
    sym (told_behind-stays e c n (place_of (place_behind ks semicolon) t) t (told_of_sides e c semicolon (n - 1) ks r) r (before_is place _ q r b false (place_is place behind t ks semicolon ep eb) eq ek ev))

pub told_first_told : (e : Environment) (c : Context) (semicolon : Place) (n : ℕ) (t : SimpleTree) (ks : List EqualityStepTree) (place behind q : Place) (b : Bool) (r x : ProofRefusal) (o : Option ProofRefusal) → behind ≡ place_behind ks semicolon → place ≡ place_of behind t → q ≡ place_refused r → b ≡ is_before place q → b ≡ true → o ≡ ungrounded e c n place t → o ≡ Some x → x ≡ told_first e c semicolon n (SimpleJust t) ks r
told_first_told e c semicolon n t ks place behind q b r x o eb ep eq ek ev eo ex =
    let at : place ≡ place_of (place_behind ks semicolon) t = place_is place behind t ks semicolon ep eb in
    sym (told_behind-told e c n (place_of (place_behind ks semicolon) t) t (told_of_sides e c semicolon (n - 1) ks r) r x (before_is place _ q r b true at eq ek ev) (ground_is e c n place _ t o (Some x) at eo ex))

pub told_first_others : (e : Environment) (c : Context) (semicolon : Place) (n m : ℕ) (t : SimpleTree) (ks : List EqualityStepTree) (place behind q : Place) (b : Bool) (r x : ProofRefusal) (o : Option ProofRefusal) → behind ≡ place_behind ks semicolon → place ≡ place_of behind t → q ≡ place_refused r → b ≡ is_before place q → b ≡ true → o ≡ ungrounded e c n place t → o ≡ None → m ≡ n - 1 → x ≡ told_of_sides e c semicolon m ks r →
    x ≡ told_first e c semicolon n (SimpleJust t) ks r
told_first_others e c semicolon n m t ks place behind q b r x o eb ep eq ek ev eo en em ex =
    let at : place ≡ place_of (place_behind ks semicolon) t = place_is place behind t ks semicolon ep eb in
    ex ∙ (ap (λ z. told_of_sides e c semicolon z ks r) em
    ∙ sym (told_behind-goes_on e c n (place_of (place_behind ks semicolon) t) t (told_of_sides e c semicolon (n - 1) ks r) r (before_is place _ q r b true at eq ek ev) (ground_is e c n place _ t o None at eo en)))

pub ruleset first_rules = (told_first_stays, told_first_told, told_first_others)

pub told_simple : {E : Type 0} (e : Environment) (c : Context) (semicolon : Place) (n : ℕ) (j : JustData) (t : SimpleTree) (ks : List EqualityStepTree) (r : ProofRefusal) (y : Result ProofRefusal E) → j ≡ SimpleJust t → IfOk y (λ x. x ≡ told_first e c semicolon n (SimpleJust t) ks r) → IfOk y (λ x. x ≡ told_first e c semicolon n j ks r)
told_simple {E} e c semicolon n j t ks r y ej h = subst (λ z. IfOk y (λ x. x ≡ told_first e c semicolon n z ks r)) (sym ej) h

pub told_proof : (e : Environment) (c : Context) (semicolon : Place) (n : ℕ) (j : JustData) (p end : Place) (ds : StepList) (ks : List EqualityStepTree) (r : ProofRefusal) → j ≡ ProofJust p ds end → r ≡ told_first e c semicolon n j ks r
told_proof e c semicolon n j p end ds ks r ej = sym (ap (λ z. told_first e c semicolon n z ks r) ej)

-- where what can be made is too large
pub told_large_before : (first : Place) (r rest : ProofRefusal) (q : Place) (b : Bool) → q ≡ place_refused r → b ≡ is_before first q → b ≡ true → Resolve (TooLarge first) ≡ large_or first r rest
told_large_before first r rest q b eq eb e1 = sym (ap (before_or (Resolve (TooLarge first)) rest) (ap (is_before first) (sym eq) ∙ (sym eb ∙ e1)))

pub told_large_behind : (first : Place) (r rest : ProofRefusal) (q : Place) (b : Bool) → q ≡ place_refused r → b ≡ is_before first q → b ≡ false → rest ≡ large_or first r rest
told_large_behind first r rest q b eq eb e0 = sym (ap (before_or (Resolve (TooLarge first)) rest) (ap (is_before first) (sym eq) ∙ (sym eb ∙ e0)))

pub ruleset large_rules = (told_large_before, told_large_behind)

pub told_kept : (e : Environment) (c : Context) (first semicolon : Place) (n : ℕ) (j : JustData) (ks : List EqualityStepTree) (kept : Bool) (r o : ProofRefusal) → kept ≡ true → o ≡ told_first e c semicolon n j ks r → o ≡ told_unread e c first semicolon n j ks kept r
told_kept e c first semicolon n j ks kept r o ek eo = eo ∙ sym (ap (λ k. told_unread e c first semicolon n j ks k r) ek)

pub told_large : (e : Environment) (c : Context) (first semicolon : Place) (n : ℕ) (j : JustData) (ks : List EqualityStepTree) (kept : Bool) (r o x : ProofRefusal) → kept ≡ false → o ≡ told_first e c semicolon n j ks r → x ≡ large_or first r o → x ≡ told_unread e c first semicolon n j ks kept r
told_large e c first semicolon n j ks kept r o x ek eo ex = ex ∙ (ap (large_or first r) eo ∙ sym (ap (λ k. told_unread e c first semicolon n j ks k r) ek))

pub ruleset unread_rules = (told_kept, told_large)

pub told_as : (told : ProofRefusal → ProofRefusal) (f : ProofFault) (r q : ProofRefusal) → f ≡ Refused r → q ≡ told r → ToldAs told f (Refused q)
told_as told f r q ef eq = (r, ef, eq)

pub ruleset fault_rules = (told_as)
