-- The readings of reasonings: steps, and at last a split into cases.
use Rattle.std.specs.Prelude.{codes}
use Rattle.std.proofs.Common.{◌≡◌, ℕ, ◌+◌, ◌<◌, arith, length, length-append, Bool, true, false, ◌||◌, ◌&&◌, List, [], ◌∷◌, ◌++◌, refl, sym, ap, subst, ◌∙◌, append_assoc, get_or, Option, Some, None}
use Rattle.std.proofs.lemmas.Bool.{or_left, or_right}
use Rattle.mz_base.specs.declared.place.Place.{Place}
use Rattle.mz_base.specs.declared.token.MarkedToken.{MarkedToken}
use Rattle.mz_forms.specs.declared.refusal.Refusal.{Refusal}
use Rattle.mz_forms.specs.Form.{Form, Agrees, Found, Leads, then, is_empty}
use Rattle.mz_forms.specs.Reading.{Refuses, Builds}
use Rattle.mz_forms.specs.Repeat.{spell_all}
use Rattle.mz_forms.proofs.Choose.{Turns, finds_empty}
use Rattle.mz_forms.proofs.Compose.{Apart, head_of, tail_of}
use Rattle.mz_forms.proofs.Leads.{leads_turn, leads_look, leads_behind, leads_on, leads_here, leads_same, beside, apart_closed, passes, first_refuses}
use Rattle.mz_forms.proofs.Lists.{Begun}
use Rattle.mz_forms.proofs.Look.{Looks}
use Rattle.mz_forms.proofs.Words.{behind_word}
use Rattle.mz_tree.specs.Spelled.{reserved_if}
use Rattle.mz_tree.specs.Levels.{levels_if}
use Rattle.mz_tree_proof.specs.declared.skeleton.SplitTree.{SplitTree}
use Rattle.mz_tree_proof.specs.Reasoning.{StatementData, StepData, SupposeData, StepList, SupposeList, StatementStep, ThusStep, HenceStep, HerebyStep, SkeletonStep, CasesStep, no_steps, more_steps, steps_of}
use Rattle.mz_tree_proof.specs.SpellReasoning.{spell_compact, spell_statement, spell_step, spell_suppose, spell_step_list}
use Rattle.mz_tree_proof.specs.LevelsReasoning.{levels_statement, levels_step, levels_step_list}
use Rattle.mz_tree_proof.specs.RulesReasoning.{IsStatement, IsStep, AreSteps, MayPrecede}
use Rattle.mz_ptype.proofs.Optional.{never, true_not_false}
use Rattle.mz_pformula.proofs.Begun.{begun, leads_begun}
use Rattle.mz_pformula.proofs.Second.{Seconds, leads_second}
use Rattle.mz_pjustification.specs.declared.keyword.Keyword.{Keyword}
use Rattle.mz_pjustification.specs.declared.keyword.Keyword.TheVariants as keywords
use Rattle.mz_pjustification.specs.Keyword.{keyword_of}
use Rattle.mz_pjustification.specs.Words.{key, keyword, TakesKey}
use Rattle.mz_pjustification.proofs.Keywords.{told_key, keyword_of-key}
use Rattle.mz_pjustification.proofs.Taken.{nowhere, or_goes, key_found}
use Rattle.mz_pstep.specs.Forms.{split_form}
use Rattle.mz_pproof.specs.Classes.{comes, is_suppose_key, is_per_key, is_then_key, is_statement_key, begins_statement, cases_next, is_step_key, begins_step}
use Rattle.mz_pproof.specs.Forms.{reasoning_form, compact_linked, consider_linked, reconsider_linked, Linked, spell_linked, IsLinked, linked_from, IsPlainStep, step_form, suppose_form, cases_form, cases_from}
use Rattle.mz_pproof.proofs.FirstTokens.{no_keyword, unit_not_other}
use Rattle.mz_pproof.proofs.Blocks.{some_suppose}
use Rattle.mz_pproof.proofs.Stated.{compact_begins, compact_filled}
use Rattle.mz_pproof.proofs.Statements.{Starts, then_starts, starts, statement_filled, linked_spells, linked_levels}
use Rattle.mz_pproof.proofs.Steps.{StepStarts, statement_starts, step_starts, step_filled, step_first}
use Rattle.mz_pproof.proofs.Examples.{begun_step}
use Rattle.mz_pproof.proofs.Cases.{behind_split, ends_split, cases_spells, cases_levels, cases_into, split_of, some_cases, some_cases_are}

-- A step, and a reasoning behind it.
abbrev pub with_step : Form MarkedToken
with_step = then step_form (λ _. reasoning_form)

abbrev pub put_step : with_step.Tree → StepList
put_step k = more_steps k.0 k.1

pub step_apart : Apart step_form (λ _. reasoning_form)
step_apart = apart_closed step_form (λ _. reasoning_form) (λ a t. refl)

plain_is : (x : StepData) → IsPlainStep x → IsStep x
plain_is (StatementStep s) is = is
plain_is (ThusStep p c) is = is
plain_is (HenceStep p c) is = is
plain_is (HerebyStep a b c d) is = is
plain_is (SkeletonStep a) is = is
plain_is (CasesStep a b c) is = absurd is

plain_before : (x : StepData) (xs : StepList) → IsPlainStep x → MayPrecede x xs
plain_before (StatementStep s) xs is = tt
plain_before (ThusStep p c) xs is = tt
plain_before (HenceStep p c) xs is = tt
plain_before (HerebyStep a b c d) xs is = tt
plain_before (SkeletonStep a) xs is = tt
plain_before (CasesStep a b c) xs is = absurd is

plain_unless : (x : StepData) → IsStep x → ((a : SplitTree) (b : SupposeData) (c : SupposeList) → x ≡ CasesStep a b c → ⊥) → IsPlainStep x
plain_unless (StatementStep s) is h = is
plain_unless (ThusStep p c) is h = is
plain_unless (HenceStep p c) is h = is
plain_unless (HerebyStep a b c d) is h = is
plain_unless (SkeletonStep a) is h = is
plain_unless (CasesStep a b c) is h = h a b c refl

put_into : (k : with_step.Tree) → with_step.IsTree k → AreSteps (put_step k)
put_into k is = (plain_is k.0 is.0, plain_before k.0 k.1 is.0, is.1)

pub put_goes : (k : with_step.Tree) (t : MarkedToken) → with_step.goes k t ≡ true → (begins_step t || is_suppose_key (keyword_of t)) ≡ true
put_goes k t g = or_goes (begins_step t || is_suppose_key (keyword_of t)) false (is_empty (spell_step_list k.1)) (begins_step t || is_suppose_key (keyword_of t)) (λ h. h) (λ h. absurd (never h)) g

left_nil : (v w : List MarkedToken) → v ++ w ≡ [] → v ≡ []
left_nil [] w e = refl
left_nil (s ∷ v) w e = cc

-- The next step is no split, told by the next token, or by the next two where the first is `then`.
no_split : (a b c : Bool) → (a || (b && c)) ≡ false → b ≡ true → c ≡ true → ⊥
no_split true b c e f g = never (sym e)
no_split false true true e f g = never (sym e)
no_split false true false e f g = never g
no_split false false c e f g = never f

per_off : (a b c : Bool) → (a || (b && c)) ≡ false → a ≡ false
per_off true b c e = cc
per_off false b c e = refl

split_off : (t : MarkedToken) (rest m : List MarkedToken) (o : Option Place) (k : cases_form.Tree) (v : List MarkedToken) → is_per_key (keyword_of t) ≡ false → (keyword_of t ≡ keywords.Then → (q : Place) (w : List MarkedToken) → m ≡ key keywords.Per q ∷ w → ⊥) → spell_step (cases_from o k) ++ v ≡ t ∷ m → ⊥
split_off t rest m None k v off h e =
    let f : key keywords.Per k.0.0 ∷ _ ≡ t ∷ m = sym (ap (λ z. z ++ v) (cases_spells None k)) ∙ e in
    true_not_false (is_per_key (keyword_of t)) off (ap is_per_key (sym (ap keyword_of (head_of _ _ _ _ f)) ∙ keyword_of-key keywords.Per k.0.0 refl))
split_off t rest m (Some p) k v off h e =
    let f : key keywords.Then p ∷ (cases_form.spell k ++ v) ≡ t ∷ m = sym (ap (λ z. z ++ v) (cases_spells (Some p) k)) ∙ e in
    h (sym (ap keyword_of (head_of _ _ _ _ f)) ∙ keyword_of-key keywords.Then p refl) k.0.0 _ (sym (tail_of _ _ _ _ f))

plain_there : (t : MarkedToken) (rest m : List MarkedToken) (x : StepData) (xs : StepList) → is_per_key (keyword_of t) ≡ false → (keyword_of t ≡ keywords.Then → (q : Place) (w : List MarkedToken) → m ≡ key keywords.Per q ∷ w → ⊥) → IsStep x → spell_step x ++ spell_step_list xs ≡ t ∷ m → IsPlainStep x
plain_there t rest m x xs off h is e = plain_unless x is none
  where
    none : (a : SplitTree) (b : SupposeData) (c : SupposeList) → x ≡ CasesStep a b c → ⊥
    none a b c f =
        let Is : StepData → Type 0 = λ z. IsStep z in
        let k = split_of a b c (subst Is f is) in
        split_off t rest m a.then k.tree (spell_step_list xs) off h (ap (λ z. spell_step z ++ spell_step_list xs) (sym (f ∙ k.same)) ∙ e)

only_step : (t : MarkedToken) (rest m : List MarkedToken) (x : StepList) → is_per_key (keyword_of t) ≡ false → (keyword_of t ≡ keywords.Then → (q : Place) (w : List MarkedToken) → m ≡ key keywords.Per q ∷ w → ⊥) → AreSteps x → spell_step_list x ≡ t ∷ m → (k : with_step.Tree) × with_step.IsTree k × (x ≡ put_step k)
only_step t rest m no_steps off h is e = cc
only_step t rest m (more_steps x xs) off h is e = ((x, xs), (plain_there t rest m x xs off h is.0 e, is.2), refl)

pub step_on : (x : StepList) (t : MarkedToken) → begins_step t ≡ true → (begins_step t || is_suppose_key (keyword_of t)) ≡ true
step_on x t h = or_left (begins_step t) (is_suppose_key (keyword_of t)) h

filled_step : (k : with_step.Tree) → with_step.IsTree k → with_step.spell k ≡ [] → ⊥
filled_step k is e = step_filled k.0 is.0 (left_nil (spell_step k.0) (spell_step_list k.1) e)

pub turn_step : (t : MarkedToken) → begins_step t ≡ true → is_per_key (keyword_of t) ≡ false → (keyword_of t ≡ keywords.Then → ⊥) → Turns reasoning_form with_step put_step t
turn_step t h off no_then = record {
  into = λ k is. put_into k is;
  spells = λ k is. refl;
  only = λ x m is e. only_step t [] m x off (λ f q w g. no_then f) is e;
  empty = λ x is e. step_on x t h;
  filled = λ k is e. filled_step k is e;
  goes = λ k s is g. put_goes k s g;
  level = λ k is. refl;
  begins = let some = begun_step t h off in ((some.0, no_steps), some.1 ++ [], (some.2, tt), ap (λ z. z ++ []) some.3);
}

-- behind `then`
then_level : (k : with_step.Tree) (t : MarkedToken) → with_step.IsTree k → keyword_of t ≡ keywords.Then → Agrees (t ∷ []) (with_step.spell k) → get_or (with_step.levels k) 0 0 ≡ 0
then_level k t is h g = go (spell_step k.0) refl
  where
    at : (x : StepData) (m : List MarkedToken) → IsPlainStep x → StepStarts keywords.Then x → spell_step x ≡ t ∷ m → get_or (levels_step x ++ levels_step_list k.1) 0 0 ≡ 0
    at x m i (statement_starts w s j f) e = inside s (let S : Keyword → Type 0 = λ z. Starts z t s in subst S h (starts s t m j e))
      where
        inside : (s : StatementData) → Starts keywords.Then t s → get_or (levels_statement s ++ levels_step_list k.1) 0 0 ≡ 0
        inside s (then_starts u p y q) = ap (λ z. get_or (z ++ levels_step_list k.1) 0 0) (linked_levels (Some p) y)

    go : (w : List MarkedToken) → spell_step k.0 ≡ w → get_or (with_step.levels k) 0 0 ≡ 0
    go [] e = absurd (step_filled k.0 is.0 e)
    go (s ∷ w) e =
        let A : List MarkedToken → Type 0 = λ z. Agrees (t ∷ []) (z ++ spell_step_list k.1) in
        let same : s ≡ t = subst A e g in
        let f : spell_step k.0 ≡ t ∷ w = e ∙ ap (λ z. z ∷ w) same in
        let S : Keyword → Type 0 = λ z. StepStarts z k.0 in
        at k.0 w is.0 (subst S h (step_starts k.0 t w is.0 f)) f

second_off : (t : MarkedToken) (rest m : List MarkedToken) → cases_next (t ∷ rest) ≡ false → Agrees rest m → keyword_of t ≡ keywords.Then → (q : Place) (w : List MarkedToken) → m ≡ key keywords.Per q ∷ w → ⊥
second_off t rest m off agrees h q w e = go rest off (let A : List MarkedToken → Type 0 = λ z. Agrees rest z in subst A e agrees)
  where
    go : (r : List MarkedToken) → cases_next (t ∷ r) ≡ false → Agrees r (key keywords.Per q ∷ w) → ⊥
    go [] n g = g
    go (s ∷ r) n g = no_split (is_per_key (keyword_of t)) (is_then_key (keyword_of t)) (is_per_key (keyword_of s)) n (ap is_then_key h) (ap (λ z. is_per_key (keyword_of z)) (sym g) ∙ ap is_per_key (keyword_of-key keywords.Per q refl))

no_per : (t : MarkedToken) (rest : List MarkedToken) → cases_next (t ∷ rest) ≡ false → is_per_key (keyword_of t) ≡ false
no_per t rest off = per_off (is_per_key (keyword_of t)) (is_then_key (keyword_of t)) (comes (λ n. is_per_key (keyword_of n)) rest) off

some_step : (t : MarkedToken) → begins_step t ≡ true → is_per_key (keyword_of t) ≡ false → Begun with_step t
some_step t h off = let some = begun_step t h off in ((some.0, no_steps), some.1 ++ [], (some.2, tt), ap (λ z. z ++ []) some.3)

looks_step : (t : MarkedToken) (rest : List MarkedToken) → begins_step t ≡ true → cases_next (t ∷ rest) ≡ false → keyword_of t ≡ keywords.Then → Looks reasoning_form (begun with_step t) put_step t rest
looks_step t rest h off is_then = record {
  into = λ k is. put_into k is.0;
  spells = λ k is. refl;
  only = λ x m is e agrees.
      let k = only_step t rest m x (no_per t rest off) (second_off t rest m off agrees) is e in
      let A : List MarkedToken → Type 0 = λ z. Agrees (t ∷ []) z in
      (k.0, (k.1, subst A (sym (ap spell_step_list (sym k.2) ∙ e)) refl), k.2);
  empty = λ x is e. step_on x t h;
  filled = λ k is e. filled_step k is.0 e;
  goes = λ k s is g. put_goes k s g;
  level = λ k is. refl;
  first = λ k is. then_level k t is.0 is_then is.1;
  begins = let some = some_step t h (no_per t rest off) in (some.0, some.1, (some.2, subst (λ (z : List MarkedToken). Agrees (t ∷ []) z) (sym some.3) refl), some.3);
}

pub then_is : (k : Keyword) → is_then_key k ≡ true → k ≡ keywords.Then
then_is keywords.Then e = refl
then_is _ e = cc

begin_step : (room : ℕ) (b : List MarkedToken) → comes begins_step b ≡ true → cases_next b ≡ false → Leads reasoning_form with_step room put_step b b
begin_step room [] h off = absurd (never h)
begin_step room (t ∷ rest) h off = go (is_then_key (keyword_of t)) refl
  where
    go : (i : Bool) → is_then_key (keyword_of t) ≡ i → Leads reasoning_form with_step room put_step (t ∷ rest) (t ∷ rest)
    go false e = leads_turn reasoning_form with_step put_step t (turn_step t h (no_per t rest off) (λ f. true_not_false (is_then_key (keyword_of t)) e (ap is_then_key f))) room (t ∷ rest) rest refl
    go true e = leads_on reasoning_form (begun with_step t) with_step room put_step (λ k. k) (t ∷ rest) (t ∷ rest) (t ∷ rest)
        (leads_look reasoning_form (begun with_step t) put_step t rest (looks_step t rest h off (then_is (keyword_of t) e)) room (t ∷ rest) refl)
        (leads_begun with_step t (some_step t h (no_per t rest off)) rest room (t ∷ rest) refl)

-- A split is the last step.
abbrev pub put_cases : Option Place → cases_form.Tree → StepList
put_cases o k = more_steps (cases_from o k) no_steps

last_step : (a : SplitTree) (b : SupposeData) (c : SupposeList) (xs : StepList) → MayPrecede (CasesStep a b c) xs → xs ≡ no_steps
last_step a b c no_steps h = refl
last_step a b c (more_steps x xs) h = absurd h

then_goes_on : (p r : Bool) → (p || (r && false)) ≡ true → p ≡ true
then_goes_on true r e = refl
then_goes_on false true e = e
then_goes_on false false e = e

cases_goes : (k : cases_form.Tree) (t : MarkedToken) → cases_form.IsTree k → cases_form.goes k t ≡ true → (begins_step t || is_suppose_key (keyword_of t)) ≡ true
cases_goes k t is g = or_goes (behind_split.goes k.1 t) (split_form.goes k.0 t) (is_empty (behind_split.spell k.1)) (begins_step t || is_suppose_key (keyword_of t))
    (λ h. or_right (begins_step t) (is_suppose_key (keyword_of t)) (then_goes_on (is_suppose_key (keyword_of t)) (is_empty (spell_all suppose_form k.1.1)) h))
    (λ h. absurd (ends_split.closed k.0 t is.0 h)) g

pub per_is : (k : Keyword) → is_per_key k ≡ true → k ≡ keywords.Per
per_is keywords.Per e = refl
per_is _ e = cc

put_cases_into : (o : Option Place) (k : cases_form.Tree) → cases_form.IsTree k → AreSteps (put_cases o k)
put_cases_into o k is = (cases_into o k is, tt, tt)

append-nil_right : {X : Type 0} (v : List X) → v ++ [] ≡ v
append-nil_right [] = refl
append-nil_right (x ∷ v) = ap (λ z. x ∷ z) (append-nil_right v)

pub put_cases_spells : (o : Option Place) (k : cases_form.Tree) → spell_step_list (put_cases o k) ≡ reserved_if o (codes "then") ++ cases_form.spell k
put_cases_spells o k = append-nil_right (spell_step (cases_from o k)) ∙ cases_spells o k

put_cases_levels : (o : Option Place) (k : cases_form.Tree) → levels_step_list (put_cases o k) ≡ levels_if o ++ cases_form.levels k
put_cases_levels o k = append-nil_right (levels_step (cases_from o k)) ∙ cases_levels o k

-- without a `then`
only_per : (p : Place) (x : StepList) (m : List MarkedToken) → AreSteps x → spell_step_list x ≡ key keywords.Per p ∷ m → (k : cases_form.Tree) × cases_form.IsTree k × (x ≡ put_cases None k)
only_per p no_steps m is e = cc
only_per p (more_steps x xs) m is e = go x is.0 is.1 e
  where
    plain : (x : StepData) → IsPlainStep x → spell_step x ++ spell_step_list xs ≡ key keywords.Per p ∷ m → (w : List MarkedToken) → spell_step x ≡ w → ⊥
    plain x i f [] g = step_filled x i g
    plain x i f (s ∷ w) g =
        let same : s ≡ key keywords.Per p = head_of _ _ _ _ (ap (λ z. z ++ spell_step_list xs) (sym g) ∙ f) in
        let S : Keyword → Type 0 = λ z. StepStarts z x in
        none x (subst S (ap keyword_of same ∙ keyword_of-key keywords.Per p refl) (step_starts x s w i g))
      where
        none : (x : StepData) → StepStarts keywords.Per x → ⊥
        none x (statement_starts k s j h) = never (sym h)

    split : (a : SplitTree) (b : SupposeData) (c : SupposeList) (o : Option Place) → a.then ≡ o → IsStep (CasesStep a b c) → MayPrecede (CasesStep a b c) xs → spell_step (CasesStep a b c) ++ spell_step_list xs ≡ key keywords.Per p ∷ m → (k : cases_form.Tree) × cases_form.IsTree k × (more_steps (CasesStep a b c) xs ≡ put_cases None k)
    split a b c None t i h f =
        let k = split_of a b c i in
        (k.tree, k.is, ap (λ z. more_steps (CasesStep a b c) z) (last_step a b c xs h) ∙ ap (λ z. more_steps z no_steps) (k.same ∙ ap (λ z. cases_from z k.tree) t))
    split a b c (Some q) t i h f =
        let k = split_of a b c i in
        let g : key keywords.Then q ∷ (cases_form.spell k.tree ++ spell_step_list xs) ≡ key keywords.Per p ∷ m = sym (ap (λ z. z ++ spell_step_list xs) (ap spell_step (k.same ∙ ap (λ z. cases_from z k.tree) t) ∙ cases_spells (Some q) k.tree)) ∙ f in
        absurd (clash (sym (keyword_of-key keywords.Then q refl) ∙ (ap keyword_of (head_of _ _ _ _ g) ∙ keyword_of-key keywords.Per p refl)))
      where
        clash : keywords.Then ≡ keywords.Per → ⊥
        clash d = cc

    go : (x : StepData) → IsStep x → MayPrecede x xs → spell_step x ++ spell_step_list xs ≡ key keywords.Per p ∷ m → (k : cases_form.Tree) × cases_form.IsTree k × (more_steps x xs ≡ put_cases None k)
    go (CasesStep a b c) i h f = split a b c a.then refl i h f
    go (StatementStep s) i h f = absurd (plain (StatementStep s) i f (spell_step (StatementStep s)) refl)
    go (ThusStep q c) i h f = absurd (plain (ThusStep q c) i f (spell_step (ThusStep q c)) refl)
    go (HenceStep q c) i h f = absurd (plain (HenceStep q c) i f (spell_step (HenceStep q c)) refl)
    go (HerebyStep a b c d) i h f = absurd (plain (HerebyStep a b c d) i f (spell_step (HerebyStep a b c d)) refl)
    go (SkeletonStep a) i h f = absurd (plain (SkeletonStep a) i f (spell_step (SkeletonStep a)) refl)

per_on : (x : StepList) (t : MarkedToken) → keyword_of t ≡ keywords.Per → (begins_step t || is_suppose_key (keyword_of t)) ≡ true
per_on x t h = or_left (begins_step t) (is_suppose_key (keyword_of t)) (or_left (is_step_key (keyword_of t)) (begins_statement t) (ap is_step_key h))

pub turn_per : (p : Place) → Turns reasoning_form cases_form (put_cases None) (key keywords.Per p)
turn_per p = record {
  into = λ k is. put_cases_into None k is;
  spells = λ k is. put_cases_spells None k;
  only = λ x m is e. only_per p x m is e;
  empty = λ x is e. per_on x (key keywords.Per p) (keyword_of-key keywords.Per p refl);
  filled = λ k is e. cc;
  goes = λ k t is g. cases_goes k t is g;
  level = λ k is. put_cases_levels None k;
  begins = (some_cases p, _, some_cases_are p, refl);
}

-- behind a `then`
abbrev pub then_cases : Form MarkedToken
then_cases = then (keyword keywords.Then) (λ _. cases_form)

abbrev pub put_then : then_cases.Tree → StepList
put_then k = put_cases (Some k.0) k.1

linked_off : (y : Linked) (v : List MarkedToken) (n : MarkedToken) (m : List MarkedToken) → IsLinked y → keyword_of n ≡ keywords.Per → spell_linked y ++ v ≡ n ∷ m → ⊥
linked_off (compact_linked c) v n m is h e = go (spell_compact c) refl
  where
    clash : keywords.Other ≡ keywords.Per → ⊥
    clash f = cc

    go : (w : List MarkedToken) → spell_compact c ≡ w → ⊥
    go [] f = compact_filled c f
    go (s ∷ w) f =
        let same : s ≡ n = head_of _ _ _ _ (ap (λ z. z ++ v) (sym f) ∙ e) in
        clash (sym (no_keyword s (unit_not_other s (compact_begins c s w is f))) ∙ (ap keyword_of same ∙ h))
linked_off (consider_linked k) v n m is h e = clash (sym (keyword_of-key keywords.Consider k.0 refl) ∙ (ap keyword_of (head_of _ _ _ _ e) ∙ h))
  where
    clash : keywords.Consider ≡ keywords.Per → ⊥
    clash f = cc
linked_off (reconsider_linked k) v n m is h e = clash (sym (keyword_of-key keywords.Reconsider k.0 refl) ∙ (ap keyword_of (head_of _ _ _ _ e) ∙ h))
  where
    clash : keywords.Reconsider ≡ keywords.Per → ⊥
    clash f = cc

only_then_per : (p : Place) (n : MarkedToken) (x : StepList) (m : List MarkedToken) → keyword_of n ≡ keywords.Per → AreSteps x → spell_step_list x ≡ key keywords.Then p ∷ (n ∷ m) → (k : then_cases.Tree) × then_cases.IsTree k × (x ≡ put_then k)
only_then_per p n no_steps m per is e = cc
only_then_per p n (more_steps x xs) m per is e = go x is.0 is.1 e
  where
    inside : (s : StatementData) → Starts keywords.Then (key keywords.Then p) s → spell_statement s ++ spell_step_list xs ≡ key keywords.Then p ∷ (n ∷ m) → ⊥
    inside s (then_starts u q y i) f = linked_off y (spell_step_list xs) n m i per (tail_of _ _ _ _ (sym (ap (λ z. z ++ spell_step_list xs) (linked_spells (Some q) y)) ∙ f))

    statement : (s : StatementData) → IsStatement s → spell_statement s ++ spell_step_list xs ≡ key keywords.Then p ∷ (n ∷ m) → (w : List MarkedToken) → spell_statement s ≡ w → ⊥
    statement s i f [] g = statement_filled s i g
    statement s i f (u ∷ w) g =
        let same : u ≡ key keywords.Then p = head_of _ _ _ _ (ap (λ z. z ++ spell_step_list xs) (sym g) ∙ f) in
        let h : spell_statement s ≡ key keywords.Then p ∷ w = g ∙ ap (λ z. z ∷ w) same in
        let S : Keyword → Type 0 = λ z. Starts z (key keywords.Then p) s in
        inside s (subst S (keyword_of-key keywords.Then p refl) (starts s (key keywords.Then p) w i h)) f

    plain : (x : StepData) → IsPlainStep x → spell_step x ++ spell_step_list xs ≡ key keywords.Then p ∷ (n ∷ m) → (w : List MarkedToken) → spell_step x ≡ w → ⊥
    plain x i f [] g = step_filled x i g
    plain x i f (s ∷ w) g =
        let same : s ≡ key keywords.Then p = head_of _ _ _ _ (ap (λ z. z ++ spell_step_list xs) (sym g) ∙ f) in
        let S : Keyword → Type 0 = λ z. StepStarts z x in
        first x (subst S (ap keyword_of same ∙ keyword_of-key keywords.Then p refl) (step_starts x s w i g)) f
      where
        first : (x : StepData) → StepStarts keywords.Then x → spell_step x ++ spell_step_list xs ≡ key keywords.Then p ∷ (n ∷ m) → ⊥
        first x (statement_starts k s j h) f = statement s j f (spell_statement s) refl

    split : (a : SplitTree) (b : SupposeData) (c : SupposeList) (o : Option Place) → a.then ≡ o → IsStep (CasesStep a b c) → MayPrecede (CasesStep a b c) xs → spell_step (CasesStep a b c) ++ spell_step_list xs ≡ key keywords.Then p ∷ (n ∷ m) → (k : then_cases.Tree) × then_cases.IsTree k × (more_steps (CasesStep a b c) xs ≡ put_then k)
    split a b c (Some q) t i h f =
        let k = split_of a b c i in
        ((q, k.tree), (tt, k.is), ap (λ z. more_steps (CasesStep a b c) z) (last_step a b c xs h) ∙ ap (λ z. more_steps z no_steps) (k.same ∙ ap (λ z. cases_from z k.tree) t))
    split a b c None t i h f =
        let k = split_of a b c i in
        let g : cases_form.spell k.tree ++ spell_step_list xs ≡ key keywords.Then p ∷ (n ∷ m) = sym (ap (λ z. z ++ spell_step_list xs) (ap spell_step (k.same ∙ ap (λ z. cases_from z k.tree) t) ∙ cases_spells None k.tree)) ∙ f in
        absurd (clash (sym (keyword_of-key keywords.Per k.tree.0.0 refl) ∙ (ap keyword_of (head_of _ _ _ _ g) ∙ keyword_of-key keywords.Then p refl)))
      where
        clash : keywords.Per ≡ keywords.Then → ⊥
        clash d = cc

    go : (x : StepData) → IsStep x → MayPrecede x xs → spell_step x ++ spell_step_list xs ≡ key keywords.Then p ∷ (n ∷ m) → (k : then_cases.Tree) × then_cases.IsTree k × (more_steps x xs ≡ put_then k)
    go (CasesStep a b c) i h f = split a b c a.then refl i h f
    go (StatementStep s) i h f = absurd (plain (StatementStep s) i f (spell_step (StatementStep s)) refl)
    go (ThusStep q c) i h f = absurd (plain (ThusStep q c) i f (spell_step (ThusStep q c)) refl)
    go (HenceStep q c) i h f = absurd (plain (HenceStep q c) i f (spell_step (HenceStep q c)) refl)
    go (HerebyStep a b c d) i h f = absurd (plain (HerebyStep a b c d) i f (spell_step (HerebyStep a b c d)) refl)
    go (SkeletonStep a) i h f = absurd (plain (SkeletonStep a) i f (spell_step (SkeletonStep a)) refl)

then_on : (x : StepList) (t : MarkedToken) → keyword_of t ≡ keywords.Then → (begins_step t || is_suppose_key (keyword_of t)) ≡ true
then_on x t h = or_left (begins_step t) (is_suppose_key (keyword_of t)) (or_right (is_step_key (keyword_of t)) (begins_statement t) (or_left (is_statement_key (keyword_of t)) _ (ap is_statement_key h)))

pub put_then_goes : (k : then_cases.Tree) (t : MarkedToken) → then_cases.IsTree k → then_cases.goes k t ≡ true → (begins_step t || is_suppose_key (keyword_of t)) ≡ true
put_then_goes k t is g = cases_goes k.1 t is.1 (then_goes_on (cases_form.goes k.1 t) (is_empty (cases_form.spell k.1)) g)

abbrev behind_per : List MarkedToken
behind_per = key keywords.Cases nowhere ∷ (key keywords.Semicolon nowhere ∷ (spell_suppose (some_suppose nowhere) ++ []))

pub seconds_cases : (p : Place) (n : MarkedToken) → keyword_of n ≡ keywords.Per → Seconds reasoning_form then_cases put_then (key keywords.Then p) n
seconds_cases p n h = record {
  into = λ k is. put_cases_into (Some k.0) k.1 is.1;
  spells = λ k is. put_cases_spells (Some k.0) k.1;
  only = λ x m is e. only_then_per p n x m h is e;
  short = λ x is e. per_on x n h;
  empty = λ x is e. then_on x (key keywords.Then p) (keyword_of-key keywords.Then p refl);
  long = λ k is. (key keywords.Then k.0, key keywords.Per k.1.0.0, _, refl);
  goes = λ k t is g. put_then_goes k t is g;
  level = λ k is. put_cases_levels (Some k.0) k.1;
  first = λ k is. refl;
  begins = ((p, some_cases n.token.place), behind_per, (tt, some_cases_are n.token.place), ap (λ z. key keywords.Then p ∷ (z ∷ behind_per)) (sym (told_key keywords.Per n refl h)));
}

pub begin_cases : (room : ℕ) (o : Option Place) (c d : List MarkedToken) → TakesKey keywords.Then c o d → cases_next c ≡ true → Leads reasoning_form cases_form room (put_cases o) c d
begin_cases room (Some p) c d taken h = go d taken
  where
    per : (z : List MarkedToken) → c ≡ key keywords.Then p ∷ z → comes (λ n. is_per_key (keyword_of n)) z ≡ true
    per z e = and_per (keyword_of (key keywords.Then p)) (keyword_of-key keywords.Then p refl) (let C : List MarkedToken → Type 0 = λ y. cases_next y ≡ true in subst C e h)
      where
        and_per : (k : Keyword) → k ≡ keywords.Then → (is_per_key k || (is_then_key k && comes (λ n. is_per_key (keyword_of n)) z)) ≡ true → comes (λ n. is_per_key (keyword_of n)) z ≡ true
        and_per keywords.Then e f = f
        and_per _ e f = cc

    go : (z : List MarkedToken) → c ≡ key keywords.Then p ∷ z → Leads reasoning_form cases_form room (put_cases (Some p)) c z
    go [] e = absurd (never (per [] e))
    go (n ∷ rest) e = leads_on reasoning_form then_cases cases_form room put_then (beside (keyword keywords.Then) (λ _. cases_form) p) c c (n ∷ rest)
        (leads_second reasoning_form then_cases put_then (key keywords.Then p) n (seconds_cases p n (per_is (keyword_of n) (per (n ∷ rest) e))) room c rest e)
        (behind_word Place (key keywords.Then) (λ _. cases_form) room c (n ∷ rest) p (key_found keywords.Then 0 p c (n ∷ rest) refl e))
begin_cases room None c d none h = let L : List MarkedToken → Type 0 = λ z. Leads reasoning_form cases_form room (put_cases None) c z in subst L none.0 (go c h none.1)
  where
    go : (z : List MarkedToken) → cases_next z ≡ true → ((p : Place) → Agrees z (key keywords.Then p ∷ []) → ⊥) → Leads reasoning_form cases_form room (put_cases None) z z
    go [] e n = absurd (never e)
    go (t ∷ rest) e n =
        let per : keyword_of t ≡ keywords.Per = which (keyword_of t) refl e in
        leads_turn reasoning_form cases_form (put_cases None) (key keywords.Per t.token.place) (turn_per t.token.place) room (t ∷ rest) rest (ap (λ z. z ∷ rest) (told_key keywords.Per t refl per))
      where
        which : (k : Keyword) → keyword_of t ≡ k → (is_per_key k || (is_then_key k && comes (λ n. is_per_key (keyword_of n)) rest)) ≡ true → keyword_of t ≡ keywords.Per
        which keywords.Per f g = f
        which keywords.Then f g = absurd (n t.token.place (sym (told_key keywords.Then t refl f)))
        which _ f g = cc

-- The loop: the steps so far.
abbrev put_all : List StepData → StepList → StepList
put_all [] ts = ts
put_all (x ∷ xs) ts = more_steps x (put_all xs ts)

put_more : (xs : List StepData) (x : StepData) (ts : StepList) → put_all xs (more_steps x ts) ≡ put_all (xs ++ x ∷ []) ts
put_more [] x ts = refl
put_more (y ∷ xs) x ts = ap (λ z. more_steps y z) (put_more xs x ts)

put_none : (xs : List StepData) → put_all xs no_steps ≡ steps_of xs
put_none [] = refl
put_none (x ∷ xs) = ap (λ z. more_steps x z) (put_none xs)

abbrev pub StepsSoFar : ℕ → List StepData → List MarkedToken → List MarkedToken → Type 0
StepsSoFar room xs b c = Leads reasoning_form reasoning_form room (put_all xs) b c

pub steps_none : (room : ℕ) (xs : List StepData) (b : List MarkedToken) → xs ≡ [] → StepsSoFar room xs b b
steps_none room xs b e = let F : List StepData → Type 0 = λ z. StepsSoFar room z b b in subst F (sym e) (leads_here reasoning_form room b)

behind_step : (room : ℕ) (x : StepData) (c d : List MarkedToken) → comes begins_step c ≡ true → cases_next c ≡ false → Found step_form room c x d → Leads reasoning_form reasoning_form room (λ ts. more_steps x ts) c d
behind_step room x c d h off found = leads_on reasoning_form with_step reasoning_form room put_step (beside step_form (λ _. reasoning_form) x) c c d (begin_step room c h off) (leads_behind step_form (λ _. reasoning_form) step_apart room c d x found)

pub steps_step : (room : ℕ) (v w : List StepData) (x : StepData) (b c d : List MarkedToken) → StepsSoFar room v b c → comes begins_step c ≡ true → cases_next c ≡ false → Found step_form room c x d → w ≡ v ++ x ∷ [] → StepsSoFar room w b d
steps_step room v w x b c d so_far h off found grown =
    let F : List StepData → Type 0 = λ z. StepsSoFar room z b d in
    subst F (sym grown) (leads_same reasoning_form reasoning_form room (λ ts. put_all v (more_steps x ts)) (put_all (v ++ x ∷ [])) b d (λ ts. put_more v x ts)
    (leads_on reasoning_form reasoning_form reasoning_form room (put_all v) (λ ts. more_steps x ts) b c d so_far (behind_step room x c d h off found)))

pub step_refused : (room : ℕ) (v : List StepData) (b c after : List MarkedToken) (r : Refusal) → StepsSoFar room v b c → comes begins_step c ≡ true → cases_next c ≡ false → Refuses step_form room c r after → Refuses reasoning_form room b r after
step_refused room v b c after r so_far h off refused = passes reasoning_form reasoning_form room (put_all v) b c after r so_far
    (passes reasoning_form with_step room put_step c c after r (begin_step room c h off) (first_refuses step_form (λ _. reasoning_form) step_apart room c after r (λ a is. (no_steps, tt)) refused))

pub cases_refused : (room : ℕ) (o : Option Place) (v : List StepData) (b c d after : List MarkedToken) (r : Refusal) → StepsSoFar room v b c → cases_next c ≡ true → TakesKey keywords.Then c o d → Refuses cases_form room d r after → Refuses reasoning_form room b r after
cases_refused room o v b c d after r so_far h taken refused = passes reasoning_form reasoning_form room (put_all v) b c after r so_far (passes reasoning_form cases_form room (put_cases o) c d after r (begin_cases room o c d taken h) refused)

pub cases_found : (room : ℕ) (o : Option Place) (v w : List StepData) (x : StepData) (b c d after : List MarkedToken) → StepsSoFar room v b c → cases_next c ≡ true → TakesKey keywords.Then c o d → Builds cases_form room (cases_from o) x d after → w ≡ v ++ x ∷ [] → Found reasoning_form room b (steps_of w) after
cases_found room o v w x b c d after so_far h taken built grown =
    let F : StepList → Type 0 = λ z. Found reasoning_form room b z after in
    let same : put_all v (put_cases o built.0) ≡ steps_of w = ap (λ z. put_all v (more_steps z no_steps)) (sym built.2) ∙ (put_more v x no_steps ∙ (put_none (v ++ x ∷ []) ∙ ap steps_of (sym grown))) in
    subst F same (so_far.finds (put_cases o built.0) after ((begin_cases room o c d taken h).finds built.0 after built.1))

-- What any step begins with.
any_first : (x : StepData) → IsStep x → (t : MarkedToken) (w : List MarkedToken) → spell_step x ≡ t ∷ w → begins_step t ≡ true
any_first (StatementStep s) is t w e = step_first (StatementStep s) t w is e
any_first (ThusStep p k) is t w e = step_first (ThusStep p k) t w is e
any_first (HenceStep p k) is t w e = step_first (HenceStep p k) t w is e
any_first (HerebyStep p k q r) is t w e = step_first (HerebyStep p k q r) t w is e
any_first (SkeletonStep a) is t w e = step_first (SkeletonStep a) t w is e
any_first (CasesStep a x y) is t w e = let k = split_of a x y is in at a.then k.tree (sym (ap spell_step k.same) ∙ e)
  where
    at : (o : Option Place) (k : cases_form.Tree) → spell_step (cases_from o k) ≡ t ∷ w → begins_step t ≡ true
    at None k f = let g : key keywords.Per k.0.0 ∷ _ ≡ t ∷ w = sym (cases_spells None k) ∙ f in
        or_left (is_step_key (keyword_of t)) (begins_statement t) (ap is_step_key (sym (ap keyword_of (head_of _ _ _ _ g)) ∙ keyword_of-key keywords.Per k.0.0 refl))
    at (Some p) k f = let g : key keywords.Then p ∷ cases_form.spell k ≡ t ∷ w = sym (cases_spells (Some p) k) ∙ f in
        or_right (is_step_key (keyword_of t)) (begins_statement t) (or_left (is_statement_key (keyword_of t)) _ (ap is_statement_key (sym (ap keyword_of (head_of _ _ _ _ g)) ∙ keyword_of-key keywords.Then p refl)))

any_filled : (x : StepData) → IsStep x → spell_step x ≡ [] → ⊥
any_filled (StatementStep s) is e = step_filled (StatementStep s) is e
any_filled (ThusStep p k) is e = step_filled (ThusStep p k) is e
any_filled (HenceStep p k) is e = step_filled (HenceStep p k) is e
any_filled (HerebyStep p k q r) is e = step_filled (HerebyStep p k q r) is e
any_filled (SkeletonStep a) is e = step_filled (SkeletonStep a) is e
any_filled (CasesStep a x y) is e = let k = split_of a x y is in at a.then k.tree (sym (ap spell_step k.same) ∙ e)
  where
    at : (o : Option Place) (k : cases_form.Tree) → spell_step (cases_from o k) ≡ [] → ⊥
    at None k f = let g : key keywords.Per k.0.0 ∷ _ ≡ [] = sym (cases_spells None k) ∙ f in cc
    at (Some p) k f = let g : key keywords.Then p ∷ cases_form.spell k ≡ [] = sym (cases_spells (Some p) k) ∙ f in cc

pub filled_steps : (x : StepData) (xs : StepList) → IsStep x → spell_step x ++ spell_step_list xs ≡ [] → ⊥
filled_steps x xs is e = any_filled x is (left_nil (spell_step x) (spell_step_list xs) e)

pub first_step : (x : StepList) (t : MarkedToken) (m : List MarkedToken) → AreSteps x → spell_step_list x ≡ t ∷ m → begins_step t ≡ true
first_step no_steps t m is e = cc
first_step (more_steps x xs) t m is e = go (spell_step x) refl
  where
    go : (w : List MarkedToken) → spell_step x ≡ w → begins_step t ≡ true
    go [] f = absurd (any_filled x is.0 f)
    go (s ∷ w) f =
        let same : s ≡ t = head_of _ _ _ _ (ap (λ z. z ++ spell_step_list xs) (sym f) ∙ e) in
        any_first x is.0 t w (f ∙ ap (λ z. z ∷ w) same)

pub steps_end : (room : ℕ) (v : List StepData) (b c : List MarkedToken) → StepsSoFar room v b c → comes begins_step c ≡ false → Found reasoning_form room b (steps_of v) c
steps_end room v b c so_far off =
    let F : StepList → Type 0 = λ z. Found reasoning_form room b z c in
    subst F (put_none v) (so_far.finds no_steps c (record { found = finds_empty reasoning_form no_steps c tt refl (λ x is g. none x is g); fits = λ i l. absurd (omega (arith, l)) }))
  where
    none : (x : StepList) → AreSteps x → Agrees c (spell_step_list x) → x ≡ no_steps
    none no_steps is g = refl
    none (more_steps x xs) is g = absurd (go c off (spell_step x) refl g)
      where
        go : (c : List MarkedToken) → comes begins_step c ≡ false → (w : List MarkedToken) → spell_step x ≡ w → Agrees c (spell_step x ++ spell_step_list xs) → ⊥
        go c off [] e g = any_filled x is.0 e
        go [] off (t ∷ w) e g = let A : List MarkedToken → Type 0 = λ z. Agrees [] (z ++ spell_step_list xs) in subst A e g
        go (s ∷ c) off (t ∷ w) e g =
            let A : List MarkedToken → Type 0 = λ z. Agrees (s ∷ c) (z ++ spell_step_list xs) in
            let same : t ≡ s = subst A e g in
            true_not_false (begins_step s) off (ap begins_step (sym same) ∙ any_first x is.0 t w e)

pub shorter_step : (room : ℕ) (x : StepData) (c d : List MarkedToken) → Found step_form room c x d → length d < length c
shorter_step room x c d h = go (spell_step x) refl
  where
    go : (w : List MarkedToken) → spell_step x ≡ w → length d < length c
    go [] e = absurd (step_filled x h.found.is e)
    go (t ∷ w) e =
        let f : length c ≡ length (spell_step x ++ d) = ap length h.found.split in
        let g : length (spell_step x ++ d) ≡ length (spell_step x) + length d = length-append (spell_step x) d in
        let i : length (spell_step x) ≡ length (t ∷ w) = ap length e in
        omega (arith, f, g, i)

-- Reasonings that begin with `then`: with a split, or with a statement.
pub record LinkedStep (k : with_step.Tree) : Type 0 where
  pub place : Place
  pub tree : Linked
  pub is : IsLinked tree
  pub spells : with_step.spell k ≡ key keywords.Then place ∷ (spell_linked tree ++ spell_step_list k.1)

pub data ThenKind : StepList → Type 0 where
  splits : {x : StepList} (k : then_cases.Tree) → then_cases.IsTree k → x ≡ put_then k → ThenKind x
  states : {x : StepList} (k : with_step.Tree) → with_step.IsTree k → x ≡ put_step k → LinkedStep k → ThenKind x

pub then_kind : (t : MarkedToken) (x : StepList) (m : List MarkedToken) → keyword_of t ≡ keywords.Then → AreSteps x → spell_step_list x ≡ t ∷ m → ThenKind x
then_kind t no_steps m h is e = cc
then_kind t (more_steps x xs) m h is e = go x is.0 is.1 e
  where
    inside : (s : StatementData) → IsStatement s → Starts keywords.Then t s → ThenKind (more_steps (StatementStep s) xs)
    inside s i (then_starts u q y j) = states (StatementStep (linked_from (Some q) y), xs) (i, is.2) refl (record { place = q; tree = y; is = j; spells = ap (λ z. z ++ spell_step_list xs) (linked_spells (Some q) y) })

    statement : (s : StatementData) → IsStatement s → spell_statement s ++ spell_step_list xs ≡ t ∷ m → (w : List MarkedToken) → spell_statement s ≡ w → ThenKind (more_steps (StatementStep s) xs)
    statement s i f [] g = absurd (statement_filled s i g)
    statement s i f (u ∷ w) g =
        let same : u ≡ t = head_of _ _ _ _ (ap (λ z. z ++ spell_step_list xs) (sym g) ∙ f) in
        let S : Keyword → Type 0 = λ z. Starts z t s in
        inside s i (subst S h (starts s t w i (g ∙ ap (λ z. z ∷ w) same)))

    plain : (x : StepData) → IsPlainStep x → spell_step x ++ spell_step_list xs ≡ t ∷ m → (w : List MarkedToken) → spell_step x ≡ w → ThenKind (more_steps x xs)
    plain x i f [] g = absurd (step_filled x i g)
    plain x i f (s ∷ w) g =
        let same : s ≡ t = head_of _ _ _ _ (ap (λ z. z ++ spell_step_list xs) (sym g) ∙ f) in
        let S : Keyword → Type 0 = λ z. StepStarts z x in
        first x (subst S (ap keyword_of same ∙ h) (step_starts x s w i g)) f
      where
        first : (x : StepData) → StepStarts keywords.Then x → spell_step x ++ spell_step_list xs ≡ t ∷ m → ThenKind (more_steps x xs)
        first x (statement_starts k s j off) f = statement s j f (spell_statement s) refl

    split : (a : SplitTree) (b : SupposeData) (c : SupposeList) (o : Option Place) → a.then ≡ o → IsStep (CasesStep a b c) → MayPrecede (CasesStep a b c) xs → spell_step (CasesStep a b c) ++ spell_step_list xs ≡ t ∷ m → ThenKind (more_steps (CasesStep a b c) xs)
    split a b c (Some q) d i p f =
        let k = split_of a b c i in
        splits (q, k.tree) (tt, k.is) (ap (λ z. more_steps (CasesStep a b c) z) (last_step a b c xs p) ∙ ap (λ z. more_steps z no_steps) (k.same ∙ ap (λ z. cases_from z k.tree) d))
    split a b c None d i p f =
        let k = split_of a b c i in
        let g : cases_form.spell k.tree ++ spell_step_list xs ≡ t ∷ m = sym (ap (λ z. z ++ spell_step_list xs) (ap spell_step (k.same ∙ ap (λ z. cases_from z k.tree) d) ∙ cases_spells None k.tree)) ∙ f in
        absurd (clash (sym (keyword_of-key keywords.Per k.tree.0.0 refl) ∙ (ap keyword_of (head_of _ _ _ _ g) ∙ h)))
      where
        clash : keywords.Per ≡ keywords.Then → ⊥
        clash j = cc

    go : (x : StepData) → IsStep x → MayPrecede x xs → spell_step x ++ spell_step_list xs ≡ t ∷ m → ThenKind (more_steps x xs)
    go (CasesStep a b c) i p f = split a b c a.then refl i p f
    go (StatementStep s) i p f = plain (StatementStep s) i f (spell_step (StatementStep s)) refl
    go (ThusStep q c) i p f = plain (ThusStep q c) i f (spell_step (ThusStep q c)) refl
    go (HenceStep q c) i p f = plain (HenceStep q c) i f (spell_step (HenceStep q c)) refl
    go (HerebyStep a b c d) i p f = plain (HerebyStep a b c d) i f (spell_step (HerebyStep a b c d)) refl
    go (SkeletonStep a) i p f = plain (SkeletonStep a) i f (spell_step (SkeletonStep a)) refl

-- they differ behind it
pub mixed : (k : then_cases.Tree) (w : with_step.Tree) (x y : List MarkedToken) → LinkedStep w → then_cases.spell k ++ x ≡ with_step.spell w ++ y → ⊥
mixed k w x y l e =
    let f : key keywords.Then k.0 ∷ (cases_form.spell k.1 ++ x) ≡ key keywords.Then l.place ∷ ((spell_linked l.tree ++ spell_step_list w.1) ++ y) = e ∙ ap (λ z. z ++ y) l.spells in
    let g : spell_linked l.tree ++ (spell_step_list w.1 ++ y) ≡ cases_form.spell k.1 ++ x = sym (append_assoc (spell_linked l.tree) (spell_step_list w.1) y) ∙ sym (tail_of _ _ _ _ f) in
    linked_off l.tree (spell_step_list w.1 ++ y) (key keywords.Per k.1.0.0) _ l.is (keyword_of-key keywords.Per k.1.0.0 refl) g
