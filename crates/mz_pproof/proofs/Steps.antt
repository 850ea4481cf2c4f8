-- The readings of steps.
use Rattle.std.proofs.Common.{◌≡◌, ℕ, suc, map, arith, true, false, ◌||◌, List, [], ◌∷◌, refl, sym, ap, subst, ◌∙◌, append_assoc, Some, None, Result}
use Rattle.std.proofs.lemmas.Bool.{or_left, or_right}
use Rattle.mz_base.specs.declared.place.Place.{Place}
use Rattle.mz_base.specs.declared.token.MarkedToken.{MarkedToken}
use Rattle.mz_forms.specs.declared.refusal.Refusal.{Refusal}
use Rattle.mz_forms.specs.Form.{Agrees, Found, Leads}
use Rattle.mz_forms.specs.Reading.{Reads, Builds}
use Rattle.mz_forms.proofs.Choose.{Reshapes, Chooses}
use Rattle.mz_forms.proofs.Compose.{head_of}
use Rattle.mz_forms.proofs.Leads.{leads_as, leads_by, gives_through}
use Rattle.mz_tree_proof.specs.declared.skeleton.LetTree.{LetTree}
use Rattle.mz_tree_proof.specs.declared.skeleton.AssumeTree.{AssumeTree}
use Rattle.mz_tree_proof.specs.declared.skeleton.GivenTree.{GivenTree}
use Rattle.mz_tree_proof.specs.declared.skeleton.TakeTree.{TakeTree}
use Rattle.mz_tree_proof.specs.declared.skeleton.SkeletonTree.TheVariants as skeletons
use Rattle.mz_tree_proof.specs.Rules.{IsLet, IsAssume, IsGiven, IsTake}
use Rattle.mz_tree_proof.specs.Reasoning.{CompactData, StatementData, StepData, StatementStep, ThusStep, HenceStep, HerebyStep, SkeletonStep, CasesStep}
use Rattle.mz_tree_proof.specs.SpellReasoning.{spell_statement, spell_step, spell_step_list}
use Rattle.mz_tree_proof.specs.LevelsReasoning.{levels_step, levels_step_list}
use Rattle.mz_tree_proof.specs.RulesReasoning.{IsCompact, IsStatement}
use Rattle.mz_pterm.specs.Sign.{sign_of}
use Rattle.mz_ptype.proofs.Optional.{never}
use Rattle.mz_pformula.specs.Classes.{begins_unit}
use Rattle.mz_pjustification.specs.declared.keyword.Keyword.{Keyword}
use Rattle.mz_pjustification.specs.declared.keyword.Keyword.TheVariants as keywords
use Rattle.mz_pjustification.specs.Keyword.{keyword_of}
use Rattle.mz_pjustification.specs.Words.{is_key, key, TakesKey}
use Rattle.mz_pjustification.proofs.Keywords.{told_key, keyword_of-key, same_key}
use Rattle.mz_pstep.specs.Forms.{let_form, assume_form, given_form, take_form}
use Rattle.mz_pproof.specs.Classes.{comes, KeyComes, is_set, is_statement_key, begins_statement, is_skeleton_key, begins_skeleton, is_conclusion_key, begins_conclusion, is_step_key, begins_step}
use Rattle.mz_pproof.specs.Forms.{compact_form, statement_form, IsPlainStep, step_form, hereby_form, hereby_from, same_step, ReadsHereby}
use Rattle.mz_pproof.proofs.Blocks.{ends_closed_block}
use Rattle.mz_pproof.proofs.Statements.{Starts, then_starts, consider_starts, reconsider_starts, deffunc_starts, defpred_starts, now_starts, set_starts, label_starts, compact_starts, starts, statement_filled}

-- What a statement begins with.
begins_so : (k : Keyword) (t : MarkedToken) (x : StatementData) → keyword_of t ≡ k → Starts k t x → (begins_statement t ≡ true) × (is_step_key k ≡ false)
begins_so k t x e (then_starts u p y is) = (or_left (is_statement_key (keyword_of t)) (is_set t || begins_unit (sign_of t)) (ap is_statement_key e), refl)
begins_so k t x e (consider_starts u y is) = (or_left (is_statement_key (keyword_of t)) (is_set t || begins_unit (sign_of t)) (ap is_statement_key e), refl)
begins_so k t x e (reconsider_starts u y is) = (or_left (is_statement_key (keyword_of t)) (is_set t || begins_unit (sign_of t)) (ap is_statement_key e), refl)
begins_so k t x e (deffunc_starts u a is) = (or_left (is_statement_key (keyword_of t)) (is_set t || begins_unit (sign_of t)) (ap is_statement_key e), refl)
begins_so k t x e (defpred_starts u a is) = (or_left (is_statement_key (keyword_of t)) (is_set t || begins_unit (sign_of t)) (ap is_statement_key e), refl)
begins_so k t x e (now_starts u y is) = (or_left (is_statement_key (keyword_of t)) (is_set t || begins_unit (sign_of t)) (ap is_statement_key e), refl)
begins_so k t x e (set_starts u a is f) = (or_right (is_statement_key (keyword_of t)) (is_set t || begins_unit (sign_of t)) (or_left (is_set t) (begins_unit (sign_of t)) f), refl)
begins_so k t x e (label_starts u l y is f) = (or_right (is_statement_key (keyword_of t)) (is_set t || begins_unit (sign_of t)) (or_right (is_set t) (begins_unit (sign_of t)) (ap begins_unit f)), refl)
begins_so k t x e (compact_starts u c is f) = (or_right (is_statement_key (keyword_of t)) (is_set t || begins_unit (sign_of t)) (or_right (is_set t) (begins_unit (sign_of t)) f), refl)

pub statement_first : (x : StatementData) (t : MarkedToken) (m : List MarkedToken) → IsStatement x → spell_statement x ≡ t ∷ m → begins_statement t ≡ true
statement_first x t m is e = (begins_so (keyword_of t) t x refl (starts x t m is e)).0

-- What a step that is no split begins with.
pub data StepStarts : Keyword → StepData → Type 0 where
  statement_starts : (k : Keyword) (s : StatementData) → IsStatement s → is_step_key k ≡ false → StepStarts k (StatementStep s)
  thus_starts : (p : Place) (c : CompactData) → IsCompact c → StepStarts keywords.Thus (ThusStep p c)
  hence_starts : (p : Place) (c : CompactData) → IsCompact c → StepStarts keywords.Hence (HenceStep p c)
  hereby_starts : (k : hereby_form.Tree) → hereby_form.IsTree k → StepStarts keywords.Hereby (hereby_from k)
  let_starts : (a : LetTree) → IsLet a → StepStarts keywords.Let (SkeletonStep (skeletons.Let a))
  assume_starts : (a : AssumeTree) → IsAssume a → StepStarts keywords.Assume (SkeletonStep (skeletons.Assume a))
  given_starts : (a : GivenTree) → IsGiven a → StepStarts keywords.Given (SkeletonStep (skeletons.Given a))
  take_starts : (a : TakeTree) → IsTake a → StepStarts keywords.Take (SkeletonStep (skeletons.Take a))

step_at : (k : Keyword) (p : Place) (t : MarkedToken) (v m : List MarkedToken) (x : StepData) → is_key k ≡ true → key k p ∷ v ≡ t ∷ m → StepStarts k x → StepStarts (keyword_of t) x
step_at k p t v m x h e s = let S : Keyword → Type 0 = λ z. StepStarts z x in subst S (sym (keyword_of-key k p h) ∙ ap keyword_of (head_of _ _ _ _ e)) s

pub step_starts : (x : StepData) (t : MarkedToken) (m : List MarkedToken) → IsPlainStep x → spell_step x ≡ t ∷ m → StepStarts (keyword_of t) x
step_starts (StatementStep s) t m is e = statement_starts (keyword_of t) s is (begins_so (keyword_of t) t s refl (starts s t m is e)).1
step_starts (ThusStep p c) t m is e = step_at keywords.Thus p t _ m (ThusStep p c) refl e (thus_starts p c is)
step_starts (HenceStep p c) t m is e = step_at keywords.Hence p t _ m (HenceStep p c) refl e (hence_starts p c is)
step_starts (HerebyStep a b c d) t m is e = step_at keywords.Hereby a t _ m (HerebyStep a b c d) refl e (hereby_starts ((a, (b, c)), d) ((tt, (is, tt)), tt))
step_starts (SkeletonStep (skeletons.Let a)) t m is e = step_at keywords.Let a.let_ t _ m (SkeletonStep (skeletons.Let a)) refl e (let_starts a is)
step_starts (SkeletonStep (skeletons.Assume a)) t m is e = step_at keywords.Assume a.assume t _ m (SkeletonStep (skeletons.Assume a)) refl e (assume_starts a is)
step_starts (SkeletonStep (skeletons.Given a)) t m is e = step_at keywords.Given a.given t _ m (SkeletonStep (skeletons.Given a)) refl e (given_starts a is)
step_starts (SkeletonStep (skeletons.Take a)) t m is e = step_at keywords.Take a.take t _ m (SkeletonStep (skeletons.Take a)) refl e (take_starts a is)
step_starts (CasesStep a b c) t m is e = absurd is

pub step_filled : (x : StepData) → IsPlainStep x → spell_step x ≡ [] → ⊥
step_filled (StatementStep s) is e = statement_filled s is e
step_filled (ThusStep p c) is e = cc
step_filled (HenceStep p c) is e = cc
step_filled (HerebyStep a b c d) is e = cc
step_filled (SkeletonStep (skeletons.Let a)) is e = cc
step_filled (SkeletonStep (skeletons.Assume a)) is e = cc
step_filled (SkeletonStep (skeletons.Given a)) is e = cc
step_filled (SkeletonStep (skeletons.Take a)) is e = cc
step_filled (CasesStep a b c) is e = is

pub step_from_token : (b : List MarkedToken) (x : StepData) (P : Type 0) → IsPlainStep x → Agrees b (spell_step x) → ((t : MarkedToken) (rest m : List MarkedToken) → b ≡ t ∷ rest → spell_step x ≡ t ∷ m → StepStarts (keyword_of t) x → P) → P
step_from_token b x P is g continue = go b (spell_step x) refl g continue
  where
    go : (b w : List MarkedToken) → spell_step x ≡ w → Agrees b w → ((t : MarkedToken) (rest m : List MarkedToken) → b ≡ t ∷ rest → spell_step x ≡ t ∷ m → StepStarts (keyword_of t) x → P) → P
    go b [] e g next = absurd (step_filled x is e)
    go [] (s ∷ w) e g next = absurd g
    go (t ∷ b) (s ∷ w) e g next = let f : spell_step x ≡ t ∷ w = e ∙ ap (λ z. z ∷ w) g in next t b w refl f (step_starts x t w is f)

keyed_step : (k : Keyword) (b : List MarkedToken) (x : StepData) → KeyComes k b → IsPlainStep x → Agrees b (spell_step x) → StepStarts k x
keyed_step k b x h is g = step_from_token b x (StepStarts k x) is g (λ t rest m e f s. let S : Keyword → Type 0 = λ z. StepStarts z x in subst S (let K : List MarkedToken → Type 0 = λ z. KeyComes k z in subst K e h) s)

-- The steps of the skeleton.
only_let : (x : StepData) → StepStarts keywords.Let x → (k : LetTree) × IsLet k × (x ≡ SkeletonStep (skeletons.Let k))
only_let x (statement_starts k s is f) = absurd (never (sym f))
only_let x (let_starts a is) = (a, is, refl)

pub as_let : (b : List MarkedToken) → KeyComes keywords.Let b → Reshapes step_form let_form (λ k. SkeletonStep (skeletons.Let k)) b
as_let b h = record { into = λ k is. is; spells = λ k is. refl; only = λ x is g. only_let x (keyed_step keywords.Let b x h is g); goes = λ k t is g. g; level = λ k is. refl }

only_assume : (x : StepData) → StepStarts keywords.Assume x → (k : AssumeTree) × IsAssume k × (x ≡ SkeletonStep (skeletons.Assume k))
only_assume x (statement_starts k s is f) = absurd (never (sym f))
only_assume x (assume_starts a is) = (a, is, refl)

pub as_assume : (b : List MarkedToken) → KeyComes keywords.Assume b → Reshapes step_form assume_form (λ k. SkeletonStep (skeletons.Assume k)) b
as_assume b h = record { into = λ k is. is; spells = λ k is. refl; only = λ x is g. only_assume x (keyed_step keywords.Assume b x h is g); goes = λ k t is g. g; level = λ k is. refl }

only_given : (x : StepData) → StepStarts keywords.Given x → (k : GivenTree) × IsGiven k × (x ≡ SkeletonStep (skeletons.Given k))
only_given x (statement_starts k s is f) = absurd (never (sym f))
only_given x (given_starts a is) = (a, is, refl)

pub as_given : (b : List MarkedToken) → KeyComes keywords.Given b → Reshapes step_form given_form (λ k. SkeletonStep (skeletons.Given k)) b
as_given b h = record { into = λ k is. is; spells = λ k is. refl; only = λ x is g. only_given x (keyed_step keywords.Given b x h is g); goes = λ k t is g. g; level = λ k is. refl }

only_take : (x : StepData) → StepStarts keywords.Take x → (k : TakeTree) × IsTake k × (x ≡ SkeletonStep (skeletons.Take k))
only_take x (statement_starts k s is f) = absurd (never (sym f))
only_take x (take_starts a is) = (a, is, refl)

pub as_take : (b : List MarkedToken) → KeyComes keywords.Take b → Reshapes step_form take_form (λ k. SkeletonStep (skeletons.Take k)) b
as_take b h = record { into = λ k is. is; spells = λ k is. refl; only = λ x is g. only_take x (keyed_step keywords.Take b x h is g); goes = λ k t is g. g; level = λ k is. refl }

pub take_left : (b : List MarkedToken) → comes begins_skeleton b ≡ true → (KeyComes keywords.Let b → ⊥) → (KeyComes keywords.Assume b → ⊥) → (KeyComes keywords.Given b → ⊥) → KeyComes keywords.Take b
take_left [] h l a g = absurd (never h)
take_left (t ∷ b) h l a g = go (keyword_of t) refl h
  where
    go : (k : Keyword) → keyword_of t ≡ k → is_skeleton_key k ≡ true → keyword_of t ≡ keywords.Take
    go keywords.Let e f = absurd (l e)
    go keywords.Assume e f = absurd (a e)
    go keywords.Given e f = absurd (g e)
    go keywords.Take e f = e
    go _ e f = cc

pub begin_let : (room : ℕ) (b : List MarkedToken) → KeyComes keywords.Let b → Leads step_form let_form room (λ k. SkeletonStep (skeletons.Let k)) b b
begin_let room b h = leads_as step_form let_form (λ k. SkeletonStep (skeletons.Let k)) room b (as_let b h)

pub begin_assume : (room : ℕ) (b : List MarkedToken) → KeyComes keywords.Assume b → Leads step_form assume_form room (λ k. SkeletonStep (skeletons.Assume k)) b b
begin_assume room b h = leads_as step_form assume_form (λ k. SkeletonStep (skeletons.Assume k)) room b (as_assume b h)

pub begin_given : (room : ℕ) (b : List MarkedToken) → KeyComes keywords.Given b → Leads step_form given_form room (λ k. SkeletonStep (skeletons.Given k)) b b
begin_given room b h = leads_as step_form given_form (λ k. SkeletonStep (skeletons.Given k)) room b (as_given b h)

pub begin_take : (room : ℕ) (b : List MarkedToken) → KeyComes keywords.Take b → Leads step_form take_form room (λ k. SkeletonStep (skeletons.Take k)) b b
begin_take room b h = leads_as step_form take_form (λ k. SkeletonStep (skeletons.Take k)) room b (as_take b h)

-- Conclusions.
only_thus : (p : Place) (x : StepData) (m : List MarkedToken) → StepStarts keywords.Thus x → spell_step x ≡ key keywords.Thus p ∷ m → (c : CompactData) × IsCompact c × (x ≡ ThusStep p c)
only_thus p x m (statement_starts k s is f) e = absurd (never (sym f))
only_thus p x m (thus_starts q c is) e = (c, is, ap (λ z. ThusStep z c) (same_key keywords.Thus refl q p (head_of _ _ _ _ e)))

pub by_thus : (p : Place) → Chooses step_form (key keywords.Thus p) compact_form (λ c. ThusStep p c) 0
by_thus p = record {
  level = λ k is. refl;
  into = λ k is. is;
  spells = λ k is. refl;
  only = λ x m is e. only_thus p x m (let S : Keyword → Type 0 = λ z. StepStarts z x in subst S (keyword_of-key keywords.Thus p refl) (step_starts x (key keywords.Thus p) m is e)) e;
  empty = λ x is e. absurd (step_filled x is e);
  goes = λ k t is g. g;
}

pub take_thus : (room : ℕ) (p : Place) (b c : List MarkedToken) → TakesKey keywords.Thus b (Some p) c → Leads step_form compact_form room (λ k. ThusStep p k) b c
take_thus room p b c e = leads_by step_form (key keywords.Thus p) compact_form (λ k. ThusStep p k) 0 (by_thus p) room (omega arith) b c e

only_hence : (p : Place) (x : StepData) (m : List MarkedToken) → StepStarts keywords.Hence x → spell_step x ≡ key keywords.Hence p ∷ m → (c : CompactData) × IsCompact c × (x ≡ HenceStep p c)
only_hence p x m (statement_starts k s is f) e = absurd (never (sym f))
only_hence p x m (hence_starts q c is) e = (c, is, ap (λ z. HenceStep z c) (same_key keywords.Hence refl q p (head_of _ _ _ _ e)))

pub by_hence : (p : Place) → Chooses step_form (key keywords.Hence p) compact_form (λ c. HenceStep p c) 0
by_hence p = record {
  level = λ k is. refl;
  into = λ k is. is;
  spells = λ k is. refl;
  only = λ x m is e. only_hence p x m (let S : Keyword → Type 0 = λ z. StepStarts z x in subst S (keyword_of-key keywords.Hence p refl) (step_starts x (key keywords.Hence p) m is e)) e;
  empty = λ x is e. absurd (step_filled x is e);
  goes = λ k t is g. g;
}

pub take_hence : (room : ℕ) (p : Place) (b c d : List MarkedToken) → TakesKey keywords.Thus b None c → TakesKey keywords.Hence c (Some p) d → Leads step_form compact_form room (λ k. HenceStep p k) b d
take_hence room p b c d h e = let L : List MarkedToken → Type 0 = λ z. Leads step_form compact_form room (λ k. HenceStep p k) z d in subst L (sym h.0) (leads_by step_form (key keywords.Hence p) compact_form (λ k. HenceStep p k) 0 (by_hence p) room (omega arith) c d e)

only_hereby : (x : StepData) → StepStarts keywords.Hereby x → (k : hereby_form.Tree) × hereby_form.IsTree k × (x ≡ hereby_from k)
only_hereby x (statement_starts k s is f) = absurd (never (sym f))
only_hereby x (hereby_starts k is) = (k, is, refl)

hereby_spells : (k : hereby_form.Tree) → spell_step (hereby_from k) ≡ hereby_form.spell k
hereby_spells k = ap (λ z. key keywords.Hereby k.0.0 ∷ z) (sym (append_assoc (spell_step_list k.0.1.0) (key keywords.End k.0.1.1 ∷ []) (key keywords.Semicolon k.1 ∷ [])))

hereby_levels : (k : hereby_form.Tree) → levels_step (hereby_from k) ≡ hereby_form.levels k
hereby_levels k = ap (λ z. 1 ∷ z) (sym (append_assoc (map suc (levels_step_list k.0.1.0)) (0 ∷ []) (0 ∷ [])))

pub as_hereby : (b : List MarkedToken) → KeyComes keywords.Hereby b → Reshapes step_form hereby_form hereby_from b
as_hereby b h = record {
  into = λ k is. is.0.1.0;
  spells = λ k is. hereby_spells k;
  only = λ x is g. only_hereby x (keyed_step keywords.Hereby b x h is g);
  goes = λ k t is g. absurd ((ends_closed_block keywords.Hereby).closed k t is g);
  level = λ k is. hereby_levels k;
}

not_taken : (k : Keyword) (b : List MarkedToken) → is_key k ≡ true → ((p : Place) → Agrees b (key k p ∷ []) → ⊥) → KeyComes k b → ⊥
not_taken k [] h n e = e
not_taken k (t ∷ b) h n e = n t.token.place (sym (told_key k t h e))

pub hereby_left : (b c d : List MarkedToken) → comes begins_conclusion b ≡ true → TakesKey keywords.Thus b None c → TakesKey keywords.Hence c None d → (KeyComes keywords.Hereby d) × (b ≡ d)
hereby_left b c d h f g = (subst (λ (z : List MarkedToken). KeyComes keywords.Hereby z) (f.0 ∙ g.0) (left b h (not_taken keywords.Thus b refl f.1) (not_taken keywords.Hence b refl (let N : List MarkedToken → Type 0 = λ z. (p : Place) → Agrees z (key keywords.Hence p ∷ []) → ⊥ in subst N (sym f.0) g.1))), f.0 ∙ g.0)
  where
    left : (z : List MarkedToken) → comes begins_conclusion z ≡ true → (KeyComes keywords.Thus z → ⊥) → (KeyComes keywords.Hence z → ⊥) → KeyComes keywords.Hereby z
    left [] h t n = absurd (never h)
    left (s ∷ z) h t n = go (keyword_of s) refl h
      where
        go : (k : Keyword) → keyword_of s ≡ k → is_conclusion_key k ≡ true → keyword_of s ≡ keywords.Hereby
        go keywords.Thus e i = absurd (t e)
        go keywords.Hence e i = absurd (n e)
        go keywords.Hereby e i = e
        go _ e i = cc

pub begin_hereby : (room : ℕ) (b d : List MarkedToken) → (KeyComes keywords.Hereby d) × (b ≡ d) → Leads step_form hereby_form room hereby_from b d
begin_hereby room b d h = let L : List MarkedToken → Type 0 = λ z. Leads step_form hereby_form room hereby_from z d in subst L (sym h.1) (leads_as step_form hereby_form hereby_from room d (as_hereby d h.0))

pub hereby_given : (room : ℕ) (x : StepData) (b d after : List MarkedToken) → (KeyComes keywords.Hereby d) × (b ≡ d) → Builds hereby_form room hereby_from x d after → Found step_form room b x after
hereby_given room x b d after h g = let F : StepData → Type 0 = λ z. Found step_form room b z after in subst F (sym g.2) ((begin_hereby room b d h).finds g.0 after g.1)

-- Any other step is a statement.
only_statement : (k : Keyword) (x : StepData) → is_skeleton_key k ≡ false → is_conclusion_key k ≡ false → StepStarts k x → (s : StatementData) × IsStatement s × (x ≡ StatementStep s)
only_statement k x h g (statement_starts j s is f) = (s, is, refl)
only_statement k x h g (thus_starts p c is) = absurd (never (sym g))
only_statement k x h g (hence_starts p c is) = absurd (never (sym g))
only_statement k x h g (hereby_starts y is) = absurd (never (sym g))
only_statement k x h g (let_starts a is) = absurd (never (sym h))
only_statement k x h g (assume_starts a is) = absurd (never (sym h))
only_statement k x h g (given_starts a is) = absurd (never (sym h))
only_statement k x h g (take_starts a is) = absurd (never (sym h))

pub as_statement : (b : List MarkedToken) → comes begins_skeleton b ≡ false → comes begins_conclusion b ≡ false → Reshapes step_form statement_form (λ s. StatementStep s) b
as_statement b h g = record {
  into = λ k is. is;
  spells = λ k is. refl;
  only = λ x is a. step_from_token b x ((s : StatementData) × IsStatement s × (x ≡ StatementStep s)) is a
      (λ t rest m e f s. only_statement (keyword_of t) x (let C : List MarkedToken → Type 0 = λ z. comes begins_skeleton z ≡ false in subst C e h) (let C : List MarkedToken → Type 0 = λ z. comes begins_conclusion z ≡ false in subst C e g) s);
  goes = λ k t is a. a;
  level = λ k is. refl;
}

pub begin_statement : (room : ℕ) (b : List MarkedToken) → comes begins_skeleton b ≡ false → comes begins_conclusion b ≡ false → Leads step_form statement_form room (λ s. StatementStep s) b b
begin_statement room b h g = leads_as step_form statement_form (λ s. StatementStep s) room b (as_statement b h g)

-- What a step begins with.
pub step_first : (x : StepData) (t : MarkedToken) (m : List MarkedToken) → IsPlainStep x → spell_step x ≡ t ∷ m → begins_step t ≡ true
step_first x t m is e = go (keyword_of t) x refl (step_starts x t m is e) e is
  where
    go : (k : Keyword) (x : StepData) → keyword_of t ≡ k → StepStarts k x → spell_step x ≡ t ∷ m → IsPlainStep x → begins_step t ≡ true
    go k x f (statement_starts j s i h) g is = or_right (is_step_key (keyword_of t)) (begins_statement t) (statement_first s t m i g)
    go k x f (thus_starts p c i) g is = or_left (is_step_key (keyword_of t)) (begins_statement t) (ap is_step_key f)
    go k x f (hence_starts p c i) g is = or_left (is_step_key (keyword_of t)) (begins_statement t) (ap is_step_key f)
    go k x f (hereby_starts y i) g is = or_left (is_step_key (keyword_of t)) (begins_statement t) (ap is_step_key f)
    go k x f (let_starts a i) g is = or_left (is_step_key (keyword_of t)) (begins_statement t) (ap is_step_key f)
    go k x f (assume_starts a i) g is = or_left (is_step_key (keyword_of t)) (begins_statement t) (ap is_step_key f)
    go k x f (given_starts a i) g is = or_left (is_step_key (keyword_of t)) (begins_statement t) (ap is_step_key f)
    go k x f (take_starts a i) g is = or_left (is_step_key (keyword_of t)) (begins_statement t) (ap is_step_key f)

-- as it is given on
pub hereby_from_here : (room : ℕ) (b d after : List MarkedToken) (res : Result StepData Refusal) → (KeyComes keywords.Hereby d) × (b ≡ d) → ReadsHereby room d res after → Reads step_form room same_step b res after
hereby_from_here room b d after res h g = gives_through step_form hereby_form room (λ x. Found step_form room b x after) (λ x. Builds hereby_form room hereby_from x d after) hereby_from b d after res (λ x k. hereby_given room x b d after h k) (begin_hereby room b d h) g
