-- Each article has one verdict at most, where a checker has one outcome at most.
use Rattle.std.proofs.Common.{◌≡◌, ℕ, List, ◌∷◌, refl, ap, sym, ◌∙◌, subst, true}
use Rattle.std.specs.Prelude.{Some, slice_get}
use Rattle.std.proofs.lemmas.Option.{same_Some}
use Rattle.mz_core.specs.declared.outcome.Export.{Export}
use Rattle.mz_core.specs.declared.outcome.Outcome.{Outcome}
use Rattle.mz_axioms.specs.Checker.{OutcomeRelation, HasOneOutcome}
use Rattle.mz_corpus.specs.Article.{Article}
use Rattle.mz_turns.specs.Row.{Row, Waiting, Accepted, Blocked, is_settled, row_of}
use Rattle.mz_turns.specs.Dependencies.{direct_rows, all_rows, start_row}
use Rattle.mz_turns.specs.Verdicts.{HasVerdict, unchecked, blocked, checked, FirstUnaccepted, here, later, AllAccepted, none, more}
use Rattle.mz_turns.proofs.RowLemmas.{true_false, same_article, not_accepted, same_export}
use Rattle.mz_turns.proofs.ExportLemmas.{library_once}

unchecked_waits : (a b : Article) (x : Row) → a ≡ b → start_row a ≡ x → is_settled x ≡ true → start_row b ≡ Waiting → ⊥
unchecked_waits a b x e s i w = true_false (is_settled x) i (ap is_settled (sym s ∙ (ap start_row e ∙ w)))

same_text : (a b : Article) (t u : List ℕ) → a ≡ b → a.text ≡ Some t → b.text ≡ Some u → t ≡ u
same_text a b t u e h k = same_Some t u (sym h ∙ (ap (λ x. x.text) e ∙ k))

-- the outcome from the same article, exports and text
pub same_outcome : (is_outcome : OutcomeRelation) → HasOneOutcome is_outcome → (a b : Article) (es fs : List Export) (t u : List ℕ) (o p : Outcome) → a ≡ b → es ≡ fs → t ≡ u → is_outcome a.name a.vocabularies es t o → is_outcome b.name b.vocabularies fs u p → o ≡ p
same_outcome is_outcome once a b es fs t u o p ab ef tu h k =
    once b.name b.vocabularies fs u o p (subst (λ x. is_outcome x.name x.vocabularies fs u o) ab (subst (λ xs. is_outcome a.name a.vocabularies xs u o) ef (subst (λ x. is_outcome a.name a.vocabularies es x o) tu h))) k

mutual
  pub verdict_once : (is_outcome : OutcomeRelation) (c : List Article) → HasOneOutcome is_outcome → (r : ℕ) (x y : Row) → HasVerdict is_outcome c r x → HasVerdict is_outcome c r y → x ≡ y
  verdict_once is_outcome c once r x y (unchecked r1 a x1 h s i) (unchecked r2 b y1 k s2 i2) = sym s ∙ (ap start_row (same_article c r a b h k) ∙ s2)
  verdict_once is_outcome c once r x y (unchecked r1 a x1 h s i) (blocked r2 b d n k s2 f at) = absurd (unchecked_waits a b x (same_article c r a b h k) s i s2)
  verdict_once is_outcome c once r x y (unchecked r1 a x1 h s i) (checked r2 b t ds es env o y1 k s2 tx direct all is_env is e) =
      absurd (unchecked_waits a b x (same_article c r a b h k) s i s2)
  verdict_once is_outcome c once r x y (blocked r1 a d m h s f at) (unchecked r2 b y1 k s2 i2) = absurd (unchecked_waits b a y (same_article c r b a k h) s2 i2 s)
  verdict_once is_outcome c once r x y (blocked r1 a d m h s f at) (blocked r2 b d2 n k s2 f2 at2) =
      let same : d ≡ d2 = first_once is_outcome c once (direct_rows c a) d d2 f (subst (λ z. FirstUnaccepted is_outcome c (direct_rows c z) d2) (same_article c r b a k h) f2) in
      ap (λ z. Blocked z.name) (same_article c d m n at (ap (slice_get c) same ∙ at2))
  verdict_once is_outcome c once r x y (blocked r1 a d m h s f at) (checked r2 b t ds es env o y1 k s2 tx direct all is_env is e) =
      absurd (first_all is_outcome c once (direct_rows c a) d ds f (subst (λ z. AllAccepted is_outcome c (direct_rows c z) ds) (same_article c r b a k h) direct))
  verdict_once is_outcome c once r x y (checked r1 a t ds es env o x1 h s tx direct all is_env is e) (unchecked r2 b y1 k s2 i2) =
      absurd (unchecked_waits b a y (same_article c r b a k h) s2 i2 s)
  verdict_once is_outcome c once r x y (checked r1 a t ds es env o x1 h s tx direct all is_env is e) (blocked r2 b d n k s2 f at) =
      absurd (all_first is_outcome c once (direct_rows c a) d ds direct (subst (λ z. FirstUnaccepted is_outcome c (direct_rows c z) d) (same_article c r b a k h) f))
  verdict_once is_outcome c once r x y (checked r1 a t ds es env o x1 h s tx direct all is_env is e) (checked r2 b u ds2 fs env2 p y1 k s2 ux direct2 all2 is_env2 is2 e2) =
      let ab : a ≡ b = same_article c r a b h k in
      let ef : es ≡ fs = all_once is_outcome c once (all_rows c a) es fs all (subst (λ z. AllAccepted is_outcome c (all_rows c z) fs) (sym ab) all2) in
      let same : env ≡ env2 = library_once es fs env env2 ef is_env is_env2 in
      sym e ∙ (ap row_of (same_outcome is_outcome once a b env env2 t u o p ab same (same_text a b t u ab tx ux) is is2) ∙ e2)

  first_once : (is_outcome : OutcomeRelation) (c : List Article) → HasOneOutcome is_outcome → (ds : List ℕ) (d b : ℕ) → FirstUnaccepted is_outcome c ds d → FirstUnaccepted is_outcome c ds b → d ≡ b
  first_once is_outcome c once ds d b (here d1 ds1 x s i) (here d2 ds2 y s2 i2) = refl
  first_once is_outcome c once ds d b (here d1 ds1 x s i) (later d2 ds2 e b2 q f) = absurd (not_accepted x e (verdict_once is_outcome c once d1 x (Accepted e) s q) i)
  first_once is_outcome c once ds d b (later d1 ds1 e d2 q f) (here d3 ds2 x s i) = absurd (not_accepted x e (sym (verdict_once is_outcome c once d1 (Accepted e) x q s)) i)
  first_once is_outcome c once ds d b (later d1 ds1 e d2 q f) (later d3 ds2 e2 b2 q2 f2) = first_once is_outcome c once ds1 d b f f2

  first_all : (is_outcome : OutcomeRelation) (c : List Article) → HasOneOutcome is_outcome → (ds : List ℕ) (d : ℕ) (es : List Export) → FirstUnaccepted is_outcome c ds d → AllAccepted is_outcome c ds es → ⊥
  first_all is_outcome c once ds d es (here d1 ds1 x s i) (more d2 ds2 e es2 q qs) = not_accepted x e (verdict_once is_outcome c once d1 x (Accepted e) s q) i
  first_all is_outcome c once ds d es (later d1 ds1 e b q f) (more d2 ds2 e2 es2 q2 qs) = first_all is_outcome c once ds1 d es2 f qs

  all_first : (is_outcome : OutcomeRelation) (c : List Article) → HasOneOutcome is_outcome → (ds : List ℕ) (d : ℕ) (es : List Export) → AllAccepted is_outcome c ds es → FirstUnaccepted is_outcome c ds d → ⊥
  all_first is_outcome c once ds d es none f = elim f [ ]
  all_first is_outcome c once ds d es (more d1 ds1 e es1 q qs) (here d2 ds2 x s i) = not_accepted x e (sym (verdict_once is_outcome c once d1 (Accepted e) x q s)) i
  all_first is_outcome c once ds d es (more d1 ds1 e es1 q qs) (later d2 ds2 e2 b q2 f) = all_first is_outcome c once ds1 d es1 qs f

  all_once : (is_outcome : OutcomeRelation) (c : List Article) → HasOneOutcome is_outcome → (ds : List ℕ) (es fs : List Export) → AllAccepted is_outcome c ds es → AllAccepted is_outcome c ds fs → es ≡ fs
  all_once is_outcome c once ds es fs none none = refl
  all_once is_outcome c once ds es fs (more d ds1 e es1 q qs) (more d2 ds2 f fs1 q2 qs2) =
      λ i. same_export e f (verdict_once is_outcome c once d (Accepted e) (Accepted f) q q2) i ∷ all_once is_outcome c once ds1 es1 fs1 qs qs2 i
