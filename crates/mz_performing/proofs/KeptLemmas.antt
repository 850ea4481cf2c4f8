-- Statements that keep the limits.
use Rattle.std.proofs.Common.{◌≡◌, ℕ, List, [], ◌∷◌, ◌++◌, length, map, Bool, true, false, refl, sym, ap, ◌∙◌, subst, Option, Some, None}
use Rattle.std.specs.Prelude.{if◌then◌else◌}
use Rattle.std.proofs.lemmas.List.{append-nil, append_assoc}
use Rattle.std.proofs.lemmas.Option.{same_Some, none-some}
use Rattle.mz_core.specs.Statement.{Statement}
use Rattle.mz_fits.proofs.FitLemmas.{empty}
use Rattle.mz_sizes.specs.Sizes.{statement_keeps}
use Rattle.mz_walk.specs.Within.{kept_first, all_kept}

-- what was kept so far in front of the others
abbrev pub kept_behind : List Statement → Option (List Statement) → Option (List Statement)
kept_behind out None = None
kept_behind out (Some ss) = Some (out ++ ss)

none_behind : (o : Option (List Statement)) → kept_behind [] o ≡ o
none_behind None = refl
none_behind (Some ss) = refl

-- a statement that isn't kept
pub kept_first-none : (s : Statement) (o : Option (List Statement)) → statement_keeps s ≡ false → kept_first s o ≡ None
kept_first-none s None e = refl
kept_first-none s (Some ss) e = ap (λ b. if b then Some (s ∷ ss) else None) e

-- one that is
pub kept_first-one : (s : Statement) (out : List Statement) (o : Option (List Statement)) → statement_keeps s ≡ true → kept_behind (out ++ s ∷ []) o ≡ kept_behind out (kept_first s o)
kept_first-one s out None e = refl
kept_first-one s out (Some ss) e = ap Some (append_assoc out (s ∷ []) ss) ∙ ap (kept_behind out) (sym (ap (λ b. if b then Some (s ∷ ss) else None) e))

-- along a list
pub kept_begun : (out : List Statement) (o : Option (List Statement)) → out ≡ [] → kept_behind out o ≡ o
kept_begun out o e = ap (λ x. kept_behind x o) e ∙ none_behind o

pub kept_turn : {X : Type 0} (make : X → Statement) (rest others : List X) (x : X) (s : Statement) (out more : List Statement) (b : Bool) (whole : Option (List Statement)) → rest ≡ x ∷ others → s ≡ make x → b ≡ statement_keeps s → b ≡ true → more ≡ out ++ s ∷ [] →
    kept_behind out (all_kept (map make rest)) ≡ whole → kept_behind more (all_kept (map make others)) ≡ whole
kept_turn make rest others x s out more b whole er es eb e1 em h =
    ap (λ y. kept_behind y (all_kept (map make others))) em ∙ (kept_first-one s out (all_kept (map make others)) (sym eb ∙ e1) ∙
    (ap (λ y. kept_behind out (kept_first y (all_kept (map make others)))) es ∙ (ap (λ xs. kept_behind out (all_kept (map make xs))) (sym er) ∙ h)))

pub kept_stop : {X : Type 0} (make : X → Statement) (rest others : List X) (x : X) (s : Statement) (out : List Statement) (b : Bool) (whole : Option (List Statement)) → rest ≡ x ∷ others → s ≡ make x → b ≡ statement_keeps s → b ≡ false →
    kept_behind out (all_kept (map make rest)) ≡ whole → None ≡ whole
kept_stop make rest others x s out b whole er es eb e0 h =
    ap (kept_behind out) (sym (kept_first-none s (all_kept (map make others)) (sym eb ∙ e0))) ∙
    (ap (λ y. kept_behind out (kept_first y (all_kept (map make others)))) es ∙ (ap (λ xs. kept_behind out (all_kept (map make xs))) (sym er) ∙ h))

pub kept_end : {X : Type 0} (make : X → Statement) (rest : List X) (out : List Statement) (whole : Option (List Statement)) → length rest ≡ 0 → kept_behind out (all_kept (map make rest)) ≡ whole → Some out ≡ whole
kept_end make rest out whole er h = ap Some (sym (append-nil out)) ∙ (ap (λ xs. kept_behind out (all_kept (map make xs))) (sym (empty rest er)) ∙ h)

-- what is kept is what was made
kept_by : (b : Bool) (ss ts : List Statement) → (if b then Some ss else None) ≡ Some ts → ts ≡ ss
kept_by true ss ts e = sym (same_Some ss ts e)
kept_by false ss ts e = absurd (none-some ts e)

first_kept : (s : Statement) (o : Option (List Statement)) (ts : List Statement) → kept_first s o ≡ Some ts → (us : List Statement) × (o ≡ Some us) × (ts ≡ s ∷ us)
first_kept s None ts e = absurd (none-some ts e)
first_kept s (Some us) ts e = (us, refl, kept_by (statement_keeps s) (s ∷ us) ts e)

pub all_kept-is : (ss ts : List Statement) → all_kept ss ≡ Some ts → ts ≡ ss
all_kept-is [] ts e = sym (same_Some [] ts e)
all_kept-is (s ∷ ss) ts e = let f = first_kept s (all_kept ss) ts e in f.2 ∙ ap (λ us. s ∷ us) (all_kept-is ss f.0 f.1)
