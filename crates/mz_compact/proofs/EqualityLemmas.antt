-- What the code of equalities tells.
use Rattle.std.proofs.Common.{◌≡◌, ℕ, List, [], ◌∷◌, ◌++◌, length, map, Bool, true, false, sym, ap, ◌∙◌, Option, Some, None}
use Rattle.std.specs.Prelude.{Ok, Err, if◌then◌else◌}
use Rattle.mz_base.specs.declared.place.Place.{Place}
use Rattle.mz_logic.specs.Term.{Term}
use Rattle.mz_core.specs.Statement.{Statement, Eq}
use Rattle.mz_names.specs.Closing.{for_all}
use Rattle.mz_names.specs.declared.refusal.Refusal.TheVariants.{TooLarge}
use Rattle.mz_names.specs.declared.variable.Variable.{Variable}
use Rattle.mz_sizes.specs.Sizes.{statement_keeps}
use Rattle.mz_formulas.specs.declared.sentence.Sentence.{Sentence}
use Rattle.mz_steps.specs.Equalities.{neighbours, last_of}
use Rattle.mz_justified.specs.declared.proof_fault.ProofRefusal.TheVariants.{Resolve}
use Rattle.mz_walk.specs.declared.compact.Said.{Said}
use Rattle.mz_walk.specs.Within.{kept_first, all_kept}
use Rattle.mz_walk.specs.Compact as cp
use Rattle.mz_walk.specs.Compact.{equalities_closed, listed, EqualityMade}
use Rattle.mz_performing.proofs.KeptLemmas.{kept_behind, kept_begun, kept_turn, kept_stop, kept_end, kept_first-none}

-- closed statements
pub kept_behind-told_begun : (n : ℕ) (vs : List Variable) (ss out : List Statement) → out ≡ [] → kept_behind out (all_kept (map (for_all n vs) ss)) ≡ all_kept (map (for_all n vs) ss)
kept_behind-told_begun n vs ss out e = kept_begun out (all_kept (map (for_all n vs) ss)) e

pub kept_behind-told_turn : (n : ℕ) (vs : List Variable) (rest others ss : List Statement) (s copy t : Statement) (out more : List Statement) (b : Bool) → rest ≡ s ∷ others → copy ≡ s → t ≡ for_all n vs copy → b ≡ statement_keeps t → b ≡ true → more ≡ out ++ t ∷ [] →
    kept_behind out (all_kept (map (for_all n vs) rest)) ≡ all_kept (map (for_all n vs) ss) → kept_behind more (all_kept (map (for_all n vs) others)) ≡ all_kept (map (for_all n vs) ss)
kept_behind-told_turn n vs rest others ss s copy t out more b er ec et eb e1 em h = kept_turn (for_all n vs) rest others s t out more b (all_kept (map (for_all n vs) ss)) er (et ∙ ap (for_all n vs) ec) eb e1 em h

pub told_stop : (n : ℕ) (vs : List Variable) (rest others ss : List Statement) (s copy t : Statement) (out : List Statement) (b : Bool) → rest ≡ s ∷ others → copy ≡ s → t ≡ for_all n vs copy → b ≡ statement_keeps t → b ≡ false →
    kept_behind out (all_kept (map (for_all n vs) rest)) ≡ all_kept (map (for_all n vs) ss) → None ≡ all_kept (map (for_all n vs) ss)
told_stop n vs rest others ss s copy t out b er ec et eb e0 h = kept_stop (for_all n vs) rest others s t out b (all_kept (map (for_all n vs) ss)) er (et ∙ ap (for_all n vs) ec) eb e0 h

pub told_end : (n : ℕ) (vs : List Variable) (rest ss out : List Statement) → length rest ≡ 0 → kept_behind out (all_kept (map (for_all n vs) rest)) ≡ all_kept (map (for_all n vs) ss) → Some out ≡ all_kept (map (for_all n vs) ss)
told_end n vs rest ss out er h = kept_end (for_all n vs) rest out (all_kept (map (for_all n vs) ss)) er h

pub ruleset closed_rules = (kept_behind-told_begun, kept_behind-told_turn, told_stop, told_end)

-- in front of others
pub told_not_first : (n : ℕ) (vs : List Variable) (s t : Statement) (further : List Statement) (b : Bool) → t ≡ for_all n vs s → b ≡ statement_keeps t → b ≡ false → None ≡ kept_first (for_all n vs s) (Some further)
told_not_first n vs s t further b et eb e0 = sym (kept_first-none (for_all n vs s) (Some further) (ap statement_keeps (sym et) ∙ (sym eb ∙ e0)))

pub told_first : (n : ℕ) (vs : List Variable) (s t : Statement) (further : List Statement) (b : Bool) → t ≡ for_all n vs s → b ≡ statement_keeps t → b ≡ true → Some (t ∷ further) ≡ kept_first (for_all n vs s) (Some further)
told_first n vs s t further b et eb e1 =
    ap (λ x. Some (x ∷ further)) et ∙ sym (ap (λ c. if c then Some (for_all n vs s ∷ further) else None) (ap statement_keeps (sym et) ∙ (sym eb ∙ e1)))

pub ruleset front_rules = (told_not_first, told_first)

-- all of them
pub told_unsaid : (n : ℕ) (vs : List Variable) (t u : Term) (us : List Term) (more : List Statement) (o : Option (List Statement)) → more ≡ neighbours u us → o ≡ all_kept (map (for_all n vs) more) → o ≡ None → None ≡ all_kept (equalities_closed n vs t u us)
told_unsaid n vs t u us more o em eo e0 = sym (ap (kept_first (for_all n vs (Eq t (last_of u us)))) (ap (λ xs. all_kept (map (for_all n vs) xs)) (sym em) ∙ (sym eo ∙ e0)))

pub listed-told_said : (n : ℕ) (vs : List Variable) (t u v : Term) (us : List Term) (more further : List Statement) (o : Option (List Statement)) (s : Statement) (p : Option Said) → more ≡ neighbours u us → o ≡ all_kept (map (for_all n vs) more) → o ≡ Some further → v ≡ last_of u us → s ≡ Eq t v →
    listed p ≡ kept_first (for_all n vs s) (Some further) → listed p ≡ all_kept (equalities_closed n vs t u us)
listed-told_said n vs t u v us more further o s p em eo e1 ev es h =
    h ∙ (ap (λ x. kept_first (for_all n vs x) (Some further)) (es ∙ ap (Eq t) ev) ∙ ap (kept_first (for_all n vs (Eq t (last_of u us)))) (sym e1 ∙ (eo ∙ ap (λ xs. all_kept (map (for_all n vs) xs)) em)))

pub ruleset said_rules = (told_unsaid, listed-told_said)

-- of a sentence
pub told_equality : (first : Place) (n : ℕ) (x : Sentence) (us : List Term) (t u : Term) (o : Option Said) (p : Said) → x.inner ≡ Eq t u → listed o ≡ all_kept (equalities_closed n x.variables t u us) → o ≡ Some p → EqualityMade first n x us (Ok p)
told_equality first n x us t u o p ei h eo = cp.equality t u p ei (sym h ∙ ap listed eo)

pub told_too_large : (first : Place) (n : ℕ) (x : Sentence) (us : List Term) (t u : Term) (o : Option Said) → x.inner ≡ Eq t u → listed o ≡ all_kept (equalities_closed n x.variables t u us) → o ≡ None → EqualityMade first n x us (Err (Resolve (TooLarge first)))
told_too_large first n x us t u o ei h eo = cp.too_large t u ei (sym h ∙ ap listed eo)

pub ruleset made_rules = (told_equality, told_too_large, cp.no_equation)
