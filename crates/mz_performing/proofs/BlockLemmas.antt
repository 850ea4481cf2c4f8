-- What the code of blocks tells.
use Rattle.std.proofs.Common.{◌≡◌, List, [], ◌∷◌, refl, sym, ap, ◌∙◌, subst, Option, Some, None}
use Rattle.mz_core.specs.Statement.{Statement}
use Rattle.mz_context.specs.Changes.{with_constant, mark_of}
use Rattle.mz_context.specs.declared.context.Context.{Context}
use Rattle.mz_context.specs.declared.context.Mark.{Mark}
use Rattle.mz_names.specs.Closing.{constant_of, with_variables}
use Rattle.mz_names.specs.declared.variable.Variable.{Variable}
use Rattle.mz_now.specs.Kept.{IsStated, stated_kept}
use Rattle.mz_now.specs.declared.now_part.NowPart.{NowPart}
use Rattle.mz_steps.specs.Changes.{outside_of, at_start_of_proof}
use Rattle.mz_steps.specs.declared.block.Block.{Block}
use Rattle.mz_steps.specs.declared.block.Block.TheVariants.{Proof, Now}
use Rattle.mz_steps.specs.declared.block.Outside.{Outside}
use Rattle.mz_walk.specs.Walk.{stated_in}

-- variables change neither the statement just before nor the thesis
previous-variables : (c : Context) (vs : List Variable) → (with_variables c vs).previous ≡ c.previous
previous-variables c [] = refl
previous-variables c (v ∷ vs) = previous-variables (with_constant c (constant_of v)) vs

thesis-variables : (c : Context) (vs : List Variable) → (with_variables c vs).thesis ≡ c.thesis
thesis-variables c [] = refl
thesis-variables c (v ∷ vs) = thesis-variables (with_constant c (constant_of v)) vs

pub told_entered : (c d f : Context) (vs : List Variable) (s inner : Statement) → d ≡ with_variables c vs → f ≡ at_start_of_proof d s → s ≡ inner → f ≡ at_start_of_proof (with_variables c vs) inner
told_entered c d f vs s inner ed ef es = ef ∙ (ap (λ x. at_start_of_proof x s) ed ∙ ap (at_start_of_proof (with_variables c vs)) es)

pub record-told_aside : (c d : Context) (vs : List Variable) (m : Mark) (o : Outside) → m ≡ mark_of c → d ≡ with_variables c vs → o ≡ outside_of d → record { mark = m; previous = o.previous; thesis = o.thesis } ≡ outside_of c
record-told_aside c d vs m o em ed eo =
    let ep : o.previous ≡ c.previous = ap (λ x. x.previous) eo ∙ (ap (λ x. x.previous) ed ∙ previous-variables c vs) in
    let et : o.thesis ≡ c.thesis = ap (λ x. x.thesis) eo ∙ (ap (λ x. x.thesis) ed ∙ thesis-variables c vs) in
    λ i. record { mark = em i; previous = ep i; thesis = et i }

pub ruleset enter_rules = (told_entered, record-told_aside)

pub told_no_now : (b : Block) → b ≡ Proof → None ≡ stated_in b
told_no_now b eb = ap stated_in (sym eb)

pub told_now : (b : Block) (ps : List NowPart) (o : Option Statement) → b ≡ Now ps → IsStated ps o → o ≡ stated_in b
told_now b ps o eb h = h.kept ∙ ap stated_in (sym eb)

pub ruleset stated_rules = (told_no_now, told_now)
