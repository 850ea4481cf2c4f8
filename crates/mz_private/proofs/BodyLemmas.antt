-- What the code of bodies tells.
use Rattle.std.proofs.Common.{◌≡◌, ◌<◌, ◌+◌, ◌-◌, ℕ, zero, suc, refl, sym, ap, ◌∙◌, subst, arith}
use Rattle.mz_logic.specs.Term.{Term}
use Rattle.mz_logic.specs.Abstraction.{term_over}
use Rattle.mz_core.specs.Statement.{Statement}
use Rattle.mz_core.specs.Abstraction.{statement_over}
use Rattle.mz_private.specs.Bodies.{term_over_places, statement_over_places}

pub told_term_turn : (least left less c : ℕ) (t u goal : Term) → 0 < left → less ≡ left - 1 → c ≡ least + less → u ≡ term_over c 0 t → term_over_places least left t ≡ goal → term_over_places least less u ≡ goal
told_term_turn least zero less c t u goal lt el ec eu h = absurd (omega (arith, lt))
told_term_turn least (suc n) less c t u goal lt el ec eu h =
    let one : less ≡ n = omega (arith, el) in
    ap (λ m. term_over_places least m u) one ∙ (ap (term_over_places least n) (eu ∙ ap (λ m. term_over m 0 t) (ec ∙ ap (λ m. least + m) one)) ∙ h)

pub told_term_end : (least left : ℕ) (t goal : Term) → left ≡ 0 → term_over_places least left t ≡ goal → t ≡ goal
told_term_end least left t goal e h = ap (λ m. term_over_places least m t) (sym e) ∙ h

pub told_statement_turn : (least left less c : ℕ) (s r goal : Statement) → 0 < left → less ≡ left - 1 → c ≡ least + less → r ≡ statement_over c 0 s → statement_over_places least left s ≡ goal → statement_over_places least less r ≡ goal
told_statement_turn least zero less c s r goal lt el ec er h = absurd (omega (arith, lt))
told_statement_turn least (suc n) less c s r goal lt el ec er h =
    let one : less ≡ n = omega (arith, el) in
    ap (λ m. statement_over_places least m r) one ∙ (ap (statement_over_places least n) (er ∙ ap (λ m. statement_over m 0 s) (ec ∙ ap (λ m. least + m) one)) ∙ h)

pub told_statement_end : (least left : ℕ) (s goal : Statement) → left ≡ 0 → statement_over_places least left s ≡ goal → s ≡ goal
told_statement_end least left s goal e h = ap (λ m. statement_over_places least m s) (sym e) ∙ h

pub ruleset body_rules = (told_term_turn, told_term_end, told_statement_turn, told_statement_end)
