-- What the code behind a `now` tells.
use Rattle.std.proofs.Common.{◌≡◌, ℕ, List, [], ◌∷◌, Bool, sym, ◌∙◌, subst, Option, Some, None}
use Rattle.std.specs.Prelude.{Result, Ok, Err}
use Rattle.mz_base.specs.declared.place.Place.{Place}
use Rattle.mz_core.specs.Statement.{Statement}
use Rattle.mz_core.specs.declared.outcome.Left.{Left}
use Rattle.mz_context.specs.declared.context.Context.{Context}
use Rattle.mz_context.specs.declared.labelled.LabelledStatement.{LabelledStatement}
use Rattle.mz_environment.specs.declared.environment.Environment.{Environment}
use Rattle.mz_names.specs.declared.refusal.Refusal.TheVariants.{TooLarge}
use Rattle.mz_steps.specs.declared.block.Block.{Block}
use Rattle.mz_steps.specs.declared.read_step.ReadStep.{ReadStep}
use Rattle.mz_justified.specs.Answers.{OnMade}
use Rattle.mz_justified.specs.declared.proof_fault.ProofFault.{ProofFault}
use Rattle.mz_justified.specs.declared.proof_fault.ProofRefusal.{ProofRefusal}
use Rattle.mz_justified.specs.declared.proof_fault.ProofRefusal.TheVariants.{Resolve}
use Rattle.mz_walk.specs.Walked.{state}
use Rattle.mz_walk.specs.Performing.{Performs}
use Rattle.mz_walk.specs.Compact.{stated_under}
use Rattle.mz_walk.specs.Walk.{step_of, stated_in}
use Rattle.mz_walk.specs.Answers.{reached}
use Rattle.mz_performing.specs.Nows as nw
use Rattle.mz_performing.specs.Nows.{StatesNow}
use Rattle.mz_performing.proofs.AnswerLemmas.{on_made}

pub told_said : {X : Type 0} (e : Environment) (first : Place) (c d : Context) (b f : Block) (r r' : ReadStep) (ps qs : List LabelledStatement) (x : Result X ProofFault) → r ≡ r' → ps ≡ qs →
    ((l : Left) → OnMade x (λ o. Performs e first (state c b l) r ps (reached o (state d f l)))) → (l : Left) → OnMade x (λ o. Performs e first (state c b l) r' qs (reached o (state d f l)))
told_said e first c d b f r r' ps qs x er ep h l =
    subst (λ y. OnMade x (λ o. Performs e first (state c b l) r' y (reached o (state d f l)))) ep (subst (λ y. OnMade x (λ o. Performs e first (state c b l) y ps (reached o (state d f l)))) er (h l))

pub ruleset said_rules = (told_said)

pub told_too_large : (e : Environment) (first : Place) (c : Context) (b inside : Block) (concluded : Bool) (label : List ℕ) (o : Option Statement) → o ≡ stated_in inside → o ≡ None → (l : Left) → StatesNow e first (state c b l) concluded label inside (Err (Resolve (TooLarge first)))
told_too_large e first c b inside concluded label o eo e0 l = nw.too_large (sym eo ∙ e0)

pub told_stated : {X : Type 0} (e : Environment) (first : Place) (c d : Context) (b f inside : Block) (concluded : Bool) (label : List ℕ) (o : Option Statement) (s : Statement) (x : Result X ProofFault) → o ≡ stated_in inside → o ≡ Some s →
    ((l : Left) → OnMade x (λ q. Performs e first (state c b l) (step_of concluded s) (stated_under label s ∷ []) (reached q (state d f l)))) → (l : Left) → OnMade x (λ q. StatesNow e first (state c b l) concluded label inside (reached q (state d f l)))
told_stated {X} e first c d b f inside concluded label o s x eo e1 h l =
    let P : Result X ProofRefusal → Type 0 = λ q. Performs e first (state c b l) (step_of concluded s) (stated_under label s ∷ []) (reached q (state d f l)) in
    let R : Result X ProofRefusal → Type 0 = λ q. StatesNow e first (state c b l) concluded label inside (reached q (state d f l)) in
    on_made P R x (h l) (λ y k. nw.stated s (Ok (state d f l)) (sym eo ∙ e1) k) (λ r k. nw.stated s (Err r) (sym eo ∙ e1) k)

pub ruleset now_rules = (told_too_large, told_stated)
