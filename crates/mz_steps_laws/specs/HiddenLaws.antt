-- Laws of hidden constants: no part that may be said brings one into what a `now` states.
use Rattle.std.specs.Prelude.{◌≡◌, ◌<◌, ◌≤◌, ℕ, suc, true, false, List, [], ◌∷◌, ◌++◌, Contains}
use Rattle.std.specs.List.{list_all}
use Rattle.mz_core.specs.Statement.{Statement}
use Rattle.mz_core.specs.InForce.{statement_in_force}
use Rattle.mz_laws.specs.Lacking.{statement_lacks}
use Rattle.mz_context.specs.declared.context.Context.{Context}
use Rattle.mz_now.specs.Stated.{term_has_hidden, type_has_hidden, has_hidden, conjuncts_of}
use Rattle.mz_now.specs.declared.now_part.NowPart.{NowPart}
use Rattle.mz_now.specs.declared.now_part.NowPart.TheVariants.{Quantifier, Antecedent, Conjunct, Defined, Hidden}
use Rattle.mz_steps.specs.Rows.{parts_said}
use Rattle.mz_steps.specs.Effects.{may_be_said}
use Rattle.mz_steps.specs.declared.read_step.ReadStep.{ReadStep}

-- the part has no hidden constant
abbrev pub MayBeSaid : List NowPart → NowPart → Type 0
MayBeSaid ps (Quantifier c ty) = type_has_hidden ps ty ≡ false
MayBeSaid ps (Antecedent s) = has_hidden ps s ≡ false
MayBeSaid ps (Conjunct s) = has_hidden ps s ≡ false
MayBeSaid ps (Defined c t) = term_has_hidden ps t ≡ false
MayBeSaid ps (Hidden c) = Unit {0}

-- so it is with each of the parts behind those before it
abbrev pub AllSaid : List NowPart → List NowPart → Type 0
AllSaid ps [] = Unit {0}
AllSaid ps (q ∷ qs) = MayBeSaid ps q × AllSaid (ps ++ q ∷ []) qs

-- what a step says that may stand there may be said
abbrev pub StepSaidLaw : Type 0
StepSaidLaw = (ps : List NowPart) (c : Context) (s : ReadStep) → may_be_said ps c s ≡ true → AllSaid ps (parts_said ps c s)

-- one step behind another
abbrev pub MoreSaidLaw : Type 0
MoreSaidLaw = (ps qs rs : List NowPart) → AllSaid ps qs → AllSaid (ps ++ qs) rs → AllSaid ps (qs ++ rs)

-- what is stated behind a hidden constant lacks it
abbrev pub HiddenLaw : Type 0
HiddenLaw = (ps qs : List NowPart) → AllSaid ps qs → (m : ℕ) → Contains ps (Hidden m) → list_all (statement_lacks m) (conjuncts_of qs) ≡ true

-- what lacks the constants from n up to m is in force at n where it is at m
abbrev pub LackingLaw : Type 0
LackingLaw = (n m : ℕ) (s : Statement) → n ≤ m → statement_in_force m s ≡ true → ((k : ℕ) → n ≤ k → k < m → statement_lacks k s ≡ true) → statement_in_force n s ≡ true
