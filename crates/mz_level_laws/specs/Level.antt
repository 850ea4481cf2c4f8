-- Contexts of an article's own level.
use Rattle.std.specs.Prelude.{◌≡◌, ℕ, true, List, [], None, Ok}
use Rattle.mz_core.specs.Closed.{statement_under}
use Rattle.mz_core.specs.Statement.{Statement}
use Rattle.mz_core.specs.declared.outcome.Left.{Left}
use Rattle.mz_context.specs.Context.{next}
use Rattle.mz_context.specs.declared.context.Context.{Context}
use Rattle.mz_environment.specs.declared.environment.Environment.{Environment}
use Rattle.mz_closed_laws.specs.ClosedEnvironment.{IsClosedEnvironment}
use Rattle.mz_names.specs.Closing.{for_all}
use Rattle.mz_formulas.specs.declared.sentence.Sentence.{Sentence}
use Rattle.mz_resolve.specs.Calls.{SentenceRead}
use Rattle.mz_tree.specs.Trees.{FormulaData}
use Rattle.mz_tree_part.specs.declared.reserve.SegmentTree.{SegmentTree}
use Rattle.mz_reserve.specs.Reserve.{Reserves}
use Rattle.mz_standing.specs.Standing.{no_context}
use Rattle.mz_term_laws.specs.Whole.{IsWhole}
use Rattle.mz_block_laws.specs.Orders.{Stands, AllStand}
use Rattle.mz_whole_laws.specs.WholeLaws.{ReadsWell}

-- it holds nothing with a constant that isn't in force or with a loose index, and `it`, arguments `$1`, `$2`, .. and the subject
-- of a field's type are unknown
pub record IsLevel (c : Context) : Type 0 where
  pub is_whole : IsWhole 0 c
  pub no_it : c.it ≡ None
  pub no_arguments : c.arguments ≡ []
  pub no_subject : c.subject ≡ None

-- so is the context at the start of an article
abbrev pub StartLaw : Type 0
StartLaw = (article : ℕ) → IsLevel (no_context article)

-- by an environment that has no constant and no loose index, what is read there stands, and each change keeps it so
abbrev pub ReadingLaw : Type 0
ReadingLaw = (e : Environment) → IsClosedEnvironment e → ReadsWell e IsLevel

-- so does a reservation
abbrev pub ReservationLaw : Type 0
ReservationLaw =
    (e : Environment) (c d : Context) (left after : Left) (ss : List SegmentTree) → IsClosedEnvironment e → IsLevel c → Reserves e c left ss (Ok d) after → IsLevel d

-- a sentence in which no constant may be used: its variables and its formula stand, and the formula closed over the variables
-- has no constant and no loose index
abbrev pub SentenceLaw : Type 0
SentenceLaw =
    (e : Environment) (c : Context) (left after : Left) (f : FormulaData) (x : Sentence) → IsClosedEnvironment e → IsLevel c → c.thesis ≡ None → SentenceRead e c (next c) left f (Ok x) after →
    AllStand (next c) x.variables x.inner × (x.closed ≡ for_all (next c) x.variables x.inner) × (statement_under 0 x.closed ≡ true)

-- what has no constant and no loose index stands in each context
abbrev pub ClosedLaw : Type 0
ClosedLaw = (n : ℕ) (s : Statement) → statement_under 0 s ≡ true → Stands n s
