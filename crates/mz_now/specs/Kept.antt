-- What a `now` states within the limits on nodes and depth. What a part makes is tested before it is used: a term that is
-- put for a constant may make a statement many times as large.
use Rattle.std.specs.Prelude.{◌≡◌, ℕ, Bool, nat_lt, if◌then◌else◌, List, [], ◌∷◌, length, map, Option, Some, None}
use Rattle.std.specs.List.{list_all}
use Rattle.mz_core.specs.Statement.{Statement, For}
use Rattle.mz_core.specs.StatementForms.{implication}
use Rattle.mz_core.specs.Abstraction.{statement_over}
use Rattle.mz_core.specs.Parts.{conjunction}
use Rattle.mz_sizes.specs.Sizes.{statement_keeps}
use Rattle.mz_now.specs.Stated.{with_term, stated_by}
use Rattle.mz_now.specs.declared.now_part.NowPart.{NowPart}
use Rattle.mz_now.specs.declared.now_part.NowPart.TheVariants.{Quantifier, Antecedent, Conjunct, Defined, Hidden}

-- one statement alone
abbrev pub alone_kept : Statement → Option (List Statement)
alone_kept s = if statement_keeps s then Some (s ∷ []) else None

-- as many conjuncts as a conjunction has within the limit on depth
abbrev pub most_conjuncts : ℕ
most_conjuncts = 512

abbrev pub in_front_kept : Statement → List Statement → Option (List Statement)
in_front_kept s ss = if nat_lt (length ss) most_conjuncts then Some (s ∷ ss) else None

abbrev pub keeps_with : NowPart → Statement → Bool
keeps_with p s = statement_keeps (with_term p s)

abbrev pub replaced_kept : NowPart → List Statement → Option (List Statement)
replaced_kept p ss = if list_all (keeps_with p) ss then Some (map (with_term p) ss) else None

-- the conjuncts that a part states in front of others
abbrev pub kept_with : NowPart → List Statement → Option (List Statement)
kept_with (Quantifier c ty) ss = alone_kept (For ty (statement_over c 0 (conjunction ss)))
kept_with (Antecedent s) ss = alone_kept (implication s (conjunction ss))
kept_with (Conjunct s) ss = in_front_kept s ss
kept_with (Defined c t) ss = replaced_kept (Defined c t) ss
kept_with (Hidden c) ss = Some ss

abbrev pub in_front_of : NowPart → Option (List Statement) → Option (List Statement)
in_front_of p None = None
in_front_of p (Some ss) = kept_with p ss

-- those of all parts
abbrev pub conjuncts_kept : List NowPart → Option (List Statement)
conjuncts_kept [] = Some []
conjuncts_kept (p ∷ ps) = in_front_of p (conjuncts_kept ps)

abbrev pub whole_kept : List Statement → Option Statement
whole_kept ss = if statement_keeps (conjunction ss) then Some (conjunction ss) else None

abbrev pub whole_of : Option (List Statement) → Option Statement
whole_of None = None
whole_of (Some ss) = whole_kept ss

-- what the parts state, where it keeps the limits
abbrev pub stated_kept : List NowPart → Option Statement
stated_kept ps = whole_of (conjuncts_kept ps)

-- none where the limits are passed, and else what the parts state
pub record IsStated (ps : List NowPart) (o : Option Statement) : Type 0 where
  pub kept : o ≡ stated_kept ps
  pub stated : (s : Statement) → o ≡ Some s → s ≡ stated_by ps
