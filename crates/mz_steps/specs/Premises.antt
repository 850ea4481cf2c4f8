-- What a justification is given.
use Rattle.std.specs.Prelude.{Bool, true, false, List, [], ◌∷◌, Option, Some, None}
use Rattle.mz_core.specs.Statement.{Statement}
use Rattle.mz_context.specs.declared.context.Context.{Context}

-- the statement in front of the others; none where there is no statement
abbrev pub in_front : Option Statement → List Statement → Option (List Statement)
in_front None ss = None
in_front (Some s) ss = Some (s ∷ ss)

-- what a justification is given: the cited statements, and behind `then` and `hence` the statement just before in front
-- of them; none where a statement just before is wanted and there is none
abbrev pub given : Bool → Context → List Statement → Option (List Statement)
given false c cited = Some cited
given true c cited = in_front c.previous cited
