-- What a symbol applied to arguments is read to.
use Rattle.std.specs.Prelude.{Result, Ok, Err}
use Rattle.mz_base.specs.declared.place.Place.{Place}
use Rattle.mz_core.specs.declared.notation.Meaning.{Meaning}
use Rattle.mz_context.specs.declared.context.Context.{Context}
use Rattle.mz_environment.specs.declared.environment.Environment.{Environment}
use Rattle.mz_choice.specs.Resolution.{typing}
use Rattle.mz_names.specs.declared.refusal.Refusal.{Refusal}
use Rattle.mz_choice.specs.declared.choice.Applied.{Applied}
use Rattle.mz_choice.specs.declared.choice.Wanted.{Wanted}
use Rattle.mz_choice.specs.declared.resolve.Resolution.{Resolution}
use Rattle.mz_choice.specs.Resolution.{Resolves}
use Rattle.mz_applied.specs.Meant.{meant}

-- what it means, or the refusal at the symbol's place
pub data Means (e : Environment) (c : Context) (w : Wanted) (place : Place) (a : Applied) : Result Meaning Refusal → Type 0 where
  means : (o : Resolution) → Resolves (typing e c) e c w a o → Means e c w place a (meant place o)

-- what it is read to in a form: that of what it means
pub data ReadsAs {X : Type 0} (e : Environment) (c : Context) (w : Wanted) (place : Place) (form : Meaning → Result X Refusal) (a : Applied) : Result X Refusal → Type 0 where
  refused : (r : Refusal) → Means e c w place a (Err r) → ReadsAs e c w place form a (Err r)
  reads : (m : Meaning) → Means e c w place a (Ok m) → ReadsAs e c w place form a (form m)
