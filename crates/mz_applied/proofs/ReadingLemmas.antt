-- What the code of applications tells.
use Rattle.std.proofs.Common.{◌≡◌, sym, subst}
use Rattle.std.specs.Prelude.{Result, Ok, Err}
use Rattle.mz_base.specs.declared.place.Place.{Place}
use Rattle.mz_core.specs.declared.notation.Meaning.{Meaning}
use Rattle.mz_context.specs.declared.context.Context.{Context}
use Rattle.mz_environment.specs.declared.environment.Environment.{Environment}
use Rattle.mz_choice.specs.Resolution.{typing}
use Rattle.mz_names.specs.declared.refusal.Refusal.{Refusal}
use Rattle.mz_choice.specs.declared.choice.Applied.{Applied}
use Rattle.mz_choice.specs.declared.choice.Wanted.{Wanted}
use Rattle.mz_choice.specs.declared.resolve.Resolution.{Resolution}
use Rattle.mz_choice.specs.Resolution.{Resolves}
use Rattle.mz_applied.specs.Meant.{meant}
use Rattle.mz_applied.specs.Reading as re
use Rattle.mz_applied.specs.Reading.{Means, ReadsAs}

pub told_means : (e : Environment) (c : Context) (w : Wanted) (place : Place) (a : Applied) (o : Resolution) (m : Result Meaning Refusal) → Resolves (typing e c) e c w a o → m ≡ meant place o → Means e c w place a m
told_means e c w place a o m h em = subst (Means e c w place a) (sym em) (re.means o h)

pub ruleset means_rules = (told_means)

pub told_refused : {X : Type 0} (e : Environment) (c : Context) (w : Wanted) (place : Place) (form : Meaning → Result X Refusal) (a : Applied) (o : Result Meaning Refusal) (r : Refusal) → Means e c w place a o → o ≡ Err r → ReadsAs e c w place form a (Err r)
told_refused e c w place form a o r h eo = re.refused r (subst (Means e c w place a) eo h)

pub told_reads : {X : Type 0} (e : Environment) (c : Context) (w : Wanted) (place : Place) (form : Meaning → Result X Refusal) (a : Applied) (o : Result Meaning Refusal) (m : Meaning) (x : Result X Refusal) → Means e c w place a o → o ≡ Ok m → x ≡ form m → ReadsAs e c w place form a x
told_reads {X} e c w place form a o m x h eo ex =
    let P : Result X Refusal → Type 0 = λ y. ReadsAs e c w place form a y in
    subst P (sym ex) (re.reads m (subst (Means e c w place a) eo h))

pub ruleset reading_rules = (told_refused, told_reads)
