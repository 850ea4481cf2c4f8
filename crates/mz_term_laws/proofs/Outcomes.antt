-- What holds of what is read, where it isn't refused.
use Rattle.std.proofs.Common.{◌≡◌, Bool, true, false, refl, Option, Some, None}
use Rattle.std.specs.Prelude.{if◌then◌else◌, Result, Ok, Err}
use Rattle.std.specs.List.{list_all}
use Rattle.std.proofs.lemmas.Bool.{and_from}
use Rattle.mz_base.specs.declared.place.Place.{Place}
use Rattle.mz_logic.specs.Term.{Term}
use Rattle.mz_core.specs.declared.notation.Meaning.{Meaning}
use Rattle.mz_context.specs.declared.context.Context.{Context}
use Rattle.mz_environment.specs.declared.environment.Environment.{Environment}
use Rattle.mz_types.specs.Known.{typing}
use Rattle.mz_names.specs.Names.{known_or}
use Rattle.mz_names.specs.declared.refusal.Refusal.{Refusal}
use Rattle.mz_names.specs.declared.refusal.Refusal.TheVariants as refusal
use Rattle.mz_choice.specs.Resolution.{Resolves}
use Rattle.mz_choice.specs.declared.choice.Applied.{Applied}
use Rattle.mz_choice.specs.declared.choice.Wanted.{Wanted}
use Rattle.mz_choice.specs.declared.resolve.Resolution.{Resolution}
use Rattle.mz_choice.specs.declared.resolve.Resolution.TheVariants as resolution
use Rattle.mz_applied.specs.Within.{within}
use Rattle.mz_applied.specs.Meant.{meant}
use Rattle.mz_applied.specs.Reading as rd
use Rattle.mz_applied.specs.Reading.{Means, ReadsAs}
use Rattle.mz_terms.specs.Values.{as_list}

-- what was read passes the test
abbrev pub on_ok : {X : Type 0} → (X → Bool) → Result X Refusal → Bool
on_ok p (Err r) = true
on_ok p (Ok x) = p x

abbrev pub if_any : {X : Type 0} → (X → Bool) → Option X → Bool
if_any p None = true
if_any p (Some x) = p x

within_step : {X : Type 0} (p : X → Bool) (first : Place) (x : X) (b : Bool) → p x ≡ true → on_ok p (if b then Ok x else Err (refusal.TooLarge first)) ≡ true
within_step p first x true h = h
within_step p first x false h = refl

pub on_within : {X : Type 0} (p keeps : X → Bool) (first : Place) (x : X) → p x ≡ true → on_ok p (within keeps first x) ≡ true
on_within p keeps first x h = within_step p first x (keeps x) h

pub on_known_or : {X : Type 0} (p : X → Bool) (place : Place) (o : Option X) → if_any p o ≡ true → on_ok p (known_or place o) ≡ true
on_known_or p place None h = refl
on_known_or p place (Some x) h = h

pub on_as_list : (p : Term → Bool) (o : Result Term Refusal) → on_ok p o ≡ true → on_ok (list_all p) (as_list o) ≡ true
on_as_list p (Err r) h = refl
on_as_list p (Ok t) h = and_from (p t) true h refl

-- what a symbol applied to arguments means
abbrev MeansAs : Environment → Context → Wanted → Applied → Result Meaning Refusal → Type 0
MeansAs e c w a (Err r) = Unit {0}
MeansAs e c w a (Ok m) = Resolves (typing e c) e c w a (resolution.ReadsTo m)

meant_as : (e : Environment) (c : Context) (w : Wanted) (place : Place) (a : Applied) (o : Resolution) → Resolves (typing e c) e c w a o → MeansAs e c w a (meant place o)
meant_as e c w place a (resolution.ReadsTo m) h = h
meant_as e c w place a resolution.UnknownSymbol h = tt
meant_as e c w place a resolution.NoNotation h = tt
meant_as e c w place a resolution.UnfitArgument h = tt

means_as : (e : Environment) (c : Context) (w : Wanted) (place : Place) (a : Applied) (o : Result Meaning Refusal) → Means e c w place a o → MeansAs e c w a o
means_as e c w place a o (rd.means p h) = meant_as e c w place a p h

-- what it is read to passes a test, where its meaning's form does
pub on_reads_as : {X : Type 0} (p : X → Bool) (e : Environment) (c : Context) (w : Wanted) (place : Place) (form : Meaning → Result X Refusal) (a : Applied) → ((m : Meaning) → Resolves (typing e c) e c w a (resolution.ReadsTo m) → on_ok p (form m) ≡ true) → (o : Result X Refusal) → ReadsAs e c w place form a o → on_ok p o ≡ true
on_reads_as p e c w place form a f o (rd.refused r h) = refl
on_reads_as p e c w place form a f o (rd.reads m h) = f m (means_as e c w place a (Ok m) h)
