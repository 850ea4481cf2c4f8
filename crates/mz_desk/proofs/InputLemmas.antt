-- What a job and a result are.
use Rattle.std.proofs.Common.{List}
use Rattle.std.specs.Prelude.{Option, Some, None, Result, Ok, Err, IfOk, MatchOption}
use Rattle.mz_corpus.specs.Article.{Article}
use Rattle.mz_turns.specs.Row.{Row}
use Rattle.mz_desk.specs.Job.{Job}
use Rattle.mz_desk.specs.Desk.{IsClaimedFor, IsInputOf, DiffersIn, Stands, Strays}
use Rattle.mz_desk.specs.declared.job.Why.{Why}
use Rattle.mz_desk.specs.declared.job.Why.TheVariants.{NotClaimed, Text, Vocabulary, Export as OfExport}

pub strays_from : (c : List Article) (rows : List Row) (j : Job) (k : IsClaimedFor c rows j) (r : Option Why) → MatchOption r (IsInputOf rows k.article j) (λ why. DiffersIn rows k.article j why) → MatchOption r (Stands c rows j) (λ why. Strays c rows j why)
strays_from c rows j k None m = record { claim = k; input = m }
strays_from c rows j k (Some (NotClaimed s)) m = absurd m
strays_from c rows j k (Some Text) m = (k, m)
strays_from c rows j k (Some (Vocabulary n)) m = (k, m)
strays_from c rows j k (Some (OfExport n)) m = (k, m)

pub both_ok : {X E : Type 0} (r : Result X E) (P Q R : X → Type 0) → ((x : X) → P x → Q x → R x) → IfOk r P → IfOk r Q → IfOk r R
both_ok (Ok x) P Q R f p q = f x p q
both_ok (Err e) P Q R f p q = tt
