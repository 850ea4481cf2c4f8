-- Trees that are read one after another, with what the article has left.
use Rattle.std.specs.Prelude.{List, [], ◌∷◌, ◌++◌, Result, Ok, Err}
use Rattle.mz_core.specs.declared.outcome.Left.{Left}
use Rattle.mz_names.specs.declared.refusal.Refusal.{Refusal}

-- each is read where the one before it has led to, and put behind those that were read. After a refusal anything may be left.
pub data EachRead {T K : Type 0} (one : Left → T → Result K Refusal → Left → Type 0) : Left → List T → List K → Result (List K) Refusal → Left → Type 0 where
  no_more : (left : Left) (before : List K) → EachRead one left [] before (Ok before) left
  one_refused : (left after : Left) (t : T) (ts : List T) (before : List K) (r : Refusal) → one left t (Err r) after → EachRead one left (t ∷ ts) before (Err r) after
  one_read : (left between after : Left) (t : T) (ts : List T) (before : List K) (x : K) (o : Result (List K) Refusal) → one left t (Ok x) between → EachRead one between ts (before ++ x ∷ []) o after →
      EachRead one left (t ∷ ts) before o after
