-- Which articles are let in with a list of articles: each with its dependencies before it, and once.
use Rattle.std.specs.Prelude.{◌≡◌, ℕ, true, false, nat_eq, if◌then◌else◌, List, [], ◌∷◌, ◌++◌, Option, Some, None}
use Rattle.mz_base.specs.declared.name.Name.{Name}
use Rattle.mz_core.specs.declared.outcome.Export.{Export}
use Rattle.mz_env.specs.Symbols.{is_among}

-- the first export with the name
abbrev pub export_named : List Export → ℕ → Option Export
export_named [] n = None
export_named (e ∷ es) n = if nat_eq e.name.number n then Some e else export_named es n

-- From the articles that were begun, the names lead to those that are begun then and to the exports that are let in, in
-- their order: of each name that wasn't begun, first the dependencies and then its own.
pub data Visits : List Export → List Name → List Name → List Name → List Export → Type 0 where
  no_more : {exports : List Export} {begun : List Name} → Visits exports begun [] begun []
  again : {exports : List Export} {begun later : List Name} {es : List Export} (n : Name) (ns : List Name) → is_among n.number begun ≡ true → Visits exports begun ns later es → Visits exports begun (n ∷ ns) later es
  absent : {exports : List Export} {begun later : List Name} {es : List Export} (n : Name) (ns : List Name) → is_among n.number begun ≡ false → export_named exports n.number ≡ None → Visits exports begun ns later es → Visits exports begun (n ∷ ns) later es
  let_in : {exports : List Export} {begun middle later : List Name} {before after : List Export} (n : Name) (ns : List Name) (e : Export) → is_among n.number begun ≡ false → export_named exports n.number ≡ Some e → Visits exports (begun ++ n ∷ []) e.dependencies middle before → Visits exports middle ns later after → Visits exports begun (n ∷ ns) later (before ++ e ∷ after)
