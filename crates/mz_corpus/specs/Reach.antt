-- How all dependencies are found.
use Rattle.std.specs.Prelude.{◌≡◌, ℕ, ◌+◌, false, not, if◌then◌else◌, List, [], ◌∷◌, fold, map, filter, Contains}
use Rattle.mz_base.specs.declared.name.Name.{Name}
use Rattle.mz_base.specs.Name.{is_built_in}
use Rattle.mz_corpus.specs.Ascending.{sorted_names}
use Rattle.mz_corpus.specs.Corpus.{DependsOn}
use Rattle.mz_corpus.specs.Link.{Link}
use Rattle.mz_corpus.specs.Names.{is_name_of, with_name}
use Rattle.mz_corpus.specs.Source.{Source}

-- the names, in their order, without built-in ones
abbrev pub direct_of : List Name → List Name
direct_of ns = sorted_names (filter (λ n. not (is_built_in n.number)) ns)

abbrev pub link_of_source : Source → Link
link_of_source s = record { name = s.name; direct = direct_of s.dependencies }

-- the names with those of the link's direct dependencies that aren't there yet, where the link is that of the name
abbrev pub with_link : Name → List Name → Link → List Name
with_link name ns l = if is_name_of name l.name then fold with_name ns l.direct else ns

-- each direct dependency is the name of a link
abbrev pub AreKnown : List Link → List Name → Type 0
AreKnown links ns = (n : Name) → Contains ns n → Contains (map (λ l. l.name) links) n

-- the names are exactly those on which an article with these direct dependencies depends
pub record IsComplete (links : List Link) (direct names : List Name) : Type 0 where
  pub depends : (n : Name) → Contains names n → DependsOn links direct n
  pub all : (n : Name) → DependsOn links direct n → Contains names n
