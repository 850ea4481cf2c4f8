-- What can be made a corpus.
use Rattle.std.specs.Prelude.{◌≡◌, ◌≤◌, ℕ, Bool, true, false, not, ◌&&◌, ◌||◌, nat_le, List, [], ◌∷◌, Option, Some, None, length, map, AllPairs, Contains, is_some}
use Rattle.std.specs.List.{list_all}
use Rattle.mz_base.specs.declared.name.Name.{Name}
use Rattle.mz_base.specs.Name.{is_built_in}
use Rattle.mz_base.specs.NamedText.{NamedText}
use Rattle.mz_corpus.specs.Article.{Article, source_of}
use Rattle.mz_corpus.specs.Corpus.{Corpus}
use Rattle.mz_corpus.specs.Names.{is_among}
use Rattle.mz_corpus.specs.Source.{Source}

-- whether each name stands once
abbrev pub are_apart : List Name → Bool
are_apart [] = true
are_apart (n ∷ ns) = not (is_among ns n) && are_apart ns

-- whether the name is built in or among the names
abbrev pub is_known : List Name → Name → Bool
is_known ns n = is_built_in n.number || is_among ns n

abbrev pub is_empty : List Name → Bool
is_empty [] = true
is_empty (n ∷ ns) = false

-- whether the article isn't built in, each of its dependencies is built in or one of the names, and it names nothing where
-- it has no text
abbrev pub is_fit_source : List Name → Source → Bool
is_fit_source ns s = not (is_built_in s.name.number) && list_all (is_known ns) s.dependencies && (is_some s.text || (is_empty s.dependencies && is_empty s.vocabulary_names))

abbrev pub source_names : List Source → List Name
source_names ss = map (λ s. s.name) ss

abbrev pub text_names : List NamedText → List Name
text_names vs = map (λ v. v.name) vs

-- whether there are at most 512 articles, their names are distinct, each is fit, and the names of vocabularies are distinct
abbrev pub is_fit : List Source → List NamedText → Bool
is_fit ss vs = nat_le (length ss) 512 && are_apart (source_names ss) && list_all (is_fit_source (source_names ss)) ss && are_apart (text_names vs)

-- the corpus of what was fetched; none where it isn't fit
abbrev pub IsMade : List Source → List NamedText → Option Corpus → Type 0
IsMade ss vs None = is_fit ss vs ≡ false
IsMade ss vs (Some c) = (map source_of c.articles ≡ ss) × (c.vocabularies ≡ vs)

-- what a fit article keeps
pub record IsFitSource (names : List Name) (s : Source) : Type 0 where
  pub not_built_in : is_built_in s.name.number ≡ false
  pub known : (n : Name) → Contains s.dependencies n → is_built_in n.number ≡ false → Contains names n
  pub missing : s.text ≡ None → (s.dependencies ≡ []) × (s.vocabulary_names ≡ [])

-- vocabularies with the same name are the same
abbrev pub AreApart : List NamedText → Type 0
AreApart vs = (v w : NamedText) → Contains vs v → Contains vs w → v.name ≡ w.name → v ≡ w

-- what can be made a corpus
pub record IsFit (ss : List Source) (vs : List NamedText) : Type 0 where
  pub few : length ss ≤ 512
  pub distinct : AllPairs (λ m n. m ≡ n → ⊥) (source_names ss)
  pub each : (s : Source) → Contains ss s → IsFitSource (source_names ss) s
  pub apart : AreApart vs
