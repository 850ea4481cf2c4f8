-- Where the fetch of a gathering may fail: before a limit is passed.
use Rattle.std.specs.Prelude.{◌≡◌, ◌<◌, ◌≤◌, ℕ, ◌+◌, false, List, [], ◌∷◌, ◌++◌, length, Some, Ok}
use Rattle.mz_base.specs.declared.name.Name.{Name}
use Rattle.mz_base.specs.declared.head.Directive.{Directive}
use Rattle.mz_io.specs.Count.{counted}
use Rattle.mz_io.specs.File.{lookup}
use Rattle.mz_io.specs.declared.file.File.{File}
use Rattle.mz_io.specs.declared.file_kind.FileKind.TheVariants.{Article}
use Rattle.mz_corpus.specs.Directives.{vocabulary_names_of}
use Rattle.mz_corpus.specs.Gather.{Gathered, HasDirectives, TakesArticle, bytes_after, next_name, is_fetched, with_vocabularies, count_limit, queued, begun}

-- texts were given between two sums of bytes, and the amount rose by them, at most to its last value
pub record Gave (old new bytes sum : ℕ) : Type 0 where
  pub more : ℕ
  pub added : sum ≡ bytes + more
  pub rises : new ≡ counted old more

-- of vocabularies that are fetched in turn the gathering comes, before it passes a limit, to one that wasn't fetched yet
pub record ComesToOne (files : List File) (g : Gathered) (names : List Name) (h : Gathered) : Type 0 where
  pub front : List Name
  pub name : Name
  pub back : List Name
  pub divided : names ≡ front ++ name ∷ back
  pub fetched : with_vocabularies files g front ≡ Ok h
  pub unfetched : is_fetched h.vocabularies name ≡ false
  pub few : length h.vocabularies < count_limit

-- the gathering comes, before it passes a limit, to a fetch, where so much is gathered: to that of the text of the next
-- article, to that of one of this article's vocabularies, or to one of a later article
pub data ComesTo (files : List File) : Gathered → Gathered → Type 0 where
  text : (g : Gathered) (n : Name) → next_name g ≡ Some n → ComesTo files g g
  vocabulary : (g h : Gathered) (n : Name) (bytes : ℕ) (ds : List Directive) → next_name g ≡ Some n → bytes_after n g.bytes (lookup files Article n) ≡ Ok bytes → HasDirectives (lookup files Article n) ds → ComesToOne files (record g { bytes = bytes }) (vocabulary_names_of ds) h → ComesTo files g h
  later : (g h k : Gathered) (n : Name) → next_name g ≡ Some n → TakesArticle files g n (Ok h) → ComesTo files h k → ComesTo files g k

-- a fetch fails before the gathering passes a limit: the gathering of these names comes to that fetch, and the amount rose by the
-- bytes that are gathered there
pub record FailsEarly (files : List File) (names : List Name) (old new : ℕ) : Type 0 where
  pub few : length (queued [] names) ≤ count_limit
  pub at : Gathered
  pub comes : ComesTo files (begun names) at
  pub amount : new ≡ counted old at.bytes
