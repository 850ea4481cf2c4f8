-- What an order has gathered.
use Rattle.std.specs.Prelude.{◌≡◌, ◌||◌, ℕ, Bool, List, map, Option, Some, None, is_some, Ok, Err}
use Rattle.mz_base.specs.declared.name.Name.{Name}
use Rattle.mz_io.specs.declared.file.File.{File}
use Rattle.mz_words.specs.Words.{Asked}
use Rattle.mz_gen.specs.Made.{AreMadeFiles, AreMadeNames}
use Rattle.mz_corpus.specs.declared.gather_fault.GatherFault.{GatherFault}
use Rattle.mz_corpus.specs.Corpus.{Corpus}
use Rattle.mz_corpus.specs.Failed.{FailsEarly}
use Rattle.mz_corpus.specs.Gather.{Gathered, GatherResult, Gathers, IsCorpusOf}

-- the files from which texts are gathered: those that the shelf tells, or those of so many made articles
abbrev pub AreFiles : Option ℕ → Option (List File) → List File → Type 0
AreFiles None told files = told ≡ Some files
AreFiles (Some n) told files = AreMadeFiles n files

-- the names whose texts are gathered: those with these numbers, or those of so many made articles, in the order of their
-- numbers
abbrev pub AreNames : Option ℕ → List ℕ → List Name → Type 0
AreNames None numbers names = map (λ n. n.number) names ≡ numbers
AreNames (Some n) numbers names = AreMadeNames n names

-- the gathering for an order: what is gathered of its names from its files, or the first limit that is passed
pub record GathersFor (told : Option (List File)) (a : Asked) (r : GatherResult) : Type 0 where
  pub files : List File
  pub are_files : AreFiles a.generate told files
  pub names : List Name
  pub are_names : AreNames a.generate a.names names
  pub gathers : Gathers files names r

-- whether the files of an order are known: the shelf tells them, or they are made ones
abbrev pub is_known : Option (List File) → Asked → Bool
is_known told a = is_some told || is_some a.generate

-- the corpus is the one that is gathered for an order
abbrev pub IsGatheredFor : Option (List File) → Asked → Corpus → Type 0
IsGatheredFor told a c = (g : Gathered) × GathersFor told a (Ok g) × IsCorpusOf g c

-- the gathering for an order passes a limit
abbrev pub PassesLimit : Option (List File) → Asked → Type 0
PassesLimit told a = (fault : GatherFault) × GathersFor told a (Err fault)

-- a fetch for the names of an order fails before their gathering passes a limit, by what the amount says
abbrev pub FailsFor : List File → Asked → ℕ → ℕ → Type 0
FailsFor files a old new = (names : List Name) × (map (λ n. n.number) names ≡ a.names) × FailsEarly files names old new
