-- Files of a shelf.
use Rattle.std.specs.Prelude.{[], ◌∷◌, ◌++◌, codes, ℕ, Bool, true, false, ◌&&◌, ◌==◌, List, Option, find}
use Rattle.std.specs.Option.{option_map}
use Rattle.mz_base.specs.Bytes.{lowered}
use Rattle.mz_base.specs.Name.{text_of}
use Rattle.mz_base.specs.declared.name.Name.{Name}
use Rattle.mz_io.specs.declared.file_kind.FileKind.{FileKind}
use Rattle.mz_io.specs.declared.file_kind.FileKind.TheVariants.{Article, Vocabulary}
use Rattle.mz_io.specs.declared.file.File.{File}

abbrev pub same_kind : FileKind → FileKind → Bool
same_kind Article Article = true
same_kind Article Vocabulary = false
same_kind Vocabulary Article = false
same_kind Vocabulary Vocabulary = true

-- whether a file has this kind and name
abbrev pub is_file : FileKind → Name → File → Bool
is_file kind name file = same_kind file.kind kind && file.name.number == name.number

-- the bytes of a pair: those of the first file with this kind and name
abbrev pub lookup : List File → FileKind → Name → Option (List ℕ)
lookup files kind name = option_map (λ file. file.bytes) (find (is_file kind name) files)

-- how the name of a file ends
abbrev pub extension : FileKind → List ℕ
extension Article = codes ".miz"
extension Vocabulary = codes ".voc"

-- the name of a file: its name in lower case, and what its kind adds
abbrev pub file_name : FileKind → Name → List ℕ
file_name kind name = lowered (text_of name.number) ++ extension kind

-- a file in a folder; a folder without a name is the working folder
abbrev pub path_in : List ℕ → List ℕ → List ℕ
path_in [] file = file
path_in (b ∷ bs) file = b ∷ bs ++ codes "/" ++ file
