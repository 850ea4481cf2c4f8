-- The made articles.
use Rattle.std.specs.Prelude.{◌≡◌, ℕ, ◌+◌, ◌-◌, ◌/◌, ◌%◌, ◌<◌, ◌==◌, Bool, true, false, not, ◌&&◌, nat_lt, if◌then◌else◌, List, [], ◌∷◌, ◌++◌, length, codes, slice_index_or}
use Rattle.std.specs.List.{flat_map}
use Rattle.mz_base.specs.Name.{text_of}
use Rattle.mz_base.specs.declared.name.Name.{Name}
use Rattle.mz_io.specs.declared.file.File.{File}
use Rattle.mz_io.specs.declared.file_kind.FileKind.TheVariants.{Article}

-- a number below 10,000 in four digits
abbrev pub four_digits : ℕ → List ℕ
four_digits i = (48 + i / 1000 % 10) ∷ (48 + i / 100 % 10) ∷ (48 + i / 10 % 10) ∷ (48 + i % 10) ∷ []

-- the name of article i
unfoldable pub made_name : ℕ → List ℕ
made_name i = 71 ∷ four_digits i

-- the first dependency of article i, for i above 0
abbrev pub first_dependency : ℕ → ℕ
first_dependency i = (i - 1) / 2

-- whether article i has article i - 3 as another dependency
abbrev pub has_second : ℕ → Bool
has_second i = nat_lt 2 i && not (i - 3 == first_dependency i)

-- `, NAME` for the second dependency, where there is one
abbrev pub second_text : ℕ → List ℕ
second_text i = if has_second i then codes ", " ++ made_name (i - 3) else []

-- ` theorems DEPENDENCIES;`
abbrev pub theorems_line : ℕ → List ℕ
theorems_line i = codes " theorems " ++ made_name (first_dependency i) ++ second_text i ++ codes ";\n"

abbrev pub first_theorem_line : List ℕ
first_theorem_line = codes "theorem for x being object holds x = x;\n"

abbrev pub second_theorem : List ℕ
second_theorem = codes "theorem for x,y being object st x = y holds y = x"

-- ` by FIRST:1`
abbrev pub reference : ℕ → List ℕ
reference i = codes " by " ++ made_name (first_dependency i) ++ codes ":1"

-- the text of article i
abbrev pub made_text : ℕ → List ℕ
made_text i =
    if i == 0 then codes "environ\nbegin\n" ++ first_theorem_line ++ second_theorem ++ codes ";\n"
    else codes "environ\n" ++ theorems_line i ++ codes "begin\n" ++ first_theorem_line ++ second_theorem ++ reference i ++ codes ";\n"

-- the file is that of article i
pub record IsMadeFile (i : ℕ) (file : File) : Type 0 where
  pub article : file.kind ≡ Article
  pub named : text_of file.name.number ≡ made_name i
  pub text : file.bytes ≡ made_text i

-- the files are those of the articles 0 to n - 1, in the order of their numbers
pub record AreMadeFiles (n : ℕ) (files : List File) : Type 0 where
  pub whole : length files ≡ n
  pub each : (i : ℕ) (d : File) → i < n → IsMadeFile i (slice_index_or files i d)

-- the names are those of the articles 0 to n - 1, in the order of their numbers
pub record AreMadeNames (n : ℕ) (names : List Name) : Type 0 where
  pub whole : length names ≡ n
  pub each : (i : ℕ) (d : Name) → i < n → text_of (slice_index_or names i d).number ≡ made_name i
