-- Vocabularies that were found.
use Rattle.std.specs.Prelude.{ℕ, Bool, ◌==◌, List, Option, Some, None, find, flat_map}
use Rattle.std.specs.Option.{option_to_list}
use Rattle.mz_base.specs.declared.name.Name.{Name}
use Rattle.mz_base.specs.NamedText.{NamedText}
use Rattle.mz_corpus.specs.Ascending.{sorted_names}

abbrev pub is_text_of : Name → NamedText → Bool
is_text_of n v = n.number == v.name.number

-- the first vocabulary of the name
abbrev pub text_with : List NamedText → Name → Option NamedText
text_with vs n = find (is_text_of n) vs

abbrev pub with_text : NamedText → Option (List ℕ) → Option NamedText
with_text v None = None
with_text v (Some bytes) = Some v

-- the vocabulary, where it has a text
abbrev pub with_bytes : NamedText → Option NamedText
with_bytes v = with_text v v.text

abbrev pub with_bytes_of : Option NamedText → Option NamedText
with_bytes_of None = None
with_bytes_of (Some v) = with_bytes v

-- the vocabulary of the name, where it has a text
abbrev pub found_by : List NamedText → Name → Option NamedText
found_by vs n = with_bytes_of (text_with vs n)

abbrev pub found_list : List NamedText → Name → List NamedText
found_list vs n = option_to_list (found_by vs n)

-- those of the vocabularies with these names that have a text, in the order of names
abbrev pub found_in : List NamedText → List Name → List NamedText
found_in vs ns = flat_map (found_list vs) (sorted_names ns)
