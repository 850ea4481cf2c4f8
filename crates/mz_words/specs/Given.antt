-- The order that given values and names make, where they make one.
use Rattle.std.specs.Prelude.{◌≡◌, ℕ, nat_le, Bool, ◌&&◌, if◌then◌else◌, List, [], fold, map, Option, Some, None, is_some, unwrap_or, option_map, Result, Ok, Err}
use Rattle.mz_base.specs.Bytes.{raised}
use Rattle.mz_base.specs.Name.{number_of}
use Rattle.mz_base.specs.declared.name.Name.{Name}
use Rattle.mz_words.specs.declared.word_fault.WordFault.{WordFault}
use Rattle.mz_words.specs.declared.word_fault.WordFault.TheVariants.{Usage, Memory}
use Rattle.mz_words.specs.Words.{Asked, value_of, with_number, names_article, asks_for}

abbrev pub within : ℕ → Option ℕ → Option ℕ
within most None = None
within most (Some n) = if nat_le 1 n && nat_le n most then Some n else None

-- the number from 1 to `most` that the word writes
abbrev pub value_within : ℕ → List ℕ → Option ℕ
value_within most w = within most (value_of w)

-- the value of an option that may be left out; none where it is faulty
abbrev pub given_value : ℕ → Option (List ℕ) → Option (Option ℕ)
given_value most None = Some None
given_value most (Some w) = option_map (λ n. Some n) (value_within most w)

-- one more name
abbrev pub with_name : Option (List ℕ) → List ℕ → Option (List ℕ)
with_name None w = None
with_name (Some ns) w = if names_article w then Some (with_number ns (number_of (raised w))) else None

-- the numbers of the names, each once, in the order of the words; none where a word is no name of an article
abbrev pub named : List (List ℕ) → Option (List ℕ)
named ws = fold with_name (Some []) ws

-- the order of the options and names, by the number of workers, that of made articles, whether the listing is wanted, and
-- the names
abbrev pub order_with : Option (Option ℕ) → Option (Option ℕ) → Bool → Option (List ℕ) → Option Asked
order_with None generate list names = None
order_with (Some workers) None list names = None
order_with (Some workers) (Some generate) list None = None
order_with (Some workers) (Some generate) list (Some names) =
    if asks_for names (is_some generate) list
    then Some (record { workers = unwrap_or workers 1; list = list; generate = generate; names = names })
    else None

-- what a call answers: the value, or that there is none; want of memory says nothing of it
abbrev pub Meets : {T : Type 0} → Option T → Result T WordFault → Type 0
Meets o (Ok value) = o ≡ Some value
Meets o (Err Usage) = o ≡ None
Meets o (Err (Memory a)) = Unit {0}

-- the same of names, by their numbers
abbrev pub MeetsNumbers : Option (List ℕ) → Result (List Name) WordFault → Type 0
MeetsNumbers o (Ok names) = o ≡ Some (map (λ n. n.number) names)
MeetsNumbers o (Err Usage) = o ≡ None
MeetsNumbers o (Err (Memory a)) = Unit {0}
