-- Which words are an order.
use Rattle.std.specs.Prelude.{◌≡◌, ℕ, ◌+◌, ◌-◌, ◌*◌, ◌==◌, nat_le, Bool, true, false, not, ◌&&◌, if◌then◌else◌, List, [], ◌∷◌, ◌++◌, length, map, fold, drop, Option, Some, None, is_some, is_none, unwrap_or, Result, Ok, Err}
use Rattle.std.specs.List.{list_all, list_any}
use Rattle.mz_base.specs.Bytes.{raised, is_digit}
use Rattle.mz_base.specs.Name.{is_name, number_of, is_built_in}
use Rattle.mz_words.specs.Expected.{Expected, AnyWord, Workers, Generated, NamesAlone}
use Rattle.mz_words.specs.OptionWord.{OptionWord, Separator, ListWord, WorkersWord, GenerateWord, WorkersValue, GenerateValue, Other, option_word}
use Rattle.mz_words.specs.declared.order.Order.{Order}
use Rattle.mz_words.specs.declared.word_fault.WordFault.{WordFault}
use Rattle.mz_words.specs.declared.word_fault.WordFault.TheVariants.{Usage, Memory}
use Rattle.mz_words.specs.Reading.{Reading}

-- an order: how many workers, whether the listing is wanted, how many articles are made, if any, and the numbers of the
-- names of the articles, each once, in the order of the words
pub record Asked : Type 0 where
  pub workers : ℕ
  pub list : Bool
  pub generate : Option ℕ
  pub names : List ℕ

-- the number that some digits write
abbrev pub number_of_digits : List ℕ → ℕ
number_of_digits w = fold (λ n b. n * 10 + (b - 48)) 0 w

-- a value is one to four digits
abbrev pub is_value : List ℕ → Bool
is_value w = nat_le 1 (length w) && nat_le (length w) 4 && list_all is_digit w

abbrev pub value_of : List ℕ → Option ℕ
value_of w = if is_value w then Some (number_of_digits w) else None

-- the number of workers: 1 to 16, and once at most
abbrev pub with_workers : Reading → Option ℕ → Option Reading
with_workers r None = None
with_workers r (Some n) = if is_none r.workers && nat_le 1 n && nat_le n 16 then Some (record r { expected = AnyWord; workers = Some n }) else None

-- the number of made articles: 1 to 512, and once at most
abbrev pub with_generated : Reading → Option ℕ → Option Reading
with_generated r None = None
with_generated r (Some n) = if is_none r.generate && nat_le 1 n && nat_le n 512 then Some (record r { expected = AnyWord; generate = Some n }) else None

abbrev pub with_list : Reading → Option Reading
with_list r = if r.list then None else Some (record r { list = true })

-- the numbers with one more, where it isn't there yet
abbrev pub with_number : List ℕ → ℕ → List ℕ
with_number ns n = if list_any (λ m. m == n) ns then ns else ns ++ n ∷ []

-- whether the word is a name that isn't built in
abbrev pub names_article : List ℕ → Bool
names_article w = is_name w && not (is_built_in (number_of (raised w)))

abbrev pub with_named : Reading → List ℕ → Option Reading
with_named r w = if names_article w then Some (record r { names = with_number r.names (number_of (raised w)) }) else None

-- a word where any may come: `--` before names alone, an option with its value in the next word or behind `=`, or a name
abbrev pub with_option : OptionWord → Reading → List ℕ → Option Reading
with_option Separator r w = Some (record r { expected = NamesAlone })
with_option ListWord r w = with_list r
with_option WorkersWord r w = Some (record r { expected = Workers })
with_option GenerateWord r w = Some (record r { expected = Generated })
with_option WorkersValue r w = with_workers r (value_of (drop 10 w))
with_option GenerateValue r w = with_generated r (value_of (drop 11 w))
with_option Other r w = with_named r w

-- the next word
abbrev pub with_word_at : Expected → Reading → List ℕ → Option Reading
with_word_at AnyWord r w = with_option (option_word w) r w
with_word_at Workers r w = with_workers r (value_of w)
with_word_at Generated r w = with_generated r (value_of w)
with_word_at NamesAlone r w = with_named r w

abbrev pub with_word : Option Reading → List ℕ → Option Reading
with_word None w = None
with_word (Some r) w = with_word_at r.expected r w

-- nothing is read yet
abbrev pub unread : Reading
unread = record { expected = AnyWord; workers = None; list = false; generate = None; names = [] }

-- whether the words may end here: no value is missing
abbrev pub may_end : Expected → Bool
may_end AnyWord = true
may_end Workers = false
may_end Generated = false
may_end NamesAlone = true

-- there is a name, or the number of made articles, not both; made articles have no listing
abbrev pub asks_for : List ℕ → Bool → Bool → Bool
asks_for [] generates list = generates && not list
asks_for (n ∷ ns) generates list = not generates

abbrev pub asked : Option Reading → Option Asked
asked None = None
asked (Some r) =
    if may_end r.expected && asks_for r.names (is_some r.generate) r.list
    then Some (record { workers = unwrap_or r.workers 1; list = r.list; generate = r.generate; names = r.names })
    else None

-- the order that the words give; none where they give none
abbrev pub order_of : List (List ℕ) → Option Asked
order_of ws = asked (fold with_word (Some unread) ws)

-- an order as it is asked for
abbrev pub asked_by : Order → Asked
asked_by o = record { workers = o.workers; list = o.list; generate = o.generate; names = map (λ n. n.number) o.names }

-- the order, or that there is none; want of memory says nothing of it
abbrev pub IsAsked : Option Asked → Result Order WordFault → Type 0
IsAsked o (Ok order) = o ≡ Some (asked_by order)
IsAsked o (Err Usage) = o ≡ None
IsAsked o (Err (Memory a)) = Unit {0}

-- the order that the words give, or that they give none
abbrev pub IsAnswer : List (List ℕ) → Result Order WordFault → Type 0
IsAnswer ws r = IsAsked (order_of ws) r
