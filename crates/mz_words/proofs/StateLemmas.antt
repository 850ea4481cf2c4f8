-- Where a walk over the words stands, and what the use of an option or a name makes of it.
use Rattle.std.proofs.Common.{◌≡◌, Bool, true, false, if◌then◌else◌, List, [], ◌∷◌, ◌++◌, Option, Some, None, is_some, refl, ap, ◌∙◌, codes, true≢false}
use Rattle.clap.specs.Walk.{Held, Row, Rule, Text, Waiting, Walk, idle, option, positional, has_row, settled_rows, used}
use Rattle.clap.specs.Simple.{Shape, built, filled, with_index}
use Rattle.clap.specs.Kinds.{Kinds}
use Rattle.clap.specs.Faults.{settle_fault, use_fault}
use Rattle.clap.specs.declared.error.kind.ErrorKind.{ErrorKind}
use Rattle.clap.specs.declared.error.kind.ErrorKind.TheVariants.{ArgumentConflict, InvalidValue}
use Rattle.clap.specs.declared.parser.matches.ValueSource.TheVariants.{CommandLine}
use Rattle.clap.specs.declared.builder.value_parser.Reading.TheVariants.{AsWritten}
use Rattle.mz_words.specs.Expected.{Expected, AnyWord, Workers, Generated, NamesAlone}
use Rattle.mz_words.specs.Reading.{Reading}
use Rattle.mz_words.specs.Program.{program_app, workers_rule, generate_rule, list_rule, names_rule}
use Rattle.mz_words.specs.Words.{value_of, with_word, asked}
use Rattle.mz_words.specs.Given.{given_value, named}
use Rattle.mz_words.proofs.RowLemmas.{found, new_row, found-first_use, found-other_use, found-new, found-more, found-other, has_row-found}
use Rattle.mz_words.proofs.ReadingLemmas.{reading_with, with_word-wanted-workers_none, with_word-wanted-generate_none, asked-ended-wanted}

-- ---- the program, built

abbrev pub top : Shape
top = (built program_app).top

abbrev pub rules : List Rule
rules = top.rules

abbrev pub workers_arg : Rule
workers_arg = filled workers_rule

abbrev pub generate_arg : Rule
generate_arg = filled generate_rule

abbrev pub list_arg : Rule
list_arg = filled list_rule

abbrev pub names_arg : Rule
names_arg = with_index 1 (filled names_rule)

-- ---- what was given

-- the values of `--workers` and `--generate`, whether `--list` was met, and the names, as they were written
pub record View : Type 0 where
  pub workers : Option Text
  pub generate : Option Text
  pub list : Bool
  pub names : List Text

abbrev pub words_row : Text → List Text → Row
words_row id values = new_row id AsWritten CommandLine values

abbrev pub value_row : Text → Option Text → Option Row
value_row id None = None
value_row id (Some x) = Some (words_row id (x ∷ []))

abbrev pub flag_row : Bool → Option Row
flag_row true = Some (words_row (codes "list") (codes "true" ∷ []))
flag_row false = None

abbrev pub names_row : List Text → Option Row
names_row [] = None
names_row (n ∷ ns) = Some (words_row (codes "names") (n ∷ ns))

-- the rows hold what was given
pub record Shows (rows : List Row) (v : View) : Type 0 where
  pub workers : found (codes "workers") rows ≡ value_row (codes "workers") v.workers
  pub generate : found (codes "generate") rows ≡ value_row (codes "generate") v.generate
  pub list : found (codes "list") rows ≡ flag_row v.list
  pub names : found (codes "names") rows ≡ names_row v.names

-- ---- one use

pub use_workers : (rows : List Row) (v : View) (x : Text) → Shows rows v → v.workers ≡ None → Shows (used workers_arg (x ∷ []) rows) (record v { workers = Some x })
use_workers rows v x shown new =
    let absent : found (codes "workers") rows ≡ None = shown.workers ∙ ap (value_row (codes "workers")) new in
    record {
      workers = found-first_use (codes "workers") (x ∷ []) rows absent;
      generate = found-other_use (codes "generate") (codes "workers") (x ∷ []) rows absent refl ∙ shown.generate;
      list = found-other_use (codes "list") (codes "workers") (x ∷ []) rows absent refl ∙ shown.list;
      names = found-other_use (codes "names") (codes "workers") (x ∷ []) rows absent refl ∙ shown.names;
    }

pub use_generate : (rows : List Row) (v : View) (x : Text) → Shows rows v → v.generate ≡ None → Shows (used generate_arg (x ∷ []) rows) (record v { generate = Some x })
use_generate rows v x shown new =
    let absent : found (codes "generate") rows ≡ None = shown.generate ∙ ap (value_row (codes "generate")) new in
    record {
      workers = found-other_use (codes "workers") (codes "generate") (x ∷ []) rows absent refl ∙ shown.workers;
      generate = found-first_use (codes "generate") (x ∷ []) rows absent;
      list = found-other_use (codes "list") (codes "generate") (x ∷ []) rows absent refl ∙ shown.list;
      names = found-other_use (codes "names") (codes "generate") (x ∷ []) rows absent refl ∙ shown.names;
    }

pub use_list : (rows : List Row) (v : View) → Shows rows v → v.list ≡ false → Shows (used list_arg [] rows) (record v { list = true })
use_list rows v shown new =
    let absent : found (codes "list") rows ≡ None = shown.list ∙ ap flag_row new in
    record {
      workers = found-other_use (codes "workers") (codes "list") (codes "true" ∷ []) rows absent refl ∙ shown.workers;
      generate = found-other_use (codes "generate") (codes "list") (codes "true" ∷ []) rows absent refl ∙ shown.generate;
      list = found-first_use (codes "list") (codes "true" ∷ []) rows absent;
      names = found-other_use (codes "names") (codes "list") (codes "true" ∷ []) rows absent refl ∙ shown.names;
    }

name_used : (rows : List Row) (n : Text) (ns : List Text) → found (codes "names") rows ≡ names_row ns → found (codes "names") (used names_arg (n ∷ []) rows) ≡ names_row (ns ++ n ∷ [])
name_used rows n [] is = found-new (codes "names") AsWritten CommandLine (n ∷ []) rows is
name_used rows n (m ∷ ms) is = found-more (codes "names") AsWritten CommandLine (n ∷ []) (words_row (codes "names") (m ∷ ms)) rows is

pub use_name : (rows : List Row) (v : View) (n : Text) → Shows rows v → Shows (used names_arg (n ∷ []) rows) (record v { names = v.names ++ n ∷ [] })
use_name rows v n shown = record {
  workers = found-other (codes "workers") (codes "names") AsWritten CommandLine (n ∷ []) rows refl ∙ shown.workers;
  generate = found-other (codes "generate") (codes "names") AsWritten CommandLine (n ∷ []) rows refl ∙ shown.generate;
  list = found-other (codes "list") (codes "names") AsWritten CommandLine (n ∷ []) rows refl ∙ shown.list;
  names = name_used rows n v.names shown.names;
}

has_value : (id : Text) (o : Option Text) → is_some (value_row id o) ≡ is_some o
has_value id None = refl
has_value id (Some x) = refl

has_flag : (b : Bool) → is_some (flag_row b) ≡ b
has_flag true = refl
has_flag false = refl

pub has_workers : (rows : List Row) (v : View) → Shows rows v → has_row (codes "workers") rows ≡ is_some v.workers
has_workers rows v shown = has_row-found (codes "workers") rows ∙ ap is_some shown.workers ∙ has_value (codes "workers") v.workers

pub has_generate : (rows : List Row) (v : View) → Shows rows v → has_row (codes "generate") rows ≡ is_some v.generate
has_generate rows v shown = has_row-found (codes "generate") rows ∙ ap is_some shown.generate ∙ has_value (codes "generate") v.generate

pub has_list : (rows : List Row) (v : View) → Shows rows v → has_row (codes "list") rows ≡ v.list
has_list rows v shown = has_row-found (codes "list") rows ∙ ap is_some shown.list ∙ has_flag v.list

-- what a use asks
pub workers_new : (x : Text) (rows : List Row) → has_row (codes "workers") rows ≡ false → use_fault false workers_arg (x ∷ []) rows ≡ []
workers_new x rows isnt = rw isnt

pub workers_twice : (x : Text) (rows : List Row) → has_row (codes "workers") rows ≡ true → use_fault false workers_arg (x ∷ []) rows ≡ ArgumentConflict ∷ []
workers_twice x rows already = rw already

pub generate_new : (x : Text) (rows : List Row) → has_row (codes "generate") rows ≡ false → use_fault false generate_arg (x ∷ []) rows ≡ []
generate_new x rows isnt = rw isnt

pub generate_twice : (x : Text) (rows : List Row) → has_row (codes "generate") rows ≡ true → use_fault false generate_arg (x ∷ []) rows ≡ ArgumentConflict ∷ []
generate_twice x rows already = rw already

pub list_new : (rows : List Row) → has_row (codes "list") rows ≡ false → use_fault false list_arg [] rows ≡ []
list_new rows isnt = rw isnt

pub list_twice : (rows : List Row) → has_row (codes "list") rows ≡ true → use_fault false list_arg [] rows ≡ ArgumentConflict ∷ []
list_twice rows already = rw already

-- ---- between two words

-- what is held that isn't in the rows yet: a name, or an option with its value or without
pub data Pending : Type 0 where
  Nothing : Pending
  Name : Text → Pending
  WorkersWanted : Pending
  WorkersHeld : Text → Pending
  GenerateWanted : Pending
  GenerateHeld : Text → Pending

abbrev pub pending_of : Pending → Option (Text × List Text)
pending_of Nothing = None
pending_of (Name n) = Some (codes "names", n ∷ [])
pending_of WorkersWanted = Some (codes "workers", [])
pending_of (WorkersHeld x) = Some (codes "workers", x ∷ [])
pending_of GenerateWanted = Some (codes "generate", [])
pending_of (GenerateHeld x) = Some (codes "generate", x ∷ [])

abbrev idle_or : Bool → Waiting
idle_or true = positional
idle_or false = idle

abbrev pub waiting_for : Pending → Bool → Waiting
waiting_for Nothing b = idle_or b
waiting_for (Name n) b = idle_or b
waiting_for WorkersWanted b = option (codes "workers")
waiting_for (WorkersHeld x) b = idle_or b
waiting_for GenerateWanted b = option (codes "generate")
waiting_for (GenerateHeld x) b = idle_or b

abbrev pub held_at : List Row → Pending → Held
held_at rows p = record { rows = rows; pending = pending_of p; skip = 0 }

abbrev pub walk_at : List Row → Pending → Bool → Bool → Walk
walk_at rows p b t = record { held = held_at rows p; waiting = waiting_for p b; position = 1; is_trailing = t; stopped = None }

-- ---- what is read

abbrev pub base : View → Expected → Option Reading
base v e = reading_with (given_value 16 v.workers) (given_value 512 v.generate) v.list (named v.names) e

abbrev pub expected : Bool → Expected
expected true = NamesAlone
expected false = AnyWord

abbrev pub reading : View → Pending → Bool → Option Reading
reading v Nothing t = base v (expected t)
reading v (Name n) t = base (record v { names = v.names ++ n ∷ [] }) (expected t)
reading v WorkersWanted t = if t then None else base v Workers
reading v (WorkersHeld x) t = if is_some v.workers then None else base (record v { workers = Some x }) (expected t)
reading v GenerateWanted t = if t then None else base v Generated
reading v (GenerateHeld x) t = if is_some v.generate then None else base (record v { generate = Some x }) (expected t)

abbrev pub is_wanted : Pending → Bool
is_wanted WorkersWanted = true
is_wanted GenerateWanted = true
is_wanted p = false

-- ---- what is held goes into the rows, where it may

-- what is held may not: the words so far are no beginning of an order, or a value is missing
pub record Ends (v : View) (p : Pending) : Type 0 where
  pub trailing : reading v p true ≡ None
  pub other : (w : Text) → value_of w ≡ None → with_word (reading v p false) w ≡ None
  pub done : asked (reading v p false) ≡ None
  pub plain : is_wanted p ≡ false → reading v p false ≡ None

pub data Settled (rows : List Row) (v : View) (p : Pending) : Type 0 where
  settles : (next : View) → settle_fault rules false (held_at rows p) ≡ [] → Shows (settled_rows rules (pending_of p) rows) next
      → ((t : Bool) → reading v p t ≡ base next (expected t)) → Settled rows v p
  stops : (k : ErrorKind) (ks : Kinds) → settle_fault rules false (held_at rows p) ≡ k ∷ ks → Ends v p → Settled rows v p

settle_workers : (rows : List Row) (v : View) (x : Text) → Shows rows v → (o : Option Text) → v.workers ≡ o → Settled rows v (WorkersHeld x)
settle_workers rows v x shown None e =
    settles (record v { workers = Some x }) (workers_new x rows (has_workers rows v shown ∙ ap is_some e)) (use_workers rows v x shown e) (λ t. rw e)
settle_workers rows v x shown (Some y) e =
    stops ArgumentConflict [] (workers_twice x rows (has_workers rows v shown ∙ ap is_some e)) (record {
      trailing = rw e;
      other = λ w isnt. rw e;
      done = rw e;
      plain = λ is. rw e;
    })

settle_generate : (rows : List Row) (v : View) (x : Text) → Shows rows v → (o : Option Text) → v.generate ≡ o → Settled rows v (GenerateHeld x)
settle_generate rows v x shown None e =
    settles (record v { generate = Some x }) (generate_new x rows (has_generate rows v shown ∙ ap is_some e)) (use_generate rows v x shown e) (λ t. rw e)
settle_generate rows v x shown (Some y) e =
    stops ArgumentConflict [] (generate_twice x rows (has_generate rows v shown ∙ ap is_some e)) (record {
      trailing = rw e;
      other = λ w isnt. rw e;
      done = rw e;
      plain = λ is. rw e;
    })

pub settle : (rows : List Row) (v : View) (p : Pending) → Shows rows v → Settled rows v p
settle rows v Nothing shown = settles v refl shown (λ t. refl)
settle rows v (Name n) shown = settles (record v { names = v.names ++ n ∷ [] }) refl (use_name rows v n shown) (λ t. refl)
settle rows v WorkersWanted shown = stops InvalidValue [] refl (record {
  trailing = refl;
  other = λ w isnt. with_word-wanted-workers_none (given_value 16 v.workers) (given_value 512 v.generate) v.list (named v.names) w isnt;
  done = asked-ended-wanted (given_value 16 v.workers) (given_value 512 v.generate) v.list (named v.names) Workers refl;
  plain = λ is. absurd (true≢false is);
})
settle rows v (WorkersHeld x) shown = settle_workers rows v x shown v.workers refl
settle rows v GenerateWanted shown = stops InvalidValue [] refl (record {
  trailing = refl;
  other = λ w isnt. with_word-wanted-generate_none (given_value 16 v.workers) (given_value 512 v.generate) v.list (named v.names) w isnt;
  done = asked-ended-wanted (given_value 16 v.workers) (given_value 512 v.generate) v.list (named v.names) Generated refl;
  plain = λ is. absurd (true≢false is);
})
settle rows v (GenerateHeld x) shown = settle_generate rows v x shown v.generate refl
