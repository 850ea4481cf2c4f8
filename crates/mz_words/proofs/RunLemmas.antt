-- A walk over all the words, and what a parse of them gives.
use Rattle.std.proofs.Common.{◌≡◌, Bool, true, false, ◌||◌, if◌then◌else◌, List, [], ◌∷◌, Option, Some, None, is_some, option_map, option_and_then, refl, ap, ap₂, sym, subst, ◌∙◌, codes}
use Rattle.std.specs.Prelude.{fold, slice_get, unwrap_or}
use Rattle.std.specs.Str.{bytes_eq}
use Rattle.clap.specs.Walk.{Row, Rule, Text, Walk, all_of, finished, first_of, has_row, one_of, row_text, settled_rows, walked, with_default}
use Rattle.clap.specs.Simple.{built, matches_of, is_simple}
use Rattle.clap.specs.Kinds.{Kinds, or_else}
use Rattle.clap.specs.Faults.{check_fault, default_fault, defaults_fault, entered_fault, fault_of, is_simple_and_free, settle_fault, turn_fault, walk_fault}
use Rattle.clap.specs.declared.error.kind.ErrorKind.{ErrorKind}
use Rattle.clap.specs.declared.parser.matches.ValueSource.TheVariants.{DefaultValue}
use Rattle.clap.specs.declared.builder.value_parser.Reading.TheVariants.{AsWritten}
use Rattle.clap.specs.Simple.{entered}
use Rattle.mz_words.specs.Reading.{Reading}
use Rattle.mz_words.specs.Program.{program_app}
use Rattle.mz_words.specs.Words.{with_word, unread, asked, order_of, may_end}
use Rattle.mz_words.specs.Given.{given_value, named, order_with}
use Rattle.mz_words.proofs.RowLemmas.{found, found-other, found-new}
use Rattle.mz_words.proofs.ReadingLemmas.{asked-ended}
use Rattle.mz_words.proofs.StateLemmas.{top, rules, workers_arg, generate_arg, list_arg, names_arg, View, Shows, value_row, flag_row, names_row, has_list, Pending, Nothing, pending_of, held_at, walk_at, expected, reading, Ends, Settled, settles, stops, settle}
use Rattle.mz_words.proofs.StepLemmas.{Step, goes, fails}
use Rattle.mz_words.proofs.OptionLemmas.{step_word}

-- ---- all words

pub data Run (w : Walk) (ws : List Text) (o : Option Reading) : Type 0 where
  ran : (rows : List Row) (v : View) (p : Pending) (b t : Bool) → Shows rows v → walk_fault top [] w ws ≡ [] → fold (walked rules []) w ws ≡ walk_at rows p b t → o ≡ reading v p t → Run w ws o
  broke : (k : ErrorKind) (ks : Kinds) → walk_fault top [] w ws ≡ k ∷ ks → o ≡ None → Run w ws o

fold-None : (ws : List Text) → fold with_word None ws ≡ None
fold-None [] = refl
fold-None (w ∷ ws) = fold-None ws

walk_fault-no_words : (w : Walk) → walk_fault top [] w [] ≡ []
unfolding walk_fault
walk_fault-no_words w = refl

first_fault : (w : Walk) (word : Text) (ws : List Text) → walk_fault top [] w (word ∷ ws) ≡ or_else (turn_fault top [] w word) (walk_fault top [] (walked rules [] w word) ws)
unfolding walk_fault
first_fault w word ws = refl

run_from : (w after : Walk) (word : Text) (ws : List Text) (o next : Option Reading) → turn_fault top [] w word ≡ [] → walked rules [] w word ≡ after → with_word o word ≡ next
    → Run after ws (fold with_word next ws) → Run w (word ∷ ws) (fold with_word (with_word o word) ws)
run_from w after word ws o next fault walk same (ran rows v p b t shown faults walks read) =
    ran rows v p b t shown (first_fault w word ws ∙ ap₂ or_else fault (ap (λ (x : Walk). walk_fault top [] x ws) walk ∙ faults))
    (ap (λ (x : Walk). fold (walked rules []) x ws) walk ∙ walks) (ap (λ (x : Option Reading). fold with_word x ws) same ∙ read)
run_from w after word ws o next fault walk same (broke k ks faults read) =
    broke k ks (first_fault w word ws ∙ ap₂ or_else fault (ap (λ (x : Walk). walk_fault top [] x ws) walk ∙ faults)) (ap (λ (x : Option Reading). fold with_word x ws) same ∙ read)

run_next : (w : Walk) (word : Text) (ws : List Text) (o : Option Reading) → ((rows : List Row) (v : View) (p : Pending) (b t : Bool) → Shows rows v → Run (walk_at rows p b t) ws (fold with_word (reading v p t) ws))
    → Step w word (with_word o word) → Run w (word ∷ ws) (fold with_word (with_word o word) ws)
run_next w word ws o ih (goes rows v p b t shown fault walk same) = run_from w (walk_at rows p b t) word ws o (reading v p t) fault walk same (ih rows v p b t shown)
run_next w word ws o ih (fails k ks fault none) =
    broke k ks (first_fault w word ws ∙ ap (λ (f : Kinds). or_else f (walk_fault top [] (walked rules [] w word) ws)) fault) (ap (λ (x : Option Reading). fold with_word x ws) none ∙ fold-None ws)

run : (ws : List Text) (rows : List Row) (v : View) (p : Pending) (b t : Bool) → Shows rows v → Run (walk_at rows p b t) ws (fold with_word (reading v p t) ws)
run [] rows v p b t shown = ran rows v p b t shown (walk_fault-no_words (walk_at rows p b t)) refl refl
run (word ∷ ws) rows v p b t shown = run_next (walk_at rows p b t) word ws (reading v p t) (run ws) (step_word rows v p b t word shown)

-- ---- defaults

if-no_use : (r : Bool) (rows : List Row) → (if r then rows else rows) ≡ rows
if-no_use true rows = refl
if-no_use false rows = refl

or-none_either : (r : Bool) (ks : Kinds) → (if r || true then [] else ks) ≡ []
or-none_either true ks = refl
or-none_either false ks = refl

-- only `--list` has a default
workers_default : (rows : List Row) → with_default rows workers_arg ≡ rows
workers_default rows = if-no_use (has_row (codes "workers") rows) rows

generate_default : (rows : List Row) → with_default rows generate_arg ≡ rows
generate_default rows = if-no_use (has_row (codes "generate") rows) rows

names_default : (rows : List Row) → with_default rows names_arg ≡ rows
names_default rows = if-no_use (has_row (codes "names") rows) rows

list_default_fault : (rows : List Row) → default_fault rows list_arg ≡ []
list_default_fault rows = go (has_row (codes "list") rows) refl
  where
    go : (t : Bool) → has_row (codes "list") rows ≡ t → default_fault rows list_arg ≡ []
    go true t = rw t
    go false t = rw t

workers_default_fault : (rows : List Row) → default_fault rows workers_arg ≡ []
workers_default_fault rows = go (has_row (codes "workers") rows) refl
  where
    go : (t : Bool) → has_row (codes "workers") rows ≡ t → default_fault rows workers_arg ≡ []
    go true t = rw t
    go false t = rw t

generate_default_fault : (rows : List Row) → default_fault rows generate_arg ≡ []
generate_default_fault rows = go (has_row (codes "generate") rows) refl
  where
    go : (t : Bool) → has_row (codes "generate") rows ≡ t → default_fault rows generate_arg ≡ []
    go true t = rw t
    go false t = rw t

names_default_fault : (rows : List Row) → default_fault rows names_arg ≡ []
names_default_fault rows = go (has_row (codes "names") rows) refl
  where
    go : (t : Bool) → has_row (codes "names") rows ≡ t → default_fault rows names_arg ≡ []
    go true t = rw t
    go false t = rw t

one_default : (rows : List Row) (a : Rule) (rest : List Rule) → default_fault rows a ≡ [] → defaults_fault rows (a ∷ rest) ≡ defaults_fault (with_default rows a) rest
unfolding defaults_fault
one_default rows a rest none = ap (λ (f : Kinds). or_else f (defaults_fault (with_default rows a) rest)) none

no_defaults : (rows : List Row) → defaults_fault rows [] ≡ []
unfolding defaults_fault
no_defaults rows = refl

defaults_pass : (rows : List Row) → defaults_fault rows rules ≡ []
defaults_pass rows =
    let w = with_default rows workers_arg in
    let g = with_default w generate_arg in
    let l = with_default g list_arg in
    one_default rows workers_arg (generate_arg ∷ list_arg ∷ names_arg ∷ []) (workers_default_fault rows)
    ∙ one_default w generate_arg (list_arg ∷ names_arg ∷ []) (generate_default_fault w)
    ∙ one_default g list_arg (names_arg ∷ []) (list_default_fault g)
    ∙ one_default l names_arg [] (names_default_fault l)
    ∙ no_defaults (with_default l names_arg)

all_defaults : (rows : List Row) → fold with_default rows rules ≡ with_default rows list_arg
all_defaults rows =
    ap (λ (x : List Row). with_default (with_default (with_default x generate_arg) list_arg) names_arg) (workers_default rows)
    ∙ ap (λ (x : List Row). with_default (with_default x list_arg) names_arg) (generate_default rows)
    ∙ names_default (with_default rows list_arg)

-- ---- what the rows say at the end

value_text : (id : Text) (o : Option Text) → option_and_then (λ (r : Row). slice_get r.values 0) (value_row id o) ≡ o
value_text id None = refl
value_text id (Some x) = refl

names_texts : (ns : List Text) → unwrap_or (option_map (λ (r : Row). r.values) (names_row ns)) [] ≡ ns
names_texts [] = refl
names_texts (n ∷ ns) = refl

-- `true` and `false`
abbrev pub flag_text : Bool → Text
flag_text true = codes "true"
flag_text false = codes "false"

-- what is given, as a caller reads it
pub record Gives (rows : List Row) (v : View) : Type 0 where
  pub workers : first_of (codes "workers") rows ≡ v.workers
  pub generate : first_of (codes "generate") rows ≡ v.generate
  pub list : one_of (codes "list") rows ≡ Some (flag_text v.list)
  pub names : unwrap_or (all_of (codes "names") rows) [] ≡ v.names

other_default : (id : Text) (rows : List Row) → bytes_eq (codes "list") id ≡ false → found id (with_default rows list_arg) ≡ found id rows
other_default id rows differs = go (has_row (codes "list") rows) refl
  where
    go : (t : Bool) → has_row (codes "list") rows ≡ t → found id (with_default rows list_arg) ≡ found id rows
    go true t = rw t
    go false t = rw t (found-other id (codes "list") AsWritten DefaultValue (codes "false" ∷ []) rows differs)

list_default : (rows : List Row) (v : View) → Shows rows v → (o : Bool) → v.list ≡ o → one_of (codes "list") (with_default rows list_arg) ≡ Some (flag_text o)
list_default rows v shown true e =
    let used : has_row (codes "list") rows ≡ true = has_list rows v shown ∙ e in
    rw used (ap (option_and_then row_text) (shown.list ∙ ap flag_row e))
list_default rows v shown false e =
    let unused : has_row (codes "list") rows ≡ false = has_list rows v shown ∙ e in
    let absent : found (codes "list") rows ≡ None = shown.list ∙ ap flag_row e in
    rw unused (ap (option_and_then row_text) (found-new (codes "list") AsWritten DefaultValue (codes "false" ∷ []) rows absent))

given_at_end : (rows : List Row) (v : View) → Shows rows v → Gives (with_default rows list_arg) v
given_at_end rows v shown = record {
  workers = ap (option_and_then (λ (r : Row). slice_get r.values 0)) (other_default (codes "workers") rows refl ∙ shown.workers) ∙ value_text (codes "workers") v.workers;
  generate = ap (option_and_then (λ (r : Row). slice_get r.values 0)) (other_default (codes "generate") rows refl ∙ shown.generate) ∙ value_text (codes "generate") v.generate;
  list = list_default rows v shown v.list refl;
  names = ap (λ (o : Option Row). unwrap_or (option_map (λ (r : Row). r.values) o) []) (other_default (codes "names") rows refl ∙ shown.names) ∙ names_texts v.names;
}

-- ---- the parse

abbrev start : Walk
start = walk_at [] Nothing false false

abbrev nothing_given : View
nothing_given = record { workers = None; generate = None; list = false; names = [] }

-- what is refused behind the walk
abbrev tail_fault : Walk → Kinds
tail_fault w = or_else (entered_fault (built program_app) w.stopped) (or_else (settle_fault rules false w.held)
    (or_else (defaults_fault (settled_rows rules w.held.pending w.held.rows) rules) (check_fault top (finished rules w.held) (is_some (entered (built program_app) w.stopped)))))

fault_is : (ws : List Text) → fault_of program_app ws ≡ or_else (walk_fault top [] start ws) (tail_fault (fold (walked rules []) start ws))
fault_is ws = refl

matches_of-rows_are : (ws : List Text) → matches_of program_app ws ≡ finished rules (fold (walked rules []) start ws).held
matches_of-rows_are ws = refl

-- the words are taken, and what is given is the order; or they are refused, and give no order
pub data Parse (ws : List Text) : Type 0 where
  taken : (v : View) → fault_of program_app ws ≡ [] → Gives (matches_of program_app ws) v
      → order_of ws ≡ order_with (given_value 16 v.workers) (given_value 512 v.generate) v.list (named v.names) → Parse ws
  refused : (k : ErrorKind) (ks : Kinds) → fault_of program_app ws ≡ k ∷ ks → order_of ws ≡ None → Parse ws

may_end-expected : (t : Bool) → may_end (expected t) ≡ true
may_end-expected true = refl
may_end-expected false = refl

asked-stops : (v : View) (p : Pending) (t : Bool) → Ends v p → asked (reading v p t) ≡ None
asked-stops v p true end = ap asked end.trailing
asked-stops v p false end = end.done

parsed : (ws : List Text) (rows : List Row) (v : View) (p : Pending) (b t : Bool) → walk_fault top [] start ws ≡ [] → fold (walked rules []) start ws ≡ walk_at rows p b t → order_of ws ≡ asked (reading v p t)
    → Settled rows v p → Parse ws
parsed ws rows v p b t fault walk order (settles after due shown same) =
    taken after
    (fault_is ws ∙ ap₂ (λ (f : Kinds) (w : Walk). or_else f (tail_fault w)) fault walk ∙ ap₂ (λ (f g : Kinds). or_else f (or_else g [])) due (defaults_pass (settled_rows rules (pending_of p) rows)))
    (subst (λ (l : List Row). Gives l after) (sym (matches_of-rows_are ws ∙ ap (λ (w : Walk). finished rules w.held) walk ∙ all_defaults (settled_rows rules (pending_of p) rows))) (given_at_end (settled_rows rules (pending_of p) rows) after shown))
    (order ∙ ap asked (same t) ∙ asked-ended (given_value 16 after.workers) (given_value 512 after.generate) after.list (named after.names) (expected t) (may_end-expected t))
parsed ws rows v p b t fault walk order (stops k ks due end) =
    refused k ks
    (fault_is ws ∙ ap₂ (λ (f : Kinds) (w : Walk). or_else f (tail_fault w)) fault walk
    ∙ ap (λ (f : Kinds). or_else f (or_else (defaults_fault (settled_rows rules (pending_of p) rows) rules) (check_fault top (finished rules (held_at rows p)) false))) due)
    (order ∙ asked-stops v p t end)

parse_run : (ws : List Text) → Run start ws (fold with_word (Some unread) ws) → Parse ws
parse_run ws (ran rows v p b t shown fault walk read) = parsed ws rows v p b t fault walk (ap asked read) (settle rows v p shown)
parse_run ws (broke k ks fault none) =
    refused k ks (fault_is ws ∙ ap (λ (f : Kinds). or_else f (tail_fault (fold (walked rules []) start ws))) fault) (ap asked none)

pub parse : (ws : List Text) → Parse ws
parse ws = parse_run ws (run ws [] nothing_given Nothing false false (record { workers = refl; generate = refl; list = refl; names = refl }))

-- the program is a command of which `clap` says what it takes
pub program_is_simple : is_simple program_app ≡ true
program_is_simple = refl

pub program_is_free : is_simple_and_free program_app ≡ true
program_is_free = refl
