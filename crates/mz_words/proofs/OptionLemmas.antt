-- A walk over one option, and over any word.
use Rattle.std.proofs.Common.{◌≡◌, ℕ, Bool, true, false, if◌then◌else◌, List, [], ◌∷◌, ◌++◌, length, slice_get, chars, Option, Some, None, is_some, refl, ap, ap₂, sym, subst, ◌∙◌, codes}
use Rattle.std.specs.Option.{option_map_or}
use Rattle.std.specs.Str.{bytes_eq}
use Rattle.clap.specs.Lexer.{long_of, short_of}
use Rattle.clap.specs.Walk.{Held, Outcome, Row, Rule, Step as ClapStep, Text, Waiting, after_flag, arg_by_long, bundle_met, bundle_step, idle, long_or_other, next, option, plain_word, plain as PlainWord, settled_rows, short_or_plain, trailing, used, word_met}
use Rattle.clap.specs.Kinds.{Kinds, or_else}
use Rattle.clap.specs.Faults.{bundle_fault, bundle_step_fault, flag_word_fault, flags_fault, long_fault, settle_fault, turn_fault, use_fault}
use Rattle.clap.specs.declared.error.kind.ErrorKind.{ErrorKind}
use Rattle.clap.specs.declared.error.kind.ErrorKind.TheVariants.{ArgumentConflict, TooManyValues, UnknownArgument}
use Rattle.mz_words.specs.Expected.{AnyWord}
use Rattle.mz_words.specs.OptionWord.{ListWord, WorkersWord, GenerateWord, WorkersValue, GenerateValue, Other, option_word}
use Rattle.mz_words.specs.Reading.{Reading}
use Rattle.mz_words.specs.Words.{value_of, names_article, with_word}
use Rattle.mz_words.specs.Given.{given_value, value_within, named}
use Rattle.mz_words.proofs.ByteLemmas.{Kind, dashes, long, short, plain, kind_of_word, joined, equal_texts, dash_value, unknown_word}
use Rattle.mz_words.proofs.ReadingLemmas.{with_word-any-list, with_word-any-list_again, with_word-any-workers, with_word-any-generate, with_word-any-workers_value, with_word-any-workers_again, with_word-any-generate_value, with_word-any-generate_again}
use Rattle.mz_words.proofs.StateLemmas.{top, rules, workers_arg, generate_arg, list_arg, View, Shows, use_workers, use_generate, use_list, has_workers, has_generate, has_list, workers_new, workers_twice, generate_new, generate_twice, list_new, list_twice, Pending, Nothing, WorkersWanted, GenerateWanted, pending_of, waiting_for, held_at, walk_at, base, reading, Settled, settles, stops, settle}
use Rattle.mz_words.proofs.StepLemmas.{Step, goes, fails, met_at, fault_at, met_is, turn_is, walk_is, step_refused, step_plain, step_separator, step_trailing, refused_read}

-- the option is met, and what is held goes into the rows first
abbrev settled_at : List Row → Pending → List Row
settled_at rows p = settled_rows rules (pending_of p) rows

-- a step of which the fault begins with that of what is held
turn_then : (rows : List Row) (p : Pending) (b : Bool) (word : Text) (h : Held) (waiting : Waiting) (f : Kinds) → met_at rows p b word ≡ (h, next waiting) → fault_at word (held_at rows p) ≡ f
    → turn_fault top [] (walk_at rows p b false) word ≡ or_else f []
turn_then rows p b word h waiting f met fault = turn_is rows p b word (h, next waiting) f met fault

or_none : (ks : Kinds) → or_else ks [] ≡ ks
or_none [] = refl
or_none (k ∷ ks) = refl

-- ---- `--workers` and `--generate`, with their values in the next word

workers_word : option_word (codes "--workers") ≡ WorkersWord
unfolding option_word
workers_word = refl

generate_word : option_word (codes "--generate") ≡ GenerateWord
unfolding option_word
generate_word = refl

workers_wanted : (rows : List Row) (v : View) (p : Pending) (b : Bool) → Settled rows v p → Step (walk_at rows p b false) (codes "--workers") (with_word (reading v p false) (codes "--workers"))
workers_wanted rows v p b (settles after due shown same) =
    goes (settled_at rows p) after WorkersWanted b false shown
    (turn_then rows p b (codes "--workers") (held_at (settled_at rows p) WorkersWanted) (option (codes "workers")) (settle_fault rules false (held_at rows p)) (met_is (waiting_for p b) (codes "--workers") (held_at rows p)) refl
    ∙ or_none (settle_fault rules false (held_at rows p)) ∙ due)
    (walk_is rows p b (codes "--workers") (held_at (settled_at rows p) WorkersWanted, next (option (codes "workers"))) (met_is (waiting_for p b) (codes "--workers") (held_at rows p)))
    (ap (λ (o : Option Reading). with_word o (codes "--workers")) (same false) ∙ with_word-any-workers (given_value 16 after.workers) (given_value 512 after.generate) after.list (named after.names) (codes "--workers") workers_word)
workers_wanted rows v p b (stops k ks due end) =
    fails k ks
    (turn_then rows p b (codes "--workers") (held_at (settled_at rows p) WorkersWanted) (option (codes "workers")) (settle_fault rules false (held_at rows p)) (met_is (waiting_for p b) (codes "--workers") (held_at rows p)) refl
    ∙ or_none (settle_fault rules false (held_at rows p)) ∙ due)
    (end.other (codes "--workers") refl)

generate_wanted : (rows : List Row) (v : View) (p : Pending) (b : Bool) → Settled rows v p → Step (walk_at rows p b false) (codes "--generate") (with_word (reading v p false) (codes "--generate"))
generate_wanted rows v p b (settles after due shown same) =
    goes (settled_at rows p) after GenerateWanted b false shown
    (turn_then rows p b (codes "--generate") (held_at (settled_at rows p) GenerateWanted) (option (codes "generate")) (settle_fault rules false (held_at rows p)) (met_is (waiting_for p b) (codes "--generate") (held_at rows p)) refl
    ∙ or_none (settle_fault rules false (held_at rows p)) ∙ due)
    (walk_is rows p b (codes "--generate") (held_at (settled_at rows p) GenerateWanted, next (option (codes "generate"))) (met_is (waiting_for p b) (codes "--generate") (held_at rows p)))
    (ap (λ (o : Option Reading). with_word o (codes "--generate")) (same false) ∙ with_word-any-generate (given_value 16 after.workers) (given_value 512 after.generate) after.list (named after.names) (codes "--generate") generate_word)
generate_wanted rows v p b (stops k ks due end) =
    fails k ks
    (turn_then rows p b (codes "--generate") (held_at (settled_at rows p) GenerateWanted) (option (codes "generate")) (settle_fault rules false (held_at rows p)) (met_is (waiting_for p b) (codes "--generate") (held_at rows p)) refl
    ∙ or_none (settle_fault rules false (held_at rows p)) ∙ due)
    (end.other (codes "--generate") refl)

-- ---- options that are used at once

-- what a use is refused for, behind what is held
abbrev use_at : Rule → List Text → List Row → Pending → Kinds
use_at a values rows p = or_else (settle_fault rules false (held_at rows p)) (use_fault false a values (settled_at rows p))

turn_used : (rows : List Row) (p : Pending) (b : Bool) (word : Text) (a : Rule) (values : List Text) → met_at rows p b word ≡ (held_at (used a values (settled_at rows p)) Nothing, next idle)
    → fault_at word (held_at rows p) ≡ use_at a values rows p → turn_fault top [] (walk_at rows p b false) word ≡ use_at a values rows p
turn_used rows p b word a values met fault = turn_is rows p b word (held_at (used a values (settled_at rows p)) Nothing, next idle) (use_at a values rows p) met fault ∙ or_none (use_at a values rows p)

use_first : (rows : List Row) (p : Pending) (a : Rule) (values : List Text) (f : Kinds) → settle_fault rules false (held_at rows p) ≡ [] → use_fault false a values (settled_at rows p) ≡ f → use_at a values rows p ≡ f
use_first rows p a values f first second = ap₂ or_else first second

use_stopped : (rows : List Row) (p : Pending) (a : Rule) (values : List Text) (k : ErrorKind) (ks : Kinds) → settle_fault rules false (held_at rows p) ≡ k ∷ ks → use_at a values rows p ≡ k ∷ ks
use_stopped rows p a values k ks due = ap (λ (f : Kinds). or_else f (use_fault false a values (settled_at rows p))) due

-- ---- a value behind `=`

abbrev workers_text : Text → Text
workers_text x = codes "--workers=" ++ x

abbrev generate_text : Text → Text
generate_text x = codes "--generate=" ++ x

workers_value : (x : Text) → option_word (workers_text x) ≡ WorkersValue
unfolding option_word
workers_value x = refl

generate_value : (x : Text) → option_word (generate_text x) ≡ GenerateValue
unfolding option_word
generate_value x = refl

module _ (rows : List Row) (v : View) (p : Pending) (b : Bool) (x : Text) where
  workers_met : met_at rows p b (workers_text x) ≡ (held_at (used workers_arg (x ∷ []) (settled_at rows p)) Nothing, next idle)
  workers_met = met_is (waiting_for p b) (workers_text x) (held_at rows p)

  workers_turn : turn_fault top [] (walk_at rows p b false) (workers_text x) ≡ use_at workers_arg (x ∷ []) rows p
  workers_turn = turn_used rows p b (workers_text x) workers_arg (x ∷ []) workers_met refl

  workers_read : (after : View) (o : Option Text) → after.workers ≡ o → settle_fault rules false (held_at rows p) ≡ [] → Shows (settled_at rows p) after → reading v p false ≡ base after AnyWord
      → Step (walk_at rows p b false) (workers_text x) (with_word (reading v p false) (workers_text x))
  workers_read after None e due shown same =
      goes (used workers_arg (x ∷ []) (settled_at rows p)) (record after { workers = Some x }) Nothing false false (use_workers (settled_at rows p) after x shown e)
      (workers_turn ∙ use_first rows p workers_arg (x ∷ []) [] due (workers_new x (settled_at rows p) (has_workers (settled_at rows p) after shown ∙ ap is_some e)))
      (walk_is rows p b (workers_text x) (held_at (used workers_arg (x ∷ []) (settled_at rows p)) Nothing, next idle) workers_met)
      (ap (λ (o : Option Reading). with_word o (workers_text x)) same ∙ rw e (with_word-any-workers_value (given_value 512 after.generate) after.list (named after.names) (workers_text x) (workers_value x)))
  workers_read after (Some y) e due shown same =
      fails ArgumentConflict [] (workers_turn ∙ use_first rows p workers_arg (x ∷ []) (ArgumentConflict ∷ []) due (workers_twice x (settled_at rows p) (has_workers (settled_at rows p) after shown ∙ ap is_some e)))
      (ap (λ (o : Option Reading). with_word o (workers_text x)) same ∙ rw e (with_word-any-workers_again (value_within 16 y) (given_value 512 after.generate) after.list (named after.names) (workers_text x) (workers_value x)))

  step_workers : Settled rows v p → Step (walk_at rows p b false) (workers_text x) (with_word (reading v p false) (workers_text x))
  step_workers (settles after due shown same) = workers_read after after.workers refl due shown (same false)
  step_workers (stops k ks due end) = fails k ks (workers_turn ∙ use_stopped rows p workers_arg (x ∷ []) k ks due) (end.other (workers_text x) (dash_value (codes "-workers=" ++ x)))

  generate_met : met_at rows p b (generate_text x) ≡ (held_at (used generate_arg (x ∷ []) (settled_at rows p)) Nothing, next idle)
  generate_met = met_is (waiting_for p b) (generate_text x) (held_at rows p)

  generate_turn : turn_fault top [] (walk_at rows p b false) (generate_text x) ≡ use_at generate_arg (x ∷ []) rows p
  generate_turn = turn_used rows p b (generate_text x) generate_arg (x ∷ []) generate_met refl

  generate_read : (after : View) (o : Option Text) → after.generate ≡ o → settle_fault rules false (held_at rows p) ≡ [] → Shows (settled_at rows p) after → reading v p false ≡ base after AnyWord
      → Step (walk_at rows p b false) (generate_text x) (with_word (reading v p false) (generate_text x))
  generate_read after None e due shown same =
      goes (used generate_arg (x ∷ []) (settled_at rows p)) (record after { generate = Some x }) Nothing false false (use_generate (settled_at rows p) after x shown e)
      (generate_turn ∙ use_first rows p generate_arg (x ∷ []) [] due (generate_new x (settled_at rows p) (has_generate (settled_at rows p) after shown ∙ ap is_some e)))
      (walk_is rows p b (generate_text x) (held_at (used generate_arg (x ∷ []) (settled_at rows p)) Nothing, next idle) generate_met)
      (ap (λ (o : Option Reading). with_word o (generate_text x)) same ∙ rw e (with_word-any-generate_value (given_value 16 after.workers) after.list (named after.names) (generate_text x) (generate_value x)))
  generate_read after (Some y) e due shown same =
      fails ArgumentConflict [] (generate_turn ∙ use_first rows p generate_arg (x ∷ []) (ArgumentConflict ∷ []) due (generate_twice x (settled_at rows p) (has_generate (settled_at rows p) after shown ∙ ap is_some e)))
      (ap (λ (o : Option Reading). with_word o (generate_text x)) same ∙ rw e (with_word-any-generate_again (value_within 512 y) (given_value 16 after.workers) after.list (named after.names) (generate_text x) (generate_value x)))

  step_generate : Settled rows v p → Step (walk_at rows p b false) (generate_text x) (with_word (reading v p false) (generate_text x))
  step_generate (settles after due shown same) = generate_read after after.generate refl due shown (same false)
  step_generate (stops k ks due end) = fails k ks (generate_turn ∙ use_stopped rows p generate_arg (x ∷ []) k ks due) (end.other (generate_text x) (dash_value (codes "-generate=" ++ x)))

-- ---- `--list`

list_word : option_word (codes "--list") ≡ ListWord
unfolding option_word
list_word = refl

list_value : (x : Text) → option_word (codes "--list=" ++ x) ≡ Other
unfolding option_word
list_value x = refl

module _ (rows : List Row) (v : View) (p : Pending) (b : Bool) where
  list_met : met_at rows p b (codes "--list") ≡ (held_at (used list_arg [] (settled_at rows p)) Nothing, next idle)
  list_met = met_is (waiting_for p b) (codes "--list") (held_at rows p)

  list_turn : turn_fault top [] (walk_at rows p b false) (codes "--list") ≡ use_at list_arg [] rows p
  list_turn = turn_used rows p b (codes "--list") list_arg [] list_met refl

  list_read : (after : View) (o : Bool) → after.list ≡ o → settle_fault rules false (held_at rows p) ≡ [] → Shows (settled_at rows p) after → reading v p false ≡ base after AnyWord
      → Step (walk_at rows p b false) (codes "--list") (with_word (reading v p false) (codes "--list"))
  list_read after false e due shown same =
      goes (used list_arg [] (settled_at rows p)) (record after { list = true }) Nothing false false (use_list (settled_at rows p) after shown e)
      (list_turn ∙ use_first rows p list_arg [] [] due (list_new (settled_at rows p) (has_list (settled_at rows p) after shown ∙ e)))
      (walk_is rows p b (codes "--list") (held_at (used list_arg [] (settled_at rows p)) Nothing, next idle) list_met)
      (ap (λ (o : Option Reading). with_word o (codes "--list")) same ∙ rw e (with_word-any-list (given_value 16 after.workers) (given_value 512 after.generate) (named after.names) (codes "--list") list_word))
  list_read after true e due shown same =
      fails ArgumentConflict [] (list_turn ∙ use_first rows p list_arg [] (ArgumentConflict ∷ []) due (list_twice (settled_at rows p) (has_list (settled_at rows p) after shown ∙ e)))
      (ap (λ (o : Option Reading). with_word o (codes "--list")) same ∙ rw e (with_word-any-list_again (given_value 16 after.workers) (given_value 512 after.generate) (named after.names) (codes "--list") list_word))

  step_list : Settled rows v p → Step (walk_at rows p b false) (codes "--list") (with_word (reading v p false) (codes "--list"))
  step_list (settles after due shown same) = list_read after after.list refl due shown (same false)
  step_list (stops k ks due end) = fails k ks (list_turn ∙ use_stopped rows p list_arg [] k ks due) (end.other (codes "--list") refl)

  step_list_value : (x : Text) → Step (walk_at rows p b false) (codes "--list=" ++ x) (with_word (reading v p false) (codes "--list=" ++ x))
  step_list_value x = step_refused rows p b (codes "--list=" ++ x) TooManyValues [] _ refl (refused_read v p (codes "--list=" ++ x) (dash_value (codes "-list=" ++ x)) refl (list_value x))

-- ---- any option

-- an option that isn't known
unknown_arg : (name : Text) → bytes_eq (codes "workers") name ≡ false → bytes_eq (codes "generate") name ≡ false → bytes_eq (codes "list") name ≡ false → arg_by_long rules name ≡ None
unknown_arg name a b c = rw (a, b, c)

unknown_fault : (name : Text) (value : Option Text) (word : Text) (h : Held) → bytes_eq word (codes "--") ≡ false → long_of word ≡ Some (name, value) → arg_by_long rules name ≡ None
    → fault_at word h ≡ UnknownArgument ∷ []
unknown_fault name value word h d e f =
    ap₂ (λ (t : Bool) (o : Option (Text × Option Text)). if t then [] else flag_word_fault rules false o word h) d e ∙ ap (λ (o : Option Rule). long_fault rules false o value h) f

-- the step at a word
abbrev StepAt : List Row → View → Pending → Bool → Text → Type 0
StepAt rows v p b word = Step (walk_at rows p b false) word (with_word (reading v p false) word)

step_workers_option : (rows : List Row) (v : View) (p : Pending) (b : Bool) (value : Option Text) → Settled rows v p → StepAt rows v p b (45 ∷ 45 ∷ joined (codes "workers") value)
step_workers_option rows v p b None due = workers_wanted rows v p b due
step_workers_option rows v p b (Some x) due = step_workers rows v p b x due

step_generate_option : (rows : List Row) (v : View) (p : Pending) (b : Bool) (value : Option Text) → Settled rows v p → StepAt rows v p b (45 ∷ 45 ∷ joined (codes "generate") value)
step_generate_option rows v p b None due = generate_wanted rows v p b due
step_generate_option rows v p b (Some x) due = step_generate rows v p b x due

step_list_option : (rows : List Row) (v : View) (p : Pending) (b : Bool) (value : Option Text) → Settled rows v p → StepAt rows v p b (45 ∷ 45 ∷ joined (codes "list") value)
step_list_option rows v p b None due = step_list rows v p b due
step_list_option rows v p b (Some x) due = step_list_value rows v p b x

-- the same of a word that is one of these
named_option : (rows : List Row) (v : View) (p : Pending) (b : Bool) (word name n : Text) (value : Option Text) → word ≡ 45 ∷ 45 ∷ joined name value → bytes_eq n name ≡ true
    → StepAt rows v p b (45 ∷ 45 ∷ joined n value) → StepAt rows v p b word
named_option rows v p b word name n value is same step =
    subst (StepAt rows v p b) (ap (λ (m : Text). 45 ∷ 45 ∷ joined m value) (equal_texts n name same) ∙ sym is) step

unknown_option : (rows : List Row) (v : View) (p : Pending) (b : Bool) (word name : Text) (value : Option Text) → bytes_eq word (codes "--") ≡ false → long_of word ≡ Some (name, value)
    → word ≡ 45 ∷ 45 ∷ joined name value → bytes_eq (codes "workers") name ≡ false → bytes_eq (codes "generate") name ≡ false → bytes_eq (codes "list") name ≡ false → StepAt rows v p b word
unknown_option rows v p b word name value d e is w g l =
    step_refused rows p b word UnknownArgument [] (with_word (reading v p false) word) (unknown_fault name value word (held_at rows p) d e (unknown_arg name w g l))
    (refused_read v p word (ap value_of is ∙ dash_value (45 ∷ joined name value)) (ap names_article is) (unknown_word word name value d e w g l))

step_option : (rows : List Row) (v : View) (p : Pending) (b : Bool) (word name : Text) (value : Option Text) → Settled rows v p → bytes_eq word (codes "--") ≡ false → long_of word ≡ Some (name, value)
    → word ≡ 45 ∷ 45 ∷ joined name value → StepAt rows v p b word
step_option rows v p b word name value due d e is = by_workers (bytes_eq (codes "workers") name) refl
  where
    by_list : bytes_eq (codes "workers") name ≡ false → bytes_eq (codes "generate") name ≡ false → (t : Bool) → bytes_eq (codes "list") name ≡ t → StepAt rows v p b word
    by_list w g true l = named_option rows v p b word name (codes "list") value is l (step_list_option rows v p b value due)
    by_list w g false l = unknown_option rows v p b word name value d e is w g l

    by_generate : bytes_eq (codes "workers") name ≡ false → (t : Bool) → bytes_eq (codes "generate") name ≡ t → StepAt rows v p b word
    by_generate w true g = named_option rows v p b word name (codes "generate") value is g (step_generate_option rows v p b value due)
    by_generate w false g = by_list w g (bytes_eq (codes "list") name) refl

    by_workers : (t : Bool) → bytes_eq (codes "workers") name ≡ t → StepAt rows v p b word
    by_workers true w = named_option rows v p b word name (codes "workers") value is w (step_workers_option rows v p b value due)
    by_workers false w = by_generate w (bytes_eq (codes "generate") name) refl

-- ---- words of one dash, and words of none

-- what a word that isn't `--name` comes to, and what it is refused for
no_long_met : (waiting : Waiting) (word : Text) (h : Held) (o : Option Text) → bytes_eq word (codes "--") ≡ false → long_of word ≡ None → short_of word ≡ o
    → word_met rules [] false waiting 1 word h ≡ short_or_plain rules waiting word o h
no_long_met waiting word h o d e f =
    met_is waiting word h ∙ ap₂ (λ (t : Bool) (l : Option (Text × Option Text)). if t then (h, trailing 1) else long_or_other rules waiting word l h) d e
    ∙ ap (λ (s : Option Text). short_or_plain rules waiting word s h) f

abbrev bundle_fault_at : Option Text → Held → Kinds
bundle_fault_at o h = option_map_or (λ flags. bundle_fault rules false flags h) o []

no_long_fault : (word : Text) (h : Held) (o : Option Text) → bytes_eq word (codes "--") ≡ false → long_of word ≡ None → short_of word ≡ o → fault_at word h ≡ bundle_fault_at o h
no_long_fault word h o d e f =
    ap₂ (λ (t : Bool) (l : Option (Text × Option Text)). if t then [] else flag_word_fault rules false l word h) d e ∙ ap (λ (s : Option Text). bundle_fault_at s h) f

-- no option has one letter, so a letter is refused; and there is one, where the bytes are text
bundle_fault_at-flag_refused : (rows : List Row) (p : Pending) (y x : ℕ) (ys : Text) → slice_get (chars (y ∷ ys)) 0 ≡ Some x → bundle_fault_at (Some (y ∷ ys)) (held_at rows p) ≡ UnknownArgument ∷ []
unfolding flags_fault
bundle_fault_at-flag_refused rows p y x ys e = ap (λ (o : Option ℕ). bundle_step_fault rules false o (y ∷ ys) 0 (held_at rows p) (flags_fault rules false (length ys))) e

no_flag_fault : (rows : List Row) (p : Pending) (y : ℕ) (ys : Text) → slice_get (chars (y ∷ ys)) 0 ≡ None → bundle_fault_at (Some (y ∷ ys)) (held_at rows p) ≡ []
unfolding flags_fault
no_flag_fault rows p y ys e = ap (λ (o : Option ℕ). bundle_step_fault rules false o (y ∷ ys) 0 (held_at rows p) (flags_fault rules false (length ys))) e

abbrev flag_step : Waiting → Text → Held → Text → Option ℕ → (Text → ℕ → Outcome → Held → Held × Outcome) → Held × ClapStep
flag_step waiting word h flags o more = after_flag rules waiting word (bundle_step rules o flags 0 PlainWord h more).0 (bundle_step rules o flags 0 PlainWord h more).1

short_or_plain-no_flag_met : (waiting : Waiting) (word : Text) (rows : List Row) (p : Pending) (y : ℕ) (ys : Text) → slice_get (chars (y ∷ ys)) 0 ≡ None
    → short_or_plain rules waiting word (Some (y ∷ ys)) (held_at rows p) ≡ plain_word rules waiting word (held_at rows p)
unfolding bundle_met
short_or_plain-no_flag_met waiting word rows p y ys e = ap (λ (o : Option ℕ). flag_step waiting word (held_at rows p) (y ∷ ys) o (bundle_met rules (length ys))) e

step_short : (rows : List Row) (v : View) (p : Pending) (b : Bool) (word : Text) (y : ℕ) (ys : Text) → Shows rows v → word ≡ 45 ∷ y ∷ ys → bytes_eq word (codes "--") ≡ false → long_of word ≡ None
    → short_of word ≡ Some (y ∷ ys) → option_word word ≡ Other → (o : Option ℕ) → slice_get (chars (y ∷ ys)) 0 ≡ o → StepAt rows v p b word
step_short rows v p b word y ys shown at d e f is None c =
    step_plain rows v p b word shown (no_long_met (waiting_for p b) word (held_at rows p) (Some (y ∷ ys)) d e f ∙ short_or_plain-no_flag_met (waiting_for p b) word rows p y ys c)
    (no_long_fault word (held_at rows p) (Some (y ∷ ys)) d e f ∙ no_flag_fault rows p y ys c) is
step_short rows v p b word y ys shown at d e f is (Some x) c =
    step_refused rows p b word UnknownArgument [] (with_word (reading v p false) word) (no_long_fault word (held_at rows p) (Some (y ∷ ys)) d e f ∙ bundle_fault_at-flag_refused rows p y x ys c)
    (refused_read v p word (ap value_of at ∙ dash_value (y ∷ ys)) (ap names_article at) is)

step_kind : (rows : List Row) (v : View) (p : Pending) (b : Bool) (word : Text) → Shows rows v → Kind word → StepAt rows v p b word
step_kind rows v p b word shown (dashes is) = subst (StepAt rows v p b) (sym is) (step_separator rows v p b shown)
step_kind rows v p b word shown (long name value d e is) = step_option rows v p b word name value (settle rows v p shown) d e is
step_kind rows v p b word shown (short y ys at d e f is) = step_short rows v p b word y ys shown at d e f is (slice_get (chars (y ∷ ys)) 0) refl
step_kind rows v p b word shown (plain d e f is) =
    step_plain rows v p b word shown (no_long_met (waiting_for p b) word (held_at rows p) None d e f) (no_long_fault word (held_at rows p) None d e f) is

-- ---- any word

pub step_word : (rows : List Row) (v : View) (p : Pending) (b t : Bool) (word : Text) → Shows rows v → Step (walk_at rows p b t) word (with_word (reading v p t) word)
step_word rows v p b true word shown = step_trailing rows v p b word (settle rows v p shown)
step_word rows v p b false word shown = step_kind rows v p b word shown (kind_of_word word)
