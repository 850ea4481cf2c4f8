-- A walk over one word, beside the definition of an order.
use Rattle.std.proofs.Common.{◌≡◌, ℕ, Bool, true, false, if◌then◌else◌, List, [], ◌∷◌, ◌++◌, Option, Some, None, is_some, refl, ap, ap₂, sym, ◌∙◌, codes}
use Rattle.std.specs.Str.{bytes_eq}
use Rattle.clap.specs.Lexer.{long_of}
use Rattle.clap.specs.Walk.{Held, Row, Step as ClapStep, Text, Waiting, Walk, after_step, arg_by_index, idle, long_or_other, next, option, plain_word, positional, settled_rows, subcommand_met, to_positional, trailing, value, walked, word_met}
use Rattle.clap.specs.Kinds.{Kinds, or_else}
use Rattle.clap.specs.Faults.{flag_word_fault, other_fault, settle_fault, step_fault, turn_fault}
use Rattle.clap.specs.declared.error.kind.ErrorKind.{ErrorKind}
use Rattle.mz_words.specs.Expected.{AnyWord, Workers, Generated, NamesAlone}
use Rattle.mz_words.specs.OptionWord.{Separator, Other, option_word}
use Rattle.mz_words.specs.Reading.{Reading}
use Rattle.mz_words.specs.Words.{value_of, names_article, with_word}
use Rattle.mz_words.specs.Given.{given_value, value_within, with_name, named}
use Rattle.mz_words.proofs.ReadingLemmas.{reading_with, with_word-any-separator, with_word-any-name, with_word-trailing-name, with_word-wanted-workers, with_word-wanted-workers_again, with_word-wanted-workers_none, with_word-wanted-generate, with_word-wanted-generate_again, with_word-wanted-generate_none, named-push, with_name-none, reading_with-faulty-names}
use Rattle.mz_words.proofs.StateLemmas.{top, rules, View, Shows, Pending, Nothing, Name, WorkersWanted, WorkersHeld, GenerateWanted, GenerateHeld, pending_of, waiting_for, held_at, walk_at, base, reading, is_wanted, Settled, settles, stops, settle}

-- the walk goes on, and stands where the definition stands; or the word is refused, and no order begins so
pub data Step (w : Walk) (word : Text) (o : Option Reading) : Type 0 where
  goes : (rows : List Row) (v : View) (p : Pending) (b t : Bool) → Shows rows v → turn_fault top [] w word ≡ [] → walked rules [] w word ≡ walk_at rows p b t → o ≡ reading v p t → Step w word o
  fails : (k : ErrorKind) (ks : Kinds) → turn_fault top [] w word ≡ k ∷ ks → o ≡ None → Step w word o

-- ---- a word that goes to the names

place_word : (rows : List Row) (p : Pending) (b t : Bool) (word : Text)
    → to_positional rules (arg_by_index rules 1) word (walk_at rows p b t) (held_at rows p) ≡ walk_at (settled_rows rules (pending_of p) rows) (Name word) true t
place_word rows Nothing b true word = refl
place_word rows Nothing b false word = refl
place_word rows (Name n) b true word = refl
place_word rows (Name n) b false word = refl
place_word rows WorkersWanted b true word = refl
place_word rows WorkersWanted b false word = refl
place_word rows (WorkersHeld x) b true word = refl
place_word rows (WorkersHeld x) b false word = refl
place_word rows GenerateWanted b true word = refl
place_word rows GenerateWanted b false word = refl
place_word rows (GenerateHeld x) b true word = refl
place_word rows (GenerateHeld x) b false word = refl

place_fault : (rows : List Row) (p : Pending) → step_fault top 1 (held_at rows p) value ≡ settle_fault rules false (held_at rows p)
place_fault rows Nothing = refl
place_fault rows (Name n) = refl
place_fault rows WorkersWanted = refl
place_fault rows (WorkersHeld x) = refl
place_fault rows GenerateWanted = refl
place_fault rows (GenerateHeld x) = refl

-- one more name, where any word may come and behind `--`
more_names : (v : View) (word : Text) → reading_with (given_value 16 v.workers) (given_value 512 v.generate) v.list (with_name (named v.names) word) AnyWord
    ≡ base (record v { names = v.names ++ word ∷ [] }) AnyWord
more_names v word = ap (λ (n : Option (List ℕ)). reading_with (given_value 16 v.workers) (given_value 512 v.generate) v.list n AnyWord) (sym (named-push v.names word))

more_names_alone : (v : View) (word : Text) → reading_with (given_value 16 v.workers) (given_value 512 v.generate) v.list (with_name (named v.names) word) NamesAlone
    ≡ base (record v { names = v.names ++ word ∷ [] }) NamesAlone
more_names_alone v word = ap (λ (n : Option (List ℕ)). reading_with (given_value 16 v.workers) (given_value 512 v.generate) v.list n NamesAlone) (sym (named-push v.names word))

with_word-read_alone : (v : View) (word : Text) → with_word (base v NamesAlone) word ≡ base (record v { names = v.names ++ word ∷ [] }) NamesAlone
with_word-read_alone v word = with_word-trailing-name (given_value 16 v.workers) (given_value 512 v.generate) v.list (named v.names) word ∙ more_names_alone v word

with_word-read_name : (v : View) (word : Text) → option_word word ≡ Other → with_word (base v AnyWord) word ≡ base (record v { names = v.names ++ word ∷ [] }) AnyWord
with_word-read_name v word is = with_word-any-name (given_value 16 v.workers) (given_value 512 v.generate) v.list (named v.names) word is ∙ more_names v word

-- ---- behind `--`

trailing_walked : (rows : List Row) (p : Pending) (b : Bool) (word : Text) → walked rules [] (walk_at rows p b true) word ≡ to_positional rules (arg_by_index rules 1) word (walk_at rows p b true) (held_at rows p)
unfolding walked
trailing_walked rows p b word = refl

trailing_turn : (rows : List Row) (p : Pending) (b : Bool) (word : Text) → turn_fault top [] (walk_at rows p b true) word ≡ step_fault top 1 (held_at rows p) value
trailing_turn rows p b word = refl

pub step_trailing : (rows : List Row) (v : View) (p : Pending) (b : Bool) (word : Text) → Settled rows v p → Step (walk_at rows p b true) word (with_word (reading v p true) word)
step_trailing rows v p b word (settles after fault shown same) =
    goes (settled_rows rules (pending_of p) rows) after (Name word) true true shown (trailing_turn rows p b word ∙ place_fault rows p ∙ fault)
    (trailing_walked rows p b word ∙ place_word rows p b true word) (ap (λ (o : Option Reading). with_word o word) (same true) ∙ with_word-read_alone after word)
step_trailing rows v p b word (stops k ks fault end) =
    fails k ks (trailing_turn rows p b word ∙ place_fault rows p ∙ fault) (ap (λ (o : Option Reading). with_word o word) end.trailing)

-- ---- where options are read

no_subcommand : (waiting : Waiting) (word : Text) → subcommand_met [] waiting word ≡ None
no_subcommand idle word = refl
no_subcommand (option id) word = refl
no_subcommand positional word = refl

-- what the word comes to, and what it is refused for
abbrev pub met_at : List Row → Pending → Bool → Text → Held × ClapStep
met_at rows p b word = word_met rules [] false (waiting_for p b) 1 word (held_at rows p)

abbrev without_names : Waiting → Text → Held → Held × ClapStep
without_names waiting word h = if bytes_eq word (45 ∷ 45 ∷ []) then (h, trailing 1) else long_or_other rules waiting word (long_of word) h

pub met_is : (waiting : Waiting) (word : Text) (h : Held) → word_met rules [] false waiting 1 word h ≡ without_names waiting word h
met_is idle word h = refl
met_is (option id) word h = refl
met_is positional word h = refl

abbrev pub fault_at : Text → Held → Kinds
fault_at word h = if bytes_eq word (45 ∷ 45 ∷ []) then [] else flag_word_fault rules false (long_of word) word h

pub turn_is : (rows : List Row) (p : Pending) (b : Bool) (word : Text) (m : Held × ClapStep) (f : Kinds) → met_at rows p b word ≡ m → fault_at word (held_at rows p) ≡ f
    → turn_fault top [] (walk_at rows p b false) word ≡ or_else f (step_fault top 1 m.0 m.1)
turn_is rows p b word m f met fault =
    ap (λ (o : Option Text). or_else (other_fault top o word (held_at rows p)) (step_fault top 1 (met_at rows p b word).0 (met_at rows p b word).1)) (no_subcommand (waiting_for p b) word)
    ∙ ap₂ (λ (g : Kinds) (n : Held × ClapStep). or_else g (step_fault top 1 n.0 n.1)) fault met

pub walk_is : (rows : List Row) (p : Pending) (b : Bool) (word : Text) (m : Held × ClapStep) → met_at rows p b word ≡ m
    → walked rules [] (walk_at rows p b false) word ≡ after_step rules word (walk_at rows p b false) m.0 m.1
unfolding walked
walk_is rows p b word m met = ap (λ (n : Held × ClapStep). after_step rules word (walk_at rows p b false) n.0 n.1) met

-- a word that is refused at once
pub step_refused : (rows : List Row) (p : Pending) (b : Bool) (word : Text) (k : ErrorKind) (ks : Kinds) (o : Option Reading) → fault_at word (held_at rows p) ≡ k ∷ ks → o ≡ None
    → Step (walk_at rows p b false) word o
step_refused rows p b word k ks o fault none = fails k ks (turn_is rows p b word (met_at rows p b word) (k ∷ ks) refl fault) none

-- ---- `--`

separator_word : option_word (codes "--") ≡ Separator
unfolding option_word
separator_word = refl

separator_read : (v : View) (p : Pending) → with_word (reading v p false) (codes "--") ≡ reading v p true
separator_read v Nothing = with_word-any-separator (given_value 16 v.workers) (given_value 512 v.generate) v.list (named v.names) (codes "--") separator_word
separator_read v (Name n) = with_word-any-separator (given_value 16 v.workers) (given_value 512 v.generate) v.list (named (v.names ++ n ∷ [])) (codes "--") separator_word
separator_read v WorkersWanted = with_word-wanted-workers_none (given_value 16 v.workers) (given_value 512 v.generate) v.list (named v.names) (codes "--") refl
separator_read v (WorkersHeld x) = go (is_some v.workers)
  where
    go : (t : Bool) → with_word (if t then None else base (record v { workers = Some x }) AnyWord) (codes "--") ≡ (if t then None else base (record v { workers = Some x }) NamesAlone)
    go true = refl
    go false = with_word-any-separator (given_value 16 (Some x)) (given_value 512 v.generate) v.list (named v.names) (codes "--") separator_word
separator_read v GenerateWanted = with_word-wanted-generate_none (given_value 16 v.workers) (given_value 512 v.generate) v.list (named v.names) (codes "--") refl
separator_read v (GenerateHeld x) = go (is_some v.generate)
  where
    go : (t : Bool) → with_word (if t then None else base (record v { generate = Some x }) AnyWord) (codes "--") ≡ (if t then None else base (record v { generate = Some x }) NamesAlone)
    go true = refl
    go false = with_word-any-separator (given_value 16 v.workers) (given_value 512 (Some x)) v.list (named v.names) (codes "--") separator_word

pub step_separator : (rows : List Row) (v : View) (p : Pending) (b : Bool) → Shows rows v → Step (walk_at rows p b false) (codes "--") (with_word (reading v p false) (codes "--"))
step_separator rows v p b shown =
    goes rows v p b true shown (turn_is rows p b (codes "--") (held_at rows p, trailing 1) [] (met_is (waiting_for p b) (codes "--") (held_at rows p)) refl)
    (walk_is rows p b (codes "--") (held_at rows p, trailing 1) (met_is (waiting_for p b) (codes "--") (held_at rows p))) (separator_read v p)

-- ---- words that are no option

-- a value that an option waits for
value_met : (rows : List Row) (v : View) (word : Text) (b : Bool) → Shows rows v → met_at rows WorkersWanted b word ≡ (held_at rows (WorkersHeld word), next idle) → fault_at word (held_at rows WorkersWanted) ≡ []
    → (o : Option Text) → v.workers ≡ o → Step (walk_at rows WorkersWanted b false) word (with_word (reading v WorkersWanted false) word)
value_met rows v word b shown met fault o is =
    goes rows v (WorkersHeld word) false false shown (turn_is rows WorkersWanted b word (held_at rows (WorkersHeld word), next idle) [] met fault)
    (walk_is rows WorkersWanted b word (held_at rows (WorkersHeld word), next idle) met) (go o is)
  where
    go : (o : Option Text) → v.workers ≡ o → with_word (base v Workers) word ≡ reading v (WorkersHeld word) false
    go None e = rw e (with_word-wanted-workers (given_value 512 v.generate) v.list (named v.names) word)
    go (Some y) e = rw e (with_word-wanted-workers_again (value_within 16 y) (given_value 512 v.generate) v.list (named v.names) word)

made_met : (rows : List Row) (v : View) (word : Text) (b : Bool) → Shows rows v → met_at rows GenerateWanted b word ≡ (held_at rows (GenerateHeld word), next idle) → fault_at word (held_at rows GenerateWanted) ≡ []
    → (o : Option Text) → v.generate ≡ o → Step (walk_at rows GenerateWanted b false) word (with_word (reading v GenerateWanted false) word)
made_met rows v word b shown met fault o is =
    goes rows v (GenerateHeld word) false false shown (turn_is rows GenerateWanted b word (held_at rows (GenerateHeld word), next idle) [] met fault)
    (walk_is rows GenerateWanted b word (held_at rows (GenerateHeld word), next idle) met) (go o is)
  where
    go : (o : Option Text) → v.generate ≡ o → with_word (base v Generated) word ≡ reading v (GenerateHeld word) false
    go None e = rw e (with_word-wanted-generate (given_value 16 v.workers) v.list (named v.names) word)
    go (Some y) e = rw e (with_word-wanted-generate_again (value_within 512 y) (given_value 16 v.workers) v.list (named v.names) word)

-- a name, where nothing waits for a value
name_met : (rows : List Row) (v : View) (p : Pending) (b : Bool) (word : Text) → is_wanted p ≡ false → met_at rows p b word ≡ (held_at rows p, value) → fault_at word (held_at rows p) ≡ []
    → option_word word ≡ Other → Settled rows v p → Step (walk_at rows p b false) word (with_word (reading v p false) word)
name_met rows v p b word free met fault is (settles after due shown same) =
    goes (settled_rows rules (pending_of p) rows) after (Name word) true false shown (turn_is rows p b word (held_at rows p, value) [] met fault ∙ place_fault rows p ∙ due)
    (walk_is rows p b word (held_at rows p, value) met ∙ place_word rows p b false word) (ap (λ (o : Option Reading). with_word o word) (same false) ∙ with_word-read_name after word is)
name_met rows v p b word free met fault is (stops k ks due end) =
    fails k ks (turn_is rows p b word (held_at rows p, value) [] met fault ∙ place_fault rows p ∙ due) (ap (λ (o : Option Reading). with_word o word) (end.plain free))

idle_plain : (rows : List Row) (b : Bool) (word : Text) (h : Held) → plain_word rules (waiting_for Nothing b) word h ≡ (h, value)
idle_plain rows true word h = refl
idle_plain rows false word h = refl

pub step_plain : (rows : List Row) (v : View) (p : Pending) (b : Bool) (word : Text) → Shows rows v → met_at rows p b word ≡ plain_word rules (waiting_for p b) word (held_at rows p)
    → fault_at word (held_at rows p) ≡ [] → option_word word ≡ Other → Step (walk_at rows p b false) word (with_word (reading v p false) word)
step_plain rows v Nothing b word shown met fault is = name_met rows v Nothing b word refl (met ∙ idle_plain rows b word (held_at rows Nothing)) fault is (settle rows v Nothing shown)
step_plain rows v (Name n) b word shown met fault is = name_met rows v (Name n) b word refl (met ∙ idle_plain rows b word (held_at rows (Name n))) fault is (settle rows v (Name n) shown)
step_plain rows v WorkersWanted b word shown met fault is = value_met rows v word b shown met fault v.workers refl
step_plain rows v (WorkersHeld x) b word shown met fault is =
    name_met rows v (WorkersHeld x) b word refl (met ∙ idle_plain rows b word (held_at rows (WorkersHeld x))) fault is (settle rows v (WorkersHeld x) shown)
step_plain rows v GenerateWanted b word shown met fault is = made_met rows v word b shown met fault v.generate refl
step_plain rows v (GenerateHeld x) b word shown met fault is =
    name_met rows v (GenerateHeld x) b word refl (met ∙ idle_plain rows b word (held_at rows (GenerateHeld x))) fault is (settle rows v (GenerateHeld x) shown)

-- ---- words that are refused

with_word-refused_name : (v : View) (word : Text) → names_article word ≡ false → option_word word ≡ Other → with_word (base v AnyWord) word ≡ None
with_word-refused_name v word isnt is =
    with_word-any-name (given_value 16 v.workers) (given_value 512 v.generate) v.list (named v.names) word is
    ∙ ap (λ (n : Option (List ℕ)). reading_with (given_value 16 v.workers) (given_value 512 v.generate) v.list n AnyWord) (with_name-none (named v.names) word isnt)
    ∙ reading_with-faulty-names (given_value 16 v.workers) (given_value 512 v.generate) v.list AnyWord

pub refused_read : (v : View) (p : Pending) (word : Text) → value_of word ≡ None → names_article word ≡ false → option_word word ≡ Other → with_word (reading v p false) word ≡ None
refused_read v Nothing word none isnt is = with_word-refused_name v word isnt is
refused_read v (Name n) word none isnt is = with_word-refused_name (record v { names = v.names ++ n ∷ [] }) word isnt is
refused_read v WorkersWanted word none isnt is = with_word-wanted-workers_none (given_value 16 v.workers) (given_value 512 v.generate) v.list (named v.names) word none
refused_read v (WorkersHeld x) word none isnt is = go (is_some v.workers)
  where
    go : (t : Bool) → with_word (if t then None else base (record v { workers = Some x }) AnyWord) word ≡ None
    go true = refl
    go false = with_word-refused_name (record v { workers = Some x }) word isnt is
refused_read v GenerateWanted word none isnt is = with_word-wanted-generate_none (given_value 16 v.workers) (given_value 512 v.generate) v.list (named v.names) word none
refused_read v (GenerateHeld x) word none isnt is = go (is_some v.generate)
  where
    go : (t : Bool) → with_word (if t then None else base (record v { generate = Some x }) AnyWord) word ≡ None
    go true = refl
    go false = with_word-refused_name (record v { generate = Some x }) word isnt is
