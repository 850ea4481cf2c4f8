-- One more word, by what is read so far.
use Rattle.std.proofs.Common.{◌≡◌, ℕ, nat_le, Bool, true, false, ◌&&◌, if◌then◌else◌, List, [], ◌∷◌, ◌++◌, drop, Option, Some, None, option_map, refl, sym}
use Rattle.std.proofs.lemmas.List.Sums.{fold-append}
use Rattle.mz_base.specs.Bytes.{raised}
use Rattle.mz_base.specs.Name.{number_of}
use Rattle.mz_words.specs.Expected.{Expected, AnyWord, Workers, Generated, NamesAlone}
use Rattle.mz_words.specs.OptionWord.{Separator, ListWord, WorkersWord, GenerateWord, WorkersValue, GenerateValue, Other, option_word}
use Rattle.mz_words.specs.Reading.{Reading}
use Rattle.mz_words.specs.Words.{value_of, with_number, names_article, with_workers, with_generated, with_word, may_end, asked}
use Rattle.mz_words.specs.Given.{within, given_value, with_name, named, order_with}

-- what is read, by its parts; none where a part is faulty
abbrev pub reading_with : Option (Option ℕ) → Option (Option ℕ) → Bool → Option (List ℕ) → Expected → Option Reading
reading_with None g l n e = None
reading_with (Some a) None l n e = None
reading_with (Some a) (Some g) l None e = None
reading_with (Some a) (Some g) l (Some n) e = Some (record { expected = e; workers = a; list = l; generate = g; names = n })

reading_with-no_generate : (a : Option (Option ℕ)) (l : Bool) (n : Option (List ℕ)) (e : Expected) → reading_with a None l n e ≡ None
reading_with-no_generate None l n e = refl
reading_with-no_generate (Some a) l n e = refl

reading_with-no_names : (a g : Option (Option ℕ)) (l : Bool) (e : Expected) → reading_with a g l None e ≡ None
reading_with-no_names None g l e = refl
reading_with-no_names (Some a) None l e = refl
reading_with-no_names (Some a) (Some g) l e = refl

-- ---- where any word may come

pub with_word-any-separator : (a g : Option (Option ℕ)) (l : Bool) (n : Option (List ℕ)) (w : List ℕ) → option_word w ≡ Separator
    → with_word (reading_with a g l n AnyWord) w ≡ reading_with a g l n NamesAlone
with_word-any-separator None g l n w is = refl
with_word-any-separator (Some a) None l n w is = refl
with_word-any-separator (Some a) (Some g) l None w is = refl
with_word-any-separator (Some a) (Some g) l (Some n) w is = rw is

pub with_word-any-list : (a g : Option (Option ℕ)) (n : Option (List ℕ)) (w : List ℕ) → option_word w ≡ ListWord
    → with_word (reading_with a g false n AnyWord) w ≡ reading_with a g true n AnyWord
with_word-any-list None g n w is = refl
with_word-any-list (Some a) None n w is = refl
with_word-any-list (Some a) (Some g) None w is = refl
with_word-any-list (Some a) (Some g) (Some n) w is = rw is

pub with_word-any-list_again : (a g : Option (Option ℕ)) (n : Option (List ℕ)) (w : List ℕ) → option_word w ≡ ListWord → with_word (reading_with a g true n AnyWord) w ≡ None
with_word-any-list_again None g n w is = refl
with_word-any-list_again (Some a) None n w is = refl
with_word-any-list_again (Some a) (Some g) None w is = refl
with_word-any-list_again (Some a) (Some g) (Some n) w is = rw is

pub with_word-any-workers : (a g : Option (Option ℕ)) (l : Bool) (n : Option (List ℕ)) (w : List ℕ) → option_word w ≡ WorkersWord
    → with_word (reading_with a g l n AnyWord) w ≡ reading_with a g l n Workers
with_word-any-workers None g l n w is = refl
with_word-any-workers (Some a) None l n w is = refl
with_word-any-workers (Some a) (Some g) l None w is = refl
with_word-any-workers (Some a) (Some g) l (Some n) w is = rw is

pub with_word-any-generate : (a g : Option (Option ℕ)) (l : Bool) (n : Option (List ℕ)) (w : List ℕ) → option_word w ≡ GenerateWord
    → with_word (reading_with a g l n AnyWord) w ≡ reading_with a g l n Generated
with_word-any-generate None g l n w is = refl
with_word-any-generate (Some a) None l n w is = refl
with_word-any-generate (Some a) (Some g) l None w is = refl
with_word-any-generate (Some a) (Some g) l (Some n) w is = rw is

pub with_word-any-name : (a g : Option (Option ℕ)) (l : Bool) (n : Option (List ℕ)) (w : List ℕ) → option_word w ≡ Other
    → with_word (reading_with a g l n AnyWord) w ≡ reading_with a g l (with_name n w) AnyWord
with_word-any-name None g l n w is = refl
with_word-any-name (Some a) None l n w is = refl
with_word-any-name (Some a) (Some g) l None w is = refl
with_word-any-name (Some a) (Some g) l (Some n) w is = rw is (go (names_article w))
  where
    go : (t : Bool) → (if t then Some (record { expected = AnyWord; workers = a; list = l; generate = g; names = with_number n (number_of (raised w)) }) else None)
        ≡ reading_with (Some a) (Some g) l (if t then Some (with_number n (number_of (raised w))) else None) AnyWord
    go true = refl
    go false = refl

pub with_word-trailing-name : (a g : Option (Option ℕ)) (l : Bool) (n : Option (List ℕ)) (w : List ℕ)
    → with_word (reading_with a g l n NamesAlone) w ≡ reading_with a g l (with_name n w) NamesAlone
with_word-trailing-name None g l n w = refl
with_word-trailing-name (Some a) None l n w = refl
with_word-trailing-name (Some a) (Some g) l None w = refl
with_word-trailing-name (Some a) (Some g) l (Some n) w = go (names_article w)
  where
    go : (t : Bool) → (if t then Some (record { expected = NamesAlone; workers = a; list = l; generate = g; names = with_number n (number_of (raised w)) }) else None)
        ≡ reading_with (Some a) (Some g) l (if t then Some (with_number n (number_of (raised w))) else None) NamesAlone
    go true = refl
    go false = refl

-- ---- a value

-- a value of `--workers`
workers_taken : (e : Expected) (x : Option ℕ) (l : Bool) (n : List ℕ) (o : Option ℕ)
    → with_workers (record { expected = e; workers = None; list = l; generate = x; names = n }) o ≡ reading_with (option_map (λ k. Some k) (within 16 o)) (Some x) l (Some n) AnyWord
workers_taken e x l n None = refl
workers_taken e x l n (Some k) = in_range (nat_le 1 k && nat_le k 16)
  where
    in_range : (t : Bool) → (if t then Some (record { expected = AnyWord; workers = Some k; list = l; generate = x; names = n }) else None)
        ≡ reading_with (option_map (λ k. Some k) (if t then Some k else None)) (Some x) l (Some n) AnyWord
    in_range true = refl
    in_range false = refl

workers_again : (e : Expected) (y : ℕ) (x : Option ℕ) (l : Bool) (n : List ℕ) (o : Option ℕ) → with_workers (record { expected = e; workers = Some y; list = l; generate = x; names = n }) o ≡ None
workers_again e y x l n None = refl
workers_again e y x l n (Some k) = refl

pub with_word-any-workers_value : (x : Option (Option ℕ)) (l : Bool) (n : Option (List ℕ)) (w : List ℕ) → option_word w ≡ WorkersValue
    → with_word (reading_with (Some None) x l n AnyWord) w ≡ reading_with (given_value 16 (Some (drop 10 w))) x l n AnyWord
with_word-any-workers_value None l n w is = sym (reading_with-no_generate (given_value 16 (Some (drop 10 w))) l n AnyWord)
with_word-any-workers_value (Some x) l None w is = sym (reading_with-no_names (given_value 16 (Some (drop 10 w))) (Some x) l AnyWord)
with_word-any-workers_value (Some x) l (Some n) w is = rw is (workers_taken AnyWord x l n (value_of (drop 10 w)))

pub with_word-any-workers_again : (o : Option ℕ) (x : Option (Option ℕ)) (l : Bool) (n : Option (List ℕ)) (w : List ℕ) → option_word w ≡ WorkersValue
    → with_word (reading_with (option_map (λ k. Some k) o) x l n AnyWord) w ≡ None
with_word-any-workers_again None x l n w is = refl
with_word-any-workers_again (Some y) None l n w is = refl
with_word-any-workers_again (Some y) (Some x) l None w is = refl
with_word-any-workers_again (Some y) (Some x) l (Some n) w is = rw is (workers_again AnyWord y x l n (value_of (drop 10 w)))

pub with_word-wanted-workers : (x : Option (Option ℕ)) (l : Bool) (n : Option (List ℕ)) (w : List ℕ)
    → with_word (reading_with (Some None) x l n Workers) w ≡ reading_with (given_value 16 (Some w)) x l n AnyWord
with_word-wanted-workers None l n w = sym (reading_with-no_generate (given_value 16 (Some w)) l n AnyWord)
with_word-wanted-workers (Some x) l None w = sym (reading_with-no_names (given_value 16 (Some w)) (Some x) l AnyWord)
with_word-wanted-workers (Some x) l (Some n) w = workers_taken Workers x l n (value_of w)

pub with_word-wanted-workers_again : (o : Option ℕ) (x : Option (Option ℕ)) (l : Bool) (n : Option (List ℕ)) (w : List ℕ)
    → with_word (reading_with (option_map (λ k. Some k) o) x l n Workers) w ≡ None
with_word-wanted-workers_again None x l n w = refl
with_word-wanted-workers_again (Some y) None l n w = refl
with_word-wanted-workers_again (Some y) (Some x) l None w = refl
with_word-wanted-workers_again (Some y) (Some x) l (Some n) w = workers_again Workers y x l n (value_of w)

pub with_word-wanted-workers_none : (a g : Option (Option ℕ)) (l : Bool) (n : Option (List ℕ)) (w : List ℕ) → value_of w ≡ None → with_word (reading_with a g l n Workers) w ≡ None
with_word-wanted-workers_none None g l n w none = refl
with_word-wanted-workers_none (Some a) None l n w none = refl
with_word-wanted-workers_none (Some a) (Some g) l None w none = refl
with_word-wanted-workers_none (Some a) (Some g) l (Some n) w none = rw none

-- a value of `--generate`
generate_taken : (e : Expected) (x : Option ℕ) (l : Bool) (n : List ℕ) (o : Option ℕ)
    → with_generated (record { expected = e; workers = x; list = l; generate = None; names = n }) o ≡ reading_with (Some x) (option_map (λ k. Some k) (within 512 o)) l (Some n) AnyWord
generate_taken e x l n None = refl
generate_taken e x l n (Some k) = in_range (nat_le 1 k && nat_le k 512)
  where
    in_range : (t : Bool) → (if t then Some (record { expected = AnyWord; workers = x; list = l; generate = Some k; names = n }) else None)
        ≡ reading_with (Some x) (option_map (λ k. Some k) (if t then Some k else None)) l (Some n) AnyWord
    in_range true = refl
    in_range false = refl

generate_again : (e : Expected) (y : ℕ) (x : Option ℕ) (l : Bool) (n : List ℕ) (o : Option ℕ) → with_generated (record { expected = e; workers = x; list = l; generate = Some y; names = n }) o ≡ None
generate_again e y x l n None = refl
generate_again e y x l n (Some k) = refl

pub with_word-any-generate_value : (x : Option (Option ℕ)) (l : Bool) (n : Option (List ℕ)) (w : List ℕ) → option_word w ≡ GenerateValue
    → with_word (reading_with x (Some None) l n AnyWord) w ≡ reading_with x (given_value 512 (Some (drop 11 w))) l n AnyWord
with_word-any-generate_value None l n w is = refl
with_word-any-generate_value (Some x) l None w is = sym (reading_with-no_names (Some x) (given_value 512 (Some (drop 11 w))) l AnyWord)
with_word-any-generate_value (Some x) l (Some n) w is = rw is (generate_taken AnyWord x l n (value_of (drop 11 w)))

pub with_word-any-generate_again : (o : Option ℕ) (x : Option (Option ℕ)) (l : Bool) (n : Option (List ℕ)) (w : List ℕ) → option_word w ≡ GenerateValue
    → with_word (reading_with x (option_map (λ k. Some k) o) l n AnyWord) w ≡ None
with_word-any-generate_again None None l n w is = refl
with_word-any-generate_again None (Some x) l n w is = refl
with_word-any-generate_again (Some y) None l n w is = refl
with_word-any-generate_again (Some y) (Some x) l None w is = refl
with_word-any-generate_again (Some y) (Some x) l (Some n) w is = rw is (generate_again AnyWord y x l n (value_of (drop 11 w)))

pub with_word-wanted-generate : (x : Option (Option ℕ)) (l : Bool) (n : Option (List ℕ)) (w : List ℕ)
    → with_word (reading_with x (Some None) l n Generated) w ≡ reading_with x (given_value 512 (Some w)) l n AnyWord
with_word-wanted-generate None l n w = refl
with_word-wanted-generate (Some x) l None w = sym (reading_with-no_names (Some x) (given_value 512 (Some w)) l AnyWord)
with_word-wanted-generate (Some x) l (Some n) w = generate_taken Generated x l n (value_of w)

pub with_word-wanted-generate_again : (o : Option ℕ) (x : Option (Option ℕ)) (l : Bool) (n : Option (List ℕ)) (w : List ℕ)
    → with_word (reading_with x (option_map (λ k. Some k) o) l n Generated) w ≡ None
with_word-wanted-generate_again None None l n w = refl
with_word-wanted-generate_again None (Some x) l n w = refl
with_word-wanted-generate_again (Some y) None l n w = refl
with_word-wanted-generate_again (Some y) (Some x) l None w = refl
with_word-wanted-generate_again (Some y) (Some x) l (Some n) w = generate_again Generated y x l n (value_of w)

pub with_word-wanted-generate_none : (a g : Option (Option ℕ)) (l : Bool) (n : Option (List ℕ)) (w : List ℕ) → value_of w ≡ None → with_word (reading_with a g l n Generated) w ≡ None
with_word-wanted-generate_none None g l n w none = refl
with_word-wanted-generate_none (Some a) None l n w none = refl
with_word-wanted-generate_none (Some a) (Some g) l None w none = refl
with_word-wanted-generate_none (Some a) (Some g) l (Some n) w none = rw none

-- ---- at the end

pub asked-ended-wanted : (a g : Option (Option ℕ)) (l : Bool) (n : Option (List ℕ)) (e : Expected) → may_end e ≡ false → asked (reading_with a g l n e) ≡ None
asked-ended-wanted None g l n e isnt = refl
asked-ended-wanted (Some a) None l n e isnt = refl
asked-ended-wanted (Some a) (Some g) l None e isnt = refl
asked-ended-wanted (Some a) (Some g) l (Some n) e isnt = rw isnt

pub asked-ended : (a g : Option (Option ℕ)) (l : Bool) (n : Option (List ℕ)) (e : Expected) → may_end e ≡ true → asked (reading_with a g l n e) ≡ order_with a g l n
asked-ended None g l n e may = refl
asked-ended (Some a) None l n e may = refl
asked-ended (Some a) (Some g) l None e may = refl
asked-ended (Some a) (Some g) l (Some n) e may = rw may

-- one more name
pub named-push : (ws : List (List ℕ)) (w : List ℕ) → named (ws ++ w ∷ []) ≡ with_name (named ws) w
named-push ws w = fold-append with_name (Some []) ws (w ∷ [])

pub with_name-none : (n : Option (List ℕ)) (w : List ℕ) → names_article w ≡ false → with_name n w ≡ None
with_name-none None w isnt = refl
with_name-none (Some n) w isnt = rw isnt

pub reading_with-faulty-names : (a g : Option (Option ℕ)) (l : Bool) (e : Expected) → reading_with a g l None e ≡ None
reading_with-faulty-names a g l e = reading_with-no_names a g l e
