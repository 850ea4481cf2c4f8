-- The numbers of an order are within their bounds.
use Rattle.std.proofs.Common.{◌≡◌, ℕ, ◌≤◌, Bool, true, false, ◌&&◌, nat_le, if◌then◌else◌, List, [], ◌∷◌, refl, sym, subst, ap, ◌∙◌, lit≤}
use Rattle.std.specs.Prelude.{Option, Some, None, fold, drop, is_some, is_none, unwrap_or}
use Rattle.std.proofs.lemmas.Bool.{leb-true}
use Rattle.mz_base.proofs.NameLemmas.{and_left, and_right}
use Rattle.mz_words.specs.Expected.{Expected, AnyWord, Workers, Generated, NamesAlone}
use Rattle.mz_words.specs.OptionWord.{OptionWord, Separator, ListWord, WorkersWord, GenerateWord, WorkersValue, GenerateValue, Other, option_word}
use Rattle.mz_words.specs.Reading.{Reading}
use Rattle.mz_words.specs.Words.{Asked, value_of, with_workers, with_generated, with_list, with_named, with_option, with_word_at, with_word, unread, may_end, asks_for, asked, order_of, names_article}
use Rattle.mz_order_laws.specs.Bounds.{IsBounded}

-- a number that was read is 1 to `most`
abbrev IsWithin : ℕ → Option ℕ → Type 0
IsWithin most None = Unit {0}
IsWithin most (Some n) = (1 ≤ n) × (n ≤ most)

abbrev IsRead : Reading → Type 0
IsRead r = IsWithin 16 r.workers × IsWithin 512 r.generate

abbrev AreRead : Option Reading → Type 0
AreRead None = Unit {0}
AreRead (Some r) = IsRead r

if_kept : (b : Bool) (r : Reading) → (b ≡ true → IsRead r) → AreRead (if b then Some r else None)
if_kept true r h = h refl
if_kept false r h = tt

if_other : (b : Bool) (r : Reading) → (b ≡ false → IsRead r) → AreRead (if b then None else Some r)
if_other true r h = tt
if_other false r h = h refl

workers_kept : (r : Reading) (o : Option ℕ) → IsRead r → AreRead (with_workers r o)
workers_kept r None h = tt
workers_kept r (Some n) h =
    if_kept (is_none r.workers && nat_le 1 n && nat_le n 16) (record r { expected = AnyWord; workers = Some n })
    (λ e. ((leb-true 1 n (and_right (is_none r.workers) (nat_le 1 n) (and_left (is_none r.workers && nat_le 1 n) (nat_le n 16) e)), leb-true n 16 (and_right (is_none r.workers && nat_le 1 n) (nat_le n 16) e)), h.1))

generated_kept : (r : Reading) (o : Option ℕ) → IsRead r → AreRead (with_generated r o)
generated_kept r None h = tt
generated_kept r (Some n) h =
    if_kept (is_none r.generate && nat_le 1 n && nat_le n 512) (record r { expected = AnyWord; generate = Some n })
    (λ e. (h.0, (leb-true 1 n (and_right (is_none r.generate) (nat_le 1 n) (and_left (is_none r.generate && nat_le 1 n) (nat_le n 512) e)), leb-true n 512 (and_right (is_none r.generate && nat_le 1 n) (nat_le n 512) e))))

list_kept : (r : Reading) → IsRead r → AreRead (with_list r)
list_kept r h = if_other r.list (record r { list = true }) (λ e. h)

named_kept : (r : Reading) (w : List ℕ) → IsRead r → AreRead (with_named r w)
named_kept r w h = if_kept (names_article w) _ (λ e. h)

option_kept : (o : OptionWord) (r : Reading) (w : List ℕ) → IsRead r → AreRead (with_option o r w)
option_kept Separator r w h = h
option_kept ListWord r w h = list_kept r h
option_kept WorkersWord r w h = h
option_kept GenerateWord r w h = h
option_kept WorkersValue r w h = workers_kept r (value_of (drop 10 w)) h
option_kept GenerateValue r w h = generated_kept r (value_of (drop 11 w)) h
option_kept Other r w h = named_kept r w h

word_kept_at : (x : Expected) (r : Reading) (w : List ℕ) → IsRead r → AreRead (with_word_at x r w)
word_kept_at AnyWord r w h = option_kept (option_word w) r w h
word_kept_at Workers r w h = workers_kept r (value_of w) h
word_kept_at Generated r w h = generated_kept r (value_of w) h
word_kept_at NamesAlone r w h = named_kept r w h

word_kept : (o : Option Reading) (w : List ℕ) → AreRead o → AreRead (with_word o w)
word_kept None w h = tt
word_kept (Some r) w h = word_kept_at r.expected r w h

words_kept : (ws : List (List ℕ)) (o : Option Reading) → AreRead o → AreRead (fold with_word o ws)
words_kept [] o h = h
words_kept (w ∷ ws) o h = words_kept ws (with_word o w) (word_kept o w h)

some_workers : (o : Option ℕ) → IsWithin 16 o → (1 ≤ unwrap_or o 1) × (unwrap_or o 1 ≤ 16)
some_workers None h = (lit≤ tt, lit≤ tt)
some_workers (Some n) h = h

made_within : (o : Option ℕ) → IsWithin 512 o → (n : ℕ) → o ≡ Some n → (1 ≤ n) × (n ≤ 512)
made_within o h n e = subst (IsWithin 512) e h

bounded : (r : Reading) → IsRead r → IsBounded (record { workers = unwrap_or r.workers 1; list = r.list; generate = r.generate; names = r.names })
bounded r h = record {
  some_workers = (some_workers r.workers h.0).0;
  few_workers = (some_workers r.workers h.0).1;
  made = made_within r.generate h.1;
}

if_bounded : (b : Bool) (x a : Asked) → IsBounded x → (if b then Some x else None) ≡ Some a → IsBounded a
if_bounded true x a h e = let same : x ≡ a = cc in subst IsBounded same h
if_bounded false x a h e = absurd (let bad : ⊥ = cc in bad)

asked_bounded : (o : Option Reading) (a : Asked) → AreRead o → asked o ≡ Some a → IsBounded a
asked_bounded None a h e = absurd (let bad : ⊥ = cc in bad)
asked_bounded (Some r) a h e = if_bounded (may_end r.expected && asks_for r.names (is_some r.generate) r.list) _ a (bounded r h) e

pub order_bounded : (ws : List (List ℕ)) (a : Asked) → order_of ws ≡ Some a → IsBounded a
order_bounded ws a e = asked_bounded (fold with_word (Some unread) ws) a (words_kept ws (Some unread) (tt, tt)) e
