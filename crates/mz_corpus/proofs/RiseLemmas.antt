-- Why a gathering passes a limit.
use Rattle.std.proofs.Common.{◌≡◌, ℕ, ◌+◌, ◌-◌, ◌<◌, ◌≤◌, ◌⊎◌, Bool, true, false, cond, List, [], ◌∷◌, ◌++◌, Option, Some, None, Result, Ok, Err, length, get_or, take, refl, sym, ap, subst, ◌∙◌, arith, inl, inr, length-append, min, leb}
use Rattle.std.proofs.lemmas.Bool.{cases_lt}
use Rattle.std.proofs.lemmas.Bool.Decides.{nat_tests}
use Rattle.mz_base.specs.declared.name.Name.{Name}
use Rattle.mz_base.specs.declared.head.Directive.{Directive}
use Rattle.mz_base.specs.NamedText.{NamedText}
use Rattle.mz_io.specs.Count.{last_count, counted}
use Rattle.mz_io.specs.Shelf.{Answer, amount_after}
use Rattle.mz_corpus.specs.declared.gather_fault.GatherFault.{GatherFault}
use Rattle.mz_corpus.specs.declared.gather_fault.GatherFault.TheVariants.{Read, TooMuchText, TooManyArticles, TooLong, TooManyVocabularies, Memory}
use Rattle.mz_corpus.specs.Directives.{dependencies_of, vocabulary_names_of}
use Rattle.mz_corpus.specs.Gather.{Gathered, GatherResult, HasDirectives, IsBegun, Tells, queued, begun, with_source, texts_limit}
use Rattle.mz_corpus.specs.Source.{Source}
use Rattle.mz_corpus.specs.Rise.{HasRisen, IsLarge, OnLimit, OnTooLong, Raises, text_length, IsCharged, IsCovered, IsPaid, Pays}
use Rattle.mz_corpus.proofs.NamedLemmas.{queued-le, directives_named}

-- amounts

pub long_same : (X Y : Type 0) (f : GatherFault) (P Q : Type 0) → (P → Q) → OnTooLong {X = X} (Err f) P → OnTooLong {X = Y} (Err f) Q
long_same X Y Read P Q w h = tt
long_same X Y Memory P Q w h = tt
long_same X Y (TooMuchText bytes) P Q w h = tt
long_same X Y TooManyArticles P Q w h = tt
long_same X Y (TooLong name) P Q w h = w h
long_same X Y TooManyVocabularies P Q w h = tt

pub risen_before : (a b c n : ℕ) → a ≤ b → HasRisen b c n → HasRisen a c n
risen_before a b c n le (inl h) = inl (omega arith)
risen_before a b c n le (inr e) = inr e

-- after a call that answered Ok
pub Raises-refused : (W X Y : Type 0) (a b c : ℕ) (w : W) (f : GatherFault) → Raises {X = W} a b (Ok w) → Raises {X = X} b c (Err f) → Raises {X = Y} a c (Err f)
Raises-refused W X Y a b c w f h k = record {
  rises = (let x = h.rises in let y = k.rises in omega arith);
  stands = λ at. k.stands (h.stands at);
  too_long = long_same X Y f (HasRisen b c 1048577) (HasRisen a c 1048577) (risen_before a b c 1048577 h.rises) k.too_long;
}

pub Raises-on : {W X Y : Type 0} (a b c : ℕ) (w : W) (x : X) (y : Y) → Raises {X = W} a b (Ok w) → Raises {X = X} b c (Ok x) → Raises {X = Y} a c (Ok y)
Raises-on a b c w x y h k = record { rises = (let i = h.rises in let j = k.rises in omega arith); stands = λ at. k.stands (h.stands at); too_long = tt }

pub Raises-none : {X : Type 0} (a : ℕ) (x : X) → Raises {X = X} a a (Ok x)
Raises-none a x = record { rises = omega arith; stands = λ at. at; too_long = tt }

-- an article's text that was fetched, with the names in it
pub text_paid : (names start old new : ℕ) (g : Gathered) (r : Option (List ℕ) × ℕ) (ds : List Directive) → IsPaid names start old 0 g → IsCharged old new g.bytes (Ok r) → (old ≡ last_count → new ≡ last_count) → HasDirectives r.0 ds
    → IsPaid names start new (length (dependencies_of ds) + length (vocabulary_names_of ds)) (record g { bytes = r.1 })
text_paid names start old new g r ds (inr at) k stands has = inr (stands at)
text_paid names start old new g r ds (inl h) k stands has =
    elim k.1 [
      | inl more ↦ inl (record {
        named = (let n = h.named in let l = directives_named r.0 ds has in omega arith);
        given = (let given = h.given in let sum = k.0 in omega arith);
      })
      | inr at ↦ inr at
    ]

-- the same, for what is known of the directives by other values
pub take_paid : (names start old new : ℕ) (g : Gathered) (text : Option (List ℕ)) (bytes : ℕ) (ds es fs : List Directive) (dependencies vocabulary_names : List Name) → IsPaid names start old 0 g → IsCharged old new g.bytes (Ok (text, bytes)) → (old ≡ last_count → new ≡ last_count)
    → HasDirectives text ds → es ≡ ds → fs ≡ ds → dependencies ≡ dependencies_of es → vocabulary_names ≡ vocabulary_names_of fs → IsPaid names start new (length dependencies + length vocabulary_names) (record g { bytes = bytes })
take_paid names start old new g text bytes ds es fs dependencies vocabulary_names paid k stands has ee ef ed ev =
    let d : dependencies ≡ dependencies_of ds = ed ∙ ap dependencies_of ee in
    let v : vocabulary_names ≡ vocabulary_names_of ds = ev ∙ ap vocabulary_names_of ef in
    let h = text_paid names start old new g (text, bytes) ds paid k stands has in
    subst (λ n. IsPaid names start new n (record g { bytes = bytes })) (λ i. length (sym d i) + length (sym v i)) h

-- direct dependencies that are queued

abbrev IsQueueFull : Gathered → Source → Type 0
IsQueueFull g s = 512 < length (queued g.queue s.dependencies)

source_by : (g h : Gathered) (s : Source) (f : GatherFault) (b : Bool) → leb (length (queued g.queue s.dependencies)) 512 ≡ b
    → Err f ≡ cond b (Ok (record g { queue = queued g.queue s.dependencies; sources = g.sources ++ s ∷ [] })) (Err TooManyArticles) → IsQueueFull g s
source_by g h s f true e is = cc
source_by g h s f false e is = elim (cases_lt 512 (length (queued g.queue s.dependencies))) [ inl lt ↦ lt | inr le ↦ (let passes : leb (length (queued g.queue s.dependencies)) 512 ≡ true = le_true (length (queued g.queue s.dependencies)) 512 le in let bad : false ≡ true = sym e ∙ passes in cc) ]
  where
    le_true : (a b : ℕ) → a ≤ b → leb a b ≡ true
    le_true a b le = grind (arith, nat_tests)

queue_full : (g h : Gathered) (s : Source) (f : GatherFault) → Err f ≡ with_source g s → IsQueueFull g s
queue_full g h s f is = source_by g h s f (leb (length (queued g.queue s.dependencies)) 512) refl is

full_large : (names start now : ℕ) (g : Gathered) (s : Source) → IsPaid names start now (length s.dependencies) g → IsQueueFull g s → IsLarge names start now
full_large names start now g s (inl h) full = inl (let n = h.named in let l = queued-le g.queue s.dependencies in omega arith)
full_large names start now g s (inr at) full = inr at

pub source_refused : (names start now : ℕ) (g h : Gathered) (s : Source) (f : GatherFault) → IsPaid names start now (length s.dependencies) g → Tells (λ r. r ≡ with_source g s) (Err f) h → OnLimit {X = Unit {0}} (Err f) (IsLarge names start now)
source_refused names start now g h s Read paid t = tt
source_refused names start now g h s Memory paid t = tt
source_refused names start now g h s (TooMuchText bytes) paid t = full_large names start now g s paid (queue_full g h s (TooMuchText bytes) t)
source_refused names start now g h s TooManyArticles paid t = full_large names start now g s paid (queue_full g h s TooManyArticles t)
source_refused names start now g h s (TooLong name) paid t = full_large names start now g s paid (queue_full g h s (TooLong name) t)
source_refused names start now g h s TooManyVocabularies paid t = full_large names start now g s paid (queue_full g h s TooManyVocabularies t)

paid_by : (names start now : ℕ) (g : Gathered) (dependencies : List Name) (sources : List Source) → IsPaid names start now (length dependencies) g → IsPaid names start now 0 (record g { queue = queued g.queue dependencies; sources = sources })
paid_by names start now g dependencies sources (inl h) = inl (record { named = (let n = h.named in let l = queued-le g.queue dependencies in omega arith); given = h.given })
paid_by names start now g dependencies sources (inr at) = inr at

pub source_paid : (names start now : ℕ) (g h : Gathered) (dependencies : List Name) (sources : List Source) → IsPaid names start now (length dependencies) g → h ≡ record g { queue = queued g.queue dependencies; sources = sources } → IsPaid names start now 0 h
source_paid names start now g h dependencies sources paid e = subst (λ k. IsPaid names start now 0 k) (sym e) (paid_by names start now g dependencies sources paid)

-- the start

pub begun_paid : (names : List Name) (start : ℕ) (g : Gathered) → g ≡ begun names → IsPaid (length names) start start 0 g
begun_paid names start g e = subst (λ k. IsPaid (length names) start start 0 k) (sym e) (inl (record { named = (let l = queued-le [] names in omega arith); given = omega arith }))

pub begin_large : (X : Type 0) (names : List Name) (start : ℕ) (f : GatherFault) → IsBegun names (Err f) → OnLimit {X = X} (Err f) (IsLarge (length names) start start)
begin_large X names start Read h = absurd h
begin_large X names start Memory h = tt
begin_large X names start (TooMuchText bytes) h = absurd h
begin_large X names start TooManyArticles h = inl (let l = queued-le [] names in omega arith)
begin_large X names start (TooLong name) h = absurd h
begin_large X names start TooManyVocabularies h = absurd h

-- the same limits for answers of other types

pub limit_same : (X Y : Type 0) (f : GatherFault) (P : Type 0) → OnLimit {X = X} (Err f) P → OnLimit {X = Y} (Err f) P
limit_same X Y Read P h = tt
limit_same X Y Memory P h = tt
limit_same X Y (TooMuchText bytes) P h = h
limit_same X Y TooManyArticles P h = h
limit_same X Y (TooLong name) P h = h
limit_same X Y TooManyVocabularies P h = h

-- vocabularies in turn

pub spare_step : (spare n i : ℕ) → i < n → spare + (n - i) ≡ spare + (n - (i + 1)) + 1
spare_step spare n i lt = omega arith

pub paid_start : (names start now spare : ℕ) (ns items : List Name) (g : Gathered) → items ≡ ns → IsPaid names start now (spare + length ns) g → IsPaid names start now (spare + length items) g
paid_start names start now spare ns items g e h = subst (λ xs. IsPaid names start now (spare + length xs) g) (sym e) h

pub paid_first : (names start now spare n : ℕ) (g : Gathered) → IsPaid names start now (spare + n) g → IsPaid names start now (spare + (n - 0)) g
paid_first names start now spare n g h = subst (λ m. IsPaid names start now m g) (same spare n) h
  where
    same : (a b : ℕ) → a + b ≡ a + (b - 0)
    same a b = omega arith

pub paid_next : (names start now spare n i : ℕ) (g : Gathered) → i < n → IsPaid names start now (spare + (n - i)) g → IsPaid names start now (spare + (n - (i + 1)) + 1) g
paid_next names start now spare n i g lt h = subst (λ m. IsPaid names start now m g) (spare_step spare n i lt) h

pub paid_last : (names start now spare n i : ℕ) (g : Gathered) → n ≤ i → IsPaid names start now (spare + (n - i)) g → IsPaid names start now spare g
paid_last names start now spare n i g past h = subst (λ m. IsPaid names start now m g) (none spare n i past) h
  where
    none : (a b k : ℕ) → b ≤ k → a + (b - k) ≡ a
    none a b k le = omega arith
