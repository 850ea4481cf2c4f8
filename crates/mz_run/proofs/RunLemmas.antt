-- How a run ends.
use Rattle.std.proofs.Common.{◌≡◌, ℕ, suc, true, false, List, [], ◌∷◌, map, length, Bool, refl, sym, subst, ap, ◌∙◌}
use Rattle.std.specs.Prelude.{Option, Some, None, is_some, Result, Ok, Err, ◌||◌}
use Rattle.mz_base.specs.declared.status.Status.{Status}
use Rattle.mz_base.specs.declared.status.Status.TheVariants as status
use Rattle.mz_axioms.specs.Checker.{OutcomeRelation}
use Rattle.mz_io.specs.declared.file.File.{File}
use Rattle.mz_base.specs.declared.name.Name.{Name}
use Rattle.mz_words.specs.Words.{Asked, IsAsked}
use Rattle.mz_words.specs.declared.word_fault.WordFault.{WordFault}
use Rattle.mz_words.specs.declared.word_fault.WordFault.TheVariants.{Usage, Memory}
use Rattle.mz_corpus.specs.declared.gather_fault.GatherFault.{GatherFault}
use Rattle.mz_corpus.specs.declared.gather_fault.GatherFault.TheVariants as gather
use Rattle.mz_corpus.specs.Corpus.{Corpus}
use Rattle.mz_corpus.specs.Gather.{Gathered, GatherResult, OnAnswer, OnRead}
use Rattle.mz_corpus.specs.Rise.{OnLimit, IsLarge}
use Rattle.mz_run.specs.Gathered.{AreFiles, GathersFor, IsGatheredFor, PassesLimit, is_known}
use Rattle.mz_run.specs.Checked.{Checked, IsChecked, IsCheckedFor, entries_in, are_accepted, text_of}
use Rattle.mz_run.specs.Run.{Took, TookFor, WrittenFor, Written, refusal_of, refusal_of_words, IsRefusalOfWords, IsRefusalOfLimit, IsCompletion}
use Rattle.mz_run.specs.Steps.{Ended, TookOn, EndedOn}
use Rattle.mz_run.proofs.OneLemmas.{one_gathering_for}
use Rattle.mz_run.proofs.CheckLemmas.{IsFound}

-- a text that was made of what was checked

took_on : (is_outcome : OutcomeRelation) (a : Asked) (c : Corpus) (text : List ℕ) (accepted : Bool) (old new : Option (List ℕ)) (s : Status) → IsFound is_outcome a c text accepted → Took text accepted old new s → TookOn is_outcome a c old new s
took_on is_outcome a c text accepted old new s (x, same, checked, written, told) h =
    (x, same, checked, subst (λ b. Took (text_of a x) b old new s) told (subst (λ t. Took t accepted old new s) written h))

pub ended_on : (is_outcome : OutcomeRelation) (a : Asked) (c : Corpus) (text : List ℕ) (accepted : Bool) (old new : Option (List ℕ)) (s : Status) → IsFound is_outcome a c text accepted → Ended text accepted old new s → EndedOn is_outcome a c old new s
ended_on is_outcome a c text accepted old new status.Accepted h k = took_on is_outcome a c text accepted old new status.Accepted h k
ended_on is_outcome a c text accepted old new status.Rejected h k = took_on is_outcome a c text accepted old new status.Rejected h k
ended_on is_outcome a c text accepted old new status.WriteFault h k = took_on is_outcome a c text accepted old new status.WriteFault h k
ended_on is_outcome a c text accepted old new status.Usage h k = absurd k
ended_on is_outcome a c text accepted old new status.ReadFault h k = absurd k
ended_on is_outcome a c text accepted old new status.OutOfMemory h k = absurd k
ended_on is_outcome a c text accepted old new status.TooLarge h k = absurd k

-- texts that were gathered

took_for : (is_outcome : OutcomeRelation) (told : Option (List File)) (a : Asked) (c : Corpus) (old new : Option (List ℕ)) (s : Status) → (is_known told a ≡ true → IsGatheredFor told a c) → TookOn is_outcome a c old new s → TookFor is_outcome told a old new s
took_for is_outcome told a c old new s g (x, same, checked, took) =
    (x, record { gathered = λ k. subst (IsGatheredFor told a) (sym same) (g k); checked = checked }, took)

pub ended_written : (is_outcome : OutcomeRelation) (told : Option (List File)) (a : Asked) (c : Corpus) (old new : Option (List ℕ)) (s : Status) → (is_known told a ≡ true → IsGatheredFor told a c) → EndedOn is_outcome a c old new s → WrittenFor is_outcome told a old new s
ended_written is_outcome told a c old new status.Accepted g h = took_for is_outcome told a c old new status.Accepted g h
ended_written is_outcome told a c old new status.Rejected g h = took_for is_outcome told a c old new status.Rejected g h
ended_written is_outcome told a c old new status.WriteFault g h = took_for is_outcome told a c old new status.WriteFault g h
ended_written is_outcome told a c old new status.Usage g h = absurd h
ended_written is_outcome told a c old new status.ReadFault g h = absurd h
ended_written is_outcome told a c old new status.OutOfMemory g h = h
ended_written is_outcome told a c old new status.TooLarge g h = absurd h

pub ended_usage : (is_outcome : OutcomeRelation) (a : Asked) (c : Corpus) (old new : Option (List ℕ)) (s : Status) → EndedOn is_outcome a c old new s → s ≡ status.Usage → ⊥
ended_usage is_outcome a c old new s h e = subst (EndedOn is_outcome a c old new) e h

pub ended_read : (is_outcome : OutcomeRelation) (a : Asked) (c : Corpus) (old new : Option (List ℕ)) (s : Status) → EndedOn is_outcome a c old new s → s ≡ status.ReadFault → ⊥
ended_read is_outcome a c old new s h e = subst (EndedOn is_outcome a c old new) e h

pub ended_large : (is_outcome : OutcomeRelation) (a : Asked) (c : Corpus) (old new : Option (List ℕ)) (s : Status) → EndedOn is_outcome a c old new s → s ≡ status.TooLarge → ⊥
ended_large is_outcome a c old new s h e = subst (EndedOn is_outcome a c old new) e h

or_some : {X : Type 0} (x : X) (o : Option X) (b : Bool) → o ≡ Some x → (is_some o || b) ≡ true
or_some x None b e = absurd (let bad : ⊥ = cc in bad)
or_some x (Some y) b e = refl

or_right : (b c : Bool) → c ≡ true → (b || c) ≡ true
or_right true c h = refl
or_right false c h = h

known_by : (o : Option ℕ) (told : Option (List File)) (files : List File) → AreFiles o told files → (is_some told || is_some o) ≡ true
known_by None told files h = or_some files told false h
known_by (Some n) told files h = or_right (is_some told) true refl

-- what gathers for an order knows its files
known : (told : Option (List File)) (a : Asked) (r : GatherResult) → GathersFor told a r → is_known told a ≡ true
known told a r h = known_by a.generate told h.files h.are_files

not_both : (g : Gathered) (fault : GatherFault) → Ok g ≡ Err fault → ⊥
not_both g fault e = cc

within_by : (told : Option (List File)) (a : Asked) (c : Corpus) (fault : GatherFault) → GathersFor told a (Err fault) → IsGatheredFor told a c → ⊥
within_by told a c fault h (g, k, is) = not_both g fault (one_gathering_for told a (Ok g) (Err fault) k h)

-- what was gathered passes no limit
pub gathered_within : (told : Option (List File)) (a : Asked) (c : Corpus) → (is_known told a ≡ true → IsGatheredFor told a c) → PassesLimit told a → ⊥
gathered_within told a c g (fault, h) = within_by told a c fault h (g (known told a (Err fault) h))

pub ended_complete : (is_outcome : OutcomeRelation) (a : Asked) (c : Corpus) (old new : Option (List ℕ)) (s : Status) → EndedOn is_outcome a c old new s → (s ≡ status.WriteFault → ⊥) → IsCompletion s
ended_complete is_outcome a c old new status.Accepted h wrote = tt
ended_complete is_outcome a c old new status.Rejected h wrote = tt
ended_complete is_outcome a c old new status.WriteFault h wrote = absurd (wrote refl)
ended_complete is_outcome a c old new status.Usage h wrote = absurd h
ended_complete is_outcome a c old new status.ReadFault h wrote = absurd h
ended_complete is_outcome a c old new status.OutOfMemory h wrote = tt
ended_complete is_outcome a c old new status.TooLarge h wrote = absurd h

-- texts that couldn't be gathered

refused_at : (is_outcome : OutcomeRelation) (told : Option (List File)) (a : Asked) (old new : Option (List ℕ)) (f : GatherFault) → new ≡ old → WrittenFor is_outcome told a old new (refusal_of f)
refused_at is_outcome told a old new gather.Read e = e
refused_at is_outcome told a old new (gather.TooMuchText bytes) e = e
refused_at is_outcome told a old new gather.TooManyArticles e = e
refused_at is_outcome told a old new (gather.TooLong name) e = e
refused_at is_outcome told a old new gather.TooManyVocabularies e = e
refused_at is_outcome told a old new gather.Memory e = e

pub refused_written : (is_outcome : OutcomeRelation) (told : Option (List File)) (a : Asked) (old new : Option (List ℕ)) (f : GatherFault) (s : Status) → s ≡ refusal_of f → new ≡ old → WrittenFor is_outcome told a old new s
refused_written is_outcome told a old new f s is e = subst (WrittenFor is_outcome told a old new) (sym is) (refused_at is_outcome told a old new f e)

no_usage : (f : GatherFault) → refusal_of f ≡ status.Usage → ⊥
no_usage gather.Read u = cc
no_usage (gather.TooMuchText bytes) u = cc
no_usage gather.TooManyArticles u = cc
no_usage (gather.TooLong name) u = cc
no_usage gather.TooManyVocabularies u = cc
no_usage gather.Memory u = cc

pub refused_usage : (f : GatherFault) (s : Status) → s ≡ refusal_of f → s ≡ status.Usage → ⊥
refused_usage f s is u = no_usage f (sym is ∙ u)

no_write : (f : GatherFault) → refusal_of f ≡ status.WriteFault → ⊥
no_write gather.Read u = cc
no_write (gather.TooMuchText bytes) u = cc
no_write gather.TooManyArticles u = cc
no_write (gather.TooLong name) u = cc
no_write gather.TooManyVocabularies u = cc
no_write gather.Memory u = cc

pub refused_write : (f : GatherFault) (s : Status) → s ≡ refusal_of f → s ≡ status.WriteFault → ⊥
refused_write f s is u = no_write f (sym is ∙ u)

read_at : (X : Type 0) (f : GatherFault) (P : Type 0) → OnRead {X = X} (Err f) P → refusal_of f ≡ status.ReadFault → P
read_at X gather.Read P h e = h
read_at X (gather.TooMuchText bytes) P h e = absurd (let bad : ⊥ = cc in bad)
read_at X gather.TooManyArticles P h e = absurd (let bad : ⊥ = cc in bad)
read_at X (gather.TooLong name) P h e = absurd (let bad : ⊥ = cc in bad)
read_at X gather.TooManyVocabularies P h e = absurd (let bad : ⊥ = cc in bad)
read_at X gather.Memory P h e = absurd (let bad : ⊥ = cc in bad)

pub refused_read : (X : Type 0) (f : GatherFault) (s : Status) (P : Type 0) → s ≡ refusal_of f → OnRead {X = X} (Err f) P → s ≡ status.ReadFault → P
refused_read X f s P is h e = read_at X f P h (sym is ∙ e)

limit_at : (told : Option (List File)) (a : Asked) (Q : Corpus → Type 0) (f : GatherFault) → OnAnswer (GathersFor told a) Q (Err f) → refusal_of f ≡ status.TooLarge → PassesLimit told a
limit_at told a Q gather.Read h e = absurd (let bad : ⊥ = cc in bad)
limit_at told a Q (gather.TooMuchText bytes) h e = (gather.TooMuchText bytes, h)
limit_at told a Q gather.TooManyArticles h e = (gather.TooManyArticles, h)
limit_at told a Q (gather.TooLong name) h e = (gather.TooLong name, h)
limit_at told a Q gather.TooManyVocabularies h e = (gather.TooManyVocabularies, h)
limit_at told a Q gather.Memory h e = absurd (let bad : ⊥ = cc in bad)

pub refused_limit : (told : Option (List File)) (a : Asked) (f : GatherFault) (s : Status) → s ≡ refusal_of f → OnAnswer (GathersFor told a) (IsGatheredFor told a) (Err f) → s ≡ status.TooLarge → PassesLimit told a
refused_limit told a f s is h e = limit_at told a (IsGatheredFor told a) f h (sym is ∙ e)

amount_at : (X : Type 0) (f : GatherFault) (P : Type 0) → OnLimit {X = X} (Err f) P → refusal_of f ≡ status.TooLarge → P
amount_at X gather.Read P h e = absurd (let bad : ⊥ = cc in bad)
amount_at X (gather.TooMuchText bytes) P h e = h
amount_at X gather.TooManyArticles P h e = h
amount_at X (gather.TooLong name) P h e = h
amount_at X gather.TooManyVocabularies P h e = h
amount_at X gather.Memory P h e = absurd (let bad : ⊥ = cc in bad)

pub refused_amount : (X : Type 0) (f : GatherFault) (s : Status) (P : Type 0) → s ≡ refusal_of f → OnLimit {X = X} (Err f) P → s ≡ status.TooLarge → P
refused_amount X f s P is h e = amount_at X f P h (sym is ∙ e)

answer_at : (f : GatherFault) → IsRefusalOfLimit (refusal_of f)
answer_at gather.Read = tt
answer_at (gather.TooMuchText bytes) = tt
answer_at gather.TooManyArticles = tt
answer_at (gather.TooLong name) = tt
answer_at gather.TooManyVocabularies = tt
answer_at gather.Memory = tt

pub refused_answer : (f : GatherFault) (s : Status) → s ≡ refusal_of f → IsRefusalOfLimit s
refused_answer f s is = subst IsRefusalOfLimit (sym is) (answer_at f)

complete_at : (f : GatherFault) → (refusal_of f ≡ status.ReadFault → ⊥) → (refusal_of f ≡ status.TooLarge → ⊥) → IsCompletion (refusal_of f)
complete_at gather.Read read large = absurd (read refl)
complete_at (gather.TooMuchText bytes) read large = absurd (large refl)
complete_at gather.TooManyArticles read large = absurd (large refl)
complete_at (gather.TooLong name) read large = absurd (large refl)
complete_at gather.TooManyVocabularies read large = absurd (large refl)
complete_at gather.Memory read large = tt

pub refused_complete : (f : GatherFault) (s : Status) → s ≡ refusal_of f → (s ≡ status.ReadFault → ⊥) → (s ≡ status.TooLarge → ⊥) → IsCompletion s
refused_complete f s is read large = subst IsCompletion (sym is) (complete_at f (λ e. read (is ∙ e)) (λ e. large (is ∙ e)))

-- words that are an order, and words that are none

pub order_written : (is_outcome : OutcomeRelation) (told : Option (List File)) (o : Option Asked) (a : Asked) (old new : Option (List ℕ)) (s : Status) → o ≡ Some a → WrittenFor is_outcome told a old new s → Written is_outcome told o old new s
order_written is_outcome told o a old new s e h = subst (λ p. Written is_outcome told p old new s) (sym e) h

pub same_order : (o : Option Asked) (a b : Asked) → o ≡ Some a → o ≡ Some b → a ≡ b
same_order o a b h k = cc

pub some_order : (o : Option Asked) (a : Asked) → o ≡ Some a → o ≡ None → ⊥
some_order o a h k = cc

-- what holds for an order holds for the words that give it
pub by_order : (o : Option Asked) (a b : Asked) → o ≡ Some b → (P : Asked → Type 0) → P b → o ≡ Some a → P a
by_order o a b h P p e = subst P (same_order o b a h e) p

count_numbers : (names : List Name) → length (map (λ n. n.number) names) ≡ length names
count_numbers [] = refl
count_numbers (n ∷ ns) = ap suc (count_numbers ns)

pub large_numbers : (names : List Name) (old new : ℕ) → IsLarge (length names) old new → IsLarge (length (map (λ n. n.number) names)) old new
large_numbers names old new h = subst (λ k. IsLarge k old new) (sym (count_numbers names)) h

unwritten_at : (is_outcome : OutcomeRelation) (told : Option (List File)) (o : Option Asked) (old : Option (List ℕ)) (f : WordFault) → Written is_outcome told o old old (refusal_of_words f)
unwritten_at is_outcome told None old f = refl
unwritten_at is_outcome told (Some a) old Usage = refl
unwritten_at is_outcome told (Some a) old (Memory m) = refl

pub words_written : (is_outcome : OutcomeRelation) (told : Option (List File)) (o : Option Asked) (old : Option (List ℕ)) (f : WordFault) (s : Status) → s ≡ refusal_of_words f → Written is_outcome told o old old s
words_written is_outcome told o old f s is = subst (Written is_outcome told o old old) (sym is) (unwritten_at is_outcome told o old f)

no_order_at : (o : Option Asked) (f : WordFault) → IsAsked o (Err f) → refusal_of_words f ≡ status.Usage → o ≡ None
no_order_at o Usage h e = h
no_order_at o (Memory m) h e = absurd (let bad : ⊥ = cc in bad)

pub words_usage : (o : Option Asked) (f : WordFault) (s : Status) → IsAsked o (Err f) → s ≡ refusal_of_words f → s ≡ status.Usage → o ≡ None
words_usage o f s h is e = no_order_at o f h (sym is ∙ e)

refusal_at : (f : WordFault) → IsRefusalOfWords (refusal_of_words f)
refusal_at Usage = tt
refusal_at (Memory m) = tt

pub words_answer : (f : WordFault) (s : Status) → s ≡ refusal_of_words f → IsRefusalOfWords s
words_answer f s is = subst IsRefusalOfWords (sym is) (refusal_at f)

read_never : (s : Status) → IsRefusalOfWords s → s ≡ status.ReadFault → ⊥
read_never s h e = subst IsRefusalOfWords e h

pub words_read : (f : WordFault) (s : Status) → s ≡ refusal_of_words f → s ≡ status.ReadFault → ⊥
words_read f s is e = read_never s (words_answer f s is) e

pub words_write : (f : WordFault) (s : Status) → s ≡ refusal_of_words f → s ≡ status.WriteFault → ⊥
words_write f s is e = subst IsRefusalOfWords e (words_answer f s is)

pub words_large : (f : WordFault) (s : Status) → s ≡ refusal_of_words f → s ≡ status.TooLarge → ⊥
words_large f s is e = subst IsRefusalOfWords e (words_answer f s is)

limit_by_words : (o : Option Asked) (a : Asked) (f : WordFault) → IsAsked o (Err f) → o ≡ Some a → IsRefusalOfLimit (refusal_of_words f)
limit_by_words o a Usage h e = absurd (some_order o a e h)
limit_by_words o a (Memory m) h e = tt

pub words_limit : (o : Option Asked) (a : Asked) (f : WordFault) (s : Status) → IsAsked o (Err f) → s ≡ refusal_of_words f → o ≡ Some a → IsRefusalOfLimit s
words_limit o a f s h is e = subst IsRefusalOfLimit (sym is) (limit_by_words o a f h e)

complete_by_words : (o : Option Asked) (a : Asked) (f : WordFault) → IsAsked o (Err f) → o ≡ Some a → IsCompletion (refusal_of_words f)
complete_by_words o a Usage h e = absurd (some_order o a e h)
complete_by_words o a (Memory m) h e = tt

pub words_complete : (o : Option Asked) (a : Asked) (f : WordFault) (s : Status) → IsAsked o (Err f) → s ≡ refusal_of_words f → o ≡ Some a → IsCompletion s
words_complete o a f s h is e = subst IsCompletion (sym is) (complete_by_words o a f h e)
