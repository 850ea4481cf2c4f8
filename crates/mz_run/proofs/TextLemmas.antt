-- What is gathered for an order.
use Rattle.std.proofs.Common.{◌≡◌, ℕ, ◌≤◌, Bool, true, false, ◌||◌, List, map, refl, ap, sym, ◌∙◌, subst, arith}
use Rattle.std.specs.Prelude.{Option, Some, None, is_some, Result, Ok, Err}
use Rattle.mz_base.specs.declared.name.Name.{Name}
use Rattle.mz_io.specs.declared.file.File.{File}
use Rattle.mz_io.specs.Count.{Rose}
use Rattle.mz_words.specs.Words.{Asked}
use Rattle.mz_gen.specs.Made.{AreMadeFiles, AreMadeNames}
use Rattle.mz_corpus.specs.declared.gather_fault.GatherFault.{GatherFault}
use Rattle.mz_corpus.specs.declared.gather_fault.GatherFault.TheVariants as gather
use Rattle.mz_corpus.specs.Corpus.{Corpus}
use Rattle.mz_corpus.specs.Gather.{Gathered, GatherResult, Gathers, IsCorpusOf, IsGatherAnswer, OnAnswer, OnRead}
use Rattle.mz_run.specs.Gathered.{AreFiles, AreNames, GathersFor, IsGatheredFor, is_known}

answer_on : (P P2 : GatherResult → Type 0) (Q Q2 : Corpus → Type 0) → ((x : GatherResult) → P x → P2 x) → ((c : Corpus) → Q c → Q2 c) → (r : Result Corpus GatherFault) → OnAnswer P Q r → OnAnswer P2 Q2 r
answer_on P P2 Q Q2 f g (Ok c) h = g c h
answer_on P P2 Q Q2 f g (Err gather.Read) h = tt
answer_on P P2 Q Q2 f g (Err gather.Memory) h = tt
answer_on P P2 Q Q2 f g (Err (gather.TooMuchText bytes)) h = f (Err (gather.TooMuchText bytes)) h
answer_on P P2 Q Q2 f g (Err gather.TooManyArticles) h = f (Err gather.TooManyArticles) h
answer_on P P2 Q Q2 f g (Err (gather.TooLong name)) h = f (Err (gather.TooLong name)) h
answer_on P P2 Q Q2 f g (Err gather.TooManyVocabularies) h = f (Err gather.TooManyVocabularies) h

pub read_on : {X : Type 0} (P Q : Type 0) → (P → Q) → (r : Result X GatherFault) → OnRead r P → OnRead r Q
read_on P Q f (Ok x) h = tt
read_on P Q f (Err gather.Read) h = f h
read_on P Q f (Err gather.Memory) h = tt
read_on P Q f (Err (gather.TooMuchText bytes)) h = tt
read_on P Q f (Err gather.TooManyArticles) h = tt
read_on P Q f (Err (gather.TooLong name)) h = tt
read_on P Q f (Err gather.TooManyVocabularies) h = tt

pub answer_for : (told : Option (List File)) (a : Asked) (files : List File) (names : List Name) → AreFiles a.generate told files → AreNames a.generate a.names names → (r : Result Corpus GatherFault) → IsGatherAnswer files names r → OnAnswer (GathersFor told a) (IsGatheredFor told a) r
answer_for told a files names h k r q =
    answer_on (Gathers files names) (GathersFor told a) (λ c. (g : Gathered) × Gathers files names (Ok g) × IsCorpusOf g c) (IsGatheredFor told a)
    (λ x g. record { files = files; are_files = h; names = names; are_names = k; gathers = g })
    (λ c g. (g.0, record { files = files; are_files = h; names = names; are_names = k; gathers = g.1 }, g.2)) r q

-- by made articles
pub made_answer : (n : ℕ) (files : List File) (names : List Name) → AreMadeFiles n files → AreMadeNames n names → (r : Result Corpus GatherFault) → IsGatherAnswer files names r → (told : Option (List File)) (a : Asked) → a.generate ≡ Some n → OnAnswer (GathersFor told a) (IsGatheredFor told a) r
made_answer n files names h k r q told a e =
    answer_for told a files names (subst (λ o. AreFiles o told files) (sym e) h) (subst (λ o. AreNames o a.names names) (sym e) k) r q

-- by the names of an order
pub named_answer : (told : Option (List File)) (a : Asked) (names : List Name) (r : Result Corpus GatherFault) → ((files : List File) → told ≡ Some files → IsGatherAnswer files names r) → a.generate ≡ None → a.names ≡ map (λ n. n.number) names → is_some told ≡ true → OnAnswer (GathersFor told a) (IsGatheredFor told a) r
named_answer None a names r q e named h = absurd (let bad : ⊥ = cc in bad)
named_answer (Some files) a names r q e named h =
    answer_for (Some files) a files names (subst (λ o. AreFiles o (Some files) files) (sym e) refl) (subst (λ o. AreNames o a.names names) (sym e) (sym named)) r (q files refl)

-- a count that stays at 0 doesn't rise
pub none_rises : Rose 0 0 → ⊥
none_rises h = omega arith

known_or : (b c : Bool) → c ≡ false → (b || c) ≡ true → b ≡ true
known_or true c h k = refl
known_or false c h k = absurd (let bad : ⊥ = cc in bad)

-- the files of an order without made articles are known only where the shelf tells them
pub known_told : (told : Option (List File)) (a : Asked) → a.generate ≡ None → is_known told a ≡ true → is_some told ≡ true
known_told told a e h = known_or (is_some told) (is_some a.generate) (ap is_some e) h
