-- The answer to the words, by what their parse gives.
use Rattle.std.proofs.Common.{◌≡◌, ◌≢◌, ◌↔◌, Bool, true, false, List, [], ◌∷◌, Option, Some, None, Result, Ok, Err, IsErrAnd, refl, ap₂, sym, subst, ◌∙◌, inl, inr, codes}
use Rattle.std.specs.Prelude.{unwrap_or}
use Rattle.clap.specs.Walk.{Row, Text, all_of, first_of, one_of}
use Rattle.clap.specs.Simple.{matches_of}
use Rattle.clap.specs.Values.{kind_of}
use Rattle.clap.specs.Kinds.{HasKind}
use Rattle.clap.specs.Faults.{fault_of}
use Rattle.clap.specs.declared.error.Error.{Error}
use Rattle.clap.specs.declared.error.kind.ErrorKind.TheVariants.{OutOfMemory}
use Rattle.mz_words.specs.Program.{program_app}
use Rattle.mz_words.specs.Words.{IsAsked, IsAnswer, order_of}
use Rattle.mz_words.specs.Given.{given_value, named, order_with}
use Rattle.mz_words.specs.declared.order.Order.{Order}
use Rattle.mz_words.specs.declared.word_fault.WordFault.{WordFault}
use Rattle.mz_words.specs.declared.word_fault.WordFault.TheVariants.{Usage, Memory}
use Rattle.mz_words.proofs.RunLemmas.{Parse, flag_text, parse, refused, taken}

-- what the getters read
pub record Reads (rows : List Row) (workers generate : Option Text) (list : Bool) (names : List Text) : Type 0 where
  pub workers_is : workers ≡ first_of (codes "workers") rows
  pub generate_is : generate ≡ first_of (codes "generate") rows
  pub list_true : one_of (codes "list") rows ≡ Some (codes "true") → list ≡ true
  pub list_false : one_of (codes "list") rows ≡ Some (codes "false") → list ≡ false
  pub names_are : names ≡ unwrap_or (all_of (codes "names") rows) []

list_read : (rows : List Row) (list b : Bool) → (one_of (codes "list") rows ≡ Some (codes "true") → list ≡ true) → (one_of (codes "list") rows ≡ Some (codes "false") → list ≡ false)
    → one_of (codes "list") rows ≡ Some (flag_text b) → list ≡ b
list_read rows list true t f is = t is
list_read rows list false t f is = f is

parse_taken : (ws : List Text) (workers generate : Option Text) (list : Bool) (names : List Text) (r : Result Order WordFault) → Parse ws → fault_of program_app ws ≡ []
    → Reads (matches_of program_app ws) workers generate list names → IsAsked (order_with (given_value 16 workers) (given_value 512 generate) list (named names)) r → IsAnswer ws r
parse_taken ws workers generate list names r (taken v none gives order) free reads asked =
    let w : workers ≡ v.workers = reads.workers_is ∙ gives.workers in
    let g : generate ≡ v.generate = reads.generate_is ∙ gives.generate in
    let l : list ≡ v.list = list_read (matches_of program_app ws) list v.list reads.list_true reads.list_false gives.list in
    let n : names ≡ v.names = reads.names_are ∙ gives.names in
    subst (λ o. IsAsked o r)
    (ap₂ (λ (a b : Option Text). order_with (given_value 16 a) (given_value 512 b) list (named names)) w g
    ∙ ap₂ (λ (a : Bool) (b : List Text). order_with (given_value 16 v.workers) (given_value 512 v.generate) a (named b)) l n ∙ sym order) asked
parse_taken ws workers generate list names r (refused k ks fault none) free reads asked = let bad : k ∷ ks ≡ [] = sym fault ∙ free in cc

-- the words are taken
pub answer_taken : (ws : List Text) (workers generate : Option Text) (list : Bool) (names : List Text) (r : Result Order WordFault) → fault_of program_app ws ≡ []
    → Reads (matches_of program_app ws) workers generate list names → IsAsked (order_with (given_value 16 workers) (given_value 512 generate) list (named names)) r → IsAnswer ws r
answer_taken ws workers generate list names r free reads asked = parse_taken ws workers generate list names r (parse ws) free reads asked

none_among : (e : Error) → HasKind [] e → (kind_of e ≢ OutOfMemory) → ⊥
none_among e (inl memory) not_memory = not_memory memory
none_among e (inr among) not_memory = among

order_of-parse_refused : (ws : List Text) (e : Error) → Parse ws → HasKind (fault_of program_app ws) e → (kind_of e ≢ OutOfMemory) → order_of ws ≡ None
order_of-parse_refused ws e (taken v none gives order) kind not_memory = absurd (none_among e (subst (λ ks. HasKind ks e) none kind) not_memory)
order_of-parse_refused ws e (refused k ks fault none) kind not_memory = none

-- the words are refused
pub answer_refused : (ws : List Text) (e : Error) (fault : WordFault) → HasKind (fault_of program_app ws) e → ((fault ≡ Usage) ↔ (kind_of e ≢ OutOfMemory)) → IsAnswer ws (Err fault)
answer_refused ws e Usage kind usage = order_of-parse_refused ws e (parse ws) kind (usage.0 refl)
answer_refused ws e (Memory a) kind usage = tt

-- the same of what is handed on
pub answer_handed_on : (ws : List Text) (e : Error) (r : Result Order WordFault) → HasKind (fault_of program_app ws) e → IsErrAnd r (λ fault. (fault ≡ Usage) ↔ (kind_of e ≢ OutOfMemory)) → IsAnswer ws r
answer_handed_on ws e (Ok order) kind is = absurd is
answer_handed_on ws e (Err fault) kind is = answer_refused ws e fault kind is
