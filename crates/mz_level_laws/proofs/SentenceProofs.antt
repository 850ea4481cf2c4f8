-- What a sentence is read to in which no constant may be used.
use Rattle.std.proofs.Common.{◌≡◌, ℕ, true, List, [], ◌∷◌, refl, sym, subst, arith, None, Result, Ok, Err}
use Rattle.std.specs.Prelude.{Option}
use Rattle.mz_base.specs.declared.place.Place.{Place}
use Rattle.mz_core.specs.Closed.{statement_under}
use Rattle.mz_core.specs.Statement.{Statement}
use Rattle.mz_core.specs.declared.outcome.Left.{Left}
use Rattle.mz_context.specs.Context.{next}
use Rattle.mz_context.specs.Changes.{with_constant}
use Rattle.mz_context.specs.declared.context.Context.{Context}
use Rattle.mz_environment.specs.declared.environment.Environment.{Environment}
use Rattle.mz_free.specs.Free.{free_variables}
use Rattle.mz_names.specs.Closing.{constant_of, with_variables, for_all}
use Rattle.mz_names.specs.declared.refusal.Refusal.{Refusal}
use Rattle.mz_names.specs.declared.variable.Variable.{Variable}
use Rattle.mz_sizes.specs.Sizes.{statement_keeps}
use Rattle.mz_tree.specs.Trees.{FormulaData}
use Rattle.mz_tree.specs.Places.{first_place}
use Rattle.mz_tree.specs.Spell.{spell_formula}
use Rattle.mz_joined.specs.Bound.{for_all_within}
use Rattle.mz_formulas.specs.Sentences as sentences
use Rattle.mz_formulas.specs.Sentences.{ReadsSentence, sentence_of}
use Rattle.mz_formulas.specs.declared.sentence.Sentence.{Sentence}
use Rattle.mz_resolve.specs.Calls as calls
use Rattle.mz_resolve.specs.Calls.{Counted, sentence_nodes, SentenceRead}
use Rattle.mz_steps_laws.proofs.FactLemmas.{next_with}
use Rattle.mz_term_laws.specs.Usable.{statement_usable}
use Rattle.mz_term_laws.specs.Whole.{IsWhole}
use Rattle.mz_term_laws.specs.ChangeLaws.{AreUsable}
use Rattle.mz_term_laws.proofs.UsableProofs.{usable_type_law, usable_statement_law, none_usable_law}
use Rattle.mz_term_laws.proofs.ChangeProofs.{whole_from_law}
use Rattle.mz_whole_laws.proofs.WholeProofs.{IsUsableSentence}
use Rattle.mz_whole_laws.proofs.WholeProofs.{sentence_call_law}
use Rattle.mz_block_laws.specs.Orders.{AllStand}
use Rattle.mz_whole_laws.proofs.WholeProofs.{WhereOk, within_is}
use Rattle.mz_level_laws.specs.Level.{IsLevel, SentenceLaw}

-- declared variables, and a statement behind them
all_stand : (least : ℕ) (c : Context) (vs : List Variable) (s : Statement) → AreUsable least c vs → statement_usable least (with_variables c vs) s ≡ true → AllStand (next c) vs s
all_stand least c [] s u h = let w = usable_statement_law least c s h in (w.1, w.0)
all_stand least c (v ∷ vs) s u h =
    let w = usable_type_law least c v.ty u.0 in
    ((w.1, w.0), subst (λ n. AllStand n vs s) (next_with c (constant_of v)) (all_stand least (with_constant c (constant_of v)) vs s u.1 h))

-- it is its formula closed over its variables
counted_ok : {X : Type 0} (P : X → Type 0) (reads : Result X Refusal → Type 0) (nodes : X → ℕ) (place : Option Place) (l : Left) (o : Result X Refusal) (m : Left) → Counted reads nodes place l o m → ((x : X) → reads (Ok x) → P x) → WhereOk o P
counted_ok P reads nodes place l o m (calls.not_read r after h) each = tt
counted_ok P reads nodes place l o m (calls.beyond x first after h k lt) each = tt
counted_ok P reads nodes place l o m (calls.counted x h le) each = each x h

closed_by : (n : ℕ) (vs : List Variable) (s : Statement) (o : Result Statement Refusal) → ((t : Statement) → o ≡ Ok t → for_all n vs s ≡ t) → WhereOk (sentence_of vs s o) (λ x. x.closed ≡ for_all n x.variables x.inner)
closed_by n vs s (Ok t) each = sym (each t refl)
closed_by n vs s (Err r) each = tt

sentence_closed : (e : Environment) (c : Context) (least : ℕ) (f : FormulaData) (o : Result Sentence Refusal) → ReadsSentence e least c f o → WhereOk o (λ x. x.closed ≡ for_all (next c) x.variables x.inner)
sentence_closed e c least f o (sentences.formula_refused r h) = tt
sentence_closed e c least f o (sentences.formula_read s first h k) =
    closed_by (next c) (free_variables least c f) s (for_all_within first (next c) (free_variables least c f) s) (λ t is. within_is statement_keeps first (for_all (next c) (free_variables least c f) s) t is)

is_closed_over : (e : Environment) (c : Context) (least : ℕ) (l m : Left) (f : FormulaData) (x : Sentence) → SentenceRead e c least l f (Ok x) m → x.closed ≡ for_all (next c) x.variables x.inner
is_closed_over e c least l m f x d =
    counted_ok (λ y. y.closed ≡ for_all (next c) y.variables y.inner) (ReadsSentence e least c f) sentence_nodes (first_place (spell_formula f)) l (Ok x) m d (λ y h. sentence_closed e c least f (Ok y) h)

pub sentence_law : SentenceLaw
sentence_law e c left after f x closed_e level no_thesis read =
    let whole : IsWhole (next c) c = whole_from_law (next c) c level.is_whole (omega arith) no_thesis level.no_it level.no_arguments level.no_subject in
    let u : IsUsableSentence (next c) c x = sentence_call_law e c (next c) (next c) closed_e whole (omega arith) left after f x read in
    (all_stand (next c) c x.variables x.inner u.variables u.inner, is_closed_over e c (next c) left after f x read, (none_usable_law (next c) c (omega arith)).2 x.closed u.closed)
