-- What the calls answer was read.
use Rattle.std.proofs.Common.{ℕ}
use Rattle.std.specs.Prelude.{Option, Result, Ok, Err}
use Rattle.mz_base.specs.declared.place.Place.{Place}
use Rattle.mz_ground.specs.Instance.{term_nodes}
use Rattle.mz_core.specs.declared.outcome.Left.{Left}
use Rattle.mz_names.specs.declared.refusal.Refusal.{Refusal}
use Rattle.mz_sizes.specs.Sizes.{type_nodes, statement_nodes}
use Rattle.mz_tree.specs.Places.{first_place}
use Rattle.mz_tree.specs.Spell.{spell_term, spell_type, spell_formula}
use Rattle.mz_terms.specs.Terms.{ReadsTerm}
use Rattle.mz_terms.specs.Types.{ReadsType}
use Rattle.mz_formulas.specs.Formulas.{ReadsFormula}
use Rattle.mz_formulas.specs.Sentences.{ReadsSentence}
use Rattle.mz_resolve.specs.Calls as ca
use Rattle.mz_resolve.specs.Calls.{Counted, sentence_nodes}
use Rattle.mz_term_laws.proofs.TermProofs.{term_law}
use Rattle.mz_term_laws.proofs.TypeProofs.{type_law}
use Rattle.mz_reading_laws.specs.CallLaws.{TermCallLaw, TypeCallLaw, FormulaCallLaw, SentenceCallLaw}
use Rattle.mz_reading_laws.proofs.FormulaProofs.{formula_law, sentence_law}

-- as an outcome
abbrev ReadSo : {X : Type 0} → (Result X Refusal → Type 0) → Result X Refusal → Type 0
ReadSo reads (Err r) = Unit {0}
ReadSo reads (Ok x) = reads (Ok x)

counted_read : {X : Type 0} (reads : Result X Refusal → Type 0) (nodes : X → ℕ) (place : Option Place) (left : Left) (o : Result X Refusal) (after : Left) → Counted reads nodes place left o after → ReadSo reads o
counted_read reads nodes place left o after (ca.not_read r a h) = tt
counted_read reads nodes place left o after (ca.beyond x first a h i lt) = tt
counted_read reads nodes place left o after (ca.counted x h le) = h

pub term_call_law : TermCallLaw
term_call_law e c from least ce w le left after t u h = term_law e c from least ce w le t u (counted_read (ReadsTerm e c least t) term_nodes (first_place (spell_term t)) left (Ok u) after h)

pub type_call_law : TypeCallLaw
type_call_law e c from least ce w le left after ty s h = type_law e c from least ce w le ty s (counted_read (ReadsType e c least ty) type_nodes (first_place (spell_type ty)) left (Ok s) after h)

pub formula_call_law : FormulaCallLaw
formula_call_law e c from least ce w le left after f s h = formula_law e c from least ce w le f s (counted_read (ReadsFormula e least c f) statement_nodes (first_place (spell_formula f)) left (Ok s) after h)

pub sentence_call_law : SentenceCallLaw
sentence_call_law e c from least ce w le left after f s h = sentence_law e c from least ce w le f s (counted_read (ReadsSentence e least c f) sentence_nodes (first_place (spell_formula f)) left (Ok s) after h)
