-- What the code of sentences tells.
use Rattle.std.proofs.Common.{◌≡◌, ℕ, List, length, refl, sym, ap, ◌∙◌, subst, Option, Some}
use Rattle.std.specs.Prelude.{Result, Ok, Err}
use Rattle.mz_base.specs.declared.place.Place.{Place}
use Rattle.mz_core.specs.Statement.{Statement}
use Rattle.mz_context.specs.Context.{next}
use Rattle.mz_context.specs.declared.context.Context.{Context}
use Rattle.mz_environment.specs.declared.environment.Environment.{Environment}
use Rattle.mz_names.specs.Closing.{with_variables}
use Rattle.mz_names.specs.declared.refusal.Refusal.{Refusal}
use Rattle.mz_names.specs.declared.variable.Variable.{Variable}
use Rattle.mz_choice.proofs.CoverLemmas.{told_left, grown_itself, grown_kept, grown_more}
use Rattle.mz_free.specs.Free.{free_variables}
use Rattle.mz_tree.specs.Trees.{FormulaData}
use Rattle.mz_tree.specs.Places.{first_place}
use Rattle.mz_tree.specs.Spell.{spell_formula}
use Rattle.mz_joined.specs.Bound.{for_all_within}
use Rattle.mz_formulas.specs.Formulas.{ReadsFormula}
use Rattle.mz_formulas.specs.Sentences as se
use Rattle.mz_formulas.specs.Sentences.{sentence_of, ReadsSentence}
use Rattle.mz_formulas.specs.declared.sentence.Sentence.{Sentence}

inside : (e : Environment) (least : ℕ) (c d : Context) (f : FormulaData) (vs us : List Variable) (o p : Result Statement Refusal) → vs ≡ free_variables least c f → us ≡ vs → d ≡ with_variables c us → o ≡ p → ReadsFormula e least d f o → ReadsFormula e least (with_variables c (free_variables least c f)) f p
inside e least c d f vs us o p ev eu ed eo h = subst (λ x. ReadsFormula e least (with_variables c (free_variables least c f)) f x) eo (subst (λ x. ReadsFormula e least x f o) (ed ∙ ap (with_variables c) (eu ∙ ev)) h)

pub told_refused : (e : Environment) (least : ℕ) (c d : Context) (f : FormulaData) (vs us : List Variable) (o : Result Statement Refusal) (r : Refusal) → vs ≡ free_variables least c f → us ≡ vs → d ≡ with_variables c us → ReadsFormula e least d f o → o ≡ Err r → ReadsSentence e least c f (Err r)
told_refused e least c d f vs us o r ev eu ed h eo = se.formula_refused r (inside e least c d f vs us o (Err r) ev eu ed eo h)

pub told_read : (e : Environment) (least : ℕ) (c d : Context) (f : FormulaData) (vs us : List Variable) (o : Result Statement Refusal) (s : Statement) (first : Place) (n : ℕ) (p : Result Sentence Refusal) → vs ≡ free_variables least c f → us ≡ vs → d ≡ with_variables c us → ReadsFormula e least d f o → o ≡ Ok s → first_place (spell_formula f) ≡ Some first → n ≡ next c → p ≡ sentence_of vs s (for_all_within first n vs s) → ReadsSentence e least c f p
told_read e least c d f vs us o s first n p ev eu ed h eo ef en ep =
    let P : Result Sentence Refusal → Type 0 = λ x. ReadsSentence e least c f x in
    let is : p ≡ sentence_of (free_variables least c f) s (for_all_within first (next c) (free_variables least c f) s) = ep ∙ (ap (λ m. sentence_of vs s (for_all_within first m vs s)) en ∙ ap (λ xs. sentence_of xs s (for_all_within first (next c) xs s)) ev) in
    subst P (sym is) (se.formula_read s first (inside e least c d f vs us o (Ok s) ev eu ed eo h) ef)

pub ruleset inner_rules = (told_refused, told_read, grown_itself, grown_kept, grown_more)

pub ruleset sentence_rules = (told_left)
