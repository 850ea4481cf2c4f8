-- Conditions of headings, and where an article stands behind a heading and a scheme.
use Rattle.std.proofs.Common.{◌≡◌, ◌+◌, inr, ℕ, true, false, List, [], ◌∷◌, ◌++◌, append-nil, refl, sym, ap, ◌∙◌, subst, Option, None, Some}
use Rattle.std.specs.Prelude.{Contains}
use Rattle.std.proofs.lemmas.List.Elements.{Contains-append_right}
use Rattle.mz_logic.specs.Formula.{Formula}
use Rattle.mz_logic.specs.Derives.{Derives}
use Rattle.mz_logic.proofs.Each.{premises_within}
use Rattle.mz_core.specs.Closed.{statement_under}
use Rattle.mz_core.specs.Erasure.{erase}
use Rattle.mz_core.specs.Statement.{Statement}
use Rattle.mz_core.specs.declared.item.Item.{Item}
use Rattle.mz_ground.proofs.ListLemmas.{contains_first}
use Rattle.mz_items.specs.Items.{definitional_theorem}
use Rattle.mz_items.specs.Exports.{item_statements}
use Rattle.mz_clause_laws.specs.RowLaws.{AllFollow}
use Rattle.mz_context.specs.Changes.{labelled}
use Rattle.mz_context.specs.Context.{next}
use Rattle.mz_context.specs.declared.context.Context.{Context}
use Rattle.mz_context.specs.declared.context.SymbolCounts.{SymbolCounts}
use Rattle.mz_context.specs.declared.labelled_schemes.LabelledScheme.{LabelledScheme}
use Rattle.mz_environment.specs.Cited.{at_start, theorem_of, statement_cited, statements_cited}
use Rattle.mz_environment.specs.Environment.{of_item}
use Rattle.mz_closed_laws.specs.ClosedEnvironment.{cited_statement_closed, IsClosedEnvironment}
use Rattle.mz_closed_laws.proofs.EnvironmentProofs.{given_law}
use Rattle.mz_choice_laws.proofs.ListParts.{all-one}
use Rattle.mz_env_laws.proofs.StatementProofs.{item_cited}
use Rattle.mz_names.specs.Closing.{with_variables, for_all}
use Rattle.mz_names.specs.declared.variable.Variable.{Variable}
use Rattle.mz_types.specs.Known.{letters_clauses}
use Rattle.mz_steps_laws.specs.Facts.{facts}
use Rattle.mz_block_laws.specs.Met.{AreMet}
use Rattle.mz_block_laws.proofs.BlockProofs.{sentence_law}
use Rattle.mz_block_laws.proofs.OrderProofs.{variables_in_order}
use Rattle.mz_walk_laws.specs.Grounds.{ReadsWell}
use Rattle.mz_walk_laws.specs.MadeLaws.{AreMadeAt}
use Rattle.mz_walk_laws.proofs.MadeProofs.{justification_made_law}
use Rattle.mz_walk_laws.proofs.PerformLemmas.{variables_letters}
use Rattle.mz_walk_laws.proofs.WalkProofs as walk
use Rattle.mz_level_laws.specs.Level.{IsLevel}
pub use Rattle.mz_level_laws.proofs.LevelProofs.{reading_law}
use Rattle.mz_standing.specs.Counts.{counted}
use Rattle.mz_standing.specs.Standing.{extent_of, with_context, with_item, labelled_if_any}
use Rattle.mz_standing.specs.declared.standing.Standing.{Standing}
use Rattle.mz_standing_laws.specs.Owed.{IsOwed}
use Rattle.mz_standing_laws.specs.Soundly.{axioms_of, Setting, axioms_at, StandsSoundly, basis}
use Rattle.mz_standing_laws.specs.Headings.{IsWithLoci, LociLaw, ConditionLaw, HeadingLaw, SchemeLaw}
use Rattle.mz_standing_laws.proofs.OwedProofs.{granted_further, granted_at, owed_more, owed_said}
use Rattle.mz_standing_laws.proofs.GroundProofs.{grounded, decided_law}
use Rattle.mz_standing_laws.proofs.ContextProofs.{facts_part, order_part}
use Rattle.mz_standing_laws.proofs.ItemProofs.{item_law, context_law, label_law}

-- contexts with loci

letters_there : (g : Setting) (s : Standing) (loci : List Variable) (d : Context) → StandsSoundly g s → IsWithLoci s.context loci d → d.letters ≡ []
letters_there g s loci d sound with_loci = with_loci.part.letters ∙ variables_letters s.context loci ∙ sound.no_letters

pub loci_law : LociLaw
loci_law g s loci t d ax sound stand with_loci = record {
  is_whole = with_loci.level;
  order = order_part d (with_variables s.context loci) with_loci.part (variables_in_order [] s.context sound.order loci t stand).0;
  letters = letters_there g s loci d sound with_loci;
}

pub condition_law : ConditionLaw
condition_law g s loci d x left after first behind linked j os final sound stand with_loci inner closed_over closed justifies grows decided =
    let c : Context = s.context in
    let ax : List Formula = axioms_at g s in
    let reads : ReadsWell s.environment IsLevel = reading_law s.environment sound.closed_so in
    let made : AreMadeAt (extent_of s) d.letters os = justification_made_law s.environment (extent_of s) d first behind linked j x left after os justifies in
    let met : AreMet ax s.clauses os = decided_law g s final [] os sound grows refl (λ o is. ((made o is).0, (made o is).1 ∙ ap letters_clauses (letters_there g s loci d sound with_loci))) decided ax in
    let derived : Derives ax (facts d ++ []) (erase x.closed) =
    walk.justification_law IsLevel (basis ax [] s) reads [] (grounded g s ax sound (λ k has. has)) d (loci_law g s loci x.closed d ax sound stand with_loci) x inner closed_over (extent_of s) first behind linked j left after os justifies met in
    let there : Derives ax (facts (with_variables c loci) ++ []) (erase x.closed) =
    premises_within (facts d ++ []) (facts (with_variables c loci) ++ []) (erase x.closed) ax
    (λ f is. subst (λ fs. Contains fs f) (sym (append-nil (facts (with_variables c loci)))) (facts_part d (with_variables c loci) with_loci.part f (subst (λ fs. Contains fs f) (append-nil (facts d)) is))) derived in
    sound.conservative ax (λ k has. has) (for_all (next c) loci x.closed) closed (sentence_law ax [] c sound.order loci x.closed stand there)

-- with other counts and other labels of schemes

level_with : (c : Context) (counts : SymbolCounts) (schemes : List LabelledScheme) → IsLevel c → IsLevel (record c { counts = counts; schemes = schemes })
level_with c counts schemes level = record {
  is_whole = record {
    constants = level.is_whole.constants;
    reserved = level.is_whole.reserved;
    labelled = level.is_whole.labelled;
    previous = level.is_whole.previous;
    functors = level.is_whole.functors;
    predicates = level.is_whole.predicates;
    letters = level.is_whole.letters;
    thesis = level.is_whole.thesis;
    it_is = level.is_whole.it_is;
    arguments = level.is_whole.arguments;
    subject = level.is_whole.subject;
  };
  no_it = level.no_it;
  no_arguments = level.no_arguments;
  no_subject = level.no_subject;
}

counted_law : (g : Setting) (s : Standing) (counts : SymbolCounts) (schemes : List LabelledScheme) → StandsSoundly g s → StandsSoundly g (with_context s (record s.context { previous = None; counts = counts; schemes = schemes }))
counted_law g s counts schemes sound =
    let d : Context = record s.context { previous = None } in
    context_law g s (record d { counts = counts; schemes = schemes }) sound (record { constants = refl; letters = refl; named = refl; previous = inr refl })
    (level_with d counts schemes ((reading_law s.environment sound.closed_so).unlinked s.context sound.level)) sound.no_thesis

-- behind a heading

cited_there : (x : Item) (t : Statement) → definitional_theorem x ≡ Some t → Contains (statements_cited (at_start 0) x) (record { article = 0; is_definition = true; number = 0 + 1; statement = t })
cited_there x t is =
    Contains-append_right (statement_cited false 0 0 (theorem_of x)) (statement_cited true 0 0 (definitional_theorem x)) _
    (subst (λ o. Contains (statement_cited true 0 0 o) (record { article = 0; is_definition = true; number = 0 + 1; statement = t })) (sym is) (contains_first _ []))

theorem_closed : (x : Item) (t : Statement) → IsClosedEnvironment (of_item (at_start 0) x) → definitional_theorem x ≡ Some t → statement_under 0 t ≡ true
theorem_closed x t closed is =
    all-one cited_statement_closed (statements_cited (at_start 0) x) (record { article = 0; is_definition = true; number = 0 + 1; statement = t }) (cited_there x t is) closed.theorems

theorem_derives : (ax : List Formula) (x : Item) (t : Statement) → AllFollow ax [] (item_statements x) → definitional_theorem x ≡ Some t → Derives ax [] (erase t)
theorem_derives ax x t said is = item_cited ax [] (at_start 0) x said (record { article = 0; is_definition = true; number = 0 + 1; statement = t }) (cited_there x t is)

-- what can be cited of it is labelled
labelled_law : (g : Setting) (s : Standing) (x : Item) (label : List ℕ) (o : Option Statement) → definitional_theorem x ≡ o → IsClosedEnvironment (of_item (at_start 0) x) → AllFollow (axioms_at g s) [] (item_statements x) → StandsSoundly g s →
    StandsSoundly g (with_context s (record s.context { labelled = s.context.labelled ++ labelled_if_any label o; previous = None }))
labelled_law g s x label None is closed said sound =
    subst (λ ps. StandsSoundly g (with_context s (record s.context { labelled = ps; previous = None }))) (sym (append-nil s.context.labelled))
    (counted_law g s s.context.counts s.context.schemes sound)
labelled_law g s x label (Some t) is closed said sound = label_law g s label t sound (theorem_closed x t closed is) (theorem_derives (axioms_at g s) x t said is)

item_said : (g : Setting) (s : Standing) (x : Item) → IsOwed (axioms_at g s) x → AllFollow (axioms_at g (with_item s x)) [] (item_statements x)
item_said g s x owed =
    owed_said (axioms_at g (with_item s x)) x (granted_at (axioms_of g.used) (s.items ++ x ∷ []) x (Contains-append_right s.items (x ∷ []) x (contains_first x [])))
    (owed_more (axioms_at g s) (axioms_at g (with_item s x)) x (granted_further (axioms_of g.used) s.items x) owed)

pub heading_law : HeadingLaw
heading_law g s x label sound owed =
    let there : StandsSoundly g (with_context (with_item s x) (record s.context { labelled = s.context.labelled ++ labelled_if_any label (definitional_theorem x); previous = None })) =
    labelled_law g (with_item s x) x label (definitional_theorem x) refl (given_law (at_start 0) x owed.closed) (item_said g s x owed) (item_law g s x sound owed) in
    counted_law g (with_context (with_item s x) (record s.context { labelled = s.context.labelled ++ labelled_if_any label (definitional_theorem x); previous = None })) (counted s.context.counts x) s.context.schemes there

-- behind a scheme

pub scheme_law : SchemeLaw
scheme_law g s x label number sound owed =
    counted_law g (with_item s x) (counted s.context.counts x) (s.context.schemes ++ record { label = label; number = number } ∷ []) (item_law g s x sound owed)
