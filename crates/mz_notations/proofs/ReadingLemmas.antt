-- What the code of readings tells.
use Rattle.std.proofs.Common.{◌≡◌, ◌∙◌, ℕ, Bool, true, false, sym, ap, subst, if◌then◌else◌}
use Rattle.std.specs.Prelude.{Result, Ok, Err}
use Rattle.mz_base.specs.declared.place.Place.{Place}
use Rattle.mz_logic.specs.declared.kind.Kind.{Kind}
use Rattle.mz_core.specs.declared.notation.Meaning.{Meaning}
use Rattle.mz_items.specs.Closed.{meaning_fits}
use Rattle.mz_applied.specs.Meant.{meant}
use Rattle.mz_applied.specs.Reading as re
use Rattle.mz_applied.specs.Reading.{Means}
use Rattle.mz_choice.specs.Resolution.{Resolves}
use Rattle.mz_choice.specs.declared.choice.Applied.{Applied}
use Rattle.mz_choice.specs.declared.choice.Wanted.{Wanted}
use Rattle.mz_choice.specs.declared.choice.Wanted.TheVariants.{Anything}
use Rattle.mz_choice.specs.declared.resolve.Resolution.{Resolution}
use Rattle.mz_context.specs.declared.context.Context.{Context}
use Rattle.mz_environment.specs.declared.environment.Environment.{Environment}
use Rattle.mz_names.specs.declared.refusal.Refusal.{Refusal}
use Rattle.mz_names.specs.declared.refusal.Refusal.TheVariants.{UnfitArgument, TooLarge}
use Rattle.mz_patterns.specs.declared.visible.Visible.{Visible}
use Rattle.mz_tree_heading.specs.declared.patterns.PatternTree.{PatternTree}
use Rattle.mz_types.specs.Known.{typing}
use Rattle.mz_notations.specs.Patterns.{kind_of, symbol_place, first_of}
use Rattle.mz_notations.specs.Reading.{applied_to, meaning_keeps, kept_meaning, as_pattern, SymbolReads, PatternReads}

-- forms

pub told_unfit : (k : Kind) (place first : Place) (m : Meaning) (b : Bool) → b ≡ meaning_fits k m → b ≡ false → Err (UnfitArgument place) ≡ as_pattern k place first m
told_unfit k place first m b eb ef = sym (ap (λ (v : Bool). if v then kept_meaning first m else Err (UnfitArgument place)) (sym eb ∙ ef))

pub told_large : (k : Kind) (place first : Place) (m : Meaning) (b c : Bool) → b ≡ meaning_fits k m → b ≡ true → c ≡ meaning_keeps m → c ≡ false → Err (TooLarge first) ≡ as_pattern k place first m
told_large k place first m b c eb et ec ef =
    sym (ap (λ (v : Bool). if v then kept_meaning first m else Err (UnfitArgument place)) (sym eb ∙ et) ∙ ap (λ (v : Bool). if v then Ok m else Err (TooLarge first)) (sym ec ∙ ef))

pub told_fit : (k : Kind) (place first : Place) (m : Meaning) (b c : Bool) → b ≡ meaning_fits k m → b ≡ true → c ≡ meaning_keeps m → c ≡ true → Ok m ≡ as_pattern k place first m
told_fit k place first m b c eb et ec ef =
    sym (ap (λ (v : Bool). if v then kept_meaning first m else Err (UnfitArgument place)) (sym eb ∙ et) ∙ ap (λ (v : Bool). if v then Ok m else Err (TooLarge first)) (sym ec ∙ ef))

pub ruleset form_rules = (told_unfit, told_large, told_fit)

-- meanings

pub told_means : (e : Environment) (c : Context) (w : Wanted) (place : Place) (a : Applied) (o : Resolution) (m : Result Meaning Refusal) → Resolves (typing e c) e c w a o → m ≡ meant place o → Means e c w place a m
told_means e c w place a o m h em = subst (Means e c w place a) (sym em) (re.means o h)

pub ruleset means_rules = (told_means)

-- symbols and patterns

pub told_refused : (e : Environment) (c : Context) (k : Kind) (place first : Place) (a : Applied) (o : Result Meaning Refusal) (r : Refusal) → Means e c Anything place a o → o ≡ Err r → SymbolReads e c k place first a (Err r)
told_refused e c k place first a o r h eo = re.refused r (subst (Means e c Anything place a) eo h)

pub told_reads : (e : Environment) (c : Context) (k : Kind) (place first : Place) (a : Applied) (o x : Result Meaning Refusal) (m : Meaning) → Means e c Anything place a o → o ≡ Ok m → x ≡ as_pattern k place first m → SymbolReads e c k place first a x
told_reads e c k place first a o x m h eo ex = subst (SymbolReads e c k place first a) (sym ex) (re.reads m (subst (Means e c Anything place a) eo h))

pub ruleset reads_rules = (told_refused, told_reads)

pub told_pattern : (e : Environment) (c : Context) (least : ℕ) (t : PatternTree) (v : Visible) (k : Kind) (place first : Place) (a : Applied) (o : Result Meaning Refusal) → k ≡ kind_of t → place ≡ symbol_place t → first ≡ first_of t → a ≡ applied_to least t v → SymbolReads e c k place first a o →
    PatternReads e c least t v o
told_pattern e c least t v k place first a o ek ep ef ea h =
    let one : SymbolReads e c (kind_of t) place first a o = subst (λ j. SymbolReads e c j place first a o) ek h in
    let two : SymbolReads e c (kind_of t) (symbol_place t) first a o = subst (λ p. SymbolReads e c (kind_of t) p first a o) ep one in
    let three : SymbolReads e c (kind_of t) (symbol_place t) (first_of t) a o = subst (λ p. SymbolReads e c (kind_of t) (symbol_place t) p a o) ef two in
    subst (λ (b : Applied). SymbolReads e c (kind_of t) (symbol_place t) (first_of t) b o) ea three

pub ruleset pattern_rules = (told_pattern)
