-- What is accepted keeps a sound library sound.
use Rattle.std.proofs.Common.{◌≡◌, ℕ, List, [], ◌∷◌, length, refl, sym, ap, subst, Ok}
use Rattle.mz_base.specs.NamedText.{NamedText}
use Rattle.mz_base.specs.declared.name.Name.{Name}
use Rattle.mz_base.specs.declared.head.Directive.{Directive}
use Rattle.mz_items.specs.Exports.{HasNotationsOfItems}
use Rattle.mz_core.specs.declared.outcome.Export.{Export}
use Rattle.mz_core.specs.declared.fault.Fault.{Fault}
use Rattle.mz_core.specs.declared.outcome.Outcome.{Outcome}
use Rattle.mz_core.specs.declared.outcome.Outcome.TheVariants.{Accepted, Rejected}
use Rattle.mz_ground.specs.declared.clause.Clause.{Clause}
use Rattle.mz_ground.proofs.ListLemmas.{extends_itself}
use Rattle.mz_axioms.specs.Checker.{AnswersName, KeepsSound}
use Rattle.mz_axioms.specs.Library.{HasName, Sound, AreExportsOf}
use Rattle.mz_corpus.specs.Directives.{dependencies_of}
use Rattle.mz_environment.specs.declared.environment.Environment.{Environment}
use Rattle.mz_env.specs.LetIn.{LetIn}
use Rattle.mz_obligations.specs.declared.obligation.Obligation.{Obligation}
use Rattle.mz_taken.specs.Taken.{Made}
use Rattle.mz_tree_item.specs.declared.article.ArticlePartTree.{ArticlePartTree}
use Rattle.mz_front.specs.Front.{IsFront, front}
use Rattle.mz_front.specs.declared.front.Front.{Front}
use Rattle.mz_judged.specs.Judged.{AreJudged}
use Rattle.mz_judged.proofs.MetProofs.{met_law}
use Rattle.mz_standing.specs.Standing.{standing_at_start}
use Rattle.mz_standing.specs.declared.standing.Standing.{Standing}
use Rattle.mz_standing_laws.specs.Owed.{AreOwed}
use Rattle.mz_standing_laws.specs.Soundly.{axioms_of, Setting, AreDecided, StandsSoundly}
use Rattle.mz_standing_laws.specs.Added.{IsSettingOf}
use Rattle.mz_standing_laws.proofs.ItemProofs.{start_law}
use Rattle.mz_standing_laws.proofs.AddedProofs.{closed_exports, used_law, added_law}
use Rattle.mz_article_items.specs.Items.{AreItems}
use Rattle.mz_accepted_laws.proofs.ItemKeeps.{items_keep}
use Rattle.mz_article.specs.Outcome as outcome
use Rattle.mz_article.specs.Outcome.{export_of, outcome_by, IsDecided, IsOutcomeFrom, IsOutcome}

-- how an accepted article ended

record Ended (name : Name) (ds : List Directive) (parts : List ArticlePartTree) (s : Standing) (e : Export) : Type 0 where
  last : Standing
  obligations : List Obligation
  read_so : AreItems s parts (Made obligations last)
  judged_so : AreJudged last.clauses obligations []
  is : e ≡ export_of name ds last.items

abbrev OnAccepted : Outcome → (Export → Type 0) → Type 0
OnAccepted (Accepted e) P = P e
OnAccepted (Rejected fs) P = Unit {0}

by_faults : (name : Name) (ds : List Directive) {parts : List ArticlePartTree} {s : Standing} (t : Standing) (os : List Obligation) (fs : List Fault) → AreItems s parts (Made os t) → AreJudged t.clauses os fs → OnAccepted (outcome_by (export_of name ds t.items) fs) (Ended name ds parts s)
by_faults name ds t os [] h j = record { last = t; obligations = os; read_so = h; judged_so = j; is = refl }
by_faults name ds t os (f ∷ fs) h j = tt

decided_ended : {name : Name} {ds : List Directive} {parts : List ArticlePartTree} {s t : Standing} {os : List Obligation} {o : Outcome} → AreItems s parts (Made os t) → IsDecided name ds t os o → OnAccepted o (Ended name ds parts s)
decided_ended {name = name} {ds = ds} {t = t} {os = os} h (outcome.decided fs j) = by_faults name ds t os fs h j

ended : {name : Name} {ds : List Directive} {parts : List ArticlePartTree} {s : Standing} {o : Outcome} → IsOutcomeFrom name ds parts s o → OnAccepted o (Ended name ds parts s)
ended (outcome.stopped r h) = tt
ended (outcome.judged t os o h d) = decided_ended h d

record Fronted (name : Name) (exports : List Export) (bytes : ℕ) (e : Export) : Type 0 where
  read_so : Front
  lets : LetIn read_so.head exports (Ok read_so.environment)
  ends : Ended name read_so.head read_so.tree.parts (standing_at_start name bytes read_so.environment) e

front_lets : {vs : List NamedText} {exports : List Export} {bytes : List ℕ} {x : Front} → IsFront vs exports bytes (Ok x) → LetIn x.head exports (Ok x.environment)
front_lets (front x h t l) = l

fronted_on : (name : Name) (exports : List Export) (bytes : ℕ) (x : Front) (o : Outcome) → LetIn x.head exports (Ok x.environment) → OnAccepted o (Ended name x.head x.tree.parts (standing_at_start name bytes x.environment)) → OnAccepted o (Fronted name exports bytes)
fronted_on name exports bytes x (Accepted e) lets h = record { read_so = x; lets = lets; ends = h }
fronted_on name exports bytes x (Rejected fs) lets h = tt

fronted : {name : Name} {vs : List NamedText} {exports : List Export} {bytes : List ℕ} {o : Outcome} → IsOutcome name vs exports bytes o → OnAccepted o (Fronted name exports (length bytes))
fronted (outcome.refused f h) = tt
fronted {name} {vs} {exports} {bytes} (outcome.read x o h d) = fronted_on name exports (length bytes) x o (front_lets h) (ended d)

-- laws

all_decided : (cs : List Clause) (os : List Obligation) → AreJudged cs os [] → AreDecided cs os
all_decided cs os judged o is none = met_law cs os judged o is none

-- what an accepted article rests on
pub record Rested (exports : List Export) (e : Export) : Type 0 where
  pub head : List Directive
  pub environment : Environment
  pub lets : LetIn head exports (Ok environment)
  pub setting : Setting
  pub set_so : IsSettingOf e.name head exports environment setting
  pub depends : e.dependencies ≡ dependencies_of head
  pub with_notations : HasNotationsOfItems e
  pub met : AreOwed (axioms_of setting.used) e.items

rested : (name : Name) (exports : List Export) (bytes : ℕ) (e : Export) (library : List Export) → Sound library → AreExportsOf library exports → Fronted name exports bytes e → Rested exports e
rested name exports bytes e library sound of_library f =
    let x : Front = f.read_so in
    let same = f.ends.is in
    let used : (g : Setting) × IsSettingOf name x.head exports x.environment g = used_law name x.head library exports x.environment sound of_library f.lets in
    let g : Setting = used.0 in
    let start : StandsSoundly g (standing_at_start name bytes x.environment) =
    subst (λ n. StandsSoundly g (standing_at_start n bytes x.environment)) used.1.named
    (start_law g x.head exports x.environment bytes (closed_exports library exports sound of_library) f.lets used.1.entries used.1.clauses_are) in
    let end : Standing = f.ends.last in
    let decided : AreDecided end.clauses f.ends.obligations = all_decided end.clauses f.ends.obligations f.ends.judged_so in
    let last : StandsSoundly g end = (items_keep g (standing_at_start name bytes x.environment) x.tree.parts (Made f.ends.obligations end) start f.ends.read_so).1 end.clauses (extends_itself end.clauses) decided in
    record {
      head = x.head;
      environment = x.environment;
      lets = f.lets;
      setting = g;
      set_so = subst (λ n. IsSettingOf n x.head exports x.environment g) (ap (λ (d : Export). d.name) (sym same)) used.1;
      depends = ap (λ (d : Export). d.dependencies) same;
      with_notations = subst HasNotationsOfItems (sym same) refl;
      met = subst (λ (d : Export). AreOwed (axioms_of g.used) d.items) (sym same) last.met;
    }

pub accepted_rests : (name : Name) (vs : List NamedText) (exports : List Export) (bytes : List ℕ) (e : Export) (library : List Export) → Sound library → AreExportsOf library exports → IsOutcome name vs exports bytes (Accepted e) → Rested exports e
accepted_rests name vs exports bytes e library sound of_library accepted = rested name exports (length bytes) e library sound of_library (fronted accepted)

pub name_law : AnswersName IsOutcome
name_law name vs exports bytes e accepted = let f : Fronted name exports (length bytes) e = fronted accepted in ap (λ (d : Export). d.name) f.ends.is

pub accepted_law : KeepsSound IsOutcome
accepted_law name vs exports bytes e library sound fresh of_library accepted =
    let r : Rested exports e = accepted_rests name vs exports bytes e library sound of_library accepted in
    added_law r.head library exports r.environment e r.setting sound of_library r.lets r.set_so
    (subst (λ n. HasName library n → ⊥) (sym (name_law name vs exports bytes e accepted)) fresh) r.depends r.with_notations r.met
