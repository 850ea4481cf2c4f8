-- What the code of types tells.
use Rattle.std.proofs.Common.{◌≡◌, ℕ, Bool, true, false, List, [], map, sym, ap, ◌∙◌, subst, Some, Vec}
use Rattle.std.specs.Prelude.{◌↔◌, IsTrue, Result, Ok, Err}
use Rattle.std.specs.declared.alloc.Global.{Global}
use Rattle.mz_base.specs.declared.place.Place.{Place}
use Rattle.mz_logic.specs.Term.{Term, Const}
use Rattle.mz_logic.specs.declared.kind.Kind.{Kind}
use Rattle.mz_core.specs.declared.adjective.Adjective.{Adjective}
use Rattle.mz_core.specs.declared.soft_type.SoftType.{SoftType}
use Rattle.mz_context.specs.declared.constants.Constant.{Constant}
use Rattle.mz_context.specs.declared.context.Context.{Context}
use Rattle.mz_context.specs.Context.{next}
use Rattle.mz_context.specs.Changes.{with_constant}
use Rattle.mz_environment.specs.declared.environment.Environment.{Environment}
use Rattle.mz_types.specs.Known.{typing}
use Rattle.mz_names.specs.declared.refusal.Refusal.{Refusal}
use Rattle.mz_names.specs.declared.refusal.Refusal.TheVariants.{Unregistered}
use Rattle.mz_fits.proofs.FitLemmas.{not_both}
use Rattle.mz_choice.specs.declared.choice.Applied.{Applied}
use Rattle.mz_choice.specs.declared.choice.Wanted.{Wanted}
use Rattle.mz_choice.specs.declared.choice.Wanted.TheVariants.{Anything, AdjectiveOfFresh}
use Rattle.mz_choice.specs.Cover.{bare, IsCovered}
use Rattle.mz_choice.specs.Fresh.{fresh, with_fresh}
use Rattle.mz_choice.proofs.CoverLemmas.{told_fresh_left}
use Rattle.mz_sizes.specs.Sizes.{type_keeps}
use Rattle.mz_tree.specs.Trees.{TypeData, AdjectiveData, adjectives_of}
use Rattle.mz_tree.specs.Places.{first_place}
use Rattle.mz_tree.specs.Spell.{spell_type}
use Rattle.mz_tree.specs.Views.{type_of, terms_of, adjective_of}
use Rattle.mz_tree.specs.declared.chain.Chain.{Chain}
use Rattle.mz_tree.specs.declared.word.Word.{Word}
use Rattle.mz_tree.specs.declared.nodes.AdjectiveNode.{AdjectiveNode}
use Rattle.mz_tree.specs.declared.nodes.TermNode.{TermNode}
use Rattle.mz_tree.specs.declared.nodes.TypeNode.{TypeNode}
use Rattle.mz_tree.specs.declared.nodes.TypeNode.TheVariants as nodes
use Rattle.mz_tree.proofs.Views.{type_of-mode, type_of-mode_of, type_of-structure, type_of-structure_over}
use Rattle.mz_applied.specs.Within.{within}
use Rattle.mz_applied.specs.Application.{application}
use Rattle.mz_applied.specs.Meant.{as_type}
use Rattle.mz_applied.specs.Reading.{ReadsAs}
use Rattle.mz_terms.specs.Terms.{ReadsAll}
use Rattle.mz_terms.specs.Adjectives.{ReadsAdjectives}
use Rattle.mz_terms.specs.Types as ty
use Rattle.mz_terms.specs.Types.{adjectives_in, radix_in, radix_kind, ReadsRadixTerms, ReadsRadix, with_adjectives, ReadsWritten, ReadsParts, ReadsType, ReadsRegistered}

terms_as : (e : Environment) (c : Context) (least : ℕ) (node other : TypeNode) (t : TypeData) (o : Result (List Term) Refusal) → node ≡ other → type_of other ≡ t → ReadsRadixTerms e c least t o → ReadsRadixTerms e c least (type_of node) o
terms_as e c least node other t o en et h = subst (λ x. ReadsRadixTerms e c least x o) (sym (ap type_of en ∙ et)) h

pub told_mode : (e : Environment) (c : Context) (least : ℕ) (node : TypeNode) (xs : Vec AdjectiveNode Global) (w : Word) → node ≡ nodes.Mode xs w → ReadsRadixTerms e c least (type_of node) (Ok [])
told_mode e c least node xs w en = terms_as e c least node (nodes.Mode xs w) _ (Ok []) en (type_of-mode xs w) (ty.of_mode (adjectives_of (map adjective_of xs.items)) w)

pub told_mode_of : (e : Environment) (c : Context) (least : ℕ) (node : TypeNode) (xs : Vec AdjectiveNode Global) (w : Word) (p : Place) (ts : Chain Place TermNode) (o : Result (List Term) Refusal) → node ≡ nodes.ModeOf xs w p ts → ReadsAll e c least (terms_of ts) o → ReadsRadixTerms e c least (type_of node) o
told_mode_of e c least node xs w p ts o en h = terms_as e c least node (nodes.ModeOf xs w p ts) _ o en (type_of-mode_of xs w p ts) (ty.of_mode_of (adjectives_of (map adjective_of xs.items)) w p (terms_of ts) o h)

pub told_structure : (e : Environment) (c : Context) (least : ℕ) (node : TypeNode) (xs : Vec AdjectiveNode Global) (w : Word) → node ≡ nodes.Structure xs w → ReadsRadixTerms e c least (type_of node) (Ok [])
told_structure e c least node xs w en = terms_as e c least node (nodes.Structure xs w) _ (Ok []) en (type_of-structure xs w) (ty.of_structure (adjectives_of (map adjective_of xs.items)) w)

pub told_structure_over : (e : Environment) (c : Context) (least : ℕ) (node : TypeNode) (xs : Vec AdjectiveNode Global) (w : Word) (p : Place) (ts : Chain Place TermNode) (o : Result (List Term) Refusal) → node ≡ nodes.StructureOver xs w p ts → ReadsAll e c least (terms_of ts) o → ReadsRadixTerms e c least (type_of node) o
told_structure_over e c least node xs w p ts o en h = terms_as e c least node (nodes.StructureOver xs w p ts) _ o en (type_of-structure_over xs w p ts) (ty.of_structure_over (adjectives_of (map adjective_of xs.items)) w p (terms_of ts) o h)

pub ruleset term_rules = (told_mode, told_mode_of, told_structure, told_structure_over)

pub told_terms_refused : (e : Environment) (c : Context) (least : ℕ) (t : TypeData) (o : Result (List Term) Refusal) (r : Refusal) → ReadsRadixTerms e c least t o → o ≡ Err r → ReadsRadix e c least t (Err r)
told_terms_refused e c least t o r h eo =
    let P : Result (List Term) Refusal → Type 0 = λ x. ReadsRadixTerms e c least t x in
    ty.terms_refused r (subst P eo h)

pub told_terms_read : (e : Environment) (c : Context) (least : ℕ) (t : TypeData) (o : Result (List Term) Refusal) (ts left : List Term) (kind : Kind) (w : Word) (a : Applied) (p : Result SoftType Refusal) → ReadsRadixTerms e c least t o → o ≡ Ok ts → kind ≡ radix_kind t → w ≡ radix_in t → left ≡ [] → a ≡ application kind w.spelling left ts → ReadsAs e c Anything w.place (as_type w.place) a p → ReadsRadix e c least t p
told_terms_read e c least t o ts left kind w a p h eo ek ew el ea k =
    let P : Result (List Term) Refusal → Type 0 = λ x. ReadsRadixTerms e c least t x in
    let Q : Applied → Type 0 = λ x. ReadsAs e c Anything w.place (as_type w.place) x p in
    let R : Word → Type 0 = λ x. ReadsAs e c Anything x.place (as_type x.place) (application (radix_kind t) x.spelling [] ts) p in
    let same : a ≡ application (radix_kind t) w.spelling [] ts = ea ∙ (ap (λ x. application x w.spelling left ts) ek ∙ ap (λ x. application (radix_kind t) w.spelling x ts) el) in
    ty.terms_read ts p (subst P eo h) (subst R ew (subst Q same k))

pub ruleset radix_rules = (told_terms_refused, told_terms_read)

pub told_written : (e : Environment) (c d : Context) (least : ℕ) (t alone : SoftType) (k : Constant) (n : ℕ) (wanted : Wanted) (subject : Term) (xs : List AdjectiveData) (o : Result (List Adjective) Refusal) → alone ≡ bare t → k ≡ fresh alone → d ≡ with_constant c k → n ≡ next c → wanted ≡ AdjectiveOfFresh n → subject ≡ Const n → ReadsAdjectives e d least wanted subject xs [] o → ReadsWritten e c least t xs o
told_written e c d least t alone k n wanted subject xs o ea ek ed en ew es h =
    let one : d ≡ with_fresh c (bare t) = ed ∙ ap (with_constant c) (ek ∙ ap fresh ea) in
    let P : Wanted → Type 0 = λ x. ReadsAdjectives e d least x subject xs [] o in
    let Q : Term → Type 0 = λ x. ReadsAdjectives e d least (AdjectiveOfFresh (next c)) x xs [] o in
    let R : Context → Type 0 = λ x. ReadsAdjectives e x least (AdjectiveOfFresh (next c)) (Const (next c)) xs [] o in
    subst R one (subst Q (es ∙ ap Const en) (subst P (ew ∙ ap AdjectiveOfFresh en) h))

pub ruleset written_rules = (told_written, told_fresh_left)

pub told_radix_refused : (e : Environment) (c : Context) (least : ℕ) (t : TypeData) (o : Result SoftType Refusal) (r : Refusal) → ReadsRadix e c least t o → o ≡ Err r → ReadsParts e c least t (Err r)
told_radix_refused e c least t o r h eo =
    let P : Result SoftType Refusal → Type 0 = λ x. ReadsRadix e c least t x in
    ty.radix_refused r (subst P eo h)

pub told_adjectives_refused : (e : Environment) (c : Context) (least : ℕ) (t : TypeData) (o : Result SoftType Refusal) (m : SoftType) (nodes : List AdjectiveNode) (p : Result (List Adjective) Refusal) (r : Refusal) → ReadsRadix e c least t o → o ≡ Ok m → adjectives_of (map adjective_of nodes) ≡ adjectives_in t → ReadsWritten e c least m (map adjective_of nodes) p → p ≡ Err r → ReadsParts e c least t (Err r)
told_adjectives_refused e c least t o m nodes p r h eo en k ep =
    let P : Result SoftType Refusal → Type 0 = λ x. ReadsRadix e c least t x in
    let Q : Result (List Adjective) Refusal → Type 0 = λ x. ReadsWritten e c least m (map adjective_of nodes) x in
    ty.adjectives_refused m (map adjective_of nodes) r (subst P eo h) (sym en) (subst Q ep k)

pub told_parts : (e : Environment) (c : Context) (least : ℕ) (t : TypeData) (o : Result SoftType Refusal) (m n : SoftType) (nodes : List AdjectiveNode) (p : Result (List Adjective) Refusal) (xs : List Adjective) → ReadsRadix e c least t o → o ≡ Ok m → adjectives_of (map adjective_of nodes) ≡ adjectives_in t → ReadsWritten e c least m (map adjective_of nodes) p → p ≡ Ok xs → n ≡ with_adjectives xs m → ReadsParts e c least t (Ok n)
told_parts e c least t o m n nodes p xs h eo en k ep eq =
    let P : Result SoftType Refusal → Type 0 = λ x. ReadsRadix e c least t x in
    let Q : Result (List Adjective) Refusal → Type 0 = λ x. ReadsWritten e c least m (map adjective_of nodes) x in
    subst (λ x. ReadsParts e c least t (Ok x)) (sym eq) (ty.parts_read m (map adjective_of nodes) xs (subst P eo h) (sym en) (subst Q ep k))

pub ruleset part_rules = (told_radix_refused, told_adjectives_refused, told_parts)

pub told_refused : (e : Environment) (c : Context) (least : ℕ) (t : TypeData) (o : Result SoftType Refusal) (r : Refusal) → ReadsParts e c least t o → o ≡ Err r → ReadsType e c least t (Err r)
told_refused e c least t o r h eo =
    let P : Result SoftType Refusal → Type 0 = λ x. ReadsParts e c least t x in
    ty.refused r (subst P eo h)

pub told_uncovered : (e : Environment) (c d : Context) (least : ℕ) (t : TypeData) (o : Result SoftType Refusal) (m : SoftType) (first : Place) (b : Bool) → ReadsParts e c least t o → o ≡ Ok m → first_place (spell_type t) ≡ Some first → d ≡ c → IsTrue b ↔ IsCovered (typing e d) e d m → b ≡ false → ReadsType e c least t (Err (Unregistered first))
told_uncovered e c d least t o m first b h eo ef ed i eb =
    let P : Result SoftType Refusal → Type 0 = λ x. ReadsParts e c least t x in
    let j : IsTrue b ↔ IsCovered (typing e c) e c m = subst (λ x. IsTrue b ↔ IsCovered (typing e x) e x m) ed i in
    ty.uncovered m first (subst P eo h) ef (λ k. not_both b eb (j.1 k))

pub told_covered : (e : Environment) (c d : Context) (least : ℕ) (t : TypeData) (o : Result SoftType Refusal) (m : SoftType) (first : Place) (b : Bool) (p : Result SoftType Refusal) → ReadsParts e c least t o → o ≡ Ok m → first_place (spell_type t) ≡ Some first → d ≡ c → IsTrue b ↔ IsCovered (typing e d) e d m → b ≡ true → p ≡ within type_keeps first m → ReadsType e c least t p
told_covered e c d least t o m first b p h eo ef ed i eb ep =
    let P : Result SoftType Refusal → Type 0 = λ x. ReadsParts e c least t x in
    let Q : Result SoftType Refusal → Type 0 = λ x. ReadsType e c least t x in
    let j : IsTrue b ↔ IsCovered (typing e c) e c m = subst (λ x. IsTrue b ↔ IsCovered (typing e x) e x m) ed i in
    subst Q (sym ep) (ty.covered m first (subst P eo h) ef (j.0 eb))

pub ruleset type_rules = (told_refused, told_uncovered, told_covered)

pub told_not_registered : (e : Environment) (c : Context) (least : ℕ) (t : TypeData) (o : Result SoftType Refusal) (r : Refusal) → ReadsParts e c least t o → o ≡ Err r → ReadsRegistered e c least t (Err r)
told_not_registered e c least t o r h eo =
    let P : Result SoftType Refusal → Type 0 = λ x. ReadsParts e c least t x in
    ty.not_registered r (subst P eo h)

pub told_registered : (e : Environment) (c : Context) (least : ℕ) (t : TypeData) (o : Result SoftType Refusal) (m : SoftType) (first : Place) (p : Result SoftType Refusal) → ReadsParts e c least t o → o ≡ Ok m → first_place (spell_type t) ≡ Some first → p ≡ within type_keeps first m → ReadsRegistered e c least t p
told_registered e c least t o m first p h eo ef ep =
    let P : Result SoftType Refusal → Type 0 = λ x. ReadsParts e c least t x in
    let Q : Result SoftType Refusal → Type 0 = λ x. ReadsRegistered e c least t x in
    subst Q (sym ep) (ty.registered m first (subst P eo h) ef)

pub ruleset registered_rules = (told_not_registered, told_registered)
