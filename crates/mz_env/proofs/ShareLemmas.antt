-- Environments one behind another, along items and articles.
use Rattle.std.proofs.Common.{◌≡◌, ℕ, suc, ◌+◌, ◌<◌, ◌≤◌, List, [], ◌∷◌, ◌++◌, length, get_or, drop, sym, ap, ◌∙◌, drop-cons, add-one, append_assoc}
use Rattle.std.specs.Prelude.{Some, slice_get}
use Rattle.std.proofs.lemmas.List.{append-nil, drop_all}
use Rattle.std.proofs.lemmas.Option.{slice_get_within, get_or_from_slice_get}
use Rattle.mz_base.specs.declared.name.Name.{Name}
use Rattle.mz_base.specs.declared.head.DirectiveKind.{DirectiveKind}
use Rattle.mz_core.specs.declared.item.Item.{Item}
use Rattle.mz_core.specs.declared.outcome.Export.{Export}
use Rattle.mz_environment.specs.Cited.{at_start, numbered}
use Rattle.mz_environment.specs.Environment.{no_environment, joined, of_item}
use Rattle.mz_environment.specs.declared.numbering.Numbering.{Numbering}
use Rattle.mz_environment.specs.declared.environment.Environment.{Environment}
use Rattle.mz_env.specs.Shares.{share, shares, shares_of, wholes}

pub joined_none : (e : Environment) → joined e no_environment ≡ e
joined_none e i = record {
  functors = append-nil e.functors i;
  modes = append-nil e.modes i;
  structures = append-nil e.structures i;
  sethoods = append-nil e.sethoods i;
  notations = append-nil e.notations i;
  typing = append-nil e.typing i;
  further = append-nil e.further i;
  equalities = append-nil e.equalities i;
  steps = append-nil e.steps i;
  expansions = append-nil e.expansions i;
  registrations = append-nil e.registrations i;
  theorems = append-nil e.theorems i;
  schemes = append-nil e.schemes i;
}

pub joined_assoc : (e f g : Environment) → joined (joined e f) g ≡ joined e (joined f g)
joined_assoc e f g i = record {
  functors = append_assoc e.functors f.functors g.functors i;
  modes = append_assoc e.modes f.modes g.modes i;
  structures = append_assoc e.structures f.structures g.structures i;
  sethoods = append_assoc e.sethoods f.sethoods g.sethoods i;
  notations = append_assoc e.notations f.notations g.notations i;
  typing = append_assoc e.typing f.typing g.typing i;
  further = append_assoc e.further f.further g.further i;
  equalities = append_assoc e.equalities f.equalities g.equalities i;
  steps = append_assoc e.steps f.steps g.steps i;
  expansions = append_assoc e.expansions f.expansions g.expansions i;
  registrations = append_assoc e.registrations f.registrations g.registrations i;
  theorems = append_assoc e.theorems f.theorems g.theorems i;
  schemes = append_assoc e.schemes f.schemes g.schemes i;
}

drop-split : {X : Type 0} (xs : List X) (i : ℕ) (x : X) → i < length xs → x ≡ get_or xs i x → drop i xs ≡ x ∷ drop (i + 1) xs
drop-split xs i x lt at = rw (add-one, drop-cons xs i x) (ap (λ y. y ∷ drop (suc i) xs) (sym at))

-- a turn of the loop over items, and its end
pub told_share : (articles : List Name) (kind : DirectiveKind) (xs : List Item) (i : ℕ) (x : Item) (out now whole : Environment) (at next : Numbering) → i < length xs → x ≡ get_or xs i x → now ≡ joined out (share articles kind at x) → next ≡ numbered at x → joined out (shares articles kind at (drop i xs)) ≡ whole → joined now (shares articles kind next (drop (i + 1) xs)) ≡ whole
told_share articles kind xs i x out now whole at next lt is now_is next_is goes =
    let rest : Environment = shares articles kind (numbered at x) (drop (i + 1) xs) in
    let cut : drop i xs ≡ x ∷ drop (i + 1) xs = drop-split xs i x lt is in
    (λ j. joined (now_is j) (shares articles kind (next_is j) (drop (i + 1) xs))) ∙
    (joined_assoc out (share articles kind at x) rest ∙
    (sym (λ j. joined out (shares articles kind at (cut j))) ∙ goes))

pub told_shared : (articles : List Name) (kind : DirectiveKind) (xs : List Item) (i : ℕ) (out whole : Environment) (at : Numbering) → length xs ≤ i → joined out (shares articles kind at (drop i xs)) ≡ whole → out ≡ whole
told_shared articles kind xs i out whole at past goes =
    sym (joined_none out) ∙ (sym (λ j. joined out (shares articles kind at (drop_all i xs past j))) ∙ goes)

pub ruleset share_rules = (told_share, told_shared)

-- of the loop over articles
drop-named_split : (es : List Export) (i : ℕ) (e : Export) → slice_get es i ≡ Some e → drop i es ≡ e ∷ drop (i + 1) es
drop-named_split es i e at = drop-split es i e (slice_get_within es i e at) (sym (get_or_from_slice_get es i e e at))

pub told_article : (articles : List Name) (kind : DirectiveKind) (es : List Export) (i : ℕ) (e : Export) (out now whole : Environment) → slice_get es i ≡ Some e → now ≡ joined out (shares articles kind (at_start e.name.number) e.items) → joined out (shares_of articles kind (drop i es)) ≡ whole → joined now (shares_of articles kind (drop (i + 1) es)) ≡ whole
told_article articles kind es i e out now whole at now_is goes =
    let rest : Environment = shares_of articles kind (drop (i + 1) es) in
    let cut : drop i es ≡ e ∷ drop (i + 1) es = drop-named_split es i e at in
    (λ j. joined (now_is j) rest) ∙
    (joined_assoc out (shares articles kind (at_start e.name.number) e.items) rest ∙
    (sym (λ j. joined out (shares_of articles kind (cut j))) ∙ goes))

pub told_articles : (articles : List Name) (kind : DirectiveKind) (es : List Export) (i : ℕ) (out whole : Environment) → length es ≤ i → joined out (shares_of articles kind (drop i es)) ≡ whole → out ≡ whole
told_articles articles kind es i out whole past goes =
    sym (joined_none out) ∙ (sym (λ j. joined out (shares_of articles kind (drop_all i es past j))) ∙ goes)

pub ruleset article_rules = (told_article, told_articles)

-- of the loop over whole items
pub told_whole : (xs : List Item) (i : ℕ) (x : Item) (out now whole : Environment) (at next : Numbering) → i < length xs → x ≡ get_or xs i x → now ≡ joined out (of_item at x) → next ≡ numbered at x → joined out (wholes at (drop i xs)) ≡ whole → joined now (wholes next (drop (i + 1) xs)) ≡ whole
told_whole xs i x out now whole at next lt is now_is next_is goes =
    let rest : Environment = wholes (numbered at x) (drop (i + 1) xs) in
    let cut : drop i xs ≡ x ∷ drop (i + 1) xs = drop-split xs i x lt is in
    (λ j. joined (now_is j) (wholes (next_is j) (drop (i + 1) xs))) ∙
    (joined_assoc out (of_item at x) rest ∙
    (sym (λ j. joined out (wholes at (cut j))) ∙ goes))

pub told_wholes : (xs : List Item) (i : ℕ) (out whole : Environment) (at : Numbering) → length xs ≤ i → joined out (wholes at (drop i xs)) ≡ whole → out ≡ whole
told_wholes xs i out whole at past goes =
    sym (joined_none out) ∙ (sym (λ j. joined out (wholes at (drop_all i xs past j))) ∙ goes)

pub ruleset whole_rules = (told_whole, told_wholes)
