-- The text of a listing.
use Rattle.std.specs.Prelude.{ℕ, suc, Bool, List, [], ◌∷◌, ◌++◌, Option, Some, None, codes, find, ◌==◌}
use Rattle.std.specs.List.{flat_map}
use Rattle.std.specs.Fmt.{decimal}
use Rattle.mz_base.specs.Name.{text_of}
use Rattle.mz_base.specs.declared.name.Name.{Name}
use Rattle.mz_logic.specs.declared.sequent.Sequent.{Sequent}
use Rattle.mz_logic.specs.Formula.{Formula}
use Rattle.mz_logic.specs.Text.{formula_text}
use Rattle.mz_core.specs.declared.outcome.Export.{Export}
use Rattle.mz_core.specs.declared.item.Item.{Item}
use Rattle.mz_core.specs.declared.item.Item.TheVariants.{Axiom, AxiomScheme, Primitive, Theorem, Scheme, FunctorMeans, FunctorEquals, Predicate, Attribute, ModeMeans, Abbreviation, Notation, RedefinedFunctor, RedefinedMode, RedefinedPredicate, RedefinedAttribute, Property, Existential, Conditional, Functorial, Reduction, Identification, Structure, SetTerm, Choice}
use Rattle.mz_items.specs.Items.{owes, grants}
use Rattle.mz_corpus.specs.declared.ordering.Ordering.{Ordering}

-- the word for an item's kind
abbrev pub kind_text : Item → List ℕ
kind_text (Axiom s) = codes "theorem"
kind_text (AxiomScheme s) = codes "scheme"
kind_text (Primitive n) = codes "notation"
kind_text (Theorem s) = codes "theorem"
kind_text (Scheme s) = codes "scheme"
kind_text (FunctorMeans d) = codes "func"
kind_text (FunctorEquals d) = codes "func"
kind_text (Predicate d) = codes "pred"
kind_text (Attribute d) = codes "attr"
kind_text (ModeMeans d) = codes "mode"
kind_text (Abbreviation n) = codes "abbreviation"
kind_text (Notation n) = codes "notation"
kind_text (RedefinedFunctor d) = codes "redefine"
kind_text (RedefinedMode d) = codes "redefine"
kind_text (RedefinedPredicate d) = codes "redefine"
kind_text (RedefinedAttribute d) = codes "redefine"
kind_text (Property p) = codes "property"
kind_text (Existential r) = codes "registration"
kind_text (Conditional r) = codes "registration"
kind_text (Functorial r) = codes "registration"
kind_text (Reduction r) = codes "registration"
kind_text (Identification r) = codes "registration"
kind_text (Structure s) = codes "struct"
kind_text (SetTerm s) = codes "func"
kind_text (Choice c) = codes "func"

-- `NAME ITEM `
abbrev pub head_text : Name → ℕ → List ℕ
head_text name number = text_of name.number ++ codes " " ++ decimal number ++ codes " "

-- `, P`
abbrev pub further_text : Formula → List ℕ
further_text f = codes ", " ++ formula_text f

-- `P1, P2 `; nothing without premises
abbrev pub premises_text : List Formula → List ℕ
premises_text [] = []
premises_text (f ∷ fs) = formula_text f ++ flat_map further_text fs ++ codes " "

-- `NAME ITEM KIND P1, P2 |- F`
abbrev pub owed_line : List ℕ → List ℕ → Sequent → List ℕ
owed_line head kind s = head ++ kind ++ codes " " ++ premises_text s.premises ++ codes "|- " ++ formula_text s.conclusion ++ codes "\n"

-- `NAME ITEM grant F`
abbrev pub grant_line : List ℕ → Formula → List ℕ
grant_line head f = head ++ codes "grant " ++ formula_text f ++ codes "\n"

-- the lines of what an item owes, and then of what it grants
abbrev pub item_lines : Name → ℕ → Item → List ℕ
item_lines name number item =
    flat_map (owed_line (head_text name number) (kind_text item)) (owes item) ++ flat_map (grant_line (head_text name number)) (grants item)

-- the lines of the items, which are numbered from this number on
abbrev pub items_lines : Name → ℕ → List Item → List ℕ
items_lines name number [] = []
items_lines name number (item ∷ items) = item_lines name number item ++ items_lines name (suc number) items

-- the lines of an article's items, numbered from 1
abbrev pub export_lines : Export → List ℕ
export_lines e = items_lines e.name 1 e.items

abbrev pub is_export_of : Name → Export → Bool
is_export_of n e = n.number == e.name.number

abbrev pub lines_of_export : Option Export → List ℕ
lines_of_export None = []
lines_of_export (Some e) = export_lines e

-- the lines of the article of this name; none where it has no export
abbrev pub named_lines : List Export → Name → List ℕ
named_lines es n = lines_of_export (find (is_export_of n) es)

-- the lines of the articles in the order, and then of those of the rest
abbrev pub listing_text : Ordering → List Export → List ℕ
listing_text o es = flat_map (named_lines es) o.order ++ flat_map (named_lines es) o.rest
