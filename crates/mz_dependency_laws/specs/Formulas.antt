-- What exports say, as formulas: what their items grant, and the sequents that they owe.
use Rattle.std.specs.Prelude.{List, [], ◌∷◌, ◌++◌, map, flat_map}
use Rattle.mz_logic.specs.Formula.{Formula}
use Rattle.mz_logic.specs.Connectives.{implies}
use Rattle.mz_logic.specs.declared.sequent.Sequent.{Sequent}
use Rattle.mz_core.specs.declared.item.Item.{Item}
use Rattle.mz_core.specs.declared.outcome.Export.{Export}
use Rattle.mz_items.specs.Items.{owes, grants}
use Rattle.mz_env_laws.specs.DerivedLaws.{AreSaid, AllOwedDerive}

-- each premise implies what comes of the others, in the end the formula
abbrev pub premises_imply : List Formula → Formula → Formula
premises_imply [] f = f
premises_imply (p ∷ ps) f = implies p (premises_imply ps f)

-- the premises imply the conclusion; where there are none it is the conclusion itself
abbrev pub sequent_formula : Sequent → Formula
sequent_formula q = premises_imply q.premises q.conclusion

-- what an item grants, and what it owes
abbrev pub item_formulas : Item → List Formula
item_formulas x = grants x ++ map sequent_formula (owes x)

-- what the items of an article grant and owe, in the items' order
abbrev pub formulas_of : Export → List Formula
formulas_of e = flat_map item_formulas e.items

-- from what exports say as axioms, all derives that their items grant and owe
abbrev pub FormulasLaw : Type 0
FormulasLaw =
    (exports : List Export) → ((premises : List Formula) → AreSaid (flat_map formulas_of exports) premises exports) × AllOwedDerive (flat_map formulas_of exports) exports
