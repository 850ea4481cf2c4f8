-- A chain on which goes, besides its signs, what goes on its last member.
use Rattle.std.specs.Prelude.{Bool, false, List, [], ◌∷◌, ◌||◌}
use Rattle.mz_forms.specs.Form.{Form}
use Rattle.mz_forms.specs.Chain.{Links, spell_chain, levels_chain, each_chain, AreLinked}

abbrev pub last_goes : {Token : Type 0} (L : Links Token) → List (L.Sign × L.Member.Tree) → Token → Bool
last_goes L [] t = false
last_goes L (p ∷ []) t = L.Member.goes p.1 t
last_goes L (p ∷ (q ∷ ps)) t = last_goes L (q ∷ ps) t

-- the chain behind what says this, where the links' `goes` has the signs alone
abbrev pub row : {Token : Type 0} (L : Links Token) → L.State → Form Token
row L st = record {
  Tree = List (L.Sign × L.Member.Tree);
  spell = spell_chain L;
  levels = levels_chain L;
  each = each_chain L;
  IsTree = AreLinked L st;
  goes = λ ps t. L.goes t || last_goes L ps t;
}
