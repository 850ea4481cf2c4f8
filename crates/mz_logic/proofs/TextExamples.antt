-- Texts of some terms and formulas.
use Rattle.std.proofs.Common.{◌≡◌, [], ◌∷◌, refl}
use Rattle.mz_logic.specs.Text.{article_text}

-- 72 * 256 + 73, the name `HI`
article_text-name_HI : article_text 18505 ≡ 72 ∷ 73 ∷ []
article_text-name_HI = refl
