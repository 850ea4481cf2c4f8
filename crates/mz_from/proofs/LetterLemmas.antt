-- What the code of letters tells.
use Rattle.std.proofs.Common.{◌≡◌, List, [], ◌∷◌, refl, sym, ap, ◌∙◌, subst, Bool, true, false, length, arith, Option, Some, None}
use Rattle.std.specs.Prelude.{◌↔◌, IsTrue, ◌&&◌}
use Rattle.std.specs.List.{list_all}
use Rattle.mz_following.specs.TypeInstance.{is_letterless}
use Rattle.std.proofs.lemmas.Bool.{false≢true}
use Rattle.mz_std_laws.proofs.Truth.{not_both}
use Rattle.mz_logic.specs.Term.{Term}
use Rattle.mz_logic.specs.Letters.{term_for}
use Rattle.mz_logic.specs.declared.sym.Sym.{Sym}
use Rattle.mz_logic.specs.declared.letters.Letter.{Letter}
use Rattle.mz_core.specs.declared.soft_type.SoftType.{SoftType}
use Rattle.mz_core.specs.declared.scheme.SchemeLetter.{SchemeLetter}
use Rattle.mz_core.specs.declared.scheme.SchemeLetter.TheVariants.{OfFunctor}
use Rattle.mz_context.specs.declared.constants.Constant.{Constant}
use Rattle.mz_ground.specs.declared.clause.Clause.{Clause}
use Rattle.mz_from.specs.Letters.{FitsOver, IsFixed, LetterFits, LettersFit, is_fixed, fixed_among}

-- a functor letter
pub told_unfixed : (cs : List Clause) (ks : List (Option Constant)) (ls : List Letter) (s : Sym) (places : List SoftType) (ty : SoftType) (o : Option Term) → o ≡ term_for s ls → o ≡ None → IsTrue false ↔ LetterFits cs ks ls (OfFunctor s places ty)
told_unfixed cs ks ls s places ty o eo en =
    (λ x. absurd (false≢true x), λ h. absurd (subst IsFixed (sym eo ∙ en) h.0))

is_there : (o : Option Term) (t : Term) → o ≡ Some t → IsFixed o
is_there o t e = subst IsFixed (sym e) tt

pub told_fixed : (cs : List Clause) (ks : List (Option Constant)) (ls : List Letter) (s : Sym) (places : List SoftType) (ty : SoftType) (t : Term) (o : Option Term) (a b c : Bool) → o ≡ term_for s ls → o ≡ Some t → a ≡ is_letterless ty → b ≡ list_all is_letterless places → a && b ≡ true → IsTrue c ↔ FitsOver cs ls s ty ks [] places → IsTrue c ↔ LetterFits cs ks ls (OfFunctor s places ty)
told_fixed cs ks ls s places ty t o a b c eo es ea eb h i =
    (λ x. (is_there (term_for s ls) t (sym eo ∙ es), (λ j. sym ea j && sym eb j) ∙ h, i.0 x), λ k. i.1 k.2)

pub told_with_letters : (cs : List Clause) (ks : List (Option Constant)) (ls : List Letter) (s : Sym) (places : List SoftType) (ty : SoftType) (a b : Bool) → a ≡ is_letterless ty → b ≡ list_all is_letterless places → a && b ≡ false → IsTrue false ↔ LetterFits cs ks ls (OfFunctor s places ty)
told_with_letters cs ks ls s places ty a b ea eb h =
    (λ x. absurd (false≢true x), λ k. absurd (not_both (a && b) h ((λ j. ea j && eb j) ∙ k.1)))

pub ruleset letter_rules = (told_unfixed, told_fixed, told_with_letters)

-- one letter after another
pub told_unfit : (cs : List Clause) (ks : List (Option Constant)) (ls : List Letter) (x : SchemeLetter) (xs rest all : List SchemeLetter) (b : Bool) → rest ≡ x ∷ xs → IsTrue b ↔ LetterFits cs ks ls x → b ≡ false → LettersFit cs ks ls rest ↔ LettersFit cs ks ls all → IsTrue false ↔ LettersFit cs ks ls all
told_unfit cs ks ls x xs rest all b er i eb w =
    (λ y. absurd (false≢true y), λ h. absurd (not_both b eb (i.1 (subst (LettersFit cs ks ls) er (w.1 h)).0)))

pub told_next : (cs : List Clause) (ks : List (Option Constant)) (ls : List Letter) (x : SchemeLetter) (xs rest all : List SchemeLetter) (b : Bool) → rest ≡ x ∷ xs → IsTrue b ↔ LetterFits cs ks ls x → b ≡ true → LettersFit cs ks ls rest ↔ LettersFit cs ks ls all → LettersFit cs ks ls xs ↔ LettersFit cs ks ls all
told_next cs ks ls x xs rest all b er i eb w =
    (λ h. w.0 (subst (LettersFit cs ks ls) (sym er) (i.0 eb, h)), λ h. (subst (LettersFit cs ks ls) er (w.1 h)).1)

empty : (xs : List SchemeLetter) → length xs ≡ 0 → xs ≡ []
empty [] h = refl
empty (x ∷ xs) h = absurd (omega (arith, h))

pub told_all : (cs : List Clause) (ks : List (Option Constant)) (ls : List Letter) (rest all : List SchemeLetter) → rest ≡ [] → LettersFit cs ks ls rest ↔ LettersFit cs ks ls all → IsTrue true ↔ LettersFit cs ks ls all
told_all cs ks ls rest all er w = (λ y. w.0 (subst (LettersFit cs ks ls) (sym er) tt), λ h. refl)

pub ruleset letters_rules = (told_unfit, told_next, told_all)

-- those that are fixed first
fixed_first : (fs : List Letter) (x : SchemeLetter) (xs : List SchemeLetter) → is_fixed fs x ≡ true → fixed_among fs (x ∷ xs) ≡ x ∷ fixed_among fs xs
fixed_first fs x xs e = rw e refl

not_fixed_first : (fs : List Letter) (x : SchemeLetter) (xs : List SchemeLetter) → is_fixed fs x ≡ false → fixed_among fs (x ∷ xs) ≡ fixed_among fs xs
not_fixed_first fs x xs e = rw e refl

pub told_fixed_unfit : (cs : List Clause) (ks : List (Option Constant)) (fs ls : List Letter) (x : SchemeLetter) (xs rest all : List SchemeLetter) (f b : Bool) → rest ≡ x ∷ xs → f ≡ is_fixed fs x → f ≡ true → IsTrue b ↔ LetterFits cs ks ls x → b ≡ false → LettersFit cs ks ls (fixed_among fs rest) ↔ LettersFit cs ks ls (fixed_among fs all) → IsTrue false ↔ LettersFit cs ks ls (fixed_among fs all)
told_fixed_unfit cs ks fs ls x xs rest all f b er ef et i eb w =
    told_unfit cs ks ls x (fixed_among fs xs) (fixed_among fs rest) (fixed_among fs all) b (ap (fixed_among fs) er ∙ fixed_first fs x xs (sym ef ∙ et)) i eb w

pub told_fixed_next : (cs : List Clause) (ks : List (Option Constant)) (fs ls : List Letter) (x : SchemeLetter) (xs rest all : List SchemeLetter) (f b : Bool) → rest ≡ x ∷ xs → f ≡ is_fixed fs x → f ≡ true → IsTrue b ↔ LetterFits cs ks ls x → b ≡ true → LettersFit cs ks ls (fixed_among fs rest) ↔ LettersFit cs ks ls (fixed_among fs all) → LettersFit cs ks ls (fixed_among fs xs) ↔ LettersFit cs ks ls (fixed_among fs all)
told_fixed_next cs ks fs ls x xs rest all f b er ef et i eb w =
    told_next cs ks ls x (fixed_among fs xs) (fixed_among fs rest) (fixed_among fs all) b (ap (fixed_among fs) er ∙ fixed_first fs x xs (sym ef ∙ et)) i eb w

pub told_passed : (cs : List Clause) (ks : List (Option Constant)) (fs ls : List Letter) (x : SchemeLetter) (xs rest all : List SchemeLetter) (f : Bool) → rest ≡ x ∷ xs → f ≡ is_fixed fs x → f ≡ false → LettersFit cs ks ls (fixed_among fs rest) ↔ LettersFit cs ks ls (fixed_among fs all) → LettersFit cs ks ls (fixed_among fs xs) ↔ LettersFit cs ks ls (fixed_among fs all)
told_passed cs ks fs ls x xs rest all f er ef et w =
    subst (λ ys. LettersFit cs ks ls ys ↔ LettersFit cs ks ls (fixed_among fs all)) (ap (fixed_among fs) er ∙ not_fixed_first fs x xs (sym ef ∙ et)) w

pub told_fixed_all : (cs : List Clause) (ks : List (Option Constant)) (fs ls : List Letter) (rest all : List SchemeLetter) → rest ≡ [] → LettersFit cs ks ls (fixed_among fs rest) ↔ LettersFit cs ks ls (fixed_among fs all) → IsTrue true ↔ LettersFit cs ks ls (fixed_among fs all)
told_fixed_all cs ks fs ls rest all er w = (λ y. w.0 (subst (λ ys. LettersFit cs ks ls (fixed_among fs ys)) (sym er) tt), λ h. refl)

pub ruleset fixed_rules = (told_fixed_unfit, told_fixed_next, told_passed, told_fixed_all)
