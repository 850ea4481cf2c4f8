use Rattle.std.proofs.Common.{◌≡◌, List, [], ◌∷◌, subst, refl, length, arith, rules}
use Rattle.mz_marks.specs.declared.token_class.TokenClass.{TokenClass}
use Rattle.mz_base.specs.declared.token.Mark.{Mark}
use Rattle.mz_marks.specs.Marks.{AreMarks}
use Rattle.mz_marks.proofs.SuffixLemmas.{marks_from-on_end}
use Rattle.mz_marks.proofs.MarkAll.{marks_right}
use Rattle.mz_marks.proofs.marks.marks_of.Goals as goal

is_nil : (s : List TokenClass) → length s ≡ 0 → s ≡ []
is_nil [] e = refl
is_nil (r ∷ s) e = absurd (omega arith)

pub returns : goal.returns
returns c =
    let n : length c.on.rest.now ≡ 0 = search rules in
    let A : List Mark → Type 0 = λ z. AreMarks c.args.classes.now z in
    subst A (marks_from-on_end _ _ _ _ _ c.on.invariant (is_nil _ n)) (marks_right c.args.classes.now)
